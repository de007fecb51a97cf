use Rattle.session_codec.specs.declared.session_text.SessionKind.TheVariants.{Stored}
use Rattle.session_codec.proofs.DecodedLemmas.{encoded_decodes}
use Rattle.session_codec.proofs.laws.stored_decodes.Goals as goal

pub returns : goal.returns
returns c = λ ms signers keys time now session fits listed. encoded_decodes Stored ms signers keys time now session fits listed tt
