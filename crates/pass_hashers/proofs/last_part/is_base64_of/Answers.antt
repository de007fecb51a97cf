use Rattle.std.proofs.Common.{◌≡◌, length}
use Rattle.base64.specs.Engines.{standard}
use Rattle.base64.specs.GeneralPurpose.{encoded_size_of}
use Rattle.pass_hashers.proofs.LastPartLemmas.{compared_with_encoding, encoded_size_of-short}
use Rattle.pass_hashers.proofs.last_part.is_base64_of.Goals as goal

pub returns-in-Ok : goal.returns-in-Ok
returns-in-Ok c =
    let fits = c.in-Ok.ensures.fits (encoded_size_of-short standard (length c.args.digest.now) c.requires) in
    let size : c.in-Ok.size ≡ encoded_size_of standard (length c.args.digest.now) = cc fits in
    compared_with_encoding standard c.args.digest.now c.args.text.now _ _ c.in-Ok.size c.same.result c.in-Ok.ensures.written size c.same.ensures
