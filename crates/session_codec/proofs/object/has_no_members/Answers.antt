use Rattle.session_codec.proofs.MembersLemmas.{empty_members}
use Rattle.session_codec.proofs.object.has_no_members.Goals as goal

pub returns : goal.returns
returns c =
    let empty = empty_members c.args.members.now.entries in
    (λ is. empty.0 (c.is_empty.ensures.0 is), λ none. c.is_empty.ensures.1 (empty.1 none))
