use Rattle.std.proofs.Common.{◌∙◌, ap, subst, sym}
use Rattle.serde_json.specs.View.{members_view, view}
use Rattle.session_codec.specs.SessionMap.{IsSession, without}
use Rattle.session_codec.proofs.MembersLemmas.{held_members, lent_session, members_lent, object_held, without_session}
use Rattle.session_codec.proofs.session_map.SessionMap.remove.Goals as goal

pub invariant_of-self : goal.invariant_of-self
invariant_of-self c =
    let before = lent_session (view c.self.inside.members) (members_view c.in-Some.members.now.entries) c.self.invariant c.in-Some.ensures.value in
    object_held c.take_member.new.members (subst IsSession (sym c.take_member.ensures) (without_session c.args.key.now (members_view c.in-Some.members.now.entries) before))

pub returns : goal.returns
returns c =
    let before = members_lent (view c.self.inside.members) (members_view c.in-Some.members.now.entries) c.self.invariant c.in-Some.ensures.value in
    held_members c.take_member.new.members ∙ c.take_member.ensures ∙ ap (without c.args.key.now) (before ∙ c.self.view_is)
