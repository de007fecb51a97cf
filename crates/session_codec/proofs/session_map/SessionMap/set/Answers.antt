use Rattle.std.proofs.Common.{◌≡◌, ◌∙◌, ap, rules, string_bytes}
use Rattle.std.proofs.lemmas.Result.{on_err_weaker, on_ok_weaker}
use Rattle.std.proofs.lemmas.Str.{IsUtf8-string_bytes}
use Rattle.serde_json.specs.Data.{put}
use Rattle.serde_json.specs.View.{members_view, view}
use Rattle.session_codec.proofs.MembersLemmas.{either_session, held_members, lent_session, members_lent, object_held, put_session}
use Rattle.session_codec.proofs.session_map.SessionMap.set.Goals as goal

pub invariant_of-self : goal.invariant_of-self
invariant_of-self c =
    let old = members_view c.in-Some.members.now.entries in
    let name = string_bytes c.in_ok-name.name in
    let before = lent_session (view c.self.inside.members) old c.self.invariant c.in-Some.ensures.value in
    let after = put_session name (view c.args.value) old (IsUtf8-string_bytes c.in_ok-name.name) (c.is_session_value.ensures.value.0 (search rules)) before in
    object_held c.put_member.new.members (either_session c.put_member.result _ (put name (view c.args.value) old) old c.put_member.ensures.ok c.put_member.ensures.err after before)

pub returns-clause-ok : goal.returns-clause-ok
returns-clause-ok c =
    let value = view c.args.value in
    let same : string_bytes c.in_ok-name.name ≡ c.args.key.now = c.in_ok-name.ensures.ok in
    let before = members_lent (view c.self.inside.members) (members_view c.in-Some.members.now.entries) c.self.invariant c.in-Some.ensures.value ∙ c.self.view_is in
    on_ok_weaker c.put_member.result
    (λ written. held_members c.put_member.new.members ∙ written ∙ ap (λ n. put n value (members_view c.in-Some.members.now.entries)) same ∙ ap (put c.args.key.now value) before)
    c.put_member.ensures.ok

pub returns-clause-err : goal.returns-clause-err
returns-clause-err c =
    let before = members_lent (view c.self.inside.members) (members_view c.in-Some.members.now.entries) c.self.invariant c.in-Some.ensures.value ∙ c.self.view_is in
    on_err_weaker c.put_member.result (λ kept. held_members c.put_member.new.members ∙ kept ∙ before) c.put_member.ensures.err
