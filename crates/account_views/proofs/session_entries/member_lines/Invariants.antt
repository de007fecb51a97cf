use Rattle.std.proofs.Common.{◌≡◌, ◌++◌, string_bytes}
use Rattle.serde_json.specs.View.{members_view}
use Rattle.ascii_json.specs.Profile.{MembersFitWithin}
use Rattle.account_views.specs.SessionEntries.{entry_lines}
use Rattle.account_views.proofs.session_entries.member_lines.Given as goal

-- the lines so far, with those of the members that are left
abbrev pub invariant-loop-name : goal.invariant-loop-name
invariant-loop-name l = record {
  fits : MembersFitWithin 99 (members_view l.name-iterator);
  lines : string_bytes l.text ++ entry_lines (members_view l.name-iterator) ≡ entry_lines (members_view l.members.entries);
}
