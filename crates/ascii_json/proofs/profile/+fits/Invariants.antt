use Rattle.std.proofs.Common.{drop, string_cmp}
use Rattle.std.specs.List.Sorted.{IsStrictlySortedBy}
use Rattle.std.specs.Map.{keys_of}
use Rattle.serde_json.specs.View.{items_view, members_view}
use Rattle.ascii_json.specs.Profile.{ItemsFitWithin, MembersFitWithin}
use Rattle.ascii_json.specs.Representable.{ItemsAreRepresentable, MembersAreRepresentable}
use Rattle.ascii_json.proofs.profile.+fits.Given as goal

-- what is left decides
abbrev pub invariant-items_fit_within-loop-item : goal.invariant-items_fit_within-loop-item
invariant-items_fit_within-loop-item l =
    (ItemsFitWithin l.most (items_view (drop l.item-index l.item-items)) → ItemsFitWithin l.most (items_view l.item-items))
    × (ItemsFitWithin l.most (items_view l.item-items) → ItemsFitWithin l.most (items_view (drop l.item-index l.item-items)))
    × (ItemsAreRepresentable (items_view (drop l.item-index l.item-items)) → ItemsAreRepresentable (items_view l.item-items))

abbrev pub invariant-members_fit_within-loop-key : goal.invariant-members_fit_within-loop-key
invariant-members_fit_within-loop-key l =
    (goal.iterator-members_fit_within-loop-key).can_next l._key-iterator
    × (goal.iterator-members_fit_within-loop-key).is_finite l._key-iterator
    × (MembersFitWithin l.most (members_view l._key-iterator) → MembersFitWithin l.most (members_view l.members.entries))
    × (MembersFitWithin l.most (members_view l.members.entries) → MembersFitWithin l.most (members_view l._key-iterator))
    × (MembersAreRepresentable (members_view l._key-iterator) → MembersAreRepresentable (members_view l.members.entries))
    × IsStrictlySortedBy string_cmp (keys_of l._key-iterator)
