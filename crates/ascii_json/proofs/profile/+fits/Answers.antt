use Rattle.std.proofs.Common.{◌≡◌, ℕ, List, [], ◌∷◌, String, Global, Less, string_bytes, string_cmp, refl, sym, subst, arith, rules}
use Rattle.std.proofs.lemmas.Bool.{or_parts}
use Rattle.std.proofs.lemmas.Str.{IsUtf8-string_bytes}
use Rattle.std.specs.List.{AllByRecursion}
use Rattle.std.specs.List.Sorted.{IsStrictlySortedBy}
use Rattle.std.specs.Map.{keys_of}
use Rattle.serde_json.specs.View.{view, members_view}
use Rattle.serde_json.specs.Written.{has_float}
use Rattle.serde_json.proofs.Views.{Entry}
use Rattle.ascii_json.specs.Profile.{FitsWithin, MembersFitWithin}
use Rattle.ascii_json.specs.Representable.{AllKeysAfter, IsRepresentable, MembersAreRepresentable}
use Rattle.ascii_json.proofs.profile.+fits.Goals as goal

after_keys : (k : String Global) (es : List Entry) → AllByRecursion (λ y. string_cmp k y ≡ Less) (keys_of es) → AllKeysAfter (string_bytes k) (members_view es)
after_keys k [] h = tt
after_keys k (e ∷ es) h = (h.0, after_keys k es h.1)

fit_more : (most : ℕ) (e : Entry) (es : List Entry) → FitsWithin most (view e.1) → MembersFitWithin most (members_view es) → MembersFitWithin most (members_view (e ∷ es))
fit_more most e es f h = (rw (f.0, h.0) refl, omega arith)

fit_less : (most : ℕ) (e : Entry) (es : List Entry) → MembersFitWithin most (members_view (e ∷ es)) → MembersFitWithin most (members_view es)
fit_less most e es h = ((or_parts (has_float (view e.1)) _ h.0).1, omega arith)

below_first : (e : Entry) (es : List Entry) → IsStrictlySortedBy string_cmp (keys_of (e ∷ es)) → AllKeysAfter (string_bytes e.0) (members_view es) × IsStrictlySortedBy string_cmp (keys_of es)
unfolding IsStrictlySortedBy
below_first e es h = (after_keys e.0 es h.0, h.1)

pub members_fit_within-loop-key-preserved : goal.members_fit_within-loop-key-preserved
members_fit_within-loop-key-preserved t c =
    let l = c.loop-key in
    let most = c.args.most in
    let e : Entry = (c.in-Some._key.now, c.in-Some.member.now) in
    let left = c.next.new.self in
    let step : l._key-iterator ≡ e ∷ left = c.in-Some.ensures.steps in
    let fits : FitsWithin most (view e.1) = search rules in
    let is_representable : IsRepresentable (view e.1) = search rules in
    let order = below_first e left (subst (λ es. IsStrictlySortedBy string_cmp (keys_of es)) step l.invariant.5) in (
      tt,
      tt,
      λ h. l.invariant.2 (subst (λ es. MembersFitWithin most (members_view es)) (sym step) (fit_more most e left fits h)),
      λ h. fit_less most e left (subst (λ es. MembersFitWithin most (members_view es)) step (l.invariant.3 h)),
      λ h. l.invariant.4 (subst (λ es. MembersAreRepresentable (members_view es)) (sym step) (IsUtf8-string_bytes e.0, is_representable, order.0, h)),
      order.1,
    )
