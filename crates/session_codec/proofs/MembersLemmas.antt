-- What putting a member in and taking one away does to a session's members.
use Rattle.std.proofs.Common.{◌≡◌, ◌≢◌, ◌↔◌, Bool, true, false, ℕ, length, List, [], ◌∷◌, Ordering, Less, Equal, Greater, IsUtf8, String, Global, BTreeMap, None, OnErr, OnOk, Option, Some, Result, Ok, Err, string_bytes, cond, is_eq, nat_cmp, refl, ap, ◌∙◌, subst, sym, arith}
use Rattle.std.proofs.lemmas.Bool.{or_from, or_parts}
use Rattle.std.proofs.lemmas.Map.Text.{is_eq-slice_cmp}
use Rattle.std.proofs.lemmas.Option.{same_Some}
use Rattle.std.proofs.lemmas.Slice.Eq.{bytes_eq-Decides}
use Rattle.std.specs.BTreeMap.{is_at}
use Rattle.std.specs.Map.{remove_entry}
use Rattle.std.specs.Ordering.{match_ordering}
use Rattle.std.specs.Cmp.Lexicographic.{slice_cmp}
use Rattle.serde_json.specs.Data.{Data, Members, member, no_members, put}
use Rattle.serde_json.specs.Find.{as_object, get_member}
use Rattle.serde_json.specs.Written.{has_float, members_have_float}
use Rattle.serde_json.specs.View.{members_view, view}
use Rattle.serde_json.specs.declared.value.Value.{Object, Value}
use Rattle.serde_json.proofs.Views.{Entry, view-Object}
use Rattle.ascii_json.specs.Profile.{FitsWithin, MembersFitWithin}
use Rattle.ascii_json.specs.Representable.{AllKeysAfter, MembersAreRepresentable}
use Rattle.ascii_json.proofs.ReadLemmas.{put_representable}
use Rattle.session_codec.specs.SessionMap.{IsSession, IsSessionValue, without}
use Rattle.session_codec.specs.Held.{IsHeld, members_held}

-- ---- no float, and not nested too deep

fits_more : (most : ℕ) (k : List ℕ) (d : Data) (ms : Members) → FitsWithin most d → MembersFitWithin most ms → MembersFitWithin most (member k d ms)
fits_more most k d ms f h = (or_from (has_float d) (members_have_float ms) f.0 h.0, omega (arith, f.1, h.1))

fits_parts : (most : ℕ) (k : List ℕ) (d : Data) (ms : Members) → MembersFitWithin most (member k d ms) → FitsWithin most d × MembersFitWithin most ms
fits_parts most k d ms h =
    let floats = or_parts (has_float d) (members_have_float ms) h.0 in
    ((floats.0, omega (arith, h.1)), (floats.1, omega (arith, h.1)))

put_fits_at : (o : Ordering) (most : ℕ) (k l : List ℕ) (d e : Data) (ms : Members) → FitsWithin most d → FitsWithin most e → MembersFitWithin most ms → MembersFitWithin most (put k d ms)
    → MembersFitWithin most (match_ordering o (member k d (member l e ms)) (member l d ms) (member l e (put k d ms)))
put_fits_at Less most k l d e ms f g h rest = fits_more most k d (member l e ms) f (fits_more most l e ms g h)
put_fits_at Equal most k l d e ms f g h rest = fits_more most l d ms f h
put_fits_at Greater most k l d e ms f g h rest = fits_more most l e (put k d ms) g rest

put_fits : (most : ℕ) (k : List ℕ) (d : Data) (ms : Members) → FitsWithin most d → MembersFitWithin most ms → MembersFitWithin most (put k d ms)
put_fits most k d no_members f h = fits_more most k d no_members f h
put_fits most k d (member l e ms) f h =
    let parts = fits_parts most l e ms h in
    put_fits_at (slice_cmp nat_cmp k l) most k l d e ms f parts.0 parts.1 (put_fits most k d ms f parts.1)

without_fits_at : (o : Ordering) (most : ℕ) (k l : List ℕ) (d : Data) (ms : Members) → FitsWithin most d → MembersFitWithin most ms → MembersFitWithin most (without k ms)
    → MembersFitWithin most (match_ordering o (member l d (without k ms)) ms (member l d (without k ms)))
without_fits_at Less most k l d ms f h rest = fits_more most l d (without k ms) f rest
without_fits_at Equal most k l d ms f h rest = h
without_fits_at Greater most k l d ms f h rest = fits_more most l d (without k ms) f rest

without_fits : (most : ℕ) (k : List ℕ) (ms : Members) → MembersFitWithin most ms → MembersFitWithin most (without k ms)
without_fits most k no_members h = h
without_fits most k (member l d ms) h =
    let parts = fits_parts most l d ms h in
    without_fits_at (slice_cmp nat_cmp k l) most k l d ms parts.0 parts.1 (without_fits most k ms parts.1)

-- ---- representable

after_without_at : (o : Ordering) (j k l : List ℕ) (d : Data) (ms : Members) → AllKeysAfter j (member l d ms) → AllKeysAfter j (without k ms)
    → AllKeysAfter j (match_ordering o (member l d (without k ms)) ms (member l d (without k ms)))
after_without_at Less j k l d ms h rest = (h.0, rest)
after_without_at Equal j k l d ms h rest = h.1
after_without_at Greater j k l d ms h rest = (h.0, rest)

after_without : (j k : List ℕ) (ms : Members) → AllKeysAfter j ms → AllKeysAfter j (without k ms)
after_without j k no_members h = h
after_without j k (member l d ms) h = after_without_at (slice_cmp nat_cmp k l) j k l d ms h (after_without j k ms h.1)

without_representable_at : (o : Ordering) (k l : List ℕ) (d : Data) (ms : Members) → MembersAreRepresentable (member l d ms) → MembersAreRepresentable (without k ms)
    → MembersAreRepresentable (match_ordering o (member l d (without k ms)) ms (member l d (without k ms)))
without_representable_at Less k l d ms h rest = (h.0, h.1, after_without l k ms h.2, rest)
without_representable_at Equal k l d ms h rest = h.3
without_representable_at Greater k l d ms h rest = (h.0, h.1, after_without l k ms h.2, rest)

without_representable : (k : List ℕ) (ms : Members) → MembersAreRepresentable ms → MembersAreRepresentable (without k ms)
without_representable k no_members h = h
without_representable k (member l d ms) h = without_representable_at (slice_cmp nat_cmp k l) k l d ms h (without_representable k ms h.3)

-- ---- sessions

fits_within_99 : (ms : Members) → IsSession ms → MembersFitWithin 99 ms
fits_within_99 ms s = (s.0.0, omega (arith, s.0.1))

session_from : (ms : Members) → MembersFitWithin 99 ms → MembersAreRepresentable ms → IsSession ms
session_from ms f r = ((f.0, omega (arith, f.1)), r)

pub put_session : (k : List ℕ) (d : Data) (ms : Members) → IsUtf8 k → IsSessionValue d → IsSession ms → IsSession (put k d ms)
put_session k d ms u value s = session_from (put k d ms) (put_fits 99 k d ms value.0 (fits_within_99 ms s)) (put_representable k d ms u value.1 s.1)

pub without_session : (k : List ℕ) (ms : Members) → IsSession ms → IsSession (without k ms)
without_session k ms s = session_from (without k ms) (without_fits 99 k ms (fits_within_99 ms s)) (without_representable k ms s.1)

-- ---- the map below

left_at : (o : Ordering) (e : Entry) (es left : List Entry) (ms : Members) → members_view left ≡ ms
    → members_view (cond (is_eq o) es (e ∷ left)) ≡ match_ordering o (member (string_bytes e.0) (view e.1) ms) (members_view es) (member (string_bytes e.0) (view e.1) ms)
left_at Less e es left ms same = ap (member (string_bytes e.0) (view e.1)) same
left_at Equal e es left ms same = refl
left_at Greater e es left ms same = ap (member (string_bytes e.0) (view e.1)) same

-- taking an entry away is taking the member away
pub without-members_view : (name : List ℕ) (es : List Entry) → without name (members_view es) ≡ members_view (remove_entry (is_at (λ k. slice_cmp nat_cmp name (string_bytes k))) es)
without-members_view name [] = refl
without-members_view name (e ∷ es) = sym (left_at (slice_cmp nat_cmp name (string_bytes e.0)) e es _ _ (sym (without-members_view name es)))

pub ruleset taken_away = (without-members_view)

-- the object of a map that a session has is held
pub object_held : (m : BTreeMap (String Global) Value) → IsSession (members_view m.entries) → IsHeld (view (Object m))
object_held m s = rw (view-Object m) (record { held = refl; session = s })

pub held_members : (m : BTreeMap (String Global) Value) → members_held (view (Object m)) ≡ members_view m.entries
held_members m = rw (view-Object m) refl

-- the members of what is held
pub members_lent : (d : Data) (ms : Members) → IsHeld d → Some ms ≡ as_object d → ms ≡ members_held d
members_lent d ms held said = same_Some ms (members_held d) (said ∙ ap as_object held.held)

pub lent_session : (d : Data) (ms : Members) → IsHeld d → Some ms ≡ as_object d → IsSession ms
lent_session d ms held said = subst IsSession (sym (members_lent d ms held said)) held.session

-- ---- what was taken away

get_after : (k : List ℕ) (ms : Members) → AllKeysAfter k ms → get_member k ms ≡ None
get_after k no_members h = refl
get_after k (member l d ms) h = rw h.0 (get_after k ms h.1)

same_name : (k l : List ℕ) → slice_cmp nat_cmp k l ≡ Equal → k ≡ l
same_name k l is = (bytes_eq-Decides k l).0 (sym (is_eq-slice_cmp k l) ∙ ap is_eq is)

gone_at : (o : Ordering) (k l : List ℕ) (d : Data) (ms : Members) → slice_cmp nat_cmp k l ≡ o → (o ≡ Equal → get_member k ms ≡ None) → get_member k (without k ms) ≡ None
    → get_member k (match_ordering o (member l d (without k ms)) ms (member l d (without k ms))) ≡ None
gone_at Less k l d ms is last rest = rw is rest
gone_at Equal k l d ms is last rest = last refl
gone_at Greater k l d ms is last rest = rw is rest

pub taken_away_is_gone : (k : List ℕ) (ms : Members) → MembersAreRepresentable ms → get_member k (without k ms) ≡ None
taken_away_is_gone k no_members h = refl
taken_away_is_gone k (member l d ms) h =
    gone_at (slice_cmp nat_cmp k l) k l d ms refl (λ same. get_after k ms (subst (λ (j : List ℕ). AllKeysAfter j ms) (sym (same_name k l same)) h.2)) (taken_away_is_gone k ms h.3)

skipped_at : (o : Ordering) (a b : Option Data) → is_eq o ≡ false → match_ordering o a b a ≡ a
skipped_at Less a b is = refl
skipped_at Equal a b is = absurd (cc is)
skipped_at Greater a b is = refl

-- a look-up passes over another name
skipped : (q k : List ℕ) (d : Data) (ms : Members) → q ≢ k → get_member q (member k d ms) ≡ get_member q ms
skipped q k d ms other = skipped_at (slice_cmp nat_cmp q k) _ _ (at (is_eq (slice_cmp nat_cmp q k)) refl)
  where
    at : (b : Bool) → is_eq (slice_cmp nat_cmp q k) ≡ b → b ≡ false
    at true is = absurd (other ((bytes_eq-Decides q k).0 (sym (is_eq-slice_cmp q k) ∙ is)))
    at false is = refl

stay_at : (o : Ordering) (q k l : List ℕ) (d : Data) (ms : Members) → slice_cmp nat_cmp k l ≡ o → q ≢ k → get_member q (without k ms) ≡ get_member q ms
    → get_member q (match_ordering o (member l d (without k ms)) ms (member l d (without k ms))) ≡ get_member q (member l d ms)
stay_at Less q k l d ms is other rest = ap (λ r. match_ordering (slice_cmp nat_cmp q l) r (Some d) r) rest
stay_at Equal q k l d ms is other rest = sym (skipped q l d ms (λ same. other (same ∙ sym (same_name k l is))))
stay_at Greater q k l d ms is other rest = ap (λ r. match_ordering (slice_cmp nat_cmp q l) r (Some d) r) rest

pub others_stay : (q k : List ℕ) (ms : Members) → q ≢ k → get_member q (without k ms) ≡ get_member q ms
others_stay q k no_members other = refl
others_stay q k (member l d ms) other = stay_at (slice_cmp nat_cmp k l) q k l d ms refl other (others_stay q k ms other)

-- ---- a write that may fail

pub either_session : {T E : Type 0} (r : Result T E) (new written old : Members) → OnOk r (new ≡ written) → OnErr r (new ≡ old) → IsSession written → IsSession old → IsSession new
either_session (Ok x) new written old ok err s t = subst IsSession (sym ok) s
either_session (Err e) new written old ok err s t = subst IsSession (sym err) t

pub empty_members : (es : List Entry) → (length es ≡ 0) ↔ (members_view es ≡ no_members)
empty_members [] = (λ is. refl, λ is. refl)
empty_members (e ∷ es) = (λ is. absurd (omega (arith, is)), λ is. absurd (cc is))
