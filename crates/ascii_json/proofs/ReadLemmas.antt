-- What was read is representable: its numbers have 64 bits, and its keys ascend.
use Rattle.std.proofs.Common.{◌≡◌, ℕ, zero, suc, ◌^◌, ◌<◌, ◌≤◌, pos, negsuc, Bool, true, false, cond, ◌&&◌, ◌==◌, nat_lt, nat_le, List, drop, slice_index, Option, Some, None, option_map, option_and_then, IsUtf8, Ordering, Less, Equal, Greater, nat_cmp, ltb-true, leb-true, refl, ap, ◌∙◌, subst, arith}
use Rattle.std.specs.Prelude.{⊤}
use Rattle.std.proofs.lemmas.Bool.{and_parts, or_parts}
use Rattle.std.proofs.lemmas.Cmp.{nat_list_cmp_total}
use Rattle.std.specs.Cmp.Lexicographic.{slice_cmp}
use Rattle.std.specs.Ordering.{match_ordering, ordering_reverse}
use Rattle.fast_float.specs.Text.{minus, Parts, scan, digits_of, with_sign}
use Rattle.json.specs.Json as json
use Rattle.json.specs.Lex.{tokens}
use Rattle.serde_json.specs.Data.{Num, unsigned, negative, float, Data, null, boolean, number, string, array, object, Items, no_items, item, Members, no_members, member, put}
use Rattle.serde_json.specs.Read.{read, number_of, number_from, is_integer, of_json, of_items, of_members, max_depth}
use Rattle.serde_json.specs.Written.{has_float, items_have_float, members_have_float}
use Rattle.ascii_json.specs.Representable.{IsWholeNumber, AllKeysAfter, IsRepresentable, ItemsAreRepresentable, MembersAreRepresentable}
use Rattle.ascii_json.proofs.HasTexts.{HasTexts, ItemsHaveTexts, MembersHaveTexts}

-- the part of `IsRepresentable` that reading gives to each value, floats included
abbrev FitsOrFloat : Num → Type 0
FitsOrFloat (unsigned n) = n < 2 ^ 64
FitsOrFloat (negative (pos n)) = ⊥
FitsOrFloat (negative (negsuc n)) = n < 2 ^ 63
FitsOrFloat (float x) = ⊤

abbrev mutual
  InOrder : Data → Type 0
  InOrder null = ⊤
  InOrder (boolean b) = ⊤
  InOrder (number n) = FitsOrFloat n
  InOrder (string s) = ⊤
  InOrder (array ds) = ItemsInOrder ds
  InOrder (object ms) = MembersInOrder ms

  ItemsInOrder : Items → Type 0
  ItemsInOrder no_items = ⊤
  ItemsInOrder (item d ds) = InOrder d × ItemsInOrder ds

  MembersInOrder : Members → Type 0
  MembersInOrder no_members = ⊤
  MembersInOrder (member k d ms) = InOrder d × AllKeysAfter k ms × MembersInOrder ms

-- ---- `put` keeps the order

after_all : (k l : List ℕ) (ms : Members) → slice_cmp nat_cmp k l ≡ Less → AllKeysAfter l ms → AllKeysAfter k ms
after_all k l no_members e h = tt
after_all k l (member m d ms) e h = (nat_list_cmp_total.trans k l m e h.0, after_all k l ms e h.1)

put_after_at : (o : Ordering) (x k l : List ℕ) (d f : Data) (ms : Members) → slice_cmp nat_cmp x k ≡ Less → AllKeysAfter x (member l f ms) → AllKeysAfter x (put k d ms)
    → AllKeysAfter x (match_ordering o (member k d (member l f ms)) (member l d ms) (member l f (put k d ms)))
put_after_at Less x k l d f ms e h rest = (e, h)
put_after_at Equal x k l d f ms e h rest = h
put_after_at Greater x k l d f ms e h rest = (h.0, rest)

put_after : (x k : List ℕ) (d : Data) (ms : Members) → slice_cmp nat_cmp x k ≡ Less → AllKeysAfter x ms → AllKeysAfter x (put k d ms)
put_after x k d no_members e h = (e, tt)
put_after x k d (member l f ms) e h = put_after_at (slice_cmp nat_cmp k l) x k l d f ms e h (put_after x k d ms e h.1)

put_in_order_at : (o : Ordering) (k l : List ℕ) (d f : Data) (ms : Members) → slice_cmp nat_cmp k l ≡ o → InOrder d → MembersInOrder (member l f ms) → MembersInOrder (put k d ms)
    → MembersInOrder (match_ordering o (member k d (member l f ms)) (member l d ms) (member l f (put k d ms)))
put_in_order_at Less k l d f ms e i h rest = (i, (e, after_all k l ms e h.1), h)
put_in_order_at Equal k l d f ms e i h rest = (i, h.1, h.2)
put_in_order_at Greater k l d f ms e i h rest =
    let below : slice_cmp nat_cmp l k ≡ Less = nat_list_cmp_total.antisymm l k ∙ ap ordering_reverse e in
    (h.0, put_after l k d ms below h.1, rest)

pub put_in_order : (k : List ℕ) (d : Data) (ms : Members) → InOrder d → MembersInOrder ms → MembersInOrder (put k d ms)
put_in_order k d no_members i h = (i, tt, tt)
put_in_order k d (member l f ms) i h = put_in_order_at (slice_cmp nat_cmp k l) k l d f ms refl i h (put_in_order k d ms i h.2)

-- ---- numbers

some_if : (b : Bool) (m n : Num) (o : Option Num) → (b ≡ true → FitsOrFloat m) → (o ≡ Some n → FitsOrFloat n) → cond b (Some m) o ≡ Some n → FitsOrFloat n
some_if true m n o h k e = let same : m ≡ n = cc in subst FitsOrFloat same (h refl)
some_if false m n o h k e = k e

float_fits : (b : Bool) (x : Num) (n : Num) → FitsOrFloat x → cond b (Some x) None ≡ Some n → FitsOrFloat n
float_fits true x n h e = let same : x ≡ n = cc in subst FitsOrFloat same h
float_fits false x n h e = absurd (cc)

negative_fits : (d : ℕ) → 0 < d → d ≤ 2 ^ 63 → FitsOrFloat (negative (with_sign true d))
negative_fits zero some most = absurd (omega arith)
negative_fits (suc d) some most = omega arith

number_fits : (sign : Bool) (p : Parts) (n : Num) → number_from sign p ≡ Some n → FitsOrFloat n
number_fits false p n e = some_if (is_integer p && nat_lt (digits_of p) (2 ^ 64)) _ n _ (λ t. ltb-true _ _ (and_parts _ _ t).1) (float_fits _ _ n tt) e
number_fits true p n e =
    some_if (is_integer p && nat_lt 0 (digits_of p) && nat_le (digits_of p) (2 ^ 63)) _ n _
    (λ t. let both = and_parts (is_integer p && nat_lt 0 (digits_of p)) _ t in negative_fits (digits_of p) (ltb-true _ _ (and_parts _ _ both.0).1) (leb-true _ _ both.1))
    (float_fits _ _ n tt) e

either_fits : (b : Bool) (p q : Parts) (n : Num) → cond b (number_from true p) (number_from false q) ≡ Some n → FitsOrFloat n
either_fits true p q n e = number_fits true p n e
either_fits false p q n e = number_fits false q n e

number_read : (s : List ℕ) (n : Num) → number_of s ≡ Some n → FitsOrFloat n
unfolding number_of
number_read s n e = either_fits (slice_index s 0 == minus) (scan (drop 1 s)) (scan s) n e

-- ---- values

then_some : {A B : Type 0} (f : A → Option B) (o : Option A) (b : B) → option_and_then f o ≡ Some b → (a : A) × (o ≡ Some a) × (f a ≡ Some b)
then_some f None b e = absurd (cc)
then_some f (Some a) b e = (a, refl, e)

map_some : {A B : Type 0} (f : A → B) (o : Option A) (b : B) → option_map f o ≡ Some b → (a : A) × (o ≡ Some a) × (f a ≡ b)
map_some f None b e = absurd (cc)
map_some f (Some a) b e = (a, refl, cc)

mutual
  read_in_order : (j : json.Json) (d : Data) → of_json j ≡ Some d → InOrder d
  read_in_order json.null d e = let same : null ≡ d = cc in subst InOrder same tt
  read_in_order (json.boolean b) d e = let same : boolean b ≡ d = cc in subst InOrder same tt
  read_in_order (json.number s) d e = let m = map_some number (number_of s) d e in subst InOrder m.2 (number_read s m.0 m.1)
  read_in_order (json.string s) d e = let same : string s ≡ d = cc in subst InOrder same tt
  read_in_order (json.array js) d e = let m = map_some array (of_items js) d e in subst InOrder m.2 (items_in_order js m.0 m.1)
  read_in_order (json.object ms) d e = let m = map_some object (of_members ms no_members) d e in subst InOrder m.2 (members_in_order ms no_members m.0 tt m.1)

  items_in_order : (js : json.Items) (ds : Items) → of_items js ≡ Some ds → ItemsInOrder ds
  items_in_order json.no_items ds e = let same : no_items ≡ ds = cc in subst ItemsInOrder same tt
  items_in_order (json.item j js) ds e =
      let first = then_some (λ d. option_map (item d) (of_items js)) (of_json j) ds e in
      let rest = map_some (item first.0) (of_items js) ds first.2 in
      subst ItemsInOrder rest.2 (read_in_order j first.0 first.1, items_in_order js rest.0 rest.1)

  members_in_order : (ms : json.Members) (found out : Members) → MembersInOrder found → of_members ms found ≡ Some out → MembersInOrder out
  members_in_order json.no_members found out h e = let same : found ≡ out = cc in subst MembersInOrder same h
  members_in_order (json.member k j ms) found out h e =
      let first = then_some (λ d. of_members ms (put k d found)) (of_json j) out e in
      members_in_order ms (put k first.0 found) out (put_in_order k first.0 found (read_in_order j first.0 first.1) h) first.2

number_representable : (n : Num) → FitsOrFloat n → has_float (number n) ≡ false → IsWholeNumber n
number_representable (unsigned n) h f = h
number_representable (negative (pos n)) h f = h
number_representable (negative (negsuc n)) h f = h
number_representable (float x) h f = cc

mutual
  representable : (d : Data) → InOrder d → HasTexts d → has_float d ≡ false → IsRepresentable d
  representable null i t f = tt
  representable (boolean b) i t f = tt
  representable (number n) i t f = number_representable n i f
  representable (string s) i t f = t
  representable (array ds) i t f = items_representable ds i t f
  representable (object ms) i t f = members_representable ms i t f

  items_representable : (ds : Items) → ItemsInOrder ds → ItemsHaveTexts ds → items_have_float ds ≡ false → ItemsAreRepresentable ds
  items_representable no_items i t f = tt
  items_representable (item d ds) i t f = let p = or_parts (has_float d) _ f in (representable d i.0 t.0 p.0, items_representable ds i.1 t.1 p.1)

  members_representable : (ms : Members) → MembersInOrder ms → MembersHaveTexts ms → members_have_float ms ≡ false → MembersAreRepresentable ms
  members_representable no_members i t f = tt
  members_representable (member k d ms) i t f = let p = or_parts (has_float d) _ f in (t.0, representable d i.0 t.1 p.0, i.1, members_representable ms i.2 t.2 p.1)

-- what some text reads as, where its strings are text and no number is a float
pub representable_from_read : (text : List ℕ) (d : Data) → read text ≡ Some d → HasTexts d → has_float d ≡ false → IsRepresentable d
representable_from_read text d e t f = let r = then_some of_json (option_and_then (λ p. json.if_last p.0 p.1) (json.value max_depth (tokens text))) d e in representable d (read_in_order r.0 d r.2) t f

-- ---- a member more keeps an object representable

put_representable_at : (o : Ordering) (k l : List ℕ) (d f : Data) (ms : Members) → slice_cmp nat_cmp k l ≡ o → IsUtf8 k → IsRepresentable d → MembersAreRepresentable (member l f ms) → MembersAreRepresentable (put k d ms)
    → MembersAreRepresentable (match_ordering o (member k d (member l f ms)) (member l d ms) (member l f (put k d ms)))
put_representable_at Less k l d f ms e u i h rest = (u, i, (e, after_all k l ms e h.2), h)
put_representable_at Equal k l d f ms e u i h rest = (h.0, i, h.2, h.3)
put_representable_at Greater k l d f ms e u i h rest =
    let below : slice_cmp nat_cmp l k ≡ Less = nat_list_cmp_total.antisymm l k ∙ ap ordering_reverse e in
    (h.0, h.1, put_after l k d ms below h.2, rest)

pub put_representable : (k : List ℕ) (d : Data) (ms : Members) → IsUtf8 k → IsRepresentable d → MembersAreRepresentable ms → MembersAreRepresentable (put k d ms)
put_representable k d no_members u i h = (u, i, tt, tt)
put_representable k d (member l f ms) u i h = put_representable_at (slice_cmp nat_cmp k l) k l d f ms refl u i h (put_representable k d ms u i h.3)
