-- Number, seal and compare keep the rule, and so does a wake, which changes a word that the rule leaves free.
use Rattle.std.proofs.Common.{◌≡◌, ◌≢◌, ℕ, suc, ◌+◌, ◌%◌, ◌<◌, ◌≤◌, ◌⊎◌, inl, inr, ⊎_elim, true, false, ◌-◌, bit_or, le_refl, List, [], ◌∷◌, ◌++◌, length, map, set, get_or, sym, refl, ap, ◌∙◌, subst, max, arith, le_trans, length-append, Option, Some, None}
use mathlib.Core.Option.{some}
use mathlib.Core.Logic.{dite}
use native.Mathlib.Decide.{dec_le}
use lib.ListN.{get_elem?}
use Rattle.atomic_table.specs.Table.{State, Act, keeps, Allows, Valid, carried_after, stepped}
use Rattle.atomic_table.proofs.Lists.{at_set}
use Rattle.turn_lock.specs.declared.view.View.{View}
use Rattle.turn_lock.specs.Meanings.{Meanings}
use Rattle.turn_lock.specs.Seats.{flags}
use Rattle.turn_lock.specs.Views.{in_list, if_live, number_of, gathered, held}
use Rattle.turn_lock.specs.TurnRule.{Seals, TurnRule}
use Rattle.turn_lock.specs.Steps.{SeatState, settled, Rests, unchanged, numbered, sealed_at, compared}
use Rattle.turn_lock.proofs.ListLemmas.{begins_longer}
use Rattle.turn_lock.proofs.ViewLemmas.{seals}
use Rattle.turn_lock.proofs.SeatNumbers.{alone, reserves, flags_length, get_before, set_before, set_past, read_after, set_after, flag_set, flag_again, flag_clear, flag_next, up_is, index_is, one_of, stays}
use Rattle.turn_lock.proofs.Values.{not_none}
use Rattle.turn_lock.proofs.RuleLemmas.{left_like, shut_like, numbers_with, set_read}

module _ {B E F : Type 0} (M : Meanings B E F) (seats : ℕ) where
  abbrev Numbers : (o : B) (id i : ℕ) (v : View B E) (s : State (Option B) (View B E)) → Type 0
  Numbers o id i v s = (w : View B E) × (a : Act (Option B)) × Valid s.homes [] a × TurnRule M o seats (stepped s (i + 4) (bit_or (get_or s.words (i + 4) 0) 1) id [] w a) × numbered (i + 4) (v, []) (get_or s.words (i + 4) 0) (w, carried_after [] a)

  pub numbers : (o : B) (slots id i : ℕ) (v : View B E) → v.has_turn ≡ false → v.reserved ≡ None → v.known ≡ i → i < seats → Allows (TurnRule M o seats) slots id (v, []) (i + 4) (λ n. bit_or n 1) (numbered (i + 4) (v, []))
  numbers o slots id i v not free known low s k one at small =
      let mine = k.fit id v at in
      let below : v.known ≤ k.r = k.known_low id v at in
      let few = k.few.0 in
      let inside : i < length (flags k.r seats) = let many = flags_length k.r seats few in omega arith in
      let read : get_or s.words (i + 4) 0 ≡ get_or (flags k.r seats) i 0 = ap (λ (ws : List ℕ). get_or ws (i + 4) 0) k.words_are ∙ (read_after (k.drawn % 18446744073709551616) (k.served % 18446744073709551616) k.counted k.f (flags k.r seats ++ k.sleep_words) i ∙ get_before (flags k.r seats) k.sleep_words i inside) in
      let write : set s.words (i + 4) (bit_or (get_or s.words (i + 4) 0) 1) ≡ k.drawn % 18446744073709551616 ∷ k.served % 18446744073709551616 ∷ k.counted ∷ k.f ∷ (set (flags k.r seats) i (bit_or (get_or (flags k.r seats) i 0) 1) ++ k.sleep_words)
      = (λ j. set (k.words_are j) (i + 4) (bit_or (read j) 1))
      ∙ (set_after (k.drawn % 18446744073709551616) (k.served % 18446744073709551616) k.counted k.f (flags k.r seats ++ k.sleep_words) i (bit_or (get_or (flags k.r seats) i 0) 1)
      ∙ ap (λ (l : List ℕ). k.drawn % 18446744073709551616 ∷ k.served % 18446744073709551616 ∷ k.counted ∷ k.f ∷ l) (set_before (flags k.r seats) k.sleep_words i (bit_or (get_or (flags k.r seats) i 0) 1) inside)) in
      dite (dec_le (i + 1) k.r)
      (λ taken. let is : get_or (flags k.r seats) i 0 ≡ 1 = flag_set k.r (seats - k.r) i (let z : i < k.r = omega arith in z) in
      let w : View B E = record v { known = i + 1 } in (
        w,
        keeps,
        tt,
        numbers_with M seats o id (i + 4) k.r k.sleep_words (bit_or (get_or s.words (i + 4) 0) 1) v w s k at
            (write ∙ ap (λ (l : List ℕ). k.drawn % 18446744073709551616 ∷ k.served % 18446744073709551616 ∷ k.counted ∷ k.f ∷ (l ++ k.sleep_words)) (ap (λ (z : ℕ). set (flags k.r seats) i (bit_or z 1)) is ∙ flag_again k.r (seats - k.r) i (let z : i < k.r = omega arith in z)))
            few (le_refl k.r) (stays held k.r s.views id v w at refl k.seated) (left_like M seats o k.served k.drawn k.f k.tail v (i + 1) v.reserved mine) taken refl refl not refl (seals s.views id v w at refl refl k.seal),
        inr ((λ e. let z = sym (read ∙ is) ∙ e in omega arith), (λ j. (record v { known = up_is i j }, []))),
      ))
      (λ fresh. let last : k.r ≡ i = omega arith in
      let is : get_or (flags k.r seats) i 0 ≡ 0 = flag_clear k.r (seats - k.r) i (let z : k.r ≤ i = omega arith in z) in
      let w : View B E = record v { known = i + 1; reserved = Some i } in
      let held_is : held w ≡ k.r ∷ held v = (λ j. sym last j ∷ gathered v) ∙ ap (λ (x : Option ℕ). k.r ∷ (in_list x ++ gathered v)) (sym free) in (
        w,
        keeps,
        tt,
        numbers_with M seats o id (i + 4) (k.r + 1) k.sleep_words (bit_or (get_or s.words (i + 4) 0) 1) v w s k at
            (write ∙ ap (λ (l : List ℕ). k.drawn % 18446744073709551616 ∷ k.served % 18446744073709551616 ∷ k.counted ∷ k.f ∷ (l ++ k.sleep_words)) (ap (λ (z : ℕ). set (flags k.r seats) i (bit_or z 1)) is ∙ (ap (λ (z : ℕ). set (flags k.r seats) z 1) (sym last) ∙ flag_next k.r seats (let z : k.r < seats = omega arith in z))))
            (let z : k.r + 1 ≤ seats = omega arith in z) (let z : k.r ≤ k.r + 1 = omega arith in z) (reserves held k.r s.views id v w at held_is k.seated) (left_like M seats o k.served k.drawn k.f k.tail v (i + 1) (Some i) mine) (let z : i + 1 ≤ k.r + 1 = omega arith in z) refl refl not refl (seals s.views id v w at refl refl k.seal),
        inl (read ∙ is, (λ j. (record v { reserved = Some (index_is i j); known = up_is i j }, []))),
      ))

  pub numbers_at : (o : B) (slots id i : ℕ) (m : SeatState B E) → Rests m → m.0.reserved ≡ None → m.0.known ≡ i → i < seats → Allows (TurnRule M o seats) slots id m (i + 4) (λ n. bit_or n 1) (numbered (i + 4) m)
  numbers_at o slots id i m rests free known low = subst (λ (c : List (ℕ × Option B)). Allows (TurnRule M o seats) slots id (m.0, c) (i + 4) (λ n. bit_or n 1) (numbered (i + 4) (m.0, c))) (sym rests.0) (numbers o slots id i m.0 rests.2 free known low)

  spent_at : (v : View B E) (x : Option B) → v.origin ≡ x → length (held v) ≡ 0 → v.origin ≡ None
  spent_at v None e none_held = e
  spent_at v (Some a) e none_held = let n : length (gathered v) ≡ suc (length (map number_of v.beside)) = ap (λ (o : Option B). length (if_live o (v.number ∷ map number_of v.beside))) e in
      absurd (omega (arith, length-append (in_list v.reserved) (gathered v)))

  -- all numbers that were drawn are gathered here: the others are spent
  shuts : (o : B) (s : State (Option B) (View B E)) (k : TurnRule M o seats s) (id : ℕ) (v w : View B E) (a : B) → get_elem? s.views id ≡ some v → v.origin ≡ Some a → k.r ≤ length (held v) → Seals (set s.views id w)
  shuts o s k id v w a at alive as_many = λ i j u x eu shut ex other.
      let spent : (n : ℕ) (y : View B E) → n ≢ id → get_elem? s.views n ≡ some y → y.origin ≡ None = λ n y far there. spent_at y y.origin refl (alone held k.r s.views id v at as_many k.seated n y far there) in
      ⊎_elim
      (λ (t : (j ≡ id) × (w ≡ x)). ⊎_elim
      (λ (z : (i ≡ id) × (w ≡ u)). absurd (other (t.0 ∙ sym z.0)))
      (λ (z : (i ≢ id) × (get_elem? s.views i ≡ some u)). absurd (not_none a (sym (k.seal i id u v z.1 shut at (λ e. z.0 (sym e))) ∙ alive)))
      (at_set s.views id i w u eu))
      (λ (t : (j ≢ id) × (get_elem? s.views j ≡ some x)). spent j x t.0 t.1)
      (at_set s.views id j w x ex)

  pub sealing : (o : B) (slots id i : ℕ) (v : View B E) (a : B) → v.origin ≡ Some a → v.has_turn ≡ false → v.reserved ≡ None → (i ≡ length (gathered v)) ⊎ (seats ≤ length (gathered v)) → i < seats
      → Allows (TurnRule M o seats) slots id (v, []) (i + 4) (λ n. n) (λ n w. sealed_at (i + 4) (v, []) n w)
  sealing o slots id i v a alive not free which low s k one at small =
      let mine = k.fit id v at in
      let few = k.few.0 in
      let known = k.known_low id v at in
      let words : set s.words (i + 4) (get_or s.words (i + 4) 0) ≡ k.drawn % 18446744073709551616 ∷ k.served % 18446744073709551616 ∷ k.counted ∷ k.f ∷ (flags k.r seats ++ k.sleep_words) = set_read M seats s.words (i + 4) ∙ k.words_are in
      let inside : i < length (flags k.r seats) = let many = flags_length k.r seats few in omega arith in
      let read : get_or s.words (i + 4) 0 ≡ get_or (flags k.r seats) i 0 = ap (λ (ws : List ℕ). get_or ws (i + 4) 0) k.words_are ∙ (read_after (k.drawn % 18446744073709551616) (k.served % 18446744073709551616) k.counted k.f (flags k.r seats ++ k.sleep_words) i ∙ get_before (flags k.r seats) k.sleep_words i inside) in
      let held_is : length (held v) ≡ length (gathered v) = ap (λ (x : Option ℕ). length (in_list x ++ gathered v)) free in
      dite (dec_le (length (gathered v) + 1) k.r)
      (λ out. let here : i ≡ length (gathered v) = ⊎_elim (λ (e : i ≡ length (gathered v)). e) (λ (all : seats ≤ length (gathered v)). absurd (let z : ⊥ = omega arith in z)) which in
      let taken : i < k.r = omega arith in
      let is : get_or (flags k.r seats) i 0 ≡ 1 = flag_set k.r (seats - k.r) i taken in
      let w : View B E = record v { known = max v.known (i + 1) } in (
        w,
        keeps,
        tt,
        numbers_with M seats o id (i + 4) k.r k.sleep_words (get_or s.words (i + 4) 0) v w s k at words few (le_refl k.r) (stays held k.r s.views id v w at refl k.seated) (left_like M seats o k.served k.drawn k.f k.tail v (max v.known (i + 1)) v.reserved mine) (let z : max v.known (i + 1) ≤ k.r = omega arith in z) refl refl not refl (seals s.views id v w at refl refl k.seal),
        inr ((λ e. let z = sym (read ∙ is) ∙ e in omega arith), (let z : length (gathered v) + 4 ≤ i + 4 = omega arith in z), (λ j. (record v { known = max v.known (up_is i j) }, []))),
      ))
      (λ none. let all : k.r ≤ length (gathered v) = omega arith in
      let w : View B E = record v { sealed = true } in (
        w,
        keeps,
        tt,
        numbers_with M seats o id (i + 4) k.r k.sleep_words (get_or s.words (i + 4) 0) v w s k at words few (le_refl k.r) (stays held k.r s.views id v w at refl k.seated) (shut_like M seats o k.served k.drawn k.f k.tail v mine) known refl refl not refl (shuts o s k id v w a at alive (let z : k.r ≤ length (held v) = omega arith in z)),
        inl (
          ⊎_elim
              (λ (e : i ≡ length (gathered v)). inl (read ∙ flag_clear k.r (seats - k.r) i (let z : k.r ≤ i = omega arith in z)))
              (λ (more : seats ≤ length (gathered v)). inr (let z : i + 4 < length (gathered v) + 4 = omega arith in z))
              which,
          le_trans known all,
          refl,
        ),
      ))

  pub sealing_at : (o : B) (slots id i : ℕ) (m : SeatState B E) → Rests m → m.0.reserved ≡ None → (i ≡ length (gathered m.0)) ⊎ (seats ≤ length (gathered m.0)) → i < seats → Allows (TurnRule M o seats) slots id m (i + 4) (λ n. n) (λ n w. sealed_at (i + 4) m n w)
  sealing_at o slots id i m rests free which low = subst (λ (c : List (ℕ × Option B)). Allows (TurnRule M o seats) slots id (m.0, c) (i + 4) (λ n. n) (λ n w. sealed_at (i + 4) (m.0, c) n w)) (sym rests.0) (sealing o slots id i m.0 rests.4.0 rests.4.1 rests.2 free which low)

  compares : (o : B) (slots id : ℕ) (v : View B E) → v.has_turn ≡ false → Allows (TurnRule M o seats) slots id (v, []) 0 (λ n. n) (λ _ w. compared M (v, []) w)
  compares o slots id v not s k one at small =
      let mine = k.fit id v at in
      let w : View B E = settled v in
      let low = one_of (λ (u : View B E). length (held u)) s.views id v at in
      let all = k.seated.all in
      let few = k.few in (
        w,
        keeps,
        tt,
        numbers_with M seats o id 0 k.r k.sleep_words (get_or s.words 0 0) v w s k at (set_read M seats s.words 0 ∙ k.words_are) k.few.0 (le_refl k.r) (stays held k.r s.views id v w at refl k.seated)
            record {
              origin_is = mine.origin_is;
              gone_is = mine.gone_is;
              in_line = mine.in_line;
              is_first = mine.is_first;
              has_seen = mine.has_seen;
              sees_all = mine.sees_all;
              own_is = mine.own_is;
              failed_low = mine.failed_low;
              note_is = mine.note_is;
              gathers = record { short_is = λ _. (M.log o ++ k.tail, refl); own_is = mine.gathers.own_is; failed_low = mine.gathers.failed_low };
            }
            (k.known_low id v at) refl refl not refl (seals s.views id v w at refl refl k.seal),
        (
          refl,
          omega (arith, length-append (in_list v.reserved) (gathered v)),
          λ a e reported low. let reported' : M.reports o ≡ true = ap M.reports (sym (mine.origin_is a e)) ∙ reported in
              begins_longer v.shorter v.seen (M.log o ++ k.tail) (mine.gathers.short_is reported') (mine.has_seen reported') low,
        ),
      )

  pub compares_at : (o : B) (slots id : ℕ) (m : SeatState B E) → Rests m → Allows (TurnRule M o seats) slots id m 0 (λ n. n) (λ _ w. compared M m w)
  compares_at o slots id m rests = subst (λ (c : List (ℕ × Option B)). Allows (TurnRule M o seats) slots id (m.0, c) 0 (λ n. n) (λ _ w. compared M (m.0, c) w)) (sym rests.0) (compares o slots id m.0 rests.2)

  abbrev Wakes : (o : B) (id i : ℕ) (v : View B E) (s : State (Option B) (View B E)) → Type 0
  Wakes o id i v s = (w : View B E) × (a : Act (Option B)) × Valid s.homes [] a × TurnRule M o seats (stepped s i ((get_or s.words i 0 + 1) % 18446744073709551616) id [] w a) × unchanged (v, []) (w, carried_after [] a)

  wakes : (o : B) (id i j : ℕ) (v : View B E) → v.has_turn ≡ false → i ≡ seats + j + 4 → (s : State (Option B) (View B E)) (k : TurnRule M o seats s) → get_elem? s.views id ≡ some v → Wakes o id i v s
  wakes o id i j v not there s k at =
      let x : ℕ = (get_or s.words i 0 + 1) % 18446744073709551616 in
      let words : set s.words i x ≡ k.drawn % 18446744073709551616 ∷ k.served % 18446744073709551616 ∷ k.counted ∷ k.f ∷ (flags k.r seats ++ set k.sleep_words j x) =
      (λ n. set (k.words_are n) (there n) x)
      ∙ (set_after (k.drawn % 18446744073709551616) (k.served % 18446744073709551616) k.counted k.f (flags k.r seats ++ k.sleep_words) (seats + j) x
      ∙ ap (λ (l : List ℕ). k.drawn % 18446744073709551616 ∷ k.served % 18446744073709551616 ∷ k.counted ∷ k.f ∷ l) (set_past (flags k.r seats) k.sleep_words seats j x (flags_length k.r seats k.few.0))) in (
        v,
        keeps,
        tt,
        numbers_with M seats o id i k.r (set k.sleep_words j x) x v v s k at words k.few.0 (le_refl k.r) (stays held k.r s.views id v v at refl k.seated) (k.fit id v at) (k.known_low id v at) refl refl not refl (seals s.views id v v at refl refl k.seal),
        refl,
      )

  pub wakes_at : (o : B) (slots id i : ℕ) (m : SeatState B E) → m.1 ≡ [] → m.0.has_turn ≡ false → seats + 4 ≤ i → Allows (TurnRule M o seats) slots id m i (λ n. (n + 1) % 18446744073709551616) (λ _ w. unchanged m w)
  wakes_at o slots id i m free not low = subst (λ (c : List (ℕ × Option B)). Allows (TurnRule M o seats) slots id (m.0, c) i (λ n. (n + 1) % 18446744073709551616) (λ _ w. unchanged (m.0, c) w)) (sym free)
      (λ s k one at small. wakes o id i (i - (seats + 4)) m.0 not (omega arith) s k at)
