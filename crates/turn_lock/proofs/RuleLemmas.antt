-- What the rule says of one pass, and what a change of one view leaves.
use Rattle.std.proofs.Common.{◌≡◌, ◌≢◌, ℕ, zero, suc, ◌+◌, ◌%◌, ◌<◌, ◌≤◌, ◌⊎◌, inl, inr, ⊎_elim, true, false, List, [], ◌∷◌, ◌++◌, length, map, set, get_or, sym, refl, ap, ◌∙◌, subst, arith, le_trans, length-append, append_assoc, Option, Some, None}
use mathlib.Core.Option.{some, none, some-injective, some-ne-none}
use mathlib.Core.Option as maybe
use lib.ListN.{get_elem?}
use Rattle.atomic_table.specs.Table.{State, keeps, stepped}
use Rattle.atomic_table.proofs.Lists.{set_else}
use Rattle.std.proofs.lemmas.Bool.Decides.{nat_tests}
use Rattle.turn_lock.specs.declared.view.View.{View}
use Rattle.turn_lock.specs.declared.view.Beside.{Beside}
use Rattle.turn_lock.specs.Meanings.{Meanings}
use Rattle.turn_lock.specs.Log.{own_entries, Each}
use Rattle.turn_lock.specs.Count.{Level}
use Rattle.turn_lock.specs.Seats.{times, once_below, total, Seated, flags}
use Rattle.turn_lock.specs.Views.{in_list, if_live, number_of, gathered, held, left_with}
use Rattle.turn_lock.specs.TurnRule.{one_if, Seals, Gathers, Fits, AtHome, IsAway, TurnRule}
use Rattle.turn_lock.proofs.ListLemmas.{Each-map, Each-grown}
use Rattle.turn_lock.proofs.ViewLemmas.{one_low, waiting_set, waiting_held, all_set, tickets_set}
use Rattle.turn_lock.proofs.SeatNumbers.{total_set, one_of, times_append, times_here, held_once}
use Rattle.turn_lock.proofs.Values.{true_false}

module _ {B E F : Type 0} (M : Meanings B E F) (seats : ℕ) where
  -- nothing is kept beside
  pub nothing_beside : (o : B) (f : ℕ) (tail : List E) (x : Option B) → Gathers M o f tail x [] []
  nothing_beside o f tail x = record { short_is = λ _. (M.log o ++ tail, refl); own_is = λ _ _ _. tt; failed_low = λ _. tt }

  -- the word of faults rose
  pub side_up : (o : B) (f g : ℕ) (tail : List E) (x : Option B) (short : List E) (beside : List (Beside E)) → f ≤ g → Gathers M o f tail x short beside → Gathers M o g tail x short beside
  side_up o f g tail x short beside up side = record {
    short_is = side.short_is;
    own_is = side.own_is;
    failed_low = λ lt. Each-map (λ (y : Beside E). y.failed ≤ f) (λ (y : Beside E). y.failed ≤ g) (λ y low. le_trans low up) beside (side.failed_low (let z : f < 18446744073709551615 = omega arith in z));
  }

  pub gathered_times : (n : ℕ) (v : View B E) (a : B) → v.origin ≡ Some a → times n (gathered v) ≡ times n (v.number ∷ []) + times n (map number_of v.beside)
  gathered_times n v a e = ap (λ (o : Option B). times n (if_live o (v.number ∷ map number_of v.beside))) e ∙ times_append n (v.number ∷ []) (map number_of v.beside)

  -- where the log gets an entry that none of the joined passes owns
  pub side_grown : (o : B) (f : ℕ) (tail more : List E) (x : Option B) (short : List E) (beside : List (Beside E))
      → ((a : B) → x ≡ Some a → M.reports o ≡ true → (e : E) × (more ≡ e ∷ []) × (times (M.owner e) (map number_of beside) ≡ 0)) → Gathers M o f tail x short beside → Gathers M o f (tail ++ more) x short beside
  side_grown o f tail more x short beside new side = record {
    short_is = λ reported. let z = side.short_is reported in (z.0 ++ more, sym (append_assoc (M.log o) tail more) ∙ (ap (λ (l : List E). l ++ more) z.1 ∙ append_assoc short z.0 more));
    own_is = λ a e reported. let new = new a e reported in
        subst (λ (l : List E). Each (λ (y : Beside E). own_entries M.owner y.number (tail ++ l) ≡ y.own) beside) (sym new.1) (Each-grown M.owner tail new.0 beside new.2 (side.own_is a e reported));
    failed_low = side.failed_low;
  }

  pub same_total : (n : ℕ) (vs : List (View B E)) (id : ℕ) (v w : View B E) → get_elem? vs id ≡ some v → gathered w ≡ gathered v → total (λ (u : View B E). times n (gathered u)) (set vs id w) ≡ 0 → total (λ (u : View B E). times n (gathered u)) vs ≡ 0
  same_total n vs id v w at same zero_now = let a = total_set (λ (u : View B E). times n (gathered u)) vs id v w at in let b : times n (gathered w) ≡ times n (gathered v) = ap (λ (l : List ℕ). times n l) same in omega arith

  pub own_gathered : (v : View B E) (a : B) → v.origin ≡ Some a → 0 < times v.number (gathered v)
  own_gathered v a e = let n : times v.number (gathered v) ≡ times v.number (v.number ∷ map number_of v.beside) = ap (λ (o : Option B). times v.number (if_live o (v.number ∷ map number_of v.beside))) e in
      let y = times_append v.number (v.number ∷ []) (map number_of v.beside) in let z = times_here v.number in omega arith

  pub total_sum : (n : ℕ) (vs : List (View B E)) → total (λ (u : View B E). times n (held u)) vs ≡ total (λ (u : View B E). times n (in_list u.reserved)) vs + total (λ (u : View B E). times n (gathered u)) vs
  total_sum n [] = omega arith
  total_sum n (x ∷ xs) = let a = times_append n (in_list x.reserved) (gathered x) in let h = total_sum n xs in omega arith

  pub stays_fit : (o : B) (served drawn f : ℕ) (tail : List E) (vs : List (View B E)) (id : ℕ) (w : View B E) → ((i : ℕ) (u : View B E) → get_elem? vs i ≡ some u → Fits M o served drawn f tail u) → Fits M o served drawn f tail w
      → (i : ℕ) (u : View B E) → get_elem? (set vs id w) i ≡ some u → Fits M o served drawn f tail u
  stays_fit o served drawn f tail vs id w fit mine = all_set (Fits M o served drawn f tail) vs id w (λ j u other there. fit j u there) mine

  pub left_fits : (o : B) (served drawn f : ℕ) (tail : List E) (v : View B E) → Fits M o served drawn f tail v → Fits M o served drawn f tail (left_with v)
  left_fits o served drawn f tail v mine = record {
    origin_is = mine.origin_is;
    gone_is = mine.gone_is;
    in_line = mine.in_line;
    is_first = mine.is_first;
    has_seen = mine.has_seen;
    sees_all = mine.sees_all;
    own_is = mine.own_is;
    failed_low = mine.failed_low;
    note_is = mine.note_is;
    gathers = mine.gathers;
  }

  pub left_like : (o : B) (served drawn f : ℕ) (tail : List E) (v : View B E) (n : ℕ) (x : Option ℕ) → Fits M o served drawn f tail v → Fits M o served drawn f tail (record v { known = n; reserved = x })
  left_like o served drawn f tail v n x mine = record {
    origin_is = mine.origin_is;
    gone_is = mine.gone_is;
    in_line = mine.in_line;
    is_first = mine.is_first;
    has_seen = mine.has_seen;
    sees_all = mine.sees_all;
    own_is = mine.own_is;
    failed_low = mine.failed_low;
    note_is = mine.note_is;
    gathers = mine.gathers;
  }

  pub shut_like : (o : B) (served drawn f : ℕ) (tail : List E) (v : View B E) → Fits M o served drawn f tail v → Fits M o served drawn f tail (record v { sealed = true })
  shut_like o served drawn f tail v mine = record {
    origin_is = mine.origin_is;
    gone_is = mine.gone_is;
    in_line = mine.in_line;
    is_first = mine.is_first;
    has_seen = mine.has_seen;
    sees_all = mine.sees_all;
    own_is = mine.own_is;
    failed_low = mine.failed_low;
    note_is = mine.note_is;
    gathers = mine.gathers;
  }

  -- a view without the turn changes: the book stays where it is
  pub stays_put : (o : B) (f : ℕ) (tail : List E) (homes : List (maybe.Option (Option B))) (views : List (View B E)) (id : ℕ) (v w : View B E) → get_elem? views id ≡ some v → v.has_turn ≡ false → w.has_turn ≡ false
      → AtHome M o f tail homes views ⊎ IsAway (M.faults o) f homes views → AtHome M o f tail homes (set views id w) ⊎ IsAway (M.faults o) f homes (set views id w)
  stays_put o f tail homes views id v w at not not' slot = ⊎_elim
      (λ (h : AtHome M o f tail homes views). inl record {
        book = h.book;
        homes_is = h.homes_is;
        later = h.later;
        log_is = h.log_is;
        level_is = h.level_is;
        nobody = all_set (λ (u : View B E). u.has_turn ≡ false) views id w (λ j u other there. h.nobody j u there) not';
      })
      (λ (h : IsAway (M.faults o) f homes views). inr record {
        holder = h.holder;
        view = h.view;
        homes_is = h.homes_is;
        there = set_else views id h.holder w (λ same. true_false (sym h.has_it ∙ (ap (λ (u : View B E). u.has_turn) (some-injective h.view v (sym h.there ∙ (ap (λ (i : ℕ). get_elem? views i) same ∙ at))) ∙ not))) ∙ h.there;
        has_it = h.has_it;
        level_is = h.level_is;
      })
      slot

  pub low_at : (v : View B E) (x : Option B) → v.origin ≡ x → (v.origin ≡ None → (v.ticket ≡ None) × (v.has_turn ≡ false)) → one_if v.ticket ≤ length (held v)
  low_at v None e out = let z : one_if v.ticket ≡ 0 = ap (λ (t : Option ℕ). one_if t) (out e).0 in omega arith
  low_at v (Some a) e out = let one = one_low v.ticket in
      let n : length (gathered v) ≡ suc (length (map number_of v.beside)) = ap (λ (o : Option B). length (if_live o (v.number ∷ map number_of v.beside))) e in
      omega (arith, length-append (in_list v.reserved) (gathered v))

  -- tickets that are held lie close together
  pub near : (o : B) (s : State (Option B) (View B E)) (k : TurnRule M o seats s) → k.drawn ≤ k.served + 65
  near o s k = let a = waiting_held s.views (λ i v at. low_at v v.origin refl (k.fit i v at).gone_is) in let b = k.few.0 in let d = k.few.1 in let c = k.line in let all = k.seated.all in omega arith

  pub live_at : (o : B) (v : View B E) (x : Option B) → v.origin ≡ x → v.has_turn ≡ true → (v.origin ≡ None → (v.ticket ≡ None) × (v.has_turn ≡ false)) → ((a : B) → v.origin ≡ Some a → a ≡ o) → v.origin ≡ Some o
  live_at o v None e has out is = absurd (true_false (sym has ∙ (out e).1))
  live_at o v (Some a) e has out is = e ∙ ap (λ (b : B). Some b) (is a e)

  pub live : (o : B) (s : State (Option B) (View B E)) (k : TurnRule M o seats s) (id : ℕ) (v : View B E) → get_elem? s.views id ≡ some v → v.has_turn ≡ true → v.origin ≡ Some o
  live o s k id v at has = live_at o v v.origin refl has (k.fit id v at).gone_is (k.fit id v at).origin_is

  pub own_held : (v : View B E) (a : B) → v.origin ≡ Some a → 0 < times v.number (held v)
  own_held v a e = let n : times v.number (gathered v) ≡ times v.number (v.number ∷ map number_of v.beside) = ap (λ (o : Option B). times v.number (if_live o (v.number ∷ map number_of v.beside))) e in
      let x = times_append v.number (in_list v.reserved) (gathered v) in let y = times_append v.number (v.number ∷ []) (map number_of v.beside) in let z = times_here v.number in omega arith

  pub apart_numbers : (o : B) (s : State (Option B) (View B E)) (k : TurnRule M o seats s) (id j : ℕ) (v u : View B E) → j ≢ id → get_elem? s.views id ≡ some v → get_elem? s.views j ≡ some u → v.origin ≡ Some o → (x : B) → u.origin ≡ Some x → u.number ≡ v.number → ⊥
  apart_numbers o s k id j v u other at there ev x eu same = let z = held_once held k.r s.views id j v.number v u other at there k.seated (own_held v o ev) in
      let y : 0 < times v.number (held u) = subst (λ (n : ℕ). 0 < times n (held u)) same (own_held u x eu) in omega arith

  -- a pass that takes turns is joined into none
  pub beside_apart : (o : B) (s : State (Option B) (View B E)) (k : TurnRule M o seats s) (id j : ℕ) (v u : View B E) → j ≢ id → get_elem? s.views id ≡ some v → get_elem? s.views j ≡ some u → v.origin ≡ Some o → (x : B) → u.origin ≡ Some x
      → times v.number (map number_of u.beside) ≡ 0
  beside_apart o s k id j v u other at there ev x eu = let z = held_once held k.r s.views id j v.number v u other at there k.seated (own_held v o ev) in
      let y = times_append v.number (in_list u.reserved) (gathered u) in let w = gathered_times v.number u x eu in omega arith

  pub beside_own : (o : B) (s : State (Option B) (View B E)) (k : TurnRule M o seats s) (id : ℕ) (v : View B E) → get_elem? s.views id ≡ some v → v.origin ≡ Some o → times v.number (map number_of v.beside) ≡ 0
  beside_own o s k id v at ev = let z = one_of (λ (u : View B E). times v.number (held u)) s.views id v at in let e = k.seated.each v.number in let low : once_below v.number k.r ≤ 1 = grind (arith, nat_tests) in
      let y = times_append v.number (in_list v.reserved) (gathered v) in let w = gathered_times v.number v o ev in let one = times_here v.number in omega arith

  -- who has the turn has the first ticket, so it is the one who has that ticket
  pub only_holder : (o : B) (s : State (Option B) (View B E)) (k : TurnRule M o seats s) (id : ℕ) (v : View B E) → get_elem? s.views id ≡ some v → v.ticket ≡ Some k.served
      → (j : ℕ) (u : View B E) → get_elem? s.views j ≡ some u → u.has_turn ≡ true → j ≡ id
  only_holder o s k id v at mine j u there has = k.apart j id u v there at (k.served, (k.fit j u there).is_first has, mine)

  -- the ticket that is served has no turn yet: the book is at home
  pub is_home : (o : B) (s : State (Option B) (View B E)) (k : TurnRule M o seats s) (id : ℕ) (v : View B E) → get_elem? s.views id ≡ some v → v.ticket ≡ Some k.served → v.has_turn ≡ false → AtHome M o k.f k.tail s.homes s.views
  is_home o s k id v at mine not = ⊎_elim
      (λ (h : AtHome M o k.f k.tail s.homes s.views). h)
      (λ (h : IsAway (M.faults o) k.f s.homes s.views).
      let same : h.holder ≡ id = only_holder o s k id v at mine h.holder h.view h.there h.has_it in
      absurd (true_false (sym h.has_it ∙ (ap (λ (u : View B E). u.has_turn) (some-injective h.view v (sym h.there ∙ (ap (λ (i : ℕ). get_elem? s.views i) same ∙ at))) ∙ not))))
      k.slot

  -- the turn is held: the book is away, and its count is the view's
  pub is_away : (o : B) (s : State (Option B) (View B E)) (k : TurnRule M o seats s) (id : ℕ) (v : View B E) → get_elem? s.views id ≡ some v → v.has_turn ≡ true → (s.homes ≡ none ∷ []) × Level (M.faults o) k.f v.level
  is_away o s k id v at has = ⊎_elim
      (λ (h : AtHome M o k.f k.tail s.homes s.views). absurd (true_false (sym has ∙ h.nobody id v at)))
      (λ (h : IsAway (M.faults o) k.f s.homes s.views).
      let same : h.holder ≡ id = only_holder o s k id v at ((k.fit id v at).is_first has) h.holder h.view h.there h.has_it in
      let is : h.view ≡ v = some-injective h.view v (sym h.there ∙ (ap (λ (i : ℕ). get_elem? s.views i) same ∙ at)) in
      (h.homes_is, subst (λ (u : View B E). Level (M.faults o) k.f u.level) is h.level_is))
      k.slot

  pub numbers_with : (o : B) (id p r : ℕ) (rest : List ℕ) (x : ℕ) (v w : View B E) (s : State (Option B) (View B E)) (k : TurnRule M o seats s) → get_elem? s.views id ≡ some v → set s.words p x ≡ k.drawn % 18446744073709551616 ∷ k.served % 18446744073709551616 ∷ k.counted ∷ k.f ∷ (flags r seats ++ rest)
      → r ≤ seats → k.r ≤ r → Seated held r (set s.views id w) → Fits M o k.served k.drawn k.f k.tail w → w.known ≤ r → w.ticket ≡ v.ticket → w.has_turn ≡ v.has_turn → v.has_turn ≡ false → gathered w ≡ gathered v → Seals (set s.views id w)
      → TurnRule M o seats (stepped s p x id [] w keeps)
  numbers_with o id p r rest x v w s k at words few up seated fits known ticket turn not same seal = record {
    served = k.served;
    drawn = k.drawn;
    counted = k.counted;
    f = k.f;
    r = r;
    tail = k.tail;
    sleep_words = rest;
    words_are = words;
    count_is = k.count_is;
    line = let sum = waiting_set s.views id v w at in let e : one_if w.ticket ≡ one_if v.ticket = ap (λ (t : Option ℕ). one_if t) ticket in let line = k.line in omega arith;
    few = (few, k.few.1);
    fit = stays_fit o k.served k.drawn k.f k.tail s.views id w k.fit fits;
    apart = tickets_set s.views id v w at (λ n e. sym ticket ∙ e) k.apart;
    seated = seated;
    owners = λ reported n z. k.owners reported n (same_total n s.views id v w at same z);
    known_low = all_set (λ (u : View B E). u.known ≤ r) s.views id w (λ j u other there. le_trans (k.known_low j u there) up) known;
    seal = seal;
    slot = stays_put o k.f k.tail s.homes s.views id v w at not (turn ∙ not) k.slot;
  }

  pub set_read : (l : List ℕ) (i : ℕ) → set l i (get_or l i 0) ≡ l
  set_read [] i = refl
  set_read (x ∷ xs) zero = refl
  set_read (x ∷ xs) (suc i) = ap (λ (l : List ℕ). x ∷ l) (set_read xs i)
