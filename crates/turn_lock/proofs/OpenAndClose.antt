-- The rule holds at the start, and what it says at the end.
use Rattle.std.proofs.Common.{◌≡◌, ℕ, zero, suc, ◌+◌, ◌<◌, ◌≤◌, inl, inr, ⊎_elim, true, List, [], ◌∷◌, ◌++◌, map, sym, refl, ap, ◌∙◌, subst, arith, Option, Some, None}
use Rattle.std.proofs.lemmas.List.{append-nil}
use mathlib.Core.Option.{some, none, some-injective, some-ne-none}
use mathlib.Core.Option as maybe
use mathlib.Core.Logic.{dite}
use native.Mathlib.Decide.{ℕ_discrete}
use lib.ListN.{get_elem?}
use Rattle.atomic_table.specs.Table.{State, opening, Final, Seen}
use Rattle.std.proofs.lemmas.Bool.Decides.{nat_tests}
use Rattle.turn_lock.specs.declared.view.View.{View}
use Rattle.turn_lock.specs.declared.view.Beside.{Beside}
use Rattle.turn_lock.specs.Meanings.{Meanings, IsLater}
use Rattle.turn_lock.specs.Log.{Each}
use Rattle.turn_lock.specs.Count.{Level}
use Rattle.turn_lock.specs.Seats.{times, once_below, total, flags}
use Rattle.turn_lock.specs.Views.{if_live, number_of, numbers_in, new_view, gathered}
use Rattle.turn_lock.specs.TurnRule.{Fits, AtHome, IsAway, TurnRule}
use Rattle.atomic_table.specs.Seated.{TableId}
use Rattle.turn_lock.specs.Known.{known_of}
use Rattle.turn_lock.specs.Close.{IsCounted, ClosesFrom}
use Rattle.turn_lock.proofs.ListLemmas.{Each-map}
use Rattle.turn_lock.proofs.SeatNumbers.{total_alone, once_next}
use Rattle.turn_lock.proofs.Values.{true_false, same_value, not_none}
use Rattle.turn_lock.proofs.RuleLemmas.{nothing_beside}

module _ {B E F : Type 0} (M : Meanings B E F) (seats : ℕ) where
  only_view : (v u : View B E) (i : ℕ) → get_elem? (v ∷ []) i ≡ some u → (i ≡ 0) × (v ≡ u)
  only_view v u zero e = (refl, some-injective v u e)
  only_view v u (suc i) e = absurd (some-ne-none u (sym e))

  first_once : (n : ℕ) → times n (0 ∷ []) + 0 ≡ once_below n 1
  first_once n = let a = once_next n 0 in let b : once_below n 0 ≡ 0 = grind (arith, nat_tests) in omega arith

  starts : (o : B) (rest : List ℕ) (homes : List (Option B)) → (1 ≤ seats) × (seats ≤ 65) → homes ≡ Some o ∷ [] → TurnRule M o seats (opening (0 ∷ 0 ∷ 0 ∷ 0 ∷ (flags 1 seats ++ rest)) homes (new_view 0 (Some o) (M.log o)))
  starts o rest homes sized is =
      let v : View B E = new_view 0 (Some o) (M.log o) in
      subst (λ (hs : List (Option B)). TurnRule M o seats (opening (0 ∷ 0 ∷ 0 ∷ 0 ∷ (flags 1 seats ++ rest)) hs v)) (sym is) record {
        served = 0;
        drawn = 0;
        counted = 0;
        f = 0;
        tail = [];
        sleep_words = rest;
        words_are = refl;
        count_is = λ _. refl;
        line = refl;
        few = sized;
        r = 1;
        fit = λ i u there. subst (Fits M o 0 0 0 []) (only_view v u i there).1 record {
          origin_is = λ a e. sym (same_value o a e);
          gone_is = λ e. absurd (not_none o (sym e));
          in_line = λ t e. absurd (not_none t e);
          is_first = λ e. absurd (true_false (sym e));
          has_seen = λ _. ([], refl);
          sees_all = λ e. absurd (true_false (sym e));
          own_is = λ a e reported. refl;
          failed_low = λ _. omega arith;
          note_is = λ n e. absurd (not_none n e);
          gathers = nothing_beside M seats o 0 [] (Some o);
        };
        apart = λ i j u x a b _. (only_view v u i a).0 ∙ sym (only_view v x j b).0;
        seated = record { each = λ n. first_once n; all = refl };
        owners = λ reported n z. refl;
        known_low = λ i u there. subst (λ (y : View B E). y.known ≤ 1) (only_view v u i there).1 (omega arith);
        seal = λ i j u x a e. absurd (true_false (sym e ∙ ap (λ (y : View B E). y.sealed) (sym (only_view v u i a).1)));
        slot = inl record {
          book = o;
          homes_is = refl;
          later = record { fixed_is = refl; sound_is = λ h. h; reports_is = refl };
          log_is = λ _. sym (append-nil (M.log o));
          level_is = inr (omega arith, omega arith);
          nobody = λ i u there. ap (λ (x : View B E). x.has_turn) (sym (only_view v u i there).1);
        };
      }

  pub starts_at : (o : B) (rest words : List ℕ) (homes : List (Option B)) → words ≡ 0 ∷ 0 ∷ 0 ∷ 0 ∷ (flags 1 seats ++ rest) → (1 ≤ seats) × (seats ≤ 65) → homes ≡ Some o ∷ [] → TurnRule M o seats (opening words homes (new_view 0 (Some o) (M.log o)))
  starts_at o rest words homes are sized is = subst (λ (ws : List ℕ). TurnRule M o seats (opening ws homes (new_view 0 (Some o) (M.log o)))) (sym are) (starts o rest homes sized is)

  -- who is sealed has gathered all numbers
  all_here : (o : B) (s : State (Option B) (View B E)) (k : TurnRule M o seats s) (id n : ℕ) (v : View B E) → v.sealed ≡ true → get_elem? s.views id ≡ some v → total (λ (u : View B E). times n (gathered u)) s.views ≡ times n (gathered v)
  all_here o s k id n v shut at = total_alone (λ (u : View B E). times n (gathered u)) s.views id v at
      (λ j u other there. ap (λ (x : Option B). times n (if_live x (u.number ∷ map number_of u.beside))) (k.seal id j v u at shut there other))

  count_is : (table : TableId) (base f now : ℕ) (v : View B E) → (f < 18446744073709551615 → v.failed ≤ f) → (f < 18446744073709551615 → Each (λ (x : Beside E). x.failed ≤ f) v.beside) → Level base f now → IsCounted M base now (known_of table v)
  count_is table base f now v low sides level = ⊎_elim
      (λ (end : 18446744073709551615 ≤ now). inl end)
      (λ (m : (f < 18446744073709551615) × (base + f ≤ now)). let a = low m.0 in let b = m.1 in
      inr ((let z : base + v.failed ≤ now = omega arith in z), Each-map (λ (x : Beside E). x.failed ≤ f) (λ (x : Beside E). base + x.failed ≤ now) (λ x under. let z : base + x.failed ≤ now = omega arith in z) v.beside (sides m.0)))
      level

  closing : (table : TableId) (o : B) (s : State (Option B) (View B E)) (k : TurnRule M o seats s) (id : ℕ) (v : View B E) (b : B) → v.sealed ≡ true → get_elem? s.views id ≡ some v → (a : B) → v.origin ≡ Some a
      → IsLater M o b → (M.reports o ≡ true → M.log b ≡ M.log o ++ k.tail) → Level (M.faults o) k.f (M.faults b) → ClosesFrom M a (known_of table v) b
  closing table o s k id v b shut at a e later log_is level =
      let mine = k.fit id v at in
      let from : o ≡ a = sym (mine.origin_is a e) in
      subst (λ (x : B). ClosesFrom M x (known_of table v) b) from record {
        later = later;
        reported = λ reported. let seen = mine.has_seen reported in record {
          begins = (seen.0, log_is reported ∙ seen.1);
          tail = k.tail;
          appended = log_is reported;
          own_is = mine.own_is a e reported;
          beside_is = mine.gathers.own_is a e reported;
          no_other = λ n none. k.owners reported n (all_here o s k id n v shut at ∙ (ap (λ (x : Option B). times n (if_live x (numbers_in v))) e ∙ none));
        };
        counted = count_is table (M.faults o) k.f (M.faults b) v mine.failed_low mine.gathers.failed_low level;
      }

  -- the last state of a table that a sealed seat closes
  pub closes : (table : TableId) (o : B) (id : ℕ) (v : View B E) (words : List ℕ) (slots : List (Option B)) → v.sealed ≡ true → v.ticket ≡ None → (a : B) → v.origin ≡ Some a → Final (Seen (TurnRule M o seats) id v) words slots
      → (b : B) × (get_elem? slots 0 ≡ some (Some b)) × ClosesFrom M a (known_of table v) b
  closes table o id v words slots shut idle a e last =
      let s = last.0 in let k = last.1.0 in let at = last.1.1 in let mine = k.fit id v at in
      ⊎_elim
      (λ (h : AtHome M o k.f k.tail s.homes s.views). (
        h.book,
        last.4 0 (Some h.book) (ap (λ (hs : List (maybe.Option (Option B))). get_elem? hs 0) h.homes_is),
        closing table o s k id v h.book shut at a e h.later h.log_is h.level_is,
      ))
      (λ (h : IsAway (M.faults o) k.f s.homes s.views). dite (ℕ_discrete h.holder id)
      (λ same. absurd (not_none k.served (sym idle ∙ (ap (λ (u : View B E). u.ticket) (some-injective v h.view (sym at ∙ (ap (λ (i : ℕ). get_elem? s.views i) (sym same) ∙ h.there))) ∙ (k.fit h.holder h.view h.there).is_first h.has_it))))
      (λ other. absurd (true_false (sym h.has_it ∙ ((k.fit h.holder h.view h.there).gone_is (k.seal id h.holder v h.view at shut h.there other)).1))))
      k.slot
