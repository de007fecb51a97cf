-- The loads and raises of the word of faults keep the rule.
use Rattle.std.proofs.Common.{◌≡◌, ℕ, ◌%◌, ◌<◌, ◌≤◌, inr, true, List, [], ◌∷◌, ◌++◌, set, get_or, sym, refl, ap, ◌∙◌, max, arith}
use Rattle.atomic_table.specs.Table.{keeps, Allows}
use Rattle.atomic_table.proofs.Lists.{set_here}
use Rattle.turn_lock.specs.declared.view.View.{View}
use Rattle.turn_lock.specs.Meanings.{Meanings}
use Rattle.turn_lock.specs.Count.{raised_to}
use Rattle.turn_lock.specs.Seats.{flags}
use Rattle.turn_lock.specs.Views.{held}
use Rattle.turn_lock.specs.TurnRule.{Fits, TurnRule}
use Rattle.turn_lock.specs.Steps.{SeatState, noter, noted, failer, Fails, counted_failure}
use Rattle.turn_lock.proofs.ViewLemmas.{waiting_set, in_row, all_set, seals, tickets_set}
use Rattle.turn_lock.proofs.SeatNumbers.{up_is, stays}
use Rattle.turn_lock.proofs.Values.{same_value, level_rises}
use Rattle.turn_lock.proofs.RuleLemmas.{side_up, same_total, only_holder, is_away}
use Rattle.turn_lock.proofs.TurnSteps.{book_in}

module _ {B E F : Type 0} (M : Meanings B E F) (seats : ℕ) where
  pub notes : (o : B) (slots id : ℕ) (m : SeatState B E) → m.0.has_turn ≡ true → Allows (TurnRule M o seats) slots id m 3 (λ n. n) (λ n w. noted m n w)
  notes o slots id m has s k one at small =
      let v : View B E = m.0 in
      let n : ℕ = get_or s.words 3 0 in
      let here : n ≡ k.f = ap (λ (ws : List ℕ). get_or ws 3 0) k.words_are in
      let w : View B E = noter v n in
      let mine = k.fit id v at in (
        w,
        keeps,
        tt,
        record {
          served = k.served;
          drawn = k.drawn;
          counted = k.counted;
          f = k.f;
          tail = k.tail;
          sleep_words = k.sleep_words;
          words_are = ap (λ (ws : List ℕ). set ws 3 (get_or ws 3 0)) k.words_are;
          count_is = k.count_is;
          line = let sum = waiting_set s.views id v w at in let line = k.line in omega arith;
          few = k.few;
          fit = all_set (Fits M o k.served k.drawn k.f k.tail) s.views id w (λ j u other there. k.fit j u there) record {
            origin_is = mine.origin_is;
            gone_is = mine.gone_is;
            in_line = mine.in_line;
            is_first = mine.is_first;
            has_seen = mine.has_seen;
            sees_all = mine.sees_all;
            own_is = mine.own_is;
            failed_low = mine.failed_low;
            note_is = λ x e. (has, sym (same_value n x e) ∙ here);
            gathers = mine.gathers;
          };
          apart = tickets_set s.views id v w at (λ x e. e) k.apart;
          r = k.r;
          seated = stays held k.r s.views id v w at refl k.seated;
          owners = λ reported n z. k.owners reported n (same_total M seats n s.views id v w at refl z);
          known_low = all_set (λ (u : View B E). u.known ≤ k.r) s.views id w (λ j u other there. k.known_low j u there) (k.known_low id v at);
          seal = seals s.views id v w at refl refl k.seal;
          slot = inr record {
            holder = id;
            view = w;
            homes_is = (is_away M seats o s k id v at has).0;
            there = set_here s.views id w (in_row s.views id v at);
            has_it = has;
            level_is = (is_away M seats o s k id v at has).1;
          };
        },
        refl,
      )

  pub fails : (o : B) (slots id n up : ℕ) (m : SeatState B E) → up ≡ raised_to n → Fails M m n → Allows (TurnRule M o seats) slots id m 3 (λ x. max x up) (λ _ w. counted_failure M m w)
  fails o slots id n up m up_is f s k one at small =
      let v : View B E = m.0 in
      let has = f.0 in
      let b : B = f.2.0 in
      let here : get_or s.words 3 0 ≡ k.f = ap (λ (ws : List ℕ). get_or ws 3 0) k.words_are in
      let mine = k.fit id v at in
      let n_is : n ≡ k.f = (mine.note_is n f.1).1 in
      let low : k.f < 18446744073709551616 = omega arith in
      let to : ℕ = max k.f (raised_to k.f) in
      let w : View B E = failer M v n b in (
        w,
        keeps,
        tt,
        record {
          served = k.served;
          drawn = k.drawn;
          counted = k.counted;
          f = to;
          tail = k.tail;
          sleep_words = k.sleep_words;
          words_are = ap (λ (ws : List ℕ). set ws 3 (max (get_or ws 3 0) up)) k.words_are ∙ ap (λ (z : ℕ). k.drawn % 18446744073709551616 ∷ k.served % 18446744073709551616 ∷ k.counted ∷ max k.f z ∷ (flags k.r seats ++ k.sleep_words)) (up_is ∙ ap (λ (z : ℕ). raised_to z) n_is);
          count_is = k.count_is;
          line = let sum = waiting_set s.views id v w at in let line = k.line in omega arith;
          few = k.few;
          fit = all_set (Fits M o k.served k.drawn to k.tail) s.views id w
              (λ j u other there. let fit = k.fit j u there in record {
                origin_is = fit.origin_is;
                gone_is = fit.gone_is;
                in_line = fit.in_line;
                is_first = fit.is_first;
                has_seen = fit.has_seen;
                sees_all = fit.sees_all;
                own_is = fit.own_is;
                failed_low = λ lt. let was : k.f < 18446744073709551615 = omega arith in let h = fit.failed_low was in omega arith;
                note_is = λ x e. absurd (other (only_holder M seats o s k id v at (mine.is_first has) j u there (fit.note_is x e).0));
                gathers = side_up M seats o k.f to k.tail u.origin u.shorter u.beside (let z : k.f ≤ to = omega arith in z) fit.gathers;
              })
              record {
                origin_is = mine.origin_is;
                gone_is = mine.gone_is;
                in_line = mine.in_line;
                is_first = mine.is_first;
                has_seen = mine.has_seen;
                sees_all = mine.sees_all;
                own_is = mine.own_is;
                failed_low = λ lt. let was : k.f < 18446744073709551615 = omega arith in let h = mine.failed_low was in omega arith;
                note_is = λ x e. (has, sym (same_value (raised_to n) x e) ∙ (ap (λ (z : ℕ). raised_to z) n_is ∙ (let z : raised_to k.f ≡ to = omega arith in z)));
                gathers = side_up M seats o k.f to k.tail v.origin v.shorter v.beside (let z : k.f ≤ to = omega arith in z) mine.gathers;
              };
          apart = tickets_set s.views id v w at (λ x e. e) k.apart;
          r = k.r;
          seated = stays held k.r s.views id v w at refl k.seated;
          owners = λ reported n z. k.owners reported n (same_total M seats n s.views id v w at refl z);
          known_low = all_set (λ (u : View B E). u.known ≤ k.r) s.views id w (λ j u other there. k.known_low j u there) (k.known_low id v at);
          seal = seals s.views id v w at refl refl k.seal;
          slot = inr record {
            holder = id;
            view = w;
            homes_is = (is_away M seats o s k id v at has).0;
            there = set_here s.views id w (in_row s.views id v at);
            has_it = has;
            level_is = level_rises (M.faults o) k.f v.level (M.faults b) f.2.2 (is_away M seats o s k id v at has).1;
          };
        },
        (λ x c ex ec. λ i. (failer M v (same_value n x (sym f.1 ∙ ex) i) (book_in M seats b c [] (sym f.2.1 ∙ ec) i), m.1)),
      )
