-- Raise and hand on keep the rule.
use Rattle.std.proofs.Common.{◌≡◌, ◌≢◌, ℕ, ◌+◌, ◌%◌, ◌<◌, ◌≤◌, inl, inr, true, false, List, [], ◌∷◌, ◌++◌, length, map, drop, set, get_or, sym, refl, ap, ◌∙◌, subst, arith, length-append, append_assoc, Option, Some}
use Rattle.std.proofs.Math.Nat.{mod-add-mod}
use Rattle.std.proofs.lemmas.List.{append-nil}
use mathlib.Core.Option.{some, none, some-injective, some-ne-none}
use mathlib.Core.Option as maybe
use mathlib.Core.Path.{Path}
use lib.ListN.{get_elem?}
use Rattle.atomic_table.specs.Table.{State, Act, keeps, gives, Allows, Valid, carried_after, stepped}
use Rattle.atomic_table.proofs.Lists.{set_here}
use Rattle.turn_lock.specs.declared.view.View.{View}
use Rattle.turn_lock.specs.Meanings.{Meanings, IsLater}
use Rattle.turn_lock.specs.Log.{own_entries}
use Rattle.turn_lock.specs.Seats.{times, total, flags}
use Rattle.turn_lock.specs.Views.{number_of, gathered, held}
use Rattle.turn_lock.specs.TurnRule.{one_if, waiting, Fits, TurnRule}
use Rattle.turn_lock.specs.Steps.{SeatState, resting, raiser, Adds, raised, IsReady, passed}
use Rattle.turn_lock.proofs.ListLemmas.{own_entries-append, own_entries-mine, own_entries-other, drop_front}
use Rattle.turn_lock.proofs.ViewLemmas.{waiting_set, in_row, all_set, seals, tickets_set}
use Rattle.turn_lock.proofs.SeatNumbers.{one_of, stays}
use Rattle.turn_lock.proofs.Values.{true_false, value_or, not_none, level_up, not_true}
use Rattle.turn_lock.proofs.RuleLemmas.{side_grown, same_total, own_gathered, live, apart_numbers, beside_apart, beside_own, only_holder, is_away}

module _ {B E F : Type 0} (M : Meanings B E F) (seats : ℕ) where
  abbrev Raises : (o : B) (id : ℕ) (m : SeatState B E) (s : State (Option B) (View B E)) → Type 0
  Raises o id m s = (w : View B E) × (a : Act (Option B)) × Valid s.homes m.1 a × TurnRule M o seats (stepped s 2 ((get_or s.words 2 0 + 1) % 18446744073709551616) id m.1 w a) × raised M m (w, carried_after m.1 a)

  -- what the M.log got
  abbrev pub more : View B E → B → List E
  more v b = drop (length v.seen) (M.log b)

  more_is : (v : View B E) (b : B) (e : E) → M.log b ≡ v.seen ++ e ∷ [] → more v b ≡ e ∷ []
  more_is v b e is = ap (λ (l : List E). drop (length v.seen) l) is ∙ drop_front v.seen (e ∷ [])

  pub book_in : (b c : B) (rest : List (ℕ × Option B)) → Path (List (ℕ × Option B)) ((0, Some b) ∷ rest) ((0, Some c) ∷ []) → b ≡ c
  book_in b c rest e = ap (λ (l : List (ℕ × Option B)). elim l as (λ _. B) [ [] ↦ b | x ∷ xs ↦ value_or b (x.1) ]) e

  raises_at : (o : B) (id : ℕ) (m : SeatState B E) (b : B) → m.0.has_turn ≡ true → m.1 ≡ (0, Some b) ∷ [] → ((a : B) → m.0.origin ≡ Some a → M.reports a ≡ true → (e : E) × (M.log b ≡ m.0.seen ++ e ∷ []) × (M.owner e ≡ m.0.number))
      → (s : State (Option B) (View B E)) (k : TurnRule M o seats s) → get_elem? s.views id ≡ some m.0 → Raises o id m s
  raises_at o id m b has carries adds s k at =
      let v : View B E = m.0 in
      let w : View B E = raiser M v b in
      let mine = k.fit id v at in
      let asks : M.reports o ≡ true → (e : E) × (M.log b ≡ v.seen ++ e ∷ []) × (M.owner e ≡ v.number) = λ reported. adds o (live M seats o s k id v at has) reported in
      let tail : List E = k.tail ++ more v b in
      let whole : M.reports o ≡ true → M.log b ≡ M.log o ++ tail = λ reported. let a = asks reported in
      a.1 ∙ (λ i. mine.sees_all has reported i ++ sym (more_is v b a.0 a.1) i) ∙ append_assoc (M.log o) k.tail (more v b) in (
        w,
        keeps,
        tt,
        record {
          served = k.served;
          drawn = k.drawn;
          counted = (k.counted + 1) % 18446744073709551616;
          f = k.f;
          tail = tail;
          sleep_words = k.sleep_words;
          words_are = ap (λ (ws : List ℕ). set ws 2 ((get_or ws 2 0 + 1) % 18446744073709551616)) k.words_are;
          count_is = λ reported. let a = asks reported in let n : length (more v b) ≡ 1 = ap (λ (l : List E). length l) (more_is v b a.0 a.1) in
              ap (λ (c : ℕ). (c + 1) % 18446744073709551616) (k.count_is reported) ∙ mod-add-mod (length k.tail) 18446744073709551616 1
              ∙ ap (λ (c : ℕ). c % 18446744073709551616) (omega (arith, length-append k.tail (more v b)));
          line = let sum = waiting_set s.views id v w at in let line = k.line in omega arith;
          few = k.few;
          fit = all_set (Fits M o k.served k.drawn k.f tail) s.views id w
              (λ j u other there. let f = k.fit j u there in record {
                origin_is = f.origin_is;
                gone_is = f.gone_is;
                in_line = f.in_line;
                is_first = f.is_first;
                has_seen = λ reported. let z = f.has_seen reported in (z.0 ++ more v b, sym (append_assoc (M.log o) k.tail (more v b)) ∙ (ap (λ (l : List E). l ++ more v b) z.1 ∙ append_assoc u.seen z.0 (more v b)));
                sees_all = λ e. absurd (other (only_holder M seats o s k id v at (mine.is_first has) j u there e));
                own_is = λ x ex reported. let a = asks reported in let not_mine : M.owner a.0 ≢ u.number = λ e. apart_numbers M seats o s k id j v u other at there (live M seats o s k id v at has) x ex (sym e ∙ a.2) in
                    own_entries-append M.owner u.number k.tail (more v b)
                    ∙ (λ i. f.own_is x ex reported i ++ (ap (λ (l : List E). own_entries M.owner u.number l) (more_is v b a.0 a.1) ∙ own_entries-other M.owner u.number a.0 not_mine) i)
                    ∙ append-nil u.own;
                failed_low = f.failed_low;
                note_is = f.note_is;
                gathers = side_grown M seats o k.f k.tail (more v b) u.origin u.shorter u.beside
                    (λ x ex reported. let a = asks reported in (a.0, more_is v b a.0 a.1, subst (λ (n : ℕ). times n (map number_of u.beside) ≡ 0) (sym a.2) (beside_apart M seats o s k id j v u other at there (live M seats o s k id v at has) x ex))) f.gathers;
              })
              record {
                origin_is = mine.origin_is;
                gone_is = mine.gone_is;
                in_line = mine.in_line;
                is_first = mine.is_first;
                has_seen = λ reported. ([], sym (whole reported) ∙ sym (append-nil (M.log b)));
                sees_all = λ e reported. whole reported;
                own_is = λ x ex reported. let a = asks reported in
                    own_entries-append M.owner v.number k.tail (more v b)
                    ∙ (λ i. mine.own_is x ex reported i ++ (ap (λ (l : List E). own_entries M.owner v.number l) (more_is v b a.0 a.1) ∙ (own_entries-mine M.owner v.number a.0 a.2 ∙ sym (more_is v b a.0 a.1))) i);
                failed_low = mine.failed_low;
                note_is = mine.note_is;
                gathers = side_grown M seats o k.f k.tail (more v b) v.origin v.shorter v.beside
                    (λ x ex reported. let a = asks reported in (a.0, more_is v b a.0 a.1, subst (λ (n : ℕ). times n (map number_of v.beside) ≡ 0) (sym a.2) (beside_own M seats o s k id v at (live M seats o s k id v at has)))) mine.gathers;
              };
          apart = tickets_set s.views id v w at (λ n e. e) k.apart;
          r = k.r;
          seated = stays held k.r s.views id v w at refl k.seated;
          owners = λ reported n z0. let a = asks reported in
              let before : total (λ (u : View B E). times n (gathered u)) s.views ≡ 0 = same_total M seats n s.views id v w at refl z0 in
              let few = one_of (λ (u : View B E). times n (gathered u)) s.views id v at in
              let not_mine : M.owner a.0 ≢ n = λ e. let mine_too = own_gathered M seats v o (live M seats o s k id v at has) in let z : 0 < times n (gathered v) = subst (λ (x : ℕ). 0 < times x (gathered v)) (sym a.2 ∙ e) mine_too in omega arith in
              own_entries-append M.owner n k.tail (more v b) ∙ (λ i. k.owners reported n before i ++ (ap (λ (l : List E). own_entries M.owner n l) (more_is v b a.0 a.1) ∙ own_entries-other M.owner n a.0 not_mine) i);
          known_low = all_set (λ (u : View B E). u.known ≤ k.r) s.views id w (λ j u other there. k.known_low j u there) (k.known_low id v at);
          seal = seals s.views id v w at refl refl k.seal;
          slot = inr record {
            holder = id;
            view = w;
            homes_is = (is_away M seats o s k id v at has).0;
            there = set_here s.views id w (in_row s.views id v at);
            has_it = has;
            level_is = (is_away M seats o s k id v at has).1;
          };
        },
        (λ c e. λ i. (raiser M v (book_in b c [] (sym carries ∙ e) i), m.1)),
      )

  pub raises : (o : B) (slots id : ℕ) (m : SeatState B E) → Adds M m → Allows (TurnRule M o seats) slots id m 2 (λ n. (n + 1) % 18446744073709551616) (λ _ w. raised M m w)
  raises o slots id m adds s k one at small = raises_at o id m adds.1.0 adds.0 adds.1.1 adds.1.2 s k at

  abbrev Hands : (o : B) (id : ℕ) (m : SeatState B E) (s : State (Option B) (View B E)) → Type 0
  Hands o id m s = (w : View B E) × (a : Act (Option B)) × Valid s.homes m.1 a × TurnRule M o seats (stepped s 1 ((get_or s.words 1 0 + 1) % 18446744073709551616) id m.1 w a) × passed M m (w, carried_after m.1 a)

  hands_at : (o : B) (id : ℕ) (v : View B E) (b : B) → v.has_turn ≡ true → ((a : B) → v.origin ≡ Some a → IsLater M a b) → ((a : B) → v.origin ≡ Some a → M.reports a ≡ true → M.log b ≡ v.seen) → v.level ≤ M.faults b
      → (s : State (Option B) (View B E)) (k : TurnRule M o seats s) → get_elem? s.views id ≡ some v → Hands o id (v, (0, Some b) ∷ []) s
  hands_at o id v b has later all high s k at =
      let w : View B E = resting v in
      let mine = k.fit id v at in
      let first : v.ticket ≡ Some k.served = mine.is_first has in
      let one : one_if v.ticket ≡ 1 = ap (λ (t : Option ℕ). one_if t) first in
      let sum : waiting (set s.views id w) + one_if v.ticket ≡ waiting s.views + 0 = waiting_set s.views id v w at in
      let line = k.line in (
        w,
        gives,
        tt,
        record {
          served = k.served + 1;
          drawn = k.drawn;
          counted = k.counted;
          f = k.f;
          tail = k.tail;
          sleep_words = k.sleep_words;
          words_are = ap (λ (ws : List ℕ). set ws 1 ((get_or ws 1 0 + 1) % 18446744073709551616)) k.words_are
              ∙ ap (λ (z : ℕ). k.drawn % 18446744073709551616 ∷ z ∷ k.counted ∷ k.f ∷ (flags k.r seats ++ k.sleep_words)) (mod-add-mod k.served 18446744073709551616 1);
          count_is = k.count_is;
          line = omega arith;
          few = k.few;
          fit = all_set (Fits M o (k.served + 1) k.drawn k.f k.tail) s.views id w
              (λ j u other there. let f = k.fit j u there in record {
                origin_is = f.origin_is;
                gone_is = f.gone_is;
                in_line = λ t e. let l = f.in_line t e in
                    let late : k.served ≢ t = λ same. other (k.apart j id u v there at (t, e, first ∙ ap (λ (n : ℕ). Some n) same)) in (omega arith, l.1);
                is_first = λ e. absurd (other (only_holder M seats o s k id v at first j u there e));
                has_seen = f.has_seen;
                sees_all = f.sees_all;
                own_is = f.own_is;
                failed_low = f.failed_low;
                note_is = f.note_is;
                gathers = f.gathers;
              })
              record {
                origin_is = mine.origin_is;
                gone_is = λ e. (refl, refl);
                in_line = λ t e. absurd (not_none t e);
                is_first = λ e. absurd (true_false (sym e));
                has_seen = mine.has_seen;
                sees_all = λ e. absurd (true_false (sym e));
                own_is = mine.own_is;
                failed_low = mine.failed_low;
                note_is = λ n e. absurd (not_none n e);
                gathers = mine.gathers;
              };
          apart = tickets_set s.views id v w at (λ n e. absurd (not_none n e)) k.apart;
          r = k.r;
          seated = stays held k.r s.views id v w at refl k.seated;
          owners = λ reported n z. k.owners reported n (same_total M seats n s.views id v w at refl z);
          known_low = all_set (λ (u : View B E). u.known ≤ k.r) s.views id w (λ j u other there. k.known_low j u there) (k.known_low id v at);
          seal = seals s.views id v w at refl refl k.seal;
          slot = inl record {
            book = b;
            homes_is = ap (λ (hs : List (maybe.Option (Option B))). set hs 0 (some (Some b))) (is_away M seats o s k id v at has).0;
            later = later o (live M seats o s k id v at has);
            level_is = level_up (M.faults o) k.f v.level (M.faults b) high (is_away M seats o s k id v at has).1;
            log_is = λ reported. all o (live M seats o s k id v at has) reported ∙ mine.sees_all has reported;
            nobody = all_set (λ (u : View B E). u.has_turn ≡ false) s.views id w
                (λ j u other there. not_true u.has_turn (λ e. other (only_holder M seats o s k id v at first j u there e))) refl;
          };
        },
        (
          refl,
          λ a e reported. let reported' : M.reports o ≡ true = ap M.reports (sym (mine.origin_is a e)) ∙ reported in
              (k.tail, mine.sees_all has reported' ∙ ap (λ (x : B). M.log x ++ k.tail) (sym (mine.origin_is a e)), mine.own_is a e reported'),
        ),
      )

  pub hands : (o : B) (slots id : ℕ) (m : SeatState B E) → IsReady M m → Allows (TurnRule M o seats) slots id m 1 (λ n. (n + 1) % 18446744073709551616) (λ _ w. passed M m w)
  hands o slots id m ready s k one at small =
      let go = hands_at o id m.0 ready.1.0 ready.0 ready.1.2 ready.1.3 ready.1.4 s k at in
      subst (λ (c : List (ℕ × Option B)). Hands o id (m.0, c) s) (sym ready.1.1) go
