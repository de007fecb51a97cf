-- Draw and look keep the rule.
use Rattle.std.proofs.Common.{◌≡◌, ◌≢◌, ℕ, ◌+◌, ◌%◌, ◌<◌, ◌≤◌, ◌⊎◌, inl, inr, ⊎_elim, true, false, List, [], ◌∷◌, ◌++◌, set, get_or, sym, refl, ap, ◌∙◌, subst, arith, Option, Some, None}
use Rattle.std.proofs.Math.Nat.{mod-add-mod}
use Rattle.std.proofs.lemmas.List.{append-nil}
use mathlib.Core.Option.{some, none, some-injective, some-ne-none}
use mathlib.Core.Option as maybe
use mathlib.Core.Logic.{dite}
use native.Mathlib.Decide.{ℕ_discrete}
use lib.ListN.{get_elem?}
use Rattle.atomic_table.specs.Table.{State, Act, keeps, takes, Allows, Valid, carried_after, stepped}
use Rattle.atomic_table.proofs.Lists.{set_here, set_again, one_turn}
use Rattle.turn_lock.specs.declared.view.View.{View}
use Rattle.turn_lock.specs.Meanings.{Meanings, IsLater}
use Rattle.turn_lock.specs.Log.{own_entries}
use Rattle.turn_lock.specs.Seats.{times, total, Seated, flags}
use Rattle.turn_lock.specs.Views.{gathered, held}
use Rattle.turn_lock.specs.TurnRule.{one_if, waiting, SameTicket, Distinct, Seals, Fits, AtHome, IsAway, TurnRule}
use Rattle.turn_lock.specs.Steps.{SeatState, waiter, Rests, Waits, drew, holder, looked}
use Rattle.turn_lock.proofs.ViewLemmas.{waiting_set, in_row, all_set, distinct_set, seals, tickets_set}
use Rattle.turn_lock.proofs.SeatNumbers.{stays}
use Rattle.turn_lock.proofs.Values.{true_false, same_value, not_none}
use Rattle.turn_lock.proofs.RuleLemmas.{same_total, stays_put, near, is_home}

module _ {B E F : Type 0} (M : Meanings B E F) (seats : ℕ) where
  wider : (o : B) (served drawn f : ℕ) (tail : List E) (u : View B E) → Fits M o served drawn f tail u → Fits M o served (drawn + 1) f tail u
  wider o served drawn f tail u fit = record {
    origin_is = fit.origin_is;
    gone_is = fit.gone_is;
    in_line = λ t e. let l = fit.in_line t e in (l.0, omega arith);
    is_first = fit.is_first;
    has_seen = fit.has_seen;
    sees_all = fit.sees_all;
    own_is = fit.own_is;
    failed_low = fit.failed_low;
    note_is = fit.note_is;
    gathers = fit.gathers;
  }

  pub draws : (o : B) (slots id : ℕ) (v : View B E) → v.ticket ≡ None → v.has_turn ≡ false → (a : B) × (v.origin ≡ Some a) → Allows (TurnRule M o seats) slots id (v, []) 0 (λ n. (n + 1) % 18446744073709551616) (drew (v, []))
  draws o slots id v idle not alive s k one at small =
      let w : View B E = waiter v k.drawn in
      let mine = k.fit id v at in
      let free : one_if v.ticket ≡ 0 = ap (λ (t : Option ℕ). one_if t) idle in
      let sum : waiting (set s.views id w) + one_if v.ticket ≡ waiting s.views + 1 = waiting_set s.views id v w at in
      let line = k.line in (
        w,
        keeps,
        tt,
        record {
          served = k.served;
          drawn = k.drawn + 1;
          counted = k.counted;
          f = k.f;
          tail = k.tail;
          sleep_words = k.sleep_words;
          words_are = ap (λ (ws : List ℕ). set ws 0 ((get_or ws 0 0 + 1) % 18446744073709551616)) k.words_are
              ∙ ap (λ (z : ℕ). z ∷ k.served % 18446744073709551616 ∷ k.counted ∷ k.f ∷ (flags k.r seats ++ k.sleep_words)) (mod-add-mod k.drawn 18446744073709551616 1);
          count_is = k.count_is;
          line = omega arith;
          few = k.few;
          fit = all_set (Fits M o k.served (k.drawn + 1) k.f k.tail) s.views id w (λ j u other there. wider o k.served k.drawn k.f k.tail u (k.fit j u there)) record {
            origin_is = mine.origin_is;
            gone_is = λ e. absurd (not_none alive.0 (sym e ∙ alive.1));
            in_line = λ t e. let same : k.drawn ≡ t = same_value k.drawn t e in (omega arith, omega arith);
            is_first = λ e. absurd (true_false (sym e ∙ not));
            has_seen = mine.has_seen;
            sees_all = λ e. absurd (true_false (sym e ∙ not));
            own_is = mine.own_is;
            failed_low = mine.failed_low;
            note_is = mine.note_is;
            gathers = mine.gathers;
          };
          apart = distinct_set SameTicket s.views id w k.apart (λ j u other there r.
              let late : (t : ℕ) → Some k.drawn ≡ Some t → u.ticket ≡ Some t → ⊥ = λ t a b. let same : k.drawn ≡ t = same_value k.drawn t a in let l = (k.fit j u there).in_line t b in omega arith in
              ⊎_elim (λ (e : SameTicket w u). late e.0 e.1 e.2) (λ (e : SameTicket u w). late e.0 e.2 e.1) r);
          r = k.r;
          seated = stays held k.r s.views id v w at refl k.seated;
          owners = λ reported n z. k.owners reported n (same_total M seats n s.views id v w at refl z);
          known_low = all_set (λ (u : View B E). u.known ≤ k.r) s.views id w (λ j u other there. k.known_low j u there) (k.known_low id v at);
          seal = seals s.views id v w at refl refl k.seal;
          slot = stays_put M seats o k.f k.tail s.homes s.views id v w at not not k.slot;
        },
        (k.drawn, ap (λ (ws : List ℕ). get_or ws 0 0) k.words_are, refl),
      )

  pub draws_at : (o : B) (slots id : ℕ) (m : SeatState B E) → Rests m → Allows (TurnRule M o seats) slots id m 0 (λ n. (n + 1) % 18446744073709551616) (drew m)
  draws_at o slots id m rests = subst (λ (c : List (ℕ × Option B)). Allows (TurnRule M o seats) slots id (m.0, c) 0 (λ n. (n + 1) % 18446744073709551616) (drew (m.0, c))) (sym rests.0) (draws o slots id m.0 rests.1 rests.2 rests.4)

  abbrev Looks : (o : B) (id : ℕ) (v : View B E) (s : State (Option B) (View B E)) → Type 0
  Looks o id v s = (w : View B E) × (a : Act (Option B)) × Valid s.homes [] a × TurnRule M o seats (stepped s 1 (get_or s.words 1 0) id [] w a) × looked M (v, []) (get_or s.words 1 0) (w, carried_after [] a)

  looks_in : (o : B) (id : ℕ) (v : View B E) (t : ℕ) → v.ticket ≡ Some t → v.has_turn ≡ false → (s : State (Option B) (View B E)) (k : TurnRule M o seats s) → get_elem? s.views id ≡ some v → get_or s.words 1 0 ≡ t % 18446744073709551616 → Looks o id v s
  looks_in o id v t has not s k at hit =
      let mine = k.fit id v at in
      let low : k.served ≤ t = (mine.in_line t has).0 in
      let high : t < k.drawn = (mine.in_line t has).1 in
      let close : k.drawn ≤ k.served + 65 = near M seats o s k in
      let here : get_or s.words 1 0 ≡ k.served % 18446744073709551616 = ap (λ (ws : List ℕ). get_or ws 1 0) k.words_are in
      let is : k.served ≡ t = one_turn k.served t 18446744073709551616 low (omega arith) (sym here ∙ hit) in
      let first : v.ticket ≡ Some k.served = has ∙ ap (λ (n : ℕ). Some n) (sym is) in
      let h = is_home M seats o s k id v at first not in
      let w : View B E = holder M v h.book in (
        w,
        takes 0 (Some h.book),
        ap (λ (hs : List (maybe.Option (Option B))). get_elem? hs 0) h.homes_is,
        record {
          served = k.served;
          drawn = k.drawn;
          counted = k.counted;
          f = k.f;
          tail = k.tail;
          sleep_words = k.sleep_words;
          words_are = ap (λ (ws : List ℕ). set ws 1 (get_or ws 1 0)) k.words_are;
          count_is = k.count_is;
          line = let sum = waiting_set s.views id v w at in let line = k.line in omega arith;
          few = k.few;
          fit = all_set (Fits M o k.served k.drawn k.f k.tail) s.views id w (λ j u other there. k.fit j u there) record {
            origin_is = mine.origin_is;
            gone_is = λ e. absurd (not_none t (sym (mine.gone_is e).0 ∙ has));
            in_line = mine.in_line;
            is_first = λ e. first;
            has_seen = λ reported. ([], sym (h.log_is reported) ∙ sym (append-nil (M.log h.book)));
            sees_all = λ e reported. h.log_is reported;
            own_is = mine.own_is;
            failed_low = mine.failed_low;
            note_is = λ n e. (refl, (mine.note_is n e).1);
            gathers = mine.gathers;
          };
          apart = tickets_set s.views id v w at (λ n e. e) k.apart;
          r = k.r;
          seated = stays held k.r s.views id v w at refl k.seated;
          owners = λ reported n z. k.owners reported n (same_total M seats n s.views id v w at refl z);
          known_low = all_set (λ (u : View B E). u.known ≤ k.r) s.views id w (λ j u other there. k.known_low j u there) (k.known_low id v at);
          seal = seals s.views id v w at refl refl k.seal;
          slot = inr record {
            holder = id;
            view = w;
            homes_is = ap (λ (hs : List (maybe.Option (Option B))). set hs 0 none) h.homes_is;
            there = set_here s.views id w (in_row s.views id v at);
            has_it = refl;
            level_is = h.level_is;
          };
        },
        (
          t,
          has,
          inr (
            hit,
            (
              h.book,
              record {
                later = λ a e. subst (λ (x : B). IsLater M x h.book) (sym (mine.origin_is a e)) h.later;
                grows = λ a e reported. let reported' : M.reports o ≡ true = ap M.reports (sym (mine.origin_is a e)) ∙ reported in
                    let seen = mine.has_seen reported' in (seen.0, h.log_is reported' ∙ seen.1);
              },
              refl,
            ),
          ),
        ),
      )

  looks_on : (o : B) (id : ℕ) (v : View B E) (t : ℕ) → v.ticket ≡ Some t → (s : State (Option B) (View B E)) (k : TurnRule M o seats s) → get_elem? s.views id ≡ some v → get_or s.words 1 0 ≢ t % 18446744073709551616 → Looks o id v s
  looks_on o id v t has s k at miss =
      let same : set s.views id v ≡ s.views = set_again s.views id v at in (
        v,
        keeps,
        tt,
        record {
          served = k.served;
          drawn = k.drawn;
          counted = k.counted;
          f = k.f;
          tail = k.tail;
          sleep_words = k.sleep_words;
          words_are = ap (λ (ws : List ℕ). set ws 1 (get_or ws 1 0)) k.words_are;
          count_is = k.count_is;
          line = ap (λ (vs : List (View B E)). k.served + waiting vs) same ∙ k.line;
          few = k.few;
          r = k.r;
          fit = subst (λ (vs : List (View B E)). (i : ℕ) (u : View B E) → get_elem? vs i ≡ some u → Fits M o k.served k.drawn k.f k.tail u) (sym same) k.fit;
          apart = subst (λ (vs : List (View B E)). Distinct SameTicket vs) (sym same) k.apart;
          seated = subst (λ (vs : List (View B E)). Seated held k.r vs) (sym same) k.seated;
          owners = subst (λ (vs : List (View B E)). M.reports o ≡ true → (n : ℕ) → total (λ (u : View B E). times n (gathered u)) vs ≡ 0 → own_entries M.owner n k.tail ≡ []) (sym same) k.owners;
          known_low = subst (λ (vs : List (View B E)). (i : ℕ) (u : View B E) → get_elem? vs i ≡ some u → u.known ≤ k.r) (sym same) k.known_low;
          seal = subst (λ (vs : List (View B E)). Seals vs) (sym same) k.seal;
          slot = subst (λ (vs : List (View B E)). AtHome M o k.f k.tail s.homes vs ⊎ IsAway (M.faults o) k.f s.homes vs) (sym same) k.slot;
        },
        (t, has, inl (miss, refl)),
      )

  pub looks : (o : B) (slots id : ℕ) (v : View B E) (t : ℕ) → v.ticket ≡ Some t → v.has_turn ≡ false → Allows (TurnRule M o seats) slots id (v, []) 1 (λ n. n) (looked M (v, []))
  looks o slots id v t has not s k one at small = dite (ℕ_discrete (get_or s.words 1 0) (t % 18446744073709551616)) (λ hit. looks_in o id v t has not s k at hit) (λ miss. looks_on o id v t has s k at miss)

  pub looks_at : (o : B) (slots id n : ℕ) (m : SeatState B E) → Waits m n → Allows (TurnRule M o seats) slots id m 1 (λ n. n) (looked M m)
  looks_at o slots id n m waits = subst (λ (c : List (ℕ × Option B)). Allows (TurnRule M o seats) slots id (m.0, c) 1 (λ n. n) (looked M (m.0, c))) (sym waits.0) (looks o slots id m.0 waits.3.0 waits.3.1 waits.1)
