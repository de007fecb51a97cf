-- Split and join keep the rule.
use Rattle.std.proofs.Common.{◌≡◌, ◌≢◌, ℕ, suc, ◌≤◌, ◌⊎◌, inl, inr, ⊎_elim, Bool, true, false, if◌then◌else◌, nat_lt, List, [], ◌∷◌, ◌++◌, length, map, set, sym, refl, ap, ◌∙◌, arith, length-append, append_assoc, Option, Some, None}
use mathlib.Core.Option.{some, none, some-injective, some-ne-none}
use mathlib.Core.Option as maybe
use lib.ListN.{get_elem?}
use Rattle.atomic_table.specs.Table.{State, Splits, Joins}
use Rattle.atomic_table.proofs.Lists.{at_longer, at_set, set_else}
use Rattle.std.proofs.lemmas.Bool.Decides.{nat_tests}
use Rattle.turn_lock.specs.declared.view.View.{View}
use Rattle.turn_lock.specs.declared.view.Beside.{Beside}
use Rattle.turn_lock.specs.Meanings.{Meanings}
use Rattle.turn_lock.specs.Log.{own_entries, StartsWith}
use Rattle.turn_lock.specs.Seats.{times, once_below, total}
use Rattle.turn_lock.specs.Views.{in_list, if_live, number_or, number_of, spent_view, gathered, held, left_with, split_to, kept_of, joining}
use Rattle.turn_lock.specs.TurnRule.{one_if, SameTicket, Fits, AtHome, IsAway, TurnRule}
use Rattle.turn_lock.proofs.ListLemmas.{Each-append}
use Rattle.turn_lock.proofs.ViewLemmas.{waiting_snoc, all_snoc, at_end, distinct_snoc, waiting_set, all_set, tickets_set}
use Rattle.turn_lock.proofs.SeatNumbers.{splits, joins, total_snoc, total_set, one_of, times_append, times_here}
use Rattle.turn_lock.proofs.Values.{true_false, not_none}
use Rattle.turn_lock.proofs.RuleLemmas.{nothing_beside, same_total, total_sum, stays_fit, left_fits, stays_put}

module _ {B E F : Type 0} (M : Meanings B E F) (seats : ℕ) where
  -- while one seat is not spent and not sealed, no seat is sealed
  never_shut : (o : B) (s : State (Option B) (View B E)) (k : TurnRule M o seats s) (id : ℕ) (v l r : View B E) → get_elem? s.views id ≡ some v → {a : B} → v.origin ≡ Some a → v.sealed ≡ false → l.sealed ≡ v.sealed → l.origin ≡ v.origin → r.sealed ≡ false
      → (i : ℕ) (u : View B E) → get_elem? (set s.views id l ++ r ∷ []) i ≡ some u → u.sealed ≡ true → ⊥
  never_shut o s k id v l r at {a} alive not_shut sl so sr i u eu shut = ⊎_elim
      (λ (h : get_elem? (set s.views id l) i ≡ some u). ⊎_elim
      (λ (t : (i ≡ id) × (l ≡ u)). true_false (sym shut ∙ (ap (λ (x : View B E). x.sealed) (sym t.1) ∙ (sl ∙ not_shut))))
      (λ (t : (i ≢ id) × (get_elem? s.views i ≡ some u)). not_none a (sym (k.seal i id u v t.1 shut at (λ e. t.0 (sym e))) ∙ alive))
      (at_set s.views id i l u h))
      (λ (h : (i ≡ length (set s.views id l)) × (r ≡ u)). true_false (sym shut ∙ (ap (λ (x : View B E). x.sealed) (sym h.1) ∙ sr)))
      (at_end (set s.views id l) r i u eu)

  slot_snoc : (o : B) (f : ℕ) (tail : List E) (homes : List (maybe.Option (Option B))) (views : List (View B E)) (r : View B E) → r.has_turn ≡ false → AtHome M o f tail homes views ⊎ IsAway (M.faults o) f homes views
      → AtHome M o f tail homes (views ++ r ∷ []) ⊎ IsAway (M.faults o) f homes (views ++ r ∷ [])
  slot_snoc o f tail homes views r not slot = ⊎_elim
      (λ (h : AtHome M o f tail homes views). inl record {
        book = h.book;
        homes_is = h.homes_is;
        later = h.later;
        log_is = h.log_is;
        level_is = h.level_is;
        nobody = all_snoc (λ (u : View B E). u.has_turn ≡ false) views r h.nobody not;
      })
      (λ (h : IsAway (M.faults o) f homes views). inr record {
        holder = h.holder;
        view = h.view;
        homes_is = h.homes_is;
        there = at_longer views (r ∷ []) h.holder h.view h.there;
        has_it = h.has_it;
        level_is = h.level_is;
      })
      slot

  -- of a number that is reserved, no entry is there
  none_of : (o : B) (s : State (Option B) (View B E)) (k : TurnRule M o seats s) (id n : ℕ) (v : View B E) → get_elem? s.views id ≡ some v → v.reserved ≡ Some n → total (λ (u : View B E). times n (gathered u)) s.views ≡ 0
  none_of o s k id n v at res =
      let sum = total_sum M seats n s.views in
      let one = one_of (λ (u : View B E). times n (in_list u.reserved)) s.views id v at in
      let is : times n (in_list v.reserved) ≡ times n (n ∷ []) = ap (λ (x : Option ℕ). times n (in_list x)) res in
      let here = times_here n in let each = k.seated.each n in let low : once_below n k.r ≤ 1 = grind (arith, nat_tests) in omega arith

  pub splits_off : (o : B) (id n : ℕ) (v : View B E) (a : B) → v.origin ≡ Some a → v.reserved ≡ Some n → v.sealed ≡ false → v.has_turn ≡ false → Splits (TurnRule M o seats) id v (left_with v) (split_to v)
  splits_off o id n v a alive res not_shut not s k at =
      let l : View B E = left_with v in
      let r : View B E = split_to v in
      let mine = k.fit id v at in
      let is_n : number_or v.reserved ≡ n = ap (λ (x : Option ℕ). number_or x) res in
      let no_entry = none_of o s k id n v at res in
      let cut_is : held v ≡ n ∷ held l = ap (λ (x : Option ℕ). in_list x ++ gathered v) res in
      let new_is : held r ≡ n ∷ [] = (λ i. if_live (alive i) (is_n i ∷ [])) in
      let old = stays_fit M seats o k.served k.drawn k.f k.tail s.views id l k.fit (left_fits M seats o k.served k.drawn k.f k.tail v mine) in record {
        served = k.served;
        drawn = k.drawn;
        counted = k.counted;
        f = k.f;
        r = k.r;
        tail = k.tail;
        sleep_words = k.sleep_words;
        words_are = k.words_are;
        count_is = k.count_is;
        line = let sum = waiting_set s.views id v l at in let end = waiting_snoc (set s.views id l) r in let line = k.line in omega arith;
        few = k.few;
        fit = all_snoc (Fits M o k.served k.drawn k.f k.tail) (set s.views id l) r old record {
          origin_is = mine.origin_is;
          gone_is = λ e. (refl, refl);
          in_line = λ t e. absurd (not_none t e);
          is_first = λ e. absurd (true_false (sym e));
          has_seen = mine.has_seen;
          sees_all = λ e. absurd (true_false (sym e));
          own_is = λ x ex reported. ap (λ (m : ℕ). own_entries M.owner m k.tail) is_n ∙ k.owners reported n no_entry;
          failed_low = λ lt. omega arith;
          note_is = λ m e. absurd (not_none m e);
          gathers = nothing_beside M seats o k.f k.tail v.origin;
        };
        apart = distinct_snoc SameTicket (set s.views id l) r (tickets_set s.views id v l at (λ x e. e) k.apart)
            (λ u e. ⊎_elim (λ (h : SameTicket r u). not_none h.0 h.1) (λ (h : SameTicket u r). not_none h.0 h.2) e);
        seated = splits held k.r s.views id n v l r at cut_is new_is k.seated;
        owners = λ reported m z. k.owners reported m (let x = total_snoc (λ (u : View B E). times m (gathered u)) (set s.views id l) r in let y : total (λ (u : View B E). times m (gathered u)) (set s.views id l) ≡ 0 = omega arith in same_total M seats m s.views id v l at refl y);
        known_low = all_snoc (λ (u : View B E). u.known ≤ k.r) (set s.views id l) r (all_set (λ (u : View B E). u.known ≤ k.r) s.views id l (λ j u other there. k.known_low j u there) (k.known_low id v at)) (k.known_low id v at);
        seal = λ i j u x eu shut ex other. absurd (never_shut o s k id v l r at alive not_shut refl refl refl i u eu shut);
        slot = slot_snoc o k.f k.tail s.homes (set s.views id l) r refl (stays_put M seats o k.f k.tail s.homes s.views id v l at not not k.slot);
      }

  one_drawn : (o : B) (s : State (Option B) (View B E)) (k : TurnRule M o seats s) (id : ℕ) (v : View B E) (a : B) → get_elem? s.views id ≡ some v → v.origin ≡ Some a → 1 ≤ k.r
  one_drawn o s k id v a at ev = let n : length (gathered v) ≡ suc (length (map number_of v.beside)) = ap (λ (o : Option B). length (if_live o (v.number ∷ map number_of v.beside))) ev in
      let low = one_of (λ (u : View B E). length (held u)) s.views id v at in let all = k.seated.all in omega (arith, length-append (in_list v.reserved) (gathered v))

  longer_fits : (x : Bool) (xs ys l : List E) → StartsWith xs l → StartsWith ys l → StartsWith (if x then ys else xs) l
  longer_fits true xs ys l a b = b
  longer_fits false xs ys l a b = a

  map_numbers : (xs ys : List (Beside E)) → map number_of (xs ++ ys) ≡ map number_of xs ++ map number_of ys
  map_numbers [] ys = refl
  map_numbers (x ∷ xs) ys = ap (λ (l : List ℕ). x.number ∷ l) (map_numbers xs ys)

  gathered_both : (v w : View B E) (a b : B) → v.origin ≡ Some a → w.origin ≡ Some b → gathered (joining v w) ≡ gathered v ++ gathered w
  gathered_both v w a b ev ew =
      let x : Beside E = record { number = w.number; own = w.own; failed = w.failed } in
      (λ i. if_live (ev i) (v.number ∷ map_numbers (v.beside ++ x ∷ []) w.beside i))
      ∙ (ap (λ (l : List ℕ). v.number ∷ (l ++ map number_of w.beside)) (map_numbers v.beside (x ∷ []))
      ∙ (ap (λ (l : List ℕ). v.number ∷ l) (append_assoc (map number_of v.beside) (w.number ∷ []) (map number_of w.beside))
      ∙ (λ i. if_live (sym ev i) (v.number ∷ map number_of v.beside) ++ if_live (sym ew i) (w.number ∷ map number_of w.beside))))

  pub merges : (o : B) (id other : ℕ) (v w : View B E) (a b : B) → v.origin ≡ Some a → w.origin ≡ Some b → v.has_turn ≡ false → w.has_turn ≡ false → v.ticket ≡ None → w.ticket ≡ None → w.reserved ≡ None → Joins (TurnRule M o seats) id v other w (joining v w) spent_view
  merges o id other v w a b ev ew not_v not_w idle_v idle_w free s k at ne there' =
      let both : View B E = joining v w in
      let there : get_elem? s.views other ≡ some w = sym (set_else s.views id other both ne) ∙ there' in
      let mv = k.fit id v at in let mw = k.fit other w there in
      let vs : List (View B E) = set s.views id both in
      let open_ : (i : ℕ) (u : View B E) → get_elem? (set vs other spent_view) i ≡ some u → u.sealed ≡ true → ⊥ = λ i u eu shut. ⊎_elim
      (λ (t : (i ≡ other) × (spent_view ≡ u)). true_false (sym shut ∙ ap (λ (x : View B E). x.sealed) (sym t.1)))
      (λ (t : (i ≢ other) × (get_elem? vs i ≡ some u)). ⊎_elim
      (λ (z : (i ≡ id) × (both ≡ u)). not_none b (sym (k.seal id other v w at (ap (λ (x : View B E). x.sealed) z.1 ∙ shut) there ne) ∙ ew))
      (λ (z : (i ≢ id) × (get_elem? s.views i ≡ some u)). not_none a (sym (k.seal i id u v z.1 shut at (λ e. z.0 (sym e))) ∙ ev))
      (at_set s.views id i both u t.1))
      (at_set vs other i spent_view u eu) in
      let sum : gathered both ≡ gathered v ++ gathered w = gathered_both v w a b ev ew in
      let res : in_list w.reserved ≡ [] = ap (λ (x : Option ℕ). in_list x) free in
      let held_is : held both ≡ held v ++ held w = ap (λ (l : List ℕ). in_list v.reserved ++ l) sum ∙ (sym (append_assoc (in_list v.reserved) (gathered v) (gathered w)) ∙ ap (λ (l : List ℕ). held v ++ (l ++ gathered w)) (sym res)) in record {
        served = k.served;
        drawn = k.drawn;
        counted = k.counted;
        f = k.f;
        r = k.r;
        tail = k.tail;
        sleep_words = k.sleep_words;
        words_are = k.words_are;
        count_is = k.count_is;
        line = let x = waiting_set s.views id v both at in let y = waiting_set vs other w spent_view there' in let z : one_if w.ticket ≡ 0 = ap (λ (t : Option ℕ). one_if t) idle_w in let line = k.line in omega arith;
        few = k.few;
        fit = stays_fit M seats o k.served k.drawn k.f k.tail vs other spent_view
            (stays_fit M seats o k.served k.drawn k.f k.tail s.views id both k.fit record {
              origin_is = mv.origin_is;
              gone_is = mv.gone_is;
              in_line = mv.in_line;
              is_first = mv.is_first;
              has_seen = λ reported. longer_fits (nat_lt (length v.seen) (length w.seen)) v.seen w.seen (M.log o ++ k.tail) (mv.has_seen reported) (mw.has_seen reported);
              sees_all = λ e. absurd (true_false (sym e ∙ not_v));
              own_is = mv.own_is;
              failed_low = mv.failed_low;
              note_is = mv.note_is;
              gathers = record {
                short_is = λ reported. longer_fits (nat_lt (length v.seen) (length w.seen)) w.seen v.seen (M.log o ++ k.tail) (mw.has_seen reported) (mv.has_seen reported);
                own_is = λ x e reported. let P : Beside E → Type 0 = λ y. own_entries M.owner y.number k.tail ≡ y.own in
                    Each-append P (v.beside ++ kept_of w ∷ []) w.beside (Each-append P v.beside (kept_of w ∷ []) (mv.gathers.own_is x e reported) (mw.own_is b ew reported, tt)) (mw.gathers.own_is b ew reported);
                failed_low = λ lt. let P : Beside E → Type 0 = λ y. y.failed ≤ k.f in
                    Each-append P (v.beside ++ kept_of w ∷ []) w.beside (Each-append P v.beside (kept_of w ∷ []) (mv.gathers.failed_low lt) (mw.failed_low lt, tt)) (mw.gathers.failed_low lt);
              };
            })
            record {
              origin_is = λ x e. absurd (not_none x e);
              gone_is = λ e. (refl, refl);
              in_line = λ t e. absurd (not_none t e);
              is_first = λ e. absurd (true_false (sym e));
              has_seen = λ reported. (M.log o ++ k.tail, refl);
              sees_all = λ e. absurd (true_false (sym e));
              own_is = λ x e. absurd (not_none x e);
              failed_low = λ lt. omega arith;
              note_is = λ m e. absurd (not_none m e);
              gathers = nothing_beside M seats o k.f k.tail None;
            };
        apart = tickets_set vs other w spent_view there' (λ n e. absurd (not_none n e)) (tickets_set s.views id v both at (λ n e. e) k.apart);
        seated = joins held k.r s.views id other v w both spent_view at there' held_is refl k.seated;
        owners = λ reported m z. k.owners reported m (
            let x = total_set (λ (u : View B E). times m (gathered u)) s.views id v both at in let y = total_set (λ (u : View B E). times m (gathered u)) vs other w spent_view there' in
            let c : times m (gathered both) ≡ times m (gathered v ++ gathered w) = ap (λ (l : List ℕ). times m l) sum in let d = times_append m (gathered v) (gathered w) in omega arith);
        known_low = all_set (λ (u : View B E). u.known ≤ k.r) vs other spent_view (λ j u x y. all_set (λ (u : View B E). u.known ≤ k.r) s.views id both (λ j u other there. k.known_low j u there) (let p = k.known_low id v at in let q = k.known_low other w there in omega arith) j u y) (let p = k.known_low id v at in let q = k.few.0 in let one : 1 ≤ k.r = one_drawn o s k id v a at ev in one);
        seal = λ i j u x eu shut ex apart. absurd (open_ i u eu shut);
        slot = stays_put M seats o k.f k.tail s.homes vs other w spent_view there' not_w refl (stays_put M seats o k.f k.tail s.homes s.views id v both at not_v not_v k.slot);
      }
