-- What a whole turn did, from what its steps reported.
use Rattle.std.proofs.Common.{◌≡◌, ℕ, ◌≤◌, ◌+◌, if◌then◌else◌, Bool, true, false, List, [], ◌∷◌, ◌++◌, length, drop, sym, refl, ap, ◌∙◌, subst, le_refl, Some}
use Rattle.std.specs.Prelude.{MatchBool}
use Rattle.turn_lock.specs.declared.view.View.{View}
use Rattle.turn_lock.specs.Meanings.{Meanings, IsLater}
use Rattle.turn_lock.specs.Count.{Rose, raised_to}
use Rattle.turn_lock.specs.Log.{grown}
use Rattle.turn_lock.specs.Steps.{Found, SeatState, waiter, resting, holder, noter, raised, counted_failure, IsOwn, Adds, Fails, IsReady}
use Rattle.atomic_table.specs.Seated.{TableId}
use Rattle.turn_lock.specs.Known.{known_of}
use Rattle.turn_lock.specs.Turn.{Ran}
use Rattle.turn_lock.proofs.ListLemmas.{drop_front}

module _ {B E F : Type 0} (M : Meanings B E F) where
  abbrev raise_if : Bool → View B E → B → View B E
  raise_if g u c = record u { seen = if g then M.log c else u.seen; own = if g then u.own ++ drop (length u.seen) (M.log c) else u.own }

  abbrev fail_if : Bool → View B E → ℕ → B → View B E
  fail_if h u n c = record u { failed = if h then u.failed + 1 else u.failed; level = if h then M.faults c else u.level; note = if h then Some (raised_to n) else u.note }

  -- the view when the book is back in its slot
  abbrev pub away : View B E → ℕ → B → ℕ → View B E
  away v t b n = noter (holder M (waiter v t) b) n

module _ {B E F Reply : Type 0} (M : Meanings B E F) where
  -- what is known of a turn once it was taken: the book found and left, and what was asked of both
  pub record Taken (changes : B → Reply → B → Type 0) (grows fails : Reply → Bool) (asks : E) (v : View B E) (t n : ℕ) (b c : B) (reply : Reply) (g h : Bool) : Type 0 where
    pub found : Found M v b
    pub related : changes b reply c
    pub fix : M.fixed c ≡ M.fixed b
    pub keeps : M.sound b → M.sound c
    pub same : M.reports c ≡ M.reports b
    pub grew : M.reports b ≡ true → M.log c ≡ grown (grows reply) (M.log b) asks
    pub up : M.faults b ≤ M.faults c
    pub rose : fails reply ≡ true → Rose (M.faults b) (M.faults c)
    pub mine : M.owner asks ≡ v.number
    pub g_is : g ≡ grows reply
    pub h_is : h ≡ fails reply

  module _ {changes : B → Reply → B → Type 0} {grows fails : Reply → Bool} {asks : E} {v : View B E} {t n : ℕ} {b c : B} {reply : Reply} {g h : Bool} (T : Taken changes grows fails asks v t n b c reply g h) where
    abbrev here : View B E → SeatState B E
    here u = (u, (0, Some c) ∷ [])

    abbrev one : View B E
    one = raise_if M g (away M v t b n) c

    abbrev two : View B E
    two = fail_if M h one n c

    grew_by : (a : B) → v.origin ≡ Some a → M.reports a ≡ true → M.log c ≡ grown g (M.log b) asks
    grew_by a e reported = T.grew ((T.found.later a e).reports_is ∙ reported) ∙ ap (λ (x : Bool). grown x (M.log b) asks) (sym T.g_is)

    pub adds : (m : SeatState B E) → m ≡ here (away M v t b n) → g ≡ true → Adds M m
    adds m is up = subst (λ (m : SeatState B E). Adds M m) (sym is) (refl, (c, refl, λ a e reported. (asks, grew_by a e reported ∙ ap (λ (x : Bool). grown x (M.log b) asks) up, T.mine)))

    raised_to_one : (x : Bool) (m : SeatState B E) → MatchBool x (raised M (here (away M v t b n)) m) (m ≡ here (away M v t b n)) → m ≡ here (raise_if M x (away M v t b n) c)
    raised_to_one true m r = r c refl
    raised_to_one false m r = r

    pub after_raise : (m m' : SeatState B E) → m ≡ here (away M v t b n) → MatchBool g (raised M m m') (m' ≡ m) → m' ≡ here one
    after_raise m m' is r = raised_to_one g m' (subst (λ (z : SeatState B E). MatchBool g (raised M z m') (m' ≡ z)) is r)

    pub may_fail : (m : SeatState B E) → m ≡ here one → h ≡ true → Fails M m n
    may_fail m is down = subst (λ (m : SeatState B E). Fails M m n) (sym is) (refl, refl, (c, refl, T.rose (sym T.h_is ∙ down)))

    counted_to_two : (x : Bool) (m : SeatState B E) → MatchBool x (counted_failure M (here one) m) (m ≡ here one) → m ≡ here (fail_if M x one n c)
    counted_to_two true m r = r n c refl refl
    counted_to_two false m r = r

    pub after_fail : (m m' : SeatState B E) → m ≡ here one → MatchBool h (counted_failure M m m') (m' ≡ m) → m' ≡ here two
    after_fail m m' is r = counted_to_two h m' (subst (λ (z : SeatState B E). MatchBool h (counted_failure M z m') (m' ≡ z)) is r)

    later : (a : B) → v.origin ≡ Some a → IsLater M a c
    later a e = record { fixed_is = T.fix ∙ (T.found.later a e).fixed_is; sound_is = λ s. T.keeps ((T.found.later a e).sound_is s); reports_is = T.same ∙ (T.found.later a e).reports_is }

    sees : (x : Bool) → M.log c ≡ grown x (M.log b) asks → M.log c ≡ (if x then M.log c else M.log b)
    sees true e = refl
    sees false e = e

    owns : (x : Bool) → M.log c ≡ grown x (M.log b) asks → (if x then v.own ++ drop (length (M.log b)) (M.log c) else v.own) ≡ grown x v.own asks
    owns true e = ap (λ (l : List E). v.own ++ drop (length (M.log b)) l) e ∙ ap (λ (l : List E). v.own ++ l) (drop_front (M.log b) (asks ∷ []))
    owns false e = refl

    level_low : (x : Bool) → (if x then M.faults c else M.faults b) ≤ M.faults c
    level_low true = le_refl (M.faults c)
    level_low false = T.up

    pub ready : (m : SeatState B E) → m ≡ here two → IsReady M m
    ready m is = subst (λ (m : SeatState B E). IsReady M m) (sym is) (refl, (c, refl, later, (λ a e reported. sees g (grew_by a e reported)), level_low h))

    -- the view after the turn
    pub ran : (table table' : TableId) (m : SeatState B E) (w : View B E) → m ≡ here two → IsOwn M m.0 → w ≡ resting m.0 → Ran M changes grows fails asks (known_of table v) reply (known_of table' w)
    ran table table' m w m_is own rests =
        let u_is : m.0 ≡ two = ap (λ (x : SeatState B E). x.0) m_is in
        let is : w ≡ resting two = rests ∙ ap (λ (x : View B E). resting x) u_is in
        let own' : IsOwn M two = subst (λ (x : View B E). IsOwn M x) u_is own in record {
          found = b;
          left = c;
          related = T.related;
          found_later = T.found.later;
          left_later = later;
          reported = λ a e reported. let m = own' a e reported in record {
            seen_before = T.found.grows a e reported;
            left_is = T.grew ((T.found.later a e).reports_is ∙ reported);
            seen_is = ap (λ (x : View B E). x.seen) is ∙ sym (sees g (grew_by a e reported));
            own_is = ap (λ (x : View B E). x.own) is ∙ (owns g (grew_by a e reported) ∙ ap (λ (x : Bool). grown x v.own asks) T.g_is);
            tail = m.0;
            appended = ap (λ (x : View B E). x.seen) is ∙ m.1;
            own_all = m.2 ∙ ap (λ (x : View B E). x.own) (sym is);
          };
          faults_up = T.up;
          rose = T.rose;
          failed_is = ap (λ (x : View B E). x.failed) is ∙ ap (λ (x : Bool). if x then v.failed + 1 else v.failed) T.h_is;
          same_number = ap (λ (x : View B E). x.number) is;
          same_first = ap (λ (x : View B E). x.origin) is;
          same_beside = ap (λ (x : View B E). x.beside) is;
          same_known = ap (λ (x : View B E). x.known) is;
        }

    pub origin_is : (m : SeatState B E) → m ≡ here two → m.0.origin ≡ v.origin
    origin_is m m_is = ap (λ (x : SeatState B E). x.0.origin) m_is

    pub reserved_is : (m : SeatState B E) → m ≡ here two → m.0.reserved ≡ v.reserved
    reserved_is m m_is = ap (λ (x : SeatState B E). x.0.reserved) m_is

    pub sealed_is : (m : SeatState B E) → m ≡ here two → m.0.sealed ≡ v.sealed
    sealed_is m m_is = ap (λ (x : SeatState B E). x.0.sealed) m_is
