-- Lists of views, and what a change of one view leaves.
use Rattle.std.proofs.Common.{◌≡◌, ◌≢◌, ℕ, zero, suc, ◌+◌, ◌<◌, ◌≤◌, ◌⊎◌, inl, inr, ⊎_elim, List, [], ◌∷◌, ◌++◌, length, set, sym, refl, ap, ◌∙◌, subst, arith, Option, Some, None}
use mathlib.Core.Option.{some, some-injective, some-ne-none}
use lib.ListN.{get_elem?}
use Rattle.atomic_table.proofs.Lists.{at_snoc, at_set}
use Rattle.turn_lock.specs.declared.view.View.{View}
use Rattle.turn_lock.specs.Seats.{total}
use Rattle.turn_lock.specs.Views.{held}
use Rattle.turn_lock.specs.TurnRule.{one_if, waiting, SameTicket, Distinct, Seals}

pub one_low : (o : Option ℕ) → one_if o ≤ 1
one_low None = omega arith
one_low (Some t) = omega arith

module _ {B E : Type 0} where
  pub waiting_set : (vs : List (View B E)) (i : ℕ) (v w : View B E) → get_elem? vs i ≡ some v → waiting (set vs i w) + one_if v.ticket ≡ waiting vs + one_if w.ticket
  waiting_set [] i v w e = absurd (some-ne-none v (sym e))
  waiting_set (x ∷ xs) zero v w e = let same : one_if x.ticket ≡ one_if v.ticket = ap (λ (y : View B E). one_if y.ticket) (some-injective x v e) in omega arith
  waiting_set (x ∷ xs) (suc i) v w e = let h = waiting_set xs i v w e in omega arith

  pub waiting_held : (vs : List (View B E)) → ((i : ℕ) (v : View B E) → get_elem? vs i ≡ some v → one_if v.ticket ≤ length (held v)) → waiting vs ≤ total (λ v. length (held v)) vs
  waiting_held [] low = omega arith
  waiting_held (x ∷ xs) low = let a = low 0 x refl in let b = waiting_held xs (λ i v at. low (suc i) v at) in omega arith

  pub waiting_snoc : (vs : List (View B E)) (w : View B E) → waiting (vs ++ w ∷ []) ≡ waiting vs + one_if w.ticket
  waiting_snoc [] w = omega arith
  waiting_snoc (x ∷ xs) w = let h = waiting_snoc xs w in omega arith

  pub all_snoc : (P : View B E → Type 0) (vs : List (View B E)) (w : View B E) → ((j : ℕ) (u : View B E) → get_elem? vs j ≡ some u → P u) → P w → (j : ℕ) (u : View B E) → get_elem? (vs ++ w ∷ []) j ≡ some u → P u
  all_snoc P vs w others mine j u e = ⊎_elim (λ (h : get_elem? vs j ≡ some u). others j u h) (λ (same : w ≡ u). subst P same mine) (at_snoc vs w u j e)

  -- where it is, in the longer list
  pub at_end : (vs : List (View B E)) (w : View B E) (j : ℕ) (u : View B E) → get_elem? (vs ++ w ∷ []) j ≡ some u → (get_elem? vs j ≡ some u) ⊎ ((j ≡ length vs) × (w ≡ u))
  at_end [] w zero u e = inr (refl, some-injective w u e)
  at_end [] w (suc j) u e = absurd (some-ne-none u (sym e))
  at_end (x ∷ xs) w zero u e = inl e
  at_end (x ∷ xs) w (suc j) u e = ⊎_elim (λ (h : get_elem? xs j ≡ some u). inl h) (λ (h : (j ≡ length xs) × (w ≡ u)). inr (ap suc h.0, h.1)) (at_end xs w j u e)

  pub distinct_snoc : (R : View B E → View B E → Type 0) (vs : List (View B E)) (w : View B E) → Distinct R vs → ((u : View B E) → R w u ⊎ R u w → ⊥) → Distinct R (vs ++ w ∷ [])
  distinct_snoc R vs w apart not j k u x eu ex r = ⊎_elim
      (λ (a : get_elem? vs j ≡ some u). ⊎_elim
      (λ (b : get_elem? vs k ≡ some x). apart j k u x a b r)
      (λ (b : (k ≡ length vs) × (w ≡ x)). absurd (not u (inr (subst (λ (z : View B E). R u z) (sym b.1) r))))
      (at_end vs w k x ex))
      (λ (a : (j ≡ length vs) × (w ≡ u)). absurd (not x (inl (subst (λ (z : View B E). R z x) (sym a.1) r))))
      (at_end vs w j u eu)

  pub in_row : (vs : List (View B E)) (i : ℕ) (v : View B E) → get_elem? vs i ≡ some v → i < length vs
  in_row [] i v e = absurd (some-ne-none v (sym e))
  in_row (x ∷ xs) zero v e = omega arith
  in_row (x ∷ xs) (suc i) v e = let h = in_row xs i v e in omega arith

  -- what holds of the others, and of the new view, holds of all
  pub all_set : (P : View B E → Type 0) (vs : List (View B E)) (i : ℕ) (w : View B E) → ((j : ℕ) (u : View B E) → j ≢ i → get_elem? vs j ≡ some u → P u) → P w
      → (j : ℕ) (u : View B E) → get_elem? (set vs i w) j ≡ some u → P u
  all_set P vs i w others mine j u e = ⊎_elim (λ (t : (j ≡ i) × (w ≡ u)). subst P t.1 mine) (λ (t : (j ≢ i) × (get_elem? vs j ≡ some u)). others j u t.0 t.1) (at_set vs i j w u e)

  pub distinct_set : (R : View B E → View B E → Type 0) (vs : List (View B E)) (i : ℕ) (w : View B E) → Distinct R vs
      → ((j : ℕ) (u : View B E) → j ≢ i → get_elem? vs j ≡ some u → R w u ⊎ R u w → ⊥) → Distinct R (set vs i w)
  distinct_set R vs i w apart not j k u x eu ex r =
      ⊎_elim
      (λ (a : (j ≡ i) × (w ≡ u)). ⊎_elim
      (λ (b : (k ≡ i) × (w ≡ x)). a.0 ∙ sym b.0)
      (λ (b : (k ≢ i) × (get_elem? vs k ≡ some x)). absurd (not k x b.0 b.1 (inl (subst (λ (z : View B E). R z x) (sym a.1) r))))
      (at_set vs i k w x ex))
      (λ (a : (j ≢ i) × (get_elem? vs j ≡ some u)). ⊎_elim
      (λ (b : (k ≡ i) × (w ≡ x)). absurd (not j u a.0 a.1 (inr (subst (λ (z : View B E). R u z) (sym b.1) r))))
      (λ (b : (k ≢ i) × (get_elem? vs k ≡ some x)). apart j k u x a.1 b.1 r)
      (at_set vs i k w x ex))
      (at_set vs i j w u eu)

  was : (vs : List (View B E)) (i : ℕ) (v w : View B E) → get_elem? vs i ≡ some v → w.sealed ≡ v.sealed → w.origin ≡ v.origin → (j : ℕ) (u : View B E) → get_elem? (set vs i w) j ≡ some u
      → (x : View B E) × (get_elem? vs j ≡ some x) × (u.sealed ≡ x.sealed) × (u.origin ≡ x.origin)
  was vs i v w at a b j u e = ⊎_elim
      (λ (t : (j ≡ i) × (w ≡ u)). (v, ap (λ (n : ℕ). get_elem? vs n) t.0 ∙ at, ap (λ (y : View B E). y.sealed) (sym t.1) ∙ a, ap (λ (y : View B E). y.origin) (sym t.1) ∙ b))
      (λ (t : (j ≢ i) × (get_elem? vs j ≡ some u)). (u, t.1, refl, refl))
      (at_set vs i j w u e)

  -- a change that seals nothing, and spends nothing
  pub seals : (vs : List (View B E)) (i : ℕ) (v w : View B E) → get_elem? vs i ≡ some v → w.sealed ≡ v.sealed → w.origin ≡ v.origin → Seals vs → Seals (set vs i w)
  seals vs i v w at a b seal j k u x eu shut ex other =
      let p = was vs i v w at a b j u eu in let q = was vs i v w at a b k x ex in q.3 ∙ seal j k p.0 q.0 p.1 (sym p.2 ∙ shut) q.1 other

  -- a change that keeps the ticket, or drops it
  pub tickets_set : (vs : List (View B E)) (i : ℕ) (v w : View B E) → get_elem? vs i ≡ some v → ((t : ℕ) → w.ticket ≡ Some t → v.ticket ≡ Some t) → Distinct SameTicket vs → Distinct SameTicket (set vs i w)
  tickets_set vs i v w at same apart = distinct_set SameTicket vs i w apart (λ j u other there r. other (apart j i u v there at
      (⊎_elim (λ (e : SameTicket w u). (e.0, e.2, same e.0 e.1)) (λ (e : SameTicket u w). (e.0, e.1, same e.0 e.2)) r)))
