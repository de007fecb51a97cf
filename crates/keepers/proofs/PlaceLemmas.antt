-- Where a row is put into a table.
use Rattle.std.proofs.Common.{◌≡◌, ◌<◌, ◌++◌, ℕ, suc, List, ◌∷◌, Ordering, Equal, drop, drop-cons, get_or, length, take, ap, sym, ◌∙◌}
use Rattle.std.specs.Prelude.{slice_set}
use Rattle.std.specs.Ordering.{match_ordering}
use Rattle.std.proofs.lemmas.List.{set_split}
use Rattle.keepers.specs.SortedRows.{put_by}

-- in place of the row of its key
pub row_is_replaced : {R : Type 0} (cmp : R → R → Ordering) (rows : List R) (row first : R) (index : ℕ) → index < length rows
    → first ≡ get_or rows index first → cmp first row ≡ Equal
    → put_by cmp rows row ≡ take index rows ++ put_by cmp (drop index rows) row → put_by cmp rows row ≡ slice_set rows index row
row_is_replaced cmp rows row first index low is equal before =
    let rest = drop (suc index) rows in
    let split : drop index rows ≡ first ∷ rest = drop-cons rows index first low ∙ ap (λ f. f ∷ rest) (sym is) in
    let put : put_by cmp (drop index rows) row ≡ row ∷ rest =
    ap (λ r. put_by cmp r row) split ∙ ap (λ o. match_ordering o (first ∷ put_by cmp rest row) (row ∷ rest) (row ∷ first ∷ rest)) equal in
    before ∙ ap (λ r. take index rows ++ r) put ∙ sym (set_split rows index row low)
