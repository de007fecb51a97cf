-- The test of a user's name tells its form.
use Rattle.std.proofs.Common.{ℕ, ◌<◌, List, Decides, length, arith}
use Rattle.std.proofs.lemmas.Bool.Decides.{Decides-and, Decides-like, Decides-ltb}
use Rattle.std.proofs.lemmas.List.Sums.{AllPass-from_list_all, list_all-from_AllPass}
use Rattle.std.specs.List.{AllPass, list_all}
use Rattle.ledger_rows.specs.Form.{IsUserName, is_name_byte}
use Rattle.account_views.specs.LoginForm.{is_user_name}

abbrev AreParts : List ℕ → Type 0
AreParts name = (0 < length name) × ((length name < 151) × AllPass is_name_byte name)

parts_form : {name : List ℕ} → AreParts name → IsUserName name
parts_form parts = record { some = parts.0; few = omega arith; bytes = parts.1.1 }

form_parts : {name : List ℕ} → IsUserName name → AreParts name
form_parts form = (form.some, (omega arith, form.bytes))

-- the test holds of the names of that form
pub is_user_name-Decides : (name : List ℕ) → Decides (is_user_name name) (IsUserName name)
unfolding is_user_name
is_user_name-Decides name =
    let bytes : Decides (list_all is_name_byte name) (AllPass is_name_byte name) = (AllPass-from_list_all is_name_byte name, list_all-from_AllPass is_name_byte name) in
    Decides-like _ parts_form form_parts (Decides-and _ _ (Decides-ltb 0 (length name)) (Decides-and _ _ (Decides-ltb (length name) 151) bytes))
