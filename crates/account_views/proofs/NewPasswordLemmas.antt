-- The tests of a new password say what pass_hashers says of it.
use Rattle.std.proofs.Common.{◌≡◌, ℕ, List, Bool, false, Decides, Some, None, length, bytes_eq, refl, sym, arith}
use Rattle.std.specs.Char.{is_ascii_digit}
use Rattle.std.specs.Int.{IsInRange}
use Rattle.std.specs.List.{list_all}
use Rattle.std.specs.Str.{chars}
use Rattle.std.proofs.lemmas.Bool.{false_from_ne_true}
use Rattle.std.proofs.lemmas.Bool.Decides.{Decides-by_and, Decides-ltb, nat_tests}
use Rattle.std.proofs.lemmas.List.Folds.{list_any_at}
use Rattle.std.proofs.lemmas.Map.Views.{Contains-from_any}
use Rattle.std.proofs.lemmas.Slice.Eq.{bytes_eq-Decides}
use Rattle.pass_hashers.specs.Weakness.{IsAllDigits, IsCommon, IsTooShort, plain_form}
use Rattle.account_views.specs.NewPassword.{is_all_digits, is_common, is_too_short, weakness}
use Rattle.account_views.specs.declared.new_password.Fault.TheVariants.{TooShort, AllDigits, Common}

pub is_too_short-Decides : (password : List ℕ) → Decides (is_too_short password) (IsTooShort password)
is_too_short-Decides password = Decides-ltb (length (chars password)) 8

is_digit-Decides : (byte : ℕ) → Decides (is_ascii_digit byte) (IsInRange 48 57 byte)
is_digit-Decides byte = grind (arith, nat_tests)

pub is_all_digits-Decides : (password : List ℕ) → Decides (is_all_digits password) (IsAllDigits password)
is_all_digits-Decides password = Decides-by_and is_ascii_digit (IsInRange 48 57) (list_all is_ascii_digit) is_digit-Decides refl (λ x xs. refl) password

pub is_common-Decides : (password : List ℕ) (common : List (List ℕ)) → Decides (is_common password common) (IsCommon password common)
is_common-Decides password common = (
  Contains-from_any {eq = bytes_eq} (λ x y. (bytes_eq-Decides x y).0) (plain_form password) common,
  λ is. list_any_at (bytes_eq (plain_form password)) common is.0 (plain_form password) is.1 ((bytes_eq-Decides _ _).1 (sym is.2)),
)

-- a test that decides what doesn't hold is false
fails : (Q : Type 0) (test : Bool) → Decides test Q → ¬ Q → test ≡ false
fails Q test tells never = false_from_ne_true test (λ yes. never (tells.0 yes))

module _ (password : List ℕ) (common : List (List ℕ)) where
  long : ¬ IsTooShort password → is_too_short password ≡ false
  long enough = fails (IsTooShort password) (is_too_short password) (is_too_short-Decides password) enough

  mixed : ¬ IsAllDigits password → is_all_digits password ≡ false
  mixed other = fails (IsAllDigits password) (is_all_digits password) (is_all_digits-Decides password) other

  pub weakness-short : IsTooShort password → weakness password common ≡ Some TooShort
  unfolding weakness
  weakness-short short = rw ((is_too_short-Decides password).1 short) refl

  pub weakness-digits : ¬ IsTooShort password → IsAllDigits password → weakness password common ≡ Some AllDigits
  unfolding weakness
  weakness-digits enough digits = rw (long enough, (is_all_digits-Decides password).1 digits) refl

  pub weakness-common : ¬ IsTooShort password → ¬ IsAllDigits password → IsCommon password common → weakness password common ≡ Some Common
  unfolding weakness
  weakness-common enough other listed = rw (long enough, mixed other, (is_common-Decides password common).1 listed) refl

  pub weakness-none : ¬ IsTooShort password → ¬ IsAllDigits password → ¬ IsCommon password common → weakness password common ≡ None
  unfolding weakness
  weakness-none enough other unlisted =
      rw (long enough, mixed other, fails (IsCommon password common) (is_common password common) (is_common-Decides password common) unlisted) refl
