-- Two new passwords, of which the second is there against slips, and why they aren't taken: after Django 4.2's
-- `SetPasswordForm` and its validators of passwords.
use Rattle.std.specs.Prelude.{ℕ, Bool, nat_lt, bytes_eq, if◌then◌else◌, List, length, Option, Some, None, codes}
use Rattle.std.specs.Char.{is_ascii_digit}
use Rattle.std.specs.List.{list_all, list_any}
use Rattle.std.specs.Str.{chars}
use Rattle.pass_hashers.specs.Weakness.{plain_form}
use Rattle.account_views.specs.declared.new_password.Fault.{Fault}
use Rattle.account_views.specs.declared.new_password.Fault.TheVariants.{Mismatch, TooShort, AllDigits, Common}

-- fewer than 8 characters: Django's MinimumLengthValidator
abbrev pub is_too_short : List ℕ → Bool
is_too_short password = nat_lt (length (chars password)) 8

-- every character is one of 0 to 9: Django's NumericPasswordValidator, of ASCII digits
abbrev pub is_all_digits : List ℕ → Bool
is_all_digits password = list_all is_ascii_digit password

-- its plain form is in the list: Django's CommonPasswordValidator
abbrev pub is_common : List ℕ → List (List ℕ) → Bool
is_common password common = list_any (bytes_eq (plain_form password)) common

-- why a password is too weak, where it is: the first reason
unfoldable pub weakness : List ℕ → List (List ℕ) → Option Fault
weakness password common =
    if is_too_short password then Some TooShort
    else (if is_all_digits password then Some AllDigits
    else (if is_common password common then Some Common else None))

-- why two new passwords aren't taken: they differ, or else the first one is too weak
unfoldable pub new_password_fault : List ℕ → List ℕ → List (List ℕ) → Option Fault
new_password_fault first second common = if bytes_eq first second then weakness first common else Some Mismatch

-- the line of a form's page; this project's own
abbrev pub fault_line : Fault → List ℕ
fault_line Mismatch = codes "error=mismatch\n"
fault_line TooShort = codes "error=too-short\n"
fault_line AllDigits = codes "error=all-digits\n"
fault_line Common = codes "error=common\n"
