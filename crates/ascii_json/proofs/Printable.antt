-- Printable bytes, by recursion on a text.
use Rattle.std.proofs.Common.{ℕ, ◌<◌, ◌≤◌, List, [], ◌∷◌}
use Rattle.std.specs.List.{All}
use Rattle.std.specs.Prelude.{⊤}
use Rattle.std.proofs.lemmas.List.Elements.{All-cons, All-nil}
use Rattle.ascii_json.specs.AsciiJson.{IsPrintable}

-- every byte is printable
abbrev pub ArePrintable : List ℕ → Type 0
ArePrintable [] = ⊤
ArePrintable (x ∷ xs) = (32 ≤ x) × (x < 127) × ArePrintable xs

pub All-from_printable : (xs : List ℕ) → ArePrintable xs → All IsPrintable xs
All-from_printable [] h = All-nil IsPrintable
All-from_printable (x ∷ xs) h = All-cons IsPrintable x xs (h.0, h.1) (All-from_printable xs h.2)
