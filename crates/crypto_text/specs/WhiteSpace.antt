-- Texts without the ASCII white space at their ends: space, tab, line feed, form feed and carriage return.
use Rattle.std.specs.Prelude.{ℕ, ◌-◌, List, drop, length, take}
use Rattle.std.specs.Char.{is_ascii_whitespace}
use Rattle.std.specs.List.{prefix_len, suffix_len}

-- without the white space at its front
abbrev pub without_front_space : List ℕ → List ℕ
without_front_space text = drop (prefix_len is_ascii_whitespace text) text

-- without the white space at both ends
abbrev pub trimmed : List ℕ → List ℕ
trimmed text = take (length (without_front_space text) - suffix_len is_ascii_whitespace (without_front_space text)) (without_front_space text)
