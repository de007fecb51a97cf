-- The line at the front of an input. This project's own.
use Rattle.std.specs.Prelude.{◌≡◌, ◌==◌, ◌&&◌, ℕ, Bool, nat_lt, if◌then◌else◌, List, length, Option, None, Some}
use Rattle.std.specs.List.{before_first}
use Rattle.std.specs.Str.{is_utf8}
use Rattle.outside.specs.Devices.{HasRead, Input}

abbrev pub is_newline : ℕ → Bool
is_newline byte = byte == 10

-- a line has at most 4,096 bytes, which are UTF-8
abbrev pub text_line : List ℕ → Option (List ℕ)
text_line line = if nat_lt (length line) 4097 && is_utf8 line then Some line else None

-- the bytes up to the first newline, or to the end
unfoldable pub line_of : List ℕ → Option (List ℕ)
line_of input = text_line (before_first is_newline input)

-- an input was read, whose first line is this one
pub record HasReadLine (before after : Input) (line : Option (List ℕ)) : Type 0 where
  pub taken : List ℕ
  pub read : HasRead before after taken
  pub is : line ≡ line_of taken
  -- bytes that weren't read change nothing
  pub whole : (left : List ℕ) → before.left ≡ Some left → line ≡ line_of left
