-- The words of a line, and the numbers and names that words are.
use Rattle.std.specs.Prelude.{ℕ, List, length, Bool, ◌&&◌, ◌||◌, not, ◌==◌, nat_lt, nat_le, slice_index, Option, Some, None, if◌then◌else◌}
use Rattle.std.specs.List.{slice_split, list_all}
use Rattle.std.specs.Char.{is_ascii_digit}
use Rattle.std.specs.Str.Parse.{digits_value}
use Rattle.task_sheet.specs.Name.{is_name}

-- the parts of a line between its spaces
abbrev pub words : List ℕ → List (List ℕ)
words line = slice_split (λ b. b == 32) line

-- 1 to 10 digits, with no zero in front of others
abbrev pub is_number : List ℕ → Bool
is_number text =
    nat_lt 0 (length text)
    && nat_le (length text) 10
    && ((length text == 1) || not (slice_index text 0 == 48))
    && list_all is_ascii_digit text

-- the number that a word is
abbrev pub number_in : List ℕ → Option ℕ
number_in text = if is_number text then Some (digits_value 10 text) else None

-- the name that a word is
abbrev pub name_in : List ℕ → Option (List ℕ)
name_in text = if is_name text then Some text else None
