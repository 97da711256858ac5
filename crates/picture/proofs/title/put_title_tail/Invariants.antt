use Rattle.std.proofs.Common.{◌≡◌, ◌++◌, codes, string_bytes}
use Rattle.std.specs.List.{flat_map}
use Rattle.std.specs.Str.{IsUtf8, chars}
use Rattle.std.specs.Str.Iter.{chars_rest}
use Rattle.picture.specs.Titles.{shown_char}
use Rattle.picture.proofs.title.put_title_tail.Given as goal

abbrev pub invariant-loop-letter : goal.invariant-loop-letter
invariant-loop-letter l =
    IsUtf8 (chars_rest l.letter-iterator)
    × (string_bytes l.text ++ flat_map shown_char (chars (chars_rest l.letter-iterator))
    ≡ (string_bytes l.fn.text ++ codes " - ") ++ flat_map shown_char (chars l.title))
