-- A number that may be missing.
use Rattle.std.specs.Prelude.{ℕ, List, codes, Option, Some, None}
use Rattle.std.specs.Fmt.{decimal}

-- it, or `-` for none
abbrev pub some_words : Option ℕ → List ℕ
some_words None = codes "-"
some_words (Some n) = decimal n
