-- How `Words` keeps the words that are left.
use Rattle.std.specs.Prelude.{ℕ, List, [], Option, Some, None}
use Rattle.std.specs.Borrow.{Bor}
use Rattle.lines.specs.Words.{words}
use Rattle.lines.specs.declared.words.Words.TheInside.{Inside}

-- the words of a text, if there is one
abbrev pub words_in : Option (Bor (List ℕ)) → List (List ℕ)
words_in None = []
words_in (Some text) = words text.now

-- what callers see
abbrev pub words_left : Inside → List (List ℕ)
words_left w = words_in w.rest
