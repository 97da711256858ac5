-- What the signs of a picture mean: each stands where the picture has it.
use Rattle.std.specs.Prelude.{ℕ, Bool, if◌then◌else◌, is_some, List, []}
use Rattle.memchr.specs.Find.{first_of, matches}

-- words stand somewhere in a text
abbrev pub has_words : (text words : List ℕ) → Bool
has_words text words = is_some (first_of (matches text words 0))

-- a sign, where a text has an element that begins so
abbrev pub sign_text : (text mark sign : List ℕ) → List ℕ
sign_text text mark sign = if has_words text mark then sign else []

-- a sign, where it has an element that begins in either of two ways
abbrev pub sign_of : (text mark other sign : List ℕ) → List ℕ
sign_of text mark other sign =
    if has_words text mark then sign else sign_text text other sign
