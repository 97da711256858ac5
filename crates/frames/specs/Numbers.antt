-- Numbers: times in a picture's unit, in milliseconds with no more digits than they need, bounds that may not be known, and from when to when.
use Rattle.std.specs.Prelude.{ℕ, ◌/◌, ◌%◌, Bool, ◌==◌, if◌then◌else◌, Option, Some, None, List, [], ◌∷◌, ◌++◌, codes}
use Rattle.std.specs.Fmt.{decimal}
use Rattle.std.specs.List.{concat}

-- what stands behind whole milliseconds, of so many microseconds below one
abbrev pub rest_text : ℕ → List ℕ
rest_text n =
    if n == 0 then []
    else if n % 100 == 0 then concat (codes "." ∷ decimal (n / 100) ∷ [])
    else if n % 10 == 0 then concat (codes "." ∷ decimal (n / 100) ∷ decimal (n / 10 % 10) ∷ [])
    else concat (codes "." ∷ decimal (n / 100) ∷ decimal (n / 10 % 10) ∷ decimal (n % 10) ∷ [])

-- so many microseconds, in milliseconds
abbrev pub millis_text : ℕ → List ℕ
millis_text n = decimal (n / 1000) ++ rest_text (n % 1000)

-- the same in milliseconds or as they are
abbrev pub time_text : (millis : Bool) → ℕ → List ℕ
time_text millis n = if millis then millis_text n else decimal n

-- the unit, behind a number
abbrev pub unit_text : (millis : Bool) → List ℕ
unit_text millis = if millis then codes " ms" else codes " us"

-- a bound, or `-` where none is known
abbrev pub known_text : Option ℕ → List ℕ
known_text (Some bound) = decimal bound
known_text None = codes "-"

-- from when to when, with which the title of a path ends
abbrev pub times_end : (start stop : ℕ) → List ℕ
times_end start stop =
    concat (decimal start ∷ codes " to " ∷ decimal stop ∷ codes " us</title></path>\n" ∷ [])
