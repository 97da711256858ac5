-- Digits and the numbers that they spell.
use Rattle.std.proofs.Common.{◌≡◌, ℕ, ◌+◌, ◌-◌, ◌*◌, ◌^◌, ◌<◌, ◌≤◌, true, List, length, get_or}
use Rattle.std.proofs.Common.{take, sym, arith, rules}
use Rattle.std.specs.List.{list_all}
use Rattle.std.specs.Char.{is_ascii_digit, digit_value}
use Rattle.std.specs.Int.{IsInRange}
use Rattle.std.specs.Str.Parse.{digits_value}
use Rattle.std.proofs.lemmas.Str.Parse.{IsNumeralModel, numerals_by_value, digits_value_short}
use Rattle.std.proofs.lemmas.Str.Parse.{digit_at, digits_value-take-le}
use Rattle.std.proofs.lemmas.Int.Digits.{digits_value_more}
use Rattle.std.proofs.lemmas.Bool.Decides.{nat_tests}
use Rattle.std.proofs.lemmas.Str.{digit_value_digit}
use Rattle.lines.specs.Words.{is_number}

pub own : IsNumeralModel (λ ds. list_all is_ascii_digit ds ≡ true) (digits_value 10)
own = numerals_by_value _ (search rules)

pub is_number-digits : (text : List ℕ) → is_number text ≡ true → list_all is_ascii_digit text ≡ true
is_number-digits text h = grind (arith, nat_tests)

pub is_number-short : (text : List ℕ) → is_number text ≡ true → length text ≤ 10
is_number-short text h = grind (arith, nat_tests)

pub number_step : (text : List ℕ) (i n : ℕ) → is_number text ≡ true → i < length text
    → n ≡ digits_value 10 (take i text) → IsInRange 48 57 (get_or text i 0)
    × (n * 10 + (get_or text i 0 - 48) ≡ digits_value 10 (take (i + 1) text))
    × (n * 10 + (get_or text i 0 - 48) < 10 ^ 10)
number_step text i n h lt e =
    let digits = own.to text (is_number-digits text h) in
    let at = digit_at text i digits lt in
    let is : digit_value (get_or text i 0) ≡ get_or text i 0 - 48 =
    omega (arith, digit_value_digit (get_or text i 0) at) in
    let more : n * 10 + (get_or text i 0 - 48) ≡ digits_value 10 (take (i + 1) text) =
    rw (e, ← is) (sym (digits_value_more 10 text i lt)) in
    let whole : digits_value 10 text < 10 ^ 10 =
    digits_value_short own text 10 (is_number-digits text h) (is_number-short text h) in
    (at, more, omega (arith, more, whole, digits_value-take-le 10 text (i + 1) (omega arith)))
