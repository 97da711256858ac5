-- Numbers that are spelled are read, and what is read is spelled so.
use Rattle.std.proofs.Common.{◌≡◌, ℕ, zero, suc, ◌^◌, ◌<◌, ◌≤◌, true, List, length, get_or, Some}
use Rattle.std.proofs.Common.{refl, sym, subst, arith}
use Rattle.std.specs.List.{list_all}
use Rattle.std.specs.Fmt.{decimal}
use Rattle.std.specs.Char.{is_ascii_digit}
use Rattle.std.specs.Str.Parse.{digits_value}
use Rattle.std.proofs.lemmas.Bool.Decides.{nat_tests}
use Rattle.std.proofs.lemmas.Option.{cond_some}
use Rattle.std.proofs.lemmas.Str.Parse.{digits_value_short}
use Rattle.std.proofs.lemmas.Fmt.{decimal-digits_value, digits_decimal, digits_value-decimal}
use Rattle.std.proofs.lemmas.Fmt.{length-decimal-le, decimal_nonempty, first_decimal, decimal_digit}
use Rattle.lines.specs.Words.{is_number, number_in}
use Rattle.lines.proofs.Digits.{own, is_number-digits, is_number-short}

is_number-some : (text : List ℕ) → is_number text ≡ true → 0 < length text
is_number-some text h = grind (arith, nat_tests)

is_number-first : (text : List ℕ) → is_number text ≡ true → get_or text 0 0 ≡ 48 → length text ≡ 1
is_number-first text h e = grind (arith, nat_tests)

pub number_takes : (text : List ℕ) (n : ℕ) → number_in text ≡ Some n → (text ≡ decimal n)
    × (n < 10 ^ 10)
number_takes text n e =
    let g = cond_some (is_number text) (digits_value 10 text) n e in
    let short : digits_value 10 text < 10 ^ 10 =
    digits_value_short own text 10 (is_number-digits text g.0) (is_number-short text g.0) in
    let wide : digits_value 10 text < 2 ^ 64 = omega (arith, short) in
    let back : decimal (digits_value 10 text) ≡ text = decimal-digits_value own text
    (is_number-digits text g.0) (is_number-some text g.0) (is_number-first text g.0) wide in
    subst (λ (m : ℕ). (text ≡ decimal m) × (m < 10 ^ 10)) g.1 (sym back, short)

made_number : (text : List ℕ) → 0 < length text → length text ≤ 10
    → (get_or text 0 0 ≡ 48 → length text ≡ 1) → list_all is_ascii_digit text ≡ true
    → is_number text ≡ true
made_number text some short first digits = grind (arith, nat_tests)

zero_length : (n : ℕ) → n < 2 ^ 64 → get_or (decimal n) 0 0 ≡ 48 → length (decimal n) ≡ 1
zero_length zero h e = rw (decimal_digit 0 (omega arith)) refl
zero_length (suc n) h e = absurd (omega (arith, first_decimal (suc n) (omega arith) h))

pub number_again : (n : ℕ) → n < 10 ^ 10 → number_in (decimal n) ≡ Some n
number_again n short =
    let wide : n < 2 ^ 64 = omega arith in
    let len : length (decimal n) ≤ 10 = length-decimal-le 10 n (omega arith) short wide in
    let is : is_number (decimal n) ≡ true = made_number (decimal n) (decimal_nonempty n wide) len
    (zero_length n wide) (digits_decimal own n wide) in
    rw (is, digits_value-decimal own n wide) refl
