-- Bytes that do not stand in a word, and texts that are cut at such a byte where they were joined.
use Rattle.std.proofs.Common.{◌≡◌, ◌∙◌, ◌==◌, ◌<◌, ◌^◌, ℕ, Bool, true, false, inl, inr, List, []}
use Rattle.std.proofs.Common.{◌∷◌, ◌++◌, All, ap, length, arith}
use Rattle.std.specs.List.{list_all, list_any, slice_split, join_with_byte, AllByRecursion}
use Rattle.std.specs.Char.{is_ascii_digit}
use Rattle.std.specs.Fmt.{decimal}
use Rattle.std.proofs.lemmas.Bool.{and_parts, or_parts, cases_Bool, both_ways, eqb-true}
use Rattle.std.proofs.lemmas.Bool.Decides.{nat_tests}
use Rattle.std.proofs.lemmas.Fmt.{digits_decimal}
use Rattle.std.proofs.lemmas.List.Splits.{slice_split_at, slice_split_none}
use Rattle.std.proofs.lemmas.List.Elements.{All-from_recursion}
use Rattle.task_sheet.specs.Name.{IsName, is_name_byte}
use Rattle.lines.specs.TextLines.{lines_of, is_skipped}
use Rattle.lines.proofs.Digits.{own}
use Rattle.lines.proofs.Parts.{line_cut}

-- ---- bytes that don't stand in a word
pub record Lacks (c : ℕ) (xs : List ℕ) : Type 0 where
  pub none : AllByRecursion (λ x. (x == c) ≡ false) xs

all_lack : (c : ℕ) (xs : List ℕ) → Lacks c xs → All (λ x. (x == c) ≡ false) xs
all_lack c xs lacks = All-from_recursion (λ x. (x == c) ≡ false) xs lacks.none

pub lacks_append : (c : ℕ) (xs ys : List ℕ) → Lacks c xs → Lacks c ys → Lacks c (xs ++ ys)
lacks_append c xs ys a b = record { none = go xs a.none }
  where
    go : (zs : List ℕ) → AllByRecursion (λ x. (x == c) ≡ false) zs
        → AllByRecursion (λ x. (x == c) ≡ false) (zs ++ ys)
    go [] h = b.none
    go (z ∷ zs) h = (h.0, go zs h.1)

-- words that are known
pub lacks_in : (c : ℕ) (xs : List ℕ) → list_any (λ x. x == c) xs ≡ false → Lacks c xs
lacks_in c xs none = record { none = each xs none }
  where
    each : (xs : List ℕ) → list_any (λ x. x == c) xs ≡ false
        → AllByRecursion (λ x. (x == c) ≡ false) xs
    each [] none = tt
    each (x ∷ xs) none =
        let parts = or_parts (x == c) (list_any (λ y. y == c) xs) none in
        (parts.0, each xs parts.1)

-- a test that all bytes of a word pass, and this byte doesn't
lacks_by : (p : ℕ → Bool) (c : ℕ) (xs : List ℕ) → p c ≡ false → list_all p xs ≡ true
    → AllByRecursion (λ x. (x == c) ≡ false) xs
lacks_by p c [] other all = tt
lacks_by p c (x ∷ xs) other all =
    let both = and_parts (p x) (list_all p xs) all in (
      elim (cases_Bool (x == c)) [
        | inl same ↦ absurd (both_ways (p x) (ap p (eqb-true x c same) ∙ other) both.0)
        | inr apart ↦ apart
      ],
      lacks_by p c xs other both.1,
    )

pub name_lacks : (c : ℕ) (name : List ℕ) → is_name_byte c ≡ false → IsName name → Lacks c name
name_lacks c name other is = record { none = lacks_by is_name_byte c name other (bytes is) }
  where
    bytes : IsName name → list_all is_name_byte name ≡ true
    bytes is = grind (arith, nat_tests)

pub number_lacks : (c n : ℕ) → is_ascii_digit c ≡ false → n < 2 ^ 64 → Lacks c (decimal n)
number_lacks c n other short =
    record { none = lacks_by is_ascii_digit c (decimal n) other (digits_decimal own n short) }

-- ---- cut at a byte
itself : (c : ℕ) → (c == c) ≡ true
itself c = grind (arith, nat_tests)

pub cut_at : (c : ℕ) (xs ys : List ℕ) → Lacks c xs
    → slice_split (λ b. b == c) (xs ++ c ∷ ys) ≡ xs ∷ slice_split (λ b. b == c) ys
cut_at c xs ys lacks = slice_split_at (λ b. b == c) xs c ys (all_lack c xs lacks) (itself c)

pub uncut : (c : ℕ) (xs : List ℕ) → Lacks c xs → slice_split (λ b. b == c) xs ≡ xs ∷ []
uncut c xs lacks = slice_split_none (λ b. b == c) xs (all_lack c xs lacks)

-- words joined by the byte, of which none has it
pub joined_again : (c : ℕ) (w : List ℕ) (ws : List (List ℕ)) → Lacks c w → AllByRecursion
    (λ v. Lacks c v) ws → slice_split (λ b. b == c) (join_with_byte c (w ∷ ws)) ≡ w ∷ ws
joined_again c w [] lacks rest = uncut c w lacks
joined_again c w (v ∷ ws) lacks rest = cut_at c w (join_with_byte c (v ∷ ws)) lacks
    ∙ ap (λ l. w ∷ l) (joined_again c v ws rest.0 rest.1)

pub joined_lacks : (c d : ℕ) (ws : List (List ℕ)) → (c == d) ≡ false
    → AllByRecursion (λ v. Lacks d v) ws → Lacks d (join_with_byte c ws)
joined_lacks c d [] other all = record { none = tt }
joined_lacks c d (w ∷ []) other all = all.0
joined_lacks c d (w ∷ v ∷ ws) other all =
    lacks_append d w (c ∷ join_with_byte c (v ∷ ws)) all.0
    (record { none = (other, (joined_lacks c d (v ∷ ws) other all.1).none) })

-- ---- lines
-- a line in front of others
pub one_more : (line rest : List ℕ) → Lacks 10 line
    → lines_of (line ++ 10 ∷ rest) ≡ line ∷ lines_of rest
one_more line rest lacks = line_cut (line ++ 10 ∷ rest) line rest (cut_at 10 line rest lacks)

-- one whose first word is no note isn't skipped
pub kept_word : (w rest : List ℕ) → 0 < length w → Lacks 35 w → is_skipped (w ++ rest) ≡ false
kept_word [] rest some lacks = absurd (omega arith)
kept_word (x ∷ xs) rest some lacks = lacks.none.0
