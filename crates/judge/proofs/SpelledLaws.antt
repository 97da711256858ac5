-- A line of settings that is spelled, and what is read of it.
use Rattle.std.proofs.Common.{◌≡◌, ◌∙◌, ℕ, ◌+◌, ◌≤◌, Bool, true, false, List}
use Rattle.std.proofs.Common.{[], ◌∷◌, ◌++◌, append_assoc, Some, Ok, refl, sym, ap, arith}
use Rattle.std.specs.Prelude.{codes}
use Rattle.std.specs.List.{AllByRecursion}
use Rattle.std.specs.Char.{is_ascii_digit}
use Rattle.std.specs.Fmt.{decimal}
use Rattle.std.proofs.lemmas.Bool.{le-leb}
use Rattle.task_sheet.specs.Name.{IsName, is_name_byte}
use Rattle.lines.specs.TextLines.{kept_from, lines_of, is_skipped}
use Rattle.lines.specs.Words.{words}
use Rattle.lines.proofs.Lacks.{Lacks, joined_again, joined_lacks, name_lacks, number_lacks}
use Rattle.lines.proofs.Lacks.{one_more}
use Rattle.lines.proofs.NumberLaws.{number_again}
use Rattle.judge.specs.SettingLines.{number_in_range, setting_row_in, setting_row, rows_from}
use Rattle.judge.specs.declared.rows.SettingRow.{SettingRow}
use Rattle.judge.specs.declared.rows.SettingRow.TheVariants.{Thread, Mutex}
use Rattle.judge.specs.declared.rows.TheConstants.{NUMBER_LIMIT}
use Rattle.judge.specs.declared.rows.Setting.{Setting}

-- a line may set this: its name is one, and its number is within the limits
pub record IsEntry (s : Setting) : Type 0 where
  pub named : IsName s.name
  pub some : 1 ≤ s.number
  pub within : s.number ≤ NUMBER_LIMIT

-- the first word of a line that sets a thread, or a mutex
abbrev pub word_of : (is_thread : Bool) → List ℕ
word_of true = codes "thread"
word_of false = codes "mutex"

-- the same with the space behind it, as it is printed
abbrev pub front_of : (is_thread : Bool) → List ℕ
front_of true = codes "thread "
front_of false = codes "mutex "

abbrev pub row_from : (is_thread : Bool) → Setting → SettingRow
row_from true s = Thread s
row_from false s = Mutex s

word_lacks : (b : ℕ) → is_name_byte b ≡ false → (kind : Bool) → Lacks b (word_of kind)
word_lacks b other true = name_lacks b (codes "thread") other refl
word_lacks b other false = name_lacks b (codes "mutex") other refl

spelled : (kind : Bool) (s : Setting) → setting_row (word_of kind) s ≡ Some (row_from kind s)
spelled true s = refl
spelled false s = refl

kept : (kind : Bool) (rest : List ℕ) → is_skipped (word_of kind ++ rest) ≡ false
kept true rest = refl
kept false rest = refl

number_is : (n : ℕ) → 1 ≤ n → n ≤ NUMBER_LIMIT → number_in_range (decimal n) ≡ Some n
number_is n some within =
    rw (number_again n (omega arith), le-leb 1 n some, le-leb n NUMBER_LIMIT within) refl

parts_of : (front name space digits end rest : List ℕ) → (front ++ name ++ space ++ digits ++ end)
    ++ rest ≡ front ++ (name ++ (space ++ (digits ++ (end ++ rest))))
parts_of front name space digits end rest = simp append_assoc

whole_of : (word name digits rest : List ℕ) → (word ++ 32 ∷ (name ++ 32 ∷ digits)) ++ 10 ∷ rest
    ≡ word ++ 32 ∷ (name ++ 32 ∷ (digits ++ 10 ∷ rest))
whole_of word name digits rest = simp append_assoc

printed : (kind : Bool) (name digits rest : List ℕ)
    → (front_of kind ++ name ++ codes " " ++ digits ++ codes "\n") ++ rest
    ≡ (word_of kind ++ 32 ∷ (name ++ 32 ∷ digits)) ++ 10 ∷ rest
printed true name digits rest = parts_of (codes "thread ") name (codes " ") digits (codes "\n") rest
    ∙ sym (whole_of (codes "thread") name digits rest)
printed false name digits rest = parts_of (codes "mutex ") name (codes " ") digits (codes "\n") rest
    ∙ sym (whole_of (codes "mutex") name digits rest)

module _ (kind : Bool) (s : Setting) (is : IsEntry s) where
  -- the words of the line, and the line, without its end
  abbrev said : List (List ℕ)
  said = word_of kind ∷ s.name ∷ decimal s.number ∷ []

  abbrev text : List ℕ
  text = word_of kind ++ 32 ∷ (s.name ++ 32 ∷ decimal s.number)

  said_lack : (b : ℕ) → is_name_byte b ≡ false → is_ascii_digit b ≡ false
      → AllByRecursion (λ w. Lacks b w) said
  said_lack b other apart = (
    word_lacks b other kind,
    (
      name_lacks b s.name other is.named,
      (number_lacks b s.number apart (omega (arith, is.within)), tt),
    ),
  )

  words_are : words text ≡ said
  words_are =
      let each = said_lack 32 refl refl in
      joined_again 32 (word_of kind) (s.name ∷ decimal s.number ∷ []) each.0 each.1

  row_is : setting_row_in s.line (words text) ≡ Some (row_from kind s)
  row_is = rw (words_are, is.named, number_is s.number is.some is.within) (spelled kind s)

  -- its row stands in front of those of the lines behind it
  pub entry_read : (rest : List ℕ) (rows : List SettingRow)
      → rows_from (kept_from (s.line + 1) (lines_of rest)) ≡ Ok rows
      → rows_from (kept_from s.line
      (lines_of ((front_of kind ++ s.name ++ codes " " ++ decimal s.number ++ codes "\n") ++ rest)))
      ≡ Ok (row_from kind s ∷ rows)
  entry_read rest rows later =
      let cut = one_more text rest (joined_lacks 32 10 said refl (said_lack 10 refl refl)) in
      ap (λ ls. rows_from (kept_from s.line ls))
      (ap lines_of (printed kind s.name (decimal s.number) rest) ∙ cut)
      ∙ rw (kept kind (32 ∷ (s.name ++ 32 ∷ decimal s.number)), row_is, later) refl
