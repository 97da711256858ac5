use Rattle.std.proofs.Common.{◌≡◌, ◌∙◌, ℕ, ◌+◌, Bool, true, false, cond, List, [], ◌∷◌, length}
use Rattle.std.proofs.Common.{None}
use Rattle.std.proofs.Common.{Result, Ok, refl, ap}
use Rattle.std.specs.Prelude.{bytes_eq, codes, ok_or}
use Rattle.std.proofs.lemmas.Slice.Eq.{bytes_eq-Decides}
use Rattle.lines.specs.TextLines.{kept_lines, lines_of}
use Rattle.lines.specs.Steps.{◌>>=◌}
use Rattle.lines.specs.Words.{number_in, words}
use Rattle.ceiling_kernel.specs.declared.trace.Release.{Release}
use Rattle.release_list.specs.Reading.{list_from, until_in}
use Rattle.judge.specs.Front.{behind_front, front_of, is_setting}
use Rattle.judge.specs.SettingLines.{rows_from}
use Rattle.two_input_commands.proofs.laws.lists_set_nothing.Goals as goal

-- the words of a line `until N` set nothing
until_plain : (line : ℕ) (list : ℕ × List Release) (rest : ℕ → Result (ℕ × List Release) ℕ)
    (ws : List (List ℕ)) → (ok_or (until_in ws) line >>= rest) ≡ Ok list → is_setting ws ≡ false
until_plain line list rest [] e = absurd cc
until_plain line list rest (w ∷ []) e = absurd cc
until_plain line list rest (w ∷ n ∷ []) e =
    ap (λ (v : List ℕ). is_setting (v ∷ n ∷ []))
    ((bytes_eq-Decides w (codes "until")).0 (by (bytes_eq w (codes "until")) e))
  where
    by : (b : Bool) → (ok_or (cond b (number_in n) None) line >>= rest) ≡ Ok list → b ≡ true
    by true e = refl
    by false e = absurd cc
until_plain line list rest (w ∷ n ∷ more ∷ ws) e = absurd cc

-- of lines that are a list none stands in front
list_plain : (past : ℕ) (list : ℕ × List Release) (ls : List (ℕ × List ℕ))
    → list_from past ls ≡ Ok list → (front_of ls ≡ []) × (behind_front ls ≡ ls)
list_plain past list [] e = absurd cc
list_plain past list (l ∷ ls) e =
    let no : is_setting (words l.1) ≡ false = until_plain l.0 list _ (words l.1) e in
    rw no (refl, refl)

pub returns-clause-settings : goal.returns-clause-settings
returns-clause-settings c = λ text list is.
    ap rows_from (list_plain (1 + length (lines_of text)) list (kept_lines text) is).0

pub returns-clause-list : goal.returns-clause-list
returns-clause-list c = λ text list is.
    ap (list_from (1 + length (lines_of text)))
    (list_plain (1 + length (lines_of text)) list (kept_lines text) is).1
    ∙ is
