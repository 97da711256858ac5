-- Reading line after line, as a loop does.
use Rattle.std.proofs.Common.{◌≡◌, ℕ, ◌≤◌, ◌+◌, List, [], ◌∷◌, ◌++◌, length, Result, Ok, Err, refl}
use Rattle.std.proofs.Common.{sym, ap, ◌∙◌, append-nil, length-append, arith}
use Rattle.lines.specs.Steps.{ahead}
use Rattle.lines.specs.Words.{words}
use Rattle.scripts.specs.declared.line.Line.{Line}
use Rattle.scripts.specs.declared.line.Row.{Row}
use Rattle.scripts.specs.declared.line.Row.TheVariants.{Open}
use Rattle.scripts.specs.declared.line.RowFault.{RowFault}
use Rattle.scripts.specs.declared.line.RowFault.TheVariants as row
use Rattle.scripts.specs.declared.line.ScriptFault.{ScriptFault}
use Rattle.scripts.specs.Gives.{FailsRow}
use Rattle.scripts.specs.ScriptWords.{row_in}
use Rattle.scripts.proofs.Ahead.{ahead-ahead}
use Rattle.scripts.specs.Script.{fault_at, opened_after, script_from, IsFault}

-- what is read so far is ahead of the lines that are left, and no more drafts were opened than lines were read
pub record IsReadTo (front : List Line) (opened : ℕ) (left : List (ℕ × List ℕ))
    (total : Result (List Line) ScriptFault) : Type 0 where
  pub so_far : ahead front (script_from opened left) ≡ total
  pub few : opened ≤ length front

opened_after-le : (opened : ℕ) (row : Row) → opened_after opened row ≤ opened + 1
opened_after-le opened (Open team) = omega arith
opened_after-le opened row = omega arith

module _ (front : List Line) (opened number : ℕ) (text : List ℕ) (ls all : List (ℕ × List ℕ))
    (total : Result (List Line) ScriptFault) (cut : all ≡ (number, text) ∷ ls)
    (read : IsReadTo front opened all total) where
  pub script_next : (row : Row) → row_in opened (words text) ≡ Ok row → IsReadTo
      (front ++ record { number = number; row = row } ∷ []) (opened_after opened row) ls total
  unfolding script_from
  script_next row is =
      let line : Line = record { number = number; row = row } in
      let one : ahead front (script_from opened all)
      ≡ ahead (front ++ line ∷ []) (script_from (opened_after opened row) ls) =
      rw (cut, is) (ahead-ahead front line (script_from (opened_after opened row) ls)) in
      record {
        so_far = sym one ∙ read.so_far;
        few = omega (arith, opened_after-le opened row, read.few, length-append front (line ∷ []));
      }

  pub script_fails : (fault : RowFault) → FailsRow fault (row_in opened (words text))
      → IsFault (fault_at number fault) total
  unfolding script_from
  script_fails row.OutOfMemory is = tt
  script_fails fault is =
      let one : ahead front (script_from opened all) ≡ Err (fault_at number fault) =
      rw (cut, is) refl in
      sym read.so_far ∙ one

pub script_end : (front : List Line) (opened : ℕ) (all : List (ℕ × List ℕ))
    (total : Result (List Line) ScriptFault) → all ≡ [] → IsReadTo front opened all total
    → total ≡ Ok front
unfolding script_from
script_end front opened all total none read =
    let one : ahead front (script_from opened all) ≡ Ok front =
    rw none (ap (λ (ys : List Line). Ok ys) (append-nil front)) in
    sym read.so_far ∙ one
