-- All lines that say how far the numbers of a set, or of one task, may go: in an order that is given, with its places where it
-- passes, or in none.
use Rattle.std.specs.Prelude.{◌≡◌, ℕ, zero, suc, ◌==◌, Bool, ◌&&◌, not, List, [], ◌++◌, length, codes, Option, Some, None}
use Rattle.task_sheet.specs.Sheet.{Task}
use Rattle.task_lines.specs.declared.owner.Owner.{Owner}
use Rattle.owners.specs.Clocks.{has_clock}
use Rattle.assignment.specs.Places.{PlaceData}
use Rattle.chain_tables.specs.Chains.{ChainData}
use Rattle.limit_lines.specs.LimitLines.{AreTaskLines, IsLast, word_if}
use Rattle.limit_lines.specs.Common.{AreCommonLines}
use Rattle.limit_lines.specs.ChainReaches.{AreChainsLines}

-- the text is the lines of the first tasks of a set, by rank
abbrev pub AreLines : List Owner → List Task → Option (List ℕ) → Option (List PlaceData) → ℕ → List ℕ → Type 0
AreLines owners U order places zero text = text ≡ []
AreLines owners U order places (suc k) text =
    (front : List ℕ) × (lines : List ℕ) × AreLines owners U order places k front
    × AreTaskLines owners U order places k lines
    × (text ≡ front ++ lines)

-- the line that no single change mends what has no places, where it stands alone
abbrev pub alone_line : (is_alone : Bool) → Option (List PlaceData) → List ℕ
alone_line is_alone (Some places) = []
alone_line is_alone None = word_if is_alone (codes "no single change\n")

-- the lines behind those of the tasks, by whether these are none: those that are of no one task, that one, unless a task is
-- on a clock, whose period no line moves, and that of the factors
abbrev pub AreEndLines : List Owner → List Task → Option (List ℕ) → Option (List PlaceData) → (is_silent : Bool)
    → List ℕ → Type 0
AreEndLines owners U order places is_silent text =
    (common : List ℕ) × (last : List ℕ) × AreCommonLines owners U order common × IsLast U order last
    × (text ≡ common
    ++ (alone_line ((is_silent && (length common == 0)) && not (has_clock owners)) places ++ last))

-- the lines of the task that is asked about; else those of each task, and those behind them
abbrev pub AreNumbersOf : List Owner → List Task → Option (List ℕ) → Option (List PlaceData) → (asked : Option ℕ)
    → List ℕ → Type 0
AreNumbersOf owners U order places (Some i) text = AreTaskLines owners U order places i text
AreNumbersOf owners U order places None text =
    (lines : List ℕ) × (end : List ℕ) × AreLines owners U order places (length U) lines
    × AreEndLines owners U order places (length lines == 0) end × (text ≡ lines ++ end)

-- those, and then the lines of each chain
abbrev pub AreLimits : List Owner → List ChainData → List Task → Option (List ℕ) → Option (List PlaceData)
    → (asked : Option ℕ) → List ℕ → Type 0
AreLimits owners chains U order places asked text =
    (numbers : List ℕ) × (chained : List ℕ) × AreNumbersOf owners U order places asked numbers
    × AreChainsLines owners chains U order places asked (length chains) chained × (text ≡ numbers ++ chained)
