use Rattle.std.proofs.Common.{◌≡◌, ◌++◌, ℕ, List, [], ◌∷◌, Option, Some, None, option_map, refl, ap}
use Rattle.std.proofs.Common.{ap₂, arith}
use Rattle.task_sheet.proofs.Common.{Task, ceiling_of}
use Rattle.ceilings.specs.IsTableOf.{locks_of}
use Rattle.settings.specs.Settings.{mutex_line, mutex_lines, mutex_lines_from, priority_of}
use Rattle.settings.specs.Settings.{thread_lines}
use Rattle.settings.proofs.laws.levels_are_priorities_from_1.Goals as goal

from_1 : (level : ℕ) → priority_of 1 level ≡ level
from_1 level = omega arith

same_line : (lock : List ℕ) (ceiling : Option ℕ)
    → mutex_line lock (option_map (priority_of 1) ceiling) ≡ mutex_line lock ceiling
same_line lock None = refl
same_line lock (Some level) = ap (λ (n : ℕ). mutex_line lock (Some n)) (from_1 level)

same_lines : (U : List Task) (order : List ℕ) (locks : List (List ℕ))
    → mutex_lines_from U 1 order locks ≡ mutex_lines U order locks
same_lines U order [] = refl
same_lines U order (lock ∷ locks) = ap₂ (λ (x y : List ℕ). x ++ y)
    (same_line lock (ceiling_of U order lock)) (same_lines U order locks)

pub returns : goal.returns
returns c = λ U order. ap (λ (lines : List ℕ). thread_lines U 1 order ++ lines)
    (same_lines U order (locks_of U))
