-- For each number the furthest value with which a given order passes.
use Rattle.std.specs.Prelude.{ℕ, List, Option}
use Rattle.task_sheet.specs.Sheet.{Task}
use Rattle.task_sheet.specs.Orders.{IsPassingOrder}
pub use Rattle.other_numbers.specs.InOrder.{PassesIn}
use Rattle.limits.specs.declared.number.Number.{Number}
use Rattle.limits.specs.Numbers.{IsFurthestFor, NoneHelpsFor, AnswersFor}

-- the furthest value with which the order passes as it stands, all else equal
abbrev pub IsFurthestIn : List Task → List ℕ → ℕ → Number → ℕ → Type 0
IsFurthestIn U order i number value = IsFurthestFor (λ V. IsPassingOrder V order) U i number value

-- no value helps that order
abbrev pub NoneHelpsIn : List Task → List ℕ → ℕ → Number → Type 0
NoneHelpsIn U order i number = NoneHelpsFor (λ V. IsPassingOrder V order) U i number

-- the furthest value, or none where none helps it
abbrev pub AnswersFurthestIn : List Task → List ℕ → ℕ → Number → Option ℕ → Type 0
AnswersFurthestIn U order i number answer = AnswersFor (λ V. IsPassingOrder V order) U i number answer
