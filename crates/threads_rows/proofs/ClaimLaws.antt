-- Answers by the places of candidates, and draws that are not late.
use Rattle.std.proofs.Common.{◌≡◌, ℕ, ◌<◌, ◌++◌, ◌∷◌, [], true, false, Option, None, Some, arith}
use Rattle.std.specs.Prelude.{IfNone, IfSome}
use Rattle.task_sheet.specs.Indexes.{indexes_of, without_index}
use Rattle.task_sheet.specs.Orders.{Stands}
use Rattle.candidate_workers.specs.declared.view.View.{View}
use Rattle.candidate_workers.specs.Candidates.{CandidatesData}
use Rattle.candidate_workers.specs.Claims.{candidate_at, passes_at, late, claimed}
use Rattle.candidate_workers.specs.Counting.{from_on}
use Rattle.candidate_workers.proofs.Lists.{from_on-append, late_case}
use Rattle.candidate_workers.proofs.PlaceLaws.{place_passes, place_fails}

-- the response of the candidate at a place tells whether the place passes
pub passes_there : (l : CandidatesData) (k task : ℕ) (response : Option ℕ)
    → task ≡ candidate_at l k
    → IfSome response (λ _. Stands l.set task (without_index (indexes_of l.left) task))
    → IfSome response (λ _. passes_at l k ≡ true)
passes_there l k task None is stands = tt
passes_there l k task (Some response) is stands = place_passes l k task is stands

pub fails_there : (l : CandidatesData) (k task : ℕ) (response : Option ℕ) → task ≡ candidate_at l k
    → IfNone response (¬ Stands l.set task (without_index (indexes_of l.left) task))
    → IfNone response (passes_at l k ≡ false)
fails_there l k task None is fails = place_fails l k task is fails
fails_there l k task (Some response) is fails = tt

-- a draw of a candidate's number is not late
pub draws_early : (v w : View) (n : ℕ) → w ≡ claimed v n → n < v.count → late w ≡ late v
draws_early v w n e small = rw e (omega (arith, from_on-append, late_case))
