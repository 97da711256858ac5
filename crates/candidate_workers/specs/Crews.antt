-- What came of the workers of a level, all together.
use Rattle.std.specs.Prelude.{◌≡◌, ℕ, ◌+◌, ◌<◌, ◌≤◌, Bool, true, false, if◌then◌else◌, List, [], ◌∷◌, ◌++◌, flat_map, Option, None, Some, option_to_list, Result, Ok, Err, All, IfSome, IsSome}
use Rattle.std.specs.List.{Contains}
use Rattle.assignment.specs.Questions.{QuestionData}
use Rattle.assignment.specs.Places.{PlaceData}
use Rattle.assignment.specs.Placings.{tasks_of_places}
use Rattle.candidate_workers.specs.declared.assaying.TheConstants.{WORKER_LIMIT}
use Rattle.candidate_workers.specs.declared.asking.WorkFault.{WorkFault}
use Rattle.candidate_workers.specs.declared.assaying.AssayFault.{AssayFault}
use Rattle.candidate_workers.specs.declared.assaying.AssayFault.TheVariants.{BadWorkers, ThreadRefused, GateShut, OutOfMemory}
use Rattle.candidate_workers.specs.declared.claims.ClaimTable.{ClaimTable}
use Rattle.candidate_workers.specs.declared.claims.ClaimSeat.{ClaimSeat}
use Rattle.candidate_workers.specs.declared.gathering.Claimed.{Claimed}
use Rattle.candidate_workers.specs.declared.gathering.Crew.{Crew}
use Rattle.candidate_workers.specs.declared.view.View.{View}
use Rattle.candidate_workers.specs.Candidates.{CandidatesData}
use Rattle.candidate_workers.specs.Claims.{count_of, passes_at, settled, IsLeastPassing}
use Rattle.candidate_workers.specs.Counting.{times, once_below}
use Rattle.candidate_workers.specs.Passing.{IsPassing, AreFree}
use Rattle.candidate_workers.specs.Seats.{seat_view, table_level, IsSeatEnded, ArePassed}
use Rattle.candidate_workers.specs.WorkerFaults.{MayFail, fault_of}

-- the place that a worker handed on
abbrev pub place_in : Result (Option PlaceData) WorkFault → List PlaceData
place_in (Ok place) = option_to_list place
place_in (Err fault) = []

-- the places that the workers handed on, worker by worker
abbrev pub places_in : List (Result (Option PlaceData) WorkFault) → List PlaceData
places_in handed = flat_map place_in handed

-- the tasks of these places
abbrev pub tasks_in : List (Result (Option PlaceData) WorkFault) → List ℕ
tasks_in handed = tasks_of_places (places_in handed)

-- what a worker hands on: a candidate that may stand, if it found one, or why it can't say
abbrev pub IsHanded : (QuestionData → Type 0) → CandidatesData
    → Result (Option PlaceData) WorkFault
    → Type 0
IsHanded may level (Ok place) = IfSome place (IsPassing level)
IsHanded may level (Err fault) = MayFail may level.set fault

-- the fault of a worker, where it has one
abbrev pub fault_in : Result (Option PlaceData) WorkFault → List AssayFault
fault_in (Ok place) = []
fault_in (Err fault) = fault_of fault ∷ []

-- the faults of the workers
abbrev pub faults_in : List (Result (Option PlaceData) WorkFault) → List AssayFault
faults_in handed = flat_map fault_in handed

-- what a worker of a table gives back, or several: what each hands on, and, where no thread was
-- refused and none has a fault, their seats in one, ended, with so many spares; each place that
-- passed was handed on, and no question of one that failed or passed is one of those shut out
pub record AreReturned
    (shut may : QuestionData → Type 0)
    (table : ClaimTable)
    (spare : ℕ)
    (refused : Bool)
    (handed : List (Result (Option PlaceData) WorkFault))
    (seat : Option ClaimSeat) : Type 0 where
  pub handed_on : All (IsHanded may (table_level table)) handed
  pub ended :
      IfSome seat
      (λ s. IsSeatEnded table s spare
      × ArePassed (table_level table) (seat_view s) (tasks_in handed)
      × AreFree shut (table_level table) (seat_view s))
  pub some : refused ≡ false → faults_in handed ≡ [] → IsSome seat

-- the faults of a crew: a thread that was refused, and the faults of its workers
abbrev pub faults_of : Crew → List AssayFault
faults_of crew = (if crew.refused then ThreadRefused ∷ [] else []) ++ faults_in crew.handed.items

-- the place of a fault in the order in which faults are answered
abbrev pub rank_of : AssayFault → ℕ
rank_of BadWorkers = 0
rank_of ThreadRefused = 1
rank_of (GateShut task) = 2
rank_of OutOfMemory = 3

-- one of these, with none of smaller rank among them, or there are none
abbrev pub IsFirst : {A : Type 0} → (A → ℕ) → List A → Option A → Type 0
IsFirst rank xs None = xs ≡ []
IsFirst rank xs (Some x) = Contains xs x × All (λ other. rank x ≤ rank other) xs

-- the first of some faults in that order
abbrev pub IsFirstFault : List AssayFault → Option AssayFault → Type 0
IsFirstFault faults first = IsFirst rank_of faults first

-- of some places the one whose task has the least rank
abbrev pub IsLowest : List PlaceData → Option PlaceData → Type 0
IsLowest places lowest = IsFirst (λ p. p.task) places lowest

-- the view of all that the workers of a level did at its claim table
abbrev pub whole_view : Claimed → View
whole_view claimed = seat_view claimed.seat.value

-- the workers drew the numbers below the counter, each once, among them each place up to the least
-- word; each of these that is a place became one of passed, failed and cut; the tasks that were
-- handed on are the candidates at the passed places; the least word is the least place whose
-- candidate passes, or the number of candidates
pub record AreClaims (level : CandidatesData) (tasks : List ℕ) (claimed : Claimed) : Type 0 where
  pub each_once : (x : ℕ) → times x (whole_view claimed).drawn ≡ once_below x claimed.counter
  pub near : claimed.counter ≤ count_of level + WORKER_LIMIT
  pub least : IsLeastPassing (count_of level) (passes_at level) claimed.least
  pub reached : (k : ℕ) → k < count_of level → k ≤ claimed.least → k < claimed.counter
  pub one_fate : (k : ℕ) → k < count_of level
      → settled (whole_view claimed) k ≡ once_below k claimed.counter
  pub passing : (k : ℕ) → 0 < times k (whole_view claimed).passed → passes_at level k ≡ true
  pub failing : (k : ℕ) → 0 < times k (whole_view claimed).failed → passes_at level k ≡ false
  pub cut_above : (k : ℕ) → 0 < times k (whole_view claimed).cut → claimed.least < k
  pub told : ArePassed level (whole_view claimed) tasks
