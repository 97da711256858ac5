-- What the workers of a level hand on, all together.
use Rattle.std.proofs.Common.{◌≡◌, ℕ, zero, suc, ◌+◌, ◌<◌, ◌≤◌, Bool, true, false, cond, List, []}
use Rattle.std.proofs.Common.{All, inl, inr, ◌∷◌, ◌++◌, map, length, take, get_or, Option, Some}
use Rattle.std.proofs.Common.{Result, Ok, Err, refl, ap, ◌∙◌, subst, ⊎_elim, arith}
use Rattle.std.specs.Prelude.{IfErr}
use Rattle.std.specs.List.{Contains, flat_map}
use Rattle.std.proofs.lemmas.Bool.{cases_eq, cases_lt, both_ways}
use Rattle.std.proofs.lemmas.List.{map-append, take_more, flat_map_more}
use Rattle.std.proofs.lemmas.List.Elements.{All-head, All-tail, All-push, Contains-append_left}
use Rattle.std.proofs.lemmas.List.Elements.{Contains-append_right, Contains-append_cases}
use Rattle.task_sheet.specs.Sheet.{Task}
use Rattle.assignment.specs.Questions.{QuestionData}
use Rattle.assignment.specs.Places.{PlaceData}
use Rattle.candidate_workers.specs.declared.asking.WorkFault.{WorkFault}
use Rattle.candidate_workers.specs.declared.asking.WorkFault.TheVariants as work
use Rattle.candidate_workers.specs.declared.assaying.AssayFault.{AssayFault}
use Rattle.candidate_workers.specs.declared.assaying.AssayFault.TheVariants.{ThreadRefused}
use Rattle.candidate_workers.specs.declared.assaying.AssayFault.TheVariants.{GateShut}
use Rattle.candidate_workers.specs.declared.gathering.Claimed.{Claimed}
use Rattle.candidate_workers.specs.declared.gathering.Crew.{Crew}
use Rattle.candidate_workers.specs.declared.view.View.{View}
use Rattle.candidate_workers.specs.Candidates.{CandidatesData}
use Rattle.candidate_workers.specs.Claims.{count_of, candidate_at, joined}
use Rattle.candidate_workers.specs.Counting.{times}
use Rattle.candidate_workers.specs.Passing.{AreFree}
use Rattle.candidate_workers.specs.Seats.{ArePassed}
use Rattle.candidate_workers.specs.WorkerFaults.{NoVerdict, MayFail, fault_of, is_shut}
use Rattle.candidate_workers.specs.Crews.{IsHanded, faults_in, faults_of, IsFirst, IsFirstFault}
use Rattle.candidate_workers.specs.Crews.{whole_view, AreClaims}
use Rattle.candidate_workers.proofs.Lists.{times-append, once_case, same_case}

-- ---- the first of some
module _ {A : Type 0} (rank : A → ℕ) where
  pub first_of_later : (other : A) (xs : List A) → All (λ x. rank other ≤ rank x) xs
      → IsFirst rank (xs ++ other ∷ []) (Some other)
  first_of_later other xs all = (
    Contains-append_right xs (other ∷ []) other (0, omega arith, refl),
    All-push (λ x. rank other ≤ rank x) xs other all (omega arith),
  )

  pub first_of_earlier : (x other : A) (xs : List A) → rank x ≤ rank other
      → IsFirst rank xs (Some x) → IsFirst rank (xs ++ other ∷ []) (Some x)
  first_of_earlier x other xs less first = (
    Contains-append_left xs (other ∷ []) x first.0,
    All-push (λ y. rank x ≤ rank y) xs other first.1 less,
  )

  -- of what one more holds
  pub first_of_more : {X : Type 0} (f : X → List A) (start : List A) (hs : List X) (i : ℕ) (h : X)
      (first : Option A) → i < length hs → get_or hs i h ≡ h
      → IsFirst rank ((start ++ flat_map f (take i hs)) ++ f h) first
      → IsFirst rank (start ++ flat_map f (take (i + 1) hs)) first
  first_of_more f start hs i h first within here is =
      let step : take (i + 1) hs ≡ take i hs ++ h ∷ [] =
      take_more hs i h within ∙ ap (λ x. take i hs ++ x ∷ []) here in
      rw (step, ← flat_map_more f start (take i hs) h) is

-- ---- each fault says why there is no placing
worker_named : (may : QuestionData → Type 0) (U : List Task) (workers : ℕ) (fault : WorkFault)
    → MayFail may U fault → NoVerdict may U workers (fault_of fault)
worker_named may U workers (work.GateShut task) is = is
worker_named may U workers work.OutOfMemory is = tt

work_named : (may : QuestionData → Type 0) (l : CandidatesData) (workers : ℕ)
    (hs : List (Result (Option PlaceData) WorkFault)) (fault : AssayFault)
    → All (IsHanded may l) hs → Contains (faults_in hs) fault → NoVerdict may l.set workers fault
work_named may l workers [] fault all at = absurd (omega (arith, at.1))
work_named may l workers (Ok place ∷ hs) fault all at =
    work_named may l workers hs fault (All-tail (IsHanded may l) _ hs all) at
work_named may l workers (Err first ∷ hs) fault all (zero, lt, here) =
    subst (λ (f : AssayFault). NoVerdict may l.set workers f) here
    (worker_named may l.set workers first (All-head (IsHanded may l) (Err first) hs all))
work_named may l workers (Err first ∷ hs) fault all (suc k, lt, there) =
    work_named may l workers hs fault (All-tail (IsHanded may l) _ hs all)
    (k, omega arith, there)

refused_named : (may : QuestionData → Type 0) (U : List Task) (workers : ℕ) (refused : Bool)
    (fault : AssayFault) → Contains (cond refused (ThreadRefused ∷ []) []) fault
    → NoVerdict may U workers fault
refused_named may U workers true fault (zero, lt, here) =
    subst (λ (f : AssayFault). NoVerdict may U workers f) here tt
refused_named may U workers true fault (suc k, lt, there) = absurd (omega arith)
refused_named may U workers false fault at = absurd (omega (arith, at.1))

pub crew_named : (may : QuestionData → Type 0) (l : CandidatesData) (workers : ℕ) (crew : Crew)
    (fault : AssayFault) → All (IsHanded may l) crew.handed.items
    → IsFirstFault (faults_of crew) (Some fault) → NoVerdict may l.set workers fault
crew_named may l workers crew fault all first =
    ⊎_elim (λ at. refused_named may l.set workers crew.refused fault at)
    (λ at. work_named may l workers crew.handed.items fault all at) (Contains-append_cases
    (cond crew.refused (ThreadRefused ∷ []) []) (faults_in crew.handed.items) fault first.0)

-- ---- where no question may be shut out, none is
pub never_shut : {V : Type 0} (may : QuestionData → Type 0) (U : List Task) (workers : ℕ)
    (r : Result V AssayFault) → IfErr r (λ fault. NoVerdict may U workers fault)
    → IfErr r (λ fault. ((q : QuestionData) → may q → ⊥) → is_shut fault ≡ false)
never_shut may U workers (Ok placing) is = tt
never_shut may U workers (Err (GateShut task)) is = λ never. absurd (never is.question is.shut)
never_shut may U workers (Err fault) is = λ never. refl

-- ---- two seats in one
pub passed_both : {level : CandidatesData} {v w u : View} {these those : List ℕ} → u ≡ joined v w
    → ArePassed level v these → ArePassed level w those → ArePassed level u (these ++ those)
passed_both {level} {v} {w} {these = these} {those} e mine theirs = record {
  each = λ j.
      let c = candidate_at level in
      rw (e, map-append c v.passed w.passed) (omega (
        arith,
        times-append j these those,
        mine.each j,
        theirs.each j,
        times-append j (map c v.passed) (map c w.passed),
      ));
}

pub free_both : {shut : QuestionData → Type 0} {level : CandidatesData} {v w u : View}
    → u ≡ joined v w → AreFree shut level v → AreFree shut level w → AreFree shut level u
free_both {v = v} {w} e mine theirs = record {
  each = λ k some. elim (cases_lt 0 (times k v.failed + times k v.passed)) [
    | inl here ↦ mine.each k here
    | inr none ↦ theirs.each k (omega (
      arith,
      times-append k v.failed w.failed,
      times-append k v.passed w.passed,
      rw e at some,
    ))
  ];
}

-- ---- each candidate up to the least that passes was answered
times-map_least : (c : ℕ → ℕ) (k : ℕ) (xs : List ℕ) → times k xs ≤ times (c k) (map c xs)
times-map_least c k [] = omega arith
times-map_least c k (y ∷ ys) = let rest = times-map_least c k ys in elim (cases_eq y k) [
  | inl e ↦ rw e (omega (arith, same_case (c k) (c k), same_case k k))
  | inr ne ↦ omega (arith, same_case k y)
]

pub answered_up_to : (level : CandidatesData) (tasks : List ℕ) (claimed : Claimed) (k : ℕ)
    → AreClaims level tasks claimed → k < count_of level → k ≤ claimed.least
    → 0 < times k (whole_view claimed).failed + times k (whole_view claimed).passed
answered_up_to level tasks claimed k so small up = grind (
  arith,
  so.reached k small up,
  so.one_fate k small,
  so.cut_above k,
  once_case k claimed.counter,
)

pub handed_least : (level : CandidatesData) (tasks : List ℕ) (claimed : Claimed)
    → AreClaims level tasks claimed → claimed.least < count_of level
    → 0 < times (candidate_at level claimed.least) tasks
handed_least level tasks claimed so small =
    let v = whole_view claimed in
    let k = claimed.least in
    let c = candidate_at level in
    let answered = answered_up_to level tasks claimed k so small (omega arith) in
    elim (cases_lt 0 (times k v.failed)) [
      | inl fails ↦ absurd (both_ways _ (so.failing k fails) (so.least.1 small))
      | inr none ↦ omega (arith, answered, so.told.each (c k), times-map_least c k v.passed)
    ]
