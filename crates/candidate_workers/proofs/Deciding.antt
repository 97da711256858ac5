-- What was handed on decides a level.
use Rattle.std.proofs.Common.{◌≡◌, ℕ, zero, suc, ◌+◌, ◌<◌, ◌≤◌, ◌⊎◌, inl, inr, true, true≢false}
use Rattle.std.proofs.Common.{List, [], ◌∷◌, ◌++◌, length, slice_get, Option, None, Some, All, IsTrue}
use Rattle.std.proofs.Common.{Result, Ok, Err, refl, sym, ◌∙◌, ap, subst, arith}
use Rattle.std.specs.Prelude.{IfNone, IfSome, IsSome}
use Rattle.std.specs.FinSet as members
use Rattle.std.proofs.lemmas.Bool.{cases_Bool, cases_lt, cases_eq, both_ways, ltb-true}
use Rattle.std.proofs.lemmas.List.{length-append}
use Rattle.std.proofs.lemmas.List.Elements.{All-nil, All-cons, All-head, All-tail}
use Rattle.std.proofs.lemmas.List.Elements.{All-contains}
use Rattle.std.proofs.lemmas.Option.{slice_get_within}
use Rattle.task_sheet.specs.Indexes.{Indexes, indexes_of, without_index, listed_below, below}
use Rattle.task_sheet.specs.Indexes.{IsPart}
use Rattle.task_sheet.specs.Demand.{IsResponseOf}
use Rattle.task_sheet.specs.Orders.{Stands}
use Rattle.task_sheet.specs.Levels.{IsChosen, NoneStands}
use Rattle.task_sheet.proofs.MembersIndexes.{indexes_of-remove, same_members}
use Rattle.assignment.specs.Questions.{QuestionData}
use Rattle.assignment.specs.Places.{PlaceData}
use Rattle.assignment.specs.Placings.{tasks_of_places}
use Rattle.assignment.proofs.CandidateLaws.{listed-at}
use Rattle.candidate_workers.specs.declared.asking.WorkFault.{WorkFault}
use Rattle.candidate_workers.specs.declared.gathering.Claimed.{Claimed}
use Rattle.candidate_workers.specs.declared.gathering.Crew.{Crew}
use Rattle.candidate_workers.specs.Asked.{IsAmong, IsOfLevel}
use Rattle.candidate_workers.specs.Candidates.{CandidatesData}
use Rattle.candidate_workers.specs.Claims.{count_of, candidate_at, passes_at, IsLeastPassing}
use Rattle.candidate_workers.specs.Counting.{times}
use Rattle.candidate_workers.specs.Crews.{places_in, tasks_in, whole_view, IsHanded}
use Rattle.candidate_workers.specs.Crews.{AreClaims, IsLowest}
use Rattle.candidate_workers.specs.Passing.{question_on, IsPassing, AreFree}
use Rattle.candidate_workers.proofs.Lists.{same_case}
use Rattle.candidate_workers.proofs.PlaceLaws.{len-listed, candidate-there, place_passes}

-- ---- questions
-- the question on a candidate with the others above it is one
question_is : (l : CandidatesData) (q : QuestionData) → IsAmong l.set (indexes_of l.left) q
    → q ≡ question_on l q.task
question_is l q is =
    let above : q.above ≡ members.remove l.left q.task = same_members q.above
    (members.remove l.left q.task) (is.above ∙ sym (indexes_of-remove l.left q.task)) in
    λ i. let h : QuestionData = record { set = is.same i; above = above i; task = q.task } in h

-- ---- places and candidates
get_last : (xs : List ℕ) (y p i : ℕ) → slice_get (xs ++ y ∷ []) p ≡ Some i
    → (slice_get xs p ≡ Some i) ⊎ ((p ≡ length xs) × (y ≡ i))
get_last [] y zero i at = inr (refl, cc)
get_last [] y (suc p) i at = cc
get_last (x ∷ xs) y zero i at = inl at
get_last (x ∷ xs) y (suc p) i at = elim (get_last xs y p i at) [
  | inl h ↦ inl h
  | inr h ↦ inr (ap suc h.0, h.1)
]

-- the place of a candidate counts those below it
place_is : (n : ℕ) (L : Indexes) (p i : ℕ) → slice_get (listed_below n L) p ≡ Some i
    → p ≡ length (listed_below i L)
place_is zero L p i at = absurd (cc)
place_is (suc n) L p i at = elim (cases_Bool (L n)) [
  | inl member ↦ elim (get_last (listed_below n L) n p i (rw member at at)) [
    | inl h ↦ place_is n L p i h
    | inr h ↦ h.0 ∙ ap (λ j. length (listed_below j L)) h.1
  ]
  | inr out ↦ place_is n L p i (rw out at at)
]

fewer_below : (L : Indexes) (j i : ℕ) → j < i → IsTrue (L j)
    → length (listed_below j L) < length (listed_below i L)
fewer_below L j zero less member = absurd (omega arith)
fewer_below L j (suc i) less member = let all = listed_below i L in elim (cases_eq j i) [
  | inl e ↦ let here : L i ≡ true = ap L (sym e) ∙ member in
      rw (e, here) (omega (arith, length-append all (i ∷ [])))
  | inr ne ↦ let fewer = fewer_below L j i (omega arith) member in elim (cases_Bool (L i)) [
    | inl here ↦ rw here (omega (arith, length-append all (i ∷ [])))
    | inr out ↦ rw out fewer
  ]
]

-- the place of a candidate, which counts those of smaller rank
abbrev place_of : CandidatesData → ℕ → ℕ
place_of l j = length (listed_below j (indexes_of l.left))

-- ---- the tasks of places
least_task : (least : ℕ) (places : List PlaceData) → All (λ p. least ≤ p.task) places → (task : ℕ)
    → 0 < times task (tasks_of_places places) → least ≤ task
least_task least [] all task some = absurd (omega arith)
least_task least (p ∷ places) all task some = elim (cases_eq p.task task) [
  | inl e ↦ omega (arith, All-head (λ (q : PlaceData). least ≤ q.task) p places all)
  | inr ne ↦ least_task least places (All-tail (λ q. least ≤ q.task) p places all) task
      (omega (arith, same_case task p.task))
]

module _ (l : CandidatesData) (part : IsPart (indexes_of l.left) (below (length l.set))) where
  -- a candidate stands at its place
  stands_at : (j : ℕ) → IsTrue (indexes_of l.left j)
      → (place_of l j < count_of l) × (candidate_at l (place_of l j) ≡ j)
  stands_at j member =
      let n = length l.set in
      let L = indexes_of l.left in
      let at = listed-at n L j (ltb-true j n (part j member)) member in
      let lt : place_of l j < count_of l = omega (
        arith,
        slice_get_within (listed_below n L) (place_of l j) j at,
        len-listed n l.left part,
      ) in
      let there = candidate-there l (place_of l j) part lt in
      let is : candidate_at l (place_of l j) ≡ j = cc in
      (lt, is)

  -- one of smaller rank than that at a place stands before it
  before : (k j : ℕ) → k < count_of l → IsTrue (indexes_of l.left j) → j < candidate_at l k
      → place_of l j < k
  before k j lt member less =
      let i = candidate_at l k in
      let L = indexes_of l.left in
      let at = place_is (length l.set) L k i (candidate-there l k part lt) in
      omega (arith, at, fewer_below L j i less member)

  module _ (places : List PlaceData) (claimed : Claimed)
      (least : IsLeastPassing (count_of l) (passes_at l) claimed.least)
      (handed : claimed.least < count_of l
      → 0 < times (candidate_at l claimed.least) (tasks_of_places places))
      (passing : All (IsPassing l) places) where
    -- one that may stand has no place before the least
    from_least : (j : ℕ) → IsTrue (indexes_of l.left j)
        → Stands l.set j (without_index (indexes_of l.left) j) → claimed.least ≤ place_of l j
    from_least j member stands = elim (cases_lt (place_of l j) claimed.least) [
      | inl low ↦ absurd (both_ways _ (least.2 (place_of l j) low)
          (place_passes l (place_of l j) j (sym (stands_at j member).1) stands))
      | inr high ↦ high
    ]

    -- where some place was handed on, there is a least one, and its task is no lower than the least
    some_ends : (p : PlaceData) → IsLowest places (Some p) → (claimed.least < count_of l)
        × (p.task ≤ candidate_at l claimed.least)
    some_ends p first =
        let ok = All-contains (IsPassing l) places p passing first.0 in
        let small : claimed.least < count_of l = omega (
          arith,
          from_least p.task ok.candidate ok.stands,
          (stands_at p.task ok.candidate).0,
        ) in
        (small, least_task p.task places first.1 (candidate_at l claimed.least) (handed small))

    none_ends : places ≡ [] → count_of l ≤ claimed.least
    none_ends none = elim (cases_lt claimed.least (count_of l)) [
      | inl small ↦ absurd (omega (arith, rw none at (handed small)))
      | inr all ↦ all
    ]

    pub chosen_by : (place : Option PlaceData) → IsLowest places place
        → IfSome place (λ p. IsChosen l.set (indexes_of l.left) p.task)
    chosen_by None first = tt
    chosen_by (Some p) first =
        let ok = All-contains (IsPassing l) places p passing first.0 in
        let end = some_ends p first in
        record {
          member = ok.candidate;
          stands = ok.stands;
          first = λ j less member stands.
              let low = before claimed.least j end.0 member (omega (arith, end.1)) in
              omega (arith, from_least j member stands);
        }

    pub none_by : (place : Option PlaceData) → IsLowest places place
        → IfNone place (NoneStands l.set (indexes_of l.left))
    none_by (Some p) first = tt
    none_by None first = λ j member stands. let all = none_ends first in
        omega (arith, from_least j member stands, (stands_at j member).0)

    -- ---- none of the level's questions is one of those shut out
    module _ (shut : QuestionData → Type 0) (free : AreFree shut l (whole_view claimed))
        (answered : (k : ℕ) → k < count_of l → k ≤ claimed.least
        → 0 < times k (whole_view claimed).failed + times k (whole_view claimed).passed) where
      free_at : (q : QuestionData) → IsAmong l.set (indexes_of l.left) q
          → place_of l q.task ≤ claimed.least → shut q → ⊥
      free_at q is low bad =
          let k = place_of l q.task in
          let there = stands_at q.task is.member in
          free.each k (answered k there.0 low)
          (subst shut (question_is l q is ∙ ap (question_on l) (sym there.1)) bad)

      pub asked_by : (place : Option PlaceData) → IsLowest places place → (q : QuestionData)
          → IsOfLevel l.set (indexes_of l.left) place q → shut q → ⊥
      asked_by None first q is bad =
          free_at q is (omega (arith, none_ends first, (stands_at q.task is.member).0)) bad
      asked_by (Some p) first q is bad =
          let end = some_ends p first in
          let i = candidate_at l claimed.least in
          elim (cases_lt q.task i) [
            | inl less ↦ free_at q is.0
                (omega (arith, before claimed.least q.task end.0 is.0.member less)) bad
            | inr same ↦
                let e : i ≡ q.task = omega (arith, end.1, is.1) in
                let at = place_is (length l.set) (indexes_of l.left) claimed.least i
                (candidate-there l claimed.least part end.0) in
                free_at q is.0 (omega (arith, at, ap (place_of l) e)) bad
          ]

-- ---- what a crew handed on
-- the places that were handed on are of candidates that may stand
passing_in : (may : QuestionData → Type 0) (l : CandidatesData)
    (hs : List (Result (Option PlaceData) WorkFault)) → All (IsHanded may l) hs
    → All (IsPassing l) (places_in hs)
passing_in may l [] all = All-nil (IsPassing l)
passing_in may l (Ok None ∷ hs) all =
    passing_in may l hs (All-tail (IsHanded may l) (Ok None) hs all)
passing_in may l (Ok (Some p) ∷ hs) all = All-cons (IsPassing l) p (places_in hs)
    (All-head (IsHanded may l) (Ok (Some p)) hs all)
    (passing_in may l hs (All-tail (IsHanded may l) (Ok (Some p)) hs all))
passing_in may l (Err fault ∷ hs) all =
    passing_in may l hs (All-tail (IsHanded may l) (Err fault) hs all)

claims_of : {X : Type 0} (o : Option X) {P Q : X → Type 0} → IsSome o → IfSome o P → IfSome o Q
    → (x : X) × P x × Q x
claims_of None some is also = absurd (true≢false (sym some))
claims_of (Some x) some is also = (x, is, also)

-- what the lowest place of a level tells
pub record IsDecided (shut : QuestionData → Type 0) (l : CandidatesData) (place : Option PlaceData)
    : Type 0 where
  pub chosen : IfSome place (λ p. IsChosen l.set (indexes_of l.left) p.task)
  pub response : IfSome place
      (λ p. IsResponseOf l.set p.task (without_index (indexes_of l.left) p.task) p.response)
  pub none : IfNone place (NoneStands l.set (indexes_of l.left))
  pub asked : (q : QuestionData) → IsOfLevel l.set (indexes_of l.left) place q → shut q → ⊥

response_by : (l : CandidatesData) (places : List PlaceData) (place : Option PlaceData)
    → All (IsPassing l) places → IsLowest places place → IfSome place
    (λ p. IsResponseOf l.set p.task (without_index (indexes_of l.left) p.task) p.response)
response_by l places None passing first = tt
response_by l places (Some p) passing first =
    (All-contains (IsPassing l) places p passing first.0).response

-- the lowest of those that were handed on decides the level, where no fault came
pub decided_by : (shut may : QuestionData → Type 0) (l : CandidatesData) (crew : Crew)
    (place : Option PlaceData) → IsPart (indexes_of l.left) (below (length l.set))
    → All (IsHanded may l) crew.handed.items → IsSome crew.claimed → IfSome crew.claimed
    (λ claimed. AreClaims l (tasks_in crew.handed.items) claimed) → IfSome crew.claimed
    (λ claimed. AreFree shut l (whole_view claimed)) → ((claimed : Claimed) (k : ℕ)
    → AreClaims l (tasks_in crew.handed.items) claimed → k < count_of l → k ≤ claimed.least
    → 0 < times k (whole_view claimed).failed + times k (whole_view claimed).passed)
    → ((claimed : Claimed) → AreClaims l (tasks_in crew.handed.items) claimed
    → claimed.least < count_of l → 0 < times (candidate_at l claimed.least)
    (tasks_in crew.handed.items)) → IsLowest (places_in crew.handed.items) place
    → IsDecided shut l place
decided_by shut may l crew place part handed some claims free answered least first =
    let so = claims_of crew.claimed some claims free in
    let places = places_in crew.handed.items in
    let passing = passing_in may l crew.handed.items handed in
    let told = least so.0 so.1 in
    record {
      chosen = chosen_by l part places so.0 so.1.least told passing place first;
      response = response_by l places place passing first;
      none = none_by l part places so.0 so.1.least told passing place first;
      asked = asked_by l part places so.0 so.1.least told passing shut so.2
          (λ k lt up. answered so.0 k so.1 lt up) place first;
    }
