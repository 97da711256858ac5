-- The responses of an order bound the jobs of each run in it.
use Rattle.std.proofs.Common.{◌≡◌, ◌∙◌, ℕ, suc, ◌+◌, ◌<◌, ◌≤◌, inl, inr, true, false, List, [], ◌∷◌}
use Rattle.std.proofs.Common.{length, Some, None, Ok, is_some, unwrap_or, refl, sym, ap, subst}
use Rattle.std.proofs.Common.{arith, slice_index_or, eqb}
use Rattle.std.proofs.lemmas.Bool.{and_parts, both_ways, cases_Bool, cases_lt, eq-eqb, eqb-true}
use Rattle.std.proofs.lemmas.Bool.{false_from_ne_true, lt-ltb, ltb-true, or_left, or_right}
use Rattle.std.proofs.lemmas.Bool.{true≢false}
use Rattle.std.proofs.lemmas.Slice.Eq.{bytes_eq-Decides}
use Rattle.task_sheet.proofs.Common.{Task, task_at, same_bytes, IsTaskSet, Indexes, among}
use Rattle.task_sheet.proofs.Common.{without_index, IsResponseOf, greatest_of, all_of, IsOrder}
use Rattle.task_sheet.proofs.Common.{IsOrderOf}
use Rattle.task_sheet.proofs.IndexLaws.{IsOrderOf-among, IsOrderOf-rest, without-gone}
use Rattle.task_sheet.proofs.TaskLaws.{place_of_name}
use Rattle.lines.specs.Naming.{name_at}
use Rattle.assignment.specs.Places.{PlaceData}
use Rattle.assignment.specs.Placings.{IsBestPlacing, tasks_of_places}
use Rattle.explain.specs.Accounts.{AreInTime}
use Rattle.explain.proofs.AccountLaws.{best-in_time}
use Rattle.ceiling_kernel.proofs.Common.{Node, node_in, IsNode, PassesBy, above_of, after_of}
use Rattle.ceiling_kernel.proofs.Common.{response_by, jobs_of, release_at, task_named, task_number}
use Rattle.ceiling_kernel.proofs.Common.{Runs, no_record, record_of}
use Rattle.ceiling_kernel.specs.Runs.{MeetsBounds}
use Rattle.ceiling_kernel.specs.declared.trace.JobRecord.{JobRecord}
use Rattle.ceiling_kernel.specs.declared.trace.Release.{Release}
use Rattle.ceiling_kernel.specs.declared.trace.Trace.{Trace}
use Rattle.ceiling_kernel.proofs.BoundLaws.{responses_law}
use Rattle.ceiling_kernel.proofs.EndLaws.{bounded_trace, records_at, some_executes}
use Rattle.ceiling_kernel.proofs.FinishLaws.{finish_is}
use Rattle.ceiling_kernel.proofs.ReleaseLaws.{records_length}
use Rattle.ceiling_kernel.proofs.NodeLaws.{after_is_above}
use Rattle.run_lines.specs.Reached.{done_of, is_done_of, response_of}
use Rattle.run_lines.specs.Responses.{AllDoneWithin, AllKeptWithin, AllReachWithin, DoneWithin}
use Rattle.run_lines.specs.Responses.{IsKeptWithin}
use Rattle.run_lines.specs.TaskBounds.{AreBounds, IsBoundBelow, bounds_of, tasks_of_bounds}
use Rattle.run_lines.specs.declared.bounds.TaskBound.{TaskBound}

-- ---- an order
-- the tasks of places are those of their bounds
pub same_tasks : (places : List PlaceData) → tasks_of_bounds (bounds_of places)
    ≡ tasks_of_places places
same_tasks [] = refl
same_tasks (p ∷ places) = ap (λ (tasks : List ℕ). p.task ∷ tasks) (same_tasks places)

-- a task that stands once isn't among those after it
apart : (L : Indexes) (i : ℕ) (above : List ℕ) (x : ℕ) → IsOrderOf L (i ∷ above)
    → among above x ≡ true → eqb i x ≡ false
apart L i above x each has = false_from_ne_true _ (λ same.
    let rest = IsOrderOf-among (without_index L i) above (IsOrderOf-rest L i above each) in
    let gone = without-gone L i x (sym (eqb-true i x same)) in
    both_ways _ (ap (λ (H : Indexes). H x) rest ∙ gone) has)

-- ---- releases and records
-- the task of a release that has the name of the task at an index is that task
numbered : (U : List Task) → IsTaskSet U → (i : ℕ) → i < length U → (r : Release)
    → r.name ≡ name_at U i → task_number U r ≡ i
numbered U set i lt r own =
    let at = place_of_name U set.distinct i lt in
    let found : task_named U (task_at U i).name ≡ Some i = rw (at, lt-ltb i (length U) lt) refl in
    ap (λ (name : List ℕ). unwrap_or (task_named U name) (length U)) own
    ∙ ap (λ o. unwrap_or o (length U)) found

-- ---- the jobs that are done
-- where each of some jobs of a name is done within a response, so is the one of greatest response
greatest_within : (name : List ℕ) (r : ℕ) (jobs : List JobRecord)
    → ((k f : ℕ) → k < length jobs → (slice_index_or jobs k no_record).name ≡ name → (slice_index_or
    jobs k no_record).finish ≡ Some f → f ≤ (slice_index_or jobs k no_record).release + r)
    → greatest_of response_of (done_of name jobs) ≤ r
greatest_within name r [] each = omega arith
greatest_within name r (job ∷ jobs) each =
    let rest = greatest_within name r jobs (λ k f lt. each (suc k) f (omega arith)) in
    elim (cases_Bool (is_done_of name job)) [
      | inr not ↦ rw not rest
      | inl done ↦
          let both = and_parts (is_some job.finish) (same_bytes job.name name) done in
          let own : job.name ≡ name = (bytes_eq-Decides job.name name).0 both.1 in
          let here : response_of job ≤ r =
          elim job.finish as (λ o. job.finish ≡ o → is_some o ≡ true → response_of job ≤ r) [
            | None ↦ λ is some. absurd (true≢false (sym some))
            | Some f ↦ λ is some.
                let within : f ≤ job.release + r = each 0 f (omega arith) own is in
                rw is (omega (arith, within))
          ] refl both.0 in
          rw done (omega (arith, here, rest))
    ]

module _ (U : List Task) (set : IsTaskSet U) (order : List ℕ) (is_order : IsOrder U order)
    (rs : List Release) (until : ℕ) (trace : Trace)
    (ran : Runs (node_in U order) rs until (Ok trace)) where
  abbrev node : Node
  node = node_in U order

  is_node : IsNode node
  is_node = record { tasks = set; order = is_order }

  met : MeetsBounds node rs until trace
  met = bounded_trace node rs until trace is_node ran.0 ran.2.jobs

  -- the record of a job
  row : (j : ℕ) → j < length rs → slice_index_or trace.jobs.items j no_record
      ≡ record_of node (jobs_of U rs) until j (release_at rs j)
  row j lt =
      ap (λ (x : List JobRecord). slice_index_or x j no_record) ran.2.jobs
      ∙ (records_at node (jobs_of U rs) until 0 rs j lt ∙ ap (λ n. record_of node (jobs_of U rs)
      until n (release_at rs j)) (let z : 0 + j ≡ j = omega arith in z))

  -- a task with a response below those above it
  module _ (place : PlaceData) (lt : place.task < length U)
      (response : IsResponseOf U place.task (above_of node place.task) place.response)
      (in_time : place.response ≤ (task_at U place.task).deadline) where
    done_within : DoneWithin U place rs until trace
    done_within j within own in_run =
        let passes = responses_law node place.task place.response response in_time in
        let t : ℕ = passes.0 in
        let by = subst (λ i. PassesBy node i t) (sym own) passes.1 in
        let same = ap (λ i. response_by (task_at U i) t) own ∙ passes.2 in
        let found = met j t within by (omega (arith, same, in_run)) in
        (found.0, found.1, omega (arith, found.2, same))

    -- none is done later, whether its bound lies in the run or not
    never_later : (j f : ℕ) → j < length rs → task_number U (release_at rs j) ≡ place.task
        → (slice_index_or trace.jobs.items j no_record).finish ≡ Some f
        → f ≤ (release_at rs j).time + place.response
    never_later j f within own is =
        elim (cases_lt until ((release_at rs j).time + place.response)) [
          | inl past ↦
              let finish = sym (ap (λ (x : JobRecord). x.finish) (row j within)) ∙ is in
              let ends = finish_is node (jobs_of U rs) j until f
              (some_executes node rs until j ran.0 within) finish in
              omega (arith, past, ends.0)
          | inr in_run ↦
              let found = done_within j within own in_run in
              let same : found.0 ≡ f = cc (sym found.1 ∙ is) in
              omega (arith, same, found.2)
        ]

    reach_within : greatest_of response_of (done_of (name_at U place.task) trace.jobs.items)
        ≤ place.response
    reach_within =
        greatest_within (name_at U place.task) place.response trace.jobs.items (λ k f within own is.
        let short = ap (λ (x : List JobRecord). length x) ran.2.jobs ∙ records_length node
        (jobs_of U rs) until 0 rs in
        let inside : k < length rs = omega (arith, within, short) in
        let name = sym (ap (λ (x : JobRecord). x.name) (row k inside)) ∙ own in
        let at = ap (λ (x : JobRecord). x.release) (row k inside) in
        let late =
        never_later k f inside (numbered U set place.task lt (release_at rs k) name) is in
        omega (arith, at, late))

  -- the same of each task of an order that has a bound
  kept_along : (L : Indexes) (bounds : List TaskBound) → IsOrderOf L (tasks_of_bounds bounds)
      → AreBounds U bounds
      → ((x : ℕ) → among (tasks_of_bounds bounds) x ≡ true
      → (x < length U) × (after_of order x ≡ after_of (tasks_of_bounds bounds) x))
      → AllKeptWithin U bounds rs until trace
  kept_along L [] each sound same = tt
  kept_along L (b ∷ bounds) each sound same =
      let above = tasks_of_bounds bounds in
      let itself = eq-eqb b.task b.task refl in
      let here = same b.task (or_left _ _ itself) in
      let over : among above ≡ above_of node b.task =
      subst (λ (o : List ℕ). among o ≡ above_of node b.task) (here.1 ∙ rw itself refl)
      (λ x h. after_is_above node is_node b.task h here.0 x) in
      let rest = kept_along (without_index L b.task) bounds (IsOrderOf-rest L b.task above each)
      sound.1 (λ x has.
      let found = same x (or_right _ _ has) in
      (found.0, found.1 ∙ rw (apart L b.task above x each has) refl)) in
      let own : IsKeptWithin U b.task b.bound rs until trace =
      elim b.bound as (λ o. IsBoundBelow U above b.task o
      → IsKeptWithin U b.task o rs until trace) [
        | None ↦ λ _. tt
        | Some r ↦ λ is.
            let response = subst (λ (H : Indexes). IsResponseOf U b.task H r) over is.0 in
            let place : PlaceData = record { task = b.task; response = r } in
            (done_within place here.0 response is.1, reach_within place here.0 response is.1)
      ] sound.0 in
      (own, rest)

-- each task of an order that has a bound
pub all_kept : (U : List Task) (bounds : List TaskBound) (rs : List Release) (until : ℕ)
    (trace : Trace) → IsTaskSet U → IsOrder U (tasks_of_bounds bounds) → AreBounds U bounds
    → Runs (node_in U (tasks_of_bounds bounds)) rs until (Ok trace)
    → AllKeptWithin U bounds rs until trace
all_kept U bounds rs until trace set each sound ran =
    let all = IsOrderOf-among (all_of U) (tasks_of_bounds bounds) each in
    kept_along U set (tasks_of_bounds bounds) each rs until trace ran (all_of U) bounds each sound
    (λ x has. (ltb-true x (length U) (ap (λ (H : Indexes). H x) (sym all) ∙ has), refl))

-- the bounds of places in which all are in time
in_time_bounds : (U : List Task) (places : List PlaceData) → AreInTime U places
    → AreBounds U (bounds_of places)
in_time_bounds U [] in_time = tt
in_time_bounds U (p ∷ places) in_time = (
  (rw (same_tasks places) in_time.0.response, in_time.0.in_time),
  in_time_bounds U places in_time.1,
)

kept_places : (U : List Task) (places : List PlaceData) (rs : List Release) (until : ℕ)
    (trace : Trace) → AllKeptWithin U (bounds_of places) rs until trace
    → AllDoneWithin U places rs until trace × AllReachWithin U trace.jobs.items places
kept_places U [] rs until trace kept = (tt, tt)
kept_places U (p ∷ places) rs until trace kept =
    let rest = kept_places U places rs until trace kept.1 in
    ((kept.0.0, rest.0), (kept.0.1, rest.1))

-- each of an order in which all are in time
pub all_in_time : (U : List Task) (places : List PlaceData) (rs : List Release) (until : ℕ)
    (trace : Trace) → IsTaskSet U → IsOrder U (tasks_of_places places) → AreInTime U places
    → Runs (node_in U (tasks_of_places places)) rs until (Ok trace)
    → AllDoneWithin U places rs until trace × AllReachWithin U trace.jobs.items places
all_in_time U places rs until trace set each in_time ran =
    kept_places U places rs until trace (all_kept U (bounds_of places) rs until trace set
    (subst (λ (o : List ℕ). IsOrder U o) (sym (same_tasks places)) each)
    (in_time_bounds U places in_time)
    (subst (λ (o : List ℕ). Runs (node_in U o) rs until (Ok trace)) (sym (same_tasks places)) ran))

-- each of a set's best order
pub all_within : (U : List Task) (places : List PlaceData) (rs : List Release) (until : ℕ)
    (trace : Trace) → IsTaskSet U → IsBestPlacing U places
    → Runs (node_in U (tasks_of_places places)) rs until (Ok trace)
    → AllDoneWithin U places rs until trace × AllReachWithin U trace.jobs.items places
all_within U places rs until trace set best ran =
    all_in_time U places rs until trace set best.best.passing.each_once
    (best-in_time U places set best) ran
