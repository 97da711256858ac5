-- What a run has shown at its end.
use Rattle.std.proofs.Common.{ℕ, zero, suc, ◌^◌, All, Bool, ◌+◌, ◌-◌, ◌<◌, ◌≤◌, ◌≡◌, inl, inr}
use Rattle.std.proofs.Common.{sym, ap, ◌∙◌, subst, arith, List, [], ◌∷◌, length, slice_index_or}
use Rattle.std.proofs.Common.{Option, None, Some, false, nat_lt}
use Rattle.std.proofs.lemmas.Bool.{cases_lt, cases_Bool, true≢false, le-leb, eq-eqb}
use Rattle.std.proofs.lemmas.List.Elements.{All-from_get_or}
use Rattle.task_sheet.proofs.Common.{task_at, IsPassingOrder}
use Rattle.ceiling_kernel.specs.declared.trace.Release.{Release}
use Rattle.ceiling_kernel.specs.declared.trace.JobRecord.{JobRecord}
use Rattle.ceiling_kernel.specs.declared.trace.Trace.{Trace}
use Rattle.ceiling_kernel.specs.declared.trace.RunFault.{RunFault}
use Rattle.ceiling_kernel.specs.declared.trace.RunFault.TheVariants as fault
use Rattle.ceiling_kernel.specs.declared.run.Pending.{Pending}
use Rattle.ceiling_kernel.specs.Tick.{Node, Job, job_at, job_task, executed_before}
use Rattle.ceiling_kernel.specs.Trace.{finish_before}
use Rattle.ceiling_kernel.specs.Waits.{IsNode, AreLegalJobs, lateness_of, NoOverrun, EachIsGranted}
use Rattle.ceiling_kernel.specs.Bounds.{CoversBy, response_by}
use Rattle.ceiling_kernel.specs.Releases.{task_number, ready_of, runs_of, jobs_of}
use Rattle.ceiling_kernel.specs.Releases.{no_release, release_at, is_soon_job, is_too_soon}
use Rattle.ceiling_kernel.specs.Releases.{is_too_late, is_outside_cost, is_past, refusal_of}
use Rattle.ceiling_kernel.specs.Turns.{AreTurns}
use Rattle.ceiling_kernel.specs.Runs.{IsFirstOverrun, IsOverrun, record_of, no_record, records_from}
use Rattle.ceiling_kernel.specs.Runs.{bound_by, MeetsBounds, MeetsTighterBounds, IsNoOverrun}
use Rattle.ceiling_kernel.specs.States.{IsRunnable, Kept, IsStop}
use Rattle.ceiling_kernel.proofs.NestLaws.{nobody_waits_law}
use Rattle.ceiling_kernel.proofs.BoundLaws.{covers_from, tighter_response, no_overrun_law}
use Rattle.task_sheet.proofs.Below.{none_below}
use Rattle.ceiling_kernel.proofs.FinishLaws.{finish_some, finish_later, finish_is}
use Rattle.ceiling_kernel.proofs.ReleaseLaws.{job_is, jobs_length}
use Rattle.ceiling_kernel.proofs.NodeLaws.{sound}
use Rattle.ceiling_kernel.specs.Behaviours.{AreCut, AreKnown, TakeTurns}
use Rattle.ceiling_kernel.proofs.CutLaws.{cuts_by, cuts_within, cuts_apart}
use Rattle.ceiling_kernel.proofs.AcceptLaws.{IsAccepted, accepted, first_none}
use Rattle.ceiling_kernel.proofs.AcceptLaws.{none_passes, not_lt, known_from, inside_cost}

-- no release of an accepted list stands at the end or after it
before_end : (node : Node) (rs : List Release) (until k : ℕ) → IsAccepted node.tasks rs until
    → k < length rs → (job_at (jobs_of node.tasks rs) k).ready < until
before_end node rs until k a lt =
    let r = ap (λ x. x.ready) (job_is node.tasks rs k lt) in
    elim (cases_lt (ready_of (release_at rs k)) until) [
      | inl before ↦ omega arith
      | inr past ↦ absurd (true≢false (sym (le-leb until (ready_of (release_at rs k)) past) ∙
          (none_passes (is_past until) rs k no_release lt a.before)))
    ]

pub no_overrun_then : (node : Node) (rs : List Release) (until t : ℕ) (come : ℕ → Bool)
    (slots : List (Option Pending)) → refusal_of node.tasks rs until ≡ None → Kept node
    (jobs_of node.tasks rs) t come slots → until ≤ t → NoOverrun node (jobs_of node.tasks rs)
no_overrun_then node rs until t come slots e kept le k lt over =
    let l : length (jobs_of node.tasks rs) ≡ length rs = jobs_length node.tasks rs in
    elim (cases_Bool (come k)) [
      | inl has ↦ kept.no_overrun k has over
      | inr not ↦
          let r : t ≤ (job_at (jobs_of node.tasks rs) k).ready = kept.to_come k not lt in
          let b = before_end node rs until k (accepted node.tasks rs until e) (omega arith) in
          omega arith
    ]

-- each release of an accepted list executes something, and no more than its task's cost
in_cost_from : (node : Node) (rs : List Release) (until j : ℕ) → IsAccepted node.tasks rs until
    → j < length rs → (0 < runs_of node.tasks (release_at rs j)) × (runs_of node.tasks
    (release_at rs j) ≤ (task_at node.tasks (task_number node.tasks (release_at rs j))).cost)
in_cost_from node rs until j a lt =
    inside_cost (runs_of node.tasks (release_at rs j))
    (task_at node.tasks (task_number node.tasks (release_at rs j))).cost
    (first_none (is_outside_cost node.tasks rs) (length rs) a.in_cost j lt)

-- so its job does as its sheet says, up to its end
cuts_from : (node : Node) (rs : List Release) (until : ℕ) → IsAccepted node.tasks rs until
    → AreCut node (jobs_of node.tasks rs)
cuts_from node rs until a = cuts_by node rs (λ j lt. in_cost_from node rs until j a lt)

-- each job of an accepted list executes something
pub some_executes : (node : Node) (rs : List Release) (until j : ℕ) → refusal_of node.tasks rs until
    ≡ None → j < length rs → 0 < (job_at (jobs_of node.tasks rs) j).executes
some_executes node rs until j e lt =
    (cuts_from node rs until (accepted node.tasks rs until e) j
    (omega (arith, jobs_length node.tasks rs))).some

-- the jobs of an accepted list are legal
pub legal_from : (node : Node) (rs : List Release) (until : ℕ) → IsNode node
    → refusal_of node.tasks rs until ≡ None → AreLegalJobs node (jobs_of node.tasks rs)
legal_from node rs until ok e =
    let a : IsAccepted node.tasks rs until = accepted node.tasks rs until e in
    let l : length (jobs_of node.tasks rs) ≡ length rs = jobs_length node.tasks rs in
    let known_task : AreKnown node (jobs_of node.tasks rs) = λ j lt. omega (
      arith,
      known_from node.tasks rs a.known j (omega arith),
      ap (λ x. x.task) (job_is node.tasks rs j (omega arith)),
    ) in
    record {
      within = cuts_within node (jobs_of node.tasks rs) (sound node ok) known_task
          (cuts_from node rs until a);
      known = known_task;
      not_early = λ j lt. (let r = job_is node.tasks rs j (omega arith) in rw r (omega arith));
      not_late = λ j lt.
          let r = job_is node.tasks rs j (omega arith) in
          let late = first_none (is_too_late node.tasks rs) (length rs) a.prompt j (omega arith) in
          rw r (omega (
            arith,
            not_lt (lateness_of (task_at node.tasks
                (task_number node.tasks (release_at rs j))))
                (release_at rs j).late late,
          ));
      spaced = λ j k jk lt same.
          let soon = first_none (is_too_soon node.tasks (jobs_of node.tasks rs)) (length rs)
          a.spaced k (omega arith) in
          let one = none_below k (is_soon_job node.tasks (jobs_of node.tasks rs) k) soon j jk in
          let t = eq-eqb (job_at (jobs_of node.tasks rs) j).task
          (job_at (jobs_of node.tasks rs) k).task same in
          let f : nat_lt (job_at (jobs_of node.tasks rs) k).arrival ((job_at (jobs_of node.tasks rs)
          j).arrival + (job_task node (jobs_of node.tasks rs) k).period) ≡ false =
          rw t at one in
          not_lt (job_at (jobs_of node.tasks rs) k).arrival ((job_at (jobs_of node.tasks rs)
          j).arrival + (job_task node (jobs_of node.tasks rs) k).period) f;
    }

-- they take their sections one after the other
turns_from : (node : Node) (rs : List Release) (until : ℕ) → IsNode node
    → refusal_of node.tasks rs until ≡ None → TakeTurns (jobs_of node.tasks rs)
turns_from node rs until ok e = cuts_apart node (jobs_of node.tasks rs) (sound node ok)
    (legal_from node rs until ok e).known
    (cuts_from node rs until (accepted node.tasks rs until e))

-- each release of an accepted list is ready in time for the clock
pub ready_fits : (node : Node) (rs : List Release) (until : ℕ) → until < 2 ^ 64
    → refusal_of node.tasks rs until ≡ None → All (λ r. ready_of r < 2 ^ 64) rs
ready_fits node rs until small e =
    All-from_get_or (λ r. ready_of r < 2 ^ 64) rs no_release (λ k lt.
    omega (
      arith,
      ap (λ x. x.ready) (job_is node.tasks rs k lt),
      before_end node rs until k
          (accepted node.tasks rs until e) lt,
    ))

pub runnable_from : (node : Node) (rs : List Release) (turns : List (ℕ × ℕ)) (until : ℕ)
    → IsNode node → refusal_of node.tasks rs until ≡ None → AreTurns (jobs_of node.tasks rs) turns
    → IsRunnable node rs turns
runnable_from node rs turns until ok e are =
    let a : IsAccepted node.tasks rs until = accepted node.tasks rs until e in
    record {
      of_node = ok;
      known = known_from node.tasks rs a.known;
      in_cost = λ j lt. in_cost_from node rs until j a lt;
      legal = legal_from node rs until ok e;
      in_turn = are;
    }

-- where no job overruns, each that asks for a lock gets it
pub each_granted : (node : Node) (rs : List Release) (until : ℕ) → IsNode node
    → refusal_of node.tasks rs until ≡ None → NoOverrun node (jobs_of node.tasks rs)
    → EachIsGranted node (jobs_of node.tasks rs)
each_granted node rs until ok e none t p lock pick asks =
    nobody_waits_law node (jobs_of node.tasks rs) ok (legal_from node rs until ok e)
    (turns_from node rs until ok e) t p lock (λ k lt le. none k lt) pick asks

-- ---- the bound
pub records_at : (node : Node) (jobs : List Job) (t k : ℕ) (rs : List Release) (j : ℕ)
    → j < length rs → slice_index_or (records_from node jobs t k rs) j no_record
    ≡ record_of node jobs t (k + j) (release_at rs j)
records_at node jobs t k [] j lt = absurd (omega arith)
records_at node jobs t k (r ∷ rs) zero lt =
    (let e : k + 0 ≡ k = omega arith in ap (λ n. record_of node jobs t n r) (sym e))
records_at node jobs t k (r ∷ rs) (suc j) lt =
    (let e : k + 1 + j ≡ k + suc j = omega arith in records_at node jobs t (k + 1) rs j
    (omega arith) ∙ ap (λ n. record_of node jobs t n (release_at rs j)) e)

pub tighter_trace : (node : Node) (rs : List Release) (until : ℕ) (trace : Trace) → IsNode node
    → refusal_of node.tasks rs until ≡ None → trace.jobs.items
    ≡ records_from node (jobs_of node.tasks rs) until 0 rs → MeetsTighterBounds node rs until trace
tighter_trace node rs until trace ok e jobs_are j t lt covers in_run =
    let l : length (jobs_of node.tasks rs) ≡ length rs = jobs_length node.tasks rs in
    let is = job_is node.tasks rs j lt in
    let covers' = subst (λ x. CoversBy node x.task t) (sym is) covers in
    let done = tighter_response node (jobs_of node.tasks rs) ok (legal_from node rs until ok e) j t
    (omega arith) covers' in
    let at_time = ap (λ x. x.arrival + response_by (task_at node.tasks x.task) t) is in
    let done' = subst (λ x. (job_at (jobs_of node.tasks rs) j).executes ≤ executed_before node
    (jobs_of node.tasks rs) x j) at_time done in
    let f = finish_some node (jobs_of node.tasks rs) j (bound_by node (release_at rs j) t)
    (some_executes node rs until j e lt) done' in
    let to : bound_by node (release_at rs j) t + (until - bound_by node (release_at rs j) t)
    ≡ until = omega arith in
    let then = subst (λ x. finish_before node (jobs_of node.tasks rs) x j ≡ Some f.0) to
    (finish_later node (jobs_of node.tasks rs) j (bound_by node (release_at rs j) t)
    (until - bound_by node (release_at rs j) t) f.0 f.1) in
    let z : 0 + j ≡ j = omega arith in
    let row = ap (λ (x : List JobRecord). slice_index_or x j no_record) jobs_are
    ∙ (records_at node (jobs_of node.tasks rs) until 0 rs j lt
    ∙ ap (λ n. record_of node (jobs_of node.tasks rs) until n (release_at rs j)) z) in (
      f.0,
      ap (λ x. x.finish) row ∙ then,
      (finish_is node (jobs_of node.tasks rs) j (bound_by node (release_at rs j) t) f.0
          (some_executes node rs until j e lt) f.1).0,
    )

pub bounded_trace : (node : Node) (rs : List Release) (until : ℕ) (trace : Trace) → IsNode node
    → refusal_of node.tasks rs until ≡ None → trace.jobs.items
    ≡ records_from node (jobs_of node.tasks rs) until 0 rs → MeetsBounds node rs until trace
bounded_trace node rs until trace ok e jobs_are j t lt passes in_run =
    tighter_trace node rs until trace ok e jobs_are j t lt
    (covers_from node (task_number node.tasks (release_at rs j)) t passes) in_run

pub never_overruns : (node : Node) (rs : List Release) (until : ℕ) (name : List ℕ) (time : ℕ)
    → IsNode node → refusal_of node.tasks rs until ≡ None → IsOverrun node rs name time
    → IsPassingOrder node.tasks node.order → ⊥
never_overruns node rs until name time ok e over order =
    let first : IsFirstOverrun node (jobs_of node.tasks rs) over.place = over.first in
    no_overrun_law node (jobs_of node.tasks rs) ok (legal_from node rs until ok e) order over.place
    first.is_job first.overruns

-- why a run of a set with a passing order stops
pub stop_without : (node : Node) (rs : List Release) (until : ℕ) (e : RunFault) → IsNode node
    → refusal_of node.tasks rs until ≡ None → IsStop node rs e
    → IsPassingOrder node.tasks node.order → IsNoOverrun e
stop_without node rs until fault.OutOfMemory ok r stop order = tt
stop_without node rs until (fault.Overrun name time) ok r stop order =
    never_overruns node rs until name time ok r stop order
stop_without node rs until (fault.Unsorted place) ok r stop order = absurd stop
stop_without node rs until (fault.UnknownTask place) ok r stop order = absurd stop
stop_without node rs until (fault.TooSoon place) ok r stop order = absurd stop
stop_without node rs until (fault.TooLate place) ok r stop order = absurd stop
stop_without node rs until (fault.OutsideCost place) ok r stop order = absurd stop
stop_without node rs until fault.PastHorizon ok r stop order = absurd stop
stop_without node rs until fault.TooMany ok r stop order = absurd stop
