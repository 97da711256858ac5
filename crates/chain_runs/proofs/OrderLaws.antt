-- The jobs of a task read and write in turn: while none overruns the one before it, or at the deadlines of a valid set.
use Rattle.std.proofs.Common.{ℕ, suc, ◌+◌, ◌-◌, ◌<◌, ◌≤◌, ◌≡◌, inl, inr, refl, sym, ap, ◌∙◌, subst, arith, List, length, Ok}
use Rattle.std.proofs.lemmas.Bool.{cases_eq, cases_lt, cases_order}
use Rattle.std.proofs.lemmas.List.Elements.{All-get_or}
use Rattle.task_sheet.proofs.Common.{IsValidSheet, no_task, task_at}
use Rattle.ceiling_kernel.specs.Readings.{IsFinishAt}
use Rattle.ceiling_kernel.specs.Waits.{NoOverrun}
use Rattle.ceiling_kernel.specs.declared.trace.Release.{Release}
use Rattle.ceiling_kernel.specs.declared.trace.Trace.{Trace}
use Rattle.ceiling_kernel.proofs.Common.{AreLegalJobs, IsNode, Node, Job, Runs, job_at, job_task, jobs_of}
use Rattle.ceiling_kernel.proofs.EndLaws.{legal_from}
use Rattle.ceiling_kernel.proofs.FinishLaws.{done_grows}
use Rattle.ceiling_kernel.proofs.MachineLaws.{own_of}
use Rattle.chains.specs.Starts.{IsReadAt, IsStartAt, IsWrittenAt}
use Rattle.chains.specs.Paths.{IsNewest}
use Rattle.chains.specs.declared.bounds.Writes.{Writes}
use Rattle.chains.specs.declared.bounds.Writes.TheVariants.{AtFinish, AtDeadline}
use Rattle.chains.proofs.NewestLaws.{start_once}
use Rattle.chain_runs.specs.Runs.{WritesInTime}
use Rattle.chain_runs.proofs.TickLaws.{InFlight, finish_apart, one_flies, start_before}

-- of a task no two jobs write at one time, each writes after it reads, and of two the one that writes no later reads no
-- later
pub record AreInTurn (writes : Writes) (node : Node) (jobs : List Job) : Type 0 where
  pub apart : (p q f : ℕ) → (job_at jobs p).task ≡ (job_at jobs q).task
      → IsWrittenAt writes node jobs p f → IsWrittenAt writes node jobs q f
      → p ≡ q
  pub before : (q s f : ℕ) → IsReadAt writes node jobs q s → IsWrittenAt writes node jobs q f → s < f
  pub turns : (p q s u f g : ℕ) → (job_at jobs p).task ≡ (job_at jobs q).task
      → IsReadAt writes node jobs p s → IsReadAt writes node jobs q u
      → IsWrittenAt writes node jobs p f → IsWrittenAt writes node jobs q g → f ≤ g
      → s ≤ u

-- so of a task one job at the most is the newest at a time
pub newest_once : (writes : Writes) (node : Node) (jobs : List Job) → AreInTurn writes node jobs
    → (i t p q : ℕ) → IsNewest writes node jobs i t p → IsNewest writes node jobs i t q → p ≡ q
newest_once writes node jobs turn i t p q one other =
    let le = other.last p one.finish one.is_job one.own one.finished one.in_time in
    let ge = one.last q other.finish other.is_job other.own other.finished other.in_time in
    let at : one.finish ≡ other.finish = omega arith in
    turn.apart p q other.finish (one.own ∙ sym other.own)
    (subst (λ f. IsWrittenAt writes node jobs p f) at one.finished) other.finished

-- ---- at finishes
module _ (node : Node) (jobs : List Job) (no_overrun : NoOverrun node jobs) where
  starts_by : (p q s u f g : ℕ) → (job_at jobs p).task ≡ (job_at jobs q).task → IsStartAt node jobs p s
      → IsStartAt node jobs q u → IsFinishAt node jobs p f → IsFinishAt node jobs q g → f ≤ g → s ≤ u
  starts_by p q s u f g same start start' is is' le =
      elim (cases_lt u s) [
        | inr ge ↦ ge
        | inl early ↦ elim (cases_eq q p) [
          | inl one ↦ start_once node jobs p s u start
              (subst (λ x. IsStartAt node jobs x u) one start')
          | inr ne ↦
              let first = start.first in
              let after = is.after in
              let lacks = is.before in
              let lacks' = is'.before in
              let some = is.some in
              let finishes : s < f = start_before node jobs p s f start is in
              let flies : InFlight node jobs s q = (
                omega (arith, own_of node jobs u q start'.runs, done_grows node jobs q (suc u) s (omega arith)),
                omega (arith, done_grows node jobs q s (g - 1) (omega arith)),
              ) in
              absurd (ne (one_flies node jobs no_overrun s s q p (omega arith) refl flies start.runs (sym same)))
        ]
      ]

  pub turns_finish : AreInTurn AtFinish node jobs
  turns_finish = record {
    apart = λ p q f same is is'. finish_apart node jobs p q f is is';
    before = λ q s f start is. start_before node jobs q s f start is;
    turns = starts_by;
  }

-- ---- at deadlines
module _ (node : Node) (jobs : List Job) (valid : IsNode node) (legal : AreLegalJobs node jobs) where
  pub valid_at : (j : ℕ) → j < length jobs → IsValidSheet (job_task node jobs j)
  valid_at j lt = All-get_or IsValidSheet node.tasks (job_at jobs j).task no_task (legal.known j lt)
      valid.tasks.valid

  -- a job has written when the next one of its task arrives
  pub writes_first : (p q : ℕ) → p < q → q < length jobs → (job_at jobs p).task ≡ (job_at jobs q).task
      → (job_at jobs p).arrival + (job_task node jobs p).deadline ≤ (job_at jobs q).arrival
  writes_first p q before lt same =
      let v : IsValidSheet (job_task node jobs q) = valid_at q lt in
      let within = v.deadline_to in
      omega (
        arith,
        legal.spaced p q before lt same,
        ap (λ i. (task_at node.tasks i).deadline) same,
      )

  pub turns_deadline : AreInTurn AtDeadline node jobs
  turns_deadline = record {
    apart = λ p q f same is is'.
        let v : IsValidSheet (job_task node jobs p) = valid_at p is.0 in
        let some = v.deadline_from in
        let alike : (job_task node jobs p).deadline ≡ (job_task node jobs q).deadline =
        ap (λ i. (task_at node.tasks i).deadline) same in
        elim (cases_order p q) [
          | inl one ↦ one
          | inr (inl first) ↦ absurd (omega (arith, writes_first p q first is'.0 same, is.1, is'.1))
          | inr (inr last) ↦ absurd (omega (arith, writes_first q p last is.0 (sym same), is.1, is'.1))
        ];
    before = λ q s f read is.
        let v : IsValidSheet (job_task node jobs q) = valid_at q is.0 in
        let some = v.deadline_from in
        omega (arith, read.1, is.1);
    turns = λ p q s u f g same read read' is is' le.
        let alike : (job_task node jobs p).deadline ≡ (job_task node jobs q).deadline =
        ap (λ i. (task_at node.tasks i).deadline) same in
        omega (arith, read.1, read'.1, is.1, is'.1);
  }

-- ---- in a run
pub in_turn : (writes : Writes) (node : Node) (rs : List Release) (until : ℕ) (trace : Trace)
    → WritesInTime writes node → Runs node rs until (Ok trace)
    → AreInTurn writes node (jobs_of node.tasks rs)
in_turn AtFinish node rs until trace valid ran = turns_finish node (jobs_of node.tasks rs) ran.1
in_turn AtDeadline node rs until trace valid ran = turns_deadline node (jobs_of node.tasks rs) valid
    (legal_from node rs until valid ran.0)
