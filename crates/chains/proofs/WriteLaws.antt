-- When jobs read and when they write, be that at their finishes or at their deadlines.
use Rattle.std.proofs.Common.{ℕ, ◌+◌, ◌<◌, ◌≤◌, ◌≡◌, ◌≢◌, inl, inr, refl, sym, ap, ◌∙◌, subst, arith}
use Rattle.std.proofs.Common.{List, length}
use Rattle.std.proofs.lemmas.Bool.{cases_eq, cases_lt}
use Rattle.task_sheet.proofs.Common.{task_at}
use Rattle.ceiling_kernel.proofs.Common.{Node, Job, job_at, AreLegalJobs, IsNode}
use Rattle.ceiling_kernel.proofs.NodeLaws.{IsSoundTask, sound}
use Rattle.ceiling_kernel.proofs.FinishLaws.{done_grows}
use Rattle.chains.specs.Starts.{IsReadAt, IsStartAt, IsWrittenAt}
use Rattle.chains.specs.Handovers.{RespondsBy}
use Rattle.chains.specs.Paths.{IsNewest}
use Rattle.chains.specs.Bounds.{Acts, WritesAreDone, handed_within, written_within}
use Rattle.chains.specs.declared.bounds.Writes.{Writes}
use Rattle.chains.specs.declared.bounds.Writes.TheVariants.{AtFinish, AtDeadline}
use Rattle.chains.proofs.BelowLaws.{start_ready}
use Rattle.chains.proofs.HandoverLaws.{handover_at}
use Rattle.chains.proofs.OrderLaws.{done_by, finishes_by, goes_before}
use Rattle.chains.proofs.NewestLaws.{started, start_once}

-- ---- of a job
-- a job that reads has arrived
pub read_arrived : (writes : Writes) (node : Node) (jobs : List Job) → AreLegalJobs node jobs
    → (j s : ℕ) → IsReadAt writes node jobs j s
    → (j < length jobs) × ((job_at jobs j).arrival ≤ s)
read_arrived AtFinish node jobs legal j s read =
    let b = start_ready node jobs s j read in
    let early = legal.not_early j b.0 in
    (b.0, omega (arith, b.1))
read_arrived AtDeadline node jobs legal j s read = (read.0, omega (arith, read.1))

-- it reads once
read_once : (writes : Writes) (node : Node) (jobs : List Job) (j s t : ℕ)
    → IsReadAt writes node jobs j s → IsReadAt writes node jobs j t → s ≤ t
read_once AtFinish node jobs j s t one other = start_once node jobs j s t one other
read_once AtDeadline node jobs j s t one other = omega (arith, one.1, other.1)

-- one that writes has read
pub written_read : (writes : Writes) (node : Node) (jobs : List Job) (j f : ℕ)
    → IsWrittenAt writes node jobs j f → (s : ℕ) × (s ≤ f) × IsReadAt writes node jobs j s
written_read AtFinish node jobs j f is =
    let before = is.before in
    let after = is.after in
    let b : (s : ℕ) × (s < f) × IsStartAt node jobs j s = started node jobs f j (omega arith) in
    (b.0, omega (arith, b.1), b.2)
written_read AtDeadline node jobs j f is =
    ((job_at jobs j).arrival, omega (arith, is.1), (is.0, refl))

-- of a task that passes, to write takes time
pub write_some : (writes : Writes) (node : Node) (i r : ℕ) → RespondsBy node i r
    → 0 < written_within writes node i r
write_some AtFinish node i r responds =
    let some = responds.passes.from_one in
    let is_r = responds.response in
    omega arith
write_some AtDeadline node i r responds =
    let some = responds.passes.from_one in
    let in_time = responds.passes.in_time in
    omega arith

-- so it reads before it writes
pub read_before : (writes : Writes) (node : Node) (jobs : List Job) (i r j s f : ℕ)
    → (job_at jobs j).task ≡ i → RespondsBy node i r → IsReadAt writes node jobs j s
    → IsWrittenAt writes node jobs j f → s < f
read_before AtFinish node jobs i r j s f own responds read is =
    let first = read.first in
    let before = is.before in
    let after = is.after in
    elim (cases_lt s f) [
      | inl less ↦ less
      | inr ge ↦ absurd (omega (arith, done_grows node jobs j f s ge))
    ]
read_before AtDeadline node jobs i r j s f own responds read is =
    omega (
      arith,
      read.1,
      is.1,
      ap (λ x. (task_at node.tasks x).deadline) own,
      write_some AtDeadline node i r responds,
    )

-- of a task that acts, it has written in time
pub written_by : (writes : Writes) (node : Node) (jobs : List Job) → IsNode node → AreLegalJobs node jobs
    → (response : ℕ → ℕ) (i j : ℕ) → Acts node jobs response i → j < length jobs
    → (job_at jobs j).task ≡ i
    → (f : ℕ) × (f ≤ (job_at jobs j).arrival + written_within writes node i (response i))
    × IsWrittenAt writes node jobs j f
written_by AtFinish node jobs valid legal response i j acts lt own =
    finishes_by node jobs ((job_at jobs j).arrival + response i) j (acts.works j lt own)
    (done_by node jobs valid legal j i (response i) lt own acts.responds
    ((job_at jobs j).arrival + response i) (omega arith))
written_by AtDeadline node jobs valid legal response i j acts lt own = (
  (job_at jobs j).arrival + (task_at node.tasks (job_at jobs j).task).deadline,
  omega (arith, ap (λ x. (task_at node.tasks x).deadline) own),
  (lt, refl),
)

-- and has then executed all
pub written_done : (writes : Writes) (node : Node) (jobs : List Job) → IsNode node
    → AreLegalJobs node jobs → WritesAreDone writes node jobs
written_done AtFinish node jobs valid legal j f r responds is = is.after
written_done AtDeadline node jobs valid legal j f r responds is =
    let some = responds.passes.from_one in
    let in_time = responds.passes.in_time in
    let is_r = responds.response in
    done_by node jobs valid legal j (job_at jobs j).task r is.0 refl responds f (omega (arith, is.1))

-- ---- of two jobs
-- a job of another task that arrives late enough reads when it is written
pub handed_by : (writes : Writes) (node : Node) (jobs : List Job) → IsNode node → AreLegalJobs node jobs
    → (response : ℕ → ℕ) (i c j k s : ℕ) → Acts node jobs response i → i ≢ c → j < length jobs
    → (job_at jobs j).task ≡ i → (job_at jobs k).task ≡ c → IsReadAt writes node jobs k s
    → (job_at jobs j).arrival + handed_within writes node i c (response i) ≤ (job_at jobs k).arrival
    → (f : ℕ) × (f ≤ s) × IsWrittenAt writes node jobs j f
handed_by AtFinish node jobs valid legal response i c j k s acts differ lt own other read after =
    finishes_by node jobs s j (acts.works j lt own)
    (handover_at node jobs valid legal i c j k (response i) s lt own other differ acts.responds read
    after)
handed_by AtDeadline node jobs valid legal response i c j k s acts differ lt own other read after = (
  (job_at jobs j).arrival + (task_at node.tasks (job_at jobs j).task).deadline,
  omega (arith, read.1, ap (λ x. (task_at node.tasks x).deadline) own),
  (lt, refl),
)

-- of a task, one that stands before another arrives before it
arrives_before : (node : Node) (jobs : List Job) → IsNode node → AreLegalJobs node jobs → (p q : ℕ)
    → p < q → q < length jobs → (job_at jobs p).task ≡ (job_at jobs q).task
    → (job_at jobs p).arrival < (job_at jobs q).arrival
arrives_before node jobs valid legal p q before lt same =
    let v : IsSoundTask node (job_at jobs q).task = (sound node valid).each (job_at jobs q).task
    (legal.known q lt) in
    omega (arith, legal.spaced p q before lt same, v.period_from_one)

-- of a task that passes, it reads before it
reads_in_order : (writes : Writes) (node : Node) (jobs : List Job) → IsNode node → AreLegalJobs node jobs
    → (i r p q s u : ℕ) → p < q → q < length jobs → (job_at jobs p).task ≡ i
    → (job_at jobs q).task ≡ i → RespondsBy node i r → IsReadAt writes node jobs p s
    → IsReadAt writes node jobs q u → s < u
reads_in_order AtFinish node jobs valid legal i r p q s u before lt own own' responds read read' =
    (goes_before node jobs valid legal p q i r before lt own own' responds).starts s u read read'
reads_in_order AtDeadline node jobs valid legal i r p q s u before lt own own' responds read read' =
    omega (
      arith,
      read.1,
      read'.1,
      arrives_before node jobs valid legal p q before lt (own ∙ sym own'),
    )

-- and writes before it
pub writes_in_order : (writes : Writes) (node : Node) (jobs : List Job) → IsNode node
    → AreLegalJobs node jobs → (i r p q f g : ℕ) → p < q → q < length jobs
    → (job_at jobs p).task ≡ i → (job_at jobs q).task ≡ i → RespondsBy node i r
    → IsWrittenAt writes node jobs p f → IsWrittenAt writes node jobs q g → f < g
writes_in_order AtFinish node jobs valid legal i r p q f g before lt own own' responds is is' =
    (goes_before node jobs valid legal p q i r before lt own own' responds).finishes f g is is'
writes_in_order AtDeadline node jobs valid legal i r p q f g before lt own own' responds is is' =
    omega (
      arith,
      is.1,
      is'.1,
      ap (λ x. (task_at node.tasks x).deadline) (own ∙ sym own'),
      arrives_before node jobs valid legal p q before lt (own ∙ sym own'),
    )

module _ (writes : Writes) (node : Node) (jobs : List Job) (valid : IsNode node)
    (legal : AreLegalJobs node jobs) where
  -- where the output of a job stands at t, a later one of its task writes after
  pub writes_after : (i r t p q g : ℕ) → IsNewest writes node jobs i t p → RespondsBy node i r → p < q
      → q < length jobs → (job_at jobs q).task ≡ i → IsWrittenAt writes node jobs q g → t < g
  writes_after i r t p q g newest responds later lt own is =
      elim (cases_lt t g) [
        | inl after ↦ after
        | inr by ↦
            let before = writes_in_order writes node jobs valid legal i r p q newest.finish g later lt
            newest.own own responds newest.finished is in
            let last = newest.last q g lt own is by in
            absurd (omega arith)
      ]

  -- so it arrives no earlier than any that has written
  pub newest_late : (i r t p q g : ℕ) → IsNewest writes node jobs i t p → RespondsBy node i r
      → q < length jobs → (job_at jobs q).task ≡ i → IsWrittenAt writes node jobs q g → g ≤ t
      → (job_at jobs q).arrival ≤ (job_at jobs p).arrival
  newest_late i r t p q g newest responds lt own is le =
      elim (cases_lt p q) [
        | inl before ↦
            let after = writes_after i r t p q g newest responds before lt own is in
            absurd (omega arith)
        | inr ge ↦ elim (cases_eq q p) [
          | inl same ↦ omega (arith, ap (λ x. (job_at jobs x).arrival) same)
          | inr ne ↦
              let before = arrives_before node jobs valid legal q p (omega arith) newest.is_job
              (own ∙ sym newest.own) in
              omega arith
        ]
      ]

  module _ (i r p q s u : ℕ) (own : (job_at jobs p).task ≡ i) (own' : (job_at jobs q).task ≡ i)
      (responds : RespondsBy node i r) (read : IsReadAt writes node jobs p s)
      (read' : IsReadAt writes node jobs q u) where
    -- of the jobs of a task that passes, one that stands no later reads no later
    in_order : p ≤ q → s ≤ u
    in_order le =
        elim (cases_eq p q) [
          | inl same ↦ read_once writes node jobs q s u
              (subst (λ x. IsReadAt writes node jobs x s) same read) read'
          | inr ne ↦
              let before = reads_in_order writes node jobs valid legal i r p q s u (omega arith)
              (read_arrived writes node jobs legal q u read').0 own own' responds read read' in
              omega arith
        ]

    -- one that arrives no later
    pub reads_by_arrival : (job_at jobs p).arrival ≤ (job_at jobs q).arrival → s ≤ u
    reads_by_arrival le =
        elim (cases_lt q p) [
          | inr ge ↦ in_order ge
          | inl before ↦
              let less = arrives_before node jobs valid legal q p before
              (read_arrived writes node jobs legal p s read).0 (own' ∙ sym own) in
              absurd (omega arith)
        ]

    -- one that writes no later
    pub reads_by_write : (f g : ℕ) → IsWrittenAt writes node jobs p f
        → IsWrittenAt writes node jobs q g → f ≤ g → s ≤ u
    reads_by_write f g is is' le =
        elim (cases_lt q p) [
          | inr ge ↦ in_order ge
          | inl before ↦
              let less = writes_in_order writes node jobs valid legal i r q p g f before
              (read_arrived writes node jobs legal p s read).0 own' own responds is' is in
              absurd (omega arith)
        ]
