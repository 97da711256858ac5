-- Of the path of an output each job is soon followed by one that the next job didn't read: so the next one arrived within a
-- handover of that.
use Rattle.std.proofs.Common.{ℕ, ◌+◌, ◌<◌, ◌≤◌, ◌≡◌, ◌≢◌, inl, inr, refl, sym, ap, ◌∙◌, subst, arith}
use Rattle.std.proofs.Common.{List, [], ◌∷◌, length}
use Rattle.std.specs.Prelude.{drop}
use Rattle.std.proofs.lemmas.Bool.{cases_eq, cases_lt}
use Rattle.task_sheet.proofs.Common.{task_at}
use Rattle.ceiling_kernel.proofs.Common.{Node, Job, job_at, AreLegalJobs, IsNode}
use Rattle.ceiling_kernel.proofs.NodeLaws.{IsSoundTask, sound}
use Rattle.chains.specs.Starts.{IsReadAt, IsWrittenAt}
use Rattle.chains.specs.Paths.{IsNewest, Reads, LeadsTo, last_task}
use Rattle.chains.specs.Gaps.{gap_of, Follows, AreSteady, OthersSteady, SendersSteady}
use Rattle.chains.specs.Clocks.{KeepClock}
use Rattle.chains.specs.Bounds.{Acts, AllAct, lag_of, PartsAddUp, handed_within, written_within}
use Rattle.chains.specs.Walks.{first_known, next_by}
use Rattle.chains.specs.Ages.{AgesHold, OutputsAreFresh}
use Rattle.chains.specs.declared.bounds.Writes.{Writes}
use Rattle.chains.proofs.ClockLaws.{ComesBy, comes_next, ends_from, ends_late, first_keeps, others_keep, span_in_bound}
use Rattle.chains.proofs.NewestLaws.{written_once}
use Rattle.chains.proofs.WriteLaws.{read_arrived, read_before, written_by, handed_by}
use Rattle.chains.proofs.WriteLaws.{writes_after}

pub parts_law : (writes : Writes) (node : Node) (response : ℕ → ℕ) (i : ℕ) (others : List ℕ)
    → PartsAddUp writes node response i others
parts_law writes node response i [] = record { delay = refl; lag = omega arith }
parts_law writes node response i (c ∷ others) =
    let rest : PartsAddUp writes node response c others = parts_law writes node response c others in
    let rest_delay = rest.delay in
    let rest_lag = rest.lag in
    record { delay = omega arith; lag = omega arith }

module _ (node : Node) (jobs : List Job) (response : ℕ → ℕ) where
  pub first_acts : (i : ℕ) (others : List ℕ) → AllAct node jobs response i others
      → Acts node jobs response i
  first_acts i [] acts = acts
  first_acts i (c ∷ others) acts = acts.0

  pub last_acts : (i : ℕ) (others : List ℕ) → AllAct node jobs response i others
      → Acts node jobs response (last_task i others)
  last_acts i [] acts = acts
  last_acts i (c ∷ others) acts = last_acts c others acts.2

module _ (writes : Writes) (node : Node) (jobs : List Job) where
  -- the first job of the path of a job of the last task is of the first task
  pub leads_own : (i : ℕ) (others : List ℕ) (p k : ℕ)
      → (job_at jobs k).task ≡ last_task i others → LeadsTo writes node jobs i others p k
      → (job_at jobs p).task ≡ i
  leads_own i [] p k own leads = ap (λ x. (job_at jobs x).task) leads ∙ own
  leads_own i (c ∷ others) p k own leads =
      let reads : Reads writes node jobs c leads.0 i p = leads.1 in
      reads.newest.own

-- of the jobs of a task, one that arrives before another stands before it
stands_before : (node : Node) (jobs : List Job) → AreLegalJobs node jobs → (i j k : ℕ)
    → j < length jobs → (job_at jobs j).task ≡ i → (job_at jobs k).task ≡ i
    → (job_at jobs j).arrival < (job_at jobs k).arrival → j < k
stands_before node jobs legal i j k lt mine own less =
    elim (cases_lt j k) [
      | inl before ↦ before
      | inr ge ↦ elim (cases_eq j k) [
        | inl same ↦ absurd (omega (arith, ap (λ x. (job_at jobs x).arrival) same))
        | inr differ ↦ absurd (omega (arith, legal.spaced k j (omega arith) lt (own ∙ sym mine)))
      ]
    ]

module _ (writes : Writes) (node : Node) (jobs : List Job) (valid : IsNode node)
    (legal : AreLegalJobs node jobs) (response : ℕ → ℕ) where
  -- a job that reads another arrives less than a handover after a later one of that task
  reader_arrives : (i c p u k q : ℕ) → IsNewest writes node jobs i u p → Acts node jobs response i
      → i ≢ c → (job_at jobs k).task ≡ c → IsReadAt writes node jobs k u → p < q → q < length jobs
      → (job_at jobs q).task ≡ i
      → (job_at jobs k).arrival < (job_at jobs q).arrival + handed_within writes node i c (response i)
  reader_arrives i c p u k q newest acts differ own read later lt mine =
      elim (cases_lt (job_at jobs k).arrival
      ((job_at jobs q).arrival + handed_within writes node i c (response i))) [
        | inl less ↦ less
        | inr ge ↦
            let f : (f : ℕ) × (f ≤ u) × IsWrittenAt writes node jobs q f =
            handed_by writes node jobs valid legal response i c q k u acts differ lt mine own read ge in
            absurd (omega (
              arith,
              f.1,
              writes_after writes node jobs valid legal i (response i) u p q f.0 newest acts.responds
                  later lt mine f.2,
            ))
      ]

  -- a task that has a job has a gap
  pub gap_some : (i j : ℕ) → j < length jobs → (job_at jobs j).task ≡ i
      → 0 < gap_of (task_at node.tasks i)
  gap_some i j lt own =
      let v : IsSoundTask node i = (sound node valid).each i
      (subst (λ x. x < length node.tasks) own (legal.known j lt)) in
      v.period_from_one

  module _ (until : ℕ) where
    follows_later : (i j k : ℕ) → j < length jobs → (job_at jobs j).task ≡ i
        → Follows node jobs i j k → j < k
    follows_later i j k lt mine follows =
        stands_before node jobs legal i j k lt mine follows.own follows.later

    -- a job that reads one of a steady task arrives within the gap and a handover after it
    reader_soon : (i c p u k : ℕ) → IsNewest writes node jobs i u p → Acts node jobs response i
        → i ≢ c → (job_at jobs k).task ≡ c → IsReadAt writes node jobs k u
        → AreSteady node jobs until i
        → (job_at jobs p).arrival + gap_of (task_at node.tasks i) < until
        → (job_at jobs k).arrival < (job_at jobs p).arrival + gap_of (task_at node.tasks i)
        + handed_within writes node i c (response i)
    reader_soon i c p u k newest acts differ own read steady less =
        let next : (q : ℕ) × Follows node jobs i p q = steady p newest.is_job newest.own less in
        let in_time = next.1.in_time in
        let soon = reader_arrives i c p u k next.0 newest acts differ own read
        (follows_later i p next.0 newest.is_job newest.own next.1) next.1.is_job next.1.own in
        omega arith

    -- As long as output k stands, what a later job than p of its task hands on, which arrives by a on the clock, isn't written
    -- by the last task.
    stands_before_end : (shift : ℕ) (offsets : List ℕ) (i : ℕ) (others : List ℕ)
        → AllAct node jobs response i others → OthersSteady node jobs until i others
        → KeepClock node jobs shift offsets others
        → (p q k t a : ℕ) → t ≤ until → IsNewest writes node jobs (last_task i others) t k
        → LeadsTo writes node jobs i others p k → p < q → q < length jobs → (job_at jobs q).task ≡ i
        → (job_at jobs q).arrival + shift ≤ a
        → t + shift < ends_from writes offsets node response i others a
    stands_before_end shift offsets i [] acts steadies keep p q k t a le newest leads later lt own
        arrives =
        let newest' : IsNewest writes node jobs i t p =
        subst (IsNewest writes node jobs i t) {y = p} (sym leads) newest in
        let f : (f : ℕ) × (f ≤ (job_at jobs q).arrival + written_within writes node i (response i))
        × IsWrittenAt writes node jobs q f =
        written_by writes node jobs valid legal response i q acts lt own in
        omega (
          arith,
          f.1,
          writes_after writes node jobs valid legal i (response i) t p q f.0 newest' acts.responds
              later lt own f.2,
        )
    stands_before_end shift offsets i (c ∷ others) acts steadies keep p q k t a le newest leads later
        lt own arrives =
        elim (cases_lt (t + shift) (ends_from writes offsets node response i (c ∷ others) a)) [
          | inl less ↦ less
          | inr ge ↦
              let reads : Reads writes node jobs c leads.0 i p = leads.1 in
              let x : ℕ = a + handed_within writes node i c (response i) in
              let y : ℕ = next_by (first_known offsets) (gap_of (task_at node.tasks c)) x in
              let is_job = (read_arrived writes node jobs legal leads.0 reads.start reads.started).0 in
              let soon = reader_arrives i c p reads.start leads.0 q reads.newest acts.0 acts.1
              reads.own reads.started later lt own in
              let next : (r : ℕ) × ComesBy jobs shift c x y r =
              comes_next node jobs until shift c (first_known offsets) steadies.0
              (first_keeps node jobs shift offsets c others keep)
              (gap_some c leads.0 is_job reads.own) x leads.0
              (omega (
                arith,
                ends_late writes node jobs response (drop 1 offsets) c others acts.2 y,
              ))
              is_job reads.own (omega arith) in
              let next_from = next.1.from in
              absurd (omega (
                arith,
                stands_before_end shift (drop 1 offsets) c others acts.2 steadies.1
                    (others_keep node jobs shift offsets c others keep) leads.0 next.0 k t y le newest
                    leads.2
                    (stands_before node jobs legal c leads.0 next.0 is_job reads.own next.1.own
                    (omega arith))
                    next.1.is_job next.1.own next.1.to,
              ))
        ]

    -- each job of the path of an output has written when it has
    path_written : (i : ℕ) (others : List ℕ) (p k f : ℕ) → AllAct node jobs response i others
        → (job_at jobs k).task ≡ last_task i others → LeadsTo writes node jobs i others p k
        → IsWrittenAt writes node jobs k f → (g : ℕ) × (g ≤ f) × IsWrittenAt writes node jobs p g
    path_written i [] p k f acts own leads is =
        (f, omega arith, subst (λ x. IsWrittenAt writes node jobs x f) {y = p} (sym leads) is)
    path_written i (c ∷ others) p k f acts own leads is =
        let reads : Reads writes node jobs c leads.0 i p = leads.1 in
        let rest : (g : ℕ) × (g ≤ f) × IsWrittenAt writes node jobs leads.0 g =
        path_written c others leads.0 k f acts.2 own leads.2 is in
        let by = reads.newest.in_time in
        let before = read_before writes node jobs c (response c) leads.0 reads.start rest.0 reads.own
        (first_acts node jobs response c others acts.2).responds reads.started rest.2 in
        (reads.newest.finish, omega (arith, rest.1), reads.newest.finished)

    -- so the output arrives within all gaps and handovers after the sample's job
    arrives_by : (i : ℕ) (others : List ℕ) → AllAct node jobs response i others
        → SendersSteady node jobs until i others
        → (p k f from : ℕ) → f ≤ until → (job_at jobs k).task ≡ last_task i others
        → IsWrittenAt writes node jobs k f
        → (job_at jobs p).arrival ≤ from → LeadsTo writes node jobs i others p k
        → (job_at jobs k).arrival
        + written_within writes node (last_task i others) (response (last_task i others))
        ≤ from + lag_of writes node response i others
    arrives_by i [] acts steadies p k f from le own is arrives leads =
        omega (arith, ap (λ x. (job_at jobs x).arrival) leads)
    arrives_by i (c ∷ others) acts steadies p k f from le own is arrives leads =
        let reads : Reads writes node jobs c leads.0 i p = leads.1 in
        let g : (g : ℕ) × (g ≤ f) × IsWrittenAt writes node jobs leads.0 g =
        path_written c others leads.0 k f acts.2 own leads.2 is in
        let b = read_arrived writes node jobs legal leads.0 reads.start reads.started in
        let before = read_before writes node jobs c (response c) leads.0 reads.start g.0 reads.own
        (first_acts node jobs response c others acts.2).responds reads.started g.2 in
        let in_run : (job_at jobs leads.0).arrival < until = omega (arith, b.1, g.1) in
        let soon : (job_at jobs leads.0).arrival
        ≤ from + gap_of (task_at node.tasks i) + handed_within writes node i c (response i) =
        elim (cases_lt (job_at jobs leads.0).arrival
        (from + gap_of (task_at node.tasks i) + handed_within writes node i c (response i))) [
          | inl less ↦ omega arith
          | inr ge ↦ omega (
            arith,
            reader_soon i c p reads.start leads.0 reads.newest acts.0 acts.1 reads.own
                reads.started steadies.0 (omega arith),
          )
        ] in
        omega (
          arith,
          arrives_by c others acts.2 steadies.1 leads.0 k f
              (from + gap_of (task_at node.tasks i) + handed_within writes node i c (response i)) le
              own is soon leads.2,
        )

pub ages_law : (writes : Writes) (node : Node) (jobs : List Job) → IsNode node → AreLegalJobs node jobs
    → AgesHold writes node jobs
ages_law writes node jobs valid legal until shift response offsets first others bound acts steady steadies keep
    is t k s le newest sample =
    elim (cases_lt t (s + bound)) [
      | inl less ↦ less
      | inr ge ↦
          let p : ℕ = sample.job in
          let own : (job_at jobs p).task ≡ first =
          leads_own writes node jobs first others p k newest.own sample.path in
          let b = read_arrived writes node jobs legal p s sample.started in
          let a : ℕ = (job_at jobs p).arrival + shift + gap_of (task_at node.tasks first) in
          let ends : ends_from writes (drop 1 offsets) node response first others a
          ≤ (job_at jobs p).arrival + shift + bound =
          span_in_bound writes node jobs response shift offsets first others bound keep is p b.0 own in
          let late = ends_late writes node jobs response (drop 1 offsets) first others acts a in
          let next : (q : ℕ) × Follows node jobs first p q = steady p b.0 own
          (omega (arith, b.1, late, ends)) in
          let in_time = next.1.in_time in
          absurd (omega (
            arith,
            b.1,
            ends,
            stands_before_end writes node jobs valid legal response until shift (drop 1 offsets) first
                others acts steadies (others_keep node jobs shift offsets first others keep) p next.0
                k t a le newest sample.path
                (stands_before node jobs legal first p next.0 b.0 own next.1.own next.1.later)
                next.1.is_job next.1.own (omega arith),
          ))
    ]

pub fresh_law : (writes : Writes) (node : Node) (jobs : List Job) → IsNode node → AreLegalJobs node jobs
    → OutputsAreFresh writes node jobs
fresh_law writes node jobs valid legal until response first others acts steadies k f s le lt own is sample =
    let arrives = arrives_by writes node jobs valid legal response until first others acts steadies
    sample.job k f s le own is (read_arrived writes node jobs legal sample.job s sample.started).1
    sample.path in
    let g : (g : ℕ) × (g ≤ (job_at jobs k).arrival
    + written_within writes node (last_task first others) (response (last_task first others)))
    × IsWrittenAt writes node jobs k g =
    written_by writes node jobs valid legal response (last_task first others) k
    (last_acts node jobs response first others acts) lt own in
    omega (arith, g.1, written_once writes node jobs k g.0 f g.2 is)
