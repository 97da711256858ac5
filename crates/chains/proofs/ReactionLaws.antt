-- From an event on: a job of the first task, of the next one a job that arrives a handover later or soon after, and so on to
-- an output; what each of these reads is the one before or a later one.
use Rattle.std.proofs.Common.{ℕ, ◌+◌, ◌<◌, ◌≤◌, ◌≡◌, inl, inr, refl}
use Rattle.std.proofs.Common.{arith, List, [], ◌∷◌, length}
use Rattle.std.specs.Prelude.{drop}
use Rattle.std.proofs.lemmas.Bool.{cases_lt}
use Rattle.task_sheet.proofs.Common.{task_at}
use Rattle.ceiling_kernel.proofs.Common.{Node, Job, job_at, AreLegalJobs, IsNode}
use Rattle.chains.specs.Starts.{IsReadAt, IsWrittenAt}
use Rattle.chains.specs.Paths.{IsNewest, LeadsTo, last_task}
use Rattle.chains.specs.Gaps.{gap_of, OthersSteady}
use Rattle.chains.specs.Clocks.{KeepClock}
use Rattle.chains.specs.Bounds.{AllAct, delay_of, handed_within, written_within}
use Rattle.chains.specs.Walks.{first_known, next_by}
use Rattle.chains.specs.Reactions.{HasBegun, OthersBegun, ReactsBy, ReactionsHold, SamplesAreActedOn}
use Rattle.chains.specs.declared.bounds.Writes.{Writes}
use Rattle.chains.proofs.JobWalks.{IsWalk}
use Rattle.chains.proofs.ClockLaws.{ComesBy, Crosses, comes_next, crosses, ends_from, ends_late}
use Rattle.chains.proofs.ClockLaws.{first_keeps, others_keep, span_in_bound, steady_end}
use Rattle.chains.proofs.AgeLaws.{first_acts, gap_some}
use Rattle.chains.proofs.NewestLaws.{newest_exists}
use Rattle.chains.proofs.WriteLaws.{handed_by, newest_late, read_arrived, reads_by_arrival}
use Rattle.chains.proofs.WriteLaws.{written_by, written_read}

-- an output by a time, whose path begins with a job of the task that arrives no earlier than job q
record Reached (writes : Writes) (node : Node) (jobs : List Job) (i : ℕ) (others : List ℕ) (q by : ℕ)
    : Type 0 where
  output : ℕ
  output_own : (job_at jobs output).task ≡ last_task i others
  finish : ℕ
  finished : IsWrittenAt writes node jobs output finish
  in_time : finish ≤ by
  job : ℕ
  later : (job_at jobs q).arrival ≤ (job_at jobs job).arrival
  own : (job_at jobs job).task ≡ i
  start : ℕ
  started : IsReadAt writes node jobs job start
  path : LeadsTo writes node jobs i others job output

-- steady tasks that have begun have a walk to where what the first one hands on is written by the last
steady_walk : (writes : Writes) (node : Node) (jobs : List Job) → IsNode node → AreLegalJobs node jobs
    → (until shift : ℕ) (response : ℕ → ℕ) (offsets : List ℕ) (i : ℕ) (others : List ℕ)
    → AllAct node jobs response i others → OthersSteady node jobs until i others
    → KeepClock node jobs shift offsets others
    → (z q a by : ℕ) → by ≤ until → OthersBegun jobs z i others → z ≤ (job_at jobs q).arrival
    → (job_at jobs q).arrival + shift ≤ a
    → ends_from writes offsets node response i others a ≤ by + shift
    → IsWalk writes node jobs response i others q by
steady_walk writes node jobs valid legal until shift response offsets i [] acts steadies keep z q a by le begun
    from arrives to =
    omega arith
steady_walk writes node jobs valid legal until shift response offsets i (c ∷ others) acts steadies keep z q a
    by le begun from arrives to =
    let x : ℕ = a + handed_within writes node i c (response i) in
    let y : ℕ = next_by (first_known offsets) (gap_of (task_at node.tasks c)) x in
    let first : HasBegun jobs z c = begun.0 in
    let next : (r : ℕ) × ComesBy jobs shift c x y r =
    comes_next node jobs until shift c (first_known offsets) steadies.0
    (first_keeps node jobs shift offsets c others keep)
    (gap_some writes node jobs valid legal response c first.0 first.1 first.2) x first.0
    (omega (arith, ends_late writes node jobs response (drop 1 offsets) c others acts.2 y)) first.1
    first.2 (omega (arith, first.3)) in
    let next_from = next.1.from in (
      next.0,
      next.1.is_job,
      next.1.own,
      omega arith,
      steady_walk writes node jobs valid legal until shift response (drop 1 offsets) c others acts.2
          steadies.1 (others_keep node jobs shift offsets c others keep) z next.0 y by le begun.1
          (omega arith) next.1.to to,
    )

module _ (writes : Writes) (node : Node) (jobs : List Job) (valid : IsNode node)
    (legal : AreLegalJobs node jobs) (response : ℕ → ℕ) where
  reaches : (i : ℕ) (others : List ℕ) → AllAct node jobs response i others
      → (q by : ℕ) → q < length jobs → (job_at jobs q).task ≡ i
      → IsWalk writes node jobs response i others q by
      → Reached writes node jobs i others q by
  reaches i [] acts q by lt own walk =
      let f : (f : ℕ) × (f ≤ (job_at jobs q).arrival + written_within writes node i (response i))
      × IsWrittenAt writes node jobs q f =
      written_by writes node jobs valid legal response i q acts lt own in
      let s : (s : ℕ) × (s ≤ f.0) × IsReadAt writes node jobs q s =
      written_read writes node jobs q f.0 f.2 in
      record {
        output = q;
        output_own = own;
        finish = f.0;
        finished = f.2;
        in_time = omega (arith, f.1, walk);
        job = q;
        later = omega arith;
        own = own;
        start = s.0;
        started = s.2;
        path = refl;
      }
  reaches i (c ∷ others) acts q by lt own walk =
      let rest : Reached writes node jobs c others walk.0 by = reaches c others acts.2 walk.0 by
      walk.1 walk.2 walk.4 in
      let rest_later = rest.later in
      let f : (f : ℕ) × (f ≤ rest.start) × IsWrittenAt writes node jobs q f =
      handed_by writes node jobs valid legal response i c q rest.job rest.start acts.0 acts.1 lt own
      rest.own rest.started (omega (arith, walk.3)) in
      let p : (p : ℕ) × IsNewest writes node jobs i rest.start p =
      newest_exists writes node jobs i rest.start q f.0 lt own f.2 f.1 in
      let s : (s : ℕ) × (s ≤ p.1.finish) × IsReadAt writes node jobs p.0 s =
      written_read writes node jobs p.0 p.1.finish p.1.finished in
      record {
        output = rest.output;
        output_own = rest.output_own;
        finish = rest.finish;
        finished = rest.finished;
        in_time = rest.in_time;
        job = p.0;
        later = newest_late writes node jobs valid legal i (response i) rest.start p.0 q f.0 p.1
            acts.0.responds lt own f.2 f.1;
        own = p.1.own;
        start = s.0;
        started = s.2;
        path = (
          rest.job,
          record {
            own = rest.own;
            start = rest.start;
            started = rest.started;
            newest = p.1;
          },
          rest.path,
        );
      }

  -- an output that is reached reacts to what comes before the first job of its path reads
  reacts : (first : ℕ) (others : List ℕ) (z q by : ℕ)
      → (r : Reached writes node jobs first others q by) → z ≤ r.start
      → ReactsBy writes node jobs first others z by
  reacts first others z q by r le = record {
    output = r.output;
    own = r.output_own;
    finish = r.finish;
    finished = r.finished;
    in_time = r.in_time;
    sample = r.start;
    sampled = record { job = r.job; started = r.started; path = r.path };
    later = le;
  }

  -- a walk from a job that arrives at z or later reacts to z
  reacts_from : (first : ℕ) (others : List ℕ) → AllAct node jobs response first others
      → (z q by : ℕ) → q < length jobs → (job_at jobs q).task ≡ first → z ≤ (job_at jobs q).arrival
      → IsWalk writes node jobs response first others q by
      → ReactsBy writes node jobs first others z by
  reacts_from first others acts z q by lt own from walk =
      let r : Reached writes node jobs first others q by = reaches first others acts q by lt own walk in
      let b = read_arrived writes node jobs legal r.job r.start r.started in
      let r_later = r.later in
      reacts first others z q by r (omega (arith, b.1))

  -- a walk from a job that reads at s reacts to s
  reacts_to_read : (first : ℕ) (others : List ℕ) → AllAct node jobs response first others
      → (q s by : ℕ) → (job_at jobs q).task ≡ first → IsReadAt writes node jobs q s
      → IsWalk writes node jobs response first others q by
      → ReactsBy writes node jobs first others s by
  reacts_to_read first others acts q s by own read walk =
      let b = read_arrived writes node jobs legal q s read in
      let r : Reached writes node jobs first others q by = reaches first others acts q by b.0 own walk in
      reacts first others s q by r
      (reads_by_arrival writes node jobs valid legal first (response first) q r.job s r.start own
      r.own (first_acts node jobs response first others acts).responds read r.started r.later)

pub reactions_law : (writes : Writes) (node : Node) (jobs : List Job) → IsNode node
    → AreLegalJobs node jobs → ReactionsHold writes node jobs
reactions_law writes node jobs valid legal until shift response offsets first others bound acts steady steadies
    keep is z one begun within =
    elim (cases_lt (job_at jobs one.0).arrival z) [
      | inr at ↦ from_job one.0 one.0 one.1 one.2 one.3 one.1 one.2 at (omega arith)
      | inl before ↦
          let c : (j : ℕ) × (q : ℕ) × Crosses node jobs first z j q =
          crosses node jobs until first z steady room z one.0 one.1 one.2 before (omega arith) in
          let c_before = c.2.before in
          from_job c.0 c.1 c.2.left c.2.left_own (omega arith) c.2.right c.2.right_own c.2.from
          c.2.within
    ]
  where
    -- where the walk from a job's next one ends
    end_after : (j : ℕ) → j < length jobs → (job_at jobs j).task ≡ first
        → ends_from writes (drop 1 offsets) node response first others
        ((job_at jobs j).arrival + shift + gap_of (task_at node.tasks first))
        ≤ (job_at jobs j).arrival + shift + bound
    end_after j lt own =
        span_in_bound writes node jobs response shift offsets first others bound keep is j lt own

    -- so a gap ends before the bound
    room : (j : ℕ) → j < length jobs → (job_at jobs j).task ≡ first → (job_at jobs j).arrival < z
        → (job_at jobs j).arrival + gap_of (task_at node.tasks first) < until
    room j lt own before =
        omega (
          arith,
          within,
          end_after j lt own,
          ends_late writes node jobs response (drop 1 offsets) first others acts
              ((job_at jobs j).arrival + shift + gap_of (task_at node.tasks first)),
        )

    from_job : (j q : ℕ) → j < length jobs → (job_at jobs j).task ≡ first
        → (job_at jobs j).arrival ≤ z → q < length jobs → (job_at jobs q).task ≡ first
        → z ≤ (job_at jobs q).arrival
        → (job_at jobs q).arrival ≤ (job_at jobs j).arrival + gap_of (task_at node.tasks first)
        → ReactsBy writes node jobs first others z (z + bound)
    from_job j q lt own le lt' own' from soon =
        reacts_from writes node jobs valid legal response first others acts z q (z + bound) lt' own'
        from
        (steady_walk writes node jobs valid legal until shift response (drop 1 offsets) first others
        acts steadies (others_keep node jobs shift offsets first others keep) z q
        ((job_at jobs j).arrival + shift + gap_of (task_at node.tasks first)) (z + bound) within begun
        from (omega arith) (omega (arith, end_after j lt own)))

pub acted_law : (writes : Writes) (node : Node) (jobs : List Job) → IsNode node → AreLegalJobs node jobs
    → SamplesAreActedOn writes node jobs
acted_law writes node jobs valid legal until response first others acts steadies q s own read begun within =
    let a : ℕ = (job_at jobs q).arrival in
    let by : ℕ = a + delay_of writes node response first others in
    reacts_to_read writes node jobs valid legal response first others acts q s by own read
    (steady_walk writes node jobs valid legal until 0 response [] first others acts steadies tt a q a
    by within begun (omega arith) (omega arith)
    (omega (arith, steady_end writes node response first others a)))
