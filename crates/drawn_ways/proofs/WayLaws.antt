-- What is found of a task at a time is its newest job, and so on back along a chain.
use Rattle.std.proofs.Common.{ℕ, ◌<◌, ◌≤◌, ◌≡◌, inl, inr, refl, subst, arith}
use Rattle.std.proofs.Common.{List, [], ◌∷◌, length, Option, Some, None, Ok, reverse}
use Rattle.std.proofs.lemmas.Bool.{cases_lt, le-leb, lt-leb}
use Rattle.ceiling_kernel.specs.declared.trace.Release.{Release}
use Rattle.ceiling_kernel.specs.declared.trace.Trace.{Trace}
use Rattle.ceiling_kernel.proofs.Common.{Node, Job, job_at, jobs_of, Runs}
use Rattle.chains.specs.Starts.{IsReadAt, IsWrittenAt}
use Rattle.chains.specs.declared.bounds.Writes.{Writes}
use Rattle.chains.proofs.NewestLaws.{written_once}
use Rattle.chains.proofs.WriteLaws.{written_read}
use Rattle.chain_runs.specs.ChainOutputs.{outputs_of}
use Rattle.chain_runs.specs.Runs.{AreOutputs, IsOutput, IsSampled, WritesInTime}
use Rattle.chain_runs.specs.declared.outputs.ChainOutput.{ChainOutput}
use Rattle.chain_runs.proofs.OrderLaws.{in_turn}
use Rattle.chain_runs.proofs.RunLaws.{outputs_law}
use Rattle.drawn_ways.specs.Legs.{back, leg_of, newest_leg, newest_of, with_before}
use Rattle.drawn_ways.specs.WayLaws.{AreRead, IsFound, PathsAreRead}
use Rattle.drawn_ways.specs.declared.legs.Leg.{Leg}

module _ (writes : Writes) (node : Node) (jobs : List Job) where
  -- job q of a task writes at g, by a time and by another
  abbrev Ends : (i t u q g : ℕ) → Type 0
  Ends i t u q g =
      (q < length jobs) × ((job_at jobs q).task ≡ i) × IsWrittenAt writes node jobs q g × (g ≤ t)
      × (g ≤ u)

  -- of those the last is known
  abbrev Known : (i t u : ℕ) → Option Leg → Type 0
  Known i t u None = (q g : ℕ) → Ends i t u q g → ⊥
  Known i t u (Some l) =
      (l.task ≡ i) × (l.stop ≤ t)
      × ((p : ℕ) × (p < length jobs) × ((job_at jobs p).task ≡ i) × IsReadAt writes node jobs p l.start
      × IsWrittenAt writes node jobs p l.stop)
      × ((q g : ℕ) → Ends i t u q g → g ≤ l.stop)

  -- nothing ends between two times
  known_later : (i t u v : ℕ) (found : Option Leg) → ((q g : ℕ) → Ends i t v q g → g ≤ u)
      → Known i t u found → Known i t v found
  known_later i t u v None none known = λ q g ends. known q g
      (ends.0, ends.1, ends.2, ends.3, none q g ends)
  known_later i t u v (Some l) none known = (
    known.0,
    known.1,
    known.2,
    λ q g ends. known.3 q g
        (ends.0, ends.1, ends.2, ends.3, none q g ends),
  )

  -- the output of a chain of one task is a job of it
  known_output : (i t after : ℕ) (o : ChainOutput) (k : ℕ) → o.finish ≤ t
      → IsOutput writes node jobs i [] after o k → Known i t o.finish (leg_of i o)
  known_output i t after o k by is =
      elim o.sample as (λ s. IsSampled writes node jobs i [] k s
      → Known i t o.finish (leg_of i (record { finish = o.finish; sample = s }))) [
        | None ↦ λ none.
            let s = written_read writes node jobs k o.finish is.finished in
            absurd (none s.0 (record { job = k; started = s.2; path = refl }))
        | Some s ↦ λ sampled. (
          refl,
          by,
          (
            k,
            is.is_job,
            is.own,
            subst (λ (j : ℕ). IsReadAt writes node jobs j s) sampled.path sampled.started,
            is.finished,
          ),
          λ q g ends. ends.4,
        )
      ] is.sampled

  -- the last of outputs that come by a time
  newest_known : (i t u until : ℕ) (os : List ChainOutput) (found : Option Leg) → t ≤ until
      → AreOutputs writes node jobs i [] u until os → Known i t u found
      → Known i t until (newest_leg i t os found)
  newest_known i t u until [] found le are known =
      known_later i t u until found (λ q g ends. are q g ends.1 ends.2 ends.4) known
  newest_known i t u until (o ∷ os) found le are known =
      let k : (k : ℕ) × IsOutput writes node jobs i [] u o k = are.2 in
      elim (cases_lt t o.finish) [
        | inl late ↦ rw (lt-leb o.finish t late) (newest_known i t o.finish until os found le are.3
            (known_later i t u o.finish found (λ q g ends. elim (cases_lt u g) [
              | inr low ↦ low
              | inl past ↦
                  let first = k.1.next q g ends.1 ends.2 past in
                  let by = ends.3 in
                  absurd (omega arith)
            ]) known))
        | inr by ↦ rw (le-leb o.finish t by) (newest_known i t o.finish until os (leg_of i o) le are.3
            (known_output i t u o k.0 by k.1))
      ]

  -- so it is the newest job
  known_found : (i t until : ℕ) (found : Option Leg) → t ≤ until → Known i t until found
      → IsFound writes node jobs i t found
  known_found i t until None le known = λ p newest. known p newest.finish
      (newest.is_job, newest.own, newest.finished, newest.in_time, omega (arith, newest.in_time))
  known_found i t until (Some l) le known =
      let p = known.2 in (
        p.0,
        record {
          own = known.0;
          newest = record {
            is_job = p.1;
            own = p.2;
            finish = l.stop;
            finished = p.4;
            in_time = known.1;
            last = λ q g lt own is by. known.3 q g (lt, own, is, by, omega (arith, by));
          };
          started = p.3;
          finished = p.4;
        },
      )

module _ (writes : Writes) (node : Node) (rs : List Release) (until : ℕ) (trace : Trace)
    (in_time : WritesInTime writes node) (ran : Runs node rs until (Ok trace)) where
  abbrev jobs : List Job
  jobs = jobs_of node.tasks rs

  abbrev outputs : List ℕ → List ChainOutput
  outputs = outputs_of writes node.tasks until trace

  newest_found : (i t : ℕ) → t ≤ until → IsFound writes node jobs i t (newest_of outputs i t)
  newest_found i t le =
      known_found writes node jobs i t until (newest_of outputs i t) le
      (newest_known writes node jobs i t 0 until (outputs (i ∷ [])) None le
      (outputs_law writes node rs until trace i [] in_time ran)
      (λ q g ends.
      let s = written_read writes node jobs q g ends.2 in
      let some = (in_turn writes node rs until trace in_time ran).before q s.0 g s.2 ends.2 in
      let none = ends.4 in
      absurd (omega arith)))

  back_read : (tasks : List ℕ) (t : ℕ) → t ≤ until
      → AreRead writes node jobs tasks t (back outputs tasks t)
  back_read [] t le = refl
  back_read (task ∷ before) t le =
      elim (newest_of outputs task t) as (λ found. IsFound writes node jobs task t found
      → AreRead writes node jobs (task ∷ before) t (with_before (back outputs before) found)) [
        | None ↦ λ none. none
        | Some l ↦ λ is. (
          is,
          back_read before l.start
              (let lt = (in_turn writes node rs until trace in_time ran).before is.0 l.start l.stop
              is.1.started is.1.finished in
              let by = is.1.newest.in_time in
              let once : l.stop ≤ is.1.newest.finish =
              written_once writes node jobs is.0 is.1.newest.finish l.stop is.1.newest.finished is.1.finished in
              omega arith),
        )
      ] (newest_found task t le)

pub paths_law : PathsAreRead
paths_law writes node rs until trace tasks t in_time ran le =
    back_read writes node rs until trace in_time ran (reverse tasks) t le
