-- The densest release list that a set allows, from an instant at which all tasks become ready together: the worst case
-- of the analysis (Audsley et al. 1993). It begins at time 0, so that the task of greatest jitter arrives there.
use Rattle.std.specs.Prelude.{◌≡◌, ℕ, zero, suc, ◌-◌, ◌<◌, ◌⊎◌, nat_lt, Option, Some, None, List, [], ◌∷◌, ◌++◌, length}
use Rattle.std.specs.Option.{option_or}
use Rattle.task_sheet.specs.Sheet.{Task, task_at}
use Rattle.task_sheet.specs.Demand.{greatest_of}
use Rattle.ceiling_kernel.specs.declared.accept.TheConstants.{HORIZON}
use Rattle.ceiling_kernel.specs.declared.trace.Release.{Release}
use Rattle.ceiling_kernel.specs.declared.trace.RunFault.{RunFault}
use Rattle.ceiling_kernel.specs.declared.trace.RunFault.TheVariants as fault
use Rattle.ceiling_kernel.specs.Waits.{lateness_of}
use Rattle.ceiling_kernel.specs.Releases.{ready_of, release_at, refuse_if}
use Rattle.release_list.specs.declared.steady.SteadyTask.{SteadyTask}
use Rattle.release_list.specs.declared.stream.Stream.{Stream}
use Rattle.release_list.specs.Steady.{offset_in}
use Rattle.release_list.specs.Streams.{list_of, count_refusal, job_release}

-- the instant at which all tasks become ready together: the greatest jitter of the set
abbrev pub instant_of : List Task → ℕ
instant_of U = greatest_of lateness_of U

-- the densest jobs of a task: the first is ready at the instant, as late as its jitter allows, each further one comes a
-- period after the one before
abbrev pub stream_of : (instant : ℕ) → Task → Stream
stream_of instant t =
    record {
      name = t.name;
      first = instant - lateness_of t;
      late = lateness_of t;
      period = t.period;
    }

-- the same from an offset on, where one is known
abbrev pub stream_from : Option ℕ → (instant : ℕ) → Task → Stream
stream_from None instant t = stream_of instant t
stream_from (Some offset) instant t = record (stream_of instant t) { first = offset }

-- those of the task of a rank
abbrev pub own_stream : List Task → List SteadyTask → (rank : ℕ) → Stream
own_stream U steady rank = stream_from (offset_in steady rank) (instant_of U) (task_at U rank)

-- those of the first n tasks, by rank
unfoldable pub first_streams : List Task → List SteadyTask → (n : ℕ) → List Stream
first_streams U steady zero = []
first_streams U steady (suc n) = first_streams U steady n ++ own_stream U steady n ∷ []

abbrev pub streams_of : List Task → List SteadyTask → List Stream
streams_of U steady = first_streams U steady (length U)

-- THE DENSEST LIST up to an end, in which tasks whose offsets are known arrive from there on
abbrev pub densest_of : List Task → List SteadyTask → (until : ℕ) → List Release
densest_of U steady until = list_of (streams_of U steady) until

-- why there is none: the end is past the horizon, or there are more releases than a run takes
abbrev pub list_refusal : List Task → List SteadyTask → (until : ℕ) → Option RunFault
list_refusal U steady until =
    option_or (refuse_if (nat_lt HORIZON until) fault.PastHorizon)
    (count_refusal (streams_of U steady) until)

-- ---- the same, by the number of a job
-- a release is job k of the task at an index, and ready before the end
pub record IsJob (U : List Task) (steady : List SteadyTask) (until : ℕ) (r : Release) (i k : ℕ) : Type 0 where
  pub in_set : i < length U
  pub is : r ≡ job_release (own_stream U steady i) k
  pub before : ready_of r < until

-- the jobs that are ready before the end and no others, by time, and those of one time by rank
pub record IsDensest (U : List Task) (steady : List SteadyTask) (until : ℕ) (rs : List Release) : Type 0 where
  pub sound : (n : ℕ) → n < length rs → (i : ℕ) × (k : ℕ) × IsJob U steady until (release_at rs n) i k
  pub complete : (i k : ℕ) → i < length U → ready_of (job_release (own_stream U steady i) k) < until
      → (n : ℕ) × (n < length rs) × (release_at rs n ≡ job_release (own_stream U steady i) k)
  pub ordered : (m n i h j k : ℕ) → m < n → n < length rs
      → IsJob U steady until (release_at rs m) i j → IsJob U steady until (release_at rs n) h k
      → ((release_at rs m).time < (release_at rs n).time)
      ⊎ (((release_at rs m).time ≡ (release_at rs n).time) × (i < h))
