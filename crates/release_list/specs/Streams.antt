-- The releases of some streams of jobs, by time.
use Rattle.std.specs.Prelude.{ℕ, zero, suc, ◌+◌, ◌-◌, ◌*◌, ◌%◌, ◌<◌, ◌≤◌, Bool, ◌&&◌, nat_le, nat_lt, ◌==◌, if◌then◌else◌, Option, None, List, [], ◌++◌, length, map, slice_index_or}
use Rattle.std.specs.List.{filter}
use Rattle.ceiling_kernel.specs.declared.accept.TheConstants.{RELEASE_LIMIT}
use Rattle.ceiling_kernel.specs.declared.trace.Release.{Release}
use Rattle.ceiling_kernel.specs.declared.trace.RunFault.{RunFault}
use Rattle.ceiling_kernel.specs.declared.trace.RunFault.TheVariants as fault
use Rattle.ceiling_kernel.specs.Releases.{refuse_if}
use Rattle.release_list.specs.declared.stream.Stream.{Stream}

-- a stream whose jobs come one after the other, and not too far apart
pub record IsStream (s : Stream) : Type 0 where
  pub some : 0 < s.period
  pub small : s.period ≤ 100000000

-- a job of the stream arrives at a time: the first, or one that comes a whole number of periods after it
abbrev pub arrives : (time : ℕ) → Stream → Bool
arrives time s = nat_le s.first time && (((time - s.first) % s.period) == 0)

-- how late it is: the first as the stream says, any other not
abbrev pub late_at : (time : ℕ) → Stream → ℕ
late_at time s = if time == s.first then s.late else 0

-- its release: it executes its cost
abbrev pub release_of : (time : ℕ) → Stream → Release
release_of time s = record { time = time; name = s.name; late = late_at time s; runs = None }

-- a job of the stream arrives at a time, and is ready before the end
abbrev pub is_listed : (time until : ℕ) → Stream → Bool
is_listed time until s = arrives time s && nat_lt (time + late_at time s) until

-- the releases of a time, in the order of the streams
abbrev pub releases_at : List Stream → (time until : ℕ) → List Release
releases_at ss time until = map (release_of time) (filter (is_listed time until) ss)

-- the releases before a time, by time
unfoldable pub releases_before : List Stream → (time until : ℕ) → List Release
releases_before ss zero until = []
releases_before ss (suc time) until = releases_before ss time until ++ releases_at ss time until

-- the releases that are ready before the end, by time
abbrev pub list_of : List Stream → ℕ → List Release
list_of ss until = releases_before ss until until

-- why there is none: there are more releases than a run takes
abbrev pub count_refusal : List Stream → ℕ → Option RunFault
count_refusal ss until = refuse_if (nat_lt RELEASE_LIMIT (length (list_of ss until))) fault.TooMany

-- ---- the same, by the number of a job
-- when job k of a stream arrives, from 0
abbrev pub arrival_of : Stream → ℕ → ℕ
arrival_of s k = s.first + k * s.period

-- the release of job k
abbrev pub job_release : Stream → ℕ → Release
job_release s k =
    record {
      time = arrival_of s k;
      name = s.name;
      late = if k == 0 then s.late else 0;
      runs = None;
    }

-- stands past the end of a list of streams
abbrev pub no_stream : Stream
no_stream = record { name = []; first = 0; late = 0; period = 1 }

-- the stream at a place, from 0
abbrev pub stream_at : List Stream → ℕ → Stream
stream_at ss q = slice_index_or ss q no_stream
