-- Jobs and slices that stand by time, and which jobs a sweep over them has passed.
use Rattle.std.specs.Prelude.{◌≡◌, ℕ, ◌+◌, ◌≤◌, ◌<◌, ◌++◌, Bool, true, false, ◌&&◌, not, nat_le, nat_lt, List, [], ◌∷◌, drop, length, Option, Some, None, if◌then◌else◌}
use Rattle.trace_text.specs.declared.rows.TraceJob.{TraceJob}
use Rattle.trace_text.specs.declared.rows.TraceSlice.{TraceSlice}
use Rattle.observed.specs.Pieces.{is_of}
use Rattle.observed.specs.declared.sweeps.Standing.{Standing}

-- each job arrives no sooner than a time, and than the one before it
abbrev pub arrive_from : ℕ → List TraceJob → Bool
arrive_from least [] = true
arrive_from least (j ∷ js) = nat_le least j.arrival && arrive_from j.arrival js

-- each slice lasts, and begins no sooner than a time, and than the one before it
abbrev pub begin_from : ℕ → List TraceSlice → Bool
begin_from least [] = true
begin_from least (s ∷ ss) = nat_le least s.start && (nat_lt s.start s.stop && begin_from s.start ss)

-- what ends, did so by a time
abbrev pub ended_by : ℕ → Option ℕ → Bool
ended_by time None = false
ended_by time (Some finish) = nat_le finish time

-- a job is finished by a time
abbrev pub is_over : ℕ → TraceJob → Bool
is_over time job = ended_by time job.finish

-- ---- jobs with their places
-- it isn't over by a time
abbrev pub goes_on : ℕ → Standing → Bool
goes_on time s = not (is_over time s.job)

-- jobs, of which the first has this place
abbrev pub stand_from : ℕ → List TraceJob → List Standing
stand_from place [] = []
stand_from place (j ∷ js) = record { place = place; job = j } ∷ stand_from (place + 1) js

-- the place of the first of some that a slice is of
abbrev pub place_in : TraceSlice → List Standing → Option ℕ
place_in slice [] = None
place_in slice (s ∷ ss) = if is_of slice s.job then Some s.place else place_in slice ss

-- of both it is the same, for each slice that lasts and begins no sooner than a time
abbrev pub AreAlike : ℕ → List Standing → List Standing → Type 0
AreAlike time xs ys =
    (slice : TraceSlice) → time ≤ slice.start → slice.start < slice.stop
    → place_in slice xs ≡ place_in slice ys

-- the jobs stand by arrival from a place on; those before it that aren't among these are no such slice's
pub record IsSwept (jobs : List TraceJob) (time : ℕ) (live : List Standing) (next : ℕ) : Type 0 where
  pub within : next ≤ length jobs
  pub order : arrive_from 0 (drop next jobs) ≡ true
  pub alike : AreAlike time (live ++ stand_from next (drop next jobs)) (stand_from 0 jobs)

-- the first of jobs, if there is one, arrives behind a time
abbrev pub begin_behind : ℕ → List TraceJob → Bool
begin_behind time [] = true
begin_behind time (j ∷ js) = nat_lt time j.arrival
