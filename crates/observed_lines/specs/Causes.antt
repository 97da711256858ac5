-- From what a broken promise of a job follows.
use Rattle.std.specs.Prelude.{ℕ, ◌+◌, ◌-◌, ◌==◌, max, Bool, true, false, ◌&&◌, ◌||◌, not, nat_le, nat_lt, List, [], ◌∷◌, ◌++◌, Option, Some, None, codes, option_map, if◌then◌else◌}
use Rattle.std.specs.Fmt.{decimal}
use Rattle.std.specs.List.{find, list_any}
use Rattle.std.specs.Option.{option_or}
use Rattle.observed.specs.SeenJob.{SeenData}
use Rattle.observed_lines.specs.Breaks.{breaks_blocking, breaks_bound, breaks_cost, breaks_foreign, breaks_idle, breaks_jitter, breaks_period, breaks_priority}
use Rattle.observed_lines.specs.declared.causes.Behind.{Behind}
use Rattle.observed_lines.specs.declared.causes.Broken.{Broken}
use Rattle.observed_lines.specs.declared.causes.Broken.TheVariants.{Priority, Cost, Period, Late, Blocked, Foreign, Idle}
use Rattle.observed_lines.specs.declared.causes.Cause.{Cause}
use Rattle.observed_lines.specs.declared.causes.Source.{Source}

-- ---- what a job breaks by itself
-- what it breaks itself, or its thread's settings or its timer for it, follows from nothing
abbrev pub breaks_own : ℕ → SeenData → Bool
breaks_own tolerance s =
    breaks_priority s
    || (breaks_cost tolerance s || (breaks_period tolerance s || breaks_jitter tolerance s))

-- the first of these
abbrev pub own_of : ℕ → SeenData → Broken
own_of tolerance s =
    if breaks_priority s then Priority
    else if breaks_cost tolerance s then Cost
    else if breaks_period tolerance s then Period
    else Late

-- what a job breaks, as a cause
abbrev pub as_cause : Broken → SeenData → Cause
as_cause what c = record { what = what; name = c.promise.name; arrival = c.arrival }

-- how late it was ready, past its jitter
abbrev pub late_by : SeenData → ℕ
late_by s = elim s.delay [ None ↦ 0 | Some delay ↦ delay - s.promise.jitter ]

-- for how long others may wait for it who need not have: at a wrong priority as long as it was there, too soon as long as it
-- executed, else as long as it did so past its cost, or was late
abbrev pub costs_others : ℕ → SeenData → ℕ
costs_others tolerance s =
    max (if breaks_priority s then s.lasted else 0)
    (max (if breaks_period tolerance s then s.executed else 0) (max (s.executed - s.may_execute) (late_by s)))

-- what it breaks first, as a cause, with its task's level, for how long it was there, and others may wait for it
abbrev pub source_of : ℕ → SeenData → Source
source_of tolerance s =
    record {
      cause = as_cause (own_of tolerance s) s;
      level = s.level;
      lasted = s.lasted;
      costs = costs_others tolerance s;
    }

-- that of each job that breaks something so
abbrev pub sources_in : ℕ → List SeenData → List Source
sources_in tolerance [] = []
sources_in tolerance (s ∷ seen) =
    if breaks_own tolerance s
    then source_of tolerance s ∷ sources_in tolerance seen
    else sources_in tolerance seen

-- ---- whom it delays
-- it is there behind a time
abbrev pub is_there : ℕ → Source → Bool
is_there time c = nat_lt time (c.cause.arrival + c.lasted)

-- both are there at some time
abbrev pub overlap : Source → SeenData → Bool
overlap c s = nat_lt c.cause.arrival (s.arrival + s.lasted) && is_there s.arrival c

-- its task is one of those that are named to have blocked it
abbrev pub is_named : Source → SeenData → Bool
is_named c s = list_any (λ d. d.level == c.level) s.culprits

-- its task stands no lower; to block it, it has to be its own; or it is named
abbrev pub may_delay : (blocks : Bool) → Source → SeenData → Bool
may_delay blocks c s =
    (if blocks then s.level == c.level else nat_le s.level c.level) || is_named c s

-- a job delays, or blocks, another, or itself, and others may wait for it so long at least
abbrev pub delays : (blocks : Bool) → (least : ℕ) → Source → SeenData → Bool
delays blocks least c s = overlap c s && (may_delay blocks c s && nat_le least c.costs)

-- ---- the causes
-- the first job that does
abbrev pub cause_of : (blocks : Bool) → (least : ℕ) → List Source → SeenData → Option Cause
cause_of blocks least causes s = option_map (λ c. c.cause) (find (λ c. delays blocks least c s) causes)

-- from what follows that it was blocked: from the first that alone shows why
abbrev pub blocked_cause : ℕ → List Source → SeenData → Option Cause
blocked_cause tolerance causes s =
    if breaks_blocking tolerance s
    then cause_of true (s.blocked - s.may_be_blocked - tolerance) causes s
    else None

-- what it broke while it waited
abbrev pub wait_of : ℕ → SeenData → Option Cause
wait_of tolerance s =
    if breaks_blocking tolerance s then Some (as_cause Blocked s)
    else if breaks_foreign tolerance s then Some (as_cause Foreign s)
    else if breaks_idle tolerance s then Some (as_cause Idle s)
    else None

-- from what follows that it took longer than its bound: from the first that alone shows why, else from what it broke while
-- it waited, else from the first that delays it
abbrev pub bound_cause : ℕ → List Source → SeenData → Option Cause
bound_cause tolerance causes s =
    if breaks_bound tolerance s
    then option_or (cause_of false (s.lasted - s.promise.bound - tolerance) causes s)
    (option_or (wait_of tolerance s) (cause_of false 0 causes s))
    else None

-- both
abbrev pub behind_in : ℕ → List Source → SeenData → Behind
behind_in tolerance causes s =
    record { blocked = blocked_cause tolerance causes s; bound = bound_cause tolerance causes s }

-- ---- as words
abbrev pub word_of : Broken → List ℕ
word_of Priority = codes "priority"
word_of Cost = codes "cost"
word_of Period = codes "period"
word_of Late = codes "late"
word_of Blocked = codes "blocked"
word_of Foreign = codes "foreign"
word_of Idle = codes "idle"

-- the cause, if there is one, and the end of the line
abbrev pub after_words : Option Cause → List ℕ
after_words None = codes "\n"
after_words (Some c) =
    codes " after " ++ word_of c.what ++ codes " " ++ c.name ++ codes " " ++ decimal c.arrival
    ++ codes "\n"

-- among those that follow from something it is one, or among those that don't
abbrev pub is_among : (follows : Bool) → Option Cause → Bool
is_among follows None = not follows
is_among follows (Some c) = follows
