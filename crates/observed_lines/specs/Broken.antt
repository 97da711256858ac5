-- The lines of the promises that jobs break, each kind by their arrivals: those that follow from others come last.
use Rattle.std.specs.Prelude.{ℕ, Bool, true, false, ◌&&◌, nat_lt, List, [], ◌∷◌, ◌++◌, Option, Some, None, codes, if◌then◌else◌}
use Rattle.std.specs.Fmt.{decimal}
use Rattle.observed.specs.SeenJob.{SeenData}
use Rattle.observed.specs.declared.culprits.Culprit.{Culprit}
use Rattle.observed_lines.specs.Breaks.{breaks_blocking, breaks_bound, breaks_cost, breaks_foreign, breaks_idle, breaks_jitter, breaks_period, breaks_priority, may_idle}
use Rattle.observed_lines.specs.Causes.{after_words, behind_in, is_among, sources_in}
use Rattle.observed_lines.specs.declared.causes.Behind.{Behind}
use Rattle.observed_lines.specs.declared.causes.Cause.{Cause}
use Rattle.observed_lines.specs.declared.causes.Source.{Source}

-- what is broken, by the task's name and its job's arrival
abbrev pub at_words : List ℕ → SeenData → List ℕ
at_words what s = what ++ codes " " ++ s.promise.name ++ codes " " ++ decimal s.arrival

-- a time, of a limit
abbrev pub of_words : ℕ → ℕ → List ℕ
of_words time limit = codes " " ++ decimal time ++ codes " of " ++ decimal limit

-- a time, of a limit, which isn't written where it is 0
abbrev pub limit_words : ℕ → ℕ → List ℕ
limit_words time limit =
    if nat_lt 0 limit then of_words time limit else codes " " ++ decimal time

-- who else executed, and for how long
abbrev pub others_words : List Culprit → List ℕ
others_words [] = []
others_words (c ∷ cs) = codes ", " ++ c.name ++ codes " " ++ decimal c.time ++ others_words cs

-- who executed, and for how long
abbrev pub culprits_words : List Culprit → List ℕ
culprits_words [] = []
culprits_words (c ∷ cs) = codes " by " ++ c.name ++ codes " " ++ decimal c.time ++ others_words cs

-- behind whom it waited, and the end of the line
abbrev pub by_words : Option (List ℕ) → List ℕ
by_words None = codes "\n"
by_words (Some name) = codes " by " ++ name ++ codes "\n"

-- how long after the one before it it arrived, of the least, and the end of the line
abbrev pub short_words : Option ℕ → ℕ → List ℕ
short_words None least = codes "\n"
short_words (Some gap) least = of_words gap least ++ codes "\n"

-- at which priority it ran, of its thread's, and the end of the line
abbrev pub stray_words : Option ℕ → ℕ → List ℕ
stray_words None number = codes "\n"
stray_words (Some priority) number = of_words priority number ++ codes "\n"

-- it ran at a priority that is neither its thread's nor a ceiling of its locks
abbrev pub priority_words : SeenData → List ℕ
priority_words s =
    if breaks_priority s
    then at_words (codes "priority") s ++ stray_words s.stray s.promise.number
    else []

-- it executed longer than it may
abbrev pub cost_words : ℕ → SeenData → List ℕ
cost_words tolerance s =
    if breaks_cost tolerance s
    then at_words (codes "cost") s ++ of_words s.executed s.may_execute ++ codes "\n"
    else []

-- it arrived sooner after the one before it than it may
abbrev pub period_words : ℕ → SeenData → List ℕ
period_words tolerance s =
    if breaks_period tolerance s
    then at_words (codes "period") s ++ short_words s.gap s.closest
    else []

-- how long after its arrival it was ready, of the jitter, and the end of the line
abbrev pub delay_words : Option ℕ → ℕ → List ℕ
delay_words None jitter = codes "\n"
delay_words (Some delay) jitter = of_words delay jitter ++ codes "\n"

-- it was ready later after its arrival than its jitter
abbrev pub jitter_words : ℕ → SeenData → List ℕ
jitter_words tolerance s =
    if breaks_jitter tolerance s
    then at_words (codes "late") s ++ delay_words s.delay s.promise.jitter
    else []

-- what a job breaks itself
abbrev pub own_words : ℕ → SeenData → List ℕ
own_words tolerance s =
    priority_words s ++ cost_words tolerance s ++ period_words tolerance s ++ jitter_words tolerance s

-- it is done, and how long it took; or it is open; and from what this follows
abbrev pub late_words : Option Cause → SeenData → List ℕ
late_words cause s =
    if s.is_finished
    then at_words (codes "bound") s ++ of_words s.lasted s.promise.bound ++ after_words cause
    else at_words (codes "open") s ++ after_words cause

-- it took longer than its bound, or isn't done and its bound is past
abbrev pub bound_words : (follows : Bool) → Option Cause → ℕ → SeenData → List ℕ
bound_words follows cause tolerance s =
    if breaks_bound tolerance s && is_among follows cause then late_words cause s else []

-- while it waited, tasks below it executed for longer than they may: these, who did so longest first
abbrev pub blocked_words : (follows : Bool) → Option Cause → ℕ → SeenData → List ℕ
blocked_words follows cause tolerance s =
    if breaks_blocking tolerance s && is_among follows cause
    then at_words (codes "blocked") s ++ of_words s.blocked s.may_be_blocked
    ++ culprits_words s.culprits ++ after_words cause
    else []

-- while it waited, threads executed that the set doesn't have, for longer than may be taken, of which this is the first
abbrev pub foreign_words : ℕ → SeenData → List ℕ
foreign_words tolerance s =
    if breaks_foreign tolerance s
    then at_words (codes "foreign") s ++ limit_words s.foreign s.may_be_taken
    ++ by_words s.stranger
    else []

-- while it waited, nobody executed for longer than is left of that
abbrev pub idle_words : ℕ → SeenData → List ℕ
idle_words tolerance s =
    if breaks_idle tolerance s
    then at_words (codes "idle") s ++ limit_words s.idle (may_idle s) ++ codes "\n"
    else []

-- both, among what follows from nothing
abbrev pub strange_words : (follows : Bool) → ℕ → SeenData → List ℕ
strange_words follows tolerance s =
    if follows then [] else (foreign_words tolerance s ++ idle_words tolerance s)

-- what a job breaks while it waits, and its bound: what follows from nothing, or what follows from something
abbrev pub wait_words : (follows : Bool) → Behind → ℕ → SeenData → List ℕ
wait_words follows behind tolerance s =
    blocked_words follows behind.blocked tolerance s ++ strange_words follows tolerance s
    ++ bound_words follows behind.bound tolerance s

-- what each job breaks itself
abbrev pub own_lines : ℕ → List SeenData → List ℕ
own_lines tolerance [] = []
own_lines tolerance (s ∷ seen) = own_words tolerance s ++ own_lines tolerance seen

-- what each job breaks while it waits, and its bound
abbrev pub wait_lines : (follows : Bool) → (causes : List Source) → ℕ → List SeenData → List ℕ
wait_lines follows causes tolerance [] = []
wait_lines follows causes tolerance (s ∷ seen) =
    wait_words follows (behind_in tolerance causes s) tolerance s ++ wait_lines follows causes tolerance seen

-- what each job breaks: first what it breaks itself, then what follows from nothing that is known, then what follows from
-- something
abbrev pub broken_lines : ℕ → List SeenData → List ℕ
broken_lines tolerance seen =
    own_lines tolerance seen
    ++ wait_lines false (sources_in tolerance seen) tolerance seen
    ++ wait_lines true (sources_in tolerance seen) tolerance seen
