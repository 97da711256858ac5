-- What the outputs of a chain come to, by time, in a run that ends at a time.
use Rattle.std.specs.Prelude.{ℕ, ◌+◌, ◌-◌, max, nat_lt, is_some, List, [], ◌∷◌, Option, Some, None, if◌then◌else◌}
use Rattle.chain_runs.specs.declared.outputs.ChainOutput.{ChainOutput}
use Rattle.chain_runs.specs.declared.outcome.ChainOutcome.{ChainOutcome}

-- how many have a sample
abbrev pub count_of : List ChainOutput → ℕ
count_of [] = 0
count_of (o ∷ os) = (if is_some o.sample then 1 else 0) + count_of os

-- the greater of two, of which either may be absent
abbrev pub greater : Option ℕ → Option ℕ → Option ℕ
greater None other = other
greater (Some one) None = Some one
greater (Some one) (Some other) = Some (max one other)

-- ---- ages
-- until when an output stands in front of others: to the next one, or to the end
abbrev pub next_of : (until : ℕ) → List ChainOutput → ℕ
next_of until [] = until
next_of until (o ∷ os) = o.finish

-- how old it gets
abbrev pub age_by : Option ℕ → (end : ℕ) → Option ℕ
age_by None end = None
age_by (Some sample) end = Some (end - sample)

abbrev pub age_at : (until : ℕ) → ChainOutput → List ChainOutput → Option ℕ
age_at until o os = age_by o.sample (next_of until os)

-- the greatest age
abbrev pub ages_of : (until : ℕ) → List ChainOutput → Option ℕ
ages_of until [] = None
ages_of until (o ∷ os) = greater (age_at until o os) (ages_of until os)

-- ---- reactions
-- from just after a sample to an output, where its sample is a later one
abbrev pub later_than : (sample finish : ℕ) → Option ℕ → Option ℕ
later_than sample finish None = None
later_than sample finish (Some later) = if nat_lt sample later then Some (finish - sample) else None

abbrev pub later_by : (sample : ℕ) → ChainOutput → Option ℕ
later_by sample next = later_than sample next.finish next.sample

-- from just after the sample of an output, where it has one, to the next output, where that has a later one
abbrev pub reaction_by : Option ℕ → List ChainOutput → Option ℕ
reaction_by None os = None
reaction_by (Some sample) [] = None
reaction_by (Some sample) (o ∷ os) = later_by sample o

abbrev pub reaction_at : ChainOutput → List ChainOutput → Option ℕ
reaction_at o os = reaction_by o.sample os

-- the greatest reaction
abbrev pub reactions_of : List ChainOutput → Option ℕ
reactions_of [] = None
reactions_of (o ∷ os) = greater (reaction_at o os) (reactions_of os)

-- ---- all
abbrev pub outcome_of : (until : ℕ) → List ChainOutput → ChainOutcome
outcome_of until os =
    record { outputs = count_of os; age = ages_of until os; reaction = reactions_of os }
