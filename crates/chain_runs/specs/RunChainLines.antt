-- The lines of the chains of a run.
use Rattle.std.specs.Prelude.{ℕ, List, [], ◌∷◌, ◌++◌, codes, Option}
use Rattle.std.specs.Fmt.{decimal}
use Rattle.task_sheet.specs.Sheet.{Task}
use Rattle.lines.specs.Known.{some_words}
use Rattle.ceiling_kernel.specs.declared.trace.Trace.{Trace}
use Rattle.chains.specs.Parts.{bound_in}
use Rattle.chains.specs.declared.bounds.Level.{Level}
use Rattle.chain_tables.specs.Chains.{ChainData}
use Rattle.chain_runs.specs.ChainOutputs.{outputs_of}
use Rattle.chain_runs.specs.Outcomes.{outcome_of}
use Rattle.chain_runs.specs.Strays.{stray_lines}
use Rattle.chain_runs.specs.declared.outcome.ChainOutcome.{ChainOutcome}

-- how many outputs have a sample, the greatest age and the greatest reaction
abbrev pub outcome_words : ChainOutcome → List ℕ
outcome_words o =
    codes " " ++ decimal o.outputs ++ codes " age " ++ some_words o.age ++ codes " reaction "
    ++ some_words o.reaction

-- the line of a chain
abbrev pub run_line : ChainData → ChainOutcome → (bound : Option ℕ) → List ℕ
run_line chain o bound =
    codes "chain " ++ chain.name ++ outcome_words o ++ codes " bound " ++ some_words bound ++ codes "\n"

-- those of one in a run that ends at a time, in an order whose levels have these responses: its own, and of the tasks that aren't
-- on its clock
abbrev pub run_chain_lines : List Task → List Level → (until : ℕ) → Trace → ChainData → List ℕ
run_chain_lines U levels until trace chain =
    run_line chain (outcome_of until (outputs_of chain.writes U until trace chain.tasks))
    (bound_in chain.writes chain.offsets U levels chain.tasks)
    ++ stray_lines U trace chain.offsets chain.tasks

-- those of all
abbrev pub run_chains_said : List Task → List Level → (until : ℕ) → Trace → List ChainData → List ℕ
run_chains_said U levels until trace [] = []
run_chains_said U levels until trace (chain ∷ chains) =
    run_chain_lines U levels until trace chain ++ run_chains_said U levels until trace chains
