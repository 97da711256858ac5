use Rattle.std.proofs.Common.{◌≤◌, ◌∙◌, ap, ap₂, arith, List, None, Option, ℕ}
use Rattle.chain_traces.specs.DeadlineOutputs.{later_than, standing}
use Rattle.chain_runs.specs.declared.outputs.ChainOutput.{ChainOutput}
use Rattle.chain_traces.proofs.DeadlineOutputLaws.{later_on, standing_on}
use Rattle.chain_traces.proofs.deadlines.stand_next.Goals as goal

pub returns-else-time-known-clause-sample : goal.returns-else-time-known-clause-sample
returns-else-time-known-clause-sample c =
    let le : c.args.known.time ≤ c.args.time = omega (arith, c.if-time-known.false) in
    c.stand_from-else-time-known.ensures.sample
    ∙ ap₂ (λ (s : Option ℕ) (os : List ChainOutput). standing c.args.time s os) c.requires.sample c.requires.later
    ∙ standing_on c.args.known.time c.args.time None c.args.outputs.now le

pub returns-else-time-known-clause-later : goal.returns-else-time-known-clause-later
returns-else-time-known-clause-later c =
    let le : c.args.known.time ≤ c.args.time = omega (arith, c.if-time-known.false) in
    c.stand_from-else-time-known.ensures.later
    ∙ ap (λ (os : List ChainOutput). later_than c.args.time os) c.requires.later
    ∙ later_on c.args.known.time c.args.time c.args.outputs.now le
