use Rattle.std.proofs.Common.{◌∙◌, ap, sym}
use Rattle.chain_runs.specs.Outcomes.{greater, reactions_of}
use Rattle.chain_runs.proofs.GreaterLaws.{taken_up}
use Rattle.chain_runs.proofs.outcome.reactions_of.Goals as goal

pub loop-output-preserved : goal.loop-output-preserved
loop-output-preserved c =
    let here = c.in-Some.ensures.cases.0 in
    taken_up c.loop-output.reaction c.reaction_at.result (reactions_of c.in-Some.others.now)
    (reactions_of c.args.outputs.now) c.greater-reaction.result c.greater-reaction.ensures
    (rw c.reaction_at.ensures (sym (ap (λ os. greater c.loop-output.reaction (reactions_of os)) here) ∙ c.loop-output.invariant))
