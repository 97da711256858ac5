use Rattle.std.proofs.Common.{◌∙◌, ap, sym}
use Rattle.chain_runs.specs.Outcomes.{ages_of, greater}
use Rattle.chain_runs.proofs.GreaterLaws.{taken_up}
use Rattle.chain_runs.proofs.outcome.ages_of.Goals as goal

pub loop-output-preserved : goal.loop-output-preserved
loop-output-preserved c =
    let until = c.args.until in
    let here = c.in-Some.ensures.cases.0 in
    taken_up c.loop-output.age c.age_at.result (ages_of until c.in-Some.others.now)
    (ages_of until c.args.outputs.now) c.greater-age.result c.greater-age.ensures
    (rw c.age_at.ensures (sym (ap (λ os. greater c.loop-output.age (ages_of until os)) here) ∙ c.loop-output.invariant))
