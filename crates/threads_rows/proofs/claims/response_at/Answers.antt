use Rattle.threads_rows.proofs.ClaimLaws.{passes_there, fails_there}
use Rattle.threads_rows.proofs.claims.response_at.Goals as goal

pub returns-clause-passes : goal.returns-clause-passes
returns-clause-passes g c = passes_there c.args.level.now c.args.place c.at-task.result
    c.response.result c.at-task.ensures.task c.response.ensures.stands

pub returns-clause-fails : goal.returns-clause-fails
returns-clause-fails g c = fails_there c.args.level.now c.args.place c.at-task.result
    c.response.result c.at-task.ensures.task c.response.ensures.none
