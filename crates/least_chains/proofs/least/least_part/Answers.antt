use Rattle.least_chains.proofs.PartLaws.{deadline-least}
use Rattle.least_chains.proofs.least.least_part.Goals as goal

pub returns-in-AtDeadline : goal.returns-in-AtDeadline
returns-in-AtDeadline c =
    rw (c.in-AtDeadline.is, c.deadline_at.ensures)
    (deadline-least c.args.set.now c.sheets.ensures.kept c.args.task c.args.others.now c.requires)
