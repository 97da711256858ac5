use Rattle.std.proofs.lemmas.List.Elements.{recursion_from_All}
use Rattle.task_sheet.specs.Sheet.{IsInterrupt}
use Rattle.drafts.specs.Applied.{after_saying}
use Rattle.drafts.proofs.InterruptLaws.{within_ok, within_saying}
use Rattle.drafts.proofs.interrupts.make_said.Goals as goal

pub returns-in-Put-clause-within : goal.returns-in-Put-clause-within
returns-in-Put-clause-within c =
    let xs = c.args.interrupts.now.items in
    let said = c.interrupts.result.now in
    within_ok c.say.result c.say.new.interrupts.items (after_saying c.args.team xs said)
    c.say.ensures (within_saying c.args.team xs said c.requires
    (recursion_from_All IsInterrupt said c.interrupts.ensures.limits.valid))
