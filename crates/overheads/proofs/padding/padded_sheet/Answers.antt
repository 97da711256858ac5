use Rattle.overheads.proofs.PaddedTasks.{valid-made}
use Rattle.overheads.proofs.padding.padded_sheet.Goals as goal

pub sheet_with-other-requires-clause-may : goal.sheet_with-other-requires-clause-may
sheet_with-other-requires-clause-may c =
    let cost = c.in-Some.ensures in
    let jitter = c.in-Some-padded_jitter.ensures in
    valid-made c.args.node c.args.sheet.now c.in-Some.cost c.in-Some-padded_jitter.jitter
    c.in_ok-sections.sections.items c.requires.limits c.requires.valid cost.0 cost.1 jitter.0
    jitter.1 c.in_ok-sections.ensures
