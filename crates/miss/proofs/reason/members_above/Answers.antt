use Rattle.std.proofs.Common.{◌∙◌, ap}
use Rattle.task_sheet.specs.Indexes.{among}
use Rattle.ceiling_kernel.specs.Tick.{node_in}
use Rattle.ceiling_kernel.proofs.NodeLaws.{after_is_above}
use Rattle.miss.proofs.MemberLaws.{above_few}
use Rattle.miss.proofs.reason.members_above.Goals as goal

pub members_of-requires : goal.members_of-requires
members_of-requires c = above_few (node_in c.args.set.now c.args.order.now)
    (record { tasks = c.sheets.ensures.kept; order = c.requires.order }) c.args.task c.requires.task
    c.above.result.now c.above.ensures

pub returns : goal.returns
returns c = c.members_of.ensures ∙ (ap among c.above.ensures
    ∙ (λ x h. after_is_above (node_in c.args.set.now c.args.order.now)
    (record { tasks = c.sheets.ensures.kept; order = c.requires.order }) c.args.task h
    c.requires.task x))
