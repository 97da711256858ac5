use Rattle.std.proofs.Common.{◌∙◌, ◌-◌, ap}
use Rattle.task_sheet.specs.Sheet.{CriticalSection}
use Rattle.task_sheet.specs.declared.node.Node.{Node}
use Rattle.task_sheet.specs.Overheads.{calls}
use Rattle.diff.proofs.own.own_len.Goals as goal

pub returns : goal.returns
returns c =
    let x : CriticalSection = c.args.section.now in
    c.less.ensures (calls c.node.result x) c.calls.ensures
    ∙ ap (λ (s : CriticalSection). s.len - calls c.node.result x) c.section.view_is
    ∙ ap (λ (n : Node). x.len - calls n x) c.node.ensures.same
