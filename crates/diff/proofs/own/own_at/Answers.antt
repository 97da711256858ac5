use Rattle.std.proofs.Common.{◌∙◌, ◌-◌, List, ap, take}
use Rattle.task_sheet.specs.Sheet.{CriticalSection}
use Rattle.task_sheet.specs.declared.node.Node.{Node}
use Rattle.diff.specs.Own.{shift_behind}
use Rattle.diff.proofs.own.own_at.Goals as goal

pub returns : goal.returns
returns c =
    let x : CriticalSection = c.args.section.now in
    let place = c.args.place in
    let before : List CriticalSection = take place c.sections.result.now in
    c.less.ensures (shift_behind c.node.result before) c.shift_behind.ensures
    ∙ ap (λ (s : CriticalSection). s.at - shift_behind c.node.result before) c.section.view_is
    ∙ ap (λ (n : Node). x.at - shift_behind n before) c.node.ensures.same
    ∙ ap (λ (xs : List CriticalSection). x.at - shift_behind c.args.sheet.now.node (take place xs))
    c.sections.ensures
