use Rattle.std.proofs.Common.{◌≡◌, ◌∙◌, ◌+◌, ◌-◌, length, drop, get_or, ap, arith}
use Rattle.std.proofs.lemmas.List.{length-drop, take_all}
use Rattle.task_sheet.proofs.Common.{among, indexes_of}
use Rattle.judge.specs.SettingFaults.{thread_number}
use Rattle.judge.proofs.RaisedLaws.{blocking-least, order-above}
use Rattle.judge.proofs.by_ceilings.judge_at.Goals as goal

pub judge_raised-judgement-requires-clause-least : goal.judge_raised-judgement-requires-clause-least
judge_raised-judgement-requires-clause-least c =
    let U = c.args.set.now in
    let s = c.args.settings.now in
    let order = c.args.order.now in
    let i = get_or order c.args.place 0 in
    let rest = drop (c.args.place + 1) order in
    let same : indexes_of c.members_of-above.result ≡ among rest = c.members_of-above.ensures
    ∙ ap among (take_all (length order - (c.args.place + 1)) rest
    (omega (arith, length-drop (c.args.place + 1) order))) in
    rw same (blocking-least U s.threads.items s.mutexes.items (thread_number U s.threads.items i) i
    (among rest)
    (order-above U s.threads.items s.mutexes.items order c.args.place c.requires.order
    c.requires.place))
