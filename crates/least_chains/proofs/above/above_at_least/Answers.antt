use Rattle.std.proofs.Common.{List, ap, length}
use Rattle.task_sheet.proofs.Common.{Task}
use Rattle.task_sheet.proofs.MembersIndexes.{len-remove_member}
use Rattle.least_chains.proofs.AboveLaws.{end, start, step}
use Rattle.least_chains.proofs.above.above_at_least.Goals as goal

pub loop-other-init : goal.loop-other-init
loop-other-init c =
    start c.args.set.now c.args.task c.all-left.result _ c.all-left.ensures
    (ap (λ (U : List Task). length U) c.sheets.ensures.same) c.requires.task c.requires.some

pub loop-other-smaller : goal.loop-other-smaller
loop-other-smaller c =
    rw c.without-left.ensures (len-remove_member c.loop-other.left c.in-Some.other c.in-Some.ensures.some.member)

pub loop-other-preserved : goal.loop-other-preserved
loop-other-preserved c =
    step c.args.set.now c.args.task c.loop-other.left c.without-left.result c.in-Some.other
    c.sheets.ensures.kept c.loop-other.invariant c.in-Some.ensures.some c.without-left.ensures

pub returns : goal.returns
returns c =
    end c.args.set.now c.args.task c.loop-other.left c.without.result c.sheets.ensures.kept
    c.loop-other.invariant c.in_default.ensures.none c.without.ensures
