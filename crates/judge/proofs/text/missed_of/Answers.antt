use Rattle.std.proofs.Common.{◌≡◌, ◌∙◌, ap, cond, get_or}
use Rattle.std.specs.FinSet as members
use Rattle.task_sheet.specs.Indexes.{indexes_of}
use Rattle.task_sheet.proofs.MembersIndexes.{indexes_of-empty}
use Rattle.judge.proofs.TextLaws.{missed_step, no_judged}
use Rattle.judge.proofs.text.missed_of.Goals as goal
use Rattle.judge.proofs.text.missed_of.Goals.{then-not-does_meet, else-not-does_meet}

pub loop-entry-init : goal.loop-entry-init
loop-entry-init c = ap indexes_of c.empty-missed.ensures ∙ indexes_of-empty

pub loop-entry-preserved : goal.loop-entry-preserved
loop-entry-preserved c =
    let k = c.loop-entry.entry-index in
    let next : c.if-not-does_meet.missed ≡ cond c.does_meet.result c.loop-entry.missed
    (members.insert c.loop-entry.missed (get_or c.args.judged.now k no_judged).task) =
    elim c.if-not-does_meet.branch [
      | then-not-does_meet w ↦ rw (w.if-not-does_meet.true) (w.missed-is ∙ w.with-missed.ensures)
      | else-not-does_meet w ↦ rw (w.if-not-does_meet.false) w.missed-is
    ] in
    missed_step c.loop-entry.missed c.if-not-does_meet.missed c.args.judged.now k no_judged
    c.does_meet.result c.loop-entry-test.true c.does_meet.ensures c.loop-entry.invariant next
