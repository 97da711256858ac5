use Rattle.std.proofs.Common.{arith, ◌≡◌, ◌≤◌, ◌+◌, sym, subst, length}
use Rattle.std.proofs.lemmas.List.{get_or_read}
use Rattle.task_sheet.specs.Sheet.{no_task}
use Rattle.ceilings.specs.Table.{Table}
use Rattle.ceilings.proofs.WholeTable.{IsTableOfFirst, none_noted, one_noted, all_noted}
use Rattle.ceilings.proofs.users.LockUsers.new.Goals as goal

pub loop-index-init : goal.loop-index-init
loop-index-init c =
    rw (c.in_ok-with_capacity.ensures.empty) (none_noted c.sheets-sheet-items.result.now)

pub loop-index-preserved : goal.loop-index-preserved
loop-index-preserved c =
    let U = c.sheets-sheet-items.result.now in
    let is = get_or_read U c.loop-index.index c.sheet-item.result c.loop-index-test.true
    c.sheet-item.is no_task in
    let P : Table → Type 0 = IsTableOfFirst U (c.loop-index.index + 1) in
    subst P (sym c.in_ok-note_task.ensures) (one_noted U c.loop-index.index c.sheet-item.result
    c.loop-index.table c.loop-index-test.true is c.loop-index.invariant)

pub returns : goal.returns
returns c =
    let U = c.sheets-sheet-items.result.now in
    let all : c.loop-index.index ≡ length U = omega arith in
    let few : length U ≤ 32 =
    rw (c.sheets-sheet-items.ensures.same) c.sheets-sheet-items.ensures.kept.few in
    rw (c.sheets-sheet-items.ensures.same) at
    (all_noted U c.loop-index.table few (rw all at c.loop-index.invariant))
