use Rattle.std.proofs.lemmas.Result.{err_from_is_err_and}
use Rattle.scripts.specs.ScriptWords.{sheet_in}
use Rattle.scripts.proofs.Ahead.{fails_all}
use Rattle.scripts.proofs.rows.sheet_of.Goals as goal

-- a word that is none of the sheet's
pub returns-in_err-next_name : goal.returns-in_err-next_name
unfolding sheet_in
returns-in_err-next_name c =
    let p = err_from_is_err_and c.from_residual.result c.from_residual.ensures.1 in
    rw (p.1, p.2)
    (fails_all _ _ _ c.in_err-next_name.ensures)

pub returns-in_err-next_number : goal.returns-in_err-next_number
unfolding sheet_in
returns-in_err-next_number c =
    let p = err_from_is_err_and c.from_residual-in_err-next_number.result c.from_residual-in_err-next_number.ensures.1 in
    rw (p.1, p.2, c.in_ok-next_name.ensures)
    (fails_all _ _ _ c.in_err-next_number.ensures)

pub returns-in_err-next_number-2 : goal.returns-in_err-next_number-2
unfolding sheet_in
returns-in_err-next_number-2 c =
    let p = err_from_is_err_and c.from_residual-in_err-next_number-2.result c.from_residual-in_err-next_number-2.ensures.1 in
    rw (p.1, p.2, c.in_ok-next_name.ensures, c.in_ok-next_number.ensures)
    (fails_all _ _ _ c.in_err-next_number-2.ensures)

pub returns-in_err-next_number-3 : goal.returns-in_err-next_number-3
unfolding sheet_in
returns-in_err-next_number-3 c =
    let p = err_from_is_err_and c.from_residual-in_err-next_number-3.result c.from_residual-in_err-next_number-3.ensures.1 in
    rw (p.1, p.2, c.in_ok-next_name.ensures, c.in_ok-next_number.ensures, c.in_ok-next_number-2.ensures)
    (fails_all _ _ _ c.in_err-next_number-3.ensures)

pub returns-in_err-next_number-4 : goal.returns-in_err-next_number-4
unfolding sheet_in
returns-in_err-next_number-4 c =
    let p = err_from_is_err_and c.from_residual-in_err-next_number-4.result c.from_residual-in_err-next_number-4.ensures.1 in
    rw (p.1, p.2, c.in_ok-next_name.ensures, c.in_ok-next_number.ensures, c.in_ok-next_number-2.ensures, c.in_ok-next_number-3.ensures)
    (fails_all _ _ _ c.in_err-next_number-4.ensures)

pub returns-in_err-jitter : goal.returns-in_err-jitter
unfolding sheet_in
returns-in_err-jitter c =
    let p = err_from_is_err_and c.from_residual-in_err-jitter.result c.from_residual-in_err-jitter.ensures.1 in
    rw (p.1, p.2, c.in_ok-next_name.ensures, c.in_ok-next_number.ensures, c.in_ok-next_number-2.ensures, c.in_ok-next_number-3.ensures, c.in_ok-next_number-4.ensures, ← c.next_field.ensures)
    (fails_all _ _ _ c.in_err-jitter.ensures)

pub returns-in_err-outranks : goal.returns-in_err-outranks
unfolding sheet_in
returns-in_err-outranks c =
    let p = err_from_is_err_and c.from_residual-in_err-outranks.result c.from_residual-in_err-outranks.ensures.1 in
    rw (p.1, p.2, c.in_ok-next_name.ensures, c.in_ok-next_number.ensures, c.in_ok-next_number-2.ensures, c.in_ok-next_number-3.ensures, c.in_ok-next_number-4.ensures, ← c.next_field.ensures, c.in_ok-jitter.ensures, ← c.next_field-2.ensures)
    (fails_all _ _ _ c.in_err-outranks.ensures)

pub returns-in_err-node : goal.returns-in_err-node
unfolding sheet_in
returns-in_err-node c =
    let p = err_from_is_err_and c.from_residual-in_err-node.result c.from_residual-in_err-node.ensures.1 in
    rw (p.1, p.2, c.in_ok-next_name.ensures, c.in_ok-next_number.ensures, c.in_ok-next_number-2.ensures, c.in_ok-next_number-3.ensures, c.in_ok-next_number-4.ensures, ← c.next_field.ensures, c.in_ok-jitter.ensures, ← c.next_field-2.ensures, c.in_ok-outranks.ensures, ← c.next_field-3.ensures)
    (fails_all _ _ _ c.in_err-node.ensures)

pub returns-in_err-interrupts : goal.returns-in_err-interrupts
unfolding sheet_in
returns-in_err-interrupts c =
    let p = err_from_is_err_and c.from_residual-in_err-interrupts.result c.from_residual-in_err-interrupts.ensures.1 in
    rw (p.1, p.2, c.in_ok-next_name.ensures, c.in_ok-next_number.ensures, c.in_ok-next_number-2.ensures, c.in_ok-next_number-3.ensures, c.in_ok-next_number-4.ensures, ← c.next_field.ensures, c.in_ok-jitter.ensures, ← c.next_field-2.ensures, c.in_ok-outranks.ensures, ← c.next_field-3.ensures, c.in_ok-node.ensures, ← c.next_field-4.ensures)
    (fails_all _ _ _ c.in_err-interrupts.ensures)

pub returns-in_err-sheet : goal.returns-in_err-sheet
unfolding sheet_in
returns-in_err-sheet c =
    let p = err_from_is_err_and c.from_residual-in_err-sheet.result c.from_residual-in_err-sheet.ensures.1 in
    rw (p.1, p.2, c.in_ok-next_name.ensures, c.in_ok-next_number.ensures, c.in_ok-next_number-2.ensures, c.in_ok-next_number-3.ensures, c.in_ok-next_number-4.ensures, ← c.next_field.ensures, c.in_ok-jitter.ensures, ← c.next_field-2.ensures, c.in_ok-outranks.ensures, ← c.next_field-3.ensures, c.in_ok-node.ensures, ← c.next_field-4.ensures, c.in_ok-interrupts.ensures)
    (fails_all _ _ _ c.in_err-sheet.ensures.gives)

pub returns-in_err-late : goal.returns-in_err-late
unfolding sheet_in
returns-in_err-late c =
    let p = err_from_is_err_and c.from_residual-in_err-late.result c.from_residual-in_err-late.ensures.1 in
    rw (p.1, p.2, c.in_ok-next_name.ensures, c.in_ok-next_number.ensures, c.in_ok-next_number-2.ensures, c.in_ok-next_number-3.ensures, c.in_ok-next_number-4.ensures, ← c.next_field.ensures, c.in_ok-jitter.ensures, ← c.next_field-2.ensures, c.in_ok-outranks.ensures, ← c.next_field-3.ensures, c.in_ok-node.ensures, ← c.next_field-4.ensures, c.in_ok-interrupts.ensures, c.in_ok-sheet.ensures.gives)
    (fails_all _ _ _ c.in_err-late.ensures)
