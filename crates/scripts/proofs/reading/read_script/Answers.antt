use Rattle.lines.specs.TextLines.{kept_from, lines_of}
use Rattle.scripts.specs.Script.{script_in}
use Rattle.scripts.proofs.ScriptLaws.{script_fails}
use Rattle.scripts.proofs.reading.read_script.Goals as goal

pub returns-in-Err : goal.returns-in-Err
returns-in-Err c =
    let left = kept_from c.in-Ok.after.line (lines_of c.in-Ok.after.rest.now) in
    let all = kept_from c.loop-line.at.line (lines_of c.loop-line.at.rest.now) in
    rw c.fault_at.ensures
    (script_fails c.loop-line.lines.items c.loop-line.opened c.in-Ok.line.number
    c.in-Ok.line.text.now left all (script_in c.args.text.now) c.in-Ok.ensures.line
    c.loop-line.invariant c.in-Err.fault c.in-Err.ensures)
