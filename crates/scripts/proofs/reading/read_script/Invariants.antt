use Rattle.std.proofs.Common.{length}
use Rattle.lines.specs.TextLines.{kept_from, lines_of}
use Rattle.scripts.specs.Script.{script_in}
use Rattle.scripts.proofs.ScriptLaws.{IsReadTo}
use Rattle.scripts.proofs.reading.read_script.Given as goal

abbrev pub invariant-loop-line : goal.invariant-loop-line
invariant-loop-line l = IsReadTo l.lines.items l.opened
    (kept_from l.at.line (lines_of l.at.rest.now)) (script_in l.text)

abbrev pub decreases-loop-line : goal.decreases-loop-line
decreases-loop-line l = length l.at.rest.now
