use Rattle.std.proofs.Common.{◌≡◌, drop}
use Rattle.two_input_commands.specs.Beside.{tone_among}
use Rattle.two_input_commands.proofs.beside.tone_among.Given as goal

abbrev pub invariant-loop-row : goal.invariant-loop-row
invariant-loop-row l =
    tone_among (drop l.row-index l.rows) l.fn.name l.fn.own ≡ tone_among l.fn.rows l.fn.name l.fn.own
