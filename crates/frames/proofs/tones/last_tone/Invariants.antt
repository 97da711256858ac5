use Rattle.std.proofs.Common.{◌≡◌, drop, None}
use Rattle.frames.specs.Tones.{last_tone}
use Rattle.frames.proofs.tones.last_tone.Given as goal

abbrev pub invariant-loop-row : goal.invariant-loop-row
invariant-loop-row l = last_tone l.names l.releases l.last (drop l.row-index l.rows)
    ≡ last_tone l.fn.names l.fn.releases None l.fn.rows
