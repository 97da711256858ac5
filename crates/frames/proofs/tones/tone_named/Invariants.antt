use Rattle.std.proofs.Common.{◌≡◌, drop}
use Rattle.frames.specs.Tones.{tone_named}
use Rattle.frames.proofs.tones.tone_named.Given as goal

abbrev pub invariant-loop-toned : goal.invariant-loop-toned
invariant-loop-toned l = tone_named (drop l.toned-index l.given) l.fn.name ≡ tone_named l.fn.given l.fn.name
