use Rattle.std.proofs.Common.{◌≡◌, drop}
use Rattle.frames.specs.Tones.{toned_after, tones_of}
use Rattle.frames.proofs.tones.tones_of.Given as goal

abbrev pub invariant-loop-name : goal.invariant-loop-name
invariant-loop-name l =
    toned_after l.fn.count l.given.items (drop l.name-index l.names) ≡ tones_of l.fn.count l.fn.names
