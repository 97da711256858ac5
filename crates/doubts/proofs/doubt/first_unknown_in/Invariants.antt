use Rattle.std.proofs.Common.{◌≡◌, drop}
use Rattle.doubts.specs.Doubts.{first_of, unknown_in}
use Rattle.doubts.proofs.doubt.first_unknown_in.Given as goal

abbrev pub invariant-loop-name : goal.invariant-loop-name
invariant-loop-name l =
    first_of (unknown_in l.sheets l.task (drop l.name-index l.names)) ≡ first_of (unknown_in l.sheets l.task l.names)
