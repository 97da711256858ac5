use Rattle.std.proofs.Common.{◌≡◌, max, drop}
use Rattle.task_sheet.proofs.Common.{greatest_of}
use Rattle.preferences.specs.Preferences.{place_in}
use Rattle.preferences.proofs.preferred.place_of.Given as goal

abbrev pub invariant-loop-chain : goal.invariant-loop-chain
invariant-loop-chain l =
    max l.greatest (greatest_of (place_in l.sheet.name) (drop l.chain-index l.chains))
    ≡ greatest_of (place_in l.sheet.name) l.chains
