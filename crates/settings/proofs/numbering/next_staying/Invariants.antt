use Rattle.std.proofs.Common.{◌≡◌, drop}
use Rattle.settings.specs.Numbering.{next_staying}
use Rattle.settings.proofs.numbering.next_staying.Given as goal

abbrev pub invariant-loop-number : goal.invariant-loop-number
invariant-loop-number l =
    next_staying l.most (drop l.number-index l.numbers) ≡ next_staying l.most l.numbers
