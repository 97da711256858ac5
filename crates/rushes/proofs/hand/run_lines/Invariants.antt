use Rattle.std.proofs.Common.{drop}
use Rattle.rushes.specs.HandFields.{AllOwn}
use Rattle.rushes.specs.Hands.{Hand, new_hand, AreDone}
use Rattle.rushes.proofs.hand.run_lines.Given as goal

-- what the lines that are left make of the team is what all lines make of it from the start on; its drafts are its own
abbrev pub invariant-loop-line : goal.invariant-loop-line
invariant-loop-line g l = record {
  own : AllOwn l.hand;
  rest :
      (k : Hand) → AreDone l.site.workers l.hand (drop l.line-index l.lines) k
      → AreDone l.site.workers (new_hand l.fn.pass) l.lines k;
}
