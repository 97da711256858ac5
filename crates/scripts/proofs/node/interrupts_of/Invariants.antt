use Rattle.std.proofs.Common.{◌≡◌, ◌==◌, length}
use Rattle.std.specs.List.{slice_split}
use Rattle.lines.specs.Steps.{ahead, each_in}
use Rattle.scripts.specs.ScriptWords.{interrupt_in}
use Rattle.scripts.proofs.node.interrupts_of.Given as goal

abbrev pub invariant-loop-word : goal.invariant-loop-word
invariant-loop-word l = ahead l.interrupts.items (each_in interrupt_in
    (slice_split (λ b. b == 43) l.rest)) ≡ each_in interrupt_in (slice_split (λ b. b == 43) l.text)

abbrev pub decreases-loop-word : goal.decreases-loop-word
decreases-loop-word l = length l.rest
