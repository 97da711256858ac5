use Rattle.std.proofs.Common.{◌≡◌, ◌==◌, length}
use Rattle.std.specs.List.{slice_split}
use Rattle.lines.specs.Steps.{ahead}
use Rattle.scripts.specs.ScriptWords.{word_names}
use Rattle.scripts.proofs.sections.names_of.Given as goal

abbrev pub invariant-loop-word : goal.invariant-loop-word
invariant-loop-word l = ahead l.names.items (word_names (slice_split (λ b. b == 43) l.rest))
    ≡ word_names (slice_split (λ b. b == 43) l.text)

abbrev pub decreases-loop-word : goal.decreases-loop-word
decreases-loop-word l = length l.rest
