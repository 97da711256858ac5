use Rattle.std.proofs.Common.{◌≡◌, take}
use Rattle.two_input_commands.specs.View.{names_of}
use Rattle.two_input_commands.proofs.view.names_of.Given as goal

abbrev pub invariant-loop-sheet : goal.invariant-loop-sheet
invariant-loop-sheet l = l.names.items ≡ names_of (take l.sheet-index l.sheets)
