use Rattle.std.proofs.Common.{◌≡◌, ◌++◌, drop, string_bytes}
use Rattle.rushes.specs.Printed.{note_lines}
use Rattle.rushes.proofs.printing.push_notes.Given as goal

abbrev pub invariant-loop-note : goal.invariant-loop-note
invariant-loop-note l = string_bytes l.text ++ note_lines (drop l.note-index l.notes)
    ≡ string_bytes l.initial.text ++ note_lines l.notes
