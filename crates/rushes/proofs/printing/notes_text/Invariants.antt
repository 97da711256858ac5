use Rattle.std.proofs.Common.{◌≡◌, ◌++◌, drop, map, string_bytes}
use Rattle.rushes.specs.Printed.{all_note_lines}
use Rattle.rushes.proofs.printing.notes_text.Given as goal

abbrev pub invariant-loop-last : goal.invariant-loop-last
invariant-loop-last g l =
    string_bytes l.text ++ all_note_lines (map (λ last. last.notes) (drop l.last-index l.teams))
    ≡ all_note_lines (map (λ last. last.notes) l.teams)
