use Rattle.std.proofs.Common.{◌≡◌, ◌+◌, ◌++◌, drop, map, string_bytes}
use Rattle.scripted.specs.Scripted.{drafts_from}
use Rattle.scripted.proofs.text.teams_text.Given as goal

abbrev pub invariant-loop-part : goal.invariant-loop-part
invariant-loop-part l =
    (l.number ≡ l.part-index + 1)
    × (string_bytes l.text
    ++ drafts_from l.number (map (λ part. part.items) (drop l.part-index l.parts))
    ≡ drafts_from 1 (map (λ part. part.items) l.parts))
