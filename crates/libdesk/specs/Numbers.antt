-- The commands by their numbers in include/desk.h.
use Rattle.std.specs.Prelude.{ℕ, ◌==◌, if◌then◌else◌, List, Option, Some, None}
use Rattle.std.specs.Borrow.{Bor}
use Rattle.command_line.specs.declared.calls.OfOne.TheVariants.{Admit, Certify, Limits, Settings, Explain, Play}
use Rattle.command_line.specs.declared.calls.OfTwo.TheVariants.{Check, Judge, Diff, Simulate, Draw, Observe, DrawBeside}
use Rattle.libdesk.specs.declared.asked.Asked.{Asked}
use Rattle.libdesk.specs.declared.asked.Asked.TheVariants.{One, Two, Releases, Worst, WorstChain, DrawChain}

-- the command of a number, with what it takes of the inputs; there is none of another
abbrev pub command_of : ℕ → (first second : Bor (List ℕ)) → (until : ℕ) → Option Asked
command_of number first second until =
    if number == 1 then Some (One Admit first)
    else if number == 2 then Some (One Certify first)
    else if number == 3 then Some (Two Check first second)
    else if number == 4 then Some (One Limits first)
    else if number == 5 then Some (One Settings first)
    else if number == 6 then Some (One Explain first)
    else if number == 7 then Some (Two Judge first second)
    else if number == 8 then Some (Two Diff first second)
    else if number == 9 then Some (Releases first until)
    else if number == 10 then Some (Two Simulate first second)
    else if number == 11 then Some (Two Draw first second)
    else if number == 12 then Some (One Play first)
    else if number == 13 then Some (Two Observe first second)
    else if number == 14 then Some (Worst first second)
    else if number == 15 then Some (Two DrawBeside first second)
    else if number == 16 then Some (WorstChain first second)
    else if number == 17 then Some (DrawChain first second)
    else None
