-- What `desk rush` answers and prints.
use Rattle.std.specs.Prelude.{◌≡◌, ◌⊎◌, ℕ, List, Option, MatchBool}
use Rattle.std.specs.Io.KnownBytes.{Appends}
use Rattle.scripts.specs.declared.line.Line.{Line}
use Rattle.streams.specs.Watching.{WatchedData}
use Rattle.rushes.specs.Printed.{IsRushText}
use Rattle.scripts.specs.declared.rush_fault.RushFault.{RushFault}
use Rattle.script_commands.specs.Play.{IsRefused, IsScript}
use Rattle.answering.specs.Refusals.{refusal_line, status_of}
use Rattle.answering.specs.declared.refusal.CommandRefusal.TheVariants.{Rush}
use Rattle.answering.specs.declared.status.Status.{Status}
use Rattle.answering.specs.declared.status.Status.TheVariants.{Done, InputOrOutputFailed}

-- what is told was written to the errors after what they held, where their bytes are known, and the status is that of
-- success; where they have failed, it is that of a failed output
abbrev pub IsNoted : {E : Type 0} → (E → Option (List ℕ)) → WatchedData E → WatchedData E → List ℕ
    → Status → Type 0
IsNoted contents old new told s =
    MatchBool new.has_failed (s ≡ InputOrOutputFailed)
    (Appends (contents old.inner) (contents new.inner) told × (s ≡ Done))

-- a legal log of what the teams' lines came to was printed, and the book that it comes to, and to the errors what is
-- told of the lines; or the fault alone
abbrev pub IsRush :
    {E : Type 0} → ℕ → List Line → List ℕ → (E → Option (List ℕ)) → WatchedData E → WatchedData E
    → Status → Type 0
IsRush workers lines text contents old new s =
    ((told : List ℕ) × IsRushText workers lines text told × IsNoted contents old new told s)
    ⊎ ((fault : RushFault) × (text ≡ refusal_line (Rush fault)) × (s ≡ status_of (Rush fault))
    × (new ≡ old))

-- what is printed after what the writer held, and what becomes of the errors
abbrev pub SaysRushed :
    {E : Type 0} → Option (List ℕ) → ℕ → Option (List ℕ) → Option (List ℕ) → (E → Option (List ℕ))
    → WatchedData E
    → WatchedData E → Status → Type 0
SaysRushed known workers before after contents old new s =
    (text : List ℕ) × Appends before after text
    × ((IsRefused known text s × (new ≡ old))
    ⊎ ((lines : List Line) × IsScript known lines × IsRush workers lines text contents old new s))
