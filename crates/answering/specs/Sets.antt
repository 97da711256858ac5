-- What readers have: a set, or a set and a text; or why they don't.
use Rattle.std.specs.Prelude.{◌⊎◌, ℕ, List, Option, Err}
use Rattle.task_sheet.specs.Sheet.{Task}
use Rattle.teams.specs.ReadsText.{ReadsText}
use Rattle.preferences.specs.ReadsAsked.{IsDoubted, IsUnchained, SaysAsked}
use Rattle.preferences.specs.declared.asking.Asking.{Asking}
use Rattle.preferences.specs.declared.asking.AskedFault.{AskedFault}
use Rattle.preferences.specs.declared.asking.AskedFault.TheVariants as asked
use Rattle.streams.specs.Inputs.{IsLonger, IsReadFrom, IsReadUpTo, IsTooLong}
use Rattle.streams.specs.declared.input.InputFault.TheVariants as input
use Rattle.answering.specs.declared.refusal.CommandRefusal.{CommandRefusal}
use Rattle.answering.specs.declared.refusal.CommandRefusal.TheVariants as refusal

-- the bytes that a reader has say a set, which is this one as the call asks for it
abbrev pub HasSet : Asking → Option (List ℕ) → List Task → Type 0
HasSet asking known U =
    (bytes : List ℕ) × IsReadFrom known bytes × SaysAsked asking bytes U

-- why bytes say no set as it is asked for, as a refusal
abbrev pub asked_refusal : AskedFault → CommandRefusal
asked_refusal (asked.Text fault) = refusal.Set fault
asked_refusal (asked.Doubt doubt) = refusal.Doubtful doubt
asked_refusal (asked.Chain fault) = refusal.Chain fault

-- bytes say no set as the call asks for it: the first fault of the bytes, the first doubt of the set, or the first fault of
-- its chains, or memory ran out
abbrev pub IsNoSet : Asking → List ℕ → CommandRefusal → Type 0
IsNoSet asking bytes (refusal.Set fault) = ReadsText bytes (Err fault)
IsNoSet asking bytes (refusal.Doubtful doubt) = IsDoubted asking bytes doubt
IsNoSet asking bytes (refusal.Chain fault) = IsUnchained asking bytes fault
IsNoSet asking bytes refusal.OutOfMemory = Unit {0}
IsNoSet asking bytes _ = ⊥

-- why there is no set: the input was not read, or the first fault of its bytes, the first doubt of the set, or the first
-- fault of its chains. Out of memory may come at any time, and the function's own clause says where a failed read is answered.
abbrev pub HasNoSet : Asking → Option (List ℕ) → CommandRefusal → Type 0
HasNoSet asking known (refusal.Input input.TooLong) = IsTooLong known
HasNoSet asking known (refusal.Input input.ReadFailed) = Unit {0}
HasNoSet asking known (refusal.Input input.OutOfMemory) = Unit {0}
HasNoSet asking known (refusal.Set fault) =
    (bytes : List ℕ) × IsReadFrom known bytes × ReadsText bytes (Err fault)
HasNoSet asking known (refusal.Doubtful doubt) =
    (bytes : List ℕ) × IsReadFrom known bytes × IsDoubted asking bytes doubt
HasNoSet asking known (refusal.Chain fault) =
    (bytes : List ℕ) × IsReadFrom known bytes × IsUnchained asking bytes fault
HasNoSet asking known refusal.OutOfMemory = Unit {0}
HasNoSet asking known _ = ⊥

-- why there are not both: one of the inputs was not read, or the first fault of the set's bytes, the first doubt of the
-- set, or the first fault of its chains, once both were read
abbrev pub HaveNotBoth : (most : ℕ) → Asking → (set other : Option (List ℕ)) → CommandRefusal → Type 0
HaveNotBoth most asking set other (refusal.Input input.TooLong) = IsTooLong set ⊎ IsLonger most other
HaveNotBoth most asking set other (refusal.Input input.ReadFailed) = Unit {0}
HaveNotBoth most asking set other (refusal.Input input.OutOfMemory) = Unit {0}
HaveNotBoth most asking set other (refusal.Set fault) =
    (bytes : List ℕ) × (text : List ℕ) × IsReadFrom set bytes × IsReadUpTo most other text
    × ReadsText bytes (Err fault)
HaveNotBoth most asking set other (refusal.Doubtful doubt) =
    (bytes : List ℕ) × (text : List ℕ) × IsReadFrom set bytes × IsReadUpTo most other text
    × IsDoubted asking bytes doubt
HaveNotBoth most asking set other (refusal.Chain fault) =
    (bytes : List ℕ) × (text : List ℕ) × IsReadFrom set bytes × IsReadUpTo most other text
    × IsUnchained asking bytes fault
HaveNotBoth most asking set other refusal.OutOfMemory = Unit {0}
HaveNotBoth most asking set other _ = ⊥
