-- What became of the inputs of a call.
use Rattle.std.specs.Prelude.{◌≡◌, ◌⊎◌, Option, Some, None, IsSome, true}
use Rattle.streams.specs.Watching.{WatchedData}
use Rattle.streams.specs.Inputs.{IsDisturbed}
use Rattle.command_line.specs.declared.calls.Input.{Input}
use Rattle.command_line.specs.declared.calls.Call.{Call}
use Rattle.command_line.specs.declared.calls.Call.TheVariants.{One, Two, Number}

-- the input is one that may not be opened, and there is no reader of it; or a read of it failed or was interrupted
abbrev pub IsUnread : {S : Type 0} → (Input → Type 0) → Input → Option (WatchedData S) → Type 0
IsUnread refused input None = refused input
IsUnread refused input (Some reader) = IsDisturbed reader

-- this holds of an input that the call names, with its reader
abbrev pub AreUnread : {S : Type 0} → (Input → Type 0) → Call → Option (WatchedData S)
    → Option (WatchedData S) → Type 0
AreUnread refused (One command input options) first second = IsUnread refused input first
AreUnread refused (Two command one other options) first second =
    IsUnread refused one first ⊎ IsUnread refused other second
AreUnread refused (Number command input number options) first second =
    IsUnread refused input first

-- each input that the call names has its reader
abbrev pub AreOpened : {S : Type 0} → Call → Option (WatchedData S) → Option (WatchedData S)
    → Type 0
AreOpened (One command input options) first second = IsSome first
AreOpened (Two command one other options) first second = IsSome first × IsSome second
AreOpened (Number command input number options) first second = IsSome first

-- a read of it failed
abbrev pub HasFailed : {S : Type 0} → Option (WatchedData S) → Type 0
HasFailed None = ⊥
HasFailed (Some reader) = reader.has_failed ≡ true
