-- What a writer got, and what is held back for it.
use Rattle.std.specs.Prelude.{⊤, ◌≡◌, ℕ, true, List, Option, Result, OnOk, OnErr}
use Rattle.std.specs.Io.KnownBytes.{Appends, append_known}
use Rattle.streams.specs.Watching.{WatchedData}
use Rattle.streams.specs.declared.watched.WriteFailed.{WriteFailed}

-- the bytes of the writer, and then those that are held back, grew by these
abbrev pub Sends : Option (List ℕ) → List ℕ → Option (List ℕ) → List ℕ → List ℕ → Type 0
Sends old before new after text = Appends (append_known old before) (append_known new after) text

-- what the writer has, and then what is held back, grew by the text, and the flag stays; or the
-- writer has failed
pub record Writes {W : Type 0} (contents : W → Option (List ℕ))
    (old : WatchedData W) (before : List ℕ) (new : WatchedData W) (after : List ℕ)
    (result : Result ⊤ WriteFailed) (text : List ℕ) : Type 0 where
  pub sent : OnOk result (Sends (contents old.inner) before (contents new.inner) after text)
  pub ok : OnOk result (new.has_failed ≡ old.has_failed)
  pub failed : OnErr result (new.has_failed ≡ true)
