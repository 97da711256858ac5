-- What a put does to an outlet.
use Rattle.std.specs.Prelude.{⊤, ◌≡◌, ℕ, List, Option, Result}
use Rattle.streams.specs.Sending.{Writes}
use Rattle.streams.specs.declared.watched.WriteFailed.{WriteFailed}
use Rattle.streams.specs.declared.outlet.Outlet.{Outlet}

-- the text was written to the outlet's writer, behind what is held back; it is the same writer
pub record Puts {W : Type 0} (contents : W → Option (List ℕ))
    (old new : Outlet W) (result : Result ⊤ WriteFailed) (text : List ℕ) : Type 0 where
  pub writes : Writes contents old.out.now old.held new.out.now new.held result text
  pub same : new.out.ghost_name ≡ old.out.ghost_name
