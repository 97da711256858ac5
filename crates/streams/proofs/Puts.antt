-- Puts one after the other.
use Rattle.std.proofs.Common.{ℕ, List, ◌++◌, ◌∙◌, Option}
use Rattle.std.specs.Prelude.{⊤, Result, Ok}
use Rattle.streams.specs.Puts.{Puts}
use Rattle.streams.specs.declared.outlet.Outlet.{Outlet}
use Rattle.streams.specs.declared.watched.WriteFailed.{WriteFailed}
use Rattle.streams.proofs.Writes.{writes_both}

-- two texts, the last of which may have failed
pub puts_both : {W : Type 0} {contents : W → Option (List ℕ)} {a b c : Outlet W} {u : ⊤}
    {r : Result ⊤ WriteFailed} {xs ys : List ℕ}
    → Puts contents a b (Ok u) xs → Puts contents b c r ys → Puts contents a c r (xs ++ ys)
puts_both one two =
    record { writes = writes_both one.writes two.writes; same = two.same ∙ one.same }
