-- Tasks that arrive on a clock, by the offsets of a chain.
use Rattle.std.specs.Prelude.{ℕ, Bool, true, false, ◌==◌, List}
use Rattle.std.specs.List.{list_any}
use Rattle.task_lines.specs.declared.owner.Owner.{Owner}
use Rattle.task_lines.specs.declared.owner.Owner.TheVariants.{Task as OwnedTask, Interrupt as OwnedInterrupt, Follower, Clocked}

-- it says that the task of this index does
abbrev pub puts_on_clock : Owner → ℕ → Bool
puts_on_clock (OwnedTask name team) task = false
puts_on_clock (OwnedInterrupt team) task = false
puts_on_clock (Follower name place) task = false
puts_on_clock (Clocked own) task = own == task

-- it says so of some task
abbrev pub is_on_clock : Owner → Bool
is_on_clock (OwnedTask name team) = false
is_on_clock (OwnedInterrupt team) = false
is_on_clock (Follower name place) = false
is_on_clock (Clocked own) = true

-- the task of this index does
abbrev pub is_clocked : List Owner → ℕ → Bool
is_clocked owners task = list_any (λ o. puts_on_clock o task) owners

-- any does
abbrev pub has_clock : List Owner → Bool
has_clock owners = list_any is_on_clock owners
