-- Tasks whose jobs come exactly a period apart. Of some it is known when the first arrives.
use Rattle.std.specs.Prelude.{ℕ, ◌==◌, Bool, List, [], ◌∷◌, Option, None, if◌then◌else◌}
use Rattle.std.specs.List.{list_any}
use Rattle.std.specs.Option.{option_or}
use Rattle.release_list.specs.declared.steady.SteadyTask.{SteadyTask}

-- the task of a rank is one of them
abbrev pub is_steady : List SteadyTask → (rank : ℕ) → Bool
is_steady steady rank = list_any (λ s. s.task == rank) steady

-- the first of its offsets that are known
abbrev pub offset_in : List SteadyTask → (rank : ℕ) → Option ℕ
offset_in [] rank = None
offset_in (s ∷ steady) rank =
    if s.task == rank then option_or s.offset (offset_in steady rank) else offset_in steady rank
