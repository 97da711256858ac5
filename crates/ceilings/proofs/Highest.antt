-- The ceiling of a lock in an order, found task by task.
use Rattle.std.proofs.Common.{◌≡◌, ℕ, ◌+◌, ◌<◌, Bool, true, false, cond, List, [], ◌∷◌, ◌++◌}
use Rattle.std.proofs.Common.{length, take, length-take-le, get_or, Option, Some, None, refl, sym}
use Rattle.std.proofs.Common.{◌∙◌, arith}
use Rattle.std.proofs.lemmas.List.{take_more}
use Rattle.std.specs.Option.{option_or}
use Rattle.task_sheet.proofs.Common.{Task, task_at, uses, ceiling_from, ceiling_of}
use Rattle.task_sheet.proofs.OptionLaws.{option_or-none, option_or-assoc}

module _ (U : List Task) (lock : List ℕ) where
  ceiling_push : (level : ℕ) (order : List ℕ) (i : ℕ)
      → ceiling_from level U (order ++ i ∷ []) lock
      ≡ option_or (cond (uses (task_at U i) lock) (Some (level + length order)) None)
      (ceiling_from level U order lock)
  ceiling_push level [] i =
      let here : level + 0 ≡ level = omega arith in
      rw here (sym (option_or-none _))
  ceiling_push level (j ∷ order) i =
      let here : (level + 1) + length order ≡ level + length (j ∷ order) = omega arith in
      rw (ceiling_push (level + 1) order i, here)
      (option_or-assoc (cond (uses (task_at U i) lock) (Some (level + length (j ∷ order))) None)
      (ceiling_from (level + 1) U order lock) (cond (uses (task_at U j) lock) (Some level) None))

  -- one step of a loop over the order
  pub ceiling_more : (order : List ℕ) (k i : ℕ) (b : Bool) (highest next : Option ℕ)
      → k < length order → i ≡ get_or order k i → b ≡ uses (task_at U i) lock
      → highest ≡ ceiling_of U (take k order) lock → next ≡ cond b (Some (k + 1)) highest
      → next ≡ ceiling_of U (take (k + 1) order) lock
  ceiling_more order k i b highest next lt is test so e =
      let long : 1 + length (take k order) ≡ k + 1 =
      omega (arith, length-take-le k order (omega arith)) in
      e ∙ rw (take_more order k i lt, ← is, ceiling_push 1 (take k order) i, long, ← test, ← so)
      (chosen b)
    where
      chosen : (b : Bool) → cond b (Some (k + 1)) highest
          ≡ option_or (cond b (Some (k + 1)) None) highest
      chosen true = refl
      chosen false = refl
