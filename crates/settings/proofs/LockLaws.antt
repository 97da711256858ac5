-- Each lock of a set has a user, and so a ceiling in each order.
use Rattle.std.proofs.Common.{◌≡◌, ℕ, ◌<◌, inl, inr, ◌⊎◌, true, List, [], ◌∷◌}
use Rattle.std.proofs.Common.{length, fold, flat_map, Option, Some, None, refl, sym, ◌∙◌, ap}
use Rattle.std.proofs.Math.Bool.{or-false}
use Rattle.std.proofs.Math.Path.{fun_ext}
use Rattle.std.specs.List.{list_any}
use Rattle.std.specs.Cmp.Lexicographic.{nat_list_eq_equiv}
use Rattle.std.proofs.lemmas.Bool.{cases_Bool, true≢false, both_ways, or_cases, or_left, or_right}
use Rattle.std.proofs.lemmas.List.{get_or_default}
use Rattle.std.proofs.lemmas.List.Folds.{Any-from_list_any, list_any-append}
use Rattle.task_sheet.proofs.Common.{Task, no_task, same_bytes, task_at, uses, ceiling_of, IsOrder}
use Rattle.task_sheet.proofs.CeilingLaws.{ceiling-none}
use Rattle.ceilings.proofs.Growth.{any_within}
use Rattle.ceilings.specs.IsTableOf.{with_name, names_in, locks_of}

module _ (lock : List ℕ) where
  abbrev Has : List (List ℕ) → Type 0
  Has names = list_any (same_bytes lock) names ≡ true

  -- a name that is seen is one of the names
  seen_from : (names seen : List (List ℕ)) → Has (fold with_name seen names) → Has seen ⊎ Has names
  seen_from [] seen h = inl h
  seen_from (q ∷ names) seen h = elim (seen_from names (with_name seen q) h) [
    | inl early ↦ elim (cases_Bool (list_any (same_bytes q) seen)) [
      | inl old ↦ inl (rw old at early)
      | inr new ↦ elim (or_cases (list_any (same_bytes lock) seen) (same_bytes lock q)
          (rw (new, list_any-append (same_bytes lock) seen (q ∷ []), or-false (same_bytes lock q))
          at early)) [
            | inl old ↦ inl old
            | inr here ↦
                inr (or_left (same_bytes lock q) (list_any (same_bytes lock) names) here)
          ]
    ]
    | inr later ↦ inr (or_right (same_bytes lock q) (list_any (same_bytes lock) names) later)
  ]

  -- some task uses a lock that a set names
  named_used : (U : List Task)
      → list_any (same_bytes lock) (names_in U) ≡ list_any (λ t. uses t lock) U
  named_used U =
      ap (λ p. list_any p (names_in U)) (fun_ext (λ name. nat_list_eq_equiv.symm lock name))
      ∙ any_within (λ name. same_bytes name lock) (λ (t : Task). flat_map (λ s. s.locks) t.sections) U
      ∙ ap (λ p. list_any p U) (fun_ext (λ (t : Task).
      any_within (λ name. same_bytes name lock) (λ s. s.locks) t.sections))

  some_uses : (U : List Task) → Has (locks_of U) → (k : ℕ) × (k < length U)
      × (uses (task_at U k) lock ≡ true)
  some_uses U h = elim (seen_from (names_in U) [] h) [
    | inl never ↦ absurd (true≢false (sym never))
    | inr named ↦
        let user = Any-from_list_any (λ t. uses t lock) U (sym (named_used U) ∙ named) in
        let same = get_or_default U user.0 no_task user.1 user.2 ∙ user.3 in
        (user.0, user.2, rw same user.4)
  ]

  pub has_ceiling : (U : List Task) (order : List ℕ) → IsOrder U order → Has (locks_of U)
      → (level : ℕ) × (ceiling_of U order lock ≡ Some level)
  has_ceiling U order each h = by (ceiling_of U order lock) refl
    where
      by : (o : Option ℕ) → ceiling_of U order lock ≡ o → (level : ℕ)
          × (ceiling_of U order lock ≡ Some level)
      by (Some level) e = (level, e)
      by None e = let user = some_uses U h in absurd (both_ways (uses (task_at U user.0) lock)
          ((ceiling-none U lock order each).0 e user.0 user.1) user.2)
