-- What a job holds after a tick in which it locks or unlocks.
use Rattle.std.proofs.Common.{ℕ, suc, ◌+◌, ◌<◌, ◌≡◌, ◌⊎◌, inl, inr, refl, sym, arith, true, false}
use Rattle.std.proofs.Common.{◌==◌}
use Rattle.std.proofs.Common.{◌||◌, max, List, [], ◌∷◌}
use Rattle.std.proofs.lemmas.Bool.{cases_lt, cases_Bool, true≢false, or_cases, eqb-true}
use Rattle.task_sheet.specs.Sheet.{CriticalSection}
use Rattle.ceiling_kernel.proofs.Common.{Node, is_inside, held_ceiling, AreApart}
use Rattle.ceiling_kernel.proofs.SectionLaws.{inside_true, outside_before, outside_after}
use Rattle.ceiling_kernel.proofs.LockLaws.{held_before}
use Rattle.posix_lists.specs.ThreadLists.{changes_locks}

-- before it executes a job holds nothing
pub held_start : (node : Node) (ss : List CriticalSection) → held_ceiling node ss 0 ≡ 0
held_start node [] = refl
held_start node (s ∷ ss) =
    let out : is_inside s 0 ≡ false = outside_before s 0 (omega arith) in
    rw out (omega (arith, held_start node ss))

-- where locks change, a section begins or ends
changes_at : (s : CriticalSection) (ss : List CriticalSection) (e : ℕ)
    → changes_locks (s ∷ ss) e ≡ true
    → (s.at ≡ e) ⊎ ((s.at + s.len ≡ e + 1) ⊎ (changes_locks ss e ≡ true))
changes_at s ss e h =
    elim (or_cases ((s.at == e) || (s.at + s.len == e + 1)) (changes_locks ss e) h) [
      | inl here ↦ elim (or_cases (s.at == e) (s.at + s.len == e + 1) here) [
        | inl begins ↦ inl (eqb-true s.at e begins)
        | inr ends ↦ inr (inl (eqb-true (s.at + s.len) (e + 1) ends))
      ]
      | inr later ↦ inr (inr later)
    ]

-- sections that begin later neither begin nor end in this tick
later_changes : (begin x : ℕ) (ss : List CriticalSection) (e : ℕ) → AreApart begin ss x → e < begin
    → changes_locks ss e ≡ true → ⊥
later_changes begin x [] e apart lt h = true≢false (sym h)
later_changes begin x (s ∷ ss) e apart lt h = elim (changes_at s ss e h) [
  | inl begins ↦ omega (arith, apart.0, begins)
  | inr other ↦ elim other [
    | inl ends ↦ omega (arith, apart.0, apart.1, ends)
    | inr later ↦ later_changes (s.at + s.len) x ss e apart.2 (omega (arith, apart.0)) later
  ]
]

-- one that is inside of a section, and takes its sections one after the other, leaves it then
pub left_after : (node : Node) (begin x : ℕ) (ss : List CriticalSection) (e : ℕ) → AreApart begin ss
    x → changes_locks ss e ≡ true → 0 < held_ceiling node ss e → held_ceiling node ss (suc e) ≡ 0
left_after node begin x [] e apart h some = absurd (omega arith)
left_after node begin x (s ∷ ss) e apart h some =
    elim (cases_Bool (is_inside s e)) [
      | inl inside ↦
          let b : (s.at < e) × (e < s.at + s.len) = inside_true s e inside in
          elim (changes_at s ss e h) [
            | inl begins ↦ absurd (omega (arith, b.0, begins))
            | inr other ↦ elim other [
              | inl ends ↦ rw (outside_after s (suc e) (omega (arith, ends))) (omega (
                arith,
                held_before node (s.at + s.len) x ss (suc e) apart.2 (omega (arith, ends)),
              ))
              | inr later ↦ absurd (later_changes (s.at + s.len) x ss e apart.2 b.1 later)
            ]
          ]
      | inr outside ↦
          let some' : 0 < max 0 (held_ceiling node ss e) = rw outside at some in
          elim (cases_lt (s.at + s.len) e) [
            | inr before ↦
                absurd (omega (arith, held_before node (s.at + s.len) x ss e apart.2 before))
            | inl past ↦ elim (changes_at s ss e h) [
              | inl begins ↦ absurd (omega (arith, begins))
              | inr other ↦ elim other [
                | inl ends ↦ absurd (omega (arith, ends))
                | inr later ↦ rw (outside_after s (suc e) (omega arith)) (omega (
                  arith,
                  left_after node (s.at + s.len) x ss e apart.2 later (omega arith),
                ))
              ]
            ]
          ]
    ]
