-- The aims of a chain, one by one.
use Rattle.std.proofs.Common.{◌≡◌, ℕ, zero, suc, ◌+◌, ◌-◌, ◌*◌, ◌/◌, ◌%◌, ◌<◌, ◌≤◌, inl, inr, List, [], ◌∷◌, ◌++◌, length, All, Option, Some, None}
use Rattle.std.proofs.Common.{refl, sym, ◌∙◌, ap, subst, append_assoc, arith}
use Rattle.std.specs.Prelude.{unwrap_or}
use Rattle.std.specs.Int.{next_multiple_of}
use Rattle.std.proofs.Math.Nat.{add-mul-mod_self_right, mod_self, mod-eq_of_lt, mul-mod_left, suc-mul}
use Rattle.std.proofs.lemmas.Nat.{div-add-mod', mod_below}
use Rattle.std.proofs.lemmas.Bool.{cases_eq}
use Rattle.std.proofs.lemmas.List.{append-nil}
use Rattle.task_sheet.proofs.Common.{Task}
use Rattle.chains.specs.Walks.{arrivals, starts_of}
use Rattle.chains.specs.declared.bounds.Level.{Level}
use Rattle.chains.specs.declared.walks.Step.{Step}
use Rattle.chain_worst.specs.Aims.{AreAims, IsAim, aim_time, end_of, round_of}
use Rattle.chain_worst.specs.Laws.{AimsAreAtOffsets, IsAtOffset}
use Rattle.chain_worst.specs.declared.aims.Aim.{Aim}

-- what holds of all of a list holds of all behind its first
-- an aim arrives no sooner than what it reads
aim_late : (offset : Option ℕ) (period time : ℕ) → time ≤ aim_time offset period time
aim_late None period time = omega arith
aim_late (Some offset) period time = omega arith

-- a run ends no sooner than something comes to its first task
pub end_late : (steps : List Step) (time : ℕ) → time ≤ end_of steps time
end_late [] time = omega arith
end_late (s ∷ steps) time = omega (
  arith,
  aim_late s.offset s.period time,
  end_late steps (aim_time s.offset s.period time + s.delay),
)

-- The aims of some tasks stand in a list. Whatever the aims of the rest are, they go on with these.
pub record AreSoFar (U : List Task) (levels : List Level) (steps : List Step) (begin : ℕ) (tasks : List ℕ) (walk : List Step)
    (time : ℕ) (rest : List ℕ) (aims : List Aim) : Type 0 where
  pub goes_on : (others : List Aim) → AreAims U levels walk time rest others
      → AreAims U levels steps begin tasks (aims ++ others)
  pub room : end_of walk time ≤ 60000000
  pub within : All (λ k. k < length U) rest

pub so_far_first : {U : List Task} {levels : List Level} {steps : List Step} {begin : ℕ} {tasks : List ℕ} {aims : List Aim}
    → aims ≡ [] → end_of steps begin ≤ 60000000 → All (λ k. k < length U) tasks
    → AreSoFar U levels steps begin tasks steps begin tasks aims
so_far_first none room within =
    rw none (record { goes_on = λ others are. are; room = room; within = within })

module _ {U : List Task} {levels : List Level} {steps : List Step} {begin time i : ℕ} {tasks others : List ℕ}
    {s : Step} {walk : List Step} {aims : List Aim}
    (are : AreSoFar U levels steps begin tasks (s ∷ walk) time (i ∷ others) aims) where
  pub in_set : i < length U
  in_set = are.within 0 0 (omega arith)

  pub so_far_soon : aim_time s.offset s.period time + s.delay ≤ 60000000
  so_far_soon = omega (arith, are.room, end_late walk (aim_time s.offset s.period time + s.delay))

  pub so_far_next : {m : Aim} {then : List Aim} {next : ℕ} → IsAim U levels i (aim_time s.offset s.period time) m
      → then ≡ aims ++ m ∷ [] → next ≡ aim_time s.offset s.period time + s.delay
      → AreSoFar U levels steps begin tasks walk next others then
  so_far_next {m} {then} {next} is pushed later = record {
    goes_on = λ more rest.
        subst (λ xs. AreAims U levels steps begin tasks xs)
        (sym (ap (λ xs. xs ++ more) pushed ∙ append_assoc aims (m ∷ []) more))
        (are.goes_on (m ∷ more) (is, rw later at rest));
    room = rw later are.room;
    within = λ k d lt. are.within (suc k) d (omega (arith, lt));
  }

-- none is left where no step is, or no task
pub so_far_walked : {U : List Task} {levels : List Level} {steps : List Step} {begin time : ℕ} {tasks rest : List ℕ}
    {walk : List Step} {aims : List Aim}
    → AreSoFar U levels steps begin tasks walk time rest aims → length walk ≡ 0
    → AreAims U levels steps begin tasks aims
so_far_walked {U} {levels} {steps} {begin} {time} {tasks} {rest} {walk = []} {aims} are none =
    subst (λ xs. AreAims U levels steps begin tasks xs) (append-nil aims) (are.goes_on [] refl)
so_far_walked {walk = s ∷ walk} are none = absurd (omega (arith, none))

pub so_far_all : {U : List Task} {levels : List Level} {steps : List Step} {begin time : ℕ} {tasks rest : List ℕ}
    {s : Step} {walk : List Step} {aims : List Aim}
    → AreSoFar U levels steps begin tasks (s ∷ walk) time rest aims → length rest ≡ 0
    → AreAims U levels steps begin tasks aims
so_far_all {U} {levels} {steps} {begin} {time} {tasks} {rest = []} {s} {walk} {aims} are none =
    subst (λ xs. AreAims U levels steps begin tasks xs) (append-nil aims) (are.goes_on [] refl)
so_far_all {rest = x ∷ rest} are none = absurd (omega (arith, none))

-- ---- rounds
length_arrivals : (first period many : ℕ) → length (arrivals first period many) ≡ many
length_arrivals first period zero = refl
length_arrivals first period (suc many) = omega (arith, length_arrivals (first + period) period many)

pub round_is : (steps others : List Step) (s : Step) (first period count : ℕ) → steps ≡ s ∷ others
    → Some (arrivals first period count) ≡ starts_of steps → count * s.period ≡ round_of steps
round_is steps others s first period count front is =
    let at : Some (arrivals first period count) ≡ starts_of (s ∷ others) = rw front at is in
    let long : length (unwrap_or (starts_of (s ∷ others)) []) ≡ count =
    ap (λ (o : Option (List ℕ)). length (unwrap_or o [])) (sym at) ∙ length_arrivals first period count in
    rw front (ap (λ n. n * s.period) (sym long))

-- ---- offsets
-- the least multiple at a time or later is whole periods
whole : (x y : ℕ) → 0 < y → next_multiple_of x y % y ≡ 0
whole x y some =
    let split : x / y * y + x % y ≡ x = div-add-mod' x y in
    let below : x % y < y = mod_below x y some in
    elim (cases_eq (x % y) 0) [
      | inl none ↦
          let all : y - x % y ≡ y = omega arith in
          let rest : (y - x % y) % y ≡ 0 = ap (λ z. z % y) all ∙ mod_self y in
          let is : next_multiple_of x y ≡ x / y * y = omega arith in
          ap (λ z. z % y) is ∙ mul-mod_left (x / y) y
      | inr part ↦
          let rest : (y - x % y) % y ≡ y - x % y = mod-eq_of_lt (omega arith) in
          let is : next_multiple_of x y ≡ suc (x / y) * y = omega (arith, suc-mul (x / y) y) in
          ap (λ z. z % y) is ∙ mul-mod_left (suc (x / y)) y
    ]

at_offset : (o : Option ℕ) (period time arrival : ℕ) → arrival ≡ aim_time o period time
    → IsAtOffset o period arrival
at_offset None period time arrival is = tt
at_offset (Some offset) period time arrival is = λ below.
    let n : ℕ = next_multiple_of (time - offset) period in
    let none : n % period ≡ 0 = whole (time - offset) period (omega (arith, below)) in
    let split : n / period * period + n % period ≡ n = div-add-mod' n period in
    let on : arrival ≡ offset + n / period * period = omega (arith, is) in
    ap (λ t. t % period) on ∙ add-mul-mod_self_right offset (n / period) period ∙ mod-eq_of_lt below

pub at_offsets : AimsAreAtOffsets
at_offsets U levels [] time tasks aims are = tt
at_offsets U levels (s ∷ steps) time [] [] are = tt
at_offsets U levels (s ∷ steps) time [] (m ∷ aims) are = absurd cc
at_offsets U levels (s ∷ steps) time (i ∷ others) [] are = tt
at_offsets U levels (s ∷ steps) time (i ∷ others) (m ∷ aims) are = (
  at_offset s.offset s.period time m.arrival are.0.arrival,
  at_offsets U levels steps (aim_time s.offset s.period time + s.delay) others aims are.1,
)
