-- No job waits for a lock.
use Rattle.std.proofs.Common.{ℕ, zero, suc, ◌+◌, ◌<◌, ◌≤◌, ◌≡◌, ◌⊎◌, inl, inr, refl, sym, ap, arith}
use Rattle.std.proofs.Common.{Bool, true, false, ◌==◌, ◌&&◌, List, [], ◌∷◌, Some, None}
use Rattle.std.proofs.lemmas.Bool.{cases_eq, cases_Bool, true≢false, and_parts, or_cases, or_right}
use Rattle.std.proofs.lemmas.Bool.{eq-eqb, eqb-true}
use Rattle.std.specs.List.{list_any}
use Rattle.task_sheet.proofs.Common.{CriticalSection, names_lock}
use Rattle.ceiling_kernel.proofs.Common.{Node, Job, job_at, executed_before, picked, is_inside}
use Rattle.ceiling_kernel.proofs.Common.{held_ceiling, AreApart, TakeTurns}
use Rattle.ceiling_kernel.specs.Waits.{holds_lock, asks_lock, AskAnew}
use Rattle.ceiling_kernel.proofs.BehaviourLaws.{turns_apart}
use Rattle.ceiling_kernel.proofs.SectionLaws.{inside_true, inside_from, outside_before}
use Rattle.ceiling_kernel.proofs.SectionLaws.{outside_after}
use Rattle.ceiling_kernel.proofs.MachineLaws.{picked_is, pending_parts, start_of, idle_of, other_of}

-- before the sections begin nothing is held or asked for
pub holds_before : (begin cost : ℕ) (ss : List CriticalSection) (e : ℕ) (q : List ℕ)
    → AreApart begin ss cost → e ≤ begin → holds_lock ss e q ≡ false
holds_before begin cost [] e q apart h = refl
holds_before begin cost (s ∷ ss) e q apart h =
    let out : is_inside s e ≡ false = outside_before s e (omega arith) in
    rw out (holds_before (s.at + s.len) cost ss e q apart.2 (omega arith))

pub held_before : (node : Node) (begin cost : ℕ) (ss : List CriticalSection) (e : ℕ)
    → AreApart begin ss cost → e ≤ begin → held_ceiling node ss e ≡ 0
held_before node begin cost [] e apart h = refl
held_before node begin cost (s ∷ ss) e apart h =
    let out : is_inside s e ≡ false = outside_before s e (omega arith) in
    let ih = held_before node (s.at + s.len) cost ss e apart.2 (omega arith) in
    rw out (omega arith)

asks_after : (begin cost : ℕ) (ss : List CriticalSection) (e : ℕ) (r : List ℕ)
    → AreApart begin ss cost → asks_lock ss e r ≡ true → begin ≤ e
asks_after begin cost [] e r apart h = absurd (true≢false (sym h))
asks_after begin cost (s ∷ ss) e r apart h =
    elim (or_cases ((s.at == e) && names_lock s r) (asks_lock ss e r) h) [
      | inl here ↦ omega (arith, eqb-true s.at e ((and_parts (s.at == e) (names_lock s r) here).0))
      | inr later ↦ omega (arith, asks_after (s.at + s.len) cost ss e r apart.2 later)
    ]

-- a job that asks holds nothing
pub holds_none_of : (begin cost : ℕ) (ss : List CriticalSection) (e : ℕ) (r q : List ℕ)
    → AreApart begin ss cost → asks_lock ss e r ≡ true → holds_lock ss e q ≡ false
holds_none_of begin cost [] e r q apart h = refl
holds_none_of begin cost (s ∷ ss) e r q apart h =
    elim (or_cases ((s.at == e) && names_lock s r) (asks_lock ss e r) h) [
      | inl here ↦
          let at_e : s.at ≡ e = eqb-true s.at e ((and_parts (s.at == e) (names_lock s r) here).0) in
          let out : is_inside s e ≡ false = outside_before s e (omega arith) in
          rw out (holds_before (s.at + s.len) cost ss e q apart.2 (omega arith))
      | inr later ↦
          let out : is_inside s e ≡ false = outside_after s e
          (asks_after (s.at + s.len) cost ss e r apart.2 later) in
          rw out (holds_none_of (s.at + s.len) cost ss e r q apart.2 later)
    ]

pub held_none_of : (node : Node) (begin cost : ℕ) (ss : List CriticalSection) (e : ℕ) (r : List ℕ)
    → AreApart begin ss cost → asks_lock ss e r ≡ true → held_ceiling node ss e ≡ 0
held_none_of node begin cost [] e r apart h = refl
held_none_of node begin cost (s ∷ ss) e r apart h =
    elim (or_cases ((s.at == e) && names_lock s r) (asks_lock ss e r) h) [
      | inl here ↦
          let at_e : s.at ≡ e = eqb-true s.at e ((and_parts (s.at == e) (names_lock s r) here).0) in
          let out : is_inside s e ≡ false = outside_before s e (omega arith) in
          let none = held_before node (s.at + s.len) cost ss e apart.2 (omega arith) in
          rw out (omega arith)
      | inr later ↦
          let out : is_inside s e ≡ false = outside_after s e
          (asks_after (s.at + s.len) cost ss e r apart.2 later) in
          rw out (omega (arith, held_none_of node (s.at + s.len) cost ss e r apart.2 later))
    ]

-- some section names the lock
abbrev pub some_names : List CriticalSection → List ℕ → Bool
some_names ss r = list_any (λ s. names_lock s r) ss

pub names_from_asks : (ss : List CriticalSection) (e : ℕ) (r : List ℕ) → asks_lock ss e r ≡ true
    → some_names ss r ≡ true
names_from_asks [] e r h = h
names_from_asks (s ∷ ss) e r h =
    elim (or_cases ((s.at == e) && names_lock s r) (asks_lock ss e r) h) [
      | inl here ↦
          (let c : names_lock s r ≡ true = (and_parts (s.at == e) (names_lock s r) here).1 in rw c)
      | inr later ↦ (elim (cases_Bool (names_lock s r))
          [ inl c ↦ rw c | inr c ↦ rw c (names_from_asks ss e r later) ])
    ]

pub names_from_holds : (ss : List CriticalSection) (e : ℕ) (r : List ℕ) → holds_lock ss e r ≡ true
    → some_names ss r ≡ true
names_from_holds [] e r h = h
names_from_holds (s ∷ ss) e r h =
    elim (or_cases (is_inside s e && names_lock s r) (holds_lock ss e r) h) [
      | inl here ↦ (let c = (and_parts (is_inside s e) (names_lock s r) here).1 in rw c)
      | inr later ↦ (elim (cases_Bool (names_lock s r))
          [ inl c ↦ rw c | inr c ↦ rw c (names_from_holds ss e r later) ])
    ]

-- who holds a lock after a tick held it before, or asked for it
pub holds_begins : (ss : List CriticalSection) (e : ℕ) (r : List ℕ) → holds_lock ss (suc e) r ≡ true
    → (holds_lock ss e r ≡ true) ⊎ (asks_lock ss e r ≡ true)
holds_begins [] e r h = absurd (true≢false (sym h))
holds_begins (s ∷ ss) e r h =
    elim (or_cases (is_inside s (suc e) && names_lock s r) (holds_lock ss (suc e) r) h) [
      | inl here ↦
          let p = and_parts (is_inside s (suc e)) (names_lock s r) here in
          let n : names_lock s r ≡ true = p.1 in
          let b : (s.at < suc e) × (suc e < s.at + s.len) = inside_true s (suc e) p.0 in
          elim (cases_eq s.at e) [
            | inl begins ↦ inr (rw (eq-eqb s.at e begins, n))
            | inr ne ↦ (let c = inside_from s e (omega arith) (omega arith) in inl (rw (c, n)))
          ]
      | inr later ↦ elim (holds_begins ss e r later) [
        | inl held ↦ inl (or_right (is_inside s e && names_lock s r) (holds_lock ss e r) held)
        | inr asks ↦ inr (or_right ((s.at == e) && names_lock s r) (asks_lock ss e r) asks)
      ]
    ]

-- a job that takes its sections in turn asks for no lock that it holds
pub anew_law : (jobs : List Job) → TakeTurns jobs → AskAnew jobs
anew_law jobs turns j e r asks = holds_none_of 0 (job_at jobs j).executes (job_at jobs j).sections e
    r r (turns_apart jobs turns j) asks

-- a job that has executed was ready before
pub began_strictly : (node : Node) (jobs : List Job) (t j : ℕ) → 0 < executed_before node jobs t j
    → (job_at jobs j).ready < t
began_strictly node jobs zero j h = absurd (omega (arith, start_of node jobs j))
began_strictly node jobs (suc t) j h =
    elim (picked node jobs t) as (λ r. picked node jobs t ≡ r → (job_at jobs j).ready < suc t) [
      | None ↦ λ e. (let s = idle_of node jobs t j e in let ih = began_strictly node jobs t j
          (omega arith) in omega arith)
      | Some p ↦ λ e. elim (cases_eq j p) [
        | inl same ↦
            omega (
              arith,
              pending_parts node jobs t p (picked_is node jobs t p e).is_pending,
              ap
                  (λ x. (job_at jobs x).ready) same,
            )
        | inr ne ↦ (let s = other_of node jobs t p j e ne in let ih = began_strictly node jobs t j
            (omega arith) in omega arith)
      ]
    ] refl
