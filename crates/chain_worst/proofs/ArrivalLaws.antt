-- When the jobs of a task arrive: a period apart, and those of a task with an aim exactly.
use Rattle.std.proofs.Common.{◌≡◌, ℕ, zero, suc, ◌+◌, ◌*◌, ◌%◌, ◌<◌, ◌≤◌, inl, inr, max, Option, Some, None, unwrap_or}
use Rattle.std.proofs.Common.{List, [], ◌∷◌, refl, arith}
use Rattle.std.proofs.Math.Nat.{suc-mul}
use Rattle.std.proofs.lemmas.Bool.{cases_eq, cases_lt, lt-ltb, le-ltb}
use Rattle.task_sheet.specs.Sheet.{Task}
use Rattle.chain_worst.specs.Arrivals.{window_of, in_window, against, next_by, own_aim, next_of, arrival_at}
use Rattle.chain_worst.specs.declared.aims.Aim.{Aim}
use Rattle.chain_worst.specs.declared.arrivals.Window.{Window}

-- ---- no job arrives before it may
in_window_from : (w : Option Window) (time other : ℕ) → time ≤ other → time ≤ unwrap_or (in_window w time) other
in_window_from None time other le = le
in_window_from (Some w) time other le = elim (cases_lt time w.to) [
  | inl less ↦ rw (lt-ltb time w.to less) (omega arith)
  | inr past ↦ rw (le-ltb time w.to past) le
]

against_from : (t : Task) (rank until : ℕ) (aims : List Aim) (time : ℕ) → time ≤ against t rank until aims time
against_from t rank until [] time = omega arith
against_from t rank until (m ∷ aims) time =
    in_window_from (window_of t rank until m) time (against t rank until aims time)
    (against_from t rank until aims time)

next_by_from : (own : Option Aim) (t : Task) (time other : ℕ) → time ≤ other → time ≤ next_by own t time other
next_by_from None t time other le = le
next_by_from (Some m) t time other le = omega arith

pub next_from : (t : Task) (rank until : ℕ) (aims : List Aim) (time : ℕ) → time ≤ next_of t rank until aims time
next_from t rank until aims time = next_by_from (own_aim rank aims) t time (against t rank until aims time)
    (against_from t rank until aims time)

-- ---- they come a period apart
pub next_arrival : (t : Task) (rank until : ℕ) (aims : List Aim) (k : ℕ)
    → arrival_at t rank until aims k + t.period ≤ arrival_at t rank until aims (suc k)
unfolding arrival_at
next_arrival t rank until aims k = next_from t rank until aims (arrival_at t rank until aims k + t.period)

pub arrivals_apart : (t : Task) (rank until : ℕ) (aims : List Aim) (j k : ℕ) → j < k
    → arrival_at t rank until aims j + t.period ≤ arrival_at t rank until aims k
arrivals_apart t rank until aims j zero lt = absurd (omega arith)
arrivals_apart t rank until aims j (suc k) lt = elim (cases_eq j k) [
  | inl same ↦ rw same (next_arrival t rank until aims k)
  | inr other ↦ omega (arith, next_arrival t rank until aims k, arrivals_apart t rank until aims j k (omega arith))
]

pub arrival_from : (t : Task) (rank until : ℕ) (aims : List Aim) (k : ℕ) → 0 < t.period
    → k ≤ arrival_at t rank until aims k
arrival_from t rank until aims zero some = omega arith
arrival_from t rank until aims (suc k) some =
    omega (arith, next_arrival t rank until aims k, arrival_from t rank until aims k some)

-- ---- those of a task with an aim
own_next : (own : Option Aim) (m : Aim) (t : Task) (time other : ℕ) → own ≡ Some m
    → next_by own t time other ≡ max time (m.arrival % t.period)
own_next own m t time other is = rw is refl

module _ (t : Task) (rank until : ℕ) (aims : List Aim) (m : Aim) (own : own_aim rank aims ≡ Some m) where
  least : (k : ℕ) → m.arrival % t.period ≤ arrival_at t rank until aims k
  unfolding arrival_at
  least zero =
      omega (arith, own_next (own_aim rank aims) m t 0 (against t rank until aims 0) own)
  least (suc k) =
      let time : ℕ = arrival_at t rank until aims k + t.period in
      omega (arith, own_next (own_aim rank aims) m t time (against t rank until aims time) own)

  pub exactly : (k : ℕ) → arrival_at t rank until aims (suc k) ≡ arrival_at t rank until aims k + t.period
  unfolding arrival_at
  exactly k =
      let time : ℕ = arrival_at t rank until aims k + t.period in
      omega (arith, least k, own_next (own_aim rank aims) m t time (against t rank until aims time) own)

  pub at_phase : (k : ℕ) → arrival_at t rank until aims k ≡ m.arrival % t.period + k * t.period
  unfolding arrival_at
  at_phase zero =
      omega (arith, own_next (own_aim rank aims) m t 0 (against t rank until aims 0) own)
  at_phase (suc k) = omega (arith, exactly k, at_phase k, suc-mul k t.period)
