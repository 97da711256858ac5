-- Jobs of a steady task come exactly a period apart in a random list, from its offset on, where that is known.
use Rattle.std.proofs.Common.{◌≡◌, ℕ, zero, suc, ◌+◌, ◌*◌, ◌/◌, ◌==◌, Bool, true, false, if◌then◌else◌, List, [], ◌∷◌}
use Rattle.std.proofs.Common.{Some, IsTrue, refl, ◌∙◌, ap, arith}
use Rattle.task_sheet.specs.Sheet.{Task, task_at}
use Rattle.release_list.specs.Random.{word_after, drawn, third_after, gap_after, pace_of, word_of, arrival_at}
use Rattle.release_list.specs.Steady.{is_steady, offset_in}
use Rattle.release_list.specs.declared.random_list.Pace.{Pace}
use Rattle.release_list.specs.declared.steady.SteadyTask.{SteadyTask}

-- below 0 nothing is drawn
none_drawn : (w : ℕ) → drawn w 0 ≡ 0
unfolding drawn
none_drawn w =
    let half : (w / 4294967296) * 0 ≡ 0 = omega arith in
    ap (λ v. v / 4294967296) half

none_chosen : (b : Bool) (w : ℕ) → (if b then drawn w 0 else 0) ≡ 0
none_chosen true w = none_drawn w
none_chosen false w = refl

-- without a spread
gap_is : (t : Task) (third : ℕ) → gap_after t 0 third ≡ t.period
gap_is t third = omega (
  arith,
  none_chosen (drawn (word_after third) 4 == 0) (word_after (word_after third)),
)

apart_at : (t : Task) (pace : Pace) (x k : ℕ) → pace.spread ≡ 0
    → arrival_at t pace x (suc k) ≡ arrival_at t pace x k + t.period
unfolding arrival_at
apart_at t pace x k none =
    let third : ℕ = third_after (word_of x k) in
    ap (λ s. arrival_at t pace x k + gap_after t s third) none
    ∙ ap (λ gap. arrival_at t pace x k + gap) (gap_is t third)

pub steady_apart : (U : List Task) (steady : List SteadyTask) (i x k : ℕ) → IsTrue (is_steady steady i)
    → arrival_at (task_at U i) (pace_of (task_at U i) steady i) x (suc k)
    ≡ arrival_at (task_at U i) (pace_of (task_at U i) steady i) x k + (task_at U i).period
steady_apart U steady i x k is =
    apart_at (task_at U i) (pace_of (task_at U i) steady i) x k (rw is refl)

-- ---- offsets
-- a task whose offset is known is steady
known_steady : (steady : List SteadyTask) (i offset : ℕ) → offset_in steady i ≡ Some offset
    → IsTrue (is_steady steady i)
known_steady [] i offset is = absurd cc
known_steady (s ∷ steady) i offset is = by (s.task == i) refl (known_steady steady i offset)
  where
    by : (b : Bool) → (s.task == i) ≡ b
        → (offset_in steady i ≡ Some offset → IsTrue (is_steady steady i))
        → IsTrue (is_steady (s ∷ steady) i)
    by true own more = rw own refl
    by false other more = rw other (more (rw other at is))

pub on_clock : (U : List Task) (steady : List SteadyTask) (i offset x k : ℕ) → offset_in steady i ≡ Some offset
    → arrival_at (task_at U i) (pace_of (task_at U i) steady i) x k ≡ offset + k * (task_at U i).period
unfolding arrival_at
on_clock U steady i offset x zero is = rw is (omega arith)
on_clock U steady i offset x (suc k) is =
    let apart = steady_apart U steady i x k (known_steady steady i offset is) in
    let before = on_clock U steady i offset x k is in
    omega (arith, apart, before)
