-- A set with what a lighter node takes asks no more of whoever is below others.
use Rattle.std.proofs.Common.{◌≡◌, ℕ, zero, suc, ◌+◌, ◌*◌, ◌<◌, ◌≤◌, inl, inr, false, cond}
use Rattle.std.proofs.Common.{None, List, [], ◌∷◌, length, refl, sym, ◌∙◌, ap, arith}
use Rattle.std.proofs.Math.Nat.{mul-le-mul, mul-le-mul_right}
use Rattle.std.specs.Int.{div_ceil}
use Rattle.std.specs.List.{AllZip}
use Rattle.std.proofs.lemmas.Grind.{common_steps}
use Rattle.std.proofs.lemmas.Bool.{cases_Bool, cases_eq, cases_lt, ltb-true}
use Rattle.task_sheet.proofs.Common.{CriticalSection, Task, no_overhead, task_at, calls}
use Rattle.task_sheet.proofs.Common.{IsTaskSet, Indexes, IsPart, among, below, without_index}
use Rattle.task_sheet.proofs.Common.{sum_below, blocking_of, demand_of, interference_of}
use Rattle.task_sheet.proofs.Common.{interrupts_of, interrupts_within, releases_within, Passes, limit_of}
use Rattle.task_sheet.proofs.Common.{all_of, AllStand, IsOrderOf, IsPassingOrder, IsFeasible}
use Rattle.task_sheet.specs.declared.node.Node.{Node}
use Rattle.task_sheet.proofs.Below.{sum_below-both, sum_below-le}
use Rattle.task_sheet.proofs.IndexLaws.{without-gone, without-part_of, IsOrderOf-among}
use Rattle.task_sheet.proofs.IndexLaws.{IsOrderOf-head, IsOrderOf-rest}
use Rattle.task_sheet.proofs.Releases.{div_ceil-mono}
use Rattle.task_sheet.proofs.TaskLaws.{valid_at}
use Rattle.overheads.specs.Padding.{padded_sections, padded_cost, padded_task, padded}
use Rattle.overheads.specs.Padding.{padding_fault, IsUnpadded, IsLighter}
use Rattle.overheads.proofs.PaddedSections.{calls-mono}
use Rattle.overheads.proofs.PaddedTasks.{cost-mono}
use Rattle.overheads.proofs.PaddedSets.{count-padded, padded-at, padded-past, padded-none, lightest}
use Rattle.other_numbers.specs.Easier.{IsShorter}
use Rattle.other_numbers.proofs.EasierLaws.{kept-le, blocking-less, must_outrank_any-same}

-- of sums with one term more each, where one term is no more together with that
pub sum_below-own : (n : ℕ) (f g : ℕ → ℕ) (i a b : ℕ) → i < n
    → ((k : ℕ) → k < n → (k ≡ i → ⊥) → f k ≤ g k) → a + f i ≤ b + g i
    → a + sum_below n f ≤ b + sum_below n g
sum_below-own zero f g i a b lt le own = absurd (omega (arith, lt))
sum_below-own (suc n) f g i a b lt le own = elim (cases_eq i n) [
  | inl e ↦ omega (
    arith,
    own,
    ap f e,
    ap g e,
    sum_below-le n f g (λ k l. le k (omega (arith, l)) (λ same. omega (arith, same, l, e))),
  )
  | inr ne ↦ omega (
    arith,
    le n (omega arith) (λ same. ne (sym same)),
    sum_below-own n f g i a b (omega (arith, lt, ne)) (λ k l. le k (omega (arith, l))) own,
  )
]

-- ---- sets that differ in what the node takes
shorter-padded : (light heavy : Node) (from from' : ℕ) (xs : List CriticalSection) → light.lock
    ≤ heavy.lock → AllZip (IsShorter ◌≤◌) (padded_sections light from xs) (padded_sections heavy from' xs)
shorter-padded light heavy from from' [] le = tt
shorter-padded light heavy from from' (x ∷ xs) le = (
  record { locks = refl; len = omega (arith, calls-mono light heavy x le) },
  shorter-padded light heavy
      (from + calls light x) (from' + calls heavy x) xs le,
)

-- what a task takes of a window in all: its jobs, where it is above, its timer and its interrupts
abbrev taken : List Task → Indexes → ℕ → ℕ → ℕ
taken U H t k = cond (H k) (interference_of (task_at U k) t) 0 + interrupts_of t (task_at U k)

demand-taken : (U : List Task) (i : ℕ) (H : Indexes) (t : ℕ) → demand_of U i H t
    ≡ (task_at U i).cost + blocking_of U i H + sum_below (length U) (taken U H t)
unfolding demand_of interrupts_within
demand-taken U i H t = omega (
  arith,
  sum_below-both (length U) (λ k. cond (H k) (interference_of (task_at U k) t) 0)
      (λ k. interrupts_of t (task_at U k)),
)

-- ---- one task
module _ (light heavy : Node) (is : IsLighter light heavy) (x : Task) (t : ℕ) where
  abbrev n : ℕ
  n = releases_within (padded_task light x) t

  abbrev m : ℕ
  m = releases_within (padded_task heavy x) t

  fewer : n ≤ m
  fewer = div_ceil-mono (t + (x.jitter + light.late)) (t + (x.jitter + heavy.late)) x.period
      (omega (arith, is.late))

  -- its jobs together with its timer
  above : interference_of (padded_task light x) t + interrupts_of t (padded_task light x)
      ≤ interference_of (padded_task heavy x) t + interrupts_of t (padded_task heavy x)
  above =
      let each : padded_cost light x + light.release ≤ padded_cost heavy x + heavy.release =
      omega (arith, cost-mono light heavy x 1 is (omega arith)) in
      let all : n * (padded_cost light x + light.release)
      ≤ m * (padded_cost heavy x + heavy.release) = mul-le-mul fewer each in
      let low : n * (padded_cost light x + light.release)
      ≡ n * padded_cost light x + n * light.release = grind arith in
      let high : m * (padded_cost heavy x + heavy.release)
      ≡ m * padded_cost heavy x + m * heavy.release = grind arith in
      omega (arith, all, low, high)

  -- its timer
  below-others : interrupts_of t (padded_task light x) ≤ interrupts_of t (padded_task heavy x)
  below-others = omega (arith, mul-le-mul fewer is.release)

  -- its cost together with its timer, which comes once at least
  own : 1 ≤ n → padded_cost light x + interrupts_of t (padded_task light x)
      ≤ padded_cost heavy x + interrupts_of t (padded_task heavy x)
  own some = omega (arith, cost-mono light heavy x n is some, mul-le-mul_right heavy.release fewer)

-- ---- a set
module _ (U : List Task) (light heavy : Node) (set : IsTaskSet U) (is : IsLighter light heavy) where
  abbrev V : List Task
  V = padded light U

  abbrev W : List Task
  W = padded heavy U

  same-count : length V ≡ length W
  same-count = count-padded light U ∙ sym (count-padded heavy U)

  near : (k : ℕ) → ((task_at V k).name ≡ (task_at W k).name) × ((task_at V k).outranks
      ≡ (task_at W k).outranks) × AllZip (IsShorter ◌≤◌) (task_at V k).sections (task_at W k).sections
  near k = elim (cases_lt k (length U)) [
    | inl lt ↦ rw (padded-at light U k lt, padded-at heavy U k lt)
        (refl, refl, shorter-padded light heavy _ _ (task_at U k).sections is.lock)
    | inr past ↦ rw (padded-past light U k past, padded-past heavy U k past) (refl, refl, tt)
  ]

  taken-less : (H : Indexes) (t k : ℕ) → k < length U → taken V H t k ≤ taken W H t k
  taken-less H t k lt =
      rw (padded-at light U k lt, padded-at heavy U k lt) (elim (cases_Bool (H k)) [
        | inl so ↦ rw so (above light heavy is (task_at U k) t)
        | inr so ↦ rw so (omega (arith, below-others light heavy is (task_at U k) t))
      ])

  own-less : (H : Indexes) (t i : ℕ) → i < length U → H i ≡ false → 1 ≤ t
      → (task_at V i).cost + taken V H t i ≤ (task_at W i).cost + taken W H t i
  own-less H t i lt out pos =
      let x = task_at U i in
      let valid = valid_at U i set lt in
      let some : 1 ≤ releases_within (padded_task light x) t = once (t + (x.jitter + light.late))
      x.period (omega (arith, pos)) (omega (arith, valid.period_from)) in
      rw (padded-at light U i lt, padded-at heavy U i lt, out)
      (omega (arith, own light heavy is x t some))
    where
      once : (t p : ℕ) → 1 ≤ t → 0 < p → 1 ≤ div_ceil t p
      once t p pos some = grind (arith, common_steps)

  pub demand-padded : (i : ℕ) (H : Indexes) (t : ℕ) → i < length U → H i ≡ false → 1 ≤ t
      → demand_of V i H t ≤ demand_of W i H t
  demand-padded i H t lt out pos =
      let few : i < length V = omega (arith, lt, count-padded light U) in
      let each : (k : ℕ) → k < length V → taken V H t k ≤ taken W H t k =
      λ k l. taken-less H t k (omega (arith, l, count-padded light U)) in
      let sums = sum_below-own (length V) (taken V H t) (taken W H t) i (task_at V i).cost
      (task_at W i).cost few (λ k l _. each k l) (own-less H t i lt out pos) in
      let count : sum_below (length V) (taken W H t) ≡ sum_below (length W) (taken W H t) =
      ap (λ n. sum_below n (taken W H t)) same-count in
      omega (
        arith,
        demand-taken V i H t,
        demand-taken W i H t,
        blocking-less ◌≤◌ kept-le V W same-count (λ k. (near k).2) i H,
        sums,
        count,
      )

  Passes-padded : (i : ℕ) (H : Indexes) → i < length U → H i ≡ false → Passes W i H → Passes V i H
  Passes-padded i H lt out (t, positive, within, covers) =
      let later : limit_of (task_at W i) ≤ limit_of (task_at V i) =
      rw (padded-at light U i lt, padded-at heavy U i lt) (omega (arith, is.late)) in (
        t,
        positive,
        omega (arith, later, within),
        omega (arith, demand-padded i H t lt out positive, covers),
      )

  AllStand-padded : (L : Indexes) (order : List ℕ) → IsPart L (all_of U) → IsOrderOf L order
      → AllStand W order → AllStand V order
  AllStand-padded L [] part each all = tt
  AllStand-padded L (i ∷ above) part each all =
      let rest = IsOrderOf-rest L i above each in
      let lt : i < length U = ltb-true i (length U) (part i (IsOrderOf-head L i above each)) in
      let out : among above i ≡ false = ap (λ (X : Indexes). X i)
      (IsOrderOf-among (without_index L i) above rest) ∙ without-gone L i i refl in (
        (
          Passes-padded i (among above) lt out all.0.0,
          must_outrank_any-same V W same-count (λ k. (near k).0) (λ k. (near k).1) i (among above)
              ∙ all.0.1,
        ),
        AllStand-padded (without_index L i) above (without-part_of (length U) L i part) rest all.1,
      )

  pub order-padded : (order : List ℕ) → IsPassingOrder W order → IsPassingOrder V order
  order-padded order passing =
      let each : IsOrderOf (all_of U) order = λ k. passing.each_once k
      ∙ ap (λ n. cond (below n k) 1 0) (count-padded heavy U) in
      record {
        each_once = λ k. each k ∙ ap (λ n. cond (below n k) 1 0) (sym (count-padded light U));
        each_stands = AllStand-padded (all_of U) order (λ k h. h) each passing.each_stands;
      }

  pub feasible-padded : IsFeasible W → IsFeasible V
  feasible-padded feasible = (feasible.0, order-padded feasible.0 feasible.1)

pub IsFeasible-plain : (U : List Task) (node : Node) → IsTaskSet U → IsUnpadded U
    → padding_fault node U ≡ None → IsFeasible (padded node U) → IsFeasible U
IsFeasible-plain U node set none room feasible =
    rw (padded-none U none) at (feasible-padded U no_overhead node set (lightest node) feasible)
