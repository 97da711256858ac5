-- The numbers that the certificate of a verdict gives to chains: they are bounds, and have at most ten digits.
use Rattle.std.proofs.Common.{◌≡◌, ℕ, ◌*◌, ◌<◌, ◌≤◌, ◌==◌, true, false, nat_lt}
use Rattle.std.proofs.Common.{List, [], ◌∷◌, length, map, Some, refl, ◌∙◌, ap, arith}
use Rattle.std.proofs.Common.{inl, inr}
use Rattle.std.specs.Prelude.{is_some, unwrap_or}
use Rattle.std.specs.List.{AllByRecursion, list_all}
use Rattle.std.proofs.Math.Path.{fun_ext}
use Rattle.std.proofs.lemmas.Bool.{cases_Bool, cases_eq, eq-eqb, ne_eqb, le-leb, lt-ltb, both_ways}
use Rattle.std.proofs.lemmas.Option.{same_Some}
use Rattle.task_sheet.proofs.Common.{Task, task_at, IsTaskSet, Indexes, among, all_of, IsOrderOf}
use Rattle.task_sheet.proofs.Common.{LevelData, VerdictData, Admitted, Infeasible, order_of}
use Rattle.task_sheet.proofs.Common.{IsVerdictOf, AllReady, IsPart, without_index}
use Rattle.task_sheet.proofs.IndexLaws.{IsOrderOf-among, IsOrderOf-head, IsOrderOf-rest, without-part_of}
use Rattle.task_sheet.proofs.TaskLaws.{AllTasks-from_set, valid_at}
use Rattle.task_sheet.proofs.VerdictLaws.{IsBestOrder-ready}
use Rattle.std.proofs.lemmas.Bool.{ltb-true}
use Rattle.ceiling_kernel.proofs.Common.{Node, level_in_order, node_in}
use Rattle.chains.specs.Parts as parts
use Rattle.chains.specs.Bounds.{bound_of, handed_within, written_within}
use Rattle.chains.specs.Gaps.{gap_of}
use Rattle.chains.specs.Handovers.{handover}
use Rattle.chains.specs.Walks.{bound_by}
use Rattle.chains.specs.Parts.{afters_of, bound_in, has_response, time_in}
use Rattle.chains.proofs.OffsetLaws.{offsets_law}
use Rattle.chains.specs.declared.bounds.BoundPart.{BoundPart}
use Rattle.chains.specs.declared.bounds.Writes.{Writes}
use Rattle.chains.specs.declared.bounds.Writes.TheVariants.{AtFinish, AtDeadline}
use Rattle.chain_tables.specs.Chains.{ChainData}
use Rattle.certificate.specs.Body.{IsChainText, IsShort}
use Rattle.cert_checker.specs.Ages as ages
use Rattle.cert_checker.specs.Ages.{covers_chain, steps_in}
use Rattle.chains.proofs.LongestLaws.{bound_some, delays_keep_starts}
use Rattle.cert_checker.specs.Numbers.{IsChainOf, level_at, numbered, numbers_of}

-- ---- the levels with their responses
same-order : (levels : List LevelData) → parts.order_of (map level_at levels) ≡ order_of levels
same-order [] = refl
same-order (l ∷ levels) = ap (λ (ks : List ℕ). l.task ∷ ks) (same-order levels)

same-time : (levels : List LevelData) (i : ℕ)
    → time_in (map level_at levels) i ≡ ages.response_in levels i
same-time [] i = refl
same-time (l ∷ levels) i = elim (cases_Bool (l.task == i)) [
  | inl own ↦ rw own refl
  | inr other ↦ rw other (same-time levels i)
]

has-one : (levels : List LevelData) (i : ℕ) → among (order_of levels) i ≡ true
    → has_response (map level_at levels) i ≡ true
has-one [] i is = absurd (both_ways false refl is)
has-one (l ∷ levels) i is = elim (cases_eq l.task i) [
  | inl own ↦ (let so = eq-eqb l.task i own in rw so refl)
  | inr ne ↦ (let so = ne_eqb l.task i ne in rw so (has-one levels i (rw so at is)))
]

module _ (U : List Task) (levels : List LevelData) (each : IsOrderOf (all_of U) (order_of levels)) where
  have-all : (tasks : List ℕ) → AllByRecursion (λ i. i < length U) tasks
      → list_all (has_response (map level_at levels)) tasks ≡ true
  have-all [] known = refl
  have-all (i ∷ tasks) known =
      let named : among (order_of levels) i ≡ true =
      ap (λ (X : Indexes). X i) (IsOrderOf-among (all_of U) (order_of levels) each)
      ∙ lt-ltb i (length U) known.0 in
      rw (has-one levels i named) (have-all tasks known.1)

  -- the bound of a chain of the set's tasks is that of the levels
  pub bound-is : (c : ChainData) → IsChainOf U c
      → bound_in c.writes c.offsets U (map level_at levels) c.tasks ≡ bound_by (steps_in U levels c)
  bound-is c is =
      let times : time_in (map level_at levels) ≡ ages.response_in levels =
      fun_ext (same-time levels) in
      rw (have-all c.tasks is.known, same-order levels, times) refl

  -- it has one
  pub has-bound : (c : ChainData) → IsChainOf U c
      → (bound : ℕ) × (bound_by (steps_in U levels c) ≡ Some bound)
  has-bound c is = bound_some (steps_in U levels c) (ap is_some (delays_keep_starts U c.offsets
      (map (λ (p : BoundPart). p.time) (afters_of c.writes (node_in U (order_of levels)) (ages.response_in levels) c.tasks))
      [] c.tasks) ∙ is.begins)

  -- so its number is enough
  pub number-enough : (c : ChainData) → IsChainOf U c
      → covers_chain U levels c (numbered U (map level_at levels) c).number ≡ true
  number-enough c is =
      let (bound, some) = has-bound c is in
      rw (bound-is c is, some) (le-leb bound bound (omega arith))

-- ---- few digits
-- each response of an order is at most the longest period
module _ (U : List Task) (set : IsTaskSet U) where
  are-short : (L : Indexes) (levels : List LevelData) → IsOrderOf L (order_of levels)
      → IsPart L (all_of U) → AllReady U L levels
      → AllByRecursion (λ (l : LevelData). l.response ≤ 10000000) levels
  are-short L [] each part ready = tt
  are-short L (l ∷ levels) each part ready =
      let lt : l.task < length U = ltb-true l.task (length U)
      (part l.task (IsOrderOf-head L l.task (order_of levels) each)) in
      let valid = valid_at U l.task set lt in (
        omega (arith, ready.0.positive, ready.0.within, valid.deadline_to, valid.period_to, valid.jitter),
        are-short (without_index L l.task) levels (IsOrderOf-rest L l.task (order_of levels) each)
            (without-part_of (length U) L l.task part) ready.1,
      )

  response-short : (levels : List LevelData) (i : ℕ)
      → AllByRecursion (λ (l : LevelData). l.response ≤ 10000000) levels
      → ages.response_in levels i ≤ 10000000
  response-short [] i short = omega arith
  response-short (l ∷ levels) i short = elim (cases_Bool (l.task == i)) [
    | inl own ↦ rw own short.0
    | inr other ↦ rw other (response-short levels i short.1)
  ]

  module _ (node : Node) (same : node.tasks ≡ U) (response : ℕ → ℕ)
      (short : (i : ℕ) → response i ≤ 10000000) where
    handed-short : (i c : ℕ) → i < length U → handover node i c (response i) ≤ 10000000
    handed-short i c lt =
        let valid = valid_at U i set lt in
        elim (cases_Bool (nat_lt (level_in_order node c) (level_in_order node i))) [
          | inl is ↦ rw (is, same) (omega (arith, valid.jitter, valid.deadline_to, valid.period_to))
          | inr is ↦ rw is (omega (arith, short i))
        ]

    written-short : (writes : Writes) (i : ℕ) → i < length U
        → written_within writes node i (response i) ≤ 10000000
    written-short AtFinish i lt = short i
    written-short AtDeadline i lt =
        let valid = valid_at U i set lt in
        rw same (omega (arith, valid.deadline_to, valid.period_to))

    handed-within : (writes : Writes) (i c : ℕ) → i < length U
        → handed_within writes node i c (response i) ≤ 10000000
    handed-within AtFinish i c lt = handed-short i c lt
    handed-within AtDeadline i c lt =
        let valid = valid_at U i set lt in
        rw same (omega (arith, valid.deadline_to, valid.period_to))

    bound-short : (writes : Writes) (i : ℕ) (others : List ℕ)
        → AllByRecursion (λ i. i < length U) (i ∷ others)
        → bound_of writes node response i others ≤ length (i ∷ others) * 20000000
    bound-short writes i [] known =
        let gap : gap_of (task_at node.tasks i) ≤ 10000000 = rw same (valid_at U i set known.0).period_to in
        omega (arith, gap, written-short writes i known.0)
    bound-short writes i (c ∷ others) known =
        let gap : gap_of (task_at node.tasks i) ≤ 10000000 = rw same (valid_at U i set known.0).period_to in
        omega (arith, gap, handed-within writes i c known.0, bound-short writes c others known.1)

  chain-short : (levels : List LevelData) → IsOrderOf (all_of U) (order_of levels)
      → AllReady U (all_of U) levels → (c : ChainData) → IsChainOf U c → (bound : ℕ)
      → bound_by (steps_in U levels c) ≡ Some bound → bound ≤ 160000000
  chain-short levels each ready c is bound some = by c.tasks refl
    where
      by : (tasks : List ℕ) → c.tasks ≡ tasks → bound ≤ 160000000
      by [] are =
          let none : Some 0 ≡ Some bound = rw are at some in
          let same = same_Some 0 bound none in
          omega (arith, same)
      by (i ∷ others) are =
          let short = are-short (all_of U) levels each (λ k h. h) ready in
          let node = node_in U (order_of levels) in
          let known : AllByRecursion (λ i. i < length U) (i ∷ others) = rw are at is.known in
          let few : length (i ∷ others) ≤ 8 = rw are at is.few in
          let no_longer = offsets_law c.writes c.offsets node (ages.response_in levels) i others bound
          (rw are at some) in
          let fits = bound-short node refl (ages.response_in levels)
          (λ i. response-short levels i short) c.writes i others known in
          omega (arith, no_longer, fits, few)

  pub sum-short : (levels : List LevelData) → IsOrderOf (all_of U) (order_of levels)
      → AllReady U (all_of U) levels → (c : ChainData) → IsChainOf U c
      → IsShort (unwrap_or (bound_in c.writes c.offsets U (map level_at levels) c.tasks) 0)
  sum-short levels each ready c is =
      let (bound, some) = has-bound U levels each c is in
      rw (bound-is U levels each c is, some)
      (omega (arith, chain-short levels each ready c is bound some))

  numbers-each : (levels : List LevelData) → IsOrderOf (all_of U) (order_of levels)
      → AllReady U (all_of U) levels → (chains : List ChainData)
      → AllByRecursion (IsChainOf U) chains
      → AllByRecursion IsChainText (map (numbered U (map level_at levels)) chains)
  numbers-each levels each ready [] are = tt
  numbers-each levels each ready (c ∷ chains) are = (
    record { name = are.0.named; short = sum-short levels each ready c are.0 },
    numbers-each levels each ready chains are.1,
  )

  pub numbers-plain : (chains : List ChainData) (v : VerdictData)
      → AllByRecursion (IsChainOf U) chains → IsVerdictOf U v
      → AllByRecursion IsChainText (numbers_of U chains v)
  numbers-plain chains (Admitted levels) are h =
      let ready = IsBestOrder-ready U (AllTasks-from_set U set) levels h in
      numbers-each levels ready.each_once ready.ready chains are
  numbers-plain chains (Infeasible members) are h = tt
