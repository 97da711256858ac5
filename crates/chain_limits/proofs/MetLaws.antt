-- To ask less at the same periods makes no chain's bound greater; nor, where its tasks write at their deadlines, does anything
-- that leaves these as they are.
use Rattle.std.proofs.Common.{◌≡◌, ℕ, ◌+◌, ◌<◌, ◌≤◌, inl, inr, Bool, true, false, ◌==◌, List, [], ◌∷◌}
use Rattle.std.proofs.Common.{length, drop, Option, Some, None, cond, refl, sym, ◌∙◌, ap, subst, arith}
use Rattle.std.specs.List.{AllZip, list_all}
use Rattle.std.proofs.lemmas.Bool.{cases_Bool, eqb-true, ltb-true, true≢false}
use Rattle.task_sheet.proofs.Common.{Task, task_at, Indexes, among, all_of, IsTaskSet, IsPassingOrder}
use Rattle.task_sheet.proofs.Common.{below, demand_of, IsResponseOf}
use Rattle.task_sheet.proofs.IndexLaws.{IsOrderOf-among}
use Rattle.ceiling_kernel.specs.Bounds.{after_of}
use Rattle.chains.specs.Gaps.{gap_of}
use Rattle.chains.specs.Parts.{bound_in, has_response, order_of, time_in}
use Rattle.chains.specs.Walks.{IsNoLonger, bound_by, steps_with}
use Rattle.chains.proofs.LongestLaws.{no_longer_law}
use Rattle.chains.specs.declared.bounds.Level.{Level}
use Rattle.chains.specs.declared.bounds.Writes.{Writes}
use Rattle.chains.specs.declared.bounds.Writes.TheVariants.{AtFinish, AtDeadline}
use Rattle.least_chains.specs.LeastBound.{ArePassing, HaveResponses, HasResponse, least_time, part_in}
use Rattle.least_chains.specs.LeastBound.{parts_in}
use Rattle.least_chains.proofs.AboveLaws.{after-part}
use Rattle.least_chains.proofs.PartLaws.{own-response, part-is, passing-levels}
use Rattle.least_chains.proofs.StepLaws.{also-bound}
use Rattle.other_numbers.specs.Easier.{AreEasier}
use Rattle.other_numbers.proofs.EasierLaws.{IsPassingOrder-easier}
use Rattle.chain_limits.specs.Reaches.{HasSameTimes, IsMetIn}
use Rattle.chain_limits.proofs.LessLaws.{demand-apart, demand-own, left-no_more}
use Rattle.chain_limits.proofs.LessLaws.{response-no_more, spared}

-- ---- who has a response
has-some : (U : List Task) (i : ℕ) (H : Indexes) (o : Option ℕ) → HasResponse U i H o
    → (r : ℕ) × (o ≡ Some r)
has-some U i H None is = absurd is
has-some U i H (Some r) is = (r, refl)

-- those of the order have a response
has-named : (U : List Task) (levels : List Level) (i : ℕ) → HaveResponses U levels
    → has_response levels i ≡ among (order_of levels) i
has-named U [] i all = refl
has-named U (l ∷ levels) i all = elim (cases_Bool (l.task == i)) [
  | inl own ↦
      let here = has-some U l.task (among (order_of levels)) l.response all.0 in
      rw (own, here.1) refl
  | inr ne ↦ rw ne (has-named U levels i all.1)
]

-- in an order that passes these are the tasks of the set
pub has-task : (U : List Task) (levels : List Level) (i : ℕ) → ArePassing U levels
    → has_response levels i ≡ all_of U i
has-task U levels i are = has-named U levels i are.each
    ∙ ap (λ (X : Indexes). X i) (IsOrderOf-among (all_of U) (order_of levels) are.order.each_once)

-- ---- a bound, or none
told : (b : Bool) (o : Option ℕ) (bound : ℕ) → cond b o None ≡ Some bound → (b ≡ true) × (o ≡ Some bound)
told true o bound is = (refl, is)
told false o bound is = absurd cc

same-gaps : (writes : Writes) (s t : Task) → HasSameTimes writes s t → gap_of s ≡ gap_of t
same-gaps AtFinish s t same = same
same-gaps AtDeadline s t same = same.0

-- the tasks that have a response are those of the set
pub have-tasks : (U : List Task) (levels : List Level) → ArePassing U levels → has_response levels ≡ all_of U
have-tasks U levels are = λ x i. has-task U levels i are x

-- ---- a set in an order that passes, and another one with the same times in the same order
module _ (writes : Writes) (V U : List Task) (set_V : IsTaskSet V) (count : length V ≡ length U)
    (times : (k : ℕ) → HasSameTimes writes (task_at V k) (task_at U k)) where
  module _ (light heavy : List Level) (are_V : ArePassing V light) (are_U : ArePassing U heavy)
      (parts : (i : ℕ) (others : List ℕ) → i < length U
      → part_in writes V light i others ≤ part_in writes U heavy i others) where
    no-longer : (offsets tasks : List ℕ) → list_all (has_response heavy) tasks ≡ true
        → AllZip IsNoLonger (steps_with V offsets (parts_in writes V light tasks) tasks)
        (steps_with U offsets (parts_in writes U heavy tasks) tasks)
    no-longer offsets [] all = tt
    no-longer offsets (i ∷ others) all = elim (cases_Bool (has_response heavy i)) [
      | inr out ↦ absurd (true≢false (sym all ∙ rw out refl))
      | inl has ↦ (
        record {
          period = same-gaps writes (task_at V i) (task_at U i) (times i);
          offset = refl;
          delay = parts i others (ltb-true i (length U) (sym (has-task U heavy i are_U) ∙ has));
        },
        no-longer (drop 1 offsets) others (rw has at all),
      )
    ]

    same-all : (tasks : List ℕ) → list_all (has_response light) tasks ≡ list_all (has_response heavy) tasks
    same-all tasks = ap (λ f. list_all f tasks)
        (have-tasks V light are_V ∙ (ap below count ∙ sym (have-tasks U heavy are_U)))

    bound-no_more : (offsets tasks : List ℕ) (bound : ℕ) → bound_in writes offsets U heavy tasks ≡ Some bound
        → (b : ℕ) × (bound_in writes offsets V light tasks ≡ Some b) × (b ≤ bound)
    bound-no_more offsets tasks bound is =
        let steps = steps_with V offsets (parts_in writes V light tasks) tasks in
        let others = steps_with U offsets (parts_in writes U heavy tasks) tasks in
        let (all, comes) = told (list_all (has_response heavy) tasks) (bound_by others) bound is in
        let zipped : AllZip IsNoLonger steps others = no-longer offsets tasks all in
        let (b, now) = also-bound steps others bound zipped comes in (
          b,
          ap (λ c. cond c (bound_by steps) None) (same-all tasks ∙ all) ∙ now,
          no_longer_law steps others b bound zipped now comes,
        )

  -- no part is greater: nor is the bound
  met-by : (offsets order tasks : List ℕ) (limit : ℕ) → IsPassingOrder V order
      → (met : IsMetIn writes offsets order tasks limit U)
      → ((light : List Level) → ArePassing V light → order_of light ≡ order
      → (i : ℕ) (others : List ℕ) → i < length U
      → part_in writes V light i others ≤ part_in writes U met.levels i others)
      → IsMetIn writes offsets order tasks limit V
  met-by offsets order tasks limit passing met parts =
      let (levels, same, are) = passing-levels V set_V order passing in
      let (b, comes, le) = bound-no_more levels met.levels are met.passing (parts levels are same)
      offsets tasks met.bound met.comes in
      record {
        levels = levels;
        passing = are;
        same = same;
        bound = b;
        comes = comes;
        within = omega (arith, le, met.within);
      }

-- written at deadlines a chain is met wherever the order passes
pub met-kept : (V U : List Task) → IsTaskSet V → length V ≡ length U
    → ((k : ℕ) → HasSameTimes AtDeadline (task_at V k) (task_at U k))
    → (offsets order tasks : List ℕ) (limit : ℕ) → IsPassingOrder V order
    → IsMetIn AtDeadline offsets order tasks limit U → IsMetIn AtDeadline offsets order tasks limit V
met-kept V U set count times offsets order tasks limit passing met =
    met-by AtDeadline V U set count times offsets order tasks limit passing met
    (λ light are same i others within. omega (arith, (times i).1))

-- ---- to ask less
module _ (V U : List Task) (set_V : IsTaskSet V) (set_U : IsTaskSet U) (easy : AreEasier V U) where
  -- what a task's part comes to below the same tasks
  time-no_more : (i : ℕ) (H : Indexes) (r s : ℕ) → i < length U
      → ((c : ℕ) → H c ≡ true → c < length U) → IsResponseOf V i H r → IsResponseOf U i H s
      → (others : List ℕ) → least_time V i H r others ≤ least_time U i H s others
  time-no_more i H r s within inside first second [] =
      response-no_more V U set_V set_U easy i H r s within first second
  time-no_more i H r s within inside first second (c ∷ others) = elim (cases_Bool (c == i)) [
    | inl own ↦
        let less = left-no_more V U set_V set_U easy i c H r s within first second (λ t from.
        subst (λ k. demand_of V i H t + spared V U set_V set_U easy k ≤ demand_of U i H t)
        (sym (eqb-true c i own)) (demand-own V U set_V set_U easy i H t)) in
        rw own (omega (arith, less))
    | inr ne ↦ elim (cases_Bool (H c)) [
      | inl is ↦
          let less = left-no_more V U set_V set_U easy i c H r s within first second (λ t from.
          demand-apart V U set_V set_U easy i c H t (inside c is) is from) in
          rw (ne, is) (omega (arith, less))
      | inr out ↦ rw (ne, out) (omega (arith, (easy.each i).jitter))
    ]
  ]

  module _ (light heavy : List Level) (are_V : ArePassing V light) (are_U : ArePassing U heavy)
      (same : order_of light ≡ order_of heavy) where
    -- a task above one in the order is one of the set
    above-inside : (i c : ℕ) → among (after_of (order_of heavy) i) c ≡ true → c < length U
    above-inside i c is = ltb-true c (length U)
        (sym (ap (λ (X : Indexes). X c) (IsOrderOf-among (all_of U) (order_of heavy) are_U.order.each_once))
        ∙ after-part (order_of heavy) i c is)

    finish-no_more : (i : ℕ) (others : List ℕ) → i < length U
        → part_in AtFinish V light i others ≤ part_in AtFinish U heavy i others
    finish-no_more i others within =
        let inside : i < length V = omega (arith, within, easy.count) in
        let H = among (after_of (order_of heavy) i) in
        let mine : part_in AtFinish V light i others ≡ least_time V i H (time_in light i) others =
        subst
        (λ o. part_in AtFinish V light i others ≡ least_time V i (among (after_of o i)) (time_in light i) others)
        same (part-is V set_V light are_V i inside others) in
        let first : IsResponseOf V i H (time_in light i) =
        subst (λ o. IsResponseOf V i (among (after_of o i)) (time_in light i)) same
        (own-response V set_V light are_V i inside) in
        omega (
          arith,
          mine,
          part-is U set_U heavy are_U i within others,
          time-no_more i H (time_in light i) (time_in heavy i) within (above-inside i) first
              (own-response U set_U heavy are_U i within) others,
        )

    part-no_more : (writes : Writes) → ((k : ℕ) → HasSameTimes writes (task_at V k) (task_at U k))
        → (i : ℕ) (others : List ℕ) → i < length U
        → part_in writes V light i others ≤ part_in writes U heavy i others
    part-no_more AtFinish times i others within = finish-no_more i others within
    part-no_more AtDeadline times i others within = omega (arith, (times i).1)

  pub met-easier : (writes : Writes) (offsets order tasks : List ℕ) (limit : ℕ)
      → ((k : ℕ) → HasSameTimes writes (task_at V k) (task_at U k))
      → IsMetIn writes offsets order tasks limit U → IsMetIn writes offsets order tasks limit V
  met-easier writes offsets order tasks limit times met =
      let passing = IsPassingOrder-easier V U easy order
      (subst (λ o. IsPassingOrder U o) met.same met.passing.order) in
      met-by writes V U set_V easy.count times offsets order tasks limit passing met
      (λ light are same. part-no_more light met.levels are met.passing (same ∙ sym met.same) writes times)
