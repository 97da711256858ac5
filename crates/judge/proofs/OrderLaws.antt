-- How an order is judged: in one way, and as passing where it passes.
use Rattle.std.proofs.Common.{◌≡◌, ◌∙◌, ℕ, zero, suc, ◌+◌, ◌<◌, ◌≤◌, inl, inr, Bool, true, false, ◌||◌, ◌==◌}
use Rattle.std.proofs.Common.{List, [], ◌∷◌, ◌++◌, map, length, get_or, drop, refl, sym, ap, subst}
use Rattle.std.proofs.lemmas.List.{drop_more}
use Rattle.std.proofs.Common.{arith}
use Rattle.std.specs.List.Sorted.{IsStrictlyIncreasing}
use Rattle.std.proofs.lemmas.Bool.{both_ways, cases_eq, cases_order, ne_eqb, true≢false, and_parts}
use Rattle.std.proofs.lemmas.Bool.{and_from, eq-eqb, ltb-true, or_right}
use Rattle.std.proofs.lemmas.List.Folds.{list_any_at}
use Rattle.task_sheet.proofs.Common.{Task, AllTasks, task_at, Indexes, among, with_index, without_index, IsPart}
use Rattle.task_sheet.proofs.Common.{IsResponseOf, Passes, all_of, must_outrank_any, Stands, AllStand}
use Rattle.task_sheet.proofs.Common.{IsOrderOf, IsLeastOver}
use Rattle.task_sheet.proofs.Common.{demand_of, limit_of}
use Rattle.task_sheet.proofs.ResponseLaws.{IsFullChain-one}
use Rattle.task_sheet.proofs.PassingLaws.{IsResponseOf-one, must_outrank_any-at, Passes-iff_response}
use Rattle.task_sheet.proofs.IndexLaws.{IsOrderOf-among, IsOrderOf-head, IsOrderOf-rest}
use Rattle.task_sheet.proofs.IndexLaws.{without-member, without-part_of}
use Rattle.assignment.specs.Places.{PlaceData}
use Rattle.assignment.specs.Placings.{AllRespond, IsBestPlacing, tasks_of_places}
use Rattle.judge.specs.Judgements.{AllJudged, IsJudgementOf, IsNeeded, all_meet, does_meet}
use Rattle.judge.specs.Judgements.{judged_of}
use Rattle.judge.specs.Judgements.{order_judged}
use Rattle.judge.specs.SettingFaults.{thread_number}
use Rattle.judge.specs.SettingLines.{heights, threads_of}
use Rattle.judge.specs.Node.{IsNodeOrderBy}
use Rattle.judge.specs.declared.judging.JudgedTask.{JudgedTask}
use Rattle.judge.specs.declared.judging.Judgement.{Judgement}
use Rattle.judge.specs.declared.judging.Judgement.TheVariants.{Meets, Misses, Below}

-- ---- the last number of a list
last_in : ℕ → List ℕ → ℕ
last_in found [] = found
last_in found (x ∷ xs) = last_in x xs

last_from : (found : ℕ) (rest : List ℕ) (before last : ℕ)
    → last_in found (rest ++ before ∷ last ∷ []) ≡ last
unfolding last_in
last_from found [] before last = refl
last_from found (x ∷ rest) before last = last_from x rest before last

last_of : (rest : List ℕ) (before last : ℕ) → last_in 0 (rest ++ before ∷ last ∷ []) ≡ last
last_of rest before last = last_from 0 rest before last

-- ---- one task
module _ (U : List Task) (i : ℕ) (H : Indexes) where
  -- a response within the deadline is a time within the limit that covers its demand
  meets_passes : (r : ℕ) → IsResponseOf U i H r → r ≤ (task_at U i).deadline → Passes U i H
  meets_passes r response le =
      (_, response.positive, omega (arith, le), omega (arith, response.fixed))

  bound_over : (k : ℕ) → IsLeastOver U i H k → must_outrank_any U i H ≡ true
  bound_over k over = must_outrank_any-at U i H k over.in_set over.above over.named

  least_one : (j k : ℕ) → IsLeastOver U i H j → IsLeastOver U i H k → j ≡ k
  least_one j k first second = elim (cases_order j k) [
    | inl e ↦ e
    | inr (inl lt) ↦ absurd (both_ways _ (second.least j lt first.above) first.named)
    | inr (inr lt) ↦ absurd (both_ways _ (first.least k lt second.above) second.named)
  ]

  -- a full chain is one, and so is its last number
  one_need : (m n : ℕ) → IsNeeded U i H m → IsNeeded U i H n → m ≡ n
  one_need m n a b =
      let chains = IsFullChain-one (demand_of U i H) (limit_of (task_at U i)) a.chain b.chain a.full
      b.full in
      let ends = sym a.ends.1 ∙ chains ∙ b.ends.1 in
      let last : a.last ≡ b.last = sym (last_of a.ends.0 a.before a.last)
      ∙ ap (λ xs. last_in 0 xs) ends ∙ last_of b.ends.0 b.before b.last in
      omega (arith, a.time, b.time, last)

  one_judgement : (j k : Judgement) → IsJudgementOf U i H j → IsJudgementOf U i H k → j ≡ k
  one_judgement (Meets r) (Meets s) a b =
      ap (λ (n : ℕ). Meets n) (IsResponseOf-one U i H r s a.1 b.1)
  one_judgement (Meets r) (Misses m) a b = absurd (b.1 (meets_passes r a.1 a.2))
  one_judgement (Meets r) (Below k) a b = absurd (both_ways _ a.0 (bound_over k b))
  one_judgement (Misses m) (Meets s) a b = absurd (a.1 (meets_passes s b.1 b.2))
  one_judgement (Misses m) (Misses n) a b = ap (λ (k : ℕ). Misses k) (one_need m n a.2 b.2)
  one_judgement (Misses m) (Below k) a b = absurd (both_ways _ a.0 (bound_over k b))
  one_judgement (Below j) (Meets s) a b = absurd (both_ways _ b.0 (bound_over j a))
  one_judgement (Below j) (Misses n) a b = absurd (both_ways _ b.0 (bound_over j a))
  one_judgement (Below j) (Below k) a b = ap (λ (n : ℕ). Below n) (least_one j k a b)

  meets_stands : (j : Judgement) → IsJudgementOf U i H j → does_meet j ≡ true → Stands U i H
  meets_stands (Meets r) is meets = (meets_passes r is.1 is.2, is.0)
  meets_stands (Misses n) is meets = absurd (true≢false (sym meets))
  meets_stands (Below k) is meets = absurd (true≢false (sym meets))

  stands_meets : (j : Judgement) → IsJudgementOf U i H j → Stands U i H → does_meet j ≡ true
  stands_meets (Meets r) is stands = refl
  stands_meets (Misses n) is stands = absurd (is.1 stands.0)
  stands_meets (Below k) is stands = absurd (both_ways _ stands.1 (bound_over k is))

  -- a task that stands has its response within its deadline
  stands_judged : (r : ℕ) → AllTasks U → i < length U → Stands U i H → IsResponseOf U i H r
      → IsJudgementOf U i H (Meets r)
  stands_judged r valid lt stands response =
      let found = (Passes-iff_response U valid i H lt).0 stands.0 in
      (stands.1, response, omega (arith, IsResponseOf-one U i H r found.0 response found.1, found.2))

-- ---- an order
module _ (U : List Task) where
  pub one_judged : (first second : List JudgedTask) → order_judged first ≡ order_judged second
      → AllJudged U first → AllJudged U second → first ≡ second
  one_judged [] [] same a b = refl
  one_judged [] (k ∷ ks) same a b = cc
  one_judged (j ∷ js) [] same a b = cc
  one_judged (j ∷ js) (k ∷ ks) same a b =
      let task : j.task ≡ k.task = cc in
      let tasks : order_judged js ≡ order_judged ks = cc in
      let other = subst (λ i. IsJudgementOf U i (among (order_judged ks)) k.judgement)
      (sym task) b.0 in
      let here = subst (λ is. IsJudgementOf U j.task (among is) k.judgement) (sym tasks) other in
      let judgement = one_judgement U j.task (among (order_judged js)) j.judgement k.judgement
      a.0 here in
      let rest = one_judged js ks tasks a.1 b.1 in
      λ i. record { task = task i; judgement = judgement i } ∷ rest i

  pub judged_passing : (judged : List JudgedTask) → AllJudged U judged → all_meet judged ≡ true
      → AllStand U (order_judged judged)
  judged_passing [] each all = tt
  judged_passing (j ∷ judged) each all =
      let both = and_parts (does_meet j.judgement) (all_meet judged) all in
      (meets_stands U j.task _ j.judgement each.0 both.0, judged_passing judged each.1 both.1)

  pub passing_judged : (judged : List JudgedTask) → AllJudged U judged
      → AllStand U (order_judged judged) → all_meet judged ≡ true
  passing_judged [] each all = refl
  passing_judged (j ∷ judged) each all =
      and_from _ _ (stands_meets U j.task _ j.judgement each.0 all.0)
      (passing_judged judged each.1 all.1)

-- ---- the best order
pub judged_tasks : (places : List PlaceData)
    → order_judged (judged_of places) ≡ tasks_of_places places
judged_tasks [] = refl
judged_tasks (p ∷ places) = ap (λ ts. p.task ∷ ts) (judged_tasks places)

pub judged_meet : (places : List PlaceData) → all_meet (judged_of places) ≡ true
judged_meet [] = refl
judged_meet (p ∷ places) = judged_meet places

placing_judged : (U : List Task) (L : Indexes) (places : List PlaceData) → AllTasks U
    → IsPart L (all_of U) → IsOrderOf L (tasks_of_places places)
    → AllStand U (tasks_of_places places) → AllRespond U L places → AllJudged U (judged_of places)
placing_judged U L [] valid part each all respond = tt
placing_judged U L (p ∷ places) valid part each all respond =
    let rest = IsOrderOf-rest L p.task (tasks_of_places places) each in
    let above = IsOrderOf-among (without_index L p.task) (tasks_of_places places) rest in
    let lt = ltb-true p.task (length U)
    (part p.task (IsOrderOf-head L p.task (tasks_of_places places) each)) in (
      rw (judged_tasks places, above)
          (stands_judged U p.task _ p.response valid lt (rw above at all.0) respond.0),
      placing_judged U (without_index L p.task) places valid
          (without-part_of (length U) L p.task part) rest all.1 respond.1,
    )

pub best_judged : (U : List Task) (places : List PlaceData) → AllTasks U → IsBestPlacing U places
    → AllJudged U (judged_of places)
best_judged U places valid best = placing_judged U (all_of U) places valid (λ k h. h)
    best.best.passing.each_once best.best.passing.each_stands best.each

-- ---- a text
module _ (f : ℕ → ℕ) where
  abbrev Rises : List ℕ → Type 0
  Rises xs = IsStrictlyIncreasing (map f xs)

  rises_rest : (x : ℕ) (xs : List ℕ) → Rises (x ∷ xs) → Rises xs
  rises_rest x xs rises k lt =
      let next : suc k + 1 ≡ suc (k + 1) = omega arith in
      rw next at (rises (suc k) (omega (arith, lt)))

  -- the first is below each of the others
  first_less : (x : ℕ) (xs : List ℕ) (y : ℕ) → Rises (x ∷ xs) → among xs y ≡ true → f x < f y
  first_less x [] y rises has = absurd (true≢false (sym has))
  first_less x (z ∷ zs) y rises has =
      let less : f x < f z = rises 0 (omega arith) in
      elim (cases_eq z y) [
        | inl e ↦ rw (← e) less
        | inr ne ↦ omega (
          arith,
          less,
          first_less z zs y (rises_rest x (z ∷ zs) rises)
              (rw (ne_eqb z y ne) at has),
        )
      ]

  rises_drop : (n : ℕ) (xs : List ℕ) → Rises xs → Rises (drop n xs)
  rises_drop zero xs rises = rises
  rises_drop (suc n) [] rises = rises
  rises_drop (suc n) (x ∷ xs) rises = rises_drop n xs (rises_rest x xs rises)

  -- so is that at a place below each after it
  pub above_more : (n : ℕ) (xs : List ℕ) (y : ℕ) → Rises xs → n < length xs
      → among (drop (n + 1) xs) y ≡ true → f (get_or xs n 0) < f y
  above_more n xs y rises lt has = first_less (get_or xs n 0) (drop (n + 1) xs) y
      (subst (λ (zs : List ℕ). Rises zs) (drop_more xs n 0 lt) (rises_drop n xs rises)) has

  -- and above each before it
  pub below_less : (n : ℕ) (xs : List ℕ) (y : ℕ) → Rises xs → n < length xs → among xs y ≡ true
      → with_index (among (drop (n + 1) xs)) (get_or xs n 0) y ≡ false → f y < f (get_or xs n 0)
  below_less n [] y rises lt has out = absurd (omega arith)
  below_less zero (x ∷ xs) y rises lt has out = elim (cases_eq x y) [
    | inl e ↦ absurd (both_ways _ out (rw e (ap (λ b. b || among xs y) (eq-eqb y y refl))))
    | inr ne ↦
        let later : among xs y ≡ true = rw (ne_eqb x y ne) at has in
        absurd (both_ways _ out (or_right (y == x) (among xs y) later))
  ]
  below_less (suc n) (x ∷ xs) y rises lt has out =
      let next : suc n + 1 ≡ suc (n + 1) = omega arith in
      let there = list_any_at (λ z. z == get_or xs n 0) xs n 0 (omega arith) (eq-eqb _ _ refl) in
      elim (cases_eq x y) [
        | inl e ↦ rw (← e) (first_less x xs (get_or xs n 0) rises there)
        | inr ne ↦ below_less n xs y (rises_rest x xs rises) (omega arith)
            (rw (ne_eqb x y ne) at has) (rw next at out)
      ]

  one_order : (L : Indexes) (xs ys : List ℕ) → IsOrderOf L xs → IsOrderOf L ys → Rises xs
      → Rises ys → xs ≡ ys
  one_order L [] [] a b rises rises' = refl
  one_order L [] (y ∷ ys) a b rises rises' =
      absurd (true≢false (sym (ap (λ X. X y) (IsOrderOf-among L [] a) ∙ IsOrderOf-head L y ys b)))
  one_order L (x ∷ xs) [] a b rises rises' =
      absurd (true≢false (sym (ap (λ X. X x) (IsOrderOf-among L [] b) ∙ IsOrderOf-head L x xs a)))
  one_order L (x ∷ xs) (y ∷ ys) a b rises rises' =
      let rest = IsOrderOf-rest L x xs a in
      let rest' = IsOrderOf-rest L y ys b in
      elim (cases_eq x y) [
        | inl e ↦
            let same = one_order (without_index L x) xs ys rest (rw e rest')
            (rises_rest x xs rises) (rises_rest y ys rises') in
            λ i. e i ∷ same i
        | inr ne ↦
            let later = ap (λ X. X y) (IsOrderOf-among (without_index L x) xs rest)
            ∙ without-member L x y (IsOrderOf-head L y ys b) (λ e. ne (sym e)) in
            let later' = ap (λ X. X x) (IsOrderOf-among (without_index L y) ys rest')
            ∙ without-member L y x (IsOrderOf-head L x xs a) ne in
            absurd (omega (arith, first_less x xs y rises later, first_less y ys x rises' later'))
      ]

pub one_node_order : (lower : Bool) (U : List Task) (text first second : List ℕ)
    → IsNodeOrderBy lower U text first → IsNodeOrderBy lower U text second → first ≡ second
one_node_order lower U text first second a b =
    let rows : b.rows ≡ a.rows = cc in
    one_order (thread_number U (heights lower (threads_of a.rows))) (all_of U) first second
    a.by_numbers.each_once b.by_numbers.each_once a.by_numbers.rises
    (rw (← rows) b.by_numbers.rises)
