-- The tasks that are left where other tasks are placed below one: with it they stand in each order that passes.
use Rattle.std.proofs.Common.{◌≡◌, ◌≢◌, ℕ, ◌<◌, inl, inr, true, false, ◌==◌, List, [], ◌∷◌, length}
use Rattle.std.proofs.Common.{refl, sym, ◌∙◌, ap, subst}
use Rattle.std.specs.Ordering.{nat_cmp}
use Rattle.std.specs.FinSet as members
use Rattle.std.proofs.lemmas.Bool.{cases_Bool, cases_eq, both_ways, eq-eqb, eqb-true, ne_eqb}
use Rattle.std.proofs.lemmas.Bool.{or_cases, or_right, lt-ltb}
use Rattle.task_sheet.proofs.Common.{Task, AllTasks, all_below, Indexes, indexes_of, without_index}
use Rattle.task_sheet.proofs.Common.{below, IsPart, among, all_of, Stands, IsOrderOf, AllStand}
use Rattle.task_sheet.proofs.Common.{IsPassingOrder, IsFeasible, IsTaskSet}
use Rattle.task_sheet.proofs.IndexLaws.{same_parts, without-parts, without-part_of}
use Rattle.task_sheet.proofs.IndexLaws.{without-member, IsOrderOf-among, IsOrderOf-cons}
use Rattle.task_sheet.proofs.MembersIndexes.{indexes_of-all_below, indexes_of-remove}
use Rattle.task_sheet.proofs.PassingLaws.{Stands-part}
use Rattle.task_sheet.proofs.TaskLaws.{AllTasks-from_set}
use Rattle.latest_first.proofs.OneOrder.{AllPrompt-valid, lowest}
use Rattle.latest_first.proofs.WithoutOne.{less, less-order, less-stand}
use Rattle.ceiling_kernel.specs.Bounds.{after_of}
use Rattle.ceiling_kernel.proofs.Common.{IsNode, above_of, node_in}
use Rattle.ceiling_kernel.proofs.NodeLaws.{after_is_above, stands_above}
use Rattle.least_chains.specs.LeastAbove.{IsLeastAbove, IsOtherBelow, NoOtherStands}

-- who stands above the first task of an order
after-first : (i : ℕ) (above : List ℕ) → after_of (i ∷ above) i ≡ above
after-first i above = let own = eq-eqb i i refl in rw own refl

-- and above another one than the first
after-other : (j i : ℕ) (above : List ℕ) → j ≢ i → after_of (j ∷ above) i ≡ after_of above i
after-other j i above ne = let apart = ne_eqb j i ne in rw apart refl

-- all of them are in the order
pub after-part : (order : List ℕ) (i : ℕ) → IsPart (among (after_of order i)) (among order)
after-part [] i k h = h
after-part (x ∷ order) i k h = elim (cases_Bool (x == i)) [
  | inl own ↦ or_right _ _ (rw own at h)
  | inr ne ↦ or_right _ _ (after-part order i k (rw ne at h))
]

module _ (U : List Task) (i : ℕ) where
  -- these are left: they have an order in which each stands, and each such order goes on to one of all tasks with the
  -- same above task i
  pub record IsClimbed (L : Indexes) : Type 0 where
    pub part : IsPart L (all_of U)
    pub has : L i ≡ true
    pub some : (order : List ℕ) × IsOrderOf L order × AllStand U order
    pub leads : (order : List ℕ) → IsOrderOf L order → AllStand U order
        → (whole : List ℕ) × IsPassingOrder U whole × (after_of whole i ≡ after_of order i)

  climbed-all : IsFeasible U → all_of U i ≡ true → IsClimbed (all_of U)
  climbed-all (order, passing) has = record {
    part = λ k h. h;
    has = has;
    some = (order, passing.each_once, passing.each_stands);
    leads = λ order each all. (order, record { each_once = each; each_stands = all }, refl);
  }

  climbed-less : AllTasks U → (L : Indexes) (j : ℕ) → IsClimbed L → IsOtherBelow U L i j
      → IsClimbed (without_index L j)
  climbed-less valid L j so below =
      let (order, each, all) = so.some in
      record {
        part = without-part_of (length U) L j so.part;
        has = without-member L j i so.has (λ e. below.other (sym e));
        some = (less j order, less-order L j order below.member each, less-stand U valid j order all);
        leads = λ above each' all'.
            let stands = subst (λ X. Stands U j X)
            (sym (IsOrderOf-among (without_index L j) above each')) below.stands in
            let (whole, passing, same) = so.leads (j ∷ above)
            (IsOrderOf-cons L j above below.member each') (stands, all') in
            (whole, passing, same ∙ after-other j i above below.other);
      }

  -- in an order in which each stands, where of some tasks none but task i may stand below the rest, these are above it
  stay-above : AllTasks U → (L : Indexes) (order : List ℕ) → NoOtherStands U L i → L i ≡ true
      → IsPart L (among order) → AllStand U order
      → IsPart (without_index L i) (among (after_of order i))
  stay-above valid L [] none has part all = absurd (both_ways false refl (part i has))
  stay-above valid L (x ∷ above) none has part all =
      let rest : (k : ℕ) → L k ≡ true → k ≢ x → among above k ≡ true =
      λ k e ne. elim (or_cases (x == k) (among above k) (part k e)) [
        | inl same ↦ absurd (ne (sym (eqb-true x k same)))
        | inr r ↦ r
      ] in
      elim (cases_eq x i) [
        | inl own ↦ λ k h.
            let both = without-parts L i k h in
            let later = rest k both.0 (λ e. both.1 (e ∙ own)) in
            subst (λ xs. among xs k ≡ true)
            (sym (subst (λ y. after_of (y ∷ above) i ≡ above) (sym own) (after-first i above))) later
        | inr apart ↦
            let out : L x ≡ false = elim (cases_Bool (L x)) [
              | inl member ↦ absurd (none x record {
                other = apart;
                member = member;
                stands = Stands-part U valid x _ _
                    (λ k e. let both = without-parts L x k e in rest k both.0 both.1) all.0;
              })
              | inr out ↦ out
            ] in
            subst (λ xs. IsPart (without_index L i) (among xs)) (sym (after-other x i above apart))
            (stay-above valid L above none has
            (λ k e. rest k e (λ same. both_ways (L x) out (ap L (sym same) ∙ e))) all.1)
      ]

  climbed-least : IsTaskSet U → (L : Indexes) → IsClimbed L → NoOtherStands U L i
      → IsLeastAbove U i (without_index L i)
  climbed-least set L so none =
      let valid = AllTasks-from_set U set in
      let (order, each, all) = so.some in
      let low = lowest U valid (AllPrompt-valid U set) L order
      (λ k h. ap (λ (X : Indexes). X k) (IsOrderOf-among L order each) ∙ h) i so.has all in
      let stands : Stands U i (without_index L i) = elim (cases_eq low.0 i) [
        | inl own ↦ subst (λ j. Stands U j (without_index L j)) own low.2
        | inr apart ↦ absurd (none low.0 record { other = apart; member = low.1; stands = low.2 })
      ] in
      let above = less i order in
      let above_each = less-order L i order so.has each in
      let same = IsOrderOf-among (without_index L i) above above_each in
      let (whole, passing, after) = so.leads (i ∷ above) (IsOrderOf-cons L i above so.has above_each)
      (subst (λ X. Stands U i X) (sym same) stands, less-stand U valid i order all) in
      record {
        always = λ order passing. stay-above valid L order none so.has
            (λ k h. ap (λ (X : Indexes). X k) (IsOrderOf-among (all_of U) order passing.each_once)
            ∙ so.part k h) passing.each_stands;
        reached = (whole, passing, ap among (after ∙ after-first i above) ∙ same);
      }

  -- ---- as members
  pub start : (left : members.FinSet nat_cmp) (n : ℕ) → left ≡ all_below n → n ≡ length U
      → i < length U → IsFeasible U → IsClimbed (indexes_of left)
  start left n all count within feasible =
      subst (λ X. IsClimbed X) (sym (ap indexes_of all ∙ indexes_of-all_below n
      ∙ ap (λ m. below m) count)) (climbed-all feasible (lt-ltb i (length U) within))

  pub step : (left left' : members.FinSet nat_cmp) (j : ℕ) → IsTaskSet U → IsClimbed (indexes_of left)
      → IsOtherBelow U (indexes_of left) i j → left' ≡ members.remove left j
      → IsClimbed (indexes_of left')
  step left left' j set so below removed =
      subst (λ X. IsClimbed X) (sym (ap indexes_of removed ∙ indexes_of-remove left j))
      (climbed-less (AllTasks-from_set U set) (indexes_of left) j so below)

  pub end : (left left' : members.FinSet nat_cmp) → IsTaskSet U → IsClimbed (indexes_of left)
      → NoOtherStands U (indexes_of left) i → left' ≡ members.remove left i
      → IsLeastAbove U i (indexes_of left')
  end left left' set so none removed =
      subst (λ X. IsLeastAbove U i X) (sym (ap indexes_of removed ∙ indexes_of-remove left i))
      (climbed-least set (indexes_of left) so none)

  -- ---- they are tasks of the set, below which task i may stand
  pub least_above-part : (H : Indexes) → IsLeastAbove U i H → IsPart H (all_of U)
  least_above-part H is =
      let (order, passing, same) = is.reached in
      let named = IsOrderOf-among (all_of U) order passing.each_once in
      λ k h. ap (λ (X : Indexes). X k) (sym named)
      ∙ after-part order i k (ap (λ (X : Indexes). X k) same ∙ h)

  pub least_above-stands : (H : Indexes) → IsTaskSet U → i < length U → IsLeastAbove U i H → Stands U i H
  least_above-stands H set within is =
      let (order, passing, same) = is.reached in
      let node = node_in U order in
      let is_node : IsNode node = record { tasks = set; order = passing.each_once } in
      let above : among (after_of order i) ≡ above_of node i =
      λ x h. after_is_above node is_node i h within x in
      subst (λ X. Stands U i X) (sym above ∙ same)
      (stands_above node is_node passing.each_stands i within)

  -- ---- there is one
  pub least_above-one : (H G : Indexes) → IsLeastAbove U i H → IsLeastAbove U i G → H ≡ G
  least_above-one H G first second = same_parts H G
      (subst (λ X. IsPart H X) second.reached.2 (first.always second.reached.0 second.reached.1))
      (subst (λ X. IsPart G X) first.reached.2 (second.always first.reached.0 first.reached.1))
