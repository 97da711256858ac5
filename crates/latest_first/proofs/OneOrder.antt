-- An order with the longest limits lowest passes where some order does.
use Rattle.std.proofs.Common.{◌≡◌, ◌↔◌, ◌≤◌, ℕ, Bool, true, false, ◌&&◌, inl, inr, List, [], ◌∷◌}
use Rattle.std.proofs.Common.{length, refl, sym, ◌∙◌, ap, subst, arith, cond}
use Rattle.std.proofs.Math.Path.{fun_ext}
use Rattle.std.proofs.lemmas.Bool.{cases_Bool, both_ways, ne_eqb}
use Rattle.task_sheet.proofs.Common.{Task, task_at, limit_of, AllTasks, IsTaskSet, Indexes, IsPart, below}
use Rattle.task_sheet.proofs.Common.{without_index, among, some_below, Passes, all_of, must_outrank}
use Rattle.task_sheet.proofs.Common.{must_outrank_any, Stands, IsOrderOf, IsOrder, AllStand, IsPassingOrder}
use Rattle.task_sheet.proofs.Common.{IsFeasible, NoneStands}
use Rattle.task_sheet.proofs.IndexLaws.{without-parts, without-part_of, IsOrderOf-among}
use Rattle.task_sheet.proofs.IndexLaws.{IsOrderOf-head, IsOrderOf-rest}
use Rattle.task_sheet.proofs.PassingLaws.{must_outrank_any-part}
use Rattle.latest_first.specs.LatestFirst.{AllPrompt, IsFree, IsLatest, IsLatestFirst, AreAlike}
use Rattle.latest_first.specs.Tested.{StandsBy, AllStandBy, IsPassingBy, IsFeasibleBy, ObstructsBy}
use Rattle.latest_first.proofs.LaterLimits.{PassesWhere, PassesWhere-part, PassesWhere-later, covers-eased}

pub AllPrompt-valid : (U : List Task) → IsTaskSet U → AllPrompt U
AllPrompt-valid U set k d lt =
    let valid = set.valid k d lt in
    record { period = omega (arith, valid.period_from); deadline = valid.deadline_to }

-- ---- sets that are alike
module _ (U V : List Task) (alike : AreAlike U V) where
  named : (i k : ℕ) → must_outrank V i k ≡ must_outrank U i k
  named i k = rw (alike.names k, alike.outranks k, alike.outranks i) refl

  pub must_outrank_any-alike : (i : ℕ) (H : Indexes) → must_outrank_any V i H ≡ must_outrank_any U i H
  unfolding must_outrank_any
  must_outrank_any-alike i H =
      ap (λ n. some_below n (λ k. H k && must_outrank V i k)) alike.count
      ∙ ap (λ (p : ℕ → Bool). some_below (length U) (λ k. H k && p k)) (fun_ext (named i))

  IsLatest-alike : (L : Indexes) (i : ℕ) → IsLatest U L i → IsLatest V L i
  IsLatest-alike L i is = record {
    free = (is.free.0, must_outrank_any-alike i (without_index L i) ∙ is.free.1);
    latest = λ j free. omega (
      arith,
      alike.limits i,
      alike.limits j,
      is.latest j
          (free.0, sym (must_outrank_any-alike j (without_index L j)) ∙ free.1),
    );
  }

  pub IsLatestFirst-alike : (order : List ℕ) → IsLatestFirst U order → IsLatestFirst V order
  IsLatestFirst-alike [] first = tt
  IsLatestFirst-alike (i ∷ above) first =
      (IsLatest-alike (among (i ∷ above)) i first.0, IsLatestFirst-alike above first.1)

  pub IsOrder-alike : (order : List ℕ) → IsOrder U order → IsOrder V order
  IsOrder-alike order each k = each k ∙ ap (λ n. cond (below n k) 1 0) (sym alike.count)

-- ---- sets of as many tasks, where one that may stand in the one set may in the other
module _ (Test Other : ℕ → Indexes → Type 0) (U V : List Task) (count : length V ≡ length U)
    (to : (i : ℕ) (H : Indexes) → StandsBy Test U i H → StandsBy Other V i H) where
  pub AllStandBy-to : (order : List ℕ) → AllStandBy Test U order → AllStandBy Other V order
  AllStandBy-to [] all = tt
  AllStandBy-to (i ∷ above) all = (to i (among above) all.0, AllStandBy-to above all.1)

  pub IsPassingBy-to : (order : List ℕ) → IsPassingBy Test U order → IsPassingBy Other V order
  IsPassingBy-to order passing = record {
    each_once = λ k. passing.each_once k ∙ ap (λ n. cond (below n k) 1 0) (sym count);
    each_stands = AllStandBy-to order passing.each_stands;
  }

  pub IsFeasibleBy-to : IsFeasibleBy Test U → IsFeasibleBy Other V
  IsFeasibleBy-to (order, passing) = (order, IsPassingBy-to order passing)

-- ---- by a test of the demand
module _ (Is : (need time : ℕ) → Type 0)
    (eased : (low high time : ℕ) → low ≤ high → Is high time → Is low time) (U : List Task) where
  abbrev pub Test : ℕ → Indexes → Type 0
  Test = PassesWhere Is U

  pub StandsBy-part : AllTasks U → (i : ℕ) (H G : Indexes) → IsPart H G → StandsBy Test U i G
      → StandsBy Test U i H
  StandsBy-part valid i H G part stands = (
    PassesWhere-part Is eased U valid i H G part stands.0,
    must_outrank_any-part U i H G part stands.1,
  )

  -- one task speaks for all: of tasks that need not stand above another of some, one with the longest limit may stand below
  -- the others where any may
  pub stands-latest : AllPrompt U → (L : Indexes) (i j : ℕ) → IsPart L (all_of U) → IsLatest U L i
      → L j ≡ true → StandsBy Test U j (without_index L j) → StandsBy Test U i (without_index L i)
  stands-latest prompt L i j part is member stands = (
    PassesWhere-later Is eased U prompt L part i j is.free.0 member (is.latest j (member, stands.1))
        stands.0,
    is.free.1,
  )

  -- ---- one order
  module _ (valid : AllTasks U) where
    -- of some tasks of an order in which each stands one may stand below the others of them
    pub lowest-by : (L : Indexes) (order : List ℕ) → IsPart L (among order) → (k : ℕ) → L k ≡ true
        → AllStandBy Test U order → (j : ℕ) × (L j ≡ true) × StandsBy Test U j (without_index L j)
    lowest-by L [] part k member all = absurd (both_ways false refl (part k member))
    lowest-by L (i ∷ above) part k member all =
        let rest : (j : ℕ) → L j ≡ true → (i ≡ j → ⊥) → among above j ≡ true =
        λ j so ne. rw (ne_eqb i j ne) at (part j so) in
        elim (cases_Bool (L i)) [
          | inl here ↦ (
            i,
            here,
            StandsBy-part valid i _ _ (λ j e.
                let both = without-parts L i j e in rest j both.0 (λ s. both.1 (sym s))) all.0,
          )
          | inr out ↦ lowest-by L above (λ j so. rest j so (λ s. both_ways _ out (ap L s ∙ so))) k
              member all.1
        ]

    all-among : (order : List ℕ) → IsOrder U order → IsPart (all_of U) (among order)
    all-among order each k h = ap (λ (X : Indexes). X k) (IsOrderOf-among (all_of U) order each) ∙ h

    -- no order passes where some tasks obstruct
    pub obstructs-fails : (S : Indexes) → ObstructsBy Test U S → ¬ IsFeasibleBy Test U
    obstructs-fails S s (order, passing) =
        let within : IsPart S (among order) = λ k h. all-among order passing.each_once k (s.within k h) in
        let low = lowest-by S order within s.some.0 s.some.1 passing.each_stands in
        s.stuck low.0 low.1 low.2

    module _ (prompt : AllPrompt U) where
      AllStandBy-latest : (L : Indexes) (order other : List ℕ) → IsPart L (all_of U)
          → IsOrderOf L order → IsLatestFirst U order → IsPart L (among other)
          → AllStandBy Test U other → AllStandBy Test U order
      AllStandBy-latest L [] other part each first within all = tt
      AllStandBy-latest L (i ∷ above) other part each first within all =
          let rest = IsOrderOf-rest L i above each in
          let is = subst (λ X. IsLatest U X i) (IsOrderOf-among L (i ∷ above) each) first.0 in
          let low = lowest-by L other within i (IsOrderOf-head L i above each) all in (
            subst (λ X. StandsBy Test U i X) (sym (IsOrderOf-among (without_index L i) above rest))
                (stands-latest prompt L i low.0 part is low.1 low.2),
            AllStandBy-latest (without_index L i) above other
                (without-part_of (length U) L i part) rest first.1
                (λ k h. within k (without-parts L i k h).0) all,
          )

      pub IsPassingBy-latest : (order : List ℕ) → IsOrder U order → IsLatestFirst U order
          → IsFeasibleBy Test U → IsPassingBy Test U order
      IsPassingBy-latest order each first (other, passing) = record {
        each_once = each;
        each_stands = AllStandBy-latest (all_of U) order other (λ k h. h) each first
            (all-among other passing.each_once) passing.each_stands;
      }

-- ---- by the test that the demand is covered
abbrev pub Covering : (need time : ℕ) → Type 0
Covering need time = need ≤ time

module _ (U : List Task) where
  AllStand-by : (order : List ℕ) → AllStand U order → AllStandBy (PassesWhere Covering U) U order
  AllStand-by [] all = tt
  AllStand-by (i ∷ above) all = (all.0, AllStand-by above all.1)

  AllStand-from : (order : List ℕ) → AllStandBy (PassesWhere Covering U) U order → AllStand U order
  AllStand-from [] all = tt
  AllStand-from (i ∷ above) all = (all.0, AllStand-from above all.1)

  pub IsPassing-by : (order : List ℕ) → IsPassingOrder U order ↔ IsPassingBy (PassesWhere Covering U) U order
  IsPassing-by order = (
    λ p. record { each_once = p.each_once; each_stands = AllStand-by order p.each_stands },
    λ p. record { each_once = p.each_once; each_stands = AllStand-from order p.each_stands },
  )

pub Passes-later : (U : List Task) → AllPrompt U → (L : Indexes) → IsPart L (all_of U) → (i j : ℕ)
    → L i ≡ true → L j ≡ true → limit_of (task_at U j) ≤ limit_of (task_at U i)
    → Passes U j (without_index L j) → Passes U i (without_index L i)
Passes-later U = PassesWhere-later Covering covers-eased U

pub NoneStands-latest : (U : List Task) → AllPrompt U → (L : Indexes) (i : ℕ) → IsPart L (all_of U)
    → IsLatest U L i → ¬ Passes U i (without_index L i) → NoneStands U L
NoneStands-latest U prompt L i part is fails j member stands =
    fails (stands-latest Covering covers-eased U prompt L i j part is member stands).0

pub NoneStands-bound : (U : List Task) (L : Indexes) → ((j : ℕ) → ¬ IsFree U L j) → NoneStands U L
NoneStands-bound U L none j member stands = none j (member, stands.1)

module _ (U : List Task) (valid : AllTasks U) (prompt : AllPrompt U) where
  pub lowest : (L : Indexes) (order : List ℕ) → IsPart L (among order) → (k : ℕ) → L k ≡ true
      → AllStand U order → (j : ℕ) × (L j ≡ true) × Stands U j (without_index L j)
  lowest L order part k member all =
      lowest-by Covering covers-eased U valid L order part k member (AllStand-by U order all)

  pub IsPassingOrder-latest : (order : List ℕ) → IsOrder U order → IsLatestFirst U order
      → IsFeasible U → IsPassingOrder U order
  IsPassingOrder-latest order each first (other, passing) = (IsPassing-by U order).1
      (IsPassingBy-latest Covering covers-eased U valid prompt order each first
      (other, (IsPassing-by U other).0 passing))
