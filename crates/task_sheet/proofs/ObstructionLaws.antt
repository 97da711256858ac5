-- What stands in the way of every order.
use Rattle.std.proofs.Common.{◌≡◌, ℕ, inl, inr, true, false, ◌==◌, List, [], ◌∷◌, refl, sym, subst}
use Rattle.std.proofs.lemmas.Bool.{cases_Bool, or_cases, or_left, or_right, both_ways, eqb-true}
use Rattle.task_sheet.proofs.Common.{Task, AllTasks, Indexes, IsPart, without_index, among, all_of}
use Rattle.task_sheet.proofs.Common.{AllStand, IsFeasible, NoneStands, IsObstruction}
use Rattle.task_sheet.proofs.Common.{IsGreatestObstruction, left_after, AllChosen}
use Rattle.task_sheet.specs.Indexes.{either_of}
use Rattle.task_sheet.proofs.IndexLaws.{without-member, without-parts, without-part}
use Rattle.task_sheet.proofs.IndexLaws.{IsOrderOf-among}
use Rattle.task_sheet.proofs.PassingLaws.{Stands-part}
use Rattle.task_sheet.proofs.LevelLaws.{left_after-part}

module _ (U : List Task) (valid : AllTasks U) where
  -- ---- two obstructions together
  pub IsObstruction-either : (S R : Indexes) → IsObstruction U S → IsObstruction U R
      → IsObstruction U (either_of S R)
  IsObstruction-either S R s r = record {
    within = λ k h. elim (or_cases (S k) (R k) h) [ inl l ↦ s.within k l | inr l ↦ r.within k l ];
    some = (s.some.0, or_left _ _ s.some.1);
    stuck = λ i h stands. elim (or_cases (S i) (R i) h) [
      | inl l ↦ s.stuck i l (Stands-part U valid i _ _
          (without-part S (either_of S R) i (λ k e. or_left _ _ e)) stands)
      | inr l ↦ r.stuck i l (Stands-part U valid i _ _
          (without-part R (either_of S R) i (λ k e. or_right _ _ e)) stands)
    ];
  }

  -- ---- no order passes where there is an obstruction
  AllStand-clears : (S : Indexes) (order : List ℕ) → NoneStands U S → IsPart S (among order)
      → AllStand U order → (k : ℕ) → ¬ (S k ≡ true)
  AllStand-clears S [] stuck part all k h = both_ways false refl (part k h)
  AllStand-clears S (i ∷ above) stuck part all k h =
      let rest : (j : ℕ) → S j ≡ true → (j ≡ i → ⊥) → among above j ≡ true =
      λ j e ne. elim (or_cases (i == j) (among above j) (part j e)) [
        | inl same ↦
            absurd (ne (sym (eqb-true i j same)))
        | inr r ↦ r
      ] in
      elim (cases_Bool (S i)) [
        | inl member ↦ stuck i member (Stands-part U valid i _ _
            (λ j e. let both = without-parts S i j e in rest j both.0 both.1) all.0)
        | inr out ↦ AllStand-clears S above stuck
            (λ j e. rest j e (λ same. both_ways (S i) out (rw same at e))) all.1 k h
      ]

  pub IsObstruction-fails : (S : Indexes) → IsObstruction U S → ¬ IsFeasible U
  IsObstruction-fails S s feasible =
      let all = IsOrderOf-among (all_of U) feasible.0 feasible.1.each_once in
      let part : IsPart S (among feasible.0) = subst (λ X. IsPart S X) (sym all) s.within in
      AllStand-clears S feasible.0 s.stuck part feasible.1.each_stands s.some.0 s.some.1

  -- what obstructs is never placed
  NoneStands-left : (S L : Indexes) (placed : List ℕ) → NoneStands U S → IsPart S L
      → AllChosen U L placed → IsPart S (left_after L placed)
  NoneStands-left S L [] stuck part chosen = part
  NoneStands-left S L (i ∷ placed) stuck part chosen =
      NoneStands-left S (without_index L i) placed stuck
      (λ k h. without-member L i k (part k h) (λ e.
      stuck i (rw e at h) (Stands-part U valid i _ _ (without-part S L i part) chosen.0.stands)))
      chosen.1

  pub AllChosen-obstruction : (placed : List ℕ) → AllChosen U (all_of U) placed → (k : ℕ)
      → left_after (all_of U) placed k ≡ true
      → NoneStands U (left_after (all_of U) placed)
      → IsGreatestObstruction U (left_after (all_of U) placed)
  AllChosen-obstruction placed chosen k some stuck = record {
    obstruction =
        record { within = left_after-part (all_of U) placed; some = (k, some); stuck = stuck };
    greatest = λ other o. NoneStands-left other (all_of U) placed o.stuck o.within chosen;
  }
