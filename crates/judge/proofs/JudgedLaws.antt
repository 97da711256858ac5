-- The tasks of an order, judged one after the other.
use Rattle.std.proofs.Common.{◌≡◌, ◌∙◌, ℕ, ◌+◌, ◌<◌, ◌≤◌, List, [], ◌∷◌, ◌++◌, length, get_or, take}
use Rattle.std.proofs.Common.{drop, append-nil, sym, ap, subst, append_assoc}
use Rattle.std.proofs.lemmas.List.{drop_more, take_more, take_all, map_push}
use Rattle.std.proofs.Math.ListN.{drop_of_length-le}
use Rattle.judge.specs.Judgements.{order_judged}
use Rattle.judge.specs.declared.judging.JudgedTask.{JudgedTask}
use Rattle.judge.specs.declared.judging.Judgement.{Judgement}

-- of a list of judged tasks all are judged so
module _ (All : List JudgedTask → Type 0) where
  -- those that are judged so far, in front of the rest of the order
  pub record IsJudgedTo (order : List ℕ) (place : ℕ) (judged : List JudgedTask) : Type 0 where
    pub tasks : order_judged judged ≡ take place order
    pub front : (rest : List JudgedTask) → order_judged rest ≡ drop place order → All rest
        → All (judged ++ rest)

  -- one task more, with those after it above it
  pub judged_step : (Is : ℕ → (above : List ℕ) → Judgement → Type 0)
      → ((j : JudgedTask) (rest : List JudgedTask) → Is j.task (order_judged rest) j.judgement
      → All rest → All (j ∷ rest))
      → (order : List ℕ) (place : ℕ) (judged judged' : List JudgedTask) (j : JudgedTask)
      → place < length order → IsJudgedTo order place judged → j.task ≡ get_or order place 0
      → Is (get_or order place 0) (drop (place + 1) order) j.judgement
      → judged' ≡ judged ++ j ∷ [] → IsJudgedTo order (place + 1) judged'
  judged_step Is cons order place judged judged' j lt so task is pushed = record {
    tasks = ap order_judged pushed ∙ map_push (λ (x : JudgedTask). x.task) judged j
        ∙ ap (λ xs. xs ++ j.task ∷ []) so.tasks ∙ ap (λ i. take place order ++ i ∷ []) task
        ∙ sym (take_more order place 0 lt);
    front = λ rest same all.
        let here : Is j.task (order_judged rest) j.judgement = rw (task, same) is in
        let from : order_judged (j ∷ rest) ≡ drop place order = ap (λ xs. j.task ∷ xs) same
        ∙ ap (λ i. i ∷ drop (place + 1) order) task ∙ sym (drop_more order place 0 lt) in
        rw (pushed, append_assoc judged (j ∷ []) rest) (so.front (j ∷ rest) from (cons j rest here all));
  }

  pub judged_start : (order : List ℕ) (judged : List JudgedTask) → judged ≡ []
      → IsJudgedTo order 0 judged
  judged_start order judged none = record {
    tasks = ap order_judged none;
    front = λ rest same all. rw none all;
  }

  pub judged_end : All [] → (order : List ℕ) (place : ℕ) (judged : List JudgedTask)
      → length order ≤ place → IsJudgedTo order place judged → (order_judged judged ≡ order) × All judged
  judged_end empty order place judged past so = (
    so.tasks ∙ take_all place order past,
    subst (λ xs. All xs) (append-nil judged)
        (so.front [] (sym (drop_of_length-le order past)) empty),
  )
