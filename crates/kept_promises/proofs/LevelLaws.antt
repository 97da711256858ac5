-- The levels of a best order, and what is promised at them.
use Rattle.std.proofs.Common.{ℕ, zero, suc, ◌+◌, ◌<◌, ◌≡◌, inl, inr, refl, sym, ap, ◌∙◌, arith, All}
use Rattle.std.proofs.Common.{Bool, true, false, List, [], ◌∷◌, length, get_or, Some}
use Rattle.std.proofs.Common.{slice_index_or, position, nat_lt, eqb}
use Rattle.std.proofs.lemmas.Bool.{cases_Bool, cases_eq, eq-eqb, ne_eqb, lt-ltb}
use Rattle.std.proofs.lemmas.List.Sums.{position_or_len_is}
use Rattle.std.proofs.lemmas.Slice.Eq.{bytes_eq-Decides}
use Rattle.std.specs.List.{position_or_len}
use Rattle.task_sheet.proofs.Common.{Task, same_bytes, task_at, IsTaskSet, IsOrder, all_of, among}
use Rattle.task_sheet.proofs.IndexLaws.{IsOrderOf-among}
use Rattle.task_sheet.proofs.NameLaws.{same_own}
use Rattle.task_sheet.proofs.TaskLaws.{place_of_name}
use Rattle.assignment.specs.Places.{PlaceData}
use Rattle.assignment.specs.Placings.{tasks_of_places}
use Rattle.explain.specs.Accounts.{AreInTime, IsInTime}
use Rattle.ceiling_kernel.proofs.Common.{level_from, after_of}
use Rattle.ceiling_kernel.specs.declared.trace.Release.{Release}
use Rattle.ceiling_kernel.specs.declared.trace.Trace.{Trace}
use Rattle.run_lines.specs.Responses.{AllDoneWithin, DoneWithin}
use Rattle.observed.proofs.PlaceLaws.{order-within}
use Rattle.observed.specs.Pieces.{level_of}
use Rattle.observed.specs.Promises.{no_promise, number_at, promise_of, promises_from, promises_of}

-- the first place that passes a test
pub position_is : {X : Type 0} (p : X → Bool) (xs : List X) (i : ℕ) (d : X) → i < length xs
    → ((k : ℕ) → k < i → p (get_or xs k d) ≡ false) → p (get_or xs i d) ≡ true
    → position p xs ≡ Some i
position_is p xs i d lt before here =
    let at = position_or_len_is p xs i d (omega (arith, lt)) before (λ _. here) in
    let small : nat_lt i (length xs) ≡ true = lt-ltb i (length xs) lt in
    rw (at, small) refl

-- two tasks of one name are one
pub one_name : (U : List Task) → IsTaskSet U → (i k : ℕ) → i < length U → k < length U
    → same_bytes (task_at U i).name (task_at U k).name ≡ true → i ≡ k
one_name U set i k is ks same =
    let equal : (task_at U i).name ≡ (task_at U k).name =
    (bytes_eq-Decides (task_at U i).name (task_at U k).name).0 same in
    sym (place_of_name U set.distinct i is)
    ∙ ap (λ (name : List ℕ). position_or_len (λ (s : Task). same_bytes s.name name) U) equal
    ∙ place_of_name U set.distinct k ks

-- a task stands at a level, counted from 0, below those that stand after it
pub record IsPlaced (U : List Task) (numbers : List ℕ) (low : ℕ) (places : List PlaceData)
    (i level : ℕ) : Type 0 where
  pub number : ℕ
  pub place : PlaceData
  pub above : List PlaceData
  pub task : place.task ≡ i
  pub within : level < length (promises_from U numbers low places)
  pub promise : slice_index_or (promises_from U numbers low places) level no_promise
      ≡ promise_of U number place above
  pub others : (k : ℕ) → k < level → same_bytes
      (slice_index_or (promises_from U numbers low places) k no_promise).name (task_at U i).name ≡ false
  pub after : after_of (tasks_of_places places) i ≡ tasks_of_places above
  pub level_is : (first : ℕ) → level_from first (tasks_of_places places) i ≡ first + level
  pub in_time : AreInTime U places → IsInTime U (tasks_of_places above) place
  pub done : (rs : List Release) (until : ℕ) (trace : Trace) → AllDoneWithin U places rs until trace
      → DoneWithin U place rs until trace

-- each task of an order does
pub placed_in : (U : List Task) → IsTaskSet U → (numbers : List ℕ) (low : ℕ)
    (places : List PlaceData) (i : ℕ) → i < length U → All (λ (p : PlaceData). p.task < length U) places
    → among (tasks_of_places places) i ≡ true → (level : ℕ) × IsPlaced U numbers low places i level
placed_in U set numbers low [] i is small has = absurd (cc)
placed_in U set numbers low (p ∷ places) i is small has =
    elim (cases_eq p.task i) [
      | inl same ↦
          let t : eqb p.task i ≡ true = eq-eqb p.task i same in (
            0,
            record {
              number = number_at numbers low;
              place = p;
              above = places;
              task = same;
              within = omega arith;
              promise = refl;
              others = λ k lt. absurd (omega (arith, lt));
              after = rw t refl;
              level_is = λ first. rw t (omega arith);
              in_time = λ all. all.0;
              done = λ rs until trace all. all.0;
            },
          )
      | inr ne ↦
          let f : eqb p.task i ≡ false = ne_eqb p.task i ne in
          let rest : among (tasks_of_places places) i ≡ true = rw f at has in
          let small_rest : All (λ (q : PlaceData). q.task < length U) places =
          λ k d lt. small (suc k) d (omega (arith, lt)) in
          let found = placed_in U set numbers (low + 1) places i is small_rest rest in
          let in_rest : IsPlaced U numbers (low + 1) places i found.0 = found.1 in
          let own : same_bytes (task_at U p.task).name (task_at U i).name ≡ false =
          elim (cases_Bool (same_bytes (task_at U p.task).name (task_at U i).name)) [
            | inl same ↦ absurd (ne (one_name U set p.task i (small 0 p (omega arith)) is same))
            | inr differ ↦ differ
          ] in (
            suc found.0,
            record {
              number = in_rest.number;
              place = in_rest.place;
              above = in_rest.above;
              task = in_rest.task;
              within = omega (arith, in_rest.within);
              promise = in_rest.promise;
              others = others_next U numbers low p places i found.0 own in_rest.others;
              after = rw f in_rest.after;
              level_is = λ first. rw f (in_rest.level_is (first + 1) ∙ omega arith);
              in_time = λ all. in_rest.in_time all.1;
              done = λ rs until trace all. in_rest.done rs until trace all.1;
            },
          )
    ]
  where
    others_next : (U : List Task) (numbers : List ℕ) (low : ℕ) (p : PlaceData) (places : List PlaceData)
        (i level : ℕ)
        → same_bytes (task_at U p.task).name (task_at U i).name ≡ false
        → ((k : ℕ) → k < level → same_bytes
        (slice_index_or (promises_from U numbers (low + 1) places) k no_promise).name (task_at U i).name
        ≡ false)
        → (k : ℕ) → k < suc level
        → same_bytes (slice_index_or (promises_from U numbers low (p ∷ places)) k no_promise).name
        (task_at U i).name ≡ false
    others_next U numbers low p places i level own rest zero lt = own
    others_next U numbers low p places i level own rest (suc k) lt = rest k (omega arith)

-- each of the set does
pub stands_at : (U : List Task) → IsTaskSet U → (numbers : List ℕ) (places : List PlaceData)
    → IsOrder U (tasks_of_places places) → (i : ℕ) → i < length U
    → (level : ℕ) × IsPlaced U numbers 0 places i level
stands_at U set numbers places order i is =
    let each : among (tasks_of_places places) ≡ all_of U =
    IsOrderOf-among (all_of U) (tasks_of_places places) order in
    let small : nat_lt i (length U) ≡ true = lt-ltb i (length U) is in
    placed_in U set numbers 0 places i is (order-within U places order)
    (ap (λ (H : ℕ → Bool). H i) each ∙ small)

-- that is the level at which its name is found
pub placed_level : (U : List Task) (numbers : List ℕ) (places : List PlaceData) (i level : ℕ)
    → IsPlaced U numbers 0 places i level
    → level_of (promises_of U numbers places) (task_at U i).name ≡ Some level
placed_level U numbers places i level is =
    let own : same_bytes (slice_index_or (promises_of U numbers places) level no_promise).name
    (task_at U i).name ≡ true =
    ap (λ (q : _). same_bytes q.name (task_at U i).name) is.promise
    ∙ ap (λ k. same_bytes (task_at U k).name (task_at U i).name) is.task
    ∙ same_own (task_at U i).name in
    position_is (λ p. same_bytes p.name (task_at U i).name) (promises_of U numbers places) level
    no_promise is.within is.others own
