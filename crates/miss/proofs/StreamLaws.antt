-- The streams of a worst case come one after the other.
use Rattle.std.proofs.Common.{◌≡◌, ◌<◌, ◌≤◌, ◌∷◌, ◌++◌, ℕ, zero, suc, inl, inr, Some, Option, List}
use Rattle.std.proofs.Common.{length, get_or, map, sym, ◌∙◌, ap, subst, arith, All, max, ◌+◌}
use Rattle.std.proofs.lemmas.List.{get_or_default}
use Rattle.task_sheet.proofs.Common.{Task, no_task, task_at, IsTaskSet, Indexes}
use Rattle.task_sheet.proofs.Common.{among, greatest_of, limit_of}
use Rattle.ceiling_kernel.specs.Waits.{lateness_of}
use Rattle.ceiling_kernel.specs.declared.trace.RunFault.TheVariants as fault
use Rattle.explain.specs.Blocking.{BlockerData, IsBlockerOf}
use Rattle.release_list.specs.declared.stream.Stream.{Stream}
use Rattle.release_list.specs.Streams.{IsStream, no_stream, stream_at, list_of, count_refusal}
use Rattle.release_list.proofs.TimeLaws.{many_from}
use Rattle.miss.specs.Misses.{IsInSet, lead_of, member_stream, blocker_streams}
use Rattle.miss.specs.Shown.{IsTooLong}
use Rattle.miss.proofs.CaseLaws.{which}

module _ (U : List Task) (tasks : IsTaskSet U) (task : ℕ) (above : List ℕ) (b : Option BlockerData)
    (instant until : ℕ) where
  pub all_streams : task < length U → All (λ k. k < length U) above → IsInSet U b → until ≤ 60000000
      → (items : List Stream) → items ≡ map (member_stream U instant) (task ∷ above)
      ++ blocker_streams U instant until b → All IsStream items
  all_streams known knowns placed small items is q d lt =
      let ss : List Stream =
      map (member_stream U instant) (task ∷ above) ++ blocker_streams U instant until b in
      let lt' = subst (λ (xs : List Stream). q < length xs) is lt in
      let same = get_or_default ss q no_stream d lt'
      ∙ ap (λ (xs : List Stream). get_or xs q d) (sym is) in
      subst (λ s. IsStream s) same
      (elim (which U (task ∷ above) instant until b q lt') as (λ _. IsStream (stream_at ss q)) [
        | inl m ↦
            let k : ℕ = get_or (task ∷ above) q 0 in
            let v = tasks.valid k no_task (member q m.place) in
            let s : IsStream (member_stream U instant k) = record {
              some =
                  omega (arith, v.period_from);
              small = omega (arith, v.period_to);
            } in
            subst (λ x. IsStream x) (sym m.stream) s
        | inr m ↦
            let in_set = subst (λ x. IsInSet U x) m.is placed in
            let v = tasks.valid m.blocker.task no_task in_set.0 in
            subst (λ x. IsStream x) (sym m.stream)
            (record { some = omega (arith, v.period_from); small = omega (arith, v.period_to) })
      ])
    where
      member : (q : ℕ) → q < length (task ∷ above) → get_or (task ∷ above) q 0 < length U
      member zero lt = known
      member (suc q) lt = knowns q 0 (omega arith)

-- where there are more releases than a run takes, the worst case is too long
pub too_long_case : (U : List Task) (i : ℕ) (above : List ℕ) (H : Indexes) (b : Option BlockerData)
    (streams : List Stream) (instant lead limit until : ℕ)
    → H ≡ among above → IsBlockerOf U i H b → lead ≡ lead_of U b
    → instant ≡ max (greatest_of (λ k. lateness_of (task_at U k)) (i ∷ above)) lead
    → until ≡ instant + limit → limit ≡ limit_of (task_at U i)
    → streams ≡ map (member_stream U instant) (i ∷ above) ++ blocker_streams U instant until b
    → count_refusal streams until ≡ Some fault.TooMany → IsTooLong U i above
too_long_case U i above H b streams instant lead limit until eh blocks el ei eu es items refused =
    let at = ei
    ∙ ap (λ l. max (greatest_of (λ k. lateness_of (task_at U k)) (i ∷ above)) l) el in
    let is = items ∙ ap (λ s. let xs : List Stream =
    map (member_stream U s) (i ∷ above) ++ blocker_streams U s until b in xs) at in
    record {
      releases = list_of streams until;
      until = until;
      case = record {
        blocker = b;
        blocks = subst (λ G. IsBlockerOf U i G b) eh blocks;
        ends = omega (arith, eu, at, es);
        listed = ap (λ (xs : List Stream). list_of xs until) is;
      };
      many = many_from (length (list_of streams until)) refused;
    }
