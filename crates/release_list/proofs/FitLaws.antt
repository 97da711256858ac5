-- A kernel refuses no list of streams that fit distinct tasks of a set.
use Rattle.std.proofs.Common.{◌≡◌, ℕ, ◌+◌, ◌<◌, ◌≤◌, inl, inr, ◌==◌, Some, None, List, length, sym}
use Rattle.std.proofs.Common.{◌∙◌, ap, subst, arith}
use Rattle.std.specs.Prelude.{unwrap_or}
use Rattle.std.proofs.lemmas.Bool.{cases_Bool}
use Rattle.task_sheet.proofs.Common.{Task, IsValidSheet, no_task, task_at, IsTaskSet}
use Rattle.ceiling_kernel.specs.declared.trace.Release.{Release}
use Rattle.ceiling_kernel.proofs.Common.{lateness_of, task_named, task_number, refusal_of}
use Rattle.release_list.proofs.TaskNumbers.{found}
use Rattle.release_list.proofs.InLaws.{In, Pairs, pairs_with}
use Rattle.release_list.proofs.Unrefused.{Executes, IsLegal, IsAfter, unrefused}
use Rattle.release_list.specs.declared.stream.Stream.{Stream}
use Rattle.release_list.specs.Streams.{late_at, stream_at, list_of}
use Rattle.release_list.proofs.ArrivalLaws.{arrivals_apart}
use Rattle.release_list.proofs.JobLaws.{IsOf, HavePeriods, in_before, order, arrived, before_end}

-- a stream's jobs are legal jobs of the task at an index
pub record IsFit (U : List Task) (s : Stream) (i : ℕ) : Type 0 where
  pub in_set : i < length U
  pub named : s.name ≡ (task_at U i).name
  pub apart : (task_at U i).period ≤ s.period
  pub prompt : s.late ≤ lateness_of (task_at U i)

-- so are those of each, of distinct tasks
pub record AreFit (U : List Task) (ss : List Stream) (index : ℕ → ℕ) : Type 0 where
  pub each : (q : ℕ) → q < length ss → IsFit U (stream_at ss q) (index q)
  pub distinct : (q r : ℕ) → q < length ss → r < length ss → index q ≡ index r → q ≡ r

late-most : (time : ℕ) (s : Stream) → late_at time s ≤ s.late
late-most time s = elim (cases_Bool (time == s.first)) [
  | inl first ↦ rw first (omega arith)
  | inr later ↦ rw later (omega arith)
]

module _ {U : List Task} {ss : List Stream} {index : ℕ → ℕ} (set : IsTaskSet U)
    (fit : AreFit U ss index) where
  pub some_period : HavePeriods ss
  some_period q lt =
      let f : IsFit U (stream_at ss q) (index q) = fit.each q lt in
      let v : IsValidSheet (task_at U (index q)) = set.valid (index q) no_task f.in_set in
      omega (arith, v.period_from, f.apart)

  pub named_is : {until q : ℕ} {r : Release} → IsOf ss until r q
      → task_named U r.name ≡ Some (index q)
  named_is {until} {q} o =
      let f : IsFit U (stream_at ss q) (index q) = fit.each q o.in_set in
      ap (task_named U) (ap (λ x. x.name) o.is ∙ f.named) ∙ found U set.distinct (index q) f.in_set

  pub number_is : {until q : ℕ} {r : Release} → IsOf ss until r q → task_number U r ≡ index q
  number_is o = ap (λ x. unwrap_or x (length U)) (named_is o)

  pub legal : (until : ℕ) (r : Release) → In r (list_of ss until) → IsLegal U until r
  legal until r at =
      let b = in_before ss until until at in
      let f : IsFit U (stream_at ss b.0) (index b.0) = fit.each b.0 b.1.in_set in
      let v : IsValidSheet (task_at U (index b.0)) = set.valid (index b.0) no_task f.in_set in
      let late : r.late ≡ late_at r.time (stream_at ss b.0) = ap (λ x. x.late) b.1.is in
      record {
        task = index b.0;
        in_set = f.in_set;
        named = ap (λ x. x.name) b.1.is ∙ f.named;
        prompt = omega (arith, late, f.prompt, late-most r.time (stream_at ss b.0));
        executes = subst (Executes (task_at U (index b.0)).cost) (sym (ap (λ x. x.runs) b.1.is))
            (omega (arith, v.cost_from), omega arith);
        before = before_end b.1;
      }

  after : (until : ℕ) → Pairs (IsAfter U) (list_of ss until)
  after until = pairs_with (order ss until until) (λ r s _ _ o. record {
    rises = elim o.4 [ inl early ↦ omega (arith, early) | inr tie ↦ omega (arith, tie.0) ];
    apart = λ same.
        let one : o.0 ≡ o.1 = fit.distinct o.0 o.1 o.2.in_set o.3.in_set
        (sym (number_is o.2) ∙ (same ∙ number_is o.3)) in
        let early : r.time < s.time =
        elim o.4 [ inl e ↦ e | inr tie ↦ absurd (omega (arith, one, tie.1)) ] in
        let gap : r.time + (stream_at ss o.1).period ≤ s.time =
        arrivals_apart r.time s.time (stream_at ss o.1) (some_period o.1 o.3.in_set) early
        (rw one at (arrived o.2)) (arrived o.3) in
        rw (number_is o.3) (omega (arith, gap, (fit.each o.1 o.3.in_set).apart));
  })

  pub none_refused : (until : ℕ) → until ≤ 60000000 → length (list_of ss until) ≤ 10000
      → refusal_of U (list_of ss until) until ≡ None
  none_refused until = unrefused U set (list_of ss until) until (legal until) (after until)
