-- The densest list is that of the tasks' streams.
use Rattle.std.proofs.Common.{◌≡◌, ℕ, zero, suc, ◌<◌, ◌≤◌, inl, inr, All, Option, Some, None, Result, Ok}
use Rattle.std.proofs.Common.{Err}
use Rattle.std.proofs.Common.{List, [], ◌∷◌, ◌++◌, length, refl, sym, ◌∙◌, ap, subst, arith}
use Rattle.std.specs.Prelude.{MatchResult, IfOk}
use Rattle.std.proofs.Math.Seq.{get_or-append_seam}
use Rattle.std.proofs.lemmas.Bool.{cases_eq}
use Rattle.std.proofs.lemmas.List.{length-append, get_or_append_left, get_or_default}
use Rattle.task_sheet.proofs.Common.{Task, IsValidSheet, no_task, task_at, IsTaskSet}
use Rattle.ceiling_kernel.specs.declared.trace.Release.{Release}
use Rattle.ceiling_kernel.specs.declared.trace.RunFault.{RunFault}
use Rattle.ceiling_kernel.proofs.Common.{task_named, IsRefusal, refusal_of}
use Rattle.release_list.specs.declared.stream.Stream.{Stream}
use Rattle.release_list.specs.Streams.{IsStream, no_stream, stream_at, list_of, job_release}
use Rattle.release_list.specs.Streams.{count_refusal}
use Rattle.release_list.specs.declared.steady.SteadyTask.{SteadyTask}
use Rattle.release_list.specs.Steady.{offset_in}
use Rattle.release_list.specs.Densest.{instant_of, stream_from, own_stream, first_streams, streams_of}
use Rattle.release_list.specs.Densest.{densest_of, list_refusal}
use Rattle.release_list.specs.Densest.{IsJob, IsDensest}
use Rattle.release_list.proofs.TimeLaws.{few_from, within_from}
use Rattle.release_list.proofs.TaskNumbers.{found}
use Rattle.release_list.proofs.JobLaws.{of_at, order_at, before_end, job_from, job_in}
use Rattle.release_list.proofs.FitLaws.{AreFit, IsFit, some_period, named_is, none_refused}

module _ (U : List Task) (steady : List SteadyTask) where
  -- ---- the first streams
  first_long : (n : ℕ) → length (first_streams U steady n) ≡ n
  unfolding first_streams
  first_long zero = refl
  first_long (suc n) = omega (
    arith,
    length-append (first_streams U steady n) (own_stream U steady n ∷ []),
    first_long n,
  )

  first_is : (n q : ℕ) → q < n → stream_at (first_streams U steady n) q ≡ own_stream U steady q
  unfolding first_streams
  first_is zero q lt = absurd (omega arith)
  first_is (suc n) q lt = elim (cases_eq q n) [
    | inl same ↦
        let last : length (first_streams U steady n) ≡ q = omega (arith, first_long n) in
        subst (λ k. stream_at (first_streams U steady n ++ own_stream U steady n ∷ []) k ≡ own_stream U steady q) last
        (get_or-append_seam (first_streams U steady n) (own_stream U steady n) [] no_stream
        ∙ ap (own_stream U steady) (sym same))
    | inr other ↦
        get_or_append_left (first_streams U steady n) (own_stream U steady n ∷ []) no_stream q
        (omega (arith, first_long n))
        ∙ first_is n q (omega arith)
  ]

  -- ---- all
  abbrev ss : List Stream
  ss = streams_of U steady

  abbrev own : ℕ → Stream
  own q = own_stream U steady q

  long : length ss ≡ length U
  long = first_long (length U)

  stream_is : (q : ℕ) → q < length ss → stream_at ss q ≡ own q
  stream_is q lt = first_is (length U) q (omega (arith, long))

  from_fit : (offset : Option ℕ) (q : ℕ) → q < length U
      → IsFit U (stream_from offset (instant_of U) (task_at U q)) q
  from_fit None q lt = record { in_set = lt; named = refl; apart = omega arith; prompt = omega arith }
  from_fit (Some offset) q lt = record { in_set = lt; named = refl; apart = omega arith; prompt = omega arith }

  period_is : (offset : Option ℕ) (t : Task) → (stream_from offset (instant_of U) t).period ≡ t.period
  period_is None t = refl
  period_is (Some offset) t = refl

  name_is : (offset : Option ℕ) (t : Task) → (stream_from offset (instant_of U) t).name ≡ t.name
  name_is None t = refl
  name_is (Some offset) t = refl

  pub fits : AreFit U ss (λ q. q)
  fits = record {
    each = λ q lt. rw (stream_is q lt) (from_fit (offset_in steady q) q (omega (arith, long)));
    distinct = λ q r lq lr same. same;
  }

module _ (U : List Task) (steady : List SteadyTask) (set : IsTaskSet U) where
  -- they come one after the other
  pub all_streams : (items : List Stream) → items ≡ streams_of U steady → All IsStream items
  all_streams items is q d lt =
      let small : q < length U = omega (arith, ap length is, long U steady) in
      let v : IsValidSheet (task_at U q) = set.valid q no_task small in
      let period = period_is U steady (offset_in steady q) (task_at U q) in
      rw (get_or_default items q d no_stream lt, is, stream_is U steady q (omega (arith, long U steady)))
      (record { some = omega (arith, period, v.period_from); small = omega (arith, period, v.period_to) })

  pub densest-is : (until : ℕ) → IsDensest U steady until (densest_of U steady until)
  densest-is until = record {
    sound = λ n lt.
        let o = of_at (ss U steady) until n lt in
        let j = job_from (some_period set (fits U steady)) o.1 in (
          o.0,
          j.0,
          record {
            in_set = omega (arith, long U steady, o.1.in_set);
            is = j.1 ∙ ap (λ s. job_release s j.0) (stream_is U steady o.0 o.1.in_set);
            before = before_end o.1;
          },
        );
    complete = λ i k lt before.
        let small : i < length (ss U steady) = omega (arith, long U steady) in
        let is = stream_is U steady i small in
        let at = job_in (ss U steady) until (some_period set (fits U steady)) i k small (rw is before) in
        (at.0, at.1, at.2 ∙ ap (λ s. job_release s k) is);
    ordered = λ m n i h j k less lt first second.
        let o = order_at (ss U steady) until m n less lt in
        let a : o.0 ≡ i = cc (named_is set (fits U steady) o.2, named first) in
        let b : o.1 ≡ h = cc (named_is set (fits U steady) o.3, named second) in
        elim o.4 [
          | inl early ↦ inl early
          | inr tie ↦ inr (tie.0, omega (arith, a, b, tie.1))
        ];
  }
    where
      named : {r : Release} {i k : ℕ} → IsJob U steady until r i k → task_named U r.name ≡ Some i
      named {r} {i} j =
          ap (λ x. task_named U x.name) j.is
          ∙ ap (task_named U) (name_is U steady (offset_in steady i) (task_at U i))
          ∙ found U set.distinct i j.in_set

  -- a kernel refuses no such list
  pub kernel_takes : (until : ℕ) → list_refusal U steady until ≡ None
      → refusal_of U (densest_of U steady until) until ≡ None
  kernel_takes until h =
      let w = within_from until (count_refusal (ss U steady) until) h in
      none_refused set (fits U steady) until w.0 (few_from _ w.1)

-- so the list of the tasks' streams, where there is one, is refused by none
pub accepted_if : {X : Type 0} {U : List Task} (steady : List SteadyTask) {until : ℕ} {streams : List Stream}
    (items : X → List Release) (r : Result X RunFault) → IsTaskSet U → until ≤ 60000000
    → streams ≡ streams_of U steady
    → MatchResult r (λ x. (count_refusal streams until ≡ None) × (items x ≡ list_of streams until))
    (λ e. IsRefusal e (count_refusal streams until))
    → IfOk r (λ x. refusal_of U (items x) until ≡ None)
accepted_if steady items (Err e) set horizon same h = tt
accepted_if {U = U} steady {until = until} items (Ok x) set horizon same h =
    rw (h.1, same)
    (none_refused set (fits U steady) until horizon (few_from _ (rw same at h.0)))
