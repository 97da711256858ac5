-- A task that must miss its deadline misses it in its worst case.
use Rattle.std.proofs.Common.{◌≡◌, ◌≢◌, ℕ, ◌+◌, ◌-◌, ◌<◌, ◌≤◌, ◌⊎◌, inl, inr, true, Some}
use Rattle.std.proofs.Common.{None, Option, List, ◌∷◌, length, get_or, refl, sym, ◌∙◌, ap, subst}
use Rattle.std.proofs.Common.{arith}
use Rattle.std.specs.Prelude.{unwrap_or, Contains}
use Rattle.std.proofs.lemmas.Option.{get_or_from_slice_get, slice_get_within}
use Rattle.std.proofs.lemmas.Bool.{cases_lt, cases_eq, eq-eqb, lt-ltb, ltb-true}
use Rattle.task_sheet.proofs.Common.{Task, CriticalSection, IsValidSheet, no_task, task_at}
use Rattle.task_sheet.proofs.Common.{IsTaskSet, with_index, among, reaches, limit_of, blocking_of}
use Rattle.task_sheet.proofs.Common.{releases_within, Passes}
use Rattle.ceiling_kernel.specs.declared.trace.Release.{Release}
use Rattle.ceiling_kernel.specs.Tick.{Node, Job, job_at, job_task, level_in_order}
use Rattle.ceiling_kernel.specs.Tick.{is_inside, executed_before}
use Rattle.ceiling_kernel.specs.Behaviours.{cut_at}
use Rattle.ceiling_kernel.specs.Waits.{IsNode, AreLegalJobs, lateness_of, Overruns, NoOverrun}
use Rattle.ceiling_kernel.specs.Bounds.{above_of, after_of, ready_within, work_of, PassesBy}
use Rattle.ceiling_kernel.specs.Bounds.{CoversBy, response_by}
use Rattle.ceiling_kernel.specs.Readings.{IsFinishAt}
use Rattle.ceiling_kernel.specs.Releases.{task_named, task_number, job_of, jobs_of}
use Rattle.ceiling_kernel.specs.Releases.{release_at, ready_of, refusal_of}
use Rattle.ceiling_kernel.proofs.NodeLaws.{sound, after_is_above}
use Rattle.ceiling_kernel.proofs.SectionLaws.{inside_from}
use Rattle.ceiling_kernel.proofs.ReleaseLaws.{job_is, jobs_length}
use Rattle.ceiling_kernel.proofs.EndLaws.{legal_from}
use Rattle.ceiling_kernel.proofs.BoundLaws.{bound_law}
use Rattle.ceiling_kernel.proofs.CutLaws.{whole_law}
use Rattle.explain.specs.Blocking.{BlockerData, IsBlockerOf}
use Rattle.release_list.proofs.TaskNumbers.{found}
use Rattle.release_list.specs.declared.stream.Stream.{Stream}
use Rattle.release_list.specs.Streams.{stream_at, late_at, list_of, arrival_of, job_release}
use Rattle.miss.specs.Exact.{IsWhole, IsHeldUp, IsWorst, EndsLow, NoneCovers}
use Rattle.miss.specs.Misses.{lead_of, instant_of, worst_streams, IsWorstCase}
use Rattle.miss.specs.Misses.{MustMiss, WorstCaseMisses}
use Rattle.miss.specs.Shown.{AboveAllPass}
use Rattle.miss.specs.Reached.{IsLeastCover, WorstCaseReaches}
use Rattle.release_list.proofs.ArrivalLaws.{IsArrival, arrivals_apart, numbered}
use Rattle.release_list.proofs.JobLaws.{IsIn, IsOf, HavePeriods, of_at, order_at, arrived}
use Rattle.release_list.proofs.JobLaws.{before_end, job_in}
use Rattle.release_list.proofs.FitLaws.{AreFit, some_period, number_is, none_refused}
use Rattle.miss.proofs.DenseLaws.{dense}
use Rattle.miss.proofs.MemberLaws.{member_in, above_place}
use Rattle.ceiling_kernel.proofs.FinishLaws.{done_grows}
use Rattle.miss.proofs.LeadLaws.{leads}
use Rattle.miss.proofs.ReachLaws.{ceiling_reaches}
use Rattle.miss.proofs.WorstLaws.{misses_law}
use Rattle.miss.proofs.ExactLaws.{exact_law}
use Rattle.miss.proofs.CaseLaws.{tasks_of, IsMember, IsBlocker, member_at, blocker_at}
use Rattle.miss.proofs.CaseLaws.{streams_length, which, index_of, IsPlacedBlocker, placed}
use Rattle.miss.proofs.CaseLaws.{instant_small, member_late, fit}

-- what is known of the worst case of task i, of which one job is the task's
pub record CaseFacts (node : Node) (i : ℕ) (rs : List Release) (until : ℕ) : Type 0 where
  pub accepted : refusal_of node.tasks rs until ≡ None
  pub job : ℕ
  pub is_job : job < length rs
  pub of_task : task_number node.tasks (release_at rs job) ≡ i
  pub due : (release_at rs job).time + (task_at node.tasks i).deadline ≡ until
  pub ready : ready_of (release_at rs job) + limit_of (task_at node.tasks i) ≡ until
  pub only : (k : ℕ) → k < length rs → task_number node.tasks (release_at rs k) ≡ i → k ≡ job
  -- a job that overruns the one before it is of a task above, and none does below tasks that pass
  pub overrun_above : (k : ℕ) → k < length (jobs_of node.tasks rs)
      → Overruns node (jobs_of node.tasks rs) k
      → above_of node i (job_at (jobs_of node.tasks rs) k).task ≡ true
  pub no_overrun : AboveAllPass node i → NoOverrun node (jobs_of node.tasks rs)
  pub late : MustMiss node i → executed_before node (jobs_of node.tasks rs) until job
      < (job_at (jobs_of node.tasks rs) job).executes
  pub reaches : EndsLow node i → (r : ℕ) → IsLeastCover node i r
      → IsFinishAt node (jobs_of node.tasks rs) job (ready_of (release_at rs job) + r)

module _ (node : Node) (ok : IsNode node) (i : ℕ) (lt : i < length node.tasks) (b : Option
    BlockerData) (is_b : IsBlockerOf node.tasks i (among (after_of node.order i)) b) (until : ℕ)
    (ends : until ≡ instant_of node.tasks (i ∷ after_of node.order i) b + limit_of
    (task_at node.tasks i))
    (few : length (list_of (worst_streams node.tasks (i ∷ after_of node.order i) b until) until)
    ≤ 10000) where
  abbrev U : List Task
  U = node.tasks

  abbrev members : List ℕ
  members = i ∷ after_of node.order i

  abbrev start : ℕ
  start = instant_of U members b

  abbrev ss : List Stream
  ss = worst_streams U members b until

  abbrev index : ℕ → ℕ
  index q = index_of U members start until b q

  abbrev rs : List Release
  rs = list_of ss until

  abbrev jobs : List Job
  jobs = jobs_of U rs

  abbrev limit : ℕ
  limit = limit_of (task_at U i)

  set : IsTaskSet node.tasks
  set = ok.tasks

  valid : (k : ℕ) → k < length U → IsValidSheet (task_at U k)
  valid k small = set.valid k no_task small

  limits : (0 < limit) × (limit + lateness_of (task_at U i) ≡ (task_at U i).deadline)
      × (limit ≤ 10000000)
  limits = (let v = valid i lt in
      (omega (arith, v.jitter), omega (arith, v.jitter), omega (arith, v.deadline_to, v.period_to)))

  horizon : until ≤ 60000000
  horizon = (let s = instant_small node ok i lt b is_b until in
      omega (arith, limits.2))

  fits : AreFit U ss index
  fits = fit node ok i lt b is_b until

  periods : HavePeriods ss
  periods = some_period set fits

  accepted : refusal_of U rs until ≡ None
  accepted = none_refused set fits until horizon few

  legal : AreLegalJobs node jobs
  legal = legal_from node rs until ok accepted

  long : length jobs ≡ length rs
  long = jobs_length U rs

  -- ---- jobs and streams
  job_is_of : (p : ℕ) (r : Release) → p < length rs → release_at rs p ≡ r
      → job_at jobs p ≡ job_of U r
  job_is_of p r small is = job_is U rs p small ∙ ap (job_of U) is

  number_of_stream : (q k : ℕ) → q < length ss
      → task_number U (job_release (stream_at ss q) k) ≡ index q
  number_of_stream q k small =
      let f = fits.each q small in
      ap (λ x. unwrap_or x (length U))
      (ap (task_named U) f.named ∙ found U set.distinct (index q) f.in_set)

  -- a job is of a stream
  pub record OfStream (p q : ℕ) : Type 0 where
    pub in_list : p < length rs
    pub is_of : IsOf ss until (release_at rs p) q

  of_stream : (p : ℕ) → p < length rs → (q : ℕ) × OfStream p q
  of_stream p small =
      (let f = of_at ss until p small in (f.0, record { in_list = small; is_of = f.1 }))

  task_is : (p q : ℕ) → OfStream p q → (job_at jobs p).task ≡ index q
  task_is p q o = ap (λ (x : Job). x.task) (job_is U rs p o.in_list)
      ∙ number_is set fits o.is_of

  arrival_is : (p : ℕ) → p < length rs → ((job_at jobs p).arrival ≡ (release_at rs p).time)
      × ((job_at jobs p).ready ≡ ready_of (release_at rs p))
  arrival_is p small = (
    ap (λ (x : Job). x.arrival) (job_is U rs p small),
    ap (λ (x : Job). x.ready)
        (job_is U rs p small),
  )

  ends_before : (p : ℕ) → p < length rs → ready_of (release_at rs p) < until
  ends_before p small = before_end (of_stream p small).1.is_of

  -- it executes its cost
  whole_job : (p : ℕ) → p < length rs → IsWhole (job_task node jobs p) (job_at jobs p)
  whole_job p small =
      let o = of_stream p small in
      let r : Release = release_at rs p in
      let n : ℕ = task_number U (release_at rs p) in
      let job = job_is U rs p small in
      let task = ap (λ (x : Job). x.task) job in
      let known = subst (λ k. k < length U) task (legal.known p (omega (arith, small, long))) in
      let runs = ap (λ (x : Release). unwrap_or x.runs (task_at U (task_number U (release_at rs
      p))).cost)
      o.1.is_of.is in
      record {
        executes = ap (λ (x : Job). x.executes) job
            ∙ (runs ∙ ap (λ k. (task_at U k).cost) (sym task));
        sections = ap (λ (x : Job). x.sections) job
            ∙ (ap (λ e. cut_at e (task_at U (task_number U (release_at rs p))).sections) runs
            ∙ (whole_law node ok (task_number U (release_at rs p)) known
            ∙ ap (λ k. (task_at U k).sections) (sym task)));
      }

  -- it arrives at the first arrival of the stream, as late as the stream says, or a period later at
  -- least
  times_of : (p q : ℕ) → OfStream p q → ((release_at rs p).time ≡ (stream_at ss q).first)
      × ((release_at rs p).late ≡ (stream_at ss q).late)
      ⊎ ((stream_at ss q).first + (stream_at ss q).period ≤ (release_at rs p).time)
  times_of p q o =
      let r : Release = release_at rs p in
      let s : Stream = stream_at ss q in
      let a = arrived o.is_of in
      let late = ap (λ (x : Release). x.late) o.is_of.is in
      elim (cases_eq r.time s.first) [
        | inl first ↦
            let e = eq-eqb r.time s.first first in
            let own : late_at r.time s ≡ s.late = rw e refl in
            inl (first, late ∙ own)
        | inr later ↦
            let n = numbered s 0 (periods q o.is_of.in_set) in
            let z : arrival_of s 0 ≡ s.first = omega arith in
            let zero_first = subst (λ x. IsArrival x s) z n.0 in
            let from = a.from in
            inr (arrivals_apart s.first r.time s (periods q o.is_of.in_set) (omega arith)
            zero_first a)
      ]

  -- of two jobs of one task the second comes a period of their stream after the first
  pub record Apart (j k : ℕ) : Type 0 where
    pub stream : ℕ
    pub first : OfStream j stream
    pub second : OfStream k stream
    pub apart : (release_at rs j).time + (stream_at ss stream).period ≤ (release_at rs k).time

  apart_of : (j k : ℕ) → j < k → k < length rs → (job_at jobs j).task ≡ (job_at jobs k).task
      → Apart j k
  apart_of j k less small same =
      let o = order_at ss until j k less small in
      let x : OfStream j o.0 = record { in_list = omega arith; is_of = o.2 } in
      let y : OfStream k o.1 = record { in_list = small; is_of = o.3 } in
      let one = fits.distinct o.0 o.1 o.2.in_set o.3.in_set
      (sym (task_is j o.0 x) ∙ (same ∙ task_is k o.1 y)) in
      let early : (release_at rs j).time < (release_at rs k).time =
      elim o.4 [ inl e ↦ e | inr tie ↦ absurd (omega (arith, one, tie.1)) ] in
      let x' = subst (λ q. OfStream j q) one x in
      record {
        stream = o.1;
        first = x';
        second = y;
        apart = arrivals_apart (release_at rs j).time (release_at rs k).time (stream_at ss o.1)
            (periods o.1 o.3.in_set) early (arrived x'.is_of) (arrived y.is_of);
      }

  -- what a member's stream is
  pub record MemberFacts (q k : ℕ) : Type 0 where
    pub in_set : k < length U
    pub up : level_in_order node i ≤ level_in_order node k
    pub index_is : index q ≡ k
    pub first_is : (stream_at ss q).first + lateness_of (task_at U k) ≡ start
    pub late_is : (stream_at ss q).late ≡ lateness_of (task_at U k)
    pub period_is : (stream_at ss q).period ≡ (task_at U k).period
    pub short : lateness_of (task_at U k) < (task_at U k).period

  member_facts : (q : ℕ) → IsMember U members start until b q → MemberFacts q (get_or members q 0)
  member_facts q m =
      let k : ℕ = get_or members q 0 in
      let known = member_in node ok i lt q m.place in
      let v = valid k known.0 in
      let most = member_late node ok i lt b is_b until q m.place in
      let f = ap (λ (s : Stream). s.first) m.stream in
      record {
        in_set = known.0;
        up = known.1;
        index_is = m.index;
        first_is = omega arith;
        late_is = ap (λ (s : Stream). s.late) m.stream;
        period_is = ap (λ (s : Stream). s.period) m.stream;
        short = omega (arith, v.jitter, v.deadline_to);
      }

  -- a member's job is ready at the instant or later
  ready_late : (p q k : ℕ) → OfStream p q → MemberFacts q k → start ≤ ready_of (release_at rs p)
  ready_late p q k o f =
      elim (times_of p q o) [
        | inl first ↦ omega (arith, first.0, first.1, f.first_is, f.late_is)
        | inr later ↦ omega (arith, later, f.first_is, f.period_is, f.short)
      ]

  -- a job is ready then, or is the blocker's
  late_or_blocker : (p : ℕ) → p < length rs → (start ≤ (job_at jobs p).ready)
      ⊎ ((job_at jobs p).task ≡ index (length members))
  late_or_blocker p small =
      let o = of_stream p small in
      elim (which U members start until b o.0 o.1.is_of.in_set) [
        | inl m ↦ inl (omega (
          arith,
          (arrival_is p small).1,
          ready_late p o.0 (get_or members o.0 0) o.1 (member_facts o.0 m),
        ))
        | inr m ↦ inr (task_is p o.0 o.1 ∙ ap index m.place)
      ]

  -- ---- the job that misses
  small_0 : 0 < length ss
  small_0 = omega (arith, streams_length U members start until b)

  member_0 : IsMember U members start until b 0
  member_0 = member_at U members start until b 0 (omega arith)

  facts_0 : MemberFacts 0 i
  facts_0 = member_facts 0 member_0

  the_job : IsIn rs (job_release (stream_at ss 0) 0)
  the_job = job_in ss until periods 0 0 small_0
      (omega (arith, facts_0.first_is, facts_0.late_is, limits.0))

  abbrev j0 : ℕ
  j0 = the_job.0

  job_0 : job_at jobs j0 ≡ job_of U (job_release (stream_at ss 0) 0)
  job_0 = job_is_of j0 (job_release (stream_at ss 0) 0) the_job.1 the_job.2

  task_0 : (job_at jobs j0).task ≡ i
  task_0 = ap (λ (x : Job). x.task) job_0 ∙ (number_of_stream 0 0 small_0 ∙ facts_0.index_is)

  arrival_0 : (job_at jobs j0).arrival + lateness_of (task_at U i) ≡ start
  arrival_0 = (let a = ap (λ (x : Job). x.arrival) job_0 in omega (arith, a, facts_0.first_is))

  ready_0 : (job_at jobs j0).ready ≡ start
  ready_0 = (let a = ap (λ (x : Job). x.ready) job_0 in omega (
    arith,
    a,
    facts_0.first_is,
    facts_0.late_is,
  ))

  -- ---- as many jobs as the analysis counts
  dense_at : (h t : ℕ) → above_of node i h ≡ true → 0 < t → t ≤ limit
      → releases_within (task_at U h) t ≤ ready_within jobs h start t
  dense_at h t on some within =
      let place = above_place node ok i lt h on in
      let q : ℕ = place.0 in
      let m = member_at U members start until b q place.1 in
      let f = member_facts q m in
      let index_h = f.index_is ∙ place.2 in
      let f' = subst (λ k. MemberFacts q k) (sym f.index_is) f in
      let d = dense U set ss index fits until q start
      (omega (arith, streams_length U members start until b, place.1)) f'.period_is f'.late_is
      f'.first_is t some (omega (arith, ends, within)) in
      subst (λ k. releases_within (task_at U k) t ≤ ready_within jobs k start t) index_h d

  -- ---- of which task there is a second job
  -- of a task of which a second job comes, it is above; that comes a period later
  pub record Second (j k : ℕ) : Type 0 where
    pub in_set : (job_at jobs j).task < length U
    pub above : above_of node i (job_at jobs j).task ≡ true
    pub apart : (release_at rs j).time + (task_at U (job_at jobs j).task).period
        ≤ (release_at rs k).time

  second_of : (j k : ℕ) → j < k → k < length rs → (job_at jobs j).task ≡ (job_at jobs k).task
      → Second j k
  second_of j k less kin same_task =
      let a = apart_of j k less kin same_task in
      let q : ℕ = a.stream in
      let before = ends_before k kin in
      elim (which U members start until b q a.first.is_of.in_set) [
        | inr m ↦
            let period_is = ap (λ (s : Stream). s.period) m.stream in
            absurd (omega (arith, a.apart, period_is, before))
        | inl m ↦
            let h : ℕ = get_or members q 0 in
            let f = member_facts q m in
            let task = task_is j q a.first ∙ f.index_is in
            let v = valid h f.in_set in
            elim (cases_eq h i) [
              | inl same ↦
                  let d = ap (λ x. (task_at U x).deadline) same in
                  let l = ap (λ x. lateness_of (task_at U x)) same in
                  let arrives = arrived a.first.is_of in
                  absurd (omega (
                    arith,
                    a.apart,
                    f.period_is,
                    f.first_is,
                    arrives.from,
                    before,
                    ends,
                    limits.1,
                    d,
                    l,
                    v.deadline_to,
                  ))
              | inr other ↦
                  let s = sound node ok in
                  let on : above_of node i h ≡ true =
                  lt-ltb (level_in_order node i) (level_in_order node h)
                  (elim (cases_eq (level_in_order node i) (level_in_order node h)) [
                    | inl tied ↦ absurd (other (sym (s.levels_differ i h lt f.in_set tied)))
                    | inr differ ↦ omega (arith, f.up)
                  ]) in
                  let period = ap (λ x. (task_at U x).period) task in
                  record {
                    in_set = subst (λ x. x < length U) (sym task) f.in_set;
                    above = subst (λ x. above_of node i x ≡ true) (sym task) on;
                    apart = omega (arith, a.apart, f.period_is, period);
                  }
            ]
      ]

  -- a job of a task below is the only one of it
  only_below : (j k : ℕ) → j < length rs → k < length rs → k ≢ j
      → (job_at jobs k).task ≡ (job_at jobs j).task
      → level_in_order node (job_at jobs j).task < level_in_order node i → ⊥
  only_below j k jin kin other same low =
      let not_above : above_of node i (job_at jobs j).task ≡ true → ⊥ = λ on. omega (
        arith,
        low,
        ltb-true (level_in_order node i) (level_in_order node (job_at jobs j).task) on,
      ) in
      not_above (elim (cases_lt k j) [
        | inl less ↦ (let s = second_of k j less jin same in
            subst (λ x. above_of node i x ≡ true) same s.above)
        | inr more ↦ (let s = second_of j k (omega arith) kin (sym same) in s.above)
      ])

  -- ---- the blocker
  abbrev left : ℕ
  left = blocking_of U i (above_of node i) - 1

  same_above : among (after_of node.order i) ≡ above_of node i
  same_above x h = after_is_above node ok i h lt x

  -- the job of its stream has executed the first tick of its section then
  held_by : (q kb lead : ℕ) (m : IsBlocker U members start until b q)
      (p : IsPlacedBlocker node ok i lt b is_b until m.blocker) → q < length ss → kb < length rs
      → release_at rs kb ≡ job_release (stream_at ss q) 0 → lead ≡ p.section.at + 1
      → (stream_at ss q).first + lead ≡ start → (stream_at ss q).late ≡ 0 → left ≢ 0
      → IsHeldUp node jobs start (level_in_order node i) left
  held_by q kb lead m p small kin is lead_is first_is late_is some =
      let job = job_is_of kb (job_release (stream_at ss q) 0) kin is in
      let own = ap (λ (x : Job). x.task) job
      ∙ number_of_stream q 0 small in
      let task = own ∙ m.index in
      let ready = ap (λ (x : Job). x.ready) job in
      let ready' : (job_at jobs kb).ready + lead ≡ start =
      omega (arith, ready, first_is, late_is) in
      let whole = whole_job kb kin in
      let cost_is = ap (λ k. (task_at U k).cost) task in
      let sections_are = ap (λ k. (task_at U k).sections) task in
      let level = ap (λ k. level_in_order node k) task in
      let lower : level_in_order node (job_at jobs kb).task < level_in_order node i =
      omega (arith, level, p.lower) in
      let others : (k : ℕ) → k < length jobs → k ≢ kb
      → (job_at jobs kb).ready + lead ≤ (job_at jobs k).ready = λ k below other.
      let within : k < length rs = omega (arith, long) in
      elim (late_or_blocker k within) [
        | inl late ↦ omega (arith, late, ready')
        | inr theirs ↦ absurd (only_below kb k kin within other
            (theirs ∙ (ap index (sym m.place) ∙ sym own)) lower)
      ] in
      let runs = leads node jobs kb lead (omega (arith, kin, long))
      (omega (arith, whole.executes, cost_is, p.within, p.runs, lead_is)) others lead
      (omega arith) in
      let runs' = subst (λ t. executed_before node jobs t kb ≡ lead) ready' runs in
      let inside = inside_from p.section lead (omega (arith, lead_is)) (omega (
        arith,
        lead_is,
        p.long,
      )) in
      let reached = subst (λ H. reaches U (with_index H i) p.section ≡ true) same_above
      p.blocks.reached in
      let in_sections : Contains (task_at U m.blocker.task).sections p.section = (
        m.blocker.place,
        slice_get_within (task_at U m.blocker.task).sections m.blocker.place p.section
            p.blocks.section,
        get_or_from_slice_get (task_at U m.blocker.task).sections m.blocker.place p.section
            p.section p.blocks.section,
      ) in
      record {
        job = kb;
        is_job = omega (arith, kin, long);
        lower = lower;
        section = p.section;
        of_job = subst (λ (xs : List CriticalSection). Contains xs p.section)
            (sym (whole.sections ∙ sections_are)) in_sections;
        reaches = ceiling_reaches node ok i p.section reached;
        inside = subst (λ x. is_inside p.section x ≡ true) (sym runs') inside;
        to_go = omega (arith, runs', lead_is, p.long);
      }

  held_up : (o : Option BlockerData) → b ≡ o → (left ≡ 0)
      ⊎ IsHeldUp node jobs start (level_in_order node i) left
  held_up None e =
      let none = subst (λ x. IsBlockerOf U i (among (after_of node.order i)) x) e is_b in
      let none' = subst (λ H. blocking_of U i H ≡ 0) same_above none in
      inl (omega arith)
  held_up (Some bb) e =
      elim (cases_eq left 0) [
        | inl none ↦ inl none
        | inr some ↦
            let q : ℕ = length members in
            let m = subst (λ x. IsBlocker U members start until x (length members)) (sym e)
            (blocker_at U members start until bb) in
            let p = placed node ok i lt b is_b until m.blocker m.is in
            let one = ap (λ x. length (tasks_of x)) e in
            let small : q < length ss =
            omega (arith, streams_length U members start until b, one) in
            let lead : ℕ = lead_of U (Some m.blocker) in
            let lead_is = ap (lead_of U) m.is in
            let at_is = ap (λ (x : CriticalSection). x.at) p.is in
            let first_is = ap (λ (s : Stream). s.first) m.stream in
            let late_is = ap (λ (s : Stream). s.late) m.stream in
            let found_at = job_in ss until periods q 0
            small (omega (arith, first_is, late_is, limits.0, ends)) in
            inr (held_by q found_at.0 lead m p small found_at.1 found_at.2 (omega (arith, at_is))
            (omega (arith, first_is, lead_is)) late_is some)
      ]

  -- the task has one job
  not_second : (j k : ℕ) → j < k → k < length rs → (job_at jobs j).task ≡ i
      → (job_at jobs k).task ≡ i → ⊥
  not_second j k less small first second =
      let s = second_of j k less small (first ∙ sym second) in
      let up = ltb-true (level_in_order node i)
      (level_in_order node i) (subst (λ x. above_of node i x ≡ true) first s.above) in
      omega arith

  only_job : (k : ℕ) → k < length rs → task_number U (release_at rs k) ≡ i → k ≡ j0
  only_job k kin mine =
      let task = ap (λ (x : Job). x.task) (job_is U rs k kin) ∙ mine in
      elim (cases_eq k j0) [
        | inl same ↦ same
        | inr other ↦ absurd (elim (cases_lt k j0) [
          | inl less ↦ not_second k j0 less the_job.1 task task_0
          | inr more ↦ not_second j0 k (omega arith) kin task_0 task
        ])
      ]

  -- ---- the worst case of the analysis
  worst : IsWorst node jobs j0 left
  worst = record {
    is_job = omega (arith, the_job.1, long);
    whole = whole_job j0 the_job.1;
    costs = λ k small on from. (let w = whole_job k (omega (arith, small, long)) in w.executes);
    latest = (let l = ap (λ x. lateness_of (task_at U x)) task_0 in omega (
      arith,
      ready_0,
      arrival_0,
      l,
    ));
    dense = λ h t small on some within.
        let on' = subst (λ x. above_of node x h ≡ true) task_0 on in
        let within' = subst (λ x. t ≤ limit_of (task_at U x)) task_0 within in
        subst (λ s. releases_within (task_at U h) t ≤ ready_within jobs h s t) (sym ready_0)
        (dense_at h t on' some within');
    held_up = subst (λ x. (left ≡ 0)
        ⊎ IsHeldUp node jobs (job_at jobs j0).ready (level_in_order node x) left) (sym task_0)
        (subst (λ s. (left ≡ 0) ⊎ IsHeldUp node jobs s (level_in_order node i) left) (sym ready_0)
        (held_up b refl));
  }

  -- below tasks that pass no job overruns the one before it
  no_overrun : AboveAllPass node i → NoOverrun node jobs
  no_overrun pass_above k below over =
      let j : ℕ = over.0 in
      let kin : k < length rs = omega (arith, long) in
      let s = second_of j k over.1 kin over.2 in
      let h : ℕ = (job_at jobs j).task in
      let rk : (job_at jobs k).ready ≡ ready_of (release_at rs k) = (arrival_is k kin).1 in
      let aj : (job_at jobs j).arrival ≡ (release_at rs j).time =
      (arrival_is j (omega (arith, over.1, kin))).0 in
      let v = valid h s.in_set in
      let pass : Passes U h (above_of node h) = pass_above h s.in_set s.above in
      let by : PassesBy node h pass.0 =
      record { from_one = omega (arith, pass.1); in_time = pass.2; enough = pass.3 } in
      let end : ℕ = (job_at jobs j).arrival + response_by (job_task node jobs j) pass.0 in
      let fin = bound_law node jobs ok legal j pass.0 (omega (arith, over.1, below)) by in
      let soon : end ≤ (job_at jobs k).ready =
      omega (arith, pass.2, aj, rk, s.apart, v.jitter, v.deadline_to) in
      omega (arith, over.3, fin, done_grows node jobs j end (job_at jobs k).ready soon)

  misses : MustMiss node i → executed_before node jobs until j0 < (job_at jobs j0).executes
  misses must =
      let deadline_is = ap (λ x. (task_at U x).deadline) task_0 in
      let due : (job_at jobs j0).arrival + (job_task node jobs j0).deadline ≡ until =
      omega (arith, arrival_0, deadline_is, limits.1, ends) in
      subst (λ t. executed_before node jobs t j0 < (job_at jobs j0).executes) due
      (misses_law node jobs ok legal j0 left worst
      (subst (λ x. EndsLow node x) (sym task_0) must.ends_low)
      (subst (λ x. NoneCovers node x left (limit_of (task_at U x))) (sym task_0) must.none_covers))

  -- the finish
  reaches_at : EndsLow node i → (r : ℕ) → IsLeastCover node i r
      → IsFinishAt node jobs j0 ((job_at jobs j0).ready + r)
  reaches_at low r least =
      exact_law node jobs ok legal j0 r
      (subst (λ x. IsWorst node jobs j0 (blocking_of U x (above_of node x) - 1)) (sym task_0) worst)
      (subst (λ x. EndsLow node x) (sym task_0) low)
      (subst (λ x. CoversBy node x r) (sym task_0) least.covers)
      (subst (λ x. (u : ℕ) → 0 < u → u < r → u
      < work_of node x (blocking_of U x (above_of node x) - 1) u) (sym task_0) least.least)

  pub the_facts : CaseFacts node i rs until
  the_facts =
      let a = arrival_is j0 the_job.1 in
      record {
        accepted = accepted;
        job = j0;
        is_job = the_job.1;
        of_task = sym (ap (λ (x : Job). x.task) (job_is U rs j0 the_job.1)) ∙ task_0;
        due = omega (arith, arrival_0, a.0, limits.1, ends);
        ready = omega (arith, ready_0, a.1, ends);
        only = only_job;
        overrun_above = λ k below over.
            (let s = second_of over.0 k over.1 (omega (arith, below, long)) over.2 in
            subst (λ x. above_of node i x ≡ true) over.2 s.above);
        no_overrun = no_overrun;
        late = misses;
        reaches = λ low r least.
            subst (λ t. IsFinishAt node jobs j0 (t + r)) a.1 (reaches_at low r least);
      }

pub case_law : (node : Node) → IsNode node → (i : ℕ) (rs : List Release) (until : ℕ)
    → i < length node.tasks → IsWorstCase node.tasks i (after_of node.order i) rs until
    → length rs ≤ 10000 → CaseFacts node i rs until
case_law node ok i list until lt case few =
    subst (λ (x : List Release). CaseFacts node i x until) (sym case.listed)
    (the_facts node ok i lt case.blocker case.blocks until case.ends
    (subst (λ (x : List Release). length x ≤ 10000) case.listed few))

pub complete_law : (node : Node) → IsNode node → WorstCaseMisses node
complete_law node ok i rs until lt case few must =
    let f = case_law node ok i rs until lt case few in (
      f.job,
      record {
        accepted = f.accepted;
        no_overrun = f.no_overrun must.above_pass;
        is_job = f.is_job;
        of_task = f.of_task;
        due = f.due;
        late = f.late must;
      },
    )

pub reaches_law : (node : Node) → IsNode node → WorstCaseReaches node
reaches_law node ok i rs until r lt case few pass low least =
    let f = case_law node ok i rs until lt case few in (
      f.job,
      record {
        accepted = f.accepted;
        no_overrun = f.no_overrun pass;
        is_job = f.is_job;
        of_task = f.of_task;
      },
      f.reaches low r least,
    )
