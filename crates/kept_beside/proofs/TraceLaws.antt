-- Each run beside timers and interrupts has traces.
use Rattle.std.proofs.Common.{ℕ, zero, suc, ◌+◌, ◌<◌, ◌≤◌, ◌≡◌, inl, inr, refl, sym, ap, ◌∙◌, subst, arith}
use Rattle.std.proofs.Common.{List, [], ◌∷◌, length, Option, Some, None}
use Rattle.std.proofs.lemmas.Bool.{cases_Bool, cases_eq, cases_lt}
use Rattle.std.proofs.lemmas.Option.{none-some}
use Rattle.ceiling_kernel.specs.Tick.{Node, Job, job_at, job_task, pick}
use Rattle.ceiling_kernel.specs.Waits.{AreLegalJobs}
use Rattle.interrupted_runs.specs.Interrupted.{executed_beside, is_taken}
use Rattle.interrupted_runs.proofs.BesideLaws.{ruled_parts}
use Rattle.trace_text.specs.declared.rows.TraceJob.{TraceJob}
use Rattle.trace_text.specs.declared.rows.TraceSlice.{TraceSlice}
use Rattle.kept_beside.specs.ShownSlices.{AllShow, AreShown, IsThere, ShowTicks}
use Rattle.kept_beside.specs.ShownJobs.{AreJobLines, IsFinish, IsJobLine}
use Rattle.kept_beside.specs.Traces.{HasTrace, shown_as_nobodys, shown_as_picked}

module _ (comes : ℕ → ℕ) (node : Node) (jobs : List Job) where
  abbrev executed : (t j : ℕ) → ℕ
  executed t j = executed_beside comes node jobs t j

  -- whom the tick rule picks is there
  picked_there : (t p : ℕ) → pick node jobs (executed_beside comes node jobs t) t ≡ Some p
      → IsThere comes node jobs t p
  picked_there t p is =
      let own = ruled_parts comes node jobs t p is in
      record { is_job = own.0; ready = own.1; lacks = own.2 }

  pub as_picked : AreShown comes node jobs (shown_as_picked comes node jobs)
  as_picked = record { ruled = λ t free. refl; there = picked_there }

  pub as_nobodys : AreShown comes node jobs (shown_as_nobodys comes node jobs)
  as_nobodys = record {
    ruled = λ t free. rw free refl;
    there = λ t p is. elim (cases_Bool (is_taken comes t)) [
      | inl took ↦
          let never : ◌≡◌ {A = Option ℕ} None (Some p) = rw took at is in
          absurd (none-some p never)
      | inr free ↦ picked_there t p (rw free at is)
    ];
  }

  -- ---- a slice for each tick
  module _ (numbers : List ℕ) (shown : ℕ → Option ℕ) where
    abbrev slice_in : (t p : ℕ) → TraceSlice
    slice_in t p = record { line = 0; start = t; stop = t + 1; name = (job_task node jobs p).name; priority = None }

    ticks : (until n from : ℕ) → from + n ≡ until
        → (ss : List TraceSlice) × ShowTicks comes node numbers jobs shown from until ss
    ticks until zero from whole = ([], λ t after before. absurd (omega (arith, whole, after, before)))
    ticks until (suc n) from whole =
        let rest = ticks until n (from + 1) (omega (arith, whole)) in
        elim (shown from) as (λ o. shown from ≡ o
        → (ss : List TraceSlice) × ShowTicks comes node numbers jobs shown from until ss) [
          | None ↦ λ is. (rest.0, earlier until from rest.0 (omega (arith, whole)) is rest.1)
          | Some p ↦ λ is. (
            slice_in from p ∷ rest.0,
            (
              omega arith,
              omega arith,
              omega (arith, whole),
              λ t after before. absurd (omega (arith, after, before)),
              inr (
                p,
                record {
                  name = refl;
                  all = λ t after before.
                      let same : from ≡ t = omega (arith, after, before) in
                      ap shown (sym same) ∙ is;
                  priority = tt;
                },
              ),
              rest.1,
            ),
          )
        ] refl
      where
        none_from : (from to : ℕ) → shown from ≡ None → AllShow shown (from + 1) to None
            → AllShow shown from to None
        none_from from to none h t after before = elim (cases_eq t from) [
          | inl same ↦ ap shown same ∙ none
          | inr more ↦ h t (omega (arith, after, more)) before
        ]

        earlier : (until from : ℕ) (ss : List TraceSlice) → from < until → shown from ≡ None
            → ShowTicks comes node numbers jobs shown (from + 1) until ss
            → ShowTicks comes node numbers jobs shown from until ss
        earlier until from [] lt none h = none_from from until none h
        earlier until from (s ∷ ss) lt none h =
            (omega (arith, h.0), h.1, h.2, none_from from s.start none h.3, h.4, h.5)

  -- ---- a line for each job
  finish_in : (j until : ℕ) → (o : Option ℕ) × IsFinish comes node jobs until j o
  finish_in j zero = elim (cases_lt (executed 0 j) (job_at jobs j).executes) [
    | inl open_ ↦ (
      None,
      λ t le. (let start : 0 ≡ t = omega (arith, le) in
          subst (λ u. executed u j < (job_at jobs j).executes) start open_),
    )
    | inr done ↦ (Some 0, (omega arith, done, λ t early. absurd (omega (arith, early))))
  ]
  finish_in j (suc until) =
      let before = finish_in j until in
      elim before.0 as (λ o. IsFinish comes node jobs until j o
      → (o : Option ℕ) × IsFinish comes node jobs (suc until) j o) [
        | Some f ↦ λ h. (Some f, (omega (arith, h.0), h.1, h.2))
        | None ↦ λ never. elim (cases_lt (executed (suc until) j) (job_at jobs j).executes) [
          | inl open_ ↦ (
            None,
            λ t le. elim (cases_eq t (suc until)) [
              | inl same ↦ subst (λ u. executed u j < (job_at jobs j).executes) (sym same) open_
              | inr less ↦ never t (omega (arith, le, less))
            ],
          )
          | inr done ↦ (Some (suc until), (omega arith, done, λ t early. never t (omega (arith, early))))
        ]
      ] before.1

  lines_in : (until : ℕ) → AreLegalJobs node jobs
      → ((j : ℕ) → j < length jobs → (job_at jobs j).arrival ≤ until)
      → (n j : ℕ) → j + n ≡ length jobs
      → (rows : List TraceJob) × AreJobLines comes node jobs until j rows
  lines_in until legal arrived zero j whole = ([], omega (arith, whole))
  lines_in until legal arrived (suc n) j whole =
      let rest = lines_in until legal arrived n (j + 1) (omega (arith, whole)) in
      let lt : j < length jobs = omega (arith, whole) in
      let finish = finish_in j until in
      let row : TraceJob = record {
        line = 0;
        name = (job_task node jobs j).name;
        arrival = (job_at jobs j).arrival;
        finish = finish.0;
        ready = None;
      } in
      let own : IsJobLine comes node jobs until j row = record {
        name = refl;
        no_sooner = omega arith;
        no_later = legal.not_early j lt;
        in_run = arrived j lt;
        ready = tt;
        finish = finish.1;
      } in
      (row ∷ rest.0, (own, rest.1))

  pub has_trace : (numbers : List ℕ) (shown : ℕ → Option ℕ) (until : ℕ) → AreLegalJobs node jobs
      → ((j : ℕ) → j < length jobs → (job_at jobs j).arrival ≤ until)
      → HasTrace comes node numbers jobs shown until
  has_trace numbers shown until legal arrived =
      let ss = ticks numbers shown until until 0 (omega arith) in
      let rows = lines_in until legal arrived (length jobs) 0 (omega arith) in
      record { slices = ss.0; ticks = ss.1; rows = rows.0; lines = rows.1 }
