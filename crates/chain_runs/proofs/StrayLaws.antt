-- A task has no line exactly where its jobs keep the clock.
use Rattle.std.proofs.Common.{ℕ, zero, suc, ◌+◌, ◌*◌, ◌/◌, ◌%◌, ◌<◌, ◌≡◌, ◌==◌, inl, inr, refl, sym, ap, ◌∙◌, arith}
use Rattle.std.proofs.Common.{true, false, List, [], ◌∷◌, length, Option, Some, None}
use Rattle.std.specs.Prelude.{Bool, not, ◌&&◌}
use Rattle.std.specs.List.{find}
use Rattle.std.proofs.Math.Nat.{add-mul-mod_self_right, mod-add-div', mod-eq_of_lt}
use Rattle.std.proofs.lemmas.Bool.{and_right, cases_Bool, cases_eq, cond-false, cond-true, eq-eqb, eqb-true, ne_eqb}
use Rattle.ceiling_kernel.specs.declared.trace.JobRecord.{JobRecord}
use Rattle.ceiling_kernel.specs.declared.trace.Release.{Release}
use Rattle.ceiling_kernel.proofs.Common.{Node, Job, job_at, jobs_of, release_at, task_number, record_of, records_from}
use Rattle.ceiling_kernel.proofs.ReleaseLaws.{job_is, jobs_length}
use Rattle.task_sheet.specs.Sheet.{task_at}
use Rattle.chains.specs.Clocks.{KeepsClock}
use Rattle.chains.specs.Gaps.{gap_of}
use Rattle.chain_runs.specs.Strays.{is_stray, phase_of, stray_words, StraysAreTold}

module _ (node : Node) (jobs : List Job) (until i offset : ℕ) where
  -- a release is of the task, and doesn't arrive at the offset
  abbrev is_off : Release → Bool
  is_off r = (task_number node.tasks r == i) && not (phase_of node.tasks i r.time == offset)

  -- ---- the first stray
  none_off : (k : ℕ) (rs : List Release)
      → find (is_stray node.tasks i offset) (records_from node jobs until k rs) ≡ None
      → (j : ℕ) → j < length rs → is_off (release_at rs j) ≡ false
  none_off k [] none j lt = absurd (omega arith)
  none_off k (r ∷ rs) none j lt =
      let job : JobRecord = record_of node jobs until k r in
      let rest : Option JobRecord = find (is_stray node.tasks i offset) (records_from node jobs until (k + 1) rs) in
      elim (cases_Bool (is_off r)) [
        | inl off ↦
            let some : Some job ≡ None = sym (cond-true (is_off r) (Some job) rest off) ∙ none in
            absurd cc
        | inr on ↦ at j lt on (none_off (k + 1) rs (sym (cond-false (is_off r) (Some job) rest on) ∙ none))
      ]
    where
      at : (j : ℕ) → j < length (r ∷ rs) → is_off r ≡ false
          → ((h : ℕ) → h < length rs → is_off (release_at rs h) ≡ false)
          → is_off (release_at (r ∷ rs) j) ≡ false
      at zero lt on more = on
      at (suc j) lt on more = more j (omega arith)

  off_none : (k : ℕ) (rs : List Release) → ((j : ℕ) → j < length rs → is_off (release_at rs j) ≡ false)
      → find (is_stray node.tasks i offset) (records_from node jobs until k rs) ≡ None
  off_none k [] all = refl
  off_none k (r ∷ rs) all =
      let first : is_off r ≡ false = all 0 (omega arith) in
      rw first (off_none (k + 1) rs (λ j lt. all (suc j) (omega arith)))

-- ---- a line
-- none is told where there is none
untold : (node : Node) (i offset : ℕ) (o : Option JobRecord) → stray_words node.tasks i offset o ≡ [] → o ≡ None
untold node i offset None none = refl
untold node i offset (Some job) none = absurd cc

-- what is at its offset
at_offset : (b : Bool) → not b ≡ false → b ≡ true
at_offset true is = refl
at_offset false is = absurd cc

pub strays_law : StraysAreTold
strays_law node rs until trace i offset ran below = (
  λ none j lt own.
      let less : j < length rs = omega (arith, lt, jobs_length node.tasks rs) in
      let job = job_is node.tasks rs j less in
      let number : task_number node.tasks (release_at rs j) ≡ i = sym (ap (λ (x : Job). x.task) job) ∙ own in
      let time : (job_at (jobs_of node.tasks rs) j).arrival ≡ (release_at rs j).time = ap (λ (x : Job). x.arrival) job in
      let first : find (is_stray node.tasks i offset) (records_from node (jobs_of node.tasks rs) until 0 rs) ≡ None =
      ap (λ xs. find (is_stray node.tasks i offset) xs) (sym ran.2.jobs)
      ∙ untold node i offset (find (is_stray node.tasks i offset) trace.jobs.items) none in
      let on = none_off node (jobs_of node.tasks rs) until i offset 0 rs first j less in
      let phase : (release_at rs j).time % gap_of (task_at node.tasks i) ≡ offset = eqb-true _ _
      (at_offset _ (sym (ap (λ b. b && not (phase_of node.tasks i (release_at rs j).time == offset))
      (eq-eqb (task_number node.tasks (release_at rs j)) i number)) ∙ on)) in
      ((release_at rs j).time / gap_of (task_at node.tasks i), omega (arith, time, phase, mod-add-div' (release_at rs j).time (gap_of (task_at node.tasks i)))),
  λ keeps.
      ap (stray_words node.tasks i offset)
      (ap (λ xs. find (is_stray node.tasks i offset) xs) ran.2.jobs
      ∙ off_none node (jobs_of node.tasks rs) until i offset 0 rs (λ j lt. on keeps j lt)),
)
  where
    on : KeepsClock node (jobs_of node.tasks rs) 0 offset i → (j : ℕ) → j < length rs
        → (task_number node.tasks (release_at rs j) == i) && not (phase_of node.tasks i (release_at rs j).time == offset)
        ≡ false
    on keeps j lt = elim (cases_eq (task_number node.tasks (release_at rs j)) i) [
      | inr other ↦ ap (λ b. b && not (phase_of node.tasks i (release_at rs j).time == offset))
          (ne_eqb (task_number node.tasks (release_at rs j)) i other)
      | inl own ↦
          let job = job_is node.tasks rs j lt in
          let at = keeps j (omega (arith, lt, jobs_length node.tasks rs)) (ap (λ (x : Job). x.task) job ∙ own) in
          let time : (release_at rs j).time ≡ offset + at.0 * gap_of (task_at node.tasks i) = omega (
            arith,
            at.1,
            ap (λ (x : Job). x.arrival) job,
          ) in
          let phase : (release_at rs j).time % gap_of (task_at node.tasks i) ≡ offset =
          ap (λ t. t % gap_of (task_at node.tasks i)) time ∙ add-mul-mod_self_right offset at.0 (gap_of (task_at node.tasks i)) ∙ mod-eq_of_lt below in
          and_right (task_number node.tasks (release_at rs j) == i) (not (phase_of node.tasks i (release_at rs j).time == offset))
          (ap not (eq-eqb _ _ phase))
    ]
