-- The same jobs, but that one of them executes its task's whole cost, without a section: these are legal, too, and their
-- run is the same until that job starts.
use Rattle.std.proofs.Common.{ℕ, zero, suc, ◌<◌, ◌≤◌, ◌≡◌, ◌≢◌, inl, inr, refl, sym, ap, ◌∙◌}
use Rattle.std.proofs.Common.{subst, arith, Bool, Option, Some, None, List, [], length}
use Rattle.std.proofs.Common.{slice_set, nat_le, nat_lt, ◌&&◌, max}
use Rattle.std.proofs.lemmas.Bool.{cases_eq, lt-ltb}
use Rattle.std.proofs.lemmas.List.{length-set, get_or-set_same, get_or-set_other}
use Rattle.task_sheet.proofs.Common.{task_at}
use Rattle.ceiling_kernel.specs.Behaviours.{IsWithinSheet}
use Rattle.ceiling_kernel.specs.Tick.{no_job, best, better_of, one_more, is_pending}
use Rattle.ceiling_kernel.proofs.Common.{Node, Job, job_at, job_task, executed_before, picked}
use Rattle.ceiling_kernel.proofs.Common.{active_of, held_ceiling, level_in_order, level_of_job}
use Rattle.ceiling_kernel.proofs.Common.{AreLegalJobs, lateness_of}
use Rattle.ceiling_kernel.proofs.MachineLaws.{tick_of, start_of}
use Rattle.ceiling_kernel.proofs.FinishLaws.{done_grows}
use Rattle.chains.proofs.BelowLaws.{nothing_held}

-- the pick depends on what is asked of the jobs alone
best_alike : (p q : ℕ → Bool) (a b l m : ℕ → ℕ) (n : ℕ) → ((k : ℕ) → p k ≡ q k)
    → ((k : ℕ) → a k ≡ b k) → ((k : ℕ) → l k ≡ m k) → best p a l n ≡ best q b m n
unfolding best
best_alike p q a b l m zero hp ha hl = refl
best_alike p q a b l m (suc n) hp ha hl =
    let before = best_alike p q a b l m n hp ha hl in
    rw before (elim (best q b m n) as (λ r. better_of p a l r n ≡ better_of q b m r n) [
      | None ↦ rw (hp n)
      | Some k ↦ rw (hp n, ha n, ha k, hl n, hl k)
    ])

one_more_same : (r : Option ℕ) (f g : ℕ → ℕ) (j : ℕ) → f j ≡ g j → one_more r f j ≡ one_more r g j
one_more_same None f g j e = e
one_more_same (Some p) f g j e = rw e

module _ (node : Node) (jobs : List Job) (k : ℕ) (lt : k < length jobs) where
  -- job k executes its task's cost, without a section
  abbrev pub calm_job : Job
  calm_job = record {
    task = (job_at jobs k).task;
    arrival = (job_at jobs k).arrival;
    ready = (job_at jobs k).ready;
    executes = (job_task node jobs k).cost;
    sections = [];
  }

  abbrev pub calm : List Job
  calm = slice_set jobs k calm_job

  pub calm_length : length calm ≡ length jobs
  calm_length = length-set jobs k calm_job

  pub calm_own : job_at calm k ≡ calm_job
  calm_own = get_or-set_same jobs k calm_job no_job lt

  pub calm_other : (j : ℕ) → j ≢ k → job_at calm j ≡ job_at jobs j
  calm_other j ne = get_or-set_other jobs k j calm_job no_job ne

  -- what stays of job k stays of all
  pub calm_keeps : (f : Job → ℕ) → f calm_job ≡ f (job_at jobs k) → (j : ℕ)
      → f (job_at calm j) ≡ f (job_at jobs j)
  calm_keeps f e j = elim (cases_eq j k) [
    | inl same ↦ ap (λ x. f (job_at calm x)) same ∙ (ap f calm_own
        ∙ (e ∙ ap (λ x. f (job_at jobs x)) (sym same)))
    | inr ne ↦ ap f (calm_other j ne)
  ]

  abbrev task_same : (j : ℕ) → (job_at calm j).task ≡ (job_at jobs j).task
  task_same = calm_keeps (λ x. x.task) refl

  abbrev arrival_same : (j : ℕ) → (job_at calm j).arrival ≡ (job_at jobs j).arrival
  arrival_same = calm_keeps (λ x. x.arrival) refl

  abbrev ready_same : (j : ℕ) → (job_at calm j).ready ≡ (job_at jobs j).ready
  ready_same = calm_keeps (λ x. x.ready) refl

  own_within : IsWithinSheet (task_at node.tasks calm_job.task) calm_job
  own_within = record { executes = omega arith; spans = []; taken = omega arith; sections = tt }

  pub calm_legal : AreLegalJobs node jobs → AreLegalJobs node calm
  calm_legal legal = record {
    known = λ j below. omega (arith, legal.known j (omega (arith, calm_length)), task_same j);
    not_early = λ j below. omega (
      arith,
      legal.not_early j (omega (arith, calm_length)),
      arrival_same j,
      ready_same j,
    );
    not_late = λ j below. omega (
      arith,
      legal.not_late j (omega (arith, calm_length)),
      arrival_same j,
      ready_same j,
      ap (λ i. lateness_of (task_at node.tasks i)) (task_same j),
    );
    spaced = λ i j ij below same. omega (
      arith,
      legal.spaced i j ij (omega (arith, calm_length)) (sym (task_same i) ∙ (same ∙ task_same j)),
      arrival_same i,
      arrival_same j,
      ap (λ x. (task_at node.tasks x).period) (task_same j),
    );
    within = λ j below. elim (cases_eq j k) [
      | inl same ↦ subst (λ x. IsWithinSheet (task_at node.tasks x.task) x)
          (sym (ap (job_at calm) same ∙ calm_own)) own_within
      | inr ne ↦ subst (λ x. IsWithinSheet (task_at node.tasks x.task) x) (sym (calm_other j ne))
          (legal.within j (omega (arith, calm_length)))
    ];
  }

  -- as long as job k has executed nothing, all is the same that is the same of it
  alike : {X : Type 0} (f : Job → ℕ → X) (u : ℕ)
      → ((i : ℕ) → executed_before node calm u i ≡ executed_before node jobs u i)
      → executed_before node jobs u k ≡ 0 → f calm_job 0 ≡ f (job_at jobs k) 0 → (j : ℕ)
      → f (job_at calm j) (executed_before node calm u j)
      ≡ f (job_at jobs j) (executed_before node jobs u j)
  alike f u before none e j = ap (f (job_at calm j)) (before j) ∙ elim (cases_eq j k) [
    | inr ne ↦ ap (λ x. f x (executed_before node jobs u j)) (calm_other j ne)
    | inl same ↦ ap (λ x. f (job_at calm x) (executed_before node jobs u x)) same
        ∙ (ap (f (job_at calm k)) none ∙ (ap (λ x. f x 0) calm_own
        ∙ (e ∙ (ap (f (job_at jobs k)) (sym none)
        ∙ ap (λ x. f (job_at jobs x) (executed_before node jobs u x)) (sym same)))))
  ]

  -- so the same job is picked
  pick_same : (u : ℕ) → 0 < (job_at jobs k).executes
      → (job_at jobs k).executes ≤ (job_task node jobs k).cost
      → ((i : ℕ) → executed_before node calm u i ≡ executed_before node jobs u i)
      → executed_before node jobs u k ≡ 0 → picked node calm u ≡ picked node jobs u
  unfolding picked
  pick_same u some most before none =
      let pending = alike (λ x e. nat_le x.ready u && nat_lt e x.executes) u before none
      (rw (lt-ltb 0 (job_task node jobs k).cost (omega arith), lt-ltb 0 (job_at jobs k).executes some))
      in
      let active = alike (λ x e. max (level_in_order node x.task) (held_ceiling node x.sections e)) u
      before none (ap (max (level_in_order node (job_at jobs k).task))
      (sym (nothing_held node (job_at jobs k).sections))) in
      let level = alike (λ x e. level_in_order node x.task) u before none refl in
      ap (best (is_pending calm (executed_before node calm u) u)
      (active_of node calm (executed_before node calm u)) (level_of_job node calm)) calm_length
      ∙ best_alike (is_pending calm (executed_before node calm u) u)
      (is_pending jobs (executed_before node jobs u) u)
      (active_of node calm (executed_before node calm u))
      (active_of node jobs (executed_before node jobs u)) (level_of_job node calm)
      (level_of_job node jobs) (length jobs) pending active level

  -- the run is the same as long as job k has executed nothing
  pub same_until : (s : ℕ) → 0 < (job_at jobs k).executes
      → (job_at jobs k).executes ≤ (job_task node jobs k).cost
      → executed_before node jobs s k ≡ 0 → (u : ℕ) → u ≤ s → (j : ℕ)
      → executed_before node calm u j ≡ executed_before node jobs u j
  same_until s some most none zero le j = start_of node calm j ∙ sym (start_of node jobs j)
  same_until s some most none (suc u) le j =
      let before : (i : ℕ) → executed_before node calm u i ≡ executed_before node jobs u i =
      same_until s some most none u (omega arith) in
      let nothing : executed_before node jobs u k ≡ 0 =
      omega (arith, done_grows node jobs k u s (omega arith)) in
      tick_of node calm u j
      ∙ (ap (λ r. one_more r (executed_before node calm u) j) (pick_same u some most before nothing)
      ∙ (one_more_same (picked node jobs u) (executed_before node calm u)
      (executed_before node jobs u) j (before j) ∙ sym (tick_of node jobs u j)))
