-- As each job arrives, the registers of a chain's tasks that write at their deadlines show what was written by then:
-- so what comes of the last one is the chain's outputs.
use Rattle.std.proofs.Common.{ℕ, suc, ap₂, ◌+◌, ◌<◌, ◌≤◌, ◌≡◌, inl, inr, refl, sym, ap, ◌∙◌, subst, arith}
use Rattle.std.proofs.Common.{◌==◌, List, [], ◌∷◌, length, map, Option, Some, None, Ok}
use Rattle.std.proofs.lemmas.Bool.{cases_Bool, cases_eq, cases_lt, cases_order, eq-eqb, le-leb, lt-leb, ne_eqb}
use Rattle.task_sheet.proofs.Common.{IsValidSheet, task_at}
use Rattle.ceiling_kernel.specs.declared.trace.Release.{Release}
use Rattle.ceiling_kernel.specs.declared.trace.Trace.{Trace}
use Rattle.ceiling_kernel.proofs.AcceptLaws.{accepted, sorted_from}
use Rattle.ceiling_kernel.proofs.Common.{AreLegalJobs, IsNode, Node, Job, Runs, job_at, job_task, jobs_of}
use Rattle.ceiling_kernel.proofs.Common.{record_of, records_from}
use Rattle.ceiling_kernel.proofs.EndLaws.{legal_from}
use Rattle.ceiling_kernel.proofs.ReleaseLaws.{job_is, jobs_length}
use Rattle.chains.specs.Starts.{IsReadAt, IsWrittenAt}
use Rattle.chains.specs.Paths.{IsNewest, last_task}
use Rattle.chains.specs.declared.bounds.Writes.TheVariants.{AtDeadline}
use Rattle.chain_runs.specs.DeadlineOutputs.{after_start, blank, handed_on, interval_from, interval_of}
use Rattle.chain_runs.specs.DeadlineOutputs.{intervals_of, last_by, output_by, outputs_by, shown_at}
use Rattle.chain_runs.specs.Outputs.{with_output}
use Rattle.chain_runs.specs.Runs.{AreOutputs}
use Rattle.chain_runs.specs.declared.deadline_outputs.Interval.{Interval}
use Rattle.chain_runs.specs.declared.deadline_outputs.Register.{Register}
use Rattle.chain_runs.specs.declared.outputs.ChainOutput.{ChainOutput}
use Rattle.chain_runs.proofs.OrderLaws.{newest_once, turns_deadline, valid_at, writes_first}
use Rattle.chain_runs.proofs.PathLaws.{HasRead, Is, NoneComes, Sampled, Stands, has_read, is_same, sampled_is}
use Rattle.chain_runs.proofs.PathLaws.{no_cons, stands_on}

task_kept : (v : Interval) (offered : Option ℕ) (r : Register) → (after_start v offered r).task ≡ r.task
task_kept v offered r =
    elim (cases_Bool (r.task == v.task)) [ inl own ↦ rw own refl | inr not ↦ rw not refl ]

-- the tasks stay
tasks_kept : (v : Interval) (offered : Option ℕ) (rs : List Register)
    → map (λ (r : Register). r.task) (handed_on v offered rs) ≡ map (λ (r : Register). r.task) rs
tasks_kept v offered [] = refl
tasks_kept v offered (r ∷ rs) =
    ap₂ (λ (i : ℕ) (tasks : List ℕ). i ∷ tasks) (task_kept v offered r)
    (tasks_kept v (shown_at r v.start) rs)

blank_tasks : (tasks : List ℕ) → map (λ (r : Register). r.task) (map blank tasks) ≡ tasks
blank_tasks [] = refl
blank_tasks (i ∷ tasks) = ap (λ (x : List ℕ). i ∷ x) (blank_tasks tasks)

-- the interval of a job
abbrev of_job : Node → Job → Interval
of_job node j = interval_from node.tasks j.task j.arrival

of_records : (node : Node) (jobs : List Job) (t k : ℕ) (rs : List Release)
    → map (interval_of node.tasks) (records_from node jobs t k rs) ≡ map (of_job node) (jobs_of node.tasks rs)
of_records node jobs t k [] = refl
of_records node jobs t k (r ∷ rs) =
    ap (λ (vs : List Interval). interval_of node.tasks (record_of node jobs t k r) ∷ vs)
    (of_records node jobs t (k + 1) rs)

module _ (node : Node) (jobs : List Job) (valid : IsNode node) (legal : AreLegalJobs node jobs)
    (sorted : (p q : ℕ) → p ≤ q → q < length jobs → (job_at jobs p).arrival ≤ (job_at jobs q).arrival)
  where
    -- ---- what is known of a register once the first n jobs have arrived
    -- it shows what stands of its task, up to when the next job of it arrives
    record IsAt (S : ℕ → ℕ → Type 0) (n : ℕ) (r : Register) : Type 0 where
      shows : (t : ℕ)
          → ((q : ℕ) → q < n → (job_at jobs q).task ≡ r.task → (job_at jobs q).arrival ≤ t)
          → ((q : ℕ) → n ≤ q → q < length jobs → (job_at jobs q).task ≡ r.task
          → t ≤ (job_at jobs q).arrival)
          → Is (Stands AtDeadline node jobs r.task S t) (shown_at r t)

    abbrev AllAt : (S : ℕ → ℕ → Type 0) → (n : ℕ) → List Register → Type 0
    AllAt S n [] = Unit {0}
    AllAt S n (r ∷ rs) = IsAt S n r × AllAt (HasRead AtDeadline node jobs r.task S) n rs

    -- before the first one
    first_at : (S : ℕ → ℕ → Type 0) (i : ℕ) → IsAt S 0 (blank i)
    first_at S i = record {
      shows = λ t early late.
          let none : Is (Stands AtDeadline node jobs i S t) None = λ s has.
          let newest : IsNewest AtDeadline node jobs i t has.0 = has.1 in
          let v : IsValidSheet (job_task node jobs has.0) = valid_at node jobs valid legal has.0 newest.is_job in
          let some = v.deadline_from in
          let in_time = newest.in_time in
          omega (arith, late has.0 (omega arith) newest.is_job newest.own, newest.finished.1) in
          rw (le-leb 0 t (omega arith)) none;
    }

    all_first : (S : ℕ → ℕ → Type 0) (tasks : List ℕ) → AllAt S 0 (map blank tasks)
    all_first S [] = tt
    all_first S (i ∷ tasks) = (first_at S i, all_first (HasRead AtDeadline node jobs i S) tasks)

    -- ---- job n arrives
    module _ (until n : ℕ) (lt : n < length jobs) where
      abbrev arrives : ℕ
      arrives = (job_at jobs n).arrival

      abbrev own_task : ℕ
      own_task = (job_at jobs n).task

      abbrev here : Interval
      here = of_job node (job_at jobs n)

      module _ (S : ℕ → ℕ → Type 0) (offered : Option ℕ) (r : Register) (is_at : IsAt S n r)
          (offers : Is (S n) offered) where
        -- what the register shows then
        at_arrival : Is (Stands AtDeadline node jobs r.task S arrives) (shown_at r arrives)
        at_arrival = is_at.shows arrives (λ q before own. sorted q n (omega arith) lt)
            (λ q after below own. sorted n q after below)

        offers_next : Is (HasRead AtDeadline node jobs r.task S n) (shown_at r arrives)
        offers_next = has_read AtDeadline node jobs r.task n arrives S (shown_at r arrives) (lt, refl) at_arrival

        -- a task of other jobs
        at_other : (r.task ≡ own_task → ⊥) → IsAt S (suc n) r
        at_other ne = record {
          shows = λ t early late. is_at.shows t (λ q before own. early q (omega arith) own)
              (λ q after below own. elim (cases_eq q n) [
                | inl same ↦ absurd (ne (sym own ∙ ap (λ x. (job_at jobs x).task) same))
                | inr differ ↦ late q (omega arith) below own
              ]);
        }

        -- its own
        at_own : r.task ≡ own_task → IsAt S (suc n) (record {
          task = r.task;
          writes_at = here.stop;
          read = offered;
          written = shown_at r arrives;
        })
        at_own mine = record {
          shows = λ t early late.
              let begun : arrives ≤ t = early n (omega arith) (sym mine) in
              let alike : (q : ℕ) → (job_at jobs q).task ≡ r.task
              → (job_task node jobs q).deadline ≡ (job_task node jobs n).deadline =
              λ q own. ap (λ i. (task_at node.tasks i).deadline) (own ∙ mine) in
              elim (cases_lt t here.stop) [
                | inl before ↦
                    let none : NoneComes AtDeadline node jobs r.task arrives t = λ q g own is by.
                    elim (cases_order q n) [
                      | inl same ↦ absurd (omega (arith, is.1, alike q own, ap (λ x. (job_at jobs x).arrival) same))
                      | inr (inl first) ↦ omega (arith, is.1, writes_first node jobs valid legal q n first lt (own ∙ mine))
                      | inr (inr later) ↦ absurd (omega (arith, is.1, alike q own, sorted n q (omega arith) is.0))
                    ] in
                    rw (lt-leb here.stop t before)
                    (stands_on AtDeadline node jobs r.task arrives t S (shown_at r arrives) begun none at_arrival)
                | inr by ↦
                    let newest : IsNewest AtDeadline node jobs r.task t n = record {
                      is_job = lt;
                      own = sym mine;
                      finish = here.stop;
                      finished = (lt, refl);
                      in_time = by;
                      last = λ q g below own is le. elim (cases_lt n q) [
                        | inl later ↦
                            let v : IsValidSheet (job_task node jobs q) = valid_at node jobs valid legal q below in
                            let some = v.deadline_from in
                            absurd (omega (arith, is.1, late q later below own))
                        | inr no_later ↦ omega (arith, is.1, alike q own, sorted q n no_later lt)
                      ];
                    } in
                    rw (le-leb here.stop t by) (is_same (S n) (Stands AtDeadline node jobs r.task S t) offered
                    (λ s has. (n, newest, has))
                    (λ s has. subst (λ x. S x s) (newest_once AtDeadline node jobs
                    (turns_deadline node jobs valid legal) r.task t has.0 n has.1 newest) has.2) offers)
              ];
        }

        at_after : IsAt S (suc n) (after_start here offered r)
        at_after =
            elim (cases_eq r.task own_task) [
              | inl mine ↦ rw (eq-eqb r.task own_task mine) (at_own mine)
              | inr ne ↦ rw (ne_eqb r.task own_task ne) (at_other ne)
            ]

      -- ---- all tasks of a chain
      all_after : (S : ℕ → ℕ → Type 0) (offered : Option ℕ) (rs : List Register) → AllAt S n rs
          → Is (S n) offered → AllAt S (suc n) (handed_on here offered rs)
      all_after S offered [] at offers = tt
      all_after S offered (r ∷ rs) at offers = (
        at_after S offered r at.0 offers,
        subst (λ i. AllAt (HasRead AtDeadline node jobs i S) (suc n) (handed_on here (shown_at r arrives) rs))
            (sym (task_kept here offered r))
            (all_after (HasRead AtDeadline node jobs r.task S) (shown_at r arrives) rs at.1
            (offers_next S offered r at.0 offers)),
      )

      -- what comes of task i, from these samples
      abbrev Comes : (i : ℕ) → (R : ℕ → ℕ → Type 0) → Option ChainOutput → Type 0
      Comes i R None = own_task ≡ i → until < here.stop
      Comes i R (Some o) = (own_task ≡ i) × (o.finish ≡ here.stop) × (here.stop ≤ until) × Is (R n) o.sample

      comes_at : (S : ℕ → ℕ → Type 0) (offered : Option ℕ) (r : Register) → Is (S n) offered
          → Comes r.task S (output_by until here offered r)
      comes_at S offered r offers =
          elim (cases_eq r.task own_task) [
            | inr ne ↦ rw (ne_eqb r.task own_task ne) (λ same. absurd (ne (sym same)))
            | inl mine ↦ elim (cases_lt until here.stop) [
              | inl late ↦ rw (eq-eqb r.task own_task mine, lt-leb here.stop until late) (λ same. late)
              | inr by ↦ rw (eq-eqb r.task own_task mine, le-leb here.stop until by)
                  (sym mine, refl, by, offers)
            ]
          ]

      comes_along : (S : ℕ → ℕ → Type 0) (offered : Option ℕ) (r : Register) (rs : List Register)
          (found : Option ChainOutput) → AllAt S n (r ∷ rs) → Is (S n) offered
          → Comes (last_task r.task (map (λ (x : Register). x.task) rs))
          (Sampled AtDeadline node jobs r.task (map (λ (x : Register). x.task) rs) S)
          (last_by until found here offered (r ∷ rs))
      comes_along S offered r [] found at offers = comes_at S offered r offers
      comes_along S offered r (r' ∷ rs) found at offers =
          comes_along (HasRead AtDeadline node jobs r.task S) (shown_at r arrives) r' rs
          (output_by until here offered r) at.1 (offers_next S offered r at.0 offers)

      abbrev ComesOf : (S : ℕ → ℕ → Type 0) → Option ChainOutput → List ℕ → Type 0
      ComesOf S o [] = Unit {0}
      ComesOf S o (i ∷ others) = Comes (last_task i others) (Sampled AtDeadline node jobs i others S) o

      all_come : (S : ℕ → ℕ → Type 0) (offered : Option ℕ) (rs : List Register) (i : ℕ) (others : List ℕ)
          → map (λ (x : Register). x.task) rs ≡ i ∷ others → AllAt S n rs → Is (S n) offered
          → Comes (last_task i others) (Sampled AtDeadline node jobs i others S) (last_by until None here offered rs)
      all_come S offered [] i others e at offers = absurd (no_cons i others e)
      all_come S offered (r ∷ rs) i others e at offers =
          subst (ComesOf S (last_by until None here offered (r ∷ rs))) e
          (comes_along S offered r rs None at offers)

    -- ---- the outputs of the jobs from the first n on
    module _ (first : ℕ) (others : List ℕ) (until : ℕ) where
      abbrev last : ℕ
      last = last_task first others

      -- those of the last task that write after a time, and those before
      abbrev Written : (n after : ℕ) → Type 0
      Written n after =
          (q g : ℕ) → q < n → (job_at jobs q).task ≡ last → IsWrittenAt AtDeadline node jobs q g → g ≤ until
          → g ≤ after

      abbrev ToWrite : (n after : ℕ) → Type 0
      ToWrite n after =
          (q g : ℕ) → n ≤ q → (job_at jobs q).task ≡ last → IsWrittenAt AtDeadline node jobs q g → after < g

      module _ (n : ℕ) (lt : n < length jobs) (after : ℕ) (written : Written n after)
          (to_write : ToWrite n after) where
        abbrev stop : ℕ
        stop = (of_job node (job_at jobs n)).stop

        -- where nothing comes of job n
        written_more : ((job_at jobs n).task ≡ last → until < stop) → Written (suc n) after
        written_more none q g below own is by =
            elim (cases_eq q n) [
              | inr ne ↦ written q g (omega arith) own is by
              | inl same ↦
                  let mine : (job_at jobs n).task ≡ last = subst (λ x. (job_at jobs x).task ≡ last) same own in
                  let at = subst (λ x. IsWrittenAt AtDeadline node jobs x g) same is in
                  absurd (omega (arith, none mine, at.1))
            ]

        -- where something does
        module _ (own : (job_at jobs n).task ≡ last) where
          alike : (q : ℕ) → (job_at jobs q).task ≡ last
              → (job_task node jobs q).deadline ≡ (job_task node jobs n).deadline
          alike q mine = ap (λ i. (task_at node.tasks i).deadline) (mine ∙ sym own)

          no_later : (q g : ℕ) → q ≤ n → (job_at jobs q).task ≡ last → IsWrittenAt AtDeadline node jobs q g
              → g ≤ stop
          no_later q g le mine is = omega (arith, is.1, alike q mine, sorted q n le lt)

          is_next : (q g : ℕ) → (job_at jobs q).task ≡ last → IsWrittenAt AtDeadline node jobs q g
              → after < g → stop ≤ until → stop ≤ g
          is_next q g mine is past in_run =
              elim (cases_lt q n) [
                | inr ge ↦ omega (arith, is.1, alike q mine, sorted n q ge is.0)
                | inl before ↦
                    let le = no_later q g (omega arith) mine is in
                    absurd (omega (arith, written q g before mine is (omega arith)))
              ]

          written_next : Written (suc n) stop
          written_next q g below mine is by = no_later q g (omega arith) mine is

          to_write_next : ToWrite (suc n) stop
          to_write_next q g after' mine is =
              let v : IsValidSheet (job_task node jobs q) = valid_at node jobs valid legal q is.0 in
              let some = v.deadline_from in
              omega (arith, is.1, writes_first node jobs valid legal n q (omega arith) is.0 (own ∙ sym mine))

      deadlines_by : (n : ℕ) (js : List Job) (rs : List Register) (after : ℕ) → length jobs ≡ n + length js
          → ((k : ℕ) → k < length js → job_at jobs (n + k) ≡ job_at js k)
          → map (λ (r : Register). r.task) rs ≡ first ∷ others
          → AllAt (IsReadAt AtDeadline node jobs) n rs → Written n after → ToWrite n after
          → AreOutputs AtDeadline node jobs first others after until (outputs_by until rs (map (of_job node) js))
      deadlines_by n [] rs after size place e at written to_write = λ q g own is by.
          written q g (omega (arith, is.0)) own is by
      deadlines_by n (j ∷ js) rs after size place e at written to_write =
          let lt : n < length jobs = omega arith in
          let zero_on : n + 0 ≡ n = omega arith in
          let is_j : job_at jobs n ≡ j = ap (job_at jobs) (sym zero_on) ∙ place 0 (omega arith) in
          let v : Interval = of_job node (job_at jobs n) in
          let size' : length jobs ≡ suc n + length js = omega arith in
          let place' : (k : ℕ) → k < length js → job_at jobs (suc n + k) ≡ job_at js k = λ k below.
          (let one : suc n + k ≡ n + suc k = omega arith in ap (job_at jobs) one ∙ place (suc k) (omega arith)) in
          let rest : (after' : ℕ) → Written (suc n) after' → ToWrite (suc n) after'
          → AreOutputs AtDeadline node jobs first others after' until
          (outputs_by until (handed_on v (Some v.start) rs) (map (of_job node) js)) =
          λ after' written' to_write'. deadlines_by (suc n) js (handed_on v (Some v.start) rs) after' size' place'
          (tasks_kept v (Some v.start) rs ∙ e)
          (all_after until n lt (IsReadAt AtDeadline node jobs) (Some v.start) rs at (lt, refl)) written' to_write' in
          subst (λ (x : Job). AreOutputs AtDeadline node jobs first others after until
          (outputs_by until rs (of_job node x ∷ map (of_job node) js))) is_j
          (elim (last_by until None v (Some v.start) rs) as (λ o. Comes until n lt last
          (Sampled AtDeadline node jobs first others (IsReadAt AtDeadline node jobs)) o
          → AreOutputs AtDeadline node jobs first others after until (with_output o
          (outputs_by until (handed_on v (Some v.start) rs) (map (of_job node) js)))) [
            | None ↦ λ none. rest after (written_more n lt after written to_write none)
                (λ q g past own is. to_write q g (omega arith) own is)
            | Some o ↦ λ comes. (
              omega (arith, comes.1, to_write n v.stop (omega arith) comes.0 (lt, refl)),
              omega (arith, comes.1, comes.2),
              (
                n,
                record {
                  is_job = lt;
                  own = comes.0;
                  finished = subst (IsWrittenAt AtDeadline node jobs n) (sym comes.1) (lt, refl);
                  sampled = sampled_is AtDeadline node jobs first others n o.sample comes.0 comes.3;
                  next = λ q g own is past. omega (
                    arith,
                    comes.1,
                    is_next n lt after written to_write comes.0 q g own is past comes.2,
                  );
                },
              ),
              subst (λ f. AreOutputs AtDeadline node jobs first others f until
                  (outputs_by until (handed_on v (Some v.start) rs) (map (of_job node) js))) (sym comes.1)
                  (rest v.stop (written_next n lt after written to_write comes.0)
                  (to_write_next n lt after written to_write comes.0)),
            )
          ] (all_come until n lt (IsReadAt AtDeadline node jobs) (Some v.start) rs first others e at (lt, refl)))

-- THE OUTPUTS AT DEADLINES
pub deadlines_law : (node : Node) (rs : List Release) (until : ℕ) (trace : Trace) (first : ℕ)
    (others : List ℕ) → IsNode node → Runs node rs until (Ok trace)
    → AreOutputs AtDeadline node (jobs_of node.tasks rs) first others 0 until
    (outputs_by until (map blank (first ∷ others)) (intervals_of node.tasks trace))
deadlines_law node rs until trace first others valid ran =
    let jobs : List Job = jobs_of node.tasks rs in
    let legal : AreLegalJobs node jobs = legal_from node rs until valid ran.0 in
    let same = ap (map (interval_of node.tasks)) ran.2.jobs ∙ of_records node jobs until 0 rs in
    let sorted : (p q : ℕ) → p ≤ q → q < length jobs → (job_at jobs p).arrival ≤ (job_at jobs q).arrival =
    λ p q le lt.
    let within : q < length rs = omega (arith, jobs_length node.tasks rs) in
    omega (
      arith,
      sorted_from rs (accepted node.tasks rs until ran.0).sorted p q le within,
      ap (λ (x : Job). x.arrival) (job_is node.tasks rs p (omega arith)),
      ap (λ (x : Job). x.arrival) (job_is node.tasks rs q within),
    ) in
    subst (λ (vs : List Interval). AreOutputs AtDeadline node jobs first others 0 until
    (outputs_by until (map blank (first ∷ others)) vs)) (sym same)
    (deadlines_by node jobs valid legal sorted first others until 0 jobs (map blank (first ∷ others)) 0
    (omega arith)
    (λ k lt. let one : 0 + k ≡ k = omega arith in ap (job_at jobs) one)
    (blank_tasks (first ∷ others))
    (all_first node jobs valid legal sorted (IsReadAt AtDeadline node jobs) (first ∷ others))
    (λ q g below own is by. absurd (omega arith))
    (λ q g from own is.
    let v : IsValidSheet (job_task node jobs q) = valid_at node jobs valid legal q is.0 in
    let some = v.deadline_from in
    omega (arith, is.1)))
