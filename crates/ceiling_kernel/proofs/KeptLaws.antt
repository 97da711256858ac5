-- What the slots keep gives the pick of the tick rule, and each event keeps it.
use Rattle.std.proofs.Common.{ℕ, suc, ◌+◌, ◌-◌, ◌<◌, ◌≤◌, ◌≡◌, ◌≢◌, ◌⊎◌, inl, inr, refl, sym, ap}
use Rattle.std.proofs.Common.{◌∙◌, subst, arith, max, List, length, set, replicate, Option, Some}
use Rattle.std.proofs.Common.{None, Bool, true, false, slice_index_or, get_or-set_same}
use Rattle.std.proofs.Common.{ap₂, get_or-set_other, length-set}
use Rattle.std.proofs.lemmas.Option.{none-some, same_Some}
use Rattle.std.proofs.lemmas.Bool.{cases_Bool, cases_eq, cases_lt, true≢false}
use Rattle.std.proofs.lemmas.List.{length-replicate}
use Rattle.task_sheet.specs.Sheet.{task_at}
use Rattle.ceiling_kernel.specs.declared.trace.Release.{Release}
use Rattle.ceiling_kernel.specs.declared.run.Pending.{Pending}
use Rattle.ceiling_kernel.specs.declared.run.Simulation.{Simulation}
use Rattle.ceiling_kernel.specs.Tick.{Node, Job, job_at, job_task, level_in_order, level_of_job}
use Rattle.ceiling_kernel.specs.Tick.{active_of, is_pending, held_ceiling, executed_before, picked}
use Rattle.ceiling_kernel.specs.Jumps.{change_after, NoneReadyBetween}
use Rattle.ceiling_kernel.specs.Waits.{Overruns}
use Rattle.ceiling_kernel.specs.Releases.{jobs_of}
use Rattle.ceiling_kernel.specs.Turns.{time_in_turn, job_in_turn, has_come, TasksKeepOrder}
use Rattle.ceiling_kernel.specs.States.{active_at, best_slot, IsRunnable, IsPending, Kept}
use Rattle.ceiling_kernel.specs.States.{IsRunning}
use Rattle.ceiling_kernel.specs.Behaviours.{AreApart, IsCut, AreCut}
use Rattle.ceiling_kernel.proofs.NodeLaws.{IsSound, sound}
use Rattle.ceiling_kernel.proofs.PickLaws.{best_is, best_none_is}
use Rattle.ceiling_kernel.proofs.MachineLaws.{pending_parts, pending_from}
use Rattle.ceiling_kernel.proofs.CutLaws.{held-cut, change-cut, cuts_by, cuts_apart}
use Rattle.ceiling_kernel.proofs.LockLaws.{began_strictly, held_before}
use Rattle.ceiling_kernel.proofs.JumpLaws as jump
use Rattle.ceiling_kernel.proofs.SlotLaws.{IsBestSlot, slot_some, slot_none}
use Rattle.ceiling_kernel.proofs.ReleaseLaws.{replicated}
use Rattle.ceiling_kernel.proofs.TurnLaws.{keeps_order, come_of, come_others, next_fresh, next_time}

-- what stands in the slots after one is written
pub written : (slots : List (Option Pending)) (i : ℕ) (o : Option Pending) → i < length slots
    → (k : ℕ) (q : Pending) → slice_index_or (set slots i o) k None ≡ Some q
    → ((k ≡ i) × (o ≡ Some q)) ⊎ ((k ≢ i) × (slice_index_or slots k None ≡ Some q))
written slots i o in_slots k q e = elim (cases_eq k i) [
  | inl same ↦ inl (
    same,
    sym (get_or-set_same slots i o None in_slots)
        ∙ subst (λ x. slice_index_or (set slots i o) x None ≡ Some q) same e,
  )
  | inr ne ↦ inr (ne, sym (get_or-set_other slots i k o None ne) ∙ e)
]

-- the pending job of a slot, where it hasn't executed since
still_pending : {node : Node} {jobs : List Job} {t u : ℕ} {come came : ℕ → Bool} {i : ℕ}
    {p : Pending} → IsPending node jobs t come i p → came p.job ≡ true
    → executed_before node jobs u p.job ≡ executed_before node jobs t p.job
    → IsPending node jobs u came i p
still_pending m has same = record {
  released = has;
  task = m.task;
  own = m.own;
  level = m.level;
  executed = m.executed ∙ sym same;
  active = m.active;
  unfinished = m.unfinished;
}

module _ {node : Node} {rs : List Release} {turns : List (ℕ × ℕ)}
    (runnable : IsRunnable node rs turns) where
  abbrev jobs : List Job
  jobs = jobs_of node.tasks rs

  abbrev done : ℕ → ℕ → ℕ
  done t j = executed_before node jobs t j

  abbrev ready_at : ℕ → ℕ
  ready_at j = (job_at jobs j).ready

  abbrev task_no : ℕ → ℕ
  task_no j = (job_at jobs j).task

  abbrev executes_of : ℕ → ℕ
  executes_of j = (job_at jobs j).executes

  pub is_sound : IsSound node
  is_sound = sound node runnable.of_node

  -- each job does as its sheet says, up to its end
  pub cuts_of : AreCut node jobs
  cuts_of = cuts_by node rs runnable.in_cost

  -- before the first tick
  pub kept_start : Kept node jobs 0 (has_come turns 0) (replicate (length node.tasks) None)
  kept_start = record {
    within = λ j has. absurd (true≢false (sym has));
    admitted = λ j has. absurd (true≢false (sym has));
    to_come = λ j not lt. omega arith;
    slot_count = length-replicate (length node.tasks) None;
    pending = λ i p e. absurd (none-some p
        (sym (replicated {X = Option Pending} (length node.tasks) i None) ∙ e));
    complete = λ j has. absurd (true≢false (sym has));
    no_overrun = λ k has. absurd (true≢false (sym has));
  }

  module _ {s : Simulation} (running : IsRunning node rs turns s) where
    abbrev come : ℕ → Bool
    come = has_come turns s.next

    abbrev slot_at : ℕ → Option Pending
    slot_at i = slice_index_or s.slots.items i None

    -- a pending job isn't finished
    pending_open : {i : ℕ} {p : Pending} → IsPending node jobs s.now come i p
        → done s.now p.job < executes_of p.job
    pending_open is = omega (arith, is.executed, is.unfinished)

    -- a pending job's active priority is that of the tick rule
    pending_active : {i : ℕ} {p : Pending} → IsPending node jobs s.now come i p
        → p.active ≡ active_of node jobs (done s.now) p.job
    pending_active {i} {p} is =
        let c : IsCut (job_task node jobs p.job) (job_at jobs p.job) =
        cuts_of p.job (running.kept.within p.job is.released) in
        let held = ap (λ ss. held_ceiling node ss (done s.now p.job)) c.sections
        ∙ held-cut node (executes_of p.job) (job_task node jobs p.job).sections (done s.now p.job)
        (pending_open is) in
        is.active ∙ (ap₂ (λ x e. active_at node x e) (sym is.own) is.executed
        ∙ ap (max (level_of_job node jobs p.job)) (sym held))

    -- ---- the pending job p goes first
    module _ {p : Pending} (best : best_slot s.slots.items None ≡ Some p) where
      pub is_best : IsBestSlot s.slots.items None p
      is_best = slot_some s.slots.items None p best

      -- it stands in the slot of its task
      pub slot : slot_at p.task ≡ Some p
      slot =
          let place : (i : ℕ) × (slot_at i ≡ Some p) =
          elim is_best.from [ inl no_one ↦ absurd (none-some p no_one) | inr found ↦ found ] in
          subst (λ x. slot_at x ≡ Some p) (sym (running.kept.pending place.0 p place.1).task)
          place.1

      pub is_p : IsPending node jobs s.now come p.task p
      is_p = running.kept.pending p.task p slot

      pub job_below : p.job < length jobs
      job_below = running.kept.within p.job is_p.released

      pub task_in : p.task < length node.tasks
      task_in = omega (arith, is_p.own, runnable.legal.known p.job job_below)

      pub task_in_slots : p.task < length s.slots.items
      task_in_slots = omega (arith, task_in, running.kept.slot_count)

    -- ---- up to a limit, at which the next turn stands at the earliest
    module _ (limit : ℕ) (after : s.now < limit)
        (before_next : s.next < length turns → limit ≤ time_in_turn turns s.next) where
      all_later : (j : ℕ) → come j ≡ false → j < length jobs → limit ≤ ready_at j
      all_later j not lt =
          let ahead = next_time jobs turns runnable.in_turn s.next j not lt in
          omega (arith, before_next ahead.0, ahead.1)

      pub none_between : NoneReadyBetween jobs s.now limit
      none_between j lt late = elim (cases_Bool (come j)) [
        | inl has ↦ absurd (omega (arith, running.kept.admitted j has))
        | inr not ↦ all_later j not lt
      ]

      -- who is pending stands in the slot of its task
      has_slot : (k : ℕ) → k < length jobs → is_pending jobs (done s.now) s.now k ≡ true
          → (q : Pending) × (slot_at (task_no k) ≡ Some q) × (q.job ≡ k)
      has_slot k lt pending =
          let p = pending_parts node jobs s.now k pending in
          elim (cases_Bool (come k)) [
            | inl has ↦ running.kept.complete k has p.1
            | inr not ↦ absurd (omega (arith, all_later k not lt, p.0))
          ]

      pub pick_is : {p : Pending} → best_slot s.slots.items None ≡ Some p
          → picked node jobs s.now ≡ Some p.job
      unfolding picked
      pick_is {p} best =
          let m : IsPending node jobs s.now come p.task p = is_p best in
          let level_p : p.level ≡ level_of_job node jobs p.job =
          m.level ∙ ap (level_in_order node) (sym m.own) in
          best_is (is_pending jobs (done s.now) s.now) (active_of node jobs (done s.now))
          (level_of_job node jobs) (length jobs) p.job (job_below best)
          (pending_from node jobs s.now p.job (running.kept.admitted p.job m.released)
          (pending_open m))
          (λ k lt pending ne.
          let h = has_slot k lt pending in
          let q : Pending = h.0 in
          let mq : IsPending node jobs s.now come (task_no k) q =
          running.kept.pending (task_no k) q h.1 in
          let active_q : q.active ≡ active_of node jobs (done s.now) k =
          pending_active mq ∙ ap (active_of node jobs (done s.now)) h.2 in
          elim ((is_best best).first (task_no k) q h.1) [
            | inl less ↦ inl (omega (arith, pending_active m))
            | inr tied ↦
                elim (cases_eq (level_of_job node jobs p.job) (level_of_job node jobs k)) [
                  | inl same ↦
                      let same_task = is_sound.levels_differ (task_no p.job) (task_no k)
                      (runnable.legal.known p.job (job_below best)) (runnable.legal.known k lt)
                      same in
                      let slot_p : slot_at (task_no k) ≡ Some p =
                      subst (λ x. slot_at x ≡ Some p) (sym m.own ∙ same_task) (slot best) in
                      let one : q ≡ p = cc (h.1, slot_p) in
                      absurd (ne (sym h.2 ∙ ap (λ x. x.job) one))
                  | inr differ ↦ inr (
                    sym active_q ∙ (tied.0 ∙ pending_active m),
                    omega (arith, tied.1, mq.level),
                  )
                ]
          ])

      idle_is : best_slot s.slots.items None ≡ None → picked node jobs s.now ≡ None
      unfolding picked
      idle_is none = best_none_is (is_pending jobs (done s.now) s.now)
          (active_of node jobs (done s.now)) (level_of_job node jobs) (length jobs)
          (λ k lt. elim (cases_Bool (is_pending jobs (done s.now) s.now k)) [
            | inl pending ↦
                let h = has_slot k lt pending in
                absurd ((slot_none s.slots.items None none).1 (task_no k) h.0 h.1)
            | inr not ↦ not
          ])

      -- nothing is pending
      module _ (none : best_slot s.slots.items None ≡ None) where
        pub idles : (x : ℕ) → s.now ≤ x → x < limit → picked node jobs x ≡ None
        idles = jump.idle_stays node jobs s.now limit (idle_is none) none_between

        pub idle_same : (j : ℕ) → done limit j ≡ done s.now j
        idle_same = jump.idle_after node jobs s.now limit (idle_is none) none_between limit
            (omega arith) (omega arith)

        pub kept_idle : Kept node jobs limit come s.slots.items
        kept_idle = record {
          within = running.kept.within;
          admitted = λ j has. omega (arith, running.kept.admitted j has);
          to_come = all_later;
          slot_count = running.kept.slot_count;
          pending = λ i q e.
              let m : IsPending node jobs s.now come i q = running.kept.pending i q e in
              still_pending m m.released (idle_same q.job);
          complete = λ j has open_. running.kept.complete j has (omega (arith, idle_same j));
          no_overrun = running.kept.no_overrun;
        }

      -- the pending job p runs up to the limit, and reaches no boundary before
      module _ {p : Pending} (best : best_slot s.slots.items None ≡ Some p)
          (within : p.executed + (limit - s.now) ≤ change_after (task_at node.tasks p.task).sections
          p.executed (executes_of p.job)) (to_end : p.executed + (limit - s.now)
          ≤ executes_of p.job) where
        apart : AreApart 0 (job_at jobs p.job).sections (executes_of p.job)
        apart = cuts_apart node jobs is_sound runnable.legal.known cuts_of p.job (job_below best)

        -- the same of its own sections
        within_own : done s.now p.job + (limit - s.now)
            ≤ change_after (job_at jobs p.job).sections (done s.now p.job) (executes_of p.job)
        within_own =
            let m : IsPending node jobs s.now come p.task p = is_p best in
            let c : IsCut (job_task node jobs p.job) (job_at jobs p.job) =
            cuts_of p.job (job_below best) in
            let sheet = is_sound.each (task_no p.job)
            (runnable.legal.known p.job (job_below best)) in
            let near = subst (λ x. p.executed + (limit - s.now)
            ≤ change_after (task_at node.tasks x).sections p.executed (executes_of p.job))
            (sym m.own) within in
            subst (λ x. x + (limit - s.now)
            ≤ change_after (job_at jobs p.job).sections x (executes_of p.job)) m.executed
            (subst (λ ss. p.executed + (limit - s.now)
            ≤ change_after ss p.executed (executes_of p.job)) (sym c.sections)
            (change-cut (executes_of p.job) 0 (job_task node jobs p.job).cost
            (job_task node jobs p.job).sections p.executed (p.executed + (limit - s.now))
            sheet.apart m.unfinished near to_end))

        pub own_then : (x : ℕ) → s.now ≤ x → x ≤ limit → done x p.job ≡ p.executed + (x - s.now)
        own_then x ge le = omega (
          arith,
          (jump.after node jobs s.now limit p.job apart (pick_is best) none_between within_own x
              ge le).0,
          (is_p best).executed,
        )

        pub others_then : (j : ℕ) → j ≢ p.job → done limit j ≡ done s.now j
        others_then = (jump.after node jobs s.now limit p.job apart (pick_is best) none_between
            within_own limit (omega arith) (omega arith)).1

        pub picks : (x : ℕ) → s.now ≤ x → x < limit → picked node jobs x ≡ Some p.job
        picks = jump.stays node jobs s.now limit p.job apart (pick_is best) none_between within_own

        -- what its slot has then is its own, unless it is finished
        kept_then : (o : Option Pending)
            → ((q : Pending) → o ≡ Some q → IsPending node jobs limit come p.task q)
            → (done limit p.job < executes_of p.job → (q : Pending) × (o ≡ Some q)
            × (q.job ≡ p.job)) → Kept node jobs limit come (set s.slots.items p.task o)
        kept_then o mine has_own =
            let m : IsPending node jobs s.now come p.task p = is_p best in
            let inside = task_in_slots best in
            record {
              within = running.kept.within;
              admitted = λ j has. omega (arith, running.kept.admitted j has);
              to_come = all_later;
              slot_count = length-set s.slots.items p.task o ∙ running.kept.slot_count;
              pending = λ h q e. elim (written s.slots.items p.task o inside h q e) [
                | inl here ↦ subst (λ x. IsPending node jobs limit come x q) (sym here.0)
                    (mine q here.1)
                | inr other ↦
                    let n : IsPending node jobs s.now come h q =
                    running.kept.pending h q other.1 in
                    still_pending n n.released (others_then q.job
                    (λ same. other.0 (sym n.own ∙ (ap task_no same ∙ m.own))))
              ];
              complete = λ j has left. elim (cases_eq j p.job) [
                | inl same ↦
                    let own = has_own (subst (λ x. done limit x < executes_of x) same left) in (
                      own.0,
                      subst (λ x. slice_index_or (set s.slots.items p.task o) x None ≡ Some own.0)
                          (sym (ap task_no same ∙ m.own))
                          (get_or-set_same s.slots.items p.task o None inside ∙ own.1),
                      own.2 ∙ sym same,
                    )
                | inr ne ↦
                    let was = running.kept.complete j has (omega (arith, others_then j ne)) in
                    elim (cases_eq (task_no j) p.task) [
                      | inl same ↦
                          let slot_j : slot_at p.task ≡ Some was.0 =
                          subst (λ x. slot_at x ≡ Some was.0) same was.1 in
                          let one : was.0 ≡ p = cc (slot best, slot_j) in
                          absurd (ne (sym was.2 ∙ ap (λ x. x.job) one))
                      | inr other ↦ (
                        was.0,
                        get_or-set_other s.slots.items p.task (task_no j) o None other ∙ was.1,
                        was.2,
                      )
                    ]
              ];
              no_overrun = running.kept.no_overrun;
            }

        -- it isn't finished then
        pub kept_run : (q : Pending) → q.job ≡ p.job → q.task ≡ p.task → q.level ≡ p.level
            → q.executed ≡ p.executed + (limit - s.now)
            → q.active ≡ active_at node p.task q.executed
            → p.executed + (limit - s.now) < executes_of p.job
            → Kept node jobs limit come (set s.slots.items p.task (Some q))
        kept_run q job task level executed active open_ =
            let m : IsPending node jobs s.now come p.task p = is_p best in
            let same : executes_of q.job ≡ executes_of p.job = ap executes_of job in
            let mine : IsPending node jobs limit come p.task q = record {
              released = ap come job ∙ m.released;
              task = task;
              own = ap task_no job ∙ m.own;
              level = level ∙ m.level;
              executed = executed ∙ (sym (own_then limit (omega arith) (omega arith))
                  ∙ ap (done limit) (sym job));
              active = active;
              unfinished = omega arith;
            } in
            kept_then (Some q) (λ r e. subst (IsPending node jobs limit come p.task)
            (same_Some q r e) mine) (λ left. (q, refl, job))

        -- it executes its last ticks
        pub kept_finish : p.executed + (limit - s.now) ≡ executes_of p.job
            → Kept node jobs limit come (set s.slots.items p.task None)
        kept_finish full = kept_then None (λ q e. absurd (none-some q e))
            (λ left. absurd (omega (arith, own_then limit (omega arith) (omega arith))))

    -- ---- the job whose turn is next becomes ready now
    module _ (next : s.next < length turns) (ready : time_in_turn turns s.next ≤ s.now) where
      abbrev pub turn : ℕ
      turn = job_in_turn turns s.next

      pub turn_below : turn < length jobs
      turn_below = runnable.in_turn.known s.next next

      fresh : come turn ≡ false
      fresh = next_fresh jobs turns runnable.in_turn s.next next

      at_once : ready_at turn ≡ s.now
      at_once = omega (
        arith,
        runnable.in_turn.timed s.next next,
        running.kept.to_come turn fresh turn_below,
      )

      keep : TasksKeepOrder jobs
      keep = keeps_order node jobs runnable.of_node runnable.legal

      others : (j : ℕ) → j ≢ turn → has_come turns (suc s.next) j ≡ come j
      others = come_others turns s.next

      -- its task's slot is free; then it has come, and the others as before
      pub kept_admit : (p : Pending) → p.job ≡ turn → p.task ≡ task_no turn
          → p.level ≡ level_in_order node (task_no turn) → p.executed ≡ 0
          → p.active ≡ level_in_order node (task_no turn) → slot_at (task_no turn) ≡ None
          → Kept node jobs s.now (has_come turns (suc s.next))
          (set s.slots.items (task_no turn) (Some p))
      kept_admit p job task level executed active free =
          let here : has_come turns (suc s.next) turn ≡ true =
          come_of turns (suc s.next) s.next (omega arith) in
          let i : ℕ = task_no turn in
          let in_tasks : i < length node.tasks = runnable.legal.known turn turn_below in
          let in_slots : i < length s.slots.items = omega (arith, running.kept.slot_count) in
          let now : ready_at turn ≡ s.now = at_once in
          let untouched : done s.now turn ≡ 0 = elim (cases_eq (done s.now turn) 0) [
            | inl z ↦ z
            | inr nz ↦ absurd (omega (arith, began_strictly node jobs s.now turn (omega arith)))
          ] in
          let mine : IsPending node jobs s.now (has_come turns (suc s.next)) i p = record {
            released = ap (has_come turns (suc s.next)) job ∙ here;
            task = task;
            own = ap task_no job;
            level = level;
            executed = executed ∙ (sym untouched ∙ ap (done s.now) (sym job));
            active = omega (
              arith,
              held_before node 0 (task_at node.tasks i).cost (task_at node.tasks i).sections
                  p.executed (is_sound.each i in_tasks).apart (omega arith),
            );
            unfinished = omega (arith, ap executes_of job, (cuts_of turn turn_below).some);
          } in
          record {
            within = λ j has. elim (cases_eq j turn) [
              | inl e ↦ omega (arith, turn_below)
              | inr ne ↦ running.kept.within j (sym (others j ne) ∙ has)
            ];
            admitted = λ j has. elim (cases_eq j turn) [
              | inl e ↦ omega (arith, ap ready_at e)
              | inr ne ↦ running.kept.admitted j (sym (others j ne) ∙ has)
            ];
            to_come = λ j not below. elim (cases_eq j turn) [
              | inl e ↦ absurd (true≢false (sym here
                  ∙ (ap (has_come turns (suc s.next)) (sym e) ∙ not)))
              | inr ne ↦ running.kept.to_come j (sym (others j ne) ∙ not) below
            ];
            slot_count = length-set s.slots.items i (Some p) ∙ running.kept.slot_count;
            pending = λ k q e. elim (written s.slots.items i (Some p) in_slots k q e) [
              | inl new ↦ subst (λ x. IsPending node jobs s.now (has_come turns (suc s.next)) x q)
                  (sym new.0) (subst (IsPending node jobs s.now (has_come turns (suc s.next)) i)
                  (same_Some p q new.1) mine)
              | inr was ↦
                  let m : IsPending node jobs s.now come k q =
                  running.kept.pending k q was.1 in
                  still_pending m (others q.job (λ same. was.0 (sym m.own ∙ ap task_no same))
                  ∙ m.released) refl
            ];
            complete = λ j has open_. elim (cases_eq j turn) [
              | inl same ↦ (
                p,
                subst (λ x. slice_index_or (set s.slots.items i (Some p)) (task_no x) None ≡ Some p)
                    (sym same) (get_or-set_same s.slots.items i (Some p) None in_slots),
                job ∙ sym same,
              )
              | inr ne ↦
                  let was = running.kept.complete j (sym (others j ne) ∙ has) open_ in
                  elim (cases_eq (task_no j) i) [
                    | inl same ↦ absurd (none-some was.0
                        (sym free ∙ subst (λ x. slot_at x ≡ Some was.0) same was.1))
                    | inr other ↦ (
                      was.0,
                      get_or-set_other s.slots.items i (task_no j) (Some p) None other ∙ was.1,
                      was.2,
                    )
                  ]
            ];
            no_overrun = λ k has over. elim (cases_eq k turn) [
              | inl same ↦
                  let o : task_no over.0 ≡ task_no turn = over.2 ∙ ap task_no same in
                  let b : over.0 < turn = omega (arith, over.1) in
                  let earlier : ready_at over.0 < ready_at turn = keep over.0 turn b turn_below o in
                  let came : come over.0 ≡ true = elim (cases_Bool (come over.0)) [
                    | inl did ↦ did
                    | inr not ↦ absurd (omega (
                      arith,
                      running.kept.to_come over.0 not (omega (arith, turn_below)),
                    ))
                  ] in
                  let r : ready_at k ≡ s.now = ap ready_at same ∙ now in
                  let was = running.kept.complete over.0 came
                  (subst (λ x. done x over.0 < executes_of over.0) r over.3) in
                  none-some was.0 (sym free ∙ subst (λ x. slot_at x ≡ Some was.0) o was.1)
              | inr ne ↦ running.kept.no_overrun k (sym (others k ne) ∙ has) over
            ];
          }

      -- its task's slot is taken
      pub overruns_now : (q : Pending) → slot_at (task_no turn) ≡ Some q → Overruns node jobs turn
      overruns_now q e =
          let now : ready_at turn ≡ s.now = at_once in
          let m : IsPending node jobs s.now come (task_no turn) q =
          running.kept.pending (task_no turn) q e in
          let before : q.job < turn = elim (cases_lt q.job turn) [
            | inl lt ↦ lt
            | inr ge ↦ elim (cases_eq q.job turn) [
              | inl same ↦ absurd (true≢false (sym m.released ∙ (ap come same ∙ fresh)))
              | inr differ ↦ absurd (omega (
                arith,
                running.kept.admitted q.job m.released,
                keep turn q.job (omega arith) (running.kept.within q.job m.released) (sym m.own),
              ))
            ]
          ] in (
            q.job,
            before,
            m.own,
            subst (λ x. done x q.job < executes_of q.job) (sym now) (pending_open m),
          )
