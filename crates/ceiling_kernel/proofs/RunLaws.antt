-- The steps of a run, over the code's own lists: where nothing is pending, where a job becomes
-- ready, and where the pending job that goes first stops, done or to run on.
use Rattle.std.proofs.Common.{ℕ, suc, ◌+◌, ◌-◌, ◌<◌, ◌≤◌, ◌≡◌, ◌≢◌, ◌⊎◌, ◌++◌, ◌∷◌, [], inl, inr}
use Rattle.std.proofs.Common.{sym, ap, ap₂, ◌∙◌, subst, arith, add-one, List, length, set, get_or}
use Rattle.std.proofs.Common.{map, drop, replicate, Option, Some, None, slice_index_or}
use Rattle.std.proofs.Common.{get_or-set_same, get_or-set_other, length-set}
use Rattle.std.specs.Option.{unwrap_or}
use Rattle.std.proofs.lemmas.Bool.{cases_eq, cases_Bool}
use Rattle.std.proofs.lemmas.List.{length-replicate, get_or_default}
use Rattle.std.proofs.lemmas.List.Elements.{All-get_or}
use Rattle.task_sheet.specs.Sheet.{IsValidSheet, no_task, task_at}
use Rattle.ceiling_kernel.specs.declared.trace.Release.{Release}
use Rattle.ceiling_kernel.specs.declared.tasks.NodeTask.{NodeTask}
use Rattle.ceiling_kernel.specs.declared.run.Pending.{Pending}
use Rattle.ceiling_kernel.specs.declared.run.Simulation.{Simulation}
use Rattle.ceiling_kernel.specs.Tick.{Node, Job, job_at, level_in_order, executed_before, picked}
use Rattle.ceiling_kernel.specs.Trace.{with_run, slices_before, finish_before}
use Rattle.ceiling_kernel.specs.Jumps.{change_after}
use Rattle.ceiling_kernel.specs.Releases.{task_number, jobs_of, no_release, release_at}
use Rattle.ceiling_kernel.specs.Turns.{time_in_turn, job_in_turn, has_come}
use Rattle.ceiling_kernel.specs.Runs.{IsOverrun}
use Rattle.ceiling_kernel.specs.NodeTasks.{IsTaskOf}
use Rattle.ceiling_kernel.specs.States.{active_at, best_slot, next_change, slices_shown, IsTidy}
use Rattle.ceiling_kernel.specs.States.{IsRunnable, AreFinishes, IsRunning, IsFurther}
use Rattle.ceiling_kernel.specs.Lists.{listed, list_at, with_tail, without_head, moved_to}
use Rattle.ceiling_kernel.proofs.ReleaseLaws.{finish_first, job_is, jobs_length, place_is, read_at}
use Rattle.ceiling_kernel.proofs.ReleaseLaws.{replicated}
use Rattle.ceiling_kernel.proofs.TurnLaws.{next_first, next_time}
use Rattle.ceiling_kernel.proofs.JumpLaws as jump
use Rattle.ceiling_kernel.proofs.FinishLaws.{finish_stays, finish_now}
use Rattle.ceiling_kernel.proofs.TaskLaws.{next_change-is}
use Rattle.ceiling_kernel.proofs.ListsLaws.{count_kept, count_moved, listed_length}
use Rattle.ceiling_kernel.proofs.PriorityLaws.{active_next, active_within}
use Rattle.ceiling_kernel.proofs.KeptLaws as kept
use Rattle.ceiling_kernel.proofs.MoveLaws as move

module _ {node : Node} {rs : List Release} {turns : List (ℕ × ℕ)}
    (runnable : IsRunnable node rs turns) where
  abbrev jobs : List Job
  jobs = jobs_of node.tasks rs

  -- the job of a turn is one of the list
  pub in_list : (n : ℕ) → n < length turns → job_in_turn turns n < length rs
  in_list n lt = omega (arith, runnable.in_turn.known n lt, jobs_length node.tasks rs)

  pub few_tasks : length node.tasks ≤ 32
  few_tasks = runnable.of_node.tasks.few

  executes_some : (j : ℕ) → j < length rs → 0 < (job_at jobs j).executes
  executes_some j lt =
      (kept.cuts_of runnable j (omega (arith, jobs_length node.tasks rs))).some

  -- the kept index of a task whose turn it is
  pub task_in_turn : {places : List ℕ} → places ≡ map (task_number node.tasks) rs → (n : ℕ)
      → n < length turns → get_or places (job_in_turn turns n) 0 < length node.tasks
  task_in_turn {places} e n lt = omega (
    arith,
    place_is node.tasks rs places (job_in_turn turns n) e (in_list n lt),
    runnable.known (job_in_turn turns n) (in_list n lt),
  )

  pub finishes_start : AreFinishes node rs 0 (replicate (length rs) None)
  finishes_start = record {
    count = length-replicate {A = Option ℕ} (length rs) None;
    each = λ j lt. replicated {X = Option ℕ} (length rs) j None ∙ sym (finish_first node jobs j);
  }

  module _ {s : Simulation} (running : IsRunning node rs turns s) where
    -- what is known of a finish stays while the job executes nothing, or doesn't finish
    finish_kept : (u j : ℕ) → s.now ≤ u → j < length rs
        → (executed_before node jobs u j ≡ executed_before node jobs s.now j)
        ⊎ (executed_before node jobs u j < (job_at jobs j).executes)
        → slice_index_or s.finishes.items j None ≡ finish_before node jobs u j
    finish_kept u j le lt h = running.finishes.each j lt
        ∙ sym (finish_stays node jobs j s.now u le (executes_some j lt) h)

    -- ---- nothing is pending up to a limit, at which the next turn stands at the earliest
    pub idle : (limit : ℕ) → s.now < limit
        → (s.next < length turns → limit ≤ time_in_turn turns s.next)
        → best_slot s.slots.items None ≡ None → IsRunning node rs turns (record s { now = limit })
    idle limit after before_next none = record {
      kept = kept.kept_idle runnable running limit after before_next none;
      list_count = running.list_count;
      queues = running.queues;
      alone = running.alone;
      slices = running.slices ∙ sym (jump.slices_idle (picked node jobs) s.now limit (omega arith)
          (kept.idles runnable running limit after before_next none));
      tidy = running.tidy;
      finishes = record {
        count = running.finishes.count;
        each = λ j lt. finish_kept limit j (omega arith) lt
            (inl (kept.idle_same runnable running limit after before_next none j));
      };
    }

    -- ---- the next turn
    module _ (next : s.next < length turns) (ready : time_in_turn turns s.next ≤ s.now) where
      abbrev turn : ℕ
      turn = job_in_turn turns s.next

      abbrev task : ℕ
      task = (job_at jobs turn).task

      turn_in_list : turn < length rs
      turn_in_list = in_list s.next next

      task_in : task < length node.tasks
      task_in = runnable.legal.known turn (kept.turn_below runnable running next ready)

      -- the kept index of its task
      pub place : {places : List ℕ} → places ≡ map (task_number node.tasks) rs
          → get_or places turn 0 ≡ task
      place {places} e = place_is node.tasks rs places turn e turn_in_list
          ∙ sym (ap (λ x. x.task) (job_is node.tasks rs turn turn_in_list))

      -- what the code reads of its slot
      pub slot_read : {places : List ℕ} → places ≡ map (task_number node.tasks) rs
          → (x : Option Pending) → x ≡ slice_index_or s.slots.items (get_or places turn 0) x
          → slice_index_or s.slots.items task None ≡ x
      slot_read {places} e x read =
          subst (λ z. slice_index_or s.slots.items z None ≡ x) (place e)
          (read_at s.slots.items (get_or places turn 0) x None
          (omega (arith, place e, task_in, running.kept.slot_count)) read)

      -- its job becomes pending
      pub admitted : (p : Pending) → p.job ≡ turn → p.task ≡ task
          → p.level ≡ level_in_order node task → p.executed ≡ 0
          → p.active ≡ level_in_order node task → slice_index_or s.slots.items task None ≡ None
          → (new : Simulation) → new.now ≡ s.now → new.next ≡ s.next + 1
          → new.slots.items ≡ set s.slots.items p.task (Some p)
          → listed new.lists.items ≡ with_tail (listed s.lists.items) p.active p.task
          → new.slices ≡ s.slices → new.finishes.items ≡ s.finishes.items
          → IsRunning node rs turns new
      admitted p job task_is level executed active free new now_is next_is slots lists slices
          finishes =
          let slots_are = slots ∙ ap (λ i. set s.slots.items i (Some p)) task_is in
          let lists_are = lists ∙ ap (with_tail (listed s.lists.items) p.active) task_is in
          record {
            kept = rw (now_is, next_is, slots_are, add-one s.next) (kept.kept_admit runnable
                running next ready p job task_is level executed active free);
            list_count = count_kept s.lists.items new.lists.items p.active
                (list_at (listed s.lists.items) p.active ++ p.task ∷ []) lists
                ∙ running.list_count;
            queues = rw (slots_are, lists_are)
                (move.queues_admit runnable running p task task_in level active free);
            alone =
                rw slots_are (move.alone_admit runnable running p task task_in level active);
            slices = rw (slices, now_is) running.slices;
            tidy = rw slices running.tidy;
            finishes = rw (now_is, finishes) running.finishes;
          }

      -- the job before it isn't finished
      pub overrun : (q : Pending) → slice_index_or s.slots.items task None ≡ Some q
          → (r : Release) → release_at rs turn ≡ r
          → IsOverrun node rs r.name (time_in_turn turns s.next)
      overrun q taken r e =
          let below : turn < length jobs = kept.turn_below runnable running next ready in
          let timed : time_in_turn turns s.next ≡ (job_at jobs turn).ready =
          runnable.in_turn.timed s.next next in
          record {
            place = turn;
            first = record {
              is_job = below;
              overruns = kept.overruns_now runnable running next ready q taken;
              earliest = λ j lt other. elim (cases_Bool (has_come turns s.next j)) [
                | inl has ↦ absurd (running.kept.no_overrun j has other)
                | inr not ↦
                    omega (arith, (next_time jobs turns runnable.in_turn s.next j not lt).1)
              ];
              first = λ j before other. elim (cases_Bool (has_come turns s.next j)) [
                | inl has ↦ absurd (running.kept.no_overrun j has other)
                | inr not ↦
                    elim (next_first jobs turns runnable.in_turn s.next j not (omega arith)) [
                      | inl same ↦ absurd (omega arith)
                      | inr after ↦ elim after [
                        | inl less ↦ less
                        | inr tied ↦ absurd (omega (arith, tied.1))
                      ]
                    ]
              ];
            };
            name_is = ap (λ x. x.name) (sym e);
            time_is = timed ∙ ap (λ x. x.ready) (job_is node.tasks rs turn turn_in_list);
          }

    -- ---- the pending job p goes first
    module _ {p : Pending} (best : best_slot s.slots.items None ≡ Some p) where
      abbrev executes : ℕ
      executes = (job_at jobs p.job).executes

      pub job_in : p.job < length rs
      job_in = omega (
        arith,
        kept.job_below runnable running best,
        jobs_length node.tasks rs,
      )

      pub small : executes ≤ 10000000
      small =
          let below = kept.job_below runnable running best in
          let v : IsValidSheet (task_at node.tasks (job_at jobs p.job).task) =
          All-get_or IsValidSheet node.tasks (job_at jobs p.job).task no_task
          (runnable.legal.known p.job below) runnable.of_node.tasks.valid in
          omega (arith, (kept.cuts_of runnable p.job below).most, v.cost_to, v.period_to)

      -- how long it executes
      pub runs_is : (r : Release) (x : NodeTask) → r ≡ get_or rs p.job r → IsTaskOf node p.task x
          → unwrap_or r.runs x.cost ≡ executes
      runs_is r x read is_x =
          let e = job_is node.tasks rs p.job job_in in
          let task = sym (ap (λ y. y.task) e) ∙ (kept.is_p runnable running best).own in
          let here = read ∙ get_or_default rs p.job r no_release job_in in
          let cost = is_x.cost ∙ ap (λ i. (task_at node.tasks i).cost) (sym task) in
          ap₂ (λ (y : Release) c. unwrap_or y.runs c) here cost ∙ sym (ap (λ y. y.executes) e)

      -- of what is kept of its task
      module _ {x : NodeTask} (is_x : IsTaskOf node p.task x) where
        change_is : next_change x.sections.items p.executed executes
            ≡ change_after (task_at node.tasks p.task).sections p.executed executes
        change_is = next_change-is node (task_at node.tasks p.task).sections x.sections.items
            p.executed executes is_x.sections

        pub ahead : (p.executed < next_change x.sections.items p.executed executes)
            × (p.executed < executes)
        ahead =
            let open_ = (kept.is_p runnable running best).unfinished in (
              omega (
                arith,
                jump.change_ahead (task_at node.tasks p.task).sections p.executed executes open_,
                change_is,
              ),
              open_,
            )

        -- it runs up to a stop, and then the state is another
        module _ (stop : ℕ) (runs : s.now < stop)
            (before_next : s.next < length turns → stop ≤ time_in_turn turns s.next)
            (within : p.executed + (stop - s.now)
            ≤ next_change x.sections.items p.executed executes)
            (to_end : p.executed + (stop - s.now) ≤ executes) (until : ℕ) (in_run : stop ≤ until)
            (new : Simulation) (now_is : new.now ≡ stop) (next_is : new.next ≡ s.next)
            (shown : slices_shown new.slices ≡ with_run (slices_shown s.slices) p.job s.now stop)
            (tidy : IsTidy new.slices) where
          near : p.executed + (stop - s.now)
              ≤ change_after (task_at node.tasks p.task).sections p.executed executes
          near = omega (arith, change_is, within)

          slices_are : slices_shown new.slices ≡ slices_before (picked node jobs) new.now
          slices_are = rw now_is (shown ∙ (ap (λ y. with_run y p.job s.now stop) running.slices
              ∙ sym (jump.slices_run (picked node jobs) s.now stop p.job runs
              (kept.picks runnable running stop runs before_next best near to_end))))

          further : IsRunning node rs turns new → IsFurther node rs turns until s new
          further is = record {
            running = is;
            bounded = omega (arith, now_is, in_run);
            less = rw (now_is, next_is) (omega (arith, in_run, runs));
          }

          own : (y : ℕ) → s.now ≤ y → y ≤ stop
              → executed_before node jobs y p.job ≡ p.executed + (y - s.now)
          own = kept.own_then runnable running stop runs before_next best near to_end

          -- the finish of another job
          other_finish : (j : ℕ) → j < length rs → j ≢ p.job
              → slice_index_or s.finishes.items j None ≡ finish_before node jobs stop j
          other_finish j lt ne = finish_kept stop j (omega arith) lt
              (inl (kept.others_then runnable running stop runs before_next best near to_end j ne))

          finishes_done : p.executed + (stop - s.now) ≡ executes
              → AreFinishes node rs stop (set s.finishes.items p.job (Some stop))
          finishes_done full =
              let last : suc (stop - 1) ≡ stop = omega arith in
              let short : executed_before node jobs (stop - 1) p.job < executes =
              omega (arith, own (stop - 1) (omega arith) (omega arith)) in
              let enough : executes ≤ executed_before node jobs stop p.job =
              omega (arith, own stop (omega arith) (omega arith)) in
              let now = subst (λ y. finish_before node jobs y p.job ≡ Some y) last
              (finish_now node jobs p.job (stop - 1) short
              (subst (λ y. executes ≤ executed_before node jobs y p.job) (sym last) enough)) in
              let in_finishes : p.job < length s.finishes.items =
              omega (arith, job_in, running.finishes.count) in
              record {
                count = length-set s.finishes.items p.job (Some stop) ∙ running.finishes.count;
                each = λ j lt. elim (cases_eq j p.job) [
                  | inl same ↦ subst (λ z. slice_index_or (set s.finishes.items p.job (Some stop)) z
                      None ≡ finish_before node jobs stop z) (sym same)
                      (get_or-set_same s.finishes.items p.job (Some stop) None in_finishes
                      ∙ sym now)
                  | inr ne ↦ get_or-set_other s.finishes.items p.job j (Some stop) None ne
                      ∙ other_finish j lt ne
                ];
              }

          -- it is done
          pub done : (ends : ℕ) → ends ≡ executes → p.executed + (stop - s.now) ≡ ends
              → new.slots.items ≡ set s.slots.items p.task None
              → listed new.lists.items ≡ without_head (listed s.lists.items) p.active
              → new.finishes.items ≡ set s.finishes.items p.job (Some stop)
              → IsFurther node rs turns until s new
          done ends ends_is executed slots lists finishes =
              further record {
                kept = rw (now_is, next_is, slots) (kept.kept_finish runnable running stop runs
                    before_next best near to_end (executed ∙ ends_is));
                list_count = count_kept s.lists.items new.lists.items p.active
                    (drop 1 (list_at (listed s.lists.items) p.active)) lists
                    ∙ running.list_count;
                queues = rw (slots, lists) (move.queues_finish runnable running best);
                alone = rw slots (move.alone_finish runnable running best);
                slices = slices_are;
                tidy = tidy;
                finishes = rw (now_is, finishes) (finishes_done (executed ∙ ends_is));
              }

          -- it runs on, at its next active priority
          pub runs_on : (ends : ℕ) → ends ≡ executes → (next : Pending) → next.job ≡ p.job
              → next.task ≡ p.task → next.level ≡ p.level
              → next.executed ≡ p.executed + (stop - s.now)
              → next.active ≡ active_at node p.task (p.executed + (stop - s.now))
              → p.executed + (stop - s.now) ≢ ends
              → new.slots.items ≡ set s.slots.items p.task (Some next)
              → listed new.lists.items ≡ moved_to (listed s.lists.items) p.active next.active p.task
              → new.finishes.items ≡ s.finishes.items → IsFurther node rs turns until s new
          runs_on ends ends_is next job task level executed active differs slots lists finishes =
              let open_ : p.executed + (stop - s.now) < executes =
              omega (arith, ends_is, to_end, differs) in
              let in_tasks = kept.task_in runnable running best in
              let next_active : (next.active ≡ level_in_order node p.task)
              ⊎ (p.active ≤ next.active) = elim (active_next node p.task p.executed
              (p.executed + (stop - s.now)) executes
              ((kept.is_sound runnable).each p.task in_tasks).apart (omega arith) near) [
                | inl own_level ↦ inl (active ∙ own_level)
                | inr more ↦ inr (omega (arith, (kept.is_p runnable running best).active))
              ] in
              let in_lists : next.active < length (listed s.lists.items) = omega (
                arith,
                active_within node runnable.of_node p.task (p.executed + (stop - s.now)),
                listed_length s.lists.items,
                running.list_count,
              ) in
              further record {
                kept = rw (now_is, next_is, slots) (kept.kept_run runnable running stop runs
                    before_next best near to_end next job task level executed
                    (active ∙ ap (active_at node p.task) (sym executed)) open_);
                list_count = count_moved s.lists.items new.lists.items p.active next.active p.task
                    lists ∙ running.list_count;
                queues = rw (slots, lists)
                    (move.queues_run runnable running best next level next_active in_lists);
                alone = rw slots (move.alone_run runnable running best next level next_active);
                slices = slices_are;
                tidy = tidy;
                finishes = rw (now_is, finishes) (record {
                  count = running.finishes.count;
                  each = λ j lt. elim (cases_eq j p.job) [
                    | inl same ↦ subst (λ z. slice_index_or s.finishes.items z None
                        ≡ finish_before node jobs stop z) (sym same)
                        (finish_kept stop p.job (omega arith) job_in
                        (inr (omega (arith, own stop (omega arith) (omega arith)))))
                    | inr ne ↦ other_finish j lt ne
                  ];
                });
              }
