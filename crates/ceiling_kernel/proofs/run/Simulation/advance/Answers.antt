use Rattle.std.proofs.Common.{◌≡◌, ◌+◌, ◌-◌, ◌<◌, ◌≤◌, refl, sym, ap, ◌∙◌, arith, length, vec_len}
use Rattle.std.proofs.Common.{ℕ, subst, Some, None, slice_index_or}
use Rattle.std.specs.Option.{unwrap_or}
use Rattle.ceiling_kernel.specs.declared.trace.Release.{Release}
use Rattle.ceiling_kernel.proofs.Common.{job_at, jobs_of, best_slot, next_change, listed, list_at}
use Rattle.ceiling_kernel.proofs.Common.{Queues}
use Rattle.ceiling_kernel.specs.NodeTasks.{IsTaskOf}
use Rattle.ceiling_kernel.proofs.ListsLaws.{listed_length}
use Rattle.ceiling_kernel.proofs.PriorityLaws.{active_within}
use Rattle.ceiling_kernel.proofs.KeptLaws.{task_in, task_in_slots}
use Rattle.ceiling_kernel.proofs.MoveLaws.{list_is}
use Rattle.ceiling_kernel.proofs.RunLaws.{few_tasks, idle, job_in, small, runs_is, ahead}
use Rattle.ceiling_kernel.proofs.RunLaws.{done, runs_on}
use Rattle.ceiling_kernel.proofs.run.Simulation.advance.Goals.{After-tasks, After-unwrap_or-runs}
use Rattle.ceiling_kernel.proofs.run.Simulation.advance.Goals as goal

pub returns-in_default : goal.returns-in_default
returns-in_default c =
    let lim = c.limit_of-limit.ensures in
    let none = rw c.deref.ensures.value at c.in_default.ensures in
    record {
      ok = record {
        running = idle c.requires.runnable c.requires.running c.limit_of-limit.result lim.after
            lim.next (sym none);
        bounded = lim.until;
        less = omega (arith, lim.after, lim.until);
      };
    }

best_at : (c : goal.After-tasks)
    → best_slot c.args.self.now.slots.items None ≡ Some c.in-Some.picked
best_at c = sym (rw c.deref.ensures.value at c.in-Some.ensures)

pub offset_bounds-tasks-picked : goal.offset_bounds-tasks-picked
offset_bounds-tasks-picked c = omega (
  arith,
  task_in c.requires.runnable c.requires.running (best_at c),
  few_tasks c.requires.runnable,
)

pub bounds-tasks-picked : goal.bounds-tasks-picked
bounds-tasks-picked c = omega (
  arith,
  task_in c.requires.runnable c.requires.running (best_at c),
  c.tasks.ensures.count,
)

pub bounds-agenda-picked : goal.bounds-agenda-picked
bounds-agenda-picked c = job_in c.requires.runnable c.requires.running
    (best_at (goal.at.bounds-agenda-picked c).After-tasks)

pub offset_bounds-agenda-picked : goal.offset_bounds-agenda-picked
offset_bounds-agenda-picked c = omega (
  arith,
  job_in c.requires.runnable c.requires.running
      (best_at (goal.at.offset_bounds-agenda-picked c).After-tasks),
  c.type_inv.agenda,
)

-- what is known of the job that is picked, of its task, and of how long it executes
module _ (c : goal.After-unwrap_or-runs) where
  best : best_slot c.args.self.now.slots.items None ≡ Some c.in-Some.picked
  best = sym (rw c.deref.ensures.value at c.in-Some.ensures)

  task : IsTaskOf c.args.kernel.now c.in-Some.picked.task c.index-tasks-picked.result
  task = c.tasks.ensures.each c.in-Some.picked.task c.index-tasks-picked.result
      (omega (arith, task_in c.requires.runnable c.requires.running best, c.tasks.ensures.count))
      c.index-tasks-picked.is

  in_slots : c.in-Some.picked.task < length c.args.self.now.slots.items
  in_slots = task_in_slots c.requires.runnable c.requires.running best

  in_lists : c.in-Some.picked.active < vec_len c.args.self.now.lists
  in_lists = omega (
    arith,
    list_is c.requires.runnable c.requires.running best,
    listed_length c.args.self.now.lists.items,
  )

  abbrev executes_of : ℕ
  executes_of = (job_at (jobs_of c.args.kernel.now.tasks c.args.agenda.now.releases.now)
      c.in-Some.picked.job).executes

  ends : c.unwrap_or-runs.result ≡ executes_of
  ends = c.unwrap_or-runs.ensures
      ∙ (ap (λ (r : Release). unwrap_or r.runs c.index-tasks-picked.result.cost)
      (sym c.index-agenda-picked.is) ∙ runs_is c.requires.runnable c.requires.running best
      c.index-agenda-picked.result c.index-tasks-picked.result c.index-agenda-picked.is task)

  abbrev Stops : ℕ → ℕ → Type 0
  Stops stop ends = c.in-Some.picked.executed + (stop - c.args.self.now.now)
      ≤ next_change c.index-tasks-picked.result.sections.items c.in-Some.picked.executed ends

  near : (stop : ℕ) → Stops stop c.unwrap_or-runs.result → Stops stop executes_of
  near stop within = subst (Stops stop) ends within

pub stop_at-stop-requires-clause-ahead : goal.stop_at-stop-requires-clause-ahead
stop_at-stop-requires-clause-ahead c =
    let run = (goal.at.stop_at-stop-requires-clause-ahead c).After-unwrap_or-runs in
    subst (λ x. c.in-Some.picked.executed
    < next_change c.index-tasks-picked.result.sections.items c.in-Some.picked.executed x)
    (sym (ends run)) (ahead c.requires.runnable c.requires.running (best run) (task run)).0

pub stop_at-stop-requires-clause-open : goal.stop_at-stop-requires-clause-open
stop_at-stop-requires-clause-open c =
    let run = (goal.at.stop_at-stop-requires-clause-open c).After-unwrap_or-runs in
    omega (
      arith,
      ends run,
      (ahead c.requires.runnable c.requires.running (best run) (task run)).1,
    )

pub overflow_add-executed : goal.overflow_add-executed
overflow_add-executed c =
    let run = (goal.at.overflow_add-executed c).After-unwrap_or-runs in
    omega (
      arith,
      ends run,
      small c.requires.runnable c.requires.running (best run),
      c.stop_at-stop.ensures.end,
    )

pub index_mut-requires : goal.index_mut-requires
index_mut-requires c = omega (
  arith,
  in_slots (goal.at.index_mut-requires c).After-unwrap_or-runs,
  c.args.self.now.slots.ok.0,
)

pub index_mut-requires-2 : goal.index_mut-requires-2
index_mut-requires-2 c = omega (
  arith,
  in_slots (goal.at.index_mut-requires-2 c).After-unwrap_or-runs,
  c.args.self.now.slots.ok.0,
)

pub index_mut-requires-then-executed-runs : goal.index_mut-requires-then-executed-runs
index_mut-requires-then-executed-runs c = omega (
  arith,
  job_in c.requires.runnable c.requires.running
      (best (goal.at.index_mut-requires-then-executed-runs c).After-unwrap_or-runs),
  c.args.self.now.finishes.ok.0,
  c.requires.running.finishes.count,
)

pub returns-then-executed-runs : goal.returns-then-executed-runs
returns-then-executed-runs c =
    let run = (goal.at.returns-then-executed-runs c).After-unwrap_or-runs in
    let lim = c.limit_of-limit.ensures in
    let st = c.stop_at-stop.ensures in
    record {
      ok = done c.requires.runnable c.requires.running (best run) (task run) c.stop_at-stop.result
          st.after (λ n. omega (arith, lim.next n, st.limit))
          (near run c.stop_at-stop.result st.within) (omega (arith, ends run, st.end)) c.args.until
          (omega (arith, lim.until, st.limit)) _ refl refl c.in_ok-add.ensures.run
          c.in_ok-add.ensures.tidy run.unwrap_or-runs.result (ends run) c.if-executed-runs.true
          refl c.drop_first.ensures refl;
    }

pub returns : goal.returns
returns c =
    let run = (goal.at.returns c).After-unwrap_or-runs in
    let lim = c.limit_of-limit.ensures in
    let st = c.stop_at-stop.ensures in
    record {
      ok = runs_on c.requires.runnable c.requires.running (best run) (task run)
          c.stop_at-stop.result st.after (λ n. omega (arith, lim.next n, st.limit))
          (near run c.stop_at-stop.result st.within) (omega (arith, ends run, st.end)) c.args.until
          (omega (arith, lim.until, st.limit)) _ refl refl c.in_ok-add.ensures.run
          c.in_ok-add.ensures.tidy run.unwrap_or-runs.result (ends run) _ refl refl refl refl
          (c.active-active.ensures c.args.kernel.now c.in-Some.picked.task (task run))
          c.if-executed-runs.false refl c.in_ok-move_first.ensures refl;
    }

pub pick-requires-clause-few : goal.pick-requires-clause-few
pick-requires-clause-few c = omega (
  arith,
  few_tasks c.requires.runnable,
  c.requires.running.kept.slot_count,
  c.deref.ensures.len,
)

pub pick-requires-clause-queues : goal.pick-requires-clause-queues
pick-requires-clause-queues c =
    let s = c.args.self.now in
    subst (λ x. Queues (λ k. slice_index_or x k None) (list_at (listed c.deref-2.result.now)))
    (sym c.deref.ensures.value)
    (subst (λ x. Queues (λ k. slice_index_or s.slots.items k None) (list_at (listed x)))
    (sym c.deref-2.ensures.value) c.requires.running.queues)

pub drop_first-requires : goal.drop_first-requires
drop_first-requires c = in_lists (goal.at.drop_first-requires c).After-unwrap_or-runs

pub move_first-requires-clause-old : goal.move_first-requires-clause-old
move_first-requires-clause-old c =
    in_lists (goal.at.move_first-requires-clause-old c).After-unwrap_or-runs

pub move_first-requires-clause-new : goal.move_first-requires-clause-new
move_first-requires-clause-new c =
    let run = (goal.at.move_first-requires-clause-new c).After-unwrap_or-runs in
    let executed : ℕ = c.in-Some.picked.executed + (c.stop_at-stop.result - c.args.self.now.now) in
    omega (
      arith,
      c.active-active.ensures c.args.kernel.now c.in-Some.picked.task (task run),
      active_within c.args.kernel.now c.requires.runnable.of_node c.in-Some.picked.task executed,
      c.requires.running.list_count,
    )
