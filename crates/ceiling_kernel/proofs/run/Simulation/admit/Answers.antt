use Rattle.std.proofs.Common.{◌≡◌, ◌<◌, ℕ, refl, sym, ap, ◌∙◌, arith, get_or, length}
use Rattle.std.proofs.lemmas.List.{get_or_default}
use Rattle.ceiling_kernel.proofs.Common.{level_in_order, no_release, job_in_turn}
use Rattle.ceiling_kernel.proofs.PriorityLaws.{level_within}
use Rattle.ceiling_kernel.proofs.ReleaseLaws.{some_from, none_from}
use Rattle.ceiling_kernel.proofs.RunLaws.{admitted, slot_read, overrun, place, in_list}
use Rattle.ceiling_kernel.proofs.RunLaws.{task_in_turn, few_tasks}
use Rattle.ceiling_kernel.proofs.run.Simulation.admit.Goals.{After-index-tasks-task}
use Rattle.ceiling_kernel.proofs.run.Simulation.admit.Goals as goal

pub returns-then-is_some-clause-err : goal.returns-then-is_some-clause-err
returns-then-is_some-clause-err c =
    let rs = c.args.agenda.now.releases.now in
    let job = job_in_turn c.args.agenda.now.turns.now c.args.self.now.next in
    let q = some_from c.index.result.now c.if-is_some.ensures in
    let read = slot_read c.requires.runnable c.requires.running c.requires.next c.requires.ready
    c.requires.tasks c.index.result.now c.index.ensures in
    overrun c.requires.runnable c.requires.running c.requires.next c.requires.ready q.0 (read ∙ q.1)
    (get_or rs job c.index-agenda-job.result)
    (get_or_default rs job no_release c.index-agenda-job.result
    (in_list c.requires.runnable c.args.self.now.next c.requires.next))

-- the task whose turn it is
module _ (c : goal.After-index-tasks-task) where
  abbrev index : ℕ
  index = get_or c.args.agenda.now.tasks.now
      (job_in_turn c.args.agenda.now.turns.now c.args.self.now.next) 0

  level : (get_or c.tasks.result.now index c.index-tasks-task.result).level
      ≡ level_in_order c.args.kernel.now index
  level =
      let inside : index < length c.tasks.result.now = omega (
        arith,
        task_in_turn c.requires.runnable c.requires.tasks c.args.self.now.next c.requires.next,
        c.tasks.ensures.count,
      ) in
      ap (λ x. x.level) (sym c.index-tasks-task.is)
      ∙ (c.tasks.ensures.each index c.index-tasks-task.result inside c.index-tasks-task.is).level

pub returns-clause-ok : goal.returns-clause-ok
returns-clause-ok c =
    let place_is = place c.requires.runnable c.requires.running c.requires.next c.requires.ready
    c.requires.tasks in
    let own = level (goal.at.returns-clause-ok c).After-index-tasks-task
    ∙ ap (level_in_order c.args.kernel.now) place_is in
    let read = slot_read c.requires.runnable c.requires.running c.requires.next c.requires.ready
    c.requires.tasks c.index.result.now c.index.ensures in (
      admitted c.requires.runnable c.requires.running c.requires.next c.requires.ready _ refl
          place_is own refl own (read ∙ none_from c.index.result.now c.if-is_some.ensures) _ refl
          refl refl c.in_ok-enqueue.ensures refl refl,
      refl,
      refl,
    )

pub enqueue-requires : goal.enqueue-requires
enqueue-requires c =
    let known = (goal.at.enqueue-requires c).After-index-tasks-task in
    omega (
      arith,
      level known,
      level_within c.args.kernel.now c.requires.runnable.of_node (index known),
      c.requires.running.list_count,
    )

pub offset_bounds-tasks-task : goal.offset_bounds-tasks-task
offset_bounds-tasks-task c = omega (
  arith,
  task_in_turn c.requires.runnable c.requires.tasks c.args.self.now.next c.requires.next,
  few_tasks c.requires.runnable,
)

pub bounds-tasks-task : goal.bounds-tasks-task
bounds-tasks-task c = omega (
  arith,
  task_in_turn c.requires.runnable c.requires.tasks c.args.self.now.next c.requires.next,
  c.tasks.ensures.count,
)

pub bounds-tasks-task-2 : goal.bounds-tasks-task-2
bounds-tasks-task-2 c = omega (
  arith,
  task_in_turn c.requires.runnable c.requires.tasks c.args.self.now.next c.requires.next,
  c.tasks.ensures.count,
)

pub index-requires : goal.index-requires
index-requires c = omega (
  arith,
  task_in_turn c.requires.runnable c.requires.tasks c.args.self.now.next c.requires.next,
  c.requires.running.kept.slot_count,
  c.args.self.now.slots.ok.0,
)

pub index_mut-requires : goal.index_mut-requires
index_mut-requires c = omega (
  arith,
  task_in_turn c.requires.runnable c.requires.tasks c.args.self.now.next c.requires.next,
  c.requires.running.kept.slot_count,
  c.args.self.now.slots.ok.0,
)
