use Rattle.std.proofs.Common.{◌≡◌, ◌∙◌, false, true, rules, option_map, sym}
use Rattle.task_sheet.specs.Sheet.{task_at}
use Rattle.limit_lines.specs.LimitLines.{is_told, written_if}
use Rattle.limit_lines.proofs.LineLaws.{known_in}
use Rattle.limit_lines.proofs.text.number_text.Goals as goal

pub in_any-requires-clause-known : goal.in_any-requires-clause-known
in_any-requires-clause-known c = known_in c.args.set.now (option_map (λ o. o.now) c.args.order)
    c.args.task c.args.number c.in_ok-own.own c.in_ok-own.ensures

pub returns-then-not-is_told : goal.returns-then-not-is_told
returns-then-not-is_told c =
    let told : is_told c.args.number (task_at c.args.set.now c.args.task)
    (option_map (λ o. o.now) c.args.order)
    (written_if c.args.clocked c.args.number (task_at c.args.set.now c.args.task) c.in_ok-own.own)
    ≡ false =
    sym (rw (c.written_if-said.ensures, c.tasks-tasks.ensures) at c.is_told.ensures) ∙ c.if-not-is_told.true in
    (c.in_ok-own.own, c.in_ok-own.ensures, rw told (search rules))

pub returns : goal.returns
returns c =
    let told : is_told c.args.number (task_at c.args.set.now c.args.task)
    (option_map (λ o. o.now) c.args.order)
    (written_if c.args.clocked c.args.number (task_at c.args.set.now c.args.task) c.in_ok-own.own)
    ≡ true =
    sym (rw (c.written_if-said.ensures, c.tasks-tasks.ensures) at c.is_told.ensures) ∙ c.if-not-is_told.false in (
      c.in_ok-own.own,
      c.in_ok-own.ensures,
      rw told (c.in_ok-furthest.furthest, c.in_ok-furthest.ensures, search rules),
    )
