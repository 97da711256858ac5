use Rattle.std.proofs.Common.{◌∙◌, ◌≤◌, List, ap, arith, length, refl, sym}
use Rattle.std.proofs.lemmas.List.{at_drop_all}
use Rattle.task_sheet.specs.Sheet.{CriticalSection}
use Rattle.frames.specs.Locks.{noted_rows, noted_sections}
use Rattle.frames.proofs.Folds.{fold_more}
use Rattle.frames.proofs.locks.note_rows.Goals as goal

pub loop-row-preserved : goal.loop-row-preserved
loop-row-preserved c =
    let locks = c.loop-row.locks.items in
    record {
      noted = fold_more noted_rows (λ locks row. noted_sections locks row.sheet.sections)
          (λ locks row rows. refl) c.args.rows.now c.loop-row.row-index c.row-item.result locks
          c.note_sections.new.locks.items c.loop-row-test.true c.row-item.is
          (c.in_ok-note_sections.ensures.noted
          ∙ ap (λ (sections : List CriticalSection). noted_sections locks sections)
          c.sections.ensures) ∙ c.loop-row.invariant.noted;
      few = c.in_ok-note_sections.ensures.few;
    }

pub returns : goal.returns
returns c =
    let rows = c.args.rows.now in
    let all : length rows ≤ c.loop-row.row-index = omega (arith, c.loop-row-test.false) in
    record {
      noted = sym (at_drop_all (noted_rows c.loop-row.locks.items) rows c.loop-row.row-index all)
          ∙ c.loop-row.invariant.noted;
      few = c.loop-row.invariant.few;
    }
