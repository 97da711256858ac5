use Rattle.std.proofs.Common.{◌≡◌, ℕ, suc, List, [], ◌∷◌, ◌++◌, length, append-nil}
use Rattle.std.proofs.Common.{append_assoc, ap, refl, Option, arith}
use Rattle.task_sheet.specs.Sheet.{Task}
use Rattle.judge.specs.Explained.{AreLevels}
use Rattle.judge.specs.declared.levels.LevelRow.{LevelRow}
use Rattle.judge.specs.declared.explained.Parted.{Parted}
use Rattle.judge.specs.declared.judging.JudgedTask.{JudgedTask}
use Rattle.judge.proofs.TaskLaws.{judged_in_set}
use Rattle.judge.proofs.explained.levels_of.Goals as goal

none_left : (parted : Parted) (U : List Task) (asked : Option ℕ) (number : ℕ)
    (judged : List JudgedTask) → length judged ≡ 0 → AreLevels parted U asked number judged []
none_left parted U asked number [] none = refl
none_left parted U asked number (j ∷ judged) none = absurd (omega (arith, none))

pub loop-entry-init : goal.loop-entry-init
loop-entry-init c = record {
  each = c.requires.judged;
  within = judged_in_set c.args.set.now c.args.judged.now c.requires.order;
  counted = refl;
  whole = λ more are. rw c.in_ok-rows.ensures.items are;
}

pub loop-entry-preserved : goal.loop-entry-preserved
loop-entry-preserved c =
    let before : List LevelRow = c.loop-entry.rows.items in
    let level = c.in_ok-push_asked.ensures in
    let split : c.loop-entry.rest.now ≡ c.in-Some.entry.now ∷ c.in-Some.above.now =
    c.in-Some.ensures.cases.0 in
    let is = c.loop-entry.invariant in
    record {
      each = (rw split at is.each).1;
      within = λ k d lt. (rw split at is.within) (suc k) d (omega (arith, lt));
      counted = omega (arith, is.counted, ap (λ (js : List JudgedTask). length js) split);
      whole = λ more are. rw (level.2, append_assoc before level.0 more)
          (is.whole (level.0 ++ more) (rw split (level.0, more, level.1, are, refl)));
    }

pub returns : goal.returns
returns c = rw (append-nil c.loop-entry.rows.items)
    at (c.loop-entry.invariant.whole [] (none_left c.args.parted c.args.set.now c.args.asked
    c.loop-entry.number c.loop-entry.rest.now c.in_default.ensures.cases))
