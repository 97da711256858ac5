use Rattle.std.proofs.Common.{◌≡◌, ◌∙◌, Bool, ℕ, List, Result, Ok, Err, ap}
use Rattle.std.specs.Prelude.{MatchResult, IfOk}
use Rattle.task_sheet.specs.Sheet.{Task}
use Rattle.judge.specs.SettingFaults.{IsSettingsFault, rows_fault, settings_fault_by}
use Rattle.judge.specs.Judgements.{AllJudged, order_judged}
use Rattle.judge.specs.Node.{AreNumbersIn, AreNumbersOf, IsNodeOrderBy, IsOrderOfRows}
use Rattle.judge.specs.SettingLines.{rows_in}
use Rattle.judge.specs.declared.fault.SettingsFault.{SettingsFault}
use Rattle.judge.specs.declared.node.JudgedNode.{JudgedNode}
use Rattle.judge.specs.declared.rows.SettingRow.{SettingRow}
use Rattle.judge.proofs.node.judge_settings.Goals as goal

-- what becomes of the rows of a text becomes of the text
module _ (U : List Task) (text : List ℕ) (rows : List SettingRow)
    (read : rows_in text ≡ Ok rows) where
  judged_of_text : (lower : Bool) (answer : Result JudgedNode SettingsFault)
      → MatchResult answer (λ node. IsOrderOfRows lower U rows (order_judged node.judged.items)
      × AllJudged U node.judged.items) (λ e. IsSettingsFault e (rows_fault lower U (Ok rows)))
      → MatchResult answer (λ node. IsNodeOrderBy lower U text (order_judged node.judged.items)
      × AllJudged U node.judged.items) (λ e. IsSettingsFault e (settings_fault_by lower U text))
  judged_of_text lower (Ok node) is = (
    record {
      sound = ap (rows_fault lower U) read ∙ is.0.sound;
      rows = rows;
      read = read;
      by_numbers = is.0.by_numbers;
    },
    is.1,
  )
  judged_of_text lower (Err e) is = rw read is

  numbers_of_text : (answer : Result JudgedNode SettingsFault) → IfOk answer
      (λ node. AreNumbersOf U rows (order_judged node.judged.items) node.numbers.items)
      → IfOk answer
      (λ node. AreNumbersIn U text (order_judged node.judged.items) node.numbers.items)
  numbers_of_text (Ok node) is = record { rows = rows; read = read; each = is }
  numbers_of_text (Err e) is = tt

pub returns-clause-judged : goal.returns-clause-judged
returns-clause-judged c = judged_of_text c.args.set.now c.args.text.now _ c.in_ok-rows.ensures
    c.args.lower_is_higher c.judge_rows.result
    (rw (c.of.ensures, c.deref.ensures.value) at c.judge_rows.ensures.judged)

pub returns-clause-numbers : goal.returns-clause-numbers
returns-clause-numbers c = numbers_of_text c.args.set.now c.args.text.now _ c.in_ok-rows.ensures
    c.judge_rows.result (rw (c.of.ensures, c.deref.ensures.value) at c.judge_rows.ensures.numbers)
