use Rattle.desk_cli.proofs.of_two.answer_both.Goals as goal

pub returns-in-Diff : goal.returns-in-Diff
returns-in-Diff c = rw c.in-Diff.is (rw c.asking_of.ensures at c.compare_both.ensures)

pub returns-in-Judge : goal.returns-in-Judge
returns-in-Judge c = rw c.in-Judge.is (rw c.is_sorted-sorted.ensures at c.judge_both.ensures)

pub returns-in-Observe : goal.returns-in-Observe
returns-in-Observe c = rw c.in-Observe.is (rw c.leeway_of.ensures at c.observe_both.ensures)

pub returns-in-Keep : goal.returns-in-Keep
returns-in-Keep c = rw c.in-Keep.is (rw (c.base_of.ensures, c.room_of.ensures) at c.keep_both.ensures)

pub returns-in-ExplainAt : goal.returns-in-ExplainAt
returns-in-ExplainAt c = rw c.in-ExplainAt.is (rw c.is_sorted-sorted.ensures at c.explain_both.ensures)

pub returns-in-DrawBeside : goal.returns-in-DrawBeside
returns-in-DrawBeside c = rw c.in-DrawBeside.is (rw c.asking_of-in-DrawBeside.ensures at c.draw_beside_both.ensures)
