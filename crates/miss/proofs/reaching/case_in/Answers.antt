use Rattle.std.proofs.Common.{◌≤◌, ℕ, length, Option, Some, None}
use Rattle.std.specs.Prelude.{IfNone, IfSome}
use Rattle.ceiling_kernel.proofs.Common.{Node, after_of, node_in}
use Rattle.ceiling_kernel.specs.declared.accept.TheConstants.{RELEASE_LIMIT}
use Rattle.miss.specs.Misses.{IsWorstCase}
use Rattle.miss.specs.Shown.{IsCaseOf, IsTooLong}
use Rattle.miss.specs.declared.worst.Run.{Run}
use Rattle.miss.proofs.MemberLaws.{above_known}
use Rattle.miss.proofs.reaching.case_in.Goals as goal

case_is : (node : Node) (i : ℕ) (case : Option Run)
    → IfSome case (λ run. IsWorstCase node.tasks i (after_of node.order i) run.releases.items run.until
    × (length run.releases.items ≤ RELEASE_LIMIT))
    → IfNone case (IsTooLong node.tasks i (after_of node.order i)) → IsCaseOf node i case
case_is node i (Some run) some none = some
case_is node i None some none = none

pub worst_case-requires-clause-above : goal.worst_case-requires-clause-above
worst_case-requires-clause-above c = above_known (node_in c.args.set.now c.args.order.now)
    (record { tasks = c.sheets.ensures.kept; order = c.requires.order }) c.args.task c.requires.task
    c.above.result.now c.above.ensures

pub returns : goal.returns
returns c =
    case_is (node_in c.args.set.now c.args.order.now) c.args.task c.in_ok-case.case
    (rw c.above.ensures at c.in_ok-case.ensures.some) (rw c.above.ensures at c.in_ok-case.ensures.none)
