use Rattle.std.proofs.Common.{◌↔◌, drop, map}
use Rattle.book_lock.specs.TeamPass.{HaveReceipts, placed_entries}
use Rattle.book_lock.proofs.closing.all_agree.Given as goal

abbrev pub invariant-loop-pass : goal.invariant-loop-pass
invariant-loop-pass g l =
    let all = placed_entries l.team 1 (map (λ e. e.value) l.log) in
    HaveReceipts l.team all (drop l.pass-index l.passes) ↔ HaveReceipts l.team all l.passes
