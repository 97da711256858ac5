use Rattle.std.proofs.Common.{rules, ◌≡◌}
use Rattle.std.proofs.lemmas.List.Elements.{All-from_recursion}
use Rattle.assignment.specs.Verdict.{verdict_of, verdict_set}
use Rattle.cert_checker.specs.Numbers.{IsChainOf}
use Rattle.cert_checker.proofs.SetChains.{set-chains}
use Rattle.set_commands.proofs.certify.certified.Goals as goal

-- the chains are of the set's tasks
pub certificate_of-requires : goal.certificate_of-requires
certificate_of-requires g c =
    let verdict = c.in_ok-verdict.verdict in
    let same : verdict_set verdict ≡ c.in_ok-tasks.tasks = search rules in
    let has = c.in_ok-tasks.ensures.chains in
    rw (c.deref.ensures.value, same) (All-from_recursion (IsChainOf c.in_ok-tasks.tasks) c.in_ok-tasks.chains.items
    (set-chains has.0 c.in_ok-tasks.tasks c.in_ok-tasks.chains.items has.2))

pub returns-clause-answer : goal.returns-clause-answer
returns-clause-answer g c =
    let verdict = c.in_ok-verdict.verdict in
    let same : verdict_set verdict ≡ c.in_ok-tasks.tasks = search rules in
    let shared : verdict_set verdict ≡ c.in_ok-shared.shared.value = search rules in
    let has = c.in_ok-tasks.ensures.answer in
    let made = rw c.deref.ensures.value at c.in_ok-certificate.ensures in (
      verdict_set verdict,
      c.in_ok-tasks.chains.items,
      verdict_of verdict,
      rw same (has.0, has.1, has.2.set),
      rw same c.in_ok-tasks.ensures.chains,
      rw shared c.in_ok-verdict.ensures.verdict,
      made,
    )
