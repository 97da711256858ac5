use Rattle.std.proofs.Common.{◌∙◌, ◌<◌, not, length, rules, arith}
use Rattle.std.proofs.lemmas.Bool.Decides.{nat_tests}
use Rattle.ceilings.specs.IsTableOf.{locks_of}
use Rattle.judge.specs.SettingFaults.{is_set}
use Rattle.judge.proofs.FaultLaws.{mutexless_some}
use Rattle.judge.proofs.settings_fault.mutexless.Goals as goal

pub returns : goal.returns
returns c =
    let some : 0 < length c.args.mutexes.now =
    grind (arith, nat_tests, c.is_empty.ensures, c.if-is_empty.false) in
    c.first_lock.ensures (λ lock. not (is_set c.args.mutexes.now lock))
    (λ lock answer gives. search rules)
    ∙ mutexless_some (locks_of c.args.set.now) c.args.mutexes.now some
