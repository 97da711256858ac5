use Rattle.std.proofs.Common.{◌∙◌, ◌<◌, ◌==◌, not, length, rules, arith}
use Rattle.std.proofs.lemmas.Bool.Decides.{nat_tests}
use Rattle.ceilings.specs.IsTableOf.{locks_of}
use Rattle.judge.specs.SettingFaults.{setting_number, top_number}
use Rattle.judge.proofs.FaultLaws.{wrong_some}
use Rattle.judge.proofs.settings_fault.wrong_lock.Goals as goal

pub returns : goal.returns
returns c =
    let U = c.args.set.now in
    let threads = c.args.settings.now.threads.items in
    let mutexes = c.args.settings.now.mutexes.items in
    let some : 0 < length mutexes =
    grind (arith, nat_tests, c.is_empty.ensures, c.if-is_empty.false) in
    c.first_lock.ensures (λ lock. not (setting_number mutexes lock == top_number U threads lock))
    (λ lock answer gives. search rules) ∙ wrong_some U (locks_of U) threads mutexes some
