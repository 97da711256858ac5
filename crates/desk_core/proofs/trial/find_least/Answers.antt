use Rattle.std.proofs.Common.{◌<◌, inl, length, ap, subst, arith, IsFalse}
use Rattle.std.specs.FinSet.{contains}
use Rattle.std.proofs.lemmas.Bool.{ltb-true}
use Rattle.desk_core.proofs.trial.find_least.Goals as goal

pub unreachable-requires : goal.unreachable-requires
unreachable-requires c = c.requires.undecided (inl (λ j member.
    let l = c.args.level.now in
    let within : j < length l.set = ltb-true j (length l.set) (c.left.ensures.part j member) in
    let below : j < c.len.result =
    omega (arith, within, c.len.ensures.count, ap length c.set.ensures) in
    subst (λ m. IsFalse (contains m j)) c.missing.ensures.same (c.in-None.ensures j below)))
