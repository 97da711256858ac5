use Rattle.std.proofs.Common.{◌≡◌, ◌<◌, ◌∷◌, [], ◌++◌, cond, length, take, get_or, ap, sym, ◌∙◌}
use Rattle.std.proofs.Common.{arith}
use Rattle.candidate_workers.specs.declared.assaying.AssayFault.TheVariants.{ThreadRefused}
use Rattle.candidate_workers.specs.Crews.{rank_of, fault_in, faults_in}
use Rattle.candidate_workers.proofs.CrewLaws.{first_of_more}
use Rattle.candidate_workers.proofs.gathering.Crew.fault.Goals as goal

pub loop-handed-preserved : goal.loop-handed-preserved
loop-handed-preserved c =
    let start = cond c.args.self.now.refused (ThreadRefused ∷ []) [] in
    let hs = c.args.self.now.handed.items in
    let i = c.loop-handed.handed-index in
    let value = c.deref-handed-items.ensures.value in
    let here : get_or hs i c.handed-item.result ≡ c.handed-item.result =
    ap (λ xs. get_or xs i c.handed-item.result) (sym value) ∙ sym c.handed-item.is in
    let within : i < length hs =
    omega (arith, c.loop-handed-test.true, ap (λ xs. length xs) value) in
    record {
      first = first_of_more rank_of fault_in start hs i c.handed-item.result
          c.first_with-first.result within here (c.first_with-first.ensures (start
          ++ faults_in (take i hs)) c.loop-handed.invariant.first);
    }
