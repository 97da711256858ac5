use Rattle.std.proofs.Common.{◌++◌, ◌∷◌, [], cond, take}
use Rattle.candidate_workers.specs.declared.assaying.AssayFault.TheVariants.{ThreadRefused}
use Rattle.candidate_workers.specs.Crews.{faults_in, IsFirstFault}
use Rattle.candidate_workers.proofs.gathering.Crew.fault.Given as goal

abbrev pub invariant-loop-handed : goal.invariant-loop-handed
invariant-loop-handed l = record {
  first : IsFirstFault (cond l.self.refused (ThreadRefused ∷ []) []
      ++ faults_in (take l.handed-index l.self.handed.items)) l.first;
}
