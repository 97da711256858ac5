use Rattle.std.proofs.Common.{List, [], ℕ, ap, arith, length}
use Rattle.std.proofs.lemmas.Result.{IfOk-weaker}
use Rattle.frames.specs.declared.tones.Toned.{Toned}
use Rattle.frames.specs.declared.tones.TheConstants.{LOCK_TONES}
use Rattle.frames.proofs.Tonings.{toned_count}
use Rattle.frames.proofs.locks.locks_of.Goals as goal

pub returns-clause-few : goal.returns-clause-few
returns-clause-few c = IfOk-weaker c.tones_of.result _ _
    (λ locks is. omega (
      arith,
      ap (λ (them : List Toned). length them) is,
      toned_count LOCK_TONES [] c.deref.result.now,
      ap (λ (names : List (List ℕ)). length names) c.deref.ensures.value,
      c.in_ok-note_rows.ensures.few,
    )) c.tones_of.ensures
