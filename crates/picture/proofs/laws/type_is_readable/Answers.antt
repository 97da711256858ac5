use Rattle.std.proofs.Common.{◌≡◌, inl, inr, ℕ, ◌*◌, ◌≤◌, Bool, true, false, arith}
use Rattle.std.specs.Prelude.{◌==◌}
use Rattle.std.proofs.lemmas.Bool.{cases_Bool}
use Rattle.frames.specs.View.{paper_width}
use Rattle.picture.specs.Document.{paper_wide}
use Rattle.picture.specs.Laws.{LEAST_TYPE}
use Rattle.picture.proofs.laws.type_is_readable.Goals as goal

of_size : (size : ℕ) (is : Bool) → (size == 3) ≡ is
    → 6 * 254 * (10 * paper_width size) ≤ LEAST_TYPE * paper_wide size * 720
of_size size true is = rw is (omega arith)
of_size size false is = rw is (omega arith)

pub returns : goal.returns
returns c = λ size. elim (cases_Bool (size == 3)) [
  | inl is ↦ of_size size true is
  | inr not ↦ of_size size false not
]
