use Rattle.std.proofs.Common.{◌≡◌, ◌∙◌, ℕ, ◌++◌, List, [], ◌∷◌, length, drop, string_bytes, refl, sym, ap, append-nil, arith}
use Rattle.task_sheet.specs.Sheet.{Task}
use Rattle.ceiling_kernel.specs.declared.trace.Trace.{Trace}
use Rattle.chain_runs.specs.Strays.{stray_lines}
use Rattle.chain_runs.proofs.strays.push_strays.Goals as goal

-- where no task is left, there is no line
none_left : (U : List Task) (trace : Trace) (offsets rest : List ℕ) → length rest ≡ 0
    → stray_lines U trace offsets rest ≡ []
none_left U trace [] rest none = refl
none_left U trace (offset ∷ offsets) [] none = refl
none_left U trace (offset ∷ offsets) (task ∷ rest) none = absurd (omega (arith, none))

pub returns-in_default : goal.returns-in_default
returns-in_default c =
    let left : List ℕ = drop c.loop-offset.offset-index c.args.offsets.now in
    let none = none_left c.args.set.now c.args.trace.now left c.loop-offset.rest.now
    c.in_default.ensures.cases in
    sym (append-nil (string_bytes c.loop-offset.text))
    ∙ ap (λ xs. string_bytes c.loop-offset.text ++ xs) (sym none)
    ∙ c.loop-offset.invariant
