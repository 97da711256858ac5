use Rattle.std.proofs.Common.{ℕ, List, subst}
use Rattle.std.specs.Prelude.{Ok, Err}
use Rattle.std.proofs.lemmas.Result.{err_from_is_err_and}
use Rattle.two_input_commands.specs.Diff.{IsNew, IsNoNew}
use Rattle.two_input_commands.specs.Simulate.{SimulatesText}
use Rattle.two_input_commands.proofs.BesideRefusals.{no_new_run, no_new_set}
use Rattle.two_input_commands.proofs.beside.run_both.Goals as goal

pub returns-in_err-set-clause-answer : goal.returns-in_err-set-clause-answer
returns-in_err-set-clause-answer c =
    let p = err_from_is_err_and c.from_residual-in_err-set.result
    c.from_residual-in_err-set.ensures.1 in
    let was = subst (λ (l : List ℕ). SimulatesText c.args.tasks.now l (Ok c.in_ok-was.was'))
    c.parts_of.ensures.list c.in_ok-was.ensures.answer in
    let new = subst (λ (l : List ℕ). IsNoNew c.args.asking l c.in_err-set.field-0.0)
    c.parts_of.ensures.new c.in_err-set.ensures in
    rw (p.1, p.2) (no_new_set c.args.asking c.args.tasks.now c.args.text.now c.in_ok-was.was'
    c.in_err-set.field-0.0 was new)

pub returns-in-Ok-clause-answer : goal.returns-in-Ok-clause-answer
returns-in-Ok-clause-answer c = record {
  before = subst (λ (l : List ℕ). SimulatesText c.args.tasks.now l (Ok c.in_ok-was.was'))
      c.parts_of.ensures.list c.in_ok-was.ensures.answer;
  new = (
    c.in_ok-set._by,
    subst (λ (l : List ℕ). IsNew c.args.asking l c.in_ok-set.set c.in_ok-set._by)
        c.parts_of.ensures.new c.in_ok-set.ensures.0,
  );
  after = subst (λ (l : List ℕ). SimulatesText c.in_ok-set.set l (Ok c.in-Ok.is'))
      c.parts_of.ensures.list c.in-Ok.ensures.answer;
}

pub returns-in-Err-clause-answer : goal.returns-in-Err-clause-answer
returns-in-Err-clause-answer c =
    let was = subst (λ (l : List ℕ). SimulatesText c.args.tasks.now l (Ok c.in_ok-was.was'))
    c.parts_of.ensures.list c.in_ok-was.ensures.answer in
    let new = subst (λ (l : List ℕ). IsNew c.args.asking l c.in_ok-set.set c.in_ok-set._by)
    c.parts_of.ensures.new c.in_ok-set.ensures.0 in
    let why = subst (λ (l : List ℕ). SimulatesText c.in_ok-set.set l (Err c.in-Err.refusal))
    c.parts_of.ensures.list c.in-Err.ensures.answer in
    rw c.new_run_refusal.ensures (no_new_run c.args.asking c.args.tasks.now c.args.text.now
    c.in_ok-was.was' c.in_ok-set.set c.in_ok-set._by c.in-Err.refusal was new why)
