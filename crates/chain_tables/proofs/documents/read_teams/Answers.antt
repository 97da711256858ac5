use Rattle.std.proofs.Common.{[], ◌∷◌, Err, List, inl, inr, refl, subst}
use Rattle.task_sheet.proofs.TreeLaws.{at_exit}
use Rattle.chain_tables.specs.Tables.{WrittenData}
use Rattle.chain_tables.specs.Documents.{ReadsParts}
use Rattle.chain_tables.proofs.documents.read_teams.Goals as goal

pub loop-part-preserved : goal.loop-part-preserved
loop-part-preserved c = λ answer reads.
    let told = c.in_ok-push_part.ensures.ok in
    c.loop-part.invariant answer (
      c.in-Some.part ∷ reads.0,
      (
        c.in-Some.after.now,
        c.in-Some.ensures.part,
        inl (
          told.0,
          told.1,
          subst (λ (ws : List WrittenData). ReadsParts reads.0 c.in-Some.after.now ws answer) told.2
              reads.1,
        ),
      ),
    )

pub returns-in_err-push_part-clause-err : goal.returns-in_err-push_part-clause-err
returns-in_err-push_part-clause-err c =
    at_exit _ c.from_residual.result c.from_residual.ensures.1
    (λ e same other. rw same (c.loop-part.invariant (Err _) (
      c.in-Some.part ∷ [],
      (
        c.in-Some.after.now,
        c.in-Some.ensures.part,
        inr (_, c.in_err-push_part.ensures.err (rw same at other), refl),
      ),
    )))
