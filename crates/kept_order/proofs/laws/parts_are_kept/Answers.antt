use Rattle.std.proofs.Common.{◌≡◌, ◌∙◌, ◌∷◌, [], ◌++◌, append_assoc, sym, subst}
use Rattle.std.proofs.lemmas.Bool.{true≢false}
use Rattle.kept_order.specs.Keeping.{Keeps}
use Rattle.kept_order.proofs.KeepsLaws.{Keeps-part}
use Rattle.kept_order.proofs.laws.parts_are_kept.Goals as goal

pub returns-clause-part : goal.returns-clause-part
returns-clause-part c = Keeps-part

pub returns-clause-none : goal.returns-clause-none
returns-clause-none c = λ order i k below. absurd (true≢false (sym below))

pub returns-clause-parted : goal.returns-clause-parted
returns-clause-parted c = λ U kept low high parted order so.
    let whole : kept ≡ (parted.below ++ low ∷ high ∷ []) ++ parted.above = parted.parts
    ∙ sym (append_assoc parted.below (low ∷ high ∷ []) parted.above) in
    parted.none order (record {
      passing = so.passing;
      keeps = Keeps-part (parted.below ++ low ∷ high ∷ []) parted.above order
          (subst (λ xs. Keeps xs order) whole so.keeps);
    })
