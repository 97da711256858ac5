use Rattle.std.proofs.Common.{◌≡◌, ℕ, List, string_bytes, subst}
use Rattle.std.specs.Prelude.{IfOk}
use Rattle.picture.specs.Document.{signed}
use Rattle.picture.proofs.document.draw_chart.Goals as goal

pub returns : goal.returns
returns c =
    subst (λ (text : List ℕ). IfOk c.signed.result (λ document. string_bytes document ≡ signed text))
    c.in_ok-body_of.ensures c.signed.ensures
