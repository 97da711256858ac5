use Rattle.std.proofs.Common.{◌<◌, ◌∙◌, None, length, ap, sym, arith}
use Rattle.std.proofs.lemmas.List.{get_or_default}
use Rattle.desk_core.specs.World.{World}
use Rattle.desk_core.proofs.AdvanceLaws.{core-advanced}
use Rattle.desk_core.proofs.desk_core.Core.advance.Goals as goal

pub returns-in-Some-clause-ok : goal.returns-in-Some-clause-ok
returns-in-Some-clause-ok c =
    let a = c.self.inside in
    let w : World = record { book = a.book; drafts = a.drafts.items } in
    let i = c.in-Some.i in
    let slot = c.index_mut.result.now in
    let lt : i < length a.drafts.items =
    omega (arith, c.in-Some.ensures.1, ap length c.deref.ensures.value) in
    let at = rw c.deref.ensures.value at c.in-Some.ensures.2 in
    rw (← c.self.view_is)
    (core-advanced w c.args.draft i slot c.advance.new.self c.advance.result c.in-Some.ensures.0
    (at ∙ get_or_default a.drafts.items i None slot lt ∙ sym c.index_mut.ensures.value)
    c.index_mut.ensures.value c.advance.ensures.ok)
