use Rattle.std.proofs.Common.{◌∙◌, refl, sym, ap, arith, length, get_or, List}
use Rattle.task_sheet.specs.Sheet.{Task}
use Rattle.ceiling_kernel.proofs.AcceptLaws.{too_late_at, place_in}
use Rattle.ceiling_kernel.proofs.ReleaseLaws.{place_is}
use Rattle.ceiling_kernel.proofs.accept.is_too_late.Goals as goal

pub offset_bounds-sheets-places : goal.offset_bounds-sheets-places
offset_bounds-sheets-places c =
    omega (
      arith,
      place_in c.args.set.now c.args.releases.now c.args.places.now c.args.k
          c.requires.places c.requires.known c.requires.in_list,
      c.sheets.ensures.kept.few,
    )

pub bounds-sheets-places : goal.bounds-sheets-places
bounds-sheets-places c =
    let known = place_in c.args.set.now c.args.releases.now c.args.places.now c.args.k
    c.requires.places c.requires.known c.requires.in_list in
    omega (arith, known, ap (λ (xs : List Task). length xs) c.sheets.ensures.same)

pub returns : goal.returns
returns c =
    let U = c.args.set.now in
    let rs = c.args.releases.now in
    let task = get_or c.args.places.now c.args.k 0 in
    let sheet = c.index-sheets-places.is
    ∙ ap (λ (xs : List Task). get_or xs task c.index-sheets-places.result)
    c.sheets.ensures.same in
    sym (too_late_at U rs c.args.k task c.jitter.result c.index-releases-k.result
    c.index-sheets-places.result _ c.requires.in_list
    (place_is U rs c.args.places.now c.args.k c.requires.places c.requires.in_list)
    (place_in U rs c.args.places.now c.args.k c.requires.places c.requires.known c.requires.in_list)
    sheet c.jitter.ensures refl)
