use Rattle.std.proofs.Common.{◌∙◌, ◌==◌, ◌||◌, nat_lt, sym, ap, arith, length, get_or, List}
use Rattle.std.proofs.lemmas.Bool.{ne_eqb}
use Rattle.task_sheet.specs.Sheet.{Task}
use Rattle.ceiling_kernel.proofs.AcceptLaws.{outside_at, place_in}
use Rattle.ceiling_kernel.proofs.ReleaseLaws.{place_is}
use Rattle.ceiling_kernel.proofs.accept.is_outside_cost.Goals as goal

pub bounds-sheets-places : goal.bounds-sheets-places
bounds-sheets-places c =
    let known = place_in c.args.set.now c.args.releases.now c.args.places.now c.args.k
    c.requires.places c.requires.known c.requires.in_list in
    omega (arith, known, ap (λ (xs : List Task). length xs) c.sheets.ensures.same)

pub offset_bounds-sheets-places : goal.offset_bounds-sheets-places
offset_bounds-sheets-places c =
    omega (
      arith,
      place_in c.args.set.now c.args.releases.now c.args.places.now c.args.k
          c.requires.places c.requires.known c.requires.in_list,
      c.sheets.ensures.kept.few,
    )

pub returns-else-runs-eq0 : goal.returns-else-runs-eq0
returns-else-runs-eq0 c =
    let U = c.args.set.now in
    let rs = c.args.releases.now in
    let task = get_or c.args.places.now c.args.k 0 in
    let cost = c.cost-cost.result in
    let runs = c.unwrap_or-runs.result in
    let sheet = c.index-sheets-places.is
    ∙ ap (λ (xs : List Task). get_or xs task c.index-sheets-places.result)
    c.sheets.ensures.same in
    let is = outside_at U rs c.args.k task cost c.index-releases-k.result
    c.index-sheets-places.result c.requires.in_list
    (place_is U rs c.args.places.now c.args.k c.requires.places c.requires.in_list)
    (place_in U rs c.args.places.now c.args.k c.requires.places c.requires.known c.requires.in_list)
    sheet c.cost-cost.ensures in
    sym (is ∙ (ap (λ n. (n == 0) || nat_lt cost n) (sym c.unwrap_or-runs.ensures)
    ∙ ap (λ b. b || nat_lt cost runs) (ne_eqb runs 0 c.if-runs-eq0.false)))
