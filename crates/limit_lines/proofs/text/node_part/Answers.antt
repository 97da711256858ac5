use Rattle.std.proofs.Common.{rules, ◌≡◌, ◌*◌, ◌<◌, List, length, sym, ap, subst, arith}
use Rattle.task_sheet.proofs.Common.{CriticalSection, AreSections, calls}
use Rattle.task_sheet.proofs.OverheadLaws.{calls-fit, locks-few}
use Rattle.limits.specs.Numbers.{HasNumber}
use Rattle.limit_lines.proofs.text.node_part.Goals as goal

pub overflow_mul-result : goal.overflow_mul-result
overflow_mul-result c =
    let t = c.args.sheet.now in
    let k = c.in-Len.place in
    let x = c.index-sections-place.result in
    let node = c.node-node.result in
    let items = c.sections.result.now in
    let same = c.sections.ensures in
    let has = subst (λ n. HasNumber t n) c.in-Len.is c.requires.has in
    let inside : k < length t.sections = omega (arith, has) in
    let within : k < length items =
    omega (arith, inside, ap (λ (xs : List CriticalSection). length xs) same) in
    let are : AreSections 0 t.cost items =
    subst (λ (xs : List CriticalSection). AreSections 0 t.cost xs) (sym same)
    c.requires.valid.sections in
    let few = locks-few 0 t.cost items k x are within c.index-sections-place.is in
    let count : c.len.result ≡ length x.locks = search rules in
    let time : node.lock * c.len.result ≡ calls node x = ap (λ n. node.lock * n) count in
    omega (arith, time, calls-fit node x c.node-node.ensures.limits.lock few)
