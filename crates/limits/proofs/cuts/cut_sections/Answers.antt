use Rattle.std.proofs.Common.{rules, ◌≡◌, ◌++◌, ◌∷◌, [], List, map, take, sym, ◌∙◌, ap, subst, arith}
use Rattle.std.proofs.lemmas.List.{map_more, take_all}
use Rattle.task_sheet.proofs.Common.{AreSections, CriticalSection}
use Rattle.task_sheet.proofs.OverheadLaws.{locks-few}
use Rattle.limits.specs.Cuts.{cut_len}
use Rattle.limits.proofs.CutLaws.{cut_one, sections-stay}
use Rattle.limits.proofs.cuts.cut_sections.Goals as goal

pub cut_len-len-requires-clause-few : goal.cut_len-len-requires-clause-few
cut_len-len-requires-clause-few c =
    let t = c.args.sheet.now in
    let items = c.sections-sections.result.now in
    let are : AreSections 0 t.cost items = subst (λ (xs : List CriticalSection). AreSections 0 t.cost xs)
    (sym c.sections-sections.ensures) c.requires.valid.sections in
    locks-few 0 t.cost items c.loop-section.section-index c.section-item.result are
    c.loop-section-test.true c.section-item.is

pub loop-section-preserved : goal.loop-section-preserved
loop-section-preserved c =
    let items = c.sections-sections.result.now in
    let i = c.loop-section.section-index in
    let x = c.section-item.result in
    let f = cut_one c.args.lock c.args.most c.node-node.result in
    let at : c.section.inside.at ≡ x.at = ap (λ (s : CriticalSection). s.at) c.section.view_is in
    let locks : c.in_ok-locks.locks.items ≡ x.locks = search rules in
    let len : c.cut_len-len.result ≡ cut_len c.args.lock c.args.most c.node-node.result x =
    c.cut_len-len.ensures in
    let y : CriticalSection = record {
      locks = c.in_ok-locks.locks.items;
      at = c.section.inside.at;
      len = c.cut_len-len.result;
    } in
    let is : y ≡ f x = λ j. record { locks = locks j; at = at j; len = len j } in
    let pushed : c.push.new.self.items ≡ c.loop-section.others.items ++ y ∷ [] = search rules in
    pushed
    ∙ ap (λ (ys : List CriticalSection). ys ++ y ∷ []) c.loop-section.invariant
    ∙ ap (λ (z : CriticalSection). map f (take i items) ++ z ∷ []) (is ∙ ap f c.section-item.is)
    ∙ sym (map_more f items i x c.loop-section-test.true)

pub returns : goal.returns
returns c =
    let t = c.args.sheet.now in
    let items = c.sections-sections.result.now in
    let f = cut_one c.args.lock c.args.most c.node-node.result in
    c.loop-section.invariant
    ∙ ap (map f) (take_all _ items (omega (arith, c.loop-section-test.false)))
    ∙ ap (map f) c.sections-sections.ensures
    ∙ ap (λ node. map (cut_one c.args.lock c.args.most node) t.sections) c.node-node.ensures.same
    ∙ sym (sections-stay c.args.lock c.args.most t.node 0 0 t.sections)
