use Rattle.std.proofs.Common.{◌≡◌, ◌+◌, length, sym, ◌∙◌, ap}
use Rattle.task_sheet.specs.Indexes.{Indexes, indexes_of, below, without_index}
use Rattle.task_sheet.proofs.MembersIndexes.{indexes_of-all_below, indexes_of-remove}
use Rattle.cert_checker.specs.CertificateFaults.{level_fault, levels_fault}
use Rattle.certificate.specs.Body.{CertLevelData}
use Rattle.cert_checker.specs.Ready.{task_by_name}
use Rattle.cert_checker.proofs.LevelSteps.{levels-step}
use Rattle.cert_checker.proofs.levels.levels_fault.Goals as goal

pub loop-i-init : goal.loop-i-init
loop-i-init c =
    let all : indexes_of c.all-left.result ≡ below (length c.args.set.now) = ap indexes_of
    c.all-left.ensures ∙ indexes_of-all_below c.len.result ∙ ap below c.len.ensures.count in
    ap (λ (X : Indexes). levels_fault c.args.set.now c.args.asked 1 X c.args.levels.now) all

pub loop-i-preserved : goal.loop-i-preserved
loop-i-preserved c =
    let U = c.args.set.now in
    let L = indexes_of c.loop-i.left in
    let i = c.loop-i.i in
    let l = c.index-levels-i.result in
    let whole = ap (λ fs. let x : CertLevelData = record {
      name = c.level.inside.name;
      time =
          c.level.inside.t;
      fails = fs;
    } in x) c.deref.ensures.value ∙ c.level.view_is in
    let none = ap (level_fault U c.args.asked (i + 1) L) (sym whole) ∙ sym c.level_fault.ensures
    ∙ c.in-None.is in
    levels-step U c.args.asked L (indexes_of c.without-left.result) c.args.levels.now i l _
    c.loop-i-test.true c.index-levels-i.is none
    (ap indexes_of c.without-left.ensures ∙ indexes_of-remove c.loop-i.left c.task_by_name.result
    ∙ ap (without_index L) (c.task_by_name.ensures.is ∙ ap (λ x. task_by_name U x.name) whole))
    c.loop-i.invariant
