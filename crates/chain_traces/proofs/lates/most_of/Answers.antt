use Rattle.std.proofs.Common.{◌≡◌, ◌∙◌, ℕ, List, Some, ap, sym}
use Rattle.task_sheet.specs.Sheet.{Task}
use Rattle.chains.specs.Parts.{bound_in}
use Rattle.chains.specs.declared.bounds.Level.{Level}
use Rattle.chains.specs.declared.bounds.Writes.{Writes}
use Rattle.chains.specs.declared.bounds.Writes.TheVariants.{AtDeadline}
use Rattle.chain_tables.specs.Chains.{ChainData}
use Rattle.chain_traces.specs.Lates.{offsets_held}
use Rattle.chain_traces.proofs.LateLaws.{bound_short}
use Rattle.chain_traces.proofs.lates.most_of.Goals as goal

pub late_after-requires : goal.late_after-requires
late_after-requires c =
    let U : List Task = c.args.scene.now.set.now in
    let levels : List Level = c.args.scene.now.levels.now in
    let chain : ChainData = c.args.chain.now in
    let own : ℕ = c.in-Some.own in
    let writes : chain.writes ≡ AtDeadline =
    sym (ap (λ (d : ChainData). d.writes) c.chain.view_is) ∙ c.in-AtDeadline.is in
    let offsets : List ℕ = offsets_held chain.writes c.args.scene.now.seen.now chain.tasks chain.offsets in
    let is : bound_in AtDeadline offsets U levels chain.tasks ≡ Some own =
    ap (λ (w : Writes). bound_in w offsets U levels chain.tasks) (sym writes)
    ∙ sym c.requires ∙ c.in-Some.is in
    let tasks : c.deref.result.now ≡ chain.tasks =
    c.deref.ensures.value ∙ ap (λ (d : ChainData). d.tasks) c.chain.view_is in
    rw tasks (bound_short offsets U levels chain.tasks own c.sheets.ensures.kept is)
