use Rattle.std.proofs.Common.{◌≡◌, ◌≢◌, Some, Ok, Err, Result, IfOk, IfErr, None, List, ℕ, refl}
use Rattle.toml.specs.Data.{Members}
use Rattle.toml.specs.View.{table_view}
use Rattle.task_sheet.specs.ReadsSet.{IsDocument}
use Rattle.teams.specs.NodeDocument.{NodeData, ReadsNodeDocument, node_fault, node_of}
use Rattle.teams.specs.declared.node.NodeFault.{NodeFault}
use Rattle.teams.specs.declared.node.NodeFault.TheVariants as fault
use Rattle.teams.proofs.node.read_document.Goals as goal

pub returns-in-Ok : goal.returns-in-Ok
returns-in-Ok c =
    let tree : Members = table_view c.in-Ok.root in
    let is : IsDocument c.args.text.now tree =
    record { utf8 = c.in-Ok.ensures.ok.0; parsed = c.in-Ok.ensures.ok.1 } in
    reads c.args.text.now tree is c.read_root.result c.read_root.ensures.ok c.read_root.ensures.err
    c.read_root.ensures.tree
  where
    reads : (text : List ℕ) (tree : Members) → IsDocument text tree → (r : Result NodeData NodeFault)
        → IfOk r (λ n. (node_fault tree ≡ None) × (n ≡ node_of tree))
        → IfErr r (λ e. e ≢ fault.OutOfMemory → node_fault tree ≡ Some e)
        → IfErr r (λ e. e ≢ fault.Syntax) → ReadsNodeDocument text r
    reads text tree is (Ok n) h g f = (tree, is, h.0, h.1)
    reads text tree is (Err fault.OutOfMemory) h g f = tt
    reads text tree is (Err fault.Syntax) h g f = absurd (f refl)
    reads text tree is (Err e) h g f = (tree, is, g (λ q. cc))
