use Rattle.std.proofs.Common.{ap, rules}
use Rattle.teams.specs.NodeDocument.{NodeData}
use Rattle.teams.proofs.TeamLaws.{judged_so, refused_documents}
use Rattle.teams.proofs.WrittenLaws.{sound_sets}
use Rattle.teams.proofs.text.read_bounded.Goals as goal

pub returns-in_err-teams : goal.returns-in_err-teams
returns-in_err-teams c = search (
  rules,
  refused_documents c.args.node.now c.args.text.now _
      (c.in_ok-document.document, c.in_ok-document.ensures, c.in_err-teams.ensures.err),
)

pub judged-requires : goal.judged-requires
judged-requires c =
    let read = c.in_ok-teams.ensures.ok in
    record {
      sound = sound_sets read.0 c.in_ok-teams.teams.items read.2;
      bare = ap (λ (n : NodeData). n.own.set) c.in_ok-document.ensures.3;
    }

pub returns : goal.returns
returns c = judged_so c.args.node.now c.args.text.now _ (
  c.in_ok-document.document,
  c.in_ok-teams.teams.items,
  c.in_ok-document.ensures,
  c.in_ok-teams.ensures.ok,
  c.judged.ensures,
)
