use Rattle.teams.proofs.WrittenLaws.{reads_padded, written_within}
use Rattle.teams.proofs.text.read_text.Goals as goal

pub padded-requires : goal.padded-requires
padded-requires c = record {
  limits =
      written_within c.args.text.now c.in_ok-document.document c.in_ok-document.ensures;
}

pub returns : goal.returns
returns c = reads_padded c.args.text.now c.in_ok-document.document c.padded.result
    c.in_ok-document.ensures c.padded.ensures
