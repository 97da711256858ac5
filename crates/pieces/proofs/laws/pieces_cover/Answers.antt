use Rattle.pieces.proofs.Cover.{covered}
use Rattle.pieces.proofs.laws.pieces_cover.Goals as goal

pub returns : goal.returns
returns c = covered
