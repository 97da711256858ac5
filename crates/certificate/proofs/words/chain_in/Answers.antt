use Rattle.std.proofs.Common.{refl}
use Rattle.lines.proofs.Parts.{words_some}
use Rattle.certificate.proofs.Loops.{some_first}
use Rattle.certificate.proofs.words.chain_in.Goals as goal

pub returns-in-Some : goal.returns-in-Some
returns-in-Some c =
    let more = some_first _ (words_some c.in-Some._more.now) in
    rw (
      c.in_ok-word.ensures.parts,
      c.in_ok-name.ensures.parts,
      c.in-Some.ensures.parts,
      more.2,
    ) refl
