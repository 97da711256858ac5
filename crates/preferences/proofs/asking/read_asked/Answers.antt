use Rattle.std.proofs.Common.{◌∙◌, None, sym}
use Rattle.preferences.specs.ReadsAsked.{TellsDoubt}
use Rattle.preferences.proofs.ChainedLaws.{asked_by}
use Rattle.preferences.proofs.ToldLaws.{told_as}
use Rattle.preferences.proofs.asking.read_asked.Goals as goal

pub returns-in-None : goal.returns-in-None
returns-in-None c =
    let read = c.in-Ok.ensures in
    let tells : TellsDoubt c.args.asking c.args.text.now read.0.prefers c.in-Ok.read.set None = (
      c.in-Ok-is_told.is_told,
      c.in-Ok-is_told.ensures,
      told_as c.in-Ok-is_told.is_told _ _ _ _ c.in-Ok.read.set _ read.2 read.3
          (sym c.in-None.is ∙ c.doubt_told.ensures),
    ) in
    asked_by c.args.asking c.args.text.now read.0 c.in-Ok.read.set c.in-Ok.read.choice read.1
    read.2 read.3 read.4 tells c.chained.result c.chained.ensures

pub returns-in-Some : goal.returns-in-Some
returns-in-Some c =
    let read = c.in-Ok.ensures in (
      read.0,
      c.in-Ok.read.set,
      read.1,
      read.4,
      (
        c.in-Ok-is_told.is_told,
        c.in-Ok-is_told.ensures,
        told_as c.in-Ok-is_told.is_told _ _ _ _ c.in-Ok.read.set _ read.2 read.3
            (sym c.in-Some.is ∙ c.doubt_told.ensures),
      ),
    )
