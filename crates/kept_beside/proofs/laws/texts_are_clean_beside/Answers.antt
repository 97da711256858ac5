use Rattle.kept_beside.proofs.TextLaws.{clean, refused}
use Rattle.kept_beside.proofs.laws.texts_are_clean_beside.Goals as goal

pub returns-clause-seen : goal.returns-clause-seen
returns-clause-seen c = λ tolerance U places text lines sight best read run is.
    clean U places text lines best read run tolerance sight is

pub returns-clause-refused : goal.returns-clause-refused
returns-clause-refused c = λ U places text lines e best read run is. refused U places text lines best read run e is
