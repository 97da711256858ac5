use Rattle.desk_core.proofs.LegalLaws.{found-are-news}
use Rattle.desk_core.proofs.OpenLaws.{news-few}
use Rattle.desk_core.proofs.laws.findings_are_few.Goals as goal

pub returns : goal.returns
returns c = record { few = news-few; taken = found-are-news }
