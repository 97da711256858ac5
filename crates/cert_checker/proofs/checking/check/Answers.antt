use Rattle.cert_checker.proofs.AnswerLaws.{answer-told}
use Rattle.cert_checker.proofs.checking.check.Goals as goal

pub returns : goal.returns
returns c =
    let told = answer-told c.args.set.now c.args.chains.now c.args.certificate.now c.judged.result
    c.sheets-sheets.ensures.kept c.judged.ensures in
    record { ready = told.0; kind = told.1; fault = told.2; best = told.3; no_order = told.4 }
