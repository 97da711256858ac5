use Rattle.std.proofs.Common.{◌≡◌, ◌∙◌, ℕ, List, ap, ap₂, arith}
use Rattle.task_sheet.proofs.Common.{Task, task_at, Indexes, among, blocking_of}
use Rattle.assignment.specs.Places.{PlaceData}
use Rattle.assignment.specs.Placings.{tasks_of_places}
use Rattle.observed.specs.Promises.{promised}
use Rattle.observed.proofs.PlaceLaws.{sheet-at}
use Rattle.observed.proofs.promises.promise_of.Goals as goal

pub members_at-requires : goal.members_at-requires
members_at-requires c = λ k d lt.
    omega (arith, c.requires.others k d lt, c.sheets.ensures.kept.few)

pub returns : goal.returns
returns c =
    let U : List Task = c.args.set.now in
    let own : PlaceData = c.args.place.now in
    let r : Task = c.index-sheets-place.result in
    let task : c.place.inside.task ≡ own.task = ap (λ (q : PlaceData). q.task) c.place.view_is in
    let response : c.place.inside.response ≡ own.response =
    ap (λ (q : PlaceData). q.response) c.place.view_is in
    let sheet : r ≡ task_at U own.task = sheet-at U c.sheets.result.now c.place.inside.task own.task
    r c.sheets.ensures.same task c.requires.task c.index-sheets-place.is in
    let time : c.blocking-time.result ≡ blocking_of U own.task
    (among (tasks_of_places c.args.above.now)) = c.blocking-time.ensures.is
    ∙ ap₂ (λ (n : ℕ) (X : Indexes). blocking_of U n X) task c.members_at.ensures in
    c.promised.ensures
    ∙ ap₂ (λ (t : Task) (k : ℕ). promised t k c.args.number c.blocking-time.result c.place.inside.response)
    sheet task
    ∙ ap₂ (λ (b n : ℕ). promised (task_at U own.task) own.task c.args.number b n) time response
