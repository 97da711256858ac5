use Rattle.std.proofs.Common.{◌≡◌, ◌∙◌, ℕ, ◌+◌, ◌++◌, ◌∷◌, [], Bool, List, drop, take, append_assoc}
use Rattle.std.proofs.Common.{ap, ap₂, sym, Option, Some, None}
use Rattle.std.specs.Prelude.{slice_index_or}
use Rattle.std.proofs.lemmas.List.{drop_more}
use Rattle.task_sheet.specs.Sheet.{Task}
use Rattle.trace_text.specs.declared.rows.TraceJob.{TraceJob}
use Rattle.observed.specs.Near.{behind, near, rise_from}
use Rattle.observed.specs.Observed.{seen_from, with_seen}
use Rattle.observed.specs.Pieces.{level_of, pieces_at}
use Rattle.observed.specs.Promises.{no_promise}
use Rattle.observed.specs.Seen.{seen_job, until_of}
use Rattle.observed.specs.declared.pieces.Piece.{Piece}
use Rattle.observed.specs.declared.promises.Promise.{Promise}
use Rattle.observed.specs.SeenJob.{SeenData}
use Rattle.observed.proofs.NearLaws.{seen-near}
use Rattle.observed.proofs.observing.seen_jobs.Goals as goal
use Rattle.observed.proofs.observing.seen_jobs.Goals.{in-Some+in_ok-fill_near+in_ok-seen_job+in_ok-push, in_default}

pub loop-place-preserved : goal.loop-place-preserved
loop-place-preserved c =
    let U : List Task = c.args.set.now in
    let promises : List Promise = c.args.promises.now in
    let end : ℕ = c.args.end in
    let pieces : List Piece =
    pieces_at promises c.args.housed.homes.now c.args.housed.slices.now in
    let rest : List Piece = pieces_at promises c.behind_next-rest.result.homes.now
    c.behind_next-rest.result.slices.now in
    let jobs : List TraceJob = c.args.jobs.now in
    let k : ℕ = c.loop-place.place in
    let job : TraceJob = c.index-jobs-place.result in
    let before : List SeenData = c.loop-place.seen.items in
    let later : List SeenData = seen_from U promises end pieces jobs (k + 1) (drop (k + 1) jobs) in
    let here : drop k jobs ≡ job ∷ drop (k + 1) jobs = drop_more jobs k job c.loop-place-test.true
    ∙ ap (λ (j : TraceJob). j ∷ drop (k + 1) jobs) (sym c.index-jobs-place.is) in
    let at : (o : Option ℕ) → level_of promises job.name ≡ o → seen_from U promises end pieces jobs k
    (drop k jobs) ≡ with_seen U promises end pieces (take k jobs) job o later =
    λ o is. ap (λ (js : List TraceJob). seen_from U promises end pieces jobs k js) here
    ∙ ap (λ (l : Option ℕ). with_seen U promises end pieces (take k jobs) job l later) is in
    record {
      near = c.behind_next-rest.ensures;
      whole = elim c.match-level_of.branch [
        | in-Some+in_ok-fill_near+in_ok-seen_job+in_ok-push w ↦
            let level : ℕ = w.in-Some.level in
            let p : Promise = slice_index_or promises level no_promise in
            let r : SeenData = w.in_ok-seen_job.field-0 in
            let close : w.deref.result.now
            ≡ near (rise_from 0 pieces) (until_of end job) (behind job.arrival pieces) =
            w.deref.ensures.value ∙ w.in_ok-fill_near.ensures
            ∙ (ap (λ (b : Bool). near b w.until_of.result rest) c.rises-sorted.ensures
            ∙ ap₂ (λ (u : ℕ) (ps : List Piece). near (rise_from 0 pieces) u ps) w.until_of.ensures
            c.behind_next-rest.ensures) in
            let same : r ≡ seen_job U promises p level end pieces (take k jobs) job =
            w.in_ok-seen_job.ensures
            ∙ (ap (λ (ps : List Piece). seen_job U promises p level end ps (take k jobs) job) close
            ∙ seen-near U promises p level end pieces (take k jobs) job) in
            let step : seen_from U promises end pieces jobs k (drop k jobs) ≡ r ∷ later =
            at (Some level) (sym c.level_of.ensures.is ∙ w.in-Some.is)
            ∙ ap (λ (x : SeenData). x ∷ later)
            (sym same) in
            ap (λ (s : List SeenData). s ++ later)
            (ap (λ v. v.items) w.seen-is ∙ w.in_ok-push.ensures.items)
            ∙ (append_assoc before (r ∷ []) later
            ∙ (ap (λ (xs : List SeenData). before ++ xs) (sym step) ∙ c.loop-place.invariant.whole))
        | in_default w ↦
            ap (λ (s : List SeenData). s ++ later) (ap (λ v. v.items) w.seen-is)
            ∙ (ap (λ (xs : List SeenData). before ++ xs)
            (sym (at None (sym c.level_of.ensures.is ∙ w.in_default.is)))
            ∙ c.loop-place.invariant.whole)
      ];
    }
