use Rattle.std.proofs.Common.{◌≡◌, ◌∙◌, ℕ, ◌+◌, List, [], ◌∷◌, ◌++◌, refl, ap, ap₂, add-one}
use Rattle.task_sheet.specs.Sheet.{Task, task_at}
use Rattle.task_sheet.proofs.TaskLaws.{task_read}
use Rattle.release_list.specs.Densest.{first_streams, instant_of, own_stream, stream_from}
use Rattle.release_list.specs.Steady.{offset_in}
use Rattle.release_list.specs.declared.steady.SteadyTask.{SteadyTask}
use Rattle.release_list.specs.declared.stream.Stream.{Stream}
use Rattle.release_list.proofs.dense.streams_of.Goals as goal

-- one more
next_is : (U : List Task) (steady : List SteadyTask) (n : ℕ) (items then : List Stream) (s : Stream)
    → items ≡ first_streams U steady n → then ≡ items ++ s ∷ [] → s ≡ own_stream U steady n
    → then ≡ first_streams U steady (n + 1)
unfolding first_streams
next_is U steady n items then s are pushed is =
    rw add-one (pushed ∙ ap₂ (λ xs x. xs ++ x ∷ []) are is)

pub loop-rank-init : goal.loop-rank-init
unfolding first_streams
loop-rank-init c = c.new-streams.ensures.items

pub loop-rank-preserved : goal.loop-rank-preserved
loop-rank-preserved c =
    let U : List Task = c.args.sheets.now in
    let rank : ℕ = c.loop-rank.rank in
    let t : Task = c.index-sheets-rank.result in
    let own : t ≡ task_at U rank = task_read U U rank t refl c.loop-rank-test.true c.index-sheets-rank.is in
    next_is U c.args.steady.now rank c.loop-rank.streams.items c.push.new.self.items
    c.stream_from.result c.loop-rank.invariant c.in_ok-push.ensures.items
    (c.stream_from.ensures
    ∙ ap₂ (λ o k. stream_from o k t) c.offset_in-offset.ensures c.instant_of-instant.ensures
    ∙ ap (stream_from (offset_in c.args.steady.now rank) (instant_of U)) own)
