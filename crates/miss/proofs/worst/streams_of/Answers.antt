use Rattle.std.proofs.Common.{◌≡◌, ◌∙◌, ◌+◌, ◌∷◌, ◌++◌, [], ℕ, List, get_or, map, take, sym, ap}
use Rattle.std.proofs.lemmas.List.{take_more, map-append}
use Rattle.task_sheet.proofs.TaskLaws.{task_read}
use Rattle.release_list.specs.Densest.{stream_of}
use Rattle.release_list.specs.declared.stream.Stream.{Stream}
use Rattle.miss.specs.Misses.{member_stream}
use Rattle.miss.proofs.worst.streams_of.Goals as goal

-- one member more
pub loop-member-preserved : goal.loop-member-preserved
loop-member-preserved c =
    let U = c.args.set.now in
    let xs = c.args.above.now in
    let k = c.loop-member.member-index in
    let stream : ℕ → Stream = member_stream U c.args.instant in
    let next : c.stream_of-in-loop-member.result ≡ stream (get_or xs k 0) =
    c.stream_of-in-loop-member.ensures ∙ ap (stream_of c.args.instant) (task_read U
    c.sheets-sheets.result.now (get_or xs k 0) c.index-sheets-member.result
    c.sheets-sheets.ensures.same (c.requires.above k 0 c.loop-member-test.true)
    c.index-sheets-member.is) in
    let apart : map stream (c.args.task ∷ take (k + 1) xs)
    ≡ map stream (c.args.task ∷ take k xs) ++ stream (get_or xs k 0) ∷ [] =
    ap (λ ks. map stream (c.args.task ∷ ks)) (take_more xs k 0 c.loop-member-test.true)
    ∙ map-append stream (c.args.task ∷ take k xs) (get_or xs k 0 ∷ []) in
    c.in_ok-push-2.ensures.items
    ∙ ap (λ (s : List Stream). s ++ c.stream_of-in-loop-member.result ∷ []) c.loop-member.invariant
    ∙ ap (λ s. map stream (c.args.task ∷ take k xs) ++ s ∷ []) next ∙ sym apart
