use Rattle.std.proofs.Common.{◌≡◌, ℕ, ◌<◌, ◌≤◌, false}
use Rattle.release_list.specs.Streams.{arrives, stream_at}
use Rattle.release_list.proofs.list.next_time.Given as goal

abbrev pub invariant-loop-stream : goal.invariant-loop-stream
invariant-loop-stream l =
    (l.time < l.next) × (l.next ≤ l.until)
    × ((i t : ℕ) → i < l.stream-index → l.time < t → t < l.next
    → arrives t (stream_at l.streams i) ≡ false)
