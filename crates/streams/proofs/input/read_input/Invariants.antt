use Rattle.std.proofs.Common.{◌≡◌, ◌+◌, ◌^◌, ◌<◌, ◌≤◌, false, vec_len}
use Rattle.std.specs.Io.KnownBytes.{Consumes}
use Rattle.streams.proofs.input.read_input.Given as goal

abbrev pub invariant-loop : goal.invariant-loop
invariant-loop g l = record {
  limit : vec_len l.bytes ≤ l.most;
  read : Consumes (g.R.Read.remaining l.initial.reader.inner) (g.R.Read.remaining l.reader.inner)
      l.bytes.items;
  turns : l.reader.was_interrupted ≡ false → l.counter ≤ vec_len l.bytes;
  within : l.reader.reads ≤ l.initial.reader.reads + l.counter;
  counted : l.initial.reader.reads + l.counter < 2 ^ 64
      → l.reader.reads ≡ l.initial.reader.reads + l.counter;
  sound : l.reader.has_failed ≡ l.initial.reader.has_failed;
}
