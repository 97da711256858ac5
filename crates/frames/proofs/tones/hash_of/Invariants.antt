use Rattle.std.proofs.Common.{◌≡◌, ◌<◌, drop}
use Rattle.frames.specs.Tones.{hash_from}
use Rattle.frames.specs.declared.tones.TheConstants.{HASH_LIMIT}
use Rattle.frames.proofs.tones.hash_of.Given as goal

abbrev pub invariant-loop-byte : goal.invariant-loop-byte
invariant-loop-byte l = record {
  value : hash_from l.hash (drop l.byte-index l.byte-items) ≡ hash_from 0 l.byte-items;
  within : l.hash < HASH_LIMIT;
}
