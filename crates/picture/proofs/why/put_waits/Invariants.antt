use Rattle.std.proofs.Common.{◌≡◌, ◌≤◌, ◌++◌, length, string_bytes}
use Rattle.frames.specs.PictureRows.{each}
use Rattle.picture.specs.Waits.{EndBy, scene_of}
use Rattle.picture.specs.WaitTexts.{job_waits}
use Rattle.picture.proofs.why.put_waits.Given as goal

abbrev pub invariant-loop-j : goal.invariant-loop-j
invariant-loop-j l = record {
  put : string_bytes l.text ≡ string_bytes l.fn.text ++ each l.j (job_waits (scene_of l.fn.chart));
  within : l.past.count ≤ length l.fn.chart.slices.now;
  ended : EndBy l.fn.chart.slices.now l.past.count l.past.time;
}
