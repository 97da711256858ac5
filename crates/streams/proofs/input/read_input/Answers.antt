use Rattle.std.proofs.Common.{rules, arith, ◌≡◌, ◌<◌, ◌++◌, length, take}
use Rattle.std.proofs.lemmas.Grind.{common_steps}
use Rattle.std.proofs.KnownBytes.{Consumes-trans, Consumes-kept}
use Rattle.streams.proofs.Inputs.{whole, longer}
use Rattle.streams.proofs.input.read_input.Goals as goal
use Rattle.streams.proofs.input.read_input.Goals.{in-Ok+else-count-most+else-is_err}
use Rattle.streams.proofs.input.read_input.Goals.{in-Err-Interrupted}

pub returns-in-Ok-eq0-clause-whole : goal.returns-in-Ok-eq0-clause-whole
returns-in-Ok-eq0-clause-whole g c =
    let told = rw c.in-Ok-eq0.is at c.read.ensures.bytes in
    let room : 0 < length c.read.new.buffer = search rules in
    record {
      whole = whole (g.R.Read.remaining c.args.reader.now.inner)
          (g.R.Read.remaining c.loop.reader.inner) (g.R.Read.remaining c.read.new.self.inner)
          c.loop.bytes.items c.read.new.buffer c.in-Ok-eq0.field-0 c.loop.invariant.read told.0
          c.in-Ok-eq0.field-0-test (told.1 c.in-Ok-eq0.field-0-test room);
      within = search rules;
    }

pub returns-then-count-most-clause-too_long : goal.returns-then-count-most-clause-too_long
returns-then-count-most-clause-too_long g c = λ _.
    let told = c.in-Ok.ensures.bytes in
    longer (g.R.Read.remaining c.args.reader.now.inner) (g.R.Read.remaining c.loop.reader.inner)
    (g.R.Read.remaining c.read.new.self.inner)
    c.loop.bytes.items c.read.new.buffer c.in-Ok.count c.args.most c.loop.invariant.read told.0
    c.in-Ok.ensures.bound.0 (omega arith)

pub loop-preserved : goal.loop-preserved
loop-preserved g c =
    elim c.match-read.branch [
      | in-Ok+else-count-most+else-is_err w ↦
          let grown : c.match-read.bytes.items ≡ c.loop.bytes.items
          ++ take w.in-Ok.count c.read.new.buffer = grind (arith, common_steps) in
          record {
            limit = search rules;
            read = rw grown (Consumes-trans (g.R.Read.remaining c.args.reader.now.inner)
                (g.R.Read.remaining c.loop.reader.inner) (g.R.Read.remaining c.read.new.self.inner)
                _ _ c.loop.invariant.read w.in-Ok.ensures.bytes.0);
            turns = search rules;
            within = search rules;
            counted = search rules;
            sound = search rules;
          }
      | in-Err-Interrupted w ↦ record {
        limit = search rules;
        read = search (rules, Consumes-kept);
        turns = search rules;
        within = search rules;
        counted = search rules;
        sound = search rules;
      }
    ]
