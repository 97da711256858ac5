use Rattle.std.proofs.Common.{◌≡◌, ◌∙◌, ℕ, ◌+◌, max, min, arith, refl}
use Rattle.std.specs.Prelude.{◌-◌}
use Rattle.frames.specs.Frame.{Frame, x_of}
use Rattle.frames.proofs.frame.x_after.Goals as goal

-- a time behind the end lies at the end
at_most_the_end : (f : Frame) (to time len : ℕ) → to ≡ f.to
    → x_of f (min time to + min len (to - min time to)) ≡ x_of f (time + len)
at_most_the_end f to time len is =
    let same : min (max (min time to + min len (to - min time to)) f.from) f.to
    ≡ min (max (time + len) f.from) f.to = omega (arith, is) in
    rw same refl

pub returns-clause-value : goal.returns-clause-value
returns-clause-value c =
    c.x_of.ensures.value ∙ rw (c.min.ensures, c.min-time.ensures)
    (at_most_the_end c.args.frame c.frame.inside.to c.args.time c.args.len
    (rw (← c.frame.view_is) refl))
