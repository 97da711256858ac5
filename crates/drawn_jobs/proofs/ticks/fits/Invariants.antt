use Rattle.std.proofs.Common.{◌≡◌, drop}
use Rattle.drawn_jobs.specs.Sections.{fits}
use Rattle.drawn_jobs.proofs.ticks.fits.Given as goal

abbrev pub invariant-loop-name : goal.invariant-loop-name
invariant-loop-name l = fits l.left (drop l.name-index l.names) ≡ fits l.fn.room l.fn.names
