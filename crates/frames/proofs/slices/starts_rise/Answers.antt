use Rattle.std.proofs.Common.{◌≡◌, ◌∙◌, ℕ, ◌+◌, ◌<◌, List, Bool, true, false, ap, drop, length, sym}
use Rattle.std.specs.Prelude.{◌&&◌, nat_le}
use Rattle.std.proofs.lemmas.Bool.{le-leb, lt-leb}
use Rattle.std.proofs.lemmas.List.{at_drop_all, at_drop_more}
use Rattle.ceiling_kernel.specs.declared.trace.Slice.{Slice}
use Rattle.frames.specs.Slices.{no_slice, rises, slice_at}
use Rattle.frames.proofs.slices.starts_rise.Goals as goal

at : (before : ℕ) (slices : List Slice) (i : ℕ) (rise : Bool) → i < length slices
    → nat_le before (slice_at slices i).start ≡ rise
    → rises before (drop i slices) ≡ (rise && rises (slice_at slices i).start (drop (i + 1) slices))
at before slices i rise lt tested = at_drop_more (rises before) slices i no_slice lt
    ∙ ap (λ (b : Bool). b && rises (slice_at slices i).start (drop (i + 1) slices)) tested

pub loop-slice-preserved : goal.loop-slice-preserved
loop-slice-preserved c = sym (at c.loop-slice.before c.args.slices.now c.loop-slice.slice-index true
    c.loop-slice-test.true (le-leb _ _ c.if-slice-before.false)) ∙ c.loop-slice.invariant

pub returns-then-slice-before : goal.returns-then-slice-before
returns-then-slice-before c = sym (at c.loop-slice.before c.args.slices.now
    c.loop-slice.slice-index false c.loop-slice-test.true (lt-leb _ _ c.if-slice-before.true))
    ∙ c.loop-slice.invariant

pub returns : goal.returns
returns c = sym (at_drop_all (rises c.loop-slice.before) c.args.slices.now c.loop-slice.slice-index
    c.loop-slice-test.false) ∙ c.loop-slice.invariant
