use Rattle.std.proofs.Common.{Vec, Global, sym, ap, ◌∙◌, arith}
use Rattle.ceiling_kernel.specs.declared.trace.Release.{Release}
use Rattle.release_list.proofs.TimeLaws.{push_next, pass_next, too_many}
use Rattle.release_list.proofs.list.push_releases.Goals as goal
use Rattle.release_list.proofs.list.push_releases.Goals.{then-is_listed+else-len-eq-RELEASE_LIMIT+in-Ok}
use Rattle.release_list.proofs.list.push_releases.Goals.{else-is_listed}

pub returns-then-len-eq-RELEASE_LIMIT : goal.returns-then-len-eq-RELEASE_LIMIT
returns-then-len-eq-RELEASE_LIMIT c =
    too_many c.loop-stream.invariant c.loop-stream-test.true c.stream-item.is
    (sym c.is_listed.ensures ∙ c.if-is_listed.true)
    (sym c.loop-stream.releases.ok.0 ∙ (sym c.len.ensures ∙ c.if-len-eq-RELEASE_LIMIT.true))

pub loop-stream-preserved : goal.loop-stream-preserved
loop-stream-preserved c =
    elim c.if-is_listed.branch [
      | then-is_listed+else-len-eq-RELEASE_LIMIT+in-Ok w ↦
          push_next c.loop-stream.invariant c.loop-stream-test.true c.stream-item.is
          (sym c.is_listed.ensures ∙ w.if-is_listed.true)
          (omega (arith, c.loop-stream.releases.ok.0, c.loop-stream.invariant.few))
          (ap (λ (v : Vec Release Global). v.items) w.releases-is ∙ w.in-Ok.ensures.items)
          w.release_of.ensures
      | else-is_listed w ↦
          rw w.releases-is (pass_next c.loop-stream.invariant c.loop-stream-test.true
          c.stream-item.is (sym c.is_listed.ensures ∙ w.if-is_listed.false))
    ]
