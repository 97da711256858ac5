use Rattle.std.proofs.Common.{◌≡◌, ◌∙◌, ℕ, ◌+◌, ◌<◌, ◌∷◌, List, Bool, true, false, ap, arith, drop}
use Rattle.std.proofs.Common.{get_or, length, refl, sym}
use Rattle.std.specs.Prelude.{if◌then◌else◌}
use Rattle.std.specs.List.{find}
use Rattle.std.proofs.lemmas.Bool.{lt-ltb, le-ltb}
use Rattle.std.proofs.lemmas.List.{at_drop_all, at_drop_more}
use Rattle.task_sheet.specs.Sheet.{CriticalSection}
use Rattle.ceiling_kernel.specs.Tick.{is_inside}
use Rattle.frames.specs.declared.rows.TaskRow.{TaskRow}
use Rattle.picture.specs.Blocking.{is_raised, lock_inside}
use Rattle.picture.proofs.blocker.lock_inside.Goals as goal
use Rattle.picture.proofs.blocker.lock_inside.Goals.{else-executed-section-via-then-executed-section+else-executed-section-2}
use Rattle.picture.proofs.blocker.lock_inside.Goals.{else-executed-section-via-else-executed-section}

at : (rows : List TaskRow) (k e : ℕ) (xs : List CriticalSection) (i : ℕ) (x : CriticalSection)
    (met : Bool) → i < length xs → x ≡ get_or xs i x → is_inside x e ≡ met
    → lock_inside rows k e (drop i xs)
    ≡ (if met then find (is_raised rows k) x.locks else lock_inside rows k e (drop (i + 1) xs))
at rows k e xs i x met lt is tested = at_drop_more (lock_inside rows k e) xs i x lt
    ∙ ap (λ (y : CriticalSection). lock_inside rows k e (y ∷ drop (i + 1) xs)) (sym is)
    ∙ ap (λ (b : Bool). if b then find (is_raised rows k) x.locks
    else lock_inside rows k e (drop (i + 1) xs)) tested

pub loop-section-preserved : goal.loop-section-preserved
loop-section-preserved c =
    let from = c.section.inside.at in
    let len = c.section.inside.len in
    let e = c.args.executed in
    let outside : is_inside c.section-item.result e ≡ false = elim c.else-executed-section.branch [
      | else-executed-section-via-then-executed-section+else-executed-section-2 w ↦ rw (
        ← c.section.view_is,
        lt-ltb from e w.if-executed-section.true,
        le-ltb e (from + len)
            (omega (arith, w.if-executed-section.true, w.if-executed-section-2.false)),
      ) refl
      | else-executed-section-via-else-executed-section w ↦
          rw (← c.section.view_is, le-ltb from e w.if-executed-section.false) refl
    ] in
    sym (at c.args.rows.now c.args.k e c.args.sections.now c.loop-section.section-index
    c.section-item.result false c.loop-section-test.true c.section-item.is outside)
    ∙ c.loop-section.invariant

pub returns-then-executed-section-2 : goal.returns-then-executed-section-2
returns-then-executed-section-2 c =
    let from = c.section.inside.at in
    let len = c.section.inside.len in
    let e = c.args.executed in
    let inside : is_inside c.section-item.result e ≡ true = rw (
      ← c.section.view_is,
      lt-ltb from e c.if-executed-section.true,
      lt-ltb e (from + len)
          (omega (arith, c.if-executed-section.true, c.if-executed-section-2.true)),
    ) refl in
    let locks : c.section.inside.locks.items ≡ c.section-item.result.locks =
    rw (← c.section.view_is) refl in
    c.first_raised.ensures
    ∙ ap (λ (names : List (List ℕ)). find (is_raised c.args.rows.now c.args.k) names)
    (c.deref.ensures.value ∙ locks)
    ∙ sym (at c.args.rows.now c.args.k e c.args.sections.now c.loop-section.section-index
    c.section-item.result true c.loop-section-test.true c.section-item.is inside)
    ∙ c.loop-section.invariant

pub returns : goal.returns
returns c = sym (at_drop_all (lock_inside c.args.rows.now c.args.k c.args.executed)
    c.args.sections.now c.loop-section.section-index c.loop-section-test.false)
    ∙ c.loop-section.invariant
