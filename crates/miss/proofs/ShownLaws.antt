-- What is shown of a task that must miss its deadline, and of one that doesn't pass and need not.
use Rattle.std.proofs.Common.{◌≡◌, ℕ, ◌-◌, ◌⊎◌, inl, inr, refl, arith}
use Rattle.std.proofs.lemmas.Bool.{cases_lt}
use Rattle.task_sheet.proofs.Common.{task_at, blocking_of, limit_of}
use Rattle.task_sheet.proofs.ResponseLaws.{decide_covers}
use Rattle.ceiling_kernel.proofs.Common.{Node, above_of, PassesBy, work_of, CoversBy}
use Rattle.ceiling_kernel.proofs.BoundLaws.{covers_from}
use Rattle.miss.specs.declared.shown.Miss.{Miss}
use Rattle.miss.specs.declared.shown.Shown.{Shown}
use Rattle.miss.specs.declared.shown.Shown.TheVariants as shown
use Rattle.miss.specs.declared.shown.NoRun.TheVariants as why
use Rattle.miss.specs.Exact.{EndsLow}
use Rattle.miss.specs.Misses.{MustMiss}
use Rattle.miss.specs.Shown.{PassesThere, PassesUninterrupted}
use Rattle.miss.specs.Shown.{AboveAllPass, IsShown}

module _ (node : Node) (i : ℕ) where
  covered_not : (t : ℕ) → CoversBy node i t → MustMiss node i → ⊥
  covered_not t covers must =
      (let more = must.none_covers t covers.from_one covers.in_time in
      omega (arith, covers.enough, more))

  passes_not : PassesThere node i → MustMiss node i → ⊥
  passes_not passes must =
      let by : PassesBy node i passes.0 =
      record { from_one = omega (arith, passes.1); in_time = passes.2; enough = passes.3 } in
      covered_not passes.0 (covers_from node i passes.0 by) must

  -- nor one that would pass without timers and interrupts
  whole_not : PassesUninterrupted node i → MustMiss node i → ⊥
  whole_not passes must = covered_not passes.0 (record {
    from_one = omega (arith, passes.1);
    in_time = passes.2;
    enough = omega (arith, passes.3);
  }) must

  pub shown_law : (s : Shown) → IsShown node i s → MustMiss node i
      → ((m : Miss) × (s ≡ shown.Misses m)) ⊎ (s ≡ shown.NoRun why.TooMany)
  shown_law shown.Stands is must = absurd (passes_not is.0 must)
  shown_law (shown.Misses m) is must = inl (m, refl)
  shown_law (shown.NoRun (why.MustOutrank other)) is must = absurd (passes_not is.0 must)
  shown_law (shown.NoRun why.TooMany) is must = inr refl
  shown_law (shown.NoRun (why.Below above)) is must =
      (let f = is.2 in
      absurd (f.fails (must.above_pass above f.in_set f.above)))
  shown_law (shown.NoRun why.EndsInside) is must = absurd (is.3 must.ends_low)
  shown_law (shown.NoRun why.WithinTick) is must = absurd (covered_not is.5.0 is.5.1 must)
  shown_law (shown.NoRun why.WithinInterrupts) is must = absurd (whole_not is.4 must)

  -- a time covers the work of a task that need not miss, though it ends low and those above pass
  pub within_tick : EndsLow node i → AboveAllPass node i → (MustMiss node i → ⊥) → (t : ℕ)
      × CoversBy node i t
  within_tick low above need_not =
      elim (decide_covers (work_of node i (blocking_of node.tasks i (above_of node i) - 1))
      (limit_of (task_at node.tasks i))) [
        | inl covers ↦ (
          covers.0,
          record { from_one = omega (arith, covers.1); in_time = covers.2; enough = covers.3 },
        )
        | inr not ↦ absurd (need_not (record {
          none_covers = λ u some le. elim (cases_lt u
              (work_of node i (blocking_of node.tasks i (above_of node i) - 1) u)) [
                | inl more ↦ more
                | inr covered ↦ absurd (not (u, omega (arith, some), le, covered))
              ];
          ends_low = low;
          above_pass = above;
        }))
      ]
