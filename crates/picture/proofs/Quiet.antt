-- Slices in which a job doesn't wait.
use Rattle.std.proofs.Common.{◌≡◌, ◌∙◌, ◌⊎◌, inl, inr, ℕ, ◌<◌, ◌≤◌, List, [], ◌∷◌, length, None}
use Rattle.std.proofs.Common.{true}
use Rattle.std.proofs.Common.{refl, sym, arith, append-nil}
use Rattle.std.specs.Prelude.{zero, suc, nat_le}
use Rattle.std.proofs.lemmas.Bool.{and_parts, cases_lt, leb-true}
use Rattle.std.proofs.lemmas.Option.{slice_get-get_or}
use Rattle.ceiling_kernel.specs.declared.trace.Slice.{Slice}
use Rattle.pieces.specs.Pieces.{wait_in}
use Rattle.frames.specs.declared.rows.Spot.{Spot}
use Rattle.picture.specs.declared.waits.Stay.{Stay}
use Rattle.frames.specs.PictureRows.{each}
use Rattle.frames.specs.Slices.{no_slice, slice_at, rises}
use Rattle.picture.specs.Waits.{Scene}
use Rattle.picture.specs.WaitTexts.{nth_wait_text}

-- ---- slices that begin one after the other
rises_from : (slices : List Slice) (before m : ℕ) → rises before slices ≡ true → m < length slices
    → before ≤ (slice_at slices m).start
rises_from [] before m h lt = absurd (omega (arith, lt))
rises_from (s ∷ slices) before zero h lt =
    leb-true before s.start (and_parts (nat_le before s.start) (rises s.start slices) h).0
rises_from (s ∷ slices) before (suc m) h lt =
    let both = and_parts (nat_le before s.start) (rises s.start slices) h in
    omega (
      arith,
      leb-true before s.start both.0,
      rises_from slices s.start m both.1
          (omega (arith, lt)),
    )

-- one behind another begins no earlier
pub rises_between : (slices : List Slice) (before n m : ℕ) → rises before slices ≡ true → n ≤ m
    → m < length slices → (slice_at slices n).start ≤ (slice_at slices m).start
rises_between [] before n m h le lt = absurd (omega (arith, lt))
rises_between (s ∷ slices) before zero zero h le lt = omega arith
rises_between (s ∷ slices) before zero (suc m) h le lt =
    rises_from slices s.start m (and_parts (nat_le before s.start) (rises s.start slices) h).1
    (omega (arith, lt))
rises_between (s ∷ slices) before (suc n) zero h le lt = absurd (omega (arith, le))
rises_between (s ∷ slices) before (suc n) (suc m) h le lt =
    rises_between slices s.start n m (and_parts (nat_le before s.start) (rises s.start slices) h).1
    (omega (arith, le)) (omega (arith, lt))

-- ---- no wait
wait_none : (job from to : ℕ) (s : Slice) → (s.stop ≤ from) ⊎ (to ≤ s.start)
    → wait_in job from to s ≡ None
wait_none job from to s (inl le) = grind (arith, le)
wait_none job from to s (inr le) = grind (arith, le)

-- a job doesn't wait in a slice that ends before it is ready, or begins when it is done
pub quiet : (c : Scene) (stay : Stay) (spot : Spot) (n : ℕ) → n < length c.slices
    → ((slice_at c.slices n).stop ≤ stay.from) ⊎ (stay.to ≤ (slice_at c.slices n).start)
    → nth_wait_text c stay spot n ≡ []
quiet c stay spot n lt out =
    rw (slice_get-get_or c.slices n no_slice lt)
    (rw (wait_none stay.job stay.from stay.to (slice_at c.slices n) out) refl)

-- ---- texts of nothing
rest_more : (text : ℕ → List ℕ) (n k : ℕ) → n ≤ suc k → ((m : ℕ) → n ≤ m → m < suc k → text m ≡ [])
    → (n < suc k) ⊎ (suc k ≤ n)
    → (n < suc k → each n text ≡ each k text) → each n text ≡ each (suc k) text
unfolding each
rest_more text n k le none (inl lt) before = before lt
    ∙ sym (rw (none k (omega (arith, lt)) (omega arith)) (append-nil (each k text)))
rest_more text n k le none (inr ge) before = let same : n ≡ suc k = omega (arith, le, ge) in
    rw same refl

-- behind some
pub each_rest : (text : ℕ → List ℕ) (n k : ℕ) → n ≤ k → ((m : ℕ) → n ≤ m → m < k → text m ≡ [])
    → each n text ≡ each k text
each_rest text n zero le none = let same : n ≡ 0 = omega (arith, le) in rw same refl
each_rest text n (suc k) le none =
    rest_more text n k le none (cases_lt n (suc k))
    (λ lt. each_rest text n k (omega (arith, lt)) (λ m lo hi. none m lo (omega (arith, hi))))
