-- Stripes of locks over bars, and the legend of the locks.
use Rattle.std.specs.Prelude.{ℕ, ◌+◌, ◌-◌, ◌*◌, ◌/◌, ◌%◌, min, max, ◌==◌, if◌then◌else◌, List, [], ◌∷◌, ◌++◌, length, codes}
use Rattle.std.specs.Fmt.{decimal}
use Rattle.std.specs.List.{concat}
use Rattle.frames.specs.Frame.{Frame, frame_end, top_of}
use Rattle.frames.specs.Boxes.{box_path}
use Rattle.frames.specs.Tones.{tone_named}
use Rattle.frames.specs.declared.tones.Toned.{Toned}

-- where stripe i of n begins, in a bar
abbrev pub stripe_top : (n i : ℕ) → ℕ
stripe_top n i = 180 * min i 180 / max n 1

-- the box of stripe i of n
abbrev pub stripe_path : (x right k n i : ℕ) → List ℕ
stripe_path x right k n i =
    box_path x right (top_of k + 165 + stripe_top n i) (stripe_top n (i + 1) - stripe_top n i)

-- the stripe of a lock, number i of n, over a part of a bar
abbrev pub stripe_text : List Toned → (x right k n i : ℕ) → List ℕ → List ℕ
stripe_text locks x right k n i name =
    concat (codes "<path class=\"k" ∷ decimal (tone_named locks name) ∷ codes "\" d=\""
    ∷ stripe_path x right k n i
    ∷ codes "\"/>\n" ∷ [])

-- the stripes of the last of n locks, from number i on
abbrev pub stripes_from : List Toned → (x right k n i : ℕ) → List (List ℕ) → List ℕ
stripes_from locks x right k n i [] = []
stripes_from locks x right k n i (name ∷ names) =
    stripe_text locks x right k n i name ++ stripes_from locks x right k n (i + 1) names

-- the stripes of some locks
abbrev pub stripes_text : List Toned → (x right k : ℕ) → List (List ℕ) → List ℕ
stripes_text locks x right k names = stripes_from locks x right k (length names) 0 names

-- how many locks it has in a line
abbrev pub per_line : Frame → ℕ
per_line f = max ((frame_end f - 900) / 2000) 1

-- how high it is, of so many locks
abbrev pub locks_high : Frame → ℕ → ℕ
locks_high f n = if n == 0 then 0 else 100 + 250 * ((n - 1) / per_line f + 1)

-- where lock i begins in it
abbrev pub lock_left : Frame → ℕ → ℕ
lock_left f i = 900 + 2000 * (i % per_line f)

-- and where its upper edge lies
abbrev pub lock_upper : Frame → (bottom i : ℕ) → ℕ
lock_upper f bottom i = bottom + 250 * (i / per_line f)

-- lock i in it
abbrev pub lock_text : Frame → (bottom i : ℕ) → Toned → List ℕ
lock_text f bottom i lock =
    concat (codes "<path class=\"k" ∷ decimal lock.tone ∷ codes "\" d=\""
    ∷ box_path (lock_left f i) (lock_left f i + 200) (lock_upper f bottom i) 180
    ∷ codes "\"/><text class=\"c\" x=\"" ∷ decimal (lock_left f i + 250) ∷ codes "\" y=\""
    ∷ decimal (lock_upper f bottom i + 128)
    ∷ codes "\">" ∷ lock.name ∷ codes "</text>\n" ∷ [])

-- some locks, from number i on
abbrev pub lock_texts : Frame → (bottom i : ℕ) → List Toned → List ℕ
lock_texts f bottom i [] = []
lock_texts f bottom i (lock ∷ locks) = lock_text f bottom i lock ++ lock_texts f bottom (i + 1) locks

-- what stands before them, where there are some
abbrev pub locks_head : (bottom n : ℕ) → List ℕ
locks_head bottom n =
    if n == 0 then []
    else concat (codes "<text x=\"100\" y=\"" ∷ decimal (bottom + 128) ∷ codes "\">holds a lock:</text>\n" ∷ [])

-- the legend of some locks below so many rows, as a group
abbrev pub locks_group : Frame → (rows : ℕ) → List Toned → List ℕ
locks_group f rows locks =
    codes "<g id=\"k\">\n" ++ locks_head (top_of rows + 120) (length locks)
    ++ lock_texts f (top_of rows + 120) 0 locks ++ codes "</g>\n"
