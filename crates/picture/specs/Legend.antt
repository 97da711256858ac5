-- What the signs mean: each stands where the picture has it.
use Rattle.std.specs.Prelude.{ℕ, List, ◌++◌, codes}
use Rattle.frames.specs.Signs.{sign_of, sign_text}
use Rattle.picture.specs.declared.legend.TheConstants.{ARRIVAL, BLOCKED, BOUND, CHANGED, DEADLINE, EXECUTES, GOES_ON, MISSED, NOT_READY, SEVERAL, UNRUN, WAITS}

-- what executes, waits, and goes on
abbrev pub first_line : (text : List ℕ) → List ℕ
first_line text =
    sign_text text (codes "<path class=\"f") EXECUTES.now
    ++ sign_text text (codes "<path class=\"wa i") WAITS.now
    ++ sign_text text (codes "<path class=\"wb") BLOCKED.now
    ++ sign_text text (codes "<path class=\"wa ns") SEVERAL.now
    ++ sign_text text (codes "<path class=\"a\" d=\"M") GOES_ON.now

-- jobs and their marks, what is missed, what timers and interrupts take, and responses that changed
abbrev pub second_line : (text : List ℕ) → List ℕ
second_line text =
    sign_of text (codes "<path class=\"w\"") (codes "<path class=\"l w\"") BOUND.now
    ++ sign_text text (codes "<path class=\"a\" d=\"\nM") ARRIVAL.now
    ++ sign_text text (codes "<path class=\"r\" d=\"\nM") NOT_READY.now
    ++ sign_text text (codes "<path class=\"d\" d=\"\nM") DEADLINE.now
    ++ sign_of text (codes "<path class=\"x\"") (codes "<path class=\"z\"") MISSED.now
    ++ sign_text text (codes "<path class=\"wt\"") UNRUN.now
    ++ sign_text text (codes "<path class=\"ch\"") CHANGED.now

-- the signs that a picture has
abbrev pub legend_text : (text : List ℕ) → List ℕ
legend_text text = first_line text ++ second_line text
