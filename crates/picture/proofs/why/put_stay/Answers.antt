use Rattle.std.proofs.Common.{◌∙◌, ◌++◌, ℕ, List, ap, inl, inr, arith, length, string_bytes}
use Rattle.picture.specs.Waits.{scene_of}
use Rattle.picture.specs.WaitTexts.{nth_wait_text}
use Rattle.frames.proofs.Eachs.{each_init, each_next}
use Rattle.picture.proofs.Quiet.{quiet, each_rest, rises_between}
use Rattle.picture.proofs.why.put_stay.Goals as goal

pub loop-n-init : goal.loop-n-init
loop-n-init c =
    let chart = scene_of c.args.chart.now in
    let text = nth_wait_text chart c.args.stay c.args.spot in
    let start = string_bytes c.args.text.now in
    each_init start text
    ∙ ap (λ (l : List ℕ). start ++ l) (each_rest text 0 c.args.past.count (omega arith)
    (λ m lo lt. quiet chart c.args.stay c.args.spot m (omega (arith, lt, c.requires.within))
    (inl (omega (arith, c.requires.ended m lt, c.requires.before)))))

pub loop-n-preserved : goal.loop-n-preserved
loop-n-preserved c =
    each_next _ _ _ (nth_wait_text (scene_of c.args.chart.now) c.args.stay c.args.spot)
    c.loop-n.n c.loop-n.invariant c.in_ok-put_nth_wait.ensures

pub returns-then-is_behind : goal.returns-then-is_behind
returns-then-is_behind c =
    let chart = scene_of c.args.chart.now in
    let n = c.loop-n.n in
    let rise = c.is_behind.ensures.rises c.if-is_behind.true in
    let done = c.is_behind.ensures.done c.if-is_behind.true in
    c.loop-n.invariant ∙ ap (λ (l : List ℕ). string_bytes c.args.text.now ++ l)
    (each_rest (nth_wait_text chart c.args.stay c.args.spot) n (length chart.slices)
    (omega (arith, c.loop-n-test.true)) (λ m lo hi. quiet chart c.args.stay c.args.spot m hi
    (inr (omega (arith, done, rises_between chart.slices 0 n m rise lo hi)))))
