use Rattle.std.proofs.Common.{ℕ, List, ◌++◌, ◌∷◌, [], ap, sym, ◌∙◌, subst, take}
use Rattle.std.proofs.lemmas.List.{take_all}
use Rattle.std.specs.List.Sorted.{IsPermutation}
use Rattle.ceiling_kernel.proofs.Common.{ready_of}
use Rattle.ceiling_kernel.proofs.SortLaws.{listed_turns, listed-next, are_turns}
use Rattle.ceiling_kernel.proofs.turns.turns_of.Goals as goal

pub loop-k-preserved : goal.loop-k-preserved
loop-k-preserved c =
    let rs = c.args.releases.now in
    let next = listed-next rs c.loop-k.k c.index-releases-k.result c.loop-k-test.true in
    let with_one : List (ℕ × ℕ) → ℕ → List (ℕ × ℕ) =
    λ turns ready. turns ++ (ready, c.loop-k.k) ∷ [] in
    c.in_ok-push.ensures.items
    ∙ (ap (λ x. with_one x (ready_of c.index-releases-k.result)) c.loop-k.invariant
    ∙ (ap (λ r. with_one (listed_turns 0 (take c.loop-k.k c.args.releases.now)) (ready_of r))
    c.index-releases-k.is ∙ sym next))

pub returns : goal.returns
returns c = λ U.
    let rs = c.args.releases.now in
    let all = c.loop-k.invariant
    ∙ ap (listed_turns 0) (take_all c.loop-k.k rs c.loop-k-test.false) in
    are_turns U rs c.sort_unstable.new.self.items
    (subst (λ x. IsPermutation x c.sort_unstable.new.self.items) all
    c.sort_unstable.ensures.permutation) c.sort_unstable.ensures.sorted
