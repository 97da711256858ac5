use Rattle.std.proofs.Common.{◌≡◌, ◌∙◌, ◌++◌, ◌∷◌, [], List, ap, sym, rules, nat_le}
use Rattle.std.proofs.lemmas.Bool.{and_parts}
use Rattle.std.specs.List.{find}
use Rattle.observed_lines.specs.Causes.{delays}
use Rattle.observed_lines.specs.Sweeps.{come_from}
use Rattle.observed_lines.specs.declared.causes.Source.{Source}
use Rattle.observed_lines.proofs.SweepLaws.{lower, push_agree, skip_agree}
use Rattle.observed_lines.proofs.sweep.take_in.Goals as goal

pub loop-source-preserved-in_ok-push : goal.loop-source-preserved-in_ok-push
loop-source-preserved-in_ok-push c =
    let live : List Source = c.loop-source.live.items in
    let source : Source = c.in-Some.source.now in
    let more : List Source = c.in-Some.more.now in
    let here : c.loop-source.left.now ≡ source ∷ more = search rules in
    let grown : c.push.new.self.items ≡ live ++ source ∷ [] = c.in_ok-push.ensures.items in
    record {
      same = λ b l s le. ap (λ (xs : List Source). find (λ d. delays b l d s) (xs ++ more)) grown
          ∙ (push_agree c.args.time live source more b l s le
          ∙ (ap (λ (xs : List Source). find (λ d. delays b l d s) (live ++ xs)) (sym here)
          ∙ c.loop-source.invariant.same b l s le));
      order = λ is. lower source.cause.arrival more
          (and_parts (nat_le 0 source.cause.arrival) (come_from source.cause.arrival more)
          (ap (come_from 0) (sym here) ∙ c.loop-source.invariant.order is)).1;
    }

pub loop-source-preserved : goal.loop-source-preserved
loop-source-preserved c =
    let live : List Source = c.loop-source.live.items in
    let source : Source = c.in-Some.source.now in
    let more : List Source = c.in-Some.more.now in
    let here : c.loop-source.left.now ≡ source ∷ more = search rules in
    record {
      same = λ b l s le. skip_agree c.args.time live source more (sym c.is_there.ensures ∙ c.if-is_there.false) b l s le
          ∙ (ap (λ (xs : List Source). find (λ d. delays b l d s) (live ++ xs)) (sym here)
          ∙ c.loop-source.invariant.same b l s le);
      order = λ is. lower source.cause.arrival more
          (and_parts (nat_le 0 source.cause.arrival) (come_from source.cause.arrival more)
          (ap (come_from 0) (sym here) ∙ c.loop-source.invariant.order is)).1;
    }
