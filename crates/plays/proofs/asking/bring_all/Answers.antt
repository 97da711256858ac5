use Rattle.std.proofs.Common.{Option, subst}
use Rattle.desk_core.specs.declared.events.Reply.{Reply}
use Rattle.desk_core.specs.Advances.{IsAdvanced}
use Rattle.plays.proofs.TestLaws.{brought-more, less-left}
use Rattle.plays.proofs.asking.bring_all.Goals as goal

pub loop-reply-smaller : goal.loop-reply-smaller
loop-reply-smaller c =
    let u = c.loop-reply.core in
    let v = c.advance.new.self in
    let more = subst (λ (o : Option Reply). IsAdvanced u c.args.draft v o) c.in-Some.is
    c.in_ok-_reply.ensures.ok in
    less-left u v c.args.draft c.in-Some._reply more

pub loop-reply-smaller-in-Some : goal.loop-reply-smaller-in-Some
loop-reply-smaller-in-Some c =
    let u = c.loop-reply.core in
    let v = c.advance.new.self in
    let more = subst (λ (o : Option Reply). IsAdvanced u c.args.draft v o) c.in-Some.is
    c.in_ok-_reply.ensures.ok in
    less-left u v c.args.draft c.in-Some._reply more

pub loop-reply-preserved : goal.loop-reply-preserved
loop-reply-preserved c =
    let u = c.loop-reply.core in
    let v = c.advance.new.self in
    let more = subst (λ (o : Option Reply). IsAdvanced u c.args.draft v o) c.in-Some.is
    c.in_ok-_reply.ensures.ok in
    brought-more c.args.core.now u v c.args.draft c.in-Some._reply c.loop-reply.invariant more

pub loop-reply-preserved-in-Some : goal.loop-reply-preserved-in-Some
loop-reply-preserved-in-Some c =
    let u = c.loop-reply.core in
    let v = c.advance.new.self in
    let more = subst (λ (o : Option Reply). IsAdvanced u c.args.draft v o) c.in-Some.is
    c.in_ok-_reply.ensures.ok in
    brought-more c.args.core.now u v c.args.draft c.in-Some._reply c.loop-reply.invariant more
