use Rattle.std.proofs.Common.{◌<◌, length}
use Rattle.explain.proofs.AccountLaws.{tasks-within}
use Rattle.explain.proofs.NeedLaws.{All-reversed}
use Rattle.explain.proofs.accounts.response_account.Goals as goal

pub members_of-members-requires : goal.members_of-members-requires
members_of-members-requires c =
    rw c.deref.ensures.value
    (tasks-within (length c.args.set.now) 32 c.args.above.items c.sheets.ensures.kept.few
    c.requires.others)

pub parts_of-requires-clause-within : goal.parts_of-requires-clause-within
parts_of-requires-clause-within c =
    rw (c.deref-2.ensures.value, c.reverse.ensures.items)
    (All-reversed (λ k. k < length c.args.set.now) c.args.above.items c.requires.others)
