use Rattle.std.proofs.Common.{◌≡◌, ◌≤◌, ◌+◌, ◌++◌, length, string_bytes, refl, subst, rules}
use Rattle.std.proofs.lemmas.List.{append-nil, drop_all}
use Rattle.drafts.specs.Machine.{MachineState}
use Rattle.plays.specs.Plays.{IsBookText}
use Rattle.rushes.proofs.printing.log_text.Goals as goal

pub returns-clause-text : goal.returns-clause-text
returns-clause-text c =
    let book : IsBookText c.args.closing.now.state.value (string_bytes c.in_ok-book.book) =
    subst (λ (d : MachineState). IsBookText d (string_bytes c.in_ok-book.book)) c.deref-2.ensures
    c.in_ok-book.ensures in
    let log = c.as_slice-log.result.now in
    let end : length log ≤ c.loop-i.i = search rules in
    let all = rw (drop_all c.loop-i.i log end, append-nil) at c.loop-i.invariant.told in
    let both : string_bytes c.push_str.new.self ≡ string_bytes c.loop-i.text
    ++ string_bytes c.in_ok-book.book = search rules in
    (string_bytes c.in_ok-book.book, book, rw (both, all, c.as_slice-log.ensures.value) refl)

pub returns-clause-teams : goal.returns-clause-teams
returns-clause-teams c =
    let log = c.as_slice-log.result.now in
    let end : length log ≤ c.loop-i.i = search rules in
    let seen = rw (drop_all c.loop-i.i log end) at c.loop-i.invariant.teams in
    rw c.as_slice-log.ensures.value at (seen tt)
