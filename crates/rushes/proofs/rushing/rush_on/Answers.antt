use Rattle.std.proofs.Common.{◌≡◌, ◌≤◌, ◌∙◌, ℕ, List, map, string_bytes, sym, subst, arith}
use Rattle.std.proofs.lemmas.Bool.{false≢true}
use Rattle.book_lock.specs.Closing.{IsUnclosed, IsMissing, IsReceipted}
use Rattle.book_lock.specs.TeamPass.{Known, newcomers}
use Rattle.book_lock.specs.declared.closing.CloseCause.{CloseCause}
use Rattle.rushes.specs.Hands.{Hand, closed_book}
use Rattle.rushes.specs.Printed.{all_note_lines}
use Rattle.rushes.proofs.PartLaws.{AreAfter, all_after, all_run, all_there, parts_of}
use Rattle.rushes.proofs.rushing.rush_on.Goals as goal

pub returns-in-Ok-close : goal.returns-in-Ok-close
returns-in-Ok-close g c =
    let new = c.in-Ok.ensures.ok in
    let lines = c.args.lines.now in
    let workers = c.args.workers in
    let teams = c.in_ok-teams.teams.items in
    let runs : AreAfter workers lines 1 8 teams = all_run workers lines (newcomers 1 8) teams
    (rw (c.in_ok-split.ensures, new.2, c.in_ok-teams.ensures.teams) at c.in_ok-ends.ensures) in
    let closed = c.in-Ok-close.ensures.ok in
    let book = closed_book c.in-Ok-close.closing in (
      book,
      map (λ last. last.notes) teams,
      record {
        legal = closed.legal;
        teams = c.in_ok-log-in-Ok-close.ensures.teams;
        all = all_after workers lines 1 8 teams runs;
        parts =
            parts_of workers lines 1 8 teams book.log runs
            (λ team low high.
            subst (λ (passes : List Known). IsReceipted passes book.log team) c.in_ok-passes.ensures
            (closed.receipted team low (subst (λ (n : ℕ). team ≤ n) (sym new.1) (omega arith))));
      },
      c.in_ok-log-in-Ok-close.ensures.text,
      subst (λ (all : List Hand). string_bytes c.in_ok-notes.notes ≡ all_note_lines
          (map (λ last. last.notes) all)) c.deref.ensures.value c.in_ok-notes.ensures,
    )

pub unreachable-requires : goal.unreachable-requires
unreachable-requires g c =
    let new = c.in-Ok.ensures.ok in
    let lines = c.args.lines.now in
    let workers = c.args.workers in
    let teams = c.in_ok-teams.teams.items in
    let team = c.in-MissingPass.team in
    let runs : AreAfter workers lines 1 8 teams = all_run workers lines (newcomers 1 8) teams
    (rw (c.in_ok-split.ensures, new.2, c.in_ok-teams.ensures.teams) at c.in_ok-ends.ensures) in
    let missing : IsMissing c.in-Ok.desk (map (λ last. last.pass) teams) team =
    subst (λ (passes : List Known). IsMissing c.in-Ok.desk passes team) c.in_ok-passes.ensures
    (subst (λ (cause : CloseCause). IsUnclosed c.in-Ok.desk c.in_ok-passes.passes.items cause)
    c.in-MissingPass.is c.in-Err.ensures.err) in
    let within : team ≤ 8 = subst (λ (n : ℕ). team ≤ n) new.1 missing.to in
    false≢true (sym missing.none
    ∙ all_there workers lines 1 8 teams runs team missing.from (omega arith))
