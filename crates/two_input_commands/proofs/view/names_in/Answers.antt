use Rattle.std.proofs.Common.{◌≡◌, ◌∙◌, ◌++◌, ℕ, List, [], ap, arith, sym}
use Rattle.std.proofs.lemmas.Result.{err_from_is_err_and}
use Rattle.two_input_commands.specs.View.{first_unknown, parts_of, tasks_in}
use Rattle.two_input_commands.proofs.RowNames.{one_more, parts_more, refused_row}
use Rattle.two_input_commands.proofs.view.names_in.Goals as goal

pub returns-in_err-note_name-in-None : goal.returns-in_err-note_name-in-None
returns-in_err-note_name-in-None c =
    let p = err_from_is_err_and c.from_residual.result c.from_residual.ensures.1 in
    let old = c.loop.names.items in
    let parts = c.loop.invariant.parts
    ∙ ap (λ (l : List (List ℕ)). old ++ l) c.in-None.ensures.parts in
    rw (p.1, p.2) (refused_row (tasks_in c.args.sets) c.args.text.now c.loop.rest.now old
    c.note_name.new.names.items [] c.in_err-note_name-in-None.field-0.0 c.requires parts
    c.loop.invariant.known c.in_err-note_name-in-None.ensures)

pub returns-in-None : goal.returns-in-None
returns-in-None c =
    let U = tasks_in c.args.sets in
    let old = c.loop.names.items in
    let new = c.note_name.new.names.items in
    let noted = c.in_ok-note_name-in-None.ensures in
    let parts = c.loop.invariant.parts
    ∙ ap (λ (l : List (List ℕ)). old ++ l) c.in-None.ensures.parts in
    let all : new ≡ parts_of c.args.text.now = noted.1 ∙ sym parts in
    rw c.requires (
      ap (first_unknown U) (sym all)
          ∙ one_more U c.loop.rest.now old new c.loop.invariant.known noted.0 noted.1,
      all,
    )

pub returns-in_err-note_name-in-Some : goal.returns-in_err-note_name-in-Some
returns-in_err-note_name-in-Some c =
    let p = err_from_is_err_and c.from_residual-in_err-note_name-in-Some.result
    c.from_residual-in_err-note_name-in-Some.ensures.1 in
    let old = c.loop.names.items in
    let parts = c.loop.invariant.parts
    ∙ ap (λ (l : List (List ℕ)). old ++ l) c.in-Some.ensures.parts in
    rw (p.1, p.2) (refused_row (tasks_in c.args.sets) c.args.text.now c.in-Some.part.now old
    c.note_name-in-Some.new.names.items (parts_of c.in-Some.after.now)
    c.in_err-note_name-in-Some.field-0.0 c.requires parts c.loop.invariant.known
    c.in_err-note_name-in-Some.ensures)

pub loop-preserved : goal.loop-preserved
loop-preserved c =
    let U = tasks_in c.args.sets in
    let part = c.in-Some.part.now in
    let old = c.loop.names.items in
    let new = c.note_name-in-Some.new.names.items in
    let noted = c.in_ok-note_name-in-Some.ensures in
    let parts = c.loop.invariant.parts
    ∙ ap (λ (l : List (List ℕ)). old ++ l) c.in-Some.ensures.parts in
    record {
      less = omega (arith, c.loop.invariant.less, c.in-Some.ensures.less);
      parts = parts_more part (parts_of c.args.text.now) old new (parts_of c.in-Some.after.now)
          parts noted.1;
      known = one_more U part old new c.loop.invariant.known noted.0 noted.1;
    }
