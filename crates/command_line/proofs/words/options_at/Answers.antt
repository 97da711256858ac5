use Rattle.std.proofs.Common.{◌∙◌}
use Rattle.clap.specs.Words.{found_of}
use Rattle.clap.proofs.WalkLemmas.{first_value-rows}
use Rattle.command_line.proofs.words.options_at.Goals as goal

pub returns-clause-known : goal.returns-clause-known
returns-clause-known c = record {
  prefer = c.in_ok-prefer.ensures.known;
  is_strict = c.flag_chosen.ensures;
  task = c.get_str.ensures ∙ first_value-rows (found_of c.args.matches.now) _;
  base = c.number_chosen.ensures;
  room = c.number_chosen-8.ensures;
  all = c.flag_chosen-2.ensures;
  lower_is_higher = c.flag_chosen-3.ensures;
  seed = c.number_chosen-2.ensures;
  by_task = c.flag_chosen-4.ensures;
  tolerance = c.number_chosen-3.ensures;
  jobless = c.flag_chosen-5.ensures;
  from = c.number_chosen-4.ensures;
  to = c.number_chosen-5.ensures;
  width = c.number_chosen-6.ensures;
  print = c.number_chosen-7.ensures;
  chain = c.get_str-2.ensures ∙ first_value-rows (found_of c.args.matches.now) _;
  sort = c.get_str-3.ensures ∙ first_value-rows (found_of c.args.matches.now) _;
  title = c.get_str-4.ensures ∙ first_value-rows (found_of c.args.matches.now) _;
  rows = c.get_str-5.ensures ∙ first_value-rows (found_of c.args.matches.now) _;
  team = c.number_chosen-9.ensures;
}
