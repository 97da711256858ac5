-- What the matches of a command give for its call.
use Rattle.std.proofs.Common.{◌≡◌, ◌≤◌, List, Option, Some, None, Box, option_map, ℕ, arith}
use Rattle.std.specs.Prelude.{IfSome}
use Rattle.std.specs.Box.{box_value}
use Rattle.clap.specs.Words.{Row, Text, subcommand_name_of, subcommand_rows, subcommand_rows_of}
use Rattle.clap.specs.declared.parser.matches.ArgMatches.{ArgMatches}
use Rattle.clap.specs.declared.parser.matches.SubCommand.{SubCommand}
use Rattle.clap.specs.declared.parser.matches.ArgMatches.TheViews.{out-ArgMatches, out-SubCommand}
use Rattle.command_line.specs.Calls.{AreOptions, CountsWithin, HasNumber, HaveNumbers, IsCall}
use Rattle.command_line.specs.Calls.{IsTaken}
use Rattle.command_line.specs.declared.calls.TheConstants.{MOST_PRIORITY, MOST_ROOM, MOST_SEED, MOST_TOLERANCE}
use Rattle.command_line.specs.declared.calls.TheConstants.{LATEST_END, LEAST_PAPER, LEAST_WIDTH, MOST_PAPER, MOST_TEAM, MOST_WIDTH}
use Rattle.command_line.specs.declared.calls.Takes.TheVariants as takes
use Rattle.command_line.specs.declared.calls.Options.{Options}
use Rattle.command_line.specs.Commands.{least_of, most_of}
use Rattle.command_line.specs.declared.calls.Call.{Call}
use Rattle.command_line.specs.declared.calls.Call.TheVariants.{One, Two, Number}

module _ {Z : Type 0} (name : Text) (rows : List Row) where
  found_in : (o : Option (Box SubCommand Z))
      → Some name ≡ option_map (λ b. (out-SubCommand (box_value b)).name.now) o
      → Some rows ≡ option_map (λ p. p.1) (subcommand_rows o)
      → subcommand_rows o ≡ Some (name, rows)
  found_in None n r = cc
  found_in (Some b) n r = cc

-- the command that was found, by its name and its rows
pub found_as : (m : ArgMatches) (name : Text) (rows : List Row) → Some name ≡ subcommand_name_of m
    → Some rows ≡ option_map (λ p. p.1) (subcommand_rows_of m)
    → subcommand_rows_of m ≡ Some (name, rows)
found_as m name rows n r = found_in name rows (out-ArgMatches m).subcommand n r

within : (least most : ℕ) (text : Option Text) (number : ℕ) → CountsWithin least most text number
    → (least ≤ number) × (number ≤ most)
within least most None number none = absurd none
within least most (Some text) number given =
    (omega (arith, given.0.2, given.1), omega (arith, given.0.3, given.1))

number_within : (least most : ℕ) (text : Option Text) (number : Option ℕ)
    → IsTaken (takes.Number least most) text number
    → IfSome number (λ n. (least ≤ n) × (n ≤ most))
number_within least most text None given = tt
number_within least most text (Some n) given = within least most text n given

have_numbers : (rows : List Row) (options : Options) → AreOptions rows options → HaveNumbers options
have_numbers rows options are = (
  number_within 1 MOST_PRIORITY _ options.base are.base,
  number_within 0 MOST_ROOM _ options.room are.room,
  number_within 0 MOST_SEED _ options.seed are.seed,
  number_within 0 MOST_TOLERANCE _ options.tolerance are.tolerance,
  number_within 0 LATEST_END _ options.from are.from,
  number_within 0 LATEST_END _ options.to are.to,
  number_within LEAST_WIDTH MOST_WIDTH _ options.width are.width,
  number_within LEAST_PAPER MOST_PAPER _ options.print are.print,
  number_within 1 MOST_TEAM _ options.team are.team,
)

-- a call that a command names has a number that the command takes
pub call_has_number : (o : Option (Text × List Row)) (call : Call) → IsCall o call → HasNumber call
call_has_number None call none = absurd none
call_has_number (Some found) (One c input options) is = have_numbers found.1 options is.3
call_has_number (Some found) (Two c first second options) is = have_numbers found.1 options is.2
call_has_number (Some found) (Number c input number options) is =
    let fits = within (least_of c) (most_of c) _ number is.2 in
    (have_numbers found.1 options is.3, fits.0, fits.1)
