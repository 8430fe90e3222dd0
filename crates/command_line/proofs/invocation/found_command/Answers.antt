use Rattle.clap.specs.Words.{found_of, rows_of, subcommand_rows_of}
use Rattle.command_line.proofs.Said.{pair_found, found_says}
use Rattle.command_line.proofs.invocation.found_command.Goals as goal

pub returns-in-Some : goal.returns-in-Some
returns-in-Some c =
    found_says c.args.offered.now (subcommand_rows_of c.args.matches.now) c.in-Some.name.now (rows_of (found_of c.in-Some.rows.now)) c.command_in.result
    (pair_found _ _ _ c.in-Some.name.now (rows_of (found_of c.in-Some.rows.now)) c.in-Some.ensures.name c.in-Some.ensures.rows) c.command_in.ensures
