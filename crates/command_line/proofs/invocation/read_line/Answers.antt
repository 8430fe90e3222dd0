use Rattle.std.proofs.Common.{map, string_bytes}
use Rattle.clap.specs.Words.{subcommand_rows_of}
use Rattle.command_line.proofs.Said.{said_by_found, wrong_by_fault}
use Rattle.command_line.proofs.invocation.read_line.Goals as goal

pub returns-in-Ok : goal.returns-in-Ok
returns-in-Ok c =
    said_by_found c.args.offered.now (map string_bytes c.args.words.now) (subcommand_rows_of c.in-Ok.matches) c.found_command.result
    c.in-Ok.ensures.ok.0 c.in-Ok.ensures.ok.1 c.found_command.ensures

pub returns-in-Err : goal.returns-in-Err
returns-in-Err c = wrong_by_fault c.args.offered.now (map string_bytes c.args.words.now) c.in-Err.fail c.in-Err.ensures.err
