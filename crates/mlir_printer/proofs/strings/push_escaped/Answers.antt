use Rattle.mlir_printer.proofs.lexed.Escapes.{plain_parts}
use Rattle.mlir_printer.proofs.strings.push_escaped.Goals as goal

pub returns : goal.returns
returns c =
    plain_parts c.args.out.now c.push_bytes.new.self c.push_others.new.out c.args.text.now c.run_of-plain.result c.run_of-plain.ensures.exact c.in_ok-push_bytes.ensures.ok c.in_ok-push_others.ensures
