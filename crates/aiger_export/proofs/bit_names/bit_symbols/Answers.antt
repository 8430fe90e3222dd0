use Rattle.std.proofs.Common.{ap, length, arith}
use Rattle.std.proofs.lemmas.List.{length-map}
use Rattle.ir_store.specs.Bodies.{ops_of}
use Rattle.ir_store.specs.Designs.{port_of, ports_in}
use Rattle.ir_store.specs.Numbered.{ops_by_position}
use Rattle.aiger_export.proofs.NameSteps.{names_enough}
use Rattle.aiger_export.proofs.bit_names.bit_symbols.Goals as goal

pub split_at-requires : goal.split_at-requires
split_at-requires c =
    let m = c.args.module.now in
    let enough = names_enough (ports_in m.ports) (ops_by_position (ops_of m.body)) in
    let count = length-map m.ports.ports.items port_of in
    let names = ap length c.in_ok-names.ensures in
    omega (arith, enough, count, names)
