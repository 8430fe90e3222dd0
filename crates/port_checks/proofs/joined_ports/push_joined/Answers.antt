use Rattle.std.proofs.Common.{◌<◌, ap₂, length, slice_set, refl, subst, sym, arith}
use Rattle.graphs.specs.Graphs.{lists_of}
use Rattle.port_checks.specs.Pairs.{pair_of, AddsPairs}
use Rattle.graphs.specs.declared.graph.NodeList.{NodeList}
use Rattle.graphs.proofs.Marking.{length-lists}
use Rattle.port_checks.proofs.Pairs.{adds_one, joined_set}
use Rattle.port_checks.proofs.joined_ports.push_joined.Goals as goal

pub returns : goal.returns
returns c =
    let joined = c.args.joined.now.items in
    let list = c.index_mut-list.result.now in
    let grown : NodeList = record { nodes = c.push.new.self } in
    let below : c.in-Some.to < length joined = omega (arith, c.if-to-len.false, c.len.ensures, c.args.joined.now.ok.0) in
    let within : c.in-Some.to < length (lists_of joined) = omega (arith, below, length-lists joined) in
    subst (λ ps. AddsPairs ps (lists_of joined) (lists_of (slice_set joined c.in-Some.to grown))) (sym (ap₂ pair_of c.in-Some.is c.in-Some-port.is))
    (adds_one (lists_of joined) (lists_of (slice_set joined c.in-Some.to grown)) c.in-Some.to c.in-Some-port.port within
    (joined_set joined c.in-Some.to list grown list.nodes.items below c.index_mut-list.ensures.value refl c.in-Some-port.port c.in_ok-push.ensures.items))
