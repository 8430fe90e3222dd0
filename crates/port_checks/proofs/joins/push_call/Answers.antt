use Rattle.std.proofs.Common.{OnOk, map, ap, sym, subst}
use Rattle.ir_store.specs.Designs.{modules_of, module_of, port_of}
use Rattle.graphs.specs.Graphs.{lists_of}
use Rattle.port_checks.specs.Pairs.{AddsPairs}
use Rattle.port_checks.specs.Seen.{ref_seen}
use Rattle.port_checks.proofs.Operands.{call_none, call_some}
use Rattle.port_checks.proofs.Pairs.{adds_none}
use Rattle.port_checks.proofs.joins.push_call.Goals as goal

pub returns-in-Some : goal.returns-in-Some
returns-in-Some c =
    subst (λ ps. OnOk c.push_operands.result (AddsPairs ps (lists_of c.args.joined.now.items) (lists_of c.push_operands.new.joined.items)))
    (sym (call_some (modules_of c.args.design.now) c.args.starts.now c.args.caller.now.number (map port_of c.args.caller.now.ports.now) (map ref_seen c.args.operands.now)
    c.args.instance.now.symbol c.as_bytes.result.now c.find.result c.find.ensures.position c.as_bytes.ensures c.in-Some.number (module_of c.module.result.now) c.deref.result.now
    c.in-Some.is c.module.ensures (ap (map port_of) (sym c.deref.ensures.value))))
    c.push_operands.ensures

pub returns-in-None : goal.returns-in-None
returns-in-None c =
    subst (λ ps. AddsPairs ps (lists_of c.args.joined.now.items) (lists_of c.args.joined.now.items))
    (sym (call_none (modules_of c.args.design.now) c.args.starts.now c.args.caller.now.number (map port_of c.args.caller.now.ports.now) (map ref_seen c.args.operands.now)
    c.args.instance.now.symbol c.as_bytes.result.now c.find.result c.find.ensures.position c.as_bytes.ensures c.in-None.is))
    (adds_none (lists_of c.args.joined.now.items))
