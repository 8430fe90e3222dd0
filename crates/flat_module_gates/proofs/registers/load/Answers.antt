use Rattle.std.proofs.Common.{sym, subst, get_or, arith, false, []}
use Rattle.std.proofs.lemmas.List.{take_more}
use Rattle.gates.specs.declared.signal.Signal.TheVariants.{Fixed}
use Rattle.gates.specs.Circuits.{Runs}
use Rattle.net_gates.specs.RegisterGateLists.{load}
use Rattle.flat_module_gates.proofs.Loading.{load_begin, load_more, load_end}
use Rattle.flat_module_gates.proofs.registers.load.Goals as goal

pub loop-position-init : goal.loop-position-init
loop-position-init c = subst (Runs (load c.args.condition [] []) c.args.gates.now c.args.gates.now) (sym c.in_ok-made.ensures.items) (load_begin c.args.condition c.args.gates.now)

pub loop-position-preserved : goal.loop-position-preserved
loop-position-preserved c =
    let i = c.loop-position.position in
    load_more c.args.condition c.args.known.now c.args.old.now i (get_or c.args.known.now i (Fixed false)) (get_or c.args.old.now i (Fixed false)) c.args.gates.now c.loop-position.gates c.load_bit.new.gates
    c.loop-position.made.items c.push.new.self.items c.in_ok-load_bit.field-0 (omega (arith, c.min-count.ensures)) (omega (arith, c.min-count.ensures))
    (take_more c.args.known.now i (Fixed false) (omega (arith, c.min-count.ensures))) (take_more c.args.old.now i (Fixed false) (omega (arith, c.min-count.ensures)))
    c.loop-position.invariant c.in_ok-load_bit.ensures c.in_ok-push.ensures.items

pub returns : goal.returns
returns c =
    load_end c.args.condition c.args.known.now c.args.old.now c.loop-position.position c.min-count.result c.args.gates.now c.loop-position.gates c.loop-position.made.items
    (omega (arith, c.min-count.ensures)) (omega (arith, c.loop-position-test.false)) c.loop-position.invariant
