-- Two circuits as texts: an and of two inputs, and a register.
use Rattle.std.proofs.Common.{◌≡◌, true, List, [], ◌∷◌, ◌++◌, refl}
use Rattle.std.specs.Prelude.{codes}
use Rattle.std.specs.Fmt.{digits}
use Rattle.gates.specs.declared.signal.Pin.{Pin}
use Rattle.gates.specs.declared.signal.Gate.{Gate}
use Rattle.gates.specs.declared.signal.Signal.{Signal}
use Rattle.gates.specs.declared.signal.Signal.TheVariants.{Wire}
use Rattle.gates.specs.Signals.{pin_of, gate_of}
use Rattle.aiger_circuits.specs.CircuitTrees.{circuit_tree}
use Rattle.aiger_circuits.specs.CircuitTexts.{tree_text}

and_text : tree_text (circuit_tree 2 (Wire (pin_of 3) ∷ []) [] (gate_of (pin_of 1) (pin_of 2) ∷ [])) (record { inputs = codes "a[0]" ∷ codes "b[0]" ∷ []; latches = []; outputs = codes "c[0]" ∷ [] })
    ≡ codes "aag 3 2 0 1 1\n2\n4\n6\n6 4 2\ni0 a[0]\ni1 b[0]\no0 c[0]\n"
unfolding tree_text circuit_tree digits
and_text = refl

register_text : tree_text (circuit_tree 1 (Wire (pin_of 2) ∷ []) (Wire (pin_of 1) ∷ []) []) (record { inputs = codes "d[0]" ∷ []; latches = codes "r[0]" ∷ []; outputs = codes "q[0]" ∷ [] })
    ≡ codes "aag 2 1 1 1 0\n2\n4 2 4\n4\ni0 d[0]\nl0 r[0]\no0 q[0]\n"
unfolding tree_text circuit_tree digits
register_text = refl
