use Rattle.std.proofs.Common.{◌≡◌, ℕ, suc, ◌+◌, refl, sym, ap, ◌∙◌, Bool, true, false, cond, List, [], ◌∷◌, ◌++◌, append-nil}
use Rattle.std.specs.List.{list_any, position_or_len}
use Rattle.gates.specs.declared.signal.Gate.{Gate}
use Rattle.gates.specs.declared.signal.Signal.TheVariants.{Wire}
use Rattle.gates.specs.Signals.{same_gate, pin_of}
use Rattle.gates.specs.Build.{joined}
use Rattle.gates.specs.Circuits.{Circuit, Runs}
use Rattle.gates.proofs.circuit.Gates.insert_gate.Goals as goal
use Rattle.gates.proofs.circuit.Gates.insert_gate.Goals.{in-Some, in-None}

-- where the gate stands, no gate is new
added : (t : Bool) (gates : List Gate) (g : Gate) → cond t gates (gates ++ g ∷ []) ≡ gates ++ cond t [] (g ∷ [])
added true gates g = sym (append-nil gates)
added false gates g = refl

runs-joined : (g : Gate) (s u : Circuit) (index variable : ℕ) → u.inputs ≡ s.inputs
    → u.gates ≡ cond (list_any (same_gate g) s.gates) s.gates (s.gates ++ g ∷ [])
    → index ≡ position_or_len (same_gate g) s.gates → variable ≡ s.inputs + suc index
    → Runs (joined g) s u (Wire (pin_of variable))
unfolding joined
runs-joined g s u index variable inputs gates at is = record {
  inputs = inputs;
  gates = gates ∙ added (list_any (same_gate g) s.gates) s.gates g;
  is = ap (λ (v : ℕ). Wire (pin_of v)) (is ∙ ap (λ (i : ℕ). s.inputs + suc i) at);
}

pub returns : goal.returns
returns c =
    let after : Circuit = record { inputs = c.self.inside.inputs; gates = c.insert_full.new.self.keys } in
    let before : Circuit = record { inputs = c.self.inside.inputs; gates = c.self.inside.gates.keys } in
    let same : c.args.self.now ≡ before = sym c.self.view_is in
    elim c.match-variable_after.branch [
      | in-Some w ↦ rw (w.result-is, same) (runs-joined c.args.gate before after c.in_ok-index.index _ refl
          c.in_ok-index.ensures.keys c.in_ok-index.ensures.index w.in-Some.ensures)
      | in-None w ↦ rw w.result-is tt
    ]
