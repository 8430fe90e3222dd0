-- Building circuits: what is built from the number of inputs and the gates so far.
use Rattle.std.specs.Prelude.{ℕ, suc, ◌+◌, true, false, cond, ◌==◌, List, [], ◌∷◌, ◌++◌}
use Rattle.std.proofs.Math.Bool.{beq}
use Rattle.std.specs.List.{list_any, position_or_len}
use Rattle.gates.specs.declared.signal.Pin.{Pin}
use Rattle.gates.specs.declared.signal.Gate.{Gate}
use Rattle.gates.specs.declared.signal.Signal.{Signal}
use Rattle.gates.specs.declared.signal.Sum.{Sum}
use Rattle.gates.specs.declared.signal.Signal.TheVariants.{Fixed, Wire}
use Rattle.gates.specs.Signals.{inverse, pin_of, same_gate, ordered_gate}

-- the new gates, and what was built
pub record Built (A : Type 0) : Type 0 where
  pub gates : List Gate
  pub got : A

-- a building from the number of inputs and the gates so far; a gate's variable follows those of the inputs and of
-- the gates before it
abbrev pub Build : Type 0 → Type 0
Build A = ℕ → List Gate → Built A

-- nothing is built
unfoldable pub done : {A : Type 0} → A → Build A
done a inputs gates = record { gates = []; got = a }

-- the second follows the first
unfoldable pub and_then : {A B : Type 0} → Build A → (A → Build B) → Build B
and_then first second inputs gates =
    let one = first inputs gates in
    let two = second one.got inputs (gates ++ one.gates) in
    record { gates = one.gates ++ two.gates; got = two.got }

-- ---- one gate

-- the gate, but for one that stands already
unfoldable pub joined : Gate → Build Signal
joined g inputs gates = record {
  gates = cond (list_any (same_gate g) gates) [] (g ∷ []);
  got = Wire (pin_of (inputs + suc (position_or_len (same_gate g) gates)));
}

-- the and of two pins: of one variable, it is that pin, or 0
abbrev pub and_pins : Pin → Pin → Build Signal
and_pins a b =
    cond (a.variable == b.variable) (done (cond (beq a.positive b.positive) (Wire a) (Fixed false))) (joined (ordered_gate a b))

-- the and of a pin and a signal
abbrev pub and_pin : Pin → Signal → Build Signal
and_pin a (Fixed true) = done (Wire a)
and_pin a (Fixed false) = done (Fixed false)
and_pin a (Wire b) = and_pins a b

-- the and of two signals
unfoldable pub and : Signal → Signal → Build Signal
and (Fixed true) b = done b
and (Fixed false) b = done (Fixed false)
and (Wire a) b = and_pin a b

-- ---- single bits

-- the or of two signals
unfoldable pub or : Signal → Signal → Build Signal
or a b = and_then (and (inverse a) (inverse b)) (λ neither. done (inverse neither))

-- the exclusive or: not both, and not neither
unfoldable pub exclusive : Signal → Signal → Build Signal
exclusive a b =
    and_then (and a b) (λ both.
    and_then (and (inverse a) (inverse b)) (λ neither.
    and (inverse both) (inverse neither)))

-- the first where the condition is 1, else the second
unfoldable pub choice : Signal → Signal → Signal → Build Signal
choice c a b =
    and_then (and c a) (λ one.
    and_then (and (inverse c) b) (λ two.
    or one two))

-- the sum of three bits and its carry
unfoldable pub full : Signal → Signal → Signal → Build Sum
full a b c =
    and_then (exclusive a b) (λ unlike.
    and_then (exclusive unlike c) (λ sum.
    and_then (and a b) (λ both.
    and_then (and unlike c) (λ one.
    and_then (or both one) (λ carry.
    done (record { sum = sum; carry = carry }))))))

-- whether two bits of three are 1
unfoldable pub majority : Signal → Signal → Signal → Build Signal
majority a b c =
    and_then (and a b) (λ both.
    and_then (or a b) (λ some.
    and_then (and some c) (λ one.
    or both one)))
