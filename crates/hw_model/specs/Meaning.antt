-- The meaning of a module of a design: its settled maps, its steps, its runs, and what depends on what.
use Rattle.std.specs.Prelude.{List, [], ◌∷◌, ◌++◌, map, drop, Option, Some, None, cond}
use Rattle.wiring.specs.Wiring.{Settled as IsSettled, Depends as IsReached, IsAcyclic, HasHeights as HaveHeights}
use Rattle.bits_core.specs.Word.{Word, first}
use Rattle.hw_model.specs.Types.{Name}
use Rattle.hw_model.specs.Design.{Ref, Module, Design, find_module, output_refs}
use Rattle.hw_model.specs.Value.{op_value, concat_words, is_high}
use Rattle.hw_model.specs.Flat.{Net, net, Source, source, Slot, Register, ResetBy, register_in, async_reset_in, registers, held_width, state}
use Rattle.hw_model.specs.Flat.Source.{nowhere, input, held, copy, op_result}
use Rattle.hw_model.specs.Machine.{Machine}

-- ---- nets

-- the nets from whose values a net's value comes, without a register between
abbrev pub needs_of : Source → List Net
needs_of nowhere = []
needs_of (input start w) = []
needs_of (held start w) = []
needs_of (copy n) = n ∷ []
needs_of (op_result kind types t k ns) = ns

abbrev pub needs : Design → Name → Net → List Net
needs d top n = needs_of (source d top n)

abbrev pub only : List Word → Word
only [] = []
only (x ∷ xs) = x

-- the value of a net under inputs and content, from the values of the nets that it needs
abbrev pub value_of : Word → Word → Source → List Word → Word
value_of inputs content nowhere xs = []
value_of inputs content (input start w) xs = first w (drop start inputs)
value_of inputs content (held start w) xs = first w (drop start content)
value_of inputs content (copy n) xs = only xs
value_of inputs content (op_result kind types t k ns) xs = op_value kind types t k xs

abbrev pub value : Design → Name → Word → Word → Net → List Word → Word
value d top inputs content n xs = value_of inputs content (source d top n) xs

-- under the map every net has the value of its own operation, every register its content, every input its bits
abbrev pub Settled : Design → Name → Word → Word → (Net → Word) → Type 0
Settled d top inputs content ρ = IsSettled (needs d top) (value d top inputs content) ρ

-- a net depends on another by operations that are not registers
abbrev pub Depends : Design → Name → Net → Net → Type 0
Depends d top a b = IsReached (needs d top) a b

-- no net of the flattened module depends on itself
abbrev pub HasNoCycle : Design → Name → Type 0
HasNoCycle d top = IsAcyclic (needs d top)

-- the nets of the flattened module have heights: each is one higher than the highest that it needs
abbrev pub HasHeights : Design → Name → Type 0
HasHeights d top = HaveHeights (needs d top)

-- ---- registers

abbrev pub value_if_enabled : Option Ref → (Ref → Word) → Word → Word → Word
value_if_enabled None τ old new = new
value_if_enabled (Some e) τ old new = cond (is_high (τ e)) new old

abbrev pub reset : Option ResetBy → (Ref → Word) → Word → Word
reset None τ new = new
reset (Some r) τ new = cond (is_high (τ r.signal)) (τ r.value) new

-- what a register holds after a step: where its clock rises, with reset the reset value, otherwise without enable the
-- old one, otherwise its data operand
abbrev pub next_value : Option Register → (Ref → Word) → Word → Word
next_value None τ old = old
next_value (Some r) τ old = cond (is_high (τ r.clock)) (reset r.reset τ (value_if_enabled r.enable τ old (τ r.next))) old

-- the content slot by slot, `each` giving what a slot holds from what it held
abbrev pub map_slots : (Slot → Word → Word) → List Slot → Word → Word
map_slots each [] content = []
map_slots each (s ∷ ss) content =
    first (held_width s.op) (each s (first (held_width s.op) content)) ++ map_slots each ss (drop (held_width s.op) content)

abbrev pub next_in : (Net → Word) → Slot → Word → Word
next_in ρ s old = next_value (register_in s.op) (λ r. ρ (net s.path r)) old

-- the content after a step: the registers in order, each taking its next value from the settled map
abbrev pub next_content : List Slot → (Net → Word) → Word → Word
next_content ss ρ content = map_slots (next_in ρ) ss content

-- what a register holds once its asynchronous reset has risen: the reset value where the reset was 0 before and is 1 now
-- (IEEE 1364-2005, 9.7.2: a posedge is a change to 1)
abbrev pub rise_value : Option ResetBy → (Ref → Word) → (Ref → Word) → Word → Word
rise_value None τ υ old = old
rise_value (Some r) τ υ old = cond (is_high (τ r.signal)) old (cond (is_high (υ r.signal)) (υ r.value) old)

abbrev pub rise_in : (Net → Word) → (Net → Word) → Slot → Word → Word
rise_in ρ σ s old = rise_value (async_reset_in s.op) (λ r. ρ (net s.path r)) (λ r. σ (net s.path r)) old

-- the content after the first phase of a step, from the map of the step before and that of this step
abbrev pub risen_content : List Slot → (Net → Word) → (Net → Word) → Word → Word
risen_content ss ρ σ content = map_slots (rise_in ρ σ) ss content

-- ---- the machine of a module

abbrev pub outputs_of : Option Module → List Ref
outputs_of None = []
outputs_of (Some m) = output_refs m.body

-- the outputs under a map, in port order
abbrev pub outputs : Design → Name → (Net → Word) → Word
outputs d top ρ = concat_words (map (λ r. ρ (net [] r)) (outputs_of (find_module d top)))

-- what the module of a symbol does
abbrev pub machine : Design → Name → Machine Net
machine d top = record {
  size = state d top;
  settled = Settled d top;
  outputs = outputs d top;
  next = next_content (registers d top);
  rising = risen_content (registers d top);
}
