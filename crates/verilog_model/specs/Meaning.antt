-- What a module of a tree does: its settled maps, its outputs, its steps (IEEE 1364-2005, 6.1: continuous assignments;
-- 9.2.2: nonblocking assignments), read by cycles.
use Rattle.std.specs.Prelude.{◌≡◌, ℕ, Bool, false, cond, List, [], ◌∷◌, ◌++◌, map, drop, filter, Option, Some, None}
use Rattle.bits_core.specs.Word.{Word, first}
use Rattle.hw_model.specs.Types.{Name}
use Rattle.hw_model.specs.Value.{concat_words, is_high}
use Rattle.hw_model.specs.Machine.{Machine}
use Rattle.verilog_model.specs.Tree.{Expr, VPort, Load, Block, VModule, Tree}
use Rattle.verilog_model.specs.Tree.Expr.{name}
use Rattle.verilog_model.specs.Tree.Block.{load, if_load, if_else, if_else_if, async_reset}
use Rattle.verilog_model.specs.Expression.{assigned, own_value, is_true, extend, low_bits}
use Rattle.verilog_model.specs.Hierarchy.{VPath, VNet, vnet, Drive, drive, vmodule_at, width_in, width_at, block_target, find_vmodule, vports_of, vstate, VSlot, vregisters}
use Rattle.verilog_model.specs.Hierarchy.Drive.{nothing, input, held, expression, net}

-- the words of the names at the end of a path
abbrev pub names_at : VPath → (VNet → Word) → Name → Word
names_at q ρ n = ρ (vnet q n)

-- what a drive gives to a net of k bits
abbrev pub drive_value : Tree → Name → Word → Word → (VNet → Word) → ℕ → Drive → Word
drive_value t top inputs content ρ k nothing = []
drive_value t top inputs content ρ k (input start w) = first w (drop start inputs)
drive_value t top inputs content ρ k (held start w) = first w (drop start content)
drive_value t top inputs content ρ k (expression q e) = assigned (width_at (vmodule_at t top q)) (names_at q ρ) k e
drive_value t top inputs content ρ k (net v) = low_bits k (extend k false (ρ v))

-- under the map each net has what drives it
abbrev pub TreeSettled : Tree → Name → Word → Word → (VNet → Word) → Type 0
TreeSettled t top inputs content ρ =
    (v : VNet) → ρ v ≡ drive_value t top inputs content ρ (width_at (vmodule_at t top v.path) v.name) (drive t top v)

-- ---- registers

abbrev pub load_value : VModule → (Name → Word) → ℕ → Load → Word
load_value m τ k l = assigned (width_in m) τ k l.value

abbrev pub holds : VModule → (Name → Word) → Expr → Bool
holds m τ e = is_true (own_value (width_in m) τ e)

-- what the block's register of k bits takes
abbrev pub block_value : VModule → (Name → Word) → ℕ → Word → Block → Word
block_value m τ k old (load l) = load_value m τ k l
block_value m τ k old (if_load c l) = cond (holds m τ c) (load_value m τ k l) old
block_value m τ k old (if_else c l e) = cond (holds m τ c) (load_value m τ k l) (load_value m τ k e)
block_value m τ k old (if_else_if c l b e) = cond (holds m τ c) (load_value m τ k l) (cond (holds m τ b) (load_value m τ k e) old)
block_value m τ k old (async_reset n l e) = cond (holds m τ (name n)) (load_value m τ k l) (load_value m τ k e)

-- where the clock's lowest bit is 1 in this step, the block runs (9.7.2: event control)
abbrev pub slot_value : (VNet → Word) → ℕ → Word → VSlot → Word
slot_value ρ k old s = cond (is_high (low_bits 1 (ρ (vnet s.path s.clock)))) (block_value s.in_module (names_at s.path ρ) k old s.block) old

abbrev pub slot_width : VSlot → ℕ
slot_width s = width_in s.in_module (block_target s.block)

-- the content slot by slot, `each` giving what a slot holds from what it held
abbrev pub map_vslots : (VSlot → Word → Word) → List VSlot → Word → Word
map_vslots each [] content = []
map_vslots each (s ∷ ss) content =
    first (slot_width s) (each s (first (slot_width s) content)) ++ map_vslots each ss (drop (slot_width s) content)

abbrev pub slot_next : (VNet → Word) → VSlot → Word → Word
slot_next ρ s old = slot_value ρ (slot_width s) old s

-- the content after a step: all registers at once
abbrev pub next_vcontent : List VSlot → (VNet → Word) → Word → Word
next_vcontent ss ρ content = map_vslots (slot_next ρ) ss content

-- ---- registers that a second event resets

-- the net whose event runs a block beside its clock, and what the block then loads
pub record SecondEvent : Type 0 where
  pub signal : Name
  pub reset_load : Load

-- the second event of a block (9.7.2, 9.7.3: event `or`): where it comes the block's `if` holds, so the first load is made
abbrev pub second_event : Block → Option SecondEvent
second_event (async_reset n l e) = Some (record { signal = n; reset_load = l })
second_event _ = None

-- what a register of k bits holds once the second event of its block has come, if it has: the net's lowest bit was 0 in
-- the step before and is 1 now
abbrev pub event_value : Option SecondEvent → (VNet → Word) → (VNet → Word) → ℕ → Word → VSlot → Word
event_value None ρ σ k old s = old
event_value (Some e) ρ σ k old s =
    cond (is_high (low_bits 1 (ρ (vnet s.path e.signal)))) old
    (cond (is_high (low_bits 1 (σ (vnet s.path e.signal)))) (load_value s.in_module (names_at s.path σ) k e.reset_load) old)

abbrev pub slot_rise : (VNet → Word) → (VNet → Word) → VSlot → Word → Word
slot_rise ρ σ s old = event_value (second_event s.block) ρ σ (slot_width s) old s

-- the content after the first phase of a step, from the map of the step before and that of this step
abbrev pub risen_vcontent : List VSlot → (VNet → Word) → (VNet → Word) → Word → Word
risen_vcontent ss ρ σ content = map_vslots (slot_rise ρ σ) ss content

-- ---- the machine of a module

abbrev pub output_ports : List VPort → List VPort
output_ports ps = filter (λ (p : VPort). p.is_output) ps

-- the output ports' words, in port order
abbrev pub tree_outputs : Tree → Name → (VNet → Word) → Word
tree_outputs t top ρ = concat_words (map (λ (p : VPort). ρ (vnet [] p.name)) (output_ports (vports_of (find_vmodule t top))))

-- what the module of a name does
abbrev pub tree_machine : Tree → Name → Machine VNet
tree_machine t top = record {
  size = vstate t top;
  settled = TreeSettled t top;
  outputs = tree_outputs t top;
  next = next_vcontent (vregisters t top);
  rising = risen_vcontent (vregisters t top);
}
