-- The words of an imported design's nets under a settled map, operation by operation.
use Rattle.std.proofs.Common.{◌≡◌, ℕ, zero, suc, ◌+◌, Bool, true, false, not, ◌&&◌, List, [], ◌∷◌, ◌++◌, map, take, drop, get_or, slice_get, codes, Option, Some, refl, sym, ap, ap₂, ◌∙◌, zero-add, one-add}
use Rattle.wiring.proofs.Lists.{map-map}
use Rattle.bits_core.specs.Word.{Word, first}
use Rattle.hw_model.specs.Design.{Ref, Port, Op}
use Rattle.hw_model.specs.Design.Ref.{port, result, undefined}
use Rattle.hw_model.specs.Value.{and_all}
use Rattle.hw_model.specs.Flat.{Net, net, Source, state, body_state, input_width, input_of}
use Rattle.hw_model.specs.Flat.Source.{nowhere}
use Rattle.hw_model.specs.Meaning.{Settled, needs_of, value_of}
use Rattle.hw_model.proofs.Paths.{op_in, result_in, result_here}
use Rattle.aiger_laws.specs.declared.tree.Latch.{Latch}
use Rattle.aiger_laws.specs.Trees.{Aiger}
use Rattle.aiger_design.specs.Operations.{constant_op, inverter_op, register_op, and_op, port_named, numbered, one_bit}
use Rattle.aiger_design.specs.Positions.{input_port}
use Rattle.aiger_design.specs.Built.{clock_ports, input_ports, output_ports, imported_ports, imported_body, imported_symbol, imported_design, clocked}

-- the word of a value of the module's body
abbrev pub word : (Net → Word) → Ref → Word
word ρ r = ρ (net [] r)

-- one bit of a word from a position on
pub first_bit : (c : Word) (k : ℕ) → first 1 (drop k c) ≡ get_or c k false ∷ []
first_bit [] zero = refl
first_bit [] (suc k) = refl
first_bit (b ∷ c) zero = refl
first_bit (b ∷ c) (suc k) = first_bit c k

-- ---- ports

-- where a port's word comes from
abbrev port_bits : List Port → Ref → Source
port_bits ps (port j) = input_of (slice_get ps j) (input_width (take j ps))
port_bits ps r = nowhere

-- the word that a net gets from a source under a map
abbrev source_word : Word → Word → (Net → Word) → Source → Word
source_word inputs content ρ s = value_of inputs content s (map ρ (needs_of s))

-- an input is of one bit, and so many bits stand before it
input_there : (s : ℕ) (ls : List ℕ) (more : List Port) (k l : ℕ) → slice_get ls k ≡ Some l
    → ((n : ℕ) × (slice_get (input_ports s ls ++ more) k ≡ Some (port_named (numbered (codes "i") n) false one_bit)))
    × (input_width (take k (input_ports s ls ++ more)) ≡ k)
input_there s [] more k l at = absurd (let w : ⊥ = cc in w)
input_there s (x ∷ ls) more zero l at = ((s, refl), refl)
input_there s (x ∷ ls) more (suc k) l at =
    let rest = input_there (suc s) ls more k l at in
    (rest.0, ap (λ n. 1 + n) rest.1 ∙ one-add k)

input_bits : (latches : List Latch) (s : ℕ) (ls : List ℕ) (more : List Port) (x content : Word) (ρ : Net → Word) (k l : ℕ) → slice_get ls k ≡ Some l
    → source_word (clocked latches x) content ρ (port_bits (clock_ports latches ++ (input_ports s ls ++ more)) (input_port latches k)) ≡ get_or x k false ∷ []
input_bits [] s ls more x content ρ k l at =
    let there = input_there s ls more k l at in
    ap₂ (λ (p : Option Port) (n : ℕ). source_word x content ρ (input_of p n)) there.0.1 there.1 ∙ first_bit x k
input_bits (a ∷ latches) s ls more x content ρ k l at =
    let there = input_there s ls more k l at in
    ap₂ (λ (p : Option Port) (n : ℕ). source_word (true ∷ x) content ρ (input_of p n)) there.0.1 (ap (λ n. 1 + n) there.1 ∙ one-add k) ∙ first_bit x k

input_is_port : (latches : List Latch) (k : ℕ) → (j : ℕ) × (input_port latches k ≡ port j)
input_is_port [] k = (k, refl)
input_is_port (l ∷ ls) k = (suc k, refl)

-- ---- operations

module _ (t : Aiger) (inputs content : Word) (ρ : Net → Word) (settled : Settled (imported_design t) imported_symbol inputs content ρ) where
  -- the word of an operation's result, by what stands at its position
  result_word : (i : ℕ) (o : Op) → slice_get (imported_body t) i ≡ Some o
      → word ρ (result i 0) ≡ value_of inputs content (op_in (imported_design t) imported_symbol [] (imported_body t) i 0 o)
      (map ρ (needs_of (op_in (imported_design t) imported_symbol [] (imported_body t) i 0 o)))
  result_word i o at =
      settled (net [] (result i 0))
      ∙ ap (λ s. value_of inputs content s (map ρ (needs_of s)))
      (result_here (imported_design t) imported_symbol [] i 0 ∙ ap (result_in (imported_design t) imported_symbol [] (imported_body t) i 0) at)

  pub constant_word : (i : ℕ) (b : Bool) → slice_get (imported_body t) i ≡ Some (constant_op b) → word ρ (result i 0) ≡ b ∷ []
  constant_word i true at = result_word i (constant_op true) at
  constant_word i false at = result_word i (constant_op false) at

  pub inverter_word : (i : ℕ) (x : Ref) (b : Bool) → slice_get (imported_body t) i ≡ Some (inverter_op x) → word ρ x ≡ b ∷ [] → word ρ (result 0 0) ≡ true ∷ []
      → word ρ (result i 0) ≡ not b ∷ []
  inverter_word i x b at is one = result_word i (inverter_op x) at ∙ go b is
    where
      go : (b : Bool) → word ρ x ≡ b ∷ [] → value_of inputs content (op_in (imported_design t) imported_symbol [] (imported_body t) i 0 (inverter_op x)) (word ρ x ∷ word ρ (result 0 0) ∷ []) ≡ not b ∷ []
      go true e = ap₂ (λ y z. value_of inputs content (op_in (imported_design t) imported_symbol [] (imported_body t) i 0 (inverter_op x)) (y ∷ z ∷ [])) e one
      go false e = ap₂ (λ y z. value_of inputs content (op_in (imported_design t) imported_symbol [] (imported_body t) i 0 (inverter_op x)) (y ∷ z ∷ [])) e one

  pub and_word : (i : ℕ) (rs : List Ref) (a b : Bool) → slice_get (imported_body t) i ≡ Some (and_op rs) → map (word ρ) rs ≡ (a ∷ []) ∷ (b ∷ []) ∷ []
      → word ρ (result i 0) ≡ (a && (b && true)) ∷ []
  and_word i rs a b at are =
      result_word i (and_op rs) at ∙ ap (and_all 1) (map-map ρ (net []) rs ∙ are)

  pub register_word : (i k m : ℕ) (rs : List Ref) → slice_get (imported_body t) i ≡ Some (register_op k rs)
      → body_state (state (imported_design t)) (take i (imported_body t)) ≡ m → word ρ (result i 0) ≡ get_or content m false ∷ []
  register_word i k m rs at before =
      result_word i (register_op k rs) at
      ∙ ap (λ n. first 1 (drop n content)) (zero-add (body_state (state (imported_design t)) (take i (imported_body t))) ∙ before)
      ∙ first_bit content m

  -- the word of an input
  pub input_word : (x : Word) → inputs ≡ clocked t.latches x → (k l : ℕ) → slice_get t.inputs k ≡ Some l → word ρ (input_port t.latches k) ≡ get_or x k false ∷ []
  input_word x is k l at =
      let there = input_is_port t.latches k in
      ap (word ρ) there.1
      ∙ settled (net [] (port there.0))
      ∙ ap₂ (λ (y : Word) (r : Ref). source_word y content ρ (port_bits (imported_ports t) r)) is (sym there.1)
      ∙ input_bits t.latches 0 t.inputs (output_ports 0 t.outputs) x content ρ k l at

  -- the word of the clock
  pub clock_word : (x : Word) (a : Latch) (ls : List Latch) → t.latches ≡ a ∷ ls → inputs ≡ clocked t.latches x → word ρ (port 0) ≡ true ∷ []
  clock_word x a ls some is =
      settled (net [] (port 0))
      ∙ ap₂ (λ (y : Word) (latches : List Latch). source_word y content ρ (port_bits (clock_ports latches ++ (input_ports 0 t.inputs ++ output_ports 0 t.outputs)) (port 0))) (is ∙ ap (λ latches. clocked latches x) some) some

  -- nothing drives what is not defined
  pub undefined_word : word ρ undefined ≡ []
  undefined_word = settled (net [] undefined)
