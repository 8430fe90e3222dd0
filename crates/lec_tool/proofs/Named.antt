-- The names of the leaves of a module, by its flat copy; and that there are as many as words of a difference.
use Rattle.std.proofs.Common.{◌≡◌, ℕ, suc, ◌+◌, Bool, true, false, cond, List, [], ◌∷◌, ◌++◌, length, map, take, drop, Some, Result, Ok, Err, refl, sym, ap, ◌∙◌, length-append, length-drop, arith}
use Rattle.std.specs.Prelude.{IfOk}
use Rattle.std.specs.List.{filter}
use Rattle.std.proofs.lemmas.List.{length-map, length-take-le}
use Rattle.bits_core.specs.Word.{Word}
use Rattle.hw_model.specs.Types.{Name, width}
use Rattle.hw_model.specs.Design.{Port, Op, Module, Design, is_register, find_module}
use Rattle.hw_model.specs.Flat.{held_width}
use Rattle.hw_model.specs.Sound.{input_types}
use Rattle.name_legalise.proofs.Legals.{legal_count}
use Rattle.miter_blast.specs.FlatCopy.{IsFlatCopy}
use Rattle.miter_blast.specs.Cuts.{cut}
use Rattle.miter_blast.specs.Leaves.{held_widths, input_widths}
use Rattle.miter_blast.specs.Comparisons.{leaf_widths}
use Rattle.module_names.specs.ModuleNames.{register_name, wanted_names, all_names}
use Rattle.lec_tool.specs.LeafNames.{input_names, legal_names, leaf_names, names_of_inputs, names_of_registers, flat_widths, AreLeafNames}
use Rattle.lec_tool.specs.Verdicts.{DoDiffer}

-- ---- inputs, and then registers

-- what comes after the names of ports stays
inputs_then : (ps : List Port) (names : List Name) → input_names ps names ≡ input_names ps (take (length ps) names) ++ drop (length ps) names
inputs_then [] [] = refl
inputs_then [] (n ∷ names) = refl
inputs_then (p ∷ ps) [] = refl
inputs_then (p ∷ ps) (n ∷ names) = go p.is_output (inputs_then ps names) where
  go : (b : Bool) → input_names ps names ≡ input_names ps (take (length ps) names) ++ drop (length ps) names
      → cond b (input_names ps names) (n ∷ input_names ps names)
      ≡ cond b (input_names ps (take (length ps) names)) (n ∷ input_names ps (take (length ps) names)) ++ drop (length ps) names
  go true h = h
  go false h = ap (λ xs. n ∷ xs) h

-- of names of ports those of no output are as many as inputs
inputs_count : (ps : List Port) (names : List Name) → length names ≡ length ps → length (input_names ps names) ≡ length (input_types ps)
inputs_count [] [] e = refl
inputs_count [] (n ∷ names) e = e
inputs_count (p ∷ ps) [] e = absurd (omega (arith, e))
inputs_count (p ∷ ps) (n ∷ names) e = go p.is_output (inputs_count ps names (omega (arith, e))) where
  go : (b : Bool) → length (input_names ps names) ≡ length (input_types ps)
      → length (cond b (input_names ps names) (n ∷ input_names ps names)) ≡ length (cond b (input_types ps) (p.type ∷ input_types ps))
  go true h = h
  go false h = ap suc h

wanted_count : (ps : List Port) (os : List Op) → length (wanted_names ps os) ≡ length ps + length (held_widths os)
wanted_count ps os =
    length-append (map (λ (p : Port). p.name) ps) (map (λ (o : Op). register_name o.name) (filter is_register os))
    ∙ omega (arith, length-map ps (λ (p : Port). p.name), length-map (filter is_register os) (λ (o : Op). register_name o.name), length-map (filter is_register os) held_width)

names_count : (m : Module) → length (legal_names m) ≡ length m.ports + length (held_widths m.body)
names_count m = legal_count [] (wanted_names m.ports m.body) ∙ wanted_count m.ports m.body

-- a name for each input, and for each register
input_count : (m : Module) → length (names_of_inputs m) ≡ length (input_widths m.ports)
input_count m =
    inputs_count m.ports (take (length m.ports) (legal_names m)) (length-take-le (length m.ports) (legal_names m) (omega (arith, names_count m)))
    ∙ sym (length-map (input_types m.ports) width)

register_count : (m : Module) → length (names_of_registers m) ≡ length (held_widths m.body)
register_count m = length-drop (length m.ports) (legal_names m) ∙ omega (arith, names_count m)

-- ---- the names of a copy

pub named : {E : Type 0} {V : Type 0} (items : V → List Name) (r : Result V E) (d : Design) (a : Name) (c : Design) (one m : Module) (shown : List Name)
    → IsFlatCopy d a c → c ≡ one ∷ [] → m ≡ one → shown ≡ all_names m.ports m.body
    → ((k : Module) → find_module d a ≡ Some k → flat_widths one ≡ leaf_widths d a k)
    → IfOk r (λ v. items v ≡ input_names m.ports shown) → IfOk r (λ v. AreLeafNames d a (items v))
named items (Ok v) d a c one m shown copy is same show wide names =
    let are : items v ≡ leaf_names one = names ∙ ap (input_names m.ports) show ∙ ap leaf_names same in
    record {
      copy = c;
      is_copy = copy;
      one = one;
      alone = is;
      are = are;
      in_order = are ∙ inputs_then one.ports (legal_names one);
      inputs = input_count one;
      registers = register_count one;
      widths = wide;
    }
named items (Err e) d a c one m shown copy is same show wide names = tt

-- ---- the words of a difference

cut_count : (ws : List ℕ) (bits : List Bool) → length (cut ws bits) ≡ length ws
cut_count [] bits = refl
cut_count (w ∷ ws) bits = ap suc (cut_count ws _)

-- there is a name for each word
pub one_each : (d : Design) (a : Name) (e : Design) (b : Name) (values : List Word) (names : List Name) → DoDiffer d a e b values → AreLeafNames d a names → length names ≡ length values
one_each d a e b values names differ named =
    let split : length names ≡ length (names_of_inputs named.one) + length (names_of_registers named.one) = ap length named.in_order ∙ length-append (names_of_inputs named.one) (names_of_registers named.one) in
    let all : length (flat_widths named.one) ≡ length (input_widths named.one.ports) + length (held_widths named.one.body) = length-append (input_widths named.one.ports) (held_widths named.one.body) in
    let wide : length (flat_widths named.one) ≡ length (leaf_widths d a differ.comparable.one) = ap length (named.widths differ.comparable.one differ.comparable.one_found) in
    let cuts : length values ≡ length (leaf_widths d a differ.comparable.one) = ap length differ.are ∙ cut_count (leaf_widths d a differ.comparable.one) (differ.input ++ differ.held) in
    omega (arith, named.inputs, named.registers)
