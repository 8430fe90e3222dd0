-- The ports of a module and the operands for them, one after another, and the module that an instance calls.
use Rattle.std.proofs.Common.{◌≡◌, ℕ, zero, suc, ◌+◌, ◌<◌, ◌≤◌, Bool, true, false, cond, List, [], ◌∷◌, map, length, take, get_or, slice_get, Option, Some, None, refl, sym, ap, ap₂, subst, ◌∙◌, arith, option_and_then}
use Rattle.std.proofs.lemmas.List.{length-map}
use Rattle.hw_model.specs.Types.{Name}
use Rattle.hw_model.specs.Design as hw
use Rattle.hw_model.specs.Design.{Ref}
use Rattle.hw_model.specs.Flat.{port_ref, input_count}
use Rattle.hw_model.specs.Sound.{ports_of}
use Rattle.ir_store.specs.declared.design.Port.{Port}
use Rattle.ir_store.specs.Designs.{StoredModule, port_of, numbered_module}
use Rattle.ir_store.specs.Symbols.{symbol_position}
use Rattle.ir_store.proofs.DesignLemmas.{read_get}
use Rattle.port_checks.specs.Pairs.{pair_of, AddsPairs}
use Rattle.port_checks.specs.Numbers.{port_number}
use Rattle.port_checks.specs.Joins.{bit_port, operand_pairs, found_pairs, call_pairs}
use Rattle.port_checks.proofs.Pairs.{adds_both}
use Rattle.ir_store.proofs.StoredModules.{stored_at}

-- ---- inputs

pub input_count_le : (ports : List hw.Port) (n : ℕ) → input_count (take n ports) ≤ n
input_count_le ports zero = omega arith
input_count_le [] (suc n) = omega arith
input_count_le (q ∷ ports) (suc n) = go q.is_output (input_count_le ports n)
  where
    go : (b : Bool) → input_count (take n ports) ≤ n → cond b (input_count (take n ports)) (suc (input_count (take n ports))) ≤ suc n
    go true rest = omega arith
    go false rest = omega arith

input_count_next : (ports : List hw.Port) (n : ℕ) (q : hw.Port) → slice_get ports n ≡ Some q
    → input_count (take (suc n) ports) ≡ cond q.is_output (input_count (take n ports)) (suc (input_count (take n ports)))
input_count_next [] n q is = cc
input_count_next (p ∷ ports) zero q is = let same : p ≡ q = cc in ap (λ (x : hw.Port). cond x.is_output 0 1) same
input_count_next (p ∷ ports) (suc n) q is = go p.is_output q.is_output (input_count_next ports n q is)
  where
    go : (a b : Bool) → input_count (take (suc n) ports) ≡ cond b (input_count (take n ports)) (suc (input_count (take n ports)))
        → cond a (input_count (take (suc n) ports)) (suc (input_count (take (suc n) ports)))
        ≡ cond b (cond a (input_count (take n ports)) (suc (input_count (take n ports)))) (suc (cond a (input_count (take n ports)) (suc (input_count (take n ports)))))
    go true true rest = rest
    go true false rest = rest
    go false true rest = ap suc rest
    go false false rest = ap suc rest

pub input_count_more : (ports : List hw.Port) (n : ℕ) (q : hw.Port) → slice_get ports n ≡ Some q
    → input_count (take (n + 1) ports) ≡ cond q.is_output (input_count (take n ports)) (input_count (take n ports) + 1)
input_count_more ports n q is =
    let next : n + 1 ≡ suc n = omega arith in
    let after : suc (input_count (take n ports)) ≡ input_count (take n ports) + 1 = omega arith in
    ap (λ k. input_count (take k ports)) next ∙ input_count_next ports n q is ∙ ap (cond q.is_output (input_count (take n ports))) after

-- ---- one port more

pub port_here : (ports : List Port) (n : ℕ) (x : Port) → n < length ports → x ≡ get_or ports n x → slice_get (map port_of ports) n ≡ Some (port_of x)
port_here ports n x below is = sym (read_get port_of ports n x below is)

pub operands_more : (starts : List ℕ) (called : ℕ) (ports : List hw.Port) (caller : ℕ) (outer : List hw.Port) (operands : List Ref) (n : ℕ) (first old new : List (List ℕ)) (to bit port : Option ℕ)
    → to ≡ port_number starts called n → bit ≡ bit_port outer (port_ref ports operands n) → port ≡ option_and_then (port_number starts caller) bit
    → AddsPairs (operand_pairs starts called ports caller outer operands n) first old → AddsPairs (pair_of to port) old new
    → AddsPairs (operand_pairs starts called ports caller outer operands (n + 1)) first new
operands_more starts called ports caller outer operands n first old new to bit port to_is bit_is port_is before adds =
    let next : suc n ≡ n + 1 = omega arith in
    let pairs : pair_of to port ≡ pair_of (port_number starts called n) (option_and_then (port_number starts caller) (bit_port outer (port_ref ports operands n))) =
    ap₂ pair_of to_is (port_is ∙ ap (λ x. option_and_then (port_number starts caller) x) bit_is) in
    subst (λ k. AddsPairs (operand_pairs starts called ports caller outer operands k) first new) next
    (adds_both (operand_pairs starts called ports caller outer operands n)
    (pair_of (port_number starts called n) (option_and_then (port_number starts caller) (bit_port outer (port_ref ports operands n)))) first old new before
    (subst (λ ps. AddsPairs ps old new) pairs adds))

-- ---- the module that is called

symbols_same : (ms : List StoredModule) → map (λ (m : hw.Module). m.symbol) (map numbered_module ms) ≡ map (λ (m : StoredModule). m.symbol) ms
symbols_same [] = refl
symbols_same (m ∷ ms) = ap (λ ss. m.symbol ∷ ss) (symbols_same ms)

module _ (ms : List StoredModule) (starts : List ℕ) (caller : ℕ) (outer : List hw.Port) (operands : List Ref) (symbol name : Name) (found : Option ℕ)
    (position : found ≡ symbol_position name (map (λ (m : StoredModule). m.symbol) ms)) (same : name ≡ symbol) where
  by_position : call_pairs (map numbered_module ms) starts caller outer operands symbol ≡ found_pairs (map numbered_module ms) starts caller outer operands found
  by_position =
      ap (found_pairs (map numbered_module ms) starts caller outer operands)
      (ap (symbol_position symbol) (symbols_same ms) ∙ ap (λ s. symbol_position s (map (λ (m : StoredModule). m.symbol) ms)) (sym same) ∙ sym position)

  pub call_none : found ≡ None → call_pairs (map numbered_module ms) starts caller outer operands symbol ≡ []
  call_none is = by_position ∙ ap (found_pairs (map numbered_module ms) starts caller outer operands) is

  pub call_some : (number : ℕ) (m : StoredModule) (ports : List Port) → found ≡ Some number → Some m ≡ slice_get ms number → m.ports ≡ map port_of ports
      → call_pairs (map numbered_module ms) starts caller outer operands symbol ≡ operand_pairs starts number (map port_of ports) caller outer operands (length ports)
  call_some number m ports is there are =
      by_position ∙ ap (found_pairs (map numbered_module ms) starts caller outer operands) is
      ∙ ap (λ x. operand_pairs starts number (ports_of x) caller outer operands (length (ports_of x))) (stored_at ms number m there)
      ∙ ap (λ qs. operand_pairs starts number qs caller outer operands (length qs)) are
      ∙ ap (operand_pairs starts number (map port_of ports) caller outer operands) (length-map ports port_of)
