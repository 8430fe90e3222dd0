-- The lists of callees of a fit design are those of a schedule.
use Rattle.std.proofs.Common.{◌≡◌, ℕ, zero, suc, ◌<◌, ◌≤◌, ◌^◌, List, [], ◌∷◌, ◌++◌, length, map, Option, Some, None, sym, ap, subst, ◌∙◌, arith}
use Rattle.std.specs.Prelude.{option_to_list}
use Rattle.std.proofs.lemmas.List.{length-map}
use Rattle.std.proofs.lemmas.Option.{slice_get_within}
use Rattle.wiring.specs.Wiring.{In}
use Rattle.sched_core.specs.Runs.{AreCallees}
use Rattle.graphs.specs.Graphs.{edges}
use Rattle.hw_model.specs.Types.{Name}
use Rattle.hw_model.specs.Kinds.{Instance}
use Rattle.hw_model.specs.Design.{Op, Module, Design, instance_in}
use Rattle.hw_model.specs.Hierarchy.{callee_symbols, called_by}
use Rattle.ir_store.specs.declared.body.Body.{Body}
use Rattle.ir_store.specs.declared.design.Module.{Module as CodeModule}
use Rattle.ir_store.specs.declared.design.Design.{Design as CodeDesign}
use Rattle.ir_store.specs.Bodies.{ops_of}
use Rattle.ir_store.specs.Orders.{live_ids}
use Rattle.ir_store.specs.Numbered.{ops_by_position}
use Rattle.ir_store.specs.Symbols.{symbol_position}
use Rattle.ir_store.specs.Designs.{numbered_module, module_of, modules_of, design_of}
use Rattle.ir_store.proofs.Ordering.{length-walk}
use Rattle.design_cycles.specs.Calls.{symbols_in, numbers_of, call_lists}
use Rattle.design_cycles.proofs.Callees.{from_In-numbers, position_found, acyclic_numbers}
use Rattle.op_verifier.proofs.Distinct.{distinct_symbols}
use Rattle.acceptance_laws.specs.Keeps.{IsFit}

-- ---- how many callees there are

symbols_few : (os : List Op) → length (callee_symbols os) ≤ length os
symbols_few [] = omega arith
symbols_few (o ∷ os) = go (instance_in o.kind) (symbols_few os)
  where
    go : (x : Option Instance) → length (callee_symbols os) ≤ length os → length (called_by x ++ callee_symbols os) ≤ suc (length os)
    go None rest = omega (arith, rest)
    go (Some i) rest = omega (arith, rest)

numbers_few : (symbols ss : List Name) → length (numbers_of symbols ss) ≤ length ss
numbers_few symbols [] = omega arith
numbers_few symbols (s ∷ ss) = go (symbol_position s symbols) (numbers_few symbols ss)
  where
    go : (x : Option ℕ) → length (numbers_of symbols ss) ≤ length ss → length (option_to_list x ++ numbers_of symbols ss) ≤ suc (length ss)
    go None rest = omega (arith, rest)
    go (Some i) rest = omega (arith, rest)

-- a body has fewer operations than there are ids
body_few : (b : Body) → length (ops_of b) < 2 ^ 32
body_few b =
    let same : length (ops_of b) ≡ length (live_ids b.order) = length-map (live_ids b.order) _ in
    let many : length (live_ids b.order) ≡ b.order.live = length-walk b.order.links.items b.order.live b.order.first in
    omega (arith, same, many, b.order.within, b.order.few)

ops_few : (b : Body) → length (ops_by_position (ops_of b)) < 2 ^ 32
ops_few b =
    let same : length (ops_by_position (ops_of b)) ≡ length (ops_of b) = length-map (ops_of b) _ in
    omega (arith, same, body_few b)

list_few : (symbols : List Name) (ms : List CodeModule) (i : ℕ)
    → length (edges (map (λ (m : Module). numbers_of symbols (callee_symbols m.body)) (map numbered_module (map module_of ms))) i) < 2 ^ 32
list_few symbols [] i = omega arith
list_few symbols (m ∷ ms) zero =
    let few : length (numbers_of symbols (callee_symbols (ops_by_position (ops_of m.body)))) ≤ length (callee_symbols (ops_by_position (ops_of m.body))) = numbers_few symbols (callee_symbols (ops_by_position (ops_of m.body))) in
    omega (arith, few, symbols_few (ops_by_position (ops_of m.body)), ops_few m.body)
list_few symbols (m ∷ ms) (suc i) = list_few symbols ms i

-- ---- the lists

in_past : (symbols : List Name) (d : Design) (i k : ℕ) → In k (edges (map (λ (m : Module). numbers_of symbols (callee_symbols m.body)) d) i) → (s : Name) × (symbol_position s symbols ≡ Some k)
in_past symbols [] i k here = absurd here
in_past symbols (m ∷ d) zero k here = let from = from_In-numbers symbols k (callee_symbols m.body) here in (from.0, from.2)
in_past symbols (m ∷ d) (suc i) k here = in_past symbols d i k here

lists_length : (d : Design) → length (call_lists d) ≡ length d
lists_length d = length-map d (λ (m : Module). numbers_of (symbols_in d) (callee_symbols m.body))

pub fit_callees : (d : CodeDesign) (lists : List (List ℕ)) → IsFit (design_of d) → lists ≡ call_lists (design_of d) → AreCallees lists
fit_callees d lists fit same = subst AreCallees (sym same) (record {
  acyclic = acyclic_numbers (design_of d) (distinct_symbols (design_of d) fit.unrefused) fit.valid.finite;
  within = λ m k here.
      let from = in_past (symbols_in (design_of d)) (design_of d) m k here in
      let there = position_found (design_of d) from.0 k from.1 in
      let inside : k < length (design_of d) = slice_get_within (design_of d) k there.0 there.1 in
      omega (arith, inside, lists_length (design_of d));
  modules =
      let count : length (design_of d) ≡ length (modules_of d) = length-map (modules_of d) numbered_module in
      let stored : length (modules_of d) ≡ length d.modules.items = length-map d.modules.items module_of in
      omega (arith, count, stored, lists_length (design_of d), d.small);
  entries = λ m. list_few (symbols_in (design_of d)) d.modules.items m;
})

pub count_lists : (d : CodeDesign) (lists : List (List ℕ)) → lists ≡ call_lists (design_of d) → length lists ≡ length (modules_of d)
count_lists d lists same = ap length same ∙ lists_length (design_of d) ∙ length-map (modules_of d) numbered_module
