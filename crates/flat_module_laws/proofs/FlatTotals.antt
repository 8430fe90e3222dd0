-- The prices of the nets of a flat module together are at most those of its operations by their types.
use Rattle.std.proofs.Common.{◌≡◌, refl, ap, subst, ◌∙◌, ℕ, suc, ◌+◌, ◌≤◌, Bool, true, false, cond, List, [], ◌∷◌, ◌++◌, map, flat_map, length, take, slice_get, Option, Some, None, arith, le_refl, option_map}
use Rattle.wiring.specs.Lists.{total}
use Rattle.bits_core.specs.Word.{Word}
use Rattle.hw_model.specs.Types.{Name, HwType, width}
use Rattle.hw_model.specs.Kinds.{Kind}
use Rattle.hw_model.specs.Design.{Ref, Port, OpResult, Op, Module, Design, result_type}
use Rattle.hw_model.specs.Design.Ref.{port, result}
use Rattle.hw_model.specs.Flat.{Net, net, Source, input_width, input_of, held_of, made_of, body_state, state, source}
use Rattle.hw_model.specs.Flat.Source.{nowhere, input}
use Rattle.hw_model.specs.Meaning.{Settled}
use Rattle.operation_gates.specs.Prices.{price}
use Rattle.net_gates.specs.NetPrices.{source_price, nets_price}
use Rattle.graphs.specs.Orders.{numbers_from}
use Rattle.flat_module_laws.specs.Sides.{port_nets, result_number, result_nets, flat_nets, IsFlat}
use Rattle.flat_module_laws.specs.FlatPrices.{operand_widths, results_price, op_price, module_price}
use Rattle.flat_module_laws.proofs.Positions.{same_total, total_at}
use Rattle.flat_module_laws.proofs.FlatBodies.{operand_there}
use Rattle.flat_module_laws.proofs.FlatWords.{words_width}
use Rattle.flat_module_laws.proofs.FlatSources.{port_from, ResultFrom, result_is}
use Rattle.flat_module_laws.proofs.FlatSources.ResultFrom.{from_register, from_output, from_operands}

module _ (d : Design) (top : Name) (word_at : Net → Word) where
  price_joined : (ns ms : List Net) → nets_price d top word_at (ns ++ ms) ≡ nets_price d top word_at ns + nets_price d top word_at ms
  price_joined [] ms = omega arith
  price_joined (n ∷ ns) ms = let rest = price_joined ns ms in omega (arith, rest)

  -- nets that cost nothing
  none_paid : (f : ℕ → Ref) (js : List ℕ) → ((j : ℕ) → source_price word_at (source d top (net [] (f j))) ≡ 0) → nets_price d top word_at (map (λ j. net [] (f j)) js) ≡ 0
  none_paid f [] free = refl
  none_paid f (j ∷ js) free = let here = free j in let rest = none_paid f js free in omega (arith, here, rest)

  -- nets of results, each of which is paid by its type
  results_paid : (f : ℕ → Ref) (kind : Kind) (ns : List ℕ) (rs : List OpResult) (start : ℕ)
      → ((k : ℕ) (r : OpResult) → slice_get rs k ≡ Some r → source_price word_at (source d top (net [] (f (start + k)))) ≤ price kind (width r.type) ns)
      → nets_price d top word_at (map (λ k. net [] (f k)) (numbers_from start (length rs))) ≤ results_price kind ns rs
  results_paid f kind ns [] start paid = le_refl 0
  results_paid f kind ns (r ∷ rs) start paid =
      let at : start + 0 ≡ start = omega arith in
      let here : source_price word_at (source d top (net [] (f start))) ≤ price kind (width r.type) ns =
      subst (λ i. source_price word_at (source d top (net [] (f i))) ≤ price kind (width r.type) ns) at (paid 0 r refl) in
      let rest = results_paid f kind ns rs (suc start)
      (λ k y there. let next : start + suc k ≡ suc start + k = omega arith in
      subst (λ i. source_price word_at (source d top (net [] (f i))) ≤ price kind (width y.type) ns) next (paid (suc k) y there)) in
      omega (arith, here, rest)

free_input : (word_at : Net → Word) (y : Option Port) (start : ℕ) → source_price word_at (input_of y start) ≡ 0
free_input word_at None start = refl
free_input word_at (Some p) start = go p.is_output
  where
    go : (b : Bool) → source_price word_at (cond b nowhere (input start (width p.type))) ≡ 0
    go true = refl
    go false = refl

free_held : (word_at : Net → Word) (start : ℕ) (y : Option HwType) → source_price word_at (held_of start y) ≡ 0
free_held word_at start None = refl
free_held word_at start (Some t) = refl

module _ (d : Design) (top : Name) (m : Module) (order : List ℕ) (flat : IsFlat d top m order)
    (x q : Word) (ρ : Net → Word) (settled : Settled d top x q ρ) where
  module _ (i : ℕ) (o : Op) (at : slice_get m.body i ≡ Some o) where
    result_paid : (k : ℕ) (r : OpResult) → slice_get o.results k ≡ Some r
        → source_price ρ (source d top (net [] (result i k))) ≤ price o.kind (width r.type) (operand_widths m.ports m.body o.operands)
    result_paid k r there = go (result_is d top m order flat i o at k)
      where
        free : (s : Source) → source d top (net [] (result i k)) ≡ s → source_price ρ s ≡ 0
            → source_price ρ (source d top (net [] (result i k))) ≤ price o.kind (width r.type) (operand_widths m.ports m.body o.operands)
        free s from none = let paid : source_price ρ (source d top (net [] (result i k))) ≡ 0 = ap (source_price ρ) from ∙ none in omega (arith, paid)

        typed : result_type o k ≡ Some r.type
        typed = ap (λ (y : Option OpResult). option_map (λ (z : OpResult). z.type) y) there

        go : ResultFrom d top m order flat i o at k
            → source_price ρ (source d top (net [] (result i k))) ≤ price o.kind (width r.type) (operand_widths m.ports m.body o.operands)
        go (from_register f is from) = free _ from (free_held ρ (0 + body_state (state d) (take i m.body)) (result_type o k))
        go (from_output u from) = free _ from refl
        go (from_operands n u v from) =
            let paid : source_price ρ (source d top (net [] (result i k))) ≡ price o.kind (width r.type) (operand_widths m.ports m.body o.operands) =
            ap (source_price ρ) (from ∙ ap (made_of [] o k) typed)
            ∙ ap (price o.kind (width r.type)) (words_width d top m order flat x q ρ settled o.operands (operand_there d top m order flat i o at)) in
            omega (arith, paid)

  -- the price of what stands at a position
  abbrev price_of : Option Op → ℕ
  price_of None = 0
  price_of (Some o) = op_price m.ports m.body o

  operation_paid : (i : ℕ) → nets_price d top ρ (result_nets m.body i) ≤ price_of (slice_get m.body i)
  operation_paid i = go (slice_get m.body i) refl
    where
      go : (y : Option Op) → slice_get m.body i ≡ y → nets_price d top ρ (map (λ k. net [] (result i k)) (numbers_from 0 (result_number y))) ≤ price_of y
      go None at = le_refl 0
      go (Some o) at =
          results_paid d top ρ (result i) o.kind (operand_widths m.ports m.body o.operands) o.results 0
          (λ k r there. let same : k ≡ 0 + k = omega arith in
          subst (λ j. source_price ρ (source d top (net [] (result i j))) ≤ price o.kind (width r.type) (operand_widths m.ports m.body o.operands)) same (result_paid i o at k r there))

  operations_paid : (is : List ℕ) → nets_price d top ρ (flat_map (result_nets m.body) is) ≤ total (map (λ i. price_of (slice_get m.body i)) is)
  operations_paid [] = le_refl 0
  operations_paid (i ∷ is) =
      let joined = price_joined d top ρ (result_nets m.body i) (flat_map (result_nets m.body) is) in
      let here = operation_paid i in
      let rest = operations_paid is in
      omega (arith, joined, here, rest)

  each_once : total (map (λ i. price_of (slice_get m.body i)) order) ≡ module_price m
  each_once =
      same_total (λ i. price_of (slice_get m.body i)) (numbers_from 0 (length m.body)) order flat.stands.all
      ∙ total_at (λ i. price_of (slice_get m.body i)) (op_price m.ports m.body) m.body 0
      (λ i o at. let same : 0 + i ≡ i = omega arith in ap (λ j. price_of (slice_get m.body j)) same ∙ ap price_of at)

  pub flat_paid : nets_price d top ρ (flat_nets m.ports m.body order) ≤ module_price m
  flat_paid =
      let joined = price_joined d top ρ (port_nets m.ports) (flat_map (result_nets m.body) order) in
      let ports : nets_price d top ρ (port_nets m.ports) ≡ 0 = none_paid d top ρ port (numbers_from 0 (length m.ports))
      (λ j. ap (source_price ρ) (port_from d top m order flat j) ∙ free_input ρ (slice_get m.ports j) (input_width (take j m.ports))) in
      let operations = operations_paid order in
      omega (arith, joined, ports, operations, each_once)
