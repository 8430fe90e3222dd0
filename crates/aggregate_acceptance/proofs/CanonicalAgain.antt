-- An accepted design that can be printed is in canonical form: each operation and each port weighs something, so the limit on
-- weights is one on their numbers.
use Rattle.std.proofs.Common.{◌≡◌, ℕ, zero, suc, ◌+◌, ◌≤◌, ◌<◌, ◌^◌, Bool, true, false, List, [], ◌∷◌, map, drop, length, slice_get, Option, Some, refl, ap, sym, subst, ◌∙◌, arith}
use Rattle.std.specs.Prelude.{nat_lt}
use Rattle.std.specs.List.{list_any}
use Rattle.std.proofs.lemmas.Bool.{ltb-false}
use Rattle.std.proofs.lemmas.List.{length-map, length-drop}
use Rattle.hw_model.specs.Types.{Name, HwType}
use Rattle.hw_model.specs.Kinds.{Kind}
use Rattle.hw_model.specs.Kinds.StructOp.{struct_explode}
use Rattle.hw_model.specs.Kinds.Kind.{on_struct, instance, output}
use Rattle.hw_model.specs.Design.{Port, Op, Module, Design}
use Rattle.hw_model.specs.Weight.{leaf_count, kind_weight, body_weight, weight_of, module_weight, weight}
use Rattle.type_inference.specs.ResultTypes.{result_types}
use Rattle.mlir_syntax.specs.Numerals.{count_limit}
use Rattle.op_checks.specs.TypeChecks.{is_outside}
use Rattle.op_checks.specs.OperandChecks.{has_other_form, has_other_operand}
use Rattle.op_checks.specs.CountChecks.{type_count, has_miscounted_parts}
use Rattle.op_verifier.specs.Verdict.{IsAccepted}
use Rattle.op_verifier.proofs.AcceptedDesigns.{no_fault}
use Rattle.op_verifier.proofs.NoCauseAlone.{no_cause_alone}
use Rattle.op_verifier.proofs.Unrefused.{no_op_cause, ops_unrefused, no_header_cause, module_unrefused}
use Rattle.stored_form.specs.Bytes.{Each}
use Rattle.stored_form.specs.ResultTypes.{HaveTypes}
use Rattle.stored_form.specs.Canonical.{IsCanonicalOp, IsCanonicalPort, IsCanonicalModule, IsCanonical}
use Rattle.printing_laws.specs.NameHints.{is_pack, name_hints_of}
use Rattle.printing_laws.specs.Printable.{settled_result, IsPrintableOp, IsPrintablePort, IsPrintableModule, Printable}
use Rattle.acceptance_laws.proofs.Accepted.{each_at, each_from}
use Rattle.acceptance_laws.proofs.NameCounts.{leaves_all, names_weigh, ports_weigh, found_here, light}

-- ---- results

have_types : (ts : List (Option HwType)) → HaveTypes (map settled_result ts) ts
have_types [] = tt
have_types (t ∷ ts) = (refl, have_types ts)

-- an operation has fewer results than the limit on counts
few_results : (inner : Name → ℕ) (kind : Kind) (ts : List HwType) (n : ℕ) → kind_weight inner kind ts n ≤ 2 ^ 28 → list_any is_outside ts ≡ false
    → (is_pack kind (length (result_types kind ts n)) ≡ true → length (result_types kind ts n) < count_limit) → length (result_types kind ts n) < count_limit
unfolding result_types
few_results inner (on_struct struct_explode) ts n small inside few = go (nat_lt 1 (length (result_types (on_struct struct_explode) ts n))) refl
  where
    go : (b : Bool) → nat_lt 1 (length (result_types (on_struct struct_explode) ts n)) ≡ b → length (result_types (on_struct struct_explode) ts n) < count_limit
    go true is = few is
    go false is = let one = ltb-false 1 (length (result_types (on_struct struct_explode) ts n)) is in omega (arith, one)
few_results inner (instance i) ts n small inside few =
    let all : length ts ≤ leaf_count ts = leaves_all ts inside in
    let mapped : length (map (λ (t : HwType). Some t) (drop (length i.inputs) ts)) ≡ length (drop (length i.inputs) ts) = length-map (drop (length i.inputs) ts) (λ (t : HwType). Some t) in
    let dropped = length-drop (length i.inputs) ts in
    omega (arith, all, mapped, dropped, small)
few_results inner output ts n small inside few = omega arith
few_results inner kind ts n small inside few = omega arith

-- ---- operations

module _ (inner : Name → ℕ) where
  op_weighs : (kind : Kind) (ts : List HwType) (n : ℕ) (xs : List (Option HwType)) → list_any is_outside ts ≡ false → length ts ≡ type_count kind n
      → has_other_form kind ts ≡ false → has_other_operand kind ts xs ≡ false → has_miscounted_parts kind ts ≡ false → 1 ≤ kind_weight inner kind ts n
  unfolding name_hints_of
  op_weighs (on_struct struct_explode) ts n xs inside types form operand counted = omega arith
  op_weighs (instance i) ts n xs inside types form operand counted = omega arith
  op_weighs output ts n xs inside types form operand counted = omega arith
  op_weighs kind ts n xs inside types form operand counted =
      let names = names_weigh inner kind ts [] n 0 xs inside types form operand counted in omega (arith, names)

  -- each of the operations of a body weighs something, and none more than the body
  body_weighs : (os : List Op) → ((j : ℕ) (o : Op) → slice_get os j ≡ Some o → 1 ≤ kind_weight inner o.kind o.types (length o.operands)) → length os ≤ body_weight inner os
  body_weighs [] all = omega arith
  body_weighs (o ∷ os) all =
      let first = all 0 o refl in
      let rest = body_weighs os (λ j p is. all (suc j) p is) in
      omega (arith, first, rest)

  op_within : (os : List Op) (j : ℕ) (o : Op) → slice_get os j ≡ Some o → kind_weight inner o.kind o.types (length o.operands) ≤ body_weight inner os
  op_within [] j o at = cc
  op_within (p ∷ os) zero o at = subst (λ (q : Op). kind_weight inner q.kind q.types (length q.operands) ≤ body_weight inner (p ∷ os)) (some_same p o at) (omega arith)
    where
      some_same : (a b : Op) → Some a ≡ Some b → a ≡ b
      some_same a b e = cc
  op_within (p ∷ os) (suc j) o at = let rest = op_within os j o at in omega (arith, rest)

canonical_op : (ports : List Port) (body : List Op) (o : Op) (inner : Name → ℕ) → kind_weight inner o.kind o.types (length o.operands) ≤ 2 ^ 28
    → list_any is_outside o.types ≡ false → IsPrintableOp ports body o → IsCanonicalOp o
canonical_op ports body o inner small inside p =
    let count : length o.results ≡ length (result_types o.kind o.types (length o.operands)) =
    ap length p.results ∙ length-map (result_types o.kind o.types (length o.operands)) settled_result in
    let few = few_results inner o.kind o.types (length o.operands) small inside
    (λ pack. subst (λ k. k < count_limit) count (p.few (subst (λ k. is_pack o.kind k ≡ true) (sym count) pack))) in
    let named = p.named in
    record {
      types = subst (λ rs. HaveTypes rs (result_types o.kind o.types (length o.operands))) (sym p.results) (have_types (result_types o.kind o.types (length o.operands)));
      readable = p.readable;
      kept = p.kept;
      written = p.written;
      nameless = p.nameless;
      name = p.name;
      dictionary = p.dictionary;
      bin = p.bin;
      named = omega (arith, named, count, few);
    }

-- ---- modules

canonical_ports : (ps : List Port) → Each IsPrintablePort ps → Each IsCanonicalPort ps
canonical_ports [] h = tt
canonical_ports (p ∷ ps) h = (record { name = h.0.name; type = h.0.type }, canonical_ports ps h.1)

module _ (e : Design) (accepted : IsAccepted e) (i : ℕ) (m : Module) (there : slice_get e i ≡ Some m) where
  abbrev inner : Name → ℕ
  inner = module_weight (length e) e

  whole : leaf_count (map (λ (p : Port). p.type) m.ports) + body_weight inner m.body ≤ 2 ^ 28
  whole =
      let same : weight e m.symbol ≡ weight_of inner (Some m) = ap (weight_of inner) (found_here e accepted i m there) in
      let small = light e accepted i m there in
      omega (arith, same, small)

  canonical_module : IsPrintableModule m → IsCanonicalModule m
  canonical_module p =
      let header = module_unrefused e (no_fault e accepted) m.symbol m (found_here e accepted i m there) in
      let alone = λ (j : ℕ) (o : Op) (at : slice_get m.body j ≡ Some o).
      (let is = ops_unrefused e m.ports m.body m.body header.body j o at in no_cause_alone m.ports m.body o (no_op_cause e m.ports m.body is.last o is.none).alone) in
      let ports = ports_weigh m.ports (no_header_cause e header.number m header.header).types in
      let ops = body_weighs inner m.body (λ j o at. let none = alone j o at in op_weighs inner o.kind o.types (length o.operands) _ none.written none.types none.form none.operand none.parts) in
      let all = whole in
      record {
        symbol = p.symbol;
        ports = canonical_ports m.ports p.ports;
        dictionary = p.dictionary;
        operations = each_from IsCanonicalOp m.body (λ j o at.
            let within = op_within inner m.body j o at in
            canonical_op m.ports m.body o inner (omega (arith, within, all)) (alone j o at).written (each_at (IsPrintableOp m.ports m.body) m.body j o p.operations at));
        few_ports = omega (arith, ports, all);
        few_operations = omega (arith, ops, all);
      }

pub canonical_again : (e : Design) → IsAccepted e → Printable e → IsCanonical e
canonical_again e accepted printable =
    each_from IsCanonicalModule e (λ i m there. canonical_module e accepted i m there (each_at IsPrintableModule e i m printable there))
