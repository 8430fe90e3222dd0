-- Each name that a module's values take weighs something: the limit on weights is one on names.
use Rattle.std.proofs.Common.{◌≡◌, ℕ, zero, suc, ◌+◌, ◌*◌, ◌≤◌, ◌<◌, ◌^◌, Bool, true, false, cond, not, ◌||◌, ◌==◌, List, [], ◌∷◌, ◌++◌, map, length, slice_get, Option, Some, refl, ap, ◌∙◌, arith}
use Rattle.std.specs.Prelude.{nat_lt, nat_eq}
use Rattle.std.specs.List.{list_any}
use Rattle.std.proofs.lemmas.Bool.{eqb-true, ltb-true, ltb-false, not-false}
use Rattle.std.proofs.lemmas.List.{length-append}
use Rattle.hw_model.specs.Types.{Name, HwType, leaves, leaves_of_fields, list_copies}
use Rattle.hw_model.specs.Types.HwType.{int, clock, array, struct}
use Rattle.hw_model.specs.Types.FieldTypes.{no_fields, field}
use Rattle.hw_model.specs.Kinds.{Kind, Literal, Literals}
use Rattle.hw_model.specs.Kinds.Literal.{leaf, parts}
use Rattle.hw_model.specs.Kinds.Literals.{no_literals, literal}
use Rattle.hw_model.specs.Kinds.Reset.{sync_reset}
use Rattle.hw_model.specs.Kinds.RegisterOp.{firreg}
use Rattle.hw_model.specs.Kinds.ArrayOp.{array_get, array_slice, array_inject}
use Rattle.hw_model.specs.Kinds.StructOp.{struct_explode}
use Rattle.hw_model.specs.Kinds.Kind.{mux, aggregate_constant, on_array, on_struct, wire, instance, register, async_firreg}
use Rattle.hw_model.specs.Design.{Port, Op, Module, Design, find_module}
use Rattle.hw_model.specs.Sound.{field_list}
use Rattle.hw_model.specs.Value.{nth_type}
use Rattle.hw_model.specs.Weight.{leaf_count, literal_leaves, literals_leaves, element_count, reset_weight, register_weight, kind_weight, body_weight, weight_of, module_weight, weight}
use Rattle.type_inference.specs.ResultTypes.{first_type}
use Rattle.op_checks.specs.TypeChecks.{has_bad_part, has_bad_part_among, is_outside}
use Rattle.op_checks.specs.TypeLists.{is_no_array, is_no_int}
use Rattle.op_checks.specs.LiteralChecks.{is_miscounted, literal_count, literal_differs, any_miscounted, are_miscounted, any_literal_differs, literals_differ}
use Rattle.op_checks.specs.OperandChecks.{is_no_array_of, has_other_array, has_other_form, has_other_operand, parts_differ}
use Rattle.op_checks.specs.CountChecks.{type_count, parts_miscounted, has_miscounted_parts}
use Rattle.op_verifier.specs.Headers.{has_port}
use Rattle.op_verifier.specs.Verdict.{IsAccepted}
use Rattle.op_verifier.proofs.AcceptedDesigns.{no_fault}
use Rattle.op_verifier.proofs.Distinct.{distinct_symbols}
use Rattle.op_verifier.proofs.NoCauseAlone.{no_cause_alone}
use Rattle.op_verifier.proofs.Unrefused.{no_op_cause, ops_unrefused, no_header_cause, module_unrefused}
use Rattle.op_checks.proofs.Widths.{neither}
use Rattle.design_cycles.proofs.Callees.{found_at}
use Rattle.printing_laws.specs.NameHints.{instance_name_hints, pack_name_hints, name_hints_of, name_hints, body_name_hints, port_name_hints}
use Rattle.printing_laws.specs.Parts.{parts_in}
use Rattle.printing_laws.specs.Printable.{IsPrintableModule, Printable}
use Rattle.acceptance_laws.specs.Keeps.{IsPrintableBody, IsFit}
use Rattle.acceptance_laws.proofs.Accepted.{each_at, each_from, light_is_accepted}
use Rattle.printing_laws.proofs.VerifiedDesigns.{port_names}
use Rattle.printing_laws.proofs.NameCounts.{instance_length}
use Rattle.hw_model.proofs.Weights.{register_weighs}

-- ---- types have leaves

copies_some : {A : Type 0} (n : ℕ) (xs : List A) → (n == 0) ≡ false → 1 ≤ length xs → 1 ≤ length (list_copies n xs)
copies_some zero xs h some = cc
copies_some (suc n) xs h some = let all : length (xs ++ list_copies n xs) ≡ length xs + length (list_copies n xs) = length-append xs (list_copies n xs) in omega arith

some_leaf : (t : HwType) → has_bad_part t ≡ false → 1 ≤ length (leaves t)
some_leaf (int w) h = omega arith
some_leaf clock h = omega arith
some_leaf (array n t) h = let a = neither (n == 0) (has_bad_part t) h in copies_some n (leaves t) a.0 (some_leaf t a.1)
some_leaf (struct no_fields) h = cc
some_leaf (struct (field name t fs)) h =
    let a = neither (has_bad_part t) (has_bad_part_among fs) h in
    let some : 1 ≤ length (leaves t) = some_leaf t a.0 in
    let all : length (leaves t ++ leaves_of_fields fs) ≡ length (leaves t) + length (leaves_of_fields fs) = length-append (leaves t) (leaves_of_fields fs) in
    omega arith

inside_parts : (t : HwType) → is_outside t ≡ false → has_bad_part t ≡ false
unfolding is_outside
inside_parts t h = (neither (has_bad_part t) _ h).0

pub leaves_all : (ts : List HwType) → list_any is_outside ts ≡ false → length ts ≤ leaf_count ts
leaves_all [] h = omega arith
leaves_all (t ∷ ts) h =
    let a = neither (is_outside t) (list_any is_outside ts) h in
    let some : 1 ≤ length (leaves t) = some_leaf t (inside_parts t a.0) in
    let rest : length ts ≤ leaf_count ts = leaves_all ts a.1 in
    omega arith

-- ---- constants have leaves

some_literal : (l : Literal) (t : HwType) → is_miscounted l t ≡ false → literal_differs l t ≡ false → has_bad_part t ≡ false → 1 ≤ literal_leaves l
some_literal (leaf z u) t m d h = omega arith
some_literal (parts ls) (int w) m d h = cc
some_literal (parts ls) clock m d h = cc
some_literal (parts no_literals) (array n t) m d h =
    let count : 0 ≡ n = eqb-true 0 n (not-false (nat_eq 0 n) (neither (not (nat_eq 0 n)) _ m).0) in
    let bad : (n == 0) ≡ false = (neither (n == 0) (has_bad_part t) h).0 in
    let clash : true ≡ false = ap (λ k. k == 0) count ∙ bad in cc
some_literal (parts (literal l ls)) (array n t) m d h =
    let a = neither (not (nat_eq (suc (literal_count ls)) n)) (is_miscounted l t || any_miscounted ls t) m in
    let b = neither (is_miscounted l t) (any_miscounted ls t) a.1 in
    let c = neither (literal_differs l t) (any_literal_differs ls t) d in
    let some : 1 ≤ literal_leaves l = some_literal l t b.0 c.0 (neither (n == 0) (has_bad_part t) h).1 in
    omega arith
some_literal (parts ls) (struct no_fields) m d h = cc
some_literal (parts no_literals) (struct (field name t fs)) m d h =
    let count : 0 ≡ length (field_list (field name t fs)) = eqb-true 0 (length (field_list (field name t fs)))
    (not-false (nat_eq 0 (length (field_list (field name t fs)))) (neither (not (nat_eq 0 (length (field_list (field name t fs))))) _ m).0) in
    absurd (omega arith)
some_literal (parts (literal l ls)) (struct (field name t fs)) m d h =
    let a = neither (not (nat_eq (suc (literal_count ls)) _)) (is_miscounted l t || are_miscounted ls fs) m in
    let b = neither (is_miscounted l t) (are_miscounted ls fs) a.1 in
    let c = neither (literal_differs l t) (literals_differ ls fs) d in
    let some : 1 ≤ literal_leaves l = some_literal l t b.0 c.0 (neither (has_bad_part t) (has_bad_part_among fs) h).0 in
    omega arith

constant_leaves : (ls : Literals) (ts : List HwType) → length ts ≡ 1 → list_any is_outside ts ≡ false → parts_miscounted ls (first_type ts) ≡ false
    → parts_differ ls (first_type ts) ≡ false → 1 ≤ literals_leaves ls
constant_leaves ls [] count h m d = absurd (omega arith)
constant_leaves ls (t ∷ ts) count h m d = some_literal (parts ls) t m d (inside_parts t (neither (is_outside t) (list_any is_outside ts) h).0)

-- ---- arrays have elements

some_elements : (ts : List HwType) → length ts ≡ 2 → list_any is_outside ts ≡ false → is_no_array (first_type ts) ≡ false → 1 ≤ element_count (nth_type ts 0)
some_elements [] count h a = absurd (omega arith)
some_elements (int w ∷ ts) count h a = cc
some_elements (clock ∷ ts) count h a = cc
some_elements (struct fs ∷ ts) count h a = cc
some_elements (array n t ∷ ts) count h a =
    let bad : (n == 0) ≡ false = (neither (n == 0) (has_bad_part t) (inside_parts (array n t) (neither (is_outside (array n t)) (list_any is_outside ts) h).0)).0 in
    go n bad
  where
    go : (k : ℕ) → (k == 0) ≡ false → 1 ≤ k
    go zero e = cc
    go (suc k) e = omega arith

first_is_array : (ts : List HwType) → length ts ≡ 2 → has_other_array ts ≡ false → is_no_array (first_type ts) ≡ false
first_is_array [] count h = absurd (omega arith)
first_is_array (t ∷ ts) count h = (neither (is_no_array (Some t)) _ (neither (is_no_array_of _ t) _ h).0).0

-- ---- operations

some_times : (c k : ℕ) → 1 ≤ c → 1 ≤ k → 1 ≤ c * k
some_times (suc c) (suc k) a b = omega arith
some_times zero k a b = absurd (omega arith)
some_times (suc c) zero a b = absurd (omega arith)

pack_names : (n : ℕ) → length (pack_name_hints n) ≤ 1
pack_names zero = omega arith
pack_names (suc n) = omega arith

module _ (inner : Name → ℕ) where
  pub names_weigh : (kind : Kind) (ts : List HwType) (own : Name) (n count : ℕ) (xs : List (Option HwType)) → list_any is_outside ts ≡ false → length ts ≡ type_count kind n
      → has_other_form kind ts ≡ false → has_other_operand kind ts xs ≡ false → has_miscounted_parts kind ts ≡ false
      → length (name_hints_of kind ts own count) ≤ kind_weight inner kind ts n
  unfolding name_hints_of type_count has_other_form has_other_operand has_miscounted_parts
  names_weigh mux ts own n count xs inside types form operand counted = let some : length ts ≤ leaf_count ts = leaves_all ts inside in omega arith
  names_weigh (aggregate_constant ls) ts own n count xs inside types form operand counted = constant_leaves ls ts types inside counted operand
  names_weigh (on_array array_get) ts own n count xs inside types form operand counted =
      let some : 1 ≤ element_count (nth_type ts 0) = some_elements ts types inside (neither (is_no_array (first_type ts)) (is_no_int _) form).0 in omega arith
  names_weigh (on_array array_slice) ts own n count xs inside types form operand counted =
      let some : 1 ≤ element_count (nth_type ts 0) = some_elements ts types inside (first_is_array ts types form) in omega arith
  names_weigh (on_array array_inject) ts own n count xs inside types form operand counted =
      let some : 1 ≤ element_count (nth_type ts 0) = some_elements ts types inside (neither (is_no_array (first_type ts)) (is_no_int _) form).0 in omega arith
  names_weigh (on_struct struct_explode) ts own n count xs inside types form operand counted = let few = pack_names count in omega arith
  names_weigh wire ts own n count xs inside types form operand counted = let some : length ts ≤ leaf_count ts = leaves_all ts inside in omega arith
  names_weigh (instance i) ts own n count xs inside types form operand counted =
      let some : length ts ≤ leaf_count ts = leaves_all ts inside in
      let names : length (instance_name_hints i.name i.outputs) ≡ length i.outputs = instance_length i.name i.outputs in
      omega arith
  names_weigh (register f r) ts own n count xs inside types form operand counted =
      let some : length ts ≤ leaf_count ts = leaves_all ts inside in
      let each : 1 ≤ register_weight f = register_weighs f in
      some_times (register_weight f + reset_weight r) (leaf_count ts) (omega arith) (omega arith)
  names_weigh async_firreg ts own n count xs inside types form operand counted =
      let some : length ts ≤ leaf_count ts = leaves_all ts inside in
      some_times (register_weight firreg + reset_weight sync_reset) (leaf_count ts) (omega arith) (omega arith)
  names_weigh _ ts own n count xs inside types form operand counted = omega arith

  body_names : (os : List Op) → ((j : ℕ) (o : Op) → slice_get os j ≡ Some o → length (name_hints (parts_in o)) ≤ kind_weight inner o.kind o.types (length o.operands))
      → length (body_name_hints (map parts_in os)) ≤ body_weight inner os
  body_names [] all = omega arith
  body_names (o ∷ os) all =
      let first : length (name_hints (parts_in o)) ≤ kind_weight inner o.kind o.types (length o.operands) = all 0 o refl in
      let rest : length (body_name_hints (map parts_in os)) ≤ body_weight inner os = body_names os (λ j p is. all (suc j) p is) in
      let both : length (name_hints (parts_in o) ++ body_name_hints (map parts_in os)) ≡ length (name_hints (parts_in o)) + length (body_name_hints (map parts_in os)) =
      length-append (name_hints (parts_in o)) (body_name_hints (map parts_in os)) in
      omega arith

-- each port weighs something
pub ports_weigh : (ps : List Port) → has_port (λ (q : Port). is_outside q.type) ps ≡ false → length ps ≤ leaf_count (map (λ (p : Port). p.type) ps)
ports_weigh [] h = omega arith
ports_weigh (p ∷ ps) h = go (is_outside p.type) refl h (ports_weigh ps)
  where
    go : (b : Bool) → is_outside p.type ≡ b → cond b true (has_port (λ (q : Port). is_outside q.type) ps) ≡ false
        → (has_port (λ (q : Port). is_outside q.type) ps ≡ false → length ps ≤ leaf_count (map (λ (q : Port). q.type) ps))
        → suc (length ps) ≤ length (leaves p.type) + leaf_count (map (λ (q : Port). q.type) ps)
    go true is h rest = cc
    go false is h rest =
        let some : 1 ≤ length (leaves p.type) = some_leaf p.type (inside_parts p.type is) in
        let more : length ps ≤ leaf_count (map (λ (q : Port). q.type) ps) = rest h in
        omega arith

-- ---- modules

module _ (e : Design) (accepted : IsAccepted e) (i : ℕ) (m : Module) (there : slice_get e i ≡ Some m) where
  pub found_here : find_module e m.symbol ≡ Some m
  found_here = (found_at e (distinct_symbols e (no_fault e accepted)) i m there).1

  pub light : weight e m.symbol ≤ 2 ^ 28
  light = go (nat_lt (2 ^ 28) (weight e m.symbol)) refl
    where
      go : (b : Bool) → nat_lt (2 ^ 28) (weight e m.symbol) ≡ b → weight e m.symbol ≤ 2 ^ 28
      go true is = absurd (accepted.light i m there (ltb-true (2 ^ 28) (weight e m.symbol) is))
      go false is = ltb-false (2 ^ 28) (weight e m.symbol) is

  op_names : (inner : Name → ℕ) (j : ℕ) (o : Op) → slice_get m.body j ≡ Some o → length (name_hints (parts_in o)) ≤ kind_weight inner o.kind o.types (length o.operands)
  op_names inner j o at =
      let body = (module_unrefused e (no_fault e accepted) m.symbol m found_here).body in
      let is = ops_unrefused e m.ports m.body m.body body j o at in
      let none = no_cause_alone m.ports m.body o (no_op_cause e m.ports m.body is.last o is.none).alone in
      names_weigh inner o.kind o.types o.name (length o.operands) (length o.results) _ none.written none.types none.form none.operand none.parts

  pub few_names : length (port_name_hints m.ports ++ body_name_hints (map parts_in m.body)) < 2 ^ 64
  few_names =
      let header = module_unrefused e (no_fault e accepted) m.symbol m found_here in
      let ports = ports_weigh m.ports (no_header_cause e header.number m header.header).types in
      let hints = port_names m.ports in
      let ops = body_names (module_weight (length e) e) m.body (op_names (module_weight (length e) e)) in
      let same : weight e m.symbol ≡ weight_of (module_weight (length e) e) (Some m) = ap (weight_of (module_weight (length e) e)) found_here in
      let both = length-append (port_name_hints m.ports) (body_name_hints (map parts_in m.body)) in
      let small = light in
      omega (arith, ports, hints, ops, same, both, small)

-- an accepted design that is fit can be printed
pub printable_again : (e : Design) → IsFit e → IsAccepted e → Printable e
printable_again e fit accepted =
    each_from IsPrintableModule e (λ i m there. printed m (each_at IsPrintableBody e i m fit.printable there) (few_names e accepted i m there))
  where
    printed : (m : Module) → IsPrintableBody m → length (port_name_hints m.ports ++ body_name_hints (map parts_in m.body)) < 2 ^ 64 → IsPrintableModule m
    printed m p few = record { symbol = p.symbol; ports = p.ports; dictionary = p.dictionary; operations = p.operations; ends = p.ends; few = few }

-- a fit design that is no heavier than an accepted one is accepted and can be printed
pub accepted_again : (e : Design) → IsFit e → (d : Design) → IsAccepted d → ((s : Name) → weight e s ≤ weight d s) → IsAccepted e × Printable e
accepted_again e fit d accepted lighter =
    let again = light_is_accepted e fit d accepted lighter in
    (again, printable_again e fit again)
