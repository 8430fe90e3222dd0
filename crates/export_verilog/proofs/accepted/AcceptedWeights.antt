-- Each thing of a module that has a name weighs something: the limit on weights is one on names.
use Rattle.std.proofs.Common.{◌≡◌, ℕ, suc, ◌+◌, ◌*◌, ◌≤◌, ◌<◌, ◌^◌, Bool, true, false, cond, List, [], ◌∷◌, map, length, slice_get, Some, refl, sym, ap, ◌∙◌, subst, arith}
use Rattle.std.specs.Prelude.{nat_lt, is_some}
use Rattle.std.specs.List.{list_any}
use Rattle.std.proofs.lemmas.Bool.{ltb-true, ltb-false}
use Rattle.std.proofs.lemmas.List.{length-append}
use Rattle.hw_model.specs.Types.{Name, HwType, leaves}
use Rattle.hw_model.specs.Types.HwType.{int, clock, array, struct}
use Rattle.hw_model.specs.Kinds.{Kind}
use Rattle.hw_model.specs.Kinds.RegisterOp.{firreg}
use Rattle.hw_model.specs.Kinds.Reset.{sync_reset}
use Rattle.hw_model.specs.Kinds.Kind.{mux, aggregate_constant, on_array, on_struct, wire, instance, register, async_firreg}
use Rattle.hw_model.specs.Design.{Port, Op, Module, Design, instance_in, is_instance, is_register, is_output_op}
use Rattle.hw_model.specs.Design.Ref.{result}
use Rattle.hw_model.specs.Weight.{leaf_count, reset_weight, register_weight, kind_weight, body_weight, weight_of, module_weight, weight}
use Rattle.type_inference.specs.ResultTypes.{result_count}
use Rattle.op_checks.specs.CountChecks.{type_count}
use Rattle.op_verifier.specs.Verdict.{IsAccepted}
use Rattle.op_verifier.proofs.NoCauseAlone.{NoCauseAlone, result_number}
use Rattle.op_checks.proofs.Widths.{neither}
use Rattle.verilog_expr.specs.Spilling.{is_wire_kind, spilled}
use Rattle.verilog_expr.specs.Values.{is_aggregate_kind}
use Rattle.export_verilog.specs.Identifiers.{Identifier, each, identifiers_of, op_identifiers, port_identifiers, module_identifiers}
use Rattle.export_verilog.specs.Identifiers.Emission.{inline, as_wire, as_reg, as_instance}
use Rattle.export_verilog.specs.Aggregates.{is_aggregate, HasNoAggregates}
use Rattle.export_verilog.proofs.accepted.AcceptedOps.{found, op_tested}
use Rattle.export_verilog.proofs.accepted.NoAggregates.{IsPlain, ports_plain, op_plain}
use Rattle.export_verilog.proofs.names.GivenNames.{identifier_count}
use Rattle.hw_model.proofs.Weights.{register_weighs}

-- ---- leaves

one_leaf : (t : HwType) → is_aggregate t ≡ false → length (leaves t) ≡ 1
one_leaf (int w) h = refl
one_leaf clock h = refl
one_leaf (array n t) h = cc
one_leaf (struct fs) h = cc

leaves_of_all : (ts : List HwType) → list_any is_aggregate ts ≡ false → leaf_count ts ≡ length ts
leaves_of_all [] h = refl
leaves_of_all (t ∷ ts) h =
    let a = neither (is_aggregate t) (list_any is_aggregate ts) h in
    let p : length (leaves t) ≡ 1 = one_leaf t a.0 in
    let q : leaf_count ts ≡ length ts = leaves_of_all ts a.1 in
    omega (arith, p, q)

port_leaves : (i : ℕ) (ps : List Port) → list_any (λ (p : Port). is_aggregate p.type) ps ≡ false
    → length (each port_identifiers i ps) ≡ leaf_count (map (λ (p : Port). p.type) ps)
port_leaves i [] h = refl
port_leaves i (p ∷ ps) h =
    let a = neither (is_aggregate p.type) (list_any (λ (p : Port). is_aggregate p.type) ps) h in
    let one : length (leaves p.type) ≡ 1 = one_leaf p.type a.0 in
    let rest : length (each port_identifiers (suc i) ps) ≡ leaf_count (map (λ (p : Port). p.type) ps) = port_leaves (suc i) ps a.1 in
    omega (arith, one, rest)

-- ---- operations

-- the weight of some leaves, so many times each
some_times : (c k : ℕ) → 1 ≤ c → k ≡ 1 → 1 ≤ c * k
some_times c k some is = rw is (omega (arith, some))

module _ (inner : Name → ℕ) where
  weighs : (kind : Kind) (ts : List HwType) (n : ℕ) → is_aggregate_kind kind ≡ false → list_any is_aggregate ts ≡ false → length ts ≡ type_count kind n
      → 1 ≤ kind_weight inner kind ts n
  unfolding type_count
  weighs mux ts n kind plain types = some_times 4 (leaf_count ts) (omega arith) (leaves_of_all ts plain ∙ types)
  weighs (aggregate_constant ls) ts n kind plain types = cc
  weighs (on_array a) ts n kind plain types = cc
  weighs (on_struct s) ts n kind plain types = cc
  weighs wire ts n kind plain types = some_times 2 (leaf_count ts) (omega arith) (leaves_of_all ts plain ∙ types)
  weighs (register f r) ts n kind plain types =
      some_times (register_weight f + reset_weight r) (leaf_count ts) (let some = register_weighs f in omega (arith, some)) (leaves_of_all ts plain ∙ types)
  weighs async_firreg ts n kind plain types = some_times (register_weight firreg + reset_weight sync_reset) (leaf_count ts) (omega arith) (leaves_of_all ts plain ∙ types)
  weighs _ ts n kind plain types = omega arith

  -- an instance weighs more than its results are
  instance_weighs : (kind : Kind) (ts : List HwType) (n count : ℕ) → is_some (instance_in kind) ≡ true → list_any is_aggregate ts ≡ false → count ≡ result_count kind ts
      → 1 + count ≤ kind_weight inner kind ts n
  unfolding result_count
  instance_weighs (instance i) ts n count is plain results =
      let p = leaves_of_all ts plain in omega (arith, p, results)
  instance_weighs kind ts n count is plain results = cc

-- what is no instance has at most one name
one_identifier : (a b c e f : Bool) (i : ℕ) (o : Op) → b ≡ false → length (identifiers_of (cond a as_reg (cond b as_instance (cond c inline (cond e as_wire (cond f as_wire inline))))) i o) ≤ 1
one_identifier true b c e f i o h = omega arith
one_identifier false true c e f i o h = cc
one_identifier false false true e f i o h = omega arith
one_identifier false false false true f i o h = omega arith
one_identifier false false false false true i o h = omega arith
one_identifier false false false false false i o h = omega arith

-- nothing has more than one beside its results
some_identifiers : (a c e f : Bool) (i : ℕ) (o : Op) → length (identifiers_of (cond a as_reg (cond true as_instance (cond c inline (cond e as_wire (cond f as_wire inline))))) i o) ≤ 1 + length o.results
some_identifiers true c e f i o = omega arith
some_identifiers false c e f i o = let p = identifier_count i 0 o.results in omega (arith, p)

identifiers_weigh : (inner : Name → ℕ) (ports : List Port) (os : List Op) (i : ℕ) (o : Op) → NoCauseAlone ports os o → IsPlain o
    → length (op_identifiers ports os i o) ≤ kind_weight inner o.kind o.types (length o.operands)
identifiers_weigh inner ports os i o tests plain = go (is_instance o) refl
  where
    w : ℕ
    w = kind_weight inner o.kind o.types (length o.operands)

    go : (b : Bool) → is_instance o ≡ b → length (op_identifiers ports os i o) ≤ w
    go true e =
        let p = some_identifiers (is_register o) (is_output_op o) (is_wire_kind o.kind) (spilled ports os (result i 0)) i o in
        let q : length (op_identifiers ports os i o) ≤ 1 + length o.results =
        subst (λ (b : Bool). length (identifiers_of (cond (is_register o) as_reg (cond b as_instance
        (cond (is_output_op o) inline (cond (is_wire_kind o.kind) as_wire (cond (spilled ports os (result i 0)) as_wire inline))))) i o) ≤ 1 + length o.results) (sym e) p in
        let r = instance_weighs inner o.kind o.types (length o.operands) (length o.results) e plain.types (result_number ports os o tests) in
        omega (arith, q, r)
    go false e =
        let q = one_identifier (is_register o) (is_instance o) (is_output_op o) (is_wire_kind o.kind) (spilled ports os (result i 0)) i o e in
        let r = weighs inner o.kind o.types (length o.operands) plain.kind plain.types tests.types in
        omega (arith, q, r)

body_identifiers : (inner : Name → ℕ) (f : ℕ → Op → List Identifier) (i : ℕ) (os : List Op)
    → ((j : ℕ) (o : Op) → slice_get os j ≡ Some o → (i : ℕ) → length (f i o) ≤ kind_weight inner o.kind o.types (length o.operands))
    → length (each f i os) ≤ body_weight inner os
body_identifiers inner f i [] all = omega arith
body_identifiers inner f i (o ∷ os) all =
    let p = all 0 o refl i in
    let q = body_identifiers inner f (suc i) os (λ j x there. all (suc j) x there) in
    let r : length (each f i (o ∷ os)) ≡ length (f i o) + length (each f (suc i) os) = length-append (f i o) (each f (suc i) os) in
    omega (arith, p, q, r)

-- ---- modules

module _ (d : Design) (fine : IsAccepted d) (none : HasNoAggregates d) (n : ℕ) (m : Module) (there : slice_get d n ≡ Some m) where
  light : weight d m.symbol ≤ 2 ^ 28
  light = go (nat_lt (2 ^ 28) (weight d m.symbol)) refl
    where
      go : (b : Bool) → nat_lt (2 ^ 28) (weight d m.symbol) ≡ b → weight d m.symbol ≤ 2 ^ 28
      go true e = absurd (fine.light n m there (ltb-true (2 ^ 28) (weight d m.symbol) e))
      go false e = ltb-false (2 ^ 28) (weight d m.symbol) e

  identifiers_within : (inner : Name → ℕ) → length (module_identifiers m) ≤ weight_of inner (Some m)
  identifiers_within inner =
      let ports = port_leaves 0 m.ports (ports_plain d fine none n m there) in
      let ops = body_identifiers inner (op_identifiers m.ports m.body) 0 m.body
      (λ j o at i. identifiers_weigh inner m.ports m.body i o (op_tested d fine n m there j o at) (op_plain d fine none n m there j o at)) in
      let all = length-append (each port_identifiers 0 m.ports) (each (op_identifiers m.ports m.body) 0 m.body) in
      omega (arith, ports, ops, all)

  -- a module has few names
  pub few_names : length (module_identifiers m) + 130 < 2 ^ 64
  few_names =
      let inner = module_weight (length d) d in
      let same : weight d m.symbol ≡ weight_of inner (Some m) = ap (weight_of inner) (found d fine n m there) in
      let p = light in
      let q = identifiers_within inner in
      omega (arith, p, q, same)
