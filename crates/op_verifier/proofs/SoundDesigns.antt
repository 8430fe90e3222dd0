-- A design of which nothing is refused is sound.
use Rattle.std.proofs.Common.{◌≡◌, ℕ, zero, suc, Bool, true, false, cond, not, ◌&&◌, is_some, List, [], ◌∷◌, map, take, drop, length, slice_get, slice_index_or, Option, Some, None, refl, sym, ap, ◌∙◌, subst, option_and_then}
use Rattle.std.specs.Cmp.Lexicographic.{pointwise}
use Rattle.std.proofs.lemmas.Option.{slice_get-map}
use Rattle.diag.specs.declared.cause.Cause.TheVariants.{InstancePorts}
use Rattle.hw_model.specs.Types.{HwType}
use Rattle.hw_model.specs.Kinds.{Kind, Instance}
use Rattle.hw_model.specs.Kinds.Kind.{instance, output}
use Rattle.hw_model.specs.Design.{Ref, Port, OpResult, Op, Module, Design, find_module, instance_in, is_output_op, is_output_kind, result_type, output_refs}
use Rattle.hw_model.specs.Design.Ref.{port, result, undefined}
use Rattle.hw_model.specs.Sound.{input_types, output_types, type_in, Fits, OpFits, InstanceFits, Sound}
use Rattle.hw_model.specs.SameType.{same_type, type_from}
use Rattle.port_checks.specs.InstanceChecks.{names_ports, call_cause, instance_cause}
use Rattle.op_checks.specs.TypeLists.{known_types}
use Rattle.op_checks.specs.OwnChecks.{own_cause}
use Rattle.op_verifier.specs.OpChecks.{has_undefined, settled_by, settled_type, divides_by_constant}
use Rattle.op_verifier.specs.Headers.{has_output}
use Rattle.op_verifier.specs.Faults.{first_fault}
use Rattle.op_checks.proofs.Fitting.{fits, instance_types, output_types as outputs_typed}
use Rattle.op_verifier.proofs.NoCauseAlone.{types_of, no_cause_alone}
use Rattle.op_checks.proofs.Settled.{settles}
use Rattle.op_verifier.proofs.Unrefused.{when_none, no_op_cause, no_header_cause, IsUnrefused, ops_unrefused, module_unrefused}
use Rattle.hw_model.specs.Equality.{both_of}
use Rattle.op_verifier.proofs.WholeDesigns.{some_from}
use Rattle.std.proofs.lemmas.Bool.{not-false}

-- ---- small facts

pub known_at : (ts : List HwType) (k : ℕ) → slice_index_or (known_types ts) k None ≡ slice_get ts k
known_at [] zero = refl
known_at [] (suc k) = refl
known_at (t ∷ ts) zero = refl
known_at (t ∷ ts) (suc k) = known_at ts k

same_types : (ts us : List HwType) → pointwise same_type ts us ≡ true → ts ≡ us
same_types [] [] h = refl
same_types [] (u ∷ us) h = cc
same_types (t ∷ ts) [] h = cc
same_types (t ∷ ts) (u ∷ us) h =
    let p = both_of (same_type t u) (pointwise same_type ts us) h in
    let e : t ≡ u = type_from t u p.0 in
    let f : ts ≡ us = same_types ts us p.1 in cc

instance_is : (k : Kind) (i : Instance) → instance_in k ≡ Some i → k ≡ instance i
instance_is (instance j) i h = ap instance (some_from h)
instance_is _ i h = cc

output_is : (k : Kind) → is_output_kind k ≡ true → k ≡ output
output_is output h = refl
output_is _ h = cc

-- ---- operands

-- nothing is refused of the operations of a body
abbrev AreUnrefused : Design → List Port → List Op → Type 0
AreUnrefused d ports os = (j : ℕ) (o : Op) → slice_get os j ≡ Some o → IsUnrefused d ports os o

settled_results : (d : Design) (ports : List Port) (os : List Op) (o : Op) → IsUnrefused d ports os o → settled_by o ≡ known_types (types_of o.results)
settled_results d ports os o h = settles o.kind o.types (types_of o.results) (no_cause_alone ports os o (no_op_cause d ports os h.last o h.none).alone)

-- a value of such a body has the type that its operation settles
same_type_in : (d : Design) (ports : List Port) (os : List Op) → AreUnrefused d ports os → (r : Ref) → settled_type ports os r ≡ type_in ports os r
same_type_in d ports os all (port j) = refl
same_type_in d ports os all undefined = refl
same_type_in d ports os all (result j k) = go (slice_get os j) refl
  where
    go : (x : Option Op) → slice_get os j ≡ x
        → option_and_then (λ (o : Op). slice_index_or (settled_by o) k None) x ≡ option_and_then (λ (o : Op). result_type o k) x
    go None e = refl
    go (Some o) e =
        ap (λ (ts : List (Option HwType)). slice_index_or ts k None) (settled_results d ports os o (all j o e))
        ∙ known_at (types_of o.results) k ∙ slice_get-map (λ (r : OpResult). r.type) o.results k

same_types_in : (d : Design) (ports : List Port) (os : List Op) → AreUnrefused d ports os → (rs : List Ref) → map (settled_type ports os) rs ≡ map (type_in ports os) rs
same_types_in d ports os all [] = refl
same_types_in d ports os all (r ∷ rs) =
    let e : settled_type ports os r ≡ type_in ports os r = same_type_in d ports os all r in
    let f : map (settled_type ports os) rs ≡ map (type_in ports os) rs = same_types_in d ports os all rs in cc

-- the types of operands that are there
all_known : (ports : List Port) (os : List Op) (rs : List Ref) → has_undefined ports os rs ≡ false → (us : List HwType) × (map (type_in ports os) rs ≡ known_types us)
all_known ports os [] h = ([], refl)
all_known ports os (r ∷ rs) h = go (type_in ports os r) refl h (λ f. all_known ports os rs f)
  where
    go : (x : Option HwType) → type_in ports os r ≡ x → cond (is_some x) (has_undefined ports os rs) true ≡ false
        → (has_undefined ports os rs ≡ false → (us : List HwType) × (map (type_in ports os) rs ≡ known_types us))
        → (us : List HwType) × (type_in ports os r ∷ map (type_in ports os) rs ≡ known_types us)
    go None e f rest = cc
    go (Some t) e f rest =
        let got = rest f in
        let tail : map (type_in ports os) rs ≡ known_types got.0 = got.1 in
        (t ∷ got.0, ap (λ (x : Option HwType). x ∷ map (type_in ports os) rs) e ∙ ap (λ (xs : List (Option HwType)). Some t ∷ xs) tail)

-- an operation by itself, over the types of its operands
pub record Known (ports : List Port) (os : List Op) (o : Op) : Type 0 where
  pub us : List HwType
  pub operands : map (type_in ports os) o.operands ≡ known_types us
  pub none : own_cause o.kind o.types (types_of o.results) o.named (known_types us) (divides_by_constant os o.operands) ≡ None

known_op : (d : Design) (ports : List Port) (os : List Op) → AreUnrefused d ports os → (o : Op) → IsUnrefused d ports os o → Known ports os o
known_op d ports os all o h =
    let own = no_op_cause d ports os h.last o h.none in
    let got = all_known ports os o.operands own.defined in
    record {
      us = got.0;
      operands = got.1;
      none = ap (λ (xs : List (Option HwType)). own_cause o.kind o.types (types_of o.results) o.named xs (divides_by_constant os o.operands))
          (sym (same_types_in d ports os all o.operands ∙ got.1)) ∙ own.alone;
    }

-- ---- operations

op_fits : (d : Design) (ports : List Port) (os : List Op) → AreUnrefused d ports os → (o : Op) → IsUnrefused d ports os o → OpFits (type_in ports os) o
op_fits d ports os all o h k t is =
    let x = known_op d ports os all o h in
    subst (λ (xs : List (Option HwType)). Fits o.kind o.types xs t k) (sym x.operands)
    (fits o.kind o.types (types_of o.results) o.named x.us (divides_by_constant os o.operands) x.none k t (slice_get-map (λ (r : OpResult). r.type) o.results k ∙ is))

instance_fits : (d : Design) (ports : List Port) (os : List Op) → AreUnrefused d ports os → (o : Op) → IsUnrefused d ports os o → InstanceFits d (type_in ports os) o
instance_fits d ports os all o h i is = go (find_module d i.symbol) refl called
  where
    kind : o.kind ≡ instance i
    kind = instance_is o.kind i is

    called : call_cause i o.types (find_module d i.symbol) ≡ None
    called = ap (instance_cause d o.types) (sym is) ∙ (no_op_cause d ports os h.last o h.none).called

    x : Known ports os o
    x = known_op d ports os all o h

    typed : (x.us ≡ take (length i.inputs) o.types) × (types_of o.results ≡ drop (length i.inputs) o.types)
    typed = instance_types i o.types (types_of o.results) o.named x.us (divides_by_constant os o.operands)
        (ap (λ (k : Kind). own_cause k o.types (types_of o.results) o.named (known_types x.us) (divides_by_constant os o.operands)) (sym kind) ∙ x.none)

    go : (m : Option Module) → find_module d i.symbol ≡ m → call_cause i o.types m ≡ None
        → (c : Module) × (find_module d i.symbol ≡ Some c) × (map (type_in ports os) o.operands ≡ known_types (input_types c.ports)) × (types_of o.results ≡ output_types c.ports)
    go None e f = cc
    go (Some c) e f =
        let named = not-false (names_ports i o.types c.ports) (when_none (not (names_ports i o.types c.ports)) InstancePorts f) in
        let halves = both_of _ _ named in
        let types = both_of _ _ halves.1 in
        let ins = same_types (take (length i.inputs) o.types) (input_types c.ports) types.0 in
        let outs = same_types (drop (length i.inputs) o.types) (output_types c.ports) types.1 in
        (c, e, x.operands ∙ ap known_types (typed.0 ∙ ins), typed.1 ∙ outs)

-- ---- outputs

-- the first output of a body that has one
first_output : (os : List Op) → has_output os ≡ true → (j : ℕ) × (o : Op) × (slice_get os j ≡ Some o) × (is_output_op o ≡ true) × (output_refs os ≡ o.operands)
first_output [] h = cc
first_output (o ∷ os) h = go (is_output_op o) refl h (λ f. first_output os f)
  where
    go : (b : Bool) → is_output_op o ≡ b → cond b true (has_output os) ≡ true
        → (has_output os ≡ true → (j : ℕ) × (p : Op) × (slice_get os j ≡ Some p) × (is_output_op p ≡ true) × (output_refs os ≡ p.operands))
        → (j : ℕ) × (p : Op) × (slice_get (o ∷ os) j ≡ Some p) × (is_output_op p ≡ true) × (cond (is_output_op o) o.operands (output_refs os) ≡ p.operands)
    go true e f rest = (0, o, refl, e, ap (λ (b : Bool). cond b o.operands (output_refs os)) e)
    go false e f rest =
        let got = rest f in
        (suc got.0, got.1, got.2, got.3, ap (λ (b : Bool). cond b o.operands (output_refs os)) e ∙ got.4)

outputs_fit : (d : Design) (ports : List Port) (os : List Op) → AreUnrefused d ports os → has_output os ≡ true
    → map (type_in ports os) (output_refs os) ≡ known_types (output_types ports)
outputs_fit d ports os all there =
    let got = first_output os there in
    let o = got.1 in
    let h = all got.0 o got.2 in
    let kind : o.kind ≡ output = output_is o.kind got.3 in
    let x = known_op d ports os all o h in
    let others = (no_op_cause d ports os h.last o h.none).outputs in
    let types : o.types ≡ output_types ports = same_types o.types (output_types ports)
    (not-false (pointwise same_type o.types (output_types ports)) (ap (λ (b : Bool). b && not (pointwise same_type o.types (output_types ports))) (sym got.3) ∙ others)) in
    let operands : x.us ≡ o.types = outputs_typed o.types (types_of o.results) o.named x.us (divides_by_constant os o.operands)
    (ap (λ (k : Kind). own_cause k o.types (types_of o.results) o.named (known_types x.us) (divides_by_constant os o.operands)) (sym kind) ∙ x.none) in
    ap (map (type_in ports os)) got.4 ∙ x.operands ∙ ap known_types (operands ∙ types)

-- ---- designs

pub sound_design : (d : Design) → first_fault d ≡ None → Sound d
sound_design d h s m found =
    let u = module_unrefused d h s m found in
    let all = ops_unrefused d m.ports m.body m.body u.body in
    record {
      ops = λ j o there. op_fits d m.ports m.body all o (all j o there);
      instances = λ j o there. instance_fits d m.ports m.body all o (all j o there);
      outputs = outputs_fit d m.ports m.body all (no_header_cause d u.number m u.header).ends;
    }
