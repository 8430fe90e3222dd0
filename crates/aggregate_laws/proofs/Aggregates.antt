-- Each operation that is as its rule asks splits by the rules for all operations.
use Rattle.std.proofs.Common.{◌≡◌, ℕ, suc, Bool, true, false, cond, ◌&&◌, List, [], ◌∷◌, length, map, flat_map, slice_get, Option, Some, None, refl, sym, ap, subst, ◌∙◌, inl, inr}
use Rattle.wiring.specs.Wiring.{In}
use Rattle.wiring.proofs.Members.{position_of_In}
use Rattle.hw_model.specs.Types.{Name, HwType, width, leaves}
use Rattle.hw_model.specs.Types.HwType.{int, array}
use Rattle.hw_model.specs.Kinds.{Kind}
use Rattle.hw_model.specs.Kinds.Reset.{sync_reset}
use Rattle.hw_model.specs.Kinds.ArrayOp.{array_create, array_concat, array_get, array_slice, array_inject}
use Rattle.hw_model.specs.Kinds.StructOp.{struct_create, struct_extract, struct_inject, struct_explode}
use Rattle.hw_model.specs.Kinds.Kind.{mux, aggregate_constant, on_array, on_struct, bitcast, wire, instance, output, register, async_firreg}
use Rattle.hw_model.specs.Value.{nth_type}
use Rattle.hw_model.specs.Design.{Ref, Port, Op, Module, Design, RegisterForm, find_module, takes_enable, register_form, result_type}
use Rattle.hw_model.specs.Sound.{type_in, OpFits, Fits}
use Rattle.edit_laws.specs.Edit.{is_anchor}
use Rattle.edit_laws.specs.Follows.{Valid, Follows}
use Rattle.aggregate_laws.specs.Leaves.{bare_port, leaf_ports, bare_kind, result_types}
use Rattle.aggregate_laws.specs.Rules.{Rule, parts_of, lowered_design, Splits}
use Rattle.aggregate_laws.specs.OperationRules.{unnamed, join_rule, mux_rule, stays_rule, register_rule, register_stays_rule}
use Rattle.aggregate_laws.specs.Choices.{get_rule, slice_rule, array_inject_rule}
use Rattle.aggregate_laws.specs.Bitcasts.{bitcast_rule}
use Rattle.aggregate_laws.specs.Aggregates.{is_scalar, first_type, array_length, element_type, index_bits, own_names, register_by, rule_of, aggregate_rules, IsPlain, IsRegular}
use Rattle.aggregate_laws.proofs.Bare.{type_listed}
use Rattle.aggregate_laws.proofs.Joins.{plain_kind, wire_splits, struct_create_splits, array_create_splits, array_concat_splits}
use Rattle.aggregate_laws.proofs.Structs.{struct_extract_splits, struct_inject_splits, struct_explode_splits}
use Rattle.aggregate_laws.proofs.Muxes.{mux_splits, stays_splits}
use Rattle.aggregate_laws.proofs.Constants.{constant_splits}
use Rattle.aggregate_laws.proofs.Gets.{get_splits, slice_splits}
use Rattle.aggregate_laws.proofs.Injects.{inject_splits}
use Rattle.aggregate_laws.proofs.Bitcasts.{bitcast_splits}
use Rattle.aggregate_laws.proofs.Anchored.{register_splits, register_stays_splits, spread_splits}
use Rattle.aggregate_laws.proofs.Designs.{design_follows}
use Rattle.aggregate_laws.proofs.Scalars.{scalar_leaves}

first_is : (o : Op) (t : HwType) → result_types o ≡ t ∷ [] → first_type o ≡ t
first_is o t one = ap (λ ts. nth_type ts 0) one

no_more : (o : Op) (t : HwType) → result_types o ≡ t ∷ [] → (k : ℕ) → result_type o (suc k) ≡ None
no_more o t one k = type_listed o (suc k) ∙ ap (λ ts. slice_get ts (suc k)) one

both_scalar : (a b : Bool) → a && b ≡ true → (a ≡ true) × (b ≡ true)
both_scalar true true is = (refl, refl)
both_scalar true false is = cc
both_scalar false b is = cc

module _ (named : Op → Kind) (o : Op) (old_type : Ref → Option HwType) (stand : Ref → List Ref) (fits : OpFits old_type o) where
  abbrev SplitsBy : Rule → Type 0
  SplitsBy rule = Splits rule old_type stand o

  first_fits : (t : HwType) → result_types o ≡ t ∷ [] → Fits o.kind o.types (map old_type o.operands) t 0
  first_fits t one = fits 0 t (type_listed o 0 ∙ ap (λ ts. slice_get ts 0) one)

  -- one rule or another, by whether a type has no parts
  by_scalar : (b : Bool) (left right : Rule) → (b ≡ true → SplitsBy left) → SplitsBy right → SplitsBy (cond b left right)
  by_scalar true left right yes_so otherwise = yes_so refl
  by_scalar false left right yes_so otherwise = otherwise

  stays : (t : HwType) (us : List HwType) → is_anchor o ≡ false → result_types o ≡ t ∷ [] → is_scalar t ≡ true → map old_type o.operands ≡ map (λ (u : HwType). Some u) us
      → ((u : HwType) → In u us → is_scalar u ≡ true) → SplitsBy (stays_rule o)
  stays t us plain one scalar given scalars = stays_splits o old_type stand t us plain one (scalar_leaves t scalar) given (λ u here. scalar_leaves u (scalars u here)) fits

  plain_splits : is_anchor o ≡ false → IsPlain old_type o → SplitsBy (stays_rule o)
  plain_splits plain is = stays is.type is.operand_types plain is.one is.scalar is.operands is.scalars

  mux_by : o.kind ≡ mux → (t : HwType) → result_types o ≡ t ∷ [] → SplitsBy (cond (is_scalar (first_type o)) (stays_rule o) (mux_rule o))
  mux_by is t one =
      by_scalar (is_scalar (first_type o)) (stays_rule o) (mux_rule o)
      (λ scalar.
      let scalar_t : is_scalar t ≡ true = ap is_scalar (sym (first_is o t one)) ∙ scalar in
      stays t (int 1 ∷ t ∷ t ∷ []) (plain_kind o mux is refl) one scalar_t (subst (λ k. Fits k o.types (map old_type o.operands) t 0) is (first_fits t one)) (among scalar_t))
      (mux_splits o old_type stand t is one fits)
    where
      among : is_scalar t ≡ true → (u : HwType) → In u (int 1 ∷ t ∷ t ∷ []) → is_scalar u ≡ true
      among scalar u (inl same) = ap is_scalar same
      among scalar u (inr (inl same)) = ap is_scalar same ∙ scalar
      among scalar u (inr (inr (inl same))) = ap is_scalar same ∙ scalar
      among scalar u (inr (inr (inr never))) = absurd never

  only_among : (t : HwType) → is_scalar t ≡ true → (u : HwType) → In u (t ∷ []) → is_scalar u ≡ true
  only_among t scalar u (inl same) = ap is_scalar same ∙ scalar
  only_among t scalar u (inr never) = absurd never

  wire_by : o.kind ≡ wire → (t : HwType) → result_types o ≡ t ∷ [] → SplitsBy (cond (is_scalar (first_type o)) (stays_rule o) (join_rule o (own_names o)))
  wire_by is t one =
      by_scalar (is_scalar (first_type o)) (stays_rule o) (join_rule o (own_names o))
      (λ scalar.
      let scalar_t : is_scalar t ≡ true = ap is_scalar (sym (first_is o t one)) ∙ scalar in
      stays t (t ∷ []) (plain_kind o wire is refl) one scalar_t (subst (λ k. Fits k o.types (map old_type o.operands) t 0) is (first_fits t one)) (only_among t scalar_t))
      (wire_splits o (own_names o) old_type stand t is one fits)

  bitcast_by : o.kind ≡ bitcast → (u t : HwType) → result_types o ≡ t ∷ [] → map old_type o.operands ≡ Some u ∷ [] → nth_type o.types 0 ≡ u → width u ≡ width t
      → SplitsBy (cond (is_scalar (first_type o) && is_scalar (nth_type o.types 0)) (stays_rule o) (bitcast_rule o (nth_type o.types 0)))
  bitcast_by is u t one given written same =
      by_scalar (is_scalar (first_type o) && is_scalar (nth_type o.types 0)) (stays_rule o) (bitcast_rule o (nth_type o.types 0))
      (λ scalar.
      let both = both_scalar (is_scalar (first_type o)) (is_scalar (nth_type o.types 0)) scalar in
      stays t (u ∷ []) (plain_kind o bitcast is refl) one (ap is_scalar (sym (first_is o t one)) ∙ both.0) given (only_among u (ap is_scalar (sym written) ∙ both.1)))
      (subst (λ v. SplitsBy (bitcast_rule o v)) (sym written) (bitcast_splits o old_type stand u t is one given same))

  register_by_form : (form : RegisterForm) → register_form o.kind ≡ Some form → (t : HwType) → result_types o ≡ t ∷ [] → SplitsBy (register_by o form)
  register_by_form form is t one =
      by_scalar (is_scalar (first_type o)) (register_stays_rule o form) (register_rule o form (own_names o))
      (λ scalar. register_stays_splits o form old_type stand t is one (scalar_leaves t (ap is_scalar (sym (first_is o t one)) ∙ scalar)))
      (register_splits o form (own_names o) old_type stand is (no_more o t one))

  pub regular_splits : (kind : Kind) → o.kind ≡ kind → IsRegular named old_type o kind → SplitsBy (rule_of named o kind)
  regular_splits mux is (t, one) = mux_by is t one
  regular_splits wire is (t, one) = wire_by is t one
  regular_splits bitcast is (u, t, one, given, written, same) = bitcast_by is u t one given written same
  regular_splits (aggregate_constant ls) is (t, one, shape) = constant_splits o ls old_type stand t is one shape
  regular_splits (on_array array_create) is (t, one) = array_create_splits o unnamed old_type stand t is one fits
  regular_splits (on_array array_concat) is (t, one) = array_concat_splits o unnamed old_type stand t is one fits
  regular_splits (on_array array_get) is (n, w, t, one, given, written, index, enough) =
      subst (λ u. SplitsBy (get_rule o (array_length u) (width (nth_type o.types 1)))) (sym written)
      (subst (λ u. SplitsBy (get_rule o n (width u))) (sym index) (get_splits o n w old_type stand t is one given written enough))
  regular_splits (on_array array_slice) is (n, k, e, one, given, written, enough) =
      subst (λ u. SplitsBy (slice_rule o (array_length u) (array_length (first_type o)) (length (leaves (element_type u))) (index_bits (array_length u)))) (sym written)
      (subst (λ u. SplitsBy (slice_rule o n (array_length u) (length (leaves e)) (index_bits n))) (sym (first_is o (array k e) one))
      (slice_splits o n k (index_bits n) old_type stand e (array k e) is one refl given written enough))
  regular_splits (on_array array_inject) is (n, w, e, one, given, written, index, enough) =
      subst (λ u. SplitsBy (array_inject_rule o (array_length u) (length (leaves (element_type u))) (width (nth_type o.types 1)))) (sym written)
      (subst (λ u. SplitsBy (array_inject_rule o n (length (leaves e)) (width u))) (sym index)
      (inject_splits o n w old_type stand e (array n e) is one refl given written enough))
  regular_splits (on_struct struct_create) is (t, one) = struct_create_splits o unnamed old_type stand t is one fits
  regular_splits (on_struct (struct_extract name)) is (t, one) = struct_extract_splits o name old_type stand t is one fits
  regular_splits (on_struct (struct_inject name)) is (t, one) = struct_inject_splits o name old_type stand t is one fits
  regular_splits (on_struct struct_explode) is (fs, written, given, all) = struct_explode_splits o old_type stand fs is written given all
  regular_splits (instance i) is same = spread_splits o (named o) old_type stand (ap (λ k. is_anchor (record o { kind = k })) is) (ap register_form is) same
  regular_splits output is same = spread_splits o output old_type stand (ap (λ k. is_anchor (record o { kind = k })) is) (ap register_form is) (ap bare_kind (sym is))
  regular_splits (register f r) is (t, one) = register_by_form (record { has_enable = takes_enable f; reset = r }) (ap register_form is) t one
  regular_splits async_firreg is (t, one) = register_by_form (record { has_enable = false; reset = sync_reset }) (ap register_form is) t one
  regular_splits k is plain = plain_splits (plain_kind o k is refl) plain

pub aggregates_follow : (split : List Port → List Port) (named : Op → Kind) (d : Design) → ((ps : List Port) → map bare_port (split ps) ≡ flat_map leaf_ports ps)
    → ((s : Name) (m : Module) → find_module d s ≡ Some m → (o : Op) → In o m.body → IsRegular named (type_in m.ports m.body) o o.kind)
    → Valid d → Follows d (lowered_design (aggregate_rules split named) d)
aggregates_follow split named d leaves_are regular valid =
    design_follows (aggregate_rules split named) d leaves_are
    (λ s m is o here.
    let position = position_of_In o m.body here in
    regular_splits named o (type_in m.ports m.body) (parts_of (aggregate_rules split named) m.ports m.body) ((valid.sound s m is).ops position.0 o position.1) o.kind refl (regular s m is o here))
    valid
