-- A design without aggregates: its ports are their own leaves, and so are its registers.
use Rattle.std.proofs.Common.{◌≡◌, ℕ, zero, suc, Bool, true, false, cond, List, [], ◌∷◌, ◌++◌, map, flat_map, length, slice_get, Option, Some, None, is_some, refl, sym, ap, ap₂, subst, ◌∙◌, inl, inr}
use Rattle.std.proofs.lemmas.Grind.{flat_map-append}
use Rattle.wiring.specs.Wiring.{In}
use Rattle.wiring.proofs.Members.{position_of_In}
use Rattle.hw_model.specs.Types.{Name, HwType}
use Rattle.hw_model.specs.Kinds.{Kind, Instance}
use Rattle.hw_model.specs.Kinds.Kind.{register, async_firreg}
use Rattle.hw_model.specs.Design.{Ref, Port, OpResult, Op, Module, Design, register_form, is_register, instance_in, find_module, result_type}
use Rattle.hw_model.specs.Sound.{body_of}
use Rattle.port_checks.proofs.Least.{found_module}
use Rattle.pass_laws.specs.PassLaw.{register_types, leaf_types}
use Rattle.pass_laws.specs.Steady.{instance_held, op_held, body_held}
use Rattle.pass_laws.proofs.Shapes.{held_types, types_held}
use Rattle.aggregate_laws.specs.Aggregates.{is_scalar, IsRegular, HasOne}
use Rattle.aggregate_laws.specs.Scalars.{has_aggregate_port, has_aggregate_type, has_aggregate_result, has_aggregate_value, has_aggregates}
use Rattle.aggregate_laws.proofs.Bare.{type_listed}
use Rattle.aggregate_laws.proofs.Scalars.{scalar_leaves}
use Rattle.aggregate_acceptance.proofs.LoweredModules.{Lowering, old_type, regular_at}

-- ---- what has no aggregate

-- neither has the first, nor have the others
pub both_without : (a b : Bool) → cond a true b ≡ false → (a ≡ false) × (b ≡ false)
both_without true b none = cc
both_without false b none = (refl, none)

type_without : (x : OpResult) (xs : List OpResult) → has_aggregate_type (x ∷ xs) ≡ false → (is_scalar x.type ≡ true) × (has_aggregate_type xs ≡ false)
type_without x xs none = go (is_scalar x.type) refl none
  where
    go : (b : Bool) → is_scalar x.type ≡ b → cond b (has_aggregate_type xs) true ≡ false → (is_scalar x.type ≡ true) × (has_aggregate_type xs ≡ false)
    go true is h = (is, h)
    go false is h = cc

pub scalar_port : (ps : List Port) → has_aggregate_port ps ≡ false → (q : Port) → In q ps → is_scalar q.type ≡ true
scalar_port [] none q here = absurd here
scalar_port (p ∷ ps) none q here = go (is_scalar p.type) refl none here (scalar_port ps)
  where
    go : (b : Bool) → is_scalar p.type ≡ b → cond b (has_aggregate_port ps) true ≡ false → In q (p ∷ ps) → (has_aggregate_port ps ≡ false → (x : Port) → In x ps → is_scalar x.type ≡ true)
        → is_scalar q.type ≡ true
    go false is h there rest = cc
    go true is h (inl same) rest = ap (λ (x : Port). is_scalar x.type) same ∙ is
    go true is h (inr there) rest = rest h q there

pub scalar_result : (os : List Op) → has_aggregate_result os ≡ false → (o : Op) → In o os → has_aggregate_type o.results ≡ false
scalar_result [] none o here = absurd here
scalar_result (x ∷ os) none o here = go here (both_without (has_aggregate_type x.results) (has_aggregate_result os) none) (scalar_result os)
  where
    go : In o (x ∷ os) → (has_aggregate_type x.results ≡ false) × (has_aggregate_result os ≡ false)
        → (has_aggregate_result os ≡ false → (y : Op) → In y os → has_aggregate_type y.results ≡ false) → has_aggregate_type o.results ≡ false
    go (inl same) (first, others) rest = ap (λ (y : Op). has_aggregate_type y.results) same ∙ first
    go (inr there) (first, others) rest = rest others o there

pub scalar_module : (d : Design) → has_aggregates d ≡ false → (m : Module) → In m d → (has_aggregate_port m.ports ≡ false) × (has_aggregate_result m.body ≡ false)
scalar_module [] none m here = absurd here
scalar_module (x ∷ d) none m here = go here (both_without (has_aggregate_value x) (has_aggregates d) none) (scalar_module d)
  where
    go : In m (x ∷ d) → (has_aggregate_value x ≡ false) × (has_aggregates d ≡ false)
        → (has_aggregates d ≡ false → (y : Module) → In y d → (has_aggregate_port y.ports ≡ false) × (has_aggregate_result y.body ≡ false))
        → (has_aggregate_port m.ports ≡ false) × (has_aggregate_result m.body ≡ false)
    go (inl same) (first, others) rest =
        subst (λ (y : Module). (has_aggregate_port y.ports ≡ false) × (has_aggregate_result y.body ≡ false)) (sym same)
        (both_without (has_aggregate_port x.ports) (has_aggregate_result x.body) first)
    go (inr there) (first, others) rest = rest others m there

-- ---- registers

-- a register has one result
register_one : (named : Op → Kind) (type_of : Ref → Option HwType) (o : Op) (kind : Kind) → is_some (register_form kind) ≡ true → IsRegular named type_of o kind → HasOne o
register_one named type_of o (register f r) is one = one
register_one named type_of o async_firreg is one = one
register_one named type_of o _ is one = cc

module _ (S : Lowering) (none : has_aggregates S.d ≡ false) where
  register_scalar : (s : Name) (m : Module) → find_module S.d s ≡ Some m → (o : Op) → In o m.body → is_register o ≡ true → (t : HwType) × (result_type o 0 ≡ Some t) × (is_scalar t ≡ true)
  register_scalar s m found o here is =
      let among = found_module S.d s m found in
      let position = position_of_In m S.d among in
      let spot = position_of_In o m.body here in
      let one = register_one S.named (old_type m) o o.kind is (regular_at S position.0 m position.1 spot.0 o spot.1) in
      (one.0, type_listed o 0 ∙ ap (λ ts. slice_get ts 0) one.1, first_scalar o.results one.0 (scalar_result m.body (scalar_module S.d none m among).1 o here) one.1)
    where
      first_scalar : (xs : List OpResult) (t : HwType) → has_aggregate_type xs ≡ false → map (λ (x : OpResult). x.type) xs ≡ t ∷ [] → is_scalar t ≡ true
      first_scalar [] t plain is = cc
      first_scalar (x ∷ xs) t plain is = let same : x.type ≡ t = cc in sym (ap is_scalar same) ∙ (type_without x xs plain).0

  scalar_held : (inner : Name → List (Option HwType)) → ((s : Name) → flat_map leaf_types (inner s) ≡ inner s) → (os : List Op)
      → ((o : Op) → In o os → is_register o ≡ true → (t : HwType) × (result_type o 0 ≡ Some t) × (is_scalar t ≡ true))
      → flat_map leaf_types (body_held inner os) ≡ body_held inner os
  scalar_held inner own [] each = refl
  scalar_held inner own (o ∷ os) each =
      flat_map-append leaf_types (op_held inner o) (body_held inner os)
      ∙ ap₂ (λ xs ys. xs ++ ys) (go (is_register o) refl (instance_in o.kind)) (scalar_held inner own os (λ x here. each x (inr here)))
    where
      one : (t : HwType) → is_scalar t ≡ true → flat_map leaf_types (Some t ∷ []) ≡ Some t ∷ []
      one t is = ap (λ ts. map (λ (u : HwType). Some u) ts ++ []) (scalar_leaves t is)

      go : (b : Bool) → is_register o ≡ b → (x : Option Instance)
          → flat_map leaf_types (cond b (result_type o 0 ∷ []) (instance_held inner x)) ≡ cond b (result_type o 0 ∷ []) (instance_held inner x)
      go true is x =
          let own_type = each o (inl refl) is in
          subst (λ y. flat_map leaf_types (y ∷ []) ≡ y ∷ []) (sym own_type.1) (one own_type.0 own_type.2)
      go false is None = refl
      go false is (Some i) = own i.symbol

  scalar_types : (n : ℕ) (s : Name) → flat_map leaf_types (held_types n S.d s) ≡ held_types n S.d s
  scalar_types zero s = refl
  scalar_types (suc n) s = go (find_module S.d s) refl (scalar_types n)
    where
      go : (x : Option Module) → find_module S.d s ≡ x → ((t : Name) → flat_map leaf_types (held_types n S.d t) ≡ held_types n S.d t)
          → flat_map leaf_types (body_held (held_types n S.d) (body_of x)) ≡ body_held (held_types n S.d) (body_of x)
      go None is rest = refl
      go (Some m) is rest = scalar_held (held_types n S.d) rest m.body (register_scalar s m is)

  pub own_register_types : (s : Name) → register_types S.d s ≡ flat_map leaf_types (register_types S.d s)
  own_register_types s =
      let held = types_held (suc (length S.d)) S.d [] s in
      held ∙ sym (scalar_types (suc (length S.d)) s) ∙ ap (flat_map leaf_types) (sym held)
