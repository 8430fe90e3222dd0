-- The values of a module without aggregates have types without parts.
use Rattle.std.proofs.Common.{◌≡◌, refl, sym, ap, ◌∙◌, ℕ, zero, suc, Bool, true, false, cond, List, [], ◌∷◌, slice_get, Option, Some, None, option_and_then, option_map}
use Rattle.hw_model.specs.Types.{HwType}
use Rattle.hw_model.specs.Design.{Ref, Port, OpResult, Op, Module, result_type}
use Rattle.hw_model.specs.Design.Ref.{port, result, undefined}
use Rattle.hw_model.specs.Sound.{input_type, type_in}
use Rattle.aggregate_laws.specs.Aggregates.{is_scalar}
use Rattle.aggregate_laws.specs.Scalars.{has_aggregate_port, has_aggregate_type, has_aggregate_result, has_aggregate_value}

neither_of : (a b : Bool) → cond a true b ≡ false → (a ≡ false) × (b ≡ false)
neither_of true b none = cc
neither_of false b none = (refl, none)

both_of : (a b : Bool) → cond a b true ≡ false → (a ≡ true) × (b ≡ false)
both_of true b none = (refl, none)
both_of false b none = cc

port_scalar : (ps : List Port) → has_aggregate_port ps ≡ false → (j : ℕ) (q : Port) → slice_get ps j ≡ Some q → is_scalar q.type ≡ true
port_scalar [] none j q there = cc
port_scalar (p ∷ ps) none zero q there =
    let same : p ≡ q = cc in
    sym (ap (λ (x : Port). is_scalar x.type) same) ∙ (both_of (is_scalar p.type) (has_aggregate_port ps) none).0
port_scalar (p ∷ ps) none (suc j) q there = port_scalar ps (both_of (is_scalar p.type) (has_aggregate_port ps) none).1 j q there

result_scalar : (xs : List OpResult) → has_aggregate_type xs ≡ false → (k : ℕ) (x : OpResult) → slice_get xs k ≡ Some x → is_scalar x.type ≡ true
result_scalar [] none k x there = cc
result_scalar (y ∷ xs) none zero x there =
    let same : y ≡ x = cc in
    sym (ap (λ (z : OpResult). is_scalar z.type) same) ∙ (both_of (is_scalar y.type) (has_aggregate_type xs) none).0
result_scalar (y ∷ xs) none (suc k) x there = result_scalar xs (both_of (is_scalar y.type) (has_aggregate_type xs) none).1 k x there

op_scalar : (os : List Op) → has_aggregate_result os ≡ false → (j : ℕ) (o : Op) → slice_get os j ≡ Some o → has_aggregate_type o.results ≡ false
op_scalar [] none j o there = cc
op_scalar (y ∷ os) none zero o there =
    let same : y ≡ o = cc in
    sym (ap (λ (z : Op). has_aggregate_type z.results) same) ∙ (neither_of (has_aggregate_type y.results) (has_aggregate_result os) none).0
op_scalar (y ∷ os) none (suc j) o there = op_scalar os (neither_of (has_aggregate_type y.results) (has_aggregate_result os) none).1 j o there

module _ (m : Module) (none : has_aggregate_value m ≡ false) where
  parts : (has_aggregate_port m.ports ≡ false) × (has_aggregate_result m.body ≡ false)
  parts = neither_of (has_aggregate_port m.ports) (has_aggregate_result m.body) none

  -- a value of an operation
  pub made_scalar : (j k : ℕ) (o : Op) (t : HwType) → slice_get m.body j ≡ Some o → result_type o k ≡ Some t → is_scalar t ≡ true
  made_scalar j k o t at typed = go (slice_get o.results k) refl typed
    where
      go : (x : Option OpResult) → slice_get o.results k ≡ x → option_map (λ (r : OpResult). r.type) x ≡ Some t → is_scalar t ≡ true
      go None there is = cc
      go (Some r) there is =
          let same : r.type ≡ t = cc in
          sym (ap is_scalar same) ∙ result_scalar o.results (op_scalar m.body parts.1 j o at) k r there

  pub value_scalar : (r : Ref) (t : HwType) → type_in m.ports m.body r ≡ Some t → is_scalar t ≡ true
  value_scalar (port j) t typed = go (slice_get m.ports j) refl typed
    where
      by_way : (q : Port) → slice_get m.ports j ≡ Some q → (b : Bool) → cond b None (Some q.type) ≡ Some t → is_scalar t ≡ true
      by_way q there true is = cc
      by_way q there false is =
          let same : q.type ≡ t = cc in
          sym (ap is_scalar same) ∙ port_scalar m.ports parts.0 j q there

      go : (x : Option Port) → slice_get m.ports j ≡ x → input_type x ≡ Some t → is_scalar t ≡ true
      go None there is = cc
      go (Some q) there is = by_way q there q.is_output is
  value_scalar (result j k) t typed = go (slice_get m.body j) refl typed
    where
      go : (x : Option Op) → slice_get m.body j ≡ x → option_and_then (λ (o : Op). result_type o k) x ≡ Some t → is_scalar t ≡ true
      go None at is = cc
      go (Some o) at is = made_scalar j k o t at is
  value_scalar undefined t typed = cc
