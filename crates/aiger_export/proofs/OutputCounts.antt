-- A flat module of an accepted design has at most 2^35 bits of outputs.
use Rattle.std.proofs.Common.{◌≡◌, refl, sym, ap, subst, ℕ, ◌+◌, ◌*◌, ◌^◌, ◌≤◌, ◌<◌, Bool, true, false, cond, List, [], ◌∷◌, map, length, Some, slice_get, ◌⊎◌, inl, inr, arith}
use Rattle.wiring.specs.Lists.{total}
use Rattle.hw_model.specs.Types.{Name, HwType, width, leaves}
use Rattle.hw_model.specs.Types.HwType.{int, clock, array, struct}
use Rattle.hw_model.specs.Design.{Port, Module, Design, find_module}
use Rattle.hw_model.specs.Sound.{output_types}
use Rattle.hw_model.specs.Weight.{leaf_count, weight_of, module_weight, weight}
use Rattle.aggregate_laws.specs.Aggregates.{is_scalar}
use Rattle.aggregate_laws.specs.Scalars.{has_aggregate_port, has_aggregate_result}
use Rattle.op_checks.specs.TypeChecks.{is_outside}
use Rattle.op_verifier.specs.Headers.{has_port}
use Rattle.op_verifier.proofs.AcceptedDesigns.{no_fault}
use Rattle.op_verifier.proofs.Unrefused.{no_header_cause, module_unrefused}
use Rattle.flat_module_laws.specs.Sides.{IsPlain}
use Rattle.flat_module_laws.specs.FlatPrices.{output_bits}
use Rattle.flat_module_laws.proofs.PlainKinds.{word}

both_false : (b x : Bool) → cond b x true ≡ false → (b ≡ true) × (x ≡ false)
both_false true x h = (refl, h)
both_false false x h = cc

neither_true : (b x : Bool) → cond b true x ≡ false → (b ≡ false) × (x ≡ false)
neither_true true x h = cc
neither_true false x h = (refl, h)

-- a scalar is one leaf
one_leaf : (t : HwType) → is_scalar t ≡ true → length (leaves t) ≡ 1
one_leaf (int w) scalar = refl
one_leaf clock scalar = refl
one_leaf (array n t) scalar = cc
one_leaf (struct fs) scalar = cc

-- outputs have at most 128 bits for each leaf of the ports
outputs_within : (ps : List Port) → has_aggregate_port ps ≡ false → has_port (λ (q : Port). is_outside q.type) ps ≡ false
    → total (map width (output_types ps)) ≤ 128 * leaf_count (map (λ (p : Port). p.type) ps)
outputs_within [] scalar inside = omega arith
outputs_within (p ∷ ps) scalar inside =
    let first = both_false (is_scalar p.type) (has_aggregate_port ps) scalar in
    let within = neither_true (is_outside p.type) (has_port (λ (q : Port). is_outside q.type) ps) inside in
    let one = one_leaf p.type first.0 in
    let short = (word p.type first.0 within.0).1 in
    let rest = outputs_within ps first.1 within.1 in
    go p.is_output one short rest
  where
    go : (b : Bool) → length (leaves p.type) ≡ 1 → width p.type ≤ 128 → total (map width (output_types ps)) ≤ 128 * leaf_count (map (λ (q : Port). q.type) ps)
        → total (map width (cond b (p.type ∷ output_types ps) (output_types ps))) ≤ 128 * (length (leaves p.type) + leaf_count (map (λ (q : Port). q.type) ps))
    go true one short rest = omega (arith, one, short, rest)
    go false one short rest = omega (arith, one, rest)

ports_weigh : (d : Design) (s : Name) (m : Module) → find_module d s ≡ Some m → leaf_count (map (λ (p : Port). p.type) m.ports) ≤ weight d s
ports_weigh d s m found =
    subst (λ o. leaf_count (map (λ (p : Port). p.type) m.ports) ≤ weight_of (module_weight (length d) d) o) (sym found) (omega arith)

within_limit : (a b : ℕ) → (b < a → ⊥) → a ≤ b
within_limit a b never = go (grind arith)
  where
    go : (a ≤ b) ⊎ (b < a) → a ≤ b
    go (inl below) = below
    go (inr above) = absurd (never above)

pub outputs_few : (d : Design) (m : Module) → d ≡ m ∷ [] → IsPlain d m.symbol m → output_bits m ≤ 2 ^ 35
outputs_few d m alone plain =
    let whole = neither_true (has_aggregate_port m.ports) (has_aggregate_result m.body) plain.scalar in
    let header = module_unrefused d (no_fault d plain.accepted) m.symbol m plain.found in
    let within = outputs_within m.ports whole.0 (no_header_cause d header.number m header.header).types in
    let weighs = ports_weigh d m.symbol m plain.found in
    let light : weight d m.symbol ≤ 2 ^ 28 = within_limit (weight d m.symbol) (2 ^ 28) (plain.accepted.light 0 m (ap (λ x. slice_get x 0) alone)) in
    omega (arith, within, weighs, light)
