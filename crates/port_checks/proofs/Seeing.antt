-- What an operation joins and names is told by its operands that are ports: the positions that stand for ids are of no
-- account.
use Rattle.std.proofs.Common.{◌≡◌, ℕ, zero, suc, Bool, true, false, cond, List, [], ◌∷◌, ◌++◌, map, length, take, slice_get, Option, Some, None, option_map, is_some, refl, sym, ap, ap₂, ◌∙◌, option_and_then}
use Rattle.std.proofs.lemmas.Option.{slice_get-map}
use Rattle.hw_model.specs.Kinds.{Instance}
use Rattle.hw_model.specs.Design.{Port, Module, Design, instance_in}
use Rattle.hw_model.specs.Flat.{ResetBy, has_async_reset, async_parts, operand_for, port_ref, input_count}
use Rattle.hw_model.specs.Sound.{ports_of}
use Rattle.ir_store.specs.declared.operation.Value.{Value}
use Rattle.ir_store.specs.declared.operation.Value.TheVariants.{Port as APort, Result, Undefined}
use Rattle.ir_store.specs.BodyOps.{BodyOp}
use Rattle.ir_store.specs.Numbered.{ref_by, op_by}
use Rattle.ir_store.specs.Symbols.{symbol_position}
use Rattle.port_checks.specs.InstanceChecks.{instance_cause}
use Rattle.port_checks.specs.Pairs.{pair_of}
use Rattle.port_checks.specs.Numbers.{port_number}
use Rattle.port_checks.specs.Joins.{bit_port, named_port, operand_pairs, found_pairs, called_pairs, instance_pairs}
use Rattle.port_checks.specs.Seen.{ref_seen, body_op_seen}

bit_port_seen : (ports : List Port) (position : ℕ → ℕ) (v : Option Value) → bit_port ports (option_map (ref_by position) v) ≡ bit_port ports (option_map ref_seen v)
bit_port_seen ports position None = refl
bit_port_seen ports position (Some (APort j)) = refl
bit_port_seen ports position (Some (Result id k)) = refl
bit_port_seen ports position (Some Undefined) = refl

parts_seen : (ports : List Port) (position : ℕ → ℕ) (xs : List Value)
    → bit_port ports (option_map (λ (r : ResetBy). r.signal) (async_parts (map (ref_by position) xs))) ≡ bit_port ports (option_map (λ (r : ResetBy). r.signal) (async_parts (map ref_seen xs)))
parts_seen ports position [] = refl
parts_seen ports position (d ∷ []) = refl
parts_seen ports position (d ∷ c ∷ []) = refl
parts_seen ports position (d ∷ c ∷ r ∷ []) = refl
parts_seen ports position (d ∷ c ∷ r ∷ v ∷ []) = bit_port_seen ports position (Some r)
parts_seen ports position (d ∷ c ∷ r ∷ v ∷ x ∷ xs) = refl

pub named_seen : (ports : List Port) (position : ℕ → ℕ) (o : BodyOp) → named_port ports (op_by position o) ≡ named_port ports (body_op_seen o)
named_seen ports position o = go (has_async_reset o.parts.kind)
  where
    go : (b : Bool) → bit_port ports (option_map (λ (r : ResetBy). r.signal) (cond b (async_parts (map (ref_by position) o.operands)) None))
        ≡ bit_port ports (option_map (λ (r : ResetBy). r.signal) (cond b (async_parts (map ref_seen o.operands)) None))
    go true = parts_seen ports position o.operands
    go false = refl

ref_joined : (outer ports : List Port) (position : ℕ → ℕ) (xs : List Value) (n : ℕ) → bit_port outer (port_ref ports (map (ref_by position) xs) n) ≡ bit_port outer (port_ref ports (map ref_seen xs) n)
ref_joined outer ports position xs n = go (slice_get ports n)
  where
    by_side : (b : Bool) → bit_port outer (cond b None (slice_get (map (ref_by position) xs) (input_count (take n ports))))
        ≡ bit_port outer (cond b None (slice_get (map ref_seen xs) (input_count (take n ports))))
    by_side true = refl
    by_side false =
        ap (bit_port outer) (slice_get-map (ref_by position) xs (input_count (take n ports))) ∙ bit_port_seen outer position (slice_get xs (input_count (take n ports)))
        ∙ ap (bit_port outer) (sym (slice_get-map ref_seen xs (input_count (take n ports))))

    go : (q : Option Port) → bit_port outer (operand_for q (map (ref_by position) xs) (input_count (take n ports)))
        ≡ bit_port outer (operand_for q (map ref_seen xs) (input_count (take n ports)))
    go None = refl
    go (Some q) = by_side q.is_output

operands_seen : (starts : List ℕ) (called : ℕ) (ports : List Port) (caller : ℕ) (outer : List Port) (position : ℕ → ℕ) (xs : List Value) (n : ℕ)
    → operand_pairs starts called ports caller outer (map (ref_by position) xs) n ≡ operand_pairs starts called ports caller outer (map ref_seen xs) n
operands_seen starts called ports caller outer position xs zero = refl
operands_seen starts called ports caller outer position xs (suc n) =
    ap₂ (λ ps r. ps ++ pair_of (port_number starts called n) (option_and_then (port_number starts caller) r)) (operands_seen starts called ports caller outer position xs n)
    (ref_joined outer ports position xs n)

pub pairs_seen : (d : Design) (starts : List ℕ) (caller : ℕ) (outer : List Port) (position : ℕ → ℕ) (o : BodyOp)
    → instance_pairs d starts caller outer (op_by position o) ≡ instance_pairs d starts caller outer (body_op_seen o)
pairs_seen d starts caller outer position o =
    ap (cond (is_some (instance_cause d o.parts.types (instance_in o.parts.kind))) []) (by_kind (instance_in o.parts.kind))
  where
    by_position : (c : Option ℕ) → found_pairs d starts caller outer (map (ref_by position) o.operands) c ≡ found_pairs d starts caller outer (map ref_seen o.operands) c
    by_position None = refl
    by_position (Some c) = operands_seen starts c (ports_of (slice_get d c)) caller outer position o.operands (length (ports_of (slice_get d c)))

    by_kind : (x : Option Instance) → called_pairs d starts caller outer (map (ref_by position) o.operands) x ≡ called_pairs d starts caller outer (map ref_seen o.operands) x
    by_kind None = refl
    by_kind (Some x) = by_position (symbol_position x.symbol (map (λ (m : Module). m.symbol) d))
