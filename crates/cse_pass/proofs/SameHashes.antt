-- Operations that have one value have one hash, and are equal by positions.
use Rattle.std.proofs.Common.{◌≡◌, ℕ, true, ◌&&◌, List, [], ◌∷◌, map, refl, sym, ap, ap₂, ◌∙◌}
use Rattle.std.specs.Prelude.{All, nat_eq}
use Rattle.std.specs.Cmp.Lexicographic.{pointwise}
use Rattle.std.proofs.lemmas.List.Elements.{All-head, All-tail}
use Rattle.opcode.specs.Listed.{name_of_listed}
use Rattle.hw_model.specs.Opcodes.{opcode_of}
use Rattle.hw_model.specs.Equality.{TellsApart, both, both_of, number_self, number_from}
use Rattle.hw_model.specs.SameKind.{same_kind}
use Rattle.hw_model.specs.KindsApart.{kinds_apart}
use Rattle.hw_model.specs.SameType.{same_type}
use Rattle.ir_store.specs.declared.operation.OpId.{OpId}
use Rattle.ir_store.specs.declared.operation.Value.{Value}
use Rattle.ir_store.specs.declared.operation.Value.TheVariants.{Port, Result, Undefined}
use Rattle.ir_store.specs.BodyOps.{BodyOp, same_value}
use Rattle.ir_store.specs.Live.{IsLive, HasLive}
use Rattle.ir_store.specs.Numbered.{position_of, ref_by, op_by}
use Rattle.ir_store.specs.OperationViews.{OpParts}
use Rattle.ir_store.specs.Positions.{same_ref}
use Rattle.ir_store.proofs.Numbering.{same-ref_by}
use Rattle.fold_laws.specs.Unused.{is_pure}
use Rattle.cse_pass.specs.EqualOps.{value_kind, are_equal}
use Rattle.cse_pass.specs.Same.{first_type, types_of_results, are_same}
use Rattle.cse_pass.specs.Hashes.{with_values, with_bytes, with_attributes, width_number, hash_of}
use Rattle.cse_pass.proofs.ConstantTypes.{pure_value, opcode_value}
use Rattle.cse_pass.proofs.EqualParts.{lists_apart}
use Rattle.cse_pass.proofs.SameOps.{first_types}

-- ---- by positions

same_values : (ids : List ℕ) (vs ws : List Value) → All (IsLive ids) vs → All (IsLive ids) ws → pointwise same_value vs ws ≡ pointwise same_ref (map (ref_by (position_of ids)) vs) (map (ref_by (position_of ids)) ws)
same_values ids [] [] live there = refl
same_values ids [] (w ∷ ws) live there = refl
same_values ids (v ∷ vs) [] live there = refl
same_values ids (v ∷ vs) (w ∷ ws) live there =
    ap₂ (λ a b. a && b) (same-ref_by ids v w (All-head (IsLive ids) v vs live) (All-head (IsLive ids) w ws there))
    (same_values ids vs ws (All-tail (IsLive ids) v vs live) (All-tail (IsLive ids) w ws there))

pub same_is_equal : (ids : List ℕ) (o p : BodyOp) → HasLive ids o → HasLive ids p → are_same o.parts o.operands p.parts p.operands ≡ are_equal (op_by (position_of ids) o) (op_by (position_of ids) p)
unfolding are_same
same_is_equal ids o p live there =
    ap (λ b. same_kind (value_kind (first_type o.parts) o.parts.kind) (value_kind (first_type p.parts) p.parts.kind)
    && (b && (pointwise same_type o.parts.types p.parts.types && pointwise same_type (types_of_results o.parts) (types_of_results p.parts))))
    (same_values ids o.operands p.operands live there)

-- ---- hashes

id_from : (a b : OpId) → a.index ≡ b.index → a ≡ b
id_from a b same = ap (λ n. record { index = n }) same

value_self : (v : Value) → same_value v v ≡ true
value_self (Port n) = number_self n
value_self (Result i k) = both (nat_eq i.index i.index) (nat_eq k k) (number_self i.index) (number_self k)
value_self Undefined = refl

value_from : (v w : Value) → same_value v w ≡ true → v ≡ w
value_from (Port m) (Port n) h = ap Port (number_from m n h)
value_from (Result i m) (Result j n) h =
    let p = both_of (nat_eq i.index j.index) (nat_eq m n) h in
    ap₂ Result (id_from i j (number_from i.index j.index p.0)) (number_from m n p.1)
value_from Undefined Undefined h = refl
value_from (Port m) (Result j n) h = cc
value_from (Port m) Undefined h = cc
value_from (Result i m) (Port n) h = cc
value_from (Result i m) Undefined h = cc
value_from Undefined (Port n) h = cc
value_from Undefined (Result j n) h = cc

values_apart : TellsApart same_value
values_apart = record { self = value_self; from = value_from }

module _ (p : OpParts) (vs : List Value) (q : OpParts) (ws : List Value) (same : are_same p vs q ws ≡ true) where
  record Parts : Type 0 where
    pub kinds : value_kind (first_type p) p.kind ≡ value_kind (first_type q) q.kind
    pub values : vs ≡ ws
    pub types : first_type p ≡ first_type q

  parts : Parts
  unfolding are_same
  parts =
      let first = both_of (same_kind (value_kind (first_type p) p.kind) (value_kind (first_type q) q.kind))
      (pointwise same_value vs ws && (pointwise same_type p.types q.types && pointwise same_type (types_of_results p) (types_of_results q))) same in
      let second = both_of (pointwise same_value vs ws) (pointwise same_type p.types q.types && pointwise same_type (types_of_results p) (types_of_results q)) first.1 in
      let third = both_of (pointwise same_type p.types q.types) (pointwise same_type (types_of_results p) (types_of_results q)) second.1 in
      record {
        kinds = kinds_apart.from (value_kind (first_type p) p.kind) (value_kind (first_type q) q.kind) first.0;
        values = (lists_apart same_value values_apart).from vs ws second.0;
        types = first_types p.results q.results third.1;
      }

  opcodes : opcode_of p.kind ≡ opcode_of q.kind
  opcodes = sym (opcode_value (first_type p) p.kind) ∙ ap opcode_of parts.kinds ∙ opcode_value (first_type q) q.kind

  -- what the hash begins with
  begins : with_bytes (width_number (first_type p)) (name_of_listed (opcode_of p.kind)) ≡ with_bytes (width_number (first_type q)) (name_of_listed (opcode_of q.kind))
  begins = ap₂ (λ t o. with_bytes (width_number t) (name_of_listed o)) parts.types opcodes

  pub same_hash : hash_of p vs ≡ hash_of q ws
  unfolding hash_of
  same_hash = ap₂ with_values (ap₂ with_attributes begins parts.kinds) parts.values

  pub same_purity : is_pure p.kind ≡ is_pure q.kind
  same_purity = sym (pure_value (first_type p) p.kind) ∙ ap is_pure parts.kinds ∙ pure_value (first_type q) q.kind
