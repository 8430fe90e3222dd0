-- How many names the results of an operation want.
use Rattle.std.proofs.Common.{◌≡◌, ℕ, zero, suc, ◌<◌, ◌≤◌, Bool, true, false, List, [], ◌∷◌, length, drop, refl, ap, ◌∙◌, sym, arith, length-drop}
use Rattle.std.proofs.lemmas.List.{length-map}
use Rattle.std.proofs.lemmas.Bool.{ltb-true, ltb-false}
use Rattle.std.specs.Prelude.{Option, Some, None}
use Rattle.hw_model.specs.Types.{Name, HwType}
use Rattle.hw_model.specs.Types.HwType.{int, clock, array, struct}
use Rattle.hw_model.specs.Kinds.{Kind}
use Rattle.hw_model.specs.Kinds.StructOp.{struct_explode}
use Rattle.hw_model.specs.Kinds.Kind.{on_struct, instance, output}
use Rattle.hw_model.specs.Sound.{field_list}
use Rattle.hw_model.specs.Design.{Port, Op}
use Rattle.type_inference.specs.ResultTypes.{first_type, fields_of, field_count, result_types, result_count}
use Rattle.op_checks.specs.CountChecks.{type_count}
use Rattle.printing_laws.specs.Parts.{parts_in}
use Rattle.printing_laws.specs.NameHints.{instance_name_hints, pack_name_hints, name_hints_of, name_count, is_pack}
use Rattle.printing_laws.specs.Printable.{settled_result, IsPrintableOp}

-- a pack is that of a struct with two fields or more
pub pack_kind : (k : Kind) (n : ℕ) → is_pack k n ≡ true → (k ≡ (on_struct struct_explode)) × (1 < n)
pack_kind (on_struct struct_explode) n h = (refl, ltb-true 1 n h)
pack_kind _ n h = cc

pub pack_named : (k : Kind) (ts : List HwType) (own : Name) (n : ℕ) → is_pack k n ≡ true → length (name_hints_of k ts own n) ≡ 1
unfolding name_hints_of
pack_named k ts own n h =
    let p = pack_kind k n h in
    ap (λ kind. length (name_hints_of kind ts own n)) p.0 ∙ some_fields n p.1
  where
    some_fields : (n : ℕ) → 1 < n → length (pack_name_hints n) ≡ 1
    some_fields zero lt = absurd (omega (arith, lt))
    some_fields (suc n) lt = refl

-- ---- instances

-- an instance takes a name for each of its outputs
pub instance_length : (u : Name) (qs : List Name) → length (instance_name_hints u qs) ≡ length qs
instance_length u [] = refl
instance_length u (q ∷ qs) = ap suc (instance_length u qs)

-- ---- results

pub types_counted : (k : Kind) (ts : List HwType) (n : ℕ) → length (result_types k ts n) ≡ result_count k ts
unfolding result_types result_count
types_counted output ts n = refl
types_counted (on_struct struct_explode) ts n = fields (first_type ts)
  where
    fields : (t : Option HwType) → length (fields_of t) ≡ field_count t
    fields None = refl
    fields (Some (int w)) = refl
    fields (Some clock) = refl
    fields (Some (array m t)) = refl
    fields (Some (struct fs)) = length-map (field_list fs) (λ (t : HwType). Some t)
types_counted (instance i) ts n = length-map (drop (length i.inputs) ts) (λ (t : HwType). Some t) ∙ length-drop (length i.inputs) ts
types_counted _ ts n = refl

pub names_counted : (k : Kind) (ts : List HwType) (own : Name) (n c : ℕ) → n ≡ result_count k ts → length ts ≡ type_count k c → is_pack k n ≡ false
    → length (name_hints_of k ts own n) ≡ n
unfolding name_hints_of result_count type_count
names_counted output ts own n c e t h = sym e
names_counted (on_struct struct_explode) ts own n c e t h = few n h
  where
    few : (n : ℕ) → is_pack (on_struct struct_explode) n ≡ false → length (pack_name_hints n) ≡ n
    few zero h = refl
    few (suc n) h = let le : suc n ≤ 1 = ltb-false 1 (suc n) h in omega (arith, le)
names_counted (instance i) ts own n c e t h = instance_length i.name i.outputs ∙ omega (arith, e, t)
names_counted _ ts own n c e t h = sym e

module _ (ports : List Port) (body : List Op) (o : Op) (p : IsPrintableOp ports body o) where
  pub results_length : length o.results ≡ result_count o.kind o.types
  results_length =
      ap length p.results ∙ length-map (result_types o.kind o.types (length o.operands)) settled_result ∙ types_counted o.kind o.types (length o.operands)

  pub few_names : name_count (parts_in o) ≤ length o.results
  few_names = go (is_pack o.kind (length o.results)) refl
    where
      go : (b : Bool) → is_pack o.kind (length o.results) ≡ b → name_count (parts_in o) ≤ length o.results
      go true h =
          let lt = (pack_kind o.kind (length o.results) h).1 in
          let e = pack_named o.kind o.types o.name (length o.results) h in
          omega (arith, lt, e)
      go false h =
          let e = names_counted o.kind o.types o.name (length o.results) (length o.operands) results_length p.types h in
          omega (arith, e)
