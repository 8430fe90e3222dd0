-- A field of a struct that was made of fields: the operand that is it stands for it.
use Rattle.std.proofs.Common.{◌≡◌, ℕ, zero, suc, Bool, true, false, cond, List, [], ◌∷◌, ◌++◌, length, map, take, drop, Option, Some, slice_get, refl, sym, ap, subst, ◌∙◌, inl, inr}
use Rattle.std.proofs.Math.Seq.{take-append_seam, drop-append_seam}
use Rattle.wiring.specs.Wiring.{In}
use Rattle.wiring.proofs.Options.{and_then_some}
use Rattle.bits_core.specs.Word.{Word}
use Rattle.hw_model.specs.Types.{Name, HwType, FieldTypes, width}
use Rattle.hw_model.specs.Types.HwType.{struct}
use Rattle.hw_model.specs.Types.FieldTypes.{no_fields, field}
use Rattle.hw_model.specs.Kinds.{Kind}
use Rattle.hw_model.specs.Kinds.StructOp.{struct_create, struct_extract}
use Rattle.hw_model.specs.Kinds.Kind.{on_struct}
use Rattle.hw_model.specs.Design.{Ref, Op, same_name}
use Rattle.hw_model.specs.Design.Ref.{port, result, undefined}
use Rattle.hw_model.specs.Sound.{field_list, field_type, Fits}
use Rattle.hw_model.specs.Value.{concat_words, fields, field_of, nth_type, op_value}
use Rattle.fold_laws.specs.Parts.{field_operand, created_field, field_of_made, struct_part}
use Rattle.fold_laws.proofs.MakerOperands.{Maker, MakerOperandStands, IsMakerOperand}
use Rattle.fold_laws.proofs.MadeKinds.{is_made}
use Rattle.fold_laws.proofs.Stands.{Known, held_width}

-- ---- fields

field_named : (fs : FieldTypes) (name : Name) (xs : List Ref) (x : Ref) → field_operand fs name xs ≡ Some x → In x xs
field_named no_fields name xs x is = cc
field_named (field f t fs) name [] x is = cc
field_named (field f t fs) name (y ∷ ys) x is = go (same_name f name) is (field_named fs name ys x)
  where
    go : (b : Bool) → cond b (Some y) (field_operand fs name ys) ≡ Some x → (field_operand fs name ys ≡ Some x → In x ys) → In x (y ∷ ys)
    go true h later = let same : y ≡ x = cc in inl (sym same)
    go false h later = inr (later h)

field_typed : (fs : FieldTypes) (name : Name) (xs : List Ref) (x : Ref) (type_of : Ref → Option HwType) (t : HwType)
    → map type_of xs ≡ map (λ (v : HwType). Some v) (field_list fs) → field_operand fs name xs ≡ Some x → field_type fs name ≡ Some t → type_of x ≡ Some t
field_typed no_fields name xs x type_of t types is found = cc
field_typed (field f u fs) name [] x type_of t types is found = cc
field_typed (field f u fs) name (y ∷ ys) x type_of t types is found =
    let first : type_of y ≡ Some u = cc in
    let rest : map type_of ys ≡ map (λ (v : HwType). Some v) (field_list fs) = cc in
    go (same_name f name) first is found (field_typed fs name ys x type_of t rest)
  where
    go : (b : Bool) → type_of y ≡ Some u → cond b (Some y) (field_operand fs name ys) ≡ Some x → cond b (Some u) (field_type fs name) ≡ Some t
        → (field_operand fs name ys ≡ Some x → field_type fs name ≡ Some t → type_of x ≡ Some t) → type_of x ≡ Some t
    go true first h g later =
        let same : y ≡ x = cc in
        let one : u ≡ t = cc in
        ap type_of (sym same) ∙ first ∙ ap Some one
    go false first h g later = later h g

field_word : (fs : FieldTypes) (name : Name) (xs : List Ref) (x : Ref) (type_of : Ref → Option HwType) (τ : Ref → Word)
    → ((r : Ref) (t : HwType) → type_of r ≡ Some t → length (τ r) ≡ width t)
    → map type_of xs ≡ map (λ (v : HwType). Some v) (field_list fs) → field_operand fs name xs ≡ Some x → field_of fs name (concat_words (map τ xs)) ≡ τ x
field_word no_fields name xs x type_of τ wide types is = cc
field_word (field f u fs) name [] x type_of τ wide types is = cc
field_word (field f u fs) name (y ∷ ys) x type_of τ wide types is =
    let first : type_of y ≡ Some u = cc in
    let rest : map type_of ys ≡ map (λ (v : HwType). Some v) (field_list fs) = cc in
    go (same_name f name) (wide y u first) is (field_word fs name ys x type_of τ wide rest)
  where
    go : (b : Bool) → length (τ y) ≡ width u → cond b (Some y) (field_operand fs name ys) ≡ Some x
        → (field_operand fs name ys ≡ Some x → field_of fs name (concat_words (map τ ys)) ≡ τ x)
        → cond b (take (width u) (τ y ++ concat_words (map τ ys))) (field_of fs name (drop (width u) (τ y ++ concat_words (map τ ys)))) ≡ τ x
    go true size h later =
        let same : y ≡ x = cc in
        ap (λ n. take n (τ y ++ concat_words (map τ ys))) (sym size) ∙ take-append_seam (τ y) (concat_words (map τ ys)) ∙ ap τ same
    go false size h later =
        ap (field_of fs name) (ap (λ n. drop n (τ y ++ concat_words (map τ ys))) (sym size) ∙ drop-append_seam (τ y) (concat_words (map τ ys))) ∙ later h

-- ---- what was made

-- the operation that made the struct
record Created (os : List Op) (fs : FieldTypes) (name : Name) (rs : List Ref) (x : Ref) : Type 0 where
  position : ℕ
  op : Op
  there : slice_get os position ≡ Some op
  operands : rs ≡ result position 0 ∷ []
  kind : op.kind ≡ on_struct struct_create
  field_is : field_operand fs name op.operands ≡ Some x

create_is : (fs : FieldTypes) (name : Name) (kind : Kind) (rs : List Ref) (x : Ref) → created_field fs name kind rs ≡ Some x
    → (kind ≡ on_struct struct_create) × (field_operand fs name rs ≡ Some x)
create_is fs name (on_struct struct_create) rs x is = (refl, is)
create_is fs name _ rs x is = cc

created : (os : List Op) (fs : FieldTypes) (name : Name) (rs : List Ref) (x : Ref) → field_of_made os fs name rs ≡ Some x → Created os fs name rs x
created os fs name [] x is = cc
created os fs name (port j ∷ []) x is = cc
created os fs name (undefined ∷ []) x is = cc
created os fs name (result j (suc k) ∷ []) x is = cc
created os fs name (result j zero ∷ []) x is =
    let found = and_then_some (slice_get os j) (λ (c : Op). created_field fs name c.kind c.operands) is in
    let parts = create_is fs name found.0.kind found.0.operands x found.2 in
    record { position = j; op = found.0; there = found.1; operands = refl; kind = parts.0; field_is = parts.1 }
created os fs name (r ∷ s ∷ rs) x is = cc

created_maker : (os : List Op) (fs : FieldTypes) (name : Name) (rs : List Ref) (x : Ref) → Created os fs name rs x → Maker os rs x
created_maker os fs name rs x made = record {
  position = made.position;
  op = made.op;
  there = made.there;
  made = ap is_made made.kind;
  operand = subst (In (result made.position 0)) (sym made.operands) (inl refl);
  named = field_named fs name made.op.operands x made.field_is;
}

pub struct_part_law : IsMakerOperand struct_part
unfolding created_maker
struct_part_law = record { made = made; maker = the_maker; stands = stands }
  where
    made : (os : List Op) (kind : Kind) (ts : List HwType) (rs : List Ref) (x : Ref) → struct_part os kind ts rs ≡ Some x → is_made kind ≡ true
    made os (on_struct (struct_extract name)) ts rs x is = refl
    made os _ ts rs x is = cc

    the_maker : (os : List Op) (kind : Kind) (ts : List HwType) (rs : List Ref) (x : Ref) → struct_part os kind ts rs ≡ Some x → Maker os rs x
    the_maker os (on_struct (struct_extract name)) ts rs x is = created_maker os (fields (nth_type ts 0)) name rs x (created os (fields (nth_type ts 0)) name rs x is)
    the_maker os _ ts rs x is = cc

    of_created : (os : List Op) (name : Name) (ts : List HwType) (rs : List Ref) (x : Ref) (type_of : Ref → Option HwType) (t u : HwType)
        → (c : Created os (fields (nth_type ts 0)) name rs x) → Known os (on_struct (struct_extract name)) ts rs type_of t → type_of (result c.position 0) ≡ Some u
        → Known os c.op.kind c.op.types c.op.operands type_of u
        → MakerOperandStands os (on_struct (struct_extract name)) ts rs x (created_maker os (fields (nth_type ts 0)) name rs x c) type_of t u
    of_created os name ts rs x type_of t u c known typed maker_known =
        let own = known.fits in
        let from = subst (λ z. Fits z c.op.types (map type_of c.op.operands) u 0) c.kind maker_known.fits in
        let alone : map type_of rs ≡ Some u ∷ [] = ap (map type_of) c.operands ∙ ap (λ z. z ∷ []) typed in
        let both : Some (struct own.0) ∷ [] ≡ Some u ∷ [] = sym own.1 ∙ alone in
        let one : struct own.0 ≡ u = cc in
        let same : nth_type ts 0 ≡ u = own.2 ∙ one in
        let listed : fields (nth_type ts 0) ≡ from.0 = ap fields (same ∙ from.1) in
        let own_listed : own.0 ≡ fields (nth_type ts 0) = ap fields (sym own.2) in
        let types : map type_of c.op.operands ≡ map (λ (v : HwType). Some v) (field_list (fields (nth_type ts 0))) =
        from.2 ∙ ap (λ fs. map (λ (v : HwType). Some v) (field_list fs)) (sym listed) in
        record {
          typed = field_typed (fields (nth_type ts 0)) name c.op.operands x type_of t types c.field_is (ap (λ fs. field_type fs name) (sym own_listed) ∙ own.3);
          words = λ τ held maker_is.
              ap (λ q. op_value (on_struct (struct_extract name)) ts t 0 (map τ q)) c.operands
              ∙ ap (field_of (fields (nth_type ts 0)) name) (maker_is ∙ ap (λ z. op_value z c.op.types u 0 (map τ c.op.operands)) c.kind)
              ∙ field_word (fields (nth_type ts 0)) name c.op.operands x type_of τ (λ r v typed. held_width held r v typed) types c.field_is;
        }

    stands : (os : List Op) (kind : Kind) (ts : List HwType) (rs : List Ref) (x : Ref) (type_of : Ref → Option HwType) (t u : HwType)
        → (is : struct_part os kind ts rs ≡ Some x) → Known os kind ts rs type_of t → type_of (result (the_maker os kind ts rs x is).position 0) ≡ Some u
        → Known os (the_maker os kind ts rs x is).op.kind (the_maker os kind ts rs x is).op.types (the_maker os kind ts rs x is).op.operands type_of u
        → MakerOperandStands os kind ts rs x (the_maker os kind ts rs x is) type_of t u
    stands os (on_struct (struct_extract name)) ts rs x type_of t u is known typed maker_known =
        of_created os name ts rs x type_of t u (created os (fields (nth_type ts 0)) name rs x is) known typed maker_known
    stands os _ ts rs x type_of t u is known typed maker_known = cc
