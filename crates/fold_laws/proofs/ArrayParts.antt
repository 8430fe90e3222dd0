-- An element of an array that was made of elements: the operand that is it stands for it.
use Rattle.std.proofs.Common.{◌≡◌, ℕ, zero, suc, ◌+◌, ◌*◌, ◌<◌, ◌≤◌, Bool, true, false, cond, nat_eq, List, [], ◌∷◌, ◌++◌, length, map, Option, Some, slice_get, refl, sym, ap, ap₂, subst, ◌∙◌, inl}
use Rattle.std.proofs.Common.{inr, arith, length-append, add_comm, zero-mul, option_and_then}
use Rattle.std.proofs.Math.Nat.{suc-mul, mul-le-mul_right}
use Rattle.std.proofs.lemmas.Bool.{lt-ltb}
use Rattle.std.proofs.lemmas.List.{length-map}
use Rattle.wiring.specs.Wiring.{In}
use Rattle.wiring.proofs.Members.{In-map}
use Rattle.wiring.proofs.Options.{and_then_some}
use Rattle.bits_core.specs.Word.{Word, number, zeros, extract as bits_from}
use Rattle.bits_core.proofs.First.{extract-append}
use Rattle.hw_model.specs.Equality.{number_from}
use Rattle.hw_model.specs.Types.{HwType, width}
use Rattle.hw_model.specs.Types.HwType.{array}
use Rattle.hw_model.specs.Kinds.{Kind}
use Rattle.hw_model.specs.Kinds.ArrayOp.{array_create, array_get}
use Rattle.hw_model.specs.Kinds.Kind.{on_array}
use Rattle.hw_model.specs.Design.{Ref, Op}
use Rattle.hw_model.specs.Design.Ref.{port, result, undefined}
use Rattle.hw_model.specs.Value.{concat_words, element, nth_type, op_value}
use Rattle.fold_laws.specs.Constants.{constant_at}
use Rattle.fold_laws.specs.Parts.{maker, element_operand, created_element, element_of_made, array_part}
use Rattle.fold_laws.proofs.MakerOperands.{Maker, MakerOperandStands, IsMakerOperand}
use Rattle.fold_laws.proofs.JoinedParts.{extract_after}
use Rattle.fold_laws.proofs.MadeKinds.{is_made}
use Rattle.fold_laws.proofs.Stands.{Known, held_width}

-- ---- elements

record Element (n : ℕ) (rs : List Ref) (x : Ref) : Type 0 where
  named : In x rs
  within : n < length rs

element_is : (n : ℕ) (rs : List Ref) (x : Ref) → element_operand n rs ≡ Some x → Element n rs x
element_is n [] x is = cc
element_is n (y ∷ ys) x is = go (nat_eq n (length ys)) refl is (element_is n ys x)
  where
    go : (b : Bool) → nat_eq n (length ys) ≡ b → cond b (Some y) (element_operand n ys) ≡ Some x → (element_operand n ys ≡ Some x → Element n ys x) → Element n (y ∷ ys) x
    go true met h later =
        let same : y ≡ x = cc in
        let last : n ≡ length ys = number_from n (length ys) met in
        record { named = inl (sym same); within = omega arith }
    go false met h later =
        let rest = later h in
        let less : n < length ys = rest.within in
        record { named = inr rest.named; within = omega arith }

module _ (τ : Ref → Word) (w : ℕ) where
  all_size : (rs : List Ref) → ((r : Ref) → In r rs → length (τ r) ≡ w) → length (concat_words (map τ rs)) ≡ length rs * w
  all_size [] wide = sym (zero-mul w)
  all_size (y ∷ ys) wide =
      length-append (τ y) (concat_words (map τ ys)) ∙ ap₂ (λ m n. m + n) (wide y (inl refl)) (all_size ys (λ r here. wide r (inr here)))
      ∙ more (length ys)
    where
      more : (n : ℕ) → w + n * w ≡ suc n * w
      more n = add_comm w (n * w) ∙ sym (suc-mul n w)

  element_word : (n : ℕ) (rs : List Ref) (x : Ref) → ((r : Ref) → In r rs → length (τ r) ≡ w) → element_operand n rs ≡ Some x
      → bits_from (n * w) w (concat_words (map τ rs)) ≡ τ x
  element_word n [] x wide is = cc
  element_word n (y ∷ ys) x wide is = go (nat_eq n (length ys)) refl is (element_word n ys x (λ r here. wide r (inr here)))
    where
      size : length (concat_words (map τ ys)) ≡ length ys * w
      size = all_size ys (λ r here. wide r (inr here))

      room : (k m : ℕ) → k < m → k * w + w ≤ m * w
      room k m less = subst (λ z. z ≤ m * w) (suc-mul k w) (mul-le-mul_right {m = suc k} {n = m} w less)

      go : (b : Bool) → nat_eq n (length ys) ≡ b → cond b (Some y) (element_operand n ys) ≡ Some x
          → (element_operand n ys ≡ Some x → bits_from (n * w) w (concat_words (map τ ys)) ≡ τ x) → bits_from (n * w) w (τ y ++ concat_words (map τ ys)) ≡ τ x
      go true met h later =
          let same : y ≡ x = cc in
          ap₂ (λ k m. bits_from k m (τ y ++ concat_words (map τ ys))) (ap (λ k. k * w) (number_from n (length ys) met) ∙ sym size) (sym (wide y (inl refl)))
          ∙ extract-append [] (τ y) (concat_words (map τ ys)) ∙ ap τ same
      go false met h later =
          extract_after (n * w) w (τ y) (concat_words (map τ ys)) (subst (λ m. n * w + w ≤ m) (sym size) (room n (length ys) (element_is n ys x h).within)) ∙ later h

-- ---- what was made

-- the operation that made the array, and the index
record Indexed (os : List Op) (rs : List Ref) (x : Ref) : Type 0 where
  position : ℕ
  op : Op
  there : slice_get os position ≡ Some op
  index : Ref
  word : Word
  index_is : constant_at os index ≡ Some word
  operands : rs ≡ result position 0 ∷ index ∷ []
  kind : op.kind ≡ on_array array_create
  element_found : element_operand (number word) op.operands ≡ Some x

create_is : (n : ℕ) (kind : Kind) (rs : List Ref) (x : Ref) → created_element n kind rs ≡ Some x → (kind ≡ on_array array_create) × (element_operand n rs ≡ Some x)
create_is n (on_array array_create) rs x is = (refl, is)
create_is n _ rs x is = cc

-- the result that has a maker
made_result : (os : List Op) (a : Ref) (c : Op) → maker os a ≡ Some c → (j : ℕ) × (a ≡ result j 0) × (slice_get os j ≡ Some c)
made_result os (port j) c is = cc
made_result os undefined c is = cc
made_result os (result j (suc k)) c is = cc
made_result os (result j zero) c is = (j, refl, is)

indexed : (os : List Op) (rs : List Ref) (x : Ref) → element_of_made os rs ≡ Some x → Indexed os rs x
indexed os [] x is = cc
indexed os (a ∷ []) x is = cc
indexed os (a ∷ i ∷ []) x is =
    let word = and_then_some (constant_at os i) (λ (w : Word). option_and_then (λ (c : Op). created_element (number w) c.kind c.operands) (maker os a)) is in
    let found = and_then_some (maker os a) (λ (c : Op). created_element (number word.0) c.kind c.operands) word.2 in
    let made = made_result os a found.0 found.1 in
    let parts = create_is (number word.0) found.0.kind found.0.operands x found.2 in
    record {
      position = made.0;
      op = found.0;
      there = made.2;
      index = i;
      word = word.0;
      index_is = word.1;
      operands = ap (λ r. r ∷ i ∷ []) made.1;
      kind = parts.0;
      element_found = parts.1;
    }
indexed os (a ∷ i ∷ s ∷ rs) x is = cc

indexed_maker : (os : List Op) (rs : List Ref) (x : Ref) → Indexed os rs x → Maker os rs x
indexed_maker os rs x made = record {
  position = made.position;
  op = made.op;
  there = made.there;
  made = ap is_made made.kind;
  operand = subst (In (result made.position 0)) (sym made.operands) (inl refl);
  named = (element_is (number made.word) made.op.operands x made.element_found).named;
}

-- an element within an array
element_within : (n : ℕ) (e : HwType) (a : Word) (i : ℕ) → i < n → element (array n e) a i ≡ bits_from (i * width e) (width e) a
element_within n e a i less = ap (λ b. cond b (bits_from (i * width e) (width e) a) (zeros (width e))) (lt-ltb i n less)

pub array_part_law : IsMakerOperand array_part
unfolding indexed_maker
array_part_law = record { made = made; maker = the_maker; stands = stands }
  where
    made : (os : List Op) (kind : Kind) (ts : List HwType) (rs : List Ref) (x : Ref) → array_part os kind ts rs ≡ Some x → is_made kind ≡ true
    made os (on_array array_get) ts rs x is = refl
    made os _ ts rs x is = cc

    the_maker : (os : List Op) (kind : Kind) (ts : List HwType) (rs : List Ref) (x : Ref) → array_part os kind ts rs ≡ Some x → Maker os rs x
    the_maker os (on_array array_get) ts rs x is = indexed_maker os rs x (indexed os rs x is)
    the_maker os _ ts rs x is = cc

    of_indexed : (os : List Op) (ts : List HwType) (rs : List Ref) (x : Ref) (type_of : Ref → Option HwType) (t u : HwType)
        → (c : Indexed os rs x) → Known os (on_array array_get) ts rs type_of t → type_of (result c.position 0) ≡ Some u → Known os c.op.kind c.op.types c.op.operands type_of u
        → MakerOperandStands os (on_array array_get) ts rs x (indexed_maker os rs x c) type_of t u
    of_indexed os ts rs x type_of t u c known typed maker_known =
        let own = known.fits in
        let from = subst (λ z. Known os z c.op.types c.op.operands type_of u) c.kind maker_known in
        let making = from.fits in
        let alone : map type_of rs ≡ Some u ∷ type_of c.index ∷ [] = ap (map type_of) c.operands ∙ ap (λ z. z ∷ type_of c.index ∷ []) typed in
        let both : Some (array own.0 t) ∷ Some own.1 ∷ [] ≡ Some u ∷ type_of c.index ∷ [] = sym own.2 ∙ alone in
        let one : array own.0 t ≡ u = cc in
        let made_of : array own.0 t ≡ array (length (map type_of c.op.operands)) making.0 = one ∙ making.1 in
        let count : own.0 ≡ length (map type_of c.op.operands) = cc in
        let same : t ≡ making.0 = cc in
        let found = element_is (number c.word) c.op.operands x c.element_found in
        let each = each_typed c.op.operands making.0 making.2 same in
        let less : number c.word < own.0 = subst (λ m. number c.word < m) (sym (count ∙ length-map c.op.operands type_of)) found.within in
        record {
          typed = each x found.named;
          words = λ τ held maker_is.
              ap (λ q. op_value (on_array array_get) ts t 0 (map τ q)) c.operands
              ∙ ap₂ (λ a i. element (nth_type ts 0) a (number i)) (maker_is ∙ ap (λ z. op_value z c.op.types u 0 (map τ c.op.operands)) c.kind) (held.constants c.index c.word c.index_is)
              ∙ ap (λ v. element v (concat_words (map τ c.op.operands)) (number c.word)) own.3
              ∙ element_within own.0 t (concat_words (map τ c.op.operands)) (number c.word) less
              ∙ element_word τ (width t) (number c.word) c.op.operands x (λ r here. held_width held r t (each r here)) c.element_found;
        }
      where
        each_typed : (xs : List Ref) (e : HwType) → ((y : Option HwType) → In y (map type_of xs) → y ≡ Some e) → t ≡ e → (r : Ref) → In r xs → type_of r ≡ Some t
        each_typed xs e all same r here = all (type_of r) (In-map type_of r xs here) ∙ ap Some (sym same)

    stands : (os : List Op) (kind : Kind) (ts : List HwType) (rs : List Ref) (x : Ref) (type_of : Ref → Option HwType) (t u : HwType)
        → (is : array_part os kind ts rs ≡ Some x) → Known os kind ts rs type_of t → type_of (result (the_maker os kind ts rs x is).position 0) ≡ Some u
        → Known os (the_maker os kind ts rs x is).op.kind (the_maker os kind ts rs x is).op.types (the_maker os kind ts rs x is).op.operands type_of u
        → MakerOperandStands os kind ts rs x (the_maker os kind ts rs x is) type_of t u
    stands os (on_array array_get) ts rs x type_of t u is known typed maker_known = of_indexed os ts rs x type_of t u (indexed os rs x is) known typed maker_known
    stands os _ ts rs x type_of t u is known typed maker_known = cc
