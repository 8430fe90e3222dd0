-- Bits of joined values that are one of them: that value stands for them.
use Rattle.std.proofs.Common.{◌≡◌, ℕ, zero, suc, ◌+◌, ◌-◌, ◌≤◌, Bool, true, false, cond, not, ◌&&◌, nat_eq, List, [], ◌∷◌, ◌++◌, length, map, take, drop, Option, Some, slice_get, refl, sym, ap, ap₂}
use Rattle.std.proofs.Common.{subst, ◌∙◌, inl, inr, arith, length-append}
use Rattle.std.specs.List.{list_any}
use Rattle.std.proofs.Math.Seq.{drop-append-add}
use Rattle.std.proofs.lemmas.List.{length-map}
use Rattle.wiring.specs.Lists.{total}
use Rattle.wiring.specs.Wiring.{In}
use Rattle.wiring.proofs.Options.{and_then_some}
use Rattle.bits_core.specs.Word.{Word, extract as bits_from}
use Rattle.bits_core.proofs.First.{extract-append}
use Rattle.hw_model.specs.Equality.{both_of, number_from}
use Rattle.hw_model.specs.Types.{HwType, width}
use Rattle.hw_model.specs.Types.HwType.{int, clock, array, struct}
use Rattle.hw_model.specs.Kinds.{Kind}
use Rattle.hw_model.specs.Kinds.Kind.{extract, concat}
use Rattle.hw_model.specs.Design.{Ref, Op}
use Rattle.hw_model.specs.Design.Ref.{port, result, undefined}
use Rattle.hw_model.specs.Value.{concat_words, nth_type, op_value}
use Rattle.type_inference.specs.ResultTypes.{second_type, result_type as type_of_result}
use Rattle.stored_form.specs.ResultTypes.{type_or_none}
use Rattle.op_checks.specs.CountChecks.{type_count}
use Rattle.op_checks.specs.OperandChecks.{has_other_form, has_other_operand}
use Rattle.op_checks.specs.TypeChecks.{is_int}
use Rattle.op_checks.specs.TypeLists.{known_types, differ}
use Rattle.op_checks.proofs.Agreeing.{pairwise_agreed}
use Rattle.op_checks.proofs.Widths.{neither}
use Rattle.fold_laws.specs.Parts.{covered_operand, joined_operand, covered_of_made, extract_part}
use Rattle.fold_laws.proofs.MakerOperands.{Maker, MakerOperandStands, IsMakerOperand}
use Rattle.fold_laws.proofs.IntegerTypes.{integer_second}
use Rattle.fold_laws.proofs.MadeKinds.{is_made}
use Rattle.fold_laws.proofs.Stands.{Known, held_width}

-- ---- operands

-- the operand that bits are, and its type
record Covered (low w : ℕ) (us : List HwType) (rs : List Ref) (x : Ref) (type_of : Ref → Option HwType) : Type 0 where
  named : In x rs
  part : HwType
  typed : type_of x ≡ Some part
  among : In part us
  size : w ≡ width part
  within : low + w ≤ total (map width us)

covered : (low w : ℕ) (us : List HwType) (rs : List Ref) (x : Ref) (type_of : Ref → Option HwType) → map type_of rs ≡ known_types us → covered_operand low w us rs ≡ Some x
    → Covered low w us rs x type_of
covered low w [] rs x type_of types is = cc
covered low w (u ∷ us) [] x type_of types is = cc
covered low w (u ∷ us) (y ∷ ys) x type_of types is =
    let first : type_of y ≡ Some u = cc in
    let rest : map type_of ys ≡ known_types us = cc in
    go (nat_eq low (total (map width us)) && nat_eq w (width u)) refl first is (covered low w us ys x type_of rest)
  where
    go : (b : Bool) → (nat_eq low (total (map width us)) && nat_eq w (width u)) ≡ b → type_of y ≡ Some u → cond b (Some y) (covered_operand low w us ys) ≡ Some x
        → (covered_operand low w us ys ≡ Some x → Covered low w us ys x type_of) → Covered low w (u ∷ us) (y ∷ ys) x type_of
    go true met first h later =
        let parts = both_of (nat_eq low (total (map width us))) (nat_eq w (width u)) met in
        let start : low ≡ total (map width us) = number_from low (total (map width us)) parts.0 in
        let size : w ≡ width u = number_from w (width u) parts.1 in
        let same : y ≡ x = cc in
        record {
          named = inl (sym same);
          part = u;
          typed = ap type_of (sym same) ∙ first;
          among = inl refl;
          size = size;
          within = omega arith;
        }
    go false met first h later =
        let inner = later h in
        let room : low + w ≤ total (map width us) = inner.within in
        record {
          named = inr inner.named;
          part = inner.part;
          typed = inner.typed;
          among = inr inner.among;
          size = inner.size;
          within = omega arith;
        }

-- ---- words

pub extract_after : (low w : ℕ) (y z : Word) → low + w ≤ length z → bits_from low w (y ++ z) ≡ bits_from low w z
extract_after low w y z room =
    let gap : length (y ++ z) - (low + w) ≡ length y + (length z - (low + w)) = omega (arith, length-append y z) in
    ap (λ k. take w (drop k (y ++ z))) gap ∙ ap (take w) (drop-append-add y z (length z - (low + w)))

module _ (type_of : Ref → Option HwType) (τ : Ref → Word) (wide : (r : Ref) (t : HwType) → type_of r ≡ Some t → length (τ r) ≡ width t) where
  joined_size : (us : List HwType) (rs : List Ref) → map type_of rs ≡ known_types us → length (concat_words (map τ rs)) ≡ total (map width us)
  joined_size [] [] types = refl
  joined_size [] (y ∷ ys) types = cc
  joined_size (u ∷ us) [] types = cc
  joined_size (u ∷ us) (y ∷ ys) types =
      let first : type_of y ≡ Some u = cc in
      let rest : map type_of ys ≡ known_types us = cc in
      length-append (τ y) (concat_words (map τ ys)) ∙ ap₂ (λ m n. m + n) (wide y u first) (joined_size us ys rest)

  covered_word : (low w : ℕ) (us : List HwType) (rs : List Ref) (x : Ref) → map type_of rs ≡ known_types us → covered_operand low w us rs ≡ Some x
      → bits_from low w (concat_words (map τ rs)) ≡ τ x
  covered_word low w [] rs x types is = cc
  covered_word low w (u ∷ us) [] x types is = cc
  covered_word low w (u ∷ us) (y ∷ ys) x types is =
      let first : type_of y ≡ Some u = cc in
      let rest : map type_of ys ≡ known_types us = cc in
      go (nat_eq low (total (map width us)) && nat_eq w (width u)) refl first rest is (covered_word low w us ys x rest)
    where
      go : (b : Bool) → (nat_eq low (total (map width us)) && nat_eq w (width u)) ≡ b → type_of y ≡ Some u → map type_of ys ≡ known_types us
          → cond b (Some y) (covered_operand low w us ys) ≡ Some x
          → (covered_operand low w us ys ≡ Some x → bits_from low w (concat_words (map τ ys)) ≡ τ x) → bits_from low w (τ y ++ concat_words (map τ ys)) ≡ τ x
      go true met first rest h later =
          let parts = both_of (nat_eq low (total (map width us))) (nat_eq w (width u)) met in
          let same : y ≡ x = cc in
          ap₂ (λ m n. bits_from m n (τ y ++ concat_words (map τ ys)))
          (number_from low (total (map width us)) parts.0 ∙ sym (joined_size us ys rest)) (number_from w (width u) parts.1 ∙ sym (wide y u first))
          ∙ extract-append [] (τ y) (concat_words (map τ ys)) ∙ ap τ same
      go false met first rest h later =
          let inner = covered low w us ys x type_of rest h in
          extract_after low w (τ y) (concat_words (map τ ys)) (subst (λ n. low + w ≤ n) (sym (joined_size us ys rest)) inner.within) ∙ later h

-- ---- types

integer_among : (us : List HwType) (v : HwType) → list_any (λ (t : HwType). not (is_int t)) us ≡ false → In v us → v ≡ int (width v)
integer_among [] v form here = absurd here
integer_among (u ∷ us) v form (inr here) = integer_among us v (neither (not (is_int u)) (list_any (λ (t : HwType). not (is_int t)) us) form).1 here
integer_among (u ∷ us) v form (inl same) = same ∙ of_first u (neither (not (is_int u)) (list_any (λ (t : HwType). not (is_int t)) us) form).0 ∙ ap (λ z. int (width z)) (sym same)
  where
    of_first : (u : HwType) → not (is_int u) ≡ false → u ≡ int (width u)
    of_first (int n) h = refl
    of_first clock h = cc
    of_first (array n t) h = cc
    of_first (struct fs) h = cc

-- the types of joined operands are those that are written
pub joined_types : (os : List Op) (us : List HwType) (rs : List Ref) (type_of : Ref → Option HwType) (u : HwType) → Known os concat us rs type_of u → map type_of rs ≡ known_types us
unfolding has_other_operand type_count
joined_types os us rs type_of u known =
    let own = known.fits in
    let count : length own.0 ≡ length us =
    sym (length-map own.0 (λ (v : HwType). Some v)) ∙ ap length (sym own.1) ∙ length-map rs type_of ∙ sym known.written in
    own.1 ∙ ap known_types (pairwise_agreed own.0 us count (ap (λ xs. differ xs (known_types us)) (sym own.1) ∙ known.asked))

second_written : (ts : List HwType) (t : HwType) → length ts ≡ 2 → t ≡ type_or_none (second_type ts) → nth_type ts 1 ≡ t
second_written [] t two settled = absurd (omega arith)
second_written (u ∷ []) t two settled = absurd (omega arith)
second_written (u ∷ v ∷ ts) t two settled = sym settled

-- ---- what was joined

-- the operation that joined the value
record Joined (os : List Op) (low w : ℕ) (rs : List Ref) (x : Ref) : Type 0 where
  position : ℕ
  op : Op
  there : slice_get os position ≡ Some op
  operands : rs ≡ result position 0 ∷ []
  kind : op.kind ≡ concat
  part_is : covered_operand low w op.types op.operands ≡ Some x

joined_is : (low w : ℕ) (kind : Kind) (us : List HwType) (rs : List Ref) (x : Ref) → joined_operand low w kind us rs ≡ Some x
    → (kind ≡ concat) × (covered_operand low w us rs ≡ Some x)
joined_is low w concat us rs x is = (refl, is)
joined_is low w _ us rs x is = cc

joined : (os : List Op) (low w : ℕ) (rs : List Ref) (x : Ref) → covered_of_made os low w rs ≡ Some x → Joined os low w rs x
joined os low w [] x is = cc
joined os low w (port j ∷ []) x is = cc
joined os low w (undefined ∷ []) x is = cc
joined os low w (result j (suc k) ∷ []) x is = cc
joined os low w (result j zero ∷ []) x is =
    let found = and_then_some (slice_get os j) (λ (c : Op). joined_operand low w c.kind c.types c.operands) is in
    let parts = joined_is low w found.0.kind found.0.types found.0.operands x found.2 in
    record { position = j; op = found.0; there = found.1; operands = refl; kind = parts.0; part_is = parts.1 }
joined os low w (r ∷ s ∷ rs) x is = cc

covered_named : (low w : ℕ) (us : List HwType) (rs : List Ref) (x : Ref) → covered_operand low w us rs ≡ Some x → In x rs
covered_named low w [] rs x is = cc
covered_named low w (u ∷ us) [] x is = cc
covered_named low w (u ∷ us) (y ∷ ys) x is = go (nat_eq low (total (map width us)) && nat_eq w (width u)) is (covered_named low w us ys x)
  where
    go : (b : Bool) → cond b (Some y) (covered_operand low w us ys) ≡ Some x → (covered_operand low w us ys ≡ Some x → In x ys) → In x (y ∷ ys)
    go true h later = let same : y ≡ x = cc in inl (sym same)
    go false h later = inr (later h)

joined_maker : (os : List Op) (low w : ℕ) (rs : List Ref) (x : Ref) → Joined os low w rs x → Maker os rs x
joined_maker os low w rs x made = record {
  position = made.position;
  op = made.op;
  there = made.there;
  made = ap is_made made.kind;
  operand = subst (In (result made.position 0)) (sym made.operands) (inl refl);
  named = covered_named low w made.op.types made.op.operands x made.part_is;
}

pub extract_part_law : IsMakerOperand extract_part
unfolding joined_maker has_other_form type_of_result type_count
extract_part_law = record { made = made; maker = the_maker; stands = stands }
  where
    made : (os : List Op) (kind : Kind) (ts : List HwType) (rs : List Ref) (x : Ref) → extract_part os kind ts rs ≡ Some x → is_made kind ≡ true
    made os (extract low) ts rs x is = refl
    made os _ ts rs x is = cc

    the_maker : (os : List Op) (kind : Kind) (ts : List HwType) (rs : List Ref) (x : Ref) → extract_part os kind ts rs ≡ Some x → Maker os rs x
    the_maker os (extract low) ts rs x is = joined_maker os low (width (nth_type ts 1)) rs x (joined os low (width (nth_type ts 1)) rs x is)
    the_maker os _ ts rs x is = cc

    of_joined : (os : List Op) (low : ℕ) (ts : List HwType) (rs : List Ref) (x : Ref) (type_of : Ref → Option HwType) (t u : HwType)
        → (c : Joined os low (width (nth_type ts 1)) rs x) → Known os (extract low) ts rs type_of t → Known os c.op.kind c.op.types c.op.operands type_of u
        → MakerOperandStands os (extract low) ts rs x (joined_maker os low (width (nth_type ts 1)) rs x c) type_of t u
    of_joined os low ts rs x type_of t u c known maker_known =
        let from = subst (λ z. Known os z c.op.types c.op.operands type_of u) c.kind maker_known in
        let types = joined_types os c.op.types c.op.operands type_of u from in
        let part = covered low (width (nth_type ts 1)) c.op.types c.op.operands x type_of types c.part_is in
        let integer = integer_second ts t known.written known.form known.limits known.settled in
        let second : nth_type ts 1 ≡ t = second_written ts t known.written known.settled in
        let size : width part.part ≡ integer.bits_of = sym part.size ∙ ap width (second ∙ integer.type_is) in
        let same : part.part ≡ t = integer_among c.op.types part.part from.form part.among ∙ ap int size ∙ sym integer.type_is in
        record {
          typed = part.typed ∙ ap Some same;
          words = λ τ held maker_is.
              ap (λ q. op_value (extract low) ts t 0 (map τ q)) c.operands
              ∙ ap (bits_from low (width t)) (maker_is ∙ ap (λ z. op_value z c.op.types u 0 (map τ c.op.operands)) c.kind)
              ∙ ap (λ v. bits_from low (width v) (concat_words (map τ c.op.operands))) (sym second)
              ∙ covered_word type_of τ (λ r v typed. held_width held r v typed) low (width (nth_type ts 1)) c.op.types c.op.operands x types c.part_is;
        }

    stands : (os : List Op) (kind : Kind) (ts : List HwType) (rs : List Ref) (x : Ref) (type_of : Ref → Option HwType) (t u : HwType)
        → (is : extract_part os kind ts rs ≡ Some x) → Known os kind ts rs type_of t → type_of (result (the_maker os kind ts rs x is).position 0) ≡ Some u
        → Known os (the_maker os kind ts rs x is).op.kind (the_maker os kind ts rs x is).op.types (the_maker os kind ts rs x is).op.operands type_of u
        → MakerOperandStands os kind ts rs x (the_maker os kind ts rs x is) type_of t u
    stands os (extract low) ts rs x type_of t u is known typed maker_known =
        of_joined os low ts rs x type_of t u (joined os low (width (nth_type ts 1)) rs x is) known maker_known
    stands os _ ts rs x type_of t u is known typed maker_known = cc
