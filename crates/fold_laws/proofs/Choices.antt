-- A mux with a constant condition, of one value, or of true and false: what stands for it.
use Rattle.std.proofs.Common.{◌≡◌, Bool, true, false, cond, ◌&&◌, List, [], ◌∷◌, length, Option, Some, refl, sym, ap, ap₂, subst, ◌∙◌, inl, inr, arith, option_map}
use Rattle.wiring.proofs.Options.{option_map_some}
use Rattle.bits_core.specs.Word.{Word, flag}
use Rattle.bits_core.specs.SameWord.{same_from_test}
use Rattle.hw_model.specs.Equality.{both_of, number_from}
use Rattle.hw_model.specs.Types.{HwType}
use Rattle.hw_model.specs.Types.HwType.{int}
use Rattle.hw_model.specs.Kinds.{Kind}
use Rattle.hw_model.specs.Kinds.Kind.{mux}
use Rattle.hw_model.specs.Design.{Ref, Op}
use Rattle.hw_model.specs.Design.Ref.{port, result, undefined}
use Rattle.hw_model.specs.Value.{is_high}
use Rattle.ir_store.specs.Positions.{same_ref}
use Rattle.fold_laws.specs.Constants.{constant_at, is_constant_where, is_true, is_false}
use Rattle.fold_laws.specs.Standing.{when, mux_constant, mux_same, mux_bool}
use Rattle.fold_laws.proofs.Constants.{meets_is}
use Rattle.fold_laws.proofs.MadeKinds.{is_made}
use Rattle.fold_laws.proofs.Operands.{when_is, three_are}
use Rattle.fold_laws.proofs.Stands.{Known, held_width, Stands, IsStand}

-- the types of a mux's operands
record MuxTypes (c x y : Option HwType) (t : HwType) : Type 0 where
  condition : c ≡ Some (int 1)
  first : x ≡ Some t
  second : y ≡ Some t

mux_types : (c x y : Option HwType) (t : HwType) → c ∷ x ∷ y ∷ [] ≡ Some (int 1) ∷ Some t ∷ Some t ∷ [] → MuxTypes c x y t
mux_types c x y t same = record { condition = cc; first = cc; second = cc }

-- ---- a constant condition

constant_stands : (os : List Op) (ts : List HwType) (c x y v : Ref) (type_of : Ref → Option HwType) (t : HwType)
    → option_map (λ w. cond (is_high w) x y) (constant_at os c) ≡ Some v → Known os mux ts (c ∷ x ∷ y ∷ []) type_of t → Stands os mux ts (c ∷ x ∷ y ∷ []) v type_of t
constant_stands os ts c x y v type_of t is known =
    let word = option_map_some (λ w. cond (is_high w) x y) (constant_at os c) is in
    let types = mux_types (type_of c) (type_of x) (type_of y) t known.fits in
    go word.0 word.1 types (is_high word.0) refl word.2
  where
    go : (w : Word) → constant_at os c ≡ Some w → MuxTypes (type_of c) (type_of x) (type_of y) t → (b : Bool) → is_high w ≡ b → cond b x y ≡ v
        → Stands os mux ts (c ∷ x ∷ y ∷ []) v type_of t
    go w there types true high same = record {
      named = inr (inl (sym same));
      typed = ap type_of (sym same) ∙ types.first;
      words = λ τ held. ap (λ b. cond b (τ x) (τ y)) (ap is_high (held.constants c w there) ∙ high) ∙ ap τ same;
    }
    go w there types false high same = record {
      named = inr (inr (inl (sym same)));
      typed = ap type_of (sym same) ∙ types.second;
      words = λ τ held. ap (λ b. cond b (τ x) (τ y)) (ap is_high (held.constants c w there) ∙ high) ∙ ap τ same;
    }

pub mux_constant_stands : IsStand mux_constant
mux_constant_stands = record { made = made; stands = stands }
  where
    made : (os : List Op) (kind : Kind) (ts : List HwType) (rs : List Ref) (x : Ref) → mux_constant os kind ts rs ≡ Some x → is_made kind ≡ true
    made os mux ts rs x is = refl
    made os _ ts rs x is = cc

    stands : (os : List Op) (kind : Kind) (ts : List HwType) (rs : List Ref) (x : Ref) (type_of : Ref → Option HwType) (t : HwType)
        → mux_constant os kind ts rs ≡ Some x → Known os kind ts rs type_of t → Stands os kind ts rs x type_of t
    stands os mux ts rs x type_of t is known =
        let three = three_are (λ c x y. option_map (λ w. cond (is_high w) x y) (constant_at os c)) rs x is in
        subst (λ q. Stands os mux ts q x type_of t) (sym three.operands)
        (constant_stands os ts three.condition three.first three.second x type_of t three.chosen (subst (λ q. Known os mux ts q type_of t) three.operands known))
    stands os _ ts rs x type_of t is known = cc

-- ---- one value

pub ref_from : (x y : Ref) → same_ref x y ≡ true → x ≡ y
ref_from (port m) (port n) is = ap port (number_from m n is)
ref_from (result i m) (result j n) is =
    let both = both_of _ _ is in
    ap₂ result (number_from i j both.0) (number_from m n both.1)
ref_from undefined undefined is = refl
ref_from (port m) (result j n) is = cc
ref_from (port m) undefined is = cc
ref_from (result i m) (port n) is = cc
ref_from (result i m) undefined is = cc
ref_from undefined (port n) is = cc
ref_from undefined (result j n) is = cc

either : {A : Type 0} (b : Bool) (x : A) → cond b x x ≡ x
either true x = refl
either false x = refl

same_stands : (os : List Op) (ts : List HwType) (c x y v : Ref) (type_of : Ref → Option HwType) (t : HwType)
    → when (same_ref x y) (Some x) ≡ Some v → Known os mux ts (c ∷ x ∷ y ∷ []) type_of t → Stands os mux ts (c ∷ x ∷ y ∷ []) v type_of t
same_stands os ts c x y v type_of t is known =
    let met = when_is (same_ref x y) (Some x) v is in
    let same : x ≡ v = cc in
    let one : x ≡ y = ref_from x y met.0 in
    let types = mux_types (type_of c) (type_of x) (type_of y) t known.fits in
    record {
      named = inr (inl (sym same));
      typed = ap type_of (sym same) ∙ types.first;
      words = λ τ held. ap (λ z. cond (is_high (τ c)) (τ x) (τ z)) (sym one) ∙ either (is_high (τ c)) (τ x) ∙ ap τ same;
    }

pub mux_same_stands : IsStand mux_same
mux_same_stands = record { made = made; stands = stands }
  where
    made : (os : List Op) (kind : Kind) (ts : List HwType) (rs : List Ref) (x : Ref) → mux_same os kind ts rs ≡ Some x → is_made kind ≡ true
    made os mux ts rs x is = refl
    made os _ ts rs x is = cc

    stands : (os : List Op) (kind : Kind) (ts : List HwType) (rs : List Ref) (x : Ref) (type_of : Ref → Option HwType) (t : HwType)
        → mux_same os kind ts rs ≡ Some x → Known os kind ts rs type_of t → Stands os kind ts rs x type_of t
    stands os mux ts rs x type_of t is known =
        let three = three_are (λ c x y. when (same_ref x y) (Some x)) rs x is in
        subst (λ q. Stands os mux ts q x type_of t) (sym three.operands)
        (same_stands os ts three.condition three.first three.second x type_of t three.chosen (subst (λ q. Known os mux ts q type_of t) three.operands known))
    stands os _ ts rs x type_of t is known = cc

-- ---- true and false

one_bit : (w : Word) → length w ≡ 1 → cond (is_high w) (flag true) (flag false) ≡ w
one_bit [] h = absurd (omega arith)
one_bit (true ∷ []) h = refl
one_bit (false ∷ []) h = refl
one_bit (b ∷ a ∷ w) h = absurd (omega arith)

bool_stands : (os : List Op) (ts : List HwType) (c x y v : Ref) (type_of : Ref → Option HwType) (t : HwType)
    → when (is_constant_where is_true os x && is_constant_where is_false os y) (Some c) ≡ Some v → Known os mux ts (c ∷ x ∷ y ∷ []) type_of t
    → Stands os mux ts (c ∷ x ∷ y ∷ []) v type_of t
bool_stands os ts c x y v type_of t is known =
    let met = when_is (is_constant_where is_true os x && is_constant_where is_false os y) (Some c) v is in
    let both = both_of (is_constant_where is_true os x) (is_constant_where is_false os y) met.0 in
    let high = meets_is is_true (constant_at os x) both.0 in
    let low = meets_is is_false (constant_at os y) both.1 in
    let same : c ≡ v = cc in
    let types = mux_types (type_of c) (type_of x) (type_of y) t known.fits in
    let high_is : high.0 ≡ flag true = same_from_test high.0 (flag true) high.2 in
    let low_is : low.0 ≡ flag false = same_from_test low.0 (flag false) low.2 in
    let of_bit : Some t ≡ Some (int 1) = sym types.first ∙ known.constants x high.0 high.1 ∙ ap (λ w. Some (int (length w))) high_is in
    record {
      named = inl (sym same);
      typed = ap type_of (sym same) ∙ types.condition ∙ sym of_bit;
      words = λ τ held.
          ap₂ (cond (is_high (τ c))) (held.constants x high.0 high.1 ∙ high_is) (held.constants y low.0 low.1 ∙ low_is)
          ∙ one_bit (τ c) (held_width held c (int 1) types.condition) ∙ ap τ same;
    }

pub mux_bool_stands : IsStand mux_bool
mux_bool_stands = record { made = made; stands = stands }
  where
    made : (os : List Op) (kind : Kind) (ts : List HwType) (rs : List Ref) (x : Ref) → mux_bool os kind ts rs ≡ Some x → is_made kind ≡ true
    made os mux ts rs x is = refl
    made os _ ts rs x is = cc

    stands : (os : List Op) (kind : Kind) (ts : List HwType) (rs : List Ref) (x : Ref) (type_of : Ref → Option HwType) (t : HwType)
        → mux_bool os kind ts rs ≡ Some x → Known os kind ts rs type_of t → Stands os kind ts rs x type_of t
    stands os mux ts rs x type_of t is known =
        let three = three_are (λ c x y. when (is_constant_where is_true os x && is_constant_where is_false os y) (Some c)) rs x is in
        subst (λ q. Stands os mux ts q x type_of t) (sym three.operands)
        (bool_stands os ts three.condition three.first three.second x type_of t three.chosen (subst (λ q. Known os mux ts q type_of t) three.operands known))
    stands os _ ts rs x type_of t is known = cc
