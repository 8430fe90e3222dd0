-- All bits of a value, a value joined to nothing, one copy of it, and it as its own type: the value stands for these.
use Rattle.std.proofs.Common.{◌≡◌, ℕ, ◌+◌, ◌/◌, ◌<◌, ◌≤◌, true, false, List, [], ◌∷◌, length, map, Option, Some, None, refl, sym, ap, ap₂, subst, ◌∙◌, inl, arith, append-nil}
use Rattle.std.specs.Prelude.{is_some}
use Rattle.std.proofs.Math.Nat.{div_self}
use Rattle.std.proofs.lemmas.Bool.{not-false}
use Rattle.wiring.specs.Lists.{total}
use Rattle.bits_core.specs.Word.{extract as bits_from, copies}
use Rattle.bits_core.proofs.First.{extract_all, copies-one}
use Rattle.hw_model.specs.SameType.{same_type, type_from}
use Rattle.hw_model.specs.Types.{HwType, width}
use Rattle.hw_model.specs.Types.HwType.{int, clock, array, struct}
use Rattle.hw_model.specs.Kinds.{Kind}
use Rattle.hw_model.specs.Kinds.Kind.{extract, concat, replicate, bitcast}
use Rattle.hw_model.specs.Design.{Ref, Op}
use Rattle.type_inference.specs.ResultTypes.{result_type as type_of_result, kept_size}
use Rattle.stored_form.specs.ResultTypes.{type_or_none}
use Rattle.op_checks.specs.CountChecks.{type_count}
use Rattle.op_checks.specs.OperandChecks.{has_other_form, has_other_operand}
use Rattle.op_checks.specs.TypeLists.{differs}
use Rattle.op_checks.proofs.Widths.{neither}
use Rattle.fold_laws.specs.Standing.{only_operand, writes_one_type, full_extract, trivial_concat, trivial_replicate, trivial_bitcast}
use Rattle.fold_laws.proofs.MadeKinds.{is_made}
use Rattle.fold_laws.proofs.Operands.{when_is, only_is, one_type_is}
use Rattle.fold_laws.proofs.Stands.{Known, held_width, Stands, IsStand}

-- a type that is there and does not differ from another is that one
not_other : (x : Option HwType) (u : HwType) → is_some x ≡ true → differs x (Some u) ≡ false → x ≡ Some u
not_other None u there same = cc
not_other (Some v) u there same = ap Some (type_from v u (not-false (same_type v u) same))

only_type : (x : Option HwType) (u : HwType) → x ∷ [] ≡ Some u ∷ [] → x ≡ Some u
only_type x u same = cc

-- ---- all bits

extract_stands : (os : List Op) (low : ℕ) (u : HwType) (x : Ref) (type_of : Ref → Option HwType) (t : HwType)
    → Known os (extract low) (u ∷ u ∷ []) (x ∷ []) type_of t → Stands os (extract low) (u ∷ u ∷ []) (x ∷ []) x type_of t
unfolding has_other_operand type_of_result
extract_stands os low u x type_of t known =
    let settled : t ≡ u = known.settled in
    let same : differs (type_of x) (Some u) ≡ false = (neither (differs (type_of x) (Some u)) false known.asked).0 in
    let typed : type_of x ≡ Some u = not_other (type_of x) u (known.there x (inl refl)) same in
    let own = known.fits in
    let own_type : own.0 ≡ u = (let both : Some own.0 ≡ Some u = sym (only_type (type_of x) own.0 own.1) ∙ typed in cc) in
    let within : low + width t ≤ width t = subst (λ v. low + width t ≤ width v) (own_type ∙ sym settled) own.2 in
    let none : low ≡ 0 = omega arith in
    record {
      named = inl refl;
      typed = typed ∙ ap Some (sym settled);
      words = λ τ held.
          ap₂ (λ n m. bits_from n m (τ x)) none (sym (held_width held x t (typed ∙ ap Some (sym settled)))) ∙ extract_all (τ x);
    }

pub full_extract_stands : IsStand full_extract
full_extract_stands = record { made = made; stands = stands }
  where
    made : (os : List Op) (kind : Kind) (ts : List HwType) (rs : List Ref) (x : Ref) → full_extract os kind ts rs ≡ Some x → is_made kind ≡ true
    made os (extract low) ts rs x is = refl
    made os _ ts rs x is = cc

    stands : (os : List Op) (kind : Kind) (ts : List HwType) (rs : List Ref) (x : Ref) (type_of : Ref → Option HwType) (t : HwType)
        → full_extract os kind ts rs ≡ Some x → Known os kind ts rs type_of t → Stands os kind ts rs x type_of t
    stands os (extract low) ts rs x type_of t is known =
        let met = when_is (writes_one_type ts) (only_operand rs) x is in
        let one = one_type_is ts met.0 in
        let only = only_is rs x met.1 in
        subst (λ us. Stands os (extract low) us rs x type_of t) (sym one.1) (subst (λ q. Stands os (extract low) (one.0 ∷ one.0 ∷ []) q x type_of t) (sym only)
        (extract_stands os low one.0 x type_of t
        (subst (λ q. Known os (extract low) (one.0 ∷ one.0 ∷ []) q type_of t) only (subst (λ us. Known os (extract low) us rs type_of t) one.1 known))))
    stands os _ ts rs x type_of t is known = cc

-- ---- joined to nothing

one_written : (ts : List HwType) → length ts ≡ 1 → (u : HwType) × (ts ≡ u ∷ [])
one_written [] h = absurd (omega arith)
one_written (u ∷ []) h = (u, refl)
one_written (u ∷ v ∷ ts) h = absurd (omega arith)

-- the type of one joined operand
joined_one : (u t v : HwType) → has_other_form concat (u ∷ []) ≡ false → t ≡ type_or_none (type_of_result concat (u ∷ []) 1) → v ≡ u
    → width t ≡ width v → t ≡ v
unfolding has_other_form type_of_result
joined_one (int w) t v form settled same wide =
    let first : width t ≡ kept_size (w + 0) = ap width settled in
    let second : width v ≡ w = ap width same in
    let size : kept_size (w + 0) ≡ w = sym first ∙ wide ∙ second in
    settled ∙ ap int size ∙ sym same
joined_one clock t v form settled same wide = cc
joined_one (array n u) t v form settled same wide = cc
joined_one (struct fs) t v form settled same wide = cc

concat_stands : (os : List Op) (u : HwType) (x : Ref) (type_of : Ref → Option HwType) (t : HwType)
    → Known os concat (u ∷ []) (x ∷ []) type_of t → Stands os concat (u ∷ []) (x ∷ []) x type_of t
unfolding has_other_operand
concat_stands os u x type_of t known =
    let same : differs (type_of x) (Some u) ≡ false = (neither (differs (type_of x) (Some u)) false known.asked).0 in
    let typed : type_of x ≡ Some u = not_other (type_of x) u (known.there x (inl refl)) same in
    let sum : width t ≡ width u = width_of_one known.fits.0 (sym known.fits.1 ∙ ap (λ z. z ∷ []) typed) known.fits.2 in
    let one : t ≡ u = joined_one u t u known.form known.settled refl sum in
    record {
      named = inl refl;
      typed = typed ∙ ap Some (sym one);
      words = λ τ held. append-nil (τ x);
    }
  where
    width_of_one : (us : List HwType) → map (λ (v : HwType). Some v) us ≡ Some u ∷ [] → width t ≡ total (map width us) → width t ≡ width u
    width_of_one [] is wide = cc
    width_of_one (v ∷ []) is wide =
        let same : v ≡ u = cc in
        let sum : width v + 0 ≡ width v = omega arith in
        wide ∙ sum ∙ ap width same
    width_of_one (v ∷ w ∷ us) is wide = cc

pub trivial_concat_stands : IsStand trivial_concat
unfolding type_count
trivial_concat_stands = record { made = made; stands = stands }
  where
    made : (os : List Op) (kind : Kind) (ts : List HwType) (rs : List Ref) (x : Ref) → trivial_concat os kind ts rs ≡ Some x → is_made kind ≡ true
    made os concat ts rs x is = refl
    made os _ ts rs x is = cc

    stands : (os : List Op) (kind : Kind) (ts : List HwType) (rs : List Ref) (x : Ref) (type_of : Ref → Option HwType) (t : HwType)
        → trivial_concat os kind ts rs ≡ Some x → Known os kind ts rs type_of t → Stands os kind ts rs x type_of t
    stands os concat ts rs x type_of t is known =
        let only = only_is rs x is in
        let alone = subst (λ q. Known os concat ts q type_of t) only known in
        let one = one_written ts alone.written in
        subst (λ q. Stands os concat ts q x type_of t) (sym only) (subst (λ us. Stands os concat us (x ∷ []) x type_of t) (sym one.1)
        (concat_stands os one.0 x type_of t (subst (λ us. Known os concat us (x ∷ []) type_of t) one.1 alone)))
    stands os _ ts rs x type_of t is known = cc

-- ---- one copy

replicate_stands : (os : List Op) (u : HwType) (x : Ref) (type_of : Ref → Option HwType) (t : HwType)
    → Known os replicate (u ∷ u ∷ []) (x ∷ []) type_of t → Stands os replicate (u ∷ u ∷ []) (x ∷ []) x type_of t
unfolding has_other_operand type_of_result
replicate_stands os u x type_of t known =
    let settled : t ≡ u = known.settled in
    let same : differs (type_of x) (Some u) ≡ false = (neither (differs (type_of x) (Some u)) false known.asked).0 in
    let typed : type_of x ≡ Some t = not_other (type_of x) u (known.there x (inl refl)) same ∙ ap Some (sym settled) in
    let own = known.fits in
    let own_type : own.0 ≡ t = (let both : Some own.0 ≡ Some t = sym (only_type (type_of x) own.0 own.2) ∙ typed in cc) in
    let some : 0 < width t = subst (λ v. 0 < width v) own_type own.3 in
    record {
      named = inl refl;
      typed = typed;
      words = λ τ held.
          ap (λ n. copies (width t / n) (τ x)) (held_width held x t typed) ∙ ap (λ n. copies n (τ x)) (div_self some) ∙ copies-one (τ x);
    }

pub trivial_replicate_stands : IsStand trivial_replicate
trivial_replicate_stands = record { made = made; stands = stands }
  where
    made : (os : List Op) (kind : Kind) (ts : List HwType) (rs : List Ref) (x : Ref) → trivial_replicate os kind ts rs ≡ Some x → is_made kind ≡ true
    made os replicate ts rs x is = refl
    made os _ ts rs x is = cc

    stands : (os : List Op) (kind : Kind) (ts : List HwType) (rs : List Ref) (x : Ref) (type_of : Ref → Option HwType) (t : HwType)
        → trivial_replicate os kind ts rs ≡ Some x → Known os kind ts rs type_of t → Stands os kind ts rs x type_of t
    stands os replicate ts rs x type_of t is known =
        let met = when_is (writes_one_type ts) (only_operand rs) x is in
        let one = one_type_is ts met.0 in
        let only = only_is rs x met.1 in
        subst (λ us. Stands os replicate us rs x type_of t) (sym one.1) (subst (λ q. Stands os replicate (one.0 ∷ one.0 ∷ []) q x type_of t) (sym only)
        (replicate_stands os one.0 x type_of t
        (subst (λ q. Known os replicate (one.0 ∷ one.0 ∷ []) q type_of t) only (subst (λ us. Known os replicate us rs type_of t) one.1 known))))
    stands os _ ts rs x type_of t is known = cc

-- ---- its own type

bitcast_stands : (os : List Op) (u : HwType) (x : Ref) (type_of : Ref → Option HwType) (t : HwType)
    → Known os bitcast (u ∷ u ∷ []) (x ∷ []) type_of t → Stands os bitcast (u ∷ u ∷ []) (x ∷ []) x type_of t
unfolding has_other_operand type_of_result
bitcast_stands os u x type_of t known =
    let settled : t ≡ u = known.settled in
    let same : differs (type_of x) (Some u) ≡ false = (neither (differs (type_of x) (Some u)) false known.asked).0 in
    record {
      named = inl refl;
      typed = not_other (type_of x) u (known.there x (inl refl)) same ∙ ap Some (sym settled);
      words = λ τ held. refl;
    }

pub trivial_bitcast_stands : IsStand trivial_bitcast
trivial_bitcast_stands = record { made = made; stands = stands }
  where
    made : (os : List Op) (kind : Kind) (ts : List HwType) (rs : List Ref) (x : Ref) → trivial_bitcast os kind ts rs ≡ Some x → is_made kind ≡ true
    made os bitcast ts rs x is = refl
    made os _ ts rs x is = cc

    stands : (os : List Op) (kind : Kind) (ts : List HwType) (rs : List Ref) (x : Ref) (type_of : Ref → Option HwType) (t : HwType)
        → trivial_bitcast os kind ts rs ≡ Some x → Known os kind ts rs type_of t → Stands os kind ts rs x type_of t
    stands os bitcast ts rs x type_of t is known =
        let met = when_is (writes_one_type ts) (only_operand rs) x is in
        let one = one_type_is ts met.0 in
        let only = only_is rs x met.1 in
        subst (λ us. Stands os bitcast us rs x type_of t) (sym one.1) (subst (λ q. Stands os bitcast (one.0 ∷ one.0 ∷ []) q x type_of t) (sym only)
        (bitcast_stands os one.0 x type_of t
        (subst (λ q. Known os bitcast (one.0 ∷ one.0 ∷ []) q type_of t) only (subst (λ us. Known os bitcast us rs type_of t) one.1 known))))
    stands os _ ts rs x type_of t is known = cc
