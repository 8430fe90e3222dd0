-- Operations of any number of operands: one operand alone, and one that decides the result, stands for it.
use Rattle.std.proofs.Common.{◌≡◌, ℕ, ◌+◌, ◌*◌, Bool, true, false, ◌&&◌, ◌||◌, List, [], ◌∷◌, length, map, Option, Some, refl, sym, ap, subst, ◌∙◌, inl, inr, arith, mul-one, mul-zero, zero-mul}
use Rattle.std.proofs.lemmas.List.{length-replicate}
use Rattle.wiring.specs.Wiring.{In}
use Rattle.wiring.proofs.Members.{In-map, from_In-map, All-from_members}
use Rattle.bits_core.specs.Word.{Word, number, bits, zeros, ones, bitwise, and_words, or_words}
use Rattle.bits_core.proofs.Bitwise.{and_words-ones, or_words-zeros, xor_words-zeros, and_words-zeros, or_words-ones, and_words_comm, or_words_comm}
use Rattle.bits_core.proofs.Numbers.{bits-number, number-zeros}
use Rattle.bits_core.proofs.Storage.{bits-zero}
use Rattle.hw_model.specs.Types.{HwType, width}
use Rattle.hw_model.specs.Kinds.{Kind, Variadic}
use Rattle.hw_model.specs.Kinds.Variadic.{add, mul, and, or, xor}
use Rattle.hw_model.specs.Kinds.Kind.{variadic}
use Rattle.hw_model.specs.Design.{Ref, Op}
use Rattle.hw_model.specs.Value.{product, and_all, or_all, variadic_value}
use Rattle.hw_model.proofs.Operands.{width_folded}
use Rattle.fold_laws.specs.Constants.{constant_at, is_constant_where, is_zero, is_ones}
use Rattle.fold_laws.specs.Standing.{first_operand, single_operand, absorbing_and, absorbing_or, absorbing_mul}
use Rattle.fold_laws.proofs.Constants.{meets_is, zero_is, ones_are}
use Rattle.fold_laws.proofs.MadeKinds.{is_made}
use Rattle.fold_laws.proofs.Operands.{only_is, first_operand_is}
use Rattle.fold_laws.proofs.Stands.{Known, Held, held_width, Stands, IsStand}

-- each operand has the type of the result
each_typed : (v : Variadic) (os : List Op) (ts : List HwType) (rs : List Ref) (type_of : Ref → Option HwType) (t : HwType) → Known os (variadic v) ts rs type_of t
    → (x : Ref) → In x rs → type_of x ≡ Some t
each_typed v os ts rs type_of t known x here = known.fits (type_of x) (In-map type_of x rs here)

-- ---- one operand

value_of_one : (v : Variadic) (x : Word) → variadic_value v (length x) (x ∷ []) ≡ x
value_of_one add x = let sum : number x + 0 ≡ number x = omega arith in ap (bits (length x)) sum ∙ bits-number x
value_of_one mul x = ap (bits (length x)) (mul-one (number x)) ∙ bits-number x
value_of_one and x = and_words-ones x
value_of_one or x = or_words-zeros x
value_of_one xor x = xor_words-zeros x

single_stands : (os : List Op) (v : Variadic) (ts : List HwType) (x : Ref) (type_of : Ref → Option HwType) (t : HwType)
    → Known os (variadic v) ts (x ∷ []) type_of t → Stands os (variadic v) ts (x ∷ []) x type_of t
single_stands os v ts x type_of t known =
    let typed = each_typed v os ts (x ∷ []) type_of t known x (inl refl) in
    record {
      named = inl refl;
      typed = typed;
      words = λ τ held. ap (λ n. variadic_value v n (τ x ∷ [])) (sym (held_width held x t typed)) ∙ value_of_one v (τ x);
    }

pub single_operand_stands : IsStand single_operand
single_operand_stands = record { made = made; stands = stands }
  where
    made : (os : List Op) (kind : Kind) (ts : List HwType) (rs : List Ref) (x : Ref) → single_operand os kind ts rs ≡ Some x → is_made kind ≡ true
    made os (variadic v) ts rs x is = refl
    made os _ ts rs x is = cc

    stands : (os : List Op) (kind : Kind) (ts : List HwType) (rs : List Ref) (x : Ref) (type_of : Ref → Option HwType) (t : HwType)
        → single_operand os kind ts rs ≡ Some x → Known os kind ts rs type_of t → Stands os kind ts rs x type_of t
    stands os (variadic v) ts rs x type_of t is known =
        let one = only_is rs x is in
        subst (λ q. Stands os (variadic v) ts q x type_of t) (sym one)
        (single_stands os v ts x type_of t (subst (λ q. Known os (variadic v) ts q type_of t) one known))
    stands os _ ts rs x type_of t is known = cc

-- ---- an operand that decides

-- a word that decides a bitwise operation decides it of any operands
module _ (value : List Word → Word) (f : Bool → Bool → Bool) (w : ℕ) (empty : length (value []) ≡ w)
    (more : (x : Word) (xs : List Word) → value (x ∷ xs) ≡ bitwise f x (value xs)) (a : Word)
    (left : (x : Word) → length x ≡ w → bitwise f a x ≡ a) (right : (x : Word) → length x ≡ w → bitwise f x a ≡ a) where
  absorbed : (xs : List Word) → ((x : Word) → In x xs → length x ≡ w) → In a xs → value xs ≡ a
  absorbed [] wide here = absurd here
  absorbed (x ∷ xs) wide (inl same) =
      more x xs ∙ ap (λ z. bitwise f z (value xs)) (sym same)
      ∙ left (value xs) (width_folded value f w empty more xs (All-from_members (λ (u : Word). length u ≡ w) xs (λ y there. wide y (inr there))))
  absorbed (x ∷ xs) wide (inr here) =
      more x xs ∙ ap (bitwise f x) (absorbed xs (λ y there. wide y (inr there)) here) ∙ right x (wide x (inl refl))

zeros_and : (w : ℕ) (x : Word) → length x ≡ w → and_words x (zeros w) ≡ zeros w
zeros_and w x h = ap (λ n. and_words x (zeros n)) (sym h) ∙ and_words-zeros x ∙ ap zeros h

ones_or : (w : ℕ) (x : Word) → length x ≡ w → or_words x (ones w) ≡ ones w
ones_or w x h = ap (λ n. or_words x (ones n)) (sym h) ∙ or_words-ones x ∙ ap ones h

and_absorbed : (w : ℕ) (xs : List Word) → ((x : Word) → In x xs → length x ≡ w) → In (zeros w) xs → and_all w xs ≡ zeros w
and_absorbed w xs wide here =
    absorbed (and_all w) (λ a b. a && b) w (length-replicate w true) (λ x ys. refl) (zeros w)
    (λ x h. and_words_comm (zeros w) x ∙ zeros_and w x h) (zeros_and w) xs wide here

or_absorbed : (w : ℕ) (xs : List Word) → ((x : Word) → In x xs → length x ≡ w) → In (ones w) xs → or_all w xs ≡ ones w
or_absorbed w xs wide here =
    absorbed (or_all w) (λ a b. a || b) w (length-replicate w false) (λ x ys. refl) (ones w)
    (λ x h. or_words_comm (ones w) x ∙ ones_or w x h) (ones_or w) xs wide here

product_zero : (ns : List ℕ) → In 0 ns → product ns ≡ 0
product_zero [] here = absurd here
product_zero (n ∷ ns) (inl same) = ap (λ m. m * product ns) (sym same) ∙ zero-mul (product ns)
product_zero (n ∷ ns) (inr here) = ap (λ m. n * m) (product_zero ns here) ∙ mul-zero n

mul_absorbed : (w : ℕ) (xs : List Word) → In (zeros w) xs → bits w (product (map number xs)) ≡ zeros w
mul_absorbed w xs here =
    ap (bits w) (product_zero (map number xs) (subst (λ n. In n (map number xs)) (number-zeros w) (In-map number (zeros w) xs here))) ∙ bits-zero w

-- an operand that meets a test stands for the result where its word decides it
module _ (v : Variadic) (test : Word → Bool) (decided : (w : Word) → test w ≡ true → (n : ℕ) → length w ≡ n
    → (xs : List Word) → ((x : Word) → In x xs → length x ≡ n) → In w xs → variadic_value v n xs ≡ w) where
  decides : (os : List Op) (ts : List HwType) (rs : List Ref) (x : Ref) (type_of : Ref → Option HwType) (t : HwType)
      → first_operand (is_constant_where test os) rs ≡ Some x → Known os (variadic v) ts rs type_of t → Stands os (variadic v) ts rs x type_of t
  decides os ts rs x type_of t is known =
      let one = first_operand_is (is_constant_where test os) rs x is in
      let word = meets_is test (constant_at os x) one.1 in
      let typed = each_typed v os ts rs type_of t known x one.0 in
      record {
        named = one.0;
        typed = typed;
        words = λ τ held.
            let same : τ x ≡ word.0 = held.constants x word.0 word.1 in
            decided (τ x) (ap test same ∙ word.2) (width t) (held_width held x t typed) (map τ rs) (each_wide os ts rs type_of t known τ held) (In-map τ x rs one.0);
      }
    where
      each_wide : (os : List Op) (ts : List HwType) (rs : List Ref) (type_of : Ref → Option HwType) (t : HwType) → Known os (variadic v) ts rs type_of t
          → (τ : Ref → Word) → Held os type_of τ → (y : Word) → In y (map τ rs) → length y ≡ width t
      each_wide os ts rs type_of t known τ held y here =
          let from = from_In-map τ y rs here in
          ap length from.2 ∙ held_width held from.0 t (each_typed v os ts rs type_of t known from.0 from.1)

-- ---- the three

and_decided : (w : Word) → is_zero w ≡ true → (n : ℕ) → length w ≡ n → (xs : List Word) → ((x : Word) → In x xs → length x ≡ n) → In w xs → and_all n xs ≡ w
and_decided w met n size xs wide here =
    let same : w ≡ zeros n = zero_is w met ∙ ap zeros size in
    and_absorbed n xs wide (subst (λ z. In z xs) same here) ∙ sym same

or_decided : (w : Word) → is_ones w ≡ true → (n : ℕ) → length w ≡ n → (xs : List Word) → ((x : Word) → In x xs → length x ≡ n) → In w xs → or_all n xs ≡ w
or_decided w met n size xs wide here =
    let same : w ≡ ones n = ones_are w met ∙ ap ones size in
    or_absorbed n xs wide (subst (λ z. In z xs) same here) ∙ sym same

mul_decided : (w : Word) → is_zero w ≡ true → (n : ℕ) → length w ≡ n → (xs : List Word) → ((x : Word) → In x xs → length x ≡ n) → In w xs
    → bits n (product (map number xs)) ≡ w
mul_decided w met n size xs wide here =
    let same : w ≡ zeros n = zero_is w met ∙ ap zeros size in
    mul_absorbed n xs (subst (λ z. In z xs) same here) ∙ sym same

pub absorbing_and_stands : IsStand absorbing_and
absorbing_and_stands = record { made = made; stands = stands }
  where
    made : (os : List Op) (kind : Kind) (ts : List HwType) (rs : List Ref) (x : Ref) → absorbing_and os kind ts rs ≡ Some x → is_made kind ≡ true
    made os (variadic v) ts rs x is = refl
    made os _ ts rs x is = cc

    stands : (os : List Op) (kind : Kind) (ts : List HwType) (rs : List Ref) (x : Ref) (type_of : Ref → Option HwType) (t : HwType)
        → absorbing_and os kind ts rs ≡ Some x → Known os kind ts rs type_of t → Stands os kind ts rs x type_of t
    stands os (variadic and) ts rs x type_of t is known = decides and is_zero and_decided os ts rs x type_of t is known
    stands os _ ts rs x type_of t is known = cc

pub absorbing_or_stands : IsStand absorbing_or
absorbing_or_stands = record { made = made; stands = stands }
  where
    made : (os : List Op) (kind : Kind) (ts : List HwType) (rs : List Ref) (x : Ref) → absorbing_or os kind ts rs ≡ Some x → is_made kind ≡ true
    made os (variadic v) ts rs x is = refl
    made os _ ts rs x is = cc

    stands : (os : List Op) (kind : Kind) (ts : List HwType) (rs : List Ref) (x : Ref) (type_of : Ref → Option HwType) (t : HwType)
        → absorbing_or os kind ts rs ≡ Some x → Known os kind ts rs type_of t → Stands os kind ts rs x type_of t
    stands os (variadic or) ts rs x type_of t is known = decides or is_ones or_decided os ts rs x type_of t is known
    stands os _ ts rs x type_of t is known = cc

pub absorbing_mul_stands : IsStand absorbing_mul
absorbing_mul_stands = record { made = made; stands = stands }
  where
    made : (os : List Op) (kind : Kind) (ts : List HwType) (rs : List Ref) (x : Ref) → absorbing_mul os kind ts rs ≡ Some x → is_made kind ≡ true
    made os (variadic v) ts rs x is = refl
    made os _ ts rs x is = cc

    stands : (os : List Op) (kind : Kind) (ts : List HwType) (rs : List Ref) (x : Ref) (type_of : Ref → Option HwType) (t : HwType)
        → absorbing_mul os kind ts rs ≡ Some x → Known os kind ts rs type_of t → Stands os kind ts rs x type_of t
    stands os (variadic mul) ts rs x type_of t is known = decides mul is_zero mul_decided os ts rs x type_of t is known
    stands os _ ts rs x type_of t is known = cc
