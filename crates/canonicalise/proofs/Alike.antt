-- Constants among values that are alike, and choices among them.
use Rattle.std.proofs.Common.{◌≡◌, ℕ, zero, suc, Bool, true, false, cond, not, ◌&&◌, ◌||◌, List, [], ◌∷◌, ◌++◌, map, Option, Some, None, refl, sym, ap, ap₂, ◌∙◌, inl, inr, option_and_then, option_map}
use Rattle.wiring.specs.Wiring.{In}
use Rattle.bits_core.specs.Word.{Word}
use Rattle.hw_model.specs.Design.{Ref, Op}
use Rattle.hw_model.specs.Design.Ref.{port, result, undefined}
use Rattle.edit_laws.specs.Edit.{retarget}
use Rattle.ir_store.specs.Positions.{same_ref}
use Rattle.fold_laws.specs.ConstantOperands.{has_other, with_first_last, with_word, constants_among}
use Rattle.fold_laws.specs.Constants.{first_result_word, constant_at, meets, is_constant_where}
use Rattle.fold_laws.specs.Evaluated.{constants_at}
use Rattle.fold_laws.specs.Fewer.{without_first, without_first_of_more, or_else, without_repeat, without_pair, without_pair_of_more}
use Rattle.fold_laws.specs.Numbers.{number_where}
use Rattle.fold_laws.specs.Parts.{maker}
use Rattle.fold_laws.specs.Standing.{when, only_operand, first_where, of_three_operands, first_operand}
use Rattle.canonicalise.specs.Reach.{AreAlike}

-- ---- tests and choices under other names

-- two tests give the same of values and of their other names
abbrev pub TestAlike : (Ref → Ref) → (Ref → Bool) → (Ref → Bool) → List Ref → Type 0
TestAlike name test test' rs = (x : Ref) → In x rs → test' (name x) ≡ test x

module _ (name : Ref → Ref) where
  pub only_named : (rs : List Ref) → only_operand (map name rs) ≡ option_map name (only_operand rs)
  only_named [] = refl
  only_named (x ∷ []) = refl
  only_named (x ∷ y ∷ rs) = refl

  when_named : (b : Bool) (o : Option Ref) → when b (option_map name o) ≡ option_map name (when b o)
  when_named true o = refl
  when_named false o = refl

  pub when_only_named : (b : Bool) (rs : List Ref) → when b (only_operand (map name rs)) ≡ option_map name (when b (only_operand rs))
  when_only_named b rs = ap (when b) (only_named rs) ∙ when_named b (only_operand rs)

  pub first_where_named : (test test' : Ref → Bool) (rs : List Ref) → TestAlike name test test' rs → first_where test' (map name rs) ≡ option_map name (first_where test rs)
  first_where_named test test' [] same = refl
  first_where_named test test' (x ∷ []) same = refl
  first_where_named test test' (x ∷ y ∷ []) same = ap (λ b. when b (Some (name x))) (same y (inr (inl refl))) ∙ when_named (test y) (Some x)
  first_where_named test test' (x ∷ y ∷ z ∷ rs) same = refl

  pub first_named : (test test' : Ref → Bool) (rs : List Ref) → TestAlike name test test' rs → first_operand test' (map name rs) ≡ option_map name (first_operand test rs)
  first_named test test' [] same = refl
  first_named test test' (x ∷ xs) same =
      ap (λ b. cond b (Some (name x)) (first_operand test' (map name xs))) (same x (inl refl)) ∙ go (test x) (first_named test test' xs (λ y here. same y (inr here)))
    where
      go : (b : Bool) → first_operand test' (map name xs) ≡ option_map name (first_operand test xs)
          → cond b (Some (name x)) (first_operand test' (map name xs)) ≡ option_map name (cond b (Some x) (first_operand test xs))
      go true rest = refl
      go false rest = rest

  pub three_named : (choose choose' : Ref → Ref → Ref → Option Ref) (rs : List Ref)
      → ((x y z : Ref) → In x rs → In y rs → In z rs → choose' (name x) (name y) (name z) ≡ option_map name (choose x y z))
      → of_three_operands choose' (map name rs) ≡ option_map name (of_three_operands choose rs)
  three_named choose choose' [] same = refl
  three_named choose choose' (x ∷ []) same = refl
  three_named choose choose' (x ∷ y ∷ []) same = refl
  three_named choose choose' (x ∷ y ∷ z ∷ []) same = same x y z (inl refl) (inr (inl refl)) (inr (inr (inl refl)))
  three_named choose choose' (x ∷ y ∷ z ∷ w ∷ rs) same = refl

  pub number_named : (test test' : Ref → Ref → Bool) (n : ℕ) (rs : List Ref) → ((x y : Ref) → In x rs → In y rs → test' (name x) (name y) ≡ test x y)
      → number_where test' n (map name rs) ≡ number_where test n rs
  number_named test test' n [] same = refl
  number_named test test' n (x ∷ []) same = refl
  number_named test test' n (x ∷ y ∷ []) same = ap (λ b. cond b (Some n) None) (same x y (inl refl) (inr (inl refl)))
  number_named test test' n (x ∷ y ∷ z ∷ rs) same = refl

  -- ---- lists under other names

  before_named : (x : Ref) (o : Option (List Ref)) → option_map (λ (ys : List Ref). name x ∷ ys) (option_map (map name) o) ≡ option_map (map name) (option_map (λ (ys : List Ref). x ∷ ys) o)
  before_named x None = refl
  before_named x (Some ys) = refl

  pub without_named : (test test' : Ref → Bool) (rs : List Ref) → TestAlike name test test' rs → without_first test' (map name rs) ≡ option_map (map name) (without_first test rs)
  without_named test test' [] same = refl
  without_named test test' (x ∷ xs) same =
      ap (λ b. cond b (Some (map name xs)) (option_map (λ (ys : List Ref). name x ∷ ys) (without_first test' (map name xs)))) (same x (inl refl))
      ∙ go (test x) (without_named test test' xs (λ y here. same y (inr here)))
    where
      go : (b : Bool) → without_first test' (map name xs) ≡ option_map (map name) (without_first test xs)
          → cond b (Some (map name xs)) (option_map (λ (ys : List Ref). name x ∷ ys) (without_first test' (map name xs)))
          ≡ option_map (map name) (cond b (Some xs) (option_map (λ (ys : List Ref). x ∷ ys) (without_first test xs)))
      go true rest = refl
      go false rest = ap (option_map (λ (ys : List Ref). name x ∷ ys)) rest ∙ before_named x (without_first test xs)

  pub without_more_named : (test test' : Ref → Bool) (rs : List Ref) → TestAlike name test test' rs
      → without_first_of_more test' (map name rs) ≡ option_map (map name) (without_first_of_more test rs)
  without_more_named test test' [] same = refl
  without_more_named test test' (x ∷ []) same = refl
  without_more_named test test' (x ∷ y ∷ rs) same = without_named test test' (x ∷ y ∷ rs) same

  or_named : (o p : Option (List Ref)) → or_else (option_map (map name) o) (option_map (map name) p) ≡ option_map (map name) (or_else o p)
  or_named None p = refl
  or_named (Some xs) p = refl

  -- equal values are so under other names
  abbrev pub EqualAlike : List Ref → Type 0
  EqualAlike rs = (x y : Ref) → In x rs → In y rs → same_ref (name x) (name y) ≡ same_ref x y

  pub repeat_named : (rs : List Ref) → EqualAlike rs → without_repeat (map name rs) ≡ option_map (map name) (without_repeat rs)
  repeat_named [] same = refl
  repeat_named (x ∷ xs) same =
      ap₂ (λ o p. or_else (option_map (λ (ys : List Ref). name x ∷ ys) o) (option_map (λ (ys : List Ref). name x ∷ ys) p))
      (without_named (same_ref x) (same_ref (name x)) xs (λ y here. same x y (inl refl) (inr here)))
      (repeat_named xs (λ y z one two. same y z (inr one) (inr two)))
      ∙ ap₂ or_else (before_named x (without_first (same_ref x) xs)) (before_named x (without_repeat xs))
      ∙ or_named (option_map (λ (ys : List Ref). x ∷ ys) (without_first (same_ref x) xs)) (option_map (λ (ys : List Ref). x ∷ ys) (without_repeat xs))

  pair_named : (rs : List Ref) → EqualAlike rs → without_pair (map name rs) ≡ option_map (map name) (without_pair rs)
  pair_named [] same = refl
  pair_named (x ∷ xs) same =
      ap₂ (λ o p. or_else o (option_map (λ (ys : List Ref). name x ∷ ys) p))
      (without_named (same_ref x) (same_ref (name x)) xs (λ y here. same x y (inl refl) (inr here)))
      (pair_named xs (λ y z one two. same y z (inr one) (inr two)))
      ∙ ap (or_else (option_map (map name) (without_first (same_ref x) xs))) (before_named x (without_pair xs))
      ∙ or_named (without_first (same_ref x) xs) (option_map (λ (ys : List Ref). x ∷ ys) (without_pair xs))

  pub pair_more_named : (rs : List Ref) → EqualAlike rs → without_pair_of_more (map name rs) ≡ option_map (map name) (without_pair_of_more rs)
  pair_more_named [] same = refl
  pair_more_named (x ∷ []) same = refl
  pair_more_named (x ∷ y ∷ []) same = refl
  pair_more_named (x ∷ y ∷ z ∷ rs) same = pair_named (x ∷ y ∷ z ∷ rs) same

  other_named : (test test' : Ref → Bool) (rs : List Ref) → TestAlike name test test' rs → has_other test' (map name rs) ≡ has_other test rs
  other_named test test' [] same = refl
  other_named test test' (x ∷ xs) same = ap₂ (λ a b. not a || b) (same x (inl refl)) (other_named test test' xs (λ y here. same y (inr here)))

  -- no value is to be moved where none was
  pub last_named : (test test' : Ref → Bool) (rs : List Ref) → TestAlike name test test' rs → with_first_last test rs ≡ None → with_first_last test' (map name rs) ≡ None
  last_named test test' [] same none = refl
  last_named test test' (x ∷ xs) same none =
      ap₂ (λ a b. cond (a && b) (Some (map name xs ++ name x ∷ [])) (option_map (λ (ys : List Ref). name x ∷ ys) (with_first_last test' (map name xs))))
      (same x (inl refl)) (other_named test test' xs (λ y here. same y (inr here)))
      ∙ go (test x && has_other test xs) none (last_named test test' xs (λ y here. same y (inr here)))
    where
      go : (b : Bool) → cond b (Some (xs ++ x ∷ [])) (option_map (λ (ys : List Ref). x ∷ ys) (with_first_last test xs)) ≡ None
          → (with_first_last test xs ≡ None → with_first_last test' (map name xs) ≡ None)
          → cond b (Some (map name xs ++ name x ∷ [])) (option_map (λ (ys : List Ref). name x ∷ ys) (with_first_last test' (map name xs))) ≡ None
      go true some rest = cc
      go false none rest = ap (option_map (λ (ys : List Ref). name x ∷ ys)) (rest (nothing (with_first_last test xs) none))
        where
          nothing : (o : Option (List Ref)) → option_map (λ (ys : List Ref). x ∷ ys) o ≡ None → o ≡ None
          nothing None is = refl
          nothing (Some ys) is = cc

-- ---- constants

module _ (name : Ref → Ref) (os os' : List Op) where
  -- a constant is the result of its operation
  made_word : (zs : List Op) (r : Ref) → constant_at zs r ≡ first_result_word (maker zs r)
  made_word zs (port j) = refl
  made_word zs undefined = refl
  made_word zs (result j zero) = refl
  made_word zs (result j (suc k)) = refl

  renamed_word : (o : Option Op) → first_result_word (option_map (retarget name) o) ≡ first_result_word o
  renamed_word None = refl
  renamed_word (Some o) = refl

  pub constant_named : (rs : List Ref) → AreAlike name os os' rs → (x : Ref) → In x rs → constant_at os' (name x) ≡ constant_at os x
  constant_named rs alike x here = made_word os' (name x) ∙ ap first_result_word (alike.made x here) ∙ renamed_word (maker os x) ∙ sym (made_word os x)

  pub alike_rest : (r : Ref) (rs : List Ref) → AreAlike name os os' (r ∷ rs) → AreAlike name os os' rs
  alike_rest r rs alike = record { apart = λ x y one two. alike.apart x y (inr one) (inr two); made = λ x here. alike.made x (inr here) }

  pub tests_alike : (test : Word → Bool) (rs : List Ref) → AreAlike name os os' rs → TestAlike name (is_constant_where test os) (is_constant_where test os') rs
  tests_alike test rs alike x here = ap (meets test) (constant_named rs alike x here)

  pub constants_named : (rs : List Ref) → AreAlike name os os' rs → constants_at os' (map name rs) ≡ constants_at os rs
  constants_named [] alike = refl
  constants_named (r ∷ rs) alike =
      ap₂ (λ (a : Option Word) (b : Option (List Word)). option_and_then (λ (w : Word). option_map (λ (ws : List Word). w ∷ ws) b) a)
      (constant_named (r ∷ rs) alike r (inl refl)) (constants_named rs (alike_rest r rs alike))

  pub among_named : (rs : List Ref) → AreAlike name os os' rs → constants_among os' (map name rs) ≡ constants_among os rs
  among_named [] alike = refl
  among_named (r ∷ rs) alike = ap₂ with_word (constant_named (r ∷ rs) alike r (inl refl)) (among_named rs (alike_rest r rs alike))
