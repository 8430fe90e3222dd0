-- Two equal operands of an exclusive or may go where others are left.
use Rattle.std.proofs.Common.{◌≡◌, ℕ, suc, Bool, true, false, cond, List, [], ◌∷◌, length, map, Option, Some, None, refl, sym, ap, subst, ◌∙◌, inl, inr, arith, option_map}
use Rattle.std.proofs.lemmas.List.{length-replicate}
use Rattle.wiring.specs.Wiring.{In}
use Rattle.wiring.proofs.Members.{from_In-map, All-from_members}
use Rattle.wiring.proofs.Options.{option_map_some}
use Rattle.bits_core.specs.Word.{Word, zeros, xor as xor_bits, xor_words}
use Rattle.bits_core.proofs.Bitwise.{xor_words-zeros, xor_words_comm, xor_words_assoc, xor_words_self}
use Rattle.hw_model.specs.Kinds.Variadic.{xor}
use Rattle.hw_model.specs.Design.{Ref}
use Rattle.hw_model.specs.Value.{xor_all}
use Rattle.hw_model.proofs.Operands.{width_folded}
use Rattle.ir_store.specs.Positions.{same_ref}
use Rattle.fold_laws.specs.Fewer.{without_first, or_else, without_pair, xor_pair}
use Rattle.fold_laws.proofs.Choices.{ref_from}
use Rattle.fold_laws.proofs.FewerOperands.{IsReduction}
use Rattle.fold_laws.proofs.FewerPatterns.{drops}

-- ---- words

module _ (w : ℕ) (τ : Ref → Word) where
  value_wide : (rs : List Ref) → ((r : Ref) → In r rs → length (τ r) ≡ w) → length (xor_all w (map τ rs)) ≡ w
  value_wide rs wide =
      width_folded (xor_all w) xor_bits w (length-replicate w false) (λ x ys. refl) (map τ rs)
      (All-from_members (λ (u : Word). length u ≡ w) (map τ rs) (λ y here. let from = from_In-map τ y rs here in ap length from.2 ∙ wide from.0 from.1))

  -- a word twice is nothing
  twice : (x z : Word) → length x ≡ w → length z ≡ w → xor_words x (xor_words x z) ≡ z
  twice x z size same =
      sym (xor_words_assoc x x z) ∙ ap (λ y. xor_words y z) (xor_words_self x ∙ ap zeros (size ∙ sym same))
      ∙ xor_words_comm (zeros (length z)) z ∙ xor_words-zeros z

  turned : (a b z : Word) → xor_words a (xor_words b z) ≡ xor_words b (xor_words a z)
  turned a b z = sym (xor_words_assoc a b z) ∙ ap (λ y. xor_words y z) (xor_words_comm a b) ∙ xor_words_assoc b a z

  cancelled : (r : Ref) → length (τ r) ≡ w → (xs ys : List Ref) → without_first (same_ref r) xs ≡ Some ys → ((q : Ref) → In q xs → length (τ q) ≡ w)
      → xor_words (τ r) (xor_all w (map τ xs)) ≡ xor_all w (map τ ys)
  cancelled r size [] ys is wide = cc
  cancelled r size (x ∷ xs) ys is wide = go (same_ref r x) refl is (λ zs h. cancelled r size xs zs h (λ q here. wide q (inr here)))
    where
      go : (b : Bool) → same_ref r x ≡ b → cond b (Some xs) (option_map (λ (zs : List Ref). x ∷ zs) (without_first (same_ref r) xs)) ≡ Some ys
          → ((zs : List Ref) → without_first (same_ref r) xs ≡ Some zs → xor_words (τ r) (xor_all w (map τ xs)) ≡ xor_all w (map τ zs))
          → xor_words (τ r) (xor_all w (map τ (x ∷ xs))) ≡ xor_all w (map τ ys)
      go true met h later =
          let same : xs ≡ ys = cc in
          ap (λ z. xor_words (τ r) (xor_words (τ z) (xor_all w (map τ xs)))) (sym (ref_from r x met))
          ∙ twice (τ r) (xor_all w (map τ xs)) size (value_wide xs (λ q here. wide q (inr here))) ∙ ap (λ q. xor_all w (map τ q)) same
      go false met h later =
          let rest = option_map_some (λ (zs : List Ref). x ∷ zs) (without_first (same_ref r) xs) h in
          turned (τ r) (τ x) (xor_all w (map τ xs)) ∙ ap (xor_words (τ x)) (later rest.0 rest.1) ∙ ap (λ q. xor_all w (map τ q)) rest.2

  pair_same : (rs rs' : List Ref) → without_pair rs ≡ Some rs' → ((q : Ref) → In q rs → length (τ q) ≡ w) → xor_all w (map τ rs) ≡ xor_all w (map τ rs')
  pair_same [] rs' is wide = cc
  pair_same (x ∷ xs) rs' is wide = go (without_first (same_ref x) xs) refl is (λ ys h. pair_same xs ys h (λ q here. wide q (inr here)))
    where
      go : (o : Option (List Ref)) → without_first (same_ref x) xs ≡ o → or_else o (option_map (λ (ys : List Ref). x ∷ ys) (without_pair xs)) ≡ Some rs'
          → ((ys : List Ref) → without_pair xs ≡ Some ys → xor_all w (map τ xs) ≡ xor_all w (map τ ys)) → xor_all w (map τ (x ∷ xs)) ≡ xor_all w (map τ rs')
      go (Some ys) there h later =
          let same : ys ≡ rs' = cc in
          cancelled x (wide x (inl refl)) xs ys there (λ q here. wide q (inr here)) ∙ ap (λ q. xor_all w (map τ q)) same
      go None there h later =
          let rest = option_map_some (λ (ys : List Ref). x ∷ ys) (without_pair xs) h in
          ap (xor_words (τ x)) (later rest.0 rest.1) ∙ ap (λ q. xor_all w (map τ q)) rest.2

-- ---- operands

record DropsTwo (rs rs' : List Ref) : Type 0 where
  count : suc (suc (length rs')) ≡ length rs
  within : (r : Ref) → In r rs' → In r rs

pair_drops : (rs rs' : List Ref) → without_pair rs ≡ Some rs' → DropsTwo rs rs'
pair_drops [] rs' is = cc
pair_drops (x ∷ xs) rs' is = go (without_first (same_ref x) xs) refl is (pair_drops xs)
  where
    within_more : (ys : List Ref) → ((r : Ref) → In r ys → In r xs) → (r : Ref) → In r (x ∷ ys) → In r (x ∷ xs)
    within_more ys inside r (inl here) = inl here
    within_more ys inside r (inr here) = inr (inside r here)

    go : (o : Option (List Ref)) → without_first (same_ref x) xs ≡ o → or_else o (option_map (λ (ys : List Ref). x ∷ ys) (without_pair xs)) ≡ Some rs'
        → ((ys : List Ref) → without_pair xs ≡ Some ys → DropsTwo xs ys) → DropsTwo (x ∷ xs) rs'
    go (Some ys) there h later =
        let same : ys ≡ rs' = cc in
        let one = drops (same_ref x) xs ys there in
        subst (DropsTwo (x ∷ xs)) same (record { count = ap suc one.count; within = λ r here. inr (one.within r here) })
    go None there h later =
        let rest = option_map_some (λ (ys : List Ref). x ∷ ys) (without_pair xs) h in
        let inner = later rest.0 rest.1 in
        subst (DropsTwo (x ∷ xs)) rest.2 (record { count = ap suc inner.count; within = within_more rest.0 inner.within })

pub xor_pair_reduces : IsReduction xor_pair
xor_pair_reduces os xor [] rs' is = cc
xor_pair_reduces os xor (x ∷ []) rs' is = cc
xor_pair_reduces os xor (x ∷ y ∷ []) rs' is = cc
xor_pair_reduces os xor (x ∷ y ∷ z ∷ rs) rs' is =
    let two = pair_drops (x ∷ y ∷ z ∷ rs) rs' is in
    let count : suc (suc (length rs')) ≡ suc (suc (suc (length rs))) = two.count in
    record {
      fewer = omega arith;
      some = omega arith;
      within = two.within;
      words = λ w τ held wide. pair_same w τ (x ∷ y ∷ z ∷ rs) rs' is wide;
    }
xor_pair_reduces os _ rs rs' is = cc
