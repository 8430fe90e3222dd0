-- `same_word` tells words apart, and is an equivalence.
use Rattle.std.specs.Prelude.{◌≡◌, Decides, true, false, [], ◌∷◌, refl}
use Rattle.std.proofs.Common.{sym, ap, ◌∙◌}
use Rattle.std.specs.Cmp.{IsPartialEquivalence, IsEquivalence, partial_equiv_from_equiv}
use Rattle.bits_core.specs.Word.{Word, same_word}

pub same_word_self : (x : Word) → same_word x x ≡ true
same_word_self [] = refl
same_word_self (true ∷ x) = same_word_self x
same_word_self (false ∷ x) = same_word_self x

pub same_from_test : (x y : Word) → same_word x y ≡ true → x ≡ y
same_from_test [] [] h = refl
same_from_test [] (b ∷ y) h = cc
same_from_test (a ∷ x) [] h = cc
same_from_test (true ∷ x) (true ∷ y) h = ap (λ (bs : Word). true ∷ bs) (same_from_test x y h)
same_from_test (true ∷ x) (false ∷ y) h = cc
same_from_test (false ∷ x) (true ∷ y) h = cc
same_from_test (false ∷ x) (false ∷ y) h = ap (λ (bs : Word). false ∷ bs) (same_from_test x y h)

pub same_word_comm : (x y : Word) → same_word x y ≡ same_word y x
same_word_comm [] [] = refl
same_word_comm [] (b ∷ y) = refl
same_word_comm (a ∷ x) [] = refl
same_word_comm (true ∷ x) (true ∷ y) = same_word_comm x y
same_word_comm (true ∷ x) (false ∷ y) = refl
same_word_comm (false ∷ x) (true ∷ y) = refl
same_word_comm (false ∷ x) (false ∷ y) = same_word_comm x y

pub same_word_equivalence : IsEquivalence same_word
same_word_equivalence = record {
  refl = same_word_self;
  symm = same_word_comm;
  congr = λ x y z h. ap (λ (u : Word). same_word u z) (same_from_test x y h);
}

pub same_word_laws : IsPartialEquivalence same_word
same_word_laws = partial_equiv_from_equiv same_word_equivalence

-- the test decides whether two words are one
pub same_word_decides : (x y : Word) → Decides (same_word x y) (x ≡ y)
same_word_decides x y = (same_from_test x y, λ e. ap (same_word x) (sym e) ∙ same_word_self x)
