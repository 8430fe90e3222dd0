-- Words in groups by their first letters.
use Rattle.std.proofs.Common.{◌≡◌, ℕ, zero, suc, ◌+◌, ◌<◌, Bool, true, false, ◌||◌, nat_eq, List, [], ◌∷◌, ◌++◌, map, length, get_or, drop, add-one, drop-cons, subst, IsTrue, refl, sym, ap, ◌∙◌}
use Rattle.std.proofs.lemmas.Bool.{eqb-true}
use Rattle.hw_model.specs.Types.{Name}
use Rattle.hw_model.specs.Design.{same_name}
use Rattle.verilog_model.specs.Checks.{contains_name}
use Rattle.verilog_model.proofs.Numerals.{and_first, and_second}
use Rattle.fresh_names.proofs.Taken.{same_is}
use Rattle.name_legalise.specs.declared.reserved.Group.{Group}
use Rattle.name_legalise.specs.Words.{begins_with, all_begin, groups_begin, words_in}
use Rattle.name_legalise.specs.WordViews.{letter_group}

pub contains-append : (n : Name) (ms ns : List Name) → contains_name n (ms ++ ns) ≡ (contains_name n ms || contains_name n ns)
contains-append n [] ns = refl
contains-append n (m ∷ ms) ns = go (same_name m n) (contains-append n ms ns) where
  go : (b : Bool) → contains_name n (ms ++ ns) ≡ (contains_name n ms || contains_name n ns) → (b || contains_name n (ms ++ ns)) ≡ ((b || contains_name n ms) || contains_name n ns)
  go true e = refl
  go false e = e

-- ---- one group

pub not_equal : (a b : ℕ) → (a ≡ b → ⊥) → nat_eq a b ≡ false
not_equal a b apart = go (nat_eq a b) refl where
  go : (t : Bool) → nat_eq a b ≡ t → t ≡ false
  go true e = absurd (apart (eqb-true a b e))
  go false e = refl

same_first : (letter other : ℕ) (n : Name) → IsTrue (begins_with letter n) → IsTrue (begins_with other n) → letter ≡ other
same_first letter other [] h g = cc
same_first letter other (b ∷ n) h g = sym (eqb-true b letter h) ∙ eqb-true b other g

-- words that begin with a letter have no name that begins with another one
pub other_letter : (first letter : ℕ) (n : Name) (ws : List Name) → IsTrue (begins_with first n) → IsTrue (all_begin letter ws) → (letter ≡ first → ⊥) → contains_name n ws ≡ false
other_letter first letter n [] h all apart = refl
other_letter first letter n (w ∷ ws) h all apart = go (same_name w n) refl (other_letter first letter n ws h (and_second (begins_with letter w) (all_begin letter ws) all) apart) where
  go : (b : Bool) → same_name w n ≡ b → contains_name n ws ≡ false → (b || contains_name n ws) ≡ false
  go true e r =
      let begins : IsTrue (begins_with letter n) = ap (begins_with letter) (sym (same_is w n e)) ∙ and_first (begins_with letter w) (all_begin letter ws) all in
      absurd (apart (same_first letter first n begins h))
  go false e r = r

-- ---- a list of groups, from one of them on

abbrev words_of : Group → List Name
words_of g = (letter_group g).words

rest_drop : (gs : List Group) (i : ℕ) → IsTrue (groups_begin (map letter_group (drop i gs))) → IsTrue (groups_begin (map letter_group (drop (suc i) gs)))
rest_drop [] zero h = refl
rest_drop [] (suc i) h = refl
rest_drop (g ∷ gs) zero h = and_second (all_begin g.letter (words_of g)) (groups_begin (map letter_group gs)) h
rest_drop (g ∷ gs) (suc i) h = rest_drop gs i h

pub rest_begin : (gs : List Group) (i : ℕ) → IsTrue (groups_begin (map letter_group (drop i gs))) → IsTrue (groups_begin (map letter_group (drop (i + 1) gs)))
rest_begin gs i h = rw add-one (rest_drop gs i h)

module _ (gs : List Group) (i : ℕ) (d : Group) (lt : i < length gs) where
  here : drop i gs ≡ get_or gs i d ∷ drop (i + 1) gs
  here = rw (add-one, drop-cons gs i d)

  begins_here : IsTrue (groups_begin (map letter_group (drop i gs))) → IsTrue (groups_begin (map letter_group (get_or gs i d ∷ drop (i + 1) gs)))
  begins_here h = subst (λ l. IsTrue (groups_begin (map letter_group l))) here h

  pub first_begins : IsTrue (groups_begin (map letter_group (drop i gs))) → IsTrue (all_begin (get_or gs i d).letter (words_of (get_or gs i d)))
  first_begins h = and_first (all_begin (get_or gs i d).letter (words_of (get_or gs i d))) (groups_begin (map letter_group (drop (i + 1) gs))) (begins_here h)

  pub found_here : (n : Name) → true ≡ contains_name n (words_of (get_or gs i d)) → contains_name n (words_in (map letter_group (drop i gs))) ≡ true
  found_here n e =
      ap (λ l. contains_name n (words_in (map letter_group l))) here
      ∙ contains-append n (words_of (get_or gs i d)) (words_in (map letter_group (drop (i + 1) gs)))
      ∙ ap (λ b. b || contains_name n (words_in (map letter_group (drop (i + 1) gs)))) (sym e)

  pub found_later : (n : Name) → false ≡ contains_name n (words_of (get_or gs i d)) → contains_name n (words_in (map letter_group (drop i gs))) ≡ contains_name n (words_in (map letter_group (drop (i + 1) gs)))
  found_later n e =
      ap (λ l. contains_name n (words_in (map letter_group l))) here
      ∙ contains-append n (words_of (get_or gs i d)) (words_in (map letter_group (drop (i + 1) gs)))
      ∙ ap (λ b. b || contains_name n (words_in (map letter_group (drop (i + 1) gs)))) (sym e)
