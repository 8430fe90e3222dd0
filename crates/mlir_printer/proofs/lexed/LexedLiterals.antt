-- The constants of aggregates are read as they are printed.
use Rattle.std.proofs.Common.{◌≡◌, inl, inr, ℕ, zero, suc, ◌+◌, ◌<◌, Bool, true, false, ◌==◌, cond, List, [], ◌∷◌, ◌++◌, refl, sym, ◌∙◌, ap, arith}
use Rattle.std.specs.Prelude.{codes, ℤ, pos, negsuc}
use Rattle.std.proofs.lemmas.Bool.{ltb-true, eqb-true, and_parts}
use Rattle.hw_model.specs.Types.{HwType}
use Rattle.hw_model.specs.Types.HwType.{int, clock, array, struct}
use Rattle.hw_model.specs.Kinds.{Literal, Literals}
use Rattle.hw_model.specs.Kinds.Literal.{leaf, parts}
use Rattle.hw_model.specs.Kinds.Literals.{no_literals, literal}
use Rattle.mlir_lexer.specs.declared.token.TokenKind.TheVariants as kind
use Rattle.mlir_syntax.specs.LiteralText.{literals_in_order, truth_leaf}
use Rattle.mlir_syntax.specs.Spelling.{Phrase, Mark, Then, Either, IntegerPhrase, TypePhrase, TruthWord, LiteralPhrase, PartsPhrase, AggregatePhrase}
use Rattle.printing_laws.specs.Numbers.{truth_bytes, is_truth, is_one_bit, is_shown_as_truth, is_one}
use Rattle.mlir_printer.specs.Commas.{comma_bytes, items_from}
use Rattle.mlir_printer.specs.Attributes.{typed_bytes}
use Rattle.mlir_printer.specs.Literals.{leaf_bytes, literal_bytes, literals_from}
use Rattle.stored_form.specs.Bytes.{Each}
use Rattle.stored_form.specs.Limits.{IsInteger, IsType, IsLiteral, AreLiterals}
use Rattle.mlir_printer.proofs.lexed.LexedTexts.{Whole, Lexed, lexed, lexed_as, whole_as, whole_by, left_bracket, right_bracket}
use Rattle.mlir_printer.proofs.lexed.LexedCommas.{commas_lexed, between}
use Rattle.mlir_printer.proofs.lexed.LexedAttributes.{truth_lexed, typed_lexed}

-- ---- leaves

-- a leaf as the grammar has it, where types may be so deep
abbrev LeafPhrase : ℕ → ℤ → HwType → Phrase
LeafPhrase room z t =
    Either (Then (IntegerPhrase z) (Then (Mark kind.Colon) (TypePhrase room t))) (λ ts. (b : Bool) × (leaf z t ≡ truth_leaf b) × TruthWord b ts)

-- 0 and 1 are told by whether they are 1
pub truth_is : (z : ℤ) → is_truth z ≡ true → z ≡ pos (cond (is_one z) 1 0)
truth_is (pos n) h = go (n == 1) refl
  where
    small : n < 2
    small = ltb-true n 2 h

    go : (e : Bool) → (n == 1) ≡ e → pos n ≡ pos (cond e 1 0)
    go true e = ap pos (eqb-true n 1 e)
    go false e = let none : n ≡ 0 = grind (arith, e, small) in ap pos none
truth_is (negsuc n) h = absurd cc

pub one_bit : (t : HwType) → is_one_bit t ≡ true → t ≡ int 1
one_bit (int w) h = ap int (eqb-true w 1 h)
one_bit clock h = absurd cc
one_bit (array n t) h = absurd cc
one_bit (struct fs) h = absurd cc

leaf_lexed : (z : ℤ) (t : HwType) (room : ℕ) → IsInteger z → IsType t room → Lexed (LeafPhrase room z t) (leaf_bytes z t)
unfolding leaf_bytes
leaf_lexed z t room whole type = go (is_shown_as_truth t z) refl
  where
    go : (b : Bool) → is_shown_as_truth t z ≡ b → Lexed (LeafPhrase room z t) (cond b (truth_bytes (is_one z)) (typed_bytes z t))
    go true e =
        let (bit, truth) = and_parts (is_one_bit t) (is_truth z) e in
        let same : leaf z t ≡ truth_leaf (is_one z) = ap (λ x. leaf x t) (truth_is z truth) ∙ ap (leaf (pos (cond (is_one z) 1 0))) (one_bit t bit) in
        lexed_as (λ ts p. inr (is_one z, same, p)) (truth_lexed (is_one z))
    go false e = lexed_as (λ ts p. inl p) (typed_lexed z t room whole type)

-- ---- lists

-- constants in order
in_list : Literals → List Literal
in_list no_literals = []
in_list (literal l ls) = l ∷ in_list ls

list_back : (ls : Literals) → literals_in_order (in_list ls) ≡ ls
unfolding in_list
list_back no_literals = refl
list_back (literal l ls) = ap (literal l) (list_back ls)

list_bytes : (i : ℕ) (ls : Literals) → literals_from i ls ≡ items_from literal_bytes i (in_list ls)
unfolding in_list
list_bytes i no_literals = refl
list_bytes i (literal l ls) = ap (λ x. comma_bytes i ++ (literal_bytes l ++ x)) (list_bytes (i + 1) ls)

parts_lexed : (room : ℕ) (ls : Literals) → Each (λ l. Lexed (LiteralPhrase room l) (literal_bytes l)) (in_list ls)
    → Whole (PartsPhrase (LiteralPhrase room) ls) (codes "[" ++ (literals_from 0 ls ++ codes "]"))
parts_lexed room ls each =
    let inside = commas_lexed (LiteralPhrase room) literal_bytes (in_list ls) each in
    let all = between 93 [] left_bracket inside right_bracket refl in
    whole_by (ap (λ x. codes "[" ++ (x ++ codes "]")) (sym (list_bytes 0 ls))) (whole_as (λ ts p. (in_list ls, sym (list_back ls), p)) all)

mutual
  unfolding in_list

  literal_lexed : (l : Literal) (room : ℕ) → IsLiteral l room → Lexed (LiteralPhrase room l) (literal_bytes l)
  literal_lexed (leaf z t) zero h = leaf_lexed z t zero h.0 h.1
  literal_lexed (leaf z t) (suc room) h = leaf_lexed z t (suc room) h.0 h.1
  literal_lexed (parts ls) zero h = absurd h
  literal_lexed (parts ls) (suc room) h = lexed (parts_lexed room ls (literals_lexed ls room h))

  literals_lexed : (ls : Literals) (room : ℕ) → AreLiterals ls room → Each (λ l. Lexed (LiteralPhrase room l) (literal_bytes l)) (in_list ls)
  literals_lexed no_literals room h = tt
  literals_lexed (literal l ls) room h = (literal_lexed l room h.0, literals_lexed ls room h.1)

-- the constants of an aggregate are read as themselves
pub aggregate_lexed : (ls : Literals) → AreLiterals ls 31 → Whole (AggregatePhrase ls) (codes "[" ++ (literals_from 0 ls ++ codes "]"))
aggregate_lexed ls h = parts_lexed 31 ls (literals_lexed ls 31 h)
