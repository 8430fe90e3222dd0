-- Constants of aggregates become one for each leaf.
use Rattle.std.proofs.Common.{◌≡◌, ℕ, suc, ◌+◌, List, [], ◌∷◌, ◌++◌, ℤ, length, map, slice_get, Option, Some, refl, sym, ap, ap₂, ◌∙◌, arith, zero-add, add-zero, append-nil, length-append}
use Rattle.bits_core.specs.Word.{Word, bits_of_ℤ}
use Rattle.hw_model.specs.Types.{HwType, width, leaves}
use Rattle.hw_model.specs.Kinds.{Literal, Literals}
use Rattle.hw_model.specs.Kinds.Literal.{leaf, parts}
use Rattle.hw_model.specs.Kinds.Literals.{no_literals, literal}
use Rattle.hw_model.specs.Kinds.Kind.{constant, aggregate_constant}
use Rattle.hw_model.specs.Value.{concat_words, op_value, word_of_literal, word_of_literals}
use Rattle.hw_model.specs.Design.{Ref, Op}
use Rattle.edit_laws.specs.Edit.{result_word}
use Rattle.aggregate_laws.specs.Leaves.{in_row, result_types, result_start}
use Rattle.aggregate_laws.specs.Lowered.{whole}
use Rattle.aggregate_laws.specs.Rules.{Splits}
use Rattle.aggregate_laws.specs.OperationRules.{made_op, literal_numbers, literals_numbers, literal_types, literals_types, number_at, constant_rule}
use Rattle.aggregate_laws.proofs.Words.{concat-append}
use Rattle.aggregate_laws.proofs.Leafwise.{made_fits, leafwise_splits}
use Rattle.aggregate_laws.proofs.Joins.{plain_kind}
use Rattle.aggregate_laws.proofs.Muxes.{one_rule, all_of_one}

-- the word of a list of numbers of types
abbrev words_of : List ℤ → List HwType → List Word
words_of zs [] = []
words_of [] (t ∷ ts) = []
words_of (z ∷ zs) (t ∷ ts) = bits_of_ℤ (width t) z ∷ words_of zs ts

words_of-append : (zs zs' : List ℤ) (ts ts' : List HwType) → length zs ≡ length ts → words_of (zs ++ zs') (ts ++ ts') ≡ words_of zs ts ++ words_of zs' ts'
words_of-append [] zs' [] ts' same = refl
words_of-append [] zs' (t ∷ ts) ts' same = absurd (omega arith)
words_of-append (z ∷ zs) zs' [] ts' same = absurd (omega arith)
words_of-append (z ∷ zs) zs' (t ∷ ts) ts' same = ap (λ ws. bits_of_ℤ (width t) z ∷ ws) (words_of-append zs zs' ts ts' (omega arith))

mutual
  literal_sizes : (l : Literal) → length (literal_numbers l) ≡ length (literal_types l)
  literal_sizes (leaf z t) = refl
  literal_sizes (parts ls) = literals_sizes ls

  literals_sizes : (ls : Literals) → length (literals_numbers ls) ≡ length (literals_types ls)
  literals_sizes no_literals = refl
  literals_sizes (literal l ls) =
      length-append (literal_numbers l) (literals_numbers ls) ∙ ap₂ (λ a b. a + b) (literal_sizes l) (literals_sizes ls)
      ∙ sym (length-append (literal_types l) (literals_types ls))

mutual
  literal_words : (l : Literal) → word_of_literal l ≡ concat_words (words_of (literal_numbers l) (literal_types l))
  literal_words (leaf z t) = sym (append-nil (bits_of_ℤ (width t) z))
  literal_words (parts ls) = literals_words ls

  literals_words : (ls : Literals) → word_of_literals ls ≡ concat_words (words_of (literals_numbers ls) (literals_types ls))
  literals_words no_literals = refl
  literals_words (literal l ls) =
      ap₂ (λ x y. x ++ y) (literal_words l) (literals_words ls)
      ∙ sym (concat-append (words_of (literal_numbers l) (literal_types l)) (words_of (literals_numbers ls) (literals_types ls)))
      ∙ ap concat_words (sym (words_of-append (literal_numbers l) (literals_numbers ls) (literal_types l) (literals_types ls) (literal_sizes l)))

words_of_rule : (zs : List ℤ) (ts : List HwType) (g : ℕ → Word) (n : ℕ) → length zs ≡ length ts
    → ((i : ℕ) (t : HwType) → slice_get ts i ≡ Some t → g (n + i) ≡ bits_of_ℤ (width t) (number_at zs i)) → words_of zs ts ≡ in_row g n (length ts)
words_of_rule [] [] g n same is = refl
words_of_rule [] (t ∷ ts) g n same is = absurd (omega arith)
words_of_rule (z ∷ zs) [] g n same is = absurd (omega arith)
words_of_rule (z ∷ zs) (t ∷ ts) g n same is =
    ap₂ (λ x xs. x ∷ xs) (sym (ap g (sym (add-zero n)) ∙ is 0 t refl))
    (words_of_rule zs ts g (suc n) (omega arith) (λ i u at_u. ap g (let e : suc n + i ≡ n + suc i = omega arith in e) ∙ is (suc i) u at_u))

pub constant_splits : (o : Op) (ls : Literals) (old_type : Ref → Option HwType) (stand : Ref → List Ref) (t : HwType) → o.kind ≡ aggregate_constant ls → result_types o ≡ t ∷ []
    → literals_types ls ≡ leaves t → Splits (constant_rule o ls) old_type stand o
constant_splits o ls old_type stand t is one shape =
    leafwise_splits o (λ args i u. made_op o (constant (number_at (literals_numbers ls) i)) [] (u ∷ []) [] u) old_type stand
    (λ args i u. refl) (λ args i u. refl) (plain_kind o (aggregate_constant ls) is refl)
    (λ new_type typed. record {
      fits = λ i u at_u. made_fits new_type o (constant (number_at (literals_numbers ls) i)) [] (u ∷ []) [] u refl;
      operands = λ i u r at_u never. absurd never;
      words = λ τ wide g is_g.
          one_rule o t (λ k u. result_word (whole stand τ) o k (Some u) ≡ concat_words (in_row g (result_start o k) (length (leaves u)))) one
          (ap (λ k. op_value k o.types t 0 (map (whole stand τ) o.operands)) is
          ∙ literals_words ls
          ∙ ap (λ ts. concat_words (words_of (literals_numbers ls) ts)) shape
          ∙ ap concat_words (words_of_rule (literals_numbers ls) (leaves t) g 0 (literals_sizes ls ∙ ap length shape)
          (λ i u at_u. ap g (zero-add i) ∙ is_g i u (ap (λ ts. slice_get ts i) (all_of_one o t one) ∙ at_u))));
    })
