-- The text of an expression, part by part.
use Rattle.std.proofs.Common.{◌≡◌, ℕ, List, [], ◌++◌, codes, sym, ap, ◌∙◌, append_assoc}
use Rattle.verilog_model.specs.Tree.{Expr, Exprs}
use Rattle.verilog_model.specs.Tree.Expr.{name, bit_select, part_select, literal, joined, repeated, as_signed, as_unsigned, paren, odd, binary, choice}
use Rattle.verilog_model.specs.Tree.Exprs.{last, more}
use Rattle.verilog_model.specs.Text.{question_text, operator_text, expr_text, exprs_text}

-- what stands before any rest stands before a rest with more after it
moved : (E : List ℕ) (f : List ℕ → List ℕ) → ((x : List ℕ) → f x ≡ E ++ x) → (x bs : List ℕ) → f (x ++ bs) ≡ f x ++ bs
moved E f h x bs = h (x ++ bs) ∙ sym (append_assoc E x bs) ∙ sym (ap (λ y. y ++ bs) (h x))

mutual
  unfolding expr_text exprs_text

  pub text_append : (e : Expr) (bs : List ℕ) → expr_text e bs ≡ expr_text e [] ++ bs
  text_append (name n) bs = simp append_assoc
  text_append (bit_select n k) bs = simp append_assoc
  text_append (part_select n h l) bs = simp append_assoc
  text_append (literal w s h) bs = simp append_assoc
  text_append (joined es) bs = ap (λ x. codes "{" ++ x) (moved (exprs_text es []) (exprs_text es) (texts_append es) (codes "}") bs)
  text_append (repeated n es) bs =
      ap (λ x. codes "{" ++ (n ++ (codes "{" ++ x))) (moved (exprs_text es []) (exprs_text es) (texts_append es) (codes "}}") bs)
      ∙ sym (ap (λ x. codes "{" ++ x) (append_assoc n (codes "{" ++ exprs_text es (codes "}}")) bs))
  text_append (as_signed e) bs = ap (λ x. codes "$signed(" ++ x) (moved (expr_text e []) (expr_text e) (text_append e) (codes ")") bs)
  text_append (as_unsigned e) bs = ap (λ x. codes "$unsigned(" ++ x) (moved (expr_text e []) (expr_text e) (text_append e) (codes ")") bs)
  text_append (paren e) bs = ap (λ x. codes "(" ++ x) (moved (expr_text e []) (expr_text e) (text_append e) (codes ")") bs)
  text_append (odd e) bs = ap (λ x. codes "^" ++ x) (text_append e bs)
  text_append (binary o a b) bs =
      ap (λ x. expr_text a (operator_text o ++ x)) (text_append b bs)
      ∙ sym (ap (expr_text a) (append_assoc (operator_text o) (expr_text b []) bs))
      ∙ moved (expr_text a []) (expr_text a) (text_append a) (operator_text o ++ expr_text b []) bs
  text_append (choice c a b) bs =
      ap (λ x. expr_text c (question_text ++ expr_text a (codes " : " ++ x))) (text_append b bs)
      ∙ ap (λ x. expr_text c (question_text ++ x)) (moved (expr_text a []) (expr_text a) (text_append a) (codes " : " ++ expr_text b []) bs)
      ∙ moved (expr_text c []) (expr_text c) (text_append c) (question_text ++ expr_text a (codes " : " ++ expr_text b [])) bs

  pub texts_append : (es : Exprs) (bs : List ℕ) → exprs_text es bs ≡ exprs_text es [] ++ bs
  texts_append (last e) bs = text_append e bs
  texts_append (more e es) bs =
      ap (λ x. expr_text e (codes ", " ++ x)) (texts_append es bs)
      ∙ moved (expr_text e []) (expr_text e) (text_append e) (codes ", " ++ exprs_text es []) bs
