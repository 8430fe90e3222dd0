-- The text of the expression of an operation is that of its form over its operands.
use Rattle.std.proofs.Common.{◌≡◌, ℕ, suc, ◌+◌, ◌<◌, Bool, true, false, cond, ◌==◌, nat_le, List, [], ◌∷◌, ◌++◌, codes, decimal, refl, sym, ap, ◌∙◌, append_assoc, arith, ne_eqb}
use Rattle.std.proofs.lemmas.List.{append-nil}
use Rattle.std.proofs.lemmas.Bool.{leb-false}
use Rattle.verilog_model.specs.Tree.{Expr}
use Rattle.verilog_model.specs.Tree.Expr.{repeated, paren, odd, binary}
use Rattle.verilog_model.specs.Tree.Exprs.{last}
use Rattle.verilog_model.specs.Grammar.{level, strength, primary_level}
use Rattle.verilog_model.specs.Digits.{literal_of}
use Rattle.verilog_expr.specs.Building.{unsigned, parenthesize, unsigned_at, chain, signed_pair, unsigned_shift, signed_shift, unsigned_division, signed_division, exprs_of, concatenation, conditional}
use Rattle.verilog_model.specs.Text.{question_text, operator_text, expr_text, exprs_text}
use Rattle.verilog_expr.specs.Forms.{operator_of, before, operand_text, form_text}
use Rattle.verilog_expr.specs.declared.form.Operator.{Operator}
use Rattle.verilog_expr.specs.declared.form.Form.TheVariants.{Same, Chain, SignedPair, UnsignedShift, SignedShift, UnsignedDivision, SignedDivision, Parity, Braces, Copies, Choice}
use Rattle.verilog_expr.proofs.TextParts.{text_append}

nonzero : (i : ℕ) → 0 < i → (i == 0) ≡ false
nonzero i some = ne_eqb i 0 (λ e. omega (arith, e, some))

-- an operand of a chain that is not the first
chain_operand : (o : Operator) (i : ℕ) (e : Expr) → 0 < i → operand_text (Chain o) i e ≡ expr_text (unsigned_at (suc (strength (operator_of o))) e) []
chain_operand o i e some =
    ap (λ b. expr_text (unsigned_at (cond b (strength (operator_of o)) (strength (operator_of o) + 1)) e) []) (nonzero i some)
    ∙ ap (λ l. expr_text (unsigned_at l e) []) (omega arith)

chain_before : (o : Operator) (i : ℕ) → 0 < i → before (Chain o) i ≡ operator_text (operator_of o)
chain_before o i some = ap (λ b. cond b [] (operator_text (operator_of o))) (nonzero i some)

chained_text : (o : Operator) (a : Expr) (bs : List Expr) (i : ℕ) → 0 < i → expr_text (chain (operator_of o) a bs) [] ≡ expr_text a [] ++ form_text (Chain o) i bs
unfolding expr_text
chained_text o a [] i some = sym (append-nil (expr_text a []))
chained_text o a (b ∷ bs) i some =
    chained_text o (binary (operator_of o) a (unsigned_at (suc (strength (operator_of o))) b)) bs (i + 1) (omega arith)
    ∙ ap (λ x. x ++ form_text (Chain o) (i + 1) bs) (text_append a (operator_text (operator_of o) ++ expr_text (unsigned_at (suc (strength (operator_of o))) b) []))
    ∙ append_assoc (expr_text a []) (operator_text (operator_of o) ++ expr_text (unsigned_at (suc (strength (operator_of o))) b) []) (form_text (Chain o) (i + 1) bs)
    ∙ ap (λ x. expr_text a [] ++ x) (append_assoc (operator_text (operator_of o)) (expr_text (unsigned_at (suc (strength (operator_of o))) b) []) (form_text (Chain o) (i + 1) bs))
    ∙ sym (ap (λ x. expr_text a [] ++ (operator_text (operator_of o) ++ (x ++ form_text (Chain o) (i + 1) bs))) (chain_operand o i b some))
    ∙ sym (ap (λ x. expr_text a [] ++ (x ++ (operand_text (Chain o) i b ++ form_text (Chain o) (i + 1) bs))) (chain_before o i some))

pub chain_text : (o : Operator) (a : Expr) (bs : List Expr) → expr_text (chain (operator_of o) (unsigned_at (strength (operator_of o)) a) bs) [] ≡ form_text (Chain o) 0 (a ∷ bs)
chain_text o a bs = chained_text o (unsigned_at (strength (operator_of o)) a) bs 1 (omega arith)

le_zero : (n : ℕ) → nat_le 0 n ≡ true
le_zero n = go (nat_le 0 n) refl
  where
    go : (b : Bool) → nat_le 0 n ≡ b → b ≡ true
    go true e = refl
    go false e = absurd (omega (arith, leb-false 0 n e))

free : (e : Expr) → parenthesize 0 e ≡ e
free e = ap (λ b. cond b e (paren e)) (le_zero (level e))

-- its text
plain : (e : Expr) → expr_text (parenthesize 0 e) [] ≡ expr_text e []
plain e = ap (λ x. expr_text x []) (free e)

plus_one : (n : ℕ) → n + 1 ≡ suc n
plus_one n = omega arith

pub same_text : (a : Expr) → expr_text a [] ≡ form_text Same 0 (a ∷ [])
same_text a = sym (plain a) ∙ sym (append-nil (expr_text (parenthesize 0 a) []))

pub signed_pair_text : (o : Operator) (a b : Expr) → expr_text (signed_pair (operator_of o) a b) [] ≡ form_text (SignedPair o) 0 (a ∷ b ∷ [])
unfolding expr_text
signed_pair_text o a b =
    ap (λ x. codes "$signed(" ++ x) (text_append a (codes ")" ++ (operator_text (operator_of o) ++ (codes "$signed(" ++ expr_text b (codes ")")))))
    ∙ ap (λ x. codes "$signed(" ++ (expr_text a [] ++ (codes ")" ++ (operator_text (operator_of o) ++ (codes "$signed(" ++ x))))) (text_append b (codes ")"))
    ∙ sym (ap (λ x. codes "$signed(" ++ (expr_text a [] ++ (codes ")" ++ x))) (append_assoc (operator_text (operator_of o)) (codes "$signed(") (expr_text b [] ++ codes ")")))
    ∙ sym (ap (λ x. codes "$signed(" ++ (expr_text a [] ++ (codes ")" ++ ((operator_text (operator_of o) ++ codes "$signed(") ++ (x ++ codes ")"))))) (plain b))
    ∙ sym (ap (λ x. codes "$signed(" ++ (x ++ (codes ")" ++ ((operator_text (operator_of o) ++ codes "$signed(") ++ (expr_text (parenthesize 0 b) [] ++ codes ")"))))) (plain a))

-- the right operand of a shift
amount : (o : Operator) (b : Expr) → expr_text (parenthesize (suc (strength (operator_of o))) b) [] ≡ expr_text (parenthesize (strength (operator_of o) + 1) b) [] ++ []
amount o b = sym (ap (λ l. expr_text (parenthesize l b) []) (plus_one (strength (operator_of o)))) ∙ sym (append-nil (expr_text (parenthesize (strength (operator_of o) + 1) b) []))

pub unsigned_shift_text : (o : Operator) (a b : Expr) → expr_text (unsigned_shift (operator_of o) a b) [] ≡ form_text (UnsignedShift o) 0 (a ∷ b ∷ [])
unfolding expr_text
unsigned_shift_text o a b =
    text_append (unsigned_at (strength (operator_of o)) a) (operator_text (operator_of o) ++ expr_text (parenthesize (suc (strength (operator_of o))) b) [])
    ∙ ap (λ x. expr_text (unsigned_at (strength (operator_of o)) a) [] ++ (operator_text (operator_of o) ++ x)) (amount o b)

pub signed_shift_text : (o : Operator) (a b : Expr) → expr_text (signed_shift (operator_of o) a b) [] ≡ form_text (SignedShift o) 0 (a ∷ b ∷ [])
unfolding expr_text
signed_shift_text o a b =
    ap (λ x. codes "$signed(" ++ x) (text_append a (codes ")" ++ (operator_text (operator_of o) ++ expr_text (parenthesize (suc (strength (operator_of o))) b) [])))
    ∙ ap (λ x. codes "$signed(" ++ (expr_text a [] ++ (codes ")" ++ (operator_text (operator_of o) ++ x)))) (amount o b)
    ∙ sym (ap (λ x. codes "$signed(" ++ (x ++ (codes ")" ++ (operator_text (operator_of o) ++ (expr_text (parenthesize (strength (operator_of o) + 1) b) [] ++ []))))) (plain a))

pub unsigned_division_text : (o : Operator) (w d : ℕ) (a : Expr) → expr_text (unsigned_division (operator_of o) w d a) [] ≡ form_text (UnsignedDivision o w d) 0 (a ∷ [])
unfolding expr_text
unsigned_division_text o w d a =
    text_append (unsigned_at (strength (operator_of o)) a) (operator_text (operator_of o) ++ expr_text (literal_of w false d) [])

pub signed_division_text : (o : Operator) (w d : ℕ) (a : Expr) → expr_text (signed_division (operator_of o) w d a) [] ≡ form_text (SignedDivision o w d) 0 (a ∷ [])
unfolding expr_text
signed_division_text o w d a =
    ap (λ x. codes "$signed(" ++ x) (text_append a (codes ")" ++ (operator_text (operator_of o) ++ expr_text (literal_of w true d) [])))
    ∙ sym (ap (λ x. codes "$signed(" ++ (x ++ (codes ")" ++ (operator_text (operator_of o) ++ expr_text (literal_of w true d) [])))) (plain a))

pub parity_text : (a : Expr) → expr_text (odd (parenthesize primary_level a)) [] ≡ form_text Parity 0 (a ∷ [])
unfolding expr_text
parity_text a = ap (λ x. codes "^" ++ x) (sym (append-nil (expr_text (parenthesize 11 a) [])))

braces_before : (i : ℕ) → 0 < i → before Braces i ≡ codes ", "
braces_before i some = ap (λ b. cond b (codes "{") (codes ", ")) (nonzero i some)

braces_from : (a : Expr) (rest : List Expr) (i : ℕ) → 0 < i → exprs_text (exprs_of a rest) (codes "}") ≡ expr_text (parenthesize 0 a) [] ++ form_text Braces i rest
unfolding expr_text
braces_from a [] i some = text_append a (codes "}") ∙ sym (ap (λ x. x ++ codes "}") (plain a))
braces_from a (b ∷ bs) i some =
    text_append a (codes ", " ++ exprs_text (exprs_of b bs) (codes "}"))
    ∙ ap (λ x. expr_text a [] ++ (codes ", " ++ x)) (braces_from b bs (i + 1) (omega arith))
    ∙ sym (ap (λ x. expr_text a [] ++ (x ++ (expr_text (parenthesize 0 b) [] ++ form_text Braces (i + 1) bs))) (braces_before i some))
    ∙ sym (ap (λ x. x ++ (before Braces i ++ (expr_text (parenthesize 0 b) [] ++ form_text Braces (i + 1) bs))) (plain a))

pub braces_text : (a : Expr) (rest : List Expr) → expr_text (concatenation (a ∷ rest)) [] ≡ form_text Braces 0 (a ∷ rest)
unfolding expr_text
braces_text a rest = ap (λ x. codes "{" ++ x) (braces_from a rest 1 (omega arith))

pub copies_text : (n : ℕ) (a : Expr) → expr_text (repeated (decimal n) (last a)) [] ≡ form_text (Copies n) 0 (a ∷ [])
unfolding expr_text
copies_text n a =
    ap (λ x. codes "{" ++ (decimal n ++ (codes "{" ++ x))) (text_append a (codes "}}"))
    ∙ sym (ap (λ x. codes "{" ++ (decimal n ++ (codes "{" ++ (x ++ codes "}}")))) (plain a))
    ∙ sym (ap (λ x. codes "{" ++ x) (append_assoc (decimal n) (codes "{") (expr_text (parenthesize 0 a) [] ++ codes "}}")))

pub choice_text : (c a b : Expr) → expr_text (conditional c a b) [] ≡ form_text Choice 0 (c ∷ a ∷ b ∷ [])
unfolding expr_text
choice_text c a b =
    text_append (parenthesize 2 c) (question_text ++ expr_text (unsigned a) (codes " : " ++ expr_text (unsigned_at 1 b) []))
    ∙ ap (λ x. expr_text (parenthesize 2 c) [] ++ (question_text ++ x)) (text_append (unsigned a) (codes " : " ++ expr_text (unsigned_at 1 b) []))
    ∙ sym (ap (λ x. expr_text (parenthesize 2 c) [] ++ (question_text ++ (x ++ (codes " : " ++ expr_text (unsigned_at 1 b) [])))) (plain (unsigned a)))
    ∙ sym (ap (λ x. expr_text (parenthesize 2 c) [] ++ (question_text ++ (expr_text (parenthesize 0 (unsigned a)) [] ++ (codes " : " ++ x)))) (append-nil (expr_text (unsigned_at 1 b) [])))
