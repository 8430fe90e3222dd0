-- The rest of a text stands after its pieces, and parts that are added one after another.
use Rattle.std.proofs.Common.{◌≡◌, [], ◌∷◌, ◌++◌, Option, Some, None, codes, refl, sym, ◌∙◌, ap, append_assoc}
use Rattle.verilog_model.specs.Tree.{Numeral, Expr, Exprs, VPort, Load, Connection}
use Rattle.verilog_model.specs.Tree.Expr.{name, bit_select, part_select, literal, joined, repeated, as_signed, as_unsigned, paren, odd, binary, choice}
use Rattle.verilog_model.specs.Tree.Exprs.{last, more}
use Rattle.verilog_model.specs.Grammar.{base_mark, direction}
use Rattle.verilog_model.specs.Text.{question_text, operator_text, expr_text, exprs_text}
use Rattle.export_verilog.specs.Layout.{Text, range_text, port_text, load_text, if_text, connection_text}
use Rattle.export_verilog.specs.Written.{verbatim, written_load, otherwise_text}

-- ---- parts that are added one after another

pub three_parts : (out one two end a b c : Text) → one ≡ out ++ a → two ≡ one ++ b → end ≡ two ++ c → end ≡ out ++ (a ++ (b ++ c))
three_parts out one two end a b c p q r =
    r ∙ ap (λ x. x ++ c) (q ∙ ap (λ x. x ++ b) p) ∙ append_assoc (out ++ a) b c ∙ append_assoc out a (b ++ c)

pub four_parts : (out one two thr end a b c d : Text) → one ≡ out ++ a → two ≡ one ++ b → thr ≡ two ++ c → end ≡ thr ++ d
    → end ≡ out ++ (a ++ (b ++ (c ++ d)))
four_parts out one two thr end a b c d p q r s =
    three_parts one two thr end b c d q r s ∙ ap (λ x. x ++ (b ++ (c ++ d))) p ∙ append_assoc out a (b ++ (c ++ d))

pub five_parts : (out one two thr fou end a b c d e : Text) → one ≡ out ++ a → two ≡ one ++ b → thr ≡ two ++ c → fou ≡ thr ++ d → end ≡ fou ++ e
    → end ≡ out ++ (a ++ (b ++ (c ++ (d ++ e))))
five_parts out one two thr fou end a b c d e p q r s t =
    four_parts one two thr fou end b c d e q r s t ∙ ap (λ x. x ++ (b ++ (c ++ (d ++ e)))) p ∙ append_assoc out a (b ++ (c ++ (d ++ e)))

-- ---- expressions

-- three and five parts before a rest
pub three_rest : (x y z a b : Text) → x ++ (y ++ (z ++ (a ++ b))) ≡ (x ++ (y ++ (z ++ a))) ++ b
three_rest x y z a b = simp append_assoc

mutual
  unfolding expr_text exprs_text

  pub expr_rest : (e : Expr) (a b : Text) → expr_text e (a ++ b) ≡ expr_text e a ++ b
  expr_rest (name n) a b = sym (append_assoc n a b)
  expr_rest (bit_select n k) a b = simp append_assoc
  expr_rest (part_select n h l) a b = simp append_assoc
  expr_rest (literal w s h) a b = three_rest w (base_mark s) h a b
  expr_rest (joined es) a b = ap (λ x. codes "{" ++ x) (exprs_rest es (codes "}" ++ a) b)
  expr_rest (repeated n es) a b = ap (λ x. codes "{" ++ (n ++ (codes "{" ++ x))) (exprs_rest es (codes "}}" ++ a) b) ∙ simp append_assoc
  expr_rest (as_signed e) a b = ap (λ x. codes "$signed(" ++ x) (expr_rest e (codes ")" ++ a) b)
  expr_rest (as_unsigned e) a b = ap (λ x. codes "$unsigned(" ++ x) (expr_rest e (codes ")" ++ a) b)
  expr_rest (paren e) a b = ap (λ x. codes "(" ++ x) (expr_rest e (codes ")" ++ a) b)
  expr_rest (odd e) a b = ap (λ x. codes "^" ++ x) (expr_rest e a b)
  expr_rest (binary o e f) a b =
      ap (λ x. expr_text e (operator_text o ++ x)) (expr_rest f a b)
      ∙ ap (expr_text e) (sym (append_assoc (operator_text o) (expr_text f a) b))
      ∙ expr_rest e (operator_text o ++ expr_text f a) b
  expr_rest (choice c e f) a b =
      ap (λ x. expr_text c (question_text ++ expr_text e (codes " : " ++ x))) (expr_rest f a b)
      ∙ ap (λ x. expr_text c (question_text ++ x)) (expr_rest e (codes " : " ++ expr_text f a) b)
      ∙ expr_rest c (question_text ++ expr_text e (codes " : " ++ expr_text f a)) b

  exprs_rest : (es : Exprs) (a b : Text) → exprs_text es (a ++ b) ≡ exprs_text es a ++ b
  exprs_rest (last e) a b = expr_rest e a b
  exprs_rest (more e es) a b =
      ap (λ x. expr_text e (codes ", " ++ x)) (exprs_rest es a b)
      ∙ expr_rest e (codes ", " ++ exprs_text es a) b

-- ---- registers

pub load_rest : (i : Text) (l : Load) (a b : Text) → load_text i l (a ++ b) ≡ load_text i l a ++ b
unfolding load_text
load_rest i l a b =
    ap (λ x. i ++ (l.target ++ (codes " <= " ++ x))) (expr_rest l.value (59 ∷ 10 ∷ a) b)
    ∙ three_rest i l.target (codes " <= ") (expr_text l.value (59 ∷ 10 ∷ a)) b

pub if_rest : (f : Text) (e : Expr) (a b : Text) → if_text f e (a ++ b) ≡ if_text f e a ++ b
unfolding if_text
if_rest f e a b =
    ap (λ x. f ++ (codes "if (" ++ x)) (expr_rest e (41 ∷ 10 ∷ a) b)
    ∙ sym (append_assoc f (codes "if (" ++ expr_text e (41 ∷ 10 ∷ a)) b)

-- a condition and a load
pub guarded_parts : (out one two f c i q v : Text) → one ≡ out ++ if_text f (verbatim c) [] → two ≡ one ++ load_text i (written_load q v) []
    → two ≡ out ++ if_text f (verbatim c) (load_text i (written_load q v) [])
guarded_parts out one two f c i q v p e =
    e ∙ ap (λ x. x ++ load_text i (written_load q v) []) p
    ∙ append_assoc out (if_text f (verbatim c) []) (load_text i (written_load q v) [])
    ∙ ap (λ x. out ++ x) (sym (if_rest f (verbatim c) [] (load_text i (written_load q v) [])))

-- a reset, and what stands after it
pub reset_parts : (out one two c q v next : Text) (en : Option Text)
    → one ≡ out ++ if_text (codes "    ") (verbatim c) (load_text (codes "      ") (written_load q v) []) → two ≡ one ++ otherwise_text q next en
    → two ≡ out ++ if_text (codes "    ") (verbatim c) (load_text (codes "      ") (written_load q v) (otherwise_text q next en))
reset_parts out one two c q v next en p e =
    e ∙ ap (λ x. x ++ otherwise_text q next en) p
    ∙ append_assoc out (if_text (codes "    ") (verbatim c) (load_text (codes "      ") (written_load q v) [])) (otherwise_text q next en)
    ∙ ap (λ x. out ++ x) (sym (if_rest (codes "    ") (verbatim c) (load_text (codes "      ") (written_load q v) []) (otherwise_text q next en)))
    ∙ ap (λ x. out ++ if_text (codes "    ") (verbatim c) x) (sym (load_rest (codes "      ") (written_load q v) [] (otherwise_text q next en)))

-- ---- ports

pub range_rest : (h : Option Numeral) (a b : Text) → range_text h (a ++ b) ≡ range_text h a ++ b
unfolding range_text
range_rest None a b = refl
range_rest (Some h) a b = simp append_assoc

pub port_rest : (p : VPort) (a b : Text) → port_text p (a ++ b) ≡ port_text p a ++ b
unfolding port_text
port_rest p a b =
    ap (λ x. codes "  " ++ (direction p.is_output ++ (codes " wire " ++ x))) (ap (range_text p.high) (sym (append_assoc p.name a b)) ∙ range_rest p.high (p.name ++ a) b)
    ∙ three_rest (codes "  ") (direction p.is_output) (codes " wire ") (range_text p.high (p.name ++ a)) b

-- ---- instances

pub connection_rest : (c : Connection) (a b : Text) → connection_text c (a ++ b) ≡ connection_text c a ++ b
unfolding connection_text
connection_rest c a b =
    ap (λ x. codes "    ." ++ (c.port ++ (40 ∷ x))) (expr_rest c.value (41 ∷ a) b) ∙ sym (append_assoc (codes "    ." ++ c.port) (40 ∷ expr_text c.value (41 ∷ a)) b) ∙ back
  where
    back : ((codes "    ." ++ c.port) ++ (40 ∷ expr_text c.value (41 ∷ a))) ++ b ≡ (codes "    ." ++ (c.port ++ (40 ∷ expr_text c.value (41 ∷ a)))) ++ b
    back = ap (λ x. x ++ b) (append_assoc (codes "    .") c.port (40 ∷ expr_text c.value (41 ∷ a)))
