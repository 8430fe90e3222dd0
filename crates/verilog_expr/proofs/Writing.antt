-- What is seen of the expression of a value, and how it is put into its place.
use Rattle.std.proofs.Common.{◌≡◌, ℕ, zero, suc, ◌+◌, ◌-◌, ◌<◌, ◌≢◌, Bool, true, false, cond, ◌==◌, nat_le, nat_lt, List, [], ◌∷◌, ◌++◌, length, map, slice_get, Option, Some, None, is_some, codes}
use Rattle.std.proofs.Common.{decimal, refl, sym, ap, ap₂, subst, ◌∙◌, arith, option_and_then}
use Rattle.std.proofs.lemmas.Bool.{ltb-true, ltb-false, leb-true, leb-false}
use Rattle.std.proofs.lemmas.List.{append-nil, length-map}
use Rattle.hw_model.specs.Types.{Name, HwType, width}
use Rattle.hw_model.specs.Design.{Ref, Port, Op, result_type}
use Rattle.hw_model.specs.Design.Ref.{result}
use Rattle.hw_model.specs.Flat.{width_of}
use Rattle.ir_store.specs.declared.operation.Value.{Value}
use Rattle.verilog_model.specs.Tree.{Expr}
use Rattle.verilog_model.specs.Tree.Expr.{name, bit_select, part_select, as_unsigned, paren}
use Rattle.verilog_model.specs.Grammar.{level}
use Rattle.verilog_model.specs.Expression.{is_signed}
use Rattle.verilog_expr.specs.Building.{no_expr, parenthesize, of_one_expr, select, first_width}
use Rattle.verilog_expr.specs.Extensions.{is_simple, alone_under, expr_or, alone_or}
use Rattle.verilog_expr.specs.Places.{place_in, place_under, placed_exprs, alone_in}
use Rattle.verilog_expr.specs.declared.extending.Extending.{Extending}
use Rattle.verilog_expr.specs.declared.extending.Extending.TheVariants.{Off, Own, Given}
use Rattle.verilog_expr.specs.declared.form.Operator.{Operator}
use Rattle.verilog_expr.specs.declared.form.Form.{Form}
use Rattle.verilog_expr.specs.Expressions.{value_width, divisor_in, name_or, lends, operand_exprs, op_expr, typed_expr, result_expr, own_expr, expr_step, expr_to}
use Rattle.verilog_model.specs.Text.{expr_text}
use Rattle.verilog_expr.specs.Scopes.{scope_ports, scope_ops, scope_ref}
use Rattle.verilog_expr.specs.Forms.{in_position}
use Rattle.verilog_expr.specs.Templates.{template_for, template_text, template_signed, template_level, template_name, sole_name, name_of_one, template_simple, shown_operands, IsTemplate}
use Rattle.verilog_expr.specs.Named.{named_of}
use Rattle.verilog_expr.specs.declared.value_names.ValueNames.{ValueNames}
use Rattle.verilog_expr.specs.declared.form.Form.TheVariants.{Same, UnsignedDivision, SignedDivision}
use Rattle.verilog_expr.specs.ExprNode.{expr_at, exprs_to, placed_at, shown_at, shown_values, text_or, IsOnly, head_width, select_text, IsNodeOf, IsResultOf, wrap_for, open_text, close_text}
use Rattle.verilog_expr.specs.declared.info.Wrap.TheVariants.{Bare, Paren}
use Rattle.verilog_expr.specs.declared.template.Template.{Template}
use Rattle.verilog_expr.specs.declared.template.Template.TheVariants.{Missing, Number, Select, Operands}
use Rattle.verilog_expr.specs.declared.scope.Scope.{Scope}
use Rattle.verilog_expr.proofs.TextParts.{text_append}
use Rattle.verilog_expr.proofs.Extended.{alone_none, as_many_placed}
use Rattle.verilog_expr.proofs.FormPlaces.{placed_is, alone_same, alone_missing}
use Rattle.verilog_expr.proofs.FormTemplates.{missing_is, built_is}

-- ---- what an operation makes

pub width_result : (ports : List Port) (os : List Op) (i k : ℕ) (o : Op) → slice_get os i ≡ Some o → ((r : Ref) → value_width ports os r < 129) → width_of (result_type o k) < 129
width_result ports os i k o at small = subst (λ m. width_of (option_and_then (λ (x : Op). result_type x k) m) < 129) at (small (result i k))

heads : (ports : List Port) (os : List Op) (rs : List Ref) → first_width (map (value_width ports os) rs) ≡ head_width ports os rs
heads ports os [] = refl
heads ports os (r ∷ rs) = refl

-- a value without an expression
pub node_nothing : (s : Scope) (r : Ref) (template : Template) (operands : List Value)
    → ((named : Ref → Option Name) (ex : Extending → Ref → Expr) (x : Extending) → own_expr named (scope_ports s) (scope_ops s) ex x r ≡ no_expr)
    → template ≡ Missing → IsNodeOf s r template operands
node_nothing s r template operands none is = subst (λ q. IsNodeOf s r q operands) (sym is) (record {
  made = λ named ex x. record {
    whole = no_expr;
    own = none named ex x ∙ sym (ap (λ m. alone_or x m no_expr) (alone_missing (scope_ports s) (scope_ops s) ex (map (scope_ref s) operands)) ∙ alone_none x no_expr);
    is = missing_is _;
  };
})

module _ (s : Scope) (o : Op) (k : ℕ) (r : Ref) (found : IsResultOf s o k r) where
  own_is : (m : Option HwType) → result_type o k ≡ m → (named : Ref → Option Name) (ex : Extending → Ref → Expr) (x : Extending)
      → own_expr named (scope_ports s) (scope_ops s) ex x r ≡ typed_expr named (scope_ports s) (scope_ops s) ex x o m
  own_is m typed named ex x =
      ap (own_expr named (scope_ports s) (scope_ops s) ex x) found.is
      ∙ ap (result_expr named (scope_ports s) (scope_ops s) ex x k) found.there
      ∙ ap (typed_expr named (scope_ports s) (scope_ops s) ex x o) typed

  pub node_none : (template : Template) (operands : List Value) → is_some (result_type o k) ≡ false → template ≡ Missing → IsNodeOf s r template operands
  node_none template operands none is = go (result_type o k) refl none
    where
      go : (m : Option HwType) → result_type o k ≡ m → is_some m ≡ false → IsNodeOf s r template operands
      go (Some t) typed h = cc
      go None typed h = subst (λ q. IsNodeOf s r q operands) (sym is) (record {
        made = λ named ex x. record {
          whole = no_expr;
          own = own_is None typed named ex x
              ∙ sym (ap (λ m. alone_or x m no_expr) (alone_missing (scope_ports s) (scope_ops s) ex (map (scope_ref s) operands)) ∙ alone_none x no_expr);
          is = missing_is _;
        };
      })

  pub node_is : (template : Template) (operands : List Value) (w d v n : ℕ) → is_some (result_type o k) ≡ true → o.operands ≡ map (scope_ref s) operands
      → w ≡ width_of (result_type o k) → v ≡ head_width (scope_ports s) (scope_ops s) o.operands → d ≡ divisor_in (scope_ops s) w o.operands → n ≡ length operands
      → template ≡ template_for o.kind w v d n → IsNodeOf s r template operands
  node_is template operands w d v n some os wide head by count is = go (result_type o k) refl some
    where
      go : (m : Option HwType) → result_type o k ≡ m → is_some m ≡ true → IsNodeOf s r template operands
      go None typed h = cc
      go (Some t) typed h =
          let ws : List ℕ = map (value_width (scope_ports s) (scope_ops s)) o.operands in
          let at_width : w ≡ width t = wide ∙ ap width_of typed in
          let by_width : d ≡ divisor_in (scope_ops s) (width t) o.operands = by ∙ ap (λ x. divisor_in (scope_ops s) x o.operands) at_width in
          let first : v ≡ first_width ws = head ∙ sym (heads (scope_ports s) (scope_ops s) o.operands) in
          let many : n ≡ length o.operands = count ∙ sym (length-map operands (scope_ref s)) ∙ sym (ap length os) in
          let same_template : template_for o.kind (width t) (first_width ws) (divisor_in (scope_ops s) (width t) o.operands) n ≡ template =
          sym (is ∙ ap (λ x. template_for o.kind x v d n) at_width ∙ ap (λ x. template_for o.kind (width t) x d n) first ∙ ap (λ x. template_for o.kind (width t) (first_width ws) x n) by_width) in
          record {
            made = λ named ex x.
                let es : List Expr = operand_exprs x ex o.kind o.operands 0 o.operands in
                let whole : Expr = op_expr named (scope_ports s) (scope_ops s) ex x o (width t) in
                let counted : length es ≡ n = as_many_placed ex o.kind x o.operands 0 o.operands ∙ sym many in
                let it : IsTemplate whole template es =
                subst (λ q. IsTemplate whole q es) (ap (template_for o.kind (width t) (first_width ws) (divisor_in (scope_ops s) (width t) o.operands)) counted ∙ same_template)
                (built_is o.kind (width t) ws (divisor_in (scope_ops s) (width t) o.operands) es) in
                record {
                  whole = whole;
                  own = own_is (Some t) typed named ex x
                      ∙ ap (λ m. alone_or x m whole)
                      (alone_same (scope_ports s) (scope_ops s) ex o.kind template (width t) (first_width ws) (divisor_in (scope_ops s) (width t) o.operands) n o.operands same_template many
                      ∙ ap (alone_in (scope_ports s) (scope_ops s) ex template) os);
                  is = subst (λ rs. IsTemplate whole template (placed_exprs x ex template rs 0 rs)) os
                      (placed_is ex o.kind x whole template (width t) (first_width ws) (divisor_in (scope_ops s) (width t) o.operands) n same_template o.operands 0 o.operands it);
                };
          }

-- ---- depths

module _ (named : Ref → Option Name) (ports : List Port) (os : List Op) (x : Extending) (r : Ref) where
  pub at_zero : (n : ℕ) → n ≡ 0 → expr_to named ports os n x r ≡ no_expr
  unfolding expr_to
  at_zero n is = ap (λ m. expr_to named ports os m x r) is

  at_more : (n : ℕ) → n ≢ 0 → expr_to named ports os n x r ≡ expr_step named ports os (expr_to named ports os (n - 1)) x r
  unfolding expr_to
  at_more zero some = absurd (some refl)
  at_more (suc n) some = let e : n ≡ suc n - 1 = omega arith in ap (λ m. expr_step named ports os (expr_to named ports os m) x r) e

  pub at_name : (n : ℕ) (c : Name) → n ≢ 0 → named r ≡ Some c → expr_to named ports os n x r ≡ name c
  at_name n c some is = at_more n some ∙ ap (λ m. name_or m (own_expr named ports os (expr_to named ports os (n - 1)) x r)) is

  pub at_own : (n : ℕ) → n ≢ 0 → named r ≡ None → expr_to named ports os n x r ≡ own_expr named ports os (expr_to named ports os (n - 1)) x r
  at_own n some is = at_more n some ∙ ap (λ m. name_or m (own_expr named ports os (expr_to named ports os (n - 1)) x r)) is

pub name_text : (c : Name) → expr_text (name c) [] ≡ c
unfolding expr_text
name_text c = append-nil c

pub maps : {A B C : Type 0} (f : A → B) (g : B → C) (xs : List A) → map g (map f xs) ≡ map (λ x. g (f x)) xs
maps f g [] = refl
maps f g (x ∷ xs) = ap (λ ys. g (f x) ∷ ys) (maps f g xs)

-- ---- selects

pub selects : (low w : ℕ) (es : List Expr) → expr_text (of_one_expr (select low w) es) [] ≡ select_text (name_of_one es) low w
unfolding expr_text
selects low w [] = refl
selects low w (a ∷ b ∷ es) = refl
selects low w (name n ∷ []) = go (w == 1)
  where
    go : (b : Bool) → expr_text (cond b (bit_select n (decimal low)) (part_select n (decimal (low + w - 1)) (decimal low))) []
        ≡ n ++ (codes "[" ++ cond b (decimal low ++ codes "]") (decimal (low + w - 1) ++ (codes ":" ++ (decimal low ++ codes "]"))))
    go true = refl
    go false = refl
selects low w (_ ∷ []) = refl

-- ---- positions

bare_or_paren : (l : ℕ) (e : Expr) → open_text (cond (nat_lt (level e) l) Paren Bare) ++ (expr_text e [] ++ close_text (cond (nat_lt (level e) l) Paren Bare)) ≡ expr_text (parenthesize l e) []
unfolding expr_text
bare_or_paren l e = go (nat_lt (level e) l) refl (nat_le l (level e)) refl
  where
    go : (a : Bool) → nat_lt (level e) l ≡ a → (b : Bool) → nat_le l (level e) ≡ b
        → open_text (cond a Paren Bare) ++ (expr_text e [] ++ close_text (cond a Paren Bare)) ≡ expr_text (cond b e (paren e)) []
    go true p true q = absurd (omega (arith, ltb-true (level e) l p, leb-true l (level e) q))
    go false p false q = absurd (omega (arith, ltb-false (level e) l p, leb-false l (level e) q))
    go true p false q = ap (λ x. codes "(" ++ x) (sym (text_append e (codes ")")))
    go false p true q = append-nil (expr_text e [])

pub wrapped : (u : Bool) (l : ℕ) (e : Expr) → l < 12
    → open_text (wrap_for u l (is_signed e) (level e)) ++ (expr_text e [] ++ close_text (wrap_for u l (is_signed e) (level e))) ≡ expr_text (in_position u l e) []
unfolding expr_text
wrapped false l e low = bare_or_paren l e
wrapped true l e low = go (is_signed e)
  where
    go : (s : Bool) → open_text (wrap_for true l s (level e)) ++ (expr_text e [] ++ close_text (wrap_for true l s (level e))) ≡ expr_text (parenthesize l (cond s (as_unsigned e) e)) []
    go false = bare_or_paren l e
    go true =
        ap (λ x. codes "$unsigned(" ++ x) (sym (text_append e (codes ")")))
        ∙ ap (λ b. expr_text (cond b (as_unsigned e) (paren (as_unsigned e))) []) (room (nat_le l 11) refl)
      where
        room : (b : Bool) → nat_le l 11 ≡ b → true ≡ b
        room true p = refl
        room false p = absurd (omega (arith, leb-false l 11 p, low))

-- ---- operands in their places

module _ (s : Scope) (v : ValueNames) (n : ℕ) (x : Extending) where
  pub as_many_shown : (template : Template) (all : List Value) (i : ℕ) (ys : List Value) → length (placed_at s v n x template all i ys) ≡ length ys
  as_many_shown template all i [] = refl
  as_many_shown template all i (y ∷ ys) = let rest : length (placed_at s v n x template all (i + 1) ys) ≡ length ys = as_many_shown template all (i + 1) ys in omega arith

  -- with all zeros written they are the expressions of the operands
  plain_place : (template : Template) (i : ℕ) (l : Bool) → place_under Off template i l ≡ Off
  plain_place Missing i l = refl
  plain_place (Number w k) i l = refl
  plain_place (Select low w) i l = refl
  plain_place (Operands f) i l = refl

  pub plain_at : (template : Template) (all : List Value) (i : ℕ) (ys : List Value) → map (expr_at s v n Off) ys ≡ placed_at s v n Off template all i ys
  plain_at template all i [] = refl
  plain_at template all i (y ∷ ys) =
      ap₂ (λ z es. exprs_to s v n z (scope_ref s y) ∷ es) (sym (plain_place template i (lends (exprs_to s v n) (map (scope_ref s) all) i))) (plain_at template all (i + 1) ys)

  -- what is selected from stands as the whole does
  pub selected_at : (low w : ℕ) (all : List Value) (i : ℕ) (ys : List Value) → placed_at s v n x (Select low w) all i ys ≡ map (expr_at s v n x) ys
  selected_at low w all i [] = refl
  selected_at low w all i (y ∷ ys) = ap (λ es. expr_at s v n x y ∷ es) (selected_at low w all (i + 1) ys)

  same_place : (y : Extending) (l : Bool) → place_in y Same 0 l ≡ y
  same_place Off l = refl
  same_place Own l = refl
  same_place Given l = refl

  -- the first operand of a division stands there whatever the second one is
  unsigned_place : (y : Extending) (o : Operator) (w d : ℕ) (l m : Bool) → place_in y (UnsignedDivision o w d) 0 l ≡ place_in y (UnsignedDivision o w d) 0 m
  unsigned_place Off o w d l m = refl
  unsigned_place Own o w d l m = refl
  unsigned_place Given o w d l m = refl

  signed_place : (y : Extending) (o : Operator) (w d : ℕ) (l m : Bool) → place_in y (SignedDivision o w d) 0 l ≡ place_in y (SignedDivision o w d) 0 m
  signed_place Off o w d l m = refl
  signed_place Own o w d l m = refl
  signed_place Given o w d l m = refl

  pub shown_placed : (f : Form) (all : List Value) → shown_operands f (placed_at s v n x (Operands f) all 0 all) ≡ shown_at s v n x f (shown_values f all) 0 (shown_values f all)
  shown_placed (UnsignedDivision o w d) [] = refl
  shown_placed (UnsignedDivision o w d) (y ∷ ys) =
      ap (λ z. exprs_to s v n z (scope_ref s y) ∷ [])
      (unsigned_place x o w d (lends (exprs_to s v n) (map (scope_ref s) (y ∷ ys)) 0) (lends (exprs_to s v n) (map (scope_ref s) (y ∷ [])) 0))
  shown_placed (SignedDivision o w d) [] = refl
  shown_placed (SignedDivision o w d) (y ∷ ys) =
      ap (λ z. exprs_to s v n z (scope_ref s y) ∷ [])
      (signed_place x o w d (lends (exprs_to s v n) (map (scope_ref s) (y ∷ ys)) 0) (lends (exprs_to s v n) (map (scope_ref s) (y ∷ [])) 0))
  shown_placed _ all = refl

pub written_or : (m : Option Expr) (e : Expr) (t : List ℕ) → expr_text e [] ≡ t → text_or m t ≡ expr_text (expr_or m e) []
written_or None e t is = sym is
written_or (Some f) e t is = refl

-- ---- what is seen of a value without a name

module _ (s : Scope) (v : ValueNames) (n : ℕ) (x : Extending) (value : Value) (template : Template) (xs : List Value) (some : n ≢ 0) (unnamed : None ≡ named_of v (scope_ref s value))
    (node : IsNodeOf s (scope_ref s value) template xs) where
  abbrev alone : Option Expr
  alone = alone_in (scope_ports s) (scope_ops s) (exprs_to s v (n - 1)) template (map (scope_ref s) xs)

  pub own : expr_at s v n x value ≡ alone_or x alone (node.made (named_of v) (exprs_to s v (n - 1)) x).whole
  own = at_own (named_of v) (scope_ports s) (scope_ops s) x (scope_ref s value) n some (sym unnamed) ∙ (node.made (named_of v) (exprs_to s v (n - 1)) x).own

  -- its text
  pub own_text : text_or (alone_under x alone) (template_text template (placed_at s v (n - 1) x template xs 0 xs)) ≡ expr_text (expr_at s v n x value) []
  own_text =
      written_or (alone_under x alone) (node.made (named_of v) (exprs_to s v (n - 1)) x).whole (template_text template (placed_at s v (n - 1) x template xs 0 xs))
      (node.made (named_of v) (exprs_to s v (n - 1)) x).is.text
      ∙ sym (ap (λ e. expr_text e []) own)

  -- where it is a zero extension's operand
  pub seen_alone : (e : Expr) → Some e ≡ alone_under x alone → e ≡ expr_at s v n x value
  seen_alone e is = ap (λ m. expr_or m (node.made (named_of v) (exprs_to s v (n - 1)) x).whole) is ∙ sym own

  module _ (none : None ≡ alone_under x alone) where
    seen_whole : expr_at s v n x value ≡ (node.made (named_of v) (exprs_to s v (n - 1)) x).whole
    seen_whole = own ∙ sym (ap (λ m. expr_or m (node.made (named_of v) (exprs_to s v (n - 1)) x).whole) none)

    own_sign : is_signed (expr_at s v n x value) ≡ template_signed template (placed_at s v (n - 1) x template xs 0 xs)
    own_sign = ap is_signed seen_whole ∙ (node.made (named_of v) (exprs_to s v (n - 1)) x).is.signed

    own_level : level (expr_at s v n x value) ≡ template_level template (placed_at s v (n - 1) x template xs 0 xs)
    own_level = ap level seen_whole ∙ (node.made (named_of v) (exprs_to s v (n - 1)) x).is.level_is

    own_name : sole_name (expr_at s v n x value) ≡ template_name template (placed_at s v (n - 1) x template xs 0 xs)
    own_name = ap sole_name seen_whole ∙ (node.made (named_of v) (exprs_to s v (n - 1)) x).is.called

    pub own_simple : is_simple (expr_at s v n x value) ≡ template_simple template (placed_at s v (n - 1) x template xs 0 xs)
    own_simple = ap is_simple seen_whole ∙ (node.made (named_of v) (exprs_to s v (n - 1)) x).is.simple

    pub seen_same : (y : Value) → template ≡ Operands Same → slice_get xs 0 ≡ Some y
        → (sole_name (expr_at s v (n - 1) x y) ≡ sole_name (expr_at s v n x value)) × (is_signed (expr_at s v (n - 1) x y) ≡ is_signed (expr_at s v n x value))
        × (level (expr_at s v (n - 1) x y) ≡ level (expr_at s v n x value))
    seen_same y is at = (
      sym (own_name ∙ ap (λ q. template_name q (placed_at s v (n - 1) x q xs 0 xs)) is ∙ name_first xs at),
      sym (own_sign ∙ ap (λ q. template_signed q (placed_at s v (n - 1) x q xs 0 xs)) is ∙ sign_first xs at),
      sym (own_level ∙ ap (λ q. template_level q (placed_at s v (n - 1) x q xs 0 xs)) is ∙ level_first xs at),
    )
      where
        at_first : (z : Value) (zs : List Value) → z ≡ y → exprs_to s v (n - 1) (place_in x Same 0 (lends (exprs_to s v (n - 1)) (map (scope_ref s) (z ∷ zs)) 0)) (scope_ref s z) ≡ expr_at s v (n - 1) x y
        at_first z zs same =
            ap (λ w. exprs_to s v (n - 1) w (scope_ref s z)) (same_place s v (n - 1) x x (lends (exprs_to s v (n - 1)) (map (scope_ref s) (z ∷ zs)) 0))
            ∙ ap (expr_at s v (n - 1) x) same

        name_first : (zs : List Value) → slice_get zs 0 ≡ Some y → template_name (Operands Same) (placed_at s v (n - 1) x (Operands Same) zs 0 zs) ≡ sole_name (expr_at s v (n - 1) x y)
        name_first [] e = cc
        name_first (z ∷ zs) e = let same : z ≡ y = cc in ap sole_name (at_first z zs same)

        sign_first : (zs : List Value) → slice_get zs 0 ≡ Some y → template_signed (Operands Same) (placed_at s v (n - 1) x (Operands Same) zs 0 zs) ≡ is_signed (expr_at s v (n - 1) x y)
        sign_first [] e = cc
        sign_first (z ∷ zs) e = let same : z ≡ y = cc in ap is_signed (at_first z zs same)

        level_first : (zs : List Value) → slice_get zs 0 ≡ Some y → template_level (Operands Same) (placed_at s v (n - 1) x (Operands Same) zs 0 zs) ≡ level (expr_at s v (n - 1) x y)
        level_first [] e = cc
        level_first (z ∷ zs) e = let same : z ≡ y = cc in ap level (at_first z zs same)

    pub seen_other : IsOnly template xs None → (None ≡ sole_name (expr_at s v n x value)) × (template_signed template [] ≡ is_signed (expr_at s v n x value))
        × (template_level template [] ≡ level (expr_at s v n x value))
    seen_other other =
        let o = other (placed_at s v (n - 1) x template xs 0 xs) (as_many_shown s v (n - 1) x template xs 0 xs) in
        (sym (own_name ∙ o.2), sym (own_sign ∙ o.0), sym (own_level ∙ o.1))

pub empty_first : (out one a : List ℕ) → out ≡ [] → one ≡ out ++ a → one ≡ a
empty_first out one a e p = p ∙ ap (λ x. x ++ a) e
