-- What holds of the expressions of a body: a test that holds of names and of each built expression whose operands it holds of.
use Rattle.std.proofs.Common.{◌≡◌, ℕ, zero, suc, Bool, true, false, List, [], ◌∷◌, length, Option, Some, None, slice_get, refl, sym, ap, subst, ◌∙◌, inl, inr}
use Rattle.wiring.specs.Wiring.{In, IsAcyclic}
use Rattle.wiring.proofs.Settled.{by_needs}
use Rattle.hw_model.specs.Types.{Name, HwType, width}
use Rattle.hw_model.specs.Kinds.{Kind}
use Rattle.hw_model.specs.Design.{Ref, Port, Op, result_type}
use Rattle.hw_model.specs.Design.Ref.{port, result, undefined}
use Rattle.verilog_model.specs.Tree.{Expr}
use Rattle.verilog_model.specs.Tree.Expr.{name}
use Rattle.verilog_expr.specs.Building.{no_expr, of_one_expr, of_two_exprs, of_three_exprs, kind_expr}
use Rattle.verilog_expr.specs.Extensions.{alone_or}
use Rattle.verilog_expr.specs.declared.extending.Extending.{Extending}
use Rattle.verilog_expr.specs.declared.extending.Extending.TheVariants.{Off, Own, Given}
use Rattle.verilog_expr.specs.Expressions.{name_or, operand_exprs, extended_in, op_expr, typed_expr, result_expr, own_expr, AreExprs, expr_to}
use Rattle.verilog_expr.specs.Spilling.{is_pure, inner_needs}
use Rattle.verilog_expr.specs.Values.{IsWritable}
use Rattle.verilog_expr.proofs.Nets.{results, IsWithin-results}
use Rattle.verilog_expr.proofs.Extended.{alone_none, from_placed, extended_is}
use Rattle.verilog_expr.proofs.Bodies.{named_twice, gives_values-pure, pure_needs}

-- ---- one, two or three operands

module _ (p : Expr → Bool) (none : p no_expr ≡ true) where
  pub one_holds : (f : Expr → Expr) → ((a : Expr) → p a ≡ true → p (f a) ≡ true) → (es : List Expr) → ((e : Expr) → In e es → p e ≡ true) → p (of_one_expr f es) ≡ true
  one_holds f each [] all = none
  one_holds f each (a ∷ []) all = each a (all a (inl refl))
  one_holds f each (a ∷ b ∷ es) all = none

  pub two_hold : (f : Expr → Expr → Expr) → ((a b : Expr) → p a ≡ true → p b ≡ true → p (f a b) ≡ true) → (es : List Expr)
      → ((e : Expr) → In e es → p e ≡ true) → p (of_two_exprs f es) ≡ true
  two_hold f each [] all = none
  two_hold f each (a ∷ []) all = none
  two_hold f each (a ∷ b ∷ []) all = each a b (all a (inl refl)) (all b (inr (inl refl)))
  two_hold f each (a ∷ b ∷ c ∷ es) all = none

  pub three_hold : (f : Expr → Expr → Expr → Expr) → ((a b c : Expr) → p a ≡ true → p b ≡ true → p c ≡ true → p (f a b c) ≡ true) → (es : List Expr)
      → ((e : Expr) → In e es → p e ≡ true) → p (of_three_exprs f es) ≡ true
  three_hold f each [] all = none
  three_hold f each (a ∷ []) all = none
  three_hold f each (a ∷ b ∷ []) all = none
  three_hold f each (a ∷ b ∷ c ∷ []) all = each a b c (all a (inl refl)) (all b (inr (inl refl))) (all c (inr (inr (inl refl))))
  three_hold f each (a ∷ b ∷ c ∷ d ∷ es) all = none

-- ---- bodies

-- a test of expressions that passes to built ones from their operands
pub record IsCarried (p : Expr → Bool) : Type 0 where
  pub none : p no_expr ≡ true
  pub called : (n : Name) → p (name n) ≡ true
  pub each : (kind : Kind) (w : ℕ) (ws : List ℕ) (divisor : ℕ) (es : List Expr) → ((e : Expr) → In e es → p e ≡ true) → p (kind_expr kind w ws divisor es) ≡ true

module _ (p : Expr → Bool) (carried : IsCarried p) (named : Ref → Option Name) (ports : List Port) (os : List Op) where
  op_carried : (ex : Extending → Ref → Expr) (x : Extending) (o : Op) (w : ℕ) → ((r : Ref) → In r o.operands → (y : Extending) → p (ex y r) ≡ true)
      → p (op_expr named ports os ex x o w) ≡ true
  op_carried ex x o w all =
      carried.each o.kind w _ _ (operand_exprs x ex o.kind o.operands 0 o.operands)
      (λ e here. let found = from_placed ex o.kind x o.operands 0 o.operands e here in ap p found.2 ∙ all found.0 found.3 found.1)

  -- a zero extension is an operand's expression
  made_carried : (ex : Extending → Ref → Expr) (x : Extending) (o : Op) (w : ℕ) → ((r : Ref) → In r o.operands → (y : Extending) → p (ex y r) ≡ true)
      → p (alone_or x (extended_in ports os ex o.kind o.operands) (op_expr named ports os ex x o w)) ≡ true
  made_carried ex x o w all = go (extended_in ports os ex o.kind o.operands) refl where
    bare : (y : Extending) (e f : Expr) → p e ≡ true → p f ≡ true → p (alone_or y (Some e) f) ≡ true
    bare Off e f first second = second
    bare Own e f first second = second
    bare Given e f first second = first

    go : (m : Option Expr) → extended_in ports os ex o.kind o.operands ≡ m → p (alone_or x m (op_expr named ports os ex x o w)) ≡ true
    go None none = ap p (alone_none x (op_expr named ports os ex x o w)) ∙ op_carried ex x o w all
    go (Some e) some =
        let it = extended_is ports os ex o.kind o.operands e some in
        bare x e (op_expr named ports os ex x o w) (ap p it.is ∙ all it.operand (subst (In it.operand) (sym it.operands) (inr (inl refl))) Off) (op_carried ex x o w all)

  pub own_carried : (ex : Extending → Ref → Expr) → ((x : Extending) (r : Ref) → p (ex x r) ≡ true) → (x : Extending) (r : Ref) → p (own_expr named ports os ex x r) ≡ true
  own_carried ex all x (port j) = carried.none
  own_carried ex all x undefined = carried.none
  own_carried ex all x (result i k) = by_op (slice_get os i) where
    by_type : (o : Op) (u : Option HwType) → p (typed_expr named ports os ex x o u) ≡ true
    by_type o None = carried.none
    by_type o (Some t) = made_carried ex x o (width t) (λ r here y. all y r)

    by_op : (m : Option Op) → p (result_expr named ports os ex x k m) ≡ true
    by_op None = carried.none
    by_op (Some o) = by_type o (result_type o k)

  named_or : (m : Option Name) (e : Expr) → p e ≡ true → p (name_or m e) ≡ true
  named_or None e holds = holds
  named_or (Some n) e holds = carried.called n

  pub depth_carried : (n : ℕ) (x : Extending) (r : Ref) → p (expr_to named ports os n x r) ≡ true
  unfolding expr_to
  depth_carried zero x r = carried.none
  depth_carried (suc n) x r =
      named_or (named r) (own_expr named ports os (expr_to named ports os n) x r) (own_carried (expr_to named ports os n) (λ y q. depth_carried n y q) x r)

  module _ (ex : Extending → Ref → Expr) (writable : IsWritable named ports os) (acyclic : IsAcyclic (inner_needs os)) (are : AreExprs named ports os ex) where
    abbrev Holds : Ref → Type 0
    Holds r = (x : Extending) → p (ex x r) ≡ true

    unnamed_carried : (r : Ref) → named r ≡ None → ((q : Ref) → In q (inner_needs os r) → Holds q) → (x : Extending) → p (own_expr named ports os ex x r) ≡ true
    unnamed_carried (port j) unnamed all x = carried.none
    unnamed_carried undefined unnamed all x = carried.none
    unnamed_carried (result i k) unnamed all x = by_op (slice_get os i) refl where
      by_purity : (o : Op) (t : HwType) → slice_get os i ≡ Some o → result_type o k ≡ Some t → (b : Bool) → is_pure o ≡ b
          → p (alone_or x (extended_in ports os ex o.kind o.operands) (op_expr named ports os ex x o (width t))) ≡ true
      by_purity o t there is false impure = absurd (named_twice (named (result i k)) (writable.owned i k o t there is impure) unnamed)
      by_purity o t there is true pure =
          let first : k ≡ 0 = writable.one_result i k o t there (gives_values-pure o pure) is in
          let needs : inner_needs os (result i k) ≡ o.operands = ap (λ n. inner_needs os (result i n)) first ∙ pure_needs os i o there pure in
          made_carried ex x o (width t) (λ q here. all q (subst (In q) (sym needs) here))

      by_type : (o : Op) → slice_get os i ≡ Some o → (u : Option HwType) → result_type o k ≡ u → p (typed_expr named ports os ex x o u) ≡ true
      by_type o there None is = carried.none
      by_type o there (Some t) is = by_purity o t there is (is_pure o) refl

      by_op : (m : Option Op) → slice_get os i ≡ m → p (result_expr named ports os ex x k m) ≡ true
      by_op None there = carried.none
      by_op (Some o) there = by_type o there (result_type o k) refl

    body_held : (r : Ref) → Holds r
    body_held = by_needs (inner_needs os) Holds step (results (length os)) (IsWithin-results os) acyclic where
      by_name : (r : Ref) → ((q : Ref) → In q (inner_needs os r) → Holds q) → (m : Option Name) → named r ≡ m → (x : Extending)
          → p (name_or m (own_expr named ports os ex x r)) ≡ true
      by_name r all None unnamed x = unnamed_carried r unnamed all x
      by_name r all (Some n) is x = carried.called n

      step : (r : Ref) → ((q : Ref) → In q (inner_needs os r) → Holds q) → Holds r
      step r all x = ap p (are x r) ∙ by_name r all (named r) refl x

    pub body_carried : (x : Extending) (r : Ref) → p (ex x r) ≡ true
    body_carried x r = body_held r x
