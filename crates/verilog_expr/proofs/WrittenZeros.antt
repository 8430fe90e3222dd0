-- A zero extension without a name is written as its operand where the context gives the full width, and in braces elsewhere.
use Rattle.std.proofs.Common.{◌≡◌, true, false, cond, ◌&&◌, List, [], ◌∷◌, map, Option, Some, None, is_some, refl, ap, ap₂, ◌∙◌}
use Rattle.std.proofs.lemmas.Bool.{true≢false, false≢true}
use Rattle.hw_model.specs.Types.{Name, HwType, width}
use Rattle.hw_model.specs.Kinds.Kind.{concat}
use Rattle.hw_model.specs.Design.{Ref, Port, Op, result_type}
use Rattle.verilog_model.specs.Tree.{Expr, Exprs}
use Rattle.verilog_model.specs.Tree.Expr.{joined}
use Rattle.verilog_expr.specs.Building.{exprs_of, kind_expr}
use Rattle.verilog_expr.specs.Extensions.{is_given, place_of, alone_or}
use Rattle.verilog_expr.specs.declared.extending.Extending.{Extending}
use Rattle.verilog_expr.specs.declared.extending.Extending.TheVariants.{Off, Own, Given}
use Rattle.verilog_expr.specs.Expressions.{value_width, divisor_in, name_or, lends, operand_exprs, extended_in, op_expr, typed_expr, result_expr, own_expr, AreExprs, IsZeroExtension}

module _ (named : Ref → Option Name) (ports : List Port) (os : List Op) (ex : Extending → Ref → Expr) (are : AreExprs named ports os ex) (r b : Ref) (unnamed : named r ≡ None)
    (it : IsZeroExtension ports os ex r b) where
  result_typed : (t : HwType) × (result_type it.op 0 ≡ Some t)
  result_typed = go (result_type it.op 0) refl it.typed where
    go : (u : Option HwType) → result_type it.op 0 ≡ u → is_some u ≡ true → (t : HwType) × (result_type it.op 0 ≡ Some t)
    go None is some = absurd (false≢true some)
    go (Some t) is some = (t, is)

  -- its operand is what is written in its place
  extends : extended_in ports os ex it.op.kind it.op.operands ≡ Some (ex Off b)
  extends =
      ap₂ (λ kind rs. extended_in ports os ex kind rs) it.joined it.operands
      ∙ ap₂ (λ z s. cond (z && s) (Some (ex Off b)) None) it.zeros it.simple

  made : (x : Extending) → ex x r ≡ alone_or x (Some (ex Off b)) (op_expr named ports os ex x it.op (width result_typed.0))
  made x =
      are x r ∙ ap (λ m. name_or m (own_expr named ports os ex x r)) unnamed
      ∙ ap (own_expr named ports os ex x) it.is ∙ ap (result_expr named ports os ex x 0) it.there ∙ ap (typed_expr named ports os ex x it.op) result_typed.1
      ∙ ap (λ m. alone_or x m (op_expr named ports os ex x it.op (width result_typed.0))) extends

  pub bare_written : ex Given r ≡ ex Off b
  bare_written = made Given

  parts : Extending → Exprs
  parts x = exprs_of (ex (place_of x concat 0 (lends ex (it.zero ∷ b ∷ []) 0)) it.zero) (ex (place_of x concat 1 (lends ex (it.zero ∷ b ∷ []) 1)) b ∷ [])

  whole : (x : Extending) → op_expr named ports os ex x it.op (width result_typed.0) ≡ joined (parts x)
  unfolding parts
  whole x =
      ap₂ (λ kind rs. kind_expr kind (width result_typed.0) (map (value_width ports os) rs) (divisor_in os (width result_typed.0) rs) (operand_exprs x ex kind rs 0 rs)) it.joined it.operands

  pub braces_written : (x : Extending) → is_given x ≡ false → (es : Exprs) × (ex x r ≡ joined es)
  braces_written Off own = (parts Off, made Off ∙ whole Off)
  braces_written Own own = (parts Own, made Own ∙ whole Own)
  braces_written Given own = absurd (true≢false own)
