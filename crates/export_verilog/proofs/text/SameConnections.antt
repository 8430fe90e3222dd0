-- The connections of an instance, by names that code holds, are those of its module.
use Rattle.std.proofs.Common.{◌≡◌, ℕ, suc, ◌+◌, Bool, true, false, cond, List, [], ◌∷◌, length, slice_get, Option, Some, None, refl, sym, ◌∙◌, ap, ap₂, arith, add-one, add-zero, add-suc, suc-add, zero-add}
use Rattle.hw_model.specs.Types.{Name}
use Rattle.hw_model.specs.Kinds.{Instance}
use Rattle.hw_model.specs.Design.{Ref, Port, Op, Module, Design, find_module}
use Rattle.hw_model.specs.Sound.{ports_of}
use Rattle.verilog_model.specs.Tree.{Expr, Connection}
use Rattle.verilog_model.specs.Tree.Expr.{name}
use Rattle.verilog_model.specs.Tree.Item.{instance}
use Rattle.lowering_options.specs.declared.lowering.Lowering.{Lowering}
use Rattle.export_verilog.specs.Lowerings.{own_place}
use Rattle.export_verilog.specs.Identifiers.{identifier_name, identifier_text, name_or_nothing}
use Rattle.export_verilog.specs.Identifiers.Identifier.{port_identifier, value_identifier, instance_identifier}
use Rattle.export_verilog.specs.Exported.{expression, expr_or_none, others, symbol_name, connections_of, connections_to, instance_of}
use Rattle.export_verilog.specs.Held.{ArePortNames}
use Rattle.export_verilog.specs.Joined.{connections_from}

module _ (via : Lowering) (m : Module) (i : ℕ) (ex : Ref → Expr) (given : ℕ → Name) (same : (r : Ref) → ex r ≡ expression m (own_place via) r) (results : (k : ℕ) → given k ≡ identifier_text m (value_identifier i k)) where
  operand_same : (rs : List Ref) → expr_or_none ex rs ≡ expr_or_none (expression m (own_place via)) rs
  operand_same [] = refl
  operand_same (r ∷ rs) = same r

  joined_from : (c : Module) (j k : ℕ) (ps : List Port) (ns : List Name) (rs : List Ref) → length ns ≡ length ps
      → ((n : ℕ) (p : Port) → slice_get ps n ≡ Some p → identifier_name c (port_identifier (j + n)) ≡ slice_get ns n)
      → connections_from ex given k ns ps rs ≡ connections_of via c m i j k ps rs
  joined_from c j k [] [] rs count at = refl
  joined_from c j k [] (n ∷ ns) rs count at = absurd (omega (arith, count))
  joined_from c j k (p ∷ ps) [] rs count at = absurd (omega (arith, count))
  joined_from c j k (p ∷ ps) (n ∷ ns) rs count at =
      go p.is_output (joined_from c (suc j) (suc k) ps ns rs fewer later) (joined_from c (suc j) k ps ns (others rs) fewer later) where
        fewer : length ns ≡ length ps
        fewer = omega (arith, count)

        later : (l : ℕ) (q : Port) → slice_get ps l ≡ Some q → identifier_name c (port_identifier (suc j + l)) ≡ slice_get ns l
        later l q there = ap (λ z. identifier_name c (port_identifier z)) (suc-add j l ∙ sym (add-suc j l)) ∙ at (suc l) q there

        first : n ≡ identifier_text c (port_identifier j)
        first = sym (ap name_or_nothing (ap (λ z. identifier_name c (port_identifier z)) (sym (add-zero j)) ∙ at 0 p refl))

        go : (b : Bool) → connections_from ex given (suc k) ns ps rs ≡ connections_of via c m i (suc j) (suc k) ps rs
            → connections_from ex given k ns ps (others rs) ≡ connections_of via c m i (suc j) k ps (others rs)
            → cond b (record { port = n; value = name (given k) } ∷ connections_from ex given (k + 1) ns ps rs) (record { port = n; value = expr_or_none ex rs } ∷ connections_from ex given k ns ps (others rs))
            ≡ cond b (record { port = identifier_text c (port_identifier j); value = name (identifier_text m (value_identifier i k)) } ∷ connections_of via c m i (suc j) (suc k) ps rs)
            (record { port = identifier_text c (port_identifier j); value = expr_or_none (expression m (own_place via)) rs } ∷ connections_of via c m i (suc j) k ps (others rs))
        go true out inward =
            ap (λ z. record { port = z; value = name (given k) } ∷ connections_from ex given (k + 1) ns ps rs) first
            ∙ ap (λ z. record { port = identifier_text c (port_identifier j); value = name z } ∷ connections_from ex given (k + 1) ns ps rs) (results k)
            ∙ ap (λ l. record { port = identifier_text c (port_identifier j); value = name (identifier_text m (value_identifier i k)) } ∷ l) (ap (λ z. connections_from ex given z ns ps rs) (add-one k) ∙ out)
        go false out inward =
            ap (λ z. record { port = z; value = expr_or_none ex rs } ∷ connections_from ex given k ns ps (others rs)) first
            ∙ ap (λ e. record { port = identifier_text c (port_identifier j); value = e } ∷ connections_from ex given k ns ps (others rs)) (operand_same rs)
            ∙ ap (λ l. record { port = identifier_text c (port_identifier j); value = expr_or_none (expression m (own_place via)) rs } ∷ l) inward

  joined_found : (found : Option Module) (o : Op) (ns : List Name) → length ns ≡ length (ports_of found) → ArePortNames (ports_of found) ns
      → connections_from ex given 0 ns (ports_of found) o.operands ≡ connections_to via found m i o
  joined_found None o [] count are = refl
  joined_found None o (n ∷ ns) count are = absurd (omega (arith, count))
  joined_found (Some c) o ns count are =
      joined_from c 0 0 c.ports ns o.operands count (λ n p there. ap (λ z. identifier_name c (port_identifier z)) (zero-add n) ∙ are c refl n p there)

  -- the connections of an instance of a module that is found, or of none
  pub joined_same : (found : Option Module) (o : Op) (ns : List Name) (ps : List Port) → ps ≡ ports_of found → length ns ≡ length ps → ArePortNames (ports_of found) ns
      → connections_from ex given 0 ns ps o.operands ≡ connections_to via found m i o
  joined_same found o ns ps same count are = ap (λ l. connections_from ex given 0 ns l o.operands) same ∙ joined_found found o ns (count ∙ ap length same) are

-- the instance, by the parts that code has of it
pub instance_same : (via : Lowering) (d : Design) (m : Module) (i : ℕ) (o : Op) (x : Instance) (symbol callee own : Name) (cs : List Connection) → symbol ≡ x.symbol → callee ≡ symbol_name d symbol
    → own ≡ identifier_text m (instance_identifier i) → cs ≡ connections_to via (find_module d symbol) m i o → instance callee own cs ∷ [] ≡ instance_of via d m i o (Some x)
instance_same via d m i o x symbol callee own cs is a b e =
    ap (λ n. instance n own cs ∷ []) a ∙ ap₂ (λ n l. instance (symbol_name d symbol) n l ∷ []) b e
    ∙ ap (λ q. instance (symbol_name d q) (identifier_text m (instance_identifier i)) (connections_to via (find_module d q) m i o) ∷ []) is
