-- The connections of an instance, by the names of its module's ports.
use Rattle.std.specs.Prelude.{ℕ, ◌+◌, cond, List, [], ◌∷◌}
use Rattle.hw_model.specs.Types.{Name}
use Rattle.hw_model.specs.Design.{Ref, Port}
use Rattle.verilog_model.specs.Tree.{Expr, Connection}
use Rattle.verilog_model.specs.Tree.Expr.{name}
use Rattle.export_verilog.specs.Exported.{expr_or_none, others}

-- the connections of ports with names: each input to the operand of its turn, each output to the result of its turn, whose
-- name is given, from the k-th on (IEEE 1364-2005, 12.3.6: connecting module instance ports by name)
abbrev pub connections_from : (Ref → Expr) → (ℕ → Name) → ℕ → List Name → List Port → List Ref → List Connection
connections_from ex given k (n ∷ ns) (p ∷ ps) rs =
    cond p.is_output
    (record { port = n; value = name (given k) } ∷ connections_from ex given (k + 1) ns ps rs)
    (record { port = n; value = expr_or_none ex rs } ∷ connections_from ex given k ns ps (others rs))
connections_from ex given k _ _ rs = []
