-- The operations that stand for a register in code once it is lowered.
use Rattle.std.specs.Prelude.{Bool, true, false, List, [], ◌∷◌}
use Rattle.hw_model.specs.Kinds.{Kind}
use Rattle.hw_model.specs.Kinds.Kind.{mux, register}
use Rattle.ir_store.specs.declared.operation.Value.{Value}
use Rattle.ir_store.specs.OperationViews.{OpParts}
use Rattle.seq_lower.specs.declared.new_ops.Choice.{Choice}
use Rattle.seq_lower.specs.Lowered.{plain_kind}

-- whether a kind is a register, but for one with an asynchronous reset
abbrev pub is_clocked_kind : Kind → Bool
is_clocked_kind (register f r) = true
is_clocked_kind _ = false

-- a mux of a register's type, at its location in the source, but for its operands
abbrev pub mux_parts : OpParts → OpParts
mux_parts p = record {
  kind = mux;
  types = p.types;
  results = p.results;
  named = 1;
  name = [];
  dictionary = [];
  bin = false;
  location = p.location;
}

-- a register without enable and reset, but for its operands
abbrev pub plain_parts : OpParts → OpParts
plain_parts p = record p { kind = plain_kind p.kind }

-- the operands of a mux
abbrev pub choice_values : Choice → List Value
choice_values c = c.condition ∷ c.high ∷ c.low ∷ []
