-- How a pass over all operands tells which values are used twice, cut or joined.
use Rattle.std.specs.Prelude.{◌≡◌, ℕ, zero, suc, ◌+◌, ◌<◌, min, Bool, false, cond, ◌&&◌, ◌||◌, nat_lt, List, Option, Some, None, length, slice_index_or}
use Rattle.hw_model.specs.Design.{Ref, Port, Op, result_type}
use Rattle.hw_model.specs.Design.Ref.{port, result, undefined}
use Rattle.hw_model.specs.Flat.{width_of}
use Rattle.ir_store.specs.Positions.{same_ref}
use Rattle.verilog_expr.specs.Expressions.{value_width}
use Rattle.verilog_expr.specs.Spilling.{positions_in, use_count, is_narrower, cuts, joins, some_op}
use Rattle.verilog_expr.specs.declared.marks.Mark.{Mark}

-- the position of the operation whose first result a value is, among so many
abbrev pub first_position : ℕ → Ref → Option ℕ
first_position n (result i zero) = cond (nat_lt i n) (Some i) None
first_position n (result i (suc k)) = None
first_position n (port j) = None
first_position n undefined = None

-- no value has more bits than integers may have
abbrev pub AreSmall : List Port → List Op → Type 0
AreSmall ports os = (r : Ref) → value_width ports os r < 129

-- the mark of a value that is not used
abbrev pub no_mark : Mark
no_mark = record { uses = 0; cut = false; joined = false }

abbrev pub mark_at : List Mark → ℕ → Mark
mark_at ms i = slice_index_or ms i no_mark

-- the mark after one more use
abbrev pub note_use : Bool → Bool → Mark → Mark
note_use cut joined m = record { uses = min 2 (m.uses + 1); cut = m.cut || cut; joined = m.joined || joined }

-- the mark of a value after a use of some value
abbrev pub one_use : Ref → Bool → Bool → Ref → Mark → Mark
one_use r cut joined x m = cond (same_ref x r) (note_use cut joined m) m

-- the mark after the operands of an operation, which cuts the value or not, and is an instance or not
abbrev pub after_operands : Ref → Bool → Bool → List Ref → Mark → Mark
after_operands r cut joined xs m = record {
  uses = min 2 (m.uses + positions_in r xs);
  cut = m.cut || (cut && nat_lt 0 (positions_in r xs));
  joined = m.joined || (joined && nat_lt 0 (positions_in r xs));
}

-- whether an operation takes fewer bits than a value has
abbrev pub is_cut_by : List Port → List Op → Op → Ref → Bool
is_cut_by ports os o r = is_narrower o.kind (width_of (result_type o 0)) (value_width ports os r)

-- the mark after operations of a body
abbrev pub after_ops : List Port → List Op → Ref → List Op → Mark → Mark
after_ops ports all r os m = record {
  uses = min 2 (m.uses + use_count os r);
  cut = m.cut || some_op (cuts ports all r) os;
  joined = m.joined || some_op (joins r) os;
}

-- the marks of the operations' first results
abbrev pub AreMarks : List Port → List Op → List Mark → Type 0
AreMarks ports os ms = (i : ℕ) → i < length os → mark_at ms i ≡ after_ops ports os (result i 0) os no_mark
