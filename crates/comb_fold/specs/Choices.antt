-- Values that stand for results by the first of several patterns (CIRCT, Comb and HW dialects: folds of their operations).
use Rattle.std.specs.Prelude.{None}
use Rattle.hw_model.specs.Kinds.ArrayOp.{array_get}
use Rattle.hw_model.specs.Kinds.StructOp.{struct_extract}
use Rattle.hw_model.specs.Kinds.Kind.{concat, replicate, bitcast, on_array, on_struct}
use Rattle.hw_model.specs.Value.{fields, nth_type}
use Rattle.fold_laws.specs.Parts.{field_of_made, element_of_made}
use Rattle.fold_laws.specs.Standing.{Stand, when, only_operand, writes_one_type}

-- the operand of concat, replicate, bitcast that are their operand
abbrev pub trivial : Stand
trivial os concat ts rs = only_operand rs
trivial os replicate ts rs = when (writes_one_type ts) (only_operand rs)
trivial os bitcast ts rs = when (writes_one_type ts) (only_operand rs)
trivial os _ ts rs = None

-- the operand that is a field or an element of what was made of fields or elements
abbrev pub made_part : Stand
made_part os (on_struct (struct_extract name)) ts rs = field_of_made os (fields (nth_type ts 0)) name rs
made_part os (on_array array_get) ts rs = element_of_made os rs
made_part os _ ts rs = None
