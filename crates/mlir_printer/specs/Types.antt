-- How types are printed (MLIR, builtin dialect: IntegerType; CIRCT: HW and Seq dialect types).
use Rattle.std.specs.Prelude.{ℕ, ◌+◌, List, [], ◌++◌, codes}
use Rattle.hw_model.specs.Types.{HwType, FieldTypes}
use Rattle.hw_model.specs.Types.HwType.{int, clock, array, struct}
use Rattle.hw_model.specs.Types.FieldTypes.{no_fields, field}
use Rattle.mlir_printer.specs.Strings.{name_bytes}
use Rattle.mlir_printer.specs.Commas.{comma_bytes}
use Rattle.printing_laws.specs.Numbers.{count_bytes}

abbrev mutual
  -- a type
  pub type_bytes : HwType → List ℕ
  type_bytes (int w) = codes "i" ++ count_bytes w
  type_bytes clock = codes "!seq.clock"
  type_bytes (array n t) = codes "!hw.array<" ++ (count_bytes n ++ (codes "x" ++ (type_bytes t ++ codes ">")))
  type_bytes (struct fs) = codes "!hw.struct<" ++ (fields_from 0 fs ++ codes ">")

  -- fields with commas between them, of which the first has this number
  pub fields_from : ℕ → FieldTypes → List ℕ
  fields_from i no_fields = []
  fields_from i (field name t fs) = comma_bytes i ++ ((name_bytes name ++ (codes ": " ++ type_bytes t)) ++ fields_from (i + 1) fs)
