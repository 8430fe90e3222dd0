-- A design that can be printed: two values are added.
use Rattle.std.proofs.Common.{true, false, [], ◌∷◌, codes, refl, arith}
use Rattle.hw_model.specs.Types.{Name, HwType}
use Rattle.hw_model.specs.Types.HwType.{int}
use Rattle.hw_model.specs.Kinds.Variadic.{add}
use Rattle.hw_model.specs.Kinds.Kind.{variadic, output}
use Rattle.hw_model.specs.Design.{Port, Module, no_location}
use Rattle.hw_model.specs.Design.Ref.{port, result}
use Rattle.type_inference.specs.ResultTypes.{result_types, result_type}
use Rattle.mlir_reader.specs.Spelling.{SpellsUnlocated}
use Rattle.printing_laws.specs.NameHints.{name_hints_of}
use Rattle.mlir_printer.specs.Texts.{ir_text}
use Rattle.op_checks.specs.CountChecks.{operands_written, type_count}
use Rattle.printing_laws.specs.Printable.{Printable}
use Rattle.mlir_printer.proofs.again.PrintedDesigns.{printable_designs_are_spelled}

byte : HwType
byte = int 8

input : Name → Port
input name = record { name = name; is_output = false; type = byte; again = false }

adder : Module
adder = record {
  symbol = codes "adder";
  is_private = false;
  ports = input (codes "a") ∷ input (codes "b") ∷ record { name = codes "sum"; is_output = true; type = byte; again = false } ∷ [];
  dictionary = [];
  body =
      record {
        kind = (variadic add);
        operands = port 0 ∷ port 1 ∷ [];
        types = byte ∷ [];
        results = record { type = byte; again = false } ∷ [];
        named = 1;
        name = [];
        dictionary = [];
        bin = false;
        location = no_location;
      }
      ∷ record {
        kind = output;
        operands = result 0 0 ∷ [];
        types = byte ∷ [];
        results = [];
        named = 0;
        name = [];
        dictionary = [];
        bin = false;
        location = no_location;
      }
      ∷ [];
  location = no_location;
}

adder_is_printable : Printable (adder ∷ [])
unfolding adder byte input operands_written type_count result_types result_type name_hints_of
adder_is_printable = (
  record {
    symbol = (omega arith, (omega arith, (omega arith, (omega arith, (omega arith, tt)))));
    ports = (
      record { first = refl; name = (omega arith, tt); type = omega arith },
      (
        record { first = refl; name = (omega arith, tt); type = omega arith },
        (record { first = refl; name = (omega arith, (omega arith, (omega arith, tt))); type = omega arith }, tt),
      ),
    );
    dictionary = record { in_order = tt; kept = tt; entries = tt };
    operations = (
      record {
        defined = ((_, refl, refl), ((_, refl, refl), tt));
        operands = refl;
        types = refl;
        readable = (omega arith, tt);
        results = refl;
        named = refl;
        few = λ e. absurd cc;
        kept = tt;
        written = tt;
        nameless = λ e. refl;
        name = tt;
        dictionary = record { in_order = tt; kept = tt; entries = tt };
        bin = λ e. absurd cc;
      },
      (
        record {
          defined = ((_, refl, omega arith), tt);
          operands = refl;
          types = refl;
          readable = (omega arith, tt);
          results = refl;
          named = refl;
          few = λ e. absurd cc;
          kept = tt;
          written = tt;
          nameless = λ e. refl;
          name = tt;
          dictionary = record { in_order = tt; kept = tt; entries = tt };
          bin = λ e. absurd cc;
        },
        tt,
      ),
    );
    ends = (refl, refl);
    few = omega arith;
  },
  tt,
)

adder_is_spelled : SpellsUnlocated (ir_text (adder ∷ [])) (adder ∷ [])
adder_is_spelled = printable_designs_are_spelled (adder ∷ []) adder_is_printable
