-- A module that can be spelled: two values are added.
use Rattle.std.proofs.Common.{false, [], ◌∷◌, Some, None, refl, arith}
use Rattle.std.specs.Prelude.{codes}
use Rattle.opcode.specs.declared.listed.Listed.TheVariants as listed
use Rattle.hw_model.specs.Types.{Name, HwType}
use Rattle.hw_model.specs.Types.HwType.{int}
use Rattle.mlir_operations.specs.OperandText.ResultNames.{no_names, names}
use Rattle.assembly_format.specs.Formats.{format_of}
use Rattle.mlir_operations.specs.ElementText.InherentAttributes.{nothing}
use Rattle.mlir_printer.specs.Elements.{ValueText}
use Rattle.mlir_printer.specs.Operations.{OperationText, format_shown}
use Rattle.mlir_printer.specs.Modules.{ModuleText, file_bytes}
use Rattle.mlir_printer.specs.Spellable.{IsValueName, IsOperand}
use Rattle.mlir_printer.specs.SpellableModules.{IsSpellable, AreSpelled}
use Rattle.mlir_printer.proofs.lexed.LexedModules.{spellable_texts_are_spelled}
use Rattle.mlir_printer.proofs.again.ViewForms.{pending, says_variadic, says_joined}

byte : HwType
byte = int 8

-- a value of this name
called : Name → ValueText
called name = record { name = name; number = None }

operand : (name : Name) → IsValueName name → IsOperand (called name)
unfolding called
operand name h = record { name = h; number = tt }

addition : OperationText
addition = record {
  results = names (codes "0") [];
  name = listed.CombAdd;
  bin = false;
  pending = pending (called (codes "a") ∷ called (codes "b") ∷ []) (byte ∷ []) nothing;
  dictionary = [];
}

output : OperationText
output = record { results = no_names; name = listed.HwOutput; bin = false; pending = pending (called (codes "0") ∷ []) (byte ∷ []) nothing; dictionary = [] }

adder : ModuleText
adder = record {
  symbol = codes "adder";
  is_private = false;
  ports =
      record { value = Some (codes "a"); name = codes "a"; type = byte } ∷ record { value = Some (codes "b"); name = codes "b"; type = byte }
      ∷ record { value = None; name = codes "sum"; type = byte } ∷ [];
  dictionary = [];
  operations = addition ∷ output ∷ [];
}

name_a : IsValueName (codes "a")
name_a = record { some = omega arith; whole = refl }

name_b : IsValueName (codes "b")
name_b = record { some = omega arith; whole = refl }

name_0 : IsValueName (codes "0")
name_0 = record { some = omega arith; whole = refl }

adder_is_spellable : IsSpellable adder
unfolding adder addition output byte called format_shown format_of
adder_is_spellable = record {
  symbol = (omega arith, (omega arith, (omega arith, (omega arith, (omega arith, tt)))));
  ports = (
    record { value = name_a; name = (omega arith, tt); type = omega arith },
    (
      record { value = name_b; name = (omega arith, tt); type = omega arith },
      (record { value = tt; name = (omega arith, (omega arith, (omega arith, tt))); type = omega arith }, tt),
    ),
  );
  dictionary = record { once = tt; each = tt };
  operations = (
    record {
      stands = tt;
      results = (name_0, tt);
      bin = λ e. absurd cc;
      form = says_variadic _ byte (omega arith) (operand _ name_a, (operand _ name_b, tt)) (omega arith);
      dictionary = record { once = tt; each = tt };
    },
    (λ e. absurd cc),
    (
      record {
        stands = tt;
        results = tt;
        bin = λ e. absurd cc;
        form = says_joined _ (byte ∷ []) (omega arith) (operand _ name_0, tt) refl (omega arith, tt);
        dictionary = record { once = tt; each = tt };
      },
      (λ e. refl),
      tt,
    ),
  );
}

adder_is_spelled : AreSpelled (file_bytes (adder ∷ [])) (adder ∷ [])
adder_is_spelled = spellable_texts_are_spelled (adder ∷ []) (adder_is_spellable, tt)
