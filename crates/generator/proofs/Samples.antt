-- Draws and designs for some seeds.
use Rattle.std.proofs.Common.{◌≡◌, pos, Bool, true, false, List, [], ◌∷◌, ◌++◌, map, None, decimal, refl}
use Rattle.std.specs.Prelude.{codes}
use Rattle.hw_model.specs.Types.{Name, HwType}
use Rattle.hw_model.specs.Types.HwType.{int, clock}
use Rattle.hw_model.specs.Kinds.{Kind}
use Rattle.hw_model.specs.Kinds.Variadic.{add, mul, or, xor}
use Rattle.hw_model.specs.Kinds.Shift.{shl}
use Rattle.hw_model.specs.Kinds.RegisterOp.{compreg}
use Rattle.hw_model.specs.Kinds.Reset.{sync_reset}
use Rattle.hw_model.specs.Kinds.Kind.{variadic, sub, shift, constant, instance, output, register}
use Rattle.hw_model.specs.Design.{Ref, Port, Op, Module}
use Rattle.hw_model.specs.Design.Ref.{port, result}
use Rattle.generator.specs.Draws.{number_drawn}
use Rattle.generator.specs.Generated.{generated}

-- the first numbers, which were computed apart
draws_of_seven : map (number_drawn 7) (1 ∷ 2 ∷ 3 ∷ 4 ∷ 5 ∷ 6 ∷ 7 ∷ 8 ∷ []) ≡ 15648 ∷ 59866 ∷ 40140 ∷ 60750 ∷ 3233 ∷ 56084 ∷ 23657 ∷ 3480 ∷ []
draws_of_seven = refl

draws_of_greatest : map (number_drawn 4294967295) (1 ∷ 2 ∷ 3 ∷ 4 ∷ 5 ∷ []) ≡ 15445 ∷ 12311 ∷ 8835 ∷ 41343 ∷ 47029 ∷ []
draws_of_greatest = refl

-- an operation with a result of 16 bits, and a name of its own
abbrev made : Kind → List Ref → List HwType → Name → Op
made kind operands types name = record {
  kind = kind;
  operands = operands;
  types = types;
  results = record { type = int 16; again = false } ∷ [];
  named = 1;
  name = name;
  dictionary = [];
  bin = false;
  location = record { line = 1; col = 1 };
}

abbrev plain : Kind → List Ref → Op
plain kind operands = made kind operands (int 16 ∷ []) []

abbrev gives : Ref → Op
gives r = record (plain output (r ∷ [])) { results = []; named = 0 }

abbrev given : Name → Bool → HwType → Port
given name is_output type = record { name = name; is_output = is_output; type = type; again = false }

abbrev header : Name → Bool → List Op → Module
header symbol is_private body = record {
  symbol = symbol;
  is_private = is_private;
  ports = given (codes "clk") false clock
      ∷ given (codes "rst") false (int 1)
      ∷ given (codes "a") false (int 16)
      ∷ given (codes "b") false (int 16)
      ∷ given (codes "c") true (int 16)
      ∷ [];
  dictionary = [];
  body = body;
  location = record { line = 1; col = 1 };
}

-- one module alone is public, and has no instance
one_module : generated 7 1
    ≡ header (codes "M" ++ decimal 0) false
    (plain (constant (pos 15648)) []
    ∷ plain (variadic mul) (port 2 ∷ port 3 ∷ [])
    ∷ plain (variadic or) (result 1 0 ∷ result 0 0 ∷ [])
    ∷ plain (shift shl) (result 2 0 ∷ result 1 0 ∷ [])
    ∷ made (register compreg sync_reset) (result 3 0 ∷ port 0 ∷ port 1 ∷ result 0 0 ∷ []) (int 16 ∷ []) (codes "q")
    ∷ plain (variadic xor) (result 4 0 ∷ result 2 0 ∷ [])
    ∷ gives (result 5 0)
    ∷ [])
    ∷ []
one_module = refl

-- of two modules the first is private, and the second has an instance of it
two_modules : generated 7 2
    ≡ header (codes "M" ++ decimal 0) true
    (plain (constant (pos 15648)) []
    ∷ plain (variadic mul) (port 2 ∷ port 3 ∷ [])
    ∷ plain (variadic or) (result 1 0 ∷ result 0 0 ∷ [])
    ∷ plain (shift shl) (result 2 0 ∷ result 1 0 ∷ [])
    ∷ made (register compreg sync_reset) (result 3 0 ∷ port 0 ∷ port 1 ∷ result 0 0 ∷ []) (int 16 ∷ []) (codes "q")
    ∷ plain (variadic xor) (result 4 0 ∷ result 2 0 ∷ [])
    ∷ gives (result 5 0)
    ∷ [])
    ∷ header (codes "M" ++ decimal 1) false
    (plain (constant (pos 3233)) []
    ∷ plain (variadic or) (port 2 ∷ port 3 ∷ [])
    ∷ plain sub (result 1 0 ∷ result 0 0 ∷ [])
    ∷ plain (variadic add) (result 2 0 ∷ result 1 0 ∷ [])
    ∷ made (register compreg sync_reset) (result 3 0 ∷ port 0 ∷ port 1 ∷ result 0 0 ∷ []) (int 16 ∷ []) (codes "q")
    ∷ made
    (instance (record {
      name = codes "u";
      inner_symbol = None;
      symbol = codes "M" ++ decimal 0;
      inputs = codes "clk" ∷ codes "rst" ∷ codes "a" ∷ codes "b" ∷ [];
      outputs = codes "c" ∷ [];
    }))
    (port 0 ∷ port 1 ∷ result 4 0 ∷ result 3 0 ∷ []) (clock ∷ int 1 ∷ int 16 ∷ int 16 ∷ int 16 ∷ []) []
    ∷ plain (variadic xor) (result 5 0 ∷ result 2 0 ∷ [])
    ∷ gives (result 6 0)
    ∷ [])
    ∷ []
two_modules = refl
