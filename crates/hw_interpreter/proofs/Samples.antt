-- Words that suit operations, and words that do not.
use Rattle.std.proofs.Common.{◌≡◌, ◌-◌, ◌^◌, ◌<◌, true, pos, [], ◌∷◌, Option, Some, None, MatchOption, inl, inr, refl, sym, subst, arith}
use Rattle.std.specs.Prelude.{codes, ⊤}
use Rattle.wiring.specs.Wiring.{In}
use Rattle.wiring.proofs.Members.{All-from_members}
use Rattle.hw_model.specs.Types.HwType.{int, array, struct}
use Rattle.hw_model.specs.Types.FieldTypes.{no_fields}
use Rattle.hw_model.specs.Kinds.Literal.{leaf, parts}
use Rattle.hw_model.specs.Kinds.Literals.{no_literals, literal}
use Rattle.hw_model.specs.Kinds.ArrayOp.{array_get, array_slice, array_inject}
use Rattle.hw_model.specs.Kinds.StructOp.{struct_extract}
use Rattle.hw_model.specs.Kinds.Kind.{mux, constant, aggregate_constant, on_array, on_struct, wire, output}
use Rattle.hw_model.specs.Design.{Ref, Module, Design}
use Rattle.hw_model.specs.Design.Ref.{port, result, undefined}
use Rattle.hw_model.specs.Flat.{Net, Path, net, module_at, source}
use Rattle.hw_model.specs.Flat.Source.{nowhere, input, copy}
use Rattle.hw_model.proofs.Samples.{operation, module_of, out_port}
use Rattle.operation_values.specs.Suits.{IsCounted, Suits}
use Rattle.hw_interpreter.specs.SuitsWithin.{SuitsSource, SuitsFrom, SuitsWithin, AlwaysSuits, IsCountedDesign, register_refs, signal_refs, reset_refs, TakesStep, TakesRun}

-- a constant of 128 bits has no operand; one of 129 bits is no integer here
suits_constant : Suits (constant (pos 5)) [] (int 128) []
suits_constant = ((omega arith, omega arith), All-from_members _ [] (λ x none. absurd none), refl)

suits_no_wide_constant : ¬ Suits (constant (pos 5)) [] (int 129) []
suits_no_wide_constant suit = absurd (omega (arith, suit.0.1))

-- a choice and a wire have three operands and one, of any number of bits
suits_choice : Suits mux [] (int 1) ([] ∷ [] ∷ [] ∷ [])
suits_choice = refl

suits_no_choice_of_one : ¬ Suits mux [] (int 1) ([] ∷ [] ∷ [])
suits_no_choice_of_one suit = absurd (omega (arith, suit))

suits_wire : Suits wire [] (int 1) ([] ∷ [])
suits_wire = refl

-- the parts of a constant are integers
suits_parts : Suits (aggregate_constant (literal (leaf (pos 1) (int 8)) (literal (parts no_literals) no_literals))) [] (int 8) []
suits_parts = ((omega arith, omega arith), (tt, tt))

suits_no_empty_part : ¬ Suits (aggregate_constant (literal (leaf (pos 1) (int 0)) no_literals)) [] (int 8) []
suits_no_empty_part suit = absurd (omega (arith, suit.0.0))

-- an element of an array is taken by an index of one bit, and by none without bits
suits_element : Suits (on_array array_get) (array 2 (int 8) ∷ []) (int 8) ([] ∷ (true ∷ []) ∷ [])
suits_element = (omega arith, (omega arith, omega arith))

suits_no_element : ¬ Suits (on_array array_get) (array 2 (int 8) ∷ []) (int 8) ([] ∷ [] ∷ [])
suits_no_element suit = absurd (omega (arith, suit.1.0))

suits_no_array : ¬ Suits (on_array array_get) (int 8 ∷ []) (int 8) ([] ∷ (true ∷ []) ∷ [])
suits_no_array suit = suit.0

-- a slice of an array type
suits_slice : Suits (on_array array_slice) (array 4 (int 8) ∷ []) (array 2 (int 8)) ([] ∷ (true ∷ []) ∷ [])
suits_slice = (omega arith, ((omega arith, omega arith), omega arith))

suits_put : Suits (on_array array_inject) (array 4 (int 8) ∷ []) (array 4 (int 8)) ([] ∷ (true ∷ []) ∷ [] ∷ [])
suits_put = (omega arith, (omega arith, omega arith))

-- a field of a struct is taken of one word, and of no other type
suits_field : Suits (on_struct (struct_extract [])) (struct no_fields ∷ []) (int 8) ([] ∷ [])
suits_field = (tt, refl)

suits_no_struct : ¬ Suits (on_struct (struct_extract [])) [] (int 8) ([] ∷ [])
suits_no_struct suit = suit.0

-- the largest number that is counted
counted_most : IsCounted (2 ^ 64 - 2)
counted_most = omega arith

-- ---- nets of a module of a constant and a wire of it

abbrev wired : Design
wired =
    module_of (codes "M") (out_port (codes "y") (int 8) ∷ [])
    (operation (constant (pos 9)) [] (int 8 ∷ []) (int 8 ∷ [])
    ∷ operation wire (result 0 0 ∷ []) (int 8 ∷ []) (int 8 ∷ [])
    ∷ operation output (result 1 0 ∷ []) (int 8 ∷ []) [] ∷ []) ∷ []

constant_within : SuitsWithin wired (codes "M") [] [] 1 (net [] (result 0 0))
constant_within = (((omega arith, omega arith), All-from_members _ [] (λ x none. absurd none), refl), λ n none. absurd none)

wire_within : SuitsWithin wired (codes "M") [] [] 2 (net [] (result 1 0))
wire_within = (refl, needed)
  where
    needed : (n : Net) → In n (net [] (result 0 0) ∷ []) → SuitsWithin wired (codes "M") [] [] 1 n
    needed n (inl same) = subst (SuitsWithin wired (codes "M") [] [] 1) (sym same) constant_within
    needed n (inr none) = absurd none

-- bits past the largest number that is counted, and a path by an instance past 32 bits
suits_no_end : ¬ SuitsSource (λ n. []) (input (2 ^ 64 - 8) 8)
suits_no_end suit = absurd (omega (arith, suit))

suits_no_path : ¬ SuitsSource (λ n. []) (copy (net (2 ^ 32 ∷ []) undefined))
suits_no_path suit = let first : 2 ^ 32 < 2 ^ 32 = suit 0 0 (omega arith) in absurd (omega (arith, first))

-- ---- a design without modules: its nets come from nowhere

found_none : (m : Module) → None ≡ Some m → ⊥
found_none m same = subst (λ (o : Option Module). MatchOption o ⊤ (λ x. ⊥)) same tt

no_module : (p : Path) → module_at [] (codes "M") p ≡ None
no_module [] = refl
no_module (u ∷ p) = rw (no_module p) refl

no_source : (p : Path) (r : Ref) → source [] (codes "M") (net p r) ≡ nowhere
no_source [] (port j) = refl
no_source (u ∷ p) (port j) = rw (no_module p) refl
no_source p (result i k) = rw (no_module p) refl
no_source p undefined = refl

counted_none : IsCountedDesign [] (codes "M")
counted_none = record { instances = λ symbol m same. absurd (found_none m same); content = omega arith }

always_none : AlwaysSuits [] (codes "M")
always_none inputs content ρ settled n = subst (SuitsSource ρ) (sym (no_source n.path n.ref)) tt

within_none : (n : Net) → SuitsWithin [] (codes "M") [] [] 1 n
within_none n = subst (SuitsFrom (λ a. []) (λ a. ⊤)) (sym (no_source n.path n.ref)) (tt, λ a none. absurd none)

step_none : TakesStep [] (codes "M") [] [] [] 1
step_none = record {
  numbers = counted_none;
  earlier_nets = λ s here r read. within_none (net s.path r);
  reset_nets = λ s here r read. within_none (net s.path r);
  output_nets = λ r here. within_none (net [] r);
  register_nets = λ s here r read. within_none (net s.path r);
}

run_none : TakesRun [] (codes "M") 1 [] ([] ∷ [])
run_none = (step_none, tt)

-- ---- what a register reads

read_by_register : register_refs (Some (record { next = port 0; clock = port 1; enable = Some (port 2); reset = Some (record { signal = port 3; value = port 4 }) }))
    ≡ port 1 ∷ port 0 ∷ port 2 ∷ port 3 ∷ port 4 ∷ []
read_by_register = refl

read_by_none : register_refs None ≡ []
read_by_none = refl

-- and what its asynchronous reset does
read_by_reset : reset_refs (Some (record { signal = port 3; value = port 4 })) ≡ port 3 ∷ port 4 ∷ []
read_by_reset = refl

read_before : signal_refs (Some (record { signal = port 3; value = port 4 })) ≡ port 3 ∷ []
read_before = refl
