-- An imported design is in canonical form.
use Rattle.std.proofs.Common.{◌≡◌, ℕ, suc, ◌+◌, ◌*◌, ◌%◌, ◌<◌, ◌≤◌, ◌^◌, Bool, true, false, cond, List, [], ◌∷◌, ◌++◌, map, length, refl, sym, ap, ◌∙◌, inl, inr, arith, decimal, length-append}
use Rattle.std.proofs.lemmas.Fmt.{decimal_by_steps}
use Rattle.wiring.specs.Wiring.{In}
use Rattle.opcode.specs.declared.listed.Listed.{Listed}
use Rattle.hw_model.specs.Types.{Name}
use Rattle.hw_model.specs.Kinds.{Variadic}
use Rattle.hw_model.specs.Kinds.Variadic.{and, xor}
use Rattle.hw_model.specs.Kinds.Kind.{variadic}
use Rattle.hw_model.specs.Design.{Ref}
use Rattle.hw_model.specs.Design.Ref.{result}
use Rattle.type_inference.specs.ResultTypes.{result_type, result_types}
use Rattle.stored_form.specs.Bytes.{Each, AreBytes}
use Rattle.stored_form.specs.Canonical.{IsCanonicalOp, IsCanonicalPort, IsCanonicalModule, IsCanonical}
use Rattle.stored_form.specs.Dictionaries.{IsKeptDictionary}
use Rattle.stored_form.specs.Limits.{IsAnyType}
use Rattle.aiger_laws.specs.declared.tree.Latch.{Latch}
use Rattle.aiger_laws.specs.Trees.{Aiger}
use Rattle.aiger_laws.specs.Grammar.{IsAiger}
use Rattle.aiger_laws.proofs.Lengths.{least_bytes}
use Rattle.aiger_design.specs.Operations.{one_bit, port_named, bit_op, constant_op, register_op, output_op}
use Rattle.aiger_design.specs.Built.{clock_ports, input_ports, output_ports, imported_ports, imported_body, imported_module, imported_design}
use Rattle.aiger_design.proofs.Forms.{of_body}
use Rattle.aiger_design.proofs.Fronts.{front, last_op, body_is, front_few}
use Rattle.aiger_design.proofs.AcceptedDesign.{few_lines}

-- ---- lists and names

module _ {A : Type 0} (P : A → Type 0) where
  each_member : (xs : List A) → ((x : A) → In x xs → P x) → Each P xs
  each_member [] holds = tt
  each_member (x ∷ xs) holds = (holds x (inl refl), each_member xs (λ y here. holds y (inr here)))

  each_joined : (xs ys : List A) → Each P xs → Each P ys → Each P (xs ++ ys)
  each_joined [] ys first second = second
  each_joined (x ∷ xs) ys first second = (first.0, each_joined xs ys first.1 second)

decimal_bytes : (n : ℕ) → n < 2 ^ 64 → AreBytes (decimal n)
decimal_bytes = decimal_by_steps (λ n ds. AreBytes ds) (λ n small. (omega arith, tt)) more
  where
    more : (n : ℕ) (ds : List ℕ) → 10 ≤ n → AreBytes ds → AreBytes (ds ++ ((48 + n % 10) ∷ []))
    more n ds big all = let small : n % 10 < 10 = omega arith in each_joined (λ b. b < 256) ds ((48 + n % 10) ∷ []) all (omega arith, tt)

bit_read : IsAnyType one_bit
bit_read = omega arith

-- ---- operations

empty_dictionary : (o : Listed) (strings : List Name) → IsKeptDictionary o strings []
empty_dictionary o strings = record { in_order = tt; kept = tt; entries = tt }

absent : {A : Type 0} → false ≡ true → A
absent never = cc

canonical_variadic : (v : Variadic) (xs : List Ref) → IsCanonicalOp (bit_op (variadic v) xs)
unfolding result_types result_type
canonical_variadic v xs = record {
  types = (refl, tt);
  readable = (bit_read, tt);
  kept = tt;
  written = tt;
  nameless = λ none. refl;
  name = tt;
  dictionary = empty_dictionary _ _;
  bin = absent;
  named = omega arith;
}

canonical_constant : (b : Bool) → IsCanonicalOp (constant_op b)
unfolding result_types result_type
canonical_constant b = record {
  types = (refl, tt);
  readable = (bit_read, tt);
  kept = refl;
  written = small b;
  nameless = λ none. refl;
  name = tt;
  dictionary = empty_dictionary _ _;
  bin = absent;
  named = omega arith;
}
  where
    small : (b : Bool) → cond b 1 0 < 2 ^ 128
    small true = omega arith
    small false = omega arith

canonical_register : (k : ℕ) (xs : List Ref) → k < 2 ^ 64 → IsCanonicalOp (register_op k xs)
unfolding result_types result_type
canonical_register k xs small = record {
  types = (refl, tt);
  readable = (bit_read, tt);
  kept = tt;
  written = tt;
  nameless = λ never. absent (sym never);
  name = (omega arith, decimal_bytes k small);
  dictionary = empty_dictionary _ _;
  bin = absent;
  named = omega arith;
}

bits_read : (xs : List Ref) → Each IsAnyType (map (λ (r : Ref). one_bit) xs)
bits_read [] = tt
bits_read (x ∷ xs) = (bit_read, bits_read xs)

canonical_output : (xs : List Ref) → IsCanonicalOp (output_op xs)
unfolding result_types
canonical_output xs = record {
  types = tt;
  readable = bits_read xs;
  kept = tt;
  written = tt;
  nameless = λ none. refl;
  name = tt;
  dictionary = empty_dictionary _ _;
  bin = absent;
  named = omega arith;
}

-- ---- ports

canonical_port : (letter k : ℕ) (side : Bool) → letter < 256 → k < 2 ^ 64 → IsCanonicalPort (port_named (letter ∷ decimal k) side one_bit)
canonical_port letter k side low small = record { name = (low, decimal_bytes k small); type = bit_read }

canonical_outputs : (k : ℕ) (ls : List ℕ) → k + length ls ≤ 2 ^ 64 → Each IsCanonicalPort (output_ports k ls)
canonical_outputs k [] few = tt
canonical_outputs k (l ∷ ls) few = (canonical_port 111 k true (omega arith) (omega (arith, few)), canonical_outputs (suc k) ls (omega (arith, few)))

canonical_inputs : (k : ℕ) (ls : List ℕ) → k + length ls ≤ 2 ^ 64 → Each IsCanonicalPort (input_ports k ls)
canonical_inputs k [] few = tt
canonical_inputs k (l ∷ ls) few = (canonical_port 105 k false (omega arith) (omega (arith, few)), canonical_inputs (suc k) ls (omega (arith, few)))

canonical_clock : (ls : List Latch) → Each IsCanonicalPort (clock_ports ls)
canonical_clock [] = tt
canonical_clock (l ∷ ls) = (record { name = (omega arith, (omega arith, (omega arith, (omega arith, (omega arith, tt))))); type = tt }, tt)

input_count : (k : ℕ) (ls : List ℕ) → length (input_ports k ls) ≡ length ls
input_count k [] = refl
input_count k (l ∷ ls) = ap suc (input_count (suc k) ls)

output_count : (k : ℕ) (ls : List ℕ) → length (output_ports k ls) ≡ length ls
output_count k [] = refl
output_count k (l ∷ ls) = ap suc (output_count (suc k) ls)

clock_count : (ls : List Latch) → length (clock_ports ls) ≤ 1
clock_count [] = omega arith
clock_count (l ∷ ls) = omega arith

port_count : (t : Aiger) → length (imported_ports t) ≤ 1 + length t.inputs + length t.outputs
port_count t =
    let all : length (imported_ports t) ≡ length (clock_ports t.latches) + length (input_ports 0 t.inputs ++ output_ports 0 t.outputs) =
    length-append (clock_ports t.latches) (input_ports 0 t.inputs ++ output_ports 0 t.outputs) in
    let rest : length (input_ports 0 t.inputs ++ output_ports 0 t.outputs) ≡ length (input_ports 0 t.inputs) + length (output_ports 0 t.outputs) =
    length-append (input_ports 0 t.inputs) (output_ports 0 t.outputs) in
    let inputs : length (input_ports 0 t.inputs) ≡ length t.inputs = input_count 0 t.inputs in
    let outputs : length (output_ports 0 t.outputs) ≡ length t.outputs = output_count 0 t.outputs in
    let clocks : length (clock_ports t.latches) ≤ 1 = clock_count t.latches in
    omega (arith, all, rest, inputs, outputs, clocks)

-- ---- the module

canonical_module : (t : Aiger) → least_bytes t ≤ 2 ^ 26 + 1 → IsCanonicalModule (imported_module t)
canonical_module t few = record {
  symbol = (omega arith, (omega arith, (omega arith, (omega arith, (omega arith, tt)))));
  ports = each_joined IsCanonicalPort (clock_ports t.latches) (input_ports 0 t.inputs ++ output_ports 0 t.outputs) (canonical_clock t.latches)
      (each_joined IsCanonicalPort (input_ports 0 t.inputs) (output_ports 0 t.outputs) (canonical_inputs 0 t.inputs (omega (arith, few))) (canonical_outputs 0 t.outputs (omega (arith, few))));
  dictionary = empty_dictionary _ _;
  operations = each_member IsCanonicalOp (imported_body t) (of_body t IsCanonicalOp
      (record {
        of_constants = canonical_constant;
        of_inverters = λ x. canonical_variadic xor (x ∷ result 0 0 ∷ []);
        of_registers = λ k xs low. canonical_register k xs (omega (arith, few, low));
        of_gates = canonical_variadic and;
        of_outputs = canonical_output;
      }));
  few_ports = let ports : length (imported_ports t) ≤ 1 + length t.inputs + length t.outputs = port_count t in omega (arith, few, ports);
  few_operations = few_ops;
}
  where
    few_ops : length (imported_body t) < 2 ^ 32
    few_ops =
        let all : length (imported_body t) ≡ length (front t) + 1 = ap length (body_is t) ∙ length-append (front t) (last_op t ∷ []) in
        let front_is : length (front t) ≤ 2 + 2 * length t.latches + 3 * length t.gates + length t.outputs = front_few t in
        omega (arith, few, all, front_is)

pub imported_canonical : (bytes : List ℕ) (t : Aiger) → IsAiger bytes t → length bytes ≤ 2 ^ 26 → IsCanonical (imported_design t)
imported_canonical bytes t says short = (canonical_module t (few_lines bytes t says short), tt)
