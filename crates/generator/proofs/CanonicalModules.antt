-- A generated design is in canonical form.
use Rattle.std.proofs.Common.{◌≡◌, ℕ, zero, suc, ◌+◌, ◌*◌, ◌/◌, ◌%◌, ◌<◌, ◌≤◌, ◌^◌, pos, Bool, true, false, List, [], ◌∷◌, ◌++◌, length, refl, sym, subst, arith, decimal}
use Rattle.std.specs.Prelude.{codes}
use Rattle.std.proofs.lemmas.Fmt.{decimal_by_steps}
use Rattle.opcode.specs.declared.listed.Listed.{Listed}
use Rattle.hw_model.specs.Types.{Name, HwType}
use Rattle.hw_model.specs.Types.HwType.{int, clock}
use Rattle.hw_model.specs.Kinds.{Kind}
use Rattle.hw_model.specs.Kinds.Variadic.{xor}
use Rattle.hw_model.specs.Kinds.Kind.{variadic, constant}
use Rattle.hw_model.specs.Design.{Ref}
use Rattle.hw_model.specs.Design.Ref.{port, result}
use Rattle.type_inference.specs.ResultTypes.{result_type, result_types}
use Rattle.stored_form.specs.Bytes.{Each, AreBytes}
use Rattle.stored_form.specs.Canonical.{IsCanonicalOp, IsCanonicalPort, IsCanonicalModule, IsCanonical}
use Rattle.stored_form.specs.Dictionaries.{IsKeptDictionary}
use Rattle.stored_form.specs.Limits.{IsAnyType}
use Rattle.stored_form.specs.ResultTypes.{HaveTypes}
use Rattle.generator.specs.Draws.{state_after, number_drawn}
use Rattle.generator.specs.Generated.{word, port_named, generated_ports, module_symbol, word_op, register_op, instance_op, xor_op, output_op, first_ops, last_ops, generated_module, first_modules, generated}
use Rattle.generator.proofs.ChosenKinds.{IsBinary, binary_variadic}
use Rattle.generator.proofs.FirstOps.{drawn_small, first_kind, second_kind, third_kind, binary_first, binary_second, binary_third}
use Rattle.generator.proofs.GeneratedModules.{made}

-- ---- lists

each_more : {A : Type 0} (P : A → Type 0) (xs : List A) (y : A) → Each P xs → P y → Each P (xs ++ y ∷ [])
each_more P [] y all last = (last, tt)
each_more P (x ∷ xs) y all last = (all.0, each_more P xs y all.1 last)

-- ---- names

decimal_bytes : (n : ℕ) → n < 2 ^ 64 → AreBytes (decimal n)
decimal_bytes = decimal_by_steps (λ n ds. AreBytes ds) (λ n small. (omega arith, tt)) more
  where
    more : (n : ℕ) (ds : List ℕ) → 10 ≤ n → AreBytes ds → AreBytes (ds ++ ((48 + n % 10) ∷ []))
    more n ds big all = let small : n % 10 < 10 = omega arith in each_more (λ b. b < 256) ds (48 + n % 10) all (omega arith)

symbol_bytes : (k : ℕ) → k < 2 ^ 64 → AreBytes (module_symbol k)
symbol_bytes k small = (omega arith, decimal_bytes k small)

name_clk : AreBytes (codes "clk")
name_clk = (omega arith, (omega arith, (omega arith, tt)))

name_rst : AreBytes (codes "rst")
name_rst = (omega arith, (omega arith, (omega arith, tt)))

name_a : AreBytes (codes "a")
name_a = (omega arith, tt)

name_b : AreBytes (codes "b")
name_b = (omega arith, tt)

name_c : AreBytes (codes "c")
name_c = (omega arith, tt)

-- ---- types and ports

word_read : IsAnyType word
word_read = omega arith

bit_read : IsAnyType (int 1)
bit_read = omega arith

canonical_port : (name : Name) (is_output : Bool) (t : HwType) → AreBytes name → IsAnyType t → IsCanonicalPort (port_named name is_output t)
canonical_port name is_output t bytes type = record { name = bytes; type = type }

canonical_ports : Each IsCanonicalPort generated_ports
canonical_ports = (
  canonical_port (codes "clk") false clock name_clk tt,
  (
    canonical_port (codes "rst") false (int 1) name_rst bit_read,
    (canonical_port (codes "a") false word name_a word_read, (canonical_port (codes "b") false word name_b word_read, (canonical_port (codes "c") true word name_c word_read, tt))),
  ),
)

-- ---- operations

empty_dictionary : (o : Listed) (strings : List Name) → IsKeptDictionary o strings []
empty_dictionary o strings = record { in_order = tt; kept = tt; entries = tt }

absent : {A : Type 0} → false ≡ true → A
absent never = cc

canonical_binary : (kind : Kind) (r s : Ref) → IsBinary kind → IsCanonicalOp (word_op kind (r ∷ s ∷ []))
canonical_binary kind r s is = record {
  types = subst (HaveTypes (record { type = word; again = false } ∷ [])) (sym is.settles) (refl, tt);
  readable = (word_read, tt);
  kept = is.kept;
  written = is.written;
  nameless = λ none. refl;
  name = tt;
  dictionary = empty_dictionary _ _;
  bin = absent;
  named = omega arith;
}

canonical_constant : (n : ℕ) → n < 2 ^ 16 → IsCanonicalOp (word_op (constant (pos n)) [])
unfolding result_types result_type
canonical_constant n small = record {
  types = (refl, tt);
  readable = (word_read, tt);
  kept = refl;
  written = omega arith;
  nameless = λ none. refl;
  name = tt;
  dictionary = empty_dictionary _ _;
  bin = absent;
  named = omega arith;
}

canonical_register : IsCanonicalOp register_op
unfolding result_types result_type
canonical_register = record {
  types = (refl, tt);
  readable = (word_read, tt);
  kept = tt;
  written = tt;
  nameless = λ never. absent (sym never);
  name = (omega arith, tt);
  dictionary = empty_dictionary _ _;
  bin = absent;
  named = omega arith;
}

canonical_instance : (j : ℕ) → j < 2 ^ 64 → IsCanonicalOp (instance_op j)
unfolding result_types
canonical_instance j small = record {
  types = (refl, tt);
  readable = (tt, (bit_read, (word_read, (word_read, (word_read, tt)))));
  kept = tt;
  written = record {
    name = (omega arith, tt);
    inner = tt;
    symbol = symbol_bytes j small;
    inputs = (name_clk, (name_rst, (name_a, (name_b, tt))));
    outputs = (name_c, tt);
  };
  nameless = λ none. refl;
  name = tt;
  dictionary = empty_dictionary _ _;
  bin = absent;
  named = omega arith;
}

canonical_output : (i : ℕ) → IsCanonicalOp (output_op i)
unfolding result_types
canonical_output i = record {
  types = tt;
  readable = (word_read, tt);
  kept = tt;
  written = tt;
  nameless = λ none. refl;
  name = tt;
  dictionary = empty_dictionary _ _;
  bin = absent;
  named = omega arith;
}

canonical_body : (x k : ℕ) → k < 2 ^ 64 → Each IsCanonicalOp (first_ops x ++ last_ops k)
canonical_body x k small = (
  canonical_constant (number_drawn x 1) (drawn_small x 0),
  (
    canonical_binary (first_kind x) (port 2) (port 3) (binary_first x),
    (
      canonical_binary (second_kind x) (result 1 0) (result 0 0) (binary_second x),
      (canonical_binary (third_kind x) (result 2 0) (result 1 0) (binary_third x), (canonical_register, last k small)),
    ),
  ),
)
  where
    canonical_xor : (i : ℕ) → IsCanonicalOp (xor_op i)
    canonical_xor i = canonical_binary (variadic xor) (result i 0) (result 2 0) (binary_variadic xor)

    last : (k : ℕ) → k < 2 ^ 64 → Each IsCanonicalOp (last_ops k)
    last zero small = (canonical_xor 4, (canonical_output 5, tt))
    last (suc k) small = (canonical_instance (k / 2) (omega arith), (canonical_xor 5, (canonical_output 6, tt)))

-- ---- modules

few_ops : (x k : ℕ) → length (first_ops x ++ last_ops k) < 2 ^ 32
few_ops x zero = omega arith
few_ops x (suc k) = omega arith

canonical_module : (n k x : ℕ) → k < 2 ^ 64 → IsCanonicalModule (generated_module n k x)
canonical_module n k x small = record {
  symbol = symbol_bytes k small;
  ports = canonical_ports;
  dictionary = empty_dictionary _ _;
  operations = canonical_body x k small;
  few_ports = omega arith;
  few_operations = few_ops x k;
}

canonical_first : (seed n k : ℕ) → k ≤ 10000 → Each IsCanonicalModule (first_modules seed n k)
canonical_first seed n zero few = tt
canonical_first seed n (suc k) few =
    each_more IsCanonicalModule (first_modules seed n k) (made seed n k) (canonical_first seed n k (omega arith)) (canonical_module n k (state_after seed (4 * k)) (omega arith))

pub canonical_design : (seed n : ℕ) → n ≤ 10000 → IsCanonical (generated seed n)
canonical_design seed n few = canonical_first seed n n few
