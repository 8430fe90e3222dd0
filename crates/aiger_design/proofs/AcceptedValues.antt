-- Each value that an operation of an imported design uses is there, and of one bit.
use Rattle.std.proofs.Common.{◌≡◌, ℕ, zero, suc, ◌+◌, ◌<◌, ◌≤◌, ◌==◌, not, Bool, true, false, cond, List, [], ◌∷◌, ◌++◌, length, slice_get, slice_index_or, Some, None, refl, sym, ap, subst, ◌∙◌, inl, inr, arith, option_and_then, true≢false}
use Rattle.std.proofs.lemmas.Bool.{and_parts}
use Rattle.std.proofs.lemmas.Option.{slice_get_within}
use Rattle.wiring.specs.Wiring.{In}
use Rattle.wiring.proofs.Members.{In-slice_get}
use Rattle.wiring.proofs.Lists.{slice_get_some, slice_get-append_some}
use Rattle.hw_model.specs.Types.HwType.{clock}
use Rattle.hw_model.specs.Design.{Ref, Port, Op, result_type}
use Rattle.hw_model.specs.Design.Ref.{result}
use Rattle.hw_model.specs.Sound.{input_type, type_in}
use Rattle.type_inference.specs.ResultTypes as inferred
use Rattle.aiger_laws.specs.declared.tree.Latch.{Latch}
use Rattle.aiger_laws.specs.Trees.{Aiger, variable, is_negated}
use Rattle.aiger_laws.specs.Drivers.{Driver, nothing, input_bit, held_bit, gate_bit, driver}
use Rattle.aiger_laws.specs.Rows.{is_driven, is_defined}
use Rattle.aiger_laws.specs.Grammar.{is_undefined}
use Rattle.aiger_laws.proofs.GateDrivers.{driving_gate}
use Rattle.aiger_design.specs.Operations.{one_bit, constant_op}
use Rattle.aiger_design.specs.Positions.{User, users, needs_true, needs_false, constants, constant_ref, is_inverted, inverter_count, end_from, input_port, driver_ref, variable_ref, plain_ref, operands}
use Rattle.aiger_design.specs.Built.{clock_ports, input_ports, output_ports, imported_ports, imported_body, inverters, groups}
use Rattle.aiger_design.proofs.UsedLiterals.{uses_of, zero_literal, input_within, latch_within}
use Rattle.aiger_design.proofs.DefinedUsers.{defined_variable}
use Rattle.aiger_design.proofs.Fronts.{first_users, front, last_op, body_is, user_low, first_count, of_front}
use Rattle.op_verifier.specs.OpChecks.{settled_by, settled_type}

-- the first result of an operation is of one bit, and the operation settles that
pub record GivesBit (o : Op) : Type 0 where
  pub is : result_type o 0 ≡ Some one_bit
  pub settled : slice_index_or (settled_by o) 0 None ≡ Some one_bit

-- a value of the body is there, and of one bit
pub record IsBit (t : Aiger) (r : Ref) : Type 0 where
  pub is : type_in (imported_ports t) (imported_body t) r ≡ Some one_bit
  pub settled : settled_type (imported_ports t) (imported_body t) r ≡ Some one_bit

-- ---- ports

input_there : (s : ℕ) (ls : List ℕ) (more : List Port) (k : ℕ) → k < length ls → input_type (slice_get (input_ports s ls ++ more) k) ≡ Some one_bit
input_there s [] more k low = absurd (omega (arith, low))
input_there s (l ∷ ls) more zero low = refl
input_there s (l ∷ ls) more (suc k) low = input_there (suc s) ls more k (omega (arith, low))

-- where there is a latch the clock is the first port
pub clock_there : (ls : List Latch) (more : List Port) → 0 < length ls → input_type (slice_get (clock_ports ls ++ more) 0) ≡ Some clock
clock_there [] more some = absurd (omega (arith, some))
clock_there (l ∷ ls) more some = refl

module _ (t : Aiger) where
  port_bit : (k : ℕ) → k < length t.inputs → IsBit t (input_port t.latches k)
  port_bit k low = record { is = by_type t.latches; settled = by_settled t.latches }
    where
      by_type : (ls : List Latch) → type_in (clock_ports ls ++ (input_ports 0 t.inputs ++ output_ports 0 t.outputs)) (imported_body t) (input_port ls k) ≡ Some one_bit
      by_type [] = input_there 0 t.inputs (output_ports 0 t.outputs) k low
      by_type (l ∷ ls) = input_there 0 t.inputs (output_ports 0 t.outputs) k low

      by_settled : (ls : List Latch) → settled_type (clock_ports ls ++ (input_ports 0 t.inputs ++ output_ports 0 t.outputs)) (imported_body t) (input_port ls k) ≡ Some one_bit
      by_settled [] = input_there 0 t.inputs (output_ports 0 t.outputs) k low
      by_settled (l ∷ ls) = input_there 0 t.inputs (output_ports 0 t.outputs) k low

  -- ---- results

  front_gives : (o : Op) → In o (front t) → GivesBit o
  unfolding inferred.result_types inferred.result_type
  front_gives = of_front t GivesBit
      (record {
        of_constants = λ b. record { is = refl; settled = refl };
        of_inverters = λ u here l within is. record { is = refl; settled = refl };
        of_registers = λ k l low u here are p within. record { is = refl; settled = refl };
        of_gates = λ g here p within. record { is = refl; settled = refl };
      })

  front_bit : (j : ℕ) → j < length (front t) → IsBit t (result j 0)
  front_bit j low =
      let there = slice_get_some (front t) j low in
      let gives = front_gives there.0 (In-slice_get there.0 (front t) j there.1) in
      let at : slice_get (imported_body t) j ≡ Some there.0 = ap (λ os. slice_get os j) (body_is t) ∙ slice_get-append_some (front t) (last_op t ∷ []) j there.0 there.1 in
      record {
        is = ap (option_and_then (λ (o : Op). result_type o 0)) at ∙ gives.is;
        settled = ap (option_and_then (λ (o : Op). slice_index_or (settled_by o) 0 None)) at ∙ gives.settled;
      }

  true_within : needs_true t ≡ true → 0 < length (front t)
  true_within is = go (needs_true t) (needs_false t) is
    where
      go : (a b : Bool) → a ≡ true → 0 < length ((cond a (constant_op true ∷ []) [] ++ cond b (constant_op false ∷ []) []) ++ (groups t (length (constants t)) (first_users t) ++ inverters t t.outputs))
      go true b is = omega arith
      go false b is = absurd (true≢false (sym is))

  false_within : needs_false t ≡ true → cond (needs_true t) 1 0 < length (front t)
  false_within is = go (needs_true t) (needs_false t) is
    where
      go : (a b : Bool) → b ≡ true → cond a 1 0 < length ((cond a (constant_op true ∷ []) [] ++ cond b (constant_op false ∷ []) []) ++ (groups t (length (constants t)) (first_users t) ++ inverters t t.outputs))
      go true true is = omega arith
      go false true is = omega arith
      go a false is = absurd (true≢false (sym is))

  -- ---- variables and literals

  pub variable_bit : (v : ℕ) → is_defined t v ≡ true → IsBit t (variable_ref t v)
  variable_bit v has = go (driver t v) refl has
    where
      go : (d : Driver) → driver t v ≡ d → is_driven d ≡ true → IsBit t (driver_ref t d)
      go nothing at never = absurd (true≢false (sym never))
      go (input_bit k) at some = port_bit k (input_within t v k at)
      go (held_bit k) at some =
          let low : k < length t.latches = latch_within t v k at in
          let count : length (first_users t) ≡ length t.latches + length t.gates = first_count t in
          front_bit (end_from (length (constants t)) (users t) k) (user_low t k (omega (arith, low, count)))
      go (gate_bit k) at some =
          let gate = driving_gate t v k at in
          let low : k < length t.gates = slice_get_within t.gates k gate.0 gate.1 in
          let count : length (first_users t) ≡ length t.latches + length t.gates = first_count t in
          front_bit (end_from (length (constants t)) (users t) (length t.latches + k)) (user_low t (length t.latches + k) (omega (arith, low, count)))

  pub true_bit : (u : User) → In u (users t) → (l : ℕ) → In l u.literals → is_negated l ≡ true → IsBit t (result 0 0)
  true_bit u here l within negated = front_bit 0 (true_within (uses_of is_negated (users t) u l here within negated))

  plain_bit : (u : User) → In u (users t) → (l : ℕ) → In l u.literals → is_undefined t l ≡ false → is_inverted l ≡ false → IsBit t (plain_ref t l)
  plain_bit u here l within used plain = go (variable l == 0) (is_negated l) refl refl
    where
      go : (a b : Bool) → (variable l == 0) ≡ a → is_negated l ≡ b → IsBit t (cond a (constant_ref t b) (variable_ref t (variable l)))
      go true true first second = true_bit u here l within second
      go true false first second =
          front_bit (cond (needs_true t) 1 0) (false_within (uses_of (λ k. k == 0) (users t) u l here within (zero_literal l first second)))
      go false b first second = variable_bit (variable l) (defined_variable t l used first)

  -- what an inverter negates
  pub inverted_bit : (l : ℕ) → is_undefined t l ≡ false → is_inverted l ≡ true → IsBit t (variable_ref t (variable l))
  inverted_bit l used inverted = variable_bit (variable l) (defined_variable t l used (other (variable l == 0) (and_parts (is_negated l) (not (variable l == 0)) inverted).1))
    where
      other : (b : Bool) → not b ≡ true → b ≡ false
      other true is = absurd (true≢false (sym is))
      other false is = refl

  pub operand_bits : (u : User) → In u (users t) → ((l : ℕ) → In l u.literals → is_undefined t l ≡ false) → (p : ℕ) (ls : List ℕ) → ((l : ℕ) → In l ls → In l u.literals)
      → p + inverter_count ls ≤ length (front t) → (r : Ref) → In r (operands t p ls) → IsBit t r
  operand_bits u here used p [] among low r never = absurd never
  operand_bits u here used p (l ∷ ls) among low r within =
      go (is_inverted l) refl low within (operand_bits u here used (suc p) ls (λ k there. among k (inr there))) (operand_bits u here used p ls (λ k there. among k (inr there)))
    where
      go : (b : Bool) → is_inverted l ≡ b → p + cond b (suc (inverter_count ls)) (inverter_count ls) ≤ length (front t)
          → In r (cond b (result p 0 ∷ operands t (suc p) ls) (plain_ref t l ∷ operands t p ls))
          → (suc p + inverter_count ls ≤ length (front t) → (s : Ref) → In s (operands t (suc p) ls) → IsBit t s)
          → (p + inverter_count ls ≤ length (front t) → (s : Ref) → In s (operands t p ls) → IsBit t s) → IsBit t r
      go true is low (inl same) behind beside = subst (IsBit t) (sym same) (front_bit p (omega (arith, low)))
      go true is low (inr there) behind beside = behind (omega (arith, low)) r there
      go false is low (inl same) behind beside = subst (IsBit t) (sym same) (plain_bit u here l (among l (inl refl)) (used l (among l (inl refl))) is)
      go false is low (inr there) behind beside = beside low r there
