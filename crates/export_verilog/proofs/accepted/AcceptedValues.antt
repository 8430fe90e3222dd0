-- The values of a module of an accepted design without aggregates: their bits, their clocks, and those of its registers.
use Rattle.std.proofs.Common.{◌≡◌, ℕ, zero, suc, ◌≤◌, ◌<◌, Bool, true, false, cond, ◌||◌, List, [], ◌∷◌, map, length, slice_get, Option, Some, None, option_map, refl, sym, ap, ◌∙◌, subst, inl, inr, arith, option_and_then}
use Rattle.std.specs.Prelude.{is_some}
use Rattle.wiring.specs.Wiring.{In}
use Rattle.hw_model.specs.Types.{HwType}
use Rattle.hw_model.specs.Types.HwType.{clock}
use Rattle.hw_model.specs.Kinds.{Kind}
use Rattle.hw_model.specs.Kinds.Kind.{variadic, on_struct, instance, output}
use Rattle.hw_model.specs.Design.{Ref, Port, OpResult, Op, RegisterForm, instance_in, register_form, is_output_kind, result_type}
use Rattle.hw_model.specs.Design.Ref.{port, result, undefined}
use Rattle.hw_model.specs.Flat.{width_of, Register, register_parts, register_in}
use Rattle.hw_model.specs.Sound.{input_type, type_in, OpFits}
use Rattle.type_inference.specs.ResultTypes.{result_count}
use Rattle.op_checks.specs.CountChecks.{operands_written, operand_count}
use Rattle.op_checks.specs.TypeChecks.{is_clock}
use Rattle.op_checks.specs.LimitChecks.{value_types}
use Rattle.op_verifier.proofs.NoCauseAlone.{types_of, NoCauseAlone}
use Rattle.op_checks.proofs.Settled.{settles}
use Rattle.verilog_expr.specs.Marks.{AreSmall}
use Rattle.verilog_expr.specs.Values.{is_aggregate_kind, is_variadic}
use Rattle.export_verilog.specs.Aggregates.{is_aggregate}
use Rattle.export_verilog.specs.Exportable.{IsClocked}
use Rattle.export_verilog.proofs.accepted.AcceptedTypes.{none_of, IsGiven, given, given_some, given_value, HasSomeBits}
use Rattle.export_verilog.proofs.accepted.NoAggregates.{IsPlain}
use Rattle.export_verilog.proofs.items.Registers.{parts_typed, form_fits}

-- ---- how many results

pub one_result : (kind : Kind) (ts : List HwType) → is_aggregate_kind kind ≡ false → (is_some (instance_in kind) || is_output_kind kind) ≡ false → result_count kind ts ≡ 1
unfolding result_count
one_result (on_struct s) ts plain h = cc
one_result (instance i) ts plain h = cc
one_result output ts plain h = cc
one_result _ ts plain h = refl

pub no_result : (kind : Kind) (ts : List HwType) → is_output_kind kind ≡ true → result_count kind ts ≡ 0
unfolding result_count
no_result output ts h = refl
no_result _ ts h = cc

pub single : {A : Type 0} (xs : List A) → length xs ≡ 1 → (x : A) × (xs ≡ x ∷ [])
single [] h = cc
single (x ∷ []) h = (x, refl)
single (x ∷ y ∷ xs) h = absurd (omega (arith, h))

-- an operation of any number of operands has one at least
pub some_operand : (kind : Kind) (ts : List HwType) (n : ℕ) → is_variadic kind ≡ true → n ≡ operand_count kind ts n → 1 ≤ n
unfolding operands_written operand_count
some_operand (variadic v) ts n h e = omega (arith, e)
some_operand _ ts n h e = cc

-- ---- members

in_types : (rs : List OpResult) (k : ℕ) (r : OpResult) → slice_get rs k ≡ Some r → In r.type (types_of rs)
in_types [] k r there = cc
in_types (x ∷ rs) zero r there = let same : x ≡ r = cc in inl (ap (λ (y : OpResult). y.type) (sym same))
in_types (x ∷ rs) (suc k) r there = inr (in_types rs k r there)

pub in_list : {A : Type 0} (xs : List A) (k : ℕ) (x : A) → slice_get xs k ≡ Some x → In x xs
in_list [] k x there = cc
in_list (y ∷ xs) zero x there = let same : y ≡ x = cc in inl (sym same)
in_list (y ∷ xs) (suc k) x there = inr (in_list xs k x there)

some_from : {A B : Type 0} (f : A → B) (x : Option A) (b : B) → option_map f x ≡ Some b → (a : A) × (x ≡ Some a) × (f a ≡ b)
some_from f None b h = cc
some_from f (Some a) b h = (a, refl, cc)

from_bind : {A B : Type 0} (f : A → Option B) (x : Option A) (b : B) → option_and_then f x ≡ Some b → (a : A) × (x ≡ Some a) × (f a ≡ Some b)
from_bind f None b h = cc
from_bind f (Some a) b h = (a, refl, h)

-- ---- results

module _ (ports : List Port) (os : List Op) (o : Op) (tests : NoCauseAlone ports os o) (plain : IsPlain o) (k : ℕ) (r : OpResult) (there : slice_get o.results k ≡ Some r) where
  from_kind : IsGiven (value_types o.kind o.types) r.type
  from_kind = given o.kind o.types (types_of o.results) (length o.operands) plain.kind (settles o.kind o.types (types_of o.results) tests) tests.operands tests.types tests.written tests.wide r.type (in_types o.results k r there)

  pub result_bits : HasSomeBits r.type
  result_bits = given_some o.kind o.types r.type (none_of (λ (x : OpResult). is_aggregate x.type) o.results plain.results r (in_list o.results k r there)) tests.written from_kind

  result_no_clock : is_clock r.type ≡ false
  result_no_clock = given_value (value_types o.kind o.types) r.type tests.clock_type from_kind

-- ---- values

-- an input port of a type
record IsInput (ports : List Port) (j : ℕ) (t : HwType) : Type 0 where
  port_of : Port
  there : slice_get ports j ≡ Some port_of
  input : port_of.is_output ≡ false
  type : port_of.type ≡ t

input_from : (ports : List Port) (j : ℕ) (t : HwType) → input_type (slice_get ports j) ≡ Some t → IsInput ports j t
input_from ports j t h = go (slice_get ports j) refl h
  where
    pick : (p : Port) → slice_get ports j ≡ Some p → (b : Bool) → p.is_output ≡ b → cond b None (Some p.type) ≡ Some t → IsInput ports j t
    pick p at true e h = cc
    pick p at false e h = record { port_of = p; there = at; input = e; type = (let same : p.type ≡ t = cc in same) }

    go : (x : Option Port) → slice_get ports j ≡ x → input_type x ≡ Some t → IsInput ports j t
    go None e h = cc
    go (Some p) e h = pick p e p.is_output refl h

module _ (ports : List Port) (os : List Op)
    (tests : (j : ℕ) (o : Op) → slice_get os j ≡ Some o → NoCauseAlone ports os o)
    (plain : (j : ℕ) (o : Op) → slice_get os j ≡ Some o → IsPlain o)
    (bits : (j : ℕ) (p : Port) → slice_get ports j ≡ Some p → HasSomeBits p.type) where
  value_bits : (r : Ref) (t : HwType) → type_in ports os r ≡ Some t → HasSomeBits t
  value_bits (port j) t h =
      let p = input_from ports j t h in
      subst HasSomeBits p.type (bits j p.port_of p.there)
  value_bits (result i k) t h =
      let o = from_bind (λ (o : Op). result_type o k) (slice_get os i) t h in
      let r = some_from (λ (r : OpResult). r.type) (slice_get o.0.results k) t o.2 in
      subst HasSomeBits r.2 (result_bits ports os o.0 (tests i o.0 o.1) (plain i o.0 o.1) k r.0 r.1)
  value_bits undefined t h = cc

  -- no value has more than 128 bits
  pub small_value : AreSmall ports os
  small_value r = go (type_in ports os r) refl
    where
      go : (x : Option HwType) → type_in ports os r ≡ x → width_of x < 129
      go None e = omega arith
      go (Some t) e = (value_bits r t e).small

  pub clock_port : (r : Ref) → type_in ports os r ≡ Some clock → (j : ℕ) × (r ≡ port j)
  clock_port (port j) h = (j, refl)
  clock_port (result i k) h =
      let o = from_bind (λ (o : Op). result_type o k) (slice_get os i) clock h in
      let r = some_from (λ (r : OpResult). r.type) (slice_get o.0.results k) clock o.2 in
      let f : is_clock clock ≡ false = ap is_clock (sym r.2) ∙ result_no_clock ports os o.0 (tests i o.0 o.1) (plain i o.0 o.1) k r.0 r.1 in cc
  clock_port undefined h = cc

  clocked_by : (r : Register) → type_in ports os r.clock ≡ Some clock → IsClocked ports r
  clocked_by r typed =
      let j = clock_port r.clock typed in
      let p = at_input r.clock j.0 j.1 typed in
      record { number = j.0; clock = p.port_of; is_port = j.1; there = p.there; input = p.input }
    where
      at_input : (x : Ref) (j : ℕ) → x ≡ port j → type_in ports os x ≡ Some clock → IsInput ports j clock
      at_input x j same typed = input_from ports j clock (subst (λ (y : Ref). type_in ports os y ≡ Some clock) same typed)

  same_register : (x : Option Register) (a b : Register) → x ≡ Some a → x ≡ Some b → type_in ports os a.clock ≡ Some clock → type_in ports os b.clock ≡ Some clock
  same_register x a b h i typed = let e : a ≡ b = cc in subst (λ (y : Register). type_in ports os y.clock ≡ Some clock) e typed

  -- the clock of a register with a result
  pub clocked : (o : Op) (t : HwType) → OpFits (type_in ports os) o → result_type o 0 ≡ Some t → (r : Register) → register_in o ≡ Some r → IsClocked ports r
  clocked o t fits typed r is =
      let f = from_bind (λ (f : RegisterForm). register_parts f.has_enable f.reset o.operands) (register_form o.kind) r is in
      let same = form_fits o.kind f.0 o.types (map (type_in ports os) o.operands) t 0 f.1 (fits 0 t typed) in
      let g = parts_typed (type_in ports os) t f.0.has_enable f.0.reset o.operands same in
      clocked_by r (same_register (register_parts f.0.has_enable f.0.reset o.operands) g.0 r g.1 f.2 g.2.clocked)
