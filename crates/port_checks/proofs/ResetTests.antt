-- What the tests of reset ports say.
use Rattle.std.proofs.Common.{◌≡◌, ◌⊎◌, ◌<◌, ℕ, zero, suc, Bool, true, not, ◌&&◌, List, length, take, slice_get, Option, Some, None, is_some, refl, sym, ap, ◌∙◌, inl, inr, arith, eqb-true, eq-eqb, option_map}
use Rattle.std.proofs.lemmas.Option.{slice_get_within}
use Rattle.wiring.proofs.Options.{option_map_some}
use Rattle.hw_model.specs.Types.{HwType}
use Rattle.hw_model.specs.Types.HwType.{int, clock, array, struct}
use Rattle.hw_model.specs.Design.{Ref, Port, Op, Module, Design, instance_in, callee}
use Rattle.hw_model.specs.Design.Ref.{port, result, undefined}
use Rattle.hw_model.specs.Flat.{ResetBy, async_reset_in, port_ref, operand_for, input_count}
use Rattle.diag.specs.declared.cause.Cause.{Cause}
use Rattle.port_checks.specs.InstanceChecks.{instance_cause}
use Rattle.port_checks.specs.ResetPorts.{IsBitInput, is_bit_type, is_bit_input, is_port, names_port, joins_below, joins_marked, makes_reset}
use Rattle.port_checks.proofs.Booleans.{and_left, and_right}
use Rattle.std.proofs.lemmas.Bool.{not-true, and_from, or_left, or_right, or_cases}

-- ---- one port

bit_is_int : (t : HwType) → is_bit_type t ≡ true → t ≡ int 1
bit_is_int (int w) h = ap int (eqb-true w 1 h)
bit_is_int clock h = cc
bit_is_int (array n t) h = cc
bit_is_int (struct fs) h = cc

pub bit_input_some : (m : Module) (j : ℕ) → is_bit_input (slice_get m.ports j) ≡ true → IsBitInput m j
bit_input_some m j h = go (slice_get m.ports j) refl h
  where
    go : (o : Option Port) → slice_get m.ports j ≡ o → is_bit_input o ≡ true → IsBitInput m j
    go None e is = cc
    go (Some q) e is = record {
      port_there = q;
      there = e;
      is_input = not-true q.is_output (and_left (not q.is_output) (is_bit_type q.type) is);
      is_bit = bit_is_int q.type (and_right (not q.is_output) (is_bit_type q.type) is);
    }

pub some_bit_input : (m : Module) (j : ℕ) → IsBitInput m j → is_bit_input (slice_get m.ports j) ≡ true
some_bit_input m j is =
    ap is_bit_input is.there ∙ and_from (not is.port_there.is_output) (is_bit_type is.port_there.type) (ap not is.is_input) (ap is_bit_type is.is_bit)

pub bit_input_within : (m : Module) (j : ℕ) → IsBitInput m j → j < length m.ports
bit_input_within m j is = slice_get_within m.ports j is.port_there is.there

is_port_some : (j : ℕ) (r : Option Ref) → is_port j r ≡ true → r ≡ Some (port j)
is_port_some j None h = cc
is_port_some j (Some (port k)) h = ap (λ n. Some (port n)) (eqb-true k j h)
is_port_some j (Some (result a b)) h = cc
is_port_some j (Some undefined) h = cc

some_is_port : (j : ℕ) (r : Option Ref) → r ≡ Some (port j) → is_port j r ≡ true
some_is_port j r e = ap (is_port j) e ∙ eq-eqb j j refl

-- what is joined to a port is joined to one that is there
pub port_ref_within : (ports : List Port) (operands : List Ref) (k : ℕ) (r : Ref) → port_ref ports operands k ≡ Some r → k < length ports
port_ref_within ports operands k r e = go (slice_get ports k) refl e
  where
    go : (o : Option Port) → slice_get ports k ≡ o → operand_for o operands (input_count (take k ports)) ≡ Some r → k < length ports
    go None there is = cc
    go (Some q) there is = slice_get_within ports k q there

-- ---- one operation

-- an operation is a register that names the port as its asynchronous reset
abbrev pub Names : ℕ → Op → Type 0
Names j o = (r : ResetBy) × (async_reset_in o ≡ Some r) × (r.signal ≡ port j)

-- an operation is an instance that joins the port to a port k of its module
abbrev pub Joins : Design → ℕ → Op → Module → ℕ → Type 0
Joins d j o c k =
    (callee d o ≡ Some c) × (instance_cause d o.types (instance_in o.kind) ≡ None) × (port_ref c.ports o.operands k ≡ Some (port j))

names_some : (j : ℕ) (o : Op) → names_port j o ≡ true → Names j o
names_some j o h =
    option_map_some (λ (r : ResetBy). r.signal) (async_reset_in o) (is_port_some j (option_map (λ (r : ResetBy). r.signal) (async_reset_in o)) h)

some_names : (j : ℕ) (o : Op) → Names j o → names_port j o ≡ true
some_names j o (r, is, signal) =
    some_is_port j (option_map (λ (x : ResetBy). x.signal) (async_reset_in o)) (ap (option_map (λ (x : ResetBy). x.signal)) is ∙ ap Some signal)

module _ (marked : ℕ → Bool) (ports : List Port) (operands : List Ref) (j : ℕ) where
  below_some : (n : ℕ) → joins_below marked ports operands j n ≡ true → (k : ℕ) × (marked k ≡ true) × (port_ref ports operands k ≡ Some (port j))
  below_some zero h = cc
  below_some (suc n) h = go (or_cases (marked n && is_port j (port_ref ports operands n)) (joins_below marked ports operands j n) h) (below_some n)
    where
      go : ((marked n && is_port j (port_ref ports operands n)) ≡ true) ⊎ (joins_below marked ports operands j n ≡ true)
          → (joins_below marked ports operands j n ≡ true → (k : ℕ) × (marked k ≡ true) × (port_ref ports operands k ≡ Some (port j)))
          → (k : ℕ) × (marked k ≡ true) × (port_ref ports operands k ≡ Some (port j))
      go (inl both) rest = (
        n,
        and_left (marked n) (is_port j (port_ref ports operands n)) both,
        is_port_some j (port_ref ports operands n) (and_right (marked n) (is_port j (port_ref ports operands n)) both),
      )
      go (inr before) rest = rest before

  some_below : (n k : ℕ) → k < n → marked k ≡ true → port_ref ports operands k ≡ Some (port j) → joins_below marked ports operands j n ≡ true
  some_below zero k below has is = absurd (omega arith)
  some_below (suc n) k below has is = go (grind arith) (λ less. some_below n k less has is)
    where
      go : (k ≡ n) ⊎ (k < n) → (k < n → joins_below marked ports operands j n ≡ true) → joins_below marked ports operands j (suc n) ≡ true
      go (inl same) rest =
          or_left (marked n && is_port j (port_ref ports operands n)) (joins_below marked ports operands j n)
          (and_from (marked n) (is_port j (port_ref ports operands n)) (ap marked (sym same) ∙ has)
          (some_is_port j (port_ref ports operands n) (ap (port_ref ports operands) (sym same) ∙ is)))
      go (inr less) rest =
          or_right (marked n && is_port j (port_ref ports operands n)) (joins_below marked ports operands j n) (rest less)

module _ (d : Design) (marked : Module → ℕ → Bool) (j : ℕ) (o : Op) where
  marked_some : (found : Option Module) → joins_marked marked j o found ≡ true
      → (c : Module) × (k : ℕ) × (found ≡ Some c) × (marked c k ≡ true) × (port_ref c.ports o.operands k ≡ Some (port j))
  marked_some None h = cc
  marked_some (Some c) h = let joined = below_some (marked c) c.ports o.operands j (length c.ports) h in (c, joined.0, refl, joined.1, joined.2)

  unrefused : (x : Option Cause) → not (is_some x) ≡ true → x ≡ None
  unrefused None h = refl
  unrefused (Some x) h = cc

  -- what makes a port a reset port
  pub makes_some : makes_reset d marked j o ≡ true → Names j o ⊎ ((c : Module) × (k : ℕ) × Joins d j o c k × (marked c k ≡ true))
  makes_some h = go (or_cases (names_port j o) (not (is_some (instance_cause d o.types (instance_in o.kind))) && joins_marked marked j o (callee d o)) h)
    where
      go : (names_port j o ≡ true) ⊎ ((not (is_some (instance_cause d o.types (instance_in o.kind))) && joins_marked marked j o (callee d o)) ≡ true)
          → Names j o ⊎ ((c : Module) × (k : ℕ) × Joins d j o c k × (marked c k ≡ true))
      go (inl is) = inl (names_some j o is)
      go (inr both) =
          let allowed = unrefused (instance_cause d o.types (instance_in o.kind))
          (and_left (not (is_some (instance_cause d o.types (instance_in o.kind)))) (joins_marked marked j o (callee d o)) both) in
          let joined = marked_some (callee d o)
          (and_right (not (is_some (instance_cause d o.types (instance_in o.kind)))) (joins_marked marked j o (callee d o)) both) in
          inr (joined.0, joined.1, (joined.2, allowed, joined.4), joined.3)

  pub some_names_makes : Names j o → makes_reset d marked j o ≡ true
  some_names_makes names =
      or_left (names_port j o) (not (is_some (instance_cause d o.types (instance_in o.kind))) && joins_marked marked j o (callee d o)) (some_names j o names)

  pub some_joins_makes : (c : Module) (k : ℕ) → Joins d j o c k → marked c k ≡ true → makes_reset d marked j o ≡ true
  some_joins_makes c k (found, allowed, joined) has =
      or_right (names_port j o) (not (is_some (instance_cause d o.types (instance_in o.kind))) && joins_marked marked j o (callee d o))
      (and_from (not (is_some (instance_cause d o.types (instance_in o.kind)))) (joins_marked marked j o (callee d o))
      (ap (λ x. not (is_some x)) allowed)
      (ap (joins_marked marked j o) found
      ∙ some_below (marked c) c.ports o.operands j (length c.ports) k (port_ref_within c.ports o.operands k (port j) joined) has joined))
