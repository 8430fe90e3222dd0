-- In a design of which nothing is refused asynchronous resets come from input ports, and reset to constants.
use Rattle.std.proofs.Common.{◌≡◌, ℕ, zero, suc, ◌<◌, nat_eq, Bool, true, false, cond, ◌&&◌, is_some, List, [], ◌∷◌, map, length, take, slice_get, Option, Some, None, refl, sym, ap, ap₂, ◌∙◌, arith, eqb-true, option_map}
use Rattle.std.proofs.lemmas.Bool.{eqb-false, not-false}
use Rattle.std.proofs.lemmas.Option.{slice_get_within}
use Rattle.wiring.specs.Wiring.{In}
use Rattle.wiring.proofs.Lists.{slice_get_some}
use Rattle.wiring.proofs.Members.{position_of_In}
use Rattle.wiring.proofs.Options.{and_then_some}
use Rattle.hw_model.specs.Types.{Name, HwType}
use Rattle.hw_model.specs.Types.HwType.{int}
use Rattle.hw_model.specs.Kinds.{Kind, Instance}
use Rattle.hw_model.specs.Kinds.Kind.{async_firreg}
use Rattle.hw_model.specs.Design.{Ref, Port, OpResult, Op, Module, Design, find_module, instance_in, callee}
use Rattle.hw_model.specs.Design.Ref.{port, result, undefined}
use Rattle.hw_model.specs.Flat.{ResetBy, has_async_reset, async_parts, async_reset_in, input_count, operand_for, port_ref}
use Rattle.hw_model.specs.Sound.{input_type, input_types, type_in, Fits, SoundBody}
use Rattle.hw_model.specs.Resets.{IsMarkedInput, IsConstantOf, ResetsFromPorts}
use Rattle.hw_model.proofs.NetWidths.{input_found, typed_at}
use Rattle.type_inference.specs.ResultTypes.{result_count}
use Rattle.linked_lists.proofs.IdLemmas.{below_unless}
use Rattle.port_checks.specs.ResetPorts.{IsBitInput, IsResetPort, port_count, is_reset_port}
use Rattle.port_checks.proofs.Least.{reset_some, is_sound, is_complete}
use Rattle.op_verifier.specs.Faults.{first_fault}
use Rattle.op_verifier.specs.ResetChecks.{is_input_port, is_no_input, is_constant_op, is_constant_ref, has_other_reset, joins_other, has_other_join}
use Rattle.op_verifier.proofs.NoCauseAlone.{no_cause_alone, result_number}
use Rattle.op_verifier.proofs.Unrefused.{NoOpCause, no_op_cause, ops_unrefused, module_unrefused}
use Rattle.op_verifier.proofs.SoundDesigns.{sound_design}
use Rattle.op_verifier.proofs.WholeDesigns.{some_from}
use Rattle.op_checks.proofs.Widths.{neither}
use Rattle.hw_model.specs.Equality.{both_of}

-- ---- values

-- an input port among a module's ports
record IsInput (ports : List Port) (r : Ref) : Type 0 where
  number : ℕ
  is_port : r ≡ port number
  port_of : Port
  there : slice_get ports number ≡ Some port_of
  inward : port_of.is_output ≡ false

input_is : (ports : List Port) (r : Ref) → is_input_port ports r ≡ true → IsInput ports r
input_is ports (port j) h = go (slice_get ports j) refl h
  where
    by_way : (q : Port) → slice_get ports j ≡ Some q → (b : Bool) → q.is_output ≡ b → is_some (cond b None (Some q.type)) ≡ true → IsInput ports (port j)
    by_way q there true way h = cc
    by_way q there false way h = record { number = j; is_port = refl; port_of = q; there = there; inward = way }

    go : (x : Option Port) → slice_get ports j ≡ x → is_some (input_type x) ≡ true → IsInput ports (port j)
    go None there h = cc
    go (Some q) there h = by_way q there q.is_output refl h
input_is ports (result j k) h = cc
input_is ports undefined h = cc

input_typed : (ports : List Port) (os : List Op) (r : Ref) (i : IsInput ports r) → type_in ports os r ≡ Some i.port_of.type
input_typed ports os r i =
    ap (type_in ports os) i.is_port ∙ ap input_type i.there ∙ ap (λ (b : Bool). cond b None (Some i.port_of.type)) i.inward

pub constant_is : (os : List Op) (r : Ref) → is_constant_ref os r ≡ true → IsConstantOf os r
constant_is os (port j) h = cc
constant_is os (result j k) h = go (slice_get os j) refl h
  where
    go : (x : Option Op) → slice_get os j ≡ x → is_constant_op x ≡ true → IsConstantOf os (result j k)
    go None there h = cc
    go (Some o) there h = record { position = j; number = k; is_result = refl; op = o; there = there; is_one = h }
constant_is os undefined h = cc

-- ---- registers

-- what resets a register without its clock is an i1, where its types fit
reset_of_parts : (type_of : Ref → Option HwType) (rs : List Ref) (t : HwType) (r : ResetBy) → async_parts rs ≡ Some r
    → Fits async_firreg [] (map type_of rs) t 0 → type_of r.signal ≡ Some (int 1)
reset_of_parts type_of (d ∷ c ∷ s ∷ v ∷ []) t r is fits =
    let same : s ≡ r.signal = ap (λ (x : ResetBy). x.signal) (some_from is) in
    let typed : type_of s ≡ Some (int 1) = some_from (ap (λ (xs : List (Option HwType)). slice_get xs 2) fits) in
    ap type_of (sym same) ∙ typed
reset_of_parts type_of [] t r is fits = cc
reset_of_parts type_of (d ∷ []) t r is fits = cc
reset_of_parts type_of (d ∷ c ∷ []) t r is fits = cc
reset_of_parts type_of (d ∷ c ∷ s ∷ []) t r is fits = cc
reset_of_parts type_of (d ∷ c ∷ s ∷ v ∷ x ∷ rs) t r is fits = cc

reset_typed : (type_of : Ref → Option HwType) (kind : Kind) (ts : List HwType) (rs : List Ref) (t : HwType) (r : ResetBy)
    → cond (has_async_reset kind) (async_parts rs) None ≡ Some r → Fits kind ts (map type_of rs) t 0 → type_of r.signal ≡ Some (int 1)
reset_typed type_of async_firreg ts rs t r is fits = reset_of_parts type_of rs t r is fits
reset_typed type_of kind ts rs t r is fits = cc

-- such a register has a result
one_result : (kind : Kind) (ts : List HwType) (rs : List Ref) (r : ResetBy) → cond (has_async_reset kind) (async_parts rs) None ≡ Some r → result_count kind ts ≡ 1
unfolding result_count
one_result async_firreg ts rs r is = refl
one_result kind ts rs r is = cc

-- ---- instances

-- no port of an instance's module is joined to another value than an input port, where it is a reset port
joins_input : (resets : ℕ → Bool) (ports : List Port) (joined : ℕ → Option Ref) (n k : ℕ) (q : Ref) → joins_other resets ports joined n ≡ false → k < n
    → resets k ≡ true → joined k ≡ Some q → is_input_port ports q ≡ true
joins_input resets ports joined zero k q none less resets_k joins = absurd (omega (arith, less))
joins_input resets ports joined (suc n) k q none less resets_k joins = go (nat_eq k n) refl (λ below. joins_input resets ports joined n k q both.0 below resets_k joins)
  where
    both : (joins_other resets ports joined n ≡ false) × ((resets n && is_no_input ports (joined n)) ≡ false)
    both = neither (joins_other resets ports joined n) (resets n && is_no_input ports (joined n)) none

    go : (b : Bool) → nat_eq k n ≡ b → (k < n → is_input_port ports q ≡ true) → is_input_port ports q ≡ true
    go true e rest =
        let same : n ≡ k = sym (eqb-true k n e) in
        not-false (is_input_port ports q)
        (ap₂ (λ (b : Bool) (x : Option Ref). b && is_no_input ports x) (sym (ap resets same ∙ resets_k)) (sym (ap joined same ∙ joins)) ∙ both.1)
    go false e rest = rest (below_unless k n (omega (arith, less)) (eqb-false k n e))

-- what an instance joins to an input port of its module, with the type of that
record Joined (c : Module) (type_of : Ref → Option HwType) (operands : List Ref) (k : ℕ) (t : HwType) : Type 0 where
  value : Ref
  joins : port_ref c.ports operands k ≡ Some value
  typed : type_of value ≡ Some t

joined_typed : (c : Module) (type_of : Ref → Option HwType) (operands : List Ref) (k : ℕ) (q : Port)
    → map type_of operands ≡ map (λ (t : HwType). Some t) (input_types c.ports) → slice_get c.ports k ≡ Some q → q.is_output ≡ false → Joined c type_of operands k q.type
joined_typed c type_of operands k q types there inward =
    let found = typed_at type_of operands (input_types c.ports) (input_count (take k c.ports)) q.type types (input_found c.ports k q there inward) in
    record {
      value = found.0;
      joins = ap (λ (x : Option Port). operand_for x operands (input_count (take k c.ports))) there
          ∙ ap (λ (b : Bool). cond b None (slice_get operands (input_count (take k c.ports)))) inward ∙ found.1;
      typed = found.2;
    }

-- ---- the modules of a design

-- an operation of a module's body, which has no cause
record Unrefused (d : Design) (m : Module) (o : Op) : Type 0 where
  position : ℕ
  there : slice_get m.body position ≡ Some o
  last : Bool
  no_cause : NoOpCause d m.ports m.body last o

module _ (d : Design) (no_fault : first_fault d ≡ None) (s : Name) (m : Module) (found : find_module d s ≡ Some m) where
  sound : SoundBody d m.ports m.body
  sound = sound_design d no_fault s m found

  unrefused : (o : Op) → In o m.body → Unrefused d m o
  unrefused o within =
      let at = position_of_In o m.body within in
      let is = ops_unrefused d m.ports m.body m.body (module_unrefused d no_fault s m found).body at.0 o at.1 in
      record { position = at.0; there = at.1; last = is.last; no_cause = no_op_cause d m.ports m.body is.last o is.none }

  -- an i1 input port that is one of the reset ports
  marked_input : (r : Ref) (i : IsInput m.ports r) → i.port_of.type ≡ int 1 → (IsBitInput m i.number → IsResetPort d m i.number) → IsMarkedInput (is_reset_port d) m r
  marked_input r i typed resets = record {
    number = i.number;
    is_port = i.is_port;
    port_of = i.port_of;
    there = i.there;
    is_input = i.inward;
    has_mark = is_complete d m i.number (resets (record { port_there = i.port_of; there = i.there; is_input = i.inward; is_bit = typed }));
  }

  -- the reset of a register that has an asynchronous one is an input port, and its value a constant
  parts_told : (o : Op) (r : ResetBy) → In o m.body → async_reset_in o ≡ Some r → (is_input_port m.ports r.signal ≡ true) × (is_constant_ref m.body r.value ≡ true)
  parts_told o r within is =
      both_of (is_input_port m.ports r.signal) (is_constant_ref m.body r.value)
      (not-false (is_input_port m.ports r.signal && is_constant_ref m.body r.value)
      (ap (has_other_reset m.ports m.body) (sym is) ∙ (unrefused o within).no_cause.reset))

  signal_typed : (o : Op) (r : ResetBy) → In o m.body → async_reset_in o ≡ Some r → type_in m.ports m.body r.signal ≡ Some (int 1)
  signal_typed o r within is =
      let u = unrefused o within in
      let count : length o.results ≡ 1 = result_number m.ports m.body o (no_cause_alone m.ports m.body o u.no_cause.alone) ∙ one_result o.kind o.types o.operands r is in
      let first = slice_get_some o.results 0 (omega (arith, count)) in
      reset_typed (type_in m.ports m.body) o.kind o.types o.operands first.0.type r is
      (sound.ops u.position o u.there 0 first.0.type (ap (option_map (λ (x : OpResult). x.type)) first.1))

  signals : (o : Op) (r : ResetBy) → In o m.body → async_reset_in o ≡ Some r → IsMarkedInput (is_reset_port d) m r.signal
  signals o r within is =
      let i = input_is m.ports r.signal (parts_told o r within is).0 in
      marked_input r.signal i (some_from (sym (input_typed m.ports m.body r.signal i) ∙ signal_typed o r within is))
      (λ bit. IsResetPort.named m i.number o r bit within is i.is_port)

  values : (o : Op) (r : ResetBy) → In o m.body → async_reset_in o ≡ Some r → IsConstantOf m.body r.value
  values o r within is = constant_is m.body r.value (parts_told o r within is).1

  joined : (o : Op) (c : Module) (r : Ref) → In o m.body → callee d o ≡ Some c → (given : IsMarkedInput (is_reset_port d) c r)
      → (q : Ref) × (port_ref c.ports o.operands given.number ≡ Some q) × IsMarkedInput (is_reset_port d) m q
  joined o c r within called given =
      let u = unrefused o within in
      let inst = and_then_some (instance_in o.kind) (λ (i : Instance). find_module d i.symbol) called in
      let fits = sound.instances u.position o u.there inst.0 inst.1 in
      let same : fits.0 ≡ c = some_from (sym fits.1 ∙ inst.2) in
      let types : map (type_in m.ports m.body) o.operands ≡ map (λ (t : HwType). Some t) (input_types c.ports) =
      fits.2 ∙ ap (λ (x : Module). map (λ (t : HwType). Some t) (input_types x.ports)) same in
      let join = joined_typed c (type_in m.ports m.body) o.operands given.number given.port_of types given.there given.is_input in
      let no_other : joins_other (is_reset_port d c) m.ports (port_ref c.ports o.operands) (length c.ports) ≡ false =
      ap (has_other_join d m.ports o.operands) (sym called) ∙ u.no_cause.join in
      let i = input_is m.ports join.value
      (joins_input (is_reset_port d c) m.ports (port_ref c.ports o.operands) (length c.ports) given.number join.value no_other
      (slice_get_within c.ports given.number given.port_of given.there) given.has_mark join.joins) in
      let bit = (reset_some d (port_count d) c given.number given.has_mark).1 in
      let typed : i.port_of.type ≡ int 1 =
      some_from (sym (input_typed m.ports m.body join.value i) ∙ join.typed) ∙ ap (λ (q : Port). q.type) (some_from (sym given.there ∙ bit.there)) ∙ bit.is_bit in (
        join.value,
        join.joins,
        marked_input join.value i typed
            (λ bit. IsResetPort.joined m i.number o c given.number bit within called u.no_cause.called (is_sound d c given.number given.has_mark) (join.joins ∙ ap Some i.is_port)),
      )

pub resets_from_ports : (d : Design) → first_fault d ≡ None → ResetsFromPorts d (is_reset_port d)
resets_from_ports d no_fault = record {
  signals = λ s m o r found. signals d no_fault s m found o r;
  values = λ s m o r found. values d no_fault s m found o r;
  joined = λ s m o c r found. joined d no_fault s m found o c r;
}
