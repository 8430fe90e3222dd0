-- Which pairs the instances of a design join, and which ports its registers name.
use Rattle.std.proofs.Common.{◌≡◌, ◌⊎◌, ◌<◌, ℕ, zero, suc, ◌+◌, Bool, true, false, cond, List, [], length, map, slice_get, Option, Some, None, is_some, refl, sym, ap, subst, ◌∙◌, inl, inr, arith, option_and_then, option_map}
use Rattle.wiring.specs.Wiring.{In}
use Rattle.wiring.proofs.Members.{In-append_left, In-append_right, In-append_cases, In-flat_map, from_In-flat_map}
use Rattle.wiring.proofs.Options.{and_then_some, option_map_some}
use Rattle.hw_model.specs.Kinds.{Instance}
use Rattle.hw_model.specs.Design.{Ref, Port, Op, Module, Design, find_module, instance_in}
use Rattle.hw_model.specs.Design.Ref.{port, result, undefined}
use Rattle.hw_model.specs.Flat.{ResetBy, async_reset_in, port_ref}
use Rattle.hw_model.specs.Sound.{ports_of}
use Rattle.ir_store.specs.Symbols.{symbol_position}
use Rattle.diag.specs.declared.cause.Cause.{Cause}
use Rattle.port_checks.specs.declared.named.PortPosition.{PortPosition}
use Rattle.port_checks.specs.InstanceChecks.{instance_cause}
use Rattle.port_checks.specs.ResetPorts.{IsBitInput, is_bit_input}
use Rattle.port_checks.specs.Pairs.{Pair, pair_of}
use Rattle.port_checks.specs.Numbers.{port_number}
use Rattle.port_checks.specs.Joins.{bit_port, named_port, position_at, position_of, named_in, operand_pairs, found_pairs, called_pairs, instance_pairs, pairs_in, made_from}
use Rattle.port_checks.proofs.Pairs.{pair_some, some_pair}
use Rattle.port_checks.proofs.ResetTests.{Names, Joins, bit_input_some, some_bit_input, port_ref_within}
use Rattle.port_checks.proofs.Symbols.{module_position}
use Rattle.port_checks.proofs.Making.{made_some, some_made}

-- ---- a port that a value is

pub bit_port_some : (m : Module) (r : Option Ref) (j : ℕ) → bit_port m.ports r ≡ Some j → (r ≡ Some (port j)) × IsBitInput m j
bit_port_some m (Some (port k)) j is = go (is_bit_input (slice_get m.ports k)) refl is
  where
    go : (b : Bool) → is_bit_input (slice_get m.ports k) ≡ b → cond b (Some k) None ≡ Some j → (Some (port k) ≡ Some (port j)) × IsBitInput m j
    go true e told =
        let same : k ≡ j = cc in
        (ap (λ n. Some (port n)) same, bit_input_some m j (ap (λ n. is_bit_input (slice_get m.ports n)) (sym same) ∙ e))
    go false e told = cc
bit_port_some m (Some (result a b)) j is = cc
bit_port_some m (Some undefined) j is = cc
bit_port_some m None j is = cc

pub some_bit_port : (m : Module) (r : Option Ref) (j : ℕ) → r ≡ Some (port j) → IsBitInput m j → bit_port m.ports r ≡ Some j
some_bit_port m r j is bit = ap (bit_port m.ports) is ∙ ap (λ b. cond b (Some j) None) (some_bit_input m j bit)

-- ---- what registers name

-- port j of module i is an i1 input that a register of the module names
pub record IsNamed (d : Design) (i j : ℕ) : Type 0 where
  pub owner : Module
  pub op : Op
  pub there : slice_get d i ≡ Some owner
  pub member : In op owner.body
  pub names : Names j op
  pub is_bit : IsBitInput owner j

in_place : (i : ℕ) (x : Option ℕ) (p : PortPosition) → In p (position_of i x) → (x ≡ Some p.port) × (p.owner ≡ i)
in_place i None p here = absurd here
in_place i (Some j) p (inl same) = (ap (λ (q : PortPosition). Some q.port) (sym same), ap (λ (q : PortPosition). q.owner) same)
in_place i (Some j) p (inr never) = absurd never

pub named_some : (d : Design) (p : PortPosition) → In p (made_from named_in 0 d) → IsNamed d p.owner p.port
named_some d p here =
    let found = made_some named_in 0 d p here in
    let op = from_In-flat_map (λ (o : Op). position_of (0 + found.0) (named_port found.1.ports o)) p found.1.body found.3 in
    let position = in_place (0 + found.0) (named_port found.1.ports op.0) p op.2 in
    let bit = bit_port_some found.1 (option_map (λ (r : ResetBy). r.signal) (async_reset_in op.0)) p.port position.0 in
    let number : p.owner ≡ found.0 = position.1 ∙ (let e : 0 + found.0 ≡ found.0 = omega arith in e) in
    record {
      owner = found.1;
      op = op.0;
      there = ap (slice_get d) number ∙ found.2;
      member = op.1;
      names = option_map_some (λ (r : ResetBy). r.signal) (async_reset_in op.0) bit.0;
      is_bit = bit.1;
    }

pub some_named : (d : Design) (i j : ℕ) → IsNamed d i j → In (position_at i j) (made_from named_in 0 d)
some_named d i j is =
    some_made named_in 0 d (position_at i j) i i is.owner (let e : i ≡ 0 + i = omega arith in e) is.there
    (In-flat_map (λ (o : Op). position_of i (named_port is.owner.ports o)) is.op is.owner.body (position_at i j) is.member
    (subst (λ x. In (position_at i j) (position_of i x)) (sym port_is) (inl refl)))
  where
    port_is : named_port is.owner.ports is.op ≡ Some j
    port_is =
        some_bit_port is.owner (option_map (λ (r : ResetBy). r.signal) (async_reset_in is.op)) j
        (ap (option_map (λ (r : ResetBy). r.signal)) is.names.1 ∙ ap Some is.names.2) is.is_bit

-- ---- what instances join

-- an instance of module i joins its i1 input j to port k of module c
pub record IsJoined (d : Design) (i j c k : ℕ) : Type 0 where
  pub owner : Module
  pub op : Op
  pub named : Instance
  pub called : Module
  pub there : slice_get d i ≡ Some owner
  pub member : In op owner.body
  pub is_instance : instance_in op.kind ≡ Some named
  pub position : symbol_position named.symbol (map (λ (m : Module). m.symbol) d) ≡ Some c
  pub called_there : slice_get d c ≡ Some called
  pub allowed : instance_cause d op.types (instance_in op.kind) ≡ None
  pub is_port : port_ref called.ports op.operands k ≡ Some (port j)
  pub is_bit : IsBitInput owner j

pub joins_by : (d : Design) (i j c k : ℕ) (is : IsJoined d i j c k) → Joins d j is.op is.called k
joins_by d i j c k is = (
  ap (λ x. option_and_then (λ (y : Instance). find_module d y.symbol) x) is.is_instance
      ∙ sym (module_position is.named.symbol d) ∙ ap (λ x. option_and_then (slice_get d) x) is.position ∙ is.called_there,
  is.allowed,
  is.is_port,
)

-- a pair is that of two such ports, by their numbers
pub record IsPairOf (d : Design) (starts : List ℕ) (p : Pair) : Type 0 where
  pub i : ℕ
  pub j : ℕ
  pub c : ℕ
  pub k : ℕ
  pub is_joined : IsJoined d i j c k
  pub to_is : port_number starts c k ≡ Some p.to
  pub port_is : port_number starts i j ≡ Some p.port

module _ (d : Design) (starts : List ℕ) where
  -- one of the pairs of the first ports
  operands_some : (called : ℕ) (ports : List Port) (i : ℕ) (m : Module) (operands : List Ref) (n : ℕ) (p : Pair) → In p (operand_pairs starts called ports i m.ports operands n)
      → (k j : ℕ) × (port_number starts called k ≡ Some p.to) × (bit_port m.ports (port_ref ports operands k) ≡ Some j) × (port_number starts i j ≡ Some p.port)
  operands_some called ports i m operands zero p here = absurd here
  operands_some called ports i m operands (suc n) p here =
      go (In-append_cases p (operand_pairs starts called ports i m.ports operands n)
      (pair_of (port_number starts called n) (option_and_then (port_number starts i) (bit_port m.ports (port_ref ports operands n)))) here) (operands_some called ports i m operands n p)
    where
      go : In p (operand_pairs starts called ports i m.ports operands n)
          ⊎ In p (pair_of (port_number starts called n) (option_and_then (port_number starts i) (bit_port m.ports (port_ref ports operands n))))
          → (In p (operand_pairs starts called ports i m.ports operands n)
          → (k j : ℕ) × (port_number starts called k ≡ Some p.to) × (bit_port m.ports (port_ref ports operands k) ≡ Some j) × (port_number starts i j ≡ Some p.port))
          → (k j : ℕ) × (port_number starts called k ≡ Some p.to) × (bit_port m.ports (port_ref ports operands k) ≡ Some j) × (port_number starts i j ≡ Some p.port)
      go (inl before) rest = rest before
      go (inr last) rest =
          let both = pair_some (port_number starts called n) (option_and_then (port_number starts i) (bit_port m.ports (port_ref ports operands n))) p last in
          let found = and_then_some (bit_port m.ports (port_ref ports operands n)) (port_number starts i) both.1 in
          (n, found.0, both.0, found.1, found.2)

  some_operands : (called : ℕ) (ports : List Port) (i : ℕ) (m : Module) (operands : List Ref) (n k : ℕ) (p : Pair) → k < n
      → In p (pair_of (port_number starts called k) (option_and_then (port_number starts i) (bit_port m.ports (port_ref ports operands k))))
      → In p (operand_pairs starts called ports i m.ports operands n)
  some_operands called ports i m operands zero k p below here = absurd (omega arith)
  some_operands called ports i m operands (suc n) k p below here = go (grind arith) (λ less. some_operands called ports i m operands n k p less here)
    where
      go : (k ≡ n) ⊎ (k < n) → (k < n → In p (operand_pairs starts called ports i m.ports operands n)) → In p (operand_pairs starts called ports i m.ports operands (suc n))
      go (inl same) rest =
          In-append_right p (operand_pairs starts called ports i m.ports operands n)
          (pair_of (port_number starts called n) (option_and_then (port_number starts i) (bit_port m.ports (port_ref ports operands n))))
          (subst (λ x. In p (pair_of (port_number starts called x) (option_and_then (port_number starts i) (bit_port m.ports (port_ref ports operands x))))) same here)
      go (inr less) rest =
          In-append_left p (operand_pairs starts called ports i m.ports operands n)
          (pair_of (port_number starts called n) (option_and_then (port_number starts i) (bit_port m.ports (port_ref ports operands n)))) (rest less)

  -- one of the pairs of an operation
  instance_some : (i : ℕ) (m : Module) (o : Op) (p : Pair) → slice_get d i ≡ Some m → In o m.body → In p (instance_pairs d starts i m.ports o) → IsPairOf d starts p
  instance_some i m o p there member here = by_cause (instance_cause d o.types (instance_in o.kind)) refl here
    where
      by_position : (x : Instance) → instance_in o.kind ≡ Some x → instance_cause d o.types (instance_in o.kind) ≡ None
          → (c : Option ℕ) → symbol_position x.symbol (map (λ (y : Module). y.symbol) d) ≡ c → In p (found_pairs d starts i m.ports o.operands c) → IsPairOf d starts p
      by_position x is allowed None position inside = absurd inside
      by_position x is allowed (Some c) position inside = by_module (slice_get d c) refl inside
        where
          by_module : (y : Option Module) → slice_get d c ≡ y
              → In p (operand_pairs starts c (ports_of y) i m.ports o.operands (length (ports_of y))) → IsPairOf d starts p
          by_module None gone within = absurd within
          by_module (Some called) at within =
              let found = operands_some c called.ports i m o.operands (length called.ports) p within in
              let bit = bit_port_some m (port_ref called.ports o.operands found.0) found.1 found.3 in
              record {
                i = i;
                j = found.1;
                c = c;
                k = found.0;
                is_joined = record {
                  owner = m;
                  op = o;
                  named = x;
                  called = called;
                  there = there;
                  member = member;
                  is_instance = is;
                  position = position;
                  called_there = at;
                  allowed = allowed;
                  is_port = bit.0;
                  is_bit = bit.1;
                };
                to_is = found.2;
                port_is = found.4;
              }

      by_kind : (x : Option Instance) → instance_in o.kind ≡ x → instance_cause d o.types (instance_in o.kind) ≡ None
          → In p (called_pairs d starts i m.ports o.operands x) → IsPairOf d starts p
      by_kind None is allowed inside = absurd inside
      by_kind (Some x) is allowed inside = by_position x is allowed (symbol_position x.symbol (map (λ (y : Module). y.symbol) d)) refl inside

      by_cause : (x : Option Cause) → instance_cause d o.types (instance_in o.kind) ≡ x
          → In p (cond (is_some x) [] (called_pairs d starts i m.ports o.operands (instance_in o.kind))) → IsPairOf d starts p
      by_cause None e inside = by_kind (instance_in o.kind) refl e inside
      by_cause (Some x) e inside = absurd inside

  some_instance : (i j c k : ℕ) (is : IsJoined d i j c k) (p : Pair) → port_number starts c k ≡ Some p.to → port_number starts i j ≡ Some p.port
      → In p (instance_pairs d starts i is.owner.ports is.op)
  some_instance i j c k is p to_is port_is =
      subst (λ x. In p (cond (is_some x) [] (called_pairs d starts i is.owner.ports is.op.operands (instance_in is.op.kind)))) (sym is.allowed)
      (subst (λ x. In p (called_pairs d starts i is.owner.ports is.op.operands x)) (sym is.is_instance)
      (subst (λ x. In p (found_pairs d starts i is.owner.ports is.op.operands x)) (sym is.position) inside))
    where
      bit : bit_port is.owner.ports (port_ref is.called.ports is.op.operands k) ≡ Some j
      bit = some_bit_port is.owner (port_ref is.called.ports is.op.operands k) j is.is_port is.is_bit

      pair : In p (pair_of (port_number starts c k) (option_and_then (port_number starts i) (bit_port is.owner.ports (port_ref is.called.ports is.op.operands k))))
      pair =
          some_pair (port_number starts c k) (option_and_then (port_number starts i) (bit_port is.owner.ports (port_ref is.called.ports is.op.operands k))) p.to p.port to_is
          (ap (λ x. option_and_then (port_number starts i) x) bit ∙ port_is)

      inside : In p (found_pairs d starts i is.owner.ports is.op.operands (Some c))
      inside =
          subst (λ y. In p (operand_pairs starts c (ports_of y) i is.owner.ports is.op.operands (length (ports_of y)))) (sym is.called_there)
          (some_operands c is.called.ports i is.owner is.op.operands (length is.called.ports) k p (port_ref_within is.called.ports is.op.operands k (port j) is.is_port) pair)

  pub pairs_some : (p : Pair) → In p (made_from (pairs_in d starts) 0 d) → IsPairOf d starts p
  pairs_some p here =
      let found = made_some (pairs_in d starts) 0 d p here in
      let op = from_In-flat_map (instance_pairs d starts (0 + found.0) found.1.ports) p found.1.body found.3 in
      let e : 0 + found.0 ≡ found.0 = omega arith in
      instance_some found.0 found.1 op.0 p found.2 op.1 (subst (λ n. In p (instance_pairs d starts n found.1.ports op.0)) e op.2)

  pub some_pairs : (i j c k : ℕ) → IsJoined d i j c k → (p : Pair) → port_number starts c k ≡ Some p.to → port_number starts i j ≡ Some p.port
      → In p (made_from (pairs_in d starts) 0 d)
  some_pairs i j c k is p to_is port_is =
      some_made (pairs_in d starts) 0 d p i i is.owner (let e : i ≡ 0 + i = omega arith in e) is.there
      (In-flat_map (instance_pairs d starts i is.owner.ports) is.op is.owner.body p is.member (some_instance i j c k is p to_is port_is))
