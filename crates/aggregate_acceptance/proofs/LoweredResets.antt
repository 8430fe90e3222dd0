-- Asynchronous resets of a lowered design come from the leaves of reset ports.
use Rattle.std.proofs.Common.{◌≡◌, ℕ, suc, ◌+◌, ◌-◌, ◌<◌, Bool, true, false, cond, nat_lt, List, [], ◌∷◌, ◌++◌, map, take, length, flat_map, Option, Some, None, is_some, slice_get, refl, sym, ap, ap₂}
use Rattle.std.proofs.Common.{subst, ◌∙◌, inl, inr, arith, add-zero, option_and_then, option_map}
use Rattle.std.proofs.lemmas.List.{length-map}
use Rattle.std.proofs.lemmas.Option.{slice_get-map, slice_get_within}
use Rattle.wiring.specs.Wiring.{In}
use Rattle.wiring.proofs.Members.{position_of_In, In-slice_get, In-map}
use Rattle.wiring.proofs.Options.{and_then_some, option_map_some}
use Rattle.hw_model.specs.Types.{Name, HwType, leaves}
use Rattle.hw_model.specs.Types.HwType.{int, clock}
use Rattle.hw_model.specs.Kinds.{Kind, Instance}
use Rattle.hw_model.specs.Kinds.Reset.{sync_reset}
use Rattle.hw_model.specs.Kinds.Kind.{async_firreg}
use Rattle.hw_model.specs.Design.{Ref, Port, Op, Module, RegisterForm, find_module, instance_in, register_form, is_instance, result_type, callee}
use Rattle.hw_model.specs.Design.Ref.{port}
use Rattle.hw_model.specs.Flat.{ResetBy, has_async_reset, async_parts, async_reset_in, input_count, operand_for, port_ref}
use Rattle.hw_model.specs.Resets.{IsMarkedInput, IsConstantOf, ResetsFromPorts}
use Rattle.hw_model.specs.Sound.{input_types, Fits}
use Rattle.hw_model.proofs.NetWidths.{input_found}
use Rattle.edit_laws.specs.Edit.{is_anchor}
use Rattle.edit_laws.proofs.ResetsKept.{find_symbol}
use Rattle.port_checks.specs.ResetPorts.{IsBitInput, port_count, is_reset_port}
use Rattle.port_checks.proofs.Least.{reset_some, found_module}
use Rattle.op_verifier.proofs.InputResets.{constant_is, resets_from_ports}
use Rattle.op_verifier.proofs.WholeDesigns.{some_from}
use Rattle.acceptance_laws.proofs.Resets.{constant_told}
use Rattle.aggregate_laws.specs.Leaves.{in_row, part, bare_port, leaf_port, leaf_ports, leaf_start, parts_of_port, bare_kind, bare_op, leaf_operands, leaf_registers, leaves_of, spread, lower_anchor}
use Rattle.aggregate_laws.specs.Rules.{begin, lowered_module}
use Rattle.aggregate_laws.proofs.Lists.{flat_map_position}
use Rattle.aggregate_laws.proofs.Bare.{called_symbol, async_bare, instance_bare, callee_by_symbol, is_instance_bare, port_ref_bare}
use Rattle.aggregate_laws.proofs.Anchors.{register_apart, from_leaf_register, by_form}
use Rattle.aggregate_laws.proofs.Instances.{typed_here, typed_length, instance_anchor}
use Rattle.aggregate_laws.proofs.Muxes.{part_there, typed_size}
use Rattle.aggregate_laws.proofs.Owners.{owner, owner_at, starts}
use Rattle.aggregate_laws.proofs.Paths.{called_same}
use Rattle.aggregate_laws.proofs.Ports.{leaf_port_at, port_ref_leaf}
use Rattle.aggregate_laws.proofs.Registers.{single}
use Rattle.aggregate_laws.proofs.Types.{called_instance}
use Rattle.aggregate_laws.proofs.Blocks.{block_by}
use Rattle.aggregate_laws.proofs.Bodies.{register_anchor}
use Rattle.aggregate_acceptance.specs.Marks.{port_of_leaf, has_leaf_mark, leaf_marks}
use Rattle.aggregate_laws.proofs.Designs.{find_lowered}
use Rattle.aggregate_acceptance.proofs.LoweredModules.{Lowering, rules_of, lowered, parts_in, new_ports, new_body, old_type, new_type, m_sound, splits_at, parts_typed_at, block_of}
use Rattle.aggregate_acceptance.proofs.LoweredConstants.{constant_kept}

-- ---- kinds

async_form : (kind : Kind) → has_async_reset kind ≡ true → register_form kind ≡ Some (record { has_enable = false; reset = sync_reset })
async_form async_firreg is = refl
async_form _ is = cc

async_kind : (kind : Kind) → has_async_reset kind ≡ true → kind ≡ async_firreg
async_kind async_firreg is = refl
async_kind _ is = cc

not_formless : (kind : Kind) → register_form kind ≡ None → has_async_reset kind ≡ true → ⊥
not_formless async_firreg none is = cc
not_formless _ none is = cc

chosen_some : {A : Type 0} (b : Bool) (x : Option A) (y : A) → cond b x None ≡ Some y → (b ≡ true) × (x ≡ Some y)
chosen_some true x y is = (refl, is)
chosen_some false x y is = cc

four_operands : (f : Ref → Option HwType) (rs : List Ref) (x y z w : Option HwType) → map f rs ≡ x ∷ y ∷ z ∷ w ∷ []
    → (a : Ref) × (b : Ref) × (c : Ref) × (e : Ref) × (rs ≡ a ∷ b ∷ c ∷ e ∷ []) × (f a ≡ x) × (f b ≡ y) × (f c ≡ z) × (f e ≡ w)
four_operands f [] x y z w is = cc
four_operands f (a ∷ []) x y z w is = cc
four_operands f (a ∷ b ∷ []) x y z w is = cc
four_operands f (a ∷ b ∷ c ∷ []) x y z w is = cc
four_operands f (a ∷ b ∷ c ∷ e ∷ []) x y z w is = (a, b, c, e, refl, cc, cc, cc, cc)
four_operands f (a ∷ b ∷ c ∷ e ∷ g ∷ rs) x y z w is = cc

-- ---- ports and their leaves

leaf_owner : (ps : List Port) (n : ℕ) → port_of_leaf ps n ≡ owner (map (λ (q : Port). length (leaf_ports q)) ps) n
leaf_owner [] n = refl
leaf_owner (q ∷ ps) n = ap (λ k. cond (nat_lt n (length (leaf_ports q))) 0 (suc k)) (leaf_owner ps (n - length (leaf_ports q)))

-- a leaf is of its port
leaf_is_of : (ps : List Port) (j i : ℕ) (q : Port) → slice_get ps j ≡ Some q → i < length (leaf_ports q) → port_of_leaf ps (leaf_start ps j + i) ≡ j
leaf_is_of ps j i q there below =
    leaf_owner ps (leaf_start ps j + i) ∙ ap (λ n. owner (map (λ (x : Port). length (leaf_ports x)) ps) (n + i)) (starts leaf_ports ps j)
    ∙ owner_at (map (λ (x : Port). length (leaf_ports x)) ps) j i (length (leaf_ports q))
    (slice_get-map (λ (x : Port). length (leaf_ports x)) ps j ∙ ap (option_map (λ (x : Port). length (leaf_ports x))) there) below

only_zero : (i n : ℕ) → i < n → n ≡ 1 → i ≡ 0
only_zero i n below one = omega arith

some_of_one : (n : ℕ) → n ≡ 1 → 0 < n
some_of_one n one = omega arith

-- of an i1 there is one
one_leaf : (q : Port) → q.type ≡ int 1 → length (leaf_ports q) ≡ 1
one_leaf q bit = length-map (leaves q.type) (leaf_port q.is_output) ∙ ap (λ t. length (leaves t)) bit

-- ---- operations that are made

-- a register that is made for a leaf of one with an asynchronous reset
record IsLeafRegister (parts : Ref → List Ref) (o x : Op) : Type 0 where
  kind : o.kind ≡ async_firreg
  number : ℕ
  type : HwType
  leaf : slice_get (leaves_of (result_type o 0)) number ≡ Some type
  operands : x.operands ≡ leaf_operands false sync_reset (map parts o.operands) number

module _ (S : Lowering) (k : ℕ) (m : Module) (at : slice_get S.d k ≡ Some m) where
  module _ (j : ℕ) (o : Op) (is : slice_get m.body j ≡ Some o) (x : Op)
      (here : In x (block_by (rules_of S) (parts_in S m) (begin (rules_of S) m.body j) o)) where
    -- it comes from such an operation where it is a register, an instance or an output
    anchored : is_anchor x ≡ true → is_anchor o ≡ true
    anchored anchor = go (is_anchor o) refl
      where
        go : (b : Bool) → is_anchor o ≡ b → is_anchor o ≡ true
        go true own = own
        go false own =
            let clash : true ≡ false = sym anchor ∙ (splits_at S k m at o (In-slice_get o m.body j is)).shape.plain own (begin (rules_of S) m.body j) x here in cc

    among : is_anchor x ≡ true → In (bare_op x) (lower_anchor (parts_in S m) o)
    among anchor =
        subst (In (bare_op x)) ((splits_at S k m at o (In-slice_get o m.body j is)).shape.anchor (anchored anchor) (begin (rules_of S) m.body j))
        (In-map bare_op x (block_by (rules_of S) (parts_in S m) (begin (rules_of S) m.body j) o) here)

    -- what is made of the same kind
    async_alike : has_async_reset x.kind ≡ true → (K : Kind) → has_async_reset (bare_op x).kind ≡ has_async_reset (bare_kind K) → has_async_reset K ≡ true
    async_alike own K same = sym (async_bare K) ∙ sym same ∙ async_bare x.kind ∙ own

    leaf_register : has_async_reset x.kind ≡ true → IsLeafRegister (parts_in S m) o x
    leaf_register own =
        by_form (parts_in S m) (λ xs. In (bare_op x) xs → IsLeafRegister (parts_in S m) o x) o
        (λ f form there.
        let spot = position_of_In (bare_op x) (leaf_registers (bare_kind o.kind) (leaf_operands f.has_enable f.reset (map (parts_in S m) o.operands)) 0 (leaves_of (result_type o 0))) there in
        let leaf = from_leaf_register (bare_kind o.kind) (leaf_operands f.has_enable f.reset (map (parts_in S m) o.operands)) (leaves_of (result_type o 0)) 0 spot.0 (bare_op x) spot.1 in
        let reset = async_alike own o.kind (ap (λ (y : Op). has_async_reset y.kind) leaf.2) in
        let forms : Some f ≡ Some (record { has_enable = false; reset = sync_reset }) = sym form ∙ async_form o.kind reset in
        let same : f ≡ record { has_enable = false; reset = sync_reset } = some_from forms in
        let position : 0 + spot.0 ≡ spot.0 = omega arith in
        record {
          kind = async_kind o.kind reset;
          number = spot.0;
          type = leaf.0;
          leaf = leaf.1;
          operands = ap (λ (y : Op). y.operands) leaf.2
              ∙ ap₂ (λ (g : RegisterForm) n. leaf_operands g.has_enable g.reset (map (parts_in S m) o.operands) n) same position;
        })
        (λ none there. spread_case none there)
        (among (register_anchor x (record { has_enable = false; reset = sync_reset }) (async_form x.kind own)))
      where
        spread_case : register_form o.kind ≡ None → In (bare_op x) (spread (parts_in S m) o ∷ []) → IsLeafRegister (parts_in S m) o x
        spread_case none (inr never) = absurd never
        spread_case none (inl same) =
            absurd (not_formless o.kind none (async_alike own o.kind (ap (λ (y : Op). has_async_reset y.kind) same)))

    -- an instance is made of one
    pub instance_alike : (i : Instance) → instance_in x.kind ≡ Some i → bare_op x ≡ spread (parts_in S m) o
    instance_alike i inst =
        by_form (parts_in S m) (λ xs. In (bare_op x) xs → bare_op x ≡ spread (parts_in S m) o) o
        (λ f form there.
        let spot = position_of_In (bare_op x) (leaf_registers (bare_kind o.kind) (leaf_operands f.has_enable f.reset (map (parts_in S m) o.operands)) 0 (leaves_of (result_type o 0))) there in
        let leaf = from_leaf_register (bare_kind o.kind) (leaf_operands f.has_enable f.reset (map (parts_in S m) o.operands)) (leaves_of (result_type o 0)) 0 spot.0 (bare_op x) spot.1 in
        let clash : true ≡ false = sym (is_instance_bare x ∙ ap is_some inst) ∙ ap is_instance leaf.2 ∙ instance_bare o.kind ∙ ap is_some (register_apart o.kind f form).0 in
        cc)
        (λ none there. spread_case there)
        (among (instance_anchor x i inst))
      where
        spread_case : In (bare_op x) (spread (parts_in S m) o ∷ []) → bare_op x ≡ spread (parts_in S m) o
        spread_case (inl same) = same
        spread_case (inr never) = absurd never

  -- ---- marked ports

  -- an input of one bit has one leaf
  part_port : (j : ℕ) (q : Port) → slice_get m.ports j ≡ Some q → q.is_output ≡ false → q.type ≡ int 1 → parts_in S m (port j) ≡ port (leaf_start m.ports j) ∷ []
  part_port j q there inward bit =
      ap (λ x. parts_of_port (leaf_start m.ports j) x) there ∙ ap (λ b. cond b [] (in_row port (leaf_start m.ports j) (length (leaves q.type)))) inward
      ∙ ap (λ t. in_row port (leaf_start m.ports j) (length (leaves t))) bit

  bit_of : (j : ℕ) → is_reset_port S.d m j ≡ true → IsBitInput m j
  bit_of j has = (reset_some S.d (port_count S.d) m j has).1

  -- what stands for a marked input is one
  part_marked : find_module S.d m.symbol ≡ Some m → (r : Ref) → (given : IsMarkedInput (is_reset_port S.d) m r)
      → (parts_in S m r ≡ port (leaf_start m.ports given.number) ∷ [])
      × IsMarkedInput (leaf_marks S.d (is_reset_port S.d)) (lowered_module (rules_of S) m) (port (leaf_start m.ports given.number))
  part_marked found r given = (ap (parts_in S m) given.is_port ∙ part_port given.number q bit.there bit.is_input bit.is_bit, marked)
    where
      bit : IsBitInput m given.number
      bit = bit_of given.number given.has_mark

      q : Port
      q = bit.port_there

      leaf : slice_get (flat_map leaf_ports m.ports) (leaf_start m.ports given.number) ≡ Some (leaf_port q.is_output (int 1))
      leaf =
          ap (slice_get (flat_map leaf_ports m.ports)) (sym (add-zero (leaf_start m.ports given.number)))
          ∙ leaf_port_at m.ports given.number q bit.there 0 (int 1) (ap (λ t. slice_get (leaves t) 0) bit.is_bit)

      there : (p : Port) × (slice_get (new_ports S m) (leaf_start m.ports given.number) ≡ Some p) × (bare_port p ≡ leaf_port q.is_output (int 1))
      there =
          option_map_some bare_port (slice_get (new_ports S m) (leaf_start m.ports given.number))
          (sym (slice_get-map bare_port (new_ports S m) (leaf_start m.ports given.number)) ∙ ap (λ ps. slice_get ps (leaf_start m.ports given.number)) (S.ports.leaves_are m.ports) ∙ leaf)

      own : port_of_leaf m.ports (leaf_start m.ports given.number) ≡ given.number
      own =
          ap (port_of_leaf m.ports) (sym (add-zero (leaf_start m.ports given.number)))
          ∙ leaf_is_of m.ports given.number 0 q bit.there (some_of_one (length (leaf_ports q)) (one_leaf q bit.is_bit))

      marked : IsMarkedInput (leaf_marks S.d (is_reset_port S.d)) (lowered_module (rules_of S) m) (port (leaf_start m.ports given.number))
      marked = record {
        number = leaf_start m.ports given.number;
        is_port = refl;
        port_of = there.0;
        there = there.1;
        is_input = ap (λ (p : Port). p.is_output) there.2 ∙ bit.is_input;
        has_mark = ap (has_leaf_mark (is_reset_port S.d) (leaf_start m.ports given.number)) found ∙ ap (is_reset_port S.d m) own ∙ given.has_mark;
      }

  -- ---- registers

  resets : ResetsFromPorts S.d (is_reset_port S.d)
  resets = resets_from_ports S.d S.fit.unrefused

  module _ (found : find_module S.d m.symbol ≡ Some m) (x : Op) (here : In x (new_body S m)) where
    spot : (n : ℕ) × (slice_get (new_body S m) n ≡ Some x)
    spot = position_of_In x (new_body S m) here

    from : (j : ℕ) × (o : Op) × (i : ℕ) × (slice_get m.body j ≡ Some o)
        × (slice_get (block_by (rules_of S) (parts_in S m) (begin (rules_of S) m.body j) o) i ≡ Some x) × (spot.0 ≡ begin (rules_of S) m.body j + i)
    from = block_of S k m at spot.0 x spot.1

    abbrev o : Op
    o = from.1

    o_there : In o m.body
    o_there = In-slice_get from.1 m.body from.0 from.3

    in_block : In x (block_by (rules_of S) (parts_in S m) (begin (rules_of S) m.body from.0) o)
    in_block = In-slice_get x (block_by (rules_of S) (parts_in S m) (begin (rules_of S) m.body from.0) from.1) from.2 from.4

    -- the reset of a register comes from the one that it is a leaf of
    reset_lowered : (r : ResetBy) → async_reset_in x ≡ Some r
        → IsMarkedInput (leaf_marks S.d (is_reset_port S.d)) (lowered_module (rules_of S) m) r.signal × IsConstantOf (new_body S m) r.value
    reset_lowered r is = by_type (result_type o 0) refl
      where
        own : (has_async_reset x.kind ≡ true) × (async_parts x.operands ≡ Some r)
        own = chosen_some (has_async_reset x.kind) (async_parts x.operands) r is

        leaf : IsLeafRegister (parts_in S m) o x
        leaf = leaf_register from.0 o from.3 x in_block own.0

        by_type : (y : Option HwType) → result_type o 0 ≡ y
            → IsMarkedInput (leaf_marks S.d (is_reset_port S.d)) (lowered_module (rules_of S) m) r.signal × IsConstantOf (new_body S m) r.value
        by_type None none = let clash : None ≡ Some leaf.type = ap (λ z. slice_get (leaves_of z) leaf.number) (sym none) ∙ leaf.leaf in cc
        by_type (Some t) typed =
            (subst (IsMarkedInput (leaf_marks S.d (is_reset_port S.d)) (lowered_module (rules_of S) m)) signal_is marked.1, subst (IsConstantOf (new_body S m)) value_is constant)
          where
            types : map (old_type m) o.operands ≡ Some t ∷ Some clock ∷ Some (int 1) ∷ Some t ∷ []
            types = subst (λ kd. Fits kd o.types (map (old_type m) o.operands) t 0) leaf.kind ((m_sound S k m at).ops from.0 o from.3 0 t typed)

            ops : (a : Ref) × (b : Ref) × (c : Ref) × (e : Ref) × (o.operands ≡ a ∷ b ∷ c ∷ e ∷ []) × (old_type m a ≡ Some t) × (old_type m b ≡ Some clock)
                × (old_type m c ≡ Some (int 1)) × (old_type m e ≡ Some t)
            ops = four_operands (old_type m) o.operands (Some t) (Some clock) (Some (int 1)) (Some t) types

            old_reset : async_reset_in o ≡ Some (record { signal = ops.2; value = ops.3 })
            old_reset = ap₂ (λ kd rs. cond (has_async_reset kd) (async_parts rs) None) leaf.kind ops.4

            signal : IsMarkedInput (is_reset_port S.d) m ops.2
            signal = resets.signals m.symbol m o (record { signal = ops.2; value = ops.3 }) found o_there old_reset

            marked : (parts_in S m ops.2 ≡ port (leaf_start m.ports signal.number) ∷ [])
                × IsMarkedInput (leaf_marks S.d (is_reset_port S.d)) (lowered_module (rules_of S) m) (port (leaf_start m.ports signal.number))
            marked = part_marked found ops.2 signal

            tick : (c' : Ref) × (parts_in S m ops.1 ≡ c' ∷ [])
            tick = single (new_type S m) (parts_in S m ops.1) (Some clock) (parts_typed_at S k m at ops.1 clock ops.6)

            operands : x.operands ≡ part (parts_in S m ops.0) leaf.number ∷ tick.0 ∷ port (leaf_start m.ports signal.number) ∷ part (parts_in S m ops.3) leaf.number ∷ []
            operands =
                leaf.operands ∙ ap (λ rs. leaf_operands false sync_reset (map (parts_in S m) rs) leaf.number) ops.4
                ∙ ap₂ (λ cs ss. part (parts_in S m ops.0) leaf.number ∷ (cs ++ (ss ++ (part (parts_in S m ops.3) leaf.number ∷ [])))) tick.1 marked.0

            same : record { signal = port (leaf_start m.ports signal.number); value = part (parts_in S m ops.3) leaf.number } ≡ r
            same = some_from (sym (ap async_parts operands) ∙ own.1)

            signal_is : port (leaf_start m.ports signal.number) ≡ r.signal
            signal_is = ap (λ (y : ResetBy). y.signal) same

            value_is : part (parts_in S m ops.3) leaf.number ≡ r.value
            value_is = ap (λ (y : ResetBy). y.value) same

            leaf_typed : slice_get (leaves t) leaf.number ≡ Some leaf.type
            leaf_typed = ap (λ y. slice_get (leaves_of y) leaf.number) (sym typed) ∙ leaf.leaf

            constant : IsConstantOf (new_body S m) (part (parts_in S m ops.3) leaf.number)
            constant =
                constant_is (new_body S m) (part (parts_in S m ops.3) leaf.number)
                (constant_kept S k m at ops.3 (part (parts_in S m ops.3) leaf.number)
                (constant_told m.body ops.3 (resets.values m.symbol m o (record { signal = ops.2; value = ops.3 }) found o_there old_reset))
                (part_there (new_type S m) (parts_in S m ops.3) (leaves t) leaf.number leaf.type (parts_typed_at S k m at ops.3 t ops.8) leaf_typed).0)

    -- ---- instances

    -- what is joined to a marked leaf of an instance's module is one of the parent
    join_lowered : (c' : Module) (r : Ref) → callee (lowered S) x ≡ Some c' → (given : IsMarkedInput (leaf_marks S.d (is_reset_port S.d)) c' r)
        → (q : Ref) × (port_ref c'.ports x.operands given.number ≡ Some q) × IsMarkedInput (leaf_marks S.d (is_reset_port S.d)) (lowered_module (rules_of S) m) q
    join_lowered c' r leads given = (port (leaf_start m.ports joins.2.number), joined_leaf, (part_marked found joins.0 joins.2).1)
      where
        inst : (i : Instance) × (instance_in x.kind ≡ Some i) × (find_module (lowered S) i.symbol ≡ Some c')
        inst = and_then_some (instance_in x.kind) (λ (i : Instance). find_module (lowered S) i.symbol) leads

        alike : bare_op x ≡ spread (parts_in S m) o
        alike = instance_alike from.0 o from.3 x in_block inst.0 inst.1

        named : (s : Name) × (called_symbol o.kind ≡ Some s) × (find_module (lowered S) s ≡ Some c')
        named =
            and_then_some (called_symbol o.kind) (find_module (lowered S))
            (ap (λ y. option_and_then (find_module (lowered S)) y) (sym (called_same (parts_in S m) o x alike)) ∙ sym (callee_by_symbol (lowered S) x) ∙ leads)

        was : (c : Module) × (find_module S.d named.0 ≡ Some c) × (lowered_module (rules_of S) c ≡ c')
        was = option_map_some (lowered_module (rules_of S)) (find_module S.d named.0) (sym (find_lowered (rules_of S) S.d named.0) ∙ named.2)

        c : Module
        c = was.0

        called : callee S.d o ≡ Some c
        called = callee_by_symbol S.d o ∙ ap (λ y. option_and_then (find_module S.d) y) named.1 ∙ was.1

        c_found : find_module S.d c.symbol ≡ Some c
        c_found = ap (find_module S.d) (find_symbol S.d named.0 c was.1) ∙ was.1

        ports_are : c'.ports ≡ S.split c.ports
        ports_are = sym (ap (λ (y : Module). y.ports) was.2)

        -- the port of which the leaf is
        leaf_there : slice_get (flat_map leaf_ports c.ports) given.number ≡ Some (bare_port given.port_of)
        leaf_there =
            ap (λ ps. slice_get ps given.number) (sym (S.ports.leaves_are c.ports)) ∙ slice_get-map bare_port (S.split c.ports) given.number
            ∙ ap (option_map bare_port) (ap (λ ps. slice_get ps given.number) (sym ports_are) ∙ given.there)

        position : (j : ℕ) × (i : ℕ) × (q : Port) × (slice_get c.ports j ≡ Some q) × (slice_get (leaf_ports q) i ≡ Some (bare_port given.port_of)) × (given.number ≡ leaf_start c.ports j + i)
        position = flat_map_position leaf_ports c.ports given.number (bare_port given.port_of) leaf_there

        is_of : port_of_leaf c.ports given.number ≡ position.0
        is_of = ap (port_of_leaf c.ports) position.5 ∙ leaf_is_of c.ports position.0 position.1 position.2 position.3 (slice_get_within (leaf_ports position.2) position.1 (bare_port given.port_of) position.4)

        mark : is_reset_port S.d c position.0 ≡ true
        mark =
            ap (is_reset_port S.d c) (sym is_of) ∙ ap (has_leaf_mark (is_reset_port S.d) given.number) (sym c_found)
            ∙ ap (λ (y : Module). leaf_marks S.d (is_reset_port S.d) y given.number) was.2 ∙ given.has_mark

        bit : IsBitInput c position.0
        bit = (reset_some S.d (port_count S.d) c position.0 mark).1

        first : position.1 ≡ 0
        first =
            let same : Some bit.port_there ≡ Some position.2 = sym bit.there ∙ position.3 in
            let one : bit.port_there ≡ position.2 = some_from same in
            let size : length (leaf_ports position.2) ≡ 1 = one_leaf position.2 (ap (λ (q : Port). q.type) (sym one) ∙ bit.is_bit) in
            only_zero position.1 (length (leaf_ports position.2)) (slice_get_within (leaf_ports position.2) position.1 (bare_port given.port_of) position.4) size

        old_given : IsMarkedInput (is_reset_port S.d) c (port position.0)
        old_given = record { number = position.0; is_port = refl; port_of = bit.port_there; there = bit.there; is_input = bit.is_input; has_mark = mark }

        joins : (q : Ref) × (port_ref c.ports o.operands position.0 ≡ Some q) × IsMarkedInput (is_reset_port S.d) m q
        joins = from_old (resets.joined m.symbol m o c (port position.0) found o_there called old_given)
          where
            from_old : (q : Ref) × (port_ref c.ports o.operands position.0 ≡ Some q) × IsMarkedInput (is_reset_port S.d) m q
                → (q : Ref) × (port_ref c.ports o.operands position.0 ≡ Some q) × IsMarkedInput (is_reset_port S.d) m q
            from_old h = h

        types : map (old_type m) o.operands ≡ map (λ (t : HwType). Some t) (input_types c.ports)
        types =
            let of = called_instance o.kind named.0 named.1 in
            let fits = (m_sound S k m at).instances from.0 o from.3 of.0 of.1 in
            let same : Some fits.0 ≡ Some c = sym fits.1 ∙ ap (find_module S.d) of.2 ∙ was.1 in
            fits.2 ∙ ap (λ (y : Module). map (λ (t : HwType). Some t) (input_types y.ports)) (some_from same)

        taken : slice_get o.operands (input_count (take position.0 c.ports)) ≡ Some joins.0
        taken =
            sym (ap (λ y. operand_for y o.operands (input_count (take position.0 c.ports))) bit.there
            ∙ ap (λ b. cond b None (slice_get o.operands (input_count (take position.0 c.ports)))) bit.is_input) ∙ joins.1

        joined_leaf : port_ref c'.ports x.operands given.number ≡ Some (port (leaf_start m.ports joins.2.number))
        joined_leaf =
            ap (λ ps. port_ref ps x.operands given.number) ports_are
            ∙ sym (port_ref_bare (S.split c.ports) x.operands given.number)
            ∙ ap₂ (λ ps rs. port_ref ps rs given.number) (S.ports.leaves_are c.ports) (ap (λ (y : Op). y.operands) alike)
            ∙ ap (port_ref (flat_map leaf_ports c.ports) (flat_map (parts_in S m) o.operands)) (position.5 ∙ ap (λ i. leaf_start c.ports position.0 + i) first)
            ∙ port_ref_leaf c.ports position.0 bit.port_there bit.there bit.is_input (parts_in S m) o.operands joins.0
            (typed_length (old_type m) o.operands (input_types c.ports) types)
            (λ n y t at_y at_t.
            typed_size (new_type S m) (parts_in S m y) (leaves t) (parts_typed_at S k m at y t (typed_here (old_type m) o.operands (input_types c.ports) n y t types at_y at_t)))
            taken (input_found c.ports position.0 bit.port_there bit.there bit.is_input) 0 (some_of_one (length (leaves bit.port_there.type)) (ap (λ t. length (leaves t)) bit.is_bit))
            ∙ ap (λ rs. slice_get rs 0) (part_marked found joins.0 joins.2).0

-- ---- the design

module _ (S : Lowering) where
  -- a module of the lowered design
  record IsLoweredOf (s : Name) (n : Module) : Type 0 where
    was : Module
    is_found : find_module S.d s ≡ Some was
    is_lowered : lowered_module (rules_of S) was ≡ n
    number : ℕ
    there : slice_get S.d number ≡ Some was
    own : find_module S.d was.symbol ≡ Some was

  lowered_of : (s : Name) (n : Module) → find_module (lowered S) s ≡ Some n → IsLoweredOf s n
  lowered_of s n is =
      let was = option_map_some (lowered_module (rules_of S)) (find_module S.d s) (sym (find_lowered (rules_of S) S.d s) ∙ is) in
      let spot = position_of_In was.0 S.d (found_module S.d s was.0 was.1) in
      record {
        was = was.0;
        is_found = was.1;
        is_lowered = was.2;
        number = spot.0;
        there = spot.1;
        own = ap (find_module S.d) (find_symbol S.d s was.0 was.1) ∙ was.1;
      }

  abbrev marks : Module → ℕ → Bool
  marks = leaf_marks S.d (is_reset_port S.d)

  reset_in : (s : Name) (n : Module) (x : Op) (r : ResetBy) → find_module (lowered S) s ≡ Some n → In x n.body → async_reset_in x ≡ Some r
      → IsMarkedInput marks n r.signal × IsConstantOf n.body r.value
  reset_in s n x r is here async =
      let from = lowered_of s n is in
      subst (λ (y : Module). IsMarkedInput marks y r.signal × IsConstantOf y.body r.value) from.is_lowered
      (reset_lowered S from.number from.was from.there from.own x (subst (λ (y : Module). In x y.body) (sym from.is_lowered) here) r async)

  joined_in : (s : Name) (n : Module) (x : Op) (c : Module) (r : Ref) → find_module (lowered S) s ≡ Some n → In x n.body → callee (lowered S) x ≡ Some c
      → (given : IsMarkedInput marks c r) → (q : Ref) × (port_ref c.ports x.operands given.number ≡ Some q) × IsMarkedInput marks n q
  joined_in s n x c r is here leads given =
      let from = lowered_of s n is in
      subst (λ (y : Module). (q : Ref) × (port_ref c.ports x.operands given.number ≡ Some q) × IsMarkedInput marks y q) from.is_lowered
      (join_lowered S from.number from.was from.there from.own x (subst (λ (y : Module). In x y.body) (sym from.is_lowered) here) c r leads given)

  pub resets_lowered : ResetsFromPorts (lowered S) (leaf_marks S.d (is_reset_port S.d))
  resets_lowered = record {
    signals = λ s n x r is here async. (reset_in s n x r is here async).0;
    values = λ s n x r is here async. (reset_in s n x r is here async).1;
    joined = joined_in;
  }
