-- A module whose operations split by rules has the leaves of its values.
use Rattle.std.proofs.Common.{◌≡◌, ℕ, zero, suc, ◌+◌, ◌-◌, ◌*◌, ◌<◌, ◌≤◌, Bool, true, false, cond, List, [], ◌∷◌, length, map, flat_map, slice_get, Option, Some, None, is_some, refl, sym, ap, ap₂}
use Rattle.std.proofs.Common.{subst, ◌∙◌, inl, inr, arith, zero-add, add-zero, suc-mul, option_and_then, option_map}
use Rattle.std.proofs.Math.Nat.{mul-le-mul}
use Rattle.std.proofs.lemmas.List.{length-map}
use Rattle.std.proofs.lemmas.Option.{slice_get-map, slice_get_within}
use Rattle.wiring.specs.Wiring.{In, greatest}
use Rattle.wiring.proofs.Options.{and_then_some, option_map_some}
use Rattle.wiring.proofs.Lists.{slice_get_some}
use Rattle.wiring.proofs.Members.{In-slice_get, In-map}
use Rattle.wiring.proofs.Heights.{le-greatest}
use Rattle.bits_core.specs.Word.{Word}
use Rattle.hw_model.specs.Types.{HwType, leaves}
use Rattle.hw_model.specs.Kinds.{Kind}
use Rattle.hw_model.specs.Value.{concat_words}
use Rattle.hw_model.specs.Design.{Ref, Port, Op, Module, RegisterForm, register_form, is_register, is_instance, is_output_op, result_type}
use Rattle.hw_model.specs.Design.Ref.{port, result, undefined}
use Rattle.hw_model.specs.Sound.{input_type, type_in, OpFits}
use Rattle.hw_model.proofs.Sorts.{Sort, sort_of}
use Rattle.hw_model.proofs.Sorts.Sort.{a_register, an_instance, an_output, a_made}
use Rattle.edit_laws.specs.Edit.{is_anchor, result_word, word_of, Holds}
use Rattle.edit_laws.specs.Falls.{LocalHeight}
use Rattle.edit_laws.specs.Follows.{Wide}
use Rattle.edit_laws.proofs.ChangeInPlace.{plain_word}
use Rattle.aggregate_laws.specs.Leaves.{in_row, bare_port, leaf_port, leaf_ports, leaf_start, parts_of_port, bare, bare_kind, bare_op, leaf_operands, leaf_registers, leaves_of, spread, lower_anchor, result_types, result_start}
use Rattle.aggregate_laws.specs.Lowered.{whole, Standing, Lowered, LoweredWell}
use Rattle.aggregate_laws.specs.Rules.{Rules, begin, stays_one, parts_of_result, parts_of, blocks, count_by, lowered_module, SplitsShape, StandsBefore, StandsTyped, BlockHolds, SplitsWell, Splits}
use Rattle.aggregate_laws.proofs.Lists.{from_In-in_row, flat_map_at}
use Rattle.aggregate_laws.proofs.Bare.{type_bare, type_listed, input_type_bare}
use Rattle.aggregate_laws.proofs.Anchors.{lowered_register, lowered_other, leaf_register_at}
use Rattle.aggregate_laws.proofs.Ports.{leaf_port_at}
use Rattle.aggregate_laws.proofs.Nets.{no_result}
use Rattle.aggregate_laws.proofs.Types.{bare_types}
use Rattle.aggregate_laws.proofs.Blocks.{block_by, position_by, leaf_by, leaves_by, block_anchors, blocks_at, blocks_position, anchors_blocks, anchors_before}
use Rattle.aggregate_laws.proofs.Owners.{owner, owner_at, starts, take_counts}

-- ---- rules

rule_types : (type_of : Ref → Option HwType) (f : ℕ → Ref) (ts : List HwType) (s : ℕ) → ((i : ℕ) (u : HwType) → slice_get ts i ≡ Some u → type_of (f (s + i)) ≡ Some u)
    → map type_of (in_row f s (length ts)) ≡ map (λ (u : HwType). Some u) ts
rule_types type_of f [] s each = refl
rule_types type_of f (t ∷ ts) s each =
    ap₂ (λ x xs. x ∷ xs) (ap (λ n. type_of (f n)) (sym (add-zero s)) ∙ each 0 t refl)
    (rule_types type_of f ts (suc s) (λ i u is. ap (λ n. type_of (f n)) (let e : suc s + i ≡ s + suc i = omega arith in e) ∙ each (suc i) u is))

rule_same : {A : Type 0} (f g : ℕ → A) (s n : ℕ) → ((i : ℕ) → f i ≡ g i) → in_row f s n ≡ in_row g s n
rule_same f g s zero same = refl
rule_same f g s (suc n) same = ap₂ (λ x xs. x ∷ xs) (same s) (rule_same f g (suc s) n same)

leaf_registers_length : (K : Kind) (g : ℕ → List Ref) (n : ℕ) (ts : List HwType) → length (leaf_registers K g n ts) ≡ length ts
leaf_registers_length K g n [] = refl
leaf_registers_length K g n (t ∷ ts) = ap suc (leaf_registers_length K g (suc n) ts)

-- ---- registers, instances and outputs apart

pub one_from_anchor : (o : Op) → is_anchor o ≡ true → register_form o.kind ≡ None → stays_one o ≡ true
one_from_anchor o is none = sym (ap (λ (x : Option RegisterForm). cond (is_some x) true (stays_one o)) none) ∙ is

pub register_anchor : (o : Op) (f : RegisterForm) → register_form o.kind ≡ Some f → is_anchor o ≡ true
register_anchor o f is = ap (λ (x : Option RegisterForm). cond (is_some x) true (stays_one o)) is

register_not_one : (o : Op) (f : RegisterForm) → register_form o.kind ≡ Some f → stays_one o ≡ false
register_not_one o f is = go (sort_of o.kind)
  where
    go : Sort o.kind → stays_one o ≡ false
    go (a_register g r i u) = simp (i, u)
    go (an_instance x r i u) = let never : None ≡ Some f = sym r ∙ is in cc
    go (an_output r i u) = let never : None ≡ Some f = sym r ∙ is in cc
    go (a_made r i u) = simp (i, u)

register_one_not : (o : Op) → is_register o ≡ true → stays_one o ≡ false
register_one_not o is = go (register_form o.kind) refl is
  where
    go : (x : Option RegisterForm) → register_form o.kind ≡ x → is_some x ≡ true → stays_one o ≡ false
    go None none never = cc
    go (Some f) form some = register_not_one o f form

pub plain_not_one : (o : Op) → is_anchor o ≡ false → stays_one o ≡ false
plain_not_one o is = go (is_register o) is
  where
    go : (b : Bool) → cond b true (stays_one o) ≡ false → stays_one o ≡ false
    go true never = cc
    go false plain = plain

pub plain_no_register : (o : Op) → is_anchor o ≡ false → is_register o ≡ false
plain_no_register o is = go (is_register o) refl is
  where
    go : (b : Bool) → is_register o ≡ b → cond b true (stays_one o) ≡ false → is_register o ≡ false
    go true here never = cc
    go false here plain = here

module _ (rules : Rules) (ps ps' : List Port) (os : List Op) (ports_are : map bare_port ps' ≡ flat_map leaf_ports ps)
    (splits : (o : Op) → In o os → Splits (rules.rule o) (type_in ps os) (parts_of rules ps os) o) where
  shapes : (o : Op) → In o os → SplitsShape (rules.rule o) (parts_of rules ps os) o
  shapes o here = (splits o here).shape

  module _ (j : ℕ) (o : Op) (is : slice_get os j ≡ Some o) where
    -- the block stands where it begins
    block_at : (i : ℕ) → i < count_by rules o → slice_get (blocks rules (parts_of rules ps os) 0 os) (begin rules os j + i) ≡ slice_get (block_by rules (parts_of rules ps os) (begin rules os j) o) i
    block_at i below = blocks_at rules (parts_of rules ps os) os shapes j o is i 0 below ∙ ap (λ n. slice_get (block_by rules (parts_of rules ps os) n o) i) (zero-add (begin rules os j))

    count_is : length (block_by rules (parts_of rules ps os) (begin rules os j) o) ≡ count_by rules o
    count_is = (splits o (In-slice_get o os j is)).shape.size (begin rules os j)

    anchor_count : is_anchor o ≡ true → length (lower_anchor (parts_of rules ps os) o) ≡ count_by rules o
    anchor_count anchor =
        ap length (sym ((splits o (In-slice_get o os j is)).shape.anchor anchor (begin rules os j)))
        ∙ length-map (block_by rules (parts_of rules ps os) (begin rules os j) o) bare_op ∙ count_is

    -- the i-th of what a register, an instance or an output becomes
    anchor_at : is_anchor o ≡ true → (i : ℕ) (x : Op) → slice_get (lower_anchor (parts_of rules ps os) o) i ≡ Some x
        → option_map bare_op (slice_get (blocks rules (parts_of rules ps os) 0 os) (begin rules os j + i)) ≡ Some x
    anchor_at anchor i x at_i =
        let below : i < length (lower_anchor (parts_of rules ps os) o) = slice_get_within (lower_anchor (parts_of rules ps os) o) i x at_i in
        ap (option_map bare_op) (block_at i (omega (arith, anchor_count anchor)))
        ∙ sym (slice_get-map bare_op (block_by rules (parts_of rules ps os) (begin rules os j) o) i)
        ∙ ap (λ xs. slice_get xs i) ((splits o (In-slice_get o os j is)).shape.anchor anchor (begin rules os j)) ∙ at_i

    one_count : is_anchor o ≡ true → register_form o.kind ≡ None → count_by rules o ≡ 1
    one_count anchor none = sym (anchor_count anchor) ∙ ap length (lowered_other (parts_of rules ps os) o none)

    register_count : (f : RegisterForm) (t : HwType) → register_form o.kind ≡ Some f → result_type o 0 ≡ Some t → count_by rules o ≡ length (leaves t)
    register_count f t form typed =
        sym (anchor_count (register_anchor o f form))
        ∙ ap length (lowered_register (parts_of rules ps os) o f form ∙ ap (λ y. leaf_registers (bare_kind o.kind) (leaf_operands f.has_enable f.reset (map (parts_of rules ps os) o.operands)) 0 (leaves_of y)) typed)
        ∙ leaf_registers_length (bare_kind o.kind) (leaf_operands f.has_enable f.reset (map (parts_of rules ps os) o.operands)) 0 (leaves t)

    -- a leaf of an operation that is made of its operands is a result of its block
    leaf_made : is_anchor o ≡ false → (k i : ℕ) (t u : HwType) → result_type o k ≡ Some t → slice_get (leaves t) i ≡ Some u
        → (x : Op) × (slice_get (block_by rules (parts_of rules ps os) (begin rules os j) o) (position_by rules o (result_start o k + i)) ≡ Some x) × (result_type x 0 ≡ Some u)
    leaf_made plain k i t u typed at_u =
        and_then_some (slice_get (block_by rules (parts_of rules ps os) (begin rules os j) o) (position_by rules o (result_start o k + i))) (λ (x : Op). result_type x 0)
        ((splits o (In-slice_get o os j is)).shape.leaf_type plain (begin rules os j) k i t u typed at_u)

    -- ---- the types of leaves

    leaf_types : (k : ℕ) (t : HwType) → result_type o k ≡ Some t → (i : ℕ) (u : HwType) → slice_get (leaves t) i ≡ Some u
        → type_in ps' (blocks rules (parts_of rules ps os) 0 os) (leaf_by rules (begin rules os j) o (result_start o k + i)) ≡ Some u
    leaf_types k t typed i u at_u = go (sort_of o.kind)
      where
        one : is_anchor o ≡ true → register_form o.kind ≡ None → type_in ps' (blocks rules (parts_of rules ps os) 0 os) (leaf_by rules (begin rules os j) o (result_start o k + i)) ≡ Some u
        one anchor none =
            let there = option_map_some bare_op (slice_get (blocks rules (parts_of rules ps os) 0 os) (begin rules os j + 0))
            (anchor_at anchor 0 (spread (parts_of rules ps os) o) (ap (λ xs. slice_get xs 0) (lowered_other (parts_of rules ps os) o none))) in
            ap (λ b. type_in ps' (blocks rules (parts_of rules ps os) 0 os) (cond b (result (begin rules os j) (result_start o k + i)) (result (begin rules os j + position_by rules o (result_start o k + i)) 0)))
            (one_from_anchor o anchor none)
            ∙ ap (λ n. option_and_then (λ (x : Op). result_type x (result_start o k + i)) (slice_get (blocks rules (parts_of rules ps os) 0 os) n)) (sym (add-zero (begin rules os j)))
            ∙ ap (λ y. option_and_then (λ (x : Op). result_type x (result_start o k + i)) y) there.1
            ∙ type_listed there.0 (result_start o k + i)
            ∙ ap (λ ts. slice_get ts (result_start o k + i))
            (bare_types there.0 (bare_kind o.kind) (flat_map (parts_of rules ps os) o.operands) (flat_map leaves (result_types o)) there.2)
            ∙ flat_map_at leaves (result_types o) k i t (sym (type_listed o k) ∙ typed) (slice_get_within (leaves t) i u at_u)
            ∙ at_u

        two : stays_one o ≡ false → (n : ℕ) → position_by rules o (result_start o k + i) ≡ n → (x : Op) → slice_get (blocks rules (parts_of rules ps os) 0 os) (begin rules os j + n) ≡ Some x → result_type x 0 ≡ Some u
            → type_in ps' (blocks rules (parts_of rules ps os) 0 os) (leaf_by rules (begin rules os j) o (result_start o k + i)) ≡ Some u
        two not_one n position x at_n typed_x =
            ap₂ (λ b m. type_in ps' (blocks rules (parts_of rules ps os) 0 os) (cond b (result (begin rules os j) (result_start o k + i)) (result (begin rules os j + m) 0))) not_one position
            ∙ ap (λ y. option_and_then (λ (z : Op). result_type z 0) y) at_n ∙ typed_x

        by_number : (f : RegisterForm) → register_form o.kind ≡ Some f → (m : ℕ) → k ≡ m
            → type_in ps' (blocks rules (parts_of rules ps os) 0 os) (leaf_by rules (begin rules os j) o (result_start o k + i)) ≡ Some u
        by_number f form (suc m) is_m =
            let never : None ≡ Some t = sym ((splits o (In-slice_get o os j is)).shape.register_has_one (ap is_some form) m) ∙ ap (result_type o) (sym is_m) ∙ typed in cc
        by_number f form zero is_m =
            let typed_0 : result_type o 0 ≡ Some t = ap (result_type o) (sym is_m) ∙ typed in
            let leaf : slice_get (lower_anchor (parts_of rules ps os) o) i ≡ Some (bare (bare_kind o.kind) (leaf_operands f.has_enable f.reset (map (parts_of rules ps os) o.operands) (0 + i)) (u ∷ [])) =
            ap (λ xs. slice_get xs i) (lowered_register (parts_of rules ps os) o f form ∙ ap (λ y. leaf_registers (bare_kind o.kind) (leaf_operands f.has_enable f.reset (map (parts_of rules ps os) o.operands)) 0 (leaves_of y)) typed_0)
            ∙ leaf_register_at (bare_kind o.kind) (leaf_operands f.has_enable f.reset (map (parts_of rules ps os) o.operands)) (leaves t) 0 i u at_u in
            let there = option_map_some bare_op (slice_get (blocks rules (parts_of rules ps os) 0 os) (begin rules os j + i)) (anchor_at (register_anchor o f form) i _ leaf) in
            two (register_not_one o f form) i
            ((splits o (In-slice_get o os j is)).shape.register_position (ap is_some form) (result_start o k + i) ∙ ap (λ n. result_start o n + i) is_m ∙ zero-add i)
            there.0 there.1 (sym (type_bare there.0 0) ∙ ap (λ (z : Op). result_type z 0) there.2)

        made : is_anchor o ≡ false → type_in ps' (blocks rules (parts_of rules ps os) 0 os) (leaf_by rules (begin rules os j) o (result_start o k + i)) ≡ Some u
        made plain =
            let leaf = leaf_made plain k i t u typed at_u in
            let below : position_by rules o (result_start o k + i) < length (block_by rules (parts_of rules ps os) (begin rules os j) o) =
            slice_get_within (block_by rules (parts_of rules ps os) (begin rules os j) o) (position_by rules o (result_start o k + i)) leaf.0 leaf.1 in
            two (plain_not_one o plain) (position_by rules o (result_start o k + i)) refl leaf.0
            (block_at (position_by rules o (result_start o k + i)) (omega (arith, count_is)) ∙ leaf.1) leaf.2

        go : Sort o.kind → type_in ps' (blocks rules (parts_of rules ps os) 0 os) (leaf_by rules (begin rules os j) o (result_start o k + i)) ≡ Some u
        go (a_register f r n w) = by_number f r k refl
        go (an_instance x r n w) = one (simp (r, n)) r
        go (an_output r n w) = one (simp (r, n, w)) r
        go (a_made r n w) = made (simp (r, n, w))

  -- ---- all values

  -- the leaves of a value have their types
  pub typed_all : (r : Ref) (t : HwType) → type_in ps os r ≡ Some t → map (type_in ps' (blocks rules (parts_of rules ps os) 0 os)) (parts_of rules ps os r) ≡ map (λ (u : HwType). Some u) (leaves t)
  typed_all (port j) t is = go (slice_get ps j) refl is
    where
      by_way : (q : Port) → slice_get ps j ≡ Some q → (b : Bool) → q.is_output ≡ b → cond b None (Some q.type) ≡ Some t
          → map (type_in ps' (blocks rules (parts_of rules ps os) 0 os)) (cond b [] (in_row port (leaf_start ps j) (length (leaves q.type)))) ≡ map (λ (u : HwType). Some u) (leaves t)
      by_way q at_q true way never = cc
      by_way q at_q false way typed =
          let same : q.type ≡ t = cc in
          rule_types (type_in ps' (blocks rules (parts_of rules ps os) 0 os)) port (leaves q.type) (leaf_start ps j)
          (λ i u at_u.
          sym (input_type_bare ps' (leaf_start ps j + i)) ∙ ap (λ P. input_type (slice_get P (leaf_start ps j + i))) ports_are
          ∙ ap input_type (leaf_port_at ps j q at_q i u at_u ∙ ap (λ b. Some (leaf_port b u)) way))
          ∙ ap (λ x. map (λ (u : HwType). Some u) (leaves x)) same

      go : (x : Option Port) → slice_get ps j ≡ x → input_type x ≡ Some t
          → map (type_in ps' (blocks rules (parts_of rules ps os) 0 os)) (parts_of_port (leaf_start ps j) x) ≡ map (λ (u : HwType). Some u) (leaves t)
      go None at_j typed = cc
      go (Some q) at_j typed = by_way q at_j q.is_output refl typed
  typed_all (result j k) t is = go (slice_get os j) refl is
    where
      by_type : (o : Op) → slice_get os j ≡ Some o → (x : Option HwType) → result_type o k ≡ x → x ≡ Some t
          → map (type_in ps' (blocks rules (parts_of rules ps os) 0 os)) (leaves_by rules (begin rules os j) o (result_start o k) x) ≡ map (λ (u : HwType). Some u) (leaves t)
      by_type o at_j None typed never = cc
      by_type o at_j (Some v) typed same =
          let v_is : v ≡ t = cc in
          rule_types (type_in ps' (blocks rules (parts_of rules ps os) 0 os)) (leaf_by rules (begin rules os j) o) (leaves v) (result_start o k) (leaf_types j o at_j k v typed)
          ∙ ap (λ x. map (λ (u : HwType). Some u) (leaves x)) v_is

      go : (x : Option Op) → slice_get os j ≡ x → option_and_then (λ (o : Op). result_type o k) x ≡ Some t
          → map (type_in ps' (blocks rules (parts_of rules ps os) 0 os)) (parts_of_result rules (begin rules os j) k x) ≡ map (λ (u : HwType). Some u) (leaves t)
      go None at_j typed = cc
      go (Some o) at_j typed = by_type o at_j (result_type o k) refl typed
  typed_all undefined t is = cc

  untyped_all : (r : Ref) → type_in ps os r ≡ None → parts_of rules ps os r ≡ []
  untyped_all (port j) is = go (slice_get ps j) is
    where
      by_way : (q : Port) (b : Bool) → cond b None (Some q.type) ≡ None → cond b [] (in_row port (leaf_start ps j) (length (leaves q.type))) ≡ []
      by_way q true typed = refl
      by_way q false typed = cc

      go : (x : Option Port) → input_type x ≡ None → parts_of_port (leaf_start ps j) x ≡ []
      go None typed = refl
      go (Some q) typed = by_way q q.is_output typed
  untyped_all (result j k) is = go (slice_get os j) is
    where
      go : (x : Option Op) → option_and_then (λ (o : Op). result_type o k) x ≡ None → parts_of_result rules (begin rules os j) k x ≡ []
      go None typed = refl
      go (Some o) typed = ap (leaves_by rules (begin rules os j) o (result_start o k)) typed
  untyped_all undefined is = refl

  -- ---- one operation in the new body

  module _ (j : ℕ) (o : Op) (is : slice_get os j ≡ Some o) (plain : is_anchor o ≡ false) where
    stands_typed : StandsTyped (type_in ps os) (type_in ps' (blocks rules (parts_of rules ps os) 0 os)) (parts_of rules ps os) (begin rules os j) (block_by rules (parts_of rules ps os) (begin rules os j) o)
    stands_typed = record {
      typed = typed_all;
      own = λ i x at_i.
          let below : i < length (block_by rules (parts_of rules ps os) (begin rules os j) o) = slice_get_within (block_by rules (parts_of rules ps os) (begin rules os j) o) i x at_i in
          ap (λ y. option_and_then (λ (z : Op). result_type z 0) y) (block_at j o is i (omega (arith, count_is j o is)) ∙ at_i);
    }

    well : SplitsWell (rules.rule o) (type_in ps os) (type_in ps' (blocks rules (parts_of rules ps os) 0 os)) (parts_of rules ps os) (begin rules os j) o
    well = (splits o (In-slice_get o os j is)).well plain (type_in ps' (blocks rules (parts_of rules ps os) 0 os)) (begin rules os j) stands_typed

    block_holds : (τ : Ref → Word) → Holds (blocks rules (parts_of rules ps os) 0 os) τ → BlockHolds τ (begin rules os j) (block_by rules (parts_of rules ps os) (begin rules os j) o)
    block_holds τ holds i x u at_i typed =
        let below : i < length (block_by rules (parts_of rules ps os) (begin rules os j) o) = slice_get_within (block_by rules (parts_of rules ps os) (begin rules os j) o) i x at_i in
        holds.result_is (begin rules os j + i) 0 (result_word τ x 0 (Some u)) (λ never. never)
        (ap (word_of τ 0) (block_at j o is i (omega (arith, count_is j o is)) ∙ at_i)
        ∙ plain_word τ 0 x ((splits o (In-slice_get o os j is)).shape.plain plain (begin rules os j) x (In-slice_get x (block_by rules (parts_of rules ps os) (begin rules os j) o) i at_i))
        ∙ ap (λ y. Some (result_word τ x 0 y)) typed)

  -- what stands for a result with a type
  parts_result : (j : ℕ) (o : Op) (k : ℕ) (t : HwType) → slice_get os j ≡ Some o → result_type o k ≡ Some t
      → parts_of rules ps os (result j k) ≡ leaves_by rules (begin rules os j) o (result_start o k) (Some t)
  parts_result j o k t is typed = ap (parts_of_result rules (begin rules os j) k) is ∙ ap (leaves_by rules (begin rules os j) o (result_start o k)) typed

  register_parts_are : (j : ℕ) (o : Op) (t : HwType) → slice_get os j ≡ Some o → is_register o ≡ true → result_type o 0 ≡ Some t
      → parts_of rules ps os (result j 0) ≡ in_row (λ i. result (begin rules os j + i) 0) 0 (length (leaves t))
  register_parts_are j o t is register typed =
      parts_result j o 0 t is typed
      ∙ rule_same (leaf_by rules (begin rules os j) o) (λ i. result (begin rules os j + i) 0) 0 (length (leaves t))
      (λ i.
      ap₂ (λ b n. cond b (result (begin rules os j) i) (result (begin rules os j + n) 0)) (register_one_not o register)
      ((splits o (In-slice_get o os j is)).shape.register_position register i))

  instance_parts_are : (j : ℕ) (o : Op) (k : ℕ) (t : HwType) → slice_get os j ≡ Some o → is_instance o ≡ true → result_type o k ≡ Some t
      → parts_of rules ps os (result j k) ≡ in_row (result (begin rules os j + 0)) (result_start o k) (length (leaves t))
  instance_parts_are j o k t is inst typed =
      parts_result j o k t is typed
      ∙ rule_same (leaf_by rules (begin rules os j) o) (result (begin rules os j + 0)) (result_start o k) (length (leaves t))
      (λ i.
      ap (λ b. cond (cond b true (is_output_op o)) (result (begin rules os j) i) (result (begin rules os j + position_by rules o i) 0)) inst
      ∙ ap (λ n. result n i) (sym (add-zero (begin rules os j))))

  anchor_stands : (j : ℕ) (o : Op) (i : ℕ) (x : Op) → slice_get os j ≡ Some o → is_anchor o ≡ true → slice_get (lower_anchor (parts_of rules ps os) o) i ≡ Some x
      → Standing os (blocks rules (parts_of rules ps os) 0 os) (parts_of rules ps os) j o i x (begin rules os j + i)
  anchor_stands j o i x is anchor at_i = record {
    op = anchor_at j o is anchor i x at_i;
    before =
        let below : i < length (lower_anchor (parts_of rules ps os) o) = slice_get_within (lower_anchor (parts_of rules ps os) o) i x at_i in
        anchors_before rules (parts_of rules ps os) os shapes j o is anchor i 0 (omega (arith, anchor_count j o is anchor));
  }

  leaf_words : (τ : Ref → Word) → Holds (blocks rules (parts_of rules ps os) 0 os) τ → Wide ps' (blocks rules (parts_of rules ps os) 0 os) τ
      → (j : ℕ) (o : Op) (k : ℕ) (t : HwType) → slice_get os j ≡ Some o → is_anchor o ≡ false → result_type o k ≡ Some t
      → result_word (whole (parts_of rules ps os) τ) o k (Some t) ≡ whole (parts_of rules ps os) τ (result j k)
  leaf_words τ holds wide j o k t is plain typed =
      (well j o is plain).words τ wide (block_holds j o is plain τ holds) k t typed
      ∙ ap (λ rs. concat_words (map τ rs)) (sym (parts_result j o k t is typed))

  -- ---- homes and slacks

  -- as which result of the operation at position j the k'-th result of an operation of its block is high
  abbrev home_result : ℕ → ℕ → Option Op → Ref
  home_result j k' None = result j 0
  home_result j k' (Some o) = result j (cond (stays_one o) (owner (map (λ (t : HwType). length (leaves t)) (result_types o)) k') 0)

  abbrev home_of : Ref → Ref
  home_of (port j') = port (owner (map (λ (q : Port). length (leaf_ports q)) ps) j')
  home_of (result j' k') = home_result (owner (map (count_by rules) os) j') k' (slice_get os (owner (map (count_by rules) os) j'))
  home_of undefined = undefined

  -- an operation of a block stands the lower, the more of the block come after it
  abbrev slack_result : ℕ → Option Op → ℕ
  slack_result i None = 0
  slack_result i (Some o) = cond (is_anchor o) 0 (count_by rules o - i)

  abbrev slack_of : Ref → ℕ
  slack_of (port j') = 0
  slack_of (result j' k') = slack_result (j' - begin rules os (owner (map (count_by rules) os) j')) (slice_get os (owner (map (count_by rules) os) j'))
  slack_of undefined = 0

  block_owner : (j : ℕ) (o : Op) → slice_get os j ≡ Some o → (i : ℕ) → i < count_by rules o → owner (map (count_by rules) os) (begin rules os j + i) ≡ j
  block_owner j o is i below =
      ap (λ n. owner (map (count_by rules) os) (n + i)) (take_counts (count_by rules) os j)
      ∙ owner_at (map (count_by rules) os) j i (count_by rules o) (slice_get-map (count_by rules) os j ∙ ap (option_map (count_by rules)) is) below

  home_at : (j : ℕ) (o : Op) → slice_get os j ≡ Some o → (i k' : ℕ) → i < count_by rules o
      → home_of (result (begin rules os j + i) k') ≡ result j (cond (stays_one o) (owner (map (λ (t : HwType). length (leaves t)) (result_types o)) k') 0)
  home_at j o is i k' below =
      ap (λ n. home_result n k' (slice_get os n)) (block_owner j o is i below) ∙ ap (home_result j k') is

  slack_at : (j : ℕ) (o : Op) → slice_get os j ≡ Some o → (i k' : ℕ) → i < count_by rules o → slack_of (result (begin rules os j + i) k') ≡ cond (is_anchor o) 0 (count_by rules o - i)
  slack_at j o is i k' below =
      ap (λ n. slack_result (begin rules os j + i - begin rules os n) (slice_get os n)) (block_owner j o is i below)
      ∙ ap₂ slack_result (let e : begin rules os j + i - begin rules os j ≡ i = omega arith in e) is

  slack_below : (scale : ℕ) → 0 < scale → ((o : Op) → In o os → count_by rules o < scale) → (r : Ref) → slack_of r < scale
  slack_below scale positive counts (port j') = positive
  slack_below scale positive counts undefined = positive
  slack_below scale positive counts (result j' k') = go (slice_get os (owner (map (count_by rules) os) j')) refl
    where
      by_anchor : (o : Op) (b : Bool) (i : ℕ) → count_by rules o < scale → cond b 0 (count_by rules o - i) < scale
      by_anchor o true i below = positive
      by_anchor o false i below = omega arith

      go : (x : Option Op) → slice_get os (owner (map (count_by rules) os) j') ≡ x → slack_result (j' - begin rules os (owner (map (count_by rules) os) j')) x < scale
      go None is = positive
      go (Some o) is = by_anchor o (is_anchor o) (j' - begin rules os (owner (map (count_by rules) os) j')) (counts o (In-slice_get o os (owner (map (count_by rules) os) j') is))

  -- ---- what stands before

  -- a position of the new body is in a block
  found_in : (j' : ℕ) (x : Op) → slice_get (blocks rules (parts_of rules ps os) 0 os) j' ≡ Some x
      → (j : ℕ) × (o : Op) × (i : ℕ) × (slice_get os j ≡ Some o) × (slice_get (block_by rules (parts_of rules ps os) (begin rules os j) o) i ≡ Some x) × (i < count_by rules o) × (j' ≡ begin rules os j + i)
  found_in j' x is =
      let found = blocks_position rules (parts_of rules ps os) os shapes 0 j' x is in
      (found.0, found.1, found.2, found.3, ap (λ n. slice_get (block_by rules (parts_of rules ps os) n found.1) found.2) (sym (zero-add (begin rules os found.0))) ∙ found.4, found.5, found.6)

  -- it is as the operation whose block it is in
  same_sort : (j i : ℕ) (o x : Op) → slice_get os j ≡ Some o → slice_get (block_by rules (parts_of rules ps os) (begin rules os j) o) i ≡ Some x → is_anchor o ≡ is_anchor x
  same_sort j i o x is at_i = go (is_anchor o) refl
    where
      go : (b : Bool) → is_anchor o ≡ b → is_anchor o ≡ is_anchor x
      go true anchor =
          anchor ∙ sym (block_anchors rules (parts_of rules ps os) o (splits o (In-slice_get o os j is)).shape anchor (begin rules os j) x
          (In-slice_get x (block_by rules (parts_of rules ps os) (begin rules os j) o) i at_i))
      go false plain =
          plain ∙ sym ((splits o (In-slice_get o os j is)).shape.plain plain (begin rules os j) x
          (In-slice_get x (block_by rules (parts_of rules ps os) (begin rules os j) o) i at_i))

  module _ (fit : (j : ℕ) (o : Op) → slice_get os j ≡ Some o → OpFits (type_in ps os) o) (h : Ref → ℕ) (local : LocalHeight os h) where
    -- the i-th leaf of result k is as high as the result
    leaf_home : (j : ℕ) (o : Op) → slice_get os j ≡ Some o → (k i : ℕ) (t : HwType) → result_type o k ≡ Some t → i < length (leaves t)
        → h (home_of (leaf_by rules (begin rules os j) o (result_start o k + i))) ≡ h (result j k)
    leaf_home j o is k i t typed below = go (sort_of o.kind)
      where
        -- all leaves are results of one operation
        one : is_anchor o ≡ true → register_form o.kind ≡ None → h (home_of (leaf_by rules (begin rules os j) o (result_start o k + i))) ≡ h (result j k)
        one anchor none =
            let single_op : count_by rules o ≡ 1 = one_count j o is anchor none in
            ap (λ b. h (home_of (cond b (result (begin rules os j) (result_start o k + i)) (result (begin rules os j + position_by rules o (result_start o k + i)) 0)))) (one_from_anchor o anchor none)
            ∙ ap (λ n. h (home_of (result n (result_start o k + i)))) (sym (add-zero (begin rules os j)))
            ∙ ap h (home_at j o is 0 (result_start o k + i) (omega arith))
            ∙ ap (λ b. h (result j (cond b (owner (map (λ (u : HwType). length (leaves u)) (result_types o)) (result_start o k + i)) 0))) (one_from_anchor o anchor none)
            ∙ ap (λ n. h (result j (owner (map (λ (u : HwType). length (leaves u)) (result_types o)) (n + i)))) (starts leaves (result_types o) k)
            ∙ ap (λ n. h (result j n))
            (owner_at (map (λ (u : HwType). length (leaves u)) (result_types o)) k i (length (leaves t))
            (slice_get-map (λ (u : HwType). length (leaves u)) (result_types o) k ∙ ap (option_map (λ (u : HwType). length (leaves u))) (sym (type_listed o k) ∙ typed)) below)

        -- each is the result of one
        two : stays_one o ≡ false → position_by rules o (result_start o k + i) < count_by rules o → h (result j 0) ≡ h (result j k)
            → h (home_of (leaf_by rules (begin rules os j) o (result_start o k + i))) ≡ h (result j k)
        two not_one within same =
            ap (λ b. h (home_of (cond b (result (begin rules os j) (result_start o k + i)) (result (begin rules os j + position_by rules o (result_start o k + i)) 0)))) not_one
            ∙ ap h (home_at j o is (position_by rules o (result_start o k + i)) 0 within)
            ∙ ap (λ b. h (result j (cond b (owner (map (λ (u : HwType). length (leaves u)) (result_types o)) 0) 0))) not_one
            ∙ same

        by_number : (f : RegisterForm) → register_form o.kind ≡ Some f → (m : ℕ) → k ≡ m → h (home_of (leaf_by rules (begin rules os j) o (result_start o k + i))) ≡ h (result j k)
        by_number f form (suc m) is_m =
            let never : None ≡ Some t = sym ((splits o (In-slice_get o os j is)).shape.register_has_one (ap is_some form) m) ∙ ap (result_type o) (sym is_m) ∙ typed in cc
        by_number f form zero is_m =
            let sum : result_start o k + i ≡ i = ap (λ n. result_start o n + i) is_m ∙ zero-add i in
            let position : position_by rules o (result_start o k + i) ≡ result_start o k + i = (splits o (In-slice_get o os j is)).shape.register_position (ap is_some form) (result_start o k + i) in
            let size : count_by rules o ≡ length (leaves t) = register_count j o is f t form (ap (result_type o) (sym is_m) ∙ typed) in
            two (register_not_one o f form) (omega arith) (ap (λ n. h (result j n)) (sym is_m))

        made : is_anchor o ≡ false → h (home_of (leaf_by rules (begin rules os j) o (result_start o k + i))) ≡ h (result j k)
        made plain =
            let leaf = slice_get_some (leaves t) i below in
            let new = leaf_made j o is plain k i t leaf.0 typed leaf.1 in
            let within : position_by rules o (result_start o k + i) < length (block_by rules (parts_of rules ps os) (begin rules os j) o) =
            slice_get_within (block_by rules (parts_of rules ps os) (begin rules os j) o) (position_by rules o (result_start o k + i)) new.0 new.1 in
            let first_type = (splits o (In-slice_get o os j is)).has_first plain (begin rules os j) (position_by rules o (result_start o k + i)) new.0 new.1 in
            two (plain_not_one o plain) (omega (arith, count_is j o is)) (local.made j 0 o first_type.0 is plain first_type.1 ∙ sym (local.made j k o t is plain typed))

        go : Sort o.kind → h (home_of (leaf_by rules (begin rules os j) o (result_start o k + i))) ≡ h (result j k)
        go (a_register f r n w) = by_number f r k refl
        go (an_instance x r n w) = one (simp (r, n)) r
        go (an_output r n w) = absurd (no_result o.kind o.types (map (type_in ps os) o.operands) t k w (fit j o is k t typed))
        go (a_made r n w) = made (simp (r, n, w))

    part_home_of : (r r' : Ref) → In r' (parts_of rules ps os r) → h (home_of r') ≡ h r
    part_home_of (port j) r' within = go (slice_get ps j) refl within
      where
        by_way : (q : Port) → slice_get ps j ≡ Some q → (b : Bool) → In r' (cond b [] (in_row port (leaf_start ps j) (length (leaves q.type)))) → h (home_of r') ≡ h (port j)
        by_way q is true never = absurd never
        by_way q is false inside =
            let found = from_In-in_row port (leaf_start ps j) (length (leaves q.type)) r' inside in
            let below : found.0 < length (leaf_ports q) = omega (arith, length-map (leaves q.type) (leaf_port q.is_output), found.1) in
            ap (λ r. h (home_of r)) found.2
            ∙ ap (λ n. h (port (owner (map (λ (x : Port). length (leaf_ports x)) ps) (n + found.0)))) (starts leaf_ports ps j)
            ∙ ap (λ n. h (port n)) (owner_at (map (λ (x : Port). length (leaf_ports x)) ps) j found.0 (length (leaf_ports q))
            (slice_get-map (λ (x : Port). length (leaf_ports x)) ps j ∙ ap (option_map (λ (x : Port). length (leaf_ports x))) is) below)

        go : (x : Option Port) → slice_get ps j ≡ x → In r' (parts_of_port (leaf_start ps j) x) → h (home_of r') ≡ h (port j)
        go None is never = absurd never
        go (Some q) is inside = by_way q is q.is_output inside
    part_home_of (result j k) r' within = go (slice_get os j) refl within
      where
        by_type : (o : Op) → slice_get os j ≡ Some o → (x : Option HwType) → result_type o k ≡ x → In r' (leaves_by rules (begin rules os j) o (result_start o k) x) → h (home_of r') ≡ h (result j k)
        by_type o is None typed never = absurd never
        by_type o is (Some t) typed inside =
            let found = from_In-in_row (leaf_by rules (begin rules os j) o) (result_start o k) (length (leaves t)) r' inside in
            ap (λ r. h (home_of r)) found.2 ∙ leaf_home j o is k found.0 t typed found.1

        go : (x : Option Op) → slice_get os j ≡ x → In r' (parts_of_result rules (begin rules os j) k x) → h (home_of r') ≡ h (result j k)
        go None is never = absurd never
        go (Some o) is inside = by_type o is (result_type o k) refl inside
    part_home_of undefined r' never = absurd never

    falls_in : (scale : ℕ) → ((o : Op) → In o os → count_by rules o < scale)
        → (j i k : ℕ) (o x : Op) (r : Ref) → slice_get os j ≡ Some o → slice_get (block_by rules (parts_of rules ps os) (begin rules os j) o) i ≡ Some x → i < count_by rules o
        → is_anchor o ≡ false → In r x.operands
        → h (home_of r) * scale - slack_of r < h (home_of (result (begin rules os j + i) k)) * scale - slack_of (result (begin rules os j + i) k)
    falls_in scale counts j i k o x r is at_i below plain inside = go ((well j o is plain).operands i x r at_i inside)
      where
        small : count_by rules o < scale
        small = counts o (In-slice_get o os j is)

        home_is : h (home_of (result (begin rules os j + i) k)) ≡ h (result j 0)
        home_is =
            ap h (home_at j o is i k below)
            ∙ ap (λ b. h (result j (cond b (owner (map (λ (u : HwType). length (leaves u)) (result_types o)) k) 0))) (plain_not_one o plain)

        slack_here : (n m : ℕ) → n < count_by rules o → slack_of (result (begin rules os j + n) m) ≡ count_by rules o - n
        slack_here n m within = slack_at j o is n m within ∙ ap (λ b. cond b 0 (count_by rules o - n)) plain

        high : (t : HwType) × (h (result j 0) ≡ suc (greatest (map h o.operands)))
        high =
            let first_type = (splits o (In-slice_get o os j is)).has_first plain (begin rules os j) i x at_i in
            (first_type.0, local.made j 0 o first_type.0 is plain first_type.1)

        -- the numbers: from a lower value, and from a result before
        from_lower : (a b s : ℕ) → a < b → s < scale → (slack_r : ℕ) → a * scale - slack_r < b * scale - s
        from_lower a b s lower under slack_r =
            let room : suc a * scale ≤ b * scale = mul-le-mul lower (omega arith) in
            let more : suc a * scale ≡ a * scale + scale = suc-mul a scale in
            omega arith

        from_before : (b s s' : ℕ) → 0 < b → s < scale → s < s' → b * scale - s' < b * scale - s
        from_before b s s' positive under higher =
            let room : 1 * scale ≤ b * scale = mul-le-mul positive (omega arith) in
            let one : 1 * scale ≡ scale = omega arith in
            omega arith

        go : StandsBefore (parts_of rules ps os) (begin rules os j) o.operands i r
            → h (home_of r) * scale - slack_of r < h (home_of (result (begin rules os j + i) k)) * scale - slack_of (result (begin rules os j + i) k)
        go (inl (y, among, part)) =
            let under : count_by rules o < scale = small in
            let home_r : h (home_of r) ≡ h y = part_home_of y r part in
            let lower : h y ≤ greatest (map h o.operands) = le-greatest (h y) (map h o.operands) (In-map h y o.operands among) in
            let top : h (result j 0) ≡ suc (greatest (map h o.operands)) = high.1 in
            let slack_i : slack_of (result (begin rules os j + i) k) ≡ count_by rules o - i = slack_here i k below in
            let result_is : h y * scale - slack_of r < h (result j 0) * scale - (count_by rules o - i) = from_lower (h y) (h (result j 0)) (count_by rules o - i) (omega arith) (omega arith) (slack_of r) in
            let left : h (home_of r) * scale ≡ h y * scale = ap (λ n. n * scale) home_r in
            let right : h (home_of (result (begin rules os j + i) k)) * scale ≡ h (result j 0) * scale = ap (λ n. n * scale) home_is in
            omega arith
        go (inr (n, before, same)) =
            let under : count_by rules o < scale = small in
            let within : n < count_by rules o = omega arith in
            let home_r : h (home_of r) ≡ h (result j 0) =
            ap (λ y. h (home_of y)) same ∙ ap h (home_at j o is n 0 within)
            ∙ ap (λ b. h (result j (cond b (owner (map (λ (u : HwType). length (leaves u)) (result_types o)) 0) 0))) (plain_not_one o plain) in
            let slack_r : slack_of r ≡ count_by rules o - n = ap slack_of same ∙ slack_here n 0 within in
            let slack_i : slack_of (result (begin rules os j + i) k) ≡ count_by rules o - i = slack_here i k below in
            let top : h (result j 0) ≡ suc (greatest (map h o.operands)) = high.1 in
            let result_is : h (result j 0) * scale - (count_by rules o - n) < h (result j 0) * scale - (count_by rules o - i) =
            from_before (h (result j 0)) (count_by rules o - i) (count_by rules o - n) (omega arith) (omega arith) (omega arith) in
            let left : h (home_of r) * scale ≡ h (result j 0) * scale = ap (λ m. m * scale) home_r in
            let right : h (home_of (result (begin rules os j + i) k)) * scale ≡ h (result j 0) * scale = ap (λ m. m * scale) home_is in
            omega arith

-- ---- the module

pub split_lowered : (rules : Rules) (m : Module) → map bare_port (rules.ports m.ports) ≡ flat_map leaf_ports m.ports
    → ((o : Op) → In o m.body → Splits (rules.rule o) (type_in m.ports m.body) (parts_of rules m.ports m.body) o) → Lowered (Some m) (Some (lowered_module rules m))
split_lowered rules m ports_are splits = record {
  is_there = refl;
  ports_are = ports_are;
  parts = parts_of rules m.ports m.body;
  typed = typed_all rules m.ports (rules.ports m.ports) m.body ports_are splits;
  untyped = untyped_all rules m.ports (rules.ports m.ports) m.body ports_are splits;
  port_is = λ j. refl;
  anchors_are = anchors_blocks rules (parts_of rules m.ports m.body) m.body (λ o here. (splits o here).shape) 0;
  start = λ j i. begin rules m.body j + i;
  stands = anchor_stands rules m.ports (rules.ports m.ports) m.body ports_are splits;
  register_is = register_parts_are rules m.ports (rules.ports m.ports) m.body ports_are splits;
  register_has_one = λ j o k is register. (splits o (In-slice_get o m.body j is)).shape.register_has_one register k;
  instance_is = instance_parts_are rules m.ports (rules.ports m.ports) m.body ports_are splits;
  words = leaf_words rules m.ports (rules.ports m.ports) m.body ports_are splits;
}

pub split_well : (scale : ℕ) (rules : Rules) (m : Module) → 0 < scale → ((o : Op) → In o m.body → count_by rules o < scale) → map bare_port (rules.ports m.ports) ≡ flat_map leaf_ports m.ports
    → ((o : Op) → In o m.body → Splits (rules.rule o) (type_in m.ports m.body) (parts_of rules m.ports m.body) o) → ((j : ℕ) (o : Op) → slice_get m.body j ≡ Some o → OpFits (type_in m.ports m.body) o)
    → LoweredWell scale (Some m) (Some (lowered_module rules m))
unfolding split_lowered
split_well scale rules m positive counts ports_are splits fit = record {
  lowered = split_lowered rules m ports_are splits;
  home = home_of rules m.ports (rules.ports m.ports) m.body ports_are splits;
  slack = slack_of rules m.ports (rules.ports m.ports) m.body ports_are splits;
  slack_is = slack_below rules m.ports (rules.ports m.ports) m.body ports_are splits scale positive counts;
  part_home = λ h local r r' here. part_home_of rules m.ports (rules.ports m.ports) m.body ports_are splits fit h local r r' here;
  port_slack = λ j. refl;
  anchor_slack = λ j' k x is anchor.
      let found = found_in rules m.ports (rules.ports m.ports) m.body ports_are splits j' x is in
      let own : is_anchor found.1 ≡ true = same_sort rules m.ports (rules.ports m.ports) m.body ports_are splits found.0 found.2 found.1 x found.3 found.4 ∙ anchor in
      ap (λ n. slack_of rules m.ports (rules.ports m.ports) m.body ports_are splits (result n k)) found.6
      ∙ slack_at rules m.ports (rules.ports m.ports) m.body ports_are splits found.0 found.1 found.3 found.2 k found.5
      ∙ ap (λ b. cond b 0 (count_by rules found.1 - found.2)) own;
  origin = λ j' z is anchor.
      let found = found_in rules m.ports (rules.ports m.ports) m.body ports_are splits j' z is in
      let own : is_anchor found.1 ≡ true = same_sort rules m.ports (rules.ports m.ports) m.body ports_are splits found.0 found.2 found.1 z found.3 found.4 ∙ anchor in (
        found.0,
        found.1,
        found.2,
        bare_op z,
        found.3,
        own,
        ap (λ xs. slice_get xs found.2) (sym ((splits found.1 (In-slice_get found.1 m.body found.0 found.3)).shape.anchor own (begin rules m.body found.0)))
            ∙ slice_get-map bare_op (block_by rules (parts_of rules m.ports m.body) (begin rules m.body found.0) found.1) found.2 ∙ ap (option_map bare_op) found.4,
        found.6,
      );
  falls = λ h local j' k x t is plain typed r here.
      let found = found_in rules m.ports (rules.ports m.ports) m.body ports_are splits j' x is in
      let own : is_anchor found.1 ≡ false = same_sort rules m.ports (rules.ports m.ports) m.body ports_are splits found.0 found.2 found.1 x found.3 found.4 ∙ plain in
      subst (λ n. h (home_of rules m.ports (rules.ports m.ports) m.body ports_are splits r) * scale - slack_of rules m.ports (rules.ports m.ports) m.body ports_are splits r
      < h (home_of rules m.ports (rules.ports m.ports) m.body ports_are splits (result n k)) * scale - slack_of rules m.ports (rules.ports m.ports) m.body ports_are splits (result n k)) (sym found.6)
      (falls_in rules m.ports (rules.ports m.ports) m.body ports_are splits fit h local scale counts found.0 found.2 k found.1 x r found.3 found.4 found.5 own here);
  fits = λ j' x is plain.
      let found = found_in rules m.ports (rules.ports m.ports) m.body ports_are splits j' x is in
      let own : is_anchor found.1 ≡ false = same_sort rules m.ports (rules.ports m.ports) m.body ports_are splits found.0 found.2 found.1 x found.3 found.4 ∙ plain in
      (well rules m.ports (rules.ports m.ports) m.body ports_are splits found.0 found.1 found.3 own).fits found.2 x found.4;
}
