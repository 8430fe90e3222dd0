-- The modules of a design that is lowered: what stands where, and the types of values.
use Rattle.std.proofs.Common.{◌≡◌, ℕ, ◌+◌, ◌<◌, true, List, map, length, Option, Some, None, is_some, slice_get, refl, sym, ap, ◌∙◌, arith, zero-add, option_and_then, option_map}
use Rattle.std.proofs.lemmas.Option.{slice_get-map, slice_get_within}
use Rattle.wiring.specs.Wiring.{In}
use Rattle.wiring.proofs.Options.{option_map_some}
use Rattle.wiring.proofs.Members.{position_of_In, In-slice_get}
use Rattle.hw_model.specs.Types.{HwType, leaves}
use Rattle.hw_model.specs.Kinds.{Kind, Instance}
use Rattle.hw_model.specs.Kinds.Kind.{instance}
use Rattle.hw_model.specs.Design.{Ref, Port, Op, Module, Design, find_module, instance_in, is_instance, result_type}
use Rattle.hw_model.specs.Design.Ref.{result}
use Rattle.hw_model.specs.Sound.{type_in, SoundBody}
use Rattle.port_checks.proofs.Least.{found_module}
use Rattle.edit_laws.specs.Follows.{Valid, Follows}
use Rattle.acceptance_laws.specs.Keeps.{IsFit}
use Rattle.acceptance_laws.proofs.Accepted.{fit_found}
use Rattle.acceptance_laws.proofs.FitModules.{instance_kind}
use Rattle.aggregate_laws.specs.Leaves.{bare_kind}
use Rattle.aggregate_laws.specs.Rules.{Rules, count_by, begin, parts_of, blocks, lowered_module, lowered_design, SplitsShape, Splits}
use Rattle.aggregate_laws.specs.Aggregates.{aggregate_rules, IsRegular}
use Rattle.aggregate_laws.proofs.Aggregates.{regular_splits, aggregates_follow}
use Rattle.aggregate_laws.proofs.Blocks.{block_by, blocks_at, blocks_position}
use Rattle.aggregate_acceptance.specs.Names.{NamesPorts, NamesInstances}
use Rattle.aggregate_laws.proofs.Bodies.{typed_all}
use Rattle.aggregate_laws.proofs.Designs.{find_lowered}
use Rattle.aggregate_acceptance.proofs.Regular.{regular_op}

-- a fit design that is lowered, with names for the leaves of its ports
pub record Lowering : Type 0 where
  pub split : List Port → List Port
  pub named : Op → Kind
  pub d : Design
  pub fit : IsFit d
  pub ports : NamesPorts split d
  pub instances : NamesInstances split d named

abbrev pub rules_of : Lowering → Rules
rules_of S = aggregate_rules S.split S.named

abbrev pub lowered : Lowering → Design
lowered S = lowered_design (rules_of S) S.d

-- what stands for the values of a module
abbrev pub parts_in : Lowering → Module → Ref → List Ref
parts_in S m = parts_of (rules_of S) m.ports m.body

abbrev pub new_ports : Lowering → Module → List Port
new_ports S m = S.split m.ports

abbrev pub new_body : Lowering → Module → List Op
new_body S m = blocks (rules_of S) (parts_in S m) 0 m.body

-- the types of values of the module, and of its lowered one
abbrev pub old_type : Module → Ref → Option HwType
old_type m = type_in m.ports m.body

abbrev pub new_type : Lowering → Module → Ref → Option HwType
new_type S m = type_in (new_ports S m) (new_body S m)

-- ---- designs

module _ (S : Lowering) where
  -- an instance gets nothing but other names
  named_same : (k : ℕ) (m : Module) → slice_get S.d k ≡ Some m → (j : ℕ) (o : Op) → slice_get m.body j ≡ Some o → is_instance o ≡ true
      → bare_kind (S.named o) ≡ bare_kind o.kind
  named_same k m at j o is inst = go (instance_in o.kind) refl inst
    where
      sound : SoundBody S.d m.ports m.body
      sound = S.fit.valid.sound m.symbol m (fit_found S.d S.fit k m at)

      go : (x : Option Instance) → instance_in o.kind ≡ x → is_some x ≡ true → bare_kind (S.named o) ≡ bare_kind o.kind
      go None none some = cc
      go (Some i) one some =
          let found = sound.instances j o is i one in
          let kind : o.kind ≡ instance i = instance_kind o.kind i one in
          ap bare_kind (S.instances o i found.0 kind found.1) ∙ ap bare_kind (sym kind)

  pub regular_at : (k : ℕ) (m : Module) → slice_get S.d k ≡ Some m → (j : ℕ) (o : Op) → slice_get m.body j ≡ Some o → IsRegular S.named (old_type m) o o.kind
  regular_at k m at j o is = regular_op S.d S.fit k m at S.named j o is (named_same k m at j o is)

  pub follows_lowered : Follows S.d (lowered S)
  follows_lowered =
      aggregates_follow S.split S.named S.d S.ports.leaves_are
      (λ s m found o here.
      let position = position_of_In m S.d (found_module S.d s m found) in
      let spot = position_of_In o m.body here in
      regular_at position.0 m position.1 spot.0 o spot.1) S.fit.valid

  pub valid_lowered : Valid (lowered S)
  valid_lowered = follows_lowered.valid

  -- a module at a position of the lowered design
  pub lowered_at : (i : ℕ) (n : Module) → slice_get (lowered S) i ≡ Some n → (m : Module) × (slice_get S.d i ≡ Some m) × (lowered_module (rules_of S) m ≡ n)
  lowered_at i n is = option_map_some (lowered_module (rules_of S)) (slice_get S.d i) (sym (slice_get-map (lowered_module (rules_of S)) S.d i) ∙ is)

module _ (S : Lowering) (k : ℕ) (m : Module) (at : slice_get S.d k ≡ Some m) where
  pub m_found : find_module S.d m.symbol ≡ Some m
  m_found = fit_found S.d S.fit k m at

  pub m_sound : SoundBody S.d m.ports m.body
  m_sound = S.fit.valid.sound m.symbol m m_found

  pub new_sound : SoundBody (lowered S) (new_ports S m) (new_body S m)
  new_sound =
      (valid_lowered S).sound m.symbol (lowered_module (rules_of S) m)
      (find_lowered (rules_of S) S.d m.symbol ∙ ap (option_map (lowered_module (rules_of S))) m_found)

  pub splits_at : (o : Op) → In o m.body → Splits ((rules_of S).rule o) (old_type m) (parts_in S m) o
  splits_at o here =
      let spot = position_of_In o m.body here in
      regular_splits S.named o (old_type m) (parts_in S m) (m_sound.ops spot.0 o spot.1) o.kind refl (regular_at S k m at spot.0 o spot.1)

  shapes_at : (o : Op) → In o m.body → SplitsShape ((rules_of S).rule o) (parts_in S m) o
  shapes_at o here = (splits_at o here).shape

  -- what stands for a value has the types of its leaves
  pub parts_typed_at : (r : Ref) (t : HwType) → old_type m r ≡ Some t → map (new_type S m) (parts_in S m r) ≡ map (λ (u : HwType). Some u) (leaves t)
  parts_typed_at r t is = typed_all (rules_of S) m.ports (new_ports S m) m.body (S.ports.leaves_are m.ports) splits_at r t is

  -- an operation of the new body is in the block of one of the old body
  pub block_of : (n : ℕ) (x : Op) → slice_get (new_body S m) n ≡ Some x
      → (j : ℕ) × (o : Op) × (i : ℕ) × (slice_get m.body j ≡ Some o)
      × (slice_get (block_by (rules_of S) (parts_in S m) (begin (rules_of S) m.body j) o) i ≡ Some x) × (n ≡ begin (rules_of S) m.body j + i)
  block_of n x is =
      let found = blocks_position (rules_of S) (parts_in S m) m.body shapes_at 0 n x is in (
        found.0,
        found.1,
        found.2,
        found.3,
        ap (λ p. slice_get (block_by (rules_of S) (parts_in S m) p found.1) found.2) (sym (zero-add (begin (rules_of S) m.body found.0))) ∙ found.4,
        found.6,
      )

  module _ (j : ℕ) (o : Op) (is : slice_get m.body j ≡ Some o) where
    -- where it stands
    pub stands_at : (i : ℕ) (x : Op) → slice_get (block_by (rules_of S) (parts_in S m) (begin (rules_of S) m.body j) o) i ≡ Some x
        → slice_get (new_body S m) (begin (rules_of S) m.body j + i) ≡ Some x
    stands_at i x at_i =
        let below : i < length (block_by (rules_of S) (parts_in S m) (begin (rules_of S) m.body j) o) =
        slice_get_within (block_by (rules_of S) (parts_in S m) (begin (rules_of S) m.body j) o) i x at_i in
        let size : length (block_by (rules_of S) (parts_in S m) (begin (rules_of S) m.body j) o) ≡ count_by (rules_of S) o =
        (shapes_at o (In-slice_get o m.body j is)).size (begin (rules_of S) m.body j) in
        blocks_at (rules_of S) (parts_in S m) m.body shapes_at j o is i 0 (omega arith)
        ∙ ap (λ p. slice_get (block_by (rules_of S) (parts_in S m) p o) i) (zero-add (begin (rules_of S) m.body j)) ∙ at_i

    pub placed_at : (i : ℕ) (x : Op) → slice_get (block_by (rules_of S) (parts_in S m) (begin (rules_of S) m.body j) o) i ≡ Some x
        → new_type S m (result (begin (rules_of S) m.body j + i) 0) ≡ result_type x 0
    placed_at i x at_i = ap (λ y. option_and_then (λ (z : Op). result_type z 0) y) (stands_at i x at_i)
