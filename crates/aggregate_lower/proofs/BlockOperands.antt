-- What the operands of the blocks of a body are: values that have a type, or first results of operations that are there.
use Rattle.std.proofs.Common.{◌≡◌, ◌⊎◌, ℕ, ◌+◌, ◌<◌, Bool, true, false, List, [], ◌∷◌, length, map, Option, Some, slice_get, refl, sym, ap, subst, ◌∙◌, arith, inl, inr, option_and_then}
use Rattle.std.proofs.lemmas.Option.{slice_get_within}
use Rattle.wiring.specs.Wiring.{In}
use Rattle.wiring.proofs.Options.{and_then_some}
use Rattle.wiring.proofs.Members.{In-slice_get, position_of_In, In-map, from_In-map, from_In-flat_map}
use Rattle.hw_model.specs.Types.{HwType, leaves}
use Rattle.hw_model.specs.Kinds.{Kind, Reset}
use Rattle.hw_model.specs.Kinds.Reset.{no_reset, sync_reset}
use Rattle.hw_model.specs.Kinds.Kind.{register, async_firreg}
use Rattle.hw_model.specs.Design.{Ref, Port, Op, RegisterForm, takes_enable, register_form, result_type}
use Rattle.hw_model.specs.Design.Ref.{result}
use Rattle.hw_model.specs.Sound.{type_in, register_types, Fits, OpFits}
use Rattle.edit_laws.specs.Edit.{is_anchor}
use Rattle.aggregate_laws.specs.Leaves.{bare_kind, bare_op, leaf_operands, leaf_registers, leaves_of, spread}
use Rattle.aggregate_laws.specs.Rules.{Rules, count_by, begin, blocks, parts_of, StandsBefore, StandsTyped, Splits, SplitsShape}
use Rattle.aggregate_laws.proofs.Bare.{form_bare, type_bare}
use Rattle.aggregate_laws.proofs.Anchors.{from_leaf_register, by_form}
use Rattle.aggregate_laws.proofs.Blocks.{block_by, blocks_at, blocks_position}
use Rattle.aggregate_lower.specs.Targets.{IsNamed}

-- ---- registers

typed_member : (e : Bool) (r : Reset) (t : HwType) (z : Option HwType) → In z (register_types e r t) → (u : HwType) × (z ≡ Some u)
typed_member false no_reset t z (inl is) = (_, is)
typed_member false no_reset t z (inr (inl is)) = (_, is)
typed_member false no_reset t z (inr (inr never)) = absurd never
typed_member false sync_reset t z (inl is) = (_, is)
typed_member false sync_reset t z (inr (inl is)) = (_, is)
typed_member false sync_reset t z (inr (inr (inl is))) = (_, is)
typed_member false sync_reset t z (inr (inr (inr (inl is)))) = (_, is)
typed_member false sync_reset t z (inr (inr (inr (inr never)))) = absurd never
typed_member true no_reset t z (inl is) = (_, is)
typed_member true no_reset t z (inr (inl is)) = (_, is)
typed_member true no_reset t z (inr (inr (inl is))) = (_, is)
typed_member true no_reset t z (inr (inr (inr never))) = absurd never
typed_member true sync_reset t z (inl is) = (_, is)
typed_member true sync_reset t z (inr (inl is)) = (_, is)
typed_member true sync_reset t z (inr (inr (inl is))) = (_, is)
typed_member true sync_reset t z (inr (inr (inr (inl is)))) = (_, is)
typed_member true sync_reset t z (inr (inr (inr (inr (inl is))))) = (_, is)
typed_member true sync_reset t z (inr (inr (inr (inr (inr never))))) = absurd never

-- the operands of a register have types
register_typed : (kind : Kind) (f : RegisterForm) (ts : List HwType) (xs : List (Option HwType)) (t : HwType) (k : ℕ) → register_form kind ≡ Some f → Fits kind ts xs t k
    → (z : Option HwType) → In z xs → (u : HwType) × (z ≡ Some u)
register_typed (register c r) f ts xs t k is fits z here = typed_member (takes_enable c) r t z (subst (In z) fits here)
register_typed async_firreg f ts xs t k is fits z here = typed_member false sync_reset t z (subst (In z) fits here)
register_typed _ f ts xs t k is fits z here = cc

-- ---- blocks

-- a value has a type, or is the first result of an operation that is there
abbrev pub IsThere : List Port → List Op → Ref → Type 0
IsThere ps os r = ((u : HwType) × (type_in ps os r ≡ Some u)) ⊎ ((j : ℕ) × (j < length os) × (r ≡ result j 0))

there_below : (ps : List Port) (os : List Op) (r : Ref) → IsThere ps os r → IsNamed (length os) r
there_below ps os r (inr (i, below, same)) j k is =
    let equal : result i 0 ≡ result j k = sym same ∙ is in
    let number : i ≡ j = cc in
    subst (λ n. n < length os) number below
there_below ps os r (inl (u, typed)) j k is =
    let found = and_then_some (slice_get os j) (λ (o : Op). result_type o k) (ap (type_in ps os) (sym is) ∙ typed) in
    slice_get_within os j found.0 found.1

module _ (rules : Rules) (ps ps' : List Port) (os : List Op) where
  abbrev pub stand : Ref → List Ref
  stand = parts_of rules ps os

  abbrev pub new_ops : List Op
  new_ops = blocks rules (parts_of rules ps os) 0 os

  abbrev pub new_type : Ref → Option HwType
  new_type = type_in ps' (blocks rules (parts_of rules ps os) 0 os)

  module _ (splits : (o : Op) → In o os → Splits (rules.rule o) (type_in ps os) stand o)
      (typed : (r : Ref) (t : HwType) → type_in ps os r ≡ Some t → map new_type (stand r) ≡ map (λ (u : HwType). Some u) (leaves t))
      (given : (o : Op) (r : Ref) → In o os → In r o.operands → (t : HwType) × (type_in ps os r ≡ Some t))
      (fits : (n : ℕ) (x : Op) → slice_get new_ops n ≡ Some x → OpFits new_type x) where
    shapes : (o : Op) → In o os → SplitsShape (rules.rule o) stand o
    shapes o here = (splits o here).shape

    part_typed : (o : Op) (y : Ref) → In o os → In y o.operands → (r : Ref) → In r (stand y) → IsThere ps' new_ops r
    part_typed o y there among r here =
        let of_y = given o y there among in
        let found = from_In-map (λ (u : HwType). Some u) (new_type r) (leaves of_y.0) (subst (In (new_type r)) (typed y of_y.0 of_y.1) (In-map new_type r (stand y) here)) in
        inl (found.0, found.2)

    -- an operand of the i-th operation of a block
    module _ (j : ℕ) (o : Op) (is : slice_get os j ≡ Some o) where
      start : ℕ
      start = 0 + begin rules os j

      o_there : In o os
      o_there = In-slice_get o os j is

      stands : (i : ℕ) (x : Op) → slice_get (block_by rules stand (0 + begin rules os j) o) i ≡ Some x → slice_get new_ops (0 + begin rules os j + i) ≡ Some x
      stands i x at =
          let below : i < length (block_by rules stand (0 + begin rules os j) o) = slice_get_within (block_by rules stand (0 + begin rules os j) o) i x at in
          let size : length (block_by rules stand (0 + begin rules os j) o) ≡ count_by rules o = (shapes o o_there).size (0 + begin rules os j) in
          let sum : 0 + begin rules os j + i ≡ begin rules os j + i = omega arith in
          ap (slice_get new_ops) sum ∙ blocks_at rules stand os shapes j o is i 0 (omega arith) ∙ at

      stand_typed : StandsTyped (type_in ps os) new_type stand (0 + begin rules os j) (block_by rules stand (0 + begin rules os j) o)
      stand_typed = record { typed = typed; own = λ i x at. ap (λ y. option_and_then (λ (z : Op). result_type z 0) y) (stands i x at) }

      module _ (i : ℕ) (x : Op) (at : slice_get (block_by rules stand (0 + begin rules os j) o) i ≡ Some x) (r : Ref) (here : In r x.operands) where
        plain : is_anchor o ≡ false → IsThere ps' new_ops r
        plain no_anchor = go (((splits o o_there).well no_anchor new_type (0 + begin rules os j) stand_typed).operands i x r at here)
          where
            go : StandsBefore stand (0 + begin rules os j) o.operands i r → IsThere ps' new_ops r
            go (inl (y, among, in_parts)) = part_typed o y o_there among r in_parts
            go (inr (n, before, same)) =
                let whole : 0 + begin rules os j + i < length new_ops = slice_get_within new_ops (0 + begin rules os j + i) x (stands i x at) in
                inr (0 + begin rules os j + n, omega arith, same)

        of_register : (f : RegisterForm) → register_form o.kind ≡ Some f
            → In (bare_op x) (leaf_registers (bare_kind o.kind) (leaf_operands f.has_enable f.reset (map stand o.operands)) 0 (leaves_of (result_type o 0))) → IsThere ps' new_ops r
        of_register f form among =
            let spot = position_of_In (bare_op x) (leaf_registers (bare_kind o.kind) (leaf_operands f.has_enable f.reset (map stand o.operands)) 0 (leaves_of (result_type o 0))) among in
            let leaf = from_leaf_register (bare_kind o.kind) (leaf_operands f.has_enable f.reset (map stand o.operands)) (leaves_of (result_type o 0)) 0 spot.0 (bare_op x) spot.1 in
            let own : result_type x 0 ≡ Some leaf.0 = sym (type_bare x 0) ∙ ap (λ (z : Op). result_type z 0) leaf.2 in
            let kind : register_form x.kind ≡ Some f = sym (form_bare x.kind) ∙ ap (λ (z : Op). register_form z.kind) leaf.2 ∙ form_bare o.kind ∙ form in
            inl (register_typed x.kind f x.types (map new_type x.operands) leaf.0 0 kind (fits (0 + begin rules os j + i) x (stands i x at) 0 leaf.0 own) (new_type r) (In-map new_type r x.operands here))

        of_spread : In (bare_op x) (spread stand o ∷ []) → IsThere ps' new_ops r
        of_spread (inr never) = absurd never
        of_spread (inl same) =
            let found = from_In-flat_map stand r o.operands (subst (In r) (ap (λ (z : Op). z.operands) same) here) in
            part_typed o found.0 o_there found.1 r found.2

        anchor : is_anchor o ≡ true → IsThere ps' new_ops r
        anchor is_one =
            by_form stand (λ xs. In (bare_op x) xs → IsThere ps' new_ops r) o of_register (λ none. of_spread)
            (subst (In (bare_op x)) ((shapes o o_there).anchor is_one (0 + begin rules os j))
            (In-map bare_op x (block_by rules stand (0 + begin rules os j) o) (In-slice_get x (block_by rules stand (0 + begin rules os j) o) i at)))

        operand_there : IsThere ps' new_ops r
        operand_there = go (is_anchor o) refl
          where
            go : (b : Bool) → is_anchor o ≡ b → IsThere ps' new_ops r
            go true is_one = anchor is_one
            go false no_anchor = plain no_anchor

    all_there : (x : Op) (r : Ref) → In x new_ops → In r x.operands → IsThere ps' new_ops r
    all_there x r there here =
        let spot = position_of_In x new_ops there in
        let from = blocks_position rules stand os shapes 0 spot.0 x spot.1 in
        operand_there from.0 from.1 from.3 from.2 x from.4 r here

    pub all_below : (x : Op) (r : Ref) → In x new_ops → In r x.operands → IsNamed (length new_ops) r
    all_below x r there here = there_below ps' new_ops r (all_there x r there here)
