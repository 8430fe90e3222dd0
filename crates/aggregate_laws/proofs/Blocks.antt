-- Blocks of operations, one for each operation of a body: what stands where, and the registers, instances and outputs.
use Rattle.std.proofs.Common.{◌≡◌, ◌⊎◌, ℕ, zero, suc, ◌+◌, ◌-◌, ◌<◌, ◌≤◌, Bool, true, false, cond, List, [], ◌∷◌, ◌++◌, length, map, take, drop, flat_map, slice_get, Option, Some, is_some, refl, sym}
use Rattle.std.proofs.Common.{ap, ap₂, subst, ◌∙◌, inl, inr, arith, zero-add, add-zero, append_assoc, length-append}
use Rattle.std.proofs.lemmas.List.{map-append, take-append-le}
use Rattle.std.proofs.lemmas.List.Elements.{filter-append}
use Rattle.wiring.specs.Lists.{total}
use Rattle.wiring.specs.Wiring.{In}
use Rattle.wiring.proofs.Lists.{slice_get-append_left, slice_get-append_right, take-append_right}
use Rattle.wiring.proofs.Members.{In-slice_get, In-map, from_In-take, position_of_In}
use Rattle.hw_model.specs.Design.{Ref, Op, RegisterForm, is_register, is_instance, is_output_op, result_type}
use Rattle.hw_model.specs.Types.{HwType}
use Rattle.edit_laws.specs.Edit.{is_anchor, anchors}
use Rattle.edit_laws.proofs.Positions.{take_map}
use Rattle.aggregate_laws.specs.Leaves.{bare, bare_kind, bare_op, leaf_operands, leaf_registers, leaves_of, spread, lower_anchor}
use Rattle.aggregate_laws.specs.Rules.{Rules, begin, leaf_ref, leaf_refs, block, blocks, count_by, SplitsShape}
use Rattle.aggregate_laws.proofs.Bare.{form_bare, is_instance_bare, is_register_bare, is_output_bare, instance_bare, output_bare}
use Rattle.aggregate_laws.proofs.Anchors.{by_form, from_leaf_register}

-- ---- by rules

abbrev pub block_by : Rules → (Ref → List Ref) → ℕ → Op → List Op
block_by rules parts start o = block (rules.rule o) parts start o

abbrev pub position_by : Rules → Op → ℕ → ℕ
position_by rules o = (rules.rule o).position

abbrev pub leaf_by : Rules → ℕ → Op → ℕ → Ref
leaf_by rules start o = leaf_ref (rules.rule o) start o

abbrev pub leaves_by : Rules → ℕ → Op → ℕ → Option HwType → List Ref
leaves_by rules start o = leaf_refs (rules.rule o) start o

-- ---- anchors

pub is_anchor_bare : (o : Op) → is_anchor (bare_op o) ≡ is_anchor o
is_anchor_bare o =
    ap₂ (λ a b. cond a true (cond b true (is_output_op (bare_op o)))) (is_register_bare o) (is_instance_bare o)
    ∙ ap (λ c. cond (is_register o) true (cond (is_instance o) true c)) (is_output_bare o)

-- what a register, an instance or an output becomes is of the same kind
anchor_spread : (parts : Ref → List Ref) (o : Op) → is_anchor o ≡ true → is_anchor (spread parts o) ≡ true
anchor_spread parts o is =
    ap₂ (λ a b. cond (is_some a) true (cond b true (is_output_op (spread parts o)))) (form_bare o.kind) (instance_bare o.kind)
    ∙ ap (λ c. cond (is_register o) true (cond (is_instance o) true c)) (output_bare o.kind) ∙ is

lowered_anchors : (parts : Ref → List Ref) (o : Op) → is_anchor o ≡ true → (x : Op) → In x (lower_anchor parts o) → is_anchor x ≡ true
lowered_anchors parts o is x =
    by_form parts (λ xs. In x xs → is_anchor x ≡ true) o
    (λ f form here.
    let position = position_of_In x (leaf_registers (bare_kind o.kind) (leaf_operands f.has_enable f.reset (map parts o.operands)) 0 (leaves_of (result_type o 0))) here in
    let leaf = from_leaf_register (bare_kind o.kind) (leaf_operands f.has_enable f.reset (map parts o.operands)) (leaves_of (result_type o 0)) 0 position.0 x position.1 in
    ap is_anchor leaf.2 ∙ ap (λ (y : Option RegisterForm). cond (is_some y) true (cond (is_instance (bare (bare_kind o.kind) (leaf_operands f.has_enable f.reset (map parts o.operands) (0 + position.0)) (leaf.0 ∷ [])))
    true (is_output_op (bare (bare_kind o.kind) (leaf_operands f.has_enable f.reset (map parts o.operands) (0 + position.0)) (leaf.0 ∷ []))))) (form_bare o.kind ∙ form))
    (λ none here. by_member here)
  where
    by_member : In x (spread parts o ∷ []) → is_anchor x ≡ true
    by_member (inl same) = ap is_anchor same ∙ anchor_spread parts o is
    by_member (inr never) = absurd never

pub anchors_all : (os : List Op) → ((x : Op) → In x os → is_anchor x ≡ true) → anchors os ≡ os
anchors_all [] all = refl
anchors_all (o ∷ os) all = ap₂ (λ b xs. cond b (o ∷ xs) xs) (all o (inl refl)) (anchors_all os (λ x here. all x (inr here)))

pub anchors_none : (os : List Op) → ((x : Op) → In x os → is_anchor x ≡ false) → anchors os ≡ []
anchors_none [] none = refl
anchors_none (o ∷ os) none = ap₂ (λ b xs. cond b (o ∷ xs) xs) (none o (inl refl)) (anchors_none os (λ x here. none x (inr here)))

module _ (rules : Rules) (parts : Ref → List Ref) where
  -- the block of a register, an instance or an output has these alone
  pub block_anchors : (o : Op) → SplitsShape (rules.rule o) parts o → is_anchor o ≡ true → (start : ℕ) (x : Op) → In x (block_by rules parts start o) → is_anchor x ≡ true
  block_anchors o shape is start x here =
      sym (is_anchor_bare x)
      ∙ lowered_anchors parts o is (bare_op x) (subst (In (bare_op x)) (shape.anchor is start) (In-map bare_op x (block_by rules parts start o) here))

  own_anchors : (o : Op) → SplitsShape (rules.rule o) parts o → (start : ℕ) → map bare_op (anchors (block_by rules parts start o)) ≡ cond (is_anchor o) (lower_anchor parts o) []
  own_anchors o shape start = go (is_anchor o) refl
    where
      go : (b : Bool) → is_anchor o ≡ b → map bare_op (anchors (block_by rules parts start o)) ≡ cond b (lower_anchor parts o) []
      go true is = ap (map bare_op) (anchors_all (block_by rules parts start o) (block_anchors o shape is start)) ∙ shape.anchor is start
      go false is = ap (map bare_op) (anchors_none (block_by rules parts start o) (shape.plain is start))

  -- ---- positions

  pub begin_past : (o : Op) (os : List Op) (j start : ℕ) → (start + count_by rules o) + begin rules os j ≡ start + begin rules (o ∷ os) (suc j)
  begin_past o os j start = omega arith

  module _ (os : List Op) (shapes : (o : Op) → In o os → SplitsShape (rules.rule o) parts o) where
    pub length_blocks : (start : ℕ) → length (blocks rules parts start os) ≡ total (map (count_by rules) os)
    length_blocks start = go os shapes start
      where
        go : (os : List Op) → ((o : Op) → In o os → SplitsShape (rules.rule o) parts o) → (start : ℕ) → length (blocks rules parts start os) ≡ total (map (count_by rules) os)
        go [] shapes start = refl
        go (o ∷ os) shapes start =
            length-append (block_by rules parts start o) (blocks rules parts (start + count_by rules o) os)
            ∙ ap₂ (λ a b. a + b) ((shapes o (inl refl)).size start) (go os (λ x here. shapes x (inr here)) (start + count_by rules o))

  length_prefix : (os : List Op) (shapes : (o : Op) → In o os → SplitsShape (rules.rule o) parts o) (j start : ℕ) → length (blocks rules parts start (take j os)) ≡ begin rules os j
  length_prefix os shapes j start = length_blocks (take j os) (λ o here. shapes o (from_In-take o j os here)) start

  -- the blocks before a position, its own, and those after it
  pub blocks_split : (os : List Op) (j start : ℕ) (o : Op) → slice_get os j ≡ Some o
      → blocks rules parts start os ≡ blocks rules parts start (take j os)
      ++ (block_by rules parts (start + begin rules os j) o ++ blocks rules parts ((start + begin rules os j) + count_by rules o) (drop (suc j) os))
  blocks_split [] j start o is = cc
  blocks_split (x ∷ os) zero start o is =
      let same : x ≡ o = cc in
      ap (λ z. block_by rules parts start z ++ blocks rules parts (start + count_by rules z) os) same
      ∙ ap (λ n. block_by rules parts n o ++ blocks rules parts (n + count_by rules o) os) (sym (add-zero start))
  blocks_split (x ∷ os) (suc j) start o is =
      ap (λ xs. block_by rules parts start x ++ xs) (blocks_split os j (start + count_by rules x) o is)
      ∙ ap (λ n. block_by rules parts start x ++ (blocks rules parts (start + count_by rules x) (take j os) ++ (block_by rules parts n o ++ blocks rules parts (n + count_by rules o) (drop (suc j) os)))) (begin_past x os j start)
      ∙ sym (append_assoc (block_by rules parts start x) (blocks rules parts (start + count_by rules x) (take j os)) _)

  pub blocks_at : (os : List Op) → ((o : Op) → In o os → SplitsShape (rules.rule o) parts o) → (j : ℕ) (o : Op) → slice_get os j ≡ Some o → (i start : ℕ) → i < count_by rules o
      → slice_get (blocks rules parts start os) (begin rules os j + i) ≡ slice_get (block_by rules parts (start + begin rules os j) o) i
  blocks_at os shapes j o is i start below =
      let size : length (block_by rules parts (start + begin rules os j) o) ≡ count_by rules o = (shapes o (In-slice_get o os j is)).size (start + begin rules os j) in
      ap₂ (λ xs n. slice_get xs (n + i)) (blocks_split os j start o is) (sym (length_prefix os shapes j start))
      ∙ slice_get-append_right (blocks rules parts start (take j os)) (block_by rules parts (start + begin rules os j) o ++ blocks rules parts ((start + begin rules os j) + count_by rules o) (drop (suc j) os)) i
      ∙ slice_get-append_left (block_by rules parts (start + begin rules os j) o) (blocks rules parts ((start + begin rules os j) + count_by rules o) (drop (suc j) os)) i (omega arith)

  pub blocks_take : (os : List Op) → ((o : Op) → In o os → SplitsShape (rules.rule o) parts o) → (j : ℕ) (o : Op) → slice_get os j ≡ Some o → (i start : ℕ) → i ≤ count_by rules o
      → take (begin rules os j + i) (blocks rules parts start os) ≡ blocks rules parts start (take j os) ++ take i (block_by rules parts (start + begin rules os j) o)
  blocks_take os shapes j o is i start below =
      let size : length (block_by rules parts (start + begin rules os j) o) ≡ count_by rules o = (shapes o (In-slice_get o os j is)).size (start + begin rules os j) in
      ap₂ (λ xs n. take (n + i) xs) (blocks_split os j start o is) (sym (length_prefix os shapes j start))
      ∙ take-append_right (blocks rules parts start (take j os)) (block_by rules parts (start + begin rules os j) o ++ blocks rules parts ((start + begin rules os j) + count_by rules o) (drop (suc j) os)) i
      ∙ ap (λ xs. blocks rules parts start (take j os) ++ xs)
      (take-append-le i (block_by rules parts (start + begin rules os j) o) (blocks rules parts ((start + begin rules os j) + count_by rules o) (drop (suc j) os)) (omega arith))

  -- a position among the blocks is one in the block of an operation
  pub blocks_position : (os : List Op) → ((o : Op) → In o os → SplitsShape (rules.rule o) parts o) → (start n : ℕ) (x : Op) → slice_get (blocks rules parts start os) n ≡ Some x
      → (j : ℕ) × (o : Op) × (i : ℕ) × (slice_get os j ≡ Some o) × (slice_get (block_by rules parts (start + begin rules os j) o) i ≡ Some x) × (i < count_by rules o) × (n ≡ begin rules os j + i)
  blocks_position [] shapes start n x is = cc
  blocks_position (o ∷ os) shapes start n x is =
      go (grind arith) (blocks_position os (λ y here. shapes y (inr here)) (start + count_by rules o) (n - count_by rules o) x)
    where
      size : length (block_by rules parts start o) ≡ count_by rules o
      size = (shapes o (inl refl)).size start

      go : (n < count_by rules o) ⊎ (count_by rules o ≤ n)
          → (slice_get (blocks rules parts (start + count_by rules o) os) (n - count_by rules o) ≡ Some x
          → (j : ℕ) × (y : Op) × (i : ℕ) × (slice_get os j ≡ Some y) × (slice_get (block_by rules parts ((start + count_by rules o) + begin rules os j) y) i ≡ Some x) × (i < count_by rules y) × (n - count_by rules o ≡ begin rules os j + i))
          → (j : ℕ) × (y : Op) × (i : ℕ) × (slice_get (o ∷ os) j ≡ Some y) × (slice_get (block_by rules parts (start + begin rules (o ∷ os) j) y) i ≡ Some x) × (i < count_by rules y) × (n ≡ begin rules (o ∷ os) j + i)
      go (inl below) rest = (
        0,
        o,
        n,
        refl,
        ap (λ m. slice_get (block_by rules parts m o) n) (add-zero start)
            ∙ sym (slice_get-append_left (block_by rules parts start o) (blocks rules parts (start + count_by rules o) os) n
            (let e : length (block_by rules parts start o) ≡ count_by rules o = (shapes o (inl refl)).size start in omega arith)) ∙ is,
        below,
        sym (zero-add n),
      )
      go (inr past) rest =
          let e : length (block_by rules parts start o) ≡ count_by rules o = (shapes o (inl refl)).size start in
          let sum : n ≡ length (block_by rules parts start o) + (n - count_by rules o) = omega arith in
          let later : slice_get (blocks rules parts (start + count_by rules o) os) (n - count_by rules o) ≡ Some x =
          sym (slice_get-append_right (block_by rules parts start o) (blocks rules parts (start + count_by rules o) os) (n - count_by rules o))
          ∙ ap (slice_get (block_by rules parts start o ++ blocks rules parts (start + count_by rules o) os)) (sym sum) ∙ is in
          let found = rest later in
          let position : n - count_by rules o ≡ begin rules os found.0 + found.2 = found.6 in (
            suc found.0,
            found.1,
            found.2,
            found.3,
            ap (λ m. slice_get (block_by rules parts m found.1) found.2) (sym (begin_past o os found.0 start)) ∙ found.4,
            found.5,
            omega arith,
          )

  -- ---- the registers, instances and outputs of the blocks

  pub anchors_blocks : (os : List Op) → ((o : Op) → In o os → SplitsShape (rules.rule o) parts o) → (start : ℕ)
      → map bare_op (anchors (blocks rules parts start os)) ≡ flat_map (lower_anchor parts) (anchors os)
  anchors_blocks [] shapes start = refl
  anchors_blocks (o ∷ os) shapes start =
      ap (map bare_op) (filter-append is_anchor (block_by rules parts start o) (blocks rules parts (start + count_by rules o) os))
      ∙ map-append bare_op (anchors (block_by rules parts start o)) (anchors (blocks rules parts (start + count_by rules o) os))
      ∙ ap₂ (λ xs ys. xs ++ ys) (own_anchors o (shapes o (inl refl)) start) (anchors_blocks os (λ x here. shapes x (inr here)) (start + count_by rules o))
      ∙ go (is_anchor o)
    where
      go : (b : Bool) → cond b (lower_anchor parts o) [] ++ flat_map (lower_anchor parts) (anchors os) ≡ flat_map (lower_anchor parts) (cond b (o ∷ anchors os) (anchors os))
      go true = refl
      go false = refl

  -- those before the i-th of a block of these
  pub anchors_before : (os : List Op) → ((o : Op) → In o os → SplitsShape (rules.rule o) parts o) → (j : ℕ) (o : Op) → slice_get os j ≡ Some o → is_anchor o ≡ true → (i start : ℕ) → i ≤ count_by rules o
      → map bare_op (anchors (take (begin rules os j + i) (blocks rules parts start os))) ≡ flat_map (lower_anchor parts) (anchors (take j os)) ++ take i (lower_anchor parts o)
  anchors_before os shapes j o is anchor i start within =
      let shape = shapes o (In-slice_get o os j is) in
      ap (λ xs. map bare_op (anchors xs)) (blocks_take os shapes j o is i start within)
      ∙ ap (map bare_op) (filter-append is_anchor (blocks rules parts start (take j os)) (take i (block_by rules parts (start + begin rules os j) o)))
      ∙ map-append bare_op (anchors (blocks rules parts start (take j os))) (anchors (take i (block_by rules parts (start + begin rules os j) o)))
      ∙ ap₂ (λ xs ys. xs ++ ys) (anchors_blocks (take j os) (λ x here. shapes x (from_In-take x j os here)) start)
      (ap (map bare_op) (anchors_all (take i (block_by rules parts (start + begin rules os j) o))
      (λ x here. block_anchors o shape anchor (start + begin rules os j) x (from_In-take x i (block_by rules parts (start + begin rules os j) o) here)))
      ∙ sym (take_map bare_op i (block_by rules parts (start + begin rules os j) o)) ∙ ap (take i) (shape.anchor anchor (start + begin rules os j)))
