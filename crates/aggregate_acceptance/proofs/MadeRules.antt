-- What rules make for leaves is good.
use Rattle.std.proofs.Common.{◌≡◌, ◌⊎◌, ℕ, zero, suc, ◌+◌, ◌^◌, ◌<◌, ◌≤◌, false, List, [], ◌∷◌, ◌++◌, map, ℤ, pos, Some, slice_get, refl, sym, ap, subst, ◌∙◌, inl, inr, arith, add-zero, pow_pos}
use Rattle.wiring.specs.Wiring.{In}
use Rattle.wiring.proofs.Members.{In-append_cases}
use Rattle.hw_model.specs.Types.{Name, HwType}
use Rattle.hw_model.specs.Types.HwType.{int}
use Rattle.hw_model.specs.Kinds.{Reset, RegisterOp}
use Rattle.hw_model.specs.Kinds.Predicate.{eq}
use Rattle.hw_model.specs.Kinds.Reset.{sync_reset}
use Rattle.hw_model.specs.Kinds.RegisterOp.{compreg, compreg_ce, firreg}
use Rattle.hw_model.specs.Kinds.Kind.{icmp, mux, constant, wire, register, async_firreg}
use Rattle.hw_model.specs.Opcodes.{opcode_of}
use Rattle.hw_model.specs.Design.{Ref, Port, Op, takes_enable}
use Rattle.hw_model.specs.Design.Ref.{result}
use Rattle.hw_model.specs.Sound.{type_in, OpFits}
use Rattle.stored_form.specs.Bytes.{AreBytes}
use Rattle.stored_form.specs.Constants.{kept_integer}
use Rattle.stored_form.specs.Dictionaries.{has_name}
use Rattle.stored_form.specs.Limits.{IsInteger}
use Rattle.op_checks.specs.LiteralChecks.{is_outside_type}
use Rattle.aggregate_laws.specs.Leaves.{part}
use Rattle.aggregate_laws.specs.OperationRules.{made_op, for_each}
use Rattle.aggregate_laws.specs.Choices.{tests, choices, leaf_choices}
use Rattle.aggregate_acceptance.proofs.LeafTypes.{IsNarrow}
use Rattle.aggregate_acceptance.proofs.MadeKinds.{IsMadeKind, wire_made, mux_made, constant_made, number_made, compare_made, register_made, async_made, register_written, register_known}
use Rattle.aggregate_acceptance.proofs.MadeOps.{IsGood, made_good}

-- ---- kinds, at integers within the limits

wire_kind : (t : HwType) → IsNarrow t → IsMadeKind wire (t ∷ []) (t ∷ []) t
wire_kind t is = subst (λ u. IsMadeKind wire (u ∷ []) (u ∷ []) u) (sym is.is) (wire_made is.bits is.within)

mux_kind : (t : HwType) → IsNarrow t → IsMadeKind mux (int 1 ∷ t ∷ t ∷ []) (t ∷ []) t
mux_kind t is = subst (λ u. IsMadeKind mux (int 1 ∷ u ∷ u ∷ []) (u ∷ []) u) (sym is.is) (mux_made is.bits is.within)

zero_kind : (t : HwType) → IsNarrow t → IsMadeKind (constant (pos 0)) [] (t ∷ []) t
zero_kind t is = subst (λ u. IsMadeKind (constant (pos 0)) [] (u ∷ []) u) (sym is.is) (number_made is.bits 0 is.within (pow_pos is.bits))

pub constant_kind : (t : HwType) (z : ℤ) → IsNarrow t → is_outside_type z t ≡ false → kept_integer t z ≡ z → IsInteger z → IsMadeKind (constant z) [] (t ∷ []) t
constant_kind t z is range kept written =
    subst (λ u. IsMadeKind (constant z) [] (u ∷ []) u) (sym is.is)
    (constant_made is.bits z is.within (ap (is_outside_type z) (sym is.is) ∙ range) (ap (λ u. kept_integer u z) (sym is.is) ∙ kept) written)

register_kind : (f : RegisterOp) (r : Reset) (t : HwType) → IsNarrow t → IsMadeKind (register f r) (register_written (takes_enable f) r t) (t ∷ []) t
register_kind f r t is =
    subst (λ u. IsMadeKind (register f r) (register_written (takes_enable f) r u) (u ∷ []) u) (sym is.is) (register_made f r is.bits is.within)

async_kind : (t : HwType) → IsNarrow t → IsMadeKind async_firreg (register_written false sync_reset t) (t ∷ []) t
async_kind t is = subst (λ u. IsMadeKind async_firreg (register_written false sync_reset u) (u ∷ []) u) (sym is.is) (async_made is.bits is.within)

register_named : (f : RegisterOp) (r : Reset) (name : Name) → has_name (opcode_of (register f r)) ≡ false → name ≡ []
register_named compreg r name none = cc
register_named compreg_ce r name none = cc
register_named firreg r name none = cc

-- ---- one operation for each of some types

pub from_for_each : (each : ℕ → HwType → Op) (n : ℕ) (ts : List HwType) (x : Op) → In x (for_each each n ts)
    → (i : ℕ) × (t : HwType) × (slice_get ts i ≡ Some t) × (x ≡ each (n + i) t)
from_for_each each n [] x here = absurd here
from_for_each each n (t ∷ ts) x (inl same) = (0, t, refl, same ∙ ap (λ k. each k t) (sym (add-zero n)))
from_for_each each n (t ∷ ts) x (inr here) =
    let found = from_for_each each (suc n) ts x here in
    (suc found.0, found.1, found.2, found.3 ∙ ap (λ k. each k found.1) (let e : suc n + found.0 ≡ n + suc found.0 = omega arith in e))

among_types : (ts : List HwType) (i : ℕ) (t : HwType) → slice_get ts i ≡ Some t → In t ts
among_types [] i t is = cc
among_types (u ∷ ts) zero t is = let same : t ≡ u = cc in inl same
among_types (u ∷ ts) (suc i) t is = inr (among_types ts i t is)

-- ---- in a body

module _ (ps : List Port) (os : List Op) where
  -- operations that fit are good
  abbrev pub AreGood : List Op → Type 0
  AreGood xs = (x : Op) → In x xs → OpFits (type_in ps os) x → IsGood ps os x

  pub good_append : (xs ys : List Op) → AreGood xs → AreGood ys → AreGood (xs ++ ys)
  good_append xs ys first second x here fits = go (In-append_cases x xs ys here)
    where
      go : In x xs ⊎ In x ys → IsGood ps os x
      go (inl there) = first x there fits
      go (inr there) = second x there fits

  -- the same for an operation that is another
  pub good_same : (x y : Op) → x ≡ y → (OpFits (type_in ps os) y → IsGood ps os y) → OpFits (type_in ps os) x → IsGood ps os x
  good_same x y same good fits = subst (IsGood ps os) (sym same) (good (subst (OpFits (type_in ps os)) same fits))

  wire_good : (o : Op) (r : Ref) (name : Name) (t : HwType) → IsNarrow t → AreBytes name → OpFits (type_in ps os) (made_op o wire (r ∷ []) (t ∷ []) name t)
      → IsGood ps os (made_op o wire (r ∷ []) (t ∷ []) name t)
  wire_good o r name t narrow bytes fits =
      made_good ps os o wire (r ∷ []) (t ∷ []) (t ∷ []) name t (wire_kind t narrow) (fits 0 t refl) (λ none. cc) bytes

  mux_good : (o : Op) (a b c : Ref) (t : HwType) → IsNarrow t → OpFits (type_in ps os) (made_op o mux (a ∷ b ∷ c ∷ []) (t ∷ []) [] t)
      → IsGood ps os (made_op o mux (a ∷ b ∷ c ∷ []) (t ∷ []) [] t)
  mux_good o a b c t narrow fits =
      made_good ps os o mux (a ∷ b ∷ c ∷ []) (int 1 ∷ t ∷ t ∷ []) (t ∷ []) [] t (mux_kind t narrow) (fits 0 t refl) (λ none. refl) tt

  constant_good : (o : Op) (z : ℤ) (t : HwType) → IsMadeKind (constant z) [] (t ∷ []) t → IsGood ps os (made_op o (constant z) [] (t ∷ []) [] t)
  constant_good o z t made = made_good ps os o (constant z) [] [] (t ∷ []) [] t made refl (λ none. refl) tt

  compare_good : (o : Op) (w : ℕ) (index r : Ref) → IsNarrow (int w) → type_in ps os index ≡ Some (int w)
      → OpFits (type_in ps os) (made_op o (icmp eq) (index ∷ r ∷ []) (int w ∷ []) [] (int 1)) → IsGood ps os (made_op o (icmp eq) (index ∷ r ∷ []) (int w ∷ []) [] (int 1))
  compare_good o w index r narrow typed fits =
      let given = fits 0 (int 1) refl in
      let given_types : map (type_in ps os) (index ∷ r ∷ []) ≡ Some given.0 ∷ Some given.0 ∷ [] = given.1 in
      let first : type_in ps os index ≡ Some given.0 = cc in
      let both : Some given.0 ≡ Some (int w) = sym first ∙ typed in
      let same : given.0 ≡ int w = cc in
      let width : int w ≡ int narrow.bits = narrow.is in
      made_good ps os o (icmp eq) (index ∷ r ∷ []) (int w ∷ int w ∷ []) (int w ∷ []) [] (int 1)
      (subst (λ u. IsMadeKind (icmp eq) (u ∷ u ∷ []) (u ∷ []) (int 1)) (sym width) (compare_made eq narrow.bits narrow.within))
      (given_types ∙ ap (λ u. Some u ∷ Some u ∷ []) same) (λ none. refl) tt

  register_good : (o : Op) (f : RegisterOp) (r : Reset) (rs : List Ref) (name : Name) (t : HwType) → IsNarrow t → AreBytes name
      → OpFits (type_in ps os) (made_op o (register f r) rs (t ∷ []) name t) → IsGood ps os (made_op o (register f r) rs (t ∷ []) name t)
  register_good o f r rs name t narrow bytes fits =
      made_good ps os o (register f r) rs (register_written (takes_enable f) r t) (t ∷ []) name t (register_kind f r t narrow)
      (fits 0 t refl ∙ register_known (takes_enable f) r t) (register_named f r name) bytes

  async_good : (o : Op) (rs : List Ref) (name : Name) (t : HwType) → IsNarrow t → AreBytes name
      → OpFits (type_in ps os) (made_op o async_firreg rs (t ∷ []) name t) → IsGood ps os (made_op o async_firreg rs (t ∷ []) name t)
  async_good o rs name t narrow bytes fits =
      made_good ps os o async_firreg rs (register_written false sync_reset t) (t ∷ []) name t (async_kind t narrow) (fits 0 t refl ∙ register_known false sync_reset t)
      (λ none. cc) bytes

  -- ---- rules

  -- a wire for each leaf
  pub wires_good : (o : Op) (names : ℕ → Name) (chosen : List Ref) (ts : List HwType) → ((t : HwType) → In t ts → IsNarrow t) → ((i : ℕ) → AreBytes (names i))
      → AreGood (for_each (λ i t. made_op o wire (part chosen i ∷ []) (t ∷ []) (names i) t) 0 ts)
  wires_good o names chosen ts narrow bytes x here fits =
      let found = from_for_each (λ i t. made_op o wire (part chosen i ∷ []) (t ∷ []) (names i) t) 0 ts x here in
      good_same x (made_op o wire (part chosen (0 + found.0) ∷ []) (found.1 ∷ []) (names (0 + found.0)) found.1) found.3
      (wire_good o (part chosen (0 + found.0)) (names (0 + found.0)) found.1 (narrow found.1 (among_types ts found.0 found.1 found.2)) (bytes (0 + found.0))) fits

  -- a multiplexer for each leaf
  pub muxes_good : (o : Op) (a b c : ℕ → Ref) (ts : List HwType) → ((t : HwType) → In t ts → IsNarrow t)
      → AreGood (for_each (λ i t. made_op o mux (a i ∷ b i ∷ c i ∷ []) (t ∷ []) [] t) 0 ts)
  muxes_good o a b c ts narrow x here fits =
      let found = from_for_each (λ i t. made_op o mux (a i ∷ b i ∷ c i ∷ []) (t ∷ []) [] t) 0 ts x here in
      good_same x (made_op o mux (a (0 + found.0) ∷ b (0 + found.0) ∷ c (0 + found.0) ∷ []) (found.1 ∷ []) [] found.1) found.3
      (mux_good o (a (0 + found.0)) (b (0 + found.0)) (c (0 + found.0)) found.1 (narrow found.1 (among_types ts found.0 found.1 found.2))) fits

  -- a constant for each leaf
  pub constants_good : (o : Op) (number : ℕ → ℤ) (ts : List HwType) → ((i : ℕ) (t : HwType) → slice_get ts i ≡ Some t → IsMadeKind (constant (number i)) [] (t ∷ []) t)
      → AreGood (for_each (λ i t. made_op o (constant (number i)) [] (t ∷ []) [] t) 0 ts)
  constants_good o number ts made x here fits =
      let found = from_for_each (λ i t. made_op o (constant (number i)) [] (t ∷ []) [] t) 0 ts x here in
      let position : 0 + found.0 ≡ found.0 = omega arith in
      good_same x (made_op o (constant (number (0 + found.0))) [] (found.1 ∷ []) [] found.1) found.3
      (λ given. constant_good o (number (0 + found.0)) found.1
      (subst (λ k. IsMadeKind (constant (number k)) [] (found.1 ∷ []) found.1) (sym position) (made found.0 found.1 found.2))) fits

  -- a register for each leaf
  pub registers_good : (o : Op) (f : RegisterOp) (r : Reset) (rs : ℕ → List Ref) (names : ℕ → Name) (ts : List HwType) → o.kind ≡ register f r
      → ((t : HwType) → In t ts → IsNarrow t) → ((i : ℕ) → AreBytes (names i)) → AreGood (for_each (λ i t. made_op o o.kind (rs i) (t ∷ []) (names i) t) 0 ts)
  registers_good o f r rs names ts is narrow bytes x here fits =
      let found = from_for_each (λ i t. made_op o o.kind (rs i) (t ∷ []) (names i) t) 0 ts x here in
      good_same x (made_op o (register f r) (rs (0 + found.0)) (found.1 ∷ []) (names (0 + found.0)) found.1)
      (found.3 ∙ ap (λ k. made_op o k (rs (0 + found.0)) (found.1 ∷ []) (names (0 + found.0)) found.1) is)
      (register_good o f r (rs (0 + found.0)) (names (0 + found.0)) found.1 (narrow found.1 (among_types ts found.0 found.1 found.2)) (bytes (0 + found.0))) fits

  pub asyncs_good : (o : Op) (rs : ℕ → List Ref) (names : ℕ → Name) (ts : List HwType) → o.kind ≡ async_firreg
      → ((t : HwType) → In t ts → IsNarrow t) → ((i : ℕ) → AreBytes (names i)) → AreGood (for_each (λ i t. made_op o o.kind (rs i) (t ∷ []) (names i) t) 0 ts)
  asyncs_good o rs names ts is narrow bytes x here fits =
      let found = from_for_each (λ i t. made_op o o.kind (rs i) (t ∷ []) (names i) t) 0 ts x here in
      good_same x (made_op o async_firreg (rs (0 + found.0)) (found.1 ∷ []) (names (0 + found.0)) found.1)
      (found.3 ∙ ap (λ k. made_op o k (rs (0 + found.0)) (found.1 ∷ []) (names (0 + found.0)) found.1) is)
      (async_good o (rs (0 + found.0)) (names (0 + found.0)) found.1 (narrow found.1 (among_types ts found.0 found.1 found.2)) (bytes (0 + found.0))) fits

  -- ---- what an index chooses

  -- the tests of an index
  pub tests_good : (o : Op) (w : ℕ) (index : Ref) (start from n : ℕ) → IsNarrow (int w) → type_in ps os index ≡ Some (int w) → from + n ≤ 2 ^ w
      → AreGood (tests o w index start from n)
  tests_good o w index start from zero narrow typed room x here fits = absurd here
  tests_good o w index start from (suc n) narrow typed room x (inl same) fits =
      good_same x (made_op o (constant (pos from)) [] (int w ∷ []) [] (int w)) same
      (λ given.
      let width : int w ≡ int narrow.bits = narrow.is in
      let bits : w ≡ narrow.bits = cc in
      constant_good o (pos from) (int w)
      (subst (λ k. from < 2 ^ k → IsMadeKind (constant (pos from)) [] (int k ∷ []) (int k)) (sym bits) (number_made narrow.bits from narrow.within) (omega arith))) fits
  tests_good o w index start from (suc n) narrow typed room x (inr (inl same)) fits =
      good_same x (made_op o (icmp eq) (index ∷ result start 0 ∷ []) (int w ∷ []) [] (int 1)) same (compare_good o w index (result start 0) narrow typed) fits
  tests_good o w index start from (suc n) narrow typed room x (inr (inr here)) fits = tests_good o w index (start + 2) (suc from) n narrow typed (omega arith) x here fits

  choices_good : (o : Op) (t : HwType) (test element : ℕ → Ref) (before n : ℕ) → IsNarrow t → AreGood (choices o t test element before n)
  choices_good o t test element before zero narrow x here fits = absurd here
  choices_good o t test element before (suc n) narrow x (inl same) fits =
      good_same x (made_op o mux (test n ∷ element n ∷ result before 0 ∷ []) (t ∷ []) [] t) same (mux_good o (test n) (element n) (result before 0) t narrow) fits
  choices_good o t test element before (suc n) narrow x (inr here) fits = choices_good o t test element (suc before) n narrow x here fits

  -- the multiplexers of all leaves
  pub leaf_choices_good : (o : Op) (test : ℕ → Ref) (element : ℕ → ℕ → Ref) (sizes : ℕ → ℕ) (start l : ℕ) (ts : List HwType) → ((t : HwType) → In t ts → IsNarrow t)
      → AreGood (leaf_choices o test element sizes start l ts)
  leaf_choices_good o test element sizes start l [] narrow x here fits = absurd here
  leaf_choices_good o test element sizes start l (t ∷ ts) narrow x (inl same) fits =
      good_same x (made_op o (constant (pos 0)) [] (t ∷ []) [] t) same (λ given. constant_good o (pos 0) t (zero_kind t (narrow t (inl refl)))) fits
  leaf_choices_good o test element sizes start l (t ∷ ts) narrow x (inr here) fits =
      good_append (choices o t test (element l) start (sizes l)) (leaf_choices o test element sizes (start + suc (sizes l)) (suc l) ts)
      (choices_good o t test (element l) start (sizes l) (narrow t (inl refl)))
      (leaf_choices_good o test element sizes (start + suc (sizes l)) (suc l) ts (λ u there. narrow u (inr there))) x here fits
