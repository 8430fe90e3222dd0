-- The wires of a body are those that the rule gives.
use Rattle.std.proofs.Common.{◌≡◌, ℕ, zero, suc, ◌<◌, ◌≤◌, Bool, true, false, cond, not, ◌&&◌, ◌||◌, ◌↔◌, nat_eq, nat_le, nat_lt, ◌⊎◌, List, [], ◌∷◌, map, Option, Some, None, is_some, slice_get, refl}
use Rattle.std.proofs.Common.{sym, ap, subst, ◌∙◌, inl, inr, eq-eqb, arith}
use Rattle.std.proofs.lemmas.Bool.{leb-true, leb-false, ltb-true, ltb-false, eqb-true, and_from, or_left, or_right, or_cases}
use Rattle.wiring.specs.Wiring.{In, greatest, IsAcyclic}
use Rattle.wiring.proofs.Members.{from_In-map, map_same}
use Rattle.wiring.proofs.Heights.{greatest-le}
use Rattle.hw_model.specs.Types.{Name}
use Rattle.hw_model.specs.Kinds.{Kind}
use Rattle.hw_model.specs.Design.{Ref, Port, Op, is_instance, result_type, register_form, instance_in, is_output_kind}
use Rattle.hw_model.specs.Design.Ref.{port, result, undefined}
use Rattle.hw_model.specs.Flat.{width_of}
use Rattle.ir_store.specs.Positions.{same_ref}
use Rattle.verilog_model.specs.Numerals.{is_nonempty}
use Rattle.verilog_expr.specs.Expressions.{op_at, value_width}
use Rattle.verilog_expr.specs.Spilling.{is_pure, is_wire_kind, is_constant_kind, hint_of, one_if, positions_in, use_count, is_narrower, cuts, joins, some_op, is_shared, height_limit, Part, part_of_op}
use Rattle.verilog_expr.specs.Spilling.{part_of, part, height_under, operands_of, operands_at, height_over, AreHeights, height, has_wire, spilled_op, spilled, inner_needs}
use Rattle.verilog_expr.specs.Spilling.Part.{flat, shared, nested}
use Rattle.verilog_expr.specs.WireRules.{IsComputed, IsCut, IsJoined, WantsWire, heights_without_wire}
use Rattle.verilog_expr.specs.WireRules.WantsWire.{used_twice, cut, joined, hinted, high}
use Rattle.verilog_expr.proofs.PartsMarked.{shared_marked}
use Rattle.verilog_expr.proofs.Bodies.{constant_kind}
use Rattle.verilog_expr.proofs.Heights.{heights_hold}

-- ---- tests and what they say

and_both : (a b : Bool) → (a && b) ≡ true → (a ≡ true) × (b ≡ true)
and_both true b h = (refl, h)
and_both false b h = cc

and_false : (a : Bool) → (a && false) ≡ false
and_false true = refl
and_false false = refl

same_number : (n : ℕ) → nat_eq n n ≡ true
same_number n = eq-eqb n n refl

same_itself : (r : Ref) → same_ref r r ≡ true
same_itself (port j) = same_number j
same_itself (result i k) = and_from (nat_eq i i) (nat_eq k k) (same_number i) (same_number k)
same_itself undefined = refl

same_told : (x r : Ref) → same_ref x r ≡ true → x ≡ r
same_told (port i) (port j) h = ap port (eqb-true i j h)
same_told (port i) (result j l) h = cc
same_told (port i) undefined h = cc
same_told (result i k) (port j) h = cc
same_told (result i k) (result j l) h =
    let both : (nat_eq i j ≡ true) × (nat_eq k l ≡ true) = and_both (nat_eq i j) (nat_eq k l) h in
    ap (λ n. result n k) (eqb-true i j both.0) ∙ ap (result j) (eqb-true k l both.1)
same_told (result i k) undefined h = cc
same_told undefined (port j) h = cc
same_told undefined (result j l) h = cc
same_told undefined undefined h = refl

-- a value has a position in a list exactly where it is a member
placed_member : (r : Ref) (xs : List Ref) → 0 < positions_in r xs → In r xs
placed_member r [] h = absurd (omega (arith, h))
placed_member r (x ∷ xs) h = go (same_ref x r) refl (placed_member r xs) where
  go : (b : Bool) → same_ref x r ≡ b → (0 < positions_in r xs → In r xs) → In r (x ∷ xs)
  go true is rest = inl (sym (same_told x r is))
  go false is rest = let e : one_if (same_ref x r) ≡ 0 = ap one_if is in inr (rest (omega (arith, h, e)))

member_placed : (r : Ref) (xs : List Ref) → In r xs → 0 < positions_in r xs
member_placed r [] here = absurd here
member_placed r (x ∷ xs) (inl same) =
    let e : one_if (same_ref x r) ≡ 1 = ap one_if (subst (λ y. same_ref y r ≡ true) same (same_itself r)) in omega (arith, e)
member_placed r (x ∷ xs) (inr here) = let rest : 0 < positions_in r xs = member_placed r xs here in omega (arith, rest)

has_position : (r : Ref) (xs : List Ref) → nat_lt 0 (positions_in r xs) ≡ true → In r xs
has_position r xs h = placed_member r xs (ltb-true 0 (positions_in r xs) h)

position_had : (r : Ref) (xs : List Ref) → In r xs → nat_lt 0 (positions_in r xs) ≡ true
position_had r xs here = go (nat_lt 0 (positions_in r xs)) refl where
  go : (b : Bool) → nat_lt 0 (positions_in r xs) ≡ b → nat_lt 0 (positions_in r xs) ≡ true
  go true is = is
  go false is = absurd (omega (arith, member_placed r xs here, ltb-false 0 (positions_in r xs) is))

-- some operation passes a test
some_passes : (p : Op → Bool) (os : List Op) → some_op p os ≡ true → (i : ℕ) × (o : Op) × (slice_get os i ≡ Some o) × (p o ≡ true)
some_passes p [] h = cc
some_passes p (o ∷ os) h = go (or_cases (p o) (some_op p os) h) (some_passes p os) where
  go : (p o ≡ true) ⊎ (some_op p os ≡ true) → (some_op p os ≡ true → (i : ℕ) × (q : Op) × (slice_get os i ≡ Some q) × (p q ≡ true))
      → (i : ℕ) × (q : Op) × (slice_get (o ∷ os) i ≡ Some q) × (p q ≡ true)
  go (inl here) rest = (0, o, refl, here)
  go (inr later) rest = let found = rest later in (suc found.0, found.1, found.2, found.3)

pub passes_some : (p : Op → Bool) (os : List Op) (i : ℕ) (o : Op) → slice_get os i ≡ Some o → p o ≡ true → some_op p os ≡ true
passes_some p [] i o there h = cc
passes_some p (q ∷ os) zero o there h = let e : q ≡ o = cc in or_left (p q) (some_op p os) (ap p e ∙ h)
passes_some p (q ∷ os) (suc i) o there h = or_right (p q) (some_op p os) (passes_some p os i o there h)

module _ (ports : List Port) (os : List Op) where
  cut_told : (r : Ref) → some_op (cuts ports os r) os ≡ true → IsCut ports os r
  cut_told r h =
      let found = some_passes (cuts ports os r) os h in
      let both = and_both (is_narrower found.1.kind (width_of (result_type found.1 0)) (value_width ports os r)) (nat_lt 0 (positions_in r found.1.operands)) found.3 in
      record { position = found.0; op = found.1; there = found.2; operand = has_position r found.1.operands both.1; narrower = both.0 }

  told_cut : (r : Ref) → IsCut ports os r → some_op (cuts ports os r) os ≡ true
  told_cut r is = passes_some (cuts ports os r) os is.position is.op is.there (and_from _ _ is.narrower (position_had r is.op.operands is.operand))

  joined_told : (r : Ref) → some_op (joins r) os ≡ true → IsJoined os r
  joined_told r h =
      let found = some_passes (joins r) os h in
      let both = and_both (is_instance found.1) (nat_lt 0 (positions_in r found.1.operands)) found.3 in
      record { position = found.0; op = found.1; there = found.2; operand = has_position r found.1.operands both.1; instance = both.0 }

  told_joined : (r : Ref) → IsJoined os r → some_op (joins r) os ≡ true
  told_joined r is = passes_some (joins r) os is.position is.op is.there (and_from _ _ is.instance (position_had r is.op.operands is.operand))

  hint_told : (h : Name) → is_nonempty h ≡ true → h ≡ [] → ⊥
  hint_told [] some none = cc
  hint_told (b ∷ bs) some none = cc

  told_hint : (h : Name) → (h ≡ [] → ⊥) → is_nonempty h ≡ true
  told_hint [] some = absurd (some refl)
  told_hint (b ∷ bs) some = refl

  abbrev Tests : Ref → Op → Bool
  Tests r o = (nat_le 2 (use_count os r) || some_op (cuts ports os r) os) || (some_op (joins r) os || is_nonempty (hint_of o))

  -- ---- wires

  computed_spilled : (r : Ref) (o : Op) → IsComputed os r o → spilled ports os r ≡ cond (Tests r o) true (nat_le height_limit (height ports os r))
  unfolding spilled
  computed_spilled r o is =
      ap (spilled_op ports os r) is.there
      ∙ ap (λ c. cond c (some_op (cuts ports os r) os) (has_wire (part_of_op ports os r o) (height ports os r))) is.no_constant
      ∙ ap (λ c. has_wire (cond (c && not (is_constant_kind o.kind)) (cond (is_shared ports os r o) shared nested) flat) (height ports os r)) is.pure
      ∙ ap (λ c. has_wire (cond (not c) (cond (is_shared ports os r o) shared nested) flat) (height ports os r)) is.no_constant
      ∙ ap (λ s. has_wire (cond s shared nested) (height ports os r)) (shared_marked ports os r o (hint_of o) refl)
      ∙ go (Tests r o) where
        go : (s : Bool) → has_wire (cond s shared nested) (height ports os r) ≡ cond s true (nat_le height_limit (height ports os r))
        go true = refl
        go false = refl

  pub constant_rule : (r : Ref) (o : Op) → op_at os r ≡ Some o → is_constant_kind o.kind ≡ true → (spilled ports os r ≡ true) ↔ IsCut ports os r
  unfolding spilled
  constant_rule r o there is = ((λ h. cut_told r (sym same ∙ h)), (λ h. same ∙ told_cut r h)) where
    same : spilled ports os r ≡ some_op (cuts ports os r) os
    same =
        ap (spilled_op ports os r) there
        ∙ ap (λ c. cond c (some_op (cuts ports os r) os) (has_wire (part_of_op ports os r o) (height ports os r))) is

  abbrev not_item : Kind → Bool
  not_item k = not (is_some (register_form k) || (is_some (instance_in k) || (is_output_kind k || is_wire_kind k)))

  constants_are_pure : (o : Op) → is_constant_kind o.kind ≡ true → is_pure o ≡ true
  constants_are_pure o is = ap not_item (constant_kind o.kind is).1

  pub others_rule : (r : Ref) → spilled ports os r ≡ true → (o : Op) × (op_at os r ≡ Some o) × (is_pure o ≡ true)
  unfolding spilled
  others_rule r h = go (op_at os r) refl h where
    by_constant : (o : Op) → is_pure o ≡ false → (b : Bool) → is_constant_kind o.kind ≡ b
        → cond b (some_op (cuts ports os r) os) (has_wire (part_of_op ports os r o) (height ports os r)) ≡ true → ⊥
    by_constant o impure true is h = let yes : is_pure o ≡ true = constants_are_pure o is in cc
    by_constant o impure false is h =
        let none : has_wire (part_of_op ports os r o) (height ports os r) ≡ false =
        ap (λ c. has_wire (cond (c && not (is_constant_kind o.kind)) (cond (is_shared ports os r o) shared nested) flat) (height ports os r)) impure in cc

    by_purity : (o : Op) → op_at os r ≡ Some o → (b : Bool) → is_pure o ≡ b → spilled_op ports os r (Some o) ≡ true
        → (q : Op) × (op_at os r ≡ Some q) × (is_pure q ≡ true)
    by_purity o there true pure h = (o, there, pure)
    by_purity o there false impure h = absurd (by_constant o impure (is_constant_kind o.kind) refl h)

    go : (m : Option Op) → op_at os r ≡ m → spilled_op ports os r m ≡ true → (q : Op) × (op_at os r ≡ Some q) × (is_pure q ≡ true)
    go None there h = cc
    go (Some o) there h = by_purity o there (is_pure o) refl h

  -- ---- heights

  under_low : (p : Part) (h : ℕ) → height_under p h ≤ 63
  under_low flat h = omega arith
  under_low shared h = omega arith
  under_low nested h = go (nat_le 64 h) refl where
    go : (b : Bool) → nat_le 64 h ≡ b → cond b 0 h ≤ 63
    go true is = omega arith
    go false is = omega (arith, leb-false 64 h is)

  over_low : (p : Part) (n : ℕ) → n ≤ 63 → height_over p n ≤ 64
  over_low flat n low = omega arith
  over_low shared n low = omega (arith, low)
  over_low nested n low = omega (arith, low)

  module _ (acyclic : IsAcyclic (inner_needs os)) where
    abbrev under : Ref → ℕ
    under x = height_under (part ports os x) (height ports os x)

    is_height : AreHeights ports os (height ports os)
    is_height = heights_hold ports os acyclic

    pub limit_rule : (r : Ref) → height ports os r ≤ height_limit
    limit_rule r =
        let most : greatest (map under (operands_at os r)) ≤ 63 =
        greatest-le (map under (operands_at os r)) 63 (λ m here.
        let found = from_In-map under m (operands_at os r) here in
        let e : m ≡ under found.0 = found.2 in
        let low : under found.0 ≤ 63 = under_low (part ports os found.0) (height ports os found.0) in omega (arith, e, low)) in
        let whole : height_over (part ports os r) (greatest (map under (operands_at os r))) ≤ 64 = over_low (part ports os r) (greatest (map under (operands_at os r))) most in
        let e : height ports os r ≡ height_over (part ports os r) (greatest (map under (operands_at os r))) = is_height r in
        omega (arith, whole, e)

    flat_height : (r : Ref) → part ports os r ≡ flat → height ports os r ≡ 0
    flat_height r is = is_height r ∙ ap (λ p. height_over p (greatest (map under (operands_at os r)))) is

    no_wire_part : (r : Ref) (o : Op) (b c : Bool) → (b && not c) ≡ false → cond (b && not c) (cond (is_shared ports os r o) shared nested) flat ≡ flat
    no_wire_part r o b c is = ap (λ d. cond d (cond (is_shared ports os r o) shared nested) flat) is

    pub names_rule : (r : Ref) → ((o : Op) → IsComputed os r o → ⊥) → height ports os r ≡ 0
    names_rule r other = flat_height r (go (op_at os r) refl) where
      by_kind : (o : Op) → op_at os r ≡ Some o → (b c : Bool) → is_pure o ≡ b → is_constant_kind o.kind ≡ c → (b && not c) ≡ false
      by_kind o there true true pure constant = refl
      by_kind o there true false pure constant = absurd (other o (record { there = there; pure = pure; no_constant = constant }))
      by_kind o there false c pure constant = refl

      go : (m : Option Op) → op_at os r ≡ m → part_of ports os r m ≡ flat
      go None there = refl
      go (Some o) there = no_wire_part r o (is_pure o) (is_constant_kind o.kind) (by_kind o there (is_pure o) (is_constant_kind o.kind) refl refl)

    computed_part : (r : Ref) (o : Op) → is_pure o ≡ true → is_constant_kind o.kind ≡ false → part_of_op ports os r o ≡ cond (is_shared ports os r o) shared nested
    computed_part r o pure other =
        ap (λ b. cond (b && not (is_constant_kind o.kind)) (cond (is_shared ports os r o) shared nested) flat) pure
        ∙ ap (λ c. cond (not c) (cond (is_shared ports os r o) shared nested) flat) other

    either_zero : (b : Bool) (h : ℕ) → h ≡ 0 → 0 ≡ cond b 0 h
    either_zero true h is = refl
    either_zero false h is = sym is

    -- an operand with a wire stands by its name, another one by its height
    under_spilled : (x : Ref) → under x ≡ cond (spilled ports os x) 0 (height ports os x)
    unfolding spilled
    under_spilled x = go (op_at os x) refl where
      flat_under : (o : Op) → op_at os x ≡ Some o → part_of_op ports os x o ≡ flat
          → height_under (part_of_op ports os x o) (height ports os x) ≡ cond (spilled_op ports os x (Some o)) 0 (height ports os x)
      flat_under o there is =
          ap (λ p. height_under p (height ports os x)) is
          ∙ either_zero (spilled_op ports os x (Some o)) (height ports os x) (flat_height x (ap (part_of ports os x) there ∙ is))

      either : (s : Bool) (h : ℕ) → height_under (cond s shared nested) h ≡ cond (has_wire (cond s shared nested) h) 0 h
      either true h = refl
      either false h = refl

      by_kind : (o : Op) → op_at os x ≡ Some o → (b c : Bool) → is_pure o ≡ b → is_constant_kind o.kind ≡ c
          → height_under (part_of_op ports os x o) (height ports os x) ≡ cond (spilled_op ports os x (Some o)) 0 (height ports os x)
      by_kind o there false c pure kind =
          flat_under o there (ap (λ b. cond (b && not (is_constant_kind o.kind)) (cond (is_shared ports os x o) shared nested) flat) pure)
      by_kind o there true true pure kind =
          flat_under o there (no_wire_part x o (is_pure o) (is_constant_kind o.kind) (ap (λ c. is_pure o && not c) kind ∙ and_false (is_pure o)))
      by_kind o there true false pure kind =
          ap (λ p. height_under p (height ports os x)) (computed_part x o pure kind)
          ∙ either (is_shared ports os x o) (height ports os x)
          ∙ sym (ap (λ p. cond (has_wire p (height ports os x)) 0 (height ports os x)) (computed_part x o pure kind))
          ∙ sym (ap (λ c. cond (cond c (some_op (cuts ports os x) os) (has_wire (part_of_op ports os x o) (height ports os x))) 0 (height ports os x)) kind)

      go : (m : Option Op) → op_at os x ≡ m → height_under (part_of ports os x m) (height ports os x) ≡ cond (spilled_op ports os x m) 0 (height ports os x)
      go None there = sym (flat_height x (ap (part_of ports os x) there))
      go (Some o) there = by_kind o there (is_pure o) (is_constant_kind o.kind) refl refl

    pub heights_rule : (r : Ref) (o : Op) → IsComputed os r o → height ports os r ≡ suc (greatest (heights_without_wire ports os o.operands))
    heights_rule r o is =
        is_height r
        ∙ ap (λ m. height_over (part_of ports os r m) (greatest (map under (operands_of m)))) is.there
        ∙ ap (λ p. height_over p (greatest (map under o.operands))) (computed_part r o is.pure is.no_constant)
        ∙ more (is_shared ports os r o) (greatest (map under o.operands))
        ∙ ap (λ hs. suc (greatest hs)) (map_same under (λ x. cond (spilled ports os x) 0 (height ports os x)) o.operands (λ x here. under_spilled x)) where
          more : (s : Bool) (n : ℕ) → height_over (cond s shared nested) n ≡ suc n
          more true n = refl
          more false n = refl

    pub computed_rule : (r : Ref) (o : Op) → IsComputed os r o → (spilled ports os r ≡ true) ↔ WantsWire ports os r o
    computed_rule r o is = ((λ h. told (Tests r o) refl (sym (computed_spilled r o is) ∙ h)), (λ w. computed_spilled r o is ∙ by_reason w)) where
      by_tests : ((nat_le 2 (use_count os r) || some_op (cuts ports os r) os) ≡ true) ⊎ ((some_op (joins r) os || is_nonempty (hint_of o)) ≡ true) → WantsWire ports os r o
      by_tests (inl first) = go (or_cases (nat_le 2 (use_count os r)) (some_op (cuts ports os r) os) first) where
        go : (nat_le 2 (use_count os r) ≡ true) ⊎ (some_op (cuts ports os r) os ≡ true) → WantsWire ports os r o
        go (inl many) = used_twice (leb-true 2 (use_count os r) many)
        go (inr some) = cut (cut_told r some)
      by_tests (inr second) = go (or_cases (some_op (joins r) os) (is_nonempty (hint_of o)) second) where
        go : (some_op (joins r) os ≡ true) ⊎ (is_nonempty (hint_of o) ≡ true) → WantsWire ports os r o
        go (inl some) = joined (joined_told r some)
        go (inr some) = hinted (hint_told (hint_of o) some)

      told : (b : Bool) → Tests r o ≡ b → cond b true (nat_le height_limit (height ports os r)) ≡ true → WantsWire ports os r o
      told true tests h = by_tests (or_cases (nat_le 2 (use_count os r) || some_op (cuts ports os r) os) (some_op (joins r) os || is_nonempty (hint_of o)) tests)
      told false tests h = high (omega (arith, leb-true height_limit (height ports os r) h, limit_rule r))

      from_test : Tests r o ≡ true → cond (Tests r o) true (nat_le height_limit (height ports os r)) ≡ true
      from_test h = ap (λ b. cond b true (nat_le height_limit (height ports os r))) h

      either_way : (b c : Bool) → c ≡ true → cond b true c ≡ true
      either_way true c h = refl
      either_way false c h = h

      many_uses : 2 ≤ use_count os r → nat_le 2 (use_count os r) ≡ true
      many_uses two = go (nat_le 2 (use_count os r)) refl where
        go : (b : Bool) → nat_le 2 (use_count os r) ≡ b → nat_le 2 (use_count os r) ≡ true
        go true is = is
        go false is = absurd (omega (arith, two, leb-false 2 (use_count os r) is))

      reached : height ports os r ≡ height_limit → nat_le height_limit (height ports os r) ≡ true
      reached e = ap (nat_le height_limit) e

      by_reason : WantsWire ports os r o → cond (Tests r o) true (nat_le height_limit (height ports os r)) ≡ true
      by_reason (used_twice two) = from_test (or_left _ _ (or_left _ _ (many_uses two)))
      by_reason (cut some) = from_test (or_left _ _ (or_right (nat_le 2 (use_count os r)) _ (told_cut r some)))
      by_reason (joined some) = from_test (or_right (nat_le 2 (use_count os r) || some_op (cuts ports os r) os) _ (or_left _ _ (told_joined r some)))
      by_reason (hinted some) =
          from_test (or_right (nat_le 2 (use_count os r) || some_op (cuts ports os r) os) _ (or_right (some_op (joins r) os) _ (told_hint (hint_of o) some)))
      by_reason (high e) = either_way (Tests r o) (nat_le height_limit (height ports os r)) (reached e)
