-- The expressions of a body's values meet the checks of a text.
use Rattle.std.proofs.Common.{◌≡◌, ℕ, ◌+◌, ◌%◌, ◌<◌, ◌≤◌, ◌^◌, Bool, true, false, List, [], ◌∷◌, map, length, Option, Some, None, is_some, slice_get, refl, sym, ap, ap₂, subst, ◌∙◌, inl, inr, arith, option_and_then}
use Rattle.std.proofs.Math.Nat.{mod-eq_of_lt}
use Rattle.std.proofs.lemmas.Nat.{pow_pos}
use Rattle.std.proofs.lemmas.Bool.{ltb-true, false≢true}
use Rattle.wiring.specs.Wiring.{In, IsAcyclic}
use Rattle.wiring.proofs.Members.{from_In-map}
use Rattle.wiring.proofs.Settled.{by_needs}
use Rattle.bits_core.specs.Word.{Word, number, bits_of_ℤ}
use Rattle.bits_core.proofs.Numbers.{number_below}
use Rattle.bits_core.proofs.Complement.{length-bits_of_ℤ}
use Rattle.hw_model.specs.Types.{Name, HwType, width}
use Rattle.hw_model.specs.Kinds.{Kind}
use Rattle.hw_model.specs.Kinds.Kind.{constant, extract, concat}
use Rattle.hw_model.specs.Design.{Ref, Port, Op, result_type}
use Rattle.hw_model.specs.Design.Ref.{port, result, undefined}
use Rattle.hw_model.specs.Flat.{width_of}
use Rattle.hw_model.specs.Sound.{type_in, Fits}
use Rattle.wiring.specs.Lists.{total}
use Rattle.verilog_model.specs.Tree.{Expr}
use Rattle.verilog_model.specs.Tree.Expr.{name}
use Rattle.verilog_model.specs.Checks.{Declared}
use Rattle.verilog_expr.specs.Building.{kind_expr}
use Rattle.verilog_expr.specs.Extensions.{place_of, alone_or}
use Rattle.verilog_expr.specs.declared.extending.Extending.{Extending}
use Rattle.verilog_expr.specs.declared.extending.Extending.TheVariants.{Off, Own, Given}
use Rattle.verilog_expr.specs.Expressions.{value_width, constant_number, constant_of, divisor_in, lends, operand_exprs, extended_in, op_expr, own_expr, AreExprs}
use Rattle.verilog_expr.specs.Spilling.{is_pure, is_narrower, inner_needs}
use Rattle.verilog_expr.specs.Values.{IsDivision, gives_values, IsWritable}
use Rattle.verilog_expr.proofs.Bodies.{map_map, gives_values-pure, pure_needs, item_kind, as_many, named_twice, is_name, is_own, is_made}
use Rattle.verilog_expr.proofs.Extended.{alone_none, extended_is}
use Rattle.verilog_expr.proofs.Nets.{results, IsWithin-results}
use Rattle.verilog_expr.proofs.Checked.{IsWell, IsWide, HaveWell, IsDivided, IsCut, built_well}

-- the names of values are known, with all their bits
pub record AreKnown (known : List Declared) (named : Ref → Option Name) (ports : List Port) (os : List Op) : Type 0 where
  pub well : (r : Ref) (n : Name) → named r ≡ Some n → IsWell known (name n)
  pub wide : (r : Ref) (n : Name) → named r ≡ Some n → 1 < value_width ports os r → IsWide known (value_width ports os r) (name n)

-- what the lemmas on expressions do not look at
no_widths : Name → ℕ
no_widths n = 0

no_words : Name → Word
no_words n = []

module _ (known : List Declared) (named : Ref → Option Name) (ports : List Port) (os : List Op) (ex : Extending → Ref → Expr)
    (writable : IsWritable named ports os) (acyclic : IsAcyclic (inner_needs os)) (are : AreExprs named ports os ex) (names : AreKnown known named ports os) where
  Typed : Ref → Type 0
  Typed r = is_some (type_in ports os r) ≡ true → (x : Extending) → IsWell known (ex x r)

  all_typed : (x : Extending) (kind : Kind) (all : List Ref) (i : ℕ) (rs : List Ref) → ((q : Ref) → In q rs → Typed q)
      → HaveWell known (map (type_in ports os) rs) (operand_exprs x ex kind all i rs)
  unfolding Typed HaveWell
  all_typed x kind all i [] good = tt
  all_typed x kind all i (r ∷ rs) good =
      ((λ some. good r (inl refl) some (place_of x kind i (lends ex all i))), all_typed x kind all (i + 1) rs (λ q here. good q (inr here)))

  constant_bound : (kind : Kind) (w : ℕ) → constant_number kind w < 2 ^ w
  constant_bound (constant z) w = subst (λ n. number (bits_of_ℤ w z) < 2 ^ n) (length-bits_of_ℤ w z) (number_below (bits_of_ℤ w z))
  constant_bound _ w = pow_pos w

  divided_well : (i k : ℕ) (o : Op) (t : HwType) → slice_get os i ≡ Some o → gives_values o ≡ true → result_type o k ≡ Some t → IsDivided known o.kind (width t) (divisor_in os (width t) o.operands)
  unfolding IsDivided
  divided_well i k o t there values is division =
      let d : IsDivision os o = writable.divisions i o there division in
      let first : k ≡ 0 = writable.one_result i k o t there values is in
      let at_zero : result_type o 0 ≡ Some t = ap (result_type o) (sym first) ∙ is in
      let number_is : divisor_in os (width t) o.operands ≡ constant_number d.by.kind (width t) = ap (divisor_in os (width t)) d.operands ∙ ap (λ m. constant_of m (width t)) d.there in
      let small : constant_number d.by.kind (width t) < 2 ^ width t = constant_bound d.by.kind (width t) in
      let rest : constant_number d.by.kind (width t) % 2 ^ width t ≡ constant_number d.by.kind (width t) = mod-eq_of_lt small in
      subst (λ n. 0 < n) (sym (ap (λ n. n % 2 ^ width t) number_is ∙ rest)) (d.not_zero t at_zero)

  cut_wide : (x : Extending) (i k : ℕ) (o : Op) (t : HwType) → slice_get os i ≡ Some o → gives_values o ≡ true → result_type o k ≡ Some t
      → IsCut known o.kind (width t) (map (type_in ports os) o.operands) (operand_exprs x ex o.kind o.operands 0 o.operands)
  unfolding IsCut
  cut_wide x i k o t there values is u e types exprs narrower = go o.operands refl where
    p : Extending
    p = place_of x o.kind 0 (lends ex o.operands 0)

    by_name : (r : Ref) → type_in ports os r ≡ u → ex p r ≡ e → 1 < value_width ports os r → (m : Option Name) → named r ≡ m → is_some m ≡ true → IsWide known (width_of u) e
    by_name r type same large None unnamed some = absurd (false≢true some)
    by_name r type same large (Some n) named_so some =
        subst (λ w. IsWide known w e) (ap width_of type)
        (subst (IsWide known (value_width ports os r)) (sym (is_name named ports os ex no_widths no_words are p r n named_so) ∙ same) (names.wide r n named_so large))

    width_at_zero : width_of (result_type o 0) ≡ width t
    width_at_zero = ap width_of (ap (result_type o) (sym (writable.one_result i k o t there values is)) ∙ is)

    narrower_less : (kind : Kind) (v w : ℕ) → is_narrower kind v w ≡ true → v < w
    narrower_less (extract low) v w h = ltb-true v w h
    narrower_less _ v w h = absurd (false≢true h)

    of_one : (r : Ref) → o.operands ≡ r ∷ [] → type_in ports os r ≡ u → ex p r ≡ e → IsWide known (width_of u) e
    of_one r alone type same =
        let some : 1 ≤ width t = writable.bits i k o t there is in
        let less : width t < width_of u = narrower_less o.kind (width t) (width_of u) narrower in
        let whole : value_width ports os r ≡ width_of u = ap width_of type in
        by_name r type same (omega (arith, some, less, whole)) (named r) refl
        (writable.cuts i o r there alone (ap₂ (is_narrower o.kind) width_at_zero whole ∙ narrower))

    go : (rs : List Ref) → o.operands ≡ rs → IsWide known (width_of u) e
    go [] alone = absurd (let bad : [] ≡ u ∷ [] = ap (map (type_in ports os)) (sym alone) ∙ types in cc)
    go (r ∷ []) alone =
        let one : type_in ports os r ∷ [] ≡ u ∷ [] = ap (map (type_in ports os)) (sym alone) ∙ types in
        let type : type_in ports os r ≡ u = cc in
        let exprs' : ex p r ∷ [] ≡ e ∷ [] = ap (operand_exprs x ex o.kind o.operands 0) (sym alone) ∙ exprs in
        let same : ex p r ≡ e = cc in
        of_one r alone type same
    go (r ∷ q ∷ rs) alone = absurd (let bad : type_in ports os r ∷ type_in ports os q ∷ map (type_in ports os) rs ≡ u ∷ [] = ap (map (type_in ports os)) (sym alone) ∙ types in cc)

  op_well : (x : Extending) (i k : ℕ) (o : Op) (t : HwType) → slice_get os i ≡ Some o → gives_values o ≡ true → result_type o k ≡ Some t
      → ((q : Ref) → In q o.operands → Typed q) → IsWell known (op_expr named ports os ex x o (width t))
  op_well x i k o t there values is good =
      subst (λ ws. IsWell known (kind_expr o.kind (width t) ws (divisor_in os (width t) o.operands) (operand_exprs x ex o.kind o.operands 0 o.operands)))
      (map_map (type_in ports os) width_of o.operands)
      (built_well known o.kind o.types (map (type_in ports os) o.operands) t k (divisor_in os (width t) o.operands) (operand_exprs x ex o.kind o.operands 0 o.operands)
      (writable.fits i o there k t is) (writable.integers i o there) (item_kind o values)
      (λ variadic. subst (λ n. 1 ≤ n) (sym (as_many (type_in ports os) o.operands)) (writable.filled i o there variadic))
      (writable.bits i k o t there is)
      (subst (λ u. width_of u < 2 ^ 64) (ap (λ m. option_and_then (λ (q : Op). result_type q k) m) there ∙ is) (writable.narrow (result i k)))
      (λ y here. let found = from_In-map (type_in ports os) y o.operands here in subst (λ u. width_of u < 2 ^ 64) (sym found.2) (writable.narrow found.0))
      (all_typed x o.kind o.operands 0 o.operands good) (divided_well i k o t there values is) (cut_wide x i k o t there values is))

  -- the operands of a zero extension have types
  operand_typed : (kind : Kind) (ts : List HwType) (rs : List Ref) (t : HwType) (k : ℕ) (a b : Ref) → Fits kind ts (map (type_in ports os) rs) t k → kind ≡ concat → rs ≡ a ∷ b ∷ []
      → is_some (type_in ports os b) ≡ true
  operand_typed kind ts rs t k a b fits joined two = go (subst (λ q. Fits q ts (map (type_in ports os) rs) t k) joined fits) where
    go : (us : List HwType) × (map (type_in ports os) rs ≡ map (λ (u : HwType). Some u) us) × (width t ≡ total (map width us)) → is_some (type_in ports os b) ≡ true
    go ([], is, sum) = absurd (let bad : type_in ports os a ∷ type_in ports os b ∷ [] ≡ [] = ap (map (type_in ports os)) (sym two) ∙ is in cc)
    go (u ∷ [], is, sum) = absurd (let bad : type_in ports os a ∷ type_in ports os b ∷ [] ≡ Some u ∷ [] = ap (map (type_in ports os)) (sym two) ∙ is in cc)
    go (u ∷ v ∷ us, is, sum) =
        let pair : type_in ports os a ∷ type_in ports os b ∷ [] ≡ Some u ∷ Some v ∷ map (λ (u : HwType). Some u) us = ap (map (type_in ports os)) (sym two) ∙ is in
        let type : type_in ports os b ≡ Some v = cc in
        ap is_some type

  made_well : (x : Extending) (i k : ℕ) (o : Op) (t : HwType) → slice_get os i ≡ Some o → gives_values o ≡ true → result_type o k ≡ Some t
      → ((q : Ref) → In q o.operands → Typed q) → IsWell known (alone_or x (extended_in ports os ex o.kind o.operands) (op_expr named ports os ex x o (width t)))
  unfolding Typed
  made_well x i k o t there values is good = go (extended_in ports os ex o.kind o.operands) refl where
    bare : (y : Extending) (e f : Expr) → IsWell known e → IsWell known f → IsWell known (alone_or y (Some e) f)
    bare Off e f first second = second
    bare Own e f first second = second
    bare Given e f first second = first

    go : (m : Option Expr) → extended_in ports os ex o.kind o.operands ≡ m → IsWell known (alone_or x m (op_expr named ports os ex x o (width t)))
    go None none = subst (IsWell known) (sym (alone_none x (op_expr named ports os ex x o (width t)))) (op_well x i k o t there values is good)
    go (Some e) some =
        let it = extended_is ports os ex o.kind o.operands e some in
        let typed : is_some (type_in ports os it.operand) ≡ true =
        operand_typed o.kind o.types o.operands t k it.zero it.operand (writable.fits i o there k t is) it.joined it.operands in
        bare x e (op_expr named ports os ex x o (width t))
        (subst (IsWell known) (sym it.is) (good it.operand (subst (In it.operand) (sym it.operands) (inr (inl refl))) typed Off))
        (op_well x i k o t there values is good)

  -- ---- each value

  unnamed_well : (r : Ref) → named r ≡ None → ((q : Ref) → In q (inner_needs os r) → Typed q) → is_some (type_in ports os r) ≡ true → (x : Extending)
      → IsWell known (own_expr named ports os ex x r)
  unnamed_well undefined unnamed good some x = absurd (false≢true some)
  unnamed_well (port j) unnamed good some x = go (type_in ports os (port j)) refl some where
    go : (u : Option HwType) → type_in ports os (port j) ≡ u → is_some u ≡ true → IsWell known (own_expr named ports os ex x (port j))
    go None is h = absurd (false≢true h)
    go (Some t) is h = absurd (named_twice (named (port j)) (writable.inputs j t is) unnamed)
  unnamed_well (result i k) unnamed good some x = by_op (slice_get os i) refl some where
    by_purity : (o : Op) (t : HwType) → slice_get os i ≡ Some o → result_type o k ≡ Some t → (b : Bool) → is_pure o ≡ b
        → IsWell known (alone_or x (extended_in ports os ex o.kind o.operands) (op_expr named ports os ex x o (width t)))
    by_purity o t there is false impure = absurd (named_twice (named (result i k)) (writable.owned i k o t there is impure) unnamed)
    by_purity o t there is true pure =
        let values : gives_values o ≡ true = gives_values-pure o pure in
        let first : k ≡ 0 = writable.one_result i k o t there values is in
        let needs : inner_needs os (result i k) ≡ o.operands = ap (λ n. inner_needs os (result i n)) first ∙ pure_needs os i o there pure in
        made_well x i k o t there values is (λ q here. good q (subst (In q) (sym needs) here))

    by_type : (o : Op) → slice_get os i ≡ Some o → (u : Option HwType) → result_type o k ≡ u → is_some u ≡ true → IsWell known (own_expr named ports os ex x (result i k))
    by_type o there None is h = absurd (false≢true h)
    by_type o there (Some t) is h = subst (IsWell known) (sym (is_made named ports os ex no_widths no_words x i k o t there is)) (by_purity o t there is (is_pure o) refl)

    by_op : (m : Option Op) → slice_get os i ≡ m → is_some (option_and_then (λ (q : Op). result_type q k) m) ≡ true → IsWell known (own_expr named ports os ex x (result i k))
    by_op None there h = absurd (false≢true h)
    by_op (Some o) there h = by_type o there (result_type o k) refl h

  typed_well : (r : Ref) → Typed r
  unfolding Typed
  typed_well = by_needs (inner_needs os) Typed step (results (length os)) (IsWithin-results os) acyclic where
    by_name : (r : Ref) → ((q : Ref) → In q (inner_needs os r) → Typed q) → (m : Option Name) → named r ≡ m → is_some (type_in ports os r) ≡ true → (x : Extending) → IsWell known (ex x r)
    by_name r good None unnamed h x = subst (IsWell known) (sym (is_own named ports os ex no_widths no_words are x r unnamed)) (unnamed_well r unnamed good h x)
    by_name r good (Some n) is h x = subst (IsWell known) (sym (is_name named ports os ex no_widths no_words are x r n is)) (names.well r n is)

    step : (r : Ref) → ((q : Ref) → In q (inner_needs os r) → Typed q) → Typed r
    step r good = by_name r good (named r) refl

  -- the expression of each value that has a type
  pub body_well : (x : Extending) (r : Ref) (t : HwType) → type_in ports os r ≡ Some t → IsWell known (ex x r)
  unfolding Typed
  body_well x r t is = typed_well r (ap is_some is) x

  -- what is assigned to the name of an operation's value
  pub own_well : (x : Extending) (i k : ℕ) (o : Op) (t : HwType) → slice_get os i ≡ Some o → gives_values o ≡ true → result_type o k ≡ Some t
      → IsWell known (own_expr named ports os ex x (result i k))
  own_well x i k o t there values is =
      subst (IsWell known) (sym (is_made named ports os ex no_widths no_words x i k o t there is)) (made_well x i k o t there values is (λ q here. typed_well q))
