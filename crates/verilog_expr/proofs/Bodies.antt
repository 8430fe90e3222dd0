-- The expressions of a body have the widths of their values, and the values of their operations, however zero extensions are
-- written.
use Rattle.std.proofs.Common.{◌≡◌, ℕ, ℤ, zero, suc, ◌+◌, ◌-◌, ◌<◌, ◌≤◌, ◌^◌, max, Bool, true, false, cond, not, ◌&&◌, ◌||◌, ◌==◌, ◌++◌, replicate, length-append, append-nil, lt-ltb, List, [], ◌∷◌}
use Rattle.std.proofs.Common.{map, length, Option, Some, None, is_some, slice_get, refl, sym, ap, ap₂, subst, ◌∙◌, inl, inr, arith, option_and_then}
use Rattle.std.proofs.lemmas.Bool.{true≢false, false≢true, eqb-true, eqb-false}
use Rattle.std.proofs.lemmas.List.{length-replicate}
use Rattle.wiring.specs.Lists.{total}
use Rattle.wiring.specs.Wiring.{In, IsAcyclic}
use Rattle.wiring.proofs.Members.{from_In-map}
use Rattle.wiring.proofs.Settled.{by_needs}
use Rattle.bits_core.specs.Word.{Word, number, bits, bits_of_ℤ}
use Rattle.bits_core.proofs.Storage.{bits-zero}
use Rattle.bits_core.proofs.Complement.{length-bits_of_ℤ}
use Rattle.hw_model.specs.Types.{Name, HwType, width}
use Rattle.hw_model.specs.Kinds.{Kind}
use Rattle.hw_model.specs.Kinds.Kind.{division, constant, extract, concat}
use Rattle.hw_model.specs.Design.{Ref, Port, Op, is_instance, is_register, is_output_op, result_type}
use Rattle.hw_model.specs.Design.Ref.{port, result, undefined}
use Rattle.hw_model.specs.Value.{op_value}
use Rattle.hw_model.specs.Flat.{width_of}
use Rattle.hw_model.specs.Sound.{type_in, Fits}
use Rattle.verilog_model.specs.Tree.{Expr}
use Rattle.verilog_model.specs.Tree.Expr.{name}
use Rattle.verilog_model.specs.Expression.{is_signed, length_of, own_value, assigned}
use Rattle.verilog_model.specs.Digits.{literal_of}
use Rattle.verilog_expr.specs.Building.{no_expr, concatenation, first_width, kind_expr}
use Rattle.verilog_expr.specs.Extensions.{is_given, is_simple, compares_unsigned, place_of, is_concat, is_zero_kind, is_zero_in, alone_or}
use Rattle.verilog_expr.specs.declared.extending.Extending.{Extending}
use Rattle.verilog_expr.specs.declared.extending.Extending.TheVariants.{Off, Own, Given}
use Rattle.verilog_expr.specs.Expressions.{op_at, value_width, constant_number, constant_of, divisor_in, name_or, lends, operand_exprs, extended_in, op_expr, typed_expr, result_expr, own_expr, AreExprs}
use Rattle.verilog_expr.specs.Spilling.{is_pure, is_wire_kind, is_constant_kind, is_narrower, inner_of, inner_needs}
use Rattle.verilog_expr.specs.Values.{IsAsLong, value_in, given_to, HasBits, IsWholeName, IsBuildable, IsDividedBy, IsDivision, is_division, is_item_kind, gives_values, IsWritable, AreNamed, HoldConstants}
use Rattle.verilog_expr.proofs.Own.{extended_full, long_same, long_most, Is-value, own_in, literal_is}
use Rattle.verilog_expr.proofs.Assigned.{assigned_in}
use Rattle.verilog_expr.proofs.Simple.{simple_unsigned, simple_wider, kind_stays}
use Rattle.verilog_expr.proofs.Extended.{alone_none, given_place, unlent_place, compared_types, still_placed, bits_placed, words_placed, IsExtended, extended_is, not_extended}
use Rattle.verilog_expr.proofs.Templates.{as_bits}
use Rattle.verilog_expr.proofs.Built.{built_bits, built_worth}
use Rattle.verilog_expr.proofs.Nets.{results, IsWithin-results}

pub map_map : {A B C : Type 0} → (f : A → B) (g : B → C) (xs : List A) → map g (map f xs) ≡ map (λ x. g (f x)) xs
map_map f g [] = refl
map_map f g (x ∷ xs) = ap (λ ys. g (f x) ∷ ys) (map_map f g xs)

pub as_many : {A B : Type 0} → (f : A → B) (xs : List A) → length (map f xs) ≡ length xs
as_many f [] = refl
as_many f (x ∷ xs) = let rest : length (map f xs) ≡ length xs = as_many f xs in omega arith

-- a kind that is a constant's
pub constant_kind : (kind : Kind) → is_constant_kind kind ≡ true → (z : ℤ) × (kind ≡ constant z)
constant_kind (constant z) is = (z, refl)
constant_kind _ is = absurd (false≢true is)

pub division_types : (kind : Kind) (ts : List HwType) (xs : List (Option HwType)) (t : HwType) (k : ℕ) → is_division kind ≡ true → Fits kind ts xs t k
    → xs ≡ Some t ∷ Some t ∷ []
division_types (division d) ts xs t k is fits = fits
division_types _ ts xs t k is fits = absurd (false≢true is)

-- what gives values is no register, instance or output
pub item_kind : (o : Op) → gives_values o ≡ true → is_item_kind o.kind ≡ false
item_kind o gives = go (is_item_kind o.kind) gives where
  go : (b : Bool) → not b ≡ true → b ≡ false
  go true h = sym h
  go false h = refl

pub gives_values-pure : (o : Op) → is_pure o ≡ true → gives_values o ≡ true
gives_values-pure o pure = go (is_register o) (is_instance o) (is_output_op o) (is_wire_kind o.kind) pure where
  go : (r i u w : Bool) → not (r || (i || (u || w))) ≡ true → not (r || (i || u)) ≡ true
  go true i u w h = h
  go false true u w h = h
  go false false true w h = h
  go false false false w h = refl

-- an expression without bits
no_bits : (widths : Name → ℕ) (ρ : Name → Word) (given : Bool) → HasBits widths ρ given 0 no_expr
no_bits widths ρ given = record { long = long_same given 0 0 refl; full = λ h. refl; worth = refl }

pub named_twice : {A : Type 0} → (m : Option A) → is_some m ≡ true → m ≡ None → ⊥
named_twice None some none = false≢true some
named_twice (Some a) some none = let bad : true ≡ false = cc in true≢false bad

pub absent_own : (named : Ref → Option Name) (ports : List Port) (os : List Op) (ex : Extending → Ref → Expr) (x : Extending) (r : Ref) → type_in ports os r ≡ None
    → own_expr named ports os ex x r ≡ no_expr
absent_own named ports os ex x (port j) none = refl
absent_own named ports os ex x undefined none = refl
absent_own named ports os ex x (result i k) none = go (slice_get os i) none where
  by_type : (o : Op) (u : Option HwType) → u ≡ None → typed_expr named ports os ex x o u ≡ no_expr
  by_type o None is = refl
  by_type o (Some t) is = cc

  go : (m : Option Op) → option_and_then (λ (o : Op). result_type o k) m ≡ None → result_expr named ports os ex x k m ≡ no_expr
  go None is = refl
  go (Some o) is = by_type o (result_type o k) is

-- a pure operation's first result needs its operands
pub pure_needs : (os : List Op) (i : ℕ) (o : Op) → slice_get os i ≡ Some o → is_pure o ≡ true → inner_needs os (result i 0) ≡ o.operands
pure_needs os i o there pure = ap inner_of there ∙ ap (λ b. cond b o.operands []) pure

pub type_of_result : (ports : List Port) (os : List Op) (i k : ℕ) (o : Op) (t : HwType) → slice_get os i ≡ Some o → result_type o k ≡ Some t → type_in ports os (result i k) ≡ Some t
type_of_result ports os i k o t there is = ap (λ m. option_and_then (λ (q : Op). result_type q k) m) there ∙ is

-- the bits of two operands that are joined
pub joined_width : (kind : Kind) (ts : List HwType) (xs : List (Option HwType)) (t : HwType) (k : ℕ) (x y : Option HwType) → kind ≡ concat → Fits kind ts xs t k → xs ≡ x ∷ y ∷ []
    → width t ≡ width_of x + width_of y
joined_width kind ts xs t k x y joined fits two = go (subst (λ q. Fits q ts xs t k) joined fits) where
  go : (us : List HwType) × (xs ≡ map (λ (u : HwType). Some u) us) × (width t ≡ total (map width us)) → width t ≡ width_of x + width_of y
  go ([], is, sum) = absurd (let bad : [] ≡ x ∷ y ∷ [] = sym is ∙ two in cc)
  go (u ∷ [], is, sum) = absurd (let bad : Some u ∷ [] ≡ x ∷ y ∷ [] = sym is ∙ two in cc)
  go (u ∷ v ∷ w ∷ us, is, sum) = absurd (let bad : Some u ∷ Some v ∷ Some w ∷ map (λ (u : HwType). Some u) us ≡ x ∷ y ∷ [] = sym is ∙ two in cc)
  go (u ∷ v ∷ [], is, sum) =
      let same : Some u ∷ Some v ∷ [] ≡ x ∷ y ∷ [] = sym is ∙ two in
      let first : Some u ≡ x = cc in
      let second : Some v ≡ y = cc in
      let a : width u ≡ width_of x = ap width_of first in
      let b : width v ≡ width_of y = ap width_of second in
      omega (arith, sum, a, b)

module _ (named : Ref → Option Name) (ports : List Port) (os : List Op) (ex : Extending → Ref → Expr) (widths : Name → ℕ) (ρ : Name → Word) where
  -- the expression of what has a name, and of what has none
  pub is_name : AreExprs named ports os ex → (x : Extending) (r : Ref) (n : Name) → named r ≡ Some n → ex x r ≡ name n
  is_name are x r n is = are x r ∙ ap (λ m. name_or m (own_expr named ports os ex x r)) is

  pub is_own : AreExprs named ports os ex → (x : Extending) (r : Ref) → named r ≡ None → ex x r ≡ own_expr named ports os ex x r
  is_own are x r is = are x r ∙ ap (λ m. name_or m (own_expr named ports os ex x r)) is

  -- that of an operation, a zero extension aside
  pub is_made : (x : Extending) (i k : ℕ) (o : Op) (t : HwType) → slice_get os i ≡ Some o → result_type o k ≡ Some t
      → own_expr named ports os ex x (result i k) ≡ alone_or x (extended_in ports os ex o.kind o.operands) (op_expr named ports os ex x o (width t))
  is_made x i k o t there is = ap (result_expr named ports os ex x k) there ∙ ap (typed_expr named ports os ex x o) is

  pub is_op : (i k : ℕ) (o : Op) (t : HwType) → slice_get os i ≡ Some o → result_type o k ≡ Some t
      → own_expr named ports os ex Off (result i k) ≡ op_expr named ports os ex Off o (width t)
  is_op i k o t there is = is_made Off i k o t there is

  pub body_absent : AreExprs named ports os ex → (r : Ref) → type_in ports os r ≡ None → named r ≡ None → own_value widths ρ (ex Off r) ≡ []
  body_absent are r none unnamed = ap (own_value widths ρ) (is_own are Off r unnamed ∙ absent_own named ports os ex Off r none)

  module _ (writable : IsWritable named ports os) (acyclic : IsAcyclic (inner_needs os)) (are : AreExprs named ports os ex) where
    -- ---- an operand that is cut has a name

    named_expr : (r : Ref) → is_some (named r) ≡ true → (n : Name) × (named r ≡ Some n)
    named_expr r some = go (named r) refl some where
      go : (m : Option Name) → named r ≡ m → is_some m ≡ true → (n : Name) × (named r ≡ Some n)
      go None is h = absurd (false≢true h)
      go (Some n) is h = (n, is)

    -- of the one operand of a narrower extract
    cut_named : (i k : ℕ) (o : Op) (t : HwType) (r : Ref) → slice_get os i ≡ Some o → gives_values o ≡ true → result_type o k ≡ Some t → o.operands ≡ r ∷ []
        → is_narrower o.kind (width t) (value_width ports os r) ≡ true → (n : Name) × (named r ≡ Some n)
    cut_named i k o t r there values is alone narrower =
        let at_zero : width_of (result_type o 0) ≡ width t = ap width_of (ap (result_type o) (sym (writable.one_result i k o t there values is)) ∙ is) in
        named_expr r (writable.cuts i o r there alone (ap (λ w. is_narrower o.kind w (value_width ports os r)) at_zero ∙ narrower))

    -- ---- names and literals

    abbrev Stays : Ref → Type 0
    Stays r = is_simple (ex Off r) ≡ true → (x : Extending) → ex x r ≡ ex Off r

    -- an extract that does not give all bits is of an operand with a name
    cut_stays : (i k : ℕ) (o : Op) (t : HwType) → slice_get os i ≡ Some o → gives_values o ≡ true → result_type o k ≡ Some t → (x : Extending) (low : ℕ) → o.kind ≡ extract low
        → (low == 0 && width t == first_width (map (value_width ports os) o.operands)) ≡ false
        → operand_exprs x ex o.kind o.operands 0 o.operands ≡ operand_exprs Off ex o.kind o.operands 0 o.operands
    cut_stays i k o t there values is x low kind part =
        go (subst (λ q. Fits q o.types (map (type_in ports os) o.operands) t k) kind (writable.fits i o there k t is)) o.operands refl where
          go : (u : HwType) × (map (type_in ports os) o.operands ≡ Some u ∷ []) × (low + width t ≤ width u) → (rs : List Ref) → o.operands ≡ rs
              → operand_exprs x ex o.kind o.operands 0 o.operands ≡ operand_exprs Off ex o.kind o.operands 0 o.operands
          go (u, one, room) [] rs_is = absurd (let bad : [] ≡ Some u ∷ [] = ap (map (type_in ports os)) (sym rs_is) ∙ one in cc)
          go (u, one, room) (r ∷ q ∷ rs) rs_is =
              absurd (let bad : type_in ports os r ∷ type_in ports os q ∷ map (type_in ports os) rs ≡ Some u ∷ [] = ap (map (type_in ports os)) (sym rs_is) ∙ one in cc)
          go (u, one, room) (r ∷ []) rs_is =
              let types : type_in ports os r ∷ [] ≡ Some u ∷ [] = ap (map (type_in ports os)) (sym rs_is) ∙ one in
              let type : type_in ports os r ≡ Some u = cc in
              let wide : value_width ports os r ≡ width u = ap width_of type in
              let first : first_width (map (value_width ports os) o.operands) ≡ value_width ports os r = ap (λ rs. first_width (map (value_width ports os) rs)) rs_is in
              let part_of : (low == 0 && width t == value_width ports os r) ≡ false = ap (λ w. low == 0 && width t == w) (sym first) ∙ part in
              let less : width t < value_width ports os r = smaller low (width t) (value_width ports os r) part_of (omega (arith, room, wide)) in
              let narrower : is_narrower o.kind (width t) (value_width ports os r) ≡ true =
              ap (λ q. is_narrower q (width t) (value_width ports os r)) kind ∙ lt-ltb (width t) (value_width ports os r) less in
              let its = cut_named i k o t r there values is rs_is narrower in
              same_placed_one r rs_is (λ y. is_name are y r its.0 its.1 ∙ sym (is_name are Off r its.0 its.1))
            where
              smaller : (a w v : ℕ) → (a == 0 && w == v) ≡ false → a + w ≤ v → w < v
              smaller a w v apart within = by (a == 0) refl (w == v) refl apart where
                by : (b : Bool) → (a == 0) ≡ b → (c : Bool) → (w == v) ≡ c → (b && c) ≡ false → w < v
                by true none true same h = absurd (true≢false h)
                by true none false differ h = grind (arith, within, eqb-false w v differ)
                by false higher c same h = grind (arith, within, eqb-false a 0 higher)

              same_placed_one : (r : Ref) → o.operands ≡ r ∷ [] → ((y : Extending) → ex y r ≡ ex Off r)
                  → operand_exprs x ex o.kind o.operands 0 o.operands ≡ operand_exprs Off ex o.kind o.operands 0 o.operands
              same_placed_one r rs_is same =
                  ap (operand_exprs x ex o.kind o.operands 0) rs_is
                  ∙ ap (λ e. e ∷ []) (same (place_of x o.kind 0 (lends ex o.operands 0)))
                  ∙ sym (ap (operand_exprs Off ex o.kind o.operands 0) rs_is)

    op_stays : (i k : ℕ) (o : Op) (t : HwType) → slice_get os i ≡ Some o → gives_values o ≡ true → result_type o k ≡ Some t → ((q : Ref) → In q o.operands → Stays q)
        → is_simple (op_expr named ports os ex Off o (width t)) ≡ true → (x : Extending)
        → alone_or x (extended_in ports os ex o.kind o.operands) (op_expr named ports os ex x o (width t)) ≡ op_expr named ports os ex Off o (width t)
    op_stays i k o t there values is stays simple x = go (extended_in ports os ex o.kind o.operands) refl where
      same : op_expr named ports os ex x o (width t) ≡ op_expr named ports os ex Off o (width t)
      same = kind_stays o.kind (width t) (map (value_width ports os) o.operands) (divisor_in os (width t) o.operands)
          (operand_exprs Off ex o.kind o.operands 0 o.operands) (operand_exprs x ex o.kind o.operands 0 o.operands)
          (still_placed ex o.kind x o.operands 0 o.operands stays) (cut_stays i k o t there values is x) simple

      braces : (kind : Kind) (a b : Ref) (rs : List Ref) → kind ≡ concat → rs ≡ a ∷ b ∷ []
          → is_simple (kind_expr kind (width t) (map (value_width ports os) rs) (divisor_in os (width t) rs) (operand_exprs Off ex kind rs 0 rs)) ≡ false
      braces kind a b rs joined two =
          ap (λ q. is_simple (kind_expr q (width t) (map (value_width ports os) rs) (divisor_in os (width t) rs) (operand_exprs Off ex q rs 0 rs))) joined
          ∙ ap (λ q. is_simple (concatenation (operand_exprs Off ex concat q 0 q))) two

      go : (m : Option Expr) → extended_in ports os ex o.kind o.operands ≡ m → alone_or x m (op_expr named ports os ex x o (width t)) ≡ op_expr named ports os ex Off o (width t)
      go None none = alone_none x (op_expr named ports os ex x o (width t)) ∙ same
      go (Some e) some =
          let it = extended_is ports os ex o.kind o.operands e some in
          absurd (false≢true (sym (braces o.kind it.zero it.operand o.operands it.joined it.operands) ∙ simple))

    unnamed_stays : (r : Ref) → named r ≡ None → ((q : Ref) → In q (inner_needs os r) → Stays q) → is_simple (own_expr named ports os ex Off r) ≡ true → (x : Extending)
        → own_expr named ports os ex x r ≡ own_expr named ports os ex Off r
    unnamed_stays (port j) unnamed stays simple x = refl
    unnamed_stays undefined unnamed stays simple x = refl
    unnamed_stays (result i k) unnamed stays simple x = by_type (type_in ports os (result i k)) refl where
      by_purity : (o : Op) (t : HwType) → slice_get os i ≡ Some o → result_type o k ≡ Some t → (b : Bool) → is_pure o ≡ b
          → own_expr named ports os ex x (result i k) ≡ own_expr named ports os ex Off (result i k)
      by_purity o t there is false impure = absurd (named_twice (named (result i k)) (writable.owned i k o t there is impure) unnamed)
      by_purity o t there is true pure =
          let values : gives_values o ≡ true = gives_values-pure o pure in
          let first : k ≡ 0 = writable.one_result i k o t there values is in
          let needs : inner_needs os (result i k) ≡ o.operands = ap (λ n. inner_needs os (result i n)) first ∙ pure_needs os i o there pure in
          is_made x i k o t there is
          ∙ op_stays i k o t there values is (λ q here. stays q (subst (In q) (sym needs) here)) (sym (ap is_simple (is_op i k o t there is)) ∙ simple) x
          ∙ sym (is_op i k o t there is)

      by_op : (t : HwType) (m : Option Op) → slice_get os i ≡ m → option_and_then (λ (q : Op). result_type q k) m ≡ Some t
          → own_expr named ports os ex x (result i k) ≡ own_expr named ports os ex Off (result i k)
      by_op t None there is = absurd (let bad : true ≡ false = cc in true≢false bad)
      by_op t (Some o) there is = by_purity o t there is (is_pure o) refl

      by_type : (u : Option HwType) → type_in ports os (result i k) ≡ u → own_expr named ports os ex x (result i k) ≡ own_expr named ports os ex Off (result i k)
      by_type None is = absent_own named ports os ex x (result i k) is ∙ sym (absent_own named ports os ex Off (result i k) is)
      by_type (Some t) is = by_op t (slice_get os i) refl is

    -- what is a name or a literal with all zeros written is the same however zero extensions are written
    pub name_stays : (r : Ref) → Stays r
    name_stays = by_needs (inner_needs os) Stays step (results (length os)) (IsWithin-results os) acyclic where
      by_name : (r : Ref) → ((q : Ref) → In q (inner_needs os r) → Stays q) → (m : Option Name) → named r ≡ m → Stays r
      by_name r stays None unnamed simple x =
          is_own are x r unnamed ∙ unnamed_stays r unnamed stays (sym (ap is_simple (is_own are Off r unnamed)) ∙ simple) x ∙ sym (is_own are Off r unnamed)
      by_name r stays (Some n) is simple x = is_name are x r n is ∙ sym (is_name are Off r n is)

      step : (r : Ref) → ((q : Ref) → In q (inner_needs os r) → Stays q) → Stays r
      step r stays = by_name r stays (named r) refl

    module _ (names : AreNamed named ports os widths ρ) where
      abbrev Good : Ref → Type 0
      Good r = (x : Extending) → HasBits widths ρ (is_given x) (value_width ports os r) (ex x r)

      word_of_name : (r : Ref) (n : Name) → named r ≡ Some n → value_in widths ρ (value_width ports os r) (name n) ≡ ρ n
      word_of_name r n is = extended_full (value_width ports os r) false (ρ n) (names.worth r n is)

      named_bits : (r : Ref) (n : Name) → named r ≡ Some n → Good r
      named_bits r n is x =
          subst (HasBits widths ρ (is_given x) (value_width ports os r)) (sym (is_name are x r n is))
          (record {
            long = long_same (is_given x) (value_width ports os r) (widths n) (names.long r n is);
            full = λ h. absurd (false≢true h);
            worth = ap length (word_of_name r n is) ∙ names.worth r n is;
          })

      -- ---- an operation of which the operands' expressions are good

      module _ (i k : ℕ) (o : Op) (t : HwType) (there : slice_get os i ≡ Some o) (values : gives_values o ≡ true) (is : result_type o k ≡ Some t) where
        abbrev placed : Extending → List Expr
        placed x = operand_exprs x ex o.kind o.operands 0 o.operands

        narrow_result : width t < 2 ^ 64
        narrow_result = subst (λ u. width_of u < 2 ^ 64) (type_of_result ports os i k o t there is) (writable.narrow (result i k))

        cut_name : (x : Extending) (y : Option HwType) (e : Expr) → map (type_in ports os) o.operands ≡ y ∷ [] → placed x ≡ e ∷ []
            → is_narrower o.kind (width t) (width_of y) ≡ true → IsWholeName widths ρ (width_of y) e
        cut_name x y e types_are exprs narrower = go o.operands refl where
          go : (rs : List Ref) → o.operands ≡ rs → IsWholeName widths ρ (width_of y) e
          go [] alone = absurd (let bad : [] ≡ y ∷ [] = ap (map (type_in ports os)) (sym alone) ∙ types_are in cc)
          go (r ∷ q ∷ rs) alone = absurd (let bad : type_in ports os r ∷ type_in ports os q ∷ map (type_in ports os) rs ≡ y ∷ [] = ap (map (type_in ports os)) (sym alone) ∙ types_are in cc)
          go (r ∷ []) alone =
              let one : type_in ports os r ∷ [] ≡ y ∷ [] = ap (map (type_in ports os)) (sym alone) ∙ types_are in
              let type : type_in ports os r ≡ y = cc in
              let wide : value_width ports os r ≡ width_of y = ap width_of type in
              let p : Extending = place_of x o.kind 0 (lends ex o.operands 0) in
              let exprs' : ex p r ∷ [] ≡ e ∷ [] = ap (operand_exprs x ex o.kind o.operands 0) (sym alone) ∙ exprs in
              let same : ex p r ≡ e = cc in
              let its = cut_named i k o t r there values is alone (ap (is_narrower o.kind (width t)) wide ∙ narrower) in
              record {
                called = its.0;
                same = sym same ∙ is_name are p r its.0 its.1;
                long = names.long r its.0 its.1 ∙ wide;
                whole = names.worth r its.0 its.1 ∙ wide;
              }

        -- one of two operands that are compared has all bits: the one that lends its width, or the one that is lent none
        compared_width : (x : Extending) → ((r : Ref) → In r o.operands → Good r) → compares_unsigned o.kind ≡ true → (y z : Option HwType) (a b : Expr)
            → map (type_in ports os) o.operands ≡ y ∷ z ∷ [] → placed x ≡ a ∷ b ∷ [] → max (length_of widths a) (length_of widths b) ≡ width_of y
        compared_width x good compares y z a b types_are exprs = go o.operands refl where
          its : (u : HwType) × (map (type_in ports os) o.operands ≡ Some u ∷ Some u ∷ [])
          its = compared_types o.kind o.types (map (type_in ports os) o.operands) t k compares (writable.fits i o there k t is)

          both : (l m w : ℕ) → l ≤ w → m ≡ w → max l m ≡ w
          both l m w first second = omega arith

          either : (l m w : ℕ) → l ≡ w → m ≤ w → max l m ≡ w
          either l m w first second = omega arith

          by_lending : (r q : Ref) → o.operands ≡ r ∷ q ∷ [] → (w : ℕ) → value_width ports os r ≡ w → value_width ports os q ≡ w → (l : Bool) → lends ex o.operands 0 ≡ l
              → is_simple (ex Off q) ≡ l
              → max (length_of widths (ex (place_of x o.kind 0 (lends ex o.operands 0)) r)) (length_of widths (ex (place_of x o.kind 1 (lends ex o.operands 1)) q)) ≡ w
          by_lending r q two w first second true lent simple =
              let p : Extending = place_of x o.kind 0 (lends ex o.operands 0) in
              let s : Extending = place_of x o.kind 1 (lends ex o.operands 1) in
              let here : In r o.operands = subst (In r) (sym two) (inl refl) in
              let also : In q o.operands = subst (In q) (sym two) (inr (inl refl)) in
              both _ _ w
              (subst (λ v. length_of widths (ex p r) ≤ v) first (long_most (is_given p) (value_width ports os r) (length_of widths (ex p r)) (good r here p).long))
              (ap (length_of widths) (name_stays q simple s) ∙ (good q also Off).long ∙ second)
          by_lending r q two w first second false lent simple =
              let p : Extending = place_of x o.kind 0 (lends ex o.operands 0) in
              let s : Extending = place_of x o.kind 1 (lends ex o.operands 1) in
              let here : In r o.operands = subst (In r) (sym two) (inl refl) in
              let also : In q o.operands = subst (In q) (sym two) (inr (inl refl)) in
              either _ _ w
              (subst (λ g. IsAsLong g (value_width ports os r) (length_of widths (ex p r))) (unlent_place x o.kind 0 (lends ex o.operands 0) compares lent) (good r here p).long ∙ first)
              (subst (λ v. length_of widths (ex s q) ≤ v) second (long_most (is_given s) (value_width ports os q) (length_of widths (ex s q)) (good q also s).long))

          go : (rs : List Ref) → o.operands ≡ rs → max (length_of widths a) (length_of widths b) ≡ width_of y
          go [] two = absurd (let bad : [] ≡ y ∷ z ∷ [] = ap (map (type_in ports os)) (sym two) ∙ types_are in cc)
          go (r ∷ []) two = absurd (let bad : type_in ports os r ∷ [] ≡ y ∷ z ∷ [] = ap (map (type_in ports os)) (sym two) ∙ types_are in cc)
          go (r ∷ q ∷ p ∷ rs) two =
              absurd (let bad : type_in ports os r ∷ type_in ports os q ∷ type_in ports os p ∷ map (type_in ports os) rs ≡ y ∷ z ∷ [] = ap (map (type_in ports os)) (sym two) ∙ types_are in cc)
          go (r ∷ q ∷ []) two =
              let pair : type_in ports os r ∷ type_in ports os q ∷ [] ≡ y ∷ z ∷ [] = ap (map (type_in ports os)) (sym two) ∙ types_are in
              let alike : type_in ports os r ∷ type_in ports os q ∷ [] ≡ Some its.0 ∷ Some its.0 ∷ [] = ap (map (type_in ports os)) (sym two) ∙ its.1 in
              let type : type_in ports os r ≡ y = cc in
              let same : type_in ports os q ≡ type_in ports os r = cc in
              let exprs' : ex (place_of x o.kind 0 (lends ex o.operands 0)) r ∷ ex (place_of x o.kind 1 (lends ex o.operands 1)) q ∷ [] ≡ a ∷ b ∷ [] =
              ap (operand_exprs x ex o.kind o.operands 0) (sym two) ∙ exprs in
              let first : ex (place_of x o.kind 0 (lends ex o.operands 0)) r ≡ a = cc in
              let second : ex (place_of x o.kind 1 (lends ex o.operands 1)) q ≡ b = cc in
              ap₂ (λ e f. max (length_of widths e) (length_of widths f)) (sym first) (sym second)
              ∙ by_lending r q two (width_of y) (ap width_of type) (ap width_of (same ∙ type)) (is_simple (ex Off q)) (ap (λ rs. lends ex rs 0) two) refl

        can_build : (x : Extending) → ((r : Ref) → In r o.operands → Good r) → IsBuildable widths ρ (is_given x) o.kind (map (type_in ports os) o.operands) t (placed x)
        can_build x good = record {
          integers = writable.integers i o there;
          values = item_kind o values;
          filled = λ variadic. subst (λ n. 1 ≤ n) (sym (as_many (type_in ports os) o.operands)) (writable.filled i o there variadic);
          bits = writable.bits i k o t there is;
          narrow = narrow_result;
          narrow_operands = λ y here. let found = from_In-map (type_in ports os) y o.operands here in subst (λ u. width_of u < 2 ^ 64) (sym found.2) (writable.narrow found.0);
          operands = bits_placed ex o.kind widths ρ (type_in ports os) x o.operands (given_to (is_given x) o.kind) 0
              (λ j l h. given_place x o.kind j l (let e : 0 + j ≡ j = omega arith in ap (λ n. is_given (place_of x o.kind n l)) (sym e) ∙ h)) o.operands good;
          compared = compared_width x good;
          cut = cut_name x;
        }

        same_widths : map width_of (map (type_in ports os) o.operands) ≡ map (value_width ports os) o.operands
        same_widths = map_map (type_in ports os) width_of o.operands

        op_bits : (x : Extending) → ((r : Ref) → In r o.operands → Good r) → HasBits widths ρ (is_given x) (width t) (op_expr named ports os ex x o (width t))
        op_bits x good =
            subst (λ ws. HasBits widths ρ (is_given x) (width t) (kind_expr o.kind (width t) ws (divisor_in os (width t) o.operands) (placed x))) same_widths
            (built_bits widths ρ (is_given x) o.kind o.types (map (type_in ports os) o.operands) t k (divisor_in os (width t) o.operands) (placed x)
            (writable.fits i o there k t is) (can_build x good))

        -- the bits of a zero extension
        extended_width : (e : Expr) (it : IsExtended ports os ex o.kind o.operands e) → width t ≡ value_width ports os it.zero + value_width ports os it.operand
        extended_width e it =
            joined_width o.kind o.types (map (type_in ports os) o.operands) t k (type_in ports os it.zero) (type_in ports os it.operand) it.joined (writable.fits i o there k t is)
            (ap (map (type_in ports os)) it.operands)

        -- the operand of one, in the context of the whole
        bare_word : (e : Expr) (it : IsExtended ports os ex o.kind o.operands e) → ((r : Ref) → In r o.operands → Good r)
            → value_in widths ρ (width t) e ≡ replicate (value_width ports os it.zero) false ++ value_in widths ρ (value_width ports os it.operand) (ex Off it.operand)
        bare_word e it good =
            let here : In it.operand o.operands = subst (In it.operand) (sym it.operands) (inr (inl refl)) in
            let sum : width t ≡ value_width ports os it.zero + value_width ports os it.operand = extended_width e it in
            let rest : width t - value_width ports os it.operand ≡ value_width ports os it.zero = omega (arith, sum) in
            ap (value_in widths ρ (width t)) it.is
            ∙ simple_wider widths ρ (value_width ports os it.operand) (width t) (ex Off it.operand) it.simple (good it.operand here Off).worth (omega (arith, sum))
            ∙ ap (λ n. replicate n false ++ value_in widths ρ (value_width ports os it.operand) (ex Off it.operand)) rest

        bare_bits : (e : Expr) → IsExtended ports os ex o.kind o.operands e → ((r : Ref) → In r o.operands → Good r) → HasBits widths ρ true (width t) e
        bare_bits e it good =
            let here : In it.operand o.operands = subst (In it.operand) (sym it.operands) (inr (inl refl)) in
            let sum : width t ≡ value_width ports os it.zero + value_width ports os it.operand = extended_width e it in
            let long : length_of widths e ≡ value_width ports os it.operand = ap (length_of widths) it.is ∙ (good it.operand here Off).long in
            let unsigned : is_signed e ≡ false = ap is_signed it.is ∙ simple_unsigned widths ρ (ex Off it.operand) it.simple in
            let size : length (value_in widths ρ (width t) e) ≡ value_width ports os it.zero + value_width ports os it.operand =
            ap length (bare_word e it good) ∙ length-append (replicate (value_width ports os it.zero) false) (value_in widths ρ (value_width ports os it.operand) (ex Off it.operand))
            ∙ ap₂ (λ m n. m + n) (length-replicate (value_width ports os it.zero) false) (good it.operand here Off).worth in
            record { long = omega (arith, long, sum); full = λ h. absurd (false≢true (sym unsigned ∙ h)); worth = size ∙ sym sum }

        made_bits : (x : Extending) → ((r : Ref) → In r o.operands → Good r)
            → HasBits widths ρ (is_given x) (width t) (alone_or x (extended_in ports os ex o.kind o.operands) (op_expr named ports os ex x o (width t)))
        made_bits Off good = op_bits Off good
        made_bits Own good = op_bits Own good
        made_bits Given good = go (extended_in ports os ex o.kind o.operands) refl where
          go : (m : Option Expr) → extended_in ports os ex o.kind o.operands ≡ m → HasBits widths ρ true (width t) (alone_or Given m (op_expr named ports os ex Given o (width t)))
          go None none = op_bits Given good
          go (Some e) some = bare_bits e (extended_is ports os ex o.kind o.operands e some) good

      -- ---- each value

      unnamed_result : (x : Extending) (i k : ℕ) → named (result i k) ≡ None → ((q : Ref) → In q (inner_needs os (result i k)) → Good q)
          → HasBits widths ρ (is_given x) (value_width ports os (result i k)) (own_expr named ports os ex x (result i k))
      unnamed_result x i k unnamed good = by_type (type_in ports os (result i k)) refl where
        by_purity : (o : Op) (t : HwType) → slice_get os i ≡ Some o → result_type o k ≡ Some t → (b : Bool) → is_pure o ≡ b
            → HasBits widths ρ (is_given x) (width t) (own_expr named ports os ex x (result i k))
        by_purity o t there is false impure = absurd (named_twice (named (result i k)) (writable.owned i k o t there is impure) unnamed)
        by_purity o t there is true pure =
            let values : gives_values o ≡ true = gives_values-pure o pure in
            let first : k ≡ 0 = writable.one_result i k o t there values is in
            let needs : inner_needs os (result i k) ≡ o.operands = ap (λ n. inner_needs os (result i n)) first ∙ pure_needs os i o there pure in
            subst (HasBits widths ρ (is_given x) (width t)) (sym (is_made x i k o t there is))
            (made_bits i k o t there values is x (λ q here. good q (subst (In q) (sym needs) here)))

        by_op : (t : HwType) (m : Option Op) → slice_get os i ≡ m → option_and_then (λ (q : Op). result_type q k) m ≡ Some t
            → HasBits widths ρ (is_given x) (width t) (own_expr named ports os ex x (result i k))
        by_op t None there is = absurd (let bad : true ≡ false = cc in true≢false bad)
        by_op t (Some o) there is = by_purity o t there is (is_pure o) refl

        by_type : (u : Option HwType) → type_in ports os (result i k) ≡ u → HasBits widths ρ (is_given x) (width_of u) (own_expr named ports os ex x (result i k))
        by_type None is = subst (HasBits widths ρ (is_given x) 0) (sym (absent_own named ports os ex x (result i k) is)) (no_bits widths ρ (is_given x))
        by_type (Some t) is = by_op t (slice_get os i) refl is

      unnamed_bits : (x : Extending) (r : Ref) → named r ≡ None → ((q : Ref) → In q (inner_needs os r) → Good q)
          → HasBits widths ρ (is_given x) (value_width ports os r) (own_expr named ports os ex x r)
      unnamed_bits x (result i k) unnamed good = unnamed_result x i k unnamed good
      unnamed_bits x undefined unnamed good = no_bits widths ρ (is_given x)
      unnamed_bits x (port j) unnamed good = by_type (type_in ports os (port j)) refl where
        by_type : (u : Option HwType) → type_in ports os (port j) ≡ u → HasBits widths ρ (is_given x) (width_of u) no_expr
        by_type None is = no_bits widths ρ (is_given x)
        by_type (Some t) is = absurd (named_twice (named (port j)) (writable.inputs j t is) unnamed)

      good_bits : (r : Ref) → Good r
      good_bits = by_needs (inner_needs os) Good step (results (length os)) (IsWithin-results os) acyclic where
        by_name : (r : Ref) → ((q : Ref) → In q (inner_needs os r) → Good q) → (m : Option Name) → named r ≡ m → Good r
        by_name r good None unnamed x = subst (HasBits widths ρ (is_given x) (value_width ports os r)) (sym (is_own are x r unnamed)) (unnamed_bits x r unnamed good)
        by_name r good (Some n) is x = named_bits r n is x

        step : (r : Ref) → ((q : Ref) → In q (inner_needs os r) → Good q) → Good r
        step r good = by_name r good (named r) refl

      pub body_bits : (x : Extending) (r : Ref) → HasBits widths ρ (is_given x) (value_width ports os r) (ex x r)
      body_bits x r = good_bits r x

      pub body_own_bits : (x : Extending) (i k : ℕ) (o : Op) (t : HwType) → slice_get os i ≡ Some o → gives_values o ≡ true → result_type o k ≡ Some t
          → HasBits widths ρ (is_given x) (width t) (own_expr named ports os ex x (result i k))
      body_own_bits x i k o t there values is =
          subst (HasBits widths ρ (is_given x) (width t)) (sym (is_made x i k o t there is)) (made_bits i k o t there values is x (λ q here. good_bits q))

      -- ---- constants and divisors

      -- a constant's expression has its word
      constant_word : HoldConstants named os ρ → (x : Extending) (i : ℕ) (o : Op) (t : HwType) → slice_get os i ≡ Some o → is_constant_kind o.kind ≡ true
          → result_type o 0 ≡ Some t → value_in widths ρ (width t) (ex x (result i 0)) ≡ bits (width t) (constant_number o.kind (width t))
      constant_word hold x i o t there constant_so is = by_kind (constant_kind o.kind constant_so) where
        small : width t < 2 ^ 64
        small = subst (λ u. width_of u < 2 ^ 64) (type_of_result ports os i 0 o t there is) (writable.narrow (result i 0))

        wide : value_width ports os (result i 0) ≡ width t
        wide = ap width_of (type_of_result ports os i 0 o t there is)

        by_name : (z : ℤ) → o.kind ≡ constant z → (m : Option Name) → named (result i 0) ≡ m
            → value_in widths ρ (width t) (ex x (result i 0)) ≡ bits (width t) (number (bits_of_ℤ (width t) z))
        by_name z kind_is None unnamed =
            let whole : extended_in ports os ex o.kind o.operands ≡ None = not_extended ports os ex o.kind o.operands (ap is_concat kind_is) in
            let literal_is_it : ex x (result i 0) ≡ literal_of (width t) false (number (bits_of_ℤ (width t) z)) =
            is_own are x (result i 0) unnamed ∙ is_made x i 0 o t there is
            ∙ ap (λ m. alone_or x m (op_expr named ports os ex x o (width t))) whole ∙ alone_none x (op_expr named ports os ex x o (width t))
            ∙ ap (λ kind. kind_expr kind (width t) (map (value_width ports os) o.operands) (divisor_in os (width t) o.operands) (operand_exprs x ex o.kind o.operands 0 o.operands)) kind_is in
            ap (value_in widths ρ (width t)) literal_is_it
            ∙ Is-value widths ρ false (width t) false (literal_of (width t) false (number (bits_of_ℤ (width t) z))) _ (literal_is widths ρ false (width t) false (number (bits_of_ℤ (width t) z)) small)
        by_name z kind_is (Some n) named_so =
            ap (value_in widths ρ (width t)) (is_name are x (result i 0) n named_so)
            ∙ ap (λ w. value_in widths ρ w (name n)) (sym wide) ∙ word_of_name (result i 0) n named_so ∙ hold i o z t n there kind_is is named_so
            ∙ as_bits (width t) (bits_of_ℤ (width t) z) (length-bits_of_ℤ (width t) z)

        by_kind : (z : ℤ) × (o.kind ≡ constant z) → value_in widths ρ (width t) (ex x (result i 0)) ≡ bits (width t) (constant_number o.kind (width t))
        by_kind (z, kind_is) = by_name z kind_is (named (result i 0)) refl ∙ ap (λ kind. bits (width t) (constant_number kind (width t))) (sym kind_is)

      divided : (x : Extending) (i k : ℕ) (o : Op) (t : HwType) → slice_get os i ≡ Some o → result_type o k ≡ Some t → (is_division o.kind ≡ true → HoldConstants named os ρ)
          → IsDividedBy widths ρ o.kind (width t) (divisor_in os (width t) o.operands) (operand_exprs x ex o.kind o.operands 0 o.operands)
      divided x i k o t there is hold divides a b exprs =
          let d : IsDivision os o = writable.divisions i o there divides in
          let types : map (type_in ports os) o.operands ≡ Some t ∷ Some t ∷ [] = division_types o.kind o.types _ t k divides (writable.fits i o there k t is) in
          let types' : type_in ports os d.dividend ∷ type_in ports os (result d.divisor 0) ∷ [] ≡ Some t ∷ Some t ∷ [] = ap (map (type_in ports os)) (sym d.operands) ∙ types in
          let y : Extending = place_of x o.kind 0 (lends ex o.operands 0) in
          let z : Extending = place_of x o.kind 1 (lends ex o.operands 1) in
          let exprs' : ex y d.dividend ∷ ex z (result d.divisor 0) ∷ [] ≡ a ∷ b ∷ [] = ap (operand_exprs x ex o.kind o.operands 0) (sym d.operands) ∙ exprs in
          let expr : b ≡ ex z (result d.divisor 0) = cc in
          let type : type_in ports os (result d.divisor 0) ≡ Some t = cc in
          let type' : result_type d.by 0 ≡ Some t = ap (λ m. option_and_then (λ (q : Op). result_type q 0) m) (sym d.there) ∙ type in
          let number_is : divisor_in os (width t) o.operands ≡ constant_number d.by.kind (width t) = ap (divisor_in os (width t)) d.operands ∙ ap (λ m. constant_of m (width t)) d.there in
          ap (value_in widths ρ (width t)) expr ∙ constant_word (hold divides) z d.divisor d.by t d.there d.constant type' ∙ ap (bits (width t)) (sym number_is)

      -- ---- values

      -- the value of a value's expression with all zeros written
      abbrev plain_word : Ref → Word
      plain_word r = own_value widths ρ (ex Off r)

      plain_in : (r : Ref) → value_in widths ρ (value_width ports os r) (ex Off r) ≡ plain_word r
      plain_in r = sym (own_in widths ρ (value_width ports os r) (ex Off r) (good_bits r Off))

      -- the operation's value, of operands in their places
      op_worth : (x : Extending) (i k : ℕ) (o : Op) (t : HwType) → slice_get os i ≡ Some o → gives_values o ≡ true → result_type o k ≡ Some t
          → (is_division o.kind ≡ true → HoldConstants named os ρ)
          → ((r : Ref) → In r o.operands → (j : ℕ) (l : Bool) → value_in widths ρ (value_width ports os r) (ex (place_of x o.kind j l) r) ≡ plain_word r)
          → value_in widths ρ (width t) (op_expr named ports os ex x o (width t)) ≡ op_value o.kind o.types t k (map plain_word o.operands)
      op_worth x i k o t there values is hold same =
          ap (λ ws. value_in widths ρ (width t) (kind_expr o.kind (width t) ws (divisor_in os (width t) o.operands) (operand_exprs x ex o.kind o.operands 0 o.operands)))
          (sym (same_widths i k o t there values is))
          ∙ built_worth widths ρ (is_given x) o.kind o.types (map (type_in ports os) o.operands) t k (divisor_in os (width t) o.operands) (operand_exprs x ex o.kind o.operands 0 o.operands)
          (writable.fits i o there k t is) (can_build i k o t there values is x (λ r here. good_bits r)) (divided x i k o t there is hold)
          ∙ ap (op_value o.kind o.types t k) (words_placed ex o.kind widths ρ (type_in ports os) x plain_word o.operands 0 o.operands same)

      pub body_worth : (i k : ℕ) (o : Op) (t : HwType) → slice_get os i ≡ Some o → gives_values o ≡ true → result_type o k ≡ Some t
          → (is_division o.kind ≡ true → HoldConstants named os ρ)
          → own_value widths ρ (own_expr named ports os ex Off (result i k)) ≡ op_value o.kind o.types t k (map (λ (x : Ref). own_value widths ρ (ex Off x)) o.operands)
      body_worth i k o t there values is hold =
          own_in widths ρ (width t) (own_expr named ports os ex Off (result i k)) (body_own_bits Off i k o t there values is)
          ∙ ap (value_in widths ρ (width t)) (is_op i k o t there is)
          ∙ op_worth Off i k o t there values is hold (λ r here j l. plain_in r)

      -- ---- the same value however zero extensions are written

      abbrev Same : Ref → Type 0
      Same r = (x : Extending) → value_in widths ρ (value_width ports os r) (ex x r) ≡ plain_word r

      -- a constant that is 0 has its zeros
      zero_word : HoldConstants named os ρ → (r : Ref) → is_zero_in (op_at os r) (value_width ports os r) ≡ true → plain_word r ≡ replicate (value_width ports os r) false
      zero_word hold (port j) none = absurd (false≢true none)
      zero_word hold undefined none = absurd (false≢true none)
      zero_word hold (result i (suc k)) none = absurd (false≢true none)
      zero_word hold (result i zero) is_zero = by_op (slice_get os i) refl is_zero where
        w : ℕ
        w = value_width ports os (result i 0)

        number_zero : (kind : Kind) (w : ℕ) → is_zero_kind kind w ≡ true → (is_constant_kind kind ≡ true) × (constant_number kind w ≡ 0)
        number_zero (constant z) v none = (refl, eqb-true (number (bits_of_ℤ v z)) 0 none)
        number_zero _ v none = absurd (false≢true none)

        by_type : (o : Op) → slice_get os i ≡ Some o → is_zero_kind o.kind w ≡ true → (u : Option HwType) → result_type o 0 ≡ u
            → plain_word (result i 0) ≡ replicate w false
        by_type o there nought None is =
            let none : type_in ports os (result i 0) ≡ None = ap (λ m. option_and_then (λ (q : Op). result_type q 0) m) there ∙ is in
            let empty : w ≡ 0 = ap width_of none in
            let size : length (plain_word (result i 0)) ≡ 0 = ap length (sym (plain_in (result i 0))) ∙ (good_bits (result i 0) Off).worth ∙ empty in
            no_word (plain_word (result i 0)) size ∙ ap (λ n. replicate n false) (sym empty) where
              no_word : (v : Word) → length v ≡ 0 → v ≡ []
              no_word [] size = refl
              no_word (b ∷ v) size = absurd (omega (arith, size))
        by_type o there nought (Some t) is =
            let wide : w ≡ width t = ap width_of (type_of_result ports os i 0 o t there is) in
            let its = number_zero o.kind (width t) (ap (is_zero_kind o.kind) (sym wide) ∙ nought) in
            sym (plain_in (result i 0)) ∙ ap (λ v. value_in widths ρ v (ex Off (result i 0))) wide
            ∙ constant_word hold Off i o t there its.0 is ∙ ap (bits (width t)) its.1 ∙ bits-zero (width t) ∙ ap (λ n. replicate n false) (sym wide)

        by_op : (m : Option Op) → slice_get os i ≡ m → is_zero_in m w ≡ true → plain_word (result i 0) ≡ replicate w false
        by_op None there nought = absurd (false≢true nought)
        by_op (Some o) there nought = by_type o there nought (result_type o 0) refl

      -- the word of an operation however it is written
      made_word : HoldConstants named os ρ → (x : Extending) (i k : ℕ) (o : Op) (t : HwType) → slice_get os i ≡ Some o → gives_values o ≡ true → result_type o k ≡ Some t
          → ((r : Ref) → In r o.operands → Same r)
          → value_in widths ρ (width t) (alone_or x (extended_in ports os ex o.kind o.operands) (op_expr named ports os ex x o (width t)))
          ≡ op_value o.kind o.types t k (map plain_word o.operands)
      made_word hold x i k o t there values is same = by_place x where
        whole : (y : Extending) → value_in widths ρ (width t) (op_expr named ports os ex y o (width t)) ≡ op_value o.kind o.types t k (map plain_word o.operands)
        whole y = op_worth y i k o t there values is (λ d. hold) (λ r here j l. same r here (place_of y o.kind j l))

        joined : (a b : Ref) → o.kind ≡ concat → o.operands ≡ a ∷ b ∷ [] → op_value o.kind o.types t k (map plain_word o.operands) ≡ plain_word a ++ plain_word b
        joined a b kind two =
            ap₂ (λ q rs. op_value q o.types t k (map plain_word rs)) kind two ∙ ap (λ v. plain_word a ++ v) (append-nil (plain_word b))

        by_place : (y : Extending) → value_in widths ρ (width t) (alone_or y (extended_in ports os ex o.kind o.operands) (op_expr named ports os ex y o (width t)))
            ≡ op_value o.kind o.types t k (map plain_word o.operands)
        by_place Off = whole Off
        by_place Own = whole Own
        by_place Given = go (extended_in ports os ex o.kind o.operands) refl where
          go : (m : Option Expr) → extended_in ports os ex o.kind o.operands ≡ m
              → value_in widths ρ (width t) (alone_or Given m (op_expr named ports os ex Given o (width t))) ≡ op_value o.kind o.types t k (map plain_word o.operands)
          go None none = whole Given
          go (Some e) some =
              let it = extended_is ports os ex o.kind o.operands e some in
              bare_word i k o t there values is e it (λ r here. good_bits r)
              ∙ ap₂ (λ u v. u ++ v) (sym (zero_word hold it.zero it.zeros)) (plain_in it.operand)
              ∙ sym (joined it.zero it.operand it.joined it.operands)

      body_words : HoldConstants named os ρ → (r : Ref) → Same r
      body_words hold = by_needs (inner_needs os) Same step (results (length os)) (IsWithin-results os) acyclic where
        by_purity : (i k : ℕ) → named (result i k) ≡ None → ((q : Ref) → In q (inner_needs os (result i k)) → Same q) → (o : Op) (t : HwType) → slice_get os i ≡ Some o
            → result_type o k ≡ Some t → (b : Bool) → is_pure o ≡ b → Same (result i k)
        by_purity i k unnamed same o t there is false impure = absurd (named_twice (named (result i k)) (writable.owned i k o t there is impure) unnamed)
        by_purity i k unnamed same o t there is true pure = λ x.
            let values : gives_values o ≡ true = gives_values-pure o pure in
            let first : k ≡ 0 = writable.one_result i k o t there values is in
            let needs : inner_needs os (result i k) ≡ o.operands = ap (λ n. inner_needs os (result i n)) first ∙ pure_needs os i o there pure in
            let wide : value_width ports os (result i k) ≡ width t = ap width_of (type_of_result ports os i k o t there is) in
            let all : (r : Ref) → In r o.operands → Same r = λ r here. same r (subst (In r) (sym needs) here) in
            let at : (y : Extending) → value_in widths ρ (value_width ports os (result i k)) (ex y (result i k)) ≡ op_value o.kind o.types t k (map plain_word o.operands) =
            λ y. ap₂ (λ w e. value_in widths ρ w e) wide (is_own are y (result i k) unnamed ∙ is_made y i k o t there is) ∙ made_word hold y i k o t there values is all in
            at x ∙ sym (at Off) ∙ plain_in (result i k)

        by_op : (i k : ℕ) → named (result i k) ≡ None → ((q : Ref) → In q (inner_needs os (result i k)) → Same q) → (t : HwType) (m : Option Op) → slice_get os i ≡ m
            → option_and_then (λ (q : Op). result_type q k) m ≡ Some t → Same (result i k)
        by_op i k unnamed same t None there is = absurd (let bad : true ≡ false = cc in true≢false bad)
        by_op i k unnamed same t (Some o) there is = by_purity i k unnamed same o t there is (is_pure o) refl

        one_expr : (r : Ref) → ((x : Extending) → ex x r ≡ ex Off r) → Same r
        one_expr r one x = ap (value_in widths ρ (value_width ports os r)) (one x) ∙ plain_in r

        by_type : (r : Ref) → named r ≡ None → ((q : Ref) → In q (inner_needs os r) → Same q) → (u : Option HwType) → type_in ports os r ≡ u → Same r
        by_type r unnamed same None is =
            one_expr r (λ x. is_own are x r unnamed ∙ absent_own named ports os ex x r is ∙ sym (absent_own named ports os ex Off r is) ∙ sym (is_own are Off r unnamed))
        by_type (port j) unnamed same (Some t) is = absurd (named_twice (named (port j)) (writable.inputs j t is) unnamed)
        by_type undefined unnamed same (Some t) is = absurd (let bad : true ≡ false = cc in true≢false bad)
        by_type (result i k) unnamed same (Some t) is = by_op i k unnamed same t (slice_get os i) refl is

        by_name : (r : Ref) → ((q : Ref) → In q (inner_needs os r) → Same q) → (m : Option Name) → named r ≡ m → Same r
        by_name r same None unnamed = by_type r unnamed same (type_in ports os r) refl
        by_name r same (Some n) is = one_expr r (λ x. is_name are x r n is ∙ sym (is_name are Off r n is))

        step : (r : Ref) → ((q : Ref) → In q (inner_needs os r) → Same q) → Same r
        step r same = by_name r same (named r) refl

      -- ---- what is assigned

      pub body_assigned : HoldConstants named os ρ → (x : Extending) (r : Ref) → assigned widths ρ (value_width ports os r) (ex x r) ≡ own_value widths ρ (ex Off r)
      body_assigned hold x r = assigned_in widths ρ (is_given x) (value_width ports os r) (ex x r) (body_bits x r) ∙ body_words hold r x

      pub body_asked : HoldConstants named os ρ → (x : Extending) (r : Ref) → is_given x ≡ false → own_value widths ρ (ex x r) ≡ own_value widths ρ (ex Off r)
      body_asked hold x r own =
          own_in widths ρ (value_width ports os r) (ex x r) (subst (λ g. HasBits widths ρ g (value_width ports os r) (ex x r)) own (body_bits x r)) ∙ body_words hold r x

      pub body_own_assigned : (x : Extending) (i k : ℕ) (o : Op) (t : HwType) → slice_get os i ≡ Some o → gives_values o ≡ true → result_type o k ≡ Some t
          → (is_constant_kind o.kind ≡ false → HoldConstants named os ρ)
          → assigned widths ρ (width t) (own_expr named ports os ex x (result i k)) ≡ own_value widths ρ (own_expr named ports os ex Off (result i k))
      body_own_assigned x i k o t there values is hold =
          assigned_in widths ρ (is_given x) (width t) (own_expr named ports os ex x (result i k)) (body_own_bits x i k o t there values is)
          ∙ by_kind (is_constant_kind o.kind) refl
          ∙ sym (own_in widths ρ (width t) (own_expr named ports os ex Off (result i k)) (body_own_bits Off i k o t there values is)) where
            by_kind : (b : Bool) → is_constant_kind o.kind ≡ b
                → value_in widths ρ (width t) (own_expr named ports os ex x (result i k)) ≡ value_in widths ρ (width t) (own_expr named ports os ex Off (result i k))
            by_kind true constant_so = literal (constant_kind o.kind constant_so) where
              made : (y : Extending) (z : ℤ) → o.kind ≡ constant z → own_expr named ports os ex y (result i k) ≡ literal_of (width t) false (number (bits_of_ℤ (width t) z))
              made y z kind_is =
                  is_made y i k o t there is
                  ∙ ap (λ m. alone_or y m (op_expr named ports os ex y o (width t))) (not_extended ports os ex o.kind o.operands (ap is_concat kind_is))
                  ∙ alone_none y (op_expr named ports os ex y o (width t))
                  ∙ ap (λ kind. kind_expr kind (width t) (map (value_width ports os) o.operands) (divisor_in os (width t) o.operands) (operand_exprs y ex o.kind o.operands 0 o.operands)) kind_is

              literal : (z : ℤ) × (o.kind ≡ constant z)
                  → value_in widths ρ (width t) (own_expr named ports os ex x (result i k)) ≡ value_in widths ρ (width t) (own_expr named ports os ex Off (result i k))
              literal (z, kind_is) = ap (value_in widths ρ (width t)) (made x z kind_is ∙ sym (made Off z kind_is))
            by_kind false other =
                let its : HoldConstants named os ρ = hold other in
                ap (value_in widths ρ (width t)) (is_made x i k o t there is)
                ∙ made_word its x i k o t there values is (λ r here. body_words its r)
                ∙ sym (ap (value_in widths ρ (width t)) (is_made Off i k o t there is) ∙ made_word its Off i k o t there values is (λ r here. body_words its r))
