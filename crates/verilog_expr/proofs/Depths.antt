-- No expression is nested deeper than the limit of heights: what stands for a value does not change with the depth then.
use Rattle.std.proofs.Common.{◌≡◌, ℕ, ℤ, zero, suc, ◌<◌, ◌≤◌, Bool, true, false, cond, not, ◌&&◌, nat_le, List, map, Option, Some, None, slice_get, refl, sym, ap, ap₂, subst, ◌∙◌, arith, option_and_then}
use Rattle.std.proofs.lemmas.Bool.{true≢false, leb-true, leb-false}
use Rattle.wiring.specs.Wiring.{In, greatest, IsAcyclic}
use Rattle.wiring.proofs.Members.{In-map}
use Rattle.wiring.proofs.Heights.{le-greatest}
use Rattle.bits_core.specs.Word.{number, bits_of_ℤ}
use Rattle.hw_model.specs.Types.{Name, HwType, width}
use Rattle.hw_model.specs.Kinds.Kind.{constant}
use Rattle.hw_model.specs.Design.{Ref, Port, Op, result_type}
use Rattle.hw_model.specs.Design.Ref.{port, result, undefined}
use Rattle.hw_model.specs.Sound.{type_in}
use Rattle.verilog_model.specs.Tree.{Expr}
use Rattle.verilog_model.specs.Digits.{literal_of}
use Rattle.verilog_expr.specs.Building.{kind_expr}
use Rattle.verilog_expr.specs.Extensions.{is_concat, alone_or}
use Rattle.verilog_expr.specs.declared.extending.Extending.{Extending}
use Rattle.verilog_expr.specs.declared.extending.Extending.TheVariants.{Off}
use Rattle.verilog_expr.specs.Expressions.{op_at, value_width, divisor_in, name_or, operand_exprs, extended_in, op_expr, typed_expr, result_expr, own_expr, expr_step, AreExprs, expr_to}
use Rattle.verilog_expr.specs.Spilling.{is_pure, is_constant_kind, is_shared, some_op, cuts, part_of_op, part_of, part, height_limit, height_under, operands_of, height_over, height_step, height, has_wire, spilled_op, spilled, inner_needs}
use Rattle.verilog_expr.specs.Spilling.Part.{flat, shared, nested}
use Rattle.verilog_expr.specs.Values.{IsWritable}
use Rattle.verilog_expr.proofs.Extended.{alone_none, same_placed, not_extended, extended_same, lends_same}
use Rattle.verilog_expr.proofs.Bodies.{constant_kind, named_twice, absent_own, gives_values-pure}
use Rattle.verilog_expr.proofs.Heights.{heights_hold}

module _ (named : Ref → Option Name) (ports : List Port) (os : List Op) (writable : IsWritable named ports os) (acyclic : IsAcyclic (inner_needs os)) where
  -- a value that has a type and no name is a constant, or the result of a pure operation below the limit
  data Unnamed (r : Ref) : Type 0 where
    constant_value : (i : ℕ) (o : Op) → r ≡ result i 0 → slice_get os i ≡ Some o → is_constant_kind o.kind ≡ true → part ports os r ≡ flat → Unnamed r
    nested_value : (i : ℕ) (o : Op) → r ≡ result i 0 → slice_get os i ≡ Some o → part ports os r ≡ nested → height ports os r < height_limit → Unnamed r

  unnamed_first : (i : ℕ) (o : Op) (t : HwType) → slice_get os i ≡ Some o → result_type o 0 ≡ Some t → named (result i 0) ≡ None → is_pure o ≡ true
      → Unnamed (result i 0)
  unfolding spilled
  unnamed_first i o t there is unnamed pure = go (is_constant_kind o.kind) refl (is_shared ports os (result i 0) o) refl bare where
    h : ℕ
    h = height ports os (result i 0)

    bare : spilled_op ports os (result i 0) (Some o) ≡ false
    bare = ap (spilled_op ports os (result i 0)) (sym there) ∙ writable.wires i 0 o t there is unnamed

    its_part : (c s : Bool) → is_constant_kind o.kind ≡ c → is_shared ports os (result i 0) o ≡ s
        → part ports os (result i 0) ≡ cond (not c) (cond s shared nested) flat
    its_part c s constant_so shared_so =
        ap (part_of ports os (result i 0)) there
        ∙ ap (λ p. cond (p && not (is_constant_kind o.kind)) (cond (is_shared ports os (result i 0) o) shared nested) flat) pure
        ∙ ap (λ k. cond (not k) (cond (is_shared ports os (result i 0) o) shared nested) flat) constant_so
        ∙ ap (λ k. cond (not c) (cond k shared nested) flat) shared_so

    has_none : (c s : Bool) → is_constant_kind o.kind ≡ c → is_shared ports os (result i 0) o ≡ s → spilled_op ports os (result i 0) (Some o) ≡ false
        → cond c (some_op (cuts ports os (result i 0)) os) (has_wire (cond (not c) (cond s shared nested) flat) h) ≡ false
    has_none c s constant_so shared_so bare =
        ap (λ p. cond c (some_op (cuts ports os (result i 0)) os) (has_wire p h)) (sym (its_part c s constant_so shared_so) ∙ ap (part_of ports os (result i 0)) there)
        ∙ ap (λ k. cond k (some_op (cuts ports os (result i 0)) os) (has_wire (part_of_op ports os (result i 0) o) h)) (sym constant_so) ∙ bare

    go : (c : Bool) → is_constant_kind o.kind ≡ c → (s : Bool) → is_shared ports os (result i 0) o ≡ s → spilled_op ports os (result i 0) (Some o) ≡ false → Unnamed (result i 0)
    go true constant_so s shared_so bare = constant_value i o refl there constant_so (its_part true s constant_so shared_so)
    go false constant_so true shared_so bare = absurd (true≢false (has_none false true constant_so shared_so bare))
    go false constant_so false shared_so bare =
        nested_value i o refl there (its_part false false constant_so shared_so)
        (let low : nat_le height_limit h ≡ false = has_none false false constant_so shared_so bare in leb-false height_limit h low)

  unnamed_value : (r : Ref) (t : HwType) → named r ≡ None → type_in ports os r ≡ Some t → Unnamed r
  unnamed_value undefined t unnamed is = absurd (let bad : true ≡ false = cc in true≢false bad)
  unnamed_value (port j) t unnamed is = absurd (named_twice (named (port j)) (writable.inputs j t is) unnamed)
  unnamed_value (result i k) t unnamed is = by_op (slice_get os i) refl is where
    by_purity : (o : Op) → slice_get os i ≡ Some o → result_type o k ≡ Some t → (b : Bool) → is_pure o ≡ b → Unnamed (result i k)
    by_purity o there is false impure = absurd (named_twice (named (result i k)) (writable.owned i k o t there is impure) unnamed)
    by_purity o there is true pure =
        let first : k ≡ 0 = writable.one_result i k o t there (gives_values-pure o pure) is in
        subst (λ n. Unnamed (result i n)) (sym first)
        (unnamed_first i o t there (ap (result_type o) (sym first) ∙ is) (ap (λ n. named (result i n)) (sym first) ∙ unnamed) pure)

    by_op : (m : Option Op) → slice_get os i ≡ m → option_and_then (λ (q : Op). result_type q k) m ≡ Some t → Unnamed (result i k)
    by_op None there is = absurd (let bad : true ≡ false = cc in true≢false bad)
    by_op (Some o) there is = by_purity o there is (is_pure o) refl

  height_is : (r : Ref) → height ports os r ≡ height_step ports os (height ports os) r
  height_is = heights_hold ports os acyclic

  abbrev above : List Ref → ℕ
  above rs = greatest (map (λ x. height_under (part ports os x) (height ports os x)) rs)

  flat_height : (r : Ref) → part ports os r ≡ flat → height ports os r ≡ 0
  flat_height r is = height_is r ∙ ap (λ p. height_over p (above (operands_of (op_at os r)))) is

  unnamed_height : (r : Ref) (t : HwType) → named r ≡ None → type_in ports os r ≡ Some t → height ports os r < suc height_limit
  unnamed_height r t unnamed is = by_value (unnamed_value r t unnamed is) where
    by_value : Unnamed r → height ports os r < suc height_limit
    by_value (constant_value i o same there constant_so is_flat) = let none : height ports os r ≡ 0 = flat_height r is_flat in omega arith
    by_value (nested_value i o same there is_nested low) = omega arith

  -- such a value stands under others at its own height
  unnamed_under : (r : Ref) (t : HwType) → named r ≡ None → type_in ports os r ≡ Some t
      → height_under (part ports os r) (height ports os r) ≡ height ports os r
  unnamed_under r t unnamed is = by_value (unnamed_value r t unnamed is) where
    below_limit : (h : ℕ) → h < height_limit → height_under nested h ≡ h
    below_limit h low = go (nat_le height_limit h) refl where
      go : (b : Bool) → nat_le height_limit h ≡ b → cond b 0 h ≡ h
      go true high = let bound : height_limit ≤ h = leb-true height_limit h high in absurd (omega arith)
      go false high = refl

    by_value : Unnamed r → height_under (part ports os r) (height ports os r) ≡ height ports os r
    by_value (constant_value i o same there constant_so is_flat) =
        ap (λ p. height_under p (height ports os r)) is_flat ∙ sym (flat_height r is_flat)
    by_value (nested_value i o same there is_nested low) =
        ap (λ p. height_under p (height ports os r)) is_nested ∙ below_limit (height ports os r) low

  -- the depth is above the height of a value without a name
  abbrev Low : ℕ → Ref → Type 0
  Low n r = (1 ≤ n) × (named r ≡ None → (t : HwType) → type_in ports os r ≡ Some t → height ports os r < n)

  lower : (i : ℕ) (o : Op) (r : Ref) → r ≡ result i 0 → slice_get os i ≡ Some o → part ports os r ≡ nested → (n : ℕ) → height ports os r < suc n
      → (x : Ref) → In x o.operands → Low n x
  lower i o r same there is_nested n bound x here =
      let operands_are : operands_of (op_at os r) ≡ o.operands = ap (λ q. operands_of (op_at os q)) same ∙ ap operands_of there in
      let tall : height ports os r ≡ suc (above o.operands) =
      height_is r ∙ ap (λ p. height_over p (above (operands_of (op_at os r)))) is_nested ∙ ap (λ rs. suc (above rs)) operands_are in
      let under : ℕ = height_under (part ports os x) (height ports os x) in
      let bounded : under ≤ above o.operands =
      le-greatest under (map (λ y. height_under (part ports os y) (height ports os y)) o.operands)
      (In-map (λ y. height_under (part ports os y) (height ports os y)) x o.operands here) in
      ((omega arith), (λ unnamed t is. let own : under ≡ height ports os x = unnamed_under x t unnamed is in omega arith))

  is_made : (ex : Extending → Ref → Expr) (x : Extending) (i : ℕ) (o : Op) (r : Ref) (t : HwType) → r ≡ result i 0 → slice_get os i ≡ Some o → type_in ports os r ≡ Some t
      → own_expr named ports os ex x r ≡ alone_or x (extended_in ports os ex o.kind o.operands) (op_expr named ports os ex x o (width t))
  is_made ex x i o r t same there is =
      let type : result_type o 0 ≡ Some t = ap (λ m. option_and_then (λ (q : Op). result_type q 0) m) (sym there) ∙ ap (type_in ports os) (sym same) ∙ is in
      ap (own_expr named ports os ex x) same ∙ ap (result_expr named ports os ex x 0) there ∙ ap (typed_expr named ports os ex x o) type

  -- a constant has no operands in its expression
  literal_made : (f : Extending → Ref → Expr) (x : Extending) (o : Op) (w : ℕ) (z : ℤ) → o.kind ≡ constant z
      → alone_or x (extended_in ports os f o.kind o.operands) (op_expr named ports os f x o w) ≡ literal_of w false (number (bits_of_ℤ w z))
  literal_made f x o w z is =
      ap (λ m. alone_or x m (op_expr named ports os f x o w)) (not_extended ports os f o.kind o.operands (ap is_concat is))
      ∙ alone_none x (op_expr named ports os f x o w)
      ∙ ap (λ kind. kind_expr kind w (map (value_width ports os) o.operands) (divisor_in os w o.operands) (operand_exprs x f o.kind o.operands 0 o.operands)) is

  same_constant : (f g : Extending → Ref → Expr) (x : Extending) (o : Op) (w : ℕ) → is_constant_kind o.kind ≡ true
      → alone_or x (extended_in ports os f o.kind o.operands) (op_expr named ports os f x o w) ≡ alone_or x (extended_in ports os g o.kind o.operands) (op_expr named ports os g x o w)
  same_constant f g x o w constant_so = go (constant_kind o.kind constant_so) where
    go : (z : ℤ) × (o.kind ≡ constant z)
        → alone_or x (extended_in ports os f o.kind o.operands) (op_expr named ports os f x o w) ≡ alone_or x (extended_in ports os g o.kind o.operands) (op_expr named ports os g x o w)
    go (z, is) = literal_made f x o w z is ∙ sym (literal_made g x o w z is)

  same_nested : (f g : Extending → Ref → Expr) (x : Extending) (o : Op) (w : ℕ) → ((r : Ref) → In r o.operands → (y : Extending) → f y r ≡ g y r)
      → alone_or x (extended_in ports os f o.kind o.operands) (op_expr named ports os f x o w) ≡ alone_or x (extended_in ports os g o.kind o.operands) (op_expr named ports os g x o w)
  same_nested f g x o w same =
      ap₂ (λ m es. alone_or x m (kind_expr o.kind w (map (value_width ports os) o.operands) (divisor_in os w o.operands) es))
      (extended_same ports os f g o.kind o.operands (λ r here. same r here Off))
      (same_placed f o.kind g x o.operands 0 o.operands (lends_same ports os f g o.operands (λ r here. same r here Off)) same)

  same_step : (f g : Extending → Ref → Expr) (m n : ℕ) (r : Ref) → ((q : Ref) → Low m q → Low n q → (y : Extending) → f y q ≡ g y q) → Low (suc m) r → Low (suc n) r
      → (x : Extending) → expr_step named ports os f x r ≡ expr_step named ports os g x r
  same_step f g m n r same first second x = by_name (named r) refl where
    by_value : (t : HwType) → named r ≡ None → type_in ports os r ≡ Some t → Unnamed r → own_expr named ports os f x r ≡ own_expr named ports os g x r
    by_value t unnamed is (constant_value i o same_ref there constant_so is_flat) =
        is_made f x i o r t same_ref there is ∙ same_constant f g x o (width t) constant_so ∙ sym (is_made g x i o r t same_ref there is)
    by_value t unnamed is (nested_value i o same_ref there is_nested low) =
        is_made f x i o r t same_ref there is
        ∙ same_nested f g x o (width t) (λ q here. same q (lower i o r same_ref there is_nested m (first.1 unnamed t is) q here)
        (lower i o r same_ref there is_nested n (second.1 unnamed t is) q here))
        ∙ sym (is_made g x i o r t same_ref there is)

    by_type : named r ≡ None → (u : Option HwType) → type_in ports os r ≡ u → own_expr named ports os f x r ≡ own_expr named ports os g x r
    by_type unnamed None is = absent_own named ports os f x r is ∙ sym (absent_own named ports os g x r is)
    by_type unnamed (Some t) is = by_value t unnamed is (unnamed_value r t unnamed is)

    by_name : (q : Option Name) → named r ≡ q → expr_step named ports os f x r ≡ expr_step named ports os g x r
    by_name None unnamed = ap (name_or (named r)) (by_type unnamed (type_in ports os r) refl)
    by_name (Some k) is =
        ap (λ q. name_or q (own_expr named ports os f x r)) is ∙ sym (ap (λ q. name_or q (own_expr named ports os g x r)) is)

  -- deep enough, an expression does not change with the depth
  steady : (m n : ℕ) (r : Ref) → Low m r → Low n r → (x : Extending) → expr_to named ports os m x r ≡ expr_to named ports os n x r
  unfolding expr_to
  steady zero n r first second x = absurd (let bound : 1 ≤ 0 = first.0 in omega arith)
  steady (suc m) zero r first second x = absurd (let bound : 1 ≤ 0 = second.0 in omega arith)
  steady (suc m) (suc n) r first second x =
      same_step (expr_to named ports os m) (expr_to named ports os n) m n r (λ q low also y. steady m n q low also y) first second x

  steady_at : (n : ℕ) → height_limit < n → AreExprs named ports os (λ (x : Extending) (r : Ref). expr_to named ports os n x r)
  unfolding expr_to
  steady_at n deep x r =
      steady n (suc n) r
      ((omega arith), (λ unnamed t is. let bound : height ports os r < suc height_limit = unnamed_height r t unnamed is in omega arith))
      ((omega arith), (λ unnamed t is. let bound : height ports os r < suc height_limit = unnamed_height r t unnamed is in omega arith)) x

  pub expressions_hold : AreExprs named ports os (λ (x : Extending) (r : Ref). expr_to named ports os (suc height_limit) x r)
  expressions_hold = steady_at (suc height_limit) (omega arith)
