-- The heights of a body's values are each from those of its operation's operands, where no value depends on itself.
use Rattle.std.proofs.Common.{◌≡◌, ℕ, zero, suc, ◌<◌, ◌≤◌, Bool, true, false, cond, not, ◌&&◌, List, [], map, length, Option, Some, None, refl, ap, arith}
use Rattle.wiring.specs.Wiring.{In, greatest, IsAcyclic, IsHeight}
use Rattle.wiring.proofs.Members.{map_same}
use Rattle.wiring.proofs.Heights.{HasHeights-acyclic, height-le, FallsAlong-height}
use Rattle.hw_model.specs.Design.{Ref, Port, Op}
use Rattle.verilog_expr.specs.Expressions.{op_at}
use Rattle.verilog_expr.specs.Spilling.{Part, is_pure, is_constant_kind, is_shared, part_of, part, height_under, operands_of, height_over, height_step, AreHeights, height_to, height, inner_of, inner_needs}
use Rattle.verilog_expr.specs.Spilling.Part.{flat, shared, nested}
use Rattle.verilog_expr.proofs.Nets.{results, length-results, IsWithin-results}

module _ (ports : List Port) (os : List Op) where
  -- the height of an operation hangs on those of what it needs alone
  same_step : (f g : Ref → ℕ) (r : Ref) → ((x : Ref) → In x (inner_needs os r) → f x ≡ g x) → height_step ports os f r ≡ height_step ports os g r
  same_step f g r same = go (op_at os r) same where
    above : (Ref → ℕ) → List Ref → ℕ
    above h rs = greatest (map (λ x. height_under (part ports os x) (h x)) rs)

    by_purity : (o : Op) (b c : Bool) (p : Part) → ((x : Ref) → In x (cond b o.operands []) → f x ≡ g x)
        → height_over (cond (b && c) p flat) (above f o.operands) ≡ height_over (cond (b && c) p flat) (above g o.operands)
    by_purity o false c p same = refl
    by_purity o true c p same =
        ap (λ hs. height_over (cond c p flat) (greatest hs))
        (map_same (λ x. height_under (part ports os x) (f x)) (λ x. height_under (part ports os x) (g x)) o.operands
        (λ x here. ap (height_under (part ports os x)) (same x here)))

    go : (m : Option Op) → ((x : Ref) → In x (inner_of m) → f x ≡ g x)
        → height_over (part_of ports os r m) (above f (operands_of m)) ≡ height_over (part_of ports os r m) (above g (operands_of m))
    go None same = refl
    go (Some o) same = by_purity o (is_pure o) (not (is_constant_kind o.kind)) (cond (is_shared ports os r o) shared nested) same

  module _ (h : Ref → ℕ) (tall : IsHeight (inner_needs os) h) where
    -- deep enough, a height does not change with the depth
    steady : (m n : ℕ) (r : Ref) → h r ≤ m → h r ≤ n → height_to m ports os r ≡ height_to n ports os r
    steady zero n r first second =
        let is : h r ≡ suc (greatest (map h (inner_needs os r))) = tall r in absurd (omega arith)
    steady (suc m) zero r first second =
        let is : h r ≡ suc (greatest (map h (inner_needs os r))) = tall r in absurd (omega arith)
    steady (suc m) (suc n) r first second =
        same_step (height_to m ports os) (height_to n ports os) r
        (λ x need. let lower : h x < h r = FallsAlong-height (inner_needs os) h tall r x need in steady m n x (omega arith) (omega arith))

  pub heights_hold : IsAcyclic (inner_needs os) → AreHeights ports os (height ports os)
  unfolding height
  heights_hold acyclic r =
      let found = HasHeights-acyclic (inner_needs os) (results (length os)) (IsWithin-results os) acyclic in
      let bound : found.0 r ≤ suc (length (results (length os))) = height-le (inner_needs os) (results (length os)) (IsWithin-results os) found.0 found.1 r in
      let count : length (results (length os)) ≡ length os = length-results (length os) in
      steady found.0 found.1 (suc (length os)) (suc (suc (length os))) r (omega arith) (omega arith)
