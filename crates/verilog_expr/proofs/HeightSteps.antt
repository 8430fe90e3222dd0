-- Heights as they are found.
use Rattle.std.proofs.Common.{◌≡◌, ℕ, zero, suc, ◌+◌, ◌<◌, Bool, true, false, nat_eq, List, [], ◌∷◌, length, set, slice_get, Option, Some, refl, sym, ap, subst, ◌∙◌, arith}
use Rattle.std.proofs.lemmas.Bool.{eqb-true, eqb-false}
use Rattle.hw_model.specs.Design.{Port, Op}
use Rattle.hw_model.specs.Design.Ref.{result}
use Rattle.verilog_expr.specs.Spilling as told
use Rattle.verilog_expr.specs.Spilling.{AreHeights, height, height_over, operands_at, operands_of, spilled}
use Rattle.verilog_expr.specs.Spilling.Part.{flat, shared, nested}
use Rattle.verilog_expr.specs.declared.marks.Mark.{Mark}
use Rattle.verilog_expr.specs.Marks.{no_mark, after_ops}
use Rattle.verilog_expr.specs.PartTables.{has_own_wire, stands_most, IsHeightAt, height_get, AreKnown}

-- ---- the height of an operation

module _ (ports : List Port) (os : List Op) (heights : AreHeights ports os (height ports os)) (i : ℕ) where
  pub height_flat : told.part ports os (result i 0) ≡ flat → 0 ≡ height ports os (result i 0)
  height_flat is = sym (heights (result i 0) ∙ ap (λ p. height_over p (stands_most ports os (operands_at os (result i 0)))) is)

  over : (o : Op) (n : ℕ) → slice_get os i ≡ Some o → n ≡ stands_most ports os o.operands → n ≡ stands_most ports os (operands_at os (result i 0))
  over o n at is = is ∙ sym (ap (λ m. stands_most ports os (operands_of m)) at)

  pub height_shared : (o : Op) (n : ℕ) → slice_get os i ≡ Some o → told.part ports os (result i 0) ≡ shared → n ≡ stands_most ports os o.operands → n + 1 ≡ height ports os (result i 0)
  height_shared o n at is most =
      let e : height ports os (result i 0) ≡ suc (stands_most ports os (operands_at os (result i 0))) =
      heights (result i 0) ∙ ap (λ p. height_over p (stands_most ports os (operands_at os (result i 0)))) is in
      omega (arith, e, over o n at most)

  pub height_nested : (o : Op) (n : ℕ) → slice_get os i ≡ Some o → told.part ports os (result i 0) ≡ nested → n ≡ stands_most ports os o.operands → n + 1 ≡ height ports os (result i 0)
  height_nested o n at is most =
      let e : height ports os (result i 0) ≡ suc (stands_most ports os (operands_at os (result i 0))) =
      heights (result i 0) ∙ ap (λ p. height_over p (stands_most ports os (operands_at os (result i 0)))) is in
      omega (arith, e, over o n at most)

-- ---- a table of heights

set_same : (hs : List (Option ℕ)) (p : ℕ) (h : Option ℕ) → p < length hs → height_get (set hs p h) p ≡ h
set_same [] p h lt = absurd (omega (arith, lt))
set_same (x ∷ hs) zero h lt = refl
set_same (x ∷ hs) (suc p) h lt = set_same hs p h (omega (arith, lt))

set_other : (hs : List (Option ℕ)) (p i : ℕ) (h : Option ℕ) → (p ≡ i → ⊥) → height_get (set hs p h) i ≡ height_get hs i
set_other [] zero i h apart = refl
set_other [] (suc p) i h apart = refl
set_other (x ∷ hs) zero zero h apart = absurd (apart refl)
set_other (x ∷ hs) zero (suc i) h apart = refl
set_other (x ∷ hs) (suc p) zero h apart = refl
set_other (x ∷ hs) (suc p) (suc i) h apart = set_other hs p i h (λ e. apart (ap suc e))

pub known_set : (ports : List Port) (os : List Op) (hs : List (Option ℕ)) (p : ℕ) (h : Option ℕ) → AreKnown ports os hs → p < length hs → IsHeightAt ports os p h → AreKnown ports os (set hs p h)
known_set ports os hs p h known lt is i below = go (nat_eq p i) refl
  where
    go : (b : Bool) → nat_eq p i ≡ b → IsHeightAt ports os i (height_get (set hs p h) i)
    go true e = subst (λ j. IsHeightAt ports os j (height_get (set hs p h) j)) (eqb-true p i e) (subst (IsHeightAt ports os p) (sym (set_same hs p h lt)) is)
    go false e = subst (IsHeightAt ports os i) (sym (set_other hs p i h (eqb-false p i e))) (known i below)

-- ---- wires

pub wired_is : (ports : List Port) (os : List Op) (i : ℕ) (o : Op) (m : Mark) (p : told.Part) (h : ℕ) → slice_get os i ≡ Some o → m ≡ after_ops ports os (result i 0) os no_mark
    → p ≡ told.part ports os (result i 0) → h ≡ height ports os (result i 0) → has_own_wire o m p h ≡ spilled ports os (result i 0)
unfolding spilled
wired_is ports os i o m p h at marked parted high =
    ap (λ x. has_own_wire o x p h) marked
    ∙ ap (λ x. has_own_wire o (after_ops ports os (result i 0) os no_mark) x h) (parted ∙ ap (told.part_of ports os (result i 0)) at)
    ∙ ap (has_own_wire o (after_ops ports os (result i 0) os no_mark) (told.part_of_op ports os (result i 0) o)) high
    ∙ sym (ap (told.spilled_op ports os (result i 0)) at)
