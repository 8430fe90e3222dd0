-- Marks of values as uses are noted.
use Rattle.std.proofs.Common.{◌≡◌, ℕ, zero, suc, ◌+◌, ◌<◌, ◌≤◌, min, Bool, true, false, cond, ◌&&◌, ◌||◌, nat_lt, List, [], ◌∷◌, ◌++◌, length, map, take, drop, replicate, get_or, slice_get, Some}
use Rattle.std.proofs.Common.{refl, sym, ap, subst, ◌∙◌, arith, option_and_then}
use Rattle.std.proofs.lemmas.Bool.{ltb-false}
use Rattle.std.proofs.lemmas.List.{drop_more, append-nil, take_all, drop_all}
use Rattle.std.proofs.lemmas.Option.{slice_get_within, get_or_from_slice_get}
use Rattle.wiring.proofs.Equal.{}
use Rattle.hw_model.specs.Design.{Ref, Port, Op, is_instance, result_type}
use Rattle.hw_model.specs.Design.Ref.{result}
use Rattle.hw_model.specs.Flat.{width_of}
use Rattle.ir_store.specs.Positions.{same_ref}
use Rattle.verilog_expr.specs.Expressions.{value_width}
use Rattle.verilog_expr.specs.Spilling.{one_if, positions_in, use_count, cuts, joins, some_op}
use Rattle.verilog_expr.specs.Marks.{no_mark, mark_at, note_use, one_use, after_operands, is_cut_by, after_ops}
use Rattle.verilog_expr.specs.declared.marks.Mark.{Mark}
use Rattle.wiring.proofs.Joined.{split_at}
use Rattle.std.proofs.Math.Bool.{or-false}

-- ---- positions

and_true : (b : Bool) → (b && true) ≡ b
and_true true = refl
and_true false = refl

-- ---- one mark is set

-- ---- operands

or_assoc : (a b c : Bool) → ((a || b) || c) ≡ (a || (b || c))
or_assoc true b c = refl
or_assoc false b c = refl

more_positions : (b : Bool) (n : ℕ) → (m c j : Bool) → (m || (c && nat_lt 0 (1 + n))) ≡ ((m || c) || (c && nat_lt 0 n))
more_positions b n true c j = refl
more_positions b n false false j = refl
more_positions b n false true j = go (nat_lt 0 (1 + n)) refl
  where
    go : (b : Bool) → nat_lt 0 (1 + n) ≡ b → b ≡ true
    go true e = refl
    go false e = absurd (omega (arith, ltb-false 0 (1 + n) e))

-- the mark after one use and the operands after it
pub operand_first : (r : Ref) (cut joined : Bool) (x : Ref) (xs : List Ref) (m : Mark)
    → after_operands r cut joined xs (one_use r cut joined x m) ≡ after_operands r cut joined (x ∷ xs) m
operand_first r cut joined x xs m = go (same_ref x r)
  where
    go : (b : Bool) → after_operands r cut joined xs (cond b (note_use cut joined m) m)
        ≡ record { uses = min 2 (m.uses + (one_if b + positions_in r xs)); cut = m.cut || (cut && nat_lt 0 (one_if b + positions_in r xs)); joined = m.joined || (joined && nat_lt 0 (one_if b + positions_in r xs)) }
    go true =
        let u : min 2 (min 2 (m.uses + 1) + positions_in r xs) ≡ min 2 (m.uses + (1 + positions_in r xs)) = omega arith in
        let c = sym (more_positions true (positions_in r xs) m.cut cut true) in
        let j = sym (more_positions true (positions_in r xs) m.joined joined true) in
        cc
    go false =
        let n : 0 + positions_in r xs ≡ positions_in r xs = omega arith in cc

pub operands_step : {A : Type 0} (r : Ref) (cut joined : Bool) (f : A → Ref) (xs : List A) (i : ℕ) (x : A) (m one whole : Mark) → i < length xs → x ≡ get_or xs i x
    → after_operands r cut joined (map f (drop i xs)) m ≡ whole → one ≡ one_use r cut joined (f x) m → after_operands r cut joined (map f (drop (i + 1) xs)) one ≡ whole
operands_step r cut joined f xs i x m one whole lt at h p =
    let d : drop i xs ≡ x ∷ drop (i + 1) xs = split_at xs i x lt at in
    ap (after_operands r cut joined (map f (drop (i + 1) xs))) p
    ∙ operand_first r cut joined (f x) (map f (drop (i + 1) xs)) m
    ∙ sym (ap (λ l. after_operands r cut joined (map f l) m) d)
    ∙ h

or_none : (b c : Bool) → (b || (c && false)) ≡ b
or_none true c = refl
or_none false true = refl
or_none false false = refl

abbrev node : ℕ → Bool → Bool → Mark
node u c j = record { uses = u; cut = c; joined = j }

same_mark : (u : ℕ) (c j : Bool) (m : Mark) → u ≡ m.uses → c ≡ m.cut → j ≡ m.joined → node u c j ≡ m
same_mark u c j m p q r =
    ap (λ x. node x c j) p ∙ ap (λ x. node m.uses x j) q ∙ ap (λ x. node m.uses m.cut x) r

no_more : (r : Ref) (cut joined : Bool) (m : Mark) → m.uses < 3 → after_operands r cut joined [] m ≡ m
no_more r cut joined m few =
    same_mark (min 2 (m.uses + 0)) (m.cut || (cut && nat_lt 0 0)) (m.joined || (joined && nat_lt 0 0)) m (omega arith) (or_none m.cut cut) (or_none m.joined joined)

pub operands_end : {A : Type 0} (r : Ref) (cut joined : Bool) (f : A → Ref) (xs : List A) (i : ℕ) (m whole : Mark) → m.uses < 3 → length xs ≤ i
    → after_operands r cut joined (map f (drop i xs)) m ≡ whole → m ≡ whole
operands_end r cut joined f xs i m whole few le h =
    sym (no_more r cut joined m few) ∙ sym (ap (λ l. after_operands r cut joined (map f l) m) (drop_all i xs le)) ∙ h

-- ---- operations

drop_at : {A : Type 0} (xs : List A) (i : ℕ) (x : A) → slice_get xs i ≡ Some x → drop i xs ≡ x ∷ drop (i + 1) xs
drop_at xs i x at = drop_more xs i x (slice_get_within xs i x at) ∙ ap (λ y. y ∷ drop (i + 1) xs) (get_or_from_slice_get xs i x x at)

op_first : (ports : List Port) (all : List Op) (r : Ref) (o : Op) (os : List Op) (m : Mark)
    → after_ops ports all r os (after_operands r (is_cut_by ports all o r) (is_instance o) o.operands m) ≡ after_ops ports all r (o ∷ os) m
op_first ports all r o os m =
    let u : min 2 (min 2 (m.uses + positions_in r o.operands) + use_count os r) ≡ min 2 (m.uses + (positions_in r o.operands + use_count os r)) = omega arith in
    let c = or_assoc m.cut (is_cut_by ports all o r && nat_lt 0 (positions_in r o.operands)) (some_op (cuts ports all r) os) in
    let j = or_assoc m.joined (is_instance o && nat_lt 0 (positions_in r o.operands)) (some_op (joins r) os) in
    cc

pub ops_step : (ports : List Port) (os : List Op) (r : Ref) (i : ℕ) (o : Op) (m one whole : Mark) → slice_get os i ≡ Some o
    → after_ops ports os r (drop i os) m ≡ whole → one ≡ after_operands r (is_cut_by ports os o r) (is_instance o) o.operands m
    → after_ops ports os r (drop (i + 1) os) one ≡ whole
ops_step ports os r i o m one whole at h p =
    ap (after_ops ports os r (drop (i + 1) os)) p
    ∙ op_first ports os r o (drop (i + 1) os) m
    ∙ sym (ap (λ l. after_ops ports os r l m) (drop_at os i o at))
    ∙ h

pub ops_end : (ports : List Port) (os : List Op) (r : Ref) (i : ℕ) (m whole : Mark) → m.uses < 3 → length os ≤ i
    → after_ops ports os r (drop i os) m ≡ whole → m ≡ whole
ops_end ports os r i m whole few le h =
    let none : after_ops ports os r [] m ≡ m = same_mark (min 2 (m.uses + 0)) (m.cut || false) (m.joined || false) m (omega arith) (or-false m.cut) (or-false m.joined) in
    sym none ∙ sym (ap (λ l. after_ops ports os r l m) (drop_all i os le)) ∙ h

pub all_none : (n i : ℕ) → mark_at (replicate n no_mark) i ≡ no_mark
all_none zero i = refl
all_none (suc n) zero = refl
all_none (suc n) (suc i) = all_none n i

pub any_default : {A : Type 0} (xs : List A) (i : ℕ) (d : A) → i < length xs → get_or xs i d ≡ get_or xs i (get_or xs i d)
any_default [] i d lt = absurd (omega (arith, lt))
any_default (x ∷ xs) zero d lt = refl
any_default (x ∷ xs) (suc i) d lt = any_default xs i d (omega (arith, lt))

-- the width of the result of an operation that is there
pub width_there : (ports : List Port) (os : List Op) (i : ℕ) (o : Op) → slice_get os i ≡ Some o → ((r : Ref) → value_width ports os r < 129) → width_of (result_type o 0) < 129
width_there ports os i o at small = subst (λ m. width_of (option_and_then (λ (x : Op). result_type x 0) m) < 129) at (small (result i 0))

-- what a slice of a whole list writes back
pub written_back : {A : Type 0} (n : ℕ) (new old : List A) → length new ≡ length old → n ≡ length old → take n (new ++ drop (length new) old) ≡ new
written_back n new old same whole =
    ap (λ rest. take n (new ++ rest)) (drop_all (length new) old (omega (arith, same)))
    ∙ ap (take n) (append-nil new)
    ∙ take_all n new (omega (arith, same, whole))
