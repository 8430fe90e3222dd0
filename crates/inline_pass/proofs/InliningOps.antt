-- The operations of a body in which an instance is inlined, by positions.
use Rattle.std.proofs.Common.{◌≡◌, ℕ, suc, Bool, true, false, cond, List, [], ◌∷◌, ◌++◌, length, map, take, drop, get_or, refl, ap, ap₂, ◌∙◌, arith}
use Rattle.std.specs.Prelude.{All}
use Rattle.hw_model.specs.Types.{Name}
use Rattle.hw_model.specs.Design.{Ref, Op, OpResult, Location, is_output_kind, output_refs}
use Rattle.hw_model.specs.Design.Ref.{undefined}
use Rattle.edit_laws.specs.Edit.{retarget}
use Rattle.ir_store.specs.declared.operation.OpId.{OpId}
use Rattle.ir_store.specs.declared.operation.Value.{Value}
use Rattle.ir_store.specs.declared.operation.Value.TheVariants.{Undefined}
use Rattle.ir_store.specs.BodyOps.{BodyOp}
use Rattle.ir_store.specs.Numbered.{ref_by, op_by}
use Rattle.ir_store.proofs.Living.{first_of_all, rest_of_all}
use Rattle.inline_laws.specs.Inline.{before_output, wire_op, wire_ops}
use Rattle.inline_pass.specs.MovedOps.{copy_of, ops_before_output, output_values, wires_of, with_ids}
use Rattle.inline_pass.specs.Renaming.{renamed}
use Rattle.inline_pass.proofs.ResultsReplaced.{with_values}

-- ---- a module

pub before_seen : (p : ℕ → ℕ) (ops : List BodyOp) → before_output (map (op_by p) ops) ≡ map (op_by p) (ops_before_output ops)
before_seen p [] = refl
before_seen p (o ∷ ops) = go (is_output_kind o.parts.kind) (before_seen p ops)
  where
    go : (b : Bool) → before_output (map (op_by p) ops) ≡ map (op_by p) (ops_before_output ops)
        → cond b [] (op_by p o ∷ before_output (map (op_by p) ops)) ≡ map (op_by p) (cond b [] (o ∷ ops_before_output ops))
    go true rest = refl
    go false rest = ap (λ os. op_by p o ∷ os) rest

pub outputs_seen : (p : ℕ → ℕ) (ops : List BodyOp) → output_refs (map (op_by p) ops) ≡ map (ref_by p) (output_values ops)
outputs_seen p [] = refl
outputs_seen p (o ∷ ops) = go (is_output_kind o.parts.kind) (outputs_seen p ops)
  where
    go : (b : Bool) → output_refs (map (op_by p) ops) ≡ map (ref_by p) (output_values ops)
        → cond b (map (ref_by p) o.operands) (output_refs (map (op_by p) ops)) ≡ map (ref_by p) (cond b o.operands (output_values ops))
    go true rest = refl
    go false rest = rest

-- its operations are those before its first output, and others
pub ops_after : (ops : List BodyOp) → (rest : List BodyOp) × (ops ≡ ops_before_output ops ++ rest)
ops_after [] = ([], refl)
ops_after (o ∷ ops) = go (is_output_kind o.parts.kind) (ops_after ops)
  where
    go : (b : Bool) → (rest : List BodyOp) × (ops ≡ ops_before_output ops ++ rest) → (rest : List BodyOp) × (o ∷ ops ≡ cond b [] (o ∷ ops_before_output ops) ++ rest)
    go true more = (o ∷ ops, refl)
    go false more = (more.0, ap (λ os. o ∷ os) more.1)

-- ---- operands

values_seen : (p q : ℕ → ℕ) (f : Value → Value) (g : Ref → Ref) (vs : List Value) → All (λ v. ref_by p (f v) ≡ g (ref_by q v)) vs → map (ref_by p) (map f vs) ≡ map g (map (ref_by q) vs)
values_seen p q f g [] all = refl
values_seen p q f g (v ∷ vs) all =
    ap₂ (λ r rs. r ∷ rs) (first_of_all (λ v. ref_by p (f v) ≡ g (ref_by q v)) v vs all)
    (values_seen p q f g vs (rest_of_all (λ v. ref_by p (f v) ≡ g (ref_by q v)) v vs all))

-- operations that keep their names
pub ops_seen : (p q : ℕ → ℕ) (f : Value → Value) (g : Ref → Ref) (os : List BodyOp) → All (λ (o : BodyOp). All (λ v. ref_by p (f v) ≡ g (ref_by q v)) o.operands) os
    → map (op_by p) (map (with_values f) os) ≡ map (retarget g) (map (op_by q) os)
ops_seen p q f g [] all = refl
ops_seen p q f g (o ∷ os) all =
    ap₂ (λ (rs : List Ref) xs. record (op_by p o) { operands = rs } ∷ xs)
    (values_seen p q f g o.operands (first_of_all (λ (o : BodyOp). All (λ v. ref_by p (f v) ≡ g (ref_by q v)) o.operands) o os all))
    (ops_seen p q f g os (rest_of_all (λ (o : BodyOp). All (λ v. ref_by p (f v) ≡ g (ref_by q v)) o.operands) o os all))

-- copies
pub copies_seen : (p q : ℕ → ℕ) (f : Value → Value) (g : Ref → Ref) (u : Name) → ((v : Value) → ref_by p (f v) ≡ g (ref_by q v)) → (ids : List OpId) (os : List BodyOp) → length ids ≡ length os
    → map (op_by p) (map (with_values f) (with_ids ids (map (copy_of u) os))) ≡ map (λ (y : Op). renamed u (retarget g y)) (map (op_by q) os)
copies_seen p q f g u seen [] [] many = refl
copies_seen p q f g u seen [] (o ∷ os) many = absurd (omega (arith, many))
copies_seen p q f g u seen (i ∷ ids) [] many = absurd (omega (arith, many))
copies_seen p q f g u seen (i ∷ ids) (o ∷ os) many =
    ap₂ (λ (rs : List Ref) xs. record (renamed u (op_by q o)) { operands = rs } ∷ xs) (values_seen p q f g o.operands (λ k d below. seen (get_or o.operands k d)))
    (copies_seen p q f g u seen ids os (omega (arith, many)))

-- wires
pub wires_seen : (p q : ℕ → ℕ) (f : Value → Value) (g : Ref → Ref) → g undefined ≡ undefined → ((v : Value) → ref_by p (f v) ≡ g (ref_by q v)) → (at : Location) (ids : List OpId) (xs : List OpResult) (vs : List Value)
    → length ids ≡ length xs → map (op_by p) (map (with_values f) (with_ids ids (wires_of at xs vs))) ≡ wire_ops at g xs (map (ref_by q) vs)
wires_seen p q f g none seen at [] [] vs many = refl
wires_seen p q f g none seen at [] (x ∷ xs) vs many = absurd (omega (arith, many))
wires_seen p q f g none seen at (i ∷ ids) [] vs many = absurd (omega (arith, many))
wires_seen p q f g none seen at (i ∷ ids) (x ∷ xs) [] many =
    ap₂ (λ (r : Ref) os. wire_op at x.type r ∷ os) (seen Undefined ∙ none) (wires_seen p q f g none seen at ids xs [] (omega (arith, many)))
wires_seen p q f g none seen at (i ∷ ids) (x ∷ xs) (v ∷ vs) many =
    ap₂ (λ (r : Ref) os. wire_op at x.type r ∷ os) (seen v) (wires_seen p q f g none seen at ids xs vs (omega (arith, many)))

-- ---- the parts of a body

pub take_prefix : {A : Type 0} (xs ys : List A) → take (length xs) (xs ++ ys) ≡ xs
take_prefix [] ys = refl
take_prefix (x ∷ xs) ys = ap (λ zs. x ∷ zs) (take_prefix xs ys)

pub drop_prefix : {A : Type 0} (xs : List A) (y : A) (ys : List A) → drop (suc (length xs)) (xs ++ (y ∷ ys)) ≡ ys
drop_prefix [] y ys = refl
drop_prefix (x ∷ xs) y ys = drop_prefix xs y ys
