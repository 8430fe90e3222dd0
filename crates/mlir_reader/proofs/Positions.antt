-- Bodies in which an operation's id is its position.
use Rattle.std.proofs.Common.{◌≡◌, ℕ, zero, suc, ◌+◌, ◌<◌, ◌≤◌, Bool, true, false, cond, nat_eq, List, [], ◌∷◌, ◌++◌, map, length, refl, ap, ◌∙◌, arith}
use Rattle.std.specs.Prelude.{Option, Some, None, nat_lt, min, ◌||◌}
use Rattle.std.proofs.lemmas.List.{map-append}
use Rattle.std.proofs.lemmas.Bool.{eqb-true, eqb-false}
use Rattle.hw_model.specs.Types.{Name}
use Rattle.hw_model.specs.Design.{Op, Ref, same_name}
use Rattle.hw_model.specs.Design.Ref.{port, result, undefined}
use Rattle.ir_store.specs.declared.operation.Value.{Value}
use Rattle.ir_store.specs.declared.operation.Value.TheVariants.{Port, Result, Undefined}
use Rattle.ir_store.specs.BodyOps.{BodyOp, ids_in}
use Rattle.ir_store.specs.Numbered.{position_of, ref_by, op_by, ops_by_position}
use Rattle.mlir_operations.specs.OperandText.{OperandName, ResultNames}
use Rattle.mlir_operations.specs.OperandText.ResultNames.{no_names, names, pack}
use Rattle.mlir_operations.specs.OperationText.{OperationText}
use Rattle.mlir_operations.specs.ModuleText.{PortText, ModuleText}
use Rattle.diag.specs.declared.refusal.Location as code
use Rattle.mlir_reader.specs.Resolving.{Meanings, Defined, Definition, with_definition, with_definitions, no_meaning, known_or, ref_in, resolve_operand, operation_at, operations_from}
use Rattle.mlir_reader.specs.Resolving.{operation_definitions, body_definitions, names_defined, names_from, port_definition, port_definitions, own_count, meanings, port_meanings, with_output}
use Rattle.mlir_reader.specs.Resolving.{ends_with_output, has_outputs, left_out_output}
use Rattle.mlir_reader.specs.Resolving.Defined.{is_port, are_results}
use Rattle.mlir_reader.specs.Meanings.{numbers_from, numbers_below}

-- ---- positions

following : (n f i x p : ℕ) → i < suc n → x ≡ f + i → (f ≡ x → ⊥) → ((j : ℕ) → j < n → x ≡ f + 1 + j → p ≡ j) → suc p ≡ i
following n f zero x p h e d r = absurd (d (omega arith))
following n f (suc i) x p h e d r = ap suc (r i (omega arith) (omega arith))

position_from : (n f i x : ℕ) → i < n → x ≡ f + i → position_of (numbers_from f n) x ≡ i
position_from zero f i x h e = absurd (omega arith)
position_from (suc n) f i x h e = go (nat_eq f x) refl (λ j k d. position_from n (f + 1) j x k d)
  where
    go : (b : Bool) → nat_eq f x ≡ b → ((j : ℕ) → j < n → x ≡ f + 1 + j → position_of (numbers_from (f + 1) n) x ≡ j) →
        cond b 0 (suc (position_of (numbers_from (f + 1) n) x)) ≡ i
    go true t r = let s : f ≡ x = eqb-true f x t in omega arith
    go false t r = following n f i x (position_of (numbers_from (f + 1) n) x) h e (eqb-false f x t) r

-- the position of a number among those below a bound
pub position_below : (n i : ℕ) → i < n → position_of (numbers_below n) i ≡ i
position_below n i h = position_from n 0 i i h (omega arith)

-- ---- operands by other positions

abbrev moved : (ℕ → ℕ) → Ref → Ref
moved pos (port j) = port j
moved pos (result i k) = result (pos i) k
moved pos undefined = undefined

abbrev renumbered : (ℕ → ℕ) → Op → Op
renumbered pos o = record o { operands = map (moved pos) o.operands }

refs_moved : (pos : ℕ → ℕ) (vs : List Value) → map (ref_by pos) vs ≡ map (moved pos) (map (ref_by (λ i. i)) vs)
refs_moved pos [] = refl
refs_moved pos (Port n ∷ vs) = ap (λ rs. port n ∷ rs) (refs_moved pos vs)
refs_moved pos (Result id k ∷ vs) = ap (λ rs. result (pos id.index) k ∷ rs) (refs_moved pos vs)
refs_moved pos (Undefined ∷ vs) = ap (λ rs. undefined ∷ rs) (refs_moved pos vs)

ops_moved : (pos : ℕ → ℕ) (os : List BodyOp) → map (op_by pos) os ≡ map (renumbered pos) (map (op_by (λ i. i)) os)
ops_moved pos [] = refl
ops_moved pos (o ∷ os) = rw (refs_moved pos o.operands) (ap (λ rest. renumbered pos (op_by (λ i. i) o) ∷ rest) (ops_moved pos os))

-- ---- what names of operations below a bound stand for

abbrev StandsBelow : ℕ → Option Defined → Type 0
StandsBelow n None = Unit {0}
StandsBelow n (Some (is_port j)) = Unit {0}
StandsBelow n (Some (are_results i k count)) = i < n

abbrev AreBelow : ℕ → List Definition → Type 0
AreBelow n [] = Unit {0}
AreBelow n (d ∷ ds) = StandsBelow n (Some d.defined) × AreBelow n ds

below_append : (n : ℕ) (ds es : List Definition) → AreBelow n ds → AreBelow n es → AreBelow n (ds ++ es)
below_append n [] es a b = b
below_append n (d ∷ ds) es a b = (a.0, below_append n ds es a.1 b)

known_below : (n : ℕ) (a b : Option Defined) → StandsBelow n a → StandsBelow n b → StandsBelow n (known_or a b)
known_below n None b x y = y
known_below n (Some d) b x y = x

cond_below : (n : ℕ) (b : Bool) (d : Defined) → StandsBelow n (Some d) → StandsBelow n (cond b (Some d) None)
cond_below n true d x = x
cond_below n false d x = tt

meanings_below : (n : ℕ) (m : Meanings) (ds : List Definition) → ((q : Name) → StandsBelow n (m q)) → AreBelow n ds → (q : Name) → StandsBelow n (with_definitions m ds q)
meanings_below n m [] h a q = h q
meanings_below n m (d ∷ ds) h a q =
    meanings_below n (with_definition m d) ds (λ r. known_below n (m r) (cond (same_name r d.name) (Some d.defined) None) (h r) (cond_below n (same_name r d.name) d.defined a.0)) a.1 q

ports_below : (n j : ℕ) (ps : List PortText) → AreBelow n (port_definitions j ps)
ports_below n j [] = tt
ports_below n j (p ∷ ps) = below_append n (port_definition j p.value) (port_definitions (j + 1) ps) (one p.value) (ports_below n (j + 1) ps)
  where
    one : (v : Option Name) → AreBelow n (port_definition j v)
    one None = tt
    one (Some name) = (tt, tt)

each_below : (n i k : ℕ) (ns : List Name) → i < n → AreBelow n (names_from i k ns)
each_below n i k [] h = tt
each_below n i k (x ∷ xs) h = (h, each_below n i (k + 1) xs h)

results_below : (n i own : ℕ) (r : ResultNames) → i < n → AreBelow n (names_defined i own r)
results_below n i own no_names h = tt
results_below n i own (names x xs) h = each_below n i 0 (x ∷ xs) h
results_below n i own (pack x k) h = go (nat_eq k 0)
  where
    go : (b : Bool) → AreBelow n (cond b [] (record { name = x; defined = are_results i 0 (min k own) } ∷ []))
    go true = tt
    go false = (h, tt)

body_below : (n i : ℕ) (os : List OperationText) → i + length os ≤ n → AreBelow n (body_definitions i os)
body_below n i [] h = tt
body_below n i (o ∷ os) h =
    below_append n (operation_definitions i o) (body_definitions (i + 1) os) (results_below n i (own_count o) o.results (omega arith)) (body_below n (i + 1) os (omega arith))

-- what the names of a module stand for
pub module_below : (ps : List PortText) (os : List OperationText) (n : ℕ) → length os ≤ n → (q : Name) →
    StandsBelow n (with_definitions (with_definitions no_meaning (port_definitions 0 ps)) (body_definitions 0 os) q)
module_below ps os n h =
    meanings_below n (with_definitions no_meaning (port_definitions 0 ps)) (body_definitions 0 os)
    (meanings_below n no_meaning (port_definitions 0 ps) (λ q. tt) (ports_below n 0 ps)) (body_below n 0 os (omega arith))

-- ---- operations whose ids are their positions

ref_stays : (n : ℕ) (d : Option Defined) (k : ℕ) → StandsBelow n d → moved (position_of (numbers_below n)) (ref_in d k) ≡ ref_in d k
ref_stays n None k h = refl
ref_stays n (Some (is_port j)) k h = go (nat_eq k 0)
  where
    go : (b : Bool) → moved (position_of (numbers_below n)) (cond b (port j) undefined) ≡ cond b (port j) undefined
    go true = refl
    go false = refl
ref_stays n (Some (are_results i f count)) k h = go (nat_lt k count)
  where
    go : (b : Bool) → moved (position_of (numbers_below n)) (cond b (result i (f + k)) undefined) ≡ cond b (result i (f + k)) undefined
    go true = ap (λ p. result p (f + k)) (position_below n i h)
    go false = refl

refs_stay : (n : ℕ) (m : Meanings) (os : List OperandName) → ((q : Name) → StandsBelow n (m q)) → map (moved (position_of (numbers_below n))) (map (resolve_operand m) os) ≡ map (resolve_operand m) os
refs_stay n m [] h = refl
refs_stay n m (o ∷ os) h = rw (ref_stays n (m o.name) o.number (h o.name), refs_stay n m os h) refl

operations_stay : (n : ℕ) (m e : Meanings) (i : ℕ) (os : List OperationText) → ((q : Name) → StandsBelow n (m q)) →
    map (renumbered (position_of (numbers_below n))) (operations_from m e i os) ≡ operations_from m e i os
operations_stay n m e i [] h = refl
operations_stay n m e i (o ∷ os) h =
    rw (refs_stay n m o.gathered.operands h) (ap (λ rest. operation_at m e i o ∷ rest) (operations_stay n m (with_definitions e (operation_definitions i o)) (i + 1) os h))

-- ---- whole bodies

pub numbers_push : (n f : ℕ) → numbers_from f n ++ (f + n) ∷ [] ≡ numbers_from f (suc n)
numbers_push zero f = let e : f + 0 ≡ f = omega arith in rw e refl
numbers_push (suc n) f =
    let e : f + suc n ≡ f + 1 + n = omega arith in rw e (ap (λ ns. f ∷ ns) (numbers_push n (f + 1)))

numbered_is : (ops : List BodyOp) (n : ℕ) (os : List Op) → ids_in ops ≡ numbers_below n → map (op_by (λ i. i)) ops ≡ os →
    map (renumbered (position_of (numbers_below n))) os ≡ os → ops_by_position ops ≡ os
numbered_is ops n os ids seen stay =
    ap (λ js. map (op_by (position_of js)) ops) ids ∙ ops_moved (position_of (numbers_below n)) ops ∙ ap (map (renumbered (position_of (numbers_below n)))) seen ∙ stay

completed_stays : (a b : Bool) (pos : ℕ → ℕ) (os : List Op) (location : code.Location) → map (renumbered pos) os ≡ os →
    map (renumbered pos) (cond a os (cond b os (os ++ left_out_output location ∷ []))) ≡ cond a os (cond b os (os ++ left_out_output location ∷ []))
completed_stays true b pos os location h = h
completed_stays false true pos os location h = h
completed_stays false false pos os location h = map-append (renumbered pos) os (left_out_output location ∷ []) ∙ ap (λ rest. rest ++ left_out_output location ∷ []) h

-- a body whose ids are positions is the body of its text
pub body_is : (m : ModuleText) (ops : List BodyOp) (n : ℕ) → length m.operations ≤ n → ids_in ops ≡ numbers_below n →
    map (op_by (λ i. i)) ops ≡ with_output m (operations_from (meanings m) (port_meanings m.ports) 0 m.operations) →
    ops_by_position ops ≡ with_output m (operations_from (meanings m) (port_meanings m.ports) 0 m.operations)
body_is m ops n few ids seen =
    let pos = position_of (numbers_below n) in
    let body = operations_from (meanings m) (port_meanings m.ports) 0 m.operations in
    numbered_is ops n (with_output m body) ids seen
    (completed_stays (ends_with_output m.operations) (has_outputs m.ports) pos body m.close
    (operations_stay n (meanings m) (port_meanings m.ports) 0 m.operations (module_below m.ports m.operations n few)))

-- one choice in place of two
pub either : {A : Type 0} (a b : Bool) (x y : A) → cond (a || b) x y ≡ cond a x (cond b x y)
either true b x y = refl
either false b x y = refl
