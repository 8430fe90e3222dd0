-- A body in which each operation takes what stands before it has no result that depends on itself.
use Rattle.std.proofs.Common.{◌≡◌, ◌⊎◌, ℕ, suc, ◌+◌, ◌<◌, ◌≤◌, Bool, true, false, cond, ◌&&◌, nat_lt, List, [], ◌∷◌, length, map, slice_get, Option, Some, None, option_map, refl, sym, ap, subst, ◌∙◌, inl, inr, arith}
use Rattle.std.specs.Prelude.{MatchBool}
use Rattle.std.specs.List.{list_all}
use Rattle.std.proofs.lemmas.Bool.{eqb-true}
use Rattle.std.proofs.lemmas.Bool.Decides.{nat_tests}
use Rattle.std.proofs.lemmas.Option.{slice_get-map, slice_get_within}
use Rattle.wiring.specs.Wiring.{In, FallsAlong}
use Rattle.wiring.proofs.Chains.{IsAcyclic-falling}
use Rattle.wiring.proofs.Members.{from_In-map, In-slice_get}
use Rattle.hw_model.specs.Types.{Name, HwType}
use Rattle.hw_model.specs.Kinds.{Instance}
use Rattle.hw_model.specs.Design.{Ref, Op, Module, Design, find_module, instance_in, is_register, is_output_op, result_type}
use Rattle.hw_model.specs.Design.Ref.{port, result, undefined}
use Rattle.hw_model.specs.Flat.{net}
use Rattle.hw_model.specs.Meaning.{Depends as DependsOn}
use Rattle.hw_model.specs.Sound.{body_of}
use Rattle.ir_store.specs.declared.design.Module.{Module as CodeModule}
use Rattle.ir_store.specs.declared.operation.OpId.{OpId}
use Rattle.ir_store.specs.declared.operation.Value.{Value}
use Rattle.ir_store.specs.declared.operation.Value.TheVariants.{Port, Result, Undefined}
use Rattle.ir_store.specs.declared.body.Body.{Body}
use Rattle.ir_store.specs.declared.body.Op.{Op as CodeOp}
use Rattle.ir_store.specs.Bodies.{ids_of, ops_of, op_id}
use Rattle.ir_store.specs.Numbered.{position_of, ref_by, ops_by_position}
use Rattle.ir_store.specs.Designs.{StoredModule, module_of, numbered_module}
use Rattle.design_cycles.specs.declared.layout.Summary.{Summary}
use Rattle.design_cycles.specs.Asked.{HasDistinctSymbols, IsCyclicAt}
use Rattle.design_cycles.specs.InOrder.{StandsBefore, StandsAfter, IsInOrder, is_numbered, is_at_its_number, is_before, IsLate}
use Rattle.design_cycles.specs.Local.{where_typed, op_wires, result_wires, wires}
use Rattle.design_cycles.specs.Nodes.{bit_sets_by, table_by}
use Rattle.design_cycles.specs.Positions.{symbol_at}
use Rattle.design_cycles.specs.declared.ops.Sort.{Sort}
use Rattle.design_cycles.specs.declared.ops.Sort.TheVariants.{Register, Calls, Gives, Made}
use Rattle.design_cycles.specs.Sorts.{holds}
use Rattle.body_index.specs.OpIndexes.{op_view}
use Rattle.design_cycles.specs.Summing.{KnowsCallees}
use Rattle.design_cycles.proofs.Known.{found, known_inner}
use Rattle.design_cycles.proofs.Locals.{from_In-picked, depends_wires}
use Rattle.design_cycles.proofs.NodeValues.{position_least}
use Rattle.ir_store.proofs.StoredModules.{stored_at}

-- ---- what code tells by ids

numbered_at : (ids : List ℕ) (q : ℕ) → is_at_its_number (map op_id ids) q ≡ true → slice_get ids q ≡ Some q
numbered_at ids q is = go (slice_get ids q) (subst (λ x. is_numbered q x ≡ true) (slice_get-map op_id ids q) is)
  where
    go : (x : Option ℕ) → is_numbered q (option_map op_id x) ≡ true → x ≡ Some q
    go None never = cc
    go (Some n) same = ap Some (eqb-true n q same)

value_before : (ids : List ℕ) (j : ℕ) (v : Value) → is_before (map op_id ids) j v ≡ true → StandsBefore j (ref_by (position_of ids) v)
value_before ids j (Port p) is = _
value_before ids j (Result id k) is = go (nat_lt id.index j) refl (is_at_its_number (map op_id ids) id.index) refl is
  where
    below : (a b : ℕ) → nat_lt a b ≡ true → a < b
    below a b low = grind (arith, nat_tests)

    go : (a : Bool) → nat_lt id.index j ≡ a → (b : Bool) → is_at_its_number (map op_id ids) id.index ≡ b → (a && b) ≡ true → position_of ids id.index < j
    go true low true at both =
        let least : position_of ids id.index ≤ id.index = position_least ids id.index id.index (numbered_at ids id.index at) in
        let under : id.index < j = below id.index j low in
        omega arith
    go true low false at never = cc
    go false low b at never = cc
value_before ids j Undefined is = _

pub operands_before : (ids : List ℕ) (all : List OpId) (j : ℕ) (vs : List Value) → all ≡ map op_id ids → list_all (is_before all j) vs ≡ true
    → (r : Ref) → In r (map (ref_by (position_of ids)) vs) → StandsBefore j r
operands_before ids all j vs are each r here =
    let found = from_In-map (ref_by (position_of ids)) r vs here in
    subst (StandsBefore j) (sym found.2)
    (value_before ids j found.0 (subst (λ (is : List OpId). is_before is j found.0 ≡ true) are (one vs each found.0 found.1)))
  where
    one : (xs : List Value) → list_all (is_before all j) xs ≡ true → (v : Value) → In v xs → is_before all j v ≡ true
    one [] each v here = absurd here
    one (x ∷ xs) each v here = go (is_before all j x) refl (list_all (is_before all j) xs) refl each here (one xs)
      where
        go : (a : Bool) → is_before all j x ≡ a → (b : Bool) → list_all (is_before all j) xs ≡ b → (a && b) ≡ true → (v ≡ x) ⊎ In v xs
            → (list_all (is_before all j) xs ≡ true → (w : Value) → In w xs → is_before all j w ≡ true) → is_before all j v ≡ true
        go true first true others both (inl same) rest = subst (λ w. is_before all j w ≡ true) (sym same) first
        go true first true others both (inr later) rest = rest others v later
        go true first false others never here rest = cc
        go false first b others never here rest = cc

-- the operation that is read at a position
pub after_operands : (b : Body) (o : CodeOp) (all : List OpId) (j : ℕ) → all ≡ map op_id (ids_of b) → slice_get (ops_by_position (ops_of b)) j ≡ Some (op_view b o)
    → list_all (is_before all j) o.operands.now ≡ true → StandsAfter (ops_by_position (ops_of b)) j
after_operands b o all j are at each x there plain r here =
    let same : Some x ≡ Some (op_view b o) = sym there ∙ at in
    let is : x ≡ op_view b o = cc in
    operands_before (ids_of b) all j o.operands.now are each r (subst (λ (y : Op). In r y.operands) is here)

pub not_register : (b : Body) (o : CodeOp) (s : Sort) → (s ≡ Register → ⊥) → holds s ≡ is_register (op_view b o) → is_register (op_view b o) ≡ false
not_register b o s other is = sym is ∙ go s other
  where
    go : (s : Sort) → (s ≡ Register → ⊥) → holds s ≡ false
    go Register other = absurd (other refl)
    go (Calls i) other = refl
    go Gives other = refl
    go Made other = refl

pub after_or_late : (b : Body) (o : CodeOp) (all : List OpId) (j : ℕ) (r : Bool) → all ≡ map op_id (ids_of b) → slice_get (ops_by_position (ops_of b)) j ≡ Some (op_view b o)
    → is_register (op_view b o) ≡ false → r ≡ list_all (is_before all j) o.operands.now → MatchBool r (StandsAfter (ops_by_position (ops_of b)) j) (IsLate b all j)
after_or_late b o all j true are at plain is = after_operands b o all j are at (sym is)
after_or_late b o all j false are at plain is = record { op_there = o; has_op = at; plain = plain; late = sym is }

pub register_after : (b : Body) (o : CodeOp) (j : ℕ) → slice_get (ops_by_position (ops_of b)) j ≡ Some (op_view b o) → is_register (op_view b o) ≡ true → StandsAfter (ops_by_position (ops_of b)) j
register_after b o j at is x there plain r here =
    let same : Some x ≡ Some (op_view b o) = sym there ∙ at in
    let one : x ≡ op_view b o = cc in
    let kept : is_register x ≡ true = ap is_register one ∙ is in cc

pub if_true : (A B : Type 0) (r : Bool) → r ≡ true → MatchBool r A B → A
if_true A B true is h = h
if_true A B false is h = cc

pub one_after : (os : List Op) (n : ℕ) → ((j : ℕ) → j < n → StandsAfter os j) → StandsAfter os n → (j : ℕ) → j < n + 1 → StandsAfter os j
one_after os n before here j low = go (grind arith)
  where
    go : (j < n) ⊎ (j ≡ n) → StandsAfter os j
    go (inl under) = before j under
    go (inr same) = subst (StandsAfter os) (sym same) here

pub all_after : (os : List Op) (n : ℕ) → length os ≤ n → ((j : ℕ) → j < n → StandsAfter os j) → IsInOrder os
all_after os n all each j o there =
    let bound : j < length os = slice_get_within os j o there in
    each j (omega arith) o there

-- ---- no cycle along wires

typed_from : (t : Option HwType) (r : Ref) (rs : List Ref) → In r (where_typed t rs) → In r rs
typed_from None r rs never = absurd never
typed_from (Some t) r rs here = here

made_from : (b : Bool) (r : Ref) (rs : List Ref) → In r (cond b [] rs) → In r rs
made_from true r rs never = absurd never
made_from false r rs here = here

-- what the results of an operation need is among its operands
wire_operand : (table : Name → ℕ → List ℕ) (o : Op) (k : ℕ) (x : Option Instance) (r : Ref) → In r (op_wires table o k x) → In r o.operands
wire_operand table o k None r here = typed_from (result_type o k) r o.operands (made_from (is_output_op o) r (where_typed (result_type o k) o.operands) here)
wire_operand table o k (Some i) r here = let found = from_In-picked o.operands r (table i.symbol k) here in In-slice_get r o.operands found.0 found.2

module _ (table : Name → ℕ → List ℕ) (os : List Op) (ordered : IsInOrder os) where
  abbrev height : Ref → ℕ
  height (port p) = 0
  height (result j k) = suc j
  height undefined = 0

  lower : (j : ℕ) (r : Ref) → StandsBefore j r → height r < suc j
  lower j (port p) before = omega arith
  lower j (result q k) before = let below : q < j = before in omega arith
  lower j undefined before = omega arith

  falls : FallsAlong (wires table os) height
  falls (port p) b never = absurd never
  falls undefined b never = absurd never
  falls (result j k) b here = go (slice_get os j) refl here
    where
      go : (x : Option Op) → slice_get os j ≡ x → In b (result_wires table k x) → height b < suc j
      go None none never = absurd never
      go (Some o) at need = by_register (is_register o) refl need
        where
          by_register : (t : Bool) → is_register o ≡ t → In b (cond t [] (op_wires table o k (instance_in o.kind))) → height b < suc j
          by_register true is never = absurd never
          by_register false is wire = lower j b (ordered j o at is b (wire_operand table o k (instance_in o.kind) b wire))

-- ---- of a module of a design

module _ (modules : List StoredModule) (distinct : HasDistinctSymbols (map numbered_module modules)) (i : ℕ) (m : CodeModule) (at : Some (module_of m) ≡ slice_get modules i)
    (summaries : List Summary) (inner : KnowsCallees (map numbered_module modules) (bit_sets_by (map (λ (x : StoredModule). x.symbol) modules) summaries) (symbol_at modules i)) where
  abbrev design : Design
  design = map numbered_module modules

  abbrev bit_sets : Name → List (List ℕ)
  bit_sets = bit_sets_by (map (λ (x : StoredModule). x.symbol) modules) summaries

  ordered_there : IsInOrder (ops_by_position (ops_of m.body)) → IsInOrder (body_of (find_module design m.symbol))
  ordered_there ordered = subst (λ o. IsInOrder (body_of o)) (sym (found modules distinct i m at summaries inner)) ordered

  around : (j : ℕ) (cyclic : IsCyclicAt design i j) → DependsOn design m.symbol (net [] (result j cyclic.number)) (net [] (result j cyclic.number))
  around j cyclic =
      let one : Some cyclic.module_there ≡ Some (numbered_module (module_of m)) = sym cyclic.has_module ∙ stored_at modules i (module_of m) at in
      let one_is : cyclic.module_there ≡ numbered_module (module_of m) = cc in
      subst (λ (x : Module). DependsOn design x.symbol (net [] (result j cyclic.number)) (net [] (result j cyclic.number))) one_is cyclic.depends

  pub ordered_acyclic : IsInOrder (ops_by_position (ops_of m.body)) → (j : ℕ) → IsCyclicAt design i j → ⊥
  ordered_acyclic ordered j cyclic =
      let os = body_of (find_module design m.symbol) in
      IsAcyclic-falling (wires (table_by bit_sets) os) (height (table_by bit_sets) os (ordered_there ordered)) (falls (table_by bit_sets) os (ordered_there ordered)) (result j cyclic.number)
      (depends_wires design m.symbol (table_by bit_sets) (known_inner modules distinct i m at summaries inner) (result j cyclic.number) (result j cyclic.number) (around j cyclic))
