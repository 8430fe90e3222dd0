-- Operations with other operands, names and dictionaries: what a list of them has as the list that they come from.
use Rattle.std.proofs.Common.{◌≡◌, ℕ, zero, suc, pred, ◌+◌, Bool, true, false, cond, List, [], ◌∷◌, ◌++◌, map, slice_get, is_some, Option, Some, None, refl, sym, ap, ap₂, ◌∙◌, option_and_then, option_map}
use Rattle.std.proofs.lemmas.List.{map-id}
use Rattle.bits_core.specs.Word.{Word}
use Rattle.hw_model.specs.Types.{Name}
use Rattle.hw_model.specs.Design.{Ref, OpResult, Op, RegisterForm, instance_in, register_form, is_instance, is_register, is_output_op, is_output_kind, result_type, output_refs}
use Rattle.hw_model.specs.Flat.{instances, before_instance, if_zero, body_state, op_state, instance_state, width_of, register_in, register_parts, async_reset_in, async_parts, has_async_reset}
use Rattle.hw_model.specs.Meaning.{next_value, rise_value}
use Rattle.hw_model.specs.Hierarchy.{callee_symbols, called_by}
use Rattle.edit_laws.specs.Edit.{retarget}
use Rattle.edit_laws.proofs.OtherOperands.{next-retarget, rise-retarget}
use Rattle.hw_model.specs.Kinds.{Kind, Instance}
use Rattle.hw_model.specs.Kinds.Kind.{instance}
use Rattle.inline_laws.specs.Inline.{unnamed_kind, RenamesOnly}

-- ---- kinds but for the names of instances

nameless : {A : Type 0} (f : Kind → A) → ((i : Instance) → f (instance (record i { name = [] })) ≡ f (instance i)) → (k : Kind) → f (unnamed_kind k) ≡ f k
nameless f same (instance i) = same i
nameless f same _ = refl

-- what no instance's name decides is the same of kinds that differ in that alone
pub by_kind : {A : Type 0} (f : Kind → A) → ((i : Instance) → f (instance (record i { name = [] })) ≡ f (instance i)) → (j k : Kind) → unnamed_kind j ≡ unnamed_kind k → f j ≡ f k
by_kind f same j k e = sym (nameless f same j) ∙ ap f e ∙ nameless f same k

unnamed_plain : (k : Kind) → instance_in k ≡ None → unnamed_kind k ≡ k
unnamed_plain (instance i) none = cc
unnamed_plain _ none = refl

-- an instance without its name
abbrev pub unnamed_instance : Instance → Instance
unnamed_instance i = record i { name = [] }

-- ---- operations

-- the operation has the kind but for an instance's name, the types and the results of another one, and its operands changed by f
pub record IsMoved (f : Ref → Ref) (o o' : Op) : Type 0 where
  pub kind_is : unnamed_kind o'.kind ≡ unnamed_kind o.kind
  pub operands_are : o'.operands ≡ map f o.operands
  pub types_are : o'.types ≡ o.types
  pub results_are : o'.results ≡ o.results

pub moved_itself : (o : Op) → IsMoved (λ r. r) o o
moved_itself o = record { kind_is = refl; operands_are = sym (map-id o.operands); types_are = refl; results_are = refl }

pub moved_retarget : (f : Ref → Ref) (o : Op) → IsMoved f o (retarget f o)
moved_retarget f o = record { kind_is = refl; operands_are = refl; types_are = refl; results_are = refl }

pub moved_renamed : (rename : Op → Op) → RenamesOnly rename → (f : Ref → Ref) (o : Op) → IsMoved f o (rename (retarget f o))
moved_renamed rename only f o = record {
  kind_is = only.kind_is (retarget f o);
  operands_are = only.operands_are (retarget f o);
  types_are = only.types_are (retarget f o);
  results_are = only.results_are (retarget f o);
}

-- both are there, or neither
pub data Matches (f : Ref → Ref) (x x' : Option Op) : Type 0 where
  missing : x ≡ None → x' ≡ None → Matches f x x'
  matched : (o o' : Op) → x ≡ Some o → x' ≡ Some o' → IsMoved f o o' → Matches f x x'

-- ---- one operation

module _ (f : Ref → Ref) (o o' : Op) (moved : IsMoved f o o') where
  pub moved_type : (k : ℕ) → result_type o' k ≡ result_type o k
  moved_type k = ap (λ xs. option_map (λ (r : OpResult). r.type) (slice_get xs k)) moved.results_are

  pub moved_form : register_form o'.kind ≡ register_form o.kind
  moved_form = by_kind register_form (λ i. refl) o'.kind o.kind moved.kind_is

  pub moved_is_output : is_output_kind o'.kind ≡ is_output_kind o.kind
  moved_is_output = by_kind is_output_kind (λ i. refl) o'.kind o.kind moved.kind_is

  pub moved_is_instance : is_instance o' ≡ is_instance o
  moved_is_instance = by_kind (λ k. is_some (instance_in k)) (λ i. refl) o'.kind o.kind moved.kind_is

  -- an instance of the same module, with the same names of ports
  pub moved_instance : option_map unnamed_instance (instance_in o'.kind) ≡ option_map unnamed_instance (instance_in o.kind)
  moved_instance = by_kind (λ k. option_map unnamed_instance (instance_in k)) (λ i. refl) o'.kind o.kind moved.kind_is

  pub moved_symbol : {A : Type 0} (f : Name → Option A) → option_and_then (λ (i : Instance). f i.symbol) (instance_in o'.kind) ≡ option_and_then (λ (i : Instance). f i.symbol) (instance_in o.kind)
  moved_symbol f = by_kind (λ k. option_and_then (λ (i : Instance). f i.symbol) (instance_in k)) (λ i. refl) o'.kind o.kind moved.kind_is

  -- what is no instance has the same kind
  pub moved_none : instance_in o.kind ≡ None → instance_in o'.kind ≡ None
  moved_none none = go (instance_in o'.kind) (moved_instance ∙ ap (option_map unnamed_instance) none)
    where
      go : (x : Option Instance) → option_map unnamed_instance x ≡ None → x ≡ None
      go None same = refl
      go (Some i) same = cc

  pub moved_kind : instance_in o.kind ≡ None → o'.kind ≡ o.kind
  moved_kind none = sym (unnamed_plain o'.kind (moved_none none)) ∙ moved.kind_is ∙ unnamed_plain o.kind none

  -- the instance that an instance is
  pub moved_some : (i : Instance) → instance_in o.kind ≡ Some i → (x : Instance) × (instance_in o'.kind ≡ Some x) × (unnamed_instance x ≡ unnamed_instance i)
  moved_some i is = go (instance_in o'.kind) refl (moved_instance ∙ ap (option_map unnamed_instance) is)
    where
      go : (y : Option Instance) → instance_in o'.kind ≡ y → option_map unnamed_instance y ≡ Some (unnamed_instance i)
          → (x : Instance) × (instance_in o'.kind ≡ Some x) × (unnamed_instance x ≡ unnamed_instance i)
      go None there same = cc
      go (Some x) there same = let one : unnamed_instance x ≡ unnamed_instance i = cc in (x, there, one)

  pub moved_back : (x : Instance) → instance_in o'.kind ≡ Some x → (i : Instance) × (instance_in o.kind ≡ Some i) × (i.symbol ≡ x.symbol)
  moved_back x is = go (instance_in o.kind) refl (sym (ap (option_map unnamed_instance) is) ∙ moved_instance)
    where
      go : (y : Option Instance) → instance_in o.kind ≡ y → Some (unnamed_instance x) ≡ option_map unnamed_instance y → (i : Instance) × (instance_in o.kind ≡ Some i) × (i.symbol ≡ x.symbol)
      go None there same = cc
      go (Some i) there same = let one : unnamed_instance x ≡ unnamed_instance i = cc in (i, there, ap (λ (z : Instance). z.symbol) (sym one))

  pub moved_state : (inner : Name → ℕ) → op_state inner o' ≡ op_state inner o
  moved_state inner =
      by_kind (λ k. cond (is_some (register_form k)) (width_of (result_type o' 0)) (instance_state inner (instance_in k))) (λ i. refl) o'.kind o.kind moved.kind_is
      ∙ ap (λ x. cond (is_register o) x (instance_state inner (instance_in o.kind))) (ap width_of (moved_type 0))

  -- what a register loads
  pub moved_next : (τ : Ref → Word) (old : Word) → next_value (register_in o') τ old ≡ next_value (register_in o) (λ r. τ (f r)) old
  moved_next τ old =
      ap₂ (λ x rs. next_value (option_and_then (λ (g : RegisterForm). register_parts g.has_enable g.reset rs) x) τ old) moved_form moved.operands_are
      ∙ next-retarget f o τ old

  -- and to what it is reset
  pub moved_rise : (τ υ : Ref → Word) (old : Word) → rise_value (async_reset_in o') τ υ old ≡ rise_value (async_reset_in o) (λ r. τ (f r)) (λ r. υ (f r)) old
  moved_rise τ υ old =
      ap₂ (λ b rs. rise_value (cond b (async_parts rs) None) τ υ old) (by_kind has_async_reset (λ i. refl) o'.kind o.kind moved.kind_is) moved.operands_are
      ∙ rise-retarget f o τ υ old

-- ---- lists

module _ (f : Ref → Ref) (g : Op → Op) (moves : (o : Op) → IsMoved f o (g o)) where
  pub get_moved : (os : List Op) (j : ℕ) → Matches f (slice_get os j) (slice_get (map g os) j)
  get_moved [] j = missing refl refl
  get_moved (o ∷ os) zero = matched o (g o) refl refl (moves o)
  get_moved (o ∷ os) (suc j) = get_moved os j

  pub instances_moved : (os : List Op) → instances (map g os) ≡ map g (instances os)
  instances_moved [] = refl
  instances_moved (o ∷ os) =
      ap₂ (λ b xs. cond b (g o ∷ xs) xs) (moved_is_instance f o (g o) (moves o)) (instances_moved os) ∙ go (is_instance o)
    where
      go : (b : Bool) → cond b (g o ∷ map g (instances os)) (map g (instances os)) ≡ map g (cond b (o ∷ instances os) (instances os))
      go true = refl
      go false = refl

  pub output_refs_moved : (os : List Op) → output_refs (map g os) ≡ map f (output_refs os)
  output_refs_moved [] = refl
  output_refs_moved (o ∷ os) =
      ap₂ (λ b rs. cond b rs (output_refs (map g os))) (moved_is_output f o (g o) (moves o)) (moves o).operands_are
      ∙ ap (λ rs. cond (is_output_op o) (map f o.operands) rs) (output_refs_moved os)
      ∙ go (is_output_op o)
    where
      go : (b : Bool) → cond b (map f o.operands) (map f (output_refs os)) ≡ map f (cond b o.operands (output_refs os))
      go true = refl
      go false = refl

  pub body_state_moved : (inner : Name → ℕ) (os : List Op) → body_state inner (map g os) ≡ body_state inner os
  body_state_moved inner [] = refl
  body_state_moved inner (o ∷ os) = ap₂ (λ a b. a + b) (moved_state f o (g o) (moves o) inner) (body_state_moved inner os)

  pub called_moved : (os : List Op) → callee_symbols (map g os) ≡ callee_symbols os
  called_moved [] = refl
  called_moved (o ∷ os) =
      ap₂ (λ x xs. x ++ xs) (by_kind (λ k. called_by (instance_in k)) (λ i. refl) (g o).kind o.kind (moves o).kind_is) (called_moved os)

  pub before_moved : (u : ℕ) (os : List Op) → before_instance u (map g os) ≡ map g (before_instance u os)
  before_moved u [] = refl
  before_moved u (o ∷ os) =
      ap (λ b. cond b (if_zero u [] (g o ∷ before_instance (pred u) (map g os))) (g o ∷ before_instance u (map g os))) (moved_is_instance f o (g o) (moves o))
      ∙ go (is_instance o) u (before_moved u os) (before_moved (pred u) os)
    where
      go : (b : Bool) (u : ℕ) → before_instance u (map g os) ≡ map g (before_instance u os) → before_instance (pred u) (map g os) ≡ map g (before_instance (pred u) os)
          → cond b (if_zero u [] (g o ∷ before_instance (pred u) (map g os))) (g o ∷ before_instance u (map g os))
          ≡ map g (cond b (if_zero u [] (o ∷ before_instance (pred u) os)) (o ∷ before_instance u os))
      go true zero rest fewer = refl
      go true (suc u) rest fewer = ap (λ xs. g o ∷ xs) fewer
      go false u rest fewer = ap (λ xs. g o ∷ xs) rest
