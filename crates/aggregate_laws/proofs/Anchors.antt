-- What the leaves of registers, and instances and outputs with leaves, give to a body: its instances, output values and
-- register content.
use Rattle.std.proofs.Common.{◌≡◌, ℕ, zero, suc, pred, ◌+◌, Bool, true, false, cond, List, [], ◌∷◌, ◌++◌, map, take, flat_map, slice_get, Option, Some, None, is_some, refl, sym, ap, ap₂, ◌∙◌, arith, add-zero}
use Rattle.hw_model.specs.Types.{Name, HwType, width}
use Rattle.hw_model.specs.Kinds.{Kind}
use Rattle.hw_model.specs.Kinds.Kind.{instance}
use Rattle.hw_model.specs.Design.{Ref, Op, RegisterForm, instance_in, register_form, is_instance, is_output_op, is_output_kind, result_type, output_refs}
use Rattle.hw_model.specs.Flat.{Path, Slot, instances, before_instance, if_zero, body_state, op_state, instance_state, held_width, width_of, body_registers}
use Rattle.hw_model.specs.Hierarchy.{callee_symbols, called_by}
use Rattle.hw_model.proofs.Content.{body_state-append}
use Rattle.hw_model.proofs.Sorts.{Sort, sort_of}
use Rattle.hw_model.proofs.Sorts.Sort.{a_register, an_instance, an_output, a_made}
use Rattle.edit_laws.specs.Edit.{anchors}
use Rattle.edit_laws.proofs.Anchors.{instances-anchors, output_refs-anchors, body_state-anchors, before_instance-anchors, called-anchors}
use Rattle.aggregate_laws.specs.Leaves.{bare, bare_kind, bare_op, leaf_operands, leaf_registers, leaves_of, spread, lower_by_form, lower_anchor}
use Rattle.aggregate_laws.proofs.Words.{widths, leaves_width}
use Rattle.aggregate_laws.proofs.Bare.{called_bare, form_bare, output_bare, instance_bare, state_by_symbol, op_symbol_state, symbol_list, called_by_symbol, body_state_bare, instances_bare, output_refs_bare, before_bare, callee_symbols_bare}

-- ---- what a register is not

pub register_apart : (k : Kind) (f : RegisterForm) → register_form k ≡ Some f → (instance_in k ≡ None) × (is_output_kind k ≡ false) × (bare_kind k ≡ k)
register_apart k f is = go (sort_of k)
  where
    kept : (k : Kind) → register_form k ≡ Some f → bare_kind k ≡ k
    kept (instance i) never = cc
    kept _ here = refl

    go : Sort k → (instance_in k ≡ None) × (is_output_kind k ≡ false) × (bare_kind k ≡ k)
    go (a_register g r i u) = (i, u, kept k is)
    go (an_instance x r i u) = let never : None ≡ Some f = sym r ∙ is in cc
    go (an_output r i u) = let never : None ≡ Some f = sym r ∙ is in cc
    go (a_made r i u) = let never : None ≡ Some f = sym r ∙ is in cc

-- ---- registers of a kind

module _ (K : Kind) (f : RegisterForm) (r : register_form K ≡ Some f) (i : instance_in K ≡ None) (u : is_output_kind K ≡ false) (g : ℕ → List Ref) where
  leaf_instances : (n : ℕ) (ts : List HwType) (os : List Op) → instances (leaf_registers K g n ts ++ os) ≡ instances os
  leaf_instances n [] os = refl
  leaf_instances n (t ∷ ts) os = simp i (leaf_instances (suc n) ts os)

  leaf_outputs : (n : ℕ) (ts : List HwType) (os : List Op) → output_refs (leaf_registers K g n ts ++ os) ≡ output_refs os
  leaf_outputs n [] os = refl
  leaf_outputs n (t ∷ ts) os = simp u (leaf_outputs (suc n) ts os)

  leaf_called : (n : ℕ) (ts : List HwType) (os : List Op) → callee_symbols (leaf_registers K g n ts ++ os) ≡ callee_symbols os
  leaf_called n [] os = refl
  leaf_called n (t ∷ ts) os = simp i (leaf_called (suc n) ts os)

  leaf_before : (m n : ℕ) (ts : List HwType) (os : List Op) → before_instance m (leaf_registers K g n ts ++ os) ≡ leaf_registers K g n ts ++ before_instance m os
  leaf_before m n [] os = refl
  leaf_before m n (t ∷ ts) os = simp i (ap (λ xs. bare K (g n) (t ∷ []) ∷ xs) (leaf_before m (suc n) ts os))

  pub leaf_state : (inner : Name → ℕ) (n : ℕ) (ts : List HwType) → body_state inner (leaf_registers K g n ts) ≡ widths ts
  leaf_state inner n [] = refl
  leaf_state inner n (t ∷ ts) = simp r (ap (λ m. width t + m) (leaf_state inner (suc n) ts))

  pub leaf_slots : (inner : Path → Name → List Slot) (p : Path) (m n : ℕ) (ts : List HwType) (os : List Op)
      → body_registers inner p m (leaf_registers K g n ts ++ os) ≡ map (λ (o : Op). record { path = p; op = o }) (leaf_registers K g n ts) ++ body_registers inner p m os
  leaf_slots inner p m n [] os = refl
  leaf_slots inner p m n (t ∷ ts) os = simp (r, i) (ap (λ xs. record { path = p; op = bare K (g n) (t ∷ []) } ∷ xs) (leaf_slots inner p m (suc n) ts os))

pub take-leaf_registers : (K : Kind) (g : ℕ → List Ref) (k n : ℕ) (ts : List HwType) → take k (leaf_registers K g n ts) ≡ leaf_registers K g n (take k ts)
take-leaf_registers K g zero n ts = refl
take-leaf_registers K g (suc k) n [] = refl
take-leaf_registers K g (suc k) n (t ∷ ts) = ap (λ xs. bare K (g n) (t ∷ []) ∷ xs) (take-leaf_registers K g k (suc n) ts)

pub leaf_register_at : (K : Kind) (g : ℕ → List Ref) (ts : List HwType) (n k : ℕ) (t : HwType) → slice_get ts k ≡ Some t
    → slice_get (leaf_registers K g n ts) k ≡ Some (bare K (g (n + k)) (t ∷ []))
leaf_register_at K g [] n k t is = cc
leaf_register_at K g (x ∷ ts) n zero t is =
    let same : x ≡ t = cc in
    ap₂ (λ m y. Some (bare K (g m) (y ∷ []))) (sym (add-zero n)) same
leaf_register_at K g (x ∷ ts) n (suc k) t is =
    leaf_register_at K g ts (suc n) k t is ∙ ap (λ m. Some (bare K (g m) (t ∷ []))) (let e : suc n + k ≡ n + suc k = omega arith in e)

-- and back
pub from_leaf_register : (K : Kind) (g : ℕ → List Ref) (ts : List HwType) (n k : ℕ) (x : Op) → slice_get (leaf_registers K g n ts) k ≡ Some x
    → (t : HwType) × (slice_get ts k ≡ Some t) × (x ≡ bare K (g (n + k)) (t ∷ []))
from_leaf_register K g [] n k x is = cc
from_leaf_register K g (t ∷ ts) n zero x is =
    let same : bare K (g n) (t ∷ []) ≡ x = cc in
    (t, refl, sym same ∙ ap (λ m. bare K (g m) (t ∷ [])) (sym (add-zero n)))
from_leaf_register K g (t ∷ ts) n (suc k) x is =
    let found = from_leaf_register K g ts (suc n) k x is in
    (found.0, found.1, found.2 ∙ ap (λ m. bare K (g m) (found.0 ∷ [])) (let e : suc n + k ≡ n + suc k = omega arith in e))

-- ---- what becomes of a list of operations

module _ (parts : Ref → List Ref) where
  pub lowered_register : (o : Op) (f : RegisterForm) → register_form o.kind ≡ Some f
      → lower_anchor parts o ≡ leaf_registers (bare_kind o.kind) (leaf_operands f.has_enable f.reset (map parts o.operands)) 0 (leaves_of (result_type o 0))
  lowered_register o f is = ap (lower_by_form parts o) is

  pub lowered_other : (o : Op) → register_form o.kind ≡ None → lower_anchor parts o ≡ spread parts o ∷ []
  lowered_other o is = ap (lower_by_form parts o) is

  module _ (o : Op) (f : RegisterForm) (is : register_form o.kind ≡ Some f) where
    pub bare_form : register_form (bare_kind o.kind) ≡ Some f
    bare_form = form_bare o.kind ∙ is

    pub bare_apart : (instance_in (bare_kind o.kind) ≡ None) × (is_output_kind (bare_kind o.kind) ≡ false)
    bare_apart =
        let apart = register_apart o.kind f is in
        (ap instance_in apart.2 ∙ apart.0, ap is_output_kind apart.2 ∙ apart.1)

  -- by whether the first of them is a register
  pub by_form : (P : List Op → Type 0) (o : Op) → ((f : RegisterForm) → register_form o.kind ≡ Some f
      → P (leaf_registers (bare_kind o.kind) (leaf_operands f.has_enable f.reset (map parts o.operands)) 0 (leaves_of (result_type o 0))))
      → (register_form o.kind ≡ None → P (spread parts o ∷ [])) → P (lower_anchor parts o)
  by_form P o some none = go (register_form o.kind) refl
    where
      go : (x : Option RegisterForm) → register_form o.kind ≡ x → P (lower_by_form parts o x)
      go None is = none is
      go (Some f) is = some f is

  pub instances_lowered : (os : List Op) → instances (flat_map (lower_anchor parts) os) ≡ map (spread parts) (instances os)
  instances_lowered [] = refl
  instances_lowered (o ∷ os) =
      by_form (λ xs. instances (xs ++ flat_map (lower_anchor parts) os) ≡ map (spread parts) (instances (o ∷ os))) o
      (λ f is.
      let none : instance_in o.kind ≡ None = (register_apart o.kind f is).0 in
      leaf_instances (bare_kind o.kind) f (bare_form o f is) (bare_apart o f is).0 (bare_apart o f is).1 _ 0 (leaves_of (result_type o 0)) (flat_map (lower_anchor parts) os)
      ∙ instances_lowered os ∙ sym (ap (λ x. map (spread parts) (cond (is_some x) (o ∷ instances os) (instances os))) none))
      (λ is.
      ap₂ (λ b xs. cond b (spread parts o ∷ xs) xs) (instance_bare o.kind) (instances_lowered os) ∙ go (is_instance o))
    where
      go : (b : Bool) → cond b (spread parts o ∷ map (spread parts) (instances os)) (map (spread parts) (instances os)) ≡ map (spread parts) (cond b (o ∷ instances os) (instances os))
      go true = refl
      go false = refl

  pub output_refs_lowered : (os : List Op) → output_refs (flat_map (lower_anchor parts) os) ≡ flat_map parts (output_refs os)
  output_refs_lowered [] = refl
  output_refs_lowered (o ∷ os) =
      by_form (λ xs. output_refs (xs ++ flat_map (lower_anchor parts) os) ≡ flat_map parts (output_refs (o ∷ os))) o
      (λ f is.
      let none : is_output_kind o.kind ≡ false = (register_apart o.kind f is).1 in
      leaf_outputs (bare_kind o.kind) f (bare_form o f is) (bare_apart o f is).0 (bare_apart o f is).1 _ 0 (leaves_of (result_type o 0)) (flat_map (lower_anchor parts) os)
      ∙ output_refs_lowered os ∙ sym (ap (λ b. flat_map parts (cond b o.operands (output_refs os))) none))
      (λ is.
      ap₂ (λ b rs. cond b (flat_map parts o.operands) rs) (output_bare o.kind) (output_refs_lowered os) ∙ go (is_output_op o))
    where
      go : (b : Bool) → cond b (flat_map parts o.operands) (flat_map parts (output_refs os)) ≡ flat_map parts (cond b o.operands (output_refs os))
      go true = refl
      go false = refl

  pub called_lowered : (os : List Op) → callee_symbols (flat_map (lower_anchor parts) os) ≡ callee_symbols os
  called_lowered [] = refl
  called_lowered (o ∷ os) =
      by_form (λ xs. callee_symbols (xs ++ flat_map (lower_anchor parts) os) ≡ callee_symbols (o ∷ os)) o
      (λ f is.
      let none : instance_in o.kind ≡ None = (register_apart o.kind f is).0 in
      leaf_called (bare_kind o.kind) f (bare_form o f is) (bare_apart o f is).0 (bare_apart o f is).1 _ 0 (leaves_of (result_type o 0)) (flat_map (lower_anchor parts) os)
      ∙ called_lowered os ∙ sym (ap (λ x. called_by x ++ callee_symbols os) none))
      (λ is.
      ap₂ (λ xs ys. xs ++ ys)
      (called_by_symbol (instance_in (bare_kind o.kind)) ∙ ap symbol_list (called_bare o.kind) ∙ sym (called_by_symbol (instance_in o.kind)))
      (called_lowered os))

  -- an operation has as many bits of content as what becomes of it
  op_state_lowered : (inner : Name → ℕ) (o : Op) → body_state inner (lower_anchor parts o) ≡ op_state inner o
  op_state_lowered inner o =
      by_form (λ xs. body_state inner xs ≡ op_state inner o) o
      (λ f is.
      leaf_state (bare_kind o.kind) f (bare_form o f is) (bare_apart o f is).0 (bare_apart o f is).1 _ inner 0 (leaves_of (result_type o 0))
      ∙ widths_of (result_type o 0)
      ∙ sym (ap (λ x. cond (is_some x) (held_width o) (instance_state inner (instance_in o.kind))) is))
      (λ is.
      add-zero (op_state inner (spread parts o))
      ∙ ap (λ x. cond (is_some x) (held_width (spread parts o)) (instance_state inner (instance_in (bare_kind o.kind)))) (form_bare o.kind ∙ is)
      ∙ state_by_symbol inner (instance_in (bare_kind o.kind)) ∙ ap (op_symbol_state inner) (called_bare o.kind) ∙ sym (state_by_symbol inner (instance_in o.kind))
      ∙ sym (ap (λ x. cond (is_some x) (held_width o) (instance_state inner (instance_in o.kind))) is))
    where
      widths_of : (t : Option HwType) → widths (leaves_of t) ≡ width_of t
      widths_of None = refl
      widths_of (Some t) = leaves_width t

  pub state_lowered : (inner : Name → ℕ) (os : List Op) → body_state inner (flat_map (lower_anchor parts) os) ≡ body_state inner os
  state_lowered inner [] = refl
  state_lowered inner (o ∷ os) =
      body_state-append inner (lower_anchor parts o) (flat_map (lower_anchor parts) os)
      ∙ ap₂ (λ a b. a + b) (op_state_lowered inner o) (state_lowered inner os)

  -- the content before an instance
  pub before_lowered : (inner : Name → ℕ) (n : ℕ) (os : List Op)
      → body_state inner (before_instance n (flat_map (lower_anchor parts) os)) ≡ body_state inner (before_instance n os)
  before_lowered inner n [] = refl
  before_lowered inner n (o ∷ os) =
      by_form (λ xs. body_state inner (before_instance n (xs ++ flat_map (lower_anchor parts) os)) ≡ body_state inner (before_instance n (o ∷ os))) o
      (λ f is.
      let none : instance_in o.kind ≡ None = (register_apart o.kind f is).0 in
      ap (body_state inner) (leaf_before (bare_kind o.kind) f (bare_form o f is) (bare_apart o f is).0 (bare_apart o f is).1
      (leaf_operands f.has_enable f.reset (map parts o.operands)) n 0 (leaves_of (result_type o 0)) (flat_map (lower_anchor parts) os))
      ∙ body_state-append inner (leaf_registers (bare_kind o.kind) (leaf_operands f.has_enable f.reset (map parts o.operands)) 0 (leaves_of (result_type o 0))) (before_instance n (flat_map (lower_anchor parts) os))
      ∙ ap₂ (λ a b. a + b) (ap (body_state inner) (sym (lowered_register o f is)) ∙ op_state_lowered inner o) (before_lowered inner n os)
      ∙ sym (ap (λ x. body_state inner (cond (is_some x) (if_zero n [] (o ∷ before_instance (pred n) os)) (o ∷ before_instance n os))) none))
      (λ is.
      ap (λ b. body_state inner (cond b (if_zero n [] (spread parts o ∷ before_instance (pred n) (flat_map (lower_anchor parts) os))) (spread parts o ∷ before_instance n (flat_map (lower_anchor parts) os)))) (instance_bare o.kind)
      ∙ go (is_instance o) n (sym (add-zero (op_state inner (spread parts o))) ∙ ap (body_state inner) (sym (lowered_other o is)) ∙ op_state_lowered inner o)
      (before_lowered inner n os) (before_lowered inner (pred n) os))
    where
      go : (b : Bool) (n : ℕ) → op_state inner (spread parts o) ≡ op_state inner o
          → body_state inner (before_instance n (flat_map (lower_anchor parts) os)) ≡ body_state inner (before_instance n os)
          → body_state inner (before_instance (pred n) (flat_map (lower_anchor parts) os)) ≡ body_state inner (before_instance (pred n) os)
          → body_state inner (cond b (if_zero n [] (spread parts o ∷ before_instance (pred n) (flat_map (lower_anchor parts) os))) (spread parts o ∷ before_instance n (flat_map (lower_anchor parts) os)))
          ≡ body_state inner (cond b (if_zero n [] (o ∷ before_instance (pred n) os)) (o ∷ before_instance n os))
      go true zero own rest fewer = refl
      go true (suc n) own rest fewer = ap₂ (λ a b. a + b) own fewer
      go false n own rest fewer = ap₂ (λ a b. a + b) own rest

-- ---- a body by what its anchors are but for names

module _ (os ys : List Op) (same : map bare_op (anchors os) ≡ ys) where
  pub instances_by : map bare_op (instances os) ≡ instances ys
  instances_by = ap (map bare_op) (sym (instances-anchors os)) ∙ sym (instances_bare (anchors os)) ∙ ap instances same

  pub output_refs_by : output_refs os ≡ output_refs ys
  output_refs_by = sym (output_refs-anchors os) ∙ sym (output_refs_bare (anchors os)) ∙ ap output_refs same

  pub called_by_anchors : callee_symbols os ≡ callee_symbols ys
  called_by_anchors = sym (called-anchors os) ∙ sym (callee_symbols_bare (anchors os)) ∙ ap callee_symbols same

  pub state_by : (inner : Name → ℕ) → body_state inner os ≡ body_state inner ys
  state_by inner = sym (body_state-anchors inner os) ∙ sym (body_state_bare inner (anchors os)) ∙ ap (body_state inner) same

  pub before_by : (inner : Name → ℕ) (n : ℕ) → body_state inner (before_instance n os) ≡ body_state inner (before_instance n ys)
  before_by inner n =
      sym (before_instance-anchors inner n os) ∙ sym (body_state_bare inner (before_instance n (anchors os)))
      ∙ ap (body_state inner) (sym (before_bare n (anchors os))) ∙ ap (λ xs. body_state inner (before_instance n xs)) same

-- ---- the lowered body

module _ (os os' : List Op) (parts : Ref → List Ref) (same : map bare_op (anchors os') ≡ flat_map (lower_anchor parts) (anchors os)) where
  pub instances_follow : map bare_op (instances os') ≡ map (spread parts) (instances os)
  instances_follow =
      instances_by os' (flat_map (lower_anchor parts) (anchors os)) same ∙ instances_lowered parts (anchors os) ∙ ap (map (spread parts)) (instances-anchors os)

  pub output_refs_follow : output_refs os' ≡ flat_map parts (output_refs os)
  output_refs_follow =
      output_refs_by os' (flat_map (lower_anchor parts) (anchors os)) same ∙ output_refs_lowered parts (anchors os) ∙ ap (flat_map parts) (output_refs-anchors os)

  pub called_follow : callee_symbols os' ≡ callee_symbols os
  called_follow = called_by_anchors os' (flat_map (lower_anchor parts) (anchors os)) same ∙ called_lowered parts (anchors os) ∙ called-anchors os

  pub state_follows : (inner : Name → ℕ) → body_state inner os' ≡ body_state inner os
  state_follows inner =
      state_by os' (flat_map (lower_anchor parts) (anchors os)) same inner ∙ state_lowered parts inner (anchors os) ∙ body_state-anchors inner os

  pub before_follows : (inner : Name → ℕ) (n : ℕ) → body_state inner (before_instance n os') ≡ body_state inner (before_instance n os)
  before_follows inner n =
      before_by os' (flat_map (lower_anchor parts) (anchors os)) same inner n ∙ before_lowered parts inner n (anchors os) ∙ before_instance-anchors inner n os
