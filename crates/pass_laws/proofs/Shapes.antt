-- Which registers a module has, by the shapes of bodies; edits that keep a body's shape.
use Rattle.std.proofs.Common.{◌≡◌, ℕ, zero, suc, Bool, true, false, cond, List, [], ◌∷◌, ◌++◌, map, set, remove, Option, Some, None, slice_get, refl, sym, ap, ap₂, ◌∙◌}
use Rattle.std.proofs.lemmas.List.{map-append}
use Rattle.std.specs.Prelude.{is_some}
use mathlib.Core.Path.{fun_ext}
use Rattle.hw_model.specs.Types.{Name, HwType}
use Rattle.hw_model.specs.Kinds.{Instance}
use Rattle.hw_model.specs.Design.{Ref, Op, Module, Design, find_module, instance_in, is_instance, is_register, result_type}
use Rattle.hw_model.specs.Design.Ref.{undefined}
use Rattle.hw_model.specs.Flat.{Path, Slot, instance_registers, op_registers, body_registers, registers_of, module_registers}
use Rattle.hw_model.specs.Hierarchy.{called_by, callee_symbols}
use Rattle.hw_model.specs.Sound.{body_of}
use Rattle.hw_model.proofs.Sorts.{Sort, sort_of}
use Rattle.hw_model.proofs.Sorts.Sort.{a_register, an_instance, an_output, a_made}
use Rattle.edit_laws.specs.Edit.{retarget, is_anchor, anchors}
use Rattle.edit_laws.specs.Laws.{up_ref, without, erase_op, insert_op}
use Rattle.edit_laws.proofs.Anchors.{called_follow}
use Rattle.edit_laws.proofs.OtherOperands.{map_retarget_id}
use Rattle.edit_laws.proofs.Positions.{anchors-retarget, anchors-insert, anchors-remove, anchors-set}
use Rattle.pass_laws.specs.Steady.{instance_held, op_held, body_held, SameShape}

-- ---- the registers of a module

-- their types, down to a depth of instances
abbrev pub held_types : ℕ → Design → Name → List (Option HwType)
held_types zero d s = []
held_types (suc n) d s = body_held (held_types n d) (body_of (find_module d s))

abbrev slot_type : Slot → Option HwType
slot_type r = result_type r.op 0

module _ (inner : Path → Name → List Slot) (types : Name → List (Option HwType)) (alike : (p : Path) (s : Name) → map slot_type (inner p s) ≡ types s) where
  op_types : (p : Path) (u : ℕ) (o : Op) → map slot_type (op_registers inner p u o) ≡ op_held types o
  op_types p u o = go (is_register o) (instance_in o.kind)
    where
      go : (b : Bool) (x : Option Instance)
          → map slot_type (cond b (record { path = p; op = o } ∷ []) (instance_registers inner p u x)) ≡ cond b (result_type o 0 ∷ []) (instance_held types x)
      go true x = refl
      go false None = refl
      go false (Some i) = alike (u ∷ p) i.symbol

  body_types : (p : Path) (u : ℕ) (os : List Op) → map slot_type (body_registers inner p u os) ≡ body_held types os
  body_types p u [] = refl
  body_types p u (o ∷ os) =
      map-append slot_type (op_registers inner p u o) (body_registers inner p (cond (is_instance o) (suc u) u) os)
      ∙ ap₂ (λ xs ys. xs ++ ys) (op_types p u o) (body_types p (cond (is_instance o) (suc u) u) os)

pub types_held : (n : ℕ) (d : Design) (p : Path) (s : Name) → map slot_type (module_registers n d p s) ≡ held_types n d s
types_held zero d p s = refl
types_held (suc n) d p s = go (types_held n d) (find_module d s)
  where
    go : ((q : Path) (t : Name) → map slot_type (module_registers n d q t) ≡ held_types n d t) → (o : Option Module)
        → map slot_type (registers_of (module_registers n d) p o) ≡ body_held (held_types n d) (body_of o)
    go below None = refl
    go below (Some m) = body_types (module_registers n d) (held_types n d) below p 0 m.body

-- the same shapes hold the same
pub held_same : (d e : Design) → ((s : Name) → SameShape (body_of (find_module d s)) (body_of (find_module e s))) → (n : ℕ) (s : Name) → held_types n e s ≡ held_types n d s
held_same d e each zero s = refl
held_same d e each (suc n) s =
    (each s).held (held_types n e) ∙ ap (λ f. body_held f (body_of (find_module d s))) (fun_ext (held_same d e each n))

-- ---- shapes of bodies

module _ (inner : Name → List (Option HwType)) where
  pub held_anchors : (os : List Op) → body_held inner (anchors os) ≡ body_held inner os
  held_anchors [] = refl
  held_anchors (o ∷ os) = go (sort_of o.kind) (held_anchors os)
    where
      go : Sort o.kind → body_held inner (anchors os) ≡ body_held inner os → body_held inner (anchors (o ∷ os)) ≡ op_held inner o ++ body_held inner os
      go (a_register f r n u) rest = simp r (ap (λ xs. result_type o 0 ∷ xs) rest)
      go (an_instance x r n u) rest = simp (r, n) (ap (λ xs. inner x.symbol ++ xs) rest)
      go (an_output r n u) rest = simp (r, n, u) rest
      go (a_made r n u) rest = simp (r, n, u) rest

  held_retarget : (f : Ref → Ref) (os : List Op) → body_held inner (map (retarget f) os) ≡ body_held inner os
  held_retarget f [] = refl
  held_retarget f (o ∷ os) = ap (λ xs. op_held inner o ++ xs) (held_retarget f os)

-- the same registers, instances and outputs are one shape
pub shape_from_anchors : (os os' : List Op) (f : Ref → Ref) → anchors os' ≡ map (retarget f) (anchors os) → SameShape os os'
shape_from_anchors os os' f same = record {
  held = λ inner. sym (held_anchors inner os') ∙ ap (body_held inner) same ∙ held_retarget inner f (anchors os) ∙ held_anchors inner os;
  called = called_follow os os' f same;
}

pub shape_set : (os : List Op) (i : ℕ) (o o' : Op) → slice_get os i ≡ Some o → is_anchor o ≡ false → is_anchor o' ≡ false → SameShape os (set os i o')
shape_set os i o o' at plain plain' =
    shape_from_anchors os (set os i o') (λ r. r) (anchors-set os i o o' at plain plain' ∙ sym (map_retarget_id (anchors os)))

pub shape_erase : (os : List Op) (i : ℕ) (o : Op) (x : Ref) → slice_get os i ≡ Some o → is_anchor o ≡ false → SameShape os (erase_op i x os)
shape_erase os i o x at plain =
    shape_from_anchors os (erase_op i x os) (without i (without i undefined x))
    (anchors-retarget (without i (without i undefined x)) (remove os i) ∙ ap (map (retarget (without i (without i undefined x)))) (anchors-remove os i o at plain))

pub shape_insert : (os : List Op) (i : ℕ) (o : Op) → is_anchor o ≡ false → SameShape os (insert_op i o os)
shape_insert os i o plain =
    shape_from_anchors os (insert_op i o os) (up_ref i)
    (anchors-insert (map (retarget (up_ref i)) os) i (retarget (up_ref i) o) plain ∙ anchors-retarget (up_ref i) os)

-- ---- a register in place of a register

-- a register instances nothing
no_callee : (o : Op) → is_register o ≡ true → called_by (instance_in o.kind) ≡ []
no_callee o is = go (sort_of o.kind)
  where
    go : Sort o.kind → called_by (instance_in o.kind) ≡ []
    go (a_register f r n u) = ap called_by n
    go (an_instance x r n u) = let clash : true ≡ false = sym is ∙ ap is_some r in cc
    go (an_output r n u) = ap called_by n
    go (a_made r n u) = ap called_by n

module _ (o o' : Op) (old : is_register o ≡ true) (new : is_register o' ≡ true) (same : result_type o' 0 ≡ result_type o 0) where
  held_set : (inner : Name → List (Option HwType)) (os : List Op) (i : ℕ) → slice_get os i ≡ Some o → body_held inner (set os i o') ≡ body_held inner os
  held_set inner [] i at = cc
  held_set inner (x ∷ os) zero at =
      let first : x ≡ o = cc in
      ap (λ xs. xs ++ body_held inner os)
      (ap (λ b. cond b (result_type o' 0 ∷ []) (instance_held inner (instance_in o'.kind))) new
      ∙ ap (λ t. t ∷ []) same
      ∙ sym (ap (λ b. cond b (result_type o 0 ∷ []) (instance_held inner (instance_in o.kind))) old)
      ∙ sym (ap (op_held inner) first))
  held_set inner (x ∷ os) (suc i) at = ap (λ xs. op_held inner x ++ xs) (held_set inner os i at)

  called_set : (os : List Op) (i : ℕ) → slice_get os i ≡ Some o → callee_symbols (set os i o') ≡ callee_symbols os
  called_set [] i at = cc
  called_set (x ∷ os) zero at =
      let first : x ≡ o = cc in
      ap (λ xs. xs ++ callee_symbols os) (no_callee o' new ∙ sym (no_callee o old) ∙ sym (ap (λ (z : Op). called_by (instance_in z.kind)) first))
  called_set (x ∷ os) (suc i) at = ap (λ xs. called_by (instance_in x.kind) ++ xs) (called_set os i at)

  pub shape_register : (os : List Op) (i : ℕ) → slice_get os i ≡ Some o → SameShape os (set os i o')
  shape_register os i at = record { held = λ inner. held_set inner os i at; called = called_set os i at }
