-- Bodies that end with their one output, and lists of wires.
use Rattle.std.proofs.Common.{◌≡◌, ℕ, zero, suc, ◌+◌, Bool, true, false, cond, List, [], ◌∷◌, ◌++◌, length, slice_get, is_some, None, refl, sym, ap, ap₂, ◌∙◌, inl, inr, option_map}
use Rattle.wiring.specs.Wiring.{In}
use Rattle.hw_model.specs.Types.{Name}
use Rattle.hw_model.specs.Kinds.Kind.{wire}
use Rattle.hw_model.specs.Design.{Ref, OpResult, Op, Location, is_output_op, is_output_kind, output_refs, instance_in, is_instance, register_form}
use Rattle.hw_model.specs.Flat.{instances, body_state, op_state}
use Rattle.hw_model.specs.Hierarchy.{callee_symbols, called_by}
use Rattle.inline_laws.specs.Inline.{before_output, EndsWithOutput, ref_or_undefined, wire_op, wire_ops}

-- ---- the end of a body

pub record Ended (os : List Op) : Type 0 where
  pub last : Op
  pub is_output : is_output_op last ≡ true
  pub body_is : os ≡ before_output os ++ (last ∷ [])

pub end_of : (os : List Op) → EndsWithOutput os → Ended os
end_of [] ends = absurd ends
end_of (o ∷ []) ends = record { last = o; is_output = ends; body_is = sym (ap (λ b. cond b [] (o ∷ []) ++ (o ∷ [])) ends) }
end_of (o ∷ y ∷ os) (first, rest) =
    let more : Ended (y ∷ os) = end_of (y ∷ os) rest in
    record {
      last = more.last;
      is_output = more.is_output;
      body_is = ap (λ xs. o ∷ xs) more.body_is ∙ sym (ap (λ b. cond b [] (o ∷ before_output (y ∷ os)) ++ (more.last ∷ [])) first);
    }

-- no operation of the list is an output
abbrev pub HasNoOutput : List Op → Type 0
HasNoOutput os = (y : Op) → In y os → is_output_op y ≡ false

pub before_has_none : (os : List Op) → HasNoOutput (before_output os)
before_has_none [] y here = absurd here
before_has_none (o ∷ os) y here = go (is_output_op o) refl here (before_has_none os y)
  where
    go : (b : Bool) → is_output_op o ≡ b → In y (cond b [] (o ∷ before_output os)) → (In y (before_output os) → is_output_op y ≡ false) → is_output_op y ≡ false
    go true is here rest = absurd here
    go false is (inl same) rest = ap is_output_op same ∙ is
    go false is (inr there) rest = rest there

-- its outputs are those that come after
pub skip_outputs : (os ys : List Op) → HasNoOutput os → output_refs (os ++ ys) ≡ output_refs ys
skip_outputs [] ys none = refl
skip_outputs (o ∷ os) ys none =
    ap (λ b. cond b o.operands (output_refs (os ++ ys))) (none o (inl refl)) ∙ skip_outputs os ys (λ y here. none y (inr here))

-- ---- wires

-- each operation of the list is a wire
abbrev pub AreWires : List Op → Type 0
AreWires os = (y : Op) → In y os → y.kind ≡ wire

pub are_wires : (at : Location) (move : Ref → Ref) (xs : List OpResult) (rs : List Ref) → AreWires (wire_ops at move xs rs)
are_wires at move [] rs y here = absurd here
are_wires at move (x ∷ xs) [] y (inl same) = ap (λ (z : Op). z.kind) same
are_wires at move (x ∷ xs) [] y (inr here) = are_wires at move xs [] y here
are_wires at move (x ∷ xs) (r ∷ rs) y (inl same) = ap (λ (z : Op). z.kind) same
are_wires at move (x ∷ xs) (r ∷ rs) y (inr here) = are_wires at move xs rs y here

pub wires_length : (at : Location) (move : Ref → Ref) (xs : List OpResult) (rs : List Ref) → length (wire_ops at move xs rs) ≡ length xs
wires_length at move [] rs = refl
wires_length at move (x ∷ xs) [] = ap suc (wires_length at move xs [])
wires_length at move (x ∷ xs) (r ∷ rs) = ap suc (wires_length at move xs rs)

pub get_wire : (at : Location) (move : Ref → Ref) (xs : List OpResult) (rs : List Ref) (w : ℕ)
    → slice_get (wire_ops at move xs rs) w ≡ option_map (λ (x : OpResult). wire_op at x.type (ref_or_undefined (option_map move (slice_get rs w)))) (slice_get xs w)
get_wire at move [] rs w = refl
get_wire at move (x ∷ xs) [] zero = refl
get_wire at move (x ∷ xs) [] (suc w) = get_wire at move xs [] w
get_wire at move (x ∷ xs) (r ∷ rs) zero = refl
get_wire at move (x ∷ xs) (r ∷ rs) (suc w) = get_wire at move xs rs w

pub wires_instances : (os : List Op) → AreWires os → instances os ≡ []
wires_instances [] are = refl
wires_instances (o ∷ os) are =
    let kind : o.kind ≡ wire = are o (inl refl) in
    let plain : is_instance o ≡ false = ap (λ k. is_some (instance_in k)) kind in
    ap (λ b. cond b (o ∷ instances os) (instances os)) plain ∙ wires_instances os (λ y here. are y (inr here))

pub wires_state : (inner : Name → ℕ) (os : List Op) → AreWires os → body_state inner os ≡ 0
wires_state inner [] are = refl
wires_state inner (o ∷ os) are =
    let kind : o.kind ≡ wire = are o (inl refl) in
    ap₂ (λ a b. a + b) (plain o kind) (wires_state inner os (λ y here. are y (inr here)))
  where
    plain : (o : Op) → o.kind ≡ wire → op_state inner o ≡ 0
    plain o kind = let r : register_form o.kind ≡ None = ap register_form kind in let i : instance_in o.kind ≡ None = ap instance_in kind in simp (r, i)

pub wires_called : (os : List Op) → AreWires os → callee_symbols os ≡ []
wires_called [] are = refl
wires_called (o ∷ os) are =
    ap₂ (λ x xs. called_by x ++ xs) (ap instance_in (are o (inl refl))) (wires_called os (λ y here. are y (inr here)))

pub wires_no_output : (os : List Op) → AreWires os → HasNoOutput os
wires_no_output os are y here = ap is_output_kind (are y here)
