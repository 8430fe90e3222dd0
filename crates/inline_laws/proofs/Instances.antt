-- What a body instances, and where it ends, once an instance of it is inlined.
use Rattle.std.proofs.Common.{◌≡◌, ℕ, suc, true, false, List, [], ◌∷◌, ◌++◌, map, take, drop, None, refl, sym, ap, ap₂, subst, ◌∙◌, ◌⊎◌, inl, inr, append_assoc, append-nil}
use Rattle.std.proofs.lemmas.List.{map-append}
use Rattle.wiring.specs.Wiring.{In}
use Rattle.wiring.proofs.Lists.{split_at}
use Rattle.wiring.proofs.Members.{from_In-map, In-append_cases}
use Rattle.hw_model.specs.Design.{Ref, Op, Module, Design, instance_in, is_output_op, is_output_kind}
use Rattle.hw_model.specs.Hierarchy.{callee_symbols, called_by}
use Rattle.hw_model.proofs.Sorts.{Sort, sort_of}
use Rattle.hw_model.proofs.Sorts.Sort.{a_register, an_instance, an_output, a_made}
use Rattle.edit_laws.specs.Edit.{retarget}
use Rattle.edit_laws.proofs.Anchors.{called-retarget}
use Rattle.inline_laws.specs.Inline.{before_output, EndsWithOutput, outer_ref, inner_ref, inlined_ops, RenamesOnly, IsInlined}
use Rattle.inline_laws.specs.Unwire.{inline_without_wires}
use Rattle.inline_laws.proofs.Moved.{by_kind, moved_renamed, called_moved}
use Rattle.inline_laws.proofs.Ends.{Ended, end_of, HasNoOutput, before_has_none}
use Rattle.inline_laws.proofs.Inlining.{called_append}
use Rattle.inline_laws.proofs.Origins.{instance_no_output}
use Rattle.inline_laws.proofs.WithoutWires.{Others, prefix_part, back_part, without_wires}

-- an output is no instance
output_no_instance : (y : Op) → is_output_op y ≡ true → instance_in y.kind ≡ None
output_no_instance y is = go (sort_of y.kind)
  where
    go : Sort y.kind → instance_in y.kind ≡ None
    go (a_register f r i u) = i
    go (an_instance x r i u) = let clash : false ≡ true = sym u ∙ is in cc
    go (an_output r i u) = i
    go (a_made r i u) = i

-- ---- ends of joined lists

ends_after : (xs : List Op) (y : Op) (ys : List Op) → HasNoOutput xs → EndsWithOutput (y ∷ ys) → EndsWithOutput (xs ++ y ∷ ys)
ends_after [] y ys none ends = ends
ends_after (x ∷ []) y ys none ends = (none x (inl refl), ends)
ends_after (x ∷ z ∷ xs) y ys none ends = (none x (inl refl), ends_after (z ∷ xs) y ys (λ w here. none w (inr here)) ends)

-- a body whose end is not in the prefix has none in the prefix, and ends as what is after it
pub record EndsLater (xs : List Op) (ys : List Op) : Type 0 where
  pub none : HasNoOutput xs
  pub rest : EndsWithOutput ys

ends_later : (xs : List Op) (y : Op) (ys : List Op) → EndsWithOutput (xs ++ y ∷ ys) → EndsLater xs (y ∷ ys)
ends_later [] y ys ends = record { none = λ z here. absurd here; rest = ends }
ends_later (x ∷ []) y ys (first, rest) = record { none = λ z here. only z here; rest = rest }
  where
    only : (z : Op) → In z (x ∷ []) → is_output_op z ≡ false
    only z (inl same) = ap is_output_op same ∙ first
    only z (inr here) = absurd here
ends_later (x ∷ w ∷ xs) y ys (first, rest) = more (ends_later (w ∷ xs) y ys rest)
  where
    more : EndsLater (w ∷ xs) (y ∷ ys) → EndsLater (x ∷ w ∷ xs) (y ∷ ys)
    more later = record { none = none; rest = later.rest }
      where
        none : (z : Op) → In z (x ∷ w ∷ xs) → is_output_op z ≡ false
        none z (inl same) = ap is_output_op same ∙ first
        none z (inr here) = later.none z here

ends_retarget : (f : Ref → Ref) (os : List Op) → EndsWithOutput os → EndsWithOutput (map (retarget f) os)
ends_retarget f [] ends = ends
ends_retarget f (o ∷ []) ends = ends
ends_retarget f (o ∷ y ∷ os) (first, rest) = (first, ends_retarget f (y ∷ os) rest)

none_retarget : (f : Ref → Ref) (os : List Op) → HasNoOutput os → HasNoOutput (map (retarget f) os)
none_retarget f os none y here = let from = from_In-map (retarget f) y os here in ap is_output_op from.2 ∙ none from.0 from.1

-- what a body instances, with the module of the instance among it
pub called_before : (d : Design) (md : Module) (i : ℕ) (o : Op) (c : Module) (is : IsInlined d md i o c)
    → callee_symbols md.body ≡ callee_symbols (take i md.body) ++ (is.target.symbol ∷ callee_symbols (drop (suc i) md.body))
called_before d md i o c is =
    ap callee_symbols (split_at md.body i o is.there) ∙ called_append (take i md.body) (o ∷ drop (suc i) md.body)
    ∙ ap (λ x. callee_symbols (take i md.body) ++ (called_by x ++ callee_symbols (drop (suc i) md.body))) is.is_instance

module _ (d : Design) (md : Module) (i : ℕ) (o : Op) (c : Module) (rename : Op → Op) (only : RenamesOnly rename) (is : IsInlined d md i o c) where
  body_split : md.body ≡ take i md.body ++ (o ∷ drop (suc i) md.body)
  body_split = split_at md.body i o is.there

  end_is : Ended c.body
  end_is = end_of c.body is.ends

  called_inner : callee_symbols c.body ≡ callee_symbols (before_output c.body)
  called_inner =
      ap callee_symbols end_is.body_is ∙ called_append (before_output c.body) (end_is.last ∷ [])
      ∙ ap (λ x. callee_symbols (before_output c.body) ++ (called_by x ++ [])) (output_no_instance end_is.last end_is.is_output)
      ∙ append-nil (callee_symbols (before_output c.body))

  -- the same once it is inlined, with what that module instances in its place
  pub called_after : callee_symbols (inline_without_wires rename i o c md.body)
      ≡ callee_symbols (take i md.body) ++ (callee_symbols c.body ++ callee_symbols (drop (suc i) md.body))
  called_after =
      ap callee_symbols others.body_is
      ∙ called_append (map (retarget others.stand) (prefix_part d md i o c rename is)) (map (retarget others.stand) (back_part d md i o c rename is))
      ∙ ap₂ (λ xs ys. xs ++ ys)
      (called-retarget others.stand (prefix_part d md i o c rename is) ∙ called-retarget (outer_ref i o c) (take i md.body))
      (called-retarget others.stand (back_part d md i o c rename is)
      ∙ called_append (inlined_ops rename i o c) (map (retarget (outer_ref i o c)) (drop (suc i) md.body))
      ∙ ap₂ (λ xs ys. xs ++ ys)
      (called_moved (inner_ref i o c) (λ (y : Op). rename (retarget (inner_ref i o c) y)) (moved_renamed rename only (inner_ref i o c)) (before_output c.body) ∙ sym called_inner)
      (called-retarget (outer_ref i o c) (drop (suc i) md.body)))
    where
      others : Others (prefix_part d md i o c rename is) (back_part d md i o c rename is) (inline_without_wires rename i o c md.body)
      others = without_wires d md i o c rename is

  -- the body ends with its one output as before
  pub ends_after_inlining : EndsWithOutput md.body → EndsWithOutput (inline_without_wires rename i o c md.body)
  ends_after_inlining ends = go (drop (suc i) md.body) refl
    where
      others : Others (prefix_part d md i o c rename is) (back_part d md i o c rename is) (inline_without_wires rename i o c md.body)
      others = without_wires d md i o c rename is

      later : EndsLater (take i md.body) (o ∷ drop (suc i) md.body)
      later = ends_later (take i md.body) o (drop (suc i) md.body) (subst EndsWithOutput body_split ends)

      inner_none : HasNoOutput (inlined_ops rename i o c)
      inner_none y here =
          let from = from_In-map (λ (z : Op). rename (retarget (inner_ref i o c) z)) y (before_output c.body) here in
          ap is_output_op from.2 ∙ by_kind is_output_kind (λ x. refl) (rename (retarget (inner_ref i o c) from.0)).kind from.0.kind (only.kind_is (retarget (inner_ref i o c) from.0)) ∙ before_has_none c.body from.0 from.1

      both_none : (xs ys : List Op) → HasNoOutput xs → HasNoOutput ys → HasNoOutput (xs ++ ys)
      both_none xs ys first second y here = by_part (In-append_cases y xs ys here)
        where
          by_part : In y xs ⊎ In y ys → is_output_op y ≡ false
          by_part (inl there) = first y there
          by_part (inr there) = second y there

      go : (back : List Op) → drop (suc i) md.body ≡ back → EndsWithOutput (inline_without_wires rename i o c md.body)
      go [] nothing =
          let end : is_output_op o ≡ true = subst (λ ys. EndsWithOutput (o ∷ ys)) nothing later.rest in
          let clash : false ≡ true = sym (instance_no_output o is.target is.is_instance) ∙ end in
          cc
      go (y ∷ back) some =
          let rest : (is_output_op o ≡ false) × EndsWithOutput (y ∷ back) = subst (λ ys. EndsWithOutput (o ∷ ys)) some later.rest in
          let whole : EndsWithOutput (map (retarget (outer_ref i o c)) (take i md.body) ++ (inlined_ops rename i o c ++ map (retarget (outer_ref i o c)) (y ∷ back))) =
          subst EndsWithOutput (append_assoc (map (retarget (outer_ref i o c)) (take i md.body)) (inlined_ops rename i o c) (map (retarget (outer_ref i o c)) (y ∷ back)))
          (ends_after (map (retarget (outer_ref i o c)) (take i md.body) ++ inlined_ops rename i o c) (retarget (outer_ref i o c) y) (map (retarget (outer_ref i o c)) back)
          (both_none (map (retarget (outer_ref i o c)) (take i md.body)) (inlined_ops rename i o c) (none_retarget (outer_ref i o c) (take i md.body) later.none) inner_none)
          (ends_retarget (outer_ref i o c) (y ∷ back) rest.1)) in
          subst EndsWithOutput (sym (others.body_is ∙ sym (map-append (retarget others.stand) (prefix_part d md i o c rename is) (back_part d md i o c rename is))))
          (ends_retarget others.stand (prefix_part d md i o c rename is ++ back_part d md i o c rename is)
          (subst (λ ys. EndsWithOutput (prefix_part d md i o c rename is ++ (inlined_ops rename i o c ++ map (retarget (outer_ref i o c)) ys))) (sym some) whole))
