-- No module gets heavier where an instance is inlined and its wires are taken out.
use Rattle.std.proofs.Common.{◌≡◌, ◌⊎◌, ℕ, zero, suc, ◌+◌, ◌<◌, ◌≤◌, List, [], ◌∷◌, ◌++◌, length, map, take, drop, slice_get, Option, Some, None, refl, sym, ap, ap₂, subst, ◌∙◌, inl, inr, arith, zero-add, length-set}
use Rattle.std.proofs.lemmas.List.{length-map}
use Rattle.wiring.specs.Wiring.{In, IsHeight}
use Rattle.wiring.proofs.Members.{In-append_left, In-append_right, In-append_cases}
use Rattle.wiring.proofs.Heights.{FallsAlong-height}
use Rattle.wiring.proofs.Lists.{split_at}
use Rattle.hw_model.specs.Types.{Name, HwType}
use Rattle.hw_model.specs.Kinds.{Kind, Instance}
use Rattle.hw_model.specs.Kinds.Kind.{instance}
use Rattle.hw_model.specs.Design.{Ref, Port, Op, Module, Design, find_module, instance_in}
use Rattle.hw_model.specs.Hierarchy.{callee_symbols, called_by, calls, HasNoRecursion}
use Rattle.hw_model.specs.Weight.{leaf_count, kind_weight, body_weight, weight_of, module_weight, weight}
use Rattle.hw_model.specs.Sound.{body_of}
use Rattle.hw_model.proofs.Content.{call_heights}
use Rattle.edit_laws.specs.Edit.{retarget}
use Rattle.edit_laws.specs.Laws.{with_body}
use Rattle.edit_laws.proofs.Follows.{set_each}
use Rattle.edit_laws.proofs.Weights.{op_weight, weight-retarget}
use Rattle.inline_laws.specs.Inline.{before_output, outer_ref, inner_ref, inlined_ops, RenamesOnly, IsInlined}
use Rattle.inline_laws.specs.Unwire.{inline_without_wires}
use Rattle.inline_laws.proofs.Moved.{IsMoved, by_kind, moved_renamed}
use Rattle.inline_laws.proofs.Ends.{Ended, end_of}
use Rattle.inline_laws.proofs.Inlining.{rank_within}
use Rattle.inline_laws.proofs.WithoutWires.{Others, prefix_part, back_part, without_wires}
use Rattle.inline_laws.proofs.Instances.{called_before, called_after}

-- ---- the weight of a module does not depend on the depth

module _ (f g : Name → ℕ) where
  kind_not_heavier : (kind : Kind) (ts : List HwType) (n : ℕ) → ((s : Name) → In s (called_by (instance_in kind)) → f s ≤ g s) → kind_weight f kind ts n ≤ kind_weight g kind ts n
  kind_not_heavier (instance i) ts n below = let inner : f i.symbol ≤ g i.symbol = below i.symbol (inl refl) in omega arith
  kind_not_heavier kind ts n below = omega arith

  body_not_heavier : (os : List Op) → ((s : Name) → In s (callee_symbols os) → f s ≤ g s) → body_weight f os ≤ body_weight g os
  body_not_heavier [] below = omega arith
  body_not_heavier (o ∷ os) below =
      let first : kind_weight f o.kind o.types (length o.operands) ≤ kind_weight g o.kind o.types (length o.operands) =
      kind_not_heavier o.kind o.types (length o.operands) (λ s here. below s (In-append_left s (called_by (instance_in o.kind)) (callee_symbols os) here)) in
      let rest : body_weight f os ≤ body_weight g os = body_not_heavier os (λ s here. below s (In-append_right s (called_by (instance_in o.kind)) (callee_symbols os) here)) in
      omega arith

  found_not_heavier : (x : Option Module) → ((s : Name) → In s (callee_symbols (body_of x)) → f s ≤ g s) → weight_of f x ≤ weight_of g x
  found_not_heavier None below = omega arith
  found_not_heavier (Some m) below = let body : body_weight f m.body ≤ body_weight g m.body = body_not_heavier m.body below in omega arith

module _ (d : Design) (h : Name → ℕ) (height : IsHeight (calls d) h) where
  weight_steady : (m n : ℕ) (s : Name) → h s ≤ m → h s ≤ n → module_weight m d s ≤ module_weight n d s
  weight_steady zero n s low also = let positive : h s ≡ suc _ = height s in absurd (omega arith)
  weight_steady (suc m) zero s low also = let positive : h s ≡ suc _ = height s in absurd (omega arith)
  weight_steady (suc m) (suc n) s low also =
      found_not_heavier (module_weight m d) (module_weight n d) (find_module d s)
      (λ t here. let lower : h t < h s = FallsAlong-height (calls d) h height s t here in weight_steady m n t (omega arith) (omega arith))

  -- the weight of a module is that of its body, with the weights of what it instances
  weight_is : (s : Name) → weight_of (weight d) (find_module d s) ≤ weight d s
  weight_is s = let low : h s ≤ suc (length d) = rank_within d h height s in weight_steady (suc (suc (length d))) (suc (length d)) s (omega arith) low

-- where modules instance lower ones and are not heavier than before, by the weights from before, they are not heavier
module _ (d e : Design) (h : Name → ℕ) (height : IsHeight (calls d) h) (size : length e ≡ length d) (falls : (s t : Name) → In t (calls e s) → h t < h s)
    (each : (s : Name) → weight_of (weight d) (find_module e s) ≤ weight d s) where
  weight_to : (n : ℕ) (s : Name) → h s ≤ n → module_weight n e s ≤ weight d s
  weight_to zero s low = let positive : h s ≡ suc _ = height s in absurd (omega arith)
  weight_to (suc n) s low =
      let own : weight_of (weight d) (find_module e s) ≤ weight d s = each s in
      let inner : weight_of (module_weight n e) (find_module e s) ≤ weight_of (weight d) (find_module e s) =
      found_not_heavier (module_weight n e) (weight d) (find_module e s)
      (λ t here. let lower : h t < h s = falls s t here in weight_to n t (omega arith)) in
      omega arith

  not_heavier : (s : Name) → weight e s ≤ weight d s
  not_heavier s = weight_to (suc (length e)) s (subst (λ k. h s ≤ suc k) (sym size) (rank_within d h height s))

-- ---- bodies

weight_append : (inner : Name → ℕ) (xs ys : List Op) → body_weight inner (xs ++ ys) ≡ body_weight inner xs + body_weight inner ys
weight_append inner [] ys = sym (zero-add (body_weight inner ys))
weight_append inner (o ∷ xs) ys =
    let rest : body_weight inner (xs ++ ys) ≡ body_weight inner xs + body_weight inner ys = weight_append inner xs ys in
    omega arith

weight_moved : (inner : Name → ℕ) (f : Ref → Ref) (g : Op → Op) → ((o : Op) → IsMoved f o (g o)) → (os : List Op) → body_weight inner (map g os) ≡ body_weight inner os
weight_moved inner f g moves [] = refl
weight_moved inner f g moves (o ∷ os) =
    ap₂ (λ a b. a + b)
    (by_kind (λ k. kind_weight inner k (g o).types (length (g o).operands)) (λ i. refl) (g o).kind o.kind (moves o).kind_is
    ∙ ap (λ ts. kind_weight inner o.kind ts (length (g o).operands)) (moves o).types_are
    ∙ ap (kind_weight inner o.kind o.types) (ap length (moves o).operands_are ∙ length-map o.operands f))
    (weight_moved inner f g moves os)

-- an instance weighs more than its module
instance_weight : (inner : Name → ℕ) (o : Op) (x : Instance) → instance_in o.kind ≡ Some x → inner x.symbol ≤ kind_weight inner o.kind o.types (length o.operands)
instance_weight inner o x is = go o.kind is
  where
    go : (kind : Kind) → instance_in kind ≡ Some x → inner x.symbol ≤ kind_weight inner kind o.types (length o.operands)
    go (instance y) inst =
        let same : y ≡ x = cc in
        let equal : inner y.symbol ≡ inner x.symbol = ap (λ (z : Instance). inner z.symbol) same in
        omega arith
    go kind inst = cc

module _ (d : Design) (md : Module) (i : ℕ) (o : Op) (c : Module) (rename : Op → Op) (only : RenamesOnly rename) (is : IsInlined d md i o c) where
  abbrev now_body : List Op
  now_body = inline_without_wires rename i o c md.body

  -- the new body is lighter where the module of the instance has its weight
  body_lighter : (inner : Name → ℕ) → weight_of inner (Some c) ≤ inner is.target.symbol → body_weight inner now_body ≤ body_weight inner md.body
  body_lighter inner heavy =
      let others : Others (prefix_part d md i o c rename is) (back_part d md i o c rename is) now_body = without_wires d md i o c rename is in
      let end : Ended c.body = end_of c.body is.ends in
      let first : body_weight inner (map (retarget others.stand) (prefix_part d md i o c rename is)) ≡ body_weight inner (take i md.body) =
      weight-retarget inner others.stand (prefix_part d md i o c rename is) ∙ weight-retarget inner (outer_ref i o c) (take i md.body) in
      let moved : body_weight inner (inlined_ops rename i o c) ≡ body_weight inner (before_output c.body) =
      weight_moved inner (inner_ref i o c) (λ (y : Op). rename (retarget (inner_ref i o c) y)) (moved_renamed rename only (inner_ref i o c)) (before_output c.body) in
      let last : body_weight inner (map (retarget others.stand) (back_part d md i o c rename is)) ≡ body_weight inner (before_output c.body) + body_weight inner (drop (suc i) md.body) =
      weight-retarget inner others.stand (back_part d md i o c rename is)
      ∙ weight_append inner (inlined_ops rename i o c) (map (retarget (outer_ref i o c)) (drop (suc i) md.body))
      ∙ ap₂ (λ a b. a + b) moved (weight-retarget inner (outer_ref i o c) (drop (suc i) md.body)) in
      let new : body_weight inner now_body ≡ body_weight inner (take i md.body) + (body_weight inner (before_output c.body) + body_weight inner (drop (suc i) md.body)) =
      ap (body_weight inner) others.body_is
      ∙ weight_append inner (map (retarget others.stand) (prefix_part d md i o c rename is)) (map (retarget others.stand) (back_part d md i o c rename is))
      ∙ ap₂ (λ a b. a + b) first last in
      let old : body_weight inner md.body ≡ body_weight inner (take i md.body) + (op_weight inner o + body_weight inner (drop (suc i) md.body)) =
      ap (body_weight inner) (split_at md.body i o is.there) ∙ weight_append inner (take i md.body) (o ∷ drop (suc i) md.body) in
      let inside : body_weight inner c.body ≡ body_weight inner (before_output c.body) + body_weight inner (end.last ∷ []) =
      ap (body_weight inner) end.body_is ∙ weight_append inner (before_output c.body) (end.last ∷ []) in
      let one : inner is.target.symbol ≤ op_weight inner o = instance_weight inner o is.target is.is_instance in
      omega arith

  module _ (m : ℕ) (at_m : slice_get d m ≡ Some md) (finite : HasNoRecursion d) where
    abbrev rank : Name → ℕ
    rank = (call_heights d finite).0

    rank_is : IsHeight (calls d) rank
    rank_is = (call_heights d finite).1

    abbrev now : Design
    now = with_body d m md (inline_without_wires rename i o c md.body)

    abbrev Change : Option Module → Option Module → Type 0
    Change old new = ((old ≡ Some md) × (new ≡ Some (record md { body = inline_without_wires rename i o c md.body }))) ⊎ (new ≡ old)

    change : (s : Name) → Change (find_module d s) (find_module now s)
    change s = set_each Change (λ y. inr refl) d m md (record md { body = inline_without_wires rename i o c md.body }) at_m refl (inl (refl, refl)) s

    lower_in_d : (s t : Name) → In t (calls d s) → rank t < rank s
    lower_in_d s t here = FallsAlong-height (calls d) rank rank_is s t here

    calls_fall : (s t : Name) → In t (calls now s) → rank t < rank s
    calls_fall s t here = go (change s)
      where
        old_called : find_module d s ≡ Some md → In t (callee_symbols (take i md.body) ++ (is.target.symbol ∷ callee_symbols (drop (suc i) md.body))) → rank t < rank s
        old_called was there =
            lower_in_d s t (subst (λ x. In t (callee_symbols (body_of x))) (sym was) (subst (λ ts. In t ts) (sym (called_before d md i o c is)) there))

        by_part : find_module d s ≡ Some md → In t (callee_symbols c.body) ⊎ In t (callee_symbols (drop (suc i) md.body)) → rank t < rank s
        by_part was (inl there) =
            let target : In is.target.symbol (callee_symbols (take i md.body) ++ (is.target.symbol ∷ callee_symbols (drop (suc i) md.body))) =
            In-append_right is.target.symbol (callee_symbols (take i md.body)) (is.target.symbol ∷ callee_symbols (drop (suc i) md.body)) (inl refl) in
            let above : rank is.target.symbol < rank s =
            lower_in_d s is.target.symbol
            (subst (λ x. In is.target.symbol (callee_symbols (body_of x))) (sym was) (subst (λ ts. In is.target.symbol ts) (sym (called_before d md i o c is)) target)) in
            let below : rank t < rank is.target.symbol = lower_in_d is.target.symbol t (subst (λ x. In t (callee_symbols (body_of x))) (sym is.is_found) there) in
            omega arith
        by_part was (inr there) =
            old_called was (In-append_right t (callee_symbols (take i md.body)) (is.target.symbol ∷ callee_symbols (drop (suc i) md.body)) (inr there))

        by_prefix : find_module d s ≡ Some md → In t (callee_symbols (take i md.body)) ⊎ In t (callee_symbols c.body ++ callee_symbols (drop (suc i) md.body)) → rank t < rank s
        by_prefix was (inl there) = old_called was (In-append_left t (callee_symbols (take i md.body)) (is.target.symbol ∷ callee_symbols (drop (suc i) md.body)) there)
        by_prefix was (inr there) = by_part was (In-append_cases t (callee_symbols c.body) (callee_symbols (drop (suc i) md.body)) there)

        go : Change (find_module d s) (find_module now s) → rank t < rank s
        go (inl (was, new)) =
            by_prefix was (In-append_cases t (callee_symbols (take i md.body)) (callee_symbols c.body ++ callee_symbols (drop (suc i) md.body))
            (subst (λ ts. In t ts) (called_after d md i o c rename only is) (subst (λ x. In t (callee_symbols (body_of x))) new here)))
        go (inr same) = lower_in_d s t (subst (λ x. In t (callee_symbols (body_of x))) same here)

    found_lighter : (s : Name) → weight_of (weight d) (find_module now s) ≤ weight d s
    found_lighter s = go (change s)
      where
        was_weight : weight_of (weight d) (find_module d s) ≤ weight d s
        was_weight = weight_is d rank rank_is s

        target_weight : weight_of (weight d) (Some c) ≤ weight d is.target.symbol
        target_weight = subst (λ x. weight_of (weight d) x ≤ weight d is.target.symbol) is.is_found (weight_is d rank rank_is is.target.symbol)

        go : Change (find_module d s) (find_module now s) → weight_of (weight d) (find_module now s) ≤ weight d s
        go (inr same) = subst (λ x. weight_of (weight d) x ≤ weight d s) (sym same) was_weight
        go (inl (was, new)) =
            let body : body_weight (weight d) now_body ≤ body_weight (weight d) md.body = body_lighter (weight d) target_weight in
            let old : leaf_count (map (λ (p : Port). p.type) md.ports) + body_weight (weight d) md.body ≤ weight d s = subst (λ x. weight_of (weight d) x ≤ weight d s) was was_weight in
            let this : leaf_count (map (λ (p : Port). p.type) md.ports) + body_weight (weight d) now_body ≤ weight d s = omega arith in
            subst (λ x. weight_of (weight d) x ≤ weight d s) (sym new) this

    pub inlining_is_lighter : (s : Name) → weight (with_body d m md (inline_without_wires rename i o c md.body)) s ≤ weight d s
    inlining_is_lighter s = not_heavier d now rank rank_is (length-set d m (record md { body = inline_without_wires rename i o c md.body })) calls_fall found_lighter s
