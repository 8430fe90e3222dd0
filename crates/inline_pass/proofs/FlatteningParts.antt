-- Where the parts of a body stand once an instance of it is inlined.
use Rattle.std.proofs.Common.{◌≡◌, ℕ, suc, ◌+◌, List, [], ◌∷◌, ◌++◌, length, map, take, drop, slice_get, Some, true, false, refl, sym, ap, ap₂, subst, ◌∙◌, ◌⊎◌, inl, inr}
use Rattle.std.specs.Prelude.{Bool, cond}
use Rattle.std.proofs.lemmas.List.{length-map, map-append}
use Rattle.wiring.specs.Wiring.{In}
use Rattle.wiring.proofs.Lists.{take-append_right, drop-append_right}
use Rattle.wiring.proofs.Members.{In-append_left, In-append_right, In-append_cases}
use Rattle.hw_model.specs.Types.{Name}
use Rattle.hw_model.specs.Design.{Op, Module, output_refs, is_output_op, instance_in}
use Rattle.hw_model.specs.Hierarchy.{callee_symbols, called_by}
use Rattle.edit_laws.specs.Edit.{retarget}
use Rattle.edit_laws.proofs.Anchors.{called-retarget}
use Rattle.inline_laws.specs.Inline.{moved_count, before_output, outer_ref, inner_ref, wire_count, inlined_wires, inlined_ops, inline_op}
use Rattle.inline_laws.specs.Unwire.{unwire}
use Rattle.inline_laws.proofs.Ends.{wires_length}
use Rattle.inline_laws.proofs.Follows.{length_before}
use Rattle.inline_laws.proofs.Inlining.{called_append}
use Rattle.inline_laws.proofs.Moved.{moved_renamed, called_moved}
use Rattle.inline_laws.proofs.WithoutWires.{Others, others_stay}
use Rattle.inline_pass.specs.Renaming.{renamed}
use Rattle.inline_pass.specs.Flattening.{instance_name, inlined_at}
use Rattle.inline_pass.proofs.Renaming.{renamed_only}

-- ---- three lists

module _ {A : Type 0} where
  take_first : (ys zs : List A) → take (length ys) (ys ++ zs) ≡ ys
  take_first [] zs = refl
  take_first (y ∷ ys) zs = ap (λ xs. y ∷ xs) (take_first ys zs)

  drop_first : (ys zs : List A) → drop (length ys) (ys ++ zs) ≡ zs
  drop_first [] zs = refl
  drop_first (y ∷ ys) zs = drop_first ys zs

  take_two : (n m : ℕ) (xs ys zs : List A) → length xs ≡ n → length ys ≡ m → take (n + m) (xs ++ (ys ++ zs)) ≡ xs ++ ys
  take_two n m xs ys zs first second =
      ap₂ (λ a b. take (a + b) (xs ++ (ys ++ zs))) (sym first) (sym second) ∙ take-append_right xs (ys ++ zs) (length ys) ∙ ap (λ ws. xs ++ ws) (take_first ys zs)

  drop_two : (n m : ℕ) (xs ys zs : List A) → length xs ≡ n → length ys ≡ m → drop (n + m) (xs ++ (ys ++ zs)) ≡ zs
  drop_two n m xs ys zs first second =
      ap₂ (λ a b. drop (a + b) (xs ++ (ys ++ zs))) (sym first) (sym second) ∙ drop-append_right xs (ys ++ zs) (length ys) ∙ drop_first ys zs

-- what a body instances before its output it instances
pub called_inside : (s : Name) (os : List Op) → In s (callee_symbols (before_output os)) → In s (callee_symbols os)
called_inside s [] here = here
called_inside s (o ∷ os) here = go (is_output_op o) here (called_inside s os)
  where
    go : (b : Bool) → In s (callee_symbols (cond b [] (o ∷ before_output os))) → (In s (callee_symbols (before_output os)) → In s (callee_symbols os)) → In s (callee_symbols (o ∷ os))
    go true there rest = absurd there
    go false there rest = by_part (In-append_cases s (called_by (instance_in o.kind)) (callee_symbols (before_output os)) there)
      where
        by_part : In s (called_by (instance_in o.kind)) ⊎ In s (callee_symbols (before_output os)) → In s (callee_symbols (o ∷ os))
        by_part (inl first) = In-append_left s (called_by (instance_in o.kind)) (callee_symbols os) first
        by_part (inr later) = In-append_right s (called_by (instance_in o.kind)) (callee_symbols os) (rest later)

-- ---- an instance inlined

module _ (i : ℕ) (o : Op) (c : Module) (os : List Op) (there : slice_get os i ≡ Some o) where
  rename : Op → Op
  rename = renamed (instance_name o)

  prefix : List Op
  prefix = map (retarget (outer_ref i o c)) (take i os)

  back : List Op
  back = map (retarget (outer_ref i o c)) (drop (suc i) os)

  others : Others prefix (inlined_ops rename i o c ++ back) (inlined_at i o c os)
  unfolding rename prefix back
  others =
      subst (λ n. Others prefix (inlined_ops rename i o c ++ back) (unwire n (wire_count o) (inline_op rename i o c os)))
      (length-map (take i os) (retarget (outer_ref i o c)) ∙ length_before os i o there)
      (others_stay (wire_count o) prefix (inlined_wires i o c) (inlined_ops rename i o c ++ back) (wires_length o.location (inner_ref i o c) o.results (output_refs c.body)))

  stand : Op → Op
  stand = retarget others.stand

  parts_are : inlined_at i o c os ≡ map stand prefix ++ (map stand (inlined_ops rename i o c) ++ map stand back)
  unfolding stand
  parts_are = others.body_is ∙ ap (λ xs. map stand prefix ++ xs) (map-append stand (inlined_ops rename i o c) back)

  prefix_length : length (map stand prefix) ≡ i
  unfolding prefix
  prefix_length = length-map prefix stand ∙ length-map (take i os) (retarget (outer_ref i o c)) ∙ length_before os i o there

  inside_length : length (map stand (inlined_ops rename i o c)) ≡ moved_count c
  inside_length = length-map (inlined_ops rename i o c) stand ∙ length-map (before_output c.body) (λ (y : Op). rename (retarget (inner_ref i o c) y))

  -- what is before the rest instances what was before the instance, and then what the module does before its output
  pub called_so_far : callee_symbols (take (i + moved_count c) (inlined_at i o c os)) ≡ callee_symbols (take i os) ++ callee_symbols (before_output c.body)
  unfolding rename prefix stand
  called_so_far =
      ap (λ xs. callee_symbols (take (i + moved_count c) xs)) parts_are
      ∙ ap callee_symbols (take_two i (moved_count c) (map stand prefix) (map stand (inlined_ops rename i o c)) (map stand back) prefix_length inside_length)
      ∙ called_append (map stand prefix) (map stand (inlined_ops rename i o c))
      ∙ ap₂ (λ xs ys. xs ++ ys)
      (called-retarget others.stand prefix ∙ called-retarget (outer_ref i o c) (take i os))
      (called-retarget others.stand (inlined_ops rename i o c)
      ∙ called_moved (inner_ref i o c) (λ (y : Op). rename (retarget (inner_ref i o c) y)) (moved_renamed rename (renamed_only (instance_name o)) (inner_ref i o c)) (before_output c.body))

  rest_is : drop (i + moved_count c) (inlined_at i o c os) ≡ map stand back
  rest_is =
      ap (drop (i + moved_count c)) parts_are
      ∙ drop_two i (moved_count c) (map stand prefix) (map stand (inlined_ops rename i o c)) (map stand back) prefix_length inside_length

  -- the rest instances what was after the instance, and is as long
  pub called_rest : callee_symbols (drop (i + moved_count c) (inlined_at i o c os)) ≡ callee_symbols (drop (suc i) os)
  unfolding back stand
  called_rest = ap callee_symbols rest_is ∙ called-retarget others.stand back ∙ called-retarget (outer_ref i o c) (drop (suc i) os)

  pub length_rest : length (drop (i + moved_count c) (inlined_at i o c os)) ≡ length (drop (suc i) os)
  unfolding back
  length_rest = ap length rest_is ∙ length-map back stand ∙ length-map (drop (suc i) os) (retarget (outer_ref i o c))
