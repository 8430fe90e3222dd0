-- Two designs, one with an instance of a module inlined, and that modules have as much register content in both.
use Rattle.std.proofs.Common.{◌≡◌, ◌⊎◌, ℕ, zero, suc, ◌+◌, ◌<◌, ◌≤◌, List, [], ◌∷◌, ◌++◌, length, map, true, false, Some, None, refl, sym, ap, ap₂, subst, ◌∙◌, inl, inr, arith, append_assoc, zero-add, add-zero}
use Rattle.std.proofs.lemmas.List.{length-map}
use mathlib.Core.Path.{fun_ext}
use Rattle.wiring.specs.Wiring.{In, IsHeight}
use Rattle.wiring.proofs.Members.{In-append_left, In-append_right, In-append_cases}
use Rattle.wiring.proofs.Heights.{FallsAlong-height, height-le}
use Rattle.wiring.proofs.Chains.{IsAcyclic-falling}
use Rattle.hw_model.specs.Types.{Name}
use Rattle.hw_model.specs.Kinds.{Instance}
use Rattle.hw_model.specs.Design.{Ref, Op, Module, Design, find_module, instance_in, is_output_kind}
use Rattle.hw_model.specs.Flat.{body_state, op_state, module_state, state}
use Rattle.hw_model.specs.Hierarchy.{callee_symbols, called_by, calls, HasNoRecursion}
use Rattle.hw_model.specs.Sound.{body_of}
use Rattle.hw_model.proofs.Sorts.{Sort, sort_of}
use Rattle.hw_model.proofs.Sorts.Sort.{a_register, an_instance, an_output, a_made}
use Rattle.hw_model.proofs.Paths.{state_body}
use Rattle.hw_model.proofs.Finite.{calls_within}
use Rattle.hw_model.proofs.Content.{body_state_same, body_state-append, state_at_depth, call_heights}
use Rattle.edit_laws.specs.Edit.{retarget}
use Rattle.edit_laws.specs.Follows.{Valid}
use Rattle.inline_laws.specs.Inline.{before_output, EndsWithOutput, outer_ref, inner_ref, inlined_wires, inlined_ops, inlined_between, RenamesOnly}
use Rattle.inline_laws.proofs.Moved.{moved_retarget, moved_renamed, body_state_moved, called_moved}
use Rattle.inline_laws.proofs.Ends.{Ended, end_of, are_wires, wires_state, wires_called}

-- what a symbol finds in the two designs: the module whose instance is inlined, or the same
pub data Finds (d e : Design) (md new : Module) (s : Name) : Type 0 where
  changed : find_module d s ≡ Some md → find_module e s ≡ Some new → Finds d e md new s
  unchanged : find_module e s ≡ find_module d s → Finds d e md new s

-- in the design `e` the instance o, which stands between two parts of the body of a module of the design `d`, is inlined
pub record Inlining : Type 0 where
  pub d : Design
  pub e : Design
  pub md : Module
  pub prefix : List Op
  pub o : Op
  pub back : List Op
  pub c : Module
  pub rename : Op → Op
  pub only : RenamesOnly rename
  pub body_is : md.body ≡ prefix ++ (o ∷ back)
  pub target : Instance
  pub is_instance : instance_in o.kind ≡ Some target
  pub is_found : find_module d target.symbol ≡ Some c
  pub ends : EndsWithOutput c.body
  pub valid : Valid d
  pub same_length : length e ≡ length d
  pub finds : (s : Name) → Finds d e md (record md { body = inlined_between rename (length prefix) o c prefix back }) s

-- ---- symbols and content of joined lists

pub called_append : (xs ys : List Op) → callee_symbols (xs ++ ys) ≡ callee_symbols xs ++ callee_symbols ys
called_append [] ys = refl
called_append (y ∷ xs) ys =
    ap (λ zs. called_by (instance_in y.kind) ++ zs) (called_append xs ys) ∙ sym (append_assoc (called_by (instance_in y.kind)) (callee_symbols xs) (callee_symbols ys))

-- an instance has the content of its module
pub instance_state_is : (f : Name → ℕ) (y : Op) (x : Instance) → instance_in y.kind ≡ Some x → op_state f y ≡ f x.symbol
instance_state_is f y x is = go (sort_of y.kind)
  where
    go : Sort y.kind → op_state f y ≡ f x.symbol
    go (a_register g r i u) = let clash : None ≡ Some x = sym i ∙ is in cc
    go (an_instance z r i u) = simp (r, is)
    go (an_output r i u) = let clash : None ≡ Some x = sym i ∙ is in cc
    go (a_made r i u) = let clash : None ≡ Some x = sym i ∙ is in cc

-- an output has none
pub output_state_is : (f : Name → ℕ) (y : Op) → is_output_kind y.kind ≡ true → op_state f y ≡ 0
output_state_is f y is = go (sort_of y.kind)
  where
    go : Sort y.kind → op_state f y ≡ 0
    go (a_register g r i u) = let clash : false ≡ true = sym u ∙ is in cc
    go (an_instance z r i u) = let clash : false ≡ true = sym u ∙ is in cc
    go (an_output r i u) = simp (r, i)
    go (a_made r i u) = simp (r, i)

-- the content of a module is that of its body
pub rank_within : (d : Design) (h : Name → ℕ) → IsHeight (calls d) h → (s : Name) → h s ≤ suc (length d)
rank_within d h height s =
    subst (λ k. h s ≤ suc k) (length-map d (λ (m : Module). m.symbol)) (height-le (calls d) (map (λ (m : Module). m.symbol) d) (calls_within d) h height s)

pub state_is : (d : Design) → HasNoRecursion d → (s : Name) → state d s ≡ body_state (state d) (body_of (find_module d s))
state_is d finite s =
    let high = call_heights d finite in
    let low : high.0 s ≤ suc (length d) = rank_within d high.0 high.1 s in
    sym (state_at_depth d high.0 high.1 (suc (suc (length d))) s (omega arith)) ∙ state_body (module_state (suc (length d)) d) (find_module d s)

-- ---- the two designs

module _ (S : Inlining) where
  -- where the instance stands, and the operations of its module that are moved
  abbrev pub position : ℕ
  position = length S.prefix

  abbrev pub inner : List Op
  inner = before_output S.c.body

  abbrev pub outer_stand : Ref → Ref
  outer_stand = outer_ref position S.o S.c

  abbrev pub inner_stand : Ref → Ref
  inner_stand = inner_ref position S.o S.c

  abbrev pub new_prefix : List Op
  new_prefix = map (retarget outer_stand) S.prefix

  abbrev pub new_wires : List Op
  new_wires = inlined_wires position S.o S.c

  abbrev pub new_inner : List Op
  new_inner = inlined_ops S.rename position S.o S.c

  abbrev pub new_back : List Op
  new_back = map (retarget outer_stand) S.back

  abbrev pub new_body : List Op
  new_body = new_prefix ++ (new_wires ++ (new_inner ++ new_back))

  abbrev pub new_module : Module
  new_module = record S.md { body = new_body }

  -- the heights of modules
  abbrev pub rank : Name → ℕ
  rank = (call_heights S.d S.valid.finite).0

  pub rank_is : IsHeight (calls S.d) rank
  rank_is = (call_heights S.d S.valid.finite).1

  pub end_is : Ended S.c.body
  end_is = end_of S.c.body S.ends

  -- ---- symbols

  called_target : In S.target.symbol (callee_symbols S.md.body)
  called_target =
      subst (λ os. In S.target.symbol (callee_symbols os)) (sym S.body_is)
      (subst (λ ts. In S.target.symbol ts) (sym (called_append S.prefix (S.o ∷ S.back)))
      (In-append_right S.target.symbol (callee_symbols S.prefix) (callee_symbols (S.o ∷ S.back))
      (In-append_left S.target.symbol (called_by (instance_in S.o.kind)) (callee_symbols S.back)
      (subst (λ y. In S.target.symbol (called_by y)) (sym S.is_instance) (inl refl)))))

  -- the module that is inlined is lower than the one that it is inlined in
  pub target_lower : (s : Name) → find_module S.d s ≡ Some S.md → rank S.target.symbol < rank s
  target_lower s is =
      FallsAlong-height (calls S.d) rank rank_is s S.target.symbol
      (subst (λ x. In S.target.symbol (callee_symbols (body_of x))) (sym is) called_target)

  -- what the new body instances
  pub called_new : callee_symbols new_body ≡ callee_symbols S.prefix ++ (callee_symbols inner ++ callee_symbols S.back)
  called_new =
      called_append new_prefix (new_wires ++ (new_inner ++ new_back))
      ∙ ap₂ (λ xs ys. xs ++ ys) (called_moved outer_stand (retarget outer_stand) (moved_retarget outer_stand) S.prefix)
      (called_append new_wires (new_inner ++ new_back)
      ∙ ap₂ (λ xs ys. xs ++ ys) (wires_called new_wires (are_wires S.o.location inner_stand S.o.results _))
      (called_append new_inner new_back
      ∙ ap₂ (λ xs ys. xs ++ ys) (called_moved inner_stand (λ y. S.rename (retarget inner_stand y)) (moved_renamed S.rename S.only inner_stand) inner)
      (called_moved outer_stand (retarget outer_stand) (moved_retarget outer_stand) S.back)))

  called_lower : (s t : Name) → find_module S.d s ≡ Some S.md → In t (callee_symbols S.prefix ++ (callee_symbols inner ++ callee_symbols S.back)) → rank t < rank s
  called_lower s t is here = go (In-append_cases t (callee_symbols S.prefix) (callee_symbols inner ++ callee_symbols S.back) here)
    where
      old : In t (callee_symbols (S.prefix ++ (S.o ∷ S.back))) → rank t < rank s
      old there =
          FallsAlong-height (calls S.d) rank rank_is s t
          (subst (λ x. In t (callee_symbols (body_of x))) (sym is) (subst (λ os. In t (callee_symbols os)) (sym S.body_is) there))

      inside : In t (callee_symbols inner) → rank t < rank s
      inside there =
          let lower : rank S.target.symbol < rank s = target_lower s is in
          let below : rank t < rank S.target.symbol =
          FallsAlong-height (calls S.d) rank rank_is S.target.symbol t
          (subst (λ x. In t (callee_symbols (body_of x))) (sym S.is_found)
          (subst (λ os. In t (callee_symbols os)) (sym end_is.body_is)
          (subst (λ ts. In t ts) (sym (called_append inner (end_is.last ∷ [])))
          (In-append_left t (callee_symbols inner) (callee_symbols (end_is.last ∷ [])) there)))) in
          omega arith

      rest : In t (callee_symbols inner) ⊎ In t (callee_symbols S.back) → rank t < rank s
      rest (inl there) = inside there
      rest (inr there) =
          old (subst (λ ts. In t ts) (sym (called_append S.prefix (S.o ∷ S.back)))
          (In-append_right t (callee_symbols S.prefix) (callee_symbols (S.o ∷ S.back)) (In-append_right t (called_by (instance_in S.o.kind)) (callee_symbols S.back) there)))

      go : In t (callee_symbols S.prefix) ⊎ In t (callee_symbols inner ++ callee_symbols S.back) → rank t < rank s
      go (inl there) =
          old (subst (λ ts. In t ts) (sym (called_append S.prefix (S.o ∷ S.back))) (In-append_left t (callee_symbols S.prefix) (callee_symbols (S.o ∷ S.back)) there))
      go (inr there) = rest (In-append_cases t (callee_symbols inner) (callee_symbols S.back) there)

  -- a module instances lower ones
  pub calls_lower : (s t : Name) → In t (calls S.e s) → rank t < rank s
  calls_lower s t here = go (S.finds s)
    where
      go : Finds S.d S.e S.md new_module s → rank t < rank s
      go (unchanged same) = FallsAlong-height (calls S.d) rank rank_is s t (subst (λ x. In t (callee_symbols (body_of x))) same here)
      go (changed was now) = called_lower s t was (subst (λ ts. In t ts) called_new (subst (λ x. In t (callee_symbols (body_of x))) now here))

  pub finite_after : HasNoRecursion S.e
  finite_after = IsAcyclic-falling (calls S.e) rank calls_lower

  -- ---- content

  abbrev pub bits : List Op → ℕ
  bits os = body_state (state S.d) os

  pub prefix_bits : bits new_prefix ≡ bits S.prefix
  prefix_bits = body_state_moved outer_stand (retarget outer_stand) (moved_retarget outer_stand) (state S.d) S.prefix

  pub back_bits : bits new_back ≡ bits S.back
  back_bits = body_state_moved outer_stand (retarget outer_stand) (moved_retarget outer_stand) (state S.d) S.back

  pub inner_bits : bits new_inner ≡ bits inner
  inner_bits = body_state_moved inner_stand (λ y. S.rename (retarget inner_stand y)) (moved_renamed S.rename S.only inner_stand) (state S.d) inner

  pub wire_bits : bits new_wires ≡ 0
  wire_bits = wires_state (state S.d) new_wires (are_wires S.o.location inner_stand S.o.results _)

  pub instance_bits : op_state (state S.d) S.o ≡ bits inner
  instance_bits =
      instance_state_is (state S.d) S.o S.target S.is_instance
      ∙ state_is S.d S.valid.finite S.target.symbol
      ∙ ap (λ x. bits (body_of x)) S.is_found
      ∙ ap bits end_is.body_is
      ∙ body_state-append (state S.d) inner (end_is.last ∷ [])
      ∙ ap (λ n. bits inner + (n + 0)) (output_state_is (state S.d) end_is.last end_is.is_output)
      ∙ add-zero (bits inner)

  new_bits : bits new_body ≡ bits S.md.body
  new_bits =
      body_state-append (state S.d) new_prefix (new_wires ++ (new_inner ++ new_back))
      ∙ ap₂ (λ a b. a + b) prefix_bits
      (body_state-append (state S.d) new_wires (new_inner ++ new_back)
      ∙ ap₂ (λ a b. a + b) wire_bits (body_state-append (state S.d) new_inner new_back ∙ ap₂ (λ a b. a + b) (inner_bits ∙ sym instance_bits) back_bits)
      ∙ zero-add (op_state (state S.d) S.o + bits S.back))
      ∙ sym (body_state-append (state S.d) S.prefix (S.o ∷ S.back)) ∙ ap bits (sym S.body_is)

  found_bits : (s : Name) → bits (body_of (find_module S.e s)) ≡ state S.d s
  found_bits s = go (S.finds s) ∙ sym (state_is S.d S.valid.finite s)
    where
      go : Finds S.d S.e S.md new_module s → bits (body_of (find_module S.e s)) ≡ bits (body_of (find_module S.d s))
      go (unchanged same) = ap (λ x. bits (body_of x)) same
      go (changed was now) = ap (λ x. bits (body_of x)) now ∙ new_bits ∙ sym (ap (λ x. bits (body_of x)) was)

  state_to : (n : ℕ) (s : Name) → rank s ≤ n → module_state n S.e s ≡ state S.d s
  state_to zero s low = let positive : rank s ≡ suc _ = rank_is s in absurd (omega arith)
  state_to (suc n) s low =
      state_body (module_state n S.e) (find_module S.e s)
      ∙ body_state_same (module_state n S.e) (state S.d) (body_of (find_module S.e s))
      (λ t named. let lower : rank t < rank s = calls_lower s t named in state_to n t (omega arith))
      ∙ found_bits s

  -- modules have as much content as before
  pub state_same : state S.e ≡ state S.d
  state_same =
      fun_ext (λ s. state_to (suc (length S.e)) s (subst (λ k. rank s ≤ suc k) (sym S.same_length) (rank_within S.d rank rank_is s)))
