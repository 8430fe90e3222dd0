-- A module that nothing instances goes: the others do what they did.
use Rattle.std.proofs.Common.{◌≡◌, ℕ, zero, suc, pred, ◌+◌, ◌≤◌, ◌<◌, Bool, true, false, cond, List, [], ◌∷◌, ◌++◌, length, map, take, slice_get, Option, Some, None, refl, sym, ap, ap₂, subst, ◌∙◌, inl, inr, arith, option_and_then}
use Rattle.std.proofs.lemmas.List.{length-map}
use mathlib.Core.Path.{fun_ext}
use Rattle.wiring.specs.Wiring.{In, IsHeight, HasHeights as HaveHeights}
use Rattle.wiring.proofs.Members.{In-append_left, In-append_right, In-slice_get, from_In-take}
use Rattle.wiring.proofs.Heights.{FallsAlong-height, height-le, heights}
use Rattle.wiring.proofs.Chains.{IsAcyclic-falling}
use Rattle.std.specs.Cmp.Lexicographic.{same_text, other_text}
use Rattle.hw_model.specs.Types.{Name}
use Rattle.hw_model.specs.Kinds.{Instance}
use Rattle.hw_model.specs.Design.{Ref, Op, Module, Design, same_name, find_module, instance_in, is_instance, is_register, is_output_op, result_type, output_refs, callee}
use Rattle.hw_model.specs.Design.Ref.{port, result, undefined}
use Rattle.hw_model.specs.Value.{concat_words}
use Rattle.hw_model.specs.Flat.{Path, Net, net, Slot, instances, before_instance, if_zero, module_at, op_state, body_state, module_state, state, base, port_ref, input_source, copy_of, joined_ref}
use Rattle.hw_model.specs.Flat.{joined_at, held_of, made_of, port_source, result_source, source, op_registers, body_registers, module_registers, registers}
use Rattle.hw_model.specs.Flat.Source.{nowhere}
use Rattle.hw_model.specs.Machine.{Same}
use Rattle.hw_model.specs.Meaning.{needs_of, needs, HasHeights, next_content, risen_content, outputs, outputs_of, machine}
use Rattle.hw_model.specs.Sound.{body_of}
use Rattle.hw_model.specs.Hierarchy.{callee_symbols, called_by, calls, HasNoRecursion, IsWithout}
use Rattle.hw_model.proofs.Sorts.{Sort, sort_of}
use Rattle.hw_model.proofs.Sorts.Sort.{a_register, an_instance, an_output, a_made}
use Rattle.hw_model.proofs.Paths.{module_inside, state_body, before_body, registers_body, joined_body, result_in, result_here}
use Rattle.hw_model.proofs.Machines.{same_self}
use Rattle.hw_model.proofs.Finite.{calls_within, settles_with_heights}
use Rattle.hw_model.proofs.Locations.{machine_of}
use Rattle.hw_model.proofs.Content.{state_at_depth, call_heights}

-- an instance among operations is called
pub called_In : (os : List Op) (o : Op) (i : Instance) → In o os → instance_in o.kind ≡ Some i → In i.symbol (callee_symbols os)
called_In [] o i here inst = absurd here
called_In (y ∷ ys) o i (inl same) inst =
    let kind : instance_in y.kind ≡ Some i = ap (λ z. instance_in z.kind) (sym same) ∙ inst in
    In-append_left i.symbol (called_by (instance_in y.kind)) (callee_symbols ys) (simp kind (inl refl))
called_In (y ∷ ys) o i (inr here) inst = In-append_right i.symbol (called_by (instance_in y.kind)) (callee_symbols ys) (called_In ys o i here inst)

pub from_In-instances : (os : List Op) (o : Op) → In o (instances os) → In o os
from_In-instances [] o here = absurd here
from_In-instances (y ∷ ys) o here = go (is_instance y) here (from_In-instances ys o)
  where
    go : (b : Bool) → In o (cond b (y ∷ instances ys) (instances ys)) → (In o (instances ys) → In o ys) → In o (y ∷ ys)
    go true (inl same) rest = inl same
    go true (inr later) rest = inr (rest later)
    go false later rest = inr (rest later)

from_In-before : (u : ℕ) (os : List Op) (o : Op) → In o (before_instance u os) → In o os
from_In-before u [] o here = absurd here
from_In-before u (y ∷ ys) o here = go (is_instance y) u here (from_In-before u ys o) (from_In-before (pred u) ys o)
  where
    go : (b : Bool) (u : ℕ) → In o (cond b (if_zero u [] (y ∷ before_instance (pred u) ys)) (y ∷ before_instance u ys))
        → (In o (before_instance u ys) → In o ys) → (In o (before_instance (pred u) ys) → In o ys) → In o (y ∷ ys)
    go true zero here rest fewer = absurd here
    go true (suc u) (inl same) rest fewer = inl same
    go true (suc u) (inr later) rest fewer = inr (fewer later)
    go false u (inl same) rest fewer = inl same
    go false u (inr later) rest fewer = inr (rest later)

-- the instances among operations decide how many bits of content they have
body_state_agree : (f g : Name → ℕ) (os : List Op) → ((o : Op) (i : Instance) → In o os → instance_in o.kind ≡ Some i → f i.symbol ≡ g i.symbol) → body_state f os ≡ body_state g os
body_state_agree f g [] agree = refl
body_state_agree f g (o ∷ os) agree = ap₂ (λ a b. a + b) (go (sort_of o.kind)) (body_state_agree f g os (λ x i here inst. agree x i (inr here) inst))
  where
    go : Sort o.kind → op_state f o ≡ op_state g o
    go (a_register x r i u) = simp (r, i)
    go (an_instance x r i u) = let equal : f x.symbol ≡ g x.symbol = agree o x (inl refl) i in simp (r, i) equal
    go (an_output r i u) = simp (r, i)
    go (a_made r i u) = simp (r, i)

-- and which registers
body_registers_agree : (f g : Path → Name → List Slot) (p : Path) (u : ℕ) (os : List Op)
    → ((o : Op) (i : Instance) (q : Path) → In o os → instance_in o.kind ≡ Some i → f q i.symbol ≡ g q i.symbol) → body_registers f p u os ≡ body_registers g p u os
body_registers_agree f g p u [] agree = refl
body_registers_agree f g p u (o ∷ os) agree =
    ap₂ (λ xs ys. xs ++ ys) (go (sort_of o.kind)) (body_registers_agree f g p (cond (is_instance o) (suc u) u) os (λ x i q here inst. agree x i q (inr here) inst))
  where
    go : Sort o.kind → op_registers f p u o ≡ op_registers g p u o
    go (a_register x r i w) = simp (r, i)
    go (an_instance x r i w) = let equal : f (u ∷ p) x.symbol ≡ g (u ∷ p) x.symbol = agree o x (u ∷ p) (inl refl) i in simp (r, i) equal
    go (an_output r i w) = simp (r, i)
    go (a_made r i w) = simp (r, i)

-- the registers of a module do not depend on the depth, where it is enough
registers_steady : (d : Design) (h : Name → ℕ) → IsHeight (calls d) h → (m n : ℕ) (p : Path) (s : Name) → h s ≤ m → h s ≤ n → module_registers m d p s ≡ module_registers n d p s
registers_steady d h height zero n p s low also = let positive : h s ≡ suc _ = height s in absurd (omega arith)
registers_steady d h height (suc m) zero p s low also = let positive : h s ≡ suc _ = height s in absurd (omega arith)
registers_steady d h height (suc m) (suc n) p s low also =
    registers_body (module_registers m d) p (find_module d s)
    ∙ body_registers_agree (module_registers m d) (module_registers n d) p 0 (body_of (find_module d s))
    (λ o i q here inst.
    let lower : h i.symbol < h s = FallsAlong-height (calls d) h height s i.symbol (called_In (body_of (find_module d s)) o i here inst) in
    registers_steady d h height m n q i.symbol (omega arith) (omega arith))
    ∙ sym (registers_body (module_registers n d) p (find_module d s))

-- the height of a symbol is a depth that is enough
rank_within : (d : Design) (h : Name → ℕ) → IsHeight (calls d) h → (s : Name) → h s ≤ suc (length d)
rank_within d h height s =
    subst (λ k. h s ≤ suc k) (length-map d (λ (m : Module). m.symbol)) (height-le (calls d) (map (λ (m : Module). m.symbol) d) (calls_within d) h height s)

-- ---- the two designs

-- no module of the design is within itself
pub finite_without : (d e : Design) (gone : Name) → IsWithout d e gone → HasNoRecursion d → HasNoRecursion e
finite_without d e gone without finite = IsAcyclic-falling (calls e) high.0 falls
  where
    high : HaveHeights (calls d)
    high = call_heights d finite

    kept : (s t : Name) → In t (calls e s) → In t (calls d s)
    kept s t need = go (same_name s gone) refl
      where
        go : (b : Bool) → same_name s gone ≡ b → In t (calls d s)
        go true same =
            let missing : find_module e s ≡ None = ap (find_module e) (same_text s gone (sym same)) ∙ without.absent in
            absurd (subst (λ o. In t (callee_symbols (body_of o))) missing need)
        go false other = subst (λ o. In t (callee_symbols (body_of o))) (without.others s (other_text s gone (sym other))) need

    falls : (s t : Name) → In t (calls e s) → high.0 t < high.0 s
    falls s t need = FallsAlong-height (calls d) high.0 high.1 s t (kept s t need)

-- where a module is not there its nets have heights
pub heights_without_module : (e : Design) (top : Name) → find_module e top ≡ None → HasHeights e top
heights_without_module e top missing = heights (needs e top) (λ a. 0) (λ a b need. absurd (go a.path a.ref b need))
  where
    at : (p : Path) → module_at e top p ≡ None
    at [] = missing
    at (u ∷ p) = ap (λ o. option_and_then (λ (m : Module). option_and_then (callee e) (slice_get (instances m.body) u)) o) (at p)

    go : (p : Path) (r : Ref) (b : Net) → In b (needs e top (net p r)) → ⊥
    go [] (port j) b need = subst (λ o. In b (needs_of (input_source j o))) missing need
    go (u ∷ p) (port j) b need = subst (λ o. In b (needs_of (copy_of p (option_and_then (joined_at e u j) o)))) (at p) need
    go p (result j k) b need = subst (λ o. In b (needs_of (result_source e top p j k o))) (at p) need
    go p undefined b need = need

module _ (d e : Design) (gone : Name) (without : IsWithout d e gone) (finite : HasNoRecursion d) where
  finite' : HasNoRecursion e
  finite' = finite_without d e gone without finite

  -- what a module of the design instances is not the one that is gone
  stays : (s : Name) (o : Op) (i : Instance) → In o (body_of (find_module d s)) → instance_in o.kind ≡ Some i → i.symbol ≡ gone → ⊥
  stays s o i here inst same = without.unused s (subst (λ t. In t (calls d s)) same (called_In (body_of (find_module d s)) o i here inst))

  state_kept : (n : ℕ) (s : Name) → (s ≡ gone → ⊥) → module_state n e s ≡ module_state n d s
  state_kept zero s other = refl
  state_kept (suc n) s other =
      state_body (module_state n e) (find_module e s)
      ∙ ap (λ o. body_state (module_state n e) (body_of o)) (without.others s other)
      ∙ body_state_agree (module_state n e) (module_state n d) (body_of (find_module d s)) (λ o i here inst. state_kept n i.symbol (stays s o i here inst))
      ∙ sym (state_body (module_state n d) (find_module d s))

  state_same : (s : Name) → (s ≡ gone → ⊥) → state e s ≡ state d s
  state_same s other =
      sym (state_at_depth e below.0 below.1 enough s (omega arith)) ∙ state_kept enough s other ∙ state_at_depth d above.0 above.1 enough s (omega arith)
    where
      above : HaveHeights (calls d)
      above = call_heights d finite

      below : HaveHeights (calls e)
      below = call_heights e finite'

      enough : ℕ
      enough = above.0 s + below.0 s

  registers_kept : (n : ℕ) (p : Path) (s : Name) → (s ≡ gone → ⊥) → module_registers n e p s ≡ module_registers n d p s
  registers_kept zero p s other = refl
  registers_kept (suc n) p s other =
      registers_body (module_registers n e) p (find_module e s)
      ∙ ap (λ o. body_registers (module_registers n e) p 0 (body_of o)) (without.others s other)
      ∙ body_registers_agree (module_registers n e) (module_registers n d) p 0 (body_of (find_module d s))
      (λ o i q here inst. registers_kept n q i.symbol (stays s o i here inst))
      ∙ sym (registers_body (module_registers n d) p (find_module d s))

  registers_same : (s : Name) → (s ≡ gone → ⊥) → registers e s ≡ registers d s
  registers_same s other =
      registers_steady e below.0 below.1 (suc (length e)) enough [] s (rank_within e below.0 below.1 s) (omega arith)
      ∙ registers_kept enough [] s other
      ∙ registers_steady d above.0 above.1 enough (suc (length d)) [] s (omega arith) (rank_within d above.0 above.1 s)
    where
      above : HaveHeights (calls d)
      above = call_heights d finite

      below : HaveHeights (calls e)
      below = call_heights e finite'

      enough : ℕ
      enough = above.0 s + below.0 s

  module _ (top : Name) (other : top ≡ gone → ⊥) where
    -- the module at a path is that of a symbol that stays, in both designs, or is not there
    data Where (p : Path) : Type 0 where
      here : (s : Name) → (s ≡ gone → ⊥) → module_at d top p ≡ find_module d s → module_at e top p ≡ find_module d s → Where p
      missing : module_at d top p ≡ None → module_at e top p ≡ None → Where p

    where_is : (p : Path) → Where p
    where_is [] = here top other refl (without.others top other)
    where_is (u ∷ p) = go (where_is p)
      where
        by_op : (s : Name) (x : Option Op) → ((o : Op) → x ≡ Some o → In o (body_of (find_module d s)))
            → module_at d top (u ∷ p) ≡ option_and_then (callee d) x → module_at e top (u ∷ p) ≡ option_and_then (callee e) x → Where (u ∷ p)
        by_op s None within is is' = missing is is'
        by_op s (Some o) within is is' = by_instance (instance_in o.kind) refl is is'
          where
            by_instance : (y : Option Instance) → instance_in o.kind ≡ y → module_at d top (u ∷ p) ≡ option_and_then (λ (i : Instance). find_module d i.symbol) (instance_in o.kind)
                → module_at e top (u ∷ p) ≡ option_and_then (λ (i : Instance). find_module e i.symbol) (instance_in o.kind) → Where (u ∷ p)
            by_instance None none is is' =
                missing (is ∙ ap (λ z. option_and_then (λ (i : Instance). find_module d i.symbol) z) none) (is' ∙ ap (λ z. option_and_then (λ (i : Instance). find_module e i.symbol) z) none)
            by_instance (Some i) inst is is' =
                here i.symbol (stays s o i (within o refl) inst)
                (is ∙ ap (λ z. option_and_then (λ (x : Instance). find_module d x.symbol) z) inst)
                (is' ∙ ap (λ z. option_and_then (λ (x : Instance). find_module e x.symbol) z) inst ∙ without.others i.symbol (stays s o i (within o refl) inst))

        go : Where p → Where (u ∷ p)
        go (missing is is') =
            missing (ap (λ o. option_and_then (λ (m : Module). option_and_then (callee d) (slice_get (instances m.body) u)) o) is)
            (ap (λ o. option_and_then (λ (m : Module). option_and_then (callee e) (slice_get (instances m.body) u)) o) is')
        go (here s stays_on is is') =
            by_op s (slice_get (instances (body_of (find_module d s))) u)
            (λ o at_u. from_In-instances (body_of (find_module d s)) o (In-slice_get o (instances (body_of (find_module d s))) u at_u))
            (module_inside d u (module_at d top p) ∙ ap (λ o. option_and_then (callee d) (slice_get (instances (body_of o)) u)) is)
            (module_inside e u (module_at e top p) ∙ ap (λ o. option_and_then (callee e) (slice_get (instances (body_of o)) u)) is')

    abbrev body_at : Path → List Op
    body_at p = body_of (module_at d top p)

    same_at : (p : Path) → module_at e top p ≡ module_at d top p
    same_at p = go (where_is p)
      where
        go : Where p → module_at e top p ≡ module_at d top p
        go (here s stays_on is is') = is' ∙ sym is
        go (missing is is') = is' ∙ sym is

    not_gone : (p : Path) (o : Op) (i : Instance) → In o (body_at p) → instance_in o.kind ≡ Some i → i.symbol ≡ gone → ⊥
    not_gone p o i within inst = go (where_is p)
      where
        go : Where p → i.symbol ≡ gone → ⊥
        go (here s stays_on is is') = stays s o i (subst (λ m. In o (body_of m)) is within) inst
        go (missing is is') = absurd (subst (λ m. In o (body_of m)) is within)

    callee_same : (p : Path) (o : Op) → In o (body_at p) → callee e o ≡ callee d o
    callee_same p o within = go (instance_in o.kind) refl
      where
        go : (y : Option Instance) → instance_in o.kind ≡ y → option_and_then (λ (i : Instance). find_module e i.symbol) y ≡ option_and_then (λ (i : Instance). find_module d i.symbol) y
        go None inst = refl
        go (Some i) inst = without.others i.symbol (not_gone p o i within inst)

    content_same : (p : Path) (os : List Op) → ((o : Op) → In o os → In o (body_at p)) → body_state (state e) os ≡ body_state (state d) os
    content_same p os within = body_state_agree (state e) (state d) os (λ o i here inst. state_same i.symbol (not_gone p o i (within o here) inst))

    base_same : (p : Path) → base e top p ≡ base d top p
    base_same [] = refl
    base_same (u ∷ p) =
        ap₂ (λ a b. a + b) (base_same p)
        (before_body e u (module_at e top p)
        ∙ ap (λ m. body_state (state e) (before_instance u (body_of m))) (same_at p)
        ∙ content_same p (before_instance u (body_at p)) (λ o here. from_In-before u (body_at p) o here)
        ∙ sym (before_body d u (module_at d top p)))

    port_same : (p : Path) (j : ℕ) → port_source e top p j ≡ port_source d top p j
    port_same [] j = ap (input_source j) (without.others top other)
    port_same (u ∷ p) j =
        ap (copy_of p) (ap (λ m. option_and_then (joined_at e u j) m) (same_at p) ∙ joined_body e u j (module_at d top p)
        ∙ go (slice_get (instances (body_at p)) u) refl ∙ sym (joined_body d u j (module_at d top p)))
      where
        go : (x : Option Op) → slice_get (instances (body_at p)) u ≡ x → option_and_then (joined_ref e j) x ≡ option_and_then (joined_ref d j) x
        go None is = refl
        go (Some o) is =
            ap (λ m. option_and_then (λ (c : Module). port_ref c.ports o.operands j) m)
            (callee_same p o (from_In-instances (body_at p) o (In-slice_get o (instances (body_at p)) u is)))

    result_same : (p : Path) (j k : ℕ) → source e top (net p (result j k)) ≡ source d top (net p (result j k))
    result_same p j k =
        result_here e top p j k
        ∙ ap (λ m. result_in e top p (body_of m) j k (slice_get (body_of m) j)) (same_at p)
        ∙ go (slice_get (body_at p) j) refl
        ∙ sym (result_here d top p j k)
      where
        offset_same : base e top p + body_state (state e) (take j (body_at p)) ≡ base d top p + body_state (state d) (take j (body_at p))
        offset_same = ap₂ (λ a b. a + b) (base_same p) (content_same p (take j (body_at p)) (λ o here. from_In-take o j (body_at p) here))

        go : (x : Option Op) → slice_get (body_at p) j ≡ x → result_in e top p (body_at p) j k x ≡ result_in d top p (body_at p) j k x
        go None is = refl
        go (Some o) is =
            ap₂ (λ a b. cond (is_register o) (held_of a (result_type o k)) (cond (is_instance o) b (cond (is_output_op o) nowhere (made_of p o k (result_type o k)))))
            offset_same
            (ap (λ m. copy_of (length (instances (take j (body_at p))) ∷ p) (option_and_then (λ (c : Module). slice_get (output_refs c.body) k) m))
            (callee_same p o (In-slice_get o (body_at p) j is)))

    pub source_same : (a : Net) → source e top a ≡ source d top a
    source_same a = go a.path a.ref
      where
        go : (p : Path) (r : Ref) → source e top (net p r) ≡ source d top (net p r)
        go p (port j) = port_same p j
        go p (result j k) = result_same p j k
        go p undefined = refl

    machine_same : machine e top ≡ machine d top
    machine_same =
        ap (λ size. machine_of size (source e top) (outputs e top) (next_content (registers e top)) (risen_content (registers e top))) (state_same top other)
        ∙ ap (λ from. machine_of (state d top) from (outputs e top) (next_content (registers e top)) (risen_content (registers e top))) (fun_ext source_same)
        ∙ ap (λ m. machine_of (state d top) (source d top) (λ ρ. concat_words (map (λ r. ρ (net [] r)) (outputs_of m))) (next_content (registers e top)) (risen_content (registers e top))) (without.others top other)
        ∙ ap (λ ss. machine_of (state d top) (source d top) (outputs d top) (next_content ss) (risen_content ss)) (registers_same top other)

    -- each other module does what it did
    pub gone_same : HasHeights d top → Same (machine d top) (machine e top)
    gone_same heights = subst (λ m. Same (machine d top) m) (sym machine_same) (same_self (machine d top) (settles_with_heights d top heights))
