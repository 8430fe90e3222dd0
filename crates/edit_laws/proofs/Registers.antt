-- A register takes its next value in another way: nets, content and outputs stay, and what is loaded is the same.
use Rattle.std.proofs.Common.{◌≡◌, ℕ, zero, suc, ◌+◌, cond, List, [], ◌∷◌, length, map, take, slice_get, is_some, Option, Some, None, refl, sym, ap, ap₂, ◌∙◌, option_and_then}
use mathlib.Core.Path.{fun_ext, subst₂}
use Rattle.bits_core.specs.Word.{Word}
use Rattle.hw_model.specs.Types.{Name}
use Rattle.hw_model.specs.Kinds.{Instance}
use Rattle.hw_model.specs.Design.{Ref, Op, Module, Design, find_module, instance_in, is_instance, is_register, is_output_op, result_type, output_refs, callee}
use Rattle.hw_model.specs.Design.Ref.{port, result, undefined}
use Rattle.hw_model.specs.Value.{concat_words}
use Rattle.hw_model.specs.Flat.{Path, Net, net, instances, before_instance, module_at, body_state, module_state, state, base, port_ref, input_width, input_of, port_source, copy_of, joined_ref, joined_at, given_ref, held_of, made_of, source}
use Rattle.hw_model.specs.Flat.Source.{nowhere}
use Rattle.hw_model.specs.Meaning.{outputs}
use Rattle.hw_model.specs.Hierarchy.{calls}
use Rattle.hw_model.specs.Sound.{body_of, ports_of}
use Rattle.hw_model.proofs.Paths.{module_inside, state_body, before_body, outputs_body, input_ports, joined_body, port_of, output_of, op_in, result_in, result_here}
use Rattle.edit_laws.proofs.Edited.{Found, of_found}
use Rattle.edit_laws.proofs.Edited.Found.{of_symbol, absent}
use Rattle.edit_laws.proofs.Twins.Twin.{one, two}
use Rattle.edit_laws.proofs.Twins.{Twin, Twins, TwinOption, twins_instances, twins_outputs, twins_called, twins_state, twins_take, twins_before, twins_at}

-- a module and what it is after registers of it load in another way
pub record Reregistered (old new : Option Module) : Type 0 where
  pub is_there : is_some new ≡ is_some old
  pub ports_are : ports_of new ≡ ports_of old
  pub twins : Twins (ports_of old) (body_of old) 0 (body_of old) (body_of new)

module _ (d d' : Design) (none : Reregistered None None) (each : (s : Name) → Reregistered (find_module d s) (find_module d' s)) (same : length d' ≡ length d) where
  found_callee : (x : Option Op) → Found d d' (option_and_then (callee d) x) (option_and_then (callee d') x)
  found_callee None = absent refl refl
  found_callee (Some o) = go (instance_in o.kind)
    where
      go : (y : Option Instance) → Found d d' (option_and_then (λ (i : Instance). find_module d i.symbol) y) (option_and_then (λ (i : Instance). find_module d' i.symbol) y)
      go None = absent refl refl
      go (Some i) = of_symbol i.symbol refl refl

  pub module_state_same : (n : ℕ) (s : Name) → module_state n d' s ≡ module_state n d s
  module_state_same zero s = refl
  module_state_same (suc n) s =
      state_body (module_state n d') (find_module d' s)
      ∙ ap (λ inner. body_state inner (body_of (find_module d' s))) (fun_ext (module_state_same n))
      ∙ twins_state (ports_of (find_module d s)) (body_of (find_module d s)) (module_state n d) 0 (body_of (find_module d s)) (body_of (find_module d' s)) (each s).twins
      ∙ sym (state_body (module_state n d) (find_module d s))

  state_same : state d' ≡ state d
  state_same = fun_ext (λ s. ap (λ n. module_state (suc n) d' s) same ∙ module_state_same (suc (length d)) s)

  pub calls_same : (s : Name) → calls d' s ≡ calls d s
  calls_same s = twins_called (ports_of (find_module d s)) (body_of (find_module d s)) 0 (body_of (find_module d s)) (body_of (find_module d' s)) (each s).twins

  ports_callee : (o : Op) → ports_of (callee d' o) ≡ ports_of (callee d o)
  ports_callee o = go (instance_in o.kind)
    where
      go : (y : Option Instance) → ports_of (option_and_then (λ (i : Instance). find_module d' i.symbol) y) ≡ ports_of (option_and_then (λ (i : Instance). find_module d i.symbol) y)
      go None = refl
      go (Some i) = (each i.symbol).ports_are

  outputs_callee : (o : Op) → output_refs (body_of (callee d' o)) ≡ output_refs (body_of (callee d o))
  outputs_callee o = go (instance_in o.kind)
    where
      go : (y : Option Instance) → output_refs (body_of (option_and_then (λ (i : Instance). find_module d' i.symbol) y)) ≡ output_refs (body_of (option_and_then (λ (i : Instance). find_module d i.symbol) y))
      go None = refl
      go (Some i) = twins_outputs (ports_of (find_module d i.symbol)) (body_of (find_module d i.symbol)) 0 (body_of (find_module d i.symbol)) (body_of (find_module d' i.symbol)) (each i.symbol).twins

  module _ (top : Name) where
    found : (p : Path) → Found d d' (module_at d top p) (module_at d' top p)
    found [] = of_symbol top refl refl
    found (u ∷ p) =
        let here : Reregistered (module_at d top p) (module_at d' top p) = of_found d d' Reregistered none each (module_at d top p) (module_at d' top p) (found p) in
        let lists : instances (body_of (module_at d' top p)) ≡ instances (body_of (module_at d top p)) =
        twins_instances (ports_of (module_at d top p)) (body_of (module_at d top p)) 0 (body_of (module_at d top p)) (body_of (module_at d' top p)) here.twins in
        subst₂ (Found d d') (sym (module_inside d u (module_at d top p)))
        (ap (λ xs. option_and_then (callee d') (slice_get xs u)) (sym lists) ∙ sym (module_inside d' u (module_at d' top p)))
        (found_callee (slice_get (instances (body_of (module_at d top p))) u))

    at : (p : Path) → Reregistered (module_at d top p) (module_at d' top p)
    at p = of_found d d' Reregistered none each (module_at d top p) (module_at d' top p) (found p)

    abbrev pub old_body : Path → List Op
    old_body p = body_of (module_at d top p)

    abbrev pub new_body : Path → List Op
    new_body p = body_of (module_at d' top p)

    pub twins_of : (p : Path) → Twins (ports_of (module_at d top p)) (old_body p) 0 (old_body p) (new_body p)
    twins_of p = (at p).twins

    pub instances_same : (p : Path) → instances (new_body p) ≡ instances (old_body p)
    instances_same p = twins_instances (ports_of (module_at d top p)) (old_body p) 0 (old_body p) (new_body p) (twins_of p)

    base_same : (p : Path) → base d' top p ≡ base d top p
    base_same [] = refl
    base_same (u ∷ p) =
        ap₂ (λ a b. a + b) (base_same p)
        (before_body d' u (module_at d' top p)
        ∙ ap (λ inner. body_state inner (before_instance u (new_body p))) state_same
        ∙ twins_before (ports_of (module_at d top p)) (old_body p) (state d) u 0 (old_body p) (new_body p) (twins_of p)
        ∙ sym (before_body d u (module_at d top p)))

    joined_same : (p : Path) (u j : ℕ) → option_and_then (joined_at d' u j) (module_at d' top p) ≡ option_and_then (joined_at d u j) (module_at d top p)
    joined_same p u j =
        joined_body d' u j (module_at d' top p)
        ∙ ap (λ xs. option_and_then (joined_ref d' j) (slice_get xs u)) (instances_same p)
        ∙ go (slice_get (instances (old_body p)) u)
        ∙ sym (joined_body d u j (module_at d top p))
      where
        go : (x : Option Op) → option_and_then (joined_ref d' j) x ≡ option_and_then (joined_ref d j) x
        go None = refl
        go (Some o) =
            port_of (callee d' o) o.operands j ∙ ap (λ ps. port_ref ps o.operands j) (ports_callee o) ∙ sym (port_of (callee d o) o.operands j)

    port_same : (p : Path) (j : ℕ) → port_source d' top p j ≡ port_source d top p j
    port_same [] j =
        input_ports j (find_module d' top)
        ∙ ap (λ ps. input_of (slice_get ps j) (input_width (take j ps))) (each top).ports_are
        ∙ sym (input_ports j (find_module d top))
    port_same (u ∷ p) j = ap (copy_of p) (joined_same p u j)

    result_same : (p : Path) (j k : ℕ) → source d' top (net p (result j k)) ≡ source d top (net p (result j k))
    result_same p j k =
        result_here d' top p j k
        ∙ go (slice_get (old_body p) j) (slice_get (new_body p) j) (twins_at (ports_of (module_at d top p)) (old_body p) j 0 (old_body p) (new_body p) (twins_of p))
        ∙ sym (result_here d top p j k)
      where
        cut : Twins (ports_of (module_at d top p)) (old_body p) 0 (take j (old_body p)) (take j (new_body p))
        cut = twins_take (ports_of (module_at d top p)) (old_body p) j 0 (old_body p) (new_body p) (twins_of p)

        offset_same : base d' top p + body_state (state d') (take j (new_body p)) ≡ base d top p + body_state (state d) (take j (old_body p))
        offset_same =
            ap₂ (λ a b. a + b) (base_same p)
            (ap (λ inner. body_state inner (take j (new_body p))) state_same
            ∙ twins_state (ports_of (module_at d top p)) (old_body p) (state d) 0 (take j (old_body p)) (take j (new_body p)) cut)

        count_same : length (instances (take j (new_body p))) ≡ length (instances (take j (old_body p)))
        count_same = ap length (twins_instances (ports_of (module_at d top p)) (old_body p) 0 (take j (old_body p)) (take j (new_body p)) cut)

        given_same : (o : Op) → given_ref d' k o ≡ given_ref d k o
        given_same o =
            output_of (callee d' o) k ∙ ap (λ rs. slice_get rs k) (outputs_callee o) ∙ sym (output_of (callee d o) k)

        by_op : (o o' : Op) → Twin (ports_of (module_at d top p)) (old_body p) (0 + j) o o' → op_in d' top p (new_body p) j k o' ≡ op_in d top p (old_body p) j k o
        by_op o o' (one is) =
            ap (op_in d' top p (new_body p) j k) is
            ∙ ap₂ (λ a b. cond (is_register o) (held_of a (result_type o k)) (cond (is_instance o) b (cond (is_output_op o) nowhere (made_of p o k (result_type o k)))))
            offset_same (ap₂ (λ n y. copy_of (n ∷ p) y) count_same (given_same o))
        by_op o o' (two old new types resets loads) =
            ap (λ b. cond b (held_of (base d' top p + body_state (state d') (take j (new_body p))) (result_type o' k))
            (cond (is_instance o') (copy_of (length (instances (take j (new_body p))) ∷ p) (given_ref d' k o')) (cond (is_output_op o') nowhere (made_of p o' k (result_type o' k))))) new
            ∙ ap₂ held_of offset_same (types k)
            ∙ sym (ap (λ b. cond b (held_of (base d top p + body_state (state d) (take j (old_body p))) (result_type o k))
            (cond (is_instance o) (copy_of (length (instances (take j (old_body p))) ∷ p) (given_ref d k o)) (cond (is_output_op o) nowhere (made_of p o k (result_type o k))))) old)

        go : (x x' : Option Op) → TwinOption (ports_of (module_at d top p)) (old_body p) (0 + j) x x'
            → result_in d' top p (new_body p) j k x' ≡ result_in d top p (old_body p) j k x
        go None None twin = refl
        go None (Some o') twin = absurd twin
        go (Some o) None twin = absurd twin
        go (Some o) (Some o') twin = by_op o o' twin

    -- each net has the source that it had
    pub source_same : (a : Net) → source d' top a ≡ source d top a
    source_same a = go a.path a.ref
      where
        go : (p : Path) (r : Ref) → source d' top (net p r) ≡ source d top (net p r)
        go p (port j) = port_same p j
        go p (result j k) = result_same p j k
        go p undefined = refl

    pub outputs_same : (ρ : Net → Word) → outputs d' top ρ ≡ outputs d top ρ
    outputs_same ρ =
        ap (λ rs. concat_words (map (λ r. ρ (net [] r)) rs))
        (outputs_body (find_module d' top)
        ∙ twins_outputs (ports_of (find_module d top)) (body_of (find_module d top)) 0 (body_of (find_module d top)) (body_of (find_module d' top)) (each top).twins
        ∙ sym (outputs_body (find_module d top)))

    pub size_same : state d' top ≡ state d top
    size_same = ap (λ f. f top) state_same
