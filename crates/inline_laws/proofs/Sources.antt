-- Where the value of an operation's result comes from, by what the operation is to its module.
use Rattle.std.proofs.Common.{◌≡◌, ℕ, ◌+◌, ◌∷◌, length, take, slice_get, is_some, true, false, Some, None, sym, ap, ◌∙◌, option_and_then}
use Rattle.hw_model.specs.Types.{Name}
use Rattle.hw_model.specs.Kinds.{Instance}
use Rattle.hw_model.specs.Design.{Op, Design, RegisterForm, instance_in, register_form, is_output_kind, result_type, output_refs, callee}
use Rattle.hw_model.specs.Design.Ref.{result}
use Rattle.hw_model.specs.Flat.{Path, net, instances, module_at, base, body_state, state, copy_of, held_of, made_of, source}
use Rattle.hw_model.specs.Flat.Source.{nowhere}
use Rattle.hw_model.specs.Sound.{body_of}
use Rattle.hw_model.proofs.Sorts.{instance_found}
use Rattle.hw_model.proofs.Paths.{module_inside, output_of, op_in, result_in, result_here}
use Rattle.hw_model.proofs.NetWidths.{chosen_instance}

module _ (d : Design) (top : Name) (p : Path) where
  -- the module that an instance leads to
  pub inside_number : (u : ℕ) (o : Op) → slice_get (instances (body_of (module_at d top p))) u ≡ Some o → module_at d top (u ∷ p) ≡ callee d o
  inside_number u o is = module_inside d u (module_at d top p) ∙ ap (λ x. option_and_then (callee d) x) is

  pub missing_source : (j k : ℕ) → slice_get (body_of (module_at d top p)) j ≡ None → source d top (net p (result j k)) ≡ nowhere
  missing_source j k is = result_here d top p j k ∙ ap (result_in d top p (body_of (module_at d top p)) j k) is

  module _ (j k : ℕ) (o : Op) (there : slice_get (body_of (module_at d top p)) j ≡ Some o) where
    there_source : source d top (net p (result j k)) ≡ op_in d top p (body_of (module_at d top p)) j k o
    there_source = result_here d top p j k ∙ ap (result_in d top p (body_of (module_at d top p)) j k) there

    pub register_source : (f : RegisterForm) → register_form o.kind ≡ Some f
        → source d top (net p (result j k)) ≡ held_of (base d top p + body_state (state d) (take j (body_of (module_at d top p)))) (result_type o k)
    register_source f r = there_source ∙ simp r

    pub instance_source : (x : Instance) → register_form o.kind ≡ None → instance_in o.kind ≡ Some x
        → source d top (net p (result j k)) ≡ copy_of (length (instances (take j (body_of (module_at d top p)))) ∷ p)
        (slice_get (output_refs (body_of (module_at d top (length (instances (take j (body_of (module_at d top p)))) ∷ p)))) k)
    instance_source x r i =
        there_source ∙ chosen_instance (is_some (register_form o.kind)) (is_some (instance_in o.kind)) _ _ _ (ap is_some r) (ap is_some i)
        ∙ ap (copy_of (length (instances (take j (body_of (module_at d top p)))) ∷ p))
        (output_of (callee d o) k
        ∙ ap (λ m. slice_get (output_refs (body_of m)) k)
        (sym (inside_number (length (instances (take j (body_of (module_at d top p))))) o (instance_found (body_of (module_at d top p)) j o x there i))))

    pub output_source : register_form o.kind ≡ None → instance_in o.kind ≡ None → is_output_kind o.kind ≡ true → source d top (net p (result j k)) ≡ nowhere
    output_source r i u = there_source ∙ simp (r, i, u)

    pub made_source : register_form o.kind ≡ None → instance_in o.kind ≡ None → is_output_kind o.kind ≡ false
        → source d top (net p (result j k)) ≡ made_of p o k (result_type o k)
    made_source r i u = there_source ∙ simp (r, i, u)
