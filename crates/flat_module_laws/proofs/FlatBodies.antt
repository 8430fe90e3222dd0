-- What the operations of a plain or flat module of an accepted design have: no instance, values for operands, their causes refused.
use Rattle.std.proofs.Common.{◌≡◌, refl, sym, ap, ◌∙◌, ℕ, zero, suc, true, false, cond, is_some, List, [], ◌∷◌, map, slice_get, Option, Some, None, inl, inr}
use Rattle.wiring.specs.Wiring.{In}
use Rattle.hw_model.specs.Types.{Name, HwType}
use Rattle.hw_model.specs.Kinds.{Instance}
use Rattle.hw_model.specs.Design.{Ref, Port, Op, Module, Design, instance_in, output_refs}
use Rattle.hw_model.specs.Flat.{instances, async_reset_in}
use Rattle.hw_model.specs.Hierarchy.{callee_symbols}
use Rattle.hw_model.specs.Meaning.{HasHeights}
use Rattle.hw_model.specs.Sound.{type_in, output_types, SoundBody, Sound}
use Rattle.hw_model.proofs.Finite.{heights_from_no_cycle}
use Rattle.op_verifier.specs.OpChecks.{has_undefined}
use Rattle.op_verifier.specs.ResetChecks.{has_other_reset}
use Rattle.op_verifier.proofs.AcceptedDesigns.{no_fault, accepted_finite, accepted_acyclic}
use Rattle.op_verifier.proofs.NoCauseAlone.{NoCauseAlone, no_cause_alone}
use Rattle.op_verifier.proofs.SoundDesigns.{sound_design}
use Rattle.op_verifier.proofs.Unrefused.{NoOpCause, no_op_cause, IsUnrefused, ops_unrefused, module_unrefused}
use Rattle.flat_module_laws.specs.Sides.{IsPlain, IsFlat}
use Rattle.flat_module_laws.proofs.ScalarValues.{value_scalar}
use Rattle.flat_module_laws.proofs.PlainKinds.{AreScalar}

-- ---- bodies without instances

none_before : (os : List Op) → instances os ≡ [] → (j : ℕ) (o : Op) → slice_get os j ≡ Some o → instance_in o.kind ≡ None
none_before [] none j o at = cc
none_before (y ∷ ys) none j o at = go (instance_in y.kind) refl none j at (none_before ys)
  where
    go : (x : Option Instance) → instance_in y.kind ≡ x → cond (is_some x) (y ∷ instances ys) (instances ys) ≡ [] → (j : ℕ) → slice_get (y ∷ ys) j ≡ Some o
        → (instances ys ≡ [] → (j : ℕ) (o : Op) → slice_get ys j ≡ Some o → instance_in o.kind ≡ None) → instance_in o.kind ≡ None
    go (Some i) is h j at rest = cc
    go None is h zero at rest = let same : y ≡ o = cc in sym (ap (λ (z : Op). instance_in z.kind) same) ∙ is
    go None is h (suc j) at rest = rest h j o at

none_called : (os : List Op) → instances os ≡ [] → (s : Name) → In s (callee_symbols os) → ⊥
none_called [] none s here = here
none_called (y ∷ ys) none s here = go (instance_in y.kind) refl none here (none_called ys)
  where
    go : (x : Option Instance) → instance_in y.kind ≡ x → cond (is_some x) (y ∷ instances ys) (instances ys) ≡ [] → In s (callee_symbols (y ∷ ys))
        → (instances ys ≡ [] → (s : Name) → In s (callee_symbols ys) → ⊥) → ⊥
    go (Some i) is h here rest = cc
    go None is h here rest = rest h s (simp is at here)

-- ---- values that are there

-- the value is one of the body
abbrev pub IsThere : List Port → List Op → Ref → Type 0
IsThere ports os r = (t : HwType) × (type_in ports os r ≡ Some t)

defined_there : (ports : List Port) (os : List Op) (rs : List Ref) → has_undefined ports os rs ≡ false → (r : Ref) → In r rs → IsThere ports os r
defined_there ports os [] none r here = absurd here
defined_there ports os (y ∷ rs) none r here = go (type_in ports os y) refl none here (defined_there ports os rs)
  where
    go : (x : Option HwType) → type_in ports os y ≡ x → cond (is_some x) (has_undefined ports os rs) true ≡ false → In r (y ∷ rs)
        → (has_undefined ports os rs ≡ false → (r : Ref) → In r rs → IsThere ports os r) → IsThere ports os r
    go None is h here rest = cc
    go (Some t) is h (inl same) rest = (t, ap (type_in ports os) same ∙ is)
    go (Some t) is h (inr here) rest = rest h r here

typed_there : (ports : List Port) (os : List Op) (rs : List Ref) (ts : List HwType) → map (type_in ports os) rs ≡ map (λ (t : HwType). Some t) ts
    → (r : Ref) → In r rs → IsThere ports os r
typed_there ports os [] ts same r here = absurd here
typed_there ports os (y ∷ rs) [] same r here = cc
typed_there ports os (y ∷ rs) (t ∷ ts) same r (inl is) = let first : type_in ports os y ≡ Some t = cc in (t, ap (type_in ports os) is ∙ first)
typed_there ports os (y ∷ rs) (t ∷ ts) same r (inr here) =
    typed_there ports os rs ts (let rest : map (type_in ports os) rs ≡ map (λ (u : HwType). Some u) ts = cc in rest) r here

-- ---- a flat module

module _ (d : Design) (top : Name) (m : Module) (plain : IsPlain d top m) where
  pub plain_sound : Sound d
  plain_sound = sound_design d (no_fault d plain.accepted)

  pub plain_body : SoundBody d m.ports m.body
  plain_body = plain_sound top m plain.found

  pub plain_heights : HasHeights d top
  plain_heights = heights_from_no_cycle d top (accepted_finite d plain.accepted) (accepted_acyclic d plain.accepted top)

  module _ (j : ℕ) (o : Op) (at : slice_get m.body j ≡ Some o) where
    pub plain_no_instance : instance_in o.kind ≡ None
    plain_no_instance = none_before m.body plain.alone j o at

    unrefused : IsUnrefused d m.ports m.body o
    unrefused = ops_unrefused d m.ports m.body m.body (module_unrefused d (no_fault d plain.accepted) top m plain.found).body j o at

    causes : NoOpCause d m.ports m.body unrefused.last o
    causes = no_op_cause d m.ports m.body unrefused.last o unrefused.none

    pub plain_no_cause : NoCauseAlone m.ports m.body o
    plain_no_cause = no_cause_alone m.ports m.body o causes.alone

    pub plain_operand_there : (r : Ref) → In r o.operands → IsThere m.ports m.body r
    plain_operand_there = defined_there m.ports m.body o.operands causes.defined

    -- an asynchronous reset is an input, resets to a constant
    pub plain_reset_known : has_other_reset m.ports m.body (async_reset_in o) ≡ false
    plain_reset_known = causes.reset

  -- the types of values have no parts
  pub plain_scalar : (rs : List Ref) → AreScalar (map (type_in m.ports m.body) rs)
  plain_scalar [] t here = absurd here
  plain_scalar (r ∷ rs) t (inl same) = value_scalar m plain.scalar r t (sym same)
  plain_scalar (r ∷ rs) t (inr here) = plain_scalar rs t here

-- ---- a flat module

module _ (d : Design) (top : Name) (m : Module) (order : List ℕ) (flat : IsFlat d top m order) where
  pub flat_sound : Sound d
  flat_sound = plain_sound d top m flat.plain

  pub flat_body : SoundBody d m.ports m.body
  flat_body = plain_body d top m flat.plain

  pub flat_heights : HasHeights d top
  flat_heights = plain_heights d top m flat.plain

  pub no_callee : (s : Name) → In s (callee_symbols m.body) → ⊥
  no_callee = none_called m.body flat.plain.alone

  module _ (j : ℕ) (o : Op) (at : slice_get m.body j ≡ Some o) where
    pub no_instance : instance_in o.kind ≡ None
    no_instance = plain_no_instance d top m flat.plain j o at

    pub no_own_cause : NoCauseAlone m.ports m.body o
    no_own_cause = plain_no_cause d top m flat.plain j o at

    pub operand_there : (r : Ref) → In r o.operands → IsThere m.ports m.body r
    operand_there = plain_operand_there d top m flat.plain j o at

    pub reset_known : has_other_reset m.ports m.body (async_reset_in o) ≡ false
    reset_known = plain_reset_known d top m flat.plain j o at

  pub output_there : (r : Ref) → In r (output_refs m.body) → IsThere m.ports m.body r
  output_there = typed_there m.ports m.body (output_refs m.body) (output_types m.ports) flat_body.outputs

  pub values_scalar : (rs : List Ref) → AreScalar (map (type_in m.ports m.body) rs)
  values_scalar = plain_scalar d top m flat.plain
