-- A module that nothing instances goes: the design stays valid, and the other modules do what they did.
use Rattle.std.proofs.Common.{◌≡◌, ℕ, zero, suc, Bool, true, false, cond, [], ◌∷◌, remove, slice_get, Some, None, refl, sym, ap, subst, ◌∙◌}
use Rattle.std.specs.Cmp.Lexicographic.{same_text, other_text}
use mathlib.Core.Path.{fun_ext}
use Rattle.wiring.specs.Wiring.{In, HasHeights as HaveHeights}
use Rattle.wiring.proofs.Members.{In-slice_get}
use Rattle.hw_model.specs.Types.{Name}
use Rattle.hw_model.specs.Design.{Module, Design, same_name, find_module}
use Rattle.hw_model.specs.Machine.{Same}
use Rattle.hw_model.specs.Meaning.{needs_of, HasHeights, machine}
use Rattle.hw_model.specs.Hierarchy.{callee_symbols, calls, IsWithout}
use Rattle.hw_model.specs.Sound.{body_of, SoundBody, Sound}
use Rattle.hw_model.proofs.Gone.{called_In, finite_without, heights_without_module, source_same, gone_same}
use Rattle.edit_laws.specs.Follows.{Valid}

module _ (d e : Design) (gone : Name) (without : IsWithout d e gone) (valid : Valid d) where
  sound_without : Sound e
  sound_without s m is = go (same_name s gone) refl
    where
      go : (b : Bool) → same_name s gone ≡ b → SoundBody e m.ports m.body
      go true same = let clash : Some m ≡ None = sym is ∙ ap (find_module e) (same_text s gone (sym same)) ∙ without.absent in cc
      go false other =
          let was : find_module d s ≡ Some m = sym (without.others s (other_text s gone (sym other))) ∙ is in
          let sound : SoundBody d m.ports m.body = valid.sound s m was in
          record {
            ops = sound.ops;
            instances = λ j o there i inst.
                let fits = sound.instances j o there i inst in
                let stays : i.symbol ≡ gone → ⊥ = λ same. without.unused s
                (subst (λ t. In t (calls d s)) same (subst (λ x. In i.symbol (callee_symbols (body_of x))) (sym was) (called_In m.body o i (In-slice_get o m.body j there) inst))) in
                (fits.0, without.others i.symbol stays ∙ fits.1, fits.2, fits.3);
            outputs = sound.outputs;
          }

  heights_without : (top : Name) → HasHeights e top
  heights_without top = go (same_name top gone) refl
    where
      go : (b : Bool) → same_name top gone ≡ b → HasHeights e top
      go true same = heights_without_module e top (ap (find_module e) (same_text top gone (sym same)) ∙ without.absent)
      go false other =
          subst (λ f. HaveHeights f) (fun_ext (λ a. ap needs_of (sym (source_same d e gone without valid.finite top (other_text top gone (sym other)) a)))) (valid.heights top)

  pub gone_valid : Valid e
  gone_valid = record { sound = sound_without; finite = finite_without d e gone without valid.finite; heights = heights_without }

pub remove_module_preserves : (d e : Design) (gone : Name) → IsWithout d e gone → Valid d → (top : Name) → (top ≡ gone → ⊥) → Same (machine d top) (machine e top)
remove_module_preserves d e gone without valid top other = gone_same d e gone without valid.finite top other (valid.heights top)

-- a module taken out of the list of modules
pub removed_others : (d : Design) (m : ℕ) (md : Module) → slice_get d m ≡ Some md → (s : Name) → (s ≡ md.symbol → ⊥) → find_module (remove d m) s ≡ find_module d s
removed_others [] m md is s other = cc
removed_others (x ∷ d) zero md is s other = go (same_name x.symbol s) refl
  where
    go : (b : Bool) → same_name x.symbol s ≡ b → find_module d s ≡ cond b (Some x) (find_module d s)
    go true same =
        let first : x ≡ md = cc in
        absurd (other (sym (same_text x.symbol s (sym same)) ∙ ap (λ (y : Module). y.symbol) first))
    go false differs = refl
removed_others (x ∷ d) (suc m) md is s other = ap (λ o. cond (same_name x.symbol s) (Some x) o) (removed_others d m md is s other)
