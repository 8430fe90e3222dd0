-- A design with the leaves of a valid one's values follows from it.
use Rattle.std.proofs.Common.{◌≡◌, ℕ, [], length, map, sym, ap, subst, ◌∙◌}
use mathlib.Core.Path.{fun_ext}
use Rattle.wiring.specs.Wiring.{IsAcyclic}
use Rattle.bits_core.specs.Word.{Word}
use Rattle.hw_model.specs.Types.{Name}
use Rattle.hw_model.specs.Value.{concat_words}
use Rattle.hw_model.specs.Design.{Ref, Design, find_module, output_refs}
use Rattle.hw_model.specs.Flat.{Path, Net, net, module_at, source}
use Rattle.hw_model.specs.Hierarchy.{calls}
use Rattle.hw_model.specs.Meaning.{outputs, machine}
use Rattle.hw_model.specs.Sound.{HasWidth, body_of, ports_of, type_in}
use Rattle.hw_model.proofs.Machines.{same_back}
use Rattle.hw_model.proofs.NetWidths.{net_widths}
use Rattle.hw_model.proofs.Paths.{outputs_body}
use Rattle.edit_laws.specs.Follows.{Valid, Follows}
use Rattle.edit_laws.proofs.Edited.{holds_at}
use Rattle.edit_laws.proofs.Follows.{valid_settles}
use Rattle.edit_laws.proofs.OtherOperands.{reads}
use Rattle.aggregate_laws.specs.Lowered.{LoweredWell}
use Rattle.aggregate_laws.proofs.Words.{whole_flat_map}
use Rattle.aggregate_laws.proofs.Anchors.{called_follow, output_refs_follow}
use Rattle.aggregate_laws.proofs.Paths.{low, parts_at, state_same}
use Rattle.aggregate_laws.proofs.Nets.{back, back_settled}
use Rattle.aggregate_laws.proofs.Registers.{next_same, rising_same}
use Rattle.aggregate_laws.proofs.Types.{sound_after}
use Rattle.aggregate_laws.proofs.Heights.{heights_after}

module _ (scale : ℕ) (d d' : Design) (same : length d' ≡ length d) (each : (s : Name) → LoweredWell scale (find_module d s) (find_module d' s)) where
  -- each module instances what it did
  calls_same : (s : Name) → calls d' s ≡ calls d s
  calls_same s = called_follow (body_of (find_module d s)) (body_of (find_module d' s)) (each s).lowered.parts (each s).lowered.anchors_are

  valid_after : Valid d → Valid d'
  valid_after valid = record {
    sound = sound_after scale d d' each valid.sound;
    finite = subst (λ f. IsAcyclic f) (sym (fun_ext calls_same)) valid.finite;
    heights = λ top. heights_after scale d d' each same valid.sound top (valid.heights top);
  }

  outputs_same : (top : Name) (ρ : Net → Word) → outputs d' top ρ ≡ outputs d top (back scale d d' each same top ρ)
  outputs_same top ρ =
      ap concat_words (ap (map (λ r. ρ (net [] r))) (outputs_body (find_module d' top)
      ∙ output_refs_follow (body_of (find_module d top)) (body_of (find_module d' top)) (parts_at scale d d' each top []) (low scale d d' each top []).anchors_are))
      ∙ whole_flat_map (parts_at scale d d' each top []) (λ r. ρ (net [] r)) (output_refs (body_of (find_module d top)))
      ∙ ap (λ rs. concat_words (map (λ r. back scale d d' each same top ρ (net [] r)) rs)) (sym (outputs_body (find_module d top)))

  pub follows_lowered : Valid d → Follows d d'
  follows_lowered valid = record {
    valid = valid';
    same = λ top.
        same_back (machine d top) (machine d' top) (back scale d d' each same top) (ap (λ f. f top) (sym (state_same scale d d' each same)))
        (valid_settles d valid top) (valid_settles d' valid' top)
        (record {
          settled = λ inputs content ρ settled.
              back_settled scale d d' each same top valid.sound inputs content ρ settled
              (λ p j o k t is plain typed. (low scale d d' each top p).words (λ r. ρ (net p r)) (holds_at d' top inputs content ρ settled p) (wide top inputs content ρ settled p) j o k t is plain typed);
          outputs = λ inputs content ρ settled. sym (outputs_same top ρ);
          next = λ inputs content ρ settled. sym (next_same scale d d' each same top valid.sound ρ (wide top inputs content ρ settled) content);
          rising = λ before inputs content ρ σ settled settled'. sym (rising_same scale d d' each same top valid.sound σ (wide top inputs content σ settled') ρ content);
        });
  }
    where
      valid' : Valid d'
      valid' = valid_after valid

      wide : (top : Name) (inputs content : Word) (ρ : Net → Word) → ((a : Net) → ρ a ≡ reads inputs content ρ (source d' top a))
          → (p : Path) (r : Ref) → HasWidth (type_in (ports_of (module_at d' top p)) (body_of (module_at d' top p)) r) (ρ (net p r))
      wide top inputs content ρ settled p r = net_widths d' top valid'.sound inputs content ρ (valid'.heights top) settled (net p r)
