-- Edits of modules that keep a design valid and what its modules do.
use Rattle.std.proofs.Common.{◌≡◌, ◌⊎◌, ℕ, zero, suc, ◌≤◌, Bool, true, false, cond, [], ◌∷◌, length, set, slice_get, Option, Some, None, refl, sym, ap, subst, inl, inr, arith, length-set}
use mathlib.Core.Path.{subst₂, fun_ext}
use Rattle.wiring.specs.Wiring.{IsAcyclic}
use Rattle.wiring.proofs.Heights.{settles}
use Rattle.hw_model.specs.Types.{Name}
use Rattle.hw_model.specs.Design.{Module, Design, find_module, same_name}
use Rattle.hw_model.specs.Design.Ref.{result}
use Rattle.hw_model.specs.Flat.{Path, Net, net, module_at, state}
use Rattle.hw_model.specs.Hierarchy.{calls}
use Rattle.hw_model.specs.Meaning.{needs, value, machine}
use Rattle.hw_model.specs.Sound.{body_of}
use Rattle.hw_model.proofs.Machines.{AlwaysSettles, same_back, same_self, same_then}
use Rattle.hw_model.proofs.NetWidths.{net_widths}
use Rattle.edit_laws.specs.Edit.{EditedModule}
use Rattle.edit_laws.specs.Follows.{ValidEdit, SameEdit, Valid, Follows}
use Rattle.edit_laws.proofs.Anchors.{called_follow}
use Rattle.edit_laws.proofs.Edited.{holds_at, at, standing, state_same, next_same, rising_same, outputs_same, back_settled}
use Rattle.edit_laws.proofs.OtherOperands.{no_edit}
use Rattle.edit_laws.proofs.Heights.{heights_after}
use Rattle.edit_laws.proofs.Types.{sound_after}

-- ---- nothing changed

pub no_valid_edit : (o : Option Module) → ValidEdit o o
unfolding no_edit
no_valid_edit o = record {
  edited = record { is_there = refl; ports_are = refl; edit = no_edit (body_of o) };
  falls = record {
    lift = λ h. h;
    stand_is = λ h local r. omega arith;
    port_is = λ h local j. omega arith;
    home = λ j. Some j;
    home_is = λ j' j is. sym is;
    kept_is = λ h local j' j k is. let same : j' ≡ j = cc in subst (λ z. h (result z k) ≤ h (result j' k)) same (omega arith);
    fresh_is = λ j' o is. cc;
    fresh_falls = λ h local j' k o t is. cc;
  };
  types = record { named = λ j o r is here. refl; fresh = λ j' o is. cc };
}

pub no_same_edit : (o : Option Module) → SameEdit o o
unfolding no_edit no_valid_edit
no_same_edit o = record { valid = no_valid_edit o; words = λ τ holds wide j k is. cc }

-- ---- designs

-- the machine of a module of a valid design settles once
pub valid_settles : (d : Design) → Valid d → (top : Name) → AlwaysSettles (machine d top)
valid_settles d valid top inputs content = settles (needs d top) (value d top inputs content) (valid.heights top)

-- each module instances what it did
pub calls_same : (d d' : Design) → ((s : Name) → ValidEdit (find_module d s) (find_module d' s)) → (s : Name) → calls d' s ≡ calls d s
calls_same d d' each s =
    called_follow (body_of (find_module d s)) (body_of (find_module d' s)) (each s).edited.edit.stand (each s).edited.edit.anchors_are

pub valid_after : (d d' : Design) → length d' ≡ length d → ((s : Name) → ValidEdit (find_module d s) (find_module d' s)) → Valid d → Valid d'
valid_after d d' same each valid = record {
  sound = sound_after d d' each valid.sound;
  finite = subst (λ f. IsAcyclic f) (sym (fun_ext (calls_same d d' each))) valid.finite;
  heights = λ top. heights_after d d' ValidEdit (λ o o' x. x.edited) (λ o o' x. x.falls) (no_valid_edit None) each same top (valid.heights top);
}

pub follows_each : (d d' : Design) → length d' ≡ length d → ((s : Name) → SameEdit (find_module d s) (find_module d' s)) → Valid d → Follows d d'
follows_each d d' same each valid = record {
  valid = valid';
  same = λ top.
      same_back (machine d top) (machine d' top) (λ ρ a. ρ (standing_at top a)) (ap (λ f. f top) (sym states)) (valid_settles d valid top) (valid_settles d' valid' top)
      (record {
        settled = λ inputs content ρ settled.
            back_settled d d' SameEdit edited (no_same_edit None) each top same inputs content ρ settled
            (λ p j k gone. (found top p).words (λ r. ρ (net p r)) (holds_at d' top inputs content ρ settled p)
            (λ r. net_widths d' top valid'.sound inputs content ρ (valid'.heights top) settled (net p r)) j k gone);
        outputs = λ inputs content ρ settled. sym (outputs_same d d' SameEdit edited (no_same_edit None) each top ρ);
        next = λ inputs content ρ settled. sym (next_same d d' SameEdit edited (no_same_edit None) each top same ρ content);
        rising = λ before inputs content ρ σ settled settled'. sym (rising_same d d' SameEdit edited (no_same_edit None) each top same ρ σ content);
      });
}
  where
    edited : (o o' : Option Module) → SameEdit o o' → EditedModule o o'
    edited o o' x = x.valid.edited

    valid' : Valid d'
    valid' = valid_after d d' same (λ s. (each s).valid) valid

    states : state d' ≡ state d
    states = state_same d d' SameEdit edited (no_same_edit None) each same

    standing_at : (top : Name) → Net → Net
    standing_at top = standing d d' SameEdit edited (no_same_edit None) each top

    found : (top : Name) (p : Path) → SameEdit (module_at d top p) (module_at d' top p)
    found top p = at d d' SameEdit edited (no_same_edit None) each top p

-- one after another
pub follows_then : (d e f : Design) → Follows d e → Follows e f → Follows d f
follows_then d e f first second = record {
  valid = second.valid;
  same = λ top. same_then (machine d top) (machine e top) (machine f top) (first.same top) (second.same top);
}

-- a valid design follows from itself
pub follows_self : (d : Design) → Valid d → Follows d d
follows_self d valid = record { valid = valid; same = λ top. same_self (machine d top) (valid_settles d valid top) }

-- ---- one module of a design

-- a module of a symbol is the one that was written, or is as before
set_cases : (d : Design) (m : ℕ) (old new : Module) → slice_get d m ≡ Some old → new.symbol ≡ old.symbol → (s : Name)
    → ((find_module d s ≡ Some old) × (find_module (set d m new) s ≡ Some new)) ⊎ (find_module (set d m new) s ≡ find_module d s)
set_cases [] m old new is named s = cc
set_cases (x ∷ d) zero old new is named s =
    let same : x ≡ old = cc in
    subst (λ z. ((find_module (z ∷ d) s ≡ Some old) × (find_module (new ∷ d) s ≡ Some new)) ⊎ (find_module (new ∷ d) s ≡ find_module (z ∷ d) s)) (sym same)
    (subst (λ n. ((cond (same_name old.symbol s) (Some old) (find_module d s) ≡ Some old) × (cond (same_name n s) (Some new) (find_module d s) ≡ Some new))
    ⊎ (cond (same_name n s) (Some new) (find_module d s) ≡ cond (same_name old.symbol s) (Some old) (find_module d s))) (sym named)
    (go (same_name old.symbol s)))
  where
    go : (b : Bool) → ((cond b (Some old) (find_module d s) ≡ Some old) × (cond b (Some new) (find_module d s) ≡ Some new))
        ⊎ (cond b (Some new) (find_module d s) ≡ cond b (Some old) (find_module d s))
    go true = inl (refl, refl)
    go false = inr refl
set_cases (x ∷ d) (suc m) old new is named s = go (same_name x.symbol s) (set_cases d m old new is named s)
  where
    go : (b : Bool) → ((find_module d s ≡ Some old) × (find_module (set d m new) s ≡ Some new)) ⊎ (find_module (set d m new) s ≡ find_module d s)
        → ((cond b (Some x) (find_module d s) ≡ Some old) × (cond b (Some x) (find_module (set d m new) s) ≡ Some new))
        ⊎ (cond b (Some x) (find_module (set d m new) s) ≡ cond b (Some x) (find_module d s))
    go true rest = inr refl
    go false rest = rest

-- what holds of each module and itself, and of the two that differ, holds of all
pub set_each : (F : Option Module → Option Module → Type 0) → ((o : Option Module) → F o o)
    → (d : Design) (m : ℕ) (old new : Module) → slice_get d m ≡ Some old → new.symbol ≡ old.symbol → F (Some old) (Some new)
    → (s : Name) → F (find_module d s) (find_module (set d m new) s)
set_each F same d m old new is named changed s = go (set_cases d m old new is named s)
  where
    go : ((find_module d s ≡ Some old) × (find_module (set d m new) s ≡ Some new)) ⊎ (find_module (set d m new) s ≡ find_module d s)
        → F (find_module d s) (find_module (set d m new) s)
    go (inl (old_is, new_is)) = subst₂ F (sym old_is) (sym new_is) changed
    go (inr stays) = subst (F (find_module d s)) (sym stays) (same (find_module d s))

pub valid_set : (d : Design) (m : ℕ) (old new : Module) → slice_get d m ≡ Some old → new.symbol ≡ old.symbol → ValidEdit (Some old) (Some new)
    → Valid d → Valid (set d m new)
valid_set d m old new is named changed =
    valid_after d (set d m new) (length-set d m new) (set_each ValidEdit no_valid_edit d m old new is named changed)

pub follows_set : (d : Design) (m : ℕ) (old new : Module) → slice_get d m ≡ Some old → new.symbol ≡ old.symbol → SameEdit (Some old) (Some new)
    → Valid d → Follows d (set d m new)
follows_set d m old new is named changed =
    follows_each d (set d m new) (length-set d m new) (set_each SameEdit no_same_edit d m old new is named changed)
