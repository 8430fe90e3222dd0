-- Which modules of a design are private decides nothing of whether it is accepted and can be printed, and of what its modules do.
use Rattle.std.proofs.Common.{◌≡◌, ◌≤◌, ℕ, suc, Bool, true, false, cond, [], ◌∷◌, length, map, Option, Some, None, refl, sym, ap, subst, ◌∙◌, arith, option_map}
use Rattle.std.proofs.lemmas.List.{length-map}
use Rattle.wiring.proofs.Lists.{map-map}
use Rattle.hw_model.specs.Types.{Name}
use Rattle.hw_model.specs.Design.{Module, Design, same_name, find_module, result_type}
use Rattle.hw_model.specs.Flat.{Slot, module_registers}
use Rattle.hw_model.specs.Sound.{body_of}
use Rattle.hw_model.specs.Weight.{weight_of, weight}
use Rattle.hw_model.proofs.Weights.{weight_not_raised}
use Rattle.op_verifier.specs.Verdict.{IsAccepted}
use Rattle.printing_laws.specs.Printable.{Printable}
use Rattle.edit_laws.specs.Follows.{SameEdit, Follows}
use Rattle.edit_laws.proofs.Follows.{no_same_edit, follows_each}
use Rattle.acceptance_laws.specs.Keeps.{IsFit, KeepsModules}
use Rattle.acceptance_laws.proofs.Accepted.{accepted_fit}
use Rattle.acceptance_laws.proofs.Edited.{kept_self, fit_modules}
use Rattle.acceptance_laws.proofs.NameCounts.{accepted_again}
use Rattle.pass_laws.specs.PassLaw.{register_types}
use Rattle.pass_laws.specs.Remaining.{symbols}
use Rattle.pass_laws.specs.Steady.{SameShape}
use Rattle.pass_laws.proofs.Shapes.{types_held, held_same}
use Rattle.miter_blast.specs.FlatCopy.{with_marks}

module _ (is_marked : Module → Bool) where
  abbrev pub marked : Module → Module
  marked m = record m { is_private = is_marked m }

  pub find_marked : (d : Design) (s : Name) → find_module (with_marks is_marked d) s ≡ option_map marked (find_module d s)
  find_marked [] s = refl
  find_marked (m ∷ d) s = go (same_name m.symbol s) (find_marked d s)
    where
      go : (b : Bool) → find_module (with_marks is_marked d) s ≡ option_map marked (find_module d s)
          → cond b (Some (marked m)) (find_module (with_marks is_marked d) s) ≡ option_map marked (cond b (Some m) (find_module d s))
      go true rest = refl
      go false rest = rest

  pub symbols_marked : (d : Design) → symbols (with_marks is_marked d) ≡ symbols d
  symbols_marked d = map-map (λ (m : Module). m.symbol) marked d

  -- ---- edits that change nothing but marks

  edit_marked : (o : Option Module) → SameEdit o (option_map marked o)
  edit_marked None = no_same_edit None
  edit_marked (Some m) =
      let same = no_same_edit (Some m) in
      record {
        valid = record {
          edited = record { is_there = refl; ports_are = refl; edit = same.valid.edited.edit };
          falls = same.valid.falls;
          types = same.valid.types;
        };
        words = same.words;
      }

  modules_kept : (d : Design) → KeepsModules d (with_marks is_marked d)
  modules_kept [] = tt
  modules_kept (m ∷ d) = (record { symbol_is = refl; ports_are = refl; dictionary_is = refl; body = (kept_self m).body }, modules_kept d)

  module _ (d : Design) where
    pub marked_follows : IsFit d → Follows d (with_marks is_marked d)
    marked_follows fit =
        follows_each d (with_marks is_marked d) (length-map d marked) (λ s. subst (SameEdit (find_module d s)) (sym (find_marked d s)) (edit_marked (find_module d s))) fit.valid

    pub marked_lighter : (s : Name) → weight (with_marks is_marked d) s ≤ weight d s
    marked_lighter =
        weight_not_raised d (with_marks is_marked d) (length-map d marked)
        (λ s inner. subst (λ o. weight_of inner o ≤ weight_of inner (find_module d s)) (sym (find_marked d s)) (same_weight inner (find_module d s)))
      where
        same_weight : (inner : Name → ℕ) (o : Option Module) → weight_of inner (option_map marked o) ≤ weight_of inner o
        same_weight inner None = omega arith
        same_weight inner (Some m) = omega arith

    pub marked_accepted : IsAccepted d → Printable d → IsAccepted (with_marks is_marked d) × Printable (with_marks is_marked d)
    marked_accepted accepted printable =
        let fit : IsFit d = accepted_fit d accepted printable in
        accepted_again (with_marks is_marked d) (fit_modules d (with_marks is_marked d) fit (modules_kept d) (marked_follows fit).valid) d accepted marked_lighter

    -- modules hold the same registers
    pub marked_registers : (s : Name) → register_types (with_marks is_marked d) s ≡ register_types d s
    marked_registers s =
        types_held (suc (length (with_marks is_marked d))) (with_marks is_marked d) [] s
        ∙ held_same d (with_marks is_marked d) shapes (suc (length (with_marks is_marked d))) s
        ∙ sym (types_held (suc (length (with_marks is_marked d))) d [] s)
        ∙ ap (λ n. map (λ (r : Slot). result_type r.op 0) (module_registers (suc n) d [] s)) (length-map d marked)
      where
        own_shape : (o : Option Module) → SameShape (body_of o) (body_of (option_map marked o))
        own_shape None = record { held = λ inner. refl; called = refl }
        own_shape (Some m) = record { held = λ inner. refl; called = refl }

        shapes : (t : Name) → SameShape (body_of (find_module d t)) (body_of (find_module (with_marks is_marked d) t))
        shapes t = subst (λ o. SameShape (body_of (find_module d t)) (body_of o)) (sym (find_marked d t)) (own_shape (find_module d t))
