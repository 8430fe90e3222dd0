-- The steps of which a miter with registers speaks are the steps by the levels of asynchronous resets.
use Rattle.std.proofs.Common.{◌≡◌, refl, sym, ap, ap₂, subst, ◌∙◌, List, [], ◌∷◌, ◌++◌, ℕ, drop, Option, Some, None}
use Rattle.bits_core.specs.Word.{Word, first}
use Rattle.hw_model.specs.Types.{Name}
use Rattle.hw_model.specs.Design.{Ref, Design}
use Rattle.hw_model.specs.Flat.{Net, net, Slot, ResetBy, async_reset_in, held_width, registers}
use Rattle.hw_model.specs.Meaning.{Settled, outputs, reset, map_slots, next_content}
use Rattle.hw_model.specs.Resets.{level_value, level_in}
use Rattle.hw_model.specs.Agreement.{levelled, LevelStep}
use Rattle.net_gates.specs.RegisterMiters.{loaded_in, loaded, Step, next_of}
use Rattle.flat_module_laws.specs.Sides.{side_of}

reset_is_level : (r : Option ResetBy) (τ : Ref → Word) (old : Word) → reset r τ old ≡ level_value r τ old
reset_is_level None τ old = refl
reset_is_level (Some r) τ old = refl

-- the content that the resets leave is the same in both
slots_levelled : (ρ : Net → Word) (ss : List Slot) (q : Word) → map_slots (loaded_in ρ) ss q ≡ map_slots (level_in ρ) ss q
slots_levelled ρ [] q = refl
slots_levelled ρ (s ∷ ss) q =
    ap₂ (λ x y. first (held_width s.op) x ++ y)
    (reset_is_level (async_reset_in s.op) (λ r. ρ (net s.path r)) (first (held_width s.op) q))
    (slots_levelled ρ ss (drop (held_width s.op) q))

module _ (c : Design) (s : Name) (order : List ℕ) (x q : Word) where
  pub loaded_levelled : (ρ : Net → Word) → loaded c s ρ q ≡ levelled c s ρ q
  loaded_levelled ρ = slots_levelled ρ (registers c s) q

  pub level_of : (step : Step (side_of c s order) x q) → LevelStep c s x q (outputs c s step.after) (next_of (side_of c s order) x q step)
  level_of step = record {
    first_map = step.before;
    map_of = step.after;
    settled_first = step.before_settled;
    settled = subst (λ k. Settled c s x k step.after) (loaded_levelled step.before) step.after_settled;
    read = refl;
    taken = ap (next_content (registers c s) step.after) (loaded_levelled step.before);
  }

  module _ (given after : Word) (level : LevelStep c s x q given after) where
    abbrev pub step_of_level : Step (side_of c s order) x q
    step_of_level = record {
      before = level.first_map;
      before_settled = level.settled_first;
      after = level.map_of;
      after_settled = subst (λ k. Settled c s x k level.map_of) (sym (loaded_levelled level.first_map)) level.settled;
    }

    pub level_next : after ≡ next_of (side_of c s order) x q step_of_level
    level_next = level.taken ∙ sym (ap (next_content (registers c s) level.map_of) (loaded_levelled level.first_map))
