-- The module of a symbol by its number.
use Rattle.std.proofs.Common.{◌≡◌, ℕ, suc, Bool, true, false, cond, [], ◌∷◌, map, slice_get, Option, Some, None, option_map, refl, ap, ◌∙◌, option_and_then}
use Rattle.wiring.proofs.Options.{and_then_some}
use Rattle.hw_model.specs.Types.{Name}
use Rattle.hw_model.specs.Design.{Module, Design, same_name, find_module}
use Rattle.ir_store.specs.Symbols.{symbol_position}
use Rattle.ir_store.proofs.DesignLemmas.{same_name_back}

pub module_position : (q : Name) (d : Design) → option_and_then (slice_get d) (symbol_position q (map (λ (m : Module). m.symbol) d)) ≡ find_module d q
module_position q [] = refl
module_position q (m ∷ d) =
    go (same_name q m.symbol) (module_position q d) ∙ ap (λ b. cond b (Some m) (find_module d q)) (same_name_back q m.symbol)
  where
    following : (p : Option ℕ) → option_and_then (slice_get (m ∷ d)) (option_map suc p) ≡ option_and_then (slice_get d) p
    following None = refl
    following (Some n) = refl

    go : (b : Bool) → option_and_then (slice_get d) (symbol_position q (map (λ (m : Module). m.symbol) d)) ≡ find_module d q
        → option_and_then (slice_get (m ∷ d)) (cond b (Some 0) (option_map suc (symbol_position q (map (λ (m : Module). m.symbol) d)))) ≡ cond b (Some m) (find_module d q)
    go true rest = refl
    go false rest = following (symbol_position q (map (λ (m : Module). m.symbol) d)) ∙ rest

-- a module that is found has a number
pub found_position : (d : Design) (q : Name) (m : Module) → find_module d q ≡ Some m
    → (i : ℕ) × (symbol_position q (map (λ (x : Module). x.symbol) d) ≡ Some i) × (slice_get d i ≡ Some m)
found_position d q m is = and_then_some (symbol_position q (map (λ (x : Module). x.symbol) d)) (slice_get d) (module_position q d ∙ is)
