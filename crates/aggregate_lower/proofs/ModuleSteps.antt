-- What is made of the modules of a design, one after another.
use Rattle.std.proofs.Common.{◌≡◌, ℕ, suc, ◌+◌, List, [], ◌∷◌, ◌++◌, map, take, Some, slice_get, sym, ap, ap₂, ◌∙◌, arith, option_map}
use Rattle.std.proofs.lemmas.List.{map-append}
use Rattle.std.proofs.lemmas.Option.{slice_get-map}
use Rattle.wiring.specs.Wiring.{In}
use Rattle.wiring.proofs.Lists.{take-suc_some}
use Rattle.wiring.proofs.Members.{In-slice_get}
use Rattle.hw_model.specs.Design.{Module}
use Rattle.ir_store.specs.Designs.{StoredModule, numbered_module}

module _ (ms : List StoredModule) (n : ℕ) (m : StoredModule) (at : Some m ≡ slice_get ms n) where
  module_at : slice_get (map numbered_module ms) n ≡ Some (numbered_module m)
  module_at = slice_get-map numbered_module ms n ∙ ap (option_map numbered_module) (sym at)

  pub module_there : In (numbered_module m) (map numbered_module ms)
  module_there = In-slice_get (numbered_module m) (map numbered_module ms) n module_at

  -- one more
  pub one_more : {B : Type 0} (f : Module → B) (done new : List B) (x : B) → new ≡ done ++ x ∷ [] → x ≡ f (numbered_module m) → done ≡ map f (take n (map numbered_module ms))
      → new ≡ map f (take (n + 1) (map numbered_module ms))
  one_more f done new x new_is is so_far =
      let next : suc n ≡ n + 1 = omega arith in
      new_is ∙ ap₂ (λ ds y. ds ++ y ∷ []) so_far is
      ∙ sym (map-append f (take n (map numbered_module ms)) (numbered_module m ∷ []))
      ∙ ap (map f) (sym (take-suc_some (map numbered_module ms) n (numbered_module m) module_at))
      ∙ ap (λ k. map f (take k (map numbered_module ms))) next
