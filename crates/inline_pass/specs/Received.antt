-- Bodies that were received, by the numbers of their modules.
use Rattle.std.specs.Prelude.{◌≡◌, ℕ, ◌<◌, cond, List, map, Option, Some, None, slice_get, slice_index_or, option_map, nat_eq, option_and_then}
use Rattle.std.specs.HashMap.{get, HashMap}
use Rattle.std.specs.Arc.{arc_value}
use Rattle.std.specs.declared.sync.Arc.{Arc}
use Rattle.hw_model.specs.Types.{Name}
use Rattle.hw_model.specs.Design.{Module}
use Rattle.ir_store.specs.declared.body.Body.{Body}
use Rattle.ir_store.specs.BodyOps.{BodyOp}
use Rattle.ir_store.specs.Bodies.{ops_of}
use Rattle.ir_store.specs.Symbols.{symbol_position}
use Rattle.ir_store.specs.Designs.{StoredModule, numbered_module}
use Rattle.inline_pass.specs.Flattening.{if_private}

module _ {Z : Type 0} where
  -- the operations of a body that has owners
  abbrev pub ops_in : Arc Body Z → List BodyOp
  ops_in body = ops_of (arc_value body)

  -- the operations that are held under a number
  abbrev pub held : {S : Type 0} → HashMap ℕ (Arc Body Z) S → ℕ → Option (List BodyOp)
  held bodies q = option_map ops_in (get nat_eq bodies q)

  -- with those of one more body, if there is one
  abbrev pub held_with : ℕ → Option (Arc Body Z) → (ℕ → Option (List BodyOp)) → ℕ → Option (List BodyOp)
  held_with number None before q = before q
  held_with number (Some body) before q = cond (nat_eq number q) (Some (ops_in body)) (before q)

  -- what is held is what was received for the first so many numbers
  pub record AreHeld (numbers : List ℕ) (received : List (Option (Arc Body Z))) (count : ℕ) (have : ℕ → Option (List BodyOp)) : Type 0 where
    pub from : (q : ℕ) (ops : List BodyOp) → have q ≡ Some ops
        → (i : ℕ) × (body : Arc Body Z) × (i < count) × (slice_index_or numbers i 0 ≡ q) × (slice_get received i ≡ Some (Some body)) × (ops_in body ≡ ops)
    pub all : (i : ℕ) (body : Arc Body Z) → i < count → slice_get received i ≡ Some (Some body) → (ops : List BodyOp) × (have (slice_index_or numbers i 0) ≡ Some ops)

-- the module of a symbol, with the operations that are held for it, if it is private
abbrev pub received_look : List StoredModule → (ℕ → Option (List BodyOp)) → Name → Option Module
received_look headers have s =
    option_and_then (λ q. option_and_then (λ ops. option_and_then (λ (m : StoredModule). if_private (numbered_module (record m { ops = ops }))) (slice_get headers q)) (have q)) (symbol_position s (map (λ (m : StoredModule). m.symbol) headers))
