-- What an edit of a body keeps of its other operations (MLIR documentation, "Pattern Rewriting").
use Rattle.std.specs.Prelude.{◌≡◌, ℕ, ◌+◌, ◌≤◌, List, slice_get, option_map}
use Rattle.hw_model.specs.Design.{Ref, Op}
use Rattle.hw_model.specs.Design.Ref.{port, result, undefined}
use Rattle.edit_laws.specs.Edit.{retarget}
use Rattle.fold_laws.specs.Nested.{use_count}

-- all operations of a body but those at some positions stand in another body, each at a position of its own and with the names
-- there of its operands; the results of each have at least as many uses there, but for what is lost beyond what is gained
pub record Keeps (gone : ℕ → Type 0) (name : Ref → Ref) (position : ℕ → ℕ) (lost gained : ℕ → ℕ) (os os' : List Op) : Type 0 where
  pub ops : (j : ℕ) → (gone j → ⊥) → slice_get os' (position j) ≡ option_map (retarget name) (slice_get os j)
  pub ports : (n : ℕ) → name (port n) ≡ port n
  pub nothing : name undefined ≡ undefined
  pub results : (j k : ℕ) → (gone j → ⊥) → name (result j k) ≡ result (position j) k
  pub apart : (j k : ℕ) → (gone j → ⊥) → (gone k → ⊥) → position j ≡ position k → j ≡ k
  pub uses : (j : ℕ) → (gone j → ⊥) → use_count j os + gained j ≤ use_count (position j) os' + lost j
