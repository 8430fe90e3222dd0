-- New bodies, in which the ids of operations are their positions (CIRCT, HW dialect: `hw-lower-aggregates`).
use Rattle.std.specs.Prelude.{◌≡◌, ℕ, suc, Bool, true, false, List, [], ◌∷◌, ◌++◌, map, length}
use Rattle.wiring.specs.Wiring.{In}
use Rattle.hw_model.specs.Design.{Ref, Port, Op, Module, Design}
use Rattle.edit_laws.specs.Edit.{retarget}
use Rattle.ir_store.specs.declared.operation.NewOp.{NewOp}
use Rattle.ir_store.specs.BodyOps.{BodyOp, as_new}
use Rattle.ir_store.specs.Bodies.{op_id}
use Rattle.ir_store.specs.Numbered.{op_by}
use Rattle.aggregate_laws.specs.Leaves.{part}
use Rattle.aggregate_laws.specs.Rules.{Rules, blocks, parts_of}
use Rattle.aggregate_laws.specs.Aggregates.{rule_of}
use Rattle.aggregate_acceptance.specs.Joins.{only_joins, without_joins}
use Rattle.lowering_rules.specs.declared.leaf_table.LeafTable.{LeafTable}
use Rattle.lowering_rules.specs.LeafTables.{leaves_at}
use Rattle.lowering_rules.specs.LoweringRules.{leaf_named}
use Rattle.lowering_rules.specs.Made.{made_in}
use Rattle.lowering_rules.specs.Reading.{new_refs}
use Rattle.aggregate_lower.specs.declared.made.Made.{Made}
use Rattle.aggregate_lower.specs.Targets.{MadeOp, wire_flags, ops_kept, targets_from, moved_ref, IsNamed, Places, AreSettled}
use Rattle.aggregate_lower.specs.Targets.MadeOp.{wire, kept}

-- operations that are put in one after another, their ids in order from a number on
abbrev pub numbered_from : ℕ → List NewOp → List BodyOp
numbered_from i [] = []
numbered_from i (o ∷ os) = as_new (op_id i) o ∷ numbered_from (suc i) os

-- an operation without its operands
abbrev pub bare_of : BodyOp → Op
bare_of o = op_by (λ (n : ℕ). n) (record o { operands = [] })

-- what an operation of a design becomes from a position on, where a table has what stands for its operands
abbrev pub block_made : Design → LeafTable → BodyOp → ℕ → List Op
block_made d t o start = (rule_of (leaf_named d) (bare_of o) o.parts.kind).made (map (leaves_at t) o.operands) start

-- what all operations become, each from its own position on
abbrev pub blocks_made : Design → LeafTable → List BodyOp → List ℕ → List Op
blocks_made d t (o ∷ ops) (start ∷ starts) = block_made d t o start ++ blocks_made d t ops starts
blocks_made d t _ _ = []

-- operations that one became, which only joins or not
abbrev pub all_made_by : Bool → List Op → List MadeOp
all_made_by true os = map wire os
all_made_by false os = map kept os

-- what all operations become, each from its own position on: wires of those that only join, and what is kept
abbrev pub all_made : Design → LeafTable → List BodyOp → List ℕ → List MadeOp
all_made d t (o ∷ ops) (start ∷ starts) = all_made_by (only_joins o.parts.kind) (block_made d t o start) ++ all_made d t ops starts
all_made d t _ _ = []

-- what a wire carries
abbrev pub carried_ref : Op → Ref
carried_ref o = part o.operands 0

-- code has what operations become
pub record IsMade (xs : List MadeOp) (m : Made) : Type 0 where
  pub kept_are : made_in m.kept.items ≡ ops_kept xs
  pub flags_are : m.flags.items ≡ wire_flags xs
  pub targets_are : new_refs m.targets.items ≡ targets_from 0 xs

-- what some more become is added
pub record AddsMade (xs : List MadeOp) (old new : Made) : Type 0 where
  pub kept_are : made_in new.kept.items ≡ made_in old.kept.items ++ ops_kept xs
  pub flags_are : new.flags.items ≡ old.flags.items ++ wire_flags xs
  pub targets_are : new_refs new.targets.items ≡ new_refs old.targets.items ++ targets_from (length old.kept.items) xs

-- what a body with these ports becomes, without the wires of operations that only join
abbrev pub joined_body : Rules → List Port → List Op → List Op
joined_body rules ps os = without_joins rules 0 os (blocks rules (parts_of rules ps os) 0 os)

-- a module of the design has these ports and this body
pub record HasBody (d : Design) (ps : List Port) (os : List Op) : Type 0 where
  pub owner : Module
  pub is_in : In owner d
  pub ports_are : owner.ports ≡ ps
  pub body_is : owner.body ≡ os

-- operations that a body is made of: they are these, and name none that is not among them
pub record IsJoined (os : List Op) (made : List NewOp) : Type 0 where
  pub are : made_in made ≡ os
  pub named : (o : Op) (r : Ref) → In o (made_in made) → In r o.operands → IsNamed (length made) r

-- operations whose values have gone to their places
pub record AreMoved (flags : List Bool) (ts : List Ref) (s : Places flags ts) (kept moved : List NewOp) : Type 0 where
  pub targets : List Ref
  pub settled : AreSettled flags ts s targets
  pub are : made_in moved ≡ map (retarget (moved_ref flags targets)) (made_in kept)

-- where no value needs itself, operations that are kept become those of a body once their values go to their places
pub record CanSettle (os : List Op) (flags : List Bool) (ts : List Ref) (kept : List NewOp) : Type 0 where
  pub many : length ts ≡ length flags
  pub places_are : Places flags ts
  pub becomes : (moved : List NewOp) → AreMoved flags ts places_are kept moved → IsJoined os moved
