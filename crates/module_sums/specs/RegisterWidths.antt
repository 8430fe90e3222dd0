-- The widths of the leaves of the registers of a module and of all that it instances, in the order of its content.
use Rattle.std.specs.Prelude.{◌≡◌, ℕ, zero, suc, cond, is_some, List, [], ◌∷◌, ◌++◌, Option, Some, None, map, slice_get, get_or}
use Rattle.hw_model.specs.Types.{Name, width, leaves}
use Rattle.hw_model.specs.Kinds.{Kind, Instance}
use Rattle.hw_model.specs.Design.{OpResult, Op, Module, Design, register_form, instance_in}
use Rattle.ir_store.specs.Designs.{StoredModule}
use Rattle.run_lists.specs.Runs.{expanded, AreApart, AreRunsOf}
use Rattle.run_lists.specs.declared.runs.Run.{Run}
use Rattle.run_lists.specs.declared.runs.RunList.{RunList}
use Rattle.module_sums.specs.Sums.{summed, kept_by}

-- those of the leaves of the first of results
abbrev pub first_widths : List OpResult → List ℕ
first_widths [] = []
first_widths (r ∷ rs) = map width (leaves r.type)

abbrev pub called_widths : (Name → List ℕ) → Option Instance → List ℕ
called_widths inner None = []
called_widths inner (Some i) = inner i.symbol

-- those of an operation, `inner` giving those of the module of a symbol
abbrev pub kind_widths : (Name → List ℕ) → Kind → List OpResult → List ℕ
kind_widths inner k rs = cond (is_some (register_form k)) (first_widths rs) (called_widths inner (instance_in k))

abbrev pub body_widths : (Name → List ℕ) → List Op → List ℕ
body_widths inner [] = []
body_widths inner (o ∷ os) = kind_widths inner o.kind o.results ++ body_widths inner os

abbrev pub widths_of : (Name → List ℕ) → Option Module → List ℕ
widths_of inner None = []
widths_of inner (Some m) = body_widths inner m.body

-- those of the module of a symbol
abbrev pub leaf_widths : Design → Name → List ℕ
leaf_widths d s = summed widths_of [] d s

-- ---- tables

-- the widths that lists of runs have
abbrev pub widths_in : List RunList → List (List ℕ)
widths_in table = map (λ (r : RunList). expanded r.runs.items) table

-- those that are kept under a number, and of the module of a symbol
abbrev pub kept_at : List RunList → ℕ → List ℕ
kept_at table i = get_or (widths_in table) i []

abbrev pub kept_widths : List StoredModule → List RunList → Name → List ℕ
kept_widths ms table s = kept_by [] (map (λ (m : StoredModule). m.symbol) ms) (widths_in table) s

-- the runs of each list are apart
abbrev pub AreAllApart : List RunList → Type 0
AreAllApart [] = Unit {0}
AreAllApart (r ∷ rs) = AreApart r.runs.items × AreAllApart rs

-- so many lists without runs
abbrev pub AreEmpty : ℕ → List RunList → Type 0
AreEmpty zero [] = Unit {0}
AreEmpty (suc n) (r ∷ rs) = (r.runs.items ≡ []) × AreEmpty n rs
AreEmpty _ _ = ⊥

-- the runs are those of the module of a number
abbrev pub AreRegisterRuns : Design → ℕ → List Run → Type 0
AreRegisterRuns d n rs = (m : Module) → slice_get d n ≡ Some m → AreRunsOf (leaf_widths d m.symbol) rs
