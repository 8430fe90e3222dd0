-- How a delivery ends.
use Rattle.std.specs.Prelude.{ℕ, List, Option, Some, None, option_map, ◌⊎◌}
use Rattle.hw_model.specs.Types.{Name}
use Rattle.io_edge.specs.Faults.{HasRisen}
use Rattle.circt_top.specs.Inputs.{IsOneRisen}
use Rattle.circt_top.specs.declared.delivery.Delivery.{Delivery}
use Rattle.circt_top.specs.declared.delivery.Delivery.TheVariants.{Whole, Fault, NoMemory}

abbrev pub OnDelivered : Delivery → Type 0 → Type 0
OnDelivered Whole P = P
OnDelivered _ P = Unit {0}

-- a fact about what could not be written: the file of a name, or, without one, the output
abbrev pub OnFault : Delivery → (Option Name → Type 0) → Type 0
OnFault (Fault target) P = P (option_map (λ n. n.now) target)
OnFault _ P = Unit {0}

abbrev pub OnNoMemory : Delivery → Type 0 → Type 0
OnNoMemory NoMemory P = P
OnNoMemory _ P = Unit {0}

-- the count of faults of where the output goes rose: that of the output itself, or that of writes of the named file
abbrev pub HasOutputFault : Option Name → ℕ → ℕ → (Name → ℕ) → (Name → ℕ) → Type 0
HasOutputFault None before after writes written = HasRisen before after
HasOutputFault (Some name) before after writes written = HasRisen (writes name) (written name)

-- the same of one of these files, or of the output
abbrev pub HasWriteFault : List Name → Option Name → ℕ → ℕ → (Name → ℕ) → (Name → ℕ) → Type 0
HasWriteFault names output before after writes written = IsOneRisen writes written names ⊎ HasOutputFault output before after writes written
