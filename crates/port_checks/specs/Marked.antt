-- What code knows of the reset ports of a design.
use Rattle.std.specs.Prelude.{◌≡◌, ℕ, Bool, false, List, Option, Some, None, slice_get}
use Rattle.hw_model.specs.Design.{Module, Design}
use Rattle.port_checks.specs.declared.reset_ports.ResetPorts.{ResetPorts}
use Rattle.graphs.specs.Graphs.{has_mark}
use Rattle.port_checks.specs.Numbers.{port_number}
use Rattle.port_checks.specs.ResetPorts.{is_reset_port}

-- whether there is a port and it has its mark
abbrev pub has_mark_at : List Bool → Option ℕ → Bool
has_mark_at marks None = false
has_mark_at marks (Some v) = has_mark marks v

-- whether port j of module i is said to be a reset port
abbrev pub has_reset : ResetPorts → ℕ → ℕ → Bool
has_reset r i j = has_mark_at r.marks.items (port_number r.starts.items i j)

-- whether port j of a module that may be there is a reset port
abbrev pub is_reset_of : Design → ℕ → Option Module → Bool
is_reset_of d j None = false
is_reset_of d j (Some m) = is_reset_port d m j

-- the reset ports are those of this design
abbrev pub AreResetPorts : Design → ResetPorts → Type 0
AreResetPorts d r = (i j : ℕ) → has_reset r i j ≡ is_reset_of d j (slice_get d i)
