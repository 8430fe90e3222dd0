-- Why the gates of a flat module are not told.
use Rattle.std.specs.Prelude.{◌≡◌, ℕ, ◌+◌, Bool, cond, ◌||◌, nat_lt, List, [], ◌∷◌, Option, Some, None}
use Rattle.hw_model.specs.Design.{Port, Op, Module, Design}
use Rattle.net_gates.specs.ClockedInputs.{free_bits}
use Rattle.flat_module_gates.specs.FlatSteps.{content_width}
use Rattle.miter_blast.specs.Building.{most_gates}
use Rattle.miter_blast.specs.ExportPrices.{export_price}
use Rattle.miter_blast.specs.FlatCopy.{IsFlatCopyAt}
use Rattle.and_gates.specs.declared.fail.ExportFault.{ExportFault}
use Rattle.and_gates.specs.declared.fail.ExportFault.TheVariants.{SeveralClocks, AsynchronousReset, TooManyGates}
use Rattle.and_gates.specs.declared.fail.ExportFail.{ExportFail}
use Rattle.and_gates.specs.declared.fail.ExportFail.TheVariants.{Refused, NoMemory}
use Rattle.and_gates.specs.Clocks.{has_several_clocks, has_async}

-- how many inputs that are no clocks and bits of registers there are together
abbrev pub variable_count : List Port → List Op → ℕ
variable_count ps os = free_bits ps + content_width os

-- whether a module may take more than 2^28 gates, or has more than 2^28 of those
abbrev pub is_too_large : List Port → List Op → Bool
is_too_large ps os = nat_lt most_gates (export_price ps os) || nat_lt most_gates (variable_count ps os)

-- the first cause against a flat module: its registers have several clocks; one is reset without its clock; it is too large
abbrev pub export_fault : List Port → List Op → Option ExportFault
export_fault ps os =
    cond (has_several_clocks os) (Some SeveralClocks)
    (cond (has_async os) (Some AsynchronousReset)
    (cond (is_too_large ps os) (Some TooManyGates) None))

-- it is that of the one module of a flat design
abbrev pub IsFaultOf : Design → Option ExportFault → Type 0
IsFaultOf c f = (m : Module) × (c ≡ m ∷ []) × (f ≡ export_fault m.ports m.body)

-- the module of a number is refused for what its flat copy has
abbrev pub IsExportFault : Design → ℕ → ExportFault → Type 0
IsExportFault d n f = (c : Design) × IsFlatCopyAt d n c × IsFaultOf c (Some f)

abbrev pub IsRefusedExport : Design → ℕ → ExportFail → Type 0
IsRefusedExport d n (Refused f) = IsExportFault d n f
IsRefusedExport d n NoMemory = Unit {0}
