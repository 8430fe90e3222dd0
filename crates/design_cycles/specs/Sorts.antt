-- What an operation is to its module, as code tells it.
use Rattle.std.specs.Prelude.{Bool, true, false, Option, Some, None}
use Rattle.hw_model.specs.Kinds.{Instance}
use Rattle.hw_model.specs.KindViews.{instance_of}
use Rattle.design_cycles.specs.declared.ops.Sort.{Sort}
use Rattle.design_cycles.specs.declared.ops.Sort.TheVariants.{Register, Calls, Gives, Made}

abbrev pub holds : Sort → Bool
holds Register = true
holds (Calls i) = false
holds Gives = false
holds Made = false

abbrev pub called_in : Sort → Option Instance
called_in Register = None
called_in (Calls i) = Some (instance_of i.now)
called_in Gives = None
called_in Made = None

abbrev pub gives : Sort → Bool
gives Register = false
gives (Calls i) = false
gives Gives = true
gives Made = false
