-- Where a net that takes bits of the inputs takes them.
use Rattle.std.specs.Prelude.{Option, Some, None}
use Rattle.hw_model.specs.Flat.{Source}
use Rattle.hw_model.specs.Flat.Source.{nowhere, input}
use Rattle.hw_interpreter.specs.declared.nets.Range.{Range}

abbrev pub input_range_source : Option Range → Source
input_range_source None = nowhere
input_range_source (Some r) = input r.start r.width
