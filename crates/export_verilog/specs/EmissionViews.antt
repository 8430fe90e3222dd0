-- What an emission in code stands for.
use Rattle.export_verilog.specs.Identifiers.{Emission}
use Rattle.export_verilog.specs.Identifiers.Emission.{inline, as_wire, as_reg, as_instance}
use Rattle.export_verilog.specs.declared.name_hints.Emission as code
use Rattle.export_verilog.specs.declared.name_hints.Emission.TheVariants.{Inline, Wire, Reg, Instance}

-- the emission
abbrev pub emission_seen : code.Emission → Emission
emission_seen Inline = inline
emission_seen Wire = as_wire
emission_seen Reg = as_reg
emission_seen Instance = as_instance
