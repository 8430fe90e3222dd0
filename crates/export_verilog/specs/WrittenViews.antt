-- What parts of a register's block stand for.
use Rattle.std.specs.Prelude.{option_map}
use Rattle.verilog_model.specs.Tree.{Block}
use Rattle.export_verilog.specs.Written.{WrittenReset, written_block}
use Rattle.export_verilog.specs.declared.always_blocks.Reset.{Reset}
use Rattle.export_verilog.specs.declared.always_blocks.Clocked.{Clocked}

-- what resets a register
abbrev pub reset_of : Reset → WrittenReset
reset_of r = record { signal = r.signal.now; value = r.value.now }

-- the block of a register
abbrev pub block_held : Clocked → Block
block_held c = written_block c.target.now c.next.now (option_map (λ (e : _). e.now) c.enable) (option_map reset_of c.reset)
