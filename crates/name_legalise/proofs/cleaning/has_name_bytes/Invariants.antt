use Rattle.std.proofs.Common.{◌≡◌, drop}
use Rattle.verilog_model.specs.Tokens.{is_name_byte}
use Rattle.verilog_model.specs.Numerals.{all_bytes}
use Rattle.name_legalise.proofs.cleaning.has_name_bytes.Given as goal

abbrev pub invariant-loop-byte : goal.invariant-loop-byte
invariant-loop-byte l = all_bytes is_name_byte l.wanted ≡ all_bytes is_name_byte (drop l.byte-index l.wanted)
