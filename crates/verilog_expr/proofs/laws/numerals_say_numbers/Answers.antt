use Rattle.verilog_model.proofs.Numerals.{decimal_number-decimal, is_decimal-decimal}
use Rattle.verilog_expr.proofs.Numerals.{hex_number-hex, is_hex-hex, range_width-high_of}
use Rattle.verilog_expr.proofs.laws.numerals_say_numbers.Goals as goal

pub returns-clause-decimals : goal.returns-clause-decimals
returns-clause-decimals c = decimal_number-decimal

pub returns-clause-decimal_digits : goal.returns-clause-decimal_digits
returns-clause-decimal_digits c = is_decimal-decimal

pub returns-clause-hexadecimals : goal.returns-clause-hexadecimals
returns-clause-hexadecimals c = hex_number-hex

pub returns-clause-hexadecimal_digits : goal.returns-clause-hexadecimal_digits
returns-clause-hexadecimal_digits c = is_hex-hex

pub returns-clause-ranges : goal.returns-clause-ranges
returns-clause-ranges c = range_width-high_of
