-- The tests of constants that code makes (CIRCT, HW dialect: hw.constant).
use Rattle.std.specs.Prelude.{Bool}
use Rattle.bits_core.specs.Word.{Word}
use Rattle.fold_laws.specs.Constants.{is_zero, is_one, is_ones, shifts_out, is_true, is_false}
use Rattle.body_edits.specs.declared.constants.Test.{Test}
use Rattle.body_edits.specs.declared.constants.Test.TheVariants.{Zero, One, Ones, ShiftsOut, True, False}

-- the test of words that a test in code is
abbrev pub test_of : Test → Word → Bool
test_of Zero w = is_zero w
test_of One w = is_one w
test_of Ones w = is_ones w
test_of ShiftsOut w = shifts_out w
test_of True w = is_true w
test_of False w = is_false w
