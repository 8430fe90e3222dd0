-- Worked texts: what they say, and where they are refused.
use Rattle.std.proofs.Common.{◌≡◌, [], ◌∷◌, refl, inl, arith}
use Rattle.std.specs.Prelude.{None, Ok, Err, codes}
use Rattle.text_lines.specs.Lines.{lines}
use Rattle.aiger_laws.specs.declared.fault.Fault.TheVariants.{BadLine, OutOfRange, DefinedTwice, NotDefined, GateCycle}
use Rattle.aiger_laws.specs.Trees.{Aiger, empty_tree}
use Rattle.aiger_laws.specs.Drivers.{driver}
use Rattle.aiger_laws.specs.Fields.{fields, numeral}
use Rattle.aiger_laws.specs.Rows.{header_of, row_added, has_more}
use Rattle.aiger_laws.specs.Grammar.{no_symbol, tree_from, tree_of_text, undefined_line, IsFirstFault, on_cycle, undefined}

-- the conjunction of two inputs
abbrev conjunction : Aiger
conjunction = record { inputs = 2 ∷ 4 ∷ []; latches = []; outputs = 6 ∷ []; gates = (record { literal = 6; left = 4; right = 2 }) ∷ [] }

conjunction_is_read : tree_of_text (codes "aag 3 2 0 1 1\n2\n4\n6\n6 4 2\ni0 a[0]\ni1 b[0]\no0 c[0]\n") ≡ Ok conjunction
unfolding tree_of_text lines tree_from fields numeral header_of row_added has_more no_symbol driver
conjunction_is_read = refl

conjunction_is_defined : undefined_line conjunction ≡ None
unfolding undefined_line driver
conjunction_is_defined = refl

-- a latch that takes an input
abbrev register : Aiger
register = record { inputs = 2 ∷ []; latches = (record { literal = 4; next = 2 }) ∷ []; outputs = 4 ∷ []; gates = [] }

register_is_read : tree_of_text (codes "aag 2 1 1 1 0\n2\n4 2 4\n4\ni0 d[0]\nl0 r[0]\no0 q[0]") ≡ Ok register
unfolding tree_of_text lines tree_from fields numeral header_of row_added has_more no_symbol driver
register_is_read = refl

register_is_defined : undefined_line register ≡ None
unfolding undefined_line driver
register_is_defined = refl

reset_is_not_kept : tree_of_text (codes "aag 2 1 1 1 0 0 0 0 0\n2\n4 2 1\n4\nc\nanything\n\n") ≡ Ok register
unfolding tree_of_text lines tree_from fields numeral header_of row_added has_more no_symbol driver
reset_is_not_kept = refl

header_alone : tree_of_text (codes "aag 2147483647 0 0 0 0") ≡ Ok empty_tree
unfolding tree_of_text lines tree_from fields numeral header_of row_added has_more no_symbol driver
header_alone = refl

header_alone_is_defined : undefined_line empty_tree ≡ None
unfolding undefined_line driver
header_alone_is_defined = refl

many_inputs : tree_of_text (codes "aag 2147483647 2147483647 0 0 0") ≡ Err (2, BadLine)
unfolding tree_of_text lines tree_from fields numeral header_of row_added has_more no_symbol driver
many_inputs = refl

no_text : tree_of_text [] ≡ Err (1, BadLine)
unfolding tree_of_text lines
no_text = refl

too_many_variables : tree_of_text (codes "aag 2147483648 0 0 0 0\n") ≡ Err (1, BadLine)
unfolding tree_of_text lines tree_from fields numeral header_of
too_many_variables = refl

too_few_variables : tree_of_text (codes "aag 2 1 1 0 1\n") ≡ Err (1, BadLine)
unfolding tree_of_text lines tree_from fields numeral header_of
too_few_variables = refl

two_blanks : tree_of_text (codes "aag  1 0 0 0 0\n") ≡ Err (1, BadLine)
unfolding tree_of_text lines tree_from fields numeral header_of
two_blanks = refl

leading_zero : tree_of_text (codes "aag 1 1 0 0 0\n02\n") ≡ Err (2, BadLine)
unfolding tree_of_text lines tree_from fields numeral header_of row_added has_more no_symbol driver
leading_zero = refl

other_reset : tree_of_text (codes "aag 1 0 1 0 0\n2 2 3\n") ≡ Err (2, BadLine)
unfolding tree_of_text lines tree_from fields numeral header_of row_added has_more no_symbol driver
other_reset = refl

ends_early : tree_of_text (codes "aag 2 2 0 0 0\n2\n") ≡ Err (3, BadLine)
unfolding tree_of_text lines tree_from fields numeral header_of row_added has_more no_symbol driver
ends_early = refl

letter_behind_comment_mark : tree_of_text (codes "aag 0 0 0 0 0\ncx\n") ≡ Err (2, BadLine)
unfolding tree_of_text lines tree_from fields numeral header_of row_added has_more no_symbol driver
letter_behind_comment_mark = refl

odd_input : tree_of_text (codes "aag 1 1 0 0 0\n3\n") ≡ Err (2, OutOfRange)
unfolding tree_of_text lines tree_from fields numeral header_of row_added has_more no_symbol driver
odd_input = refl

beyond : tree_of_text (codes "aag 1 1 0 1 0\n2\n99999999999999999999\n") ≡ Err (3, OutOfRange)
unfolding tree_of_text lines tree_from fields numeral header_of row_added has_more no_symbol driver
beyond = refl

input_twice : tree_of_text (codes "aag 2 2 0 0 0\n2\n2\n") ≡ Err (3, DefinedTwice)
unfolding tree_of_text lines tree_from fields numeral header_of row_added has_more no_symbol driver
input_twice = refl

-- an output that no line defines
abbrev dangling : Aiger
dangling = record { inputs = []; latches = []; outputs = 2 ∷ []; gates = [] }

dangling_is_refused : IsFirstFault (codes "aag 1 0 0 1 0\n2\n") 2 NotDefined
unfolding tree_of_text lines tree_from fields numeral header_of row_added has_more no_symbol driver undefined_line
dangling_is_refused = undefined 2 dangling refl refl

-- a gate that needs itself
abbrev circle : Aiger
circle = record { inputs = []; latches = []; outputs = 2 ∷ []; gates = (record { literal = 2; left = 2; right = 2 }) ∷ [] }

circle_is_refused : IsFirstFault (codes "aag 1 0 0 1 1\n2\n2 2 2\n") 3 GateCycle
unfolding tree_of_text lines tree_from fields numeral header_of row_added has_more no_symbol driver undefined_line
circle_is_refused = on_cycle 0 circle refl refl (record { on = (record { literal = 2; left = 2; right = 2 }, refl, (0, (1, inl refl, refl))); first = λ j below. absurd (omega (arith, below)) })
