use Rattle.std.proofs.Common.{◌≡◌, ◌++◌, drop}
use Rattle.hw_model.specs.KindViews.{literal_of}
use Rattle.mlir_printer.specs.Commas.{items_from}
use Rattle.printing_laws.specs.Numbers.{shown_literal}
use Rattle.mlir_printer.specs.Literals.{literal_bytes}
use Rattle.mlir_printer.proofs.literals.+literals.Given as goal

abbrev pub invariant-push_literals-loop-i : goal.invariant-push_literals-loop-i
invariant-push_literals-loop-i l =
    l.out ++ items_from (λ x. literal_bytes (shown_literal (literal_of x))) l.i (drop l.i l.literals)
    ≡ l.initial.out ++ items_from (λ x. literal_bytes (shown_literal (literal_of x))) 0 l.literals
