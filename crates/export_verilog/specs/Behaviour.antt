-- What the text of a design shows of each module: its name and its ports, the names made legal.
use Rattle.std.specs.Prelude.{ℕ, List, [], ◌∷◌, map}
use Rattle.hw_model.specs.Types.{Name, width}
use Rattle.hw_model.specs.Design.{Port, Module, Design}
use Rattle.verilog_model.specs.Behaviour.{Shown, Behaves}
use Rattle.name_legalise.specs.Legal.{legal}

-- the legal names of the modules of a design, in order: its symbols made legal one after another
abbrev pub legal_symbols : Design → List Name
legal_symbols d = legal (map (λ (m : Module). m.symbol) d)

-- the legal names of the ports of a module, in order: their own names made legal one after another
abbrev pub legal_ports : Module → List Name
legal_ports m = legal (map (λ (p : Port). p.name) m.ports)

-- ports under these names, as Verilog shows them: directions and widths are their own
abbrev pub shown_under : List Name → List Port → List Shown
shown_under (n ∷ ns) (p ∷ ps) = record { is_output = p.is_output; name = n; width = width p.type } ∷ shown_under ns ps
shown_under _ _ = []

-- the ports of a module, as Verilog shows them
abbrev pub shown_ports : Module → List Shown
shown_ports m = shown_under (legal_ports m) m.ports

-- the text behaves as the design, its modules and ports having their legal names
abbrev pub BehavesAs : List ℕ → Design → Type 0
BehavesAs text d = Behaves text d (legal_symbols d) shown_ports
