use Rattle.std.proofs.Common.{◌≡◌, ◌++◌, drop}
use Rattle.module_names.proofs.NameLists.{names_of}
use Rattle.module_names.proofs.names.wanted_names.Given as goal

abbrev pub invariant-loop-port : goal.invariant-loop-port
invariant-loop-port l = l.names.items ++ names_of (drop l.port-index l.«module».ports.ports.items) ≡ names_of l.«module».ports.ports.items
