-- What the code answers of whole texts.
use Rattle.std.specs.Prelude.{◌≡◌, ◌+◌, ◌<◌, ◌≤◌, ◌^◌, ℕ, List, length, Result, Err}
use Rattle.aiger_laws.specs.declared.fault.Fault.{Fault}
use Rattle.aiger_laws.specs.Trees.{Aiger}
use Rattle.aiger_laws.specs.declared.fault.Fault.TheVariants.{GateCycle}
use Rattle.aiger_laws.specs.Grammar.{IsFirstFault, IsFirstOnCycle, gate_line}
use Rattle.aiger_reader.specs.declared.fail.ReadFail.{ReadFail}
use Rattle.aiger_reader.specs.declared.fail.ReadFail.TheVariants.{TooLong, Refused, NoMemory}

-- why a text is not read: it is too long, or it has this first fault; nothing is said where memory is wanting
abbrev pub IsReadFail : List ℕ → ReadFail → Type 0
IsReadFail bytes TooLong = 2 ^ 26 < length bytes
IsReadFail bytes (Refused r) = (length bytes ≤ 2 ^ 26) × IsFirstFault bytes r.line r.fault
IsReadFail bytes NoMemory = Unit {0}

-- what a failure makes of what lines say: nothing is said where memory is wanting
abbrev pub IsLineFail : Result Aiger (ℕ × Fault) → ReadFail → Type 0
IsLineFail says TooLong = ⊥
IsLineFail says (Refused r) = says ≡ Err (r.line, r.fault)
IsLineFail says NoMemory = Unit {0}

-- why a tree is not kept: its first gate that needs itself; nothing is said where memory is wanting
abbrev pub IsCycleFail : Aiger → ReadFail → Type 0
IsCycleFail t TooLong = ⊥
IsCycleFail t (Refused r) = (k : ℕ) × IsFirstOnCycle t k × (r.line ≡ gate_line t + k) × (r.fault ≡ GateCycle)
IsCycleFail t NoMemory = Unit {0}

-- how many lines a tree has
abbrev pub line_count : Aiger → ℕ
line_count t = length t.inputs + length t.latches + length t.outputs + length t.gates
