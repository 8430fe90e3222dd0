-- How ports are added, and what a module with them is.
use Rattle.std.proofs.Common.{◌≡◌, ℕ, suc, true, false, List, [], ◌∷◌, ◌++◌, map, length, refl, sym, ap, ap₂, ◌∙◌, append_assoc}
use Rattle.wiring.specs.Wiring.{In}
use Rattle.hw_model.specs.Types.{Name, HwType}
use Rattle.hw_model.specs.Design.{Location, Entry, Port, Op, Ref}
use Rattle.ir_store.specs.BodyOps.{BodyOp, ids_in}
use Rattle.ir_store.specs.Designs.{numbered_module}
use Rattle.ir_store.specs.Numbered.{op_by, ops_by_position}
use Rattle.aiger_laws.specs.Trees.{Aiger}
use Rattle.aiger_design.specs.Operations.{one_bit, first_location, port_named, numbered}
use Rattle.aiger_design.specs.Built.{input_ports, output_ports, imported_ports, imported_body, imported_symbol, imported_module}
use Rattle.aiger_text.specs.Seen.{numbers_from}
use Rattle.aiger_text.proofs.NumberedBodies.{IsBelow, placed}

-- one more input
pub input_step : (before now all : List Port) (p : Port) (name : Name) (t : HwType) (k l : ℕ) (rest others : List ℕ) → rest ≡ l ∷ others → now ≡ before ++ p ∷ [] → p ≡ port_named name false t
    → name ≡ numbered (105 ∷ []) k → t ≡ one_bit → before ++ input_ports k rest ≡ all → now ++ input_ports (suc k) others ≡ all
input_step before now all p name t k l rest others at added is named type left =
    ap (λ ps. ps ++ input_ports (suc k) others) (added ∙ ap (λ q. before ++ q ∷ []) (is ∙ ap₂ (λ n u. port_named n false u) named type))
    ∙ append_assoc before (port_named (numbered (105 ∷ []) k) false one_bit ∷ []) (input_ports (suc k) others)
    ∙ ap (λ ls. before ++ input_ports k ls) (sym at) ∙ left

-- one more output
pub output_step : (before now all : List Port) (p : Port) (name : Name) (t : HwType) (k l : ℕ) (rest others : List ℕ) → rest ≡ l ∷ others → now ≡ before ++ p ∷ [] → p ≡ port_named name true t
    → name ≡ numbered (111 ∷ []) k → t ≡ one_bit → before ++ output_ports k rest ≡ all → now ++ output_ports (suc k) others ≡ all
output_step before now all p name t k l rest others at added is named type left =
    ap (λ ps. ps ++ output_ports (suc k) others) (added ∙ ap (λ q. before ++ q ∷ []) (is ∙ ap₂ (λ n u. port_named n true u) named type))
    ∙ append_assoc before (port_named (numbered (111 ∷ []) k) true one_bit ∷ []) (output_ports (suc k) others)
    ∙ ap (λ ls. before ++ output_ports k ls) (sym at) ∙ left

-- a module
pub module_built : (t : Aiger) (symbol : Name) (ports : List Port) (entries : List Entry) (ops : List BodyOp) (location : Location) → symbol ≡ imported_symbol → ports ≡ imported_ports t
    → entries ≡ [] → ids_in ops ≡ numbers_from 0 (length (ids_in ops)) → map (op_by (λ i. i)) ops ≡ imported_body t
    → ((o : Op) → In o (imported_body t) → (r : Ref) → In r o.operands → IsBelow (length (imported_body t)) r) → location ≡ first_location
    → numbered_module (record { symbol = symbol; is_private = false; ports = ports; dictionary = entries; ops = ops; location = location }) ≡ imported_module t
module_built t symbol ports entries ops location named header empty ids are below at =
    let body : ops_by_position ops ≡ imported_body t = placed ops (imported_body t) ids are below in
    rw (named, header, empty, body, at) refl
