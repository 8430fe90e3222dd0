-- The operands of instances and of outputs are there, with the types of the ports.
use Rattle.std.proofs.Common.{◌≡◌, ℕ, zero, suc, true, false, List, [], ◌∷◌, map, take, slice_get, Option, Some, None, refl, sym, ◌∙◌, ap, option_map}
use Rattle.wiring.proofs.Options.{option_map_none}
use Rattle.hw_model.specs.Types.{HwType}
use Rattle.hw_model.specs.Design.{Ref, Port, OpResult, Op, Module, Design, result_type, output_refs}
use Rattle.hw_model.specs.Flat.{input_count}
use Rattle.hw_model.specs.Sound.{type_in, input_types, output_types, SoundBody}
use Rattle.export_verilog.proofs.items.Items.{output_count}
use Rattle.export_verilog.proofs.items.Settings.{Called}
use Rattle.export_verilog.proofs.items.Drives.{position_of_output}
use Rattle.hw_model.proofs.NetWidths.{input_found, typed_at}

pub get_map : {A B : Type 0} (f : A → B) (xs : List A) (n : ℕ) → slice_get (map f xs) n ≡ option_map f (slice_get xs n)
get_map f [] n = refl
get_map f (x ∷ xs) zero = refl
get_map f (x ∷ xs) (suc n) = get_map f xs n

pub none_at : (type_of : Ref → Option HwType) (rs : List Ref) (ts : List HwType) (n : ℕ) → map type_of rs ≡ map (λ (u : HwType). Some u) ts → slice_get ts n ≡ None
    → slice_get rs n ≡ None
none_at type_of rs ts n same is =
    option_map_none type_of (slice_get rs n) (sym (get_map type_of rs n) ∙ ap (λ xs. slice_get xs n) same ∙ get_map (λ (u : HwType). Some u) ts n ∙ ap (option_map (λ (u : HwType). Some u)) is)

-- what the module gives to an output port
pub output_ref_at : (d : Design) (m : Module) → SoundBody d m.ports m.body → (j : ℕ) (y : Port) → slice_get m.ports j ≡ Some y → y.is_output ≡ true
    → (r : Ref) × (slice_get (output_refs m.body) (output_count (take j m.ports)) ≡ Some r) × (type_in m.ports m.body r ≡ Some y.type)
output_ref_at d m sound j y there out =
    typed_at (type_in m.ports m.body) (output_refs m.body) (output_types m.ports) (output_count (take j m.ports)) y.type sound.outputs (position_of_output m.ports j y there out).1

-- what an instance joins to an input port
pub operand_at : (d : Design) (m : Module) (o : Op) (c : Called d m o) (j : ℕ) (y : Port) → slice_get c.module_of.ports j ≡ Some y → y.is_output ≡ false
    → (r : Ref) × (slice_get o.operands (input_count (take j c.module_of.ports)) ≡ Some r) × (type_in m.ports m.body r ≡ Some y.type)
operand_at d m o c j y there inward =
    typed_at (type_in m.ports m.body) o.operands (input_types c.module_of.ports) (input_count (take j c.module_of.ports)) y.type c.inputs (input_found c.module_of.ports j y there inward)

-- the type of an instance's result, among those of the outputs
pub output_type_at : (d : Design) (m : Module) (o : Op) (c : Called d m o) (k : ℕ) → slice_get (output_types c.module_of.ports) k ≡ result_type o k
output_type_at d m o c k = ap (λ ts. slice_get ts k) (sym c.outputs) ∙ get_map (λ (r : OpResult). r.type) o.results k
