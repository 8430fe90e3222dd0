-- What the theorem stands on: an exportable design, whose names are legal and distinct.
use Rattle.std.proofs.Common.{◌≡◌, ℕ, ◌⊎◌, false, ◌||◌, [], ◌∷◌, map, slice_get, is_some, Some, None, sym, ◌∙◌, ap, ap₂, inl, inr, option_and_then}
use Rattle.hw_model.specs.Types.{Name, HwType}
use Rattle.hw_model.specs.Kinds.{Instance}
use Rattle.hw_model.specs.Design.{OpResult, Op, Module, Design, find_module, instance_in, register_form, is_output_kind, callee}
use Rattle.hw_model.specs.Sound.{type_in, input_types, output_types, SoundBody}
use Rattle.hw_model.proofs.Sorts.{Sort, sort_of}
use Rattle.hw_model.proofs.Sorts.Sort.{a_register, an_instance, an_output, a_made}
use Rattle.export_verilog.specs.Identifiers.{emission_of}
use Rattle.export_verilog.specs.Identifiers.Emission.{as_wire, as_reg, as_instance}
use Rattle.export_verilog.specs.Exportable.{IsExportable, IsExportableModule}
use Rattle.export_verilog.proofs.names.IdentifierNames.{AreNames}
use Rattle.export_verilog.proofs.names.IdentifiersOf.{register_of_emission, made_of_emission, instance_of_emission}
use Rattle.export_verilog.proofs.names.Symbols.{AreSymbols, found_symbol}
use Rattle.export_verilog.proofs.items.Lookups.{SayWidths}

pub record Setting (d : Design) : Type 0 where
  pub ok : IsExportable d
  pub symbols : AreSymbols d
  pub names : (s : Name) (m : Module) → find_module d s ≡ Some m → AreNames m
  pub say : SayWidths

-- the module that an instance instances
pub record Called (d : Design) (m : Module) (o : Op) : Type 0 where
  pub kind : Instance
  pub is_kind : instance_in o.kind ≡ Some kind
  pub module_of : Module
  pub there : find_module d kind.symbol ≡ Some module_of
  pub inputs : map (type_in m.ports m.body) o.operands ≡ map (λ (t : HwType). Some t) (input_types module_of.ports)
  pub outputs : map (λ (r : OpResult). r.type) o.results ≡ output_types module_of.ports

module _ (d : Design) (x : Setting d) (s : Name) (m : Module) (is : find_module d s ≡ Some m) where
  pub module_ok : IsExportableModule m
  module_ok = let at = found_symbol d s m is in x.ok.modules at.0 m at.1

  pub module_sound : SoundBody d m.ports m.body
  module_sound = x.ok.sound s m is

  abbrev pub called_by : (i : ℕ) (o : Op) → slice_get m.body i ≡ Some o → (k : Instance) → instance_in o.kind ≡ Some k → Called d m o
  called_by i o there k kind = let h = module_sound.instances i o there k kind in
      record { kind = k; is_kind = kind; module_of = h.0; there = h.1; inputs = h.2; outputs = h.3 }

  pub called_by_emission : (i : ℕ) (o : Op) → slice_get m.body i ≡ Some o → emission_of m.ports m.body i o ≡ as_instance → Called d m o
  called_by_emission i o there emission = let k = instance_of_emission m.ports m.body i o emission in called_by i o there k.0 k.2

  pub one_result_of : (i : ℕ) (o : Op) → slice_get m.body i ≡ Some o → instance_in o.kind ≡ None → is_output_kind o.kind ≡ false → (r : OpResult) × (o.results ≡ r ∷ [])
  one_result_of i o there inst out = (module_ok.ops i o there).one_result (ap₂ (λ a b. is_some a || b) inst out)

  -- what has a wire or a variable of its own has one result
  pub first_result : (i : ℕ) (o : Op) → slice_get m.body i ≡ Some o → (emission_of m.ports m.body i o ≡ as_wire) ⊎ (emission_of m.ports m.body i o ≡ as_reg) → (r : OpResult) × (o.results ≡ r ∷ [])
  first_result i o there (inl emission) = let h = made_of_emission m.ports m.body i o emission in one_result_of i o there h.1 h.2
  first_result i o there (inr emission) = let h = register_of_emission m.ports m.body i o emission in by_sort (sort_of o.kind) h.1 where
    by_sort : Sort o.kind → {f : _} → register_form o.kind ≡ Some f → (r : OpResult) × (o.results ≡ r ∷ [])
    by_sort (a_register g r n u) e = one_result_of i o there n u
    by_sort (an_instance k r n u) e = absurd (let z : None ≡ Some _ = sym r ∙ e in cc)
    by_sort (an_output r n u) e = absurd (let z : None ≡ Some _ = sym r ∙ e in cc)
    by_sort (a_made r n u) e = absurd (let z : None ≡ Some _ = sym r ∙ e in cc)

  pub result_at_first : (i : ℕ) (o : Op) → slice_get m.body i ≡ Some o → (emission_of m.ports m.body i o ≡ as_wire) ⊎ (emission_of m.ports m.body i o ≡ as_reg) → (r : OpResult) × (slice_get o.results 0 ≡ Some r)
  result_at_first i o there emission = let h = first_result i o there emission in (h.0, ap (λ rs. slice_get rs 0) h.1)

pub callee_is : (d : Design) (m : Module) (o : Op) (c : Called d m o) → callee d o ≡ Some c.module_of
callee_is d m o c = ap (λ k. option_and_then (λ (i : Instance). find_module d i.symbol) k) c.is_kind ∙ c.there
