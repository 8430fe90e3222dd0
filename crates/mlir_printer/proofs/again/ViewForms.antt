-- What is said in each form, and what each needs.
use Rattle.std.proofs.Common.{◌≡◌, ℕ, ◌≤◌, ◌<◌, true, List, [], ◌∷◌, length, refl}
use Rattle.std.specs.Prelude.{ℤ}
use Rattle.std.proofs.lemmas.List.{length-map}
use Rattle.hw_model.specs.Types.{Name, HwType}
use Rattle.hw_model.specs.Types.HwType.{int}
use Rattle.hw_model.specs.Kinds.{Predicate, Literals, Instance}
use Rattle.mlir_syntax.specs.Numerals.{count_limit}
use Rattle.assembly_format.specs.Formats.{prefix_elements, type_elements}
use Rattle.mlir_operations.specs.ElementText.{InherentAttributes}
use Rattle.mlir_operations.specs.ElementText.InherentAttributes.{nothing, with_reset, with_async_reset, predicate, position, number, literals, field_name, child}
use Rattle.assembly_format.specs.declared.elements.Format.TheVariants as format
use Rattle.printing_laws.specs.Numbers.{is_truth}
use Rattle.mlir_printer.specs.Elements.{ValueText, Pending}
use Rattle.mlir_printer.specs.Spellable.{IsOperand, IsInstance}
use Rattle.stored_form.specs.Bytes.{Each, AreBytes}
use Rattle.stored_form.specs.Limits.{IsAnyType, IsInteger, AreLiterals}
use Rattle.mlir_printer.specs.SpellableModules.{IsViewAs}

-- operands, types and what is said besides
abbrev pub pending : List ValueText → List HwType → InherentAttributes → Pending
pending os ts e = record { operands = os; types = ts; inherent = e }

pub says_variadic : (os : List ValueText) (t : HwType) → 1 ≤ length os → Each IsOperand os → IsAnyType t
    → IsViewAs format.Variadic (pending os (t ∷ []) nothing)
unfolding prefix_elements type_elements
says_variadic os t some h type = record { prefix = ((some, h), tt); types = (tt, (type, tt)); all = refl }

pub says_binary : (a b : ValueText) (t : HwType) → IsOperand a → IsOperand b → IsAnyType t
    → IsViewAs format.Binary (pending (a ∷ b ∷ []) (t ∷ []) nothing)
unfolding prefix_elements type_elements
says_binary a b t ha hb type = record { prefix = (ha, (tt, (hb, tt))); types = (tt, (type, tt)); all = refl }

pub says_comparison : (p : Predicate) (a b : ValueText) (t : HwType) → IsOperand a → IsOperand b → IsAnyType t
    → IsViewAs format.Comparison (pending (a ∷ b ∷ []) (t ∷ []) (predicate p))
unfolding prefix_elements type_elements
says_comparison p a b t ha hb type = record { prefix = (tt, (ha, (tt, (hb, tt)))); types = (tt, (type, tt)); all = refl }

pub says_unary : (a : ValueText) (t : HwType) → IsOperand a → IsAnyType t → IsViewAs format.Unary (pending (a ∷ []) (t ∷ []) nothing)
unfolding prefix_elements type_elements
says_unary a t ha type = record { prefix = (ha, tt); types = (tt, (type, tt)); all = refl }

pub says_extraction : (a : ValueText) (low : ℕ) (t u : HwType) → IsOperand a → low < count_limit → IsAnyType t → IsAnyType u
    → IsViewAs format.Extraction (pending (a ∷ []) (t ∷ u ∷ []) (position low))
unfolding prefix_elements type_elements
says_extraction a low t u ha small from to = record { prefix = (ha, (tt, (small, tt))); types = (tt, (tt, (from, (tt, (tt, (to, tt)))))); all = refl }

pub says_joined : (os : List ValueText) (ts : List HwType) → 1 ≤ length os → Each IsOperand os → length ts ≡ length os → Each IsAnyType ts
    → IsViewAs format.Joined (pending os ts nothing)
unfolding prefix_elements type_elements
says_joined os ts some h count types = record { prefix = ((some, h), tt); types = (tt, ((rw length-map count, types), tt)); all = refl }

pub says_conversion : (a : ValueText) (t u : HwType) → IsOperand a → IsAnyType t → IsAnyType u
    → IsViewAs format.Conversion (pending (a ∷ []) (t ∷ u ∷ []) nothing)
unfolding prefix_elements type_elements
says_conversion a t u ha from to = record { prefix = (ha, tt); types = (tt, (tt, (from, (tt, (tt, (to, tt)))))); all = refl }

pub says_choice : (a b c : ValueText) (t : HwType) → IsOperand a → IsOperand b → IsOperand c → IsAnyType t
    → IsViewAs format.Choice (pending (a ∷ b ∷ c ∷ []) (t ∷ []) nothing)
unfolding prefix_elements type_elements
says_choice a b c t ha hb hc type = record { prefix = (ha, (tt, (hb, (tt, (hc, tt))))); types = (tt, (type, tt)); all = refl }

pub says_truth : (z : ℤ) → is_truth z ≡ true → IsViewAs format.Truth (pending [] (int 1 ∷ []) (number z))
unfolding prefix_elements type_elements
says_truth z truth = record { prefix = (truth, tt); types = tt; all = refl }

pub says_integer : (z : ℤ) (t : HwType) → IsInteger z → IsAnyType t → IsViewAs format.Integer (pending [] (t ∷ []) (number z))
unfolding prefix_elements type_elements
says_integer z t whole type = record { prefix = (whole, tt); types = (tt, (type, tt)); all = refl }

pub says_aggregate : (ls : Literals) (t : HwType) → AreLiterals ls 31 → IsAnyType t → IsViewAs format.Aggregate (pending [] (t ∷ []) (literals ls))
unfolding prefix_elements type_elements
says_aggregate ls t h type = record { prefix = (h, tt); types = (tt, (type, tt)); all = refl }

pub says_element : (a i : ValueText) (t u : HwType) → IsOperand a → IsOperand i → IsAnyType t → IsAnyType u
    → IsViewAs format.Element (pending (a ∷ i ∷ []) (t ∷ u ∷ []) nothing)
unfolding prefix_elements type_elements
says_element a i t u ha hi array index = record { prefix = (ha, (tt, (hi, (tt, tt)))); types = (tt, (array, (tt, (index, tt)))); all = refl }

pub says_slice : (a i : ValueText) (t u : HwType) → IsOperand a → IsOperand i → IsAnyType t → IsAnyType u
    → IsViewAs format.Slice (pending (a ∷ i ∷ []) (t ∷ u ∷ []) nothing)
unfolding prefix_elements type_elements
says_slice a i t u ha hi from to = record { prefix = (ha, (tt, (hi, (tt, tt)))); types = (tt, (tt, (from, (tt, (tt, (to, tt)))))); all = refl }

pub says_element_change : (a i v : ValueText) (t u : HwType) → IsOperand a → IsOperand i → IsOperand v → IsAnyType t → IsAnyType u
    → IsViewAs format.ElementChange (pending (a ∷ i ∷ v ∷ []) (t ∷ u ∷ []) nothing)
unfolding prefix_elements type_elements
says_element_change a i v t u ha hi hv array index =
    record { prefix = (ha, (tt, (hi, (tt, (tt, (hv, tt)))))); types = (tt, (array, (tt, (index, tt)))); all = refl }

pub says_struct : (os : List ValueText) (t : HwType) → Each IsOperand os → IsAnyType t → IsViewAs format.Struct (pending os (t ∷ []) nothing)
unfolding prefix_elements type_elements
says_struct os t h type = record { prefix = (h, tt); types = (tt, (type, tt)); all = refl }

pub says_field : (a : ValueText) (name : Name) (t : HwType) → IsOperand a → AreBytes name → IsAnyType t
    → IsViewAs format.Field (pending (a ∷ []) (t ∷ []) (field_name name))
unfolding prefix_elements type_elements
says_field a name t ha small type = record { prefix = (ha, (tt, (small, (tt, tt)))); types = (tt, (type, tt)); all = refl }

pub says_field_change : (a v : ValueText) (name : Name) (t : HwType) → IsOperand a → IsOperand v → AreBytes name → IsAnyType t
    → IsViewAs format.FieldChange (pending (a ∷ v ∷ []) (t ∷ []) (field_name name))
unfolding prefix_elements type_elements
says_field_change a v name t ha hv small type = record { prefix = (ha, (tt, (small, (tt, (tt, (hv, tt)))))); types = (tt, (type, tt)); all = refl }

pub says_instance : (i : Instance) (os : List ValueText) (ts : List HwType) → IsInstance i os ts → IsViewAs format.Instance (pending os ts (child i))
unfolding prefix_elements type_elements
says_instance i os ts h = record { prefix = (h, tt); types = tt; all = refl }

pub says_nothing : IsViewAs format.Nothing (pending [] [] nothing)
unfolding prefix_elements type_elements
says_nothing = record { prefix = tt; types = tt; all = refl }

pub says_register : (a c : ValueText) (t : HwType) → IsOperand a → IsOperand c → IsAnyType t
    → IsViewAs format.Register (pending (a ∷ c ∷ []) (t ∷ []) nothing)
unfolding prefix_elements type_elements
says_register a c t ha hc type = record { prefix = (ha, (tt, (hc, (tt, tt)))); types = (tt, (type, tt)); all = refl }

pub says_reset_register : (a c r v : ValueText) (t : HwType) → IsOperand a → IsOperand c → IsOperand r → IsOperand v → IsAnyType t
    → IsViewAs format.Register (pending (a ∷ c ∷ r ∷ v ∷ []) (t ∷ []) with_reset)
unfolding prefix_elements type_elements
says_reset_register a c r v t ha hc hr hv type = record { prefix = (ha, (tt, (hc, ((hr, hv), tt)))); types = (tt, (type, tt)); all = refl }

pub says_enabled : (a c e : ValueText) (t : HwType) → IsOperand a → IsOperand c → IsOperand e → IsAnyType t
    → IsViewAs format.EnabledRegister (pending (a ∷ c ∷ e ∷ []) (t ∷ []) nothing)
unfolding prefix_elements type_elements
says_enabled a c e t ha hc he type = record { prefix = (ha, (tt, (hc, (tt, (he, (tt, tt)))))); types = (tt, (type, tt)); all = refl }

pub says_reset_enabled : (a c e r v : ValueText) (t : HwType) → IsOperand a → IsOperand c → IsOperand e → IsOperand r → IsOperand v → IsAnyType t
    → IsViewAs format.EnabledRegister (pending (a ∷ c ∷ e ∷ r ∷ v ∷ []) (t ∷ []) with_reset)
unfolding prefix_elements type_elements
says_reset_enabled a c e r v t ha hc he hr hv type =
    record { prefix = (ha, (tt, (hc, (tt, (he, ((hr, hv), tt)))))); types = (tt, (type, tt)); all = refl }

pub says_clocked : (a c : ValueText) (t : HwType) → IsOperand a → IsOperand c → IsAnyType t
    → IsViewAs format.ClockedRegister (pending (a ∷ c ∷ []) (t ∷ []) nothing)
unfolding prefix_elements type_elements
says_clocked a c t ha hc type = record { prefix = (ha, (tt, (hc, (tt, tt)))); types = (tt, (type, tt)); all = refl }

pub says_reset_clocked : (a c r v : ValueText) (t : HwType) → IsOperand a → IsOperand c → IsOperand r → IsOperand v → IsAnyType t
    → IsViewAs format.ClockedRegister (pending (a ∷ c ∷ r ∷ v ∷ []) (t ∷ []) with_reset)
unfolding prefix_elements type_elements
says_reset_clocked a c r v t ha hc hr hv type = record { prefix = (ha, (tt, (hc, ((hr, hv), tt)))); types = (tt, (type, tt)); all = refl }

pub says_async_reset_clocked : (a c r v : ValueText) (t : HwType) → IsOperand a → IsOperand c → IsOperand r → IsOperand v → IsAnyType t
    → IsViewAs format.ClockedRegister (pending (a ∷ c ∷ r ∷ v ∷ []) (t ∷ []) with_async_reset)
unfolding prefix_elements type_elements
says_async_reset_clocked a c r v t ha hc hr hv type = record { prefix = (ha, (tt, (hc, ((hr, hv), tt)))); types = (tt, (type, tt)); all = refl }
