-- A wire is taken out, its operand standing for its result: the design follows.
use Rattle.std.proofs.Common.{◌≡◌, ◌⊎◌, ℕ, zero, suc, List, [], ◌∷◌, map, slice_get, false, Option, Some, None, refl, sym, ap, ap₂, subst, ◌∙◌, inl, inr, arith, length-set, option_and_then}
use Rattle.std.proofs.lemmas.Option.{slice_get-map}
use mathlib.Core.Path.{subst₂}
use Rattle.wiring.proofs.Lists.{map-map}
use Rattle.wiring.specs.Wiring.{greatest}
use Rattle.hw_model.specs.Types.{Name, HwType}
use Rattle.hw_model.specs.Design.{Ref, OpResult, Op, Module, Design, find_module, instance_in, register_form, is_output_kind, result_type}
use Rattle.hw_model.specs.Design.Ref.{result}
use Rattle.hw_model.specs.Value.{op_value}
use Rattle.hw_model.specs.Flat.{net, Slot, registers}
use Rattle.hw_model.specs.Sound.{body_of, type_in, Fits, SoundBody}
use Rattle.edit_laws.specs.Edit.{is_anchor}
use Rattle.edit_laws.specs.Falls.{LocalHeight}
use Rattle.edit_laws.specs.Follows.{SameEdit, Valid, Follows}
use Rattle.edit_laws.specs.Laws.{erase_op, with_body, IsNotOf, Erased}
use Rattle.edit_laws.proofs.Edited.{edit_slot, registers_same}
use Rattle.edit_laws.proofs.Follows.{no_same_edit, follows_each, set_each}
use Rattle.edit_laws.proofs.Heights.{local_height}
use Rattle.edit_laws.proofs.TakeOut.{take_out_same}
use Rattle.inline_laws.specs.Unwire.{IsWireAt}

module _ (md : Module) (i : ℕ) (o : Op) (t : HwType) (x : Ref) (is : IsWireAt md.body i o t x) where
  wire_plain : is_anchor o ≡ false
  wire_plain = plain o (ap register_form is.kind_is) (ap instance_in is.kind_is) (ap is_output_kind is.kind_is)
    where
      plain : (y : Op) → register_form y.kind ≡ None → instance_in y.kind ≡ None → is_output_kind y.kind ≡ false → is_anchor y ≡ false
      plain y r n u = simp (r, n, u)

  wire_types : (k : ℕ) → result_type o k ≡ slice_get (t ∷ []) k
  wire_types k = sym (slice_get-map (λ (r : OpResult). r.type) o.results k) ∙ ap (λ ts. slice_get ts k) is.result_is

  wire_height : (h : Ref → ℕ) → LocalHeight md.body h → h (result i 0) ≡ suc (greatest (h x ∷ []))
  wire_height h local = local.made i 0 o t is.there wire_plain (wire_types 0) ∙ ap (λ rs. suc (greatest (map h rs))) is.operand_is

  module _ (d : Design) (sound : SoundBody d md.ports md.body) (h : Ref → ℕ) (local : LocalHeight md.body h) where
    operand_type : type_in md.ports md.body x ≡ Some t
    operand_type =
        let fits : Fits o.kind o.types (map (type_in md.ports md.body) o.operands) t 0 = sound.ops i o is.there 0 t (wire_types 0) in
        let same : map (type_in md.ports md.body) o.operands ≡ Some t ∷ [] = subst (λ k. Fits k o.types (map (type_in md.ports md.body) o.operands) t 0) is.kind_is fits in
        let one : type_in md.ports md.body x ∷ [] ≡ Some t ∷ [] = sym (ap (map (type_in md.ports md.body)) is.operand_is) ∙ same in
        cc

    other_operand : IsNotOf i x
    other_operand k same = go k (sym operand_type ∙ ap (type_in md.ports md.body) same ∙ ap (λ y. option_and_then (λ (z : Op). result_type z k) y) is.there ∙ wire_types k) same
      where
        go : (k : ℕ) → Some t ≡ slice_get (t ∷ []) k → x ≡ result i k → ⊥
        go zero typed itself =
            let height : h (result i 0) ≡ suc (greatest (h x ∷ [])) = wire_height h local in
            let equal : h x ≡ h (result i 0) = ap h itself in
            absurd (omega arith)
        go (suc k) typed itself = cc

    wire_erased : Erased md i o t x
    wire_erased = record {
      there = is.there;
      plain = wire_plain;
      result_is = wire_types 0;
      no_more = λ k. wire_types (suc k);
      stand_is = operand_type;
      stand_stays = other_operand;
      lower = λ g lower. let height : g (result i 0) ≡ suc (greatest (g x ∷ [])) = wire_height g lower in omega arith;
      words = λ τ holds wide. ap₂ (λ kind rs. op_value kind o.types t 0 (map τ rs)) is.kind_is is.operand_is;
    }

-- so it may be taken out, in a module of a valid design
pub wire_erased_in : (d : Design) (s : Name) (md : Module) (i : ℕ) (o : Op) (t : HwType) (x : Ref) → Valid d → find_module d s ≡ Some md → IsWireAt md.body i o t x
    → Erased md i o t x
wire_erased_in d s md i o t x valid was is =
    let height = valid.heights s in
    wire_erased md i o t x is d (valid.sound s md was) (λ r. height.0 (net [] r))
    (subst (λ y. LocalHeight (body_of y) (λ r. height.0 (net [] r))) was (local_height d s height.0 height.1 []))

-- each module is edited in a way that keeps what it does
pub wire_edits : (d : Design) (m : ℕ) (md : Module) (i : ℕ) (o : Op) (t : HwType) (x : Ref) → Valid d → slice_get d m ≡ Some md → IsWireAt md.body i o t x
    → (s : Name) → SameEdit (find_module d s) (find_module (with_body d m md (erase_op i x md.body)) s)
wire_edits d m md i o t x valid at_m is s = go (set_each Change (λ y. inr refl) d m md (record md { body = erase_op i x md.body }) at_m refl (inl (refl, refl)) s)
  where
    Change : Option Module → Option Module → Type 0
    Change old new = ((old ≡ Some md) × (new ≡ Some (record md { body = erase_op i x md.body }))) ⊎ (new ≡ old)

    changed : find_module d s ≡ Some md → SameEdit (Some md) (Some (record md { body = erase_op i x md.body }))
    changed was = take_out_same md i o t x (wire_erased_in d s md i o t x valid was is)

    go : Change (find_module d s) (find_module (with_body d m md (erase_op i x md.body)) s) → SameEdit (find_module d s) (find_module (with_body d m md (erase_op i x md.body)) s)
    go (inl (was, now)) = subst₂ SameEdit (sym was) (sym now) (changed was)
    go (inr same) = subst (SameEdit (find_module d s)) (sym same) (no_same_edit (find_module d s))

pub unwire_preserves : (d : Design) (m : ℕ) (md : Module) (i : ℕ) (o : Op) (t : HwType) (x : Ref) → Valid d → slice_get d m ≡ Some md → IsWireAt md.body i o t x
    → Follows d (with_body d m md (erase_op i x md.body))
unwire_preserves d m md i o t x valid at_m is =
    follows_each d (with_body d m md (erase_op i x md.body)) (length-set d m (record md { body = erase_op i x md.body })) (wire_edits d m md i o t x valid at_m is) valid

-- ---- the types of registers

abbrev pub slot_type : Slot → Option HwType
slot_type r = result_type r.op 0

-- the types of the registers of a flattened module, in the order of its content
abbrev pub register_types : Design → Name → List (Option HwType)
register_types d s = map slot_type (registers d s)

pub unwire_types : (d : Design) (m : ℕ) (md : Module) (i : ℕ) (o : Op) (t : HwType) (x : Ref) → Valid d → slice_get d m ≡ Some md → IsWireAt md.body i o t x
    → (s : Name) → register_types (with_body d m md (erase_op i x md.body)) s ≡ register_types d s
unwire_types d m md i o t x valid at_m is s =
    ap (map slot_type) (registers_same d e SameEdit (λ y y' z. z.valid.edited) (no_same_edit None) (wire_edits d m md i o t x valid at_m is) s
    (length-set d m (record md { body = erase_op i x md.body })))
    ∙ map-map slot_type (edit_slot d e SameEdit (λ y y' z. z.valid.edited) (no_same_edit None) (wire_edits d m md i o t x valid at_m is) s) (registers d s)
  where
    e : Design
    e = with_body d m md (erase_op i x md.body)
