-- The leaves of a flat module are words of 1 to 128 bits.
use Rattle.std.proofs.Common.{◌≡◌, ℕ, suc, ◌≤◌, Bool, true, false, cond, List, [], ◌∷◌, ◌++◌, map, slice_get, option_map, Option, Some, None, is_some, inl, inr, refl, sym, ap, subst}
use Rattle.std.specs.List.{filter}
use Rattle.hw_model.specs.Types.{Name, HwType, width}
use Rattle.hw_model.specs.Kinds.{Kind}
use Rattle.hw_model.specs.Kinds.Kind.{register, async_firreg}
use Rattle.hw_model.specs.Design.{Port, OpResult, Op, Module, Design, RegisterForm, register_form, is_register, is_output_kind, result_type}
use Rattle.hw_model.specs.Flat.{held_width, width_of}
use Rattle.hw_model.specs.Sound.{input_types, type_in}
use Rattle.aggregate_laws.specs.Aggregates.{is_scalar}
use Rattle.aggregate_laws.specs.Scalars.{has_aggregate_port, has_aggregate_result}
use Rattle.op_checks.specs.TypeChecks.{is_outside}
use Rattle.op_verifier.specs.Headers.{has_port}
use Rattle.op_verifier.proofs.AcceptedDesigns.{no_fault}
use Rattle.op_verifier.proofs.Unrefused.{no_header_cause, module_unrefused}
use Rattle.flat_module_laws.specs.Sides.{IsPlain}
use Rattle.flat_module_laws.proofs.ScalarValues.{made_scalar}
use Rattle.flat_module_laws.proofs.FlatBodies.{plain_no_cause, plain_scalar}
use Rattle.flat_module_laws.proofs.PlainKinds.{word, made_held}
use Rattle.flat_module_gates.proofs.Linking.{HasOne}
use Rattle.flat_module_gates.proofs.SingleResults.{plain_is_single}
use Rattle.miter_blast.specs.Cuts.{AreWordWidths}
use Rattle.miter_blast.specs.Leaves.{held_widths, input_widths}

-- so many bits are a word
abbrev IsWordWidth : ℕ → Type 0
IsWordWidth w = (1 ≤ w) × (w ≤ 128)

-- ---- inputs

both_false : (b x : Bool) → cond b x true ≡ false → (b ≡ true) × (x ≡ false)
both_false true x h = (refl, h)
both_false false x h = cc

neither_true : (b x : Bool) → cond b true x ≡ false → (b ≡ false) × (x ≡ false)
neither_true true x h = cc
neither_true false x h = (refl, h)

one_more : (b : Bool) (t : HwType) (ts : List HwType) → AreWordWidths (map width ts) → IsWordWidth (width t) → AreWordWidths (map width (cond b ts (t ∷ ts)))
one_more true t ts all one w here = all w here
one_more false t ts all one w (inl same) = subst IsWordWidth (sym same) one
one_more false t ts all one w (inr here) = all w here

ports_words : (ps : List Port) → has_aggregate_port ps ≡ false → has_port (λ (q : Port). is_outside q.type) ps ≡ false → AreWordWidths (map width (input_types ps))
ports_words [] scalar inside = λ w here. absurd here
ports_words (p ∷ ps) scalar inside =
    let first = both_false (is_scalar p.type) (has_aggregate_port ps) scalar in
    let within = neither_true (is_outside p.type) (has_port (λ (q : Port). is_outside q.type) ps) inside in
    one_more p.is_output p.type (input_types ps) (ports_words ps first.1 within.1) (word p.type first.0 within.0)

-- ---- registers

registers_words : (os : List Op) → ((i : ℕ) (o : Op) → slice_get os i ≡ Some o → is_register o ≡ true → IsWordWidth (held_width o)) → AreWordWidths (held_widths os)
registers_words [] all = λ w here. absurd here
registers_words (o ∷ os) all = go (is_register o) refl (registers_words os (λ i p at. all (suc i) p at))
  where
    go : (b : Bool) → is_register o ≡ b → AreWordWidths (held_widths os) → AreWordWidths (map held_width (cond b (o ∷ filter is_register os) (filter is_register os)))
    go true is rest w (inl same) = subst IsWordWidth (sym same) (all 0 o refl is)
    go true is rest w (inr here) = rest w here
    go false is rest w here = rest w here

form_of : (x : Option RegisterForm) → is_some x ≡ true → (f : RegisterForm) × (x ≡ Some f)
form_of None h = cc
form_of (Some f) h = (f, refl)

no_output : (k : Kind) (f : RegisterForm) → register_form k ≡ Some f → is_output_kind k ≡ true → ⊥
no_output (register g r) f is out = cc
no_output async_firreg f is out = cc
no_output k f is out = cc

module _ (d : Design) (top : Name) (m : Module) (plain : IsPlain d top m) where
  module _ (i : ℕ) (o : Op) (at : slice_get m.body i ≡ Some o) (f : RegisterForm) (is : register_form o.kind ≡ Some f) (one : OpResult) (results : o.results ≡ one ∷ []) where
    typed : result_type o 0 ≡ Some one.type
    typed = ap (λ (rs : List OpResult). option_map (λ (r : OpResult). r.type) (slice_get rs 0)) results

    held_is : held_width o ≡ width one.type
    held_is = ap width_of typed

    held_word : IsWordWidth (held_width o)
    held_word =
        subst IsWordWidth (sym held_is)
        (made_held _ _ _ _ o.types (map (λ (r : OpResult). r.type) o.results) (map (type_in m.ports m.body) o.operands) one.type 0
        (ap (λ (rs : List OpResult). slice_get (map (λ (r : OpResult). r.type) rs) 0) results) (made_scalar m plain.scalar i 0 o one.type at typed)
        (plain_scalar d top m plain o.operands) o.kind f is (plain_no_cause d top m plain i o at))

  register_word : (i : ℕ) (o : Op) → slice_get m.body i ≡ Some o → is_register o ≡ true → IsWordWidth (held_width o)
  register_word i o at is =
      let form = form_of (register_form o.kind) is in
      go form.0 form.1 (plain_is_single d top m plain i o at)
    where
      go : (f : RegisterForm) → register_form o.kind ≡ Some f → HasOne o → IsWordWidth (held_width o)
      go f form (inl out) = absurd (no_output o.kind f form out.0)
      go f form (inr one) = held_word i o at f form one.0 one.1

  inputs_are : AreWordWidths (input_widths m.ports)
  inputs_are =
      let whole = neither_true (has_aggregate_port m.ports) (has_aggregate_result m.body) plain.scalar in
      let header = module_unrefused d (no_fault d plain.accepted) top m plain.found in
      ports_words m.ports whole.0 (no_header_cause d header.number m header.header).types

  pub leaf_words : AreWordWidths (input_widths m.ports ++ held_widths m.body)
  leaf_words = joined (input_widths m.ports) inputs_are (registers_words m.body register_word)
    where
      joined : (ws : List ℕ) → AreWordWidths ws → AreWordWidths (held_widths m.body) → AreWordWidths (ws ++ held_widths m.body)
      joined [] all rest w here = rest w here
      joined (x ∷ ws) all rest w (inl same) = all w (inl same)
      joined (x ∷ ws) all rest w (inr here) = joined ws (λ v there. all v (inr there)) rest w here
