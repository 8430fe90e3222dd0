-- A register of a fit design may become one without enable and reset that loads a value which always is what it would load.
use Rattle.std.proofs.Common.{◌≡◌, ℕ, Bool, true, false, cond, List, [], ◌∷◌, length, map, set, Option, Some, None, slice_get, refl, sym, ap, subst, ◌∙◌}
use Rattle.std.specs.List.{list_any}
use Rattle.bits_core.specs.Word.{Word}
use Rattle.hw_model.specs.Types.{HwType}
use Rattle.hw_model.specs.Types.HwType.{clock}
use Rattle.hw_model.specs.Kinds.{Kind, RegisterOp}
use Rattle.hw_model.specs.Kinds.RegisterOp.{compreg, compreg_ce, firreg}
use Rattle.hw_model.specs.Kinds.Reset.{no_reset}
use Rattle.hw_model.specs.Kinds.Kind.{register}
use Rattle.hw_model.specs.Opcodes.{opcode_of}
use Rattle.opcode.specs.Listed.{name_of_listed}
use Rattle.hw_model.specs.Design.{Ref, Op, Module, Design, takes_enable, is_register}
use Rattle.hw_model.specs.Design.Ref.{result}
use Rattle.hw_model.specs.Flat.{Register, register_in, async_reset_in}
use Rattle.hw_model.specs.Meaning.{next_value, reset, value_if_enabled}
use Rattle.hw_model.specs.Sound.{type_in, register_types, Fits}
use Rattle.hw_model.specs.Value.{is_high}
use Rattle.type_inference.specs.ResultTypes.{result_types, result_type as type_of_result, result_count}
use Rattle.stored_form.specs.Dictionaries.{has_name, takes_bin, string_keys, IsKeptDictionary}
use Rattle.stored_form.specs.Kinds.{KeepsConstants, IsWritten}
use Rattle.op_checks.specs.CountChecks.{operands_written, operand_count, type_count, has_miscounted_parts}
use Rattle.op_checks.specs.LimitChecks.{value_types, has_constant_outside, has_extract_outside, has_broken_copy, has_wide_concat, has_unknown_divisor, has_wrong_index, has_unequal_widths, has_clock_operand}
use Rattle.op_checks.specs.OperandChecks.{has_other_form, has_other_operand}
use Rattle.op_checks.specs.OwnChecks.{own_cause}
use Rattle.op_checks.specs.TypeChecks.{is_clock}
use Rattle.op_checks.proofs.NoOwnCause.{NoOwnCause}
use Rattle.op_verifier.specs.OpChecks.{settled_type, divides_by_constant, has_undefined, alone_cause}
use Rattle.op_verifier.proofs.NoCauseAlone.{types_of}
use Rattle.printing_laws.specs.NameHints.{is_pack}
use Rattle.printing_laws.specs.Printable.{IsPrintableOp, settled_result}
use Rattle.printing_laws.proofs.VerifiedDesigns.{all_defined}
use Rattle.edit_laws.specs.Edit.{Holds}
use Rattle.edit_laws.specs.Laws.{with_body}
use Rattle.edit_laws.specs.Registers.{Reloaded}
use Rattle.edit_laws.proofs.ReloadFollows.{replace_register_preserves}
use Rattle.acceptance_laws.specs.Keeps.{IsFitting, IsFit}
use Rattle.acceptance_laws.proofs.ChangedInPlace.{fit_reloaded}
use Rattle.fold_laws.proofs.NewOps.{own_none}
use Rattle.pass_laws.specs.Steady.{IsSteady}
use Rattle.pass_laws.proofs.Shapes.{shape_register}
use Rattle.pass_laws.proofs.Steady.{steady_with_body}
use Rattle.seq_lower.specs.Lowered.{clocked_register, plain_form, plain_kind, plain_register}
use Rattle.seq_lower.proofs.RegisterFacts.{HasForm, IsRegister}
use Rattle.seq_lower.proofs.MuxPutIn.{same_differs, neither_of, only_one, defined_more, only_result, values_none, settled_types, own_of_type}

-- ---- causes

-- a plain register of the type that a register writes has no cause of its own
plain_own : (kind : Kind) (f : RegisterOp) (t : HwType) (rs : List HwType) (named named' n : ℕ) (xs : List (Option HwType)) (known known' : Bool) → value_types kind (t ∷ []) ≡ t ∷ [] → named' ≡ 1
    → NoOwnCause kind (t ∷ []) rs named n xs known → NoOwnCause (register (plain_form f) no_reset) (t ∷ []) (t ∷ []) named' 2 (Some t ∷ Some clock ∷ []) known'
unfolding has_other_form has_other_operand type_of_result result_types result_count has_constant_outside has_extract_outside has_broken_copy has_wide_concat has_unknown_divisor has_wrong_index has_unequal_widths has_clock_operand has_miscounted_parts operands_written operand_count type_count
plain_own kind f t rs named named' n xs known known' written one own = record {
  form = refl;
  operand = asked f;
  result = neither_of _ _ (same_differs t) refl;
  written = own.written;
  leaf = refl;
  array = refl;
  constant = refl;
  extract = refl;
  copy = refl;
  wide = refl;
  divisor = refl;
  index = refl;
  field_names = own.field_names;
  field = refl;
  widths = refl;
  clock_part = own.clock_part;
  clock_type = no_clock;
  clock_operand = neither_of _ _ (only_one is_clock t no_clock) refl;
  operands = two f;
  types = refl;
  names = one;
  results = refl;
  parts = refl;
}
  where
    no_clock : list_any is_clock (t ∷ []) ≡ false
    no_clock = subst (λ ts. list_any is_clock ts ≡ false) written own.clock_type

    asked : (f : RegisterOp) → has_other_operand (register (plain_form f) no_reset) (t ∷ []) (Some t ∷ Some clock ∷ []) ≡ false
    asked compreg = neither_of _ _ (neither_of _ _ (same_differs t) refl) refl
    asked compreg_ce = neither_of _ _ (neither_of _ _ (same_differs t) refl) refl
    asked firreg = neither_of _ _ (neither_of _ _ (same_differs t) refl) refl

    two : (f : RegisterOp) → 2 ≡ operand_count (register (plain_form f) no_reset) (t ∷ []) 2
    two compreg = refl
    two compreg_ce = refl
    two firreg = refl

two_same : {A : Type 0} (a b a' b' : A) → a ≡ a' → b ≡ b' → a ∷ b ∷ [] ≡ a' ∷ b' ∷ []
two_same a b a' b' p q = rw (p, q) refl

-- what is loaded
plain_loads : (r : Register) (x : Ref) (τ : Ref → Word) (old : Word) → τ x ≡ reset r.reset τ (value_if_enabled r.enable τ old (τ r.next))
    → next_value (Some (record { next = x; clock = r.clock; enable = None; reset = None })) τ old ≡ next_value (Some r) τ old
plain_loads r x τ old is = ap (λ w. cond (is_high (τ r.clock)) w old) is

module _ (d : Design) (fit : IsFit d) (k : ℕ) (md : Module) (at : slice_get d k ≡ Some md) (i : ℕ) (o : Op) (r : Register) (t : HwType) (is : IsRegister md i o r t)
    (f : HasForm o r) (x : Ref) (typed : type_in md.ports md.body x ≡ Some t)
    (loads : (τ : Ref → Word) → Holds md.body τ → τ x ≡ reset r.reset τ (value_if_enabled r.enable τ (τ (result i 0)) (τ r.next))) where
  abbrev new : Op
  new = plain_register o x r.clock

  kind_is : plain_kind o.kind ≡ register (plain_form f.form) no_reset
  kind_is = ap plain_kind f.kind

  operand_types : map (type_in md.ports md.body) (x ∷ r.clock ∷ []) ≡ Some t ∷ Some clock ∷ []
  operand_types = two_same _ _ _ _ typed is.parts.clock_typed

  all_there : has_undefined md.ports md.body (x ∷ r.clock ∷ []) ≡ false
  all_there = defined_more md.ports md.body x (r.clock ∷ []) t typed (defined_more md.ports md.body r.clock [] clock is.parts.clock_typed refl)

  named_one : o.named ≡ 1
  named_one = is.printable.named ∙ ap length is.results

  alone : alone_cause md.ports md.body new ≡ None
  alone =
      ap (λ z. own_cause z o.types (types_of o.results) o.named (map (settled_type md.ports md.body) (x ∷ r.clock ∷ [])) (divides_by_constant md.body (x ∷ r.clock ∷ []))) kind_is
      ∙ ap (λ ts. own_cause (register (plain_form f.form) no_reset) ts (types_of o.results) o.named (map (settled_type md.ports md.body) (x ∷ r.clock ∷ [])) (divides_by_constant md.body (x ∷ r.clock ∷ []))) is.types
      ∙ ap (λ rs. own_cause (register (plain_form f.form) no_reset) (t ∷ []) (types_of rs) o.named (map (settled_type md.ports md.body) (x ∷ r.clock ∷ [])) (divides_by_constant md.body (x ∷ r.clock ∷ []))) is.results
      ∙ ap (λ xs. own_cause (register (plain_form f.form) no_reset) (t ∷ []) (t ∷ []) o.named xs (divides_by_constant md.body (x ∷ r.clock ∷ [])))
      (settled_types d fit k md at i o r t is f (x ∷ r.clock ∷ []) ∙ operand_types)
      ∙ own_none (register (plain_form f.form) no_reset) (t ∷ []) (t ∷ []) o.named (Some t ∷ Some clock ∷ []) (divides_by_constant md.body (x ∷ r.clock ∷ []))
      (plain_own o.kind f.form t (types_of o.results) o.named o.named (length o.operands) (map (settled_type md.ports md.body) o.operands) (divides_by_constant md.body o.operands)
      (divides_by_constant md.body (x ∷ r.clock ∷ [])) (ap (λ z. value_types z (t ∷ [])) f.kind) named_one (own_of_type d fit k md at i o r t is f))

  -- the register of a form can be printed as a plain one can
  printable_as : (g : RegisterOp) → o.kind ≡ register g f.with_reset → plain_kind o.kind ≡ register (plain_form g) no_reset → IsPrintableOp md.ports md.body new
  unfolding operands_written type_count result_types type_of_result name_of_listed
  printable_as g old kind = record {
    defined = all_defined md.ports md.body (x ∷ r.clock ∷ []) all_there;
    operands = two g ∙ ap (λ z. operands_written z 2) (sym kind);
    types = ap length is.types ∙ ap (λ z. type_count z 2) (sym kind);
    readable = is.printable.readable;
    results = is.results ∙ ap (λ ts. map settled_result (result_types (register (plain_form g) no_reset) ts 2)) (sym is.types)
        ∙ ap (λ z. map settled_result (result_types z o.types 2)) (sym kind);
    named = is.printable.named;
    few = λ pack. let clash : false ≡ true = ap (λ z. is_pack z (length o.results)) (sym kind) ∙ pack in cc;
    kept = subst (λ z. KeepsConstants z o.types) (sym kind) tt;
    written = subst IsWritten (sym kind) tt;
    nameless = λ none. let clash : true ≡ false = sym (named_form g) ∙ ap (λ z. has_name (opcode_of z)) (sym kind) ∙ none in cc;
    name = is.printable.name;
    dictionary =
        subst (λ z. IsKeptDictionary (opcode_of z) (string_keys (opcode_of z)) o.dictionary) (sym kind)
        (kept_form g (subst (λ z. IsKeptDictionary (opcode_of z) (string_keys (opcode_of z)) o.dictionary) old is.printable.dictionary));
    bin = λ marked. let clash : true ≡ false = sym (is.printable.bin marked) ∙ ap (λ z. takes_bin (opcode_of z)) old ∙ no_bin g in cc;
  }
    where
      two : (g : RegisterOp) → 2 ≡ operands_written (register (plain_form g) no_reset) 2
      two compreg = refl
      two compreg_ce = refl
      two firreg = refl

      named_form : (g : RegisterOp) → has_name (opcode_of (register (plain_form g) no_reset)) ≡ true
      named_form compreg = refl
      named_form compreg_ce = refl
      named_form firreg = refl

      no_bin : (g : RegisterOp) → takes_bin (opcode_of (register g f.with_reset)) ≡ false
      no_bin compreg = refl
      no_bin compreg_ce = refl
      no_bin firreg = refl

      kept_form : (g : RegisterOp) → IsKeptDictionary (opcode_of (register g f.with_reset)) (string_keys (opcode_of (register g f.with_reset))) o.dictionary
          → IsKeptDictionary (opcode_of (register (plain_form g) no_reset)) (string_keys (opcode_of (register (plain_form g) no_reset))) o.dictionary
      kept_form compreg kept = kept
      kept_form compreg_ce kept = record { in_order = kept.in_order; kept = kept.kept; entries = kept.entries }
      kept_form firreg kept = kept

  fitting : IsFitting md.ports md.body new
  fitting = record {
    values = values_none t o.results is.results (has_undefined md.ports md.body (x ∷ r.clock ∷ [])) all_there;
    alone = alone;
    printable = printable_as f.form f.kind kind_is;
  }

  -- it is a register without asynchronous reset, as the old one is
  both_registers : (is_register o ≡ true) × (is_register new ≡ true) × (async_reset_in new ≡ async_reset_in o)
      × (register_in o ≡ Some r) × (register_in new ≡ Some (record { next = x; clock = r.clock; enable = None; reset = None }))
  both_registers = go o.kind f.form f.kind is.is
    where
      go : (z : Kind) (g : RegisterOp) → z ≡ register g f.with_reset → clocked_register (record o { kind = z }) ≡ Some r
          → (is_register (record o { kind = z }) ≡ true) × (is_register (plain_register (record o { kind = z }) x r.clock) ≡ true)
          × (async_reset_in (plain_register (record o { kind = z }) x r.clock) ≡ async_reset_in (record o { kind = z }))
          × (register_in (record o { kind = z }) ≡ Some r)
          × (register_in (plain_register (record o { kind = z }) x r.clock) ≡ Some (record { next = x; clock = r.clock; enable = None; reset = None }))
      go (register compreg s) g same h = (refl, refl, refl, h, refl)
      go (register compreg_ce s) g same h = (refl, refl, refl, h, refl)
      go (register firreg s) g same h = (refl, refl, refl, h, refl)
      go _ g same h = cc

  change : Reloaded md i o new
  change = record {
    there = is.there;
    old_register = both_registers.0;
    new_register = both_registers.1;
    same_types = λ n. refl;
    fits = λ n u of.
        let same : t ≡ u = only_result t o.results is.results n u of in
        subst (λ z. Fits z o.types (map (type_in md.ports md.body) (x ∷ r.clock ∷ [])) u n) (sym kind_is)
        (operand_types ∙ ap (λ v. Some v ∷ Some clock ∷ []) same ∙ asked f.form u);
    async_is = both_registers.2;
    loads = λ τ holds wide old held.
        ap (λ z. next_value z τ old) both_registers.4
        ∙ plain_loads r x τ old (loads τ holds ∙ ap (λ w. reset r.reset τ (value_if_enabled r.enable τ w (τ r.next))) held)
        ∙ sym (ap (λ z. next_value z τ old) both_registers.3);
  }
    where
      asked : (g : RegisterOp) (u : HwType) → Some u ∷ Some clock ∷ [] ≡ register_types (takes_enable (plain_form g)) no_reset u
      asked compreg u = refl
      asked compreg_ce u = refl
      asked firreg u = refl

  -- the design with it follows
  pub plain_loaded : IsSteady d (with_body d k md (set md.body i new))
  plain_loaded =
      steady_with_body d k md (set md.body i new) at (replace_register_preserves d k md i o new fit.valid at change)
      (fit_reloaded d k md i o new fit at change fitting)
      (shape_register o new both_registers.0 both_registers.1 refl md.body i is.there)
