-- A mux of the type of a register of a fit design may be put in.
use Rattle.std.proofs.Common.{◌≡◌, ℕ, zero, suc, Bool, true, false, cond, not, ◌||◌, List, [], ◌∷◌, length, map, Option, Some, None, slice_get, refl, sym, ap, subst, ◌∙◌, arith, option_map}
use Rattle.std.specs.Prelude.{is_some}
use Rattle.std.specs.List.{list_any}
use Rattle.std.proofs.lemmas.Option.{slice_get_within}
use Rattle.wiring.proofs.Members.{map_same}
use Rattle.hw_model.specs.SameType.{type_self}
use Rattle.hw_model.specs.Types.{HwType}
use Rattle.hw_model.specs.Types.HwType.{int}
use Rattle.hw_model.specs.Kinds.{Kind}
use Rattle.hw_model.specs.Kinds.Kind.{mux}
use Rattle.hw_model.specs.Design.{Ref, Port, OpResult, Op, Module, Design}
use Rattle.hw_model.specs.Flat.{Register}
use Rattle.hw_model.specs.Sound.{type_in}
use Rattle.type_inference.specs.ResultTypes.{result_types, result_type as type_of_result, result_count}
use Rattle.op_checks.specs.CountChecks.{operands_written, operand_count, type_count, has_miscounted_parts}
use Rattle.op_checks.specs.LimitChecks.{value_types, has_constant_outside, has_extract_outside, has_broken_copy, has_wide_concat, has_unknown_divisor, has_wrong_index, has_unequal_widths, has_clock_operand}
use Rattle.op_checks.specs.OperandChecks.{has_other_form, has_other_operand}
use Rattle.op_checks.specs.TypeChecks.{is_clock}
use Rattle.op_checks.specs.TypeLists.{differs}
use Rattle.op_checks.specs.OwnChecks.{own_cause}
use Rattle.op_checks.proofs.NoOwnCause.{NoOwnCause}
use Rattle.op_checks.proofs.Widths.{neither}
use Rattle.diag.specs.declared.cause.Cause.TheVariants as cause
use Rattle.op_verifier.specs.Answers.{when, or_else}
use Rattle.op_verifier.specs.OpChecks.{settled_type, divides_by_constant, has_again, has_undefined, alone_cause}
use Rattle.op_verifier.proofs.NoCauseAlone.{types_of}
use Rattle.printing_laws.specs.Printable.{IsPrintableOp, settled_result}
use Rattle.printing_laws.proofs.VerifiedDesigns.{all_defined}
use Rattle.edit_laws.specs.Laws.{insert_op, with_body, Inserted}
use Rattle.edit_laws.proofs.Inserted.{insert_op_preserves}
use Rattle.acceptance_laws.specs.Forms.{InsertedFits}
use Rattle.acceptance_laws.specs.Keeps.{IsFit}
use Rattle.acceptance_laws.proofs.FitBodies.{settled_here}
use Rattle.acceptance_laws.proofs.PutIn.{fit_inserted}
use Rattle.fold_laws.proofs.NewOps.{own_none}
use Rattle.pass_laws.specs.Steady.{IsSteady}
use Rattle.pass_laws.proofs.Shapes.{shape_insert}
use Rattle.pass_laws.proofs.Steady.{steady_with_body}
use Rattle.seq_lower.specs.Lowered.{mux_for}
use Rattle.seq_lower.proofs.RegisterFacts.{HasForm, IsRegister}

-- ---- causes

pub same_differs : (t : HwType) → differs (Some t) (Some t) ≡ false
same_differs t = ap not (type_self t)

pub neither_of : (a b : Bool) → a ≡ false → b ≡ false → a || b ≡ false
neither_of a b p q = rw (p, q) refl

-- what a test finds in no list of one type it does not find in that type
pub only_one : (p : HwType → Bool) (t : HwType) → list_any p (t ∷ []) ≡ false → p t ≡ false
only_one p t h = (neither (p t) false h).0

-- a mux of the type that a register writes has no cause of its own
mux_own : (kind : Kind) (t : HwType) (rs : List HwType) (named n : ℕ) (xs : List (Option HwType)) (known known' : Bool) → value_types kind (t ∷ []) ≡ t ∷ []
    → NoOwnCause kind (t ∷ []) rs named n xs known → NoOwnCause mux (t ∷ []) (t ∷ []) 1 3 (Some (int 1) ∷ Some t ∷ Some t ∷ []) known'
unfolding has_other_form has_other_operand type_of_result result_types result_count has_constant_outside has_extract_outside has_broken_copy has_wide_concat has_unknown_divisor has_wrong_index has_unequal_widths has_clock_operand has_miscounted_parts operands_written operand_count type_count
mux_own kind t rs named n xs known known' written own = record {
  form = refl;
  operand = neither_of _ _ (same_differs t) (same_differs t);
  result = neither_of _ _ (same_differs t) refl;
  written = own.written;
  leaf = refl;
  array = refl;
  constant = refl;
  extract = refl;
  copy = refl;
  wide = refl;
  divisor = refl;
  index = refl;
  field_names = own.field_names;
  field = refl;
  widths = refl;
  clock_part = own.clock_part;
  clock_type = no_clock;
  clock_operand = neither_of _ _ (only_one is_clock t no_clock) no_clock;
  operands = refl;
  types = refl;
  names = refl;
  results = refl;
  parts = refl;
}
  where
    no_clock : list_any is_clock (t ∷ []) ≡ false
    no_clock = subst (λ ts. list_any is_clock ts ≡ false) written own.clock_type

-- ---- values

pub three_same : {A : Type 0} (a b c a' b' c' : A) → a ≡ a' → b ≡ b' → c ≡ c' → a ∷ b ∷ c ∷ [] ≡ a' ∷ b' ∷ c' ∷ []
three_same a b c a' b' c' p q r = rw (p, q, r) refl

-- a value with a type is defined
pub defined_more : (ports : List Port) (os : List Op) (r : Ref) (rs : List Ref) (u : HwType) → type_in ports os r ≡ Some u → has_undefined ports os rs ≡ false
    → has_undefined ports os (r ∷ rs) ≡ false
defined_more ports os r rs u typed rest = ap (λ (x : Option HwType). cond (is_some x) (has_undefined ports os rs) true) typed ∙ rest

-- an operation with one result of type t has no result of another type
pub only_result : (t : HwType) (rs : List OpResult) → rs ≡ record { type = t; again = false } ∷ [] → (n : ℕ) (u : HwType) → option_map (λ (x : OpResult). x.type) (slice_get rs n) ≡ Some u → t ≡ u
only_result t rs is n u typed = go n (ap (λ (zs : List OpResult). option_map (λ (x : OpResult). x.type) (slice_get zs n)) (sym is) ∙ typed)
  where
    go : (n : ℕ) → option_map (λ (x : OpResult). x.type) (slice_get (record { type = t; again = false } ∷ []) n) ≡ Some u → t ≡ u
    go zero h = cc
    go (suc n) h = cc

-- nothing is refused of the values of an operation with one result and defined operands
pub values_none : (t : HwType) (rs : List OpResult) → rs ≡ record { type = t; again = false } ∷ [] → (b : Bool) → b ≡ false
    → or_else (when (has_again rs) cause.Redefined) (when b cause.Undefined) ≡ None
values_none t rs is b none = ap (λ (zs : List OpResult). or_else (when (has_again zs) cause.Redefined) (when b cause.Undefined)) is ∙ ap (λ z. or_else (when false cause.Redefined) (when z cause.Undefined)) none

-- ---- the mux

module _ (d : Design) (fit : IsFit d) (k : ℕ) (md : Module) (at : slice_get d k ≡ Some md) (i : ℕ) (o : Op) (r : Register) (t : HwType) (is : IsRegister md i o r t)
    (f : HasForm o r) where
  pub settled_types : (rs : List Ref) → map (settled_type md.ports md.body) rs ≡ map (type_in md.ports md.body) rs
  settled_types rs = map_same (settled_type md.ports md.body) (type_in md.ports md.body) rs (λ q here. settled_here d fit k md at q)

  -- the cause of a register whose form and type are told
  pub own_of_type : NoOwnCause o.kind (t ∷ []) (types_of o.results) o.named (length o.operands) (map (settled_type md.ports md.body) o.operands) (divides_by_constant md.body o.operands)
  own_of_type =
      subst (λ ts. NoOwnCause o.kind ts (types_of o.results) o.named (length o.operands) (map (settled_type md.ports md.body) o.operands) (divides_by_constant md.body o.operands))
      is.types is.alone

  module _ (c h l : Ref) (c_typed : type_in md.ports md.body c ≡ Some (int 1)) (h_typed : type_in md.ports md.body h ≡ Some t) (l_typed : type_in md.ports md.body l ≡ Some t) where
    operand_types : map (type_in md.ports md.body) (c ∷ h ∷ l ∷ []) ≡ Some (int 1) ∷ Some t ∷ Some t ∷ []
    operand_types = three_same _ _ _ _ _ _ c_typed h_typed l_typed

    all_there : has_undefined md.ports md.body (c ∷ h ∷ l ∷ []) ≡ false
    all_there =
        defined_more md.ports md.body c (h ∷ l ∷ []) (int 1) c_typed
        (defined_more md.ports md.body h (l ∷ []) t h_typed (defined_more md.ports md.body l [] t l_typed refl))

    alone : alone_cause md.ports md.body (mux_for o c h l) ≡ None
    alone =
        ap (λ ts. own_cause mux ts (types_of o.results) 1 (map (settled_type md.ports md.body) (c ∷ h ∷ l ∷ [])) (divides_by_constant md.body (c ∷ h ∷ l ∷ []))) is.types
        ∙ ap (λ (rs : List OpResult). own_cause mux (t ∷ []) (types_of rs) 1 (map (settled_type md.ports md.body) (c ∷ h ∷ l ∷ [])) (divides_by_constant md.body (c ∷ h ∷ l ∷ []))) is.results
        ∙ ap (λ xs. own_cause mux (t ∷ []) (t ∷ []) 1 xs (divides_by_constant md.body (c ∷ h ∷ l ∷ []))) (settled_types (c ∷ h ∷ l ∷ []) ∙ operand_types)
        ∙ own_none mux (t ∷ []) (t ∷ []) 1 (Some (int 1) ∷ Some t ∷ Some t ∷ []) (divides_by_constant md.body (c ∷ h ∷ l ∷ []))
        (mux_own o.kind t (types_of o.results) o.named (length o.operands) (map (settled_type md.ports md.body) o.operands) (divides_by_constant md.body o.operands)
        (divides_by_constant md.body (c ∷ h ∷ l ∷ [])) (ap (λ x. value_types x (t ∷ [])) f.kind) own_of_type)

    printable : IsPrintableOp md.ports md.body (mux_for o c h l)
    unfolding operands_written type_count result_types type_of_result
    printable = record {
      defined = all_defined md.ports md.body (c ∷ h ∷ l ∷ []) all_there;
      operands = refl;
      types = ap length is.types;
      readable = is.printable.readable;
      results = is.results ∙ ap (λ ts. map settled_result (result_types mux ts 3)) (sym is.types);
      named = sym (ap length is.results);
      few = λ pack. cc;
      kept = tt;
      written = tt;
      nameless = λ none. refl;
      name = tt;
      dictionary = record { in_order = tt; kept = tt; entries = tt };
      bin = λ none. cc;
    }

    change : Inserted md i (mux_for o c h l)
    change = record {
      within = (let inside = slice_get_within md.body i o is.there in omega (arith, inside));
      plain = refl;
      fits = λ n u typed. operand_types ∙ ap (λ v. Some (int 1) ∷ Some v ∷ Some v ∷ []) (only_result t o.results is.results n u typed);
    }

    fits : InsertedFits md i (mux_for o c h l)
    fits = record {
      before_end = slice_get_within md.body i o is.there;
      fits = record { values = values_none t o.results is.results (has_undefined md.ports md.body (c ∷ h ∷ l ∷ [])) all_there; alone = alone; printable = printable };
    }

    -- the design with it follows
    pub mux_put_in : IsSteady d (with_body d k md (insert_op i (mux_for o c h l) md.body))
    mux_put_in =
        steady_with_body d k md (insert_op i (mux_for o c h l) md.body) at
        (insert_op_preserves d k md i (mux_for o c h l) fit.valid at change)
        (fit_inserted d k md i (mux_for o c h l) fit at change fits)
        (shape_insert md.body i (mux_for o c h l) refl)
