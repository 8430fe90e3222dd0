-- An operation of any number of operands with others, and with fewer of them: what must be shown, and that it makes a fold.
use Rattle.std.proofs.Common.{◌≡◌, ℕ, ◌<◌, ◌≤◌, true, false, cond, List, [], ◌∷◌, length, map, set, Option, Some, None, slice_get, refl, sym, ap, subst, ◌∙◌, inl, inr, arith}
use Rattle.std.specs.Prelude.{is_some}
use Rattle.std.proofs.lemmas.List.{length-map}
use Rattle.wiring.specs.Wiring.{In}
use Rattle.wiring.proofs.Members.{In-map, from_In-map}
use Rattle.wiring.proofs.Options.{and_then_some, option_map_some}
use Rattle.bits_core.specs.Word.{Word}
use Rattle.hw_model.specs.Types.{Name, HwType, width}
use Rattle.hw_model.specs.Kinds.{Kind, Variadic}
use Rattle.hw_model.specs.Kinds.Kind.{variadic}
use Rattle.hw_model.specs.Design.{Ref, Port, Op, Module, Design, result_type}
use Rattle.hw_model.specs.Design.Ref.{result}
use Rattle.hw_model.specs.Sound.{HasWidth, type_in, Fits, OpFits}
use Rattle.hw_model.specs.Value.{variadic_value, op_value}
use Rattle.hw_model.specs.Weight.{kind_weight}
use Rattle.type_inference.specs.ResultTypes.{result_type as type_of_result, result_types}
use Rattle.op_checks.specs.CountChecks.{operands_written, type_count}
use Rattle.op_checks.specs.OwnChecks.{own_cause}
use Rattle.op_checks.proofs.NoOwnCause.{NoOwnCause}
use Rattle.op_verifier.specs.OpChecks.{has_again, has_undefined, settled_type, divides_by_constant, value_cause, alone_cause}
use Rattle.op_verifier.proofs.NoCauseAlone.{types_of}
use Rattle.printing_laws.specs.Printable.{IsPrintableOp, settled_result}
use Rattle.printing_laws.proofs.VerifiedDesigns.{all_defined}
use Rattle.edit_laws.specs.Edit.{result_word, HoldsBut}
use Rattle.edit_laws.specs.Falls.{LocalHeight}
use Rattle.edit_laws.specs.Follows.{Wide}
use Rattle.edit_laws.specs.Laws.{with_body, InPlace}
use Rattle.edit_laws.proofs.ChangeInPlace.{replace_op_preserves}
use Rattle.edit_laws.proofs.Uses.{operand_lower}
use Rattle.edit_laws.proofs.Weights.{position_is_lighter}
use Rattle.acceptance_laws.specs.Forms.{InPlaceFits}
use Rattle.acceptance_laws.specs.Keeps.{IsFit}
use Rattle.acceptance_laws.proofs.ChangedInPlace.{fit_in_place}
use Rattle.acceptance_laws.proofs.FitBodies.{operand_there, settled_here}
use Rattle.pass_laws.specs.Steady.{IsSteady}
use Rattle.pass_laws.proofs.Shapes.{shape_set}
use Rattle.pass_laws.proofs.Steady.{steady_with_body}
use Rattle.fold_laws.specs.Constants.{constant_at}
use Rattle.fold_laws.specs.Edits.{Edit, edited_by, fold_by}
use Rattle.fold_laws.specs.Edits.Edit.{changed}
use Rattle.fold_laws.specs.Fewer.{Operands, with_fewer, by_operands}
use Rattle.fold_laws.specs.Fold.{kind_measure, IsSmaller, IsFold, FoldLaw}
use Rattle.fold_laws.proofs.Constants.{constant_held}
use Rattle.fold_laws.proofs.MadeKinds.{is_made, made_no_constant, made_no_number}
use Rattle.fold_laws.proofs.Measures.{measure_changed}
use Rattle.fold_laws.proofs.Patterns.{PatternLaw, pattern_is_fold}
use Rattle.fold_laws.proofs.Stands.{op_found, op_plain, op_own, op_printable, op_results}
use Rattle.fold_laws.proofs.VariadicCauses.{variadic_none}

-- ---- what must be shown

-- a value that is no higher than one of these operands, and has its type
pub record IsLike (ports : List Port) (os : List Op) (rs : List Ref) (r : Ref) : Type 0 where
  pub twin : Ref
  pub named : In twin rs
  pub typed : type_in ports os r ≡ type_in ports os twin
  pub lower : (h : Ref → ℕ) → LocalHeight os h → h r ≤ h twin

pub like_itself : (ports : List Port) (os : List Op) (rs : List Ref) (r : Ref) → In r rs → IsLike ports os rs r
like_itself ports os rs r here = record { twin = r; named = here; typed = refl; lower = λ h local. omega arith }

-- no more operands, one at least, each of them like one before, and the value that it was
pub record KeepsValue (ports : List Port) (v : Variadic) (os : List Op) (rs rs' : List Ref) : Type 0 where
  pub no_more : length rs' ≤ length rs
  pub some : 1 ≤ length rs'
  pub within : (r : Ref) → In r rs' → IsLike ports os rs r
  pub words : (w : ℕ) (τ : Ref → Word) → ((r : Ref) (x : Word) → constant_at os r ≡ Some x → τ r ≡ x) → ((r : Ref) → In r rs → length (τ r) ≡ w)
      → variadic_value v w (map τ rs) ≡ variadic_value v w (map τ rs')

-- fewer operands, one at least, each of them one before, and the value that it was
pub record Reduces (v : Variadic) (os : List Op) (rs rs' : List Ref) : Type 0 where
  pub fewer : length rs' < length rs
  pub some : 1 ≤ length rs'
  pub within : (r : Ref) → In r rs' → In r rs
  pub words : (w : ℕ) (τ : Ref → Word) → ((r : Ref) (x : Word) → constant_at os r ≡ Some x → τ r ≡ x) → ((r : Ref) → In r rs → length (τ r) ≡ w)
      → variadic_value v w (map τ rs) ≡ variadic_value v w (map τ rs')

reduces_keeps : (ports : List Port) (v : Variadic) (os : List Op) (rs rs' : List Ref) → Reduces v os rs rs' → KeepsValue ports v os rs rs'
reduces_keeps ports v os rs rs' reduces =
    let fewer : length rs' < length rs = reduces.fewer in
    record { no_more = omega arith; some = reduces.some; within = λ r here. like_itself ports os rs r (reduces.within r here); words = reduces.words }

abbrev pub IsReduction : Operands → Type 0
IsReduction change = (os : List Op) (v : Variadic) (rs rs' : List Ref) → change os v rs ≡ Some rs' → Reduces v os rs rs'

-- ---- what an operation of any number of operands writes

pub written : (v : Variadic) (n : ℕ) → 1 ≤ n → n ≡ operands_written (variadic v) n
unfolding operands_written
written v n some = omega arith

pub types_written : (v : Variadic) (n m : ℕ) → type_count (variadic v) n ≡ type_count (variadic v) m
unfolding type_count
types_written v n m = refl

pub results_given : (v : Variadic) (ts : List HwType) (n m : ℕ) → result_types (variadic v) ts n ≡ result_types (variadic v) ts m
unfolding type_of_result result_types
results_given v ts n m = refl

lighter : (v : Variadic) (inner : Name → ℕ) (ts : List HwType) (n m : ℕ) → m ≤ n → kind_weight inner (variadic v) ts m ≤ kind_weight inner (variadic v) ts n
lighter v inner ts n m less = omega arith

smaller : (v : Variadic) (n m : ℕ) → m < n → kind_measure (variadic v) m < kind_measure (variadic v) n
smaller v n m less = omega arith

-- ---- an operation of a fit design

module _ (d : Design) (fit : IsFit d) (k : ℕ) (md : Module) (at : slice_get d k ≡ Some md) (i : ℕ) (o : Op) (there : slice_get md.body i ≡ Some o)
    (v : Variadic) (kind : o.kind ≡ variadic v) (rs : List Ref) (keeps : KeepsValue md.ports v md.body o.operands rs) where
  made : is_made o.kind ≡ true
  made = ap is_made kind

  -- an operand has the type of the result
  old_fits : (j : ℕ) (u : HwType) → result_type o j ≡ Some u → (r : Ref) → In r o.operands → type_in md.ports md.body r ≡ Some u
  old_fits j u is r here =
      subst (λ z. Fits z o.types (map (type_in md.ports md.body) o.operands) u j) kind
      ((fit.valid.sound md.symbol md (op_found d fit k md at i o there made)).ops i o there j u is)
      (type_in md.ports md.body r) (In-map (type_in md.ports md.body) r o.operands here)

  new_fits : OpFits (type_in md.ports md.body) (record o { operands = rs })
  new_fits j u is =
      subst (λ z. Fits z o.types (map (type_in md.ports md.body) rs) u j) (sym kind)
      (λ y here.
      let from = from_In-map (type_in md.ports md.body) y rs here in
      let like = keeps.within from.0 from.1 in
      from.2 ∙ like.typed ∙ old_fits j u is like.twin like.named)

  same_words : (τ : Ref → Word) → HoldsBut md.body τ (λ j. j ≡ i) → Wide md.ports md.body τ → (j : ℕ) (u : HwType) → result_type o j ≡ Some u
      → result_word τ o j (Some u) ≡ result_word τ (record o { operands = rs }) j (Some u)
  same_words τ holds wide j u is =
      ap (λ z. op_value z o.types u j (map τ o.operands)) kind
      ∙ keeps.words (width u) τ (constant_held md.body τ i o there made holds)
      (λ r here. subst (λ x. HasWidth x (τ r)) (old_fits j u is r here) (wide r))
      ∙ sym (ap (λ z. op_value z o.types u j (map τ rs)) kind)

  change : InPlace md i o (record o { operands = rs })
  change = record {
    there = there;
    old_plain = op_plain d fit k md at i o there made;
    new_plain = op_plain d fit k md at i o there made;
    same_types = λ j. refl;
    fits = new_fits;
    lower = λ h local j u is r here.
        let like = keeps.within r here in
        let below : h like.twin < h (result i j) = operand_lower md.body h local i j o u there (op_plain d fit k md at i o there made) is like.twin like.named in
        let low : h r ≤ h like.twin = like.lower h local in
        omega arith;
    words = same_words;
  }

  all_there : (qs : List Ref) → ((r : Ref) → In r qs → IsLike md.ports md.body o.operands r) → has_undefined md.ports md.body qs ≡ false
  all_there [] within = refl
  all_there (q ∷ qs) within =
      let like = within q (inl refl) in
      ap (λ b. cond b (has_undefined md.ports md.body qs) true) (ap is_some like.typed ∙ operand_there d fit k md at i o like.twin there like.named)
      ∙ all_there qs (λ r here. within r (inr here))

  new_values : value_cause md.ports md.body (record o { operands = rs }) ≡ None
  new_values = rw (ap has_again (op_results d fit k md at i o there made), all_there rs keeps.within) refl

  types_within : (y : Option HwType) → In y (map (settled_type md.ports md.body) rs) → In y (map (settled_type md.ports md.body) o.operands)
  types_within y here =
      let from = from_In-map (settled_type md.ports md.body) y rs here in
      let like = keeps.within from.0 from.1 in
      let same : y ≡ settled_type md.ports md.body like.twin =
      from.2 ∙ settled_here d fit k md at from.0 ∙ like.typed ∙ sym (settled_here d fit k md at like.twin) in
      subst (λ z. In z (map (settled_type md.ports md.body) o.operands)) (sym same)
      (In-map (settled_type md.ports md.body) like.twin o.operands like.named)

  new_alone : alone_cause md.ports md.body (record o { operands = rs }) ≡ None
  new_alone =
      subst (λ z. own_cause z o.types (types_of o.results) o.named (map (settled_type md.ports md.body) rs) (divides_by_constant md.body rs) ≡ None) (sym kind)
      (variadic_none v o.types (types_of o.results) o.named (length o.operands) (map (settled_type md.ports md.body) o.operands) (map (settled_type md.ports md.body) rs)
      (divides_by_constant md.body o.operands) (divides_by_constant md.body rs)
      (subst (λ z. NoOwnCause z o.types (types_of o.results) o.named (length o.operands) (map (settled_type md.ports md.body) o.operands) (divides_by_constant md.body o.operands)) kind
      (op_own d fit k md at i o there made))
      types_within (subst (λ n. 1 ≤ n) (sym (length-map rs (settled_type md.ports md.body))) keeps.some))

  printable : IsPrintableOp md.ports md.body o
  printable = op_printable d fit k md at i o there made

  new_printable : IsPrintableOp md.ports md.body (record o { operands = rs })
  new_printable = record {
    defined = all_defined md.ports md.body rs (all_there rs keeps.within);
    operands = subst (λ z. length rs ≡ operands_written z (length rs)) (sym kind) (written v (length rs) keeps.some);
    types = printable.types ∙ subst (λ z. type_count z (length o.operands) ≡ type_count z (length rs)) (sym kind) (types_written v (length o.operands) (length rs));
    readable = printable.readable;
    results = printable.results
        ∙ ap (map settled_result) (subst (λ z. result_types z o.types (length o.operands) ≡ result_types z o.types (length rs)) (sym kind) (results_given v o.types (length o.operands) (length rs)));
    named = printable.named;
    few = printable.few;
    kept = printable.kept;
    written = printable.written;
    nameless = printable.nameless;
    name = printable.name;
    dictionary = printable.dictionary;
    bin = printable.bin;
  }

  fits : InPlaceFits md o (record o { operands = rs })
  fits = record {
    known = λ is. let clash : true ≡ false = sym is ∙ made_no_number o.kind made in cc;
    constant = λ is. let clash : true ≡ false = sym is ∙ made_no_constant o.kind made in cc;
    fits = record { values = new_values; alone = new_alone; printable = new_printable };
  }

  pub operands_steady : IsSteady d (with_body d k md (set md.body i (record o { operands = rs })))
  operands_steady =
      steady_with_body d k md (set md.body i (record o { operands = rs })) at
      (replace_op_preserves d k md i o (record o { operands = rs }) fit.valid at change)
      (fit_in_place d k md i o (record o { operands = rs }) fit at change fits)
      (shape_set md.body i o (record o { operands = rs }) there (op_plain d fit k md at i o there made) (op_plain d fit k md at i o there made))

  pub operands_put : IsSmaller (set md.body i (record o { operands = rs })) md.body → IsFold d k md (set md.body i (record o { operands = rs }))
  operands_put smaller_body = record {
    steady = operands_steady;
    lighter = position_is_lighter d k md i o (record o { operands = rs }) at there
        (λ inner. subst (λ z. kind_weight inner z o.types (length rs) ≤ kind_weight inner z o.types (length o.operands)) (sym kind)
        (lighter v inner o.types (length o.operands) (length rs) keeps.no_more));
    smaller = smaller_body;
  }

-- fewer operands make the body smaller
fewer_smaller : (os : List Op) (i : ℕ) (o : Op) → slice_get os i ≡ Some o → (v : Variadic) → o.kind ≡ variadic v → (rs : List Ref) → length rs < length o.operands
    → IsSmaller (set os i (record o { operands = rs })) os
fewer_smaller os i o there v kind rs fewer =
    inl (measure_changed os i o (record o { operands = rs }) there
    (subst (λ z. kind_measure z (length rs) < kind_measure z (length o.operands)) (sym kind) (smaller v (length o.operands) (length rs) fewer)))

-- ---- the laws

-- what is owed for other operands: that they keep the value, and make the body smaller
abbrev pub OperandsLaw : Operands → Type 0
OperandsLaw change = (ports : List Port) (os : List Op) (i : ℕ) (o : Op) (v : Variadic) (rs : List Ref) → slice_get os i ≡ Some o → o.kind ≡ variadic v
    → change os v o.operands ≡ Some rs → KeepsValue ports v os o.operands rs × IsSmaller (set os i (record o { operands = rs })) os

operands_pattern : (change : Operands) → OperandsLaw change → PatternLaw (by_operands change)
operands_pattern change shown d k md i es fit at is =
    let found = and_then_some (slice_get md.body i) (λ (o : Op). with_fewer change md.body i o o.kind) is in
    by_kind found.0 found.1 found.0.kind refl found.2
  where
    by_kind : (o : Op) → slice_get md.body i ≡ Some o → (kind : Kind) → o.kind ≡ kind → with_fewer change md.body i o kind ≡ Some es → IsFold d k md (edited_by es md.body)
    by_kind o there (variadic v) kind made =
        let given = option_map_some (λ (rs : List Ref). changed i (record o { operands = rs }) ∷ []) (change md.body v o.operands) made in
        let owed = shown md.ports md.body i o v given.0 there kind given.1 in
        subst (λ (qs : List Edit). IsFold d k md (edited_by qs md.body)) given.2 (operands_put d fit k md at i o there v kind given.0 owed.0 owed.1)
    by_kind o there _ kind made = cc

pub operands_are_fold : (change : Operands) → OperandsLaw change → FoldLaw (fold_by (by_operands change))
operands_are_fold change shown = pattern_is_fold (by_operands change) (operands_pattern change shown)

pub reduction_is_fold : (change : Operands) → IsReduction change → FoldLaw (fold_by (by_operands change))
reduction_is_fold change shown =
    operands_are_fold change
    (λ ports os i o v rs there kind is.
    let reduces = shown os v o.operands rs is in
    (reduces_keeps ports v os o.operands rs reduces, fewer_smaller os i o there v kind rs reduces.fewer))
