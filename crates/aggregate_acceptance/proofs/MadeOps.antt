-- Operations of a body that are good for the types of their operands fit it.
use Rattle.std.proofs.Common.{◌≡◌, true, false, cond, List, [], ◌∷◌, length, map, Option, Some, None, slice_get, refl, sym, ap, ap₂, subst, ◌∙◌, option_and_then}
use Rattle.std.specs.Prelude.{is_some, slice_index_or}
use Rattle.std.proofs.lemmas.List.{length-map}
use Rattle.wiring.specs.Wiring.{In}
use Rattle.wiring.proofs.Members.{In-slice_get}
use Rattle.diag.specs.declared.cause.Cause.TheVariants as cause
use Rattle.hw_model.specs.Types.{Name, HwType}
use Rattle.hw_model.specs.Kinds.{Kind}
use Rattle.hw_model.specs.Opcodes.{opcode_of}
use Rattle.hw_model.specs.Design.{Ref, Port, Op, result_type}
use Rattle.hw_model.specs.Design.Ref.{port, result, undefined}
use Rattle.hw_model.specs.Sound.{type_in}
use Rattle.type_inference.specs.ResultTypes.{result_types as settled_types}
use Rattle.stored_form.specs.Bytes.{AreBytes}
use Rattle.stored_form.specs.Dictionaries.{has_name}
use Rattle.op_checks.specs.TypeLists.{known_types}
use Rattle.op_checks.specs.CountChecks.{operands_written, type_count}
use Rattle.op_checks.specs.OwnChecks.{own_cause}
use Rattle.op_verifier.specs.Answers.{when}
use Rattle.op_verifier.specs.OpChecks.{has_again, has_undefined, settled_by, settled_type, divides_by_constant}
use Rattle.op_verifier.proofs.SoundDesigns.{known_at}
use Rattle.printing_laws.specs.Printable.{settled_result, IsPrintableOp}
use Rattle.printing_laws.proofs.VerifiedDesigns.{all_defined}
use Rattle.fold_laws.proofs.NewOps.{own_none}
use Rattle.acceptance_laws.specs.Keeps.{IsFitting}
use Rattle.acceptance_laws.proofs.Causes.{none_or, when_false}
use Rattle.aggregate_laws.specs.Leaves.{result_types}
use Rattle.aggregate_laws.specs.OperationRules.{made_op}
use Rattle.aggregate_laws.proofs.Bare.{type_listed}
use Rattle.aggregate_acceptance.proofs.MadeKinds.{IsMadeKind}

-- ---- operations that are good

-- an operation settles the types of its results, names values of the body, and for their types nothing is refused of it by
-- itself; and it can be printed
pub record IsGood (ps : List Port) (os : List Op) (x : Op) : Type 0 where
  pub settled : settled_by x ≡ known_types (result_types x)
  pub again : has_again x.results ≡ false
  pub defined : has_undefined ps os x.operands ≡ false
  pub alone : own_cause x.kind x.types (result_types x) x.named (map (type_in ps os) x.operands) (divides_by_constant os x.operands) ≡ None
  pub printable : IsPrintableOp ps os x

-- values with types are there
pub typed_there : (ps : List Port) (os : List Op) (rs : List Ref) (us : List HwType) → map (type_in ps os) rs ≡ known_types us → has_undefined ps os rs ≡ false
typed_there ps os [] us typed = refl
typed_there ps os (r ∷ rs) [] typed = cc
typed_there ps os (r ∷ rs) (u ∷ us) typed =
    let first : type_in ps os r ≡ Some u = cc in
    let rest : map (type_in ps os) rs ≡ known_types us = cc in
    ap (λ x. cond (is_some x) (has_undefined ps os rs) true) first ∙ typed_there ps os rs us rest

count_typed : (ps : List Port) (os : List Op) (rs : List Ref) (us : List HwType) → map (type_in ps os) rs ≡ known_types us → length rs ≡ length us
count_typed ps os rs us typed = sym (length-map rs (type_in ps os)) ∙ ap length typed ∙ length-map us (λ (t : HwType). Some t)

-- what is made for leaves is good
pub made_good : (ps : List Port) (os : List Op) (o : Op) (kind : Kind) (rs : List Ref) (us ts : List HwType) (name : Name) (t : HwType) → IsMadeKind kind us ts t
    → map (type_in ps os) rs ≡ known_types us → (has_name (opcode_of kind) ≡ false → name ≡ []) → AreBytes name → IsGood ps os (made_op o kind rs ts name t)
made_good ps os o kind rs us ts name t is typed nameless bytes = record {
  settled = ap (settled_types kind ts) count ∙ is.settled;
  again = refl;
  defined = typed_there ps os rs us typed;
  alone = ap (λ xs. own_cause kind ts (t ∷ []) 1 xs (divides_by_constant os rs)) typed
      ∙ own_none kind ts (t ∷ []) 1 (known_types us) (divides_by_constant os rs) (is.none (divides_by_constant os rs));
  printable = record {
    defined = all_defined ps os rs (typed_there ps os rs us typed);
    operands = subst (λ n. n ≡ operands_written kind n) (sym count) is.operands;
    types = is.types ∙ ap (type_count kind) (sym count);
    readable = is.readable;
    results = sym (ap (map settled_result) (ap (settled_types kind ts) count ∙ is.settled));
    named = refl;
    few = λ pack. let clash : true ≡ false = sym pack ∙ is.pack in cc;
    kept = is.kept;
    written = is.written;
    nameless = nameless;
    name = bytes;
    dictionary = record { in_order = tt; kept = tt; entries = tt };
    bin = λ h. cc;
  };
}
  where
    count : length rs ≡ length us
    count = count_typed ps os rs us typed

-- an operation stays good with other operands of the same types in another body
pub kept_good : (ps ps' : List Port) (os os' : List Op) (o : Op) (rs : List Ref) (us : List HwType) → IsPrintableOp ps os o → has_again o.results ≡ false
    → settled_by o ≡ known_types (result_types o) → map (type_in ps os) o.operands ≡ known_types us → map (type_in ps' os') rs ≡ known_types us
    → own_cause o.kind o.types (result_types o) o.named (known_types us) (divides_by_constant os' rs) ≡ None → IsGood ps' os' (record o { operands = rs })
kept_good ps ps' os os' o rs us was again settled old new none = record {
  settled = ap (settled_types o.kind o.types) count ∙ settled;
  again = again;
  defined = typed_there ps' os' rs us new;
  alone = ap (λ xs. own_cause o.kind o.types (result_types o) o.named xs (divides_by_constant os' rs)) new ∙ none;
  printable = record {
    defined = all_defined ps' os' rs (typed_there ps' os' rs us new);
    operands = subst (λ n. n ≡ operands_written o.kind n) (sym count) was.operands;
    types = was.types ∙ ap (type_count o.kind) (sym count);
    readable = was.readable;
    results = was.results ∙ ap (λ n. map settled_result (settled_types o.kind o.types n)) (sym count);
    named = was.named;
    few = was.few;
    kept = was.kept;
    written = was.written;
    nameless = was.nameless;
    name = was.name;
    dictionary = was.dictionary;
    bin = was.bin;
  };
}
  where
    count : length rs ≡ length o.operands
    count = count_typed ps' os' rs us new ∙ sym (count_typed ps os o.operands us old)

-- ---- bodies of good operations

module _ (ps : List Port) (os : List Op) (all : (x : Op) → In x os → IsGood ps os x) where
  -- a value has the type that its operation settles
  settled_good : (r : Ref) → settled_type ps os r ≡ type_in ps os r
  settled_good (port j) = refl
  settled_good undefined = refl
  settled_good (result j k) = go (slice_get os j) (λ x is. all x (In-slice_get x os j is))
    where
      go : (x : Option Op) → ((y : Op) → x ≡ Some y → IsGood ps os y) → option_and_then (λ (o : Op). slice_index_or (settled_by o) k None) x ≡ option_and_then (λ (o : Op). result_type o k) x
      go None good = refl
      go (Some y) good =
          ap (λ xs. slice_index_or xs k None) (good y refl).settled ∙ known_at (result_types y) k ∙ sym (type_listed y k)

  settled_list : (rs : List Ref) → map (settled_type ps os) rs ≡ map (type_in ps os) rs
  settled_list [] = refl
  settled_list (r ∷ rs) = ap₂ (λ x xs. x ∷ xs) (settled_good r) (settled_list rs)

  -- each fits
  pub good_fits : (x : Op) → In x os → IsFitting ps os x
  good_fits x here = record {
    values = none_or (when (has_again x.results) cause.Redefined) (when (has_undefined ps os x.operands) cause.Undefined)
        (when_false (has_again x.results) cause.Redefined is.again) (when_false (has_undefined ps os x.operands) cause.Undefined is.defined);
    alone = ap (λ xs. own_cause x.kind x.types (result_types x) x.named xs (divides_by_constant os x.operands)) (settled_list x.operands) ∙ is.alone;
    printable = is.printable;
  }
    where
      is : IsGood ps os x
      is = all x here
