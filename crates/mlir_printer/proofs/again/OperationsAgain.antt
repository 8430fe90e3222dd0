-- A printed operation says the operation that it was.
use Rattle.std.proofs.Common.{◌≡◌, ℕ, zero, suc, ◌+◌, ◌≤◌, min, max, replicate, Bool, true, false, cond, List, [], ◌∷◌, map, length, refl, ap, ◌∙◌, sym, subst, arith}
use Rattle.std.proofs.lemmas.List.{length-map}
use Rattle.std.specs.Prelude.{◌==◌, Option}
use Rattle.std.proofs.lemmas.Bool.{cond-true, cond-false}
use Rattle.hw_model.specs.Opcodes.{opcode_of}
use Rattle.hw_model.specs.Types.{Name, HwType}
use Rattle.hw_model.specs.Kinds.{Kind}
use Rattle.hw_model.specs.Kinds.Kind.{wire, output, register, async_firreg}
use Rattle.hw_model.specs.Design.{Ref, Port, Op, is_output_kind, op_without_location}
use Rattle.type_inference.specs.ResultTypes.{result_types, result_count}
use Rattle.mlir_operations.specs.OperandText.{ResultNames, named_count}
use Rattle.mlir_operations.specs.OperandText.ResultNames.{no_names, names, pack}
use Rattle.mlir_operations.specs.OperationText.{OperationText, is_last}
use Rattle.mlir_reader.specs.Resolving as read
use Rattle.mlir_reader.specs.Resolving.Defined.{are_results}
use Rattle.mlir_reader.specs.Resolving.{Meanings, Definition, resolve_operand, marks, marked_results, names_from, names_defined, own_types, own_count, operation_at, operation_definitions, name_or, given_name, unless_digits, own_name_of}
use Rattle.stored_form.specs.Dictionaries.{has_name}
use Rattle.mlir_printer.specs.Elements.{ValueText}
use Rattle.mlir_printer.specs.Naming.{first_name, firsts, listed_names, results_named}
use Rattle.printing_laws.specs.NameHints.{name_hints, name_hints_of, own_name_hint, name_count, is_pack}
use Rattle.mlir_printer.specs.Texts.{operation_shown, entries_shown}
use Rattle.printing_laws.specs.Parts.{parts_in}
use Rattle.mlir_printer.specs.Spellable.{said_operand, said_operation}
use Rattle.stored_form.specs.Bytes.{Each}
use Rattle.printing_laws.specs.Printable.{IsDefined, settled_result, IsPrintableOp}
use Rattle.mlir_printer.proofs.names.NameTables.{AreNew, marks_in, no_marks}
use Rattle.mlir_printer.proofs.names.NamedDefinitions.{name_of, results_names, firsts_length}
use Rattle.printing_laws.proofs.NameCounts.{types_counted, names_counted, results_length, few_names}
use Rattle.mlir_printer.proofs.names.ValuesFound.{AreCounted}
use Rattle.mlir_printer.proofs.names.GivenNames.{Suits}
use Rattle.mlir_printer.proofs.again.KindsKept.{kind_again}
use Rattle.mlir_printer.proofs.again.EntriesKept.{shown_kept, none_given, own_again, SuitsOwn}

-- ---- the parts of an operation

op_equal : (a b : Op) → a.kind ≡ b.kind → a.operands ≡ b.operands → a.types ≡ b.types → a.results ≡ b.results → a.named ≡ b.named → a.name ≡ b.name
    → a.dictionary ≡ b.dictionary → a.bin ≡ b.bin → op_without_location a ≡ op_without_location b
op_equal a b e1 e2 e3 e4 e5 e6 e7 e8 = rw (e1, e2, e3, e4, e5, e6, e7, e8) refl

operands_again : (m : Meanings) (means : Ref → ValueText) (Defined : Ref → Type 0) (rs : List Ref)
    → ((r : Ref) → Defined r → resolve_operand m (said_operand (means r)) ≡ r) → Each Defined rs
    → map (resolve_operand m) (map said_operand (map means rs)) ≡ rs
operands_again m means Defined [] f h = refl
operands_again m means Defined (r ∷ rs) f h =
    ap (λ x. x ∷ map (resolve_operand m) (map said_operand (map means rs))) (f r h.0) ∙ ap (λ l. r ∷ l) (operands_again m means Defined rs f h.1)

marked_none : (ts : List (Option HwType)) (n : ℕ) → n ≤ length ts → marked_results ts (replicate n false) ≡ map settled_result ts
marked_none [] zero h = refl
marked_none [] (suc n) h = absurd (omega (arith, h))
marked_none (t ∷ ts) zero h = ap (λ l. settled_result t ∷ l) (marked_none ts zero (omega arith))
marked_none (t ∷ ts) (suc n) h = ap (λ l. settled_result t ∷ l) (marked_none ts n (omega (arith, h)))

-- names have one mark each, and a pack no more than the operation has results
marks_listed : (i k : ℕ) (ns : List Name) → marks_in (names_from i k ns) ≡ length (names_from i k ns)
marks_listed i k [] = refl
marks_listed i k (n ∷ ns) =
    let rest : marks_in (names_from i (k + 1) ns) ≡ length (names_from i (k + 1) ns) = marks_listed i (k + 1) ns in
    omega arith

marks_few : (i own : ℕ) (rs : ResultNames) → marks_in (names_defined i own rs) ≤ max (length (names_defined i own rs)) own
marks_few i own no_names = omega arith
marks_few i own (names n ns) = omega (arith, marks_listed i 0 (n ∷ ns))
marks_few i own (pack n k) = go (k == 0)
  where
    go : (b : Bool) → marks_in (cond b [] (record { name = n; defined = are_results i 0 (min k own) } ∷ [])) ≤ max (length {A = Definition} (cond b [] (record { name = n; defined = are_results i 0 (min k own) } ∷ []))) own
    go true = omega arith
    go false = omega arith

-- ---- own names

-- the kinds of operations that have a name of their own
abbrev is_named : Kind → Bool
is_named wire = true
is_named (register f r) = true
is_named async_firreg = true
is_named _ = false

named_listed : (k : Kind) → has_name (opcode_of k) ≡ is_named k
named_listed k = grind arith

named_name_hints : (k : Kind) (ts : List HwType) (own : Name) (n : ℕ) → is_named k ≡ true
    → (name_hints_of k ts own n ≡ own_name_hint own ∷ []) × (is_pack k n ≡ false)
unfolding name_hints_of
named_name_hints wire ts own n h = (refl, refl)
named_name_hints (register f r) ts own n h = (refl, refl)
named_name_hints async_firreg ts own n h = (refl, refl)
named_name_hints _ ts own n h = cc

named_kind : (k : Kind) (ts : List HwType) (own : Name) (n : ℕ) → has_name (opcode_of k) ≡ true
    → (name_hints_of k ts own n ≡ own_name_hint own ∷ []) × (is_pack k n ≡ false)
named_kind k ts own n h = named_name_hints k ts own n (sym (named_listed k) ∙ h)

suits_own : (own : Name) (ns : List Name) → Suits (own_name_hint own ∷ []) ns → SuitsOwn own (first_name ns)
suits_own [] [] h = absurd h
suits_own [] (n ∷ ns) h = h.0
suits_own (b ∷ bs) [] h = absurd h
suits_own (b ∷ bs) (n ∷ ns) h = h.0

module _ (ports : List Port) (body : List Op) (o : Op) (p : IsPrintableOp ports body o) where
  -- the operation as it is said, where its operands have these names and the names of results begin so
  abbrev shown : (Ref → ValueText) → List Name → OperationText
  shown means ns = said_operation (operation_shown (parts_in o) (map means o.operands) ns)

  pub are_counted : (means : Ref → ValueText) (ns : List Name) → AreCounted (own_count (shown means ns)) (parts_in o)
  are_counted means ns = record {
    counted = results_length ports body o p ∙ sym (ap (λ k. result_count k o.types) (kind_again o.kind o.types p.kept));
    listed = names_counted o.kind o.types o.name (length o.results) (length o.operands) (results_length ports body o p) p.types;
  }

  own_types_are : (means : Ref → ValueText) (ns : List Name) → own_types (shown means ns) ≡ result_types o.kind o.types (length o.operands)
  own_types_are means ns =
      ap (λ k. result_types k o.types (length (map said_operand (map means o.operands)))) (kind_again o.kind o.types p.kept)
      ∙ ap (λ n. result_types o.kind o.types n) (length-map (map means o.operands) said_operand ∙ length-map o.operands means)

  results_again : (means : Ref → ValueText) (earlier : Meanings) (i : ℕ) (ns : List Name) → AreNew earlier (operation_definitions i (shown means ns))
      → marked_results (own_types (shown means ns)) (marks earlier (operation_definitions i (shown means ns))) ≡ o.results
  results_again means earlier i ns new =
      let ds = operation_definitions i (shown means ns) in
      let few : length ds ≤ length (result_types o.kind o.types (length o.operands)) =
      omega (
        arith,
        sym (length-map ds name_of) ∙ ap length (results_names i (own_count (shown means ns)) (parts_in o) ns) ∙ firsts_length (name_count (parts_in o)) ns,
        few_names ports body o p,
        types_counted o.kind o.types (length o.operands),
        results_length ports body o p,
      ) in
      let within : marks_in ds ≤ length (result_types o.kind o.types (length o.operands)) =
      omega (
        arith,
        marks_few i (own_count (shown means ns)) (shown means ns).results,
        few,
        (are_counted means ns).counted,
        types_counted o.kind o.types (length o.operands),
        results_length ports body o p,
      ) in
      ap (λ ts. marked_results ts (marks earlier ds)) (own_types_are means ns)
      ∙ ap (λ bs. marked_results (result_types o.kind o.types (length o.operands)) bs) (no_marks earlier ds new)
      ∙ marked_none (result_types o.kind o.types (length o.operands)) (marks_in ds) within
      ∙ sym p.results

  named_again : (ns : List Name) → named_count (results_named (parts_in o) ns) ≡ o.named
  named_again ns = go (is_pack o.kind (length o.results)) refl ∙ sym p.named
    where
      listed : (xs : List Name) → named_count (listed_names xs) ≡ length xs
      listed [] = refl
      listed (x ∷ xs) = refl

      go : (b : Bool) → is_pack o.kind (length o.results) ≡ b
          → named_count (cond (is_pack o.kind (length o.results)) (ResultNames.pack (first_name ns) (length o.results))
          (listed_names (firsts (name_count (parts_in o)) ns))) ≡ length o.results
      go true h = ap (λ b. named_count (cond b (ResultNames.pack (first_name ns) (length o.results)) (listed_names (firsts (name_count (parts_in o)) ns)))) h
      go false h =
          ap (λ b. named_count (cond b (ResultNames.pack (first_name ns) (length o.results)) (listed_names (firsts (name_count (parts_in o)) ns)))) h
          ∙ listed (firsts (name_count (parts_in o)) ns) ∙ firsts_length (name_count (parts_in o)) ns
          ∙ names_counted o.kind o.types o.name (length o.results) (length o.operands) (results_length ports body o p) p.types h

  name_again : (ns : List Name) → Suits (name_hints (parts_in o)) ns
      → own_name_of (opcode_of o.kind) (results_named (parts_in o) ns) (entries_shown o.name (first_name ns) o.dictionary) ≡ o.name
  name_again ns suits = go (has_name (opcode_of o.kind)) refl
    where
      first_own : (rs : ResultNames) → rs ≡ ResultNames.names (first_name ns) [] → read.first_name rs ≡ unless_digits (first_name ns)
      first_own rs e = ap read.first_name e

      go : (b : Bool) → has_name (opcode_of o.kind) ≡ b
          → cond (has_name (opcode_of o.kind)) (name_or (given_name (entries_shown o.name (first_name ns) o.dictionary))
          (read.first_name (results_named (parts_in o) ns))) [] ≡ o.name
      go false h =
          cond-false (has_name (opcode_of o.kind)) (name_or (given_name (entries_shown o.name (first_name ns) o.dictionary))
          (read.first_name (results_named (parts_in o) ns))) [] h
          ∙ sym (p.nameless h)
      go true h =
          let k = named_kind o.kind o.types o.name (length o.results) h in
          let names : results_named (parts_in o) ns ≡ ResultNames.names (first_name ns) [] =
          ap (λ b. cond b (ResultNames.pack (first_name ns) (length o.results)) (listed_names (firsts (name_count (parts_in o)) ns))) k.1
          ∙ ap (λ ws. listed_names (firsts (length ws) ns)) k.0 in
          cond-true (has_name (opcode_of o.kind)) (name_or (given_name (entries_shown o.name (first_name ns) o.dictionary))
          (read.first_name (results_named (parts_in o) ns))) [] h
          ∙ ap (λ x. name_or (given_name (entries_shown o.name (first_name ns) o.dictionary)) x) (first_own (results_named (parts_in o) ns) names)
          ∙ own_again o.name (first_name ns) o.dictionary (none_given (opcode_of o.kind) o.dictionary h p.dictionary.kept)
          (suits_own o.name ns (subst (λ ws. Suits ws ns) k.0 suits))

  -- the operation that is said is the one that is printed, but for its position
  pub operation_again : (m earlier : Meanings) (means : Ref → ValueText) (i : ℕ) (ns : List Name)
      → ((r : Ref) → IsDefined ports body r → resolve_operand m (said_operand (means r)) ≡ r)
      → AreNew earlier (operation_definitions i (shown means ns)) → Suits (name_hints (parts_in o)) ns
      → op_without_location (operation_at m earlier i (shown means ns)) ≡ op_without_location o
  operation_again m earlier means i ns resolve new suits =
      op_equal (operation_at m earlier i (shown means ns)) o
      (kind_again o.kind o.types p.kept)
      (operands_again m means (IsDefined ports body) o.operands resolve p.defined)
      refl
      (results_again means earlier i ns new)
      (named_again ns)
      (name_again ns suits)
      (shown_kept (opcode_of o.kind) o.name (first_name ns) o.dictionary p.dictionary.in_order p.dictionary.kept p.nameless)
      refl

-- an operation is the last of its text where it is an output
pub last_output : (k : Kind) → is_last (opcode_of k) ≡ is_output_kind k
last_output k = grind arith
