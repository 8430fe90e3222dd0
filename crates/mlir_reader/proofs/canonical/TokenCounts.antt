-- What a text says is no more than its tokens: ports, operations, names of results.
use Rattle.std.proofs.Common.{◌≡◌, ◌+◌, ◌<◌, ◌≤◌, List, [], ◌∷◌, ◌++◌, length, ap, ◌∙◌, inl, inr, arith, length-append}
use Rattle.hw_model.specs.Types.{Name}
use Rattle.mlir_lexer.specs.Tokens.{TextToken}
use Rattle.mlir_syntax.specs.Numerals.{count_limit}
use Rattle.mlir_operations.specs.OperandText.{ResultNames, named_count}
use Rattle.mlir_operations.specs.OperandText.ResultNames.{no_names, names, pack}
use Rattle.mlir_operations.specs.OperationText.{OperationText}
use Rattle.mlir_operations.specs.ModuleText.{PortText}
use Rattle.mlir_syntax.specs.Spelling.{Phrase, Commas}
use Rattle.mlir_operations.specs.Spelling.{Stands, ValueName, ResultsPhrase, OperationPhrase, PortPhrase, OlderInputPhrase, OlderOutputPhrase}

-- ---- counts of tokens

parts_count : (ts a b : List TextToken) → ts ≡ a ++ b → length ts ≡ length a + length b
parts_count ts a b e = ap length e ∙ length-append a b

pub commas_few : {A : Type 0} (P : A → Phrase) → ((x : A) (ts : List TextToken) → P x ts → 1 ≤ length ts) → (xs : List A) (ts : List TextToken) → Commas P xs ts
    → length xs ≤ length ts
commas_few P f [] ts h = omega arith
commas_few P f (x ∷ []) ts h = let e = f x ts h in omega (arith, e)
commas_few P f (x ∷ y ∷ xs) ts h =
    let e = f x h.0 h.3 in
    let c = parts_count ts h.0 h.1 h.2 in
    let r = h.4 in
    let d = parts_count h.1 r.0 r.1 r.2 in
    let m = commas_few P f (y ∷ xs) r.1 r.4 in
    omega (arith, e, c, d, m)

value_some : (n : Name) (ts : List TextToken) → ValueName n ts → 1 ≤ length ts
value_some n ts h = let e = ap length h.1 in omega (arith, e)

pub port_some : (p : PortText) (ts : List TextToken) → PortPhrase p ts → 1 ≤ length ts
port_some p ts (inl h) =
    let b = h.2 in
    let c = parts_count ts b.0 b.1 b.2 in
    let e = ap length b.3.1 in
    omega (arith, c, e)
port_some p ts (inr h) =
    let b = h.1 in
    let c = parts_count ts b.0 b.1 b.2 in
    let e = ap length b.3.1 in
    omega (arith, c, e)

pub older_input_some : (p : PortText) (ts : List TextToken) → OlderInputPhrase p ts → 1 ≤ length ts
older_input_some p ts h =
    let b = h.3 in
    let c = parts_count ts b.0 b.1 b.2 in
    let e = value_some h.0 b.0 b.3 in
    omega (arith, c, e)

pub older_output_some : (p : PortText) (ts : List TextToken) → OlderOutputPhrase p ts → 1 ≤ length ts
older_output_some p ts h =
    let b = h.1 in
    let c = parts_count ts b.0 b.1 b.2 in
    let r = b.4 in
    let d = parts_count b.1 r.0 r.1 r.2 in
    let e = ap length r.3.1 in
    omega (arith, c, d, e)

-- ---- names and operations

pub names_few : (r : ResultNames) (ts : List TextToken) → length ts < count_limit → ResultsPhrase r ts → named_count r < count_limit
names_few no_names ts small h = omega arith
names_few (names n ns) ts small h =
    let c = parts_count ts h.0 h.1 h.2 in
    let few = commas_few ValueName value_some (n ∷ ns) h.0 h.3 in
    omega (arith, small, c, few)
names_few (pack n k) ts small h = let a = h.4 in let b = a.4 in b.3.0

pub operation_some : (At : Stands) (o : OperationText) (ts : List TextToken) → OperationPhrase At o ts → 1 ≤ length ts
operation_some At o ts h =
    let b = h.1 in
    let c = parts_count ts b.0 b.1 b.2 in
    let r = b.4 in
    let d = parts_count b.1 r.0 r.1 r.2 in
    let e = ap length r.3.1 in
    omega (arith, c, d, e)
