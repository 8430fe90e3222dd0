-- What is printed of a design is what can be read again.
use Rattle.std.proofs.Common.{◌≡◌, ℕ, zero, suc, ◌<◌, Bool, true, false, cond, List, [], ◌∷◌, ◌++◌, map, length, drop, refl, ap, ◌∙◌, sym, subst, inl, inr, arith}
use Rattle.std.specs.Prelude.{nat_lt, Option, Some, None, slice_get}
use Rattle.std.proofs.lemmas.List.{length-map}
use Rattle.std.proofs.lemmas.Bool.{false≢true, lt-ltb}
use Rattle.opcode.specs.declared.listed.Listed.{Listed}
use Rattle.opcode.specs.declared.listed.Listed.TheVariants as listed
use Rattle.hw_model.specs.Opcodes.{opcode_of}
use Rattle.hw_model.specs.Types.{Name}
use Rattle.hw_model.specs.Kinds.{Kind}
use Rattle.hw_model.specs.Design.{Ref, Port, Op, Module, Design}
use Rattle.hw_model.specs.Design.Ref.{port, result, undefined}
use Rattle.ir_store.specs.OperationViews.{OpParts}
use Rattle.mlir_syntax.specs.Numerals.{count_limit}
use Rattle.mlir_operations.specs.OperandText.{ResultNames}
use Rattle.mlir_operations.specs.Spelling.{StandsInBody}
use Rattle.mlir_printer.specs.Elements.{ValueText, no_value}
use Rattle.mlir_printer.specs.Naming.{input_count, names_given, first_name, firsts, name_value_text, value_at, value_in, port_value, value_named, listed_names, results_named}
use Rattle.printing_laws.specs.NameHints.{name_hints, port_name_hint, port_name_hints, body_name_hints, name_count, is_pack}
use Rattle.mlir_printer.specs.Texts.{operation_shown, operations_shown, ports_shown, module_shown, modules_shown}
use Rattle.printing_laws.specs.Parts.{parts_in}
use Rattle.mlir_printer.specs.Spellable.{IsValueName, IsOperand}
use Rattle.stored_form.specs.Bytes.{Each}
use Rattle.mlir_printer.specs.SpellableModules.{AreResults, MayBeValue, IsSpellableOperation, AreSpellable, IsSpellablePort, IsSpellable}
use Rattle.op_checks.specs.CountChecks.{operands_written, type_count}
use Rattle.printing_laws.specs.Printable.{IsDefined, IsPrintableOp, IsPrintablePort, EndsWithOutput, IsPrintableModule, Printable}
use Rattle.mlir_printer.proofs.names.NameTables.{Among}
use Rattle.printing_laws.proofs.NameCounts.{pack_named}
use Rattle.mlir_printer.proofs.names.GivenNames.{Suits, digits_value, word_value, given_suit, suit_first, suit_after}
use Rattle.mlir_printer.proofs.again.OperationsAgain.{are_counted, last_output}
use Rattle.mlir_printer.proofs.again.DesignsAgain.{each_among}
use Rattle.mlir_printer.proofs.again.DictionariesFit.{kept_fits, shown_fits}
use Rattle.mlir_printer.proofs.again.FormsFit.{form_fits}

-- ---- names

name_at : (ws : List (Option Name)) (ns : List Name) (k : ℕ) → Suits ws ns → k < length ws → IsValueName (first_name (drop k ns))
name_at [] ns k h lt = absurd (omega (arith, lt))
name_at (w ∷ ws) [] k h lt = absurd h
name_at (None ∷ ws) (n ∷ ns) zero h lt = digits_value n h.0
name_at (Some x ∷ ws) (n ∷ ns) zero h lt = word_value n h.0
name_at (None ∷ ws) (n ∷ ns) (suc k) h lt = name_at ws ns k h.1 (omega (arith, lt))
name_at (Some x ∷ ws) (n ∷ ns) (suc k) h lt = name_at ws ns k h.1 (omega (arith, lt))

names_fit : (ws : List (Option Name)) (ns : List Name) → Suits ws ns → Each IsValueName (firsts (length ws) ns)
names_fit [] ns h = tt
names_fit (w ∷ ws) [] h = absurd h
names_fit (None ∷ ws) (n ∷ ns) h = (digits_value n h.0, names_fit ws ns h.1)
names_fit (Some x ∷ ws) (n ∷ ns) h = (word_value n h.0, names_fit ws ns h.1)

listed_fit : (ns : List Name) → Each IsValueName ns → AreResults (listed_names ns)
listed_fit [] h = tt
listed_fit (n ∷ ns) h = h

-- what an operation's names need to be so
record NamesFit (o : OpParts) : Type 0 where
  few : is_pack o.kind (length o.results) ≡ true → length o.results < count_limit
  listed : is_pack o.kind (length o.results) ≡ false → name_count o ≡ length o.results

results_fit : (o : OpParts) (ns : List Name) → NamesFit o → Suits (name_hints o) ns → AreResults (results_named o ns)
results_fit o ns fit suits = go (is_pack o.kind (length o.results)) refl
  where
    go : (b : Bool) → is_pack o.kind (length o.results) ≡ b
        → AreResults (cond b (ResultNames.pack (first_name ns) (length o.results)) (listed_names (firsts (name_count o) ns)))
    go true h = (name_at (name_hints o) ns 0 suits (let e = pack_named o.kind o.types o.name (length o.results) h in omega (arith, e)), fit.few h)
    go false h = listed_fit (firsts (name_count o) ns) (names_fit (name_hints o) ns suits)

value_fits : (o : OpParts) (ns : List Name) (k : ℕ) → NamesFit o → Suits (name_hints o) ns → k < length o.results → IsOperand (value_at o ns k)
value_fits o ns k fit suits lt = go (is_pack o.kind (length o.results)) refl
  where
    go : (b : Bool) → is_pack o.kind (length o.results) ≡ b
        → IsOperand (cond b (cond (nat_lt k (length o.results)) (record { name = first_name ns; number = Some k }) no_value)
        (cond (nat_lt k (name_count o)) (name_value_text (first_name (drop k ns))) no_value))
    go true h =
        let few = fit.few h in
        subst (λ b. IsOperand (cond b (record { name = first_name ns; number = Some k }) no_value)) (sym (lt-ltb k (length o.results) lt))
        (record {
          name = name_at (name_hints o) ns 0 suits (let e = pack_named o.kind o.types o.name (length o.results) h in omega (arith, e));
          number = omega (arith, lt, few);
        })
    go false h =
        let within : k < name_count o = let e = fit.listed h in omega (arith, lt, e) in
        subst (λ b. IsOperand (cond b (name_value_text (first_name (drop k ns))) no_value)) (sym (lt-ltb k (name_count o) within))
        (record { name = name_at (name_hints o) ns k suits within; number = tt })

port_fits : (ns : List Name) (ps : List Port) (j : ℕ) (p : Port) → Suits (port_name_hints ps) ns → slice_get ps j ≡ Some p → p.is_output ≡ false
    → IsOperand (port_value ns ps j)
port_fits ns [] j p suits at input = cc
port_fits ns (q ∷ ps) zero p suits at input =
    let same : q ≡ p = cc in
    go q.is_output (ap (λ (x : Port). x.is_output) same ∙ input) suits
  where
    go : (b : Bool) → b ≡ false → Suits (cond b [] (Some q.name ∷ []) ++ port_name_hints ps) ns → IsOperand (cond b no_value (name_value_text (first_name ns)))
    go true e h = cc
    go false e h = record { name = name_at (Some q.name ∷ port_name_hints ps) ns 0 h (omega arith); number = tt }
port_fits ns (q ∷ ps) (suc j) p suits at input =
    port_fits (drop (length (port_name_hint q)) ns) ps j p (suit_after (port_name_hint q) (port_name_hints ps) ns suits) at input

result_fits : (ns : List Name) (os : List Op) (i k : ℕ) (o : Op) → Suits (body_name_hints (map parts_in os)) ns → slice_get os i ≡ Some o
    → ((x : Op) → Among x os → NamesFit (parts_in x)) → k < length o.results → IsOperand (value_in ns (map parts_in os) i k)
result_fits ns [] i k o suits at fit lt = cc
result_fits ns (x ∷ os) zero k o suits at fit lt =
    let same : x ≡ o = cc in
    value_fits (parts_in x) ns k (fit x (inl refl)) (suit_first (name_hints (parts_in x)) (body_name_hints (map parts_in os)) ns suits)
    (subst (λ (y : Op). k < length y.results) (sym same) lt)
result_fits ns (x ∷ os) (suc i) k o suits at fit lt =
    result_fits (drop (name_count (parts_in x)) ns) os i k o (suit_after (name_hints (parts_in x)) (body_name_hints (map parts_in os)) ns suits) at
    (λ y h. fit y (inr h)) lt

-- ---- operations

stands_unless : (o : Listed) → (o ≡ listed.HwModule → ⊥) → StandsInBody o
stands_unless listed.HwModule h = absurd (h refl)
stands_unless _ h = tt

-- an operation is no module
not_module : (k : Kind) → opcode_of k ≡ listed.HwModule → ⊥
not_module k e = grind arith

stands_in_body : (k : Kind) → StandsInBody (opcode_of k)
stands_in_body k = stands_unless (opcode_of k) (not_module k)

operands_fit : (means : Ref → ValueText) (Defined : Ref → Type 0) (rs : List Ref) → ((r : Ref) → Defined r → IsOperand (means r)) → Each Defined rs
    → Each IsOperand (map means rs)
operands_fit means Defined [] f h = tt
operands_fit means Defined (r ∷ rs) f h = (f r h.0, operands_fit means Defined rs f h.1)

module _ (ports : List Port) (body : List Op) (o : Op) (p : IsPrintableOp ports body o) where
  op_names : NamesFit (parts_in o)
  op_names = record { few = p.few; listed = (are_counted ports body o p (λ r. no_value) []).listed }

  op_fits : (means : Ref → ValueText) (ns : List Name) → ((r : Ref) → IsDefined ports body r → IsOperand (means r)) → Suits (name_hints (parts_in o)) ns
      → IsSpellableOperation (operation_shown (parts_in o) (map means o.operands) ns)
  op_fits means ns f suits =
      let n : length (map means o.operands) ≡ length o.operands = length-map o.operands means in
      record {
        stands = stands_in_body o.kind;
        results = results_fit (parts_in o) ns op_names suits;
        bin = p.bin;
        form =
            form_fits o.kind (map means o.operands) o.types (n ∙ p.operands ∙ ap (operands_written o.kind) (sym n))
            (p.types ∙ ap (type_count o.kind) (sym n))
            p.written (operands_fit means (IsDefined ports body) o.operands f p.defined) p.readable;
        dictionary = shown_fits (opcode_of o.kind) _ o.name (first_name ns) o.dictionary p.dictionary p.nameless p.name;
      }

body_fits : (ports : List Port) (body : List Op) (means : Ref → ValueText) (ns : List Name) (os : List Op)
    → ((r : Ref) → IsDefined ports body r → IsOperand (means r)) → Suits (body_name_hints (map parts_in os)) ns → Each (IsPrintableOp ports body) os
    → EndsWithOutput os → AreSpellable (operations_shown means ns os)
body_fits ports body means ns [] f suits p ends = tt
body_fits ports body means ns (o ∷ []) f suits p ends =
    (op_fits ports body o p.0 means ns f (suit_first (name_hints (parts_in o)) [] ns suits), (λ last. refl), tt)
body_fits ports body means ns (o ∷ x ∷ os) f suits p ends = (
  op_fits ports body o p.0 means ns f (suit_first (name_hints (parts_in o)) (body_name_hints (map parts_in (x ∷ os))) ns suits),
  (λ last. absurd (false≢true (sym (last_output o.kind ∙ ends.0) ∙ last))),
  body_fits ports body means (drop (name_count (parts_in o)) ns) (x ∷ os) f
      (suit_after (name_hints (parts_in o)) (body_name_hints (map parts_in (x ∷ os))) ns suits) p.1 ends.1,
)

-- ---- modules

ports_fit : (ns : List Name) (ps : List Port) → Suits (port_name_hints ps) ns → Each IsPrintablePort ps → Each IsSpellablePort (ports_shown ns ps)
ports_fit ns [] suits p = tt
ports_fit ns (q ∷ ps) suits p = (
  record { value = value q.is_output suits; name = p.0.name; type = p.0.type },
  ports_fit (drop (length (port_name_hint q)) ns) ps (suit_after (port_name_hint q) (port_name_hints ps) ns suits) p.1,
)
  where
    value : (b : Bool) → Suits (cond b [] (Some q.name ∷ []) ++ port_name_hints ps) ns → MayBeValue (cond b None (Some (first_name ns)))
    value true h = tt
    value false h = name_at (Some q.name ∷ port_name_hints ps) ns 0 h (omega arith)

module_fits : (m : Module) → IsPrintableModule m → IsSpellable (module_shown m)
module_fits m p =
    let ns = names_given m.ports (map parts_in m.body) in
    let all : Suits (port_name_hints m.ports ++ body_name_hints (map parts_in m.body)) ns = given_suit
    (port_name_hints m.ports ++ body_name_hints (map parts_in m.body)) p.few in
    let following : Suits (body_name_hints (map parts_in m.body)) (drop (input_count m.ports) ns) = suit_after (port_name_hints m.ports)
    (body_name_hints (map parts_in m.body)) ns all in
    record {
      symbol = p.symbol;
      ports = ports_fit ns m.ports (suit_first (port_name_hints m.ports) (body_name_hints (map parts_in m.body)) ns all) p.ports;
      dictionary = kept_fits listed.HwModule _ m.dictionary p.dictionary;
      operations =
          body_fits m.ports m.body (value_named ns m.ports (map parts_in m.body)) (drop (input_count m.ports) ns) m.body
          (values ns all following) following p.operations p.ends;
    }
  where
    values : (ns : List Name) → Suits (port_name_hints m.ports ++ body_name_hints (map parts_in m.body)) ns
        → Suits (body_name_hints (map parts_in m.body)) (drop (input_count m.ports) ns)
        → (r : Ref) → IsDefined m.ports m.body r → IsOperand (value_named ns m.ports (map parts_in m.body) r)
    values ns all following (port j) h = port_fits ns m.ports j h.0 (suit_first (port_name_hints m.ports) (body_name_hints (map parts_in m.body)) ns all) h.1 h.2
    values ns all following (result i k) h =
        result_fits (drop (input_count m.ports) ns) m.body i k h.0 following h.1
        (λ x a. op_names m.ports m.body x (each_among (IsPrintableOp m.ports m.body) m.body x p.operations a)) h.2
    values ns all following undefined h = absurd h

-- each module's text can be read again
pub printable_designs_are_spellable : (d : Design) → Printable d → Each IsSpellable (modules_shown d)
printable_designs_are_spellable [] p = tt
printable_designs_are_spellable (m ∷ d) p = (module_fits m p.0, printable_designs_are_spellable d p.1)
