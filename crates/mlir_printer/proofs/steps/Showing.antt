-- A module as it is printed is that of the definitions.
use Rattle.std.proofs.Common.{◌≡◌, ℕ, ◌+◌, ◌<◌, ◌^◌, Bool, true, false, List, [], ◌∷◌, ◌++◌, map, length, drop, min, refl, sym, ap, ◌∙◌, append_assoc, arith}
use Rattle.std.proofs.lemmas.List.{append-nil, drop_all}
use Rattle.std.specs.Prelude.{codes, nat_lt}
use Rattle.std.proofs.lemmas.Bool.{ltb-true, ltb-false}
use Rattle.hw_model.specs.Types.{Name}
use Rattle.hw_model.specs.Design.{Ref}
use Rattle.ir_store.specs.declared.operation.Value.{Value}
use Rattle.ir_store.specs.BodyOps.{BodyOp, ids_in}
use Rattle.ir_store.specs.Numbered.{position_of, ref_by, op_by, ops_by_position}
use Rattle.ir_store.specs.Designs.{StoredModule, numbered_module}
use Rattle.mlir_printer.specs.Naming.{input_count, names_given, value_named}
use Rattle.printing_laws.specs.NameHints.{name_count}
use Rattle.mlir_printer.specs.Elements.{ValueText}
use Rattle.mlir_printer.specs.Operations.{OperationText, operation_line, operation_lines}
use Rattle.mlir_printer.specs.Modules.{ModuleText, header_bytes, module_bytes}
use Rattle.mlir_printer.specs.Texts.{operation_shown, operations_shown, module_named, module_shown}
use Rattle.printing_laws.specs.Parts.{parts_in}
use Rattle.mlir_printer.specs.Shown.{stored_shown, header_shown, parts_in_body}
use Rattle.mlir_printer.proofs.steps.Passing.{drop_again}
use Rattle.mlir_printer.proofs.steps.Steps.{added_one}

-- ---- at most the greatest number

pub capped_drop : {A : Type 0} (n : ℕ) (xs : List A) → length xs < 2 ^ 32 → drop (min n 4294967295) xs ≡ drop n xs
capped_drop n xs small = go (nat_lt n 4294967295) refl
  where
    go : (b : Bool) → nat_lt n 4294967295 ≡ b → drop (min n 4294967295) xs ≡ drop n xs
    go true e = ap (λ k. drop k xs) (omega (arith, ltb-true n 4294967295 e))
    go false e =
        drop_all (min n 4294967295) xs (omega (arith, small, ltb-false n 4294967295 e)) ∙ sym (drop_all n xs (omega (arith, small, ltb-false n 4294967295 e)))

pub moved_drop : {A : Type 0} (first count : ℕ) (xs : List A) → length xs < 2 ^ 32 → drop count (drop first xs) ≡ drop (min (first + count) 4294967295) xs
moved_drop first count xs small = drop_again count first xs ∙ sym (capped_drop (first + count) xs small)

-- ---- the lines of a body

-- one line more
pub line_step : (means : Value → ValueText) (ns : List Name) (first count next : ℕ) (o : BodyOp) (before after : List BodyOp) (out one whole : List ℕ)
    → length ns < 2 ^ 32 → before ≡ o ∷ after → count ≡ name_count o.parts → next ≡ min (first + count) 4294967295
    → one ≡ out ++ operation_line (operation_shown o.parts (map means o.operands) (drop first ns))
    → out ++ operation_lines (stored_shown means (drop first ns) before) ≡ whole
    → one ++ operation_lines (stored_shown means (drop next ns) after) ≡ whole
line_step means ns first count next o before after out one whole small steps counted moved added so_far =
    let line : OperationText = operation_shown o.parts (map means o.operands) (drop first ns) in
    let rest : stored_shown means (drop first ns) before ≡ line ∷ stored_shown means (drop next ns) after =
    ap (stored_shown means (drop first ns)) steps
    ∙ ap (λ l. line ∷ stored_shown means l after)
    (ap (λ k. drop k (drop first ns)) (sym counted) ∙ moved_drop first count ns small ∙ ap (λ k. drop k ns) (sym moved)) in
    added_one out one (operation_line line) (operation_lines (stored_shown means (drop next ns) after)) whole
    (sym (ap (λ l. out ++ operation_lines l) rest) ∙ so_far) added

pub lines_end : (means : Value → ValueText) (ns : List Name) (left : List BodyOp) (out whole : List ℕ) → left ≡ []
    → out ++ operation_lines (stored_shown means ns left) ≡ whole → out ≡ whole
lines_end means ns left out whole none h = sym (append-nil out) ∙ sym (ap (λ l. out ++ operation_lines (stored_shown means ns l)) none) ∙ h

-- ---- by positions

pub parts_by : (position : ℕ → ℕ) (ops : List BodyOp) → map parts_in (map (op_by position) ops) ≡ parts_in_body ops
parts_by position [] = refl
parts_by position (o ∷ ops) = ap (λ ps. o.parts ∷ ps) (parts_by position ops)

operands_by : (means : Value → ValueText) (named : Ref → ValueText) (position : ℕ → ℕ) → ((x : Value) → means x ≡ named (ref_by position x))
    → (xs : List Value) → map means xs ≡ map named (map (ref_by position) xs)
operands_by means named position same [] = refl
operands_by means named position same (x ∷ xs) = ap (λ y. y ∷ map means xs) (same x) ∙ ap (λ ys. named (ref_by position x) ∷ ys) (operands_by means named position same xs)

shown_by : (means : Value → ValueText) (named : Ref → ValueText) (position : ℕ → ℕ) → ((x : Value) → means x ≡ named (ref_by position x))
    → (ns : List Name) (ops : List BodyOp) → stored_shown means ns ops ≡ operations_shown named ns (map (op_by position) ops)
shown_by means named position same ns [] = refl
shown_by means named position same ns (o ∷ ops) =
    ap (λ vs. operation_shown o.parts vs ns ∷ stored_shown means (drop (name_count o.parts) ns) ops) (operands_by means named position same o.operands)
    ∙ ap (λ rest. operation_shown o.parts (map named (map (ref_by position) o.operands)) ns ∷ rest) (shown_by means named position same (drop (name_count o.parts) ns) ops)

-- ---- a module

headers : (ns : List Name) (m : StoredModule) → header_bytes (header_shown ns m) ≡ header_bytes (module_named ns (numbered_module m))
unfolding header_bytes
headers ns m = refl

whole_module : (m : ModuleText) (out one two end : List ℕ) → one ≡ out ++ header_bytes m → two ≡ one ++ operation_lines m.operations → end ≡ two ++ (codes "  }" ++ (10 ∷ []))
    → end ≡ out ++ module_bytes m
unfolding module_bytes
whole_module m out one two end p q r =
    r ∙ ap (λ x. x ++ (codes "  }" ++ (10 ∷ []))) (q ∙ ap (λ x. x ++ operation_lines m.operations) p)
    ∙ append_assoc (out ++ header_bytes m) (operation_lines m.operations) (codes "  }" ++ (10 ∷ []))
    ∙ append_assoc out (header_bytes m) (operation_lines m.operations ++ (codes "  }" ++ (10 ∷ [])))

pub module_added : (means : Value → ValueText) (ns : List Name) (m : StoredModule) (first : ℕ) (out one two end : List ℕ) → length ns < 2 ^ 32
    → ns ≡ names_given m.ports (parts_in_body m.ops)
    → ((x : Value) → means x ≡ value_named ns m.ports (parts_in_body m.ops) (ref_by (position_of (ids_in m.ops)) x))
    → first ≡ min (input_count m.ports) 4294967295
    → one ≡ out ++ header_bytes (header_shown ns m)
    → two ≡ one ++ operation_lines (stored_shown means (drop first ns) m.ops)
    → end ≡ two ++ (codes "  }" ++ (10 ∷ []))
    → end ≡ out ++ module_bytes (module_shown (numbered_module m))
module_added means ns m first out one two end small given same capped p q r =
    let position : ℕ → ℕ = position_of (ids_in m.ops) in
    let parts : map parts_in (ops_by_position m.ops) ≡ parts_in_body m.ops = parts_by position m.ops in
    let following : drop first ns ≡ drop (input_count m.ports) ns = ap (λ k. drop k ns) capped ∙ capped_drop (input_count m.ports) ns small in
    let lines : stored_shown means (drop first ns) m.ops ≡ operations_shown (value_named ns m.ports (map parts_in (ops_by_position m.ops))) (drop (input_count m.ports) ns) (ops_by_position m.ops) =
    ap (λ l. stored_shown means l m.ops) following
    ∙ shown_by means (value_named ns m.ports (parts_in_body m.ops)) position same (drop (input_count m.ports) ns) m.ops
    ∙ ap (λ ps. operations_shown (value_named ns m.ports ps) (drop (input_count m.ports) ns) (ops_by_position m.ops)) (sym parts) in
    whole_module (module_named ns (numbered_module m)) out one two end (p ∙ ap (λ h. out ++ h) (headers ns m)) (q ∙ ap (λ l. one ++ operation_lines l) lines) r
    ∙ ap (λ l. out ++ module_bytes (module_named l (numbered_module m))) (given ∙ ap (names_given m.ports) (sym parts))
