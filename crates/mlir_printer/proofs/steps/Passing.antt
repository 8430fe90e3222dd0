-- Steps of loops over the parts of an operation.
use Rattle.std.proofs.Common.{◌≡◌, ℕ, zero, suc, ◌+◌, ◌<◌, ◌≤◌, List, [], ◌∷◌, ◌++◌, map, length, min, drop, get_or, refl, sym, ap, ◌∙◌, zero-add, arith}
use Rattle.std.proofs.lemmas.List.{append-nil, drop_all}
use Rattle.hw_model.specs.Types.{Name, HwType}
use Rattle.hw_model.specs.TypeViews.{type_of}
use Rattle.assembly_format.specs.declared.elements.FormatElement.{FormatElement}
use Rattle.mlir_printer.specs.Commas.{comma_bytes, items_from}
use Rattle.mlir_printer.specs.Elements.{ValueText, input_bytes, output_bytes, inputs_joined, outputs_joined, operands_taken, types_taken, left_after}
use Rattle.mlir_printer.specs.Views.{value_held, pending_of, inherent_of}
use Rattle.mlir_printer.specs.declared.value_names.ValueNames.{ValueNames}
use Rattle.mlir_printer.specs.declared.inherent_view.Pending.{Pending}
use Rattle.std.proofs.Math.Seq.{drop-nil}
use Rattle.wiring.proofs.Joined.{split_at}
use Rattle.hw_model.specs.Design.{Port}
use Rattle.printing_laws.specs.NameHints.{port_name_hint}
use Rattle.mlir_printer.specs.Modules.{port_bytes}
use Rattle.mlir_printer.specs.Texts.{port_shown, ports_shown}
use Rattle.mlir_printer.proofs.steps.Steps.{added}
use Rattle.mlir_printer.proofs.steps.Entries.{map_drop}

pub inputs_step : {V T : Type 0} (g : V → ValueText) (h : T → HwType) (ps : List Name) (os : List V) (ts : List T) (i : ℕ) (p : Name) (o : V) (t : T) (out one two whole : List ℕ)
    → i < length ps → i < length os → i < length ts → p ≡ get_or ps i p → o ≡ get_or os i o → t ≡ get_or ts i t
    → out ++ items_from input_bytes i (inputs_joined (drop i ps) (map g (drop i os)) (map h (drop i ts))) ≡ whole
    → one ≡ out ++ comma_bytes i → two ≡ one ++ input_bytes (record { port = p; operand = g o; type = h t })
    → two ++ items_from input_bytes (i + 1) (inputs_joined (drop (i + 1) ps) (map g (drop (i + 1) os)) (map h (drop (i + 1) ts))) ≡ whole
inputs_step g h ps os ts i p o t out one two whole lp lo lt ap' ao at inv e1 e2 =
    let d : inputs_joined (drop i ps) (map g (drop i os)) (map h (drop i ts))
    ≡ record { port = p; operand = g o; type = h t } ∷ inputs_joined (drop (i + 1) ps) (map g (drop (i + 1) os)) (map h (drop (i + 1) ts)) =
    ap (λ x. inputs_joined x (map g (drop i os)) (map h (drop i ts))) (split_at ps i p lp ap')
    ∙ ap (λ x. inputs_joined (p ∷ drop (i + 1) ps) (map g x) (map h (drop i ts))) (split_at os i o lo ao)
    ∙ ap (λ x. inputs_joined (p ∷ drop (i + 1) ps) (map g (o ∷ drop (i + 1) os)) (map h x)) (split_at ts i t lt at) in
    added out one two (comma_bytes i) (input_bytes (record { port = p; operand = g o; type = h t }))
    (items_from input_bytes (i + 1) (inputs_joined (drop (i + 1) ps) (map g (drop (i + 1) os)) (map h (drop (i + 1) ts)))) whole
    (sym (ap (λ l. out ++ items_from input_bytes i l) d) ∙ inv) e1 e2

pub outputs_step : {T : Type 0} (h : T → HwType) (ps : List Name) (ts : List T) (i : ℕ) (p : Name) (t : T) (out one two whole : List ℕ)
    → i < length ps → i < length ts → p ≡ get_or ps i p → t ≡ get_or ts i t
    → out ++ items_from output_bytes i (outputs_joined (drop i ps) (map h (drop i ts))) ≡ whole
    → one ≡ out ++ comma_bytes i → two ≡ one ++ output_bytes (record { name = p; type = h t })
    → two ++ items_from output_bytes (i + 1) (outputs_joined (drop (i + 1) ps) (map h (drop (i + 1) ts))) ≡ whole
outputs_step h ps ts i p t out one two whole lp lt ap' at inv e1 e2 =
    let d : outputs_joined (drop i ps) (map h (drop i ts)) ≡ record { name = p; type = h t } ∷ outputs_joined (drop (i + 1) ps) (map h (drop (i + 1) ts)) =
    ap (λ x. outputs_joined x (map h (drop i ts))) (split_at ps i p lp ap') ∙ ap (λ x. outputs_joined (p ∷ drop (i + 1) ps) (map h x)) (split_at ts i t lt at) in
    added out one two (comma_bytes i) (output_bytes (record { name = p; type = h t })) (items_from output_bytes (i + 1) (outputs_joined (drop (i + 1) ps) (map h (drop (i + 1) ts)))) whole
    (sym (ap (λ l. out ++ items_from output_bytes i l) d) ∙ inv) e1 e2

-- what is left after a piece, as it is seen
pub pending_after : (v : ValueNames) (p : FormatElement) (l m : Pending) → m.operands.now ≡ drop (operands_taken p) l.operands.now
    → m.types.now ≡ drop (types_taken p) l.types.now → m.inherent_view ≡ l.inherent_view → pending_of v m ≡ left_after p (pending_of v l)
pending_after v p l m e f g =
    let os : map (value_held v) m.operands.now ≡ drop (operands_taken p) (map (value_held v) l.operands.now) =
    ap (map (value_held v)) e ∙ map_drop (value_held v) (operands_taken p) l.operands.now in
    let ts : map type_of m.types.now ≡ drop (types_taken p) (map type_of l.types.now) = ap (map type_of) f ∙ map_drop type_of (types_taken p) l.types.now in
    ap (λ x. record { operands = x; types = map type_of m.types.now; inherent = inherent_of m.inherent_view }) os
    ∙ ap (λ x. record { operands = drop (operands_taken p) (map (value_held v) l.operands.now); types = x; inherent = inherent_of m.inherent_view }) ts
    ∙ ap (λ x. record { operands = drop (operands_taken p) (map (value_held v) l.operands.now); types = drop (types_taken p) (map type_of l.types.now); inherent = inherent_of x }) g

inputs_no_operands : (ps : List Name) (ts : List HwType) → inputs_joined ps [] ts ≡ []
inputs_no_operands [] ts = refl
inputs_no_operands (p ∷ ps) ts = refl

inputs_no_types : (ps : List Name) (os : List ValueText) → inputs_joined ps os [] ≡ []
inputs_no_types [] os = refl
inputs_no_types (p ∷ ps) [] = refl
inputs_no_types (p ∷ ps) (o ∷ os) = refl

outputs_no_types : (ps : List Name) → outputs_joined ps [] ≡ []
outputs_no_types [] = refl
outputs_no_types (p ∷ ps) = refl

-- after the shortest of the lists nothing is joined
pub inputs_none : {V T : Type 0} (g : V → ValueText) (h : T → HwType) (ps : List Name) (os : List V) (ts : List T) (i : ℕ)
    → min (min (length ps) (length os)) (length ts) ≤ i → inputs_joined (drop i ps) (map g (drop i os)) (map h (drop i ts)) ≡ []
inputs_none g h [] os ts zero le = refl
inputs_none g h [] os ts (suc i) le = refl
inputs_none g h (p ∷ ps) [] ts zero le = refl
inputs_none g h (p ∷ ps) [] ts (suc i) le = inputs_no_operands (drop i ps) (map h (drop (suc i) ts))
inputs_none g h (p ∷ ps) (o ∷ os) [] zero le = refl
inputs_none g h (p ∷ ps) (o ∷ os) [] (suc i) le = inputs_no_types (drop i ps) (map g (drop i os))
inputs_none g h (p ∷ ps) (o ∷ os) (t ∷ ts) zero le = absurd (omega (arith, le))
inputs_none g h (p ∷ ps) (o ∷ os) (t ∷ ts) (suc i) le = inputs_none g h ps os ts i (omega (arith, le))

pub outputs_none : {T : Type 0} (h : T → HwType) (ps : List Name) (ts : List T) (i : ℕ)
    → min (length ps) (length ts) ≤ i → outputs_joined (drop i ps) (map h (drop i ts)) ≡ []
outputs_none h [] ts zero le = refl
outputs_none h [] ts (suc i) le = refl
outputs_none h (p ∷ ps) [] zero le = refl
outputs_none h (p ∷ ps) [] (suc i) le = outputs_no_types (drop i ps)
outputs_none h (p ∷ ps) (t ∷ ts) zero le = absurd (omega (arith, le))
outputs_none h (p ∷ ps) (t ∷ ts) (suc i) le = outputs_none h ps ts i (omega (arith, le))

-- where nothing is left all is added
pub all_added : {A : Type 0} (f : A → List ℕ) (m : ℕ) (left : List A) (out whole : List ℕ) → left ≡ [] → out ++ items_from f m left ≡ whole → out ≡ whole
all_added f m left out whole e h = sym (append-nil out) ∙ sym (ap (λ l. out ++ items_from f m l) e) ∙ h

pub drop_again : {A : Type 0} (k f : ℕ) (xs : List A) → drop k (drop f xs) ≡ drop (f + k) xs
drop_again k zero xs = ap (λ j. drop j xs) (sym (zero-add k))
drop_again k (suc f) [] = drop-nil k ∙ sym (drop-nil (suc f + k))
drop_again k (suc f) (x ∷ xs) = let e : suc (f + k) ≡ suc f + k = omega arith in drop_again k f xs ∙ ap (λ j. drop j (x ∷ xs)) e

-- the port at a position is added
pub ports_step : {A : Type 0} (view : A → Port) (ns : List Name) (xs : List A) (i first k : ℕ) (x : A) (out one two whole : List ℕ) → i < length xs → x ≡ get_or xs i x
    → k ≡ length (port_name_hint (view x)) → out ++ items_from port_bytes i (ports_shown (drop first ns) (map view (drop i xs))) ≡ whole
    → one ≡ out ++ comma_bytes i → two ≡ one ++ port_bytes (port_shown (drop first ns) (view x))
    → two ++ items_from port_bytes (i + 1) (ports_shown (drop (first + k) ns) (map view (drop (i + 1) xs))) ≡ whole
ports_step view ns xs i first k x out one two whole lt at count inv e1 e2 =
    let d : ports_shown (drop first ns) (map view (drop i xs)) ≡ port_shown (drop first ns) (view x) ∷ ports_shown (drop (first + k) ns) (map view (drop (i + 1) xs)) =
    ap (λ l. ports_shown (drop first ns) (map view l)) (split_at xs i x lt at)
    ∙ ap (λ m. port_shown (drop first ns) (view x) ∷ ports_shown m (map view (drop (i + 1) xs))) (ap (λ j. drop j (drop first ns)) (sym count) ∙ drop_again k first ns) in
    added out one two (comma_bytes i) (port_bytes (port_shown (drop first ns) (view x))) (items_from port_bytes (i + 1) (ports_shown (drop (first + k) ns) (map view (drop (i + 1) xs)))) whole
    (sym (ap (λ l. out ++ items_from port_bytes i l) d) ∙ inv) e1 e2

pub ports_end : {A : Type 0} (view : A → Port) (ms : List Name) (xs : List A) (i m : ℕ) (out whole : List ℕ) → length xs ≤ i
    → out ++ items_from port_bytes m (ports_shown ms (map view (drop i xs))) ≡ whole → out ≡ whole
ports_end view ms xs i m out whole le h =
    all_added port_bytes m (ports_shown ms (map view (drop i xs))) out whole (ap (λ l. ports_shown ms (map view l)) (drop_all i xs le)) h
