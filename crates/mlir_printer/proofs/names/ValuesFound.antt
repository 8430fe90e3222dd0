-- The name that stands for a value in the printed text is found again as that value.
use Rattle.std.proofs.Common.{◌≡◌, ℕ, zero, suc, ◌+◌, ◌<◌, Bool, true, false, cond, List, [], ◌∷◌, ◌++◌, map, length, drop, refl, ap, ◌∙◌, sym, subst, inl, inr, arith}
use Rattle.std.specs.Prelude.{nat_lt, min, Some, None, slice_get}
use Rattle.std.proofs.lemmas.Bool.{lt-ltb}
use Rattle.hw_model.specs.Types.{Name}
use Rattle.hw_model.specs.Design.{Ref, Port, Op}
use Rattle.hw_model.specs.Design.Ref.{port, result}
use Rattle.ir_store.specs.OperationViews.{OpParts}
use Rattle.mlir_reader.specs.Resolving.{Meanings, Definition, names_from, names_defined, port_definitions, port_definition, operation_definitions, body_definitions, own_count, ref_in, resolve_operand}
use Rattle.mlir_reader.specs.Resolving.Defined.{is_port, are_results}
use Rattle.mlir_printer.specs.Elements.{ValueText, no_value}
use Rattle.mlir_printer.specs.Naming.{first_name, name_value_text, firsts, value_at, value_in, port_value, results_named}
use Rattle.printing_laws.specs.NameHints.{name_count, port_name_hint, is_pack}
use Rattle.mlir_printer.specs.Texts.{operations_shown, operation_shown, ports_shown, port_shown}
use Rattle.printing_laws.specs.Parts.{parts_in}
use Rattle.mlir_printer.specs.Spellable.{said_operand, said_operation, said_port}
use Rattle.mlir_printer.proofs.names.NameTables.{Among, Finds, finds_left, finds_right}
use Rattle.mlir_printer.proofs.names.NamedDefinitions.{pack_defined, each_defined}

-- ---- ports

here_port : (m : Meanings) (j : ℕ) (n : Name) (ds : List Definition) → Finds m (port_definition j (Some n) ++ ds)
    → resolve_operand m (said_operand (name_value_text n)) ≡ port j
here_port m j n ds f = ap (λ o. ref_in o 0) (f (record { name = n; defined = is_port j }) (inl refl))

pub port_found : (m : Meanings) (ns : List Name) (ps : List Port) (first j : ℕ) (p : Port)
    → Finds m (port_definitions first (map said_port (ports_shown ns ps))) → slice_get ps j ≡ Some p → p.is_output ≡ false
    → resolve_operand m (said_operand (port_value ns ps j)) ≡ port (first + j)
port_found m ns [] first j p f at input = cc
port_found m ns (q ∷ ps) first zero p f at input =
    let same : q ≡ p = cc in
    let out : q.is_output ≡ false = ap (λ (x : Port). x.is_output) same ∙ input in
    let z : first ≡ first + zero = omega arith in
    go q.is_output out f ∙ ap (λ k. port k) z
  where
    go : (b : Bool) → b ≡ false
        → Finds m (port_definition first (cond b None (Some (first_name ns))) ++ port_definitions (first + 1)
        (map said_port (ports_shown (drop (length (cond b [] (Some q.name ∷ []))) ns) ps)))
        → resolve_operand m (said_operand (cond b no_value (name_value_text (first_name ns)))) ≡ port first
    go true e g = cc
    go false e g = here_port m first (first_name ns) (port_definitions (first + 1) (map said_port (ports_shown (drop 1 ns) ps))) g
port_found m ns (q ∷ ps) first (suc j) p f at input =
    let s : first + 1 + j ≡ first + suc j = omega arith in
    port_found m (drop (length (port_name_hint q)) ns) ps (first + 1) j p
    (finds_right m (port_definition first (port_shown ns q).value)
    (port_definitions (first + 1) (map said_port (ports_shown (drop (length (port_name_hint q)) ns) ps))) f) at input
    ∙ ap (λ k. port k) s

-- ---- results

names_among : (i from : ℕ) (n k : ℕ) (ns : List Name) → k < n
    → Among (record { name = first_name (drop k ns); defined = are_results i (from + k) 1 }) (names_from i from (firsts n ns))
names_among i from zero k ns lt = absurd (omega (arith, lt))
names_among i from (suc n) zero ns lt = let z : from + zero ≡ from = omega arith in inl
    (ap (λ j. record { name = first_name ns; defined = are_results i j 1 }) z)
names_among i from (suc n) (suc k) ns lt =
    let s : from + 1 + k ≡ from + suc k = omega arith in
    inr (subst (λ (d : Definition). Among d (names_from i (from + 1) (firsts n (drop 1 ns))))
    (ap (λ l. record { name = first_name l; defined = are_results i (from + 1 + k) 1 }) (drop_next k ns) ∙ ap
    (λ j. record { name = first_name (drop (suc k) ns); defined = are_results i j 1 }) s)
    (names_among i (from + 1) n k (drop 1 ns) (omega (arith, lt))))
  where
    drop_next : (k : ℕ) (ns : List Name) → drop k (drop 1 ns) ≡ drop (suc k) ns
    drop_next zero [] = refl
    drop_next (suc k) [] = refl
    drop_next k (n ∷ ns) = refl

-- how many results of an operation have names
pub record AreCounted (own : ℕ) (o : OpParts) : Type 0 where
  pub counted : length o.results ≡ own
  pub listed : is_pack o.kind (length o.results) ≡ false → name_count o ≡ length o.results

pub result_at : (m : Meanings) (i own k : ℕ) (o : OpParts) (ns : List Name)
    → Finds m (names_defined i own (results_named o ns)) → AreCounted own o → k < length o.results
    → resolve_operand m (said_operand (value_at o ns k)) ≡ result i k
result_at m i own k o ns f counts lt = go (is_pack o.kind (length o.results)) refl
  where
    go : (b : Bool) → is_pack o.kind (length o.results) ≡ b → resolve_operand m (said_operand (value_at o ns k)) ≡ result i k
    go true h =
        let all : List Definition = record { name = first_name ns; defined = are_results i 0 (min (length o.results) own) } ∷ [] in
        let g : Finds m all = subst (λ ds. Finds m ds) (pack_defined i own o ns h) f in
        let within : k < min (length o.results) own = let c = counts.counted in omega (arith, lt, c) in
        let z : 0 + k ≡ k = omega arith in
        let v : value_at o ns k ≡ record { name = first_name ns; number = Some k } =
        ap (λ b. cond b (cond (nat_lt k (length o.results)) (record { name = first_name ns; number = Some k }) no_value)
        (cond (nat_lt k (name_count o)) (name_value_text (first_name (drop k ns))) no_value)) h
        ∙ ap (λ b. cond b (record { name = first_name ns; number = Some k }) no_value) (lt-ltb k (length o.results) lt) in
        ap (λ x. resolve_operand m (said_operand x)) v
        ∙ ap (λ d. ref_in d k) (g (record { name = first_name ns; defined = are_results i 0 (min (length o.results) own) }) (inl refl))
        ∙ ap (λ b. cond b (result i (0 + k)) Ref.undefined) (lt-ltb k (min (length o.results) own) within)
        ∙ ap (λ j. result i j) z
    go false h =
        let c : k < name_count o = let e = counts.listed h in omega (arith, lt, e) in
        let g : Finds m (names_from i 0 (firsts (name_count o) ns)) = subst (λ ds. Finds m ds) (each_defined i own o ns h) f in
        let z : 0 + k + 0 ≡ k = omega arith in
        let v : value_at o ns k ≡ name_value_text (first_name (drop k ns)) =
        ap (λ b. cond b (cond (nat_lt k (length o.results)) (record { name = first_name ns; number = Some k }) no_value)
        (cond (nat_lt k (name_count o)) (name_value_text (first_name (drop k ns))) no_value)) h
        ∙ ap (λ b. cond b (name_value_text (first_name (drop k ns))) no_value) (lt-ltb k (name_count o) c) in
        ap (λ x. resolve_operand m (said_operand x)) v
        ∙ ap (λ d. ref_in d 0) (g (record { name = first_name (drop k ns); defined = are_results i (0 + k) 1 }) (names_among i 0 (name_count o) k ns c))
        ∙ ap (λ j. result i j) z

pub result_found : (m : Meanings) (means : Ref → ValueText) (ns : List Name) (os : List Op) (first i k : ℕ) (o : Op)
    → Finds m (body_definitions first (map said_operation (operations_shown means ns os))) → slice_get os i ≡ Some o
    → ((x : Op) (ms : List Name) → Among x os → AreCounted (own_count (said_operation (operation_shown (parts_in x) (map means x.operands) ms))) (parts_in x))
    → k < length o.results
    → resolve_operand m (said_operand (value_in ns (map parts_in os) i k)) ≡ result (first + i) k
result_found m means ns [] first i k o f at counts lt = cc
result_found m means ns (x ∷ os) first zero k o f at counts lt =
    let same : x ≡ o = cc in
    let here = said_operation (operation_shown (parts_in x) (map means x.operands) ns) in
    let rest = body_definitions (first + 1) (map said_operation (operations_shown means (drop (name_count (parts_in x)) ns) os)) in
    let z : first ≡ first + zero = omega arith in
    let l : k < length x.results = subst (λ (y : Op). k < length y.results) (sym same) lt in
    result_at m first (own_count here) k (parts_in x) ns (finds_left m (operation_definitions first here) rest f) (counts x ns (inl refl)) l
    ∙ ap (λ j. result j k) z
result_found m means ns (x ∷ os) first (suc i) k o f at counts lt =
    let here = said_operation (operation_shown (parts_in x) (map means x.operands) ns) in
    let rest = body_definitions (first + 1) (map said_operation (operations_shown means (drop (name_count (parts_in x)) ns) os)) in
    let s : first + 1 + i ≡ first + suc i = omega arith in
    result_found m means (drop (name_count (parts_in x)) ns) os (first + 1) i k o (finds_right m (operation_definitions first here) rest f) at
    (λ y ms h. counts y ms (inr h)) lt
    ∙ ap (λ j. result j k) s
