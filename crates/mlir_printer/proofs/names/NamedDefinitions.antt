-- The definitions that a printed module makes: one for each name that is given.
use Rattle.std.proofs.Common.{◌≡◌, ℕ, zero, suc, ◌+◌, ◌<◌, Bool, true, false, cond, List, [], ◌∷◌, ◌++◌, map, length, drop, refl, ap, ◌∙◌, sym, arith, length-append}
use Rattle.std.specs.Prelude.{nat_eq, min, Some, None}
use Rattle.std.proofs.lemmas.Bool.{eqb-true}
use Rattle.std.proofs.Math.Seq.{drop-nil}
use Rattle.hw_model.specs.Types.{Name}
use Rattle.hw_model.specs.Design.{Ref, Port, Op}
use Rattle.ir_store.specs.OperationViews.{OpParts}
use Rattle.mlir_operations.specs.OperandText.{ResultNames}
use Rattle.mlir_reader.specs.Resolving.{Definition, names_from, names_defined, port_definitions, port_definition, operation_definitions, body_definitions, own_count}
use Rattle.mlir_reader.specs.Resolving.Defined.{are_results}
use Rattle.mlir_printer.specs.Elements.{ValueText}
use Rattle.mlir_printer.specs.Naming.{input_count, first_name, firsts, listed_names, results_named}
use Rattle.printing_laws.proofs.NameCounts.{pack_kind, pack_named}
use Rattle.printing_laws.specs.NameHints.{name_hints, name_count, body_name_hints, port_name_hint, port_name_hints, is_pack}
use Rattle.mlir_printer.specs.Texts.{operations_shown, operation_shown, ports_shown}
use Rattle.printing_laws.specs.Parts.{parts_in}
use Rattle.mlir_printer.specs.Spellable.{said_operation, said_port}

abbrev pub name_of : Definition → Name
name_of d = d.name

-- ---- the first of some names

drop_one : {A : Type 0} (n : ℕ) (xs : List A) → drop n (drop 1 xs) ≡ drop (suc n) xs
drop_one n [] = drop-nil n ∙ sym (drop-nil (suc n))
drop_one n (x ∷ xs) = refl

pub firsts_add : (a b : ℕ) (ns : List Name) → firsts (a + b) ns ≡ firsts a ns ++ firsts b (drop a ns)
firsts_add zero b ns = let e : zero + b ≡ b = omega arith in ap (λ k. firsts k ns) e
firsts_add (suc a) b ns =
    let e : suc a + b ≡ suc (a + b) = omega arith in
    ap (λ k. firsts k ns) e ∙ ap (λ l. first_name ns ∷ l) (firsts_add a b (drop 1 ns) ∙ ap (λ l. firsts a (drop 1 ns) ++ firsts b l) (drop_one a ns))

pub firsts_all : (ns : List Name) → firsts (length ns) ns ≡ ns
firsts_all [] = refl
firsts_all (n ∷ ns) = ap (λ l. n ∷ l) (firsts_all ns)

pub firsts_length : (k : ℕ) (ns : List Name) → length (firsts k ns) ≡ k
firsts_length zero ns = refl
firsts_length (suc k) ns = ap suc (firsts_length k (drop 1 ns))

-- ---- names of definitions

pub map_append : {A B : Type 0} (f : A → B) (xs ys : List A) → map f (xs ++ ys) ≡ map f xs ++ map f ys
map_append f [] ys = refl
map_append f (x ∷ xs) ys = ap (λ l. f x ∷ l) (map_append f xs ys)

names_from_named : (i k : ℕ) (ns : List Name) → map name_of (names_from i k ns) ≡ ns
names_from_named i k [] = refl
names_from_named i k (n ∷ ns) = ap (λ l. n ∷ l) (names_from_named i (k + 1) ns)

listed_defined : (i own : ℕ) (ns : List Name) → names_defined i own (listed_names ns) ≡ names_from i 0 ns
listed_defined i own [] = refl
listed_defined i own (n ∷ ns) = refl

not_none : (n : ℕ) → 1 < n → nat_eq n 0 ≡ false
not_none n lt = go (nat_eq n 0) refl
  where
    go : (b : Bool) → nat_eq n 0 ≡ b → nat_eq n 0 ≡ false
    go true h = let e : n ≡ 0 = eqb-true n 0 h in absurd (omega (arith, lt, e))
    go false h = h

-- the one definition of a pack
pub pack_defined : (i own : ℕ) (o : OpParts) (ns : List Name) → is_pack o.kind (length o.results) ≡ true
    → names_defined i own (results_named o ns) ≡ record { name = first_name ns; defined = are_results i 0 (min (length o.results) own) } ∷ []
pack_defined i own o ns h =
    ap (λ b. names_defined i own (cond b (ResultNames.pack (first_name ns) (length o.results)) (listed_names (firsts (name_count o) ns)))) h
    ∙ ap (λ b. cond b [] (record { name = first_name ns; defined = are_results i 0 (min (length o.results) own) } ∷ []))
    (not_none (length o.results) (pack_kind o.kind (length o.results) h).1)

-- the definitions of results that are named one by one
pub each_defined : (i own : ℕ) (o : OpParts) (ns : List Name) → is_pack o.kind (length o.results) ≡ false
    → names_defined i own (results_named o ns) ≡ names_from i 0 (firsts (name_count o) ns)
each_defined i own o ns h =
    ap (λ b. names_defined i own (cond b (ResultNames.pack (first_name ns) (length o.results)) (listed_names (firsts (name_count o) ns)))) h
    ∙ listed_defined i own (firsts (name_count o) ns)

pub results_names : (i own : ℕ) (o : OpParts) (ns : List Name) → map name_of (names_defined i own (results_named o ns)) ≡ firsts (name_count o) ns
results_names i own o ns = go (is_pack o.kind (length o.results)) refl
  where
    go : (b : Bool) → is_pack o.kind (length o.results) ≡ b → map name_of (names_defined i own (results_named o ns)) ≡ firsts (name_count o) ns
    go true h =
        ap (map name_of) (pack_defined i own o ns h)
        ∙ sym (ap (λ k. firsts k ns) (pack_named o.kind o.types o.name (length o.results) h))
    go false h = ap (map name_of) (each_defined i own o ns h) ∙ names_from_named i 0 (firsts (name_count o) ns)

pub ports_names : (j : ℕ) (ns : List Name) (ps : List Port)
    → map name_of (port_definitions j (map said_port (ports_shown ns ps))) ≡ firsts (input_count ps) ns
ports_names j ns [] = refl
ports_names j ns (p ∷ ps) = go p.is_output (ports_names (j + 1) (drop (length (port_name_hint p)) ns) ps)
  where
    go : (b : Bool)
        → map name_of (port_definitions (j + 1) (map said_port (ports_shown (drop (length (cond b [] (Some p.name ∷ []))) ns) ps)))
        ≡ firsts (input_count ps) (drop (length (cond b [] (Some p.name ∷ []))) ns)
        → map name_of (port_definition j (cond b None (Some (first_name ns))) ++ port_definitions (j + 1)
        (map said_port (ports_shown (drop (length (cond b [] (Some p.name ∷ []))) ns) ps)))
        ≡ firsts (length (cond b [] (Some p.name ∷ []) ++ port_name_hints ps)) ns
    go true r = r
    go false r = ap (λ l. first_name ns ∷ l) r

pub body_names : (means : Ref → ValueText) (i : ℕ) (ns : List Name) (os : List Op)
    → map name_of (body_definitions i (map said_operation (operations_shown means ns os))) ≡ firsts (length (body_name_hints (map parts_in os))) ns
body_names means i ns [] = refl
body_names means i ns (o ∷ os) =
    let here = said_operation (operation_shown (parts_in o) (map means o.operands) ns) in
    let rest = map said_operation (operations_shown means (drop (name_count (parts_in o)) ns) os) in
    map_append name_of (operation_definitions i here) (body_definitions (i + 1) rest)
    ∙ ap (λ l. l ++ map name_of (body_definitions (i + 1) rest)) (results_names i (own_count here) (parts_in o) ns)
    ∙ ap (λ l. firsts (name_count (parts_in o)) ns ++ l) (body_names means (i + 1) (drop (name_count (parts_in o)) ns) os)
    ∙ sym (firsts_add (name_count (parts_in o)) (length (body_name_hints (map parts_in os))) ns)
    ∙ sym (ap (λ k. firsts k ns) (length-append (name_hints (parts_in o)) (body_name_hints (map parts_in os))))
