-- The names of the leaves of ports: no two are one, and they are bytes.
use Rattle.std.proofs.Common.{◌≡◌, ℕ, zero, suc, ◌+◌, ◌<◌, ◌≤◌, ◌^◌, Bool, true, false, cond, List, [], ◌∷◌, ◌++◌, length, map, flat_map, Some, refl, sym, ap, ap₂, subst, ◌∙◌, inl, inr, arith}
use Rattle.std.proofs.lemmas.List.{length-append, length-map}
use Rattle.wiring.specs.Wiring.{In}
use Rattle.wiring.proofs.Members.{position_of_In, from_In-map, from_In-flat_map}
use Rattle.hw_model.specs.Types.{Name, HwType, FieldTypes, leaves, leaves_of_fields, list_copies}
use Rattle.hw_model.specs.Types.HwType.{int, clock, array, struct}
use Rattle.hw_model.specs.Types.FieldTypes.{no_fields, field}
use Rattle.hw_model.specs.Design.{Port, Module, Design}
use Rattle.hw_model.specs.Weight.{leaf_count, weight_of, module_weight, weight}
use Rattle.fresh_names.specs.Fresh.{is_taken, with_suffix, free_from, free_name, fresh}
use Rattle.fresh_names.proofs.Taken.{one_more}
use Rattle.fresh_names.proofs.Giving.{fresh_count}
use Rattle.mlir_syntax.specs.TypeText.{most_open}
use Rattle.stored_form.specs.Bytes.{Each, AreBytes}
use Rattle.op_verifier.specs.Headers.{has_twice}
use Rattle.op_verifier.specs.Verdict.{IsAccepted}
use Rattle.printing_laws.specs.Printable.{IsPrintablePort}
use Rattle.acceptance_laws.proofs.NameCounts.{found_here, light}
use Rattle.pass_laws.proofs.FreshOnce.{fresh_once}
use Rattle.aggregate_laws.specs.Leaves.{leaf_port, leaf_ports}
use Rattle.aggregate_laws.specs.Aggregates.{leaf_names, element_names, field_names}
use Rattle.aggregate_laws.specs.LeafPorts.{wanted_names, port_leaf_names, with_names, split_ports}
use Rattle.aggregate_laws.proofs.LeafPorts.{split_bare, leaves_plain}
use Rattle.aggregate_acceptance.specs.Names.{NamesPorts, NamesInstances}
use Rattle.aggregate_acceptance.proofs.NameBytes.{bytes_append, decimal_bytes, each_append, leaf_bytes}
use Rattle.lowering_rules.specs.LoweringRules.{named_by, named_kind, leaf_named}

-- the names of ports
abbrev names_of : List Port → List Name
names_of ps = map (λ (q : Port). q.name) ps

-- ---- how many there are

count_elements : (inner : Name → List Name) (xs : List HwType) → ((name : Name) → length (inner name) ≡ length xs) → (name : Name) (n : ℕ)
    → length (element_names inner name n) ≡ length (list_copies n xs)
count_elements inner xs each name zero = refl
count_elements inner xs each name (suc n) =
    length-append (inner _) (element_names inner name n)
    ∙ ap₂ (λ a b. a + b) (each _) (count_elements inner xs each name n)
    ∙ sym (length-append xs (list_copies n xs))

mutual
  count_names : (t : HwType) (name : Name) → length (leaf_names name t) ≡ length (leaves t)
  count_names (int w) name = refl
  count_names clock name = refl
  count_names (array n t) name = count_elements (λ (inner : Name). leaf_names inner t) (leaves t) (λ inner. count_names t inner) name n
  count_names (struct fs) name = count_fields fs name

  count_fields : (fs : FieldTypes) (name : Name) → length (field_names name fs) ≡ length (leaves_of_fields fs)
  count_fields no_fields name = refl
  count_fields (field f t fs) name =
      length-append (leaf_names (name ++ 95 ∷ f) t) (field_names name fs)
      ∙ ap₂ (λ a b. a + b) (count_names t (name ++ 95 ∷ f)) (count_fields fs name)
      ∙ sym (length-append (leaves t) (leaves_of_fields fs))

wanted_count : (ps : List Port) → length (wanted_names ps) ≡ length (flat_map leaf_ports ps)
wanted_count [] = refl
wanted_count (q ∷ ps) =
    length-append (leaf_names q.name q.type) (wanted_names ps)
    ∙ ap₂ (λ a b. a + b) (count_names q.type q.name ∙ sym (length-map (leaves q.type) (leaf_port q.is_output))) (wanted_count ps)
    ∙ sym (length-append (leaf_ports q) (flat_map leaf_ports ps))

wanted_weighs : (ps : List Port) → length (wanted_names ps) ≡ leaf_count (map (λ (p : Port). p.type) ps)
wanted_weighs [] = refl
wanted_weighs (q ∷ ps) =
    length-append (leaf_names q.name q.type) (wanted_names ps) ∙ ap₂ (λ a b. a + b) (count_names q.type q.name) (wanted_weighs ps)

-- ---- no two are one

named_are : (names : List Name) (qs : List Port) → length names ≡ length qs → names_of (with_names names qs) ≡ names
named_are [] [] same = refl
named_are [] (q ∷ qs) same = cc
named_are (n ∷ names) [] same = cc
named_are (n ∷ names) (q ∷ qs) same = ap (λ xs. n ∷ xs) (named_are names qs (let less : length names ≡ length qs = cc in less))

split_names : (ps : List Port) → names_of (split_ports ps) ≡ port_leaf_names ps
split_names ps = named_are (port_leaf_names ps) (flat_map leaf_ports ps) (fresh_count [] (wanted_names ps) ∙ wanted_count ps)

names_apart : (ps : List Port) → length (wanted_names ps) < 2 ^ 64 → has_twice (names_of (split_ports ps)) ≡ false
names_apart ps few = ap has_twice (split_names ps) ∙ fresh_once [] (wanted_names ps) (omega (arith, few))

-- ---- they are bytes

suffix_bytes : (wanted : Name) (k : ℕ) → AreBytes wanted → k < 10 ^ 64 → AreBytes (with_suffix wanted k)
unfolding with_suffix
suffix_bytes wanted k bytes few = bytes_append wanted _ bytes (omega arith, decimal_bytes k few)

free_bytes : (taken : List Name) (wanted : Name) (n k : ℕ) → AreBytes wanted → k + n < 10 ^ 64 → AreBytes (free_from taken wanted n k)
free_bytes taken wanted zero k bytes few = suffix_bytes wanted k bytes (omega arith)
free_bytes taken wanted (suc n) k bytes few =
    go (is_taken taken (with_suffix wanted k)) (free_bytes taken wanted n (k + 1) bytes (omega arith)) (suffix_bytes wanted k bytes (omega arith))
  where
    go : (b : Bool) → AreBytes (free_from taken wanted n (k + 1)) → AreBytes (with_suffix wanted k) → AreBytes (cond b (free_from taken wanted n (k + 1)) (with_suffix wanted k))
    go true later here = later
    go false later here = here

name_bytes : (taken : List Name) (wanted : Name) → AreBytes wanted → length taken < 2 ^ 64 → AreBytes (free_name taken wanted)
unfolding free_name
name_bytes taken wanted bytes few = go (is_taken taken wanted) (free_bytes taken wanted (length taken) 0 bytes (omega arith))
  where
    go : (b : Bool) → AreBytes (free_from taken wanted (length taken) 0) → AreBytes (cond b (free_from taken wanted (length taken) 0) wanted)
    go true suffixed = suffixed
    go false suffixed = bytes

fresh_bytes : (ts ws : List Name) → Each AreBytes ws → length ts + length ws < 2 ^ 64 → Each AreBytes (fresh ts ws)
fresh_bytes ts [] bytes few = tt
fresh_bytes ts (w ∷ ws) (first, rest) few =
    (name_bytes ts w first (omega (arith, few)), fresh_bytes (ts ++ free_name ts w ∷ []) ws rest (omega (arith, few, one_more ts (free_name ts w))))

wanted_bytes : (ps : List Port) → Each IsPrintablePort ps → Each AreBytes (wanted_names ps)
wanted_bytes [] printed = tt
wanted_bytes (q ∷ ps) (here, rest) =
    each_append AreBytes (leaf_names q.name q.type) (wanted_names ps) (leaf_bytes q.type most_open q.name here.name here.type) (wanted_bytes ps rest)

with_bytes : (names : List Name) (qs : List Port) → Each AreBytes names → ((q : Port) → In q qs → AreBytes q.name) → (q : Port) → In q (with_names names qs) → AreBytes q.name
with_bytes names [] bytes own q here = absurd here
with_bytes [] (p ∷ qs) bytes own q (inl same) = subst (λ (x : Port). AreBytes x.name) (sym same) (own p (inl refl))
with_bytes [] (p ∷ qs) bytes own q (inr there) = with_bytes [] qs bytes (λ x here. own x (inr here)) q there
with_bytes (n ∷ names) (p ∷ qs) (first, rest) own q (inl same) = subst (λ (x : Port). AreBytes x.name) (sym same) first
with_bytes (n ∷ names) (p ∷ qs) (first, rest) own q (inr there) = with_bytes names qs rest (λ x here. own x (inr here)) q there

leaf_nameless : (ps : List Port) (q : Port) → In q (flat_map leaf_ports ps) → AreBytes q.name
leaf_nameless ps q here =
    let from = from_In-flat_map leaf_ports q ps here in
    let leaf = from_In-map (leaf_port from.0.is_output) q (leaves from.0.type) from.2 in
    subst (λ (x : Port). AreBytes x.name) (sym leaf.2) tt

-- ---- designs

module _ (d : Design) (accepted : IsAccepted d) where
  few_leaves : (m : Module) → In m d → length (wanted_names m.ports) < 2 ^ 64
  few_leaves m among =
      let position = position_of_In m d among in
      let small : weight d m.symbol ≤ 2 ^ 28 = light d accepted position.0 m position.1 in
      let same : weight d m.symbol ≡ weight_of (module_weight (length d) d) (Some m) = ap (weight_of (module_weight (length d) d)) (found_here d accepted position.0 m position.1) in
      let count = wanted_weighs m.ports in
      omega (arith, small, same, count)

  pub ports_named : NamesPorts split_ports d
  ports_named = record {
    leaves_are = split_bare;
    first = λ m q among here. (leaves_plain m.ports q here).first;
    bytes = λ m q among printed here.
        with_bytes (port_leaf_names m.ports) (flat_map leaf_ports m.ports) (fresh_bytes [] (wanted_names m.ports) (wanted_bytes m.ports printed) (let few = few_leaves m among in omega (arith, few)))
        (leaf_nameless m.ports) q here;
    apart = λ m among once. names_apart m.ports (few_leaves m among);
  }

pub instances_named : (d : Design) → NamesInstances split_ports d (leaf_named d)
instances_named d o i c kind found = ap (named_kind d) kind ∙ ap (named_by i) found
