-- The names that a body's things are given in one walk are those of their keys.
use Rattle.std.proofs.Common.{◌≡◌, ℕ, zero, suc, ◌+◌, ◌<◌, Bool, true, false, cond, List, [], ◌∷◌, ◌++◌, map, length, slice_get, Option, Some, None, refl, sym, ◌∙◌, ap, inl, inr, arith, add-zero, add-suc, zero-add, suc-add, add-one}
use Rattle.wiring.specs.Wiring.{In}
use Rattle.hw_model.specs.Types.{Name}
use Rattle.hw_model.specs.Kinds.{Instance}
use Rattle.hw_model.specs.Design.{Port, OpResult, Op, instance_in}
use Rattle.hw_model.proofs.Sorts.{Sort, sort_of}
use Rattle.hw_model.proofs.Sorts.Sort.{a_register, an_instance, an_output, a_made}
use Rattle.name_legalise.specs.Legal.{legal_name, legal_after}
use Rattle.name_legalise.proofs.Legals.{legal_count}
use Rattle.verilog_expr.specs.Named.{name_in}
use Rattle.export_verilog.specs.Identifiers.{Emission, Identifier, same_identifier, each, emission_of, result_identifiers, identifiers_of, op_identifiers, name_among}
use Rattle.export_verilog.specs.Identifiers.Identifier.{port_identifier, value_identifier, instance_identifier}
use Rattle.export_verilog.specs.Identifiers.Emission.{inline, as_wire, as_reg, as_instance}
use Rattle.export_verilog.specs.Held.{own_name_hint, result_name_hints, name_hints_of, op_name_hints, results_of, op_results, own_name_of, op_own_name}
use Rattle.export_verilog.specs.Walks.{body_name_hints, body_given}
use Rattle.export_verilog.proofs.names.IdentifierNames.{identifier_self, identifier_from, among_identifier}
use Rattle.export_verilog.proofs.names.IdentifiersOf.{in_results, emission_of_instance, instance_of_emission}
use Rattle.export_verilog.proofs.items.Lists.{in_each}
use Rattle.export_verilog.proofs.names.PortNames.{legal_append}
use Rattle.export_verilog.proofs.names.Adding.{name_hint_count}

-- ---- names among keys

-- a thing that is not among the first keys has its name among the others
pub among_later : (ks ls : List Identifier) (ns ms : List Name) (identifier : Identifier) → length ns ≡ length ks → (In identifier ks → ⊥) → name_among (ks ++ ls) (ns ++ ms) identifier ≡ name_among ls ms identifier
among_later [] ls [] ms identifier count never = refl
among_later [] ls (n ∷ ns) ms identifier count never = absurd (omega (arith, count))
among_later (k ∷ ks) ls [] ms identifier count never = absurd (omega (arith, count))
among_later (k ∷ ks) ls (n ∷ ns) ms identifier count never =
    ap (λ b. cond b (Some n) (name_among (ks ++ ls) (ns ++ ms) identifier)) other
    ∙ among_later ks ls ns ms identifier (omega (arith, count)) (λ h. never (inr h)) where
      other : same_identifier k identifier ≡ false
      other = go (same_identifier k identifier) refl where
        go : (b : Bool) → same_identifier k identifier ≡ b → b ≡ false
        go true e = absurd (never (inl (sym (identifier_from k identifier e))))
        go false e = refl

pub among_none : (ks : List Identifier) (ns : List Name) (identifier : Identifier) → (In identifier ks → ⊥) → name_among ks ns identifier ≡ None
among_none ks ns identifier never = go (name_among ks ns identifier) refl where
  go : (o : Option Name) → name_among ks ns identifier ≡ o → o ≡ None
  go None e = refl
  go (Some n) e = absurd (never (among_identifier ks ns identifier n e))

-- ---- the keys of an operation are of its position

-- the position of the operation of a thing of a body
abbrev position_of : Identifier → ℕ
position_of (port_identifier j) = 0
position_of (value_identifier i k) = i
position_of (instance_identifier i) = i

own_position : (r : Emission) (i : ℕ) (o : Op) (identifier : Identifier) → In identifier (identifiers_of r i o) → position_of identifier ≡ i
own_position inline i o identifier here = absurd here
own_position as_wire i o identifier (inl same) = ap position_of same
own_position as_wire i o identifier (inr never) = absurd never
own_position as_reg i o identifier (inl same) = ap position_of same
own_position as_reg i o identifier (inr never) = absurd never
own_position as_instance i o identifier (inl same) = ap position_of same
own_position as_instance i o identifier (inr within) = let found = in_results i 0 o.results identifier within in ap position_of found.3

module _ (ports : List Port) (os : List Op) where
  -- no thing of an operation is among those of the later ones
  later_apart : (i : ℕ) (xs : List Op) (identifier : Identifier) → position_of identifier < i → In identifier (each (op_identifiers ports os) i xs) → ⊥
  later_apart i xs identifier before here =
      let e = in_each (op_identifiers ports os) i xs identifier here in
      let same : position_of identifier ≡ i + e.position = own_position (emission_of ports os (i + e.position) e.element) (i + e.position) e.element identifier e.within in
      omega (arith, before, same)

  none_later : (i : ℕ) (xs : List Op) (ms : List Name) (identifier : Identifier) → position_of identifier ≡ i → name_among (each (op_identifiers ports os) (suc i) xs) ms identifier ≡ None
  none_later i xs ms identifier at = among_none (each (op_identifiers ports os) (suc i) xs) ms identifier (later_apart (suc i) xs identifier (omega (arith, at)))

-- ---- the names of an operation's things

pub identifier_count : (i k : ℕ) (rs : List OpResult) → length (result_identifiers i k rs) ≡ length rs
identifier_count i k [] = refl
identifier_count i k (r ∷ rs) = ap suc (identifier_count i (suc k) rs)

-- the number of a result
abbrev result_number : Identifier → ℕ
result_number (value_identifier i k) = k
result_number _ = 0

other_result : (i k l : ℕ) → (k ≡ l → ⊥) → same_identifier (value_identifier i k) (value_identifier i l) ≡ false
other_result i k l never = go (same_identifier (value_identifier i k) (value_identifier i l)) refl where
  go : (b : Bool) → same_identifier (value_identifier i k) (value_identifier i l) ≡ b → b ≡ false
  go true e = absurd (never (ap result_number (identifier_from (value_identifier i k) (value_identifier i l) e)))
  go false e = refl

one_value : (i k : ℕ) (n : Name) (ls : List Identifier) (ms : List Name) → name_among ls ms (value_identifier i k) ≡ None
    → name_among (value_identifier i 0 ∷ ls) (n ∷ ms) (value_identifier i k) ≡ name_in (Some n ∷ []) k
one_value i zero n ls ms none = ap (λ b. cond b (Some n) (name_among ls ms (value_identifier i 0))) (identifier_self (value_identifier i 0))
one_value i (suc k) n ls ms none =
    ap (λ b. cond b (Some n) (name_among ls ms (value_identifier i (suc k)))) (other_result i 0 (suc k) (λ e. omega (arith, e))) ∙ none

results_among : (i c k : ℕ) (rs : List OpResult) (ws : List Name) (ls : List Identifier) (ms : List Name) → length ws ≡ length rs → name_among ls ms (value_identifier i (c + k)) ≡ None
    → name_among (result_identifiers i c rs ++ ls) (ws ++ ms) (value_identifier i (c + k)) ≡ name_in (map (λ (n : Name). Some n) ws) k
results_among i c k [] [] ls ms count none = none
results_among i c k [] (w ∷ ws) ls ms count none = absurd (omega (arith, count))
results_among i c k (r ∷ rs) [] ls ms count none = absurd (omega (arith, count))
results_among i c zero (r ∷ rs) (w ∷ ws) ls ms count none =
    ap (λ b. cond b (Some w) (name_among (result_identifiers i (suc c) rs ++ ls) (ws ++ ms) (value_identifier i (c + 0))))
    (ap (λ n. same_identifier (value_identifier i c) (value_identifier i n)) (add-zero c) ∙ identifier_self (value_identifier i c))
results_among i c (suc k) (r ∷ rs) (w ∷ ws) ls ms count none =
    let next : c + suc k ≡ suc c + k = add-suc c k ∙ sym (suc-add c k) in
    ap (λ b. cond b (Some w) (name_among (result_identifiers i (suc c) rs ++ ls) (ws ++ ms) (value_identifier i (c + suc k)))) (other_result i c (c + suc k) (λ e. omega (arith, e)))
    ∙ ap (λ n. name_among (result_identifiers i (suc c) rs ++ ls) (ws ++ ms) (value_identifier i n)) next
    ∙ results_among i (suc c) k rs ws ls ms (omega (arith, count)) (ap (λ n. name_among ls ms (value_identifier i n)) (sym next) ∙ none)

module _ (ports : List Port) (os : List Op) (i : ℕ) (x : Op) where
  emission_count : (r : Emission) → emission_of ports os i x ≡ r → length (op_name_hints r x) ≡ length (identifiers_of r i x)
  emission_count inline emission = refl
  emission_count as_wire emission = refl
  emission_count as_reg emission = refl
  emission_count as_instance emission =
      let is = instance_of_emission ports os i x emission in
      ap (λ y. length (name_hints_of as_instance y x)) is.2 ∙ ap suc (name_hint_count is.0 0 (length x.results) ∙ sym (identifier_count i 0 x.results))

  own_count : (ts : List Name) → length (legal_after ts (op_name_hints (emission_of ports os i x) x)) ≡ length (op_identifiers ports os i x)
  own_count ts = legal_count ts (op_name_hints (emission_of ports os i x) x) ∙ emission_count (emission_of ports os i x) refl

  own_value : (r : Emission) → emission_of ports os i x ≡ r → (ts : List Name) (ls : List Identifier) (ms : List Name) (k : ℕ) → name_among ls ms (value_identifier i k) ≡ None
      → name_among (identifiers_of r i x ++ ls) (legal_after ts (op_name_hints r x) ++ ms) (value_identifier i k) ≡ name_in (op_results ts r x) k
  own_value inline emission ts ls ms k none = none
  own_value as_wire emission ts ls ms k none = one_value i k (legal_name ts (own_name_hint x)) ls ms none
  own_value as_reg emission ts ls ms k none = one_value i k (legal_name ts (own_name_hint x)) ls ms none
  own_value as_instance emission ts ls ms k none =
      let is = instance_of_emission ports os i x emission in
      let us = ts ++ legal_name ts (is.0).name ∷ [] in
      let ws = result_name_hints is.0 0 (length x.results) in
      ap (λ y. name_among (identifiers_of as_instance i x ++ ls) (legal_after ts (name_hints_of as_instance y x) ++ ms) (value_identifier i k)) is.2
      ∙ ap (λ n. name_among (result_identifiers i 0 x.results ++ ls) (legal_after us ws ++ ms) (value_identifier i n)) (sym (zero-add k))
      ∙ results_among i 0 k x.results (legal_after us ws) ls ms (legal_count us ws ∙ name_hint_count is.0 0 (length x.results))
      (ap (λ n. name_among ls ms (value_identifier i n)) (zero-add k) ∙ none)
      ∙ sym (ap (λ y. name_in (results_of ts as_instance y x) k) is.2)

  block_emission : (y : Instance) → instance_in x.kind ≡ Some y → emission_of ports os i x ≡ as_instance
  block_emission y is = go (sort_of x.kind) where
    go : Sort x.kind → emission_of ports os i x ≡ as_instance
    go (a_register f r n u) = absurd (let h : None ≡ Some y = sym n ∙ is in cc)
    go (an_instance z r n u) = emission_of_instance ports os i x z r n
    go (an_output r n u) = absurd (let h : None ≡ Some y = sym n ∙ is in cc)
    go (a_made r n u) = absurd (let h : None ≡ Some y = sym n ∙ is in cc)

  own_instance : (y : Instance) → instance_in x.kind ≡ Some y → (ts : List Name) (ls : List Identifier) (ms : List Name)
      → name_among (op_identifiers ports os i x ++ ls) (legal_after ts (op_name_hints (emission_of ports os i x) x) ++ ms) (instance_identifier i) ≡ Some (op_own_name ts (emission_of ports os i x) x)
  own_instance y is ts ls ms =
      let n = legal_name ts y.name in
      let rest = name_among (result_identifiers i 0 x.results ++ ls) (legal_after (ts ++ n ∷ []) (result_name_hints y 0 (length x.results)) ++ ms) (instance_identifier i) in
      ap (λ r. name_among (identifiers_of r i x ++ ls) (legal_after ts (op_name_hints r x) ++ ms) (instance_identifier i)) (block_emission y is)
      ∙ ap (λ z. name_among (identifiers_of as_instance i x ++ ls) (legal_after ts (name_hints_of as_instance z x) ++ ms) (instance_identifier i)) is
      ∙ ap (λ b. cond b (Some n) rest) (identifier_self (instance_identifier i))
      ∙ sym (ap (λ r. Some (op_own_name ts r x)) (block_emission y is) ∙ ap (λ z. Some (own_name_of ts as_instance z)) is)

-- ---- the names of a body's things

-- the k-th name of what is given to an operation, where one is there
abbrev pub given_name : Option (List (Option Name)) → ℕ → Option Name
given_name None k = None
given_name (Some ns) k = name_in ns k

module _ (ports : List Port) (os : List Op) where
  -- a thing of a later operation
  step_later : (ts : List Name) (i : ℕ) (x : Op) (xs : List Op) (j : ℕ) (identifier : Identifier) → position_of identifier ≡ i + suc j
      → name_among (each (op_identifiers ports os) i (x ∷ xs)) (legal_after ts (body_name_hints ports os i (x ∷ xs))) identifier
      ≡ name_among (each (op_identifiers ports os) (suc i) xs) (legal_after (ts ++ legal_after ts (op_name_hints (emission_of ports os i x) x)) (body_name_hints ports os (suc i) xs)) identifier
  step_later ts i x xs j identifier at =
      let ws = op_name_hints (emission_of ports os i x) x in
      let us = ts ++ legal_after ts ws in
      let ls = each (op_identifiers ports os) (suc i) xs in
      ap (λ l. name_among (op_identifiers ports os i x ++ ls) l identifier) (legal_append ts ws (body_name_hints ports os (i + 1) xs))
      ∙ among_later (op_identifiers ports os i x) ls (legal_after ts ws) (legal_after us (body_name_hints ports os (i + 1) xs)) identifier (own_count ports os i x ts)
      (λ h. (let same = own_position (emission_of ports os i x) i x identifier h in omega (arith, at, same)))
      ∙ ap (λ n. name_among ls (legal_after us (body_name_hints ports os n xs)) identifier) (add-one i)

  pub values_given : (ts : List Name) (i : ℕ) (xs : List Op) (j k : ℕ) → name_among (each (op_identifiers ports os) i xs) (legal_after ts (body_name_hints ports os i xs)) (value_identifier (i + j) k)
      ≡ given_name (slice_get (body_given op_results ports os ts i xs) j) k
  values_given ts i [] j k = refl
  values_given ts i (x ∷ xs) zero k =
      let ws = op_name_hints (emission_of ports os i x) x in
      let ls = each (op_identifiers ports os) (suc i) xs in
      let ms = legal_after (ts ++ legal_after ts ws) (body_name_hints ports os (i + 1) xs) in
      ap (λ l. name_among (op_identifiers ports os i x ++ ls) l (value_identifier (i + 0) k)) (legal_append ts ws (body_name_hints ports os (i + 1) xs))
      ∙ ap (λ n. name_among (op_identifiers ports os i x ++ ls) (legal_after ts ws ++ ms) (value_identifier n k)) (add-zero i)
      ∙ own_value ports os i x (emission_of ports os i x) refl ts ls ms k (none_later ports os i xs ms (value_identifier i k) refl)
  values_given ts i (x ∷ xs) (suc j) k =
      let us = ts ++ legal_after ts (op_name_hints (emission_of ports os i x) x) in
      step_later ts i x xs j (value_identifier (i + suc j) k) refl
      ∙ ap (λ n. name_among (each (op_identifiers ports os) (suc i) xs) (legal_after us (body_name_hints ports os (suc i) xs)) (value_identifier n k)) (add-suc i j ∙ sym (suc-add i j))
      ∙ values_given us (suc i) xs j k
      ∙ ap (λ n. given_name (slice_get (body_given op_results ports os us n xs) j) k) (sym (add-one i))

  pub instances_given : (ts : List Name) (i : ℕ) (xs : List Op) (j : ℕ) (o : Op) (y : Instance) → slice_get xs j ≡ Some o → instance_in o.kind ≡ Some y
      → name_among (each (op_identifiers ports os) i xs) (legal_after ts (body_name_hints ports os i xs)) (instance_identifier (i + j)) ≡ slice_get (body_given op_own_name ports os ts i xs) j
  instances_given ts i [] j o y at is = cc
  instances_given ts i (x ∷ xs) zero o y at is =
      let ws = op_name_hints (emission_of ports os i x) x in
      let ls = each (op_identifiers ports os) (suc i) xs in
      let ms = legal_after (ts ++ legal_after ts ws) (body_name_hints ports os (i + 1) xs) in
      let same : x ≡ o = cc in
      ap (λ l. name_among (op_identifiers ports os i x ++ ls) l (instance_identifier (i + 0))) (legal_append ts ws (body_name_hints ports os (i + 1) xs))
      ∙ ap (λ n. name_among (op_identifiers ports os i x ++ ls) (legal_after ts ws ++ ms) (instance_identifier n)) (add-zero i)
      ∙ own_instance ports os i x y (ap (λ (z : Op). instance_in z.kind) same ∙ is) ts ls ms
  instances_given ts i (x ∷ xs) (suc j) o y at is =
      let us = ts ++ legal_after ts (op_name_hints (emission_of ports os i x) x) in
      step_later ts i x xs j (instance_identifier (i + suc j)) refl
      ∙ ap (λ n. name_among (each (op_identifiers ports os) (suc i) xs) (legal_after us (body_name_hints ports os (suc i) xs)) (instance_identifier n)) (add-suc i j ∙ sym (suc-add i j))
      ∙ instances_given us (suc i) xs j o y at is
      ∙ ap (λ n. slice_get (body_given op_own_name ports os us n xs) j) (sym (add-one i))

  pub given_count : {A : Type 0} (f : List Name → Emission → Op → A) (ts : List Name) (i : ℕ) (xs : List Op) → length (body_given f ports os ts i xs) ≡ length xs
  given_count f ts i [] = refl
  given_count f ts i (x ∷ xs) = ap suc (given_count f (ts ++ legal_after ts (op_name_hints (emission_of ports os i x) x)) (i + 1) xs)
