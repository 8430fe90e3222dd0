-- What a module's tree declares has legal names, of which none stands twice.
use Rattle.std.proofs.Common.{◌≡◌, ℕ, suc, ◌+◌, ◌⊎◌, Bool, true, false, cond, List, [], ◌∷◌, ◌++◌, map, slice_get, Option, Some, None, refl, sym, ◌∙◌, ap, ap₂, subst, inl, inr, arith, zero-add}
use Rattle.std.proofs.Common.{add-zero, suc-add, add-suc, append_assoc, append-nil}
use Rattle.std.proofs.lemmas.List.{map-append}
use Rattle.wiring.specs.Wiring.{In}
use Rattle.hw_model.specs.Types.{Name}
use Rattle.hw_model.specs.Design.{Port, OpResult, Op, Module, Design, output_refs, Ref}
use Rattle.hw_model.specs.Flat.{Register, ResetBy, register_in, async_reset_in}
use Rattle.verilog_model.specs.Tree.{Item}
use Rattle.verilog_model.specs.Tree.Item.{assign}
use Rattle.verilog_model.specs.Checks.{is_identifier, all_identifiers, names_check, are_distinct, Declared, declared_by, declared_ports, declared_items, declared_in}
use Rattle.verilog_model.proofs.Numerals.{and_intro}
use Rattle.lowering_options.specs.declared.lowering.Lowering.{Lowering}
use Rattle.export_verilog.specs.Lowerings.{load_place}
use Rattle.export_verilog.specs.Identifiers.{Identifier, Emission, each, emission_of, result_identifiers, identifier_text, module_identifiers}
use Rattle.export_verilog.specs.Identifiers.Identifier.{port_identifier, value_identifier, instance_identifier}
use Rattle.export_verilog.specs.Identifiers.Emission.{inline, as_wire, as_reg, as_instance}
use Rattle.export_verilog.specs.Exported.{expression, expr_or_none, others, vport, vports, vitems, vmodule, result_wires, declared_as, declares, always_of, instance_of, stated_as, states, output_assigns}
use Rattle.export_verilog.proofs.items.Lists.{in_append}
use Rattle.export_verilog.proofs.names.IdentifierNames.{AreNames, text_named, name_is_identifier}
use Rattle.export_verilog.proofs.names.IdentifiersOf.{from_each, in_results, instance_of_emission, net_in, variable_in, instance_in_identifiers, result_in_identifiers}
use Rattle.export_verilog.proofs.names.Apart.{AreApart, joined_apart, texts_distinct, port_identifiers_from, port_identifiers_above, port_identifiers_apart, port_identifiers_within}

name_of_declared : Declared → Name
name_of_declared y = y.name

-- ---- the keys of what is declared

-- the keys of an operation's declarations, and of its statements
abbrev pub wire_identifiers : Emission → ℕ → Op → List Identifier
wire_identifiers inline i o = []
wire_identifiers as_wire i o = value_identifier i 0 ∷ []
wire_identifiers as_reg i o = value_identifier i 0 ∷ []
wire_identifiers as_instance i o = result_identifiers i 0 o.results

abbrev pub block_identifiers : Emission → ℕ → Op → List Identifier
block_identifiers inline i o = []
block_identifiers as_wire i o = []
block_identifiers as_reg i o = []
block_identifiers as_instance i o = instance_identifier i ∷ []

module _ (via : Lowering) (m : Module) where
  abbrev pub op_wires : ℕ → Op → List Identifier
  op_wires i o = wire_identifiers (emission_of m.ports m.body i o) i o

  abbrev pub op_blocks : ℕ → Op → List Identifier
  op_blocks i o = block_identifiers (emission_of m.ports m.body i o) i o

  abbrev pub declared_identifiers : List Identifier
  declared_identifiers = port_identifiers_from 0 m.ports ++ (each op_wires 0 m.body ++ each op_blocks 0 m.body)

  -- ---- the names that are declared are those of the keys

  names_of : List Item → List Name
  names_of is = map name_of_declared (declared_items is)

  names_joined : (xs ys : List Item) → names_of (xs ++ ys) ≡ names_of xs ++ names_of ys
  unfolding names_of
  names_joined [] ys = refl
  names_joined (y ∷ xs) ys =
      map-append name_of_declared (declared_by y) (declared_items (xs ++ ys)) ∙ ap (λ z. map name_of_declared (declared_by y) ++ z) (names_joined xs ys)
      ∙ sym (append_assoc (map name_of_declared (declared_by y)) (names_of xs) (names_of ys)) ∙ ap (λ z. z ++ names_of ys) (sym (map-append name_of_declared (declared_by y) (declared_items xs)))

  names_each : (f : ℕ → Op → List Item) (g : ℕ → Op → List Identifier) (i : ℕ) (os : List Op) → ((j : ℕ) (o : Op) → names_of (f j o) ≡ map (identifier_text m) (g j o))
      → names_of (each f i os) ≡ map (identifier_text m) (each g i os)
  unfolding names_of
  names_each f g i [] same = refl
  names_each f g i (o ∷ os) same =
      names_joined (f i o) (each f (suc i) os) ∙ ap₂ (λ a b. a ++ b) (same i o) (names_each f g (suc i) os same) ∙ sym (map-append (identifier_text m) (g i o) (each g (suc i) os))

  result_names : (i k : ℕ) (rs : List OpResult) → names_of (result_wires m i k rs) ≡ map (identifier_text m) (result_identifiers i k rs)
  unfolding names_of name_of_declared
  result_names i k [] = refl
  result_names i k (r ∷ rs) = ap (λ z. identifier_text m (value_identifier i k) ∷ z) (result_names i (suc k) rs)

  wire_names : (i : ℕ) (o : Op) → names_of (declares m i o) ≡ map (identifier_text m) (op_wires i o)
  unfolding names_of name_of_declared
  wire_names i o = go (emission_of m.ports m.body i o) where
    go : (r : Emission) → names_of (declared_as m i o r) ≡ map (identifier_text m) (wire_identifiers r i o)
    go inline = refl
    go as_wire = refl
    go as_reg = refl
    go as_instance = result_names i 0 o.results

  block_names : (d : Design) (i : ℕ) (o : Op) → names_of (states via d m i o) ≡ map (identifier_text m) (op_blocks i o)
  unfolding names_of name_of_declared
  block_names d i o = go (emission_of m.ports m.body i o) refl where
    in_always : (q : Name) (a : Option ResetBy) (r : Option Register) → names_of (always_of via m q a r) ≡ []
    in_always q a None = refl
    in_always q a (Some r) = refl

    go : (r : Emission) → emission_of m.ports m.body i o ≡ r → names_of (stated_as via d m i o r) ≡ map (identifier_text m) (block_identifiers r i o)
    go inline e = refl
    go as_wire e = refl
    go as_reg e = in_always (identifier_text m (value_identifier i 0)) (async_reset_in o) (register_in o)
    go as_instance e = ap (λ z. names_of (instance_of via d m i o z)) (instance_of_emission m.ports m.body i o e).2

  output_names : (j : ℕ) (ps : List Port) (rs : List Ref) → names_of (output_assigns via m j ps rs) ≡ []
  unfolding names_of
  output_names j [] rs = refl
  output_names j (p ∷ ps) rs = go p.is_output (output_names (suc j) ps (others rs)) (output_names (suc j) ps rs) where
    go : (b : Bool) → names_of (output_assigns via m (suc j) ps (others rs)) ≡ [] → names_of (output_assigns via m (suc j) ps rs) ≡ []
        → names_of (cond b (assign (identifier_text m (port_identifier j)) (expr_or_none (expression m (load_place via)) rs) ∷ output_assigns via m (suc j) ps (others rs)) (output_assigns via m (suc j) ps rs)) ≡ []
    go true u v = u
    go false u v = v

  port_names : (j : ℕ) (ps : List Port) → map name_of_declared (declared_ports (each (vport m) j ps)) ≡ map (identifier_text m) (port_identifiers_from j ps)
  unfolding name_of_declared port_identifiers_from
  port_names j [] = refl
  port_names j (p ∷ ps) = ap (λ z. identifier_text m (port_identifier j) ∷ z) (port_names (suc j) ps)

  pub declared_names : (d : Design) → map (λ (y : Declared). y.name) (declared_in (vmodule via d m)) ≡ map (identifier_text m) declared_identifiers
  unfolding names_of name_of_declared
  declared_names d =
      map-append name_of_declared (declared_ports (vports m)) (declared_items (vitems via d m))
      ∙ ap₂ (λ a b. a ++ b) (port_names 0 m.ports)
      (names_joined (each (declares m) 0 m.body) (each (states via d m) 0 m.body ++ output_assigns via m 0 m.ports (output_refs m.body))
      ∙ ap₂ (λ a b. a ++ b) (names_each (declares m) op_wires 0 m.body wire_names)
      (names_joined (each (states via d m) 0 m.body) (output_assigns via m 0 m.ports (output_refs m.body))
      ∙ ap₂ (λ a b. a ++ b) (names_each (states via d m) op_blocks 0 m.body (block_names d)) (output_names 0 m.ports (output_refs m.body))
      ∙ append-nil (map (identifier_text m) (each op_blocks 0 m.body)))
      ∙ sym (map-append (identifier_text m) (each op_wires 0 m.body) (each op_blocks 0 m.body)))
      ∙ sym (map-append (identifier_text m) (port_identifiers_from 0 m.ports) (each op_wires 0 m.body ++ each op_blocks 0 m.body))

-- ---- no thing is declared twice

-- the position that a key names
pub identifier_position : Identifier → ℕ
identifier_position (port_identifier j) = j
identifier_position (value_identifier i k) = i
identifier_position (instance_identifier i) = i

module _ {A : Type 0} (f : ℕ → A → List Identifier) (placed : (i : ℕ) (x : A) (k : Identifier) → In k (f i x) → identifier_position k ≡ i) (apart : (i : ℕ) (x : A) → AreApart (f i x)) where
  each_above : (i : ℕ) (xs : List A) (k : Identifier) → In k (each f i xs) → (n : ℕ) × (identifier_position k ≡ i + n)
  each_above i [] k here = absurd here
  each_above i (x ∷ xs) k here = go (in_append k (f i x) (each f (suc i) xs) here) (each_above (suc i) xs k) where
    go : In k (f i x) ⊎ In k (each f (suc i) xs) → (In k (each f (suc i) xs) → (n : ℕ) × (identifier_position k ≡ suc i + n)) → (n : ℕ) × (identifier_position k ≡ i + n)
    go (inl h) rest = (0, placed i x k h ∙ sym (add-zero i))
    go (inr h) rest = let e = rest h in (suc e.0, e.1 ∙ suc-add i e.0 ∙ sym (add-suc i e.0))

  pub each_apart : (i : ℕ) (xs : List A) → AreApart (each f i xs)
  each_apart i [] = tt
  each_apart i (x ∷ xs) =
      joined_apart (f i x) (each f (suc i) xs) (apart i x) (each_apart (suc i) xs)
      (λ k u v. let e = each_above (suc i) xs k v in clash k (placed i x k u) e.0 e.1) where
        clash : (k : Identifier) → identifier_position k ≡ i → (n : ℕ) → identifier_position k ≡ suc i + n → ⊥
        clash k a n b = omega (arith, a, b)

result_identifiers_above : (i k : ℕ) (rs : List OpResult) (identifier : Identifier) → In identifier (result_identifiers i k rs) → (n : ℕ) × (identifier ≡ value_identifier i (k + n))
result_identifiers_above i k rs identifier here = let e = in_results i k rs identifier here in (e.0, e.3)

result_identifiers_apart : (i k : ℕ) (rs : List OpResult) → AreApart (result_identifiers i k rs)
result_identifiers_apart i k [] = tt
result_identifiers_apart i k (r ∷ rs) = ((λ h. let e = result_identifiers_above i (suc k) rs (value_identifier i k) h in clash e.0 e.1), result_identifiers_apart i (suc k) rs) where
  clash : (n : ℕ) → value_identifier i k ≡ value_identifier i (suc k + n) → ⊥
  clash n e = let f : k ≡ suc k + n = cc in omega (arith, f)

module _ (via : Lowering) (m : Module) where
  pub wires_placed : (i : ℕ) (o : Op) (k : Identifier) → In k (op_wires via m i o) → identifier_position k ≡ i
  unfolding identifier_position
  wires_placed i o k here = go (emission_of m.ports m.body i o) here where
    single : In k (value_identifier i 0 ∷ []) → identifier_position k ≡ i
    single (inl e) = ap identifier_position e
    single (inr never) = absurd never

    go : (r : Emission) → In k (wire_identifiers r i o) → identifier_position k ≡ i
    go inline h = absurd h
    go as_wire h = single h
    go as_reg h = single h
    go as_instance h = ap identifier_position (result_identifiers_above i 0 o.results k h).1

  pub wires_apart : (i : ℕ) (o : Op) → AreApart (op_wires via m i o)
  wires_apart i o = go (emission_of m.ports m.body i o) where
    go : (r : Emission) → AreApart (wire_identifiers r i o)
    go inline = tt
    go as_wire = ((λ h. h), tt)
    go as_reg = ((λ h. h), tt)
    go as_instance = result_identifiers_apart i 0 o.results

  blocks_placed : (i : ℕ) (o : Op) (k : Identifier) → In k (op_blocks via m i o) → (k ≡ instance_identifier i) × (identifier_position k ≡ i)
  unfolding identifier_position
  blocks_placed i o k here = go (emission_of m.ports m.body i o) here where
    go : (r : Emission) → In k (block_identifiers r i o) → (k ≡ instance_identifier i) × (identifier_position k ≡ i)
    go inline h = absurd h
    go as_wire h = absurd h
    go as_reg h = absurd h
    go as_instance (inl e) = (e, ap identifier_position e)
    go as_instance (inr never) = absurd never

  blocks_apart : (i : ℕ) (o : Op) → AreApart (op_blocks via m i o)
  blocks_apart i o = go (emission_of m.ports m.body i o) where
    go : (r : Emission) → AreApart (block_identifiers r i o)
    go inline = tt
    go as_wire = tt
    go as_reg = tt
    go as_instance = ((λ h. h), tt)

  -- a wire's key is a value's, and a block's an instance's
  pub wire_kind : (k : Identifier) → In k (each (op_wires via m) 0 m.body) → (i n : ℕ) × (k ≡ value_identifier i n)
  wire_kind k here = let e = from_each (op_wires via m) m.body k here in go e.0 e.1 (emission_of m.ports m.body e.0 e.1) e.3 where
    single : (i : ℕ) → In k (value_identifier i 0 ∷ []) → (j n : ℕ) × (k ≡ value_identifier j n)
    single i (inl e) = (i, 0, e)
    single i (inr never) = absurd never

    go : (i : ℕ) (o : Op) (r : Emission) → In k (wire_identifiers r i o) → (j n : ℕ) × (k ≡ value_identifier j n)
    go i o inline h = absurd h
    go i o as_wire h = single i h
    go i o as_reg h = single i h
    go i o as_instance h = let e = result_identifiers_above i 0 o.results k h in (i, 0 + e.0, e.1)

  pub block_kind : (k : Identifier) → In k (each (op_blocks via m) 0 m.body) → (i : ℕ) × (k ≡ instance_identifier i)
  block_kind k here = let e = from_each (op_blocks via m) m.body k here in (e.0, (blocks_placed e.0 e.1 k e.3).0)

  pub port_kind : (k : Identifier) → In k (port_identifiers_from 0 m.ports) → (j : ℕ) × (k ≡ port_identifier j)
  port_kind k here = let e = port_identifiers_above 0 m.ports k here in (0 + e.0, e.3)

  pub declared_apart : AreApart (declared_identifiers via m)
  declared_apart =
      joined_apart (port_identifiers_from 0 m.ports) (each (op_wires via m) 0 m.body ++ each (op_blocks via m) 0 m.body) (port_identifiers_apart 0 m.ports)
      (joined_apart (each (op_wires via m) 0 m.body) (each (op_blocks via m) 0 m.body) (each_apart (op_wires via m) wires_placed wires_apart 0 m.body)
      (each_apart (op_blocks via m) (λ i o k h. (blocks_placed i o k h).1) blocks_apart 0 m.body)
      (λ k u v. let a = wire_kind k u in let b = block_kind k v in value_instance a.0 a.1 b.0 (sym a.2 ∙ b.1)))
      (λ k u v. let a = port_kind k u in go k a.0 a.1 (in_append k (each (op_wires via m) 0 m.body) (each (op_blocks via m) 0 m.body) v)) where
        value_instance : (i n j : ℕ) → value_identifier i n ≡ instance_identifier j → ⊥
        value_instance i n j e = cc

        port_value : (j i n : ℕ) → port_identifier j ≡ value_identifier i n → ⊥
        port_value j i n e = cc

        port_instance : (j i : ℕ) → port_identifier j ≡ instance_identifier i → ⊥
        port_instance j i e = cc

        go : (k : Identifier) (j : ℕ) → k ≡ port_identifier j → In k (each (op_wires via m) 0 m.body) ⊎ In k (each (op_blocks via m) 0 m.body) → ⊥
        go k j e (inl h) = let b = wire_kind k h in port_value j b.0 b.1 (sym e ∙ b.2)
        go k j e (inr h) = let b = block_kind k h in port_instance j b.0 (sym e ∙ b.1)

  pub declared_within : (k : Identifier) → In k (declared_identifiers via m) → In k (module_identifiers m)
  declared_within k here = go (in_append k (port_identifiers_from 0 m.ports) (each (op_wires via m) 0 m.body ++ each (op_blocks via m) 0 m.body) here) where
    of_wire : (i : ℕ) (o : Op) → slice_get m.body i ≡ Some o → (r : Emission) → emission_of m.ports m.body i o ≡ r → In k (wire_identifiers r i o) → In k (module_identifiers m)
    of_wire i o there inline emission h = absurd h
    of_wire i o there as_wire emission (inl e) = subst (λ z. In z (module_identifiers m)) (sym e) (net_in m i o there emission)
    of_wire i o there as_wire emission (inr never) = absurd never
    of_wire i o there as_reg emission (inl e) = subst (λ z. In z (module_identifiers m)) (sym e) (variable_in m i o there emission)
    of_wire i o there as_reg emission (inr never) = absurd never
    of_wire i o there as_instance emission h = let e = in_results i 0 o.results k h in
        subst (λ z. In z (module_identifiers m)) (sym (e.3 ∙ ap (value_identifier i) (zero-add e.0))) (result_in_identifiers m i e.0 o e.1 there emission e.2)

    of_block : (i : ℕ) (o : Op) → slice_get m.body i ≡ Some o → (r : Emission) → emission_of m.ports m.body i o ≡ r → In k (block_identifiers r i o) → In k (module_identifiers m)
    of_block i o there inline emission h = absurd h
    of_block i o there as_wire emission h = absurd h
    of_block i o there as_reg emission h = absurd h
    of_block i o there as_instance emission (inl e) = subst (λ z. In z (module_identifiers m)) (sym e) (instance_in_identifiers m i o there emission)
    of_block i o there as_instance emission (inr never) = absurd never

    following : In k (each (op_wires via m) 0 m.body) ⊎ In k (each (op_blocks via m) 0 m.body) → In k (module_identifiers m)
    following (inl h) = let e = from_each (op_wires via m) m.body k h in of_wire e.0 e.1 e.2 (emission_of m.ports m.body e.0 e.1) refl e.3
    following (inr h) = let e = from_each (op_blocks via m) m.body k h in of_block e.0 e.1 e.2 (emission_of m.ports m.body e.0 e.1) refl e.3

    go : In k (port_identifiers_from 0 m.ports) ⊎ In k (each (op_wires via m) 0 m.body ++ each (op_blocks via m) 0 m.body) → In k (module_identifiers m)
    go (inl h) = port_identifiers_within m k h
    go (inr h) = following (in_append k (each (op_wires via m) 0 m.body) (each (op_blocks via m) 0 m.body) h)

  identifiers_of : (are : AreNames m) (ks : List Identifier) → ((k : Identifier) → In k ks → In k (module_identifiers m)) → all_identifiers (map (identifier_text m) ks) ≡ true
  identifiers_of are [] within = refl
  identifiers_of are (k ∷ ks) within =
      and_intro (is_identifier (identifier_text m k)) (all_identifiers (map (identifier_text m) ks)) (name_is_identifier m are k (identifier_text m k) (text_named m are k (within k (inl refl))))
      (identifiers_of are ks (λ l h. within l (inr h)))

  pub names_are_checked : (d : Design) (are : AreNames m) → names_check (map (λ (y : Declared). y.name) (declared_in (vmodule via d m))) ≡ true
  names_are_checked d are =
      ap names_check (declared_names via m d)
      ∙ and_intro (are_distinct (map (identifier_text m) (declared_identifiers via m))) (all_identifiers (map (identifier_text m) (declared_identifiers via m)))
      (texts_distinct m are (declared_identifiers via m) declared_within declared_apart) (identifiers_of are (declared_identifiers via m) declared_within)
