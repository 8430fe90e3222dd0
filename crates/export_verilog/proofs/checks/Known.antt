-- What a module's tree declares before its statements, and that the expressions of the statements meet the checks.
use Rattle.std.proofs.Common.{◌≡◌, ℕ, ◌⊎◌, not, ◌&&◌, List, [], ◌∷◌, ◌++◌, slice_get, Option, Some, None, refl, sym, ◌∙◌, ap, ap₂, subst, inl, inr, zero-add, IsTrue, option_and_then, option_map}
use Rattle.wiring.specs.Wiring.{In}
use Rattle.wiring.proofs.Members.{In-append_left, In-append_right, In-map, from_In-map}
use Rattle.hw_model.specs.Types.{Name, width}
use Rattle.hw_model.specs.Design.{Port, OpResult, Op, Module, Design, same_name, find_module, result_type}
use Rattle.hw_model.specs.Equality.{name_self, name_from}
use Rattle.hw_model.specs.Flat.{width_of}
use Rattle.verilog_model.specs.Tokens.{is_name_byte}
use Rattle.verilog_model.specs.Numerals.{all_bytes}
use Rattle.verilog_model.specs.Tree.{VPort, Item}
use Rattle.verilog_model.specs.Tree.Item.{wire, reg}
use Rattle.verilog_model.specs.Hierarchy.{or_else, when}
use Rattle.verilog_model.specs.Reserved.{reserved_words}
use Rattle.verilog_model.specs.Checks.{contains_name, starts_name, is_identifier, Role as DeclaredRole, Declared, find_declared, within, declared_by, port_role, declared_ports, declared_items}
use Rattle.verilog_model.specs.Checks.Role.{variable as variable_role, net as net_role}
use Rattle.verilog_model.proofs.Numerals.{and_first, and_second}
use Rattle.verilog_model.proofs.Reread.{all_name_bytes}
use Rattle.verilog_model.specs.Digits.{high_of}
use Rattle.verilog_expr.proofs.TextRead.{IsWord}
use Rattle.export_verilog.specs.Identifiers.{Identifier, Emission, each, emission_of, identifier_text, module_identifiers}
use Rattle.export_verilog.specs.Identifiers.Identifier.{port_identifier, value_identifier, instance_identifier}
use Rattle.export_verilog.specs.Identifiers.Emission.{inline, as_wire, as_reg, as_instance}
use Rattle.export_verilog.specs.Exported.{result_wires, declared_as, declares, vport, vports}
use Rattle.export_verilog.proofs.items.Lists.{in_append}
use Rattle.export_verilog.proofs.names.IdentifiersOf.{from_each, into_each, Owner, owner_of, port_in, net_in, variable_in, result_in_identifiers}
use Rattle.export_verilog.proofs.names.IdentifiersOf.Owner.{a_port, a_net, a_variable, an_instance as owns_instance, a_result}
use Rattle.export_verilog.proofs.names.Symbols.{when_some}
use Rattle.export_verilog.proofs.items.Items.{from_wires, into_wires}
use Rattle.export_verilog.proofs.items.Lookups.{found, vport_at}
use Rattle.export_verilog.proofs.items.Settings.{Setting, result_at_first}

-- ---- identifiers are words

pub identifier_word : (n : Name) → IsTrue (is_identifier n) → IsWord n
identifier_word [] is = cc
identifier_word (b ∷ bs) is = record {
  some = refl;
  bytes = all_name_bytes (b ∷ bs) (and_first (all_bytes is_name_byte (b ∷ bs)) (not (contains_name (b ∷ bs) reserved_words))
      (and_second (starts_name (b ∷ bs)) (all_bytes is_name_byte (b ∷ bs) && not (contains_name (b ∷ bs) reserved_words)) is));
}

-- ---- what is declared

-- the declarations of wires and variables
abbrev pub declarations : Module → List Item
declarations m = each (declares m) 0 m.body

-- what is known before the first statement
abbrev pub known_first : Module → List Declared
known_first m = declared_ports (vports m) ++ declared_items (declarations m)

abbrev pub declared_port : Module → ℕ → Port → Declared
declared_port m j p = record { name = identifier_text m (port_identifier j); role = port_role p.is_output; high = high_of (width p.type) }

abbrev pub result_emission : Emission → DeclaredRole
result_emission as_reg = variable_role
result_emission inline = net_role
result_emission as_wire = net_role
result_emission as_instance = net_role

abbrev pub declared_result : Module → ℕ → ℕ → Op → OpResult → Declared
declared_result m i k o r = record { name = identifier_text m (value_identifier i k); role = result_emission (emission_of m.ports m.body i o); high = high_of (width r.type) }

abbrev pub declared_value : Module → Identifier → Option Declared
declared_value m (port_identifier j) = option_map (declared_port m j) (slice_get m.ports j)
declared_value m (value_identifier i k) = option_and_then (λ (o : Op). option_map (declared_result m i k o) (slice_get o.results k)) (slice_get m.body i)
declared_value m (instance_identifier i) = None

pub in_declared_items : (y : Declared) (is : List Item) → In y (declared_items is) → (z : Item) × In z is × In y (declared_by z)
in_declared_items y [] here = absurd here
in_declared_items y (i ∷ is) here = go (in_append y (declared_by i) (declared_items is) here) (in_declared_items y is) where
  go : In y (declared_by i) ⊎ In y (declared_items is) → (In y (declared_items is) → (z : Item) × In z is × In y (declared_by z)) → (z : Item) × In z (i ∷ is) × In y (declared_by z)
  go (inl h) rest = (i, inl refl, h)
  go (inr h) rest = let e = rest h in (e.0, inr e.1, e.2)

declared_items_in : (y : Declared) (is : List Item) (z : Item) → In z is → In y (declared_by z) → In y (declared_items is)
declared_items_in y [] z here within = absurd here
declared_items_in y (i ∷ is) z (inl same) within = In-append_left y (declared_by i) (declared_items is) (subst (λ x. In y (declared_by x)) same within)
declared_items_in y (i ∷ is) z (inr here) within = In-append_right y (declared_by i) (declared_items is) (declared_items_in y is z here within)

module _ (d : Design) (x : Setting d) (s : Name) (m : Module) (is : find_module d s ≡ Some m) where
  -- ---- each thing is found as it is declared

  Backed : Name → Declared → Type 0
  Backed n c = (k : Identifier) × In k (module_identifiers m) × (n ≡ identifier_text m k) × (declared_value m k ≡ Some c)

  value_of_result : (i k : ℕ) (o : Op) (r : OpResult) → slice_get m.body i ≡ Some o → slice_get o.results k ≡ Some r → declared_value m (value_identifier i k) ≡ Some (declared_result m i k o r)
  value_of_result i k o r there found_so = ap (λ z. option_and_then (λ (q : Op). option_map (declared_result m i k q) (slice_get q.results k)) z) there ∙ ap (option_map (declared_result m i k o)) found_so

  high_first : (o : Op) (r : OpResult) → slice_get o.results 0 ≡ Some r → high_of (width_of (result_type o 0)) ≡ high_of (width r.type)
  high_first o r e = ap (λ z. high_of (width_of (option_map (λ (q : OpResult). q.type) z))) e

  items_back : (n : Name) (y c : Declared) → (z : Item) → In z (declarations m) → In y (declared_by z) → y.name ≡ n → y ≡ c → Backed n c
  unfolding Backed
  items_back n y c z here within called same = let e = from_each (declares m) m.body z here in
      go e.0 e.1 e.2 (emission_of m.ports m.body e.0 e.1) refl e.3 where
        own : (i k : ℕ) (o : Op) (r : OpResult) → slice_get m.body i ≡ Some o → slice_get o.results k ≡ Some r → In (value_identifier i k) (module_identifiers m) → y ≡ declared_result m i k o r → Backed n c
        own i k o r there found_so identifier as_it = (value_identifier i k, identifier, sym called ∙ ap (λ (q : Declared). q.name) as_it, value_of_result i k o r there found_so ∙ ap (λ (q : Declared). Some q) (sym as_it ∙ same))

        wired : (i k : ℕ) (o : Op) (r : OpResult) (emission : Emission) → slice_get m.body i ≡ Some o → slice_get o.results k ≡ Some r → In (value_identifier i k) (module_identifiers m) → emission_of m.ports m.body i o ≡ emission
            → z ≡ wire (high_of (width r.type)) (identifier_text m (value_identifier i k)) → result_emission emission ≡ net_role → In y (declared_by z) → Backed n c
        wired i k o r emission there found_so identifier is_emission as_it plain at = by_in (subst (λ q. In y (declared_by q)) as_it at) where
          by_in : In y (record { name = identifier_text m (value_identifier i k); role = net_role; high = high_of (width r.type) } ∷ []) → Backed n c
          by_in (inl e) = own i k o r there found_so identifier (e ∙ ap (λ q. record { name = identifier_text m (value_identifier i k); role = q; high = high_of (width r.type) }) (sym plain ∙ ap result_emission (sym is_emission)))
          by_in (inr never) = absurd never

        go : (i : ℕ) (o : Op) → slice_get m.body i ≡ Some o → (emission : Emission) → emission_of m.ports m.body i o ≡ emission → In z (declared_as m i o emission) → Backed n c
        go i o there inline emission h = absurd h
        go i o there as_wire emission (inl e) = let r = result_at_first d x s m is i o there (inl emission) in
            wired i 0 o r.0 as_wire there r.1 (net_in m i o there emission) emission (e ∙ ap (λ h. wire h (identifier_text m (value_identifier i 0))) (high_first o r.0 r.1)) refl within
        go i o there as_wire emission (inr never) = absurd never
        go i o there as_reg emission (inl e) = let r = result_at_first d x s m is i o there (inr emission) in by_in r.0 r.1 (subst (λ q. In y (declared_by q)) e within) where
          by_in : (r : OpResult) → slice_get o.results 0 ≡ Some r → In y (record { name = identifier_text m (value_identifier i 0); role = variable_role; high = high_of (width_of (result_type o 0)) } ∷ []) → Backed n c
          by_in r at (inl f) = own i 0 o r there at (variable_in m i o there emission)
              (f ∙ ap₂ (λ q h. record { name = identifier_text m (value_identifier i 0); role = q; high = h }) (ap result_emission (sym emission)) (high_first o r at))
          by_in r at (inr never) = absurd never
        go i o there as_reg emission (inr never) = absurd never
        go i o there as_instance emission h = let w = from_wires m i 0 o.results z h in
            wired i w.0 o w.1 as_instance there w.2 (result_in_identifiers m i w.0 o w.1 there emission w.2) emission (w.3 ∙ ap (λ a. wire (high_of (width w.1.type)) (identifier_text m (value_identifier i a))) (zero-add w.0)) refl within

  ports_back : (n : Name) (y c : Declared) → In y (declared_ports (vports m)) → y.name ≡ n → y ≡ c → Backed n c
  unfolding Backed
  ports_back n y c here called same = let f = from_In-map (λ (p : VPort). record { name = p.name; role = port_role p.is_output; high = p.high }) y (vports m) here in
      let e = from_each (vport m) m.ports f.0 f.1 in go e.0 e.1 e.2 e.3 f.2 where
        go : {v : VPort} (j : ℕ) (p : Port) → slice_get m.ports j ≡ Some p → In v (vport m j p) → y ≡ record { name = v.name; role = port_role v.is_output; high = v.high } → Backed n c
        go j p there (inl e) as_it =
            let own : y ≡ declared_port m j p = as_it ∙ ap (λ (v : VPort). record { name = v.name; role = port_role v.is_output; high = v.high }) e in
            (port_identifier j, port_in m j p there, sym called ∙ ap (λ (q : Declared). q.name) own, ap (option_map (declared_port m j)) there ∙ ap (λ (q : Declared). Some q) (sym own ∙ same))
        go j p there (inr never) as_it = absurd never

  known_back : (n : Name) (y c : Declared) → In y (known_first m) → when (same_name y.name n) y ≡ Some c → Backed n c
  known_back n y c here gives = let h = when_some (same_name y.name n) y c gives in
      go (in_append y (declared_ports (vports m)) (declared_items (declarations m)) here) (name_from y.name n h.0) h.1 where
        go : In y (declared_ports (vports m)) ⊎ In y (declared_items (declarations m)) → y.name ≡ n → y ≡ c → Backed n c
        go (inl h) called same = ports_back n y c h called same
        go (inr h) called same = let e = in_declared_items y (declarations m) h in items_back n y c e.0 e.1 e.2 called same

  Forth : Identifier → Declared → Type 0
  Forth k c = (y : Declared) × In y (known_first m) × (when (same_name y.name (identifier_text m k)) y ≡ Some c)

  -- a thing that is declared so is found so
  forth_as : (k : Identifier) (c y : Declared) → In y (known_first m) → y.name ≡ identifier_text m k → y ≡ c → Forth k c
  unfolding Forth
  forth_as k c y here called same = (y, here, ap (λ b. when b y) (ap (λ n. same_name n (identifier_text m k)) called ∙ name_self (identifier_text m k)) ∙ ap (λ (q : Declared). Some q) same)

  known_forth : (k : Identifier) (c : Declared) → In k (module_identifiers m) → declared_value m k ≡ Some c → Forth k c
  known_forth k c here value_is = go (owner_of m k here) where
    among_items : (y : Declared) (z : Item) → In z (declarations m) → In y (declared_by z) → In y (known_first m)
    among_items y z at within = In-append_right y (declared_ports (vports m)) (declared_items (declarations m)) (declared_items_in y (declarations m) z at within)

    same_value : (l : Identifier) (v : Declared) → k ≡ l → declared_value m l ≡ Some v → v ≡ c
    same_value l v e f = let g : Some v ≡ Some c = sym f ∙ ap (declared_value m) (sym e) ∙ value_is in let h : v ≡ c = cc in h

    own : (i n : ℕ) (o : Op) (r : OpResult) → slice_get m.body i ≡ Some o → slice_get o.results n ≡ Some r → k ≡ value_identifier i n → In (declared_result m i n o r) (known_first m) → Forth k c
    own i n o r there found_so e within =
        forth_as k c (declared_result m i n o r) within (ap (identifier_text m) (sym e)) (same_value (value_identifier i n) (declared_result m i n o r) e (value_of_result i n o r there found_so))

    emission_at : (i n : ℕ) (o : Op) (r : OpResult) (q : Emission) → emission_of m.ports m.body i o ≡ q
        → record { name = identifier_text m (value_identifier i n); role = result_emission q; high = high_of (width r.type) } ≡ declared_result m i n o r
    emission_at i n o r q e = ap (λ w. record { name = identifier_text m (value_identifier i n); role = result_emission w; high = high_of (width r.type) }) (sym e)

    go : Owner m k → Forth k c
    go (a_port j p there e) =
        forth_as k c (declared_port m j p)
        (In-append_left (declared_port m j p) (declared_ports (vports m)) (declared_items (declarations m))
        (In-map (λ (q : VPort). record { name = q.name; role = port_role q.is_output; high = q.high }) (vport_at m j p) (vports m) (into_each (vport m) m.ports (vport_at m j p) j p there (inl refl))))
        (ap (identifier_text m) (sym e)) (same_value (port_identifier j) (declared_port m j p) e (ap (option_map (declared_port m j)) there))
    go (a_net i o there emission e) = let r = result_at_first d x s m is i o there (inl emission) in
        own i 0 o r.0 there r.1 e (among_items (declared_result m i 0 o r.0) (wire (high_of (width_of (result_type o 0))) (identifier_text m (value_identifier i 0)))
        (into_each (declares m) m.body (wire (high_of (width_of (result_type o 0))) (identifier_text m (value_identifier i 0))) i o there
        (subst (λ q. In (wire (high_of (width_of (result_type o 0))) (identifier_text m (value_identifier i 0))) (declared_as m i o q)) (sym emission) (inl refl)))
        (inl (sym (emission_at i 0 o r.0 as_wire emission) ∙ ap (λ h. record { name = identifier_text m (value_identifier i 0); role = net_role; high = h }) (sym (high_first o r.0 r.1)))))
    go (a_variable i o there emission e) = let r = result_at_first d x s m is i o there (inr emission) in
        own i 0 o r.0 there r.1 e (among_items (declared_result m i 0 o r.0) (reg (high_of (width_of (result_type o 0))) (identifier_text m (value_identifier i 0)))
        (into_each (declares m) m.body (reg (high_of (width_of (result_type o 0))) (identifier_text m (value_identifier i 0))) i o there
        (subst (λ q. In (reg (high_of (width_of (result_type o 0))) (identifier_text m (value_identifier i 0))) (declared_as m i o q)) (sym emission) (inl refl)))
        (inl (sym (emission_at i 0 o r.0 as_reg emission) ∙ ap (λ h. record { name = identifier_text m (value_identifier i 0); role = variable_role; high = h }) (sym (high_first o r.0 r.1)))))
    go (owns_instance i o there emission e) = let g : None ≡ Some c = sym (ap (declared_value m) e) ∙ value_is in cc
    go (a_result i n o r there emission found_so e) =
        own i n o r there found_so e (among_items (declared_result m i n o r) (wire (high_of (width r.type)) (identifier_text m (value_identifier i n)))
        (into_each (declares m) m.body (wire (high_of (width r.type)) (identifier_text m (value_identifier i n))) i o there
        (subst (λ q. In (wire (high_of (width r.type)) (identifier_text m (value_identifier i n))) (declared_as m i o q)) (sym emission)
        (subst (λ a. In (wire (high_of (width r.type)) (identifier_text m (value_identifier i a))) (result_wires m i 0 o.results)) (zero-add n) (into_wires m i 0 o.results n r found_so))))
        (inl (sym (emission_at i n o r as_instance emission))))

  -- ---- what is known later, too

  unfoldable pub KnowsAll : List Declared → Type 0
  KnowsAll known = (k : Identifier) (c : Declared) → In k (module_identifiers m) → declared_value m k ≡ Some c → find_declared known (identifier_text m k) ≡ Some c

  pub knows_first : KnowsAll (known_first m)
  unfolding KnowsAll Forth Backed
  knows_first k c here value_is =
      found m (x.names s m is) (λ n (y : Declared). when (same_name y.name n) y) (known_first m) (declared_value m) known_back known_forth k here ∙ value_is

  found_more : (n : Name) (known more_known : List Declared) (c : Declared) → find_declared known n ≡ Some c → find_declared (known ++ more_known) n ≡ Some c
  found_more n [] more_known c e = cc
  found_more n (y ∷ known) more_known c e = go (when (same_name y.name n) y) e (found_more n known more_known c) where
    go : (o : Option Declared) → or_else o (find_declared known n) ≡ Some c → (find_declared known n ≡ Some c → find_declared (known ++ more_known) n ≡ Some c) → or_else o (find_declared (known ++ more_known) n) ≡ Some c
    go None h rest = rest h
    go (Some z) h rest = h

  pub knows_more : (known more_known : List Declared) → KnowsAll known → KnowsAll (known ++ more_known)
  unfolding KnowsAll
  knows_more known more_known knows k c here value_is = found_more (identifier_text m k) known more_known c (knows k c here value_is)
