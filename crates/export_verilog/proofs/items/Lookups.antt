-- What is found under the name of each of a module's things: ports, widths, instances and connections.
use Rattle.std.proofs.Common.{◌≡◌, ℕ, ◌<◌, ◌≤◌, ◌^◌, ◌⊎◌, Bool, true, false, List, [], ◌∷◌, take, slice_get, Option, Some, None, refl, sym, ◌∙◌, ap, ap₂, subst, inl, inr, zero-add, option_and_then, option_map}
use Rattle.wiring.specs.Wiring.{In}
use Rattle.wiring.proofs.Options.{option_map_some}
use Rattle.hw_model.specs.Types.{Name, width}
use Rattle.hw_model.specs.Kinds.{Instance}
use Rattle.hw_model.specs.Design.{Port, OpResult, Op, Module, Design, same_name, find_module, instance_in, result_type}
use Rattle.hw_model.specs.Design.Ref.{result}
use Rattle.hw_model.specs.Equality.{name_self, name_from}
use Rattle.hw_model.specs.Flat.{width_of}
use Rattle.hw_model.specs.Sound.{type_in}
use Rattle.verilog_model.specs.Tree.{Numeral, VPort, Connection, Item}
use Rattle.verilog_model.specs.Tree.Item.{wire, reg, instance}
use Rattle.verilog_model.specs.Hierarchy.{first_some, or_else, when, find_port, find_connection, VInstance, instance_named, find_instance, item_range, range_in, range_width, width_of_range, width_in}
use Rattle.verilog_model.specs.Digits.{high_of}
use Rattle.lowering_options.specs.declared.lowering.Lowering.{Lowering}
use Rattle.export_verilog.specs.Identifiers.{Identifier, emission_of, identifier_text, module_identifiers}
use Rattle.export_verilog.specs.Identifiers.Identifier.{port_identifier, value_identifier, instance_identifier}
use Rattle.export_verilog.specs.Identifiers.Emission.{as_wire, as_reg}
use Rattle.export_verilog.specs.Exported.{symbol_name, connections_of, connections_to, vport, vports, vitems, vmodule}
use Rattle.export_verilog.specs.Exportable.{IsExportableModule}
use Rattle.export_verilog.proofs.items.Lists.{first_found, none_found}
use Rattle.export_verilog.proofs.names.IdentifierNames.{AreNames, texts_apart}
use Rattle.export_verilog.proofs.names.IdentifiersOf.{from_each, into_each, instance_of_emission, Owner, owner_of, port_in, net_in, variable_in, instance_in_identifiers, result_in_identifiers}
use Rattle.export_verilog.proofs.names.IdentifiersOf.Owner.{a_port, a_net, a_variable, an_instance as owns_instance, a_result}
use Rattle.export_verilog.proofs.names.Symbols.{when_some}
use Rattle.export_verilog.proofs.items.Items.{connection_of, from_connections, into_connections, From, from_items, into_items}
use Rattle.export_verilog.proofs.items.Items.From.{net_wire, variable_reg, result_wire, net_assign, variable_block, an_instance, output_assign}

-- ---- lookups by name

-- where what is found under a name is that of the thing with the name, and each thing's is there
module _ (m : Module) (are : AreNames m) {A C : Type 0} (f : Name → A → Option C) (xs : List A) (value : Identifier → Option C)
    (back : (n : Name) (y : A) (c : C) → In y xs → f n y ≡ Some c → (k : Identifier) × In k (module_identifiers m) × (n ≡ identifier_text m k) × (value k ≡ Some c))
    (forth : (k : Identifier) (c : C) → In k (module_identifiers m) → value k ≡ Some c → (y : A) × In y xs × (f (identifier_text m k) y ≡ Some c)) where
  pub found : (k : Identifier) → In k (module_identifiers m) → first_some (f (identifier_text m k)) xs ≡ value k
  found k here = go (value k) refl where
    same : (y : A) (c : C) → In y xs → f (identifier_text m k) y ≡ Some c → value k ≡ Some c
    same y c within gives = let h = back (identifier_text m k) y c within gives in
        ap value (texts_apart m are k h.0 here h.1 h.2) ∙ h.3

    no_value : value k ≡ None → (y : A) → In y xs → (o : Option C) → f (identifier_text m k) y ≡ o → o ≡ None
    no_value none y within None gives = refl
    no_value none y within (Some c) gives = let h : Some c ≡ None = sym (same y c within gives) ∙ none in h

    go : (o : Option C) → value k ≡ o → first_some (f (identifier_text m k)) xs ≡ o
    go (Some c) is = let w = forth k c here is in
        first_found (f (identifier_text m k)) c xs w.0 w.1 w.2 (λ y b within gives. let h : Some b ≡ Some c = sym (same y b within gives) ∙ is in let e : b ≡ c = cc in e)
    go None is = none_found (f (identifier_text m k)) xs (λ y within. no_value is y within (f (identifier_text m k) y) refl)

  pub unfound : (n : Name) → ((k : Identifier) → In k (module_identifiers m) → n ≡ identifier_text m k → ⊥) → first_some (f n) xs ≡ None
  unfound n never = none_found (f n) xs (λ y within. go y within (f n y) refl) where
    go : (y : A) → In y xs → (o : Option C) → f n y ≡ o → o ≡ None
    go y within None gives = refl
    go y within (Some c) gives = let h = back n y c within gives in absurd (never h.0 h.1 h.2)

-- ---- ports

abbrev pub vport_at : Module → ℕ → Port → VPort
vport_at m j p = record { is_output = p.is_output; high = high_of (width p.type); name = identifier_text m (port_identifier j) }

abbrev pub port_value : Module → Identifier → Option VPort
port_value m (port_identifier j) = option_map (vport_at m j) (slice_get m.ports j)
port_value m _ = None

module _ (m : Module) where
  ports_back : (n : Name) (y c : VPort) → In y (vports m) → when (same_name y.name n) y ≡ Some c → (k : Identifier) × In k (module_identifiers m) × (n ≡ identifier_text m k) × (port_value m k ≡ Some c)
  ports_back n y c here gives = let h = when_some (same_name y.name n) y c gives in let e = from_each (vport m) m.ports y here in go e.0 e.1 e.2 e.3 (name_from y.name n h.0) h.1 where
    go : (j : ℕ) (p : Port) → slice_get m.ports j ≡ Some p → In y (vport m j p) → y.name ≡ n → y ≡ c → (k : Identifier) × In k (module_identifiers m) × (n ≡ identifier_text m k) × (port_value m k ≡ Some c)
    go j p there (inl same) called is = (
      port_identifier j,
      port_in m j p there,
      sym called ∙ ap (λ (z : VPort). z.name) same,
      ap (option_map (vport_at m j)) there ∙ ap (λ (z : VPort). Some z) (sym same ∙ is),
    )
    go j p there (inr never) called is = absurd never

  ports_forth : (k : Identifier) (c : VPort) → In k (module_identifiers m) → port_value m k ≡ Some c → (y : VPort) × In y (vports m) × (when (same_name y.name (identifier_text m k)) y ≡ Some c)
  ports_forth (port_identifier j) c here is = let h = option_map_some (vport_at m j) (slice_get m.ports j) is in (
    vport_at m j h.0,
    into_each (vport m) m.ports (vport_at m j h.0) j h.0 h.1 (inl refl),
    ap (λ b. when b (vport_at m j h.0)) (name_self (identifier_text m (port_identifier j))) ∙ ap (λ (z : VPort). Some z) h.2,
  )
  ports_forth (value_identifier i k) c here is = cc
  ports_forth (instance_identifier i) c here is = cc

  module _ (are : AreNames m) where
    pub port_under : (k : Identifier) → In k (module_identifiers m) → find_port (vports m) (identifier_text m k) ≡ port_value m k
    port_under k here = found m are (λ n (p : VPort). when (same_name p.name n) p) (vports m) (port_value m) ports_back ports_forth k here

    pub no_port_under : (n : Name) → ((k : Identifier) → In k (module_identifiers m) → n ≡ identifier_text m k → ⊥) → find_port (vports m) n ≡ None
    no_port_under n never = unfound m are (λ n (p : VPort). when (same_name p.name n) p) (vports m) (port_value m) ports_back ports_forth n never

-- the range of a port's name is that of the port
pub port_range : (ps : List VPort) (n : Name) → first_some (λ (p : VPort). when (same_name p.name n) p.high) ps ≡ option_map (λ (p : VPort). p.high) (find_port ps n)
port_range [] n = refl
port_range (p ∷ ps) n = go (same_name p.name n) (port_range ps n) where
  go : (b : Bool) → first_some (λ (p : VPort). when (same_name p.name n) p.high) ps ≡ option_map (λ (p : VPort). p.high) (find_port ps n)
      → or_else (when b p.high) (first_some (λ (p : VPort). when (same_name p.name n) p.high) ps) ≡ option_map (λ (p : VPort). p.high) (or_else (when b p) (find_port ps n))
  go true rest = refl
  go false rest = rest

-- ---- ranges of items

abbrev pub item_high : Module → Identifier → Option (Option Numeral)
item_high m (value_identifier i k) = option_map (λ o. high_of (width_of (result_type o k))) (slice_get m.body i)
item_high m _ = None

result_found : (o : Op) (k : ℕ) (r : OpResult) → slice_get o.results k ≡ Some r → result_type o k ≡ Some r.type
result_found o k r is = ap (option_map (λ (z : OpResult). z.type)) is

module _ (via : Lowering) (d : Design) (m : Module) where
  items_back : (n : Name) (y : Item) (c : Option Numeral) → In y (vitems via d m) → item_range n y ≡ Some c
      → (k : Identifier) × In k (module_identifiers m) × (n ≡ identifier_text m k) × (item_high m k ≡ Some c)
  items_back n y c here gives = go (from_items via d m y here) where
    named : (k : Identifier) (h : Option Numeral) → In k (module_identifiers m) → item_high m k ≡ Some h → when (same_name (identifier_text m k) n) h ≡ Some c
        → (k : Identifier) × In k (module_identifiers m) × (n ≡ identifier_text m k) × (item_high m k ≡ Some c)
    named k h within is gives = let w = when_some (same_name (identifier_text m k) n) h c gives in
        (k, within, sym (name_from (identifier_text m k) n w.0), is ∙ ap (λ (z : Option Numeral). Some z) w.1)

    go : From via d m y → (k : Identifier) × In k (module_identifiers m) × (n ≡ identifier_text m k) × (item_high m k ≡ Some c)
    go (net_wire i o there emission same) = named (value_identifier i 0) (high_of (width_of (result_type o 0))) (net_in m i o there emission)
        (ap (option_map (λ o. high_of (width_of (result_type o 0)))) there) (sym (ap (item_range n) same) ∙ gives)
    go (variable_reg i o there emission same) = named (value_identifier i 0) (high_of (width_of (result_type o 0))) (variable_in m i o there emission)
        (ap (option_map (λ o. high_of (width_of (result_type o 0)))) there) (sym (ap (item_range n) same) ∙ gives)
    go (result_wire i k o r there emission at same) = named (value_identifier i k) (high_of (width r.type)) (result_in_identifiers m i k o r there emission at)
        (ap (option_map (λ o. high_of (width_of (result_type o k)))) there ∙ ap (λ t. Some (high_of (width_of t))) (result_found o k r at)) (sym (ap (item_range n) same) ∙ gives)
    go (net_assign i o there emission same) = absurd (let h : None ≡ Some c = sym (ap (item_range n) same) ∙ gives in cc)
    go (variable_block i o r there emission is same) = absurd (let h : None ≡ Some c = sym (ap (item_range n) same) ∙ gives in cc)
    go (an_instance i o x there emission is same) = absurd (let h : None ≡ Some c = sym (ap (item_range n) same) ∙ gives in cc)
    go (output_assign j p there out same) = absurd (let h : None ≡ Some c = sym (ap (item_range n) same) ∙ gives in cc)

  items_forth : (k : Identifier) (c : Option Numeral) → In k (module_identifiers m) → item_high m k ≡ Some c → (y : Item) × In y (vitems via d m) × (item_range (identifier_text m k) y ≡ Some c)
  items_forth k c here is = go (owner_of m k here) where
    chosen : (h : Option Numeral) (l : Identifier) → k ≡ l → item_high m l ≡ Some h → when (same_name (identifier_text m l) (identifier_text m k)) h ≡ Some c
    chosen h l same high = ap (λ z. when (same_name (identifier_text m z) (identifier_text m k)) h) (sym same) ∙ ap (λ b. when b h) (name_self (identifier_text m k))
        ∙ sym high ∙ ap (item_high m) (sym same) ∙ is

    go : Owner m k → (y : Item) × In y (vitems via d m) × (item_range (identifier_text m k) y ≡ Some c)
    go (a_port j p there same) = absurd (let h : None ≡ Some c = sym (ap (item_high m) same) ∙ is in cc)
    go (owns_instance i o there emission same) = absurd (let h : None ≡ Some c = sym (ap (item_high m) same) ∙ is in cc)
    go (a_net i o there emission same) = (
      wire (high_of (width_of (result_type o 0))) (identifier_text m (value_identifier i 0)),
      into_items via d m (wire (high_of (width_of (result_type o 0))) (identifier_text m (value_identifier i 0))) (net_wire i o there emission refl),
      chosen (high_of (width_of (result_type o 0))) (value_identifier i 0) same (ap (option_map (λ o. high_of (width_of (result_type o 0)))) there),
    )
    go (a_variable i o there emission same) = (
      reg (high_of (width_of (result_type o 0))) (identifier_text m (value_identifier i 0)),
      into_items via d m (reg (high_of (width_of (result_type o 0))) (identifier_text m (value_identifier i 0))) (variable_reg i o there emission refl),
      chosen (high_of (width_of (result_type o 0))) (value_identifier i 0) same (ap (option_map (λ o. high_of (width_of (result_type o 0)))) there),
    )
    go (a_result i l o r there emission at same) = (
      wire (high_of (width r.type)) (identifier_text m (value_identifier i l)),
      into_items via d m (wire (high_of (width r.type)) (identifier_text m (value_identifier i l))) (result_wire i l o r there emission at refl),
      chosen (high_of (width r.type)) (value_identifier i l) same (ap (option_map (λ o. high_of (width_of (result_type o l)))) there ∙ ap (λ t. Some (high_of (width_of t))) (result_found o l r at)),
    )

  module _ (are : AreNames m) where
    pub item_range_under : (k : Identifier) → In k (module_identifiers m) → first_some (item_range (identifier_text m k)) (vitems via d m) ≡ item_high m k
    item_range_under k here = found m are item_range (vitems via d m) (item_high m) items_back items_forth k here

-- ---- widths

abbrev pub identifier_width : Module → Identifier → ℕ
identifier_width m (port_identifier j) = width_of (option_map (λ (p : Port). p.type) (slice_get m.ports j))
identifier_width m (value_identifier i k) = width_of (type_in m.ports m.body (result i k))
identifier_width m (instance_identifier i) = 0

-- the range of a width has that width
abbrev pub SayWidths : Type 0
SayWidths = (w : ℕ) → 1 ≤ w → w < 2 ^ 64 → range_width (high_of w) ≡ w

module _ (via : Lowering) (say : SayWidths) (d : Design) (m : Module) (ok : IsExportableModule m) (are : AreNames m) where
  range_parts : (k : Identifier) → In k (module_identifiers m) → range_in (vmodule via d m) (identifier_text m k) ≡ or_else (option_map (λ (p : VPort). p.high) (port_value m k)) (item_high m k)
  range_parts k here = ap₂ or_else (port_range (vports m) (identifier_text m k) ∙ ap (option_map (λ (p : VPort). p.high)) (port_under m are k here)) (item_range_under via d m are k here)

  result_width : (i k : ℕ) (o : Op) (r : OpResult) → slice_get m.body i ≡ Some o → slice_get o.results k ≡ Some r → range_width (high_of (width r.type)) ≡ width r.type
  result_width i k o r there at = say (width r.type) ((ok.ops i o there).bits k r at) (subst (λ w. w < 2 ^ 64) same (ok.narrow (result i k))) where
    same : width_of (type_in m.ports m.body (result i k)) ≡ width r.type
    same = ap (λ x. width_of (option_and_then (λ (o : Op). result_type o k) x)) there ∙ ap width_of (result_found o k r at)

  pub port_width : (j : ℕ) (p : Port) → slice_get m.ports j ≡ Some p → range_width (high_of (width p.type)) ≡ width p.type
  port_width j p there = say (width p.type) (ok.bits j p there) (ok.narrow_ports j p there)

  -- a result of an operation that has one
  value_width_is : (i k : ℕ) (o : Op) (r : OpResult) → slice_get m.body i ≡ Some o → slice_get o.results k ≡ Some r → (identifier : Identifier) → identifier ≡ value_identifier i k → In identifier (module_identifiers m)
      → width_in (vmodule via d m) (identifier_text m identifier) ≡ identifier_width m identifier
  value_width_is i k o r there at identifier same here =
      ap width_of_range (range_parts identifier here ∙ ap (λ z. or_else (option_map (λ (p : VPort). p.high) (port_value m z)) (item_high m z)) same
      ∙ ap (option_map (λ o. high_of (width_of (result_type o k)))) there ∙ ap (λ t. Some (high_of (width_of t))) (result_found o k r at))
      ∙ result_width i k o r there at
      ∙ sym (ap (identifier_width m) same ∙ ap (λ x. width_of (option_and_then (λ (o : Op). result_type o k) x)) there ∙ ap width_of (result_found o k r at))

  pub width_under : ((i : ℕ) (o : Op) → slice_get m.body i ≡ Some o → (emission_of m.ports m.body i o ≡ as_wire) ⊎ (emission_of m.ports m.body i o ≡ as_reg) → (r : OpResult) × (slice_get o.results 0 ≡ Some r))
      → (k : Identifier) → In k (module_identifiers m) → width_in (vmodule via d m) (identifier_text m k) ≡ identifier_width m k
  width_under first k here = go (owner_of m k here) where
    go : Owner m k → width_in (vmodule via d m) (identifier_text m k) ≡ identifier_width m k
    go (a_port j p there same) = ap width_of_range (range_parts k here ∙ ap (λ z. or_else (option_map (λ (p : VPort). p.high) (port_value m z)) (item_high m z)) same
        ∙ ap (λ x. or_else (option_map (λ (p : VPort). p.high) (option_map (vport_at m j) x)) None) there) ∙ port_width j p there
        ∙ sym (ap (identifier_width m) same ∙ ap (λ x. width_of (option_map (λ (p : Port). p.type) x)) there)
    go (a_net i o there emission same) = let h = first i o there (inl emission) in value_width_is i 0 o h.0 there h.1 k same here
    go (a_variable i o there emission same) = let h = first i o there (inr emission) in value_width_is i 0 o h.0 there h.1 k same here
    go (a_result i l o r there emission at same) = value_width_is i l o r there at k same here
    go (owns_instance i o there emission same) = ap width_of_range (range_parts k here ∙ ap (λ z. or_else (option_map (λ (p : VPort). p.high) (port_value m z)) (item_high m z)) same)
        ∙ sym (ap (identifier_width m) same)

-- ---- instances

abbrev pub instance_of_kind : (via : Lowering) → Design → Module → ℕ → Op → Instance → VInstance
instance_of_kind via d m i o x = record { module_name = symbol_name d x.symbol; connections = connections_to via (find_module d x.symbol) m i o }

abbrev pub instance_value : (via : Lowering) → Design → Module → Identifier → Option VInstance
instance_value via d m (instance_identifier i) = option_and_then (λ (o : Op). option_map (instance_of_kind via d m i o) (instance_in o.kind)) (slice_get m.body i)
instance_value via d m _ = None

module _ (via : Lowering) (d : Design) (m : Module) where
  pub instances_back : (n : Name) (y : Item) (c : VInstance) → In y (vitems via d m) → instance_named n y ≡ Some c
      → (k : Identifier) × In k (module_identifiers m) × (n ≡ identifier_text m k) × (instance_value via d m k ≡ Some c)
  instances_back n y c here gives = go (from_items via d m y here) where
    go : From via d m y → (k : Identifier) × In k (module_identifiers m) × (n ≡ identifier_text m k) × (instance_value via d m k ≡ Some c)
    go (an_instance i o x there emission is same) =
        let w = when_some (same_name (identifier_text m (instance_identifier i)) n) (instance_of_kind via d m i o x) c (sym (ap (instance_named n) same) ∙ gives) in (
          instance_identifier i,
          instance_in_identifiers m i o there emission,
          sym (name_from (identifier_text m (instance_identifier i)) n w.0),
          ap (λ z. option_and_then (λ (o : Op). option_map (instance_of_kind via d m i o) (instance_in o.kind)) z) there ∙ ap (option_map (instance_of_kind via d m i o)) is ∙ ap (λ (z : VInstance). Some z) w.1,
        )
    go (net_wire i o there emission same) = absurd (let h : None ≡ Some c = sym (ap (instance_named n) same) ∙ gives in cc)
    go (variable_reg i o there emission same) = absurd (let h : None ≡ Some c = sym (ap (instance_named n) same) ∙ gives in cc)
    go (result_wire i k o r there emission at same) = absurd (let h : None ≡ Some c = sym (ap (instance_named n) same) ∙ gives in cc)
    go (net_assign i o there emission same) = absurd (let h : None ≡ Some c = sym (ap (instance_named n) same) ∙ gives in cc)
    go (variable_block i o r there emission is same) = absurd (let h : None ≡ Some c = sym (ap (instance_named n) same) ∙ gives in cc)
    go (output_assign j p there out same) = absurd (let h : None ≡ Some c = sym (ap (instance_named n) same) ∙ gives in cc)

  instances_forth : (k : Identifier) (c : VInstance) → In k (module_identifiers m) → instance_value via d m k ≡ Some c → (y : Item) × In y (vitems via d m) × (instance_named (identifier_text m k) y ≡ Some c)
  instances_forth k c here is = go (owner_of m k here) where
    go : Owner m k → (y : Item) × In y (vitems via d m) × (instance_named (identifier_text m k) y ≡ Some c)
    go (owns_instance i o there emission same) =
        let kind = instance_of_emission m.ports m.body i o emission in
        let y : Item = instance (symbol_name d kind.0.symbol) (identifier_text m (instance_identifier i)) (connections_to via (find_module d kind.0.symbol) m i o) in (
          y,
          into_items via d m y (an_instance i o kind.0 there emission kind.2 refl),
          ap (λ z. when (same_name (identifier_text m z) (identifier_text m k)) (instance_of_kind via d m i o kind.0)) (sym same) ∙ ap (λ b. when b (instance_of_kind via d m i o kind.0)) (name_self (identifier_text m k))
              ∙ sym (ap (λ z. option_and_then (λ (o : Op). option_map (instance_of_kind via d m i o) (instance_in o.kind)) z) there ∙ ap (option_map (instance_of_kind via d m i o)) kind.2)
              ∙ ap (instance_value via d m) (sym same) ∙ is,
        )
    go (a_port j p there same) = absurd (let h : None ≡ Some c = sym (ap (instance_value via d m) same) ∙ is in cc)
    go (a_net i o there emission same) = absurd (let h : None ≡ Some c = sym (ap (instance_value via d m) same) ∙ is in cc)
    go (a_variable i o there emission same) = absurd (let h : None ≡ Some c = sym (ap (instance_value via d m) same) ∙ is in cc)
    go (a_result i l o r there emission at same) = absurd (let h : None ≡ Some c = sym (ap (instance_value via d m) same) ∙ is in cc)

  module _ (are : AreNames m) where
    pub instance_under : (k : Identifier) → In k (module_identifiers m) → find_instance (vitems via d m) (identifier_text m k) ≡ instance_value via d m k
    instance_under k here = found m are instance_named (vitems via d m) (instance_value via d m) instances_back instances_forth k here

    pub no_instance_under : (n : Name) → ((k : Identifier) → In k (module_identifiers m) → n ≡ identifier_text m k → ⊥) → find_instance (vitems via d m) n ≡ None
    no_instance_under n never = unfound m are instance_named (vitems via d m) (instance_value via d m) instances_back instances_forth n never

-- ---- connections of an instance of c at position i of m

abbrev pub connection_value : (via : Lowering) → Module → Module → ℕ → Op → Identifier → Option Connection
connection_value via c m i o (port_identifier j) = option_map (λ p. connection_of via c m i j 0 (take j c.ports) p o.operands) (slice_get c.ports j)
connection_value via c m i o _ = None

module _ (via : Lowering) (c m : Module) (i : ℕ) (o : Op) where
  connections_back : (n : Name) (y b : Connection) → In y (connections_of via c m i 0 0 c.ports o.operands) → when (same_name y.port n) y ≡ Some b
      → (k : Identifier) × In k (module_identifiers c) × (n ≡ identifier_text c k) × (connection_value via c m i o k ≡ Some b)
  connections_back n y b here gives =
      let h = when_some (same_name y.port n) y b gives in
      let e = from_connections via c m i 0 0 c.ports o.operands y here in
      let same : y ≡ connection_of via c m i e.0 0 (take e.0 c.ports) e.1 o.operands = e.3 ∙ ap (λ a. connection_of via c m i a 0 (take e.0 c.ports) e.1 o.operands) (zero-add e.0) in (
        port_identifier e.0,
        port_in c e.0 e.1 e.2,
        sym (name_from y.port n h.0) ∙ ap (λ (z : Connection). z.port) same,
        ap (option_map (λ p. connection_of via c m i e.0 0 (take e.0 c.ports) p o.operands)) e.2 ∙ ap (λ (z : Connection). Some z) (sym same ∙ h.1),
      )

  connections_forth : (k : Identifier) (b : Connection) → In k (module_identifiers c) → connection_value via c m i o k ≡ Some b
      → (y : Connection) × In y (connections_of via c m i 0 0 c.ports o.operands) × (when (same_name y.port (identifier_text c k)) y ≡ Some b)
  connections_forth (port_identifier j) b here is =
      let h = option_map_some (λ p. connection_of via c m i j 0 (take j c.ports) p o.operands) (slice_get c.ports j) is in
      let y : Connection = connection_of via c m i j 0 (take j c.ports) h.0 o.operands in (
        y,
        subst (λ a. In (connection_of via c m i a 0 (take j c.ports) h.0 o.operands) (connections_of via c m i 0 0 c.ports o.operands)) (zero-add j)
            (into_connections via c m i 0 0 c.ports o.operands j h.0 h.1),
        ap (λ z. when z y) (name_self (identifier_text c (port_identifier j))) ∙ ap (λ (z : Connection). Some z) h.2,
      )
  connections_forth (value_identifier a k) b here is = cc
  connections_forth (instance_identifier a) b here is = cc

  module _ (are : AreNames c) where
    pub connection_under : (k : Identifier) → In k (module_identifiers c) → find_connection (connections_of via c m i 0 0 c.ports o.operands) (identifier_text c k) ≡ connection_value via c m i o k
    connection_under k here =
        found c are (λ n (y : Connection). when (same_name y.port n) y) (connections_of via c m i 0 0 c.ports o.operands) (connection_value via c m i o) connections_back connections_forth k here
