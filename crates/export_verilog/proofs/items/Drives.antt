-- What drives each name of a module: the connections of instances, the assignments and the registers.
use Rattle.std.proofs.Common.{◌≡◌, ℕ, zero, suc, pred, ◌+◌, Bool, true, false, cond, List, [], ◌∷◌, map, take, slice_get, Option, Some, None, refl, sym, ◌∙◌, ap, ap₂, subst, inl, inr, zero-add, option_and_then, option_map}
use Rattle.wiring.specs.Wiring.{In}
use Rattle.wiring.proofs.Options.{option_map_some}
use Rattle.hw_model.specs.Types.{Name, HwType}
use Rattle.hw_model.specs.Design.{Port, OpResult, Op, Module, Design, same_name, find_module, output_refs, callee}
use Rattle.hw_model.specs.Design.Ref.{result}
use Rattle.hw_model.specs.Equality.{name_self, name_from}
use Rattle.hw_model.specs.Flat.{input_count, Register, ResetBy, async_reset_in, if_zero}
use Rattle.hw_model.specs.Sound.{output_types}
use Rattle.verilog_model.specs.Tree.{Expr, VPort, Connection, Item, VModule}
use Rattle.verilog_model.specs.Tree.Expr.{name}
use Rattle.verilog_model.specs.Tree.Item.{assign}
use Rattle.verilog_model.specs.Hierarchy.{first_some, or_else, when, find_port, VPath, vnet, Drive, block_target, loads, vbase, vstate_before, is_name, joined_output, vports_of, item_drive, inner_drive, drive_in, drive_or_nothing, width_in}
use Rattle.verilog_model.specs.Hierarchy.Drive.{nothing, held, expression as driven_by, net as driven_from}
use Rattle.lowering_options.specs.declared.lowering.Lowering.{Lowering}
use Rattle.export_verilog.specs.Lowerings.{load_place, own_place}
use Rattle.export_verilog.specs.Identifiers.{Identifier, Emission, emission_of, identifier_text, module_identifiers}
use Rattle.export_verilog.specs.Identifiers.Identifier.{port_identifier, value_identifier, instance_identifier}
use Rattle.export_verilog.specs.Identifiers.Emission.{inline, as_wire, as_reg, as_instance}
use Rattle.export_verilog.specs.Exported.{expression, assigned_expr, module_block, connections_of, connections_to, vports, vitems, vmodule, tree_of}
use Rattle.export_verilog.proofs.items.Lists.{first_found}
use Rattle.export_verilog.proofs.names.IdentifierNames.{AreNames, texts_apart}
use Rattle.export_verilog.proofs.names.IdentifiersOf.{Owner, owner_of, port_in, net_in, variable_in, result_in_identifiers}
use Rattle.export_verilog.proofs.names.IdentifiersOf.Owner.{a_port, a_net, a_variable, an_instance as owns_instance, a_result}
use Rattle.export_verilog.proofs.names.Symbols.{when_some, vmodule_found}
use Rattle.export_verilog.proofs.items.Items.{output_count, expr_for, connection_of, from_connections, into_connections, output_item, block_at, instance_at, From, from_items, into_items}
use Rattle.export_verilog.proofs.items.Items.From.{net_wire, variable_reg, result_wire, net_assign, variable_block, an_instance, output_assign}
use Rattle.export_verilog.proofs.items.Lookups.{found, unfound, vport_at, port_under, no_port_under}
use Rattle.export_verilog.proofs.items.Settings.{Setting, Called, called_by, called_by_emission, callee_is}
use Rattle.export_verilog.proofs.items.Registers.{module_block_target, register_of}

pub first_from : {A B : Type 0} (f : A → Option B) (xs : List A) (b : B) → first_some f xs ≡ Some b → (x : A) × In x xs × (f x ≡ Some b)
first_from f [] b is = cc
first_from {A} {B} f (x ∷ xs) b is = go (f x) refl is (first_from f xs b) where
  go : (o : Option B) → f x ≡ o → or_else o (first_some f xs) ≡ Some b → (first_some f xs ≡ Some b → (y : A) × In y xs × (f y ≡ Some b)) → (y : A) × In y (x ∷ xs) × (f y ≡ Some b)
  go None e found rest = let h = rest found in (h.0, inr h.1, h.2)
  go (Some c) e found rest = (x, inl refl, e ∙ found)

-- ---- outputs by number

-- the position of the k-th output
abbrev pub output_position : ℕ → List Port → Option ℕ
output_position k [] = None
output_position k (p ∷ ps) = cond p.is_output (if_zero k (Some 0) (option_map suc (output_position (pred k) ps))) (option_map suc (output_position k ps))

pub position_of_output : (ps : List Port) (j : ℕ) (p : Port) → slice_get ps j ≡ Some p → p.is_output ≡ true
    → (output_position (output_count (take j ps)) ps ≡ Some j) × (slice_get (output_types ps) (output_count (take j ps)) ≡ Some p.type)
position_of_output [] j p is out = cc
position_of_output (x ∷ ps) zero p is out = let e : x ≡ p = cc in let way : x.is_output ≡ true = ap (λ (z : Port). z.is_output) e ∙ out in (
  ap (λ b. cond b (Some 0) (option_map suc (output_position 0 ps))) way,
  ap (λ b. slice_get (cond b (x.type ∷ output_types ps) (output_types ps)) 0) way ∙ ap (λ (z : Port). Some z.type) e,
)
position_of_output (x ∷ ps) (suc j) p is out = go x.is_output refl (position_of_output ps j p is out) where
  go : (b : Bool) → x.is_output ≡ b → (output_position (output_count (take j ps)) ps ≡ Some j) × (slice_get (output_types ps) (output_count (take j ps)) ≡ Some p.type)
      → (cond b (if_zero (cond b (suc (output_count (take j ps))) (output_count (take j ps))) (Some 0) (option_map suc (output_position (pred (cond b (suc (output_count (take j ps))) (output_count (take j ps)))) ps)))
      (option_map suc (output_position (cond b (suc (output_count (take j ps))) (output_count (take j ps))) ps)) ≡ Some (suc j))
      × (slice_get (cond b (x.type ∷ output_types ps) (output_types ps)) (cond b (suc (output_count (take j ps))) (output_count (take j ps))) ≡ Some p.type)
  go true way rest = (ap (option_map suc) rest.0, rest.1)
  go false way rest = (ap (option_map suc) rest.0, rest.1)

pub record OutputAt (ps : List Port) (k : ℕ) (t : HwType) : Type 0 where
  pub position : ℕ
  pub port : Port
  pub there : slice_get ps position ≡ Some port
  pub out : port.is_output ≡ true
  pub number : output_count (take position ps) ≡ k
  pub type : port.type ≡ t

pub output_of_number : (ps : List Port) (k : ℕ) (t : HwType) → slice_get (output_types ps) k ≡ Some t → OutputAt ps k t
output_of_number [] k t is = cc
output_of_number (x ∷ ps) k t is = go x.is_output refl k is (λ n h. output_of_number ps n t h) where
  go : (b : Bool) → x.is_output ≡ b → (k : ℕ) → slice_get (cond b (x.type ∷ output_types ps) (output_types ps)) k ≡ Some t
      → ((n : ℕ) → slice_get (output_types ps) n ≡ Some t → OutputAt ps n t) → OutputAt (x ∷ ps) k t
  go true way zero found rest = record { position = 0; port = x; there = refl; out = way; number = refl; type = let e : x.type ≡ t = cc in e }
  go true way (suc k) found rest = let h = rest k found in
      record { position = suc h.position; port = h.port; there = h.there; out = h.out; number = ap (λ b. cond b (suc (output_count (take h.position ps))) (output_count (take h.position ps))) way ∙ ap suc h.number; type = h.type }
  go false way k found rest = let h = rest k found in
      record { position = suc h.position; port = h.port; there = h.there; out = h.out; number = ap (λ b. cond b (suc (output_count (take h.position ps))) (output_count (take h.position ps))) way ∙ h.number; type = h.type }

-- ---- what an instance's outputs drive

module _ (via : Lowering) (c m : Module) (are : AreNames c) (i : ℕ) (o : Op) (q : VPath) (u n : Name) where
  abbrev output_drive : ℕ → Drive
  output_drive j = driven_from (vnet (u ∷ q) (identifier_text c (port_identifier j)))

  joined_at : (j : ℕ) (p : Port) → slice_get c.ports j ≡ Some p → joined_output q u n (vports c) (connection_of via c m i j 0 (take j c.ports) p o.operands)
      ≡ cond p.is_output (when (is_name n (cond p.is_output (name (identifier_text m (value_identifier i (0 + output_count (take j c.ports)))))
      (expr_for (expression m (own_place via)) (slice_get o.operands (input_count (take j c.ports)))))) (output_drive j)) None
  joined_at j p there =
      ap (λ z. option_and_then (λ (y : VPort). cond y.is_output (when (is_name n (cond p.is_output (name (identifier_text m (value_identifier i (0 + output_count (take j c.ports)))))
      (expr_for (expression m (own_place via)) (slice_get o.operands (input_count (take j c.ports)))))) (driven_from (vnet (u ∷ q) y.name))) None) z)
      (port_under c are (port_identifier j) (port_in c j p there) ∙ ap (option_map (vport_at c j)) there)

  pub joined_gives : (y : Connection) (w : Drive) → In y (connections_of via c m i 0 0 c.ports o.operands) → joined_output q u n (vports c) y ≡ Some w
      → (j : ℕ) × (p : Port) × (slice_get c.ports j ≡ Some p) × (p.is_output ≡ true) × (n ≡ identifier_text m (value_identifier i (output_count (take j c.ports)))) × (output_drive j ≡ w)
  joined_gives y w here gives =
      let e = from_connections via c m i 0 0 c.ports o.operands y here in
      let same : y ≡ connection_of via c m i e.0 0 (take e.0 c.ports) e.1 o.operands = e.3 ∙ ap (λ a. connection_of via c m i a 0 (take e.0 c.ports) e.1 o.operands) (zero-add e.0) in
      go e.0 e.1 e.2 e.1.is_output refl (sym (joined_at e.0 e.1 e.2) ∙ sym (ap (joined_output q u n (vports c)) same) ∙ gives) where
        go : (j : ℕ) (p : Port) → slice_get c.ports j ≡ Some p → (b : Bool) → p.is_output ≡ b
            → cond b (when (is_name n (cond b (name (identifier_text m (value_identifier i (0 + output_count (take j c.ports)))))
            (expr_for (expression m (own_place via)) (slice_get o.operands (input_count (take j c.ports)))))) (output_drive j)) None ≡ Some w
            → (j : ℕ) × (p : Port) × (slice_get c.ports j ≡ Some p) × (p.is_output ≡ true) × (n ≡ identifier_text m (value_identifier i (output_count (take j c.ports)))) × (output_drive j ≡ w)
        go j p there true way is =
            let h = when_some (same_name (identifier_text m (value_identifier i (0 + output_count (take j c.ports)))) n) (output_drive j) w is in
            (j, p, there, way, sym (name_from (identifier_text m (value_identifier i (0 + output_count (take j c.ports)))) n h.0) ∙ ap (λ a. identifier_text m (value_identifier i a)) (zero-add (output_count (take j c.ports))), h.1)
        go j p there false way is = cc

  pub output_joined : (j : ℕ) (p : Port) → slice_get c.ports j ≡ Some p → p.is_output ≡ true → n ≡ identifier_text m (value_identifier i (output_count (take j c.ports)))
      → joined_output q u n (vports c) (connection_of via c m i j 0 (take j c.ports) p o.operands) ≡ Some (output_drive j)
  output_joined j p there out called =
      joined_at j p there
      ∙ ap (λ b. cond b (when (is_name n (cond b (name (identifier_text m (value_identifier i (0 + output_count (take j c.ports)))))
      (expr_for (expression m (own_place via)) (slice_get o.operands (input_count (take j c.ports)))))) (output_drive j)) None) out
      ∙ ap (λ b. when b (output_drive j)) (ap (λ z. same_name z n) (ap (λ a. identifier_text m (value_identifier i a)) (zero-add (output_count (take j c.ports))) ∙ sym called) ∙ name_self n)

-- ---- what an item of the module drives

module _ (via : Lowering) (d : Design) (x : Setting d) (s : Name) (m : Module) (is : find_module d s ≡ Some m) (top : Name) (q : VPath) where
  abbrev vm : VModule
  vm = vmodule via d m

  are : AreNames m
  are = x.names s m is

  abbrev pub held_drive : ℕ → Drive
  held_drive i = held (vbase (tree_of via d) top q + vstate_before (tree_of via d) (loads (identifier_text m (value_identifier i 0))) (Some (vmodule via d m))) (width_in (vmodule via d m) (identifier_text m (value_identifier i 0)))

  abbrev pub result_drive : ℕ → ℕ → Op → Option Drive
  result_drive i k o = option_and_then (λ (c : Module). option_map (λ j. driven_from (vnet (identifier_text m (instance_identifier i) ∷ q) (identifier_text c (port_identifier j)))) (output_position k c.ports)) (callee d o)

  abbrev pub emission_drive : ℕ → ℕ → Op → Emission → Option Drive
  emission_drive i k o inline = None
  emission_drive i k o as_wire = Some (driven_by q (assigned_expr via m (result i 0)))
  emission_drive i k o as_reg = Some (held_drive i)
  emission_drive i k o as_instance = result_drive i k o

  abbrev pub output_expr : ℕ → Expr
  output_expr j = expr_for (expression m (load_place via)) (slice_get (output_refs m.body) (output_count (take j m.ports)))

  abbrev pub drive_value : Identifier → Option Drive
  drive_value (port_identifier j) = option_and_then (λ (p : Port). cond p.is_output (Some (driven_by q (output_expr j))) None) (slice_get m.ports j)
  drive_value (value_identifier i k) = option_and_then (λ (o : Op). emission_drive i k o (emission_of m.ports m.body i o)) (slice_get m.body i)
  drive_value (instance_identifier i) = None

  -- the value of a thing that an operation has
  pub value_by_emission : (i k : ℕ) (o : Op) (r : Emission) → slice_get m.body i ≡ Some o → emission_of m.ports m.body i o ≡ r → drive_value (value_identifier i k) ≡ emission_drive i k o r
  value_by_emission i k o r there emission = ap (λ z. option_and_then (λ (o : Op). emission_drive i k o (emission_of m.ports m.body i o)) z) there ∙ ap (emission_drive i k o) emission

  abbrev gives : Name → Item → Option Drive
  gives n y = item_drive (tree_of via d) top q (vmodule via d m) n y

  pub block_name : (i : ℕ) (r : Register) (a : Option ResetBy) → block_target (module_block via m (identifier_text m (value_identifier i 0)) r a) ≡ identifier_text m (value_identifier i 0)
  block_name i r a = module_block_target via m (identifier_text m (value_identifier i 0)) r a

  -- an instance's items
  instance_drive : (n : Name) (i : ℕ) (o : Op) (c : Called d m o) → gives n (instance_at via d m i o c.kind)
      ≡ first_some (joined_output q (identifier_text m (instance_identifier i)) n (vports c.module_of)) (connections_of via c.module_of m i 0 0 c.module_of.ports o.operands)
  instance_drive n i o c = ap₂ (λ v f. first_some (joined_output q (identifier_text m (instance_identifier i)) n (vports_of v)) (connections_to via f m i o))
      (vmodule_found d x.ok x.symbols via c.kind.symbol c.module_of c.there) c.there

  pub value_of_result : (i : ℕ) (o : Op) (c : Called d m o) → slice_get m.body i ≡ Some o → emission_of m.ports m.body i o ≡ as_instance → (k j : ℕ) → output_position k c.module_of.ports ≡ Some j
      → drive_value (value_identifier i k) ≡ Some (driven_from (vnet (identifier_text m (instance_identifier i) ∷ q) (identifier_text c.module_of (port_identifier j))))
  value_of_result i o c there emission k j at =
      value_by_emission i k o as_instance there emission
      ∙ ap (λ z. option_and_then (λ (y : Module). option_map (λ a. driven_from (vnet (identifier_text m (instance_identifier i) ∷ q) (identifier_text y (port_identifier a)))) (output_position k y.ports)) z) (callee_is d m o c)
      ∙ ap (option_map (λ a. driven_from (vnet (identifier_text m (instance_identifier i) ∷ q) (identifier_text c.module_of (port_identifier a))))) at

  drives_back : (n : Name) (y : Item) (w : Drive) → In y (vitems via d m) → gives n y ≡ Some w → (k : Identifier) × In k (module_identifiers m) × (n ≡ identifier_text m k) × (drive_value k ≡ Some w)
  drives_back n y w here is_given = go (from_items via d m y here) where
    by_instance : (i : ℕ) (o : Op) (c : Called d m o) → slice_get m.body i ≡ Some o → emission_of m.ports m.body i o ≡ as_instance → gives n (instance_at via d m i o c.kind) ≡ Some w
        → (k : Identifier) × In k (module_identifiers m) × (n ≡ identifier_text m k) × (drive_value k ≡ Some w)
    by_instance i o c there emission given =
        let u : Name = identifier_text m (instance_identifier i) in
        let f = first_from (joined_output q u n (vports c.module_of)) (connections_of via c.module_of m i 0 0 c.module_of.ports o.operands) w (sym (instance_drive n i o c) ∙ given) in
        let j = joined_gives via c.module_of m (x.names c.kind.symbol c.module_of c.there) i o q u n f.0 w f.1 f.2 in
        let p = position_of_output c.module_of.ports j.0 j.1 j.2 j.3 in
        let typed : option_map (λ (r : OpResult). r.type) (slice_get o.results (output_count (take j.0 c.module_of.ports))) ≡ Some j.1.type =
        sym (slice_of_map o.results (output_count (take j.0 c.module_of.ports))) ∙ ap (λ ts. slice_get ts (output_count (take j.0 c.module_of.ports))) c.outputs ∙ p.1 in
        let r = option_map_some (λ (r : OpResult). r.type) (slice_get o.results (output_count (take j.0 c.module_of.ports))) typed in (
          value_identifier i (output_count (take j.0 c.module_of.ports)),
          result_in_identifiers m i (output_count (take j.0 c.module_of.ports)) o r.0 there emission r.1,
          j.4,
          value_of_result i o c there emission (output_count (take j.0 c.module_of.ports)) j.0 p.0 ∙ ap (λ (z : Drive). Some z) j.5,
        ) where
          slice_of_map : (rs : List OpResult) (k : ℕ) → slice_get (map (λ (r : OpResult). r.type) rs) k ≡ option_map (λ (r : OpResult). r.type) (slice_get rs k)
          slice_of_map [] k = refl
          slice_of_map (r ∷ rs) zero = refl
          slice_of_map (r ∷ rs) (suc k) = slice_of_map rs k

    go : From via d m y → (k : Identifier) × In k (module_identifiers m) × (n ≡ identifier_text m k) × (drive_value k ≡ Some w)
    go (net_assign i o there emission same) =
        let h = when_some (same_name (identifier_text m (value_identifier i 0)) n) (driven_by q (assigned_expr via m (result i 0))) w (sym (ap (gives n) same) ∙ is_given) in
        (value_identifier i 0, net_in m i o there emission, sym (name_from (identifier_text m (value_identifier i 0)) n h.0), value_by_emission i 0 o as_wire there emission ∙ ap (λ (z : Drive). Some z) h.1)
    go (variable_block i o r there emission at same) =
        let given : gives n (block_at via m i o r) ≡ Some w = sym (ap (gives n) same) ∙ is_given in
        let held_under : Name → Drive = λ z. held (vbase (tree_of via d) top q + vstate_before (tree_of via d) (loads z) (Some (vmodule via d m))) (width_in (vmodule via d m) z) in
        let h = when_some (same_name (identifier_text m (value_identifier i 0)) n) (held_under n) w (ap (λ z. when (same_name z n) (held_under n)) (sym (block_name i r (async_reset_in o))) ∙ given) in
        let called : identifier_text m (value_identifier i 0) ≡ n = name_from (identifier_text m (value_identifier i 0)) n h.0 in
        (value_identifier i 0, variable_in m i o there emission, sym called, value_by_emission i 0 o as_reg there emission ∙ ap (λ z. Some (held_under z)) called ∙ ap (λ (z : Drive). Some z) h.1)
    go (an_instance i o k there emission kind same) = by_instance i o (called_by d x s m is i o there k kind) there emission (sym (ap (gives n) same) ∙ is_given)
    go (output_assign j p there out same) =
        let h = when_some (same_name (identifier_text m (port_identifier j)) n) (driven_by q (output_expr j)) w (sym (ap (gives n) same) ∙ is_given) in (
          port_identifier j,
          port_in m j p there,
          sym (name_from (identifier_text m (port_identifier j)) n h.0),
          ap (λ z. option_and_then (λ (p : Port). cond p.is_output (Some (driven_by q (output_expr j))) None) z) there ∙ ap (λ b. cond b (Some (driven_by q (output_expr j))) None) out ∙ ap (λ (z : Drive). Some z) h.1,
        )
    go (net_wire i o there emission same) = absurd (let h : None ≡ Some w = sym (ap (gives n) same) ∙ is_given in cc)
    go (variable_reg i o there emission same) = absurd (let h : None ≡ Some w = sym (ap (gives n) same) ∙ is_given in cc)
    go (result_wire i k o r there emission at same) = absurd (let h : None ≡ Some w = sym (ap (gives n) same) ∙ is_given in cc)

  drives_forth : (k : Identifier) (w : Drive) → In k (module_identifiers m) → drive_value k ≡ Some w → (y : Item) × In y (vitems via d m) × (gives (identifier_text m k) y ≡ Some w)
  drives_forth k w here value = go (owner_of m k here) where
    chosen : (l : Identifier) (v : Drive) → k ≡ l → drive_value l ≡ Some v → when (same_name (identifier_text m l) (identifier_text m k)) v ≡ Some w
    chosen l v same given = ap (λ z. when (same_name (identifier_text m z) (identifier_text m k)) v) (sym same) ∙ ap (λ b. when b v) (name_self (identifier_text m k))
        ∙ sym given ∙ ap drive_value (sym same) ∙ value

    of_port : (j : ℕ) (p : Port) → slice_get m.ports j ≡ Some p → k ≡ port_identifier j → (b : Bool) → p.is_output ≡ b → (y : Item) × In y (vitems via d m) × (gives (identifier_text m k) y ≡ Some w)
    of_port j p there same true out = (
      output_item via m j (take j m.ports) (output_refs m.body),
      into_items via d m (output_item via m j (take j m.ports) (output_refs m.body)) (output_assign j p there out refl),
      chosen (port_identifier j) (driven_by q (output_expr j)) same
          (ap (λ z. option_and_then (λ (p : Port). cond p.is_output (Some (driven_by q (output_expr j))) None) z) there ∙ ap (λ b. cond b (Some (driven_by q (output_expr j))) None) out),
    )
    of_port j p there same false out = absurd (let h : None ≡ Some w =
        sym (ap drive_value same ∙ ap (λ z. option_and_then (λ (p : Port). cond p.is_output (Some (driven_by q (output_expr j))) None) z) there ∙ ap (λ b. cond b (Some (driven_by q (output_expr j))) None) out) ∙ value in cc)

    of_result : (i l : ℕ) (o : Op) (r : OpResult) → slice_get m.body i ≡ Some o → emission_of m.ports m.body i o ≡ as_instance → slice_get o.results l ≡ Some r → k ≡ value_identifier i l → (c : Called d m o)
        → (y : Item) × In y (vitems via d m) × (gives (identifier_text m k) y ≡ Some w)
    of_result i l o r there emission at same c = found_output (output_of_number c.module_of.ports l r.type typed) where
      slice_of_map : (rs : List OpResult) (k : ℕ) → slice_get (map (λ (r : OpResult). r.type) rs) k ≡ option_map (λ (r : OpResult). r.type) (slice_get rs k)
      slice_of_map [] k = refl
      slice_of_map (r ∷ rs) zero = refl
      slice_of_map (r ∷ rs) (suc k) = slice_of_map rs k

      typed : slice_get (output_types c.module_of.ports) l ≡ Some r.type
      typed = ap (λ ts. slice_get ts l) (sym c.outputs) ∙ slice_of_map o.results l ∙ ap (option_map (λ (r : OpResult). r.type)) at

      found_output : OutputAt c.module_of.ports l r.type → (y : Item) × In y (vitems via d m) × (gives (identifier_text m k) y ≡ Some w)
      found_output e = (
        instance_at via d m i o c.kind,
        into_items via d m (instance_at via d m i o c.kind) (an_instance i o c.kind there emission c.is_kind refl),
        instance_drive (identifier_text m k) i o c
            ∙ first_found (joined_output q (identifier_text m (instance_identifier i)) (identifier_text m k) (vports c.module_of)) (the_drive e.position) (connections_of via c.module_of m i 0 0 c.module_of.ports o.operands)
            (connection_of via c.module_of m i e.position 0 (take e.position c.module_of.ports) e.port o.operands)
            (subst (λ a. In (connection_of via c.module_of m i a 0 (take e.position c.module_of.ports) e.port o.operands) (connections_of via c.module_of m i 0 0 c.module_of.ports o.operands)) (zero-add e.position)
            (into_connections via c.module_of m i 0 0 c.module_of.ports o.operands e.position e.port e.there))
            (output_joined via c.module_of m (x.names c.kind.symbol c.module_of c.there) i o q (identifier_text m (instance_identifier i)) (identifier_text m k) e.position e.port e.there e.out
            (ap (identifier_text m) same ∙ ap (λ a. identifier_text m (value_identifier i a)) (sym e.number)))
            only
            ∙ sym (value_of_result i o c there emission l e.position at_position) ∙ ap drive_value (sym same) ∙ value,
      ) where
        the_drive : ℕ → Drive
        the_drive a = driven_from (vnet (identifier_text m (instance_identifier i) ∷ q) (identifier_text c.module_of (port_identifier a)))

        at_position : output_position l c.module_of.ports ≡ Some e.position
        at_position = ap (λ a. output_position a c.module_of.ports) (sym e.number) ∙ (position_of_output c.module_of.ports e.position e.port e.there e.out).0

        only : (y : Connection) (v : Drive) → In y (connections_of via c.module_of m i 0 0 c.module_of.ports o.operands)
            → joined_output q (identifier_text m (instance_identifier i)) (identifier_text m k) (vports c.module_of) y ≡ Some v → v ≡ the_drive e.position
        only y v within given =
            let j = joined_gives via c.module_of m (x.names c.kind.symbol c.module_of c.there) i o q (identifier_text m (instance_identifier i)) (identifier_text m k) y v within given in
            let p = position_of_output c.module_of.ports j.0 j.1 j.2 j.3 in
            let other : In (value_identifier i (output_count (take j.0 c.module_of.ports))) (module_identifiers m) = other_in j.0 j.1 p.1 in
            let identifiers : k ≡ value_identifier i (output_count (take j.0 c.module_of.ports)) = texts_apart m are k (value_identifier i (output_count (take j.0 c.module_of.ports))) here other j.4 in
            let both : value_identifier i l ≡ value_identifier i (output_count (take j.0 c.module_of.ports)) = sym same ∙ identifiers in
            let number : l ≡ output_count (take j.0 c.module_of.ports) = cc in
            let positions : Some e.position ≡ Some j.0 = sym at_position ∙ ap (λ a. output_position a c.module_of.ports) number ∙ p.0 in
            let position : e.position ≡ j.0 = cc in
            sym j.5 ∙ ap the_drive (sym position) where
              other_in : (j : ℕ) (p : Port) → slice_get (output_types c.module_of.ports) (output_count (take j c.module_of.ports)) ≡ Some p.type
                  → In (value_identifier i (output_count (take j c.module_of.ports))) (module_identifiers m)
              other_in j p at =
                  let n : ℕ = output_count (take j c.module_of.ports) in
                  let t : option_map (λ (r : OpResult). r.type) (slice_get o.results n) ≡ Some p.type = sym (slice_of_map o.results n) ∙ ap (λ ts. slice_get ts n) c.outputs ∙ at in
                  let r = option_map_some (λ (r : OpResult). r.type) (slice_get o.results n) t in
                  result_in_identifiers m i n o r.0 there emission r.1

    go : Owner m k → (y : Item) × In y (vitems via d m) × (gives (identifier_text m k) y ≡ Some w)
    go (a_port j p there same) = of_port j p there same p.is_output refl
    go (a_net i o there emission same) = (
      assign (identifier_text m (value_identifier i 0)) (assigned_expr via m (result i 0)),
      into_items via d m (assign (identifier_text m (value_identifier i 0)) (assigned_expr via m (result i 0))) (net_assign i o there emission refl),
      chosen (value_identifier i 0) (driven_by q (assigned_expr via m (result i 0))) same (value_by_emission i 0 o as_wire there emission),
    )
    go (a_variable i o there emission same) =
        let r = register_of d x s m is i o there emission in (
          block_at via m i o r.0,
          into_items via d m (block_at via m i o r.0) (variable_block i o r.0 there emission r.1 refl),
          ap₂ (λ a b. when (same_name a (identifier_text m k)) (held (vbase (tree_of via d) top q + vstate_before (tree_of via d) (loads (identifier_text m b)) (Some (vmodule via d m)))
              (width_in (vmodule via d m) (identifier_text m b)))) (block_name i r.0 (async_reset_in o)) same
              ∙ chosen (value_identifier i 0) (held_drive i) same (value_by_emission i 0 o as_reg there emission),
        )
    go (owns_instance i o there emission same) = absurd (let h : None ≡ Some w = sym (ap drive_value same) ∙ value in cc)
    go (a_result i l o r there emission at same) = of_result i l o r there emission at same (called_by_emission d x s m is i o there emission)

  pub drive_under : (k : Identifier) → In k (module_identifiers m) → inner_drive (tree_of via d) top q (vmodule via d m) (identifier_text m k) ≡ drive_or_nothing (drive_value k)
  drive_under k here = ap drive_or_nothing (found m are (item_drive (tree_of via d) top q (vmodule via d m)) (vitems via d m) drive_value drives_back drives_forth k here)

  pub no_drive_under : (n : Name) → ((k : Identifier) → In k (module_identifiers m) → n ≡ identifier_text m k → ⊥) → drive_in (tree_of via d) top q (vmodule via d m) n (find_port (vports m) n) ≡ nothing
  no_drive_under n never = ap (drive_in (tree_of via d) top q (vmodule via d m) n) (no_port_under m are n never)
      ∙ ap drive_or_nothing (unfound m are (item_drive (tree_of via d) top q (vmodule via d m)) (vitems via d m) drive_value drives_back drives_forth n never)
