-- The clocks and the asynchronous resets of an exported tree come from the inputs at the top.
use Rattle.std.proofs.Common.{◌≡◌, ℕ, zero, suc, ◌+◌, ◌⊎◌, Bool, true, false, not, cond, ◌&&◌, ◌||◌, List, [], ◌∷◌, take, length, slice_get, Option, Some, None, refl, sym, ◌∙◌, ap, subst, inl, inr, zero-add, option_map}
use Rattle.std.proofs.lemmas.Bool.{false≢true, or_cases}
use Rattle.wiring.specs.Wiring.{In}
use Rattle.wiring.proofs.Members.{In-slice_get}
use Rattle.hw_model.specs.Types.{Name, HwType}
use Rattle.hw_model.specs.Types.HwType.{clock}
use Rattle.hw_model.specs.Design.{Ref, Port, OpResult, Op, Module, Design, same_name, find_module}
use Rattle.hw_model.specs.Design.Ref.{port}
use Rattle.hw_model.specs.Equality.{name_from, both_of}
use Rattle.hw_model.specs.Flat.{input_count, operand_for, Register, ResetBy, register_in, async_reset_in}
use Rattle.hw_model.specs.Resets.{IsMarkedInput}
use Rattle.hw_model.specs.Sound.{type_in, input_type, input_types}
use Rattle.verilog_model.specs.Tree.{Expr, Connection, Item}
use Rattle.verilog_model.specs.Tree.Expr.{name}
use Rattle.verilog_model.specs.Tree.Item.{wire, reg, assign, always, instance}
use Rattle.verilog_model.specs.Hierarchy.{is_name}
use Rattle.verilog_model.specs.Checks.{inner_clock, resets_by, uses_clock, any_uses_clock, clock_in, is_clock, is_input_name, clocks_joined, clocks_check}
use Rattle.verilog_model.proofs.Numerals.{and_intro}
use Rattle.lowering_options.specs.declared.lowering.Lowering.{Lowering}
use Rattle.export_verilog.specs.Lowerings.{load_place, own_place}
use Rattle.export_verilog.specs.Identifiers.{emission_of, identifier_text, value_name, name_or_nothing}
use Rattle.export_verilog.specs.Identifiers.Identifier.{port_identifier, value_identifier}
use Rattle.export_verilog.specs.Identifiers.Emission.{as_reg}
use Rattle.export_verilog.specs.Exported.{symbol_name, expression, block_of, module_block, connections_of, connections_to, vports, vitems, tree_of}
use Rattle.export_verilog.proofs.names.IdentifierNames.{texts_apart}
use Rattle.export_verilog.proofs.names.IdentifiersOf.{port_in}
use Rattle.export_verilog.proofs.names.Symbols.{vmodule_found}
use Rattle.export_verilog.proofs.items.Items.{output_count, expr_for, connection_of, block_at, from_connections, From, from_items}
use Rattle.export_verilog.proofs.items.Items.From.{net_wire, variable_reg, result_wire, net_assign, variable_block, an_instance, output_assign}
use Rattle.export_verilog.proofs.items.Lookups.{port_under, vport_at}
use Rattle.export_verilog.proofs.items.Registers.{typed_register}
use Rattle.export_verilog.proofs.items.Resets.{input_written, signal_port}
use Rattle.export_verilog.proofs.items.Settings.{Setting, Called, module_ok, called_by, callee_is, result_at_first}
use Rattle.export_verilog.proofs.items.Writable.{named_input}
use Rattle.export_verilog.proofs.checks.Stated.{position_of_input, placed_in}

-- a block of a register without an asynchronous reset has no second event
no_second_event : (n : Name) (asked ex : Ref → Expr) (q : Name) (next : Ref) (e : Option Ref) (b : Option ResetBy) → resets_by n (block_of asked ex q next e b) ≡ false
no_second_event n asked ex q next None None = refl
no_second_event n asked ex q next (Some e) None = refl
no_second_event n asked ex q next None (Some b) = refl
no_second_event n asked ex q next (Some e) (Some b) = refl

module _ (via : Lowering) (d : Design) (x : Setting d) where
  -- a port is a clock, or one that resets come from
  abbrev IsEventPort : Module → ℕ → Port → Type 0
  IsEventPort m j p = (p.type ≡ clock) ⊎ (x.ok.marked m j ≡ true)

  -- a name is the text of such an input port
  pub record IsClockInput (c : Module) (n : Name) : Type 0 where
    pub number : ℕ
    pub port_of : Port
    pub there : slice_get c.ports number ≡ Some port_of
    pub input : port_of.is_output ≡ false
    pub type : IsEventPort c number port_of
    pub called : n ≡ identifier_text c (port_identifier number)

  -- a value is such an input port, written by its name
  pub record IsClockRef (m : Module) (r : Ref) : Type 0 where
    pub number : ℕ
    pub port_of : Port
    pub there : slice_get m.ports number ≡ Some port_of
    pub input : port_of.is_output ≡ false
    pub type : IsEventPort m number port_of
    pub written : expression m (own_place via) r ≡ name (identifier_text m (port_identifier number))

  -- an input port that has a mark
  marked_ref : (s : Name) (m : Module) → find_module d s ≡ Some m → (r : Ref) → IsMarkedInput x.ok.marked m r → IsClockRef m r
  marked_ref s m is r p = record {
    number = p.number;
    port_of = p.port_of;
    there = p.there;
    input = p.is_input;
    type = inr p.has_mark;
    written = ap (expression m (own_place via)) p.is_port ∙ input_written via d x s m is (own_place via) p.number p.port_of p.there p.is_input;
  }

  pub clock_ref : (s : Name) (m : Module) → find_module d s ≡ Some m → (r : Ref) → type_in m.ports m.body r ≡ Some clock → IsClockRef m r
  clock_ref s m is r typed = let p = (module_ok d x s m is).clocks r typed in at_port p.0 p.1 where
    in_way : (j : ℕ) → r ≡ port j → (p : Port) → slice_get m.ports j ≡ Some p → (b : Bool) → p.is_output ≡ b → cond b None (Some p.type) ≡ Some clock → IsClockRef m r
    in_way j e p there true out h = cc
    in_way j e p there false out h = record {
      number = j;
      port_of = p;
      there = there;
      input = out;
      type = inl (let t : p.type ≡ clock = cc in t);
      written = ap (expression m (own_place via)) e ∙ input_written via d x s m is (own_place via) j p there out;
    }

    at_there : (j : ℕ) → r ≡ port j → (p : Option Port) → slice_get m.ports j ≡ p → input_type p ≡ Some clock → IsClockRef m r
    at_there j e None there h = cc
    at_there j e (Some p) there h = in_way j e p there p.is_output refl h

    at_port : (j : ℕ) → r ≡ port j → IsClockRef m r
    at_port j e = at_there j e (slice_get m.ports j) refl (ap (type_in m.ports m.body) (sym e) ∙ typed)

  -- the operand that an instance joins to such an input
  joined_clock : (s : Name) (m : Module) (is : find_module d s ≡ Some m) (o : Op) → In o m.body → (c : Called d m o) (j : ℕ) (p : Port) → slice_get c.module_of.ports j ≡ Some p → p.is_output ≡ false
      → IsEventPort c.module_of j p → (r : Ref) × (slice_get o.operands (input_count (take j c.module_of.ports)) ≡ Some r) × IsClockRef m r
  joined_clock s m is o within c j p there out (inr has_mark) =
      let given : IsMarkedInput x.ok.marked c.module_of (port j) = record { number = j; is_port = refl; port_of = p; there = there; is_input = out; has_mark = has_mark } in
      let g = x.ok.resets.joined s m o c.module_of (port j) is within (callee_is d m o c) given in (
        g.0,
        sym (ap (λ z. operand_for z o.operands (input_count (take j c.module_of.ports))) there ∙ ap (λ b. cond b None (slice_get o.operands (input_count (take j c.module_of.ports)))) out) ∙ g.1,
        marked_ref s m is g.0 g.2,
      )
  joined_clock s m is o within c j p there out (inl is_clock_type) =
      let g = placed_in (type_in m.ports m.body) (λ (u : HwType). Some u) o.operands (input_types c.module_of.ports) (input_count (take j c.module_of.ports)) p.type c.inputs (position_of_input c.module_of.ports j p there out) in
      (g.0, g.1, clock_ref s m is g.0 (g.2 ∙ ap (λ (u : HwType). Some u) is_clock_type))

  -- the port that a connection names, where that is such a port of its module
  same_port : (m : Module) (o : Op) (c : Called d m o) (i : ℕ) (j : ℕ) (p : Port) → slice_get c.module_of.ports j ≡ Some p → IsClockInput c.module_of (identifier_text c.module_of (port_identifier j))
      → (p.is_output ≡ false) × IsEventPort c.module_of j p
  same_port m o c i j p there k =
      let e : port_identifier j ≡ port_identifier k.number = texts_apart c.module_of (x.names c.kind.symbol c.module_of c.there) (port_identifier j) (port_identifier k.number)
      (port_in c.module_of j p there) (port_in c.module_of k.number k.port_of k.there) k.called in
      let f : j ≡ k.number = cc in
      let g : Some p ≡ Some k.port_of = sym there ∙ ap (slice_get c.module_of.ports) f ∙ k.there in
      let q : p ≡ k.port_of = cc in
      (ap (λ (z : Port). z.is_output) q ∙ k.input, subst (λ n. IsEventPort c.module_of n p) (sym f) (subst (IsEventPort c.module_of k.number) (sym q) k.type))

  -- what is used as a clock or as a second event is such an input
  pub clock_input : (n : ℕ) (s : Name) (c : Module) → find_module d s ≡ Some c → (a : Name) → is_clock n (tree_of via d) (symbol_name d s) a ≡ true → IsClockInput c a
  clock_input zero s c is a used = absurd (false≢true used)
  clock_input (suc n) s c is a used =
      in_items (vitems via d c) (λ y w. from_items via d c y w) (ap (clock_in (is_clock n (tree_of via d)) a) (sym (vmodule_found d x.ok x.symbols via s c is)) ∙ used)
      (λ t e at w. clock_input n t e at w) where
        inner : Name → Name → Bool
        inner = is_clock n (tree_of via d)

        in_register : (i : ℕ) (o : Op) (r : Register) → slice_get c.body i ≡ Some o → emission_of c.ports c.body i o ≡ as_reg → register_in o ≡ Some r → same_name (name_or_nothing (value_name c r.clock)) a ≡ true → IsClockInput c a
        in_register i o r there emission at same =
            let first = result_at_first d x s c is i o there (inr emission) in
            let typed = typed_register d x s c is i o there emission first.0.type (ap (option_map (λ (z : OpResult). z.type)) first.1) in
            let e : Some typed.0 ≡ Some r = sym typed.1 ∙ at in
            let f : typed.0 ≡ r = cc in
            let k = clock_ref s c is r.clock (ap (λ (z : Register). type_in c.ports c.body z.clock) (sym f) ∙ typed.2.clocked) in
            let g = ((module_ok d x s c is).ops i o there).clocked r at in
            let clock_name : name_or_nothing (value_name c r.clock) ≡ identifier_text c (port_identifier g.number) = ap (λ z. name_or_nothing (value_name c z)) g.is_port
            ∙ ap name_or_nothing (named_input d x s c is g.number g.clock g.there g.input) in
            record {
              number = g.number;
              port_of = g.clock;
              there = g.there;
              input = g.input;
              type = inl (let t : Some g.clock.type ≡ Some clock = sym (ap (λ b. cond b None (Some g.clock.type)) g.input) ∙ sym (ap input_type g.there)
                  ∙ ap (type_in c.ports c.body) (sym g.is_port) ∙ ap (λ (z : Register). type_in c.ports c.body z.clock) (sym f) ∙ typed.2.clocked in
                  let u : g.clock.type ≡ clock = cc in u);
              called = sym (name_from (name_or_nothing (value_name c r.clock)) a same) ∙ clock_name;
            }

        in_reset : (o : Op) (r : Register) (b : Option ResetBy) → In o c.body → async_reset_in o ≡ b → (q : Name) → resets_by a (module_block via c q r b) ≡ true → IsClockInput c a
        in_reset o r None within at q h = absurd (false≢true (sym (no_second_event a (expression c (own_place via)) (expression c (load_place via)) q r.next r.enable r.reset) ∙ h))
        in_reset o r (Some b) within at q h = let p = signal_port via d x s c is o b within at in record {
          number = p.number;
          port_of = p.port_of;
          there = p.there;
          input = p.input;
          type = inr p.has_mark;
          called = sym (name_from (name_or_nothing (value_name c b.signal)) a h) ∙ p.called;
        }

        in_block : (i : ℕ) (o : Op) (r : Register) → slice_get c.body i ≡ Some o → emission_of c.ports c.body i o ≡ as_reg → register_in o ≡ Some r → uses_clock inner a (block_at via c i o r) ≡ true → IsClockInput c a
        in_block i o r there emission at h =
            go (or_cases (same_name (name_or_nothing (value_name c r.clock)) a) (resets_by a (module_block via c (identifier_text c (value_identifier i 0)) r (async_reset_in o))) h) where
              go : (same_name (name_or_nothing (value_name c r.clock)) a ≡ true) ⊎ (resets_by a (module_block via c (identifier_text c (value_identifier i 0)) r (async_reset_in o)) ≡ true) → IsClockInput c a
              go (inl u) = in_register i o r there emission at u
              go (inr u) = in_reset o r (async_reset_in o) (In-slice_get o c.body i there) refl (identifier_text c (value_identifier i 0)) u

        in_connection : (i : ℕ) (o : Op) → In o c.body → (y : Called d c o) (j : ℕ) (p : Port) → slice_get y.module_of.ports j ≡ Some p → (e : Connection) → e ≡ connection_of via y.module_of c i j 0 (take j y.module_of.ports) p o.operands
            → ((t : Name) (z : Module) → find_module d t ≡ Some z → (w : Name) → is_clock n (tree_of via d) (symbol_name d t) w ≡ true → IsClockInput z w)
            → (inner (symbol_name d y.kind.symbol) e.port && is_name a e.value) ≡ true → IsClockInput c a
        in_connection i o within y j p there e as_it below both =
            let u = both_of (inner (symbol_name d y.kind.symbol) e.port) (is_name a e.value) both in
            let k : IsClockInput y.module_of (identifier_text y.module_of (port_identifier j)) = subst (IsClockInput y.module_of) (ap (λ (z : Connection). z.port) as_it) (below y.kind.symbol y.module_of y.there e.port u.0) in
            let q = same_port c o y i j p there k in
            let g = joined_clock s c is o within y j p there q.0 q.1 in
            let value : e.value ≡ name (identifier_text c (port_identifier g.2.number)) = ap (λ (z : Connection). z.value) as_it
            ∙ ap (λ b. cond b (name (identifier_text c (value_identifier i (0 + output_count (take j y.module_of.ports))))) (expr_for (expression c (own_place via)) (slice_get o.operands (input_count (take j y.module_of.ports))))) q.0
            ∙ ap (expr_for (expression c (own_place via))) g.1 ∙ g.2.written in
            record {
              number = g.2.number;
              port_of = g.2.port_of;
              there = g.2.there;
              input = g.2.input;
              type = g.2.type;
              called = sym (name_from (identifier_text c (port_identifier g.2.number)) a (ap (is_name a) (sym value) ∙ u.1));
            }

        in_connections : (i : ℕ) (o : Op) → In o c.body → (y : Called d c o) (es : List Connection)
            → ((e : Connection) → In e es → (j : ℕ) × (p : Port) × (slice_get y.module_of.ports j ≡ Some p) × (e ≡ connection_of via y.module_of c i j 0 (take j y.module_of.ports) p o.operands))
            → ((t : Name) (z : Module) → find_module d t ≡ Some z → (w : Name) → is_clock n (tree_of via d) (symbol_name d t) w ≡ true → IsClockInput z w)
            → inner_clock inner a (symbol_name d y.kind.symbol) es ≡ true → IsClockInput c a
        in_connections i o within y [] from below h = absurd (false≢true h)
        in_connections i o within y (e ∷ es) from below h = go (or_cases (inner (symbol_name d y.kind.symbol) e.port && is_name a e.value) (inner_clock inner a (symbol_name d y.kind.symbol) es) h)
            (in_connections i o within y es (λ f w. from f (inr w)) below) where
              go : ((inner (symbol_name d y.kind.symbol) e.port && is_name a e.value) ≡ true) ⊎ (inner_clock inner a (symbol_name d y.kind.symbol) es ≡ true)
                  → (inner_clock inner a (symbol_name d y.kind.symbol) es ≡ true → IsClockInput c a) → IsClockInput c a
              go (inl u) rest = let f = from e (inl refl) in in_connection i o within y f.0 f.1 f.2 e f.3 below u
              go (inr u) rest = rest u

        in_item : (y : Item) → From via d c y → ((t : Name) (z : Module) → find_module d t ≡ Some z → (w : Name) → is_clock n (tree_of via d) (symbol_name d t) w ≡ true → IsClockInput z w)
            → uses_clock inner a y ≡ true → IsClockInput c a
        in_item y (net_wire i o there emission same) below h = absurd (false≢true (ap (uses_clock inner a) (sym same) ∙ h))
        in_item y (variable_reg i o there emission same) below h = absurd (false≢true (ap (uses_clock inner a) (sym same) ∙ h))
        in_item y (result_wire i k o r there emission at same) below h = absurd (false≢true (ap (uses_clock inner a) (sym same) ∙ h))
        in_item y (net_assign i o there emission same) below h = absurd (false≢true (ap (uses_clock inner a) (sym same) ∙ h))
        in_item y (variable_block i o r there emission at same) below h = in_block i o r there emission at (ap (uses_clock inner a) (sym same) ∙ h)
        in_item y (an_instance i o z there emission at same) below h =
            let e : Called d c o = called_by d x s c is i o there z at in
            in_connections i o (In-slice_get o c.body i there) e (connections_of via e.module_of c i 0 0 e.module_of.ports o.operands)
            (λ f w. let g = from_connections via e.module_of c i 0 0 e.module_of.ports o.operands f w in
            (g.0, g.1, g.2, g.3 ∙ ap (λ q. connection_of via e.module_of c i q 0 (take g.0 e.module_of.ports) g.1 o.operands) (zero-add g.0))) below
            (ap (λ q. inner_clock inner a (symbol_name d z.symbol) (connections_to via q c i o)) (sym e.there) ∙ ap (uses_clock inner a) (sym same) ∙ h)
        in_item y (output_assign j p there out same) below h = absurd (false≢true (ap (uses_clock inner a) (sym same) ∙ h))

        in_items : (ys : List Item) → ((y : Item) → In y ys → From via d c y) → any_uses_clock inner a ys ≡ true
            → ((t : Name) (z : Module) → find_module d t ≡ Some z → (w : Name) → is_clock n (tree_of via d) (symbol_name d t) w ≡ true → IsClockInput z w) → IsClockInput c a
        in_items [] from h below = absurd (false≢true h)
        in_items (y ∷ ys) from h below = go (or_cases (uses_clock inner a y) (any_uses_clock inner a ys) h) (λ u. in_items ys (λ z w. from z (inr w)) u below) where
          go : (uses_clock inner a y ≡ true) ⊎ (any_uses_clock inner a ys ≡ true) → (any_uses_clock inner a ys ≡ true → IsClockInput c a) → IsClockInput c a
          go (inl u) rest = in_item y (from y (inl refl)) below u
          go (inr u) rest = rest u

  -- ---- the connections of a module

  connection_clock : (s : Name) (m : Module) (is : find_module d s ≡ Some m) (i : ℕ) (o : Op) → In o m.body → (y : Called d m o) (j : ℕ) (p : Port) → slice_get y.module_of.ports j ≡ Some p → (e : Connection)
      → e ≡ connection_of via y.module_of m i j 0 (take j y.module_of.ports) p o.operands
      → (not (is_clock (suc (length (tree_of via d))) (tree_of via d) (symbol_name d y.kind.symbol) e.port) || is_input_name (vports m) e.value) ≡ true
  connection_clock s m is i o within y j p there e as_it = go (is_clock (suc (length (tree_of via d))) (tree_of via d) (symbol_name d y.kind.symbol) e.port) refl where
    is_input : (n : ℕ) (q : Port) → slice_get m.ports n ≡ Some q → q.is_output ≡ false → is_input_name (vports m) (name (identifier_text m (port_identifier n))) ≡ true
    is_input n q at out = simp (port_under m (x.names s m is) (port_identifier n) (port_in m n q at) ∙ ap (option_map (vport_at m n)) at, out) refl

    go : (b : Bool) → is_clock (suc (length (tree_of via d))) (tree_of via d) (symbol_name d y.kind.symbol) e.port ≡ b → (not b || is_input_name (vports m) e.value) ≡ true
    go false used = refl
    go true used =
        let k : IsClockInput y.module_of (identifier_text y.module_of (port_identifier j)) = subst (IsClockInput y.module_of) (ap (λ (z : Connection). z.port) as_it)
        (clock_input (suc (length (tree_of via d))) y.kind.symbol y.module_of y.there e.port used) in
        let q = same_port m o y i j p there k in
        let g = joined_clock s m is o within y j p there q.0 q.1 in
        let value : e.value ≡ name (identifier_text m (port_identifier g.2.number)) = ap (λ (z : Connection). z.value) as_it
        ∙ ap (λ b. cond b (name (identifier_text m (value_identifier i (0 + output_count (take j y.module_of.ports))))) (expr_for (expression m (own_place via)) (slice_get o.operands (input_count (take j y.module_of.ports))))) q.0
        ∙ ap (expr_for (expression m (own_place via))) g.1 ∙ g.2.written in
        ap (is_input_name (vports m)) value ∙ is_input g.2.number g.2.port_of g.2.there g.2.input

  module _ (s : Name) (m : Module) (is : find_module d s ≡ Some m) where
    connections_clocked : (i : ℕ) (o : Op) → In o m.body → (y : Called d m o) (es : List Connection)
        → ((e : Connection) → In e es → (j : ℕ) × (p : Port) × (slice_get y.module_of.ports j ≡ Some p) × (e ≡ connection_of via y.module_of m i j 0 (take j y.module_of.ports) p o.operands))
        → clocks_joined (tree_of via d) (vports m) (symbol_name d y.kind.symbol) es ≡ true
    connections_clocked i o within y [] from = refl
    connections_clocked i o within y (e ∷ es) from = let f = from e (inl refl) in
        and_intro (not (is_clock (suc (length (tree_of via d))) (tree_of via d) (symbol_name d y.kind.symbol) e.port) || is_input_name (vports m) e.value) (clocks_joined (tree_of via d) (vports m) (symbol_name d y.kind.symbol) es)
        (connection_clock s m is i o within y f.0 f.1 f.2 e f.3) (connections_clocked i o within y es (λ z w. from z (inr w)))

    -- what one item asks
    item_clocks : Item → Bool
    item_clocks (instance c u cs) = clocks_joined (tree_of via d) (vports m) c cs
    item_clocks _ = true

    clocks_more : (y : Item) (ys : List Item) → item_clocks y ≡ true → clocks_check (tree_of via d) (vports m) ys ≡ true → clocks_check (tree_of via d) (vports m) (y ∷ ys) ≡ true
    unfolding item_clocks
    clocks_more (wire h n) ys a b = b
    clocks_more (reg h n) ys a b = b
    clocks_more (assign n e) ys a b = b
    clocks_more (always c e) ys a b = b
    clocks_more (instance c u cs) ys a b = and_intro (clocks_joined (tree_of via d) (vports m) c cs) (clocks_check (tree_of via d) (vports m) ys) a b

    one_clocked : (y : Item) → From via d m y → item_clocks y ≡ true
    unfolding item_clocks
    one_clocked y (net_wire i o there emission same) = ap item_clocks same
    one_clocked y (variable_reg i o there emission same) = ap item_clocks same
    one_clocked y (result_wire i k o r there emission at same) = ap item_clocks same
    one_clocked y (net_assign i o there emission same) = ap item_clocks same
    one_clocked y (variable_block i o r there emission at same) = ap item_clocks same
    one_clocked y (an_instance i o z there emission at same) =
        let e : Called d m o = called_by d x s m is i o there z at in
        ap item_clocks same ∙ ap (λ q. clocks_joined (tree_of via d) (vports m) (symbol_name d z.symbol) (connections_to via q m i o)) e.there
        ∙ connections_clocked i o (In-slice_get o m.body i there) e (connections_of via e.module_of m i 0 0 e.module_of.ports o.operands)
        (λ f w. let g = from_connections via e.module_of m i 0 0 e.module_of.ports o.operands f w in
        (g.0, g.1, g.2, g.3 ∙ ap (λ q. connection_of via e.module_of m i q 0 (take g.0 e.module_of.ports) g.1 o.operands) (zero-add g.0)))
    one_clocked y (output_assign j p there out same) = ap item_clocks same

    all_clocked : (ys : List Item) → ((y : Item) → In y ys → From via d m y) → clocks_check (tree_of via d) (vports m) ys ≡ true
    all_clocked [] from = refl
    all_clocked (y ∷ ys) from = clocks_more y ys (one_clocked y (from y (inl refl))) (all_clocked ys (λ z w. from z (inr w)))

    pub clocks_are_checked : clocks_check (tree_of via d) (vports m) (vitems via d m) ≡ true
    clocks_are_checked = all_clocked (vitems via d m) (λ y w. from_items via d m y w)
