-- Where each item of a module's tree comes from, and that each stands there.
use Rattle.std.proofs.Common.{◌≡◌, ℕ, zero, suc, ◌+◌, ◌⊎◌, Bool, true, false, cond, List, [], ◌∷◌, ◌++◌, take, slice_get, Option, Some, None, refl, sym, ◌∙◌, ap, ap₂, subst, inl, inr, add-zero, add-suc, zero-add, suc-add}
use Rattle.wiring.specs.Wiring.{In}
use Rattle.wiring.proofs.Members.{In-append_left, In-append_right}
use Rattle.hw_model.specs.Types.{width}
use Rattle.hw_model.specs.Kinds.{Instance}
use Rattle.hw_model.specs.Design.{Ref, Port, OpResult, Op, Module, Design, find_module, instance_in, result_type, output_refs}
use Rattle.hw_model.specs.Design.Ref.{result}
use Rattle.hw_model.specs.Flat.{width_of, input_count, Register, register_in, async_reset_in}
use Rattle.verilog_model.specs.Tree.{Expr, Connection, Item}
use Rattle.verilog_model.specs.Tree.Expr.{name}
use Rattle.verilog_model.specs.Tree.Item.{wire, reg, assign, always, instance}
use Rattle.verilog_model.specs.Digits.{high_of}
use Rattle.verilog_expr.specs.Building.{no_expr}
use Rattle.lowering_options.specs.declared.lowering.Lowering.{Lowering}
use Rattle.export_verilog.specs.Lowerings.{load_place, own_place}
use Rattle.export_verilog.specs.Identifiers.{Emission, each, emission_of, identifier_text, name_or_nothing, value_name}
use Rattle.export_verilog.specs.Identifiers.Identifier.{port_identifier, value_identifier, instance_identifier}
use Rattle.export_verilog.specs.Identifiers.Emission.{inline, as_wire, as_reg, as_instance}
use Rattle.export_verilog.specs.Exported.{symbol_name, expression, assigned_expr, result_wires, declared_as, declares, module_block, always_of, expr_or_none, others, connections_of, connections_to}
use Rattle.export_verilog.specs.Exported.{instance_of, stated_as, states, output_assigns, vitems}
use Rattle.export_verilog.proofs.items.Lists.{in_append}
use Rattle.export_verilog.proofs.names.IdentifiersOf.{from_each, into_each}

-- ---- outputs among ports, and the expression for an operand that may be missing

abbrev pub output_count : List Port → ℕ
output_count [] = 0
output_count (p ∷ ps) = cond p.is_output (suc (output_count ps)) (output_count ps)

abbrev pub expr_for : (Ref → Expr) → Option Ref → Expr
expr_for ex None = no_expr
expr_for ex (Some r) = ex r

pub first_expr : (ex : Ref → Expr) (rs : List Ref) → expr_or_none ex rs ≡ expr_for ex (slice_get rs 0)
first_expr ex [] = refl
first_expr ex (r ∷ rs) = refl

pub later_expr : {A : Type 0} (rs : List A) (n : ℕ) → slice_get (others rs) n ≡ slice_get rs (suc n)
later_expr [] n = refl
later_expr (r ∷ rs) n = refl

-- ---- connections

abbrev pub connection_of : (via : Lowering) → Module → Module → ℕ → ℕ → ℕ → List Port → Port → List Ref → Connection
connection_of via c m i j k before p rs = record {
  port = identifier_text c (port_identifier j);
  value = cond p.is_output (name (identifier_text m (value_identifier i (k + output_count before)))) (expr_for (expression m (own_place via)) (slice_get rs (input_count before)));
}

-- after an output, and after an input
shifted_output : (via : Lowering) (c m : Module) (i j k n : ℕ) (x : Port) (before : List Port) (p : Port) (rs : List Ref) → x.is_output ≡ true
    → connection_of via c m i (suc j + n) (suc k) before p rs ≡ connection_of via c m i (j + suc n) k (x ∷ before) p rs
shifted_output via c m i j k n x before p rs out =
    ap₂ (λ a b. connection_with a b (input_count before)) (suc-add j n ∙ sym (add-suc j n)) (suc-add k (output_count before) ∙ sym (add-suc k (output_count before)))
    ∙ ap (λ b. connection_with (j + suc n) (k + cond b (suc (output_count before)) (output_count before)) (cond b (input_count before) (suc (input_count before)))) (sym out) where
      connection_with : ℕ → ℕ → ℕ → Connection
      connection_with a b e = record {
        port = identifier_text c (port_identifier a);
        value = cond p.is_output (name (identifier_text m (value_identifier i b))) (expr_for (expression m (own_place via)) (slice_get rs e));
      }

shifted_input : (via : Lowering) (c m : Module) (i j k n : ℕ) (x : Port) (before : List Port) (p : Port) (rs : List Ref) → x.is_output ≡ false
    → connection_of via c m i (suc j + n) k before p (others rs) ≡ connection_of via c m i (j + suc n) k (x ∷ before) p rs
shifted_input via c m i j k n x before p rs out =
    ap₂ (λ a b. connection_with a (output_count before) b) (suc-add j n ∙ sym (add-suc j n)) (later_expr rs (input_count before))
    ∙ ap (λ b. connection_with (j + suc n) (cond b (suc (output_count before)) (output_count before)) (slice_get rs (cond b (input_count before) (suc (input_count before))))) (sym out) where
      connection_with : ℕ → ℕ → Option Ref → Connection
      connection_with a b e = record {
        port = identifier_text c (port_identifier a);
        value = cond p.is_output (name (identifier_text m (value_identifier i (k + b)))) (expr_for (expression m (own_place via)) e);
      }

module _ (via : Lowering) (c m : Module) (i : ℕ) where
  pub from_connections : (j k : ℕ) (ps : List Port) (rs : List Ref) (y : Connection) → In y (connections_of via c m i j k ps rs)
      → (n : ℕ) × (p : Port) × (slice_get ps n ≡ Some p) × (y ≡ connection_of via c m i (j + n) k (take n ps) p rs)
  from_connections j k [] rs y here = absurd here
  from_connections j k (x ∷ ps) rs y here = go x.is_output refl here (from_connections (suc j) (suc k) ps rs y) (from_connections (suc j) k ps (others rs) y) where
    head : Expr → Connection
    head e = record { port = identifier_text c (port_identifier j); value = e }

    position : (n : ℕ) → j ≡ n → connection_of via c m i j k [] x rs ≡ connection_of via c m i n k [] x rs
    position n e = ap (λ a. connection_of via c m i a k [] x rs) e

    go : (b : Bool) → x.is_output ≡ b
        → In y (cond b (head (name (identifier_text m (value_identifier i k))) ∷ connections_of via c m i (suc j) (suc k) ps rs) (head (expr_or_none (expression m (own_place via)) rs) ∷ connections_of via c m i (suc j) k ps (others rs)))
        → (In y (connections_of via c m i (suc j) (suc k) ps rs) → (n : ℕ) × (p : Port) × (slice_get ps n ≡ Some p) × (y ≡ connection_of via c m i (suc j + n) (suc k) (take n ps) p rs))
        → (In y (connections_of via c m i (suc j) k ps (others rs)) → (n : ℕ) × (p : Port) × (slice_get ps n ≡ Some p) × (y ≡ connection_of via c m i (suc j + n) k (take n ps) p (others rs)))
        → (n : ℕ) × (p : Port) × (slice_get (x ∷ ps) n ≡ Some p) × (y ≡ connection_of via c m i (j + n) k (take n (x ∷ ps)) p rs)
    go true out (inl same) first second = (
      0,
      x,
      refl,
      same ∙ ap (λ n. head (name (identifier_text m (value_identifier i n)))) (sym (add-zero k))
          ∙ ap (λ b. head (cond b (name (identifier_text m (value_identifier i (k + 0)))) (expr_for (expression m (own_place via)) (slice_get rs 0)))) (sym out) ∙ position (j + 0) (sym (add-zero j)),
    )
    go true out (inr later) first second = let h = first later in
        (suc h.0, h.1, h.2, h.3 ∙ shifted_output via c m i j k h.0 x (take h.0 ps) h.1 rs out)
    go false out (inl same) first second = (
      0,
      x,
      refl,
      same ∙ ap head (first_expr (expression m (own_place via)) rs)
          ∙ ap (λ b. head (cond b (name (identifier_text m (value_identifier i (k + 0)))) (expr_for (expression m (own_place via)) (slice_get rs 0)))) (sym out) ∙ position (j + 0) (sym (add-zero j)),
    )
    go false out (inr later) first second = let h = second later in
        (suc h.0, h.1, h.2, h.3 ∙ shifted_input via c m i j k h.0 x (take h.0 ps) h.1 rs out)

  pub into_connections : (j k : ℕ) (ps : List Port) (rs : List Ref) (n : ℕ) (p : Port) → slice_get ps n ≡ Some p
      → In (connection_of via c m i (j + n) k (take n ps) p rs) (connections_of via c m i j k ps rs)
  into_connections j k [] rs n p is = cc
  into_connections j k (x ∷ ps) rs n p is = go x.is_output refl n is (λ a h. into_connections (suc j) (suc k) ps rs a p h) (λ a h. into_connections (suc j) k ps (others rs) a p h) where
    head : Expr → Connection
    head e = record { port = identifier_text c (port_identifier j); value = e }

    both : (b : Bool) → List Connection
    both b = cond b (head (name (identifier_text m (value_identifier i k))) ∷ connections_of via c m i (suc j) (suc k) ps rs) (head (expr_or_none (expression m (own_place via)) rs) ∷ connections_of via c m i (suc j) k ps (others rs))

    position : (n : ℕ) (q : Port) → j ≡ n → x ≡ q → connection_of via c m i j k [] x rs ≡ connection_of via c m i n k [] q rs
    position n q e f = ap₂ (λ a (z : Port). connection_of via c m i a k [] z rs) e f

    go : (b : Bool) → x.is_output ≡ b → (n : ℕ) → slice_get (x ∷ ps) n ≡ Some p
        → ((a : ℕ) → slice_get ps a ≡ Some p → In (connection_of via c m i (suc j + a) (suc k) (take a ps) p rs) (connections_of via c m i (suc j) (suc k) ps rs))
        → ((a : ℕ) → slice_get ps a ≡ Some p → In (connection_of via c m i (suc j + a) k (take a ps) p (others rs)) (connections_of via c m i (suc j) k ps (others rs)))
        → In (connection_of via c m i (j + n) k (take n (x ∷ ps)) p rs) (both b)
    go true out zero is first second = inl (sym (ap (λ n. head (name (identifier_text m (value_identifier i n)))) (sym (add-zero k))
        ∙ ap (λ b. head (cond b (name (identifier_text m (value_identifier i (k + 0)))) (expr_for (expression m (own_place via)) (slice_get rs 0)))) (sym out)
        ∙ position (j + 0) p (sym (add-zero j)) (let e : x ≡ p = cc in e)))
    go true out (suc n) is first second = inr (subst (λ y. In y (connections_of via c m i (suc j) (suc k) ps rs)) (shifted_output via c m i j k n x (take n ps) p rs out)
        (first n is))
    go false out zero is first second = inl (sym (ap head (first_expr (expression m (own_place via)) rs)
        ∙ ap (λ b. head (cond b (name (identifier_text m (value_identifier i (k + 0)))) (expr_for (expression m (own_place via)) (slice_get rs 0)))) (sym out)
        ∙ position (j + 0) p (sym (add-zero j)) (let e : x ≡ p = cc in e)))
    go false out (suc n) is first second = inr (subst (λ y. In y (connections_of via c m i (suc j) k ps (others rs))) (shifted_input via c m i j k n x (take n ps) p rs out)
        (second n is))

-- ---- the assignments to output ports

module _ (via : Lowering) (m : Module) where
  abbrev pub output_item : ℕ → List Port → List Ref → Item
  output_item j before rs = assign (identifier_text m (port_identifier j)) (expr_for (expression m (load_place via)) (slice_get rs (output_count before)))

  pub from_outputs : (j : ℕ) (ps : List Port) (rs : List Ref) (y : Item) → In y (output_assigns via m j ps rs)
      → (n : ℕ) × (p : Port) × (slice_get ps n ≡ Some p) × (p.is_output ≡ true) × (y ≡ output_item (j + n) (take n ps) rs)
  from_outputs j [] rs y here = absurd here
  from_outputs j (x ∷ ps) rs y here = go x.is_output refl here (from_outputs (suc j) ps (others rs) y) (from_outputs (suc j) ps rs y) where
    moved : (n a : ℕ) → output_item (suc j + n) (take n ps) rs ≡ output_item (j + suc n) (take n ps) rs
    moved n a = ap (λ z. output_item z (take n ps) rs) (suc-add j n ∙ sym (add-suc j n))

    go : (b : Bool) → x.is_output ≡ b
        → In y (cond b (assign (identifier_text m (port_identifier j)) (expr_or_none (expression m (load_place via)) rs) ∷ output_assigns via m (suc j) ps (others rs)) (output_assigns via m (suc j) ps rs))
        → (In y (output_assigns via m (suc j) ps (others rs)) → (n : ℕ) × (p : Port) × (slice_get ps n ≡ Some p) × (p.is_output ≡ true) × (y ≡ output_item (suc j + n) (take n ps) (others rs)))
        → (In y (output_assigns via m (suc j) ps rs) → (n : ℕ) × (p : Port) × (slice_get ps n ≡ Some p) × (p.is_output ≡ true) × (y ≡ output_item (suc j + n) (take n ps) rs))
        → (n : ℕ) × (p : Port) × (slice_get (x ∷ ps) n ≡ Some p) × (p.is_output ≡ true) × (y ≡ output_item (j + n) (take n (x ∷ ps)) rs)
    go true out (inl same) first second = (0, x, refl, out, same ∙ ap₂ (λ a e. assign (identifier_text m (port_identifier a)) e) (sym (add-zero j)) (first_expr (expression m (load_place via)) rs))
    go true out (inr later) first second = let h = first later in (
      suc h.0,
      h.1,
      h.2,
      h.3,
      h.4
          ∙ ap₂ (λ a e. assign (identifier_text m (port_identifier a)) (expr_for (expression m (load_place via)) e)) (suc-add j h.0 ∙ sym (add-suc j h.0)) (later_expr rs (output_count (take h.0 ps)))
          ∙ ap (λ b. assign (identifier_text m (port_identifier (j + suc h.0))) (expr_for (expression m (load_place via)) (slice_get rs (cond b (suc (output_count (take h.0 ps))) (output_count (take h.0 ps)))))) (sym out),
    )
    go false out later first second = let h = second later in (
      suc h.0,
      h.1,
      h.2,
      h.3,
      h.4 ∙ moved h.0 0
          ∙ ap (λ b. assign (identifier_text m (port_identifier (j + suc h.0))) (expr_for (expression m (load_place via)) (slice_get rs (cond b (suc (output_count (take h.0 ps))) (output_count (take h.0 ps)))))) (sym out),
    )

  pub into_outputs : (j : ℕ) (ps : List Port) (rs : List Ref) (n : ℕ) (p : Port) → slice_get ps n ≡ Some p → p.is_output ≡ true
      → In (output_item (j + n) (take n ps) rs) (output_assigns via m j ps rs)
  into_outputs j [] rs n p is out = cc
  into_outputs j (x ∷ ps) rs n p is out = go x.is_output refl n is (λ a h. into_outputs (suc j) ps (others rs) a p h out) (λ a h. into_outputs (suc j) ps rs a p h out) where
    go : (b : Bool) → x.is_output ≡ b → (n : ℕ) → slice_get (x ∷ ps) n ≡ Some p
        → ((a : ℕ) → slice_get ps a ≡ Some p → In (output_item (suc j + a) (take a ps) (others rs)) (output_assigns via m (suc j) ps (others rs)))
        → ((a : ℕ) → slice_get ps a ≡ Some p → In (output_item (suc j + a) (take a ps) rs) (output_assigns via m (suc j) ps rs))
        → In (output_item (j + n) (take n (x ∷ ps)) rs)
        (cond b (assign (identifier_text m (port_identifier j)) (expr_or_none (expression m (load_place via)) rs) ∷ output_assigns via m (suc j) ps (others rs)) (output_assigns via m (suc j) ps rs))
    go true way zero is first second = inl (sym (ap₂ (λ a e. assign (identifier_text m (port_identifier a)) e) (sym (add-zero j)) (first_expr (expression m (load_place via)) rs)))
    go true way (suc n) is first second = inr (subst (λ y. In y (output_assigns via m (suc j) ps (others rs)))
        (ap₂ (λ a e. assign (identifier_text m (port_identifier a)) (expr_for (expression m (load_place via)) e)) (suc-add j n ∙ sym (add-suc j n)) (later_expr rs (output_count (take n ps)))
        ∙ ap (λ b. assign (identifier_text m (port_identifier (j + suc n))) (expr_for (expression m (load_place via)) (slice_get rs (cond b (suc (output_count (take n ps))) (output_count (take n ps)))))) (sym way))
        (first n is))
    go false way zero is first second = absurd (let e : x ≡ p = cc in let f : x.is_output ≡ true = ap (λ (z : Port). z.is_output) e ∙ out in cc)
    go false way (suc n) is first second = subst (λ y. In y (output_assigns via m (suc j) ps rs))
        (ap (λ a. output_item a (take n ps) rs) (suc-add j n ∙ sym (add-suc j n))
        ∙ ap (λ b. assign (identifier_text m (port_identifier (j + suc n))) (expr_for (expression m (load_place via)) (slice_get rs (cond b (suc (output_count (take n ps))) (output_count (take n ps)))))) (sym way))
        (second n is)

-- ---- the wires of an instance's results

pub from_wires : (m : Module) (i k : ℕ) (rs : List OpResult) (y : Item) → In y (result_wires m i k rs)
    → (n : ℕ) × (r : OpResult) × (slice_get rs n ≡ Some r) × (y ≡ wire (high_of (width r.type)) (identifier_text m (value_identifier i (k + n))))
from_wires m i k [] y here = absurd here
from_wires m i k (r ∷ rs) y (inl same) = (0, r, refl, same ∙ ap (λ n. wire (high_of (width r.type)) (identifier_text m (value_identifier i n))) (sym (add-zero k)))
from_wires m i k (r ∷ rs) y (inr here) = let h = from_wires m i (suc k) rs y here in
    (suc h.0, h.1, h.2, h.3 ∙ ap (λ n. wire (high_of (width h.1.type)) (identifier_text m (value_identifier i n))) (suc-add k h.0 ∙ sym (add-suc k h.0)))

pub into_wires : (m : Module) (i k : ℕ) (rs : List OpResult) (n : ℕ) (r : OpResult) → slice_get rs n ≡ Some r
    → In (wire (high_of (width r.type)) (identifier_text m (value_identifier i (k + n)))) (result_wires m i k rs)
into_wires m i k [] n r is = cc
into_wires m i k (x ∷ rs) zero r is = inl (let e : x ≡ r = cc in
    ap₂ (λ (z : OpResult) a. wire (high_of (width z.type)) (identifier_text m (value_identifier i a))) (sym e) (add-zero k))
into_wires m i k (x ∷ rs) (suc n) r is =
    inr (subst (λ a. In (wire (high_of (width r.type)) (identifier_text m (value_identifier i a))) (result_wires m i (suc k) rs)) (suc-add k n ∙ sym (add-suc k n)) (into_wires m i (suc k) rs n r is))

-- ---- items

abbrev pub block_at : (via : Lowering) → Module → ℕ → Op → Register → Item
block_at via m i o r = always (name_or_nothing (value_name m r.clock)) (module_block via m (identifier_text m (value_identifier i 0)) r (async_reset_in o))

abbrev pub instance_at : (via : Lowering) → Design → Module → ℕ → Op → Instance → Item
instance_at via d m i o x = instance (symbol_name d x.symbol) (identifier_text m (instance_identifier i)) (connections_to via (find_module d x.symbol) m i o)

pub data From (via : Lowering) (d : Design) (m : Module) (y : Item) : Type 0 where
  net_wire : (i : ℕ) (o : Op) → slice_get m.body i ≡ Some o → emission_of m.ports m.body i o ≡ as_wire
      → y ≡ wire (high_of (width_of (result_type o 0))) (identifier_text m (value_identifier i 0)) → From via d m y
  variable_reg : (i : ℕ) (o : Op) → slice_get m.body i ≡ Some o → emission_of m.ports m.body i o ≡ as_reg
      → y ≡ reg (high_of (width_of (result_type o 0))) (identifier_text m (value_identifier i 0)) → From via d m y
  result_wire : (i k : ℕ) (o : Op) (r : OpResult) → slice_get m.body i ≡ Some o → emission_of m.ports m.body i o ≡ as_instance → slice_get o.results k ≡ Some r
      → y ≡ wire (high_of (width r.type)) (identifier_text m (value_identifier i k)) → From via d m y
  net_assign : (i : ℕ) (o : Op) → slice_get m.body i ≡ Some o → emission_of m.ports m.body i o ≡ as_wire
      → y ≡ assign (identifier_text m (value_identifier i 0)) (assigned_expr via m (result i 0)) → From via d m y
  variable_block : (i : ℕ) (o : Op) (r : Register) → slice_get m.body i ≡ Some o → emission_of m.ports m.body i o ≡ as_reg → register_in o ≡ Some r
      → y ≡ block_at via m i o r → From via d m y
  an_instance : (i : ℕ) (o : Op) (x : Instance) → slice_get m.body i ≡ Some o → emission_of m.ports m.body i o ≡ as_instance → instance_in o.kind ≡ Some x
      → y ≡ instance_at via d m i o x → From via d m y
  output_assign : (j : ℕ) (p : Port) → slice_get m.ports j ≡ Some p → p.is_output ≡ true
      → y ≡ output_item via m j (take j m.ports) (output_refs m.body) → From via d m y

module _ (via : Lowering) (d : Design) (m : Module) where
  pub from_items : (y : Item) → In y (vitems via d m) → From via d m y
  from_items y here = by_part (in_append y (each (declares m) 0 m.body) (each (states via d m) 0 m.body ++ output_assigns via m 0 m.ports (output_refs m.body)) here) where
    declared : (i : ℕ) (o : Op) → slice_get m.body i ≡ Some o → (r : Emission) → emission_of m.ports m.body i o ≡ r → In y (declared_as m i o r) → From via d m y
    declared i o there inline emission within = absurd within
    declared i o there as_wire emission (inl same) = net_wire i o there emission same
    declared i o there as_wire emission (inr never) = absurd never
    declared i o there as_reg emission (inl same) = variable_reg i o there emission same
    declared i o there as_reg emission (inr never) = absurd never
    declared i o there as_instance emission within = let h = from_wires m i 0 o.results y within in
        result_wire i h.0 o h.1 there emission h.2 (h.3 ∙ ap (λ n. wire (high_of (width h.1.type)) (identifier_text m (value_identifier i n))) (zero-add h.0))

    in_block : (i : ℕ) (o : Op) → slice_get m.body i ≡ Some o → emission_of m.ports m.body i o ≡ as_reg → (r : Option Register) → register_in o ≡ r
        → In y (always_of via m (identifier_text m (value_identifier i 0)) (async_reset_in o) r) → From via d m y
    in_block i o there emission None is within = absurd within
    in_block i o there emission (Some r) is (inl same) = variable_block i o r there emission is same
    in_block i o there emission (Some r) is (inr never) = absurd never

    in_instance : (i : ℕ) (o : Op) → slice_get m.body i ≡ Some o → emission_of m.ports m.body i o ≡ as_instance → (x : Option Instance) → instance_in o.kind ≡ x
        → In y (instance_of via d m i o x) → From via d m y
    in_instance i o there emission None is within = absurd within
    in_instance i o there emission (Some x) is (inl same) = an_instance i o x there emission is same
    in_instance i o there emission (Some x) is (inr never) = absurd never

    stated : (i : ℕ) (o : Op) → slice_get m.body i ≡ Some o → (r : Emission) → emission_of m.ports m.body i o ≡ r → In y (stated_as via d m i o r) → From via d m y
    stated i o there inline emission within = absurd within
    stated i o there as_wire emission (inl same) = net_assign i o there emission same
    stated i o there as_wire emission (inr never) = absurd never
    stated i o there as_reg emission within = in_block i o there emission (register_in o) refl within
    stated i o there as_instance emission within = in_instance i o there emission (instance_in o.kind) refl within

    outward : In y (output_assigns via m 0 m.ports (output_refs m.body)) → From via d m y
    outward within = let h = from_outputs via m 0 m.ports (output_refs m.body) y within in
        output_assign h.0 h.1 h.2 h.3 (h.4 ∙ ap (λ n. output_item via m n (take h.0 m.ports) (output_refs m.body)) (zero-add h.0))

    by_rest : In y (each (states via d m) 0 m.body) ⊎ In y (output_assigns via m 0 m.ports (output_refs m.body)) → From via d m y
    by_rest (inl h) = let e = from_each (states via d m) m.body y h in stated e.0 e.1 e.2 (emission_of m.ports m.body e.0 e.1) refl e.3
    by_rest (inr h) = outward h

    by_part : In y (each (declares m) 0 m.body) ⊎ In y (each (states via d m) 0 m.body ++ output_assigns via m 0 m.ports (output_refs m.body)) → From via d m y
    by_part (inl h) = let e = from_each (declares m) m.body y h in declared e.0 e.1 e.2 (emission_of m.ports m.body e.0 e.1) refl e.3
    by_part (inr h) = by_rest (in_append y (each (states via d m) 0 m.body) (output_assigns via m 0 m.ports (output_refs m.body)) h)

  among_declares : (y : Item) (i : ℕ) (o : Op) → slice_get m.body i ≡ Some o → In y (declares m i o) → In y (vitems via d m)
  among_declares y i o there within =
      In-append_left y (each (declares m) 0 m.body) (each (states via d m) 0 m.body ++ output_assigns via m 0 m.ports (output_refs m.body)) (into_each (declares m) m.body y i o there within)

  among_states : (y : Item) (i : ℕ) (o : Op) → slice_get m.body i ≡ Some o → In y (states via d m i o) → In y (vitems via d m)
  among_states y i o there within =
      In-append_right y (each (declares m) 0 m.body) (each (states via d m) 0 m.body ++ output_assigns via m 0 m.ports (output_refs m.body))
      (In-append_left y (each (states via d m) 0 m.body) (output_assigns via m 0 m.ports (output_refs m.body)) (into_each (states via d m) m.body y i o there within))

  among_outputs : (y : Item) → In y (output_assigns via m 0 m.ports (output_refs m.body)) → In y (vitems via d m)
  among_outputs y within =
      In-append_right y (each (declares m) 0 m.body) (each (states via d m) 0 m.body ++ output_assigns via m 0 m.ports (output_refs m.body))
      (In-append_right y (each (states via d m) 0 m.body) (output_assigns via m 0 m.ports (output_refs m.body)) within)

  pub into_items : (y : Item) → From via d m y → In y (vitems via d m)
  into_items y (net_wire i o there emission same) = among_declares y i o there (subst (λ r. In y (declared_as m i o r)) (sym emission) (inl same))
  into_items y (variable_reg i o there emission same) = among_declares y i o there (subst (λ r. In y (declared_as m i o r)) (sym emission) (inl same))
  into_items y (result_wire i k o r there emission found same) = among_declares y i o there (subst (λ x. In y (declared_as m i o x)) (sym emission)
      (subst (λ z. In z (result_wires m i 0 o.results)) (sym (same ∙ ap (λ n. wire (high_of (width r.type)) (identifier_text m (value_identifier i n))) (sym (zero-add k)))) (into_wires m i 0 o.results k r found)))
  into_items y (net_assign i o there emission same) = among_states y i o there (subst (λ r. In y (stated_as via d m i o r)) (sym emission) (inl same))
  into_items y (variable_block i o r there emission is same) = among_states y i o there (subst (λ x. In y (stated_as via d m i o x)) (sym emission)
      (subst (λ x. In y (always_of via m (identifier_text m (value_identifier i 0)) (async_reset_in o) x)) (sym is) (inl same)))
  into_items y (an_instance i o x there emission is same) = among_states y i o there (subst (λ r. In y (stated_as via d m i o r)) (sym emission)
      (subst (λ z. In y (instance_of via d m i o z)) (sym is) (inl same)))
  into_items y (output_assign j p there out same) = among_outputs y
      (subst (λ z. In z (output_assigns via m 0 m.ports (output_refs m.body))) (sym (same ∙ ap (λ n. output_item via m n (take j m.ports) (output_refs m.body)) (sym (zero-add j))))
      (into_outputs via m 0 m.ports (output_refs m.body) j p there out))
