-- Each thing that an exported tree declares has the drivers that are due.
use Rattle.std.proofs.Common.{◌≡◌, ℕ, zero, suc, ◌+◌, ◌⊎◌, Bool, true, false, cond, List, [], ◌∷◌, ◌++◌, map, slice_get, Some, refl, sym, ◌∙◌, ap, ap₂, subst, inl, inr, arith, zero-add, add-zero, suc-add, add-suc, option_map}
use Rattle.std.proofs.lemmas.Bool.{false≢true}
use Rattle.wiring.specs.Wiring.{In}
use Rattle.hw_model.specs.Types.{Name}
use Rattle.hw_model.specs.Design.{Ref, Port, OpResult, Op, Module, Design, same_name, find_module, output_refs}
use Rattle.hw_model.specs.Design.Ref.{result}
use Rattle.hw_model.specs.Equality.{name_self, name_from}
use Rattle.hw_model.specs.Flat.{async_reset_in}
use Rattle.hw_model.specs.Sound.{output_types}
use Rattle.verilog_model.specs.Tree.{Expr, Connection, Item, Tree}
use Rattle.verilog_model.specs.Tree.Expr.{name}
use Rattle.verilog_model.specs.Tree.Item.{assign, always}
use Rattle.verilog_model.specs.Hierarchy.{find_vmodule, find_port, vports_of}
use Rattle.verilog_model.specs.Checks.{outputs_joined, driver_count}
use Rattle.lowering_options.specs.declared.lowering.Lowering.{Lowering}
use Rattle.export_verilog.specs.Lowerings.{load_place, own_place}
use Rattle.export_verilog.specs.Identifiers.{Identifier, Emission, same_identifier, value_name, name_or_nothing, each, emission_of, result_identifiers, identifier_text, module_identifiers}
use Rattle.export_verilog.specs.Identifiers.Identifier.{port_identifier, value_identifier}
use Rattle.export_verilog.specs.Identifiers.Emission.{inline, as_wire, as_reg, as_instance}
use Rattle.export_verilog.specs.Exported.{symbol_name, expression, assigned_expr, expr_or_none, others, vports, vitems, tree_of, result_wires, declared_as, declares, module_block, always_of}
use Rattle.export_verilog.specs.Exported.{connections_of, connections_to, instance_of, stated_as, states, output_assigns}
use Rattle.export_verilog.proofs.names.IdentifierNames.{AreNames, identifier_self, identifier_from, texts_apart}
use Rattle.export_verilog.proofs.names.IdentifiersOf.{in_results, port_in, net_in, variable_in, result_in_identifiers}
use Rattle.export_verilog.proofs.names.Apart.{AreApart, joined_apart}
use Rattle.export_verilog.proofs.names.Symbols.{vmodule_found}
use Rattle.export_verilog.proofs.items.Lookups.{port_under, vport_at}
use Rattle.export_verilog.proofs.items.Settings.{Setting, Called, called_by_emission}
use Rattle.export_verilog.proofs.items.Registers.{module_block_target, register_of}
use Rattle.export_verilog.proofs.checks.Declares.{wire_identifiers, op_wires, each_apart, wires_placed, wires_apart, wire_kind}

-- ---- how often a key stands in a list

abbrev once_if : Bool → ℕ
once_if true = 1
once_if false = 0

abbrev identifier_count : Identifier → List Identifier → ℕ
identifier_count k [] = 0
identifier_count k (a ∷ ks) = once_if (same_identifier a k) + identifier_count k ks

count_joined : (k : Identifier) (ks ls : List Identifier) → identifier_count k (ks ++ ls) ≡ identifier_count k ks + identifier_count k ls
count_joined k [] ls = sym (zero-add (identifier_count k ls))
count_joined k (a ∷ ks) ls = let rest : identifier_count k (ks ++ ls) ≡ identifier_count k ks + identifier_count k ls = count_joined k ks ls in omega (arith, rest)

count_none : (k : Identifier) (ks : List Identifier) → (In k ks → ⊥) → identifier_count k ks ≡ 0
count_none k [] away = refl
count_none k (a ∷ ks) away = go (same_identifier a k) refl (count_none k ks (λ h. away (inr h))) where
  go : (b : Bool) → same_identifier a k ≡ b → identifier_count k ks ≡ 0 → once_if b + identifier_count k ks ≡ 0
  go true e rest = absurd (away (inl (sym (identifier_from a k e))))
  go false e rest = omega (arith, rest)

count_once : (k : Identifier) (ks : List Identifier) → AreApart ks → In k ks → identifier_count k ks ≡ 1
count_once k [] apart here = absurd here
count_once k (a ∷ ks) apart here = go (same_identifier a k) refl here (count_once k ks apart.1) where
  go : (b : Bool) → same_identifier a k ≡ b → (k ≡ a) ⊎ In k ks → (In k ks → identifier_count k ks ≡ 1) → once_if b + identifier_count k ks ≡ 1
  go true e h rest = let none : identifier_count k ks ≡ 0 = count_none k ks (subst (λ z. In z ks → ⊥) (identifier_from a k e) apart.0) in omega (arith, none)
  go false e (inl same) rest = let other : same_identifier a k ≡ true = ap (λ z. same_identifier z k) (sym same) ∙ identifier_self k in cc
  go false e (inr h) rest = let one : identifier_count k ks ≡ 1 = rest h in omega (arith, one)

module _ (via : Lowering) (m : Module) (are : AreNames m) where
  -- texts tell things apart as their keys do
  text_same : (a k : Identifier) → In a (module_identifiers m) → In k (module_identifiers m) → same_name (identifier_text m a) (identifier_text m k) ≡ same_identifier a k
  text_same a k here there = go (same_name (identifier_text m a) (identifier_text m k)) (same_identifier a k) refl refl where
    go : (b c : Bool) → same_name (identifier_text m a) (identifier_text m k) ≡ b → same_identifier a k ≡ c → b ≡ c
    go true true e f = refl
    go false false e f = refl
    go true false e f = let same : a ≡ k = texts_apart m are a k here there (name_from (identifier_text m a) (identifier_text m k) e) in
        let other : same_identifier a k ≡ true = ap (λ z. same_identifier z k) same ∙ identifier_self k in cc
    go false true e f = let other : same_name (identifier_text m a) (identifier_text m k) ≡ true = ap (λ z. same_name (identifier_text m z) (identifier_text m k)) (identifier_from a k f) ∙ name_self (identifier_text m k) in cc

module _ (via : Lowering) (d : Design) (x : Setting d) (s : Name) (m : Module) (is : find_module d s ≡ Some m) (k : Identifier) (here : In k (module_identifiers m)) where
  abbrev t : Tree
  t = tree_of via d

  are : AreNames m
  are = x.names s m is

  n : Name
  n = identifier_text m k

  counts_joined : (xs ys : List Item) → driver_count t (identifier_text m k) (xs ++ ys) ≡ driver_count t (identifier_text m k) xs + driver_count t (identifier_text m k) ys
  counts_joined [] ys = sym (zero-add (driver_count t (identifier_text m k) ys))
  counts_joined (y ∷ xs) ys = let rest : driver_count t (identifier_text m k) (xs ++ ys) ≡ driver_count t (identifier_text m k) xs + driver_count t (identifier_text m k) ys = counts_joined xs ys in omega (arith, rest)

  counts_each : (f : ℕ → Op → List Item) (g : ℕ → Op → List Identifier) (i : ℕ) (os : List Op)
      → ((p : ℕ) (o : Op) → slice_get os p ≡ Some o → driver_count t (identifier_text m k) (f (i + p) o) ≡ identifier_count k (g (i + p) o)) → driver_count t (identifier_text m k) (each f i os) ≡ identifier_count k (each g i os)
  counts_each f g i [] same = refl
  counts_each f g i (o ∷ os) same =
      counts_joined (f i o) (each f (suc i) os)
      ∙ ap₂ (λ a b. a + b) (subst (λ z. driver_count t (identifier_text m k) (f z o) ≡ identifier_count k (g z o)) (add-zero i) (same 0 o refl))
      (counts_each f g (suc i) os (λ p q there. subst (λ z. driver_count t (identifier_text m k) (f z q) ≡ identifier_count k (g z q)) (add-suc i p ∙ sym (suc-add i p)) (same (suc p) q there)))
      ∙ sym (count_joined k (g i o) (each g (suc i) os))

  -- ---- declarations drive nothing

  wires_drive_nothing : (i l : ℕ) (rs : List OpResult) → driver_count t (identifier_text m k) (result_wires m i l rs) ≡ 0
  wires_drive_nothing i l [] = refl
  wires_drive_nothing i l (r ∷ rs) = let rest : driver_count t (identifier_text m k) (result_wires m i (suc l) rs) ≡ 0 = wires_drive_nothing i (suc l) rs in omega (arith, rest)

  declares_nothing : (i : ℕ) (o : Op) → driver_count t (identifier_text m k) (declares m i o) ≡ 0
  declares_nothing i o = go (emission_of m.ports m.body i o) where
    go : (r : Emission) → driver_count t (identifier_text m k) (declared_as m i o r) ≡ 0
    go inline = refl
    go as_wire = refl
    go as_reg = refl
    go as_instance = wires_drive_nothing i 0 o.results

  declarations_drive_nothing : (i : ℕ) (os : List Op) → driver_count t (identifier_text m k) (each (declares m) i os) ≡ 0
  declarations_drive_nothing i [] = refl
  declarations_drive_nothing i (o ∷ os) =
      counts_joined (declares m i o) (each (declares m) (suc i) os) ∙ ap₂ (λ a b. a + b) (declares_nothing i o) (declarations_drive_nothing (suc i) os)

  -- ---- what an instance drives

  abbrev out_identifiers : ℕ → ℕ → List Port → List Identifier
  out_identifiers i l [] = []
  out_identifiers i l (p ∷ ps) = cond p.is_output (value_identifier i l ∷ out_identifiers i (suc l) ps) (out_identifiers i l ps)

  out_identifiers_are : (i l : ℕ) (ps : List Port) (rs : List OpResult) → map (λ (r : OpResult). r.type) rs ≡ output_types ps → out_identifiers i l ps ≡ result_identifiers i l rs
  out_identifiers_are i l [] [] e = refl
  out_identifiers_are i l [] (r ∷ rs) e = cc
  out_identifiers_are i l (p ∷ ps) rs e = go p.is_output rs e (λ qs f. out_identifiers_are i (suc l) ps qs f) (λ f. out_identifiers_are i l ps rs f) where
    go : (b : Bool) (rs : List OpResult) → map (λ (r : OpResult). r.type) rs ≡ cond b (p.type ∷ output_types ps) (output_types ps)
        → ((qs : List OpResult) → map (λ (r : OpResult). r.type) qs ≡ output_types ps → out_identifiers i (suc l) ps ≡ result_identifiers i (suc l) qs)
        → (map (λ (r : OpResult). r.type) rs ≡ output_types ps → out_identifiers i l ps ≡ result_identifiers i l rs)
        → cond b (value_identifier i l ∷ out_identifiers i (suc l) ps) (out_identifiers i l ps) ≡ result_identifiers i l rs
    go true [] e more_of same_of = cc
    go true (r ∷ rs) e more_of same_of = ap (λ z. value_identifier i l ∷ z) (more_of rs (let f : map (λ (q : OpResult). q.type) rs ≡ output_types ps = cc in f))
    go false rs e more_of same_of = same_of e

  joined_count : (i : ℕ) (c : Module) (names : AreNames c) (j l : ℕ) (ps : List Port) (rs : List Ref) → ((p : ℕ) → slice_get ps p ≡ slice_get c.ports (j + p))
      → ((a : Identifier) → In a (out_identifiers i l ps) → In a (module_identifiers m)) → outputs_joined (identifier_text m k) (vports c) (connections_of via c m i j l ps rs) ≡ identifier_count k (out_identifiers i l ps)
  joined_count i c names j l [] rs stands within = refl
  joined_count i c names j l (p ∷ ps) rs stands within =
      go p.is_output refl within (λ h. joined_count i c names (suc j) (suc l) ps rs later h) (λ h. joined_count i c names (suc j) l ps (others rs) later h) where
        later : (q : ℕ) → slice_get ps q ≡ slice_get c.ports (suc j + q)
        later q = stands (suc q) ∙ ap (slice_get c.ports) (add-suc j q ∙ sym (suc-add j q))

        at_here : slice_get c.ports j ≡ Some p
        at_here = sym (stands 0 ∙ ap (slice_get c.ports) (add-zero j))

        port_here : find_port (vports c) (identifier_text c (port_identifier j)) ≡ Some (vport_at c j p)
        port_here = port_under c names (port_identifier j) (port_in c j p at_here) ∙ ap (option_map (vport_at c j)) at_here

        head : Expr → Connection
        head e = record { port = identifier_text c (port_identifier j); value = e }

        driven_head : p.is_output ≡ true → In (value_identifier i l) (module_identifiers m) → (cs : List Connection) → outputs_joined (identifier_text m k) (vports c) (head (name (identifier_text m (value_identifier i l))) ∷ cs)
            ≡ once_if (same_identifier (value_identifier i l) k) + outputs_joined (identifier_text m k) (vports c) cs
        driven_head out in_identifiers cs = simp (port_here, out, text_same via m are (value_identifier i l) k in_identifiers here) (by_identifier (same_identifier (value_identifier i l) k)) where
          by_identifier : (b : Bool) → cond b (suc (outputs_joined (identifier_text m k) (vports c) cs)) (outputs_joined (identifier_text m k) (vports c) cs) ≡ once_if b + outputs_joined (identifier_text m k) (vports c) cs
          by_identifier true = omega arith
          by_identifier false = sym (zero-add (outputs_joined (identifier_text m k) (vports c) cs))

        silent_head : p.is_output ≡ false → (e : Expr) (cs : List Connection) → outputs_joined (identifier_text m k) (vports c) (head e ∷ cs) ≡ outputs_joined (identifier_text m k) (vports c) cs
        silent_head out e cs = simp (port_here, out) refl

        go : (b : Bool) → p.is_output ≡ b → ((a : Identifier) → In a (cond b (value_identifier i l ∷ out_identifiers i (suc l) ps) (out_identifiers i l ps)) → In a (module_identifiers m))
            → (((a : Identifier) → In a (out_identifiers i (suc l) ps) → In a (module_identifiers m)) → outputs_joined (identifier_text m k) (vports c) (connections_of via c m i (suc j) (suc l) ps rs)
            ≡ identifier_count k (out_identifiers i (suc l) ps))
            → (((a : Identifier) → In a (out_identifiers i l ps) → In a (module_identifiers m))
            → outputs_joined (identifier_text m k) (vports c) (connections_of via c m i (suc j) l ps (others rs)) ≡ identifier_count k (out_identifiers i l ps))
            → outputs_joined (identifier_text m k) (vports c) (cond b (head (name (identifier_text m (value_identifier i l))) ∷ connections_of via c m i (suc j) (suc l) ps rs)
            (head (expr_or_none (expression m (own_place via)) rs) ∷ connections_of via c m i (suc j) l ps (others rs)))
            ≡ identifier_count k (cond b (value_identifier i l ∷ out_identifiers i (suc l) ps) (out_identifiers i l ps))
        go true out all first second =
            driven_head out (all (value_identifier i l) (inl refl)) (connections_of via c m i (suc j) (suc l) ps rs)
            ∙ ap (λ z. once_if (same_identifier (value_identifier i l) k) + z) (first (λ a h. all a (inr h)))
        go false out all first second = silent_head out (expr_or_none (expression m (own_place via)) rs) (connections_of via c m i (suc j) l ps (others rs)) ∙ second all

  -- ---- what an operation's statement drives

  one_driven : (a : Identifier) (y : Item) → In a (module_identifiers m) → driver_count t (identifier_text m k) (y ∷ []) ≡ cond (same_name (identifier_text m a) (identifier_text m k)) 1 0 + 0
      → driver_count t (identifier_text m k) (y ∷ []) ≡ identifier_count k (a ∷ [])
  one_driven a y in_identifiers e = e ∙ by_identifier (same_identifier a k) (text_same via m are a k in_identifiers here) where
    by_identifier : (b : Bool) → same_name (identifier_text m a) (identifier_text m k) ≡ b → cond (same_name (identifier_text m a) (identifier_text m k)) 1 0 + 0 ≡ once_if b + 0
    by_identifier true f = ap (λ z. cond z 1 0 + 0) f
    by_identifier false f = ap (λ z. cond z 1 0 + 0) f

  states_drive : (i : ℕ) (o : Op) → slice_get m.body i ≡ Some o → driver_count t (identifier_text m k) (states via d m i o) ≡ identifier_count k (op_wires via m i o)
  states_drive i o there = go (emission_of m.ports m.body i o) refl where
    go : (r : Emission) → emission_of m.ports m.body i o ≡ r → driver_count t (identifier_text m k) (stated_as via d m i o r) ≡ identifier_count k (wire_identifiers r i o)
    go inline emission = refl
    go as_wire emission = one_driven (value_identifier i 0) (assign (identifier_text m (value_identifier i 0)) (assigned_expr via m (result i 0))) (net_in m i o there emission) refl
    go as_reg emission = let r = register_of d x s m is i o there emission in
        ap (λ z. driver_count t (identifier_text m k) (always_of via m (identifier_text m (value_identifier i 0)) (async_reset_in o) z)) r.1
        ∙ one_driven (value_identifier i 0) (always (name_or_nothing (value_name m r.0.clock)) (module_block via m (identifier_text m (value_identifier i 0)) r.0 (async_reset_in o))) (variable_in m i o there emission)
        (ap (λ z. cond (same_name z (identifier_text m k)) 1 0 + 0) (module_block_target via m (identifier_text m (value_identifier i 0)) r.0 (async_reset_in o)))
    go as_instance emission =
        let c : Called d m o = called_by_emission d x s m is i o there emission in
        let identifiers : out_identifiers i 0 c.module_of.ports ≡ result_identifiers i 0 o.results = out_identifiers_are i 0 c.module_of.ports o.results c.outputs in
        ap (λ z. driver_count t (identifier_text m k) (instance_of via d m i o z)) c.is_kind
        ∙ add-zero (outputs_joined (identifier_text m k) (vports_of (find_vmodule t (symbol_name d c.kind.symbol))) (connections_to via (find_module d c.kind.symbol) m i o))
        ∙ ap₂ (λ a b. outputs_joined (identifier_text m k) (vports_of a) (connections_to via b m i o)) (vmodule_found d x.ok x.symbols via c.kind.symbol c.module_of c.there) c.there
        ∙ joined_count i c.module_of (x.names c.kind.symbol c.module_of c.there) 0 0 c.module_of.ports o.operands (λ p. ap (slice_get c.module_of.ports) (sym (zero-add p)))
        (λ a h. let e = in_results i 0 o.results a (subst (λ z. In a z) identifiers h) in
        subst (λ z. In z (module_identifiers m)) (sym (e.3 ∙ ap (value_identifier i) (zero-add e.0))) (result_in_identifiers m i e.0 o e.1 there emission e.2))
        ∙ ap (identifier_count k) identifiers

  -- ---- what the outputs' assignments drive

  abbrev pub output_identifiers : ℕ → List Port → List Identifier
  output_identifiers j [] = []
  output_identifiers j (p ∷ ps) = cond p.is_output (port_identifier j ∷ output_identifiers (suc j) ps) (output_identifiers (suc j) ps)

  outputs_drive : (j : ℕ) (ps : List Port) (rs : List Ref) → ((a : Identifier) → In a (output_identifiers j ps) → In a (module_identifiers m))
      → driver_count t (identifier_text m k) (output_assigns via m j ps rs) ≡ identifier_count k (output_identifiers j ps)
  outputs_drive j [] rs within = refl
  outputs_drive j (p ∷ ps) rs within = go p.is_output within (λ h. outputs_drive (suc j) ps (others rs) h) (λ h. outputs_drive (suc j) ps rs h) where
    by_identifier : (b c : Bool) → b ≡ c → cond b 1 0 ≡ once_if c
    by_identifier true c e = ap once_if e
    by_identifier false c e = ap once_if e

    go : (b : Bool) → ((a : Identifier) → In a (cond b (port_identifier j ∷ output_identifiers (suc j) ps) (output_identifiers (suc j) ps)) → In a (module_identifiers m))
        → (((a : Identifier) → In a (output_identifiers (suc j) ps) → In a (module_identifiers m)) → driver_count t (identifier_text m k) (output_assigns via m (suc j) ps (others rs)) ≡ identifier_count k (output_identifiers (suc j) ps))
        → (((a : Identifier) → In a (output_identifiers (suc j) ps) → In a (module_identifiers m)) → driver_count t (identifier_text m k) (output_assigns via m (suc j) ps rs) ≡ identifier_count k (output_identifiers (suc j) ps))
        → driver_count t (identifier_text m k) (cond b (assign (identifier_text m (port_identifier j)) (expr_or_none (expression m (load_place via)) rs) ∷ output_assigns via m (suc j) ps (others rs)) (output_assigns via m (suc j) ps rs))
        ≡ identifier_count k (cond b (port_identifier j ∷ output_identifiers (suc j) ps) (output_identifiers (suc j) ps))
    go true all first second =
        ap₂ (λ a b. a + b) (by_identifier (same_name (identifier_text m (port_identifier j)) (identifier_text m k)) (same_identifier (port_identifier j) k)
        (text_same via m are (port_identifier j) k (all (port_identifier j) (inl refl)) here))
        (first (λ a h. all a (inr h)))
    go false all first second = second all

  -- ---- what the whole module drives

  abbrev pub driven_identifiers : List Identifier
  driven_identifiers = each (op_wires via m) 0 m.body ++ output_identifiers 0 m.ports

  pub output_among : (j : ℕ) (ps : List Port) (a : Identifier) → In a (output_identifiers j ps) → (n : ℕ) × (p : Port) × (slice_get ps n ≡ Some p) × (p.is_output ≡ true) × (a ≡ port_identifier (j + n))
  output_among j [] a h = absurd h
  output_among j (p ∷ ps) a h = go p.is_output refl h (output_among (suc j) ps a) where
    moved : (n : ℕ) (q : Port) → slice_get ps n ≡ Some q → q.is_output ≡ true → a ≡ port_identifier (suc j + n) → (n : ℕ) × (q : Port) × (slice_get (p ∷ ps) n ≡ Some q) × (q.is_output ≡ true) × (a ≡ port_identifier (j + n))
    moved n q at out e = (suc n, q, at, out, e ∙ ap port_identifier (suc-add j n ∙ sym (add-suc j n)))

    go : (b : Bool) → p.is_output ≡ b → In a (cond b (port_identifier j ∷ output_identifiers (suc j) ps) (output_identifiers (suc j) ps))
        → (In a (output_identifiers (suc j) ps) → (n : ℕ) × (q : Port) × (slice_get ps n ≡ Some q) × (q.is_output ≡ true) × (a ≡ port_identifier (suc j + n)))
        → (n : ℕ) × (q : Port) × (slice_get (p ∷ ps) n ≡ Some q) × (q.is_output ≡ true) × (a ≡ port_identifier (j + n))
    go true out (inl e) rest = (0, p, refl, out, e ∙ ap port_identifier (sym (add-zero j)))
    go true out (inr u) rest = let e = rest u in moved e.0 e.1 e.2 e.3 e.4
    go false out u rest = let e = rest u in moved e.0 e.1 e.2 e.3 e.4

  pub among_output : (j : ℕ) (ps : List Port) (n : ℕ) (p : Port) → slice_get ps n ≡ Some p → p.is_output ≡ true → In (port_identifier (j + n)) (output_identifiers j ps)
  among_output j [] n p at out = cc
  among_output j (q ∷ ps) n p at out = go q.is_output refl n at (λ l u. among_output (suc j) ps l p u out) where
    go : (b : Bool) → q.is_output ≡ b → (n : ℕ) → slice_get (q ∷ ps) n ≡ Some p → ((l : ℕ) → slice_get ps l ≡ Some p → In (port_identifier (suc j + l)) (output_identifiers (suc j) ps))
        → In (port_identifier (j + n)) (cond b (port_identifier j ∷ output_identifiers (suc j) ps) (output_identifiers (suc j) ps))
    go true way zero at rest = inl (ap port_identifier (add-zero j))
    go true way (suc n) at rest = inr (subst (λ z. In (port_identifier z) (output_identifiers (suc j) ps)) (suc-add j n ∙ sym (add-suc j n)) (rest n at))
    go false way zero at rest = let e : q ≡ p = cc in absurd (false≢true (sym way ∙ ap (λ (z : Port). z.is_output) e ∙ out))
    go false way (suc n) at rest = subst (λ z. In (port_identifier z) (output_identifiers (suc j) ps)) (suc-add j n ∙ sym (add-suc j n)) (rest n at)

  outputs_apart : (j : ℕ) (ps : List Port) → AreApart (output_identifiers j ps)
  outputs_apart j [] = tt
  outputs_apart j (p ∷ ps) = go p.is_output (outputs_apart (suc j) ps) where
    clash : (n : ℕ) → port_identifier j ≡ port_identifier (suc j + n) → ⊥
    clash n e = let f : j ≡ suc j + n = cc in omega (arith, f)

    go : (b : Bool) → AreApart (output_identifiers (suc j) ps) → AreApart (cond b (port_identifier j ∷ output_identifiers (suc j) ps) (output_identifiers (suc j) ps))
    go true rest = ((λ h. let e = output_among (suc j) ps (port_identifier j) h in clash e.0 e.4), rest)
    go false rest = rest

  output_within : (a : Identifier) → In a (output_identifiers 0 m.ports) → In a (module_identifiers m)
  output_within a h = let e = output_among 0 m.ports a h in subst (λ z. In z (module_identifiers m)) (sym (e.4 ∙ ap port_identifier (zero-add e.0))) (port_in m e.0 e.1 e.2)

  driven_apart : AreApart driven_identifiers
  driven_apart =
      joined_apart (each (op_wires via m) 0 m.body) (output_identifiers 0 m.ports) (each_apart (op_wires via m) (wires_placed via m) (wires_apart via m) 0 m.body) (outputs_apart 0 m.ports)
      (λ a u v. let b = wire_kind via m a u in let c = output_among 0 m.ports a v in clash b.0 b.1 (0 + c.0) (sym b.2 ∙ c.4)) where
        clash : (i l j : ℕ) → value_identifier i l ≡ port_identifier j → ⊥
        clash i l j e = cc

  pub drivers_are : driver_count t (identifier_text m k) (vitems via d m) ≡ identifier_count k driven_identifiers
  drivers_are =
      counts_joined (each (declares m) 0 m.body) (each (states via d m) 0 m.body ++ output_assigns via m 0 m.ports (output_refs m.body))
      ∙ ap₂ (λ a b. a + b) (declarations_drive_nothing 0 m.body)
      (counts_joined (each (states via d m) 0 m.body) (output_assigns via m 0 m.ports (output_refs m.body))
      ∙ ap₂ (λ a b. a + b) (counts_each (states via d m) (op_wires via m) 0 m.body (λ p o there. subst
      (λ z. driver_count t (identifier_text m k) (states via d m z o) ≡ identifier_count k (op_wires via m z o)) (sym (zero-add p)) (states_drive p o there)))
      (outputs_drive 0 m.ports (output_refs m.body) output_within)
      ∙ sym (count_joined k (each (op_wires via m) 0 m.body) (output_identifiers 0 m.ports)))
      ∙ zero-add (identifier_count k driven_identifiers)

  -- a wire, a variable and an output port have one driver
  pub driven_once : In k driven_identifiers → driver_count t (identifier_text m k) (vitems via d m) ≡ 1
  driven_once h = drivers_are ∙ count_once k driven_identifiers driven_apart h

  -- anything else has none
  pub driven_never : (In k driven_identifiers → ⊥) → driver_count t (identifier_text m k) (vitems via d m) ≡ 0
  driven_never away = drivers_are ∙ count_none k driven_identifiers away
