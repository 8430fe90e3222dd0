-- Lists of things of which none stands twice have distinct names.
use Rattle.std.proofs.Common.{◌≡◌, ℕ, suc, ◌+◌, ◌⊎◌, Bool, true, false, not, cond, ◌||◌, List, [], ◌∷◌, ◌++◌, map, slice_get, Some, refl, sym, ◌∙◌, ap, subst, inl, inr, arith, add-zero, zero-add, suc-add, add-suc}
use Rattle.wiring.specs.Wiring.{In}
use Rattle.hw_model.specs.Design.{Port, Ref, Module, same_name}
use Rattle.hw_model.specs.Equality.{name_from}
use Rattle.verilog_model.specs.Tree.{Expr, Connection}
use Rattle.verilog_model.specs.Tree.Expr.{name}
use Rattle.verilog_model.specs.Checks.{contains_name, are_distinct}
use Rattle.verilog_model.proofs.Numerals.{and_intro}
use Rattle.lowering_options.specs.declared.lowering.Lowering.{Lowering}
use Rattle.export_verilog.specs.Lowerings.{own_place}
use Rattle.export_verilog.specs.Identifiers.{Identifier, identifier_text, module_identifiers}
use Rattle.export_verilog.specs.Identifiers.Identifier.{port_identifier, value_identifier}
use Rattle.export_verilog.specs.Exported.{expression, expr_or_none, connections_of, others}
use Rattle.export_verilog.proofs.items.Lists.{in_append}
use Rattle.export_verilog.proofs.names.IdentifierNames.{AreNames, texts_apart}
use Rattle.export_verilog.proofs.names.IdentifiersOf.{port_in}

-- no element stands twice
abbrev pub AreApart : {A : Type 0} → List A → Type 0
AreApart [] = Unit {0}
AreApart (k ∷ ks) = (In k ks → ⊥) × AreApart ks

-- joined lists without a common element
pub joined_apart : {A : Type 0} (ks ls : List A) → AreApart ks → AreApart ls → ((k : A) → In k ks → In k ls → ⊥) → AreApart (ks ++ ls)
joined_apart [] ls a b disjoint = b
joined_apart (k ∷ ks) ls a b disjoint =
    ((λ h. away (in_append k ks ls h)), joined_apart ks ls a.1 b (λ l u v. disjoint l (inr u) v)) where
      away : In k ks ⊎ In k ls → ⊥
      away (inl h) = a.0 h
      away (inr h) = disjoint k (inl refl) h

-- ---- names

-- a name that is no thing's text
pub not_contained : (m : Module) (k : Identifier) (ks : List Identifier) → ((l : Identifier) → In l ks → identifier_text m k ≡ identifier_text m l → ⊥) → contains_name (identifier_text m k) (map (identifier_text m) ks) ≡ false
not_contained m k [] away = refl
not_contained m k (l ∷ ks) away = go (same_name (identifier_text m l) (identifier_text m k)) refl (not_contained m k ks (λ h u e. away h (inr u) e)) where
  go : (b : Bool) → same_name (identifier_text m l) (identifier_text m k) ≡ b → contains_name (identifier_text m k) (map (identifier_text m) ks) ≡ false → (b || contains_name (identifier_text m k) (map (identifier_text m) ks)) ≡ false
  go true e rest = absurd (away l (inl refl) (sym (name_from (identifier_text m l) (identifier_text m k) e)))
  go false e rest = rest

pub texts_distinct : (m : Module) (are : AreNames m) (ks : List Identifier) → ((k : Identifier) → In k ks → In k (module_identifiers m)) → AreApart ks → are_distinct (map (identifier_text m) ks) ≡ true
texts_distinct m are [] within apart = refl
texts_distinct m are (k ∷ ks) within apart =
    and_intro (not (contains_name (identifier_text m k) (map (identifier_text m) ks))) (are_distinct (map (identifier_text m) ks))
    (ap not (not_contained m k ks (λ l here e. apart.0 (subst (λ z. In z ks) (sym (texts_apart m are k l (within k (inl refl)) (within l (inr here)) e)) here))))
    (texts_distinct m are ks (λ l h. within l (inr h)) apart.1)

-- ---- the ports of a module

-- the keys of so many ports from one on
unfoldable pub port_identifiers_from : ℕ → List Port → List Identifier
port_identifiers_from j [] = []
port_identifiers_from j (p ∷ ps) = port_identifier j ∷ port_identifiers_from (suc j) ps

pub port_identifiers_above : (j : ℕ) (ps : List Port) (k : Identifier) → In k (port_identifiers_from j ps) → (n : ℕ) × (p : Port) × (slice_get ps n ≡ Some p) × (k ≡ port_identifier (j + n))
unfolding port_identifiers_from
port_identifiers_above j [] k here = absurd here
port_identifiers_above j (p ∷ ps) k (inl same) = (0, p, refl, same ∙ ap port_identifier (sym (add-zero j)))
port_identifiers_above j (p ∷ ps) k (inr here) = let h = port_identifiers_above (suc j) ps k here in
    (suc h.0, h.1, h.2, h.3 ∙ ap port_identifier (suc-add j h.0 ∙ sym (add-suc j h.0)))

pub port_identifiers_apart : (j : ℕ) (ps : List Port) → AreApart (port_identifiers_from j ps)
unfolding port_identifiers_from
port_identifiers_apart j [] = tt
port_identifiers_apart j (p ∷ ps) =
    ((λ h. let e = port_identifiers_above (suc j) ps (port_identifier j) h in clash e.0 e.3), port_identifiers_apart (suc j) ps) where
      clash : (n : ℕ) → port_identifier j ≡ port_identifier (suc j + n) → ⊥
      clash n e = let f : j ≡ suc j + n = cc in omega (arith, f)

pub port_identifiers_within : (m : Module) (k : Identifier) → In k (port_identifiers_from 0 m.ports) → In k (module_identifiers m)
port_identifiers_within m k here = let e = port_identifiers_above 0 m.ports k here in
    subst (λ z. In z (module_identifiers m)) (sym (e.3 ∙ ap port_identifier (zero-add e.0))) (port_in m e.0 e.1 e.2)

-- the ports that an instance joins
pub connected_ports : (via : Lowering) (c m : Module) (i j k : ℕ) (ps : List Port) (rs : List Ref) → map (λ (y : Connection). y.port) (connections_of via c m i j k ps rs) ≡ map (identifier_text c) (port_identifiers_from j ps)
unfolding port_identifiers_from
connected_ports via c m i j k [] rs = refl
connected_ports via c m i j k (p ∷ ps) rs = go p.is_output (connected_ports via c m i (suc j) (suc k) ps rs) (connected_ports via c m i (suc j) k ps (others rs)) where
  head : Expr → Connection
  head e = record { port = identifier_text c (port_identifier j); value = e }

  go : (b : Bool) → map (λ (y : Connection). y.port) (connections_of via c m i (suc j) (suc k) ps rs) ≡ map (identifier_text c) (port_identifiers_from (suc j) ps)
      → map (λ (y : Connection). y.port) (connections_of via c m i (suc j) k ps (others rs)) ≡ map (identifier_text c) (port_identifiers_from (suc j) ps)
      → map (λ (y : Connection). y.port) (cond b (head (name (identifier_text m (value_identifier i k))) ∷ connections_of via c m i (suc j) (suc k) ps rs)
      (head (expr_or_none (expression m (own_place via)) rs) ∷ connections_of via c m i (suc j) k ps (others rs)))
      ≡ identifier_text c (port_identifier j) ∷ map (identifier_text c) (port_identifiers_from (suc j) ps)
  go true x y = ap (λ z. identifier_text c (port_identifier j) ∷ z) x
  go false x y = ap (λ z. identifier_text c (port_identifier j) ∷ z) y

pub ports_distinct : (via : Lowering) (c m : Module) (are : AreNames c) (i : ℕ) (rs : List Ref) → are_distinct (map (λ (y : Connection). y.port) (connections_of via c m i 0 0 c.ports rs)) ≡ true
ports_distinct via c m are i rs =
    ap are_distinct (connected_ports via c m i 0 0 c.ports rs)
    ∙ texts_distinct c are (port_identifiers_from 0 c.ports) (port_identifiers_within c) (port_identifiers_apart 0 c.ports)
