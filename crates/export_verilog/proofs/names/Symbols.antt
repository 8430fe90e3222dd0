-- The names of modules: each symbol's module is found under its name, and no other.
use Rattle.std.proofs.Common.{◌≡◌, ℕ, zero, suc, Bool, true, false, cond, not, ◌&&◌, List, [], ◌∷◌, length, slice_get, Some, refl, sym, ◌∙◌, ap, subst, IsTrue, arith}
use Rattle.wiring.specs.Wiring.{In}
use Rattle.wiring.proofs.Members.{In-map, from_In-map, In-slice_get, position_of_In}
use Rattle.hw_model.specs.Types.{Name}
use Rattle.hw_model.specs.Design.{Module, Design, same_name, find_module}
use Rattle.hw_model.specs.Equality.{name_self, name_from}
use Rattle.verilog_model.specs.Tree.{VModule}
use Rattle.verilog_model.specs.Hierarchy.{when, find_vmodule}
use Rattle.verilog_model.specs.Checks.{contains_name, are_distinct, names_check, all_identifiers}
use Rattle.verilog_model.proofs.Numerals.{and_first, and_second}
use Rattle.lowering_options.specs.declared.lowering.Lowering.{Lowering}
use Rattle.export_verilog.specs.Exported.{symbol_names, symbol_among, symbol_name, vmodule, tree_of}
use Rattle.export_verilog.specs.Exportable.{IsExportable}
use Rattle.export_verilog.proofs.items.Lists.{first_found}
use Rattle.export_verilog.proofs.names.IdentifierNames.{contains_in}

pub when_some : {A : Type 0} (b : Bool) (a c : A) → when b a ≡ Some c → (b ≡ true) × (a ≡ c)
when_some true a c e = (refl, cc)
when_some false a c e = cc

-- ---- distinct names

pub distinct_positions : (ns : List Name) (i j : ℕ) (n : Name) → IsTrue (are_distinct ns) → slice_get ns i ≡ Some n → slice_get ns j ≡ Some n → i ≡ j
distinct_positions [] i j n apart here there = cc
distinct_positions (m ∷ ns) i j n apart here there = go i j here there
    (λ a b. distinct_positions ns a b n (and_second (not (contains_name m ns)) (are_distinct ns) apart)) where
      away : (c e : Bool) → IsTrue (not c && e) → c ≡ true → ⊥
      away true e t is = cc
      away false e t is = cc

      never : (k : ℕ) → m ≡ n → slice_get ns k ≡ Some n → ⊥
      never k same at = away (contains_name m ns) (are_distinct ns) apart
          (contains_in m ns (subst (λ x. In x ns) (sym same) (In-slice_get n ns k at)))

      go : (i j : ℕ) → slice_get (m ∷ ns) i ≡ Some n → slice_get (m ∷ ns) j ≡ Some n
          → ((a b : ℕ) → slice_get ns a ≡ Some n → slice_get ns b ≡ Some n → a ≡ b) → i ≡ j
      go zero zero here there rest = refl
      go zero (suc j) here there rest = absurd (never j (let same : m ≡ n = cc in same) there)
      go (suc i) zero here there rest = absurd (never i (let same : m ≡ n = cc in same) here)
      go (suc i) (suc j) here there rest = ap suc (rest i j here there)

-- ---- modules by symbol

pub found_symbol : (d : Design) (s : Name) (m : Module) → find_module d s ≡ Some m → (i : ℕ) × (slice_get d i ≡ Some m) × (m.symbol ≡ s)
found_symbol [] s m is = cc
found_symbol (x ∷ d) s m is = go (same_name x.symbol s) refl is (found_symbol d s m) where
  go : (b : Bool) → same_name x.symbol s ≡ b → cond b (Some x) (find_module d s) ≡ Some m
      → (find_module d s ≡ Some m → (i : ℕ) × (slice_get d i ≡ Some m) × (m.symbol ≡ s)) → (i : ℕ) × (slice_get (x ∷ d) i ≡ Some m) × (m.symbol ≡ s)
  go true same found rest = let e : x ≡ m = cc in (0, found, ap (λ (y : Module). y.symbol) (sym e) ∙ name_from x.symbol s same)
  go false same found rest = let h = rest found in (suc h.0, h.1, h.2)

-- a symbol that stands once finds its module
pub found_at : (d : Design) (i : ℕ) (m : Module) → slice_get d i ≡ Some m → ((j : ℕ) (x : Module) → slice_get d j ≡ Some x → x.symbol ≡ m.symbol → j ≡ i)
    → find_module d m.symbol ≡ Some m
found_at [] i m is only = cc
found_at (x ∷ d) zero m is only = let e : x ≡ m = cc in
    ap (λ b. cond b (Some x) (find_module d m.symbol)) (ap (λ (y : Module). same_name y.symbol m.symbol) e ∙ name_self m.symbol) ∙ is
found_at (x ∷ d) (suc i) m is only = go (same_name x.symbol m.symbol) refl
    (found_at d i m is (λ j y at same. let e : suc j ≡ suc i = only (suc j) y at same in omega arith)) where
      go : (b : Bool) → same_name x.symbol m.symbol ≡ b → find_module d m.symbol ≡ Some m → cond b (Some x) (find_module d m.symbol) ≡ Some m
      go true same rest = absurd (let e : 0 ≡ suc i = only 0 x refl (name_from x.symbol m.symbol same) in omega arith)
      go false same rest = rest

pub among_at : (ms : List Module) (ns : List Name) (i : ℕ) (m : Module) → length ns ≡ length ms → slice_get ms i ≡ Some m
    → ((j : ℕ) (x : Module) → slice_get ms j ≡ Some x → x.symbol ≡ m.symbol → j ≡ i) → slice_get ns i ≡ Some (symbol_among ms ns m.symbol)
among_at [] ns i m many is only = cc
among_at (x ∷ ms) [] i m many is only = cc
among_at (x ∷ ms) (n ∷ ns) zero m many is only = let e : x ≡ m = cc in
    ap (λ b. Some (cond b n (symbol_among ms ns m.symbol))) (sym (ap (λ (y : Module). same_name y.symbol m.symbol) e ∙ name_self m.symbol))
among_at (x ∷ ms) (n ∷ ns) (suc i) m many is only = go (same_name x.symbol m.symbol) refl
    (among_at ms ns i m (let e : length ns ≡ length ms = omega (arith, many) in e) is (λ j y at same. let e : suc j ≡ suc i = only (suc j) y at same in omega arith)) where
      go : (b : Bool) → same_name x.symbol m.symbol ≡ b → slice_get ns i ≡ Some (symbol_among ms ns m.symbol)
          → slice_get ns i ≡ Some (cond b n (symbol_among ms ns m.symbol))
      go true same rest = absurd (let e : 0 ≡ suc i = only 0 x refl (name_from x.symbol m.symbol same) in omega arith)
      go false same rest = rest

-- ---- the names of a design's modules

-- the names are as many as the modules, legal and distinct
pub record AreSymbols (d : Design) : Type 0 where
  pub many : length (symbol_names d) ≡ length d
  pub check : IsTrue (names_check (symbol_names d))

module _ (d : Design) (x : IsExportable d) where
  pub module_at_position : (i : ℕ) (m : Module) → slice_get d i ≡ Some m → find_module d m.symbol ≡ Some m
  module_at_position i m is = found_at d i m is (λ j y at same. x.distinct j i y m at is same)

  module _ (are : AreSymbols d) where
    pub symbol_at : (i : ℕ) (m : Module) → slice_get d i ≡ Some m → slice_get (symbol_names d) i ≡ Some (symbol_name d m.symbol)
    symbol_at i m is = among_at d (symbol_names d) i m are.many is (λ j y at same. x.distinct j i y m at is same)

    -- two modules of one name are one
    pub symbols_apart : (i j : ℕ) (m n : Module) → slice_get d i ≡ Some m → slice_get d j ≡ Some n → symbol_name d m.symbol ≡ symbol_name d n.symbol → i ≡ j
    symbols_apart i j m n here there same =
        distinct_positions (symbol_names d) i j (symbol_name d n.symbol) (and_first (are_distinct (symbol_names d)) (all_identifiers (symbol_names d)) are.check)
        (symbol_at i m here ∙ ap (λ (y : Name). Some y) same) (symbol_at j n there)

    pub vmodule_found : (via : Lowering) (s : Name) (m : Module) → find_module d s ≡ Some m → find_vmodule (tree_of via d) (symbol_name d s) ≡ Some (vmodule via d m)
    vmodule_found via s m is = let at = found_symbol d s m is in
        first_found (λ (v : VModule). when (same_name v.name (symbol_name d s)) v) (vmodule via d m) (tree_of via d) (vmodule via d m)
        (In-map (vmodule via d) m d (In-slice_get m d at.0 at.1))
        (ap (λ b. when b (vmodule via d m)) (ap (λ y. same_name (symbol_name d y) (symbol_name d s)) at.2 ∙ name_self (symbol_name d s)))
        (λ v w here gives. only at.0 at.1 at.2 v w here gives) where
          only : (i : ℕ) → slice_get d i ≡ Some m → m.symbol ≡ s → (v w : VModule) → In v (tree_of via d) → when (same_name v.name (symbol_name d s)) v ≡ Some w → w ≡ vmodule via d m
          only i there named v w here gives =
              let h = when_some (same_name v.name (symbol_name d s)) v w gives in
              let f = from_In-map (vmodule via d) v d here in
              let p = position_of_In f.0 d f.1 in
              let same : symbol_name d f.0.symbol ≡ symbol_name d m.symbol =
              ap (λ (y : VModule). y.name) (sym f.2) ∙ name_from v.name (symbol_name d s) h.0 ∙ ap (symbol_name d) (sym named) in
              let e : p.0 ≡ i = symbols_apart p.0 i f.0 m p.1 there same in
              let g : Some f.0 ≡ Some m = sym p.1 ∙ ap (slice_get d) e ∙ there in
              let k : f.0 ≡ m = cc in
              sym h.1 ∙ f.2 ∙ ap (vmodule via d) k
