-- Whose a net of the tree is: from a map of a design's nets to one of its tree's.
use Rattle.std.proofs.Common.{◌≡◌, ℕ, ◌⊎◌, true, false, cond, [], take, slice_get, Option, Some, None, refl, sym, ◌∙◌, ap, ap₂, subst, inl, inr}
use Rattle.wiring.specs.Wiring.{In}
use Rattle.bits_core.specs.Word.{Word}
use Rattle.hw_model.specs.Types.{Name}
use Rattle.hw_model.specs.Design.{Ref, Port, Module, Design, find_module, output_refs}
use Rattle.hw_model.specs.Design.Ref.{port, result, undefined}
use Rattle.hw_model.specs.Flat.{Path, Net, net as at, module_at}
use Rattle.verilog_model.specs.Hierarchy.{VNet, vnet, drive, drive_at, vmodule_at}
use Rattle.verilog_model.specs.Hierarchy.Drive.{nothing}
use Rattle.lowering_options.specs.declared.lowering.Lowering.{Lowering}
use Rattle.export_verilog.specs.Identifiers.{Identifier, module_identifiers, identifier_text}
use Rattle.export_verilog.specs.Identifiers.Identifier.{port_identifier, value_identifier, instance_identifier}
use Rattle.export_verilog.specs.Exported.{symbol_name, vmodule, tree_of}
use Rattle.export_verilog.proofs.names.IdentifierNames.{texts_apart}
use Rattle.export_verilog.proofs.items.Items.{output_count}
use Rattle.export_verilog.proofs.items.Settings.{Setting}
use Rattle.export_verilog.proofs.behaviour.Positions.{vpath_of, names_at_path, vposition, paths_apart, identifier_of_name, PathOf, path_of}
use Rattle.export_verilog.proofs.behaviour.Positions.PathOf.{a_path, no_path}
use Rattle.export_verilog.proofs.behaviour.Nets.{no_drive_here}

module _ (via : Lowering) (d : Design) (x : Setting d) (top : Name) (m0 : Module) (top_is : find_module d top ≡ Some m0) where
  -- ---- what a net shows

  abbrev pub or_undefined : Option Ref → Ref
  or_undefined None = undefined
  or_undefined (Some r) = r

  abbrev pub port_shows : Module → ℕ → Option Port → Ref
  port_shows m j None = undefined
  port_shows m j (Some y) = cond y.is_output (or_undefined (slice_get (output_refs m.body) (output_count (take j m.ports)))) (port j)

  -- the value that a thing's net shows
  abbrev pub shown_ref : Module → Identifier → Ref
  shown_ref m (port_identifier j) = port_shows m j (slice_get m.ports j)
  shown_ref m (value_identifier i k) = result i k
  shown_ref m (instance_identifier i) = undefined

  pub input_shows : (m : Module) (j : ℕ) (y : Port) → slice_get m.ports j ≡ Some y → y.is_output ≡ false → shown_ref m (port_identifier j) ≡ port j
  input_shows m j y there inward = ap (port_shows m j) there ∙ ap (λ b. cond b (or_undefined (slice_get (output_refs m.body) (output_count (take j m.ports)))) (port j)) inward

  pub output_shows : (m : Module) (j : ℕ) (y : Port) (r : Ref) → slice_get m.ports j ≡ Some y → y.is_output ≡ true → slice_get (output_refs m.body) (output_count (take j m.ports)) ≡ Some r
      → shown_ref m (port_identifier j) ≡ r
  output_shows m j y r there out gives = ap (port_shows m j) there ∙ ap (λ b. cond b (or_undefined (slice_get (output_refs m.body) (output_count (take j m.ports)))) (port j)) out ∙ ap or_undefined gives

  -- whose a net of the tree is
  data Whose (v : VNet) : Type 0 where
    owned_by : (p : Path) (m : Module) → module_at d top p ≡ Some m → (k : Identifier) → In k (module_identifiers m) → v.path ≡ vpath_of d top p → v.name ≡ identifier_text m k → Whose v
    unowned : drive (tree_of via d) (symbol_name d top) v ≡ nothing
        → ((p : Path) (m : Module) (k : Identifier) → module_at d top p ≡ Some m → In k (module_identifiers m) → v.path ≡ vpath_of d top p → v.name ≡ identifier_text m k → ⊥) → Whose v

  whose : (v : VNet) → Whose v
  whose v = by_path (path_of via d x top m0 top_is v.path) where
    by_identifier : (p : Path) (m : Module) → module_at d top p ≡ Some m → vpath_of d top p ≡ v.path
        → ((k : Identifier) × In k (module_identifiers m) × (v.name ≡ identifier_text m k)) ⊎ ((k : Identifier) → In k (module_identifiers m) → v.name ≡ identifier_text m k → ⊥) → Whose v
    by_identifier p m here same (inl h) = owned_by p m here h.0 h.1 (sym same) h.2
    by_identifier p m here same (inr never) =
        unowned (ap (λ q. drive (tree_of via d) (symbol_name d top) (vnet q v.name)) (sym same) ∙ no_drive_here via d x top p m here v.name never) nobody where
          nobody : (r : Path) (n : Module) (k : Identifier) → module_at d top r ≡ Some n → In k (module_identifiers n) → v.path ≡ vpath_of d top r → v.name ≡ identifier_text n k → ⊥
          nobody r n k there within path name =
              let paths : p ≡ r = paths_apart via d x top p r m n here there (same ∙ path) in
              let modules : Some m ≡ Some n = sym here ∙ ap (module_at d top) paths ∙ there in
              let one : m ≡ n = cc in
              never k (subst (λ y. In k (module_identifiers y)) (sym one) within) (name ∙ ap (λ y. identifier_text y k) (sym one))

    by_path : PathOf via d x top v.path → Whose v
    by_path (a_path p m here same) = by_identifier p m here same (identifier_of_name m v.name (module_identifiers m))
    by_path (no_path none) = unowned (ap (drive_at (tree_of via d) (symbol_name d top) v.path v.name) none) nobody where
      nobody : (r : Path) (n : Module) (k : Identifier) → module_at d top r ≡ Some n → In k (module_identifiers n) → v.path ≡ vpath_of d top r → v.name ≡ identifier_text n k → ⊥
      nobody r n k there within path name =
          let h : None ≡ Some (vmodule via d n) = sym none ∙ ap (vmodule_at (tree_of via d) (symbol_name d top)) path ∙ vposition via d x top r n there in cc

  to_of : (Net → Word) → (v : VNet) → Whose v → Word
  to_of ρ v (owned_by p m here k within path name) = ρ (at p (shown_ref m k))
  to_of ρ v (unowned none never) = []

  pub to : (Net → Word) → VNet → Word
  to ρ v = to_of ρ v (whose v)

  pub to_identifier : (ρ : Net → Word) (p : Path) (m : Module) → module_at d top p ≡ Some m → (k : Identifier) → In k (module_identifiers m) → to ρ (vnet (vpath_of d top p) (identifier_text m k)) ≡ ρ (at p (shown_ref m k))
  unfolding to to_of
  to_identifier ρ p m here k within = go (whose (vnet (vpath_of d top p) (identifier_text m k))) where
    go : (w : Whose (vnet (vpath_of d top p) (identifier_text m k))) → to_of ρ (vnet (vpath_of d top p) (identifier_text m k)) w ≡ ρ (at p (shown_ref m k))
    go (unowned none never) = absurd (never p m k here within refl refl)
    go (owned_by r n there l inside path name) =
        let paths : r ≡ p = paths_apart via d x top r p n m there here (sym path) in
        let modules : Some n ≡ Some m = sym there ∙ ap (module_at d top) paths ∙ here in
        let one : n ≡ m = cc in
        let identifiers : l ≡ k = texts_apart m (names_at_path via d x top p m here) l k (subst (λ y. In l (module_identifiers y)) one inside) within (ap (λ y. identifier_text y l) (sym one) ∙ sym name) in
        ap₂ (λ q (y : Module). ρ (at q (shown_ref y l))) paths one ∙ ap (λ y. ρ (at p (shown_ref m y))) identifiers

  -- what holds of owned and of unowned nets holds of all
  pub by_owner_of : (P : VNet → Type 0) → ((p : Path) (m : Module) → module_at d top p ≡ Some m → (k : Identifier) → In k (module_identifiers m) → P (vnet (vpath_of d top p) (identifier_text m k)))
      → ((v : VNet) → drive (tree_of via d) (symbol_name d top) v ≡ nothing → ((ρ : Net → Word) → to ρ v ≡ []) → P v) → (v : VNet) → P v
  unfolding to to_of
  by_owner_of P owned free v = go (whose v) (λ ρ. refl) where
    go : (w : Whose v) → ((ρ : Net → Word) → to ρ v ≡ to_of ρ v w) → P v
    go (owned_by p m here k within path name) same = subst P (sym (ap₂ vnet path name)) (owned p m here k within)
    go (unowned none never) same = free v none same
