-- The text of an exportable design is Verilog that behaves as the design.
use Rattle.std.proofs.Common.{◌≡◌, ℕ, suc, ◌+◌, Bool, true, false, List, [], ◌∷◌, map, length, slice_get, Some, refl, sym, ◌∙◌, ap, ap₂, subst, arith, add-zero, add-suc, zero-add, suc-add}
use Rattle.std.proofs.lemmas.List.{length-map}
use Rattle.hw_model.specs.Types.{Name, width}
use Rattle.hw_model.specs.Design.{Port, Module, Design}
use Rattle.verilog_model.specs.Hierarchy.{range_width}
use Rattle.verilog_model.specs.Behaviour.{shown_port, IsPartner, UnlessPrivate, HavePartners}
use Rattle.name_legalise.proofs.Legals.{legal_count}
use Rattle.verilog_model.specs.Digits.{high_of}
use Rattle.lowering_options.specs.declared.lowering.Lowering.{Lowering}
use Rattle.export_verilog.specs.Exported.{symbol_names, symbol_name, vmodule, vports, tree_of}
use Rattle.export_verilog.specs.Layout.{verilog_text}
use Rattle.export_verilog.specs.Written.{ports_named}
use Rattle.export_verilog.specs.Exportable.{IsExportable}
use Rattle.export_verilog.specs.Behaviour.{legal_symbols, legal_ports, shown_under, shown_ports, BehavesAs}
use Rattle.export_verilog.proofs.names.PortNames.{port_names_are, vports_are}
use Rattle.export_verilog.proofs.text.TextRead.{tree_read}
use Rattle.export_verilog.proofs.names.Symbols.{module_at_position, symbol_at, vmodule_found}
use Rattle.export_verilog.proofs.items.Settings.{Setting}
use Rattle.export_verilog.proofs.behaviour.ModuleBehaviour.{setting, exported_same}
use Rattle.export_verilog.proofs.checks.Fitting.{tree_of_fits}
use Rattle.export_verilog.proofs.checks.Checking.{tree_is_checked}
use Rattle.export_verilog.proofs.text.Spelled.{tree_is_spellable}

-- ports under names show the names, and their directions and widths
shown_named : (ns : List Name) (ps : List Port) → ((k : ℕ) (p : Port) → slice_get ps k ≡ Some p → range_width (high_of (width p.type)) ≡ width p.type)
    → map shown_port (ports_named ns ps) ≡ shown_under ns ps
shown_named [] [] widths = refl
shown_named [] (p ∷ ps) widths = refl
shown_named (n ∷ ns) [] widths = refl
shown_named (n ∷ ns) (p ∷ ps) widths =
    ap₂ (λ w rest. record { is_output = p.is_output; name = n; width = w } ∷ rest) (widths 0 p refl) (shown_named ns ps (λ k q there. widths (suc k) q there))

-- the ports of a module's tree have their legal names
legally_named : (m : Module) → vports m ≡ ports_named (legal_ports m) m.ports
legally_named m =
    vports_are m (legal_ports m) (legal_count [] (map (λ (p : Port). p.name) m.ports) ∙ length-map m.ports (λ (p : Port). p.name)) (port_names_are m.ports)

module _ (via : Lowering) (d : Design) (x : IsExportable d) where
  here : Setting d
  here = setting d x

  partner_of : (k : ℕ) (m : Module) → slice_get d k ≡ Some m → IsPartner d (tree_of via d) m (symbol_name d m.symbol) (shown_ports m)
  unfolding here
  partner_of k m there = let is = module_at_position d x k m there in record {
    partner = vmodule via d m;
    found = vmodule_found d x (setting d x).symbols via m.symbol m is;
    ports_are =
        ap (map shown_port) (legally_named m)
        ∙ shown_named (legal_ports m) m.ports (λ j p at. (setting d x).say (width p.type) ((x.modules k m there).bits j p at) ((x.modules k m there).narrow_ports j p at));
    same = exported_same via d x k m there;
  }

  -- the names of the modules from the o-th on are those of their symbols
  abbrev named_from : ℕ → List Name → List Module → Type 0
  named_from o ns ms = (k : ℕ) (m : Module) → slice_get ms k ≡ Some m → (slice_get d (o + k) ≡ Some m) × (slice_get ns k ≡ Some (symbol_name d m.symbol))

  partners : (o : ℕ) (ns : List Name) (ms : List Module) → length ns ≡ length ms → named_from o ns ms → HavePartners d (tree_of via d) shown_ports ns ms
  partners o [] [] count at = tt
  partners o [] (m ∷ ms) count at = absurd (omega (arith, count))
  partners o (n ∷ ns) [] count at = absurd (omega (arith, count))
  partners o (n ∷ ns) (m ∷ ms) count at = (unless m.is_private, partners (suc o) ns ms (omega (arith, count)) later) where
    first : slice_get d o ≡ Some m
    first = ap (slice_get d) (sym (add-zero o)) ∙ (at 0 m refl).0

    own : symbol_name d m.symbol ≡ n
    own = let e : Some n ≡ Some (symbol_name d m.symbol) = (at 0 m refl).1 in cc

    unless : (b : Bool) → UnlessPrivate b (IsPartner d (tree_of via d) m n (shown_ports m))
    unless true = tt
    unless false = subst (λ l. IsPartner d (tree_of via d) m l (shown_ports m)) own (partner_of o m first)

    later : named_from (suc o) ns ms
    later k z there = let h = at (suc k) z there in (ap (slice_get d) (suc-add o k ∙ sym (add-suc o k)) ∙ h.0, h.1)

  all_partners : HavePartners d (tree_of via d) shown_ports (legal_symbols d) d
  unfolding here symbol_names
  all_partners = partners 0 (legal_symbols d) d (setting d x).symbols.many (λ k m there. (ap (slice_get d) (zero-add k) ∙ there, symbol_at d x (setting d x).symbols k m there))

  pub exported_behaves : BehavesAs (verilog_text via d) d
  unfolding here verilog_text
  exported_behaves = record {
    tree = tree_of via d;
    is_verilog = record {
      spelled = tree_read (tree_of via d) (tree_is_spellable via d (setting d x));
      fits = tree_of_fits via d;
      checks = tree_is_checked via d (setting d x);
    };
    partners = all_partners;
  }
