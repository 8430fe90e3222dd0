-- From partners of modules in what passes make, and in the text of that, to partners of the source's modules.
use Rattle.std.proofs.Common.{◌≡◌, ℕ, Bool, true, false, cond, List, [], ◌∷◌, Option, Some, None, option_map, refl, sym, ap, subst, ◌∙◌}
use Rattle.std.specs.Prelude.{codes}
use Rattle.wiring.specs.Wiring.{In}
use Rattle.wiring.proofs.Members.{In-slice_get}
use Rattle.hw_model.specs.Types.{Name}
use Rattle.hw_model.specs.Design.{Module, Design, module_without_locations, without_locations, IsSameDesign, same_name, find_module}
use Rattle.hw_model.specs.Machine.{Same}
use Rattle.hw_model.specs.Meaning.{machine}
use Rattle.hw_model.proofs.Machines.{same_then}
use Rattle.hw_model.proofs.Locations.{find_unlocated}
use Rattle.verilog_model.specs.Behaviour.{Shown, IsPartner, UnlessPrivate, HavePartners}
use Rattle.verilog_model.specs.Meaning.{tree_machine}
use Rattle.verilog_model.specs.Tree.{Tree}
use Rattle.export_verilog.specs.Behaviour.{legal_symbols, shown_ports, BehavesAs}
use Rattle.export_verilog.proofs.names.Symbols.{found_symbol}
use Rattle.pass_pipeline.specs.declared.pass.Pass.{Pass}
use Rattle.pass_laws.specs.PassLaw.{ports_after}
use Rattle.pass_laws.specs.Remaining.{symbols, IsKept, AreThose}
use Rattle.circt_top.specs.Partners.{HasPartner, HasPartners}
use Rattle.circt_top.specs.SourceBehaviour.{name_beside, ports_shown, BehavesAsSource}

-- ---- the text that says the design again

-- locations are no part of symbols
symbols_unlocated : (d : Design) → symbols (without_locations d) ≡ symbols d
symbols_unlocated [] = refl
symbols_unlocated (m ∷ d) = ap (λ ss. m.symbol ∷ ss) (symbols_unlocated d)

module _ (passes : List Pass) (d e f : Design) (partners : HasPartners passes d e) (same : IsSameDesign e f) (behaves : (m : Module) → In m e → Same (machine e m.symbol) (machine f m.symbol)) where
  -- the partner of a module there, once it is found
  again : (m : Module) (p : HasPartner passes d m e) (q : Module) → find_module f m.symbol ≡ Some q → module_without_locations q ≡ module_without_locations p.partner → In q f → HasPartner passes d m f
  again m p q found alike there = record {
    partner = q;
    there = there;
    found = found;
    symbol = ap (λ (x : Module). x.symbol) alike ∙ p.symbol;
    exposed = ap (λ (x : Module). x.is_private) alike ∙ p.exposed;
    ports = ap (λ (x : Module). x.ports) alike ∙ p.ports;
    behaves = same_then (machine d m.symbol) (machine e m.symbol) (machine f m.symbol) p.behaves (subst (λ s. Same (machine e s) (machine f s)) p.symbol (behaves p.partner p.there));
  }

  -- it is found
  again_for : (m : Module) → HasPartner passes d m e → HasPartner passes d m f
  again_for m p = go (find_module f m.symbol) refl alike
    where
      alike : option_map module_without_locations (find_module f m.symbol) ≡ Some (module_without_locations p.partner)
      alike = sym (find_unlocated f m.symbol) ∙ ap (λ (x : Design). find_module x m.symbol) (sym same) ∙ find_unlocated e m.symbol ∙ ap (option_map module_without_locations) p.found

      go : (o : Option Module) → find_module f m.symbol ≡ o → option_map module_without_locations o ≡ Some (module_without_locations p.partner) → HasPartner passes d m f
      go None found is = let none : None ≡ Some (module_without_locations p.partner) = is in cc
      go (Some q) found is =
          let unlocated : module_without_locations q ≡ module_without_locations p.partner = cc in
          let at = found_symbol f m.symbol q found in
          again m p q found unlocated (In-slice_get q f at.0 at.1)

  -- in a design that differs in nothing but locations partners are as before
  pub partners_again : HasPartners passes d f
  partners_again = record {
    order = subst (AreThose (IsKept passes d) (symbols d)) (sym (symbols_unlocated e) ∙ ap symbols same ∙ symbols_unlocated f) partners.order;
    each = λ m here exposed. again_for m (partners.each m here exposed);
  }

-- ---- the Verilog

unless : (b : Bool) (P : Type 0) → b ≡ false → UnlessPrivate b P → P
unless false P is x = x
unless true P is x = let e : true ≡ false = is in cc

-- the partner of a module that is found by its symbol
named_partner : (d : Design) (t : Tree) (ports : Module → List Shown) (ns : List Name) (ms : List Module) (s : Name) (p : Module) → HavePartners d t ports ns ms
    → find_module ms s ≡ Some p → p.is_private ≡ false → IsPartner d t p (name_beside (symbols ms) ns s) (ports p)
named_partner d t ports ns [] s p all found exposed = let none : None ≡ Some p = found in cc
named_partner d t ports [] (m ∷ ms) s p all found exposed = absurd all
named_partner d t ports (n ∷ ns) (m ∷ ms) s p all found exposed = go (same_name m.symbol s) found (λ later. named_partner d t ports ns ms s p all.1 later exposed)
  where
    go : (b : Bool) → cond b (Some m) (find_module ms s) ≡ Some p → (find_module ms s ≡ Some p → IsPartner d t p (name_beside (symbols ms) ns s) (ports p))
        → IsPartner d t p (cond b n (name_beside (symbols ms) ns s)) (ports p)
    go true is rest =
        let same : m ≡ p = cc in
        subst (λ (x : Module). IsPartner d t x n (ports x)) same (unless m.is_private (IsPartner d t m n (ports m)) (ap (λ (x : Module). x.is_private) same ∙ exposed) all.0)
    go false is rest = rest is

-- a text that behaves as what passes make of a design behaves as the public modules of the design
pub behaves_as_source : (passes : List Pass) (d e : Design) (text : List ℕ) → HasPartners passes d e → BehavesAs text e → BehavesAsSource passes d text
behaves_as_source passes d e text kept behaves = record {
  tree = behaves.tree;
  is_verilog = behaves.is_verilog;
  kept = symbols e;
  order = kept.order;
  partners = λ m here exposed. shown m (kept.each m here exposed);
}
  where
    shown : (m : Module) → HasPartner passes d m e → IsPartner d behaves.tree m (name_beside (symbols e) (legal_symbols e) m.symbol) (ports_shown (ports_after passes m.ports))
    shown m p =
        let named = named_partner e behaves.tree shown_ports (legal_symbols e) e m.symbol p.partner behaves.partners p.found p.exposed in
        let name = name_beside (symbols e) (legal_symbols e) m.symbol in
        record {
          partner = named.partner;
          found = named.found;
          ports_are = named.ports_are ∙ ap ports_shown p.ports;
          same = same_then (machine d m.symbol) (machine e p.partner.symbol) (tree_machine behaves.tree name)
              (subst (λ s. Same (machine d m.symbol) (machine e s)) (sym p.symbol) p.behaves) named.same;
        }

-- ---- samples

-- the legal names of two symbols, of which the first is a reserved word of Verilog
first_of_two : name_beside (codes "reg" ∷ codes "A" ∷ []) (codes "reg_0" ∷ codes "A" ∷ []) (codes "reg") ≡ codes "reg_0"
first_of_two = refl

second_of_two : name_beside (codes "reg" ∷ codes "A" ∷ []) (codes "reg_0" ∷ codes "A" ∷ []) (codes "A") ≡ codes "A"
second_of_two = refl
