-- What a flat copy of a module keeps.
use Rattle.std.proofs.Common.{◌≡◌, ◌≤◌, ℕ, Bool, true, false, [], ◌∷◌, Some, None, Option, slice_get, refl, sym, ap, ap₂, subst, ◌∙◌, arith, option_map}
use Rattle.std.specs.Prelude.{not}
use Rattle.std.specs.List.{flat_map}
use Rattle.std.proofs.lemmas.Option.{slice_get-map}
use Rattle.wiring.specs.Wiring.{In}
use Rattle.wiring.proofs.Members.{In-map, In-slice_get}
use Rattle.hw_model.specs.Types.{Name}
use Rattle.hw_model.specs.Design.{Module, Design, same_name, find_module}
use Rattle.hw_model.specs.Equality.{name_self, name_from}
use Rattle.hw_model.specs.Meaning.{machine}
use Rattle.hw_model.specs.Weight.{weight}
use Rattle.hw_model.proofs.Machines.{same_then}
use Rattle.design_cycles.specs.Asked.{HasDistinctSymbols}
use Rattle.design_cycles.proofs.Callees.{found_at}
use Rattle.op_verifier.specs.Verdict.{IsAccepted}
use Rattle.op_verifier.proofs.AcceptedDesigns.{accepted_distinct}
use Rattle.printing_laws.specs.Printable.{Printable}
use Rattle.edit_laws.specs.Follows.{Valid}
use Rattle.edit_laws.proofs.ResetsKept.{find_symbol}
use Rattle.acceptance_laws.proofs.Accepted.{accepted_fit}
use Rattle.pass_pipeline.specs.declared.pass.Pass.TheVariants.{HwFlattenModules, HwLowerAggregates, SymbolDce}
use Rattle.aggregate_laws.specs.Scalars.{has_aggregates}
use Rattle.pass_laws.specs.PassLaw.{leaf_types, IsAfter}
use Rattle.pass_laws.specs.Remaining.{symbols, IsPublic}
use Rattle.pass_laws.proofs.Composed.{after_both}
use Rattle.inline_pass.proofs.DeadModulesGone.{dce_is_after, without_dead_once}
use Rattle.inline_pass.specs.Flattening.{IsFlattened}
use Rattle.inline_pass.proofs.FlatteningLaw.{flattened_once, flattening_is_after}
use Rattle.aggregate_lower.specs.Lowering.{lowered_aggregates}
use Rattle.aggregate_lower.proofs.LoweringLaw.{lowering_is_after, none_left}
use Rattle.miter_blast.specs.FlatCopy.{is_other, only_public, IsFlatCopy, KeepsFlat}
use Rattle.miter_blast.proofs.Marks.{marked, find_marked, symbols_marked, marked_follows, marked_lighter, marked_accepted, marked_registers}
use Rattle.miter_blast.proofs.OneLeft.{IsOnce, one_those, one_module}
use Rattle.miter_blast.proofs.Alone.{found_alone, alone_is_flat}

not_false : (b : Bool) → not b ≡ false → b ≡ true
not_false true is = refl
not_false false is = cc

module _ (d : Design) (m : Module) (found : find_module d m.symbol ≡ Some m) where
  -- the module in the design in which it alone is public
  found_public : find_module (only_public d m.symbol) m.symbol ≡ Some (marked (is_other m.symbol) m)
  found_public = find_marked (is_other m.symbol) d m.symbol ∙ ap (option_map (marked (is_other m.symbol))) found

  public_itself : IsPublic (only_public d m.symbol) m.symbol
  public_itself = (marked (is_other m.symbol) m, found_public, ap not (name_self m.symbol))

-- no other symbol is public
only_itself : (d : Design) (s t : Name) → IsPublic (only_public d s) t → t ≡ s
only_itself d s t (x, is, public) = go (find_module d t) refl (sym (find_marked (is_other s) d t) ∙ is)
  where
    go : (o : Option Module) → find_module d t ≡ o → option_map (marked (is_other s)) (find_module d t) ≡ Some x → t ≡ s
    go None none here = let clash : None ≡ Some x = sym (ap (option_map (marked (is_other s))) none) ∙ here in cc
    go (Some m) some here =
        let both : Some (marked (is_other s) m) ≡ Some x = sym (ap (option_map (marked (is_other s))) some) ∙ here in
        let same : marked (is_other s) m ≡ x = cc in
        sym (find_symbol d t m some) ∙ name_from m.symbol s (not_false (same_name m.symbol s) (ap (λ (y : Module). y.is_private) same ∙ public))

-- the module whose symbol stands at a position among the symbols
symbol_at : (d : Design) (s : Name) (k : ℕ) → slice_get (symbols d) k ≡ Some s → (m : Module) × (slice_get d k ≡ Some m) × (m.symbol ≡ s)
symbol_at d s k at = go (slice_get d k) refl (sym (slice_get-map (λ (m : Module). m.symbol) d k) ∙ at)
  where
    go : (o : Option Module) → slice_get d k ≡ o → option_map (λ (m : Module). m.symbol) (slice_get d k) ≡ Some s → (m : Module) × (slice_get d k ≡ Some m) × (m.symbol ≡ s)
    go None none is = let clash : None ≡ Some s = sym (ap (option_map (λ (m : Module). m.symbol)) none) ∙ is in cc
    go (Some m) some is =
        let same : Some m.symbol ≡ Some s = sym (ap (option_map (λ (x : Module). x.symbol)) some) ∙ is in
        (m, some, cc)

-- a symbol of a design with distinct symbols stands once among them
symbol_once : (d : Design) (s : Name) → HasDistinctSymbols d → IsOnce s (symbols d)
symbol_once d s distinct i j at also = go (symbol_at d s i at) (symbol_at d s j also)
  where
    go : (m : Module) × (slice_get d i ≡ Some m) × (m.symbol ≡ s) → (m : Module) × (slice_get d j ≡ Some m) × (m.symbol ≡ s) → i ≡ j
    go (m, here, is) (n, there, same) = distinct i j m n here there (is ∙ sym same)

module _ (d e : Design) (n : ℕ) (m : Module) (accepted : IsAccepted d) (printable : Printable d) (at : slice_get d n ≡ Some m) (copy : IsFlatCopy d m.symbol e) where
  found : find_module d m.symbol ≡ Some m
  found = (found_at d (accepted_distinct d accepted) n m at).1

  public : IsAccepted (only_public d m.symbol) × Printable (only_public d m.symbol)
  public = marked_accepted (is_other m.symbol) d accepted printable

  reached : IsAfter (SymbolDce ∷ []) (only_public d m.symbol) copy.0
  reached = dce_is_after (only_public d m.symbol) copy.0 public.0 public.1 copy.2

  flattened : IsAfter (HwFlattenModules ∷ []) copy.0 copy.1
  flattened = flattening_is_after copy.0 copy.1 reached.accepted reached.printable copy.3

  lowered : IsAfter (HwLowerAggregates ∷ []) copy.1 e
  lowered = lowering_is_after copy.1 e flattened.accepted flattened.printable copy.4

  all : IsAfter (SymbolDce ∷ HwFlattenModules ∷ HwLowerAggregates ∷ []) (only_public d m.symbol) e
  all =
      after_both (SymbolDce ∷ []) (HwFlattenModules ∷ HwLowerAggregates ∷ []) (only_public d m.symbol) copy.0 e reached
      (after_both (HwFlattenModules ∷ []) (HwLowerAggregates ∷ []) copy.0 copy.1 e flattened lowered)

  one_symbol : symbols e ≡ m.symbol ∷ []
  one_symbol =
      one_those (IsPublic (only_public d m.symbol)) m.symbol (symbols (only_public d m.symbol)) (symbols e) all.order (only_itself d m.symbol) (public_itself d m found)
      (subst (In m.symbol) (sym (symbols_marked (is_other m.symbol) d)) (In-map (λ (x : Module). x.symbol) m d (In-slice_get m d n at)))
      (subst (IsOnce m.symbol) (sym (symbols_marked (is_other m.symbol) d)) (symbol_once d m.symbol (accepted_distinct d accepted)))

  pub copy_keeps : KeepsFlat d m e
  copy_keeps =
      let alone = one_module m.symbol e one_symbol in
      let valid = subst Valid alone.1 (accepted_fit e all.accepted all.printable).valid in
      let there : find_module e m.symbol ≡ Some alone.0 = ap₂ (λ x s. find_module x s) alone.1 (sym alone.2) ∙ found_alone alone.0 in
      let kept = all.modules m.symbol (marked (is_other m.symbol) m) alone.0 (found_public d m found) there in
      let lighter : weight (only_public d m.symbol) m.symbol ≤ weight d m.symbol = marked_lighter (is_other m.symbol) d m.symbol in
      let again : weight e m.symbol ≤ weight (only_public d m.symbol) m.symbol = kept.weight in
      record {
        accepted = all.accepted;
        printable = all.printable;
        one = alone.0;
        is_one = alone.1;
        symbol = alone.2;
        ports = kept.ports;
        flat = alone_is_flat alone.0 valid;
        scalar = ap has_aggregates copy.4 ∙ none_left copy.1 flattened.accepted flattened.printable;
        registers = kept.registers ∙ ap (flat_map leaf_types) (marked_registers (is_other m.symbol) d m.symbol);
        weight = omega arith;
        same = same_then (machine d m.symbol) (machine (only_public d m.symbol) m.symbol) (machine e m.symbol)
            ((marked_follows (is_other m.symbol) d (accepted_fit d accepted printable)).same m.symbol)
            (all.same m.symbol (public_itself d m found));
      }

-- there is one
pub copies_once : (d : Design) (s : Name) (c e : Design) → IsFlatCopy d s c → IsFlatCopy d s e → c ≡ e
copies_once d s c e (g, f, without, flat, is) (h, k, also, level, same) =
    let one : g ≡ h = without_dead_once (only_public d s) g h without also in
    is ∙ ap lowered_aggregates (flattened_once h f k (subst (λ x. IsFlattened x f) one flat) level) ∙ sym same
