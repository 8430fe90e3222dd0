-- `hw-flatten-modules` meets the law of passes; a design has one result, which is fit where the design is.
use Rattle.std.proofs.Common.{◌≡◌, ◌≤◌, zero, suc, Bool, true, false, cond, [], ◌∷◌, map, Option, Some, None, refl, sym, ap, ap₂, subst, ◌∙◌, arith, option_and_then, option_map}
use Rattle.std.specs.Prelude.{⊤}
use Rattle.wiring.specs.Wiring.{In}
use Rattle.hw_model.specs.Types.{Name}
use Rattle.hw_model.specs.Design.{Module, Design, find_module, same_name}
use Rattle.hw_model.specs.Hierarchy.{callee_symbols, calls, HasNoRecursion}
use Rattle.hw_model.specs.Meaning.{machine}
use Rattle.hw_model.specs.Sound.{body_of}
use Rattle.hw_model.specs.Weight.{weight}
use Rattle.hw_model.proofs.Finite.{module_found}
use Rattle.hw_model.proofs.Machines.{same_then}
use Rattle.op_verifier.specs.Verdict.{IsAccepted}
use Rattle.printing_laws.specs.Printable.{Printable}
use Rattle.acceptance_laws.specs.Keeps.{IsFit}
use Rattle.acceptance_laws.proofs.Accepted.{accepted_fit}
use Rattle.acceptance_laws.proofs.NameCounts.{accepted_again}
use Rattle.pass_pipeline.specs.declared.pass.Pass.TheVariants.{HwFlattenModules}
use Rattle.pass_laws.specs.Remaining.{symbols, IsPublic, IsReached, AreThose}
use Rattle.pass_laws.specs.PassLaw.{InstancesStay, IsModuleAfter, PassLaw}
use Rattle.pass_laws.proofs.Remaining.{symbol_found, reached_more, public_reached}
use Rattle.pass_laws.proofs.Those.{all_those, those_were, those_meet, those_then}
use Rattle.inline_pass.specs.Flattening.{if_private, private_found, flat_design, IsFlattened}
use Rattle.inline_pass.proofs.ReachedLists.{reached_found, reached_symbols}
use Rattle.inline_pass.proofs.OneByOne.{IsReduced}
use Rattle.inline_pass.proofs.RegistersKept.{registers_kept}
use Rattle.inline_pass.proofs.DeadModulesGone.{last_step, without_dead_once, without_dead_fit, without_dead_reduced}
use Rattle.inline_pass.proofs.FlatteningDepth.{flat_module, flat_calls}
use Rattle.inline_pass.proofs.FlatteningSteps.{Inlines}
use Rattle.inline_pass.proofs.FlatteningProgress.{flat_inlines}

-- ---- the modules of a flat design

found_map : (f : Module → Module) → ((m : Module) → (f m).symbol ≡ m.symbol) → (d : Design) (s : Name) → find_module (map f d) s ≡ option_map f (find_module d s)
found_map f named [] s = refl
found_map f named (m ∷ d) s =
    ap₂ (λ n rest. cond (same_name n s) (Some (f m)) rest) (named m) (found_map f named d s) ∙ go (same_name m.symbol s)
  where
    go : (b : Bool) → cond b (Some (f m)) (option_map f (find_module d s)) ≡ option_map f (cond b (Some m) (find_module d s))
    go true = refl
    go false = refl

flat_found_is : (d : Design) (s : Name) → find_module (flat_design d) s ≡ option_map (flat_module d) (find_module d s)
flat_found_is d s = found_map (flat_module d) (λ m. refl) d s

symbols_map : (f : Module → Module) → ((m : Module) → (f m).symbol ≡ m.symbol) → (d : Design) → symbols (map f d) ≡ symbols d
symbols_map f named [] = refl
symbols_map f named (m ∷ d) = ap₂ (λ s ss. s ∷ ss) (named m) (symbols_map f named d)

-- a module that is public in the flat design is so
public_was : (d : Design) (s : Name) → IsPublic (flat_design d) s → IsPublic d s
public_was d s (x, found, public) = go (find_module d s) refl (sym (flat_found_is d s) ∙ found)
  where
    go : (y : Option Module) → find_module d s ≡ y → option_map (flat_module d) (find_module d s) ≡ Some x → IsPublic d s
    go None none is = let clash : None ≡ Some x = sym (ap (option_map (flat_module d)) none) ∙ is in cc
    go (Some m) some is =
        let both : Some (flat_module d m) ≡ Some x = sym (ap (option_map (flat_module d)) some) ∙ is in
        let same : flat_module d m ≡ x = cc in
        (m, some, ap (λ (z : Module). z.is_private) same ∙ public)

-- what the flat design instances is public, where it is there
called_public : (d : Design) → HasNoRecursion d → (s t : Name) → In t (calls (flat_design d) s) → In t (symbols d) → IsPublic d t
called_public d finite s t named here = go (find_module d s) refl (subst (λ o. In t (callee_symbols (body_of o))) (flat_found_is d s) named)
  where
    there : (m : Module) × (find_module d t ≡ Some m)
    there = symbol_found d t here

    by_mark : (b : Bool) → there.0.is_private ≡ b → private_found d t ≡ None → IsPublic d t
    by_mark false mark none = (there.0, there.1, mark)
    by_mark true mark none =
        let clash : Some there.0 ≡ None = sym (ap (λ x. option_and_then if_private x) there.1 ∙ ap (λ b. cond b (Some there.0) None) mark) ∙ none in cc

    go : (x : Option Module) → find_module d s ≡ x → In t (callee_symbols (body_of (option_map (flat_module d) (find_module d s)))) → IsPublic d t
    go None is called = absurd (subst (λ x. In t (callee_symbols (body_of (option_map (flat_module d) x)))) is called)
    go (Some m) is called =
        by_mark there.0.is_private refl (flat_calls d finite s m is t (subst (λ x. In t (callee_symbols (body_of (option_map (flat_module d) x)))) is called))

-- what is reached from public modules is public
reached_public : (d : Design) → HasNoRecursion d → (s : Name) → In s (symbols d) → IsReached (flat_design d) s → IsPublic d s
reached_public d finite s here (top, zero, public, same) = public_was d s (subst (IsPublic (flat_design d)) same public)
reached_public d finite s here (top, suc k, public, chain) =
    let last = last_step (calls (flat_design d)) k top s chain in
    called_public d finite last.0 s last.2 here

-- ---- the law of passes

pub flat_fit : (d : Design) → IsFit d → IsFit (flat_design d)
flat_fit d fit = (flat_inlines d fit).fit

pub flattened_fit : (d e : Design) → IsFit d → IsFlattened d e → IsFit e
flattened_fit d e fit flattened = without_dead_fit (flat_design d) e (flat_fit d fit) flattened

pub flattened_once : (d e f : Design) → IsFlattened d e → IsFlattened d f → e ≡ f
flattened_once d e f first second = without_dead_once (flat_design d) e f first second

module _ (d e : Design) (fit : IsFit d) (flattened : IsFlattened d e) where
  inlined : Inlines d (flat_design d)
  inlined = flat_inlines d fit

  left : IsReduced (IsReached (flat_design d)) (flat_design d) e
  left = without_dead_reduced (flat_design d) e inlined.fit flattened

  lighter : (s : Name) → weight e s ≤ weight d s
  lighter s =
      let one : weight (flat_design d) s ≤ weight d s = inlined.lighter s in
      let other : weight e s ≤ weight (flat_design d) s = left.lighter s in omega arith

  left_symbols : AreThose (IsReached (flat_design d)) (symbols (flat_design d)) (symbols e)
  left_symbols = reached_symbols (IsReached (flat_design d)) (flat_design d) e flattened

  symbols_are : symbols (flat_design d) ≡ symbols d
  symbols_are = symbols_map (flat_module d) (λ m. refl) d

  public_symbols : AreThose (IsPublic d) (symbols d) (symbols e)
  public_symbols =
      subst (λ xs. AreThose (IsPublic d) xs (symbols e)) symbols_are
      (those_then (IsReached (flat_design d)) (λ s. ⊤) (IsPublic d) (symbols (flat_design d)) (symbols e) (symbols e)
      (λ s here reached any.
      reached_public d fit.valid.finite s
      (subst (In s) symbols_are (those_were (IsReached (flat_design d)) s (symbols (flat_design d)) (symbols e) left_symbols here)) reached)
      (λ s public. public_reached (flat_design d) s (inlined.public s public))
      (λ s here public. tt) left_symbols (all_those (λ s. ⊤) (symbols e) (λ s. tt)))

  module_flattened : (s : Name) (m n : Module) → find_module d s ≡ Some m → find_module e s ≡ Some n → IsModuleAfter (HwFlattenModules ∷ []) d e s m n
  module_flattened s m n was now =
      let reached : IsReached (flat_design d) s = those_meet (IsReached (flat_design d)) s (symbols (flat_design d)) (symbols e) left_symbols (module_found e s n now) in
      let found : find_module e s ≡ find_module (flat_design d) s = reached_found (IsReached (flat_design d)) (flat_design d) e flattened s reached in
      let both : Some n ≡ Some (flat_module d m) = sym now ∙ found ∙ flat_found_is d s ∙ ap (option_map (flat_module d)) was in
      let same : n ≡ flat_module d m = cc in
      record {
        mark = ap (λ (x : Module). x.is_private) same;
        location = ap (λ (x : Module). x.location) same;
        ports = ap (λ (x : Module). x.ports) same;
        registers =
            registers_kept (IsReached (flat_design d)) (flat_design d) e (reached_more (flat_design d))
            (reached_found (IsReached (flat_design d)) (flat_design d) e flattened) inlined.fit.valid.finite left.fit.valid.finite s reached
            ∙ inlined.registers s;
        instances = subst (InstancesStay true d (calls d s)) (sym (ap (λ o. callee_symbols (body_of o)) found)) (inlined.instances s);
        weight = lighter s;
      }

pub flattening_is_after : PassLaw (HwFlattenModules ∷ []) IsFlattened
flattening_is_after d e accepted printable flattened =
    let fit : IsFit d = accepted_fit d accepted printable in
    let all : Inlines d (flat_design d) = flat_inlines d fit in
    let less : IsReduced (IsReached (flat_design d)) (flat_design d) e = without_dead_reduced (flat_design d) e all.fit flattened in
    let again : IsAccepted e × Printable e = accepted_again e less.fit d accepted (lighter d e fit flattened) in
    record {
      accepted = again.0;
      printable = again.1;
      order = public_symbols d e fit flattened;
      modules = module_flattened d e fit flattened;
      same = λ s public.
          same_then (machine d s) (machine (flat_design d) s) (machine e s) (all.same s) (less.same s (public_reached (flat_design d) s (all.public s public)));
    }
