-- `symbol-dce` meets the law of passes; a design has one result, in which each private module is instanced.
use Rattle.std.proofs.Common.{◌≡◌, ℕ, zero, suc, true, false, List, [], ◌∷◌, Some, refl, sym, ap, subst, ◌∙◌}
use Rattle.wiring.specs.Wiring.{In, Chain}
use Rattle.wiring.proofs.Members.{position_of_In}
use Rattle.hw_model.specs.Types.{Name}
use Rattle.hw_model.specs.Design.{Module, Design, find_module}
use Rattle.hw_model.specs.Hierarchy.{callee_symbols, calls}
use Rattle.hw_model.specs.Sound.{body_of}
use Rattle.hw_model.proofs.Finite.{module_found}
use Rattle.design_cycles.proofs.Callees.{found_at}
use Rattle.op_verifier.specs.Verdict.{IsAccepted}
use Rattle.op_verifier.proofs.AcceptedDesigns.{accepted_distinct}
use Rattle.acceptance_laws.specs.Keeps.{IsFit}
use Rattle.acceptance_laws.proofs.Accepted.{accepted_fit}
use Rattle.acceptance_laws.proofs.NameCounts.{accepted_again}
use Rattle.pass_pipeline.specs.declared.pass.Pass.TheVariants.{SymbolDce}
use Rattle.pass_laws.specs.Remaining.{symbols, IsReached}
use Rattle.pass_laws.specs.PassLaw.{IsModuleAfter, PassLaw}
use Rattle.pass_laws.proofs.Remaining.{reached_more, public_reached}
use Rattle.pass_laws.proofs.Those.{those_meet}
use Rattle.inline_pass.specs.DeadModules.{IsWithoutDead}
use Rattle.inline_pass.proofs.ReachedLists.{reached_found, reached_member, reached_meets, reached_once, reached_symbols}
use Rattle.inline_pass.proofs.OneByOne.{IsReduced, reduced}
use Rattle.inline_pass.proofs.RegistersKept.{registers_kept}

-- ---- the law of passes

pub without_dead_reduced : (d e : Design) → IsFit d → IsWithoutDead d e → IsReduced (IsReached d) d e
without_dead_reduced d e fit without = reduced (IsReached d) d e fit (reached_more d) without

pub without_dead_fit : (d e : Design) → IsFit d → IsWithoutDead d e → IsFit e
without_dead_fit d e fit without = (without_dead_reduced d e fit without).fit

module _ (d e : Design) (fit : IsFit d) (without : IsWithoutDead d e) where
  left : IsReduced (IsReached d) d e
  left = without_dead_reduced d e fit without

  module_kept : (s : Name) (m n : Module) → find_module d s ≡ Some m → find_module e s ≡ Some n → IsModuleAfter (SymbolDce ∷ []) d e s m n
  module_kept s m n was now =
      let reached : IsReached d s = those_meet (IsReached d) s (symbols d) (symbols e) (reached_symbols (IsReached d) d e without) (module_found e s n now) in
      let found : find_module e s ≡ find_module d s = reached_found (IsReached d) d e without s reached in
      let both : Some n ≡ Some m = sym now ∙ found ∙ was in
      let same : n ≡ m = cc in
      record {
        mark = ap (λ (x : Module). x.is_private) same;
        location = ap (λ (x : Module). x.location) same;
        ports = ap (λ (x : Module). x.ports) same;
        registers = registers_kept (IsReached d) d e (reached_more d) (reached_found (IsReached d) d e without) fit.valid.finite left.fit.valid.finite s reached;
        instances = ap (λ o. callee_symbols (body_of o)) found;
        weight = left.lighter s;
      }

pub dce_is_after : PassLaw (SymbolDce ∷ []) IsWithoutDead
dce_is_after d e accepted printable without =
    let fit : IsFit d = accepted_fit d accepted printable in
    let less : IsReduced (IsReached d) d e = without_dead_reduced d e fit without in
    let again = accepted_again e less.fit d accepted less.lighter in
    record {
      accepted = again.0;
      printable = again.1;
      order = reached_symbols (IsReached d) d e without;
      modules = module_kept d e fit without;
      same = λ s public. less.same s (public_reached d s public);
    }

-- ---- what is left

-- a chain's last step
pub last_step : {A : Type 0} (needs : A → List A) (k : ℕ) (a b : A) → Chain needs (suc k) a b → (c : A) × Chain needs k a c × In b (needs c)
last_step needs zero a b (c, need, same) = (a, refl, subst (λ x. In x (needs a)) same need)
last_step needs (suc k) a b (c, need, chain) = let end = last_step needs k c b chain in (end.0, (c, need, end.1), end.2)

pub private_called : (d e : Design) → IsAccepted d → IsWithoutDead d e → (m : Module) → In m e → m.is_private ≡ true → (caller : Name) × In m.symbol (calls e caller)
private_called d e accepted without m here private = go (reached_meets (IsReached d) m d e without here)
  where
    found : find_module d m.symbol ≡ Some m
    found =
        let position = position_of_In m d (reached_member (IsReached d) m d e without here) in
        (found_at d (accepted_distinct d accepted) position.0 m position.1).1

    go : IsReached d m.symbol → (caller : Name) × In m.symbol (calls e caller)
    go (top, zero, (public, is, mark), same) =
        let both : Some public ≡ Some m = sym is ∙ ap (find_module d) same ∙ found in
        let one : public ≡ m = cc in
        let clash : false ≡ true = sym mark ∙ ap (λ (x : Module). x.is_private) one ∙ private in cc
    go (top, suc k, is, chain) =
        let last = last_step (calls d) k top m.symbol chain in
        let reached : IsReached d last.0 = (top, k, is, last.1) in
        (last.0, subst (λ o. In m.symbol (callee_symbols (body_of o))) (sym (reached_found (IsReached d) d e without last.0 reached)) last.2)

pub without_dead_once : (d e f : Design) → IsWithoutDead d e → IsWithoutDead d f → e ≡ f
without_dead_once d e f first second = reached_once (IsReached d) d e f first second
