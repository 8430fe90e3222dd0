-- Which modules remain after passes, told by the design before or by the one between.
use Rattle.std.proofs.Common.{◌≡◌, ℕ, zero, suc, ◌+◌, Bool, true, false, ◌||◌, cond, List, [], ◌∷◌, ◌++◌, Some, refl, sym, ap, subst, ◌∙◌, inl, inr}
use Rattle.wiring.specs.Wiring.{In, Chain}
use Rattle.wiring.proofs.Chains.{Chain-append}
use Rattle.hw_model.specs.Types.{Name}
use Rattle.hw_model.specs.Design.{Module, Design, find_module, same_name}
use Rattle.hw_model.specs.Equality.{name_self}
use Rattle.hw_model.specs.Hierarchy.{calls}
use Rattle.hw_model.proofs.Finite.{module_found, calls_within}
use Rattle.pass_pipeline.specs.declared.pass.Pass.{Pass}
use Rattle.pass_laws.specs.Remaining.{is_flatten, is_symbol_dce, has_pass, symbols, IsPublic, IsReached, Remains, IsKept}
use Rattle.pass_laws.specs.PassLaw.{InstancesStay, IsAfter}
use Rattle.pass_laws.proofs.Those.{those_were, those_stay}

-- ---- lists of passes

pub has_pass-append : (test : Pass → Bool) (ps qs : List Pass) → has_pass test (ps ++ qs) ≡ (has_pass test ps || has_pass test qs)
has_pass-append test [] qs = refl
has_pass-append test (p ∷ ps) qs = go (test p) (has_pass-append test ps qs)
  where
    go : (b : Bool) → has_pass test (ps ++ qs) ≡ (has_pass test ps || has_pass test qs) → (b || has_pass test (ps ++ qs)) ≡ ((b || has_pass test ps) || has_pass test qs)
    go true rest = refl
    go false rest = rest

-- ---- modules that are found

-- a symbol of the design has its module
pub symbol_found : (d : Design) (s : Name) → In s (symbols d) → (m : Module) × (find_module d s ≡ Some m)
symbol_found [] s here = absurd here
symbol_found (x ∷ d) s here = go (same_name x.symbol s) refl here (symbol_found d s)
  where
    go : (b : Bool) → same_name x.symbol s ≡ b → In s (symbols (x ∷ d)) → (In s (symbols d) → (m : Module) × (find_module d s ≡ Some m))
        → (m : Module) × (cond b (Some x) (find_module d s) ≡ Some m)
    go true is at rest = (x, refl)
    go false is (inl same) rest = let clash : true ≡ false = sym (name_self s) ∙ ap (λ n. same_name n s) same ∙ is in cc
    go false is (inr later) rest = rest later

-- what a reached module instances is reached
pub reached_more : (d : Design) (s t : Name) → IsReached d s → In t (calls d s) → IsReached d t
reached_more d s t (top, k, is, chain) need = (top, k + 1, is, Chain-append (calls d) k 1 top s t chain (t, need, refl))

pub public_reached : (d : Design) (s : Name) → IsPublic d s → IsReached d s
public_reached d s is = (s, 0, is, refl)

-- ---- one law after another

module _ (ps : List Pass) (d e : Design) (after : IsAfter ps d e) where
  pub public_kept : (a b : Bool) (s : Name) → IsPublic d s → Remains a b d s
  public_kept true b s is = is
  public_kept false true s is = public_reached d s is
  public_kept false false s is = tt

  was_there : (s : Name) → In s (symbols e) → In s (symbols d)
  was_there s here = those_were (IsKept ps d) s (symbols d) (symbols e) after.order here

  pub public_after : (s : Name) → IsPublic d s → IsPublic e s
  public_after s (m, is, mark) =
      let here : In s (symbols e) = those_stay (IsKept ps d) s (symbols d) (symbols e) after.order (module_found d s m is)
      (public_kept (has_pass is_flatten ps) (has_pass is_symbol_dce ps) s (m, is, mark)) in
      let now = symbol_found e s here in
      (now.0, now.1, (after.modules s m now.0 is now.1).mark ∙ mark)

  pub public_before : (s : Name) → IsPublic e s → IsPublic d s
  public_before s (n, is, mark) =
      let was = symbol_found d s (was_there s (module_found e s n is)) in
      (was.0, was.1, sym (after.modules s was.0 n was.1 is).mark ∙ mark)

  -- where modules are not flattened, each instances what it did
  calls_stay : has_pass is_flatten ps ≡ false → (s : Name) → In s (symbols e) → calls e s ≡ calls d s
  calls_stay none s here =
      let now = symbol_found e s here in
      let was = symbol_found d s (was_there s here) in
      subst (λ b. InstancesStay b d (calls d s) (calls e s)) none (after.modules s was.0 now.0 was.1 now.1).instances

  reached_kept : (a b : Bool) (s : Name) → a ≡ false → IsReached d s → Remains a b d s
  reached_kept true b s none is = cc
  reached_kept false true s none is = is
  reached_kept false false s none is = tt

  chain_after : has_pass is_flatten ps ≡ false → (k : ℕ) (s t : Name) → IsReached d s → Chain (calls d) k s t → Chain (calls e) k s t
  chain_after none zero s t is chain = chain
  chain_after none (suc k) s t is (c, need, chain) =
      let here : In s (symbols e) = those_stay (IsKept ps d) s (symbols d) (symbols e) after.order (calls_within d s c need)
      (reached_kept (has_pass is_flatten ps) (has_pass is_symbol_dce ps) s none is) in
      (c, subst (In c) (sym (calls_stay none s here)) need, chain_after none k c t (reached_more d s c is need) chain)

  chain_before : has_pass is_flatten ps ≡ false → (k : ℕ) (s t : Name) → Chain (calls e) k s t → Chain (calls d) k s t
  chain_before none zero s t chain = chain
  chain_before none (suc k) s t (c, need, chain) =
      (c, subst (In c) (calls_stay none s (calls_within e s c need)) need, chain_before none k c t chain)

  pub reached_after : has_pass is_flatten ps ≡ false → (s : Name) → IsReached d s → IsReached e s
  reached_after none s (top, k, is, chain) = (top, k, public_after top is, chain_after none k top s (public_reached d top is) chain)

  pub reached_before : has_pass is_flatten ps ≡ false → (s : Name) → IsReached e s → IsReached d s
  reached_before none s (top, k, is, chain) = (top, k, public_before top is, chain_before none k top s chain)

  -- what remains after both lists of passes is what remains after the second of what remains after the first
  pub remains_both : (a b c g : Bool) → has_pass is_flatten ps ≡ a → (s : Name) → Remains a b d s → Remains c g e s → Remains (a || c) (b || g) d s
  remains_both true b c g none s first second = first
  remains_both false b true g none s first second = public_before s second
  remains_both false true false g none s first second = first
  remains_both false false false true none s first second = reached_before none s second
  remains_both false false false false none s first second = tt

  pub remained_first : (a b c g : Bool) → (s : Name) → Remains (a || c) (b || g) d s → Remains a b d s
  remained_first true b c g s both = both
  remained_first false true true g s both = public_reached d s both
  remained_first false true false g s both = both
  remained_first false false c g s both = tt

  pub remained_second : (a b c g : Bool) → has_pass is_flatten ps ≡ a → (s : Name) → Remains (a || c) (b || g) d s → Remains c g e s
  remained_second true b true g none s both = public_after s both
  remained_second false b true g none s both = public_after s both
  remained_second true b false true none s both = public_reached e s (public_after s both)
  remained_second false true false true none s both = reached_after none s both
  remained_second false false false true none s both = reached_after none s both
  remained_second a b false false none s both = tt
