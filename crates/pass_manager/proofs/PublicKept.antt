-- Of a flat design the public modules are what is reached, so that bodies of private ones may go before them.
use Rattle.std.proofs.Common.{◌≡◌, ℕ, zero, suc, ◌+◌, ◌<◌, ◌^◌, Bool, true, false, cond, List, [], ◌∷◌, ◌++◌, length, map, Option, Some, None, slice_get, option_map, option_and_then, refl, sym, ap, subst, ◌∙◌, inl, inr, arith}
use Rattle.std.proofs.lemmas.List.{length-append, append_assoc, append-nil}
use Rattle.std.proofs.lemmas.Option.{slice_get-map}
use Rattle.wiring.specs.Wiring.{In, Chain}
use Rattle.wiring.proofs.Members.{position_of_In}
use Rattle.hw_model.specs.Types.{Name}
use Rattle.hw_model.specs.Flat.{depth}
use Rattle.hw_model.specs.Design.{Module, Design, find_module}
use Rattle.hw_model.specs.Hierarchy.{callee_symbols, calls}
use Rattle.hw_model.specs.Sound.{body_of}
use Rattle.ir_store.specs.Symbols.{symbol_position}
use Rattle.design_cycles.specs.Calls.{symbols_in}
use Rattle.design_cycles.proofs.Callees.{number_found, position_found, found_at}
use Rattle.op_verifier.proofs.Distinct.{distinct_symbols}
use Rattle.acceptance_laws.specs.Keeps.{IsFit}
use Rattle.ir_store.specs.Designs.{StoredModule, numbered_module}
use Rattle.pass_laws.specs.Remaining.{IsReached}
use Rattle.pass_laws.proofs.Remaining.{public_reached}
use Rattle.inline_pass.specs.Flattening.{if_private, private_found, flat_body, flat_design, IsFlattened}
use Rattle.inline_pass.specs.DeadModules.{AreReachedOf}
use Rattle.inline_pass.proofs.DeadModulesGone.{last_step}
use Rattle.inline_pass.proofs.FlatteningDepth.{flat_module, flat_calls}
use Rattle.inline_pass.proofs.FlatteningProgress.{flat_inlines}
use Rattle.pass_manager.specs.PublicModules.{public_modules, kept_body, emptied_design}

-- ---- modules that are kept one after another

-- the public ones among modules with their operations by ids
abbrev pub public_stored : List StoredModule → List StoredModule
public_stored [] = []
public_stored (m ∷ ms) = cond m.is_private [] (m ∷ []) ++ public_stored ms

-- what is kept so far, and of the modules that are left those that will be
pub record IsKeepingPublic (old new left : List StoredModule) : Type 0 where
  pub same : new ++ public_stored left ≡ public_stored old
  pub fits : length new + length left < 2 ^ 32

one_or_none : (b : Bool) (m : StoredModule) → length (cond b [] (m ∷ [])) ≡ cond b 0 1
one_or_none true m = refl
one_or_none false m = refl

-- one more module was looked at
pub keeping_more : (old new next left more : List StoredModule) (m : StoredModule) → IsKeepingPublic old new left → left ≡ m ∷ more → next ≡ new ++ cond m.is_private [] (m ∷ [])
    → IsKeepingPublic old next more
keeping_more old new next left more m keeping split is = record {
  same = ap (λ xs. xs ++ public_stored more) is ∙ append_assoc new (cond m.is_private [] (m ∷ [])) (public_stored more) ∙ ap (λ xs. new ++ public_stored xs) (sym split) ∙ keeping.same;
  fits = go m.is_private is;
}
  where
    go : (b : Bool) → next ≡ new ++ cond b [] (m ∷ []) → length next + length more < 2 ^ 32
    go b e =
        let size : length next ≡ length new + length (cond b [] (m ∷ [])) = ap length e ∙ length-append new (cond b [] (m ∷ [])) in
        let before : length left ≡ length (m ∷ more) = ap length split in
        by_mark b size before
      where
        by_mark : (b : Bool) → length next ≡ length new + length (cond b [] (m ∷ [])) → length left ≡ length (m ∷ more) → length next + length more < 2 ^ 32
        by_mark true size before = omega (arith, keeping.fits)
        by_mark false size before = omega (arith, keeping.fits)

-- nothing is left
pub all_public : (old new left : List StoredModule) → IsKeepingPublic old new left → left ≡ [] → map numbered_module new ≡ public_modules (map numbered_module old)
all_public old new left keeping none =
    ap (map numbered_module) (sym (append-nil new) ∙ ap (λ xs. new ++ public_stored xs) (sym none) ∙ keeping.same) ∙ numbered old
  where
    numbered : (ms : List StoredModule) → map numbered_module (public_stored ms) ≡ public_modules (map numbered_module ms)
    numbered [] = refl
    numbered (m ∷ ms) = go m.is_private (numbered ms)
      where
        go : (b : Bool) → map numbered_module (public_stored ms) ≡ public_modules (map numbered_module ms)
            → map numbered_module (cond b [] (m ∷ []) ++ public_stored ms) ≡ cond b (public_modules (map numbered_module ms)) (numbered_module m ∷ public_modules (map numbered_module ms))
        go true rest = rest
        go false rest = ap (λ xs. numbered_module m ∷ xs) rest

-- ---- what is left of a flat design

-- whether the symbol of each module of a list meets P is told by its mark
record IsToldByMark (P : List _ → Type 0) (m : Module) : Type 0 where
  public : m.is_private ≡ false → P m.symbol
  private : m.is_private ≡ true → P m.symbol → ⊥

left_by_marks : (P : List _ → Type 0) (d ms : Design) → ((m : Module) → In m ms → IsToldByMark P m)
    → AreReachedOf P (map (flat_module d) ms) (public_modules (map (λ (m : Module). record m { body = kept_body d m }) ms))
left_by_marks P d [] told = refl
left_by_marks P d (m ∷ ms) told = go m.is_private refl (left_by_marks P d ms (λ x here. told x (inr here)))
  where
    rest : Design
    rest = public_modules (map (λ (x : Module). record x { body = kept_body d x }) ms)

    go : (b : Bool) → m.is_private ≡ b → AreReachedOf P (map (flat_module d) ms) rest
        → AreReachedOf P (flat_module d m ∷ map (flat_module d) ms) (cond b rest (record m { body = cond b [] (flat_body (depth d) d m.body) } ∷ rest))
    go true mark others = inr ((told m (inl refl)).private mark, others)
    go false mark others = inl (rest, refl, (told m (inl refl)).public mark, others)

-- the public modules of a fit design, each with its flat body, are the design flattened
pub public_left : (d : Design) → IsFit d → IsFlattened d (public_modules (emptied_design d))
public_left d fit = left_by_marks (IsReached (flat_design d)) d d (λ m here. record { public = public m here; private = private m here })
  where
    found : (m : Module) → In m d → find_module d m.symbol ≡ Some m
    found m here = let position = position_of_In m d here in (found_at d (distinct_symbols d fit.unrefused) position.0 m position.1).1

    public : (m : Module) → In m d → m.is_private ≡ false → IsReached (flat_design d) m.symbol
    public m here mark = public_reached (flat_design d) m.symbol ((flat_inlines d fit).public m.symbol (m, found m here, mark))

    -- what is found in the flat design was made of what is found in the other one
    was_there : (s : Name) (x : Module) → find_module (flat_design d) s ≡ Some x → (m : Module) × (find_module d s ≡ Some m) × (flat_module d m ≡ x)
    was_there s x is = go (slice_get d number.0) refl
      where
        number : (i : ℕ) × (symbol_position s (symbols_in (flat_design d)) ≡ Some i)
        number = number_found (flat_design d) s x is

        there : (m : Module) × (slice_get (flat_design d) number.0 ≡ Some m) × (m.symbol ≡ s) × (find_module (flat_design d) s ≡ Some m)
        there = position_found (flat_design d) s number.0 number.1

        go : (y : Option Module) → slice_get d number.0 ≡ y → (m : Module) × (find_module d s ≡ Some m) × (flat_module d m ≡ x)
        go None none =
            let clash : Some there.0 ≡ None = sym there.1 ∙ slice_get-map (flat_module d) d number.0 ∙ ap (option_map (flat_module d)) none in cc
        go (Some m) at =
            let one : Some there.0 ≡ Some (flat_module d m) = sym there.1 ∙ slice_get-map (flat_module d) d number.0 ∙ ap (option_map (flat_module d)) at in
            let other : Some there.0 ≡ Some x = sym there.3 ∙ is in
            let same : flat_module d m ≡ there.0 = cc in
            let last : flat_module d m ≡ x = cc in
            (m, subst (λ t. find_module d t ≡ Some m) (ap (λ (z : Module). z.symbol) same ∙ there.2) (found_at d (distinct_symbols d fit.unrefused) number.0 m at).1, last)

    private : (m : Module) → In m d → m.is_private ≡ true → IsReached (flat_design d) m.symbol → ⊥
    private m here mark (top, zero, (x, is, public), same) =
        let was = was_there top x is in
        let both : Some was.0 ≡ Some m = sym was.1 ∙ ap (find_module d) same ∙ found m here in
        let one : was.0 ≡ m = cc in
        let clash : true ≡ false = sym mark ∙ ap (λ (z : Module). z.is_private) (sym one) ∙ ap (λ (z : Module). z.is_private) was.2 ∙ public in cc
    private m here mark (top, suc k, public, chain) = go (find_module (flat_design d) caller.0) refl caller.2
      where
        caller : (c : Name) × Chain (calls (flat_design d)) k top c × In m.symbol (calls (flat_design d) c)
        caller = last_step (calls (flat_design d)) k top m.symbol chain

        is_private : private_found d m.symbol ≡ Some m
        is_private = ap (λ y. option_and_then if_private y) (found m here) ∙ ap (λ b. cond b (Some m) None) mark

        go : (y : Option Module) → find_module (flat_design d) caller.0 ≡ y → In m.symbol (callee_symbols (body_of (find_module (flat_design d) caller.0))) → ⊥
        go None none called = absurd (subst (λ o. In m.symbol (callee_symbols (body_of o))) none called)
        go (Some x) is called =
            let was = was_there caller.0 x is in
            let inside : In m.symbol (callee_symbols x.body) = subst (λ o. In m.symbol (callee_symbols (body_of o))) is called in
            let gone : private_found d m.symbol ≡ None =
            flat_calls d fit.valid.finite caller.0 was.0 was.1 m.symbol (subst (λ (z : Module). In m.symbol (callee_symbols z.body)) (sym was.2) inside) in
            let clash : Some m ≡ None = sym is_private ∙ gone in cc
