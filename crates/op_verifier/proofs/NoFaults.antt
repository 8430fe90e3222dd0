-- What a design without a refused module is, by the positions of its modules.
use Rattle.std.proofs.Common.{◌≡◌, ℕ, zero, suc, ◌+◌, ◌<◌, Bool, true, false, cond, List, [], ◌∷◌, take, slice_get, Option, Some, None, is_some, refl, sym, ap, ap₂, ◌∙◌, arith}
use Rattle.std.specs.Cmp.Lexicographic.{same_text}
use Rattle.hw_model.specs.Types.{Name}
use Rattle.hw_model.specs.Design.{Module, Design, same_name, find_module}
use Rattle.design_cycles.specs.Asked.{HasDistinctSymbols}
use Rattle.op_verifier.specs.Answers.{or_else}
use Rattle.op_verifier.specs.Faults.{module_fault, faults_from}

-- no module of the list is refused, the first one having a number
pub no_faults : (d : Design) (n : ℕ) (ms : List Module) → ((i : ℕ) (m : Module) → slice_get ms i ≡ Some m → module_fault d (n + i) m ≡ None) → faults_from d n ms ≡ None
no_faults d n [] all = refl
no_faults d n (x ∷ ms) all =
    let e : n ≡ n + 0 = omega arith in
    ap₂ (λ a b. or_else a b) (ap (λ k. module_fault d k x) e ∙ all 0 x refl)
    (no_faults d (suc n) ms (λ i m there. let f : suc n + i ≡ n + suc i = omega arith in ap (λ k. module_fault d k m) f ∙ all (suc i) m there))

-- what is found among the first modules stands there
found_early : (e : Design) (i : ℕ) (s : Name) (x : Module) → find_module (take i e) s ≡ Some x → (j : ℕ) × (j < i) × (slice_get e j ≡ Some x) × (x.symbol ≡ s)
found_early e zero s x is = cc
found_early [] (suc i) s x is = cc
found_early (y ∷ e) (suc i) s x is = go (same_name y.symbol s) refl is (found_early e i s x)
  where
    go : (b : Bool) → same_name y.symbol s ≡ b → cond b (Some y) (find_module (take i e) s) ≡ Some x
        → (find_module (take i e) s ≡ Some x → (j : ℕ) × (j < i) × (slice_get e j ≡ Some x) × (x.symbol ≡ s))
        → (j : ℕ) × (j < suc i) × (slice_get (y ∷ e) j ≡ Some x) × (x.symbol ≡ s)
    go true same here rest =
        let first : y ≡ x = cc in
        (0, omega arith, here, ap (λ (z : Module). z.symbol) (sym first) ∙ same_text y.symbol s (sym same))
    go false same here rest =
        let later = rest here in
        let less : later.0 < i = later.1 in
        (suc later.0, omega arith, later.2, later.3)

-- no module before one has its symbol
pub none_before : (e : Design) → HasDistinctSymbols e → (i : ℕ) (n : Module) → slice_get e i ≡ Some n → is_some (find_module (take i e) n.symbol) ≡ false
none_before e distinct i n there = go (find_module (take i e) n.symbol) refl
  where
    go : (x : Option Module) → find_module (take i e) n.symbol ≡ x → is_some x ≡ false
    go None is = refl
    go (Some x) is =
        let early = found_early e i n.symbol x is in
        let less : early.0 < i = early.1 in
        let same : early.0 ≡ i = distinct early.0 i x n early.2 there early.3 in
        absurd (omega arith)
