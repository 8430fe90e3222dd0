-- Symbols of modules of which nothing is refused.
use Rattle.std.proofs.Common.{◌≡◌, ℕ, zero, suc, ◌+◌, ◌<◌, Bool, true, false, cond, is_some, List, [], ◌∷◌, take, slice_get, Some, None, option_map, refl, sym, ap, ◌∙◌, arith, ◌⊎◌, inl, inr}
use Rattle.hw_model.specs.Types.{Name}
use Rattle.hw_model.specs.Design.{Module, Design, same_name, find_module}
use Rattle.hw_model.specs.Equality.{name_self}
use Rattle.op_verifier.specs.Headers.{header_cause}
use Rattle.op_verifier.specs.Faults.{header_refusal, body_fault, module_fault, faults_from, first_fault}
use Rattle.op_verifier.proofs.Unrefused.{or_none, map_none, no_header_cause}

-- no module before one has its symbol
not_before : (d : Design) (n : ℕ) (ms : List Module) → faults_from d n ms ≡ None → (i : ℕ) (m : Module) → slice_get ms i ≡ Some m
    → is_some (find_module (take (n + i) d) m.symbol) ≡ false
not_before d n [] h i m there = cc
not_before d n (x ∷ ms) h zero m there =
    let both = or_none (module_fault d n x) (faults_from d (suc n) ms) h in
    let parts = or_none (option_map (header_refusal x) (header_cause d n x)) (body_fault d x.ports x.body x.body) both.0 in
    let none = no_header_cause d n x (map_none (header_refusal x) (header_cause d n x) parts.0) in
    let same : x ≡ m = cc in
    let e : n + 0 ≡ n = omega arith in
    ap (λ (k : ℕ). is_some (find_module (take k d) m.symbol)) e
    ∙ ap (λ (y : Module). is_some (find_module (take n d) y.symbol)) (sym same)
    ∙ none.symbol
not_before d n (x ∷ ms) h (suc i) m there =
    let both = or_none (module_fault d n x) (faults_from d (suc n) ms) h in
    let e : n + suc i ≡ suc n + i = omega arith in
    ap (λ (k : ℕ). is_some (find_module (take k d) m.symbol)) e ∙ not_before d (suc n) ms both.1 i m there

-- a module that stands before is found
found_before : (ms : List Module) (i j : ℕ) (m : Module) (symbol : Name) → slice_get ms i ≡ Some m → i < j → m.symbol ≡ symbol
    → is_some (find_module (take j ms) symbol) ≡ true
found_before [] i j m symbol there less same = cc
found_before (x ∷ ms) i zero m symbol there less same = absurd (omega (arith, less))
found_before (x ∷ ms) zero (suc j) m symbol there less same =
    let e : x ≡ m = cc in
    ap (λ (b : Bool). is_some (cond b (Some x) (find_module (take j ms) symbol)))
    (ap (λ (s : Name). same_name x.symbol s) (sym same) ∙ ap (λ (y : Module). same_name y.symbol m.symbol) e ∙ name_self m.symbol)
found_before (x ∷ ms) (suc i) (suc j) m symbol there less same = go (same_name x.symbol symbol) (found_before ms i j m symbol there (omega (arith, less)) same)
  where
    go : (b : Bool) → is_some (find_module (take j ms) symbol) ≡ true → is_some (cond b (Some x) (find_module (take j ms) symbol)) ≡ true
    go true h = refl
    go false h = h

clash : (d : Design) → first_fault d ≡ None → (i j : ℕ) (m n : Module) → slice_get d i ≡ Some m → slice_get d j ≡ Some n → m.symbol ≡ n.symbol → i < j → ⊥
clash d h i j m n at_i at_j same less =
    let found : is_some (find_module (take j d) n.symbol) ≡ true = found_before d i j m n.symbol at_i less same in
    let e : 0 + j ≡ j = omega arith in
    let none : is_some (find_module (take j d) n.symbol) ≡ false = ap (λ (k : ℕ). is_some (find_module (take k d) n.symbol)) (sym e) ∙ not_before d 0 d h j n at_j in
    let same : true ≡ false = sym found ∙ none in cc

pub distinct_symbols : (d : Design) → first_fault d ≡ None → (i j : ℕ) (m n : Module) → slice_get d i ≡ Some m → slice_get d j ≡ Some n → m.symbol ≡ n.symbol → i ≡ j
distinct_symbols d h i j m n at_i at_j same = go (order i j)
  where
    order : (a b : ℕ) → (a < b) ⊎ ((b < a) ⊎ (a ≡ b))
    order zero zero = inr (inr refl)
    order zero (suc b) = inl (omega arith)
    order (suc a) zero = inr (inl (omega arith))
    order (suc a) (suc b) = go (order a b)
      where
        go : (a < b) ⊎ ((b < a) ⊎ (a ≡ b)) → (suc a < suc b) ⊎ ((suc b < suc a) ⊎ (suc a ≡ suc b))
        go (inl l) = inl (omega (arith, l))
        go (inr (inl l)) = inr (inl (omega (arith, l)))
        go (inr (inr e)) = inr (inr (ap suc e))

    go : (i < j) ⊎ ((j < i) ⊎ (i ≡ j)) → i ≡ j
    go (inl l) = absurd (clash d h i j m n at_i at_j same l)
    go (inr (inl l)) = absurd (clash d h j i n m at_j at_i (sym same) l)
    go (inr (inr e)) = e
