-- Whether a module before one has a symbol.
use Rattle.std.proofs.Common.{◌≡◌, ℕ, zero, suc, Bool, true, false, cond, nat_lt, is_some, option_map, List, [], ◌∷◌, map, take, Option, Some, None, refl, sym, ◌∙◌, arith, lt-ltb, le-ltb}
use Prim.Native.Nat.compare
use Rattle.hw_model.specs.Types.{Name}
use Rattle.hw_model.specs.Design.{same_name, find_module}
use Rattle.ir_store.specs.Symbols.{symbol_position}
use Rattle.ir_store.specs.Designs.{StoredModule, numbered_module}
use Rattle.ir_store.proofs.DesignLemmas.{same_name_back}

-- whether a position is before a number
abbrev pub is_before : Option ℕ → ℕ → Bool
is_before None n = false
is_before (Some m) n = nat_lt m n

pub named_before : (q : Name) (n : ℕ) (ms : List StoredModule)
    → is_some (find_module (take n (map numbered_module ms)) q) ≡ is_before (symbol_position q (map (λ (m : StoredModule). m.symbol) ms)) n
named_before q zero [] = refl
named_before q (suc n) [] = refl
named_before q zero (m ∷ ms) = sym (never_before (symbol_position q (map (λ (m : StoredModule). m.symbol) (m ∷ ms))))
  where
    never_before : (p : Option ℕ) → is_before p 0 ≡ false
    never_before None = refl
    never_before (Some i) = le-ltb i 0 (omega arith)
named_before q (suc n) (m ∷ ms) = rw (same_name_back m.symbol q) (go (same_name q m.symbol) (named_before q n ms))
  where
    following : (p : Option ℕ) → is_before (option_map suc p) (suc n) ≡ is_before p n
    following None = refl
    following (Some i) = rw (compare.suc-suc (suc i) n) refl

    go : (b : Bool) → is_some (find_module (take n (map numbered_module ms)) q) ≡ is_before (symbol_position q (map (λ (m : StoredModule). m.symbol) ms)) n
        → is_some (cond b (Some (numbered_module m)) (find_module (take n (map numbered_module ms)) q))
        ≡ is_before (cond b (Some 0) (option_map suc (symbol_position q (map (λ (m : StoredModule). m.symbol) ms)))) (suc n)
    go true r = sym (lt-ltb 0 (suc n) (omega arith))
    go false r = r ∙ sym (following (symbol_position q (map (λ (m : StoredModule). m.symbol) ms)))
