-- Free names stand once, and names that stand once are free.
use Rattle.std.proofs.Common.{◌≡◌, ◌+◌, ◌<◌, ◌^◌, Bool, true, false, cond, List, [], ◌∷◌, ◌++◌, length, refl, sym, ap, ap₂, ◌∙◌, arith}
use Rattle.hw_model.specs.Types.{Name}
use Rattle.fresh_names.specs.Fresh.{is_taken, free_name, fresh}
use Rattle.fresh_names.proofs.Taken.{same_back, one_more}
use Rattle.fresh_names.proofs.Free.{name_stays, name_free}
use Rattle.op_verifier.specs.Headers.{is_among, has_seen}

taken_among : (name : Name) (ts : List Name) → is_taken ts name ≡ is_among name ts
taken_among name [] = refl
taken_among name (t ∷ ts) = ap₂ (λ a b. cond a true b) (same_back t name) (taken_among name ts)

-- names of which none stands twice are free in turn
pub fresh_same : (seen ns : List Name) → has_seen seen ns ≡ false → fresh seen ns ≡ ns
fresh_same seen [] once = refl
fresh_same seen (n ∷ ns) once = go (is_among n seen) refl once (fresh_same (seen ++ n ∷ []) ns)
  where
    go : (b : Bool) → is_among n seen ≡ b → cond b true (has_seen (seen ++ n ∷ []) ns) ≡ false → (has_seen (seen ++ n ∷ []) ns ≡ false → fresh (seen ++ n ∷ []) ns ≡ ns)
        → fresh seen (n ∷ ns) ≡ n ∷ ns
    go true is h rest = cc
    go false is h rest =
        let own : free_name seen n ≡ n = name_stays seen n (taken_among n seen ∙ is) in
        ap₂ (λ x xs. x ∷ xs) own (ap (λ x. fresh (seen ++ x ∷ []) ns) own ∙ rest h)

-- free names stand once, where there are not too many
pub fresh_once : (ts ws : List Name) → length ts + length ws < 2 ^ 64 → has_seen ts (fresh ts ws) ≡ false
fresh_once ts [] few = refl
fresh_once ts (w ∷ ws) few =
    ap₂ (λ a b. cond a true b)
    (sym (taken_among (free_name ts w) ts) ∙ name_free ts w (omega (arith, few)))
    (fresh_once (ts ++ free_name ts w ∷ []) ws (omega (arith, few, one_more ts (free_name ts w))))
