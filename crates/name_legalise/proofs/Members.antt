-- Names that are taken by one list or another.
use Rattle.std.proofs.Common.{◌≡◌, Bool, true, false, cond, ◌||◌, nat_eq, List, [], ◌∷◌, ◌++◌, refl, sym, ◌∙◌}
use Rattle.std.specs.Cmp.Lexicographic.{pointwise}
use Rattle.hw_model.specs.Types.{Name}
use Rattle.hw_model.specs.Design.{same_name}
use Rattle.verilog_model.specs.Checks.{contains_name}
use Rattle.fresh_names.specs.Fresh.{is_taken}
use Rattle.std.proofs.lemmas.Bool.{or_right, or_from}

pub is_taken-append : (ts us : List Name) (q : Name) → is_taken (ts ++ us) q ≡ (is_taken ts q || is_taken us q)
is_taken-append [] us q = refl
is_taken-append (t ∷ ts) us q = go (pointwise nat_eq t q) (is_taken-append ts us q) where
  go : (b : Bool) → is_taken (ts ++ us) q ≡ (is_taken ts q || is_taken us q) → cond b true (is_taken (ts ++ us) q) ≡ (cond b true (is_taken ts q) || is_taken us q)
  go true e = refl
  go false e = e

-- both say that a name is one of some names
pub contains_name-is_taken : (q : Name) (ts : List Name) → contains_name q ts ≡ is_taken ts q
contains_name-is_taken q [] = refl
contains_name-is_taken q (t ∷ ts) = go (same_name t q) (contains_name-is_taken q ts) where
  go : (b : Bool) → contains_name q ts ≡ is_taken ts q → (b || contains_name q ts) ≡ cond b true (is_taken ts q)
  go true e = refl
  go false e = e

pub neither_second : (a b : Bool) → (a || b) ≡ false → b ≡ false
neither_second true b p = cc
neither_second false b p = p

-- what is free of both lists together is free of the second
pub free_second : (ts us : List Name) (q : Name) → is_taken (ts ++ us) q ≡ false → is_taken us q ≡ false
free_second ts us q e = neither_second (is_taken ts q) (is_taken us q) (sym (is_taken-append ts us q) ∙ e)

pub free_both : (ts us : List Name) (q : Name) → is_taken ts q ≡ false → is_taken us q ≡ false → is_taken (ts ++ us) q ≡ false
free_both ts us q e f = is_taken-append ts us q ∙ or_from (is_taken ts q) (is_taken us q) e f

pub taken_after : (ts us : List Name) (q : Name) → is_taken us q ≡ true → is_taken (ts ++ us) q ≡ true
taken_after ts us q e = is_taken-append ts us q ∙ or_right (is_taken ts q) (is_taken us q) e
