-- Constants and entries that are kept.
use Rattle.std.proofs.Common.{◌≡◌, ◌↔◌, IsTrue, Bool, true, false, List, [], ◌∷◌, refl}
use Rattle.hw_model.specs.Kinds.{Literal}
use Rattle.hw_model.specs.KindViews.{literals_of}
use Rattle.stored_form.specs.Bytes.{Each}
use Rattle.stored_form.specs.Constants.{kept_literal, kept_literals}

-- constants of an aggregate are kept where each is
pub each_kept : (ls : List Literal) → kept_literals (literals_of ls) ≡ literals_of ls → Each (λ l. kept_literal l ≡ l) ls
each_kept [] same = tt
each_kept (l ∷ ls) same =
    let first : kept_literal l ≡ l = cc in
    let rest : kept_literals (literals_of ls) ≡ literals_of ls = cc in
    (first, each_kept ls rest)

pub all_kept : (ls : List Literal) → Each (λ l. kept_literal l ≡ l) ls → kept_literals (literals_of ls) ≡ literals_of ls
all_kept [] h = refl
all_kept (l ∷ ls) h =
    let first : kept_literal l ≡ l = h.0 in
    let rest : kept_literals (literals_of ls) ≡ literals_of ls = all_kept ls h.1 in cc

-- what is dropped is not kept
pub dropped_told : (r d : Bool) → r ≡ d → r ≡ true → IsTrue false ↔ (d ≡ false)
dropped_told r d same dropped = (λ never. cc, λ kept. cc)
