-- Each module of an accepted design has a flat copy.
use Rattle.std.proofs.Common.{◌≡◌, ◌⊎◌, ℕ, zero, suc, ◌≤◌, ◌<◌, Bool, true, false, List, [], ◌∷◌, map, Option, Some, None, refl, sym, ap, subst, ◌∙◌, inl, inr, arith}
use Rattle.wiring.specs.Wiring.{In, Chain, IsHeight, greatest}
use Rattle.wiring.proofs.Heights.{FallsAlong-height}
use Rattle.hw_model.specs.Types.{Name}
use Rattle.hw_model.specs.Design.{Module, Design, same_name, find_module}
use Rattle.hw_model.specs.Equality.{name_self, name_from}
use Rattle.hw_model.specs.Hierarchy.{calls, HasNoRecursion}
use Rattle.hw_model.proofs.Content.{call_heights}
use Rattle.hw_model.proofs.Finite.{module_found}
use Rattle.op_verifier.specs.Verdict.{IsAccepted}
use Rattle.printing_laws.specs.Printable.{Printable}
use Rattle.acceptance_laws.specs.Keeps.{IsFit}
use Rattle.acceptance_laws.proofs.Accepted.{accepted_fit}
use Rattle.pass_laws.specs.Remaining.{symbols, IsPublic, IsReached}
use Rattle.inline_pass.specs.DeadModules.{AreReachedOf, IsWithoutDead}
use Rattle.inline_pass.specs.Flattening.{flat_design, IsFlattened}
use Rattle.inline_pass.proofs.DeadModulesGone.{without_dead_fit}
use Rattle.inline_pass.proofs.FlatteningLaw.{flat_fit}
use Rattle.aggregate_lower.specs.Lowering.{lowered_aggregates}
use Rattle.miter_blast.specs.FlatCopy.{is_other, only_public, IsFlatCopy}
use Rattle.miter_blast.proofs.Marks.{marked_accepted}

-- ---- names that meet something

-- a name meets it or does not
abbrev IsTold : (Name → Type 0) → Name → Type 0
IsTold P s = P s ⊎ (P s → ⊥)

-- one of a list does
abbrev SomeMeets : (Name → Type 0) → List Name → Type 0
SomeMeets P xs = (x : Name) × In x xs × P x

-- none of a list does
abbrev NoneMeets : (Name → Type 0) → List Name → Type 0
NoneMeets P xs = (x : Name) → In x xs → P x → ⊥

some_or_none : (P : Name → Type 0) (xs : List Name) → ((x : Name) → In x xs → IsTold P x) → SomeMeets P xs ⊎ NoneMeets P xs
some_or_none P [] told = inr (λ x here meets. absurd here)
some_or_none P (x ∷ xs) told = go (told x (inl refl)) (some_or_none P xs (λ y here. told y (inr here)))
  where
    none_here : (P x → ⊥) → NoneMeets P xs → NoneMeets P (x ∷ xs)
    none_here fails none y (inl same) meets = fails (subst P same meets)
    none_here fails none y (inr later) meets = none y later meets

    go : IsTold P x → SomeMeets P xs ⊎ NoneMeets P xs → SomeMeets P (x ∷ xs) ⊎ NoneMeets P (x ∷ xs)
    go (inl meets) rest = inl (x, inl refl, meets)
    go (inr fails) (inl (y, here, meets)) = inl (y, inr here, meets)
    go (inr fails) (inr none) = inr (none_here fails none)

-- ---- what instances lead to

-- instances lead from the module of one symbol to that of another
abbrev LeadsTo : Design → Name → Name → Type 0
LeadsTo d b a = (k : ℕ) × Chain (calls d) k a b

module _ (d : Design) (h : Name → ℕ) (height : IsHeight (calls d) h) where
  leads_by_height : (n : ℕ) (a b : Name) → h a ≤ n → IsTold (LeadsTo d b) a
  leads_by_height zero a b low = let above : h a ≡ suc (greatest (map h (calls d a))) = height a in absurd (omega arith)
  leads_by_height (suc n) a b low =
      go (same_name a b) refl
      (some_or_none (LeadsTo d b) (calls d a) (λ c need. let lower : h c < h a = FallsAlong-height (calls d) h height a c need in leads_by_height n c b (omega arith)))
    where
      never : same_name a b ≡ false → NoneMeets (LeadsTo d b) (calls d a) → LeadsTo d b a → ⊥
      never other none (zero, same) = let clash : true ≡ false = sym (name_self b) ∙ ap (λ x. same_name x b) (sym same) ∙ other in cc
      never other none (suc k, (c, need, chain)) = none c need (k, chain)

      go : (t : Bool) → same_name a b ≡ t → SomeMeets (LeadsTo d b) (calls d a) ⊎ NoneMeets (LeadsTo d b) (calls d a) → IsTold (LeadsTo d b) a
      go true same next = inl (zero, name_from a b same)
      go false other (inl (c, need, (k, chain))) = inl (suc k, (c, need, chain))
      go false other (inr none) = inr (never other none)

leads_told : (d : Design) → HasNoRecursion d → (a b : Name) → IsTold (LeadsTo d b) a
leads_told d finite a b = let high = call_heights d finite in leads_by_height d high.0 high.1 (high.0 a) a b (omega arith)

public_told : (d : Design) (s : Name) → IsTold (IsPublic d) s
public_told d s = go (find_module d s) refl
  where
    by_mark : (m : Module) (b : Bool) → find_module d s ≡ Some m → m.is_private ≡ b → IsTold (IsPublic d) s
    by_mark m false is mark = inl (m, is, mark)
    by_mark m true is mark = inr other
      where
        other : IsPublic d s → ⊥
        other (n, also, public) =
            let both : Some m ≡ Some n = sym is ∙ also in
            let one : m ≡ n = cc in
            let clash : true ≡ false = sym mark ∙ ap (λ (x : Module). x.is_private) one ∙ public in cc

    go : (o : Option Module) → find_module d s ≡ o → IsTold (IsPublic d) s
    go None none = inr absent
      where
        absent : IsPublic d s → ⊥
        absent (n, also, public) = let clash : None ≡ Some n = sym none ∙ also in cc
    go (Some m) is = by_mark m m.is_private is refl

-- a public one leads there
abbrev LeadsFrom : Design → Name → Name → Type 0
LeadsFrom d t a = IsPublic d a × LeadsTo d t a

from_told : (d : Design) → HasNoRecursion d → (t a : Name) → IsTold (LeadsFrom d t) a
from_told d finite t a = go (public_told d a) (leads_told d finite a t)
  where
    go : IsTold (IsPublic d) a → IsTold (LeadsTo d t) a → IsTold (LeadsFrom d t) a
    go (inl public) (inl leads) = inl (public, leads)
    go (inl public) (inr never) = inr (λ both. never both.1)
    go (inr private) leads = inr (λ both. private both.0)

reached_told : (d : Design) → HasNoRecursion d → (t : Name) → IsTold (IsReached d) t
reached_told d finite t = go (some_or_none (LeadsFrom d t) (symbols d) (λ a here. from_told d finite t a))
  where
    never : NoneMeets (LeadsFrom d t) (symbols d) → IsReached d t → ⊥
    never none (top, k, public, chain) = none top (module_found d top public.0 public.1) (public, (k, chain))

    go : SomeMeets (LeadsFrom d t) (symbols d) ⊎ NoneMeets (LeadsFrom d t) (symbols d) → IsTold (IsReached d) t
    go (inl (top, here, (public, (k, chain)))) = inl (top, k, public, chain)
    go (inr none) = inr (never none)

-- ---- what is left

left_of : (P : Name → Type 0) → ((s : Name) → IsTold P s) → (d : Design) → (e : Design) × AreReachedOf P d e
left_of P told [] = ([], refl)
left_of P told (m ∷ d) = go (told m.symbol) (left_of P told d)
  where
    go : IsTold P m.symbol → (e : Design) × AreReachedOf P d e → (e : Design) × AreReachedOf P (m ∷ d) e
    go (inl meets) (rest, are) = (m ∷ rest, inl (rest, refl, meets, are))
    go (inr fails) (rest, are) = (rest, inr (fails, are))

without_dead_there : (d : Design) → HasNoRecursion d → (e : Design) × IsWithoutDead d e
without_dead_there d finite = left_of (IsReached d) (reached_told d finite) d

flattened_there : (d : Design) → IsFit d → (e : Design) × IsFlattened d e
flattened_there d fit = without_dead_there (flat_design d) (flat_fit d fit).valid.finite

pub copy_there : (d : Design) (s : Name) → IsAccepted d → Printable d → (c : Design) × IsFlatCopy d s c
copy_there d s accepted printable =
    let public = marked_accepted (is_other s) d accepted printable in
    let fit : IsFit (only_public d s) = accepted_fit (only_public d s) public.0 public.1 in
    let less : (e : Design) × IsWithoutDead (only_public d s) e = without_dead_there (only_public d s) fit.valid.finite in
    let flat : (f : Design) × IsFlattened less.0 f = flattened_there less.0 (without_dead_fit (only_public d s) less.0 fit less.1) in
    (lowered_aggregates flat.0, (less.0, flat.0, less.1, flat.1, refl))
