-- The modules of a design whose symbols meet something, in order.
use Rattle.std.proofs.Common.{◌≡◌, ℕ, suc, Bool, true, false, cond, List, [], ◌∷◌, length, Some, slice_get, refl, sym, ap, subst, ◌∙◌, ◌⊎◌, inl, inr}
use Rattle.std.specs.Prelude.{MatchBool}
use Rattle.std.specs.List.{list_all}
use Rattle.std.specs.Cmp.Lexicographic.{same_text}
use Rattle.wiring.specs.Wiring.{In}
use Rattle.graphs.specs.Graphs.{has_mark}
use Rattle.hw_model.specs.Types.{Name}
use Rattle.hw_model.specs.Design.{Module, Design, same_name, find_module}
use Rattle.pass_laws.specs.Remaining.{symbols, AreThose}
use Rattle.inline_pass.specs.DeadModules.{AreReachedOf}
use Rattle.inline_pass.specs.Marks.{marked}

module _ (P : Name → Type 0) where
  -- ---- by marks

  -- the marks say of each module whether its symbol meets P
  abbrev pub Says : List Bool → Design → Type 0
  Says marks d = (i : ℕ) (m : Module) → slice_get d i ≡ Some m → MatchBool (has_mark marks i) (P m.symbol) (P m.symbol → ⊥)

  pub marked_reached : (d : Design) (marks : List Bool) → length marks ≡ length d → Says marks d → AreReachedOf P d (marked marks d)
  marked_reached [] [] same says = refl
  marked_reached [] (b ∷ bs) same says = refl
  marked_reached (m ∷ d) [] same says = cc
  marked_reached (m ∷ d) (b ∷ bs) same says =
      go b (says 0 m refl) (marked_reached d bs (cc) (λ i n at. says (suc i) n at))
    where
      go : (b : Bool) → MatchBool b (P m.symbol) (P m.symbol → ⊥) → AreReachedOf P d (marked bs d) → AreReachedOf P (m ∷ d) (cond b (m ∷ marked bs d) (marked bs d))
      go true meets rest = inl (marked bs d, refl, meets, rest)
      go false fails rest = inr (fails, rest)

  -- where each module has its mark, all are there
  pub all_reached : (d : Design) (marks : List Bool) → length marks ≡ length d → Says marks d → list_all (λ b. b) marks ≡ true → AreReachedOf P d d
  all_reached [] marks same says all = refl
  all_reached (m ∷ d) [] same says all = cc
  all_reached (m ∷ d) (b ∷ bs) same says all =
      go b (says 0 m refl) all (all_reached d bs (cc) (λ i n at. says (suc i) n at))
    where
      go : (b : Bool) → MatchBool b (P m.symbol) (P m.symbol → ⊥) → list_all (λ b. b) (b ∷ bs) ≡ true → (list_all (λ b. b) bs ≡ true → AreReachedOf P d d)
          → AreReachedOf P (m ∷ d) (m ∷ d)
      go true meets marks_all rest = inl (d, refl, meets, rest marks_all)
      go false fails marks_all rest = cc

  -- ---- what is there

  pub reached_once : (d e f : Design) → AreReachedOf P d e → AreReachedOf P d f → e ≡ f
  reached_once [] e f first second = first ∙ sym second
  reached_once (m ∷ d) e f (inl (rest, is, meets, more)) (inl (others, are, also, these)) = is ∙ ap (λ xs. m ∷ xs) (reached_once d rest others more these) ∙ sym are
  reached_once (m ∷ d) e f (inl (rest, is, meets, more)) (inr (fails, these)) = absurd (fails meets)
  reached_once (m ∷ d) e f (inr (fails, more)) (inl (others, are, meets, these)) = absurd (fails meets)
  reached_once (m ∷ d) e f (inr (fails, more)) (inr (also, these)) = reached_once d e f more these

  -- a symbol that meets P finds what it found
  pub reached_found : (d e : Design) → AreReachedOf P d e → (s : Name) → P s → find_module e s ≡ find_module d s
  reached_found [] e are s meets = ap (λ xs. find_module xs s) are
  reached_found (m ∷ d) e (inl (rest, is, first, more)) s meets =
      ap (λ xs. find_module xs s) is ∙ ap (λ x. cond (same_name m.symbol s) (Some m) x) (reached_found d rest more s meets)
  reached_found (m ∷ d) e (inr (fails, more)) s meets = go (same_name m.symbol s) refl (reached_found d e more s meets)
    where
      go : (b : Bool) → same_name m.symbol s ≡ b → find_module e s ≡ find_module d s → find_module e s ≡ cond b (Some m) (find_module d s)
      go true same rest = absurd (fails (subst P (sym (same_text m.symbol s (sym same))) meets))
      go false other rest = rest

  -- what is there was there, and its symbol meets P
  pub reached_member : (m : Module) (d e : Design) → AreReachedOf P d e → In m e → In m d
  reached_member m [] e are here = absurd (subst (In m) are here)
  reached_member m (x ∷ d) e (inl (rest, is, meets, more)) here = go (subst (In m) is here) (reached_member m d rest more)
    where
      go : In m (x ∷ rest) → (In m rest → In m d) → In m (x ∷ d)
      go (inl same) following = inl same
      go (inr later) following = inr (following later)
  reached_member m (x ∷ d) e (inr (fails, more)) here = inr (reached_member m d e more here)

  pub reached_meets : (m : Module) (d e : Design) → AreReachedOf P d e → In m e → P m.symbol
  reached_meets m [] e are here = absurd (subst (In m) are here)
  reached_meets m (x ∷ d) e (inl (rest, is, meets, more)) here = go (subst (In m) is here) (reached_meets m d rest more)
    where
      go : In m (x ∷ rest) → (In m rest → P m.symbol) → P m.symbol
      go (inl same) following = subst (λ (y : Module). P y.symbol) (sym same) meets
      go (inr later) following = following later
  reached_meets m (x ∷ d) e (inr (fails, more)) here = reached_meets m d e more here

  -- it is known of each module of the first design
  pub is_known : (m : Module) (d e : Design) → AreReachedOf P d e → In m d → P m.symbol ⊎ (P m.symbol → ⊥)
  is_known m [] e are here = absurd here
  is_known m (x ∷ d) e (inl (rest, is, meets, more)) (inl same) = inl (subst (λ (y : Module). P y.symbol) (sym same) meets)
  is_known m (x ∷ d) e (inl (rest, is, meets, more)) (inr later) = is_known m d rest more later
  is_known m (x ∷ d) e (inr (fails, more)) (inl same) = inr (subst (λ (y : Module). P y.symbol → ⊥) (sym same) fails)
  is_known m (x ∷ d) e (inr (fails, more)) (inr later) = is_known m d e more later

  -- their symbols
  pub reached_symbols : (d e : Design) → AreReachedOf P d e → AreThose P (symbols d) (symbols e)
  reached_symbols [] e are = ap symbols are
  reached_symbols (m ∷ d) e (inl (rest, is, meets, more)) = inl (symbols rest, ap symbols is, meets, reached_symbols d rest more)
  reached_symbols (m ∷ d) e (inr (fails, more)) = inr (fails, reached_symbols d e more)
