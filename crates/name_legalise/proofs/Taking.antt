-- A table takes a name that is no reserved word.
use Rattle.std.proofs.Common.{◌≡◌, ◌⊎◌, inl, inr, ℕ, ◌+◌, ◌<◌, ◌≤◌, ◌^◌, Bool, true, false, cond, List, [], ◌∷◌, ◌++◌, length, subst, refl, sym, ap, ◌∙◌, arith}
use Rattle.std.specs.Prelude.{Some, slice_get, Result, Ok, Err, OnErr}
use Rattle.hw_model.specs.Types.{Name}
use Rattle.fresh_names.specs.Fresh.{is_taken, free_name}
use Rattle.fresh_names.proofs.Taken.{one_more}
use Rattle.verilog_model.specs.Checks.{contains_name}
use Rattle.verilog_model.specs.Reserved.{reserved_words}
use Rattle.name_legalise.specs.Kept.{names_at, IsTable, with_reserved}
use Rattle.name_legalise.proofs.Members.{contains_name-is_taken}
use Rattle.name_legalise.proofs.Tables.{table_small, table_with, names_with, table_legal, names_more, given}

pub with_none : (ts : List Name) (w : Name) → is_taken reserved_words (free_name ts w) ≡ false → with_reserved ts w ≡ ts
unfolding with_reserved
with_none ts w e = ap (λ b. cond b (ts ++ free_name ts w ∷ []) ts) e

pub with_one : (ts : List Name) (w : Name) → is_taken reserved_words (free_name ts w) ≡ true → with_reserved ts w ≡ ts ++ free_name ts w ∷ []
unfolding with_reserved
with_one ts w e = ap (λ b. cond b (ts ++ free_name ts w ∷ []) ts) e

pub with_more : (ts : List Name) (w : Name) → length ts ≤ length (with_reserved ts w)
unfolding with_reserved
with_more ts w = go (is_taken reserved_words (free_name ts w)) where
  go : (b : Bool) → length ts ≤ length (cond b (ts ++ free_name ts w ∷ []) ts)
  go true = omega (arith, one_more ts (free_name ts w))
  go false = omega arith

at_last : (ts : List Name) (n : Name) → slice_get (ts ++ n ∷ []) (length ts) ≡ Some n
at_last [] n = refl
at_last (t ∷ ts) n = at_last ts n

-- the name at the end
pub read_last : (ts us : List Name) (n q : Name) (i : ℕ) → us ≡ ts ++ n ∷ [] → i ≡ length ts → Some q ≡ slice_get us i → q ≡ n
read_last ts us n q i took last read =
    let e : Some q ≡ Some n = read ∙ ap (slice_get us) last ∙ ap (λ l. slice_get l (length ts)) took ∙ at_last ts n in
    cc

-- ---- one name, or two

module _ (ts us : List Name) (w q : Name) (i : ℕ) (took : us ≡ ts ++ free_name ts w ∷ []) (last : i ≡ length ts) (read : Some q ≡ slice_get us i) where
  is_free : q ≡ free_name ts w
  is_free = read_last ts us (free_name ts w) q i took last read

  reserved_free : (b : Bool) → b ≡ contains_name q reserved_words → is_taken reserved_words (free_name ts w) ≡ b
  reserved_free b e = ap (is_taken reserved_words) (sym is_free) ∙ sym (contains_name-is_taken q reserved_words) ∙ sym e

  pub took_once : false ≡ contains_name q reserved_words → us ≡ with_reserved ts w ++ free_name (with_reserved ts w) w ∷ []
  took_once e = let none = sym (with_none ts w (reserved_free false e)) in took ∙ ap (λ l. l ++ free_name l w ∷ []) none

  pub once_last : false ≡ contains_name q reserved_words → i ≡ length (with_reserved ts w)
  once_last e = last ∙ ap length (sym (with_none ts w (reserved_free false e)))

  pub took_twice : true ≡ contains_name q reserved_words → us ≡ with_reserved ts w
  took_twice e = took ∙ sym (with_one ts w (reserved_free true e))

pub on_second : {X E : Type 0} (r : Result X E) (A B : Type 0) → OnErr r B → OnErr r (A ⊎ B)
on_second (Ok x) A B h = h
on_second (Err e) A B h = inr h

pub on_any : {X E : Type 0} (r : Result X E) (A : Type 0) → A → OnErr r A
on_any (Ok x) A h = tt
on_any (Err e) A h = h

-- ---- what becomes of the table

module _ (ts us : List Name) (ps : List ℕ) (w : Name) (h : IsTable ts ps) (small : length ps + 125 < 2 ^ 32) where
  pub with_small : length (with_reserved ts w) + 1 < 2 ^ 32
  with_small = omega (arith, small, table_small (with_reserved ts w) ps w (table_with ts ps w h small) small)

  pub table_kept : ((us ≡ ts) ⊎ (us ≡ with_reserved ts w)) → IsTable us ps
  table_kept (inl e) = subst (λ l. IsTable l ps) (sym e) h
  table_kept (inr e) = subst (λ l. IsTable l ps) (sym e) (table_with ts ps w h small)

  pub names_kept : ((us ≡ ts) ⊎ (us ≡ with_reserved ts w)) → names_at us ps ≡ names_at ts ps
  names_kept (inl e) = ap (λ l. names_at l ps) e
  names_kept (inr e) = ap (λ l. names_at l ps) e ∙ names_with ts ps w h small

  module _ (qs : List ℕ) (took : us ≡ with_reserved ts w ++ free_name (with_reserved ts w) w ∷ []) (last : qs ≡ ps ++ length (with_reserved ts w) ∷ []) where
    abbrev more : List Name
    more = with_reserved ts w

    pub table_added : IsTable us qs
    table_added =
        subst (λ l. IsTable l qs) (sym took)
        (subst (λ l. IsTable (more ++ free_name more w ∷ []) l) (sym last) (table_legal more ps (free_name more w) (table_with ts ps w h small)))

    pub names_added : names_at us qs ≡ names_at ts ps ++ free_name (reserved_words ++ names_at ts ps) w ∷ []
    names_added =
        let within : (i p : ℕ) → slice_get ps i ≡ Some p → p < length more = λ i p e. (table_with ts ps w h small).within i p e in
        ap (λ l. names_at l qs) took ∙ ap (names_at (more ++ free_name more w ∷ [])) last
        ∙ names_more more (free_name more w) ps within
        ∙ ap (λ l. l ++ free_name more w ∷ []) (names_with ts ps w h small)
        ∙ ap (λ n. names_at ts ps ++ n ∷ []) (given ts ps w h small)
