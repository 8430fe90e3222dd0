-- A table of taken names, of which some are the legal ones.
use Rattle.std.proofs.Common.{◌≡◌, ◌⊎◌, inl, inr, ℕ, zero, suc, ◌+◌, ◌<◌, ◌≤◌, ◌^◌, Bool, true, false, cond, ◌||◌, nat_eq, List, [], ◌∷◌, ◌++◌, length, get_or, append_assoc, refl, sym, ap, ◌∙◌, true≢false, arith, length-append}
use Rattle.std.specs.Prelude.{Some, slice_get}
use Rattle.std.specs.Cmp.Lexicographic.{pointwise}
use Rattle.std.proofs.lemmas.List.{get_or_append_left}
use Rattle.std.proofs.Math.Seq.{get_or-append_seam}
use Rattle.hw_model.specs.Types.{Name}
use Rattle.fresh_names.specs.Fresh.{is_taken, free_name}
use Rattle.fresh_names.proofs.Taken.{same_is, taken_more, taken_last, one_more}
use Rattle.fresh_names.proofs.Free.{name_free, name_stays}
use Rattle.verilog_model.specs.Reserved.{reserved_words}
use Rattle.name_legalise.specs.Kept.{names_at, taken_count, IsTable, with_reserved}
use Rattle.name_legalise.proofs.Members.{is_taken-append}
use Rattle.name_legalise.proofs.Suffixes.{reserved_count, name_unreserved}
use Rattle.name_legalise.proofs.Least.{name_alike, name_beyond}
use Rattle.std.proofs.lemmas.Bool.{or_left}

-- ---- names at positions

abbrev pub AreWithin : List Name → List ℕ → Type 0
AreWithin ts ps = (i p : ℕ) → slice_get ps i ≡ Some p → p < length ts

pub names_stay : (ts us : List Name) (ps : List ℕ) → AreWithin ts ps → names_at (ts ++ us) ps ≡ names_at ts ps
names_stay ts us [] h = refl
names_stay ts us (p ∷ ps) h =
    ap (λ n. n ∷ names_at (ts ++ us) ps) (get_or_append_left ts us [] p (h 0 p refl))
    ∙ ap (λ ns. get_or ts p [] ∷ ns) (names_stay ts us ps (λ i q e. h (suc i) q e))

pub names_at-append : (ts : List Name) (ps : List ℕ) (p : ℕ) → names_at ts (ps ++ p ∷ []) ≡ names_at ts ps ++ get_or ts p [] ∷ []
names_at-append ts [] p = refl
names_at-append ts (q ∷ ps) p = ap (λ ns. get_or ts q [] ∷ ns) (names_at-append ts ps p)

pub length-names_at : (ts : List Name) (ps : List ℕ) → length (names_at ts ps) ≡ length ps
length-names_at ts [] = refl
length-names_at ts (p ∷ ps) = ap suc (length-names_at ts ps)

pub slice_get-names_at : (ts : List Name) (ps : List ℕ) (i p : ℕ) → slice_get ps i ≡ Some p → slice_get (names_at ts ps) i ≡ Some (get_or ts p [])
slice_get-names_at ts [] i p e = cc
slice_get-names_at ts (q ∷ ps) zero p e = let s : q ≡ p = cc in ap (λ j. Some (get_or ts j [])) s
slice_get-names_at ts (q ∷ ps) (suc i) p e = slice_get-names_at ts ps i p e

-- the name that is taken last, at its position
pub names_more : (ts : List Name) (n : Name) (ps : List ℕ) → AreWithin ts ps → names_at (ts ++ n ∷ []) (ps ++ length ts ∷ []) ≡ names_at ts ps ++ n ∷ []
names_more ts n ps h =
    names_at-append (ts ++ n ∷ []) ps (length ts)
    ∙ ap (λ ns. ns ++ get_or (ts ++ n ∷ []) (length ts) [] ∷ []) (names_stay ts (n ∷ []) ps h)
    ∙ ap (λ m. names_at ts ps ++ m ∷ []) (get_or-append_seam ts n [] [])

-- ---- how many words are taken

abbrev one_if : Bool → ℕ
one_if b = cond b 1 0

one_if_more : (a b : Bool) → (a ≡ true → b ≡ true) → one_if a ≤ one_if b
one_if_more true b f = let e : b ≡ true = f refl in rw e (omega arith)
one_if_more false b f = omega arith

pub count_more : (ts us ws : List Name) → taken_count ts ws ≤ taken_count (ts ++ us) ws
count_more ts us [] = omega arith
count_more ts us (w ∷ ws) = omega (arith, one_if_more (is_taken ts w) (is_taken (ts ++ us) w) (taken_more ts us w), count_more ts us ws)

pub count_new : (ts : List Name) (n : Name) (ws : List Name) → is_taken ws n ≡ true → is_taken ts n ≡ false → taken_count ts ws + 1 ≤ taken_count (ts ++ n ∷ []) ws
count_new ts n [] t free = cc
count_new ts n (w ∷ ws) t free = go (pointwise nat_eq w n) refl t (count_new ts n ws) where
  go : (b : Bool) → pointwise nat_eq w n ≡ b → cond b true (is_taken ws n) ≡ true → (is_taken ws n ≡ true → is_taken ts n ≡ false → taken_count ts ws + 1 ≤ taken_count (ts ++ n ∷ []) ws)
      → (one_if (is_taken ts w) + taken_count ts ws) + 1 ≤ one_if (is_taken (ts ++ n ∷ []) w) + taken_count (ts ++ n ∷ []) ws
  go true e f r =
      let before : one_if (is_taken ts w) ≡ 0 = ap (λ q. one_if (is_taken ts q)) (same_is w n e) ∙ ap one_if free in
      let after : one_if (is_taken (ts ++ n ∷ []) w) ≡ 1 = ap (λ q. one_if (is_taken (ts ++ n ∷ []) q)) (same_is w n e) ∙ ap one_if (taken_last ts n) in
      omega (arith, before, after, count_more ts (n ∷ []) ws)
  go false e f r = omega (arith, one_if_more (is_taken ts w) (is_taken (ts ++ n ∷ []) w) (taken_more ts (n ∷ []) w), r f free)

one_if_most : (b : Bool) → one_if b ≤ 1
one_if_most true = omega arith
one_if_most false = omega arith

pub count_most : (ts ws : List Name) → taken_count ts ws ≤ length ws
count_most ts [] = omega arith
count_most ts (w ∷ ws) = omega (arith, one_if_most (is_taken ts w), count_most ts ws)

-- ---- steps

-- a reserved word more is taken
taken_reserved : (rs ts : List Name) (n q : Name) → is_taken rs n ≡ true → is_taken (rs ++ (ts ++ n ∷ [])) q ≡ is_taken (rs ++ ts) q
taken_reserved rs ts n q t = is_taken-append rs (ts ++ n ∷ []) q ∙ ap (λ b. is_taken rs q || b) (is_taken-append ts (n ∷ []) q) ∙ go (pointwise nat_eq n q) refl ∙ sym (is_taken-append rs ts q) where
  plain : (a b : Bool) → (a || (b || false)) ≡ (a || b)
  plain true b = refl
  plain false true = refl
  plain false false = refl

  go : (b : Bool) → pointwise nat_eq n q ≡ b → (is_taken rs q || (is_taken ts q || cond b true false)) ≡ (is_taken rs q || is_taken ts q)
  go true e =
      let r : is_taken rs q ≡ true = ap (is_taken rs) (sym (same_is n q e)) ∙ t in
      or_left (is_taken rs q) (is_taken ts q || true) r ∙ sym (or_left (is_taken rs q) (is_taken ts q) r)
  go false e = plain (is_taken rs q) (is_taken ts q)

table_reserved : (ts : List Name) (ps : List ℕ) (n : Name) → IsTable ts ps → is_taken reserved_words n ≡ true → is_taken ts n ≡ false → IsTable (ts ++ n ∷ []) ps
table_reserved ts ps n h t free = record {
  within = λ i p e. omega (arith, h.within i p e, one_more ts n);
  alike = λ q. taken_reserved reserved_words ts n q t ∙ h.alike q ∙ ap (λ ns. is_taken (reserved_words ++ ns) q) (sym (names_stay ts (n ∷ []) ps h.within));
  few = omega (arith, h.few, one_more ts n, count_new ts n reserved_words t free);
}

get_last : (ps : List ℕ) (x : ℕ) (i y : ℕ) → slice_get (ps ++ x ∷ []) i ≡ Some y → (slice_get ps i ≡ Some y) ⊎ (x ≡ y)
get_last [] x zero y e = inr cc
get_last [] x (suc i) y e = cc
get_last (p ∷ ps) x zero y e = inl e
get_last (p ∷ ps) x (suc i) y e = get_last ps x i y e

regrouped : (xs ys zs : List Name) → (xs ++ ys) ++ zs ≡ xs ++ (ys ++ zs)
regrouped xs ys zs = rw append_assoc

-- a name more is taken, and is legal
pub table_legal : (ts : List Name) (ps : List ℕ) (n : Name) → IsTable ts ps → IsTable (ts ++ n ∷ []) (ps ++ length ts ∷ [])
table_legal ts ps n h = record { within = within; alike = alike; few = omega (arith, h.few, one_more ts n, one_more ps (length ts), count_more ts (n ∷ []) reserved_words) } where
  within : (i p : ℕ) → slice_get (ps ++ length ts ∷ []) i ≡ Some p → p < length (ts ++ n ∷ [])
  within i p e = go (get_last ps (length ts) i p e) where
    go : ((slice_get ps i ≡ Some p) ⊎ (length ts ≡ p)) → p < length (ts ++ n ∷ [])
    go (inl f) = omega (arith, h.within i p f, one_more ts n)
    go (inr f) = omega (arith, f, one_more ts n)

  alike : (q : Name) → is_taken (reserved_words ++ (ts ++ n ∷ [])) q ≡ is_taken (reserved_words ++ names_at (ts ++ n ∷ []) (ps ++ length ts ∷ [])) q
  alike q =
      ap (λ ns. is_taken ns q) (sym (regrouped reserved_words ts (n ∷ [])))
      ∙ is_taken-append (reserved_words ++ ts) (n ∷ []) q
      ∙ ap (λ b. b || is_taken (n ∷ []) q) (h.alike q)
      ∙ sym (is_taken-append (reserved_words ++ names_at ts ps) (n ∷ []) q)
      ∙ ap (λ ns. is_taken ns q) (regrouped reserved_words (names_at ts ps) (n ∷ []))
      ∙ ap (λ ns. is_taken (reserved_words ++ ns) q) (sym (names_more ts n ps h.within))

-- ---- the legal name in the table

module _ (ts : List Name) (ps : List ℕ) (w : Name) (h : IsTable ts ps) (small : length ps + 125 < 2 ^ 32) where
  pub table_small : length ts ≤ length ps + 124
  table_small = omega (arith, h.few, count_most ts reserved_words, reserved_count)

  given_by : is_taken reserved_words (free_name ts w) ≡ false → free_name ts w ≡ free_name (reserved_words ++ names_at ts ps) w
  given_by free =
      let more : length (reserved_words ++ ts) + 1 < 2 ^ 64 = omega (arith, length-append reserved_words ts, reserved_count, table_small, small) in
      let legal : length (reserved_words ++ names_at ts ps) + 1 < 2 ^ 64 = omega (arith, length-append reserved_words (names_at ts ps), length-names_at ts ps, reserved_count, small) in
      name_beyond reserved_words ts w (omega (arith, table_small, small)) more free ∙ name_alike (reserved_words ++ ts) (reserved_words ++ names_at ts ps) w more legal h.alike

module _ (ts : List Name) (ps : List ℕ) (w : Name) (h : IsTable ts ps) (small : length ps + 125 < 2 ^ 32) where
  abbrev new : Name
  new = free_name ts w

  reserved_new : is_taken reserved_words new ≡ true → IsTable (ts ++ new ∷ []) ps
  reserved_new t = table_reserved ts ps new h t (name_free ts w (omega (arith, table_small ts ps w h small, small)))

  pub table_with : IsTable (with_reserved ts w) ps
  unfolding with_reserved
  table_with = go (is_taken reserved_words new) refl where
    go : (b : Bool) → is_taken reserved_words new ≡ b → IsTable (cond b (ts ++ new ∷ []) ts) ps
    go true e = reserved_new e
    go false e = h

  pub names_with : names_at (with_reserved ts w) ps ≡ names_at ts ps
  unfolding with_reserved
  names_with = go (is_taken reserved_words new) where
    go : (b : Bool) → names_at (cond b (ts ++ new ∷ []) ts) ps ≡ names_at ts ps
    go true = names_stay ts (new ∷ []) ps h.within
    go false = refl

  -- the free name of one that is a reserved word is that word
  is_wanted : is_taken reserved_words new ≡ true → new ≡ w
  is_wanted t = go (is_taken ts w) refl where
    go : (b : Bool) → is_taken ts w ≡ b → new ≡ w
    go false e = name_stays ts w e
    go true e = absurd (true≢false (sym t ∙ name_unreserved ts w (omega (arith, table_small ts ps w h small, small)) e))

  unreserved_second : is_taken reserved_words new ≡ true → is_taken reserved_words (free_name (ts ++ new ∷ []) w) ≡ false
  unreserved_second t =
      let there : is_taken (ts ++ new ∷ []) w ≡ true = ap (is_taken (ts ++ new ∷ [])) (sym (is_wanted t)) ∙ taken_last ts new in
      name_unreserved (ts ++ new ∷ []) w (omega (arith, one_more ts new, table_small ts ps w h small, small)) there

  pub given : free_name (with_reserved ts w) w ≡ free_name (reserved_words ++ names_at ts ps) w
  unfolding with_reserved
  given = go (is_taken reserved_words new) refl where
    go : (b : Bool) → is_taken reserved_words new ≡ b → free_name (cond b (ts ++ new ∷ []) ts) w ≡ free_name (reserved_words ++ names_at ts ps) w
    go false e = given_by ts ps w h small e
    go true e =
        given_by (ts ++ new ∷ []) ps w (reserved_new e) small (unreserved_second e)
        ∙ ap (λ ns. free_name (reserved_words ++ ns) w) (names_stay ts (new ∷ []) ps h.within)
