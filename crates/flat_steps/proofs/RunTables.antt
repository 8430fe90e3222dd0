-- Words written into a table at the places of what is kept of a list.
use Rattle.std.proofs.Common.{◌≡◌, refl, sym, ap, ◌∙◌, ℕ, zero, suc, ◌+◌, ◌<◌, ◌≤◌, Bool, true, false, cond, List, [], ◌∷◌, ◌++◌, map, length, take, drop, slice_get, Some, arith}
use Rattle.wiring.proofs.Lists.{drop-append_right}
use Rattle.bits_core.specs.Word.{Word, first}
use Rattle.bits_core.proofs.First.{first-append_seam}
use Rattle.hw_model.specs.Value.{concat_words}
use Rattle.flat_steps.proofs.CellWords.{put_length, cell_same, cell_other}
use Rattle.flat_steps.specs.Tables.{cell, put, with_words}

-- ---- words one after another

pub words_long : (ps : List ℕ) (ws t : List Word) → length (with_words ps ws t) ≡ length t
words_long [] ws t = refl
words_long (p ∷ ps) [] t = refl
words_long (p ∷ ps) (w ∷ ws) t = words_long ps ws (put t p w) ∙ put_length t p w

module _ {A : Type 0} (keep : A → Bool) where
  -- the places of what is kept, of which the first element has the number
  abbrev pub kept_places : ℕ → List A → List ℕ
  kept_places n [] = []
  kept_places n (x ∷ xs) = cond (keep x) (n ∷ kept_places (n + 1) xs) (kept_places (n + 1) xs)

  -- what stands before them stays
  before_places : (xs : List A) (n j : ℕ) (ws t : List Word) → j < n → cell (with_words (kept_places n xs) ws t) j ≡ cell t j
  before_places [] n j ws t low = refl
  before_places (x ∷ xs) n j ws t low = go (keep x) ws (λ us v. before_places xs (n + 1) j us v (omega arith))
    where
      go : (b : Bool) (us : List Word) → ((us v : List Word) → cell (with_words (kept_places (n + 1) xs) us v) j ≡ cell v j)
          → cell (with_words (cond b (n ∷ kept_places (n + 1) xs) (kept_places (n + 1) xs)) us t) j ≡ cell t j
      go true [] rest = refl
      go true (w ∷ us) rest = rest us (put t n w) ∙ cell_other t n j w (λ e. omega (arith, e, low))
      go false us rest = rest us t

  -- what is not kept stays
  pub stays : (xs : List A) (n : ℕ) (ws t : List Word) (i : ℕ) (x : A) → slice_get xs i ≡ Some x → keep x ≡ false
      → cell (with_words (kept_places n xs) ws t) (n + i) ≡ cell t (n + i)
  stays [] n ws t i x at out = cc
  stays (y ∷ ys) n ws t i x at out = go (keep y) refl ws i at (λ us v k there. stays ys (n + 1) us v k x there out)
    where
      go : (b : Bool) → keep y ≡ b → (us : List Word) (k : ℕ) → slice_get (y ∷ ys) k ≡ Some x
          → ((us v : List Word) (k : ℕ) → slice_get ys k ≡ Some x → cell (with_words (kept_places (n + 1) ys) us v) (n + 1 + k) ≡ cell v (n + 1 + k))
          → cell (with_words (cond b (n ∷ kept_places (n + 1) ys) (kept_places (n + 1) ys)) us t) (n + k) ≡ cell t (n + k)
      go true told [] k there rest = refl
      go true told (w ∷ us) zero there rest = absurd (let same : y ≡ x = cc in let one : keep y ≡ keep x = ap keep same in let no : ⊥ = cc in no)
      go true told (w ∷ us) (suc k) there rest =
          let next : n + 1 + k ≡ n + suc k = omega arith in
          ap (cell (with_words (kept_places (n + 1) ys) us (put t n w))) (sym next)
          ∙ rest us (put t n w) k there
          ∙ cell_other t n (n + 1 + k) w (λ e. omega (arith, e))
          ∙ ap (cell t) next
      go false told us zero there rest = before_places ys (n + 1) (n + 0) us t (omega arith)
      go false told us (suc k) there rest =
          let next : n + 1 + k ≡ n + suc k = omega arith in
          ap (cell (with_words (kept_places (n + 1) ys) us t)) (sym next) ∙ rest us t k there ∙ ap (cell t) next

  module _ (wide : A → ℕ) where
    -- how wide the kept ones are together
    abbrev pub kept_width : List A → ℕ
    kept_width [] = 0
    kept_width (x ∷ xs) = cond (keep x) (wide x + kept_width xs) (kept_width xs)

    -- and each
    abbrev pub kept_widths : List A → List ℕ
    kept_widths [] = []
    kept_widths (x ∷ xs) = cond (keep x) (wide x ∷ kept_widths xs) (kept_widths xs)

    -- each kept one has its bits of the words joined
    pub placed : (xs : List A) (n : ℕ) (ws t : List Word) → map length ws ≡ kept_widths xs → n + length xs ≤ length t → (i : ℕ) (x : A) → slice_get xs i ≡ Some x → keep x ≡ true
        → cell (with_words (kept_places n xs) ws t) (n + i) ≡ first (wide x) (drop (kept_width (take i xs)) (concat_words ws))
    placed [] n ws t size room i x at is = cc
    placed (y ∷ ys) n ws t size room i x at is =
        go (keep y) refl ws size i at (λ us v sizes more k there. placed ys (n + 1) us v sizes more k x there is)
      where
        go : (b : Bool) → keep y ≡ b → (us : List Word) → map length us ≡ cond b (wide y ∷ kept_widths ys) (kept_widths ys) → (k : ℕ) → slice_get (y ∷ ys) k ≡ Some x
            → ((us v : List Word) → map length us ≡ kept_widths ys → n + 1 + length ys ≤ length v → (k : ℕ) → slice_get ys k ≡ Some x
            → cell (with_words (kept_places (n + 1) ys) us v) (n + 1 + k) ≡ first (wide x) (drop (kept_width (take k ys)) (concat_words us)))
            → cell (with_words (cond b (n ∷ kept_places (n + 1) ys) (kept_places (n + 1) ys)) us t) (n + k)
            ≡ first (wide x) (drop (kept_width (take k (y ∷ ys))) (concat_words us))
        go true told [] sizes k there rest = cc
        go true told (w ∷ us) sizes zero there rest =
            let same : y ≡ x = cc in
            let long : length w ≡ wide y = cc in
            let here : n + 0 ≡ n = omega arith in
            ap (cell (with_words (kept_places (n + 1) ys) us (put t n w))) here
            ∙ before_places ys (n + 1) n us (put t n w) (omega arith)
            ∙ cell_same t n w (omega (arith, room))
            ∙ sym (first-append_seam (wide x) w (concat_words us) (long ∙ ap wide same))
        go true told (w ∷ us) sizes (suc k) there rest =
            let long : length w ≡ wide y = cc in
            let others : map length us ≡ kept_widths ys = cc in
            let next : n + suc k ≡ n + 1 + k = omega arith in
            ap (cell (with_words (kept_places (n + 1) ys) us (put t n w))) next
            ∙ rest us (put t n w) others (omega (arith, room, put_length t n w)) k there
            ∙ ap (first (wide x))
            (sym (drop-append_right w (concat_words us) (kept_width (take k ys)))
            ∙ ap (λ (l : ℕ). drop (l + kept_width (take k ys)) (w ++ concat_words us)) long
            ∙ ap (λ (b : Bool). drop (cond b (wide y + kept_width (take k ys)) (kept_width (take k ys))) (w ++ concat_words us)) (sym told))
        go false told us sizes zero there rest = absurd (let same : y ≡ x = cc in let one : keep y ≡ keep x = ap keep same in let no : ⊥ = cc in no)
        go false told us sizes (suc k) there rest =
            let next : n + suc k ≡ n + 1 + k = omega arith in
            ap (cell (with_words (kept_places (n + 1) ys) us t)) next
            ∙ rest us t sizes (omega (arith, room)) k there
            ∙ ap (λ (b : Bool). first (wide x) (drop (cond b (wide y + kept_width (take k ys)) (kept_width (take k ys))) (concat_words us))) (sym told)

    -- words that a function gives, by their places, are as wide as what is kept
    pub given_widths : (xs : List A) (n : ℕ) (f : ℕ → Word) → ((i : ℕ) (x : A) → slice_get xs i ≡ Some x → keep x ≡ true → length (f (n + i)) ≡ wide x)
        → map length (map f (kept_places n xs)) ≡ kept_widths xs
    given_widths [] n f each = refl
    given_widths (y ∷ ys) n f each = go (keep y) refl (given_widths ys (n + 1) f (λ i x at is. ap (λ (k : ℕ). length (f k)) (let e : n + 1 + i ≡ n + suc i = omega arith in e) ∙ each (suc i) x at is))
      where
        go : (b : Bool) → keep y ≡ b → map length (map f (kept_places (n + 1) ys)) ≡ kept_widths ys
            → map length (map f (cond b (n ∷ kept_places (n + 1) ys) (kept_places (n + 1) ys))) ≡ cond b (wide y ∷ kept_widths ys) (kept_widths ys)
        go false told rest = rest
        go true told rest =
            let here : n ≡ n + 0 = omega arith in
            let own : length (f n) ≡ wide y = ap (λ (k : ℕ). length (f k)) here ∙ each 0 y refl told in
            cc
