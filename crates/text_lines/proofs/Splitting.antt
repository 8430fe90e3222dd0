-- Lines and words, taken from the front.
use Rattle.std.proofs.Common.{◌≡◌, ℕ, suc, ◌+◌, ◌<◌, ◌≤◌, Bool, true, false, not, cond, List, [], ◌∷◌, length, eqb, take, drop, refl, sym, ◌∙◌, ap, subst, arith, add-one}
use Rattle.text_lines.specs.Lines.{is_blank, onto, lines, goes_on, words, line_length, word_length}

-- a text with no byte has no line
pub no_lines : (text : List ℕ) → length text ≡ 0 → lines text ≡ []
unfolding lines
no_lines [] h = refl
no_lines (b ∷ bs) h = absurd (omega (arith, h))

-- the bytes before the first LF are the first line
pub line_split : (text : List ℕ) → line_length text < length text → lines text ≡ take (line_length text) text ∷ lines (drop (line_length text + 1) text)
unfolding lines
line_split [] h = absurd (omega (arith, h))
line_split (b ∷ bs) h = step (line_split bs) (eqb b 10) h
  where
    step : (line_length bs < length bs → lines bs ≡ take (line_length bs) bs ∷ lines (drop (line_length bs + 1) bs)) → (t : Bool) → cond t 0 (line_length bs + 1) < length (b ∷ bs)
        → cond t ([] ∷ lines bs) (onto b (lines bs)) ≡ take (cond t 0 (line_length bs + 1)) (b ∷ bs) ∷ lines (drop (cond t 0 (line_length bs + 1) + 1) (b ∷ bs))
    step ih true g = refl
    step ih false g =
        let e : line_length bs + 1 ≡ suc (line_length bs) = add-one (line_length bs) in
        let inner : line_length bs < length bs = omega (arith, g) in
        ap (onto b) (ih inner)
        ∙ subst (λ (n : ℕ). (b ∷ take (line_length bs) bs) ∷ lines (drop (line_length bs + 1) bs) ≡ take n (b ∷ bs) ∷ lines (drop (n + 1) (b ∷ bs))) (sym e)
        (ap (λ (n : ℕ). (b ∷ take (line_length bs) bs) ∷ lines (drop n (b ∷ bs))) (sym (add-one (suc (line_length bs)) ∙ ap suc (sym e))))

-- bytes without an LF are one line
pub line_whole : (text : List ℕ) → 0 < length text → length text ≤ line_length text → lines text ≡ text ∷ lines []
unfolding lines
line_whole [] p h = absurd (omega (arith, p))
line_whole (b ∷ bs) p h = step (line_whole bs) (eqb b 10) h
  where
    rest : (cs : List ℕ) → (0 < length cs → length cs ≤ line_length cs → lines cs ≡ cs ∷ lines []) → length cs ≤ line_length cs → onto b (lines cs) ≡ (b ∷ cs) ∷ lines []
    rest [] ih g = refl
    rest (c ∷ cs) ih g = ap (onto b) (ih (omega arith) g)

    step : (0 < length bs → length bs ≤ line_length bs → lines bs ≡ bs ∷ lines []) → (t : Bool) → length (b ∷ bs) ≤ cond t 0 (line_length bs + 1) → cond t ([] ∷ lines bs) (onto b (lines bs)) ≡ (b ∷ bs) ∷ lines []
    step ih true g = absurd (omega (arith, g))
    step ih false g = rest bs ih (omega (arith, g))

-- the bytes before the first blank are the first word
pub word_split : (line : List ℕ) → goes_on line ≡ true → words line ≡ take (word_length line) line ∷ words (drop (word_length line) line)
unfolding words
word_split [] h = absurd (let w : ⊥ = cc in w)
word_split (b ∷ bs) h = step (word_split bs) (is_blank b) h
  where
    blank : (c : ℕ) (cs : List ℕ) (s : Bool) → not s ≡ false
        → (b ∷ []) ∷ words (c ∷ cs) ≡ (b ∷ take (cond s 0 (word_length cs + 1)) (c ∷ cs)) ∷ words (drop (cond s 0 (word_length cs + 1)) (c ∷ cs))
    blank c cs true i = refl
    blank c cs false i = absurd (let w : ⊥ = cc in w)

    more : (cs : List ℕ) → (goes_on cs ≡ true → words cs ≡ take (word_length cs) cs ∷ words (drop (word_length cs) cs)) → (t : Bool) → goes_on cs ≡ t
        → cond t (onto b (words cs)) ((b ∷ []) ∷ words cs) ≡ (b ∷ take (word_length cs) cs) ∷ words (drop (word_length cs) cs)
    more cs ih true g = ap (onto b) (ih g)
    more [] ih false g = refl
    more (c ∷ cs) ih false g = blank c cs (is_blank c) g

    step : (goes_on bs ≡ true → words bs ≡ take (word_length bs) bs ∷ words (drop (word_length bs) bs)) → (t : Bool) → not t ≡ true
        → cond t (words bs) (cond (goes_on bs) (onto b (words bs)) ((b ∷ []) ∷ words bs)) ≡ take (cond t 0 (word_length bs + 1)) (b ∷ bs) ∷ words (drop (cond t 0 (word_length bs + 1)) (b ∷ bs))
    step ih true g = absurd (let w : ⊥ = cc in w)
    step ih false g =
        more bs ih (goes_on bs) refl
        ∙ subst (λ (n : ℕ). (b ∷ take (word_length bs) bs) ∷ words (drop (word_length bs) bs) ≡ take n (b ∷ bs) ∷ words (drop n (b ∷ bs))) (sym (add-one (word_length bs))) refl

-- a line with no byte has no word
pub no_words : (line : List ℕ) → length line ≡ 0 → words line ≡ []
unfolding words
no_words [] h = refl
no_words (b ∷ bs) h = absurd (omega (arith, h))
