-- Parts of words: the first bits, extracted bits and copies.
use Rattle.std.proofs.Common.{◌≡◌, refl, sym, ap, ap₂, ◌∙◌, ℕ, zero, suc, ◌+◌, ◌-◌, ◌≤◌, false, [], ◌∷◌, ◌++◌, length, take, drop, arith, append_assoc, append-nil, length-append, length-drop, length-take, drop-drop, take-take, take_all, zero-add, suc-add, le_refl}
use Rattle.std.proofs.Math.Seq.{take-append_seam, drop-append_seam}
use Rattle.std.proofs.lemmas.List.{drop-take}
use Rattle.bits_core.specs.Word.{Word, first, extract, copies, zeros}

-- ---- the first bits

pub length-first : (w : ℕ) (x : Word) → length (first w x) ≡ w
length-first zero x = refl
length-first (suc w) [] = ap suc (length-first w [])
length-first (suc w) (b ∷ x) = ap suc (length-first w x)

-- a word of the width is all of it
pub first_all : (w : ℕ) (x : Word) → length x ≡ w → first w x ≡ x
first_all zero [] h = refl
first_all zero (b ∷ x) h = absurd (omega arith)
first_all (suc w) [] h = absurd (omega arith)
first_all (suc w) (b ∷ x) h = ap (λ (bs : Word). b ∷ bs) (first_all w x (omega arith))

-- of a longer word its prefix
pub first-take : (w : ℕ) (x : Word) → w ≤ length x → first w x ≡ take w x
first-take zero x h = refl
first-take (suc w) [] h = absurd (omega arith)
first-take (suc w) (b ∷ x) h = ap (λ (bs : Word). b ∷ bs) (first-take w x (omega arith))

-- past the end stands 0
pub first-nil : (w : ℕ) → first w [] ≡ zeros w
first-nil zero = refl
first-nil (suc w) = ap (λ (bs : Word). false ∷ bs) (first-nil w)

pub first-append : (x y : Word) (n : ℕ) → first (length x + n) (x ++ y) ≡ x ++ first n y
first-append [] y n = ap (λ (k : ℕ). first k y) (zero-add n)
first-append (b ∷ x) y n =
    ap (λ (k : ℕ). first k (b ∷ (x ++ y))) (suc-add (length x) n) ∙ ap (λ (bs : Word). b ∷ bs) (first-append x y n)

-- the prefix of two words is the first
pub first-append_seam : (w : ℕ) (x y : Word) → length x ≡ w → first w (x ++ y) ≡ x
first-append_seam zero [] y h = refl
first-append_seam zero (b ∷ x) y h = absurd (omega arith)
first-append_seam (suc w) [] y h = absurd (omega arith)
first-append_seam (suc w) (b ∷ x) y h = ap (λ (bs : Word). b ∷ bs) (first-append_seam w x y (omega arith))

pub first-first : (w : ℕ) (x : Word) → first w (first w x) ≡ first w x
first-first w x = first_all w (first w x) (length-first w x)

-- ---- extracted bits

-- all bits are the word
pub extract_all : (x : Word) → extract 0 (length x) x ≡ x
extract_all x =
    let none : length x - (0 + length x) ≡ 0 = omega arith in
    ap (λ (k : ℕ). take (length x) (drop k x)) none ∙ take_all (length x) x (le_refl (length x))

-- the low bits are the end of the word
pub extract_low : (width : ℕ) (x : Word) → width ≤ length x → extract 0 width x ≡ drop (length x - width) x
extract_low width x h =
    let above : length x - (0 + width) ≡ length x - width = omega arith in
    ap (λ (k : ℕ). take width (drop k x)) above
    ∙ take_all width (drop (length x - width) x) (omega (arith, length-drop (length x - width) x))

-- bits of extracted bits
pub extract-extract : (low width inner_low inner_width : ℕ) (x : Word) → low + width ≤ inner_width → inner_low + inner_width ≤ length x → extract low width (extract inner_low inner_width x) ≡ extract (inner_low + low) width x
extract-extract low width inner_low inner_width x h k =
    let above = length x - (inner_low + inner_width) in
    let between = inner_width - (low + width) in
    let inner : length (take inner_width (drop above x)) ≡ inner_width =
    omega (arith, length-take inner_width (drop above x), length-drop above x) in
    let parts : inner_width ≡ between + (low + width) = omega arith in
    let within : width ≤ low + width = omega arith in
    let position : above + between ≡ length x - (inner_low + low + width) = omega arith in
    ap (λ (n : ℕ). take width (drop (n - (low + width)) (take inner_width (drop above x)))) inner
    ∙ ap (λ (n : ℕ). take width (drop between (take n (drop above x)))) parts
    ∙ ap (take width) (drop-take between (low + width) (drop above x))
    ∙ take-take width (low + width) (drop between (drop above x)) within
    ∙ ap (take width) (drop-drop between above x)
    ∙ ap (λ (n : ℕ). take width (drop n x)) position

-- the middle of three words
pub extract-append : (x y z : Word) → extract (length z) (length y) (x ++ y ++ z) ≡ y
extract-append x y z =
    let above : length (x ++ y ++ z) - (length z + length y) ≡ length x =
    omega (arith, length-append (x ++ y) z, length-append x y) in
    ap₂ (λ (k : ℕ) (s : Word). take (length y) (drop k s)) above (append_assoc x y z)
    ∙ ap (take (length y)) (drop-append_seam x (y ++ z)) ∙ take-append_seam y z

-- ---- copies

pub copies-one : (x : Word) → copies 1 x ≡ x
copies-one x = append-nil x

pub copies-add : (m n : ℕ) (x : Word) → copies (m + n) x ≡ copies m x ++ copies n x
copies-add zero n x = ap (λ (k : ℕ). copies k x) (zero-add n)
copies-add (suc m) n x =
    ap (λ (k : ℕ). copies k x) (suc-add m n) ∙ ap (λ (s : Word). x ++ s) (copies-add m n x)
    ∙ sym (append_assoc x (copies m x) (copies n x))
