-- Runs added at the end, and that runs are told by their numbers.
use Rattle.std.proofs.Common.{◌≡◌, ℕ, zero, suc, ◌+◌, ◌*◌, ◌<◌, ◌≤◌, Bool, true, false, min, List, [], ◌∷◌, ◌++◌, take, length, replicate, get_or, refl, sym, ap, ap₂, subst, ◌∙◌, arith, append_assoc, append-nil}
use Rattle.std.proofs.lemmas.List.{replicate-append-replicate, take_more}
use Rattle.wiring.specs.Lists.{total}
use Rattle.wiring.proofs.Totals.{total-append}
use Rattle.run_lists.specs.Runs.{expanded, many, BeginsApart, AreApart, Tells}
use Rattle.run_lists.specs.declared.runs.Run.{Run}

-- ---- numbers of joined lists

pub expanded_append : (xs ys : List Run) → expanded (xs ++ ys) ≡ expanded xs ++ expanded ys
expanded_append [] ys = refl
expanded_append (r ∷ xs) ys =
    ap (λ ns. replicate r.count r.number ++ ns) (expanded_append xs ys) ∙ sym (append_assoc (replicate r.count r.number) (expanded xs) (expanded ys))

-- a run goes on
pub expanded_longer : (xs : List Run) (last run : Run) → last.number ≡ run.number → (longer : Run) → longer.number ≡ last.number → longer.count ≡ last.count + run.count
    → expanded (xs ++ longer ∷ []) ≡ expanded (xs ++ last ∷ []) ++ expanded (run ∷ [])
expanded_longer xs last run same longer number count =
    expanded_append xs (longer ∷ [])
    ∙ ap (λ ns. expanded xs ++ ns) both
    ∙ sym (append_assoc (expanded xs) (expanded (last ∷ [])) (expanded (run ∷ [])))
    ∙ ap (λ ns. ns ++ expanded (run ∷ [])) (sym (expanded_append xs (last ∷ [])))
  where
    both : expanded (longer ∷ []) ≡ expanded (last ∷ []) ++ expanded (run ∷ [])
    both =
        append-nil (replicate longer.count longer.number)
        ∙ ap₂ (λ c n. replicate c n) count number
        ∙ sym (replicate-append-replicate last.count run.count last.number)
        ∙ ap₂ (λ ns n. ns ++ replicate run.count n) (sym (append-nil (replicate last.count last.number))) same
        ∙ ap (λ ns. expanded (last ∷ []) ++ ns) (sym (append-nil (replicate run.count run.number)))

-- ---- apart

begins_apart : (n : ℕ) (xs : List Run) (y : Run) → BeginsApart n (xs ++ y ∷ []) → (z : Run) → z.number ≡ y.number → BeginsApart n (xs ++ z ∷ [])
begins_apart n [] y apart z same = λ e. apart (e ∙ same)
begins_apart n (x ∷ xs) y apart z same = apart

-- with another last run of the same number
pub apart_longer : (xs : List Run) (y : Run) → AreApart (xs ++ y ∷ []) → (z : Run) → z.number ≡ y.number → 1 ≤ z.count → AreApart (xs ++ z ∷ [])
apart_longer [] y are z same some = (some, tt, tt)
apart_longer (x ∷ xs) y (first, apart, rest) z same some = (first, begins_apart x.number xs y apart z same, apart_longer xs y rest z same some)

begins_more : (n : ℕ) (xs : List Run) (y z : Run) → BeginsApart n (xs ++ y ∷ []) → BeginsApart n ((xs ++ y ∷ []) ++ z ∷ [])
begins_more n [] y z apart = apart
begins_more n (x ∷ xs) y z apart = apart

-- one run more, of another number than the last one
pub apart_more : (xs : List Run) (y : Run) → AreApart (xs ++ y ∷ []) → (z : Run) → (y.number ≡ z.number → ⊥) → 1 ≤ z.count → AreApart ((xs ++ y ∷ []) ++ z ∷ [])
apart_more [] y (first, none, rest) z other some = (first, other, (some, tt, tt))
apart_more (x ∷ xs) y (first, apart, rest) z other some = (first, begins_more x.number xs y z apart, apart_more xs y rest z other some)

-- ---- runs by their numbers

-- the numbers begin with another one
HeadApart : ℕ → List ℕ → Type 0
HeadApart n [] = Unit {0}
HeadApart n (m ∷ ms) = n ≡ m → ⊥

head_apart : (n : ℕ) (rs : List Run) → AreApart rs → BeginsApart n rs → HeadApart n (expanded rs)
unfolding HeadApart
head_apart n [] are apart = tt
head_apart n (r ∷ rs) (some, next, rest) apart = go r.count some
  where
    go : (c : ℕ) → 1 ≤ c → HeadApart n (replicate c r.number ++ expanded rs)
    go zero none = absurd (omega arith)
    go (suc c) some = apart

-- how many times a number stands first is told by what begins with another one
counts_same : (n a b : ℕ) (xs ys : List ℕ) → HeadApart n xs → HeadApart n ys → replicate a n ++ xs ≡ replicate b n ++ ys → (a ≡ b) × (xs ≡ ys)
unfolding HeadApart
counts_same n zero zero xs ys first second same = (refl, same)
counts_same n zero (suc b) xs ys first second same = absurd (subst (HeadApart n) same first refl)
counts_same n (suc a) zero xs ys first second same = absurd (subst (HeadApart n) (sym same) second refl)
counts_same n (suc a) (suc b) xs ys first second same =
    let rest : replicate a n ++ xs ≡ replicate b n ++ ys = cc in
    let both = counts_same n a b xs ys first second rest in
    (ap suc both.0, both.1)

first_same : (r s : Run) (xs ys : List ℕ) → 1 ≤ r.count → 1 ≤ s.count → replicate r.count r.number ++ xs ≡ replicate s.count s.number ++ ys → r.number ≡ s.number
first_same r s xs ys some also same = go r.count s.count some also same
  where
    go : (a b : ℕ) → 1 ≤ a → 1 ≤ b → replicate a r.number ++ xs ≡ replicate b s.number ++ ys → r.number ≡ s.number
    go zero b none also same = absurd (omega arith)
    go (suc a) zero some none same = absurd (omega arith)
    go (suc a) (suc b) some also same = cc

empty_is : (r : Run) (xs : List ℕ) → 1 ≤ r.count → replicate r.count r.number ++ xs ≡ [] → ⊥
empty_is r xs some same = go r.count some same
  where
    go : (a : ℕ) → 1 ≤ a → replicate a r.number ++ xs ≡ [] → ⊥
    go zero none same = absurd (omega arith)
    go (suc a) some same = cc

pub runs_same : (rs ss : List Run) → AreApart rs → AreApart ss → expanded rs ≡ expanded ss → rs ≡ ss
runs_same [] [] are also same = refl
runs_same [] (s ∷ ss) are (some, next, rest) same = absurd (empty_is s (expanded ss) some (sym same))
runs_same (r ∷ rs) [] (some, next, rest) also same = absurd (empty_is r (expanded rs) some same)
runs_same (r ∷ rs) (s ∷ ss) (some, next, rest) (more, apart, others) same =
    let number : r.number ≡ s.number = first_same r s (expanded rs) (expanded ss) some more same in
    let both = counts_same r.number r.count s.count (expanded rs) (expanded ss) (head_apart r.number rs rest next)
    (head_apart r.number ss others (subst (λ n. BeginsApart n ss) (sym number) apart))
    (same ∙ ap (λ n. replicate s.count n ++ expanded ss) (sym number)) in
    ap₂ (λ (x : Run) xs. x ∷ xs) (one number both.0) (runs_same rs ss rest others both.1)
  where
    one : r.number ≡ s.number → r.count ≡ s.count → r ≡ s
    one number count = ap₂ (λ n c. record { number = n; count = c }) number count

-- ---- copies

many_of_run : (c n k : ℕ) → many k (replicate c n) ≡ replicate (k * c) n
many_of_run c n zero = let none : 0 * c ≡ 0 = grind arith in ap (λ m. replicate m n) (sym none)
many_of_run c n (suc k) =
    ap (λ ns. replicate c n ++ ns) (many_of_run c n k) ∙ replicate-append-replicate c (k * c) n ∙ ap (λ m. replicate m n) (sum k c)
  where
    sum : (k c : ℕ) → c + k * c ≡ suc k * c
    sum k c = grind arith

-- one run so many times over is a run
pub many_only : (k : ℕ) (only run : Run) → run.number ≡ only.number → run.count ≡ only.count * k → expanded (run ∷ []) ≡ many k (expanded (only ∷ []))
many_only k only run number count =
    append-nil (replicate run.count run.number)
    ∙ ap₂ (λ c n. replicate c n) (count ∙ commute only.count k) number
    ∙ sym (many_of_run only.count only.number k)
    ∙ ap (many k) (sym (append-nil (replicate only.count only.number)))
  where
    commute : (a b : ℕ) → a * b ≡ b * a
    commute a b = grind arith

-- once more at the end
pub many_more : (k : ℕ) (xs : List ℕ) → many k xs ++ xs ≡ many (k + 1) xs
many_more zero xs = sym (append-nil xs)
many_more (suc k) xs = append_assoc xs (many k xs) xs ∙ ap (λ ns. xs ++ ns) (many_more k xs) ∙ ap (λ n. many n xs) (next k)
  where
    next : (k : ℕ) → suc (k + 1) ≡ suc k + 1
    next k = omega arith

-- ---- sums

total_replicate : (c n : ℕ) → total (replicate c n) ≡ n * c
total_replicate zero n = grind arith
total_replicate (suc c) n = let rest : total (replicate c n) ≡ n * c = total_replicate c n in go (total (replicate c n)) (n * c) (n * suc c) rest (grow n c)
  where
    grow : (n c : ℕ) → n * suc c ≡ n * c + n
    grow n c = grind arith

    go : (a b e : ℕ) → a ≡ b → e ≡ b + n → n + a ≡ e
    go a b e x y = omega arith

pub total_more : (xs : List Run) (r : Run) → total (expanded (xs ++ r ∷ [])) ≡ total (expanded xs) + r.number * r.count
total_more xs r =
    ap total (expanded_append xs (r ∷ [])) ∙ total-append (expanded xs) (expanded (r ∷ []))
    ∙ ap (λ n. total (expanded xs) + n) (ap total (append-nil (replicate r.count r.number)) ∙ total_replicate r.count r.number)

-- ---- run by run

-- a run that stands somewhere is not empty
pub some_at : (rs : List Run) → AreApart rs → (i : ℕ) → i < length rs → (d r : Run) → r ≡ get_or rs i d → 1 ≤ r.count
some_at [] are i below d r is = absurd (omega arith)
some_at (x ∷ rs) (some, next, rest) zero below d r is = subst (λ (y : Run). 1 ≤ y.count) (sym is) some
some_at (x ∷ rs) (some, next, rest) (suc i) below d r is = some_at rs rest i (omega arith) d r is

taken_more : (rs : List Run) (i : ℕ) → i < length rs → (d r : Run) → r ≡ get_or rs i d → take (i + 1) rs ≡ take i rs ++ r ∷ []
taken_more rs i below d r is = take_more rs i d below ∙ ap (λ (y : Run). take i rs ++ y ∷ []) (sym is)

pub pushed_more : (old now next : List ℕ) (rs : List Run) (i : ℕ) → i < length rs → (d r : Run) → r ≡ get_or rs i d → now ≡ old ++ expanded (take i rs) → next ≡ now ++ expanded (r ∷ [])
    → next ≡ old ++ expanded (take (i + 1) rs)
pushed_more old now next rs i below d r is before made =
    made ∙ ap (λ ns. ns ++ expanded (r ∷ [])) before ∙ append_assoc old (expanded (take i rs)) (expanded (r ∷ []))
    ∙ ap (λ ns. old ++ ns) (sym (ap expanded (taken_more rs i below d r is) ∙ expanded_append (take i rs) (r ∷ [])))

pub summed_more : (rs : List Run) (i sum product next m : ℕ) → i < length rs → (d r : Run) → r ≡ get_or rs i d → sum ≡ min (total (expanded (take i rs))) m
    → product ≡ min (r.number * r.count) m → next ≡ min (sum + product) m → next ≡ min (total (expanded (take (i + 1) rs))) m
summed_more rs i sum product next m below d r is before one made =
    let grown : total (expanded (take (i + 1) rs)) ≡ total (expanded (take i rs)) + r.number * r.count =
    ap (λ xs. total (expanded xs)) (taken_more rs i below d r is) ∙ total_more (take i rs) r in
    go (total (expanded (take (i + 1) rs))) (total (expanded (take i rs))) (r.number * r.count) grown before one
  where
    go : (a b c : ℕ) → a ≡ b + c → sum ≡ min b m → product ≡ min c m → next ≡ min a m
    go a b c x y z = omega arith

pub copied_more : (xs now next : List ℕ) (k : ℕ) → now ≡ many k xs → next ≡ now ++ xs → next ≡ many (k + 1) xs
copied_more xs now next k before made = made ∙ ap (λ ns. ns ++ xs) before ∙ many_more k xs

pub product_some : (a b p : ℕ) → 1 ≤ a → 1 ≤ b → p ≡ a * b → 1 ≤ p
product_some a b p some also is = go a b some also is
  where
    go : (x y : ℕ) → 1 ≤ x → 1 ≤ y → p ≡ x * y → 1 ≤ p
    go zero y none more e = absurd (omega arith)
    go (suc x) zero more none e = absurd (omega arith)
    go (suc x) (suc y) more too e = let wide : suc x * suc y ≡ suc (x * y + x + y) = grind arith in omega arith

-- what tells runs tells their numbers
pub told_by_numbers : (b : Bool) (xs ys rs ss : List Run) → xs ≡ rs → ys ≡ ss → AreApart rs → AreApart ss → Tells b (xs ≡ ys) → Tells b (expanded rs ≡ expanded ss)
told_by_numbers true xs ys rs ss one other first second same = ap expanded (sym one ∙ same ∙ other)
told_by_numbers false xs ys rs ss one other first second apart = λ same. apart (one ∙ runs_same rs ss first second same ∙ sym other)
