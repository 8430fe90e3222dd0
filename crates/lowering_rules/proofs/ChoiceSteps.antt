-- Rules of tests and choices, one step after another.
use Rattle.std.proofs.Common.{◌≡◌, ℕ, zero, suc, ◌+◌, ◌-◌, ◌<◌, List, [], ◌∷◌, ◌++◌, pos, refl, sym, ap, ap₂, ◌∙◌, arith, append_assoc, ◌≤◌, length, mod-eq_of_lt}
use Rattle.std.specs.Prelude.{◌%◌}
use Rattle.hw_model.specs.Types.{HwType}
use Rattle.hw_model.specs.Kinds.Kind.{mux, constant}
use Rattle.hw_model.specs.Design.{Ref, Op}
use Rattle.hw_model.specs.Design.Ref.{result}
use Rattle.aggregate_laws.specs.OperationRules.{made_op, for_each}
use Rattle.aggregate_laws.specs.Leaves.{part}
use Rattle.aggregate_laws.specs.Choices.{tests, choices, leaf_choices, element_leaf, element_of}

-- the test of one number more
pub tests_more : (o : Op) (w : ℕ) (index : Ref) (now whole : List Op) (next from count : ℕ) → from < count → now ++ tests o w index next from (count - from) ≡ whole
    → (now ++ tests o w index next from 1) ++ tests o w index (next + 2) (from + 1) (count - (from + 1)) ≡ whole
tests_more o w index now whole next from count lt is =
    let left : suc (count - (from + 1)) ≡ count - from = omega arith in
    let after : from + 1 ≡ suc from = omega arith in
    append_assoc now (tests o w index next from 1) (tests o w index (next + 2) (from + 1) (count - (from + 1)))
    ∙ ap (λ j. now ++ (tests o w index next from 1 ++ tests o w index (next + 2) j (count - (from + 1)))) after
    ∙ ap (λ n. now ++ tests o w index next from n) left
    ∙ is

-- choices of values that are the same
pub choices_same : (o : Op) (t : HwType) (test f g : ℕ → Ref) (before n : ℕ) → ((e : ℕ) → f e ≡ g e) → choices o t test f before n ≡ choices o t test g before n
choices_same o t test f g before zero same = refl
choices_same o t test f g before (suc n) same =
    ap₂ (λ r os. made_op o mux (test n ∷ r ∷ result before 0 ∷ []) (t ∷ []) [] t ∷ os) (same n) (choices_same o t test f g (suc before) n same)

-- one choice more
pub choices_more : (o : Op) (t : HwType) (test element : ℕ → Ref) (now next whole : List Op) (before after left n : ℕ) → left ≡ suc n → after ≡ suc before
    → next ≡ now ++ made_op o mux (test n ∷ element n ∷ result before 0 ∷ []) (t ∷ []) [] t ∷ []
    → now ++ choices o t test element before left ≡ whole → next ++ choices o t test element after n ≡ whole
choices_more o t test element now next whole before after left n one up put is =
    ap₂ (λ os j. os ++ choices o t test element j n) put up
    ∙ append_assoc now (made_op o mux (test n ∷ element n ∷ result before 0 ∷ []) (t ∷ []) [] t ∷ []) (choices o t test element (suc before) n)
    ∙ ap (λ m. now ++ choices o t test element before m) (sym one)
    ∙ is

-- the choices of one leaf more
pub leaf_more : (o : Op) (test : ℕ → Ref) (element : ℕ → ℕ → Ref) (sizes : ℕ → ℕ) (own : ℕ → Ref) (size : ℕ) (now new whole : List Op) (next after l : ℕ) (t : HwType) (ts rest : List HwType)
    → ts ≡ t ∷ rest → ((e : ℕ) → own e ≡ element l e) → size ≡ sizes l → after ≡ next + suc (sizes l)
    → new ≡ now ++ (made_op o (constant (pos 0)) [] (t ∷ []) [] t ∷ choices o t test own next size)
    → now ++ leaf_choices o test element sizes next l ts ≡ whole → new ++ leaf_choices o test element sizes after (l + 1) rest ≡ whole
leaf_more o test element sizes own size now new whole next after l t ts rest first same sized up put is =
    let zero_first = made_op o (constant (pos 0)) [] (t ∷ []) [] t in
    let chosen = choices o t test (element l) next (sizes l) in
    let others = leaf_choices o test element sizes (next + suc (sizes l)) (suc l) rest in
    let step : l + 1 ≡ suc l = omega arith in
    ap₂ (λ j k. new ++ leaf_choices o test element sizes j k rest) up step
    ∙ ap (λ os. os ++ others)
    (put ∙ ap (λ os. now ++ (zero_first ∷ os)) (choices_same o t test own (element l) next size same ∙ ap (choices o t test (element l) next) sized))
    ∙ append_assoc now (zero_first ∷ chosen) others
    ∙ ap (λ us. now ++ leaf_choices o test element sizes next l us) (sym first)
    ∙ is

-- three operands
pub three : {a a' b b' c c' : Ref} → a ≡ a' → b ≡ b' → c ≡ c' → a ∷ b ∷ c ∷ [] ≡ a' ∷ b' ∷ c' ∷ []
three p q r = cc

-- ---- the same rules

pub tests_same : (o : Op) (w w' : ℕ) (i i' : Ref) (start n n' : ℕ) → w ≡ w' → i ≡ i' → n ≡ n' → tests o w i start 0 n ≡ tests o w' i' start 0 n'
tests_same o w w' i i' start n n' a b c = ap₂ (λ x y. tests o x y start 0 n) a b ∙ ap (tests o w' i' start 0) c

pub get_same : (o : Op) (test : ℕ → Ref) (n n' m m' next next' : ℕ) (rs rs' : List Ref) (ts ts' : List HwType) → n ≡ n' → m ≡ m' → rs ≡ rs' → next ≡ next' → ts ≡ ts'
    → leaf_choices o test (element_leaf n m rs) (λ l. n) next 0 ts ≡ leaf_choices o test (element_leaf n' m' rs') (λ l. n') next' 0 ts'
get_same o test n n' m m' next next' rs rs' ts ts' a b c d e =
    ap₂ (λ x y. leaf_choices o test (element_leaf x y rs) (λ l. x) next 0 ts) a b
    ∙ ap (λ x. leaf_choices o test (element_leaf n' m' x) (λ l. n') next 0 ts) c
    ∙ ap₂ (λ x y. leaf_choices o test (element_leaf n' m' rs') (λ l. n') x 0 y) d e

-- a part of one element takes each leaf of the elements from the first on
pub one_part : (o : Op) (test : ℕ → Ref) (n m : ℕ) (rs : List Ref) (start l : ℕ) (ts : List HwType) → l + length ts ≤ m
    → leaf_choices o test (λ i e. element_leaf n m rs (i % m) (e + element_of 1 m i)) (λ i. n - element_of 1 m i) start l ts ≡ leaf_choices o test (element_leaf n m rs) (λ i. n) start l ts
one_part o test n m rs start l [] within = refl
one_part o test n m rs start l (t ∷ ts) within =
    ap (λ os. made_op o (constant (pos 0)) [] (t ∷ []) [] t ∷ os)
    (ap₂ (λ a b. a ++ b)
    (choices_same o t test (λ e. element_leaf n m rs (l % m) (e + element_of 1 m l)) (element_leaf n m rs l) start (n - element_of 1 m l)
    (λ e. let same : e + element_of 1 m l ≡ e = omega (arith, none) in ap₂ (element_leaf n m rs) own same)
    ∙ ap (choices o t test (element_leaf n m rs l) start) size)
    (ap (λ k. leaf_choices o test (λ i e. element_leaf n m rs (i % m) (e + element_of 1 m i)) (λ i. n - element_of 1 m i) (start + suc k) (suc l) ts) size
    ∙ one_part o test n m rs (start + suc n) (suc l) ts (omega (arith, within))))
  where
    none : element_of 1 m l ≡ 0
    none = omega arith

    own : l % m ≡ l
    own = mod-eq_of_lt (omega (arith, within))

    size : n - element_of 1 m l ≡ n
    size = omega (arith, none)

pub slice_same : (o : Op) (test : ℕ → Ref) (n n' m m' k k' next next' : ℕ) (rs rs' : List Ref) (ts ts' : List HwType) → n ≡ n' → m ≡ m' → k ≡ k' → rs ≡ rs' → next ≡ next' → ts ≡ ts'
    → leaf_choices o test (λ l e. element_leaf n m rs (l % m) (e + element_of k m l)) (λ l. n - element_of k m l) next 0 ts
    ≡ leaf_choices o test (λ l e. element_leaf n' m' rs' (l % m') (e + element_of k' m' l)) (λ l. n' - element_of k' m' l) next' 0 ts'
slice_same o test n n' m m' k k' next next' rs rs' ts ts' a b f c d e =
    ap₂ (λ x y. leaf_choices o test (λ l e. element_leaf x y rs (l % y) (e + element_of k y l)) (λ l. x - element_of k y l) next 0 ts) a b
    ∙ ap₂ (λ x y. leaf_choices o test (λ l e. element_leaf n' m' y (l % m') (e + element_of x m' l)) (λ l. n' - element_of x m' l) next 0 ts) f c
    ∙ ap₂ (λ x y. leaf_choices o test (λ l e. element_leaf n' m' rs' (l % m') (e + element_of k' m' l)) (λ l. n' - element_of k' m' l) x 0 y) d e

pub inject_same : (o : Op) (test : ℕ → Ref) (n n' m m' : ℕ) (rs vs : List Ref) (ts ts' : List HwType) → n ≡ n' → m ≡ m' → ts ≡ ts'
    → for_each (λ l t. made_op o mux (test (element_of n m l) ∷ part vs (l % m) ∷ part rs l ∷ []) (t ∷ []) [] t) 0 ts
    ≡ for_each (λ l t. made_op o mux (test (element_of n' m' l) ∷ part vs (l % m') ∷ part rs l ∷ []) (t ∷ []) [] t) 0 ts'
inject_same o test n n' m m' rs vs ts ts' a b c =
    ap₂ (λ x y. for_each (λ l t. made_op o mux (test (element_of x y l) ∷ part vs (l % y) ∷ part rs l ∷ []) (t ∷ []) [] t) 0 ts) a b
    ∙ ap (for_each (λ l t. made_op o mux (test (element_of n' m' l) ∷ part vs (l % m') ∷ part rs l ∷ []) (t ∷ []) [] t) 0) c

-- what stands after tests
pub after_tests : (old now first first' then then' : List Op) → now ≡ old ++ first → first ≡ first' → then ≡ then' → now ++ then ≡ old ++ (first' ++ then')
after_tests old now first first' then then' put same rest = ap₂ (λ x y. x ++ y) (put ∙ ap (λ x. old ++ x) same) rest ∙ append_assoc old first' then'
