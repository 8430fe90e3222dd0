-- Names that are chosen: a word more, or a number more.
use Rattle.std.proofs.Common.{◌≡◌, ℕ, zero, suc, ◌+◌, ◌<◌, ◌≤◌, ◌^◌, Bool, true, false, cond, nat_eq, List, [], ◌∷◌, ◌++◌, length, drop, get_or, decimal, refl, sym, ap, ◌∙◌, arith}
use Rattle.std.specs.Prelude.{Some}
use Rattle.std.specs.Cmp.Lexicographic.{pointwise}
use Rattle.std.proofs.lemmas.Bool.{cond-false}
use Rattle.std.proofs.lemmas.List.Elements.{All-head, All-tail, All-push, All-weaker}
use Rattle.hw_model.specs.Types.{Name}
use Rattle.fresh_names.specs.Fresh.{is_taken, with_suffix, free_from, free_name}
use Rattle.fresh_names.specs.declared.taken_names.NameId.{NameId}
use Rattle.fresh_names.proofs.Free.{suffix_free, name_stays}
use Rattle.fresh_names.proofs.Taken.{same_back}
use Rattle.mlir_lexer.specs.Classes.{is_digit}
use Rattle.mlir_lexer.specs.Runs.{begins}
use Rattle.mlir_printer.specs.Naming.{first_name}
use Rattle.mlir_printer.specs.Choices.{name_chosen, names_chosen, number_of, limit, AreKnown, HaveWords, AreFree}
use Rattle.mlir_printer.specs.declared.chosen_names.Choice.{Choice}
use Rattle.mlir_printer.specs.declared.chosen_names.Choice.TheVariants.{Word, Number}
use Rattle.mlir_printer.proofs.names.Numbered.{mapped_at, first_at}
use Rattle.mlir_printer.proofs.names.GivenNames.{push_free, word_unlike, number_unlike}

-- ---- the names

first_prefix : (i : ℕ) (ws : List Name) (w : Name) → i < length ws → first_name (drop i (ws ++ w ∷ [])) ≡ first_name (drop i ws)
first_prefix i [] w lt = absurd (omega (arith, lt))
first_prefix zero (v ∷ ws) w lt = refl
first_prefix (suc i) (v ∷ ws) w lt = first_prefix i ws w (omega (arith, lt))

first_last : (ws : List Name) (w : Name) → first_name (drop (length ws) (ws ++ w ∷ [])) ≡ w
first_last [] w = refl
first_last (v ∷ ws) w = first_last ws w

-- a word more changes no name
name_stays_so : (ws : List Name) (w : Name) (n : ℕ) (c : Choice) → number_of c < limit (length ws) n c → name_chosen (ws ++ w ∷ []) c ≡ name_chosen ws c
name_stays_so ws w n (Word id) lt = first_prefix id.index ws w lt
name_stays_so ws w n (Number k) lt = refl

pub word_more : (ws : List Name) (w : Name) (n : ℕ) (cs : List Choice) (id : NameId) → AreKnown (length ws) n cs → id.index ≡ length ws
    → names_chosen (ws ++ w ∷ []) (cs ++ Word id ∷ []) ≡ names_chosen ws cs ++ w ∷ []
word_more ws w n [] id known e = ap (λ i. first_name (drop i (ws ++ w ∷ [])) ∷ []) e ∙ ap (λ x. x ∷ []) (first_last ws w)
word_more ws w n (c ∷ cs) id known e =
    ap (λ x. x ∷ names_chosen (ws ++ w ∷ []) (cs ++ Word id ∷ [])) (name_stays_so ws w n c (All-head (λ x. number_of x < limit (length ws) n x) c cs known))
    ∙ ap (λ l. name_chosen ws c ∷ l) (word_more ws w n cs id (All-tail (λ x. number_of x < limit (length ws) n x) c cs known) e)

pub number_more : (ws : List Name) (cs : List Choice) (n : ℕ) → names_chosen ws (cs ++ Number n ∷ []) ≡ names_chosen ws cs ++ decimal n ∷ []
number_more ws [] n = refl
number_more ws (c ∷ cs) n = ap (λ l. name_chosen ws c ∷ l) (number_more ws cs n)

-- the name at a position
pub name_at : (ws : List Name) (cs : List Choice) (i : ℕ) (c : Choice) → i < length cs → c ≡ get_or cs i c → name_chosen ws c ≡ first_name (drop i (names_chosen ws cs))
name_at ws cs i c lt at =
    first_at i (names_chosen ws cs) (name_chosen ws c) (ap (λ y. Some (name_chosen ws y)) at ∙ sym (mapped_at (name_chosen ws) cs i c lt))

-- ---- what is known of the choices

word_limit : (k n : ℕ) (c : Choice) → number_of c < limit k n c → number_of c < limit (k + 1) n c
word_limit k n (Word id) lt = omega (arith, lt)
word_limit k n (Number m) lt = lt

number_limit : (k n : ℕ) (c : Choice) → number_of c < limit k n c → number_of c < limit k (n + 1) c
number_limit k n (Word id) lt = lt
number_limit k n (Number m) lt = omega (arith, lt)

pub known_word : (k n : ℕ) (cs : List Choice) (id : NameId) → id.index ≡ k → AreKnown k n cs → AreKnown (k + 1) n (cs ++ Word id ∷ [])
known_word k n cs id e known =
    let is = λ (c : Choice). number_of c < limit k n c in
    let more = λ (c : Choice). number_of c < limit (k + 1) n c in
    All-push more cs (Word id) (All-weaker is more (word_limit k n) cs known) (omega (arith, e))

pub known_number : (k n : ℕ) (cs : List Choice) → AreKnown k n cs → AreKnown k (n + 1) (cs ++ Number n ∷ [])
known_number k n cs known =
    let is = λ (c : Choice). number_of c < limit k n c in
    let more = λ (c : Choice). number_of c < limit k (n + 1) c in
    All-push more cs (Number n) (All-weaker is more (number_limit k n) cs known) (omega arith)

-- ---- what is taken

or_false : (b : Bool) → cond b true false ≡ b
or_false true = refl
or_false false = refl

taken_push : (ns : List Name) (x q : Name) → is_taken (ns ++ x ∷ []) q ≡ cond (is_taken ns q) true (pointwise nat_eq x q)
taken_push [] x q = or_false (pointwise nat_eq x q)
taken_push (n ∷ ns) x q = go (pointwise nat_eq n q) (taken_push ns x q)
  where
    go : (b : Bool) → is_taken (ns ++ x ∷ []) q ≡ cond (is_taken ns q) true (pointwise nat_eq x q)
        → cond b true (is_taken (ns ++ x ∷ []) q) ≡ cond (cond b true (is_taken ns q)) true (pointwise nat_eq x q)
    go true r = refl
    go false r = r

pub words_word : (ws ns : List Name) (x : Name) → HaveWords ws ns → HaveWords (ws ++ x ∷ []) (ns ++ x ∷ [])
words_word ws ns x h q e = taken_push ns x q ∙ ap (λ b. cond b true (pointwise nat_eq x q)) (h q e) ∙ sym (taken_push ws x q)

pub words_number : (ws ns : List Name) (n : ℕ) → n < 2 ^ 64 → HaveWords ws ns → HaveWords ws (ns ++ decimal n ∷ [])
words_number ws ns n small h q e =
    taken_push ns (decimal n) q
    ∙ ap (λ b. cond (is_taken ns q) true b) (same_back (decimal n) q ∙ word_unlike q n small e)
    ∙ or_false (is_taken ns q)
    ∙ h q e

pub free_word : (ns : List Name) (x : Name) (n : ℕ) → begins is_digit x ≡ false → AreFree ns n → AreFree (ns ++ x ∷ []) n
free_word ns x n e free k le small = push_free ns x (decimal k) (free k le small) (word_unlike x k small e)

pub free_number : (ns : List Name) (n : ℕ) → AreFree ns n → AreFree (ns ++ decimal n ∷ []) (n + 1)
free_number ns n free k le small =
    push_free ns (decimal n) (decimal k) (free k (omega (arith, le)) small) (number_unlike n k (omega (arith, le)) small)

-- ---- free names

-- a suffixed name begins as the name
begins_suffixed : (w : Name) (k : ℕ) → 1 ≤ length w → begins is_digit (with_suffix w k) ≡ begins is_digit w
unfolding with_suffix
begins_suffixed [] k some = absurd (omega (arith, some))
begins_suffixed (b ∷ bs) k some = refl

-- where as much is taken, what is found is found among more as well
from_same : (xs ys : List Name) (w : Name) (n m k : ℕ) → ((j : ℕ) → is_taken xs (with_suffix w j) ≡ is_taken ys (with_suffix w j)) → n ≤ m
    → is_taken xs (free_from xs w n k) ≡ false → free_from xs w n k ≡ free_from ys w m k
from_same xs ys w zero zero k same le free = refl
from_same xs ys w zero (suc m) k same le free = sym (cond-false (is_taken ys (with_suffix w k)) (free_from ys w m (k + 1)) (with_suffix w k) (sym (same k) ∙ free))
from_same xs ys w (suc n) zero k same le free = absurd (omega (arith, le))
from_same xs ys w (suc n) (suc m) k same le free =
    go (is_taken xs (with_suffix w k)) (is_taken ys (with_suffix w k)) (same k) free (from_same xs ys w n m (k + 1) same (omega (arith, le)))
  where
    go : (a b : Bool) → a ≡ b → is_taken xs (cond a (free_from xs w n (k + 1)) (with_suffix w k)) ≡ false
        → (is_taken xs (free_from xs w n (k + 1)) ≡ false → free_from xs w n (k + 1) ≡ free_from ys w m (k + 1))
        → cond a (free_from xs w n (k + 1)) (with_suffix w k) ≡ cond b (free_from ys w m (k + 1)) (with_suffix w k)
    go true true e f r = r f
    go false false e f r = refl
    go true false e f r = cc
    go false true e f r = cc

-- a word's free name among the words is that among all names
pub free_same : (ws ns : List Name) (w : Name) → 1 ≤ length w → begins is_digit w ≡ false → HaveWords ws ns → length ws ≤ length ns → length ws + 1 < 2 ^ 64
    → free_name ws w ≡ free_name ns w
unfolding free_name
free_same ws ns w some word have le small =
    ap (λ b. cond b (free_from ws w (length ws) 0) w) (sym (have w word))
    ∙ ap (λ x. cond (is_taken ns w) x w)
    (from_same ws ns w (length ws) (length ns) 0 (λ j. sym (have (with_suffix w j) (begins_suffixed w j some ∙ word))) le (suffix_free ws w small))

-- a number is its own free name
pub number_free : (ns : List Name) (n : ℕ) → n < 2 ^ 64 → AreFree ns n → free_name ns (decimal n) ≡ decimal n
number_free ns n small free = name_stays ns (decimal n) (free n (omega arith) small)

-- ---- steps

-- the names after a word more
pub names_word : (ws others : List Name) (cs ds : List Choice) (n : ℕ) (x : Name) (id : NameId) → AreKnown (length ws) n cs → id.index ≡ length ws
    → others ≡ ws ++ x ∷ [] → ds ≡ cs ++ Word id ∷ [] → names_chosen others ds ≡ names_chosen ws cs ++ x ∷ []
names_word ws others cs ds n x id known at words choices =
    ap (λ l. names_chosen l ds) words ∙ ap (names_chosen (ws ++ x ∷ [])) choices ∙ word_more ws x n cs id known at
