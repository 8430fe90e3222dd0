-- What registers hold, bit by bit and one after another, in runs.
use Rattle.std.proofs.Common.{◌≡◌, refl, sym, ap, subst, ◌∙◌, ℕ, zero, suc, ◌+◌, ◌<◌, ◌≤◌, Bool, true, false, cond, List, [], ◌∷◌, ◌++◌, map, length, take, drop, min, Option, Some, None, slice_get, Result, Ok, Err, IfOk}
use Rattle.std.proofs.Common.{slice_index_or, arith, append_assoc, append-nil, length-drop, length-take}
use Rattle.std.proofs.lemmas.Option.{slice_get_within}
use Rattle.wiring.proofs.Lists.{take-suc_some, drop_some}
use Rattle.bits_core.specs.Word.{Word}
use Rattle.gates.specs.declared.signal.Signal.{Signal}
use Rattle.gates.specs.Build.{Build, done, and_then, choice}
use Rattle.gates.specs.Circuits.{Circuit, Runs}
use Rattle.gates.proofs.Running.{runs-done, runs_then}
use Rattle.gate_words.specs.GateLists.{top}
use Rattle.gate_words.proofs.Widths.{length-each}
use Rattle.hw_model.specs.Design.{Ref, Port, Op, is_register, is_output_op, output_refs}
use Rattle.hw_model.specs.Flat.{Slot, ResetBy, held_width}
use Rattle.operation_gates.specs.OperationGateLists.{known_word, concatenation}
use Rattle.net_gates.specs.RegisterGateLists.{load, load_bit, enable_gate_list, reset_gate_list, slots_gate_list}
use Rattle.flat_module_gates.specs.FlatGateLists.{own_bits, bits_in, starts_from, port_words, word_at, results_by, no_words}
use Rattle.flat_module_gates.specs.FlatSteps.{known_bit, known_bits, constant_at, load_in, any_reset_in, next_of, flat_gate_list_over, first_content, flat_gate_list, slot, slots_of, content_gate_list, content_width}
use Rattle.flat_module_gates.proofs.Building.{after, runs_after, runs_rest, runs_none}

pub known_is : (w : Word) → known_bits (known_word w) ≡ w
known_is [] = refl
known_is (b ∷ w) = ap (λ (v : Word). b ∷ v) (known_is w)

-- ---- loads, bit by bit

load_snoc : (c : Signal) (w : Word) (xs : List Signal) (b : Bool) (x : Signal) (s t u : Circuit) (made : List Signal) (y : Signal) → length w ≡ length xs
    → Runs (load c w xs) s t made → Runs (load_bit c b x) t u y → Runs (load c (w ++ b ∷ []) (xs ++ x ∷ [])) s u (made ++ y ∷ [])
unfolding load
load_snoc c [] [] b x s t u made y same runs more =
    let ends = runs_none [] made s t runs in
    let first : Runs (load_bit c b x) s u y = subst (λ a. Runs (load_bit c b x) a u y) ends.0 more in
    subst (λ m. Runs (load c (b ∷ []) (x ∷ [])) s u (m ++ y ∷ [])) (sym ends.1)
    (runs_then (λ z. and_then (load c [] []) (λ zs. done (z ∷ zs))) first (runs_then (λ zs. done (y ∷ zs)) runs-done runs-done))
load_snoc c [] (z ∷ xs) b x s t u made y same runs more = absurd (omega (arith, same))
load_snoc c (a ∷ w) [] b x s t u made y same runs more = absurd (omega (arith, same))
load_snoc c (a ∷ w) (z ∷ xs) b x s t u made y same runs more =
    let p = load_bit c a z in
    let one = (p s.inputs s.gates).got in
    let s' = after p s in
    let q = load c w xs in
    let many = (q s'.inputs s'.gates).got in
    let rest = runs_rest p (λ h. and_then q (λ hs. done (h ∷ hs))) s t made runs in
    let last = runs_rest q (λ hs. done (one ∷ hs)) s' t made rest in
    let ends = runs_none (one ∷ many) made (after q s') t last in
    let further : Runs (load_bit c b x) (after q s') u y = subst (λ v. Runs (load_bit c b x) v u y) ends.0 more in
    let again : Runs (load c (w ++ b ∷ []) (xs ++ x ∷ [])) s' u (many ++ y ∷ []) =
    load_snoc c w xs b x s' (after q s') u many y (omega (arith, same)) (runs_after q s') further in
    subst (λ m. Runs (load c (a ∷ w ++ b ∷ []) (z ∷ xs ++ x ∷ [])) s u (m ++ y ∷ [])) (sym ends.1)
    (runs_then (λ h. and_then (load c (w ++ b ∷ []) (xs ++ x ∷ [])) (λ hs. done (h ∷ hs))) (runs_after p s) (runs_then (λ hs. done (one ∷ hs)) again runs-done))

known_append : (xs ys : List Signal) → known_bits (xs ++ ys) ≡ known_bits xs ++ known_bits ys
known_append [] ys = refl
known_append (x ∷ xs) ys = ap (λ (w : Word). known_bit x ∷ w) (known_append xs ys)

known_length : (xs : List Signal) → length (known_bits xs) ≡ length xs
known_length [] = refl
known_length (x ∷ xs) = ap suc (known_length xs)

pub load_more : (c : Signal) (known old : List Signal) (i : ℕ) (k x : Signal) (s t u : Circuit) (made more : List Signal) (y : Signal) → i < length known → i < length old
    → take (i + 1) known ≡ take i known ++ k ∷ [] → take (i + 1) old ≡ take i old ++ x ∷ []
    → Runs (load c (known_bits (take i known)) (take i old)) s t made → Runs (load_bit c (known_bit k) x) t u y → more ≡ made ++ y ∷ []
    → Runs (load c (known_bits (take (i + 1) known)) (take (i + 1) old)) s u more
load_more c known old i k x s t u made more y below also first second runs bit is =
    rw (first, second, is, known_append (take i known) (k ∷ []))
    (load_snoc c (known_bits (take i known)) (take i old) (known_bit k) x s t u made y
    (known_length (take i known) ∙ (let a = length-take i known in let b = length-take i old in omega (arith, a, b))) runs bit)

load_taken : (c : Signal) (w : Word) (xs : List Signal) (n : ℕ) → n ≡ min (length w) (length xs) → load c (take n w) (take n xs) ≡ load c w xs
unfolding load
load_taken c [] xs n is = let none : n ≡ 0 = omega (arith, is) in rw none refl
load_taken c (b ∷ w) [] n is = let none : n ≡ 0 = omega (arith, is) in rw none refl
load_taken c (b ∷ w) (x ∷ xs) zero is = absurd (omega (arith, is))
load_taken c (b ∷ w) (x ∷ xs) (suc n) is =
    ap (λ (p : Build (List Signal)). and_then (load_bit c b x) (λ y. and_then p (λ ys. done (y ∷ ys)))) (load_taken c w xs n (omega (arith, is)))

known_taken : (n : ℕ) (xs : List Signal) → known_bits (take n xs) ≡ take n (known_bits xs)
known_taken zero xs = refl
known_taken (suc n) [] = refl
known_taken (suc n) (x ∷ xs) = ap (λ (w : Word). known_bit x ∷ w) (known_taken n xs)

pub load_end : (c : Signal) (known old : List Signal) (i n : ℕ) (s t : Circuit) (made : List Signal) → n ≡ min (length known) (length old) → i ≡ n
    → Runs (load c (known_bits (take i known)) (take i old)) s t made → Runs (load c (known_bits known) old) s t made
load_end c known old i n s t made size end runs =
    subst (λ p. Runs p s t made)
    (ap (λ (w : Word). load c w (take i old)) (known_taken i known)
    ∙ load_taken c (known_bits known) old i (end ∙ size ∙ ap (λ (m : ℕ). min m (length old)) (sym (known_length known)))) runs

-- ---- widths

pub length-load : (c : Signal) (w : Word) (xs : List Signal) (inputs : ℕ) (gates : List _) → length w ≡ length xs → length (load c w xs inputs gates).got ≡ length xs
unfolding load and_then done
length-load c [] [] inputs gates e = refl
length-load c [] (x ∷ xs) inputs gates e = absurd (omega (arith, e))
length-load c (b ∷ w) [] inputs gates e = absurd (omega (arith, e))
length-load c (b ∷ w) (x ∷ xs) inputs gates e = ap suc (length-load c w xs inputs _ (omega (arith, e)))

-- ---- content, register by register

module _ (each_of : Op → List Signal → Build (List Signal)) where
  abbrev gate_list : List Slot → List Signal → Build (List Signal)
  gate_list ss content = slots_gate_list (λ (s : Slot). each_of s.op) ss content

  abbrev bits : List Slot → ℕ
  bits [] = 0
  bits (s ∷ ss) = held_width s.op + bits ss

  slots_snoc : (ss : List Slot) (v : Slot) (content : List Signal) (s t u : Circuit) (made x : List Signal) → Runs (gate_list ss content) s t made
      → Runs (each_of v.op (take (held_width v.op) (drop (bits ss) content))) t u x → Runs (gate_list (ss ++ v ∷ []) content) s u (made ++ x)
  unfolding slots_gate_list
  slots_snoc [] v content s t u made x runs more =
      let ends = runs_none [] made s t runs in
      let first = subst (λ a. Runs (each_of v.op (take (held_width v.op) content)) a u x) ends.0 more in
      subst (λ m. Runs (gate_list (v ∷ []) content) s u (m ++ x)) (sym ends.1)
      (subst (Runs (gate_list (v ∷ []) content) s u) (append-nil x)
      (runs_then (λ y. and_then (gate_list [] (drop (held_width v.op) content)) (λ ys. done (y ++ ys))) first (runs_then (λ ys. done (x ++ ys)) runs-done runs-done)))
  slots_snoc (w ∷ ss) v content s t u made x runs more =
      let p = each_of w.op (take (held_width w.op) content) in
      let left = drop (held_width w.op) content in
      let one = (p s.inputs s.gates).got in
      let s' = after p s in
      let q = gate_list ss left in
      let many = (q s'.inputs s'.gates).got in
      let rest = runs_rest p (λ h. and_then q (λ hs. done (h ++ hs))) s t made runs in
      let last = runs_rest q (λ hs. done (one ++ hs)) s' t made rest in
      let ends = runs_none (one ++ many) made (after q s') t last in
      let further = subst (λ a. Runs (each_of v.op (take (held_width v.op) (drop (held_width w.op + bits ss) content))) a u x) ends.0 more in
      let again : Runs (gate_list (ss ++ v ∷ []) left) s' u (many ++ x) =
      slots_snoc ss v left s' (after q s') u many x (runs_after q s')
      (subst (λ ys. Runs (each_of v.op (take (held_width v.op) ys)) (after q s') u x) (sym (dropped (held_width w.op) (bits ss) content)) further) in
      subst (λ m. Runs (gate_list (w ∷ ss ++ v ∷ []) content) s u (m ++ x)) (sym ends.1)
      (subst (Runs (gate_list (w ∷ ss ++ v ∷ []) content) s u) (sym (append_assoc one many x))
      (runs_then (λ h. and_then (gate_list (ss ++ v ∷ []) left) (λ hs. done (h ++ hs))) (runs_after p s) (runs_then (λ hs. done (one ++ hs)) again runs-done)))
    where
      dropped : (m n : ℕ) (xs : List Signal) → drop n (drop m xs) ≡ drop (m + n) xs
      dropped zero n xs = let same : n ≡ 0 + n = omega arith in ap (λ (k : ℕ). drop k xs) same
      dropped (suc m) zero [] = let same : suc (m + 0) ≡ suc m + 0 = omega arith in ap (λ (k : ℕ). drop {A = Signal} k []) same
      dropped (suc m) (suc n) [] = let same : suc (m + suc n) ≡ suc m + suc n = omega arith in ap (λ (k : ℕ). drop {A = Signal} k []) same
      dropped (suc m) n (y ∷ ys) = let same : suc m + n ≡ suc (m + n) = omega arith in dropped m n ys ∙ ap (λ (k : ℕ). drop k (y ∷ ys)) (sym same)

  slots_after : (os : List Op) (o : Op) → slots_of (os ++ o ∷ []) ≡ slots_of os ++ cond (is_register o) (slot o ∷ []) []
  slots_after [] o = go (is_register o) refl
    where
      go : (b : Bool) → is_register o ≡ b → slots_of (o ∷ []) ≡ cond (is_register o) (slot o ∷ []) []
      go true is = simp is refl
      go false is = simp is refl
  slots_after (y ∷ os) o = go (is_register y) refl (slots_after os o)
    where
      go : (b : Bool) → is_register y ≡ b → slots_of (os ++ o ∷ []) ≡ slots_of os ++ cond (is_register o) (slot o ∷ []) []
          → slots_of (y ∷ os ++ o ∷ []) ≡ slots_of (y ∷ os) ++ cond (is_register o) (slot o ∷ []) []
      go true is rest = simp is (ap (λ (ss : List Slot). slot y ∷ ss) rest)
      go false is rest = simp is rest

  bits_are : (os : List Op) → bits (slots_of os) ≡ content_width os
  bits_are [] = refl
  bits_are (o ∷ os) = go (is_register o) refl (bits_are os)
    where
      go : (b : Bool) → is_register o ≡ b → bits (slots_of os) ≡ content_width os → bits (slots_of (o ∷ os)) ≡ content_width (o ∷ os)
      go true is rest = simp is (ap (λ (n : ℕ). held_width o + n) rest)
      go false is rest = simp is (rest ∙ (let same : content_width os ≡ 0 + content_width os = omega arith in same))

  pub content_begin : (content : List Signal) (s : Circuit) → Runs (content_gate_list each_of [] content) s s []
  unfolding slots_gate_list
  content_begin content s = runs-done

  pub content_skip : (os : List Op) (i : ℕ) (o : Op) (content : List Signal) (s t : Circuit) (made : List Signal) → slice_get os i ≡ Some o → is_register o ≡ false
      → Runs (content_gate_list each_of (take i os) content) s t made → Runs (content_gate_list each_of (take (i + 1) os) content) s t made
  content_skip os i o content s t made at is runs =
      let next : suc i ≡ i + 1 = omega arith in
      let same : slots_of (take (i + 1) os) ≡ slots_of (take i os) =
      ap (λ (n : ℕ). slots_of (take n os)) (sym next) ∙ ap slots_of (take-suc_some os i o at) ∙ slots_after (take i os) o
      ∙ ap (λ (b : Bool). slots_of (take i os) ++ cond b (slot o ∷ []) []) is ∙ append-nil (slots_of (take i os)) in
      subst (λ ss. Runs (gate_list ss content) s t made) (sym same) runs

  pub content_more : (os : List Op) (i : ℕ) (o : Op) (content : List Signal) (s t u : Circuit) (made x more : List Signal) → slice_get os i ≡ Some o → is_register o ≡ true
      → Runs (content_gate_list each_of (take i os) content) s t made → Runs (each_of o (take (held_width o) (drop (content_width (take i os)) content))) t u x → more ≡ made ++ x
      → Runs (content_gate_list each_of (take (i + 1) os) content) s u more
  content_more os i o content s t u made x more at is runs one joined =
      let next : suc i ≡ i + 1 = omega arith in
      let same : slots_of (take (i + 1) os) ≡ slots_of (take i os) ++ slot o ∷ [] =
      ap (λ (n : ℕ). slots_of (take n os)) (sym next) ∙ ap slots_of (take-suc_some os i o at) ∙ slots_after (take i os) o
      ∙ ap (λ (b : Bool). slots_of (take i os) ++ cond b (slot o ∷ []) []) is in
      subst (λ ss. Runs (gate_list ss content) s u more) (sym same)
      (subst (Runs (gate_list (slots_of (take i os) ++ slot o ∷ []) content) s u) (sym joined)
      (slots_snoc (slots_of (take i os)) (slot o) content s t u made x runs
      (subst (λ n. Runs (each_of o (take (held_width o) (drop n content))) t u x) (sym (bits_are (take i os))) one)))

-- ---- where the content of each operation begins

pub start_is : (os : List Op) (n i : ℕ) → i < length os → slice_index_or (starts_from n os) i 0 ≡ n + content_width (take i os)
start_is [] n i below = absurd (omega arith)
start_is (o ∷ os) n zero below = omega arith
start_is (o ∷ os) n (suc i) below = let rest = start_is os (n + own_bits o) i (omega arith) in omega (arith, rest)

pub width_more : (os : List Op) (i : ℕ) → i < length os → content_width (take (i + 1) os) ≡ content_width (take i os) + bits_in (slice_get os i)
width_more [] i below = absurd (omega arith)
width_more (o ∷ os) zero below = omega arith
width_more (o ∷ os) (suc i) below =
    let rest = width_more os i (omega arith) in
    let next : suc i + 1 ≡ suc (i + 1) = omega arith in
    ap (λ (n : ℕ). content_width (take n (o ∷ os))) next ∙ (let sum : own_bits o + content_width (take (i + 1) os) ≡ own_bits o + content_width (take i os) + bits_in (slice_get os i) = omega (arith, rest) in sum)

pub width_within : (os : List Op) (i : ℕ) (o : Op) → slice_get os i ≡ Some o → content_width (take i os) + own_bits o ≤ content_width os
width_within [] i o at = cc
width_within (y ∷ os) zero o at = let same : own_bits y ≡ own_bits o = ap (λ (x : Option Op). bits_in x) at in omega (arith, same)
width_within (y ∷ os) (suc i) o at = let rest = width_within os i o at in omega (arith, rest)

pub load_begin : (c : Signal) (s : Circuit) → Runs (load c [] []) s s []
unfolding load
load_begin c s = runs-done

pub none_past : (os : List Op) (i : ℕ) → length os ≤ i → slice_get os i ≡ None
none_past [] i past = refl
none_past (o ∷ os) zero past = absurd (omega arith)
none_past (o ∷ os) (suc i) past = none_past os i (omega arith)

pub length-enable : (e : Option Ref) (words : Ref → List Signal) (old new : List Signal) (s t : Circuit) (x : List Signal) → length new ≡ length old
    → Runs (enable_gate_list e words old new) s t x → length x ≡ length old
unfolding done
length-enable None words old new s t x same runs = ap length runs.is ∙ same
length-enable (Some e) words old new s t x same runs = ap length runs.is ∙ length-each (choice (top (words e))) new old s.inputs s.gates same ∙ same

pub length-reset : (r : Option ResetBy) (words : Ref → List Signal) (new : List Signal) (s t : Circuit) (x : List Signal)
    → ((v : ResetBy) → r ≡ Some v → length (words v.value) ≡ length new) → Runs (reset_gate_list r words new) s t x → length x ≡ length new
unfolding done
length-reset None words new s t x same runs = ap length runs.is
length-reset (Some r) words new s t x same runs =
    ap length runs.is ∙ length-each (choice (top (words r.signal))) (words r.value) new s.inputs s.gates (same r refl) ∙ same r refl

pub length-loaded : (os : List Op) (words : Ref → List Signal) (a : Option ResetBy) (old : List Signal) (s t : Circuit) (x : List Signal)
    → ((r : ResetBy) → a ≡ Some r → length (constant_at os r.value) ≡ length old) → Runs (load_in os words a old) s t x → length x ≡ length old
unfolding done
length-loaded os words None old s t x same runs = ap length runs.is
length-loaded os words (Some r) old s t x same runs = ap length runs.is ∙ length-load (top (words r.signal)) (constant_at os r.value) old s.inputs s.gates (same r refl)

pub length-any_reset : (os : List Op) (words : Ref → List Signal) (a r : Option ResetBy) (new : List Signal) (s t : Circuit) (x : List Signal)
    → ((v : ResetBy) → a ≡ Some v → length (constant_at os v.value) ≡ length new) → ((v : ResetBy) → r ≡ Some v → length (words v.value) ≡ length new)
    → Runs (any_reset_in os words a r new) s t x → length x ≡ length new
length-any_reset os words None r new s t x same also runs = length-reset r words new s t x also runs
length-any_reset os words (Some a) r new s t x same also runs = length-loaded os words (Some a) new s t x same runs

-- the content of a register, where it begins being told
pub old_is : (os : List Op) (starts : List ℕ) (i : ℕ) (o : Op) (content : List Signal) → slice_get os i ≡ Some o → starts ≡ starts_from 0 os
    → take (held_width o) (drop (slice_index_or starts i 0) content) ≡ take (held_width o) (drop (content_width (take i os)) content)
old_is os starts i o content at are =
    let begins : slice_index_or (starts_from 0 os) i 0 ≡ 0 + content_width (take i os) = start_is os 0 i (slice_get_within os i o at) in
    let none : 0 + content_width (take i os) ≡ content_width (take i os) = omega arith in
    ap (λ (n : ℕ). take (held_width o) (drop n content)) (ap (λ (xs : List ℕ). slice_index_or xs i 0) are ∙ begins ∙ none)

-- and it is as wide as it is
pub old_wide : (os : List Op) (i : ℕ) (o : Op) (content : List Signal) → slice_get os i ≡ Some o → is_register o ≡ true → content_width os ≤ length content
    → length (take (held_width o) (drop (content_width (take i os)) content)) ≡ held_width o
old_wide os i o content at is room =
    let within = width_within os i o at in
    let own : own_bits o ≡ held_width o = simp is refl in
    let left = length-drop (content_width (take i os)) content in
    let long = length-take (held_width o) (drop (content_width (take i os)) content) in
    omega (arith, within, own, left, long, room)

-- ---- the outputs of a body

pub outputs_here : (os : List Op) (i : ℕ) (o : Op) → slice_get os i ≡ Some o → is_output_op o ≡ true → output_refs os ≡ output_refs (drop i os) → output_refs os ≡ o.operands
outputs_here os i o at is have = have ∙ ap output_refs (drop_some os i o at) ∙ simp is refl

pub outputs_later : (os : List Op) (i : ℕ) (o : Op) → slice_get os i ≡ Some o → is_output_op o ≡ false → output_refs os ≡ output_refs (drop i os) → output_refs os ≡ output_refs (drop (i + 1) os)
outputs_later os i o at is have =
    let next : suc i ≡ i + 1 = omega arith in
    have ∙ ap output_refs (drop_some os i o at) ∙ simp is (ap (λ (n : ℕ). output_refs (drop n os)) next)

pub outputs_none : (os : List Op) (i : ℕ) → length os ≤ i → output_refs os ≡ output_refs (drop i os) → output_refs os ≡ []
outputs_none os i past have = have ∙ ap output_refs (dropped os i past)
  where
    dropped : (xs : List Op) (i : ℕ) → length xs ≤ i → drop i xs ≡ []
    dropped [] zero past = refl
    dropped [] (suc i) past = refl
    dropped (x ∷ xs) zero past = absurd (omega arith)
    dropped (x ∷ xs) (suc i) past = dropped xs i (omega arith)

-- ---- the module

pub over_runs : (ports : List (List Signal)) (os : List Op) (order : List ℕ) (s t u : Circuit) (content : List Signal) (results : List (List Signal)) (next made : List Signal)
    → Runs (results_by os content ports order (no_words (length os))) s t results
    → Runs (content_gate_list (next_of os (word_at ports results)) os content) t u next
    → made ≡ concatenation (map (word_at ports results) (output_refs os)) ++ next → Runs (flat_gate_list_over ports content os order) s u made
unfolding flat_gate_list_over
over_runs ports os order s t u content results next made first second is =
    subst (Runs (flat_gate_list_over ports content os order) s u) (sym is)
    (runs_then (λ r. and_then (content_gate_list (next_of os (word_at ports r)) os content) (λ n.
    done (concatenation (map (word_at ports r) (output_refs os)) ++ n))) first
    (runs_then (λ n. done (concatenation (map (word_at ports results) (output_refs os)) ++ n)) second runs-done))

pub side_runs_then : {V E : Type 0} (items : V → List Signal) (inputs : ℕ) (ps : List Port) (os : List Op) (order : List ℕ) (s t u : Circuit) (content : List Signal) (r : Result V E)
    → Runs (first_content inputs ps os) s t content → IfOk r (λ v. Runs (flat_gate_list_over (port_words 0 ps) content os order) t u (items v))
    → IfOk r (λ v. Runs (flat_gate_list inputs ps os order) s u (items v))
unfolding flat_gate_list
side_runs_then items inputs ps os order s t u content (Ok v) first second = runs_then (λ c. flat_gate_list_over (port_words 0 ps) c os order) first second
side_runs_then items inputs ps os order s t u content (Err e) first second = tt
