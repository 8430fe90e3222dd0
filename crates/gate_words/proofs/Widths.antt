-- The widths of what gate lists give, and gate lists told by other gate lists.
use Rattle.std.proofs.Common.{◌≡◌, refl, sym, ap, subst, ◌∙◌, ℕ, suc, ◌+◌, ◌<◌, ◌≤◌, List, [], ◌∷◌, ◌++◌, length, replicate, drop, get_or, arith, length-append, true, false, Result, Ok, Err, IfOk}
use Rattle.std.proofs.Math.ListN.{length-replicate}
use Rattle.std.proofs.lemmas.List.{length-map}
use Rattle.gates.specs.declared.signal.Signal.TheVariants.{Fixed}
use Rattle.gates.specs.Signals.{inverse}
use Rattle.std.proofs.Math.Seq.{drop-cons}
use Rattle.gates.specs.declared.signal.Gate.{Gate}
use Rattle.gates.specs.declared.signal.Signal.{Signal}
use Rattle.gates.specs.Build.{Build, and_then, done, and, exclusive}
use Rattle.gates.specs.Circuits.{Circuit, Runs}
use Rattle.gates.proofs.Running.{runs-done, runs_then}
use Rattle.gate_words.specs.GateLists.{each, masked, flipped, sum, doubled, product_step, product_from, tried, divided_from, inverses, no_bits, negated, top}
use Rattle.gate_words.proofs.Loops.{drop_end}

pub masked_is_each : (c : Signal) (xs : List Signal) → masked c xs ≡ each and (replicate (length xs) c) xs
unfolding masked each
masked_is_each c [] = refl
masked_is_each c (x ∷ xs) = ap (λ (p : Build (List Signal)). and_then p (λ low. and_then (and c x) (λ bit. done (bit ∷ low)))) (masked_is_each c xs)

pub flipped_is_each : (c : Signal) (xs : List Signal) → flipped c xs ≡ each exclusive (replicate (length xs) c) xs
unfolding flipped each
flipped_is_each c [] = refl
flipped_is_each c (x ∷ xs) = ap (λ (p : Build (List Signal)). and_then p (λ low. and_then (exclusive c x) (λ bit. done (bit ∷ low)))) (flipped_is_each c xs)

pub length-masked : (c : Signal) (xs : List Signal) (inputs : ℕ) (gates : List Gate) → length (masked c xs inputs gates).got ≡ length xs
unfolding masked and_then done
length-masked c [] inputs gates = refl
length-masked c (x ∷ xs) inputs gates = ap suc (length-masked c xs inputs gates)

pub length-sum_word : (xs ys : List Signal) (c : Signal) (inputs : ℕ) (gates : List Gate) → length xs ≡ length ys → length (sum xs ys c inputs gates).got.word ≡ length xs
unfolding sum and_then done
length-sum_word [] ys c inputs gates e = refl
length-sum_word (x ∷ xs) [] c inputs gates e = absurd (omega arith)
length-sum_word (x ∷ xs) (y ∷ ys) c inputs gates e = ap suc (length-sum_word xs ys c inputs gates (omega arith))

pub length-doubled : (xs : List Signal) → length (doubled xs) ≡ length xs
length-doubled [] = refl
length-doubled (x ∷ xs) = length-append xs _ ∙ (let e : length xs + 1 ≡ suc (length xs) = omega arith in e)

-- ---- products from the top

pub product_next : (so_far next xs ys : List Signal) (i : ℕ) (d : Signal) {s t u : Circuit} {r : List Signal} → i < length ys
    → Runs (product_step so_far xs (get_or ys i d)) s t next → Runs (product_from next xs (drop (i + 1) ys)) t u r → Runs (product_from so_far xs (drop i ys)) s u r
unfolding product_from
product_next so_far next xs ys i d {s = s} {t = t} {u = u} {r = r} h first second =
    let e : i + 1 ≡ suc i = omega arith in
    rw (drop-cons ys i d h) (runs_then _ first (subst (λ n. Runs (product_from next xs (drop n ys)) t u r) e second))

pub product_end : (so_far xs ys : List Signal) (i : ℕ) {s : Circuit} → length ys ≤ i → Runs (product_from so_far xs (drop i ys)) s s so_far
unfolding product_from
product_end so_far xs ys i h = rw (drop_end ys i h) runs-done

-- ---- divisions from the top

pub length-each : (f : Signal → Signal → Build Signal) (xs ys : List Signal) (inputs : ℕ) (gates : List Gate) → length xs ≡ length ys → length (each f xs ys inputs gates).got ≡ length xs
unfolding each and_then done
length-each f [] ys inputs gates e = refl
length-each f (x ∷ xs) [] inputs gates e = absurd (omega arith)
length-each f (x ∷ xs) (y ∷ ys) inputs gates e = ap suc (length-each f xs ys inputs gates (omega arith))

pub divided_next : (left next xs d bits : List Signal) (bit : Signal) (i : ℕ) (o : Signal) {s t u : Circuit} {q r : List Signal} → i < length xs
    → Runs (tried left (get_or xs i o) d) s t (record { bit = bit; rest = next })
    → Runs (divided_from next (drop (i + 1) xs) d) t u (record { quotient = q; rest = r })
    → Runs (divided_from left (drop i xs) d) s u (record { quotient = bit ∷ q; rest = r })
unfolding divided_from
divided_next left next xs d bits bit i o {t = t} {u = u} {q = q} {r = r} h first second =
    let e : i + 1 ≡ suc i = omega arith in
    rw (drop-cons xs i o h)
    (runs_then _ first (runs_then _ (subst (λ n. Runs (divided_from next (drop n xs) d) t u (record { quotient = q; rest = r })) e second) runs-done))

pub divided_end : (left xs d : List Signal) (i : ℕ) {s : Circuit} → length xs ≤ i → Runs (divided_from left (drop i xs) d) s s (record { quotient = []; rest = left })
unfolding divided_from
divided_end left xs d i h = rw (drop_end xs i h) runs-done

-- ---- widths of division

pub length-wide : (r d wide : List Signal) (x : Signal) → wide ≡ r ++ x ∷ [] → length r ≡ length d → length wide ≡ suc (length d)
length-wide r d wide x e h = ap length e ∙ length-append r (x ∷ []) ∙ (let f : length r + 1 ≡ suc (length d) = omega arith in f)

pub length-complement : (d complement : List Signal) → complement ≡ Fixed true ∷ inverses d → length complement ≡ suc (length d)
length-complement d complement e = ap length e ∙ ap suc (length-map d inverse)

pub length-flipped : (c : Signal) (xs : List Signal) (inputs : ℕ) (gates : List Gate) → length (flipped c xs inputs gates).got ≡ length xs
unfolding flipped and_then done
length-flipped c [] inputs gates = refl
length-flipped c (x ∷ xs) inputs gates = ap suc (length-flipped c xs inputs gates)

pub length-negated : (c : Signal) (xs : List Signal) (inputs : ℕ) (gates : List Gate) → length (negated c xs inputs gates).got ≡ length xs
unfolding negated and_then done
length-negated c xs inputs gates =
    let ys = (flipped c xs inputs gates).got in
    length-sum_word ys (no_bits (length ys)) c inputs (gates ++ (flipped c xs inputs gates).gates) (sym (length-replicate (length ys) (Fixed false)))
    ∙ length-flipped c xs inputs gates

pub top_is_first : (xs : List Signal) → get_or xs 0 (Fixed false) ≡ top xs
top_is_first [] = refl
top_is_first (x ∷ xs) = refl

-- a building run last, of a value that is seen as what was built
pub runs_last_by : {A B V E : Type 0} {p : Build A} (f : A → Build B) {s t : Circuit} (u : Circuit) {a : A} (view : V → B) (r : Result V E)
    → Runs p s t a → IfOk r (λ v. Runs (f a) t u (view v)) → IfOk r (λ v. Runs (and_then p f) s u (view v))
runs_last_by f u view (Ok v) first second = runs_then f first second
runs_last_by f u view (Err e) first second = second
