-- Each part of a register's gate list carries its word: values of resets, choices, the content slot by slot.
use Rattle.std.proofs.Common.{◌≡◌, refl, sym, ap, ap₂, subst, ◌∙◌, ℕ, ◌+◌, ◌*◌, ◌≤◌, Bool, true, false, cond, not, ◌&&◌, ◌||◌, List, [], ◌∷◌, ◌++◌, length, take, drop, arith, length-append, length-drop, inl, inr, le_refl, le_trans}
use Rattle.wiring.specs.Wiring.{In}
use Rattle.bits_core.specs.Word.{Word, first, sign}
use Rattle.bits_core.proofs.First.{length-first, first_all, first-take}
use Rattle.gates.specs.declared.signal.Signal.{Signal}
use Rattle.gates.specs.Signals.{inverse}
use Rattle.gates.specs.Build.{Build}
use Rattle.gates.proofs.Carrying.{Carrying, Makes, makes-done, makes_more, makes_then}
use Rattle.gates.proofs.SingleBits.{Carries, makes-and, makes-or}
use Rattle.gate_words.specs.GateLists.{choose, top}
use Rattle.gate_words.proofs.Words.CarriesWord.{none, more}
use Rattle.gate_words.proofs.Words.{CarriesWord, IsWord, word_later, word_same, word-append, word-take, word-drop, word-top}
use Rattle.gate_words.proofs.LongGateLists.{choose_bits, makes-choose}
use Rattle.gate_words.proofs.BitSums.{choose_is}
use Rattle.hw_model.specs.Flat.{Slot, held_width}
use Rattle.hw_model.specs.Meaning.{map_slots}
use Rattle.hw_model.specs.Value.{is_high}
use Rattle.hw_model.proofs.Content.{slots_width}
use Rattle.operation_gates.proofs.WordLists.{makes_as}
use Rattle.net_gates.specs.RegisterGateLists.{load_bit, load, slots_gate_list}

-- the prices of slots together
abbrev pub slots_price : (Slot → ℕ) → List Slot → ℕ
slots_price cost [] = 0
slots_price cost (s ∷ ss) = cost s + slots_price cost ss

high_sign : (u : Word) → sign u ≡ is_high u
high_sign [] = refl
high_sign (b ∷ u) = refl

-- the content slot by slot is as wide as the slots
pub slots_long : (each : Slot → Word → Word) (ss : List Slot) (q : Word) → length (map_slots each ss q) ≡ slots_width ss
slots_long each [] q = refl
slots_long each (s ∷ ss) q =
    length-append (first (held_width s.op) (each s (first (held_width s.op) q))) (map_slots each ss (drop (held_width s.op) q))
    ∙ ap₂ (λ (a b : ℕ). a + b) (length-first (held_width s.op) (each s (first (held_width s.op) q))) (slots_long each ss (drop (held_width s.op) q))

module _ {inputs : ℕ} (c : Carrying inputs) where
  -- so many signals from one on carry the bits of that part
  pub word_part : (k start w : ℕ) (x : Word) (ss : List Signal) → start + w ≤ length x → CarriesWord c k x ss → CarriesWord c k (first w (drop start x)) (take w (drop start ss))
  word_part k start w x ss within holds =
      let room : w ≤ length (drop start x) = omega (arith, length-drop start x) in
      word_same c k (take w (drop start x)) (first w (drop start x)) (take w (drop start ss)) (sym (first-take w (drop start x) room))
      (word-take c k w (drop start x) (drop start ss) (word-drop c k start x ss holds))

  makes-load_bit : (n : ℕ) (d : Signal) (r : Bool) → c.at n d r → (b : Bool) (s : Signal) (p : Bool) → c.at n s p → Makes c (load_bit d b s) n 1 (Carries c (cond r b p))
  makes-load_bit n d r hd false s p hs =
      subst (λ t. Makes c (load_bit d false s) n 1 (Carries c t)) (kept r p) (makes-and c n (inverse d) s (not r) p (c.inverted n d r hd) hs)
    where
      kept : (r p : Bool) → (not r && p) ≡ cond r false p
      kept true p = refl
      kept false p = refl
  makes-load_bit n d r hd true s p hs = subst (λ t. Makes c (load_bit d true s) n 1 (Carries c t)) (set r p) (makes-or c n d s r p hd hs)
    where
      set : (r p : Bool) → (r || p) ≡ cond r true p
      set true p = refl
      set false p = refl

  load_bits : (n : ℕ) (d : Signal) (r : Bool) → c.at n d r → (w v : Word) (xs : List Signal) → CarriesWord c n v xs → length w ≡ length v
      → Makes c (load d w xs) n (length v) (IsWord c (choose_bits r w v))
  unfolding load
  load_bits n d r hd [] _ _ none e = makes-done c [] n (IsWord c []) none
  load_bits n d r hd [] _ _ (more p v s ss h t) e = absurd (omega arith)
  load_bits n d r hd (b ∷ w) _ _ none e = absurd (omega arith)
  load_bits n d r hd (b ∷ w) _ _ (more p v s ss h t) e =
      makes_more c _ n (1 + (length v + 0)) (length (p ∷ v)) _ (omega arith)
      (makes_then c _ _ n 1 (length v + 0) (Carries c (cond r b p)) _ (makes-load_bit n d r hd b s p h)
      (λ y k l hy.
      makes_then c _ _ k (length v) 0 (IsWord c (choose_bits r w v)) _
      (load_bits k d r (c.later n k d r l hd) w v ss (word_later c n k v ss l t) (omega arith))
      (λ ys j m hys. makes-done c (y ∷ ys) j (IsWord c (cond r b p ∷ choose_bits r w v)) (more _ _ _ _ (c.later k j y _ m hy) hys))))

  -- the word where a bit is 1, else what is carried
  pub makes-load : (n : ℕ) (es : List Signal) (e : Word) → CarriesWord c n e es → (w v : Word) (xs : List Signal) → CarriesWord c n v xs → length w ≡ length v
      → Makes c (load (top es) w xs) n (length v) (IsWord c (cond (is_high e) w v))
  makes-load n es e he w v xs hv same =
      makes_as c (load (top es) w xs) n (length v) (length v) (choose_bits (sign e) w v) (cond (is_high e) w v) (le_refl (length v))
      (choose_is (sign e) w v same ∙ ap (λ b. cond b w v) (high_sign e))
      (load_bits n (top es) (sign e) (word-top c n e es he) w v xs hv same)

  pub makes-chosen : (n : ℕ) (es : List Signal) (e : Word) → CarriesWord c n e es → (w : ℕ) (u : Word) (xs : List Signal) → CarriesWord c n u xs
      → (v : Word) (ys : List Signal) → CarriesWord c n v ys → length u ≡ w → length v ≡ w → Makes c (choose (top es) xs ys) n (3 * w) (IsWord c (cond (is_high e) u v))
  makes-chosen n es e he w u xs hu v ys hv eu ev =
      makes_as c (choose (top es) xs ys) n (3 * length u) (3 * w) (choose_bits (sign e) u v) (cond (is_high e) u v) (omega arith)
      (choose_is (sign e) u v (eu ∙ sym ev) ∙ ap (λ b. cond b u v) (high_sign e))
      (makes-choose c n (top es) (sign e) (word-top c n e es he) u xs hu v ys hv)

  -- ---- slot by slot

  pub makes-slots : (gate_list : Slot → List Signal → Build (List Signal)) (each : Slot → Word → Word) (cost : Slot → ℕ) (least : ℕ) (ss : List Slot)
      → ((s : Slot) → In s ss → (k : ℕ) → least ≤ k → (old : Word) (xs : List Signal) → CarriesWord c k old xs → length old ≡ held_width s.op
      → Makes c (gate_list s xs) k (cost s) (IsWord c (each s old)))
      → ((s : Slot) → In s ss → (old : Word) → length old ≡ held_width s.op → length (each s old) ≡ held_width s.op)
      → (k : ℕ) → least ≤ k → (q : Word) (xs : List Signal) → CarriesWord c k q xs → length q ≡ slots_width ss
      → Makes c (slots_gate_list gate_list ss xs) k (slots_price cost ss) (IsWord c (map_slots each ss q))
  unfolding slots_gate_list
  makes-slots gate_list each cost least [] made wide k l q xs hq size = makes-done c [] k (IsWord c []) none
  makes-slots gate_list each cost least (s ∷ ss) made wide k l q xs hq size =
      let w = held_width s.op in
      let enough : w ≤ length q = omega arith in
      let old : first w q ≡ take w q = first-take w q enough in
      let long : length (first w q) ≡ w = length-first w q in
      let here : CarriesWord c k (first w q) (take w xs) = word_same c k (take w q) (first w q) (take w xs) (sym old) (word-take c k w q xs hq) in
      let whole : first w (each s (first w q)) ≡ each s (first w q) = first_all w (each s (first w q)) (wide s (inl refl) (first w q) long) in
      let rest : length (drop w q) ≡ slots_width ss = omega (arith, length-drop w q) in
      makes_more c _ k (cost s + (slots_price cost ss + 0)) (slots_price cost (s ∷ ss)) _ (omega arith)
      (makes_then c _ _ k (cost s) (slots_price cost ss + 0) (IsWord c (each s (first w q))) _
      (made s (inl refl) k l (first w q) (take w xs) here long)
      (λ x j m hx.
      makes_then c _ _ j (slots_price cost ss) 0 (IsWord c (map_slots each ss (drop w q))) _
      (makes-slots gate_list each cost least ss (λ t there. made t (inr there)) (λ t there. wide t (inr there)) j (le_trans l m) (drop w q) (drop w xs)
      (word_later c k j (drop w q) (drop w xs) m (word-drop c k w q xs hq)) rest)
      (λ ys i n hys.
      makes-done c (x ++ ys) i (IsWord c (map_slots each (s ∷ ss) q))
      (word_same c i (each s (first w q) ++ map_slots each ss (drop w q)) (map_slots each (s ∷ ss) q) (x ++ ys) (ap (λ u. u ++ map_slots each ss (drop w q)) (sym whole))
      (word-append c i (each s (first w q)) x (map_slots each ss (drop w q)) ys (word_later c j i (each s (first w q)) x n hx) hys)))))
