-- The one list that a stable sort gives.
use Rattle.std.proofs.Common.{◌≡◌, ℕ, suc, ◌<◌, ◌≤◌, Bool, true, false, cond, List, [], ◌∷◌, length, get_or, refl, ap, sym, ◌∙◌, arith}
use Rattle.std.specs.Prelude.{not, filter}
use Rattle.std.specs.Cmp.{IsStrictWeakOrder}
use Rattle.std.specs.List.Sorted.{IsSortedBy, IsStableBy, ties}
use Rattle.std.proofs.lemmas.Bool.{and_parts, not-true}
use Rattle.std.proofs.lemmas.List.Sorted.{sorted_far}

same_tail : {X : Type 0} (b c : Bool) (x y : X) (xs ys : List X) → b ≡ c → cond b (x ∷ xs) xs ≡ cond c (y ∷ ys) ys → xs ≡ ys
same_tail true true x y xs ys h e = cc
same_tail false false x y xs ys h e = e
same_tail true false x y xs ys h e = cc
same_tail false true x y xs ys h e = cc

module _ {X : Type 0} (lt : X → X → Bool) (o : IsStrictWeakOrder lt) where
  -- an element put after those that are less
  abbrev pub put : X → List X → List X
  put e [] = e ∷ []
  put e (x ∷ xs) = cond (lt x e) (x ∷ put e xs) (e ∷ x ∷ xs)

  abbrev pub in_order : List X → List X
  in_order [] = []
  in_order (x ∷ xs) = put x (in_order xs)

  -- none of these is less
  abbrev NoneLess : X → List X → Type 0
  NoneLess x [] = Unit {0}
  NoneLess x (y ∷ ys) = (lt y x ≡ false) × NoneLess x ys

  abbrev Rises : List X → Type 0
  Rises [] = Unit {0}
  Rises (x ∷ xs) = NoneLess x xs × Rises xs

  not_less_itself : (x : X) → lt x x ≡ false
  not_less_itself x = go (lt x x) refl
    where
      go : (b : Bool) → lt x x ≡ b → lt x x ≡ false
      go true t = o.one_way x x t
      go false t = t

  ties_itself : (x : X) → ties lt x x ≡ true
  ties_itself x = rw (not_less_itself x) refl

  -- ---- what is put in order rises

  none_less_from : (x e : X) (ws : List X) → lt x e ≡ false → NoneLess x ws → NoneLess e ws
  none_less_from x e [] h n = tt
  none_less_from x e (w ∷ ws) h n = (o.chain w x e n.0 h, none_less_from x e ws h n.1)

  put_none : (x e : X) (ws : List X) → lt e x ≡ false → NoneLess x ws → NoneLess x (put e ws)
  put_none x e [] h n = (h, tt)
  put_none x e (w ∷ ws) h n = go (lt w e) (put_none x e ws h n.1)
    where
      go : (b : Bool) → NoneLess x (put e ws) → NoneLess x (cond b (w ∷ put e ws) (e ∷ w ∷ ws))
      go true r = (n.0, r)
      go false r = (h, n)

  put_rises : (e : X) (ws : List X) → Rises ws → Rises (put e ws)
  put_rises e [] r = (tt, tt)
  put_rises e (w ∷ ws) r = go (lt w e) refl (put_rises e ws r.1)
    where
      go : (b : Bool) → lt w e ≡ b → Rises (put e ws) → Rises (cond b (w ∷ put e ws) (e ∷ w ∷ ws))
      go true t s = (put_none w e ws (o.one_way w e t) r.0, s)
      go false t s = ((t, none_less_from w e ws t r.0), r)

  in_order_rises : (xs : List X) → Rises (in_order xs)
  in_order_rises [] = tt
  in_order_rises (x ∷ xs) = put_rises x (in_order xs) (in_order_rises xs)

  -- ---- elements that tie keep their order

  tied : (q w : X) → ties lt q w ≡ true → (lt q w ≡ false) × (lt w q ≡ false)
  tied q w h = let p = and_parts (not (lt q w)) (not (lt w q)) h in (not-true (lt q w) p.0, not-true (lt w q) p.1)

  put_stable : (q e : X) (ws : List X) → filter (ties lt q) (put e ws) ≡ filter (ties lt q) (e ∷ ws)
  put_stable q e [] = refl
  put_stable q e (w ∷ ws) = go (lt w e) refl (put_stable q e ws)
    where
      both : (a b : Bool) → ties lt q w ≡ a → ties lt q e ≡ b → lt w e ≡ true →
          cond a (w ∷ cond b (e ∷ filter (ties lt q) ws) (filter (ties lt q) ws)) (cond b (e ∷ filter (ties lt q) ws) (filter (ties lt q) ws))
          ≡ cond b (e ∷ cond a (w ∷ filter (ties lt q) ws) (filter (ties lt q) ws)) (cond a (w ∷ filter (ties lt q) ws) (filter (ties lt q) ws))
      both true true s t l = let p = o.chain w q e (tied q w s).1 (tied q e t).0 in cc
      both true false s t l = refl
      both false true s t l = refl
      both false false s t l = refl

      go : (b : Bool) → lt w e ≡ b → filter (ties lt q) (put e ws) ≡ filter (ties lt q) (e ∷ ws) →
          filter (ties lt q) (cond b (w ∷ put e ws) (e ∷ w ∷ ws)) ≡ filter (ties lt q) (e ∷ w ∷ ws)
      go true t r = ap (λ fs. cond (ties lt q w) (w ∷ fs) fs) r ∙ both (ties lt q w) (ties lt q e) refl refl t
      go false t r = refl

  in_order_stable : (q : X) (xs : List X) → filter (ties lt q) (in_order xs) ≡ filter (ties lt q) xs
  in_order_stable q [] = refl
  in_order_stable q (x ∷ xs) = put_stable q x (in_order xs) ∙ ap (λ fs. cond (ties lt q x) (x ∷ fs) fs) (in_order_stable q xs)

  -- ---- there is one such list

  least : (y z : X) (ws : List X) (v : X) (vs : List X) → NoneLess z ws → filter (ties lt y) ws ≡ v ∷ vs → lt y z ≡ false
  least y z [] v vs n e = cc
  least y z (w ∷ ws) v vs n e = go (ties lt y w) refl e (λ f. least y z ws v vs n.1 f)
    where
      go : (b : Bool) → ties lt y w ≡ b → cond b (w ∷ filter (ties lt y) ws) (filter (ties lt y) ws) ≡ v ∷ vs → (filter (ties lt y) ws ≡ v ∷ vs → lt y z ≡ false) → lt y z ≡ false
      go true t f r = o.chain y w z (tied y w t).0 n.0
      go false t f r = r f

  pub same_rising : (ys zs : List X) → Rises ys → Rises zs → ((q : X) → filter (ties lt q) ys ≡ filter (ties lt q) zs) → ys ≡ zs
  same_rising [] [] a b f = refl
  same_rising [] (z ∷ zs) a b f = let e : [] ≡ z ∷ filter (ties lt z) zs = rw (ties_itself z) at (f z) in cc
  same_rising (y ∷ ys) [] a b f = let e : y ∷ filter (ties lt y) ys ≡ [] = rw (ties_itself y) at (f y) in cc
  same_rising (y ∷ ys) (z ∷ zs) a b f =
      let fy : y ∷ filter (ties lt y) ys ≡ filter (ties lt y) (z ∷ zs) = rw (ties_itself y) at (f y) in
      let fz : filter (ties lt z) (y ∷ ys) ≡ z ∷ filter (ties lt z) zs = rw (ties_itself z) at (f z) in
      let p : lt y z ≡ false = least y z (z ∷ zs) y (filter (ties lt y) ys) (not_less_itself z, b.0) (sym fy) in
      let q : lt z y ≡ false = least z y (y ∷ ys) z (filter (ties lt z) zs) (not_less_itself y, a.0) fz in
      let t : ties lt y z ≡ true = rw (p, q) refl in
      let g : y ∷ filter (ties lt y) ys ≡ z ∷ filter (ties lt y) zs = rw t at fy in
      let h : y ≡ z = cc in
      let r : ys ≡ zs = same_rising ys zs a.1 b.1 (λ q. same_tail (ties lt q y) (ties lt q z) y z (filter (ties lt q) ys) (filter (ties lt q) zs) (ap (ties lt q) h) (f q)) in
      cc

  none_less : (x : X) (ys : List X) → ((j : ℕ) → j < length ys → lt (get_or ys j x) x ≡ false) → NoneLess x ys
  none_less x [] h = tt
  none_less x (y ∷ ys) h = (h 0 (omega arith), none_less x ys (λ j k. h (suc j) (omega arith)))

  rises_far : (xs : List X) → ((i j : ℕ) (d : X) → i ≤ j → j < length xs → lt (get_or xs j d) (get_or xs i d) ≡ false) → Rises xs
  rises_far [] far = tt
  rises_far (x ∷ xs) far =
      (none_less x xs (λ j h. far 0 (suc j) x (omega arith) (omega arith)), rises_far xs (λ i j d h k. far (suc i) (suc j) d (omega arith) (omega arith)))

  -- a stable sort gives it
  pub sorted_is : (xs ys : List X) → IsSortedBy lt ys → IsStableBy lt xs ys → ys ≡ in_order xs
  sorted_is xs ys up keeps =
      same_rising ys (in_order xs) (rises_far ys (sorted_far lt o ys up)) (in_order_rises xs) (λ q. keeps q ∙ sym (in_order_stable q xs))
