-- Flat bodies do not depend on the depth, where it is enough, and instance no private module.
use Rattle.std.proofs.Common.{◌≡◌, ℕ, zero, suc, ◌<◌, ◌≤◌, Bool, true, false, cond, List, length, map, Option, Some, None, refl, sym, ap, subst, ◌∙◌, arith, option_and_then, option_map}
use Rattle.std.proofs.lemmas.List.{length-map}
use mathlib.Core.Path.{fun_ext}
use Rattle.wiring.specs.Wiring.{In, IsHeight, HasHeights}
use Rattle.wiring.proofs.Heights.{FallsAlong-height, height-le}
use Rattle.hw_model.specs.Types.{Name}
use Rattle.hw_model.specs.Kinds.{Instance}
use Rattle.hw_model.specs.Design.{Op, Module, Design, find_module, instance_in}
use Rattle.hw_model.specs.Flat.{depth}
use Rattle.hw_model.specs.Hierarchy.{callee_symbols, calls, HasNoRecursion}
use Rattle.hw_model.specs.Sound.{body_of}
use Rattle.hw_model.proofs.Content.{call_heights}
use Rattle.hw_model.proofs.Finite.{calls_within}
use Rattle.inline_pass.specs.Flattening.{inline_all, private_callee, if_private, private_found, by_symbol, flat_body}
use Rattle.inline_pass.proofs.FlatteningWork.{work_alike, work_idle, work_calls}

-- with a body that is flat down to a depth
abbrev pub flat_to : ℕ → Design → Module → Module
flat_to n d c = record c { body = flat_body n d c.body }

abbrev pub flat_found : ℕ → Design → Name → Option Module
flat_found n d s = option_map (flat_to n d) (private_found d s)

-- a module with its flat body
abbrev pub flat_module : Design → Module → Module
flat_module d m = flat_to (depth d) d m

-- ---- by symbols

pub private_by_symbol : (d : Design) → private_callee d ≡ by_symbol (private_found d)
private_by_symbol d = fun_ext (λ o. go (instance_in o.kind))
  where
    go : (x : Option Instance) → option_and_then if_private (option_and_then (λ (i : Instance). find_module d i.symbol) x) ≡ option_and_then (λ (i : Instance). private_found d i.symbol) x
    go None = refl
    go (Some i) = refl

flat_by_symbol : (n : ℕ) (d : Design) → (λ (o : Op). option_map (flat_to n d) (private_callee d o)) ≡ by_symbol (flat_found n d)
flat_by_symbol n d = fun_ext (λ o. ap (λ f. option_map (flat_to n d) (f o)) (private_by_symbol d) ∙ go (instance_in o.kind))
  where
    go : (x : Option Instance) → option_map (flat_to n d) (option_and_then (λ (i : Instance). private_found d i.symbol) x) ≡ option_and_then (λ (i : Instance). flat_found n d i.symbol) x
    go None = refl
    go (Some i) = refl

pub flat_is : (n : ℕ) (d : Design) (os : List Op) → flat_body (suc n) d os ≡ inline_all (by_symbol (flat_found n d)) os
flat_is n d os = ap (λ f. inline_all f os) (flat_by_symbol n d)

-- a symbol's private module in two ways
private_alike : (d : Design) (s : Name) (f g : Module → Module) → ((c : Module) → find_module d s ≡ Some c → f c ≡ g c) → option_map f (private_found d s) ≡ option_map g (private_found d s)
private_alike d s f g same = go (find_module d s) refl
  where
    by_mark : (c : Module) (b : Bool) → f c ≡ g c → option_map f (cond b (Some c) None) ≡ option_map g (cond b (Some c) None)
    by_mark c true e = ap Some e
    by_mark c false e = refl

    go : (x : Option Module) → find_module d s ≡ x → option_map f (option_and_then if_private x) ≡ option_map g (option_and_then if_private x)
    go None is = refl
    go (Some c) is = by_mark c c.is_private (same c is)

-- ---- the depth

module _ (d : Design) (h : Name → ℕ) (height : IsHeight (calls d) h) where
  flat_steady : (m n : ℕ) (s : Name) → h s ≤ suc m → h s ≤ suc n → flat_body m d (body_of (find_module d s)) ≡ flat_body n d (body_of (find_module d s))
  flat_steady zero zero s low also = refl
  flat_steady zero (suc n) s low also =
      sym (flat_is n d (body_of (find_module d s)) ∙ work_idle (flat_found n d) (length (body_of (find_module d s))) 0 (body_of (find_module d s)) (λ t named. nothing t named))
    where
      nothing : (t : Name) → In t (calls d s) → flat_found n d t ≡ None
      nothing t named =
          let lower : h t < h s = FallsAlong-height (calls d) h height s t named in
          let positive : h t ≡ suc _ = height t in
          absurd (omega arith)
  flat_steady (suc m) zero s low also =
      flat_is m d (body_of (find_module d s)) ∙ work_idle (flat_found m d) (length (body_of (find_module d s))) 0 (body_of (find_module d s)) (λ t named. nothing t named)
    where
      nothing : (t : Name) → In t (calls d s) → flat_found m d t ≡ None
      nothing t named =
          let lower : h t < h s = FallsAlong-height (calls d) h height s t named in
          let positive : h t ≡ suc _ = height t in
          absurd (omega arith)
  flat_steady (suc m) (suc n) s low also =
      flat_is m d (body_of (find_module d s))
      ∙ work_alike (flat_found m d) (flat_found n d) (length (body_of (find_module d s))) 0 (body_of (find_module d s)) (λ t named. alike t named (λ small less. flat_steady m n t small less))
      ∙ sym (flat_is n d (body_of (find_module d s)))
    where
      alike : (t : Name) → In t (calls d s) → (h t ≤ suc m → h t ≤ suc n → flat_body m d (body_of (find_module d t)) ≡ flat_body n d (body_of (find_module d t)))
          → flat_found m d t ≡ flat_found n d t
      alike t named again =
          private_alike d t (flat_to m d) (flat_to n d)
          (λ c is.
          let lower : h t < h s = FallsAlong-height (calls d) h height s t named in
          let same : flat_body m d (body_of (find_module d t)) ≡ flat_body n d (body_of (find_module d t)) = again (omega arith) (omega arith) in
          ap (λ xs. record c { body = xs }) (subst (λ o. flat_body m d (body_of o) ≡ flat_body n d (body_of o)) is same))

  pub height_small : (s : Name) → h s ≤ suc (length d)
  height_small s = subst (λ k. h s ≤ suc k) (length-map d (λ (m : Module). m.symbol)) (height-le (calls d) (map (λ (m : Module). m.symbol) d) (calls_within d) h height s)

  -- one more than the number of modules is enough, and so is that number
  enough_found : (t : Name) → option_map (flat_module d) (private_found d t) ≡ flat_found (length d) d t
  enough_found t =
      private_alike d t (flat_module d) (flat_to (length d) d)
      (λ c is.
      let low : h t ≤ suc (length d) = height_small t in
      let same : flat_body (depth d) d (body_of (find_module d t)) ≡ flat_body (length d) d (body_of (find_module d t)) = flat_steady (depth d) (length d) t (omega arith) low in
      ap (λ xs. record c { body = xs }) (subst (λ o. flat_body (depth d) d (body_of o) ≡ flat_body (length d) d (body_of o)) is same))

  -- ---- what flat bodies instance

  flat_calls_to : (n : ℕ) (s : Name) → h s ≤ suc n → (t : Name) → In t (callee_symbols (flat_body n d (body_of (find_module d s)))) → private_found d t ≡ None
  flat_calls_to zero s low t named =
      let lower : h t < h s = FallsAlong-height (calls d) h height s t named in
      let positive : h t ≡ suc _ = height t in
      absurd (omega arith)
  flat_calls_to (suc n) s low t named =
      work_calls (flat_found n d) (λ u. private_found d u ≡ None) (length os) 0 os (omega arith) (λ u here. absurd here) not_private (λ u c here is v inside. within u c here is (λ small. flat_calls_to n u small) v inside) t
      (subst (λ xs. In t (callee_symbols xs)) (flat_is n d os) named)
    where
      os : List Op
      os = body_of (find_module d s)

      not_private : (u : Name) → In u (callee_symbols os) → flat_found n d u ≡ None → private_found d u ≡ None
      not_private u here none = go (private_found d u) none
        where
          go : (x : Option Module) → option_map (flat_to n d) x ≡ None → x ≡ None
          go None is = refl
          go (Some c) is = cc

      within : (u : Name) (c : Module) → In u (callee_symbols os) → flat_found n d u ≡ Some c
          → (h u ≤ suc n → (v : Name) → In v (callee_symbols (flat_body n d (body_of (find_module d u)))) → private_found d v ≡ None)
          → (v : Name) → In v (callee_symbols c.body) → private_found d v ≡ None
      within u c here is again v inside =
          let lower : h u < h s = FallsAlong-height (calls d) h height s u here in
          go (find_module d u) refl is (again (omega arith) v)
        where
          by_mark : (m : Module) (b : Bool) → option_map (flat_to n d) (cond b (Some m) None) ≡ Some c
              → (In v (callee_symbols (flat_body n d m.body)) → private_found d v ≡ None) → private_found d v ≡ None
          by_mark m true e rest = let same : flat_to n d m ≡ c = cc in rest (subst (λ (y : Module). In v (callee_symbols y.body)) (sym same) inside)
          by_mark m false e rest = cc

          go : (x : Option Module) → find_module d u ≡ x → option_map (flat_to n d) (option_and_then if_private x) ≡ Some c
              → (In v (callee_symbols (flat_body n d (body_of (find_module d u)))) → private_found d v ≡ None) → private_found d v ≡ None
          go None found e rest = cc
          go (Some m) found e rest = by_mark m m.is_private e (subst (λ o. In v (callee_symbols (flat_body n d (body_of o))) → private_found d v ≡ None) found rest)

-- what is instanced in flat bodies is no private module
pub flat_calls : (d : Design) → HasNoRecursion d → (s : Name) (m : Module) → find_module d s ≡ Some m → (t : Name) → In t (callee_symbols (flat_module d m).body) → private_found d t ≡ None
flat_calls d finite s m is t named =
    let low : high.0 s ≤ suc (length d) = height_small d high.0 high.1 s in
    flat_calls_to d high.0 high.1 (depth d) s (omega arith) t (subst (λ o. In t (callee_symbols (flat_body (depth d) d (body_of o)))) (sym is) named)
  where
    high : HasHeights (calls d)
    high = call_heights d finite

-- the flat body of a module is what the work makes of it where its private modules are flat
pub flat_from_flat : (d : Design) → HasNoRecursion d → (m : Module) (look : Name → Option Module)
    → ((t : Name) → In t (callee_symbols m.body) → look t ≡ option_map (flat_module d) (private_found d t)) → inline_all (by_symbol look) m.body ≡ (flat_module d m).body
flat_from_flat d finite m look flat =
    work_alike look (flat_found (length d) d) (length m.body) 0 m.body (λ t named. flat t named ∙ enough_found d high.0 high.1 t) ∙ sym (flat_is (length d) d m.body)
  where
    high : HasHeights (calls d)
    high = call_heights d finite
