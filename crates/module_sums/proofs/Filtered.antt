-- The modules that a module reaches, in an order in which each stands after those that it instances.
use Rattle.std.proofs.Common.{◌≡◌, ◌⊎◌, ℕ, zero, suc, ◌+◌, ◌<◌, Bool, true, false, cond, List, [], ◌∷◌, length, map, take, slice_get, Some, refl, sym, ap, subst, ◌∙◌, inl, inr, arith}
use Rattle.std.specs.List.{filter}
use Rattle.std.proofs.lemmas.List.{length-map}
use Rattle.wiring.specs.Wiring.{In}
use Rattle.wiring.proofs.Chains.{Chain-append}
use Rattle.hw_model.specs.Hierarchy.{callee_symbols}
use Rattle.hw_model.specs.Design.{Module, Design}
use Rattle.ir_store.specs.Designs.{StoredModule, numbered_module}
use Rattle.graphs.specs.Graphs.{edges, has_mark, AreReached}
use Rattle.design_cycles.specs.Calls.{symbols_in, numbers_of, call_lists}
use Rattle.design_cycles.specs.Weighing.{IsWhole}
use Rattle.module_sums.specs.Sums.{IsBelow}

-- ---- a part of an order

module _ (lists : List (List ℕ)) (p : ℕ → Bool) (closed : (v t : ℕ) → p v ≡ true → In t (edges lists v) → t < length lists → p t ≡ true) where
  -- what stands in a list needs what is seen before, or stands there before it
  Follows : (ℕ → Type 0) → List ℕ → Type 0
  Follows Seen nodes = (i v t : ℕ) → slice_get nodes i ≡ Some v → In t (edges lists v) → t < length lists → Seen t ⊎ In t (take i nodes)

  parts_follow : (nodes : List ℕ) (Seen Kept : ℕ → Type 0) → ((t : ℕ) → Seen t → p t ≡ true → Kept t) → Follows Seen nodes → Follows Kept (filter p nodes)
  unfolding Follows
  parts_follow [] Seen Kept keeps follows = λ i v t at. cc
  parts_follow (x ∷ nodes) Seen Kept keeps follows = go (p x) refl (λ Those also. parts_follow nodes (λ t. Seen t ⊎ (t ≡ x)) Those also rest)
    where
      rest : Follows (λ t. Seen t ⊎ (t ≡ x)) nodes
      rest i v t at edge near = regroup (follows (suc i) v t at edge near)
        where
          regroup : Seen t ⊎ In t (x ∷ take i nodes) → (Seen t ⊎ (t ≡ x)) ⊎ In t (take i nodes)
          regroup (inl seen) = inl (inl seen)
          regroup (inr (inl same)) = inl (inr same)
          regroup (inr (inr here)) = inr here

      go : (b : Bool) → p x ≡ b → ((Those : ℕ → Type 0) → ((t : ℕ) → Seen t ⊎ (t ≡ x) → p t ≡ true → Those t) → Follows Those (filter p nodes))
          → Follows Kept (cond b (x ∷ filter p nodes) (filter p nodes))
      go false not again = again Kept keeps'
        where
          keeps' : (t : ℕ) → Seen t ⊎ (t ≡ x) → p t ≡ true → Kept t
          keeps' t (inl seen) is = keeps t seen is
          keeps' t (inr same) is = let clash : false ≡ true = sym not ∙ ap p (sym same) ∙ is in cc
      go true is_kept again = λ i v t at edge near. by_place i v t at edge near
        where
          keeps' : (t : ℕ) → Seen t ⊎ (t ≡ x) → p t ≡ true → Kept t ⊎ (t ≡ x)
          keeps' t (inl seen) is = inl (keeps t seen is)
          keeps' t (inr same) is = inr same

          regroup : (t : ℕ) (ys : List ℕ) → (Kept t ⊎ (t ≡ x)) ⊎ In t ys → Kept t ⊎ In t (x ∷ ys)
          regroup t ys (inl (inl kept)) = inl kept
          regroup t ys (inl (inr same)) = inr (inl same)
          regroup t ys (inr here) = inr (inr here)

          by_place : (i v t : ℕ) → slice_get (x ∷ filter p nodes) i ≡ Some v → In t (edges lists v) → t < length lists → Kept t ⊎ In t (take i (x ∷ filter p nodes))
          by_place zero v t at edge near =
              let same : x ≡ v = cc in
              let marked : p t ≡ true = closed v t (ap p (sym same) ∙ is_kept) edge near in
              first (follows 0 v t at edge near) marked
            where
              first : Seen t ⊎ In t [] → p t ≡ true → Kept t ⊎ In t []
              first (inl seen) is = inl (keeps t seen is)
              first (inr never) is = absurd never
          by_place (suc i) v t at edge near =
              regroup t (take i (filter p nodes)) (again (λ u. Kept u ⊎ (u ≡ x)) keeps' i v t at edge near)

filter_in : (p : ℕ → Bool) (v : ℕ) (nodes : List ℕ) → In v nodes → p v ≡ true → In v (filter p nodes)
filter_in p v [] here is = here
filter_in p v (x ∷ nodes) (inl same) is = go (p x) (ap p (sym same) ∙ is)
  where
    go : (b : Bool) → b ≡ true → In v (cond b (x ∷ filter p nodes) (filter p nodes))
    go true set = inl same
    go false clash = cc
filter_in p v (x ∷ nodes) (inr here) is = go (p x) (filter_in p v nodes here is)
  where
    go : (b : Bool) → In v (filter p nodes) → In v (cond b (x ∷ filter p nodes) (filter p nodes))
    go true rest = inr rest
    go false rest = rest

from_filter : (p : ℕ → Bool) (v : ℕ) (nodes : List ℕ) → In v (filter p nodes) → In v nodes
from_filter p v [] here = here
from_filter p v (x ∷ nodes) here = go (p x) here (from_filter p v nodes)
  where
    go : (b : Bool) → In v (cond b (x ∷ filter p nodes) (filter p nodes)) → (In v (filter p nodes) → In v nodes) → In v (x ∷ nodes)
    go true (inl same) later = inl same
    go true (inr rest) later = inr (later rest)
    go false rest later = inr (later rest)

-- ---- what is reached

module _ (lists : List (List ℕ)) (top : ℕ) (marks : List Bool) (reached : AreReached lists (top ∷ []) marks) where
  reached_on : (v t : ℕ) → has_mark marks v ≡ true → In t (edges lists v) → t < length lists → has_mark marks t ≡ true
  reached_on v t mark edge near =
      let from = reached.sound v mark in
      reached.complete from.0 (from.1 + 1) t from.2 (Chain-append (edges lists) from.1 1 from.0 v t from.3 (t, edge, refl)) near

  pub reached_below : top < length lists → (nodes : List ℕ) → IsWhole lists nodes → IsBelow lists top (filter (has_mark marks) nodes)
  unfolding Follows
  reached_below there nodes whole = record {
    within = λ v here. whole.within v (from_filter (has_mark marks) v nodes here);
    top_there = filter_in (has_mark marks) top nodes (whole.all top there) (reached.complete top 0 top (inl refl) refl there);
    following = λ i v t at edge near.
        only t (take i (filter (has_mark marks) nodes))
        (parts_follow lists (has_mark marks) reached_on nodes (λ t'. ⊥) (λ t'. ⊥) (λ t' never is. never) (λ j w u at' edge' near'. inr (whole.following j w u at' edge' near')) i v t at edge near);
  }
    where
      only : (t : ℕ) (xs : List ℕ) → ⊥ ⊎ In t xs → In t xs
      only t xs (inl never) = absurd never
      only t xs (inr here) = here

pub modules_reached : (modules : List StoredModule) (top : ℕ) (marks : List Bool) (nodes kept : List ℕ) → top < length modules → AreReached (call_lists (map numbered_module modules)) (top ∷ []) marks
    → IsWhole (call_lists (map numbered_module modules)) nodes → kept ≡ filter (has_mark marks) nodes → IsBelow (call_lists (map numbered_module modules)) top kept
modules_reached modules top marks nodes kept there reached whole is =
    subst (IsBelow (call_lists design) top) (sym is) (reached_below (call_lists design) top marks reached within nodes whole)
  where
    design : Design
    design = map numbered_module modules

    within : top < length (call_lists design)
    within =
        let one : length (call_lists design) ≡ length design = length-map design (λ (x : Module). numbers_of (symbols_in design) (callee_symbols x.body)) in
        let other : length design ≡ length modules = length-map modules numbered_module in
        omega arith
