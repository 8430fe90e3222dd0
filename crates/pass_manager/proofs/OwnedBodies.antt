-- Bodies that lie behind owners while workers work them.
use Rattle.std.proofs.Common.{◌≡◌, ℕ, List, [], ◌∷◌, map, length, option_map, Option, Some, None, slice_get, refl, sym, ap, subst, ◌∙◌}
use Rattle.std.proofs.lemmas.List.{length-map}
use Rattle.std.proofs.lemmas.Option.{slice_get-map}
use Rattle.std.specs.Arc.{arc_value}
use Rattle.std.specs.declared.sync.Arc.{Arc}
use Rattle.ir_store.specs.declared.body.Body.{Body}
use Rattle.ir_store.specs.Bodies.{ops_of}
use Rattle.ir_store.specs.Numbered.{ops_by_position}
use Rattle.body_edits.specs.FitBodies.{IsOfFit}
use Rattle.body_edits.specs.Views.{body_ops}
use Rattle.inline_pass.specs.Received.{ops_in}

-- ---- bodies of equal operations

pub same_ops : (a b : Body) → ops_of a ≡ ops_of b → body_ops a ≡ body_ops b
unfolding body_ops
same_ops a b same = ap ops_by_position same

pub fit_same : (a b : Body) → ops_of a ≡ ops_of b → IsOfFit b → IsOfFit a
fit_same a b same of = record { design = of.design; fit = of.fit; number = of.number; owner = of.owner; there = of.there; is_body = of.is_body ∙ sym (same_ops a b same) }

-- ---- lists of them

module _ {Z : Type 0} where
  pub count_owned : (owned : List (Arc Body Z)) (bodies : List Body) → map arc_value owned ≡ bodies → length owned ≡ length bodies
  count_owned owned bodies same = sym (length-map owned arc_value) ∙ ap length same

  pub count_freed : (owned : List (Arc Body Z)) (bodies : List Body) → map ops_of bodies ≡ map ops_in owned → length bodies ≡ length owned
  count_freed owned bodies same = sym (length-map bodies ops_of) ∙ ap length same ∙ length-map owned ops_in

  -- behind an owner is the body at its position
  pub owned_at : (owned : List (Arc Body Z)) (bodies : List Body) (i : ℕ) (b : Arc Body Z) → map arc_value owned ≡ bodies → slice_get owned i ≡ Some b → slice_get bodies i ≡ Some (arc_value b)
  owned_at owned bodies i b same at = ap (λ zs. slice_get zs i) (sym same) ∙ slice_get-map arc_value owned i ∙ ap (option_map arc_value) at

  -- what holds of each body behind an owner holds of each of the bodies
  pub each_owned : (P : ℕ → Body → Type 0) (owned : List (Arc Body Z)) → ((i : ℕ) (b : Arc Body Z) → slice_get owned i ≡ Some b → P i (arc_value b))
      → (i : ℕ) (b : Body) → slice_get (map arc_value owned) i ≡ Some b → P i b
  each_owned P owned each i b at = go (slice_get owned i) refl
    where
      go : (x : Option (Arc Body Z)) → slice_get owned i ≡ x → P i b
      go None is = let clash : None ≡ Some b = sym (slice_get-map arc_value owned i ∙ ap (option_map arc_value) is) ∙ at in cc
      go (Some a) is =
          let both : Some (arc_value a) ≡ Some b = sym (slice_get-map arc_value owned i ∙ ap (option_map arc_value) is) ∙ at in
          let same : arc_value a ≡ b = cc in
          subst (P i) same (each i a is)

  pub ops_owned : (owned : List (Arc Body Z)) → map ops_of (map arc_value owned) ≡ map ops_in owned
  ops_owned [] = refl
  ops_owned (b ∷ owned) = ap (λ zs. ops_in b ∷ zs) (ops_owned owned)
