-- Where each path and each value of the new design comes from.
use Rattle.std.proofs.Common.{◌≡◌, ℕ, ◌+◌, [], ◌∷◌, slice_get, Option, Some, None, refl, sym, ap, ap₂, subst, ◌∙◌, option_and_then}
use Rattle.hw_model.specs.Types.{Name}
use Rattle.hw_model.specs.Kinds.{Instance}
use Rattle.hw_model.specs.Design.{find_module, instance_in, callee}
use Rattle.hw_model.specs.Design.Ref.{port}
use Rattle.hw_model.specs.Flat.{Path, Net, net, instances, before_instance, module_at, base, body_state}
use Rattle.hw_model.specs.Sound.{body_of}
use Rattle.hw_model.proofs.Paths.{module_inside, before_body}
use Rattle.inline_laws.proofs.Moved.{Matches, moved_symbol}
use Rattle.inline_laws.proofs.Moved.Matches.{missing, matched}
use Rattle.inline_laws.proofs.Sources.{inside_number}
use Rattle.inline_laws.proofs.Inlining.{Finds, Inlining, new_module, state_same}
use Rattle.inline_laws.proofs.Inlining.Finds.{changed, unchanged}
use Rattle.inline_laws.proofs.Views.{View, Numbered, next_path, origin_in, number_at}
use Rattle.inline_laws.proofs.Views.View.{inlined, as_before}

module _ (S : Inlining) (top : Name) where
  -- ---- paths

  view_found : (q p : Path) (s : Name) → module_at S.d top p ≡ find_module S.d s → module_at S.e top q ≡ find_module S.e s → View S top q p
  view_found q p s was now = go (S.finds s)
    where
      go : Finds S.d S.e S.md (new_module S) s → View S top q p
      go (changed old new) = inlined (was ∙ old) (now ∙ new)
      go (unchanged same) = as_before (now ∙ same ∙ sym was)

  next_view : (q p : Path) (x : View S top q p) (u : ℕ) → View S top (u ∷ q) (next_path S top q p x u)
  next_view q p x u = subst (View S top (u ∷ q)) (sym n.next_is) (go n.op)
    where
      n : Numbered S top q p x u
      n = number_at S top q p x u

      go : Matches n.move (slice_get (instances (body_of (module_at S.d top n.home))) n.number) (slice_get (instances (body_of (module_at S.e top q))) u)
          → View S top (u ∷ q) (n.number ∷ n.home)
      go (missing was now) =
          as_before (module_inside S.e u (module_at S.e top q) ∙ ap (λ z. option_and_then (callee S.e) z) now
          ∙ sym (module_inside S.d n.number (module_at S.d top n.home) ∙ ap (λ z. option_and_then (callee S.d) z) was))
      go (matched y y' was now moves) = by_instance (instance_in y.kind) refl
        where
          old_is : module_at S.d top (n.number ∷ n.home) ≡ option_and_then (λ (i : Instance). find_module S.d i.symbol) (instance_in y.kind)
          old_is = inside_number S.d top n.home n.number y was

          new_is : module_at S.e top (u ∷ q) ≡ option_and_then (λ (i : Instance). find_module S.e i.symbol) (instance_in y.kind)
          new_is =
              inside_number S.e top q u y' now
              ∙ moved_symbol n.move y y' moves (find_module S.e)

          by_instance : (z : Option Instance) → instance_in y.kind ≡ z → View S top (u ∷ q) (n.number ∷ n.home)
          by_instance None is =
              as_before (new_is ∙ ap (λ z. option_and_then (λ (i : Instance). find_module S.e i.symbol) z) is
              ∙ sym (old_is ∙ ap (λ z. option_and_then (λ (i : Instance). find_module S.d i.symbol) z) is))
          by_instance (Some i) is =
              view_found (u ∷ q) (n.number ∷ n.home) i.symbol
              (old_is ∙ ap (λ z. option_and_then (λ (w : Instance). find_module S.d w.symbol) z) is)
              (new_is ∙ ap (λ z. option_and_then (λ (w : Instance). find_module S.e w.symbol) z) is)

  -- where a path comes from
  pub record Homed (q : Path) : Type 0 where
    pub home : Path
    pub view : View S top q home

  pub homed_at : (q : Path) → Homed q
  homed_at [] = record { home = []; view = view_found [] [] top refl refl }
  homed_at (u ∷ q) = record { home = next_path S top q (homed_at q).home (homed_at q).view u; view = next_view q (homed_at q).home (homed_at q).view u }

  abbrev pub home_of : Path → Path
  home_of q = (homed_at q).home

  abbrev pub view_of : (q : Path) → View S top q (home_of q)
  view_of q = (homed_at q).view

  pub home_start : home_of [] ≡ []
  unfolding homed_at
  home_start = refl

  pub home_next : (q : Path) (u : ℕ) → home_of (u ∷ q) ≡ next_path S top q (home_of q) (view_of q) u
  unfolding homed_at
  home_next q u = refl

  -- ---- values

  -- the net of the old design from which a net of the new one comes
  abbrev pub origin : Net → Net
  origin a = origin_in S top a.path (home_of a.path) (view_of a.path) a.ref

  pub port_origin : (q p : Path) (x : View S top q p) (j : ℕ) → origin_in S top q p x (port j) ≡ net p (port j)
  port_origin q p (inlined was now) j = refl
  port_origin q p (as_before same) j = refl

  -- content begins where it began
  pub base_same : (q : Path) → base S.e top q ≡ base S.d top (home_of q)
  unfolding homed_at
  base_same [] = refl
  base_same (u ∷ q) =
      ap₂ (λ a b. a + b) (base_same q)
      (before_body S.e u (module_at S.e top q) ∙ ap (λ f. body_state f (before_instance u (body_of (module_at S.e top q)))) (state_same S))
      ∙ sym n.before
      ∙ ap (λ b. base S.d top n.home + b) (sym (before_body S.d n.number (module_at S.d top n.home)))
      ∙ ap (base S.d top) (sym n.next_is)
    where
      n : Numbered S top q (home_of q) (view_of q) u
      n = number_at S top q (home_of q) (view_of q) u
