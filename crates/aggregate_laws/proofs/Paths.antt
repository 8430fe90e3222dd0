-- Two designs of which one has the leaves of the other's values, at each path of instances.
use Rattle.std.proofs.Common.{◌≡◌, ℕ, zero, suc, ◌+◌, ◌<◌, List, [], ◌∷◌, length, slice_get, Option, Some, None, refl, sym, ap, ap₂, ◌∙◌, arith, option_and_then, option_map}
use Rattle.std.proofs.lemmas.List.{length-map}
use Rattle.std.proofs.lemmas.Option.{slice_get-map}
use mathlib.Core.Path.{subst₂, fun_ext}
use Rattle.wiring.proofs.Options.{option_map_some}
use Rattle.hw_model.specs.Types.{Name, HwType, leaves}
use Rattle.hw_model.specs.Design.{Ref, Port, Op, Module, Design, find_module, callee}
use Rattle.hw_model.specs.Design.Ref.{port, result, undefined}
use Rattle.hw_model.specs.Flat.{Path, instances, before_instance, module_at, body_state, module_state, state, base}
use Rattle.hw_model.specs.Sound.{body_of, ports_of, type_in}
use Rattle.hw_model.proofs.Paths.{module_inside, state_body, before_body}
use Rattle.edit_laws.proofs.Edited.{Found, of_found}
use Rattle.edit_laws.proofs.Edited.Found.{of_symbol, absent}
use Rattle.aggregate_laws.specs.Leaves.{bare_op, spread}
use Rattle.aggregate_laws.specs.Lowered.{Lowered, LoweredWell}
use Rattle.aggregate_laws.proofs.Bare.{called_symbol, called_bare, callee_by_symbol}
use Rattle.aggregate_laws.proofs.Anchors.{instances_follow, state_follows, before_follows}

-- ---- a module that is not there

no_type : (r : Ref) (t : HwType) → type_in [] [] r ≡ Some t → ⊥
no_type (port j) t is = cc
no_type (result j k) t is = cc
no_type undefined t is = cc

none_lowered : Lowered None None
none_lowered = record {
  is_there = refl;
  ports_are = refl;
  parts = λ r. [];
  typed = λ r t is. absurd (no_type r t is);
  untyped = λ r is. refl;
  port_is = λ j. refl;
  anchors_are = refl;
  start = λ j i. 0;
  stands = λ j o i x is anchor at. cc;
  register_is = λ j o t is register typed. cc;
  register_has_one = λ j o k is register. cc;
  instance_is = λ j o k t is inst typed. cc;
  words = λ τ holds wide j o k t is plain typed. cc;
}

pub none_well : (scale : ℕ) → 0 < scale → LoweredWell scale None None
unfolding none_lowered
none_well scale positive = record {
  lowered = none_lowered;
  home = λ r. r;
  slack = λ r. 0;
  slack_is = λ r. positive;
  part_home = λ h local r r' here. absurd here;
  port_slack = λ j. refl;
  anchor_slack = λ j' k o is anchor. refl;
  origin = λ j' o' is anchor. cc;
  falls = λ h local j' k o t is plain typed r here. cc;
  fits = λ j' o is plain. cc;
}

-- what an operation instances is what the operation with leaves does
pub called_same : (parts : Ref → List Ref) (o o' : Op) → bare_op o' ≡ spread parts o → called_symbol o'.kind ≡ called_symbol o.kind
called_same parts o o' alike = sym (called_bare o'.kind) ∙ ap (λ (z : Op). called_symbol z.kind) alike ∙ called_bare o.kind

-- ---- the two designs

module _ (scale : ℕ) (d d' : Design) (each : (s : Name) → LoweredWell scale (find_module d s) (find_module d' s)) where
  positive : (s : Name) → 0 < scale
  positive s = let low : (each s).slack undefined < scale = (each s).slack_is undefined in omega arith

  found_called : (parts : Ref → List Ref) (o o' : Op) → bare_op o' ≡ spread parts o → Found d d' (callee d o) (callee d' o')
  found_called parts o o' alike =
      subst₂ (Found d d') (sym (callee_by_symbol d o)) (sym (callee_by_symbol d' o' ∙ ap (λ x. option_and_then (find_module d') x) (called_same parts o o' alike))) (go (called_symbol o.kind))
    where
      go : (x : Option Name) → Found d d' (option_and_then (find_module d) x) (option_and_then (find_module d') x)
      go None = absent refl refl
      go (Some s) = of_symbol s refl refl

  instance_of : (o o' : Option Module) (x : LoweredWell scale o o') (u : ℕ)
      → option_map bare_op (slice_get (instances (body_of o')) u) ≡ option_map (spread x.lowered.parts) (slice_get (instances (body_of o)) u)
  instance_of o o' x u =
      sym (slice_get-map bare_op (instances (body_of o')) u)
      ∙ ap (λ xs. slice_get xs u) (instances_follow (body_of o) (body_of o') x.lowered.parts x.lowered.anchors_are)
      ∙ slice_get-map (spread x.lowered.parts) (instances (body_of o)) u

  found_inside : (o o' : Option Module) → LoweredWell scale o o' → (u : ℕ)
      → Found d d' (option_and_then (λ (m : Module). option_and_then (callee d) (slice_get (instances m.body) u)) o) (option_and_then (λ (m : Module). option_and_then (callee d') (slice_get (instances m.body) u)) o')
  found_inside o o' x u =
      subst₂ (Found d d') (sym (module_inside d u o)) (sym (module_inside d' u o'))
      (go (slice_get (instances (body_of o)) u) (slice_get (instances (body_of o')) u) (instance_of o o' x u))
    where
      go : (y y' : Option Op) → option_map bare_op y' ≡ option_map (spread x.lowered.parts) y → Found d d' (option_and_then (callee d) y) (option_and_then (callee d') y')
      go None None same = absent refl refl
      go None (Some z') same = cc
      go (Some z) None same = cc
      go (Some z) (Some z') same = found_called x.lowered.parts z z' cc

  -- the content of a module has as many bits
  module_state_same : (n : ℕ) (s : Name) → module_state n d' s ≡ module_state n d s
  module_state_same zero s = refl
  module_state_same (suc n) s =
      state_body (module_state n d') (find_module d' s)
      ∙ ap (λ inner. body_state inner (body_of (find_module d' s))) (fun_ext (module_state_same n))
      ∙ state_follows (body_of (find_module d s)) (body_of (find_module d' s)) (each s).lowered.parts (each s).lowered.anchors_are (module_state n d)
      ∙ sym (state_body (module_state n d) (find_module d s))

  pub state_same : length d' ≡ length d → state d' ≡ state d
  state_same same = fun_ext (λ s. ap (λ n. module_state (suc n) d' s) same ∙ module_state_same (suc (length d)) s)

  module _ (top : Name) where
    pub found : (p : Path) → Found d d' (module_at d top p) (module_at d' top p)
    found [] = of_symbol top refl refl
    found (u ∷ p) =
        found_inside (module_at d top p) (module_at d' top p)
        (of_found d d' (LoweredWell scale) (none_well scale (positive top)) each (module_at d top p) (module_at d' top p) (found p)) u

    -- what is known of the two modules at a path
    pub at : (p : Path) → LoweredWell scale (module_at d top p) (module_at d' top p)
    at p = of_found d d' (LoweredWell scale) (none_well scale (positive top)) each (module_at d top p) (module_at d' top p) (found p)

    abbrev pub low : (p : Path) → Lowered (module_at d top p) (module_at d' top p)
    low p = (at p).lowered

    abbrev pub old_ports : Path → List Port
    old_ports p = ports_of (module_at d top p)

    abbrev pub new_ports : Path → List Port
    new_ports p = ports_of (module_at d' top p)

    abbrev pub old_body : Path → List Op
    old_body p = body_of (module_at d top p)

    abbrev pub new_body : Path → List Op
    new_body p = body_of (module_at d' top p)

    abbrev pub old_type : Path → Ref → Option HwType
    old_type p = type_in (ports_of (module_at d top p)) (body_of (module_at d top p))

    abbrev pub new_type : Path → Ref → Option HwType
    new_type p = type_in (ports_of (module_at d' top p)) (body_of (module_at d' top p))

    abbrev pub parts_at : Path → Ref → List Ref
    parts_at p = (at p).lowered.parts

    -- as many stand for a value as its type has leaves
    pub length_parts : (p : Path) (r : Ref) (t : HwType) → old_type p r ≡ Some t → length (parts_at p r) ≡ length (leaves t)
    length_parts p r t is =
        sym (length-map (parts_at p r) (new_type p)) ∙ ap length ((low p).typed r t is) ∙ length-map (leaves t) (λ (u : HwType). Some u)

    -- content begins where it began
    pub base_same : length d' ≡ length d → (p : Path) → base d' top p ≡ base d top p
    base_same same [] = refl
    base_same same (u ∷ p) =
        ap₂ (λ a b. a + b) (base_same same p)
        (before_body d' u (module_at d' top p)
        ∙ ap (λ inner. body_state inner (before_instance u (body_of (module_at d' top p)))) (state_same same)
        ∙ before_follows (old_body p) (new_body p) (parts_at p) (low p).anchors_are (state d) u
        ∙ sym (before_body d u (module_at d top p)))

    -- ---- instances

    instance_at : (p : Path) (u : ℕ) → option_map bare_op (slice_get (instances (new_body p)) u) ≡ option_map (spread (parts_at p)) (slice_get (instances (old_body p)) u)
    instance_at p u = instance_of (module_at d top p) (module_at d' top p) (at p) u

    pub instance_pair : (p : Path) (u : ℕ) (o : Op) → slice_get (instances (old_body p)) u ≡ Some o
        → (o' : Op) × (slice_get (instances (new_body p)) u ≡ Some o') × (bare_op o' ≡ spread (parts_at p) o)
    instance_pair p u o is = option_map_some bare_op (slice_get (instances (new_body p)) u) (instance_at p u ∙ ap (option_map (spread (parts_at p))) is)

    pub instance_back : (p : Path) (u : ℕ) (o' : Op) → slice_get (instances (new_body p)) u ≡ Some o'
        → (o : Op) × (slice_get (instances (old_body p)) u ≡ Some o) × (spread (parts_at p) o ≡ bare_op o')
    instance_back p u o' is = option_map_some (spread (parts_at p)) (slice_get (instances (old_body p)) u) (sym (instance_at p u) ∙ ap (option_map bare_op) is)

    pub inside : (p : Path) (u : ℕ) (o : Op) → slice_get (instances (old_body p)) u ≡ Some o → module_at d top (u ∷ p) ≡ callee d o
    inside p u o is = module_inside d u (module_at d top p) ∙ ap (λ x. option_and_then (callee d) x) is

    pub inside' : (p : Path) (u : ℕ) (o : Op) → slice_get (instances (new_body p)) u ≡ Some o → module_at d' top (u ∷ p) ≡ callee d' o
    inside' p u o is = module_inside d' u (module_at d' top p) ∙ ap (λ x. option_and_then (callee d') x) is
