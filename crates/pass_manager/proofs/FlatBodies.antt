-- Bodies of a design that are made flat, one by one.
use Rattle.std.proofs.Common.{◌≡◌, ℕ, suc, ◌<◌, true, false, cond, List, [], ◌∷◌, map, length, option_map, Option, Some, None, slice_get, get_or, refl, sym, ap, ap₂, subst, ◌∙◌, arith}
use Rattle.std.proofs.lemmas.List.{length-map, get_or-map}
use Rattle.std.proofs.lemmas.Option.{slice_get-map, get_or_from_slice_get}
use Rattle.std.specs.Arc.{arc_value}
use Rattle.std.specs.declared.sync.Arc.{Arc}
use Rattle.hw_model.specs.Design.{Op, Module, Design}
use Rattle.hw_model.specs.Flat.{depth}
use Rattle.hw_model.specs.Hierarchy.{callee_symbols}
use Rattle.sched_core.specs.State.{callees_of}
use Rattle.shared_schedule.specs.Copies.{AreReceived}
use Rattle.ir_store.specs.declared.body.Body.{Body}
use Rattle.ir_store.specs.Bodies.{ops_of}
use Rattle.ir_store.specs.Designs.{StoredModule, numbered_module}
use Rattle.ir_store.specs.Numbered.{ops_by_position}
use Rattle.ir_store.proofs.StoredModules.{stored_at}
use Rattle.design_cycles.specs.Calls.{symbols_in, numbers_of, call_lists}
use Rattle.body_edits.specs.Views.{body_ops}
use Rattle.inline_pass.specs.Flattening.{flat_body}
use Rattle.pass_manager.specs.PublicModules.{kept_body, emptied_design}
use Rattle.inline_pass.specs.OneBody.{IsFlatBody, IsOwnBody, AreHeaders, IsOneBody}
use Rattle.inline_pass.specs.Received.{ops_in}
use Rattle.pass_manager.specs.Works.{with_bodies, without_bodies}
use Rattle.pass_manager.specs.Flats.{AreListsOf, IsFlatCopy, IsKeptBody}
use Rattle.pass_manager.proofs.OwnedBodies.{owned_at}

-- ---- before the run

pub headers_of : (ms : List StoredModule) → AreHeaders (map numbered_module ms) (without_bodies ms)
headers_of [] = refl
headers_of (m ∷ ms) = ap (λ zs. record (numbered_module m) { body = [] } ∷ zs) (headers_of ms)

-- a row that is read
pub read_row : {X : Type 0} (rows : List X) (f : X → List ℕ) (m : ℕ) (row : X) → row ≡ get_or rows m row → m < length (map f rows) → f row ≡ callees_of (map f rows) m
read_row rows f m row at below =
    let size : length (map f rows) ≡ length rows = length-map rows f in
    ap f at ∙ sym (get_or-map f rows m row [] (omega (arith, below, size)))

-- there is a header for each list of callees
pub header_within : (d : Design) (headers : List StoredModule) (callees : List (List ℕ)) (m : ℕ) → AreListsOf d headers callees → m < length callees → m < length headers
header_within d headers callees m lists within =
    let one : length callees ≡ length (call_lists d) = ap length lists.lists_are in
    let two : length (call_lists d) ≡ length d = length-map d (λ (x : Module). numbers_of (symbols_in d) (callee_symbols x.body)) in
    let three : length (map numbered_module headers) ≡ length (map (λ (x : Module). record x { body = [] }) d) = ap length lists.headers_are in
    let four : length (map numbered_module headers) ≡ length headers = length-map headers numbered_module in
    let five : length (map (λ (x : Module). record x { body = [] }) d) ≡ length d = length-map d (λ (x : Module). record x { body = [] }) in
    omega (arith, one, two, three, four, five)

-- a header is private where its module is
pub header_mark : (d : Design) (headers : List StoredModule) (callees : List (List ℕ)) (m : ℕ) (header : StoredModule) (x : Module) → AreListsOf d headers callees
    → Some header ≡ slice_get headers m → slice_get d m ≡ Some x → header.is_private ≡ x.is_private
header_mark d headers callees m header x lists at was =
    let one : slice_get (map numbered_module headers) m ≡ Some (numbered_module header) = slice_get-map numbered_module headers m ∙ ap (option_map numbered_module) (sym at) in
    let two : slice_get (map (λ (y : Module). record y { body = [] }) d) m ≡ Some (record x { body = [] }) =
    slice_get-map (λ (y : Module). record y { body = [] }) d m ∙ ap (option_map (λ (y : Module). record y { body = [] })) was in
    let both : Some (numbered_module header) ≡ Some (record x { body = [] }) = sym one ∙ ap (λ zs. slice_get zs m) lists.headers_are ∙ two in
    let same : numbered_module header ≡ record x { body = [] } = cc in
    ap (λ (y : Module). y.is_private) same

module _ {Z : Type 0} where
  -- each body that is taken out of a design is its module's own one
  pub own_first : (ms : List StoredModule) (bodies : List Body) (firsts : List (Arc Body Z)) → map ops_of bodies ≡ map (λ (one : StoredModule). one.ops) ms → map arc_value firsts ≡ bodies
      → (i : ℕ) (b : Arc Body Z) → slice_get firsts i ≡ Some b → IsOwnBody (map numbered_module ms) i (arc_value b)
  unfolding body_ops
  own_first ms bodies firsts are same i b at = go (slice_get ms i) refl
    where
      taken : slice_get bodies i ≡ Some (arc_value b)
      taken = owned_at firsts bodies i b same at

      both : option_map (λ (one : StoredModule). one.ops) (slice_get ms i) ≡ Some (ops_of (arc_value b))
      both =
          sym (slice_get-map (λ (one : StoredModule). one.ops) ms i) ∙ ap (λ zs. slice_get zs i) (sym are) ∙ slice_get-map ops_of bodies i ∙ ap (option_map ops_of) taken

      go : (x : Option StoredModule) → slice_get ms i ≡ x → IsOwnBody (map numbered_module ms) i (arc_value b)
      go None is = let clash : None ≡ Some (ops_of (arc_value b)) = sym (ap (option_map (λ (one : StoredModule). one.ops)) is) ∙ both in cc
      go (Some one) is =
          let now : Some one.ops ≡ Some (ops_of (arc_value b)) = sym (ap (option_map (λ (one : StoredModule). one.ops)) is) ∙ both in
          let ops_are : one.ops ≡ ops_of (arc_value b) = cc in
          record { owner = numbered_module one; there = stored_at ms i one (sym is); is_body = ap ops_by_position ops_are }

  -- ---- the work on a body

  pub one_body : (d : Design) (m : ℕ) (headers : List StoredModule) (callees : List (List ℕ)) (first : Arc Body Z) (b : Body) (numbers : List ℕ) (received : List (Option (Arc Body Z)))
      → AreListsOf d headers callees → IsOwnBody d m (arc_value first) → ops_of b ≡ ops_in first → numbers ≡ callees_of callees m → AreReceived (IsFlatCopy d) (callees_of callees m) received
      → IsOneBody d m headers numbers received b
  unfolding body_ops
  one_body d m headers callees first b numbers received lists own ops are came = record {
    fit = lists.fit;
    headers_are = lists.headers_are;
    own = record { owner = own.owner; there = own.there; is_body = own.is_body ∙ ap ops_by_position (sym ops) };
    numbers_are = are ∙ ap (λ ls. callees_of ls m) lists.lists_are
        ∙ get_or_from_slice_get (call_lists d) m (numbers_of (symbols_in d) (callee_symbols own.owner.body)) []
        (slice_get-map (λ (x : Module). numbers_of (symbols_in d) (callee_symbols x.body)) d m
        ∙ ap (option_map (λ (x : Module). numbers_of (symbols_in d) (callee_symbols x.body))) own.there);
    many = came.many ∙ ap length (sym are);
    flat = λ i o at. subst (λ ns. IsFlatCopy d (get_or ns i 0) o) (sym are) (came.each i o at);
  }

  -- ---- what stays of a body

  -- of a private module nothing stays
  pub kept_none : (d : Design) (headers : List StoredModule) (callees : List (List ℕ)) (m : ℕ) (header : StoredModule) (b : Arc Body Z) (empty : Body) → AreListsOf d headers callees
      → Some header ≡ slice_get headers m → header.is_private ≡ true → ops_of empty ≡ [] → arc_value b ≡ empty → IsKeptBody d m (arc_value b)
  unfolding body_ops
  kept_none d headers callees m header b empty lists at mark none is x was =
      ap (λ z. ops_by_position (ops_of z)) is ∙ ap ops_by_position none
      ∙ sym (ap (λ k. cond k [] (flat_body (depth d) d x.body)) (sym (header_mark d headers callees m header x lists at was) ∙ mark))

  -- of a public one all of it
  pub kept_all : (d : Design) (headers : List StoredModule) (callees : List (List ℕ)) (m : ℕ) (header : StoredModule) (b : Arc Body Z) → AreListsOf d headers callees
      → Some header ≡ slice_get headers m → header.is_private ≡ false → IsFlatBody d m (arc_value b) → IsKeptBody d m (arc_value b)
  unfolding body_ops
  kept_all d headers callees m header b lists at mark flat x was =
      flat x was ∙ sym (ap (λ k. cond k [] (flat_body (depth d) d x.body)) (sym (header_mark d headers callees m header x lists at was) ∙ mark))

  -- ---- after the run

  kept_each : (F : Module → List Op) (ms : List StoredModule) (done : List (Arc Body Z)) → length done ≡ length ms
      → ((i : ℕ) (b : Arc Body Z) (m : Module) → slice_get done i ≡ Some b → slice_get (map numbered_module ms) i ≡ Some m → ops_by_position (ops_in b) ≡ F m)
      → map numbered_module (with_bodies (map ops_in done) (without_bodies ms)) ≡ map (λ (m : Module). record m { body = F m }) (map numbered_module ms)
  kept_each F [] [] size each = refl
  kept_each F [] (b ∷ done) size each = absurd (omega (arith, size))
  kept_each F (m ∷ ms) [] size each = absurd (omega (arith, size))
  kept_each F (m ∷ ms) (b ∷ done) size each =
      ap₂ (λ z zs. z ∷ zs) (ap (λ os. record (numbered_module m) { body = os }) (each 0 b (numbered_module m) refl refl))
      (kept_each F ms done (omega (arith, size)) (λ i x y at was. each (suc i) x y at was))

  -- the design once what stays of the flat bodies is put into it
  pub all_kept : (ms emptied new : List StoredModule) (done : List (Arc Body Z)) (bodies : List Body) → emptied ≡ without_bodies ms → length done ≡ length ms → map ops_of bodies ≡ map ops_in done
      → ((i : ℕ) (b : Arc Body Z) → slice_get done i ≡ Some b → IsKeptBody (map numbered_module ms) i (arc_value b)) → new ≡ with_bodies (map ops_of bodies) emptied
      → map numbered_module new ≡ emptied_design (map numbered_module ms)
  unfolding body_ops
  all_kept ms emptied new done bodies without size same each is =
      ap (map numbered_module) (is ∙ ap₂ with_bodies same without)
      ∙ kept_each (kept_body (map numbered_module ms)) ms done size (λ i b m at was. each i b at m was)
