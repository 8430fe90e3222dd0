-- After an edit that makes no cycle the nets of the design have heights.
use Rattle.std.proofs.Common.{◌≡◌, ℕ, suc, ◌<◌, ◌≤◌, true, false, [], length, map, slice_get, Option, Some, None, refl, ap, subst, ◌∙◌, arith}
use Rattle.wiring.specs.Wiring.{In, greatest, IsHeight}
use Rattle.wiring.proofs.Lists.{map-map}
use Rattle.wiring.proofs.Members.{from_In-map}
use Rattle.wiring.proofs.Heights.{heights, FallsAlong-height}
use Rattle.hw_model.specs.Types.{Name, HwType}
use Rattle.hw_model.specs.Design.{Ref, Op, Module, Design, find_module, result_type}
use Rattle.hw_model.specs.Design.Ref.{port, result, undefined}
use Rattle.hw_model.specs.Flat.{Path, Net, net, Source, module_at, made_of, source}
use Rattle.hw_model.specs.Flat.Source.{nowhere, input, held, copy, op_result}
use Rattle.hw_model.specs.Meaning.{needs_of, needs, HasHeights}
use Rattle.hw_model.specs.Sound.{body_of}
use Rattle.hw_model.proofs.Sorts.{Sort, sort_of}
use Rattle.hw_model.proofs.Sorts.Sort.{a_register, an_instance, an_output, a_made}
use Rattle.hw_model.proofs.Paths.{op_in, result_in, result_here}
use Rattle.edit_laws.specs.Edit.{is_anchor, EditedModule}
use Rattle.edit_laws.specs.Falls.{LocalHeight, Falls}
use Rattle.edit_laws.proofs.Edited.{at, shape_at, standing, port_same, kept_same}
use Rattle.edit_laws.proofs.OtherOperands.{map_source}

-- ---- what a body says of heights

-- an operation that is made of its operands needs these
made_needs : (d : Design) (top : Name) (p : Path) (j k : ℕ) (o : Op) → slice_get (body_of (module_at d top p)) j ≡ Some o → is_anchor o ≡ false
    → needs d top (net p (result j k)) ≡ needs_of (made_of p o k (result_type o k))
made_needs d top p j k o is plain =
    ap needs_of (result_here d top p j k ∙ ap (result_in d top p (body_of (module_at d top p)) j k) is ∙ by_sort (sort_of o.kind))
  where
    by_sort : Sort o.kind → op_in d top p (body_of (module_at d top p)) j k o ≡ made_of p o k (result_type o k)
    by_sort (a_register f r i u) = let clash : true ≡ false = simp r at plain in cc
    by_sort (an_instance x r i u) = let clash : true ≡ false = simp (r, i) at plain in cc
    by_sort (an_output r i u) = let clash : true ≡ false = simp (r, i, u) at plain in cc
    by_sort (a_made r i u) = simp (r, i, u)

pub local_height : (d : Design) (top : Name) (h : Net → ℕ) → IsHeight (needs d top) h → (p : Path) → LocalHeight (body_of (module_at d top p)) (λ r. h (net p r))
local_height d top h height p = record {
  made = λ j k o t is plain typed.
      height (net p (result j k))
      ∙ ap (λ ns. suc (greatest (map h ns))) (made_needs d top p j k o is plain ∙ ap (λ x. needs_of (made_of p o k x)) typed)
      ∙ ap (λ ns. suc (greatest ns)) (map-map h (net p) o.operands);
  lowest = λ r.
      let low : h (net p undefined) ≡ 1 = height (net p undefined) in
      let high : h (net p r) ≡ suc (greatest (map h (needs d top (net p r)))) = height (net p r) in
      omega arith;
}

needs_of-map_source : (f : Net → Net) (s : Source) → needs_of (map_source f s) ≡ map f (needs_of s)
needs_of-map_source f nowhere = refl
needs_of-map_source f (input start w) = refl
needs_of-map_source f (held start w) = refl
needs_of-map_source f (copy n) = refl
needs_of-map_source f (op_result kind types t k ns) = refl

-- ---- the new heights

module _ (d d' : Design) (F : Option Module → Option Module → Type 0) (shape : (o o' : Option Module) → F o o' → EditedModule o o')
    (falls : (o o' : Option Module) (x : F o o') → Falls (body_of o) (body_of o') (shape o o' x).edit)
    (none : F None None) (each : (s : Name) → F (find_module d s) (find_module d' s)) (same : length d' ≡ length d) (top : Name) where
  falls_at : (p : Path) → Falls (body_of (module_at d top p)) (body_of (module_at d' top p)) (shape_at d d' F shape none each top p).edit
  falls_at p = falls (module_at d top p) (module_at d' top p) (at d d' F shape none each top p)

  module _ (h : Net → ℕ) (height : IsHeight (needs d top) h) where
    lifted : Net → ℕ
    lifted a = (falls_at a.path).lift (λ r. h (net a.path r)) a.ref

    -- what stays is above what it needs
    stays_falls : (a' a : Net) → source d' top a' ≡ map_source (standing d d' F shape none each top) (source d top a) → h a ≤ lifted a'
        → (b : Net) → In b (needs d' top a') → lifted b < lifted a'
    unfolding lifted
    stays_falls a' a is above b need =
        let here : In b (map (standing d d' F shape none each top) (needs d top a)) =
        subst (λ ns. In b ns) (ap needs_of is ∙ needs_of-map_source (standing d d' F shape none each top) (source d top a)) need in
        let from = from_In-map (standing d d' F shape none each top) b (needs d top a) here in
        let c : Net = from.0 in
        let below : lifted (standing d d' F shape none each top c) ≤ h c =
        (falls_at c.path).stand_is (λ r. h (net c.path r)) (local_height d top h height c.path) c.ref in
        let lower : h c < h a = FallsAlong-height (needs d top) h height a c from.1 in
        let equal : lifted b ≡ lifted (standing d d' F shape none each top c) = ap lifted from.2 in
        omega arith

    -- what is new is above its operands
    fresh_falls : (p : Path) (j k : ℕ) → (falls_at p).home j ≡ None → (b : Net) → In b (needs d' top (net p (result j k))) → lifted b < lifted (net p (result j k))
    unfolding lifted
    fresh_falls p j k new b need = by_op (slice_get (body_of (module_at d' top p)) j) refl
      where
        by_type : (o : Op) → slice_get (body_of (module_at d' top p)) j ≡ Some o → (x : Option HwType) → result_type o k ≡ x
            → In b (needs_of (made_of p o k x)) → lifted b < lifted (net p (result j k))
        by_type o is None typed here = absurd here
        by_type o is (Some t) typed here =
            let from = from_In-map (net p) b o.operands here in
            let lower : lifted (net p from.0) < lifted (net p (result j k)) =
            (falls_at p).fresh_falls (λ r. h (net p r)) (local_height d top h height p) j k o t new is typed from.0 from.1 in
            let equal : lifted b ≡ lifted (net p from.0) = ap lifted from.2 in
            omega arith

        by_op : (x : Option Op) → slice_get (body_of (module_at d' top p)) j ≡ x → lifted b < lifted (net p (result j k))
        by_op None is =
            let empty : needs d' top (net p (result j k)) ≡ [] =
            ap needs_of (result_here d' top p j k ∙ ap (result_in d' top p (body_of (module_at d' top p)) j k) is) in
            absurd (subst (λ ns. In b ns) empty need)
        by_op (Some o) is =
            by_type o is (result_type o k) refl
            (subst (λ ns. In b ns) (made_needs d' top p j k o is ((falls_at p).fresh_is j o new is)) need)

    lifted_falls : (p : Path) (r : Ref) (b : Net) → In b (needs d' top (net p r)) → lifted b < lifted (net p r)
    unfolding lifted
    lifted_falls p (port j) b need =
        stays_falls (net p (port j)) (net p (port j)) (port_same d d' F shape none each top p j)
        ((falls_at p).port_is (λ r. h (net p r)) (local_height d top h height p) j) b need
    lifted_falls p undefined b need = absurd need
    lifted_falls p (result j' k) b need = by_home ((falls_at p).home j') refl
      where
        by_home : (x : Option ℕ) → (falls_at p).home j' ≡ x → lifted b < lifted (net p (result j' k))
        by_home None new = fresh_falls p j' k new b need
        by_home (Some j) came =
            stays_falls (net p (result j' k)) (net p (result j k))
            (kept_same d d' F shape none each top same p j j' k
            ((shape_at d d' F shape none each top p).edit.kept j j' ((falls_at p).home_is j' j came)))
            ((falls_at p).kept_is (λ r. h (net p r)) (local_height d top h height p) j' j k came) b need

  pub heights_after : HasHeights d top → HasHeights d' top
  heights_after (h, height) = heights (needs d' top) (lifted h height) (λ a b need. lifted_falls h height a.path a.ref b need)
