-- Wires are taken out one after another, and an instance is inlined without wires.
use Rattle.std.proofs.Common.{◌≡◌, ℕ, zero, suc, List, [], ◌∷◌, ◌++◌, length, map, take, drop, set, remove, slice_get, Some, refl, sym, ap, ap₂, subst, ◌∙◌, inl, inr, option_and_then}
use Rattle.std.proofs.lemmas.List.{length-map, map-append}
use Rattle.std.proofs.lemmas.Option.{slice_get_within}
use Rattle.wiring.specs.Wiring.{In}
use Rattle.wiring.proofs.Lists.{map-map, slice_get-append_at, slice_get-set_same, set_some}
use Rattle.wiring.proofs.Members.{from_In-map}
use Rattle.hw_model.specs.Types.{Name, HwType}
use Rattle.hw_model.specs.Kinds.Kind.{wire}
use Rattle.hw_model.specs.Design.{Ref, OpResult, Op, Location, Module, Design, output_refs}
use Rattle.hw_model.specs.Design.Ref.{undefined}
use Rattle.edit_laws.specs.Edit.{retarget}
use Rattle.edit_laws.specs.Follows.{Valid, Follows}
use Rattle.edit_laws.specs.Laws.{without, erase_op, with_body}
use Rattle.edit_laws.proofs.Follows.{follows_then, follows_self}
use Rattle.edit_laws.proofs.OtherOperands.{map_retarget_id}
use Rattle.inline_laws.specs.Inline.{ref_or_undefined, wire_count, outer_ref, inner_ref, wire_op, wire_ops, inlined_wires, inlined_ops, inline_op, RenamesOnly, IsInlined}
use Rattle.inline_laws.specs.Unwire.{IsWireAt, operand_at, unwire, inline_without_wires}
use Rattle.inline_laws.proofs.Ends.{wires_length}
use Rattle.inline_laws.proofs.Follows.{length_before, inline_preserves, inline_types}
use Rattle.inline_laws.proofs.Unwired.{register_types, unwire_preserves, unwire_types}

-- ---- a part of a body taken out

remove_at : {A : Type 0} (xs : List A) (y : A) (ys : List A) → remove (xs ++ y ∷ ys) (length xs) ≡ xs ++ ys
remove_at [] y ys = refl
remove_at (x ∷ xs) y ys = ap (λ zs. x ∷ zs) (remove_at xs y ys)

retarget_twice : (f g : Ref → Ref) (os : List Op) → map (retarget g) (map (retarget f) os) ≡ map (retarget (λ r. g (f r))) os
retarget_twice f g [] = refl
retarget_twice f g (o ∷ os) = ap₂ (λ rs xs. record o { operands = rs } ∷ xs) (map-map g f o.operands) (retarget_twice f g os)

-- one operation taken out of a body of three parts
pub erased_is : (prefix : List Op) (w : Op) (ws back : List Op) (x : Ref)
    → erase_op (length prefix) x (prefix ++ (w ∷ (ws ++ back)))
    ≡ map (retarget (without (length prefix) (without (length prefix) undefined x))) prefix
    ++ (map (retarget (without (length prefix) (without (length prefix) undefined x))) ws ++ map (retarget (without (length prefix) (without (length prefix) undefined x))) back)
erased_is prefix w ws back x =
    ap (map (retarget f)) (remove_at prefix w (ws ++ back)) ∙ map-append (retarget f) prefix (ws ++ back) ∙ ap (λ zs. map (retarget f) prefix ++ zs) (map-append (retarget f) ws back)
  where
    f : Ref → Ref
    f = without (length prefix) (without (length prefix) undefined x)

-- the other parts, with other operands
pub record Others (prefix back os : List Op) : Type 0 where
  pub stand : Ref → Ref
  pub body_is : os ≡ map (retarget stand) prefix ++ map (retarget stand) back

pub others_stay : (n : ℕ) (prefix ws back : List Op) → length ws ≡ n → Others prefix back (unwire (length prefix) n (prefix ++ (ws ++ back)))
others_stay zero prefix [] back size = record { stand = λ r. r; body_is = sym (ap₂ (λ xs ys. xs ++ ys) (map_retarget_id prefix) (map_retarget_id back)) }
others_stay zero prefix (w ∷ ws) back size = cc
others_stay (suc n) prefix [] back size = cc
others_stay (suc n) prefix (w ∷ ws) back size =
    go (others_stay n (map (retarget f) prefix) (map (retarget f) ws) (map (retarget f) back) (length-map ws (retarget f) ∙ less size))
  where
    x : Ref
    x = operand_at (length prefix) (prefix ++ (w ∷ (ws ++ back)))

    f : Ref → Ref
    f = without (length prefix) (without (length prefix) undefined x)

    less : suc (length ws) ≡ suc n → length ws ≡ n
    less e = cc

    go : Others (map (retarget f) prefix) (map (retarget f) back) (unwire (length (map (retarget f) prefix)) n (map (retarget f) prefix ++ (map (retarget f) ws ++ map (retarget f) back)))
        → Others prefix back (unwire (length prefix) (suc n) (prefix ++ (w ∷ (ws ++ back))))
    go rest = record {
      stand = λ r. rest.stand (f r);
      body_is =
          ap (unwire (length prefix) n) (erased_is prefix w ws back x)
          ∙ ap (λ i. unwire i n (map (retarget f) prefix ++ (map (retarget f) ws ++ map (retarget f) back))) (sym (length-map prefix (retarget f)))
          ∙ rest.body_is ∙ ap₂ (λ xs ys. xs ++ ys) (retarget_twice f rest.stand prefix) (retarget_twice f rest.stand back);
    }

-- ---- wires

-- the operation is a wire with one operand and one result
pub record IsBareWire (o : Op) : Type 0 where
  pub operand : Ref
  pub type : HwType
  pub kind_is : o.kind ≡ wire
  pub operand_is : o.operands ≡ operand ∷ []
  pub result_is : map (λ (r : OpResult). r.type) o.results ≡ type ∷ []

bare_wire : (at : Location) (t : HwType) (r : Ref) → IsBareWire (wire_op at t r)
bare_wire at t r = record { operand = r; type = t; kind_is = refl; operand_is = refl; result_is = refl }

pub bare_wires : (at : Location) (move : Ref → Ref) (xs : List OpResult) (rs : List Ref) (y : Op) → In y (wire_ops at move xs rs) → IsBareWire y
bare_wires at move [] rs y here = absurd here
bare_wires at move (x ∷ xs) [] y (inl same) = subst IsBareWire (sym same) (bare_wire at x.type undefined)
bare_wires at move (x ∷ xs) [] y (inr here) = bare_wires at move xs [] y here
bare_wires at move (x ∷ xs) (r ∷ rs) y (inl same) = subst IsBareWire (sym same) (bare_wire at x.type (move r))
bare_wires at move (x ∷ xs) (r ∷ rs) y (inr here) = bare_wires at move xs rs y here

pub bare_retarget : (f : Ref → Ref) (o : Op) → IsBareWire o → IsBareWire (retarget f o)
bare_retarget f o bare = record {
  operand = f bare.operand;
  type = bare.type;
  kind_is = bare.kind_is;
  operand_is = ap (map f) bare.operand_is;
  result_is = bare.result_is;
}

-- ---- designs

pub set_twice : {A : Type 0} (xs : List A) (i : ℕ) (x y : A) → set (set xs i x) i y ≡ set xs i y
set_twice [] i x y = refl
set_twice (z ∷ xs) zero x y = refl
set_twice (z ∷ xs) (suc i) x y = ap (λ zs. z ∷ zs) (set_twice xs i x y)

-- a design that follows, with registers of the same types in the same order
pub record FollowsAlike (d e : Design) : Type 0 where
  pub follows : Follows d e
  pub types : (s : Name) → register_types e s ≡ register_types d s

pub alike_then : (d e f : Design) → FollowsAlike d e → FollowsAlike e f → FollowsAlike d f
alike_then d e f first second = record { follows = follows_then d e f first.follows second.follows; types = λ s. second.types s ∙ first.types s }

-- a body in which wires stand between two parts follows without them
pub unwire_all_preserves : (n : ℕ) (prefix ws back : List Op) → length ws ≡ n → ((y : Op) → In y ws → IsBareWire y)
    → (d : Design) (m : ℕ) (md : Module) → Valid d → slice_get d m ≡ Some md → md.body ≡ prefix ++ (ws ++ back)
    → FollowsAlike d (with_body d m md (unwire (length prefix) n md.body))
unwire_all_preserves zero prefix ws back size bare d m md valid at_m body_is = subst (FollowsAlike d) (sym (set_some d m md at_m)) (record { follows = follows_self d valid; types = λ s. refl })
unwire_all_preserves (suc n) prefix [] back size bare d m md valid at_m body_is = cc
unwire_all_preserves (suc n) prefix (w ∷ ws) back size bare d m md valid at_m body_is =
    subst (FollowsAlike d) (set_twice d m md' (record md { body = unwire (length prefix) n os }))
    (alike_then d e (set e m (record md { body = unwire (length prefix) n os })) first
    (subst (λ i. FollowsAlike e (set e m (record md { body = unwire i n os }))) (length-map prefix (retarget f))
    (unwire_all_preserves n (map (retarget f) prefix) (map (retarget f) ws) (map (retarget f) back) (length-map ws (retarget f) ∙ less size) bare_still e m md' first.follows.valid at_m' os_is)))
  where
    x : Ref
    x = operand_at (length prefix) md.body

    f : Ref → Ref
    f = without (length prefix) (without (length prefix) undefined x)

    os : List Op
    os = erase_op (length prefix) x md.body

    md' : Module
    md' = record md { body = os }

    e : Design
    e = with_body d m md os

    less : suc (length ws) ≡ suc n → length ws ≡ n
    less same = cc

    there : slice_get md.body (length prefix) ≡ Some w
    there = ap (λ zs. slice_get zs (length prefix)) body_is ∙ slice_get-append_at prefix w (ws ++ back)

    wire_is : IsBareWire w
    wire_is = bare w (inl refl)

    operand_is : x ≡ wire_is.operand
    operand_is =
        ap (λ y. ref_or_undefined (option_and_then (λ (o : Op). slice_get o.operands 0) y)) there ∙ ap (λ rs. ref_or_undefined (slice_get rs 0)) wire_is.operand_is

    wire_at : IsWireAt md.body (length prefix) w wire_is.type x
    wire_at = record { there = there; kind_is = wire_is.kind_is; operand_is = wire_is.operand_is ∙ ap (λ r. r ∷ []) (sym operand_is); result_is = wire_is.result_is }

    first : FollowsAlike d e
    first = record {
      follows = unwire_preserves d m md (length prefix) w wire_is.type x valid at_m wire_at;
      types = unwire_types d m md (length prefix) w wire_is.type x valid at_m wire_at;
    }

    at_m' : slice_get e m ≡ Some md'
    at_m' = slice_get-set_same d m md' (slice_get_within d m md at_m)

    os_is : os ≡ map (retarget f) prefix ++ (map (retarget f) ws ++ map (retarget f) back)
    os_is = ap (erase_op (length prefix) x) body_is ∙ erased_is prefix w ws back x

    bare_still : (y : Op) → In y (map (retarget f) ws) → IsBareWire y
    bare_still y here =
        let from = from_In-map (retarget f) y ws here in
        subst IsBareWire (sym from.2) (bare_retarget f from.0 (bare from.0 (inr from.1)))

-- ---- an instance inlined without wires

module _ (d : Design) (md : Module) (i : ℕ) (o : Op) (c : Module) (rename : Op → Op) (is : IsInlined d md i o c) where
  abbrev pub prefix_part : List Op
  prefix_part = map (retarget (outer_ref i o c)) (take i md.body)

  abbrev pub back_part : List Op
  back_part = inlined_ops rename i o c ++ map (retarget (outer_ref i o c)) (drop (suc i) md.body)

  pub part_length : length prefix_part ≡ i
  part_length = length-map (take i md.body) (retarget (outer_ref i o c)) ∙ length_before md.body i o is.there

  pub wires_are : length (inlined_wires i o c) ≡ wire_count o
  wires_are = wires_length o.location (inner_ref i o c) o.results (output_refs c.body)

  -- the body has the parts around the wires, with other operands
  pub without_wires : Others prefix_part back_part (inline_without_wires rename i o c md.body)
  without_wires =
      subst (λ n. Others prefix_part back_part (unwire n (wire_count o) (inline_op rename i o c md.body))) part_length
      (others_stay (wire_count o) prefix_part (inlined_wires i o c) back_part wires_are)

  pub inlined_alike : (m : ℕ) → slice_get d m ≡ Some md → RenamesOnly rename → Valid d → FollowsAlike d (with_body d m md (inline_without_wires rename i o c md.body))
  inlined_alike m at_m only valid =
      subst (FollowsAlike d) (set_twice d m now (record md { body = inline_without_wires rename i o c md.body }))
      (alike_then d (with_body d m md now.body) (set (with_body d m md now.body) m (record md { body = inline_without_wires rename i o c md.body })) first
      (subst (λ n. FollowsAlike (with_body d m md now.body) (set (with_body d m md now.body) m (record md { body = unwire n (wire_count o) now.body }))) part_length
      (unwire_all_preserves (wire_count o) prefix_part (inlined_wires i o c) back_part wires_are
      (bare_wires o.location (inner_ref i o c) o.results (output_refs c.body)) (with_body d m md now.body) m now first.follows.valid
      (slice_get-set_same d m now (slice_get_within d m md at_m)) refl)))
    where
      now : Module
      now = record md { body = inline_op rename i o c md.body }

      first : FollowsAlike d (with_body d m md (inline_op rename i o c md.body))
      first = record {
        follows = inline_preserves d m md i o c rename only valid at_m is;
        types = inline_types d m md i o c rename only valid at_m is;
      }
