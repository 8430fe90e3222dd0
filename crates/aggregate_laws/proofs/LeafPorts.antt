-- Ports by their leaves, with names.
use Rattle.std.proofs.Common.{◌≡◌, ◌+◌, ◌<◌, ◌^◌, Bool, true, false, List, [], ◌∷◌, ◌++◌, length, map, drop, flat_map, slice_get, Option, Some, None, refl, sym, ap, ap₂, subst, ◌∙◌, inl, inr, arith}
use Rattle.std.proofs.lemmas.List.{map-append}
use Rattle.wiring.specs.Wiring.{In}
use Rattle.wiring.proofs.Members.{In-map, from_In-map, from_In-flat_map}
use Rattle.hw_model.specs.Types.{Name, HwType, leaves}
use Rattle.hw_model.specs.Types.HwType.{int, clock, array, struct}
use Rattle.hw_model.specs.Design.{Port}
use Rattle.fresh_names.specs.Fresh.{fresh}
use Rattle.fresh_names.specs.Different.{AreDifferent}
use Rattle.fresh_names.proofs.Giving.{fresh_different}
use Rattle.aggregate_laws.specs.Leaves.{bare_port, leaf_port, leaf_ports}
use Rattle.aggregate_laws.specs.Aggregates.{is_scalar, leaf_names}
use Rattle.aggregate_laws.specs.LeafPorts.{wanted_names, port_leaf_names, with_name, with_names, split_ports}
use Rattle.aggregate_laws.proofs.Scalars.{leaf_scalar}

name_bare : (name : Option Name) (q : Port) → bare_port (with_name name q) ≡ bare_port q
name_bare None q = refl
name_bare (Some name) q = refl

names_bare : (names : List Name) (ps : List Port) → map bare_port (with_names names ps) ≡ map bare_port ps
names_bare names [] = refl
names_bare names (q ∷ ps) = ap₂ (λ p qs. p ∷ qs) (name_bare (slice_get names 0) q) (names_bare (drop 1 names) ps)

leaves_bare : (way : Bool) (ts : List HwType) → map bare_port (map (leaf_port way) ts) ≡ map (leaf_port way) ts
leaves_bare way [] = refl
leaves_bare way (t ∷ ts) = ap (λ qs. leaf_port way t ∷ qs) (leaves_bare way ts)

all_bare : (ps : List Port) → map bare_port (flat_map leaf_ports ps) ≡ flat_map leaf_ports ps
all_bare [] = refl
all_bare (q ∷ ps) = map-append bare_port (leaf_ports q) (flat_map leaf_ports ps) ∙ ap₂ (λ xs ys. xs ++ ys) (leaves_bare q.is_output (leaves q.type)) (all_bare ps)

pub split_bare : (ps : List Port) → map bare_port (split_ports ps) ≡ flat_map leaf_ports ps
split_bare ps = names_bare (port_leaf_names ps) (flat_map leaf_ports ps) ∙ all_bare ps

pub split_different : (ps : List Port) → length (wanted_names ps) < 2 ^ 64 → AreDifferent (port_leaf_names ps)
split_different ps few = fresh_different [] (wanted_names ps) (let bound : length {A = Name} [] + length (wanted_names ps) < 2 ^ 64 = omega (arith, few) in bound)

-- ---- leaves once more

-- a port of a type without parts, whose name was not defined earlier
pub record IsPlainPort (q : Port) : Type 0 where
  pub scalar : is_scalar q.type ≡ true
  pub first : q.again ≡ false

one_name : (q : Port) → is_scalar q.type ≡ true → leaf_names q.name q.type ≡ q.name ∷ []
one_name q scalar = go q.type scalar
  where
    go : (t : HwType) → is_scalar t ≡ true → leaf_names q.name t ≡ q.name ∷ []
    go (int w) is = refl
    go clock is = refl
    go (array n t) is = cc
    go (struct fs) is = cc

one_leaf : (q : Port) → is_scalar q.type ≡ true → leaf_ports q ≡ bare_port q ∷ []
one_leaf q scalar = go q.type scalar
  where
    go : (t : HwType) → is_scalar t ≡ true → map (leaf_port q.is_output) (leaves t) ≡ leaf_port q.is_output t ∷ []
    go (int w) is = refl
    go clock is = refl
    go (array n t) is = cc
    go (struct fs) is = cc

own_names : (qs : List Port) → ((q : Port) → In q qs → IsPlainPort q) → wanted_names qs ≡ map (λ (q : Port). q.name) qs
own_names [] plain = refl
own_names (q ∷ qs) plain = ap₂ (λ xs ys. xs ++ ys) (one_name q (plain q (inl refl)).scalar) (own_names qs (λ p here. plain p (inr here)))

own_leaves : (qs : List Port) → ((q : Port) → In q qs → IsPlainPort q) → flat_map leaf_ports qs ≡ map bare_port qs
own_leaves [] plain = refl
own_leaves (q ∷ qs) plain = ap₂ (λ xs ys. xs ++ ys) (one_leaf q (plain q (inl refl)).scalar) (own_leaves qs (λ p here. plain p (inr here)))

named_again : (qs : List Port) → ((q : Port) → In q qs → IsPlainPort q) → with_names (map (λ (q : Port). q.name) qs) (map bare_port qs) ≡ qs
named_again [] plain = refl
named_again (q ∷ qs) plain =
    ap₂ (λ p ps. p ∷ ps)
    (ap (λ b. record { name = q.name; is_output = q.is_output; type = q.type; again = b }) (sym (plain q (inl refl)).first))
    (named_again qs (λ p here. plain p (inr here)))

-- ports without parts, whose names are free in turn, are their own leaves
pub plain_split : (qs : List Port) → ((q : Port) → In q qs → IsPlainPort q) → fresh [] (map (λ (q : Port). q.name) qs) ≡ map (λ (q : Port). q.name) qs → split_ports qs ≡ qs
plain_split qs plain free =
    ap₂ with_names (ap (fresh []) (own_names qs plain) ∙ free) (own_leaves qs plain) ∙ named_again qs plain

named_first : (names : List Name) (qs : List Port) → ((q : Port) → In q qs → q.again ≡ false) → (q : Port) → In q (with_names names qs) → q.again ≡ false
named_first names [] first q here = absurd here
named_first names (p ∷ qs) first q (inl same) = go (slice_get names 0) same
  where
    go : (name : Option Name) → q ≡ with_name name p → q.again ≡ false
    go None is = ap (λ (x : Port). x.again) is ∙ first p (inl refl)
    go (Some name) is = ap (λ (x : Port). x.again) is ∙ first p (inl refl)
named_first names (p ∷ qs) first q (inr there) = named_first (drop 1 names) qs (λ x here. first x (inr here)) q there

-- leaves of ports have no parts
pub leaves_plain : (ps : List Port) (q : Port) → In q (split_ports ps) → IsPlainPort q
leaves_plain ps q here = record {
  scalar =
      let bare = from_In-flat_map leaf_ports (bare_port q) ps (subst (In (bare_port q)) (split_bare ps) (In-map bare_port q (split_ports ps) here)) in
      let leaf = from_In-map (leaf_port bare.0.is_output) (bare_port q) (leaves bare.0.type) bare.2 in
      ap (λ (x : Port). is_scalar x.type) leaf.2 ∙ leaf_scalar bare.0.type leaf.0 leaf.1;
  first = named_first (port_leaf_names ps) (flat_map leaf_ports ps) leaf_first q here;
}
  where
    leaf_first : (x : Port) → In x (flat_map leaf_ports ps) → x.again ≡ false
    leaf_first x there =
        let from = from_In-flat_map leaf_ports x ps there in
        let leaf = from_In-map (leaf_port from.0.is_output) x (leaves from.0.type) from.2 in
        ap (λ (y : Port). y.again) leaf.2

-- the leaves of leaves are themselves
pub split_twice : (ps : List Port) → fresh [] (map (λ (q : Port). q.name) (split_ports ps)) ≡ map (λ (q : Port). q.name) (split_ports ps)
    → split_ports (split_ports ps) ≡ split_ports ps
split_twice ps free = plain_split (split_ports ps) (leaves_plain ps) free
