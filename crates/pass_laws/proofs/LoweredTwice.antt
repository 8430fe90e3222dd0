-- Ports and registers after passes of which some lower aggregates: leaves are lowered to themselves.
use Rattle.std.proofs.Common.{◌≡◌, Bool, true, false, cond, ◌||◌, List, [], ◌∷◌, ◌++◌, map, flat_map, Option, Some, None, refl, sym, ap, ap₂, subst, ◌∙◌}
use Rattle.std.proofs.lemmas.Grind.{flat_map-append}
use Rattle.std.proofs.lemmas.List.{map-append}
use Rattle.hw_model.specs.Types.{Name, HwType, leaves}
use Rattle.hw_model.specs.Design.{Port, Module, Design, find_module}
use Rattle.fresh_names.specs.Fresh.{fresh}
use Rattle.op_verifier.specs.Headers.{has_twice}
use Rattle.op_verifier.specs.Verdict.{IsAccepted}
use Rattle.op_verifier.proofs.Unrefused.{no_header_cause, module_unrefused}
use Rattle.printing_laws.specs.Printable.{Printable}
use Rattle.acceptance_laws.specs.Keeps.{IsFit}
use Rattle.acceptance_laws.proofs.Accepted.{accepted_fit}
use Rattle.aggregate_laws.specs.LeafPorts.{split_ports}
use Rattle.aggregate_laws.proofs.Scalars.{leaves_twice}
use Rattle.aggregate_laws.proofs.LeafPorts.{split_twice}
use Rattle.pass_laws.specs.PassLaw.{leaf_types}
use Rattle.pass_laws.proofs.FreshOnce.{fresh_same}

-- ---- names

-- the names of ports
abbrev pub names_of : List Port → List Name
names_of ps = map (λ (q : Port). q.name) ps

-- no two ports of a module of an accepted design have one name
pub named_once : (e : Design) → IsAccepted e → Printable e → (s : Name) (m : Module) → find_module e s ≡ Some m → has_twice (names_of m.ports) ≡ false
named_once e accepted printable s m found =
    let fit : IsFit e = accepted_fit e accepted printable in
    let there = module_unrefused e fit.unrefused s m found in
    (no_header_cause e there.number m there.header).names

-- ---- ports

pub ports_both : (a c : Bool) (xs ys zs : List Port) → has_twice (names_of ys) ≡ false → ys ≡ cond a (split_ports xs) xs → zs ≡ cond c (split_ports ys) ys
    → zs ≡ cond (a || c) (split_ports xs) xs
ports_both false false xs ys zs once p q = q ∙ p
ports_both false true xs ys zs once p q = q ∙ ap split_ports p
ports_both true false xs ys zs once p q = q ∙ p
ports_both true true xs ys zs once p q = q ∙ ap split_ports p ∙ split_twice xs (subst (λ ps. fresh [] (names_of ps) ≡ names_of ps) p (fresh_same [] (names_of ys) once))

-- ---- registers

leaf_types_each : (ts : List HwType) → flat_map leaf_types (map (λ (u : HwType). Some u) ts) ≡ map (λ (u : HwType). Some u) (flat_map leaves ts)
leaf_types_each [] = refl
leaf_types_each (t ∷ ts) =
    ap (λ xs. leaf_types (Some t) ++ xs) (leaf_types_each ts) ∙ sym (map-append (λ (u : HwType). Some u) (leaves t) (flat_map leaves ts))

one_twice : (t : Option HwType) → flat_map leaf_types (leaf_types t) ≡ leaf_types t
one_twice None = refl
one_twice (Some t) = leaf_types_each (leaves t) ∙ ap (map (λ (u : HwType). Some u)) (leaves_twice t)

types_twice : (ts : List (Option HwType)) → flat_map leaf_types (flat_map leaf_types ts) ≡ flat_map leaf_types ts
types_twice [] = refl
types_twice (t ∷ ts) =
    flat_map-append leaf_types (leaf_types t) (flat_map leaf_types ts) ∙ ap₂ (λ xs ys. xs ++ ys) (one_twice t) (types_twice ts)

pub types_both : (a c : Bool) (xs ys zs : List (Option HwType)) → ys ≡ cond a (flat_map leaf_types xs) xs → zs ≡ cond c (flat_map leaf_types ys) ys
    → zs ≡ cond (a || c) (flat_map leaf_types xs) xs
types_both false false xs ys zs p q = q ∙ p
types_both false true xs ys zs p q = q ∙ ap (flat_map leaf_types) p
types_both true false xs ys zs p q = q ∙ p
types_both true true xs ys zs p q = q ∙ ap (flat_map leaf_types) p ∙ types_twice xs
