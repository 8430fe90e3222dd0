-- The design that rules make of a valid one follows from it.
use Rattle.std.proofs.Common.{◌≡◌, ℕ, suc, ◌≤◌, Bool, true, false, cond, List, [], ◌∷◌, map, flat_map, Option, Some, None, refl, sym, subst, arith, option_map}
use Rattle.std.proofs.lemmas.List.{length-map}
use Rattle.wiring.specs.Wiring.{In, greatest}
use Rattle.wiring.proofs.Members.{In-append_left, In-append_right, In-map}
use Rattle.wiring.proofs.Heights.{le-greatest}
use Rattle.hw_model.specs.Types.{Name}
use Rattle.hw_model.specs.Design.{Port, Op, Module, Design, same_name, find_module}
use Rattle.hw_model.specs.Sound.{type_in}
use Rattle.edit_laws.specs.Follows.{Valid, Follows}
use Rattle.aggregate_laws.specs.Leaves.{bare_port, leaf_ports}
use Rattle.aggregate_laws.specs.Lowered.{LoweredWell}
use Rattle.aggregate_laws.specs.Rules.{Rules, count_by, parts_of, lowered_module, lowered_design, Splits}
use Rattle.aggregate_laws.proofs.Paths.{none_well}
use Rattle.aggregate_laws.proofs.Bodies.{split_well}
use Rattle.aggregate_laws.proofs.Follows.{follows_lowered}

pub find_lowered : (rules : Rules) (d : Design) (s : Name) → find_module (lowered_design rules d) s ≡ option_map (lowered_module rules) (find_module d s)
find_lowered rules [] s = refl
find_lowered rules (m ∷ d) s = go (same_name m.symbol s) (find_lowered rules d s)
  where
    go : (b : Bool) → find_module (lowered_design rules d) s ≡ option_map (lowered_module rules) (find_module d s)
        → cond b (Some (lowered_module rules m)) (find_module (lowered_design rules d) s) ≡ option_map (lowered_module rules) (cond b (Some m) (find_module d s))
    go true rest = refl
    go false rest = rest

-- how many operations the largest block of a design has
abbrev largest : Rules → Design → ℕ
largest rules d = greatest (map (count_by rules) (flat_map (λ (m : Module). m.body) d))

found_counts : (rules : Rules) (d : Design) (s : Name) (m : Module) → find_module d s ≡ Some m → (o : Op) → In o m.body → In o (flat_map (λ (x : Module). x.body) d)
found_counts rules [] s m is o here = cc
found_counts rules (x ∷ d) s m is o here = go (same_name x.symbol s) is (λ found. found_counts rules d s m found o here)
  where
    go : (b : Bool) → cond b (Some x) (find_module d s) ≡ Some m → (find_module d s ≡ Some m → In o (flat_map (λ (y : Module). y.body) d)) → In o (flat_map (λ (y : Module). y.body) (x ∷ d))
    go true found rest =
        let same : m ≡ x = cc in
        In-append_left o x.body (flat_map (λ (y : Module). y.body) d) (subst (λ (y : Module). In o y.body) same here)
    go false found rest = In-append_right o x.body (flat_map (λ (y : Module). y.body) d) (rest found)

pub design_follows : (rules : Rules) (d : Design) → ((ps : List Port) → map bare_port (rules.ports ps) ≡ flat_map leaf_ports ps)
    → ((s : Name) (m : Module) → find_module d s ≡ Some m → (o : Op) → In o m.body → Splits (rules.rule o) (type_in m.ports m.body) (parts_of rules m.ports m.body) o)
    → Valid d → Follows d (lowered_design rules d)
design_follows rules d named splits valid =
    follows_lowered (suc (largest rules d)) d (lowered_design rules d) (length-map d (lowered_module rules))
    (λ s. subst (LoweredWell (suc (largest rules d)) (find_module d s)) (sym (find_lowered rules d s)) (each s (find_module d s) refl)) valid
  where
    each : (s : Name) (x : Option Module) → find_module d s ≡ x → LoweredWell (suc (largest rules d)) x (option_map (lowered_module rules) x)
    each s None is = none_well (suc (largest rules d)) (omega arith)
    each s (Some m) is =
        split_well (suc (largest rules d)) rules m (omega arith)
        (λ o here.
        let bound : count_by rules o ≤ largest rules d = le-greatest (count_by rules o) (map (count_by rules) (flat_map (λ (x : Module). x.body) d))
        (In-map (count_by rules) o (flat_map (λ (x : Module). x.body) d) (found_counts rules d s m is o here)) in
        omega arith)
        (named m.ports) (splits s m is) (λ j o at_j. (valid.sound s m is).ops j o at_j)
