use Rattle.std.proofs.Common.{◌≡◌, [], refl, ap, subst, ◌∙◌}
use Rattle.std.specs.Prelude.{IfOk}
use Rattle.std.proofs.lemmas.List.{map-id}
use Rattle.hw_model.specs.Types.{Name}
use Rattle.aggregate_laws.specs.Aggregates.{name_at}
use Rattle.lowering_rules.proofs.Offsets.{position_index, position_past}
use Rattle.lowering_rules.proofs.leafwise_rules.name_at.Goals as goal

pub returns-in-Some : goal.returns-in-Some
returns-in-Some c =
    let h = c.in-Some.ensures.lookup in
    let names = c.args.names.now in
    let i = c.args.number in
    let is : c.in-Some.name.now ≡ name_at names i =
    position_index name_at (λ (x : Name). x) (λ y ys. refl) (λ y ys n. refl) names i c.in-Some.name.now h.3.0 h.1 ∙ ap (λ ns. name_at ns i) (map-id names) in
    subst (λ (name : Name). IfOk c.try_clone.result (λ text. text ≡ name)) is c.try_clone.ensures

pub returns-in-None : goal.returns-in-None
returns-in-None c =
    let h = c.in-None.ensures.lookup in
    let names = c.args.names.now in
    let i = c.args.number in
    c.new.ensures
    ∙ position_past name_at (λ (x : Name). x) [] (λ n. refl) (λ y ys n. refl) names i h.3
    ∙ ap (λ ns. name_at ns i) (map-id names)
