use Rattle.std.proofs.Common.{◌<◌, [], map, length, sym, ap, ◌∙◌, arith}
use Rattle.std.specs.Prelude.{Some, option_map}
use Rattle.std.proofs.lemmas.List.{length-map}
use Rattle.std.proofs.lemmas.Option.{slice_get-map, slice_get-get_or}
use Rattle.fresh_names.specs.TakenViews.{taken_names}
use Rattle.name_legalise.proofs.Tables.{length-names_at, slice_get-names_at}
use Rattle.name_legalise.proofs.names.Names.name.Goals as goal

pub index-requires : goal.index-requires
index-requires c =
    let self = c.args.self.now in
    omega (arith, c.requires, length-names_at (taken_names self.taken) (map (λ id. id.index) self.legal.items), length-map self.legal.items (λ id. id.index), self.legal.ok.0)

pub name-requires : goal.name-requires
name-requires c =
    let self = c.args.self.now in
    let within : c.args.id.index < length self.legal.items = omega (arith, c.requires, length-names_at (taken_names self.taken) (map (λ id. id.index) self.legal.items), length-map self.legal.items (λ id. id.index)) in
    self.table.within c.args.id.index c.index.result.now.index
    (slice_get-map (λ id. id.index) self.legal.items c.args.id.index
    ∙ ap (option_map (λ id. id.index)) (slice_get-get_or self.legal.items c.args.id.index c.index.result.now within ∙ ap Some (sym c.index.ensures)))

pub returns : goal.returns
returns c =
    let self = c.args.self.now in
    let names = taken_names self.taken in
    let positions = map (λ (id : _). id.index) self.legal.items in
    let within : c.args.id.index < length self.legal.items = omega (arith, c.requires, length-names_at names positions, length-map self.legal.items (λ id. id.index)) in
    let at =
    slice_get-map (λ id. id.index) self.legal.items c.args.id.index
    ∙ ap (option_map (λ id. id.index)) (slice_get-get_or self.legal.items c.args.id.index c.index.result.now within ∙ ap Some (sym c.index.ensures)) in
    c.name.ensures
    ∙ slice_get-get_or names c.index.result.now.index [] (self.table.within c.args.id.index c.index.result.now.index at)
    ∙ sym (slice_get-names_at names positions c.args.id.index c.index.result.now.index at)
