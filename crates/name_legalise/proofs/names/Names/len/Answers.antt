use Rattle.std.proofs.Common.{map, sym, ◌∙◌}
use Rattle.std.proofs.lemmas.List.{length-map}
use Rattle.fresh_names.specs.TakenViews.{taken_names}
use Rattle.name_legalise.proofs.Tables.{length-names_at}
use Rattle.name_legalise.proofs.names.Names.len.Goals as goal

pub returns : goal.returns
returns c =
    let self = c.args.self.now in
    c.len.ensures ∙ self.legal.ok.0 ∙ sym (length-names_at (taken_names self.taken) (map (λ id. id.index) self.legal.items) ∙ length-map self.legal.items (λ id. id.index))
