use Rattle.std.proofs.Common.{map, refl, ap, ◌∙◌}
use Rattle.hw_model.specs.Types.{width}
use Rattle.hw_model.specs.Types.HwType.{struct}
use Rattle.hw_model.specs.Types.FieldTypes.{no_fields}
use Rattle.hw_model.specs.TypeViews.{type_of}
use Rattle.hw_model.specs.Value.{nth_type}
use Rattle.lowering_rules.proofs.Offsets.{position_past}
use Rattle.lowering_rules.proofs.written_types.index_width_of.Goals as goal

pub returns-in-None : goal.returns-in-None
returns-in-None c =
    let h = c.in-None.ensures.lookup in
    ap width
    (position_past nth_type type_of (struct no_fields) (λ n. refl) (λ y ys n. refl) c.as_slice.result.now 1 h.3
    ∙ ap (λ ts. nth_type (map type_of ts) 1) c.as_slice.ensures)
