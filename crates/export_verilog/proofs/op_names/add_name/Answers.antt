use Rattle.std.proofs.Common.{◌∙◌}
use Rattle.name_legalise.specs.Legal.{legal_name}
use Rattle.name_legalise.specs.LegalViews.{legal_names}
use Rattle.name_legalise.proofs.Taking.{read_last}
use Rattle.export_verilog.proofs.op_names.add_name.Goals as goal

pub returns-clause-name : goal.returns-clause-name
returns-clause-name c =
    let old = legal_names c.args.names.now in
    c.in_ok-name.ensures
    ∙ read_last old (legal_names c.add.new.self) (legal_name old c.args.wanted.now) c.name.result.now c.in_ok-id.id.index c.in_ok-id.ensures.ok c.in_ok-id.ensures.id c.name.ensures
