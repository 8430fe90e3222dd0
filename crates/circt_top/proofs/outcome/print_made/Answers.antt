use Rattle.std.proofs.lemmas.Result.{IfOk-weaker}
use Rattle.ir_store.specs.Designs.{design_of}
use Rattle.circt_top.specs.OutcomeParts.{IsPrinted}
use Rattle.circt_top.specs.Reprint.{IsReprintOf}
use Rattle.circt_top.proofs.OutcomeParts.{reprinted}
use Rattle.circt_top.proofs.outcome.print_made.Goals as goal

pub returns : goal.returns
returns g c =
    IfOk-weaker c.print_result.result (IsPrinted c.args.passes.now (design_of c.args.verified.design)) (IsReprintOf c.args.passes.now (design_of c.args.verified.design))
    (reprinted
    (record {
      printable = c.what_is_canonical_is_printable.ensures;
      again = c.what_is_printed_is_read_again.ensures;
    })
    (record {
      finite = c.accepted_designs_are_sound.ensures.finite;
      acyclic = c.accepted_designs_are_sound.ensures.acyclic;
      heights = c.heights_are_acyclic.ensures.heights;
      unlocated = c.locations_decide_no_verdict.ensures;
      same = c.locations_decide_nothing.ensures;
    })
    (record { after = c.results_follow.ensures })
    (design_of c.args.verified.design) c.args.verified.canonical c.args.verified.accepted c.args.passes.now)
    c.print_result.ensures
