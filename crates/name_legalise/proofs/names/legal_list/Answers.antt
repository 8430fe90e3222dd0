use Rattle.std.proofs.Common.{◌++◌, ◌∷◌, [], length, sym, ap, ◌∙◌, arith}
use Rattle.fresh_names.proofs.Taken.{one_more}
use Rattle.name_legalise.specs.Legal.{legal, legal_name}
use Rattle.name_legalise.specs.LegalViews.{legal_names}
use Rattle.name_legalise.proofs.Legals.{legal_step}
use Rattle.name_legalise.proofs.Taking.{read_last}
use Rattle.name_legalise.proofs.names.legal_list.Goals as goal

pub loop-text-preserved : goal.loop-text-preserved
loop-text-preserved c =
    let old = legal_names c.loop-text.names in
    let new = legal_names c.add.new.self in
    let wanted = c.as_bytes.result.now in
    let added = c.in_ok-id.ensures.ok in
    let read = read_last old new (legal_name old wanted) c.name.result.now c.in_ok-id.id.index added c.in_ok-id.ensures.id c.name.ensures in
    record {
      count = omega (arith, ap length added, one_more old (legal_name old wanted), c.loop-text.invariant.count);
      copied =
          c.in_ok-push.ensures.items
          ∙ ap (λ l. l ++ c.in_ok-of.field-0 ∷ []) c.loop-text.invariant.copied
          ∙ ap (λ n. old ++ n ∷ []) (c.in_ok-of.ensures ∙ read)
          ∙ sym added;
      whole =
          legal_step old new c.args.wanted.now (legal c.args.wanted.now) c.loop-text.text-index c.text-item.result wanted c.loop-text-test.true
          (c.as_bytes.ensures ∙ c.text-item.is) added c.loop-text.invariant.whole;
    }
