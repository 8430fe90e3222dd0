-- Modules that are the same, with the files that prove it.
use Rattle.std.proofs.Common.{◌≡◌, option_map, subst}
use Rattle.std.specs.Prelude.{string_bytes}
use Rattle.ir_store.specs.Designs.{design_of}
use Rattle.lec_tool.specs.Verdicts.{DoAgree, IsDecision}
use Rattle.circt_top.specs.Outcome.{files_of}
use Rattle.circt_top.proofs.Compared.{same_found}
use Rattle.circt_top.proofs.comparing.conclude.Goals as goal

pub returns-in-Same : goal.returns-in-Same
returns-in-Same c =
    let d = design_of c.args.left.now.design in
    let e = design_of c.args.right.now.design in
    let a = string_bytes c.args.pair.now.left in
    let b = string_bytes c.args.pair.now.right in
    let formula = c.in-Ok.decision.comparison.formula in
    let decision : (agree : DoAgree d a e b c.in-Same.log) × (agree.formula ≡ formula) = rw (c.as_bytes-a.ensures.value, c.as_bytes-b.ensures.value, c.in-Same.is) at c.in-Ok.ensures.decision in
    same_found d a e b c.in-Same.log formula decision c.args.pair.now.conflict_limit (option_map (λ p. string_bytes p.proof) c.args.pair.now.proof) c.cnf.result.now
    (files_of c.in_ok-proof_texts-in-Same.field-0) c.in_ok-of-in-Same.field-0 c.cnf.ensures c.in_ok-proof_texts-in-Same.ensures c.in_ok-of-in-Same.ensures
