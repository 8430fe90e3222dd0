use Rattle.std.proofs.Common.{◌≡◌, ◌+◌, List, ◌∷◌, drop, sym, ap, ◌∙◌}
use Rattle.std.specs.Prelude.{nat_eq, Some}
use Rattle.std.specs.Map.{update}
use Rattle.std.proofs.lemmas.List.{drop_more}
use Rattle.resolution_proof.specs.declared.literal.Literal.{Literal}
use Rattle.lrat_text.specs.Hints.{Store}
use Rattle.lrat_text.specs.Checking.{numbered}
use Rattle.lrat_text.specs.Stored.{store_of}
use Rattle.lrat_text.proofs.Walking.{numbered_more}
use Rattle.lrat_text.proofs.progress.numbered.Goals as goal

pub loop-i-init : goal.loop-i-init
loop-i-init c = ap (λ (s : Store). numbered 1 s c.args.given.now) c.new-clauses.ensures

pub loop-i-preserved : goal.loop-i-preserved
loop-i-preserved c =
    let rest : drop c.loop-i.i c.args.given.now ≡ c.index-given-i.result ∷ drop (c.loop-i.i + 1) c.args.given.now =
    drop_more c.args.given.now c.loop-i.i c.index-given-i.result c.loop-i-test.true ∙ ap (λ (x : List Literal). x ∷ drop (c.loop-i.i + 1) c.args.given.now) (sym c.index-given-i.is) in
    let put : store_of c.put.new.self ≡ update nat_eq (store_of c.loop-i.clauses) (c.loop-i.i + 1) (Some c.index-given-i.result) =
    c.in_ok-put.ensures ∙ ap (λ (x : List Literal). update nat_eq (store_of c.loop-i.clauses) (c.loop-i.i + 1) (Some x)) c.as_slice.ensures in
    numbered_more (c.loop-i.i + 1) (store_of c.loop-i.clauses) (store_of c.put.new.self) (drop c.loop-i.i c.args.given.now) c.index-given-i.result (drop (c.loop-i.i + 1) c.args.given.now) rest put
    ∙ c.loop-i.invariant
