use Rattle.std.proofs.Common.{ℕ, refl, ◌-◌, length, swap, ap, subst, sym, ◌∙◌, arith, List}
use Rattle.std.proofs.lemmas.List.Edits.{length-swap}
use Rattle.resolution_proof.specs.declared.literal.Literal.{Literal}
use Rattle.clause_learning.specs.Watching.{IsStored, literal_at}
use Rattle.clause_learning.proofs.StoredClauses.{stored_clause_swap, swap_first, swap_other}
use Rattle.clause_learning.proofs.stored_clause_state.bring_last.Goals as goal

pub returns-then-len-gt2-clause-same : goal.returns-then-len-gt2-clause-same
returns-then-len-gt2-clause-same c clause r =
    let n = ap length c.as_slice-len.ensures in
    let long = c.if-len-gt2.true in
    let m = length-swap c.args.stored_clause.now 0 (length c.as_slice-len.result.now - 1) in
    let one = stored_clause_swap clause c.args.stored_clause.now 0 (length c.as_slice-len.result.now - 1) (omega (arith, n, long)) (omega (arith, n, long)) r in
    let two = stored_clause_swap clause (swap c.args.stored_clause.now 0 (length c.as_slice-len.result.now - 1)) 1 (length c.as_slice-len.result.now - 2) (omega (arith, m, n, long)) (omega (arith, m, n, long)) one in
    subst (λ (x : List Literal). IsStored clause x) (sym (c.swap-then-len-gt2.ensures ∙ ap (λ (x : List Literal). swap x 1 (length c.as_slice-len.result.now - 2)) c.swap.ensures)) two

pub returns-then-len-gt2-clause-first : goal.returns-then-len-gt2-clause-first
returns-then-len-gt2-clause-first c =
    let n = ap length c.as_slice-len.ensures in
    let long = c.if-len-gt2.true in
    let last = length c.as_slice-len.result.now - 1 in
    let m = length-swap c.args.stored_clause.now 0 (length c.as_slice-len.result.now - 1) in
    let whole = c.swap-then-len-gt2.ensures ∙ ap (λ (x : List Literal). swap x 1 (length c.as_slice-len.result.now - 2)) c.swap.ensures in
    ap (λ (x : List Literal). literal_at x 0) whole
    ∙ swap_other (swap c.args.stored_clause.now 0 (length c.as_slice-len.result.now - 1)) 1 (length c.as_slice-len.result.now - 2) 0 (omega (arith, m, n, long)) (omega (arith, m, n, long))
    (λ e. omega (arith, e)) (λ e. omega (arith, e, long))
    ∙ swap_first c.args.stored_clause.now 0 (length c.as_slice-len.result.now - 1) 0 (omega (arith, n, long)) (omega (arith, n, long)) refl
    ∙ ap (λ (k : ℕ). literal_at c.args.stored_clause.now (k - 1)) n

pub returns-then-len-gt1-clause-same : goal.returns-then-len-gt1-clause-same
returns-then-len-gt1-clause-same c clause r =
    let n = ap length c.as_slice-len.ensures in
    let long = c.if-len-gt1.true in
    subst (λ (x : List Literal). IsStored clause x) (sym c.swap-then-len-gt1.ensures) (stored_clause_swap clause c.args.stored_clause.now 0 1 (omega (arith, n, long)) (omega (arith, n, long)) r)
