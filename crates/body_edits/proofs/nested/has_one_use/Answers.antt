use Rattle.std.proofs.Common.{◌≡◌, suc, Bool, true, false, not, List, [], ◌∷◌, nat_eq, length, Option, Some, None, MatchOption, is_some, sym, ne_eqb, arith, ap, ◌∙◌}
use Rattle.ir_store.specs.declared.operation.UsePosition.{UsePosition}
use Rattle.ir_store.specs.UsesLeft.{uses_left}
use Rattle.body_edits.proofs.OnlyUses.{told_uses}
use Rattle.body_edits.proofs.nested.has_one_use.Goals as goal

-- where nothing comes next, nothing is left
only_left : (r : Option UsePosition) (ps qs : List UsePosition) (t : Bool) → is_some r ≡ not t → MatchOption r ((ps ≡ []) × (qs ≡ [])) (λ p. ps ≡ p ∷ qs) → t ≡ nat_eq (suc (length ps)) 1
only_left None ps qs true is left = sym (ap (λ (xs : List UsePosition). nat_eq (suc (length xs)) 1) left.0)
only_left None ps qs false is left = cc
only_left (Some p) ps qs false is left =
    let more : length ps ≡ suc (length qs) = ap length left in
    sym (ne_eqb (suc (length ps)) 1 (λ one. omega (arith, one, more)))
only_left (Some p) ps qs true is left = cc

pub returns-in-Some : goal.returns-in-Some
returns-in-Some c =
    only_left c.next-in-Some.result (uses_left c.next.new.self) (uses_left c.next-in-Some.new.self) c.is_none.result c.is_none.ensures c.next-in-Some.ensures.steps
    ∙ sym (ap (λ n. nat_eq n 1)
    (told_uses c.args.body.now c.args.id (uses_left c.uses-uses.result) c.requires.operands c.requires.live c.requires.alone c.uses-uses.ensures.uses
    ∙ ap length (c.in-Some.ensures {u = tt}).steps))

pub returns-in-None : goal.returns-in-None
returns-in-None c =
    sym (ap (λ n. nat_eq n 1)
    (told_uses c.args.body.now c.args.id (uses_left c.uses-uses.result) c.requires.operands c.requires.live c.requires.alone c.uses-uses.ensures.uses
    ∙ ap length c.in-None.ensures.steps.0))
