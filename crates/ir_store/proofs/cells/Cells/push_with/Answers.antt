use Rattle.std.proofs.Common.{◌≡◌, ◌+◌, ◌-◌, ◌++◌, ℕ, List, [], ◌∷◌, length, take, drop, replicate, ap, arith, ◌∙◌, length-take, length-drop}
use Rattle.std.proofs.lemmas.List.{append_assoc, replicate_more, replicate-append-replicate}
use Rattle.ir_store.proofs.cells.Cells.push_with.Goals as goal

three_parts : (os : List ℕ) (a b n o : ℕ) → a + 1 + b ≡ n → ((os ++ replicate a o) ++ o ∷ []) ++ replicate b o ≡ os ++ replicate n o
three_parts os a b n o e =
    ap (λ zs. zs ++ replicate b o) (append_assoc os (replicate a o) (o ∷ []) ∙ ap (λ zs. os ++ zs) (replicate_more a o))
    ∙ (append_assoc os (replicate (a + 1) o) (replicate b o) ∙ (ap (λ zs. os ++ zs) (replicate-append-replicate (a + 1) b o) ∙ ap (λ m. os ++ replicate m o) e))

pub returns-clause-owners : goal.returns-clause-owners
returns-clause-owners c =
    rw (c.push_all-2.ensures.owners, c.push.ensures.owners, c.push_all.ensures.owners)
    (three_parts c.args.self.now.owners.items (length (take c.args.at c.args.list.now)) (length (take (length c.args.list.now - c.args.at) (drop c.args.at c.args.list.now))) (length c.args.list.now + 1) c.args.owner
    (omega (arith, length-take c.args.at c.args.list.now, length-take (length c.args.list.now - c.args.at) (drop c.args.at c.args.list.now), length-drop c.args.at c.args.list.now, c.requires.position)))
