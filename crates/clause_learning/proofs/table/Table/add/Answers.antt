use Rattle.std.proofs.Common.{rules, [], ◌∷◌, ◌++◌, ◌≡◌, ◌<◌, ℕ, true, List, length, ap, subst, sym, ◌∙◌, arith}
use Rattle.std.proofs.lemmas.List.{length_push}
use Rattle.resolution_proof.specs.declared.literal.Literal.{Literal}
use Rattle.resolution_proof.specs.Formula.{are_clauses}
use Rattle.clause_learning.specs.Table.{IsEntered}
use Rattle.clause_learning.specs.Watching.{literal_at, AreStored, AreWatched, HaveBlockers, AreShort, slot_of}
use Rattle.clause_learning.proofs.AddedClauses.{slots_of_stored_clause, table_added, clauses_added, lists_added, short_added}
use Rattle.clause_learning.proofs.table.Table.add.Goals as goal

pub enter-requires-clause-slots : goal.enter-requires-clause-slots
enter-requires-clause-slots c k l =
    let at = slots_of_stored_clause c.args.self.now c.requires.table c.args.clause c.args.stored_clause c.requires.clause c.requires.stored_clause k (subst (λ (r : List Literal). k < length r) c.as_slice.ensures l) in
    subst (λ (r : List Literal). slot_of (literal_at r k) < length c.args.self.now.lists.items) (sym c.as_slice.ensures) at

pub returns-clause-table : goal.returns-clause-table
returns-clause-table c =
    let t = c.requires.table in
    let index : c.len-index.result ≡ length c.args.self.now.stored_clauses.items = search rules in
    let entered : IsEntered c.args.self.now.lists.items c.enter.new.lists.items c.args.self.now.short.items c.enter.new.short.items (length c.args.self.now.stored_clauses.items) c.args.stored_clause =
    subst (λ (i : ℕ). IsEntered c.args.self.now.lists.items c.enter.new.lists.items c.args.self.now.short.items c.enter.new.short.items i c.args.stored_clause) index
    (subst (λ (r : List Literal). IsEntered c.args.self.now.lists.items c.enter.new.lists.items c.args.self.now.short.items c.enter.new.short.items c.len-index.result r) c.as_slice.ensures c.in_ok-enter.ensures.ok) in
    let k = table_added c.args.self.now t c.args.clause c.args.stored_clause c.requires.clause c.requires.stored_clause c.enter.new.lists.items c.enter.new.short.items entered in
    let stored_clauses : c.push_reserved.new.self.items ≡ c.args.self.now.stored_clauses.items ++ c.args.stored_clause ∷ [] = c.push_reserved.ensures.items
    ∙ ap (λ (r : List (List Literal)). r ++ c.args.stored_clause ∷ []) c.in_ok-reserve-2.ensures.items in
    let clauses : c.push_reserved-2.new.self.items ≡ c.args.self.now.clauses.items ++ c.args.clause ∷ [] = c.push_reserved-2.ensures.items ∙ ap (λ (r : List (List Literal)). r ++ c.args.clause ∷ []) c.in_ok-reserve.ensures.items in
    let n = ap length stored_clauses in
    let m = length_push c.args.self.now.stored_clauses.items c.args.stored_clause in
    record {
      small = t.small;
      many = omega (arith, n, m, index, c.if-index-ge-MOST.false);
      clauses = subst (λ (cs : List (List Literal)). are_clauses c.args.self.now.variables cs ≡ true) (sym clauses) (clauses_added c.args.self.now t c.args.clause c.args.stored_clause c.requires.clause c.requires.stored_clause);
      stored_clauses = subst (λ (cs : List (List Literal)). AreStored cs c.push_reserved.new.self.items) (sym clauses)
          (subst (λ (rs : List (List Literal)). AreStored (c.args.self.now.clauses.items ++ c.args.clause ∷ []) rs) (sym stored_clauses) k.are_stored);
      slots = lists_added c.args.self.now t c.args.clause c.args.stored_clause c.requires.clause c.requires.stored_clause c.enter.new.lists.items c.enter.new.short.items entered ∙ t.slots;
      watched = subst (λ (rs : List (List Literal)). AreWatched rs c.enter.new.lists.items) (sym stored_clauses) k.are_watched;
      blockers = subst (λ (rs : List (List Literal)). HaveBlockers rs c.enter.new.lists.items) (sym stored_clauses) k.have_blockers;
      short = subst (λ (rs : List (List Literal)). AreShort rs c.enter.new.short.items) (sym stored_clauses) k.are_short;
    }

pub returns-clause-ok : goal.returns-clause-ok
returns-clause-ok c =
    let t = c.requires.table in
    let index : c.len-index.result ≡ length c.args.self.now.stored_clauses.items = search rules in
    let entered : IsEntered c.args.self.now.lists.items c.enter.new.lists.items c.args.self.now.short.items c.enter.new.short.items (length c.args.self.now.stored_clauses.items) c.args.stored_clause =
    subst (λ (i : ℕ). IsEntered c.args.self.now.lists.items c.enter.new.lists.items c.args.self.now.short.items c.enter.new.short.items i c.args.stored_clause) index
    (subst (λ (r : List Literal). IsEntered c.args.self.now.lists.items c.enter.new.lists.items c.args.self.now.short.items c.enter.new.short.items c.len-index.result r) c.as_slice.ensures c.in_ok-enter.ensures.ok) in
    let short = short_added c.args.self.now t c.args.clause c.args.stored_clause c.requires.clause c.requires.stored_clause c.enter.new.lists.items c.enter.new.short.items entered in
    record {
      clauses = c.push_reserved-2.ensures.items ∙ ap (λ (r : List (List Literal)). r ++ c.args.clause ∷ []) c.in_ok-reserve.ensures.items;
      stored_clauses = c.push_reserved.ensures.items ∙ ap (λ (r : List (List Literal)). r ++ c.args.stored_clause ∷ []) c.in_ok-reserve-2.ensures.items;
      short = short.1;
      longer = short.0;
    }
