use Rattle.std.proofs.Common.{refl, [], ◌∷◌, ◌++◌, ◌≡◌, ◌≢◌, ◌<◌, ◌-◌, true, false, List, length, set, swap, ap, subst, sym, ◌∙◌, arith}
use Rattle.std.specs.List.{swap_remove}
use Rattle.std.proofs.lemmas.List.{length-set, get_or_read}
use Rattle.resolution_proof.specs.declared.literal.Literal.{Literal}
use Rattle.clause_learning.specs.declared.stored_clause.Watch.{Watch}
use Rattle.resolution_proof.specs.Literal.{holds}
use Rattle.clause_learning.specs.Watching.{stored_clause_at, list_at, literal_at, no_literal, no_watch, AreStored, AreWatched, HaveBlockers, AreShort, slot_of}
use Rattle.clause_learning.proofs.StoredClauses.{holds_at}
use Rattle.clause_learning.proofs.Tables.{table_moved, moved_lists}
use Rattle.clause_learning.proofs.AddedClauses.{slot_in, slots_apart, reads}
use Rattle.clause_learning.proofs.table.Table.move_watch.Goals as goal

pub shift-requires-clause-to : goal.shift-requires-clause-to
shift-requires-clause-to c =
    let r = reads c.args.self.now c.args.slot c.args.position c.args.k c.at-clause.result c.index.result.now c.as_slice-stored_clause.result.now c.index-2.result.now c.index-stored_clause-k.result c.requires.slot c.at-clause.ensures c.index.ensures c.as_slice-stored_clause.ensures c.index-2.ensures c.requires.inside c.index-stored_clause-k.is in
    let low : c.args.k < length (stored_clause_at c.args.self.now.stored_clauses.items c.at-clause.result.clause) = let e = ap length r.is_stored in omega (arith, e, r.inside) in
    let at = slot_in c.args.self.now c.requires.table c.at-clause.result.clause c.args.k low in
    let one : slot_of (literal_at (stored_clause_at c.args.self.now.stored_clauses.items c.at-clause.result.clause) c.args.k)
    ≡ c.slot-target.result = ap slot_of (ap (λ (x : List Literal). literal_at x c.args.k) r.is_stored ∙ r.is_u) ∙ sym c.slot-target.ensures in
    omega (arith, at, one)

pub shift-requires-clause-other : goal.shift-requires-clause-other
shift-requires-clause-other c e =
    let r = reads c.args.self.now c.args.slot c.args.position c.args.k c.at-clause.result c.index.result.now c.as_slice-stored_clause.result.now c.index-2.result.now c.index-stored_clause-k.result c.requires.slot c.at-clause.ensures c.index.ensures c.as_slice-stored_clause.ensures c.index-2.ensures c.requires.inside c.index-stored_clause-k.is in
    let stored_clauses = c.args.self.now.stored_clauses.items in
    let i = c.at-clause.result.clause in
    let low : c.args.k < length (stored_clause_at c.args.self.now.stored_clauses.items c.at-clause.result.clause) = let q = ap length r.is_stored in omega (arith, q, r.inside) in
    let low2 : c.args.first < length (stored_clause_at c.args.self.now.stored_clauses.items c.at-clause.result.clause) = omega (arith, low, c.requires.first, c.requires.later) in
    let one : slot_of (literal_at (stored_clause_at c.args.self.now.stored_clauses.items c.at-clause.result.clause) c.args.k)
    ≡ c.slot-target.result = ap slot_of (ap (λ (x : List Literal). literal_at x c.args.k) r.is_stored ∙ r.is_u) ∙ sym c.slot-target.ensures in
    let two : slot_of (literal_at (stored_clause_at c.args.self.now.stored_clauses.items c.at-clause.result.clause) c.args.first)
    ≡ c.args.slot = ap (λ (w : Watch). slot_of (literal_at (stored_clause_at c.args.self.now.stored_clauses.items w.clause) c.args.first)) (sym r.is_w) ∙ c.requires.watched in
    slots_apart c.args.self.now c.requires.table c.at-clause.result.clause c.args.first c.args.k r.clause_in low2 low (λ q. omega (arith, q, c.requires.first, c.requires.later)) (two ∙ sym e ∙ sym one)

pub returns-in_err-shift-clause-table : goal.returns-in_err-shift-clause-table
returns-in_err-shift-clause-table c =
    let same : c.shift.new.lists.items ≡ c.args.self.now.lists.items = c.in_err-shift.ensures.err in
    let t = c.requires.table in
    record {
      small = t.small;
      many = t.many;
      clauses = t.clauses;
      stored_clauses = t.stored_clauses;
      slots = ap length same ∙ t.slots;
      watched = subst (λ (ls : List (List Watch)). AreWatched c.args.self.now.stored_clauses.items ls) (sym same) t.watched;
      blockers = subst (λ (ls : List (List Watch)). HaveBlockers c.args.self.now.stored_clauses.items ls) (sym same) t.blockers;
      short = t.short;
    }

pub returns-clause-table : goal.returns-clause-table
returns-clause-table c =
    let r = reads c.args.self.now c.args.slot c.args.position c.args.k c.at-clause.result c.index.result.now c.as_slice-stored_clause.result.now c.index-2.result.now c.index-stored_clause-k.result c.requires.slot c.at-clause.ensures c.index.ensures c.as_slice-stored_clause.ensures c.index-2.ensures c.requires.inside c.index-stored_clause-k.is in
    let t = c.requires.table in
    let same_lists : c.shift.new.lists.items ≡ moved_lists c.args.self.now.lists.items c.slot-target.result
    (record { clause = c.at-clause.result.clause; blocker = c.index-stored_clause-first.result; is_binary = false }) c.args.slot c.args.position = c.in_ok-shift.ensures.ok in
    let stored_clause_is : c.index_mut-stored_clause.result.now ≡ c.as_slice-stored_clause.result.now = get_or_read c.args.self.now.stored_clauses.items c.at-clause.result.clause c.index_mut-stored_clause.result.now r.clause_in c.index_mut-stored_clause.ensures.value [] ∙ r.is_stored in
    let swapped : c.swap.new.self ≡ swap c.as_slice-stored_clause.result.now c.args.first c.args.k = c.swap.ensures ∙ ap (λ (x : List Literal). swap x c.args.first c.args.k) stored_clause_is in
    let same_stored_clauses : set c.args.self.now.stored_clauses.items c.at-clause.result.clause c.swap.new.self
    ≡ set c.args.self.now.stored_clauses.items c.at-clause.result.clause (swap c.as_slice-stored_clause.result.now c.args.first c.args.k) = ap
    (set c.args.self.now.stored_clauses.items c.at-clause.result.clause) swapped in
    let n = length-set c.args.self.now.stored_clauses.items c.at-clause.result.clause c.swap.new.self in
    let m = t.many in
    let low : c.args.k < length (stored_clause_at c.args.self.now.stored_clauses.items c.at-clause.result.clause) = let q = ap length r.is_stored in omega (arith, q, r.inside) in
    let target : slot_of (literal_at c.as_slice-stored_clause.result.now c.args.k) ≡ c.slot-target.result = ap slot_of r.is_u ∙ sym c.slot-target.ensures in
    let at = slot_in c.args.self.now t c.at-clause.result.clause c.args.k low in
    let same_slot : slot_of (literal_at (stored_clause_at c.args.self.now.stored_clauses.items c.at-clause.result.clause) c.args.k) ≡ c.slot-target.result = ap (λ (x : List Literal). slot_of (literal_at x c.args.k)) r.is_stored ∙ target in
    let from : slot_of (literal_at c.as_slice-stored_clause.result.now c.args.first) ≡ c.args.slot = ap (λ (x : List Literal). slot_of (literal_at x c.args.first)) (sym r.is_stored)
    ∙ ap (λ (w : Watch). slot_of (literal_at (stored_clause_at c.args.self.now.stored_clauses.items w.clause) c.args.first)) (sym r.is_w) ∙ c.requires.watched in
    let low2 : c.args.first < length (stored_clause_at c.args.self.now.stored_clauses.items c.at-clause.result.clause) = omega (arith, low, c.requires.first, c.requires.later) in
    let apart : c.slot-target.result ≢ c.args.slot = λ e. slots_apart c.args.self.now t c.at-clause.result.clause c.args.first c.args.k r.clause_in low2 low (λ q. omega (arith, q, c.requires.first, c.requires.later))
    (ap (λ (x : List Literal). slot_of (literal_at x c.args.first)) r.is_stored ∙ from ∙ sym e ∙ sym same_slot) in
    let other_in : 1 - c.args.first < length c.as_slice-stored_clause.result.now = omega (arith, r.inside, c.requires.later) in
    let blocks : holds c.as_slice-stored_clause.result.now c.index-stored_clause-first.result
    ≡ true = subst (λ (l : Literal). holds c.as_slice-stored_clause.result.now l ≡ true)
    (sym (get_or_read c.as_slice-stored_clause.result.now (1 - c.args.first) c.index-stored_clause-first.result other_in c.index-stored_clause-first.is no_literal))
    (holds_at c.as_slice-stored_clause.result.now (1 - c.args.first) other_in) in
    let k = table_moved c.args.self.now.stored_clauses.items c.args.self.now.lists.items t.watched t.blockers c.args.slot c.args.position c.args.first c.args.k c.requires.slot c.requires.position c.requires.first c.requires.later c.as_slice-stored_clause.result.now c.at-clause.result (record { clause = c.at-clause.result.clause; blocker = c.index-stored_clause-first.result; is_binary = false }) r.is_w r.is_stored r.inside from c.slot-target.result target (let n = at in omega (arith, n, same_slot)) apart refl blocks c.args.self.now.clauses.items c.args.self.now.short.items t.stored_clauses t.short in
    let to = c.slot-target.result in
    let source = c.args.slot in
    let added : Watch = record { clause = c.at-clause.result.clause; blocker = c.index-stored_clause-first.result; is_binary = false } in
    let n1 = length-set c.args.self.now.lists.items to (list_at c.args.self.now.lists.items to ++ added ∷ []) in
    let n2 = length-set (set c.args.self.now.lists.items to (list_at c.args.self.now.lists.items to ++ added ∷ [])) source (swap_remove (list_at c.args.self.now.lists.items source) c.args.position no_watch) in
    let all : length c.shift.new.lists.items ≡ length c.args.self.now.lists.items = ap length same_lists ∙ n2 ∙ n1 in
    record {
      small = t.small;
      many = omega (arith, n, m);
      clauses = t.clauses;
      stored_clauses = subst (λ (rs : List (List Literal)). AreStored c.args.self.now.clauses.items rs) (sym same_stored_clauses) k.are_stored;
      slots = all ∙ t.slots;
      watched = subst (λ (rs : List (List Literal)). AreWatched rs c.shift.new.lists.items) (sym same_stored_clauses)
          (subst (λ (ls : List (List Watch)). AreWatched (set c.args.self.now.stored_clauses.items c.at-clause.result.clause (swap c.as_slice-stored_clause.result.now c.args.first c.args.k)) ls)
          (sym same_lists) k.are_watched);
      blockers = subst (λ (rs : List (List Literal)). HaveBlockers rs c.shift.new.lists.items) (sym same_stored_clauses)
          (subst (λ (ls : List (List Watch)). HaveBlockers (set c.args.self.now.stored_clauses.items c.at-clause.result.clause (swap c.as_slice-stored_clause.result.now c.args.first c.args.k)) ls)
          (sym same_lists) k.have_blockers);
      short = subst (λ (rs : List (List Literal)). AreShort rs c.args.self.now.short.items) (sym same_stored_clauses) k.are_short;
    }
