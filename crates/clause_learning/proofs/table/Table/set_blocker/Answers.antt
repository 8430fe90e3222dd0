use Rattle.std.proofs.Common.{[], ◌≡◌, List, set, ap, subst, sym, ◌∙◌, refl}
use Rattle.std.proofs.lemmas.List.{get_or_read, length-set, get_or-set_same}
use Rattle.clause_learning.specs.declared.stored_clause.Watch.{Watch}
use Rattle.clause_learning.specs.Watching.{list_at, watch_at, HasSameClauses, AreWatched, HaveBlockers}
use Rattle.clause_learning.proofs.AddedClauses.{refreshed_same, refreshed_watched, refreshed_blockers}
use Rattle.clause_learning.proofs.table.Table.set_blocker.Goals as goal

pub returns-clause-table : goal.returns-clause-table
returns-clause-table c =
    let t = c.requires.table in
    let w : Watch = record {
      clause = (watch_at (list_at c.args.self.now.lists.items c.args.slot) c.args.position).clause;
      blocker = c.args.blocker;
      is_binary =
          (watch_at (list_at c.args.self.now.lists.items c.args.slot) c.args.position).is_binary;
    } in
    let is_list = get_or_read c.args.self.now.lists.items c.args.slot c.index_mut-list.result.now c.requires.slot c.index_mut-list.ensures.value [] in
    let is_new : c.set_blocker.new.self ≡ set (list_at c.args.self.now.lists.items c.args.slot) c.args.position
    (record {
      clause = (watch_at (list_at c.args.self.now.lists.items c.args.slot) c.args.position).clause;
      blocker = c.args.blocker;
      is_binary =
          (watch_at (list_at c.args.self.now.lists.items c.args.slot) c.args.position).is_binary;
    }) = c.set_blocker.ensures
    ∙ ap (λ (xs : List Watch). set xs c.args.position (record { clause = (watch_at xs c.args.position).clause; blocker = c.args.blocker; is_binary = (watch_at xs c.args.position).is_binary })) is_list in
    let lists : set c.args.self.now.lists.items c.args.slot c.set_blocker.new.self ≡ set c.args.self.now.lists.items c.args.slot
    (set (list_at c.args.self.now.lists.items c.args.slot) c.args.position (record {
      clause =
          (watch_at (list_at c.args.self.now.lists.items c.args.slot) c.args.position).clause;
      blocker = c.args.blocker;
      is_binary =
          (watch_at (list_at c.args.self.now.lists.items c.args.slot) c.args.position).is_binary;
    })) = ap (set c.args.self.now.lists.items c.args.slot) is_new in
    record {
      small = t.small;
      many = t.many;
      clauses = t.clauses;
      stored_clauses = t.stored_clauses;
      slots = length-set c.args.self.now.lists.items c.args.slot c.set_blocker.new.self ∙ t.slots;
      watched = subst (λ (ls : List (List Watch)). AreWatched c.args.self.now.stored_clauses.items ls) (sym lists)
          (refreshed_watched c.args.self.now.stored_clauses.items c.args.self.now.lists.items c.args.slot c.args.position w c.requires.slot c.requires.position refl c.requires.blocks t.watched);
      blockers = subst (λ (ls : List (List Watch)). HaveBlockers c.args.self.now.stored_clauses.items ls) (sym lists)
          (refreshed_blockers c.args.self.now.stored_clauses.items c.args.self.now.lists.items c.args.slot c.args.position w c.requires.slot c.requires.position refl c.requires.blocks t.blockers);
      short = t.short;
    }

pub returns-clause-list : goal.returns-clause-list
returns-clause-list c =
    let w : Watch = record {
      clause = (watch_at (list_at c.args.self.now.lists.items c.args.slot) c.args.position).clause;
      blocker = c.args.blocker;
      is_binary =
          (watch_at (list_at c.args.self.now.lists.items c.args.slot) c.args.position).is_binary;
    } in
    let is_list = get_or_read c.args.self.now.lists.items c.args.slot c.index_mut-list.result.now c.requires.slot c.index_mut-list.ensures.value [] in
    let is_new : c.set_blocker.new.self ≡ set (list_at c.args.self.now.lists.items c.args.slot) c.args.position
    (record {
      clause = (watch_at (list_at c.args.self.now.lists.items c.args.slot) c.args.position).clause;
      blocker = c.args.blocker;
      is_binary =
          (watch_at (list_at c.args.self.now.lists.items c.args.slot) c.args.position).is_binary;
    }) = c.set_blocker.ensures
    ∙ ap (λ (xs : List Watch). set xs c.args.position (record { clause = (watch_at xs c.args.position).clause; blocker = c.args.blocker; is_binary = (watch_at xs c.args.position).is_binary })) is_list in
    let at = get_or-set_same c.args.self.now.lists.items c.args.slot c.set_blocker.new.self [] c.requires.slot ∙ is_new in
    subst (λ (xs : List Watch). HasSameClauses (list_at c.args.self.now.lists.items c.args.slot) xs) (sym at)
    (refreshed_same c.args.self.now.stored_clauses.items c.args.self.now.lists.items c.args.slot c.args.position w c.requires.slot c.requires.position refl c.requires.blocks)
