use Rattle.std.proofs.Common.{◌≡◌, ◌++◌, ◌∷◌, [], Bool, cond, not, true, false, length, arith, sym, ap, ◌∙◌, refl}
use Rattle.std.proofs.lemmas.List.{map-append, length-map}
use Rattle.fresh_names.specs.Fresh.{is_taken}
use Rattle.fresh_names.specs.TakenViews.{taken_names}
use Rattle.fresh_names.proofs.Taken.{taken_any, key_last, key_kept, table_more, one_more}
use Rattle.fresh_names.proofs.taken_names.TakenNames.add_free.Goals as goal
use Rattle.std.proofs.lemmas.Bool.{not-false, not-true}

pub invariant_of-self : goal.invariant_of-self
invariant_of-self c =
    let self = c.args.self.now in
    record {
      paired = omega (arith, ap length c.reserve.ensures.items, self.paired);
      taken = rw c.reserve.ensures.items self.taken;
    }

pub invariant_of-self-in-Break-branch-2 : goal.invariant_of-self-in-Break-branch-2
invariant_of-self-in-Break-branch-2 c =
    let self = c.args.self.now in
    record {
      paired = omega (arith, ap length c.in_err-free.ensures.err, ap length c.reserve.ensures.items, self.paired);
      taken = rw (c.in_err-free.ensures.err, c.reserve.ensures.items) self.taken;
    }

pub invariant_of-self-then-free : goal.invariant_of-self-then-free
invariant_of-self-then-free c =
    let self = c.args.self.now in
    let keys = c.in_ok-free.ensures.keys ∙ key_last _ self.names.keys c.args.name (not-true _ (sym c.in_ok-free.ensures.added ∙ c.if-free.true)) in
    let tried = c.push_reserved.ensures.items ∙ ap (λ l. l ++ 0 ∷ []) c.reserve.ensures.items in
    record {
      paired = omega (arith, ap length keys, ap length tried, one_more self.names.keys c.args.name, one_more self.tried.items 0, self.paired);
      taken = rw (keys, tried, map-append) (table_more (taken_names self) self.tried.items c.args.name.items (omega (arith, self.paired, length-map self.names.keys (λ name. name.items))) self.taken);
    }

pub invariant_of-self-else-free : goal.invariant_of-self-else-free
invariant_of-self-else-free c =
    let self = c.args.self.now in
    let keys = c.in_ok-free.ensures.keys ∙ key_kept _ self.names.keys c.args.name (not-false _ (sym c.in_ok-free.ensures.added ∙ c.if-free.false)) in
    record {
      paired = omega (arith, ap length keys, ap length c.reserve.ensures.items, self.paired);
      taken = rw (keys, c.reserve.ensures.items) self.taken;
    }

pub returns-then-free-clause-free : goal.returns-then-free-clause-free
returns-then-free-clause-free c = c.in_ok-free.ensures.added ∙ ap not (taken_any (λ name. name.items) c.args.self.now.names.keys c.args.name.items)

pub returns-then-free-clause-ok : goal.returns-then-free-clause-ok
returns-then-free-clause-ok c =
    let self = c.args.self.now in
    let absent = not-true _ (sym c.in_ok-free.ensures.added ∙ c.if-free.true) in
    let keys = c.in_ok-free.ensures.keys ∙ key_last _ self.names.keys c.args.name absent in
    let free : is_taken (taken_names self) c.args.name.items ≡ false = sym (taken_any (λ name. name.items) self.names.keys c.args.name.items) ∙ absent in
    rw (keys, map-append, free) refl

pub returns-then-free-clause-tried : goal.returns-then-free-clause-tried
returns-then-free-clause-tried c =
    let self = c.args.self.now in
    let absent = not-true _ (sym c.in_ok-free.ensures.added ∙ c.if-free.true) in
    let free : is_taken (taken_names self) c.args.name.items ≡ false = sym (taken_any (λ name. name.items) self.names.keys c.args.name.items) ∙ absent in
    c.push_reserved.ensures.items ∙ ap (λ l. l ++ 0 ∷ []) c.reserve.ensures.items ∙ sym (ap (λ (b : Bool). cond b self.tried.items (self.tried.items ++ 0 ∷ [])) free)

pub returns-else-free-clause-free : goal.returns-else-free-clause-free
returns-else-free-clause-free c = c.in_ok-free.ensures.added ∙ ap not (taken_any (λ name. name.items) c.args.self.now.names.keys c.args.name.items)

pub returns-else-free-clause-ok : goal.returns-else-free-clause-ok
returns-else-free-clause-ok c =
    let self = c.args.self.now in
    let there = not-false _ (sym c.in_ok-free.ensures.added ∙ c.if-free.false) in
    let keys = c.in_ok-free.ensures.keys ∙ key_kept _ self.names.keys c.args.name there in
    let taken : is_taken (taken_names self) c.args.name.items ≡ true = sym (taken_any (λ name. name.items) self.names.keys c.args.name.items) ∙ there in
    rw (keys, taken) refl

pub returns-else-free-clause-tried : goal.returns-else-free-clause-tried
returns-else-free-clause-tried c =
    let self = c.args.self.now in
    let there = not-false _ (sym c.in_ok-free.ensures.added ∙ c.if-free.false) in
    let taken : is_taken (taken_names self) c.args.name.items ≡ true = sym (taken_any (λ name. name.items) self.names.keys c.args.name.items) ∙ there in
    c.reserve.ensures.items ∙ sym (ap (λ (b : Bool). cond b self.tried.items (self.tried.items ++ 0 ∷ [])) taken)
