use Rattle.std.proofs.Common.{◌+◌, ◌<◌, ◌^◌, ◌++◌, ◌∷◌, [], map, length, subst, sym, ap, ◌∙◌, arith}
use Rattle.std.proofs.lemmas.List.{length-map, map-append}
use Rattle.fresh_names.specs.TakenViews.{taken_names}
use Rattle.name_legalise.specs.Legal.{clean}
use Rattle.name_legalise.specs.Kept.{names_at, IsTable}
use Rattle.name_legalise.proofs.Tables.{length-names_at}
use Rattle.name_legalise.proofs.Taking.{with_small, table_kept, names_kept, table_added, names_added, on_any}
use Rattle.name_legalise.proofs.names.Names.add.Goals as goal

pub overflow_cast-index : goal.overflow_cast-index
overflow_cast-index c =
    let self = c.args.self.now in
    omega (arith, c.len-index.ensures, c.requires, self.legal.ok.0, length-names_at (taken_names self.taken) (map (λ id. id.index) self.legal.items), length-map self.legal.items (λ id. id.index))

pub take_cleaned-requires : goal.take_cleaned-requires
take_cleaned-requires c =
    let self = c.args.self.now in
    let positions = map (λ (id : _). id.index) self.legal.items in
    let small : length positions + 125 < 2 ^ 32 = omega (arith, c.requires, length-names_at (taken_names self.taken) positions) in
    with_small (taken_names self.taken) [] positions (clean c.args.wanted.now) self.table small

pub invariant_of-self-in-Break-branch-2 : goal.invariant_of-self-in-Break-branch-2
invariant_of-self-in-Break-branch-2 c =
    let self = c.args.self.now in
    let positions = map (λ (id : _). id.index) self.legal.items in
    let small : length positions + 125 < 2 ^ 32 = omega (arith, c.requires, length-names_at (taken_names self.taken) positions) in
    let table = table_kept (taken_names self.taken) (taken_names c.take_cleaned.new.taken) positions (clean c.args.wanted.now) self.table small c.in_err-id.ensures.err in
    record { table = subst (λ items. IsTable (taken_names c.take_cleaned.new.taken) (map (λ id. id.index) items)) (sym c.reserve.ensures.items) table }

pub returns-in_err-id-clause-err : goal.returns-in_err-id-clause-err
returns-in_err-id-clause-err c =
    let self = c.args.self.now in
    let positions = map (λ (id : _). id.index) self.legal.items in
    let small : length positions + 125 < 2 ^ 32 = omega (arith, c.requires, length-names_at (taken_names self.taken) positions) in
    let names = names_kept (taken_names self.taken) (taken_names c.take_cleaned.new.taken) positions (clean c.args.wanted.now) self.table small c.in_err-id.ensures.err in
    on_any c.from_residual-in_err-id.result _ (ap (λ items. names_at (taken_names c.take_cleaned.new.taken) (map (λ id. id.index) items)) c.reserve.ensures.items ∙ names)

pub invariant_of-self-2 : goal.invariant_of-self-2
invariant_of-self-2 c =
    let self = c.args.self.now in
    let names = taken_names self.taken in
    let positions = map (λ (id : _). id.index) self.legal.items in
    let small : length positions + 125 < 2 ^ 32 = omega (arith, c.requires, length-names_at names positions) in
    let last =
    ap (map (λ (id : _). id.index)) (c.push_reserved.ensures.items ∙ ap (λ l. l ++ c.in_ok-id.id ∷ []) c.reserve.ensures.items)
    ∙ map-append (λ id. id.index) self.legal.items (c.in_ok-id.id ∷ [])
    ∙ ap (λ i. positions ++ i ∷ []) c.in_ok-id.ensures.id in
    record { table = table_added names (taken_names c.take_cleaned.new.taken) positions (clean c.args.wanted.now) self.table small (map (λ id. id.index) c.push_reserved.new.self.items) c.in_ok-id.ensures.ok last }

pub returns-clause-ok : goal.returns-clause-ok
returns-clause-ok c =
    let self = c.args.self.now in
    let names = taken_names self.taken in
    let positions = map (λ (id : _). id.index) self.legal.items in
    let small : length positions + 125 < 2 ^ 32 = omega (arith, c.requires, length-names_at names positions) in
    let last =
    ap (map (λ (id : _). id.index)) (c.push_reserved.ensures.items ∙ ap (λ l. l ++ c.in_ok-id.id ∷ []) c.reserve.ensures.items)
    ∙ map-append (λ id. id.index) self.legal.items (c.in_ok-id.id ∷ [])
    ∙ ap (λ i. positions ++ i ∷ []) c.in_ok-id.ensures.id in
    names_added names (taken_names c.take_cleaned.new.taken) positions (clean c.args.wanted.now) self.table small (map (λ id. id.index) c.push_reserved.new.self.items) c.in_ok-id.ensures.ok last

pub returns-clause-id : goal.returns-clause-id
returns-clause-id c =
    let self = c.args.self.now in
    c.len-index.ensures ∙ self.legal.ok.0 ∙ sym (length-names_at (taken_names self.taken) (map (λ id. id.index) self.legal.items) ∙ length-map self.legal.items (λ id. id.index))
