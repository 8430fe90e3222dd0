use Rattle.std.proofs.Common.{◌≡◌, ◌++◌, ◌∷◌, [], ◌<◌, ◌+◌, length, length-set, ap, sym, ◌∙◌, arith}
use Rattle.std.proofs.lemmas.List.{length-map}
use Rattle.std.proofs.lemmas.Option.{slice_get_within, slice_get-get_or}
use Rattle.fresh_names.specs.Fresh.{is_taken}
use Rattle.fresh_names.specs.Tried.{IsTried}
use Rattle.std.specs.Prelude.{Some, slice_get}
use Rattle.fresh_names.specs.TakenViews.{taken_names}
use Rattle.fresh_names.proofs.Free.{suffix_free}
use Rattle.fresh_names.proofs.Taken.{tried_taken, table_set, get_stays, one_more}
use Rattle.fresh_names.proofs.taken_names.TakenNames.add_suffixed.Goals as goal

pub index-requires : goal.index-requires
index-requires c =
    let self = c.args.self.now in
    omega (arith, slice_get_within (taken_names self) c.args.position c.args.wanted.now c.requires, length-map self.names.keys (λ name. name.items), self.paired, self.tried.ok.0)

pub free_from-requires : goal.free_from-requires
free_from-requires c =
    let self = c.args.self.now in
    let within : c.args.position < length self.tried.items =
    omega (arith, slice_get_within (taken_names self) c.args.position c.args.wanted.now c.requires, length-map self.names.keys (λ name. name.items), self.paired) in
    self.taken c.args.position c.index.result.now c.args.wanted.now c.requires
    (slice_get-get_or self.tried.items c.args.position c.index.result.now within ∙ ap Some (sym c.index.ensures))

pub add-requires : goal.add-requires
add-requires c =
    let self = c.args.self.now in
    ap (is_taken (taken_names self)) c.in_ok-number.ensures.name
    ∙ suffix_free (taken_names self) c.args.wanted.now (omega (arith, length-map self.names.keys (λ name. name.items), self.paired, self.tried.ok.0, self.tried.small))

pub index_mut-requires : goal.index_mut-requires
index_mut-requires c =
    let self = c.args.self.now in
    let more = ap length c.in_ok-add.ensures.tried ∙ one_more self.tried.items 0 in
    omega (arith, more, c.add.new.self.tried.ok.0, slice_get_within (taken_names self) c.args.position c.args.wanted.now c.requires, length-map self.names.keys (λ name. name.items), self.paired)

pub invariant_of-self : goal.invariant_of-self
invariant_of-self c =
    let self = c.args.self.now in
    let next = c.add.new.self in
    let names : taken_names next ≡ taken_names self ++ c.in_ok-number.name.items ∷ [] = c.in_ok-add.ensures.ok in
    let at = ap (λ ts. slice_get ts c.args.position) names ∙ get_stays (taken_names self) (c.in_ok-number.name.items ∷ []) c.args.position c.args.wanted.now c.requires in
    let tried : IsTried (taken_names next) c.args.wanted.now (c.in_ok-number.number + 1) =
    rw (names, c.in_ok-number.ensures.suffixed) (tried_taken (taken_names self) c.args.wanted.now c.in_ok-number.number c.in_ok-number.ensures.tried) in
    record {
      paired = length-set next.tried.items c.args.position (c.in_ok-number.number + 1) ∙ next.paired;
      taken = table_set (taken_names next) next.tried.items c.args.position (c.in_ok-number.number + 1) c.args.wanted.now at tried next.taken;
    }
