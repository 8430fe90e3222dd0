use Rattle.std.proofs.Common.{◌≡◌, ◌<◌, ◌≤◌, [], ◌∷◌, map, sym, ap, ◌∙◌, arith, add-one}
use Rattle.std.proofs.lemmas.List.{map-append}
use Rattle.hw_model.specs.TypeViews.{type_of}
use Rattle.hw_model.specs.declared.types.Ty.{Int}
use Rattle.aiger_text.specs.Seen.{bit_types}
use Rattle.aiger_text.proofs.MadeOps.{int_seen, types_step}
use Rattle.aiger_text.proofs.operations.bit_types.Goals as goal

pub loop-k-preserved : goal.loop-k-preserved
loop-k-preserved c = record {
  types = ap (map type_of) c.in_ok-push.ensures.items ∙ map-append type_of c.loop-k.types.items (Int 1 ∷ [])
      ∙ types_step c.loop-k.k (map type_of c.loop-k.types.items) (type_of (Int 1)) c.loop-k.invariant.types (int_seen 1) ∙ ap bit_types (sym (add-one c.loop-k.k));
  low = let below : c.loop-k.k < c.args.count = c.loop-k-test.true in omega (arith, below);
}

pub returns : goal.returns
returns c =
    let past : c.args.count ≤ c.loop-k.k = c.loop-k-test.false in
    let within : c.loop-k.k ≤ c.args.count = c.loop-k.invariant.low in
    let same : c.loop-k.k ≡ c.args.count = omega (arith, past, within) in
    c.loop-k.invariant.types ∙ ap bit_types same
