use Rattle.std.proofs.Common.{string_bytes, option_map, sym, subst, length, arith, ◌<◌}
use Rattle.ir_store.specs.Designs.{design_of}
use Rattle.circt_top.specs.Accepting.{Accepted}
use Rattle.circt_top.proofs.Compared.{last_of_one, taken_of, first_fails, last_fails, concluded}
use Rattle.circt_top.proofs.comparing.compare.Goals as goal

pub returns-in-Err : goal.returns-in-Err
returns-in-Err c =
    first_fails (string_bytes c.args.pair.now.left) (string_bytes c.args.pair.now.right) c.args.pair.now.conflict_limit (option_map (λ p. string_bytes p.proof) c.args.pair.now.proof) c.args.sources.now
    c.first_input.result.now c.accept.result c.in-Err.fail c.in_file.result c.first_input.ensures c.accept.ensures c.in-Err.is c.in_file.ensures

pub returns-then-sources-lt2 : goal.returns-then-sources-lt2
returns-then-sources-lt2 c =
    let taken = taken_of c.first_input.result.now c.accept.result c.in-Ok.verified c.first_input.ensures c.accept.ensures c.in-Ok.is in
    let few : length c.args.sources.now < 2 = omega (arith, c.if-sources-lt2.true) in
    concluded (string_bytes c.args.pair.now.left) (string_bytes c.args.pair.now.right) c.args.pair.now.conflict_limit (option_map (λ p. string_bytes p.proof) c.args.pair.now.proof) c.args.sources.now
    (design_of c.in-Ok.verified.design) (design_of c.in-Ok.verified.design) (
      taken,
      subst (λ bytes. Accepted bytes (design_of c.in-Ok.verified.design))
          (sym (last_of_one c.args.sources.now few)) taken,
    ) 0 c.conclude.result (omega (arith, few)) c.conclude.ensures

pub returns-in-Ok-accept : goal.returns-in-Ok-accept
returns-in-Ok-accept c =
    concluded (string_bytes c.args.pair.now.left) (string_bytes c.args.pair.now.right) c.args.pair.now.conflict_limit (option_map (λ p. string_bytes p.proof) c.args.pair.now.proof) c.args.sources.now
    (design_of c.in-Ok.verified.design) (design_of c.in-Ok-accept.right.design) (
      taken_of c.first_input.result.now c.accept.result c.in-Ok.verified c.first_input.ensures c.accept.ensures c.in-Ok.is,
      taken_of c.last_input.result.now c.accept-2.result c.in-Ok-accept.right c.last_input.ensures c.accept-2.ensures c.in-Ok-accept.is,
    )
    c.in-Ok-try_from.number c.conclude-in-Ok-accept.result c.in-Ok-try_from.ensures.1 c.conclude-in-Ok-accept.ensures

pub returns : goal.returns
returns c =
    last_fails (string_bytes c.args.pair.now.left) (string_bytes c.args.pair.now.right) c.args.pair.now.conflict_limit (option_map (λ p. string_bytes p.proof) c.args.pair.now.proof) c.args.sources.now
    (design_of c.in-Ok.verified.design) (taken_of c.first_input.result.now c.accept.result c.in-Ok.verified c.first_input.ensures c.accept.ensures c.in-Ok.is)
    c.last_input.result.now c.accept-2.result c.in-Err-accept.fail c.in-Ok-try_from.number c.in_file-in-Err-accept.result c.last_input.ensures c.accept-2.ensures c.in-Err-accept.is c.in-Ok-try_from.ensures.1 c.in_file-in-Err-accept.ensures
