use Rattle.std.proofs.Common.{◌≡◌, true, false, sym, ap, ◌∙◌}
use Rattle.std.specs.Prelude.{is_some}
use Rattle.fresh_names.proofs.Taken.{position_taken, position_none}
use Rattle.fresh_names.proofs.taken_names.TakenNames.add_again.Goals as goal

pub add_suffixed-requires : goal.add_suffixed-requires
add_suffixed-requires c = position_taken (λ name. name.items) c.args.self.now.names.keys c.args.wanted.now c.in-Some.position (sym c.in-Some.ensures.index)

pub unreachable-requires : goal.unreachable-requires
unreachable-requires c =
    let none = sym c.in-None.ensures.index in
    let free = position_none (λ name. name.items) c.args.self.now.names.keys c.args.wanted.now (ap is_some none ∙ c.in-None.ensures.found) none in
    apart (sym c.requires ∙ free)
  where
    apart : true ≡ false → ⊥
    apart e = cc
