use Rattle.std.proofs.Common.{◌≡◌, ◌+◌, ◌≤◌, map, drop}
use Rattle.std.specs.Option.{option_map}
use Rattle.hw_model.specs.TypeViews.{type_of}
use Rattle.type_inference.specs.ResultTypes.{joined_width, kept_size}
use Rattle.type_inference.proofs.result_types.joined_width.Given as goal

abbrev pub invariant-loop-ty : goal.invariant-loop-ty
invariant-loop-ty l = record {
  same : option_map kept_size (joined_width (map type_of l.types)) ≡ option_map (λ n. kept_size (l.width + n)) (joined_width (map type_of (drop l.ty-index l.types)));
  small : l.width ≤ 4294967295;
}
