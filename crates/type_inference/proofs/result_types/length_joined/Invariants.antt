use Rattle.std.proofs.Common.{◌≡◌, ◌+◌, ◌≤◌, map, drop}
use Rattle.std.specs.Option.{option_map}
use Rattle.hw_model.specs.TypeViews.{type_of}
use Rattle.type_inference.specs.ResultTypes.{length_joined, kept_size}
use Rattle.type_inference.proofs.result_types.length_joined.Given as goal

abbrev pub invariant-loop-ty : goal.invariant-loop-ty
invariant-loop-ty l = record {
  same : option_map kept_size (length_joined (option_map (λ t. type_of t.now) l.fn.element) (map type_of l.types))
      ≡ option_map (λ n. kept_size (l.length + n)) (length_joined (option_map (λ t. type_of t.now) l.fn.element) (map type_of (drop l.ty-index l.types)));
  small : l.length ≤ 4294967295;
}
