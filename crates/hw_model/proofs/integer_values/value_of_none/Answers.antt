use Rattle.std.proofs.Common.{◌≡◌, ℕ, [], ap, sym, ◌∙◌, inl, inr, ◌⊎◌}
use Rattle.bits_core.specs.Word.{Word, bits}
use Rattle.bits_core.proofs.Storage.{bits-zero}
use Rattle.hw_model.specs.declared.families.Variadic.{Variadic}
use Rattle.hw_model.specs.declared.families.Variadic.TheVariants.{Add, Or, Xor}
use Rattle.hw_model.specs.FamilyViews.{variadic_of}
use Rattle.hw_model.specs.Value.{variadic_value}
use Rattle.hw_model.proofs.Operands.{bits_of_ones}
use Rattle.hw_model.proofs.integer_values.value_of_none.Goals as goal

pub returns-in-Add : goal.returns-in-Add
returns-in-Add c = c.truncate.ensures ∙ go c.in-Add.is where
  none : Variadic → Word
  none o = variadic_value (variadic_of o) c.args.width []

  go : (c.args.op ≡ Add) ⊎ ((c.args.op ≡ Or) ⊎ (c.args.op ≡ Xor)) → bits c.args.width 0 ≡ none c.args.op
  go (inl e) = ap none (sym e)
  go (inr (inl e)) = bits-zero c.args.width ∙ ap none (sym e)
  go (inr (inr e)) = bits-zero c.args.width ∙ ap none (sym e)

pub returns-in-And : goal.returns-in-And
returns-in-And c = c.truncate-in-And.ensures ∙ bits_of_ones c.args.width c.requires.most ∙ ap (λ o. variadic_value (variadic_of o) c.args.width []) (sym c.in-And.is)
