use Rattle.std.proofs.Common.{◌≡◌, ◌∷◌, ◌∙◌, ℕ, List, true, sym, ap}
use Rattle.std.specs.Prelude.{option_map}
use Rattle.aiger_laws.specs.Fields.{is_digit, number_from}
use Rattle.aiger_reader.specs.Saturated.{saturated}
use Rattle.aiger_reader.proofs.Saturating.{digit_taken}
use Rattle.aiger_reader.proofs.fields.number.Goals as goal

pub loop-digit-preserved : goal.loop-digit-preserved
loop-digit-preserved c =
    let split : c.loop-digit.rest.now ≡ c.in-Some.digit.now ∷ c.in-Some.others.now = c.in-Some.ensures.cases.0 in
    let digit : is_digit c.in-Some.digit.now ≡ true = sym c.if-not-is_digit.ensures in
    record {
      left =
          ap (λ (k : ℕ). option_map saturated (number_from k c.in-Some.others.now)) c.with_more-value.ensures.exact
          ∙ digit_taken c.loop-digit.value c.in-Some.digit.now c.in-Some.others.now digit
          ∙ sym (ap (λ (bs : List ℕ). option_map saturated (number_from c.loop-digit.value bs)) split)
          ∙ c.loop-digit.invariant.left;
      small = c.with_more-value.ensures.within;
    }
