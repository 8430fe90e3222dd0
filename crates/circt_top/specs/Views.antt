-- What values in code stand for.
use Rattle.std.specs.Prelude.{option_map}
use Rattle.circt_top.specs.Answer as answer
use Rattle.circt_top.specs.declared.report.Subject.{Subject}

abbrev pub subject_of : Subject → answer.Subject
subject_of s = record { input = s.input.now; source = s.source.now; output = option_map (λ o. o.now) s.output }
