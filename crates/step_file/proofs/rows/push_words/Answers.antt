use Rattle.std.proofs.Common.{◌∙◌, sym, arith}
use Rattle.text_lines.specs.Lines.{words}
use Rattle.step_file.proofs.ReadRows.{widths_rest, words_more}
use Rattle.step_file.proofs.rows.push_words.Goals as goal

pub loop-width-preserved : goal.loop-width-preserved
loop-width-preserved c = record {
  left = words_more c.loop-width.row.items c.push.new.self.items c.loop-width.left.now c.in-Some.others.now c.in-Some.width.now (words c.loop-width.rest.now)
      (words c.in-Some-next_word.behind.now) c.in-Some-next_word.word.now c.in-Some-word_in.bits c.in-Some.ensures.cases.0 c.in-Some-next_word.ensures.words
      (sym c.in-Some-word_in.ensures) c.in_ok-push.ensures.items
      ∙ c.loop-width.invariant.left;
  widths = widths_rest c.loop-width.left.now c.in-Some.others.now c.in-Some.width.now c.in-Some.ensures.cases.0 c.loop-width.invariant.widths;
  short = omega (arith, c.in-Some-next_word.ensures.shorter, c.loop-width.invariant.short);
}
