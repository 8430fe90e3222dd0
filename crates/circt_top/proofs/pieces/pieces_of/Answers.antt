-- A line more, which is a separator or not.
use Rattle.std.proofs.Common.{◌≡◌, ◌+◌, ◌++◌, ◌∷◌, [], true, false, map, drop, sym, ◌∙◌, ap, arith}
use Rattle.std.proofs.lemmas.List.{map_push}
use Rattle.std.specs.Prelude.{slice_range}
use Rattle.circt_top.specs.Pieces.{line_size, is_separator}
use Rattle.circt_top.specs.PieceViews.{piece_of}
use Rattle.circt_top.proofs.Cuts.{cut_start, cut_line, cut_separator}
use Rattle.circt_top.proofs.pieces.pieces_of.Goals as goal

pub loop-at-init : goal.loop-at-init
loop-at-init c = record { within = omega arith; short = omega arith; cut = rw c.new-pieces.ensures.items (cut_start c.args.source.now) }

pub loop-at-preserved-then-is_separator : goal.loop-at-preserved-then-is_separator
loop-at-preserved-then-is_separator c =
    let i = c.loop-at.invariant in
    let end : c.line_end-end.result ≡ c.loop-at.at + line_size (drop c.loop-at.at c.args.source.now) = c.line_end-end.ensures.is in
    let separates : is_separator (slice_range c.args.source.now c.loop-at.at (c.loop-at.at + line_size (drop c.loop-at.at c.args.source.now))) ≡ true =
    ap (λ n. is_separator (slice_range c.args.source.now c.loop-at.at n)) (sym end) ∙ ap is_separator (sym c.part.ensures) ∙ sym c.is_separator.ensures ∙ c.if-is_separator.true in
    let items : map piece_of c.push.new.self.items ≡ map piece_of c.loop-at.pieces.items ++ piece_of c.piece_at.result ∷ [] =
    ap (map piece_of) c.in_ok-push.ensures.items ∙ map_push piece_of c.loop-at.pieces.items c.piece_at.result in
    record {
      within = omega arith;
      short = c.line_end-end.ensures.within;
      cut = rw (items, end)
          (cut_separator c.args.source.now c.loop-at.start c.loop-at.at (map piece_of c.loop-at.pieces.items) (piece_of c.piece_at.result) i.within (omega (arith, c.loop-at-test.true)) separates
          c.piece_at.ensures.before c.piece_at.ensures.bytes i.cut);
    }

pub loop-at-preserved : goal.loop-at-preserved
loop-at-preserved c =
    let i = c.loop-at.invariant in
    let more = c.line_end-end.ensures.more in
    let within = i.within in
    let end : c.line_end-end.result ≡ c.loop-at.at + line_size (drop c.loop-at.at c.args.source.now) = c.line_end-end.ensures.is in
    let other : is_separator (slice_range c.args.source.now c.loop-at.at (c.loop-at.at + line_size (drop c.loop-at.at c.args.source.now))) ≡ false =
    ap (λ n. is_separator (slice_range c.args.source.now c.loop-at.at n)) (sym end) ∙ ap is_separator (sym c.part.ensures) ∙ sym c.is_separator.ensures ∙ c.if-is_separator.false in
    record {
      within = omega (arith, more, within);
      short = c.line_end-end.ensures.within;
      cut = rw end (cut_line c.args.source.now c.loop-at.start c.loop-at.at (map piece_of c.loop-at.pieces.items) i.within (omega (arith, c.loop-at-test.true)) other i.cut);
    }
