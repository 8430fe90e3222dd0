-- Texts of whole lines, one after another.
use Rattle.std.proofs.Common.{◌≡◌, ℕ, true, false, List, [], ◌∷◌, ◌++◌, refl, sym, ap, ap₂, ◌∙◌, append_assoc}
use Rattle.mlir_printer.specs.Lines.{is_quiet, begins_slash, AreLines, ended, HasLines}
use Rattle.mlir_printer.proofs.lines.QuietWords.{Quiet, both, none}

ended_both : (xs ys : List (List ℕ)) → ended (xs ++ ys) ≡ ended xs ++ ended ys
ended_both [] ys = refl
ended_both (x ∷ xs) ys = ap (λ z. x ++ (10 ∷ z)) (ended_both xs ys) ∙ sym (append_assoc x (10 ∷ ended xs) (ended ys))

lines_both : (xs ys : List (List ℕ)) → AreLines xs → AreLines ys → AreLines (xs ++ ys)
lines_both [] ys h g = g
lines_both (x ∷ xs) ys h g = (h.0, lines_both xs ys h.1 g)

pub no_text : HasLines []
no_text = record { lines = []; are = tt; is = refl }

pub texts_both : {xs ys : List ℕ} → HasLines xs → HasLines ys → HasLines (xs ++ ys)
texts_both h g = record {
  lines = h.lines ++ g.lines;
  are = lines_both h.lines g.lines h.are g.are;
  is = ap₂ (λ x y. x ++ y) h.is g.is ∙ sym (ended_both h.lines g.lines);
}

-- what is left of a line, with its line feed
pub record IsTail (bytes : List ℕ) : Type 0 where
  pub line : List ℕ
  pub quiet : Quiet line
  pub is : bytes ≡ line ++ (10 ∷ [])

pub line_end : IsTail (10 ∷ [])
line_end = record { line = []; quiet = none; is = refl }

pub tail_more : {xs ys : List ℕ} → Quiet xs → IsTail ys → IsTail (xs ++ ys)
tail_more {xs} {ys} h t = record {
  line = xs ++ t.line;
  quiet = both h t.quiet;
  is = ap (λ z. xs ++ z) t.is ∙ sym (append_assoc xs t.line (10 ∷ []));
}

-- a line that begins with these bytes
pub one_line : (xs : List ℕ) → is_quiet xs ≡ true → {ys : List ℕ} → (t : IsTail ys) → begins_slash (xs ++ t.line) ≡ false → HasLines (xs ++ ys)
one_line xs h {ys} t begins =
    let quiet : Quiet (xs ++ t.line) = both (record { is = h }) t.quiet in
    record {
      lines = (xs ++ t.line) ∷ [];
      are = (record { quiet = quiet.is; begins = begins }, tt);
      is = ap (λ z. xs ++ z) t.is ∙ sym (append_assoc xs t.line (10 ∷ []));
    }
