-- What texts spell is read of them, and what is refused of a text is spelled by none.
use Rattle.std.proofs.Common.{◌≡◌, ℕ, ◌≤◌, List, [], ◌∷◌, ◌++◌, length, map, Ok, Err, refl, sym, ◌∙◌, ap, subst, arith}
use Rattle.diag.specs.declared.refusal.Refusal.{Refusal}
use Rattle.hw_model.specs.Design.{Design}
use Rattle.mlir_lexer.specs.Tokens.{TextToken, tokens}
use Rattle.mlir_syntax.specs.Stream.{StreamToken, token, stream_of}
use Rattle.mlir_operations.specs.ModuleText.{file_text}
use Rattle.mlir_reader.specs.Reading.{text_limit, design_read, read}
use Rattle.mlir_reader.specs.Locality.{IsUnspelledPrefix}
use Rattle.mlir_reader.specs.Spelling.{Spells}
use Rattle.mlir_syntax.proofs.Local.{Whole, Same, Given, location_first, whole_after}
use Rattle.mlir_reader.proofs.LocalModules.{whole_stream, read_is, first_location, where_refused}
use Rattle.mlir_reader.proofs.AgainModules.{file_read}

-- what a text spells is read of it
pub spelled_is_read : (source : List ℕ) (d : Design) → Spells source d → length source ≤ text_limit → read source ≡ Ok d
spelled_is_read source d spelled le =
    let (ms, ts, same, said, is) = spelled in
    read_is source le ∙ ap design_read (file_read source ms ts same said) ∙ ap (λ x. Ok x) (sym is)

-- a text whose tokens are refused is not spelled
not_spelled : (source : List ℕ) (r : Refusal) (d : Design) → file_text (stream_of source) ≡ Err r → Spells source d → ⊥
not_spelled source r d refused spelled =
    let (ms, ts, same, said, is) = spelled in
    let given = file_read source ms ts same said in
    absurd (cc (refused, given))

prefix_of : (source : List ℕ) (r : Refusal) (prefix : List TextToken) (u : List StreamToken) → stream_of source ≡ map token prefix ++ u → location_first u ≡ r.location
    → ((v : List StreamToken) → Whole v → Same u v → Given 0 (λ _. file_text) (map token prefix ++ v) (Err r)) → IsUnspelledPrefix source r
prefix_of source r prefix [] e location f = absurd (whole_after prefix [] (subst Whole e (whole_stream _ (tokens source))))
prefix_of source r prefix (symbol ∷ rest) e location f = (
  prefix,
  symbol,
  rest,
  e,
  first_location symbol rest ∙ location,
  λ other following d same.
      let whole = whole_after prefix (symbol ∷ following) (subst Whole same (whole_stream _ (tokens other))) in
      not_spelled other r d
      (ap file_text same ∙ f (symbol ∷ following) whole refl (length (map token prefix ++ (symbol ∷ following))) (omega arith)),
)

-- no text that begins with the tokens before what is refused and with what is refused is spelled
pub refused_prefix : (source : List ℕ) (r : Refusal) → length source ≤ text_limit → read source ≡ Err r → IsUnspelledPrefix source r
refused_prefix source r le h = where_refused (IsUnspelledPrefix source) source r le h (λ e near. prefix_of source e near.0 near.1 near.2 near.3 near.4)
