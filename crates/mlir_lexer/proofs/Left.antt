-- What is left of the tokens once some bytes are read.
use Rattle.std.proofs.Common.{◌≡◌, ℕ, zero, suc, ◌+◌, ◌-◌, ◌≤◌, List, [], ◌∷◌, ◌++◌, take, drop, length, get_or, Result, refl, sym, ap, ◌∙◌, arith}
use Rattle.std.proofs.Math.Seq.{take-add, drop-cons}
use Rattle.std.proofs.lemmas.List.{drop-drop}
use Rattle.diag.specs.Location.{start_location, next_location, location_after, location_of}
use Rattle.diag.specs.declared.refusal.Location.{Location}
use Rattle.diag.specs.declared.refusal.Refusal.{Refusal}
use Rattle.mlir_lexer.specs.Tokens.{TextToken, lex_prefix, tokens_after, tokens_left}
use Rattle.mlir_lexer.specs.Cursor.{Cursor}
use Rattle.mlir_lexer.specs.Prefixes.{prefix_of}

-- more of the same text is read, and no token with it
pub record IsFurther (before now : Cursor) : Type 0 where
  pub same : tokens_left now ≡ tokens_left before
  pub source : now.source ≡ before.source
  pub following : before.at ≤ now.at

location_after-append : (location : Location) (xs ys : List ℕ) → location_after location (xs ++ ys) ≡ location_after (location_after location xs) ys
location_after-append location [] ys = refl
location_after-append location (x ∷ xs) ys = location_after-append (next_location location x) xs ys

-- the location so many bytes further on
pub location_of-add : (source : List ℕ) (at n : ℕ) → location_of source (at + n) ≡ location_after (location_of source at) (take n (drop at source))
location_of-add source at n = ap (location_after start_location) (take-add at n source) ∙ location_after-append start_location (take at source) (take n (drop at source))

-- after one byte
pub location_of-next : (source : List ℕ) (at b : ℕ) (bs : List ℕ) → drop at source ≡ b ∷ bs → location_of source (at + 1) ≡ next_location (location_of source at) b
location_of-next source at b bs e = location_of-add source at 1 ∙ ap (λ (l : List ℕ). location_after (location_of source at) (take 1 l)) e

pub drop-next : (source : List ℕ) (at b : ℕ) (bs : List ℕ) → drop at source ≡ b ∷ bs → drop (at + 1) source ≡ bs
drop-next source at b bs e = sym (drop-drop 1 at source) ∙ ap (drop 1) e

-- the tokens after some further bytes of what is left
unfoldable pub following : List ℕ → ℕ → ℕ → List (Result TextToken Refusal)
following source at skipped = tokens_after skipped (location_of source at) at (drop at source)

following-suc : (source : List ℕ) (at skipped b : ℕ) (bs : List ℕ) → drop at source ≡ b ∷ bs → following source at (suc skipped) ≡ following source (at + 1) skipped
unfolding following tokens_after
following-suc source at skipped b bs e =
    ap (λ (l : List ℕ). tokens_after (suc skipped) (location_of source at) at l) e
    ∙ (ap (λ p. tokens_after skipped p (at + 1) bs) (sym (location_of-next source at b bs e))
    ∙ ap (λ (l : List ℕ). tokens_after skipped (location_of source (at + 1)) (at + 1) l) (sym (drop-next source at b bs e)))

following-skip : (source : List ℕ) (skipped at : ℕ) → at + skipped ≤ length source → following source at skipped ≡ following source (at + skipped) 0
following-skip source zero at within = let e : at ≡ at + 0 = omega arith in ap (λ n. following source n 0) e
following-skip source (suc skipped) at within =
    let first : drop at source ≡ get_or source at 0 ∷ drop (suc at) source = drop-cons source at 0 (omega arith)
    in
    let count : at + 1 + skipped ≡ at + suc skipped = omega arith
    in
    following-suc source at skipped (get_or source at 0) (drop (suc at) source) first
    ∙ (following-skip source skipped (at + 1) (omega arith) ∙ ap (λ n. following source n 0) count)

-- what is left is what the next bytes begin with, and then what is left after it
pub tokens_left-lex_prefix : (source : List ℕ) (at b : ℕ) (bs : List ℕ) → drop at source ≡ b ∷ bs
    → tokens_left (record { source = source; at = at }) ≡ lex_prefix (prefix_of b bs) (location_of source at) at (b ∷ bs) (λ more. following source (at + 1) more)
unfolding following tokens_after
tokens_left-lex_prefix source at b bs e =
    ap (λ (l : List ℕ). tokens_after 0 (location_of source at) at l) e
    ∙ (ap (λ p. lex_prefix (prefix_of b bs) (location_of source at) at (b ∷ bs) (λ more. tokens_after more p (at + 1) bs)) (sym (location_of-next source at b bs e))
    ∙ ap (λ (l : List ℕ). lex_prefix (prefix_of b bs) (location_of source at) at (b ∷ bs) (λ more. tokens_after more (location_of source (at + 1)) (at + 1) l))
    (sym (drop-next source at b bs e)))

-- what is left after a gap or a token of so many bytes
pub following-left : (source : List ℕ) (at n : ℕ) → 1 ≤ n → at + n ≤ length source → following source (at + 1) (n - 1) ≡ tokens_left (record { source = source; at = at + n })
unfolding following
following-left source at n some within =
    let count : at + 1 + (n - 1) ≡ at + n = omega arith
    in following-skip source (n - 1) (at + 1) (omega arith) ∙ ap (λ m. following source m 0) count
