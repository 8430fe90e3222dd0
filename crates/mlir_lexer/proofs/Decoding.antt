-- A string's content on its way into a text.
use Rattle.std.proofs.Common.{◌≡◌, ℕ, List, [], ◌∷◌, ◌++◌, refl, sym, ap, ◌∙◌, append_assoc}
use Rattle.std.proofs.lemmas.List.{append-nil}
use Rattle.mlir_lexer.specs.Contents.{GetsPrefix}

-- a prefix of the content is in the text, and `rest` is still to come
pub record IsGoingIn (before now content rest : List ℕ) : Type 0 where
  pub prefix : List ℕ
  pub split : content ≡ prefix ++ rest
  pub grown : now ≡ before ++ prefix

pub IsGoingIn-start : (before content : List ℕ) → IsGoingIn before before content content
IsGoingIn-start before content = record { prefix = []; split = refl; grown = sym (append-nil before) }

-- nothing new, where what is to come is the same
pub IsGoingIn-same : {before now content rest others : List ℕ} → IsGoingIn before now content rest → rest ≡ others → IsGoingIn before now content others
IsGoingIn-same h e = record { prefix = h.prefix; split = h.split ∙ ap (λ r. h.prefix ++ r) e; grown = h.grown }

-- one byte more
pub IsGoingIn-more : {before now next content rest others : List ℕ} (byte : ℕ) → IsGoingIn before now content rest → rest ≡ byte ∷ others
    → next ≡ now ++ (byte ∷ []) → IsGoingIn before next content others
IsGoingIn-more {before} {now} {next} {content} {rest} {others} byte h e more = record {
  prefix = h.prefix ++ (byte ∷ []);
  split = h.split ∙ (ap (λ r. h.prefix ++ r) e ∙ sym (append_assoc h.prefix (byte ∷ []) others));
  grown = more ∙ (ap (λ t. t ++ (byte ∷ [])) h.grown ∙ append_assoc before h.prefix (byte ∷ []));
}

pub GetsPrefix-stop : {before now next content rest : List ℕ} → IsGoingIn before now content rest → next ≡ now → GetsPrefix before next content
GetsPrefix-stop {before} {now} {next} {content} {rest} h e = (h.prefix, rest, h.split, e ∙ h.grown)

pub content-end : {before now content : List ℕ} → IsGoingIn before now content [] → now ≡ before ++ content
content-end {before} {now} {content} h = h.grown ∙ ap (λ f. before ++ f) (sym (h.split ∙ append-nil h.prefix))
