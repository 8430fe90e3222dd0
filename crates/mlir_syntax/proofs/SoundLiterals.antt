-- What is read of the constants of aggregates is said by their tokens.
use Rattle.std.proofs.Common.{◌≡◌, ℕ, zero, suc, true, false, List, [], ◌∷◌, ◌++◌, Some, Ok, refl, inl, inr}
use Rattle.std.specs.Prelude.{codes}
use Rattle.std.proofs.lemmas.Bool.{cond_both}
use Rattle.diag.specs.declared.refusal.OpName.{OpName}
use Rattle.hw_model.specs.Kinds.{Literal, Literals}
use Rattle.hw_model.specs.Kinds.Literal.{leaf, parts}
use Rattle.mlir_lexer.specs.Tokens.{TextToken}
use Rattle.mlir_lexer.specs.declared.token.TokenKind.TheVariants as kind
use Rattle.mlir_syntax.specs.Stream.{StreamToken, token, bad, end, is_word}
use Rattle.mlir_lexer.specs.TokenKinds.{is_kind}
use Rattle.mlir_syntax.specs.Reads.{Reads}
use Rattle.mlir_syntax.specs.TypeText.{too_deep}
use Rattle.mlir_syntax.specs.AttributeText.{begins_integer}
use Rattle.mlir_syntax.specs.LiteralText.{LiteralHead, truth_literal, number_literal, list_literal, no_literal, literal_head, number_leaf, literals_in_order, truth_leaf, parts_text, list_part, literal_with, literal_text, aggregate_text}
use Rattle.mlir_syntax.specs.Spelling.{Phrase, TruthWord, LiteralWith, PartsPhrase, LiteralPhrase, AggregatePhrase}
use Rattle.mlir_syntax.proofs.Sound.{Said, Sound, same_ok, sound_on, sound_last}
use Rattle.mlir_syntax.proofs.SoundTokens.{pair, mark, said_word, sound_want, sound_integer, sound_until}
use Rattle.mlir_syntax.proofs.SoundTypes.{sound_type}

abbrev HeadSays : TextToken → LiteralHead → Type 0
HeadSays t (truth_literal b) = TruthWord b (t ∷ [])
HeadSays t number_literal = Unit {0}
HeadSays t list_literal = Unit {0}
HeadSays t no_literal = Unit {0}

head_says : (t : TextToken) → HeadSays t (literal_head (Some t))
head_says t =
    cond_both (begins_integer t) number_literal _ (HeadSays t) (λ _. tt) (λ _.
    cond_both (is_word (codes "true") t) (truth_literal true) _ (HeadSays t) (λ h. said_word h) (λ _.
    cond_both (is_word (codes "false") t) (truth_literal false) _ (HeadSays t) (λ h. said_word h) (λ _.
    cond_both (is_kind t.kind kind.LeftBracket) list_literal no_literal (HeadSays t) (λ _. tt) (λ _. tt))))

sound_number_leaf : (L : Literals → Phrase) (room : ℕ) (op : OpName) → Sound (number_leaf room op) (LiteralWith L room)
unfolding number_leaf
sound_number_leaf L room op =
    sound_on (sound_integer op) (λ z. sound_on (sound_want op kind.Colon) (λ _. sound_last (λ t. leaf z t) (sound_type room op) (λ t c pc b pb a pa.
    inl (pair a (b ++ c) pa (pair b c (mark pb) pc)))))

sound_parts : {part : Reads Literal} {P : Literal → Phrase} (op : OpName) → Sound part P → Sound (parts_text part op) (PartsPhrase P)
unfolding parts_text
sound_parts op one =
    sound_on (sound_want op kind.LeftBracket) (λ _. sound_last literals_in_order (sound_until op kind.RightBracket one) (λ l b pb a pa.
    (l, refl, pair a b (mark pa) pb)))

sound_list : {part : Reads Literal} {P : Literal → Phrase} (room : ℕ) (op : OpName) → Sound part P → Sound (list_part part op) (LiteralWith (PartsPhrase P) room)
unfolding list_part
sound_list room op one = sound_last parts (sound_parts op one) (λ ls a p. p)

with_ok : (L : Literals → Phrase) (lists : Reads Literal) (room : ℕ) (op : OpName) (t : TextToken) (ts left : List StreamToken) (x : Literal) (head : LiteralHead)
    → (lists (token t ∷ ts) ≡ Ok (x, left) → Said (LiteralWith L room x) (token t ∷ ts) left)
    → HeadSays t head → literal_with lists room op (token t ∷ ts) head ≡ Ok (x, left) → Said (LiteralWith L room x) (token t ∷ ts) left
unfolding literal_with
with_ok L lists room op t ts left x (truth_literal b) ls says h =
    same_ok (truth_leaf b) x ts left (λ z l. Said (LiteralWith L room z) (token t ∷ ts) l) h (t ∷ [], refl, inr (b, refl, says))
with_ok L lists room op t ts left x number_literal ls says h = (sound_number_leaf L room op).said (token t ∷ ts) left x h
with_ok L lists room op t ts left x list_literal ls says h = ls h
with_ok L lists room op t ts left x no_literal ls says h = absurd cc

plain_ok : (op : OpName) (s left : List StreamToken) (x : Literal) → literal_text zero op s ≡ Ok (x, left) → Said (LiteralPhrase zero x) s left
unfolding literal_with too_deep
plain_ok op [] left x h = absurd cc
plain_ok op (token t ∷ ts) left x h = with_ok (λ l a. ⊥) (too_deep op) zero op t ts left x (literal_head (Some t)) (λ e. absurd cc) (head_says t) h
plain_ok op (bad p ∷ ts) left x h = absurd cc
plain_ok op (end p ∷ ts) left x h = absurd cc

suc_ok : (room : ℕ) (op : OpName) → Sound (literal_text room op) (LiteralPhrase room) → (s left : List StreamToken) (x : Literal)
    → literal_text (suc room) op s ≡ Ok (x, left) → Said (LiteralPhrase (suc room) x) s left
unfolding literal_with
suc_ok room op inner [] left x h = absurd cc
suc_ok room op inner (token t ∷ ts) left x h =
    with_ok (PartsPhrase (LiteralPhrase room)) (list_part (literal_text room op) op) (suc room) op t ts left x (literal_head (Some t))
    (λ e. (sound_list (suc room) op inner).said (token t ∷ ts) left x e) (head_says t) h
suc_ok room op inner (bad p ∷ ts) left x h = absurd cc
suc_ok room op inner (end p ∷ ts) left x h = absurd cc

pub sound_literal : (room : ℕ) (op : OpName) → Sound (literal_text room op) (LiteralPhrase room)
sound_literal zero op = record { said = plain_ok op }
sound_literal (suc room) op = record { said = suc_ok room op (sound_literal room op) }

pub sound_aggregate : (op : OpName) → Sound (aggregate_text op) AggregatePhrase
unfolding aggregate_text
sound_aggregate op = sound_parts op (sound_literal 31 op)
