-- What is read of operands and of the names of results is said by their tokens.
use Rattle.std.proofs.Common.{◌≡◌, ℕ, ◌<◌, List, [], ◌∷◌, ◌++◌, Ok, refl, sym, inl, inr}
use Rattle.std.proofs.lemmas.List.{append_assoc}
use Rattle.diag.specs.declared.refusal.OpName.{OpName}
use Rattle.hw_model.specs.Types.{Name}
use Rattle.mlir_lexer.specs.Contents.{content_of}
use Rattle.mlir_lexer.specs.Tokens.{TextToken}
use Rattle.mlir_lexer.specs.declared.token.TokenKind.TheVariants as kind
use Rattle.mlir_syntax.specs.Stream.{StreamToken, is_next}
use Rattle.mlir_syntax.specs.Reads.{on, want}
use Rattle.mlir_syntax.specs.Numerals.{number_in, below_limit, count_limit}
use Rattle.mlir_operations.specs.OperandText.{value_name, pack_number, operand_text, ResultNames, no_names, names, pack, names_after, results_text, maybe_results}
use Rattle.mlir_syntax.specs.Spelling.{Phrase, One, Mark, Either, Where, Nothing}
use Rattle.mlir_operations.specs.Spelling.{ValueName, OperandPhrase, ResultsPhrase}
use Rattle.mlir_syntax.proofs.Sound.{Said, Sound, ok_of, sound_on, sound_last, sound_give, sound_if, sound_past}
use Rattle.mlir_syntax.proofs.SoundTokens.{pair, mark, said_mark, limited_ok, sound_want, sound_number, sound_some, more}

pub sound_value_name : (op : OpName) → Sound (value_name op) ValueName
unfolding value_name
sound_value_name op = sound_last (λ t. content_of kind.ValueName t.text) (sound_want op kind.ValueName) (λ t a p. (t, p.0, (p.1, refl)))

-- `#i`, or nothing
abbrev PackPhrase : ℕ → Phrase
PackPhrase n =
    Either (Where (n ≡ 0) Nothing)
    (Where (n < count_limit) (One (λ (t : TextToken). (t.kind ≡ kind.ResultNumber) × (number_in 10 0 (content_of kind.ResultNumber t.text) ≡ n))))

pack_ok : (op : OpName) (s left : List StreamToken) (n : ℕ)
    → on (want op kind.ResultNumber s) (λ t left. below_limit count_limit op s (number_in 10 0 (content_of kind.ResultNumber t.text)) left) ≡ Ok (n, left)
    → Said (PackPhrase n) s left
pack_ok op s left n h =
    let (t, m, e, k) = ok_of (want op kind.ResultNumber s) (λ t left. below_limit count_limit op s (number_in 10 0 (content_of kind.ResultNumber t.text)) left) n left h in
    let (a, ea, p) = (sound_want op kind.ResultNumber).said s m t e in
    limited_ok count_limit op s m left (number_in 10 0 (content_of kind.ResultNumber t.text)) n (λ z l. Said (PackPhrase z) s l)
    (λ small. (a, ea, inr (small, (t, p.0, (p.1, refl))))) k

sound_pack : (op : OpName) → Sound (pack_number op) PackPhrase
unfolding pack_number
sound_pack op = sound_if (is_next kind.ResultNumber) (record { said = pack_ok op }) (sound_give {y = 0} (inl (refl, refl)))

pub sound_operand : (op : OpName) → Sound (operand_text op) OperandPhrase
unfolding operand_text
sound_operand op =
    sound_on (sound_value_name op) (λ name. sound_last (λ n. record { name = name; number = n }) (sound_pack op) (λ n b pb a pa. pair a b pa pb))

-- what stands between a first name and `=`
abbrev AfterName : Name → ResultNames → Phrase
AfterName name r b = (a : List TextToken) → ValueName name a → (c : List TextToken) → Mark kind.Equals c → ResultsPhrase r (a ++ (b ++ c))

sound_names_after : (op : OpName) (name : Name) → Sound (names_after op name) (AfterName name)
unfolding names_after
sound_names_after op name =
    sound_past (λ t h. sound_last (λ k. pack name k) (sound_number count_limit op) (λ k b pb a pa c pc.
    pair a (t ∷ (b ++ c)) pa (pair (t ∷ []) (b ++ c) (said_mark h) (pair b c pb pc))))
    (sound_past (λ t h. sound_last (λ ns. names name ns) (sound_some op (sound_value_name op)) (λ ns b pb a pa c pc.
    (a ++ (t ∷ b), c, sym (append_assoc a (t ∷ b) c), more ValueName name t ns b a h pb pa, pc)))
    (sound_give {y = names name []} (λ a pa c pc. pair a c pa pc)))

sound_results : (op : OpName) → Sound (results_text op) ResultsPhrase
unfolding results_text
sound_results op =
    sound_on (sound_value_name op) (λ name. sound_on (sound_names_after op name) (λ r. sound_last (λ _. r) (sound_want op kind.Equals) (λ _ c pc b pb a pa.
    pb a pa c (mark pc))))

pub sound_maybe_results : (op : OpName) → Sound (maybe_results op) ResultsPhrase
unfolding maybe_results
sound_maybe_results op = sound_if (is_next kind.ValueName) (sound_results op) (sound_give {y = no_names} refl)
