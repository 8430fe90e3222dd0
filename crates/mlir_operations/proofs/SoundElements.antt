-- What is read of the pieces of operations is said by their tokens.
use Rattle.std.proofs.Common.{◌≡◌, ℕ, zero, suc, Bool, true, false, cond, List, [], ◌∷◌, ◌++◌, length, Option, Some, None, Ok, refl, sym, ◌∙◌, ap, subst, inl, inr, option_and_then}
use Rattle.std.specs.Prelude.{codes}
use Rattle.std.proofs.lemmas.Bool.{cond_both}
use Rattle.std.proofs.lemmas.List.{append-nil}
use Rattle.std.specs.Cmp.Lexicographic.{bytes_decides}
use Rattle.diag.specs.declared.refusal.OpName.{OpName}
use Rattle.hw_model.specs.Types.{HwType}
use Rattle.hw_model.specs.Types.HwType.{int}
use Rattle.hw_model.specs.Design.{same_name}
use Rattle.mlir_lexer.specs.Contents.{content_of}
use Rattle.mlir_lexer.specs.Tokens.{TextToken}
use Rattle.mlir_lexer.specs.declared.token.TokenKind.TheVariants as kind
use Rattle.mlir_syntax.specs.Stream.{StreamToken, token, bad, end, first, is_next, is_word}
use Rattle.mlir_lexer.specs.TokenKinds.{is_kind}
use Rattle.mlir_syntax.specs.Numerals.{count_limit}
use Rattle.mlir_syntax.specs.TypeText.{any_type, most_open}
use Rattle.mlir_operations.specs.OperandText.{OperandName}
use Rattle.assembly_format.specs.Formats.{text_of_keyword}
use Rattle.mlir_operations.specs.ElementText.{InherentAttributes, Gathered, with_operands, with_types, with_inherent, truth_number, group_text, further_types, types_text, reset_operands, reset_text}
use Rattle.mlir_operations.specs.ElementText.{reset_mode, sync_or_async_reset_text, input_text, output_text, inputs_text, outputs_text, instance_with, with_instance, instance_text, element_text}
use Rattle.mlir_operations.specs.ElementText.{elements_text}
use Rattle.mlir_syntax.specs.WordText.{predicate_named, bare_text, as_known, predicate_text, truth_named, truth_text, string_text, inner_symbol, module_symbol}
use Rattle.mlir_operations.specs.ElementText.InherentAttributes.{with_reset, with_async_reset, predicate, position, number, literals, field_name}
use Rattle.mlir_syntax.specs.Spelling.{Phrase, Mark, Word, Holding, Then, Either, Where, Commas, Between, SymbolPhrase, TruthWord, TypePhrase}
use Rattle.mlir_operations.specs.Spelling.{OperandPhrase, InputPhrase, OutputPhrase, InnerSymbol, InstancePhrase, FormatElementPhrase, ElementsPhrase}
use Rattle.assembly_format.specs.declared.elements.FormatElement.{FormatElement}
use Rattle.assembly_format.specs.declared.elements.FormatElement.TheVariants as element
use Rattle.mlir_syntax.proofs.Sound.{Said, Sound, same_ok, sound_on, sound_last, sound_as, sound_give, sound_refused, sound_if, sound_past}
use Rattle.mlir_syntax.proofs.SoundTokens.{pair, mark, kind_is, said_word, sound_want, sound_word, sound_name, sound_symbol, sound_number, sound_integer, sound_some, sound_until, Several}
use Rattle.mlir_syntax.proofs.SoundTypes.{sound_type, sound_field}
use Rattle.mlir_syntax.proofs.SoundLiterals.{sound_aggregate}
use Rattle.mlir_operations.proofs.SoundOperands.{sound_operand}

-- ---- words

-- a bare name that a table knows
abbrev Known : {A : Type 0} → (List ℕ → Option A) → A → Phrase
Known f x ts = (name : List ℕ) × (f name ≡ Some x) × Word name ts

found_ok : {A : Type 0} (op : OpName) (f : List ℕ → Option A) (t : TextToken) (ts left : List StreamToken) (x : A) (o : Option A) → t.kind ≡ kind.BareName → f t.text ≡ o
    → as_known op (token t ∷ ts) o ≡ Ok (x, left) → Said (Known f x) (token t ∷ ts) left
found_ok op f t ts left x None k e h = absurd cc
found_ok op f t ts left x (Some y) k e h =
    same_ok y x ts left (λ z l. Said (Known f z) (token t ∷ ts) l) h (t ∷ [], refl, (t.text, e, (t, refl, (k, refl))))

known_ok : {A : Type 0} (op : OpName) (f : List ℕ → Option A) (s left : List StreamToken) (x : A) → as_known op s (option_and_then f (bare_text (first s))) ≡ Ok (x, left)
    → Said (Known f x) s left
known_ok op f [] left x h = absurd cc
known_ok op f (token t ∷ ts) left x h =
    cond_both (is_kind t.kind kind.BareName) (Some t.text) None (λ o. as_known op (token t ∷ ts) (option_and_then f o) ≡ Ok (x, left) → Said (Known f x) (token t ∷ ts) left)
    (λ c g. found_ok op f t ts left x (f t.text) (kind_is t.kind kind.BareName c) refl g) (λ _ g. absurd cc) h
known_ok op f (bad p ∷ ts) left x h = absurd cc
known_ok op f (end p ∷ ts) left x h = absurd cc

sound_predicate : (op : OpName) → Sound (predicate_text op) (Known predicate_named)
unfolding predicate_text
sound_predicate op = record { said = known_ok op predicate_named }

same_some : {A : Type 0} (x y : A) (R : A → Type 0) → Some x ≡ Some y → R x → R y
same_some x y R h p = let e : x ≡ y = cc in subst R e p

truth_said : (name : List ℕ) (b : Bool) → truth_named name ≡ Some b → name ≡ cond b (codes "true") (codes "false")
unfolding truth_named
truth_said name b h =
    cond_both (same_name name (codes "true")) (Some true) _ (λ o. o ≡ Some b → name ≡ cond b (codes "true") (codes "false"))
    (λ c g. same_some true b (λ z. name ≡ cond z (codes "true") (codes "false")) g ((bytes_decides name (codes "true")).0 c))
    (λ _. cond_both (same_name name (codes "false")) (Some false) None (λ o. o ≡ Some b → name ≡ cond b (codes "true") (codes "false"))
    (λ c g. same_some false b (λ z. name ≡ cond z (codes "true") (codes "false")) g ((bytes_decides name (codes "false")).0 c)) (λ _ g. absurd cc)) h

sound_truth : (op : OpName) → Sound (truth_text op) TruthWord
unfolding truth_text
sound_truth op =
    sound_as (record { said = known_ok op truth_named })
    (λ b ts p. (p.2.0, p.2.1, (p.2.2.0, p.2.2.1 ∙ truth_said p.0 b p.1)))

sound_string : (op : OpName) → Sound (string_text op) (Holding kind.StringLiteral)
unfolding string_text
sound_string op = sound_last (λ t. content_of kind.StringLiteral t.text) (sound_want op kind.StringLiteral) (λ t a p. (t, p.0, (p.1, refl)))

-- ---- operands and types

sound_group : (op : OpName) → Sound (group_text op) (λ os. Between kind.LeftParenthesis kind.RightParenthesis (Commas OperandPhrase os))
unfolding group_text
sound_group op =
    sound_on (sound_want op kind.LeftParenthesis) (λ _. sound_as (sound_until op kind.RightParenthesis (sound_operand op)) (λ os b pb a pa. pair a b (mark pa) pb))

-- so many types that go on a list
abbrev GoOn : ℕ → List HwType → Phrase
GoOn n l ts = (length l ≡ n) × ((x : HwType) (a : List TextToken) → TypePhrase most_open x a → Commas (TypePhrase most_open) (x ∷ l) (a ++ ts))

sound_further : (op : OpName) (n : ℕ) → Sound (further_types op n) (GoOn n)
unfolding further_types any_type
sound_further op zero = sound_give {y = []} (refl, λ x a p. subst (TypePhrase most_open x) (sym (append-nil a)) p)
sound_further op (suc n) =
    sound_on (sound_want op kind.Comma) (λ _. sound_on (sound_type most_open op) (λ t. sound_last (λ l. t ∷ l) (sound_further op n) (λ l c pc b pb a pa.
    (ap suc pc.0, λ x d pd. pair d (a ++ (b ++ c)) pd (pair a (b ++ c) (mark pa) (pc.1 t b pb))))))

sound_types : (op : OpName) (n : ℕ) → Sound (types_text op n) (λ l ts. (length l ≡ n) × Commas (TypePhrase most_open) l ts)
unfolding types_text any_type
sound_types op zero = sound_give {y = []} (refl, refl)
sound_types op (suc n) =
    sound_on (sound_type most_open op) (λ t. sound_last (λ l. t ∷ l) (sound_further op n) (λ l b pb a pa. (ap suc pb.0, pb.1 t a pa)))

-- ---- resets

-- two operands after a reset
abbrev ResetOperands : InherentAttributes → Gathered → Gathered → Phrase
ResetOperands e g h ts =
    (r v : OperandName) × (h ≡ with_inherent (with_operands g (r ∷ v ∷ [])) e)
    × Then (OperandPhrase r) (Then (Mark kind.Comma) (OperandPhrase v)) ts

sound_reset_operands : (op : OpName) (e : InherentAttributes) (g : Gathered) → Sound (reset_operands op e g) (ResetOperands e g)
unfolding reset_operands
sound_reset_operands op e g =
    sound_on (sound_operand op) (λ r. sound_on (sound_want op kind.Comma) (λ _.
    sound_last (λ v. with_inherent (with_operands g (r ∷ v ∷ [])) e) (sound_operand op) (λ v c pc b pb a pa.
    (r, v, refl, pair a (b ++ c) pa (pair b c (mark pb) pc)))))

sound_reset : (op : OpName) (g : Gathered) → Sound (reset_text op g) (FormatElementPhrase element.Reset g)
unfolding reset_text
sound_reset op g =
    sound_past {r = reset_operands op with_reset g} (λ t h. sound_as (sound_reset_operands op with_reset g) (λ x a p.
    inl (p.0, p.1, p.2, pair (t ∷ []) a (said_word h) p.3)))
    (sound_give {y = g} (inr (refl, refl)))

-- a word, by what reset it says
abbrev ResetMode : InherentAttributes → Phrase
ResetMode e = Either (Where (e ≡ with_reset) (Word (codes "sync"))) (Where (e ≡ with_async_reset) (Word (codes "async")))

sound_mode : (op : OpName) → Sound (reset_mode op) ResetMode
unfolding reset_mode
sound_mode op =
    sound_past {r = λ s. Ok (with_async_reset, s)} (λ t h. sound_give {y = with_async_reset} (inr (refl, said_word h)))
    (sound_last (λ _. with_reset) (sound_word op (codes "sync")) (λ _ a p. inl (refl, p)))

-- `reset`, such a word and two operands
mode_said : (e : InherentAttributes) (g h : Gathered) (t : TextToken) (a b : List TextToken) → is_word (codes "reset") t ≡ true → ResetMode e a
    → ResetOperands e g h b → FormatElementPhrase element.SyncOrAsyncReset g h (t ∷ (a ++ b))
mode_said e g h t a b reset (inl (says, word)) (r, v, same, p) =
    inl (r, v, same ∙ ap (with_inherent (with_operands g (r ∷ v ∷ []))) says, pair (t ∷ a) b (pair (t ∷ []) a (said_word reset) word) p)
mode_said e g h t a b reset (inr (says, word)) (r, v, same, p) =
    inr (inl (r, v, same ∙ ap (with_inherent (with_operands g (r ∷ v ∷ []))) says, pair (t ∷ a) b (pair (t ∷ []) a (said_word reset) word) p))

sound_sync_or_async_reset : (op : OpName) (g : Gathered) → Sound (sync_or_async_reset_text op g) (FormatElementPhrase element.SyncOrAsyncReset g)
unfolding sync_or_async_reset_text
sound_sync_or_async_reset op g =
    sound_past (λ t h. sound_on (sound_mode op) (λ e. sound_as (sound_reset_operands op e g) (λ x b pb a pa. mode_said e g x t a b h pa pb)))
    (sound_give {y = g} (inr (inr (refl, refl))))

-- ---- instances

sound_input : (op : OpName) → Sound (input_text op) InputPhrase
unfolding input_text any_type
sound_input op =
    sound_on (sound_name op) (λ port. sound_on (sound_want op kind.Colon) (λ _. sound_on (sound_operand op) (λ o. sound_on (sound_want op kind.Colon) (λ _.
    sound_last (λ t. record { port = port; operand = o; type = t }) (sound_type most_open op) (λ t e pe d pd c pc b pb a pa.
    pair a (b ++ (c ++ (d ++ e))) pa (pair b (c ++ (d ++ e)) (mark pb) (pair c (d ++ e) pc (pair d e (mark pd) pe))))))))

sound_output : (op : OpName) → Sound (output_text op) OutputPhrase
unfolding output_text
sound_output op = sound_field op (sound_type most_open op)

sound_inner : (op : OpName) → Sound (inner_symbol op) InnerSymbol
unfolding inner_symbol
sound_inner op =
    sound_past (λ t h. sound_last Some (sound_symbol op) (λ name a p. pair (t ∷ []) a (said_word h) p)) (sound_give {y = None} refl)

pub sound_module_symbol : (op : OpName) → Sound (module_symbol op) SymbolPhrase
unfolding module_symbol
sound_module_symbol op =
    sound_on (sound_symbol op) (λ name.
    sound_if (is_next kind.Less) sound_refused (sound_give {y = name} (λ a p. subst (SymbolPhrase name) (sym (append-nil a)) p)))

sound_inputs : (op : OpName) → Sound (inputs_text op) (λ ins. Between kind.LeftParenthesis kind.RightParenthesis (Commas InputPhrase ins))
unfolding inputs_text
sound_inputs op =
    sound_on (sound_want op kind.LeftParenthesis) (λ _. sound_as (sound_until op kind.RightParenthesis (sound_input op)) (λ l b pb a pa. pair a b (mark pa) pb))

sound_outputs : (op : OpName)
    → Sound (outputs_text op) (λ outs. Then (Mark kind.Arrow) (Between kind.LeftParenthesis kind.RightParenthesis (Commas OutputPhrase outs)))
unfolding outputs_text
sound_outputs op =
    sound_on (sound_want op kind.Arrow) (λ _. sound_on (sound_want op kind.LeftParenthesis) (λ _.
    sound_as (sound_until op kind.RightParenthesis (sound_output op)) (λ l c pc b pb a pa. pair a (b ++ c) (mark pa) (pair b c (mark pb) pc))))

sound_instance : (op : OpName) (g : Gathered) → Sound (instance_text op g) (InstancePhrase g)
unfolding instance_text
sound_instance op g =
    sound_on (sound_string op) (λ name. sound_on (sound_inner op) (λ inner. sound_on (sound_module_symbol op) (λ symbol. sound_on (sound_inputs op) (λ ins.
    sound_last (λ outs. with_instance g (instance_with name inner symbol ins outs) ins outs) (sound_outputs op) (λ outs e pe d pd c pc b pb a pa.
    (name, symbol, inner, ins, outs, refl, pair a (b ++ (c ++ (d ++ e))) pa (pair b (c ++ (d ++ e)) pb (pair c (d ++ e) pc (pair d e pd pe)))))))))

-- ---- pieces

operands_said : (g : Gathered) (os : List OperandName) (a : List TextToken) → Several OperandPhrase os a → FormatElementPhrase element.Operands g (with_operands g os) a
operands_said g [] a p = absurd p
operands_said g (o ∷ os) a p = (o, os, refl, p)

sound_element : (op : OpName) (p : FormatElement) (g : Gathered) → Sound (element_text op p g) (FormatElementPhrase p g)
unfolding element_text any_type
sound_element op (element.Mark k) g = sound_last (λ _. g) (sound_want op k) (λ t a p. (refl, mark p))
sound_element op (element.Word w) g = sound_last (λ _. g) (sound_word op (text_of_keyword w)) (λ _ a p. (refl, p))
sound_element op element.Operand g = sound_last (λ o. with_operands g (o ∷ [])) (sound_operand op) (λ o a p. (o, refl, p))
sound_element op element.Operands g = sound_last (λ os. with_operands g os) (sound_some op (sound_operand op)) (operands_said g)
sound_element op element.Group g = sound_last (λ os. with_operands g os) (sound_group op) (λ os a p. (os, refl, p))
sound_element op element.Predicate g = sound_last (λ p. with_inherent g (predicate p)) (sound_predicate op) (λ p a q. (p, q.0, refl, q.1, q.2))
sound_element op element.Number g = sound_last (λ n. with_inherent g (position n)) (sound_number count_limit op) (λ n a p. (n, refl, p))
sound_element op element.Truth g =
    sound_last (λ b. with_inherent (with_types g (int 1 ∷ [])) (number (truth_number b))) (sound_truth op) (λ b a p. (b, refl, p))
sound_element op element.Integer g = sound_last (λ z. with_inherent g (number z)) (sound_integer op) (λ z a p. (z, refl, p))
sound_element op element.Literals g = sound_last (λ ls. with_inherent g (literals ls)) (sound_aggregate op) (λ ls a p. (ls, refl, p))
sound_element op element.Field g = sound_last (λ name. with_inherent g (field_name name)) (sound_string op) (λ name a p. (name, refl, p))
sound_element op element.Instance g = sound_instance op g
sound_element op element.Reset g = sound_reset op g
sound_element op element.SyncOrAsyncReset g = sound_sync_or_async_reset op g
sound_element op element.Type g = sound_last (λ t. with_types g (t ∷ [])) (sound_type most_open op) (λ t a p. (t, refl, p))
sound_element op element.Types g = sound_last (λ ts. with_types g ts) (sound_types op (length g.operands)) (λ l a p. (l, refl, p.0, p.1))

pub sound_elements : (op : OpName) (ps : List FormatElement) (g : Gathered) → Sound (elements_text op ps g) (ElementsPhrase ps g)
sound_elements op [] g = sound_give {y = g} (refl, refl)
sound_elements op (p ∷ ps) g = sound_on (sound_element op p g) (λ m. sound_as (sound_elements op ps m) (λ h b pb a pa. (m, pair a b pa pb)))
