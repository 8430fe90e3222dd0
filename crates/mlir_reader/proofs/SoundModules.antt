-- What is read of modules and of a file is said by their tokens.
use Rattle.std.proofs.Common.{◌≡◌, ℕ, zero, suc, Bool, true, false, cond, List, [], ◌∷◌, ◌++◌, length, map, Some, None, Result, Ok, Err, refl, sym, ◌∙◌, ap, ap₂, inl, inr}
use Rattle.std.specs.Prelude.{codes}
use Rattle.std.proofs.lemmas.Bool.{cond_both}
use Rattle.std.proofs.lemmas.List.{append_assoc, append-nil}
use Rattle.diag.specs.declared.refusal.Location.{Location}
use Rattle.diag.specs.declared.refusal.Refusal.{Refusal}
use Rattle.diag.specs.declared.refusal.OpName.{OpName}
use Rattle.diag.specs.declared.refusal.OpName.TheVariants as op
use Rattle.opcode.specs.declared.listed.Listed.TheVariants as listed
use Rattle.opcode.specs.Listed.{name_of_listed}
use Rattle.hw_model.specs.Types.{Name}
use Rattle.hw_model.specs.Design.{Design}
use Rattle.mlir_lexer.specs.Contents.{content_of}
use Rattle.mlir_lexer.specs.Tokens.{TextToken, tokens}
use Rattle.mlir_lexer.specs.declared.token.TokenKind.TheVariants as kind
use Rattle.mlir_syntax.specs.Stream.{StreamToken, token, bad, end, stream, stream_of, is_first, is_next, is_word, after, unexpected_refusal, is_end}
use Rattle.mlir_lexer.specs.TokenKinds.{is_kind}
use Rattle.mlir_syntax.specs.Reads.{Read, Reads, on, give, want, items_until}
use Rattle.mlir_syntax.specs.TypeText.{any_type, most_open}
use Rattle.mlir_syntax.specs.AttributeText.{dictionary_text, is_symbol}
use Rattle.mlir_operations.specs.OperationText.{NameClass, operation, module_name, file_name, locations, outside, unknown, class_of}
use Rattle.mlir_operations.specs.ModuleText.{header, PortText, port_name, port_type, input_port, output_port, port_text, older_input, older_outputs, older_ports, ports_text, ModuleText}
use Rattle.mlir_operations.specs.ModuleText.{attributes_text, private_text, BodyText, body_text, module_after, classed_module, module_text, modules_text, file_symbol, want_end, wrapped_text}
use Rattle.mlir_operations.specs.ModuleText.{is_file_name, file_text}
use Rattle.stored_form.specs.Dictionaries.{module_keys}
use Rattle.mlir_reader.specs.Reading.{text_limit, design_read, read}
use Rattle.mlir_syntax.specs.Spelling.{Phrase, One, Mark, Holding, Then, Either, Where, Nothing, Commas, SymbolPhrase, TypePhrase}
use Rattle.mlir_operations.specs.Spelling.{ValueName, PortPhrase, OlderInputPhrase, OlderOutputPhrase, OlderOutputsPhrase, PortsPhrase, AttributesPhrase, PrivatePhrase, OperationsPhrase, ModulePhrase}
use Rattle.mlir_operations.specs.Spelling.{ModulesPhrase, FileWord, FilePhrase, token_of, IsLocationOf}
use Rattle.mlir_reader.specs.Spelling.{Spells}
use Rattle.mlir_syntax.proofs.Sound.{Said, Sound, Past, ok_of, same_ok, one_more, sound_on, sound_last, sound_as, sound_give, sound_refused, sound_if, sound_past}
use Rattle.mlir_syntax.proofs.SoundTokens.{pair, mark, kind_is, kept_ok, said_word, said_mark, sound_want, sound_name, sound_symbol, sound_until}
use Rattle.mlir_syntax.proofs.SoundTypes.{sound_type}
use Rattle.mlir_syntax.proofs.SoundAttributes.{sound_dictionary}
use Rattle.mlir_operations.proofs.SoundOperands.{sound_value_name}
use Rattle.mlir_operations.proofs.SoundElements.{sound_module_symbol}
use Rattle.mlir_operations.proofs.SoundOperations.{ClassSays, class_says, all_operations}

-- ---- ports

-- `"name"`, or nothing, which means the name of the value
abbrev PortName : Name → Name → Phrase
PortName v n = Either (Holding kind.StringLiteral n) (Where (n ≡ v) Nothing)

sound_port_name : (v : Name) → Sound (port_name v) (PortName v)
unfolding port_name
sound_port_name v =
    sound_if (is_next kind.StringLiteral)
    (sound_last (λ t. content_of kind.StringLiteral t.text) (sound_want header kind.StringLiteral) (λ t a p. inl (t, p.0, (p.1, refl))))
    (sound_give {y = v} (inr (refl, refl)))

sound_port_type : Sound port_type (λ t. Then (Mark kind.Colon) (TypePhrase most_open t))
unfolding port_type any_type
sound_port_type = sound_on (sound_want header kind.Colon) (λ _. sound_as (sound_type most_open header) (λ t b pb a pa. pair a b (mark pa) pb))

-- what stands after `in`
abbrev InputPort : PortText → Phrase
InputPort p ts =
    (v : Name) × (p.value ≡ Some v) × Then (ValueName v) (Then (PortName v p.name) (Then (Mark kind.Colon) (TypePhrase most_open p.type))) ts

sound_input_port : Sound input_port InputPort
unfolding input_port
sound_input_port =
    sound_on (sound_value_name header) (λ v. sound_on (sound_port_name v) (λ n. sound_last (λ t. record { value = Some v; name = n; type = t }) sound_port_type
    (λ t c pc b pb a pa. (v, refl, pair a (b ++ c) pa (pair b c pb pc)))))

sound_output_port : Sound output_port OlderOutputPhrase
unfolding output_port
sound_output_port =
    sound_on (sound_name header) (λ n. sound_last (λ t. record { value = None; name = n; type = t }) sound_port_type (λ t b pb a pa. (refl, pair a b pa pb)))

sound_port : Sound port_text PortPhrase
unfolding port_text
sound_port =
    sound_past {r = input_port} (λ t h. sound_as sound_input_port (λ p a q. inl (q.0, q.1, pair (t ∷ []) a (said_word h) q.2)))
    (sound_past {r = output_port} (λ t h. sound_as sound_output_port (λ p a q. inr (q.0, pair (t ∷ []) a (said_word h) q.1))) sound_refused)

sound_older_input : Sound older_input OlderInputPhrase
unfolding older_input
sound_older_input =
    sound_on (sound_value_name header) (λ v. sound_last (λ t. record { value = Some v; name = v; type = t }) sound_port_type
    (λ t b pb a pa. (v, refl, refl, pair a b pa pb)))

sound_older_outputs : Sound older_outputs OlderOutputsPhrase
unfolding older_outputs
sound_older_outputs =
    sound_past {r = λ s. on (want header kind.LeftParenthesis s) (λ _ s1. items_until header kind.RightParenthesis output_port s1)} (λ t h.
    sound_on (sound_want header kind.LeftParenthesis) (λ _. sound_as (sound_until header kind.RightParenthesis sound_output_port) (λ ps b pb a pa.
    inl (pair (t ∷ []) (a ++ b) (said_mark h) (pair a b (mark pa) pb)))))
    (sound_give {y = []} (inr (refl, refl)))

-- what stands after the parenthesis of an older header
abbrev OlderRest : List PortText → Phrase
OlderRest ps ts =
    (inputs outputs : List PortText) × (ps ≡ inputs ++ outputs)
    × Then (Then (Commas OlderInputPhrase inputs) (Mark kind.RightParenthesis)) (OlderOutputsPhrase outputs) ts

sound_older_ports : Sound older_ports OlderRest
unfolding older_ports
sound_older_ports =
    sound_on (sound_until header kind.RightParenthesis sound_older_input) (λ inputs. sound_last (λ outputs. inputs ++ outputs) sound_older_outputs
    (λ outputs b pb a pa. (inputs, outputs, refl, pair a b pa pb)))

-- with the parenthesis before it
opened : (ps : List PortText) (a b : List TextToken) → Mark kind.LeftParenthesis a → OlderRest ps b → PortsPhrase ps (a ++ b)
opened ps a b left rest =
    let parts = rest.3 in
    inr (rest.0, rest.1, rest.2, (a ++ parts.0, parts.1, ap (λ x. a ++ x) parts.2 ∙ sym (append_assoc a parts.0 parts.1), pair a parts.0 left parts.3, parts.4))

sound_ports : Sound ports_text PortsPhrase
unfolding ports_text
sound_ports =
    sound_on (sound_want header kind.LeftParenthesis) (λ _.
    sound_if (is_next kind.ValueName) (sound_as sound_older_ports (λ ps b pb a pa. opened ps a b (mark pa) pb))
    (sound_if (is_next kind.RightParenthesis) (sound_as sound_older_ports (λ ps b pb a pa. opened ps a b (mark pa) pb))
    (sound_as (sound_until header kind.RightParenthesis sound_port) (λ ps b pb a pa. inl (pair a b (mark pa) pb)))))

-- ---- modules

sound_attributes : (op : OpName) → Sound (attributes_text op) AttributesPhrase
unfolding attributes_text
sound_attributes op =
    sound_past {r = dictionary_text op module_keys} (λ t h. sound_as (sound_dictionary op module_keys) (λ es a p. inl (pair (t ∷ []) a (said_word h) p)))
    (sound_give {y = []} (inr (refl, refl)))

sound_private : Sound private_text PrivatePhrase
unfolding private_text
sound_private = sound_past {r = give true} (λ t h. sound_give {y = true} (said_word h)) (sound_give {y = false} refl)

-- what stands after the ports
abbrev BodyPhrase : BodyText → Phrase
BodyPhrase b =
    Then (AttributesPhrase b.dictionary) (Then (Mark kind.LeftBrace) (Then (OperationsPhrase IsLocationOf b.operations)
    (One (λ (t : TextToken). (t.kind ≡ kind.RightBrace) × (t.location ≡ b.close)))))

sound_body : Sound body_text BodyPhrase
unfolding body_text
sound_body =
    sound_on (sound_attributes header) (λ es. sound_on (sound_want header kind.LeftBrace) (λ _. sound_on all_operations (λ os.
    sound_last (λ t. record { dictionary = es; operations = os; close = t.location }) (sound_want header kind.RightBrace) (λ t d pd c pc b pb a pa.
    pair a (b ++ (c ++ d)) pa (pair b (c ++ d) (mark pb) (pair c d pc (t, pd.0, (pd.1, refl))))))))

-- what is after a module's name
abbrev AfterName : Location → ModuleText → Phrase
AfterName location y ts =
    (t : TextToken) → t.kind ≡ kind.BareName → t.text ≡ name_of_listed listed.HwModule → t.location ≡ location → ModulePhrase IsLocationOf y (t ∷ ts)

sound_after : (location : Location) → Sound (module_after location) (AfterName location)
unfolding module_after
sound_after location =
    sound_on sound_private (λ p. sound_on (sound_module_symbol header) (λ n. sound_on sound_ports (λ ports. sound_last
    (λ b. record { symbol = n; is_private = p; ports = ports; dictionary = b.dictionary; operations = b.operations; location = location; close = b.close }) sound_body
    (λ body e pe d pd c pc a pa t k w i.
    pair (t ∷ []) (a ++ (c ++ (d ++ e))) (t, refl, (k, w, i)) (pair a (c ++ (d ++ e)) pa (pair c (d ++ e) pc (pair d e pd pe)))))))

classed_ok : (t : TextToken) (ts left : List StreamToken) (x : ModuleText) (class : NameClass) → t.kind ≡ kind.BareName → ClassSays t.text class
    → classed_module (token t ∷ ts) t class ≡ Ok (x, left) → Said (ModulePhrase IsLocationOf x) (token t ∷ ts) left
unfolding classed_module
classed_ok t ts left x (operation o) k says h = absurd cc
classed_ok t ts left x module_name k says h =
    one_more t ts left (ModulePhrase IsLocationOf x) (let (a, ea, p) = (sound_after t.location).said ts left x h in (a, ea, p t k (sym says) refl))
classed_ok t ts left x file_name k says h = absurd cc
classed_ok t ts left x locations k says h = absurd cc
classed_ok t ts left x outside k says h = absurd cc
classed_ok t ts left x unknown k says h = absurd cc

module_ok : (s left : List StreamToken) (x : ModuleText) → module_text s ≡ Ok (x, left) → Said (ModulePhrase IsLocationOf x) s left
unfolding module_text
module_ok [] left x h = absurd cc
module_ok (token t ∷ ts) left x h =
    cond_both (is_kind t.kind kind.BareName) (classed_module (token t ∷ ts) t (class_of t.text)) _
    (λ m. m ≡ Ok (x, left) → Said (ModulePhrase IsLocationOf x) (token t ∷ ts) left)
    (λ c g. classed_ok t ts left x (class_of t.text) (kind_is t.kind kind.BareName c) (class_says t.text) g) (λ _ g. absurd cc) h
module_ok (bad p ∷ ts) left x h = absurd cc
module_ok (end p ∷ ts) left x h = absurd cc

pub sound_module : Sound module_text (ModulePhrase IsLocationOf)
sound_module = record { said = module_ok }

sound_modules : (ends : List StreamToken → Bool) (n : ℕ) → Sound (modules_text ends n) (ModulesPhrase IsLocationOf)
unfolding modules_text
sound_modules ends zero = record { said = λ s left x h. absurd cc }
sound_modules ends (suc n) =
    sound_if ends (sound_give {y = []} refl) (sound_on sound_module (λ m. sound_last (λ ms. m ∷ ms) (sound_modules ends n) (λ ms b pb a pa. pair a b pa pb)))

all_modules : (ends : List StreamToken → Bool) → Sound (λ s. modules_text ends (length s) s) (ModulesPhrase IsLocationOf)
all_modules ends = record { said = λ s left x h. (sound_modules ends (length s)).said s left x h }

-- ---- files

sound_file_symbol : Sound file_symbol (λ _. Either (λ (a : List TextToken). (name : Name) × SymbolPhrase name a) Nothing)
unfolding file_symbol
sound_file_symbol =
    sound_if (is_first is_symbol) (sound_last (λ _. tt) (sound_symbol op.File) (λ name a p. inl (name, p))) (sound_give {y = tt} (inr refl))

sound_wrapped : (t : TextToken) → FileWord (t ∷ []) → Sound wrapped_text (λ ms. Past t (FilePhrase IsLocationOf ms))
unfolding wrapped_text want_end
sound_wrapped t word =
    sound_on sound_file_symbol (λ _. sound_on (sound_attributes op.File) (λ es. sound_on (sound_want op.File kind.LeftBrace) (λ _.
    sound_on (all_modules (is_next kind.RightBrace)) (λ ms. sound_on (sound_want op.File kind.RightBrace) (λ u.
    sound_if is_end (sound_give {y = ms} (λ e pe d pd c pc b pb a pa.
    inr (
      es,
      pair (t ∷ []) (a ++ (b ++ (c ++ (d ++ (e ++ []))))) word (pair a (b ++ (c ++ (d ++ (e ++ [])))) pa (pair b (c ++ (d ++ (e ++ []))) pb
          (pair c (d ++ (e ++ [])) (mark pc) (pair d (e ++ []) pd (u, append-nil e ∙ pe.0, pe.1))))),
    )))
    sound_refused)))))

file_word : (t : TextToken) → is_file_name t ≡ true → FileWord (t ∷ [])
file_word t h = go (is_word (codes "module") t) refl h
  where
    go : (b : Bool) → is_word (codes "module") t ≡ b → cond b true (is_word (codes "builtin.module") t) ≡ true → FileWord (t ∷ [])
    go true e h = inl (said_word e)
    go false e h = inr (said_word h)

sound_file : Sound file_text (FilePhrase IsLocationOf)
unfolding file_text
sound_file =
    sound_past {r = wrapped_text} (λ t h. sound_wrapped t (file_word t h)) (sound_as (all_modules is_end) (λ ms a p. inl p))

-- ---- a text that is read is read to its end

pub record Ends {A : Type 0} (r : Reads A) : Type 0 where
  pub ends : (s left : List StreamToken) (x : A) → r s ≡ Ok (x, left) → is_end left ≡ true

ends_on : {A B : Type 0} (r : Reads A) (f : A → Reads B) → ((x : A) → Ends (f x)) → Ends (λ s. on (r s) f)
ends_on r f rest = record { ends = λ s left y h. let (x, m, e, g) = ok_of (r s) f y left h in (rest x).ends m left y g }

ends_want : {A : Type 0} (x : A) → Ends (want_end x)
unfolding want_end
ends_want x = record { ends = λ s left y h. kept_ok (λ _ l. is_end l ≡ true) (is_end s) x y s left (unexpected_refusal op.File s) (λ e. e) h }

ends_wrapped : Ends wrapped_text
unfolding wrapped_text
ends_wrapped =
    ends_on file_symbol _ (λ _. ends_on (attributes_text op.File) _ (λ _. ends_on (want op.File kind.LeftBrace) _ (λ _.
    ends_on (λ s. modules_text (is_next kind.RightBrace) (length s) s) _ (λ ms. ends_on (want op.File kind.RightBrace) _ (λ _. ends_want ms)))))

modules_end : (n : ℕ) (s left : List StreamToken) (ms : List ModuleText) → modules_text is_end n s ≡ Ok (ms, left) → is_end left ≡ true
unfolding modules_text
modules_end zero s left ms h = absurd cc
modules_end (suc n) s left ms h = go (is_end s) refl h (modules_end n)
  where
    go : (b : Bool) → is_end s ≡ b
        → cond {A = Read (List ModuleText)} b (Ok ([], s)) (on (module_text s) (λ m left. on (modules_text is_end n left) (λ ms following. Ok (m ∷ ms, following)))) ≡ Ok (ms, left)
        → ((s left : List StreamToken) (ms : List ModuleText) → modules_text is_end n s ≡ Ok (ms, left) → is_end left ≡ true) → is_end left ≡ true
    go true e h more = same_ok [] ms s left (λ _ l. is_end l ≡ true) h e
    go false e h more =
        let (m, s1, e1, h1) = ok_of (module_text s) (λ m left. on (modules_text is_end n left) (λ ms following. Ok (m ∷ ms, following))) ms left h in
        let (others, s2, e2, h2) = ok_of (modules_text is_end n s1) (λ ms following. Ok (m ∷ ms, following)) ms left h1 in
        same_ok (m ∷ others) ms s2 left (λ _ l. is_end l ≡ true) h2 (more s1 s2 others e2)

file_ends : (s left : List StreamToken) (ms : List ModuleText) → file_text s ≡ Ok (ms, left) → is_end left ≡ true
unfolding file_text
file_ends s left ms h =
    cond_both (is_first is_file_name s) (wrapped_text (after s)) (modules_text is_end (length s) s) (λ m. m ≡ Ok (ms, left) → is_end left ≡ true)
    (λ _ g. ends_wrapped.ends (after s) left ms g) (λ _ g. modules_end (length s) s left ms g) h

-- the tokens of a text are those that are passed, where the text ends after them
whole : (location : Location) (rs : List (Result TextToken Refusal)) (ts : List TextToken) (left : List StreamToken) → stream location rs ≡ map token ts ++ left → is_end left ≡ true
    → rs ≡ map token_of ts
whole location [] [] left h e = refl
whole location [] (t ∷ ts) left h e = absurd cc
whole location (Ok u ∷ rs) [] left h e = let f : is_end (token u ∷ stream location rs) ≡ true = ap is_end h ∙ e in absurd cc
whole location (Ok u ∷ rs) (t ∷ ts) left h e =
    let same : u ≡ t = cc in
    let others : stream location rs ≡ map token ts ++ left = cc in
    ap₂ (λ x xs. Ok x ∷ xs) same (whole location rs ts left others e)
whole location (Err r ∷ rs) [] left h e = let f : is_end (bad r.location ∷ []) ≡ true = ap is_end h ∙ e in absurd cc
whole location (Err r ∷ rs) (t ∷ ts) left h e = absurd cc

-- ---- texts

design_ok : (source : List ℕ) (d : Design) (m : Read (List ModuleText)) → file_text (stream_of source) ≡ m → design_read m ≡ Ok d → Spells source d
design_ok source d (Err e) f h = absurd cc
design_ok source d (Ok p) f h =
    let (ts, same, said) = sound_file.said (stream_of source) p.1 p.0 f in
    (p.0, ts, whole _ (tokens source) ts p.1 same (file_ends (stream_of source) p.1 p.0 f), said, cc)

-- what is read of a text is spelled by it
pub read_is_spelled : (source : List ℕ) (d : Design) → read source ≡ Ok d → Spells source d
read_is_spelled source d h =
    cond_both (Rattle.std.proofs.Common.nat_lt text_limit (length source)) _ (design_read (file_text (stream_of source))) (λ m. m ≡ Ok d → Spells source d)
    (λ _ g. absurd cc) (λ _ g. design_ok source d (file_text (stream_of source)) refl g) h
