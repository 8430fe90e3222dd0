-- What the tokens of modules and of a file say is read of them.
use Rattle.std.proofs.Common.{◌≡◌, ◌⊎◌, ℕ, zero, suc, ◌<◌, ◌≤◌, Bool, true, false, cond, List, [], ◌∷◌, ◌++◌, length, map, Some, None, Ok, refl, sym, ◌∙◌, ap, ap₂, inl, inr, arith}
use Rattle.std.specs.Prelude.{codes}
use Rattle.std.proofs.lemmas.List.{append-nil}
use Rattle.diag.specs.Location.{location_of}
use Rattle.diag.specs.declared.refusal.Location.{Location}
use Rattle.diag.specs.declared.refusal.OpName.{OpName}
use Rattle.diag.specs.declared.refusal.OpName.TheVariants as op
use Rattle.opcode.specs.declared.listed.Listed.TheVariants as listed
use Rattle.opcode.specs.Listed.{name_of_listed}
use Rattle.hw_model.specs.Types.{Name, HwType}
use Rattle.hw_model.specs.Design.{Entry}
use Rattle.mlir_lexer.specs.Tokens.{TextToken, tokens}
use Rattle.mlir_lexer.specs.declared.token.TokenKind.{TokenKind}
use Rattle.mlir_lexer.specs.declared.token.TokenKind.TheVariants as kind
use Rattle.mlir_syntax.specs.Stream.{StreamToken, token, end, stream, stream_of, is_first, is_next, is_word, after, is_end}
use Rattle.mlir_lexer.specs.TokenKinds.{is_kind}
use Rattle.mlir_syntax.specs.Reads.{want}
use Rattle.mlir_syntax.specs.TypeText.{most_open}
use Rattle.mlir_syntax.specs.AttributeText.{dictionary_text, is_symbol}
use Rattle.mlir_operations.specs.OperationText.{module_name, class_of}
use Rattle.mlir_operations.specs.ModuleText.{header, PortText, port_name, port_type, input_port, output_port, port_text, older_input, older_outputs, older_ports, ports_text, ModuleText}
use Rattle.mlir_operations.specs.ModuleText.{attributes_text, private_text, body_text, module_after, classed_module, module_text, modules_text, file_symbol, want_end, wrapped_text, is_file_name}
use Rattle.mlir_operations.specs.ModuleText.{file_text}
use Rattle.stored_form.specs.Dictionaries.{module_keys}
use Rattle.mlir_syntax.specs.Spelling.{Phrase, One, Mark, Word, Holding, Then, Either, Where, Nothing, Commas, Between, NamePhrase, SymbolPhrase, TypePhrase, DictionaryPhrase}
use Rattle.mlir_operations.specs.Spelling.{ValueName, OperationsPhrase, PortPhrase, OlderInputPhrase, OlderOutputPhrase, OlderOutputsPhrase, OlderPortsPhrase, PortsPhrase, AttributesPhrase}
use Rattle.mlir_operations.specs.Spelling.{PrivatePhrase, ModulePhrase, ModulesPhrase, FileWord, WrappedPhrase, FilePhrase, IsLocationOf, token_of}
use Rattle.mlir_syntax.proofs.Again.{At, at_then, at_one, at_where, at_nothing, at_as, by_either, at_either, on_ok, if_true, if_false, Leads, leads_one, leads_then, leads_where, leads_either, starts, starts_test, shorter, Again, Any}
use Rattle.mlir_syntax.proofs.AgainTokens.{is_kind_of, unlike, is_word_of, no_word, other_word, want_at, mark_at, holding_at, next_at, no_next, again_name, again_symbol, leads_holding, leads_symbol}
use Rattle.mlir_syntax.proofs.AgainTokens.{leads_commas, until_at, no_mark, name_unlike}
use Rattle.mlir_syntax.proofs.AgainTypes.{again_any_type}
use Rattle.mlir_syntax.proofs.AgainAttributes.{again_dictionary}
use Rattle.mlir_operations.proofs.AgainOperands.{again_value_name}
use Rattle.mlir_operations.proofs.AgainElements.{word_first, other_first, token_first, module_symbol_at}
use Rattle.mlir_operations.proofs.AgainOperations.{body_at}

-- ---- ports

port_type_at : (x : HwType) {s left : List StreamToken} → At (Then (Mark kind.Colon) (TypePhrase most_open x)) s left → port_type s ≡ Ok (x, left)
unfolding port_type
port_type_at x {s} {left} a =
    let (m, b, c) = at_then a in
    let (t, e) = mark_at header b in
    on_ok _ e ((again_any_type header).gives x m left c tt)

port_name_at : (v name : Name) {s left : List StreamToken} → is_next kind.StringLiteral left ≡ false
    → At (Holding kind.StringLiteral name) s left ⊎ At (Where (name ≡ v) Nothing) s left → port_name v s ≡ Ok (name, left)
unfolding port_name
port_name_at v name {s} {left} clear (inl a) =
    let (t, c, e) = holding_at header a in
    if_true _ (starts_test (λ t. is_kind t.kind kind.StringLiteral) true (λ t k. is_kind_of k) (starts (leads_holding (λ t k. k)) a)) (on_ok _ e (ap (λ x. Ok (x, left)) c))
port_name_at v name {s} {left} clear (inr a) =
    let (same, p) = at_where a in
    let nothing = at_nothing p in
    if_false _ (ap (is_next kind.StringLiteral) nothing ∙ clear) (ap (λ y. Ok (v, y)) nothing ∙ ap (λ x. Ok (x, left)) (sym same))

-- a port after `in`
abbrev InputAfter : PortText → Name → Phrase
InputAfter p v =
    Then (ValueName v) (Then (Either (Holding kind.StringLiteral p.name) (Where (p.name ≡ v) Nothing)) (Then (Mark kind.Colon) (TypePhrase most_open p.type)))

input_at : (p : PortText) (v : Name) {s left : List StreamToken} → p.value ≡ Some v → At (InputAfter p v) s left → input_port s ≡ Ok (p, left)
unfolding input_port
input_at p v {s} {left} same a =
    let (m, b, c) = at_then a in
    let (k, d, e) = at_then c in
    let (i, colon, x) = at_then e in
    on_ok _ ((again_value_name header).gives v s m b tt)
    (on_ok _ (port_name_at v p.name (no_mark kind.StringLiteral refl colon) (at_either d))
    (on_ok _ (port_type_at p.type e) (ap (λ o. Ok (record { value = o; name = p.name; type = p.type }, left)) (sym same))))

output_at : (p : PortText) {s left : List StreamToken} → p.value ≡ None → At (Then (NamePhrase p.name) (Then (Mark kind.Colon) (TypePhrase most_open p.type))) s left
    → output_port s ≡ Ok (p, left)
unfolding output_port
output_at p {s} {left} same a =
    let (m, b, c) = at_then a in
    on_ok _ ((again_name header).gives p.name s m b tt)
    (on_ok _ (port_type_at p.type c) (ap (λ o. Ok (record { value = o; name = p.name; type = p.type }, left)) (sym same)))

port_at : (p : PortText) {s left : List StreamToken}
    → At (λ ts. (v : Name) × (p.value ≡ Some v) × Then (Word (codes "in")) (InputAfter p v) ts) s left
    ⊎ At (Where (p.value ≡ None) (Then (Word (codes "out")) (Then (NamePhrase p.name) (Then (Mark kind.Colon) (TypePhrase most_open p.type))))) s left
    → port_text s ≡ Ok (p, left)
unfolding port_text
port_at p {s} {left} (inl a) =
    let (v, same, q) = a.says in
    let inside : At (Then (Word (codes "in")) (InputAfter p v)) s left = record { passed = a.passed; same = a.same; says = q } in
    let (m, b, c) = at_then inside in
    let (next, following) = word_first b in
    if_true _ next (ap input_port following ∙ input_at p v same c)
port_at p {s} {left} (inr a) =
    let (same, q) = at_where a in
    let (m, b, c) = at_then q in
    let (next, following) = word_first b in
    if_false _ (other_first (codes "in") (leads_one (λ t w. other_word (codes "in") (codes "out") refl t w.1)) b)
    (if_true _ next (ap output_port following ∙ output_at p same c))

again_port : Again Any port_text PortPhrase
again_port = record { gives = λ p s left a _. port_at p (at_either a) }

leads_port : {T : TextToken → Type 0} (p : PortText) → ((t : TextToken) → t.kind ≡ kind.BareName → T t) → Leads T (PortPhrase p)
leads_port p to =
    leads_either (record { lead = λ ts q. (leads_then {P = Word (codes "in")} (leads_one (λ t w. to t w.0))).lead ts q.2 })
    (leads_where (leads_then (leads_one (λ t w. to t w.0))))

no_value : (ports : List PortText) {s left : List StreamToken} → At (Then (Commas PortPhrase ports) (Mark kind.RightParenthesis)) s left → is_next kind.ValueName s ≡ false
no_value [] a =
    let (m, b, c) = at_then a in
    ap (is_next kind.ValueName) (at_nothing b) ∙ no_mark kind.ValueName refl c
no_value (p ∷ ps) a =
    let (m, b, c) = at_then a in
    no_next kind.ValueName (leads_commas PortPhrase p ps (leads_port p (unlike kind.ValueName kind.BareName refl))) b

older_input_at : (p : PortText) {s left : List StreamToken} → At (OlderInputPhrase p) s left → older_input s ≡ Ok (p, left)
unfolding older_input
older_input_at p {s} {left} a =
    let (v, same, called, q) = a.says in
    let inside : At (Then (ValueName v) (Then (Mark kind.Colon) (TypePhrase most_open p.type))) s left = record { passed = a.passed; same = a.same; says = q } in
    let (m, b, c) = at_then inside in
    on_ok _ ((again_value_name header).gives v s m b tt)
    (on_ok _ (port_type_at p.type c) (ap₂ (λ o n. Ok (record { value = o; name = n; type = p.type }, left)) (sym same) (sym called)))

again_older_input : Again Any older_input OlderInputPhrase
again_older_input = record { gives = λ p s left a _. older_input_at p a }

again_output : Again Any output_port OlderOutputPhrase
again_output = record { gives = λ p s left a _. let (same, q) = at_where a in output_at p same q }

leads_older : {T : TextToken → Type 0} (p : PortText) → ((t : TextToken) → t.kind ≡ kind.ValueName → T t) → Leads T (OlderInputPhrase p)
leads_older p to = record { lead = λ ts q. (leads_then {P = ValueName q.0} (leads_holding to)).lead ts q.3 }

older_outputs_at : (outputs : List PortText) {s left : List StreamToken} → is_next kind.Arrow left ≡ false
    → At (Then (Mark kind.Arrow) (Between kind.LeftParenthesis kind.RightParenthesis (Commas OlderOutputPhrase outputs))) s left ⊎ At (Where (outputs ≡ []) Nothing) s left
    → older_outputs s ≡ Ok (outputs, left)
unfolding older_outputs
older_outputs_at outputs {s} {left} clear (inl a) =
    let (m, b, c) = at_then a in
    let (next, following) = next_at b in
    let (k, d, e) = at_then c in
    let (t, opens) = mark_at header d in
    if_true _ next (on_ok _ (ap (want header kind.LeftParenthesis) following ∙ opens)
    (until_at header kind.RightParenthesis again_output (λ p. leads_where (leads_then (name_unlike kind.RightParenthesis refl refl))) (λ _ _ _. tt) (λ _ _ _. tt) refl outputs e))
older_outputs_at outputs {s} {left} clear (inr a) =
    let (same, p) = at_where a in
    let nothing = at_nothing p in
    if_false _ (ap (is_next kind.Arrow) nothing ∙ clear) (ap (λ y. Ok ([], y)) nothing ∙ ap (λ x. Ok (x, left)) (sym same))

-- what stands after the parenthesis of an older header
abbrev OlderInputs : List PortText → Phrase
OlderInputs inputs = Then (Commas OlderInputPhrase inputs) (Mark kind.RightParenthesis)

older_ports_at : (inputs outputs : List PortText) {s m left : List StreamToken} → is_next kind.Arrow left ≡ false → At (OlderInputs inputs) s m
    → At (OlderOutputsPhrase outputs) m left → older_ports s ≡ Ok (inputs ++ outputs, left)
unfolding older_ports
older_ports_at inputs outputs clear a b =
    on_ok _ (until_at header kind.RightParenthesis again_older_input (λ p. leads_older p (unlike kind.RightParenthesis kind.ValueName refl)) (λ _ _ _. tt) (λ _ _ _. tt) refl inputs a)
    (on_ok _ (older_outputs_at outputs clear (at_either b)) refl)

-- an older header is told by its first token
older_told : {A : Type 0} (inputs : List PortText) {s left : List StreamToken} (x y : A) → At (OlderInputs inputs) s left
    → cond (is_next kind.ValueName s) x (cond (is_next kind.RightParenthesis s) x y) ≡ x
older_told [] x y a =
    let (m, b, c) = at_then a in
    let same = at_nothing b in
    let (next, following) = next_at c in
    if_false _ (ap (is_next kind.ValueName) same ∙ no_mark kind.ValueName refl c) (if_true _ (ap (is_next kind.RightParenthesis) same ∙ next) refl)
older_told (p ∷ ps) x y a =
    let (m, b, c) = at_then a in
    if_true _ (starts_test (λ t. is_kind t.kind kind.ValueName) true (λ t k. is_kind_of k) (starts (leads_commas OlderInputPhrase p ps (leads_older p (λ t k. k))) b)) refl

older_at : (ports : List PortText) {s left : List StreamToken} → is_next kind.Arrow left ≡ false → At (OlderPortsPhrase ports) s left → ports_text s ≡ Ok (ports, left)
unfolding ports_text
older_at ports {s} {left} clear a =
    let (inputs, outputs, all, q) = a.says in
    let inside : At (Then (Between kind.LeftParenthesis kind.RightParenthesis (Commas OlderInputPhrase inputs)) (OlderOutputsPhrase outputs)) s left =
    record { passed = a.passed; same = a.same; says = q } in
    let (m, b, c) = at_then inside in
    let (k, d, e) = at_then b in
    let (t, opens) = mark_at header d in
    on_ok _ opens (older_told inputs (older_ports k) _ e ∙ older_ports_at inputs outputs clear e c ∙ ap (λ x. Ok (x, left)) (sym all))

-- no ports are an older header's too
none_older : (ts : List TextToken) → Between kind.LeftParenthesis kind.RightParenthesis (Commas PortPhrase []) ts → OlderPortsPhrase [] ts
none_older ts h = ([], [], refl, (ts, [], sym (append-nil ts), h, inr (refl, refl)))

ports_at : (ports : List PortText) {s left : List StreamToken} → is_next kind.Arrow left ≡ false
    → At (Between kind.LeftParenthesis kind.RightParenthesis (Commas PortPhrase ports)) s left ⊎ At (OlderPortsPhrase ports) s left
    → ports_text s ≡ Ok (ports, left)
unfolding ports_text
ports_at ports clear (inr a) = older_at ports clear a
ports_at [] clear (inl a) = older_at [] clear (at_as none_older a)
ports_at (p ∷ ps) clear (inl a) =
    let (m, b, c) = at_then a in
    let (t, e) = mark_at header b in
    let (n, d, _) = at_then c in
    on_ok _ e (if_false _ (no_value (p ∷ ps) c)
    (if_false _ (no_next kind.RightParenthesis (leads_commas PortPhrase p ps (leads_port p (unlike kind.RightParenthesis kind.BareName refl))) d)
    (until_at header kind.RightParenthesis again_port (λ q. leads_port q (unlike kind.RightParenthesis kind.BareName refl)) (λ _ _ _. tt) (λ _ _ _. tt) refl (p ∷ ps) c)))

-- ---- modules

attributes_at : (op : OpName) (es : List Entry) {s left : List StreamToken} → is_first (is_word (codes "attributes")) left ≡ false
    → At (Then (Word (codes "attributes")) (DictionaryPhrase module_keys es)) s left ⊎ At (Where (es ≡ []) Nothing) s left → attributes_text op s ≡ Ok (es, left)
unfolding attributes_text
attributes_at op es {s} {left} clear (inl a) =
    let (m, b, c) = at_then a in
    let (next, following) = word_first b in
    if_true _ next (ap (dictionary_text op module_keys) following ∙ (again_dictionary op module_keys).gives es m left c tt)
attributes_at op es {s} {left} clear (inr a) =
    let (same, p) = at_where a in
    let nothing = at_nothing p in
    if_false _ (ap (is_first (is_word (codes "attributes"))) nothing ∙ clear) (ap (λ y. Ok ([], y)) nothing ∙ ap (λ x. Ok (x, left)) (sym same))

private_at : (b : Bool) {s left : List StreamToken} → is_first (is_word (codes "private")) left ≡ false → At (PrivatePhrase b) s left → private_text s ≡ Ok (b, left)
unfolding private_text
private_at true clear a = let (next, following) = word_first a in if_true _ next (ap (λ y. Ok (true, y)) following)
private_at false clear a =
    let nothing = at_nothing a in
    if_false _ (ap (is_first (is_word (codes "private"))) nothing ∙ clear) (ap (λ y. Ok (false, y)) nothing)

-- a mark is no word
mark_no_word : (word : List ℕ) (k : TokenKind) {s left : List StreamToken} → is_kind k kind.BareName ≡ false → At (Mark k) s left → is_first (is_word word) s ≡ false
mark_no_word word k other a = other_first word (leads_one (no_word word k other)) a

-- what is after a module's ports
abbrev BodyPhrase : ModuleText → Phrase
BodyPhrase m =
    Then (AttributesPhrase m.dictionary) (Then (Mark kind.LeftBrace) (Then (OperationsPhrase IsLocationOf m.operations)
    (One (λ (t : TextToken). (t.kind ≡ kind.RightBrace) × IsLocationOf t m.close))))

body_text_at : (m : ModuleText) {s left : List StreamToken} → At (BodyPhrase m) s left
    → body_text s ≡ Ok (record { dictionary = m.dictionary; operations = m.operations; close = m.close }, left)
unfolding body_text
body_text_at m {s} {left} a =
    let (i, b, c) = at_then a in
    let (j, d, e) = at_then c in
    let (k, x, y) = at_then e in
    let (t, et) = mark_at header d in
    let (u, p, eu) = want_at header {k = kind.RightBrace} (λ t p. p.0) y in
    let close : At (Mark kind.RightBrace) k left = at_as (λ ts p. (p.0, p.1, p.2.0)) y in
    on_ok _ (attributes_at header m.dictionary (mark_no_word (codes "attributes") kind.LeftBrace refl d) (at_either b))
    (on_ok _ et (on_ok _ (body_at m.operations close x)
    (on_ok _ eu (ap (λ z. Ok (record { dictionary = m.dictionary; operations = m.operations; close = z }, left)) p.1))))

-- a list of ports begins with a parenthesis
leads_ports : {T : TextToken → Type 0} (ports : List PortText) → ((t : TextToken) → t.kind ≡ kind.LeftParenthesis → T t) → Leads T (PortsPhrase ports)
leads_ports ports to =
    leads_either (leads_then (leads_one to)) (record { lead = λ ts q. (leads_then {P = Between kind.LeftParenthesis kind.RightParenthesis (Commas OlderInputPhrase q.0)} (leads_then (leads_one to))).lead ts q.3 })

-- what is after a module's ports does not begin with an arrow
body_no_arrow : (m : ModuleText) {s left : List StreamToken} → At (BodyPhrase m) s left → is_next kind.Arrow s ≡ false
body_no_arrow m {s} {left} a =
    let (i, b, c) = at_then a in
    let (j, d, e) = at_then c in
    by_either (λ (x : At (Then (Word (codes "attributes")) (DictionaryPhrase module_keys m.dictionary)) s i). no_next kind.Arrow (leads_then (leads_one (λ t w. unlike kind.Arrow kind.BareName refl t w.0))) x)
    (λ (x : At (Where (m.dictionary ≡ []) Nothing) s i). let (same, p) = at_where x in ap (is_next kind.Arrow) (at_nothing p) ∙ no_mark kind.Arrow refl d)
    (at_either b)

module_after_at : (m : ModuleText) {s left : List StreamToken}
    → At (Then (PrivatePhrase m.is_private) (Then (SymbolPhrase m.symbol) (Then (PortsPhrase m.ports) (BodyPhrase m)))) s left
    → module_after m.location s ≡ Ok (m, left)
unfolding module_after
module_after_at m {s} {left} a =
    let (i, b, c) = at_then a in
    let (j, d, e) = at_then c in
    let (k, x, y) = at_then e in
    on_ok _ (private_at m.is_private (token_first (codes "private") m.symbol d) b)
    (on_ok _ (module_symbol_at header m.symbol (no_next kind.Less (leads_ports m.ports (unlike kind.Less kind.LeftParenthesis refl)) x) d)
    (on_ok _ (ports_at m.ports (body_no_arrow m y) (at_either x)) (on_ok _ (body_text_at m y) refl)))

module_class : class_of (name_of_listed listed.HwModule) ≡ module_name
unfolding name_of_listed
module_class = refl

module_at : (m : ModuleText) {s left : List StreamToken} → At (ModulePhrase IsLocationOf m) s left → module_text s ≡ Ok (m, left)
unfolding module_text classed_module
module_at m {s} {left} a =
    let (i, b, c) = at_then a in
    let (t, same, p) = at_one b in
    ap module_text same ∙ if_true _ (is_kind_of p.0)
    (ap (classed_module (token t ∷ i) t) (ap class_of p.1 ∙ module_class) ∙ ap (λ x. module_after x i) p.2 ∙ module_after_at m c)

leads_module : {T : TextToken → Type 0} (m : ModuleText) → ((t : TextToken) → t.kind ≡ kind.BareName → t.text ≡ name_of_listed listed.HwModule → T t)
    → Leads T (ModulePhrase IsLocationOf m)
leads_module m to = leads_then (leads_one (λ t p. to t p.0 p.1))

-- a test of where modules end
abbrev IsNoModule : (List StreamToken → Bool) → Type 0
IsNoModule ends = (t : TextToken) (s : List StreamToken) → t.kind ≡ kind.BareName → ends (token t ∷ s) ≡ false

modules_at : (ends : List StreamToken → Bool) → IsNoModule ends → (n : ℕ) (ms : List ModuleText) {s left : List StreamToken} → ends left ≡ true → 0 < length left
    → At (ModulesPhrase IsLocationOf ms) s left → length s ≤ n → modules_text ends n s ≡ Ok (ms, left)
unfolding modules_text
modules_at ends not_one zero [] {s} {left} last some a le =
    let same : length s ≡ length left = ap length (at_nothing a) in
    absurd (omega (arith, same, some, le))
modules_at ends not_one (suc n) [] last some a le = if_true _ (ap ends (at_nothing a) ∙ last) (ap (λ y. Ok ([], y)) (at_nothing a))
modules_at ends not_one zero (m ∷ ms) last some a le =
    let (k, b, c) = at_then a in
    let short = shorter {T = λ _. Unit {0}} (leads_module m (λ t _ _. tt)) b in
    absurd (omega (arith, short, le))
modules_at ends not_one (suc n) (m ∷ ms) last some a le =
    let (k, b, c) = at_then a in
    let short = shorter {T = λ _. Unit {0}} (leads_module m (λ t _ _. tt)) b in
    let begun = starts {T = λ t. t.kind ≡ kind.BareName} (leads_module m (λ t e _. e)) b in
    if_false _ (ap ends begun.same ∙ not_one begun.first begun.following begun.says)
    (on_ok _ (module_at m b) (on_ok _ (modules_at ends not_one n ms last some c (omega (arith, short, le))) refl))

-- ---- files

-- the end of a text
abbrev End : Location → List StreamToken
End location = end location ∷ []

file_symbol_at : {s left : List StreamToken} → is_first is_symbol left ≡ false
    → At (λ (a : List TextToken). (name : Name) × SymbolPhrase name a) s left ⊎ At Nothing s left → file_symbol s ≡ Ok (tt, left)
unfolding file_symbol
file_symbol_at {s} {left} clear (inl a) =
    let (name, p) = a.says in
    let inside : At (SymbolPhrase name) s left = record { passed = a.passed; same = a.same; says = p } in
    if_true _ (starts_test is_symbol true (λ t e. e) (starts (leads_symbol (λ t k. if_true _ (is_kind_of k) refl) (λ t k. ap (λ i. cond (is_kind i kind.SymbolName) true (is_kind i kind.SymbolString)) k)) inside))
    (on_ok _ ((again_symbol op.File).gives name s left inside tt) refl)
file_symbol_at clear (inr a) =
    let nothing = at_nothing a in
    if_false _ (ap (is_first is_symbol) nothing ∙ clear) (ap (λ y. Ok (tt, y)) nothing)

-- a token of another kind is no symbol
no_symbol : (k : TokenKind) → cond (is_kind k kind.SymbolName) true (is_kind k kind.SymbolString) ≡ false → (t : TextToken) → t.kind ≡ k → is_symbol t ≡ false
no_symbol k other t e = ap (λ i. cond (is_kind i kind.SymbolName) true (is_kind i kind.SymbolString)) e ∙ other

no_symbol_at : (es : List Entry) {s m left : List StreamToken} → At (Mark kind.LeftBrace) m left
    → At (Then (Word (codes "attributes")) (DictionaryPhrase module_keys es)) s m ⊎ At (Where (es ≡ []) Nothing) s m → is_first is_symbol s ≡ false
no_symbol_at es brace (inl a) = starts_test is_symbol false (λ t e. e) (starts (leads_then (leads_one (λ t w. no_symbol kind.BareName refl t w.0))) a)
no_symbol_at es brace (inr a) =
    ap (is_first is_symbol) (at_nothing (at_where a).1) ∙ starts_test is_symbol false (λ t e. e) (starts (leads_one (no_symbol kind.LeftBrace refl)) brace)

brace_no_module : IsNoModule (is_next kind.RightBrace)
brace_no_module t s k = unlike kind.RightBrace kind.BareName refl t k

end_no_module : IsNoModule is_end
end_no_module t s k = refl

-- what is after the word of a file's module
abbrev WrappedAfter : List ModuleText → List Entry → Phrase
WrappedAfter ms es =
    Then (Either (λ (a : List TextToken). (name : Name) × SymbolPhrase name a) Nothing)
    (Then (AttributesPhrase es) (Between kind.LeftBrace kind.RightBrace (ModulesPhrase IsLocationOf ms)))

wrapped_at : (ms : List ModuleText) (es : List Entry) (location : Location) {s : List StreamToken} → At (WrappedAfter ms es) s (End location) → wrapped_text s ≡ Ok (ms, End location)
unfolding wrapped_text want_end
wrapped_at ms es location a =
    let (i, b, c) = at_then a in
    let (j, d, e) = at_then c in
    let (k, f, g) = at_then e in
    let (l, x, y) = at_then g in
    let (t, et) = mark_at op.File f in
    let (u, eu) = mark_at op.File y in
    let (next, following) = next_at y in
    let short = shorter {T = λ _. Unit {0}} (leads_one (λ t k. tt)) y in
    on_ok _ (file_symbol_at (no_symbol_at es f (at_either d)) (at_either b))
    (on_ok _ (attributes_at op.File es (mark_no_word (codes "attributes") kind.LeftBrace refl f) (at_either d))
    (on_ok _ et (on_ok _ (modules_at (is_next kind.RightBrace) brace_no_module (length k) ms next (omega (arith, short)) x (omega arith)) (on_ok _ eu refl))))

file_word_first : {s left : List StreamToken} → At (Word (codes "module")) s left ⊎ At (Word (codes "builtin.module")) s left → (is_first is_file_name s ≡ true) × (after s ≡ left)
file_word_first (inl a) =
    let (t, e, p) = at_one a in
    (ap (is_first is_file_name) e ∙ if_true _ (is_word_of t p.0 p.1) refl, ap after e)
file_word_first (inr a) =
    let (t, e, p) = at_one a in
    (ap (is_first is_file_name) e ∙ if_false _ (other_word (codes "module") (codes "builtin.module") refl t p.1) (is_word_of t p.0 p.1), ap after e)

no_file_name : (ms : List ModuleText) (location : Location) {s : List StreamToken} → At (ModulesPhrase IsLocationOf ms) s (End location) → is_first is_file_name s ≡ false
unfolding name_of_listed
no_file_name [] location a = ap (is_first is_file_name) (at_nothing a)
no_file_name (m ∷ ms) location a =
    starts_test is_file_name false (λ t e. e) (starts (leads_then (leads_module m (λ t k w.
    if_false _ (other_word (codes "module") (name_of_listed listed.HwModule) refl t w) (other_word (codes "builtin.module") (name_of_listed listed.HwModule) refl t w)))) a)

file_at : (ms : List ModuleText) (location : Location) {s : List StreamToken} → At (ModulesPhrase IsLocationOf ms) s (End location) ⊎ At (WrappedPhrase IsLocationOf ms) s (End location)
    → file_text s ≡ Ok (ms, End location)
unfolding file_text
file_at ms location {s} (inl a) = if_false _ (no_file_name ms location a) (modules_at is_end end_no_module (length s) ms refl (omega arith) a (omega arith))
file_at ms location {s} (inr a) =
    let (es, p) = a.says in
    let inside : At (Then FileWord (WrappedAfter ms es)) s (End location) = record { passed = a.passed; same = a.same; says = p } in
    let (m, b, c) = at_then inside in
    let (next, following) = file_word_first (at_either b) in
    if_true _ next (ap wrapped_text following ∙ wrapped_at ms es location c)

-- ---- texts

-- the tokens of a text whose tokens are none of them refused
whole_text : (location : Location) (ts : List TextToken) → stream location (map token_of ts) ≡ map token ts ++ End location
whole_text location [] = refl
whole_text location (t ∷ ts) = ap (λ x. token t ∷ x) (whole_text location ts)

-- the modules that the tokens of a text say are read of it
pub file_read : (source : List ℕ) (ms : List ModuleText) (ts : List TextToken) → tokens source ≡ map token_of ts → FilePhrase IsLocationOf ms ts
    → file_text (stream_of source) ≡ Ok (ms, End (location_of source (length source)))
file_read source ms ts same said =
    let location = location_of source (length source) in
    let inside : At (FilePhrase IsLocationOf ms) (stream_of source) (End location) =
    record { passed = ts; same = ap (stream location) same ∙ whole_text location ts; says = said } in
    file_at ms location (at_either inside)
