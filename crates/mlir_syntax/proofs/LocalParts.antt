-- The readers of tokens, numbers, lists, types, attributes and constants look no further than one token.
use Rattle.std.proofs.Common.{◌≡◌, ℕ, zero, suc, Bool, true, false, cond, nat_lt, List, [], ◌∷◌, ◌++◌, Option, Some, None, Ok, Err, refl, ℤ, pos}
use Rattle.diag.specs.declared.refusal.Refusal.{Refusal}
use Rattle.diag.specs.declared.refusal.OpName.{OpName}
use Rattle.diag.specs.declared.cause.Cause.TheVariants.{OutsideProfile, TooDeep, NumberTooLarge, Unexpected}
use Rattle.hw_model.specs.Types.{Name, HwType}
use Rattle.hw_model.specs.Types.HwType.{int, clock, array, struct}
use Rattle.hw_model.specs.TypeViews.{fields_of}
use Rattle.hw_model.specs.Kinds.{Literal}
use Rattle.hw_model.specs.Kinds.Literal.{leaf, parts}
use Rattle.hw_model.specs.Design.{Attribute}
use Rattle.hw_model.specs.Design.Attribute.{unit_value, text_value, symbol_value, truth_value, integer_value, list_value}
use Rattle.mlir_lexer.specs.Contents.{content_of}
use Rattle.mlir_lexer.specs.Tokens.{TextToken}
use Rattle.mlir_lexer.specs.declared.token.TokenKind.{TokenKind}
use Rattle.mlir_lexer.specs.declared.token.TokenKind.TheVariants as kind
use Rattle.mlir_syntax.specs.Stream.{StreamToken, token, bad, end, first, is_next, is_word, after, refusal_at, unexpected_refusal}
use Rattle.mlir_lexer.specs.TokenKinds.{is_kind}
use Rattle.mlir_syntax.specs.Reads.{Read, Reads, on, want, want_word, items, some_items, items_until}
use Rattle.mlir_syntax.specs.Numerals.{number_in, number_of, count_limit, number_limit, below_limit, number_below, negative, integer}
use Rattle.mlir_syntax.specs.TypeText.{TypeHead, width_digits, type_head, width_type, type_with, glued_element, x_rest, element_after, element_type, array_text, is_name, name_text, field_text, struct_text, too_deep, type_text}
use Rattle.mlir_syntax.specs.TypeText.TypeHead.{integer_type as integer_head, clock_type, array_type, struct_type, foreign_type, no_type}
use Rattle.mlir_syntax.specs.AttributeText.{AttributeHead, text_head, symbol_head, truth_head, number_head, list_head, alias_head, no_head, is_symbol, attribute_head, is_stored, stored_integer}
use Rattle.mlir_syntax.specs.AttributeText.{integer_type, typed_integer, in_order, list_text, attribute_with, attribute_text, is_among, new_key, string_value, value_of_key, entry_value, entry_text}
use Rattle.mlir_syntax.specs.AttributeText.{entries, dictionary_text, maybe_dictionary}
use Rattle.mlir_syntax.specs.LiteralText.{LiteralHead, truth_literal, number_literal, list_literal, no_literal, literal_head, number_leaf, literals_in_order, truth_leaf, parts_text, list_part, literal_with, literal_text, aggregate_text}
use Rattle.mlir_syntax.specs.WordText.{symbol_text}
use Rattle.mlir_syntax.proofs.Local.{Loc, Local, loc_same, loc_on, loc_next, loc_cond, loc_first, loc_after, loc_less, loc_give, loc_refused, loc_unexpected, loc_zero, loc_step, local_all}

-- ---- a token

-- what a first token that a test tells is read as
abbrev pub Taken : {A : Type 0} → OpName → (TextToken → Bool) → (TextToken → List StreamToken → List StreamToken → Read A) → Option TextToken → ℕ → Reads A
Taken op test K None k s = Err (unexpected_refusal op s)
Taken op test K (Some t) k s = cond (test t) (K t s (after s)) (Err (unexpected_refusal op s))

pub local_taken : {A : Type 0} {r : Reads A} (op : OpName) (test : TextToken → Bool) (K : TextToken → List StreamToken → List StreamToken → Read A)
    → ((k : ℕ) (s : List StreamToken) → r s ≡ Taken op test K (first s) k s) → ((t : TextToken) → Local (λ s. K t s (after s))) → Local r
local_taken op test K same each c n = loc_same same (loc_first (Taken op test K) go)
  where
    go : (o : Option TextToken) → Loc c n (Taken op test K o)
    go None = loc_unexpected op
    go (Some t) = loc_cond (test t) (each t c n) (loc_unexpected op)

on_cond : {A B : Type 0} (b : Bool) (x : A) (left : List StreamToken) (e : Refusal) (f : A → Reads B) → on (cond b (Ok (x, left)) (Err e)) f ≡ cond b (f x left) (Err e)
on_cond true x left e f = refl
on_cond false x left e f = refl

want_taken : (op : OpName) (k : TokenKind) (j : ℕ) (s : List StreamToken) → want op k s ≡ Taken op (λ t. is_kind t.kind k) (λ t _ left. Ok (t, left)) (first s) j s
unfolding want
want_taken op k j [] = refl
want_taken op k j (token t ∷ ts) = refl
want_taken op k j (bad p ∷ ts) = refl
want_taken op k j (end p ∷ ts) = refl

pub local_want : (op : OpName) (k : TokenKind) → Local (want op k)
local_want op k = local_taken op (λ t. is_kind t.kind k) (λ t _ left. Ok (t, left)) (want_taken op k) (λ t c n. loc_after (loc_give {y = t}))

word_taken : (op : OpName) (name : List ℕ) (j : ℕ) (s : List StreamToken) → want_word op name s ≡ Taken op (is_word name) (λ t _ left. Ok (t, left)) (first s) j s
unfolding want_word
word_taken op name j [] = refl
word_taken op name j (token t ∷ ts) = refl
word_taken op name j (bad p ∷ ts) = refl
word_taken op name j (end p ∷ ts) = refl

pub local_word : (op : OpName) (name : List ℕ) → Local (want_word op name)
local_word op name = local_taken op (is_word name) (λ t _ left. Ok (t, left)) (word_taken op name) (λ t c n. loc_after (loc_give {y = t}))

name_taken : (op : OpName) (j : ℕ) (s : List StreamToken) → name_text op s ≡ Taken op is_name (λ t _ left. Ok (content_of t.kind t.text, left)) (first s) j s
unfolding name_text
name_taken op j [] = refl
name_taken op j (token t ∷ ts) = refl
name_taken op j (bad p ∷ ts) = refl
name_taken op j (end p ∷ ts) = refl

pub local_name : (op : OpName) → Local (name_text op)
local_name op =
    local_taken op is_name (λ t _ left. Ok (content_of t.kind t.text, left)) (name_taken op) (λ t c n. loc_after (loc_give {y = content_of t.kind t.text}))

symbol_taken : (op : OpName) (j : ℕ) (s : List StreamToken) → symbol_text op s ≡ Taken op is_symbol (λ t _ left. Ok (content_of t.kind t.text, left)) (first s) j s
unfolding symbol_text
symbol_taken op j [] = refl
symbol_taken op j (token t ∷ ts) = refl
symbol_taken op j (bad p ∷ ts) = refl
symbol_taken op j (end p ∷ ts) = refl

pub local_symbol : (op : OpName) → Local (symbol_text op)
local_symbol op =
    local_taken op is_symbol (λ t _ left. Ok (content_of t.kind t.text, left)) (symbol_taken op) (λ t c n. loc_after (loc_give {y = content_of t.kind t.text}))

-- ---- numbers

pub local_limited : (limit : ℕ) (op : OpName) (x : ℕ) → Local (λ s. below_limit limit op s x (after s))
unfolding below_limit
local_limited limit op x c n = loc_cond (nat_lt x limit) (loc_after (loc_give {y = x})) (loc_refused NumberTooLarge op)

-- a token of a kind, and what is made of it at its location
kind_taken : {A : Type 0} (op : OpName) (k : TokenKind) (K : TextToken → List StreamToken → List StreamToken → Read A) (j : ℕ) (s : List StreamToken)
    → on (want op k s) (λ t left. K t s left) ≡ Taken op (λ t. is_kind t.kind k) K (first s) j s
unfolding want
kind_taken op k K j [] = refl
kind_taken op k K j (token t ∷ ts) = on_cond (is_kind t.kind k) t ts (unexpected_refusal op (token t ∷ ts)) (λ u left. K u (token t ∷ ts) left)
kind_taken op k K j (bad p ∷ ts) = refl
kind_taken op k K j (end p ∷ ts) = refl

pub local_kind : {A : Type 0} (op : OpName) (k : TokenKind) (K : TextToken → List StreamToken → List StreamToken → Read A) → ((t : TextToken) → Local (λ s. K t s (after s)))
    → Local (λ s. on (want op k s) (λ t left. K t s left))
local_kind op k K each = local_taken op (λ t. is_kind t.kind k) K (kind_taken op k K) each

pub local_number : (limit : ℕ) (op : OpName) → Local (number_below limit op)
unfolding number_below
local_number limit op = local_kind op kind.Integer (λ t s left. below_limit limit op s (number_of t.text) left) (λ t. local_limited limit op (number_of t.text))

pub local_integer : (op : OpName) → Local (integer op)
unfolding integer
local_integer op c n =
    loc_next (λ t. is_kind t.kind kind.Minus) (loc_after (loc_on (local_number number_limit op c n) (λ x. loc_give {y = negative x})))
    (loc_on (local_number number_limit op c n) (λ x. loc_give {y = pos x}))

-- ---- lists

loc_items : {A : Type 0} {item : Reads A} (op : OpName) → Local item → (n : ℕ) → Loc 0 n (items op item)
unfolding items
loc_items op one zero = loc_zero
loc_items op one (suc n) =
    loc_step (λ k s. refl) (loc_on (one 1 n) (λ x.
    loc_less (λ t. is_kind t.kind kind.Comma) (loc_on (loc_items op one n) (λ xs. loc_give {y = x ∷ xs})) (loc_give {y = x ∷ []})))

pub local_some : {A : Type 0} {item : Reads A} (op : OpName) → Local item → Local (some_items op item)
local_some {item} op one = local_all {R = items op item} (loc_items op one)

pub local_until : {A : Type 0} {item : Reads A} (op : OpName) (close : TokenKind) → Local item → Local (items_until op close item)
unfolding items_until
local_until op close one c n =
    loc_next (λ t. is_kind t.kind close) (loc_after (loc_give {y = []}))
    (loc_on (local_some op one c n) (λ xs. loc_on (local_want op close c n) (λ _. loc_give {y = xs})))

-- ---- types

local_width : (op : OpName) (digits : List ℕ) → Local (λ s. width_type op s digits)
unfolding width_type
local_width op digits c n = loc_on (local_limited count_limit op (number_in 10 0 digits) c n) (λ w. loc_give {y = int w})

local_glued : (op : OpName) (o : Option (List ℕ)) → Local (λ s. glued_element op s o)
unfolding glued_element
local_glued op None c n = loc_unexpected op
local_glued op (Some digits) c n = local_width op digits c n

local_rest : {element : Reads HwType} (op : OpName) (o : Option (List ℕ)) → Local element → Local (λ s. element_after element op s o)
unfolding element_after
local_rest op None one c n = loc_unexpected op
local_rest op (Some []) one c n = loc_after (one c n)
local_rest op (Some (b ∷ bs)) one c n = local_glued op (width_digits (b ∷ bs)) c n

local_element : {element : Reads HwType} (op : OpName) → Local element → Local (element_type element op)
unfolding element_type
local_element {element} op one c n = loc_first (λ o _ s. element_after element op s (x_rest o)) (λ o. local_rest op (x_rest o) one c n)

local_array : {element : Reads HwType} (op : OpName) → Local element → Local (array_text element op)
unfolding array_text
local_array op one c n =
    loc_on (loc_after (local_want op kind.Less c n)) (λ _. loc_on (local_number count_limit op c n) (λ x. loc_on (local_element op one c n) (λ t.
    loc_on (local_want op kind.Greater c n) (λ _. loc_give {y = array x t}))))

pub local_field : {element : Reads HwType} (op : OpName) → Local element → Local (field_text element op)
unfolding field_text
local_field op one c n =
    loc_on (local_name op c n) (λ name. loc_on (local_want op kind.Colon c n) (λ _. loc_on (one c n) (λ t. loc_give {y = record { name = name; type = t }})))

local_struct : {element : Reads HwType} (op : OpName) → Local element → Local (struct_text element op)
unfolding struct_text
local_struct op one c n =
    loc_on (loc_after (local_want op kind.Less c n)) (λ _. loc_on (local_until op kind.Greater (local_field op one) c n) (λ fs. loc_give {y = struct (fields_of fs)}))

local_deep : {A : Type 0} (op : OpName) → Local {A = A} (too_deep op)
unfolding too_deep
local_deep op c n = loc_refused TooDeep op

local_type_with : {arrays structs : Reads HwType} (op : OpName) (head : TypeHead) → Local arrays → Local structs → Local (λ s. type_with arrays structs op s head)
unfolding type_with
local_type_with op (integer_head digits) one other c n = local_width op digits c n
local_type_with op clock_type one other c n = loc_after (loc_give {y = clock})
local_type_with op array_type one other c n = one c n
local_type_with op struct_type one other c n = other c n
local_type_with op foreign_type one other c n = loc_refused OutsideProfile op
local_type_with op no_type one other c n = loc_unexpected op

pub local_type : (room : ℕ) (op : OpName) → Local (type_text room op)
local_type zero op c n =
    loc_first (λ o _ s. type_with (too_deep op) (too_deep op) op s (type_head o)) (λ o. local_type_with op (type_head o) (local_deep op) (local_deep op) c n)
local_type (suc room) op c n =
    loc_first (λ o _ s. type_with (array_text (type_text room op) op) (struct_text (type_text room op) op) op s (type_head o))
    (λ o. local_type_with op (type_head o) (local_array op (local_type room op)) (local_struct op (local_type room op)) c n)

-- ---- attributes

-- an integer made of a number, if it is one that a dictionary may hold
abbrev stored_with : (ℕ → ℤ) → OpName → Reads ℤ
stored_with f op s =
    on (number_below number_limit op s) (λ x left. cond (is_stored (f x)) (Ok (f x, left)) (Err (refusal_at NumberTooLarge op s)))

abbrev StoredAt : (ℕ → ℤ) → OpName → TextToken → List StreamToken → List StreamToken → Read ℤ
StoredAt f op t s left =
    cond (nat_lt (number_of t.text) number_limit)
    (cond (is_stored (f (number_of t.text))) (Ok (f (number_of t.text), left)) (Err (refusal_at NumberTooLarge op s))) (Err (refusal_at NumberTooLarge op s))

stored_token : (f : ℕ → ℤ) (op : OpName) (t : TextToken) (ts : List StreamToken) (b d : Bool)
    → on (on (cond {A = Read TextToken} b (Ok (t, ts)) (Err (unexpected_refusal op (token t ∷ ts))))
    (λ u left. cond {A = Read ℕ} d (Ok (number_of t.text, left)) (Err (refusal_at NumberTooLarge op (token t ∷ ts)))))
    (λ x left. cond (is_stored (f x)) (Ok (f x, left)) (Err (refusal_at NumberTooLarge op (token t ∷ ts))))
    ≡ cond b (cond d (cond (is_stored (f (number_of t.text))) (Ok (f (number_of t.text), ts)) (Err (refusal_at NumberTooLarge op (token t ∷ ts))))
    (Err (refusal_at NumberTooLarge op (token t ∷ ts)))) (Err (unexpected_refusal op (token t ∷ ts)))
stored_token f op t ts true true = refl
stored_token f op t ts true false = refl
stored_token f op t ts false d = refl

stored_taken : (f : ℕ → ℤ) (op : OpName) (j : ℕ) (s : List StreamToken)
    → stored_with f op s ≡ Taken op (λ t. is_kind t.kind kind.Integer) (StoredAt f op) (first s) j s
unfolding number_below want below_limit
stored_taken f op j [] = refl
stored_taken f op j (token t ∷ ts) = go (is_kind t.kind kind.Integer)
  where
    go : (b : Bool) → on (on (cond {A = Read TextToken} b (Ok (t, ts)) (Err (unexpected_refusal op (token t ∷ ts))))
        (λ u left. cond {A = Read ℕ} (nat_lt (number_of u.text) number_limit) (Ok (number_of u.text, left)) (Err (refusal_at NumberTooLarge op (token t ∷ ts)))))
        (λ x left. cond (is_stored (f x)) (Ok (f x, left)) (Err (refusal_at NumberTooLarge op (token t ∷ ts))))
        ≡ cond b (StoredAt f op t (token t ∷ ts) ts) (Err (unexpected_refusal op (token t ∷ ts)))
    go true = stored_token f op t ts true (nat_lt (number_of t.text) number_limit)
    go false = refl
stored_taken f op j (bad p ∷ ts) = refl
stored_taken f op j (end p ∷ ts) = refl

local_stored_with : (f : ℕ → ℤ) (op : OpName) → Local (stored_with f op)
local_stored_with f op =
    local_taken op (λ t. is_kind t.kind kind.Integer) (StoredAt f op) (stored_taken f op) (λ t c n.
    loc_cond (nat_lt (number_of t.text) number_limit)
    (loc_cond (is_stored (f (number_of t.text))) (loc_after (loc_give {y = f (number_of t.text)})) (loc_refused NumberTooLarge op))
    (loc_refused NumberTooLarge op))

stored_sides : (op : OpName) (s : List StreamToken) (b : Bool) (m o : Read ℕ)
    → on (cond b (on m (λ x left. Ok (negative x, left))) (on o (λ x left. Ok (pos x, left))))
    (λ z left. cond (is_stored z) (Ok (z, left)) (Err (refusal_at NumberTooLarge op (cond b (after s) s))))
    ≡ cond b (on m (λ x left. cond (is_stored (negative x)) (Ok (negative x, left)) (Err (refusal_at NumberTooLarge op (after s)))))
    (on o (λ x left. cond (is_stored (pos x)) (Ok (pos x, left)) (Err (refusal_at NumberTooLarge op s))))
stored_sides op s true (Ok p) o = refl
stored_sides op s true (Err e) o = refl
stored_sides op s false m (Ok p) = refl
stored_sides op s false m (Err e) = refl

stored_same : (op : OpName) (k : ℕ) (s : List StreamToken)
    → stored_integer op s ≡ cond (is_next kind.Minus s) (stored_with negative op (after s)) (stored_with pos op s)
unfolding stored_integer integer
stored_same op k s = stored_sides op s (is_next kind.Minus s) (number_below number_limit op (after s)) (number_below number_limit op s)

local_stored : (op : OpName) → Local (stored_integer op)
local_stored op c n =
    loc_same (stored_same op)
    (loc_next (λ t. is_kind t.kind kind.Minus) (loc_after (local_stored_with negative op c n)) (local_stored_with pos op c n))

local_integer_type : (room : ℕ) (op : OpName) → Local (integer_type room op)
unfolding integer_type
local_integer_type room op c n = loc_next (λ t. is_kind t.kind kind.Colon) (loc_after (local_type room op c n)) (loc_give {y = int 64})

local_typed : (room : ℕ) (op : OpName) → Local (typed_integer room op)
unfolding typed_integer
local_typed room op c n = loc_on (local_stored op c n) (λ z. loc_on (local_integer_type room op c n) (λ t. loc_give {y = integer_value z t}))

local_list : {value : Reads Attribute} (op : OpName) → Local value → Local (list_text value op)
unfolding list_text
local_list op one c n = loc_on (loc_after (local_until op kind.RightBracket one c n)) (λ vs. loc_give {y = list_value (in_order vs)})

local_attribute_with : {lists : Reads Attribute} (room : ℕ) (op : OpName) (head : AttributeHead) → Local lists → Local (λ s. attribute_with lists room op s head)
unfolding attribute_with
local_attribute_with room op (text_head text) one c n = loc_after (loc_give {y = text_value text})
local_attribute_with room op (symbol_head name) one c n = loc_after (loc_give {y = symbol_value name})
local_attribute_with room op (truth_head b) one c n = loc_after (loc_give {y = truth_value b})
local_attribute_with room op number_head one c n = local_typed room op c n
local_attribute_with room op list_head one c n = one c n
local_attribute_with room op alias_head one c n = loc_refused OutsideProfile op
local_attribute_with room op no_head one c n = loc_unexpected op

local_attribute : (room : ℕ) (op : OpName) → Local (attribute_text room op)
local_attribute zero op c n =
    loc_first (λ o _ s. attribute_with (too_deep op) zero op s (attribute_head o)) (λ o. local_attribute_with zero op (attribute_head o) (local_deep op) c n)
local_attribute (suc room) op c n =
    loc_first (λ o _ s. attribute_with (list_text (attribute_text room op) op) (suc room) op s (attribute_head o))
    (λ o. local_attribute_with (suc room) op (attribute_head o) (local_list op (local_attribute room op)) c n)

-- ---- dictionaries

abbrev KeyAt : OpName → List Name → TextToken → List StreamToken → List StreamToken → Read Name
KeyAt op keys t s left = cond (is_among (content_of t.kind t.text) keys) (Err (refusal_at Unexpected op s)) (Ok (content_of t.kind t.text, left))

key_taken : (op : OpName) (keys : List Name) (j : ℕ) (s : List StreamToken) → new_key op keys s ≡ Taken op is_name (KeyAt op keys) (first s) j s
unfolding new_key name_text
key_taken op keys j [] = refl
key_taken op keys j (token t ∷ ts) =
    on_cond (is_name t) (content_of t.kind t.text) ts (unexpected_refusal op (token t ∷ ts))
    (λ key left. cond (is_among key keys) (Err (refusal_at Unexpected op (token t ∷ ts))) (Ok (key, left)))
key_taken op keys j (bad p ∷ ts) = refl
key_taken op keys j (end p ∷ ts) = refl

local_key : (op : OpName) (keys : List Name) → Local (new_key op keys)
local_key op keys =
    local_taken op is_name (KeyAt op keys) (key_taken op keys) (λ t c n.
    loc_cond (is_among (content_of t.kind t.text) keys) (loc_refused Unexpected op) (loc_after (loc_give {y = content_of t.kind t.text})))

local_string : (op : OpName) → Local (string_value op)
unfolding string_value
local_string op c n = loc_on (local_want op kind.StringLiteral c n) (λ t. loc_give {y = text_value (content_of kind.StringLiteral t.text)})

local_value : (room : ℕ) (op : OpName) (strings : List Name) (key : Name) → Local (value_of_key room op strings key)
unfolding value_of_key
local_value room op strings key c n = loc_cond (is_among key strings) (local_string op c n) (local_attribute room op c n)

local_entry_value : (room : ℕ) (op : OpName) (strings : List Name) (key : Name) → Local (entry_value room op strings key)
unfolding entry_value
local_entry_value room op strings key c n =
    loc_next (λ t. is_kind t.kind kind.Equals) (loc_after (local_value room op strings key c n))
    (loc_cond (is_among key strings) (loc_unexpected op) (loc_give {y = unit_value}))

local_entry : (room : ℕ) (op : OpName) (strings keys : List Name) → Local (entry_text room op strings keys)
unfolding entry_text
local_entry room op strings keys c n =
    loc_on (local_key op keys c n) (λ key. loc_on (local_entry_value room op strings key c n) (λ v. loc_give {y = record { key = key; value = v }}))

loc_entries : (room : ℕ) (op : OpName) (strings keys : List Name) (n : ℕ) → Loc 0 n (entries room op strings keys)
unfolding entries
loc_entries room op strings keys zero = loc_zero
loc_entries room op strings keys (suc n) =
    loc_step (λ k s. refl) (loc_on (local_entry room op strings keys 1 n) (λ e.
    loc_less (λ t. is_kind t.kind kind.Comma) (loc_on (loc_entries room op strings (keys ++ e.key ∷ []) n) (λ es. loc_give {y = e ∷ es}))
    (loc_give {y = e ∷ []})))

pub local_dictionary : (op : OpName) (strings : List Name) → Local (dictionary_text op strings)
unfolding dictionary_text
local_dictionary op strings c n =
    loc_on (local_want op kind.LeftBrace c n) (λ _. loc_next (λ t. is_kind t.kind kind.RightBrace) (loc_after (loc_give {y = []}))
    (loc_on (local_all {R = entries 32 op strings []} (loc_entries 32 op strings []) c n) (λ es. loc_on (local_want op kind.RightBrace c n) (λ _. loc_give {y = es}))))

pub local_maybe : (op : OpName) (strings : List Name) → Local (maybe_dictionary op strings)
unfolding maybe_dictionary
local_maybe op strings c n =
    loc_next (λ t. is_kind t.kind kind.LeftBrace) (loc_on (local_dictionary op strings c n) (λ es. loc_give {y = Some es})) (loc_give {y = None})

-- ---- constants of aggregates

local_leaf : (room : ℕ) (op : OpName) → Local (number_leaf room op)
unfolding number_leaf
local_leaf room op c n =
    loc_on (local_integer op c n) (λ z. loc_on (local_want op kind.Colon c n) (λ _. loc_on (local_type room op c n) (λ t. loc_give {y = leaf z t})))

local_parts : {part : Reads Literal} (op : OpName) → Local part → Local (parts_text part op)
unfolding parts_text
local_parts op one c n =
    loc_on (local_want op kind.LeftBracket c n) (λ _. loc_on (local_until op kind.RightBracket one c n) (λ ls. loc_give {y = literals_in_order ls}))

local_list_part : {part : Reads Literal} (op : OpName) → Local part → Local (list_part part op)
unfolding list_part
local_list_part op one c n = loc_on (local_parts op one c n) (λ ls. loc_give {y = parts ls})

local_literal_with : {lists : Reads Literal} (room : ℕ) (op : OpName) (head : LiteralHead) → Local lists → Local (λ s. literal_with lists room op s head)
unfolding literal_with
local_literal_with room op (truth_literal b) one c n = loc_after (loc_give {y = truth_leaf b})
local_literal_with room op number_literal one c n = local_leaf room op c n
local_literal_with room op list_literal one c n = one c n
local_literal_with room op no_literal one c n = loc_unexpected op

local_literal : (room : ℕ) (op : OpName) → Local (literal_text room op)
local_literal zero op c n =
    loc_first (λ o _ s. literal_with (too_deep op) zero op s (literal_head o)) (λ o. local_literal_with zero op (literal_head o) (local_deep op) c n)
local_literal (suc room) op c n =
    loc_first (λ o _ s. literal_with (list_part (literal_text room op) op) (suc room) op s (literal_head o))
    (λ o. local_literal_with (suc room) op (literal_head o) (local_list_part op (local_literal room op)) c n)

pub local_aggregate : (op : OpName) → Local (aggregate_text op)
unfolding aggregate_text
local_aggregate op = local_parts op (local_literal 31 op)
