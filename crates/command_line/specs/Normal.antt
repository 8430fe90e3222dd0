-- How words are made regular before they are read (circt-opt takes long options with one dash or with two).
use Rattle.std.specs.Prelude.{ℕ, suc, ◌==◌, ◌&&◌, ◌||◌, Bool, true, false, cond, List, [], ◌∷◌, ◌++◌, is_some, Option, Some, None, codes, nat_lt, nat_eq, ◌/◌}
use Rattle.std.specs.Str.{bytes_eq}
use Rattle.std.specs.List.{starts_with, cons_option}
use Rattle.pass_pipeline.specs.Passes.{pass_name, pass_named}
use Rattle.pass_pipeline.specs.declared.pass.Pass.{Pass}

-- a byte that continues a character (RFC 3629, 3)
abbrev pub continues : ℕ → Bool
continues b = b / 64 == 2

-- how many characters stand before the first `=`
abbrev pub characters : List ℕ → ℕ
characters [] = 0
characters (b ∷ bytes) = cond (b == 61) 0 (cond (continues b) (characters bytes) (suc (characters bytes)))

-- the text after one dash asks for a second one: it begins with no dash, and has two characters or more before a `=`
abbrev pub wants_dash : List ℕ → Bool
wants_dash [] = false
wants_dash (b ∷ rest) = cond (b == 45) false (nat_lt 1 (characters (b ∷ rest)))

-- a word with its second dash, where it wants one
abbrev pub with_second_dash : List ℕ → List ℕ
with_second_dash [] = []
with_second_dash (b ∷ rest) = cond (b == 45 && wants_dash rest) (45 ∷ b ∷ rest) (b ∷ rest)

-- the word that ends the options
abbrev pub is_end : List ℕ → Bool
is_end word = bytes_eq word (codes "--")

-- a word begins with this prefix
abbrev pub begins : List ℕ → List ℕ → Bool
begins prefix word = starts_with nat_eq word prefix

-- the word that is kept for the program itself
abbrev pub is_reserved : List ℕ → Bool
is_reserved word = bytes_eq word (codes "--passes") || begins (codes "--passes=") word

-- the words with their second dashes; those after `--` stay as they are
abbrev pub all_dashed : List (List ℕ) → List (List ℕ)
all_dashed [] = []
all_dashed (word ∷ words) = cond (is_end (with_second_dash word)) (with_second_dash word ∷ words) (with_second_dash word ∷ all_dashed words)

-- whether a word before `--` is kept for the program itself
abbrev pub has_reserved : List (List ℕ) → Bool
has_reserved [] = false
has_reserved (word ∷ words) = cond (is_end word) false (is_reserved word || has_reserved words)

-- ---- passes that are given by flags (circt-opt: `--cse`)

-- the pass of which a word is the flag: `--` and its name
abbrev pub flag_of : List Pass → List ℕ → Option Pass
flag_of offered [] = None
flag_of offered (a ∷ []) = None
flag_of offered (a ∷ b ∷ name) = cond (a == 45 && b == 45) (pass_named offered name) None

-- the passes of flags, in order; words after `--` are none
abbrev pub flags : List Pass → List (List ℕ) → List Pass
flags offered [] = []
flags offered (word ∷ words) = cond (is_end word) [] (cons_option (flag_of offered word) (flags offered words))

-- the words that are no flags of passes
abbrev pub without_flags : List Pass → List (List ℕ) → List (List ℕ)
without_flags offered [] = []
without_flags offered (word ∷ words) =
    cond (is_end word) (word ∷ words) (cond (is_some (flag_of offered word)) (without_flags offered words) (word ∷ without_flags offered words))

-- a comma and a name, as often as wanted
abbrev pub more_names : List Pass → List ℕ
more_names [] = []
more_names (p ∷ ps) = codes "," ++ (pass_name p ++ more_names ps)

-- the word that has these passes; the one word, where there are any
abbrev pub passes_word : Pass → List Pass → List ℕ
passes_word first more = codes "--passes=" ++ (pass_name first ++ more_names more)

abbrev pub passes_words : List Pass → List (List ℕ)
passes_words [] = []
passes_words (first ∷ more) = passes_word first more ∷ []

-- after the first word the passes of flags, as one word
abbrev pub with_passes_word : List ℕ → List Pass → List (List ℕ) → List (List ℕ)
with_passes_word first ps words = first ∷ passes_words ps ++ words

-- a command that takes passes
abbrev pub takes_passes : List ℕ → Bool
takes_passes name = bytes_eq name (codes "opt") || bytes_eq name (codes "translate")

-- the words with the passes of flags as one
abbrev pub with_passes : List Pass → List (List ℕ) → List (List ℕ)
with_passes offered [] = []
with_passes offered (first ∷ words) = cond (takes_passes first) (with_passes_word first (flags offered words) (without_flags offered words)) (first ∷ words)

abbrev pub unless : Bool → List (List ℕ) → Option (List (List ℕ))
unless true words = None
unless false words = Some words

-- the words made regular, where these passes are on offer; none where a word is kept for the program itself
unfoldable pub normal : List Pass → List (List ℕ) → Option (List (List ℕ))
normal offered words = unless (has_reserved (all_dashed words)) (with_passes offered (all_dashed words))
