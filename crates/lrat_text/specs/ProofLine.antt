-- The lines of proofs in the LRAT format (Cruz-Filipe, Heule, Hunt, Kaufmann and Schneider-Kamp, 2017).
use Rattle.std.specs.Prelude.{ℕ, Bool, cond, map, List, [], ◌∷◌, Option, Some, None}
use Rattle.std.specs.List.{list_all}
use Rattle.resolution_proof.specs.declared.literal.Literal.{Literal}
use Rattle.lrat_text.specs.declared.word.Word.{Word}
use Rattle.lrat_text.specs.declared.word.Word.TheVariants.{End, Signed, Delete, Other}
use Rattle.text_lines.specs.Lines.{lines}
use Rattle.lrat_text.specs.Words.{line_words}

-- a line: without words; a clause with its number and its hints; a deletion of clauses by their numbers; or none of these
pub data Line : Type 0 where
  skips : Line
  adds : ℕ → List Literal → List Literal → Line
  deletes : List Literal → Line
  bad : Line

-- the number is put before the list that follows
abbrev pub and_more : Literal → Option (List Literal × List Word) → Option (List Literal × List Word)
and_more l None = None
and_more l (Some m) = Some (l ∷ m.0, m.1)

-- what a word is to a list of numbers: its end, one more number, or no part of it
abbrev pub in_list : Word → List Word → Option (List Literal × List Word) → Option (List Literal × List Word)
in_list End ws more = Some ([], ws)
in_list (Signed l) ws more = and_more l more
in_list Delete ws more = None
in_list Other ws more = None

-- the numbers up to the first 0, and the words behind it
abbrev pub until_end : List Word → Option (List Literal × List Word)
until_end [] = None
until_end (w ∷ ws) = in_list w ws (until_end ws)

-- numbers that end the line
abbrev pub alone : Option (List Literal × List Word) → Option (List Literal)
alone None = None
alone (Some (ns, [])) = Some ns
alone (Some (ns, w ∷ ws)) = None

-- a clause with its hints, if both are there
abbrev pub with_hints : ℕ → List Literal → Option (List Literal) → Line
with_hints id c None = bad
with_hints id c (Some hs) = adds id c hs

-- a clause, and behind it the hints
abbrev pub addition : ℕ → Option (List Literal × List Word) → Line
addition id None = bad
addition id (Some m) = with_hints id m.0 (alone (until_end m.1))

-- numbers without a minus sign name clauses
abbrev pub are_positive : List Literal → Bool
are_positive ns = list_all (λ n. n.positive) ns

-- a deletion of these
abbrev pub deletion : Option (List Literal) → Line
deletion None = bad
deletion (Some ns) = cond (are_positive ns) (deletes ns) bad

-- what follows the line's own number
abbrev pub after_id : ℕ → List Word → Line
after_id id [] = bad
after_id id (Delete ∷ ws) = deletion (alone (until_end ws))
after_id id (End ∷ ws) = addition id (until_end (End ∷ ws))
after_id id (Signed l ∷ ws) = addition id (until_end (Signed l ∷ ws))
after_id id (Other ∷ ws) = bad

-- what follows the first word
abbrev pub after_first : Word → List Word → Line
after_first End ws = after_id 0 ws
after_first (Signed l) ws = cond l.positive (after_id l.variable ws) bad
after_first Delete ws = bad
after_first Other ws = bad

-- what the words of a line write: `ID LITERALS 0 HINTS 0` or `ID d IDS 0`
unfoldable pub line_of : List Word → Line
line_of [] = skips
line_of (w ∷ ws) = after_first w ws

-- the lines of a proof
abbrev pub proof_lines : List ℕ → List Line
proof_lines bytes = map (λ l. line_of (line_words l)) (lines bytes)
