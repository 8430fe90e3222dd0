-- Cells that are linked in chains, each with a head.
use Rattle.std.specs.Prelude.{◌≡◌, ℕ, zero, suc, ◌<◌, ◌≤◌, ◌^◌, Bool, true, false, cond, nat_eq, List, [], ◌∷◌, Option, Some, None, length, map, slice_index_or}
use Rattle.linked_lists.specs.declared.links.Link.{Link}
use Rattle.linked_lists.specs.Ids.{times}
use Rattle.linked_lists.specs.Links.{none, next_at, first_of, IsLinked}

-- whether a cell has a head, where the one is told that it has, if it has any
abbrev pub has_head : Option ℕ → ℕ → Bool
has_head None s = false
has_head (Some t) s = nat_eq t s

-- once where a test holds, and else never
abbrev pub once_if : Bool → ℕ
once_if true = 1
once_if false = 0

-- each chain is linked, begins at its head, and holds just the cells that have the head, each once
pub record AreChains (links : List Link) (heads : List ℕ) (chain : ℕ → List ℕ) (head : ℕ → Option ℕ) : Type 0 where
  pub few : length links < 2 ^ 32
  pub linked : (s : ℕ) → IsLinked links none (chain s) none
  pub first : (s : ℕ) → slice_index_or heads s none ≡ first_of (chain s) none
  pub members : (s v : ℕ) → times v (chain s) ≡ once_if (has_head (head v) s)
  pub below : (v : ℕ) → length links ≤ v → head v ≡ None

-- a chain with another cell before the others
abbrev pub with_prefix : ℕ → ℕ → (ℕ → List ℕ) → ℕ → List ℕ
with_prefix s cell chain t = cond (nat_eq s t) (cell ∷ chain t) (chain t)

-- the cells without the first that is the named one
abbrev pub cut : ℕ → List ℕ → List ℕ
cut cell [] = []
cut cell (x ∷ xs) = cond (nat_eq x cell) xs (x ∷ cut cell xs)

-- a chain without a cell
abbrev pub without : ℕ → ℕ → (ℕ → List ℕ) → ℕ → List ℕ
without s cell chain t = cond (nat_eq s t) (cut cell (chain t)) (chain t)

-- the heads of cells, where one cell has another, or none
abbrev pub with_head : ℕ → Option ℕ → (ℕ → Option ℕ) → ℕ → Option ℕ
with_head cell s head v = cond (nat_eq cell v) s (head v)

-- the cells from one on along the links, so many at most
unfoldable pub walk_on : List Link → ℕ → ℕ → List ℕ
walk_on links zero cell = []
walk_on links (suc n) cell = cond (nat_eq cell none) [] (cell ∷ walk_on links n (next_at links cell))

-- the cells of the chain of a head
abbrev pub chain_in : List Link → List ℕ → ℕ → List ℕ
chain_in links heads s = walk_on links (length links) (slice_index_or heads s none)

-- what is seen of chains: the cells of each head in order, how many cells were put in yet, and for how many there is room
pub record ChainTable : Type 0 where
  pub chains : List (List ℕ)
  pub cells : ℕ
  pub room : ℕ

-- the cells of each head
abbrev pub chains_in : List Link → List ℕ → List (List ℕ)
chains_in links heads = map (walk_on links (length links)) heads

-- each cell has a head or none, and the chains are those of the heads
pub record HasChains (links : List Link) (heads : List ℕ) : Type 0 where
  pub head : ℕ → Option ℕ
  pub ok : AreChains links heads (chain_in links heads) head

-- a cell is in no chain
abbrev pub IsAlone : ℕ → List (List ℕ) → Type 0
IsAlone cell chains = (s : ℕ) → times cell (slice_index_or chains s []) ≡ 0

-- a cell, where it is one
abbrev pub cell_or_none : List ℕ → Option ℕ
cell_or_none [] = None
cell_or_none (x ∷ xs) = Some x

-- the cell of a number, unless that stands for no cell
abbrev pub cell_unless_none : ℕ → Option ℕ
cell_unless_none c = cond (nat_eq c none) None (Some c)

-- how often a cell, where there is one, stands among cells; once where there is none
abbrev pub times_at : Option ℕ → List ℕ → ℕ
times_at None cells = 1
times_at (Some c) cells = times c cells
