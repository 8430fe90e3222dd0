-- Ids that are linked in a doubly linked list.
use Rattle.std.specs.Prelude.{◌≡◌, ℕ, zero, suc, ◌<◌, ◌≤◌, ◌^◌, Bool, false, true, List, [], ◌∷◌, ◌++◌, length, slice_index_or, slice_set, refl}
use Rattle.std.specs.Coded.{Coded, coded_ℕ, coded_bool, coded×, code_by, Coded-set, ×_prop, Unit-prop}
use Rattle.linked_lists.specs.declared.links.Link.{Link}
use Rattle.linked_lists.specs.Ids.{times, put_at}

-- what stands for no id
abbrev pub none : ℕ
none = 4294967295

-- the link of a number that is no id
abbrev pub no_link : Link
no_link = record { prev = none; next = none; live = false }

-- the link of an id between two others
abbrev pub new_link : ℕ → ℕ → Link
new_link prev next = record { prev = prev; next = next; live = true }

-- the link of a free id, which has the next free one
abbrev pub free_link : ℕ → Link
free_link next = record { prev = none; next = next; live = false }

-- the link of an id
abbrev pub link_at : List Link → ℕ → Link
link_at links id = slice_index_or links id no_link

abbrev pub next_at : List Link → ℕ → ℕ
next_at links id = (link_at links id).next

abbrev pub prev_at : List Link → ℕ → ℕ
prev_at links id = (link_at links id).prev

abbrev pub is_live_at : List Link → ℕ → Bool
is_live_at links id = (link_at links id).live

-- so many ids from one on, along the links
abbrev pub walk : List Link → ℕ → ℕ → List ℕ
walk links zero id = []
walk links (suc n) id = id ∷ walk links n (next_at links id)

-- the first of some ids, or another one where there are none
abbrev pub first_of : List ℕ → ℕ → ℕ
first_of [] z = z
first_of (x ∷ xs) z = x

-- the last of some ids, or another one where there are none
abbrev pub last_of : ℕ → List ℕ → ℕ
last_of a [] = a
last_of a (x ∷ xs) = last_of x xs

-- the ids are linked in this order, after `a` and before `z`
abbrev pub IsLinked : List Link → ℕ → List ℕ → ℕ → Type 0
IsLinked links a [] z = Unit {0}
IsLinked links a (x ∷ xs) z = (link_at links x ≡ new_link a (first_of xs z)) × IsLinked links x xs z

-- a link is stored as its parts
abbrev pub link_code : Coded Link
link_code = code_by (ℕ × (ℕ × Bool)) (coded× coded_ℕ (coded× coded_ℕ coded_bool)) (λ l. (l.prev, (l.next, l.live))) (λ p. record { prev = p.0; next = p.1.0; live = p.1.1 }) (λ _. refl)

-- there is at most one proof of it
pub IsLinked-prop : (links : List Link) (a : ℕ) (xs : List ℕ) (z : ℕ) → IsProp (IsLinked links a xs z)
IsLinked-prop links a [] z = Unit-prop
IsLinked-prop links a (x ∷ xs) z = ×_prop (Coded-set link_code (link_at links x) (new_link a (first_of xs z))) (IsLinked-prop links x xs z)

-- the links where another id comes after one, if that is an id
abbrev pub with_next : ℕ → ℕ → List Link → List Link
with_next id next [] = []
with_next zero next (l ∷ links) = record l { next = next } ∷ links
with_next (suc id) next (l ∷ links) = l ∷ with_next id next links

-- the links where another id comes before one, if that is an id
abbrev pub with_prev : ℕ → ℕ → List Link → List Link
with_prev id prev [] = []
with_prev zero prev (l ∷ links) = record l { prev = prev } ∷ links
with_prev (suc id) prev (l ∷ links) = l ∷ with_prev id prev links

-- the links where an id is put in between two neighbours
abbrev pub linked_in : ℕ → ℕ → ℕ → List Link → List Link
linked_in id prev next links = with_prev next id (with_next prev id (put_at id (new_link prev next) links))

-- the links where two ids become neighbours, and the one between them is free
abbrev pub linked_out : ℕ → ℕ → ℕ → ℕ → List Link → List Link
linked_out id prev next free links = slice_set (with_prev next prev (with_next prev next links)) id (free_link free)

-- the links have these live ids in this order, and these free ones
pub record IsOrder (links : List Link) (live free : List ℕ) (last : ℕ) : Type 0 where
  pub few : length links < 2 ^ 32
  pub linked : IsLinked links none live none
  pub end : last ≡ last_of none live
  pub once : (v : ℕ) → times v (live ++ free) ≤ 1
  pub below : (v : ℕ) → length links ≤ v → times v (live ++ free) ≡ 0
  pub marks : (v : ℕ) → times v live ≡ 0 → is_live_at links v ≡ false
