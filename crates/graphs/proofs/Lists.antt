-- Lists that a part was taken of, and written back to.
use Rattle.std.proofs.Common.{◌≡◌, ℕ, List, [], ◌++◌, length, take, drop, arith}
use Rattle.std.proofs.lemmas.List.{append-nil, take_all, drop_all}

-- a list that a slice of it was written back to
pub written_back : {A : Type 0} (n : ℕ) (new old : List A) → n ≡ length old → length new ≡ length old → take n (new ++ drop (length new) old) ≡ new
written_back n new old size same =
    let none : drop (length new) old ≡ [] = drop_all (length new) old (omega arith) in
    rw (none, append-nil new) (take_all n new (omega arith))
