-- `records` meets its contract: as many records as there are, at most 256, stand over as many empty ones. Assumes nothing.
use Rattle.std.proofs.Common.{◌≡◌, ◌++◌, ◌-◌, ℕ, min, List, length, take, replicate, arith}
use Rattle.std.proofs.lemmas.List.{take_min, drop-replicate}
use Rattle.book.specs.Book.{no_allocation}
use Rattle.sound.proofs.lent.records.Goals as goal

-- of n elements at most k
as_many : {A : Type 0} (k : ℕ) (xs : List A) (d : A) → take (min (length xs) k) xs ++ replicate (k - min (length xs) k) d ≡ take k xs ++ replicate (k - length xs) d
as_many k xs d =
    let turned : min (length xs) k ≡ min k (length xs) = omega arith in
    let left : k - min k (length xs) ≡ k - length xs = omega arith in
    rw (turned, take_min k xs, left)

pub returns : goal.returns
returns c =
    rw (c.copy_from_slice.ensures.after, c.fresh_ledger-first.ensures, drop-replicate c.min-n.result 256 no_allocation, c.min-n.ensures)
    (as_many 256 c.args.ledger.now no_allocation)
