-- What the code asks of a part of a book: of roles, of a participant's account, and of an allocation record. Assumes nothing.
use Rattle.std.specs.Prelude.{Bool, cond, ◌||◌, ℕ, eqb, ltb}
use Rattle.book.specs.declared.Account.{Account}
use Rattle.book.specs.declared.Allocation.{Allocation}
use Rattle.book.specs.Book.{participants, GENERATOR, CUSTOMER, BOTH}
use Rattle.book.specs.Words.{is_pending, is_accepted}

abbrev pub generates : ℕ → Bool
generates roles = eqb roles GENERATOR || eqb roles BOTH

abbrev pub consumes : ℕ → Bool
consumes roles = eqb roles CUSTOMER || eqb roles BOTH

-- the place of a participant's account; of one past the last, the first place
abbrev pub slot : ℕ → ℕ
slot p = cond (ltb p participants) p 0

-- the roles of a participant, from the account at its place; past the last participant there are none
abbrev pub roles_of : ℕ → Account → ℕ
roles_of p a = cond (ltb p participants) a.roles 0

-- what a record adds to its generator's pending quantity
abbrev pub pends : Allocation → ℕ
pends l = cond (is_pending l.status) l.quantity.0 0

-- and to its parties' accepted quantities
abbrev pub counts : Allocation → ℕ
counts l = cond (is_accepted l.status) l.quantity.0 0
