-- The roles of a participant, as the code reads them from the account at its place, are those of its account (`roles_at`), and who has some is a
-- participant (`roles_below`): past the last one both are none. Assumes nothing.
use mathlib.Core.Path.{◌≡◌, refl, sym, ap, ◌∙◌}
use mathlib.Core.Bool.{Bool, true, false, cond, false≢true}
use mathlib.Core.List.{List}
use Prim.Native.Nat.{ℕ, ◌<◌}
use native.Mathlib.Decide.{dec_lt}
use native.Mathlib.Omega.{arith}
use lib.Dec.{eqb, ltb}
use lib.ListN.{length, get_or, get_or-eq_default}
use borrow.Author.Tests.{lt-ltb, le-ltb, ltb-true}
use Rattle.book.specs.declared.Account.{Account}
use Rattle.book.specs.Book.{no_account, participants}
use Rattle.reasons.specs.Parts.{slot, roles_of}

pub roles_at : (accounts : List Account) → length accounts ≡ participants → (p : ℕ) {place roles : ℕ} → place ≡ slot p → roles ≡ roles_of p (get_or accounts place no_account)
    → roles ≡ (get_or accounts p no_account).roles
roles_at accounts long p e r = r ∙ ap (λ s. roles_of p (get_or accounts s no_account)) e ∙ by (dec_lt p participants)
  where
    by : Dec (p < participants) → roles_of p (get_or accounts (slot p) no_account) ≡ (get_or accounts p no_account).roles
    by (yes l) = rw (lt-ltb p participants l)
    by (no l) = rw (le-ltb p participants (omega arith), get_or-eq_default accounts no_account {n = p} (omega arith))

pub roles_below : (p : ℕ) (a : Account) → eqb (roles_of p a) 0 ≡ false → p < participants
roles_below p a = by (ltb p participants) refl
  where
    by : (t : Bool) → ltb p participants ≡ t → eqb (cond t a.roles 0) 0 ≡ false → p < participants
    by true e h = ltb-true p participants e
    by false e h = absurd (false≢true (sym h))
