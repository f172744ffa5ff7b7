-- The first i allocations have what the step leaves there, and the others what stood there. Assumes nothing.
use Rattle.std.proofs.Common.{◌≡◌, ℕ, suc, cond, ◌≤◌, ◌<◌, length, get_or, Some, None}
use Rattle.book.specs.Book.{no_allocation}
use Rattle.audit.specs.Following.{put_of}
use Rattle.audit.specs.Putting.{puts_by}
use Rattle.audit.proofs.origin.put_all.Given as goal

abbrev pub invariant-loop-i : goal.invariant-loop-i
invariant-loop-i l = record {
  long : length l.puts ≡ 256;
  so_far : (k : ℕ) → k < l.i → get_or l.puts k None ≡ cond (puts_by l.step l.given (suc k) (get_or l.ledger k no_allocation)) (Some (put_of l.step l.place)) (get_or l.fn.puts k None);
  left : (k : ℕ) → l.i ≤ k → get_or l.puts k None ≡ get_or l.fn.puts k None;
}
