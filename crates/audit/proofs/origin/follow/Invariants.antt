-- The pieces that came are the first records, in their number, and are followed; the place is that of the last of them. Assumes nothing.
use Rattle.std.proofs.Common.{◌≡◌, ◌+◌, ◌-◌, ◌*◌, ◌^◌, ◌≤◌, min, length, drop}
use Rattle.std.specs.Slice.Iter.{chunks_rest, chunks_size}
use Rattle.book.specs.Run.{records_of}
use Rattle.ledger.specs.Running.{records_in}
use Rattle.audit.specs.Following.{book_held, FollowsTo}
use Rattle.audit.proofs.origin.follow.Given as goal

abbrev pub invariant-loop-bytes : goal.invariant-loop-bytes
invariant-loop-bytes l = record {
  size : chunks_size l.bytes-iterator ≡ 24;
  left : chunks_rest l.bytes-iterator ≡ drop (length l.yielded * 24) l.history;
  few : length l.yielded ≤ records_in l.history;
  place_is : l.place ≡ min (l.done + length l.yielded) (2 ^ 64 - 1);
  so_far : FollowsTo (book_held l.fn.followed.book l.fn.levels) (records_of l.history) (length l.yielded) l.done l.fn.followed.puts l.followed l.levels;
}
