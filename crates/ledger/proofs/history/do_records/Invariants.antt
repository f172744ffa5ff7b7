-- The run stands where i records are done (`Running`).
use Rattle.sound.specs.Check.{book_from}
use Rattle.ledger.proofs.Running.{Stands}
use Rattle.ledger.proofs.history.do_records.Given as goal

abbrev pub invariant-loop-i : goal.invariant-loop-i
invariant-loop-i l = Stands (book_from l.fn.month l.fn.accounts l.fn.levels l.fn.ledger) l.history l.fn.answers l.i l.month l.accounts l.levels l.ledger l.totals l.answers
