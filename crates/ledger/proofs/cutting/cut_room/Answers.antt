-- The generator's roles and credits are read and the cut is judged, and where no reason applies the ledger is cut and the totals are worked out anew.
use Rattle.std.proofs.lemmas.Result.{err_from_is_err_and}
use Rattle.sound.specs.Check.{book_from}
use Rattle.gate.specs.Rooms.{cut_step}
use Rattle.ledger.proofs.Doing.{refuses}
use Rattle.ledger.proofs.CutDone.{cut_judged, credits_are, cut_fits, cut_done}
use Rattle.ledger.proofs.cutting.cut_room.Goals as goal

pub of-standing-requires : goal.of-standing-requires
of-standing-requires c = record { ledger = c.args.ledger.now; ready = c.requires }

pub returns-in_err-judge_cut-clause-does : goal.returns-in_err-judge_cut-clause-does
returns-in_err-judge_cut-clause-does c =
    let b = book_from c.args.month.now c.args.accounts.now c.args.levels.now c.args.ledger.now in
    let p = err_from_is_err_and c.from_residual.result c.from_residual.ensures.1 in
    rw (p.1, p.2) (refuses b (cut_step c.args.x) _ (cut_judged b c.args.totals.now c.requires c.args.x c.of-standing.ensures c.credits_of-credits.ensures c.in_err-judge_cut.ensures) c.args.totals.now c.requires.1)

pub cut_to-requires : goal.cut_to-requires
cut_to-requires c =
    let b = book_from c.args.month.now c.args.accounts.now c.args.levels.now c.args.ledger.now in
    let at = c.of-standing.ensures in
    let e = c.credits_of-credits.ensures in
    cut_fits b c.args.totals.now c.requires c.args.x (cut_judged b c.args.totals.now c.requires c.args.x at e c.in_ok-judge_cut.ensures) (credits_are b c.args.totals.now c.requires c.args.x at e)

pub returns-clause-does : goal.returns-clause-does
returns-clause-does c =
    let b = book_from c.args.month.now c.args.accounts.now c.args.levels.now c.args.ledger.now in
    let at = c.of-standing.ensures in
    let e = c.credits_of-credits.ensures in
    cut_done b c.args.totals.now c.requires c.args.x (cut_judged b c.args.totals.now c.requires c.args.x at e c.in_ok-judge_cut.ensures) (credits_are b c.args.totals.now c.requires c.args.x at e)
    c.cut_to.ensures c.totals.ensures c.copy_from_slice.ensures.after
