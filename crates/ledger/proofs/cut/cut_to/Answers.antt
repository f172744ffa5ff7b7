-- Sharing the credits over the weights is never refused (`CutTo`), so that each record gets its share.
use Rattle.std.proofs.Common.{◌∙◌, ap, arith}
use Rattle.book.specs.Cut.{recut, cut}
use Rattle.ledger.proofs.CutTo.{shared_in, shares_long, share_low}
use Rattle.ledger.proofs.cut.cut_to.Goals as goal

pub recut_by-requires : goal.recut_by-requires
recut_by-requires c =
    let f = c.requires.1 in
    rw (shared_in f c.requires.0 (omega arith) _ _ c.weigh.ensures c.share.ensures.1) (shares_long f, λ i _. share_low f i)

pub returns : goal.returns
unfolding cut
returns c = c.recut_by.ensures ∙ ap (recut c.args.generator c.args.ledger.now) (shared_in c.requires.1 c.requires.0 (omega arith) _ _ c.weigh.ensures c.share.ensures.1)
