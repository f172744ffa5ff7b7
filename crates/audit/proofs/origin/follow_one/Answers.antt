-- A run over the record alone is that record (`OneRecord`): a done step puts what it puts, and a refused record and one that says no step leave what stood
-- there. Assumes nothing.
use Rattle.std.proofs.Common.{refl, sym, ◌∙◌, Some, None, arith, rules}
use Rattle.record.specs.Record.{decode_of}
use Rattle.audit.proofs.OneRecord.{follows_one, refused, no_step, step_done}
use Rattle.audit.proofs.origin.follow_one.Goals as goal

pub returns-in-Some : goal.returns-in-Some
returns-in-Some c =
    follows_one c.requires.0 c.requires.1 refl c.run_whole.ensures _ _ _ (Some c.in-Some.step) refl (sym c.in-Some.is ∙ c.decode.ensures)
    (step_done _ _ _ _ _ c.in-Some.step _ (omega arith) c.put_all.ensures)

pub returns-in_default : goal.returns-in_default
returns-in_default c =
    follows_one c.requires.0 c.requires.1 refl c.run_whole.ensures _ _ _ None refl (sym c.in_default.is ∙ c.decode.ensures) (no_step _ _ _ _ _ (search rules))

pub returns-else-done : goal.returns-else-done
returns-else-done c =
    follows_one c.requires.0 c.requires.1 refl c.run_whole.ensures _ _ _ (decode_of c.args.bytes.now) refl refl
    (refused _ _ _ _ _ _ (λ z. omega arith) (search rules))
