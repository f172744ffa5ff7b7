-- What the fields of a record have room for (01 "The step record", the bytes of each field), and so what a step must fit to be written:
-- every step that the code holds does, by its types. Assumes nothing.
use Rattle.std.specs.Prelude.{◌^◌, ◌<◌}
use Rattle.std.specs.Int.{w32, w64}
use Rattle.std.proofs.Common.{SFits}
use Rattle.record.specs.Record.{written}
use Rattle.record.specs.declared.form.Fields.{Fields}
use Rattle.record.specs.declared.Step.{Step}

-- each field fits its bytes
pub record Room (f : Fields) : Type 0 where
  pub kind_fits : f.kind < 256
  pub a_fits : f.a < 256
  pub b_fits : f.b < 256
  pub selector_fits : f.selector < 256
  pub minute_fits : SFits w32 f.minute.0
  pub number_fits : f.number < 65536
  pub day_fits : f.day < 256
  pub eleven_fits : f.eleven < 256
  pub quantity_fits : f.quantity.0 < 2 ^ 32
  pub amount_fits : SFits w64 f.amount.0

-- the step's fields fit
abbrev pub Ranged : Step → Type 0
Ranged s = Room (written s)
