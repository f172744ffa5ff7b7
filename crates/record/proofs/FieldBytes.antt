-- The fields of a record and its 24 bytes go into each other, field by field, by the laws of numbers in bytes and of two's complement.
-- Assumes nothing.
use mathlib.Core.Path.{◌≡◌, ap, ◌∙◌}
use mathlib.Core.List.{List, ◌∷◌, ◌++◌}
use Prim.Native.Nat.{ℕ}
use lib.ListN.{length, get_or}
use mir.Syntax.{w32, w64}
use mir.Val.{Fits, to_z, of_z}
use mir.ValLaws.{to_z-of_z, of_z-to_z, to_z-Fits}
use Rattle.record.specs.Bytes.{part, number_of, bytes, AreBytes}
use Rattle.record.specs.Form.{fields_of, layout}
use Rattle.record.specs.Ranged.{Room}
use Rattle.record.specs.declared.form.Fields.{Fields}
use Rattle.record.proofs.Digits.{written_reads, number_low, read_writes, whole}

-- fields that are written are read again
pub layout_reads : (f : Fields) → Room f → fields_of (layout f) ≡ f
layout_reads f h = λ i. record {
  kind = f.kind;
  a = f.a;
  b = f.b;
  selector = f.selector;
  minute = record { 0 = (ap (to_z w32) (written_reads 3 (of_z w32 f.minute.0)) ∙ to_z-of_z w32 f.minute.0 h.minute_fits) i };
  number = written_reads 1 f.number i;
  day = f.day;
  eleven = f.eleven;
  quantity = record { 0 = written_reads 3 f.quantity.0 i };
  amount = record { 0 = (ap (to_z w64) (written_reads 7 (of_z w64 f.amount.0)) ∙ to_z-of_z w64 f.amount.0 h.amount_fits) i };
}

module _ (s : List ℕ) (are-bytes : AreBytes s) where
  -- the bits of the minute and of the amount
  minute_low : Fits w32 (number_of (part s 4 4))
  minute_low = record { fits = number_low s are-bytes 4 4 }

  amount_low : Fits w64 (number_of (part s 16 8))
  amount_low = record { fits = number_low s are-bytes 16 8 }

  -- what is read fits
  pub read_room : Room (fields_of s)
  read_room = record {
    kind_fits = are-bytes 0;
    a_fits = are-bytes 1;
    b_fits = are-bytes 2;
    selector_fits = are-bytes 3;
    minute_fits = to_z-Fits w32 (number_of (part s 4 4)) minute_low;
    number_fits = number_low s are-bytes 8 2;
    day_fits = are-bytes 10;
    eleven_fits = are-bytes 11;
    quantity_fits = number_low s are-bytes 12 4;
    amount_fits = to_z-Fits w64 (number_of (part s 16 8)) amount_low;
  }

  -- 24 bytes that are read are written again
  pub reads_layout : length s ≡ 24 → layout (fields_of s) ≡ s
  reads_layout e =
      (λ i.
      get_or s 0 0 ∷ get_or s 1 0 ∷ get_or s 2 0 ∷ get_or s 3 0 ∷
      ((ap (bytes 4) (of_z-to_z w32 (number_of (part s 4 4)) minute_low) ∙ read_writes s are-bytes 4 4) i ++
      (read_writes s are-bytes 8 2 i ++
      (get_or s 10 0 ∷ get_or s 11 0 ∷
      (read_writes s are-bytes 12 4 i ++
      (ap (bytes 8) (of_z-to_z w64 (number_of (part s 16 8)) amount_low) ∙ read_writes s are-bytes 16 8) i)))))
      ∙ whole s 24 e
