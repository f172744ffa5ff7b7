-- The fields of a record and the bytes that hold them (01 "The step record", its first sentence): 24 bytes, big-endian, the minute and
-- the amount in two's complement. `fields_of` reads them, `layout` writes them. Assumes nothing.
use Rattle.std.specs.Prelude.{List, ◌∷◌, ◌++◌, ℕ}
use Rattle.std.specs.Int.{w32, w64}
use Rattle.std.proofs.Common.{to_z, of_z}
use Rattle.record.specs.Bytes.{byte, part, number_of, bytes}
use Rattle.record.specs.declared.form.Fields.{Fields}

-- byte 0 step kind, 1 participant A, 2 participant B, 3 selector, 4-7 minute, 8-9 allocation number, 10 day, 11 zero, 12-15 quantity, 16-23 amount
abbrev pub fields_of : List ℕ → Fields
fields_of s = record {
  kind = byte s 0;
  a = byte s 1;
  b = byte s 2;
  selector = byte s 3;
  minute = record { 0 = to_z w32 (number_of (part s 4 4)) };
  number = number_of (part s 8 2);
  day = byte s 10;
  eleven = byte s 11;
  quantity = record { 0 = number_of (part s 12 4) };
  amount = record { 0 = to_z w64 (number_of (part s 16 8)) };
}

-- the 24 bytes of the fields
abbrev pub layout : Fields → List ℕ
layout f =
    f.kind ∷ f.a ∷ f.b ∷ f.selector ∷
    (bytes 4 (of_z w32 f.minute.0) ++
    (bytes 2 f.number ++
    (f.day ∷ f.eleven ∷
    (bytes 4 f.quantity.0 ++
    bytes 8 (of_z w64 f.amount.0)))))
