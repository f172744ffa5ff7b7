-- Which lists of bytes say a step, and which say none (01 "Reasons for refusal", reason 1: "record not 24 bytes, kind unknown, unused
-- field not zero"). Byte 11 is a field that no kind uses. Assumes nothing.
use Rattle.std.specs.Prelude.{◌≡◌, true, false, List, ℕ, length, Some, None}
use Rattle.record.specs.Form.{fields_of}
use Rattle.record.specs.Kinds.{Field, kind_of, member, uses, value_of, unused_zero}
use Rattle.record.specs.Record.{made}
use Rattle.record.specs.declared.kind.Kind.{Kind}
use Rattle.record.specs.declared.Step.{Step}

-- the bytes say the step s: there are 24, of a known kind, zero in every field that it does not use, and s is what the kind makes of them
pub record Says (bs : List ℕ) (s : Step) : Type 0 where
  pub long : length bs ≡ 24
  pub kind : Kind
  pub is_kind : kind_of (fields_of bs).kind ≡ Some kind
  pub zero_unused : unused_zero kind (fields_of bs) ≡ true
  pub is_made : s ≡ made kind (fields_of bs)

-- the bytes say no step: one of these is wrong
pub data Malformed (bs : List ℕ) : Type 0 where
  wrong_length : (length bs ≡ 24 → ⊥) → Malformed bs
  kind_unknown : kind_of (fields_of bs).kind ≡ None → Malformed bs
  not_zero : (k : Kind) (x : Field) → kind_of (fields_of bs).kind ≡ Some k → member x (uses k) ≡ false → (value_of (fields_of bs) x ≡ 0 → ⊥) → Malformed bs
