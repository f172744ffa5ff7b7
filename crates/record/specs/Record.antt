-- What a record says, and the record of a step (01 "The step record", the table; "Reasons for refusal", reason 1). A list of bytes says
-- a step where it has 24 bytes, a known kind and zero in every field that the kind does not use. Anything else is refused.
-- Assumes nothing.
use Rattle.std.specs.Prelude.{Bool, true, false, List, ℕ, eqb, ℤ, pos, length, Option, Some, None}
use Rattle.record.specs.Form.{fields_of, layout}
use Rattle.record.specs.Kinds.{kind_of, unused_zero}
use Rattle.record.specs.declared.kind.Kind.{Kind}
use Rattle.record.specs.declared.kind.Kind.TheVariants.{Open, Window, Register, Requirement, Margin, Create, Terminate, Submit, Withdraw, Accept, AskReversal, AgreeReversal, GeneratorAmends, OperatorAmends}
use Rattle.units.specs.declared.Minutes.{Minutes}
use Rattle.record.specs.declared.form.Fields.{Fields}
use Rattle.record.specs.declared.Step.{Step}
use Rattle.record.specs.declared.Step.TheVariants as S

-- the step of each kind, from the fields that the kind uses and the minute
abbrev pub made : Kind → Fields → Step
made Open f = S.Open f.day (record { 0 = f.amount.0 }) f.minute
made Window f = S.Window f.selector (record { 0 = f.amount.0 }) f.minute
made Register f = S.Register f.a f.selector f.minute
made Requirement f = S.Requirement f.a f.quantity f.minute
made Margin f = S.Margin f.a (record { 0 = f.amount.0 }) f.minute
made Create f = S.Create f.a f.selector f.day f.quantity f.minute
made Terminate f = S.Terminate f.a f.selector f.day f.quantity f.minute
made Submit f = S.Submit f.a f.b f.quantity f.minute
made Withdraw f = S.Withdraw f.a f.number f.minute
made Accept f = S.Accept f.a f.number f.minute
made AskReversal f = S.AskReversal f.a f.number f.minute
made AgreeReversal f = S.AgreeReversal f.a f.number f.minute
made GeneratorAmends f = S.GeneratorAmends f.a f.number f.quantity f.minute
made OperatorAmends f = S.OperatorAmends f.a f.minute

-- what passed a test, and a refusal where it failed
unfoldable pub or_refused : Bool → Option Step → Option Step
or_refused true d = d
or_refused false d = None

-- what the fields say as a step of one kind: the step, if every field that the kind does not use is zero
abbrev pub said : Kind → Fields → Option Step
said k f = or_refused (unused_zero k f) (Some (made k f))

-- what the fields say, by what their kind's number stands for
unfoldable pub said_as : Option Kind → Fields → Option Step
said_as (Some k) f = said k f
said_as None f = None

-- what a list of bytes says
unfoldable pub decode_of : List ℕ → Option Step
decode_of s = or_refused (eqb (length s) 24) (said_as (kind_of (fields_of s).kind) (fields_of s))

-- the fields of a step, by the columns below
abbrev pub row : ℕ → ℕ → ℕ → ℕ → ℕ → ℕ → ℕ → ℤ → Minutes → Fields
row kind' a' b' selector' number' day' quantity' amount' minute' = record {
  kind = kind';
  a = a';
  b = b';
  selector = selector';
  minute = minute';
  number = number';
  day = day';
  eleven = 0;
  quantity = record { 0 = quantity' };
  amount = record { 0 = amount' };
}

-- kind, A, B, selector, allocation number, day, quantity, amount, minute
abbrev pub written : Step → Fields
written (S.Open days price at) = row 1 0 0 0 0 days 0 price.0 at
written (S.Window selector end at) = row 2 0 0 selector 0 0 0 end.0 at
written (S.Register participant roles at) = row 3 participant 0 roles 0 0 0 (pos 0) at
written (S.Requirement customer quantity at) = row 4 customer 0 0 0 0 quantity.0 (pos 0) at
written (S.Margin participant figure at) = row 5 participant 0 0 0 0 0 figure.0 at
written (S.Create participant kind day quantity at) = row 6 participant 0 kind 0 day quantity.0 (pos 0) at
written (S.Terminate participant kind day quantity at) = row 7 participant 0 kind 0 day quantity.0 (pos 0) at
written (S.Submit generator customer quantity at) = row 8 generator customer 0 0 0 quantity.0 (pos 0) at
written (S.Withdraw generator number at) = row 9 generator 0 0 number 0 0 (pos 0) at
written (S.Accept customer number at) = row 10 customer 0 0 number 0 0 (pos 0) at
written (S.AskReversal generator number at) = row 11 generator 0 0 number 0 0 (pos 0) at
written (S.AgreeReversal customer number at) = row 12 customer 0 0 number 0 0 (pos 0) at
written (S.GeneratorAmends generator number quantity at) = row 13 generator 0 0 number 0 quantity.0 (pos 0) at
written (S.OperatorAmends generator at) = row 14 generator 0 0 0 0 0 (pos 0) at

-- the 24 bytes of a step
unfoldable pub bytes_of : Step → List ℕ
bytes_of s = layout (written s)
