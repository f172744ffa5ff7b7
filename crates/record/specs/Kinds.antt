-- The fourteen kinds of step and the fields that each uses (01 "The step record", the table's first two columns): "Every kind uses the
-- minute; other fields a kind does not use are zero". Assumes nothing.
use Rattle.std.specs.Prelude.{Bool, ◌||◌, List, [], ◌∷◌, ℕ, zero, suc, eqb, Option, None, slice_get}
use Rattle.std.specs.List.{list_all, list_any}
use Rattle.std.specs.Int.{w64}
use Rattle.std.proofs.Common.{of_z}
use Rattle.record.specs.declared.kind.Kind.{Kind}
use Rattle.record.specs.declared.kind.Kind.TheVariants.{Open, Window, Register, Requirement, Margin, Create, Terminate, Submit, Withdraw, Accept, AskReversal, AgreeReversal, GeneratorAmends, OperatorAmends}
use Rattle.record.specs.declared.form.Fields.{Fields}

-- the table's rows: kinds 1 to 14, in order
abbrev pub kinds : List Kind
kinds =
    Open ∷ Window ∷ Register ∷ Requirement ∷ Margin ∷ Create ∷ Terminate
    ∷ Submit ∷ Withdraw ∷ Accept ∷ AskReversal ∷ AgreeReversal ∷ GeneratorAmends ∷ OperatorAmends ∷ []

-- the kind that the number in byte 0 stands for, counted from 1
abbrev pub kind_of : ℕ → Option Kind
kind_of zero = None
kind_of (suc n) = slice_get kinds n

-- the number of a kind, in byte 0
abbrev pub kind_number : Kind → ℕ
kind_number Open = 1
kind_number Window = 2
kind_number Register = 3
kind_number Requirement = 4
kind_number Margin = 5
kind_number Create = 6
kind_number Terminate = 7
kind_number Submit = 8
kind_number Withdraw = 9
kind_number Accept = 10
kind_number AskReversal = 11
kind_number AgreeReversal = 12
kind_number GeneratorAmends = 13
kind_number OperatorAmends = 14

-- the fields that a kind may leave unused. Byte 11 is one that every kind leaves unused
pub data Field : Type 0 where
  A B selector number day eleven quantity amount : Field

abbrev pub fields : List Field
fields = A ∷ B ∷ selector ∷ number ∷ day ∷ eleven ∷ quantity ∷ amount ∷ []

-- the table's column "Uses"; `number` is the allocation number
abbrev pub uses : Kind → List Field
uses Open = day ∷ amount ∷ []
uses Window = selector ∷ amount ∷ []
uses Register = A ∷ selector ∷ []
uses Requirement = A ∷ quantity ∷ []
uses Margin = A ∷ amount ∷ []
uses Create = A ∷ selector ∷ day ∷ quantity ∷ []
uses Terminate = A ∷ selector ∷ day ∷ quantity ∷ []
uses Submit = A ∷ B ∷ quantity ∷ []
uses Withdraw = A ∷ number ∷ []
uses Accept = A ∷ number ∷ []
uses AskReversal = A ∷ number ∷ []
uses AgreeReversal = A ∷ number ∷ []
uses GeneratorAmends = A ∷ number ∷ quantity ∷ []
uses OperatorAmends = A ∷ []

-- the byte where a field begins, which tells the fields apart
abbrev pub begins : Field → ℕ
begins A = 1
begins B = 2
begins selector = 3
begins number = 8
begins day = 10
begins eleven = 11
begins quantity = 12
begins amount = 16

-- whether a field is one of these
abbrev pub member : Field → List Field → Bool
member x ys = list_any (λ y. eqb (begins x) (begins y)) ys

-- the number in a field's bytes
abbrev pub value_of : Fields → Field → ℕ
value_of f A = f.a
value_of f B = f.b
value_of f selector = f.selector
value_of f number = f.number
value_of f day = f.day
value_of f eleven = f.eleven
value_of f quantity = f.quantity.0
value_of f amount = of_z w64 f.amount.0

-- a field that the kind uses, or that is zero
abbrev pub used_or_zero : Kind → Fields → Field → Bool
used_or_zero k f x = member x (uses k) || eqb (value_of f x) 0

-- every field that the kind does not use is zero
abbrev pub unused_zero : Kind → Fields → Bool
unused_zero k f = list_all (used_or_zero k f) fields
