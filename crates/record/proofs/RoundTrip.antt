-- The record of a step is read back as the step, and bytes that say a step are the step's record: what a record says is made of the
-- fields that its kind uses, and writing that gives the fields again. Assumes nothing.
use mathlib.Core.Path.{◌≡◌, refl, sym, ap, ◌∙◌, subst}
use mathlib.Core.List.{List}
use Prim.Native.Nat.{ℕ}
use Rattle.std.specs.Prelude.{Some}
use Rattle.record.specs.Bytes.{AreBytes}
use Rattle.record.specs.Form.{fields_of, layout}
use Rattle.record.specs.Kinds.{kind_of}
use Rattle.record.specs.Record.{written, or_refused, said_as, decode_of, bytes_of}
use Rattle.record.specs.Ranged.{Room, Ranged}
use Rattle.record.specs.declared.form.Fields.{Fields}
use Rattle.record.specs.declared.Step.{Step}
use Rattle.record.specs.declared.Step.TheVariants as S
use Rattle.record.proofs.FieldBytes.{layout_reads, read_room, reads_layout}
use Rattle.record.proofs.Says.{says}
use Rattle.record.proofs.Unused.{made_back}

-- the fields of a step say that step
written_says : (s : Step) → said_as (kind_of (written s).kind) (written s) ≡ Some s
unfolding said_as or_refused
written_says (S.Open u v w) = refl
written_says (S.Window u v w) = refl
written_says (S.Register u v w) = refl
written_says (S.Requirement u v w) = refl
written_says (S.Margin u v w) = refl
written_says (S.Create u v w x y) = refl
written_says (S.Terminate u v w x y) = refl
written_says (S.Submit u v w x) = refl
written_says (S.Withdraw u v w) = refl
written_says (S.Accept u v w) = refl
written_says (S.AskReversal u v w) = refl
written_says (S.AgreeReversal u v w) = refl
written_says (S.GeneratorAmends u v w x) = refl
written_says (S.OperatorAmends u v) = refl

-- a step that is written is read again
pub step_again : (s : Step) → Ranged s → decode_of (bytes_of s) ≡ Some s
unfolding decode_of bytes_of or_refused
step_again s h = ap (λ (f : Fields). said_as (kind_of f.kind) f) (layout_reads (written s) h) ∙ written_says s

module _ (bs : List ℕ) (are-bytes : AreBytes bs) (s : Step) (e : decode_of bs ≡ Some s) where
  -- so the step that bytes say is written with the bytes' own fields
  same_fields : written s ≡ fields_of bs
  same_fields =
      let c = says bs s e in
      ap written c.is_made ∙ made_back c.kind (fields_of bs) (read_room bs are-bytes).amount_fits c.is_kind c.zero_unused

  -- bytes that say a step are its record
  pub bytes_again : bytes_of s ≡ bs
  unfolding bytes_of
  bytes_again = ap layout same_fields ∙ reads_layout bs are-bytes (says bs s e).long

  -- and the step fits its types
  pub decoded_ranged : Ranged s
  decoded_ranged = subst Room (sym same_fields) (read_room bs are-bytes)
