-- The demands hold: each field is a theorem of a crate below, cited. Only the lowest reason is worked out here, from `Lowest`. Assumes nothing.
use mathlib.Core.Path.{◌≡◌, refl, sym, ap, subst, ◌∙◌}
use mathlib.Core.Logic.{◌⊎◌, inl, inr, ◌≢◌, ◌↔◌}
use mathlib.Core.Bool.{Bool, true, false, cond}
use mathlib.Core.List.{List}
use Prim.Native.Nat.{ℕ}
use native.Mathlib.Omega.{arith}
use lib.Dec.{eqb}
use borrow.Author.Tests.{eqb-true}
use Rattle.std.specs.Prelude.{Option, Some, None}
use Rattle.units.specs.declared.Minutes.{Minutes}
use Rattle.record.specs.declared.Step.{Step}
use Rattle.record.specs.declared.Step.TheVariants.{OperatorAmends}
use Rattle.record.specs.Record.{decode_of}
use Rattle.book.specs.Book.{Book}
use Rattle.book.specs.Reasons.{reason_of}
use Rattle.book.specs.Steps.{refusal, number_given, answer_of}
use Rattle.book.specs.Run.{usable, decoded_answer, record_answer}
use Rattle.book.proofs.Frame.{frame, recorded}
use Rattle.book.proofs.Runs.{answered, run_answers, run_writes}
use Rattle.book.proofs.Closing.{closes}
use Rattle.book.proofs.CutPromise.{cut_promised}
use Rattle.book.proofs.Origin.{origin, only_origin, no_other}
use Rattle.record.proofs.RoundTrip.{bytes_again}
use Rattle.record.proofs.decode.Met as decode
use Rattle.record.proofs.encode.Met as encode
use Rattle.ledger.proofs.step.Met as step
use Rattle.ledger.proofs.run.Met as run
use Rattle.settlement.proofs.settle.Met as settle
use Rattle.audit.proofs.Following as audit
use Rattle.audit.proofs.follow.Met as follow
use Rattle.promises.specs.Demands.{tests, Lowest, Demand1, Demand2, Demand3, Question1}
use Rattle.promises.proofs.Lowest.{first_from, lowest}

-- the answer's reason is the step's
said : (r k : ℕ) → (cond (eqb r 0) (record { reason = 0; number = k }) (refusal r)).reason ≡ r
said r k = by (eqb r 0) refl
  where
    by : (t : Bool) → eqb r 0 ≡ t → (cond t (record { reason = 0; number = k }) (refusal r)).reason ≡ r
    by true e = sym (eqb-true r 0 e)
    by false e = refl

step_reason : (b : Book) (s : Step) → (answer_of b s).reason ≡ first_from 2 (tests b s)
unfolding answer_of reason_of
step_reason b s = said (reason_of b s) (number_given b s)

module _ (b : Book) (bytes : List ℕ) where
  decoded_reason : usable b ≡ true → (d : Option Step) → decode_of bytes ≡ d → (record_answer b bytes).reason ≡ (decoded_answer b d).reason
  decoded_reason u d e = ap (λ a. a.reason) (answered b bytes u ∙ ap (decoded_answer b) e)

  is_lowest : (s : Step) → usable b ≡ true → decode_of bytes ≡ Some s → Lowest 2 (tests b s) (record_answer b bytes).reason
  unfolding decoded_answer
  is_lowest s u e = subst (Lowest 2 (tests b s)) (sym (decoded_reason u (Some s) e ∙ step_reason b s)) (lowest 2 (omega arith) (tests b s))

  -- no step of a sound book is answered 1
  is_first : ((record_answer b bytes).reason ≡ 1) ↔ ((usable b ≡ false) ⊎ (decode_of bytes ≡ None))
  unfolding decoded_answer record_answer
  is_first = (λ one. by_book one (usable b) refl, back)
    where
      not_one : (s : Step) → usable b ≡ true → decode_of bytes ≡ Some s → (record_answer b bytes).reason ≢ 1
      not_one s u e one = let l = is_lowest s u e in omega (arith, one, l.numbered (λ z. omega (arith, z, one)))

      by_record : (record_answer b bytes).reason ≡ 1 → usable b ≡ true → (d : Option Step) → decode_of bytes ≡ d → (usable b ≡ false) ⊎ (decode_of bytes ≡ None)
      by_record one u (Some s) e = absurd (not_one s u e one)
      by_record one u None e = inr e

      by_book : (record_answer b bytes).reason ≡ 1 → (t : Bool) → usable b ≡ t → (usable b ≡ false) ⊎ (decode_of bytes ≡ None)
      by_book one true u = by_record one u (decode_of bytes) refl
      by_book one false u = inl u

      refused : (t : Bool) → usable b ≡ t → decode_of bytes ≡ None → (record_answer b bytes).reason ≡ 1
      refused true u e = decoded_reason u None e
      refused false u e = rw u

      back : (usable b ≡ false) ⊎ (decode_of bytes ≡ None) → (record_answer b bytes).reason ≡ 1
      back (inl u) = rw u
      back (inr e) = refused (usable b) refl e

pub demand_1 : Demand1
demand_1 = record { answered = recorded; first = is_first; lowest = is_lowest; step_does = step.met }

pub demand_2 : Demand2
demand_2 = record {
  answers = run_answers;
  books = run_writes;
  alters = frame;
  closes = closes;
  again = λ bytes s are e. bytes_again bytes are s e;
  run_does = run.met;
  settle_does = settle.met;
  decode_does = decode.met;
  encode_does = encode.met;
}

-- for every book and every cut that is done
pub demand_3 : (b : Book) (g : ℕ) (t : Minutes) → reason_of b (OperatorAmends g t) ≡ 0 → Demand3 b g t
demand_3 b g t e = let c = cut_promised b g t e in record { nearest = c.promise.nearest; only = c.promise.only; within = c.within }

pub question_1 : Question1
question_1 = record { origin = origin; only = only_origin; no_other = no_other; follow_does = follow.met; followed = audit.answered }
