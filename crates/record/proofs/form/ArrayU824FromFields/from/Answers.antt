-- The 24 bytes of the fields: std's bytes of a number are those of the definition, and each number's stand in their places. Assumes nothing.
use Rattle.std.proofs.Common.{◌≡◌, ℕ, ◌^◌, ◌<◌, List, [], ◌∷◌, get_or, ◌∙◌, arith, rules, of_z}
use Rattle.std.specs.Int.{w16, w32, w64, to_be_bytes}
use Rattle.record.specs.Bytes.{bytes}
use Rattle.record.specs.declared.form.Fields.{Fields}
use Rattle.record.proofs.form.ArrayU824FromFields.from.Goals as goal

two : (n : ℕ) → n < 2 ^ 16 → to_be_bytes w16 n ≡ bytes 2 n
two n h = search (rules, arith)

four : (n : ℕ) → n < 2 ^ 32 → to_be_bytes w32 n ≡ bytes 4 n
four n h = search (rules, arith)

eight : (n : ℕ) → n < 2 ^ 64 → to_be_bytes w64 n ≡ bytes 8 n
eight n h = search (rules, arith)

-- the fields, with the bytes of the minute, the allocation number, the quantity and the amount
abbrev laid : Fields → List ℕ → List ℕ → List ℕ → List ℕ → List ℕ
laid f m n q a =
    f.kind ∷ f.a ∷ f.b ∷ f.selector ∷ get_or m 0 0 ∷ get_or m 1 0 ∷ get_or m 2 0 ∷ get_or m 3 0 ∷ get_or n 0 0 ∷ get_or n 1 0 ∷ f.day ∷ f.eleven
    ∷ get_or q 0 0 ∷ get_or q 1 0 ∷ get_or q 2 0 ∷ get_or q 3 0
    ∷ get_or a 0 0 ∷ get_or a 1 0 ∷ get_or a 2 0 ∷ get_or a 3 0 ∷ get_or a 4 0 ∷ get_or a 5 0 ∷ get_or a 6 0 ∷ get_or a 7 0 ∷ []

pub returns : goal.returns
returns c =
    let f = c.args.f in
    let m : c.to_be_bytes.result ≡ to_be_bytes w32 (of_z w32 f.minute.0) = search rules in
    let n : c.to_be_bytes-2.result ≡ to_be_bytes w16 f.number = search rules in
    let q : c.to_be_bytes-3.result ≡ to_be_bytes w32 f.quantity.0 = search rules in
    let a : c.to_be_bytes-4.result ≡ to_be_bytes w64 (of_z w64 f.amount.0) = search rules in
    λ i. laid f ((m ∙ four _ (search rules)) i) ((n ∙ two _ (search rules)) i) ((q ∙ four _ (search rules)) i) ((a ∙ eight _ (search rules)) i)
