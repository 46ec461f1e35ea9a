-- Operands that are passed over, one by one.
use Rattle.std.proofs.Common.{◌≡◌, ◌<◌, ◌+◌, ℕ, zero, suc, List, Ok, Err, refl, sym, ap, ◌∙◌, arith}
use Rattle.byte_view.specs.declared.fault.ViewFault.{ViewFault}
use Rattle.byte_view.specs.Reading.{uleb_at}
use Rattle.line_model.specs.declared.operation.Operation.TheVariants.{Pass}
use Rattle.line_model.specs.Reading.{ulebs_at, behind_number}
use Rattle.placed_view.specs.Reader.{kind_of}

pub ulebs_at-none : (count : ℕ) (bytes : List ℕ) → count ≡ 0 → ulebs_at count bytes ≡ Ok (Pass, bytes)
unfolding ulebs_at
ulebs_at-none zero bytes none = refl
ulebs_at-none (suc count) bytes none = absurd (omega arith)

pub ulebs_at-more : (count left : ℕ) (bytes rest : List ℕ) (n : ℕ) → left + 1 ≡ count → uleb_at bytes ≡ Ok (n, rest) → ulebs_at left rest ≡ ulebs_at count bytes
unfolding ulebs_at
ulebs_at-more zero left bytes rest n more read = absurd (omega arith)
ulebs_at-more (suc count) left bytes rest n more read =
    let same : left ≡ count = omega arith in
    ap (λ k. ulebs_at k rest) same ∙ sym (ap (behind_number (ulebs_at count)) read)

pub ulebs_at-stop : (count : ℕ) (bytes : List ℕ) (fault : ViewFault) → 0 < count → uleb_at bytes ≡ Err fault → ulebs_at count bytes ≡ Err (kind_of fault)
unfolding ulebs_at
ulebs_at-stop zero bytes fault some read = absurd (omega arith)
ulebs_at-stop (suc count) bytes fault some read = ap (behind_number (ulebs_at count)) read
