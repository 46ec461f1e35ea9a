-- The first part of a text ends where a byte is first found.
use Rattle.std.proofs.Common.{◌≡◌, ℕ, suc, ◌+◌, ◌∙◌, take, drop, List, [], ◌∷◌, ◌++◌, Some, None, ap, arith, add-one, get_or}
use Rattle.std.proofs.Math.Seq.{split_at}
use Rattle.std.proofs.lemmas.Bool.{eqb-true}
use Rattle.std.proofs.lemmas.List.Splits.{slice_split_at, slice_split_none}
use Rattle.memchr.specs.Find.{IsFirstByte, is_byte}
use Rattle.text_model.proofs.LineLemmas.{none_below, none_in}
use Rattle.profile_model.specs.Reading.{parts_at}

pub part_ended : (byte : ℕ) (text : List ℕ) (at : ℕ) → IsFirstByte (is_byte byte) text (Some at)
    → parts_at byte text ≡ take at text ∷ parts_at byte (drop (at + 1) text)
part_ended byte text at found =
    let is : get_or text at 0 ≡ byte = eqb-true (get_or text at 0) byte found.1 in
    let parts = split_at text at 0 found.0.high in
    let same : parts_at byte text ≡ parts_at byte (take at text ++ byte ∷ drop (suc at) text) = ap (parts_at byte) (rw is at parts) in
    rw add-one
    (same ∙ slice_split_at (is_byte byte) (take at text) byte (drop (suc at) text)
    (none_below (is_byte byte) text at (λ k below within. found.0.before k (omega arith) below)) (grind arith))

pub last_part : (byte : ℕ) (text : List ℕ) → IsFirstByte (is_byte byte) text None → parts_at byte text ≡ text ∷ []
last_part byte text none =
    slice_split_none (is_byte byte) text (none_in (is_byte byte) text (λ k within. none k (omega arith) within))
