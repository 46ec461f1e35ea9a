-- What is found of a load line, in the words of the definitions.
use Rattle.std.proofs.Common.{◌≡◌, ◌≢◌, ℕ, ◌+◌, ◌<◌, nat_eq, nat_lt, Bool, true, false, List, [], ◌∷◌, ◌++◌, length, take, drop, None, Some, Bor, refl, ap, ◌∙◌, arith}
use Rattle.std.specs.Prelude.{not}
use Rattle.std.specs.List.{position_or_len, starts_with}
use Rattle.std.proofs.lemmas.Bool.{false_from_ne_true, lt-ltb, le-ltb}
use Rattle.std.proofs.lemmas.Bool.Decides.{Decides-eqb}
use Rattle.std.proofs.lemmas.List.{drop_at}
use Rattle.std.proofs.lemmas.List.Sums.{position_or_len_is}
use Rattle.std.proofs.lemmas.Slice.Eq.{starts_is}
use Rattle.memchr.specs.Find.{IsFirstByte, is_byte}
use Rattle.sample_model.specs.Loads.{behind_where, parts_at}

-- ---- the parts around a byte

pub parts_at-found : (byte : ℕ) (text : List ℕ) (at : ℕ) → IsFirstByte (is_byte byte) text (Some at) → parts_at byte text ≡ Some (take at text, drop (at + 1) text)
parts_at-found byte text at found =
    let place : position_or_len (is_byte byte) text ≡ at = position_or_len_is (is_byte byte) text at 0 (omega (arith, found.0.high)) (λ k below. false_from_ne_true _ (found.0.before k (omega arith) below)) (λ _. found.1) in
    let within : nat_lt at (length text) ≡ true = lt-ltb _ _ found.0.high in
    rw (place, within) refl

pub parts_at-none : (byte : ℕ) (text : List ℕ) → IsFirstByte (is_byte byte) text None → parts_at byte text ≡ None
parts_at-none byte text none =
    let place : position_or_len (is_byte byte) text ≡ length text = position_or_len_is (is_byte byte) text (length text) 0 (omega arith) (λ k below. false_from_ne_true _ (none k (omega arith) below)) (λ past. absurd (omega arith)) in
    let within : nat_lt (length text) (length text) ≡ false = le-ltb _ _ (omega arith) in
    rw (place, within) refl

-- ---- what stands behind bytes

-- what is left where bytes were taken from the front of a text,
stripped : (text bytes behind : List ℕ) → text ≡ bytes ++ behind → (starts_with nat_eq text bytes ≡ true) × (drop (length bytes) text ≡ behind)
stripped text bytes behind is =
    ((starts_is Decides-eqb text bytes _ refl).1 behind is, ap (drop (length bytes)) is ∙ drop_at bytes behind (length bytes) refl)

pub behind_where-here : (test : List ℕ → Bool) (bytes text : List ℕ) (behind : Bor (List ℕ)) → 0 < length text
    → text ≡ bytes ++ behind.now → test behind.now ≡ true → behind_where test bytes text ≡ Some behind.now
behind_where-here test bytes [] behind some is passes = absurd (omega arith)
behind_where-here test bytes (b ∷ text) behind some is passes =
    let front = stripped (b ∷ text) bytes behind.now is in
    rw (front.0, front.1, passes) refl

-- the search goes on where these bytes do not stand,
pub behind_where-next : (test : List ℕ → Bool) (bytes text rest : List ℕ) → 0 < length text
    → ((behind : List ℕ) → text ≢ bytes ++ behind) → rest ≡ drop 1 text → behind_where test bytes rest ≡ behind_where test bytes text
behind_where-next test bytes [] rest some not is = absurd (omega arith)
behind_where-next test bytes (b ∷ text) rest some not is =
    let none : starts_with nat_eq (b ∷ text) bytes ≡ false = false_from_ne_true _ (λ starts. not _ ((starts_is Decides-eqb (b ∷ text) bytes _ refl).0 starts)) in
    rw (none, is) refl

-- or what stands behind them does not pass.
pub behind_where-not : (test : List ℕ → Bool) (bytes text rest : List ℕ) (behind : Bor (List ℕ)) → 0 < length text
    → text ≡ bytes ++ behind.now → test behind.now ≡ false → rest ≡ drop 1 text → behind_where test bytes rest ≡ behind_where test bytes text
behind_where-not test bytes [] rest behind some is fails next = absurd (omega arith)
behind_where-not test bytes (b ∷ text) rest behind some is fails next =
    let front = stripped (b ∷ text) bytes behind.now is in
    rw (front.0, front.1, fails, next) refl

pub behind_where-none : (test : List ℕ → Bool) (bytes text : List ℕ) → length text ≡ 0 → behind_where test bytes text ≡ None
behind_where-none test bytes [] none = refl
behind_where-none test bytes (b ∷ text) none = absurd (omega arith)
