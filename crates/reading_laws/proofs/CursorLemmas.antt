-- Readers and how far they go.
use Rattle.std.proofs.Common.{◌≡◌, ℕ, ◌+◌, ◌-◌, ◌≤◌, Bool, true, false, cond, length, nat_le, nat_lt, Ok, refl, ap, subst, ◌∙◌, arith}
use Rattle.std.specs.Prelude.{◌==◌}
use Rattle.std.proofs.lemmas.Bool.Decides.{nat_tests}
use Rattle.std.proofs.lemmas.List.{length-append}
use Rattle.byte_view.specs.Cursor.{Cursor}
use Rattle.placed_view.specs.Reader.{behind, field}
pub use Rattle.entry_model.proofs.CursorLemmas.{same_pair, reads_field, field_reads, Split, split, Unless, unless}
pub use Rattle.entry_model.proofs.OrderLemmas.{second, told_as-same}
use Rattle.unit_model.specs.Header.{long_length, short_length, sized, unit_length}

-- The cursor went forward in its piece by so many bytes at least.
pub record Ahead (least : ℕ) (old new : Cursor) : Type 0 where
  pub places : old.at + least ≤ new.at
  pub ends : old.at + length old.left ≡ new.at + length new.left

same_place : (least : ℕ) (old a b : Cursor) → Ahead least old a → a ≡ b → Ahead least old b
same_place least old a b ahead same = subst (λ (c : Cursor). Ahead least old c) same ahead

ahead_field : (size : ℕ) (old new : Cursor) (n : ℕ) → field size old ≡ Ok (n, new) → Ahead size old new
ahead_field size old new n e =
    let r = reads_field size old new n e in
    let long : length r.bytes ≡ size = r.spelled.sized in
    let all : length old.left ≡ length r.bytes + length new.left = ap length r.passed.left ∙ length-append r.bytes new.left in
    let at = r.passed.at in
    record { places = omega (arith, long, at); ends = omega (arith, long, at, all) }

-- ---- the length of a unit

ahead_long : (at : ℕ) (old new : Cursor) (x : Bool × ℕ) → long_length at old ≡ Ok (x, new) → Ahead 0 old new
ahead_long at old new x e =
    let a = split _ _ x new e in
    let f = ahead_field 8 old a.cur a.value (told_as-same at _ (field 8 old) a.value a.cur a.first) in
    let places = f.places in
    same_place 0 old a.cur new (record { places = omega (arith, places); ends = f.ends }) (second _ x a.cur new a.follows)

ahead_short : (at first : ℕ) (old new : Cursor) (x : Bool × ℕ) → short_length at first old ≡ Ok (x, new) → Ahead 0 old new
ahead_short at first old new x e =
    let a = split _ _ x new e in
    let u = unless (nat_le 0xfffffff0 first) at _ a.value old a.cur a.first in
    same_place 0 old old new (record { places = omega arith; ends = refl }) (u.stays ∙ second _ x a.cur new a.follows)

ahead_sized : (at : ℕ) (old new : Cursor) (x : Bool × ℕ) → sized at old ≡ Ok (x, new) → Ahead 4 old new
unfolding sized
ahead_sized at old new x e =
    let a = split _ _ x new e in
    let f = ahead_field 4 old a.cur a.value (told_as-same at _ (field 4 old) a.value a.cur a.first) in
    let g = go a.value a.cur (a.value == 0xffffffff) a.follows in
    let places = f.places in
    let more = g.places in
    record { places = omega (arith, places, more); ends = f.ends ∙ g.ends }
  where
    go : (first : ℕ) (cur : Cursor) (test : Bool) → cond test (long_length at) (short_length at first) cur ≡ Ok (x, new) → Ahead 0 cur new
    go first cur true e = ahead_long at cur new x e
    go first cur false e = ahead_short at first cur new x e

-- The length of a unit that was read, behind which there are as many bytes.
pub record Sized (old new : Cursor) (x : Bool × ℕ) : Type 0 where
  pub read : sized old.at old ≡ Ok (x, new)
  pub ahead : Ahead 4 old new
  pub room : x.1 ≤ length new.left

pub unit_sized : (old new : Cursor) (x : Bool × ℕ) → unit_length old ≡ Ok (x, new) → Sized old new x
unfolding unit_length
unit_sized old new x e =
    let a = split (sized old.at old) _ x new e in
    let b = split _ _ x new a.follows in
    let u = unless (nat_lt (length a.cur.left) a.value.1) old.at _ b.value a.cur b.cur b.first in
    let p = same_pair (a.value.0, a.value.1) x b.cur new b.follows in
    let fits : a.value.1 ≤ length a.cur.left = let h = u.holds_not in grind (arith, nat_tests) in
    let all : (a.cur ≡ b.cur) = u.stays in
    subst (λ (p : (Bool × ℕ) × Cursor). Sized old p.1 p.0) p
    (subst (λ (c : Cursor). Sized old c a.value) all
    (record { read = a.first; ahead = ahead_sized old.at old a.cur a.value a.first; room = fits }))
