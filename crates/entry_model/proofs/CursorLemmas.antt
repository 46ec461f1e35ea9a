-- A reader and what it passes, both ways.
use Rattle.std.proofs.Common.{◌≡◌, ℕ, ◌+◌, ◌-◌, ◌<◌, ◌≤◌, ℤ, Bool, true, false, cond, List, ◌++◌, length, Option, Ok, Err, refl, ap, subst, ◌∙◌, arith}
use Rattle.std.proofs.lemmas.List.{length-append}
use Rattle.byte_view.specs.Cursor.{Cursor, Passes, Reads}
use Rattle.byte_view.specs.Reading.{Reading, SpellsField, SpellsUleb, SpellsSleb, field_at, uleb_at, sleb_at}
use Rattle.byte_view.specs.Laws.{IsReadBack, IsReadAsSpelled}
use Rattle.byte_view.proofs.Fronts.{field_at-spelled, uleb_at-spelled, sleb_at-spelled}
use Rattle.byte_view.proofs.Spellings.{field_at-again, uleb_at-again, sleb_at-again}
use Rattle.refusal.specs.declared.kind.Kind.{Kind}
use Rattle.placed_view.specs.Reader.{Read, Reader, behind, refuse_if, placed, uleb, sleb, field}
use Rattle.placed_view.proofs.ReadLemmas.{cursor_is}

-- the cursor behind what is passed
abbrev pub behind_front : Cursor → List ℕ → Cursor
behind_front old left = record { at = old.at + (length old.left - length left); left = left }

pub passes_front : (old : Cursor) (front left : List ℕ) → old.left ≡ front ++ left → Passes old (behind_front old left) front
passes_front old front left parts = record { left = parts; at = omega (arith, ap length parts, length-append front left) }

pub same_pair : {X : Type 0} (x y : X) (a b : Cursor) → ◌≡◌ {A = Read X} (Ok (x, a)) (Ok (y, b)) → ◌≡◌ {A = X × Cursor} (x, a) (y, b)
same_pair x y a b e = cc

module _ {X : Type 0} (Spells : List ℕ → X → Type 0) (reading : List ℕ → Reading X) where
  reads_placed : IsReadAsSpelled Spells reading → (old new : Cursor) (x : X) → placed old (reading old.left) ≡ Ok (x, new) → Reads Spells old new x
  reads_placed spelled old new x e = go (reading old.left) refl e
    where
      go : (answer : Reading X) → reading old.left ≡ answer → placed old answer ≡ Ok (x, new) → Reads Spells old new x
      go (Err fault) is e = absurd cc
      go (Ok (y, left)) is e =
          let b = spelled old.left left y is in
          subst (λ (p : X × Cursor). Reads Spells old p.1 p.0) (same_pair y x (behind_front old left) new e)
          (record { bytes = b.front; spelled = b.spelled; passed = passes_front old b.front left b.parts })

  placed_reads : IsReadBack Spells reading → (old new : Cursor) (x : X) → Reads Spells old new x → placed old (reading old.left) ≡ Ok (x, new)
  placed_reads again old new x r =
      let e : reading old.left ≡ Ok (x, new.left) = ap reading r.passed.left ∙ again r.bytes new.left x r.spelled in
      ap (placed old) e ∙ ap (λ (c : Cursor). Ok (x, c)) (cursor_is old new r.bytes r.passed)

pub reads_uleb : (old new : Cursor) (n : ℕ) → uleb old ≡ Ok (n, new) → Reads SpellsUleb old new n
unfolding uleb
reads_uleb old new n e = reads_placed SpellsUleb uleb_at uleb_at-spelled old new n e

pub uleb_reads : (old new : Cursor) (n : ℕ) → Reads SpellsUleb old new n → uleb old ≡ Ok (n, new)
unfolding uleb
uleb_reads old new n r = placed_reads SpellsUleb uleb_at uleb_at-again old new n r

pub reads_sleb : (old new : Cursor) (z : ℤ) → sleb old ≡ Ok (z, new) → Reads SpellsSleb old new z
unfolding sleb
reads_sleb old new z e = reads_placed SpellsSleb sleb_at sleb_at-spelled old new z e

pub sleb_reads : (old new : Cursor) (z : ℤ) → Reads SpellsSleb old new z → sleb old ≡ Ok (z, new)
unfolding sleb
sleb_reads old new z r = placed_reads SpellsSleb sleb_at sleb_at-again old new z r

pub reads_field : (size : ℕ) (old new : Cursor) (n : ℕ) → field size old ≡ Ok (n, new) → Reads (SpellsField size) old new n
unfolding field
reads_field size old new n e = reads_placed (SpellsField size) (field_at size) (field_at-spelled size) old new n e

pub field_reads : (size : ℕ) (old new : Cursor) (n : ℕ) → Reads (SpellsField size) old new n → field size old ≡ Ok (n, new)
unfolding field
field_reads size old new n r = placed_reads (SpellsField size) (field_at size) (field_at-again size) old new n r

-- what is passed is there no more
pub not_longer : (old new : Cursor) (bytes : List ℕ) → Passes old new bytes → length new.left ≤ length old.left
not_longer old new bytes passes = omega (arith, ap length passes.left, length-append bytes new.left)

-- One reader behind another read this.
pub record Split {X Y : Type 0} (read : Read X) (next : X → Reader Y) (y : Y) (last : Cursor) : Type 0 where
  pub value : X
  pub cur : Cursor
  pub first : read ≡ Ok (value, cur)
  pub follows : next value cur ≡ Ok (y, last)

pub split : {X Y : Type 0} (read : Read X) (next : X → Reader Y) (y : Y) (last : Cursor) → behind read next ≡ Ok (y, last) → Split read next y last
split (Ok (x, cur)) next y last e = record { value = x; cur = cur; first = refl; follows = e }
split (Err place) next y last e = absurd cc

-- Nothing is in the way.
pub record Unless (cause : Bool) (old new : Cursor) : Type 0 where
  pub holds_not : cause ≡ false
  pub stays : old ≡ new

pub unless : (cause : Bool) (at : ℕ) (kind : Kind) (u : Unit {0}) (old new : Cursor) → refuse_if cause at kind old ≡ Ok (u, new) → Unless cause old new
unless true at kind u old new e = absurd cc
unless false at kind u old new e = record { holds_not = refl; stays = ap (λ (p : Unit {0} × Cursor). p.1) (same_pair tt u old new e) }

pub unless-again : (cause : Bool) (at : ℕ) (kind : Kind) (old : Cursor) → cause ≡ false → refuse_if cause at kind old ≡ Ok (tt, old)
unless-again cause at kind old not = rw not refl
