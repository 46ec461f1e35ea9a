-- What is kept stays known, and an origin that was worked out is known.
use Rattle.std.proofs.Common.{◌≡◌, ℕ, List, Option, Some, Ok, sym, subst, inl, inr}
use Rattle.range_model.specs.Texts.{Sections}
use Rattle.unit_model.specs.Entries.{Entry}
use Rattle.tree_model.specs.Way.{Info, entry_beginning_at, way_from}
use Rattle.tree_model.specs.Origin.{said_on}
use Rattle.key_types.specs.declared.ids.NameId.{NameId}
use Rattle.entry_facts.specs.Kept.{AddsKnown, kept_at}
use Rattle.entry_facts.specs.Meaning.{Extends, GivesOrigin}
use Rattle.entry_facts.specs.Memo.{IsKnown, Kept, Remembers, nothing_kept}
use Rattle.entry_facts.specs.Texts.{Numbers, RemembersNames, no_numbers, number_at}
use Rattle.entry_facts.specs.declared.origin.Origin.{Origin}
use Rattle.entry_facts.specs.declared.texts.TextPlace.{TextPlace}
use Rattle.entry_facts.specs.declared.texts.TextPlace.TheVariants.{Str, LineStr, InEntry}
use Rattle.entry_facts.proofs.StepLemmas.{said_any}
use Rattle.entry_facts.proofs.TextLemmas.{IsNumberOf-more, names_more}

IsKnown-more : (sections : Sections) (info : Info) (old new : List (List ℕ)) (at : ℕ) (origin : Origin) → Extends old new → IsKnown sections info old at origin
    → IsKnown sections info new at origin
IsKnown-more sections info old new at origin more known = record {
  entry = known.entry;
  begins = known.begins;
  told = λ began. let told = known.told began in (told.0, told.1, IsNumberOf-more old new told.0 origin.name more told.2);
}

pub Remembers-more : (sections : Sections) (info : Info) (old new : List (List ℕ)) (kept : Kept) → Extends old new → Remembers sections info old kept
    → Remembers sections info new kept
Remembers-more sections info old new kept more known = record {
  origins = λ at origin here. IsKnown-more sections info old new at origin more (known.origins at origin here);
  texts = names_more sections info.units old new kept.texts more known.texts;
}

-- more names, and texts that are known
pub Remembers-texts : (sections : Sections) (info : Info) (old new : List (List ℕ)) (kept after : Kept) → Extends old new → Remembers sections info old kept
    → after.origins ≡ kept.origins → RemembersNames sections info.units new after.texts → Remembers sections info new after
Remembers-texts sections info old new kept after more known same texts = record {
  origins = λ at origin here. IsKnown-more sections info old new at origin more
      (known.origins at origin (subst (λ (k : List (ℕ × Origin)). kept_at k at ≡ Some origin) same here));
  texts = texts;
}

pub IsKnown-told : (sections : Sections) (info : Info) (names : List (List ℕ)) (began at : ℕ) (entry : Entry) (origin : Origin) → entry_beginning_at info.units.entries at ≡ Some entry
    → GivesOrigin names (Ok origin) (said_on sections info.units (way_from info began 15 entry)) → IsKnown sections info names at origin
IsKnown-told sections info names began at entry origin begins told = record {
  entry = entry;
  begins = begins;
  told = λ other. (told.0, said_any sections info began other 15 entry _ told.1, told.2);
}

pub Remembers-added : (sections : Sections) (info : Info) (names : List (List ℕ)) (old new : Kept) (at : ℕ) (origin : Origin)
    → Remembers sections info names old → AddsKnown old.origins new.origins at origin → new.texts ≡ old.texts → IsKnown sections info names at origin
    → Remembers sections info names new
Remembers-added sections info names old new at origin known adds same here = record {
  origins = λ place other kept.
      elim (adds place other kept) [
        | inl before ↦ known.origins place other before
        | inr same ↦ subst (λ (p : ℕ × Origin). IsKnown sections info names p.0 p.1) (let e : ◌≡◌ {A = ℕ × Origin} (at, origin) (place, other) = (let a : place ≡ at = same.0 in let o : other ≡ origin = same.1 in cc) in e) here
      ];
  texts = subst (λ (k : Numbers). RemembersNames sections info.units names k) (sym same) known.texts;
}

nothing_at : (place : TextPlace) (number : Option NameId) → number_at no_numbers place ≡ Some number → ⊥
nothing_at (Str at) number here = cc
nothing_at (LineStr at) number here = cc
nothing_at (InEntry at name) number here = cc

pub Remembers-none : (sections : Sections) (info : Info) (names : List (List ℕ)) (kept : Kept) → kept ≡ nothing_kept → Remembers sections info names kept
Remembers-none sections info names kept none = subst (λ (k : Kept). Remembers sections info names k) (sym none) (record {
  origins = λ at origin here. cc;
  texts = λ place number here. absurd (nothing_at place number here);
})
