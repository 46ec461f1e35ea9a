-- Ways by number, and items in the order of their ways.
use Rattle.std.specs.Prelude.{ℕ, List}
use Rattle.std.specs.Cmp.Lexicographic.{slice_cmp}
use Rattle.std.specs.declared.cmp.Ordering.{Ordering}
use Rattle.std.specs.Ordering.{nat_cmp, ordering_then}
use Rattle.profile_lists.specs.declared.item.Item.{Item}
use Rattle.profile_lists.specs.declared.item.Kind.{Kind}
use Rattle.profile_lists.specs.declared.item.Kind.TheVariants.{Function, Body, Call}
use Rattle.profile_lists.specs.declared.item.Step.{Step}

-- The kinds stand in this order.
abbrev pub kind_rank : Kind → ℕ
kind_rank Function = 0
kind_rank Body = 1
kind_rank Call = 2

-- Steps go by kind, offset, discriminator and rank.
abbrev pub step_cmp : Step → Step → Ordering
step_cmp s t =
    ordering_then (nat_cmp (kind_rank s.kind) (kind_rank t.kind))
    (ordering_then (nat_cmp s.offset t.offset) (ordering_then (nat_cmp s.disc t.disc) (nat_cmp s.rank t.rank)))

-- Ways go by their first step that differs. A way comes before those that begin with it.
abbrev pub way_cmp : List Step → List Step → Ordering
way_cmp = slice_cmp step_cmp

-- Items go by their ways, then by their counts and keys.
abbrev pub item_cmp : Item → Item → Ordering
item_cmp i j =
    ordering_then (way_cmp i.way.items j.way.items)
    (ordering_then (nat_cmp i.count j.count) (nat_cmp i.key j.key))
