use Rattle.std.proofs.Common.{◌≡◌, ℕ, List, map, Some, Bool, nat_eq, ap, sym, subst, ◌∙◌}
use Rattle.std.specs.Option.{option_map}
use Rattle.std.specs.Cmp.Lexicographic.{pointwise, bytes_decides}
use Rattle.std.proofs.lemmas.Option.{slice_get-map}
use Rattle.indexmap.specs.IndexSet.{insert_key}
use Rattle.key_types.specs.Numbers.{Adds}
use Rattle.key_types.specs.declared.names.Text.{Text}
use Rattle.key_types.proofs.NumberLemmas.{adds, numbered, insert_key-map, IsDistinct-map}
use Rattle.key_types.proofs.names.Names.add.Goals as goal

-- a name as callers see it
name : Text → List ℕ
name text = text.0.now

abbrev same : List ℕ → List ℕ → Bool
same = pointwise nat_eq

pub returns-in_err-index-clause-numbered : goal.returns-in_err-index-clause-numbered
unfolding name
returns-in_err-index-clause-numbered c =
    numbered same bytes_decides (map name c.insert.new.table.keys) (IsDistinct-map name same c.insert.new.table.keys c.insert.ensures.unique)

pub returns-clause-added : goal.returns-clause-added
unfolding name
returns-clause-added c =
    let is : map name c.insert.new.table.keys ≡ insert_key same c.args.self.now c.args.name.now =
    ap (map name) c.in_ok-index.ensures.keys ∙ insert_key-map name same c.self.inside.names.keys (record { 0 = c.args.name })
    ∙ ap (λ (items : List (List ℕ)). insert_key same items c.args.name.now) c.self.view_is in
    subst (λ (new : List (List ℕ)). Adds c.args.self.now new c.args.name.now) (sym is) (adds same bytes_decides c.args.self.now c.args.name.now)

pub returns-clause-number : goal.returns-clause-number
unfolding name
returns-clause-number c =
    slice_get-map name c.insert.new.table.keys c.in_ok-index.index ∙ ap (option_map name) c.in_ok-index.ensures.stored.1
    ∙ ap Some (sym ((bytes_decides _ _).0 c.in_ok-index.ensures.stored.2))

pub returns-clause-numbered : goal.returns-clause-numbered
unfolding name
returns-clause-numbered c =
    numbered same bytes_decides (map name c.insert.new.table.keys) (IsDistinct-map name same c.insert.new.table.keys c.insert.ensures.unique)
