use Rattle.std.proofs.Common.{Bool, ◌∷◌, [], subst, refl}
use Rattle.profile_tree.specs.Steps.{at_function}
use Rattle.profile_text.proofs.FunctionLemmas.{function_again, function_read}
use Rattle.profile_text.proofs.OpenLemmas.{kept_grows}
use Rattle.profile_text.specs.Draft.{IsOpened}
use Rattle.profile_text.proofs.draft.ProfileDraft.add_function.Goals as goal

pub returns-then-not-branch : goal.returns-then-not-branch
returns-then-not-branch c =
    let opened = rw c.begin.ensures at c.in_ok-open_first.ensures in
    record {
      read = λ keys total before numbers is.
          function_again c.args.names.now c.add.new.self keys c.args.self.now before numbers c.in_ok-id.id c.args.name.now total c.args.head
          c.open_first.new.opened is c.in_ok-id.ensures.added.kept c.in_ok-id.ensures.number
          (subst (λ (b : Bool). IsOpened (at_function c.in_ok-id.id.0 ∷ []) c.args.self.now.opened b c.open_first.new.opened) c.if-not-branch.true opened);
    }

pub returns : goal.returns
returns c =
    let opened = rw c.begin.ensures at c.in_ok-open_first.ensures in
    record {
      read = λ keys total before numbers is.
          function_read c.args.names.now c.add.new.self keys c.args.self.now _ before numbers c.in_ok-id.id c.args.name.now c.args.at total c.args.head
          is c.in_ok-id.ensures.added.kept (kept_grows _ _ c.in_ok-id.ensures.added.kept) c.in_ok-id.ensures.one_more (c.in_ok-id.ensures.numbered) c.in_ok-id.ensures.number
          (subst (λ (b : Bool). IsOpened (at_function c.in_ok-id.id.0 ∷ []) c.args.self.now.opened b c.open_first.new.opened) c.if-not-branch.false opened)
          c.begin.ensures refl refl c.in_ok-put.ensures;
    }
