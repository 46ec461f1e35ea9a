use Rattle.std.proofs.Common.{◌≡◌, ◌++◌, ◌∷◌, [], Bool, sym, ap, subst, ◌∙◌, length, take, refl}
use Rattle.profile_tree.specs.Steps.{at_call}
use Rattle.profile_text.proofs.CallLemmas.{call_again, call_read}
use Rattle.profile_text.proofs.CauseLemmas.{cause_by_depth, stands_free}
use Rattle.profile_text.specs.Draft.{IsOpened}
use Rattle.profile_text.proofs.draft.ProfileDraft.add_call.Goals as goal

pub returns-in-Some : goal.returns-in-Some
returns-in-Some c = record {
  read = λ keys at before numbers is.
      cause_by_depth before _ (length c.args.self.now.path) c.in-Some.kind (is.path.stands c.args.depth) (sym c.in-Some.is ∙ c.cause_of_depth.ensures);
}

pub returns-then-not-branch : goal.returns-then-not-branch
returns-then-not-branch c =
    let free = stands_free (length c.args.self.now.path) c.args.depth (sym c.in_default.is ∙ c.cause_of_depth.ensures) in
    let path : c.open.new.self ≡ take c.args.depth c.args.self.now.path ++ at_call c.args.location.offset c.args.location.disc c.in_ok-name.name.0 ∷ [] =
    c.in_ok-open.ensures ∙ ap (λ steps. steps ++ at_call c.args.location.offset c.args.location.disc c.in_ok-name.name.0 ∷ []) c.close.ensures in
    let opened = rw path at c.in_ok-open_first.ensures in
    record {
      read = λ keys at before numbers is.
          call_again c.args.names.now c.add.new.self keys c.args.self.now before numbers c.args.depth c.args.location c.in_ok-name.name c.args.callee.name.now c.args.callee.times
          c.open_first.new.opened is free c.in_ok-name.ensures.added.kept c.in_ok-name.ensures.number
          (subst (λ (b : Bool). IsOpened (take c.args.depth c.args.self.now.path ++ at_call c.args.location.offset c.args.location.disc c.in_ok-name.name.0 ∷ []) c.args.self.now.opened b c.open_first.new.opened) c.if-not-branch.true opened);
    }

pub returns : goal.returns
returns c =
    let free = stands_free (length c.args.self.now.path) c.args.depth (sym c.in_default.is ∙ c.cause_of_depth.ensures) in
    let path : c.open.new.self ≡ take c.args.depth c.args.self.now.path ++ at_call c.args.location.offset c.args.location.disc c.in_ok-name.name.0 ∷ [] =
    c.in_ok-open.ensures ∙ ap (λ steps. steps ++ at_call c.args.location.offset c.args.location.disc c.in_ok-name.name.0 ∷ []) c.close.ensures in
    let opened = rw path at c.in_ok-open_first.ensures in
    record {
      read = λ keys at before numbers is.
          call_read c.args.names.now c.add.new.self keys c.args.self.now _ before numbers c.args.depth c.args.location c.in_ok-name.name c.args.callee.name.now at c.args.callee.times
          is free c.in_ok-name.ensures.added.kept c.in_ok-name.ensures.one_more c.in_ok-name.ensures.numbered c.in_ok-name.ensures.number
          (subst (λ (b : Bool). IsOpened (take c.args.depth c.args.self.now.path ++ at_call c.args.location.offset c.args.location.disc c.in_ok-name.name.0 ∷ []) c.args.self.now.opened b c.open_first.new.opened) c.if-not-branch.false opened)
          path refl refl refl;
    }
