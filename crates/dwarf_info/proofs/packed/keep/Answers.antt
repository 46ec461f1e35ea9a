use Rattle.std.proofs.Common.{[], ◌∷◌, ap, ◌∙◌}
use Rattle.dwarf_info.specs.Packed.{texts_of}
use Rattle.dwarf_info.proofs.PackedLemmas.{texts-pushed}
use Rattle.dwarf_info.proofs.packed.keep.Goals as goal

pub returns-in_ok-push-in-Text-clause-extends : goal.returns-in_ok-push-in-Text-clause-extends
returns-in_ok-push-in-Text-clause-extends c =
    (c.in-Text.text.now ∷ [], ap texts_of c.in_ok-push-in-Text.ensures.items ∙ texts-pushed c.args.texts.now.items c.in-Text.text)
