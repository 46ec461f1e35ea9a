use Rattle.std.proofs.Common.{ap, sym, ◌∙◌}
use Rattle.std.specs.Prelude.{is_ok}
use Rattle.text_model.specs.Numbers.{hex_of, prefixed_of}
use Rattle.sample_model.specs.Line.{address_of, is_ip}
use Rattle.branch_lines.proofs.LineLemmas.{is_ok-within, or-then, or-else}
use Rattle.branch_lines.proofs.line.is_ip.Goals as goal

pub returns-then-is_ok : goal.returns-then-is_ok
unfolding is_ip address_of
returns-then-is_ok c =
    let prefixed = c.is_ok.ensures.value ∙ ap is_ok c.prefixed.ensures ∙ is_ok-within (prefixed_of c.args.field.now) in
    or-then _ _ _ (sym prefixed ∙ c.if-is_ok.true) c.if-is_ok.true

pub returns-else-is_ok : goal.returns-else-is_ok
unfolding is_ip address_of
returns-else-is_ok c =
    let prefixed = c.is_ok.ensures.value ∙ ap is_ok c.prefixed.ensures ∙ is_ok-within (prefixed_of c.args.field.now) in
    or-else _ _ _ (sym prefixed ∙ c.if-is_ok.false) (c.is_ok-else-is_ok.ensures.value ∙ ap is_ok c.hex.ensures ∙ is_ok-within (hex_of c.args.field.now))
