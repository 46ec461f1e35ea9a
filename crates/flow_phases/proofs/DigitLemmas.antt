-- How many binary digits are enough.
use Rattle.std.proofs.Common.{◌≡◌, ℕ, ◌+◌, ◌^◌, ◌<◌, ◌≤◌, Bool, true, false, List, length, inl, inr, arith, sym, ◌∙◌, subst}
use Rattle.std.specs.Prelude.{◌↔◌, IsTrue}
use Rattle.std.specs.List.{All}
use Rattle.std.proofs.lemmas.Bool.{cases_eq}
use Rattle.std.proofs.lemmas.List.Elements.{All-weaker}
use Rattle.flow_model.specs.declared.arc.Arc.{Arc}
use Rattle.block_model.specs.Limits.{bound_bits}
use Rattle.flow_model.specs.Network.{Network, arcs_of}
use Rattle.flow_model.specs.Sound.{IsLimitedArc, IsNet}
use Rattle.flow_model.proofs.LimitLemmas.{nets_are_limited}
use Rattle.residual_model.specs.Residual.{starting}
use Rattle.scaling_model.specs.Bound.{StartWithin}
use Rattle.flow_balance.proofs.StartLemmas.{starting_small}

pub decided : (net : Network) (arcs : List Arc) (digits : ℕ) (b : Bool) → arcs ≡ arcs_of net
    → (IsTrue b ↔ All (λ arc. starting arc < 2 ^ digits) arcs) → IsTrue b ↔ StartWithin digits net
decided net arcs digits b same tells = subst (λ (list : List Arc). IsTrue b ↔ All (λ arc. starting arc < 2 ^ digits) list) same tells

pub found_within : (net : Network) (digits : ℕ) (b : Bool) → b ≡ true → (IsTrue b ↔ StartWithin digits net) → StartWithin digits net
found_within net digits b passes tells = tells.0 passes

pub one_more_digit : (net : Network) (digits : ℕ) (b : Bool) → b ≡ false → (IsTrue b ↔ StartWithin digits net)
    → ((fewer : ℕ) → StartWithin fewer net → digits ≤ fewer) → (fewer : ℕ) → StartWithin fewer net → digits + 1 ≤ fewer
one_more_digit net digits b fails tells least fewer within =
    elim (cases_eq digits fewer) [
      | inl e ↦
          let passes : IsTrue b = tells.1 (subst (λ (n : ℕ). StartWithin n net) (sym e) within) in
          let clash : false ≡ true = sym fails ∙ passes in
          absurd (cc)
      | inr apart ↦ let order = least fewer within in omega (arith, order, apart)
    ]

-- weights and bounds have at most 44, so that the counts to start from have, too
pub starts_are_within : (net : Network) → IsNet net → StartWithin bound_bits net
starts_are_within net is =
    All-weaker (IsLimitedArc (length net.blocks)) (λ arc. starting arc < 2 ^ bound_bits) (starting_small (length net.blocks)) (arcs_of net)
    (nets_are_limited net is).arcs
