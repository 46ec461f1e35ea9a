-- Whether two keys are equal, by their fields.
use Rattle.std.proofs.Common.{◌≡◌, List, true, ap}
use Rattle.std.specs.Bool.{Decides}
use Rattle.std.specs.Cmp.Lexicographic.{pointwise, pointwise_decides}
use Rattle.std.proofs.lemmas.Bool.Decides.{Decides-and, Decides-eqb}
use Rattle.key_types.specs.declared.key.Key.{Key}
use Rattle.key_types.specs.declared.key.Frame.{Frame}
use Rattle.key_types.specs.contracts.key.KeyPartialEq.TheImpl as the_key
use Rattle.key_types.specs.contracts.key.FramePartialEq.TheImpl as the_frame

-- a test of all fields decides whether two frames are equal
same_frame : (a b : Frame) → Decides (the_frame.ghosts.eq a b) (a ≡ b)
same_frame a b =
    let fields = Decides-and _ _ (Decides-eqb a.name.0 b.name.0) (Decides-and _ _ (Decides-eqb a.offset b.offset) (Decides-eqb a.disc b.disc)) in (
      λ (is : the_frame.ghosts.eq a b ≡ true).
          let each = fields.0 is in
          λ i. record { name = record { 0 = each.0 i }; offset = each.1.0 i; disc = each.1.1 i },
      λ (is : a ≡ b). fields.1 (ap (λ (x : Frame). x.name.0) is, (ap (λ (x : Frame). x.offset) is, ap (λ (x : Frame). x.disc) is)),
    )

same_calls : (a b : List Frame) → Decides (pointwise the_frame.ghosts.eq a b) (a ≡ b)
same_calls = pointwise_decides same_frame

-- and whether two keys are
pub same_key : (a b : Key) → Decides (the_key.ghosts.eq a b) (a ≡ b)
same_key a b =
    let fields = Decides-and _ _ (Decides-eqb a.root.0 b.root.0) (Decides-and _ _ (same_calls a.calls b.calls) (Decides-and _ _ (Decides-eqb a.offset b.offset) (Decides-eqb a.disc b.disc))) in (
      λ (is : the_key.ghosts.eq a b ≡ true).
          let each = fields.0 is in
          λ i. record { root = record { 0 = each.0 i }; calls = each.1.0 i; offset = each.1.1.0 i; disc = each.1.1.1 i },
      λ (is : a ≡ b). fields.1
          (ap (λ (x : Key). x.root.0) is, (ap (λ (x : Key). x.calls) is, (ap (λ (x : Key). x.offset) is, ap (λ (x : Key). x.disc) is))),
    )
