use Rattle.std.proofs.Common.{◌≡◌, ℕ, ◌<◌, List, [], ◌∷◌, length, refl, sym, subst, arith, append-nil}
use Rattle.phy_packet.specs.declared.packet.PhyPacket.{PhyPacket}
use Rattle.quad_lanes.specs.Pairs.{firsts}
use Rattle.view_text.specs.Pairs.{ArePacketsOf}
use Rattle.view_text.proofs.pairs.packets_of.Goals as goal

-- fewer than two quadlets make no pair
none_left : (l : List ℕ) → length l < 2 → firsts l ≡ []
none_left [] few = refl
none_left (a ∷ []) few = refl
none_left (a ∷ b ∷ l) few = absurd (omega arith)

pub returns : goal.returns
returns c =
    let none : firsts c.loop-rest.rest.now ≡ [] = none_left c.loop-rest.rest.now c.in_default.len_below in
    let whole =
    c.loop-rest.invariant [] (subst (λ (l : List ℕ). ArePacketsOf l []) (sym none) tt) in
    subst (λ (ps : List PhyPacket). ArePacketsOf (firsts c.args.quads.now) ps) (append-nil c.loop-rest.packets.items) whole
