-- A set with a root comes to self identify.
use Rattle.std.proofs.Common.{◌≡◌, inl, inr, ℕ, zero, suc, ◌+◌, ◌*◌, ◌≤◌, false, length, List, Some, slice_get, sym, subst, arith}
use Rattle.convergence.proofs.Common.{Holds, IsComponent, PortNode, CableWorld, turn_at, turn, node-after, quiet-then, after-cabling, PlacedHold, HoldSchedule, holds_after, with_holds, quiet_after, IsRoot, AreIdentifying}
use Rattle.convergence.proofs.coins.Drawers.{pair-no-root}
use Rattle.convergence.specs.Turns.{slack, seen_turns}
use Rattle.convergence.proofs.turns.TwoTurns.{slack-later}
use Rattle.convergence.proofs.rounds.Grown.{Grown, grown-turn, grown-after}
use Rattle.convergence.proofs.resets.ResetsDone.{done-over}
use Rattle.convergence.proofs.rounds.Shaken.{is_unrooted, search-set, shaken-out, rival-of, all-identify, root-turn, identify-turn}

-- a node of the set has no parent
pub record HasRoot (w : CableWorld) (set : ℕ) : Type 0 where
  pub node : ℕ
  pub holds : Holds set node
  pub root : IsRoot w node

module _ (set : ℕ) where
  root-next : (w : CableWorld) → Grown w set → HasRoot w set → HasRoot (turn w) set
  root-next w g r =
      let y : PortNode = (turn_at w r.node r.root.node).node in
      let at : slice_get (turn w).nodes r.node ≡ Some y = node-after w r.node r.root.node g.lawful.well_formed.count r.root.at in
      record {
        node = r.node;
        holds = r.holds;
        root = record { node = y; at = at; late = (grown-turn w set g).late r.node y r.holds at; parentless = root-turn w set g r.node r.holds r.root y at };
      }

  pub root-held :
      (holds : List PlacedHold) (w : CableWorld) → HasRoot w set → HasRoot (with_holds holds w) set
  root-held holds w r = record {
    node = r.node;
    holds = r.holds;
    root = record { node = r.root.node; at = r.root.at; late = r.root.late; parentless = r.root.parentless };
  }

module _ (hs : HoldSchedule) (set : ℕ) where
  pub component-after :
      (v : CableWorld) (node i : ℕ) → IsComponent v.cabling node set →
      IsComponent (quiet_after hs i v).cabling node set
  component-after v node i c = subst (λ w. IsComponent w node set) (sym (after-cabling hs i v)) c

  pub root-after :
      (v : CableWorld) → Grown v set → (i : ℕ) → HasRoot v set → HasRoot (quiet_after hs i v) set
  unfolding quiet_after
  root-after v g zero r = root-held set (hs 0) v r
  root-after v g (suc i) r =
      root-held set (hs (suc i)) (turn (quiet_after hs i v))
      (root-next set (quiet_after hs i v) (grown-after hs v set g i) (root-after v g i r))

  pub identify-after :
      (v : CableWorld) → Grown v set → (i : ℕ) → AreIdentifying v set →
      AreIdentifying (quiet_after hs i v) set
  unfolding quiet_after
  identify-after v g zero r = r
  identify-after v g (suc i) r =
      identify-turn (quiet_after hs i v) set (grown-after hs v set g i) (identify-after v g i r)

  pub rooted-ends :
      (v : CableWorld) → Grown v set → (node : ℕ) → IsComponent v.cabling node set → HasRoot v set →
      (i : ℕ) × (i ≤ 3 * length v.nodes * (seen_turns v + seen_turns v) + 1 + slack v)
      × AreIdentifying (quiet_after hs i v) set
  rooted-ends v g node whole r =
      let s = shaken-out set hs v g in
      let w : CableWorld = quiet_after hs s.0 v in
      let gw : Grown w set = grown-after hs v set g s.0 in
      let alone : (k : ℕ) (x : PortNode) → Holds set k → slice_get w.nodes k ≡ Some x → is_unrooted x ≡ false = elim (search-set set is_unrooted w) [
        | inl none ↦ none
        | inr f ↦
            let m = rival-of w set gw s.2 f.0 f.1 in
            let root = root-after v g s.0 r in
            absurd (pair-no-root w gw.lawful gw.contested (done-over w gw.lawful gw.done) m.0 m.1 m.3 node set root.node (component-after v node s.0 whole) (subst (Holds set) (sym m.2) f.1.holds) root.holds root.root)
      ] in
      (s.0 + (slack w + 1), omega (arith, s.1, slack-later hs v g.lawful s.0), subst (λ (u : CableWorld). AreIdentifying u set) (sym (quiet-then hs s.0 (slack w + 1) v)) (all-identify w set gw s.2 (holds_after s.0 hs) alone))
