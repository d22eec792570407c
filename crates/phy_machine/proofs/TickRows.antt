-- A tick is done by the crates of the phases: each does the row of its phases, and a coin is drawn
-- where a contention begins and nowhere else.
use Rattle.std.proofs.Common.{◌≡◌, ℕ, Bool, true, false, Option, Some, None, refl, sym, ◌∙◌, ap, slice_get, if◌then◌else◌}
use Rattle.std.specs.Prelude.{nat_le}
use Rattle.port_state.specs.declared.signal.Level.{Level}
use Rattle.port_state.specs.declared.signal.Level.TheVariants as level
use Rattle.port_state.specs.declared.signal.Phase.{Phase}
use Rattle.port_state.specs.declared.signal.Phase.TheVariants.{ResetStart, ResetWait, TreeStart, ChildShake, ParentShake, Contend, SelfIdent, Ready}
use Rattle.port_state.specs.declared.ports.PortView.{PortView}
use Rattle.port_state.specs.declared.states.NodeState.{NodeState}
use Rattle.port_state.specs.Ports.{is_child, is_parent, is_idle, is_unnamed, every, lowest, passes, port_is}
use Rattle.port_state.specs.Coins.{Coins, coin, coins_after}
use Rattle.port_state.specs.Contention.{parent_asks, has_rival_in, has_rival, contend_at, contend_row}
use Rattle.port_state.specs.Resetting.{is_calm}
use Rattle.port_state.specs.TreeIdentify.{is_decided, parent_shake_at, parent_shake_row}
use Rattle.port_state.specs.SelfIdentify.{may_name, granted_row, self_ident_row}
use Rattle.port_state.specs.Row as row
use Rattle.port_state.specs.Row.{Row}
use Rattle.port_state.specs.Tick.{raise_timer, row_of, does, row_draws_coin}
use Rattle.port_state.specs.Tick as step
use Rattle.port_state.specs.Machine.{NodeStep, node_tick}
use Rattle.bus_reset.specs.ResetStep.{reset_row, reset_step}
use Rattle.tree_identify.specs.TreeStep.{tree_row, tree_step}
use Rattle.phy_machine.specs.Node.{node_of}
use Rattle.phy_machine.specs.codings.RowStep.{with_coins, row_step}

-- ---- which rows draw a coin

draws-if :
    (b : Bool) (r s : Row) → row_draws_coin r ≡ false → row_draws_coin s ≡ false →
    row_draws_coin (if b then r else s) ≡ false
draws-if true r s e f = e
draws-if false r s e f = f

draws-contend : (o : Option ℕ) (x : NodeState) → row_draws_coin (contend_at o x) ≡ false
draws-contend None x = refl
draws-contend (Some rival) x = draws-if (port_is (λ p. is_parent p.shown) x.view.ports rival) (row.takes_rival rival) (row.asks_again rival) refl refl

draws-granted : (o : Option ℕ) (x : NodeState) → row_draws_coin (granted_row o x) ≡ false
draws-granted (Some port) x = draws-if (port_is (λ p. p.asked) x.view.ports port) row.none (row.asks_child port) refl refl
draws-granted None x = draws-if (may_name x) row.names_itself row.none refl refl

draws-self_ident : (x : NodeState) → row_draws_coin (self_ident_row x) ≡ false
draws-self_ident x = draws-if x.view.granted (granted_row (lowest is_unnamed x.view.ports) x) row.none (draws-granted (lowest is_unnamed x.view.ports) x) refl

draws-contend_row : (x : NodeState) → row_draws_coin (contend_row x) ≡ false
draws-contend_row x = draws-if (nat_le x.view.wait x.view.timer) (contend_at x.view.parent x) row.none (draws-contend x.view.parent x) refl

-- a port that shows Child doesn't show Parent
draws-level :
    (l : Level) (parent : ℕ) →
    row_draws_coin (if is_child l then row.finds_parent parent else (if is_parent l then row.begins_contention parent else row.none))
    ≡ is_parent l
draws-level level.Reset parent = refl
draws-level level.Idle parent = refl
draws-level level.Parent parent = refl
draws-level level.Child parent = refl

draws-port :
    (o : Option PortView) (parent : ℕ) →
    row_draws_coin (if passes (λ p. is_child p.shown) o then row.finds_parent parent else (if passes (λ p. is_parent p.shown) o then row.begins_contention parent else row.none))
    ≡ passes (λ p. is_parent p.shown) o
draws-port None parent = refl
draws-port (Some p) parent = draws-level p.shown parent

draws-parent_shake :
    (o : Option ℕ) (x : NodeState) → row_draws_coin (parent_shake_at o x) ≡ parent_asks o x
draws-parent_shake None x = refl
draws-parent_shake (Some parent) x = draws-port (slice_get x.view.ports parent) parent

-- ---- a row that draws none does the same whatever the coin

does-no_coin :
    (c : Bool) (r : Row) (x : NodeState) → row_draws_coin r ≡ false → does c r x ≡ does false r x
does-no_coin c row.none x e = refl
does-no_coin c row.ends_reset x e = refl
does-no_coin c row.begins_tree x e = refl
does-no_coin c row.takes_roles x e = refl
does-no_coin c row.times_out x e = refl
does-no_coin c row.awaits_parent x e = refl
does-no_coin c row.becomes_root x e = refl
does-no_coin c (row.finds_parent parent) x e = refl
does-no_coin c (row.begins_contention parent) x e = absurd cc
does-no_coin c (row.takes_rival rival) x e = refl
does-no_coin c (row.asks_again rival) x e = refl
does-no_coin c (row.asks_child port) x e = refl
does-no_coin c row.names_itself x e = refl

abbrev row_done : Coins → Row → NodeState → NodeStep
row_done coins r x = with_coins (if row_draws_coin r then coins_after coins else coins) (does (coin coins) r x)

done-no_coin :
    (coins : Coins) (r : Row) (x : NodeState) → row_draws_coin r ≡ false →
    row_done coins r x ≡ with_coins coins (does false r x)
done-no_coin coins r x e = rw (e, does-no_coin (coin coins) r x e) refl

-- ---- each phase

reset-done :
    (ph : Phase) (coins : Coins) (x : NodeState) → x.view.phase ≡ ph →
    row_draws_coin (reset_row ph x) ≡ false →
    row_done coins (reset_row ph x) x ≡ with_coins coins (reset_step x)
reset-done ph coins x e d = done-no_coin coins (reset_row ph x) x d ∙ ap (λ q. with_coins coins (does false (reset_row q x) x)) (sym e)

tree-done :
    (ph : Phase) (coins : Coins) (x : NodeState) → x.view.phase ≡ ph →
    row_draws_coin (tree_row ph x) ≡ false →
    row_done coins (tree_row ph x) x ≡ with_coins coins (tree_step x)
tree-done ph coins x e d = done-no_coin coins (tree_row ph x) x d ∙ ap (λ q. with_coins coins (does false (tree_row q x) x)) (sym e)

rival-done :
    (coins : Coins) (x : NodeState) → x.view.phase ≡ ParentShake →
    row_done coins (parent_shake_row x) x ≡ row_step ParentShake x coins
rival-done coins x e =
    let rival : has_rival x ≡ parent_asks x.view.parent x = ap (λ q. has_rival_in q x) e in
    go (has_rival x) (draws-parent_shake x.view.parent x ∙ sym rival)
  where
    go :
        (b : Bool) → row_draws_coin (parent_shake_row x) ≡ b →
        row_done coins (parent_shake_row x) x
        ≡ (if b then with_coins (coins_after coins) (does (coin coins) (parent_shake_row x) x) else with_coins coins (tree_step x))
    go true d = ap (λ a. with_coins (if a then coins_after coins else coins) (does (coin coins) (parent_shake_row x) x)) d
    go false d = tree-done ParentShake coins x e d

done-phase :
    (ph : Phase) (coins : Coins) (x : NodeState) → x.view.phase ≡ ph →
    row_done coins (row_of ph x) x ≡ row_step ph x coins
done-phase ResetStart coins x e = reset-done ResetStart coins x e (draws-if (nat_le x.timing.hold x.view.timer) row.ends_reset row.none refl refl)
done-phase ResetWait coins x e = reset-done ResetWait coins x e (draws-if (every (λ p. is_calm p.shown) x.view.ports) row.begins_tree row.none refl refl)
done-phase TreeStart coins x e =
    tree-done TreeStart coins x e
    (draws-if (is_decided x) row.takes_roles (if nat_le x.timing.timeout x.view.timer then row.times_out else row.none) refl
    (draws-if (nat_le x.timing.timeout x.view.timer) row.times_out row.none refl refl))
done-phase ChildShake coins x e = tree-done ChildShake coins x e (draws-if (every (λ p. if p.child then is_idle p.shown else true) x.view.ports) row.awaits_parent row.none refl refl)
done-phase ParentShake coins x e = rival-done coins x e
done-phase Contend coins x e = done-no_coin coins (contend_row x) x (draws-contend_row x)
done-phase SelfIdent coins x e = done-no_coin coins (self_ident_row x) x (draws-self_ident x)
done-phase Ready coins x e = refl

pub tick-row_step :
    (x : NodeState) (coins : Coins) →
    node_tick (node_of x coins) ≡ row_step x.view.phase (raise_timer x) coins
unfolding step.tick
tick-row_step x coins = done-phase x.view.phase coins (raise_timer x) refl
