-- What is kept of losses has the shortest time for which each port had no node.
use Rattle.std.proofs.Common.{◌≡◌, ◌∙◌, ℕ, ◌+◌, ◌≤◌, ◌==◌, Bool, true, false, cond, Option, Some, None, List, [], ◌∷◌, ◌++◌, refl, sym, ap, subst, arith}
use Rattle.std.specs.Prelude.{map, filter, option_map, All}
use Rattle.std.specs.List.{filter_map, flat_map, cons_option}
use Rattle.std.proofs.lemmas.List.Elements.{All-nil, All-cons}
use Rattle.topology_stack.specs.Tree.{Tree}
use Rattle.view_text.specs.declared.cable.Cable.{Cable}
use Rattle.bus_diff.specs.declared.change.Change.{Change}
use Rattle.bus_diff.specs.Listed.{changes_along}
use Rattle.reset_list.specs.declared.losses.Loss.{Loss}
use Rattle.reset_list.specs.Losses.{lost_cable, new_cable, one_more_loss, lost_if, lost_by, with_times, back, back_on, back_if, back_by, unknown, losses_by}
use Rattle.reset_list.specs.Lost.{Step, losses_after, Lost, lost_at, is_lost, all_lost, firsts, PortCount, count_of, times_in}
use Rattle.reset_list.specs.Shortest.{Happening, loses, regains, unsure, happened_between, happened_in, concerns, away, times_away, least, port_of, IsShortest, ShortestIsKept}
use Rattle.reset_list.specs.Times.{between, shorter}
use Rattle.reset_list.specs.Update.{first_of, updated}
use Rattle.reset_list.proofs.Capped.{how_many}
use Rattle.reset_list.proofs.Lost.{same_lost, self_lost, turned_not, occurs, stands_once, losses_counted}

-- ---- one happening after the other

abbrev apply : Happening → List Loss → List Loss
apply (loses card c time) ls = lost_if card time (Some c) ls
apply (regains card c time) ls = back_if card time (Some c) ls
apply (unsure card) ls = map (unknown card) ls

abbrev apply_all : List Loss → List Happening → List Loss
apply_all ls [] = ls
apply_all ls (h ∷ hs) = apply_all (apply h ls) hs

apply-append : (ls : List Loss) (hs is : List Happening) → apply_all ls (hs ++ is) ≡ apply_all (apply_all ls hs) is
apply-append ls [] is = refl
apply-append ls (h ∷ hs) is = apply-append (apply h ls) hs is

backs_apply : (card : ℕ) (now : Option ℕ) (changes : List Change) (ls : List Loss) →
    back_by card now changes ls ≡ apply_all ls (map (λ c. regains card c now) (filter_map new_cable changes))
backs_apply card now [] ls = refl
backs_apply card now (change ∷ changes) ls = go (new_cable change) (backs_apply card now changes)
  where
    go : (found : Option Cable) →
        ((ms : List Loss) → back_by card now changes ms ≡ apply_all ms (map (λ c. regains card c now) (filter_map new_cable changes))) →
        back_by card now changes (back_if card now found ls)
        ≡ apply_all ls (map (λ c. regains card c now) (cons_option found (filter_map new_cable changes)))
    go None later = later ls
    go (Some c) later = later (back_if card now (Some c) ls)

losses_apply : (card : ℕ) (now : Option ℕ) (changes : List Change) (ls : List Loss) →
    lost_by card now changes ls ≡ apply_all ls (map (λ c. loses card c now) (filter_map lost_cable changes))
losses_apply card now [] ls = refl
losses_apply card now (change ∷ changes) ls = go (lost_cable change) (losses_apply card now changes)
  where
    go : (found : Option Cable) →
        ((ms : List Loss) → lost_by card now changes ms ≡ apply_all ms (map (λ c. loses card c now) (filter_map lost_cable changes))) →
        lost_by card now changes (lost_if card now found ls)
        ≡ apply_all ls (map (λ c. loses card c now) (cons_option found (filter_map lost_cable changes)))
    go None later = later ls
    go (Some c) later = later (lost_if card now (Some c) ls)

step_apply : (card : ℕ) (now : Option ℕ) (old new : Option Tree) (ls : List Loss) →
    losses_by card now old new ls ≡ apply_all ls (happened_between card now old new)
step_apply card now None new ls = refl
step_apply card now (Some old) None ls = refl
step_apply card now (Some old) (Some new) ls =
    let changes : List Change = changes_along old new in
    losses_apply card now changes (back_by card now changes ls)
    ∙ ap (λ (ms : List Loss). apply_all ms (map (λ c. loses card c now) (filter_map lost_cable changes))) (backs_apply card now changes ls)
    ∙ sym (apply-append ls (map (λ c. regains card c now) (filter_map new_cable changes)) (map (λ c. loses card c now) (filter_map lost_cable changes)))

steps_apply : (steps : List Step) (ls : List Loss) → losses_after ls steps ≡ apply_all ls (flat_map happened_in steps)
steps_apply [] ls = refl
steps_apply (s ∷ steps) ls =
    steps_apply steps (losses_by s.card s.time s.old s.new ls)
    ∙ ap (λ (ms : List Loss). apply_all ms (flat_map happened_in steps)) (step_apply s.card s.time s.old s.new ls)
    ∙ sym (apply-append ls (happened_in s) (flat_map happened_in steps))

-- ---- what is kept of a port

abbrev kept : Lost → List Loss → Option Loss
kept l ls = first_of (λ k. is_lost l (port_of k)) ls

module _ (m : Lost) (f : Option Loss → Loss) (is : (o : Option Loss) → port_of (f o) ≡ m) where
  kept_same : (ls : List Loss) → kept m (updated (λ k. is_lost m (port_of k)) f ls) ≡ Some (f (kept m ls))
  kept_same [] = ap (λ (p : Lost). cond (is_lost m p) (Some (f None)) None) (is None) ∙ ap (λ (b : Bool). cond b (Some (f None)) None) (self_lost m)
  kept_same (x ∷ ls) = go (is_lost m (port_of x)) refl (kept_same ls)
    where
      go : (here : Bool) → is_lost m (port_of x) ≡ here →
          kept m (updated (λ k. is_lost m (port_of k)) f ls) ≡ Some (f (kept m ls)) →
          kept m (cond here (f (Some x) ∷ ls) (x ∷ updated (λ k. is_lost m (port_of k)) f ls)) ≡ Some (f (cond here (Some x) (kept m ls)))
      go true e later =
          ap (λ (p : Lost). cond (is_lost m p) (Some (f (Some x))) (kept m ls)) (is (Some x))
          ∙ ap (λ (b : Bool). cond b (Some (f (Some x))) (kept m ls)) (self_lost m)
      go false e later =
          ap (λ (b : Bool). cond b (Some x) (kept m (updated (λ k. is_lost m (port_of k)) f ls))) e
          ∙ later

  kept_other : (l : Lost) → is_lost l m ≡ false → (ls : List Loss) → kept l (updated (λ k. is_lost m (port_of k)) f ls) ≡ kept l ls
  kept_other l not [] = ap (λ (p : Lost). cond (is_lost l p) (Some (f None)) None) (is None) ∙ ap (λ (b : Bool). cond b (Some (f None)) None) not
  kept_other l not (x ∷ ls) = go (is_lost m (port_of x)) refl (kept_other l not ls)
    where
      go : (here : Bool) → is_lost m (port_of x) ≡ here →
          kept l (updated (λ k. is_lost m (port_of k)) f ls) ≡ kept l ls →
          kept l (cond here (f (Some x) ∷ ls) (x ∷ updated (λ k. is_lost m (port_of k)) f ls)) ≡ kept l (x ∷ ls)
      go true e later =
          ap (λ (p : Lost). cond (is_lost l p) (Some (f (Some x))) (kept l ls)) (is (Some x))
          ∙ ap (λ (b : Bool). cond b (Some (f (Some x))) (kept l ls)) not
          ∙ sym (ap (λ (b : Bool). cond b (Some x) (kept l ls)) (ap (λ (p : Lost). is_lost l p) (sym (same_lost m (port_of x) e)) ∙ not))
      go false e later = ap (λ (o : Option Loss). cond (is_lost l (port_of x)) (Some x) o) later

kept_over : (f : Loss → Loss) → ((k : Loss) → port_of (f k) ≡ port_of k) → (l : Lost) (ls : List Loss) →
    kept l (map f ls) ≡ option_map f (kept l ls)
kept_over f is l [] = refl
kept_over f is l (x ∷ ls) =
    ap (λ (p : Lost). cond (is_lost l p) (Some (f x)) (kept l (map f ls))) (is x)
    ∙ go (is_lost l (port_of x)) (kept_over f is l ls)
  where
    go : (here : Bool) → kept l (map f ls) ≡ option_map f (kept l ls) →
        cond here (Some (f x)) (kept l (map f ls)) ≡ option_map f (cond here (Some x) (kept l ls))
    go true later = refl
    go false later = later

back_port : (card : ℕ) (now : Option ℕ) (c : Cable) (k : Loss) → port_of (back_on card now c k) ≡ port_of k
back_port card now c k = go (is_lost (lost_at card c) (port_of k))
  where
    go : (here : Bool) → port_of (cond here (back now k) k) ≡ port_of k
    go true = refl
    go false = refl

unknown_port : (card : ℕ) (k : Loss) → port_of (unknown card k) ≡ port_of k
unknown_port card k = go (k.card == card)
  where
    go : (here : Bool) → port_of (cond here (with_times None k.shortest k) k) ≡ port_of k
    go true = refl
    go false = refl

more_port : (card : ℕ) (now : Option ℕ) (c : Cable) (o : Option Loss) → port_of (one_more_loss card c now o) ≡ lost_at card c
more_port card now c None = refl
more_port card now c (Some k) = refl

abbrev moved : Lost → Happening → Option Loss → Option Loss
moved l (loses card c time) o = cond (is_lost (lost_at card c) l) (Some (one_more_loss card c time o)) o
moved l (regains card c time) o = option_map (back_on card time c) o
moved l (unsure card) o = option_map (unknown card) o

kept_apply : (l : Lost) (h : Happening) (ls : List Loss) → kept l (apply h ls) ≡ moved l h (kept l ls)
kept_apply l (loses card c time) ls = go (is_lost (lost_at card c) l) refl
  where
    go : (here : Bool) → is_lost (lost_at card c) l ≡ here →
        kept l (lost_if card time (Some c) ls) ≡ cond here (Some (one_more_loss card c time (kept l ls))) (kept l ls)
    go true e =
        subst (λ (p : Lost). kept p (lost_if card time (Some c) ls) ≡ Some (one_more_loss card c time (kept p ls))) (same_lost (lost_at card c) l e)
        (kept_same (lost_at card c) (one_more_loss card c time) (more_port card time c) ls)
    go false e = kept_other (lost_at card c) (one_more_loss card c time) (more_port card time c) l (turned_not (lost_at card c) l e) ls
kept_apply l (regains card c time) ls = kept_over (back_on card time c) (back_port card time c) l ls
kept_apply l (unsure card) ls = kept_over (unknown card) (unknown_port card) l ls

abbrev run : Lost → Option Loss → List Happening → Option Loss
run l o [] = o
run l o (h ∷ hs) = run l (moved l h o) hs

kept_all : (l : Lost) (hs : List Happening) (ls : List Loss) → kept l (apply_all ls hs) ≡ run l (kept l ls) hs
kept_all l [] ls = refl
kept_all l (h ∷ hs) ls = kept_all l hs (apply h ls) ∙ ap (λ (o : Option Loss). run l o hs) (kept_apply l h ls)

-- ---- its shortest time

-- where the port has had no node since then, if it is known
abbrev times_from : Option ℕ → List Happening → List ℕ
times_from since [] = []
times_from since (loses card c time ∷ hs) = times_from time hs
times_from since (regains card c time ∷ hs) = cons_option (between since time) (times_from None hs)
times_from since (unsure card ∷ hs) = times_from None hs

abbrev since_of : Happening → Option ℕ
since_of (loses card c time) = time
since_of (regains card c time) = None
since_of (unsure card) = None

by_two : (h i : Happening) (hs : List Happening) → cons_option (away h i) (times_from (since_of i) hs) ≡ times_from (since_of h) (i ∷ hs)
by_two (loses card c time) (loses other d later) hs = refl
by_two (loses card c time) (regains other d later) hs = refl
by_two (loses card c time) (unsure other) hs = refl
by_two (regains card c time) (loses other d later) hs = refl
by_two (regains card c time) (regains other d later) hs = refl
by_two (regains card c time) (unsure other) hs = refl
by_two (unsure card) (loses other d later) hs = refl
by_two (unsure card) (regains other d later) hs = refl
by_two (unsure card) (unsure other) hs = refl

side_by_side : (h : Happening) (hs : List Happening) → times_away (h ∷ hs) ≡ times_from (since_of h) hs
side_by_side h [] = refl
side_by_side h (i ∷ hs) = ap (λ (ts : List ℕ). cons_option (away h i) ts) (side_by_side i hs) ∙ by_two h i hs

from_none : (hs : List Happening) → times_away hs ≡ times_from None hs
from_none [] = refl
from_none (loses card c time ∷ hs) = side_by_side (loses card c time) hs
from_none (regains card c time ∷ hs) = side_by_side (regains card c time) hs
from_none (unsure card ∷ hs) = side_by_side (unsure card) hs

shorter_none : (s : Option ℕ) → shorter s None ≡ s
shorter_none None = refl
shorter_none (Some n) = refl

least_of_three : (a b c : Option ℕ) → shorter (shorter a b) c ≡ shorter a (shorter b c)
least_of_three None b c = refl
least_of_three (Some m) None c = refl
least_of_three (Some m) (Some n) None = refl
least_of_three (Some m) (Some n) (Some k) = ap (λ (x : ℕ). Some x) (omega arith)

with_one : (s t : Option ℕ) (ts : List ℕ) → shorter (shorter s t) (least ts) ≡ shorter s (least (cons_option t ts))
with_one s None ts = ap (λ (o : Option ℕ). shorter o (least ts)) (shorter_none s)
with_one s (Some n) ts = least_of_three s (Some n) (least ts)

-- it is kept of the port since when it has no node, and the shortest time so far
abbrev Stands : Lost → Option ℕ → Option ℕ → Option Loss → Type 0
Stands l since shortest None = (since ≡ None) × (shortest ≡ None)
Stands l since shortest (Some k) = (port_of k ≡ l) × (k.lost_at ≡ since) × (k.shortest ≡ shortest)

lost_stands : (l : Lost) (card : ℕ) (c : Cable) (time since shortest : Option ℕ) (o : Option Loss) → lost_at card c ≡ l →
    Stands l since shortest o → Stands l time shortest (Some (one_more_loss card c time o))
lost_stands l card c time since shortest None e s = (e, refl, sym s.1)
lost_stands l card c time since shortest (Some k) e s = (e, refl, s.2)

back_stands : (l : Lost) (card : ℕ) (c : Cable) (time since shortest : Option ℕ) (o : Option Loss) → is_lost (lost_at card c) l ≡ true →
    Stands l since shortest o → Stands l None (shorter shortest (between since time)) (option_map (back_on card time c) o)
back_stands l card c time since shortest None e s =
    (refl, ap (λ (t : Option ℕ). shorter shortest (between t time)) s.0 ∙ ap (λ (t : Option ℕ). shorter t None) s.1)
back_stands l card c time since shortest (Some k) e s =
    subst (λ (b : Bool). Stands l None (shorter shortest (between since time)) (Some (cond b (back time k) k)))
    (sym (ap (λ (p : Lost). is_lost (lost_at card c) p) s.0 ∙ e))
    (s.0, refl, ap (λ (t : Option ℕ). shorter t (between k.lost_at time)) s.2 ∙ ap (λ (t : Option ℕ). shorter shortest (between t time)) s.1)

back_elsewhere : (l : Lost) (card : ℕ) (c : Cable) (time since shortest : Option ℕ) (o : Option Loss) → is_lost (lost_at card c) l ≡ false →
    Stands l since shortest o → Stands l since shortest (option_map (back_on card time c) o)
back_elsewhere l card c time since shortest None e s = s
back_elsewhere l card c time since shortest (Some k) e s =
    subst (λ (b : Bool). Stands l since shortest (Some (cond b (back time k) k)))
    (sym (ap (λ (p : Lost). is_lost (lost_at card c) p) s.0 ∙ e)) s

unknown_stands : (l : Lost) (card : ℕ) (since shortest : Option ℕ) (o : Option Loss) → (l.card == card) ≡ true →
    Stands l since shortest o → Stands l None shortest (option_map (unknown card) o)
unknown_stands l card since shortest None e s = (refl, s.1)
unknown_stands l card since shortest (Some k) e s =
    subst (λ (b : Bool). Stands l None shortest (Some (cond b (with_times None k.shortest k) k)))
    (sym (ap (λ (p : Lost). p.card == card) s.0 ∙ e)) (s.0, refl, s.2)

unknown_elsewhere : (l : Lost) (card : ℕ) (since shortest : Option ℕ) (o : Option Loss) → (l.card == card) ≡ false →
    Stands l since shortest o → Stands l since shortest (option_map (unknown card) o)
unknown_elsewhere l card since shortest None e s = s
unknown_elsewhere l card since shortest (Some k) e s =
    subst (λ (b : Bool). Stands l since shortest (Some (cond b (with_times None k.shortest k) k)))
    (sym (ap (λ (p : Lost). p.card == card) s.0 ∙ e)) s

ends : (l : Lost) (hs : List Happening) (since shortest : Option ℕ) (o : Option Loss) → Stands l since shortest o →
    (k : Loss) → run l o hs ≡ Some k → k.shortest ≡ shorter shortest (least (times_from since (filter (concerns l) hs)))
ends l [] since shortest None s k e = absurd cc
ends l [] since shortest (Some j) s k e =
    let same : j ≡ k = cc in
    ap (λ (x : Loss). x.shortest) (sym same) ∙ s.2 ∙ sym (shorter_none shortest)
ends l (loses card c time ∷ hs) since shortest o s k e = go (is_lost (lost_at card c) l) refl e (λ t u p stands is. ends l hs t u p stands k is)
  where
    go : (here : Bool) → is_lost (lost_at card c) l ≡ here →
        run l (cond here (Some (one_more_loss card c time o)) o) hs ≡ Some k →
        ((t u : Option ℕ) (p : Option Loss) → Stands l t u p → run l p hs ≡ Some k →
        k.shortest ≡ shorter u (least (times_from t (filter (concerns l) hs)))) →
        k.shortest ≡ shorter shortest (least (times_from since (cond here (loses card c time ∷ filter (concerns l) hs) (filter (concerns l) hs))))
    go true is e later =
        later time shortest (Some (one_more_loss card c time o)) (lost_stands l card c time since shortest o (same_lost (lost_at card c) l is) s) e
    go false is e later = later since shortest o s e
ends l (regains card c time ∷ hs) since shortest o s k e = go (is_lost (lost_at card c) l) refl (λ t u p stands is. ends l hs t u p stands k is)
  where
    go : (here : Bool) → is_lost (lost_at card c) l ≡ here →
        ((t u : Option ℕ) (p : Option Loss) → Stands l t u p → run l p hs ≡ Some k →
        k.shortest ≡ shorter u (least (times_from t (filter (concerns l) hs)))) →
        k.shortest ≡ shorter shortest (least (times_from since (cond here (regains card c time ∷ filter (concerns l) hs) (filter (concerns l) hs))))
    go true is later =
        later None (shorter shortest (between since time)) (option_map (back_on card time c) o) (back_stands l card c time since shortest o is s) e
        ∙ with_one shortest (between since time) (times_from None (filter (concerns l) hs))
    go false is later = later since shortest (option_map (back_on card time c) o) (back_elsewhere l card c time since shortest o is s) e
ends l (unsure card ∷ hs) since shortest o s k e = go (l.card == card) refl (λ t u p stands is. ends l hs t u p stands k is)
  where
    go : (here : Bool) → (l.card == card) ≡ here →
        ((t u : Option ℕ) (p : Option Loss) → Stands l t u p → run l p hs ≡ Some k →
        k.shortest ≡ shorter u (least (times_from t (filter (concerns l) hs)))) →
        k.shortest ≡ shorter shortest (least (times_from since (cond here (unsure card ∷ filter (concerns l) hs) (filter (concerns l) hs))))
    go true is later = later None shortest (option_map (unknown card) o) (unknown_stands l card since shortest o is s) e
    go false is later = later since shortest (option_map (unknown card) o) (unknown_elsewhere l card since shortest o is s) e

-- ---- each port stands once

abbrev many : Lost → List Loss → ℕ
many l ls = how_many (λ k. is_lost l (port_of k)) ls

abbrev lost_of : PortCount → Lost
lost_of k = record { card = k.card; node = k.node; port = k.port }

as_many : {X Y : Type 0} (p : Y → Bool) (f : X → Y) (xs : List X) → how_many p (map f xs) ≡ how_many (λ x. p (f x)) xs
as_many p f [] = refl
as_many p f (x ∷ xs) = ap (λ (n : ℕ). cond (p (f x)) (1 + n) n) (as_many p f xs)

at_most_one : (b : Bool) → cond b 1 0 ≤ 1
at_most_one true = omega arith
at_most_one false = omega arith

once : (steps : List Step) (l : Lost) → many l (losses_after [] steps) ≤ 1
once steps l =
    let counts : List PortCount = map count_of (losses_after [] steps) in
    let same : many l (losses_after [] steps) ≡ cond (occurs l (all_lost steps)) 1 0 =
    sym (as_many (λ k. is_lost l (lost_of k)) count_of (losses_after [] steps))
    ∙ ap (λ (ks : List PortCount). how_many (λ k. is_lost l (lost_of k)) ks) (losses_counted steps)
    ∙ as_many (λ k. is_lost l (lost_of k)) (times_in (all_lost steps)) (firsts (all_lost steps))
    ∙ stands_once l (all_lost steps) in
    omega (arith, same, at_most_one (occurs l (all_lost steps)))

some_there : (l : Lost) (ls : List Loss) (k : Loss) → kept l ls ≡ Some k → 1 ≤ many l ls
some_there l [] k e = absurd cc
some_there l (x ∷ ls) k e = go (is_lost l (port_of x)) e (some_there l ls k)
  where
    go : (here : Bool) → cond here (Some x) (kept l ls) ≡ Some k → (kept l ls ≡ Some k → 1 ≤ many l ls) →
        1 ≤ cond here (1 + many l ls) (many l ls)
    go true e later = omega arith
    go false e later = later e

fewer : (b : Bool) (n : ℕ) → cond b (1 + n) n ≤ 1 → n ≤ 1
fewer true n h = omega (arith, h)
fewer false n h = h

each_kept : (ls : List Loss) → ((l : Lost) → many l ls ≤ 1) → All (λ k. kept (port_of k) ls ≡ Some k) ls
each_kept [] few = All-nil (λ k. kept (port_of k) [] ≡ Some k)
each_kept (x ∷ ls) few =
    All-cons (λ k. kept (port_of k) (x ∷ ls) ≡ Some k) x ls
    (ap (λ (b : Bool). cond b (Some x) (kept (port_of x) ls)) (self_lost (port_of x)))
    (λ at d lt. behind _ (each_kept ls (λ l. fewer (is_lost l (port_of x)) (many l ls) (few l)) at d lt))
  where
    behind : (k : Loss) → kept (port_of k) ls ≡ Some k → kept (port_of k) (x ∷ ls) ≡ Some k
    behind k e = go (is_lost (port_of k) (port_of x)) (few (port_of k))
      where
        go : (here : Bool) → cond here (1 + many (port_of k) ls) (many (port_of k) ls) ≤ 1 →
            cond here (Some x) (kept (port_of k) ls) ≡ Some k
        go true h = absurd (omega (arith, h, some_there (port_of k) ls k e))
        go false h = e

pub shortest_kept : ShortestIsKept
shortest_kept steps =
    λ at d lt. so _ (each_kept (losses_after [] steps) (once steps) at d lt)
  where
    so : (k : Loss) → kept (port_of k) (losses_after [] steps) ≡ Some k → IsShortest steps k
    so k e =
        let hs : List Happening = flat_map happened_in steps in
        ends (port_of k) hs None None None (refl, refl) k
        (sym (ap (λ (ls : List Loss). kept (port_of k) ls) (steps_apply steps []) ∙ kept_all (port_of k) hs []) ∙ e)
        ∙ ap least (sym (from_none (filter (concerns (port_of k)) hs)))
