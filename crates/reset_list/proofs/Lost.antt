-- What is kept of losses is how often each of them stands among all.
use Rattle.std.proofs.Common.{◌≡◌, ◌∙◌, ℕ, ◌+◌, ◌==◌, Bool, true, false, cond, ◌&&◌, Option, Some, None, List, [], ◌∷◌, ◌++◌, refl, sym, ap, subst, append_assoc, append-nil, eqb-true, arith}
use Rattle.std.specs.Prelude.{not, map, count_by}
use Rattle.std.specs.List.{filter_map, cons_option}
use Rattle.std.proofs.lemmas.Bool.{eq-eqb, and_parts}
use Rattle.std.proofs.lemmas.List.{map-append}
use Rattle.std.proofs.lemmas.List.Elements.{filter-append}
use Rattle.io_edges.specs.Faults.{next_count}
use Rattle.topology_stack.specs.Tree.{Tree}
use Rattle.view_text.specs.declared.cable.Cable.{Cable}
use Rattle.bus_diff.specs.declared.change.Change.{Change}
use Rattle.bus_diff.specs.Listed.{changes_along}
use Rattle.reset_list.specs.declared.losses.Loss.{Loss}
use Rattle.reset_list.specs.Counts.{capped}
use Rattle.reset_list.specs.Losses.{lost_cable, new_cable, is_loss, one_more_loss, lost_if, lost_by, with_times, back, back_on, back_if, back_by, unknown, losses_by}
use Rattle.reset_list.specs.Lost.{Step, losses_after, Lost, lost_at, lost_between, lost_in, all_lost, is_lost, others, firsts, PortCount, count_of, times_in, summary, LossesAreCounted}
use Rattle.reset_list.specs.Update.{updated}
use Rattle.reset_list.proofs.Capped.{how_many, how_many_count}

-- ---- two that are one

abbrev lost_by_three : ℕ → ℕ → ℕ → Lost
lost_by_three card node port = record { card = card; node = node; port = port }

pub same_lost : (l m : Lost) → is_lost l m ≡ true → l ≡ m
same_lost l m e =
    let first = and_parts (m.card == l.card) ((m.node == l.node) && (m.port == l.port)) e in
    let later = and_parts (m.node == l.node) (m.port == l.port) first.1 in
    ap (λ (c : ℕ). lost_by_three c l.node l.port) (sym (eqb-true _ _ first.0))
    ∙ ap (λ (n : ℕ). lost_by_three m.card n l.port) (sym (eqb-true _ _ later.0))
    ∙ ap (λ (p : ℕ). lost_by_three m.card m.node p) (sym (eqb-true _ _ later.1))

pub self_lost : (l : Lost) → is_lost l l ≡ true
self_lost l =
    ap (λ (b : Bool). b && ((l.node == l.node) && (l.port == l.port))) (eq-eqb l.card l.card refl)
    ∙ ap (λ (b : Bool). b && (l.port == l.port)) (eq-eqb l.node l.node refl)
    ∙ eq-eqb l.port l.port refl

pub turned : (l m : Lost) → is_lost l m ≡ true → is_lost m l ≡ true
turned l m e = ap (λ (k : Lost). is_lost m k) (same_lost l m e) ∙ self_lost m

pub turned_not : (l m : Lost) → is_lost l m ≡ false → is_lost m l ≡ false
turned_not l m e = go (is_lost m l) refl
  where
    go : (b : Bool) → is_lost m l ≡ b → b ≡ false
    go true is = let wrong : is_lost l m ≡ true = turned m l is in absurd cc
    go false is = refl

-- ---- one more at the end of a list

pub occurs : Lost → List Lost → Bool
occurs l [] = false
occurs l (x ∷ xs) = cond (is_lost l x) true (occurs l xs)

others_kept : (x l : Lost) (ys : List Lost) → is_lost x l ≡ false → others x (ys ++ l ∷ []) ≡ others x ys ++ l ∷ []
others_kept x l ys e =
    filter-append (λ m. not (is_lost x m)) ys (l ∷ [])
    ∙ ap (λ (b : Bool). others x ys ++ cond (not b) (l ∷ []) []) e

others_lack : (x l : Lost) (ys : List Lost) → is_lost x l ≡ true → others x (ys ++ l ∷ []) ≡ others x ys
others_lack x l ys e =
    filter-append (λ m. not (is_lost x m)) ys (l ∷ [])
    ∙ ap (λ (b : Bool). others x ys ++ cond (not b) (l ∷ []) []) e
    ∙ append-nil (others x ys)

firsts_with : (ls : List Lost) (l : Lost) → firsts (ls ++ l ∷ []) ≡ cond (occurs l ls) (firsts ls) (firsts ls ++ l ∷ [])
unfolding occurs
firsts_with [] l = refl
firsts_with (x ∷ ls) l = go (is_lost l x) (occurs l ls) refl (firsts_with ls l)
  where
    go : (here later : Bool) → is_lost l x ≡ here →
        firsts (ls ++ l ∷ []) ≡ cond later (firsts ls) (firsts ls ++ l ∷ []) →
        x ∷ others x (firsts (ls ++ l ∷ []))
        ≡ cond (cond here true later) (x ∷ others x (firsts ls)) (x ∷ (others x (firsts ls) ++ l ∷ []))
    go true true is more = ap (λ (ys : List Lost). x ∷ others x ys) more
    go false true is more = ap (λ (ys : List Lost). x ∷ others x ys) more
    go true false is more =
        ap (λ (ys : List Lost). x ∷ others x ys) more
        ∙ ap (λ (ys : List Lost). x ∷ ys) (others_lack x l (firsts ls) (turned l x is))
    go false false is more =
        ap (λ (ys : List Lost). x ∷ others x ys) more
        ∙ ap (λ (ys : List Lost). x ∷ ys) (others_kept x l (firsts ls) (turned_not l x is))

-- ---- each stands once

none_left : (l x : Lost) (ys : List Lost) → is_lost l x ≡ true → how_many (is_lost l) (others x ys) ≡ 0
none_left l x [] e = refl
none_left l x (y ∷ ys) e = go (is_lost x y) refl (none_left l x ys e)
  where
    go : (b : Bool) → is_lost x y ≡ b → how_many (is_lost l) (others x ys) ≡ 0 →
        how_many (is_lost l) (cond (not b) (y ∷ others x ys) (others x ys)) ≡ 0
    go true is more = more
    go false is more =
        ap (λ (b : Bool). cond b (1 + how_many (is_lost l) (others x ys)) (how_many (is_lost l) (others x ys)))
        (ap (λ (k : Lost). is_lost k y) (same_lost l x e) ∙ is)
        ∙ more

as_many_left : (l x : Lost) (ys : List Lost) → is_lost l x ≡ false →
    how_many (is_lost l) (others x ys) ≡ how_many (is_lost l) ys
as_many_left l x [] e = refl
as_many_left l x (y ∷ ys) e = go (is_lost x y) refl (as_many_left l x ys e)
  where
    go : (b : Bool) → is_lost x y ≡ b → how_many (is_lost l) (others x ys) ≡ how_many (is_lost l) ys →
        how_many (is_lost l) (cond (not b) (y ∷ others x ys) (others x ys))
        ≡ cond (is_lost l y) (1 + how_many (is_lost l) ys) (how_many (is_lost l) ys)
    go true is more =
        more
        ∙ sym (ap (λ (b : Bool). cond b (1 + how_many (is_lost l) ys) (how_many (is_lost l) ys))
        (ap (λ (k : Lost). is_lost l k) (sym (same_lost x y is)) ∙ e))
    go false is more = ap (λ (n : ℕ). cond (is_lost l y) (1 + n) n) more

pub stands_once : (l : Lost) (ls : List Lost) → how_many (is_lost l) (firsts ls) ≡ cond (occurs l ls) 1 0
unfolding occurs
stands_once l [] = refl
stands_once l (x ∷ ls) = go (is_lost l x) refl (stands_once l ls)
  where
    go : (here : Bool) → is_lost l x ≡ here → how_many (is_lost l) (firsts ls) ≡ cond (occurs l ls) 1 0 →
        cond here (1 + how_many (is_lost l) (others x (firsts ls))) (how_many (is_lost l) (others x (firsts ls)))
        ≡ cond (cond here true (occurs l ls)) 1 0
    go true is more = ap (λ (n : ℕ). 1 + n) (none_left l x (firsts ls) is)
    go false is more = as_many_left l x (firsts ls) is ∙ more

none_there : (l : Lost) (ls : List Lost) → occurs l ls ≡ false → how_many (is_lost l) ls ≡ 0
unfolding occurs
none_there l [] e = refl
none_there l (x ∷ ls) e = go (is_lost l x) e (none_there l ls)
  where
    go : (here : Bool) → cond here true (occurs l ls) ≡ false →
        (occurs l ls ≡ false → how_many (is_lost l) ls ≡ 0) →
        cond here (1 + how_many (is_lost l) ls) (how_many (is_lost l) ls) ≡ 0
    go true e more = absurd cc
    go false e more = more e

-- ---- how often they stand in a list with one more

many_with : (p : Lost → Bool) (ls : List Lost) (l : Lost) → how_many p (ls ++ l ∷ []) ≡ how_many p ls + cond (p l) 1 0
many_with p [] l = go (p l)
  where
    go : (b : Bool) → cond b (1 + 0) 0 ≡ 0 + cond b 1 0
    go true = refl
    go false = refl
many_with p (x ∷ ls) l = go (p x) (many_with p ls l)
  where
    go : (b : Bool) → how_many p (ls ++ l ∷ []) ≡ how_many p ls + cond (p l) 1 0 →
        cond b (1 + how_many p (ls ++ l ∷ [])) (how_many p (ls ++ l ∷ []))
        ≡ cond b (1 + how_many p ls) (how_many p ls) + cond (p l) 1 0
    go true more = omega (arith, more)
    go false more = more

count_with : (p : Lost → Bool) (ls : List Lost) (l : Lost) (b : Bool) → p l ≡ b →
    count_by p (ls ++ l ∷ []) ≡ count_by p ls + cond b 1 0
count_with p ls l b e =
    sym (how_many_count p (ls ++ l ∷ [])) ∙ ap (λ (n : ℕ). 0 + n) (many_with p ls l)
    ∙ ap (λ (c : Bool). 0 + (how_many p ls + cond c 1 0)) e
    ∙ moved (how_many p ls) (count_by p ls) (cond b 1 0) (how_many_count p ls)
  where
    moved : (n m k : ℕ) → 0 + n ≡ m → 0 + (n + k) ≡ m + k
    moved n m k e = omega (arith, e)

abbrev with_count : Lost → ℕ → PortCount
with_count l n = record { card = l.card; node = l.node; port = l.port; count = n }

abbrev is_count : ℕ → Cable → PortCount → Bool
is_count card c k = (k.card == card) && ((k.node == c.parent) && (k.port == c.port))

abbrev one_more : ℕ → Cable → Option PortCount → PortCount
one_more card c None = with_count (lost_at card c) 1
one_more card c (Some k) = with_count (lost_at card c) (next_count k.count)

next_capped : (n : ℕ) → next_count (capped n) ≡ capped (n + 1)
next_capped n = omega arith

as_often : (ls : List Lost) (l x : Lost) → is_lost l x ≡ false → times_in (ls ++ l ∷ []) x ≡ times_in ls x
as_often ls l x e =
    ap (λ (n : ℕ). with_count x (capped n))
    (count_with (is_lost x) ls l false (turned_not l x e) ∙ none (count_by (is_lost x) ls))
  where
    none : (n : ℕ) → n + 0 ≡ n
    none n = omega arith

once_more : (ls : List Lost) (card : ℕ) (c : Cable) →
    one_more card c (Some (times_in ls (lost_at card c))) ≡ times_in (ls ++ lost_at card c ∷ []) (lost_at card c)
once_more ls card c =
    let l : Lost = lost_at card c in
    ap (λ (n : ℕ). with_count l n)
    (next_capped (count_by (is_lost l) ls) ∙ ap capped (sym (count_with (is_lost l) ls l true (self_lost l))))

first_time : (ls : List Lost) (card : ℕ) (c : Cable) → occurs (lost_at card c) ls ≡ false →
    one_more card c None ≡ times_in (ls ++ lost_at card c ∷ []) (lost_at card c)
first_time ls card c e =
    let l : Lost = lost_at card c in
    ap (λ (n : ℕ). with_count l n)
    (sym (ap capped (count_with (is_lost l) ls l true (self_lost l)) ∙
    one (how_many (is_lost l) ls) (count_by (is_lost l) ls) (none_there l ls e) (how_many_count (is_lost l) ls)))
  where
    one : (n m : ℕ) → n ≡ 0 → 0 + n ≡ m → capped (m + 1) ≡ 1
    one n m e f = omega (arith, e, f)

-- ---- what is kept of them

module _ (card : ℕ) (c : Cable) (ls : List Lost) where
  abbrev lost : Lost
  lost = lost_at card c

  abbrev more : List Lost
  more = ls ++ lost ∷ []

  all_as_often : (fs : List Lost) → how_many (is_lost lost) fs ≡ 0 → map (times_in ls) fs ≡ map (times_in more) fs
  all_as_often [] e = refl
  all_as_often (x ∷ fs) e = go (is_lost lost x) refl e (all_as_often fs)
    where
      go : (here : Bool) → is_lost lost x ≡ here →
          cond here (1 + how_many (is_lost lost) fs) (how_many (is_lost lost) fs) ≡ 0 →
          (how_many (is_lost lost) fs ≡ 0 → map (times_in ls) fs ≡ map (times_in more) fs) →
          times_in ls x ∷ map (times_in ls) fs ≡ times_in more x ∷ map (times_in more) fs
      go true is e later = absurd (omega (arith, e))
      go false is e later =
          ap (λ (k : PortCount). k ∷ map (times_in ls) fs) (sym (as_often ls lost x is))
          ∙ ap (λ (ks : List PortCount). times_in more x ∷ ks) (later e)

  kept_once_more : (fs : List Lost) → how_many (is_lost lost) fs ≡ 1 →
      updated (is_count card c) (one_more card c) (map (times_in ls) fs) ≡ map (times_in more) fs
  kept_once_more [] e = absurd (omega (arith, e))
  kept_once_more (x ∷ fs) e = go (is_lost lost x) refl e (kept_once_more fs)
    where
      go : (here : Bool) → is_lost lost x ≡ here →
          cond here (1 + how_many (is_lost lost) fs) (how_many (is_lost lost) fs) ≡ 1 →
          (how_many (is_lost lost) fs ≡ 1 →
          updated (is_count card c) (one_more card c) (map (times_in ls) fs) ≡ map (times_in more) fs) →
          cond here (one_more card c (Some (times_in ls x)) ∷ map (times_in ls) fs)
          (times_in ls x ∷ updated (is_count card c) (one_more card c) (map (times_in ls) fs))
          ≡ times_in more x ∷ map (times_in more) fs
      go true is e later =
          ap (λ (k : PortCount). k ∷ map (times_in ls) fs)
          (subst (λ (y : Lost). one_more card c (Some (times_in ls y)) ≡ times_in more y) (same_lost lost x is) (once_more ls card c))
          ∙ ap (λ (ks : List PortCount). times_in more x ∷ ks) (all_as_often fs (omega (arith, e)))
      go false is e later =
          ap (λ (k : PortCount). k ∷ updated (is_count card c) (one_more card c) (map (times_in ls) fs)) (sym (as_often ls lost x is))
          ∙ ap (λ (ks : List PortCount). times_in more x ∷ ks) (later e)

  kept_first : (fs : List Lost) → how_many (is_lost lost) fs ≡ 0 →
      updated (is_count card c) (one_more card c) (map (times_in ls) fs)
      ≡ map (times_in ls) fs ++ one_more card c None ∷ []
  kept_first [] e = refl
  kept_first (x ∷ fs) e = go (is_lost lost x) e (kept_first fs)
    where
      go : (here : Bool) → cond here (1 + how_many (is_lost lost) fs) (how_many (is_lost lost) fs) ≡ 0 →
          (how_many (is_lost lost) fs ≡ 0 →
          updated (is_count card c) (one_more card c) (map (times_in ls) fs)
          ≡ map (times_in ls) fs ++ one_more card c None ∷ []) →
          cond here (one_more card c (Some (times_in ls x)) ∷ map (times_in ls) fs)
          (times_in ls x ∷ updated (is_count card c) (one_more card c) (map (times_in ls) fs))
          ≡ times_in ls x ∷ (map (times_in ls) fs ++ one_more card c None ∷ [])
      go true e later = absurd (omega (arith, e))
      go false e later = ap (λ (ks : List PortCount). times_in ls x ∷ ks) (later e)

  one_kept : updated (is_count card c) (one_more card c) (summary ls) ≡ summary more
  one_kept = go (occurs lost ls) refl (stands_once lost ls) (firsts_with ls lost)
    where
      go : (there : Bool) → occurs lost ls ≡ there → how_many (is_lost lost) (firsts ls) ≡ cond there 1 0 →
          firsts more ≡ cond there (firsts ls) (firsts ls ++ lost ∷ []) →
          updated (is_count card c) (one_more card c) (summary ls) ≡ summary more
      go true is once e = kept_once_more (firsts ls) once ∙ ap (map (times_in more)) (sym e)
      go false is never e =
          kept_first (firsts ls) never
          ∙ ap (λ (k : PortCount). map (times_in ls) (firsts ls) ++ k ∷ []) (first_time ls card c is)
          ∙ ap (λ (ks : List PortCount). ks ++ times_in more lost ∷ []) (all_as_often (firsts ls) never)
          ∙ sym (map-append (times_in more) (firsts ls) (lost ∷ []))
          ∙ ap (map (times_in more)) (sym e)

-- ---- of losses with their times

counts_updated : (card : ℕ) (c : Cable) (now : Option ℕ) (ls : List Loss) →
    map count_of (updated (is_loss card c) (one_more_loss card c now) ls)
    ≡ updated (is_count card c) (one_more card c) (map count_of ls)
counts_updated card c now [] = refl
counts_updated card c now (l ∷ ls) = go (is_loss card c l) (counts_updated card c now ls)
  where
    go : (here : Bool) →
        map count_of (updated (is_loss card c) (one_more_loss card c now) ls)
        ≡ updated (is_count card c) (one_more card c) (map count_of ls) →
        map count_of (cond here (one_more_loss card c now (Some l) ∷ ls) (l ∷ updated (is_loss card c) (one_more_loss card c now) ls))
        ≡ cond here (one_more card c (Some (count_of l)) ∷ map count_of ls)
        (count_of l ∷ updated (is_count card c) (one_more card c) (map count_of ls))
    go true later = refl
    go false later = ap (λ (ks : List PortCount). count_of l ∷ ks) later

-- what is written over each leaves its count
counts_stay : (f : Loss → Loss) (ls : List Loss) → ((l : Loss) → count_of (f l) ≡ count_of l) →
    map count_of (map f ls) ≡ map count_of ls
counts_stay f [] same = refl
counts_stay f (l ∷ ls) same =
    ap (λ (k : PortCount). k ∷ map count_of (map f ls)) (same l)
    ∙ ap (λ (ks : List PortCount). count_of l ∷ ks) (counts_stay f ls same)

back_stays : (card : ℕ) (now : Option ℕ) (c : Cable) (l : Loss) → count_of (back_on card now c l) ≡ count_of l
back_stays card now c l = go (is_loss card c l)
  where
    go : (here : Bool) → count_of (cond here (back now l) l) ≡ count_of l
    go true = refl
    go false = refl

unknown_stays : (card : ℕ) (l : Loss) → count_of (unknown card l) ≡ count_of l
unknown_stays card l = go (l.card == card)
  where
    go : (here : Bool) → count_of (cond here (with_times None l.shortest l) l) ≡ count_of l
    go true = refl
    go false = refl

backs_stay : (card : ℕ) (now : Option ℕ) (changes : List Change) (ls : List Loss) →
    map count_of (back_by card now changes ls) ≡ map count_of ls
backs_stay card now [] ls = refl
backs_stay card now (change ∷ changes) ls = backs_stay card now changes (back_if card now (new_cable change) ls) ∙ go (new_cable change)
  where
    go : (found : Option Cable) → map count_of (back_if card now found ls) ≡ map count_of ls
    go None = refl
    go (Some c) = counts_stay (back_on card now c) ls (back_stays card now c)

-- ---- of changes, and of resets

lost_kept : (card : ℕ) (now : Option ℕ) (found : Option Cable) (ls : List Loss) (ks : List Lost) → map count_of ls ≡ summary ks →
    map count_of (lost_if card now found ls) ≡ summary (ks ++ map (lost_at card) (cons_option found []))
lost_kept card now None ls ks e = e ∙ ap summary (sym (append-nil ks))
lost_kept card now (Some c) ls ks e =
    counts_updated card c now ls
    ∙ ap (λ (ms : List PortCount). updated (is_count card c) (one_more card c) ms) e
    ∙ one_kept card c ks

changes_kept : (card : ℕ) (now : Option ℕ) (changes : List Change) (ls : List Loss) (ks : List Lost) →
    map count_of ls ≡ summary ks →
    map count_of (lost_by card now changes ls) ≡ summary (ks ++ map (lost_at card) (filter_map lost_cable changes))
changes_kept card now [] ls ks e = e ∙ ap summary (sym (append-nil ks))
changes_kept card now (change ∷ changes) ls ks e = go (lost_cable change) (changes_kept card now changes)
  where
    go : (found : Option Cable) →
        ((ms : List Loss) (js : List Lost) → map count_of ms ≡ summary js →
        map count_of (lost_by card now changes ms) ≡ summary (js ++ map (lost_at card) (filter_map lost_cable changes))) →
        map count_of (lost_by card now changes (lost_if card now found ls))
        ≡ summary (ks ++ map (lost_at card) (cons_option found (filter_map lost_cable changes)))
    go None later = later ls ks e
    go (Some c) later =
        later (lost_if card now (Some c) ls) (ks ++ lost_at card c ∷ []) (lost_kept card now (Some c) ls ks e)
        ∙ ap summary (append_assoc ks (lost_at card c ∷ []) (map (lost_at card) (filter_map lost_cable changes)))

step_kept : (card : ℕ) (now : Option ℕ) (old new : Option Tree) (ls : List Loss) (ks : List Lost) → map count_of ls ≡ summary ks →
    map count_of (losses_by card now old new ls) ≡ summary (ks ++ lost_between card old new)
step_kept card now None new ls ks e = counts_stay (unknown card) ls (unknown_stays card) ∙ e ∙ ap summary (sym (append-nil ks))
step_kept card now (Some old) None ls ks e = e ∙ ap summary (sym (append-nil ks))
step_kept card now (Some old) (Some new) ls ks e =
    let changes : List Change = changes_along old new in
    changes_kept card now changes (back_by card now changes ls) ks (backs_stay card now changes ls ∙ e)

steps_kept : (steps : List Step) (ls : List Loss) (ks : List Lost) → map count_of ls ≡ summary ks →
    map count_of (losses_after ls steps) ≡ summary (ks ++ all_lost steps)
steps_kept [] ls ks e = e ∙ ap summary (sym (append-nil ks))
steps_kept (s ∷ steps) ls ks e =
    steps_kept steps (losses_by s.card s.time s.old s.new ls) (ks ++ lost_in s) (step_kept s.card s.time s.old s.new ls ks e)
    ∙ ap summary (append_assoc ks (lost_in s) (all_lost steps))

pub losses_counted : LossesAreCounted
losses_counted steps = steps_kept steps [] [] refl
