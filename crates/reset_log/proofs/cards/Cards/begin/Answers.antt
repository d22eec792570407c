use Rattle.std.proofs.Common.{◌≡◌, ◌∙◌, ℕ, true, None, List, [], ◌∷◌, ◌++◌, length, sym, ap, subst, arith}
use Rattle.std.specs.BTreeMap.{Updates}
use Rattle.std.specs.BTreeSet.{contains}
use Rattle.std.specs.Ordering.{nat_cmp}
use Rattle.std.specs.Prelude.{Some}
use Rattle.reset_list.specs.Update.{place_of, updated}
use Rattle.reset_list.proofs.Lemmas.{updated_none}
use Rattle.reset_log.specs.declared.cards.Known.{Known}
use Rattle.reset_log.specs.Noted.{is_of, known_by}
use Rattle.reset_log.specs.codings.Kept.{AreKept}
use Rattle.reset_log.proofs.Kept.{kept_first}
use Rattle.reset_log.proofs.cards.Cards.begin.Goals as goal

pub invariant_of-self-2 : goal.invariant_of-self-2
invariant_of-self-2 c =
    let known = c.self.inside.known.items in
    let places = c.insert.new.self in
    let drawn = c.add_if.new.places in
    let none : place_of (is_of c.args.reset.now.card) known ≡ None = rw c.self.view_is c.requires in
    let last : c.len-at.result ≡ length known = omega (arith, c.len-at.ensures, c.self.inside.known.ok.0) in
    subst (λ (ks : List Known). AreKept places drawn ks)
    (sym (c.push_reserved.ensures.items ∙ ap (λ (ks : List Known). ks ++ c.first.result ∷ []) c.reserve.ensures.items))
    (kept_first c.self.inside.places places c.self.inside.drawn drawn known c.first.result c.args.reset.now c.args.heard c.self.invariant none
    (subst (λ (n : ℕ). Updates nat_cmp c.self.inside.places places c.args.reset.now.card (Some n)) last c.in_ok-insert.ensures.updates)
    (λ heard. subst (λ (n : ℕ). contains nat_cmp drawn n ≡ true) last (c.in_ok-add_if.ensures.there (c.is_some.ensures ∙ heard)))
    c.add_if.ensures.others c.first.ensures)

pub returns : goal.returns
returns c =
    let known = c.self.inside.known.items in
    let none : place_of (is_of c.args.reset.now.card) known ≡ None = rw c.self.view_is c.requires in
    c.push_reserved.ensures.items ∙ ap (λ (ks : List Known). ks ++ c.first.result ∷ []) c.reserve.ensures.items
    ∙ updated_none (is_of c.args.reset.now.card) (known_by c.args.reset.now c.args.heard) known c.first.result none c.first.ensures
    ∙ ap (λ (ks : List Known). updated (is_of c.args.reset.now.card) (known_by c.args.reset.now c.args.heard) ks) c.self.view_is
