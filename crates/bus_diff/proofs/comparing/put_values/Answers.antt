use Rattle.std.proofs.Common.{◌≡◌, ◌∙◌, Option, Some, None, List, [], ◌++◌, length, refl, sym, ap, append-nil, arith}
use Rattle.std.specs.Prelude.{slice_get}
use Rattle.std.proofs.lemmas.Option.{slice_get_read, slice_get_past}
use Rattle.self_id.specs.declared.node.Attrs.{Attrs}
use Rattle.self_id.specs.Node.{Node}
use Rattle.bus_diff.specs.declared.pair.Pair.{Pair}
use Rattle.bus_diff.specs.declared.change.Change.{Change}
use Rattle.bus_diff.specs.Listed.{other_attrs, other_values, values_at}
use Rattle.bus_diff.proofs.comparing.put_values.Goals as goal

none_new : (p : Pair) (a : Option Node) → other_values p a None ≡ []
none_new p None = refl
none_new p (Some m) = refl

past_old : (ns ms : List Node) (p : Pair) (xs : List Change) → slice_get ns p.old ≡ None →
    xs ≡ xs ++ values_at ns ms p
past_old ns ms p xs e = rw e (sym (append-nil xs))

past_new : (ns ms : List Node) (p : Pair) (xs : List Change) → slice_get ms p.new ≡ None →
    xs ≡ xs ++ values_at ns ms p
past_new ns ms p xs e = rw e (rw (none_new p (slice_get ns p.old)) (sym (append-nil xs)))

both : (ns ms : List Node) (p : Pair) (m n : Node) (a b : Attrs) (xs ys : List Change) →
    slice_get ns p.old ≡ Some m → slice_get ms p.new ≡ Some n → a ≡ m.attrs → b ≡ n.attrs →
    ys ≡ xs ++ other_attrs p a b → ys ≡ xs ++ values_at ns ms p
both ns ms p m n a b xs ys e f a_is b_is more =
    rw (e, f) (more ∙ ap (λ (x : Attrs). xs ++ other_attrs p x b) a_is ∙ ap (λ (y : Attrs). xs ++ other_attrs p m.attrs y) b_is)

pub returns-then-old_id-old : goal.returns-then-old_id-old
returns-then-old_id-old c =
    past_old c.args.old.now c.args.new.now c.args.pair _ (slice_get_past c.args.old.now c.args.pair.old (omega (arith, c.if-old_id-old.true)))

pub returns-then-new_id-new : goal.returns-then-new_id-new
returns-then-new_id-new c =
    past_new c.args.old.now c.args.new.now c.args.pair _ (slice_get_past c.args.new.now c.args.pair.new (omega (arith, c.if-new_id-new.true)))

pub returns : goal.returns
returns c =
    both c.args.old.now c.args.new.now c.args.pair c.index-old-old_id.result c.index-new-new_id.result c.attrs_of.result c.attrs_of-2.result _ _
    (slice_get_read c.args.old.now (length c.args.old.now) c.args.pair.old c.index-old-old_id.result refl (omega (arith, c.if-old_id-old.false)) c.index-old-old_id.is)
    (slice_get_read c.args.new.now (length c.args.new.now) c.args.pair.new c.index-new-new_id.result refl (omega (arith, c.if-new_id-new.false)) c.index-new-new_id.is)
    c.attrs_of.ensures c.attrs_of-2.ensures c.in_ok-put_attrs.ensures
