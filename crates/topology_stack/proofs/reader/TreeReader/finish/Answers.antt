use Rattle.std.proofs.Common.{◌≡◌, length, refl, arith}
use Rattle.topology_stack.proofs.Streaming.{none_of, placed, kept_list, kept_fault, no_tree, that_fault, accepted, ends_within, no_quads, ends_unrooted, ends_rooted}
use Rattle.topology_stack.proofs.reader.TreeReader.finish.Goals as goal

pub returns-in-Some-clause-only : goal.returns-in-Some-clause-only
returns-in-Some-clause-only c = λ l t s bus e.
    no_tree l l c.in-Some.fault t t refl (kept_fault c.args.self.now c.self.inside.quads.items c.self.inside.fault c.in-Some.fault l c.self.view_is c.in-Some.is s).0 bus e

pub returns-in-Some-clause-exact : goal.returns-in-Some-clause-exact
returns-in-Some-clause-exact c = λ l f s is.
    that_fault l l c.in-Some.fault f refl (kept_fault c.args.self.now c.self.inside.quads.items c.self.inside.fault c.in-Some.fault l c.self.view_is c.in-Some.is s).0 is

pub returns-then-self-length-clause-only : goal.returns-then-self-length-clause-only
returns-then-self-length-clause-only c = λ l t s bus e.
    let none = none_of c.self.inside.fault c.in_default.not-Some in
    let at_end = placed c.self.inside.quads.items c.self.inside.place c.self.inside.fault none c.self.invariant in
    let fault = ends_within c.self.inside.quads.items c.self.inside.place at_end (omega (arith, c.if-self-length.true, c.len-length.ensures.value)) in
    rw c.len-length.ensures.value (no_tree c.self.inside.quads.items l _ t t (kept_list c.args.self.now c.self.inside.quads.items c.self.inside.fault l c.self.view_is none s) fault bus e)

pub returns-then-self-length-clause-exact : goal.returns-then-self-length-clause-exact
returns-then-self-length-clause-exact c = λ l f s is.
    let none = none_of c.self.inside.fault c.in_default.not-Some in
    let at_end = placed c.self.inside.quads.items c.self.inside.place c.self.inside.fault none c.self.invariant in
    let fault = ends_within c.self.inside.quads.items c.self.inside.place at_end (omega (arith, c.if-self-length.true, c.len-length.ensures.value)) in
    rw c.len-length.ensures.value (that_fault c.self.inside.quads.items l _ f (kept_list c.args.self.now c.self.inside.quads.items c.self.inside.fault l c.self.view_is none s) fault is)

pub returns-then-self-clause-exact : goal.returns-then-self-clause-exact
returns-then-self-clause-exact c = λ l f s is.
    let none = none_of c.self.inside.fault c.in_default.not-Some in
    let at_end = placed c.self.inside.quads.items c.self.inside.place c.self.inside.fault none c.self.invariant in
    let tree = ends_rooted c.self.inside.quads.items c.self.inside.place at_end (omega (arith, c.if-self-length.false, c.len-length.ensures.value)) c.if-self.true in
    absurd (accepted c.self.inside.quads.items l f (kept_list c.args.self.now c.self.inside.quads.items c.self.inside.fault l c.self.view_is none s) tree is)

pub returns-then-length-eq0-clause-only : goal.returns-then-length-eq0-clause-only
returns-then-length-eq0-clause-only c = λ l t s bus e.
    let none = none_of c.self.inside.fault c.in_default.not-Some in
    let empty : length c.self.inside.quads.items ≡ 0 = omega (arith, c.if-length-eq0.true, c.len-length.ensures.value) in
    no_tree c.self.inside.quads.items l _ t t (kept_list c.args.self.now c.self.inside.quads.items c.self.inside.fault l c.self.view_is none s) (no_quads c.self.inside.quads.items empty) bus e

pub returns-then-length-eq0-clause-exact : goal.returns-then-length-eq0-clause-exact
returns-then-length-eq0-clause-exact c = λ l f s is.
    let none = none_of c.self.inside.fault c.in_default.not-Some in
    let empty : length c.self.inside.quads.items ≡ 0 = omega (arith, c.if-length-eq0.true, c.len-length.ensures.value) in
    that_fault c.self.inside.quads.items l _ f (kept_list c.args.self.now c.self.inside.quads.items c.self.inside.fault l c.self.view_is none s) (no_quads c.self.inside.quads.items empty) is

pub returns-clause-only : goal.returns-clause-only
returns-clause-only c = λ l t s bus e.
    let none = none_of c.self.inside.fault c.in_default.not-Some in
    let at_end = placed c.self.inside.quads.items c.self.inside.place c.self.inside.fault none c.self.invariant in
    let fault = ends_unrooted c.self.inside.quads.items c.self.inside.place at_end (omega (arith, c.if-self-length.false, c.len-length.ensures.value)) c.if-self.false (omega (arith, c.if-length-eq0.false, c.len-length.ensures.value)) in
    rw c.len-length.ensures.value (no_tree c.self.inside.quads.items l _ t t (kept_list c.args.self.now c.self.inside.quads.items c.self.inside.fault l c.self.view_is none s) fault bus e)

pub returns-clause-exact : goal.returns-clause-exact
returns-clause-exact c = λ l f s is.
    let none = none_of c.self.inside.fault c.in_default.not-Some in
    let at_end = placed c.self.inside.quads.items c.self.inside.place c.self.inside.fault none c.self.invariant in
    let fault = ends_unrooted c.self.inside.quads.items c.self.inside.place at_end (omega (arith, c.if-self-length.false, c.len-length.ensures.value)) c.if-self.false (omega (arith, c.if-length-eq0.false, c.len-length.ensures.value)) in
    rw c.len-length.ensures.value (that_fault c.self.inside.quads.items l _ f (kept_list c.args.self.now c.self.inside.quads.items c.self.inside.fault l c.self.view_is none s) fault is)
