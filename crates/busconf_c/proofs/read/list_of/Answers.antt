use Rattle.std.proofs.Common.{◌≡◌, ℕ, List, Result, Err, refl, sym, ap, ◌∙◌}
use Rattle.std.specs.Prelude.{Some}
use Rattle.quad_lanes.specs.Pairs.{quads_of, first_bad_pair}
use Rattle.quad_lanes.specs.declared.pairs.PairFault.{PairFault}
use Rattle.quad_lanes.specs.declared.pairs.PairFault.TheVariants.{Length}
use Rattle.c_records.specs.Faults.{fault_with}
use Rattle.busconf_c.specs.Answers.{length_is_bad, pair_is_bad}
use Rattle.busconf_c.proofs.read.list_of.Goals as goal

abbrev no_pairs : PairFault → Result (List ℕ) PairFault
no_pairs f = Err f

pub returns-in-Err-Length-clause-none : goal.returns-in-Err-Length-clause-none
returns-in-Err-Length-clause-none c =
    let is : c.pairs_of.result ≡ Err (Length c.in-Err-Length.whole_pairs) = c.in-Err-Length.is ∙ ap no_pairs c.in-Err-Length.field-0-is in
    let told = (c.pairs_of.ensures.cut c.in-Err-Length.whole_pairs).0 is in
    let shown : c.fault_with.result ≡ fault_with 12 c.in-Err-Length.whole_pairs 0 0 = rw c.in-Err-Length.field-0-is at c.fault_with.ensures in
    length_is_bad told.0 (shown ∙ ap (λ (n : ℕ). fault_with 12 n 0 0) told.1) refl

pub returns-in-Some-clause-none : goal.returns-in-Some-clause-none
returns-in-Some-clause-none c =
    let shown : c.as_slice.result.now ≡ quads_of c.args.bytes.now = c.as_slice.ensures ∙ c.in-Ok.ensures.quads in
    let is : first_bad_pair (quads_of c.args.bytes.now) ≡ Some c.in-Some.pair = ap (λ (quads : List ℕ). first_bad_pair quads) (sym shown) ∙ sym c.first_bad_pair.ensures ∙ c.in-Some.is in
    pair_is_bad c.in-Some.pair c.in-Ok.ensures.whole is c.fault_with-in-Some.ensures refl
