-- A node that is read into the place behind others, as the loop takes it.
use Rattle.std.proofs.Common.{◌≡◌, ◌∙◌, ℕ, ◌<◌, Bool, false, List, [], ◌∷◌, ◌++◌, length, get_or, Result, Err, refl, sym, subst}
use Rattle.std.proofs.Math.Seq.{get_or-append_seam}
use Rattle.self_id.specs.declared.standard.Standard.{Standard}
use Rattle.self_id.specs.Node.{Node}
use Rattle.self_id.specs.Group.{StandsAt}
use Rattle.topology_stack.specs.declared.fault.TreeStop.{TreeStop}
use Rattle.topology_stack.specs.declared.fault.TreeStop.TheVariants.{Fault, Memory}
use Rattle.topology_stack.specs.Answer.{IfFault}
use Rattle.topology_stack.specs.Behind.{IsReadBehind, IsGroupFault}
use Rattle.topology_stack.specs.Refused.{Refused}
use Rattle.topology_stack.proofs.Loop.{Reads, is_group_fault, refuses}
use Rattle.topology_stack.proofs.Lemmas.{is_refused}

abbrev pub at_place : TreeStop → Result ℕ TreeStop
at_place stop = Err stop

abbrev pub at_nodes : TreeStop → Result (List Node) TreeStop
at_nodes stop = Err stop

-- a fault of the group that should stand there is the list's
pub is_stopped : (standard : Standard) (quads : List ℕ) (at found : ℕ) (rooted : Bool) (ns : List Node)
    (stop : TreeStop) → at < length quads → rooted ≡ false → length ns < 63 →
    Reads standard quads at found rooted ns →
    IfFault (at_place stop) (IsGroupFault standard quads at ns) →
    IfFault (at_nodes stop) (λ f. Refused standard quads f)
is_stopped standard quads at found rooted ns (Fault f) lt is room h g =
    rw g.is (is_refused standard _ _ (is_group_fault standard quads at found rooted ns g.of_group lt is room h
    (refuses standard quads at (length ns) ns g.of_group refl room g.refused)))
is_stopped standard quads at found rooted ns (Memory e) lt is room h g = tt

-- it stands there with its group, and behind the others
pub record IsTaken (standard : Standard) (quads : List ℕ) (at : ℕ) (old new : List Node) (place : ℕ)
    (n : Node) : Type 0 where
  pub stands : StandsAt standard quads at (length old) n place
  pub behind : new ≡ old ++ n ∷ []

-- so it is for the node that the loop looks at
pub is_taken : (standard : Standard) (quads : List ℕ) (at : ℕ) (old new : List Node) (place id : ℕ)
    (n : Node) → id ≡ length old → IsReadBehind standard quads at old new place →
    n ≡ get_or new id n → IsTaken standard quads at old new place n
is_taken standard quads at old new place id n e h i =
    let same : n ≡ h.node = i ∙ rw (h.behind, e) (get_or-append_seam old h.node [] n) in
    let P : Node → Type 0 = IsTaken standard quads at old new place in
    subst P (sym same) (record { stands = h.stands; behind = h.behind })
