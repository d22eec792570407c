-- How a capture with a flaw comes of the list of a bus.
use Rattle.std.specs.Prelude.{◌≡◌, ◌⊎◌, ℕ, ◌+◌, ◌<◌, List, [], ◌∷◌, ◌++◌, length, take, slice_set, get_or}
use Rattle.quad_lanes.specs.Capture.{capture}
use Rattle.self_id.specs.declared.standard.Standard.{Standard}
use Rattle.topology_stack.specs.Tree.{Tree, IsBusTreeOf, emits, walk}
use Rattle.flawed_capture.specs.declared.flaw.Flaw.{Flaw}
use Rattle.flawed_capture.specs.declared.flaw.Flaw.TheVariants.{BadLength, BadInverse, NotSelfId, WrongId, BadOrder, Cut, TwoParents, Empty, TooFewChildren, TreesLeft, AfterRoot, NoRoot, TooMany}
use Rattle.flawed_capture.specs.Flaw.{HasListFlaw}
use Rattle.flawed_capture.specs.Other.{IsOther}

-- ---- lists

-- one quadlet of the list is replaced
pub record HasOther (list spoilt : List ℕ) : Type 0 where
  pub at : ℕ
  pub quad : ℕ
  pub inside : at < length list
  pub parts : spoilt ≡ slice_set list at quad

-- one is replaced, and the list ends after it
pub record EndsWithOther (list spoilt : List ℕ) : Type 0 where
  pub at : ℕ
  pub quad : ℕ
  pub inside : at < length list
  pub parts : spoilt ≡ take (at + 1) (slice_set list at quad)

-- the list ends at a place
pub record IsFront (list spoilt : List ℕ) : Type 0 where
  pub end : ℕ
  pub parts : spoilt ≡ take end list

-- one quadlet follows after the list
pub record HasMore (list spoilt : List ℕ) : Type 0 where
  pub more : ℕ
  pub parts : spoilt ≡ list ++ (more ∷ [])

-- one is replaced, and one follows
pub record HasOtherAndMore (list spoilt : List ℕ) : Type 0 where
  pub at : ℕ
  pub quad : ℕ
  pub more : ℕ
  pub inside : at < length list
  pub parts : spoilt ≡ slice_set list at quad ++ (more ∷ [])

-- the list is changed as for a flaw of this kind: for most kinds one quadlet is replaced
abbrev pub IsSpoiltList : Flaw → List ℕ → List ℕ → Type 0
IsSpoiltList Empty list spoilt = spoilt ≡ []
IsSpoiltList Cut list spoilt = EndsWithOther list spoilt
IsSpoiltList NoRoot list spoilt = IsFront list spoilt ⊎ HasOther list spoilt
IsSpoiltList AfterRoot list spoilt = HasMore list spoilt ⊎ HasOther list spoilt
IsSpoiltList TooMany list spoilt = HasOtherAndMore list spoilt
IsSpoiltList flaw list spoilt = HasOther list spoilt

-- ---- captures

-- the capture ends earlier
pub record IsShorter (list bytes : List ℕ) : Type 0 where
  pub end : ℕ
  pub parts : bytes ≡ take end (capture list)

-- one byte of the capture is replaced
pub record HasOtherByte (list bytes : List ℕ) : Type 0 where
  pub at : ℕ
  pub byte : ℕ
  pub parts : bytes ≡ slice_set (capture list) at byte

-- the bytes are the capture of the list that is changed so
pub record IsOfSpoilt (flaw : Flaw) (list bytes : List ℕ) : Type 0 where
  pub spoilt : List ℕ
  pub is_spoilt : IsSpoiltList flaw list spoilt
  pub parts : bytes ≡ capture spoilt

-- the bytes come of the list's capture as a flaw of this kind comes
abbrev pub IsSpoilt : List ℕ → List ℕ → Flaw → Type 0
IsSpoilt list bytes BadLength = IsShorter list bytes
IsSpoilt list bytes BadInverse = HasOtherByte list bytes
IsSpoilt list bytes flaw = IsOfSpoilt flaw list bytes

-- wherever the list has a packet without cables here in place of its own, trees are left
abbrev pub LeavesTrees : Standard → List ℕ → ℕ → Type 0
LeavesTrees standard list at =
    (quad : ℕ) → IsOther TreesLeft standard (get_or list at 0) quad →
    HasListFlaw standard (slice_set list at quad) TreesLeft

-- A flaw of this kind comes of the change at this place of the list of any bus. That of TreesLeft comes
-- where the root has children, which isn't one place for all buses.
abbrev pub ComesAt : Standard → Flaw → List ℕ → ℕ → Type 0
ComesAt standard BadLength list at = Unit {0}
ComesAt standard BadInverse list at = Unit {0}
ComesAt standard NotSelfId list at = at ≡ 0
ComesAt standard WrongId list at = at ≡ 0
ComesAt standard BadOrder list at = at ≡ 0
ComesAt standard Cut list at = at ≡ 0
ComesAt standard TwoParents list at = at ≡ 0
ComesAt standard TooFewChildren list at = at ≡ 0
ComesAt standard TreesLeft list at = LeavesTrees standard list at
ComesAt standard Empty list at = Unit {0}
ComesAt standard AfterRoot list at = at + 1 ≡ length list
ComesAt standard NoRoot list at = at + 1 ≡ length list
ComesAt standard TooMany list at = at + 1 ≡ length list

-- ---- buses

-- a bus tree of a standard with so many nodes emits the list
pub record IsListOfBus (standard : Standard) (nodes : ℕ) (list : List ℕ) : Type 0 where
  pub t : Tree
  pub bus : IsBusTreeOf standard t
  pub count : length (walk t) ≡ nodes
  pub emitted : emits t ≡ list

-- the bytes come so of the capture of a bus with so many nodes
pub record IsOfBus (standard : Standard) (nodes : ℕ) (flaw : Flaw) (bytes : List ℕ) : Type 0 where
  pub list : List ℕ
  pub bus : IsListOfBus standard nodes list
  pub spoilt : IsSpoilt list bytes flaw
