-- The marked blocks are the reached ones.
use Rattle.std.proofs.Common.{◌≡◌, ◌≢◌, ℕ, ◌+◌, ◌<◌, ◌≤◌, ◌⊎◌, inl, inr, Bool, true, false, cond, nat_lt, nat_le, Option, Some, None, List, length, refl, sym, ap, ◌∙◌, subst, arith}
use Rattle.std.specs.Prelude.{slice_index}
use Rattle.std.proofs.lemmas.Bool.{cases_lt, true≢false}
use Rattle.std.proofs.lemmas.Bool.Decides.{nat_tests}
use Rattle.config_rom.specs.declared.fault.RomFault.{RomFault}
use Rattle.config_rom.specs.declared.fault.RomFault.TheVariants.{RomLength, RomTooLong, RomEmpty, NoInfo, Minimal, RomCut, BusName, Outside, SelfTarget}
use Rattle.config_rom.specs.declared.block.BlockKind.{BlockKind}
use Rattle.config_rom.specs.declared.block.BlockKind.TheVariants.{Directory, Leaf}
use Rattle.config_rom.specs.declared.marks.Marks.{Marks}
use Rattle.config_rom.specs.Layout.{end_of}
use Rattle.config_rom.specs.Block.{kind_of, value_of, IsEntryOf, LeadsTo, Blocks, IsClosed, IsReachable, IsSelfTarget, HasFault, IsFirstFault}
use Rattle.config_rom.specs.codings.Marks.{has_mark, is_past, covers, Adds, AddsTargets, TakesPlace, Taken}

-- ---- one directory

-- an entry leads behind its directory
behind : (quads : List ℕ) (at entry target : ℕ) (k : BlockKind) → LeadsTo quads at entry k target →
    at < target
behind quads at entry target k l = omega (arith, l.is_entry.behind, l.target_is)

last_or_before : (entry before : ℕ) → entry < before + 1 → (entry ≡ before) ⊎ (entry < before)
last_or_before entry before lt = elim (cases_lt entry before) [
  | inl less ↦ inr less
  | inr more ↦ inl (omega (arith, lt, more))
]

some_none : (k : BlockKind) (o : Option BlockKind) → o ≡ None → o ≡ Some k → ⊥
some_none k o n s = cc

-- an entry that leads to no block
pub skip_entry : (quads : List ℕ) (at entry : ℕ) (old m : Marks) →
    kind_of (slice_index quads entry) ≡ None → AddsTargets quads at entry old m →
    AddsTargets quads at (entry + 1) old m
skip_entry quads at entry old m none h = record {
  covered = λ e target k lt l. elim (last_or_before e entry lt) [
    | inl is ↦ absurd (some_none k (kind_of (slice_index quads entry)) none (subst (λ x. kind_of (slice_index quads x) ≡ Some k) is l.kind_is))
    | inr less ↦ h.covered e target k less l
  ];
  kept = h.kept;
  only = h.only;
  beyond = h.beyond;
  none_itself = λ e lt s. elim (last_or_before e entry lt) [
    | inl is ↦ some_none s.kind (kind_of (slice_index quads entry)) none (subst (λ x. kind_of (slice_index quads x) ≡ Some s.kind) is s.leads.kind_is)
    | inr less ↦ h.none_itself e less s
  ];
}

same_kind : (a b : BlockKind) (o : Option BlockKind) → o ≡ Some a → o ≡ Some b → a ≡ b
same_kind a b o e f = cc

-- an entry that leads to another block
pub add_entry : (quads : List ℕ) (at entry : ℕ) (kind : BlockKind) (old m new : Marks) →
    IsEntryOf quads at entry → kind_of (slice_index quads entry) ≡ Some kind →
    value_of (slice_index quads entry) ≢ 0 →
    Adds m new kind (entry + value_of (slice_index quads entry)) → AddsTargets quads at entry old m → AddsTargets quads at (entry + 1) old new
add_entry quads at entry kind old m new is kind_is some a h =
    let place = entry + value_of (slice_index quads entry) in
    let leads : LeadsTo quads at entry kind place = record { is_entry = is; kind_is = kind_is; target_is = refl } in
    record {
      covered = λ e target k lt l. elim (last_or_before e entry lt) [
        | inl same ↦
            let k_is : kind ≡ k = same_kind kind k (kind_of (slice_index quads entry)) kind_is (subst (λ x. kind_of (slice_index quads x) ≡ Some k) same l.kind_is) in
            let t_is : place ≡ target = sym (l.target_is ∙ ap (λ x. x + value_of (slice_index quads x)) same) in
            subst (λ x. covers new k x ≡ true) t_is (subst (λ x. covers new x place ≡ true) k_is a.covered)
        | inr less ↦ a.kept k target (h.covered e target k less l)
      ];
      kept = λ k p c. a.kept k p (h.kept k p c);
      only = λ k p lt c. elim (a.only k p lt c) [
        | inl before ↦ h.only k p lt before
        | inr now ↦ inr (entry, subst (λ x. LeadsTo quads at entry k x) (sym now.1) (subst (λ x. LeadsTo quads at entry x place) (sym now.0) leads))
      ];
      beyond = λ b e. elim (a.beyond b e) [
        | inl before ↦ h.beyond b before
        | inr now ↦ inr (entry, kind, subst (λ x. LeadsTo quads at entry kind x) (sym now.0) leads, now.1)
      ];
      none_itself = λ e lt s. elim (last_or_before e entry lt) [
        | inl same ↦ some (omega (arith, subst (λ x. x ≡ x + value_of (slice_index quads x)) same s.leads.target_is))
        | inr less ↦ h.none_itself e less s
      ];
    }

-- ---- one place

pub no_fault_at : (quads : List ℕ) (k : BlockKind) (at : ℕ) (f : RomFault) →
    end_of quads at ≤ length quads →
    (k ≡ Directory → (entry : ℕ) → entry < end_of quads at → IsSelfTarget quads at entry → ⊥) →
    HasFault quads k at f → ⊥
no_fault_at quads k at (Outside p) whole none h = omega (arith, whole, h.1)
no_fault_at quads Directory at (SelfTarget p) whole none h = none refl p h.1.leads.is_entry.inside h.1
no_fault_at quads Leaf at (SelfTarget p) whole none h = h
no_fault_at quads Directory at (RomLength p) whole none h = h
no_fault_at quads Directory at (RomTooLong p) whole none h = h
no_fault_at quads Directory at (RomEmpty p) whole none h = h
no_fault_at quads Directory at (NoInfo p) whole none h = h
no_fault_at quads Directory at (Minimal p) whole none h = h
no_fault_at quads Directory at (RomCut p) whole none h = h
no_fault_at quads Directory at (BusName p q) whole none h = h
no_fault_at quads Leaf at (RomLength p) whole none h = h
no_fault_at quads Leaf at (RomTooLong p) whole none h = h
no_fault_at quads Leaf at (RomEmpty p) whole none h = h
no_fault_at quads Leaf at (NoInfo p) whole none h = h
no_fault_at quads Leaf at (Minimal p) whole none h = h
no_fault_at quads Leaf at (RomCut p) whole none h = h
no_fault_at quads Leaf at (BusName p q) whole none h = h

with_targets : (quads : List ℕ) (root at : ℕ) (old new : Marks) → at < 256 →
    has_mark old Directory at ≡ true → end_of quads at ≤ length quads →
    AddsTargets quads at (end_of quads at) old new → Taken quads root at old →
    Taken quads root (at + 1) new
with_targets quads root at old new small here whole t h = record {
  root_in = t.kept Directory root h.root_in;
  closed = λ directory entry target k lt has l. elim (last_or_before directory at lt) [
    | inl same ↦ let l' : LeadsTo quads at entry k target = subst (λ x. LeadsTo quads x entry k target) same l in t.covered entry target k l'.is_entry.inside l'
    | inr less ↦ elim (t.only Directory directory (omega (arith, less, small)) has) [
      | inl before ↦ t.kept k target (h.closed directory entry target k less before l)
      | inr now ↦ absurd (omega (arith, less, behind quads at now.0 directory Directory now.1))
    ]
  ];
  reached = λ k p lt has. elim (t.only k p lt has) [
    | inl before ↦ h.reached k p lt before
    | inr now ↦ λ set c. c.targets_in at now.0 p k (h.reached Directory at small here set c) now.1
  ];
  beyond = λ b e. elim (t.beyond b e) [
    | inl before ↦ h.beyond b before
    | inr now ↦ (now.1, (λ set c. c.targets_in at now.0 b now.1 (h.reached Directory at small here set c) now.2), now.3)
  ];
  faultless = λ k p lt has f fault. elim (last_or_before p at lt) [
    | inl same ↦ no_fault_at quads k at f whole (λ is entry inside s. t.none_itself entry inside s) (subst (λ x. HasFault quads k x f) same fault)
    | inr less ↦ elim (t.only k p (omega (arith, less, small)) has) [
      | inl before ↦ h.faultless k p less before f fault
      | inr now ↦ omega (arith, less, behind quads at now.0 p k now.1)
    ]
  ];
}

without_targets : (quads : List ℕ) (root at : ℕ) (m : Marks) → has_mark m Directory at ≡ false →
    ((k : BlockKind) → has_mark m k at ≡ true → end_of quads at ≤ length quads) →
    Taken quads root at m → Taken quads root (at + 1) m
without_targets quads root at m none whole h = record {
  root_in = h.root_in;
  closed = λ directory entry target k lt has l. elim (last_or_before directory at lt) [
    | inl same ↦ absurd (true≢false (sym (subst (λ x. has_mark m Directory x ≡ true) same has) ∙ none))
    | inr less ↦ h.closed directory entry target k less has l
  ];
  reached = h.reached;
  beyond = h.beyond;
  faultless = λ k p lt has f fault. elim (last_or_before p at lt) [
    | inl same ↦
        let here : has_mark m k at ≡ true = subst (λ x. has_mark m k x ≡ true) same has in
        no_fault_at quads k at f (whole k here) (λ is entry inside s. true≢false (sym (subst (λ x. has_mark m x at ≡ true) is here) ∙ none)) (subst (λ x. HasFault quads k x f) same fault)
    | inr less ↦ h.faultless k p less has f fault
  ];
}

pub take_more : (quads : List ℕ) (root at : ℕ) (old new : Marks) → at < 256 →
    TakesPlace quads at old new → Taken quads root at old → Taken quads root (at + 1) new
take_more quads root at old new small t h = go (has_mark old Directory at) refl
  where
    go : (b : Bool) → has_mark old Directory at ≡ b → Taken quads root (at + 1) new
    go true e = with_targets quads root at old new small e (t.whole Directory e) (t.targets e) h
    go false e = subst (λ m. Taken quads root (at + 1) m) (sym (t.same e)) (without_targets quads root at old e t.whole h)

none_is : (b : ℕ) (o : Option ℕ) → o ≡ None → o ≡ Some b → ⊥
none_is b o n s = cc

-- ---- what is reached is marked

-- the marked blocks below a place, and all from it on
abbrev marked_below : Marks → ℕ → Blocks
marked_below m at k p = cond (nat_lt p at) (has_mark m k p) true

low : (m : Marks) (at p : ℕ) (k : BlockKind) → p < at → marked_below m at k p ≡ has_mark m k p
low m at p k lt = let t : nat_lt p at ≡ true = grind (arith, nat_tests) in ap (λ b. cond b (has_mark m k p) true) t

high : (m : Marks) (at p : ℕ) (k : BlockKind) → at ≤ p → marked_below m at k p ≡ true
high m at p k le = let t : nat_lt p at ≡ false = grind (arith, nat_tests) in ap (λ b. cond b (has_mark m k p) true) t

covered_low : (m : Marks) (p : ℕ) (k : BlockKind) → p < 256 → covers m k p ≡ has_mark m k p
covered_low m p k lt = let t : nat_lt p 256 ≡ true = grind (arith, nat_tests) in ap (λ b. cond b (has_mark m k p) (is_past m.beyond p)) t

covered_high : (m : Marks) (p : ℕ) (k : BlockKind) → 256 ≤ p → covers m k p ≡ is_past m.beyond p
covered_high m p k le = let t : nat_lt p 256 ≡ false = grind (arith, nat_tests) in ap (λ b. cond b (has_mark m k p) (is_past m.beyond p)) t

below_closed : (quads : List ℕ) (root at : ℕ) (m : Marks) → root < 256 → at ≤ 256 →
    Taken quads root at m → IsClosed quads root (marked_below m at)
below_closed quads root at m small few h = record {
  root_in = elim (cases_lt root at) [
    | inl less ↦ low m at root Directory less ∙ sym (covered_low m root Directory small) ∙ h.root_in
    | inr more ↦ high m at root Directory more
  ];
  targets_in = λ directory entry target k has l. elim (cases_lt target at) [
    | inr more ↦ high m at target k more
    | inl less ↦
        let lt : directory < at = omega (arith, less, behind quads directory entry target k l) in
        low m at target k less ∙ sym (covered_low m target k (omega (arith, less, few)))
        ∙ h.closed directory entry target k lt (sym (low m at directory Directory lt) ∙ has) l
  ];
}

below_marked : (quads : List ℕ) (root at : ℕ) (m : Marks) (k : BlockKind) (p : ℕ) → root < 256 →
    at ≤ 256 → Taken quads root at m → IsReachable quads root k p → p < at → has_mark m k p ≡ true
below_marked quads root at m k p small few h r lt = sym (low m at p k lt) ∙ r (marked_below m at) (below_closed quads root at m small few h)

-- a marked block with a fault has the first one
pub first_fault_at : (quads : List ℕ) (root at : ℕ) (m : Marks) (k : BlockKind) (f : RomFault) →
    root < 256 → at < 256 → Taken quads root at m → has_mark m k at ≡ true → HasFault quads k at f →
    IsFirstFault quads root f
first_fault_at quads root at m k f root_small small h here has = record {
  kind = k;
  at = at;
  reached = h.reached k at small here;
  has = has;
  earlier = λ other p r lt g fault. h.faultless other p lt (below_marked quads root at m other p root_small (omega (arith, small)) h r lt) g fault;
}

past_more : (o : Option ℕ) (p q : ℕ) → p ≤ q → is_past o p ≡ true → is_past o q ≡ true
past_more None p q le e = e
past_more (Some b) p q le e = grind (arith, nat_tests, le, e)

-- all marks together
all_closed : (quads : List ℕ) (root : ℕ) (m : Marks) → Taken quads root 256 m →
    IsClosed quads root (covers m)
all_closed quads root m h = record {
  root_in = h.root_in;
  targets_in = λ directory entry target k has l. elim (cases_lt directory 256) [
    | inl less ↦ h.closed directory entry target k less (sym (covered_low m directory Directory less) ∙ has) l
    | inr more ↦
        let after = behind quads directory entry target k l in
        covered_high m target k (omega (arith, after, more)) ∙ past_more m.beyond directory target (omega (arith, after)) (sym (covered_high m directory Directory more) ∙ has)
  ];
}

pub past_end : (quads : List ℕ) (root b : ℕ) (m : Marks) → length quads ≤ 256 →
    Taken quads root 256 m → m.beyond ≡ Some b → IsFirstFault quads root (Outside b)
past_end quads root b m few h e =
    let r = h.beyond b e in
    record {
      kind = r.0;
      at = b;
      reached = r.1;
      has = (refl, omega (arith, few, r.2));
      earlier = λ other p is lt g fault. elim (cases_lt p 256) [
        | inl less ↦ h.faultless other p less (sym (covered_low m p other less) ∙ is (covers m) (all_closed quads root m h)) g fault
        | inr more ↦
            let c : is_past m.beyond p ≡ true = sym (covered_high m p other more) ∙ is (covers m) (all_closed quads root m h) in
            not_past b p lt (subst (λ o. is_past o p ≡ true) e c)
      ];
    }
  where
    not_past : (b p : ℕ) → p < b → nat_le b p ≡ true → ⊥
    not_past b p lt t = grind (arith, nat_tests, lt, t)

-- without places past the end the marks are the reached blocks
pub reached_marked : (quads : List ℕ) (root : ℕ) (m : Marks) (k : BlockKind) (p : ℕ) →
    Taken quads root 256 m → m.beyond ≡ None → IsReachable quads root k p →
    (p < 256) × (has_mark m k p ≡ true)
reached_marked quads root m k p h none r =
    let c : covers m k p ≡ true = r (covers m) (all_closed quads root m h) in
    elim (cases_lt p 256) [
      | inl less ↦ (less, sym (covered_low m p k less) ∙ c)
      | inr more ↦ absurd (true≢false (sym (sym (covered_high m p k more) ∙ c) ∙ ap (λ o. is_past o p) none))
    ]
