-- A dump is told reset by reset, in order.
use Rattle.std.proofs.Common.{◌≡◌, ◌∙◌, ℕ, suc, ◌+◌, ◌-◌, ◌^◌, ◌<◌, ◌≤◌, Bool, true, false, cond, ◌||◌, is_none, Option, Some, None, List, [], ◌∷◌, ◌++◌, length, refl, ap, subst, arith}
use Rattle.std.specs.Prelude.{is_some, fold}
use Rattle.std.specs.Int.{w32, to_le_bytes}
use Rattle.std.specs.List.{All, AllByRecursion}
use Rattle.std.proofs.lemmas.List.Elements.{All-cons, All-nil, All-head, All-tail, recursion_from_All}
use Rattle.bus_json.specs.Text.{json_line}
use Rattle.io_edges.specs.Faults.{next_count}
use Rattle.json.specs.Json.{Members}
use Rattle.self_id.specs.declared.standard.Standard.{Standard}
use Rattle.topology_stack.specs.Tree.{Tree}
use Rattle.log_line.specs.declared.line.Origin.TheVariants.{Core}
use Rattle.reset_list.specs.declared.counts.Counts.{Counts}
use Rattle.reset_list.specs.declared.counts.Tally.{Tally}
use Rattle.reset_list.specs.declared.form.LogForm.{LogForm}
use Rattle.reset_list.specs.declared.form.LogForm.TheVariants.{Text, Short, Json}
use Rattle.reset_list.specs.Counts.{capped, counted}
use Rattle.reset_list.specs.InOrder.{AreTold}
use Rattle.reset_list.specs.Json.{IsListTold, told_refused, told_heard}
use Rattle.reset_list.specs.Judged.{ListsAreHeardAsRead, ListsAreRefusedAsRead}
use Rattle.reset_list.specs.Shown.{is_refused, is_heard, short_refused, short_heard}
use Rattle.reset_list.proofs.Lemmas.{Fit, all_fit, counted_in, how_many, how_many_count}
use Rattle.nosy_dump.specs.declared.record.DumpReset.{DumpReset}
use Rattle.nosy_dump.specs.Record.{record_bytes, dump_of}
use Rattle.nosy_dump.specs.Resets.{resets_from}
use Rattle.nosy_dump.specs.Json.{reset_value}
use Rattle.nosy_dump.specs.Noted.{Noted, nothing, after}
use Rattle.nosy_dump.specs.Dump.{IsJudged, last_text, IsResetShown}
use Rattle.nosy_dump.specs.Told.{spelt, refused, Telling, IsTelling, tree_behind, AreTellings, texts, refuses, some_refused, tallies_by, tallies_after, DumpsAreToldInOrder}
use Rattle.nosy_dump.proofs.SomeText.{AreBytes, EachOfBytes, ListFits, resets_fit}

-- ---- the bytes of records

abbrev Small : List ℕ → Type 0
Small bytes = AllByRecursion (λ b. b < 256) bytes

left_small : (xs ys : List ℕ) → Small (xs ++ ys) → Small xs
left_small [] ys h = tt
left_small (x ∷ xs) ys h = (h.0, left_small xs ys h.1)

right_small : (xs ys : List ℕ) → Small (xs ++ ys) → Small ys
right_small [] ys h = h
right_small (x ∷ xs) ys h = right_small xs ys h.1

all_bytes : (bytes : List ℕ) → Small bytes → AreBytes bytes
all_bytes [] h = All-nil (λ b. b < 256)
all_bytes (b ∷ bytes) h = All-cons (λ x. x < 256) b bytes h.0 (all_bytes bytes h.1)

of_bytes : (records : List (List ℕ)) → Small (dump_of records) → EachOfBytes records
of_bytes [] h = tt
of_bytes (r ∷ rs) h = (
  all_bytes r (right_small (to_le_bytes w32 (length r)) r (left_small (record_bytes r) (dump_of rs) h)),
  of_bytes rs (right_small (record_bytes r) (dump_of rs) h),
)

-- ---- a reset

-- what is told of a reset, and what is noted behind it
record IsStep (form : LogForm) (number : ℕ) (n : Noted) (r : DumpReset) (text : List ℕ) (bad : Bool) (next : Noted) : Type 0 where
  telling : Telling
  is : IsTelling form number n.tree r telling
  text_is : text ≡ telling.text
  bad_is : bad ≡ refuses telling
  tree_is : next.tree ≡ tree_behind n.tree telling.verdict
  counts_are : next.counts ≡ counted false (refuses telling) n.counts
  tallies_are : next.tallies ≡ tallies_by telling.verdict n.tallies

step_of : (form : LogForm) (number : ℕ) (n : Noted) (r : DumpReset) (text : List ℕ) (bad : Bool) (next : Noted) (heard h : Option Tree) (t : Telling) →
    IsTelling form number n.tree r t → text ≡ t.text → heard ≡ h → bad ≡ is_none heard → next ≡ after n heard →
    is_none h ≡ refuses t → (after n h).tree ≡ tree_behind n.tree t.verdict →
    (after n h).counts ≡ counted false (refuses t) n.counts → (after n h).tallies ≡ tallies_by t.verdict n.tallies →
    IsStep form number n r text bad next
step_of form number n r text bad next heard h t is said e f g fault tree cs tallies =
    let behind : next ≡ after n h = g ∙ ap (λ (x : Option Tree). after n x) e in
    record {
      telling = t;
      is = is;
      text_is = said;
      bad_is = f ∙ ap (λ (x : Option Tree). is_none x) e ∙ fault;
      tree_is = ap (λ (k : Noted). k.tree) behind ∙ tree;
      counts_are = ap (λ (k : Noted). k.counts) behind ∙ cs;
      tallies_are = ap (λ (k : Noted). k.tallies) behind ∙ tallies;
    }

abbrev counts_behind : Counts → Telling → Counts
counts_behind c t = counted false (refuses t) c

abbrev counts_after : Counts → List Telling → Counts
counts_after = fold counts_behind

-- the same of resets one after the other
record AreSteps (form : LogForm) (number : ℕ) (n : Noted) (rs : List DumpReset) (text : List ℕ) (bad : Bool) (next : Noted) : Type 0 where
  tellings : List Telling
  each : AreTellings form number n.tree rs tellings
  text_is : text ≡ texts tellings
  bad_is : bad ≡ some_refused tellings
  counts_are : next.counts ≡ counts_after n.counts tellings
  tallies_are : next.tallies ≡ tallies_after n.tallies tellings

module _ (heard : ListsAreHeardAsRead) (unheard : ListsAreRefusedAsRead) where
  told_step : (standard : Standard) (number : ℕ) (n : Noted) (r : DumpReset) (text : List ℕ) (bad : Bool) (next : Noted) (found : Members) (h : Option Tree) →
      Fit r.list → text ≡ json_line (reset_value number r found) → IsListTold standard Core r.list found h →
      bad ≡ is_none h → next ≡ after n h → IsStep (Json standard) number n r text bad next
  told_step standard number n r text bad next found h fit e (told_refused f un is none) bad_is next_is =
      step_of (Json standard) number n r text bad next h None (record { verdict = refused f; text = text })
      (record {
        verdict = (unheard standard Core r.list f (all_fit r.list fit)).0 un;
        shown = e ∙ ap (λ (m : Members). json_line (reset_value number r m)) is;
      }) refl none bad_is next_is refl refl refl refl
  told_step standard number n r text bad next found h fit e (told_heard t so is some) bad_is next_is =
      step_of (Json standard) number n r text bad next h (Some t) (record { verdict = spelt t; text = text })
      (record {
        verdict = (heard standard Core r.list t (all_fit r.list fit)).0 so;
        shown = e ∙ ap (λ (m : Members). json_line (reset_value number r m)) is;
      }) refl some bad_is next_is refl refl refl refl

  judged_step : (form : LogForm) (number : ℕ) (n : Noted) (r : DumpReset) (text : List ℕ) (bad : Bool) (next : Noted) (h : Option Tree) →
      Fit r.list → IsJudged form number n.tree r text h → bad ≡ is_none h → next ≡ after n h →
      IsStep form number n r text bad next
  judged_step (Text standard) number n r text bad next h fit (is_refused f un shown none) bad_is next_is =
      step_of (Text standard) number n r text bad next h None (record { verdict = refused f; text = text })
      (record { verdict = (unheard standard Core r.list f (all_fit r.list fit)).0 un; shown = shown }) refl none bad_is next_is refl refl refl refl
  judged_step (Text standard) number n r text bad next h fit (is_heard t so shown some) bad_is next_is =
      step_of (Text standard) number n r text bad next h (Some t) (record { verdict = spelt t; text = text })
      (record { verdict = (heard standard Core r.list t (all_fit r.list fit)).0 so; shown = shown }) refl some bad_is next_is refl refl refl refl
  judged_step (Short standard) number n r text bad next h fit (short_refused f un shown none) bad_is next_is =
      step_of (Short standard) number n r text bad next h None (record { verdict = refused f; text = text })
      (record { verdict = (unheard standard Core r.list f (all_fit r.list fit)).0 un; shown = shown }) refl none bad_is next_is refl refl refl refl
  judged_step (Short standard) number n r text bad next h fit (short_heard t so shown some) bad_is next_is =
      step_of (Short standard) number n r text bad next h (Some t) (record { verdict = spelt t; text = text })
      (record { verdict = (heard standard Core r.list t (all_fit r.list fit)).0 so; shown = shown }) refl some bad_is next_is refl refl refl refl
  judged_step (Json standard) number n r text bad next h fit x bad_is next_is =
      told_step standard number n r text bad next x.members h fit x.text_is x.told bad_is next_is

  -- ---- resets in order

  steps : (form : LogForm) (number : ℕ) (n : Noted) (rs : List DumpReset) (text : List ℕ) (bad : Bool) (next : Noted) → All ListFits rs →
      AreTold (IsResetShown form) number n rs text bad next → AreSteps form number n rs text bad next
  steps form number n [] text bad next fit x = record {
    tellings = [];
    each = tt;
    text_is = x.0;
    bad_is = x.1;
    counts_are = ap (λ (k : Noted). k.counts) x.2;
    tallies_are = ap (λ (k : Noted). k.tallies) x.2;
  }
  steps form number n (r ∷ rs) text bad next fit x =
      let one = judged_step form number n r x.0 x.2 x.4 x.5.heard (All-head ListFits r rs fit) x.5.shown x.5.bad_is x.5.next_is in
      let later = steps form (number + 1) x.4 rs x.1 x.3 next (All-tail ListFits r rs fit) x.6 in
      let t = one.telling in
      record {
        tellings = t ∷ later.tellings;
        each = (one.is, subst (λ (b : Option Tree). AreTellings form (number + 1) b rs later.tellings) one.tree_is later.each);
        text_is = x.7 ∙ ap (λ (l : List ℕ). l ++ x.1) one.text_is ∙ ap (λ (l : List ℕ). t.text ++ l) later.text_is;
        bad_is = x.8 ∙ ap (λ (b : Bool). b || x.3) one.bad_is ∙ ap (λ (b : Bool). refuses t || b) later.bad_is;
        counts_are = later.counts_are ∙ ap (λ (c : Counts). counts_after c later.tellings) one.counts_are;
        tallies_are = later.tallies_are ∙ ap (λ (l : List Tally). tallies_after l later.tellings) one.tallies_are;
      }

-- ---- totals

refused_by : (c : Counts) (t : Telling) →
    (counts_behind c t).refused ≡ cond (refuses t) (next_count c.refused) c.refused
refused_by c t = go (refuses t)
  where
    go : (b : Bool) → (counted false b c).refused ≡ cond b (next_count c.refused) c.refused
    go true = refl
    go false = refl

pub in_order : ListsAreHeardAsRead → ListsAreRefusedAsRead → DumpsAreToldInOrder
in_order heard unheard form dump text bad fit x =
    let small : Small (dump_of x.records ++ x.rest) = recursion_from_All _ _ (subst AreBytes x.dump_is fit) in
    let each = of_bytes x.records (left_small (dump_of x.records) x.rest small) in
    let s = steps heard unheard form 1 nothing (resets_from 0 x.records) x.resets_text x.is_refused x.known (resets_fit 0 x.records each) x.told in
    record {
      records = x.records;
      rest = x.rest;
      fault = x.fault;
      dump_is = x.dump_is;
      sized = x.sized;
      ends = x.ends;
      tellings = s.tellings;
      known = x.known;
      each = s.each;
      text_is = x.text_is ∙ ap (λ (l : List ℕ). l ++ last_text form (length (dump_of x.records)) x.fault x.known) s.text_is;
      bad_is = x.bad_is ∙ ap (λ (b : Bool). b || is_some x.fault) s.bad_is;
      resets_are = ap (λ (c : Counts). c.resets) s.counts_are ∙ counted_in counts_behind (λ c. c.resets) (λ t. true) (λ c t. refl) nothing.counts s.tellings (omega arith) ∙ ap capped (all_more s.tellings);
      refused_are = ap (λ (c : Counts). c.refused) s.counts_are ∙ counted_in counts_behind (λ c. c.refused) refuses refused_by nothing.counts s.tellings (omega arith) ∙ ap capped (how_many_count refuses s.tellings);
      tallies_are = s.tallies_are;
    }
  where
    all_pass : (ts : List Telling) → how_many (λ t. true) ts ≡ length ts
    all_pass [] = refl
    all_pass (t ∷ ts) = omega (arith, all_pass ts)

    all_more : (ts : List Telling) → 0 + how_many (λ t. true) ts ≡ length ts
    all_more ts = omega (arith, all_pass ts)
