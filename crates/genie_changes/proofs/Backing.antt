-- The parts of what is true of a kernel that speak of regions, with one more, one less, one changed.
use Rattle.std.proofs.Common.{◌≡◌, ◌≢◌, ℕ, ◌+◌, ◌<◌, ◌≤◌, Bool, true, false, not, cond, List, [], ◌∷◌, refl, sym, ap, subst, arith, rules, ◌∙◌, ⊎_elim, inl, inr, length, map, filter, get_or, set}
use Rattle.std.specs.Prelude.{Option, Some, None, All, find, count_by, if◌then◌else◌, ◌==◌, ◌&&◌}
use Rattle.std.specs.List.{list_any}
use Rattle.std.specs.Option.{option_map}
use Rattle.std.proofs.lemmas.Bool.{cases_eq}
use Rattle.std.proofs.lemmas.List.Sums.{sum_by-append}
use Rattle.genie_hiding.specs.declared.hidden.Hidden.{Hidden}
use Rattle.genie_hiding.specs.Hidden.{is_of}
use Rattle.genie_object.specs.declared.memory.Memory.{Memory}
use Rattle.genie_object.specs.declared.objects.Entry.{Entry}
use Rattle.genie_object.specs.Memory.{entry_frame}
use Rattle.genie_object.specs.Objects.{object_at, is_absent}
use Rattle.genie_region.specs.declared.region.Region.{Region}
use Rattle.genie_space.specs.Translations.{IsBacked}
use Rattle.genie_model.specs.Pending.{is_just}
use Rattle.genie_model.specs.Lemmas.Lists.{Has, has_at, has_any}
use Rattle.genie_model.specs.Tables.{entry}
use Rattle.genie_kernel.specs.declared.transfer.Transfer.{Transfer}
use Rattle.genie_kernel.specs.Backed.{AreFew, AreBacked, AreGuarded, IsGuarded, all_regions, has_object, hidden_region}
use Rattle.genie_kernel.specs.Calls.{names_weakly, region_number, is_strong_call}
use Rattle.genie_kernel.specs.Held.{AreHeldPages, HoldsPages, IsInFrame, region_named, page_of_loan, weak_transfers}
use Rattle.genie_kernel.specs.Loans.{frames_of}
use Rattle.genie_kernel.specs.Regions.{has_id, owned_regions, with_changed}
use Rattle.genie_kernel.specs.Lemmas.Staying.{at_least}
use Rattle.genie_changes.specs.Regions.{with_added, without_number, MakesObject, FindsNamed, object_in}
use Rattle.genie_changes.proofs.Matching.{one_if}
use Rattle.genie_changes.proofs.Processes.{all_append, all_front, all_back, all_set, sum_set, found_set, regions_set, all_added, sum_added, length_added, found_added, length_fewer, all_filtered, length_changed, all_turned, sum_turned, found_turned}

module _ (ps : List (Option (List Region))) (hidden : List Hidden) (p : ℕ) (rs : List Region) (e : entry ps p ≡ Some rs) where
  few_set : (ns : List Region) → (length rs + count_by (is_of p) hidden ≤ 32 → length ns + count_by (is_of p) hidden ≤ 32) → AreFew ps hidden → AreFew (set ps p (Some ns)) hidden
  few_set ns f h = record { process = h.process; few = λ j. regions_set rs ns (λ l. length l + count_by (is_of j) hidden ≤ 32) ps p j e (λ same was. subst (λ i. length ns + count_by (is_of i) hidden ≤ 32) (sym same) (f (subst (λ i. length rs + count_by (is_of i) hidden ≤ 32) same was))) (h.few j) }

  pub few_more : (r : Region) → length rs + count_by (is_of p) hidden < 32 → AreFew ps hidden → AreFew (set ps p (Some (with_added r rs))) hidden
  few_more r room h = let long = length_added r rs in few_set (with_added r rs) (λ was. omega (arith, long, room)) h

  pub few_less : (n : ℕ) → AreFew ps hidden → AreFew (set ps p (Some (without_number n rs))) hidden
  few_less n h = let short = length_fewer (λ q. not (has_id n q)) rs in few_set (without_number n rs) (λ was. omega (arith, short, was)) h

  pub few_changed : (n : ℕ) (g : Region → Region) → AreFew ps hidden → AreFew (set ps p (Some (with_changed n g rs))) hidden
  few_changed n g h = let same = length_changed n g rs in few_set (with_changed n g rs) (λ was. omega (arith, same, was)) h

-- an object that is absent is no region's
no_region : (o : ℕ) (objects : List (List Entry)) (regions : List Region) → is_absent (object_at objects o) ≡ true → AreBacked objects regions → (q : Region) → Has q regions → q.object.0 ≢ o
no_region o objects regions absent h q there is =
    let counted : count_by (has_object o) regions ≡ 0 = h.one o ∙ ap (λ b. if b then 0 else 1) absent in
    let one : one_if (has_object o q) ≡ 1 = ap one_if (let same : has_object o q ≡ true = grind (arith, rules, is) in same) in
    let among = at_least (λ (x : Region). one_if (has_object o x)) regions q there in
    omega (arith, counted, one, among)

module _ (old new : List (List Entry)) (ps : List (Option (List Region))) (hidden : List Hidden) (p : ℕ) (r : Region) (rs : List Region) (e : entry ps p ≡ Some rs) (some : 0 < r.pages) (makes : MakesObject r old new) (h : AreBacked old (all_regions ps hidden)) where
  abbrev hs : List Region
  hs = map hidden_region hidden

  abbrev after : List (Option (List Region))
  after = set ps p (Some (with_added r rs))

  each_more : (P : Region → Type 0) → P r → All P (all_regions ps hidden) → All P (all_regions after hidden)
  each_more P here a = all_append P (owned_regions after) hs (all_set rs (with_added r rs) P ps p e (all_added P r rs here) (all_front P (owned_regions ps) hs a)) (all_back P (owned_regions ps) hs a)

  backed_still : All (IsBacked new) (all_regions ps hidden)
  backed_still = λ k d l.
      let q : Region = get_or (all_regions ps hidden) k d in
      makes.others q.object.0 (no_region r.object.0 old (all_regions ps hidden) makes.absent h q (has_at (all_regions ps hidden) k d l)) ∙ h.each k d l

  one_more : (o : ℕ) → count_by (has_object o) (all_regions after hidden) ≡ one_if (has_object o r) + count_by (has_object o) (all_regions ps hidden)
  one_more o =
      let f : Region → ℕ = λ (x : Region). one_if (has_object o x) in
      omega (arith, sum_by-append f (owned_regions after) hs, sum_by-append f (owned_regions ps) hs, sum_set rs (with_added r rs) f ps p e, sum_added f r rs)

  pub backed_more : AreBacked new (all_regions after hidden)
  backed_more = record {
    each = each_more (IsBacked new) makes.long backed_still;
    some = each_more (λ (q : Region). 0 < q.pages) some h.some;
    one = λ o. ⊎_elim
        (λ (same : o ≡ r.object.0).
        let own : one_if (has_object o r) ≡ 1 = ap one_if (let is : has_object o r ≡ true = grind (arith, rules, same) in is) in
        let none : count_by (has_object o) (all_regions ps hidden) ≡ 0 = h.one o ∙ ap (λ b. if b then 0 else 1) (ap (λ x. is_absent (object_at old x)) same ∙ makes.absent) in
        let one : count_by (has_object o) (all_regions after hidden) ≡ 1 = omega (arith, one_more o, own, none) in
        one ∙ sym (ap (λ b. if b then 0 else 1) (ap (λ x. is_absent (object_at new x)) same ∙ makes.there)))
        (λ (other : o ≢ r.object.0).
        let zero_own : one_if (has_object o r) ≡ 0 = ap one_if (let differ : has_object o r ≡ false = grind (arith, rules, other) in differ) in
        let same : count_by (has_object o) (all_regions after hidden) ≡ count_by (has_object o) (all_regions ps hidden) = omega (arith, one_more o, zero_own) in
        same ∙ h.one o ∙ sym (ap (λ b. if b then 0 else 1) (makes.absences o other)))
        (cases_eq o r.object.0);
  }

module _ (objects : List (List Entry)) (ps : List (Option (List Region))) (hidden : List Hidden) (p n : ℕ) (g : Region → Region) (rs : List Region) (e : entry ps p ≡ Some rs) (keeps : (r : Region) → ((g r).object.0 ≡ r.object.0) × ((g r).pages ≡ r.pages)) (h : AreBacked objects (all_regions ps hidden)) where
  abbrev hides : List Region
  hides = map hidden_region hidden

  abbrev now : List (Option (List Region))
  now = set ps p (Some (with_changed n g rs))

  each_turned : (P : Region → Type 0) → ((r : Region) → P r → P (g r)) → All P (all_regions ps hidden) → All P (all_regions now hidden)
  each_turned P f a = all_append P (owned_regions now) hides (all_set rs (with_changed n g rs) P ps p e (λ b. all_turned n g P P (λ r x y. f r x) rs b b) (all_front P (owned_regions ps) hides a)) (all_back P (owned_regions ps) hides a)

  pub backed_changed : AreBacked objects (all_regions now hidden)
  backed_changed = record {
    each = each_turned (IsBacked objects) (λ r was. ap (λ o. length (object_at objects o)) (keeps r).0 ∙ was ∙ sym (keeps r).1) h.each;
    some = each_turned (λ (q : Region). 0 < q.pages) (λ r was. subst (λ m. 0 < m) (sym (keeps r).1) was) h.some;
    one = λ o.
        let f : Region → ℕ = λ (x : Region). one_if (has_object o x) in
        let mine = sum_turned n g f (λ r. ap (λ x. if x == o then 1 else 0) (keeps r).0) rs in
        let same : count_by (has_object o) (all_regions now hidden) ≡ count_by (has_object o) (all_regions ps hidden) = omega (arith, sum_by-append f (owned_regions now) hides, sum_by-append f (owned_regions ps) hides, sum_set rs (with_changed n g rs) f ps p e, mine) in
        same ∙ h.one o;
  }

module _ (objects : List (List Entry)) (ps : List (Option (List Region))) (p : ℕ) (rs : List Region) (e : entry ps p ≡ Some rs) (h : AreGuarded objects (owned_regions ps)) where
  pub guarded_more : (r : Region) → IsGuarded objects r → AreGuarded objects (owned_regions (set ps p (Some (with_added r rs))))
  guarded_more r here = all_set rs (with_added r rs) (IsGuarded objects) ps p e (all_added (IsGuarded objects) r rs here) h

  pub guarded_less : (n : ℕ) → AreGuarded objects (owned_regions (set ps p (Some (without_number n rs))))
  guarded_less n = all_set rs (without_number n rs) (IsGuarded objects) ps p e (all_filtered (IsGuarded objects) (λ q. not (has_id n q)) rs) h

  pub guarded_changed : (n : ℕ) (g : Region → Region) → All (λ (r : Region). IsGuarded objects (g r)) rs → AreGuarded objects (owned_regions (set ps p (Some (with_changed n g rs))))
  guarded_changed n g here = all_set rs (with_changed n g rs) (IsGuarded objects) ps p e (λ a. all_turned n g (IsGuarded objects) (λ (r : Region). IsGuarded objects (g r)) (λ r was is. is) rs a here) h

same_frame : (m : Memory) (i f : ℕ) (a b : Option Region) → option_map object_in b ≡ option_map object_in a → IsInFrame m a i f → IsInFrame m b i f
same_frame m i f None None e h = h
same_frame m i f None (Some r) e h = absurd (cc)
same_frame m i f (Some q) None e h = absurd (cc)
same_frame m i f (Some q) (Some r) e h = let is : r.object.0 ≡ q.object.0 = cc in ap (λ o. entry_frame m o i) is ∙ h

filter_has : {X : Type 0} (q : X → Bool) (x : X) (xs : List X) → Has x (filter q xs) → Has x xs × (q x ≡ true)
filter_has q x [] h = absurd h
filter_has q x (y ∷ ys) h = elim (q y) as (λ b. q y ≡ b → Has x (cond b (y ∷ filter q ys) (filter q ys)) → Has x (y ∷ ys) × (q x ≡ true)) [
  | true ↦ λ e i. ⊎_elim (λ (same : y ≡ x). (inl same, sym (ap q same) ∙ e)) (λ later. let r = filter_has q x ys later in (inr r.0, r.1)) i
  | false ↦ λ e i. let r = filter_has q x ys i in (inr r.0, r.1)
] refl h

weak_named : (t : Transfer) (k : ℕ) → is_strong_call t ≡ false → region_number t ≡ Some k → names_weakly k t ≡ true
weak_named t k weak named = ap (λ s. not s && is_just (region_number t) k) weak ∙ ap (λ o. is_just o k) named ∙ grind (arith, rules)

module _ (page : ℕ) (m : Memory) (before after : List Region) (ts : List Transfer) (finds : FindsNamed ts before after) where
  held_named : (t : Transfer) → Has t (weak_transfers ts) → (o : Option ℕ) → region_number t ≡ o → (i f : ℕ) → IsInFrame m (region_named before o) i f → IsInFrame m (region_named after o) i f
  held_named t there None e i f h = h
  held_named t there (Some k) e i f h =
      let among = filter_has (λ u. not (is_strong_call u)) t ts there in
      let weak : is_strong_call t ≡ false = (let w = among.1 in grind (arith, rules, w)) in
      same_frame m i f (find (has_id k) before) (find (has_id k) after) (finds k (has_any (names_weakly k) t ts among.0 (weak_named t k weak e))) h

  pub held_over_regions : AreHeldPages page m before ts → AreHeldPages page m after ts
  held_over_regions h = record {
    page_in = h.page_in;
    frame_of = h.frame_of;
    each = λ i d l.
        let t : Transfer = get_or (weak_transfers ts) i d in
        let was : HoldsPages page m before h.page_in h.frame_of t = h.each i d l in
        record {
          pages = was.pages;
          frames = was.frames;
          held = λ j n. held_named t (has_at (weak_transfers ts) i d l) (region_number t) refl (page_of_loan page t j).index (get_or (frames_of t.loans) j 0) (was.held j n);
        };
  }

pub finds_named_more : (ts : List Transfer) (ps : List (Option (List Region))) (p : ℕ) (r : Region) (rs : List Region) → entry ps p ≡ Some rs → list_any (names_weakly r.id.0) ts ≡ false → FindsNamed ts (owned_regions ps) (owned_regions (set ps p (Some (with_added r rs))))
finds_named_more ts ps p r rs e none k named = ⊎_elim
    (λ (same : r.id.0 ≡ k). let clash : false ≡ true = sym (subst (λ n. list_any (names_weakly n) ts ≡ false) same none) ∙ named in cc)
    (λ (other : r.id.0 ≢ k). let fails : has_id k r ≡ false = grind (arith, rules, other) in found_set rs (with_added r rs) object_in (has_id k) ps p e (ap (option_map object_in) (found_added (has_id k) r rs fails)))
    (cases_eq r.id.0 k)

pub finds_named_changed : (ts : List Transfer) (ps : List (Option (List Region))) (p n : ℕ) (g : Region → Region) (rs : List Region) → entry ps p ≡ Some rs → ((r : Region) → ((g r).id.0 ≡ r.id.0) × ((g r).object.0 ≡ r.object.0)) → FindsNamed ts (owned_regions ps) (owned_regions (set ps p (Some (with_changed n g rs))))
finds_named_changed ts ps p n g rs e keeps k named = found_set rs (with_changed n g rs) object_in (has_id k) ps p e (found_turned n g object_in (has_id k) (λ r. ap (λ x. x == k) (keeps r).0) (λ r. (keeps r).1) rs)
