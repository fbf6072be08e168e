-- A settled kernel of which a region was hidden.
use Rattle.std.proofs.Common.{◌≡◌, ◌≢◌, ℕ, ◌+◌, ◌<◌, ◌≤◌, suc, Bool, true, false, not, cond, List, [], ◌∷◌, ◌++◌, refl, sym, ap, subst, arith, rules, ◌∙◌, ⊎_elim, inl, inr, length, map, filter, find, get_or, get_or-set_other, set, eq-eqb}
use Rattle.std.specs.Prelude.{Option, Some, None, All, sum_by, count_by, if◌then◌else◌}
use Rattle.std.proofs.lemmas.Bool.{cases_eq, cond_both}
use Rattle.std.proofs.lemmas.List.{length-append, length-map}
use Rattle.std.proofs.lemmas.List.Sums.{sum_by-cons, sum_by-append}
use Rattle.genie_base.specs.Lemmas.Places.{num}
use Rattle.genie_frame.specs.FrameTable.{FrameTable, counts_at, is_held}
use Rattle.genie_hiding.specs.declared.hidden.Hidden.{Hidden}
use Rattle.genie_hiding.specs.Hidden.{objects_of, object_of, is_among, is_of}
use Rattle.genie_object.specs.declared.memory.Memory.{Memory}
use Rattle.genie_object.specs.declared.objects.Entry.{Entry}
use Rattle.genie_object.specs.declared.pages.Place.{Place}
use Rattle.genie_object.specs.declared.pages.Place.TheVariants.{Zero, Frame, Slot}
use Rattle.genie_object.specs.Leaving.{Empties, is_object}
use Rattle.genie_object.specs.Memory.{seen, entry_frame}
use Rattle.genie_object.specs.Objects.{object_at, is_absent}
use Rattle.genie_object.specs.Sound.{IsCached, FitsHidden}
use Rattle.genie_region.specs.declared.region.Region.{Region}
use Rattle.genie_space.specs.Spaces as spaces
use Rattle.genie_space.specs.Translations.{IsBacked}
use Rattle.genie_model.specs.Lemmas.Lists.{Has, all_has, find_has}
use Rattle.genie_model.specs.Tables.{entry}
use Rattle.genie_kernel.specs.declared.kernel.Kernel.{Kernel}
use Rattle.genie_kernel.specs.Backed.{AreBacked, AreFew, all_regions, has_object, hidden_region}
use Rattle.genie_kernel.specs.Kept.{Kept}
use Rattle.genie_kernel.specs.Regions.{has_id, owned_regions, regions_of}
use Rattle.genie_changes.specs.Paged.{HavePages}
use Rattle.genie_changes.specs.Premises.{ShowsLeft}
use Rattle.genie_changes.specs.Regions.{without_number}
use Rattle.genie_changes.specs.Removing.{IsOnlyIn}
use Rattle.genie_hiding.specs.Trimming.{AllStay}
use Rattle.genie_changes.specs.Hiding.{HidesRegion, hidden_from}
use Rattle.genie_changes.specs.Removal.{removed_from, unlisted}
use Rattle.genie_changes.specs.Lemmas.Outside.{backed_unhidden}
use Rattle.genie_changes.proofs.Forgetting.{found_in, has_owned}
use Rattle.genie_changes.specs.Settled.{IsSettled}
use Rattle.genie_changes.proofs.Leaving.{sum_left}
use Rattle.genie_changes.proofs.Lists.{all_more}
use Rattle.genie_changes.proofs.RegionLeft.{some_below}
use Rattle.genie_changes.proofs.Lent.{LeavesOwners}
use Rattle.genie_plan.specs.Lemmas.Landings.{page_in}
use Rattle.genie_changes.proofs.RegionLeft as left
use Rattle.genie_changes.proofs.RegionLeft.{LeavesObject}
use Rattle.genie_changes.proofs.Processes.{all_append, all_back, all_filtered, all_front, all_set, sum_set}

absent_same : (a b : List Entry) → length b ≡ length a → is_absent b ≡ is_absent a
absent_same [] [] e = refl
absent_same [] (y ∷ b) e = absurd (omega (arith, e))
absent_same (x ∷ a) [] e = absurd (omega (arith, e))
absent_same (x ∷ a) (y ∷ b) e = refl

abbrev frame_number : Place → ℕ
frame_number Zero = 0
frame_number (Frame f) = f.0
frame_number (Slot s) = 0

last_object : (hs : List Hidden) (h : Hidden) → get_or (objects_of (hs ++ h ∷ [])) (length hs) 0 ≡ object_of h
last_object [] h = refl
last_object (x ∷ hs) h = last_object hs h

rows_last : (hs : List Hidden) (h : Hidden) → map hidden_region (hs ++ h ∷ []) ≡ map hidden_region hs ++ h.region ∷ []
rows_last [] h = refl
rows_last (x ∷ hs) h = ap (λ l. hidden_region x ∷ l) (rows_last hs h)

count_last : (q : Hidden → Bool) (hs : List Hidden) (h : Hidden) → count_by q (hs ++ h ∷ []) ≡ count_by q hs + num (q h)
count_last q [] h = omega (arith, sum_by-cons (λ (x : Hidden). num (q x)) h [])
count_last q (x ∷ hs) h = omega (arith, sum_by-cons (λ (y : Hidden). num (q y)) x (hs ++ h ∷ []), sum_by-cons (λ (y : Hidden). num (q y)) x hs, count_last q hs h)

all_last : {X : Type 0} (P : X → Type 0) (t : X) (xs : List X) → All P xs → P t → All P (xs ++ t ∷ [])
all_last P t xs a h = all_more P t xs a h

filtered_most : (q : Region → Bool) (rs : List Region) → length (filter q rs) ≤ length rs
filtered_most q [] = omega arith
filtered_most q (x ∷ rs) = let rest = filtered_most q rs in cond_both (q x) (x ∷ filter q rs) (filter q rs) (λ l. length l ≤ suc (length rs)) (λ t. omega (arith, rest)) (λ t. omega (arith, rest))

-- without it there is one less
fewer_without : (n : ℕ) (r : Region) (rs : List Region) → Has r rs → n ≡ r.id.0 → length (without_number n rs) + 1 ≤ length rs
fewer_without n r [] h e = absurd h
fewer_without n r (x ∷ rs) (inl same) e =
    let is : has_id n x ≡ true = ap (has_id n) same ∙ eq-eqb r.id.0 n (sym e) in
    let rest = filtered_most (λ q. not (has_id n q)) rs in
    let none : length (without_number n (x ∷ rs)) ≡ length (without_number n rs) = ap (λ b. length (cond (not b) (x ∷ without_number n rs) (without_number n rs))) is in
    omega (arith, rest, none)
fewer_without n r (x ∷ rs) (inr h) e = let rest = fewer_without n r rs h e in cond_both (not (has_id n x)) (x ∷ without_number n rs) (without_number n rs) (λ l. length l + 1 ≤ suc (length rs)) (λ t. omega (arith, rest)) (λ t. omega (arith, rest))

module _ (p : ℕ) (r : Region) (k : Kernel) (m : Memory) (rs : List Region) (there : entry k.spaces.processes p ≡ Some rs) (found : find (has_id r.id.0) rs ≡ Some r) (d : Empties (is_object r.object.0) k.memory m) (fits : FitsHidden m (objects_of (k.hidden ++ record { pid = p; region = r } ∷ []))) (g : IsSettled k) where
  abbrev n : ℕ
  n = r.id.0

  abbrev o : ℕ
  o = r.object.0

  abbrev ps : List (Option (List Region))
  ps = k.spaces.processes

  abbrev owned : List Region
  owned = owned_regions ps

  abbrev left_ps : List (Option (List Region))
  left_ps = set ps p (Some (without_number n rs))

  abbrev left_queues : List (List ℕ)
  left_queues = set k.queues p (unlisted n (get_or k.queues p []))

  abbrev hid : Hidden
  hid = record { pid = p; region = r }

  abbrev now_hidden : List Hidden
  now_hidden = k.hidden ++ hid ∷ []

  abbrev after : Kernel
  after = record (removed_from k m p n rs) { hidden = now_hidden }

  -- its object is among those of the hidden regions
  its_cache : IsCached m o
  its_cache =
      let at = length k.hidden in
      let long = length-map now_hidden object_of in
      let size = length-append k.hidden (hid ∷ []) in
      let is : get_or (objects_of now_hidden) at 0 ≡ o = last_object k.hidden hid in
      subst (IsCached m) is (fits.cached at (omega (arith, long, size)))

  -- no page of it that stays is in a frame that a device holds
  not_held : (i f : ℕ) → is_held (counts_at k.memory.frames f) ≡ true → entry_frame m o i ≡ Some f → ⊥
  not_held i f held e =
      let at = page_in m o i f e in
      let framed : Frame (its_cache.frame i at.number at.is_page) ≡ Frame (record { 0 = f }) = sym (its_cache.in_frame i at.number at.is_page) ∙ at.is_place in
      let number : (its_cache.frame i at.number at.is_page).0 ≡ f = ap frame_number framed in
      let unheld : is_held (counts_at m.frames f) ≡ false = ap (λ x. is_held (counts_at m.frames x)) (sym number) ∙ its_cache.unheld i at.number at.is_page in
      let same_counts : counts_at m.frames f ≡ counts_at k.memory.frames f = ap (λ (t : FrameTable). counts_at t f) d.frames in
      let bad : true ≡ false = sym held ∙ ap is_held (sym same_counts) ∙ unheld in
      cc

  abbrev l : LeavesObject o k.memory m
  l = record {
    sound = d.sound;
    others = d.others;
    places = d.places;
    lent = d.lent;
    systems = d.systems;
    frames = d.frames;
    number = d.number;
    slots = d.slots;
    most = d.most;
    unheld = not_held;
  }

  pub only : IsOnlyIn n p ps
  only = left.only p r k m rs there found l g

  pub owns : LeavesOwners k.memory m
  owns = left.owns p r k m rs there found l g

  pub there_below : p < length k.queues
  there_below = left.there_below p r k m rs there found l g

  pub quiet : (a i : ℕ) → a ≢ o → is_object o a i ≡ false
  quiet = left.quiet p r k m rs there found l g

  pub left_apart : (q : Region) → Has q (without_number n owned) → Has q owned × (q.object.0 ≢ o)
  left_apart = left.left_apart p r k m rs there found l g

  pub shows_left : (slots : ℕ → List ℕ) → HavePages k.memory slots → ShowsLeft k r (seen k.memory slots).entry_bytes (seen m slots).kept_bytes
  shows_left = left.shows_left p r k m rs there found l g

  -- hidden in place of owned, it is one of as many
  hidden_few : AreFew left_ps now_hidden
  hidden_few = record {
    process = all_last (λ (h : Hidden). h.pid < 16) hid k.hidden g.few.process (let low = some_below ps p rs there in omega (arith, low, g.spaced.processes));
    few = λ i. ⊎_elim
        (λ (same : i ≡ p).
        let was = g.few.few p in
        let one : num (is_of p hid) ≡ 1 = ap num (eq-eqb p p refl) in
        let counted : count_by (is_of p) now_hidden ≡ count_by (is_of p) k.hidden + num (is_of p hid) = count_last (is_of p) k.hidden hid in
        let owned_now : length (regions_of (entry left_ps p)) ≡ length (without_number n rs) = ap length (left.left_here p r k m rs there found l g) in
        let owned_was : length (regions_of (entry ps p)) ≡ length rs = ap (λ (z : Option (List Region)). length (regions_of z)) there in
        let fewer = fewer_without n r rs (find_has (has_id n) rs r found).0 refl in
        let here : length (regions_of (entry left_ps p)) + count_by (is_of p) now_hidden ≤ 32 = omega (arith, was, one, counted, owned_now, owned_was, fewer) in
        subst (λ x. length (regions_of (entry left_ps x)) + count_by (is_of x) now_hidden ≤ 32) (sym same) here)
        (λ (other : i ≢ p).
        let was = g.few.few i in
        let none : num (is_of i hid) ≡ 0 = ap num (let e : is_of i hid ≡ false = grind (arith, rules, other) in e) in
        let counted : count_by (is_of i) now_hidden ≡ count_by (is_of i) k.hidden + num (is_of i hid) = count_last (is_of i) k.hidden hid in
        let same : length (regions_of (entry left_ps i)) ≡ length (regions_of (entry ps i)) = ap (λ (z : Option (List Region)). length (regions_of z)) (get_or-set_other ps p i (Some (without_number n rs)) None other) in
        omega (arith, was, none, counted, same))
        (cases_eq i p);
  }

  abbrev both : List Region
  both = all_regions left_ps now_hidden

  hidden_rows : map hidden_region now_hidden ≡ map hidden_region k.hidden ++ r ∷ []
  hidden_rows = rows_last k.hidden hid

  each_both : (P : Region → Type 0) → All P (all_regions ps k.hidden) → All P both
  each_both P a =
      let front = all_front P owned (map hidden_region k.hidden) a in
      subst (λ l. All P (owned_regions left_ps ++ l)) (sym hidden_rows)
      (all_append P (owned_regions left_ps) (map hidden_region k.hidden ++ r ∷ []) (all_set rs (without_number n rs) P ps p there (all_filtered P (λ x. not (has_id n x)) rs) front)
      (all_last P r (map hidden_region k.hidden) (all_back P owned (map hidden_region k.hidden) a) (all_has P owned front r (left.owned_has p r k m rs there found l g))))

  counted_both : (a : ℕ) → count_by (has_object a) both ≡ count_by (has_object a) (all_regions ps k.hidden)
  counted_both a =
      let q : Region → ℕ = λ (x : Region). cond (has_object a x) 1 0 in
      let rows : count_by (has_object a) both ≡ sum_by q (owned_regions left_ps ++ (map hidden_region k.hidden ++ r ∷ [])) = ap (λ l. sum_by q (owned_regions left_ps ++ l)) hidden_rows in
      omega (arith, rows, sum_by-append q (owned_regions left_ps) (map hidden_region k.hidden ++ r ∷ []), sum_by-append q (map hidden_region k.hidden) (r ∷ []), sum_by-cons q r [], sum_by-append q owned (map hidden_region k.hidden), sum_set rs (without_number n rs) q ps p there, sum_left q n r rs found (left.each_apart p r k m rs there found l g))

  hidden_backed : AreBacked m.objects both
  hidden_backed = record {
    each = λ j e l. let q : Region = get_or both j e in d.sizes q.object.0 ∙ each_both (IsBacked k.memory.objects) g.backed.each j e l;
    some = each_both (λ (q : Region). 0 < q.pages) g.backed.some;
    one = λ a. counted_both a ∙ g.backed.one a ∙ sym (ap (λ b. if b then 0 else 1) (absent_same (object_at k.memory.objects a) (object_at m.objects a) (d.sizes a)));
  }

  settled : IsSettled after
  settled = left.settled_with p r k m rs there found l g now_hidden fits hidden_few hidden_backed

  kept : Kept k after
  kept = left.kept_with p r k m rs there found l g now_hidden

pub hiding_settles : (p : ℕ) (r : Region) (old new : Kernel) → HidesRegion p r old new → IsSettled old → IsSettled new
hiding_settles p r old new x g = subst IsSettled (sym x.left) (settled p r old new.memory x.regions x.there x.found x.object x.fits g)

pub hiding_keeps : (p : ℕ) (r : Region) (old new : Kernel) → HidesRegion p r old new → IsSettled old → Kept old new
hiding_keeps p r old new x g = subst (Kept old) (sym x.left) (kept p r old new.memory x.regions x.there x.found x.object x.fits g)

-- a region may be hidden: its process is one of 16 and has fewer than 32 hidden ones, and no hidden one has its object
pub record MayHide (k : Kernel) (p : ℕ) (r : Region) : Type 0 where
  pub process : p < 16
  pub room : count_by (is_of p) k.hidden < 32
  pub apart : is_among r.object.0 (objects_of k.hidden) ≡ false

pub may_hide : (k : Kernel) (p : ℕ) (r : Region) → IsSettled k → find (has_id r.id.0) (spaces.regions_of p k.spaces) ≡ Some r → MayHide k p r
may_hide k p r g e =
    let f = found_in k p r e in
    let has = (find_has (has_id r.id.0) f.regions r f.found).0 in
    let some = has_some r f.regions has in
    let few = g.few.few p in
    let long : length (regions_of (entry k.spaces.processes p)) ≡ length f.regions = ap (λ (z : Option (List Region)). length (regions_of z)) f.there in
    let low = some_below k.spaces.processes p f.regions f.there in
    record {
      process = omega (arith, low, g.spaced.processes);
      room = omega (arith, some, few, long);
      apart = backed_unhidden k.memory.objects k.spaces.processes k.hidden g.backed r (has_owned k.spaces.processes p f.regions r f.there has);
    }
  where
    has_some : (r : Region) (rs : List Region) → Has r rs → 0 < length rs
    has_some r [] h = absurd h
    has_some r (x ∷ rs) h = omega arith

-- what hiding it in the cache and taking it out of its process leave
pub hides : (p : ℕ) (r : Region) (k new : Kernel) (m : Memory) (hs : List Hidden) → find (has_id r.id.0) (spaces.regions_of p k.spaces) ≡ Some r → hs ≡ k.hidden ++ record { pid = p; region = r } ∷ [] → Empties (is_object r.object.0) k.memory m → FitsHidden m (objects_of hs) → AllStay k.memory m r.object.0 → new ≡ removed_from (record k { memory = m; hidden = hs }) m p r.id.0 (spaces.regions_of p k.spaces) → HidesRegion p r k new
hides p r k new m hs e kept object fits stays is =
    let f = found_in k p r e in
    let same : new ≡ hidden_from k m p r f.regions = is ∙ (λ i. record (removed_from k m p r.id.0 (f.same i)) { hidden = kept i }) in
    subst (λ (z : Kernel). HidesRegion p r k z) (sym same) (record { regions = f.regions; there = f.there; found = f.found; object = object; fits = subst (λ (z : List Hidden). FitsHidden m (objects_of z)) kept fits; stays = stays; left = refl })
