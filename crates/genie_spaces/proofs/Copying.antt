-- The regions of a child, made one after another.
use Rattle.std.proofs.Common.{◌≡◌, ◌≢◌, ℕ, ◌+◌, ◌<◌, ◌≤◌, zero, suc, Bool, true, false, not, cond, List, [], ◌∷◌, ◌++◌, refl, sym, ap, ap₂, subst, arith, rules, ◌∙◌, map, length, filter, find, take, set, get_or, get_or-set_other, get_or-set_same, length-set, replicate, inl, inr, ⊎_elim, eq-eqb, eqb-true}
use Rattle.std.specs.Prelude.{Option, Some, None, is_some, nat_lt, ◌==◌, ◌||◌, ◌&&◌, count_by, flat_map, slice_get, unwrap_or, sum_by, nat_le}
use Rattle.std.specs.List.{AllPairs, list_any, range_with_len}
use Rattle.std.proofs.lemmas.Bool.{cases_Bool, cond_both, not-false, or_parts}
use Rattle.std.proofs.lemmas.List.Sums.{sum_by-append, sum_by-cons}
use Rattle.std.proofs.lemmas.List.{set-set, take_more}
use Rattle.genie_base.specs.Regions.{AreInOrder, is_accessible, is_free}
use Rattle.genie_base.specs.declared.event.Event.TheVariants.{Fork}
use Rattle.genie_base.specs.declared.refusal.Refusal.TheVariants as cause
use Rattle.genie_base.specs.declared.numbers.RegionId.{RegionId}
use Rattle.genie_base.specs.Lemmas.Places.{count_by-set, num}
use Rattle.genie_object.specs.Lemmas.Naming.{object_in}
use Rattle.genie_hiding.specs.Hidden.{is_of}
use Rattle.genie_object.specs.declared.memory.Memory.{Memory}
use Rattle.genie_object.specs.declared.objects.Entry.{Entry}
use Rattle.genie_object.specs.Objects.{is_absent, no_entry, object_at}
use Rattle.genie_object.specs.Sound.{IsSound}
use Rattle.genie_region.specs.declared.region.Region.{Region}
use Rattle.genie_region.specs.Layouts.{extent, region_of, starts_at}
use Rattle.genie_space.specs.Spaces as spaces
use Rattle.genie_sharing.specs.Regions.{has_object}
use Rattle.genie_model.specs.Lemmas.Lists.{Has, all_has, find_none, has_at, has_left}
use Rattle.genie_model.specs.Lemmas.Causes.{none_holds}
use Rattle.genie_model.specs.Refusing.{causes, refuse}
use Rattle.genie_model.specs.Regions.{fresh}
use Rattle.genie_orderly.specs.Lemmas.AcceptedEvents.{fork_accepted}
use Rattle.genie_model.specs.Space as space
use Rattle.genie_model.specs.Space.{add_copies, copy_of, spawned}
use Rattle.genie_model.specs.State as flat
use Rattle.genie_model.specs.Tables.{entry}
use Rattle.genie_kernel.specs.declared.kernel.Kernel.{Kernel}
use Rattle.genie_kernel.specs.Backed.{AreBacked, AreFew, all_regions, hidden_region}
use Rattle.genie_kernel.specs.Calls.{names_weakly}
use Rattle.genie_kernel.specs.Good.{IsGood}
use Rattle.genie_kernel.specs.Regions.{has_id, object_bytes, owned_regions, region_view, regions_of}
use Rattle.genie_kernel.specs.View.{Bytes, no_bytes, outline, state_of}
use Rattle.genie_kernel.specs.Lemmas.Fresh.{fresh_view}
use Rattle.genie_kernel.specs.Lemmas.Processes.{alive_view, processes_set, owned_spawned, regions_spawned}
use Rattle.genie_changes.specs.Removing.{FitsTables, GoodRegionsFit}
use Rattle.genie_changes.specs.Regions.{FindsNamed, MakesObject, with_added}
use Rattle.genie_room.specs.Places.{ObjectsSuffice}
use Rattle.genie_spaces.specs.Forking.{AddsCopy, HasCopies, source_work, IsSource, ShowsSource, copy_region, is_forked, with_child, with_entries}
use Rattle.genie_spaces.specs.RegionLaws.{RegionLaws}
use Rattle.genie_spaces.proofs.Beside.{any_added, free_behind, fresh_new, from_added, inside, length_added, to_added}
use Rattle.genie_spaces.proofs.Keeping.{keeps_bytes}
use Rattle.genie_spaces.specs.Lemmas.Making.{entry_made}
use Rattle.genie_spaces.proofs.Numbering.{has_owned}

-- what is known of a fork that isn't refused, once the child has no hidden regions
pub record MayFork (k : Kernel) (p child : ℕ) (regions : List Region) : Type 0 where
  pub good : IsGood k
  pub place : child < 16
  pub free : entry k.spaces.processes child ≡ None
  pub there : entry k.spaces.processes p ≡ Some regions
  pub unhidden : count_by (is_of child) k.hidden ≡ 0
  pub ordered : AreInOrder extent regions
  pub some : (r : Region) → Has r regions → 0 < r.pages
  pub most : (r : Region) → Has r regions → r.pages ≤ 64

known : {X : Type 0} (o : Option X) → is_some o ≡ true → (x : X) × (o ≡ Some x)
known None e = absurd (cc)
known (Some x) e = (x, refl)

gone : {X : Type 0} (o : Option X) → is_some o ≡ false → o ≡ None
gone None e = refl
gone (Some x) e = absurd (cc)

-- the parent is alive
pub parent_alive : (k : Kernel) (p child : ℕ) → refuse (outline k) (Fork p child) ≡ None → spaces.is_alive p k.spaces ≡ true
parent_alive k p child accepted =
    let first = none_holds (causes (outline k) (Fork p child)) accepted 0 (true, cause.Proc) (omega arith) in
    sym (alive_view (no_bytes k.config.page).seen.entry_bytes k.spaces.processes k.queues p) ∙ not-false _ (or_parts (not (is_some (entry (outline k).processes p))) (nat_lt 15 child) first).0

pub may_fork : GoodRegionsFit → (k : Kernel) (p child : ℕ) → IsGood k → refuse (outline k) (Fork p child) ≡ None → count_by (is_of child) k.hidden ≡ 0 → AreInOrder extent (spaces.regions_of p k.spaces) → MayFork k p child (spaces.regions_of p k.spaces)
may_fork fit k p child good accepted unhidden ordered =
    let new = fork_accepted (outline k) p child accepted in
    let alive = known (entry k.spaces.processes p) (parent_alive k p child accepted) in
    let there : entry k.spaces.processes p ≡ Some (spaces.regions_of p k.spaces) = alive.1 ∙ sym (ap (λ (o : Option (List Region)). Some (unwrap_or o [])) alive.1) in
    record {
      good = good;
      place = new.place;
      free = gone (entry k.spaces.processes child) (sym (alive_view (no_bytes k.config.page).seen.entry_bytes k.spaces.processes k.queues child) ∙ ap is_some new.free);
      there = there;
      unhidden = unhidden;
      ordered = ordered;
      some = λ r h. all_has (λ (x : Region). 0 < x.pages) (all_regions k.spaces.processes k.hidden) good.backed.some r (has_left r (owned_regions k.spaces.processes) (map hidden_region k.hidden) (has_owned k.spaces.processes p (spaces.regions_of p k.spaces) r there h));
      most = λ r h. (all_has FitsTables (owned_regions k.spaces.processes) (fit k good) r (has_owned k.spaces.processes p (spaces.regions_of p k.spaces) r there h)).most;
    }

sum_added : (g : Region → ℕ) (c : Region) (cs : List Region) → sum_by g (with_added c cs) ≡ g c + sum_by g cs
sum_added g c [] = sum_by-cons g c []
sum_added g c (x ∷ cs) = let rest = sum_added g c cs in cond_both (nat_le (x.start + x.pages) c.start) (x ∷ with_added c cs) (c ∷ x ∷ cs) (λ l. sum_by g l ≡ g c + sum_by g (x ∷ cs))
    (λ t. omega (arith, rest, sum_by-cons g x (with_added c cs), sum_by-cons g x cs)) (λ f. sum_by-cons g c (x ∷ cs))

-- copies joined
copies_joined : (s : flat.State) (q : ℕ) (xs : List flat.Region) (r : flat.Region) → add_copies s q (xs ++ r ∷ []) ≡ space.add_region (add_copies s q xs) q (copy_of (add_copies s q xs) r)
copies_joined s q [] r = refl
copies_joined s q (x ∷ xs) r = copies_joined (space.add_region s q (copy_of s x)) q xs r

map_joined : {X Y : Type 0} (f : X → Y) (xs ys : List X) → map f (xs ++ ys) ≡ map f xs ++ map f ys
map_joined f [] ys = refl
map_joined f (x ∷ xs) ys = ap (λ l. f x ∷ l) (map_joined f xs ys)

filter_joined : {X : Type 0} (q : X → Bool) (xs ys : List X) → filter q (xs ++ ys) ≡ filter q xs ++ filter q ys
filter_joined q [] ys = refl
filter_joined q (x ∷ xs) ys = elim (q x) as (λ b. cond b (x ∷ filter q (xs ++ ys)) (filter q (xs ++ ys)) ≡ cond b (x ∷ filter q xs) (filter q xs) ++ filter q ys) [ true ↦ ap (λ l. x ∷ l) (filter_joined q xs ys) | false ↦ filter_joined q xs ys ]

got_at : (xs : List Region) (i : ℕ) (x d : Region) → slice_get xs i ≡ Some x → (i < length xs) × (get_or xs i d ≡ x)
got_at [] i x d e = absurd (cc)
got_at (y ∷ xs) zero x d e = (omega arith, cc)
got_at (y ∷ xs) (suc i) x d e = let later = got_at xs i x d e in (omega (arith, later.0), later.1)

-- the regions that a child gets of the first ones, with the next
forked_next : (rs : List Region) (i : ℕ) (r : Region) (b : Bool) → slice_get rs i ≡ Some r → is_forked r ≡ b → filter is_forked (take (i + 1) rs) ≡ filter is_forked (take i rs) ++ cond b (r ∷ []) []
forked_next rs i r b at is =
    let got = got_at rs i r r at in
    ap (filter is_forked) (take_more rs i r got.0) ∙ filter_joined is_forked (take i rs) (get_or rs i r ∷ [])
    ∙ ap (λ (x : Region). filter is_forked (take i rs) ++ filter is_forked (x ∷ [])) got.1
    ∙ ap (λ v. filter is_forked (take i rs) ++ cond v (r ∷ []) []) is

nothing_more : {X : Type 0} (xs : List X) → xs ++ [] ≡ xs
nothing_more [] = refl
nothing_more (x ∷ xs) = ap (λ l. x ∷ l) (nothing_more xs)

-- a region that an access may reach is the first that starts at its page
found_start : (rs : List Region) (i : ℕ) (r : Region) → AreInOrder extent rs → ((x : Region) → Has x rs → 0 < x.pages) → is_accessible r.state ≡ true → slice_get rs i ≡ Some r → find (starts_at r.start) rs ≡ Some r
found_start [] i r order some is at = absurd (cc)
found_start (x ∷ rs) zero r order some is at =
    let same : x ≡ r = cc in
    let starts : starts_at r.start x ≡ true = ap (starts_at r.start) same ∙ ap (λ b. b && (r.start == r.start)) is ∙ eq-eqb r.start r.start refl in
    ap (λ b. cond b (Some x) (find (starts_at r.start) rs)) starts ∙ ap Some same
found_start (x ∷ rs) (suc i) r order some is at =
    let got = got_at rs i r r at in
    let before : x.start + x.pages ≤ r.start = subst (λ (y : Region). x.start + x.pages ≤ y.start) got.1 (order 0 (suc i) r (omega arith) (omega (arith, got.0))) in
    let other : x.start ≢ r.start = λ e. absurd (omega (arith, before, e, some x (inl refl))) in
    let fails : (x.start == r.start) ≡ false = grind (arith, rules, other) in
    let starts : starts_at r.start x ≡ false = ap (λ b. is_accessible x.state && b) fails ∙ never (is_accessible x.state) in
    ap (λ b. cond b (Some x) (find (starts_at r.start) rs)) starts ∙ found_start rs i r (λ a b d l m. order (suc a) (suc b) d (omega (arith, l)) (omega (arith, m))) (λ y h. some y (inr h)) is at
  where
    never : (b : Bool) → (b && false) ≡ false
    never true = refl
    never false = refl

bytes_within : (s t : ℕ → List ℕ) (x n : ℕ) → ((i : ℕ) → x ≤ i → i < x + n → s i ≡ t i) → flat_map s (range_with_len x n) ≡ flat_map t (range_with_len x n)
bytes_within s t x zero h = refl
bytes_within s t x (suc n) h = ap₂ ◌++◌ (h x (omega arith) (omega arith)) (bytes_within s t (x + 1) n (λ i l m. h i (omega (arith, l)) (omega (arith, m))))

spawned_view : (k : Kernel) (b : Bytes) (p : ℕ) → p < length k.queues → entry k.spaces.processes p ≡ None → state_of (with_child k p []) b ≡ spawned (state_of k b) p
spawned_view k b p l e = λ i. record (state_of k b) {
  processes = processes_set b.seen.entry_bytes k.spaces.processes k.queues p (Some []) [] l i;
  orphans = Rattle.genie_kernel.specs.Orphans.orphans_view k.config.page b.seen.kept_bytes (owned_spawned k.spaces.processes p e i) k.transfers;
}

module _ (laws : RegionLaws) (k : Kernel) (p child : ℕ) (rs : List Region) (may : MayFork k p child rs) where
  abbrev ps : List (Option (List Region))
  ps = k.spaces.processes

  queue_place : child < length k.queues
  queue_place = let size = may.good.spaced.queue_places in omega (arith, size, may.place)

  in_ps : child < length ps
  in_ps = inside k child [] may.good may.place may.free

  -- at first the child has no region
  pub copies_none : ObjectsSuffice → HasCopies k child rs 0 [] k.memory.objects
  copies_none law =
      let same = owned_spawned ps child may.free in
      record {
        sound = may.good.sound;
        entries = λ a i. refl;
        others = λ a e. refl;
        absent = λ a e. absurd (cc);
        number = omega arith;
        spare = (let few = law k.memory.objects k.spaces.processes k.hidden may.good.backed may.good.few may.good.spaced.processes child may.place (let none = ap (λ (o : Option (List Region)). length (regions_of o)) may.free in omega (arith, none, may.unhidden)) in omega (arith, few));
        few = record { process = may.good.few.process; few = λ pid. subst (λ (l : List Region). length l + count_by (is_of pid) k.hidden ≤ 32) (sym (regions_spawned ps child pid may.free)) (may.good.few.few pid) };
        backed = subst (λ (l : List Region). AreBacked k.memory.objects (l ++ map hidden_region k.hidden)) (sym same) may.good.backed;
        named = λ n e. (λ j. Rattle.std.specs.Option.option_map Rattle.genie_changes.specs.Regions.object_in (find (has_id n) (same j)));
        ends = λ c j d h. absurd h;
        sources = λ c h. absurd h;
        works = λ f. omega arith;
        state = λ b h. spawned_view k b child queue_place may.free;
      }

  module _ (n : ℕ) (cs : List Region) (os : List (List Entry)) (x : HasCopies k child rs n cs os) (r : Region) (at : slice_get rs n ≡ Some r) where
    there : n < length rs
    there = (got_at rs n r r at).0

    -- the next region isn't copied
    pub copies_pass : is_forked r ≡ false → HasCopies k child rs (n + 1) cs os
    copies_pass shut =
        let same : filter is_forked (take (n + 1) rs) ≡ filter is_forked (take n rs) = forked_next rs n r false at shut ∙ nothing_more (filter is_forked (take n rs)) in
        record {
          sound = x.sound;
          entries = x.entries;
          others = x.others;
          absent = x.absent;
          number = (let l = x.number in omega (arith, l));
          spare = x.spare;
          few = x.few;
          backed = x.backed;
          named = x.named;
          ends = λ c j d h l m. x.ends c j d h (omega (arith, l)) m;
          sources = x.sources;
          works = λ f. subst (λ l. sum_by (source_work f rs) cs ≤ sum_by f l) (sym same) (x.works f);
          state = λ b h. x.state b h ∙ ap (λ l. add_copies (spawned (state_of k b) child) child (map (region_view b.seen.entry_bytes) l)) (sym same);
        }

    region_has : Has r rs
    region_has = subst (λ (z : Region). Has z rs) (got_at rs n r r at).1 (has_at rs n r there)

    pub pages_some : 0 < r.pages
    pages_some = may.some r region_has

    pub pages_most : r.pages ≤ 64
    pages_most = may.most r region_has

    abbrev h : Kernel
    h = with_child k child cs

    few_copies : length rs ≤ 32 → length cs < 32
    few_copies most = let l = x.number in omega (arith, l, there, most)

    set_here : entry (set ps child (Some cs)) child ≡ Some cs
    set_here = get_or-set_same ps child (Some cs) None in_ps

    -- its pages are free, and its number new
    pub pages_free : is_free extent r.start r.pages cs ≡ true
    pages_free = free_behind r.start r.pages cs (λ c m. subst (λ (y : Region). c.start + c.pages ≤ y.start) (got_at rs n r r at).1 (x.ends c n r m (omega arith) there))

    pub number_new : (id : RegionId) → length rs ≤ 32 → id.0 ≡ fresh (outline h) → region_of id cs ≡ None
    number_new id most is = find_none (has_id id.0) cs (fresh_new k child cs may.good may.place may.free id.0 (let l = few_copies most in omega (arith, l)) is).0

    pub room_now : length rs ≤ 32 → length (regions_of (entry (set ps child (Some cs)) child)) + count_by (is_of child) k.hidden < 32
    room_now most = let size = ap (λ (o : Option (List Region)). length (regions_of o)) set_here in let l = few_copies most in omega (arith, size, l, may.unhidden)

    module _ (id : RegionId) (more : List Region) (new : Memory) (most : length rs ≤ 32) (shared : is_forked r ≡ true) (fits : count_by (λ o. not (is_absent o)) os < 512) (is : id.0 ≡ fresh (outline h)) (y : AddsCopy id r cs more (with_entries k os) new) where
      abbrev c : Region
      c = copy_region id y.object r

      abbrev o : ℕ
      o = y.object.0

      abbrev news : List (List Entry)
      news = set os o (replicate r.pages no_entry)

      abbrev added : List Region
      added = with_added c cs

      set_twice : set (set ps child (Some cs)) child (Some added) ≡ set ps child (Some added)
      set_twice = set-set ps child (Some cs) (Some added)

      unnamed : list_any (names_weakly id.0) k.transfers ≡ false
      unnamed = (fresh_new k child cs may.good may.place may.free id.0 (let l = few_copies most in omega (arith, l)) is).1

      object_new : object_at k.memory.objects o ≡ []
      object_new = ⊎_elim (λ (was : list_any (has_object o) cs ≡ true). x.absent o was) (λ other. sym (x.others o other) ∙ y.absent) (cases_Bool (list_any (has_object o) cs))

      some_there : (es : List Entry) → length es ≡ r.pages → is_absent es ≡ false
      some_there [] e = absurd (omega (arith, e, pages_some))
      some_there (z ∷ es) e = refl

      size : length (object_at news o) ≡ r.pages
      size = sym (ap (λ (z : Memory). length (object_at z.objects o)) y.made) ∙ y.size

      makes : MakesObject c os news
      makes = record {
        absent = ap is_absent y.absent;
        there = some_there (object_at news o) size;
        long = size;
        others = λ a other. ap length (get_or-set_other os o a (replicate r.pages no_entry) [] other);
        absences = λ a other. ap is_absent (get_or-set_other os o a (replicate r.pages no_entry) [] other);
      }

      shows_before : (b : Bytes) → ((z : Region) → Has z added → ShowsSource b.seen.entry_bytes rs z) → (z : Region) → Has z cs → ShowsSource b.seen.entry_bytes rs z
      shows_before b shows z m = shows z (to_added z c cs (inr m))

      found : find (starts_at r.start) rs ≡ Some r
      found = found_start rs n r may.ordered may.some shared at

      copy_view : (b : Bytes) → ShowsSource b.seen.entry_bytes rs c → region_view b.seen.entry_bytes c ≡ copy_of (state_of h b) (region_view b.seen.entry_bytes r)
      copy_view b shows =
          let number : id.0 ≡ fresh (state_of h b) = is ∙ sym (fresh_view h b) in
          let bytes : object_bytes b.seen.entry_bytes o r.pages ≡ object_bytes b.seen.entry_bytes r.object.0 r.pages = bytes_within (b.seen.entry_bytes o) (b.seen.entry_bytes r.object.0) 0 r.pages (λ i l m. shows r i found (omega (arith, m))) in
          λ j. record (copy_of (state_of h b) (region_view b.seen.entry_bytes r)) { number = number j; bytes = bytes j }

      state_more : (b : Bytes) → ((z : Region) → Has z added → ShowsSource b.seen.entry_bytes rs z) → state_of (with_child k child added) b ≡ add_copies (spawned (state_of k b) child) child (map (region_view b.seen.entry_bytes) (filter is_forked (take (n + 1) rs)))
      state_more b shows =
          let view = region_view b.seen.entry_bytes in
          let base = spawned (state_of k b) child in
          let before = x.state b (shows_before b shows) in
          let joined : filter is_forked (take (n + 1) rs) ≡ filter is_forked (take n rs) ++ r ∷ [] = forked_next rs n r true at shared in
          laws.added h k.memory (spaces.set_regions k.spaces child added) b b child c cs set_here (sym set_twice) unnamed (keeps_bytes h b)
          ∙ ap (space.add_region (state_of h b) child) (copy_view b (shows c (to_added c c cs (inl refl))))
          ∙ ap (λ s. space.add_region s child (copy_of s (view r))) before
          ∙ sym (ap (λ l. add_copies base child (map view l)) joined ∙ ap (add_copies base child) (map_joined view (filter is_forked (take n rs)) (r ∷ [])) ∙ copies_joined base child (map view (filter is_forked (take n rs))) (view r))

      has_more : (a : ℕ) → list_any (has_object a) added ≡ (has_object a c || list_any (has_object a) cs)
      has_more a = any_added (has_object a) c cs

      parts : (a : ℕ) → list_any (has_object a) added ≡ false → ((o == a) ≡ false) × (list_any (has_object a) cs ≡ false)
      parts a e = Rattle.std.proofs.lemmas.Bool.or_parts (has_object a c) (list_any (has_object a) cs) (sym (has_more a) ∙ e)

      absent_more : (a : ℕ) → list_any (has_object a) added ≡ true → object_at k.memory.objects a ≡ []
      absent_more a e = ⊎_elim
          (λ (here : (o == a) ≡ true). (λ j. object_at k.memory.objects (sym (eqb-true o a here) j)) ∙ object_new)
          (λ (there : (o == a) ≡ false). x.absent a (sym (has_more a ∙ ap (λ b. b || list_any (has_object a) cs) there) ∙ e))
          (cases_Bool (o == a))

      ends_more : (z : Region) (j : ℕ) (d : Region) → Has z added → n + 1 ≤ j → j < length rs → z.start + z.pages ≤ (get_or rs j d).start
      ends_more z j d m l s = ⊎_elim
          (λ (e : c ≡ z). subst (λ (q : Region). q.start + q.pages ≤ (get_or rs j d).start) e (subst (λ (q : Region). q.start + q.pages ≤ (get_or rs j d).start) (got_at rs n r d at).1 (may.ordered n j d (omega (arith, l)) s)))
          (λ old. x.ends z j d old (omega (arith, l)) s)
          (from_added z c cs m)

      sources_more : (z : Region) → Has z added → IsSource rs z
      sources_more z m = ⊎_elim (λ (e : c ≡ z). subst (IsSource rs) e (record { region = r; found = found; pages = refl })) (x.sources z) (from_added z c cs m)

      works_more : (f : Region → ℕ) → sum_by (source_work f rs) added ≤ sum_by f (filter is_forked (take (n + 1) rs))
      works_more f =
          let here : source_work f rs c ≡ f r = ap (λ (o : Option Region). elim o as (λ _. ℕ) [ None ↦ 0 | Some q ↦ f q ]) found in
          let joined = ap (sum_by f) (forked_next rs n r true at shared) ∙ sum_by-append f (filter is_forked (take n rs)) (r ∷ []) in
          let last = sum_by-cons f r [] in
          omega (arith, sum_added (source_work f rs) c cs, here, joined, last, x.works f)

      at_most : (b : Bool) → num b ≤ 1
      at_most true = omega arith
      at_most false = omega arith

      spare_more : count_by (λ o. not (is_absent o)) news ≤ 512
      spare_more =
          let below : o < length news = object_in news o 0 (omega (arith, size, pages_some)) in
          let more = count_by-set (λ (es : List Entry). not (is_absent es)) os o (replicate r.pages no_entry) [] (omega (arith, below, length-set os o (replicate r.pages no_entry))) in
          omega (arith, more, fits, at_most (not (is_absent (replicate r.pages no_entry))))

      copies_made : HasCopies k child rs (n + 1) added news
      copies_made = record {
        sound = subst IsSound y.made y.sound;
        entries = λ a i. entry_made os o r.pages a i y.absent ∙ x.entries a i;
        others = λ a e. get_or-set_other os o a (replicate r.pages no_entry) [] (λ s. let bad : true ≡ false = sym (eq-eqb o a (sym s)) ∙ (parts a e).0 in cc) ∙ x.others a (parts a e).1;
        absent = absent_more;
        number = (let l = x.number in omega (arith, l, length_added c cs));
        spare = spare_more;
        few = subst (λ qs. AreFew qs k.hidden) set_twice (laws.few_more (set ps child (Some cs)) k.hidden child c cs set_here (let l = few_copies most in omega (arith, l, may.unhidden)) x.few);
        backed = subst (λ qs. AreBacked news (all_regions qs k.hidden)) set_twice (laws.backed_more os news (set ps child (Some cs)) k.hidden child c cs set_here pages_some makes x.backed);
        named = λ m e. (λ j. Rattle.std.specs.Option.option_map Rattle.genie_changes.specs.Regions.object_in (find (has_id m) (owned_regions (sym set_twice j)))) ∙ laws.finds_more k.transfers (set ps child (Some cs)) child c cs set_here unnamed m e ∙ x.named m e;
        ends = ends_more;
        sources = sources_more;
        works = works_more;
        state = state_more;
      }

      -- the next region is copied
      pub copies_next : HasCopies k child rs (n + 1) more new.objects
      copies_next = subst (λ l. HasCopies k child rs (n + 1) l new.objects) (sym y.added) (subst (λ l. HasCopies k child rs (n + 1) added l) (sym (ap (λ (z : Memory). z.objects) y.made)) copies_made)

-- the kernel in the middle of this: nothing but its objects has changed
pub fresh_there : (k mid : Kernel) (child n : ℕ) (cs : List Region) → mid ≡ record k { memory = with_entries k mid.memory.objects } → ((q : ℕ) → q < 16 → entry mid.spaces.processes q ≡ None → n ≡ fresh (outline (with_child mid q cs))) → child < 16 → entry k.spaces.processes child ≡ None → n ≡ fresh (outline (with_child k child cs))
fresh_there k mid child n cs only f place free = f child place (ap (λ (x : Kernel). entry x.spaces.processes child) only ∙ free) ∙ ap (λ (x : Kernel). fresh (outline (with_child x child cs))) only

pub only_next : (k mid : Kernel) (new : Memory) (objects : List (List Entry)) → mid ≡ record k { memory = with_entries k mid.memory.objects } → new ≡ record (mid.memory) { objects = objects } → record mid { memory = new } ≡ record k { memory = with_entries k new.objects }
only_next k mid new objects only made =
    let is : new ≡ with_entries k objects = made ∙ ap (λ (x : Kernel). record (x.memory) { objects = objects }) only in
    ap (λ (x : Kernel). record x { memory = new }) only ∙ (λ j. record k { memory = (is ∙ ap (with_entries k) (sym (ap (λ (m : Memory). m.objects) is))) j })

pub adds_there : (k mid : Kernel) (id : RegionId) (r : Region) (cs more : List Region) (new : Memory) → mid ≡ record k { memory = with_entries k mid.memory.objects } → AddsCopy id r cs more mid.memory new → AddsCopy id r cs more (with_entries k mid.memory.objects) new
adds_there k mid id r cs more new only y = subst (λ m. AddsCopy id r cs more m new) (ap (λ (x : Kernel). x.memory) only) y

pub region_there : (k mid : Kernel) (p i : ℕ) (rs : List Region) (r : Region) → mid ≡ record k { memory = with_entries k mid.memory.objects } → rs ≡ spaces.regions_of p mid.spaces → slice_get rs i ≡ Some r → slice_get (spaces.regions_of p k.spaces) i ≡ Some r
region_there k mid p i rs r only is at = sym (ap (λ (l : List Region). slice_get l i) (is ∙ ap (λ (x : Kernel). spaces.regions_of p x.spaces) only)) ∙ at

pub alive_there : (k mid : Kernel) (p : ℕ) → mid ≡ record k { memory = with_entries k mid.memory.objects } → spaces.is_alive p k.spaces ≡ true → spaces.is_alive p mid.spaces ≡ true
alive_there k mid p only alive = ap (λ (x : Kernel). spaces.is_alive p x.spaces) only ∙ alive

pub copies_few : (regions copies : List Region) (n : ℕ) → length copies ≤ n → n < length regions → length regions ≤ 32 → length copies < 32
copies_few regions copies n l m most = omega (arith, l, m, most)

pub object_room : ObjectsSuffice → (k : Kernel) (p child : ℕ) (rs : List Region) (may : MayFork k p child rs) (n : ℕ) (cs : List Region) (os : List (List Entry)) → HasCopies k child rs n cs os → n < length rs → length rs ≤ 32 → count_by (λ o. not (is_absent o)) os < 512
object_room law k p child rs may n cs os x there most =
    let place : child < length k.spaces.processes = inside k child cs may.good may.place may.free in
    let size = ap (λ (o : Option (List Region)). length (regions_of o)) (get_or-set_same k.spaces.processes child (Some cs) None place) in
    let few = copies_few rs cs n x.number there most in
    law os (set k.spaces.processes child (Some cs)) k.hidden x.backed x.few (length-set k.spaces.processes child (Some cs) ∙ may.good.spaced.processes) child may.place (omega (arith, size, few, may.unhidden))
