-- How a fork ends.
use Rattle.std.proofs.Common.{◌≡◌, ◌≢◌, Bool, ℕ, ◌<◌, ◌^◌, true, false, List, [], ◌∷◌, refl, sym, ap, subst, arith, ◌∙◌, length, get_or, get_or-set_same, get_or-set_other, ⊎_elim, map, zero, suc, take, filter, inl, inr, ◌≤◌, ◌+◌, ◌*◌}
use Rattle.std.specs.Prelude.{Option, Some, None, All, find, is_some, unwrap_or, slice_set, sum_by, if◌then◌else◌}
use Rattle.std.specs.List.{AllPairs, list_any}
use Rattle.std.proofs.lemmas.Bool.{cases_Bool, cond_both}
use Rattle.genie_base.specs.declared.event.Event.TheVariants.{Fork}
use Rattle.genie_base.specs.declared.reply.Reply.TheVariants as reply
use Rattle.genie_frame.specs.declared.frame.Meters.{Meters}
use Rattle.genie_frame.specs.FrameTable.{counts_at, is_held, FrameTable}
use Rattle.genie_hiding.specs.Discarding.{Discards}
use Rattle.genie_hiding.specs.Hidden.{is_among, objects_of}
use Rattle.genie_host.specs.Host.{HostView}
use Rattle.genie_object.specs.declared.memory.Memory.{Memory}
use Rattle.genie_base.specs.declared.config.Config.{Config}
use Rattle.genie_object.specs.declared.objects.Entry.{Entry}
use Rattle.genie_object.specs.Costs.{AreBelow, Spends, work}
use Rattle.genie_object.specs.Leaving.{IsUnheld}
use Rattle.genie_object.specs.Objects.{entry_at, object_at}
use Rattle.genie_object.specs.Sound.{IsSized, IsSound}
use Rattle.std.proofs.lemmas.List.{take_all}
use Rattle.std.proofs.lemmas.List.Sums.{sum_by-cons}
use Rattle.genie_object.specs.declared.pages.PageId.{PageId}
use Rattle.genie_object.specs.declared.pages.Place.{Place}
use Rattle.genie_object.specs.declared.pages.Place.TheVariants.{Zero, Frame, Slot}
use Rattle.genie_object.specs.Memory.{entry_frame, frame_in, frame_of}
use Rattle.genie_object.specs.Pages.{page_at}
use Rattle.genie_object.specs.Lemmas.Relocated.{frame_is}
use Rattle.genie_object.specs.Lemmas.Spending.{spends_more}
use Rattle.genie_region.specs.declared.region.Region.{Region}
use Rattle.genie_region.specs.Layouts.{starts_at}
use Rattle.genie_sharing.specs.Copying.{Copies, copies_work, copy_work, is_held_in}
use Rattle.genie_sharing.specs.Regions.{CopiesRegions, ShowsRegion, has_object, is_copied, region_work}
use Rattle.genie_space.specs.Spaces.{is_alive, regions_of}
use Rattle.genie_space.specs.Translations.{IsBacked}
use Rattle.genie_store.specs.StoreView.{StoreView}
use Rattle.genie_model.specs.Lemmas.Lists.{Has, all_has, find_has, has_left}
use Rattle.genie_model.specs.Refusing.{refuse}
use Rattle.genie_model.specs.Tables.{entry}
use Rattle.genie_kernel.specs.declared.kernel.Kernel.{Kernel}
use Rattle.genie_kernel.specs.Backed.{all_regions, hidden_region}
use Rattle.genie_kernel.specs.Good.{IsGood}
use Rattle.genie_kernel.specs.Kept.{Kept}
use Rattle.genie_kernel.specs.Laws.{LentFramesSuffice, MemoryCallsKeepGood, MemoryCallsKeepLent}
use Rattle.genie_kernel.specs.Regions.{owned_regions}
use Rattle.genie_kernel.specs.Steps.{StepsTold}
use Rattle.genie_kernel.specs.View.{outline, view}
use Rattle.genie_changes.specs.Removing.{GoodRegionsFit}
use Rattle.genie_copying.specs.Kinds.{count_pages, is_weakly_held}
use Rattle.genie_copying.specs.Ranges.{count_all, count_in, pages_of}
use Rattle.genie_copying.specs.Spending.{StayUnheld}
use Rattle.genie_copying.specs.Lemmas.Counting.{bytes_fewer, bytes_next, bytes_none, count_fewer}
use Rattle.genie_spaces.specs.Clearing.{Clears}
use Rattle.genie_spaces.specs.Forking.{Begins, CanCopyPages, SharesPages, with_child, with_entries, fork_work, is_forked}
use Rattle.genie_spaces.specs.RegionLaws.{RegionLaws}
use Rattle.genie_spaces.proofs.Copying.{MayFork, may_fork, parent_alive}
use Rattle.genie_spaces.proofs.Forked.{good_back, good_now, kept_back, kept_now, sized_back, told_back, told_there, keeps_back}
use Rattle.genie_spaces.proofs.Numbering.{has_owned}
use Rattle.genie_spaces.proofs.Ready.{are_copies, copies_there, good_forked, source_apart, source_there, unhidden as unhidden_region}

-- whether a device holds the page of an entry, by its place and by its frame
held_place : (m : Memory) (place : Place) → is_held_in m.frames.counts place ≡ elim (frame_in place) as (λ _. Bool) [ None ↦ false | Some f ↦ is_held (counts_at m.frames f) ]
held_place m Zero = refl
held_place m (Frame f) = refl
held_place m (Slot s) = refl

held_page : (m : Memory) (q : Option PageId) → is_held_in m.frames.counts (elim q as (λ _. Place) [ None ↦ Zero | Some r ↦ (page_at m.pages.pages r.0).place ]) ≡ elim (frame_of m.pages.pages q) as (λ _. Bool) [ None ↦ false | Some f ↦ is_held (counts_at m.frames f) ]
held_page m None = refl
held_page m (Some r) = held_place m (page_at m.pages.pages r.0).place

-- what it costs to copy entries are the bytes of those that a device holds
copies_bytes : (m : Memory) (o n : ℕ) → copies_work m o n ≡ m.frames.page * count_pages (is_weakly_held m o) 0 n
copies_bytes m o zero = sym (bytes_none m.frames.page (is_weakly_held m o) 0)
copies_bytes m o (suc n) =
    let next = bytes_next m.frames.page (is_weakly_held m o) 0 n in
    let none : n ≡ 0 + n = omega arith in
    let one : copy_work m o n ≡ (if is_weakly_held m o (0 + n) then m.frames.page else 0) = ap (λ (b : Bool). if b then m.frames.page else 0) (held_page m (entry_at m.objects o n).page) ∙ ap (λ (j : ℕ). if is_weakly_held m o j then m.frames.page else 0) none in
    omega (arith, next, copies_bytes m o n, one)

copies_held : (hidden : List ℕ) (old new : Memory) (r : Region) → StayUnheld hidden old new → is_among r.object.0 hidden ≡ false → copies_work new r.object.0 r.pages ≤ new.frames.page * count_in is_weakly_held old (pages_of r)
copies_held hidden old new r stays out =
    let fewer = bytes_fewer new.frames.page _ _ (count_fewer (is_weakly_held new r.object.0) (is_weakly_held old r.object.0) 0 r.pages (λ i. stays r.object.0 i out)) in
    omega (arith, fewer, copies_bytes new r.object.0 r.pages)

times_sum : (page a b : ℕ) → page * (a + b) ≡ page * a + page * b
times_sum page a b = grind arith

all_held : (page : ℕ) (f : Region → ℕ) (m : Memory) (rs : List Region) → ((r : Region) → Has r rs → f r ≤ page * count_in is_weakly_held m (pages_of r)) → sum_by f (filter is_forked rs) ≤ page * count_all is_weakly_held m rs
all_held page f m [] h = omega arith
all_held page f m (x ∷ rs) h =
    let rest = all_held page f m rs (λ r is. h r (inr is)) in
    let first = h x (inl refl) in
    let all : page * count_all is_weakly_held m (x ∷ rs) ≡ page * count_in is_weakly_held m (pages_of x) + page * count_all is_weakly_held m rs = ap (λ n. page * n) (sum_by-cons (λ (r : Region). count_in is_weakly_held m (pages_of r)) x rs) ∙ times_sum page (count_in is_weakly_held m (pages_of x)) (count_all is_weakly_held m rs) in
    cond_both (is_forked x) (x ∷ filter is_forked rs) (filter is_forked rs) (λ l. sum_by f l ≤ page * count_all is_weakly_held m (x ∷ rs)) (λ t. omega (arith, rest, first, all, sum_by-cons f x (filter is_forked rs))) (λ t. omega (arith, rest, all))

-- it isn't refused once hidden regions were dropped
pub still_accepted : (old k : Kernel) (p child : ℕ) → Clears old k → refuse (outline old) (Fork p child) ≡ None → refuse (outline k) (Fork p child) ≡ None
still_accepted old k p child c e = subst (λ (n : Kernel). refuse (outline n) (Fork p child) ≡ None) (sym c.only) e

-- what it costs to copy entries that a device holds still
work_back : (old new : Memory) (o i : ℕ) → new.frames.page ≡ old.frames.page → ((f : ℕ) → entry_frame old o i ≡ Some f → is_held (counts_at old.frames f) ≡ true → (entry_frame new o i ≡ Some f) × (is_held (counts_at new.frames f) ≡ true)) → copy_work old o i ≤ copy_work new o i
work_back old new o i page stays = by_page (entry_at old.objects o i).page refl where
  framed_held : (f : ℕ) → (q : Option PageId) → (entry_at new.objects o i).page ≡ q → frame_of new.pages.pages q ≡ Some f → is_held (counts_at new.frames f) ≡ true → is_held_in new.frames.counts (elim q as (λ _. Place) [ None ↦ Zero | Some r ↦ (page_at new.pages.pages r.0).place ]) ≡ true
  framed_held f None e framed held = absurd (cc)
  framed_held f (Some r) e framed held = let y = frame_is (page_at new.pages.pages r.0).place f framed in ap (is_held_in new.frames.counts) y.is ∙ ap (λ n. is_held (counts_at new.frames n)) (sym y.number) ∙ held

  by_held : (place : Place) → frame_in place ≡ entry_frame old o i → (if is_held_in old.frames.counts place then old.frames.page else 0) ≤ copy_work new o i
  by_held Zero e = omega arith
  by_held (Slot s) e = omega arith
  by_held (Frame f) e = ⊎_elim
      (λ (held : is_held (counts_at old.frames f.0) ≡ true).
      let now = stays f.0 (sym e) held in
      let is = framed_held f.0 (entry_at new.objects o i).page refl now.0 now.1 in
      omega (arith, page, ap (λ b. if b then old.frames.page else 0) held, ap (λ b. if b then new.frames.page else 0) is))
      (λ free. omega (arith, ap (λ b. if b then old.frames.page else 0) free))
      (cases_Bool (is_held (counts_at old.frames f.0)))

  by_page : (q : Option PageId) → (entry_at old.objects o i).page ≡ q → copy_work old o i ≤ copy_work new o i
  by_page None e =
      let none : copy_work old o i ≡ 0 = ap (λ (q : Option PageId). if is_held_in old.frames.counts (elim q as (λ _. Place) [ None ↦ Zero | Some r ↦ (page_at old.pages.pages r.0).place ]) then old.frames.page else 0) e in
      omega (arith, none)
  by_page (Some q) e =
      let is : copy_work old o i ≡ (if is_held_in old.frames.counts (page_at old.pages.pages q.0).place then old.frames.page else 0) = ap (λ (q : Option PageId). if is_held_in old.frames.counts (elim q as (λ _. Place) [ None ↦ Zero | Some r ↦ (page_at old.pages.pages r.0).place ]) then old.frames.page else 0) e in
      omega (arith, is, by_held (page_at old.pages.pages q.0).place (sym (ap (frame_of old.pages.pages) e)))

works_back : (old new : Memory) (o n : ℕ) → new.frames.page ≡ old.frames.page → ((i f : ℕ) → entry_frame old o i ≡ Some f → is_held (counts_at old.frames f) ≡ true → (entry_frame new o i ≡ Some f) × (is_held (counts_at new.frames f) ≡ true)) → copies_work old o n ≤ copies_work new o n
works_back old new o zero page stays = omega arith
works_back old new o (suc n) page stays = let rest = works_back old new o n page stays in let first = work_back old new o n page (stays n) in omega (arith, rest, first)

sum_less : (f g : Region → ℕ) (rs : List Region) → ((r : Region) → Has r rs → f r ≤ g r) → sum_by f rs ≤ sum_by g rs
sum_less f g [] h = omega arith
sum_less f g (r ∷ rs) h = let rest = sum_less f g rs (λ q is. h q (inr is)) in let first = h r (inl refl) in omega (arith, rest, first, sum_by-cons f r rs, sum_by-cons g r rs)

from_filter : (q : Region → Bool) (r : Region) (rs : List Region) → Has r (filter q rs) → Has r rs
from_filter q r [] h = h
from_filter q r (x ∷ rs) h = cond_both (q x) (x ∷ filter q rs) (filter q rs) (λ l. Has r l → Has r (x ∷ rs)) (λ t g. ⊎_elim inl (λ later. inr (from_filter q r rs later)) g) (λ f g. inr (from_filter q r rs g)) h

module _ (laws : RegionLaws) (fit : GoodRegionsFit) (old mid : Kernel) (p child : ℕ) (cs : List Region) (start : IsGood old) (accepted : refuse (outline old) (Fork p child) ≡ None) (b : Begins old mid p child cs) where
  abbrev k : Kernel
  k = b.cleared

  abbrev rs : List Region
  rs = regions_of p k.spaces

  abbrev os : List (List Entry)
  os = mid.memory.objects

  refusal : refuse (outline k) (Fork p child) ≡ None
  refusal = still_accepted old k p child b.clears accepted

  may : MayFork k p child rs
  may = may_fork fit k p child b.clears.good refusal b.unhidden b.ordered

  ready_there : CanCopyPages (record k { memory = with_entries k os }) p child cs
  ready_there = record {
    alive = parent_alive k p child refusal;
    good = good_forked laws k p child rs cs os may refusal b.made;
    spare = b.made.spare;
    are = are_copies laws k p child rs cs os may refusal b.made;
  }

  pub ready : CanCopyPages mid p child cs
  ready = subst (λ (n : Kernel). CanCopyPages n p child cs) (sym b.only) ready_there

  pub sized_mid : (v : StoreView) → IsSized old.memory v → IsSized mid.memory v
  sized_mid v sized =
      let g = b.clears.good in
      let c = ap (λ (n : Kernel). n.config) b.clears.only in
      subst (λ (n : Kernel). IsSized n.memory v) (sym b.only) (record {
        count = sized.count ∙ start.sized.slots ∙ sym (g.sized.slots ∙ ap (λ (x : Config). x.slots) c);
        page = sized.page ∙ start.sized.page ∙ sym (g.sized.page ∙ ap (λ (x : Config). x.page) c);
      })

  pub meters_mid : AreBelow (2 ^ 63) old.memory.frames.meters → AreBelow (2 ^ 63) mid.memory.frames.meters
  meters_mid l = subst (AreBelow (2 ^ 63)) (sym (ap (λ (n : Kernel). n.memory.frames.meters) b.only ∙ b.clears.meters)) l

  module _ (after : Kernel) (only : after ≡ record mid { memory = after.memory; clock = after.clock }) (v w : StoreView) where
    is_after : after ≡ record k { memory = after.memory; clock = after.clock }
    is_after = only ∙ ap (λ (n : Kernel). record n { memory = after.memory; clock = after.clock }) b.only

    pub child_number : child < 16
    child_number = may.place

    pub tables_size : length after.spaces.processes ≡ 16
    tables_size = ap (λ (n : Kernel). length n.spaces.processes) is_after ∙ b.clears.good.spaced.processes

    pub child_new : is_alive child after.spaces ≡ false
    child_new = ap (λ (n : Kernel). is_alive child n.spaces) is_after ∙ ap is_some may.free

    other_process : p ≢ child
    other_process e = let bad : Some rs ≡ None = sym may.there ∙ ap (entry k.spaces.processes) e ∙ may.free in cc

    -- what the copying cost is at most what it would cost where held pages are held still
    spent_by : (m : Memory) → m.frames.page ≡ k.memory.frames.page → ((o i f : ℕ) → entry_frame (with_entries k os) o i ≡ Some f → is_held (counts_at k.memory.frames f) ≡ true → (entry_frame m o i ≡ Some f) × (is_held (counts_at m.frames f) ≡ true)) → sum_by (region_work (with_entries k os) rs) cs ≤ sum_by (λ (r : Region). copies_work m r.object.0 r.pages) (filter is_forked rs)
    spent_by m page stays =
        let f : Region → ℕ = λ (r : Region). copies_work (with_entries k os) r.object.0 (length (object_at os r.object.0)) in
        let first = b.made.works f in
        let all : filter is_forked (take (length rs) rs) ≡ filter is_forked rs = ap (filter is_forked) (take_all (length rs) rs (omega arith)) in
        let each : (r : Region) → Has r (filter is_forked rs) → f r ≤ copies_work m r.object.0 r.pages = λ r is.
        let there = source_there laws k p child rs cs os may refusal b.made r (from_filter is_forked r rs is) in
        let long : length (object_at os r.object.0) ≡ r.pages = all_has (IsBacked os) (all_regions (slice_set k.spaces.processes child (Some cs)) k.hidden) b.made.backed.each r (has_left r (owned_regions (slice_set k.spaces.processes child (Some cs))) (map hidden_region k.hidden) there) in
        let less = works_back (with_entries k os) m r.object.0 r.pages page (stays r.object.0) in
        omega (arith, less, ap (copies_work (with_entries k os) r.object.0) long) in
        omega (arith, first, ap (sum_by f) all, sum_less f (λ (r : Region). copies_work m r.object.0 r.pages) (filter is_forked rs) each)

    spent_there : Spends (sum_by (region_work mid.memory (regions_of p mid.spaces)) cs) 0 (2 ^ 24) (2 ^ 11) mid.memory.frames.meters after.memory.frames.meters → Spends (sum_by (region_work (with_entries k os) rs) cs) 0 (2 ^ 24) (2 ^ 11) old.memory.frames.meters after.memory.frames.meters
    spent_there s =
        let one = subst (λ (n : Kernel). Spends (sum_by (region_work n.memory (regions_of p n.spaces)) cs) 0 (2 ^ 24) (2 ^ 11) n.memory.frames.meters after.memory.frames.meters) b.only s in
        subst (λ t. Spends (sum_by (region_work (with_entries k os) rs) cs) 0 (2 ^ 24) (2 ^ 11) t after.memory.frames.meters) b.clears.meters one

    -- and that is at most the bytes of the pages that a device held before
    held_most : sum_by (region_work (with_entries k os) rs) cs ≤ old.config.page * count_all is_weakly_held old.memory (regions_of p old.spaces)
    held_most =
        let framed_was : (o i : ℕ) → entry_frame (with_entries k os) o i ≡ entry_frame k.memory o i = λ o i. ap (λ (e : Entry). frame_of k.memory.pages.pages e.page) (b.made.entries o i) in
        let less = spent_by k.memory refl (λ o i f framed held. (sym (framed_was o i) ∙ framed, held)) in
        let same : regions_of p old.spaces ≡ rs = sym (ap (λ (n : Kernel). regions_of p n.spaces) b.clears.only) in
        let named : entry old.spaces.processes p ≡ Some rs = sym (ap (λ (n : Kernel). entry n.spaces.processes p) b.clears.only) ∙ may.there in
        let each : (r : Region) → Has r rs → copies_work k.memory r.object.0 r.pages ≤ k.memory.frames.page * count_in is_weakly_held old.memory (pages_of r) = λ r is. copies_held (objects_of old.hidden) old.memory k.memory r b.clears.unheld (unhidden_region old start r (has_owned old.spaces.processes p rs r named is)) in
        let most = all_held k.memory.frames.page (λ (r : Region). copies_work k.memory r.object.0 r.pages) old.memory rs each in
        let page : k.memory.frames.page ≡ old.config.page = b.clears.good.sized.page ∙ ap (λ (n : Kernel). n.config.page) b.clears.only in
        let there : k.memory.frames.page * count_all is_weakly_held old.memory rs ≡ old.config.page * count_all is_weakly_held old.memory (regions_of p old.spaces) = ap (λ n. n * count_all is_weakly_held old.memory rs) page ∙ ap (λ l. old.config.page * count_all is_weakly_held old.memory l) (sym same) in
        omega (arith, less, most, there)

    -- so what is copied keeps to the table, whatever the end
    pub table_kept : (t : Meters) → t ≡ after.memory.frames.meters → Spends (sum_by (region_work mid.memory (regions_of p mid.spaces)) cs) 0 (2 ^ 24) (2 ^ 11) mid.memory.frames.meters after.memory.frames.meters → work t ≤ work old.memory.frames.meters + old.config.page * count_all is_weakly_held old.memory (regions_of p old.spaces)
    table_kept t same s = let spent = (spent_there s).work in let most = held_most in omega (arith, spent, most, ap work same)

    module _ (y : CopiesRegions (objects_of mid.hidden) (regions_of p mid.spaces) cs mid.memory after.memory v w) (new : Kernel) (added : new ≡ with_child after child cs) where
      one : CopiesRegions (objects_of k.hidden) rs cs (with_entries k os) after.memory v w
      one = subst (λ (n : Kernel). CopiesRegions (objects_of n.hidden) (regions_of p n.spaces) cs n.memory after.memory v w) b.only y

      abbrev done : Kernel
      done = record (with_child k child cs) { memory = after.memory; clock = after.clock }

      is_new : new ≡ done
      is_new = added ∙ ap (λ (n : Kernel). with_child n child cs) is_after

      pub good_done : MemoryCallsKeepGood → IsGood new
      good_done law = subst IsGood (sym is_new) (good_now laws old k p child rs cs os start b.clears may refusal b.made after.memory v w one.entries one.each law after.clock)

      pub kept_done : MemoryCallsKeepLent → Kept old new
      kept_done law = subst (Kept old) (sym is_new) (kept_now laws old k p child rs cs os start b.clears may refusal b.made after.memory v w one.entries one.each law after.clock)

      pub sized_done : IsSized new.memory w
      sized_done = subst (λ (n : Kernel). IsSized n.memory w) (sym is_new) one.entries.sized

      pub config_done : new.config ≡ old.config
      config_done = ap (λ (n : Kernel). n.config) is_new ∙ ap (λ (n : Kernel). n.config) b.clears.only

      pub numbers_done : new.next ≡ old.next
      numbers_done = ap (λ (n : Kernel). n.next) is_new ∙ ap (λ (n : Kernel). n.next) b.clears.only

      pub told_done : (host : HostView) → StepsTold (view old host v) (Fork p child) (view new host w) reply.Okay
      told_done host = subst (λ (n : Kernel). StepsTold (view old host v) (Fork p child) (view n host w) reply.Okay) (sym is_new) (told_there laws old k p child rs cs os start b.clears may refusal b.made after.memory v w one.entries one.each after.clock host)

      -- an entry that no device holds now was held by none
      unheld_before : (r : Region) (i : ℕ) → IsUnheld after.memory r.object.0 i → IsUnheld (with_entries k os) r.object.0 i
      unheld_before r i free f framed = ⊎_elim
          (λ (held : is_held (counts_at k.memory.frames f) ≡ true).
          let bad : true ≡ false = sym (one.entries.keeps.held f held) ∙ free f (one.entries.keeps.entry_held r.object.0 i f framed held) in cc)
          (λ other. other)
          (cases_Bool (is_held (counts_at k.memory.frames f)))

      in_ps : child < length k.spaces.processes
      in_ps = let size = b.clears.good.spaced.processes in omega (arith, size, may.place)

      shared_there : SharesPages done p child
      shared_there c r i is found below free =
          let mine : regions_of child done.spaces ≡ cs = ap (λ (o : Option (List Region)). unwrap_or o []) (get_or-set_same k.spaces.processes child (Some cs) None in_ps) in
          let parents : regions_of p done.spaces ≡ rs = ap (λ (o : Option (List Region)). unwrap_or o []) (get_or-set_other k.spaces.processes child p (Some cs) None other_process) in
          let found_before : find (starts_at c.start) rs ≡ Some r = sym (ap (find (starts_at c.start)) parents) ∙ found in
          let r_is = (find_has (starts_at c.start) rs r found_before).0 in
          let there = source_there laws k p child rs cs os may refusal b.made r r_is in
          let long : length (object_at os r.object.0) ≡ r.pages = all_has (IsBacked os) (all_regions (slice_set k.spaces.processes child (Some cs)) k.hidden) b.made.backed.each r (has_left r (owned_regions (slice_set k.spaces.processes child (Some cs))) (map hidden_region k.hidden) there) in
          let shows = all_has (ShowsRegion (with_entries k os) after.memory one.entries.source rs) cs one.each c (subst (Has c) mine is) in
          let clear = unhidden_region (record (with_child k child cs) { memory = with_entries k os }) (good_forked laws k p child rs cs os may refusal b.made) r there in
          shows.same r i found_before (omega (arith, below, long)) (unheld_before r i free)
          ∙ sym (one.entries.pages r.object.0 i clear (source_apart laws k p child rs cs os may refusal b.made r r_is))

      pub same_done : new.memory.frames.meters ≡ after.memory.frames.meters
      same_done = ap (λ (n : Kernel). n.memory.frames.meters) is_new

      parents_there : regions_of p done.spaces ≡ rs
      parents_there = ap (λ (o : Option (List Region)). unwrap_or o []) (get_or-set_other k.spaces.processes child p (Some cs) None other_process)

      pub meters_done : Spends (sum_by (region_work mid.memory (regions_of p mid.spaces)) cs) 0 (2 ^ 24) (2 ^ 11) mid.memory.frames.meters after.memory.frames.meters → Spends (fork_work new p) 0 (2 ^ 24) (2 ^ 11) old.memory.frames.meters new.memory.frames.meters
      meters_done s =
          let keeps = one.entries.keeps in
          let less = spent_by after.memory keeps.page (λ o i f framed held. (keeps.entry_held o i f framed held, keeps.held f held)) in
          let same : fork_work done p ≡ sum_by (λ (r : Region). copies_work after.memory r.object.0 r.pages) (filter is_forked rs) = ap (λ l. sum_by (λ (r : Region). copies_work after.memory r.object.0 r.pages) (filter is_forked l)) parents_there in
          subst (λ (n : Kernel). Spends (fork_work n p) 0 (2 ^ 24) (2 ^ 11) old.memory.frames.meters n.memory.frames.meters) (sym is_new)
          (spends_more (sum_by (region_work (with_entries k os) rs) cs) 0 (2 ^ 24) (2 ^ 11) (fork_work done p) 0 (2 ^ 24) (2 ^ 11) old.memory.frames.meters after.memory.frames.meters (spent_there s) (omega (arith, less, same)) (omega arith) (omega arith) (omega arith))

      pub landed_done : new.memory.frames.landed ≡ old.memory.frames.landed
      landed_done = ap (λ (n : Kernel). n.memory.frames.landed) is_new ∙ one.entries.landed ∙ b.clears.landed

      pub shared_done : SharesPages new p child
      shared_done = subst (λ (n : Kernel). SharesPages n p child) (sym is_new) shared_there

    module _ (z : Copies (objects_of mid.hidden) (is_copied cs) mid.memory after.memory v w) where
      failed : Copies (objects_of k.hidden) (is_copied cs) (with_entries k os) after.memory v w
      failed = subst (λ (n : Kernel). Copies (objects_of n.hidden) (is_copied cs) n.memory after.memory v w) b.only z

      pub drop_sound : IsSound after.memory
      drop_sound = failed.sound

      pub drop_there : All (λ (c : Region). object_at after.memory.objects c.object.0 ≢ []) cs
      drop_there = λ j d l e. copies_there laws k p child rs cs os may refusal b.made j d l (nothing (object_at os (get_or cs j d).object.0) (sym (failed.keeps.entries (get_or cs j d).object.0) ∙ ap length e)) where
        nothing : {X : Type 0} (xs : List X) → length xs ≡ 0 → xs ≡ []
        nothing [] h = refl
        nothing (y ∷ ys) h = absurd (omega (arith, h))

      pub drop_differ : AllPairs (λ (x y : Region). x.object.0 ≢ y.object.0) cs
      drop_differ = (are_copies laws k p child rs cs os may refusal b.made).differ

      module _ (dropped : Memory) (d : Discards (λ o. list_any (has_object o) cs) after.memory dropped) where
        abbrev left : Kernel
        left = record k { memory = dropped; clock = after.clock }

        is_left : record after { memory = dropped } ≡ left
        is_left = ap (λ (n : Kernel). record n { memory = dropped }) is_after

        pub good_failed : MemoryCallsKeepGood → IsGood (record after { memory = dropped })
        good_failed law = subst IsGood (sym is_left) (good_back laws old k p child rs cs os start b.clears may refusal b.made after.memory v w failed dropped d law after.clock)

        pub kept_failed : MemoryCallsKeepLent → Kept old (record after { memory = dropped })
        kept_failed law = subst (Kept old) (sym is_left) (kept_back laws old k p child rs cs os start b.clears may refusal b.made after.memory v w failed dropped d law after.clock)

        pub sized_failed : IsSized dropped w
        sized_failed = sized_back laws old k p child rs cs os start b.clears may refusal b.made after.memory v w failed dropped d

        pub config_failed : after.config ≡ old.config
        config_failed = ap (λ (n : Kernel). n.config) is_after ∙ ap (λ (n : Kernel). n.config) b.clears.only

        pub numbers_failed : after.next ≡ old.next
        numbers_failed = ap (λ (n : Kernel). n.next) is_after ∙ ap (λ (n : Kernel). n.next) b.clears.only

        pub told_failed : LentFramesSuffice → (host : HostView) → StepsTold (view old host v) (Fork p child) (view (record after { memory = dropped }) host w) reply.StoreFault
        told_failed law host = subst (λ (n : Kernel). StepsTold (view old host v) (Fork p child) (view n host w) reply.StoreFault) (sym is_left) (told_back laws old k p child rs cs os start b.clears may refusal b.made after.memory v w failed dropped d law after.clock host)

        pub meters_failed : Spends (sum_by (region_work mid.memory (regions_of p mid.spaces)) cs) 0 (2 ^ 24) (2 ^ 11) mid.memory.frames.meters after.memory.frames.meters → Spends (fork_work (record after { memory = dropped }) p) 0 (2 ^ 24) (2 ^ 11) old.memory.frames.meters dropped.frames.meters
        meters_failed s =
            let keeps = keeps_back laws old k p child rs cs os start b.clears may refusal b.made after.memory v w failed dropped d in
            let framed_was : (o i : ℕ) → entry_frame (with_entries k os) o i ≡ entry_frame k.memory o i = λ o i. ap (λ (e : Entry). frame_of k.memory.pages.pages e.page) (b.made.entries o i) in
            let less = spent_by dropped keeps.page (λ o i f framed held. (keeps.entry_held o i f (sym (framed_was o i) ∙ framed) held, keeps.held f held)) in
            let same : fork_work (record after { memory = dropped }) p ≡ fork_work left p = ap (λ (n : Kernel). fork_work n p) is_left in
            let meters : dropped.frames.meters ≡ after.memory.frames.meters = ap (λ (t : FrameTable). t.meters) d.frames in
            subst (λ t. Spends (fork_work (record after { memory = dropped }) p) 0 (2 ^ 24) (2 ^ 11) old.memory.frames.meters t) (sym meters)
            (spends_more (sum_by (region_work (with_entries k os) rs) cs) 0 (2 ^ 24) (2 ^ 11) (fork_work (record after { memory = dropped }) p) 0 (2 ^ 24) (2 ^ 11) old.memory.frames.meters after.memory.frames.meters (spent_there s) (omega (arith, less, same)) (omega arith) (omega arith) (omega arith))

        pub same_failed : dropped.frames.meters ≡ after.memory.frames.meters
        same_failed = ap (λ (t : FrameTable). t.meters) d.frames

        pub landed_failed : dropped.frames.landed ≡ old.memory.frames.landed
        landed_failed = ap (λ (t : FrameTable). t.landed) d.frames ∙ failed.landed ∙ b.clears.landed
