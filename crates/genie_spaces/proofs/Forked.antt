-- What a fork leaves, where the pages were copied and where the store failed.
use Rattle.std.proofs.Common.{◌≡◌, ◌≢◌, ℕ, ◌<◌, ◌≤◌, suc, true, false, List, [], ◌∷◌, refl, sym, ap, ap₂, subst, arith, rules, ◌∙◌, map, length, get_or, inl, inr, ⊎_elim, eq-eqb}
use Rattle.std.specs.Prelude.{Option, Some, None, All, IfSome, ◌==◌, count_by, sum_by, flat_map, find, nat_lt, if◌then◌else◌}
use Rattle.std.specs.List.{list_any, range_with_len}
use Rattle.std.specs.Option.{option_map}
use Rattle.std.proofs.lemmas.Bool.{cases_Bool}
use Rattle.std.proofs.lemmas.List.Sums.{sum_by-cons}
use Rattle.genie_base.specs.declared.event.Event.{Event}
use Rattle.genie_base.specs.declared.event.Event.TheVariants.{Fork}
use Rattle.genie_base.specs.declared.reply.Reply.{Reply}
use Rattle.genie_base.specs.declared.reply.Reply.TheVariants as reply
use Rattle.genie_base.specs.Lemmas.Places.{num}
use Rattle.genie_frame.specs.declared.frame.Counts.{Counts}
use Rattle.genie_frame.specs.declared.frame.Owner.{Owner}
use Rattle.genie_frame.specs.declared.frame.Owner.TheVariants.{Free, Page, System, Pool, Nobody}
use Rattle.genie_frame.specs.FrameTable.{FrameTable, bytes_at, counts_at, is_held, is_lent, is_page, no_counts, owner_at}
use Rattle.genie_host.specs.Host.{HostView}
use Rattle.genie_store.specs.StoreView.{StoreView}
use Rattle.genie_hiding.specs.Discarding.{Discards}
use Rattle.genie_hiding.specs.Hidden.{is_among, objects_of, outside, seen_outside}
use Rattle.genie_hiding.specs.Lemmas.Naming.{cached_kept, names_page}
use Rattle.genie_hiding.specs.Lemmas.Searching.{count_found}
use Rattle.genie_input.specs.Pools.{PoolState}
use Rattle.genie_object.specs.declared.memory.Memory.{Memory}
use Rattle.genie_object.specs.declared.objects.Entry.{Entry}
use Rattle.genie_object.specs.declared.pages.PageId.{PageId}
use Rattle.genie_object.specs.Memory.{Seen, entry_frame, frame_in, frame_of, is_kept, seen, seen_with}
use Rattle.genie_object.specs.Objects.{entry_at, names, no_entry, object_at}
use Rattle.genie_object.specs.Pages.{page_at}
use Rattle.genie_object.specs.Sound.{FitsHidden, IsSized, IsSound}
use Rattle.genie_object.specs.Touching.{KeepsLoans}
use Rattle.genie_object.specs.Lemmas.PlaceOf.{framed_place}
use Rattle.genie_object.specs.Lemmas.Relocated.{frame_is}
use Rattle.genie_object.specs.Lemmas.Touching.{as_many, lasts_on}
use Rattle.genie_plan.specs.Plans.{input_frames}
use Rattle.genie_region.specs.declared.region.Region.{Region}
use Rattle.genie_region.specs.Layouts.{starts_at}
use Rattle.genie_sharing.specs.Copying.{Copies, see_from}
use Rattle.genie_sharing.specs.Regions.{ShowsRegion, has_object, is_copied}
use Rattle.genie_space.specs.Translations.{IsBacked}
use Rattle.genie_model.specs.Lemmas.Lists.{Has, all_has, find_has, has_any, has_at, has_left, has_right}
use Rattle.genie_model.specs.Refusing.{refuse}
use Rattle.genie_model.specs.State as flat
use Rattle.genie_model.specs.Step.{accept}
use Rattle.genie_model.specs.Tables.{entry}
use Rattle.genie_kernel.specs.declared.kernel.Kernel.{Kernel}
use Rattle.genie_kernel.specs.declared.transfer.Transfer.{Transfer}
use Rattle.genie_kernel.specs.Backed.{AreGuarded, all_regions, hidden_region}
use Rattle.genie_kernel.specs.Calls.{has_number, receiver}
use Rattle.genie_kernel.specs.Counted.{lent_of, pool_on}
use Rattle.genie_kernel.specs.Devices.{devices_view}
use Rattle.genie_kernel.specs.Good.{IsGood}
use Rattle.genie_kernel.specs.Kept.{Kept, KeepsOwner}
use Rattle.genie_kernel.specs.Laws.{LentFramesSuffice, MemoryCallsKeepGood, MemoryCallsKeepLent}
use Rattle.genie_kernel.specs.Loans.{frames_of}
use Rattle.genie_kernel.specs.Regions.{owned_regions, process_view, processes_view, region_view, regions_of}
use Rattle.genie_kernel.specs.Same.{SameNeeded, ShowSame}
use Rattle.genie_kernel.specs.Steps.{Steps, StepsTold, bytes_over}
use Rattle.genie_kernel.specs.Told.{rests_of, sents_of}
use Rattle.genie_kernel.specs.View.{Bytes, bytes_with, outline, state_of, view}
use Rattle.genie_kernel.specs.Lemmas.Alike.{devices_alike, orphans_alike, transfers_alike}
use Rattle.genie_kernel.specs.Lemmas.Keeping.{transfer_lent}
use Rattle.genie_kernel.specs.Lemmas.Staying.{pool_same}
use Rattle.genie_kernel.specs.Lemmas.Stepping.{accepted_step}
use Rattle.genie_changes.specs.Regions.{KeepsBytes}
use Rattle.genie_room.specs.Lemmas.Totals.{sum_above_any}
use Rattle.genie_spaces.specs.Clearing.{Clears}
use Rattle.genie_spaces.specs.Forking.{HasCopies, ShowsSource, with_child, with_entries}
use Rattle.genie_spaces.specs.RegionLaws.{RegionLaws}
use Rattle.genie_spaces.proofs.Copying.{MayFork}
use Rattle.genie_spaces.proofs.Keeping.{keeps_bytes}
use Rattle.genie_spaces.proofs.Ready.{copy_owned, good_forked, seen_same, source_apart, source_there, state_forked, unhidden}

-- the state is the same where all that is kept is
bytes_alike : (s t : ℕ → List ℕ) (xs : List ℕ) → ((i : ℕ) → t i ≡ s i) → flat_map t xs ≡ flat_map s xs
bytes_alike s t xs same = λ j. flat_map (λ i. same i j) xs

regions_alike : (s t : ℕ → ℕ → List ℕ) (rs : List Region) → ((r : Region) → Has r rs → (i : ℕ) → t r.object.0 i ≡ s r.object.0 i) → map (region_view t) rs ≡ map (region_view s) rs
regions_alike s t [] h = refl
regions_alike s t (r ∷ rs) h = ap₂ ◌∷◌ (ap (λ bytes. record (region_view s r) { bytes = bytes }) (bytes_alike (s r.object.0) (t r.object.0) (range_with_len 0 r.pages) (h r (inl refl)))) (regions_alike s t rs (λ q is. h q (inr is)))

process_alike : (s t : ℕ → ℕ → List ℕ) (o : Option (List Region)) (q : List ℕ) → ((r : Region) → Has r (regions_of o) → (i : ℕ) → t r.object.0 i ≡ s r.object.0 i) → process_view t o q ≡ process_view s o q
process_alike s t None q h = refl
process_alike s t (Some rs) q h = ap (λ (l : List flat.Region). Some (record { queue = q; regions = l })) (regions_alike s t rs h)

processes_alike : (s t : ℕ → ℕ → List ℕ) (ps : List (Option (List Region))) (qs : List (List ℕ)) → ((r : Region) → Has r (owned_regions ps) → (i : ℕ) → t r.object.0 i ≡ s r.object.0 i) → processes_view t ps qs ≡ processes_view s ps qs
processes_alike s t [] qs h = refl
processes_alike s t (y ∷ ps) [] h = ap₂ ◌∷◌ (process_alike s t y [] (λ r is. h r (has_left r (regions_of y) (owned_regions ps) is))) (processes_alike s t ps [] (λ r is. h r (has_right r (regions_of y) (owned_regions ps) is)))
processes_alike s t (y ∷ ps) (q ∷ qs) h = ap₂ ◌∷◌ (process_alike s t y q (λ r is. h r (has_left r (regions_of y) (owned_regions ps) is))) (processes_alike s t ps qs (λ r is. h r (has_right r (regions_of y) (owned_regions ps) is)))

pub state_kept : (k : Kernel) (a b : Bytes) → KeepsBytes k a b → state_of k b ≡ state_of k a
state_kept k a b keeps =
    let owned : List Region = owned_regions k.spaces.processes in
    let processes = processes_alike a.seen.entry_bytes b.seen.entry_bytes k.spaces.processes k.queues (λ r is i. all_has (λ (q : Region). (j : ℕ) → b.seen.entry_bytes q.object.0 j ≡ a.seen.entry_bytes q.object.0 j) owned keeps.entries r is i) in
    let orphans = orphans_alike owned k.transfers k.pools a.seen.kept_bytes b.seen.kept_bytes keeps.frames k.config.page in
    let transfers = transfers_alike owned k.transfers k.pools a.seen.kept_bytes b.seen.kept_bytes keeps.frames k.devices in
    let devices = (λ i. devices_view b.seen.kept_bytes 0 (keeps.rests i) (keeps.sents i) k.pools (receiver k.transfers) k.devices) ∙ devices_alike owned k.transfers k.pools a.seen.kept_bytes b.seen.kept_bytes keeps.frames 0 a.rests a.sents (receiver k.transfers) k.devices in
    λ i. record (state_of k a) { processes = processes i; orphans = orphans i; transfers = transfers i; devices = devices i }

-- one event after the other keeps what both keep
owner_on : (a b c : Owner) → KeepsOwner a b → KeepsOwner b c → KeepsOwner a c
owner_on a b c x y = record {
  owner = ⊎_elim (λ (same : c ≡ b). ⊎_elim (λ (e : b ≡ a). inl (same ∙ e)) (λ (e : b ≡ Nobody). inr (same ∙ e)) x.owner) (λ e. inr e) y.owner;
  unfreed = y.unfreed;
}

pub kept_on : (a b c : Kernel) → b.transfers ≡ a.transfers → b.pools ≡ a.pools → Kept a b → Kept b c → Kept a c
kept_on a b c transfers pools x y = record {
  lent = λ n f t u s on still.
      let was : find (has_number n) b.transfers ≡ Some t = ap (find (has_number n)) transfers ∙ s.was in
      owner_on _ _ _ (x.lent n f t t (record { was = s.was; is = was }) on on) (y.lent n f t u (record { was = was; is = s.is }) on still);
  pooled = λ d f on still.
      let mid : 0 < pool_on f (entry b.pools d) = subst (λ l. 0 < pool_on f (entry l d)) (sym pools) on in
      owner_on _ _ _ (x.pooled d f on mid) (y.pooled d f mid still);
  fresh = λ n f t u s unready on.
      let was : find (has_number n) b.transfers ≡ Some t = ap (find (has_number n)) transfers ∙ s.was in
      y.fresh n f t u (record { was = was; is = s.is }) unready on;
}

pub clocked : (k : Kernel) (clock : ℕ) → IsGood k → IsGood (record k { clock = clock })
clocked k clock g = record {
  fits = g.fits;
  sized = g.sized;
  spaced = g.spaced;
  equipped = g.equipped;
  orderly = g.orderly;
  sound = g.sound;
  cached = g.cached;
  few = g.few;
  backed = g.backed;
  guarded = g.guarded;
  counted = g.counted;
  owners = g.owners;
  held = g.held;
  planned = g.planned;
  fitting = g.fitting;
  posted = g.posted;
  sending = g.sending;
  receiving = g.receiving;
  arrived = g.arrived;
}

-- the slots that are told afterwards, over which the event is a step
pub record StepsOver (old new : Kernel) (e : Event) (r : Reply) (w : StoreView) (t : ℕ → List ℕ) : Type 0 where
  pub after : ℕ → List ℕ
  pub told : w.slots ≡ Some after
  pub steps : (rests sents : ℕ → List ℕ) → Steps (state_of old (bytes_over old.memory t rests sents)) e (state_of new (bytes_over new.memory after rests sents)) r

told_by : (old new : Kernel) (e : Event) (r : Reply) (w : StoreView) → refuse (outline old) e ≡ None → (slots rests sents : Option (ℕ → List ℕ)) → ((t : ℕ → List ℕ) → slots ≡ Some t → StepsOver old new e r w t) → StepsTold (option_map (state_of old) (bytes_with (option_map (seen old.memory) slots) rests sents)) e (option_map (state_of new) (bytes_with (option_map (seen new.memory) w.slots) rests sents)) r
told_by old new e r w h None rests sents f = tt
told_by old new e r w h (Some t) None sents f = tt
told_by old new e r w h (Some t) (Some rests) None f = tt
told_by old new e r w h (Some t) (Some rests) (Some sents) f =
    let y = f t refl in
    subst (λ o. StepsTold (Some (state_of old (bytes_over old.memory t rests sents))) e (option_map (state_of new) (bytes_with (option_map (seen new.memory) o) (Some rests) (Some sents))) r) (sym y.told)
    (accepted_step old (bytes_over old.memory t rests sents) e (state_of new (bytes_over new.memory y.after rests sents)) r h (y.steps rests sents))

pub told_step : (old new : Kernel) (e : Event) (r : Reply) (host : HostView) (v w : StoreView) → refuse (outline old) e ≡ None → new.config ≡ old.config → ((t : ℕ → List ℕ) → v.slots ≡ Some t → StepsOver old new e r w t) → StepsTold (view old host v) e (view new host w) r
told_step old new e r host v w h config f = subst (λ c. StepsTold (view old host v) e (option_map (state_of new) (bytes_with (seen_with new.memory w) (rests_of host c) (sents_of host c))) r) (sym config) (told_by old new e r w h v.slots (rests_of host old.config) (sents_of host old.config) f)

-- what is told after calls that copy
pub record IsTold (hidden : List ℕ) (source : ℕ → ℕ → ℕ) (old new : Memory) (w : StoreView) (t : ℕ → List ℕ) : Type 0 where
  pub after : ℕ → List ℕ
  pub told : w.slots ≡ Some after
  pub shown : outside hidden (seen new after) ≡ see_from source (outside hidden (seen old t))

told_after : (hidden : List ℕ) (source : ℕ → ℕ → ℕ) (old new : Memory) (w : StoreView) (t : ℕ → List ℕ) (slots : Option (ℕ → List ℕ)) → w.slots ≡ slots → option_map (outside hidden) (option_map (seen new) slots) ≡ Some (see_from source (outside hidden (seen old t))) → IsTold hidden source old new w t
told_after hidden source old new w t None is e = absurd (cc)
told_after hidden source old new w t (Some after) is e = record { after = after; told = is; shown = cc }

pub told_now : (hidden : List ℕ) (source : ℕ → ℕ → ℕ) (old new : Memory) (v w : StoreView) (t : ℕ → List ℕ) → seen_outside hidden new w ≡ option_map (see_from source) (seen_outside hidden old v) → v.slots ≡ Some t → IsTold hidden source old new w t
told_now hidden source old new v w t seen_is told = told_after hidden source old new w t w.slots refl (seen_is ∙ ap (λ o. option_map (see_from source) (option_map (outside hidden) (option_map (seen old) o))) told)

unmasked : (hidden : List ℕ) (source : ℕ → ℕ → ℕ) (s n : Seen) (a i : ℕ) → outside hidden n ≡ see_from source (outside hidden s) → is_among a hidden ≡ false → is_among (source a i) hidden ≡ false → n.entry_bytes a i ≡ s.entry_bytes (source a i) i
unmasked hidden source s n a i e ha hs =
    let shown : (if is_among a hidden then [] else n.entry_bytes a i) ≡ (if is_among (source a i) hidden then [] else s.entry_bytes (source a i) i) = ap (λ (x : Seen). x.entry_bytes a i) e in
    sym (ap (λ b. if b then [] else n.entry_bytes a i) ha) ∙ shown ∙ ap (λ b. if b then [] else s.entry_bytes (source a i) i) hs

-- a place at which a sum has something
record Adds {X : Type 0} (g : X → ℕ) (d : X) (xs : List X) : Type 0 where
  at : ℕ
  some : 0 < g (get_or xs at d)

sum_found : {X : Type 0} (g : X → ℕ) (d : X) (xs : List X) → 0 < sum_by g xs → Adds g d xs
sum_found g d [] l = absurd (omega (arith, l))
sum_found g d (x ∷ xs) l = ⊎_elim
    (λ (here : 0 < g x). record { at = 0; some = here })
    (λ none. let later = sum_found g d xs (omega (arith, l, none, sum_by-cons g x xs)) in record { at = suc later.at; some = later.some })
    (Rattle.std.proofs.lemmas.Bool.cases_lt 0 (g x))

-- a frame that is lent shows by itself what it showed, after calls that keep loans
module _ (k : Kernel) (m : Memory) (good : IsGood k) (sound : IsSound m) (keeps : KeepsLoans k.memory m) (counts : m.frames.counts ≡ k.memory.frames.counts) where
  was_kept : ℕ → List ℕ
  was_kept f = if is_kept (owner_at k.memory.frames f) (counts_at k.memory.frames f) then bytes_at k.memory.frames f else []

  counts_same : (f : ℕ) → counts_at m.frames f ≡ counts_at k.memory.frames f
  counts_same f = ap (λ cs. get_or cs f no_counts) counts

  abbrev kept_in : Memory → ℕ → List ℕ
  kept_in n f = if is_kept (owner_at n.frames f) (counts_at n.frames f) then bytes_at n.frames f else []

  strong_or_held : (c : Counts) → is_lent c ≡ true → is_held c ≡ false → 0 < c.strong
  strong_or_held c l h = grind (arith, rules, l, h)

  lent_input : (c : Counts) → 0 < c.input → is_lent c ≡ true
  lent_input c l = grind (arith, rules, l)

  is_true : (n : ℕ) → 0 < n → nat_lt 0 n ≡ true
  is_true n l = grind (arith, rules, l)

  page_in : (o : Owner) → is_page o ≡ true → (p : ℕ) × (o ≡ Page p)
  page_in Free e = absurd (cc)
  page_in (Page p) e = (p, refl)
  page_in (System t) e = absurd (cc)
  page_in (Pool d) e = absurd (cc)
  page_in Nobody e = absurd (cc)

  -- a held page's frame isn't left to nobody
  held_stays : (f : ℕ) → is_held (counts_at k.memory.frames f) ≡ true → is_page (owner_at k.memory.frames f) ≡ true → owner_at m.frames f ≢ Nobody
  held_stays f held paged nobody =
      let p = page_in (owner_at k.memory.frames f) paged in
      let alone = good.sound.held.alone f p.0 p.1 held in
      let place = good.sound.placed.of_page (record { 0 = f }) p.0 p.1 in
      let o = sum_found (count_by (names p.0)) [] k.memory.objects (omega (arith, alone, good.sound.shared.counted p.0)) in
      let i = count_found (names p.0) no_entry (get_or k.memory.objects o.at []) o.some in
      let page = names_page (record { 0 = p.0 }) (entry_at k.memory.objects o.at i.at) i.passes in
      let framed : entry_frame k.memory o.at i.at ≡ Some f = ap (frame_of k.memory.pages.pages) page ∙ ap frame_in place in
      let now = keeps.entry_held o.at i.at f framed held in
      named_now (entry_at m.objects o.at i.at).page now
    where
      named_now : (page : Option PageId) → frame_of m.pages.pages page ≡ Some f → ⊥
      named_now None e = absurd (cc)
      named_now (Some q) e = let y = frame_is (page_at m.pages.pages q.0).place f e in let bad : Page q.0 ≡ Nobody = sym (sound.placed.in_frame q.0 y.frame y.is) ∙ ap (owner_at m.frames) (sym y.number) ∙ nobody in cc

  lent_shows : (f : ℕ) → is_lent (counts_at k.memory.frames f) ≡ true → kept_in m f ≡ kept_in k.memory f
  lent_shows f lent =
      let l = keeps.lent f lent in
      let same_by : is_kept (owner_at m.frames f) (counts_at m.frames f) ≡ is_kept (owner_at k.memory.frames f) (counts_at k.memory.frames f) → kept_in m f ≡ kept_in k.memory f = λ e. ap₂ (λ b (bytes : List ℕ). if b then bytes else []) e l.bytes in
      ⊎_elim
      (λ same. same_by (ap₂ is_kept same (counts_same f)))
      (λ (left : (is_page (owner_at k.memory.frames f) ≡ true) × (owner_at m.frames f ≡ Nobody)).
      ⊎_elim
      (λ (held : is_held (counts_at k.memory.frames f) ≡ true). absurd (held_stays f held left.0 left.1))
      (λ free.
      let p = page_in (owner_at k.memory.frames f) left.0 in
      let strong = is_true _ (strong_or_held (counts_at k.memory.frames f) lent free) in
      same_by (ap (λ o. is_kept o (counts_at m.frames f)) left.1 ∙ sym (ap (λ o. is_kept o (counts_at k.memory.frames f)) p.1 ∙ strong)))
      (cases_Bool (is_held (counts_at k.memory.frames f))))
      l.owner

  times_has : (f : ℕ) (xs : List ℕ) → Has f xs → 1 ≤ count_by (λ g. g == f) xs
  times_has f [] h = absurd h
  times_has f (x ∷ xs) (inl e) = let here : num (x == f) ≡ 1 = ap num (eq-eqb x f e) in omega (arith, sum_by-cons (λ g. num (g == f)) x xs, here)
  times_has f (x ∷ xs) (inr h) = let later = times_has f xs h in omega (arith, sum_by-cons (λ g. num (g == f)) x xs)

  pool_shows : (d : ℕ) (o : Option PoolState) → entry k.pools d ≡ o → IfSome o (λ (q : PoolState). ShowSame (kept_in k.memory) (kept_in m) (input_frames q.loans))
  pool_shows d None is = tt
  pool_shows d (Some q) is = λ i e l.
      let f : ℕ = get_or (input_frames q.loans) i e in
      let some = times_has f (input_frames q.loans) (has_at (input_frames q.loans) i e l) in
      let was = good.owners.pool_frames f d (subst (λ x. 0 < pool_on f x) (sym is) (omega (arith, some))) in
      let now = pool_same (owner_at k.memory.frames f) (owner_at m.frames f) d (sym (keeps.systems f)) was in
      ap₂ (λ b (bytes : List ℕ). if b then bytes else []) (ap₂ is_kept (now ∙ sym was) (counts_same f)) (bytes_of f was)
    where
      bytes_of : (f : ℕ) → owner_at k.memory.frames f ≡ Pool d → bytes_at m.frames f ≡ bytes_at k.memory.frames f
      bytes_of f was =
          let one = good.owners.pooled f d was in
          let above : 0 < pool_on f (entry k.pools d) = omega (arith, one) in
          let sum = sum_above_any (pool_on f) None k.pools d refl in
          let counted : (counts_at k.memory.frames f).input ≡ (lent_of k.transfers k.pools f).input = ap (λ (c : Counts). c.input) (good.counted f) in
          let some : 0 < (counts_at k.memory.frames f).input = omega (arith, above, sum, counted) in
          (keeps.lent f (lent_input (counts_at k.memory.frames f) some)).bytes

  pub frames_same : LentFramesSuffice → SameNeeded (owned_regions k.spaces.processes) k.transfers k.pools (kept_in k.memory) (kept_in m)
  frames_same law = law (owned_regions k.spaces.processes) k.transfers k.pools (kept_in k.memory) (kept_in m) (record {
    lent = λ j d l i e lt.
        let t : Transfer = get_or k.transfers j d in
        let f : ℕ = get_or (frames_of t.loans) i e in
        lent_shows f (transfer_lent k f t good (has_at k.transfers j d l) (has_any (λ g. g == f) f (frames_of t.loans) (has_at (frames_of t.loans) i e lt) (eq-eqb f f refl)));
    pooled = λ d. pool_shows d (entry k.pools d) refl;
  })

module _ (laws : RegionLaws) (old k : Kernel) (p child : ℕ) (rs cs : List Region) (os : List (List Entry)) (start : IsGood old) (clears : Clears old k) (may : MayFork k p child rs) (refusal : refuse (outline k) (Fork p child) ≡ None) (x : HasCopies k child rs (length rs) cs os) where
  abbrev m : Memory
  m = with_entries k os

  abbrev hidden : List ℕ
  hidden = objects_of k.hidden

  abbrev owned : List Region
  owned = owned_regions k.spaces.processes

  -- the state before, over the kernel without the child's hidden regions
  before : (slots rests sents : ℕ → List ℕ) → state_of k (bytes_over k.memory slots rests sents) ≡ state_of old (bytes_over old.memory slots rests sents)
  before slots rests sents = ap (λ (n : Kernel). state_of n (bytes_over k.memory slots rests sents)) clears.only ∙ state_kept old (bytes_over old.memory slots rests sents) (bytes_over k.memory slots rests sents) (clears.bytes slots rests sents)

  -- a region of a process before has an object that was there
  not_copy : (r : Region) → Has r owned → list_any (has_object r.object.0) cs ≡ false
  not_copy r is = ⊎_elim
      (λ (yes : list_any (has_object r.object.0) cs ≡ true).
      let long = all_has (IsBacked k.memory.objects) (all_regions k.spaces.processes k.hidden) may.good.backed.each r (has_left r owned (map hidden_region k.hidden) is) in
      let some = all_has (λ (q : Region). 0 < q.pages) (all_regions k.spaces.processes k.hidden) may.good.backed.some r (has_left r owned (map hidden_region k.hidden) is) in
      absurd (omega (arith, long, some, ap length (x.absent r.object.0 yes))))
      (λ other. other)
      (cases_Bool (list_any (has_object r.object.0) cs))

  clear_of : (r : Region) → Has r owned → is_among r.object.0 hidden ≡ false
  clear_of r is = unhidden k may.good r is

  module _ (copied : Memory) (v w : StoreView) (y : Copies hidden (is_copied cs) m copied v w) where
    module _ (t : ℕ → List ℕ) (told : IsTold hidden y.source m copied w t) where
      abbrev after : ℕ → List ℕ
      after = told.after

      -- regions of processes show what they showed
      owned_shows : (r : Region) → Has r owned → (i : ℕ) → (seen copied after).entry_bytes r.object.0 i ≡ (seen k.memory t).entry_bytes r.object.0 i
      owned_shows r is i =
          let own : y.source r.object.0 i ≡ r.object.0 = y.own r.object.0 i (not_copy r is) in
          unmasked hidden y.source (seen m t) (seen copied after) r.object.0 i told.shown (clear_of r is) (ap (λ o. is_among o hidden) own ∙ clear_of r is)
          ∙ ap (λ o. (seen m t).entry_bytes o i) own
          ∙ ap (λ (s : Seen). s.entry_bytes r.object.0 i) (seen_same laws k p child rs cs os may refusal x t)

      kept_shows : (seen copied after).kept_bytes ≡ (seen k.memory t).kept_bytes
      kept_shows = ap (λ (s : Seen). s.kept_bytes) told.shown

      copied_keeps : (rests sents : ℕ → List ℕ) → KeepsBytes k (bytes_over k.memory t rests sents) (bytes_over copied after rests sents)
      copied_keeps rests sents = record {
        rests = refl;
        sents = refl;
        entries = λ j d l i. owned_shows (get_or owned j d) (has_at owned j d l) i;
        frames = subst (SameNeeded owned k.transfers k.pools (seen k.memory t).kept_bytes) (sym kept_shows) (keeps_bytes k (bytes_over k.memory t rests sents)).frames;
      }

      state_before : (rests sents : ℕ → List ℕ) → state_of k (bytes_over copied after rests sents) ≡ state_of old (bytes_over old.memory t rests sents)
      state_before rests sents = state_kept k (bytes_over k.memory t rests sents) (bytes_over copied after rests sents) (copied_keeps rests sents) ∙ before t rests sents

    narrow_owned : (r : Region) → Has r owned → r.writable ≡ false → (i : ℕ) → (entry_at copied.objects r.object.0 i).writable ≡ false
    narrow_owned r is shut i = ⊎_elim
        (λ (yes : (entry_at copied.objects r.object.0 i).writable ≡ true).
        let then_m = y.narrow r.object.0 i (clear_of r is) yes in
        let then_k : (entry_at k.memory.objects r.object.0 i).writable ≡ true = sym (ap (λ (e : Entry). e.writable) (x.entries r.object.0 i)) ∙ then_m in
        let bad : true ≡ false = sym then_k ∙ all_has (λ (q : Region). q.writable ≡ false → (n : ℕ) → (entry_at k.memory.objects q.object.0 n).writable ≡ false) owned may.good.guarded r is shut i in cc)
        (λ other. other)
        (cases_Bool (entry_at copied.objects r.object.0 i).writable)

    -- the store failed, and the copies were dropped
    module _ (dropped : Memory) (d : Discards (λ o. list_any (has_object o) cs) copied dropped) where
      frame_was : (o i : ℕ) → entry_frame m o i ≡ entry_frame k.memory o i
      frame_was o i = ap (λ (e : Entry). frame_of k.memory.pages.pages e.page) (x.entries o i)

      counts_back : dropped.frames.counts ≡ k.memory.frames.counts
      counts_back = ap (λ (f : FrameTable). f.counts) d.frames ∙ y.counts

      counts_at_back : (f : ℕ) → counts_at dropped.frames f ≡ counts_at k.memory.frames f
      counts_at_back f = ap (λ cs. get_or cs f no_counts) counts_back

      framed_stays : (o i f : ℕ) → entry_frame k.memory o i ≡ Some f → is_held (counts_at k.memory.frames f) ≡ true → entry_frame dropped o i ≡ Some f
      framed_stays o i f e held = ⊎_elim
          (λ (yes : list_any (has_object o) cs ≡ true). let none : None ≡ Some f = sym (ap (λ (es : List Entry). frame_of k.memory.pages.pages (get_or es i no_entry).page) (x.absent o yes)) ∙ e in cc)
          (λ other. framed_place dropped copied o i (d.places o i other) ∙ y.keeps.entry_held o i f (frame_was o i ∙ e) held)
          (cases_Bool (list_any (has_object o) cs))

      size_back : (o : ℕ) → length (object_at dropped.objects o) ≡ length (object_at k.memory.objects o)
      size_back o = ⊎_elim
          (λ (yes : list_any (has_object o) cs ≡ true). ap length (d.gone o yes) ∙ sym (ap length (x.absent o yes)))
          (λ other. d.sizes o other ∙ y.keeps.entries o ∙ ap length (x.others o other))
          (cases_Bool (list_any (has_object o) cs))

      pub keeps_back : KeepsLoans k.memory dropped
      keeps_back = record {
        entry_held = framed_stays;
        held = λ f h. ap is_held (counts_at_back f) ∙ h;
        lent = λ f l. lasts_on k.memory.frames copied.frames dropped.frames f (y.keeps.lent f l) (d.lent f (ap (λ c. is_lent (get_or c f no_counts)) y.counts ∙ l));
        loans = λ f. as_many (counts_at k.memory.frames f) (counts_at dropped.frames f) (counts_at_back f);
        systems = λ f. d.systems f ∙ y.keeps.systems f;
        entries = size_back;
        number = d.number ∙ y.keeps.number;
        page = ap (λ (f : FrameTable). f.page) d.frames ∙ y.keeps.page;
        slots = d.slots ∙ y.keeps.slots;
        most = d.most ∙ y.keeps.most;
      }

      hidden_there : (j : ℕ) → j < length hidden → list_any (has_object (get_or hidden j 0)) cs ≡ false
      hidden_there j l = ⊎_elim
          (λ (yes : list_any (has_object (get_or hidden j 0)) cs ≡ true). let was = may.good.cached.cached j l in let z : 0 < 0 = subst (λ (es : List Entry). 0 < length es) (x.absent (get_or hidden j 0) yes) was.there in absurd (omega arith))
          (λ other. other)
          (cases_Bool (list_any (has_object (get_or hidden j 0)) cs))

      fits_back : FitsHidden dropped hidden
      fits_back = record {
        cached = λ j l. cached_kept (λ a b. list_any (has_object a) cs) copied dropped (get_or hidden j 0) y.sound d.touches (d.sizes (get_or hidden j 0) (hidden_there j l)) (λ i q e. hidden_there j l) (y.fits.cached j l);
        apart = may.good.cached.apart;
      }

      guarded_back : AreGuarded dropped.objects owned
      guarded_back = λ j e l shut i.
          let r : Region = get_or owned j e in
          let is = has_at owned j e l in
          ap (λ (z : Entry). z.writable) (d.others r.object.0 i (not_copy r is)) ∙ narrow_owned r is shut i

      pub good_back : MemoryCallsKeepGood → (clock : ℕ) → IsGood (record k { memory = dropped; clock = clock })
      good_back law clock = clocked (record k { memory = dropped }) clock (law k dropped may.good d.sound fits_back guarded_back counts_back keeps_back)

      pub kept_back : MemoryCallsKeepLent → (clock : ℕ) → Kept old (record k { memory = dropped; clock = clock })
      kept_back law clock =
          let kept = law k dropped may.good keeps_back in
          kept_on old k (record k { memory = dropped; clock = clock }) (ap (λ (n : Kernel). n.transfers) clears.only) (ap (λ (n : Kernel). n.pools) clears.only) clears.kept
          (record { lent = λ n f t u s. kept.lent n f t u (record { was = s.was; is = s.is }); pooled = kept.pooled; fresh = λ n f t u s. kept.fresh n f t u (record { was = s.was; is = s.is }) })

      pub sized_back : IsSized dropped w
      sized_back = record { count = y.sized.count ∙ sym d.slots; page = y.sized.page ∙ sym (ap (λ (f : FrameTable). f.page) d.frames) }

      back_keeps : LentFramesSuffice → (t rests sents : ℕ → List ℕ) (told : IsTold hidden y.source m copied w t) → KeepsBytes k (bytes_over k.memory t rests sents) (bytes_over dropped told.after rests sents)
      back_keeps law t rests sents told = record {
        rests = refl;
        sents = refl;
        entries = λ j e l i. let r : Region = get_or owned j e in let is = has_at owned j e l in d.entries told.after r.object.0 i (not_copy r is) ∙ owned_shows t told r is i;
        frames = frames_same k dropped may.good d.sound keeps_back counts_back law;
      }

      pub told_back : LentFramesSuffice → (clock : ℕ) (host : HostView) → StepsTold (view old host v) (Fork p child) (view (record k { memory = dropped; clock = clock }) host w) reply.StoreFault
      told_back law clock host = told_step old (record k { memory = dropped; clock = clock }) (Fork p child) reply.StoreFault host v w (subst (λ (n : Kernel). refuse (outline n) (Fork p child) ≡ None) clears.only refusal) (ap (λ (n : Kernel). n.config) clears.only) (λ t is.
          let told = told_now hidden y.source m copied v w t y.seen is in
          record {
            after = told.after;
            told = told.told;
            steps = λ rests sents. record { state = state_kept k (bytes_over k.memory t rests sents) (bytes_over dropped told.after rests sents) (back_keeps law t rests sents told) ∙ before t rests sents; reply_is = refl };
          })

    -- the pages were copied
    module _ (each : All (ShowsRegion m copied y.source rs) cs) where
      abbrev child_there : Kernel
      child_there = record (with_child k child cs) { memory = m }

      good_there : IsGood child_there
      good_there = good_forked laws k p child rs cs os may refusal x

      guarded_there : AreGuarded copied.objects (owned_regions child_there.spaces.processes)
      guarded_there = λ j e l shut i.
          let r : Region = get_or (owned_regions child_there.spaces.processes) j e in
          let is = has_at (owned_regions child_there.spaces.processes) j e l in
          ⊎_elim
          (λ (yes : (entry_at copied.objects r.object.0 i).writable ≡ true). let was = y.narrow r.object.0 i (unhidden child_there good_there r is) yes in let bad : true ≡ false = sym was ∙ good_there.guarded j e l shut i in cc)
          (λ other. other)
          (cases_Bool (entry_at copied.objects r.object.0 i).writable)

      pub good_now : MemoryCallsKeepGood → (clock : ℕ) → IsGood (record (with_child k child cs) { memory = copied; clock = clock })
      good_now law clock = clocked (record child_there { memory = copied }) clock (law child_there copied good_there y.sound y.fits guarded_there y.counts y.keeps)

      pub kept_now : MemoryCallsKeepLent → (clock : ℕ) → Kept old (record (with_child k child cs) { memory = copied; clock = clock })
      kept_now law clock =
          let kept = law child_there copied good_there y.keeps in
          kept_on old k (record (with_child k child cs) { memory = copied; clock = clock }) (ap (λ (n : Kernel). n.transfers) clears.only) (ap (λ (n : Kernel). n.pools) clears.only) clears.kept
          (record { lent = λ n f t u s. kept.lent n f t u (record { was = s.was; is = s.is }); pooled = kept.pooled; fresh = λ n f t u s. kept.fresh n f t u (record { was = s.was; is = s.is }) })

      shows_source : (t : ℕ → List ℕ) (told : IsTold hidden y.source m copied w t) (c : Region) → Has c cs → ShowsSource (seen copied told.after).entry_bytes rs c
      shows_source t told c is r i found below =
          let r_is = (find_has (starts_at c.start) rs r found).0 in
          let long : length (object_at os r.object.0) ≡ r.pages = all_has (IsBacked os) (all_regions child_there.spaces.processes k.hidden) x.backed.each r (has_left r (owned_regions child_there.spaces.processes) (map hidden_region k.hidden) (source_there laws k p child rs cs os may refusal x r r_is)) in
          let shows = all_has (ShowsRegion m copied y.source rs) cs each c is in
          let from : y.source c.object.0 i ≡ r.object.0 = shows.from r i found (omega (arith, below, long)) in
          let own : y.source r.object.0 i ≡ r.object.0 = y.own r.object.0 i (source_apart laws k p child rs cs os may refusal x r r_is) in
          let clear = unhidden child_there good_there r (source_there laws k p child rs cs os may refusal x r r_is) in
          unmasked hidden y.source (seen m t) (seen copied told.after) c.object.0 i told.shown (unhidden child_there good_there c (copy_owned laws k p child rs cs os may refusal x c is)) (ap (λ o. is_among o hidden) from ∙ clear)
          ∙ ap (λ o. (seen m t).entry_bytes o i) from
          ∙ sym (unmasked hidden y.source (seen m t) (seen copied told.after) r.object.0 i told.shown clear (ap (λ o. is_among o hidden) own ∙ clear) ∙ ap (λ o. (seen m t).entry_bytes o i) own)

      pub told_there : (clock : ℕ) (host : HostView) → StepsTold (view old host v) (Fork p child) (view (record (with_child k child cs) { memory = copied; clock = clock }) host w) reply.Okay
      told_there clock host = told_step old (record (with_child k child cs) { memory = copied; clock = clock }) (Fork p child) reply.Okay host v w (subst (λ (n : Kernel). refuse (outline n) (Fork p child) ≡ None) clears.only refusal) (ap (λ (n : Kernel). n.config) clears.only) (λ t is.
          let told = told_now hidden y.source m copied v w t y.seen is in
          record {
            after = told.after;
            told = told.told;
            steps = λ rests sents. record {
              state = state_forked laws k p child rs cs os may refusal x (bytes_over copied told.after rests sents) (shows_source t told) ∙ ap (λ s. (accept s (Fork p child)).0) (state_before t told rests sents);
              reply_is = refl;
            };
          })
