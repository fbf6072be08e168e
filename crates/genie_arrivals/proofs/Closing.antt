-- The end of a copy input is one step, also where the store fails.
use Rattle.std.proofs.Common.{◌≡◌, ℕ, ◌+◌, ◌/◌, ◌^◌, ◌≤◌, List, refl, sym, ap, subst, arith, ◌∙◌, length, get_or, false, true}
use Rattle.std.specs.Prelude.{Option, Some, None, All, find}
use Rattle.std.specs.Option.{option_map}
use Rattle.genie_base.specs.Bytes.{overlaid}
use Rattle.genie_base.specs.Causes.{Rose}
use Rattle.genie_base.specs.Counts.{span}
use Rattle.genie_base.specs.Transfers.{is_strong}
use Rattle.genie_base.specs.declared.event.Event.TheVariants.{Finish}
use Rattle.genie_base.specs.declared.reply.Mark.{Mark}
use Rattle.genie_base.specs.declared.reply.Reply.{Reply}
use Rattle.genie_base.specs.declared.reply.Reply.TheVariants as reply
use Rattle.genie_base.specs.declared.semantics.Class.TheVariants.{Copy}
use Rattle.genie_frame.specs.declared.frame.InLoan.{InLoan}
use Rattle.genie_store.specs.StoreView.{StoreView}
use Rattle.genie_object.specs.declared.memory.Memory.{Memory}
use Rattle.genie_object.specs.declared.objects.Range.{Range}
use Rattle.genie_object.specs.Memory.{Seen, seen}
use Rattle.genie_object.specs.Objects.{object_at}
use Rattle.genie_object.specs.Sound.{IsSized}
use Rattle.genie_object.specs.Touching.{is_in_range}
use Rattle.genie_plan.specs.Landings.{entries_bytes}
use Rattle.genie_plan.specs.Plans.{input_frames}
use Rattle.genie_region.specs.declared.region.Region.{Region}
use Rattle.genie_hiding.specs.Hidden.{is_among, objects_of}
use Rattle.genie_model.specs.Lemmas.Lists.{has_at}
use Rattle.genie_model.specs.Pending.{is_ready}
use Rattle.genie_model.specs.Refusing.{refuse}
use Rattle.genie_kernel.specs.declared.kernel.Kernel.{Kernel}
use Rattle.genie_kernel.specs.declared.transfer.Transfer.{Transfer}
use Rattle.genie_kernel.specs.Calls.{has_number, is_strong_call}
use Rattle.genie_kernel.specs.Good.{IsGood}
use Rattle.genie_kernel.specs.Loans.{frames_of}
use Rattle.genie_kernel.specs.Regions.{owned_regions}
use Rattle.genie_kernel.specs.Rising.{MetersRise}
use Rattle.genie_kernel.specs.Steps.{AloneIsTold, StepsTold, StoreCause, Steps, bytes_over}
use Rattle.genie_kernel.specs.View.{Bytes, outline, state_of, view}
use Rattle.genie_kernel.specs.Backed.{AreGuarded}
use Rattle.genie_kernel.specs.Lemmas.Keeping.{guards_kept}
use Rattle.genie_kernel.specs.Lemmas.Rising.{rises_most, rises_on, rises_same}
use Rattle.genie_kernel.specs.Lemmas.Stepping.{accepted_step}
use Rattle.genie_changes.specs.Ending.{without_call}
use Rattle.genie_changes.specs.Making.{IsMoved}
use Rattle.genie_changes.specs.Paged.{IsPaged, PagedIsTold, StepsPaged}
use Rattle.genie_changes.specs.Premises.{ShowsPages}
use Rattle.genie_arrivals.specs.Cases.{IsInputOf}
use Rattle.genie_arrivals.specs.Paging.{EndsPaged}
use Rattle.genie_arrivals.specs.CopyLaws.{CopyLaws}
use Rattle.genie_arrivals.specs.EndLaws.{EndLaws}
use Rattle.genie_arrivals.specs.Ends.{EndsAlone}
use Rattle.genie_arrivals.specs.Failing.{Serves}
use Rattle.genie_arrivals.specs.Stored.{StoresBuffer}
use Rattle.genie_arrivals.specs.SwapLaws.{SwapLaws}
use Rattle.genie_arrivals.specs.Targets.{IsTarget}
use Rattle.genie_arrivals.proofs.Finishing.{HasBuffer, Puts, orderly_after, payload, payload_bytes, steps}
use Rattle.genie_arrivals.proofs.Paging.{padded, padded_paged, seen_padded}
use Rattle.genie_arrivals.proofs.Readying.{Aim, is_roomy, other_object, range_silent, range_unhidden, target_backed, unspoken}
use Rattle.genie_arrivals.proofs.Swapped.{swapped_frames, swapped_kept, swapped_settled}

failed_step : (k : Kernel) (n : ℕ) (o : Option Bytes) → refuse (outline k) (Finish n) ≡ None → StepsTold (option_map (state_of k) o) (Finish n) (option_map (state_of k) o) reply.StoreFault
failed_step k n None h = tt
failed_step k n (Some b) h = accepted_step k b (Finish n) (state_of k b) reply.StoreFault h (record { state = refl; reply_is = refl })

-- where the store fails nothing has changed
pub fault_serves : (k new : Kernel) (v w : StoreView) (n : ℕ) → refuse (outline k) (Finish n) ≡ None → IsMoved k new v w → MetersRise (2 ^ 22) k.memory.frames new.memory.frames → Rose v.faults w.faults → Serves k (Finish n) new v w reply.StoreFault
fault_serves k new v w n accepted moved rises rose = record {
  good = moved.good;
  sized = moved.sized;
  kept = moved.kept;
  config = ap (λ (j : Kernel). j.config) moved.only;
  numbers = ap (λ (j : Kernel). j.next) moved.only;
  step = λ host. subst (λ x. StepsTold (view k host v) (Finish n) x reply.StoreFault) (sym (moved.told host)) (failed_step k n _ accepted);
  cause = rose;
  rises = rises_most (2 ^ 22) (2 ^ 36) k.memory.frames new.memory.frames (omega arith) rises;
}

-- an end that asks neither the host nor the store
pub alone_serves : AloneIsTold → (k new : Kernel) (v : StoreView) (n : ℕ) (r : Reply) → refuse (outline k) (Finish n) ≡ None → IsSized k.memory v → EndsAlone k n new r → Serves k (Finish n) new v v r
alone_serves told k new v n r accepted sized e = record {
  good = e.good;
  sized = e.sized v sized;
  kept = e.kept;
  config = e.config;
  numbers = e.numbers;
  step = λ host. told k new (Finish n) r host v accepted e.config e.step;
  cause = subst (λ (m : Mark). StoreCause m v.faults v.faults) (sym e.unfailed) refl;
  rises = rises_same (2 ^ 36) k.memory.frames new.memory.frames e.meters e.landed;
}

-- the transfer that is taken out is the one that was aimed at
pub record Taken (k : Kernel) (t : Transfer) (range : Range) : Type 0 where
  pub is : IsInputOf Copy k.devices t
  pub target : IsTarget k t range

pub aim_taken : (k : Kernel) (n : ℕ) (range : Range) (t : Transfer) → Aim k n range → find (has_number n) k.transfers ≡ Some t → Taken k t range
aim_taken k n range t a found =
    let both : Some a.t ≡ Some t = sym a.found ∙ found in
    let same : a.t ≡ t = cc in
    subst (λ (u : Transfer). Taken k u range) same (record { is = a.is; target = a.target })

pub refused_alike : (k new : Kernel) (v w : StoreView) (n : ℕ) → IsMoved k new v w → refuse (outline k) (Finish n) ≡ None → refuse (outline new) (Finish n) ≡ None
refused_alike k new v w n moved accepted = ap (λ (x : Kernel). refuse (outline x) (Finish n)) moved.only ∙ accepted

module _ (laws : EndLaws) (room : CopyLaws) (swap : SwapLaws) (told : PagedIsTold) (k mid : Kernel) (v w : StoreView) (n : ℕ) (t : Transfer) (range : Range) (L : List InLoan) (m : Memory) (accepted : refuse (outline k) (Finish n) ≡ None) (moved : IsMoved k mid v w) (faults : w.faults ≡ v.faults) (paged : IsPaged w) (found : find (has_number n) mid.transfers ≡ Some t) (ready : is_ready t.phase ≡ true) (taken : Taken mid t range) (h : HasBuffer mid n t L) (x : StoresBuffer mid.memory m range.object.0 range.off range.len (input_frames L)) where
  abbrev g : IsGood mid
  g = moved.good

  abbrev r : Region
  r = taken.target.region

  abbrev new : Kernel
  new = without_call mid m n mid.posted

  abbrev answer : Reply
  answer = reply.Input None t.stored t.note

  abbrev page : ℕ
  page = mid.config.page

  strong : is_strong_call t ≡ true
  strong = ap is_strong taken.is.class_is

  stores : StoresBuffer mid.memory m range.object.0 range.off range.len (frames_of t.loans)
  stores = subst (StoresBuffer mid.memory m range.object.0 range.off range.len) (sym h.is_frames) x

  unhidden : (a i : ℕ) → is_among a (objects_of mid.hidden) ≡ true → is_in_range range.object.0 (range.off / mid.memory.frames.page) (span mid.memory.frames.page range.off range.len) a i ≡ false
  unhidden a i among = unspoken range.object.0 (range.off / mid.memory.frames.page) (span mid.memory.frames.page range.off range.len) a i (other_object range.object.0 a (objects_of mid.hidden) (range_unhidden room mid n t range g found taken.is.class_is taken.is.inward taken.target) among)

  silent : All (λ (q : Region). q.writable ≡ false → (i : ℕ) → is_in_range range.object.0 (range.off / mid.memory.frames.page) (span mid.memory.frames.page range.off range.len) q.object.0 i ≡ false) (owned_regions mid.spaces.processes)
  silent j d l shut i = unspoken range.object.0 (range.off / mid.memory.frames.page) (span mid.memory.frames.page range.off range.len) (get_or (owned_regions mid.spaces.processes) j d).object.0 i (range_silent room mid n t range g found taken.is.class_is taken.is.inward taken.target (get_or (owned_regions mid.spaces.processes) j d) (has_at (owned_regions mid.spaces.processes) j d l) shut)

  guarded : AreGuarded m.objects (owned_regions mid.spaces.processes)
  guarded = guards_kept (is_in_range range.object.0 (range.off / mid.memory.frames.page) (span mid.memory.frames.page range.off range.len)) mid.memory m (owned_regions mid.spaces.processes) stores.touches silent g.guarded

  puts : (slots : ℕ → List ℕ) → ((s : ℕ) → length (slots s) ≡ mid.memory.frames.page) → Puts laws room mid n t range g found ready taken.is.early taken.is.class_is taken.is.inward taken.target (seen mid.memory slots).entry_bytes (seen m slots).entry_bytes (seen mid.memory slots).kept_bytes (seen m slots).kept_bytes
  puts slots all =
      let shows = stores.shows slots all in
      let roomy = is_roomy room mid n t range g found taken.is.class_is taken.is.inward taken.target in
      let object : range.object.0 ≡ r.object.0 = (λ i. (taken.target.object_is i).0) in
      let long : length (object_at mid.memory.objects range.object.0) ≡ r.pages = ap (λ o. length (object_at mid.memory.objects o)) object ∙ target_backed room mid n t range g found taken.is.class_is taken.is.inward taken.target in
      let within : range.off / mid.memory.frames.page + span mid.memory.frames.page range.off range.len ≤ r.pages = subst (λ z. range.off / z + span z range.off range.len ≤ r.pages) (sym g.sized.page) (subst (λ z. range.off / page + span page range.off range.len ≤ z) long roomy.within) in
      let one : entries_bytes (seen m slots) range.object.0 0 r.pages ≡ overlaid range.off (payload (seen mid.memory slots).kept_bytes t) (entries_bytes (seen mid.memory slots) range.object.0 0 r.pages) = shows.range r.pages within ∙ ap (λ l. overlaid range.off l (entries_bytes (seen mid.memory slots) range.object.0 0 r.pages)) (payload_bytes room mid n t range L g found taken.is.class_is taken.is.inward taken.target h slots) in
      let two = subst (λ o. entries_bytes (seen m slots) o 0 r.pages ≡ overlaid range.off (payload (seen mid.memory slots).kept_bytes t) (entries_bytes (seen mid.memory slots) o 0 r.pages)) object one in
      let three = subst (λ z. entries_bytes (seen m slots) r.object.0 0 r.pages ≡ overlaid z (payload (seen mid.memory slots).kept_bytes t) (entries_bytes (seen mid.memory slots) r.object.0 0 r.pages)) taken.target.place two in
      record {
        bytes = record { range = three; others = λ a b ne. shows.objects a b (λ e. ne (e ∙ object)) };
        pages = subst (λ z. ShowsPages z mid.memory (seen mid.memory slots).kept_bytes) g.sized.page (swap.nobody mid.memory slots g.sound.shaped);
        frames = swap.suffice (owned_regions mid.spaces.processes) new.transfers mid.pools (seen mid.memory slots).kept_bytes (seen m slots).kept_bytes (swapped_frames laws swap mid n t g found ready taken.is.early strong L h.is_loans h.is_frames h.own m range.object.0 range.off range.len stores unhidden guarded slots all);
      }

  steps_paged : StepsPaged mid (Finish n) new answer
  steps_paged slots rests sents have =
      let p : ℕ → List ℕ = padded mid.memory.frames.page (length mid.memory.slots) slots in
      let one = steps laws room mid n t range g found ready taken.is.early taken.is.class_is taken.is.inward taken.target m (seen mid.memory p).entry_bytes (seen m p).entry_bytes (seen mid.memory p).kept_bytes (seen m p).kept_bytes rests sents (puts p (padded_paged mid.memory slots have)) in
      let two = subst (λ (s : Seen). Steps (state_of mid (record { seen = s; rests = rests; sents = sents })) (Finish n) (state_of new (record { seen = seen m p; rests = rests; sents = sents })) answer) (seen_padded mid.memory slots mid.memory.frames.page (length mid.memory.slots) g.sound refl) one in
      subst (λ (s : Seen). Steps (state_of mid (bytes_over mid.memory slots rests sents)) (Finish n) (state_of new (record { seen = s; rests = rests; sents = sents })) answer) (seen_padded m slots mid.memory.frames.page (length mid.memory.slots) stores.sound (sym stores.keeps.slots)) two

  pub stored_serves : MetersRise (2 ^ 22) k.memory.frames mid.memory.frames → Serves k (Finish n) new v w answer
  stored_serves rises =
      let refused = refused_alike k mid v w n moved accepted in
      record {
        good = laws.good new (swapped_settled laws swap mid n t g found ready taken.is.early strong L h.is_loans h.is_frames h.own m range.object.0 range.off range.len stores unhidden guarded) (orderly_after laws room mid n t range g found ready taken.is.early taken.is.class_is taken.is.inward taken.target m refused);
        sized = record { count = moved.sized.count ∙ sym stores.keeps.slots; page = moved.sized.page ∙ sym stores.keeps.page };
        kept = room.kept k mid new v w moved (swapped_kept laws swap mid n t g found ready taken.is.early strong L h.is_loans h.is_frames h.own m range.object.0 range.off range.len stores unhidden guarded);
        config = ap (λ (j : Kernel). j.config) moved.only;
        numbers = ap (λ (j : Kernel). j.next) moved.only;
        step = λ host. subst (λ s. StepsTold s (Finish n) (view new host w) answer) (moved.told host) (told mid new (Finish n) answer host w refused refl moved.sized paged steps_paged);
        cause = faults;
        rises = rises_most (2 ^ 22 + 2 ^ 20) (2 ^ 36) k.memory.frames m.frames (omega arith) (rises_on (2 ^ 22) (2 ^ 20) k.memory.frames mid.memory.frames m.frames rises x.rises);
      }

-- the same over slots that have a page each
pub paged_serves : PagedIsTold → (k new : Kernel) (v : StoreView) (n : ℕ) (r : Reply) → refuse (outline k) (Finish n) ≡ None → IsSized k.memory v → IsPaged v → EndsPaged k n new r → Serves k (Finish n) new v v r
paged_serves told k new v n r accepted sized paged e = record {
  good = e.good;
  sized = e.sized v sized;
  kept = e.kept;
  config = e.config;
  numbers = e.numbers;
  step = λ host. told k new (Finish n) r host v accepted e.config sized paged e.step;
  cause = subst (λ (m : Mark). StoreCause m v.faults v.faults) (sym e.unfailed) refl;
  rises = rises_most (2 ^ 35) (2 ^ 36) k.memory.frames new.memory.frames (omega arith) e.rises;
}
