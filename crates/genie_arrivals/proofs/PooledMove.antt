-- A move input on a pooled device ends, whose bytes were copied to pages of zeros of its region.
use Rattle.std.proofs.Common.{◌≡◌, ◌≢◌, ℕ, ◌+◌, ◌*◌, ◌/◌, ◌^◌, ◌≤◌, Bool, true, false, List, refl, sym, ap, subst, arith, ◌∙◌, length, drop, get_or, ⊎_elim, eqb-true}
use Rattle.std.specs.Prelude.{Some, None, find, flat_map, replicate, ◌==◌}
use Rattle.std.specs.List.{range_with_len}
use Rattle.std.proofs.lemmas.Bool.{cases_Bool}
use Rattle.std.proofs.lemmas.List.{length-replicate}
use Rattle.genie_base.specs.Bytes.{overlaid}
use Rattle.genie_base.specs.Counts.{span}
use Rattle.genie_base.specs.declared.event.Event.TheVariants.{Finish}
use Rattle.genie_base.specs.declared.region.RegionState.TheVariants as state
use Rattle.genie_base.specs.declared.reply.Reply.{Reply}
use Rattle.genie_base.specs.declared.reply.Reply.TheVariants as reply
use Rattle.genie_base.specs.declared.semantics.Class.TheVariants.{Move}
use Rattle.genie_hiding.specs.Hidden.{objects_of}
use Rattle.genie_object.specs.declared.memory.Memory.{Memory}
use Rattle.genie_object.specs.declared.objects.Range.{Range}
use Rattle.genie_object.specs.Leaving.{is_object}
use Rattle.genie_object.specs.Memory.{Seen, seen}
use Rattle.genie_object.specs.Objects.{entry_at}
use Rattle.genie_plan.specs.Landings.{entries_bytes}
use Rattle.genie_plan.specs.Plans.{range_bytes}
use Rattle.genie_plan.specs.Lemmas.Landings.{entry_size}
use Rattle.genie_region.specs.declared.region.Region.{Region}
use Rattle.genie_model.specs.Ending.{filled, finish, finish_move, without_transfer}
use Rattle.genie_model.specs.Lemmas.Lists.{Has, find_has}
use Rattle.genie_model.specs.Refusing.{refuse}
use Rattle.genie_model.specs.Regions.{change_region, with_state}
use Rattle.genie_model.specs.Space.{tidy}
use Rattle.genie_model.specs.State as flat
use Rattle.genie_model.specs.Tables.{entry}
use Rattle.genie_orderly.specs.Orderly.{IsOrderly}
use Rattle.genie_kernel.specs.declared.kernel.Kernel.{Kernel}
use Rattle.genie_kernel.specs.declared.transfer.Transfer.{Transfer}
use Rattle.genie_kernel.specs.Backed.{AreGuarded}
use Rattle.genie_kernel.specs.Calls.{has_number}
use Rattle.genie_kernel.specs.Good.{IsGood}
use Rattle.genie_kernel.specs.Kept.{Kept}
use Rattle.genie_kernel.specs.Regions.{has_id, object_bytes, owned_regions, region_view}
use Rattle.genie_kernel.specs.Steps.{Steps, bytes_over}
use Rattle.genie_kernel.specs.View.{Bytes, no_bytes, outline, state_of}
use Rattle.genie_kernel.specs.Lemmas.Keeping.{calls_kept, hidden_kept}
use Rattle.genie_kernel.specs.Lemmas.Staying.{memory_good}
use Rattle.genie_kernel.specs.Lemmas.Rising.{rises_most, rises_on}
use Rattle.genie_changes.specs.Lemmas.Outside.{bytes_alike, unhidden}
use Rattle.genie_changes.specs.Paged.{StepsPaged}
use Rattle.genie_changes.specs.Released.{BuffersShow, ReleasedEnds, ReleasedShows}
use Rattle.genie_changes.specs.Settled.{IsSettled}
use Rattle.genie_arrivals.specs.declared.owned.OwnedRegion.{OwnedRegion}
use Rattle.genie_arrivals.specs.Blanks.{BlanksObject}
use Rattle.genie_arrivals.specs.EndLaws.{EndLaws}
use Rattle.genie_arrivals.specs.Live.{ChangeLaws, lively}
use Rattle.genie_arrivals.specs.Paging.{EndsPaged}
use Rattle.genie_arrivals.specs.Pooled.{IsPooledOf, frames_in, offset_of}
use Rattle.genie_arrivals.specs.Waiting.{EndsWaiting}
use Rattle.genie_arrivals.proofs.Buffered.{freed_outline, freed_shown}
use Rattle.genie_arrivals.proofs.Filled.{owner_on, processes_twice, refilled, same_lengths, state_changed, zeros_are}
use Rattle.genie_arrivals.proofs.Found.{seen_as}
use Rattle.genie_arrivals.proofs.Lively.{found_everywhere, live_good, live_state}
use Rattle.genie_arrivals.proofs.Moving.{IsHad}
use Rattle.genie_arrivals.proofs.Owning.{has_owned}
use Rattle.genie_arrivals.proofs.Paging.{padded, padded_paged, seen_padded}
use Rattle.genie_arrivals.proofs.PooledAt.{payload_is, waiting_bytes}
use Rattle.genie_arrivals.proofs.PooledEnd.{Copied, at, last, last_kept, last_rises, last_settled, last_sized, mid_good, payload, region_there, x}
use Rattle.genie_arrivals.proofs.Readying.{other_object}
use Rattle.genie_arrivals.proofs.Replying.{input_finish, outcome, quiet_steps}
use Rattle.genie_arrivals.proofs.Zeros.{zeros_dropped, zeros_each, zeros_overlaid, zeros_repeated, zeros_taken}

module _ (laws : EndLaws) (change : ChangeLaws) (show : BuffersShow) (end : ReleasedEnds) (release : ReleasedShows) (k : Kernel) (n p : ℕ) (t : Transfer) (o : OwnedRegion) (range : Range) (m1 : Memory) (count : ℕ) (g : IsGood k) (accepted : refuse (outline k) (Finish n) ≡ None) (found : find (has_number n) k.transfers ≡ Some t) (is : IsPooledOf Move k.devices t) (owner : t.owner ≡ Some p) (had : IsHad k t o) (blanks : BlanksObject k.memory m1 o.region.object.0 count) where
  abbrev r : Region
  r = o.region

  abbrev blank : Kernel
  blank = record k { memory = m1 }

  region_owned : Has r (owned_regions k.spaces.processes)
  region_owned = has_owned r k.spaces.processes o.pid had.regions had.there (find_has (has_id r.id.0) had.regions r had.found).0

  guarded : AreGuarded m1.objects (owned_regions k.spaces.processes)
  guarded j d l shut i =
      let q : Region = get_or (owned_regions k.spaces.processes) j d in
      ⊎_elim
      (λ (e : (q.object.0 == r.object.0) ≡ true). subst (λ a. (entry_at m1.objects a i).writable ≡ false) (sym (eqb-true q.object.0 r.object.0 e)) (blanks.shut i))
      (λ (e : (q.object.0 == r.object.0) ≡ false). still_shut (entry_at k.memory.objects q.object.0 i).writable (entry_at m1.objects q.object.0 i).writable (blanks.touches.entries q.object.0 i e).writable (g.guarded j d l shut i))
      (cases_Bool (q.object.0 == r.object.0))
    where
      still_shut : (a b : Bool) → (b ≡ true → a ≡ true) → a ≡ false → b ≡ false
      still_shut a true f e = let yes = f refl in cc
      still_shut a false f e = refl

  -- with the pages of zeros, the kernel is good
  pub blank_good : IsGood blank
  blank_good = memory_good k m1 g blanks.sound
      (hidden_kept (is_object r.object.0) k.memory m1 (objects_of k.hidden) g.sound blanks.keeps blanks.touches (λ a i among. other_object r.object.0 a (objects_of k.hidden) (unhidden k g r region_owned) among) g.cached)
      guarded blanks.counts blanks.keeps

  module _ (m2 : Memory) (new : Kernel) (c : Copied blank n t r range m2) (place : range.off ≡ 0) (e : EndsWaiting n (record k { memory = m2 }) new t) where
    abbrev mid : Kernel
    mid = record k { memory = m2 }

    abbrev less : Kernel
    less = last blank n t r range m2 c laws show end release new e

    abbrev live : Kernel
    live = lively less o.pid r.id.0 had.regions

    abbrev answer : Reply
    answer = reply.Input (Some (r.start * k.config.page)) t.stored t.note

    abbrev sent : (ℕ → List ℕ) → List ℕ
    sent s = payload blank n t r range m2 c s

    settled_less : IsSettled less
    settled_less = last_settled blank n t r range m2 c laws show end release new e

    fin : (b : Bytes) → finish (state_of k b) n ≡ outcome (change_region (without_transfer (state_of k b) n) r.id.0 (filled (sent b.seen.kept_bytes))) answer
    fin b =
        let s : flat.State = without_transfer (state_of k b) n in
        let v : flat.Transfer = seen_as k b t in
        input_finish k b n p t Move found owner is.inward is.class_is
        ∙ ap (finish_move s v) (region_there k n t b r had.names (found_everywhere change k (laws.settled k g) o.pid had.regions r had.there had.found))
        ∙ ap (λ bytes. outcome (change_region s r.id.0 (filled bytes)) answer) (payload_is blank t c.good (at blank n t r range m2 c) (x blank n t r range m2 c) b is.inward)

    -- what is known of the bytes before and after
    record Refills (s d : ℕ → ℕ → List ℕ) (kept : ℕ → List ℕ) : Type 0 where
      bytes : object_bytes d r.object.0 r.pages ≡ overlaid 0 (sent kept) (replicate (length (object_bytes s r.object.0 r.pages)) 0)
      others : (a b : ℕ) → a ≢ r.object.0 → d a b ≡ s a b

    steps : (s d : ℕ → ℕ → List ℕ) (kept rests sents : ℕ → List ℕ) (after : Bytes) → Refills s d kept → state_of less after ≡ tidy (without_transfer (state_of k (record { seen = record { entry_bytes = d; kept_bytes = kept }; rests = rests; sents = sents })) n) → Steps (state_of k (record { seen = record { entry_bytes = s; kept_bytes = kept }; rests = rests; sents = sents })) (Finish n) (state_of live after) answer
    steps s d kept rests sents after y left =
        let b : Bytes = record { seen = record { entry_bytes = s; kept_bytes = kept }; rests = rests; sents = sents } in
        let f : flat.Region → flat.Region = refilled (sent kept) in
        let stored = state_changed k g r region_owned s d kept f (ap (λ z. record (region_view s r) { bytes = z }) y.bytes) y.others rests sents in
        let lives = live_state change less settled_less o.pid had.regions r had.there had.found after in
        let twice = processes_twice r.id.0 f (with_state state.Live) (λ q. refl) (state_of k b).processes in
        let all : state_of live after ≡ tidy (change_region (without_transfer (state_of k b) n) r.id.0 (filled (sent kept))) =
        lives ∙ ap (λ (z : flat.State). change_region z r.id.0 (with_state state.Live)) (left ∙ ap (λ (z : flat.State). tidy (without_transfer z n)) stored)
        ∙ (λ i. record (tidy (without_transfer (state_of k b) n)) { processes = twice i }) in
        quiet_steps (state_of k b) (state_of live after) n answer (change_region (without_transfer (state_of k b) n) r.id.0 (filled (sent kept))) (fin b) refl all

    outline_refills : Refills (no_bytes k.config.page).seen.entry_bytes (no_bytes k.config.page).seen.entry_bytes (no_bytes k.config.page).seen.kept_bytes
    outline_refills =
        let z = (no_bytes k.config.page).seen in
        let frames : List ℕ = frames_in (entry k.pools t.dev) t.buffer in
        let first : ℕ = offset_of (entry k.config.devices t.dev) in
        let zeros = zeros_taken t.stored (drop first (flat_map z.kept_bytes frames)) (zeros_dropped first (flat_map z.kept_bytes frames) (zeros_each k.config.page frames)) in
        let all : List ℕ = object_bytes z.entry_bytes r.object.0 r.pages in
        record {
          bytes = zeros_are all (zeros_each k.config.page (range_with_len 0 r.pages)) ∙ sym (zeros_overlaid 0 (sent z.kept_bytes) (replicate (length all) 0) zeros (zeros_repeated (length all)));
          others = λ a b ne. refl;
        }

    orderly : IsOrderly (outline live)
    orderly =
        let b = no_bytes k.config.page in
        laws.orderly (outline k) (outline live) (Finish n) answer refl accepted (steps b.seen.entry_bytes b.seen.entry_bytes b.seen.kept_bytes b.rests b.sents b outline_refills (freed_outline laws show end release mid n t new (mid_good blank n t r range m2 c) accepted c.ready e)) g.orderly

    refills : (slots : ℕ → List ℕ) → ((s : ℕ) → length (slots s) ≡ k.memory.frames.page) → Refills (seen k.memory slots).entry_bytes (seen m2 slots).entry_bytes (seen k.memory slots).kept_bytes
    refills slots paged =
        let page = k.memory.frames.page in
        let paged_blank : (s : ℕ) → length (slots s) ≡ m1.frames.page = λ s. paged s ∙ sym blanks.keeps.page in
        let object : range.object.0 ≡ r.object.0 = (λ i. (c.object_is i).0) in
        let frames : List ℕ = frames_in (entry k.pools t.dev) t.buffer in
        let first : ℕ = offset_of (entry k.config.devices t.dev) in
        let within : range.off / m1.frames.page + span m1.frames.page range.off range.len ≤ r.pages = subst (λ z. range.off / z + span z range.off range.len ≤ r.pages) (sym (blanks.keeps.page ∙ g.sized.page)) c.within in
        let bytes : range_bytes m1.frames frames first range.len ≡ sent (seen k.memory slots).kept_bytes = ap (range_bytes m1.frames frames first) c.size ∙ waiting_bytes blank t c.good (at blank n t r range m2 c) (x blank n t r range m2 c) slots ∙ ap sent (blanks.kept slots) in
        let one : entries_bytes (seen m2 slots) range.object.0 0 r.pages ≡ overlaid 0 (sent (seen k.memory slots).kept_bytes) (entries_bytes (seen m1 slots) range.object.0 0 r.pages) = c.copies.range slots paged_blank r.pages within ∙ (λ i. overlaid (place i) (bytes i) (entries_bytes (seen m1 slots) range.object.0 0 r.pages)) in
        let two : object_bytes (seen m2 slots).entry_bytes r.object.0 r.pages ≡ overlaid 0 (sent (seen k.memory slots).kept_bytes) (object_bytes (seen m1 slots).entry_bytes r.object.0 r.pages) = subst (λ a. entries_bytes (seen m2 slots) a 0 r.pages ≡ overlaid 0 (sent (seen k.memory slots).kept_bytes) (entries_bytes (seen m1 slots) a 0 r.pages)) object one in
        let zeros : object_bytes (seen m1 slots).entry_bytes r.object.0 r.pages ≡ flat_map (λ (i : ℕ). replicate page 0) (range_with_len 0 r.pages) = bytes_alike (λ a i. (seen m1 slots).entry_bytes a i) (λ a i. replicate page 0) r.object.0 (range_with_len 0 r.pages) (blanks.zeros slots) in
        let lengths : length (flat_map (λ (i : ℕ). replicate page 0) (range_with_len 0 r.pages)) ≡ length (object_bytes (seen k.memory slots).entry_bytes r.object.0 r.pages) = same_lengths (λ i. replicate page 0) ((seen k.memory slots).entry_bytes r.object.0) (range_with_len 0 r.pages) (λ i. length-replicate page 0 ∙ sym (entry_size k.memory slots r.object.0 i g.sound paged)) in
        record {
          bytes = two
              ∙ ap (overlaid 0 (sent (seen k.memory slots).kept_bytes)) (zeros ∙ zeros_are (flat_map (λ (j : ℕ). replicate page 0) (range_with_len 0 r.pages)) (zeros_each page (range_with_len 0 r.pages)))
              ∙ ap (λ j. overlaid 0 (sent (seen k.memory slots).kept_bytes) (replicate j 0)) lengths;
          others = λ a b ne. c.copies.others slots a b (λ q. ne (q ∙ object)) ∙ blanks.others slots a b ne;
        }

    steps_paged : StepsPaged k (Finish n) live answer
    steps_paged slots rests sents have =
        let full : ℕ → List ℕ = padded k.memory.frames.page (length k.memory.slots) slots in
        let kept : (seen m2 full).kept_bytes ≡ (seen k.memory full).kept_bytes = c.copies.kept full ∙ blanks.kept full in
        let page_same : less.memory.frames.page ≡ k.memory.frames.page = e.back.loans.page ∙ e.back.wires.only.page ∙ c.copies.page ∙ blanks.keeps.page in
        let count_same : length k.memory.slots ≡ length m2.slots = sym (ap length c.copies.slots ∙ blanks.keeps.slots) in
        let left : state_of less (bytes_over less.memory slots rests sents) ≡ tidy (without_transfer (state_of k (record { seen = record { entry_bytes = (seen m2 full).entry_bytes; kept_bytes = (seen k.memory full).kept_bytes }; rests = rests; sents = sents })) n) =
        freed_shown laws show end release mid n t new (mid_good blank n t r range m2 c) accepted c.ready e slots rests sents
        ∙ ap (λ (z : Seen). tidy (without_transfer (state_of k (record { seen = z; rests = rests; sents = sents })) n)) (sym (seen_padded m2 slots k.memory.frames.page (length k.memory.slots) c.copies.sound count_same) ∙ (λ i. record { entry_bytes = (seen m2 full).entry_bytes; kept_bytes = kept i })) in
        let one = steps (seen k.memory full).entry_bytes (seen m2 full).entry_bytes (seen k.memory full).kept_bytes rests sents (bytes_over less.memory slots rests sents) (refills full (padded_paged k.memory slots have)) left in
        subst (λ (z : Seen). Steps (state_of k (record { seen = z; rests = rests; sents = sents })) (Finish n) (state_of live (bytes_over less.memory slots rests sents)) answer) (seen_padded k.memory slots k.memory.frames.page (length k.memory.slots) g.sound refl) one

    kept_by : Kept k live
    kept_by =
        let a = calls_kept k m1 g blanks.keeps in
        let y = last_kept blank n t r range m2 c laws show end release new e in
        record {
          lent = λ j f u w q on still. owner_on _ _ _ (a.lent j f u u (record { was = q.was; is = q.was }) on on) (y.lent j f u w (record { was = q.was; is = q.is }) on still);
          pooled = λ d f on still. owner_on _ _ _ (a.pooled d f on on) (y.pooled d f on still);
          fresh = λ j f u w q. y.fresh j f u w (record { was = q.was; is = q.is });
        }

    pub blank_ends : EndsPaged k n (lively new o.pid r.id.0 had.regions) answer
    blank_ends = subst (λ (z : Kernel). EndsPaged k n (lively z o.pid r.id.0 had.regions) answer) (sym e.only) (record {
      good = live_good change less settled_less o.pid had.regions r had.there had.found orderly;
      sized = λ v s. last_sized blank n t r range m2 c laws show end release new e v (record { count = s.count ∙ sym blanks.keeps.slots; page = s.page ∙ sym blanks.keeps.page });
      kept = kept_by;
      step = steps_paged;
      config = refl;
      numbers = refl;
      unfailed = refl;
      rises = rises_most (2 ^ 20 + 2 ^ 34) (2 ^ 35) k.memory.frames new.memory.frames (omega arith) (rises_on (2 ^ 20) (2 ^ 34) k.memory.frames m1.frames new.memory.frames blanks.rises (last_rises blank n t r range m2 c laws show end release new e));
    })
