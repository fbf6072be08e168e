-- A move input on an outboard device ends, whose bytes were stored in its region.
use Rattle.std.proofs.Common.{◌≡◌, ◌≢◌, ℕ, ◌+◌, ◌*◌, ◌/◌, ◌^◌, ◌≤◌, Bool, true, false, List, [], refl, sym, ap, subst, arith, ◌∙◌, length, get_or, ⊎_elim, eqb-true, ne_eqb}
use Rattle.std.specs.Prelude.{Some, None, find, flat_map, replicate, ◌==◌}
use Rattle.std.specs.List.{range_with_len}
use Rattle.std.specs.Option.{option_map}
use Rattle.std.proofs.lemmas.Bool.{cases_Bool}
use Rattle.std.proofs.lemmas.List.{length-replicate}
use Rattle.genie_base.specs.Bytes.{overlaid}
use Rattle.genie_base.specs.Counts.{span}
use Rattle.genie_base.specs.declared.event.Event.TheVariants.{Finish}
use Rattle.genie_base.specs.declared.region.RegionState.TheVariants as state
use Rattle.genie_base.specs.declared.reply.Reply.{Reply}
use Rattle.genie_base.specs.declared.reply.Reply.TheVariants as reply
use Rattle.genie_base.specs.declared.semantics.Class.TheVariants.{Move}
use Rattle.genie_frame.specs.FrameTable.{FrameTable}
use Rattle.genie_hiding.specs.Hidden.{is_among, objects_of}
use Rattle.genie_object.specs.declared.memory.Memory.{Memory}
use Rattle.genie_object.specs.Leaving.{is_object}
use Rattle.genie_object.specs.Memory.{Seen, page_bytes, seen}
use Rattle.genie_object.specs.Objects.{entry_at}
use Rattle.genie_object.specs.Touching.{is_in_range}
use Rattle.genie_plan.specs.Lemmas.Landings.{entry_size}
use Rattle.genie_region.specs.declared.region.Region.{Region}
use Rattle.genie_model.specs.Ending.{filled, finish, finish_for, finish_found, finish_input, finish_move, finish_owned, without_transfer}
use Rattle.genie_model.specs.Lemmas.Lists.{Has, find_has}
use Rattle.genie_model.specs.Pending.{is_ready}
use Rattle.genie_model.specs.Refusing.{refuse}
use Rattle.genie_model.specs.Regions.{change_region, with_state}
use Rattle.genie_model.specs.Space.{tidy}
use Rattle.genie_model.specs.State as flat
use Rattle.genie_orderly.specs.Orderly.{IsOrderly}
use Rattle.genie_kernel.specs.declared.kernel.Kernel.{Kernel}
use Rattle.genie_kernel.specs.declared.transfer.Transfer.{Transfer}
use Rattle.genie_kernel.specs.Backed.{AreGuarded}
use Rattle.genie_kernel.specs.Calls.{has_number}
use Rattle.genie_kernel.specs.Good.{IsGood}
use Rattle.genie_kernel.specs.Kept.{Kept}
use Rattle.genie_kernel.specs.Regions.{has_id, object_bytes, owned_regions, region_view}
use Rattle.genie_kernel.specs.Steps.{Steps, bytes_over}
use Rattle.genie_kernel.specs.View.{Bytes, no_bytes, outline, state_of}
use Rattle.genie_kernel.specs.Lemmas.Keeping.{calls_kept, hidden_kept, transfer_lent}
use Rattle.genie_kernel.specs.Lemmas.Staying.{memory_good}
use Rattle.genie_kernel.specs.Lemmas.Rising.{rises_most}
use Rattle.genie_changes.specs.Lemmas.Outside.{bytes_alike, unhidden}
use Rattle.genie_changes.specs.Paged.{StepsPaged}
use Rattle.genie_changes.specs.Released.{BuffersShow, ReleasedEnds, ReleasedShows}
use Rattle.genie_changes.specs.Settled.{IsSettled}
use Rattle.genie_arrivals.specs.declared.owned.OwnedRegion.{OwnedRegion}
use Rattle.genie_arrivals.specs.Clearing.{ClearsObject}
use Rattle.genie_arrivals.specs.EndLaws.{EndLaws}
use Rattle.genie_arrivals.specs.Live.{ChangeLaws, lively}
use Rattle.genie_arrivals.specs.Outboard.{IsOutboardInput, waiting_bytes}
use Rattle.genie_arrivals.specs.OutboardMove.{FillsBytes}
use Rattle.genie_arrivals.specs.Paging.{EndsPaged}
use Rattle.genie_arrivals.specs.SwapLaws.{SwapLaws}
use Rattle.genie_arrivals.specs.Waiting.{EndsWaiting}
use Rattle.genie_arrivals.proofs.Blank.{accepts_blank, blank, blank_orderly, blanked, pending_blank, without_blank}
use Rattle.genie_arrivals.proofs.Buffered.{freed, freed_kept, freed_outline, freed_settled, freed_shown}
use Rattle.genie_arrivals.proofs.CopyLanded.{kept_on}
use Rattle.genie_arrivals.proofs.EndLanded.{payload_is, region_there}
use Rattle.genie_arrivals.proofs.Filled.{owner_on, processes_twice, refilled, same_lengths, state_changed, zeros_are}
use Rattle.genie_arrivals.proofs.Found.{pending_view, seen_as}
use Rattle.genie_arrivals.proofs.Lively.{found_everywhere, live_good, live_state}
use Rattle.genie_arrivals.proofs.Moving.{IsHad}
use Rattle.genie_arrivals.proofs.Owning.{has_owned}
use Rattle.genie_arrivals.proofs.Paging.{padded, padded_paged, seen_padded}
use Rattle.genie_arrivals.proofs.Readying.{other_object, unspoken}
use Rattle.genie_arrivals.proofs.Replying.{input_finish, outcome, quiet_steps}
use Rattle.genie_arrivals.proofs.Rising.{rises_back, rises_owners}
use Rattle.genie_arrivals.proofs.Written.{lent_kept, pooled_kept, written, written_good}
use Rattle.genie_arrivals.proofs.Zeros.{zeros_each, zeros_overlaid, zeros_repeated}

still_shut : (a b : Bool) → (b ≡ true → a ≡ true) → a ≡ false → b ≡ false
still_shut a true f e = let yes = f refl in cc
still_shut a false f e = refl

-- a region whose object was emptied
module _ (k : Kernel) (r : Region) (g : IsGood k) (owned : Has r (owned_regions k.spaces.processes)) (m : Memory) (c : ClearsObject k.memory m r.object.0) where
  abbrev cleared : Kernel
  cleared = record k { memory = m }

  empty_shut : (i : ℕ) → (entry_at m.objects r.object.0 i).writable ≡ false
  empty_shut i = ⊎_elim
      (λ (yes : (entry_at m.objects r.object.0 i).writable ≡ true). let p = c.empties.sound.guarded.writable r.object.0 i yes in let clash : None ≡ Some p.number = sym (c.empty i) ∙ p.is_page in cc)
      (λ no. no)
      (cases_Bool (entry_at m.objects r.object.0 i).writable)

  -- the kernel is good
  pub cleared_good : IsGood cleared
  cleared_good = memory_good k m g c.empties.sound
      (hidden_kept (is_object r.object.0) k.memory m (objects_of k.hidden) g.sound c.keeps c.empties.touches (λ a i among. other_object r.object.0 a (objects_of k.hidden) (unhidden k g r owned) among) g.cached)
      (λ j d l shut i.
      let x : Region = get_or (owned_regions k.spaces.processes) j d in
      ⊎_elim
      (λ (e : (x.object.0 == r.object.0) ≡ true). subst (λ a. (entry_at m.objects a i).writable ≡ false) (sym (eqb-true x.object.0 r.object.0 e)) (empty_shut i))
      (λ (e : (x.object.0 == r.object.0) ≡ false). still_shut (entry_at k.memory.objects x.object.0 i).writable (entry_at m.objects x.object.0 i).writable (c.empties.touches.entries x.object.0 i e).writable (g.guarded j d l shut i))
      (cases_Bool (x.object.0 == r.object.0)))
      (ap (λ (z : FrameTable). z.counts) c.empties.frames)
      c.keeps

module _ (laws : EndLaws) (change : ChangeLaws) (swap : SwapLaws) (show : BuffersShow) (end : ReleasedEnds) (release : ReleasedShows) (k : Kernel) (n p : ℕ) (t : Transfer) (o : OwnedRegion) (m3 : Memory) (g : IsGood k) (accepted : refuse (outline k) (Finish n) ≡ None) (found : find (has_number n) k.transfers ≡ Some t) (ready : is_ready t.phase ≡ true) (is : IsOutboardInput Move k.devices t) (owner : t.owner ≡ Some p) (had : IsHad k t o) (fills : FillsBytes k.memory m3 o.region.object.0 0 (waiting_bytes k.devices t)) where
  abbrev r : Region
  r = o.region

  abbrev payload : List ℕ
  payload = waiting_bytes k.devices t

  abbrev clear : Memory
  clear = fills.clear

  abbrev c : ClearsObject k.memory clear r.object.0
  c = fills.clears

  region_owned : Has r (owned_regions k.spaces.processes)
  region_owned = has_owned r k.spaces.processes o.pid had.regions had.there (find_has (has_id r.id.0) had.regions r had.found).0

  there : find (has_id r.id.0) (owned_regions k.spaces.processes) ≡ Some r
  there = found_everywhere change k (laws.settled k g) o.pid had.regions r had.there had.found

  abbrev empty : Kernel
  empty = record k { memory = clear }

  g1 : IsGood empty
  g1 = cleared_good k r g region_owned clear c

  unhidden_range : (a i : ℕ) → is_among a (objects_of k.hidden) ≡ true → is_in_range r.object.0 (0 / clear.frames.page) (span clear.frames.page 0 (length payload)) a i ≡ false
  unhidden_range a i among = unspoken r.object.0 (0 / clear.frames.page) (span clear.frames.page 0 (length payload)) a i (other_object r.object.0 a (objects_of k.hidden) (unhidden k g r region_owned) among)

  guarded : AreGuarded m3.objects (owned_regions k.spaces.processes)
  guarded j d l shut i =
      let x : Region = get_or (owned_regions k.spaces.processes) j d in
      ⊎_elim
      (λ (e : (x.object.0 == r.object.0) ≡ true). subst (λ a. (entry_at m3.objects a i).writable ≡ false) (sym (eqb-true x.object.0 r.object.0 e)) (fills.shut i))
      (λ (e : (x.object.0 == r.object.0) ≡ false). still_shut (entry_at clear.objects x.object.0 i).writable (entry_at m3.objects x.object.0 i).writable (fills.stores.touches.entries x.object.0 i (unspoken r.object.0 (0 / clear.frames.page) (span clear.frames.page 0 (length payload)) x.object.0 i e)).writable (g1.guarded j d l shut i))
      (cases_Bool (x.object.0 == r.object.0))

  abbrev between : Kernel
  between = written swap empty g1 m3 r.object.0 0 payload fills.stores unhidden_range guarded

  pub filled_good : IsGood (record k { memory = m3 })
  filled_good = written_good swap empty g1 m3 r.object.0 0 payload fills.stores unhidden_range guarded

  module _ (within : 0 / clear.frames.page + span clear.frames.page 0 (length payload) ≤ r.pages) (new : Kernel) (e : EndsWaiting n (record k { memory = m3 }) new t) where
    abbrev less : Kernel
    less = freed laws show end release between n t new filled_good accepted ready e

    abbrev live : Kernel
    live = lively less o.pid r.id.0 had.regions

    abbrev answer : Reply
    answer = reply.Input (Some (r.start * k.config.page)) t.stored t.note

    settled_less : IsSettled less
    settled_less = freed_settled laws show end release between n t new filled_good accepted ready e

    -- what is known of the bytes before and after
    record Refills (s d : ℕ → ℕ → List ℕ) (sent : List ℕ) : Type 0 where
      bytes : object_bytes d r.object.0 r.pages ≡ overlaid 0 sent (replicate (length (object_bytes s r.object.0 r.pages)) 0)
      others : (a b : ℕ) → a ≢ r.object.0 → d a b ≡ s a b

    lands : (s d : ℕ → ℕ → List ℕ) (kept rests sents : ℕ → List ℕ) (sent : List ℕ) (after : Bytes) → Refills s d sent → state_of less after ≡ tidy (without_transfer (state_of k (record { seen = record { entry_bytes = d; kept_bytes = kept }; rests = rests; sents = sents })) n)
        → state_of live after ≡ tidy (change_region (without_transfer (state_of k (record { seen = record { entry_bytes = s; kept_bytes = kept }; rests = rests; sents = sents })) n) r.id.0 (filled sent))
    lands s d kept rests sents sent after y left =
        let b : Bytes = record { seen = record { entry_bytes = s; kept_bytes = kept }; rests = rests; sents = sents } in
        let f : flat.Region → flat.Region = refilled sent in
        let stored = state_changed k g r region_owned s d kept f (ap (λ z. record (region_view s r) { bytes = z }) y.bytes) y.others rests sents in
        let lives = live_state change less settled_less o.pid had.regions r had.there had.found after in
        let twice = processes_twice r.id.0 f (with_state state.Live) (λ q. refl) (state_of k b).processes in
        lives ∙ ap (λ (z : flat.State). change_region z r.id.0 (with_state state.Live)) (left ∙ ap (λ (z : flat.State). tidy (without_transfer z n)) stored)
        ∙ (λ i. record (tidy (without_transfer (state_of k b) n)) { processes = twice i })

    fin : (b : Bytes) → finish (state_of k b) n ≡ outcome (change_region (without_transfer (state_of k b) n) r.id.0 (filled payload)) answer
    fin b =
        let s : flat.State = without_transfer (state_of k b) n in
        input_finish k b n p t Move found owner is.inward is.class_is
        ∙ ap (finish_move s (seen_as k b t)) (region_there k n t g found is.inward is.outboard b r had.names there)
        ∙ ap (λ bytes. outcome (change_region s r.id.0 (filled bytes)) answer) (payload_is k n t g found is.inward is.outboard b e.buffer e.mine)

    -- and where it has no payload, its region shows zeros
    abbrev bare : flat.State
    bare = blanked n (outline k)

    blank_fin : finish bare n ≡ outcome (change_region (without_transfer bare n) r.id.0 (filled [])) answer
    blank_fin =
        let b : Bytes = no_bytes k.config.page in
        let s : flat.State = without_transfer bare n in
        let u : flat.Transfer = blank (seen_as k b t) in
        ap (finish_found bare n) (pending_blank n (outline k) ∙ ap (option_map blank) (pending_view k b n ∙ ap (option_map (seen_as k b)) found))
        ∙ ap (finish_for s u) owner
        ∙ ap (finish_owned s p u) is.inward
        ∙ ap (finish_input s p u) is.class_is
        ∙ ap (finish_move s u) (region_there k n t g found is.inward is.outboard b r had.names there)

    same_bare : without_transfer bare n ≡ without_transfer (outline k) n
    same_bare = ap (λ ts. record (outline k) { transfers = ts }) (without_blank n (outline k).transfers)

    blank_refills : Refills (no_bytes k.config.page).seen.entry_bytes (no_bytes k.config.page).seen.entry_bytes []
    blank_refills =
        let all : List ℕ = object_bytes (no_bytes k.config.page).seen.entry_bytes r.object.0 r.pages in
        record {
          bytes = zeros_are all (zeros_each k.config.page (range_with_len 0 r.pages)) ∙ sym (zeros_overlaid 0 [] (replicate (length all) 0) tt (zeros_repeated (length all)));
          others = λ a b ne. refl;
        }

    last_outline : outline live ≡ tidy (change_region (without_transfer bare n) r.id.0 (filled []))
    last_outline =
        let b : Bytes = no_bytes k.config.page in
        lands b.seen.entry_bytes b.seen.entry_bytes b.seen.kept_bytes b.rests b.sents [] b blank_refills (freed_outline laws show end release between n t new filled_good accepted ready e)
        ∙ ap (λ (z : flat.State). tidy (change_region z r.id.0 (filled []))) (sym same_bare)

    orderly : IsOrderly (outline live)
    orderly = laws.orderly bare (outline live) (Finish n) answer refl (accepts_blank n (outline k) accepted) (quiet_steps bare (outline live) n answer (change_region (without_transfer bare n) r.id.0 (filled [])) blank_fin refl last_outline) (blank_orderly n (outline k) g.orderly)

    zeros_page : (slots : ℕ → List ℕ) (i : ℕ) → (seen clear slots).entry_bytes r.object.0 i ≡ replicate clear.frames.page 0
    zeros_page slots i = ap (page_bytes clear.frames clear.pages.pages slots) (c.empty i)

    refills : (slots : ℕ → List ℕ) → ((s : ℕ) → length (slots s) ≡ k.memory.frames.page) → Refills (seen k.memory slots).entry_bytes (seen m3 slots).entry_bytes payload
    refills slots paged =
        let page = clear.frames.page in
        let shows = fills.stores.shows slots (λ s. paged s ∙ sym c.keeps.page) in
        let zeros : object_bytes (seen clear slots).entry_bytes r.object.0 r.pages ≡ flat_map (λ (i : ℕ). replicate page 0) (range_with_len 0 r.pages) = bytes_alike (λ a i. (seen clear slots).entry_bytes a i) (λ a i. replicate page 0) r.object.0 (range_with_len 0 r.pages) (zeros_page slots) in
        let lengths : length (flat_map (λ (i : ℕ). replicate page 0) (range_with_len 0 r.pages)) ≡ length (object_bytes (seen k.memory slots).entry_bytes r.object.0 r.pages) = same_lengths (λ i. replicate page 0) ((seen k.memory slots).entry_bytes r.object.0) (range_with_len 0 r.pages) (λ i. length-replicate page 0 ∙ c.keeps.page ∙ sym (entry_size k.memory slots r.object.0 i g.sound paged)) in
        record {
          bytes = shows.range r.pages within
              ∙ ap (overlaid 0 payload) (zeros ∙ zeros_are (flat_map (λ (j : ℕ). replicate page 0) (range_with_len 0 r.pages)) (zeros_each page (range_with_len 0 r.pages)))
              ∙ ap (λ j. overlaid 0 payload (replicate j 0)) lengths;
          others = λ a b ne. shows.objects a b ne ∙ c.empties.entries slots a b (ne_eqb a r.object.0 ne);
        }

    steps_paged : StepsPaged k (Finish n) live answer
    steps_paged slots rests sents have =
        let full : ℕ → List ℕ = padded k.memory.frames.page (length k.memory.slots) slots in
        let all = padded_paged k.memory slots have in
        let shows = fills.stores.shows full (λ s. all s ∙ sym c.keeps.page) in
        let kept : (seen m3 full).kept_bytes ≡ (seen k.memory full).kept_bytes = (λ i f. shows.others f i) ∙ c.shows full in
        let count_same : length k.memory.slots ≡ length m3.slots = sym (fills.stores.keeps.slots ∙ c.keeps.slots) in
        let left : state_of less (bytes_over less.memory slots rests sents) ≡ tidy (without_transfer (state_of k (record { seen = record { entry_bytes = (seen m3 full).entry_bytes; kept_bytes = (seen k.memory full).kept_bytes }; rests = rests; sents = sents })) n) =
        freed_shown laws show end release between n t new filled_good accepted ready e slots rests sents
        ∙ ap (λ (z : Seen). tidy (without_transfer (state_of k (record { seen = z; rests = rests; sents = sents })) n)) (sym (seen_padded m3 slots k.memory.frames.page (length k.memory.slots) fills.stores.sound count_same) ∙ (λ i. record { entry_bytes = (seen m3 full).entry_bytes; kept_bytes = kept i })) in
        let b : Bytes = record { seen = seen k.memory full; rests = rests; sents = sents } in
        let shown = lands (seen k.memory full).entry_bytes (seen m3 full).entry_bytes (seen k.memory full).kept_bytes rests sents payload (bytes_over less.memory slots rests sents) (refills full all) left in
        let one : Steps (state_of k b) (Finish n) (state_of live (bytes_over less.memory slots rests sents)) answer = quiet_steps (state_of k b) (state_of live (bytes_over less.memory slots rests sents)) n answer (change_region (without_transfer (state_of k b) n) r.id.0 (filled payload)) (fin b) refl shown in
        subst (λ (z : Seen). Steps (state_of k (record { seen = z; rests = rests; sents = sents })) (Finish n) (state_of live (bytes_over less.memory slots rests sents)) answer) (seen_padded k.memory slots k.memory.frames.page (length k.memory.slots) g.sound refl) one

    less_kept : Kept empty less
    less_kept =
        let kept : Kept between less = freed_kept laws show end release between n t new filled_good accepted ready e in
        record {
          lent = λ j f a b y on has. kept_on _ _ _ (lent_kept swap empty g1 m3 r.object.0 0 payload fills.stores unhidden_range guarded f (transfer_lent empty f a g1 (find_has (has_number j) k.transfers a y.was).0 on)) (kept.lent j f a b (record { was = y.was; is = y.is }) on has);
          pooled = λ d f on still. kept_on _ _ _ (pooled_kept swap empty g1 m3 r.object.0 0 payload fills.stores unhidden_range guarded f d (g1.owners.pool_frames f d on)) (kept.pooled d f on still);
          fresh = λ j f a b y. kept.fresh j f a b (record { was = y.was; is = y.is });
        }

    kept_by : Kept k live
    kept_by =
        let a = calls_kept k clear g c.keeps in
        let y = less_kept in
        record {
          lent = λ j f u w q on still. owner_on _ _ _ (a.lent j f u u (record { was = q.was; is = q.was }) on on) (y.lent j f u w (record { was = q.was; is = q.is }) on still);
          pooled = λ d f on still. owner_on _ _ _ (a.pooled d f on on) (y.pooled d f on still);
          fresh = λ j f u w q. y.fresh j f u w (record { was = q.was; is = q.is });
        }

    pub move_landed : EndsPaged k n (lively new o.pid r.id.0 had.regions) answer
    move_landed = subst (λ (z : Kernel). EndsPaged k n (lively z o.pid r.id.0 had.regions) answer) (sym e.only) (record {
      good = live_good change less settled_less o.pid had.regions r had.there had.found orderly;
      sized = λ v s. record { count = s.count ∙ sym (fills.stores.keeps.slots ∙ c.keeps.slots); page = s.page ∙ sym (e.back.loans.page ∙ e.back.wires.only.page ∙ fills.stores.keeps.page ∙ c.keeps.page) };
      kept = kept_by;
      step = steps_paged;
      config = refl;
      numbers = refl;
      unfailed = refl;
      rises = rises_most (2 ^ 34) (2 ^ 35) k.memory.frames new.memory.frames (omega arith) (rises_back (2 ^ 34) t k.memory.frames m3.frames new.memory.frames (rises_owners (2 ^ 34) k.memory.frames clear.frames m3.frames c.empties.frames fills.stores.rises) e.back);
    })
