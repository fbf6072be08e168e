-- An input ends whose bytes were copied from a buffer of its device's pool to a region.
use Rattle.std.proofs.Common.{◌≡◌, ℕ, ◌+◌, ◌/◌, ◌^◌, ◌≤◌, true, false, List, refl, sym, ap, subst, arith, ◌∙◌, length, drop}
use Rattle.std.specs.Prelude.{Some, None, find, flat_map, slice_index_or, if◌then◌else◌}
use Rattle.std.specs.List.{range_with_len}
use Rattle.std.specs.Option.{option_map, option_and_then}
use Rattle.genie_base.specs.Bytes.{overlaid}
use Rattle.genie_base.specs.Counts.{span}
use Rattle.genie_base.specs.Events.{mark_of}
use Rattle.genie_base.specs.Transfers.{class_of}
use Rattle.genie_base.specs.declared.event.Event.TheVariants.{Finish}
use Rattle.genie_base.specs.declared.reply.Mark.TheVariants.{NoFault}
use Rattle.genie_base.specs.declared.reply.Reply.{Reply}
use Rattle.genie_base.specs.declared.reply.Reply.TheVariants as reply
use Rattle.genie_base.specs.declared.semantics.Class.TheVariants.{Share}
use Rattle.genie_base.specs.declared.semantics.Direction.TheVariants as direction
use Rattle.genie_finish.specs.Copies.{CopiesRange}
use Rattle.genie_frame.specs.declared.frame.Owner.{Owner}
use Rattle.genie_frame.specs.declared.frame.Owner.TheVariants.{Free}
use Rattle.genie_frame.specs.FrameTable.{owner_at}
use Rattle.genie_object.specs.declared.memory.Memory.{Memory}
use Rattle.genie_object.specs.declared.objects.Range.{Range}
use Rattle.genie_object.specs.Memory.{Seen, seen}
use Rattle.genie_object.specs.Sound.{IsSized}
use Rattle.genie_plan.specs.Landings.{entries_bytes}
use Rattle.genie_plan.specs.Plans.{range_bytes}
use Rattle.genie_store.specs.StoreView.{StoreView}
use Rattle.genie_region.specs.declared.region.Region.{Region}
use Rattle.genie_model.specs.Ending.{finish, finish_for, finish_input, finish_owned, finish_share, region_of, without_transfer}
use Rattle.genie_model.specs.Lemmas.Lists.{Has}
use Rattle.genie_model.specs.Pending.{is_early_at, is_ready}
use Rattle.genie_model.specs.Refusing.{refuse}
use Rattle.genie_model.specs.Regions.{put, region_numbered}
use Rattle.genie_model.specs.Space.{tidy}
use Rattle.genie_model.specs.State as flat
use Rattle.genie_model.specs.Tables.{entry}
use Rattle.genie_orderly.specs.Orderly.{IsOrderly}
use Rattle.genie_kernel.specs.declared.kernel.Kernel.{Kernel}
use Rattle.genie_kernel.specs.declared.transfer.Transfer.{Transfer}
use Rattle.genie_kernel.specs.Calls.{has_number, region_number}
use Rattle.genie_kernel.specs.Good.{IsGood}
use Rattle.genie_kernel.specs.Kept.{Kept, KeepsOwner}
use Rattle.genie_kernel.specs.Regions.{has_id, object_bytes, owned_regions, region_view}
use Rattle.genie_kernel.specs.Rising.{MetersRise}
use Rattle.genie_kernel.specs.Steps.{bytes_over}
use Rattle.genie_kernel.specs.View.{Bytes, state_of, outline, no_bytes}
use Rattle.genie_kernel.specs.Lemmas.Rising.{rises_most}
use Rattle.genie_changes.specs.Paged.{HavePages}
use Rattle.genie_changes.specs.Released.{BuffersShow, ReleasedEnds, ReleasedShows}
use Rattle.genie_changes.specs.Settled.{IsSettled}
use Rattle.genie_arrivals.specs.EndLaws.{EndLaws}
use Rattle.genie_arrivals.specs.Paging.{EndsPaged}
use Rattle.genie_arrivals.specs.Pooled.{frames_in, is_pooled_device, offset_of}
use Rattle.genie_arrivals.specs.Waiting.{EndsWaiting}
use Rattle.genie_arrivals.proofs.Buffered.{freed, freed_kept, freed_outline, freed_settled, freed_shown}
use Rattle.genie_arrivals.proofs.Found.{seen_as}
use Rattle.genie_arrivals.proofs.Paging.{padded, padded_paged, seen_padded}
use Rattle.genie_arrivals.proofs.PooledAt.{HasPooled, IsPoolAt, has_pooled, payload_is, pool_at, pooled_waits, waiting, waiting_bytes}
use Rattle.genie_arrivals.proofs.PooledCopy.{copied_good}
use Rattle.genie_arrivals.proofs.Putting.{PutsBytes, put_state}
use Rattle.genie_arrivals.proofs.Reaching.{most_page}
use Rattle.genie_arrivals.proofs.Replying.{early_view, found_finish, numbered_view, outcome, quiet_steps}
use Rattle.genie_arrivals.proofs.Rising.{rises_back, rises_copied}
use Rattle.genie_arrivals.proofs.Zeros.{zeros_dropped, zeros_each, zeros_overlaid, zeros_taken}

-- what is known of an input that waits in a pool's buffer, and of the region and the range to which its bytes go
pub record Copied (k : Kernel) (n : ℕ) (t : Transfer) (q : Region) (range : Range) (m : Memory) : Type 0 where
  pub good : IsGood k
  pub accepted : refuse (outline k) (Finish n) ≡ None
  pub found : find (has_number n) k.transfers ≡ Some t
  pub ready : is_ready t.phase ≡ true
  pub inward : t.dir ≡ direction.Inward
  pub pooled : is_pooled_device (entry k.devices t.dev)
  pub owned : Has q (owned_regions k.spaces.processes)
  pub object_is : range.object ≡ q.object
  pub size : range.len ≡ t.stored
  pub within : range.off / k.config.page + span k.config.page range.off range.len ≤ q.pages
  pub copies : CopiesRange k.memory m range.object.0 range.off range.len (offset_of (entry k.config.devices t.dev)) (frames_in (entry k.pools t.dev) t.buffer)

module _ (k : Kernel) (n : ℕ) (t : Transfer) (q : Region) (range : Range) (m : Memory) (c : Copied k n t q range m) where
  abbrev pub at : IsPoolAt k t.dev
  at = pool_at k t.dev c.good c.pooled

  abbrev pub x : HasPooled k t at
  x = has_pooled k n t c.good c.found c.ready c.inward c.pooled

  abbrev pub payload : (ℕ → List ℕ) → List ℕ
  payload s = waiting k t c.good at x s

  abbrev pub mid : Kernel
  mid = record k { memory = m }

  pub mid_good : IsGood mid
  mid_good = copied_good k m range.object.0 range.off range.len (offset_of (entry k.config.devices t.dev)) (frames_in (entry k.pools t.dev) t.buffer) c.good c.copies

  puts : (slots : ℕ → List ℕ) → ((s : ℕ) → length (slots s) ≡ k.memory.frames.page) → PutsBytes (seen k.memory slots).entry_bytes (seen m slots).entry_bytes q.object.0 q.pages range.off (payload (seen k.memory slots).kept_bytes)
  puts slots paged =
      let object : range.object.0 ≡ q.object.0 = (λ i. (c.object_is i).0) in
      let within : range.off / k.memory.frames.page + span k.memory.frames.page range.off range.len ≤ q.pages = subst (λ z. range.off / z + span z range.off range.len ≤ q.pages) (sym c.good.sized.page) c.within in
      let bytes : range_bytes k.memory.frames (frames_in (entry k.pools t.dev) t.buffer) (offset_of (entry k.config.devices t.dev)) range.len ≡ payload (seen k.memory slots).kept_bytes = ap (range_bytes k.memory.frames (frames_in (entry k.pools t.dev) t.buffer) (offset_of (entry k.config.devices t.dev))) c.size ∙ waiting_bytes k t c.good at x slots in
      let one : entries_bytes (seen m slots) range.object.0 0 q.pages ≡ overlaid range.off (payload (seen k.memory slots).kept_bytes) (entries_bytes (seen k.memory slots) range.object.0 0 q.pages) = c.copies.range slots paged q.pages within ∙ ap (λ l. overlaid range.off l (entries_bytes (seen k.memory slots) range.object.0 0 q.pages)) bytes in
      record {
        range = subst (λ o. entries_bytes (seen m slots) o 0 q.pages ≡ overlaid range.off (payload (seen k.memory slots).kept_bytes) (entries_bytes (seen k.memory slots) o 0 q.pages)) object one;
        others = λ a b ne. c.copies.others slots a b (λ e. ne (e ∙ object));
      }

  -- the state after the copy
  put_shown : (slots rests sents : ℕ → List ℕ) → ((s : ℕ) → length (slots s) ≡ k.memory.frames.page) → state_of k (bytes_over m slots rests sents) ≡ put (state_of k (bytes_over k.memory slots rests sents)) q.id.0 range.off (payload (seen k.memory slots).kept_bytes)
  put_shown slots rests sents paged =
      ap (λ (z : ℕ → List ℕ). state_of k (record { seen = record { entry_bytes = (seen m slots).entry_bytes; kept_bytes = z }; rests = rests; sents = sents })) (c.copies.kept slots)
      ∙ put_state k c.good q c.owned (seen k.memory slots).entry_bytes (seen m slots).entry_bytes (seen k.memory slots).kept_bytes range.off (payload (seen k.memory slots).kept_bytes) (puts slots paged) rests sents

  -- in the outline zeros are stored among zeros
  put_zeros : outline k ≡ put (outline k) q.id.0 range.off (payload (no_bytes k.config.page).seen.kept_bytes)
  put_zeros =
      let page = k.config.page in
      let b : Bytes = no_bytes page in
      let frames : List ℕ = frames_in (entry k.pools t.dev) t.buffer in
      let first : ℕ = offset_of (entry k.config.devices t.dev) in
      let zeros = zeros_taken t.stored (drop first (flat_map b.seen.kept_bytes frames)) (zeros_dropped first (flat_map b.seen.kept_bytes frames) (zeros_each page frames)) in
      put_state k c.good q c.owned b.seen.entry_bytes b.seen.entry_bytes b.seen.kept_bytes range.off (payload b.seen.kept_bytes)
      (record { range = sym (zeros_overlaid range.off (payload b.seen.kept_bytes) (object_bytes b.seen.entry_bytes q.object.0 q.pages) zeros (zeros_each page (range_with_len 0 q.pages))); others = λ a e ne. refl })
      b.rests b.sents

  module _ (laws : EndLaws) (show : BuffersShow) (end : ReleasedEnds) (release : ReleasedShows) (new : Kernel) (e : EndsWaiting n mid new t) where
    abbrev pub last : Kernel
    last = freed laws show end release mid n t new mid_good c.accepted c.ready e

    pub last_settled : IsSettled last
    last_settled = freed_settled laws show end release mid n t new mid_good c.accepted c.ready e

    pub last_kept : Kept k last
    last_kept =
        let kept : Kept mid last = freed_kept laws show end release mid n t new mid_good c.accepted c.ready e in
        let back : (f : ℕ) → KeepsOwner (owner_at m.frames f) (owner_at new.memory.frames f) → KeepsOwner (owner_at k.memory.frames f) (owner_at new.memory.frames f) = λ f h. subst (λ (os : List Owner). KeepsOwner (slice_index_or os f Free) (owner_at new.memory.frames f)) c.copies.owners h in
        record {
          lent = λ j f a b y had has. back f (kept.lent j f a b (record { was = y.was; is = y.is }) had has);
          pooled = λ d f on still. back f (kept.pooled d f on still);
          fresh = λ j f a b y. kept.fresh j f a b (record { was = y.was; is = y.is });
        }

    pub last_sized : (v : StoreView) → IsSized k.memory v → IsSized last.memory v
    last_sized v s = record { count = s.count ∙ sym (ap length c.copies.slots); page = s.page ∙ sym (e.back.loans.page ∙ e.back.wires.only.page ∙ c.copies.page) }

    pub last_rises : MetersRise (2 ^ 34) k.memory.frames new.memory.frames
    last_rises =
        let stored = x.fits in
        let limit = at.limit in
        let page = most_page k c.good in
        let size = c.size in
        let few : range.len ≤ 2 ^ 34 = omega (arith, stored, limit, page, size) in
        rises_back (2 ^ 34) t k.memory.frames m.frames new.memory.frames (rises_copied range.len (2 ^ 34) k.memory.frames m.frames few c.copies.meters c.copies.landed) e.back

    pub last_outline : outline last ≡ tidy (put (without_transfer (outline k) n) q.id.0 range.off (payload (no_bytes k.config.page).seen.kept_bytes))
    last_outline = freed_outline laws show end release mid n t new mid_good c.accepted c.ready e ∙ ap (λ (z : flat.State). tidy (without_transfer z n)) put_zeros

    -- what is seen afterwards, over slots that have a page each
    pub last_shown : (slots rests sents : ℕ → List ℕ) → HavePages k.memory slots → state_of last (bytes_over last.memory slots rests sents) ≡ tidy (put (without_transfer (state_of k (bytes_over k.memory slots rests sents)) n) q.id.0 range.off (payload (seen k.memory slots).kept_bytes))
    last_shown slots rests sents have =
        let page = k.memory.frames.page in
        let count = length k.memory.slots in
        let full : ℕ → List ℕ = padded page count slots in
        let one = put_shown full rests sents (padded_paged k.memory slots have) in
        let two : state_of k (bytes_over m full rests sents) ≡ put (state_of k (bytes_over k.memory slots rests sents)) q.id.0 range.off (payload (seen k.memory slots).kept_bytes) = subst (λ (z : Seen). state_of k (bytes_over m full rests sents) ≡ put (state_of k (record { seen = z; rests = rests; sents = sents })) q.id.0 range.off (payload z.kept_bytes)) (seen_padded k.memory slots page count c.good.sound refl) one in
        let three : state_of k (bytes_over m slots rests sents) ≡ put (state_of k (bytes_over k.memory slots rests sents)) q.id.0 range.off (payload (seen k.memory slots).kept_bytes) = subst (λ (z : Seen). state_of k (record { seen = z; rests = rests; sents = sents }) ≡ put (state_of k (bytes_over k.memory slots rests sents)) q.id.0 range.off (payload (seen k.memory slots).kept_bytes)) (seen_padded m slots page count c.copies.sound (sym (ap length c.copies.slots))) two in
        freed_shown laws show end release mid n t new mid_good c.accepted c.ready e slots rests sents
        ∙ ap (λ (z : flat.State). tidy (without_transfer z n)) three

    -- the end of an input that leaves nothing else
    module _ (answer : Reply) (mark : mark_of answer ≡ NoFault) (fin : (b : Bytes) → finish (state_of k b) n ≡ outcome (put (without_transfer (state_of k b) n) q.id.0 range.off (payload b.seen.kept_bytes)) answer) where
      orderly : IsOrderly (outline last)
      orderly =
          let b : Bytes = no_bytes k.config.page in
          laws.orderly (outline k) (outline last) (Finish n) answer refl c.accepted (quiet_steps (outline k) (outline last) n answer (put (without_transfer (outline k) n) q.id.0 range.off (payload b.seen.kept_bytes)) (fin b) mark last_outline) c.good.orderly

      pub copied_ends : EndsPaged k n new answer
      copied_ends = subst (λ (z : Kernel). EndsPaged k n z answer) (sym e.only) (record {
        good = laws.good last last_settled orderly;
        sized = last_sized;
        kept = last_kept;
        step = λ slots rests sents have. quiet_steps (state_of k (bytes_over k.memory slots rests sents)) (state_of last (bytes_over last.memory slots rests sents)) n answer (put (without_transfer (state_of k (bytes_over k.memory slots rests sents)) n) q.id.0 range.off (payload (seen k.memory slots).kept_bytes)) (fin (bytes_over k.memory slots rests sents)) mark (last_shown slots rests sents have);
        config = refl;
        numbers = refl;
        unfailed = mark;
        rises = rises_most (2 ^ 34) (2 ^ 35) k.memory.frames new.memory.frames (omega arith) last_rises;
      })

-- a share input on a device that isn't early, whose region is there
share_put : (s : flat.State) (v : flat.Transfer) (p : ℕ) (r : flat.Region) → v.direction ≡ direction.Inward → v.class ≡ Share → is_early_at s v.device ≡ false → region_of s v ≡ Some r → finish_for s v (Some p) ≡ outcome (put s r.number v.offset v.payload) (reply.Input None v.stored v.note)
share_put s v p r inward class late there =
    ap (finish_owned s p v) inward ∙ ap (finish_input s p v) class ∙ ap (finish_share s v) there
    ∙ ap (λ c. outcome (if c then s else put s r.number v.offset v.payload) (reply.Input None v.stored v.note)) late

pub region_there : (k : Kernel) (n : ℕ) (t : Transfer) (b : Bytes) (q : Region) → region_number t ≡ Some q.id.0 → find (has_id q.id.0) (owned_regions k.spaces.processes) ≡ Some q → region_of (without_transfer (state_of k b) n) (seen_as k b t) ≡ Some (region_view b.seen.entry_bytes q)
region_there k n t b q names there = ap (option_and_then (region_numbered (state_of k b))) names ∙ numbered_view k b q.id.0 ∙ ap (option_map (region_view b.seen.entry_bytes)) there

-- the end of a share input
module _ (k : Kernel) (n p : ℕ) (t : Transfer) (q : Region) (range : Range) (m : Memory) (c : Copied k n t q range m) (owner : t.owner ≡ Some p) (class : class_of t.sem ≡ Share) (names : region_number t ≡ Some q.id.0) (there : find (has_id q.id.0) (owned_regions k.spaces.processes) ≡ Some q) (place : range.off ≡ t.offset) where
  abbrev answer : Reply
  answer = reply.Input None t.stored t.note

  share_fin : (b : Bytes) → finish (state_of k b) n ≡ outcome (put (without_transfer (state_of k b) n) q.id.0 range.off (payload k n t q range m c b.seen.kept_bytes)) answer
  share_fin b =
      let s : flat.State = without_transfer (state_of k b) n in
      let late : is_early_at (state_of k b) t.dev ≡ false = early_view k b t.dev ∙ (pooled_waits k.devices t c.inward c.pooled).late in
      found_finish k b n t c.found ∙ ap (finish_for s (seen_as k b t)) owner
      ∙ share_put s (seen_as k b t) p (region_view b.seen.entry_bytes q) c.inward class late (region_there k n t b q names there)
      ∙ (λ i. outcome (put s q.id.0 (sym place i) (payload_is k t c.good (at k n t q range m c) (x k n t q range m c) b c.inward i)) answer)

  pub share_ends : (laws : EndLaws) (show : BuffersShow) (end : ReleasedEnds) (release : ReleasedShows) (new : Kernel) (e : EndsWaiting n (mid k n t q range m c) new t) → EndsPaged k n new answer
  share_ends laws show end release new e = copied_ends k n t q range m c laws show end release new e answer refl share_fin
