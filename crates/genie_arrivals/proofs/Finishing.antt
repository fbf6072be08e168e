-- The end of a copy input whose bytes are stored, as one step.
use Rattle.std.proofs.Common.{◌≡◌, ℕ, ◌+◌, ◌-◌, ◌*◌, ◌/◌, ◌%◌, ◌<◌, ◌≤◌, ◌^◌, zero, suc, Bool, true, List, [], ◌∷◌, ◌++◌, refl, sym, ap, ap₂, subst, arith, rules, ◌∙◌, length, take, drop, get_or}
use Rattle.std.specs.Prelude.{Some, None, find, flat_map, unwrap_or, if◌then◌else◌}
use Rattle.std.specs.List.{range_with_len}
use Rattle.std.specs.Option.{option_map}
use Rattle.genie_base.specs.Bytes.{part}
use Rattle.genie_base.specs.Counts.{span}
use Rattle.genie_base.specs.Transfers.{class_of, is_strong}
use Rattle.genie_base.specs.declared.event.Event.TheVariants.{Finish}
use Rattle.genie_base.specs.declared.reply.Reply.{Reply}
use Rattle.genie_base.specs.declared.reply.Reply.TheVariants as reply
use Rattle.genie_base.specs.declared.semantics.Class.TheVariants.{Copy}
use Rattle.genie_base.specs.declared.semantics.Direction.TheVariants as direction
use Rattle.genie_frame.specs.declared.frame.InLoan.{InLoan}
use Rattle.genie_frame.specs.declared.frame.Owner.{Owner}
use Rattle.genie_frame.specs.FrameTable.{FrameTable, bytes_at, counts_at}
use Rattle.genie_object.specs.declared.memory.Memory.{Memory}
use Rattle.genie_object.specs.declared.objects.Range.{Range}
use Rattle.genie_object.specs.Memory.{is_kept, seen}
use Rattle.genie_object.specs.Objects.{object_at}
use Rattle.genie_hiding.specs.Hidden.{objects_of}
use Rattle.genie_finish.specs.Ranges.{CanStoreRange}
use Rattle.genie_object.specs.Costs.{AreBelow}
use Rattle.genie_plan.specs.declared.plan.InPlan.{InPlan}
use Rattle.genie_plan.specs.Loans.{input_loans}
use Rattle.genie_plan.specs.Plans.{input_frames, joined, range_bytes}
use Rattle.genie_region.specs.declared.region.Region.{Region}
use Rattle.genie_model.specs.Ending.{without_transfer, finish, finish_copy}
use Rattle.genie_model.specs.Inputs.{address_or_zero}
use Rattle.genie_model.specs.Lemmas.Lists.{Has, all_has, find_has}
use Rattle.genie_model.specs.Pending.{is_ready}
use Rattle.genie_model.specs.Refusing.{refuse}
use Rattle.genie_model.specs.Regions as model
use Rattle.genie_model.specs.Space.{tidy}
use Rattle.genie_model.specs.State as flat
use Rattle.genie_model.specs.Tables.{entry, without}
use Rattle.genie_orderly.specs.Orderly.{IsOrderly}
use Rattle.genie_kernel.specs.declared.kernel.Kernel.{Kernel}
use Rattle.genie_kernel.specs.declared.transfer.Loans.{Loans}
use Rattle.genie_kernel.specs.declared.transfer.Loans.TheVariants.{Inward}
use Rattle.genie_kernel.specs.declared.transfer.Transfer.{Transfer}
use Rattle.genie_kernel.specs.Calls.{addr_of, begins_at, has_number, is_copy_input, is_strong_call}
use Rattle.genie_kernel.specs.Good.{IsGood}
use Rattle.genie_kernel.specs.Loans.{bytes_in_frames, first_of, frames_of, loans_of}
use Rattle.genie_kernel.specs.Orphans.{lent_bytes}
use Rattle.genie_kernel.specs.Planned.{AreItsOwn, Lends, LendsIn, LendsInput, LendsStrongly, is_early_device}
use Rattle.genie_kernel.specs.Regions.{object_bytes, owned_regions, region_view, regions_of}
use Rattle.genie_kernel.specs.Same.{SameNeeded}
use Rattle.genie_kernel.specs.Steps.{Steps}
use Rattle.genie_kernel.specs.Transfers.{input_bytes, payload_of}
use Rattle.genie_kernel.specs.Calls.{first_waiting}
use Rattle.genie_kernel.specs.View.{Bytes, state_of, outline, no_bytes}
use Rattle.genie_changes.specs.Ending.{ShowsOthers, without_call}
use Rattle.genie_changes.specs.Premises.{ShowsPages}
use Rattle.genie_arrivals.specs.CopyLaws.{CopyLaws}
use Rattle.genie_arrivals.specs.EndLaws.{EndLaws}
use Rattle.genie_arrivals.specs.Stored.{CanStoreBuffer}
use Rattle.genie_arrivals.specs.Targets.{IsTarget, reached_by}
use Rattle.genie_room.specs.Bounds.{IsShort}
use Rattle.std.proofs.Math.Nat.{add-mul-mod_self_right}
use Rattle.genie_arrivals.proofs.Alone.{are_buffers}
use Rattle.genie_arrivals.proofs.Lent.{lends_at}
use Rattle.genie_arrivals.proofs.Found.{ready_idle, seen_as}
use Rattle.genie_arrivals.proofs.Putting.{PutsBytes, put_state}
use Rattle.genie_arrivals.proofs.Quiet.{unbuffered}
use Rattle.genie_arrivals.proofs.Reaching.{write_view, written_inside}
use Rattle.genie_arrivals.proofs.Readying.{is_roomy, span_known, stored_most, target_owned}
use Rattle.genie_arrivals.proofs.Replying.{input_finish, outcome, quiet_steps}
use Rattle.genie_arrivals.proofs.Zeros.{zeros_dropped, zeros_each, zeros_overlaid, zeros_taken}

-- the bytes that have come, as they lie in a buffer's frames
abbrev pub payload : (ℕ → List ℕ) → Transfer → List ℕ
payload s t = take t.stored (lent_bytes s t)

pub payload_is : (k : Kernel) (b : Bytes) (t : Transfer) → t.dir ≡ direction.Inward → t.buffer ≡ None → is_strong_call t ≡ true → (seen_as k b t).payload ≡ payload b.seen.kept_bytes t
payload_is k b t inward none strong =
    ap (payload_of b.seen.kept_bytes k.devices k.pools (first_waiting k.transfers) t) inward
    ∙ ap (input_bytes b.seen.kept_bytes k.devices k.pools t) none
    ∙ ap (λ (c : Bool). if c then take t.stored (lent_bytes b.seen.kept_bytes t) else []) strong

copied : (s : flat.State) (v : flat.Transfer) (r : flat.Region) (a : ℕ) (bytes : List ℕ) → address_or_zero v.addr ≡ a → v.payload ≡ bytes → finish_copy s v (Some r) ≡ outcome (model.put s r.number (a - r.start * s.config.page) bytes) (reply.Input None v.stored v.note)
copied s v r a bytes at is = λ i. outcome (model.put s r.number (at i - r.start * s.config.page) (is i)) (reply.Input None v.stored v.note)

module _ (laws : EndLaws) (room : CopyLaws) (k : Kernel) (n : ℕ) (t : Transfer) (range : Range) (g : IsGood k) (found : find (has_number n) k.transfers ≡ Some t) (ready : is_ready t.phase ≡ true) (early : is_early_device (entry k.devices t.dev) ≡ true) (class : class_of t.sem ≡ Copy) (inward : t.dir ≡ direction.Inward) (x : IsTarget k t range) where
  abbrev r : Region
  r = x.region

  abbrev off : ℕ
  off = t.addr - r.start * k.config.page

  abbrev answer : Reply
  answer = reply.Input None t.stored t.note

  strong : is_strong_call t ≡ true
  strong = ap is_strong class

  addr : address_or_zero (addr_of t) ≡ t.addr
  addr = ap (λ (b : Bool). address_or_zero (if b then Some t.addr else None)) (λ i. is_copy_input (class i) (inward i))

  reached : (b : Bytes) → model.write_reach_of (state_of k b) x.pid (address_or_zero (addr_of t)) t.len ≡ Some (region_view b.seen.entry_bytes r)
  reached b = ap (λ a. model.write_reach_of (state_of k b) x.pid a t.len) addr ∙ write_view k b x.pid t.addr t.len ∙ ap (option_map (region_view b.seen.entry_bytes)) x.reached

  fin : (b : Bytes) → finish (state_of k b) n ≡ outcome (model.put (without_transfer (state_of k b) n) r.id.0 off (payload b.seen.kept_bytes t)) answer
  fin b =
      let s : flat.State = without_transfer (state_of k b) n in
      let v : flat.Transfer = seen_as k b t in
      input_finish k b n x.pid t Copy found x.owner inward class
      ∙ ap (finish_copy s v) (reached b)
      ∙ copied s v (region_view b.seen.entry_bytes r) t.addr (payload b.seen.kept_bytes t) addr (payload_is k b t inward (unbuffered k n t g found early) strong)

  owned : Has r (owned_regions k.spaces.processes)
  owned = target_owned room k n t range g found class inward x

  -- what is known of the bytes before and after
  pub record Puts (s d : ℕ → ℕ → List ℕ) (kept after : ℕ → List ℕ) : Type 0 where
    pub bytes : PutsBytes s d r.object.0 r.pages off (payload kept t)
    pub pages : ShowsPages k.config.page k.memory kept
    pub frames : SameNeeded (owned_regions k.spaces.processes) (without (has_number n) k.transfers) k.pools kept after

  pub steps : (m : Memory) (s d : ℕ → ℕ → List ℕ) (kept after : ℕ → List ℕ) (rests sents : ℕ → List ℕ) → Puts s d kept after → Steps (state_of k (record { seen = record { entry_bytes = s; kept_bytes = kept }; rests = rests; sents = sents })) (Finish n) (state_of (without_call k m n k.posted) (record { seen = record { entry_bytes = d; kept_bytes = after }; rests = rests; sents = sents })) answer
  steps m s d kept after rests sents y =
      let b : Bytes = record { seen = record { entry_bytes = s; kept_bytes = kept }; rests = rests; sents = sents } in
      let mid : Bytes = record { seen = record { entry_bytes = d; kept_bytes = kept }; rests = rests; sents = sents } in
      let last : Bytes = record { seen = record { entry_bytes = d; kept_bytes = after }; rests = rests; sents = sents } in
      let idle = ready_idle t.phase ready in
      let shows : ShowsOthers k n mid last = record { rests = refl; sents = refl; entries = refl; frames = y.frames; pages = y.pages } in
      let left = laws.leaves k m n t k.posted mid last g found idle.unqueued idle.unmoved shows in
      let put = put_state k g r owned s d kept off (payload kept t) y.bytes rests sents in
      quiet_steps (state_of k b) (state_of (without_call k m n k.posted) last) n answer (model.put (without_transfer (state_of k b) n) r.id.0 off (payload kept t)) (fin b) refl
      (left ∙ ap (λ (z : flat.State). tidy (without_transfer z n)) put)

  -- in the outline zeros are stored among zeros
  pub outline_puts : Puts (no_bytes k.config.page).seen.entry_bytes (no_bytes k.config.page).seen.entry_bytes (no_bytes k.config.page).seen.kept_bytes (no_bytes k.config.page).seen.kept_bytes
  outline_puts =
      let page = k.config.page in
      let shows = laws.outlines k n in
      let zeros = zeros_taken t.stored (lent_bytes (no_bytes page).seen.kept_bytes t) (zeros_taken t.len (drop (first_of t.loans) (bytes_in_frames (no_bytes page).seen.kept_bytes (frames_of t.loans))) (zeros_dropped (first_of t.loans) (bytes_in_frames (no_bytes page).seen.kept_bytes (frames_of t.loans)) (zeros_each page (frames_of t.loans)))) in
      record {
        bytes = record { range = sym (zeros_overlaid off (payload (no_bytes page).seen.kept_bytes t) (object_bytes (no_bytes page).seen.entry_bytes r.object.0 r.pages) zeros (zeros_each page (range_with_len 0 r.pages))); others = λ a b ne. refl };
        pages = shows.pages;
        frames = shows.frames;
      }

  pub orderly_after : (m : Memory) → refuse (outline k) (Finish n) ≡ None → IsOrderly (outline (without_call k m n k.posted))
  orderly_after m accepted =
      let b = no_bytes k.config.page in
      laws.orderly (outline k) (outline (without_call k m n k.posted)) (Finish n) answer refl accepted (steps m b.seen.entry_bytes b.seen.entry_bytes b.seen.kept_bytes b.seen.kept_bytes b.rests b.sents outline_puts) g.orderly

-- a copy input that goes nowhere
pub copy_lost : (k : Kernel) (b : Bytes) (n p : ℕ) (t : Transfer) → find (has_number n) k.transfers ≡ Some t → t.owner ≡ Some p → t.dir ≡ direction.Inward → class_of t.sem ≡ Copy → reached_by k t p ≡ None → finish (state_of k b) n ≡ outcome (without_transfer (state_of k b) n) reply.Lost
copy_lost k b n p t found owner inward class none =
    let s : flat.State = without_transfer (state_of k b) n in
    let at : address_or_zero (addr_of t) ≡ t.addr = ap (λ (b : Bool). address_or_zero (if b then Some t.addr else None)) (λ i. is_copy_input (class i) (inward i)) in
    input_finish k b n p t Copy found owner inward class
    ∙ ap (finish_copy s (seen_as k b t)) (ap (λ a. model.write_reach_of (state_of k b) p a t.len) at ∙ write_view k b p t.addr t.len ∙ ap (option_map (region_view b.seen.entry_bytes)) none)

-- frames that show their bytes, one after the other
pub shown_joined : (kept : ℕ → List ℕ) (t : FrameTable) (frames : List ℕ) → ((j : ℕ) → j < length frames → kept (get_or frames j 0) ≡ bytes_at t (get_or frames j 0)) → flat_map kept frames ≡ joined t.bytes frames
shown_joined kept t [] h = refl
shown_joined kept t (f ∷ frames) h = ap₂ ◌++◌ (h 0 (omega arith)) (shown_joined kept t frames (λ j l. h (suc j) (omega (arith, l))))

pub take_less : (m n : ℕ) (xs : List ℕ) → m ≤ n → take m (take n xs) ≡ take m xs
take_less zero n xs l = refl
take_less (suc m) zero xs l = absurd (omega (arith, l))
take_less (suc m) (suc n) [] l = refl
take_less (suc m) (suc n) (x ∷ xs) l = ap (λ ys. x ∷ ys) (take_less m n xs (omega (arith, l)))

-- the input loans of a strong input on an early device
pub record HasBuffer (k : Kernel) (n : ℕ) (t : Transfer) (L : List InLoan) : Type 0 where
  pub is_loans : loans_of t.loans ≡ input_loans L
  pub is_frames : frames_of t.loans ≡ input_frames L
  pub number : length (input_frames L) ≡ span k.config.page (begins_at t) t.len
  pub first : first_of t.loans ≡ begins_at t % k.config.page
  pub own : AreItsOwn k.memory.frames.owners n (frames_of t.loans)

buffer_by : (k : Kernel) (n : ℕ) (t : Transfer) (p : InPlan) (l : Loans) → l ≡ t.loans → LendsIn k.config.page t l → l ≡ Inward p → AreItsOwn k.memory.frames.owners n (frames_of t.loans) → HasBuffer k n t p.loans.items
buffer_by k n t p l same h is own =
    let at : LendsIn k.config.page t (Inward p) = subst (LendsIn k.config.page t) is h in
    let e : t.loans ≡ Inward p = sym same ∙ is in
    record { is_loans = ap loans_of e; is_frames = ap frames_of e; number = at.pages; first = ap first_of e ∙ at.begins; own = own }

strongly : (k : Kernel) (n : ℕ) (t : Transfer) → IsGood k → find (has_number n) k.transfers ≡ Some t → is_early_device (entry k.devices t.dev) ≡ true → is_strong_call t ≡ true → t.dir ≡ direction.Inward → LendsStrongly k.config.page k.memory.frames.owners true t t.loans
strongly k n t g found early strong inward =
    let lends = lends_at k t g (find_has (has_number n) k.transfers t found).0 in
    let one : LendsInput k.config.page k.memory.frames.owners (is_early_device (entry k.devices t.dev)) t (is_strong_call t) = subst (Lends k.config.page k.memory.frames.owners (is_early_device (entry k.devices t.dev)) t) inward lends in
    let two : LendsStrongly k.config.page k.memory.frames.owners (is_early_device (entry k.devices t.dev)) t t.loans = subst (LendsInput k.config.page k.memory.frames.owners (is_early_device (entry k.devices t.dev)) t) strong one in
    subst (λ b. LendsStrongly k.config.page k.memory.frames.owners b t t.loans) early two

pub has_buffer : (k : Kernel) (n : ℕ) (t : Transfer) (p : InPlan) → IsGood k → find (has_number n) k.transfers ≡ Some t → is_early_device (entry k.devices t.dev) ≡ true → is_strong_call t ≡ true → t.dir ≡ direction.Inward → t.loans ≡ Inward p → HasBuffer k n t p.loans.items
has_buffer k n t p g found early strong inward is =
    let h = strongly k n t g found early strong inward in
    let number : t.id.0 ≡ n = let passes = (find_has (has_number n) k.transfers t found).1 in grind (arith, rules, passes) in
    buffer_by k n t p t.loans refl h.0 is (subst (λ j. AreItsOwn k.memory.frames.owners j (frames_of t.loans)) number h.1)

-- so it has them
pub lends_inward : (k : Kernel) (n : ℕ) (t : Transfer) → IsGood k → find (has_number n) k.transfers ≡ Some t → is_early_device (entry k.devices t.dev) ≡ true → is_strong_call t ≡ true → t.dir ≡ direction.Inward → LendsIn k.config.page t t.loans
lends_inward k n t g found early strong inward = (strongly k n t g found early strong inward).0

module _ (room : CopyLaws) (k : Kernel) (n : ℕ) (t : Transfer) (range : Range) (L : List InLoan) (g : IsGood k) (found : find (has_number n) k.transfers ≡ Some t) (class : class_of t.sem ≡ Copy) (inward : t.dir ≡ direction.Inward) (x : IsTarget k t range) (h : HasBuffer k n t L) where
  begins : begins_at t ≡ t.addr
  begins = ap (λ (b : Bool). unwrap_or (if b then Some t.addr else None) t.offset) (λ i. is_copy_input (class i) (inward i))

  first_is : range.off % k.config.page ≡ first_of t.loans
  first_is =
      let inside = written_inside k.config.page t.addr t.len (regions_of (entry k.spaces.processes x.pid)) x.region x.reached in
      let whole : (t.addr - x.region.start * k.config.page) + x.region.start * k.config.page ≡ t.addr = omega (arith, inside.low) in
      ap (λ z. z % k.config.page) x.place ∙ sym (add-mul-mod_self_right (t.addr - x.region.start * k.config.page) x.region.start k.config.page) ∙ ap (λ z. z % k.config.page) whole ∙ sym (h.first ∙ ap (λ z. z % k.config.page) begins)

  shown : (slots : ℕ → List ℕ) (j : ℕ) → j < length (frames_of t.loans) → (seen k.memory slots).kept_bytes (get_or (frames_of t.loans) j 0) ≡ bytes_at k.memory.frames (get_or (frames_of t.loans) j 0)
  shown slots j l =
      let f : ℕ = get_or (frames_of t.loans) j 0 in
      ap (λ (z : Owner). if is_kept z (counts_at k.memory.frames f) then bytes_at k.memory.frames f else []) (h.own.own j 0 l)

  -- the buffer's bytes are the input's
  pub payload_bytes : (slots : ℕ → List ℕ) → range_bytes k.memory.frames (frames_of t.loans) (range.off % k.memory.frames.page) range.len ≡ payload (seen k.memory slots).kept_bytes t
  payload_bytes slots =
      let bytes = shown_joined (seen k.memory slots).kept_bytes k.memory.frames (frames_of t.loans) (shown slots) in
      let first : range.off % k.memory.frames.page ≡ first_of t.loans = ap (λ z. range.off % z) g.sized.page ∙ first_is in
      (λ i. part (first i) (x.size i) (sym bytes i))
      ∙ sym (take_less t.stored t.len (drop (first_of t.loans) (flat_map (seen k.memory slots).kept_bytes (frames_of t.loans))) (stored_most k n t g found))

  -- it may be stored
  pub can_store : (few : ℕ) → CanStoreRange k.memory range.object.0 range.off range.len few → AreBelow (2 ^ 63 + 2 ^ 22) k.memory.frames.meters → is_strong_call t ≡ true → CanStoreBuffer k.memory range.object.0 range.off range.len few (input_frames L)
  can_store few can below strong =
      let page : k.memory.frames.page ≡ k.config.page = g.sized.page in
      let roomy = is_roomy room k n t range g found class inward x in
      let buffers = are_buffers k n t g found strong L h.is_loans h.is_frames h.own in
      let short : IsShort k.config.page t = all_has (IsShort k.config.page) k.transfers (room.short k g) t (find_has (has_number n) k.transfers t found).0 in
      let known = span_known room k n t range g found class inward x in
      let long : length (input_frames L) ≡ span k.config.page t.addr t.len = h.number ∙ ap (λ a. span k.config.page a t.len) begins in
      let touched = subst (λ a. span k.config.page a t.len ≤ 65) begins short.pages in
      let count : span k.config.page range.off range.len ≤ length (input_frames L) = subst (λ z. z ≤ length (input_frames L)) (λ i. span k.config.page (sym x.place i) (sym x.size i)) (omega (arith, known, long)) in
      let places = room.buffers k.memory (objects_of k.hidden) (input_frames L) (room.places k g) (λ j l. (buffers.each j l).own) buffers.apart in
      record {
        sound = g.sound;
        fits = roomy.fits;
        within = subst (λ z. range.off / z + span z range.off range.len ≤ length (object_at k.memory.objects range.object.0)) (sym page) roomy.within;
        number = subst (λ z. span z range.off range.len ≤ length (input_frames L)) (sym page) count;
        most = omega (arith, long, touched);
        can = can;
        buffers = buffers;
        room = omega (arith, places);
        meters = below;
      }
