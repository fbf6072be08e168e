-- An input into a new region, which is held until its data has come.
use Rattle.std.proofs.Common.{◌≡◌, ℕ, ◌*◌, ◌<◌, ◌≤◌, true, false, not, List, [], ◌∷◌, ◌++◌, refl, sym, ap, subst, arith, ◌∙◌, length, replicate, get_or}
use Rattle.std.specs.Prelude.{Option, Some, None, All, IsTrue, count_by, is_some, unwrap_or, ◌&&◌, ◌||◌, if◌then◌else◌}
use Rattle.std.specs.List.{list_any}
use Rattle.genie_base.specs.Counts.{span}
use Rattle.genie_base.specs.Events.{is_whole, has_one}
use Rattle.genie_base.specs.Posted.{Address}
use Rattle.genie_base.specs.Transfers.{class_of, is_strong, is_system}
use Rattle.genie_base.specs.declared.event.Event.{Event}
use Rattle.genie_base.specs.declared.numbers.ObjectId.{ObjectId}
use Rattle.genie_base.specs.declared.region.Area.TheVariants.{Sys}
use Rattle.genie_base.specs.declared.region.RegionState.{RegionState}
use Rattle.genie_base.specs.declared.region.RegionState.TheVariants.{Held}
use Rattle.genie_base.specs.declared.reply.Mark.TheVariants.{NoFault}
use Rattle.genie_base.specs.declared.reply.Note.TheVariants.{Whole}
use Rattle.genie_base.specs.declared.reply.Reply.TheVariants as reply
use Rattle.genie_base.specs.declared.semantics.Class.{Class}
use Rattle.genie_base.specs.declared.semantics.Class.TheVariants.{Move}
use Rattle.genie_base.specs.declared.semantics.Direction.TheVariants.{Inward}
use Rattle.genie_hiding.specs.declared.hidden.Hidden.{Hidden}
use Rattle.genie_hiding.specs.Rooms.{available}
use Rattle.genie_store.specs.StoreView.{StoreView}
use Rattle.genie_object.specs.declared.memory.Memory.{Memory}
use Rattle.genie_object.specs.Memory.{Seen, seen}
use Rattle.genie_object.specs.declared.objects.Entry.{Entry}
use Rattle.genie_object.specs.Objects.{object_at, is_absent}
use Rattle.genie_object.specs.Sound.{IsSound, IsSized}
use Rattle.genie_base.specs.Regions.{is_free}
use Rattle.genie_demux.specs.declared.input.Input as demux
use Rattle.genie_region.specs.declared.region.Region.{Region}
use Rattle.genie_region.specs.Layouts.{extent, region_of}
use Rattle.genie_space.specs.Spaces as spaces
use Rattle.genie_model.specs.declared.phase.Phase.TheVariants.{Posted}
use Rattle.genie_model.specs.Inputs.{input, input_of, pages_for}
use Rattle.genie_model.specs.Lemmas.Lists.{any_append}
use Rattle.genie_model.specs.Pending.{add_transfer}
use Rattle.genie_model.specs.Refusing.{must_make, refuse}
use Rattle.genie_model.specs.Regions.{fresh, place_of}
use Rattle.genie_model.specs.Space.{add_region, tidy, zeros}
use Rattle.genie_model.specs.State as flat
use Rattle.genie_model.specs.Step.{Outcome, marked, tidied}
use Rattle.genie_model.specs.Tables.{entry}
use Rattle.genie_kernel.specs.declared.kernel.Kernel.{Kernel}
use Rattle.genie_kernel.specs.declared.transfer.Loans.{Loans}
use Rattle.genie_kernel.specs.declared.transfer.Transfer.{Transfer}
use Rattle.genie_kernel.specs.Calls.{begins_at, is_copy_input, is_named, is_strong_call, names_weakly}
use Rattle.genie_kernel.specs.Good.{IsGood}
use Rattle.genie_kernel.specs.Kept.{Kept}
use Rattle.genie_kernel.specs.Orphans.{is_owned}
use Rattle.genie_kernel.specs.Regions.{object_bytes, owned_regions, region_view}
use Rattle.genie_kernel.specs.Steps.{Steps, bytes_over}
use Rattle.genie_kernel.specs.View.{Bytes, state_of, outline, no_bytes}
use Rattle.genie_kernel.specs.Lemmas.Asking.{ask_place}
use Rattle.genie_kernel.specs.Lemmas.Fresh.{fresh_unnamed, fresh_view}
use Rattle.genie_changes.specs.Beginning.{Begins, HasParts, IsNew, with_call}
use Rattle.genie_changes.specs.Making.{with_memory}
use Rattle.genie_changes.specs.Regions.{KeepsBytes, with_added}
use Rattle.genie_changes.specs.States.{begun}
use Rattle.genie_room.specs.Frames.{CallsCanBegin}
use Rattle.genie_room.specs.Places.{ObjectsSuffice}
use Rattle.genie_spaces.specs.Clearing.{Adds, Clears, HasRoom}
use Rattle.genie_spaces.specs.RegionLaws.{RegionLaws}
use Rattle.genie_spaces.specs.Lemmas.Making.{absent_bytes, made, seen_made, zero_bytes}
use Rattle.genie_inputs.specs.declared.call.Call.{Call}
use Rattle.genie_inputs.specs.declared.place.Placement.{Placement}
use Rattle.genie_inputs.specs.Buffers.{LendsStrong}
use Rattle.genie_inputs.specs.Calls.{input_event, transfer_of}
use Rattle.genie_inputs.specs.InputLaws.{InputLaws}
use Rattle.genie_inputs.specs.Placing.{IsPlace, new_region}
use Rattle.genie_inputs.specs.Posting.{CanPost, IsAnswered, with_input}
use Rattle.genie_inputs.specs.Ready.{IsReady}
use Rattle.genie_inputs.proofs.Accepted.{can_post, has_room, may_input}
use Rattle.genie_inputs.proofs.Answered.{ShowsLent, call_answers, same_needed}
use Rattle.genie_inputs.proofs.Buffered.{buffer_begins, buffer_shows}
use Rattle.genie_inputs.proofs.Copying.{strong_names}
use Rattle.genie_inputs.proofs.Enlarged.{enlarged_parts}
use Rattle.genie_inputs.proofs.Placing.{may_place, object_room, place_free, place_new}
use Rattle.genie_inputs.proofs.Readied.{ready_cleared, ready_on}

pub some_is : (o : Option (List Region)) → is_some o ≡ true → o ≡ Some (unwrap_or o [])
some_is None e = absurd (cc)
some_is (Some rs) e = refl

-- the event makes a region of zeros in this state, and posts the transfer
abbrev pub OnlyMakes : Kernel → Call → Placement → RegionState → Transfer → Event → Type 0
OnlyMakes k c at state t e = (b : Bytes) (s : ℕ → List ℕ) → marked (state_of k b) e NoFault ≡ (tidy (add_transfer (add_region (state_of k b) c.pid (zeros (state_of k b) Sys state at.start at.pages)) (begun s t)), reply.Id k.next)

-- the state with the region and the transfer
module _ (laws : InputLaws) (rl : RegionLaws) (k : Kernel) (m : Memory) (c : Call) (at : Placement) (state : RegionState) (o : ObjectId) (t : Transfer) (rs : List Region) (e : Event) (good : IsGood k) (is_new : IsNew k t) (there : entry k.spaces.processes c.pid ≡ Some rs) (number : at.id.0 ≡ fresh (outline k))
    (named : (n : ℕ) → names_weakly n t ≡ true → is_owned (owned_regions (spaces.set_regions k.spaces c.pid (with_added (new_region at state o) rs)).processes) n ≡ true)
    (makes : OnlyMakes k c at state t e)
  where
    abbrev r : Region
    r = new_region at state o

    abbrev new_spaces : spaces.AddressSpaces
    new_spaces = spaces.set_regions k.spaces c.pid (with_added r rs)

    abbrev wider : Kernel
    wider = record k { memory = m; spaces = new_spaces }

    abbrev after : Kernel
    after = record (with_call k m t) { spaces = new_spaces }

    unnamed : list_any (names_weakly at.id.0) k.transfers ≡ false
    unnamed = subst (λ n. list_any (names_weakly n) k.transfers ≡ false) (sym number) (fresh_unnamed k good.orderly)

    zeros_view : (old b : Bytes) → ((i : ℕ) → b.seen.entry_bytes o.0 i ≡ replicate k.config.page 0) → region_view b.seen.entry_bytes r ≡ zeros (state_of k old) Sys state at.start at.pages
    zeros_view old b blank =
        let is : at.id.0 ≡ fresh (state_of k old) = number ∙ sym (fresh_view k old) in
        let bytes : object_bytes b.seen.entry_bytes o.0 at.pages ≡ replicate (at.pages * k.config.page) 0 = zero_bytes b.seen.entry_bytes k.config.page o.0 0 at.pages blank in
        λ i. record { number = is i; start = at.start; pages = at.pages; area = Sys; state = state; writable = true; bytes = bytes i }

    pub made_steps : (old b : Bytes) → KeepsBytes k old b → ((i : ℕ) → b.seen.entry_bytes o.0 i ≡ replicate k.config.page 0) → Steps (state_of k old) e (state_of after b) (reply.Id k.next)
    made_steps old b keeps blank =
        let region : state_of wider b ≡ add_region (state_of k old) c.pid (zeros (state_of k old) Sys state at.start at.pages) = rl.added k m new_spaces old b c.pid r rs there refl unnamed keeps ∙ ap (add_region (state_of k old) c.pid) (zeros_view old b blank) in
        let call : state_of after b ≡ add_transfer (state_of wider b) (begun b.seen.kept_bytes t) = laws.added wider m t after.posted b b (laws.waits k t good is_new) named refl refl refl (same_needed wider b.seen.kept_bytes) in
        record {
          state = sym (laws.tidied after b) ∙ ap tidy (call ∙ ap (λ (z : flat.State). add_transfer z (begun b.seen.kept_bytes t)) region) ∙ sym (ap (λ (z : Outcome). z.0) (makes old b.seen.kept_bytes));
          reply_is = sym (ap (λ (z : Outcome). z.1) (makes old b.seen.kept_bytes));
        }

keeps_itself : (k : Kernel) (b : Bytes) → KeepsBytes k b b
keeps_itself k b = record { rests = refl; sents = refl; entries = λ i d l j. refl; frames = same_needed k b.seen.kept_bytes }

-- a new object shows zeros, and nothing else is seen to change
pub made_keeps : (k : Kernel) (from m : Memory) (o n : ℕ) (slots rests sents : ℕ → List ℕ) → object_at m.objects o ≡ [] → ShowsLent k from m slots → KeepsBytes k (bytes_over from slots rests sents) (bytes_over (made m o n) slots rests sents)
made_keeps k from m o n slots rests sents absent x = subst (λ (s : Seen). KeepsBytes k (bytes_over from slots rests sents) (record { seen = s; rests = rests; sents = sents })) (sym (seen_made m o n absent slots))
    (record { rests = refl; sents = refl; entries = λ i d l j. ap (λ (s : ℕ → ℕ → List ℕ). s (get_or (owned_regions k.spaces.processes) i d).object.0 j) x.entries; frames = x.needed })

pub made_blank : (m : Memory) (page o n : ℕ) (slots : ℕ → List ℕ) → object_at m.objects o ≡ [] → m.frames.page ≡ page → (i : ℕ) → (seen (made m o n) slots).entry_bytes o i ≡ replicate page 0
made_blank m page o n slots absent same i = ap (λ (s : Seen). s.entry_bytes o i) (seen_made m o n absent slots) ∙ absent_bytes m o slots absent i ∙ ap (λ p. replicate p 0) same

hold_makes : (k : Kernel) (c : Call) (at : Placement) (loans : Loans) → class_of c.sem ≡ Move → IsPlace k c at → OnlyMakes k c at Held (transfer_of c (record { 0 = k.next }) 0 (Some at.id) 0 loans) (input_event c None)
hold_makes k c at loans is x b s =
    let st : flat.State = state_of k b in
    let to : Address = record { device = c.dev; port = c.port; flow = c.flow } in
    let pages : pages_for st c.len ≡ at.pages = sym x.pages in
    let start : unwrap_or (place_of st c.pid (pages_for st c.len)) 0 ≡ at.start = ap (λ n. unwrap_or (place_of st c.pid n) 0) pages ∙ ap (λ (q : Option ℕ). unwrap_or q 0) (ask_place k b c.pid at.pages ∙ x.lowest) in
    let number : fresh st ≡ at.id.0 = fresh_view k b ∙ sym x.number in
    subst
    (λ (class : Class). ◌≡◌ {A = Outcome} (tidied (input st c.pid class to None c.len)) (
      tidy (add_transfer (add_region st c.pid (zeros st Sys Held at.start at.pages)) (record {
        number = k.next;
        owner = Some c.pid;
        direction = Inward;
        class = class;
        device = c.dev;
        port = c.port;
        flow = c.flow;
        addr = if is_copy_input class Inward then Some 0 else None;
        region = Some at.id.0;
        offset = 0;
        len = c.len;
        phase = Posted;
        payload = [];
        staged = 0;
        moved = 0;
        stored = 0;
        note = Whole;
      })),
      reply.Id k.next,
    ))
    (sym is)
    (λ i. (tidy (add_transfer (add_region st c.pid (zeros st Sys Held (start i) (pages i))) (input_of st c.pid Move to c.len None (Some (number i)) 0)), reply.Id k.next))

hold_whole : (c : Call) → class_of c.sem ≡ Move → IsTrue (is_whole (input_event c None))
hold_whole c is = subst (λ (class : Class). IsTrue (has_one (is_system class) false)) (sym is) refl

hold_begins : (c : Call) (at : Placement) (n : ℕ) (loans : Loans) → class_of c.sem ≡ Move → begins_at (transfer_of c (record { 0 = n }) 0 (Some at.id) 0 loans) ≡ 0
hold_begins c at n loans is = ap (λ (class : Class). unwrap_or (if is_copy_input class Inward then Some 0 else None) 0) is

pub made_by_move : (k : Kernel) (c : Call) → class_of c.sem ≡ Move → must_make (outline k) c.pid (class_of c.sem) c.len ≡ true
made_by_move k c is = ap (λ (class : Class). must_make (outline k) c.pid class c.len) is

-- over a kernel whose hidden regions leave room for the new one
module _ (laws : InputLaws) (rl : RegionLaws) (old md pl : Kernel) (cm : Memory) (hid : List Hidden) (c : Call) (at : Placement) (loans : Loans) (o : ObjectId) (v w : StoreView) (good : IsGood old) (sized : IsSized old.memory v) (is : class_of c.sem ≡ Move) (accepted : refuse (outline old) (input_event c None) ≡ None) (place : IsPlace old c at)
    (clears : Clears old (record old { memory = cm; hidden = hid })) (room : HasRoom c.pid (record old { memory = cm; hidden = hid }))
    (lends : LendsStrong (record old { memory = cm; hidden = hid }) md v w old.next c.dev 0 c.len loans) (adds : Adds c.pid (new_region at Held o) md pl)
  where
    abbrev t : Transfer
    t = transfer_of c (record { 0 = old.next }) 0 (Some at.id) 0 loans

    abbrev q : Region
    q = new_region at Held o

    abbrev k : Kernel
    k = record old { memory = lends.mid; hidden = hid; clock = lends.clock }

    abbrev m : Memory
    m = md.memory

    abbrev rows : List Region
    rows = unwrap_or (entry old.spaces.processes c.pid) []

    abbrev fuller : spaces.AddressSpaces
    fuller = spaces.set_regions old.spaces c.pid (with_added q rows)

    abbrev held : Kernel
    held = record (with_call k (made m o.0 at.pages) t) { spaces = fuller }

    placed_is : pl ≡ record old { memory = made m o.0 at.pages; hidden = hid; clock = lends.clock; spaces = fuller }
    placed_is = adds.added ∙ ap (λ (z : Kernel). record z { memory = made m o.0 at.pages; spaces = spaces.set_regions z.spaces c.pid (with_added q (spaces.regions_of c.pid z.spaces)) }) lends.only

    memory_is : pl.memory ≡ made m o.0 at.pages
    memory_is = ap (λ (z : Kernel). z.memory) placed_is

    strong : is_strong_call t ≡ true
    strong = ap is_strong is

    unnamed_with : list_any (names_weakly at.id.0) (old.transfers ++ t ∷ []) ≡ false
    unnamed_with =
        let before : list_any (names_weakly at.id.0) old.transfers ≡ false = subst (λ n. list_any (names_weakly n) old.transfers ≡ false) (sym place.number) (fresh_unnamed old good.orderly) in
        let last : names_weakly at.id.0 t ≡ false = ap (λ s. not s && is_named t.region at.id.0) strong in
        any_append (names_weakly at.id.0) old.transfers (t ∷ []) ∙ (λ i. before i || (last i || false))

    begins : Begins k m t
    begins = buffer_begins k m t 0 lends.moved.good refl strong (hold_begins c at old.next loans is) lends.buffer (may_input old c None good accepted).device

    shows : (slots : ℕ → List ℕ) → ShowsLent k k.memory m slots
    shows = buffer_shows k m t 0 lends.moved.good refl strong (hold_begins c at old.next loans is) lends.buffer

    new_one : IsNew k t
    new_one = record { number = refl; phase = refl; unstored = refl; unbuffered = refl }

    there : entry old.spaces.processes c.pid ≡ Some rows
    there = some_is (entry old.spaces.processes c.pid) (may_input old c None good accepted).alive

    some_pages : 0 < at.pages
    some_pages = let may = may_place old c good accepted (made_by_move old c is) in let some = may.some in omega (arith, some, place.pages)

    parts : HasParts held
    parts = enlarged_parts rl (with_call k m t) c.pid q rows (laws.parts k m t lends.moved.good new_one begins) there unnamed_with room some_pages refl adds.absent
        (sym (ap (λ (z : Memory). length (object_at z.objects o.0)) memory_is) ∙ adds.size) (subst IsSound memory_is adds.sound)

    kept : Kept k held
    kept = let x = laws.kept k m t lends.moved.good begins in record { lent = λ n f a b s. x.lent n f a b (record { was = s.was; is = s.is }); pooled = x.pooled; fresh = λ n f a b s. x.fresh n f a b (record { was = s.was; is = s.is }) }

    step : (a b : Bytes) → KeepsBytes k a b → ((i : ℕ) → b.seen.entry_bytes o.0 i ≡ replicate k.config.page 0) → Steps (state_of k a) (input_event c None) (state_of held b) (reply.Id k.next)
    step = made_steps laws rl k (made m o.0 at.pages) c at Held o t rows (input_event c None) lends.moved.good new_one there place.number (λ n e. absurd (strong_names n t strong e)) (hold_makes k c at loans is (record { number = place.number; pages = place.pages; lowest = place.lowest }))

    ready : IsReady old k v w
    ready = ready_on old (record old { memory = cm; hidden = hid }) k v v w (ready_cleared old (record old { memory = cm; hidden = hid }) v good sized clears) lends.moved

    pub hold_core : IsAnswered old held v w (input_event c None) (reply.Id old.next)
    hold_core =
        let blind = no_bytes old.config.page in
        call_answers laws old k held k.memory (input_event c None) v w w (hold_whole c is) accepted ready (λ host. refl) parts refl refl kept
        (record { count = lends.moved.sized.count ∙ sym (ap length lends.buffer.slots); page = lends.moved.sized.page ∙ sym lends.buffer.fresh.page })
        (step blind blind (keeps_itself k blind) (λ i. refl))
        (λ slots rests sents. step (bytes_over k.memory slots rests sents) (bytes_over (made m o.0 at.pages) slots rests sents)
        (made_keeps k k.memory m o.0 at.pages slots rests sents adds.absent (shows slots))
        (made_blank m k.config.page o.0 at.pages slots adds.absent (lends.buffer.fresh.page ∙ lends.moved.good.sized.page)))

    pub hold_placed : pl ≡ record old { memory = made m o.0 at.pages; hidden = hid; clock = lends.clock; spaces = fuller }
    hold_placed = placed_is

pub hold_answers : InputLaws → RegionLaws → (old cl md pl new : Kernel) (c : Call) (at : Placement) (loans : Loans) (o : ObjectId) (v w : StoreView) → IsGood old → IsSized old.memory v → class_of c.sem ≡ Move → refuse (outline old) (input_event c None) ≡ None → IsPlace old c at → Clears old cl → HasRoom c.pid cl → LendsStrong cl md v w old.next c.dev 0 c.len loans → Adds c.pid (new_region at Held o) md pl → new ≡ with_input pl (transfer_of c (record { 0 = old.next }) 0 (Some at.id) 0 loans)
    → IsAnswered old new v w (input_event c None) (reply.Id old.next)
hold_answers laws rl old cl md pl new c at loans o v w good sized is accepted place clears room lends adds posts =
    let a = subst (Clears old) clears.only clears in
    let b = subst (HasRoom c.pid) clears.only room in
    let x = subst (λ (z : Kernel). LendsStrong z md v w old.next c.dev 0 c.len loans) clears.only lends in
    let t : Transfer = transfer_of c (record { 0 = old.next }) 0 (Some at.id) 0 loans in
    subst (λ (z : Kernel). IsAnswered old z v w (input_event c None) (reply.Id old.next))
    (sym (posts ∙ ap (λ (z : Kernel). with_input z t) (hold_placed laws rl old md pl cl.memory cl.hidden c at loans o v w good sized is accepted place a b x adds)))
    (hold_core laws rl old md pl cl.memory cl.hidden c at loans o v w good sized is accepted place a b x adds)

-- there is room for the buffer
pub clear_accepted : (old cl : Kernel) (e : Event) → Clears old cl → refuse (outline old) e ≡ None → refuse (outline cl) e ≡ None
clear_accepted old cl e clears accepted = ap (λ (z : Kernel). refuse (outline z) e) clears.only ∙ accepted

pub hold_room : CallsCanBegin → (old cl : Kernel) (c : Call) → Clears old cl → class_of c.sem ≡ Move → refuse (outline old) (input_event c None) ≡ None → (span cl.config.page 0 c.len ≤ 65) × (span cl.config.page 0 c.len ≤ available cl.memory.frames)
hold_room law old cl c clears is accepted = let room = has_room law cl c None Move clears.good is refl (clear_accepted old cl (input_event c None) clears accepted) in let cost = room.cost in (room.pages, omega (arith, cost))

-- and for the region
pub record MayAdd (k : Kernel) (p : ℕ) (at : Placement) : Type 0 where
  pub alive : spaces.is_alive p k.spaces ≡ true
  pub room : count_by (λ o. not (is_absent o)) k.memory.objects < 512
  pub some : 1 ≤ at.pages
  pub most : at.pages ≤ 64
  pub few : length (spaces.regions_of p k.spaces) < 32
  pub free : is_free extent at.start at.pages (spaces.regions_of p k.spaces) ≡ true
  pub new : region_of at.id (spaces.regions_of p k.spaces) ≡ None

-- over a kernel with the same regions, and a memory with the same objects
pub may_add : ObjectsSuffice → (old k : Kernel) (m : Memory) (c : Call) (at : Placement) → IsGood old → IsGood k → refuse (outline old) (input_event c None) ≡ None → must_make (outline old) c.pid (class_of c.sem) c.len ≡ true → IsPlace old c at → k.spaces ≡ old.spaces → HasRoom c.pid k → m.objects ≡ k.memory.objects → MayAdd (record k { memory = m }) c.pid at
may_add law old k m c at good good_k accepted made place same room objects =
    let may = may_place old c good accepted made in
    let alive : spaces.is_alive c.pid k.spaces ≡ true = subst (λ (s : spaces.AddressSpaces). spaces.is_alive c.pid s ≡ true) (sym same) (may_input old c None good accepted).alive in
    record {
      alive = alive;
      room = subst (λ (es : List (List Entry)). count_by (λ o. not (is_absent o)) es < 512) (sym objects) (object_room law k c.pid good_k alive room);
      some = let some = may.some in omega (arith, some, place.pages);
      most = let most = may.most in omega (arith, most, place.pages);
      few = subst (λ (s : spaces.AddressSpaces). length (spaces.regions_of c.pid s) < 32) (sym same) may.few;
      free = subst (λ (s : spaces.AddressSpaces). is_free extent at.start at.pages (spaces.regions_of c.pid s) ≡ true) (sym same) (place_free old c at place);
      new = subst (λ (s : spaces.AddressSpaces). region_of at.id (spaces.regions_of c.pid s) ≡ None) (sym same) (place_new old c at good place);
    }

pub hold_may_add : ObjectsSuffice → (old cl md : Kernel) (c : Call) (at : Placement) (loans : Loans) (v w : StoreView) → IsGood old → class_of c.sem ≡ Move → refuse (outline old) (input_event c None) ≡ None → IsPlace old c at → Clears old cl → HasRoom c.pid cl → LendsStrong cl md v w old.next c.dev 0 c.len loans → MayAdd md c.pid at
hold_may_add law old cl md c at loans v w good is accepted place clears room lends =
    subst (λ (z : Kernel). MayAdd z c.pid at) (sym lends.only)
    (may_add law old (with_memory cl lends.mid lends.clock) md.memory c at good lends.moved.good accepted (made_by_move old c is) place (ap (λ (z : Kernel). z.spaces) clears.only) room lends.buffer.objects)

-- and for the transfer
pub can_post_same : (k z : Kernel) (n : ℕ) → z.transfers ≡ k.transfers → z.posted ≡ k.posted → CanPost k n → CanPost z n
can_post_same k z n transfers posted can = record {
  few = let few = can.few in omega (arith, few, ap length transfers);
  room = let room = can.room in omega (arith, room, ap length posted);
  last = subst (λ (l : List demux.Input). All (λ (p : demux.Input). p.id < n) l) (sym posted) can.last;
}

pub hold_can_post : InputLaws → (old cl md pl : Kernel) (c : Call) (q : Region) (loans : Loans) (v w : StoreView) → IsGood old → refuse (outline old) (input_event c None) ≡ None → Clears old cl → LendsStrong cl md v w old.next c.dev 0 c.len loans → Adds c.pid q md pl → (t : Transfer) → t.id.0 ≡ old.next → CanPost pl t.id.0
hold_can_post laws old cl md pl c q loans v w good accepted clears lends adds t is =
    let transfers = ap (λ (z : Kernel). z.transfers) adds.added ∙ ap (λ (z : Kernel). z.transfers) lends.only ∙ ap (λ (z : Kernel). z.transfers) clears.only in
    let posted = ap (λ (z : Kernel). z.posted) adds.added ∙ ap (λ (z : Kernel). z.posted) lends.only ∙ ap (λ (z : Kernel). z.posted) clears.only in
    subst (CanPost pl) (sym is) (can_post_same old pl old.next transfers posted (can_post laws.rise old good (may_input old c None good accepted).few))
