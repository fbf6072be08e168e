-- The range of a move input on an outboard device, and that its bytes may be stored there.
use Rattle.std.proofs.Common.{◌≡◌, ◌≢◌, ℕ, ◌+◌, ◌*◌, ◌/◌, ◌^◌, ◌<◌, ◌≤◌, Bool, true, [], refl, sym, ap, subst, arith, length, ◌∙◌, ⊎_elim}
use Rattle.std.specs.Prelude.{Some, None, count_by, find, unwrap_or, if◌then◌else◌}
use Rattle.std.specs.Option.{option_map}
use Rattle.genie_base.specs.Counts.{cost, span}
use Rattle.genie_base.specs.Transfers.{class_of, is_strong}
use Rattle.genie_base.specs.declared.event.Event.TheVariants.{Finish}
use Rattle.genie_base.specs.declared.semantics.Class.TheVariants.{Move}
use Rattle.genie_base.specs.declared.semantics.Direction.TheVariants as direction
use Rattle.genie_finish.specs.Moves.{EmptyCanStore}
use Rattle.genie_frame.specs.FrameTable.{FrameTable, is_free}
use Rattle.genie_hiding.specs.Hidden.{objects_of}
use Rattle.genie_hiding.specs.Rooms.{available}
use Rattle.genie_object.specs.declared.memory.Memory.{Memory}
use Rattle.genie_object.specs.declared.objects.Range.{Range}
use Rattle.genie_object.specs.Costs.{AreBelow}
use Rattle.genie_object.specs.Leaving.{IsUnheld}
use Rattle.genie_object.specs.Objects.{object_at}
use Rattle.genie_object.specs.Pages.{is_there}
use Rattle.genie_object.specs.Lemmas.Works.{below_more}
use Rattle.genie_region.specs.declared.region.Region.{Region}
use Rattle.genie_space.specs.Translations.{IsBacked}
use Rattle.genie_store.specs.StoreView.{StoreView}
use Rattle.genie_model.specs.Lemmas.Lists.{Has, all_has, find_has, has_left, has_map}
use Rattle.genie_model.specs.Pending.{is_ready}
use Rattle.genie_model.specs.Refusing.{refuse}
use Rattle.genie_model.specs.Regions.{orphan_numbered, region_numbered}
use Rattle.genie_model.specs.State as flat
use Rattle.genie_orderly.specs.Lemmas.FoundRegions.{all_of, no_orphan_at}
use Rattle.genie_orderly.specs.Orderly.{IsPlaced, IsTransfer, Lies, LiesInOrphan, LiesInRegion}
use Rattle.genie_kernel.specs.declared.kernel.Kernel.{Kernel}
use Rattle.genie_kernel.specs.declared.transfer.Loans.{Loans}
use Rattle.genie_kernel.specs.declared.transfer.Loans.TheVariants.{Nothing}
use Rattle.genie_kernel.specs.declared.transfer.Transfer.{Transfer}
use Rattle.genie_kernel.specs.Asked.{cost_of}
use Rattle.genie_kernel.specs.Backed.{all_regions}
use Rattle.genie_kernel.specs.Calls.{addr_of, begins_at, has_number, is_copy_input}
use Rattle.genie_kernel.specs.Good.{IsGood}
use Rattle.genie_kernel.specs.Loans.{frames_of}
use Rattle.genie_kernel.specs.Regions.{has_id, owned_regions, region_view}
use Rattle.genie_kernel.specs.View.{no_bytes, outline}
use Rattle.genie_changes.specs.Making.{IsMoved}
use Rattle.genie_room.specs.Bounds.{IsShort}
use Rattle.genie_room.specs.Frames.{PendingAreAvailable, loan_count}
use Rattle.genie_arrivals.specs.declared.owned.OwnedRegion.{OwnedRegion}
use Rattle.genie_arrivals.specs.Blanks.{CanBlank}
use Rattle.genie_arrivals.specs.Clearing.{ClearsObject}
use Rattle.genie_arrivals.specs.CopyLaws.{CopyLaws}
use Rattle.genie_arrivals.specs.EndLaws.{EndLaws}
use Rattle.genie_arrivals.specs.Live.{ChangeLaws}
use Rattle.genie_arrivals.specs.Outboard.{IsLateOutboard, IsOutboardInput}
use Rattle.genie_arrivals.specs.OutboardMove.{CanFill}
use Rattle.genie_arrivals.specs.Pooled.{GoesTo, GoesToRegion}
use Rattle.genie_arrivals.proofs.Filled.{object_there}
use Rattle.genie_arrivals.proofs.Found.{found_case, is_over, seen_as}
use Rattle.genie_arrivals.proofs.Lively.{found_everywhere}
use Rattle.genie_arrivals.proofs.MoveLanded.{cleared_good}
use Rattle.genie_arrivals.proofs.Moving.{IsHad, is_had, region_in}
use Rattle.genie_arrivals.proofs.Owning.{has_owned}
use Rattle.genie_arrivals.proofs.Reaching.{most_page, some_page, span_within}
use Rattle.genie_arrivals.proofs.Readying.{span_less, stored_most}
use Rattle.genie_arrivals.proofs.Replying.{numbered_view, regions_seen}
use Rattle.genie_arrivals.proofs.Unheld.{region_unheld}

-- a move input that ends, and where its bytes go
pub record RegionAim (k : Kernel) (n : ℕ) (range : Range) : Type 0 where
  pub t : Transfer
  pub found : find (has_number n) k.transfers ≡ Some t
  pub ready : is_ready t.phase ≡ true
  pub inward : t.dir ≡ direction.Inward
  pub class_is : class_of t.sem ≡ Move
  pub to : GoesToRegion k t range

-- one on an outboard device
pub record MoveAim (k : Kernel) (n : ℕ) (range : Range) : Type 0 where
  pub t : Transfer
  pub found : find (has_number n) k.transfers ≡ Some t
  pub ready : is_ready t.phase ≡ true
  pub is : IsOutboardInput Move k.devices t
  pub to : GoesToRegion k t range

abbrev pub aim_region : (k : Kernel) (n : ℕ) (range : Range) → MoveAim k n range → RegionAim k n range
aim_region k n range a = record { t = a.t; found = a.found; ready = a.ready; inward = a.is.inward; class_is = a.is.class_is; to = a.to }

pub move_aim : (k : Kernel) (n : ℕ) (range : Range) → refuse (outline k) (Finish n) ≡ None → IsLateOutboard Move k n → GoesTo k n range → MoveAim k n range
move_aim k n range accepted case place =
    let o = is_over k n accepted in
    record { t = o.t; found = o.found; ready = o.ready; is = found_case (IsOutboardInput Move k.devices) k n o.t case o.found; to = found_case (λ u. GoesToRegion k u range) k n o.t place o.found }

-- it is the same once pages have moved
pub move_moved : (k new : Kernel) (n : ℕ) (range : Range) (v w : StoreView) → IsMoved k new v w → MoveAim k n range → MoveAim new n range
move_moved k new n range v w moved a = subst (λ (z : Kernel). MoveAim z n range) (sym moved.only) (record {
  t = a.t;
  found = a.found;
  ready = a.ready;
  is = record { inward = a.is.inward; class_is = a.is.class_is; outboard = a.is.outboard };
  to = record { owned = a.to.owned; named = a.to.named; object_is = a.to.object_is; place = a.to.place; size = a.to.size };
})

product : (a b : ℕ) → 0 < a → 0 < b → 0 < a * b
product a b l m = grind (arith, l, m)

module _ (k : Kernel) (n : ℕ) (range : Range) (g : IsGood k) (a : RegionAim k n range) where
  abbrev t : Transfer
  t = a.t

  abbrev r : Region
  r = a.to.owned.region

  abbrev page : ℕ
  page = k.config.page

  pub aim_had : IsHad k t a.to.owned
  aim_had = is_had k t a.to.owned a.to.named

  there : Has t k.transfers
  there = (find_has (has_number n) k.transfers t a.found).0

  pub region_owned : Has r (owned_regions k.spaces.processes)
  region_owned = has_owned r k.spaces.processes a.to.owned.pid aim_had.regions aim_had.there (find_has (has_id r.id.0) aim_had.regions r aim_had.found).0

  pub region_backed : length (object_at k.memory.objects r.object.0) ≡ r.pages
  region_backed = all_has (IsBacked k.memory.objects) (all_regions k.spaces.processes k.hidden) g.backed.each r (has_left r (owned_regions k.spaces.processes) _ region_owned)

  region_some : 0 < r.pages
  region_some = all_has (λ (x : Region). 0 < x.pages) (all_regions k.spaces.processes k.hidden) g.backed.some r (has_left r (owned_regions k.spaces.processes) _ region_owned)

  abbrev v : flat.Transfer
  v = seen_as k (no_bytes page) t

  view_has : Has v (outline k).transfers
  view_has = has_map (seen_as k (no_bytes page)) t k.transfers there

  -- its range begins at the start of its region
  at_start : t.offset ≡ 0
  at_start =
      let placed = (all_has IsTransfer (outline k).transfers g.orderly.calls v view_has).placed in
      let one : IsPlaced direction.Inward (class_of t.sem) (addr_of t) t.offset = subst (λ d. IsPlaced d (class_of t.sem) (addr_of t) t.offset) a.inward placed in
      let two : IsPlaced direction.Inward Move (addr_of t) t.offset = subst (λ c. IsPlaced direction.Inward c (addr_of t) t.offset) a.class_is one in
      two.1

  begins : begins_at t ≡ 0
  begins = ap (λ (b : Bool). unwrap_or (if b then Some t.addr else None) t.offset) (λ i. is_copy_input (a.class_is i) (a.inward i)) ∙ at_start

  pub aim_start : range.off ≡ 0
  aim_start = a.to.place ∙ at_start

  object : range.object.0 ≡ r.object.0
  object = (λ i. (a.to.object_is i).0)

  pub aim_there : object_at k.memory.objects range.object.0 ≢ []
  aim_there = object_there k.memory.objects range.object.0 r.pages (ap (λ z. length (object_at k.memory.objects z)) object ∙ region_backed) region_some

  pub aim_unheld : (i : ℕ) → IsUnheld k.memory range.object.0 i
  aim_unheld i = subst (λ z. IsUnheld k.memory z i) (sym object) (region_unheld k n t r g a.found (ap is_strong a.class_is) a.class_is aim_had.names region_owned i)

  module _ (laws : EndLaws) (change : ChangeLaws) (room : CopyLaws) where
    -- and ends in it
    inside : t.len ≤ r.pages * page
    inside =
        let s : flat.State = outline k in
        let e = (no_bytes page).seen.entry_bytes in
        let lies = all_has (λ (u : flat.Transfer). Lies s u u.region) s.transfers g.orderly.ranges v view_has in
        let at : Lies s v (Some r.id.0) = subst (Lies s v) aim_had.names lies in
        let numbered : region_numbered s r.id.0 ≡ Some (region_view e r) = numbered_view k (no_bytes page) r.id.0 ∙ ap (option_map (region_view e)) (found_everywhere change k (laws.settled k g) a.to.owned.pid aim_had.regions r aim_had.there aim_had.found) in
        let in_all : Has (region_view e r) (all_of s.processes) = subst (Has (region_view e r)) (sym (regions_seen e k.spaces.processes k.queues)) (has_map (region_view e) r (owned_regions k.spaces.processes) region_owned) in
        let none = no_orphan_at s g.orderly.numbers (region_view e r) in_all r.id.0 refl in
        let long = (region_in k a.to.owned.pid aim_had.regions r g aim_had.there (find_has (has_id r.id.0) aim_had.regions r aim_had.found).0).bytes in
        ⊎_elim
        (λ (x : LiesInRegion v (region_numbered s r.id.0)). let y : LiesInRegion v (Some (region_view e r)) = subst (LiesInRegion v) numbered x in omega (arith, y, long))
        (λ (x : LiesInOrphan v (orphan_numbered s r.id.0)). absurd (subst (LiesInOrphan v) none x))
        at

    short : IsShort page t
    short = all_has (IsShort page) k.transfers (room.short k g) t there

    pub aim_fits : range.off + range.len < 2 ^ 32
    aim_fits =
        let stored = stored_most k n t g a.found in
        let most = most_page k g in
        let bytes : 64 * page ≤ 64 * 4096 = grind (arith, most) in
        let len = short.len in
        let start = aim_start in
        omega (arith, stored, len, bytes, start, a.to.size)

    stored_within : 0 / page + span page 0 t.stored ≤ r.pages
    stored_within =
        let stored = stored_most k n t g a.found in
        let whole : 0 < page * r.pages = product page r.pages (some_page k g) region_some in
        let turned : page * r.pages ≡ r.pages * page = grind arith in
        span_within page 0 t.stored r.pages (some_page k g) whole (omega (arith, inside, stored, turned))

    pub aim_within : (p l : ℕ) → p ≡ page → l ≡ t.stored → 0 / p + span p 0 l ≤ r.pages
    aim_within p l is size = subst (λ z. 0 / z + span z 0 l ≤ r.pages) (sym is) (subst (λ z. 0 / page + span page 0 z ≤ r.pages) (sym size) stored_within)

    same_span : span page range.off range.len ≡ span page 0 t.stored
    same_span = (λ i. span page (aim_start i) (a.to.size i))

    less_pages : span page range.off range.len ≤ span page 0 t.len
    less_pages =
        let less = span_less page 0 t.stored t.len (some_page k g) (stored_most k n t g a.found) in
        let same = same_span in
        omega (arith, less, same)

    pub aim_most : span page range.off range.len ≤ 65
    aim_most =
        let touched : span page 0 t.len ≤ 65 = subst (λ z. span page z t.len ≤ 65) begins short.pages in
        let less = less_pages in
        omega (arith, less, touched)

    -- each page of the range can have a frame, where nothing is lent for it
    pub aim_frames : PendingAreAvailable → t.loans ≡ Nothing → span page range.off range.len ≤ available k.memory.frames
    aim_frames pending unlent =
        let free = all_has (λ (u : Transfer). cost_of k.config.page u + 4 ≤ available k.memory.frames + loan_count u) k.transfers (pending k g) t there in
        let none : loan_count t ≡ 0 = ap (λ (l : Loans). length (frames_of l)) unlent in
        let costs : cost_of k.config.page t ≡ span k.config.page 0 t.len = (λ i. cost (a.class_is i) (a.inward i) (span k.config.page (begins i) t.len)) in
        let less = less_pages in
        omega (arith, free, none, costs, less)

    -- there is room for as many pages more as frames were free, once the object was emptied
    pub aim_room : (m : Memory) → ClearsObject k.memory m range.object.0 → count_by is_there m.pages.pages + count_by is_free k.memory.frames.owners ≤ m.pages.most
    aim_room m c =
        let good : IsGood (record k { memory = m }) = cleared_good k r g region_owned m (subst (ClearsObject k.memory m) object c) in
        let places = room.buffers m (objects_of k.hidden) [] (room.places (record k { memory = m }) good) (λ j l. absurd (omega (arith, l))) (λ f. omega arith) in
        omega (arith, places, c.free)

    pub aim_size : (m : Memory) → ClearsObject k.memory m range.object.0 → length (object_at m.objects range.object.0) ≡ r.pages
    aim_size m c = c.keeps.entries range.object.0 ∙ ap (λ z. length (object_at k.memory.objects z)) object ∙ region_backed

    -- and its bytes may be stored in the emptied object
    pub aim_can : EmptyCanStore → span page range.off range.len ≤ count_by is_free k.memory.frames.owners → AreBelow (2 ^ 63 + 2 ^ 20) k.memory.frames.meters → CanFill k.memory range
    aim_can can_empty free below m c =
        let same : m.frames.page ≡ page = c.keeps.page ∙ g.sized.page in
        let within : range.off / m.frames.page + span m.frames.page range.off range.len ≤ r.pages = subst (λ z. z / m.frames.page + span m.frames.page z range.len ≤ r.pages) (sym aim_start) (aim_within m.frames.page range.len same a.to.size) in
        let pages : span m.frames.page range.off range.len ≡ span page range.off range.len = ap (λ z. span z range.off range.len) same in
        let meters : AreBelow (2 ^ 63 + 2 ^ 20) m.frames.meters = subst (AreBelow (2 ^ 63 + 2 ^ 20)) (sym (ap (λ (z : FrameTable). z.meters) c.empties.frames)) below in
        let places = aim_room m c in
        let most = aim_most in
        record {
          sound = c.empties.sound;
          fits = aim_fits;
          within = subst (λ z. range.off / m.frames.page + span m.frames.page range.off range.len ≤ z) (sym (aim_size m c)) within;
          most = omega (arith, pages, most);
          free = omega (arith, pages, free, c.free);
          can = can_empty m range.object.0 range.off range.len c.empties.sound c.empty;
          room = omega (arith, pages, free, places);
          meters = below_more (2 ^ 63 + 2 ^ 20) (2 ^ 63 + 2 ^ 22) m.frames.meters (omega arith) meters;
          taken = omega (arith, meters.taken);
        }

    -- or each page that they touch may get a page of zeros there
    pub aim_blank : span page range.off range.len ≤ count_by is_free k.memory.frames.owners → AreBelow (2 ^ 63 + 2 ^ 20) k.memory.frames.meters → (m : Memory) → ClearsObject k.memory m range.object.0 → CanBlank m range.object.0 (span page range.off range.len)
    aim_blank free below m c =
        let within = stored_within in
        let same = same_span in
        let size = aim_size m c in
        let places = aim_room m c in
        let meters : AreBelow (2 ^ 63 + 2 ^ 20) m.frames.meters = subst (AreBelow (2 ^ 63 + 2 ^ 20)) (sym (ap (λ (z : FrameTable). z.meters) c.empties.frames)) below in
        record {
          sound = c.empties.sound;
          within = omega (arith, within, same, size);
          most = aim_most;
          free = omega (arith, free, c.free);
          room = omega (arith, free, places);
          meters = below_more (2 ^ 63 + 2 ^ 20) (2 ^ 63 + 2 ^ 22) m.frames.meters (omega arith) meters;
        }

    -- and any process's region that it names is this one
    pub aim_same : (o : OwnedRegion) → IsHad k t o → r ≡ o.region
    aim_same o had =
        let settled = laws.settled k g in
        let number : o.region.id.0 ≡ r.id.0 = (let both : Some o.region.id.0 ≡ Some r.id.0 = sym had.names ∙ aim_had.names in cc) in
        let here = found_everywhere change k settled o.pid had.regions o.region had.there had.found in
        let there = found_everywhere change k settled a.to.owned.pid aim_had.regions r aim_had.there aim_had.found in
        let found : Some r ≡ Some o.region = sym there ∙ sym (ap (λ j. find (has_id j) (owned_regions k.spaces.processes)) number) ∙ here in
        cc
