-- What a weak input's bytes leave once they have landed in the region that it names.
use Rattle.std.proofs.Common.{◌≡◌, ◌≢◌, ℕ, ◌+◌, ◌-◌, ◌*◌, ◌/◌, ◌%◌, ◌<◌, ◌≤◌, zero, suc, Bool, true, false, List, [], ◌∷◌, refl, sym, ap, subst, arith, rules, ◌∙◌, ⊎_elim, ◌⊎◌, inl, inr, length, take, get_or, eq-eqb}
use Rattle.std.specs.Prelude.{Option, Some, None, find, nat_lt, unwrap_or, ◌==◌, ◌&&◌, not, if◌then◌else◌}
use Rattle.std.proofs.Math.Nat.{div-add-mod}
use Rattle.std.proofs.lemmas.List.{take_all}
use Rattle.genie_base.specs.Bytes.{overlaid}
use Rattle.genie_base.specs.Counts.{span}
use Rattle.genie_base.specs.Lemmas.Overlaid.{overlaid-nothing}
use Rattle.genie_base.specs.Transfers.{class_of, is_strong}
use Rattle.genie_base.specs.declared.semantics.Class.{Class}
use Rattle.genie_base.specs.declared.semantics.Class.TheVariants.{Copy, Share, Move, WeakMove}
use Rattle.genie_base.specs.declared.semantics.Direction.{Direction}
use Rattle.genie_base.specs.declared.semantics.Direction.TheVariants as direction
use Rattle.genie_frame.specs.declared.frame.Counts.{Counts}
use Rattle.genie_frame.specs.declared.frame.Owner.{Owner}
use Rattle.genie_frame.specs.declared.frame.Owner.TheVariants.{Free, Page}
use Rattle.genie_frame.specs.FrameTable.{FrameTable, bytes_at, counts_at, is_held, is_system, no_counts, owner_at}
use Rattle.genie_hiding.specs.Hidden.{objects_of}
use Rattle.genie_object.specs.declared.memory.Memory.{Memory}
use Rattle.genie_object.specs.Memory.{entry_frame, is_kept, seen}
use Rattle.genie_object.specs.Sound.{FitsHidden, IsSound}
use Rattle.genie_plan.specs.declared.plan.InPlan.{InPlan}
use Rattle.genie_plan.specs.Landings.{AreOfEntries, Lands}
use Rattle.genie_plan.specs.Plans.{CanLand, OnlyRange, input_frames, times}
use Rattle.genie_plan.specs.Lemmas.Landings.{entry_kept, frame_kept, held_once, in_region, lands_soundly, page_in, times_some}
use Rattle.genie_region.specs.declared.region.Region.{Region}
use Rattle.genie_model.specs.Lemmas.Lists.{Has, all_has, find_has}
use Rattle.genie_model.specs.Pending.{is_just}
use Rattle.genie_model.specs.Regions.{put}
use Rattle.genie_model.specs.Tables.{entry}
use Rattle.genie_kernel.specs.declared.kernel.Kernel.{Kernel}
use Rattle.genie_kernel.specs.declared.transfer.Loans.{Loans}
use Rattle.genie_kernel.specs.declared.transfer.Loans.TheVariants as loans
use Rattle.genie_kernel.specs.declared.transfer.Transfer.{Transfer}
use Rattle.genie_kernel.specs.Calls.{begins_at, has_number, is_copy_input, is_named, is_strong_call, names_weakly, region_number}
use Rattle.genie_kernel.specs.Good.{IsGood}
use Rattle.genie_kernel.specs.Held.{AreHeldPages, IsInFrame, region_named}
use Rattle.genie_kernel.specs.Loans.{frames_of}
use Rattle.genie_kernel.specs.Regions.{has_id, object_bytes, owned_regions}
use Rattle.genie_kernel.specs.Steps.{bytes_over}
use Rattle.genie_kernel.specs.Transfers.{is_outboard_device}
use Rattle.genie_kernel.specs.View.{state_of}
use Rattle.genie_changes.specs.Settled.{IsSettled}
use Rattle.genie_arrivals.specs.Outboard.{LandsBytes, LandsIn}
use Rattle.genie_arrivals.proofs.Putting.{PutsBytes, put_state}
use Rattle.genie_arrivals.proofs.Reaching.{some_page}
use Rattle.genie_arrivals.proofs.WeakPlan.{HasRange, below, input_out, some_span, weak_can_land, weak_holds, weak_plan}

-- the memory with other bytes in its frames
abbrev pub with_landed : Memory → List (List ℕ) → ℕ → Memory
with_landed m bytes landed = record m { frames = record (m.frames) { bytes = bytes; landed = landed } }

still_in : (m : Memory) (bytes : List (List ℕ)) (landed : ℕ) (r : Option Region) (i f : ℕ) → IsInFrame m r i f → IsInFrame (with_landed m bytes landed) r i f
still_in m bytes landed None i f h = h
still_in m bytes landed (Some r) i f h = h

still_held : (page : ℕ) (m : Memory) (bytes : List (List ℕ)) (landed : ℕ) (regions : List Region) (transfers : List Transfer) → AreHeldPages page m regions transfers → AreHeldPages page (with_landed m bytes landed) regions transfers
still_held page m bytes landed regions transfers h = record {
  page_in = h.page_in;
  frame_of = h.frame_of;
  each = λ n d l. let x = h.each n d l in record { pages = x.pages; frames = x.frames; held = λ j within. still_in m bytes landed _ _ _ (x.held j within) };
}

still_fits : (m : Memory) (bytes : List (List ℕ)) (landed : ℕ) (objects : List ℕ) → FitsHidden m objects → FitsHidden (with_landed m bytes landed) objects
still_fits m bytes landed objects h = record {
  cached = λ n l. let x = h.cached n l in record { there = x.there; own = x.own; frame = x.frame; in_frame = x.in_frame; unheld = x.unheld };
  apart = h.apart;
}

-- a kernel whose frames have other bytes is good
landed_good : (k : Kernel) (bytes : List (List ℕ)) (landed : ℕ) → IsGood k → IsSound (with_landed k.memory bytes landed) → IsGood (record k { memory = with_landed k.memory bytes landed })
landed_good k bytes landed g sound = record {
  fits = g.fits;
  sized = record { page = g.sized.page; frames = g.sized.frames; slots = g.sized.slots; pages = g.sized.pages };
  spaced = g.spaced;
  equipped = g.equipped;
  orderly = g.orderly;
  sound = sound;
  cached = still_fits k.memory bytes landed (objects_of k.hidden) g.cached;
  few = g.few;
  backed = g.backed;
  guarded = g.guarded;
  counted = g.counted;
  owners = g.owners;
  held = still_held k.config.page k.memory bytes landed (owned_regions k.spaces.processes) k.transfers g.held;
  planned = g.planned;
  fitting = g.fitting;
  posted = g.posted;
  sending = g.sending;
  receiving = g.receiving;
  arrived = g.arrived;
}

-- a weak transfer keeps no address: its pages are counted from its place in the region
keeps_none : (c : Class) (d : Direction) → is_strong c ≡ false → is_copy_input c d ≡ false
keeps_none Copy d e = absurd (cc)
keeps_none Share d e = refl
keeps_none Move d e = refl
keeps_none WeakMove d e = refl

begins_in : (t : Transfer) → is_strong_call t ≡ false → begins_at t ≡ t.offset
begins_in t weak = ap (λ (b : Bool). unwrap_or (if b then Some t.addr else None) t.offset) (keeps_none (class_of t.sem) t.dir weak)

named_by : (t : Transfer) (r : ℕ) → is_strong_call t ≡ false → region_number t ≡ Some r → names_weakly r t ≡ true
named_by t r weak e = ap (λ (b : Bool). not b && is_named t.region r) weak ∙ ap (λ (o : Option ℕ). is_just o r) e ∙ eq-eqb r r refl

held_input : (c : Counts) → 0 < c.input → is_held c ≡ true
held_input c h = grind (arith, rules, h)

unkept : (o : Owner) (n : ℕ) (c : Counts) → o ≡ Page n → c.strong ≡ 0 → is_kept o c ≡ false
unkept o n c e none = ap (λ z. is_kept z c) e ∙ ap (nat_lt 0) none

last_page : (page x pages : ℕ) → 0 < page → x < pages * page → x / page < pages
last_page page x pages some l = grind arith

none_or : (n : ℕ) → (n ≡ 0) ⊎ (0 < n)
none_or zero = inl refl
none_or (suc n) = inr (omega arith)

lands_by : (l : Loans) (p : InPlan) (bytes : List ℕ) (old new : FrameTable) → l ≡ loans.Inward p → LandsIn l bytes old new → LandsBytes p bytes old new
lands_by l p bytes old new is h = subst (λ (x : Loans). LandsIn x bytes old new) is h

module _ (k : Kernel) (n : ℕ) (t : Transfer) (g : IsGood k) (found : find (has_number n) k.transfers ≡ Some t) (inward : t.dir ≡ direction.Inward) (outboard : is_outboard_device (entry k.devices t.dev) ≡ true) (weak : is_strong_call t ≡ false) (F : FrameTable) (bytes : List ℕ) (landing : LandsIn t.loans bytes k.memory.frames F) where
  pends : Has t k.transfers
  pends = (find_has (has_number n) k.transfers t found).0

  abbrev pub plan : HasRange k.config.page t t.loans
  plan = weak_plan k n t g found inward outboard weak

  abbrev pub p : InPlan
  p = plan.plan

  abbrev pub frames : List ℕ
  frames = input_frames p.loans.items

  abbrev pub landed : Memory
  landed = record (k.memory) { frames = F }

  abbrev pub mid : Kernel
  mid = record k { memory = landed }

  pub landed_bytes : LandsBytes p bytes k.memory.frames F
  landed_bytes = lands_by t.loans p bytes k.memory.frames F plan.is landing

  only : OnlyRange frames p.first p.len k.memory.frames F
  only = landed_bytes.only

  pub same_page : F.page ≡ k.memory.frames.page
  same_page = only.page

  pub same_owners : F.owners ≡ k.memory.frames.owners
  same_owners = only.owners

  pub same_meters : F.meters ≡ k.memory.frames.meters
  same_meters = only.meters

  pub most_landed : F.landed ≤ k.memory.frames.landed + length bytes
  most_landed = landed_bytes.most

  ready : CanLand k.memory.frames frames p.first p.len
  ready = weak_can_land k n t g found inward outboard weak

  lands : Lands frames p.first p.len 0 bytes k.memory landed
  lands = record { only = only; content = landed_bytes.content; pages = refl; objects = refl; slots = refl }

  pub landed_sound : IsSound landed
  landed_sound = lands_soundly k.memory landed p.first p.len 0 frames bytes g.sound lands

  same_frames : F ≡ record (k.memory.frames) { bytes = F.bytes; landed = F.landed }
  same_frames = λ i. record { page = only.page i; owners = only.owners i; counts = only.counts i; bytes = F.bytes; meters = only.meters i; landed = F.landed }

  pub mid_good : IsGood mid
  mid_good = subst (λ (f : FrameTable). IsGood (record k { memory = record (k.memory) { frames = f } })) (sym same_frames) (landed_good k F.bytes F.landed g (subst (λ (f : FrameTable). IsSound (record (k.memory) { frames = f })) same_frames landed_sound))

  module _ (s : IsSettled k) (q : Region) (named : region_number t ≡ Some q.id.0) (there : find (has_id q.id.0) (owned_regions k.spaces.processes) ≡ Some q) (slots : ℕ → List ℕ) (paged : (j : ℕ) → length (slots j) ≡ k.memory.frames.page) where
    abbrev page : ℕ
    page = k.config.page

    abbrev i : ℕ
    i = t.offset / page

    region_is : region_named (owned_regions k.spaces.processes) (region_number t) ≡ Some q
    region_is = ap (region_named (owned_regions k.spaces.processes)) named ∙ there

    -- each of its frames has a page of the region
    of_entries : AreOfEntries k.memory q.object.0 i frames
    of_entries j l =
        let held : (j : ℕ) → j < length (frames_of t.loans) → IsInFrame k.memory (region_named (owned_regions k.spaces.processes) (region_number t)) (i + j) (get_or (frames_of t.loans) j 0) = (weak_holds k t g pends weak).held in
        let here : IsInFrame k.memory (region_named (owned_regions k.spaces.processes) (region_number t)) (i + j) (get_or frames j 0) = (subst (λ l. (j : ℕ) → j < length (frames_of l) → IsInFrame k.memory (region_named (owned_regions k.spaces.processes) (region_number t)) (i + j) (get_or (frames_of l) j 0)) plan.is held) j l in
        subst (λ o. IsInFrame k.memory o (i + j) (get_or frames j 0)) region_is here

    out : (j : ℕ) → j < length frames → 0 < (counts_at k.memory.frames (get_or frames j 0)).input
    out = input_out k t p g pends plan.is

    -- a frame of its own is that of its page
    page_of : (f : ℕ) → 0 < times frames f → (j : ℕ) × (j < length frames) × (entry_frame k.memory q.object.0 (i + j) ≡ Some f) × (0 < (counts_at k.memory.frames f).input)
    page_of f some =
        let at = times_some frames f some in
        (at.0, at.1, of_entries at.0 at.1 ∙ ap Some at.2, subst (λ y. 0 < (counts_at k.memory.frames y).input) at.2 (out at.0 at.1))

    -- no frame shows anything by itself
    kept_same : (f : ℕ) → (seen landed slots).kept_bytes f ≡ (seen k.memory slots).kept_bytes f
    kept_same f = ⊎_elim
        (λ (none : times frames f ≡ 0). frame_kept k.memory landed p.first p.len 0 frames bytes slots lands f none)
        (λ (some : 0 < times frames f).
        let y = page_of f some in
        let at = page_in k.memory q.object.0 (i + y.0) f y.2 in
        let owner : owner_at k.memory.frames f ≡ Page at.number.0 = g.sound.placed.in_frame at.number.0 (record { 0 = f }) at.is_place in
        let unlent = g.sound.held.unlent f (ap is_system owner) (held_input (counts_at k.memory.frames f) y.3) in
        let hidden : is_kept (owner_at k.memory.frames f) (counts_at k.memory.frames f) ≡ false = unkept (owner_at k.memory.frames f) at.number.0 (counts_at k.memory.frames f) owner unlent in
        let now : is_kept (owner_at F f) (counts_at F f) ≡ false = (λ z. is_kept (get_or (only.owners z) f Free) (get_or (only.counts z) f no_counts)) ∙ hidden in
        ap (λ b. if b then bytes_at F f else []) now ∙ sym (ap (λ b. if b then bytes_at k.memory.frames f else []) hidden))
        (none_or (times frames f))

    -- other objects show what they showed
    other_objects : (a e : ℕ) → a ≢ q.object.0 → (seen landed slots).entry_bytes a e ≡ (seen k.memory slots).entry_bytes a e
    other_objects a e apart = entry_kept k.memory landed p.first p.len 0 frames bytes slots lands a e (λ f at. ⊎_elim (λ z. z)
        (λ (some : 0 < times frames f). let y = page_of f some in absurd (apart (held_once k.memory a e q.object.0 (i + y.0) f g.sound y.3 at y.2).0))
        (none_or (times frames f)))

    -- the range lies in the region
    inside : t.offset + t.len ≤ q.pages * page
    inside = all_has (λ (u : Transfer). (r : Region) → find (has_id r.id.0) (owned_regions k.spaces.processes) ≡ Some r → names_weakly r.id.0 u ≡ true → u.offset + u.len ≤ r.pages * page) k.transfers s.ranges t pends q there (named_by t q.id.0 weak named)

    count : length frames ≡ span page t.offset t.len
    count = plan.range.pages ∙ ap (λ a. span page a t.len) (begins_in t weak)

    first_is : p.first ≡ t.offset % page
    first_is = plan.range.begins ∙ ap (λ a. a % page) (begins_in t weak)

    place : k.memory.frames.page * i + (p.first + 0) ≡ t.offset
    place =
        let parts = div-add-mod t.offset page in
        let first = first_is in
        let same : k.memory.frames.page * i ≡ page * i = ap (λ n. n * i) g.sized.page in
        omega (arith, parts, first, same)

    some_pages : 0 < t.len → i + length frames ≤ q.pages
    some_pages some =
        let lies = inside in
        let pages : (t.offset + t.len - 1) / page < q.pages = last_page page (t.offset + t.len - 1) q.pages (some_page k g) (omega (arith, lies, some)) in
        let low : i ≤ (t.offset + t.len - 1) / page = below page t.offset (t.offset + t.len - 1) (some_page k g) (omega (arith, some)) in
        let long : length frames ≡ (t.offset + t.len - 1) / page - t.offset / page + 1 = count ∙ some_span page t.offset t.len some in
        omega (arith, pages, low, long)

    -- so in the region the bytes stand at their place
    in_place : length bytes ≤ t.len → object_bytes (seen landed slots).entry_bytes q.object.0 q.pages ≡ overlaid t.offset bytes (object_bytes (seen k.memory slots).entry_bytes q.object.0 q.pages)
    in_place short = by t.len refl
      where
        all : take (p.len - 0) bytes ≡ bytes
        all = let same = plan.range.length_kept in take_all (p.len - 0) bytes (omega (arith, same, short))

        by : (l : ℕ) → t.len ≡ l → object_bytes (seen landed slots).entry_bytes q.object.0 q.pages ≡ overlaid t.offset bytes (object_bytes (seen k.memory slots).entry_bytes q.object.0 q.pages)
        by zero e =
            let none : length frames ≡ 0 = count ∙ ap (λ l. if l == 0 then 0 else (t.offset + l - 1) / page - t.offset / page + 1) e in
            let no_bytes : bytes ≡ [] = empty bytes (omega (arith, short, e)) in
            in_region k.memory landed q.object.0 0 q.pages p.first p.len 0 frames bytes slots g.sound ready lands (λ j l. absurd (omega (arith, l, none))) (omega (arith, none)) paged
            ∙ ap (λ b. overlaid (k.memory.frames.page * 0 + (p.first + 0)) b (object_bytes (seen k.memory slots).entry_bytes q.object.0 q.pages)) (all ∙ no_bytes)
            ∙ overlaid-nothing (k.memory.frames.page * 0 + (p.first + 0)) (object_bytes (seen k.memory slots).entry_bytes q.object.0 q.pages)
            ∙ sym (ap (λ b. overlaid t.offset b (object_bytes (seen k.memory slots).entry_bytes q.object.0 q.pages)) no_bytes ∙ overlaid-nothing t.offset (object_bytes (seen k.memory slots).entry_bytes q.object.0 q.pages))
          where
            empty : (xs : List ℕ) → length xs ≤ 0 → xs ≡ []
            empty [] h = refl
            empty (x ∷ xs) h = absurd (omega (arith, h))
        by (suc l) e =
            in_region k.memory landed q.object.0 i q.pages p.first p.len 0 frames bytes slots g.sound ready lands of_entries (some_pages (omega (arith, e))) paged
            ∙ (λ z. overlaid (place z) (all z) (object_bytes (seen k.memory slots).entry_bytes q.object.0 q.pages))

    -- and the state is that in which the bytes are put
    pub landed_state : length bytes ≤ t.len → (rests sents : ℕ → List ℕ) → state_of k (bytes_over landed slots rests sents) ≡ put (state_of k (bytes_over k.memory slots rests sents)) q.id.0 t.offset bytes
    landed_state short rests sents =
        let puts : PutsBytes (seen k.memory slots).entry_bytes (seen landed slots).entry_bytes q.object.0 q.pages t.offset bytes = record { range = in_place short; others = other_objects } in
        let kept : (seen landed slots).kept_bytes ≡ (seen k.memory slots).kept_bytes = λ z f. kept_same f z in
        ap (λ (f : ℕ → List ℕ). state_of k (record { seen = record { entry_bytes = (seen landed slots).entry_bytes; kept_bytes = f }; rests = rests; sents = sents })) kept
        ∙ put_state k g q (find_has (has_id q.id.0) (owned_regions k.spaces.processes) q there).0 (seen k.memory slots).entry_bytes (seen landed slots).entry_bytes (seen k.memory slots).kept_bytes t.offset bytes puts rests sents
