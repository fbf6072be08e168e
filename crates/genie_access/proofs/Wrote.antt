-- A write that isn't refused.
use Rattle.std.proofs.Common.{◌≡◌, ℕ, ◌-◌, ◌*◌, ◌<◌, Bool, true, false, not, List, [], ◌∷◌, length, refl, sym, ap, subst, ◌∙◌, get_or, eqb-true}
use Rattle.std.specs.Prelude.{Option, Some, None, IfSome, is_some, ◌&&◌, ◌==◌, option_and_then, if◌then◌else◌}
use Rattle.std.specs.Option.{option_map}
use Rattle.std.proofs.lemmas.Bool.{not-false}
use Rattle.genie_base.specs.Regions.{reach}
use Rattle.genie_base.specs.declared.event.Event.TheVariants.{Read, Write}
use Rattle.genie_base.specs.declared.numbers.ObjectId.{ObjectId}
use Rattle.genie_base.specs.declared.refusal.Refusal.{Refusal}
use Rattle.genie_base.specs.declared.refusal.Refusal.TheVariants as cause
use Rattle.genie_base.specs.declared.reply.Reply.TheVariants as reply
use Rattle.genie_frame.specs.declared.frame.Meters.{Meters}
use Rattle.genie_host.specs.Host.{HostView}
use Rattle.genie_store.specs.StoreView.{StoreView}
use Rattle.genie_object.specs.declared.memory.Memory.{Memory}
use Rattle.genie_object.specs.Calls.{OnlyMoves}
use Rattle.genie_object.specs.Memory.{seen}
use Rattle.genie_object.specs.Objects.{object_at}
use Rattle.genie_object.specs.Sound.{IsSound, FitsHidden}
use Rattle.genie_object.specs.Lemmas.Touching.{keeps_on}
use Rattle.genie_region.specs.declared.region.Region.{Region}
use Rattle.genie_region.specs.Layouts.{extent}
use Rattle.genie_hiding.specs.Hidden.{objects_of, outside}
use Rattle.genie_model.specs.Refusing.{first_cause, refuse, is_within}
use Rattle.genie_model.specs.Regions as model
use Rattle.genie_model.specs.Space as space
use Rattle.genie_model.specs.State as flat
use Rattle.genie_model.specs.Tables.{entry}
use Rattle.genie_model.specs.Lemmas.Causes.{first_none}
use Rattle.genie_model.specs.Lemmas.Lists.{has_at}
use Rattle.genie_kernel.specs.declared.kernel.Kernel.{Kernel}
use Rattle.genie_kernel.specs.declared.transfer.Transfer.{Transfer}
use Rattle.genie_kernel.specs.Good.{IsGood}
use Rattle.genie_kernel.specs.Held.{AreHeldPages, IsInFrame}
use Rattle.genie_kernel.specs.Kept.{Kept}
use Rattle.genie_kernel.specs.Laws.{MemoryCallsKeepGood, MemoryCallsKeepLent, ViewIsTidy}
use Rattle.genie_kernel.specs.Regions.{owned_regions, region_view, regions_of}
use Rattle.genie_kernel.specs.Steps.{StepsTold}
use Rattle.genie_kernel.specs.Told.{rests_of, sents_of}
use Rattle.genie_kernel.specs.View.{Bytes, state_of, outline, no_bytes, bytes_with, view}
use Rattle.genie_kernel.specs.Lemmas.Keeping.{guards_kept, hidden_kept}
use Rattle.genie_kernel.specs.Lemmas.Stepping.{accepted_step}
use Rattle.genie_access.specs.Moving.{with_memory, KeepsSeen}
use Rattle.genie_access.specs.Reached.{LeadsTo}
use Rattle.genie_access.specs.Reading.{is_of_object}
use Rattle.genie_access.specs.Storing.{with_stored, ShowsStored, WritesObject, WritesAt}
use Rattle.genie_access.proofs.Alike.{view_moved}
use Rattle.genie_access.proofs.Changed.{stored_state}
use Rattle.genie_access.proofs.Led.{reach_view, led_backed, led_outside, led_owned, other_object}
use Rattle.genie_access.proofs.Once.{same_object}

two_none : (x y : Bool × Refusal) → x.0 ≡ false → y.0 ≡ false → first_cause (x ∷ y ∷ []) ≡ None
two_none x y e d = rw (e, d) refl

record MayWrite (k : Kernel) (p a : ℕ) (bytes : List ℕ) : Type 0 where
  read : refuse (outline k) (Read p a (length bytes)) ≡ None
  write : is_some (model.write_reach_of (outline k) p a (length bytes)) ≡ true

may_write : (k : Kernel) (p a : ℕ) (bytes : List ℕ) → refuse (outline k) (Write p a bytes) ≡ None → MayWrite k p a bytes
may_write k p a bytes h =
    let s = outline k in
    let alive : Bool × Refusal = (not (model.is_alive s p), cause.Proc) in
    let range : Bool × Refusal = (not (is_within 1 k.config.page (length bytes) && is_some (model.reach_of s p a (length bytes))), cause.Range) in
    let denied : Bool × Refusal = (not (is_some (model.write_reach_of s p a (length bytes))), cause.Denied) in
    let one = first_none alive (range ∷ denied ∷ []) h in
    let two = first_none range (denied ∷ []) one.1 in
    let three = first_none denied [] two.1 in
    record {
      read = two_none alive range one.0 two.0;
      write = not-false (is_some (model.write_reach_of s p a (length bytes))) three.0;
    }

-- a read of the range isn't refused either
pub write_reads : (k : Kernel) (p a n : ℕ) (bytes : List ℕ) → n ≡ length bytes → refuse (outline k) (Write p a bytes) ≡ None → refuse (outline k) (Read p a n) ≡ None
write_reads k p a n bytes e h = subst (λ z. refuse (outline k) (Read p a z) ≡ None) (sym e) (may_write k p a bytes h).read

chosen : {X : Type 0} (x : X) (b : Bool) → is_some (if b then Some x else None) ≡ true → b ≡ true
chosen x true e = refl
chosen x false e = absurd (cc)

-- the region may be written
led_writable : (k : Kernel) (p a : ℕ) (bytes : List ℕ) (r : Region) → refuse (outline k) (Write p a bytes) ≡ None → reach extent k.config.page a (length bytes) (regions_of (entry k.spaces.processes p)) ≡ Some r → r.writable ≡ true
led_writable k p a bytes r h found =
    let b = no_bytes k.config.page in
    let at : model.reach_of (outline k) p a (length bytes) ≡ Some (region_view b.seen.entry_bytes r) = reach_view k b p a (length bytes) ∙ ap (option_map (region_view b.seen.entry_bytes)) found in
    chosen (region_view b.seen.entry_bytes r) r.writable (sym (ap (λ (z : Option flat.Region). is_some (option_and_then (λ (q : flat.Region). if q.writable then Some q else None) z)) at) ∙ (may_write k p a bytes h).write)

-- the object is that of no region that may not be written
silent : (k : Kernel) (p a : ℕ) (bytes : List ℕ) (o : ObjectId) (off n : ℕ) (d : Region) → IsGood k → refuse (outline k) (Write p a bytes) ≡ None → LeadsTo k p a (length bytes) o off → n < length (owned_regions k.spaces.processes) → (get_or (owned_regions k.spaces.processes) n d).writable ≡ false → ((get_or (owned_regions k.spaces.processes) n d).object.0 == o.0) ≡ false
silent k p a bytes o off n d g h l within shut =
    let r : Region = get_or (owned_regions k.spaces.processes) n d in
    elim (r.object.0 == o.0) as (λ b. (r.object.0 == o.0) ≡ b → b ≡ false) [
      | true ↦ λ e.
          let object : r.object.0 ≡ l.region.object.0 = eqb-true r.object.0 o.0 e ∙ (λ i. (l.object_is i).0) in
          let same = same_object k r l.region g (has_at (owned_regions k.spaces.processes) n d within) (led_owned k p a (length bytes) l.region l.found) object in
          let may = led_writable k p a bytes l.region h l.found in
          let clash : false ≡ true = sym shut ∙ ap (λ (z : Region). z.writable) same ∙ may in absurd (cc)
      | false ↦ λ e. refl
    ] refl

-- calls on the object that only move pages, once room was made
pub wrote_seen : (k : Kernel) (mid m : Memory) (u v w : StoreView) (p a : ℕ) (bytes : List ℕ) (o : ObjectId) (off : ℕ) → IsGood k → refuse (outline k) (Write p a bytes) ≡ None → LeadsTo k p a (length bytes) o off → KeepsSeen k mid u v → OnlyMoves (is_of_object o.0) mid m v w → KeepsSeen k m u w
wrote_seen k mid m u v w p a bytes o off g h l s x = record {
  sound = x.sound;
  sized = x.sized;
  fits = hidden_kept (is_of_object o.0) mid m (objects_of k.hidden) s.sound x.keeps x.touches (λ c d among. other_object o.0 c (objects_of k.hidden) (led_outside k p a (length bytes) o off g l) among) s.fits;
  seen = ap (option_map (outside (objects_of k.hidden))) x.seen ∙ s.seen;
  keeps = keeps_on k.memory mid m s.keeps x.keeps;
  counts = x.counts ∙ s.counts;
  guarded = guards_kept (is_of_object o.0) mid m (owned_regions k.spaces.processes) x.touches (λ n d within shut i. silent k p a bytes o off n d g h l within shut) s.guarded;
}

pub wrote_at : (k : Kernel) (mid m : Memory) (u v w : StoreView) (p a n : ℕ) (bytes : List ℕ) (o : ObjectId) (off : ℕ) → IsGood k → refuse (outline k) (Write p a bytes) ≡ None → n ≡ length bytes → LeadsTo k p a n o off → KeepsSeen k mid u v → WritesObject mid m v w o.0 off bytes → WritesAt k m u w p a bytes
wrote_at k mid m u v w p a n bytes o off g h e l s x =
    let leads = subst (λ z. LeadsTo k p a z o off) e l in
    record { object = o; off = off; leads = leads; mid = x.mid; seen = wrote_seen k mid x.mid u v w p a bytes o off g h leads s x.moves; stores = x.stores }

still_in : (m : Memory) (bytes : List (List ℕ)) (meters : Meters) (r : Option Region) (i f : ℕ) → IsInFrame m r i f → IsInFrame (with_stored m bytes meters) r i f
still_in m bytes meters None i f h = h
still_in m bytes meters (Some r) i f h = h

still_held : (page : ℕ) (m : Memory) (bytes : List (List ℕ)) (meters : Meters) (regions : List Region) (transfers : List Transfer) → AreHeldPages page m regions transfers → AreHeldPages page (with_stored m bytes meters) regions transfers
still_held page m bytes meters regions transfers h = record {
  page_in = h.page_in;
  frame_of = h.frame_of;
  each = λ n d l. let x = h.each n d l in record { pages = x.pages; frames = x.frames; held = λ j within. still_in m bytes meters _ _ _ (x.held j within) };
}

still_fits : (m : Memory) (bytes : List (List ℕ)) (meters : Meters) (objects : List ℕ) → FitsHidden m objects → FitsHidden (with_stored m bytes meters) objects
still_fits m bytes meters objects h = record {
  cached = λ n l. let x = h.cached n l in record { there = x.there; own = x.own; frame = x.frame; in_frame = x.in_frame; unheld = x.unheld };
  apart = h.apart;
}

-- a kernel whose frames have other bytes is good
stored_good : (k : Kernel) (bytes : List (List ℕ)) (meters : Meters) (clock : ℕ) → IsGood k → IsSound (with_stored k.memory bytes meters) → IsGood (with_memory k (with_stored k.memory bytes meters) clock)
stored_good k bytes meters clock g sound = record {
  fits = g.fits;
  sized = record { page = g.sized.page; frames = g.sized.frames; slots = g.sized.slots; pages = g.sized.pages };
  spaced = g.spaced;
  equipped = g.equipped;
  orderly = g.orderly;
  sound = sound;
  cached = still_fits k.memory bytes meters (objects_of k.hidden) g.cached;
  few = g.few;
  backed = g.backed;
  guarded = g.guarded;
  counted = g.counted;
  owners = g.owners;
  held = still_held k.config.page k.memory bytes meters (owned_regions k.spaces.processes) k.transfers g.held;
  planned = g.planned;
  fitting = g.fitting;
  posted = g.posted;
  sending = g.sending;
  receiving = g.receiving;
  arrived = g.arrived;
}

stored_kept : (k : Kernel) (m : Memory) (bytes : List (List ℕ)) (meters : Meters) (clock : ℕ) → Kept k (record k { memory = m }) → Kept k (with_memory k (with_stored m bytes meters) clock)
stored_kept k m bytes meters clock x = record {
  lent = λ n f t u p. x.lent n f t u (record { was = p.was; is = p.is });
  pooled = x.pooled;
  fresh = λ n f t u p. x.fresh n f t u (record { was = p.was; is = p.is });
}

module _ (k new : Kernel) (v w : StoreView) (p a : ℕ) (bytes : List ℕ) (g : IsGood k) (only : new ≡ with_memory k new.memory new.clock) (x : WritesAt k new.memory v w p a bytes) where
  abbrev now : Memory
  now = with_stored x.mid new.memory.frames.bytes new.memory.frames.meters

  stored_only : new ≡ with_memory k now new.clock
  stored_only = only ∙ ap (λ z. with_memory k z new.clock) x.stores.only

  pub wrote_good : MemoryCallsKeepGood → IsGood new
  wrote_good law =
      let mid : IsGood (record k { memory = x.mid }) = law k x.mid g x.seen.sound x.seen.fits x.seen.guarded x.seen.counts x.seen.keeps in
      subst IsGood (sym stored_only) (stored_good (record k { memory = x.mid }) new.memory.frames.bytes new.memory.frames.meters new.clock mid (subst IsSound x.stores.only x.stores.sound))

  pub wrote_kept : MemoryCallsKeepLent → Kept k new
  wrote_kept law = subst (Kept k) (sym stored_only) (stored_kept k x.mid new.memory.frames.bytes new.memory.frames.meters new.clock (law k x.mid g x.seen.keeps))

  led_shown : (slots : ℕ → List ℕ) → ShowsStored (seen x.mid slots) (seen new.memory slots) x.object.0 (length (object_at x.mid.objects x.object.0)) x.off bytes → ShowsStored (seen x.mid slots) (seen new.memory slots) x.leads.region.object.0 x.leads.region.pages (a - x.leads.region.start * k.config.page) bytes
  led_shown slots h =
      let l = x.leads in
      let pages : length (object_at x.mid.objects l.region.object.0) ≡ l.region.pages = x.seen.keeps.entries l.region.object.0 ∙ led_backed k p a (length bytes) l.region g l.found in
      let one = subst (λ (z : ObjectId). ShowsStored (seen x.mid slots) (seen new.memory slots) z.0 (length (object_at x.mid.objects z.0)) x.off bytes) l.object_is h in
      let two = subst (λ z. ShowsStored (seen x.mid slots) (seen new.memory slots) l.region.object.0 z x.off bytes) pages one in
      subst (λ z. ShowsStored (seen x.mid slots) (seen new.memory slots) l.region.object.0 l.region.pages z bytes) l.place two

  write_step : ViewIsTidy → refuse (outline k) (Write p a bytes) ≡ None → (slots rests sents : Option (ℕ → List ℕ)) → IfSome slots (λ t. ShowsStored (seen x.mid t) (seen new.memory t) x.object.0 (length (object_at x.mid.objects x.object.0)) x.off bytes) → StepsTold (option_map (state_of k) (bytes_with (option_map (seen x.mid) slots) rests sents)) (Write p a bytes) (option_map (state_of k) (bytes_with (option_map (seen new.memory) slots) rests sents)) reply.Okay
  write_step law h None rests sents i = tt
  write_step law h (Some t) None sents i = tt
  write_step law h (Some t) (Some rs) None i = tt
  write_step law h (Some t) (Some rs) (Some ss) i =
      let old : Bytes = record { seen = seen x.mid t; rests = rs; sents = ss } in
      let after : Bytes = record { seen = seen new.memory t; rests = rs; sents = ss } in
      let is = stored_state k p a x.leads.region (seen x.mid t) (seen new.memory t) bytes rs ss g x.leads.found (led_shown t i) in
      accepted_step k old (Write p a bytes) (state_of k after) reply.Okay h (record { state = sym (law k after) ∙ ap space.tidy is; reply_is = refl })

  -- a write that is answered is one step
  pub wrote_told : ViewIsTidy → (host : HostView) → refuse (outline k) (Write p a bytes) ≡ None → StepsTold (view k host v) (Write p a bytes) (view new host w) reply.Okay
  wrote_told law host h =
      let mid : Kernel = with_memory k x.mid new.clock in
      let same = view_moved k mid host v w g refl x.seen in
      subst (λ (z : Kernel). StepsTold (view k host v) (Write p a bytes) (view z host w) reply.Okay) (sym only)
      (subst (λ (z : Option flat.State). StepsTold z (Write p a bytes) (view (with_memory k new.memory new.clock) host w) reply.Okay) same
      (write_step law h w.slots (rests_of host k.config) (sents_of host k.config) x.stores.shows))

failed_step : (k : Kernel) (p a : ℕ) (bytes : List ℕ) (o : Option Bytes) → refuse (outline k) (Write p a bytes) ≡ None → StepsTold (option_map (state_of k) o) (Write p a bytes) (option_map (state_of k) o) reply.StoreFault
failed_step k p a bytes None h = tt
failed_step k p a bytes (Some b) h = accepted_step k b (Write p a bytes) (state_of k b) reply.StoreFault h (record { state = refl; reply_is = refl })

-- and so is one that the store fails
pub write_failed : (k new : Kernel) (host : HostView) (v w : StoreView) (p a : ℕ) (bytes : List ℕ) → IsGood k → new ≡ with_memory k new.memory new.clock → KeepsSeen k new.memory v w → refuse (outline k) (Write p a bytes) ≡ None → StepsTold (view k host v) (Write p a bytes) (view new host w) reply.StoreFault
write_failed k new host v w p a bytes g only s h = subst (λ x. StepsTold (view k host v) (Write p a bytes) x reply.StoreFault) (sym (view_moved k new host v w g only s)) (failed_step k p a bytes _ h)
