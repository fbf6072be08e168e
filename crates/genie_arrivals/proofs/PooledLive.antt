-- A weak move input on a pooled device ends: its region has the bytes, and is Live.
use Rattle.std.proofs.Common.{◌≡◌, ℕ, ◌*◌, ◌^◌, false, List, refl, sym, ap, subst, arith, ◌∙◌}
use Rattle.std.specs.Prelude.{Some, None, IsSome, find, if◌then◌else◌}
use Rattle.genie_base.specs.Transfers.{class_of}
use Rattle.genie_base.specs.declared.event.Event.TheVariants.{Finish}
use Rattle.genie_base.specs.declared.region.RegionState.TheVariants as state
use Rattle.genie_base.specs.declared.reply.Reply.{Reply}
use Rattle.genie_base.specs.declared.reply.Reply.TheVariants as reply
use Rattle.genie_base.specs.declared.semantics.Class.TheVariants.{WeakMove}
use Rattle.genie_object.specs.declared.objects.Range.{Range}
use Rattle.genie_object.specs.Memory.{seen}
use Rattle.genie_region.specs.declared.region.Region.{Region}
use Rattle.genie_model.specs.Ending.{finish, finish_weak_move, without_transfer}
use Rattle.genie_model.specs.Pending.{is_early_at}
use Rattle.genie_model.specs.Refusing.{refuse}
use Rattle.genie_model.specs.Regions as model
use Rattle.genie_model.specs.Regions.{put}
use Rattle.genie_model.specs.State as flat
use Rattle.genie_orderly.specs.Orderly.{IsOrderly}
use Rattle.genie_kernel.specs.declared.kernel.Kernel.{Kernel}
use Rattle.genie_kernel.specs.declared.transfer.Transfer.{Transfer}
use Rattle.genie_kernel.specs.Good.{IsGood}
use Rattle.genie_kernel.specs.Regions.{has_id, owned_regions, region_view}
use Rattle.genie_kernel.specs.Steps.{bytes_over}
use Rattle.genie_kernel.specs.View.{Bytes, state_of, outline, no_bytes}
use Rattle.genie_kernel.specs.Lemmas.Rising.{rises_most}
use Rattle.genie_changes.specs.Released.{BuffersShow, ReleasedEnds, ReleasedShows}
use Rattle.genie_changes.specs.Removing.{GoodRegionsFit}
use Rattle.genie_changes.specs.Settled.{IsSettled}
use Rattle.genie_arrivals.specs.declared.owned.OwnedRegion.{OwnedRegion}
use Rattle.genie_arrivals.specs.EndLaws.{EndLaws}
use Rattle.genie_arrivals.specs.Live.{ChangeLaws, lively}
use Rattle.genie_arrivals.specs.Paging.{EndsPaged}
use Rattle.genie_arrivals.specs.Pooled.{CopiesPending, GoesTo, IsOwned, IsPooledInput}
use Rattle.genie_arrivals.specs.Waiting.{EndsWaiting}
use Rattle.genie_arrivals.proofs.Found.{found_case, seen_as}
use Rattle.genie_arrivals.proofs.Lively.{found_everywhere, live_good, live_state}
use Rattle.genie_arrivals.proofs.Moving.{IsHad}
use Rattle.genie_arrivals.proofs.PooledAt.{payload_is, pooled_waits}
use Rattle.genie_arrivals.proofs.PooledEnd.{Copied, at, last, last_kept, last_outline, last_rises, last_settled, last_shown, last_sized, payload, region_there, x}
use Rattle.genie_arrivals.proofs.PooledShare.{copied_by, goes, some_owner}
use Rattle.genie_arrivals.proofs.Replying.{early_view, input_finish, outcome, quiet_steps}

-- a weak move input on a device that isn't early, whose region is there
live_put : (s : flat.State) (v : flat.Transfer) (r : flat.Region) → is_early_at s v.device ≡ false → finish_weak_move s v (Some r) ≡ outcome (model.change_region (put s r.number v.offset v.payload) r.number (model.with_state state.Live)) (reply.Input (Some (model.address_of s r)) v.stored v.note)
live_put s v r late = ap (λ c. outcome (model.change_region (if c then s else put s r.number v.offset v.payload) r.number (model.with_state state.Live)) (reply.Input (Some (model.address_of s r)) v.stored v.note)) late

module _ (laws : EndLaws) (change : ChangeLaws) (show : BuffersShow) (end : ReleasedEnds) (release : ReleasedShows) (k : Kernel) (n p : ℕ) (t : Transfer) (o : OwnedRegion) (range : Range) (new : Kernel) (middle : Kernel) (c : Copied k n t o.region range middle.memory) (e : EndsWaiting n (record k { memory = middle.memory }) new t) (owner : t.owner ≡ Some p) (class : class_of t.sem ≡ WeakMove) (had : IsHad k t o) (place : range.off ≡ t.offset) where
  abbrev less : Kernel
  less = last k n t o.region range middle.memory c laws show end release new e

  abbrev live : Kernel
  live = lively less o.pid o.region.id.0 had.regions

  abbrev answer : Reply
  answer = reply.Input (Some (o.region.start * k.config.page)) t.stored t.note

  abbrev settled_less : IsSettled less
  settled_less = last_settled k n t o.region range middle.memory c laws show end release new e

  live_of : (b : Bytes) → state_of live b ≡ model.change_region (state_of less b) o.region.id.0 (model.with_state state.Live)
  live_of b = live_state change less settled_less o.pid had.regions o.region had.there had.found b

  abbrev after : flat.State → (ℕ → List ℕ) → flat.State
  after s kept = model.change_region (put (without_transfer s n) o.region.id.0 range.off (payload k n t o.region range middle.memory c kept)) o.region.id.0 (model.with_state state.Live)

  fin : (b : Bytes) → finish (state_of k b) n ≡ outcome (after (state_of k b) b.seen.kept_bytes) answer
  fin b =
      let s : flat.State = without_transfer (state_of k b) n in
      let v : flat.Transfer = seen_as k b t in
      let late : is_early_at (state_of k b) t.dev ≡ false = early_view k b t.dev ∙ (pooled_waits k.devices t c.inward c.pooled).late in
      input_finish k b n p t WeakMove c.found owner c.inward class
      ∙ ap (finish_weak_move s v) (region_there k n t b o.region had.names (found_everywhere change k (laws.settled k c.good) o.pid had.regions o.region had.there had.found))
      ∙ live_put s v (region_view b.seen.entry_bytes o.region) late
      ∙ (λ i. outcome (model.change_region (put s o.region.id.0 (sym place i) (payload_is k t c.good (at k n t o.region range middle.memory c) (x k n t o.region range middle.memory c) b c.inward i)) o.region.id.0 (model.with_state state.Live)) answer)

  orderly : IsOrderly (outline live)
  orderly =
      let b : Bytes = no_bytes k.config.page in
      laws.orderly (outline k) (outline live) (Finish n) answer refl c.accepted
      (quiet_steps (outline k) (outline live) n answer (after (outline k) b.seen.kept_bytes) (fin b) refl (live_of b ∙ ap (λ (s : flat.State). model.change_region s o.region.id.0 (model.with_state state.Live)) (last_outline k n t o.region range middle.memory c laws show end release new e)))
      c.good.orderly

  pub live_ends : EndsPaged k n (lively new o.pid o.region.id.0 had.regions) answer
  live_ends =
      let kept = last_kept k n t o.region range middle.memory c laws show end release new e in
      subst (λ (z : Kernel). EndsPaged k n (lively z o.pid o.region.id.0 had.regions) answer) (sym e.only) (record {
        good = live_good change less settled_less o.pid had.regions o.region had.there had.found orderly;
        sized = last_sized k n t o.region range middle.memory c laws show end release new e;
        kept = record { lent = λ m f u v y. kept.lent m f u v (record { was = y.was; is = y.is }); pooled = kept.pooled; fresh = λ m f u v y. kept.fresh m f u v (record { was = y.was; is = y.is }) };
        step = λ slots rests sents have. quiet_steps (state_of k (bytes_over k.memory slots rests sents)) (state_of live (bytes_over less.memory slots rests sents)) n answer (after (state_of k (bytes_over k.memory slots rests sents)) (seen k.memory slots).kept_bytes) (fin (bytes_over k.memory slots rests sents)) refl
            (live_of (bytes_over less.memory slots rests sents) ∙ ap (λ (s : flat.State). model.change_region s o.region.id.0 (model.with_state state.Live)) (last_shown k n t o.region range middle.memory c laws show end release new e slots rests sents have));
        config = refl;
        numbers = refl;
        unfailed = refl;
        rises = rises_most (2 ^ 34) (2 ^ 35) k.memory.frames new.memory.frames (omega arith) (last_rises k n t o.region range middle.memory c laws show end release new e);
      })

pub live_returns : (laws : EndLaws) (change : ChangeLaws) (fit : GoodRegionsFit) (show : BuffersShow) (end : ReleasedEnds) (release : ReleasedShows) (k middle new : Kernel) (n : ℕ) (t : Transfer) (o : OwnedRegion) (range : Range) → IsGood k → refuse (outline k) (Finish n) ≡ None → IsPooledInput WeakMove k n → IsOwned k n → GoesTo k n range → CopiesPending n range k middle → EndsWaiting n middle new t → (had : IsHad k t o) → EndsPaged k n (lively new o.pid o.region.id.0 had.regions) (reply.Input (Some (o.region.start * k.config.page)) t.stored t.note)
live_returns laws change fit show end release k middle new n t o range g accepted case owner place c e had =
    let ended : EndsWaiting n (record k { memory = middle.memory }) new t = subst (λ (z : Kernel). EndsWaiting n z new t) c.only e in
    let y = goes laws change k n t range WeakMove g accepted ended.found case place in
    let p = some_owner t.owner (found_case (λ (u : Transfer). IsSome u.owner) k n t owner ended.found) in
    let here = found_everywhere change k (laws.settled k g) o.pid had.regions o.region had.there had.found in
    let number : o.region.id.0 ≡ y.to.owned.region.id.0 = (let both : Some o.region.id.0 ≡ Some y.to.owned.region.id.0 = sym had.names ∙ y.had.names in cc) in
    let found : Some y.to.owned.region ≡ Some o.region = sym y.there ∙ sym (ap (λ j. find (has_id j) (owned_regions k.spaces.processes)) number) ∙ here in
    let same : y.to.owned.region ≡ o.region = cc in
    let copied : Copied k n t o.region range middle.memory = subst (λ (r : Region). Copied k n t r range middle.memory) same (copied_by laws change fit k middle n t range WeakMove refl g accepted y c) in
    live_ends laws change show end release k n p.0 t o range new middle copied ended p.1 y.is.class_is had y.to.place
