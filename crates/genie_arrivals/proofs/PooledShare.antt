-- What waits of a weak input is copied to the region that it names.
use Rattle.std.proofs.Common.{◌≡◌, ℕ, ◌+◌, ◌/◌, ◌^◌, ◌≤◌, true, false, refl, sym, ap, subst, ◌∙◌}
use Rattle.std.specs.Prelude.{Option, Some, None, IfSome, IsSome, find}
use Rattle.genie_base.specs.Counts.{span}
use Rattle.genie_base.specs.Transfers.{is_strong}
use Rattle.genie_base.specs.declared.event.Event.TheVariants.{Finish}
use Rattle.genie_base.specs.declared.reply.Reply.TheVariants as reply
use Rattle.genie_base.specs.declared.semantics.Class.{Class}
use Rattle.genie_base.specs.declared.semantics.Class.TheVariants.{Share}
use Rattle.genie_finish.specs.Copies.{CopiesRange}
use Rattle.genie_object.specs.declared.objects.Range.{Range}
use Rattle.genie_object.specs.Costs.{AreBelow}
use Rattle.genie_model.specs.Lemmas.Lists.{find_has}
use Rattle.genie_model.specs.Pending.{is_ready}
use Rattle.genie_model.specs.Refusing.{refuse}
use Rattle.genie_model.specs.Tables.{entry}
use Rattle.genie_kernel.specs.declared.kernel.Kernel.{Kernel}
use Rattle.genie_kernel.specs.declared.transfer.Transfer.{Transfer}
use Rattle.genie_kernel.specs.Calls.{has_number}
use Rattle.genie_kernel.specs.Good.{IsGood}
use Rattle.genie_kernel.specs.Regions.{has_id, owned_regions}
use Rattle.genie_kernel.specs.View.{outline}
use Rattle.genie_changes.specs.Released.{BuffersShow, ReleasedEnds, ReleasedShows}
use Rattle.genie_changes.specs.Removing.{GoodRegionsFit}
use Rattle.genie_arrivals.specs.EndLaws.{EndLaws}
use Rattle.genie_arrivals.specs.Live.{ChangeLaws}
use Rattle.genie_arrivals.specs.Paging.{EndsPaged}
use Rattle.genie_arrivals.specs.Pooled.{CanCopyPending, CopiesPending, GoesTo, GoesToRegion, IsOwned, IsPooledInput, IsPooledOf, frames_in, offset_of}
use Rattle.genie_arrivals.specs.Replies.{is_there}
use Rattle.genie_arrivals.specs.Waiting.{EndsWaiting, IsWaiting}
use Rattle.genie_arrivals.proofs.Buffered.{device_number, if_some}
use Rattle.genie_arrivals.proofs.Found.{found_case, found_over, is_over}
use Rattle.genie_arrivals.proofs.Lively.{found_everywhere}
use Rattle.genie_arrivals.proofs.Moving.{IsHad, is_had}
use Rattle.genie_arrivals.proofs.Owning.{named_there}
use Rattle.genie_arrivals.proofs.PooledAt.{buffer_there, has_pooled, pool_at, pooled_waits}
use Rattle.genie_arrivals.proofs.PooledEnd.{Copied, share_ends}
use Rattle.genie_arrivals.proofs.PooledWeak.{can_copy, within}

-- the input, and the region to which its bytes go
pub record Goes (k : Kernel) (n : ℕ) (t : Transfer) (range : Range) (class : Class) : Type 0 where
  pub found : find (has_number n) k.transfers ≡ Some t
  pub ready : is_ready t.phase ≡ true
  pub is : IsPooledOf class k.devices t
  pub to : GoesToRegion k t range
  pub had : IsHad k t to.owned
  pub there : find (has_id to.owned.region.id.0) (owned_regions k.spaces.processes) ≡ Some to.owned.region

pub goes : (laws : EndLaws) (change : ChangeLaws) (k : Kernel) (n : ℕ) (t : Transfer) (range : Range) (class : Class) → IsGood k → refuse (outline k) (Finish n) ≡ None → find (has_number n) k.transfers ≡ Some t → IsPooledInput class k n → GoesTo k n range → Goes k n t range class
goes laws change k n t range class g accepted found case place =
    let to = found_case (λ (u : Transfer). GoesToRegion k u range) k n t place found in
    let had = is_had k t to.owned to.named in
    record {
      found = found;
      ready = found_over k n t accepted found;
      is = found_case (IsPooledOf class k.devices) k n t case found;
      to = to;
      had = had;
      there = found_everywhere change k (laws.settled k g) to.owned.pid had.regions to.owned.region had.there had.found;
    }

pub can_pending : (laws : EndLaws) (change : ChangeLaws) (fit : GoodRegionsFit) (k : Kernel) (n : ℕ) (range : Range) (class : Class) → is_strong class ≡ false → IsGood k → AreBelow (2 ^ 63) k.memory.frames.meters → refuse (outline k) (Finish n) ≡ None → IsPooledInput class k n → GoesTo k n range → CanCopyPending n range k
can_pending laws change fit k n range class weak g below accepted case place =
    let o = is_over k n accepted in
    let y = goes laws change k n o.t range class g accepted o.found case place in
    record {
      transfer = o.t;
      found = o.found;
      number = device_number k n o.t g o.found;
      buffer = buffer_there k o.t g (pool_at k o.t.dev g y.is.pooled) (has_pooled k n o.t g o.found y.ready y.is.inward y.is.pooled);
      can = can_copy fit k n o.t g (laws.settled k g) o.found y.ready y.is.inward y.is.pooled (ap is_strong y.is.class_is ∙ weak) y.to.owned.region y.had.names y.there range y.to.object_is y.to.place y.to.size below;
    }

pub waits_pending : (k : Kernel) (n : ℕ) (class : Class) → IsPooledInput class k n → IfSome (find (has_number n) k.transfers) (IsWaiting k.devices)
waits_pending k n class case = if_some (λ (t : Transfer) (is : IsPooledOf class k.devices t). pooled_waits k.devices t is.inward is.pooled) (find (has_number n) k.transfers) case

-- the copy is that of the input which was taken out
pub copies_of : (k mid : Kernel) (n : ℕ) (range : Range) (t : Transfer) → CopiesPending n range k mid → find (has_number n) k.transfers ≡ Some t → CopiesRange k.memory mid.memory range.object.0 range.off range.len (offset_of (entry k.config.devices t.dev)) (frames_in (entry k.pools t.dev) t.buffer)
copies_of k mid n range t c found =
    let both : Some c.transfer ≡ Some t = sym c.found ∙ found in
    let same : c.transfer ≡ t = cc in
    subst (λ (u : Transfer). CopiesRange k.memory mid.memory range.object.0 range.off range.len (offset_of (entry k.config.devices u.dev)) (frames_in (entry k.pools u.dev) u.buffer)) same c.copies

pub copied_by : (laws : EndLaws) (change : ChangeLaws) (fit : GoodRegionsFit) (k mid : Kernel) (n : ℕ) (t : Transfer) (range : Range) (class : Class) → is_strong class ≡ false → (g : IsGood k) → refuse (outline k) (Finish n) ≡ None → (y : Goes k n t range class) → CopiesPending n range k mid → Copied k n t y.to.owned.region range mid.memory
copied_by laws change fit k mid n t range class weak g accepted y c =
    let in_region = within fit k n t g (laws.settled k g) y.found y.ready y.is.inward y.is.pooled (ap is_strong y.is.class_is ∙ weak) y.to.owned.region y.had.names y.there in
    record {
      good = g;
      accepted = accepted;
      found = y.found;
      ready = y.ready;
      inward = y.is.inward;
      pooled = y.is.pooled;
      owned = (find_has (has_id y.to.owned.region.id.0) (owned_regions k.spaces.processes) y.to.owned.region y.there).0;
      object_is = y.to.object_is;
      size = y.to.size;
      within = subst (λ z. z / k.config.page + span k.config.page z range.len ≤ y.to.owned.region.pages) (sym y.to.place) (subst (λ z. t.offset / k.config.page + span k.config.page t.offset z ≤ y.to.owned.region.pages) (sym y.to.size) in_region);
      copies = copies_of k mid n range t c y.found;
    }

-- the address spaces are as they were
pub spaces_same : (k mid new : Kernel) (n : ℕ) (t : Transfer) (range : Range) → CopiesPending n range k mid → EndsWaiting n mid new t → new.spaces ≡ k.spaces
spaces_same k mid new n t range c e = ap (λ (z : Kernel). z.spaces) e.only ∙ ap (λ (z : Kernel). z.spaces) c.only

-- and a process has the region
pub goes_there : (k mid new : Kernel) (n : ℕ) (t : Transfer) (range : Range) → CopiesPending n range k mid → EndsWaiting n mid new t → GoesTo k n range → is_there (owned_regions k.spaces.processes) t ≡ true
goes_there k mid new n t range c e place =
    let found : find (has_number n) k.transfers ≡ Some t = sym (ap (λ (z : Kernel). find (has_number n) z.transfers) c.only) ∙ e.found in
    let to = found_case (λ (u : Transfer). GoesToRegion k u range) k n t place found in
    named_there k.spaces t to.owned to.named

pub some_owner : (o : Option ℕ) → IsSome o → (p : ℕ) × (o ≡ Some p)
some_owner None e = absurd (cc)
some_owner (Some p) e = (p, refl)

pub share_returns : (laws : EndLaws) (change : ChangeLaws) (fit : GoodRegionsFit) (show : BuffersShow) (end : ReleasedEnds) (release : ReleasedShows) (k mid new : Kernel) (n : ℕ) (t : Transfer) (range : Range) → IsGood k → refuse (outline k) (Finish n) ≡ None → IsPooledInput Share k n → IsOwned k n → GoesTo k n range → CopiesPending n range k mid → EndsWaiting n mid new t → EndsPaged k n new (reply.Input None t.stored t.note)
share_returns laws change fit show end release k mid new n t range g accepted case owner place c e =
    let last : EndsWaiting n (record k { memory = mid.memory }) new t = subst (λ (z : Kernel). EndsWaiting n z new t) c.only e in
    let y = goes laws change k n t range Share g accepted last.found case place in
    let p = some_owner t.owner (found_case (λ (u : Transfer). IsSome u.owner) k n t owner last.found) in
    share_ends k n p.0 t y.to.owned.region range mid.memory (copied_by laws change fit k mid n t range Share refl g accepted y c) p.1 y.is.class_is y.had.names y.there y.to.place laws show end release new last
