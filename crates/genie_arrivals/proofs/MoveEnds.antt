-- What is left of a move input on an outboard device once its region was filled.
use Rattle.std.proofs.Common.{◌≡◌, ℕ, ◌*◌, ◌/◌, ◌+◌, ◌≤◌, sym, ap, subst, ◌∙◌, length}
use Rattle.std.specs.Prelude.{Some, None, IsSome, find}
use Rattle.genie_base.specs.Counts.{span}
use Rattle.genie_base.specs.declared.event.Event.TheVariants.{Finish}
use Rattle.genie_base.specs.declared.reply.Reply.TheVariants as reply
use Rattle.genie_object.specs.declared.objects.Range.{Range}
use Rattle.genie_region.specs.declared.region.Region.{Region}
use Rattle.genie_model.specs.Refusing.{refuse}
use Rattle.genie_kernel.specs.declared.kernel.Kernel.{Kernel}
use Rattle.genie_kernel.specs.declared.transfer.Transfer.{Transfer}
use Rattle.genie_kernel.specs.Calls.{has_number}
use Rattle.genie_kernel.specs.Good.{IsGood}
use Rattle.genie_kernel.specs.View.{outline}
use Rattle.genie_changes.specs.Released.{BuffersShow, ReleasedEnds, ReleasedShows}
use Rattle.genie_arrivals.specs.declared.owned.OwnedRegion.{OwnedRegion}
use Rattle.genie_arrivals.specs.CopyLaws.{CopyLaws}
use Rattle.genie_arrivals.specs.EndLaws.{EndLaws}
use Rattle.genie_arrivals.specs.Live.{ChangeLaws, lively}
use Rattle.genie_arrivals.specs.Outboard.{waiting_bytes}
use Rattle.genie_arrivals.specs.OutboardMove.{FillsBytes, FillsPending}
use Rattle.genie_arrivals.specs.Paging.{EndsPaged}
use Rattle.genie_arrivals.specs.Pooled.{IsOwned}
use Rattle.genie_arrivals.specs.SwapLaws.{SwapLaws}
use Rattle.genie_arrivals.specs.Waiting.{EndsWaiting}
use Rattle.genie_arrivals.proofs.EndLanded.{same_call}
use Rattle.genie_arrivals.proofs.Found.{found_case}
use Rattle.genie_arrivals.proofs.MoveAim.{MoveAim, aim_had, aim_region, aim_same, aim_start, aim_within}
use Rattle.genie_arrivals.proofs.MoveLanded.{filled_good, move_landed}
use Rattle.genie_arrivals.proofs.Moving.{IsHad}
use Rattle.genie_arrivals.proofs.PooledShare.{some_owner}

module _ (laws : EndLaws) (change : ChangeLaws) (room : CopyLaws) (swap : SwapLaws) (show : BuffersShow) (end : ReleasedEnds) (release : ReleasedShows) (k : Kernel) (n : ℕ) (range : Range) (g : IsGood k) (accepted : refuse (outline k) (Finish n) ≡ None) (a : MoveAim k n range) (owner : IsOwned k n) (full : Kernel) (x : FillsPending n range k full) where
  abbrev r : Region
  r = a.to.owned.region

  same : x.transfer ≡ a.t
  same = same_call k n a.t x.transfer a.found x.found

  size : range.len ≡ length (waiting_bytes k.devices a.t)
  size = subst (λ (u : Transfer). range.len ≡ length (waiting_bytes k.devices u)) same x.size

  object : range.object.0 ≡ r.object.0
  object = (λ i. (a.to.object_is i).0)

  fills : FillsBytes k.memory full.memory r.object.0 0 (waiting_bytes k.devices a.t)
  fills =
      let one : FillsBytes k.memory full.memory range.object.0 range.off (waiting_bytes k.devices a.t) = subst (λ (u : Transfer). FillsBytes k.memory full.memory range.object.0 range.off (waiting_bytes k.devices u)) same x.fills in
      let two : FillsBytes k.memory full.memory r.object.0 range.off (waiting_bytes k.devices a.t) = subst (λ z. FillsBytes k.memory full.memory z range.off (waiting_bytes k.devices a.t)) object one in
      subst (λ z. FillsBytes k.memory full.memory r.object.0 z (waiting_bytes k.devices a.t)) (aim_start k n range g (aim_region k n range a)) two

  process : (p : ℕ) × (a.t.owner ≡ Some p)
  process = some_owner a.t.owner (found_case (λ (u : Transfer). IsSome u.owner) k n a.t owner a.found)

  pub over_good : IsGood full
  over_good = subst IsGood (sym x.only) (filled_good laws change swap show end release k n process.0 a.t a.to.owned full.memory g accepted a.found a.ready a.is process.1 (aim_had k n range g (aim_region k n range a)) fills)

  ends : (new : Kernel) (o : OwnedRegion) (had : IsHad k a.t o) → EndsWaiting n (record k { memory = full.memory }) new a.t → EndsPaged k n (lively new o.pid o.region.id.0 had.regions) (reply.Input (Some (o.region.start * k.config.page)) a.t.stored a.t.note)
  ends new o had z =
      let region = aim_same k n range g (aim_region k n range a) laws change room o had in
      let its : FillsBytes k.memory full.memory o.region.object.0 0 (waiting_bytes k.devices a.t) = subst (λ (q : Region). FillsBytes k.memory full.memory q.object.0 0 (waiting_bytes k.devices a.t)) region fills in
      let within : 0 / its.clear.frames.page + span its.clear.frames.page 0 (length (waiting_bytes k.devices a.t)) ≤ o.region.pages = subst (λ (q : Region). 0 / its.clear.frames.page + span its.clear.frames.page 0 (length (waiting_bytes k.devices a.t)) ≤ q.pages) region (aim_within k n range g (aim_region k n range a) laws change room its.clear.frames.page (length (waiting_bytes k.devices a.t)) (its.clears.keeps.page ∙ g.sized.page) (sym size ∙ a.to.size)) in
      move_landed laws change swap show end release k n process.0 a.t o full.memory g accepted a.found a.ready a.is process.1 had its within new z

  pub over_ends : (new : Kernel) (u : Transfer) (o : OwnedRegion) (had : IsHad k u o) → EndsWaiting n full new u → EndsPaged k n (lively new o.pid o.region.id.0 had.regions) (reply.Input (Some (o.region.start * k.config.page)) u.stored u.note)
  over_ends new u o had z =
      let one : EndsWaiting n (record k { memory = full.memory }) new u = subst (λ (j : Kernel). EndsWaiting n j new u) x.only z in
      subst (λ (w : Transfer). (h : IsHad k w o) → EndsWaiting n (record k { memory = full.memory }) new w → EndsPaged k n (lively new o.pid o.region.id.0 h.regions) (reply.Input (Some (o.region.start * k.config.page)) w.stored w.note)) (sym (same_call k n a.t u a.found one.found)) (ends new o) had one

pub over_spaces : (k full new : Kernel) (n : ℕ) (range : Range) (u : Transfer) → FillsPending n range k full → EndsWaiting n full new u → new.spaces ≡ k.spaces
over_spaces k full new n range u x z = ap (λ (j : Kernel). j.spaces) z.only ∙ ap (λ (j : Kernel). j.spaces) x.only

pub over_call : (k full new : Kernel) (n : ℕ) (range : Range) (u : Transfer) → FillsPending n range k full → EndsWaiting n full new u → find (has_number n) k.transfers ≡ Some u
over_call k full new n range u x z = sym (ap (λ (j : Kernel). find (has_number n) j.transfers) x.only) ∙ z.found
