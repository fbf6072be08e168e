-- How many pages an output call gets from the store.
use Rattle.std.proofs.Common.{◌≡◌, ℕ, ◌≤◌, ◌+◌, Bool, true, false, List, subst, sym, ap, arith, ◌∙◌}
use Rattle.std.specs.Prelude.{Some}
use Rattle.std.specs.Option.{option_map}
use Rattle.genie_base.specs.Counts.{span}
use Rattle.genie_frame.specs.declared.frame.Meters.{Meters}
use Rattle.genie_frame.specs.FrameTable.{FrameTable}
use Rattle.genie_store.specs.StoreView.{StoreView}
use Rattle.genie_object.specs.declared.objects.Range.{Range}
use Rattle.genie_region.specs.declared.region.Region.{Region}
use Rattle.genie_kernel.specs.declared.kernel.Kernel.{Kernel}
use Rattle.genie_changes.specs.Making.{IsMoved}
use Rattle.genie_copying.specs.Getting.{number_of}
use Rattle.genie_copying.specs.Ranges.{pages_at, pages_in, pages_reached}
use Rattle.genie_outputs.specs.declared.call.Call.{Call}
use Rattle.genie_outputs.specs.Answering.{IsReady}
use Rattle.genie_outputs.specs.Calls.{Reaches, range_of}
use Rattle.genie_outputs.specs.Sharing.{WiredUnless}

-- what comes after the pages are lent gets none
pub got_left : (n : ℕ) (a b left : Meters) → left ≡ b → b.gets ≤ a.gets + n → left.gets ≤ a.gets + n
got_left n a b left e l = subst (λ (z : Meters). z.gets ≤ a.gets + n) (sym e) l

pub got_wired : (emulated : Bool) (frames : List ℕ) (n : ℕ) (a : Meters) (b left : FrameTable) → WiredUnless emulated frames b left → b.meters.gets ≤ a.gets + n → left.meters.gets ≤ a.gets + n
got_wired true frames n a b left w l = got_left n a b.meters left.meters (ap (λ (t : FrameTable). t.meters) w) l
got_wired false frames n a b left w l = got_left n a b.meters left.meters w.only.meters l

-- room was made, and then no more pages came than the call reaches
pub got_reached : (k mid new : Kernel) (c : Call) (r : Region) (range : Range) (u v : StoreView) → IsMoved k mid u v → IsReady mid c r range v → mid.memory.frames.meters.gets ≡ k.memory.frames.meters.gets → new.memory.frames.meters.gets ≤ mid.memory.frames.meters.gets + span mid.memory.frames.page range.off range.len → new.memory.frames.meters.gets ≤ k.memory.frames.meters.gets + number_of (pages_reached k c.pid c.addr c.len)
got_reached k mid new c r range u v moved ready none s =
    let reaches : Reaches k c r = subst (λ (z : Kernel). Reaches z c r) moved.only ready.reached in
    let is : range ≡ range_of k.config.page c r = subst (λ (z : Kernel). range ≡ range_of z.config.page c r) moved.only ready.range_is in
    let pages : pages_reached k c.pid c.addr c.len ≡ Some (pages_at k.config.page range.object.0 range.off range.len) = ap (option_map (pages_in k.config.page c.addr c.len)) reaches ∙ ap (λ (z : Range). Some (pages_at k.config.page z.object.0 z.off z.len)) (sym is) in
    let size : mid.memory.frames.page ≡ k.config.page = ready.good.sized.page ∙ ap (λ (z : Kernel). z.config.page) moved.only in
    let found : span mid.memory.frames.page range.off range.len ≡ number_of (pages_reached k c.pid c.addr c.len) = ap (λ z. span z range.off range.len) size ∙ ap number_of (sym pages) in
    omega (arith, none, found, s)
