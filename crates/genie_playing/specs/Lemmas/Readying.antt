-- A kernel stays ready where a handle is read or written.
use Rattle.std.proofs.Common.{ℕ}
use Rattle.genie_host.specs.Host.{HostView, OnlyHandle}
use Rattle.genie_store.specs.StoreView.{StoreView}
use Rattle.genie_kernel.specs.declared.kernel.Kernel.{Kernel}
use Rattle.genie_kernel.specs.Lemmas.OpenHandles.{handles_kept}
use Rattle.genie_playing.specs.Moments.{IsReady}

pub ready_kept : (handle : ℕ) (k : Kernel) (u w : HostView) (s : StoreView) → OnlyHandle handle u w → IsReady k u s → IsReady k w s
ready_kept handle k u w s only ready = record {
  good = ready.good;
  sized = ready.sized;
  handles_open = handles_kept k.config handle u w only ready.handles_open;
  unread = ready.unread;
}
