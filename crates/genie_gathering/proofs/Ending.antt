-- A datagram that meets no input is dropped.
use Rattle.std.proofs.Common.{◌≡◌, ℕ, Bool, List, refl, sym, ap, subst, ◌∙◌, set}
use Rattle.std.specs.Prelude.{Option, Some, None}
use Rattle.genie_base.specs.Posted.{first}
use Rattle.genie_base.specs.declared.reply.Reply.TheVariants as reply
use Rattle.genie_demux.specs.declared.input.Input.{Input}
use Rattle.genie_demux.specs.Posted.{address, number_of as posted_number}
use Rattle.genie_device.specs.Device.{DeviceView, finished}
use Rattle.genie_wire.specs.declared.header.Header.{Header}
use Rattle.genie_model.specs.Tables.{entry}
use Rattle.genie_model.specs.Lemmas.Lists.{entry_same}
use Rattle.genie_kernel.specs.declared.kernel.Kernel.{Kernel}
use Rattle.genie_gathering.specs.Delivering.{Delivers, DeliversTo, EndsRecord, Releases, released}
use Rattle.genie_gathering.proofs.Views.{set_again}

same_device : (a e : DeviceView) → Some a ≡ Some e → a ≡ e
same_device a e s = cc

pub drop_delivers : (k : Kernel) (d : ℕ) (h : Header) (so_far : ℕ) (truncated : Bool) (n : ℕ) (mid devices : List (Option DeviceView)) (posted : List Input) (buffer : ℕ) → posted_number (first address d h.port h.flow k.posted) ≡ None → posted ≡ k.posted → EndsRecord d k.devices mid buffer → Releases d buffer mid devices → Delivers d h so_far truncated n k (record k { devices = devices; posted = posted }) (reply.Dropped h.port h.flow h.len)
drop_delivers k d h so_far truncated n mid devices posted buffer none same e r =
    let here : entry mid d ≡ Some (finished e.before) = ap (λ ds. entry ds d) e.only ∙ entry_same k.devices d e.before (Some (finished e.before)) e.there in
    let before : r.before ≡ finished e.before = same_device r.before (finished e.before) (sym r.there ∙ here) in
    let now : devices ≡ set k.devices d (Some (released buffer (finished e.before))) = r.only ∙ (λ i. set (e.only i) d (Some (released buffer (before i)))) ∙ set_again k.devices d (Some (finished e.before)) (Some (released buffer (finished e.before))) in
    record {
      device = e.before;
      there = e.there;
      buffer = buffer;
      place = e.place;
      delivers = subst (λ o. DeliversTo o d h so_far truncated n e.before buffer k (record k { devices = devices; posted = posted }) (reply.Dropped h.port h.flow h.len)) (sym none) ((λ i. record k { devices = now i; posted = same i }), refl);
    }
