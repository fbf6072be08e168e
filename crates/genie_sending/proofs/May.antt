-- A device may go on with the record of the first output that waits for it.
use Rattle.std.proofs.Common.{◌≡◌, ℕ, ◌*◌, ◌%◌, ◌^◌, ◌<◌, ◌≤◌, refl, sym, ap, subst, arith, ◌∙◌}
use Rattle.std.specs.Prelude.{Some, IfSome}
use Rattle.genie_base.specs.Configs.{most}
use Rattle.genie_base.specs.Counts.{span}
use Rattle.genie_base.specs.declared.config.DeviceConfig.{DeviceConfig}
use Rattle.genie_base.specs.declared.config.Kind.{Kind}
use Rattle.genie_base.specs.declared.config.Kind.TheVariants.{Early, Pooled, Outboard}
use Rattle.genie_device.specs.Device.{IsWriting}
use Rattle.genie_host.specs.Host.{HostView, Writing}
use Rattle.genie_plan.specs.Loans.{loan_times, output_kind}
use Rattle.genie_model.specs.Tables.{entry}
use Rattle.genie_kernel.specs.declared.kernel.Kernel.{Kernel}
use Rattle.genie_kernel.specs.declared.transfer.Loans.{Loans}
use Rattle.genie_kernel.specs.declared.transfer.Loans.TheVariants.{Nothing, Outward, Inward}
use Rattle.genie_kernel.specs.declared.transfer.Transfer.{Transfer}
use Rattle.genie_kernel.specs.Calls.{is_strong_call}
use Rattle.genie_kernel.specs.Good.{IsGood}
use Rattle.genie_kernel.specs.Handles.{HasHandles, IsOpen}
use Rattle.genie_kernel.specs.Loans.{loans_of}
use Rattle.genie_kernel.specs.Planned.{LendsOut}
use Rattle.genie_sending.specs.Sending.{IsLentOut, IsWritingAt, MaySend, MaySendAt}
use Rattle.genie_sending.proofs.Lending.{IsSender, begins_there, fits, goes, lends, page_most, sendable}
use Rattle.genie_sending.proofs.Outputs.{IsFirstOutput}

most_below : (kind : Kind) (page : ℕ) → page ≤ 4096 → most kind page ≤ 64 * 4096
most_below Early page h = omega (arith, h)
most_below Pooled page h = omega (arith, h)
most_below Outboard page h = omega (arith, h)

module _ (k : Kernel) (g : IsGood k) (d n : ℕ) (t : Transfer) (is : IsFirstOutput k.transfers d t) (s : IsSender k d n) where
  short : t.len < 2 ^ 31
  short =
      let inside = fits k g d t is s.device s.there in
      let most = most_below s.config.kind k.config.page (page_most k g d t is) in
      let limit = s.is_of.limit in
      omega (arith, inside, most, limit)

  pub lent_by : (loans : Loans) → t.loans ≡ loans → LendsOut k.config.page t loans → IsLentOut k.memory.frames t.len loans
  lent_by Nothing e h = absurd h
  lent_by (Outward p) e h =
      let begins = begins_there t is.outward in
      sendable k g d t is p.loans.items p.first p.len
      (record { kinds = h.0; pages = h.1.pages ∙ ap (λ at. span k.config.page at t.len) begins; begins = h.1.begins ∙ ap (λ at. at % k.config.page) begins; long = h.1.length_kept })
      (λ f. ap (λ l. loan_times (loans_of l) (output_kind (is_strong_call t)) f) e) short
  lent_by (Inward p) e h = absurd h

  pub may_send : MaySend k.memory.frames s.device t
  may_send =
      let going = goes k g d t is s.device s.there in
      record {
        lent = lent_by t.loans refl (lends k g d t is);
        short = short;
        memory = λ outboard. fits k g d t is s.device s.there;
        unsent = going.unsent;
        unstaged = going.staged;
      }

  pub may_send_at : MaySendAt k.memory.frames (entry k.devices d) t
  may_send_at = subst (λ o. MaySendAt k.memory.frames o t) (sym s.there) may_send

-- the handle of the device's output
pub its_handle : (k : Kernel) (d n : ℕ) (s : IsSender k d n) → s.device.config.output ≡ Some s.handle
its_handle k d n s = ap (λ (c : DeviceConfig). c.output) s.is_of.config ∙ s.output

pub writing_at : (k : Kernel) (d n : ℕ) (s : IsSender k d n) (host : HostView) → HasHandles k.config host → IsWritingAt (entry k.devices d) host
writing_at k d n s host h =
    let open_one : IsOpen host s.config = subst (λ o. IfSome o (IsOpen host)) s.configured (h.open_each d) in
    let mode : (host.handle s.handle).mode ≡ Writing = subst (λ o. IfSome o (λ a. (host.handle a).mode ≡ Writing)) s.output open_one.output in
    subst (λ o. IsWritingAt o host) (sym s.there) (subst (λ o. IsWriting o host) (sym (its_handle k d n s)) mode)
