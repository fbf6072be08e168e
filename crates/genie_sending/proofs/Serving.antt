-- What a send step leaves, whatever it did.
use Rattle.std.proofs.Common.{◌≡◌, ℕ, ◌+◌, ◌≤◌, ◌<◌, Bool, true, false, List, [], ◌∷◌, refl, sym, ap, subst, ◌∙◌, length}
use Rattle.std.specs.Prelude.{Option, Some, None, IfSome, find, cond, ◌==◌}
use Rattle.std.specs.List.{list_any}
use Rattle.std.specs.Option.{option_map}
use Rattle.genie_base.specs.Bytes.{part}
use Rattle.genie_base.specs.Events.{mark_of}
use Rattle.genie_base.specs.declared.event.Event.TheVariants.{Send}
use Rattle.genie_base.specs.declared.reply.Reply.{Reply}
use Rattle.genie_base.specs.declared.reply.Reply.TheVariants as reply
use Rattle.genie_device.specs.Device.{DeviceView, handle_of}
use Rattle.genie_host.specs.Host.{HostView, OnlyHandle}
use Rattle.genie_object.specs.Sound.{IsSized}
use Rattle.genie_object.specs.Lemmas.Touching.{keeps_all}
use Rattle.genie_region.specs.declared.region.Region.{Region}
use Rattle.genie_store.specs.StoreView.{StoreView}
use Rattle.genie_model.specs.Lemmas.Lists.{find_none}
use Rattle.genie_model.specs.Pending as pending
use Rattle.genie_model.specs.Refusing.{refuse}
use Rattle.genie_model.specs.Sending.{named_bytes}
use Rattle.genie_model.specs.State as flat
use Rattle.genie_model.specs.Tables.{entry}
use Rattle.genie_kernel.specs.declared.kernel.Kernel.{Kernel}
use Rattle.genie_kernel.specs.declared.transfer.Loans.{Loans}
use Rattle.genie_kernel.specs.declared.transfer.Transfer.{Transfer}
use Rattle.genie_kernel.specs.Calls.{first_waiting, has_number, is_strong_call, region_number, waits_for}
use Rattle.genie_kernel.specs.Good.{IsGood}
use Rattle.genie_kernel.specs.Handles.{HasHandles}
use Rattle.genie_kernel.specs.Kept.{Kept}
use Rattle.genie_kernel.specs.Loans.{frames_of}
use Rattle.genie_kernel.specs.Regions.{has_id, owned_regions}
use Rattle.genie_kernel.specs.Steps.{DeviceCause, StepsAlone, StepsTold, bytes_over}
use Rattle.genie_kernel.specs.Told.{output_at}
use Rattle.genie_kernel.specs.Transfers.{transfer_view}
use Rattle.genie_kernel.specs.View.{outline, state_of, view}
use Rattle.genie_kernel.specs.Lemmas.Keeping.{calls_kept}
use Rattle.genie_kernel.specs.Lemmas.OpenHandles.{handles_kept}
use Rattle.genie_kernel.specs.Lemmas.Processes.{find_map}
use Rattle.genie_kernel.specs.Lemmas.Stepping.{alone_told}
use Rattle.genie_kernel.specs.Lemmas.Tidying.{tidy_view}
use Rattle.genie_changes.specs.Working.{Work, at_work, worked}
use Rattle.genie_sending.specs.Sending.{IsLentOut, SendsNext, payload_under, reply_of, sent_whole, transfers_after}
use Rattle.genie_sending.specs.Served.{HasPages, output_of}
use Rattle.genie_sending.specs.WorkLaws.{WorkLaws}
use Rattle.genie_sending.proofs.Lending.{IsSender, first_output, goes, lends, sender}
use Rattle.genie_sending.proofs.Marking.{idle_steps}
use Rattle.genie_sending.proofs.May.{its_handle, may_send}
use Rattle.genie_sending.proofs.Moves.{after_step}
use Rattle.genie_sending.proofs.Named.{its_number}
use Rattle.genie_sending.proofs.Orphaned.{orphan_shown}
use Rattle.genie_sending.proofs.Outputs.{IsFirstOutput}
use Rattle.genie_sending.proofs.Payload.{ShowsNow, strong_shown}
use Rattle.genie_sending.proofs.Regions.{region_shown}
use Rattle.genie_sending.proofs.Sent.{AreFull, sent_cause, sent_filled, sent_good, sent_told}
use Rattle.genie_sending.proofs.Staged.{staged_cause, staged_filled, staged_good, staged_told}
use Rattle.genie_changes.specs.Filling.{StepsFilled}
use Rattle.genie_changes.specs.Lemmas.Filling.{alone_filled}

-- the slots of a store that has the kernel's pages
pub full_slots : (k : Kernel) (store : StoreView) → IsSized k.memory store → HasPages store → IfSome store.slots (AreFull k)
full_slots k store sized pages = by store.slots pages
  where
    by : (o : Option (ℕ → List ℕ)) → IfSome o (λ (slots : ℕ → List ℕ). (s : ℕ) → s < store.count → length (slots s) ≡ store.page) → IfSome o (AreFull k)
    by None h = h
    by (Some slots) h = λ s l. h s (subst (λ n. s < n) (sym sized.count) l) ∙ sized.page

-- the flat machine has the bytes of the frames that are lent for an output
module _ (laws : WorkLaws) (k : Kernel) (g : IsGood k) (d : ℕ) (t : Transfer) (is : IsFirstOutput k.transfers d t) (lent : IsLentOut k.memory.frames t.len t.loans) (slots : ℕ → List ℕ) (full : AreFull k slots) where
  weak_shown : (weak : is_strong_call t ≡ false) (n : ℕ) → region_number t ≡ Some n → (o : Option Region) → find (has_id n) (owned_regions k.spaces.processes) ≡ o → (rests sents : ℕ → List ℕ) (j m : ℕ) → j + m ≤ t.len → named_bytes (state_of k (bytes_over k.memory slots rests sents)) (region_number t) (t.offset + j) m ≡ part j m (payload_under k.memory.frames t.loans)
  weak_shown weak n number (Some r) e rests sents j m l = region_shown laws.leaves k g d t is weak lent n number r e slots full rests sents j m l
  weak_shown weak n number None e rests sents j m l = orphan_shown laws k g d t is weak lent n number e slots rests sents j m l

  pub shows_now : ShowsNow k t slots
  shows_now = record {
    strong = λ e. strong_shown k g t slots e lent (lends k g d t is);
    weak = λ e. let named = its_number k g d t is e in weak_shown e named.0 named.1 (find (has_id named.0) (owned_regions k.spaces.processes)) refl;
  }

-- the loans of each transfer are as they were
loans_worked : (n : ℕ) (p : Transfer → Bool) (w : Work) (ts : List Transfer) → option_map (λ (t : Transfer). t.loans) (find (has_number n) (worked p w ts)) ≡ option_map (λ (t : Transfer). t.loans) (find (has_number n) ts)
loans_worked n p w [] = refl
loans_worked n p w (t ∷ ts) = elim (p t) as (λ b. option_map (λ (u : Transfer). u.loans) (find (has_number n) (cond b (at_work w t ∷ ts) (t ∷ worked p w ts))) ≡ option_map (λ (u : Transfer). u.loans) (cond (has_number n t) (Some t) (find (has_number n) ts))) [
  | true ↦ (elim (has_number n t) as (λ c. option_map (λ (u : Transfer). u.loans) (cond c (Some (at_work w t)) (find (has_number n) ts)) ≡ option_map (λ (u : Transfer). u.loans) (cond c (Some t) (find (has_number n) ts))) [ true ↦ refl | false ↦ refl ])
  | false ↦ (elim (has_number n t) as (λ c. option_map (λ (u : Transfer). u.loans) (cond c (Some t) (find (has_number n) (worked p w ts))) ≡ option_map (λ (u : Transfer). u.loans) (cond c (Some t) (find (has_number n) ts))) [ true ↦ refl | false ↦ loans_worked n p w ts ])
]

loans_after : (n : ℕ) (whole : Bool) (t : Transfer) (ts : List Transfer) → option_map (λ (u : Transfer). u.loans) (find (has_number n) (transfers_after whole t ts)) ≡ option_map (λ (u : Transfer). u.loans) (find (has_number n) ts)
loans_after n true t ts = loans_worked n (has_number t.id.0) (sent_whole t) ts
loans_after n false t ts = refl

same_loans : (o p : Option Transfer) (t u : Transfer) → o ≡ Some t → p ≡ Some u → option_map (λ (x : Transfer). x.loans) p ≡ option_map (λ (x : Transfer). x.loans) o → u.loans ≡ t.loans
same_loans o p t u a b e = let same : Some u.loans ≡ Some t.loans = sym (ap (option_map (λ (x : Transfer). x.loans)) b) ∙ e ∙ ap (option_map (λ (x : Transfer). x.loans)) a in cc

pub nothing_kept : (k : Kernel) → IsGood k → Kept k k
nothing_kept k g = calls_kept k k.memory g (keeps_all k.memory)

-- no frame is freed or gets another owner, and none is lent
pub step_kept : (k : Kernel) (g : IsGood k) (d : ℕ) (w : DeviceView) (whole : Bool) (t : Transfer) → Kept k (after_step k d w whole t)
step_kept k g d w whole t =
    let self = nothing_kept k g in
    record {
      lent = λ n f x y p on still. self.lent n f x x (record { was = p.was; is = p.was }) on on;
      pooled = λ j f on still. self.pooled j f on on;
      fresh = λ n f x y p unready on. subst (λ (l : Loans). list_any (λ i. i == f) (frames_of l) ≡ true) (same_loans (find (has_number n) k.transfers) (find (has_number n) (transfers_after whole t k.transfers)) x y p.was p.is (loans_after n whole t k.transfers)) on;
    }

module _ (laws : WorkLaws) (k : Kernel) (g : IsGood k) (d n : ℕ) (accepted : refuse (outline k) (Send d n) ≡ None) (before after : HostView) (handles : HasHandles k.config before) (new : Kernel) (r : Reply) (h : SendsNext d n before after k new r) where
  abbrev t : Transfer
  t = h.output

  abbrev v : DeviceView
  v = h.steps.device

  is : IsFirstOutput k.transfers d t
  is = first_output k d t g h.waits

  from : IsSender k d n
  from = sender k d n g accepted

  same_device : v ≡ from.device
  same_device = let e : Some v ≡ Some from.device = sym h.steps.there ∙ from.there in cc

  output_is : v.config.output ≡ Some from.handle
  output_is = ap (λ (z : DeviceView). z.config.output) same_device ∙ its_handle k d n from

  handle_is : handle_of v.config.output ≡ from.handle
  handle_is = ap handle_of output_is

  named : output_at (entry k.config.devices d) ≡ Some (handle_of v.config.output)
  named = ap output_at from.configured ∙ from.output ∙ ap Some (sym handle_is)

  served_by : handle_of v.config.output ≡ output_of k.config d
  served_by = sym (ap handle_of named)

  lent : IsLentOut k.memory.frames t.len t.loans
  lent = (may_send k g d n t is from).lent

  kernel_is : new ≡ after_step k d h.steps.then_is h.step.whole t
  kernel_is = h.kernel ∙ (λ i. record k { devices = h.steps.others i; transfers = transfers_after h.step.whole t k.transfers })

  record Leaves (z : Kernel) : Type 0 where
    good : IsGood z
    cause : DeviceCause (mark_of (reply_of h.step)) (before.handle (handle_of v.config.output)).faults (after.handle (handle_of v.config.output)).faults
    told : (store : StoreView) → IfSome store.slots (AreFull k) → StepsTold (view k before store) (Send d n) (view z after store) (reply_of h.step)
    filled : (store : StoreView) → IfSome store.slots (AreFull k) → StepsFilled k (Send d n) z (reply_of h.step) before after store store

  leaves_by : (staged : Bool) → h.step.staged ≡ staged → Leaves (after_step k d h.steps.then_is h.step.whole t)
  leaves_by true e =
      let some = sym h.steps.steps.staged ∙ e in
      let does = h.steps.steps.stages e in
      let going = goes k g d t is v h.steps.there in
      record {
        good = staged_good laws k g d n accepted t is v h.steps.then_is h.steps.there going h.step before after e some lent does;
        cause = staged_cause laws k g d n accepted t is v h.steps.then_is h.steps.there going h.step before after e some lent does;
        told = staged_told laws k g d n accepted t is v h.steps.then_is h.steps.there going h.step before after e some lent does handles h.steps.steps.host named (shows_now laws k g d t is lent);
        filled = staged_filled laws k g d n accepted t is v h.steps.then_is h.steps.there going h.step before after e some lent does handles h.steps.steps.host named (shows_now laws k g d t is lent);
      }
  leaves_by false e =
      let none = sym h.steps.steps.staged ∙ e in
      let does = h.steps.steps.sends e in
      let going = goes k g d t is v h.steps.there in
      record {
        good = sent_good laws k g d n accepted t is v h.steps.then_is h.steps.there going h.step before after e none does;
        cause = sent_cause laws k g d n accepted t is v h.steps.then_is h.steps.there going h.step before after e none does;
        told = sent_told laws k g d n accepted t is v h.steps.then_is h.steps.there going h.step before after e none does handles named lent (shows_now laws k g d t is lent);
        filled = sent_filled laws k g d n accepted t is v h.steps.then_is h.steps.there going h.step before after e none does handles named lent (shows_now laws k g d t is lent);
      }

  leaves : Leaves new
  leaves = subst Leaves (sym kernel_is) (leaves_by h.step.staged refl)

  pub served_good : IsGood new
  served_good = leaves.good

  pub served_kept : Kept k new
  served_kept = subst (Kept k) (sym kernel_is) (step_kept k g d h.steps.then_is h.step.whole t)

  pub served_config : new.config ≡ k.config
  served_config = ap (λ (z : Kernel). z.config) kernel_is

  pub served_numbers : new.next ≡ k.next
  served_numbers = ap (λ (z : Kernel). z.next) kernel_is

  pub served_memory : new.memory ≡ k.memory
  served_memory = ap (λ (z : Kernel). z.memory) kernel_is

  pub served_only : OnlyHandle (output_of k.config d) before after
  served_only = subst (λ a. OnlyHandle a before after) served_by h.steps.steps.host

  pub served_handles : HasHandles new.config after
  served_handles = subst (λ c. HasHandles c after) (sym served_config) (handles_kept k.config (output_of k.config d) before after served_only handles)

  pub served_step : (store : StoreView) → IsSized k.memory store → HasPages store → StepsTold (view k before store) (Send d n) (view new after store) r
  served_step store sized pages = subst (StepsTold (view k before store) (Send d n) (view new after store)) (sym h.reply_is) (leaves.told store (full_slots k store sized pages))

  pub served_filled : (store : StoreView) → IsSized k.memory store → HasPages store → StepsFilled k (Send d n) new r before after store store
  served_filled store sized pages = subst (λ x. StepsFilled k (Send d n) new x before after store store) (sym h.reply_is) (leaves.filled store (full_slots k store sized pages))

  pub served_cause : DeviceCause (mark_of r) (before.handle (output_of k.config d)).faults (after.handle (output_of k.config d)).faults
  served_cause = subst (λ z. DeviceCause (mark_of z) (before.handle (output_of k.config d)).faults (after.handle (output_of k.config d)).faults) (sym h.reply_is)
      (subst (λ a. DeviceCause (mark_of (reply_of h.step)) (before.handle a).faults (after.handle a).faults) served_by leaves.cause)

-- no output waits
idle_alone : (k : Kernel) (d n : ℕ) → list_any (waits_for d) k.transfers ≡ false → StepsAlone k (Send d n) k reply.Idle
idle_alone k d n none = λ slots rests sents.
    let b = bytes_over k.memory slots rests sents in
    let see : Transfer → flat.Transfer = transfer_view b.seen.kept_bytes k.devices k.pools (first_waiting k.transfers) in
    idle_steps (state_of k b) d n (tidy_view k b) (find_map (pending.waits_for d) see k.transfers ∙ ap (option_map see) (find_none (waits_for d) k.transfers none))

pub idle_told : (k : Kernel) (d n : ℕ) (host : HostView) (store : StoreView) → refuse (outline k) (Send d n) ≡ None → list_any (waits_for d) k.transfers ≡ false → StepsTold (view k host store) (Send d n) (view k host store) reply.Idle
idle_told k d n host store accepted none = alone_told k k (Send d n) reply.Idle host store accepted refl (idle_alone k d n none)

pub idle_filled : (k : Kernel) (d n : ℕ) (host : HostView) (store : StoreView) → refuse (outline k) (Send d n) ≡ None → list_any (waits_for d) k.transfers ≡ false → StepsFilled k (Send d n) k reply.Idle host host store store
idle_filled k d n host store accepted none = alone_filled k k (Send d n) reply.Idle host store accepted (idle_alone k d n none)
