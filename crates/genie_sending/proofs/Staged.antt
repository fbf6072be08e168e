-- What a step that stages leaves.
use Rattle.std.proofs.Common.{append-nil, ◌≡◌, ℕ, ◌+◌, ◌-◌, ◌<◌, ◌≤◌, Bool, true, false, List, [], ◌++◌, refl, sym, ap, subst, arith, ◌∙◌, set, length, drop, map, filter, append_assoc, take-append-drop, length-append}
use Rattle.std.specs.Prelude.{Option, Some, None, AllPairs, IfSome, min, nat_lt, if◌then◌else◌}
use Rattle.std.specs.Io.KnownBytes.{Appends}
use Rattle.std.proofs.lemmas.Bool.{and_parts}
use Rattle.std.proofs.lemmas.List.{drop-drop}
use Rattle.genie_base.specs.Bytes.{part}
use Rattle.genie_base.specs.Events.{mark_of}
use Rattle.genie_base.specs.Lemmas.Runs.{part_size}
use Rattle.genie_base.specs.declared.event.Event.TheVariants.{Send}
use Rattle.genie_base.specs.declared.reply.Reply.TheVariants as reply
use Rattle.genie_device.specs.Device.{DeviceView, StagesPayload, handle_of, is_outboard as is_outboard_kind, stages}
use Rattle.genie_device.specs.declared.steps.SendStep.{SendStep}
use Rattle.genie_host.specs.Host.{HostView, OnlyHandle}
use Rattle.genie_store.specs.StoreView.{StoreView}
use Rattle.genie_orderly.specs.Orderly.{IsOrderly}
use Rattle.genie_model.specs.Pending as pending
use Rattle.genie_model.specs.Refusing.{refuse}
use Rattle.genie_model.specs.Sending.{after_staging, must_stage, named_bytes, stage_bytes, staged_now}
use Rattle.genie_model.specs.Space.{cut, is_named, tidy}
use Rattle.genie_model.specs.State as flat
use Rattle.genie_model.specs.Tables.{change, entry}
use Rattle.genie_kernel.specs.declared.kernel.Kernel.{Kernel}
use Rattle.genie_kernel.specs.declared.transfer.Transfer.{Transfer}
use Rattle.genie_kernel.specs.Calls.{is_strong_call, region_number}
use Rattle.genie_kernel.specs.Good.{IsGood}
use Rattle.genie_kernel.specs.Handles.{HasHandles}
use Rattle.genie_kernel.specs.Matching.{IsSendingFor}
use Rattle.genie_kernel.specs.Orphans.{lent_bytes}
use Rattle.genie_kernel.specs.Steps.{DeviceCause, Steps, StepsTold, bytes_over}
use Rattle.genie_kernel.specs.Told.{output_at}
use Rattle.genie_kernel.specs.Transfers.{transfers_view, unstaged}
use Rattle.genie_kernel.specs.View.{Bytes, no_bytes, outline, state_of, view}
use Rattle.genie_kernel.specs.Lemmas.Tidying.{tidy_view}
use Rattle.genie_sending.specs.Sending.{IsLentOut, payload_under, reply_of, transfers_after}
use Rattle.genie_sending.specs.WorkLaws.{WorkLaws}
use Rattle.genie_sending.proofs.Apart.{inputs_differ, output_here, outputs_differ, no_input}
use Rattle.genie_sending.proofs.Blind.{SameButPayloads, bare, changed_alike, cut_alike, payloads_blind}
use Rattle.genie_sending.proofs.Devices.{more_sent, with_output}
use Rattle.genie_sending.proofs.Good.{going_rest, good_with}
use Rattle.genie_sending.proofs.Marking.{staged_steps}
use Rattle.genie_sending.proofs.Moves.{after_step, nothing_sent}
use Rattle.genie_sending.proofs.Outputs.{IsFirstOutput, going_on, sending_view}
use Rattle.genie_sending.proofs.Payload.{ShowsNow, payload_length}
use Rattle.genie_sending.proofs.Sent.{AreFull}
use Rattle.genie_sending.proofs.States.{first_is, kinds_same, must_stage_is, same_devices, staged_state}
use Rattle.genie_sending.proofs.Telling.{filled_steps, told_steps}
use Rattle.genie_changes.specs.Filling.{StepsFilled}

nothing_appended : (a : Option (List ℕ)) → Appends a a []
nothing_appended None = tt
nothing_appended (Some x) = sym (append-nil x)

-- staged bytes and the rest are all
strong_joined : (staged all : List ℕ) (m : ℕ) → length (part (length staged) m all) ≡ m → (staged ++ part (length staged) m all) ++ drop (length (staged ++ part (length staged) m all)) all ≡ (staged ++ drop (length staged) all) ++ []
strong_joined staged all m size =
    let j : ℕ = length staged in
    let piece : List ℕ = part j m all in
    let long : length (staged ++ piece) ≡ j + m = length-append staged piece ∙ ap (λ z. j + z) size in
    append_assoc staged piece (drop (length (staged ++ piece)) all)
    ∙ ap (λ z. staged ++ (piece ++ drop z all)) long
    ∙ ap (λ z. staged ++ (piece ++ z)) (sym (drop-drop m j all))
    ∙ ap (λ z. staged ++ z) (take-append-drop m (drop j all))
    ∙ sym (append-nil (staged ++ drop j all))

module _ (laws : WorkLaws) (k : Kernel) (g : IsGood k) (d n : ℕ) (accepted : refuse (outline k) (Send d n) ≡ None) (t : Transfer) (is : IsFirstOutput k.transfers d t) (v w : DeviceView) (there : entry k.devices d ≡ Some v) (goes : IsSendingFor v t) (step : SendStep) (before after : HostView) (has_staged : step.staged ≡ true) (stages_some : stages v.config.kind v.staged t.len ≡ true) (lent : IsLentOut k.memory.frames t.len t.loans) (h : StagesPayload n before after v w (payload_under k.memory.frames t.loans) step) where
  abbrev payload : List ℕ
  payload = payload_under k.memory.frames t.loans

  abbrev m : ℕ
  m = step.moved

  abbrev piece : List ℕ
  piece = part (length v.staged) m payload

  abbrev staged : List ℕ
  staged = v.staged ++ piece

  abbrev new : DeviceView
  new = with_output staged v.sent v

  abbrev us : List (Option DeviceView)
  us = set k.devices d (Some new)

  abbrev then_is : Kernel
  then_is = record k { devices = us }

  all : length payload ≡ t.len
  all = payload_length k.memory.frames t.len t.loans lent

  count : m ≡ min n (t.len - length v.staged)
  count = h.moved ∙ ap (λ z. min n (z - length v.staged)) all

  fits : length v.staged + m ≤ t.len
  fits = let c = count in let l = goes.staged in omega (arith, c, l)

  size : length piece ≡ m
  size = let f = fits in let a = all in part_size (length v.staged) m payload (omega (arith, f, a))

  staged_size : length staged ≡ length v.staged + m
  staged_size = length-append v.staged piece ∙ ap (λ z. length v.staged + z) size

  abbrev seen_as : Bytes → flat.Transfer
  seen_as b = sending_view b.seen.kept_bytes t v

  must : (b : Bytes) → must_stage (state_of k b) d (seen_as b) ≡ true
  must b = must_stage_is k b d t v there is ∙ stages_some

  order : AllPairs (λ (x y : Transfer). x.id.0 < y.id.0) k.transfers
  order = (laws.rise k g).order

  -- the outline, of which the payload has other bytes
  abbrev b0 : Bytes
  b0 = no_bytes k.config.page

  abbrev zeros : ℕ → List ℕ
  zeros = b0.seen.kept_bytes

  abbrev s0 : flat.State
  s0 = outline k

  abbrev s1 : flat.State
  s1 = stage_bytes s0 d (seen_as b0) m

  abbrev views : List flat.Transfer
  views = transfers_view zeros us k.pools k.transfers

  as_new : flat.Transfer → flat.Transfer
  as_new u = record u { staged = u.staged + m; payload = staged ++ unstaged zeros t (length staged) }

  changed_one : sending_view zeros t new ≡ as_new (seen_as b0)
  unfolding as_new
  changed_one = λ i. record (seen_as b0) { staged = staged_size i; payload = staged ++ unstaged zeros t (length staged) }

  changed_views : views ≡ change (pending.waits_for d) as_new s0.transfers
  changed_views = going_on k.transfers d t is zeros k.devices k.pools v there staged v.sent as_new order changed_one

  alike : SameButPayloads views s1.transfers
  unfolding as_new
  alike = ap (map bare) changed_views ∙ changed_alike (pending.waits_for d) as_new (after_staging m (staged_now s0 m (seen_as b0))) (λ u. refl) s0.transfers

  outline_is : outline then_is ≡ record s1 { transfers = views }
  outline_is = λ i. record s0 { transfers = views; devices = same_devices k b0 d t v there is staged i }

  tidied_new : tidy (record s1 { transfers = views }) ≡ record s1 { transfers = views }
  tidied_new = subst (λ z. tidy z ≡ z) outline_is (tidy_view then_is b0)

  tidied_old : tidy s1 ≡ s1
  tidied_old =
      let orphans : map (cut s1.transfers) (filter (is_named s1.transfers) s1.orphans) ≡ s1.orphans = sym (cut_alike s1.transfers views alike s1.orphans) ∙ ap (λ (z : flat.State). z.orphans) tidied_new in
      λ i. record s1 { orphans = orphans i }

  orderly : IsOrderly (outline then_is)
  orderly =
      let steps : Steps s0 (Send d n) s1 (reply.Staged m) = staged_steps s0 d n (seen_as b0) (first_is k b0 d t v there is) m s1 (must b0) count tidied_old refl in
      let o : IsOrderly s1 = laws.orderly s0 s1 (Send d n) (reply.Staged m) refl accepted steps g.orderly in
      subst IsOrderly (sym outline_is) (payloads_blind s1.transfers views alike s1 tidied_new o)

  still : IsSendingFor new t
  still =
      let long = staged_size in
      let f = fits in
      record {
        unsent = goes.unsent;
        staged = omega (arith, long, f);
        memory = λ e. let outboard = (and_parts (is_outboard_kind v.config.kind) (nat_lt (length v.staged) t.len) stages_some).0 in let never : true ≡ false = sym (kinds_same v.config.kind ∙ outboard) ∙ e in absurd (cc);
      }

  good_new : IsGood then_is
  good_new = good_with k g d t is v there staged v.sent k.transfers (going_rest k g d t is v there staged v.sent still) orderly

  kernel_is : after_step k d w step.whole t ≡ then_is
  kernel_is = λ i. record k { devices = set k.devices d (Some (h.device i)); transfers = transfers_after (h.whole i) t k.transfers }

  said : reply_of step ≡ reply.Staged m
  said = ap (λ c. if c then reply.Fault step.moved else (if step.staged then reply.Staged step.moved else reply.Sent step.moved)) h.faulted ∙ ap (λ c. if c then reply.Staged step.moved else reply.Sent step.moved) has_staged

  pub staged_good : IsGood (after_step k d w step.whole t)
  staged_good = subst IsGood (sym kernel_is) good_new

  abbrev handle : ℕ
  handle = handle_of v.config.output

  pub staged_cause : DeviceCause (mark_of (reply_of step)) (before.handle handle).faults (after.handle handle).faults
  staged_cause = subst (λ r. DeviceCause (mark_of r) (before.handle handle).faults (after.handle handle).faults) (sym said) (ap (λ (z : HostView). (z.handle handle).faults) h.host)

  module _ (handles : HasHandles k.config before) (only : OnlyHandle handle before after) (named : output_at (entry k.config.devices d) ≡ Some handle) (shows : (slots : ℕ → List ℕ) → AreFull k slots → ShowsNow k t slots) where
    module _ (slots : ℕ → List ℕ) (is_full : AreFull k slots) (rests sents : ℕ → List ℕ) where
      abbrev b : Bytes
      b = bytes_over k.memory slots rests sents

      abbrev s : flat.State
      s = state_of k b

      abbrev kept : ℕ → List ℕ
      kept = b.seen.kept_bytes

      payload_by : (strong : Bool) → is_strong_call t ≡ strong → staged ++ unstaged kept t (length staged) ≡ (v.staged ++ unstaged kept t (length v.staged)) ++ staged_now s m (seen_as b)
      payload_by true e =
          let lent_is = (shows slots is_full).strong e in
          let left : (z : ℕ) → unstaged kept t z ≡ drop z payload = λ z. ap (λ c. if c then drop z (lent_bytes kept t) else []) e ∙ ap (drop z) lent_is in
          ap (λ l. staged ++ l) (left (length staged)) ∙ strong_joined v.staged payload m size
          ∙ (λ i. (v.staged ++ sym (left (length v.staged)) i) ++ (if sym e i then [] else named_bytes s (region_number t) (t.offset + length v.staged) m))
      payload_by false e =
          let none : (z : ℕ) → unstaged kept t z ≡ [] = λ z. ap (λ c. if c then drop z (lent_bytes kept t) else []) e in
          let f = fits in
          let shown = (shows slots is_full).weak e rests sents (length v.staged) m f in
          ap (λ l. staged ++ l) (none (length staged)) ∙ append-nil staged
          ∙ (λ i. sym (append-nil v.staged) i ++ sym shown i)
          ∙ (λ i. (v.staged ++ sym (none (length v.staged)) i) ++ (if sym e i then [] else named_bytes s (region_number t) (t.offset + length v.staged) m))

      here : sending_view kept t new ≡ after_staging m (staged_now s m (seen_as b)) (seen_as b)
      here = λ i. record (seen_as b) { payload = payload_by (is_strong_call t) refl i; staged = staged_size i }

      real_steps : Steps s (Send d n) (state_of then_is (more_sent b d [])) (reply.Staged m)
      real_steps =
          let state : state_of then_is (more_sent b d []) ≡ stage_bytes s d (seen_as b) m = ap (state_of then_is) (nothing_sent b d [] refl) ∙ staged_state k b d t v there is order m piece here in
          staged_steps s d n (seen_as b) (first_is k b d t v there is) m (state_of then_is (more_sent b d [])) (must b) count (tidy_view then_is (more_sent b d [])) state

    told_new : (store : StoreView) → IfSome store.slots (AreFull k) → StepsTold (view k before store) (Send d n) (view then_is after store) (reply.Staged m)
    told_new store full = told_steps d handle [] before after k.config (output_here k.config.devices handles.apart d handle named) (outputs_differ k.config.devices handles.apart d handle named) (inputs_differ k.config.devices handles.apart d handle named) only.others
        (subst (λ (z : HostView). Appends (before.handle handle).bytes (z.handle handle).bytes []) (sym h.host) (nothing_appended (before.handle handle).bytes))
        k then_is (Send d n) (reply.Staged m) accepted refl refl refl (AreFull k) store full real_steps

    pub staged_told : (store : StoreView) → IfSome store.slots (AreFull k) → StepsTold (view k before store) (Send d n) (view (after_step k d w step.whole t) after store) (reply_of step)
    staged_told store full = subst (λ z. StepsTold (view k before store) (Send d n) (view z after store) (reply_of step)) (sym kernel_is) (subst (StepsTold (view k before store) (Send d n) (view then_is after store)) (sym said) (told_new store full))

    filled_new : (store : StoreView) → IfSome store.slots (AreFull k) → StepsFilled k (Send d n) then_is (reply.Staged m) before after store store
    filled_new store full = filled_steps d handle n [] before after k then_is (reply.Staged m) named (no_input k.config.devices handles.apart d handle named) only.others
        (subst (λ (z : HostView). Appends (before.handle handle).bytes (z.handle handle).bytes []) (sym h.host) (nothing_appended (before.handle handle).bytes))
        accepted refl (AreFull k) store full real_steps

    pub staged_filled : (store : StoreView) → IfSome store.slots (AreFull k) → StepsFilled k (Send d n) (after_step k d w step.whole t) (reply_of step) before after store store
    staged_filled store full = subst (λ z. StepsFilled k (Send d n) z (reply_of step) before after store store) (sym kernel_is) (subst (λ y. StepsFilled k (Send d n) then_is y before after store store) (sym said) (filled_new store full))
