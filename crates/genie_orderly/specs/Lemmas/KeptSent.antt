-- A receive step leaves each device what it is, and sends nothing.
use Rattle.std.proofs.Common.{◌≡◌, ℕ, List, refl, sym, ap, ◌∙◌}
use Rattle.std.specs.Prelude.{Option, Some, None, slice_set, ⊤}
use Rattle.genie_model.specs.Sending.{sent_by, sent_of}
use Rattle.genie_model.specs.State.{State, Device}
use Rattle.genie_model.specs.Tables.{entry}
use Rattle.genie_orderly.specs.Orderly.{shape_of}
use Rattle.genie_model.specs.Sending.{change_device}
use Rattle.genie_model.specs.Receiving.{receiving, recv}
use Rattle.genie_model.specs.Lemmas.Lists.{entry_set}
use Rattle.genie_model.specs.Lemmas.ReceiveSteps.{recv_does, any_answer}

-- devices are as before, and nothing more was sent
pub record Keeps (s t : State) : Type 0 where
  pub devices : (n : ℕ) → shape_of (entry t.devices n) ≡ shape_of (entry s.devices n)
  pub sent : (n : ℕ) → sent_of t n ≡ sent_of s n

device_sent : (v : Device) (x : Option Device) → sent_by (change_device (receiving v) x) ≡ sent_by x
device_sent v None = refl
device_sent v (Some old) = refl

table_sent : (v : Device) (xs : List (Option Device)) (d n : ℕ) → sent_by (entry (slice_set xs d (change_device (receiving v) (entry xs d))) n) ≡ sent_by (entry xs n)
table_sent v xs d n = entry_set (λ (o : Option Device). sent_by o ≡ sent_by (entry xs n)) xs d n (change_device (receiving v) (entry xs d)) refl (λ e. rw e (device_sent v (entry xs d)))

-- where a device is changed and keeps its shape
pub table_shapes : (f : Device → Device) (xs : List (Option Device)) (d n : ℕ) → shape_of (change_device f (entry xs d)) ≡ shape_of (entry xs d) → shape_of (entry (slice_set xs d (change_device f (entry xs d))) n) ≡ shape_of (entry xs n)
table_shapes f xs d n same = entry_set (λ (o : Option Device). shape_of o ≡ shape_of (entry xs n)) xs d n (change_device f (entry xs d)) refl (λ e. rw e same)

device_shape : (v : Device) (x : Option Device) → shape_of x ≡ Some (v.kind, v.depth) → shape_of (change_device (receiving v) x) ≡ shape_of x
device_shape v None has = refl
device_shape v (Some old) has = sym has

pub recv_quiet : (s : State) (d n : ℕ) → Keeps s (recv s d n).0
recv_quiet s d n = (recv_does (Keeps s) (λ kind depth. shape_of (entry s.devices d) ≡ Some (kind, depth)) (λ _. ⊤) d
    (λ t v has k. record { devices = λ i. table_shapes (receiving v) t.devices d i (device_shape v (entry t.devices d) (k.devices d ∙ has)) ∙ k.devices i; sent = λ i. table_sent v t.devices d i ∙ k.sent i })
    (λ t i f _ k. record { devices = k.devices; sent = k.sent }) (λ t i x new k. record { devices = k.devices; sent = k.sent })
    any_answer s n (λ v e. ap shape_of e) (record { devices = λ i. refl; sent = λ i. refl })).0
