-- What transfers name stays there in the steps of devices.
use Rattle.std.proofs.Common.{ℕ, refl}
use Rattle.std.specs.Prelude.{Option, Some, None}
use Rattle.genie_base.specs.declared.reply.Reply.TheVariants as reply
use Rattle.genie_model.specs.State.{State, Transfer}
use Rattle.genie_model.specs.Pending.{is_numbered, first_queued, waits_for}
use Rattle.genie_model.specs.Sending.{after_sending, send_bytes, must_stage, staged_now, after_staging, stage_bytes, stage_count, send_count, send_next, send}
use Rattle.genie_model.specs.Receiving.{change_transfer, recv}
use Rattle.genie_orderly.specs.Lemmas.NamingTransfers.{stand_change}
use Rattle.genie_orderly.proofs.Names.SpaceEvents.{Stands, put_stands}
use Rattle.genie_model.specs.Lemmas.ReceiveSteps.{choice, recv_keeps}
use Rattle.genie_model.specs.Lemmas.PendingCalls.{KeepsCall, sending_call}

-- the transfer that is being sent
send_stands : (s : State) (d n : ℕ) (o : Option Transfer) → Stands s → Stands (send_next s d n o).0
send_stands s d n None h = h
send_stands s d n (Some t) h =
    let staged = stand_change s s.transfers (waits_for d) (after_staging (stage_count n t) (staged_now s (stage_count n t) t)) (λ u. refl) h in
    let sent = stand_change s s.transfers (waits_for d) (after_sending (send_count n t)) (sending_call (send_count n t)) h in
    choice Stands (must_stage s d t) (stage_bytes s d t (stage_count n t), reply.Staged (stage_count n t)) (send_bytes s d t (send_count n t), reply.Sent (send_count n t))
    (record { each = staged.each; one = staged.one }) (record { each = sent.each; one = sent.one })

pub sent_stands : (s : State) (d n : ℕ) → Stands s → Stands (send s d n).0
sent_stands s d n h = send_stands s d n (first_queued s d) h

change_stands : (s : State) (k : ℕ) (f : Transfer → Transfer) → KeepsCall f → Stands s → Stands (change_transfer s k f)
change_stands s k f call h = let g = stand_change s s.transfers (is_numbered k) f call h in record { each = g.each; one = g.one }

pub received_stands : (s : State) (d n : ℕ) → Stands s → Stands (recv s d n).0
received_stands s d n h = recv_keeps Stands (λ t d v g. record { each = g.each; one = g.one }) change_stands (λ t k x new g. put_stands t t.transfers g k x new) s d n h
