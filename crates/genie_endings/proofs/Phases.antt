-- What is known of a transfer that may end.
use Rattle.std.proofs.Common.{◌≡◌, ℕ, Bool, true, false, not, [], refl, sym, ap, rules, ◌∙◌}
use Rattle.std.specs.Prelude.{Option, Some, None, IsSome, find, is_some, ◌&&◌, ◌==◌}
use Rattle.std.specs.Option.{option_map}
use Rattle.genie_base.specs.declared.event.Event.TheVariants.{Finish, Cancel}
use Rattle.genie_base.specs.declared.refusal.Refusal.TheVariants as cause
use Rattle.genie_model.specs.declared.phase.Phase.{Phase}
use Rattle.genie_model.specs.declared.phase.Phase.TheVariants.{Queued, Posted, Moving, Ready}
use Rattle.genie_model.specs.Lemmas.Causes.{first_none}
use Rattle.genie_model.specs.Lemmas.Lists.{all_has, find_has}
use Rattle.genie_model.specs.Pending.{is_queued, is_posted, is_ready, is_moving, is_inward, is_numbered, pending}
use Rattle.genie_model.specs.Refusing.{refuse, is_finished, may_cancel}
use Rattle.genie_model.specs.State as flat
use Rattle.genie_model.specs.Tables.{entry}
use Rattle.genie_kernel.specs.declared.kernel.Kernel.{Kernel}
use Rattle.genie_kernel.specs.declared.transfer.Transfer.{Transfer}
use Rattle.genie_kernel.specs.Calls.{has_number, has_arrived, first_waiting}
use Rattle.genie_kernel.specs.Good.{IsGood}
use Rattle.genie_kernel.specs.Planned.{is_early_device}
use Rattle.genie_kernel.specs.Transfers.{transfer_view}
use Rattle.genie_kernel.specs.View.{Bytes, state_of, outline, no_bytes}
use Rattle.genie_kernel.specs.Lemmas.Processes.{find_map}

-- a transfer as the flat machine sees it
abbrev pub seen_as : Kernel → Bytes → Transfer → flat.Transfer
seen_as k b t = transfer_view b.seen.kept_bytes k.devices k.pools (first_waiting k.transfers) t

pub pending_seen : (k : Kernel) (b : Bytes) (n : ℕ) (o : Option Transfer) → find (has_number n) k.transfers ≡ o → pending (state_of k b) n ≡ option_map (seen_as k b) o
pending_seen k b n o found = find_map (is_numbered n) (seen_as k b) k.transfers ∙ ap (option_map (seen_as k b)) found

not_false : (b : Bool) → not b ≡ false → b ≡ true
not_false true e = refl
not_false false e = absurd (cc)

-- no device works on it, and no datagram waits for it
pub record IsIdle (t : Transfer) : Type 0 where
  pub unqueued : is_queued t.phase ≡ false
  pub unmoved : is_moving t.phase ≡ false
  pub unbuffered : t.buffer ≡ None

none_there : {X : Type 0} (o : Option X) → is_some o ≡ false → o ≡ None
none_there None e = refl
none_there (Some x) e = absurd (cc)

never_ready : (b c d e : Bool) → c ≡ false → (b && c && d && e) ≡ false
never_ready true true d e h = absurd (cc)
never_ready true false d e h = refl
never_ready false c d e h = refl

module _ (k : Kernel) (n : ℕ) (t : Transfer) (g : IsGood k) (found : find (has_number n) k.transfers ≡ Some t) where
  buffer_if : is_some t.buffer ≡ (has_arrived t.dev t && not (is_early_device (entry k.devices t.dev)))
  buffer_if = all_has (λ (u : Transfer). is_some u.buffer ≡ (has_arrived u.dev u && not (is_early_device (entry k.devices u.dev)))) k.transfers g.arrived.inputs t (find_has (has_number n) k.transfers t found).0

  -- a sent output
  finished : refuse (outline k) (Finish n) ≡ None → is_ready t.phase ≡ true
  finished h =
      let first = first_none (not (is_finished (pending (outline k) n)), cause.State) [] h in
      sym (ap is_finished (pending_seen k (no_bytes k.config.page) n (Some t) found)) ∙ not_false (is_finished (pending (outline k) n)) first.0

  pub sent_idle : refuse (outline k) (Finish n) ≡ None → is_inward t.dir ≡ false → IsIdle t × (is_posted t.phase ≡ false)
  sent_idle h out =
      let ready = finished h in
      (record { unqueued = ready_unqueued t.phase ready; unmoved = ready_unmoved t.phase ready; unbuffered = none_there t.buffer (buffer_if ∙ unarrived (is_inward t.dir) (is_ready t.phase) (t.dev == t.dev) (not (is_early_device (entry k.devices t.dev))) out) }, ready_unposted t.phase ready) where
        ready_unqueued : (p : Phase) → is_ready p ≡ true → is_queued p ≡ false
        ready_unqueued Queued e = absurd (cc)
        ready_unqueued Posted e = refl
        ready_unqueued Moving e = refl
        ready_unqueued Ready e = refl

        ready_unmoved : (p : Phase) → is_ready p ≡ true → is_moving p ≡ false
        ready_unmoved Queued e = refl
        ready_unmoved Posted e = refl
        ready_unmoved Moving e = absurd (cc)
        ready_unmoved Ready e = refl

        ready_unposted : (p : Phase) → is_ready p ≡ true → is_posted p ≡ false
        ready_unposted Queued e = refl
        ready_unposted Posted e = absurd (cc)
        ready_unposted Moving e = refl
        ready_unposted Ready e = refl

        unarrived : (b c d e : Bool) → b ≡ false → (b && c && d && e) ≡ false
        unarrived true c d e h = absurd (cc)
        unarrived false c d e h = refl

  -- a posted input
  pub posted_phase : refuse (outline k) (Cancel n) ≡ None → is_posted t.phase ≡ true
  posted_phase h =
      let first = first_none (not (may_cancel (pending (outline k) n)), cause.State) [] h in
      sym (ap may_cancel (pending_seen k (no_bytes k.config.page) n (Some t) found)) ∙ not_false (may_cancel (pending (outline k) n)) first.0

  pub posted_idle : refuse (outline k) (Cancel n) ≡ None → IsIdle t
  posted_idle h =
      let posted = posted_phase h in
      record { unqueued = posted_unqueued t.phase posted; unmoved = posted_unmoved t.phase posted; unbuffered = none_there t.buffer (buffer_if ∙ never_ready (is_inward t.dir) (is_ready t.phase) (t.dev == t.dev) (not (is_early_device (entry k.devices t.dev))) (posted_unready t.phase posted)) } where
        posted_unqueued : (p : Phase) → is_posted p ≡ true → is_queued p ≡ false
        posted_unqueued Queued e = absurd (cc)
        posted_unqueued Posted e = refl
        posted_unqueued Moving e = refl
        posted_unqueued Ready e = refl

        posted_unmoved : (p : Phase) → is_posted p ≡ true → is_moving p ≡ false
        posted_unmoved Queued e = refl
        posted_unmoved Posted e = refl
        posted_unmoved Moving e = absurd (cc)
        posted_unmoved Ready e = refl

        posted_unready : (p : Phase) → is_posted p ≡ true → is_ready p ≡ false
        posted_unready Queued e = refl
        posted_unready Posted e = refl
        posted_unready Moving e = refl
        posted_unready Ready e = absurd (cc)

-- the event is refused where no transfer has the number
pub cancel_pending : (k : Kernel) (n : ℕ) → refuse (outline k) (Cancel n) ≡ None → IsSome (find (has_number n) k.transfers)
cancel_pending k n h =
    let first = first_none (not (may_cancel (pending (outline k) n)), cause.State) [] h in
    there (find (has_number n) k.transfers) (sym (ap may_cancel (pending_seen k (no_bytes k.config.page) n (find (has_number n) k.transfers) refl)) ∙ not_false (may_cancel (pending (outline k) n)) first.0) where
      there : (o : Option Transfer) → may_cancel (option_map (seen_as k (no_bytes k.config.page)) o) ≡ true → IsSome o
      there None e = absurd (cc)
      there (Some t) e = search rules
