-- The transfer whose end is accepted.
use Rattle.std.proofs.Common.{◌≡◌, ℕ, true, false, not, [], refl, sym, ap, subst, ◌∙◌}
use Rattle.std.specs.Prelude.{Option, Some, None, find, is_some, IfSome, IsSome}
use Rattle.std.specs.Option.{option_map}
use Rattle.std.proofs.lemmas.Bool.{not-false}
use Rattle.genie_base.specs.declared.event.Event.TheVariants.{Finish}
use Rattle.genie_base.specs.declared.refusal.Refusal.TheVariants as cause
use Rattle.genie_model.specs.declared.phase.Phase.{Phase}
use Rattle.genie_model.specs.declared.phase.Phase.TheVariants.{Queued, Posted, Moving, Ready}
use Rattle.genie_model.specs.Lemmas.Causes.{first_none}
use Rattle.genie_model.specs.Pending.{is_queued, is_posted, is_moving, is_ready, is_numbered, pending}
use Rattle.genie_model.specs.Refusing.{refuse, is_finished}
use Rattle.genie_model.specs.State as flat
use Rattle.genie_kernel.specs.declared.kernel.Kernel.{Kernel}
use Rattle.genie_kernel.specs.declared.transfer.Transfer.{Transfer}
use Rattle.genie_kernel.specs.Calls.{has_number, first_waiting}
use Rattle.genie_kernel.specs.Transfers.{transfer_view}
use Rattle.genie_kernel.specs.View.{Bytes, state_of, outline, no_bytes}
use Rattle.genie_kernel.specs.Lemmas.Processes.{find_map}

-- the transfer as the flat machine has it
abbrev pub seen_as : Kernel → Bytes → Transfer → flat.Transfer
seen_as k b t = transfer_view b.seen.kept_bytes k.devices k.pools (first_waiting k.transfers) t

pub pending_view : (k : Kernel) (b : Bytes) (n : ℕ) → pending (state_of k b) n ≡ option_map (seen_as k b) (find (has_number n) k.transfers)
pending_view k b n = find_map (is_numbered n) (seen_as k b) k.transfers

-- it is pending, and ready: no device works on it
pub record IsOver (k : Kernel) (n : ℕ) : Type 0 where
  pub t : Transfer
  pub found : find (has_number n) k.transfers ≡ Some t
  pub ready : is_ready t.phase ≡ true

finished_phase : (v : Transfer → flat.Transfer) → ((t : Transfer) → (v t).phase ≡ t.phase) → (o : Option Transfer) → is_finished (option_map v o) ≡ true → IfSome o (λ t. is_ready t.phase ≡ true) × (is_some o ≡ true)
finished_phase v same None e = absurd (cc)
finished_phase v same (Some t) e = (sym (ap is_ready (same t)) ∙ e, refl)

over : (k : Kernel) (n : ℕ) (o : Option Transfer) → find (has_number n) k.transfers ≡ o → IfSome o (λ t. is_ready t.phase ≡ true) × (is_some o ≡ true) → IsOver k n
over k n None e h = let no = h.1 in absurd (cc)
over k n (Some t) e h = record { t = t; found = e; ready = h.0 }

pub is_over : (k : Kernel) (n : ℕ) → refuse (outline k) (Finish n) ≡ None → IsOver k n
is_over k n h =
    let b : Bytes = no_bytes k.config.page in
    let one = first_none (not (is_finished (pending (outline k) n)), cause.State) [] h in
    let finished = not-false (is_finished (pending (outline k) n)) one.0 in
    over k n (find (has_number n) k.transfers) refl (finished_phase (seen_as k b) (λ t. refl) (find (has_number n) k.transfers) (sym (ap is_finished (pending_view k b n)) ∙ finished))

pub found_over : (k : Kernel) (n : ℕ) (t : Transfer) → refuse (outline k) (Finish n) ≡ None → find (has_number n) k.transfers ≡ Some t → is_ready t.phase ≡ true
found_over k n t h e =
    let x = is_over k n h in
    let same : Some t ≡ Some x.t = sym e ∙ x.found in
    let one : x.t ≡ t = cc in
    subst (λ (u : Transfer). is_ready u.phase ≡ true) one x.ready

pub found_some : (k : Kernel) (n : ℕ) → refuse (outline k) (Finish n) ≡ None → IsSome (find (has_number n) k.transfers)
found_some k n h = ap is_some (is_over k n h).found

-- of the case that was asked for
pub found_case : (P : Transfer → Type 0) (k : Kernel) (n : ℕ) (t : Transfer) → IfSome (find (has_number n) k.transfers) P → find (has_number n) k.transfers ≡ Some t → P t
found_case P k n t h e = subst (λ o. IfSome o P) e h

pub record IsIdle (p : Phase) : Type 0 where
  pub unqueued : is_queued p ≡ false
  pub unposted : is_posted p ≡ false
  pub unmoved : is_moving p ≡ false

pub ready_idle : (p : Phase) → is_ready p ≡ true → IsIdle p
ready_idle Queued e = absurd (cc)
ready_idle Posted e = absurd (cc)
ready_idle Moving e = absurd (cc)
ready_idle Ready e = record { unqueued = refl; unposted = refl; unmoved = refl }
