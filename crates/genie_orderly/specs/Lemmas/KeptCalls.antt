-- What a step keeps: the configuration, and the transfers but those that end or that a call adds.
use Rattle.std.proofs.Common.{◌≡◌, ℕ, ◌+◌, Bool, false, List, [], ◌∷◌, ◌&&◌, refl, ap, sym, subst, ◌∙◌}
use Rattle.std.proofs.lemmas.Bool.{cond_both}
use Rattle.std.specs.Prelude.{Option, Some, None, filter, not, nat_le, nat_lt, if◌then◌else◌, ⊤}
use Rattle.genie_base.specs.Transfers.{class_of, is_strong}
use Rattle.genie_base.specs.declared.event.Event.{Event}
use Rattle.genie_base.specs.declared.event.Event.TheVariants.{Fork, Exit, Unmap, Protect, Write, Output, Input, Send, Recv, Finish, Cancel}
use Rattle.genie_base.specs.declared.reply.Mark.{Mark}
use Rattle.genie_base.specs.declared.reply.Mark.TheVariants as mark
use Rattle.genie_base.specs.declared.reply.Reply.{Reply}
use Rattle.genie_base.specs.declared.reply.Reply.TheVariants as reply
use Rattle.genie_base.specs.declared.semantics.Class.{Class}
use Rattle.genie_base.specs.declared.semantics.Class.TheVariants.{Copy, Share, Move, WeakMove}
use Rattle.genie_base.specs.declared.semantics.Direction.{Direction}
use Rattle.genie_base.specs.declared.semantics.Direction.TheVariants.{Outward, Inward}
use Rattle.genie_base.specs.Events.{mark_of}
use Rattle.genie_model.specs.State.{State, Region, Transfer}
use Rattle.genie_model.specs.Regions.{reach_of, write_reach_of, regions_at}
use Rattle.genie_model.specs.Pending.{first_queued, pending, is_just, is_numbered, waits_for, add_transfer}
use Rattle.genie_model.specs.Space.{Outcome, region_from, spawned, accessible, is_move, disowned, is_posted_by, exit}
use Rattle.genie_model.specs.Outputs.{output_of}
use Rattle.genie_model.specs.Inputs.{posted, address_or_zero}
use Rattle.genie_model.specs.Sending.{must_stage, send_next}
use Rattle.genie_model.specs.Receiving.{recv}
use Rattle.genie_model.specs.Ending.{finish_copy, finish_share, finish_move, finish_weak_move, finish_input, finish_owned, finish_for, finish_found, cancel_found, without_transfer, region_of}
use Rattle.genie_orderly.specs.Steps.{is_refused, id_of, StepsKeepConfig}
use Rattle.genie_model.specs.Refusing.{refuse}
use Rattle.genie_model.specs.Step.{accept, perform, with_budget, step}
use Rattle.genie_model.specs.Lemmas.PendingCalls.{Same, Remain, same, same_choice, remain, remain_later, change_remain, without_remain, filter_remain, map_remain, sending_call}
use Rattle.genie_model.specs.Lemmas.ReceiveSteps.{recv_does}
use Rattle.genie_model.specs.Lemmas.OnlyRegions.{SameBut, copies_like, remove_like, protect_like, stored_like, given_up_like, buffer_like, finish_for_like}
use Rattle.genie_model.specs.Lemmas.Steps.{event_so}

-- no call is accepted between these states
pub record Keeps (s t : State) : Type 0 where
  pub config : t.config ≡ s.config
  pub left : Remain s.transfers t.transfers
  pub next : t.next ≡ s.next

pub unchanged : (s : State) → Keeps s s
unchanged s = record { config = refl; left = remain s.transfers; next = refl }

later : (s t u : State) → Keeps s t → Keeps t u → Keeps s u
later s t u k l = record { config = l.config ∙ k.config; left = remain_later k.left l.left; next = l.next ∙ k.next }

-- the transfer of a call, where the event is one
abbrev pub call_of : State → Event → Option Transfer
call_of s (Output p sem d port flow a n) = Some (output_of s p (class_of sem) (record { device = d; port = port; flow = flow }) a n (reach_of s p a n))
call_of s (Input p sem d port flow a n) = Some (posted s p (class_of sem) (record { device = d; port = port; flow = flow }) a n)
call_of s e = None

-- with that transfer
abbrev pub with_call : State → Option Transfer → State
with_call s None = s
with_call s (Some t) = add_transfer s t

abbrev pub id_with : State → Option Transfer → List ℕ
id_with s None = []
id_with s (Some t) = s.next ∷ []

-- an accepted event's outcome
pub record Did (s : State) (c : Option Transfer) (o : Outcome) : Type 0 where
  pub keeps : Keeps (with_call s c) o.0
  pub taken : is_refused o.1 ≡ false
  pub id : id_of o.1 ≡ id_with s c
  pub shows : mark_of o.1 ≡ mark.NoFault

-- a reply to an event that isn't a call
abbrev IsQuiet : Reply → Type 0
IsQuiet r = ◌≡◌ {A = Bool × List ℕ × Mark} (is_refused r, id_of r, mark_of r) (false, [], mark.NoFault)

aside : (s t : State) → SameBut s t → Keeps s t
aside s t e = record { config = ap (λ (x : State). x.config) e; left = subst (Remain s.transfers) (sym (ap (λ (x : State). x.transfers) e)) (remain s.transfers); next = ap (λ (x : State). x.next) e }

after : (s t : State) (r : Reply) → Keeps s t → IsQuiet r → Did s None (t, r)
after s t r k e = record { keeps = k; taken = ap (λ (x : Bool × List ℕ × Mark). x.0) e; id = ap (λ (x : Bool × List ℕ × Mark). x.1) e; shows = ap (λ (x : Bool × List ℕ × Mark). x.2) e }

quiet : (s t : State) (r : Reply) → SameBut s t → IsQuiet r → Did s None (t, r)
quiet s t r l e = after s t r (aside s t l) e

from : (s t : State) (o : Outcome) → Keeps s t → Did t None o → Did s None o
from s t o k d = record { keeps = later s t o.0 k d.keeps; taken = d.taken; id = d.id; shows = d.shows }

gone_names : (class : Class) (r : Option ℕ) (k : ℕ) → (not (is_strong class) && is_just (if is_move class then None else r) k) ≡ (not (is_strong class) && is_just r k)
gone_names Copy r k = refl
gone_names Share r k = refl
gone_names Move r k = refl
gone_names WeakMove r k = refl

disowned_same : (p : ℕ) (t : Transfer) → Same t (disowned p t)
disowned_same p t = same_choice t (is_just t.owner p) _ _ (record { number = refl; cost = λ page. refl; covered = λ k x. ap (λ b. b && nat_le t.offset x && nat_lt x (t.offset + t.len)) (gone_names t.class t.region k) }) (same t)

exit_did : (s : State) (p : ℕ) → Did s None (exit s p)
exit_did s p =
    let rest : List Transfer = filter (λ t. not (is_posted_by p t)) s.transfers in
    after s _ _ (record { config = refl; left = remain_later (filter_remain (λ t. not (is_posted_by p t)) s.transfers) (map_remain (disowned p) (disowned_same p) rest); next = refl }) refl

called : (s u : State) (t : Transfer) → SameBut (add_transfer s t) u → Did s (Some t) (u, reply.Id s.next)
called s u t e = record { keeps = aside (add_transfer s t) u e; taken = refl; id = refl; shows = refl }

send_did : (s : State) (d n : ℕ) (o : Option Transfer) → Did s None (send_next s d n o)
send_did s d n None = quiet s _ _ refl refl
send_did s d n (Some t) =
    cond_both (must_stage s d t) _ _ (Did s None)
    (λ _. after s _ _ (record { config = refl; left = change_remain (waits_for d) _ (λ u. refl) s.transfers; next = refl }) refl)
    (λ _. after s _ _ (record { config = refl; left = change_remain (waits_for d) _ (sending_call _) s.transfers; next = refl }) refl)

recv_did : (s : State) (d n : ℕ) → Did s None (recv s d n)
recv_did s d n =
    let does = recv_does (Keeps s) (λ _ _. ⊤) IsQuiet d (λ t v _ k. record { config = k.config; left = k.left; next = k.next }) (λ t i f call k. later s t _ k (record { config = refl; left = change_remain (is_numbered i) f call t.transfers; next = refl })) (λ t i x new k. later s t _ k (aside t _ refl))
    (record { end = refl; bad = refl; busy = refl; got = λ k. refl; dropped = λ port flow len. refl }) s n (λ v e. tt) (unchanged s) in
    after s _ _ does.0 does.1

-- the replies to `done`
copy_quiet : (s : State) (t : Transfer) (o : Option Region) → IsQuiet (finish_copy s t o).1
copy_quiet s t None = refl
copy_quiet s t (Some r) = refl

move_quiet : (s : State) (t : Transfer) (o : Option Region) → IsQuiet (finish_move s t o).1
move_quiet s t None = refl
move_quiet s t (Some r) = refl

share_quiet : (s : State) (t : Transfer) (o : Option Region) → IsQuiet (finish_share s t o).1
share_quiet s t None = refl
share_quiet s t (Some r) = refl

weak_move_quiet : (s : State) (t : Transfer) (o : Option Region) → IsQuiet (finish_weak_move s t o).1
weak_move_quiet s t None = refl
weak_move_quiet s t (Some r) = refl

input_quiet : (s : State) (p : ℕ) (t : Transfer) (class : Class) → IsQuiet (finish_input s p t class).1
input_quiet s p t Copy = copy_quiet s t (write_reach_of s p (address_or_zero t.addr) t.len)
input_quiet s p t Share = share_quiet s t (region_of s t)
input_quiet s p t Move = move_quiet s t (region_of s t)
input_quiet s p t WeakMove = weak_move_quiet s t (region_of s t)

owned_quiet : (s : State) (p : ℕ) (t : Transfer) (direction : Direction) → IsQuiet (finish_owned s p t direction).1
owned_quiet s p t Outward = refl
owned_quiet s p t Inward = input_quiet s p t t.class

finish_quiet : (s : State) (t : Transfer) (o : Option ℕ) → IsQuiet (finish_for s t o).1
finish_quiet s t None = refl
finish_quiet s t (Some p) = owned_quiet s p t t.direction

ended_keeps : (s : State) (k : ℕ) → Keeps s (without_transfer s k)
ended_keeps s k = record { config = refl; left = without_remain (is_numbered k) s.transfers; next = refl }

finish_did : (s : State) (k : ℕ) (o : Option Transfer) → Did s None (finish_found s k o)
finish_did s k None = quiet s _ _ refl refl
finish_did s k (Some t) = let rest = without_transfer s k in from s rest _ (ended_keeps s k) (quiet rest _ _ (finish_for_like rest t t.owner) (finish_quiet rest t t.owner))

cancel_did : (s : State) (k : ℕ) (o : Option Transfer) → Did s None (cancel_found s k o)
cancel_did s k None = quiet s _ _ refl refl
cancel_did s k (Some t) = let rest = without_transfer s k in from s rest _ (ended_keeps s k) (quiet rest _ _ (given_up_like rest t.class (region_of rest t)) refl)

perform_did : (s : State) (e : Event) → Did s (call_of s e) (perform s e)
perform_did s (Fork p q) = quiet s _ _ (copies_like (spawned s q) q (accessible (regions_at s p))) refl
perform_did s (Exit p) = exit_did s p
perform_did s (Unmap p g) = quiet s _ _ (remove_like s (region_from s p g)) refl
perform_did s (Protect p g writable) = quiet s _ _ (protect_like s (region_from s p g) writable) refl
perform_did s (Write p a bytes) = quiet s _ _ (stored_like s _ a bytes) refl
perform_did s (Output p sem d port flow a n) = called s _ _ (given_up_like (add_transfer s _) (class_of sem) (reach_of s p a n))
perform_did s (Input p sem d port flow a n) =
    let t : Transfer = posted s p (class_of sem) (record { device = d; port = port; flow = flow }) a n in
    called s _ t (ap (λ (x : State). add_transfer x t) (buffer_like s p (class_of sem) n))
perform_did s (Send d n) = send_did s d n (first_queued s d)
perform_did s (Recv d n) = recv_did s d n
perform_did s (Finish k) = finish_did s k (pending s k)
perform_did s (Cancel k) = cancel_did s k (pending s k)
perform_did s e = quiet s _ _ refl refl

pub accept_did : (s : State) (e : Event) → Did s (call_of s e) (accept s e)
accept_did s e = let d = perform_did s e in record { keeps = later (with_call s (call_of s e)) (perform s e).0 _ d.keeps (aside (perform s e).0 _ refl); taken = d.taken; id = d.id; shows = d.shows }

-- the budget changes no call
same_call : (s : State) (e : Event) (k : ℕ) → call_of s (with_budget e k) ≡ call_of s e
same_call s (Send d n) k = refl
same_call s (Recv d n) k = refl
same_call s e k = refl

-- what such a step keeps, and a call where it is accepted
module _ (P : State → Type 0) (kept : (s t : State) → Keeps s t → P s → P t) where
  after_accept : (s : State) (e : Event) → P (with_call s (call_of s e)) → P (accept s e).0
  after_accept s e h = kept (with_call s (call_of s e)) (accept s e).0 (accept_did s e).keeps h

  pub steps_keep : (s : State) (e : Event) (m : Mark) → P s → (refuse s e ≡ None → P (with_call s (call_of s e))) → P (step s e m).0
  steps_keep s e m old new = event_so P s old e (λ none. after_accept s e (new none)) (λ none k. after_accept s (with_budget e k) (rw (same_call s e k) (new none))) m

call_config : (s : State) (c : Option Transfer) → (with_call s c).config ≡ s.config
call_config s None = refl
call_config s (Some t) = refl

pub steps_keep_config : StepsKeepConfig
steps_keep_config s e m = steps_keep (λ (t : State). t.config ≡ s.config) (λ t u k h. k.config ∙ h) s e m refl (λ none. call_config s (call_of s e))
