-- A strong input that names no region of its own: a copy input.
use Rattle.std.proofs.Common.{◌≡◌, ℕ, ◌≤◌, true, false, not, [], refl, sym, ap, subst, arith, ◌∙◌, length}
use Rattle.std.specs.Prelude.{Some, None, IsTrue, unwrap_or, ◌&&◌, if◌then◌else◌}
use Rattle.genie_base.specs.Counts.{span}
use Rattle.genie_base.specs.Events.{is_whole, has_one}
use Rattle.genie_base.specs.Transfers.{class_of, is_system, is_strong}
use Rattle.genie_base.specs.declared.reply.Note.TheVariants.{Whole}
use Rattle.genie_base.specs.declared.reply.Reply.TheVariants as reply
use Rattle.genie_base.specs.declared.semantics.Class.{Class}
use Rattle.genie_base.specs.declared.semantics.Class.TheVariants.{Copy}
use Rattle.genie_base.specs.declared.semantics.Direction.TheVariants.{Inward}
use Rattle.genie_store.specs.StoreView.{StoreView}
use Rattle.genie_model.specs.declared.phase.Phase.TheVariants.{Posted}
use Rattle.genie_model.specs.Inputs.{input}
use Rattle.genie_model.specs.Pending.{add_transfer}
use Rattle.genie_model.specs.Refusing.{refuse}
use Rattle.genie_model.specs.Space.{tidy}
use Rattle.genie_model.specs.Step.{Outcome, tidied}
use Rattle.genie_kernel.specs.declared.kernel.Kernel.{Kernel}
use Rattle.genie_kernel.specs.declared.transfer.Loans.{Loans}
use Rattle.genie_kernel.specs.declared.transfer.Transfer.{Transfer}
use Rattle.genie_kernel.specs.Calls.{is_copy_input, begins_at, is_named, is_strong_call, names_weakly}
use Rattle.genie_kernel.specs.Good.{IsGood}
use Rattle.genie_kernel.specs.View.{state_of, outline}
use Rattle.genie_hiding.specs.Rooms.{available}
use Rattle.genie_room.specs.Frames.{CallsCanBegin}
use Rattle.genie_inputs.specs.declared.call.Call.{Call}
use Rattle.genie_inputs.specs.Buffers.{LendsStrong}
use Rattle.genie_inputs.specs.Calls.{input_event, transfer_of}
use Rattle.genie_inputs.specs.InputLaws.{InputLaws}
use Rattle.genie_changes.specs.Making.{with_memory}
use Rattle.genie_inputs.specs.Posting.{CanPost, IsAnswered, with_input}
use Rattle.genie_inputs.proofs.Readied.{ready_moved}
use Rattle.genie_inputs.proofs.Accepted.{can_post, has_room, may_input}
use Rattle.genie_inputs.proofs.Answered.{OnlyPosts, posted_answers}
use Rattle.genie_inputs.proofs.Buffered.{buffer_begins, buffer_shows}

-- a strong transfer names nothing that it covers
pub strong_names : (n : ℕ) (t : Transfer) → is_strong_call t ≡ true → names_weakly n t ≡ true → ⊥
strong_names n t strong e = let no : names_weakly n t ≡ false = ap (λ s. not s && is_named t.region n) strong in absurd (cc)

abbrev pub strong_by : (c : Call) → class_of c.sem ≡ Copy → is_strong (class_of c.sem) ≡ true
strong_by c e = ap is_strong e

copy_posts : (k : Kernel) (c : Call) (a : ℕ) (loans : Loans) → class_of c.sem ≡ Copy → OnlyPosts k (transfer_of c (record { 0 = k.next }) a None 0 loans) (input_event c (Some a))
copy_posts k c a loans is b s = subst
    (λ (class : Class). ◌≡◌ {A = Outcome} (tidied (input (state_of k b) c.pid class (record { device = c.dev; port = c.port; flow = c.flow }) (Some a) c.len)) (
      tidy (add_transfer (state_of k b) (record {
        number = k.next;
        owner = Some c.pid;
        direction = Inward;
        class = class;
        device = c.dev;
        port = c.port;
        flow = c.flow;
        addr = if is_copy_input class Inward then Some a else None;
        region = None;
        offset = 0;
        len = c.len;
        phase = Posted;
        payload = [];
        staged = 0;
        moved = 0;
        stored = 0;
        note = Whole;
      })),
      reply.Id k.next,
    ))
    (sym is) refl

copy_whole : (c : Call) (a : ℕ) → class_of c.sem ≡ Copy → IsTrue (is_whole (input_event c (Some a)))
copy_whole c a is = subst (λ (class : Class). IsTrue (has_one (is_system class) true)) (sym is) refl

copy_begins : (c : Call) (n a : ℕ) (loans : Loans) → class_of c.sem ≡ Copy → begins_at (transfer_of c (record { 0 = n }) a None 0 loans) ≡ a
copy_begins c n a loans is = ap (λ (class : Class). unwrap_or (if is_copy_input class Inward then Some a else None) 0) is

pub copy_answers : InputLaws → (old mid new : Kernel) (c : Call) (a : ℕ) (loans : Loans) (v w : StoreView) → IsGood old → class_of c.sem ≡ Copy → refuse (outline old) (input_event c (Some a)) ≡ None → LendsStrong old mid v w old.next c.dev a c.len loans → new ≡ with_input mid (transfer_of c (record { 0 = old.next }) a None 0 loans) → IsAnswered old new v w (input_event c (Some a)) (reply.Id old.next)
copy_answers laws old mid new c a loans v w good is accepted lends posts =
    let t : Transfer = transfer_of c (record { 0 = old.next }) a None 0 loans in
    let k : Kernel = with_memory old lends.mid lends.clock in
    let may = may_input old c (Some a) good accepted in
    let strong : is_strong_call t ≡ true = strong_by c is in
    let begins = copy_begins c old.next a loans is in
    subst (λ (x : Kernel). IsAnswered old x v w (input_event c (Some a)) (reply.Id old.next)) (sym (posts ∙ ap (λ (x : Kernel). with_input x t) lends.only))
    (posted_answers laws k lends.mid mid.memory t (input_event c (Some a)) lends.moved.good
    (record { number = refl; phase = refl; unstored = refl; unbuffered = refl })
    (buffer_begins k mid.memory t a lends.moved.good refl strong begins lends.buffer may.device)
    (λ n named. absurd (strong_names n t strong named))
    (buffer_shows k mid.memory t a lends.moved.good refl strong begins lends.buffer)
    (copy_whole c a is) accepted (copy_posts k c a loans is)
    old v w w (ready_moved old k v w lends.moved) (λ host. refl)
    (record { count = lends.moved.sized.count ∙ sym (ap length lends.buffer.slots); page = lends.moved.sized.page ∙ sym lends.buffer.fresh.page }))

-- there is room for the buffer
pub copy_room : CallsCanBegin → (k : Kernel) (c : Call) (a : ℕ) → IsGood k → class_of c.sem ≡ Copy → refuse (outline k) (input_event c (Some a)) ≡ None → (span k.config.page a c.len ≤ 65) × (span k.config.page a c.len ≤ available k.memory.frames)
copy_room law k c a good is accepted = let room = has_room law k c (Some a) Copy good is refl accepted in let cost = room.cost in (room.pages, omega (arith, cost))

-- and for the transfer
pub copy_can_post : InputLaws → (old mid : Kernel) (c : Call) (a : ℕ) (loans : Loans) (v w : StoreView) → IsGood old → refuse (outline old) (input_event c (Some a)) ≡ None → LendsStrong old mid v w old.next c.dev a c.len loans → (t : Transfer) → t ≡ transfer_of c (record { 0 = old.next }) a None 0 loans → CanPost mid t.id.0
copy_can_post laws old mid c a loans v w good accepted lends t is =
    let may = may_input old c (Some a) good accepted in
    let can = can_post laws.rise old good may.few in
    subst (λ (x : Transfer). CanPost mid x.id.0) (sym is)
    (subst (λ (k : Kernel). CanPost k old.next) (sym lends.only) (record { few = can.few; room = can.room; last = can.last }))
