-- The bytes of an output, as the flat machine has them and as its device sends them.
use Rattle.std.proofs.Common.{append-nil, ◌≡◌, ◌≢◌, ℕ, ◌+◌, ◌<◌, ◌≤◌, suc, Bool, true, false, List, [], ◌∷◌, ◌++◌, refl, sym, ap, ap₂, subst, arith, rules, ◌∙◌, length, drop, get_or, length-take}
use Rattle.std.specs.Prelude.{Some, ◌||◌, if◌then◌else◌}
use Rattle.std.proofs.lemmas.List.{drop_all, take_all}
use Rattle.genie_base.specs.Bytes.{part}
use Rattle.genie_base.specs.Records.{header_bytes, record_bytes}
use Rattle.genie_device.specs.Device.{DeviceView, is_outboard as is_outboard_kind, stages}
use Rattle.genie_device.specs.Sending.{payload_of as sent_from}
use Rattle.genie_frame.specs.declared.frame.Counts.{Counts}
use Rattle.genie_frame.specs.declared.frame.Owner.{Owner}
use Rattle.genie_frame.specs.declared.frame.Owner.TheVariants.{Free, Page, System, Pool, Nobody}
use Rattle.genie_frame.specs.FrameTable.{Agree, FrameTable, bytes_at, counts_at, is_lent, owner_at}
use Rattle.genie_frame.specs.Frames.{outputs}
use Rattle.genie_object.specs.Memory.{is_kept, seen}
use Rattle.genie_plan.specs.Plans.{joined, output_frames}
use Rattle.genie_plan.specs.Lemmas.Ranges.{out_frame_at, out_frames_count}
use Rattle.genie_model.specs.Pending as pending
use Rattle.genie_model.specs.Sending.{keeps_bytes, named_bytes, next_part, payload_of}
use Rattle.genie_model.specs.State as flat
use Rattle.genie_model.specs.Tables.{entry}
use Rattle.genie_kernel.specs.declared.kernel.Kernel.{Kernel}
use Rattle.genie_kernel.specs.declared.transfer.Loans.{Loans}
use Rattle.genie_kernel.specs.declared.transfer.Loans.TheVariants.{Nothing, Outward, Inward}
use Rattle.genie_kernel.specs.declared.transfer.Transfer.{Transfer}
use Rattle.genie_kernel.specs.Calls.{is_strong_call, region_number}
use Rattle.genie_kernel.specs.Good.{IsGood}
use Rattle.genie_kernel.specs.Loans.{bytes_in_frames, first_of, frames_of}
use Rattle.genie_kernel.specs.Matching.{IsSendingFor}
use Rattle.genie_kernel.specs.Orphans.{lent_bytes}
use Rattle.genie_kernel.specs.Planned.{LendsOut}
use Rattle.genie_kernel.specs.Steps.{bytes_over}
use Rattle.genie_kernel.specs.Transfers.{unstaged}
use Rattle.genie_kernel.specs.View.{Bytes, state_of}
use Rattle.genie_sending.specs.Sending.{IsLentOut, payload_under}
use Rattle.genie_sending.proofs.Lending.{no_loan}
use Rattle.genie_sending.proofs.Moves.{all_staged}
use Rattle.genie_sending.proofs.Outputs.{IsFirstOutput, its_device, sending_view}
use Rattle.genie_sending.proofs.States.{kinds_same, outboard_is}

-- the flat machine has the bytes of the frames that are lent: a strong output's are its own, and a weak one's are those of
-- its region or orphan
pub record ShowsNow (k : Kernel) (t : Transfer) (slots : ℕ → List ℕ) : Type 0 where
  pub strong : is_strong_call t ≡ true → lent_bytes (seen k.memory slots).kept_bytes t ≡ payload_under k.memory.frames t.loans
  pub weak : is_strong_call t ≡ false → (rests sents : ℕ → List ℕ) (j n : ℕ) → j + n ≤ t.len → named_bytes (state_of k (bytes_over k.memory slots rests sents)) (region_number t) (t.offset + j) n ≡ part j n (payload_under k.memory.frames t.loans)

kept_owner : (o : Owner) (c : Counts) → o ≢ Free → 0 < c.strong → is_kept o c ≡ true
kept_owner Free c used l = absurd (used refl)
kept_owner (Page p) c used l = grind (arith, rules, l)
kept_owner (System t) c used l = refl
kept_owner (Pool d) c used l = refl
kept_owner Nobody c used l = refl

strong_lent : (c : Counts) → 0 < c.strong → is_lent c ≡ true
strong_lent c l = grind (arith, rules, l)

-- a frame under a strong loan is seen by itself
kept_frame : (t : FrameTable) (f : ℕ) → Agree (owner_at t f) (counts_at t f) → 0 < (counts_at t f).strong → is_kept (owner_at t f) (counts_at t f) ≡ true
kept_frame t f agree l = kept_owner (owner_at t f) (counts_at t f) (λ free. let unlent = agree.free free in let lent = strong_lent (counts_at t f) l in let never : true ≡ false = sym lent ∙ unlent in absurd (cc)) l

pub frames_shown : (s : ℕ → List ℕ) (t : FrameTable) (frames : List ℕ) → ((j : ℕ) → j < length frames → s (get_or frames j 0) ≡ bytes_at t (get_or frames j 0)) → bytes_in_frames s frames ≡ joined t.bytes frames
frames_shown s t [] h = refl
frames_shown s t (f ∷ frames) h = ap₂ ◌++◌ (h 0 (omega arith)) (frames_shown s t frames (λ j l. h (suc j) (omega (arith, l))))

module _ (k : Kernel) (g : IsGood k) (t : Transfer) (slots : ℕ → List ℕ) (strong : is_strong_call t ≡ true) where
  kept : ℕ → List ℕ
  kept = (seen k.memory slots).kept_bytes

  strong_by : (loans : Loans) → IsLentOut k.memory.frames t.len loans → LendsOut k.config.page t loans → part (first_of loans) t.len (bytes_in_frames (seen k.memory slots).kept_bytes (frames_of loans)) ≡ payload_under k.memory.frames loans
  strong_by Nothing h l = absurd h
  strong_by (Outward p) h l =
      let size = out_frames_count p.loans.items in
      let shown = frames_shown (seen k.memory slots).kept_bytes k.memory.frames (output_frames p.loans.items) (λ j m.
      let inside : j < length p.loans.items = omega (arith, m, size) in
      let f : ℕ = get_or (output_frames p.loans.items) j 0 in
      let at : (get_or p.loans.items j no_loan).frame.0 ≡ f = out_frame_at p.loans.items j no_loan inside in
      let kind : (get_or p.loans.items j no_loan).strong ≡ true = l.0 j no_loan inside ∙ strong in
      let some : 0 < (counts_at k.memory.frames f).strong = subst (λ i. 0 < (counts_at k.memory.frames i).strong) at (subst (λ b. 0 < outputs b (counts_at k.memory.frames (get_or p.loans.items j no_loan).frame.0)) kind (h.0.out j no_loan inside)) in
      ap (λ b. if b then bytes_at k.memory.frames f else []) (kept_frame k.memory.frames f (g.sound.lent f) some)) in
      let long : p.len ≡ t.len = l.1.length_kept in
      (λ i. part p.first (sym long i) (shown i))
  strong_by (Inward p) h l = absurd h

  pub strong_shown : IsLentOut k.memory.frames t.len t.loans → LendsOut k.config.page t t.loans → lent_bytes (seen k.memory slots).kept_bytes t ≡ payload_under k.memory.frames t.loans
  strong_shown h l = strong_by t.loans h l

pub payload_length : (t : FrameTable) (len : ℕ) (loans : Loans) → IsLentOut t len loans → length (payload_under t loans) ≡ len
payload_length t len Nothing h = absurd h
payload_length t len (Outward p) h = sym h.1
payload_length t len (Inward p) h = absurd h

or_true : (b : Bool) → (b || true) ≡ true
or_true true = refl
or_true false = refl

module _ (k : Kernel) (d : ℕ) (t : Transfer) (is : IsFirstOutput k.transfers d t) (v : DeviceView) (there : entry k.devices d ≡ Some v) (goes : IsSendingFor v t) (no_stage : stages v.config.kind v.staged t.len ≡ false) (lent : IsLentOut k.memory.frames t.len t.loans) (slots : ℕ → List ℕ) (shows : ShowsNow k t slots) (rests sents : ℕ → List ℕ) where
  abbrev b : Bytes
  b = bytes_over k.memory slots rests sents

  abbrev s : flat.State
  s = state_of k b

  abbrev x : flat.Transfer
  x = sending_view b.seen.kept_bytes t v

  abbrev lent_payload : List ℕ
  lent_payload = payload_under k.memory.frames t.loans

  abbrev whole : List ℕ
  whole = sent_from (is_outboard_kind v.config.kind) v.staged lent_payload

  outboard_at : pending.is_outboard_at s t.dev ≡ pending.is_outboard v.config.kind
  outboard_at = ap (pending.is_outboard_at s) (its_device k.transfers d t is) ∙ outboard_is k b d t v there is

  size : length lent_payload ≡ t.len
  size = payload_length k.memory.frames t.len t.loans lent

  full : (if pending.is_outboard v.config.kind then t.len else 0) ≡ length v.staged
  full = all_staged v.config.kind v.staged t.len no_stage goes.staged goes.memory

  none_left : (strong : Bool) → is_strong_call t ≡ strong → length v.staged ≡ t.len → unstaged b.seen.kept_bytes t (length v.staged) ≡ []
  none_left false e all = ap (λ c. if c then drop (length v.staged) (lent_bytes b.seen.kept_bytes t) else []) e
  none_left true e all =
      let most = length-take t.len (drop (first_of t.loans) (bytes_in_frames b.seen.kept_bytes (frames_of t.loans))) in
      ap (λ c. if c then drop (length v.staged) (lent_bytes b.seen.kept_bytes t) else []) e ∙ drop_all (length v.staged) (lent_bytes b.seen.kept_bytes t) (omega (arith, most, all))

  -- what the flat machine sends is what the device sends
  payload_by : (outboard strong : Bool) → pending.is_outboard v.config.kind ≡ outboard → is_strong_call t ≡ strong → payload_of s x ≡ whole
  payload_by true strong o e =
      let keeps : keeps_bytes s x ≡ true = ap (λ c. is_strong_call t || c) (outboard_at ∙ o) ∙ or_true (is_strong_call t) in
      let all : length v.staged ≡ t.len = sym full ∙ ap (λ c. if c then t.len else 0) o in
      ap (λ c. if c then x.payload else named_bytes s x.region x.offset x.len) keeps
      ∙ ap (λ l. v.staged ++ l) (none_left strong e all) ∙ append-nil v.staged
      ∙ sym (ap (λ c. sent_from c v.staged lent_payload) (sym (kinds_same v.config.kind) ∙ o))
  payload_by false true o e =
      let keeps : keeps_bytes s x ≡ true = ap (λ c. c || pending.is_outboard_at s x.device) e in
      let none : v.staged ≡ [] = goes.memory o in
      ap (λ c. if c then x.payload else named_bytes s x.region x.offset x.len) keeps
      ∙ ap (λ l. l ++ unstaged b.seen.kept_bytes t (length l)) none
      ∙ ap (λ c. if c then lent_bytes b.seen.kept_bytes t else []) e ∙ shows.strong e
      ∙ sym (ap (λ c. sent_from c v.staged lent_payload) (sym (kinds_same v.config.kind) ∙ o))
  payload_by false false o e =
      let keeps : keeps_bytes s x ≡ false = (λ i. e i || (outboard_at ∙ o) i) in
      let place : t.offset + 0 ≡ t.offset = omega arith in
      ap (λ c. if c then x.payload else named_bytes s x.region x.offset x.len) keeps
      ∙ ap (λ n. named_bytes s (region_number t) n t.len) (sym place)
      ∙ shows.weak e rests sents 0 t.len (omega arith) ∙ take_all t.len lent_payload (omega (arith, size))
      ∙ sym (ap (λ c. sent_from c v.staged lent_payload) (sym (kinds_same v.config.kind) ∙ o))

  whole_by : (outboard : Bool) → pending.is_outboard v.config.kind ≡ outboard → length whole ≡ t.len
  whole_by true o = ap (λ c. length (sent_from c v.staged lent_payload)) (sym (kinds_same v.config.kind) ∙ o) ∙ sym full ∙ ap (λ c. if c then t.len else 0) o
  whole_by false o = ap (λ c. length (sent_from c v.staged lent_payload)) (sym (kinds_same v.config.kind) ∙ o) ∙ size

  pub part_shown : (m : ℕ) → next_part s m x ≡ part v.sent m (record_bytes t.port t.flow whole)
  part_shown m =
      let payload = payload_by (pending.is_outboard v.config.kind) (is_strong_call t) refl refl in
      let len = whole_by (pending.is_outboard v.config.kind) refl in
      λ i. part v.sent m (header_bytes t.port t.flow (sym len i) ++ payload i)
