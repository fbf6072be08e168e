-- A step that sends so far.
use Rattle.std.proofs.Common.{◌≡◌, ℕ, ◌+◌, ◌-◌, ◌<◌, ◌≤◌, min, List, length, take, drop, refl, ap, sym, ◌∙◌, arith, true, false}
use Rattle.std.specs.Prelude.{Option, Some, None, Ok, Err}
use Rattle.std.proofs.lemmas.List.{length-take, drop-drop}
use Rattle.std.proofs.Math.Seq.{take-add}
use Rattle.std.proofs.lemmas.Grind.{common_steps}
use Rattle.std.specs.Io.KnownBytes.{Appends, Keeps}
use Rattle.std.proofs.KnownBytes.{Appends-nil, Appends-trans}
use Rattle.genie_host.specs.Host.{HostView, OnlyHandle, Writes}
use Rattle.genie_host.specs.OnlyHandle.{only_refl, only_trans}
use Rattle.genie_device.specs.Sending.{AppendsPart}

-- these bytes were appended, and nothing failed
pub record Appended (handle at budget : ℕ) (old now : HostView) (sent : List ℕ) (moved : ℕ) : Type 0 where
  pub within : moved ≤ budget
  pub only : OnlyHandle handle old now
  pub bytes : Appends (old.handle handle).bytes (now.handle handle).bytes (take moved (drop at sent))
  pub count : (now.handle handle).faults ≡ (old.handle handle).faults

pub appended_none : (handle at budget : ℕ) (v : HostView) (sent : List ℕ) → Appended handle at budget v v sent 0
appended_none handle at budget v sent = record { within = omega arith; only = only_refl handle v; bytes = Appends-nil (v.handle handle).bytes; count = refl }

appends_kept : (u v w : Option (List ℕ)) (xs : List ℕ) → Appends u v xs → Keeps v w → Appends u w xs
appends_kept None v w xs a b = tt
appends_kept (Some u) None w xs a b = absurd a
appends_kept (Some u) (Some v) None xs a b = absurd b
appends_kept (Some u) (Some v) (Some w) xs a b = b ∙ a

pub take_take : (n m : ℕ) (xs : List ℕ) → n ≤ m → take n (take m xs) ≡ take n xs
take_take n m xs h = grind (arith, common_steps)

-- the front of a piece is the next part
pub next_part : (at moved count taken : ℕ) (bytes piece : List ℕ) → piece ≡ take (length piece) (drop (at + moved) bytes) → count ≤ length piece → taken ≤ count
    → take taken (take count piece) ≡ take taken (drop moved (drop at bytes))
next_part at moved count taken bytes piece front fits short =
    take_take taken count piece short ∙ ap (take taken) front ∙ take_take taken (length piece) (drop (at + moved) bytes) (omega arith) ∙ ap (take taken) (sym (drop-drop moved at bytes))

pub appended_more : {E : Type 0} (handle at budget count taken : ℕ) (old u w : HostView) (sent piece : List ℕ) (moved : ℕ)
    → Appended handle at budget old u sent moved → piece ≡ take (length piece) (drop (at + moved) sent) → count ≤ length piece → taken ≤ count → moved + taken ≤ budget
    → Writes {E = E} handle u w (Ok taken) (take count piece) → Appended handle at budget old w sent (moved + taken)
appended_more handle at budget count taken old u w sent piece moved m front fits short most r =
    let whole = next_part at moved count taken sent piece front fits short in
    record {
      within = most;
      only = only_trans handle old u w m.only r.only;
      bytes = rw (take-add moved taken (drop at sent)) (Appends-trans (old.handle handle).bytes (u.handle handle).bytes (w.handle handle).bytes (take moved (drop at sent)) (take taken (drop moved (drop at sent))) m.bytes (rw whole at r.bytes));
      count = r.cause.kept ∙ m.count;
    }

pub appended_failed : {E : Type 0} (handle at budget : ℕ) (old u w : HostView) (sent piece : List ℕ) (moved : ℕ) (e : E)
    → Appended handle at budget old u sent moved → moved < budget → Writes {E = E} handle u w (Err e) piece → AppendsPart handle at budget old w sent moved true
appended_failed handle at budget old u w sent piece moved e m less r = record {
  only = only_trans handle old u w m.only r.only;
  bytes = appends_kept (old.handle handle).bytes (u.handle handle).bytes (w.handle handle).bytes (take moved (drop at sent)) m.bytes r.bytes;
  ends = (rw m.count at r.cause.failed, less);
}

pub appended_all : (handle at budget : ℕ) (old u : HostView) (sent : List ℕ) (moved : ℕ)
    → Appended handle at budget old u sent moved → budget ≤ moved → AppendsPart handle at budget old u sent moved false
appended_all handle at budget old u sent moved m all = let w : moved ≤ budget = m.within in record { only = m.only; bytes = m.bytes; ends = (m.count, omega arith) }

pub taken_short : (piece : List ℕ) (count taken : ℕ) → taken ≤ length (take count piece) → taken ≤ count
taken_short piece count taken h = let e = length-take count piece in omega arith

pub count_fits : (size left count : ℕ) → count ≡ min size left → count ≤ size
count_fits size left count e = omega arith

pub taken_within : (size budget moved count taken : ℕ) → count ≡ min size (budget - moved) → moved < budget → taken ≤ count → moved + taken ≤ budget
taken_within size budget moved count taken e f g = omega arith
