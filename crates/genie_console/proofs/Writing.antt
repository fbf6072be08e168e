-- A loop of writes to the reply output: what was written so far.
use Rattle.std.proofs.Common.{◌≡◌, ℕ, ◌+◌, ◌-◌, ◌<◌, ◌≤◌, List, [], length, take, drop, refl, sym, ◌∙◌, arith}
use Rattle.std.specs.Prelude.{Option, Some, None, Ok, Err}
use Rattle.std.proofs.lemmas.List.{take-append-drop, length-drop}
use Rattle.std.proofs.Math.Seq.{take-add, drop-length, take-length}
use Rattle.std.specs.Io.KnownBytes.{Appends, Keeps}
use Rattle.std.proofs.KnownBytes.{Appends-nil, Appends-trans}
use Rattle.genie_host.specs.Host.{HostView, OnlyHandle, Writes}
use Rattle.genie_host.specs.OnlyHandle.{only_refl, only_trans}
use Rattle.genie_console.specs.Replies.{WritesFront, Flushes}

-- so many bytes were written, and nothing failed
pub record Written (old now : HostView) (bytes : List ℕ) (count : ℕ) : Type 0 where
  pub within : count ≤ length bytes
  pub only : OnlyHandle 0 old now
  pub told : Appends (old.handle 0).bytes (now.handle 0).bytes (take count bytes)
  pub faults : (now.handle 0).faults ≡ (old.handle 0).faults

pub written_none : (v : HostView) (bytes : List ℕ) → Written v v bytes 0
written_none v bytes = record { within = omega arith; only = only_refl 0 v; told = Appends-nil (v.handle 0).bytes; faults = refl }

pub written_more : {E : Type 0} (old u w : HostView) (bytes : List ℕ) (count n : ℕ) → Written old u bytes count → n ≤ length (drop count bytes) → Writes {E = E} 0 u w (Ok n) (drop count bytes) → Written old w bytes (count + n)
written_more old u w bytes count n so short step =
    let within : count ≤ length bytes = so.within in
    let left : n ≤ length bytes - count = rw (← length-drop count bytes) short in
    record {
      within = omega arith;
      only = only_trans 0 old u w so.only step.only;
      told = rw (take-add count n bytes) (Appends-trans (old.handle 0).bytes (u.handle 0).bytes (w.handle 0).bytes (take count bytes) (take n (drop count bytes)) so.told step.bytes);
      faults = step.cause.kept ∙ so.faults;
    }

-- the piece that is written next is all that is left
pub whole_rest : (bytes : List ℕ) (count : ℕ) → take (length bytes - count) (drop count bytes) ≡ drop count bytes
whole_rest bytes count = rw (← length-drop count bytes) (take-length (drop count bytes))

appends_kept : (u v w : Option (List ℕ)) (xs : List ℕ) → Appends u v xs → Keeps v w → Appends u w xs
appends_kept None v w xs a b = tt
appends_kept (Some u) None w xs a b = absurd a
appends_kept (Some u) (Some v) None xs a b = absurd b
appends_kept (Some u) (Some v) (Some w) xs a b = b ∙ a

pub written_failed : {E : Type 0} (old u w : HostView) (bytes : List ℕ) (count : ℕ) (e : E) → Written old u bytes count → count < length bytes → Writes {E = E} 0 u w (Err e) (drop count bytes) → WritesFront old w bytes count
written_failed old u w bytes count e so less step = record {
  only = only_trans 0 old u w so.only step.only;
  told = appends_kept (old.handle 0).bytes (u.handle 0).bytes (w.handle 0).bytes (take count bytes) so.told step.bytes;
  later = rw so.faults at step.cause.later;
  cause = λ _. rw so.faults at step.cause.failed;
  kept = λ all. absurd (let same : count ≡ length bytes = all in omega arith);
}

pub written_all : (old u : HostView) (bytes : List ℕ) (count : ℕ) → Written old u bytes count → length bytes ≤ count → WritesFront old u bytes count
written_all old u bytes count so all = record {
  only = so.only;
  told = so.told;
  later = let same = so.faults in omega arith;
  cause = λ less. absurd (omega arith);
  kept = λ _. so.faults;
}

-- the rest of what was written waits on
pub flushes_err : {E : Type 0} (old new : HostView) (bytes : List ℕ) (count : ℕ) (e : E) → WritesFront old new bytes count → count < length bytes → Flushes {E = E} old new bytes (drop count bytes) (Err e)
flushes_err old new bytes count e w less = record {
  only = w.only;
  gone = take count bytes;
  order = sym (take-append-drop count bytes);
  told = w.told;
  whole = tt;
  cause = record { later = w.later; failed = w.cause less; kept = tt };
}

pub flushes_ok : {E : Type 0} (old new : HostView) (bytes : List ℕ) (count : ℕ) → WritesFront old new bytes count → count ≡ length bytes → Flushes {E = E} old new bytes (drop count bytes) (Ok tt)
flushes_ok old new bytes count w all =
    let none : drop count bytes ≡ [] = rw all (drop-length bytes) in
    let same = w.kept all in
    record {
      only = w.only;
      gone = take count bytes;
      order = sym (take-append-drop count bytes);
      told = w.told;
      whole = none;
      cause = record { later = w.later; failed = tt; kept = same };
    }
