-- A step of a payload so far.
use Rattle.std.proofs.Common.{◌≡◌, ℕ, ◌+◌, ◌-◌, ◌<◌, ◌≤◌, ◌⊎◌, min, List, [], ◌++◌, length, take, drop, refl, ap, sym, ◌∙◌, subst, arith, inl, inr, true, false, zero, suc, append-nil}
use Rattle.std.specs.Prelude.{Option, Some, None, Ok, Err, ◌==◌, if◌then◌else◌, IfSome}
use Rattle.std.proofs.lemmas.Grind.{common_steps}
use Rattle.std.proofs.lemmas.List.{length-append, length-take, length-drop}
use Rattle.std.specs.Io.KnownBytes.{Consumes, IsAtEnd}
use Rattle.std.proofs.KnownBytes.{Consumes-nil, Consumes-trans, Consumes-kept}
use Rattle.genie_base.specs.Bytes.{overlaid}
use Rattle.genie_base.specs.Headers.{payload_taken}
use Rattle.genie_base.specs.Lemmas.Overlaid.{overlaid-nothing, overlaid-append}
use Rattle.genie_host.specs.Host.{HostView, OnlyHandle, Reads}
use Rattle.genie_host.specs.OnlyHandle.{only_refl, only_trans}
use Rattle.genie_device.specs.declared.steps.BodyEnd.TheVariants.{More, Whole, Faulted}
use Rattle.genie_device.specs.Receiving.{Lands, EndsBody, BodyCause, TakesAll, stopped_end, used_up_end}

-- these bytes were taken and landed, and nothing failed
pub record Landed (handle at budget : ℕ) (old now : HostView) (before content : List ℕ) (moved : ℕ) : Type 0 where
  pub taken : List ℕ
  pub size : length taken ≡ moved
  pub within : moved ≤ budget
  pub only : OnlyHandle handle old now
  pub bytes : Consumes (old.handle handle).bytes (now.handle handle).bytes taken
  pub landed : content ≡ overlaid at taken before
  pub count : (now.handle handle).faults ≡ (old.handle handle).faults

pub landed_none : (handle at budget : ℕ) (v : HostView) (before : List ℕ) → Landed handle at budget v v before before 0
landed_none handle at budget v before = record {
  taken = [];
  size = refl;
  within = omega arith;
  only = only_refl handle v;
  bytes = Consumes-nil (v.handle handle).bytes;
  landed = sym (overlaid-nothing at before);
  count = refl;
}

behind : (at at' : ℕ) (a b before mid : List ℕ) → mid ≡ overlaid at a before → at' ≡ at + length a → overlaid at' b mid ≡ overlaid at (a ++ b) before
behind at at' a b before mid e f = rw (e, f) (overlaid-append at a b before)

pub landed_more : {E : Type 0} (handle at budget : ℕ) (old u w : HostView) (before mid after buffer : List ℕ) (moved count : ℕ)
    → Landed handle at budget old u before mid moved → Reads {E = E} handle u w (Ok count) buffer → count ≤ length buffer → moved + count ≤ budget
    → after ≡ overlaid (at + moved) (take count buffer) mid → Landed handle at budget old w before after (moved + count)
landed_more handle at budget old u w before mid after buffer moved count m r fits most e = record {
  taken = m.taken ++ take count buffer;
  size = let s : length m.taken ≡ moved = m.size in grind (arith, common_steps);
  within = most;
  only = only_trans handle old u w m.only r.only;
  bytes = Consumes-trans (old.handle handle).bytes (u.handle handle).bytes (w.handle handle).bytes m.taken (take count buffer) m.bytes r.bytes.0;
  landed = e ∙ behind at (at + moved) m.taken (take count buffer) before mid m.landed (ap (λ n. at + n) (sym m.size));
  count = r.cause.kept ∙ m.count;
}

-- the told rest of the input tells how many bytes there were to take
told : (left n : ℕ) (taken : List ℕ) (rest after : Option (List ℕ)) → length taken ≤ n → length taken ≤ left
    → (length taken ≡ min n left) ⊎ IsAtEnd after → Consumes rest after taken → IfSome rest (λ bytes. length taken ≡ payload_taken n left bytes)
told left n taken None after within fits all c = tt
told left n taken (Some rest) None within fits all c = absurd c
told left n taken (Some rest) (Some after) within fits (inl all) c = rw c (let size = length-append taken after in omega arith)
told left n taken (Some rest) (Some after) within fits (inr end) c = rw (c, end) (let size = length-append taken [] in omega arith)

pub landed_failed : {E : Type 0} (handle at n left : ℕ) (old u w : HostView) (before mid buffer : List ℕ) (moved : ℕ) (e : E)
    → Landed handle at (min n left) old u before mid moved → Reads {E = E} handle u w (Err e) buffer → moved < min n left
    → Lands handle at left n old w before mid moved Faulted
landed_failed handle at n left old u w before mid buffer moved e m r less =
    let bytes = Consumes-kept (old.handle handle).bytes (u.handle handle).bytes (w.handle handle).bytes m.taken m.bytes r.bytes in
    let size : length m.taken ≡ moved = m.size in
    record {
      taken = m.taken;
      takes = record {
        size = m.size;
        within = omega arith;
        fits = omega arith;
        only = only_trans handle old u w m.only r.only;
        bytes = bytes;
        ends = (omega arith, omega arith);
        cause = rw m.count at r.cause.failed;
        exact = rw size at (told left (length m.taken) m.taken (old.handle handle).bytes (w.handle handle).bytes (omega arith) (omega arith) (inl (omega arith)) bytes);
      };
      landed = m.landed;
    }

consumes_none : (a b c : Option (List ℕ)) (xs : List ℕ) → Consumes a b xs → Consumes b c [] → Consumes a c xs
consumes_none a b c xs p q = subst (Consumes a c) (append-nil xs) (Consumes-trans a b c xs [] p q)

stopped_ends : (moved left n : ℕ) (rest old : Option (List ℕ)) (before now : ℕ) → now ≡ before → moved < min n left → IsAtEnd rest
    → IfSome old (λ bytes. moved ≡ payload_taken n left bytes)
    → EndsBody (stopped_end moved) left n moved rest × BodyCause (stopped_end moved) before now × TakesAll (stopped_end moved) left n moved old
stopped_ends zero left n rest old before now e less end all = ((refl, omega arith, omega arith, end), e, all)
stopped_ends (suc m) left n rest old before now e less end all =
    let is : stopped_end (suc m) ≡ More = grind arith in
    rw is ((omega arith, inr (omega arith, end)), e, all)

pub landed_stopped : {E : Type 0} (handle at n left : ℕ) (old u w : HostView) (before mid buffer : List ℕ) (moved : ℕ)
    → Landed handle at (min n left) old u before mid moved → Reads {E = E} handle u w (Ok 0) buffer → moved < min n left → 0 < length buffer
    → Lands handle at left n old w before mid moved (stopped_end moved)
landed_stopped handle at n left old u w before mid buffer moved m r less some =
    let size : length m.taken ≡ moved = m.size in
    let bytes = consumes_none (old.handle handle).bytes (u.handle handle).bytes (w.handle handle).bytes m.taken m.bytes r.bytes.0 in
    let end = r.bytes.1 refl some in
    let all = rw size at (told left n m.taken (old.handle handle).bytes (w.handle handle).bytes (omega arith) (omega arith) (inr end) bytes) in
    let three = stopped_ends moved left n (w.handle handle).bytes (old.handle handle).bytes (old.handle handle).faults (w.handle handle).faults (r.cause.kept ∙ m.count) less end all in
    record {
      taken = m.taken;
      takes = record {
        size = m.size;
        within = omega arith;
        fits = omega arith;
        only = only_trans handle old u w m.only r.only;
        bytes = bytes;
        ends = three.0;
        cause = three.1;
        exact = three.2;
      };
      landed = m.landed;
    }

used_up_ends : (moved left n : ℕ) (rest old : Option (List ℕ)) (before now : ℕ) → now ≡ before → moved ≡ min n left
    → IfSome old (λ bytes. moved ≡ payload_taken n left bytes)
    → EndsBody (used_up_end moved left) left n moved rest × BodyCause (used_up_end moved left) before now × TakesAll (used_up_end moved left) left n moved old
used_up_ends moved left n rest old before now e is all =
    elim (moved == left) as (λ b. moved == left ≡ b → (let end = (if b then Whole else More) in EndsBody end left n moved rest × BodyCause end before now × TakesAll end left n moved old)) [
      | true ↦ λ t. (grind (arith, t), e, all)
      | false ↦ λ f. let ne : ¬ (moved ≡ left) = grind (arith, f) in ((omega arith, inl (omega arith)), e, all)
    ] refl

pub landed_all : (handle at n left : ℕ) (old u : HostView) (before mid : List ℕ) (moved : ℕ)
    → Landed handle at (min n left) old u before mid moved → min n left ≤ moved
    → Lands handle at left n old u before mid moved (used_up_end moved left)
landed_all handle at n left old u before mid moved m all =
    let size : length m.taken ≡ moved = m.size in
    let within : moved ≤ min n left = m.within in
    let told = rw size at (told left n m.taken (old.handle handle).bytes (u.handle handle).bytes (omega arith) (omega arith) (inl (omega arith)) m.bytes) in
    let three = used_up_ends moved left n (u.handle handle).bytes (old.handle handle).bytes (old.handle handle).faults (u.handle handle).faults m.count (omega arith) told in
    record {
      taken = m.taken;
      takes = record {
        size = m.size;
        within = omega arith;
        fits = omega arith;
        only = m.only;
        bytes = m.bytes;
        ends = three.0;
        cause = three.1;
        exact = three.2;
      };
      landed = m.landed;
    }

pub risen : (a b c : ℕ) → a ≤ b → b ≤ c → a ≤ c
risen a b c p q = omega arith

pub risen_most : (a b c moved count size : ℕ) → b ≤ a + moved → c ≤ b + size → count ≡ size → c ≤ a + (moved + count)
risen_most a b c moved count size p q e = omega arith

pub runs_on : (moved budget want count size room : ℕ) → want ≡ min (budget - moved) room → size ≡ want → count ≤ size → moved < budget → moved + count ≤ budget
runs_on moved budget want count size room e f g h = omega arith

pub run_some : (moved budget want size room : ℕ) → want ≡ min (budget - moved) room → 0 < room → size ≡ want → moved < budget → 0 < size
run_some moved budget want size room e s f h = omega arith

-- a buffer in which a front was filled is as long as before
pub refilled_size : (n : ℕ) (new old : List ℕ) → n ≡ length old → length (take n (new ++ drop (length new) old)) ≡ length old
refilled_size n new old e = omega (arith, e, length-take n (new ++ drop (length new) old), length-append new (drop (length new) old), length-drop (length new) old)

pub buffer_some : (n : ℕ) (now old : List ℕ) → 0 < length old → length now ≡ length old → n ≡ length now → 0 < n
buffer_some n now old some same e = omega arith

-- the run that was lent is as long as wanted
pub run_size : (want most n : ℕ) (into items : List ℕ) → want ≡ min most n → n ≡ length items → length into ≡ length (take want items) → length into ≡ want
run_size want most n into items e f g = omega (arith, e, f, g, length-take want items)
