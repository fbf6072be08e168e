-- A step of a header so far.
use Rattle.std.proofs.Common.{◌≡◌, ℕ, ◌+◌, ◌-◌, ◌<◌, ◌≤◌, ◌⊎◌, ◌≢◌, min, List, [], ◌++◌, length, take, refl, ap, sym, ◌∙◌, subst, arith, true, false, inl, inr, append_assoc, append-nil}
use Rattle.std.specs.Prelude.{Option, Some, None, Ok, Err, if◌then◌else◌, IfSome}
use Rattle.std.proofs.lemmas.Grind.{common_steps}
use Rattle.std.proofs.lemmas.List.{length-append}
use Rattle.std.specs.Io.KnownBytes.{Consumes, IsAtEnd}
use Rattle.std.proofs.KnownBytes.{Consumes-nil, Consumes-trans, Consumes-kept}
use Rattle.genie_base.specs.Headers.{size_of_header, is_whole_header, is_valid_header, header_taken}
use Rattle.genie_host.specs.Host.{HostView, OnlyHandle, Reads}
use Rattle.genie_host.specs.OnlyHandle.{only_refl, only_trans}
use Rattle.genie_wire.specs.Headers.{IsWhole, header_in}
use Rattle.genie_device.specs.declared.steps.HeaderEnd.{HeaderEnd}
use Rattle.genie_device.specs.declared.steps.HeaderEnd.TheVariants.{More, Whole, Bad, Faulted}
use Rattle.genie_device.specs.Gathering.{Gathers, EndsHeader, HeaderCause, TakesAll, judged}
use Rattle.genie_device.proofs.HeaderSizes.{size_grows, not_whole, short_taken, whole_taken}

-- these bytes were taken and gathered, and nothing failed
pub record Gathered (handle n : ℕ) (old now : HostView) (before content : List ℕ) (moved : ℕ) : Type 0 where
  pub taken : List ℕ
  pub size : length taken ≡ moved
  pub within : moved ≤ n
  pub held : content ≡ before ++ taken
  pub only : OnlyHandle handle old now
  pub bytes : Consumes (old.handle handle).bytes (now.handle handle).bytes taken
  pub count : (now.handle handle).faults ≡ (old.handle handle).faults

pub gathered_none : (handle n : ℕ) (v : HostView) (before : List ℕ) → Gathered handle n v v before before 0
gathered_none handle n v before = record {
  taken = [];
  size = refl;
  within = omega arith;
  held = sym (append-nil before);
  only = only_refl handle v;
  bytes = Consumes-nil (v.handle handle).bytes;
  count = refl;
}

pub gathered_more : {E : Type 0} (handle n : ℕ) (old u w : HostView) (before mid after buffer : List ℕ) (moved count : ℕ)
    → Gathered handle n old u before mid moved → Reads {E = E} handle u w (Ok count) buffer → count ≤ length buffer → moved + count ≤ n
    → after ≡ mid ++ take count buffer → Gathered handle n old w before after (moved + count)
gathered_more handle n old u w before mid after buffer moved count m r fits most e = record {
  taken = m.taken ++ take count buffer;
  size = let s : length m.taken ≡ moved = m.size in grind (arith, common_steps);
  within = most;
  held = e ∙ rw (m.held, append_assoc);
  only = only_trans handle old u w m.only r.only;
  bytes = Consumes-trans (old.handle handle).bytes (u.handle handle).bytes (w.handle handle).bytes m.taken (take count buffer) m.bytes r.bytes.0;
  count = r.cause.kept ∙ m.count;
}

-- the told rest of the input tells how many bytes there were to take
told_short : (n : ℕ) (gathered taken : List ℕ) (rest left : Option (List ℕ)) → is_whole_header (gathered ++ taken) ≡ false → length taken ≤ n
    → (length taken ≡ n) ⊎ IsAtEnd left → Consumes rest left taken → IfSome rest (λ bytes. length taken ≡ header_taken n gathered bytes)
told_short n gathered taken None left short within all c = tt
told_short n gathered taken (Some rest) None short within all c = absurd c
told_short n gathered taken (Some rest) (Some left) short within (inl all) c = rw c (short_taken n gathered taken left short within (inl all))
told_short n gathered taken (Some rest) (Some left) short within (inr end) c = rw c (short_taken n gathered taken left short within (inr (ap length end)))

told_whole : (n : ℕ) (gathered taken : List ℕ) (rest left : Option (List ℕ)) → IsWhole (gathered ++ taken) → length taken ≤ n
    → Consumes rest left taken → IfSome rest (λ bytes. length taken ≡ header_taken n gathered bytes)
told_whole n gathered taken None left whole within c = tt
told_whole n gathered taken (Some rest) None whole within c = absurd c
told_whole n gathered taken (Some rest) (Some left) whole within c = rw c (whole_taken n gathered taken left whole within)

pub gathered_failed : {E : Type 0} (handle limit n : ℕ) (old u w : HostView) (before mid buffer : List ℕ) (moved : ℕ) (e : E)
    → Gathered handle n old u before mid moved → is_whole_header mid ≡ false → Reads {E = E} handle u w (Err e) buffer → moved < n
    → Gathers handle limit n old w before mid moved Faulted
gathered_failed handle limit n old u w before mid buffer moved e m short r less =
    let held : mid ≡ before ++ m.taken = m.held in
    let unfilled : is_whole_header (before ++ m.taken) ≡ false = rw held at short in
    let fits = not_whole (before ++ m.taken) unfilled in
    let bytes = Consumes-kept (old.handle handle).bytes (u.handle handle).bytes (w.handle handle).bytes m.taken m.bytes r.bytes in
    let size : length m.taken ≡ moved = m.size in
    record {
      taken = m.taken;
      takes = record {
        size = m.size;
        within = m.within;
        fits = omega arith;
        only = only_trans handle old u w m.only r.only;
        bytes = bytes;
        ends = (unfilled, less);
        cause = rw m.count at r.cause.failed;
        exact = rw size at (told_short (length m.taken) before m.taken (old.handle handle).bytes (w.handle handle).bytes unfilled (omega arith) (inl refl) bytes);
      };
      held = m.held;
    }

consumes_none : (a b c : Option (List ℕ)) (xs : List ℕ) → Consumes a b xs → Consumes b c [] → Consumes a c xs
consumes_none a b c xs p q = subst (Consumes a c) (append-nil xs) (Consumes-trans a b c xs [] p q)

pub gathered_stopped : {E : Type 0} (handle limit n : ℕ) (old u w : HostView) (before mid buffer : List ℕ) (moved : ℕ)
    → Gathered handle n old u before mid moved → is_whole_header mid ≡ false → Reads {E = E} handle u w (Ok 0) buffer → 0 < length buffer
    → Gathers handle limit n old w before mid moved More
gathered_stopped handle limit n old u w before mid buffer moved m short r some =
    let held : mid ≡ before ++ m.taken = m.held in
    let unfilled : is_whole_header (before ++ m.taken) ≡ false = rw held at short in
    let fits = not_whole (before ++ m.taken) unfilled in
    let bytes = consumes_none (old.handle handle).bytes (u.handle handle).bytes (w.handle handle).bytes m.taken m.bytes r.bytes.0 in
    let end = r.bytes.1 refl some in
    let size : length m.taken ≡ moved = m.size in
    record {
      taken = m.taken;
      takes = record {
        size = m.size;
        within = m.within;
        fits = omega arith;
        only = only_trans handle old u w m.only r.only;
        bytes = bytes;
        ends = (unfilled, inr end);
        cause = r.cause.kept ∙ m.count;
        exact = rw size at (told_short n before m.taken (old.handle handle).bytes (w.handle handle).bytes unfilled (rw size m.within) (inr end) bytes);
      };
      held = m.held;
    }

pub gathered_spent : (handle limit n : ℕ) (old u : HostView) (before mid : List ℕ) (moved : ℕ)
    → Gathered handle n old u before mid moved → is_whole_header mid ≡ false → n ≤ moved → Gathers handle limit n old u before mid moved More
gathered_spent handle limit n old u before mid moved m short all =
    let held : mid ≡ before ++ m.taken = m.held in
    let unfilled : is_whole_header (before ++ m.taken) ≡ false = rw held at short in
    let fits = not_whole (before ++ m.taken) unfilled in
    let within : moved ≤ n = m.within in
    let size : length m.taken ≡ moved = m.size in
    record {
      taken = m.taken;
      takes = record {
        size = m.size;
        within = m.within;
        fits = omega arith;
        only = m.only;
        bytes = m.bytes;
        ends = (unfilled, inl (omega arith));
        cause = m.count;
        exact = rw size at (told_short n before m.taken (old.handle handle).bytes (u.handle handle).bytes unfilled (omega arith) (inl (omega arith)) m.bytes);
      };
      held = m.held;
    }

not_more : (limit : ℕ) (bytes : List ℕ) → More ≢ judged limit bytes
not_more limit bytes e = elim (is_valid_header limit bytes) as (λ b. More ≡ (if b then Whole (header_in bytes) else Bad) → ⊥) [
  | true ↦ λ t. cc
  | false ↦ λ t. cc
] e

not_faulted : (limit : ℕ) (bytes : List ℕ) → Faulted ≢ judged limit bytes
not_faulted limit bytes e = elim (is_valid_header limit bytes) as (λ b. Faulted ≡ (if b then Whole (header_in bytes) else Bad) → ⊥) [
  | true ↦ λ t. cc
  | false ↦ λ t. cc
] e

judged_takes : (limit n moved : ℕ) (before taken : List ℕ) (rest left : Option (List ℕ)) (a b : ℕ) (end : HeaderEnd) → end ≡ judged limit (before ++ taken)
    → IsWhole (before ++ taken) → b ≡ a → IfSome rest (λ bytes. moved ≡ header_taken n before bytes)
    → EndsHeader end limit n moved (before ++ taken) left × HeaderCause end a b × TakesAll end n moved before rest
judged_takes limit n moved before taken rest left a b (Whole header) e whole count told = ((whole, e), count, told)
judged_takes limit n moved before taken rest left a b Bad e whole count told = ((whole, e), count, told)
judged_takes limit n moved before taken rest left a b More e whole count told = absurd (not_more limit (before ++ taken) e)
judged_takes limit n moved before taken rest left a b Faulted e whole count told = absurd (not_faulted limit (before ++ taken) e)

pub gathered_whole : (handle limit n : ℕ) (old u : HostView) (before mid : List ℕ) (moved : ℕ) (end : HeaderEnd)
    → Gathered handle n old u before mid moved → IsWhole mid → end ≡ judged limit mid → Gathers handle limit n old u before mid moved end
gathered_whole handle limit n old u before mid moved end m all e =
    let held : mid ≡ before ++ m.taken = m.held in
    let whole : IsWhole (before ++ m.taken) = rw held at all in
    let size : length m.taken ≡ moved = m.size in
    let told = rw size at (told_whole n before m.taken (old.handle handle).bytes (u.handle handle).bytes whole (rw size m.within) m.bytes) in
    let three = judged_takes limit n moved before m.taken (old.handle handle).bytes (u.handle handle).bytes (old.handle handle).faults (u.handle handle).faults end (rw held at e) whole m.count told in
    record {
      taken = m.taken;
      takes = record {
        size = m.size;
        within = m.within;
        fits = omega arith;
        only = m.only;
        bytes = m.bytes;
        ends = three.0;
        cause = three.1;
        exact = three.2;
      };
      held = m.held;
    }

-- a read for which the budget and the header have room
pub some_wanted : (content bytes : List ℕ) (size have n moved want len : ℕ) → is_whole_header content ≡ false → bytes ≡ content → size ≡ size_of_header bytes → have ≡ length content
    → want ≡ min (size - have) (n - moved) → len ≡ want → moved < n → 0 < len
some_wanted content bytes size have n moved want len short e s h w l less = let more = not_whole content short in let t : size ≡ size_of_header content = rw e at s in omega arith

-- what was read fits the budget
pub within_budget : (missing n moved want len count : ℕ) → want ≡ min missing (n - moved) → len ≡ want → count ≤ len → moved < n → moved + count ≤ n
within_budget missing n moved want len count w l c less = omega arith

-- and the header
pub within_header : (content bytes taken after : List ℕ) (size have n moved want len count : ℕ) → is_whole_header content ≡ false → bytes ≡ content → size ≡ size_of_header bytes → have ≡ length content
    → want ≡ min (size - have) (n - moved) → len ≡ want → length taken ≡ count → count ≤ len → after ≡ content ++ taken → length after ≤ size_of_header after
within_header content bytes taken after size have n moved want len count short e s h w l t c a =
    let more = not_whole content short in
    let told : size ≡ size_of_header content = rw e at s in
    let grows = size_grows content taken in
    let sum = length-append content taken in
    rw a (omega arith)

pub still_short : (after : List ℕ) → length after ≤ size_of_header after → length after ≢ size_of_header after → is_whole_header after ≡ false
still_short after fits other = grind (arith, common_steps)
