-- A call on the handle of the replies or of the script.
use Rattle.std.proofs.Common.{◌≡◌, ◌≢◌, ℕ, ◌≤◌, true, false, List, ◌++◌, refl, ap, sym, ◌∙◌, append_assoc, arith, inl, inr}
use Rattle.std.specs.Prelude.{◌⊎◌, ◌==◌, Option, Result, Ok, Err}
use Rattle.std.specs.Io.KnownBytes.{Appends}
use Rattle.std.proofs.lemmas.Bool.Decides.{nat_tests}
use Rattle.genie_host.specs.Host.{HostView, HandleState, OnlyHandle}
use Rattle.genie_host.specs.OnlyHandle.{only_trans}
use Rattle.genie_store.specs.StoreView.{StoreView}
use Rattle.genie_kernel.specs.declared.kernel.Kernel.{Kernel}
use Rattle.genie_replay.specs.Plays.{LaterFaults, OnlyRun}
use Rattle.genie_replay.specs.Write.{AppendsFront, WritesAll}
use Rattle.genie_replay.specs.Lemmas.Writing.{appends_more}
use Rattle.genie_script.specs.Spelling.{reply_text}
use Rattle.genie_playing.specs.declared.costs.Listing.{Listing}
use Rattle.genie_playing.specs.declared.costs.Listing.TheVariants.{Replies, Costs}
use Rattle.genie_playing.specs.Costs.{Answer, cost_text, said}
use Rattle.genie_playing.specs.Moments.{Between, moment}

pub later_only : (h : ℕ) (u v : HostView) → OnlyHandle h u v → (u.handle h).faults ≤ (v.handle h).faults → LaterFaults u v
later_only h u v only later = λ k. elim (k == h) as (λ b. (k == h) ≡ b → (u.handle k).faults ≤ (v.handle k).faults) [
  | true ↦ λ e. let same : k ≡ h = grind (arith, nat_tests, e) in rw same later
  | false ↦ λ e. let other : k ≢ h = λ s. grind (arith, nat_tests, e, s) in let kept : (v.handle k).faults ≡ (u.handle k).faults = ap (λ (x : HandleState). x.faults) (only.others k other) in omega (arith, kept)
] refl

run_only : (h : ℕ) (u v : HostView) → (h ≡ 0) ⊎ (h ≡ 1) → OnlyHandle h u v → OnlyRun u v
run_only h u v (inl z) only = record { others = λ k nz no. only.others k (λ e. nz (e ∙ z)); tried = only.tried; opened = only.opened }
run_only h u v (inr o) only = record { others = λ k nz no. only.others k (λ e. no (e ∙ o)); tried = only.tried; opened = only.opened }

pub only_between : (h : ℕ) (k : Kernel) (u v : HostView) (s : StoreView) → (h ≡ 0) ⊎ (h ≡ 1) → OnlyHandle h u v → (u.handle h).faults ≤ (v.handle h).faults → Between (moment k u s) (moment k v s)
only_between h k u v s which only later = record { kernel = refl; host = run_only h u v which only; later = later_only h u v only later; store = refl }

-- One text, and another behind it.

front_behind : (u v w : Option (List ℕ)) (xs ys : List ℕ) → Appends u v xs → AppendsFront v w ys → AppendsFront u w (xs ++ ys)
front_behind u v w xs ys a b = (xs ++ b.0, b.1, ap (λ l. xs ++ l) b.2 ∙ sym (append_assoc xs b.0 b.1), appends_more u v w xs b.0 a b.3)

front_longer : (u v : Option (List ℕ)) (xs ys : List ℕ) → AppendsFront u v xs → AppendsFront u v (xs ++ ys)
front_longer u v xs ys a = (a.0, a.1 ++ ys, ap (λ l. l ++ ys) a.2 ∙ append_assoc a.0 a.1 ys, a.3)

-- the first one was written whole, and then the other, or a front of it
pub writes_both : {E : Type 0} (k : ℕ) (u v w : HostView) (x : Unit {0}) (r : Result (Unit {0}) E) (xs ys : List ℕ) → WritesAll {E = E} k u v (Ok x) xs → WritesAll k v w r ys → WritesAll k u w r (xs ++ ys)
writes_both k u v w x (Ok y) xs ys a b = record {
  only = only_trans k u v w a.only b.only;
  whole = appends_more (u.handle k).bytes (v.handle k).bytes (w.handle k).bytes xs ys a.whole b.whole;
  front = tt;
  cause = record { later = let p = a.cause.later in let q = b.cause.later in omega (arith, p, q); failed = tt; kept = b.cause.kept ∙ a.cause.kept };
}
writes_both k u v w x (Err e) xs ys a b = record {
  only = only_trans k u v w a.only b.only;
  whole = tt;
  front = front_behind (u.handle k).bytes (v.handle k).bytes (w.handle k).bytes xs ys a.whole b.front;
  cause = record { later = let p = a.cause.later in let q = b.cause.later in omega (arith, p, q); failed = rw a.cause.kept at b.cause.failed; kept = tt };
}

-- a front of the first one was written
pub writes_first : {E : Type 0} (k : ℕ) (u v : HostView) (e : E) (xs ys : List ℕ) → WritesAll k u v (Err e) xs → WritesAll k u v (Err e) (xs ++ ys)
writes_first k u v e xs ys a = record { only = a.only; whole = tt; front = front_longer (u.handle k).bytes (v.handle k).bytes xs ys a.front; cause = a.cause }

-- a front of the reply is one of what is said
pub says_first : {E : Type 0} (l : Listing) (a : Answer) (k : ℕ) (u v : HostView) (e : E) → WritesAll k u v (Err e) (reply_text a.reply) → WritesAll k u v (Err e) (said l a)
says_first Replies a k u v e w = w
says_first Costs a k u v e w = writes_first k u v e (reply_text a.reply) (cost_text a.cost) w
