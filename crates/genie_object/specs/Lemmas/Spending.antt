-- What a call costs at most.
use Rattle.std.proofs.Common.{◌≡◌, ℕ, ◌<◌, ◌≤◌, ◌+◌, Bool, true, false, refl, arith, ap, rules, ◌∙◌}
use Rattle.std.specs.Prelude.{◌||◌, Option, Some, None, nat_lt}
use Rattle.genie_frame.specs.declared.frame.Meters.{Meters}
use Rattle.genie_frame.specs.declared.frame.FrameId.{FrameId}
use Rattle.genie_object.specs.declared.pages.Place.{Place}
use Rattle.genie_object.specs.declared.pages.Place.TheVariants.{Zero, Frame, Slot}
use Rattle.genie_object.specs.declared.pages.PageId.{PageId}
use Rattle.genie_object.specs.declared.memory.Memory.{Memory}
use Rattle.genie_object.specs.Pages.{page_at}
use Rattle.genie_object.specs.Objects.{entry_at}
use Rattle.genie_object.specs.Sound.{strong_at}
use Rattle.genie_object.specs.Costs.{AreBelow, Spends, load_work, place_of, write_work, read_work, must_copy, is_untouched, is_fixed, is_strong_in, is_zero, CostsNoMore}

pub spends_more : (b g p f b' g' p' f' : ℕ) (old new : Meters) → Spends b g p f old new → b ≤ b' → g ≤ g' → p ≤ p' → f ≤ f' → Spends b' g' p' f' old new
spends_more b g p f b' g' p' f' old new x hb hg hp hf = record {
  read = x.read;
  written = x.written;
  copied = x.copied;
  zeroed = x.zeroed;
  work = omega (arith, x.work, hb);
  gets = x.gets;
  most_gets = omega (arith, x.most_gets, hg);
  puts = x.puts;
  most_puts = omega (arith, x.most_puts, hp);
  taken = x.taken;
  most_taken = omega (arith, x.most_taken, hf);
}

pub spends_none : (b g p f : ℕ) (m : Meters) → Spends b g p f m m
spends_none b g p f m = record { read = omega arith; written = omega arith; copied = omega arith; zeroed = omega arith; work = omega arith; gets = omega arith; most_gets = omega arith; puts = omega arith; most_puts = omega arith; taken = omega arith; most_taken = omega arith }

or_last : (a b c : Bool) → c ≡ true → (a || b || c) ≡ true
or_last a b c e = grind (rules, e)

or_mid : (a b c : Bool) → b ≡ true → (a || b || c) ≡ true
or_mid a b c e = grind (rules, e)

copied_whole : (m : Memory) (o i : ℕ) (place : Place) → must_copy m o i ≡ true → load_work m.frames.page place ≤ write_work m o i
copied_whole m o i Zero e = rw e (omega arith)
copied_whole m o i (Frame f) e = rw e (omega arith)
copied_whole m o i (Slot s) e = omega arith

-- the test on the page that the entry names
pub copy_named : (m : Memory) (o i : ℕ) (p : PageId) → (entry_at m.objects o i).page ≡ Some p → must_copy m o i ≡ is_fixed m.frames.counts (page_at m.pages.pages p.0)
copy_named m o i p e = ap (λ page. elim page [ None ↦ true | Some q ↦ is_fixed m.frames.counts (page_at m.pages.pages q.0) ]) e

pub untouched_named : (m : Memory) (o i : ℕ) (p : PageId) → (entry_at m.objects o i).page ≡ Some p → is_untouched m o i ≡ is_zero (page_at m.pages.pages p.0).place
untouched_named m o i p e = ap (λ page. elim page [ None ↦ true | Some q ↦ is_zero (page_at m.pages.pages q.0).place ]) e

pub work_own : (m : Memory) (o i : ℕ) (p : PageId) (place : Place) → (entry_at m.objects o i).page ≡ Some p → (page_at m.pages.pages p.0).place ≡ place → ((f : FrameId) → place ≡ Frame f → 0 < strong_at m.frames.counts f.0) → load_work m.frames.page place ≤ write_work m o i
work_own m o i p Zero e at h = copied_whole m o i Zero (copy_named m o i p e ∙ ap (λ b. b || nat_lt 1 (page_at m.pages.pages p.0).shares || is_strong_in m.frames.counts (page_at m.pages.pages p.0).place) (ap is_zero at))
work_own m o i p (Frame f) e at h =
    let l = h f refl in
    let q = page_at m.pages.pages p.0 in
    let strong : nat_lt 0 (strong_at m.frames.counts f.0) ≡ true = grind (arith, rules, l) in
    copied_whole m o i (Frame f) (copy_named m o i p e ∙ or_last (is_zero q.place) (nat_lt 1 q.shares) (is_strong_in m.frames.counts q.place) (ap (is_strong_in m.frames.counts) at ∙ strong))
work_own m o i p (Slot s) e at h = omega arith

must_part : (m : Memory) (o i : ℕ) (page : Option PageId) → (entry_at m.objects o i).page ≡ page → ((p : PageId) → page ≡ Some p → 1 < (page_at m.pages.pages p.0).shares) → must_copy m o i ≡ true
must_part m o i None e h = ap (λ page. elim page [ None ↦ true | Some q ↦ is_fixed m.frames.counts (page_at m.pages.pages q.0) ]) e
must_part m o i (Some p) e h =
    let l = h p refl in
    let q = page_at m.pages.pages p.0 in
    let many : nat_lt 1 q.shares ≡ true = grind (arith, rules, l) in
    copy_named m o i p e ∙ or_mid (is_zero q.place) (nat_lt 1 q.shares) (is_strong_in m.frames.counts q.place) many

pub work_part : (m : Memory) (o i : ℕ) → ((p : PageId) → (entry_at m.objects o i).page ≡ Some p → 1 < (page_at m.pages.pages p.0).shares) → load_work m.frames.page (place_of m o i) ≤ write_work m o i
work_part m o i h = copied_whole m o i (place_of m o i) (must_part m o i (entry_at m.objects o i).page refl h)

-- a page that isn't in a frame is read in; one that is untouched is zeroed
pub work_read : (m : Memory) (o i : ℕ) (p : PageId) (place : Place) → (entry_at m.objects o i).page ≡ Some p → (page_at m.pages.pages p.0).place ≡ place → ((f : FrameId) → place ≡ Frame f → true ≡ false) → load_work m.frames.page place ≤ read_work m o i
work_read m o i p Zero e at h = rw (untouched_named m o i p e ∙ ap is_zero at) (omega arith)
work_read m o i p (Frame f) e at h = let bad : true ≡ false = h f refl in cc
work_read m o i p (Slot s) e at h = omega arith

-- an entry without a page is untouched
pub work_none : (m : Memory) (o i : ℕ) → (entry_at m.objects o i).page ≡ None → load_work m.frames.page (place_of m o i) ≤ read_work m o i
work_none m o i e =
    let zero' : place_of m o i ≡ Zero = ap (λ page. elim page [ None ↦ Zero | Some q ↦ (page_at m.pages.pages q.0).place ]) e in
    let none : is_untouched m o i ≡ true = ap (λ page. elim page [ None ↦ true | Some q ↦ is_zero (page_at m.pages.pages q.0).place ]) e in
    rw (zero', none) (omega arith)

pub place_named : (m : Memory) (o i : ℕ) (p : PageId) → (entry_at m.objects o i).page ≡ Some p → place_of m o i ≡ (page_at m.pages.pages p.0).place
place_named m o i p e = ap (λ page. elim page [ None ↦ Zero | Some q ↦ (page_at m.pages.pages q.0).place ]) e

-- what costs no more in either of two calls costs no more after both
pub costs_on : (a b c : Memory) → CostsNoMore a b → CostsNoMore b c → CostsNoMore a c
costs_on a b c x y = record { read = λ o i e. y.read o i (x.read o i e); write = λ o i e. y.write o i (x.write o i e) }

pub spends_on : (b g p f b' g' p' f' : ℕ) (x y z : Meters) → Spends b g p f x y → Spends b' g' p' f' y z → Spends (b + b') (g + g') (p + p') (f + f') x z
spends_on b g p f b' g' p' f' x y z s t = record {
  read = omega (arith, s.read, t.read);
  written = omega (arith, s.written, t.written);
  copied = omega (arith, s.copied, t.copied);
  zeroed = omega (arith, s.zeroed, t.zeroed);
  work = omega (arith, s.work, t.work);
  gets = omega (arith, s.gets, t.gets);
  most_gets = omega (arith, s.most_gets, t.most_gets);
  puts = omega (arith, s.puts, t.puts);
  most_puts = omega (arith, s.most_puts, t.most_puts);
  taken = omega (arith, s.taken, t.taken);
  most_taken = omega (arith, s.most_taken, t.most_taken);
}

-- what meters keep below a bound they keep below one that is raised by what a call costs
pub below_spent : (n b g p f : ℕ) (x y : Meters) → AreBelow n x → Spends b g p f x y → AreBelow (n + b + g + p + f) y
below_spent n b g p f x y a s = record {
  read = omega (arith, a.read, s.work, s.written, s.copied, s.zeroed);
  written = omega (arith, a.written, s.work, s.read, s.copied, s.zeroed);
  copied = omega (arith, a.copied, s.work, s.written, s.read, s.zeroed);
  zeroed = omega (arith, a.zeroed, s.work, s.written, s.copied, s.read);
  puts = omega (arith, a.puts, s.most_puts);
  gets = omega (arith, a.gets, s.most_gets);
  taken = omega (arith, a.taken, s.most_taken);
}
