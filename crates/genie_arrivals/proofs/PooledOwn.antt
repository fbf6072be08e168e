-- Pages of an object are made its own, one after the other.
use Rattle.std.proofs.Common.{◌≡◌, ◌≢◌, ℕ, ◌+◌, ◌*◌, ◌<◌, ◌≤◌, Bool, true, false, refl, ap, sym, ◌∙◌, arith, rules, subst, inl, inr}
use Rattle.std.specs.Prelude.{Option, Some, None, ◌==◌}
use Rattle.std.proofs.lemmas.Bool.Decides.{eqb_tells}
use Rattle.genie_base.specs.Lemmas.Places.{same_or}
use Rattle.genie_frame.specs.declared.frame.Counts.{Counts}
use Rattle.genie_frame.specs.declared.frame.FrameId.{FrameId}
use Rattle.genie_store.specs.StoreView.{StoreView}
use Rattle.genie_object.specs.declared.pages.PageId.{PageId}
use Rattle.genie_object.specs.declared.pages.PageInfo.{PageInfo}
use Rattle.genie_object.specs.declared.objects.Entry.{Entry}
use Rattle.genie_object.specs.declared.memory.Memory.{Memory}
use Rattle.genie_object.specs.Calls.{OnlyMoves, TakesAtMost}
use Rattle.genie_object.specs.Costs.{Spends, gets_for, place_of, write_work}
use Rattle.genie_object.specs.Keeping.{IsReady}
use Rattle.genie_object.specs.Objects.{entry_at, names}
use Rattle.genie_object.specs.Sound.{IsPrivate, IsSized, IsSound}
use Rattle.genie_object.specs.Touching.{IsOutside, Touches, is_entry, is_in_range}
use Rattle.genie_object.specs.Lemmas.Calls.{moves_more, moves_none, moves_on}
use Rattle.genie_object.specs.Lemmas.Naming.{named_once}
use Rattle.genie_object.specs.Lemmas.Works.{one_get, page_most, write_most}
use Rattle.genie_kernel.specs.Lemmas.Rising.{rises_most, rises_none, rises_on, rises_spent}
use Rattle.genie_arrivals.specs.PooledRoom.{ArePrivate, MakesOwn}
use Rattle.std.proofs.Common.{zero, suc, ◌-◌, ◌≤◌, ap, sym, subst, Bool, true, false}
use Rattle.std.specs.Prelude.{if◌then◌else◌}
use Rattle.genie_object.specs.Costs.{must_copy, write_work, writes_work}

-- the page that an entry names
names_is : (p : ℕ) (e : Entry) → names p e ≡ true → (q : PageId) × (e.page ≡ Some q) × (q.0 ≡ p)
names_is p e h = by_page e.page refl
  where
    by_page : (page : Option PageId) → e.page ≡ page → (q : PageId) × (e.page ≡ Some q) × (q.0 ≡ p)
    by_page None w = let bad : false ≡ true = sym (ap (λ x. elim x as (λ _. Bool) [ None ↦ false | Some q ↦ q.0 == p ]) w) ∙ h in cc
    by_page (Some q) w =
        let t : (q.0 == p) ≡ true = sym (ap (λ x. elim x as (λ _. Bool) [ None ↦ false | Some r ↦ r.0 == p ]) w) ∙ h in
        elim (eqb_tells q.0 p) [ inl y ↦ (q, w, y.1) | inr y ↦ let bad : false ≡ true = sym y.0 ∙ t in cc ]

-- a page of an entry's own stays so under a call that doesn't speak of the entry
pub private_kept : (spoken : ℕ → ℕ → Bool) (old new : Memory) (o j : ℕ) → IsSound old → spoken o j ≡ false → Touches spoken old new → IsPrivate old.frames.counts old.pages.pages (entry_at old.objects o j).page → IsPrivate new.frames.counts new.pages.pages (entry_at new.objects o j).page
private_kept spoken old new o j s out x p =
    let outside : IsOutside spoken old p.number.0 = record {
      there = omega (arith, p.alone);
      named = λ a b h.
          let n = names_is p.number.0 (entry_at old.objects a b) h in
          let is : n.0 ≡ p.number = (λ k. record { 0 = n.2 k }) in
          let one = named_once old.pages.pages old.objects a b o j p.number s.shared p.alone (n.1 ∙ ap Some is) p.is_page in
          (λ k. spoken (one.0 k) (one.1 k)) ∙ out;
    } in
    record {
      number = p.number;
      frame = p.frame;
      is_page = (x.entries o j out).page ∙ p.is_page;
      is_place = ap (λ (q : PageInfo). q.place) (x.pages p.number.0 outside) ∙ p.is_place;
      alone = ap (λ (q : PageInfo). q.shares) (x.pages p.number.0 outside) ∙ p.alone;
      unlent = ap (λ (c : Counts). c.strong) (x.counts p.number.0 p.frame outside p.is_place) ∙ p.unlent;
    }

wider : (o i k n a b : ℕ) → k ≤ n → is_in_range o i n a b ≡ false → is_in_range o i k a b ≡ false
wider o i k n a b l e = grind (arith, rules, l, e)

last_entry : (o i k n a b : ℕ) → k < n → is_in_range o i n a b ≡ false → is_entry o (i + k) a b ≡ false
last_entry o i k n a b l e = grind (arith, rules, l, e)

pub other_entry : (o a b : ℕ) → a ≢ b → is_entry o b o a ≡ false
other_entry o a b n = grind (arith, rules, n)

-- the pages that were made its own so far
pub record OwnSoFar (old now : Memory) (before mid : StoreView) (o i k : ℕ) : Type 0 where
  pub owns : MakesOwn old now before mid o i k
  pub own : ArePrivate now o i k
  pub faults : mid.faults ≡ before.faults

pub own_none : (m : Memory) (v : StoreView) (o i : ℕ) → IsSound m → IsSized m v → OwnSoFar m m v v o i 0
own_none m v o i s z = record {
  owns = record { moves = moves_none (is_in_range o i 0) m v s z; takes = record { free = omega arith; added = omega arith }; rises = rises_none (8192 * 0) m.frames m.frames refl; copies = omega arith };
  own = λ j l. absurd (omega (arith, l));
  faults = refl;
}

pub own_private : (m : Memory) (o i : ℕ) (f : FrameId) → IsReady m o i f → IsPrivate m.frames.counts m.pages.pages (entry_at m.objects o i).page
own_private m o i f r = record { number = r.number; frame = f; is_page = r.is_page; is_place = r.is_place; alone = r.alone; unlent = r.unlent }

-- a page that is no dearer costs no more to write
write_fewer : (a b : Memory) (o i : ℕ) → b.frames.page ≡ a.frames.page → (must_copy a o i ≡ false → must_copy b o i ≡ false) → write_work b o i ≤ write_work a o i
write_fewer a b o i page c = subst (λ (z : ℕ). (if must_copy b o i then z else 0) ≤ write_work a o i) (sym page) (chosen (must_copy b o i) (must_copy a o i) a.frames.page c)
  where
    chosen : (x y : Bool) (n : ℕ) → (y ≡ false → x ≡ false) → (if x then n else 0) ≤ (if y then n else 0)
    chosen true true n c = omega arith
    chosen true false n c = let clash : true ≡ false = c refl in absurd (cc)
    chosen false true n c = omega arith
    chosen false false n c = omega arith

writes_grow : (m : Memory) (o i k n : ℕ) → writes_work m o i k ≤ writes_work m o i (k + n)
writes_grow m o i k zero = let same : k + 0 ≡ k = omega arith in let all = ap (writes_work m o i) same in omega (arith, all)
writes_grow m o i k (suc n) = let next : k + suc n ≡ suc (k + n) = omega arith in let all = ap (writes_work m o i) next in let before = writes_grow m o i k n in omega (arith, all, before)

-- one more, or the store failed there
pub own_next : (a b c : Memory) (u v w : StoreView) (o i k : ℕ) → MakesOwn a b u v o i k → OnlyMoves (is_entry o (i + k)) b c v w → TakesAtMost 1 1 b c → Spends (write_work b o (i + k)) (gets_for b o (i + k)) 0 1 b.frames.meters c.frames.meters → MakesOwn a c u w o i (k + 1)
own_next a b c u v w o i k x y takes spends =
    let work = write_most b o (i + k) in
    let page = page_most b.frames.page x.moves.sound.shaped.size in
    let gets = one_get (place_of b o (i + k)) in
    let lands : c.frames.landed ≤ b.frames.landed + 0 = omega (arith, y.landed) in
    let one = rises_spent (write_work b o (i + k)) (gets_for b o (i + k)) 0 1 0 8192 b.frames c.frames spends lands (omega (arith, work, page, gets)) (omega arith) in
    record {
      moves = moves_on (is_in_range o i (k + 1)) a b c u v w (moves_more (is_in_range o i k) (is_in_range o i (k + 1)) a b u v (λ d e h. wider o i k (k + 1) d e (omega arith) h) x.moves) (moves_more (is_entry o (i + k)) (is_in_range o i (k + 1)) b c v w (λ d e h. last_entry o i k (k + 1) d e (omega arith) h) y);
      takes = record { free = omega (arith, x.takes.free, takes.free); added = omega (arith, x.takes.added, takes.added) };
      rises = rises_most (8192 * k + 8192) (8192 * (k + 1)) a.frames c.frames (omega arith) (rises_on (8192 * k) 8192 a.frames b.frames c.frames x.rises one);
      copies =
          let less = write_fewer a b o (i + k) x.moves.keeps.page (x.moves.costs.write o (i + k)) in
          let next : writes_work a o i (k + 1) ≡ writes_work a o i k + write_work a o (i + k) = (let d : k + 1 ≡ suc k = omega arith in ap (writes_work a o i) d) in
          let spent = spends.work in
          let before = x.copies in
          omega (arith, less, next, spent, before);
    }

pub own_more : (a b c : Memory) (u v w : StoreView) (o i k : ℕ) (f : FrameId) → OwnSoFar a b u v o i k → OnlyMoves (is_entry o (i + k)) b c v w → TakesAtMost 1 1 b c → Spends (write_work b o (i + k)) (gets_for b o (i + k)) 0 1 b.frames.meters c.frames.meters → IsReady c o (i + k) f → w.faults ≡ v.faults → OwnSoFar a c u w o i (k + 1)
own_more a b c u v w o i k f x y takes spends ready faults = record {
  owns = own_next a b c u v w o i k x.owns y takes spends;
  own = λ j l. elim (same_or j k) [
    | inl e ↦ subst (λ z. IsPrivate c.frames.counts c.pages.pages (entry_at c.objects o (i + z)).page) (sym e) (own_private c o (i + k) f ready)
    | inr ne ↦ private_kept (is_entry o (i + k)) b c o (i + j) x.owns.moves.sound (other_entry o (i + j) (i + k) (λ e. absurd (omega (arith, e, ne)))) y.touches (x.own j (omega (arith, l, ne)))
  ];
  faults = faults ∙ x.faults;
}

-- some of them, where the store failed
pub own_wider : (a b : Memory) (u v : StoreView) (o i k n : ℕ) → k ≤ n → MakesOwn a b u v o i k → MakesOwn a b u v o i n
own_wider a b u v o i k n l x = record {
  moves = moves_more (is_in_range o i k) (is_in_range o i n) a b u v (λ d e h. wider o i k n d e l h) x.moves;
  takes = record { free = omega (arith, x.takes.free, l); added = omega (arith, x.takes.added, l) };
  rises = rises_most (8192 * k) (8192 * n) a.frames b.frames (omega (arith, l)) x.rises;
  copies = (let grown = writes_grow a o i k (n - k) in let all : k + (n - k) ≡ n = omega (arith, l) in let same = ap (writes_work a o i) all in let before = x.copies in omega (arith, grown, same, before));
}
