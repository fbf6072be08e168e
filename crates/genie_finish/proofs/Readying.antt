-- Page after page of a range is made ready.
use Rattle.std.proofs.Common.{◌≡◌, ◌≢◌, ℕ, zero, suc, ◌+◌, ◌-◌, ◌*◌, ◌/◌, ◌%◌, ◌<◌, ◌≤◌, ◌^◌, Bool, true, false, length, refl, ap, sym, ◌∙◌, arith, rules, subst, inl, inr, ◌⊎◌}
use Rattle.std.specs.Prelude.{min, nat_lt, count_by, if◌then◌else◌}
use Rattle.std.proofs.lemmas.Bool.Decides.{nat_tests}
use Rattle.genie_base.specs.Counts.{span}
use Rattle.genie_base.specs.Lemmas.Places.{same_or}
use Rattle.genie_frame.specs.declared.frame.FrameId.{FrameId}
use Rattle.genie_frame.specs.declared.frame.Meters.{Meters}
use Rattle.genie_frame.specs.FrameTable.{is_free}
use Rattle.genie_store.specs.StoreView.{StoreView}
use Rattle.genie_object.specs.declared.pages.Place.{Place}
use Rattle.genie_object.specs.declared.pages.Place.TheVariants.{Zero, Frame, Slot}
use Rattle.genie_object.specs.declared.memory.Memory.{Memory}
use Rattle.genie_object.specs.Pages.{is_there}
use Rattle.genie_object.specs.Objects.{entry_at, object_at}
use Rattle.genie_object.specs.Memory.{seen_with}
use Rattle.genie_object.specs.Sound.{IsSound, IsSized, IsPrivate}
use Rattle.genie_object.specs.Keeping.{IsReady}
use Rattle.genie_object.specs.Touching.{KeepsLoans, Touches, is_entry, is_in_range}
use Rattle.genie_object.specs.Costs.{AreBelow, Spends, CostsNoMore, write_work, gets_for, slot_gets, place_of, must_copy}
use Rattle.genie_object.specs.Calls.{OnlyMoves, TakesAtMost}
use Rattle.genie_object.specs.Lemmas.Calls.{moves_none, moves_on, moves_more}
use Rattle.genie_object.specs.Lemmas.Works.{writes_less, one_get, write_most}
use Rattle.genie_object.specs.Lemmas.Spending.{spends_on, spends_more, spends_none}
use Rattle.genie_finish.specs.Storing.{CanStore}
use Rattle.genie_finish.specs.Ranges.{piece_len, CanStoreRange}
use Rattle.genie_finish.specs.Ready.{MakesReady, part_work, parts_work}
use Rattle.genie_finish.proofs.Looping.{private_kept, next_num, page_or, len_num}

pub ready_none : (m : Memory) (v : StoreView) (o i n work : ℕ) → IsSound m → IsSized m v → MakesReady m m v v o i n work
ready_none m v o i n work s z = record { moves = moves_none (is_in_range o i n) m v s z; takes = record { free = omega arith; added = omega arith }; spends = spends_none work n 0 n m.frames.meters }

one_entry : (o i a b : ℕ) → is_in_range o i 1 a b ≡ false → is_entry o i a b ≡ false
one_entry o i a b e = grind (arith, rules, e)

part_is : (m : Memory) (o i n : ℕ) → n < m.frames.page → part_work m o i n ≡ write_work m o i
part_is m o i n l = let h : nat_lt n m.frames.page ≡ true = grind (arith, nat_tests, l) in ap (λ b. if b then write_work m o i else 0) h

-- one entry was made writable, or the store failed
pub ready_one : (old new : Memory) (v w : StoreView) (o i n : ℕ) → n < old.frames.page → OnlyMoves (is_entry o i) old new v w → TakesAtMost 1 1 old new → Spends (write_work old o i) (gets_for old o i) 0 1 old.frames.meters new.frames.meters → MakesReady old new v w o i 1 (part_work old o i n)
ready_one old new v w o i n l moves takes spends = record {
  moves = moves_more (is_entry o i) (is_in_range o i 1) old new v w (λ a b e. one_entry o i a b e) moves;
  takes = takes;
  spends = spends_more _ _ _ _ _ _ _ _ old.frames.meters new.frames.meters spends (omega (arith, part_is old o i n l)) (one_get (place_of old o i)) (omega arith) (omega arith);
}

pub ready_private : (m : Memory) (o i : ℕ) (f : FrameId) → IsReady m o i f → IsPrivate m.frames.counts m.pages.pages (entry_at m.objects o i).page
ready_private m o i f r = record { number = r.number; frame = f; is_page = r.is_page; is_place = r.is_place; alone = r.alone; unlent = r.unlent }

wider : (o i k n a b : ℕ) → k ≤ n → is_in_range o i n a b ≡ false → is_in_range o i k a b ≡ false
wider o i k n a b l e = grind (arith, rules, l, e)

last_entry : (o i k n a b : ℕ) → k < n → is_in_range o i n a b ≡ false → is_in_range o (i + k) 1 a b ≡ false
last_entry o i k n a b l e = grind (arith, rules, l, e)

other_range : (o a b : ℕ) → a ≢ b → is_in_range o b 1 o a ≡ false
other_range o a b n = grind (arith, rules, n)

-- a page is no dearer than it was at the start
part_less : (old now : Memory) (o i n : ℕ) → CostsNoMore old now → now.frames.page ≡ old.frames.page → part_work now o i n ≤ part_work old o i n
part_less old now o i n x e = subst (λ p. (if nat_lt n p then write_work now o i else 0) ≤ part_work old o i n) (sym e) (chosen (nat_lt n old.frames.page))
  where
    chosen : (b : Bool) → (if b then write_work now o i else 0) ≤ (if b then write_work old o i else 0)
    chosen true = writes_less old now o i x e
    chosen false = omega arith

parts_next : (m : Memory) (o i first len k j : ℕ) → j ≡ k + 1 → parts_work m o i first len j ≡ parts_work m o i first len k + part_work m o (i + k) (piece_len m.frames.page first len k)
parts_next m o i first len k zero e = absurd (omega arith)
parts_next m o i first len k (suc j) e = let same : j ≡ k = omega arith in rw same refl

pub parts_up : (m : Memory) (o i first len k n : ℕ) → k ≤ n → parts_work m o i first len k ≤ parts_work m o i first len n
parts_up m o i first len k zero l = let none : k ≡ 0 = omega arith in rw none (omega arith)
parts_up m o i first len k (suc n) l = elim (same_or k (suc n)) [
  | inl s ↦ rw s (omega arith)
  | inr d ↦ let rest : k ≤ n = omega (arith, l, d) in omega (arith, parts_up m o i first len k n rest)
]

part_most : (m : Memory) (o i n : ℕ) → part_work m o i n ≤ m.frames.page
part_most m o i n = elim (nat_lt n m.frames.page) as (λ b. (if b then write_work m o i else 0) ≤ m.frames.page) [ true ↦ write_most m o i | false ↦ omega arith ]

pub parts_most : (m : Memory) (o i first len n : ℕ) → m.frames.page ≤ 4096 → parts_work m o i first len n ≤ 4096 * n
parts_most m o i first len zero l = omega arith
parts_most m o i first len (suc n) l = omega (arith, l, part_most m o (i + n) (piece_len m.frames.page first len n), parts_most m o i first len n l)

-- some pages were made ready, and one more, or the store failed there
pub ready_on : (a b c : Memory) (u v w : StoreView) (o i first len k n next : ℕ) → next ≡ k + 1 → n ≡ piece_len a.frames.page first len k → MakesReady a b u v o i k (parts_work a o i first len k) → MakesReady b c v w o (i + k) 1 (part_work b o (i + k) n) → MakesReady a c u w o i next (parts_work a o i first len next)
ready_on a b c u v w o i first len k n next at is x y = record {
  moves = moves_on (is_in_range o i next) a b c u v w (moves_more (is_in_range o i k) (is_in_range o i next) a b u v (λ d e h. wider o i k next d e (omega (arith, at)) h) x.moves) (moves_more (is_in_range o (i + k) 1) (is_in_range o i next) b c v w (λ d e h. last_entry o i k next d e (omega (arith, at)) h) y.moves);
  takes = record { free = omega (arith, x.takes.free, y.takes.free, at); added = omega (arith, x.takes.added, y.takes.added, at) };
  spends = spends_more _ _ _ _ _ _ _ _ a.frames.meters c.frames.meters (spends_on (parts_work a o i first len k) k 0 k (part_work b o (i + k) n) 1 0 1 a.frames.meters b.frames.meters c.frames.meters x.spends y.spends) (omega (arith, part_less a b o (i + k) n x.moves.costs x.moves.keeps.page, ap (part_work a o (i + k)) is, parts_next a o i first len k next at)) (omega (arith, at)) (omega arith) (omega (arith, at));
}

pub ready_more : (a b : Memory) (u v : StoreView) (o i k n w z : ℕ) → k ≤ n → w ≤ z → MakesReady a b u v o i k w → MakesReady a b u v o i n z
ready_more a b u v o i k n w z l h x = record {
  moves = moves_more (is_in_range o i k) (is_in_range o i n) a b u v (λ d e q. wider o i k n d e l q) x.moves;
  takes = record { free = omega (arith, x.takes.free, l); added = omega (arith, x.takes.added, l) };
  spends = spends_more _ _ _ _ _ _ _ _ a.frames.meters b.frames.meters x.spends h l (omega arith) l;
}

-- the pages that were made ready so far
pub record ReadySoFar (old now : Memory) (before mid : StoreView) (o i first len k done off : ℕ) : Type 0 where
  pub done_is : done ≡ min len (old.frames.page * k - first)
  pub off_is : off ≡ first - old.frames.page * k
  pub ready : MakesReady old now before mid o i k (parts_work old o i first len k)
  pub own : (j : ℕ) → j < k → piece_len old.frames.page first len j < old.frames.page → IsPrivate now.frames.counts now.pages.pages (entry_at now.objects o (i + j)).page
  pub faults : mid.faults ≡ before.faults

pub so_far_none : (m : Memory) (v : StoreView) (o i first len off : ℕ) → IsSound m → IsSized m v → off ≡ first → ReadySoFar m m v v o i first len 0 0 off
so_far_none m v o i first len off s z at =
    let none : m.frames.page * 0 ≡ 0 = omega arith in
    record { done_is = omega (arith, none); off_is = omega (arith, none, at); ready = ready_none m v o i 0 0 s z; own = λ j l. absurd (omega (arith, l)); faults = refl }

module _ (old now new : Memory) (before mid w : StoreView) (o i first len k done off n : ℕ) (in_page : first < old.frames.page) (n_is : n ≡ min (old.frames.page - off) (len - done)) (x : ReadySoFar old now before mid o i first len k done off) (y : MakesReady now new mid w o (i + k) 1 (part_work now o (i + k) n)) where
  pub piece_is : n ≡ piece_len old.frames.page first len k
  piece_is = len_num old.frames.page first len (old.frames.page * k) done off n x.done_is x.off_is n_is

  pub next_ready : MakesReady old new before w o i (k + 1) (parts_work old o i first len (k + 1))
  next_ready = ready_on old now new before mid w o i first len k n (k + 1) refl piece_is x.ready y

  pub so_far_more : (n < now.frames.page → IsPrivate new.frames.counts new.pages.pages (entry_at new.objects o (i + k)).page) → w.faults ≡ mid.faults → ReadySoFar old new before w o i first len (k + 1) (done + n) 0
  so_far_more own faults =
      let grown : old.frames.page * (k + 1) ≡ old.frames.page * k + old.frames.page = grind arith in
      let ends = next_num old.frames.page first len (old.frames.page * k) (old.frames.page * (k + 1)) done off n in_page (page_or old.frames.page k) grown x.done_is x.off_is n_is in
      record {
        done_is = ends.0;
        off_is = ends.1;
        ready = next_ready;
        own = λ j l part. elim (same_or j k) [
          | inl e ↦ subst (λ v. IsPrivate new.frames.counts new.pages.pages (entry_at new.objects o (i + v)).page) (sym e) (own (omega (arith, part, piece_is, x.ready.moves.keeps.page, ap (piece_len old.frames.page first len) e)))
          | inr ne ↦ private_kept (is_in_range o (i + k) 1) now new o (i + j) x.ready.moves.sound (other_range o (i + j) (i + k) (λ e. absurd (omega (arith, e, ne)))) y.moves.touches (x.own j (omega (arith, l, ne)) part)
        ];
        faults = faults ∙ x.faults;
      }

-- the whole range may be stored
pub can_by : (new : Memory) (o off len page few : ℕ) → new.frames.page ≡ page → ((j : ℕ) → j < span page off len → piece_len page (off % page) len j < page → IsPrivate new.frames.counts new.pages.pages (entry_at new.objects o (off / page + j)).page) → CanStoreRange new o off len few
can_by new o off len page few e own = subst (λ q. (k : ℕ) → k < span q off len → CanStore new o (off / q + k) (piece_len q (off % q) len k) few) (sym e) (λ k l. record {
  few_bytes = λ part z. own k l (omega (arith, part, e));
  touched = λ part z. own k l (omega (arith, part, e));
})

pub below_ready : (b i : ℕ) (u v : Meters) → AreBelow (2 ^ 64 - 2 ^ 21) u → Spends b i 0 i u v → b ≤ 4096 * 65 → i ≤ 65 → AreBelow (2 ^ 64 - 2 ^ 20) v
below_ready b i u v a x h l = record {
  read = omega (arith, a.read, x.work, x.read, x.written, x.copied, x.zeroed);
  written = omega (arith, a.written, x.work, x.read, x.written, x.copied, x.zeroed);
  copied = omega (arith, a.copied, x.work, x.read, x.written, x.copied, x.zeroed);
  zeroed = omega (arith, a.zeroed, x.work, x.read, x.written, x.copied, x.zeroed);
  puts = omega (arith, a.puts, x.most_puts);
  gets = omega (arith, a.gets, x.most_gets);
  taken = omega (arith, a.taken, x.most_taken);
}
