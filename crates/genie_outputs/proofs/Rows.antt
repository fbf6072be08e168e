-- What an output call copies at most.
use Rattle.std.proofs.Common.{◌≡◌, ℕ, ◌≤◌, ◌+◌, ◌*◌, suc, zero, Bool, true, false, List, refl, sym, ap, subst, arith, ◌∙◌}
use Rattle.std.specs.Prelude.{Option, Some, None, ◌||◌, nat_le, if◌then◌else◌}
use Rattle.std.specs.Option.{option_map}
use Rattle.genie_base.specs.Transfers.{class_of, is_strong}
use Rattle.genie_base.specs.declared.event.Event.TheVariants as event
use Rattle.genie_base.specs.declared.reply.Reply.{Reply}
use Rattle.genie_base.specs.declared.reply.Reply.TheVariants as reply
use Rattle.genie_base.specs.declared.semantics.Class.TheVariants as class
use Rattle.genie_base.specs.declared.semantics.Semantics.{Semantics}
use Rattle.genie_base.specs.declared.semantics.Semantics.TheVariants.{Copy, EmulatedCopy, Share, EmulatedShare, Move, EmulatedMove, WeakMove, EmulatedWeakMove}
use Rattle.genie_frame.specs.FrameTable.{FrameTable, counts_at, is_held}
use Rattle.genie_store.specs.StoreView.{StoreView}
use Rattle.genie_hiding.specs.Hidden.{objects_of, is_among}
use Rattle.genie_object.specs.declared.memory.Memory.{Memory}
use Rattle.genie_object.specs.declared.objects.Range.{Range}
use Rattle.genie_object.specs.Costs.{work, is_untouched, writes_work}
use Rattle.genie_object.specs.Memory.{entry_frame}
use Rattle.genie_region.specs.declared.region.Region.{Region}
use Rattle.genie_tcow.specs.Costs.{is_held_in, is_weakly_held as tcow_held, send_work, sends_work, reads_work}
use Rattle.genie_tcow.specs.Ranges.{first_page, pages_of}
use Rattle.genie_kernel.specs.declared.kernel.Kernel.{Kernel}
use Rattle.genie_kernel.specs.Good.{IsGood}
use Rattle.genie_changes.specs.Making.{IsMoved, with_memory}
use Rattle.genie_copying.specs.Bounds.{KeepsToBound, output_bound, stores_nothing, untouched_bytes, unlendable_bytes, fixed_bytes}
use Rattle.genie_copying.specs.Kinds.{count_pages, is_fixed, is_unlendable, is_weakly_held}
use Rattle.genie_copying.specs.Ranges.{Pages, pages_at, pages_in, pages_reached}
use Rattle.genie_copying.specs.Spending.{CopiesAtMost, NoDearer}
use Rattle.genie_copying.specs.Lemmas.Costing.{fixed_copied, writes_bytes}
use Rattle.genie_copying.specs.Lemmas.Counting.{bytes_fewer, bytes_next, bytes_none, count_fewer}
use Rattle.genie_outputs.specs.declared.call.Call.{Call}
use Rattle.genie_outputs.specs.Answering.{IsReady, KeepsToRow}
use Rattle.genie_outputs.specs.Calls.{Reaches, event_of, is_plain, range_of}
use Rattle.genie_outputs.specs.Sharing.{WiredUnless}
use Rattle.genie_outputs.proofs.Reached.{reached_unhidden}

reads_bytes : (m : Memory) (o first n : ℕ) → reads_work m o first n ≡ m.frames.page * count_pages (is_untouched m o) first n
reads_bytes m o first zero = sym (bytes_none m.frames.page (is_untouched m o) first)
reads_bytes m o first (suc n) = let next = bytes_next m.frames.page (is_untouched m o) first n in omega (arith, next, reads_bytes m o first n)

same_held : (t : FrameTable) (u : Bool) (page : ℕ) (x : Option ℕ) → (if u || is_held_in t x then page else 0) ≡ (if u || (elim x [ None ↦ false | Some f ↦ is_held (counts_at t f) ]) then page else 0)
same_held t u page None = refl
same_held t u page (Some f) = refl

held_in : (t : FrameTable) (x : Option ℕ) → is_held_in t x ≡ (elim x [ None ↦ false | Some f ↦ is_held (counts_at t f) ])
held_in t None = refl
held_in t (Some f) = refl

-- a page is weakly held by both words for it
pub held_alike : (m : Memory) (o i : ℕ) → tcow_held m o i ≡ is_weakly_held m o i
held_alike m o i = held_in m.frames (entry_frame m o i)

send_page : (m : Memory) (o i : ℕ) → send_work m o i ≡ (if is_unlendable m o i then m.frames.page else 0)
send_page m o i = same_held m.frames (is_untouched m o i) m.frames.page (entry_frame m o i)

sends_bytes : (m : Memory) (o first n : ℕ) → sends_work m o first n ≡ m.frames.page * count_pages (is_unlendable m o) first n
sends_bytes m o first zero = sym (bytes_none m.frames.page (is_unlendable m o) first)
sends_bytes m o first (suc n) = let next = bytes_next m.frames.page (is_unlendable m o) first n in omega (arith, next, sends_bytes m o first n, send_page m o (first + n))

-- the rows, by the class of the call
plain_row : (k : Kernel) (sem : Semantics) (n : ℕ) (r : Option Pages) → class_of sem ≡ class.Copy → is_plain sem n k.config.cout ≡ true → output_bound k sem n r ≡ n + untouched_bytes k r
plain_row k Copy n r c p = refl
plain_row k EmulatedCopy n r c p = ap (λ (b : Bool). if b then n + untouched_bytes k r else unlendable_bytes k r) p
plain_row k Share n r c p = cc
plain_row k EmulatedShare n r c p = cc
plain_row k Move n r c p = cc
plain_row k EmulatedMove n r c p = cc
plain_row k WeakMove n r c p = cc
plain_row k EmulatedWeakMove n r c p = cc

lent_row : (k : Kernel) (sem : Semantics) (n : ℕ) (r : Option Pages) → class_of sem ≡ class.Copy → is_plain sem n k.config.cout ≡ false → output_bound k sem n r ≡ unlendable_bytes k r
lent_row k Copy n r c p = let clash : true ≡ false = p in absurd (cc)
lent_row k EmulatedCopy n r c p = ap (λ (b : Bool). if b then n + untouched_bytes k r else unlendable_bytes k r) p
lent_row k Share n r c p = cc
lent_row k EmulatedShare n r c p = cc
lent_row k Move n r c p = cc
lent_row k EmulatedMove n r c p = cc
lent_row k WeakMove n r c p = cc
lent_row k EmulatedWeakMove n r c p = cc

move_row : (k : Kernel) (sem : Semantics) (n : ℕ) (r : Option Pages) → class_of sem ≡ class.Move → output_bound k sem n r ≡ unlendable_bytes k r
move_row k Copy n r c = cc
move_row k EmulatedCopy n r c = cc
move_row k Share n r c = cc
move_row k EmulatedShare n r c = cc
move_row k Move n r c = refl
move_row k EmulatedMove n r c = refl
move_row k WeakMove n r c = cc
move_row k EmulatedWeakMove n r c = cc

weak_row : (k : Kernel) (sem : Semantics) (n : ℕ) (r : Option Pages) → is_strong (class_of sem) ≡ false → output_bound k sem n r ≡ fixed_bytes k r
weak_row k Copy n r c = cc
weak_row k EmulatedCopy n r c = cc
weak_row k Share n r c = refl
weak_row k EmulatedShare n r c = refl
weak_row k Move n r c = cc
weak_row k EmulatedMove n r c = cc
weak_row k WeakMove n r c = refl
weak_row k EmulatedWeakMove n r c = refl

-- what is left after calls that move no byte
pub meters_left : (bytes : ℕ) (old m left : Memory) → left.frames.meters ≡ m.frames.meters → CopiesAtMost bytes old m → CopiesAtMost bytes old left
meters_left bytes old m left e c = let same = ap work e in omega (arith, same, c)

pub wires_move_none : (emulated : Bool) (frames : List ℕ) (bytes : ℕ) (old m : Memory) (t : FrameTable) → WiredUnless emulated frames m.frames t → CopiesAtMost bytes old m → work t.meters ≤ work old.frames.meters + bytes
wires_move_none true frames bytes old m t w c = let same = ap (λ (z : FrameTable). work z.meters) w in omega (arith, same, c)
wires_move_none false frames bytes old m t w c = let same = ap work w.only.meters in omega (arith, same, c)

module _ (k : Kernel) (m : Memory) (c : Call) (r : Region) (range : Range) (v : StoreView) (x : IsReady k c r range v) where
  page : k.memory.frames.page ≡ k.config.page
  page = x.good.sized.page

  pub copied_row : class_of c.sem ≡ class.Copy → is_plain c.sem c.len k.config.cout ≡ true → CopiesAtMost (range.len + reads_work k.memory range.object.0 (first_page k.memory.frames.page range) (pages_of k.memory.frames.page range)) k.memory m → CopiesAtMost (output_bound k c.sem c.len (Some (pages_at k.config.page range.object.0 range.off range.len))) k.memory m
  copied_row is plain spent =
      let len : range.len ≡ c.len = ap (λ (z : Range). z.len) x.range_is in
      let bytes : reads_work k.memory range.object.0 (first_page k.memory.frames.page range) (pages_of k.memory.frames.page range) ≡ untouched_bytes k (Some (pages_at k.config.page range.object.0 range.off range.len)) = reads_bytes k.memory range.object.0 (first_page k.memory.frames.page range) (pages_of k.memory.frames.page range) ∙ ap (λ (p : ℕ). p * count_pages (is_untouched k.memory range.object.0) (first_page p range) (pages_of p range)) page in
      omega (arith, len, bytes, spent, plain_row k c.sem c.len (Some (pages_at k.config.page range.object.0 range.off range.len)) is plain)

  sent_bytes : sends_work k.memory range.object.0 (first_page k.memory.frames.page range) (pages_of k.memory.frames.page range) ≡ unlendable_bytes k (Some (pages_at k.config.page range.object.0 range.off range.len))
  sent_bytes = sends_bytes k.memory range.object.0 (first_page k.memory.frames.page range) (pages_of k.memory.frames.page range) ∙ ap (λ (p : ℕ). p * count_pages (is_unlendable k.memory range.object.0) (first_page p range) (pages_of p range)) page

  pub sent_row : class_of c.sem ≡ class.Copy → is_plain c.sem c.len k.config.cout ≡ false → CopiesAtMost (sends_work k.memory range.object.0 (first_page k.memory.frames.page range) (pages_of k.memory.frames.page range)) k.memory m → CopiesAtMost (output_bound k c.sem c.len (Some (pages_at k.config.page range.object.0 range.off range.len))) k.memory m
  sent_row is emulated spent = omega (arith, sent_bytes, spent, lent_row k c.sem c.len (Some (pages_at k.config.page range.object.0 range.off range.len)) is emulated)

  pub given_row : class_of c.sem ≡ class.Move → CopiesAtMost (sends_work k.memory range.object.0 (first_page k.memory.frames.page range) (pages_of k.memory.frames.page range)) k.memory m → CopiesAtMost (output_bound k c.sem c.len (Some (pages_at k.config.page range.object.0 range.off range.len))) k.memory m
  given_row is spent = omega (arith, sent_bytes, spent, move_row k c.sem c.len (Some (pages_at k.config.page range.object.0 range.off range.len)) is)

  pub shared_row : is_strong (class_of c.sem) ≡ false → CopiesAtMost (writes_work k.memory range.object.0 (first_page k.memory.frames.page range) (pages_of k.memory.frames.page range)) k.memory m → CopiesAtMost (output_bound k c.sem c.len (Some (pages_at k.config.page range.object.0 range.off range.len))) k.memory m
  shared_row is spent =
      let bytes : writes_work k.memory range.object.0 (first_page k.memory.frames.page range) (pages_of k.memory.frames.page range) ≡ fixed_bytes k (Some (pages_at k.config.page range.object.0 range.off range.len)) = writes_bytes k.memory range.object.0 (first_page k.memory.frames.page range) (pages_of k.memory.frames.page range) ∙ ap (λ (p : ℕ). p * count_pages (is_fixed k.memory range.object.0) (first_page p range) (pages_of p range)) page in
      omega (arith, bytes, spent, weak_row k c.sem c.len (Some (pages_at k.config.page range.object.0 range.off range.len)) is)

choice : (b : Bool) (x y : ℕ) → x ≤ y → (if b then 0 else x) ≤ (if b then 0 else y)
choice true x y l = omega arith
choice false x y l = l

either : (b : Bool) (x y z w : ℕ) → x ≤ z → y ≤ w → (if b then x else y) ≤ (if b then z else w)
either true x y z w l h = l
either false x y z w l h = h

-- once room was made no row allows more than before
module _ (k : Kernel) (m : Memory) (clock : ℕ) (n : ℕ) (r : Pages) (d : NoDearer (objects_of k.hidden) k.memory m) (out : is_among r.object (objects_of k.hidden) ≡ false) where
  untouched_less : untouched_bytes (with_memory k m clock) (Some r) ≤ untouched_bytes k (Some r)
  untouched_less = bytes_fewer k.config.page _ _ (count_fewer (is_untouched m r.object) (is_untouched k.memory r.object) r.first r.count (λ i. d.reads r.object i out))

  unlendable_less : unlendable_bytes (with_memory k m clock) (Some r) ≤ unlendable_bytes k (Some r)
  unlendable_less = bytes_fewer k.config.page _ _ (count_fewer (is_unlendable m r.object) (is_unlendable k.memory r.object) r.first r.count (λ i. d.sends r.object i out))

  fixed_less : fixed_bytes (with_memory k m clock) (Some r) ≤ fixed_bytes k (Some r)
  fixed_less = bytes_fewer k.config.page _ _ (count_fewer (is_fixed m r.object) (is_fixed k.memory r.object) r.first r.count (λ i e. fixed_copied m r.object i ∙ d.writes r.object i out (sym (fixed_copied k.memory r.object i) ∙ e)))

  row_less : (sem : Semantics) → output_bound (with_memory k m clock) sem n (Some r) ≤ output_bound k sem n (Some r)
  row_less Copy = omega (arith, untouched_less)
  row_less EmulatedCopy = either (nat_le n k.config.cout) (n + untouched_bytes (with_memory k m clock) (Some r)) (unlendable_bytes (with_memory k m clock) (Some r)) (n + untouched_bytes k (Some r)) (unlendable_bytes k (Some r)) (omega (arith, untouched_less)) unlendable_less
  row_less Move = unlendable_less
  row_less EmulatedMove = unlendable_less
  row_less Share = fixed_less
  row_less EmulatedShare = fixed_less
  row_less WeakMove = fixed_less
  row_less EmulatedWeakMove = fixed_less

-- room was made, and then the call kept to its row over the pages that it reaches
pub out_keeps : (k mid new : Kernel) (c : Call) (r : Region) (range : Range) (u v : StoreView) (a : Reply) → IsGood k → IsMoved k mid u v → IsReady mid c r range v → NoDearer (objects_of k.hidden) k.memory mid.memory → CopiesAtMost 0 k.memory mid.memory → KeepsToRow mid c range new a → KeepsToBound k (event_of c) new a
out_keeps k mid new c r range u v a good moved ready d none row =
    let reaches : Reaches k c r = subst (λ (z : Kernel). Reaches z c r) moved.only ready.reached in
    let is : range ≡ range_of k.config.page c r = subst (λ (z : Kernel). range ≡ range_of z.config.page c r) moved.only ready.range_is in
    let object : range.object ≡ r.object = ap (λ (z : Range). z.object) is in
    let out : is_among range.object.0 (objects_of k.hidden) ≡ false = (λ i. is_among (object i).0 (objects_of k.hidden)) ∙ reached_unhidden k c r good reaches in
    let pages : pages_reached k c.pid c.addr c.len ≡ Some (pages_at k.config.page range.object.0 range.off range.len) = ap (option_map (pages_in k.config.page c.addr c.len)) reaches ∙ ap (λ (z : Range). Some (pages_at k.config.page z.object.0 z.off z.len)) (sym is) in
    let kept : KeepsToRow (with_memory k mid.memory mid.clock) c range new a = subst (λ (z : Kernel). KeepsToRow z c range new a) moved.only row in
    let less = row_less k mid.memory mid.clock c.len (pages_at k.config.page range.object.0 range.off range.len) d out c.sem in
    let bound = choice (stores_nothing a) _ _ less in
    let same : (if stores_nothing a then 0 else output_bound k c.sem c.len (pages_reached k c.pid c.addr c.len)) ≡ (if stores_nothing a then 0 else output_bound k c.sem c.len (Some (pages_at k.config.page range.object.0 range.off range.len))) = ap (λ (z : Option Pages). if stores_nothing a then 0 else output_bound k c.sem c.len z) pages in
    omega (arith, none, kept, bound, same)

-- where the store fails no byte was moved
pub failed_keeps : (k new : Kernel) (p : ℕ) (sem : Semantics) (d port : ℕ) (flow : Option ℕ) (a n : ℕ) → CopiesAtMost 0 k.memory new.memory → KeepsToBound k (event.Output p sem d port flow a n) new reply.StoreFault
failed_keeps k new p sem d port flow a n none = omega (arith, none)
