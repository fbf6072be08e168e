-- What reads and writes copy at most.
use Rattle.std.proofs.Common.{◌≡◌, ℕ, ◌≤◌, ◌<◌, ◌+◌, ◌-◌, ◌*◌, ◌/◌, ◌%◌, Bool, true, false, List, length, refl, sym, ap, subst, arith, ◌∙◌}
use Rattle.std.specs.Prelude.{Option, Some, if◌then◌else◌}
use Rattle.std.specs.Option.{option_map}
use Rattle.genie_base.specs.declared.event.Event.TheVariants as event
use Rattle.genie_base.specs.declared.numbers.ObjectId.{ObjectId}
use Rattle.genie_frame.specs.FrameTable.{FrameTable}
use Rattle.genie_frame.specs.Frames.{more_written, stored}
use Rattle.genie_hiding.specs.Hidden.{objects_of}
use Rattle.genie_object.specs.declared.memory.Memory.{Memory}
use Rattle.genie_object.specs.Costs.{Spends, CostsNoMore, work, is_untouched, read_work, write_work}
use Rattle.genie_object.specs.Lemmas.Works.{writes_less}
use Rattle.genie_kernel.specs.declared.kernel.Kernel.{Kernel}
use Rattle.genie_kernel.specs.Good.{IsGood}
use Rattle.genie_copying.specs.Kinds.{is_fixed}
use Rattle.genie_copying.specs.Ranges.{Pages, pages_at, pages_in, pages_reached, count_in, count_of}
use Rattle.genie_copying.specs.Bounds.{event_bound}
use Rattle.genie_copying.specs.Spending.{CopiesAtMost, NoDearer}
use Rattle.genie_copying.specs.Lemmas.Counting.{bytes_first, bytes_second, span_some, span_passes}
use Rattle.genie_copying.specs.Lemmas.Costing.{fixed_copied, untouched_fewer, fixed_fewer}
use Rattle.genie_access.specs.Reached.{LeadsTo}
use Rattle.genie_access.proofs.Led.{led_outside}

reads_less : (old new : Memory) (o i : ℕ) → CostsNoMore old new → new.frames.page ≡ old.frames.page → read_work new o i ≤ read_work old o i
reads_less old new o i x e = elim (is_untouched old o i) as (λ b. is_untouched old o i ≡ b → read_work new o i ≤ read_work old o i) [
  | true ↦ λ h. rw h (elim (is_untouched new o i) as (λ c. (if c then new.frames.page else 0) ≤ old.frames.page) [ true ↦ omega (arith, e) | false ↦ omega arith ])
  | false ↦ λ h. rw (x.read o i h) (omega arith)
] refl

-- the first page of a range is zeroed at most, and bytes of it are read
pub read_one : (old new : Memory) (o off n p first g : ℕ) → p ≡ old.frames.page → 1 ≤ n → first ≤ n → Spends (read_work old o (off / p) + first) g 0 1 old.frames.meters new.frames.meters → CopiesAtMost (n + old.frames.page * count_in is_untouched old (pages_at old.frames.page o off n)) old new
read_one old new o off n p first g e some l s =
    let same : read_work old o (off / p) ≡ read_work old o (off / old.frames.page) = ap (λ (z : ℕ). read_work old o (off / z)) e in
    let among = bytes_first old.frames.page (is_untouched old o) (off / old.frames.page) _ (span_some old.frames.page off n some) in
    omega (arith, same, among, l, s.work)

-- and so is the second one
pub read_two : (old mid new : Memory) (o off n p first g h : ℕ) → p ≡ old.frames.page → 0 < p → first ≤ n → p - off % p < n → Spends (read_work old o (off / p) + first) g 0 1 old.frames.meters mid.frames.meters → CostsNoMore old mid → mid.frames.page ≡ old.frames.page → Spends (read_work mid o (off / p + 1) + (n - first)) h 0 1 mid.frames.meters new.frames.meters → CopiesAtMost (n + old.frames.page * count_in is_untouched old (pages_at old.frames.page o off n)) old new
read_two old mid new o off n p first g h e some l far s costs page t =
    let same : read_work old o (off / p) ≡ read_work old o (off / old.frames.page) = ap (λ (z : ℕ). read_work old o (off / z)) e in
    let next : read_work old o (off / p + 1) ≡ read_work old o (off / old.frames.page + 1) = ap (λ (z : ℕ). read_work old o (off / z + 1)) e in
    let passes : 2 ≤ _ = span_passes old.frames.page off n (subst (λ z. 0 < z) e some) (subst (λ z. z - off % z < n) e far) in
    let among = bytes_second old.frames.page (is_untouched old o) (off / old.frames.page) _ passes in
    omega (arith, same, next, among, l, s.work, t.work, reads_less old mid o (off / p + 1) costs page)

write_page : (m : Memory) (o i : ℕ) → write_work m o i ≡ (if is_fixed m o i then m.frames.page else 0)
write_page m o i = ap (λ (b : Bool). if b then m.frames.page else 0) (sym (fixed_copied m o i))

put_work : (t u : FrameTable) (f x n : ℕ) (b : List ℕ) → t ≡ more_written (stored u f x b) n → work t.meters ≡ work u.meters + n
put_work t u f x n b e = let same = ap (λ (z : FrameTable). work z.meters) e in omega (arith, same)

-- the first page of a range becomes its own
pub write_one : (old new : Memory) (o off n p g : ℕ) → p ≡ old.frames.page → 1 ≤ n → Spends (write_work old o (off / p)) g 0 1 old.frames.meters new.frames.meters → CopiesAtMost (old.frames.page * count_in is_fixed old (pages_at old.frames.page o off n)) old new
write_one old new o off n p g e some s =
    let same : write_work old o (off / p) ≡ write_work old o (off / old.frames.page) = ap (λ (z : ℕ). write_work old o (off / z)) e in
    let among = bytes_first old.frames.page (is_fixed old o) (off / old.frames.page) _ (span_some old.frames.page off n some) in
    omega (arith, same, among, s.work, write_page old o (off / old.frames.page))

pub write_two : (old mid new : Memory) (o off n p g h : ℕ) → p ≡ old.frames.page → 0 < p → p - off % p < n → Spends (write_work old o (off / p)) g 0 1 old.frames.meters mid.frames.meters → CostsNoMore old mid → mid.frames.page ≡ old.frames.page → Spends (write_work mid o (off / p + 1)) h 0 1 mid.frames.meters new.frames.meters → CopiesAtMost (old.frames.page * count_in is_fixed old (pages_at old.frames.page o off n)) old new
write_two old mid new o off n p g h e some far s costs page t =
    let same : write_work old o (off / p) ≡ write_work old o (off / old.frames.page) = ap (λ (z : ℕ). write_work old o (off / z)) e in
    let next : write_work old o (off / p + 1) ≡ write_work old o (off / old.frames.page + 1) = ap (λ (z : ℕ). write_work old o (off / z + 1)) e in
    let passes : 2 ≤ _ = span_passes old.frames.page off n (subst (λ z. 0 < z) e some) (subst (λ z. z - off % z < n) e far) in
    let among = bytes_second old.frames.page (is_fixed old o) (off / old.frames.page) _ passes in
    omega (arith, same, next, among, s.work, t.work, writes_less old mid o (off / p + 1) costs page, write_page old o (off / old.frames.page), write_page old o (off / old.frames.page + 1))

-- more may be copied than is
pub copies_less : (few many : ℕ) (old new : Memory) → few ≤ many → CopiesAtMost few old new → CopiesAtMost many old new
copies_less few many old new l c = omega (arith, l, c)

-- bytes are stored in one page, or in two
pub put_one : (bytes n : ℕ) (old mid : Memory) (t : FrameTable) (f x : ℕ) (b : List ℕ) → CopiesAtMost bytes old mid → t ≡ more_written (stored mid.frames f x b) n → work t.meters ≤ work old.frames.meters + (n + bytes)
put_one bytes n old mid t f x b c e = omega (arith, c, put_work t mid.frames f x n b e)

pub put_two : (bytes n k all : ℕ) (old mid : Memory) (s t : FrameTable) (f x g y : ℕ) (a b : List ℕ) → n + k ≡ all → CopiesAtMost bytes old mid → s ≡ more_written (stored mid.frames f x a) n → t ≡ more_written (stored s g y b) k → work t.meters ≤ work old.frames.meters + (all + bytes)
put_two bytes n k all old mid s t f x g y a b whole c d e = omega (arith, c, whole, put_work s mid.frames f x n a d, put_work t s g y k b e)

-- the pages that an access reaches are those of the object to which it leads
pub led_pages : (k : Kernel) (p a n : ℕ) (o : ObjectId) (off : ℕ) → LeadsTo k p a n o off → pages_reached k p a n ≡ Some (pages_at k.config.page o.0 off n)
led_pages k p a n o off l = ap (option_map (pages_in k.config.page a n)) l.found ∙ (λ i. Some (pages_at k.config.page (sym l.object_is i).0 (sym l.place i) n))

-- room was made, and then no more was copied than the pages cost that the event found
pub reads_bound : (k : Kernel) (mid m : Memory) (p a n : ℕ) (o : ObjectId) (off : ℕ) → IsGood k → LeadsTo k p a n o off → NoDearer (objects_of k.hidden) k.memory mid → CopiesAtMost 0 k.memory mid → CopiesAtMost (n + mid.frames.page * count_in is_untouched mid (pages_at mid.frames.page o.0 off n)) mid m → CopiesAtMost (event_bound k (event.Read p a n)) k.memory m
reads_bound k mid m p a n o off g l x none c =
    let page : mid.frames.page ≡ k.config.page = x.page ∙ g.sized.page in
    let fewer = untouched_fewer (objects_of k.hidden) k.memory mid (pages_at mid.frames.page o.0 off n) x (led_outside k p a n o off g l) in
    let found : k.memory.frames.page * count_in is_untouched k.memory (pages_at mid.frames.page o.0 off n) ≡ k.config.page * count_of is_untouched k.memory (pages_reached k p a n) = (λ i. g.sized.page i * count_in is_untouched k.memory (pages_at (page i) o.0 off n)) ∙ ap (λ (z : Option Pages). k.config.page * count_of is_untouched k.memory z) (sym (led_pages k p a n o off l)) in
    omega (arith, fewer, found, none, c)

pub writes_bound : (k : Kernel) (mid m : Memory) (p a : ℕ) (bytes : List ℕ) (o : ObjectId) (off : ℕ) → IsGood k → LeadsTo k p a (length bytes) o off → NoDearer (objects_of k.hidden) k.memory mid → CopiesAtMost 0 k.memory mid → CopiesAtMost (length bytes + mid.frames.page * count_in is_fixed mid (pages_at mid.frames.page o.0 off (length bytes))) mid m → CopiesAtMost (event_bound k (event.Write p a bytes)) k.memory m
writes_bound k mid m p a bytes o off g l x none c =
    let n = length bytes in
    let page : mid.frames.page ≡ k.config.page = x.page ∙ g.sized.page in
    let fewer = fixed_fewer (objects_of k.hidden) k.memory mid (pages_at mid.frames.page o.0 off n) x (led_outside k p a n o off g l) in
    let found : k.memory.frames.page * count_in is_fixed k.memory (pages_at mid.frames.page o.0 off n) ≡ k.config.page * count_of is_fixed k.memory (pages_reached k p a n) = (λ i. g.sized.page i * count_in is_fixed k.memory (pages_at (page i) o.0 off n)) ∙ ap (λ (z : Option Pages). k.config.page * count_of is_fixed k.memory z) (sym (led_pages k p a n o off l)) in
    omega (arith, fewer, found, none, c)
