-- Pages are copied, one after the other.
use Rattle.std.proofs.Common.{◌^◌, ◌≡◌, ◌≢◌, ◌≢◌, ℕ, zero, suc, ◌+◌, ◌-◌, ◌*◌, ◌/◌, ◌%◌, ◌<◌, ◌≤◌, true, false, List, [], ◌∷◌, ◌++◌, length, map, take, drop, refl, ap, sym, ◌∙◌, arith, rules, subst, get_or, length-append, length-drop, inl, inr}
use Rattle.std.specs.Prelude.{◌==◌, IsTrue, IfSome, Some, None, Option, count_by, flat_map, nat_lt, if◌then◌else◌}
use Rattle.std.specs.List.{range_with_len}
use Rattle.std.proofs.Math.Nat.{mod-lt}
use Rattle.genie_base.specs.Counts.{is_page_size}
use Rattle.std.specs.Option.{option_map}
use Rattle.std.proofs.lemmas.Bool.{cases_lt}
use Rattle.std.proofs.lemmas.Bool.Decides.{nat_tests}
use Rattle.std.proofs.lemmas.List.{map-append, drop-append-le, length-replicate}
use Rattle.genie_base.specs.Bytes.{part}
use Rattle.genie_frame.specs.declared.frame.OutLoan.{OutLoan}
use Rattle.genie_frame.specs.declared.frame.FrameId.{FrameId}
use Rattle.genie_frame.specs.declared.frame.Meters.{Meters}
use Rattle.genie_frame.specs.FrameTable.{FrameTable, counts_at, bytes_at, is_free, is_lent, no_counts}
use Rattle.genie_store.specs.StoreView.{StoreView}
use Rattle.genie_object.specs.declared.memory.Memory.{Memory}
use Rattle.genie_object.specs.declared.pages.Place.{Place}
use Rattle.genie_object.specs.declared.pages.Place.TheVariants.{Zero, Frame, Slot}
use Rattle.genie_object.specs.Objects.{entry_at, object_at}
use Rattle.genie_object.specs.Memory.{seen, seen_with, bytes_of, page_bytes, place_bytes}
use Rattle.genie_object.specs.Sound.{IsSound, IsSized}
use Rattle.genie_object.specs.Costs.{AreBelow, Spends, is_untouched, place_of, read_work}
use Rattle.genie_object.specs.Steps.{metered}
use Rattle.genie_object.specs.Lemmas.Spending.{spends_more, spends_none, spends_on}
use Rattle.genie_object.specs.Lemmas.Touching.{keeps_all, touches_none}
use Rattle.genie_plan.specs.Plans.{output_frames, joined, range_bytes}
use Rattle.genie_plan.specs.Loans.{LoanKind, Strong, Loan, output_loans}
use Rattle.genie_tcow.specs.Costs.{reads_work}
use Rattle.genie_tcow.specs.Lending.{no_entry, loans_on, HasLent, IsClaimed}
use Rattle.genie_plan.specs.Landings.{entries_bytes}
use Rattle.genie_tcow.specs.Ranges.{HoldsParts, SendsRange, begin_in, left_in, piece_of}
use Rattle.genie_plan.specs.Lemmas.Ending.{frame_cons, other_test}
use Rattle.genie_base.specs.Lemmas.Places.{num}
use Rattle.genie_tcow.proofs.Counting.{on_at, on_push, at_last, at_front}
use Rattle.genie_tcow.specs.Owning.{AreTransfers}
use Rattle.genie_tcow.proofs.Owned.{framed_there}
use Rattle.genie_tcow.proofs.PlaceOf.{placed_bytes, on_frame, known_slot}
use Rattle.genie_tcow.proofs.Copying.{full_size}
use Rattle.genie_tcow.proofs.Ready.{out_at, count_loans, count_frames}
use Rattle.genie_object.specs.Lemmas.Lookup.{in_range}
use Rattle.genie_frame.specs.declared.frame.Counts.{Counts}
use Rattle.genie_object.specs.declared.objects.Range.{Range}
use Rattle.genie_base.specs.Counts.{span}
use Rattle.genie_tcow.proofs.Totals.{chosen_most, total_most, total_grow, below_page, page_most}
use Rattle.genie_tcow.proofs.Lent.{lent_on, lent_none, lent_failed, is_out}
use Rattle.genie_tcow.proofs.Holding.{entries_still}
use Rattle.genie_tcow.proofs.Claimed.{copy_lent, copy_somebody, copy_system}

-- the bytes that were copied so far
pub record CopiedSoFar (id o i first len : ℕ) (loans : List Loan) (n off left : ℕ) (old new : Memory) (before now : StoreView) : Type 0 where
  pub lent : HasLent Strong id no_entry loans old new before now
  pub system : AreTransfers id loans new.frames
  pub parts : HoldsParts old before o i first len loans new.frames
  pub only : new ≡ record old { frames = new.frames }
  pub number : length loans ≡ n
  pub begins : off ≡ begin_in first n
  pub rest : left ≡ left_in old.frames.page first len n
  pub most : left ≤ len
  pub spends : Spends (len - left + reads_work old o i n) n 0 n old.frames.meters new.frames.meters
  pub count : now.count ≡ before.count
  pub page : now.page ≡ before.page
  pub slots : now.slots ≡ before.slots
  pub faults : now.faults ≡ before.faults

-- where the next page goes on
left_first : (page first len : ℕ) → len ≡ left_in page first len 0
left_first page first len = let z : page * 0 ≡ 0 = grind arith in omega (arith, z)

left_next : (page first len n off left : ℕ) → first < page → off ≡ begin_in first n → left ≡ left_in page first len n → left - (page - off) ≡ left_in page first len (n + 1)
left_next page first len zero off left h b l =
    let z : page * 0 ≡ 0 = grind arith in
    let d : page * (0 + 1) ≡ page = grind arith in
    let at : off ≡ first = b in
    omega (arith, h, at, l, z, d)
left_next page first len (suc n) off left h b l =
    let d : page * (suc n + 1) ≡ page * suc n + page = grind arith in
    let e : page * suc n ≡ page * n + page = grind arith in
    let at : off ≡ 0 = b in
    omega (arith, h, at, l, d, e)

begin_next : (first n : ℕ) → 0 ≡ begin_in first (n + 1)
begin_next first n = let d : n + 1 ≡ suc n = omega arith in ap (begin_in first) (sym d)

pub piece_left : (page off left : ℕ) → off ≤ page → (left - piece_of page off left ≡ left - (page - off)) × (piece_of page off left ≤ left)
piece_left page off left h = elim (cases_lt left (page - off)) [
  | inl l ↦ let t : nat_lt left (page - off) ≡ true = grind (arith, nat_tests) in let e : piece_of page off left ≡ left = ap (λ b. if b then left else page - off) t in (omega (arith, e, l), omega (arith, e))
  | inr l ↦ let t : nat_lt left (page - off) ≡ false = grind (arith, nat_tests) in let e : piece_of page off left ≡ page - off = ap (λ b. if b then left else page - off) t in (omega (arith, e), omega (arith, e, l))
]

parts_one : (old : Memory) (v : StoreView) (o i first len n : ℕ) (loans : List Loan) (loan : Loan) (t u : FrameTable) → n ≡ length loans → ((f : ℕ) → 0 < loans_on loans f → bytes_at u f ≡ bytes_at t f) → HoldsParts old v o i first len loans t
    → IfSome (bytes_of old v o (i + n)) (λ b. part (begin_in first n) (left_in old.frames.page first len n) (bytes_at u loan.frame) ≡ part (begin_in first n) (left_in old.frames.page first len n) b)
    → HoldsParts old v o i first len (loans ++ loan ∷ []) u
parts_one old v o i first len n loans loan t u size last x y k d l = elim (cases_lt k (length loans)) [
  | inl h ↦
      let same : bytes_at u (get_or (loans ++ loan ∷ []) k d).frame ≡ bytes_at t (get_or loans k d).frame = ap (λ (q : Loan). bytes_at u q.frame) (at_front loans loan d k h) ∙ last (get_or loans k d).frame (on_at loans k d h) in
      subst (λ bs. IfSome (bytes_of old v o (i + k)) (λ b. part (begin_in first k) (left_in old.frames.page first len k) bs ≡ part (begin_in first k) (left_in old.frames.page first len k) b)) (sym same) (x k d h)
  | inr h ↦
      let more : length (loans ++ loan ∷ []) ≡ length loans + 1 = length-append loans (loan ∷ []) in
      let e : k ≡ length loans = omega (arith, more, l, h) in
      let at : n ≡ k = size ∙ sym e in
      let z = subst (λ q. IfSome (bytes_of old v o (i + q)) (λ b. part (begin_in first q) (left_in old.frames.page first len q) (bytes_at u loan.frame) ≡ part (begin_in first q) (left_in old.frames.page first len q) b)) at y in
      subst (λ bs. IfSome (bytes_of old v o (i + k)) (λ b. part (begin_in first k) (left_in old.frames.page first len k) bs ≡ part (begin_in first k) (left_in old.frames.page first len k) b)) (sym (ap (λ (q : Loan). bytes_at u q.frame) (at_last loans loan d k e))) z
]

pub copied_none : {X : Type 0} (loan_of : X → Loan) (id o i first len : ℕ) (loans : List X) (m : Memory) (v : StoreView) → loans ≡ [] → IsSound m → CopiedSoFar id o i first len (map loan_of loans) 0 first len m m v v
copied_none loan_of id o i first len loans m v e s = subst (λ xs. CopiedSoFar id o i first len (map loan_of xs) 0 first len m m v v) (sym e) (record {
  lent = lent_none Strong id no_entry m v s;
  system = λ f h. absurd (omega (arith, h));
  parts = λ k d l. absurd (omega (arith, l));
  only = refl;
  number = refl;
  begins = refl;
  rest = left_first m.frames.page first len;
  most = omega arith;
  spends = spends_none _ _ _ _ m.frames.meters;
  count = refl;
  page = refl;
  slots = refl;
  faults = refl;
})

read_same : (old m : Memory) (o i : ℕ) → m ≡ record old { frames = m.frames } → m.frames.page ≡ old.frames.page → read_work m o i ≡ read_work old o i
read_same old m o i e p = (λ k. if is_untouched (e k) o i then m.frames.page else 0) ∙ ap (λ n. if is_untouched old o i then n else 0) p

off_within : (first n off page : ℕ) → off ≡ begin_in first n → first ≤ page → off ≤ page
off_within first zero off page e l = let at : off ≡ first = e in omega (arith, at, l)
off_within first (suc n) off page e l = let at : off ≡ 0 = e in omega (arith, at)

reads_next : (old : Memory) (o i n : ℕ) → reads_work old o i (n + 1) ≡ reads_work old o i n + read_work old o (i + n)
reads_next old o i n = let d : n + 1 ≡ suc n = omega arith in ap (reads_work old o i) d

-- a frame of these loans is one of the others, or the last one's
on_others : (loans : List Loan) (loan : Loan) (f : ℕ) → 0 < loans_on (loans ++ loan ∷ []) f → f ≢ loan.frame → 0 < loans_on loans f
on_others loans loan f h apart =
    let none : num (loan.frame == f) ≡ 0 = ap num (other_test loan.frame f (λ e. apart (sym e))) in
    omega (arith, h, on_push loans loan f, frame_cons loan [] f, none)

pub copied_more : {X : Type 0} (loan_of : X → Loan) (id o i first len n j : ℕ) (off left off' left' : ℕ) (loans items : List X) (loan : X) (old m new : Memory) (before mid now : StoreView) → j ≡ i + n → first < old.frames.page → off' ≡ 0 → left' ≡ left - piece_of m.frames.page off left → CopiedSoFar id o i first len (map loan_of loans) n off left old m before mid → items ≡ loans ++ loan ∷ [] → (loan_of loan).kind ≡ Strong
    → IsClaimed m new id (loan_of loan).frame (bytes_at new.frames (loan_of loan).frame) → IfSome (bytes_of m mid o j) (λ b. part off left (bytes_at new.frames (loan_of loan).frame) ≡ part off left b) → Spends (piece_of m.frames.page off left + read_work m o j) 1 0 1 m.frames.meters new.frames.meters → now.count ≡ mid.count → now.page ≡ mid.page → now.slots ≡ mid.slots → now.faults ≡ mid.faults
    → CopiedSoFar id o i first len (map loan_of items) (n + 1) off' left' old new before now
copied_more loan_of id o i first len n j off left off' left' loans items loan old m new before mid now at inside zeroed less x is strong claims bytes spends count page slots faults =
    let all : map loan_of items ≡ map loan_of loans ++ loan_of loan ∷ [] = ap (map loan_of) is ∙ map-append loan_of loans (loan ∷ []) in
    let size : length (map loan_of loans ++ loan_of loan ∷ []) ≡ length (map loan_of loans) + 1 = length-append (map loan_of loans) (loan_of loan ∷ []) in
    let same : m.frames.page ≡ old.frames.page = x.lent.keeps.page in
    let within : off ≤ m.frames.page = off_within first n off m.frames.page x.begins (omega (arith, inside, same)) in
    let p = piece_left m.frames.page off left within in
    let g = (loan_of loan).frame in
    let shows : seen_with m now ≡ seen_with m mid = ap (option_map (seen m)) slots in
    let lends : HasLent Strong id no_entry (loan_of loan ∷ []) m new mid now = subst (λ (k : LoanKind). HasLent Strong id no_entry (record { kind = k; frame = g } ∷ []) m new mid now) (sym strong) (copy_lent id no_entry g (bytes_at new.frames g) m m new mid now x.lent.sound shows (keeps_all m) (touches_none no_entry m) refl refl (omega arith) (omega arith) claims) in
    let its : IfSome (bytes_of old before o (i + n)) (λ b. part (begin_in first n) (left_in old.frames.page first len n) (bytes_at new.frames g) ≡ part (begin_in first n) (left_in old.frames.page first len n) b) =
    subst (λ q. IfSome (bytes_of old before o (i + n)) (λ b. part q (left_in old.frames.page first len n) (bytes_at new.frames g) ≡ part q (left_in old.frames.page first len n) b)) x.begins
    (subst (λ q. IfSome (bytes_of old before o (i + n)) (λ b. part off q (bytes_at new.frames g) ≡ part off q b)) x.rest
    (subst (λ y. IfSome y (λ b. part off left (bytes_at new.frames g) ≡ part off left b)) (entries_still Strong id no_entry (map loan_of loans) old m before mid x.lent o j ∙ ap (bytes_of old before o) at) bytes)) in
    subst (λ xs. CopiedSoFar id o i first len xs (n + 1) off' left' old new before now) (sym all) (record {
      lent = lent_on Strong id no_entry (map loan_of loans) (loan_of loan) old m new before mid now (λ f h. copy_somebody id g (bytes_at new.frames g) m new f x.lent.sound claims (x.lent.owned f h)) x.lent lends;
      system = λ f h. copy_system id g (bytes_at new.frames g) m new f x.lent.sound claims (λ apart. x.system f (on_others (map loan_of loans) (loan_of loan) f h apart));
      parts = parts_one old before o i first len n (map loan_of loans) (loan_of loan) m.frames new.frames (sym x.number) (λ f h. (lends.keeps.lent f (is_out Strong id no_entry (map loan_of loans) old m before mid x.lent f h)).bytes) x.parts its;
      only = λ k. record new { pages = (ap (λ (q : Memory). q.pages) claims.is ∙ ap (λ (q : Memory). q.pages) x.only) k; objects = (ap (λ (q : Memory). q.objects) claims.is ∙ ap (λ (q : Memory). q.objects) x.only) k; slots = (ap (λ (q : Memory). q.slots) claims.is ∙ ap (λ (q : Memory). q.slots) x.only) k };
      number = omega (arith, size, x.number);
      begins = zeroed ∙ begin_next first n;
      rest = less ∙ p.0 ∙ ap (λ q. left - (q - off)) same ∙ left_next old.frames.page first len n off left inside x.begins x.rest;
      most = omega (arith, less, x.most);
      spends =
          let its_work : read_work m o j ≡ read_work old o (i + n) = read_same old m o j x.only same ∙ ap (read_work old o) at in
          spends_more _ _ _ _ _ _ _ _ old.frames.meters new.frames.meters (spends_on (len - left + reads_work old o i n) n 0 n (piece_of m.frames.page off left + read_work m o j) 1 0 1 old.frames.meters m.frames.meters new.frames.meters x.spends spends) (omega (arith, its_work, reads_next old o i n, p.1, less, x.most)) (omega arith) (omega arith) (omega arith);
      count = count ∙ x.count;
      page = page ∙ x.page;
      slots = slots ∙ x.slots;
      faults = faults ∙ x.faults;
    })

-- the meters once a page more was copied, at most
below_copied : (b i : ℕ) (u v : Meters) → AreBelow (2 ^ 64 - 2 ^ 21) u → Spends b i 0 i u v → b ≤ 2 * (4096 * 65) → i ≤ 65 → AreBelow (2 ^ 64 - 2 ^ 20) v
below_copied b i u v a x h l = record {
  read = omega (arith, a.read, x.work, x.read, x.written, x.copied, x.zeroed);
  written = omega (arith, a.written, x.work, x.read, x.written, x.copied, x.zeroed);
  copied = omega (arith, a.copied, x.work, x.read, x.written, x.copied, x.zeroed);
  zeroed = omega (arith, a.zeroed, x.work, x.read, x.written, x.copied, x.zeroed);
  puts = omega (arith, a.puts, x.most_puts);
  gets = omega (arith, a.gets, x.most_gets);
  taken = omega (arith, a.taken, x.most_taken);
}

-- what the next page asks for
pub record CanGoOn (m : Memory) (o first i off : ℕ) : Type 0 where
  pub there : first + i < length (object_at m.objects o)
  pub inside : off ≤ m.frames.page
  pub free : 0 < count_by is_free m.frames.owners
  pub meters : AreBelow (2 ^ 64 - 2 ^ 20) m.frames.meters

pub goes_on : (id o first i n place len off left : ℕ) (loans : List Loan) (old m : Memory) (before now : StoreView) → IsSound old → first + n ≤ length (object_at old.objects o) → n ≤ 65 → n ≤ count_by is_free old.frames.owners → AreBelow (2 ^ 64 - 2 ^ 21) old.frames.meters → place < old.frames.page → len ≤ old.frames.page * n → CopiedSoFar id o first place len loans i off left old m before now → i < n → CanGoOn m o first i off
goes_on id o first i n place len off left loans old m before now s within few free meters inside fits x l =
    let page = page_most old.frames s.shaped in
    let reads = below_page old.frames.page i (reads_work old o first i) page (omega (arith, few, l)) (total_most (λ k. read_work old o (first + k)) old.frames.page i (λ k. chosen_most (is_untouched old o (first + k)) old.frames.page)) in
    let bytes = below_page old.frames.page n len page few fits in
    record {
      there = omega (arith, within, l, x.lent.keeps.entries o);
      inside = off_within place i off m.frames.page x.begins (omega (arith, inside, x.lent.keeps.page));
      free = omega (arith, x.lent.free, free, l, x.number);
      meters = below_copied (len - left + reads_work old o first i) i old.frames.meters m.frames.meters meters x.spends (omega (arith, reads, bytes)) (omega (arith, few, l));
    }

-- all pages were copied, or the next one failed
pub spends_all : (id o first n place len off left : ℕ) (loans : List Loan) (old m : Memory) (before now : StoreView) → CopiedSoFar id o first place len loans n off left old m before now → Spends (len + reads_work old o first n) n 0 n old.frames.meters m.frames.meters
spends_all id o first n place len off left loans old m before now x = spends_more _ _ _ _ _ _ _ _ old.frames.meters m.frames.meters x.spends (omega arith) (omega arith) (omega arith) (omega arith)

pub spends_failed : (id o first i n place len off left : ℕ) (loans : List Loan) (old m new : Memory) (before mid : StoreView) → i < n → place < old.frames.page → CopiedSoFar id o first place len loans i off left old m before mid → Spends (piece_of m.frames.page off left + read_work m o (first + i)) 1 0 1 m.frames.meters new.frames.meters → Spends (len + reads_work old o first n) n 0 n old.frames.meters new.frames.meters
spends_failed id o first i n place len off left loans old m new before mid l inside x y =
    let same : m.frames.page ≡ old.frames.page = x.lent.keeps.page in
    let p = piece_left m.frames.page off left (off_within place i off m.frames.page x.begins (omega (arith, inside, same))) in
    let its_work = read_same old m o (first + i) x.only same in
    let grown = total_grow (λ k. read_work old o (first + k)) i n l in
    spends_more _ _ _ _ _ _ _ _ old.frames.meters new.frames.meters (spends_on (len - left + reads_work old o first i) i 0 i (piece_of m.frames.page off left + read_work m o (first + i)) 1 0 1 old.frames.meters m.frames.meters new.frames.meters x.spends y) (omega (arith, its_work, p.1, x.most, grown)) (omega (arith, l)) (omega arith) (omega (arith, l))

pub parts_failed : (old m new : Memory) (v : StoreView) (o i first len : ℕ) (loans : List Loan) → HoldsParts old v o i first len loans m.frames → new ≡ metered m new.frames.meters → HoldsParts old v o i first len loans new.frames
parts_failed old m new v o i first len loans x is = subst (λ (n : Memory). HoldsParts old v o i first len loans n.frames) (sym is) x

pub only_failed : (old m new : Memory) → m ≡ record old { frames = m.frames } → new ≡ metered m new.frames.meters → new ≡ record old { frames = new.frames }
only_failed old m new x is = λ k. record new { pages = (ap (λ (q : Memory). q.pages) is ∙ ap (λ (q : Memory). q.pages) x) k; objects = (ap (λ (q : Memory). q.objects) is ∙ ap (λ (q : Memory). q.objects) x) k; slots = (ap (λ (q : Memory). q.slots) is ∙ ap (λ (q : Memory). q.slots) x) k }

pub lent_then : (id : ℕ) (loans : List Loan) (old m new : Memory) (v w z : StoreView) → HasLent Strong id no_entry loans old m v w → new ≡ metered m new.frames.meters → z.slots ≡ w.slots → HasLent Strong id no_entry loans old new v z
lent_then id loans old m new v w z x is slots = lent_failed Strong id no_entry loans old m new v w z x is (ap (λ (n : Memory). seen_with n z) is ∙ ap (option_map (seen m)) slots)

take_split : (n : ℕ) (xs ys : List ℕ) → take n (xs ++ ys) ≡ take n xs ++ take (n - length xs) ys
take_split zero [] ys = refl
take_split (suc n) [] ys = let z : suc n ≡ suc n - length {A = ℕ} [] = omega arith in ap (λ k. take k ys) z
take_split zero (x ∷ xs) ys = let z : 0 ≡ 0 - length (x ∷ xs) = omega arith in ap (λ k. take k ys) z
take_split (suc n) (x ∷ xs) ys = let z : n - length xs ≡ suc n - length (x ∷ xs) = omega arith in ap (λ l. x ∷ l) (take_split n xs ys) ∙ ap (λ k. x ∷ (take n xs ++ take k ys)) z

-- the parts of the pages that lie in a range are the range
same_parts : (page : ℕ) (frames : List ℕ) (bytes : List (List ℕ)) (f : ℕ → List ℕ) (i first len : ℕ) → first ≤ page → ((k : ℕ) → k < length frames → length (get_or bytes (get_or frames k 0) []) ≡ page) → ((k : ℕ) → length (f k) ≡ page)
    → ((k : ℕ) → k < length frames → part (begin_in first k) (left_in page first len k) (get_or bytes (get_or frames k 0) []) ≡ part (begin_in first k) (left_in page first len k) (f (i + k)))
    → part first len (joined bytes frames) ≡ part first len (flat_map f (range_with_len i (length frames)))
same_parts page [] bytes f i first len inside sized whole h = refl
same_parts page (g ∷ frames) bytes f i first len inside sized whole h =
    let x = get_or bytes g [] in
    let y = f i in
    let here : i + 0 ≡ i = omega arith in
    let size_x : length x ≡ page = sized 0 (omega arith) in
    let size_y : length y ≡ page = whole i in
    let head : part first len x ≡ part first len y = subst (λ n. part first n x ≡ part first n y) (sym (left_first page first len)) (subst (λ n. part first (left_in page first len 0) x ≡ part first (left_in page first len 0) (f n)) here (h 0 (omega arith))) in
    let rest = same_parts page frames bytes f (i + 1) 0 (len - (page - first)) (omega arith) (λ k l. sized (suc k) (omega arith)) whole (λ k l. next k (h (suc k) (omega arith))) in
    split x (joined bytes frames) size_x ∙ (λ k. head k ++ rest k) ∙ sym (split y (flat_map f (range_with_len (i + 1) (length frames))) size_y)
  where
    begin_none : (k : ℕ) → 0 ≡ begin_in 0 k
    begin_none zero = refl
    begin_none (suc k) = refl

    split : (a b : List ℕ) → length a ≡ page → part first len (a ++ b) ≡ part first len a ++ part 0 (len - (page - first)) b
    split a b e =
        let rest : length (drop first a) ≡ page - first = length-drop first a ∙ ap (λ n. n - first) e in
        ap (take len) (drop-append-le first a b (omega (arith, e, inside))) ∙ take_split len (drop first a) b ∙ ap (λ n. take len (drop first a) ++ take (len - n) b) rest

    next : (k : ℕ) → part (begin_in first (suc k)) (left_in page first len (suc k)) (get_or bytes (get_or frames k 0) []) ≡ part (begin_in first (suc k)) (left_in page first len (suc k)) (f (i + suc k)) → part (begin_in 0 k) (left_in page 0 (len - (page - first)) k) (get_or bytes (get_or frames k 0) []) ≡ part (begin_in 0 k) (left_in page 0 (len - (page - first)) k) (f (i + 1 + k))
    next k e =
        let d : page * suc k ≡ page * k + page = grind arith in
        let left : left_in page first len (suc k) ≡ left_in page 0 (len - (page - first)) k = omega (arith, d, inside) in
        let at : i + suc k ≡ i + 1 + k = omega arith in
        subst (λ b. part b (left_in page 0 (len - (page - first)) k) (get_or bytes (get_or frames k 0) []) ≡ part b (left_in page 0 (len - (page - first)) k) (f (i + 1 + k))) (begin_none k)
        (subst (λ n. part 0 n (get_or bytes (get_or frames k 0) []) ≡ part 0 n (f (i + 1 + k))) left
        (subst (λ n. part 0 (left_in page first len (suc k)) (get_or bytes (get_or frames k 0) []) ≡ part 0 (left_in page first len (suc k)) (f n)) at e))

-- the bytes of an entry are a page, where the store's slots have pages
size_of : (m : Memory) (slots : ℕ → List ℕ) (place : Place) → IsSound m → ((f : FrameId) → place ≡ Frame f → f.0 < length m.frames.owners) → ((t : ℕ) → place ≡ Slot t → length (slots t) ≡ m.frames.page) → length (place_bytes m.frames slots place) ≡ m.frames.page
size_of m slots Zero s f t = length-replicate m.frames.page 0
size_of m slots (Frame g) s f t = full_size m g.0 s (f g refl)
size_of m slots (Slot r) s f t = t r refl

entry_size : (m : Memory) (v : StoreView) (slots : ℕ → List ℕ) (o i : ℕ) → IsSound m → IsSized m v → ((t : ℕ) → t < v.count → length (slots t) ≡ v.page) → length ((seen m slots).entry_bytes o i) ≡ m.frames.page
entry_size m v slots o i s z paged = ap length (placed_bytes m.frames m slots (entry_at m.objects o i).page) ∙ size_of m slots (place_of m o i) s
    (λ f e. framed_there m o i f.0 s (on_frame m o i f e))
    (λ t e. let k = (known_slot m o i t s e).slot t refl in paged t (omega (arith, k, z.count)) ∙ z.page)

no_loan : Loan
no_loan = record { kind = Strong; frame = 0 }

lent_nonzero : (c : Counts) → is_lent c ≡ true → c ≢ no_counts
lent_nonzero c l e = let bad : true ≡ false = sym l ∙ ap is_lent e in cc

-- the frame of a loan has a page of bytes
loan_size : (id : ℕ) (loans : List OutLoan) (old m : Memory) (v w : StoreView) → HasLent Strong id no_entry (output_loans loans) old m v w → (k : ℕ) → k < length loans → length (bytes_at m.frames (get_or (output_frames loans) k 0)) ≡ old.frames.page
loan_size id loans old m v w x k l =
    let l' : k < length (output_loans loans) = omega (arith, l, count_loans loans) in
    let f = (get_or (output_loans loans) k no_loan).frame in
    let there : f < length m.frames.counts = in_range m.frames.counts f no_counts (lent_nonzero (counts_at m.frames f) (is_out Strong id no_entry (output_loans loans) old m v w x f (on_at (output_loans loans) k no_loan l'))) in
    subst (λ g. length (bytes_at m.frames g) ≡ old.frames.page) (out_at loans k no_loan l) (x.sound.shaped.paged f [] (omega (arith, there, x.sound.shaped.counted, x.sound.shaped.filled)) ∙ x.keeps.page)

-- the plan has the bytes of the range
pub sends_parts : (id : ℕ) (loans : List OutLoan) (old m : Memory) (v w : StoreView) (o i first len n : ℕ) → HasLent Strong id no_entry (output_loans loans) old m v w → IsSound old → IsSized old v → IfSome v.slots (λ slots. (t : ℕ) → t < v.count → length (slots t) ≡ v.page) → first ≤ old.frames.page → length (output_loans loans) ≡ n → HoldsParts old v o i first len (output_loans loans) m.frames → IfSome v.slots (λ s. range_bytes m.frames (output_frames loans) first len ≡ part first len (entries_bytes (seen old s) o i n))
sends_parts id loans old m v w o i first len n x s z paged inside number parts = told v.slots paged parts
  where
    told : (slots : Option (ℕ → List ℕ)) → IfSome slots (λ s. (t : ℕ) → t < v.count → length (s t) ≡ v.page) → ((k : ℕ) (d : Loan) → k < length (output_loans loans) → IfSome (option_map (λ s. page_bytes old.frames old.pages.pages s (entry_at old.objects o (i + k)).page) slots) (λ b. part (begin_in first k) (left_in old.frames.page first len k) (bytes_at m.frames (get_or (output_loans loans) k d).frame) ≡ part (begin_in first k) (left_in old.frames.page first len k) b))
        → IfSome slots (λ s. range_bytes m.frames (output_frames loans) first len ≡ part first len (entries_bytes (seen old s) o i n))
    told None p h = tt
    told (Some t) p h =
        let count : length (output_frames loans) ≡ n = count_frames loans ∙ sym (count_loans loans) ∙ number in
        same_parts old.frames.page (output_frames loans) m.frames.bytes ((seen old t).entry_bytes o) i first len inside
        (λ k l. loan_size id loans old m v w x k (rw (count_frames loans) at l))
        (λ k. entry_size old v t o k s z p)
        (λ k l.
        let l' : k < length loans = rw (count_frames loans) at l in
        subst (λ f. part (begin_in first k) (left_in old.frames.page first len k) (bytes_at m.frames f) ≡ part (begin_in first k) (left_in old.frames.page first len k) ((seen old t).entry_bytes o (i + k))) (out_at loans k no_loan l') (h k no_loan (omega (arith, l', count_loans loans))))
        ∙ ap (λ c. part first len (flat_map ((seen old t).entry_bytes o) (range_with_len i c))) count

page_some : (page : ℕ) → IsTrue (is_page_size page) → 0 < page
page_some page e = grind (arith, rules, e)

pub inside_page : (m : Memory) (off p : ℕ) → IsSound m → p ≡ m.frames.page → off % p ≤ p
inside_page m off p s e =
    let some : 0 < p = let l = page_some m.frames.page s.shaped.size in omega (arith, l, e) in
    let l = mod-lt off some in
    omega (arith, l)

pub range_copied : (id : ℕ) (old new : Memory) (v w : StoreView) (range : Range) (loans : List OutLoan) (p n : ℕ) → HasLent Strong id no_entry (output_loans loans) old new v w → IsSound old → IsSized old v → IfSome v.slots (λ slots. (t : ℕ) → t < v.count → length (slots t) ≡ v.page) → range.off % p ≤ p → p ≡ old.frames.page → n ≡ span p range.off range.len → length (output_loans loans) ≡ n → HoldsParts old v range.object.0 (range.off / p) (range.off % p) range.len (output_loans loans) new.frames → SendsRange old new v range loans (range.off % p) range.len
range_copied id old new v w range loans p n x s z paged inside same count number parts = subst (λ q. IfSome v.slots (λ t. range_bytes new.frames (output_frames loans) (range.off % p) range.len ≡ part (range.off % p) range.len (entries_bytes (seen old t) range.object.0 (range.off / q) (span q range.off range.len)))) same (sends_parts id loans old new v w range.object.0 (range.off / p) (range.off % p) range.len (span p range.off range.len) x s z paged (omega (arith, inside, same)) (number ∙ count) parts)
