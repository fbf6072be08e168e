-- Some frames of a buffer are stored, and the loans of the others end.
use Rattle.std.proofs.Common.{◌≡◌, ℕ, ◌+◌, ◌-◌, ◌*◌, ◌/◌, ◌%◌, ◌^◌, ◌<◌, ◌≤◌, zero, suc, true, false, List, [], ◌∷◌, ◌++◌, refl, sym, ap, subst, arith, rules, ◌∙◌, length, take, drop, get_or, ⊎_elim, length-append, length-drop, length-take, append_assoc}
use Rattle.std.specs.Prelude.{count_by, ◌⊎◌, replicate, if◌then◌else◌, ◌==◌}
use Rattle.std.proofs.lemmas.Bool.{cases_Bool}
use Rattle.std.proofs.lemmas.List.Sums.{sum_by-cons}
use Rattle.std.proofs.lemmas.List.{drop-append-le, length-map, length-replicate, take-append-le}
use Rattle.genie_base.specs.Bytes.{overlaid, part}
use Rattle.genie_base.specs.Counts.{span}
use Rattle.genie_base.specs.Lemmas.Places.{num}
use Rattle.genie_frame.specs.declared.frame.Counts.{Counts}
use Rattle.genie_frame.specs.declared.frame.InLoan.{InLoan}
use Rattle.genie_frame.specs.declared.frame.Owner.{Owner}
use Rattle.genie_frame.specs.declared.frame.Owner.TheVariants.{Free, Page, System, Pool, Nobody}
use Rattle.genie_frame.specs.FrameTable.{FrameTable, IsShaped, AreLoansOwned, bytes_at, counts_at, is_held, is_lent, is_page, is_system, no_counts, owner_at}
use Rattle.genie_finish.specs.Besides.{KeepsBesides}
use Rattle.genie_finish.specs.Ranges.{StoresRange}
use Rattle.genie_input.specs.Buffers.{AreBuffers, IsBuffer, one_input}
use Rattle.genie_object.specs.declared.memory.Memory.{Memory}
use Rattle.genie_object.specs.Memory.{is_kept, seen}
use Rattle.genie_object.specs.Sound.{IsSound}
use Rattle.genie_object.specs.Touching.{Touches, is_in_range, system_owner}
use Rattle.genie_plan.specs.Ending.{CanEnd, EndsSoundly, ShowsAfterEnd}
use Rattle.genie_plan.specs.Landings.{entries_bytes}
use Rattle.genie_plan.specs.Loans.{AreOut, Ended, Loan, input_loan, input_loans, less, let_go, loan_times}
use Rattle.genie_plan.specs.Loans as kind
use Rattle.genie_plan.specs.Plans.{input_frames, joined, range_bytes, times}
use Rattle.genie_plan.specs.Lemmas.Ending.{some_or}
use Rattle.genie_plan.specs.Lemmas.Landings.{times_some}
use Rattle.genie_plan.specs.Lemmas.Ranges.{times_at}
use Rattle.genie_kernel.specs.Rising.{MetersRise}
use Rattle.genie_arrivals.specs.Stored.{ShowsBuffer, StoresBuffer}
use Rattle.genie_arrivals.proofs.Alone.{input_times, none_strong, none_weak}

pub frames_joined : (a b : List InLoan) → input_frames (a ++ b) ≡ input_frames a ++ input_frames b
frames_joined [] b = refl
frames_joined (x ∷ a) b = ap (λ l. x.frame.0 ∷ l) (frames_joined a b)

pub times_joined : (f : ℕ) (a b : List ℕ) → times (a ++ b) f ≡ times a f + times b f
times_joined f [] b = omega arith
times_joined f (x ∷ a) b = omega (arith, times_joined f a b, sum_by-cons (λ (h : ℕ). num (h == f)) x a, sum_by-cons (λ (h : ℕ). num (h == f)) x (a ++ b))

bytes_joined : (bytes : List (List ℕ)) (a b : List ℕ) → joined bytes (a ++ b) ≡ joined bytes a ++ joined bytes b
bytes_joined bytes [] b = refl
bytes_joined bytes (x ∷ a) b = ap (λ l. get_or bytes x [] ++ l) (bytes_joined bytes a b) ∙ sym (append_assoc (get_or bytes x []) (joined bytes a) (joined bytes b))

-- how often loans are on a frame
on_frame : (f : ℕ) (loans : List InLoan) → count_by (λ (loan : Loan). loan.frame == f) (input_loans loans) ≡ times (input_frames loans) f
on_frame f [] = refl
on_frame f (x ∷ loans) = omega (arith, on_frame f loans, sum_by-cons (λ (l : Loan). num (l.frame == f)) (input_loan x) (input_loans loans), sum_by-cons (λ (h : ℕ). num (h == f)) x.frame.0 (input_frames loans))

pub less_by : (f : ℕ) (loans : List InLoan) (c : Counts) (n : ℕ) → times (input_frames loans) f ≡ n → less (input_loans loans) f c ≡ record c { input = c.input - n }
less_by f loans c n e =
    let s : c.strong - loan_times (input_loans loans) kind.Strong f ≡ c.strong = omega (arith, none_strong f loans) in
    let w : c.weak - loan_times (input_loans loans) kind.Weak f ≡ c.weak = omega (arith, none_weak f loans) in
    let i : c.input - loan_times (input_loans loans) kind.Input f ≡ c.input - n = omega (arith, input_times f loans, e) in
    λ j. record c { strong = s j; weak = w j; input = i j }

less_none : (f : ℕ) (loans : List InLoan) (c : Counts) → times (input_frames loans) f ≡ 0 → less (input_loans loans) f c ≡ c
less_none f loans c e = let i : c.input - 0 ≡ c.input = omega arith in less_by f loans c 0 e ∙ (λ j. record c { input = i j })

freed : (o : Owner) (c : Counts) → is_system o ≡ true → is_lent c ≡ false → is_system (let_go o c) ≡ false
freed Free c e l = absurd (cc)
freed (Page p) c e l = absurd (cc)
freed (System t) c e l = ap (λ b. is_system (if b then Nobody else Free)) l
freed (Pool d) c e l = ap (λ b. is_system (if b then Nobody else Free)) l
freed Nobody c e l = absurd (cc)

system_still : (a b : Owner) → system_owner a ≡ system_owner b → is_system b ≡ true → is_system a ≡ true
system_still a b e is = ⊎_elim
    (λ (yes : is_system a ≡ true). yes)
    (λ (no : is_system a ≡ false).
    let free : Free ≡ b = sym (ap (λ c. if c then a else Free) no) ∙ e ∙ ap (λ c. if c then b else Free) is in
    let clash : false ≡ true = ap is_system free ∙ is in absurd (cc))
    (cases_Bool (is_system a))

system_shown : (o : Owner) (c : Counts) (bytes : List ℕ) → (if is_kept o c then bytes else []) ≡ [] → 0 < length bytes → is_system o ≡ false
system_shown Free c bytes e l = refl
system_shown (Page p) c bytes e l = refl
system_shown (System t) c bytes e l = let none = ap length e in absurd (omega (arith, none, l))
system_shown (Pool d) c bytes e l = let none = ap length e in absurd (omega (arith, none, l))
system_shown Nobody c bytes e l = refl

part_left : (x n : ℕ) (a b : List ℕ) → (0 < n → x + n ≤ length a) → part x n (a ++ b) ≡ part x n a
part_left x zero a b h = refl
part_left x (suc n) a b h =
    let l = h (omega arith) in
    ap (take (suc n)) (drop-append-le x a b (omega (arith, l))) ∙ take-append-le (suc n) (drop x a) b (omega (arith, l, length-drop x a))

module _ (old mid : Memory) (o off len few : ℕ) (A B : List InLoan) (sound : IsSound old) (buffers : AreBuffers old.frames (input_frames A ++ input_frames B)) (x : StoresRange old mid o off len few (input_frames A)) where
  abbrev fa : List ℕ
  fa = input_frames A

  abbrev fb : List ℕ
  fb = input_frames B

  -- a frame of the buffer, as it was
  was : (f : ℕ) → 0 < times (fa ++ fb) f → IsBuffer old.frames f
  was f l = let h = times_some (fa ++ fb) f l in subst (IsBuffer old.frames) h.2 (buffers.each h.0 h.1)

  apart : (f : ℕ) → times fa f + times fb f ≤ 1
  apart f = omega (arith, buffers.apart f, times_joined f fa fb)

  in_a : (f : ℕ) → 0 < times fa f → 0 < times (fa ++ fb) f
  in_a f l = omega (arith, l, times_joined f fa fb)

  in_b : (f : ℕ) → 0 < times fb f → 0 < times (fa ++ fb) f
  in_b f l = omega (arith, l, times_joined f fa fb)

  mid_one : (f : ℕ) → 0 < times fb f → counts_at mid.frames f ≡ one_input
  mid_one f l = let none : times fa f ≡ 0 = omega (arith, l, apart f) in x.keeps.counts f none ∙ (was f (in_b f l)).lent

  few_out : (f : ℕ) → times fb f ≤ (counts_at mid.frames f).input
  few_out f = ⊎_elim
      (λ (some : 0 < times fb f). let one = ap (λ (c : Counts). c.input) (mid_one f some) in omega (arith, one, apart f))
      (λ (none : times fb f ≡ 0). omega (arith, none))
      (some_or (times fb f))

  -- the loans of the others are still out
  pub rest_out : AreOut mid.frames (input_loans B)
  rest_out kind.Strong f = omega (arith, none_strong f B)
  rest_out kind.Weak f = omega (arith, none_weak f B)
  rest_out kind.Input f = omega (arith, few_out f, input_times f B)

  module _ (soundly : EndsSoundly) (shows_after : ShowsAfterEnd) (F : FrameTable) (number : length (input_frames A) ≡ span old.frames.page off len) (covers : 0 < len → off % old.frames.page + len ≤ old.frames.page * length (input_frames A)) (shaped : IsShaped F.page F.owners F.counts F.bytes) (owned : AreLoansOwned F.owners F.counts) (ended : Ended (input_loans B) mid.frames F) where
    abbrev new : Memory
    new = record mid { frames = F }

    b_counts : (f : ℕ) → 0 < times fb f → counts_at F f ≡ no_counts
    b_counts f l =
        let one : times fb f ≡ 1 = omega (arith, l, apart f) in
        ended.counts f ∙ less_by f B (counts_at mid.frames f) 1 one ∙ ap (λ (c : Counts). record c { input = c.input - 1 }) (mid_one f l)

    b_system : (f : ℕ) → 0 < times fb f → is_system (owner_at mid.frames f) ≡ true
    b_system f l =
        let none : times fa f ≡ 0 = omega (arith, l, apart f) in
        system_still (owner_at mid.frames f) (owner_at old.frames f) (x.keeps.systems f none) (was f (in_b f l)).own

    b_unowned : (f : ℕ) → 0 < times fb f → is_system (owner_at F f) ≡ false
    b_unowned f l = ap is_system (ended.owners f (subst (λ j. 0 < j) (sym (on_frame f B)) l)) ∙ freed (owner_at mid.frames f) (counts_at F f) (b_system f l) (ap is_lent (b_counts f l))

    other_counts : (f : ℕ) → times fb f ≡ 0 → counts_at F f ≡ counts_at mid.frames f
    other_counts f e = ended.counts f ∙ less_none f B (counts_at mid.frames f) e

    other_owner : (f : ℕ) → times fb f ≡ 0 → owner_at F f ≡ owner_at mid.frames f
    other_owner f e = ended.others f (on_frame f B ∙ e)

    can_end : CanEnd (input_loans B) mid.frames F
    can_end = record {
      wired = λ f l. ⊎_elim
          (λ (some : 0 < times fb f). let none = ap (λ (c : Counts). c.wires) (b_counts f some) in absurd (omega (arith, none, l)))
          (λ (none : times fb f ≡ 0). subst (λ (c : Counts). is_held c ≡ true) (sym (other_counts f none)) (x.sound.wired f (subst (λ (c : Counts). 0 < c.wires) (other_counts f none) l)))
          (some_or (times fb f));
      buffers = λ f l is. ap is_lent (b_counts f (subst (λ j. 0 < j) (on_frame f B) l));
    }

    some_page : 0 < old.frames.page
    some_page = let size = sound.shaped.size in grind (arith, rules, size)

    a_unowned : (f : ℕ) → 0 < times fa f → is_system (owner_at F f) ≡ false
    a_unowned f l =
        let none : times fb f ≡ 0 = omega (arith, l, apart f) in
        let zeros : ℕ → List ℕ = λ s. replicate old.frames.page 0 in
        let gone = (x.shows zeros (λ s. length-replicate old.frames.page 0)).gone f l in
        let there : f < length mid.frames.bytes = omega (arith, (was f (in_a f l)).there, x.keeps.number, x.sound.shaped.filled) in
        let size : length (bytes_at mid.frames f) ≡ mid.frames.page = x.sound.shaped.paged f [] there in
        ap is_system (other_owner f none) ∙ system_shown (owner_at mid.frames f) (counts_at mid.frames f) (bytes_at mid.frames f) gone (omega (arith, size, x.keeps.page, some_page))

    keeps : KeepsBesides (fa ++ fb) old new
    keeps = record {
      entry_held = x.keeps.entry_held;
      counts = λ f e. other_counts f (omega (arith, e, times_joined f fa fb)) ∙ x.keeps.counts f (omega (arith, e, times_joined f fa fb));
      lent = λ f e l. subst (λ (z : Owner). (z ≡ owner_at old.frames f) ⊎ ((is_page (owner_at old.frames f) ≡ true) × (z ≡ Nobody))) (sym (other_owner f (omega (arith, e, times_joined f fa fb)))) (x.keeps.lent f (omega (arith, e, times_joined f fa fb)) l);
      systems = λ f e. ap system_owner (other_owner f (omega (arith, e, times_joined f fa fb))) ∙ x.keeps.systems f (omega (arith, e, times_joined f fa fb));
      entries = x.keeps.entries;
      number = ended.size ∙ x.keeps.number;
      page = ended.page ∙ x.keeps.page;
      slots = x.keeps.slots;
      most = x.keeps.most;
    }

    spoken_same : is_in_range o (off / old.frames.page) (length fa) ≡ is_in_range o (off / old.frames.page) (span old.frames.page off len)
    spoken_same = ap (is_in_range o (off / old.frames.page)) number

    mid_touches : Touches (is_in_range o (off / old.frames.page) (span old.frames.page off len)) old mid
    mid_touches = subst (λ s. Touches s old mid) spoken_same x.touches

    touches : Touches (is_in_range o (off / old.frames.page) (span old.frames.page off len)) old new
    touches = record {
      entries = mid_touches.entries;
      pages = mid_touches.pages;
      outside = λ p out. let y = mid_touches.outside p out in record { there = y.there; named = y.named };
      counts = λ p f out place.
          let owner : owner_at old.frames f.0 ≡ Page p = sound.placed.in_frame p f place in
          let none : times fb f.0 ≡ 0 = ⊎_elim
          (λ (some : 0 < times fb f.0). let is = (was f.0 (in_b f.0 some)).own in let clash : false ≡ true = sym (ap is_system owner) ∙ is in absurd (cc))
          (λ (none : times fb f.0 ≡ 0). none)
          (some_or (times fb f.0)) in
          other_counts f.0 none ∙ mid_touches.counts p f out place;
    }

    shows : (slots : ℕ → List ℕ) → ((s : ℕ) → length (slots s) ≡ old.frames.page) → ShowsBuffer old new o off len (fa ++ fb) slots
    shows slots paged =
        let y = x.shows slots paged in
        let after = shows_after mid F (input_loans B) ended in
        let entries = after.entries slots in
        let long : length (joined old.frames.bytes fa) ≡ old.frames.page * length fa = sizes fa (λ j l. let b = buffers_a j l in sound.shaped.paged (get_or fa j 0) [] (omega (arith, b.there, sound.shaped.filled))) in
        let bytes : range_bytes old.frames (fa ++ fb) (off % old.frames.page) len ≡ range_bytes old.frames fa (off % old.frames.page) len = ap (part (off % old.frames.page) len) (bytes_joined old.frames.bytes fa fb) ∙ part_left (off % old.frames.page) len (joined old.frames.bytes fa) (joined old.frames.bytes fb) (λ l. let c = covers l in omega (arith, c, long)) in
        record {
          range = λ pages within.
              ap (λ (e : ℕ → ℕ → List ℕ). entries_bytes (record { entry_bytes = e; kept_bytes = (seen new slots).kept_bytes }) o 0 pages) entries
              ∙ y.range pages (omega (arith, within, number))
              ∙ ap (λ l. overlaid off l (entries_bytes (seen old slots) o 0 pages)) (sym bytes);
          objects = λ a b ne. ap (λ (e : ℕ → ℕ → List ℕ). e a b) entries ∙ y.objects a b ne;
          others = λ f e.
              let nb : times fb f ≡ 0 = omega (arith, e, times_joined f fa fb) in
              (λ i. if is_kept (other_owner f nb i) (other_counts f nb i) then get_or (ended.bytes i) f [] else []) ∙ y.others f (omega (arith, e, times_joined f fa fb));
        }
      where
        buffers_a : (j : ℕ) → j < length fa → IsBuffer old.frames (get_or fa j 0)
        buffers_a j l = was (get_or fa j 0) (in_a (get_or fa j 0) (times_at fa j l))

        sizes : (frames : List ℕ) → ((j : ℕ) → j < length frames → length (bytes_at old.frames (get_or frames j 0)) ≡ old.frames.page) → length (joined old.frames.bytes frames) ≡ old.frames.page * length frames
        sizes [] h = omega arith
        sizes (f ∷ frames) h =
            let one = h 0 (omega arith) in
            let more = sizes frames (λ j l. h (suc j) (omega (arith, l))) in
            let all : length (bytes_at old.frames f ++ joined old.frames.bytes frames) ≡ length (bytes_at old.frames f) + length (joined old.frames.bytes frames) = length-append (bytes_at old.frames f) (joined old.frames.bytes frames) in
            grind (arith, one, more, all)

    pub buffer_stored : MetersRise (2 ^ 20) old.frames F → StoresBuffer old new o off len (fa ++ fb)
    buffer_stored rises = record {
      sound = soundly mid F (input_loans B) x.sound shaped owned ended can_end;
      shows = shows;
      ended = λ f l. ⊎_elim
          (λ (some : 0 < times fb f). b_counts f some)
          (λ (none : times fb f ≡ 0). other_counts f none ∙ x.ended f (omega (arith, l, none, times_joined f fa fb)))
          (some_or (times fb f));
      unowned = λ f l. ⊎_elim
          (λ (some : 0 < times fb f). b_unowned f some)
          (λ (none : times fb f ≡ 0). a_unowned f (omega (arith, l, none, times_joined f fa fb)))
          (some_or (times fb f));
      keeps = keeps;
      touches = touches;
      rises = rises;
    }

taken_all : {X : Type 0} (n : ℕ) (xs : List X) → length xs ≤ n → take n xs ≡ xs
taken_all zero [] l = refl
taken_all zero (x ∷ xs) l = absurd (omega (arith, l))
taken_all (suc n) [] l = refl
taken_all (suc n) (x ∷ xs) l = ap (λ ys. x ∷ ys) (taken_all n xs (omega (arith, l)))

split_whole : {X : Type 0} (n : ℕ) (xs : List X) → take n xs ++ drop n xs ≡ xs
split_whole zero xs = refl
split_whole (suc n) [] = refl
split_whole (suc n) (x ∷ xs) = ap (λ ys. x ∷ ys) (split_whole n xs)

first_at : (a b : List ℕ) (j : ℕ) → j < length a → get_or (a ++ b) j 0 ≡ get_or a j 0
first_at [] b j l = absurd (omega (arith, l))
first_at (x ∷ a) b zero l = refl
first_at (x ∷ a) b (suc j) l = first_at a b j (omega (arith, l))

-- the first frames of a buffer are one
buffers_first : (t : FrameTable) (a b : List ℕ) → AreBuffers t (a ++ b) → AreBuffers t a
buffers_first t a b h = record {
  each = λ j l. let long = length-append a b in subst (IsBuffer t) (first_at a b j l) (h.each j (omega (arith, l, long)));
  apart = λ f. omega (arith, h.apart f, times_joined f a b);
}

pub frames_split : (n : ℕ) (loans : List InLoan) → input_frames loans ≡ input_frames (take n loans) ++ input_frames (drop n loans)
frames_split n loans = ap input_frames (sym (split_whole n loans)) ∙ frames_joined (take n loans) (drop n loans)

pub buffers_taken : (t : FrameTable) (n : ℕ) (loans : List InLoan) → AreBuffers t (input_frames loans) → AreBuffers t (input_frames (take n loans))
buffers_taken t n loans h = buffers_first t (input_frames (take n loans)) (input_frames (drop n loans)) (subst (AreBuffers t) (frames_split n loans) h)

pub rest_taken : (n : ℕ) (loans : List InLoan) → take (length loans - n) (drop n loans) ≡ drop n loans
rest_taken n loans = taken_all (length loans - n) (drop n loans) (omega (arith, length-drop n loans))

pub frames_taken : (n : ℕ) (loans : List InLoan) → n ≤ length (input_frames loans) → length (input_frames (take n loans)) ≡ n
frames_taken n loans l =
    let all : length (input_frames loans) ≡ length loans = length-map loans (λ (x : InLoan). x.frame.0) in
    let some : length (input_frames (take n loans)) ≡ length (take n loans) = length-map (take n loans) (λ (x : InLoan). x.frame.0) in
    omega (arith, all, some, length-take n loans, l)
