-- The buffers of a pool.
use Rattle.std.proofs.Common.{◌≡◌, ◌≢◌, ℕ, zero, suc, ◌+◌, ◌*◌, ◌<◌, ◌≤◌, Bool, true, false, List, [], ◌∷◌, ◌++◌, length, take, set, get_or, refl, ap, sym, ◌∙◌, subst, arith, rules, inl, inr, ◌⊎◌, length-set}
use Rattle.std.specs.Prelude.{◌==◌, Some, None, Option, is_some, position, count_by, replicate, if◌then◌else◌}
use Rattle.std.specs.List.{list_any}
use Rattle.std.proofs.lemmas.List.{length-replicate, get_or-set_same, get_or-set_other, take_all}
use Rattle.std.proofs.lemmas.List.Sums.{sum_by-cons}
use Rattle.std.proofs.lemmas.List.Quantifiers.{position-Some}
use Rattle.std.proofs.Math.Seq.{take-suc}
use Rattle.genie_base.specs.Lemmas.Places.{same_or, num, count_by-set, count_by-push}
use Rattle.genie_base.specs.Lemmas.Searches.{position_any}
use Rattle.genie_frame.specs.declared.frame.InLoan.{InLoan}
use Rattle.genie_frame.specs.declared.frame.Owner.{Owner}
use Rattle.genie_frame.specs.declared.frame.Owner.TheVariants as owner
use Rattle.genie_frame.specs.declared.frame.Counts.{Counts}
use Rattle.genie_frame.specs.FrameTable.{FrameTable, owner_at, counts_at, no_counts, bytes_at, is_system, is_held, is_lent, set_owner, IsShaped, AreLoansOwned}
use Rattle.genie_frame.specs.Frames.{loan_ended, one_input_less, unowned, left_to}
use Rattle.genie_object.specs.declared.memory.Memory.{Memory}
use Rattle.genie_object.specs.Objects.{entry_at}
use Rattle.genie_object.specs.Memory.{is_kept, page_bytes}
use Rattle.genie_object.specs.Sound.{IsSound, strong_at}
use Rattle.genie_plan.specs.Plans.{times, input_frames, AreApart}
use Rattle.genie_plan.specs.Lemmas.Ranges.{times-cons, other_num, frame_at, frames_count}
use Rattle.genie_plan.specs.Lemmas.Ending.{some_or}
use Rattle.genie_input.specs.declared.pool.BufferState.{BufferState}
use Rattle.genie_input.specs.declared.pool.BufferState.TheVariants.{Free, Filling, Held}
use Rattle.genie_input.specs.Buffers.{one_input}
use Rattle.genie_input.specs.Pools.{IsPool, ArePooled, AreFreed, ShowsFreed, is_filling, is_free}

-- none passes a test where the search for one finds none
count_none : {X : Type 0} (p : X → Bool) (xs : List X) → list_any p xs ≡ false → count_by p xs ≡ 0
count_none p [] e = refl
count_none p (x ∷ xs) e = elim (p x) as (λ b. p x ≡ b → count_by p (x ∷ xs) ≡ 0) [
  | true ↦ λ h. let bad : true ≡ false = sym (rw h refl) ∙ e in cc
  | false ↦ λ h. let rest : list_any p xs ≡ false = rw h at e in omega (arith, sum_by-cons (λ y. num (p y)) x xs, ap num h, count_none p xs rest)
] refl

pub none_found : {X : Type 0} (p : X → Bool) (xs : List X) → position p xs ≡ None → count_by p xs ≡ 0
none_found p xs e = count_none p xs (elim (list_any p xs) as (λ b. list_any p xs ≡ b → list_any p xs ≡ false) [
  | true ↦ λ h. let bad : false ≡ true = sym (ap is_some e) ∙ position_any p xs h in cc
  | false ↦ λ h. h
] refl)

num_small : (b : Bool) → num b ≤ 1
num_small true = omega arith
num_small false = omega arith

-- the buffers with one of them in another state
set_size : (old new : List BufferState) (loans : List InLoan) (at : ℕ) (state : BufferState) → IsPool old loans → new ≡ set old at state → count_by is_filling new ≤ 1 → IsPool new loans
set_size old new loans at state s e one =
    let size : length new ≡ length old = ap length e ∙ length-set old at state in
    record { most = omega (arith, size, s.most); size = omega (arith, s.size, size); one = one }

pub pool_begun : (old new : List BufferState) (loans : List InLoan) (at : ℕ) → IsPool old loans → position is_filling old ≡ None → position is_free old ≡ Some at → new ≡ set old at Filling → IsPool new loans
pool_begun old new loans at s none first e =
    let l = (position-Some is_free old at Free first).0 in
    set_size old new loans at Filling s e (omega (arith, ap (count_by is_filling) e, count_by-set is_filling old at Filling Free l, none_found is_filling old none))

pub pool_quiet : (old new : List BufferState) (loans : List InLoan) (at : ℕ) (state : BufferState) → IsPool old loans → at < length old → is_filling state ≡ false → new ≡ set old at state → IsPool new loans
pool_quiet old new loans at state s l quiet e = set_size old new loans at state s e (omega (arith, ap (count_by is_filling) e, count_by-set is_filling old at state Free l, ap num quiet, s.one))

pub place_of : (p : BufferState → Bool) (xs : List BufferState) (at : ℕ) → position p xs ≡ Some at → at < length xs
place_of p xs at e = (position-Some p xs at Free e).0

-- free frames, one after the other
times-push : (frames : List ℕ) (f g : ℕ) → times (frames ++ f ∷ []) g ≡ times frames g + num (f == g)
times-push frames f g = count_by-push (λ x. x == g) frames f

times-take : (frames : List ℕ) (k g : ℕ) → times (take k frames) g ≤ times frames g
times-take [] zero g = omega arith
times-take [] (suc k) g = omega arith
times-take (f ∷ frames) zero g = omega arith
times-take (f ∷ frames) (suc k) g = omega (arith, times-cons f g frames, times-cons f g (take k frames), times-take frames k g)

same_num : (f g : ℕ) → f ≡ g → num (f == g) ≡ 1
same_num f g e = let h : (f == g) ≡ true = grind (arith, rules) in ap num h

times-next : (frames : List ℕ) (k g : ℕ) → k < length frames → times (take (k + 1) frames) g ≡ times (take k frames) g + num (get_or frames k 0 == g)
times-next frames k g l = let n : k + 1 ≡ suc k = omega arith in ap (λ j. times (take j frames) g) n ∙ ap (λ xs. times xs g) (take-suc frames k 0 l) ∙ times-push (take k frames) (get_or frames k 0) g

pub apart_before : (frames : List ℕ) (k : ℕ) → AreApart frames → k < length frames → times (take k frames) (get_or frames k 0) ≡ 0
apart_before frames k a l = let f = get_or frames k 0 in omega (arith, times-next frames k f l, same_num f f refl, times-take frames (k + 1) f, a f)

pub freed_none : (t : FrameTable) → AreFreed [] t t
freed_none t = record { owned = λ f h. absurd (omega (arith, h)); none = λ f h. absurd (omega (arith, h)); others = λ f z. refl; counts = λ f z. refl; page = refl; bytes = refl; meters = refl; landed = refl; size = refl }

pub freed_more : (frames : List ℕ) (k : ℕ) (old now new : FrameTable) → AreApart frames → k < length frames → AreFreed (take k frames) old now → AreFreed (get_or frames k 0 ∷ []) now new → AreFreed (take (k + 1) frames) old new
freed_more frames k old now new a l x y =
    let f = get_or frames k 0 in
    let one = (λ (g : ℕ). times-cons f g []) in
    let next = (λ (g : ℕ). times-next frames k g l) in
    record {
      owned = λ g h. elim (some_or (times (f ∷ []) g)) [ inl p ↦ y.owned g p | inr z ↦ y.others g z ∙ x.owned g (omega (arith, h, next g, one g, z)) ];
      none = λ g h. elim (some_or (times (f ∷ []) g)) [ inl p ↦ y.none g p | inr z ↦ y.counts g z ∙ x.none g (omega (arith, h, next g, one g, z)) ];
      others = λ g z. y.others g (omega (arith, z, next g, one g)) ∙ x.others g (omega (arith, z, next g));
      counts = λ g z. y.counts g (omega (arith, z, next g, one g)) ∙ x.counts g (omega (arith, z, next g));
      page = y.page ∙ x.page;
      bytes = y.bytes ∙ x.bytes;
      meters = y.meters ∙ x.meters;
      landed = y.landed ∙ x.landed;
      size = y.size ∙ x.size;
    }

-- what the next loan asks for
pub pooled_next : (t now : FrameTable) (dev k : ℕ) (loans : List InLoan) (d : InLoan) → ArePooled t dev (input_frames loans) → k < length loans → AreFreed (take k (input_frames loans)) t now → (owner_at now (get_or loans k d).frame.0 ≡ owner.Pool dev) × (counts_at now (get_or loans k d).frame.0 ≡ one_input)
pooled_next t now dev k loans d p l x =
    let frames = input_frames loans in
    let l' : k < length frames = omega (arith, frames_count loans, l) in
    let f = get_or frames k 0 in
    let e = frame_at loans k d l in
    let z = apart_before frames k p.apart l' in
    let h : 0 < times frames f = omega (arith, times-next frames k f l', same_num f f refl, times-take frames (k + 1) f) in
    (ap (owner_at now) e ∙ x.others f z ∙ p.owned f h, ap (counts_at now) e ∙ x.counts f z ∙ p.counts f h)

there_by : (owners : List Owner) (f : ℕ) → is_system (get_or owners f owner.Free) ≡ true → f < length owners
there_by [] f e = cc
there_by (o ∷ owners) zero e = omega arith
there_by (o ∷ owners) (suc f) e = let l : f < length owners = there_by owners f e in omega arith

pub system_there : (t : FrameTable) (f : ℕ) → is_system (owner_at t f) ≡ true → f < length t.owners
system_there t f e = there_by t.owners f e

not_here : (f g : ℕ) → times (f ∷ []) g ≡ 0 → g ≢ f
not_here f g z e = omega (arith, times-cons f g [], z, same_num f g (sym e))

is_here : (f g : ℕ) → 0 < times (f ∷ []) g → g ≡ f
is_here f g h = elim (same_or g f) [ inl e ↦ e | inr n ↦ absurd (omega (arith, h, times-cons f g [], other_num f g (λ e. n (sym e)))) ]

-- one loan has ended, and its frame was disowned
pub freed_one : (t u v : FrameTable) (f : ℕ) → IsShaped t.page t.owners t.counts t.bytes → is_system (owner_at t f) ≡ true → counts_at t f ≡ one_input → u ≡ loan_ended t f (one_input_less (counts_at t f)) → v ≡ set_owner u f (unowned (counts_at u f)) → AreFreed (f ∷ []) t v
freed_one t u v f s system input e d =
    let l = system_there t f system in
    let size : length u.owners ≡ length t.owners = ap (λ (x : FrameTable). length x.owners) e ∙ length-set t.owners f _ in
    let here : counts_at u f ≡ no_counts = ap (λ x. counts_at x f) e ∙ get_or-set_same t.counts f _ no_counts (omega (arith, s.counted, l)) ∙ ap one_input_less input in
    record {
      owned = λ g h. ap (owner_at v) (is_here f g h) ∙ ap (λ x. owner_at x f) d ∙ get_or-set_same u.owners f _ owner.Free (omega (arith, size, l)) ∙ ap unowned here;
      none = λ g h. ap (counts_at v) (is_here f g h) ∙ ap (λ x. counts_at x f) d ∙ here;
      others = λ g z. let n = not_here f g z in ap (λ x. owner_at x g) d ∙ get_or-set_other u.owners f g _ owner.Free n ∙ ap (λ x. owner_at x g) e ∙ get_or-set_other t.owners f g _ owner.Free n;
      counts = λ g z. ap (λ x. counts_at x g) d ∙ ap (λ x. counts_at x g) e ∙ get_or-set_other t.counts f g _ no_counts (not_here f g z);
      page = ap (λ (x : FrameTable). x.page) d ∙ ap (λ (x : FrameTable). x.page) e;
      bytes = ap (λ (x : FrameTable). x.bytes) d ∙ ap (λ (x : FrameTable). x.bytes) e;
      meters = ap (λ (x : FrameTable). x.meters) d ∙ ap (λ (x : FrameTable). x.meters) e;
      landed = ap (λ (x : FrameTable). x.landed) d ∙ ap (λ (x : FrameTable). x.landed) e;
      size = ap (λ (x : FrameTable). length x.owners) d ∙ length-set u.owners f _ ∙ size;
    }

pool_page : (o : Owner) (dev p : ℕ) → o ≡ owner.Pool dev → o ≡ owner.Page p → ⊥
pool_page o dev p e h = let bad : owner.Pool dev ≡ owner.Page p = sym e ∙ h in cc

-- a memory in which the frames of a pool were freed
module _ (m : Memory) (t : FrameTable) (dev : ℕ) (frames : List ℕ) (s : IsSound m) (p : ArePooled m.frames dev frames) (x : AreFreed frames m.frames t) where
  page_still : (f q : ℕ) → owner_at m.frames f ≡ owner.Page q → owner_at t f ≡ owner.Page q
  page_still f q e = elim (some_or (times frames f)) [ inl h ↦ absurd (pool_page (owner_at m.frames f) dev q (p.owned f h) e) | inr z ↦ x.others f z ∙ e ]

  page_was : (f q : ℕ) → owner_at t f ≡ owner.Page q → (times frames f ≡ 0) × (owner_at m.frames f ≡ owner.Page q)
  page_was f q e = elim (some_or (times frames f)) [ inl h ↦ let bad : owner.Free ≡ owner.Page q = sym (x.owned f h) ∙ e in cc | inr z ↦ (z, sym (x.others f z) ∙ e) ]

  strong_same : (f : ℕ) → strong_at t.counts f ≡ strong_at m.frames.counts f
  strong_same f = elim (some_or (times frames f)) [ inl h ↦ ap (λ (c : Counts). c.strong) (x.none f h) ∙ sym (ap (λ (c : Counts). c.strong) (p.counts f h)) | inr z ↦ ap (λ (c : Counts). c.strong) (x.counts f z) ]

  pub freed_sound : IsShaped t.page t.owners t.counts t.bytes → AreLoansOwned t.owners t.counts → IsSound (record m { frames = t })
  freed_sound shaped lent = record {
    shaped = shaped;
    placed = record { in_frame = λ q f e. page_still f.0 q (s.placed.in_frame q f e); of_page = λ f q e. s.placed.of_page f q (page_was f.0 q e).1 };
    lent = lent;
    held = record {
      alone = λ f q e h. let o = page_was f q e in s.held.alone f q o.1 (sym (ap is_held (x.counts f o.0)) ∙ h);
      unlent = λ f e h. elim (some_or (times frames f)) [
        | inl w ↦ ap (λ (c : Counts). c.strong) (x.none f w)
        | inr z ↦ strong_same f ∙ s.held.unlent f (sym (ap is_system (x.others f z)) ∙ e) (sym (ap is_held (x.counts f z)) ∙ h)
      ];
    };
    wired = λ f w. elim (some_or (times frames f)) [
      | inl h ↦ absurd (omega (arith, w, ap (λ (c : Counts). c.wires) (x.none f h)))
      | inr z ↦ ap is_held (x.counts f z) ∙ s.wired f (omega (arith, w, ap (λ (c : Counts). c.wires) (x.counts f z)))
    ];
    slotted = s.slotted;
    shared = s.shared;
    guarded = record {
      readable = s.guarded.readable;
      writable = λ o i w. let h = s.guarded.writable o i w in record { number = h.number; frame = h.frame; is_page = h.is_page; is_place = h.is_place; alone = h.alone; unlent = strong_same h.frame.0 ∙ h.unlent };
    };
  }

  pub freed_shows : ShowsFreed frames m (record m { frames = t })
  freed_shows = record {
    entries = λ slots k a b. let u : FrameTable = record { page = x.page k; owners = t.owners; counts = t.counts; bytes = x.bytes k; meters = t.meters; landed = t.landed } in page_bytes u m.pages.pages slots (entry_at m.objects a b).page;
    others = λ slots f z k. if is_kept (x.others f z k) (x.counts f z k) then get_or (x.bytes k) f [] else [];
    gone = λ slots f h. ap (λ o. if is_kept o (counts_at t f) then bytes_at t f else []) (x.owned f h);
  }

pub freed_next : (t now new : FrameTable) (dev k : ℕ) (loans : List InLoan) (d : InLoan) → ArePooled t dev (input_frames loans) → k < length loans → AreFreed (take k (input_frames loans)) t now → AreFreed ((get_or loans k d).frame.0 ∷ []) now new → AreFreed (take (k + 1) (input_frames loans)) t new
freed_next t now new dev k loans d p l x y = freed_more (input_frames loans) k t now new p.apart (omega (arith, frames_count loans, l)) x (subst (λ f. AreFreed (f ∷ []) now new) (frame_at loans k d l) y)

pub freed_all : (t now : FrameTable) (k : ℕ) (loans : List InLoan) → length loans ≤ k → AreFreed (take k (input_frames loans)) t now → AreFreed (input_frames loans) t now
freed_all t now k loans l x = subst (λ fs. AreFreed fs t now) (take_all k (input_frames loans) (omega (arith, frames_count loans, l))) x
