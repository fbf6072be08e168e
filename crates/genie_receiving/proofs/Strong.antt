-- Bytes that land in frames of a transfer's own.
use Rattle.std.proofs.Common.{◌≡◌, ℕ, ◌+◌, ◌-◌, ◌*◌, ◌<◌, ◌≤◌, ◌⊎◌, zero, suc, Bool, true, false, not, cond, List, [], ◌∷◌, refl, sym, ap, subst, arith, ◌∙◌, ⊎_elim, length, map, take, drop, get_or, inl, inr, eq-eqb, length-take, length-drop, length-append}
use Rattle.std.specs.Prelude.{Option, Some, None, IfSome, find, filter, nat_le, nat_lt, slice_index, ◌==◌, ◌&&◌, ◌||◌, if◌then◌else◌}
use Rattle.std.specs.List.{list_any}
use Rattle.std.proofs.lemmas.Bool.{or_parts, or_right}
use Rattle.genie_base.specs.Bytes.{overlaid, part}
use Rattle.genie_base.specs.Lemmas.Overlaid.{overlaid-cut}
use Rattle.genie_base.specs.Lemmas.Places.{any_default, num}
use Rattle.genie_orderly.specs.Lemmas.AcceptedEvents.{page_some}
use Rattle.genie_base.specs.declared.semantics.Direction.TheVariants.{Inward}
use Rattle.genie_frame.specs.declared.frame.Owner.TheVariants.{Free, Page, System, Pool}
use Rattle.genie_frame.specs.FrameTable.{owner_at, counts_at, bytes_at}
use Rattle.genie_input.specs.Pools.{PoolState}
use Rattle.genie_object.specs.declared.memory.Memory.{Memory}
use Rattle.genie_object.specs.Memory.{seen, is_kept}
use Rattle.genie_object.specs.Sound.{IsSound}
use Rattle.genie_object.specs.Lemmas.Lookup.{in_range}
use Rattle.genie_plan.specs.declared.plan.InPlan.{InPlan}
use Rattle.genie_plan.specs.Landings.{Lands}
use Rattle.genie_plan.specs.Plans.{input_frames, times}
use Rattle.genie_plan.specs.Lemmas.Laid.{part-overlaid}
use Rattle.genie_plan.specs.Lemmas.Landings.{in_frames, entry_kept, frame_kept, page_in, times_some}
use Rattle.genie_plan.specs.Lemmas.Ranges.{times_at, times-cons}
use Rattle.genie_model.specs.Receiving.{landed}
use Rattle.genie_model.specs.Tables.{entry}
use Rattle.genie_model.specs.Lemmas.Lists.{Has, find_has, has_at, has_any, any_has, none_has, all_has}
use Rattle.genie_kernel.specs.declared.kernel.Kernel.{Kernel}
use Rattle.genie_kernel.specs.declared.transfer.Loans.{Loans}
use Rattle.genie_kernel.specs.declared.transfer.Loans.TheVariants as loans
use Rattle.genie_kernel.specs.declared.transfer.Transfer.{Transfer}
use Rattle.genie_kernel.specs.Calls.{begins_at, first_waiting, is_strong_call, number_of, is_named}
use Rattle.genie_kernel.specs.Counted.{pool_on}
use Rattle.genie_kernel.specs.Loans.{frames_of, first_of, has_frame, bytes_in_frames}
use Rattle.genie_kernel.specs.Orphans.{covers, is_orphan, lent_bytes, byte_under, orphan_byte}
use Rattle.genie_kernel.specs.Owners.{AreOwned, holders}
use Rattle.genie_kernel.specs.Planned.{AreItsOwn, LendsRange}
use Rattle.genie_kernel.specs.Regions.{owned_regions, processes_view}
use Rattle.genie_kernel.specs.Same.{PoolsShowSame, ShowSame}
use Rattle.genie_kernel.specs.Steps.{bytes_over}
use Rattle.genie_kernel.specs.Transfers.{input_bytes, payload_of}
use Rattle.genie_kernel.specs.View.{Bytes, state_of}
use Rattle.genie_receiving.specs.Lemmas.Payloads.{ShowsLanded, seen_transfer}
use Rattle.genie_receiving.specs.Lemmas.Ready.{span_covers}
use Rattle.genie_receiving.specs.Lemmas.Shown.{frames_same, payload_shown, orphans_shown, ShowsBeside, state_beside}

-- the only one among these with a frame
one_holder : (ts : List Transfer) (f n : ℕ) (t u : Transfer) → holders ts f ≡ n ∷ [] → Has t ts → has_frame f t ≡ true → Has u ts → has_frame f u ≡ true → u ≡ t
one_holder [] f n t u e a b c d = absurd a
one_holder (x ∷ ts) f n t u e a b c d = elim (has_frame f x) as (λ h. has_frame f x ≡ h → map number_of (cond h (x ∷ filter (has_frame f) ts) (filter (has_frame f) ts)) ≡ n ∷ [] → u ≡ t) [
  | true ↦ λ is held.
      let rest : map number_of (filter (has_frame f) ts) ≡ [] = cc in
      first a c (λ (i : Has t ts). none_left ts t i b rest) (λ (i : Has u ts). none_left ts u i d rest)
  | false ↦ λ is held. one_holder ts f n t u held (later t a b is) b (later u c d is) d
] refl e
  where
    none_left : (xs : List Transfer) (y : Transfer) → Has y xs → has_frame f y ≡ true → map number_of (filter (has_frame f) xs) ≡ [] → ⊥
    none_left [] y i h g = i
    none_left (z ∷ xs) y i h g = elim (has_frame f z) as (λ q. has_frame f z ≡ q → map number_of (cond q (z ∷ filter (has_frame f) xs) (filter (has_frame f) xs)) ≡ [] → ⊥) [
      | true ↦ λ is g2. absurd (cc)
      | false ↦ λ is g2. ⊎_elim (λ (s : z ≡ y). let clash : false ≡ true = sym is ∙ ap (has_frame f) s ∙ h in absurd (cc)) (λ (j : Has y xs). none_left xs y j h g2) i
    ] refl g

    first : (x ≡ t) ⊎ Has t ts → (x ≡ u) ⊎ Has u ts → (Has t ts → ⊥) → (Has u ts → ⊥) → u ≡ t
    first (inl p) (inl q) g h = sym q ∙ p
    first (inl p) (inr q) g h = absurd (h q)
    first (inr p) q g h = absurd (g p)

    later : (y : Transfer) → (x ≡ y) ⊎ Has y ts → has_frame f y ≡ true → has_frame f x ≡ false → Has y ts
    later y (inl p) h g = let clash : false ≡ true = sym g ∙ ap (has_frame f) p ∙ h in absurd (cc)
    later y (inr p) h g = p

pub none_or : (i : ℕ) → (i ≡ 0) ⊎ (0 < i)
none_or zero = inl refl
none_or (suc i) = inr (omega arith)

take_before : (n x : ℕ) (bytes l : List ℕ) → n ≤ x → take n (overlaid x bytes l) ≡ take n l
take_before zero x bytes l h = refl
take_before (suc n) x bytes [] h = refl
take_before (suc n) zero bytes (y ∷ l) h = absurd (omega (arith, h))
take_before (suc n) (suc x) bytes (y ∷ l) h = ap (λ z. y ∷ z) (take_before n x bytes l (omega (arith, h)))

pub weak_covers : (n y : ℕ) (u : Transfer) → covers n y u ≡ true → is_strong_call u ≡ false
weak_covers n y u e = elim (is_strong_call u) as (λ s. is_strong_call u ≡ s → s ≡ false) [
  | true ↦ λ is. let no_cover : covers n y u ≡ false = ap (λ s. not s && is_named u.region n && nat_le u.offset y && nat_lt y (u.offset + u.len)) is in absurd (cc)
  | false ↦ λ is. refl
] refl

-- a frame that is not among these
times_none : (frames : List ℕ) (f : ℕ) → list_any (λ g. g == f) frames ≡ false → times frames f ≡ 0
times_none [] f e = refl
times_none (g ∷ frames) f e =
    let both = or_parts (g == f) (list_any (λ h. h == f) frames) e in
    let first : num (g == f) ≡ 0 = ap num both.0 in
    omega (arith, times-cons g f frames, first, times_none frames f both.1)

pub any_at : (frames : List ℕ) (j : ℕ) → j < length frames → list_any (λ g. g == get_or frames j 0) frames ≡ true
any_at [] j l = absurd (omega (arith, l))
any_at (f ∷ frames) zero l = ap (λ b. b || list_any (λ g. g == f) frames) (eq-eqb f f refl)
any_at (f ∷ frames) (suc j) l = or_right (f == get_or frames j 0) (list_any (λ g. g == get_or frames j 0) frames) (any_at frames j (omega (arith, l)))

-- the length of a range of full frames
pub frames_length : (s : ℕ → List ℕ) (page : ℕ) (frames : List ℕ) → ((j : ℕ) → j < length frames → length (s (get_or frames j 0)) ≡ page) → length (bytes_in_frames s frames) ≡ page * length frames
frames_length s page [] h = omega arith
frames_length s page (f ∷ frames) h =
    let here = h 0 (omega arith) in
    let later = frames_length s page frames (λ j l. h (suc j) (omega (arith, l))) in
    let all = length-append (s f) (bytes_in_frames s frames) in
    let more : page * suc (length frames) ≡ page + page * length frames = omega arith in
    omega (arith, here, later, all, more)

pub part_length : (first len : ℕ) (l : List ℕ) → (0 < len → first + len ≤ length l) → length (part first len l) ≡ len
part_length first zero l h = omega (arith, length-take 0 (drop first l))
part_length first (suc len) l h = let fits = h (omega arith) in omega (arith, fits, length-take (suc len) (drop first l), length-drop first l)

-- the frames of a transfer are its own, of which its buffer has so many bytes
pub record HasOwnFrames (k : Kernel) (t : Transfer) (p : InPlan) : Type 0 where
  pub sound : IsSound k.memory
  pub page : k.memory.frames.page ≡ k.config.page
  pub owned : AreOwned k.memory.frames.owners k.transfers k.pools
  pub pends : Has t k.transfers
  pub strong : is_strong_call t ≡ true
  pub inward : t.dir ≡ Inward
  pub unbuffered : t.buffer ≡ None
  pub is : t.loans ≡ loans.Inward p
  pub range : LendsRange k.config.page (begins_at t) t.len (input_frames p.loans.items) p.first p.len
  pub own : AreItsOwn k.memory.frames.owners (number_of t) (input_frames p.loans.items)

module _ (k : Kernel) (t : Transfer) (p : InPlan) (m : Memory) (x : ℕ) (bytes : List ℕ) (h : HasOwnFrames k t p) (stored : t.stored ≤ x) (lands : Lands (input_frames p.loans.items) p.first p.len x bytes k.memory m) (slots rests sents : ℕ → List ℕ) where
  abbrev frames : List ℕ
  frames = input_frames p.loans.items

  abbrev old : ℕ → List ℕ
  old = (seen k.memory slots).kept_bytes

  abbrev new : ℕ → List ℕ
  new = (seen m slots).kept_bytes

  abbrev b : Bytes
  b = bytes_over k.memory slots rests sents

  abbrev c : Bytes
  c = bytes_over m slots rests sents

  -- a frame of its own is the system's
  system_at : (j : ℕ) → j < length frames → owner_at k.memory.frames (get_or frames j 0) ≡ System (number_of t)
  system_at j l = h.own.own j 0 l

  system_of : (f : ℕ) → 0 < times frames f → owner_at k.memory.frames f ≡ System (number_of t)
  system_of f some = let at = times_some frames f some in subst (λ g. owner_at k.memory.frames g ≡ System (number_of t)) at.2 (system_at at.0 at.1)

  -- another frame shows what it showed
  other_frame : (f : ℕ) → (0 < times frames f → ⊥) → new f ≡ old f
  other_frame f none = frame_kept k.memory m p.first p.len x frames bytes slots lands f (⊎_elim (λ z. z) (λ (some : 0 < times frames f). absurd (none some)) (none_or (times frames f)))

  -- so does each entry
  entries_same : (o i : ℕ) → (seen m slots).entry_bytes o i ≡ (seen k.memory slots).entry_bytes o i
  entries_same o i = entry_kept k.memory m p.first p.len x frames bytes slots lands o i (λ f e. ⊎_elim (λ z. z)
      (λ (some : 0 < times frames f).
      let at = page_in k.memory o i f e in
      let clash : Page at.number.0 ≡ System (number_of t) = sym (h.sound.placed.in_frame at.number.0 (record { 0 = f }) at.is_place) ∙ system_of f some in absurd (cc))
      (none_or (times frames f)))

  pools_same : PoolsShowSame old new k.pools
  pools_same d = by (entry k.pools d) refl
    where
      pooled : (q : PoolState) → entry k.pools d ≡ Some q → (i e : ℕ) → i < length (input_frames q.loans) → new (get_or (input_frames q.loans) i e) ≡ old (get_or (input_frames q.loans) i e)
      pooled q is i e l =
          let f : ℕ = get_or (input_frames q.loans) i 0 in
          let same : get_or (input_frames q.loans) i e ≡ f = any_default (input_frames q.loans) i e 0 l in
          let on : 0 < pool_on f (entry k.pools d) = subst (λ o. 0 < pool_on f o) (sym is) (times_at (input_frames q.loans) i l) in
          let pool : owner_at k.memory.frames f ≡ Pool d = h.owned.pool_frames f d on in
          subst (λ g. new g ≡ old g) (sym same) (other_frame f (λ some. let clash : Pool d ≡ System (number_of t) = sym pool ∙ system_of f some in absurd (cc)))

      by : (o : Option PoolState) → entry k.pools d ≡ o → IfSome o (λ (q : PoolState). ShowSame old new (input_frames q.loans))
      by None e = tt
      by (Some q) e = pooled q e

  -- a transfer is this one, or has none of its frames
  this_or_apart : (u : Transfer) → Has u k.transfers → (u ≡ t) ⊎ ((f : ℕ) → has_frame f u ≡ true → times frames f ≡ 0)
  this_or_apart u i = by (list_any (λ f. has_frame f u) frames) refl
    where
      shared : list_any (λ f. has_frame f u) frames ≡ true → u ≡ t
      shared e =
          let some = any_has (λ f. has_frame f u) frames e in
          let f : ℕ = some.0 in
          let on : has_frame f t ≡ true = subst (λ (l : Loans). list_any (λ g. g == f) (frames_of l) ≡ true) (sym h.is) (has_any (λ g. g == f) f frames some.1 (eq-eqb f f refl)) in
          let mine : owner_at k.memory.frames f ≡ System (number_of t) = all_has (λ g. owner_at k.memory.frames g ≡ System (number_of t)) frames (λ j d l. subst (λ g. owner_at k.memory.frames g ≡ System (number_of t)) (any_default frames j 0 d l) (system_at j l)) f some.1 in
          one_holder k.transfers f (number_of t) t u (h.owned.system f (number_of t) mine) h.pends on i some.2

      by : (s : Bool) → list_any (λ f. has_frame f u) frames ≡ s → (u ≡ t) ⊎ ((f : ℕ) → has_frame f u ≡ true → times frames f ≡ 0)
      by true e = inl (shared e)
      by false e = inr (λ f on. ⊎_elim (λ z. z)
          (λ (some : 0 < times frames f).
          let at = times_some frames f some in
          let here : has_frame f u ≡ false = none_has (λ g. has_frame g u) f frames (subst (λ g. Has g frames) at.2 (has_at frames at.0 0 at.1)) e in
          let clash : true ≡ false = sym on ∙ here in absurd (cc))
          (none_or (times frames f)))

  lent_apart : (u : Transfer) → ((f : ℕ) → has_frame f u ≡ true → times frames f ≡ 0) → lent_bytes new u ≡ lent_bytes old u
  lent_apart u apart = ap (part (first_of u.loans) u.len) (frames_same old new (frames_of u.loans) (λ i d l.
      let f : ℕ = get_or (frames_of u.loans) i 0 in
      subst (λ g. new g ≡ old g) (sym (any_default (frames_of u.loans) i d 0 l)) (frame_kept k.memory m p.first p.len x frames bytes slots lands f (apart f (any_at (frames_of u.loans) i l)))))

  first_is : first_of t.loans ≡ p.first
  first_is = ap first_of h.is

  frames_is : frames_of t.loans ≡ frames
  frames_is = ap frames_of h.is

  full : (j : ℕ) → j < length frames → length (old (get_or frames j 0)) ≡ k.config.page
  full j l =
      let f : ℕ = get_or frames j 0 in
      let mine = system_at j l in
      let shown : old f ≡ bytes_at k.memory.frames f = ap (λ o. if is_kept o (counts_at k.memory.frames f) then bytes_at k.memory.frames f else []) mine in
      let there : f < length k.memory.frames.owners = in_range k.memory.frames.owners f Free (λ e. let clash : System (number_of t) ≡ Free = sym mine ∙ e in absurd (cc)) in
      ap length shown ∙ h.sound.shaped.paged f [] (omega (arith, there, h.sound.shaped.filled)) ∙ h.page

  fits : 0 < t.len → p.first + t.len ≤ k.config.page * length frames
  fits l =
      let some = page_some k.memory.frames.page h.sound.shaped.size in
      let same = h.page in
      let covered = span_covers k.config.page (begins_at t) t.len (omega (arith, some, same)) l in
      let begins = h.range.begins in
      subst (λ n. p.first + t.len ≤ k.config.page * n) (sym h.range.pages) (omega (arith, covered, begins))

  lent_size : length (lent_bytes old t) ≡ t.len
  lent_size =
      let long = frames_length old k.config.page frames full in
      (λ i. length (part (first_is i) t.len (bytes_in_frames old (frames_is i)))) ∙ part_length p.first t.len (bytes_in_frames old frames) (λ l. let f = fits l in omega (arith, f, long))

  -- in its range they stand where they landed
  lent_landed : lent_bytes new t ≡ overlaid x bytes (lent_bytes old t)
  lent_landed =
      let shown = in_frames k.memory m p.first p.len x frames bytes slots lands (λ j l. ap (λ o. is_kept o (counts_at k.memory.frames (get_or frames j 0))) (system_at j l)) in
      let size = lent_size in
      let length_is = h.range.length_kept in
      (λ i. part (first_is i) t.len (bytes_in_frames new (frames_is i)))
      ∙ ap (part p.first t.len) shown
      ∙ part-overlaid p.first t.len x (p.first + x) (take (p.len - x) bytes) (bytes_in_frames old frames) refl
      ∙ sym (λ i. overlaid x (take (p.len - x) bytes) (part (first_is i) t.len (bytes_in_frames old (frames_is i))))
      ∙ overlaid-cut x (p.len - x) bytes (lent_bytes old t) (omega (arith, size, length_is))

  -- what was stored of it is as it was
  stored_same : payload_of new k.devices k.pools (first_waiting k.transfers) t Inward ≡ payload_of old k.devices k.pools (first_waiting k.transfers) t Inward
  stored_same =
      (λ i. input_bytes new k.devices k.pools t (h.unbuffered i)) ∙ ap (λ l. if is_strong_call t then take t.stored l else []) lent_landed
      ∙ ap (λ l. if is_strong_call t then l else []) (take_before t.stored x bytes (lent_bytes old t) stored)
      ∙ sym (λ i. input_bytes old k.devices k.pools t (h.unbuffered i))

  beside : ShowsBeside k b c
  beside = record {
    rests = refl;
    sents = refl;
    payloads = λ u i. ⊎_elim
        (λ (e : u ≡ t). subst (λ (y : Transfer). payload_of new k.devices k.pools (first_waiting k.transfers) y y.dir ≡ payload_of old k.devices k.pools (first_waiting k.transfers) y y.dir) (sym e)
        (subst (λ z. payload_of new k.devices k.pools (first_waiting k.transfers) t z ≡ payload_of old k.devices k.pools (first_waiting k.transfers) t z) (sym h.inward) stored_same))
        (λ (apart : (f : ℕ) → has_frame f u ≡ true → times frames f ≡ 0). payload_shown old new k.pools pools_same k.devices (first_waiting k.transfers) u (λ strong. lent_apart u apart) u.dir)
        (this_or_apart u i);
    pooled = pools_same;
  }

  orphan_same : (n y : ℕ) → is_orphan (owned_regions k.spaces.processes) k.transfers n ≡ true → orphan_byte new k.transfers n y ≡ orphan_byte old k.transfers n y
  orphan_same n y e = by (find (covers n y) k.transfers) refl
    where
      by : (o : Option Transfer) → find (covers n y) k.transfers ≡ o → byte_under new y o ≡ byte_under old y o
      by None f = refl
      by (Some u) f =
          let has = find_has (covers n y) k.transfers u f in
          let weak : is_strong_call u ≡ false = weak_covers n y u has.1 in
          let apart : (g : ℕ) → has_frame g u ≡ true → times frames g ≡ 0 = ⊎_elim (λ (s : u ≡ t). let clash : true ≡ false = sym h.strong ∙ sym (ap is_strong_call s) ∙ weak in absurd (cc)) (λ a. a) (this_or_apart u has.0) in
          ap (λ l. (y, slice_index l (y - u.offset)) ∷ []) (lent_apart u apart)

  -- so the state shows nothing of them until they are stored
  strong_state : state_of k c ≡ state_of k b
  strong_state =
      let entries : (seen m slots).entry_bytes ≡ (seen k.memory slots).entry_bytes = λ i o z. entries_same o z i in
      let orphans = orphans_shown k.config.page old new (owned_regions k.spaces.processes) k.transfers orphan_same in
      state_beside k b c beside ∙ (λ i. record (state_of k b) { processes = processes_view (entries i) k.spaces.processes k.queues; orphans = orphans i })

  pub shows_strong : ShowsLanded k t x bytes b c
  shows_strong = record {
    rests = refl;
    sents = refl;
    state = strong_state ∙ sym (ap (landed (state_of k b) (seen_transfer k b t) x bytes) (ap (λ s. if s then None else (seen_transfer k b t).region) h.strong));
    none = λ e. strong_state;
    size = λ strong. lent_size;
    payload = λ strong. lent_landed;
  }
