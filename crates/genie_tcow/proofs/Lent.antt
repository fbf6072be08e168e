-- Loans in a memory: none, one, and one more.
use Rattle.std.proofs.Common.{◌≡◌, ℕ, zero, suc, ◌+◌, ◌<◌, ◌≤◌, Bool, true, false, List, [], ◌∷◌, ◌++◌, length, refl, ap, sym, ◌∙◌, arith, subst, get_or, length-append, inl, inr}
use Rattle.std.specs.Prelude.{Option, Some, None, count_by, nat_lt, if◌then◌else◌}
use Rattle.std.specs.Option.{option_map}
use Rattle.std.proofs.lemmas.Bool.{cases_lt}
use Rattle.genie_frame.specs.declared.frame.Owner.{Owner}
use Rattle.genie_frame.specs.declared.frame.Owner.TheVariants.{Free, Page, System, Pool, Nobody}
use Rattle.genie_frame.specs.declared.frame.Counts.{Counts}
use Rattle.genie_frame.specs.declared.frame.Meters.{Meters}
use Rattle.genie_frame.specs.FrameTable.{FrameTable, owner_at, counts_at, bytes_at, is_lent, is_owned, is_nobody, is_free, no_counts}
use Rattle.genie_store.specs.StoreView.{StoreView}
use Rattle.genie_object.specs.declared.memory.Memory.{Memory}
use Rattle.genie_object.specs.Pages.{is_there}
use Rattle.genie_object.specs.Memory.{Seen, seen, seen_with}
use Rattle.genie_object.specs.Sound.{IsSound}
use Rattle.genie_object.specs.Steps.{metered}
use Rattle.genie_object.specs.Touching.{KeepsLoans, Touches, system_owner}
use Rattle.genie_object.specs.Lemmas.Touching.{lasts_on, touches_on, touches_none, sound_metered, touches_metered}
use Rattle.genie_plan.specs.Loans.{LoanKind, Strong, Weak, Input, Loan, more}
use Rattle.genie_tcow.specs.Lending.{lent_more, loans_on, see_lent, KeepsBesides, HasLent}
use Rattle.genie_plan.specs.Lemmas.Ending.{some_or}
use Rattle.genie_tcow.proofs.Counting.{on_one, on_push, index_on, lent_with, more_push, more_none, at_last, at_front}
use Rattle.genie_tcow.proofs.More.{lt_some, lt_none, IsSpoken, more_counts, more_keeps, more_touches, more_shows}

-- what a call keeps besides loans, after one that keeps all and before one
pub keeps_plus : (id : ℕ) (loans : List Loan) (a b c : Memory) → KeepsBesides id loans a b → KeepsLoans b c → KeepsBesides id loans a c
keeps_plus id loans a b c x y = record {
  entry_held = λ o i f e h. y.entry_held o i f (x.entry_held o i f e h) (x.held f h);
  held = λ f h. y.held f (x.held f h);
  lent = λ f l. let u = x.lent f l in lasts_on a.frames b.frames c.frames f u (y.lent f u.lent);
  systems = λ f z. y.systems f ∙ x.systems f z;
  taken = λ f h. let u = x.taken f h in record { was = u.was; is = elim u.is [ inl e ↦ inl (y.systems f ∙ e) | inr e ↦ inr (y.systems f ∙ e) ] };
  entries = λ o. y.entries o ∙ x.entries o;
  number = y.number ∙ x.number;
  page = y.page ∙ x.page;
  slots = y.slots ∙ x.slots;
  most = y.most ∙ x.most;
}

pub keeps_from : (id : ℕ) (loans : List Loan) (a b c : Memory) → KeepsLoans a b → KeepsBesides id loans b c → KeepsBesides id loans a c
keeps_from id loans a b c x y = record {
  entry_held = λ o i f e h. y.entry_held o i f (x.entry_held o i f e h) (x.held f h);
  held = λ f h. y.held f (x.held f h);
  lent = λ f l. let u = x.lent f l in lasts_on a.frames b.frames c.frames f u (y.lent f u.lent);
  systems = λ f z. y.systems f z ∙ x.systems f;
  taken = λ f h. let u = y.taken f h in record { was = sym (x.systems f) ∙ u.was; is = u.is };
  entries = λ o. y.entries o ∙ x.entries o;
  number = y.number ∙ x.number;
  page = y.page ∙ x.page;
  slots = y.slots ∙ x.slots;
  most = y.most ∙ x.most;
}

-- a call that keeps all keeps all besides loans on frames that aren't the system's
pub besides_all : (id : ℕ) (loans : List Loan) (a b : Memory) → KeepsLoans a b → ((f : ℕ) → 0 < loans_on loans f → system_owner (owner_at b.frames f) ≡ Free) → KeepsBesides id loans a b
besides_all id loans a b k h = record {
  entry_held = k.entry_held;
  held = k.held;
  lent = k.lent;
  systems = λ f z. k.systems f;
  taken = λ f y. let e = h f y in record { was = sym (k.systems f) ∙ e; is = inl e };
  entries = k.entries;
  number = k.number;
  page = k.page;
  slots = k.slots;
  most = k.most;
}

besides_on : (id : ℕ) (loans : List Loan) (loan : Loan) (a b c : Memory) → KeepsBesides id loans a b → KeepsBesides id (loan ∷ []) b c → KeepsBesides id (loans ++ loan ∷ []) a c
besides_on id loans loan a b c x y = record {
  entry_held = λ o i f e h. y.entry_held o i f (x.entry_held o i f e h) (x.held f h);
  held = λ f h. y.held f (x.held f h);
  lent = λ f l. let u = x.lent f l in lasts_on a.frames b.frames c.frames f u (y.lent f u.lent);
  systems = λ f z. y.systems f (omega (arith, z, on_push loans loan f)) ∙ x.systems f (omega (arith, z, on_push loans loan f));
  taken = λ f h. elim (some_or (loans_on loans f)) [
    | inl p ↦ elim (some_or (loans_on (loan ∷ []) f)) [
      | inl q ↦ record { was = (x.taken f p).was; is = (y.taken f q).is }
      | inr q ↦ record { was = (x.taken f p).was; is = elim (x.taken f p).is [ inl e ↦ inl (y.systems f q ∙ e) | inr e ↦ inr (y.systems f q ∙ e) ] }
    ]
    | inr p ↦ let q : 0 < loans_on (loan ∷ []) f = omega (arith, h, p, on_push loans loan f) in record { was = sym (x.systems f p) ∙ (y.taken f q).was; is = (y.taken f q).is }
  ];
  entries = λ o. y.entries o ∙ x.entries o;
  number = y.number ∙ x.number;
  page = y.page ∙ x.page;
  slots = y.slots ∙ x.slots;
  most = y.most ∙ x.most;
}

-- what is seen, where a store tells its bytes
pub shown_as : {A B : Type 0} (f : (ℕ → List ℕ) → B) (g : A → B) (h : (ℕ → List ℕ) → A) (told : Option (ℕ → List ℕ)) → ((slots : ℕ → List ℕ) → f slots ≡ g (h slots)) → option_map f told ≡ option_map g (option_map h told)
shown_as f g h None e = refl
shown_as f g h (Some slots) e = ap Some (e slots)

mapped_on : {A B C : Type 0} (g : B → C) (f : A → B) (h : A → C) (x : Option A) → ((a : A) → g (f a) ≡ h a) → option_map g (option_map f x) ≡ option_map h x
mapped_on g f h None e = refl
mapped_on g f h (Some a) e = ap Some (e a)

mapped_same : (kind : LoanKind) (t : FrameTable) (x : Option Seen) → x ≡ option_map (see_lent kind [] t) x
mapped_same Strong t None = refl
mapped_same Strong t (Some a) = refl
mapped_same Weak t None = refl
mapped_same Weak t (Some a) = refl
mapped_same Input t None = refl
mapped_same Input t (Some a) = refl

owned_somebody : (o : Owner) → is_owned o ≡ true → is_nobody o ≡ false
owned_somebody Free e = cc
owned_somebody (Page p) e = refl
owned_somebody (System t) e = refl
owned_somebody (Pool d) e = refl
owned_somebody Nobody e = cc

-- frame g may be lent in memory m, where the call that began in memory old has brought all about; what is seen of m is what
-- is seen of memory base, but for that frame, and base shows what old shows
pub record IsLendable (kind : LoanKind) (id : ℕ) (spoken : ℕ → ℕ → Bool) (g : ℕ) (old base m : Memory) (v w : StoreView) : Type 0 where
  pub sound : IsSound m
  pub owned : is_owned (owner_at m.frames g) ≡ true
  pub after : IsSound (lent_more m kind g)
  pub of : (p : ℕ) → owner_at m.frames g ≡ Page p → IsSpoken spoken m p
  pub base_shows : seen_with base w ≡ seen_with old v
  pub shows : (slots : ℕ → List ℕ) → see_lent kind (record { kind = kind; frame = g } ∷ []) (lent_more m kind g).frames (seen m slots) ≡ see_lent kind (record { kind = kind; frame = g } ∷ []) (lent_more m kind g).frames (seen base slots)
  pub keeps : KeepsBesides id (record { kind = kind; frame = g } ∷ []) old m
  pub touches : Touches spoken old m
  pub counts : m.frames.counts ≡ old.frames.counts
  pub landed : m.frames.landed ≡ old.frames.landed
  pub free : count_by is_free old.frames.owners ≤ count_by is_free m.frames.owners + 1
  pub added : count_by is_there m.pages.pages ≤ count_by is_there old.pages.pages + 1

first_kind : (kind : LoanKind) (g k : ℕ) (d : Loan) → k < 1 → (get_or (record { kind = kind; frame = g } ∷ []) k d).kind ≡ kind
first_kind kind g zero d l = refl
first_kind kind g (suc k) d l = absurd (omega (arith, l))

pub lent_one : (kind : LoanKind) (id : ℕ) (spoken : ℕ → ℕ → Bool) (g : ℕ) (old base m : Memory) (v w : StoreView) → IsLendable kind id spoken g old base m v w → HasLent kind id spoken (record { kind = kind; frame = g } ∷ []) old (lent_more m kind g) v w
lent_one kind id spoken g old base m v w x =
    let one : List Loan = record { kind = kind; frame = g } ∷ [] in
    record {
      sound = x.after;
      kinds = first_kind kind g;
      counts = λ f. more_counts kind m g x.sound x.owned f ∙ ap (λ (cs : List Counts). more one f (get_or cs f no_counts)) x.counts;
      owned = λ f h. elim (on_one kind g f) [
        | inl y ↦ ap (λ n. is_nobody (owner_at m.frames n)) y.0 ∙ owned_somebody (owner_at m.frames g) x.owned
        | inr y ↦ absurd (omega (arith, h, y.1))
      ];
      shows = shown_as (seen (lent_more m kind g)) (see_lent kind one (lent_more m kind g).frames) (seen base) w.slots (λ slots. more_shows kind m g x.sound x.owned slots ∙ x.shows slots) ∙ ap (option_map (see_lent kind one (lent_more m kind g).frames)) x.base_shows;
      keeps = keeps_plus id one old m (lent_more m kind g) x.keeps (more_keeps kind m g x.sound x.owned);
      touches = touches_on spoken old m (lent_more m kind g) x.touches (more_touches kind m g x.sound x.owned spoken x.of);
      landed = x.landed;
      free = omega (arith, x.free);
      added = omega (arith, x.added);
    }

-- what is seen of frames that are lent one after the other
see_on : (kind : LoanKind) (loans : List Loan) (loan : Loan) (t u : FrameTable) → ((f : ℕ) → 0 < loans_on loans f → bytes_at u f ≡ bytes_at t f) → (s : Seen) → see_lent kind (loan ∷ []) u (see_lent kind loans t s) ≡ see_lent kind (loans ++ loan ∷ []) u s
see_on Strong loans loan t u same s = λ k. record { entry_bytes = s.entry_bytes; kept_bytes = λ f. by_frame f k }
  where
    by_frame : (f : ℕ) → (if nat_lt 0 (loans_on (loan ∷ []) f) then bytes_at u f else (if nat_lt 0 (loans_on loans f) then bytes_at t f else s.kept_bytes f)) ≡ (if nat_lt 0 (loans_on (loans ++ loan ∷ []) f) then bytes_at u f else s.kept_bytes f)
    by_frame f = elim (some_or (loans_on (loan ∷ []) f)) [
      | inl p ↦ rw (lt_some (loans_on (loan ∷ []) f) p, lt_some (loans_on (loans ++ loan ∷ []) f) (omega (arith, p, on_push loans loan f))) refl
      | inr p ↦ elim (some_or (loans_on loans f)) [
        | inl q ↦ rw (lt_none (loans_on (loan ∷ []) f) p, lt_some (loans_on loans f) q, lt_some (loans_on (loans ++ loan ∷ []) f) (omega (arith, q, on_push loans loan f))) (sym (same f q))
        | inr q ↦ rw (lt_none (loans_on (loan ∷ []) f) p, lt_none (loans_on loans f) q, lt_none (loans_on (loans ++ loan ∷ []) f) (omega (arith, p, q, on_push loans loan f))) refl
      ]
    ]
see_on Weak loans loan t u same s = refl
see_on Input loans loan t u same s = refl

no_loan : Loan
no_loan = record { kind = Weak; frame = 0 }

-- a frame of the loans is lent
pub is_out : (kind : LoanKind) (id : ℕ) (spoken : ℕ → ℕ → Bool) (loans : List Loan) (old m : Memory) (v w : StoreView) → HasLent kind id spoken loans old m v w → (f : ℕ) → 0 < loans_on loans f → is_lent (counts_at m.frames f) ≡ true
is_out kind id spoken loans old m v w x f h =
    let k = index_on loans no_loan f h in
    ap is_lent (x.counts f) ∙ subst (λ n. is_lent (more loans n (counts_at old.frames n)) ≡ true) k.2 (lent_with loans k.0 no_loan (counts_at old.frames (get_or loans k.0 no_loan).frame) k.1)

pub lent_on : (kind : LoanKind) (id : ℕ) (spoken : ℕ → ℕ → Bool) (loans : List Loan) (loan : Loan) (old m new : Memory) (v w z : StoreView) → ((f : ℕ) → 0 < loans_on loans f → is_nobody (owner_at new.frames f) ≡ false) → HasLent kind id spoken loans old m v w → HasLent kind id spoken (loan ∷ []) m new w z → HasLent kind id spoken (loans ++ loan ∷ []) old new v z
lent_on kind id spoken loans loan old m new v w z still x y =
    let size : length (loans ++ loan ∷ []) ≡ length loans + 1 = length-append loans (loan ∷ []) in
    record {
      sound = y.sound;
      kinds = λ k d l. elim (cases_lt k (length loans)) [
        | inl h ↦ ap (λ (q : Loan). q.kind) (at_front loans loan d k h) ∙ x.kinds k d h
        | inr h ↦ let e : k ≡ length loans = omega (arith, size, l, h) in ap (λ (q : Loan). q.kind) (at_last loans loan d k e) ∙ y.kinds 0 d (omega arith)
      ];
      counts = λ f. y.counts f ∙ ap (more (loan ∷ []) f) (x.counts f) ∙ more_push loans loan f (counts_at old.frames f);
      owned = λ f h. elim (some_or (loans_on loans f)) [ inl p ↦ still f p | inr p ↦ y.owned f (omega (arith, h, p, on_push loans loan f)) ];
      shows = y.shows ∙ ap (option_map (see_lent kind (loan ∷ []) new.frames)) x.shows ∙ mapped_on (see_lent kind (loan ∷ []) new.frames) (see_lent kind loans m.frames) (see_lent kind (loans ++ loan ∷ []) new.frames) (seen_with old v) (see_on kind loans loan m.frames new.frames (λ f h. (y.keeps.lent f (is_out kind id spoken loans old m v w x f h)).bytes));
      keeps = besides_on id loans loan old m new x.keeps y.keeps;
      touches = touches_on spoken old m new x.touches y.touches;
      landed = y.landed ∙ x.landed;
      free = omega (arith, x.free, y.free, size);
      added = omega (arith, x.added, y.added, size);
    }

pub lent_none : (kind : LoanKind) (id : ℕ) (spoken : ℕ → ℕ → Bool) (m : Memory) (v : StoreView) → IsSound m → HasLent kind id spoken [] m m v v
lent_none kind id spoken m v s = record {
  sound = s;
  kinds = λ k d l. absurd (omega (arith, l));
  counts = λ f. more_none f (counts_at m.frames f);
  owned = λ f h. absurd (omega (arith, h));
  shows = mapped_same kind m.frames (seen_with m v);
  keeps = record { entry_held = λ o i f e h. e; held = λ f h. h; lent = λ f l. record { lent = l; bytes = refl; owner = inl refl }; systems = λ f z. refl; taken = λ f h. absurd (omega (arith, h)); entries = λ a. refl; number = refl; page = refl; slots = refl; most = refl };
  touches = touches_none spoken m;
  landed = refl;
  free = omega arith;
  added = omega arith;
}

-- meters don't matter
see_metered : (kind : LoanKind) (loans : List Loan) (m : Memory) (t : Meters) (s : Seen) → see_lent kind loans m.frames s ≡ see_lent kind loans (metered m t).frames s
see_metered Strong loans m t s = refl
see_metered Weak loans m t s = refl
see_metered Input loans m t s = refl

pub lent_metered : (kind : LoanKind) (id : ℕ) (spoken : ℕ → ℕ → Bool) (loans : List Loan) (old m : Memory) (v w : StoreView) (t : Meters) → HasLent kind id spoken loans old m v w → HasLent kind id spoken loans old (metered m t) v w
lent_metered kind id spoken loans old m v w t x = record {
  sound = sound_metered m t x.sound;
  kinds = x.kinds;
  counts = x.counts;
  owned = x.owned;
  shows = x.shows ∙ (λ k. option_map (λ s. see_metered kind loans m t s k) (seen_with old v));
  keeps = record {
    entry_held = x.keeps.entry_held;
    held = x.keeps.held;
    lent = λ f l. let u = x.keeps.lent f l in record { lent = u.lent; bytes = u.bytes; owner = u.owner };
    systems = x.keeps.systems;
    taken = x.keeps.taken;
    entries = x.keeps.entries;
    number = x.keeps.number;
    page = x.keeps.page;
    slots = x.keeps.slots;
    most = x.keeps.most;
  };
  touches = touches_metered spoken old m t x.touches;
  landed = x.landed;
  free = x.free;
  added = x.added;
}

-- the next page failed
pub lent_failed : (kind : LoanKind) (id : ℕ) (spoken : ℕ → ℕ → Bool) (loans : List Loan) (old m new : Memory) (v w z : StoreView) → HasLent kind id spoken loans old m v w → new ≡ metered m new.frames.meters → seen_with new z ≡ seen_with m w → HasLent kind id spoken loans old new v z
lent_failed kind id spoken loans old m new v w z x is same =
    let y = subst (λ n. HasLent kind id spoken loans old n v w) (sym is) (lent_metered kind id spoken loans old m v w new.frames.meters x) in
    let bytes : (s : Seen) → see_lent kind loans m.frames s ≡ see_lent kind loans new.frames s = (λ s. see_metered kind loans m new.frames.meters s ∙ ap (λ (n : Memory). see_lent kind loans n.frames s) (sym is)) in
    record {
      sound = y.sound;
      kinds = y.kinds;
      counts = y.counts;
      owned = y.owned;
      shows = same ∙ x.shows ∙ (λ k. option_map (λ s. bytes s k) (seen_with old v));
      keeps = y.keeps;
      touches = y.touches;
      landed = y.landed;
      free = y.free;
      added = y.added;
    }
