-- What is left once the hidden regions of a process were dropped.
use Rattle.std.proofs.Common.{◌≡◌, ◌≢◌, ℕ, ◌<◌, ◌≤◌, ◌+◌, Bool, true, false, List, [], ◌∷◌, refl, arith, ap, rules, length, get_or, sym, ◌∙◌, inl, inr, eq-eqb}
use Rattle.std.specs.Prelude.{◌==◌, ◌&&◌, ◌⊎◌, not, count_by, nat_lt, remove, position, None}
use Rattle.std.specs.List.{position_or_len}
use Rattle.std.proofs.lemmas.Grind.{common_steps}
use Rattle.std.proofs.lemmas.List.Sums.{sum_by-cons, fails_before_first}
use Rattle.genie_base.specs.Lemmas.Places.{num, same_or}
use Rattle.genie_frame.specs.FrameTable.{owner_at, counts_at, is_lent}
use Rattle.genie_object.specs.declared.memory.Memory.{Memory}
use Rattle.genie_object.specs.Pages.{is_there}
use Rattle.genie_object.specs.Objects.{object_at, entry_at}
use Rattle.genie_object.specs.Costs.{place_of}
use Rattle.genie_object.specs.Memory.{seen}
use Rattle.genie_object.specs.Sound.{IsSound, FitsHidden}
use Rattle.genie_object.specs.Touching.{Touches, Lasts, system_owner}
use Rattle.genie_object.specs.Lemmas.Touching.{touches_more, touches_on, touches_none, lasts_on}
use Rattle.genie_object.specs.Lemmas.Lookup.{count_some, other_at}
use Rattle.genie_hiding.specs.declared.hidden.Hidden.{Hidden}
use Rattle.genie_hiding.specs.Hidden.{no_hidden, object_of, objects_of, is_of, others}
use Rattle.genie_object.specs.Leaving.{Removes, is_object}
use Rattle.genie_hiding.specs.Discarding.{Discards, has_object, is_object_of}
use Rattle.genie_object.specs.Lemmas.Lookup.{count_none}
use Rattle.genie_hiding.specs.Lemmas.Naming.{cached_kept}
use Rattle.genie_hiding.proofs.Kept.{count_skip, filter_skip, filter_none}
use Rattle.genie_hiding.proofs.Fewer.{fits_rest, other_object}

-- some regions of the process were dropped, and those that are kept are still to go
pub record Discarding (pid : ℕ) (all kept : List Hidden) (old new : Memory) : Type 0 where
  pub others' : others pid kept ≡ others pid all
  pub still : (o : ℕ) → is_object_of pid kept o ≡ true → is_object_of pid all o ≡ true
  pub fits : FitsHidden new (objects_of kept)
  pub sound : IsSound new
  pub gone' : (o : ℕ) → is_object_of pid all o ≡ true → (is_object_of pid kept o ≡ true) ⊎ (object_at new.objects o ≡ [])
  pub entries : (slots : ℕ → List ℕ) (o i : ℕ) → is_object_of pid all o ≡ false → (seen new slots).entry_bytes o i ≡ (seen old slots).entry_bytes o i
  pub same : (o i : ℕ) → is_object_of pid all o ≡ false → entry_at new.objects o i ≡ entry_at old.objects o i
  pub places : (o i : ℕ) → is_object_of pid all o ≡ false → place_of new o i ≡ place_of old o i
  pub touches : Touches (λ o i. is_object_of pid all o) old new
  pub lent : (f : ℕ) → is_lent (counts_at old.frames f) ≡ true → Lasts old.frames new.frames f
  pub systems : (f : ℕ) → system_owner (owner_at new.frames f) ≡ system_owner (owner_at old.frames f)
  pub sizes : (o : ℕ) → is_object_of pid all o ≡ false → length (object_at new.objects o) ≡ length (object_at old.objects o)
  pub frames : new.frames ≡ record (old.frames) { owners = new.frames.owners }
  pub number : length new.frames.owners ≡ length old.frames.owners
  pub slots : length new.slots ≡ length old.slots
  pub fewer : count_by is_there new.pages.pages ≤ count_by is_there old.pages.pages
  pub most : new.pages.most ≡ old.pages.most

pub discards_none : (pid : ℕ) (kept : List Hidden) (m : Memory) → IsSound m → FitsHidden m (objects_of kept) → Discarding pid kept kept m m
discards_none pid kept m s f = record {
  others' = refl;
  still = λ o e. e;
  fits = f;
  sound = s;
  gone' = λ o e. inl e;
  entries = λ slots o i e. refl;
  same = λ o i e. refl;
  places = λ o i e. refl;
  touches = touches_none (λ o i. is_object_of pid kept o) m;
  lent = λ f l. record { lent = l; bytes = refl; owner = inl refl };
  systems = λ f. refl;
  sizes = λ o e. refl;
  frames = refl;
  number = refl;
  slots = refl;
  fewer = omega arith;
  most = refl;
}

-- a region of the process that is kept has one of these objects
here_among : (pid : ℕ) (kept : List Hidden) (k : ℕ) → k < length kept → is_of pid (get_or kept k no_hidden) ≡ true → is_object_of pid kept (object_of (get_or kept k no_hidden)) ≡ true
here_among pid kept k l e =
    let o = object_of (get_or kept k no_hidden) in
    let is : has_object pid o (get_or kept k no_hidden) ≡ true = rw (e, eq-eqb o o refl) refl in
    let some = count_some (has_object pid o) no_hidden kept k l is in grind (arith, rules, some)

fewer_among : (pid : ℕ) (kept : List Hidden) (k o : ℕ) → k < length kept → is_object_of pid (remove kept k) o ≡ true → is_object_of pid kept o ≡ true
fewer_among pid kept k o l e =
    let less = count_skip (has_object pid o) no_hidden kept k l in
    let some : 0 < count_by (has_object pid o) (remove kept k) = grind (arith, rules, e) in
    let all : 0 < count_by (has_object pid o) kept = omega (arith, less, some) in grind (arith, rules, all)

other_among : (pid : ℕ) (kept : List Hidden) (k o : ℕ) → k < length kept → o ≢ object_of (get_or kept k no_hidden) → is_object_of pid kept o ≡ true → is_object_of pid (remove kept k) o ≡ true
other_among pid kept k o l n e =
    let h = get_or kept k no_hidden in
    let less = count_skip (has_object pid o) no_hidden kept k l in
    let none : has_object pid o h ≡ false = ap (λ b. is_of pid h && b) (other_at (object_of h) o n) ∙ no_and (is_of pid h) in
    ap (nat_lt 0) (omega (arith, less, ap num none)) ∙ e
  where
    no_and : (b : Bool) → (b && false) ≡ false
    no_and true = refl
    no_and false = refl

empty_of : {X : Type 0} (xs : List X) → length xs ≡ 0 → xs ≡ []
empty_of [] e = refl
empty_of (x ∷ xs) e = absurd (omega (arith, e))

-- one region more was dropped
module _ (pid : ℕ) (all kept : List Hidden) (old mid new : Memory) (k : ℕ) (x : Discarding pid all kept old mid) (l : k < length kept) (is : is_of pid (get_or kept k no_hidden) ≡ true) (y : Removes (object_of (get_or kept k no_hidden)) mid new) where
  abbrev o : ℕ
  o = object_of (get_or kept k no_hidden)

  among_all : is_object_of pid all o ≡ true
  among_all = x.still o (here_among pid kept k l is)

  apart : (a : ℕ) → is_object_of pid all a ≡ false → a ≢ o
  apart a e s = let bad : true ≡ false = sym among_all ∙ ap (is_object_of pid all) (sym s) ∙ e in cc

  quiet : (a : ℕ) → a ≢ o → is_object o a 0 ≡ false
  quiet a n = other_at a o (λ e. n (sym e))

  fits_new : FitsHidden new (objects_of (remove kept k))
  fits_new =
      let f = fits_rest mid kept k l x.fits in
      record {
        cached = λ j lj.
            let a = get_or (objects_of (remove kept k)) j 0 in
            let n = other_object mid kept k l x.fits j lj in
            cached_kept (is_object o) mid new a x.sound y.touches (y.sizes a n) (λ i q e. quiet a n) (f.cached j lj);
        apart = f.apart;
      }

  pub discards_more : Discarding pid all (remove kept k) old new
  discards_more = record {
    others' = filter_skip (λ h. not (is_of pid h)) no_hidden kept k l (ap not is) ∙ x.others';
    still = λ a e. x.still a (fewer_among pid kept k a l e);
    fits = fits_new;
    sound = y.sound;
    gone' = λ a e. elim (same_or a o) [
      | inl s ↦ inr (ap (object_at new.objects) s ∙ y.gone)
      | inr n ↦ elim (x.gone' a e) [
        | inl w ↦ inl (other_among pid kept k a l n w)
        | inr w ↦ inr (empty_of (object_at new.objects a) (y.sizes a n ∙ ap length w))
      ]
    ];
    entries = λ slots a i e. y.entries slots a i (quiet a (apart a e)) ∙ x.entries slots a i e;
    same = λ a i e. y.others a i (quiet a (apart a e)) ∙ x.same a i e;
    places = λ a i e. y.places a i (quiet a (apart a e)) ∙ x.places a i e;
    touches = touches_on (λ a i. is_object_of pid all a) old mid new x.touches (touches_more (is_object o) (λ a i. is_object_of pid all a) mid new (λ a i e. quiet a (apart a e)) y.touches);
    lent = λ f h. let u = x.lent f h in lasts_on old.frames mid.frames new.frames f u (y.lent f u.lent);
    systems = λ f. y.systems f ∙ x.systems f;
    sizes = λ a e. y.sizes a (apart a e) ∙ x.sizes a e;
    frames = y.frames ∙ (λ i. record (x.frames i) { owners = new.frames.owners });
    number = y.number ∙ x.number;
    slots = y.slots ∙ x.slots;
    fewer = omega (arith, x.fewer, y.fewer);
    most = y.most ∙ x.most;
  }

-- the process has no region left
pub discards_all : (pid : ℕ) (all kept : List Hidden) (old new : Memory) → count_by (is_of pid) kept ≡ 0 → Discarding pid all kept old new → Discards (is_object_of pid all) old new
discards_all pid all kept old new none x = record {
  sound = x.sound;
  gone = λ o e. elim (x.gone' o e) [ inl w ↦ absurd (no_object o w) | inr w ↦ w ];
  entries = x.entries;
  others = x.same;
  places = x.places;
  touches = x.touches;
  lent = x.lent;
  systems = x.systems;
  sizes = x.sizes;
  frames = x.frames;
  number = x.number;
  slots = x.slots;
  fewer = x.fewer;
  most = x.most;
} where
  fewer : (o : ℕ) (xs : List Hidden) → count_by (has_object pid o) xs ≤ count_by (is_of pid) xs
  fewer o [] = omega arith
  fewer o (h ∷ xs) = omega (arith, fewer o xs, one (is_of pid h) (object_of h == o), sum_by-cons (λ y. num (has_object pid o y)) h xs, sum_by-cons (λ y. num (is_of pid y)) h xs) where
    one : (a b : Bool) → num (a && b) ≤ num a
    one true true = omega arith
    one true false = omega arith
    one false b = omega arith

  no_object : (o : ℕ) → is_object_of pid kept o ≢ true
  no_object o w = let some : 0 < count_by (has_object pid o) kept = grind (arith, rules, w) in absurd (omega (arith, some, none, fewer o kept))

pub others_kept : (pid : ℕ) (all kept : List Hidden) (old new : Memory) → count_by (is_of pid) kept ≡ 0 → Discarding pid all kept old new → kept ≡ others pid all
others_kept pid all kept old new none x = sym (filter_none (is_of pid) kept none) ∙ x.others'

-- no place passes the test
pub none_of : (pid : ℕ) (kept : List Hidden) → position (is_of pid) kept ≡ None → count_by (is_of pid) kept ≡ 0
none_of pid kept e =
    let past : length kept ≤ position_or_len (is_of pid) kept = grind (arith, common_steps) in
    count_none (is_of pid) no_hidden kept (λ k l. fails_before_first (is_of pid) kept k no_hidden (omega (arith, l, past)))

-- as many regions of the process were dropped as there are places
pub none_left : (pid : ℕ) (all kept : List Hidden) (n : ℕ) → count_by (is_of pid) kept + n ≡ count_by (is_of pid) all → n ≡ length all → count_by (is_of pid) kept ≡ 0
none_left pid all kept n e l = omega (arith, e, l, count_most (is_of pid) all) where
  count_most : (q : Hidden → Bool) (xs : List Hidden) → count_by q xs ≤ length xs
  count_most q [] = omega arith
  count_most q (x ∷ xs) = omega (arith, count_most q xs, one (q x), sum_by-cons (λ y. num (q y)) x xs) where
    one : (b : Bool) → num b ≤ 1
    one true = omega arith
    one false = omega arith
