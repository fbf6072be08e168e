-- Objects that are taken away, one after another.
use Rattle.std.proofs.Common.{◌≡◌, ◌≢◌, ℕ, ◌+◌, ◌<◌, ◌≤◌, zero, suc, Bool, true, false, List, [], ◌∷◌, ◌++◌, refl, arith, rules, ap, length, take, get_or, sym, ◌∙◌, subst, ⊎_elim, eq-eqb, eqb-true}
use Rattle.std.specs.Prelude.{◌==◌, ◌||◌, Some, All, slice_get}
use Rattle.std.specs.List.{AllPairs, list_any}
use Rattle.std.proofs.lemmas.Bool.{cases_Bool, or_parts}
use Rattle.std.proofs.lemmas.List.{take_more, take_all}
use Rattle.genie_frame.specs.FrameTable.{FrameTable, counts_at, is_lent}
use Rattle.genie_object.specs.declared.memory.Memory.{Memory}
use Rattle.genie_object.specs.Leaving.{Removes, is_object}
use Rattle.genie_object.specs.Objects.{object_at}
use Rattle.genie_object.specs.Sound.{IsSound}
use Rattle.genie_object.specs.Lemmas.Touching.{lasts_on, touches_more, touches_none, touches_on, keeps_all}
use Rattle.genie_hiding.specs.Discarding.{Discards}
use Rattle.genie_region.specs.declared.region.Region.{Region}
use Rattle.genie_sharing.specs.Regions.{has_object}
use Rattle.genie_sharing.proofs.EachRegion.{got_at}

pub discards_none : (P : ℕ → Bool) (m : Memory) → ((o : ℕ) → P o ≡ false) → IsSound m → Discards P m m
discards_none P m none sound = record {
  sound = sound;
  gone = λ o e. let bad : true ≡ false = sym e ∙ none o in cc;
  entries = λ slots o i e. refl;
  others = λ o i e. refl;
  places = λ o i e. refl;
  touches = touches_none (λ o i. P o) m;
  lent = λ f l. (keeps_all m).lent f l;
  systems = λ f. refl;
  sizes = λ o e. refl;
  frames = refl;
  number = refl;
  slots = refl;
  fewer = omega arith;
  most = refl;
}

nothing : {X : Type 0} (xs : List X) → length xs ≡ 0 → xs ≡ []
nothing [] h = refl
nothing (y ∷ ys) h = absurd (omega (arith, h))

-- a further object is taken away
module _ (P Q : ℕ → Bool) (o : ℕ) (old mid new : Memory) (more : (a : ℕ) → Q a ≡ (P a || (o == a))) (x : Discards P old mid) (y : Removes o mid new) where
  parts : (a : ℕ) → Q a ≡ false → (P a ≡ false) × ((o == a) ≡ false)
  parts a e = or_parts (P a) (o == a) (sym (more a) ∙ e)

  other : (a : ℕ) → Q a ≡ false → a ≢ o
  other a e s = let bad : true ≡ false = sym (eq-eqb o a (sym s)) ∙ (parts a e).1 in cc

  unlike : (a b : ℕ) → Q a ≡ false → is_object o a b ≡ false
  unlike a b e = let n = other a e in let f : (a == o) ≡ false = grind (arith, rules, n) in f

  gone : (a : ℕ) → Q a ≡ true → object_at new.objects a ≡ []
  gone a e = ⊎_elim
      (λ (here : (o == a) ≡ true). (λ k. object_at new.objects (sym (eqb-true o a here) k)) ∙ y.gone)
      (λ (there : (o == a) ≡ false).
      let before : P a ≡ true = ⊎_elim (λ p. p) (λ (p : P a ≡ false). let bad : true ≡ false = sym e ∙ more a ∙ (λ k. p k || there k) in cc) (cases_Bool (P a)) in
      let far : a ≢ o = (λ s. let bad : true ≡ false = sym (eq-eqb o a (sym s)) ∙ there in cc) in
      nothing (object_at new.objects a) (y.sizes a far ∙ ap length (x.gone a before)))
      (cases_Bool (o == a))

  pub discards_more : Discards Q old new
  discards_more = record {
    sound = y.sound;
    gone = gone;
    entries = λ slots a i e. y.entries slots a i (unlike a i e) ∙ x.entries slots a i (parts a e).0;
    others = λ a i e. y.others a i (unlike a i e) ∙ x.others a i (parts a e).0;
    places = λ a i e. y.places a i (unlike a i e) ∙ x.places a i (parts a e).0;
    touches = touches_on (λ a i. Q a) old mid new (touches_more (λ a i. P a) (λ a i. Q a) old mid (λ a i e. (parts a e).0) x.touches) (touches_more (is_object o) (λ a i. Q a) mid new unlike y.touches);
    lent = λ f l. lasts_on old.frames mid.frames new.frames f (x.lent f l) (y.lent f (ap (λ (t : FrameTable). is_lent (counts_at t f)) x.frames ∙ l));
    systems = λ f. y.systems f ∙ x.systems f;
    sizes = λ a e. y.sizes a (other a e) ∙ x.sizes a (parts a e).0;
    frames = y.frames ∙ ap (λ (t : FrameTable). record t { owners = new.frames.owners }) x.frames;
    number = y.number ∙ x.number;
    slots = y.slots ∙ x.slots;
    fewer = omega (arith, x.fewer, y.fewer);
    most = y.most ∙ x.most;
  }

or_false : (b : Bool) → (b || false) ≡ b
or_false true = refl
or_false false = refl

any_append : (q : Region → Bool) (xs ys : List Region) → list_any q (xs ++ ys) ≡ (list_any q xs || list_any q ys)
any_append q [] ys = refl
any_append q (x ∷ xs) ys = elim (q x) as (λ b. (b || list_any q (xs ++ ys)) ≡ ((b || list_any q xs) || list_any q ys)) [ true ↦ refl | false ↦ any_append q xs ys ]

any_next : (q : Region → Bool) (xs : List Region) (i : ℕ) (x : Region) → slice_get xs i ≡ Some x → list_any q (take (i + 1) xs) ≡ (list_any q (take i xs) || q x)
any_next q xs i x at =
    let got = got_at xs i x x at in
    ap (list_any q) (take_more xs i x got.0) ∙ any_append q (take i xs) (get_or xs i x ∷ []) ∙ ap (λ b. list_any q (take i xs) || b) (or_false (q (get_or xs i x)) ∙ ap q got.1)

pub discards_next : (regions : List Region) (i : ℕ) (r : Region) (old mid new : Memory) → slice_get regions i ≡ Some r → Discards (λ o. list_any (has_object o) (take i regions)) old mid → Removes r.object.0 mid new → Discards (λ o. list_any (has_object o) (take (i + 1) regions)) old new
discards_next regions i r old mid new at x y = discards_more (λ o. list_any (has_object o) (take i regions)) (λ o. list_any (has_object o) (take (i + 1) regions)) r.object.0 old mid new (λ a. any_next (has_object a) regions i r at) x y

pub discards_all : (regions : List Region) (i : ℕ) (old new : Memory) → length regions ≤ i → Discards (λ o. list_any (has_object o) (take i regions)) old new → Discards (λ o. list_any (has_object o) regions) old new
discards_all regions i old new all x = subst (λ l. Discards (λ o. list_any (has_object o) l) old new) (take_all i regions all) x

none_before : (regions : List Region) (n : ℕ) (o : ℕ) → ((j : ℕ) (d : Region) → j < n → j < length regions → (get_or regions j d).object.0 ≢ o) → list_any (has_object o) (take n regions) ≡ false
none_before regions zero o h = refl
none_before [] (suc n) o h = refl
none_before (r ∷ regions) (suc n) o h =
    let first = h 0 r (omega arith) (omega arith) in
    let fails : (r.object.0 == o) ≡ false = grind (arith, rules, first) in
    ap (λ b. b || list_any (has_object o) (take n regions)) fails ∙ none_before regions n o (λ j d l m. h (suc j) d (omega (arith, l)) (omega (arith, m)))

-- the next object is there still
pub object_there : (regions : List Region) (i : ℕ) (r : Region) (old mid : Memory) → All (λ (x : Region). object_at old.objects x.object.0 ≢ []) regions → AllPairs (λ (a b : Region). a.object.0 ≢ b.object.0) regions → slice_get regions i ≡ Some r → Discards (λ o. list_any (has_object o) (take i regions)) old mid → object_at mid.objects r.object.0 ≢ []
object_there regions i r old mid there differ at x e =
    let got = got_at regions i r r at in
    let fresh : list_any (has_object r.object.0) (take i regions) ≡ false = none_before regions i r.object.0 (λ j d l m s. differ j i d l got.0 (s ∙ (λ k. (sym (got_at regions i r d at).1 k).object.0))) in
    let was : object_at old.objects r.object.0 ≢ [] = subst (λ (k : Region). object_at old.objects k.object.0 ≢ []) got.1 (there i r got.0) in
    was (nothing (object_at old.objects r.object.0) (sym (x.sizes r.object.0 fresh) ∙ ap length e))
