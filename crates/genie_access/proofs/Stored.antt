-- Bytes stored in the pages of an object.
use Rattle.std.proofs.Common.{◌≡◌, ◌≢◌, ℕ, zero, suc, ◌+◌, ◌-◌, ◌*◌, ◌/◌, ◌%◌, ◌<◌, ◌≤◌, true, false, List, [], ◌∷◌, ◌++◌, length, take, drop, refl, sym, ap, subst, arith, ◌∙◌, length-drop}
use Rattle.std.specs.Prelude.{Option, Some, None, IfSome, flat_map, ◌==◌}
use Rattle.std.specs.List.{range_with_len}
use Rattle.std.proofs.lemmas.Nat.{mod_below}
use Rattle.genie_base.specs.Bytes.{overlaid}
use Rattle.genie_frame.specs.declared.frame.FrameId.{FrameId}
use Rattle.genie_frame.specs.declared.frame.Meters.{Meters}
use Rattle.genie_frame.specs.FrameTable.{FrameTable}
use Rattle.genie_frame.specs.Frames.{more_written, stored}
use Rattle.genie_store.specs.StoreView.{StoreView}
use Rattle.genie_object.specs.declared.memory.Memory.{Memory}
use Rattle.genie_object.specs.declared.pages.PageInfo.{PageInfo}
use Rattle.genie_object.specs.Calls.{OnlyMoves}
use Rattle.genie_object.specs.Costs.{AreBelow, Spends, write_work}
use Rattle.genie_object.specs.Keeping.{IsReady}
use Rattle.genie_object.specs.Memory.{Seen, seen, see_entry}
use Rattle.genie_object.specs.Objects.{object_at, entry_at}
use Rattle.genie_object.specs.Sound.{IsSound, strong_at}
use Rattle.genie_object.specs.Touching.{IsOutside, is_entry}
use Rattle.genie_object.specs.declared.pages.PageId.{PageId}
use Rattle.genie_object.specs.Lemmas.Lookup.{frame_known}
use Rattle.genie_object.specs.Lemmas.Naming.{named_once}
use Rattle.genie_object.specs.Lemmas.Showing.{shows_stored, shows_same, keeps_sound}
use Rattle.genie_object.specs.Lemmas.Spending.{below_spent}
use Rattle.genie_object.specs.Lemmas.Touching.{sound_metered}
use Rattle.genie_object.specs.Lemmas.Works.{below_more, page_most, write_most}
use Rattle.genie_plan.specs.Lemmas.Ending.{same_test, other_test}
use Rattle.genie_plan.specs.Lemmas.Laid.{overlaid-left, overlaid-right}
use Rattle.genie_kernel.specs.Regions.{object_bytes}
use Rattle.genie_access.specs.Storing.{ShowsStored, Stores, WritesObject}
use Rattle.genie_access.proofs.Joined.{HasPages, bytes_size, moves_object, moves_twice, first_inside, next_inside, place_split}
use Rattle.genie_access.proofs.Pieces.{if_told}

same_rest : (f h : ℕ → List ℕ) (a n : ℕ) → ((k : ℕ) → a ≤ k → h k ≡ f k) → flat_map h (range_with_len a n) ≡ flat_map f (range_with_len a n)
same_rest f h a zero e = refl
same_rest f h a (suc n) e =
    let one = e a (omega arith) in
    let rest = same_rest f h (a + 1) n (λ k l. e k (omega (arith, l))) in
    λ k. one k ++ rest k

-- bytes that are stored in one of several pages
stored_in : (f h : ℕ → List ℕ) (page x : ℕ) (new : List ℕ) (a i n : ℕ) → ((k : ℕ) → k ≢ a + i → h k ≡ f k) → h (a + i) ≡ overlaid x new (f (a + i)) → ((k : ℕ) → length (f k) ≡ page) → x + length new ≤ page → i < n → flat_map h (range_with_len a n) ≡ overlaid (page * i + x) new (flat_map f (range_with_len a n))
stored_in f h page x new a i zero other here size fits l = absurd (omega (arith, l))
stored_in f h page x new a zero (suc n) other here size fits l =
    let start : a + 0 ≡ a = omega arith in
    let one : h a ≡ overlaid x new (f a) = subst (λ k. h k ≡ overlaid x new (f k)) start here in
    let rest = same_rest f h (a + 1) n (λ k w. other k (λ e. absurd (omega (arith, w, e)))) in
    let place : x ≡ page * 0 + x = omega arith in
    (λ k. one k ++ rest k) ∙ sym (overlaid-left x new (f a) (flat_map f (range_with_len (a + 1) n)) (omega (arith, fits, size a))) ∙ ap (λ y. overlaid y new (f a ++ flat_map f (range_with_len (a + 1) n))) place
stored_in f h page x new a (suc i) (suc n) other here size fits l =
    let next : a + suc i ≡ a + 1 + i = omega arith in
    let one : h a ≡ f a = other a (λ e. absurd (omega (arith, e))) in
    let rest = stored_in f h page x new (a + 1) i n (λ k w. other k (λ e. w (e ∙ next))) (subst (λ k. h k ≡ overlaid x new (f k)) next here) size fits (omega (arith, l)) in
    let step : page * suc i ≡ page + page * i = grind arith in
    (λ k. one k ++ rest k) ∙ sym (overlaid-right (page * i + x) (page * suc i + x) new (f a) (flat_map f (range_with_len (a + 1) n)) (omega (arith, size a, step)))

-- bytes that go on where others ended
overlaid_next : (x y : ℕ) (a b old : List ℕ) → y ≡ x + length a → overlaid y b (overlaid x a old) ≡ overlaid x (a ++ b) old
overlaid_next x y a b [] e = refl
overlaid_next zero y [] b (o ∷ old) e = let same : y ≡ 0 = omega arith in ap (λ n. overlaid n b (o ∷ old)) same
overlaid_next zero y (c ∷ a) b (o ∷ old) e =
    let same : y ≡ suc (length a) = omega arith in
    let rest = overlaid_next zero (length a) a b old (omega arith) in
    ap (λ n. overlaid n b (c ∷ overlaid zero a old)) same ∙ ap (λ l. c ∷ l) rest
overlaid_next (suc x) y a b (o ∷ old) e =
    let same : y ≡ suc (x + length a) = omega arith in
    let rest = overlaid_next x (x + length a) a b old refl in
    ap (λ n. overlaid n b (o ∷ overlaid x a old)) same ∙ ap (λ l. o ∷ l) rest

entry_same : (s : Seen) (o i : ℕ) (b : List ℕ) → (see_entry s o i b).entry_bytes o i ≡ b
entry_same s o i b = let a : (o == o) ≡ true = same_test o o refl in let d : (i == i) ≡ true = same_test i i refl in rw (a, d) refl

entry_else : (s : Seen) (o i k : ℕ) (b : List ℕ) → k ≢ i → (see_entry s o i b).entry_bytes o k ≡ s.entry_bytes o k
entry_else s o i k b n = let a : (o == o) ≡ true = same_test o o refl in let d : (k == i) ≡ false = other_test k i n in rw (a, d) refl

object_else : (s : Seen) (o i c d : ℕ) (b : List ℕ) → c ≢ o → (see_entry s o i b).entry_bytes c d ≡ s.entry_bytes c d
object_else s o i c d b n = let a : (c == o) ≡ false = other_test c o n in rw a refl

-- bytes stored in one page, in those of the object
shown_one : (s t : Seen) (o q n page x off : ℕ) (bytes : List ℕ) → t ≡ see_entry s o q (overlaid x bytes (s.entry_bytes o q)) → ((k : ℕ) → length (s.entry_bytes o k) ≡ page) → off ≡ page * q + x → x + length bytes ≤ page → q < n → ShowsStored s t o n off bytes
shown_one s t o q n page x off bytes e size place fits l =
    let put : List ℕ = overlaid x bytes (s.entry_bytes o q) in
    let start : 0 + q ≡ q = omega arith in
    let one = stored_in (s.entry_bytes o) ((see_entry s o q put).entry_bytes o) page x bytes 0 q n
    (λ k w. entry_else s o q k put (λ d. w (d ∙ sym start)))
    (subst (λ k. (see_entry s o q put).entry_bytes o k ≡ overlaid x bytes (s.entry_bytes o k)) (sym start) (entry_same s o q put))
    size fits l in
    record {
      range = ap (λ (y : Seen). object_bytes y.entry_bytes o n) e ∙ one ∙ ap (λ y. overlaid y bytes (object_bytes s.entry_bytes o n)) (sym place);
      others = λ a b ne. ap (λ (y : Seen). y.entry_bytes a b) e ∙ object_else s o q a b put ne;
      kept = ap (λ (y : Seen). y.kept_bytes) e;
    }

shown_two : (s t u : Seen) (o n off next : ℕ) (a b : List ℕ) → ShowsStored s t o n off a → ShowsStored t u o n next b → next ≡ off + length a → ShowsStored s u o n off (a ++ b)
shown_two s t u o n off next a b x y e = record {
  range = y.range ∙ ap (overlaid next b) x.range ∙ overlaid_next off next a b (object_bytes s.entry_bytes o n) e;
  others = λ c d ne. y.others c d ne ∙ x.others c d ne;
  kept = y.kept ∙ x.kept;
}

-- what a store in a ready page leaves
record Puts (old : Memory) (t : FrameTable) (o i x : ℕ) (bytes : List ℕ) : Type 0 where
  only : t ≡ record (old.frames) { bytes = t.bytes; meters = t.meters }
  sound : IsSound (record old { frames = t })
  shows : (slots : ℕ → List ℕ) → seen (record old { frames = t }) slots ≡ see_entry (seen old slots) o i (overlaid x bytes ((seen old slots).entry_bytes o i))

pub ready_there : (m : Memory) (o i : ℕ) (f : FrameId) → IsSound m → IsReady m o i f → f.0 < length m.frames.owners
ready_there m o i f s r = frame_known m r.number.0 f s r.is_place

put_here : (m : Memory) (o i x n : ℕ) (f : FrameId) (bytes : List ℕ) → IsSound m → IsReady m o i f → Puts m (more_written (stored m.frames f.0 x bytes) n) o i x bytes
put_here m o i x n f bytes s r =
    let t = more_written (stored m.frames f.0 x bytes) n in
    let mid = record m { frames = stored m.frames f.0 x bytes } in
    record {
      only = refl;
      sound = sound_metered mid t.meters (keeps_sound m f.0 x bytes s (ready_there m o i f s r));
      shows = λ slots. ap (λ (g : (ℕ → List ℕ) → Seen). g slots) (shows_same mid (record m { frames = t }) refl refl refl refl refl refl) ∙ shows_stored m o i f x bytes slots s r;
    }

put_at : (m : Memory) (o i x n : ℕ) (f : FrameId) (bytes : List ℕ) (t : FrameTable) → t ≡ more_written (stored m.frames f.0 x bytes) n → IsSound m → IsReady m o i f → Puts m t o i x bytes
put_at m o i x n f bytes t e s r = subst (λ z. Puts m z o i x bytes) (sym e) (put_here m o i x n f bytes s r)

-- a page stays ready while another is stored in
ready_put : (m : Memory) (t : FrameTable) (o i j x : ℕ) (g : FrameId) (bytes : List ℕ) → Puts m t o i x bytes → IsReady m o j g → IsReady (record m { frames = t }) o j g
ready_put m t o i j x g bytes p r = subst (λ z. IsReady (record m { frames = z }) o j g) (sym p.only) (record { number = r.number; is_page = r.is_page; is_place = r.is_place; alone = r.alone; unlent = r.unlent })

other_entry : (o i j : ℕ) → i ≢ j → is_entry o j o i ≡ false
other_entry o i j n = let d : (i == j) ≡ false = other_test i j n in let a : (o == o) ≡ true = same_test o o refl in rw (a, d) refl

named_page : (p : Option PageId) (q : PageId) → elim p [ None ↦ false | Some r ↦ r.0 == q.0 ] ≡ true → p ≡ Some q
named_page None q e = absurd (cc)
named_page (Some r) q e = let same : r.0 ≡ q.0 = grind (arith, e) in λ k. Some (record { 0 = same k })

not_spoken : (o i j c d : ℕ) → i ≢ j → (c ≡ o) × (d ≡ i) → is_entry o j c d ≡ false
not_spoken o i j c d n e = subst (λ z. is_entry o j z d ≡ false) (sym e.0) (subst (λ z. is_entry o j o z ≡ false) (sym e.1) (other_entry o i j n))

-- and while another is resolved
pub ready_stays : (old new : Memory) (v w : StoreView) (o i j : ℕ) (f : FrameId) → IsSound old → IsReady old o i f → OnlyMoves (is_entry o j) old new v w → i ≢ j → IsReady new o i f
ready_stays old new v w o i j f s r x n =
    let out : IsOutside (is_entry o j) old r.number.0 = record {
      there = omega (arith, r.alone);
      named = λ c d e. not_spoken o i j c d n (named_once old.pages.pages old.objects c d o i r.number s.shared r.alone (named_page (entry_at old.objects c d).page r.number e) r.is_page);
    } in
    let same = x.touches.pages r.number.0 out in
    record {
      number = r.number;
      is_page = (x.touches.entries o i (other_entry o i j n)).page ∙ r.is_page;
      is_place = ap (λ (q : PageInfo). q.place) same ∙ r.is_place;
      alone = ap (λ (q : PageInfo). q.shares) same ∙ r.alone;
      unlent = ap (λ c. strong_at c f.0) x.counts ∙ r.unlent;
    }

pub taken_size : (n : ℕ) (l : List ℕ) → n ≤ length l → length (take n l) ≡ n
taken_size zero l h = refl
taken_size (suc n) [] h = absurd (omega (arith, h))
taken_size (suc n) (x ∷ l) h = ap (λ z. suc z) (taken_size n l (omega (arith, h)))

take-drop-whole : (n : ℕ) (l : List ℕ) → l ≡ take n l ++ drop n l
take-drop-whole zero l = refl
take-drop-whole (suc n) [] = refl
take-drop-whole (suc n) (x ∷ l) = ap (λ z. x ∷ z) (take-drop-whole n l)

taken_all : (n : ℕ) (l : List ℕ) → length l ≤ n → take n l ≡ l
taken_all zero [] h = refl
taken_all zero (x ∷ l) h = absurd (omega (arith, h))
taken_all (suc n) [] h = refl
taken_all (suc n) (x ∷ l) h = ap (λ z. x ∷ z) (taken_all n l (omega (arith, h)))

-- a slice up to the end
pub taken_rest : (n : ℕ) (l : List ℕ) → take (length l - n) (drop n l) ≡ drop n l
taken_rest n l = let size = length-drop n l in taken_all (length l - n) (drop n l) (omega (arith, size))

-- bytes that end in the first page
pub wrote_one : (old mid : Memory) (v w : StoreView) (o off p n first : ℕ) (f : FrameId) (bytes : List ℕ) (t : FrameTable) (count : ℕ) → p ≡ old.frames.page → n ≡ length bytes → 1 ≤ length bytes → length bytes ≤ old.frames.page → off + length bytes ≤ old.frames.page * length (object_at old.objects o) → first ≤ p - off % p → first ≡ n → IfSome w.slots (HasPages w) → OnlyMoves (is_entry o (off / p)) old mid v w → IsReady mid o (off / p) f → t ≡ more_written (stored mid.frames f.0 (off % p) bytes) count → WritesObject old (record mid { frames = t }) v w o off bytes
wrote_one old mid v w o off p n first f bytes t count e len some most inside low same told x r is =
    let pos : 0 < p = omega (arith, e, some, most) in
    let below = mod_below off p pos in
    let page : mid.frames.page ≡ old.frames.page = x.keeps.page in
    let paged : p ≡ mid.frames.page = e ∙ sym page in
    let entries : length (object_at mid.objects o) ≡ length (object_at old.objects o) = x.keeps.entries o in
    let place = place_split off p mid.frames.page paged pos in
    let within : off / p < length (object_at mid.objects o) = subst (λ z. off / p < z) (sym entries) (subst (λ z. off / z < length (object_at old.objects o)) (sym e) (first_inside off old.frames.page (length bytes) (length (object_at old.objects o)) (omega (arith, some, most)) some inside)) in
    let puts = put_at mid o (off / p) (off % p) count f bytes t is x.sound r in
    record {
      mid = mid;
      moves = moves_object o (off / p) old mid v w x;
      stores = record {
        only = λ i. record mid { frames = puts.only i };
        sound = puts.sound;
        shows = if_told w.slots (HasPages w) (λ slots. ShowsStored (seen mid slots) (seen (record mid { frames = t }) slots) o (length (object_at mid.objects o)) off bytes) (λ slots h. shown_one (seen mid slots) (seen (record mid { frames = t }) slots) o (off / p) (length (object_at mid.objects o)) mid.frames.page (off % p) off bytes (puts.shows slots) (λ k. bytes_size mid w slots (entry_at mid.objects o k).page x.sound x.sized.count x.sized.page h) place (omega (arith, low, same, len, below, paged)) within) told;
      };
    }

module _ (mid : Memory) (w : StoreView) (o q page x off next n1 n2 : ℕ) (f g : FrameId) (a b : List ℕ) (t u : FrameTable) where
  abbrev m1 : Memory
  m1 = record mid { frames = t }

  abbrev m2 : Memory
  m2 = record mid { frames = u }

  two_stored : IsSound mid → w.count ≡ length mid.slots → w.page ≡ mid.frames.page → page ≡ mid.frames.page → IfSome w.slots (HasPages w) → IsReady mid o q f → IsReady mid o (q + 1) g → t ≡ more_written (stored mid.frames f.0 x a) n1 → u ≡ more_written (stored t g.0 0 b) n2 → off ≡ page * q + x → x + length a ≤ page → next ≡ off + length a → next ≡ page * (q + 1) + 0 → 0 + length b ≤ page → q + 1 < length (object_at mid.objects o) → Stores mid m2 w o off (a ++ b)
  two_stored s count sized paged told rf rg et eu place fits goes start fits' inside =
      let one = put_at mid o q x n1 f a t et s rf in
      let two = put_at m1 o (q + 1) 0 n2 g b u eu one.sound (ready_put mid t o q (q + 1) x g a one rg) in
      let same : t.page ≡ mid.frames.page = ap (λ (y : FrameTable). y.page) one.only in
      record {
        only = λ i. record mid { frames = (two.only ∙ (λ j. record (one.only j) { bytes = u.bytes; meters = u.meters })) i };
        sound = two.sound;
        shows = if_told w.slots (HasPages w) (λ slots. ShowsStored (seen mid slots) (seen m2 slots) o (length (object_at mid.objects o)) off (a ++ b)) (λ slots h.
            shown_two (seen mid slots) (seen m1 slots) (seen m2 slots) o (length (object_at mid.objects o)) off next a b
            (shown_one (seen mid slots) (seen m1 slots) o q (length (object_at mid.objects o)) page x off a (one.shows slots) (λ k. bytes_size mid w slots (entry_at mid.objects o k).page s count sized h ∙ sym paged) place fits (omega (arith, inside)))
            (shown_one (seen m1 slots) (seen m2 slots) o (q + 1) (length (object_at mid.objects o)) page 0 next b (two.shows slots) (λ k. bytes_size m1 w slots (entry_at mid.objects o k).page one.sound count (sized ∙ sym same) h ∙ same ∙ sym paged) start fits' inside)
            goes) told;
      }

-- bytes that go on in the next page
pub wrote_two : (old one mid : Memory) (u v w : StoreView) (o off p n first : ℕ) (f g : FrameId) (bytes a b : List ℕ) (t s : FrameTable) (n1 n2 : ℕ) → p ≡ old.frames.page → n ≡ length bytes → 1 ≤ length bytes → length bytes ≤ old.frames.page → off + length bytes ≤ old.frames.page * length (object_at old.objects o) → first ≡ p - off % p → first < n → IfSome w.slots (HasPages w) → OnlyMoves (is_entry o (off / p)) old one u v → IsReady one o (off / p) f → OnlyMoves (is_entry o (off / p + 1)) one mid v w → IsReady mid o (off / p + 1) g → a ≡ take first bytes → b ≡ drop first bytes → t ≡ more_written (stored mid.frames f.0 (off % p) a) n1 → s ≡ more_written (stored t g.0 0 b) n2 → WritesObject old (record mid { frames = s }) u w o off bytes
wrote_two old one mid u v w o off p n first f g bytes a b t s n1 n2 e len some most inside low less told x rf y rg ea eb et es =
    let pos : 0 < p = omega (arith, e, some, most) in
    let below = mod_below off p pos in
    let page : mid.frames.page ≡ old.frames.page = y.keeps.page ∙ x.keeps.page in
    let paged : p ≡ mid.frames.page = e ∙ sym page in
    let entries : length (object_at mid.objects o) ≡ length (object_at old.objects o) = y.keeps.entries o ∙ x.keeps.entries o in
    let place = place_split off p p refl pos in
    let size_a : length a ≡ first = ap length ea ∙ taken_size first bytes (omega (arith, less, len)) in
    let size_b : length b ≡ length bytes - first = ap length eb ∙ length-drop first bytes in
    let more : p * (off / p + 1) ≡ p * (off / p) + p = grind arith in
    let goes : p - off % p < length bytes = omega (arith, low, less, len) in
    let past : old.frames.page - off % old.frames.page < length bytes = subst (λ z. z - off % z < length bytes) e goes in
    let within : off / p + 1 < length (object_at mid.objects o) = subst (λ z. off / p + 1 < z) (sym entries) (subst (λ z. off / z + 1 < length (object_at old.objects o)) (sym e) (next_inside off old.frames.page (length bytes) (length (object_at old.objects o)) (omega (arith, some, most)) inside past)) in
    let whole : a ++ b ≡ bytes = (λ i. ea i ++ eb i) ∙ sym (take-drop-whole first bytes) in
    record {
      mid = mid;
      moves = moves_twice o (off / p) (off / p + 1) old one mid u v w x y;
      stores = subst (λ z. Stores mid (record mid { frames = s }) w o off z) whole (two_stored mid w o (off / p) p (off % p) off (off + first) n1 n2 f g a b t s y.sound y.sized.count y.sized.page paged told (ready_stays one mid v w o (off / p) (off / p + 1) f x.sound rf y (λ c. absurd (omega (arith, c)))) rg et es place (omega (arith, size_a, low, below)) (omega (arith, size_a)) (omega (arith, low, place, below, more)) (omega (arith, size_b, most, e)) within);
    }

-- the meters still have room for stored bytes
pub meters_on : (n b g : ℕ) (old new : Meters) → AreBelow n old → Spends b g 0 1 old new → b ≤ 4096 → g ≤ 1 → AreBelow (n + 8192) new
meters_on n b g old new below s lb lg = below_more (n + b + g + 0 + 1) (n + 8192) new (omega (arith, lb, lg)) (below_spent n b g 0 1 old new below s)

-- it costs a page at most to write in an entry
pub write_small : (m : Memory) (o i : ℕ) → IsSound m → write_work m o i ≤ 4096
write_small m o i s = let most = page_most m.frames.page s.shaped.size in omega (arith, write_most m o i, most)

-- what a store leaves of the table
pub there_put : (t u : FrameTable) (f x n : ℕ) (b : List ℕ) → t ≡ more_written (stored u f x b) n → length t.owners ≡ length u.owners
there_put t u f x n b e = ap (λ (z : FrameTable). length z.owners) e

pub meter_put : (t u : FrameTable) (f x n : ℕ) (b : List ℕ) → t ≡ more_written (stored u f x b) n → t.meters.written ≡ u.meters.written + n
meter_put t u f x n b e = ap (λ (z : FrameTable). z.meters.written) e
