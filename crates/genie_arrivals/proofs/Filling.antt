-- An object was filled.
use Rattle.std.proofs.Common.{◌≡◌, ◌≢◌, ℕ, false, List, [], ◌∷◌, refl, sym, ap, arith, ◌∙◌, length}
use Rattle.genie_object.specs.declared.memory.Memory.{Memory}
use Rattle.genie_object.specs.declared.objects.Entry.{Entry}
use Rattle.genie_object.specs.Memory.{Seen, frame_of}
use Rattle.genie_object.specs.Objects.{object_at}
use Rattle.genie_object.specs.Lemmas.Touching.{touches_more, touches_on}
use Rattle.genie_plan.specs.Landings.{entries_bytes}
use Rattle.genie_arrivals.specs.Clearing.{ClearsObject, FillsObject, Forbids, NarrowsAll}
use Rattle.genie_arrivals.specs.Stored.{StoresBuffer}
use Rattle.genie_arrivals.proofs.Forbidding.{all_forbidden, narrowed_seen, narrowed_sound, narrowed_touches, with_entries}

narrowed : (old mid : Memory) (os : List (List Entry)) (o off len : ℕ) (frames : List ℕ) → StoresBuffer old mid o off len frames → NarrowsAll mid.objects os → StoresBuffer old (with_entries mid os) o off len frames
narrowed old mid os o off len frames x h = record {
  sound = narrowed_sound mid os h x.sound;
  shows = λ slots paged.
      let y = x.shows slots paged in
      let same = narrowed_seen mid os h slots in
      record {
        range = λ pages within. ap (λ (s : Seen). entries_bytes s o 0 pages) same ∙ y.range pages within;
        objects = λ a b ne. ap (λ (s : Seen). s.entry_bytes a b) same ∙ y.objects a b ne;
        others = λ f e. ap (λ (s : Seen). s.kept_bytes f) same ∙ y.others f e;
      };
  ended = x.ended;
  unowned = x.unowned;
  keeps = record {
    entry_held = λ a b f e held. ap (frame_of mid.pages.pages) (h.narrows a b).page ∙ x.keeps.entry_held a b f e held;
    counts = x.keeps.counts;
    lent = x.keeps.lent;
    systems = x.keeps.systems;
    entries = λ a. h.sizes a ∙ x.keeps.entries a;
    number = x.keeps.number;
    page = x.keeps.page;
    slots = x.keeps.slots;
    most = x.keeps.most;
  };
  touches = touches_on _ old mid (with_entries mid os) x.touches (touches_more (λ a b. false) _ mid (with_entries mid os) (λ a b e. refl) (narrowed_touches mid os h));
  rises = x.rises;
}

pub object_filled : (old clear mid : Memory) (os : List (List Entry)) (o len n : ℕ) (frames : List ℕ) → ClearsObject old clear o → StoresBuffer clear mid o 0 len frames → n ≡ length (object_at mid.objects o) → Forbids o n mid.objects os → FillsObject old (with_entries mid os) o len frames
object_filled old clear mid os o len n frames c x size h = record {
  clear = clear;
  clears = c;
  stores = narrowed clear mid os o 0 len frames x h.all;
  shut = all_forbidden o n mid.objects os size h;
}

pub still_there : (old new : List (List Entry)) (o : ℕ) → length (object_at new o) ≡ length (object_at old o) → object_at old o ≢ [] → object_at new o ≢ []
still_there old new o size there none = there (empty_list (object_at old o) (sym size ∙ ap length none))
  where
    empty_list : (xs : List Entry) → length xs ≡ 0 → xs ≡ []
    empty_list [] e = refl
    empty_list (x ∷ xs) e = absurd (omega (arith, e))
